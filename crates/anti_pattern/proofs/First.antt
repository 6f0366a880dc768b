-- What the search lists are the satisfying assignments in order, from the first on; run lengths tell satisfying assignments apart.
use Prim.Native.Nat.{ℕ, zero}
use mathlib.Core.Path.{◌≡◌, refl, sym, ◌∙◌, ap, ap₂, subst}
use mathlib.Core.Logic.{◌⊎◌, inl, inr}
use mathlib.Core.List.{List, [], ◌∷◌, map}
use mathlib.Core.Bool.{Bool, true, false, cond}
use native.Mathlib.Omega.{arith}
use lib.Dec.{eqb}
use Rattle.term.specs.Pattern.{Pattern, name, symbol, complement, Children, end, plain, run}
use Rattle.term.specs.Term.{Term, node, Terms, nil, ◌::◌, ◌⧺◌, count, single}
use Rattle.anti_pattern.specs.Demands.{First, Unsatisfied, Enumerates, assignments}
use Rattle.anti_pattern.specs.Language.{Language, TermOf, TermsOf, ◌⊢◌≋◌}
use Rattle.anti_pattern.specs.Meaning.{Assignment, unassigned, ExtendsAt, Extends, Holds, HoldAll, Satisfies, OneAt, CountAsOne}
use Rattle.anti_pattern.specs.Order.{length_of, All, Member, Ascending, run_lengths, Smaller}
use Rattle.anti_pattern.specs.Search.{Env, start, Answers, found, failed, first_answer, answers, Tries, freely, finish, search, whole}
use Rattle.anti_pattern.specs.Variables.{vars, vars_all, free, among, runs, runs_all, without, firsts, free_runs}
use Rattle.anti_pattern.proofs.Correct.{Before, Permitted, Candidate, values, NamesMay, freely_may, level_lists}
use borrow.Author.Tests.{eqb-true}
use Rattle.term.proofs.SameParts.{same_counts}
use Rattle.anti_pattern.proofs.Alike.{single_same, some_one, term_sym, term_trans, run_sym, run_trans, one_refl, one_sym, one_length}
use Rattle.anti_pattern.proofs.Facts.{head_same, tail_same, none_some}
use Rattle.anti_pattern.proofs.Listed.{all_map, all_member, ascending_map}
use Rattle.std.specs.Prelude.{Option, Some, None}

before_without : (v : ℕ) (vs : List ℕ) (a b : Assignment) → length_of (a v) ≡ length_of (b v) → Before vs a b → Before (without v vs) a b
before_without v [] a b e p = p
before_without v (u ∷ us) a b e p = go (eqb v u) refl (before_without v us a b e) p
  where
    go : (m : Bool) → eqb v u ≡ m → (Before us a b → Before (without v us) a b) → Before (u ∷ us) a b
        → Before (cond m (without v us) (u ∷ without v us)) a b
    go true h f (inl p) =
        let i : length_of (a u) ≡ length_of (b u) = subst (λ (x : ℕ). length_of (a x) ≡ length_of (b x)) (eqb-true v u h) e in absurd (omega arith)
    go true h f (inr p) = f p.1
    go false h f (inl p) = inl p
    go false h f (inr p) = inr (p.0, f p.1)

before_firsts : (vs : List ℕ) (a b : Assignment) → Before vs a b → Before (firsts vs) a b
before_firsts [] a b p = p
before_firsts (v ∷ vs) a b (inl p) = inl p
before_firsts (v ∷ vs) a b (inr p) = inr (p.0, before_without v (firsts vs) a b p.0 (before_firsts vs a b p.1))

before_smaller : (vs : List ℕ) (a b : Assignment) → Before vs a b → Smaller (map (λ v. length_of (a v)) vs) (map (λ v. length_of (b v)) vs)
before_smaller [] a b p = p
before_smaller (v ∷ vs) a b (inl p) = inl p
before_smaller (v ∷ vs) a b (inr p) = inr (p.0, before_smaller vs a b p.1)

abbrev SameLengths : List ℕ → Assignment → Assignment → Type 0
SameLengths [] a b = Unit {0}
SameLengths (v ∷ vs) a b = (length_of (a v) ≡ length_of (b v)) × SameLengths vs a b

split_same : (w x us ys : Terms) → count w ≡ count x → w ⧺ us ≡ x ⧺ ys → (w ≡ x) × (us ≡ ys)
split_same nil nil us ys n e = (refl, e)
split_same nil (u :: x) us ys n e = absurd (omega arith)
split_same (t :: w) nil us ys n e = absurd (omega arith)
split_same (t :: w) (u :: x) us ys n e =
    let r = split_same w x us ys (omega arith) (tail_same e) in
    let i : t ≡ u = head_same e in let j : w ≡ x = r.0 in (cc, r.1)

same_without : (v : ℕ) (vs : List ℕ) (a b : Assignment) → length_of (a v) ≡ length_of (b v) → SameLengths (without v vs) a b → SameLengths vs a b
same_without v [] a b e s = tt
same_without v (u ∷ us) a b e s = go (eqb v u) refl (same_without v us a b e) s
  where
    go : (m : Bool) → eqb v u ≡ m → (SameLengths (without v us) a b → SameLengths us a b)
        → SameLengths (cond m (without v us) (u ∷ without v us)) a b → SameLengths (u ∷ us) a b
    go true h f s = (subst (λ (x : ℕ). length_of (a x) ≡ length_of (b x)) (eqb-true v u h) e, f s)
    go false h f s = (s.0, f s.1)

same_firsts : (vs : List ℕ) (a b : Assignment) → SameLengths (firsts vs) a b → SameLengths vs a b
same_firsts [] a b s = tt
same_firsts (v ∷ vs) a b s = (s.0, same_firsts vs a b (same_without v (firsts vs) a b s.0 s.1))

same_map : (vs : List ℕ) (a b : Assignment) → map (λ v. length_of (a v)) vs ≡ map (λ v. length_of (b v)) vs → SameLengths vs a b
same_map [] a b e = tt
same_map (v ∷ vs) a b e = (cc, same_map vs a b (cc))

pub smaller_once : (xs ys : List ℕ) → Smaller xs ys → Smaller ys xs → ⊥
smaller_once [] ys h k = h
smaller_once (x ∷ xs) [] h k = h
smaller_once (x ∷ xs) (y ∷ ys) (inl h) (inl k) = omega arith
smaller_once (x ∷ xs) (y ∷ ys) (inl h) (inr k) = omega (arith, k.0)
smaller_once (x ∷ xs) (y ∷ ys) (inr h) (inl k) = omega (arith, h.0)
smaller_once (x ∷ xs) (y ∷ ys) (inr h) (inr k) = smaller_once xs ys h.1 k.1

pub some_is : {A : Type 0} {x y : A} → Some x ≡ Some y → x ≡ y
some_is h = cc

pub none_is : {A : Type 0} {x : A} → None ≡ Some x → ⊥
none_is h = let z : ◌≡◌ {A = ℕ} 0 1 = cc in omega arith

module _ (l : Language) where
  -- the comparison at all places is the comparison at the run names' first places

  mutual
    before_runs : (q : Pattern) (a b : Assignment) (t u : Term) (vs ws : List ℕ) → Holds l (TermsOf l) q a t → Holds l (TermsOf l) q b u
        → (Before vs a b → Before ws a b) → Before (vars q vs) a b → Before (runs q ws) a b
    before_runs (name v) a b t u vs ws h k f (inl p) =
        let i : length_of (a v) ≡ 1 = ap length_of h.1 in let j : length_of (b v) ≡ 1 = ap length_of k.1 in absurd (omega arith)
    before_runs (name v) a b t u vs ws h k f (inr p) = f p.1
    before_runs (symbol s qs) a b (node r ts) (node r' us) vs ws h k f p = before_runs_all qs a b ts us vs ws h.1 k.1 f p
    before_runs (complement q) a b t u vs ws h k f p = f p

    before_runs_all : (qs : Children) (a b : Assignment) (ts us : Terms) (vs ws : List ℕ) → HoldAll l (TermsOf l) qs a ts → HoldAll l (TermsOf l) qs b us
        → (Before vs a b → Before ws a b) → Before (vars_all qs vs) a b → Before (runs_all qs ws) a b
    before_runs_all end a b ts us vs ws h k f p = f p
    before_runs_all (plain q qs) a b nil us vs ws h k f p = absurd h
    before_runs_all (plain q qs) a b (t :: ts) nil vs ws h k f p = absurd k
    before_runs_all (plain q qs) a b (t :: ts) (u :: us) vs ws h k f p =
        before_runs q a b t u (vars_all qs vs) (runs_all qs ws) h.0 k.0 (before_runs_all qs a b ts us vs ws h.1 k.1 f) p
    before_runs_all (run v qs) a b ts us vs ws h k f (inl p) = inl p
    before_runs_all (run v qs) a b ts us vs ws h k f (inr p) = inr (p.0, before_runs_all qs a b h.2 k.2 vs ws h.6 k.6 f p.1)

  -- of two assignments under which the pattern holds, what is before at all places has the smaller run lengths
  before_first : (q : Pattern) (t : Term) (a b : Assignment) → Holds l (TermsOf l) q a t → Holds l (TermsOf l) q b t → Before (free q) a b → Smaller (run_lengths q a) (run_lengths q b)
  before_first q t a b h k p =
      before_smaller (free_runs q) a b (before_firsts (runs q []) a b (before_runs q a b t t [] [] h k (λ x. x) p))

  pub one_run_lengths : (q : Pattern) (a b : Assignment) → CountAsOne l a b → run_lengths q a ≡ run_lengths q b
  one_run_lengths q a b e = go (free_runs q)
    where
      go : (vs : List ℕ) → map (λ v. length_of (a v)) vs ≡ map (λ v. length_of (b v)) vs
      go [] = refl
      go (v ∷ vs) = ap₂ ◌∷◌ (one_length l (a v) (b v) (e v)) (go vs)

  pub smaller_one : (q : Pattern) (a b c : Assignment) → CountAsOne l b c → Smaller (run_lengths q a) (run_lengths q b) → Smaller (run_lengths q a) (run_lengths q c)
  smaller_one q a b c e p = subst (Smaller (run_lengths q a)) (one_run_lengths q b c e) p

  pub one_smaller : (q : Pattern) (a b c : Assignment) → CountAsOne l a b → Smaller (run_lengths q a) (run_lengths q c) → Smaller (run_lengths q b) (run_lengths q c)
  one_smaller q a b c e p = subst (λ (x : List ℕ). Smaller x (run_lengths q c)) (one_run_lengths q a b e) p

  -- a list of all satisfying assignments in order starts with the first; an empty one says that none satisfies
  pub enumerates_first : (q : Pattern) (t : Term) (a : Assignment) (bs : List Assignment) → Enumerates l q t (a ∷ bs) → First l q t a
  enumerates_first q t a bs x = record { satisfies = x.satisfy.0; least = λ b s. let c = x.listed b s in go b c.0 c.1 c.2 }
    where
      go : (b c : Assignment) → Member c (a ∷ bs) → CountAsOne l c b → Smaller (run_lengths q a) (run_lengths q b) ⊎ CountAsOne l a b
      go b c (inl e) o = inr (subst (λ (y : Assignment). CountAsOne l y b) (sym e) o)
      go b c (inr m) o = inl (smaller_one q a c b o (all_member (λ y. Smaller (run_lengths q a) (run_lengths q y)) bs c x.ascending.0 m))

  pub enumerates_none : (q : Pattern) (t : Term) → Enumerates l q t [] → Unsatisfied l q t
  enumerates_none q t x = λ a s. (x.listed a s).1

  -- what a search that tries some lengths only lists: the satisfying assignments that have such lengths
  pub record EnumeratesBy (how : ℕ → Tries) (q : Pattern) (t : Term) (bs : List Assignment) : Type 0 where
    pub ascending : Ascending (λ a b. Smaller (run_lengths q a) (run_lengths q b)) bs
    pub satisfy : All (λ a. Satisfies l q t a × Permitted how a) bs
    pub listed : (a : Assignment) → Satisfies l q t a → Permitted how a → (b : Assignment) × Member b bs × CountAsOne l b a

  -- what the search of a whole pattern comes to

  module _ (q : Pattern) (t : Term) (g : TermOf l t) where
    pub enumerates_by : (how : ℕ → Tries) → NamesMay how q
        → EnumeratesBy how q t (values (search l.table l.classes how q t zero start [] finish).out)
    enumerates_by how may =
        let x = level_lists l how q may t g zero start (λ v w e. absurd (none_some e)) in
        let bs = values (search l.table l.classes how q t zero start [] finish).out in record {
          ascending = ascending_map (Candidate l how unassigned (free q) (λ b. Holds l (TermsOf l) q b t)) (Before (free q))
              (λ a b. Smaller (run_lengths q a) (run_lengths q b)) (λ b c s r p. before_first q t b c s.meets r.meets p) bs x.sound x.ordered;
          satisfy = all_map (Candidate l how unassigned (free q) (λ b. Holds l (TermsOf l) q b t)) (λ a. Satisfies l q t a × Permitted how a)
              (λ b s. (record { exact = s.extends; holds = s.meets }, s.permitted)) bs x.sound;
          listed = λ a s p. x.complete a (record { extends = s.exact; permitted = p; meets = s.holds });
        }

    pub enumerates : Enumerates l q t (assignments l q t)
    enumerates =
        let x = enumerates_by freely (freely_may q) in record {
          ascending = x.ascending;
          satisfy = all_map (λ a. Satisfies l q t a × Permitted freely a) (Satisfies l q t) (λ a s. s.0) (assignments l q t) x.satisfy;
          listed = λ a s. x.listed a s (λ v w e. tt);
        }

    pub answer_satisfies : (e : Env) → Member e (answers (whole l q t).out) → Satisfies l q t e.value
    answer_satisfies e m = go (answers (whole l q t).out) enumerates.satisfy m
      where
        go : (es : List Env) → All (Satisfies l q t) (map (λ f. f.value) es) → Member e es → Satisfies l q t e.value
        go [] s m = absurd m
        go (f ∷ es) s (inl p) = subst (λ (y : Env). Satisfies l q t y.value) p s.0
        go (f ∷ es) s (inr m) = go es s.1 m

    pub found_first : (e : Env) → first_answer (whole l q t).out ≡ Some e → First l q t e.value
    found_first e h = go (whole l q t).out h enumerates
      where
        go : (o : Answers) → first_answer o ≡ Some e → Enumerates l q t (values o) → First l q t e.value
        go (found f m o) h x = subst (λ (y : Env). First l q t y.value) (some_is h) (enumerates_first q t f.value (values o) x)
        go failed h x = absurd (none_is h)

    pub failed_none : first_answer (whole l q t).out ≡ None → Unsatisfied l q t
    failed_none h = go (whole l q t).out h enumerates
      where
        go : (o : Answers) → first_answer o ≡ None → Enumerates l q t (values o) → Unsatisfied l q t
        go (found f m o) h x = absurd (none_is (sym h))
        go failed h x = enumerates_none q t x

  -- equal lists of run lengths mean equal satisfying assignments

  abbrev Agree : List ℕ → Assignment → Assignment → Type 0
  Agree [] a b = Unit {0}
  Agree (v ∷ vs) a b = OneAt l (a v) (b v) × Agree vs a b

  mutual
    agree : (q : Pattern) (a b : Assignment) (t : Term) (vs ws : List ℕ) → Holds l (TermsOf l) q a t → Holds l (TermsOf l) q b t
        → (SameLengths ws a b → Agree vs a b) → SameLengths (runs q ws) a b → Agree (vars q vs) a b
    agree (name v) a b t vs ws h k f s =
        let i = term_trans l h.0 t k.0 h.2 (term_sym l k.0 t k.2) in
        (some_one l (a v) (b v) (single h.0) (single k.0) h.1 k.1 (single_same l h.0 k.0 i), f s)
    agree (symbol r qs) a b (node r' ts) vs ws h k f s = agree_all qs a b ts vs ws h.1 k.1 f s
    agree (complement q) a b t vs ws h k f s = f s

    agree_all : (qs : Children) (a b : Assignment) (ts : Terms) (vs ws : List ℕ) → HoldAll l (TermsOf l) qs a ts → HoldAll l (TermsOf l) qs b ts
        → (SameLengths ws a b → Agree vs a b) → SameLengths (runs_all qs ws) a b → Agree (vars_all qs vs) a b
    agree_all end a b ts vs ws h k f s = f s
    agree_all (plain q qs) a b nil vs ws h k f s = absurd h
    agree_all (plain q qs) a b (t :: ts) vs ws h k f s =
        agree q a b t (vars_all qs vs) (runs_all qs ws) h.0 k.0 (agree_all qs a b ts vs ws h.1 k.1 f) s
    agree_all (run v qs) a b ts vs ws h k f s =
        let e : count h.1 ≡ count k.1 =
        sym (ap length_of h.3 ∙ same_counts l.classes h.0 h.1 h.4) ∙ s.0
        ∙ ap length_of k.3 ∙ same_counts l.classes k.0 k.1 k.4 in
        let r = split_same h.1 k.1 h.2 k.2 e (sym h.5 ∙ k.5) in
        let i = run_trans l h.0 k.1 k.0 (subst (λ (x : Terms). l ⊢ h.0 ≋ x) r.0 h.4) (run_sym l k.0 k.1 k.4) in (
          some_one l (a v) (b v) h.0 k.0 h.3 k.3 i,
          agree_all qs a b k.2 vs ws (subst (λ (y : Terms). HoldAll l (TermsOf l) qs a y) r.1 h.6) k.6 f s.1,
        )

  agree_at : (vs : List ℕ) (a b : Assignment) (i : ℕ) → Agree vs a b → ExtendsAt (TermsOf l) None (among i vs) (a i) → ExtendsAt (TermsOf l) None (among i vs) (b i) → OneAt l (a i) (b i)
  agree_at [] a b i g x y = subst (λ (o : Option Terms). OneAt l (a i) o) (x ∙ sym y) (one_refl l (a i))
  agree_at (v ∷ vs) a b i g x y = go (eqb v i) refl x y (agree_at vs a b i g.1)
    where
      go : (m : Bool) → eqb v i ≡ m → ExtendsAt (TermsOf l) None (cond m true (among i vs)) (a i) → ExtendsAt (TermsOf l) None (cond m true (among i vs)) (b i)
          → (ExtendsAt (TermsOf l) None (among i vs) (a i) → ExtendsAt (TermsOf l) None (among i vs) (b i) → OneAt l (a i) (b i)) → OneAt l (a i) (b i)
      go true h x y f = subst (λ (j : ℕ). OneAt l (a j) (b j)) (eqb-true v i h) g.0
      go false h x y f = f x y

  pub equal_lengths : (q : Pattern) (t : Term) (a b : Assignment) → Satisfies l q t a → Satisfies l q t b → run_lengths q a ≡ run_lengths q b → CountAsOne l a b
  unfolding Extends
  equal_lengths q t a b h k e =
      let g : Agree (free q) a b = agree q a b t [] [] h.holds k.holds (λ s. tt) (same_firsts (runs q []) a b (same_map (free_runs q) a b e)) in
      λ i. agree_at (free q) a b i g (h.exact i) (k.exact i)

  -- there is one first

  pub one_first : (q : Pattern) (t : Term) (a b : Assignment) → First l q t a → First l q t b → CountAsOne l a b
  one_first q t a b f g = go (f.least b g.satisfies) (g.least a f.satisfies)
    where
      go : Smaller (run_lengths q a) (run_lengths q b) ⊎ CountAsOne l a b → Smaller (run_lengths q b) (run_lengths q a) ⊎ CountAsOne l b a → CountAsOne l a b
      go (inr e) k = e
      go (inl h) (inr e) = λ v. one_sym l (b v) (a v) (e v)
      go (inl h) (inl k) = absurd (smaller_once (run_lengths q a) (run_lengths q b) h k)
