-- The answers of the search are the assignments that satisfy the pattern, each counted once, in order.
use Prim.Native.Nat.{ℕ, zero, suc, ◌+◌, ◌<◌}
use mathlib.Core.Path.{◌≡◌, refl, sym, ◌∙◌, ap, ap₂, subst}
use mathlib.Core.Logic.{◌⊎◌, inl, inr}
use mathlib.Core.List.{List, [], ◌∷◌, ◌++◌, map}
use mathlib.Core.Bool.{Bool, true, false, cond, false≢true}
use native.Mathlib.Omega.{arith}
use lib.Dec.{eqb}
use Rattle.term.specs.Class.{class_of}
use Rattle.term.specs.Pattern.{Pattern, name, symbol, complement, Children, end, plain, run}
use Rattle.term.specs.Same.{same_terms}
use Rattle.term.specs.Table.{width}
use Rattle.term.specs.Term.{Term, node, Terms, nil, ◌::◌, ◌⧺◌, count, single, size, sizes}
use Rattle.anti_pattern.specs.Language.{Language, TermOf, TermsOf, ◌⊢◌≋◌}
use Rattle.anti_pattern.specs.Meaning.{Assignment, Extends, Holds, HoldAll, OneAt, CountAsOne}
use Rattle.anti_pattern.specs.Order.{length_of, All, Member, Ascending}
use Rattle.anti_pattern.specs.Search.{Env, update, bind, Answers, found, failed, answers, Result, if_true, if_some, after, Deferred, Continuation, refuted, finish, same_or, lengths, exactly, Tries, every, only, freely, try_fresh, behind, try_run, search, searches}
use Rattle.anti_pattern.specs.Variables.{vars, vars_all, free}
use borrow.Author.Tests.{eqb-true, eq-eqb}
use Rattle.term.proofs.SameParts.{same_terms_holds, same_counts}
use Rattle.anti_pattern.proofs.Alike.{single_same, single_open, run_trans, one_refl, one_sym, one_trans, holds_one, hold_all_one, of_join, of_split, children_of_holds}
use Rattle.anti_pattern.proofs.Extensions.{extends_refl, extends_nil, extends_at, extends_add, extends_drop, extends_set, extends_unbind, extends_bound}
use Rattle.anti_pattern.proofs.Facts.{join_nil, join_one, count_join, head_same, tail_same, nil_cons, none_some, some_same, behind_alike, alike_behind}
use Rattle.anti_pattern.proofs.Listed.{all_map, all_join, member_left, member_right, ascending_map, ascending_join}
use Rattle.std.specs.Prelude.{Option, Some, None}

-- of the lengths at the variables vs, the first that differ are smaller in a than in b
abbrev pub Before : List ℕ → Assignment → Assignment → Type 0
Before [] a b = ⊥
Before (v ∷ vs) a b = (length_of (a v) < length_of (b v)) ⊎ ((length_of (a v) ≡ length_of (b v)) × Before vs a b)

-- what a run name may try, as a condition on what is assigned
abbrev pub Permits : Tries → ℕ → Type 0
Permits every n = Unit {0}
Permits (only m) n = m ≡ n

abbrev pub Permitted : (ℕ → Tries) → Assignment → Type 0
Permitted how a = (v : ℕ) (w : Terms) → a v ≡ Some w → Permits (how v) (count w)

-- the assignments of an outcome's answers
abbrev pub values : Answers → List Assignment
values o = map (λ e. e.value) (answers o)

values_after : (o : Answers) (n : ℕ) (f : Unit {0} → Result) → values (after o n f).out ≡ values o ++ values (f tt).out
values_after (found e m o) n f = ap (e.value ∷◌) (values_after o m f)
values_after failed n f = refl

-- what is permitted stays so
permitted_bind : (how : ℕ → Tries) (a : Assignment) (v : ℕ) (w : Terms) → Permitted how a → Permits (how v) (count w)
    → Permitted how (update a v (Some w))
permitted_bind how a v w p h u x e = go (eqb v u) refl e
  where
    go : (m : Bool) → eqb v u ≡ m → cond m (Some w) (a u) ≡ Some x → Permits (how u) (count x)
    go true q e = subst (λ (y : Terms). Permits (how u) (count y)) (some_same e) (subst (λ (j : ℕ). Permits (how j) (count w)) (eqb-true v u q) h)
    go false q e = p u x e

-- a name's single term is permitted
abbrev mutual
  pub NamesMay : (ℕ → Tries) → Pattern → Type 0
  NamesMay how (name v) = Permits (how v) 1
  NamesMay how (symbol s qs) = AllMay how qs
  NamesMay how (complement q) = Unit {0}

  pub AllMay : (ℕ → Tries) → Children → Type 0
  AllMay how end = Unit {0}
  AllMay how (plain q qs) = NamesMay how q × AllMay how qs
  AllMay how (run v qs) = AllMay how qs

mutual
  pub freely_may : (q : Pattern) → NamesMay freely q
  freely_may (name v) = tt
  freely_may (symbol s qs) = all_freely qs
  freely_may (complement q) = tt

  all_freely : (qs : Children) → AllMay freely qs
  all_freely end = tt
  all_freely (plain q qs) = (freely_may q, all_freely qs)
  all_freely (run v qs) = all_freely qs

-- what the complements put by decide at the end of a level
abbrev Ended : Env → Type 0 → Answers → Type 0
Ended e C (found f m o) = (f ≡ e) × (o ≡ failed) × C
Ended e C failed = C → ⊥

abbrev Refutes : Type 0 → Answers → Type 0
Refutes D (found f m o) = D → ⊥
Refutes D failed = D

abbrev PutBy : List Deferred → (Assignment → Type 0) → Type 0
PutBy put C = (e : Env) → Ended e (C e.value) (finish e put).out

finish_last : (e : Env) (C D : Type 0) (o : Answers) (n : ℕ) → C → Refutes D o → Ended e (C × D) (refuted o n (λ u. finish e [])).out
unfolding finish
finish_last e C D (found f m o) n c r = λ p. r p.1
finish_last e C D failed n c r = (refl, refl, (c, r))

finish_step : (e : Env) (C D : Type 0) (o : Answers) (n : ℕ) (ds ds' : List Deferred)
    → (Ended e C (finish e ds).out → Ended e (C × D) (finish e ds').out)
    → Ended e C (refuted o n (λ u. finish e ds)).out → Ended e (C × D) (refuted o n (λ u. finish e ds')).out
finish_step e C D (found f m o) n ds ds' r h = λ p. h p.0
finish_step e C D failed n ds ds' r h = r h

finish_snoc : (e : Env) (C D : Type 0) (d : Deferred) (ds : List Deferred)
    → Refutes D (d e).out → Ended e C (finish e ds).out → Ended e (C × D) (finish e (ds ++ (d ∷ []))).out
unfolding finish
finish_snoc e C D d [] r h = finish_last e C D (d e).out (d e).cost h.2 r
finish_snoc e C D d (x ∷ ds) r h = finish_step e C D (x e).out (x e).cost ds (ds ++ (d ∷ [])) (finish_snoc e C D d ds r) h

nothing_put : PutBy [] (λ b. Unit {0})
unfolding finish
nothing_put e = (refl, refl, tt)

module _ (l : Language) where
  -- what a variable has counts as one
  permitted_one : (how : ℕ → Tries) (b c : Assignment) → CountAsOne l b c → Permitted how b → Permitted how c
  permitted_one how b c e p v w h = go (b v) refl (e v)
    where
      go : (o : Option Terms) → b v ≡ o → OneAt l o (c v) → Permits (how v) (count w)
      go None r x = absurd (subst (OneAt l None) h x)
      go (Some y) r x = subst (Permits (how v)) (same_counts l.classes y w (subst (OneAt l (Some y)) h x)) (p v y r)

  -- b assigns, besides what a does, exactly the variables vs, has permitted lengths, and meets the condition
  pub record Candidate (how : ℕ → Tries) (a : Assignment) (vs : List ℕ) (K : Assignment → Type 0) (b : Assignment) : Type 0 where
    pub extends : Extends (TermsOf l) a vs b
    pub permitted : Permitted how b
    pub meets : K b

  -- the list has the candidates, each counted once, in order
  pub record Lists (how : ℕ → Tries) (a : Assignment) (vs : List ℕ) (K : Assignment → Type 0) (bs : List Assignment) : Type 0 where
    pub sound : All (Candidate how a vs K) bs
    pub complete : (b : Assignment) → Candidate how a vs K b → (c : Assignment) × Member c bs × CountAsOne l c b
    pub ordered : Ascending (Before vs) bs

  abbrev Best : (ℕ → Tries) → Assignment → List ℕ → (Assignment → Type 0) → Answers → Type 0
  Best how a vs K o = Lists how a vs K (values o)

  no_candidate : {how : ℕ → Tries} {a : Assignment} {vs : List ℕ} {K : Assignment → Type 0}
      → ((b : Assignment) → Candidate how a vs K b → ⊥) → Lists how a vs K []
  no_candidate n = record { sound = tt; complete = λ b s. absurd (n b s); ordered = tt }

  -- candidates of one kind are candidates of the other, and each of the other counts as one of the first
  best_map : {how : ℕ → Tries} {a a' : Assignment} {vs vs' : List ℕ} {K K' : Assignment → Type 0} {bs : List Assignment}
      → ((b : Assignment) → Candidate how a vs K b → Candidate how a' vs' K' b)
      → ((b : Assignment) → Candidate how a' vs' K' b → (c : Assignment) × Candidate how a vs K c × CountAsOne l c b)
      → ((b c : Assignment) → Candidate how a vs K b → Candidate how a vs K c → Before vs b c → Before vs' b c)
      → Lists how a vs K bs → Lists how a' vs' K' bs
  best_map {how} {a} {a'} {vs} {vs'} {K} {K'} {bs} there back order h = record {
    sound = all_map (Candidate how a vs K) (Candidate how a' vs' K') there bs h.sound;
    complete = λ b s. let c = back b s in let m = h.complete c.0 c.1 in
        (m.0, m.1, λ v. one_trans l (m.0 v) (c.0 v) (b v) (m.2 v) (c.2 v));
    ordered = ascending_map (Candidate how a vs K) (Before vs) (Before vs') order bs h.sound h.ordered;
  }

  itself : {how : ℕ → Tries} {a : Assignment} {vs : List ℕ} {K : Assignment → Type 0} (b : Assignment) → Candidate how a vs K b
      → (c : Assignment) × Candidate how a vs K c × CountAsOne l c b
  itself b s = (b, s, λ v. one_refl l (b v))

  -- the condition put another way, where the lengths are permitted
  best_iff_by : {how : ℕ → Tries} {a : Assignment} {vs : List ℕ} {K K' : Assignment → Type 0} {bs : List Assignment}
      → ((b : Assignment) → K b → K' b) → ((b : Assignment) → Permitted how b → K' b → K b) → Lists how a vs K bs → Lists how a vs K' bs
  best_iff_by there back h =
      best_map (λ b s. record { extends = s.extends; permitted = s.permitted; meets = there b s.meets })
      (λ b s. itself b (record { extends = s.extends; permitted = s.permitted; meets = back b s.permitted s.meets })) (λ b c s r p. p) h

  best_iff : {how : ℕ → Tries} {a : Assignment} {vs : List ℕ} {K K' : Assignment → Type 0} {bs : List Assignment}
      → ((b : Assignment) → K b → K' b) → ((b : Assignment) → K' b → K b) → Lists how a vs K bs → Lists how a vs K' bs
  best_iff there back h = best_iff_by there (λ b p. back b) h

  -- first the candidates of one condition, then those of another, all of which come later
  best_or : {how : ℕ → Tries} {a : Assignment} {vs : List ℕ} {K L M : Assignment → Type 0} (bs cs : List Assignment)
      → ((b : Assignment) → K b → M b) → ((b : Assignment) → L b → M b) → ((b : Assignment) → M b → K b ⊎ L b)
      → ((b c : Assignment) → K b → L c → Before vs b c)
      → Lists how a vs K bs → Lists how a vs L cs → Lists how a vs M (bs ++ cs)
  best_or {how} {a} {vs} {K} {L} {M} bs cs x r split order k h = record {
    sound = all_join (Candidate how a vs M) bs cs
        (all_map (Candidate how a vs K) (Candidate how a vs M)
        (λ b s. record { extends = s.extends; permitted = s.permitted; meets = x b s.meets }) bs k.sound)
        (all_map (Candidate how a vs L) (Candidate how a vs M)
        (λ b s. record { extends = s.extends; permitted = s.permitted; meets = r b s.meets }) cs h.sound);
    complete = λ b s. go b s (split b s.meets);
    ordered = ascending_join (Candidate how a vs K) (Candidate how a vs L) (Before vs) (λ b c s t. order b c s.meets t.meets) bs cs
        k.sound h.sound k.ordered h.ordered;
  }
    where
      go : (b : Assignment) → Candidate how a vs M b → K b ⊎ L b → (c : Assignment) × Member c (bs ++ cs) × CountAsOne l c b
      go b s (inl y) =
          let m = k.complete b (record { extends = s.extends; permitted = s.permitted; meets = y }) in (m.0, member_left bs cs m.0 m.1, m.2)
      go b s (inr y) =
          let m = h.complete b (record { extends = s.extends; permitted = s.permitted; meets = y }) in (m.0, member_right bs cs m.0 m.1, m.2)

  -- a condition does not tell assignments apart that count as one
  abbrev Respects : (Assignment → Type 0) → Type 0
  Respects K = (b c : Assignment) → CountAsOne l b c → K b → K c

  -- a continuation: from any assignments and complements put by, it lists the candidates of the rest of the level
  abbrev Leads : (ℕ → Tries) → Continuation → List ℕ → (Assignment → Type 0) → Type 1
  Leads how k vs K =
      (e : Env) (put : List Deferred) (C : Assignment → Type 0) → Permitted how e.value → Respects C → PutBy put C
      → Best how e.value vs (λ b. K b × C b) (k e put).out

  finish_best : (how : ℕ → Tries) (e : Env) (C : Assignment → Type 0) → Permitted how e.value → (o : Answers) → Ended e (C e.value) o
      → Best how e.value [] (λ b. Unit {0} × C b) o
  finish_best how e C ok (found f m o) h =
      subst (Lists how e.value [] (λ b. Unit {0} × C b))
      (sym (ap₂ (λ (g : Env) (p : Answers). g.value ∷ values p) h.0 h.1)) (record {
        sound = (record { extends = extends_refl l e.value; permitted = ok; meets = (tt, h.2) }, tt);
        complete = λ b s. (
          e.value,
          inl refl,
          λ v. subst (λ (c : Assignment). OneAt l (e.value v) (c v)) (extends_nil l e.value b s.extends) (one_refl l (e.value v)),
        );
        ordered = (tt, tt);
      })
  finish_best how e C ok failed h = no_candidate (λ b s. h (subst C (sym (extends_nil l e.value b s.extends)) s.meets.1))

  finish_leads : (how : ℕ → Tries) → Leads how finish [] (λ b. Unit {0})
  finish_leads how e put C ok c p = finish_best how e C ok (finish e put).out (p e)

  -- the variable has the sequence, up to class
  abbrev Has : ℕ → Terms → Assignment → Type 0
  Has v w b = (x : Terms) × (b v ≡ Some x) × (l ⊢ x ≋ w)

  one_set : (b : Assignment) (v : ℕ) (w : Terms) → Has v w b → CountAsOne l (update b v (Some w)) b
  one_set b v w h i = go (eqb v i) refl
    where
      go : (m : Bool) → eqb v i ≡ m → OneAt l (cond m (Some w) (b i)) (b i)
      go true e =
          one_sym l (b i) (Some w) (subst (λ (o : Option Terms). OneAt l o (Some w))
          (sym (subst (λ (j : ℕ). b j ≡ Some h.0) (eqb-true v i e) h.1)) h.2)
      go false e = one_refl l (b i)

  -- a variable that is not assigned, and takes a sequence
  bind_best : {how : ℕ → Tries} (a : Assignment) (v : ℕ) (w : Terms) (vs : List ℕ) (K : Assignment → Type 0) → Respects K → TermsOf l w
      → {bs : List Assignment} → a v ≡ None → Lists how (update a v (Some w)) vs K bs → Lists how a (v ∷ vs) (λ b. Has v w b × K b) bs
  bind_best {how} a v w vs K c g e h =
      best_map (λ b s. record {
        extends = extends_unbind l a b vs v w e g s.extends;
        permitted = s.permitted;
        meets = ((w, extends_bound l a b vs v w s.extends, same_terms_holds l.classes w), s.meets);
      })
      (λ b s. let i = one_set b v w s.meets.0 in
      let j : CountAsOne l b (update b v (Some w)) = λ u. one_sym l (update b v (Some w) u) (b u) (i u) in (
        update b v (Some w),
        record {
          extends = extends_set l a b vs v w s.extends;
          permitted = permitted_one how b (update b v (Some w)) j s.permitted;
          meets = c b (update b v (Some w)) j s.meets.1;
        },
        i,
      ))
      (λ b c s r p. inr (ap length_of (extends_bound l a b vs v w s.extends ∙ sym (extends_bound l a c vs v w r.extends)), p)) h

  -- a variable that is assigned, to the sequence
  kept_best : {how : ℕ → Tries} (a : Assignment) (v : ℕ) (x w : Terms) (vs : List ℕ) (K : Assignment → Type 0) {bs : List Assignment}
      → a v ≡ Some x → l ⊢ x ≋ w → Lists how a vs K bs → Lists how a (v ∷ vs) (λ b. Has v w b × K b) bs
  kept_best a v x w vs K e i h =
      best_map (λ b s. record { extends = extends_add l a b vs v x e s.extends; permitted = s.permitted; meets = ((x, extends_at l a b vs v x e s.extends, i), s.meets) })
      (λ b s. itself b (record { extends = extends_drop l a b vs v x e s.extends; permitted = s.permitted; meets = s.meets.1 }))
      (λ b c s r p. inr (ap length_of (extends_at l a b vs v x e s.extends ∙ sym (extends_at l a c vs v x e r.extends)), p)) h

  -- a name set against a term
  module _ (how : ℕ → Tries) (e : Env) (v at : ℕ) (w : Terms) (g : TermsOf l w) (k : Continuation) (vs : List ℕ) (K : Assignment → Type 0) (r : Respects K) (x : Leads how k vs K)
      (put : List Deferred) (C : Assignment → Type 0) (ok : Permitted how e.value) (may : Permits (how v) (count w)) (c : Respects C)
      (p : PutBy put C) where
    name_kept : (y : Terms) (m : Bool) → same_terms l.classes y w ≡ m → e.value v ≡ Some y
        → Best how e.value (v ∷ vs) (λ b. Has v w b × (K b × C b)) (if_some (cond m (Some e) None) (λ f. k f put)).out
    name_kept y true h q = kept_best e.value v y w vs (λ b. K b × C b) q h (x e put C ok c p)
    name_kept y false h q =
        no_candidate (λ b s. false≢true (sym h ∙ subst (λ (z : Terms). l ⊢ z ≋ w)
        (some_same (sym s.meets.0.1 ∙ extends_at l e.value b (v ∷ vs) v y q s.extends)) s.meets.0.2))

    name_best : (o : Option Terms) → e.value v ≡ o
        → Best how e.value (v ∷ vs) (λ b. Has v w b × (K b × C b)) (if_some (same_or l.classes o w e (bind e v at w)) (λ f. k f put)).out
    name_best None q = bind_best e.value v w vs (λ b. K b × C b) (λ b d i y. (r b d i y.0, c b d i y.1)) g q (x (bind e v at w) put C (permitted_bind how e.value v w ok may) c p)
    name_best (Some y) q = name_kept y (same_terms l.classes y w) refl q

  -- the lengths of a run name that is not assigned
  module _ (how : ℕ → Tries) (a : Assignment) (v : ℕ) (q : a v ≡ None) (vs : List ℕ) (f : Terms → Terms → Result) (R : Terms → Assignment → Type 0)
      (c : (us : Terms) → Respects (R us))
      (h : (w us : Terms) → Permits (how v) (count w) → TermsOf l us → Best how (update a v (Some w)) vs (R us) (f w us).out) where
    -- what is taken goes on from w, and what is left of ts behind it meets R
    abbrev Splits : Terms → Terms → Assignment → Type 0
    Splits w ts b = (y : Terms) × (x : Terms) × (us : Terms) × (b v ≡ Some y) × (l ⊢ y ≋ w ⧺ x) × (ts ≡ x ⧺ us) × R us b

    splits_nil : (w : Terms) (b : Assignment) → Splits w nil b → Has v w b × R nil b
    splits_nil w b s = go s.1 s.2 s.4 s.5 s.6
      where
        go : (x us : Terms) → l ⊢ s.0 ≋ w ⧺ x → nil ≡ x ⧺ us → R us b → Has v w b × R nil b
        go nil us e p r = ((s.0, s.3, subst (λ (z : Terms). l ⊢ s.0 ≋ z) (join_nil w) e), subst (λ (y : Terms). R y b) (sym p) r)
        go (t :: x) us e p r = absurd (nil_cons p)

    splits_cons : (w : Terms) (t : Term) (ts : Terms) (b : Assignment) → Splits w (t :: ts) b
        → (Has v w b × R (t :: ts) b) ⊎ Splits (w ⧺ single t) ts b
    splits_cons w t ts b s = go s.1 s.2 s.4 s.5 s.6
      where
        go : (x us : Terms) → l ⊢ s.0 ≋ w ⧺ x → t :: ts ≡ x ⧺ us → R us b → (Has v w b × R (t :: ts) b) ⊎ Splits (w ⧺ single t) ts b
        go nil us e p r = inl ((s.0, s.3, subst (λ (z : Terms). l ⊢ s.0 ≋ z) (join_nil w) e), subst (λ (y : Terms). R y b) (sym p) r)
        go (u :: x) us e p r =
            inr (
              s.0,
              x,
              us,
              s.3,
              subst (λ (z : Terms). l ⊢ s.0 ≋ z) (ap (λ (y : Term). w ⧺ (y :: x)) (sym (head_same p)) ∙ sym (join_one w t x)) e,
              tail_same p,
              r,
            )

    splits_now : (w ts : Terms) (b : Assignment) → Has v w b × R ts b → Splits w ts b
    splits_now w ts b s = (s.0.0, nil, ts, s.0.1, subst (λ (z : Terms). l ⊢ s.0.0 ≋ z) (sym (join_nil w)) s.0.2, refl, s.1)

    splits_later : (w : Terms) (t : Term) (ts : Terms) (b : Assignment) → Splits (w ⧺ single t) ts b → Splits w (t :: ts) b
    splits_later w t ts b s =
        (s.0, t :: s.1, s.2, s.3, subst (λ (z : Terms). l ⊢ s.0 ≋ z) (join_one w t s.1) s.4, ap (t ::◌) s.5, s.6)

    splits_order : (w : Terms) (t : Term) (ts : Terms) (b d : Assignment) → Has v w b × R (t :: ts) b → Splits (w ⧺ single t) ts d
        → length_of (b v) < length_of (d v)
    splits_order w t ts b d s r =
        let i : length_of (b v) ≡ count w = ap length_of s.0.1 ∙ same_counts l.classes s.0.0 w s.0.2 in
        let j : length_of (d v) ≡ count (w ⧺ (t :: r.1)) =
        ap length_of r.3 ∙ same_counts l.classes r.0 ((w ⧺ single t) ⧺ r.1) r.4 ∙ ap count (join_one w t r.1) in
        omega (arith, count_join w (t :: r.1))

    -- every length
    lengths_best : how v ≡ every → (ts w : Terms) → TermsOf l ts → TermsOf l w → Best how a (v ∷ vs) (Splits w ts) (lengths w ts f).out
    lengths_best m nil w g i =
        best_iff (splits_now w nil) (splits_nil w)
        (bind_best a v w vs (R nil) (c nil) i q (h w nil (subst (λ (y : Tries). Permits y (count w)) (sym m) tt) g))
    lengths_best m (t :: ts) w g i =
        subst (Lists how a (v ∷ vs) (Splits w (t :: ts)))
        (sym (values_after (f w (t :: ts)).out (1 + (f w (t :: ts)).cost) (λ u. lengths (w ⧺ single t) ts f)))
        (best_or (values (f w (t :: ts)).out) (values (lengths (w ⧺ single t) ts f).out)
        (splits_now w (t :: ts)) (splits_later w t ts) (splits_cons w t ts)
        (λ b d s r. inl (splits_order w t ts b d s r))
        (bind_best a v w vs (R (t :: ts)) (c (t :: ts)) i q (h w (t :: ts) (subst (λ (y : Tries). Permits y (count w)) (sym m) tt) g))
        (lengths_best m ts (w ⧺ single t) g.1 (of_join l w (single t) i (g.0, tt))))

    -- the given length only
    only_has : (n : ℕ) (w : Terms) (b : Assignment) → how v ≡ only n → Permitted how b → Has v w b → n ≡ count w
    only_has n w b m p s =
        subst (λ (y : Tries). Permits y (count s.0)) m (p v s.0 s.1) ∙ same_counts l.classes s.0 w s.2

    exactly_best : (n : ℕ) (ts w : Terms) → how v ≡ only (count w + n) → TermsOf l ts → TermsOf l w
        → Best how a (v ∷ vs) (Splits w ts) (exactly n w ts f).out
    exactly_best zero ts w m g i =
        best_iff_by (splits_now w ts) now
        (bind_best a v w vs (R ts) (c ts) i q (h w ts (subst (λ (y : Tries). Permits y (count w)) (sym m) (omega arith)) g))
      where
        now : (b : Assignment) → Permitted how b → Splits w ts b → Has v w b × R ts b
        now b p s = go s.1 s.2 s.4 s.5 s.6
          where
            go : (x us : Terms) → l ⊢ s.0 ≋ w ⧺ x → ts ≡ x ⧺ us → R us b → Has v w b × R ts b
            go nil us e z r = ((s.0, s.3, subst (λ (z : Terms). l ⊢ s.0 ≋ z) (join_nil w) e), subst (λ (y : Terms). R y b) (sym z) r)
            go (t :: x) us e z r =
                let k : count w + 0 ≡ count (w ⧺ (t :: x)) = only_has (count w + 0) (w ⧺ (t :: x)) b m p (s.0, s.3, e) in
                absurd (omega (arith, count_join w (t :: x)))
    exactly_best (suc n) nil w m g i =
        no_candidate (λ b s. let k : count w + suc n ≡ count w = only_has (count w + suc n) w b m s.permitted (splits_nil w b s.meets).0 in omega arith)
    exactly_best (suc n) (t :: ts) w m g i =
        best_iff_by (splits_later w t ts) (λ b p s. later b p (splits_cons w t ts b s))
        (exactly_best n ts (w ⧺ single t) (m ∙ ap only (longer w)) g.1 (of_join l w (single t) i (g.0, tt)))
      where
        longer : (w : Terms) → count w + suc n ≡ count (w ⧺ single t) + n
        longer w = omega (arith, count_join w (single t))

        later : (b : Assignment) → Permitted how b → (Has v w b × R (t :: ts) b) ⊎ Splits (w ⧺ single t) ts b → Splits (w ⧺ single t) ts b
        later b p (inl s) = let k : count w + suc n ≡ count w = only_has (count w + suc n) w b m p s.0 in absurd (omega arith)
        later b p (inr s) = s

    fresh_best : (ts : Terms) → TermsOf l ts → (m : Tries) → how v ≡ m → Best how a (v ∷ vs) (Splits nil ts) (try_fresh m ts f).out
    fresh_best ts g every e = lengths_best e ts nil g tt
    fresh_best ts g (only n) e = exactly_best n ts nil (e ∙ ap only (omega arith)) g tt

  -- the inside of a complement, searched as a level, decides the complement
  inside : (q : Pattern) (t : Term) (e : Env) (o : Answers)
      → Best freely e.value (free q) (λ b. (Holds l (TermsOf l) q b t × Unit {0}) × Unit {0}) o
      → Refutes (Holds l (TermsOf l) (complement q) e.value t) o
  inside q t e (found f m o) h = λ n. n f.value h.sound.0.extends h.sound.0.meets.0.0
  inside q t e failed h = λ b x y. (h.complete b (record { extends = x; permitted = λ v w i. tt; meets = ((y, tt), tt) })).1

  -- a run name that is assigned already
  module _ (how : ℕ → Tries) (a : Assignment) (v : ℕ) (w ts : Terms) (g : TermsOf l ts) (q : a v ≡ Some w) (vs : List ℕ) (f : Terms → Result)
      (R : Terms → Assignment → Type 0) (h : (us : Terms) → TermsOf l us → Best how a vs (R us) (f us).out) where
    abbrev Fits : Assignment → Type 0
    Fits b = (y : Terms) × (x : Terms) × (us : Terms) × (b v ≡ Some y) × (l ⊢ y ≋ x) × (ts ≡ x ⧺ us) × R us b

    -- the run is what is assigned, and so is what is left behind it
    fits_behind : (b : Assignment) → Extends (TermsOf l) a (v ∷ vs) b → (s : Fits b) → behind l.classes w ts ≡ Some s.2
    fits_behind b x s =
        let i : s.0 ≡ w = some_same (sym s.3 ∙ extends_at l a b (v ∷ vs) v w q x) in
        subst (λ (y : Terms). behind l.classes w y ≡ Some s.2) (sym s.5)
        (alike_behind l.classes w s.1 s.2 (subst (λ (y : Terms). l ⊢ y ≋ s.1) i s.4))

    kept_run : (o : Option Terms) → behind l.classes w ts ≡ o → Best how a (v ∷ vs) Fits (if_some o f).out
    kept_run None r = no_candidate (λ b s. none_some (sym r ∙ fits_behind b s.extends s.meets))
    kept_run (Some us) r =
        let i = behind_alike l.classes w ts us r in
        best_map (λ b s. record { extends = s.extends; permitted = s.permitted; meets = (s.meets.0.0, i.0, us, s.meets.0.1, run_trans l s.meets.0.0 w i.0 s.meets.0.2 i.2, i.1, s.meets.1) })
        (λ b s. itself b (record {
          extends = s.extends;
          permitted = s.permitted;
          meets = (
            (w, extends_at l a b (v ∷ vs) v w q s.extends, same_terms_holds l.classes w),
            subst (λ (y : Terms). R y b) (some_same (sym (fits_behind b s.extends s.meets) ∙ r)) s.meets.6,
          );
        }))
        (λ b c s t p. p)
        (kept_best a v w w vs (R us) q (same_terms_holds l.classes w) (h us (of_split l i.0 us (subst (TermsOf l) i.1 g)).1))

  run_best : (how : ℕ → Tries) (e : Env) (v : ℕ) (ts : Terms) → TermsOf l ts → (vs : List ℕ) (R : Terms → Assignment → Type 0)
      → ((us : Terms) → Respects (R us)) → (f k : Terms → Terms → Result)
      → ((w us : Terms) → Permits (how v) (count w) → TermsOf l us → Best how (update e.value v (Some w)) vs (R us) (f w us).out)
      → ((w us : Terms) → TermsOf l us → Best how e.value vs (R us) (k w us).out) → (o : Option Terms) → e.value v ≡ o
      → Best how e.value (v ∷ vs) (λ b. (w : Terms) × (x : Terms) × (us : Terms) × (b v ≡ Some w) × (l ⊢ w ≋ x) × (ts ≡ x ⧺ us) × R us b)
      (try_run l.classes o (how v) ts f k).out
  run_best how e v ts g vs R c f k hf hk None q = fresh_best how e.value v q vs f R c hf ts g (how v) refl
  run_best how e v ts g vs R c f k hf hk (Some w) q = kept_run how e.value v w ts g q vs (k w) R (hk w) (behind l.classes w ts) refl

  sym_best : {how : ℕ → Tries} (s r : ℕ) (a : Assignment) (vs : List ℕ) (R : Assignment → Type 0) (f : Unit {0} → Result) → Best how a vs R (f tt).out
      → (m : Bool) → eqb s r ≡ m → Best how a vs (λ b. (s ≡ r) × R b) (if_true m f).out
  sym_best s r a vs R f h true e = best_iff (λ b y. (eqb-true s r e, y)) (λ b y. y.1) h
  sym_best s r a vs R f h false e = no_candidate (λ b y. false≢true (sym e ∙ eq-eqb s r y.meets.0))

  mutual
    unfolding search

    search_leads : (how : ℕ → Tries) (q : Pattern) → NamesMay how q → (t : Term) → TermOf l t → (at : ℕ) (k : Continuation) (vs : List ℕ) (K : Assignment → Type 0) → Respects K → Leads how k vs K
        → Leads how (λ e put. search l.table l.classes how q t at e put k) (vars q vs) (λ b. Holds l (TermsOf l) q b t × K b)
    search_leads how (name v) may t g at k vs K r x e put C ok c p =
        best_iff (λ b y. let u = single_open l y.0.0 t y.0.2 in (((u.0, y.0.1 ∙ ap Some u.1, u.2), y.1.0), y.1.1))
        (λ b y. ((single y.0.0.0, y.0.0.1, single_same l y.0.0.0 t y.0.0.2), (y.0.1, y.1)))
        (name_best how e v at (single t) (g, tt) k vs K r x put C ok may c p (e.value v) refl)
    search_leads how (symbol s qs) may (node n ts) g at k vs K r x e put C ok c p =
        best_iff (λ b y. (((y.0, y.1.0.0), y.1.0.1), y.1.1)) (λ b y. (y.0.0.0, ((y.0.0.1, y.0.1), y.1)))
        (sym_best (class_of l.classes s) (class_of l.classes n) e.value (vars_all qs vs) (λ b. (HoldAll l (TermsOf l) qs b ts × K b) × C b)
        (λ u. searches l.table l.classes how qs ts (at + width l.table n) e put k)
        (searches_lead how qs may ts (children_of_holds l n ts g) (at + width l.table n) k vs K r x e put C ok c p) (eqb (class_of l.classes s) (class_of l.classes n)) refl)
    search_leads how (complement q) may t g at k vs K r x e put C ok c p =
        best_iff (λ b y. ((y.1.1, y.0), y.1.0)) (λ b y. (y.0.1, (y.1, y.0.0)))
        (x e (put ++ ((λ f. search l.table l.classes freely q t at f [] finish) ∷ [])) (λ b. C b × Holds l (TermsOf l) (complement q) b t) ok
        (λ b d i y. (c b d i y.0, holds_one l (complement q) b d t i y.1))
        (λ f. finish_snoc f (C f.value) (Holds l (TermsOf l) (complement q) f.value t) (λ f. search l.table l.classes freely q t at f [] finish) put
        (inside q t f (search l.table l.classes freely q t at f [] finish).out
        (search_leads freely q (freely_may q) t g at finish [] (λ b. Unit {0}) (λ b d i y. y) (finish_leads freely) f [] (λ b. Unit {0}) (λ v w i. tt)
        (λ b d i y. y) nothing_put))
        (p f)))

    searches_lead : (how : ℕ → Tries) (qs : Children) → AllMay how qs → (ts : Terms) → TermsOf l ts → (at : ℕ) (k : Continuation) (vs : List ℕ) (K : Assignment → Type 0) → Respects K → Leads how k vs K
        → Leads how (λ e put. searches l.table l.classes how qs ts at e put k) (vars_all qs vs) (λ b. HoldAll l (TermsOf l) qs b ts × K b)
    searches_lead how end may nil g at k vs K r x e put C ok c p = best_iff (λ b y. ((refl, y.0), y.1)) (λ b y. (y.0.1, y.1)) (x e put C ok c p)
    searches_lead how end may (t :: ts) g at k vs K r x e put C ok c p = no_candidate (λ b s. nil_cons (sym s.meets.0.0))
    searches_lead how (plain q qs) may nil g at k vs K r x e put C ok c p = no_candidate (λ b s. s.meets.0.0)
    searches_lead how (plain q qs) may (t :: ts) g at k vs K r x e put C ok c p =
        best_iff (λ b y. (((y.0.0, y.0.1.0), y.0.1.1), y.1)) (λ b y. ((y.0.0.0, (y.0.0.1, y.0.1)), y.1))
        (search_leads how q may.0 t g.0 at (λ f ds. searches l.table l.classes how qs ts (at + size l.table t) f ds k) (vars_all qs vs)
        (λ b. HoldAll l (TermsOf l) qs b ts × K b) (λ b d i y. (hold_all_one l qs b d ts i y.0, r b d i y.1))
        (searches_lead how qs may.1 ts g.1 (at + size l.table t) k vs K r x) e put C ok c p)
    searches_lead how (run v qs) may ts g at k vs K r x e put C ok c p =
        best_iff (λ b y. (((y.0, y.1, y.2, y.3, y.4, y.5, y.6.0.0), y.6.0.1), y.6.1))
        (λ b y. (y.0.0.0, y.0.0.1, y.0.0.2, y.0.0.3, y.0.0.4, y.0.0.5, ((y.0.0.6, y.0.1), y.1)))
        (run_best how e v ts g (vars_all qs vs) (λ us b. (HoldAll l (TermsOf l) qs b us × K b) × C b)
        (λ us b d i y. ((hold_all_one l qs b d us i y.0.0, r b d i y.0.1), c b d i y.1))
        (λ w us. searches l.table l.classes how qs us (at + sizes l.table w) (bind e v at w) put k)
        (λ w us. searches l.table l.classes how qs us (at + sizes l.table w) e put k)
        (λ w us z j. searches_lead how qs may us j (at + sizes l.table w) k vs K r x (bind e v at w) put C (permitted_bind how e.value v w ok z) c p)
        (λ w us j. searches_lead how qs may us j (at + sizes l.table w) k vs K r x e put C ok c p)
        (e.value v) refl)

  -- a level: the extensions of the assignments made so far by the free variables under which the pattern holds, in order
  pub level_lists : (how : ℕ → Tries) (q : Pattern) → NamesMay how q → (t : Term) → TermOf l t → (at : ℕ) (e : Env) → Permitted how e.value
      → Lists how e.value (free q) (λ b. Holds l (TermsOf l) q b t) (values (search l.table l.classes how q t at e [] finish).out)
  level_lists how q may t g at e ok =
      best_iff (λ b y. y.0.0) (λ b y. ((y, tt), tt))
      (search_leads how q may t g at finish [] (λ b. Unit {0}) (λ b d i y. y) (finish_leads how) e [] (λ b. Unit {0}) ok (λ b d i y. y) nothing_put)
