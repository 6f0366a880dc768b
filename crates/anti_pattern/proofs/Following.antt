-- The next answer: document 02's "Every answer".
use Prim.Native.Nat.{ℕ, suc, ◌<◌, ◌≤◌}
use mathlib.Core.Path.{◌≡◌, refl, sym, ◌∙◌, ap, ap₂, subst}
use mathlib.Core.Logic.{◌⊎◌, inl, inr}
use mathlib.Core.List.{List, [], ◌∷◌, ◌++◌, map}
use mathlib.Core.Bool.{Bool, true, false, cond, ◌&&◌, false≢true}
use native.Mathlib.Omega.{arith}
use lib.ListN.{length, get_or}
use lib.Dec.{eqb, ltb}
use borrow.Author.Tests.{eqb-true, eq-eqb}
use Rattle.answers.specs.Part.{part}
use Rattle.answers.specs.declared.Part.{Part}
use Rattle.term.specs.Pattern.{Pattern, name, symbol, complement, Children, end, plain, run}
use Rattle.term.specs.Term.{Term, Terms, count}
use Rattle.term.specs.Class.{Alike}
use Rattle.term.specs.Code.{variables}
use Rattle.anti_pattern.specs.Answer.{bound, nothing, spent, count_of, matching_of}
use Rattle.anti_pattern.specs.Demands.{Enumerates, assignments, Given, NextAfter, Last, OneForEach, UnknownLengths, NextExact, lengths_shown, Asked, no_more, one_more, Calls, none_at_all, from_first, EveryAnswer}
use Rattle.anti_pattern.specs.Language.{Language, TermOf, TermsOf}
use Rattle.anti_pattern.specs.Meaning.{Assignment, ExtendsAt, Extends, Satisfies, CountAsOne}
use Rattle.anti_pattern.specs.Next.{given_to, check_given, same_numbers, resumed, has_lengths, resumed_after, check_count, next_count, Following, follows, unknown, spent_or, unknown_or, one_for_each, next}
use Rattle.anti_pattern.specs.Order.{length_of, All, Member, run_lengths, Smaller}
use Rattle.anti_pattern.specs.Place.{assigned_part, or_absent, variable_part, parts_at}
use Rattle.anti_pattern.specs.Search.{Env, Answers, found, failed, first_answer, answers, Result, fail, Tries, every, only, freely, whole}
use Rattle.anti_pattern.specs.Variables.{vars, vars_all, free, among, NoName, NoNames, runs, runs_all, without, firsts, free_runs}
use Rattle.anti_pattern.proofs.Correct.{Permits, Permitted, NamesMay, AllMay, values}
use Rattle.anti_pattern.proofs.Facts.{eqb_same}
use Rattle.anti_pattern.proofs.First.{some_is, none_is, smaller_once, one_run_lengths, smaller_one, one_smaller, equal_lengths, one_first, EnumeratesBy, enumerates_by, enumerates, enumerates_first, enumerates_none}
use Rattle.anti_pattern.proofs.Listed.{all_member, member_right, member_split, ascending_before, ascending_after}
use Rattle.anti_pattern.proofs.Metering.{Split, enough, over, split, leb_true, leb_false}
use Rattle.anti_pattern.proofs.Placed.{AnswerIn, free_placed, shown_at_first_places, parts_one}
use Rattle.anti_pattern.proofs.Alike.{one_sym}
use Rattle.anti_pattern.proofs.Answers.{none_exactly, bound_exactly}
use Rattle.anti_pattern.proofs.Each.{each_at}
use Rattle.std.specs.Prelude.{Option, Some, None}

-- equal lists of numbers

pub numbers_equal : (xs ys : List ℕ) → same_numbers xs ys ≡ true → xs ≡ ys
numbers_equal [] [] h = refl
numbers_equal [] (y ∷ ys) h = absurd (false≢true h)
numbers_equal (x ∷ xs) [] h = absurd (false≢true h)
numbers_equal (x ∷ xs) (y ∷ ys) h = go (eqb x y) refl h (numbers_equal xs ys)
  where
    go : (m : Bool) → eqb x y ≡ m → m && same_numbers xs ys ≡ true → (same_numbers xs ys ≡ true → xs ≡ ys) → x ∷ xs ≡ y ∷ ys
    go true e h r = ap₂ ◌∷◌ (eqb-true x y e) (r h)
    go false e h r = absurd (false≢true h)

pub numbers_same : (xs : List ℕ) → same_numbers xs xs ≡ true
numbers_same [] = refl
numbers_same (x ∷ xs) = rw (eqb_same x) (numbers_same xs)

-- what comes after the answer that is meant

data Resumes (is : Env → Bool) (o : Answers) : Result → Type 0 where
  not_there : All (λ e. is e ≡ false) (answers o) → Resumes is o fail
  there : {r : Result} (xs : List Env) (e : Env) → answers o ≡ xs ++ (e ∷ answers r.out) → is e ≡ true → Resumes is o r

resumes : (is : Env → Bool) (o : Answers) → Resumes is o (resumed is o)
resumes is failed = not_there tt
resumes is (found e n o) = go (is e) refl (resumes is o)
  where
    go : (m : Bool) → is e ≡ m → {x : Result} → Resumes is o x → Resumes is (found e n o) (cond m (record { out = o; cost = n }) x)
    go true h r = there [] e refl h
    go false h (not_there a) = not_there (h, a)
    go false h (there xs f p i) = there (e ∷ xs) f (ap (e ∷◌) p) i

-- a list of all satisfying assignments in order, at one of them

module _ (l : Language) (q : Pattern) (t : Term) where
  abbrev Later : Assignment → Assignment → Type 0
  Later a b = Smaller (run_lengths q a) (run_lengths q b)

  abbrev turned : (a b : Assignment) → CountAsOne l a b → CountAsOne l b a
  turned a b e v = one_sym l (a v) (b v) (e v)

  module _ (xs : List Assignment) (a : Assignment) (ys : List Assignment) (x : Enumerates l q t (xs ++ (a ∷ ys))) where
    -- those after it are those with later run lengths
    after_satisfies : (b : Assignment) → Member b ys → Satisfies l q t b × Later a b
    after_satisfies b m = (
      all_member (Satisfies l q t) (xs ++ (a ∷ ys)) b x.satisfy (member_right xs (a ∷ ys) b (inr m)),
      all_member (Later a) ys b (ascending_after Later xs a ys x.ascending).0 m,
    )

    later_after : (b : Assignment) → Satisfies l q t b → Later a b → (c : Assignment) × Member c ys × CountAsOne l c b
    later_after b s k =
        let c = x.listed b s in
        go c.0 c.2 (smaller_one l q a b c.0 (turned c.0 b c.2) k) (member_split xs (a ∷ ys) c.0 c.1)
      where
        go : (c : Assignment) → CountAsOne l c b → Later a c → Member c xs ⊎ Member c (a ∷ ys) → (c : Assignment) × Member c ys × CountAsOne l c b
        go c o k (inl m) =
            absurd (smaller_once (run_lengths q a) (run_lengths q c) k
            (all_member (λ d. Later d a) xs c (ascending_before Later xs a ys x.ascending) m))
        go c o k (inr (inl e)) = let z : Later a a = subst (Later a) (sym e) k in absurd (smaller_once (run_lengths q a) (run_lengths q a) z z)
        go c o k (inr (inr m)) = (c, m, o)

  last_of : (xs : List Assignment) (a : Assignment) → Enumerates l q t (xs ++ (a ∷ [])) → Last l q t a
  last_of xs a x = λ c s k. (later_after xs a [] x c s k).1

  next_of : (xs : List Assignment) (a b : Assignment) (ys : List Assignment) → Enumerates l q t (xs ++ (a ∷ (b ∷ ys))) → NextAfter l q t a b
  next_of xs a b ys x =
      let n = after_satisfies xs a (b ∷ ys) x b (inl refl) in record {
        satisfies = n.0;
        later = n.1;
        least = λ c s k. let d = later_after xs a (b ∷ ys) x c s k in go c d.0 d.2 d.1;
      }
    where
      go : (c d : Assignment) → CountAsOne l d c → Member d (b ∷ ys) → Later b c ⊎ CountAsOne l b c
      go c d o (inl e) = inr (subst (λ (y : Assignment). CountAsOne l y c) (sym e) o)
      go c d o (inr m) = inl (smaller_one l q b d c o (all_member (Later b) ys d (ascending_after Later xs a (b ∷ ys) x.ascending).1.0 m))

  -- there is one next after those that count as one
  one_next : (a a' b c : Assignment) → CountAsOne l a a' → NextAfter l q t a b → NextAfter l q t a' c → CountAsOne l b c
  one_next a a' b c o m n =
      go (m.least c n.satisfies (one_smaller l q a' a c (turned a a' o) n.later)) (n.least b m.satisfies (one_smaller l q a a' b o m.later))
    where
      go : Later b c ⊎ CountAsOne l b c → Later c b ⊎ CountAsOne l c b → CountAsOne l b c
      go (inr e) k = e
      go (inl h) (inr e) = turned c b e
      go (inl h) (inl k) = absurd (smaller_once (run_lengths q b) (run_lengths q c) h k)

  one_given : (given : List ℕ) (a b : Assignment) → Given l q t given a → Given l q t given b → CountAsOne l a b
  one_given given a b g h = equal_lengths l q t a b g.satisfies h.satisfies (g.lengths ∙ sym h.lengths)

-- lengths that are given, one for each run name

pub cond_false : (m b : Bool) → cond m true b ≡ false → (m ≡ false) × (b ≡ false)
cond_false true b h = absurd (false≢true (sym h))
cond_false false b h = (refl, h)

abbrev pub Distinct : List ℕ → Type 0
Distinct [] = Unit {0}
Distinct (v ∷ vs) = (among v vs ≡ false) × Distinct vs

among_without : (v i : ℕ) (vs : List ℕ) → among i vs ≡ false → among i (without v vs) ≡ false
among_without v i [] h = refl
among_without v i (u ∷ us) h =
    let c = cond_false (eqb u i) (among i us) h in go (eqb v u) c.0 (among_without v i us c.1)
  where
    go : (m : Bool) → eqb u i ≡ false → among i (without v us) ≡ false → among i (cond m (without v us) (u ∷ without v us)) ≡ false
    go true e r = r
    go false e r = rw e r

eqb_swap : (v u : ℕ) → eqb v u ≡ false → eqb u v ≡ false
eqb_swap v u h = go (eqb u v) refl
  where
    go : (m : Bool) → eqb u v ≡ m → m ≡ false
    go true e = absurd (false≢true (sym h ∙ eq-eqb v u (sym (eqb-true u v e))))
    go false e = refl

among_removed : (v : ℕ) (vs : List ℕ) → among v (without v vs) ≡ false
among_removed v [] = refl
among_removed v (u ∷ us) = go (eqb v u) refl (among_removed v us)
  where
    go : (m : Bool) → eqb v u ≡ m → among v (without v us) ≡ false → among v (cond m (without v us) (u ∷ without v us)) ≡ false
    go true e r = r
    go false e r = rw (eqb_swap v u e) r

distinct_without : (v : ℕ) (vs : List ℕ) → Distinct vs → Distinct (without v vs)
distinct_without v [] d = tt
distinct_without v (u ∷ us) d = go (eqb v u) (distinct_without v us d.1)
  where
    go : (m : Bool) → Distinct (without v us) → Distinct (cond m (without v us) (u ∷ without v us))
    go true r = r
    go false r = (among_without v u us d.0, r)

pub distinct_firsts : (vs : List ℕ) → Distinct (firsts vs)
distinct_firsts [] = tt
distinct_firsts (v ∷ vs) = (among_removed v (firsts vs), distinct_without v (firsts vs) (distinct_firsts vs))

-- one list within another
abbrev Within : List ℕ → List ℕ → Type 0
Within ws vs = (i : ℕ) → among i ws ≡ true → among i vs ≡ true

within_cons : (v : ℕ) (ws vs : List ℕ) → Within ws vs → Within (v ∷ ws) (v ∷ vs)
within_cons v ws vs f i h = go (eqb v i) h
  where
    go : (m : Bool) → cond m true (among i ws) ≡ true → cond m true (among i vs) ≡ true
    go true h = refl
    go false h = f i h

pub within_skip : (v : ℕ) (ws vs : List ℕ) → Within ws vs → Within ws (v ∷ vs)
within_skip v ws vs f i h = go (eqb v i)
  where
    go : (m : Bool) → cond m true (among i vs) ≡ true
    go true = refl
    go false = f i h

within_without : (v : ℕ) (vs : List ℕ) → Within (without v vs) vs
within_without v [] i h = h
within_without v (u ∷ us) i h = go (within_without v us) (eqb v u) h
  where
    go : Within (without v us) us → (m : Bool) → among i (cond m (without v us) (u ∷ without v us)) ≡ true → among i (u ∷ us) ≡ true
    go f true h = within_skip u (without v us) us f i h
    go f false h = within_cons u (without v us) us f i h

pub within_firsts : (vs : List ℕ) → Within (firsts vs) vs
within_firsts [] i h = h
within_firsts (v ∷ vs) i h = within_cons v (without v (firsts vs)) vs (λ j k. within_firsts vs j (within_without v (firsts vs) j k)) i h

mutual
  within_runs : (q : Pattern) (ws vs : List ℕ) → Within ws vs → Within (runs q ws) (vars q vs)
  within_runs (name v) ws vs f = within_skip v ws vs f
  within_runs (symbol s qs) ws vs f = within_runs_all qs ws vs f
  within_runs (complement q) ws vs f = f

  within_runs_all : (qs : Children) (ws vs : List ℕ) → Within ws vs → Within (runs_all qs ws) (vars_all qs vs)
  within_runs_all end ws vs f = f
  within_runs_all (plain q qs) ws vs f = within_runs q (runs_all qs ws) (vars_all qs vs) (within_runs_all qs ws vs f)
  within_runs_all (run v qs) ws vs f = within_cons v (runs_all qs ws) (vars_all qs vs) (within_runs_all qs ws vs f)

-- a free run name is assigned
pub run_assigned : (l : Language) (q : Pattern) (t : Term) (a : Assignment) → Satisfies l q t a → (v : ℕ) → among v (free_runs q) ≡ true
    → (w : Terms) × (a v ≡ Some w)
unfolding Extends
run_assigned l q t a s v h =
    let m : among v (free q) ≡ true = within_runs q [] [] (λ i k. k) v (within_firsts (runs q []) v h) in
    let w = subst (λ (c : Bool). ExtendsAt (TermsOf l) None c (a v)) m (s.exact v) in (w.0, w.2)

given_outside : (vs ns : List ℕ) (v : ℕ) → among v vs ≡ false → given_to vs ns v ≡ every
given_outside [] ns v h = refl
given_outside (u ∷ vs) [] v h = refl
given_outside (u ∷ vs) (n ∷ ns) v h = let c = cond_false (eqb u v) (among v vs) h in rw c.0 (given_outside vs ns v c.1)

mutual
  names_may : (vs ns : List ℕ) (q : Pattern) → NoName vs q → NamesMay (given_to vs ns) q
  names_may vs ns (name v) h = subst (λ (m : Tries). Permits m 1) (sym (given_outside vs ns v h)) tt
  names_may vs ns (symbol s qs) h = all_names_may vs ns qs h
  names_may vs ns (complement q) h = tt

  all_names_may : (vs ns : List ℕ) (qs : Children) → NoNames vs qs → AllMay (given_to vs ns) qs
  all_names_may vs ns end h = tt
  all_names_may vs ns (plain q qs) h = (names_may vs ns q h.0, all_names_may vs ns qs h.1)
  all_names_may vs ns (run v qs) h = all_names_may vs ns qs h

head_number : {x y : ℕ} {xs ys : List ℕ} → x ∷ xs ≡ y ∷ ys → x ≡ y
head_number h = cc

tail_numbers : {x y : ℕ} {xs ys : List ℕ} → x ∷ xs ≡ y ∷ ys → xs ≡ ys
tail_numbers h = cc

-- an assignment has the lengths given exactly if it has the only lengths tried
pub lengths_permit : (vs ns : List ℕ) (a : Assignment) → map (λ v. length_of (a v)) vs ≡ ns → Permitted (given_to vs ns) a
lengths_permit [] ns a e u w h = tt
lengths_permit (v ∷ vs) [] a e u w h = tt
lengths_permit (v ∷ vs) (n ∷ ns) a e u w h = go (eqb v u) refl (lengths_permit vs ns a (tail_numbers e) u w h)
  where
    go : (m : Bool) → eqb v u ≡ m → Permits (given_to vs ns u) (count w) → Permits (cond m (only n) (given_to vs ns u)) (count w)
    go true q r = sym (head_number e) ∙ ap (λ (i : ℕ). length_of (a i)) (eqb-true v u q) ∙ ap length_of h
    go false q r = r

permit_lengths : (vs ns : List ℕ) (a : Assignment) → length ns ≡ length vs → Distinct vs
    → ((v : ℕ) → among v vs ≡ true → (w : Terms) × (a v ≡ Some w))
    → ((v : ℕ) (w : Terms) → among v vs ≡ true → a v ≡ Some w → Permits (given_to vs ns v) (count w)) → map (λ v. length_of (a v)) vs ≡ ns
permit_lengths [] [] a fit d s p = refl
permit_lengths [] (n ∷ ns) a fit d s p = absurd (omega (arith, fit))
permit_lengths (v ∷ vs) [] a fit d s p = absurd (omega (arith, fit))
permit_lengths (v ∷ vs) (n ∷ ns) a fit d s p =
    let here : among v (v ∷ vs) ≡ true = rw (eqb_same v) in
    let x = s v here in
    let i : n ≡ count x.0 = subst (λ (m : Bool). Permits (cond m (only n) (given_to vs ns v)) (count x.0)) (eqb_same v) (p v x.0 here x.1) in
    ap₂ ◌∷◌ (ap length_of x.1 ∙ sym i)
    (permit_lengths vs ns a (omega (arith, fit)) d.1 (λ u h. s u (within_skip v vs vs (λ j k. k) u h))
    (λ u w h e. go u (eqb v u) refl h (count w) (p u w (within_skip v vs vs (λ j k. k) u h) e)))
  where
    go : (u : ℕ) (m : Bool) → eqb v u ≡ m → among u vs ≡ true → (k : ℕ) → Permits (cond m (only n) (given_to vs ns u)) k → Permits (given_to vs ns u) k
    go u true e h k r = absurd (false≢true (sym d.0 ∙ subst (λ (j : ℕ). among j vs ≡ true) (sym (eqb-true v u e)) h))
    go u false e h k r = r

-- the check

member_value : (es : List Env) (e : Env) → Member e es → Member e.value (map (λ f. f.value) es)
member_value [] e m = m
member_value (f ∷ es) e (inl h) = inl (ap (λ (g : Env). g.value) h)
member_value (f ∷ es) e (inr m) = inr (member_value es e m)

module _ (l : Language) (q : Pattern) (t : Term) (of : TermOf l t) (apart : NoName (free_runs q) q) (given : List ℕ) (each : OneForEach q given) where
  checks : EnumeratesBy l (given_to (free_runs q) given) q t (values (check_given l q t given).out)
  unfolding check_given
  checks = enumerates_by l q t of (given_to (free_runs q) given) (names_may (free_runs q) given q apart)

  pub check_answers : (e : Env) → AnswerIn (check_given l q t given).out e → Given l q t given e.value
  check_answers e m =
      let s = all_member (λ a. Satisfies l q t a × Permitted (given_to (free_runs q) given) a) (values (check_given l q t given).out) e.value checks.satisfy
      (member_value (answers (check_given l q t given).out) e m) in record {
        satisfies = s.0;
        lengths = permit_lengths (free_runs q) given e.value each (distinct_firsts (runs q [])) (run_assigned l q t e.value s.0)
            (λ v w m k. s.1 v w k);
      }

  check_known : (e : Env) (n : ℕ) (o : Answers) → (check_given l q t given).out ≡ found e n o → Given l q t given e.value
  check_known e n o h = check_answers e (subst (λ (x : Answers). AnswerIn x e) (sym h) (inl refl))

  check_unknown : (check_given l q t given).out ≡ failed → (a : Assignment) → Given l q t given a → ⊥
  check_unknown h a g =
      let m = checks.listed a g.satisfies (lengths_permit (free_runs q) given a g.lengths) in
      subst (λ (x : Answers). Member m.0 (values x)) h m.1

-- what comes after the given answer

join_assoc : (xs : List Assignment) (a : Assignment) (ys : List Assignment) → (xs ++ (a ∷ [])) ++ ys ≡ xs ++ (a ∷ ys)
join_assoc [] a ys = refl
join_assoc (x ∷ xs) a ys = ap (x ∷◌) (join_assoc xs a ys)

map_join : (xs ys : List Env) → map (λ e. e.value) (xs ++ ys) ≡ map (λ e. e.value) xs ++ map (λ e. e.value) ys
map_join [] ys = refl
map_join (x ∷ xs) ys = ap (x.value ∷◌) (map_join xs ys)

-- what is the same for each of some variables
pub map_among : (f g : ℕ → ℕ) (vs : List ℕ) → ((v : ℕ) → among v vs ≡ true → f v ≡ g v) → map f vs ≡ map g vs
map_among f g [] h = refl
map_among f g (v ∷ vs) h = ap₂ ◌∷◌ (h v (rw (eqb_same v))) (map_among f g vs (λ u m. h u (within_skip v vs vs (λ j k. k) u m)))

length_map : (f : ℕ → ℕ) (vs : List ℕ) → length (map f vs) ≡ length vs
length_map f [] = refl
length_map f (v ∷ vs) = ap suc (length_map f vs)

module _ (l : Language) (q : Pattern) (t : Term) (given : List ℕ) where
  pub one_for_each_holds : (a : Assignment) → Given l q t given a → OneForEach q given
  one_for_each_holds a g = ap length (sym g.lengths) ∙ length_map (λ v. length_of (a v)) (free_runs q)

module _ (l : Language) (q : Pattern) (t : Term) (of : TermOf l t) (given : List ℕ) where
  -- it is among the answers
  given_there : (a : Assignment) → Given l q t given a → All (λ e. has_lengths q given e ≡ false) (answers (whole l q t).out) → ⊥
  given_there a g =
      let m = (enumerates l q t of).listed a g.satisfies in
      go m.0 (one_run_lengths l q m.0 a m.2 ∙ g.lengths) (answers (whole l q t).out) m.1
    where
      go : (c : Assignment) → run_lengths q c ≡ given → (es : List Env) → Member c (map (λ e. e.value) es)
          → All (λ e. has_lengths q given e ≡ false) es → ⊥
      go c i [] m h = m
      go c i (e ∷ es) (inl p) h =
          false≢true (sym h.0 ∙ subst (λ (b : Assignment). same_numbers (run_lengths q b) given ≡ true) (sym p)
          (subst (λ (ns : List ℕ). same_numbers (run_lengths q c) ns ≡ true) i (numbers_same (run_lengths q c))))
      go c i (e ∷ es) (inr m) h = go c i es m h.1

  -- the search resumed after it: fails with no count where there is none; else its answers are those after the given one
  data After : Result → Type 0 where
    unmeant : ((a : Assignment) → Given l q t given a → ⊥) → After fail
    meant : {r : Result} (xs : List Assignment) (a : Assignment) → Given l q t given a → Enumerates l q t (xs ++ (a ∷ values r.out))
        → ((e : Env) → AnswerIn r.out e → AnswerIn (whole l q t).out e) → After r

  resumed_after_holds : After (resumed_after l q t given)
  unfolding resumed_after
  resumed_after_holds = go (resumes (has_lengths q given) (whole l q t).out)
    where
      go : {r : Result} → Resumes (has_lengths q given) (whole l q t).out r → After r
      go (not_there h) = unmeant (λ a g. given_there a g h)
      go {r} (there xs e p i) =
          let m : assignments l q t ≡ map (λ e. e.value) xs ++ (e.value ∷ values r.out) =
          ap (map (λ e. e.value)) p ∙ map_join xs (e ∷ answers r.out) in
          let x = subst (λ (bs : List Assignment). Enumerates l q t bs) m (enumerates l q t of) in
          meant (map (λ e. e.value) xs) e.value (record {
            satisfies = all_member (Satisfies l q t) (map (λ e. e.value) xs ++ (e.value ∷ values r.out)) e.value x.satisfy
                (member_right (map (λ e. e.value) xs) (e.value ∷ values r.out) e.value (inl refl));
            lengths = numbers_equal (run_lengths q e.value) given i;
          }) x
          (λ f k. subst (λ (es : List Env). Member f es) (sym p) (member_right xs (e ∷ answers r.out) f (inr k)))

  -- and the first of these is the next
  pub resumed_next : (e : Env) → first_answer (resumed_after l q t given).out ≡ Some e
      → (a : Assignment) × Given l q t given a × NextAfter l q t a e.value × AnswerIn (whole l q t).out e
  resumed_next e h = go resumed_after_holds h
    where
      first : (xs : List Assignment) (a : Assignment) → Given l q t given a → (o : Answers) → Enumerates l q t (xs ++ (a ∷ values o))
          → ((f : Env) → AnswerIn o f → AnswerIn (whole l q t).out f) → first_answer o ≡ Some e
          → (a : Assignment) × Given l q t given a × NextAfter l q t a e.value × AnswerIn (whole l q t).out e
      first xs a g (found f n o) x k h =
          subst (λ (y : Env). (a : Assignment) × Given l q t given a × NextAfter l q t a y.value × AnswerIn (whole l q t).out y) (some_is h)
          (a, g, next_of l q t xs a f.value (values o) x, k f (inl refl))
      first xs a g failed x k h = absurd (none_is h)

      go : {r : Result} → After r → first_answer r.out ≡ Some e
          → (a : Assignment) × Given l q t given a × NextAfter l q t a e.value × AnswerIn (whole l q t).out e
      go (unmeant u) h = absurd (none_is h)
      go {r} (meant xs a g x k) h = first xs a g r.out x k h

-- what the call comes to

module _ (l : Language) (k : Alike l.table l.classes) (q : Pattern) (t : Term) (of : TermOf l t) (apart : NoName (free_runs q) q) (given : List ℕ) where
  data Followed (n : ℕ) : Following → Type 0 where
    is_uneven : (OneForEach q given → ⊥) → Followed n unknown
    is_unknown : OneForEach q given → check_count l q t given ≤ n → next_count l q t given ≤ n
        → ((a : Assignment) → Given l q t given a → ⊥) → Followed n unknown
    is_spent : OneForEach q given → n < next_count l q t given → Followed n (follows (spent n))
    is_last : OneForEach q given → next_count l q t given ≤ n → (a : Assignment) → Given l q t given a → Last l q t a
        → Followed n (follows (nothing (next_count l q t given)))
    is_next : OneForEach q given → next_count l q t given ≤ n → (a b : Assignment) → Given l q t given a → NextAfter l q t a b
        → Followed n (follows (bound (parts_at l.table q t b) (next_count l q t given)))

  module _ (n : ℕ) where
    -- by the outcome of the resumed search
    shown_next : OneForEach q given → next_count l q t given ≤ n → (a : Assignment) → Given l q t given a → {r : Result} → After l q t of given r
        → Followed n (follows (matching_of l.table r.out (next_count l q t given)))
    shown_next each fit a g (unmeant u) = absurd (u a g)
    shown_next each fit a g {r} (meant xs b h m f) = go r.out m f
      where
        go : (o : Answers) → Enumerates l q t (xs ++ (b ∷ values o)) → ((e : Env) → AnswerIn o e → AnswerIn (whole l q t).out e)
            → Followed n (follows (matching_of l.table o (next_count l q t given)))
        go (found e k o) m f =
            let x = next_of l q t xs b e.value (values o) m in
            subst (λ (ps : List Part). Followed n (follows (bound ps (next_count l q t given))))
            (sym (shown_at_first_places l q t freely e (f e (inl refl)) x.satisfies)) (is_next each fit b e.value h x)
        go failed m f = is_last each fit b h (last_of l q t xs b m)

    no_count : ((a : Assignment) → Given l q t given a → ⊥) → {r : Result} → After l q t of given r → r.cost ≡ 0
    no_count u (unmeant h) = refl
    no_count u (meant xs a g fit f) = absurd (u a g)

    known_next : OneForEach q given → check_count l q t given ≤ n → (o : Answers) → (check_given l q t given).out ≡ o
        → Followed n (unknown_or o (λ u. spent_or (ltb n (next_count l q t given)) n
        (λ u. follows (matching_of l.table (resumed_after l q t given).out (next_count l q t given)))))
    known_next each fit (found e k o) h = go (split (next_count l q t given) n)
      where
        go : Split (next_count l q t given) n → Followed n (spent_or (ltb n (next_count l q t given)) n
            (λ u. follows (matching_of l.table (resumed_after l q t given).out (next_count l q t given))))
        go (over k) = rw (leb_true (suc n) (next_count l q t given) k) (is_spent each k)
        go (enough k) =
            rw (leb_false (suc n) (next_count l q t given) (omega arith))
            (shown_next each k e.value (check_known l q t of apart given each e _ _ h) (resumed_after_holds l q t of given))
    known_next each fit failed h =
        let u = check_unknown l q t of apart given each h in
        is_unknown each fit (omega (arith, no_count u (resumed_after_holds l q t of given))) u

    next_followed : Followed n (next l q t given n)
    unfolding next
    next_followed = go (eqb (length given) (length (free_runs q))) refl
      where
        within : OneForEach q given → Split (check_count l q t given) n
            → Followed n (spent_or (ltb n (check_count l q t given)) n
            (λ u. unknown_or (check_given l q t given).out (λ u. spent_or (ltb n (next_count l q t given)) n
            (λ u. follows (matching_of l.table (resumed_after l q t given).out (next_count l q t given))))))
        within each (over k) = rw (leb_true (suc n) (check_count l q t given) k) (is_spent each (omega arith))
        within each (enough k) = rw (leb_false (suc n) (check_count l q t given) (omega arith)) (known_next each k (check_given l q t given).out refl)

        go : (m : Bool) → eqb (length given) (length (free_runs q)) ≡ m
            → Followed n (one_for_each m (λ u. spent_or (ltb n (check_count l q t given)) n
            (λ u. unknown_or (check_given l q t given).out (λ u. spent_or (ltb n (next_count l q t given)) n
            (λ u. follows (matching_of l.table (resumed_after l q t given).out (next_count l q t given)))))))
        go true e = within (eqb-true (length given) (length (free_runs q)) e) (split (check_count l q t given) n)
        go false e = is_uneven (λ h. false≢true (sym e ∙ eq-eqb (length given) (length (free_runs q)) h))

    abbrev Spent : ℕ → Type 0
    Spent m = (m ≡ n) × OneForEach q given × (n < next_count l q t given)

    abbrev Missed : ℕ → Type 0
    Missed m = (m ≡ next_count l q t given) × (next_count l q t given ≤ n) × ((a : Assignment) × Given l q t given a × Last l q t a)

    abbrev Bound : List Part → ℕ → Type 0
    Bound ps m = (m ≡ next_count l q t given) × (next_count l q t given ≤ n)
        × ((a : Assignment) × (b : Assignment) × Given l q t given a × NextAfter l q t a b × (ps ≡ parts_at l.table q t b))

    unknown_there : Followed n unknown → UnknownLengths l q t given n
    unknown_there (is_uneven u) = inl u
    unknown_there (is_unknown each fit k u) = inr (each, fit, u)

    spent_there : {m : ℕ} → Followed n (follows (spent m)) → Spent m
    spent_there (is_spent each fit) = (refl, each, fit)

    none_there : {m : ℕ} → Followed n (follows (nothing m)) → Missed m
    none_there (is_last each fit a g h) = (refl, fit, (a, g, h))

    bound_there : {ps : List Part} {m : ℕ} → Followed n (follows (bound ps m)) → Bound ps m
    bound_there (is_next each fit a b g h) = (refl, fit, (a, b, g, h, refl))

    unknown_back : UnknownLengths l q t given n → {x : Following} → Followed n x → x ≡ unknown
    unknown_back s (is_uneven u) = refl
    unknown_back s (is_unknown each fit k u) = refl
    unknown_back (inl u) (is_spent each fit) = absurd (u each)
    unknown_back (inr s) (is_spent each fit) = absurd (omega (arith, s.1, no_count s.2 (resumed_after_holds l q t of given)))
    unknown_back (inl u) (is_last each fit a g h) = absurd (u each)
    unknown_back (inr s) (is_last each fit a g h) = absurd (s.2 a g)
    unknown_back (inl u) (is_next each fit a b g h) = absurd (u each)
    unknown_back (inr s) (is_next each fit a b g h) = absurd (s.2 a g)

    spent_back : (m : ℕ) → Spent m → {x : Following} → Followed n x → x ≡ follows (spent m)
    spent_back m s (is_uneven u) = absurd (u s.1)
    spent_back m s (is_unknown each fit k u) = absurd (omega (arith, s.2))
    spent_back m s (is_spent each fit) = ap (λ (i : ℕ). follows (spent i)) (sym s.0)
    spent_back m s (is_last each fit a g h) = absurd (omega (arith, s.2))
    spent_back m s (is_next each fit a b g h) = absurd (omega (arith, s.2))

    -- the given answer is not both the last and followed by another
    not_both : (a b c : Assignment) → Given l q t given a → Given l q t given b → Last l q t a → NextAfter l q t b c → ⊥
    not_both a b c g h fit x =
        fit c x.satisfies (one_smaller l q b a c (one_given l q t given b a h g) x.later)

    none_back : (m : ℕ) → Missed m → {x : Following} → Followed n x → x ≡ follows (nothing m)
    none_back m s (is_uneven u) = absurd (u (one_for_each_holds l q t given s.2.0 s.2.1))
    none_back m s (is_unknown each fit k u) = absurd (u s.2.0 s.2.1)
    none_back m s (is_spent each fit) = absurd (omega (arith, s.1))
    none_back m s (is_last each fit a g h) = ap (λ (i : ℕ). follows (nothing i)) (sym s.0)
    none_back m s (is_next each fit a b g h) = absurd (not_both s.2.0 a b s.2.1 g s.2.2 h)

    bound_back : (ps : List Part) (m : ℕ) → Bound ps m → {x : Following} → Followed n x → x ≡ follows (bound ps m)
    bound_back ps m s (is_uneven u) = absurd (u (one_for_each_holds l q t given s.2.0 s.2.2))
    bound_back ps m s (is_unknown each fit k u) = absurd (u s.2.0 s.2.2)
    bound_back ps m s (is_spent each fit) = absurd (omega (arith, s.1))
    bound_back ps m s (is_last each fit a g h) = absurd (not_both a s.2.0 s.2.1 g s.2.2 h s.2.3)
    bound_back ps m s (is_next each fit a b g h) =
        let j = one_next l q t a s.2.0 b s.2.1 (one_given l q t given a s.2.0 g s.2.2) h s.2.3 in
        ap₂ (λ (ps : List Part) (i : ℕ). follows (bound ps i)) (parts_one l k q t b s.2.1 j ∙ sym s.2.4) (sym s.0)

  pub next_exact : (n : ℕ) → NextExact l q t given n
  next_exact n = record {
    unknown_exactly = (λ e. unknown_there n (subst (Followed n) e (next_followed n)), λ s. unknown_back n s (next_followed n));
    spent_exactly = λ m. (λ e. spent_there n (subst (Followed n) e (next_followed n)), λ s. spent_back n m s (next_followed n));
    none_exactly = λ m. (λ e. none_there n (subst (Followed n) e (next_followed n)), λ s. none_back n m s (next_followed n));
    bound_exactly = λ ps m. (λ e. bound_there n (subst (Followed n) e (next_followed n)), λ s. bound_back n ps m s (next_followed n));
    larger_allowance = λ more fit k. more_same more fit k (next_followed n);
  }
    where
      more_same : (more : ℕ) → next_count l q t given ≤ n → n ≤ more → {x : Following} → Followed n x → next l q t given more ≡ x
      more_same more fit k (is_uneven u) = unknown_back more (inl u) (next_followed more)
      more_same more fit k (is_unknown each i j u) = unknown_back more (inr (each, omega arith, u)) (next_followed more)
      more_same more fit k (is_spent each i) = absurd (omega arith)
      more_same more fit k (is_last each i a g h) = none_back more _ (refl, omega arith, (a, g, h)) (next_followed more)
      more_same more fit k (is_next each i a b g h) = bound_back more _ _ (refl, omega arith, (a, b, g, h, refl)) (next_followed more)

-- the calls from the first on

module _ (l : Language) (k : Alike l.table l.classes) (q : Pattern) (t : Term) (of : TermOf l t) (apart : NoName (free_runs q) q) (few : (v : ℕ) → among v (free_runs q) ≡ true → v < variables) where
  -- the lengths shown are the run lengths
  element_shown : (a : Assignment) → Satisfies l q t a → (v : ℕ) → among v (free_runs q) ≡ true
      → (get_or (parts_at l.table q t a) v (part 0 0 0)).elements ≡ length_of (a v)
  element_shown a s v m =
      let p = free_placed l q t a s v (within_runs q [] [] (λ i k. k) v (within_firsts (runs q []) v m)) in
      ap (λ (x : Part). x.elements) (each_at (variable_part l.table q t a) 0 variables v (few v m) ∙ ap (variable_part l.table q t a) (omega arith))
      ∙ ap₂ (λ (x : Option ℕ) (y : Option Terms). (or_absent x (assigned_part l.table y)).elements) p.2 p.3 ∙ sym (ap length_of p.3)

  lengths_shown_holds : (a : Assignment) → Satisfies l q t a → lengths_shown q (parts_at l.table q t a) ≡ run_lengths q a
  lengths_shown_holds a s = map_among (λ v. (get_or (parts_at l.table q t a) v (part 0 0 0)).elements) (λ v. length_of (a v)) (free_runs q) (element_shown a s)

  -- that the lengths of the next answer are given to the next call
  given_next : (b : Assignment) (ps : List Part) → Satisfies l q t b → ps ≡ parts_at l.table q t b → Given l q t (lengths_shown q ps) b
  given_next b ps s e = record { satisfies = s; lengths = sym (ap (lengths_shown q) e ∙ lengths_shown_holds b s) }

  asked : {given : List ℕ} {pss : List (List Part)} → Asked l q t given pss → (xs : List Assignment) (a : Assignment) (ys : List Assignment)
      → Given l q t given a → Enumerates l q t (xs ++ (a ∷ ys)) → pss ≡ map (parts_at l.table q t) ys
  asked {given} (no_more n m e) xs a ys g all =
      let s = (((next_exact l k q t of apart given n).none_exactly m).0 e).2 in go ys all s.0 s.1 s.2
    where
      go : (ys : List Assignment) → Enumerates l q t (xs ++ (a ∷ ys)) → (b : Assignment) → Given l q t given b → Last l q t b → [] ≡ map (parts_at l.table q t) ys
      go [] all b h z = refl
      go (c ∷ ys) all b h z = absurd (not_both l k q t of apart given n b a c h g z (next_of l q t xs a c ys all))
  asked {given} {pss} (one_more {ps = ps} {pss = more} n m e rest) xs a ys g all =
      let s = (((next_exact l k q t of apart given n).bound_exactly ps m).0 e).2 in
      go ys all s.0 s.1 s.2 s.3 s.4 (asked rest)
    where
      go : (ys : List Assignment) → Enumerates l q t (xs ++ (a ∷ ys)) → (b c : Assignment) → Given l q t given b → NextAfter l q t b c → ps ≡ parts_at l.table q t c
          → ((zs : List Assignment) (d : Assignment) (ys : List Assignment) → Given l q t (lengths_shown q ps) d → Enumerates l q t (zs ++ (d ∷ ys))
          → more ≡ map (parts_at l.table q t) ys)
          → ps ∷ more ≡ map (parts_at l.table q t) ys
      go [] all b c h x p r = absurd (not_both l k q t of apart given n a b c g h (last_of l q t xs a all) x)
      go (d ∷ ys) all b c h x p r =
          let y = next_of l q t xs a d ys all in
          let j = one_next l q t b a c d (one_given l q t given b a h g) x y in
          let z = p ∙ parts_one l k q t c d j in
          ap₂ ◌∷◌ z (r (xs ++ (a ∷ [])) d ys (given_next d ps y.satisfies z) (subst (Enumerates l q t) (sym (join_assoc xs a (d ∷ ys))) all))

  calls : {pss : List (List Part)} → Calls l q t pss → (bs : List Assignment) → Enumerates l q t bs → pss ≡ map (parts_at l.table q t) bs
  calls (none_at_all n m e) [] all = refl
  calls (none_at_all n m e) (a ∷ bs) all = absurd (((none_exactly l k q t of n m).0 e).2 a (enumerates_first l q t a bs all).satisfies)
  calls (from_first {ps = ps} n m e rest) [] all =
      let s = ((bound_exactly l k q t of n ps m).0 e).2 in absurd (enumerates_none l q t all s.0 s.1.satisfies)
  calls (from_first {ps = ps} n m e rest) (a ∷ bs) all =
      let s = ((bound_exactly l k q t of n ps m).0 e).2 in
      let f = enumerates_first l q t a bs all in
      let p : ps ≡ parts_at l.table q t a = s.2 ∙ parts_one l k q t s.0 a (one_first l q t s.0 a s.1 f) in
      ap₂ ◌∷◌ p (asked rest [] a bs (given_next a ps f.satisfies p) all)

  -- calls that list them, each with what it counts for its allowance
  asking : (given : List ℕ) (xs : List Assignment) (a : Assignment) (ys : List Assignment) → Given l q t given a → Enumerates l q t (xs ++ (a ∷ ys))
      → Asked l q t given (map (parts_at l.table q t) ys)
  asking given xs a [] g e =
      let n = next_count l q t given in
      no_more n n (((next_exact l k q t of apart given n).none_exactly n).1 (refl, omega arith, (a, g, last_of l q t xs a e)))
  asking given xs a (b ∷ ys) g e =
      let n = next_count l q t given in
      let x = next_of l q t xs a b ys e in
      one_more n n (((next_exact l k q t of apart given n).bound_exactly (parts_at l.table q t b) n).1 (refl, omega arith, (a, b, g, x, refl)))
      (asking (lengths_shown q (parts_at l.table q t b)) (xs ++ (a ∷ [])) b ys (given_next b (parts_at l.table q t b) x.satisfies refl)
      (subst (Enumerates l q t) (sym (join_assoc xs a (b ∷ ys))) e))

  calling : (bs : List Assignment) → Enumerates l q t bs → Calls l q t (map (parts_at l.table q t) bs)
  calling [] e = let n = count_of l q t in none_at_all n n ((none_exactly l k q t of n n).1 (refl, omega arith, enumerates_none l q t e))
  calling (a ∷ bs) e =
      let n = count_of l q t in
      let f = enumerates_first l q t a bs e in
      from_first n n ((bound_exactly l k q t of n (parts_at l.table q t a) n).1 (refl, omega arith, (a, f, refl)))
      (asking (lengths_shown q (parts_at l.table q t a)) [] a bs (given_next a (parts_at l.table q t a) f.satisfies refl) e)

  pub every_answer : EveryAnswer l q t
  every_answer =
      let x = enumerates l q t of in record {
        listed = x;
        shown = λ pss c. calls c (assignments l q t) x;
        callable = calling (assignments l q t) x;
      }
