-- Where the full search fails, whatever comes next: a number of elements that can't come out.
use Prim.Native.Nat.{ℕ, zero, suc, ◌+◌, ◌<◌, ◌≤◌}
use mathlib.Core.Path.{◌≡◌, refl, sym, ◌∙◌, ap}
use mathlib.Core.List.{List, [], ◌∷◌, ◌++◌}
use mathlib.Core.Bool.{Bool, true, false}
use native.Mathlib.Omega.{arith}
use lib.Dec.{eqb}
use Rattle.term.specs.Pattern.{Pattern, name, symbol, complement, Children, end, plain, run}
use Rattle.term.specs.Table.{width}
use Rattle.term.specs.Term.{Term, node, Terms, nil, ◌::◌, ◌⧺◌, count, single, size, sizes}
use Rattle.term.specs.Class.{class_of}
use Rattle.anti_pattern.specs.Search.{Env, bind, Answers, found, failed, first_answer, Result, if_true, if_some, after, Deferred, Continuation, finish, assign, lengths, behind, freely, every, try_run, search, searches}
use Rattle.anti_pattern.proofs.Facts.{behind_alike, count_join, join_nil, join_one}
use Rattle.plain.specs.Plain.{run_names, plain_children}
use Rattle.plain.specs.Tier.{taken, left}
use Rattle.std.specs.Prelude.{Option, Some, None}

pub true_fails : (m : Bool) (f : Unit {0} → Result) → (f tt).out ≡ failed → (if_true m f).out ≡ failed
true_fails true f h = h
true_fails false f h = refl

some_fails : {A : Type 0} (o : Option A) (f : A → Result) → ((x : A) → o ≡ Some x → (f x).out ≡ failed) → (if_some o f).out ≡ failed
some_fails None f h = refl
some_fails (Some x) f h = h x refl

-- after a failure the second decides; where the second fails, the first does
after_failed : (o : Answers) (n : ℕ) (f : Unit {0} → Result) → o ≡ failed → (after o n f).out ≡ (f tt).out
after_failed o n f h = rw h refl

after_first : (o : Answers) (n : ℕ) (f : Unit {0} → Result) → (f tt).out ≡ failed → first_answer (after o n f).out ≡ first_answer o
after_first (found e m o) n f h = refl
after_first failed n f h = ap first_answer h

-- no length succeeds
lengths_fail : (w ts : Terms) (f : Terms → Terms → Result) → ((x us : Terms) → count us ≤ count ts → (f x us).out ≡ failed)
    → (lengths w ts f).out ≡ failed
lengths_fail w nil f h = h w nil (omega arith)
lengths_fail w (t :: ts) f h =
    after_failed (f w (t :: ts)).out (1 + (f w (t :: ts)).cost) (λ u. lengths (w ⧺ single t) ts f) (h w (t :: ts) (omega arith))
    ∙ lengths_fail (w ⧺ single t) ts f (λ x us l. h x us (omega arith))

-- one number of elements left alone can succeed
abbrev pub Wrong : (Terms → Terms → Result) → ℕ → Type 0
Wrong f m = (x us : Terms) → (count us ≡ m → ⊥) → (f x us).out ≡ failed

pub right_length : (n : ℕ) (w ts : Terms) (f : Terms → Terms → Result) (m : ℕ) → n + m ≡ count ts → Wrong f m
    → first_answer (lengths w ts f).out ≡ first_answer (f (w ⧺ taken n ts) (left n ts)).out
right_length zero w nil f m c h = ap (λ (x : Terms). first_answer (f x nil).out) (sym (join_nil w))
right_length zero w (t :: ts) f m c h =
    after_first (f w (t :: ts)).out (1 + (f w (t :: ts)).cost) (λ u. lengths (w ⧺ single t) ts f)
    (lengths_fail (w ⧺ single t) ts f (λ x us l. h x us (λ e. omega arith)))
    ∙ ap (λ (x : Terms). first_answer (f x (t :: ts)).out) (sym (join_nil w))
right_length (suc n) w nil f m c h = absurd (omega arith)
right_length (suc n) w (t :: ts) f m c h =
    ap first_answer (after_failed (f w (t :: ts)).out (1 + (f w (t :: ts)).cost) (λ u. lengths (w ⧺ single t) ts f) (h w (t :: ts) (λ e. omega arith)))
    ∙ right_length n (w ⧺ single t) ts f m (omega arith) h
    ∙ ap (λ (x : Terms). first_answer (f x (left n ts)).out) (join_one w t (taken n ts))

-- a run name, whatever it takes
run_fails : (classes : List ℕ) (o : Option Terms) (ts : Terms) (f g : Terms → Terms → Result)
    → ((x us : Terms) → count us ≤ count ts → (f x us).out ≡ failed) → ((x us : Terms) → count us ≤ count ts → (g x us).out ≡ failed)
    → (try_run classes o every ts f g).out ≡ failed
run_fails classes None ts f g h k = lengths_fail nil ts f h
run_fails classes (Some w) ts f g h k =
    some_fails (behind classes w ts) (g w)
    (λ us b. let a = behind_alike classes w ts us b in k w us (omega (arith, ap count a.1, count_join a.0 us)))

module _ (table classes : List ℕ) where
  -- what comes next always fails
  mutual
    unfolding search

    search_fails : (q : Pattern) (t : Term) (at : ℕ) (e : Env) (put : List Deferred) (k : Continuation)
        → ((f : Env) (ds : List Deferred) → (k f ds).out ≡ failed) → (search table classes freely q t at e put k).out ≡ failed
    search_fails (name v) t at e put k h = some_fails (assign classes e v at (single t)) (λ f. k f put) (λ f o. h f put)
    search_fails (symbol s qs) (node r ts) at e put k h =
        true_fails (eqb (class_of classes s) (class_of classes r)) (λ u. searches table classes freely qs ts (at + width table r) e put k) (searches_fail qs ts (at + width table r) e put k h)
    search_fails (complement q) t at e put k h = h e (put ++ ((λ f. search table classes freely q t at f [] finish) ∷ []))

    searches_fail : (qs : Children) (ts : Terms) (at : ℕ) (e : Env) (put : List Deferred) (k : Continuation)
        → ((f : Env) (ds : List Deferred) → (k f ds).out ≡ failed) → (searches table classes freely qs ts at e put k).out ≡ failed
    searches_fail end nil at e put k h = h e put
    searches_fail end (t :: ts) at e put k h = refl
    searches_fail (plain q qs) nil at e put k h = refl
    searches_fail (plain q qs) (t :: ts) at e put k h =
        search_fails q t at e put (λ f ds. searches table classes freely qs ts (at + size table t) f ds k)
        (λ f ds. searches_fail qs ts (at + size table t) f ds k h)
    searches_fail (run v qs) ts at e put k h =
        run_fails classes (e.value v) ts (λ w us. searches table classes freely qs us (at + sizes table w) (bind e v at w) put k)
        (λ w us. searches table classes freely qs us (at + sizes table w) e put k)
        (λ w us l. searches_fail qs us (at + sizes table w) (bind e v at w) put k h)
        (λ w us l. searches_fail qs us (at + sizes table w) e put k h)

  -- without a run name: another number of elements than of child patterns
  pub unequal_fails : (qs : Children) (ts : Terms) (at : ℕ) (e : Env) (put : List Deferred) (k : Continuation) → run_names qs ≡ 0
      → (count ts ≡ plain_children qs → ⊥) → (searches table classes freely qs ts at e put k).out ≡ failed
  unfolding search
  unequal_fails end nil at e put k r h = absurd (h refl)
  unequal_fails end (t :: ts) at e put k r h = refl
  unequal_fails (plain q qs) nil at e put k r h = refl
  unequal_fails (plain q qs) (t :: ts) at e put k r h =
      search_fails q t at e put (λ f ds. searches table classes freely qs ts (at + size table t) f ds k)
      (λ f ds. unequal_fails qs ts (at + size table t) f ds k r (λ i. h (ap suc i)))
  unequal_fails (run v qs) ts at e put k r h = absurd (omega arith)

  -- with or without: fewer elements than plain child patterns
  pub fewer_fails : (qs : Children) (ts : Terms) (at : ℕ) (e : Env) (put : List Deferred) (k : Continuation)
      → count ts < plain_children qs → (searches table classes freely qs ts at e put k).out ≡ failed
  unfolding search
  fewer_fails end ts at e put k h = absurd (omega arith)
  fewer_fails (plain q qs) nil at e put k h = refl
  fewer_fails (plain q qs) (t :: ts) at e put k h =
      search_fails q t at e put (λ f ds. searches table classes freely qs ts (at + size table t) f ds k)
      (λ f ds. fewer_fails qs ts (at + size table t) f ds k (omega arith))
  fewer_fails (run v qs) ts at e put k h =
      run_fails classes (e.value v) ts (λ w us. searches table classes freely qs us (at + sizes table w) (bind e v at w) put k)
      (λ w us. searches table classes freely qs us (at + sizes table w) e put k)
      (λ w us l. fewer_fails qs us (at + sizes table w) (bind e v at w) put k (omega arith))
      (λ w us l. fewer_fails qs us (at + sizes table w) e put k (omega arith))
