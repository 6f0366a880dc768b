-- The next answer in one pass, step by step.
use Prim.Native.Nat.{ℕ, zero, suc, ◌+◌, ◌-◌, ◌<◌, ◌≤◌}
use mathlib.Core.Path.{◌≡◌, refl, sym, ◌∙◌, ap, ap₂, subst}
use mathlib.Core.Logic.{◌⊎◌, inl, inr}
use mathlib.Core.List.{List, [], ◌∷◌, ◌++◌, map}
use mathlib.Core.Bool.{Bool, true, false, cond, false≢true, not-eq-not}
use native.Mathlib.Omega.{arith}
use lib.ListN.{length}
use lib.Dec.{eqb, leb, ltb}
use borrow.Author.Tests.{eq-eqb}
use Rattle.term.specs.Class.{class_of}
use Rattle.term.specs.Pattern.{Pattern, name, symbol, complement, Children, end, plain, run}
use Rattle.term.specs.Table.{width}
use Rattle.term.specs.Term.{Term, node, Terms, nil, ◌::◌, ◌⧺◌, count, single, size, sizes}
use Rattle.term.specs.declared.Edition.TheVariants.{One}
use Rattle.anti_pattern.specs.Answer.{bound, nothing, parts, matching_of}
use Rattle.anti_pattern.specs.Demands.{OneForEach}
use Rattle.anti_pattern.specs.Language.{Language, language, TermOf}
use Rattle.anti_pattern.specs.Meaning.{Assignment}
use Rattle.anti_pattern.specs.Variables.{NoName, free_runs}
use Rattle.anti_pattern.specs.Place.{place_all}
use Rattle.anti_pattern.proofs.Machine.{Frame, Pending, frame, deferred, resume, machine}
use Rattle.anti_pattern.proofs.Meter.{Metered, met, missed, used_up, metered, meter, answered}
use Rattle.anti_pattern.specs.Next.{given_to, check_given, same_numbers, resumed, has_lengths, resumed_after, check_count, next_count, Following, follows, spent_or, unknown_or, one_for_each, next}
use Rattle.anti_pattern.specs.Order.{run_lengths}
use Rattle.anti_pattern.proofs.Pass.{ended, stranger, follow, passing, further, then_further, end_passed, followed_by}
use Rattle.anti_pattern.specs.Search.{Env, bind, start, Answers, found, failed, first_answer, Result, counted, fail, answering, if_true, if_some, after, or_else, Deferred, Continuation, refuted, finish, assign, lengths, exactly, Tries, every, only, freely, try_fresh, behind, try_run, search, searches}
use Rattle.anti_pattern.proofs.Correct.{Permits, Permitted}
use Rattle.anti_pattern.proofs.Facts.{join_nil, join_one, count_join, eqb_same}
use Rattle.anti_pattern.proofs.Machinery.{machine_level, machine_run_fresh}
use Rattle.anti_pattern.proofs.Metering.{leb_true, leb_false, Split, enough, over, split, meter_spent, meter_within, meter_fail, meter_used_up, meter_one, meter_after}
use Rattle.anti_pattern.proofs.Following.{numbers_equal, numbers_same, lengths_permit, check_answers}
use Rattle.anti_pattern.proofs.Placed.{AnswerIn, Placed, Places, finish_places, searches_places, fresh_found}
use Rattle.std.specs.Prelude.{Option, Some, None}

after_fail : (o : Answers) (n : ℕ) → after o n (λ u. fail) ≡ record { out = o; cost = n }
after_fail (found e m o) n = ap (answering e n) (after_fail o m)
after_fail failed n = ap (λ (k : ℕ). record { out = failed; cost = k }) (omega arith)

or_fail : (r : Result) → or_else r (λ u. fail) ≡ r
or_fail r = after_fail r.out r.cost

-- what comes after the answer that is meant, where it is among those of the first of two searches, and where it is not

module _ (is : Env → Bool) where
  abbrev pub Meant : Answers → Type 0
  Meant o = (e : Env) × AnswerIn o e × (is e ≡ true)

  abbrev pub Unmeant : Answers → Type 0
  Unmeant o = (e : Env) → AnswerIn o e → is e ≡ false

  resumed_here : (o : Answers) (n : ℕ) (g : Unit {0} → Result) → Meant o → resumed is (after o n g).out ≡ or_else (resumed is o) g
  resumed_here (found f m o) n g (e, a, i) = go (is f) refl a (λ b. resumed_here o m g (e, b, i))
    where
      go : (c : Bool) → is f ≡ c → (f ≡ e) ⊎ AnswerIn o e → (AnswerIn o e → resumed is (after o m g).out ≡ or_else (resumed is o) g)
          → cond c (after o m g) (resumed is (after o m g).out) ≡ or_else (cond c (record { out = o; cost = m }) (resumed is o)) g
      go true h b r = refl
      go false h (inl p) r = absurd (false≢true (sym h ∙ ap is p ∙ i))
      go false h (inr b) r = r b
  resumed_here failed n g (e, a, i) = absurd a

  resumed_later : (o : Answers) (n : ℕ) (g : Unit {0} → Result) → Unmeant o → resumed is (after o n g).out ≡ resumed is (g tt).out
  resumed_later (found f m o) n g u = rw (u f (inl refl)) (resumed_later o m g (λ e a. u e (inr a)))
  resumed_later failed n g u = refl

  -- a run name that has the length of y
  resumed_lengths : (f : Terms → Terms → Result) (y us w : Terms)
      → ((x zs : Terms) → count x < count (w ⧺ y) → Unmeant (f x zs).out) → Meant (f (w ⧺ y) us).out
      → resumed is (lengths w (y ⧺ us) f).out ≡ or_else (resumed is (f (w ⧺ y) us).out) (λ u. further (w ⧺ y) us f)
  resumed_lengths f nil us w early m =
      subst (λ (z : Terms). resumed is (lengths w us f).out ≡ or_else (resumed is (f z us).out) (λ u. further z us f)) (sym (join_nil w))
      (go us (subst (λ (z : Terms). Meant (f z us).out) (join_nil w) m))
    where
      go : (us : Terms) → Meant (f w us).out → resumed is (lengths w us f).out ≡ or_else (resumed is (f w us).out) (λ u. further w us f)
      go nil m = sym (or_fail (resumed is (f w nil).out))
      go (t :: ts) m = resumed_here (f w (t :: ts)).out (1 + (f w (t :: ts)).cost) (λ u. lengths (w ⧺ single t) ts f) m
  resumed_lengths f (t :: y) us w early m =
      resumed_later (f w (t :: (y ⧺ us))).out (1 + (f w (t :: (y ⧺ us))).cost) (λ u. lengths (w ⧺ single t) (y ⧺ us) f)
      (early w (t :: (y ⧺ us)) (omega (arith, count_join w (t :: y))))
      ∙ subst (λ (z : Terms). resumed is (lengths (w ⧺ single t) (y ⧺ us) f).out ≡ or_else (resumed is (f z us).out) (λ u. further z us f))
      (join_one w t y)
      (resumed_lengths f y us (w ⧺ single t) (λ x zs l. early x zs (subst (λ (z : Terms). count x < count z) (join_one w t y) l))
      (subst (λ (z : Terms). Meant (f z us).out) (sym (join_one w t y)) m))

-- a given length

exactly_fits : (f : Terms → Terms → Result) (y us w : Terms) → exactly (count y) w (y ⧺ us) f ≡ f (w ⧺ y) us
exactly_fits f nil us w = ap (λ (z : Terms). f z us) (sym (join_nil w))
exactly_fits f (t :: y) us w = exactly_fits f y us (w ⧺ single t) ∙ ap (λ (z : Terms). f z us) (join_one w t y)

exactly_unfit : (f : Terms → Terms → Result) (n : ℕ) (ts w : Terms) → count ts < n → exactly n w ts f ≡ fail
exactly_unfit f zero ts w h = absurd (omega arith)
exactly_unfit f (suc n) nil w h = refl
exactly_unfit f (suc n) (t :: ts) w h = exactly_unfit f n ts (w ⧺ single t) (omega arith)

-- what is found with given lengths is found with all

answers_first : (o : Answers) (n : ℕ) (g : Unit {0} → Result) (f : Env) → AnswerIn o f → AnswerIn (after o n g).out f
answers_first (found e m o) n g f (inl h) = inl h
answers_first (found e m o) n g f (inr h) = inr (answers_first o m g f h)
answers_first failed n g f h = absurd h

answers_then : (o : Answers) (n : ℕ) (g : Unit {0} → Result) (f : Env) → AnswerIn (g tt).out f → AnswerIn (after o n g).out f
answers_then (found e m o) n g f h = inr (answers_then o m g f h)
answers_then failed n g f h = h

lengths_have : (x us w : Terms) (g : Terms → Terms → Result) (f : Env) → AnswerIn (g (w ⧺ x) us).out f → AnswerIn (lengths w (x ⧺ us) g).out f
lengths_have nil us w g f h = go us (subst (λ (z : Terms). AnswerIn (g z us).out f) (join_nil w) h)
  where
    go : (us : Terms) → AnswerIn (g w us).out f → AnswerIn (lengths w us g).out f
    go nil h = h
    go (t :: ts) h = answers_first (g w (t :: ts)).out (1 + (g w (t :: ts)).cost) (λ u. lengths (w ⧺ single t) ts g) f h
lengths_have (t :: x) us w g f h =
    answers_then (g w (t :: (x ⧺ us))).out (1 + (g w (t :: (x ⧺ us))).cost) (λ u. lengths (w ⧺ single t) (x ⧺ us) g) f
    (lengths_have x us (w ⧺ single t) g f (subst (λ (z : Terms). AnswerIn (g z us).out f) (sym (join_one w t x)) h))

abbrev Only : Continuation → Continuation → Type 0
Only k l = (e : Env) (put : List Deferred) (f : Env) → AnswerIn (k e put).out f → AnswerIn (l e put).out f

if_some_only : {A : Type 0} (o : Option A) (k l : A → Result) (f : Env) → ((x : A) → AnswerIn (k x).out f → AnswerIn (l x).out f)
    → AnswerIn (if_some o k).out f → AnswerIn (if_some o l).out f
if_some_only None k l f r h = h
if_some_only (Some x) k l f r h = r x h

if_true_only : (m : Bool) (k l : Unit {0} → Result) (f : Env) → (AnswerIn (k tt).out f → AnswerIn (l tt).out f)
    → AnswerIn (if_true m k).out f → AnswerIn (if_true m l).out f
if_true_only true k l f r h = r h
if_true_only false k l f r h = h

run_only : (classes : List ℕ) (m : Tries) (o : Option Terms) (ts : Terms) (g g' h h' : Terms → Terms → Result) (f : Env)
    → ((w us : Terms) → AnswerIn (g w us).out f → AnswerIn (g' w us).out f) → ((w us : Terms) → AnswerIn (h w us).out f → AnswerIn (h' w us).out f)
    → AnswerIn (try_run classes o m ts g h).out f → AnswerIn (try_run classes o every ts g' h').out f
run_only classes m None ts g g' h h' f r s a =
    let x = fresh_found m ts g f a in
    subst (λ (z : Terms). AnswerIn (lengths nil z g').out f) (sym x.2) (lengths_have x.0 x.1 nil g' f (r x.0 x.1 x.3))
run_only classes m (Some w) ts g g' h h' f r s a = if_some_only (behind classes w ts) (h w) (h' w) f (s w) a

module _ (table classes : List ℕ) (how : ℕ → Tries) where
  mutual
    unfolding search

    search_only : (q : Pattern) (t : Term) (at : ℕ) (k l : Continuation) → Only k l
        → Only (λ e put. search table classes how q t at e put k) (λ e put. search table classes freely q t at e put l)
    search_only (name v) t at k l r e put f h =
        if_some_only (assign classes e v at (single t)) (λ g. k g put) (λ g. l g put) f (λ g. r g put f) h
    search_only (symbol s qs) (node n ts) at k l r e put f h =
        if_true_only (eqb (class_of classes s) (class_of classes n)) (λ u. searches table classes how qs ts (at + width table n) e put k) (λ u. searches table classes freely qs ts (at + width table n) e put l) f
        (λ a. searches_only qs ts (at + width table n) k l r e put f a) h
    search_only (complement q) t at k l r e put f h = r e (put ++ ((λ g. search table classes freely q t at g [] finish) ∷ [])) f h

    searches_only : (qs : Children) (ts : Terms) (at : ℕ) (k l : Continuation) → Only k l
        → Only (λ e put. searches table classes how qs ts at e put k) (λ e put. searches table classes freely qs ts at e put l)
    searches_only end nil at k l r e put f h = r e put f h
    searches_only end (t :: ts) at k l r e put f h = h
    searches_only (plain q qs) nil at k l r e put f h = h
    searches_only (plain q qs) (t :: ts) at k l r e put f h =
        search_only q t at (λ g ds. searches table classes how qs ts (at + size table t) g ds k) (λ g ds. searches table classes freely qs ts (at + size table t) g ds l)
        (λ g ds x a. searches_only qs ts (at + size table t) k l r g ds x a) e put f h
    searches_only (run v qs) ts at k l r e put f h =
        run_only classes (how v) (e.value v) ts (λ w us. searches table classes how qs us (at + sizes table w) (bind e v at w) put k)
        (λ w us. searches table classes freely qs us (at + sizes table w) (bind e v at w) put l)
        (λ w us. searches table classes how qs us (at + sizes table w) e put k) (λ w us. searches table classes freely qs us (at + sizes table w) e put l) f
        (λ w us a. searches_only qs us (at + sizes table w) k l r (bind e v at w) put f a)
        (λ w us a. searches_only qs us (at + sizes table w) k l r e put f a) h

  resume_only : (fs : List Frame) → Only (resume table classes how fs) (resume table classes freely fs)
  resume_only [] = λ e put f h. h
  resume_only (x ∷ fs) =
      searches_only x.patterns x.elements x.at (resume table classes how fs) (resume table classes freely fs) (resume_only fs)

  machine_only : (fs : List Frame) (e : Env) (ds : List Pending) (f : Env) → AnswerIn (machine table classes how fs e ds).out f
      → AnswerIn (machine table classes freely fs e ds).out f
  unfolding machine
  machine_only fs e ds f h = resume_only fs e (map (deferred table classes) ds) f h

  -- what is assigned stays
  resume_places : (fs : List Frame) → (P : Assignment → ℕ → Option ℕ) × Places (resume table classes how fs) P
  resume_places [] = (λ b v. None, finish_places)
  resume_places (x ∷ fs) =
      let r = resume_places fs in (
        λ b v. place_all table x.patterns x.elements x.at b v (r.0 b v),
        searches_places (language One table classes) how x.patterns x.elements x.at (resume table classes how fs) r.0 r.1,
      )

  machine_keeps : (fs : List Frame) (e : Env) (ds : List Pending) (f : Env) → AnswerIn (machine table classes how fs e ds).out f
      → (v : ℕ) (w : Terms) → e.value v ≡ Some w → f.value v ≡ Some w
  unfolding machine
  machine_keeps fs e ds f h v w i =
      let p = resume_places fs in
      (subst (λ (o : Option Terms). Placed o (e.offset v) (p.0 f.value v) (f.value v) (f.offset v)) i
      (p.1 e (map (deferred table classes) ds) f h v)).0

meter_met : (n : ℕ) (r : Result) (e : Env) (left : ℕ) → meter n r ≡ met e left → AnswerIn r.out e
unfolding meter
meter_met n r e left h = go (leb r.cost n) r.out h
  where
    go : (m : Bool) (o : Answers) → metered m o (n - r.cost) ≡ met e left → AnswerIn o e
    go true (found f k o) h = inl cc
    go true failed h = let z : ◌≡◌ {A = ℕ} 0 1 = cc in absurd (omega arith)
    go false o h = let z : ◌≡◌ {A = ℕ} 0 1 = cc in absurd (omega arith)

-- the end of a level leaves no choice
finish_ends : (is : Env → Bool) (e : Env) (ds : List Deferred) → resumed is (finish e ds).out ≡ fail
unfolding finish
finish_ends is e [] = go (is e)
  where
    go : (m : Bool) → cond m fail fail ≡ fail
    go true = refl
    go false = refl
finish_ends is e (d ∷ ds) = go (d e).out (d e).cost (finish_ends is e ds)
  where
    go : (o : Answers) (n : ℕ) → resumed is (finish e ds).out ≡ fail → resumed is (refuted o n (λ u. finish e ds)).out ≡ fail
    go (found f m o) n r = refl
    go failed n r = r

-- the steps

module _ (table classes : List ℕ) (how : ℕ → Tries) (is : Env → Bool) where
  -- what the check finds is meant
  abbrev pub Told : List Frame → Env → List Pending → Type 0
  Told fs e ds = (f : Env) → AnswerIn (machine table classes how fs e ds).out f → is f ≡ true

  module _ (fs : List Frame) (e : Env) (ds : List Pending) where
    pub passing_same : (gs : List Frame) (f : Env) (es : List Pending) → ((h : ℕ → Tries) → machine table classes h fs e ds ≡ machine table classes h gs f es)
        → (left : ℕ) → passing table classes how is fs e ds left ≡ passing table classes how is gs f es left
    unfolding passing
    passing_same gs f es h left =
        ap₂ (λ (x y : Result). follow (meter left x) (resumed is y.out)) (h how) (h freely)

    pub passing_step : (gs : List Frame) (f : Env) (es : List Pending) → ((h : ℕ → Tries) → machine table classes h fs e ds ≡ counted (machine table classes h gs f es))
        → (left : ℕ) → 0 < left → passing table classes how is fs e ds left ≡ passing table classes how is gs f es (left - 1)
    unfolding passing
    passing_step gs f es h left l =
        ap₂ (λ (x : Metered) (y : Result). follow x (resumed is y.out)) (ap (meter left) (h how) ∙ meter_one left (machine table classes how gs f es) l) (h freely)

    pub passing_fail : machine table classes how fs e ds ≡ fail → (left : ℕ) → passing table classes how is fs e ds left ≡ stranger
    unfolding passing
    passing_fail h left =
        ap (λ (x : Metered). follow x (resumed is (machine table classes freely fs e ds).out)) (ap (meter left) h ∙ meter_fail left)

    pub passing_fails : machine table classes how fs e ds ≡ counted fail → (left : ℕ) → 0 < left → passing table classes how is fs e ds left ≡ stranger
    unfolding passing
    passing_fails h left l =
        ap (λ (x : Metered). follow x (resumed is (machine table classes freely fs e ds).out))
        (ap (meter left) h ∙ meter_one left fail l ∙ meter_fail (left - 1))

    pub passing_used_up : (r : Result) → machine table classes how fs e ds ≡ counted r → passing table classes how is fs e ds 0 ≡ ended used_up
    unfolding passing
    passing_used_up r h =
        ap (λ (x : Metered). follow x (resumed is (machine table classes freely fs e ds).out)) (ap (meter 0) h ∙ meter_used_up r)

    pub told_step : (gs : List Frame) (f : Env) (es : List Pending) → machine table classes how fs e ds ≡ counted (machine table classes how gs f es)
        → Told fs e ds → Told gs f es
    told_step gs f es h t g a = t g (subst (λ (r : Result). AnswerIn r.out g) (sym h) a)

    pub told_same : (gs : List Frame) (f : Env) (es : List Pending) → machine table classes how fs e ds ≡ machine table classes how gs f es
        → Told fs e ds → Told gs f es
    told_same gs f es h t g a = t g (subst (λ (r : Result). AnswerIn r.out g) (sym h) a)

  -- a free run name
  module _ (tells : (f : Env) → is f ≡ true → Permitted how f.value) (v n at : ℕ) (qs : Children) (fs : List Frame) (e : Env) (ds : List Pending)
      (fresh : e.value v ≡ None) (given : how v ≡ only n) where
    abbrev onward : (ℕ → Tries) → Terms → Terms → Result
    onward h w us = machine table classes h (frame qs us (at + sizes table w) ∷ fs) (bind e v at w) ds

    run_given : (ts : Terms) → machine table classes how (frame (run v qs) ts at ∷ fs) e ds ≡ counted (exactly n nil ts (onward how))
    run_given ts = machine_run_fresh table classes how at fs e ds v qs ts fresh ∙ ap (λ (m : Tries). try_fresh m ts (onward how)) given

    pub passing_unfit : (ts : Terms) → count ts < n → (left : ℕ) → 0 < left
        → passing table classes how is (frame (run v qs) ts at ∷ fs) e ds left ≡ stranger
    passing_unfit ts h left l =
        passing_fails (frame (run v qs) ts at ∷ fs) e ds (run_given ts ∙ ap counted (exactly_unfit (onward how) n ts nil h)) left l

    module _ (x us : Terms) (fits : count x ≡ n) where
      run_fits : machine table classes how (frame (run v qs) (x ⧺ us) at ∷ fs) e ds ≡ counted (onward how x us)
      run_fits =
          run_given (x ⧺ us)
          ∙ ap (λ (k : ℕ). counted (exactly k nil (x ⧺ us) (onward how))) (sym fits) ∙ ap counted (exactly_fits (onward how) x us nil)

      pub told_run : Told (frame (run v qs) (x ⧺ us) at ∷ fs) e ds → Told (frame qs us (at + sizes table x) ∷ fs) (bind e v at x) ds
      told_run t = told_step (frame (run v qs) (x ⧺ us) at ∷ fs) e ds (frame qs us (at + sizes table x) ∷ fs) (bind e v at x) ds run_fits t

      -- with another length nothing is meant
      others : (w zs : Terms) → count w < count x → (f : Env) → AnswerIn (onward freely w zs).out f → is f ≡ false
      others w zs l f a = (not-eq-not {b = false}).0 (λ i. go (tells f i v w (kept f a)))
        where
          kept : (f : Env) → AnswerIn (onward freely w zs).out f → f.value v ≡ Some w
          kept f a =
              machine_keeps table classes freely (frame qs zs (at + sizes table w) ∷ fs) (bind e v at w) ds f a v w
              (ap (λ (m : Bool). cond m (Some w) (e.value v)) (eqb_same v))

          go : Permits (how v) (count w) → ⊥
          go p = let i : n ≡ count w = subst (λ (m : Tries). Permits m (count w)) given p in omega (arith, fits)

      pub passing_run : Told (frame (run v qs) (x ⧺ us) at ∷ fs) e ds → (left : ℕ) → 0 < left
          → passing table classes how is (frame (run v qs) (x ⧺ us) at ∷ fs) e ds left
          ≡ then_further (passing table classes how is (frame qs us (at + sizes table x) ∷ fs) (bind e v at x) ds (left - 1))
          (λ u. further x us (onward freely))
      unfolding passing
      passing_run t left l =
          ap₂ (λ (y : Metered) (o : Answers). follow y (resumed is o)) (ap (meter left) run_fits ∙ meter_one left (onward how x us) l)
          (ap (λ (r : Result). r.out) (machine_run_fresh table classes freely at fs e ds v qs (x ⧺ us) fresh))
          ∙ go (meter (left - 1) (onward how x us)) refl
        where
          go : (m : Metered) → meter (left - 1) (onward how x us) ≡ m
              → follow m (resumed is (lengths nil (x ⧺ us) (onward freely)).out)
              ≡ then_further (follow m (resumed is (onward freely x us).out)) (λ u. further x us (onward freely))
          go (met g k) h =
              let a = meter_met (left - 1) (onward how x us) g k h in
              ap (λ (r : Result). ended (meter k r))
              (resumed_lengths is (onward freely) x us nil (λ w zs i. others w zs i)
              (g, machine_only table classes how (frame qs us (at + sizes table x) ∷ fs) (bind e v at x) ds g a, told_run t g a))
              ∙ ap ended (meter_after k (resumed is (onward freely x us).out).out (resumed is (onward freely x us).out).cost
              (λ u. further x us (onward freely)))
          go (missed k) h = refl
          go used_up h = refl

  -- the end of the level
  pub passing_end : (e : Env) (ds : List Pending) (left : ℕ)
      → passing table classes how is [] e ds left ≡ end_passed (meter left (machine table classes freely [] e ds))
  unfolding passing machine
  passing_end e ds left = go (meter left (finish e (map (deferred table classes) ds))) refl
    where
      go : (m : Metered) → meter left (finish e (map (deferred table classes) ds)) ≡ m
          → follow m (resumed is (finish e (map (deferred table classes) ds)).out) ≡ end_passed m
      go (met f k) h =
          ap (λ (r : Result). ended (meter k r)) (finish_ends is e (map (deferred table classes) ds)) ∙ ap ended (meter_fail k)
      go (missed k) h = refl
      go used_up h = refl

-- the call is what the one pass comes to
module _ (l : Language) (q : Pattern) (t : Term) (given : List ℕ) (n : ℕ) where
  pub next_passing : OneForEach q given → next l q t given n
      ≡ followed_by l.table n (passing l.table l.classes (given_to (free_runs q) given) (has_lengths q given) (frame (plain q end) (single t) 0 ∷ []) start [] n)
  unfolding next passing check_given resumed_after
  next_passing each =
      ap (λ (m : Bool). one_for_each m (λ u. spent_or (ltb n (check_count l q t given)) n
      (λ u. unknown_or (check_given l q t given).out (λ u. spent_or (ltb n (next_count l q t given)) n
      (λ u. follows (matching_of l.table (resumed_after l q t given).out (next_count l q t given)))))))
      (eq-eqb (length given) (length (free_runs q)) each)
      ∙ checked (split (check_count l q t given) n)
      ∙ ap₂ (λ (x y : Result). followed_by l.table n (follow (meter n x) (resumed (has_lengths q given) y.out)))
      (machine_level l.table l.classes (given_to (free_runs q) given) q t 0 start) (machine_level l.table l.classes freely q t 0 start)
    where
      resumes : Result → ℕ → Following
      resumes r c = spent_or (ltb n (c + r.cost)) n (λ u. follows (matching_of l.table r.out (c + r.cost)))

      same : (o : Answers) (c k : ℕ) → c + k ≤ n → matching_of l.table o (c + k) ≡ answered l.table n (metered true o (n - c - k))
      same (found e m o) c k h = ap (bound (parts l.table e)) (omega arith)
      same failed c k h = ap nothing (omega arith)

      resuming : (r : Result) (c : ℕ) → c ≤ n → Split (c + r.cost) n
          → spent_or (ltb n (c + r.cost)) n (λ u. follows (matching_of l.table r.out (c + r.cost))) ≡ followed_by l.table n (ended (meter (n - c) r))
      resuming r c h (over i) =
          ap (λ (m : Bool). spent_or m n (λ u. follows (matching_of l.table r.out (c + r.cost)))) (leb_true (suc n) (c + r.cost) i)
          ∙ sym (ap (λ (x : Metered). followed_by l.table n (ended x)) (meter_spent (n - c) r (omega arith)))
      resuming r c h (enough i) =
          ap (λ (m : Bool). spent_or m n (λ u. follows (matching_of l.table r.out (c + r.cost)))) (leb_false (suc n) (c + r.cost) (omega arith))
          ∙ ap follows (same r.out c r.cost i)
          ∙ sym (ap (λ (x : Metered). followed_by l.table n (ended x)) (meter_within (n - c) r (omega arith)))

      known_by : (o : Answers) (c : ℕ) (r : Result) → c ≤ n
          → unknown_or o (λ u. spent_or (ltb n (c + r.cost)) n (λ u. follows (matching_of l.table r.out (c + r.cost))))
          ≡ followed_by l.table n (follow (metered true o (n - c)) r)
      known_by (found e m o) c r h = resuming r c h (split (c + r.cost) n)
      known_by failed c r h = refl

      checked : Split (check_count l q t given) n
          → spent_or (ltb n (check_count l q t given)) n
          (λ u. unknown_or (check_given l q t given).out (λ u. spent_or (ltb n (next_count l q t given)) n
          (λ u. follows (matching_of l.table (resumed_after l q t given).out (next_count l q t given)))))
          ≡ followed_by l.table n (follow (meter n (check_given l q t given)) (resumed_after l q t given))
      checked (over i) =
          ap (λ (m : Bool). spent_or m n (λ u. unknown_or (check_given l q t given).out (λ u. spent_or (ltb n (next_count l q t given)) n
          (λ u. follows (matching_of l.table (resumed_after l q t given).out (next_count l q t given))))))
          (leb_true (suc n) (check_count l q t given) i)
          ∙ sym (ap (λ (x : Metered). followed_by l.table n (follow x (resumed_after l q t given))) (meter_spent n (check_given l q t given) i))
      checked (enough i) =
          ap (λ (m : Bool). spent_or m n (λ u. unknown_or (check_given l q t given).out (λ u. spent_or (ltb n (next_count l q t given)) n
          (λ u. follows (matching_of l.table (resumed_after l q t given).out (next_count l q t given))))))
          (leb_false (suc n) (check_count l q t given) (omega arith))
          ∙ known_by (check_given l q t given).out (check_count l q t given) (resumed_after l q t given) i
          ∙ sym (ap (λ (x : Metered). followed_by l.table n (follow x (resumed_after l q t given))) (meter_within n (check_given l q t given) i))

  -- those with the lengths given are meant, and what the check finds is
  pub tells : (f : Env) → has_lengths q given f ≡ true → Permitted (given_to (free_runs q) given) f.value
  tells f i = lengths_permit (free_runs q) given f.value (numbers_equal (run_lengths q f.value) given i)

  pub told_whole : TermOf l t → NoName (free_runs q) q → OneForEach q given
      → Told l.table l.classes (given_to (free_runs q) given) (has_lengths q given) (frame (plain q end) (single t) 0 ∷ []) start []
  unfolding check_given
  told_whole of apart each f a =
      let c = (check_answers l q t of apart given each f
      (subst (λ (r : Result). AnswerIn r.out f) (sym (machine_level l.table l.classes (given_to (free_runs q) given) q t 0 start)) a)).lengths in
      subst (λ (ns : List ℕ). same_numbers (run_lengths q f.value) ns ≡ true) c (numbers_same (run_lengths q f.value))

  -- an answer that the pass ends with is the first of the search resumed after the given one
  pub passed_first : (e : Env) (left : ℕ)
      → passing l.table l.classes (given_to (free_runs q) given) (has_lengths q given) (frame (plain q end) (single t) 0 ∷ []) start [] n ≡ ended (met e left)
      → first_answer (resumed_after l q t given).out ≡ Some e
  unfolding passing resumed_after meter
  passed_first e left h =
      follows_first (meter n (machine l.table l.classes (given_to (free_runs q) given) (frame (plain q end) (single t) 0 ∷ []) start []))
      (resumed_after l q t given)
      (ap (λ (r : Result). follow (meter n (machine l.table l.classes (given_to (free_runs q) given) (frame (plain q end) (single t) 0 ∷ []) start [])) (resumed (has_lengths q given) r.out))
      (machine_level l.table l.classes freely q t 0 start) ∙ h)
    where
      metered_first : (m : Bool) (o : Answers) (k : ℕ) → metered m o k ≡ met e left → first_answer o ≡ Some e
      metered_first true (found f c o) k h = let z : f ≡ e = cc in ap Some z
      metered_first true failed k h = let z : ◌≡◌ {A = ℕ} 0 1 = cc in absurd (omega arith)
      metered_first false o k h = let z : ◌≡◌ {A = ℕ} 0 1 = cc in absurd (omega arith)

      follows_first : (m : Metered) (r : Result) → follow m r ≡ ended (met e left) → first_answer r.out ≡ Some e
      follows_first (met f k) r h = let z : meter k r ≡ met e left = cc in metered_first (leb r.cost k) r.out (k - r.cost) z
      follows_first (missed k) r h = let z : ◌≡◌ {A = ℕ} 0 1 = cc in absurd (omega arith)
      follows_first used_up r h = let z : ◌≡◌ {A = ℕ} 0 1 = cc in absurd (omega arith)
