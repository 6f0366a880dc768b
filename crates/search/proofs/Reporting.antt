-- What a level that halts reports is read back, and where it halts with no pair left it may go on.
-- Assumes nothing.
use Prim.Native.Nat.{ℕ, zero, suc, ◌+◌, ◌%◌, ◌<◌}
use native.Mathlib.Omega.{arith}
use mathlib.Core.Path.{◌≡◌, refl, sym, ap, subst, ◌∙◌}
use mathlib.Core.List.{List}
use mathlib.Core.Bool.{Bool, true, false, cond, true≢false}
use lib.Dec.{ltb}
use lib.ListN.{length, get_or, set, length-set}
use lib.Seq.{get_or-set_same, get_or-set_other}
use borrow.Author.Tests.{lt-ltb}
use Rattle.answers.specs.Part.{part, bound_part}
use Rattle.answers.specs.declared.Part.{Part}
use Rattle.term.specs.Code.{variables}
use Rattle.search.specs.State.{State, place, Walked, turns, walked, step_at, walk_by, walk_of, part_in_state, variable_at, alone}
use Rattle.parts.specs.Packed.{packed, unpacked, part_places}
use Rattle.search.specs.Inner.Memory.{marks, Kept}
use Rattle.search.specs.Inner.Lent.{Handed, Lent}
use Rattle.search.specs.Inner.Bounds.{Short, StopsAt, stopped, WalkIs, Walks}
use Rattle.search.specs.Inner.Replies.{failure}
use Rattle.search.specs.Inner.Halts.{halted_as, run_of, stop_in, report_in, reported_by, Told, PairsAre}
use Rattle.search.specs.declared.place.Place.{Place}
use Rattle.search.specs.declared.marks.Marks.{Marks}
use Rattle.search.specs.declared.walk.Stopped.{Stopped}
use Rattle.steps.specs.declared.Step.{Step}
use Rattle.steps.specs.declared.Step.TheVariants.{Stops, Fails, Closes, Opens, Passes, Binds, PutsBy}
use Rattle.steps.specs.declared.Stop.{Stop}
use Rattle.steps.specs.declared.Stop.TheVariants.{Failure, NoAllowance, NoPair, RunName}
use Rattle.search.specs.declared.Finding.{Finding}
use Rattle.search.specs.declared.Finding.TheVariants.{Found}
use Rattle.parts.proofs.Masks.{part_back}
use Rattle.search.proofs.Buffers.{sized_part}
use Rattle.search.proofs.Kept.{restored}
use Rattle.search.proofs.Moved.{moved_to}
use Rattle.search.proofs.Walks.{walk_suc}

-- numbers that fit are read back
read_part : (a b n : ℕ) → a < 65536 → b < 65536 → n < 256 → unpacked (packed (bound_part a b n)) ≡ part a b n
read_part a b n h i j =
    let x : a % 65536 ≡ a = omega arith in
    let y : b % 65536 ≡ b = omega arith in
    part_back a b n j ∙ rw (x, y)

read_stop : (codes : ℕ) (p : Place) (stop : Stop) → StopsAt codes p stop → stop_in (halted_as stop) (run_of stop) ≡ stop
read_stop codes p Failure h = refl
read_stop codes p NoAllowance h = refl
read_stop codes p NoPair h = refl
read_stop codes p (RunName v) h = let z : v % 256 ≡ v = omega (arith, h.variable) in rw (lt-ltb v variables h.variable, z)

run_fits : (codes : ℕ) (p : Place) (stop : Stop) → StopsAt codes p stop → run_of stop < 65536
run_fits codes p Failure h = omega arith
run_fits codes p NoAllowance h = omega arith
run_fits codes p NoPair h = omega arith
run_fits codes p (RunName v) h = omega (arith, h.variable)

module _ (parts : List ℕ) (stop : Stop) (m : Marks) (p : Place) where
  -- the three numbers
  abbrev a : ℕ
  a = packed (bound_part p.node p.at p.elements)

  abbrev b : ℕ
  b = packed (bound_part m.inner m.frames p.children)

  abbrev c : ℕ
  c = packed (bound_part m.waiting (run_of stop) 0)

  -- no variable's part is changed
  report_kept : {assigned : ℕ} {k : Marks} {stack : List ℕ} → Kept assigned k parts stack (report_in parts stop m p) stack
  report_kept = record {
    of_parts = λ v l e.
        get_or-set_other (set (set parts (variables + 2) c) (variables + 1) b) variables v a 0 (λ i. omega (arith, l, i))
        ∙ get_or-set_other (set parts (variables + 2) c) (variables + 1) v b 0 (λ i. omega (arith, l, i))
        ∙ get_or-set_other parts (variables + 2) v c 0 (λ i. omega (arith, l, i));
    of_frames = λ i l. refl;
    of_waiting = λ i l. refl;
    sized = λ z. sized_part (sized_part (sized_part z (variables + 2) c) (variables + 1) b) variables a;
  }

  module _ (long : length parts ≡ part_places) where
    at_first : get_or (report_in parts stop m p) variables 0 ≡ a
    at_first =
        get_or-set_same (set (set parts (variables + 2) c) (variables + 1) b) variables a 0
        (omega (arith, long, length-set parts (variables + 2) c, length-set (set parts (variables + 2) c) (variables + 1) b))

    at_second : get_or (report_in parts stop m p) (variables + 1) 0 ≡ b
    at_second =
        get_or-set_other (set (set parts (variables + 2) c) (variables + 1) b) variables (variables + 1) a 0 (λ i. omega (arith, i))
        ∙ get_or-set_same (set parts (variables + 2) c) (variables + 1) b 0 (omega (arith, long, length-set parts (variables + 2) c))

    at_third : get_or (report_in parts stop m p) (variables + 2) 0 ≡ c
    at_third =
        get_or-set_other (set (set parts (variables + 2) c) (variables + 1) b) variables (variables + 2) a 0 (λ i. omega (arith, i))
        ∙ get_or-set_other (set parts (variables + 2) c) (variables + 1) (variables + 2) b 0 (λ i. omega (arith, i))
        ∙ get_or-set_same parts (variables + 2) c 0 (omega (arith, long))

    read_back : (left assigned codes : ℕ) → m.inner < 65536 → m.frames < 65536 → m.waiting < 65536 → p.at < 65536 → p.node < 65536
        → p.children < 256 → p.elements < 256 → StopsAt codes p stop
        → reported_by (report_in parts stop m p) (halted_as stop) left assigned m.first ≡ stopped stop left assigned m p
    read_back left assigned codes i f w t n k e h =
        ap (λ (x : Part). read_as x (unpacked (get_or report (variables + 1) 0)) (unpacked (get_or report (variables + 2) 0)))
        (ap unpacked at_first ∙ read_part p.node p.at p.elements n t e)
        ∙ ap (λ (x : Part). read_as (part p.node p.at p.elements) x (unpacked (get_or report (variables + 2) 0)))
        (ap unpacked at_second ∙ read_part m.inner m.frames p.children i f k)
        ∙ ap (λ (x : Part). read_as (part p.node p.at p.elements) (part m.inner m.frames p.children) x)
        (ap unpacked at_third ∙ read_part m.waiting (run_of stop) 0 w (run_fits codes p stop h) (omega arith))
        ∙ ap (λ (x : Stop). stopped x left assigned m p) (read_stop codes p stop h)
      where
        report : List ℕ
        report = report_in parts stop m p

        read_as : Part → Part → Part → Stopped
        read_as x y z =
            stopped (stop_in (halted_as stop) z.length) left assigned (marks y.offset y.length m.first z.offset)
            (place y.elements x.elements x.length x.offset)

-- The stop that is read

stop_found : (run : ℕ) → failure (stop_in Found run) ≡ false
stop_found run = by (ltb run variables)
  where
    by : (x : Bool) → failure (cond x (RunName (run % 256)) NoPair) ≡ false
    by true = refl
    by false = refl

fails_only : (stop : Stop) (run : ℕ) → failure stop ≡ false → failure (stop_in (halted_as stop) run) ≡ false
fails_only Failure run e = absurd (true≢false e)
fails_only NoAllowance run e = refl
fails_only NoPair run e = stop_found run
fails_only (RunName v) run e = stop_found run

module _ {i : Handed} {e₀ : Lent} {m : Marks} {p : Place} {parts' stack' : List ℕ} {r : Stopped} (pairs : PairsAre i e₀ m p parts' stack' r) where
  -- what the walk reached
  abbrev pub met : Stopped
  met = pairs.halts.reached

  told_by_holds : (x : Bool) → failure met.stop ≡ x → Told x met pairs.halts.parts pairs.outcome pairs.assigned parts'
  told_by_holds x e = subst (λ (y : Bool). Told y met pairs.halts.parts pairs.outcome pairs.assigned parts') e pairs.halts.told

  abbrev run : ℕ
  run = (unpacked (get_or parts' (variables + 2) 0)).length

  pub met_fails : failure met.stop ≡ failure r.stop
  met_fails = by (failure met.stop) refl
    where
      by : (x : Bool) → failure met.stop ≡ x → failure met.stop ≡ failure r.stop
      by true e =
          e ∙ sym (ap (λ (y : Stopped). failure y.stop) pairs.is ∙ ap (λ (o : Finding). failure (stop_in o run)) (told_by_holds true e).0)
      by false e =
          e ∙ sym (ap (λ (y : Stopped). failure y.stop) pairs.is ∙ ap (λ (o : Finding). failure (stop_in o run)) (told_by_holds false e).1.ended
          ∙ fails_only met.stop run e)

  pub met_parts : failure met.stop ≡ true → parts' ≡ pairs.halts.parts
  met_parts e = (told_by_holds true e).1

  abbrev report : List ℕ
  report = report_in pairs.halts.parts met.stop met.marks met.place

  -- what is read is the walk, but where it fails
  module _ (short : Short i.pattern i.bytes) (told : Told false met pairs.halts.parts pairs.outcome pairs.assigned parts') (s : State)
      (w : WalkIs i e₀ m p pairs.halts.parts stack' met s) where
    is_met : r ≡ met
    is_met =
        pairs.is
        ∙ ap (λ (l : List ℕ). reported_by l pairs.outcome pairs.left pairs.assigned m.first) told.1.written
        ∙ ap (λ (o : Finding). reported_by report o pairs.left pairs.assigned m.first) told.1.ended
        ∙ ap (λ (l : ℕ). reported_by report (halted_as met.stop) l pairs.assigned m.first) pairs.halts.same_left
        ∙ ap (λ (x : ℕ). reported_by report (halted_as met.stop) met.left x m.first) told.0
        ∙ ap (λ (f : ℕ). reported_by report (halted_as met.stop) met.left met.assigned f) (sym w.moved.same_first)
        ∙ read_back pairs.halts.parts met.stop met.marks met.place w.moved.holds.sized.of_parts met.left met.assigned (length i.pattern)
        (omega (arith, w.moved.holds.innermost, w.moved.holds.room)) (omega (arith, w.moved.holds.room)) (omega (arith, w.moved.holds.room))
        (omega (arith, w.moved.holds.at, short.of_pattern)) (omega (arith, w.moved.holds.node, short.of_record))
        told.1.children told.1.elements w.stops

    read_walk : WalkIs i e₀ m p parts' stack' r s
    read_walk =
        subst (λ (y : Stopped). WalkIs i e₀ m p parts' stack' y s) (sym is_met)
        (subst (λ (l : List ℕ). WalkIs i e₀ m p l stack' met s) (sym told.1.written) (record {
          end = w.end;
          so = w.so;
          moved = moved_to w.moved (λ v b. b) reports (omega arith, omega arith, refl) (omega arith) (restored reports w.moved.holds);
          stops = w.stops;
          unassigned = w.unassigned;
        }))
      where
        reports : Kept met.assigned met.marks pairs.halts.parts stack' report stack'
        reports = report_kept pairs.halts.parts met.stop met.marks met.place

  pub pairs_walk : Short i.pattern i.bytes → failure r.stop ≡ false → Walks i e₀ m p parts' stack' r
  pairs_walk short e s h = read_walk short (told_by_holds false (met_fails ∙ e)) s (pairs.halts.walks s h)

-- From where no pair is left, a walk is there at once

module _ (table classes pattern bytes : List ℕ) (l : ℕ) (end : State) where
  abbrev Stays : Type 0
  Stays = walk_of turns table classes pattern bytes end l ≡ walked NoPair l end

  abbrev step_here : State → ℕ → Step
  step_here s left = step_at (alone s.frames) table classes pattern bytes (part_in_state s (variable_at pattern s.place.at)) s.place left

  step_stays : (f : State → ℕ → Walked) → ((s : State) (left : ℕ) → f s left ≡ walked NoPair l end → Stays)
      → (s : State) (left : ℕ) (x : Step) → x ≡ step_here s left → walk_by x f s left ≡ walked NoPair l end → Stays
  unfolding walk_by
  step_stays f again s left (Stops stop) i e =
      sym (ap (λ (x : Walked). walk_of turns table classes pattern bytes x.state x.left) e)
      ∙ walk_suc table classes pattern bytes turns s left (omega arith) ∙ rw (← i) e
  step_stays f again s left Fails i e = absurd (true≢false (ap (λ (x : Walked). failure x.stop) e))
  step_stays f again s left Closes i e = again _ _ e
  step_stays f again s left (Opens children elements width) i e = again _ _ e
  step_stays f again s left (Passes elements size) i e = again _ _ e
  step_stays f again s left (Binds v size) i e = again _ _ e
  step_stays f again s left (PutsBy codes size) i e = again _ _ e

  pub walk_stays : (n : ℕ) (s : State) (left : ℕ) → walk_of n table classes pattern bytes s left ≡ walked NoPair l end → Stays
  unfolding walk_of
  walk_stays zero s left e = absurd (true≢false (ap (λ (x : Walked). failure x.stop) e))
  walk_stays (suc n) s left e =
      step_stays (walk_of n table classes pattern bytes) (λ s' left' f. walk_stays n s' left' f) s left (step_here s left) refl e
