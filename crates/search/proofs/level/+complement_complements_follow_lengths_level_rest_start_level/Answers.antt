-- The search of levels meets its contracts. Each level within another has less of the pattern, or starts further on in it: `levels` falls.
-- Assumes nothing.
use Prim.Native.Nat.{ℕ}
use native.Mathlib.Omega.{arith}
use mathlib.Core.Path.{◌≡◌, ap, subst, ◌∙◌}
use mathlib.Core.Bool.{Bool, false}
use mathlib.Core.List.{List}
use Rattle.parts.specs.Packed.{packed}
use Rattle.search.specs.Inner.Memory.{put_by_in}
use Rattle.search.specs.Inner.Bounds.{StopsAt, Unassigned}
use Rattle.search.specs.Inner.Replies.{failure, DecidesInside}
use Rattle.search.specs.Inner.Halts.{Begun, BegunAt}
use Rattle.search.specs.Inner.Memory.{marks_of}
use Rattle.search.specs.State.{place_from}
use Rattle.search.specs.declared.marks.Marks.{Marks}
use Rattle.search.specs.declared.marks.Nodes.{Nodes}
use Rattle.search.specs.declared.marks.Queue.{Queue}
use Rattle.search.specs.declared.place.Remaining.{Remaining}
use Rattle.search.specs.declared.place.Next.{Next}
use Rattle.search.specs.declared.place.Place.{Place}
use Rattle.search.proofs.Skips.{skips_fair, behind_passed}
use Rattle.search.proofs.Findings.{found_by, failed_by, no_failure}
use Rattle.search.proofs.FirstPairs.{complement_ends}
use Rattle.search.proofs.Begins.{level_from, none_begun, run_begun}
use Rattle.search.proofs.Levels.{rest_fails_by, rest_reports, rest_follows_by, rest_starts, level_run, level_skipped, level_over, turn_first, turn_holding, turn_hit, turn_last, turn_spent, turn_room, turn_more, turn_over, test_first, test_end, test_next, test_stop, test_on, inside_length, inside_holding, complement_tests, follow_fails, follow_spent, follow_none, follow_tests, follow_tries}
use Rattle.search.proofs.level.+complement_complements_follow_lengths_level_rest_start_level.Goals as goal

-- where the level is begun
level_begun : {codes bytes assigned : ℕ} {parts stack : List ℕ} {v : ℕ} {halts : Bool} {least : ℕ} {nodes : Nodes} {queue : Queue} {remaining : Remaining} {next : Next}
    {m : Marks} {p : Place} → m ≡ marks_of nodes queue → p ≡ place_from remaining next
    → BegunAt codes bytes assigned parts stack v halts least nodes queue remaining next → Begun codes bytes assigned parts stack v halts least m p
level_begun e f b = rw (e, f) b

pub complement-overflow_cast-from : goal.complement-overflow_cast-from
complement-overflow_cast-from t c = omega arith

pub complement-overflow_add-from : goal.complement-overflow_add-from
complement-overflow_add-from t c = omega arith

pub complement-overflow_cast-stop : goal.complement-overflow_cast-stop
complement-overflow_cast-stop t c = omega arith

pub complement-overflow_add-stop : goal.complement-overflow_add-stop
complement-overflow_add-stop t c = omega arith

pub complement-overflow_cast-node : goal.complement-overflow_cast-node
complement-overflow_cast-node t c = omega arith

pub complement-slice_bounds-inside-count : goal.complement-slice_bounds-inside-count
complement-slice_bounds-inside-count t c = omega arith

pub complement-slice_bounds-inside-start : goal.complement-slice_bounds-inside-start
complement-slice_bounds-inside-start t c = omega arith

pub complement-slice_bounds-inside-end : goal.complement-slice_bounds-inside-end
complement-slice_bounds-inside-end t c = omega (arith, c.requires.testable.within)

pub complement-overflow_sub-left : goal.complement-overflow_sub-left
complement-overflow_sub-left t c = (subst (DecidesInside _ _ _ _ _ _ _ _) c.in-Some.is c.at_once-first.ensures).some

pub complement-returns-in-Some : goal.complement-returns-in-Some
complement-returns-in-Some t c = complement_ends _ _ c.requires.testable.within _ _ _ _ c.args.marks
    (subst (DecidesInside _ _ _ _ _ _ _ _) c.in-Some.is c.at_once-first.ensures) c.opposite.ensures

pub complement-start_level-requires : goal.complement-start_level-requires
complement-start_level-requires t c = let w = c.requires.testable.within in
    let d = inside_length c.args.pattern.now (put_by_in c.args.c) w in
    rw (c.start.ensures, c.inside.ensures) (
      omega (arith, w, d, c.requires.short.of_pattern),
      (inside_holding _ _ w c.requires.testable, record { of_pattern = omega (arith, w, d, c.requires.short.of_pattern); of_record = c.requires.short.of_record }),
    )

pub complement-returns : goal.complement-returns
complement-returns t c = complement_tests _ _ c.requires.testable.within c.args.marks c.requires.short.of_pattern c.inside.ensures c.start.ensures c.start_level.ensures
    c.opposite-2.ensures

pub complements-loop-i-init : goal.complements-loop-i-init
complements-loop-i-init t c = test_first _ _ _

pub complements-overflow_sub-c : goal.complements-overflow_sub-c
complements-overflow_sub-c t c = omega (arith, c.requires.resting.holding.holds.room)

pub complements-offset_bounds-stack-i : goal.complements-offset_bounds-stack-i
complements-offset_bounds-stack-i t c = omega arith

pub complements-bounds-stack-i : goal.complements-bounds-stack-i
complements-bounds-stack-i t c = omega arith

pub complements-complement-x-requires : goal.complements-complement-x-requires
complements-complement-x-requires t c = (omega arith, (test_next _ _ _ c.loop-i.invariant c.loop-i-test.true c.requires.resting, c.requires.short))

pub complements-loop-i-smaller : goal.complements-loop-i-smaller
complements-loop-i-smaller t c = omega arith

pub complements-loop-i-preserved : goal.complements-loop-i-preserved
complements-loop-i-preserved t c = test_on _ _ _ c.loop-i.invariant
    c.loop-i-test.true c.complement-x.ensures
    (found_by _ c.ne.ensures c.if-ne.false)

pub complements-returns : goal.complements-returns
complements-returns t c = test_end _ _ _ c.loop-i.invariant (omega arith)

pub follow-complements-requires : goal.follow-complements-requires
follow-complements-requires t c = (omega arith, (record { place = c.args.place; holding = c.requires.holding }, c.requires.short))

pub follow-lengths-requires : goal.follow-lengths-requires
follow-lengths-requires t c = let is_run = c.in-RunName.is in
    (omega arith, (c.requires.holding, ((subst (StopsAt _ _) is_run c.requires.stops_at.0, subst (Unassigned _) is_run c.requires.stops_at.1), c.requires.short)))

pub follow-returns-in-Failure : goal.follow-returns-in-Failure
follow-returns-in-Failure t c = follow_fails _ _ _ _ _ c.in-Failure.is

pub follow-returns-in-NoAllowance : goal.follow-returns-in-NoAllowance
follow-returns-in-NoAllowance t c = follow_spent _ _ _ _ _ c.in-NoAllowance.is

pub follow-returns-in-NoPair : goal.follow-returns-in-NoPair
follow-returns-in-NoPair t c = follow_tests _ _ _ _ _ c.in-NoPair.is c.complements.ensures

pub follow-returns-in-RunName : goal.follow-returns-in-RunName
follow-returns-in-RunName t c = rw c.in-RunName.is c.lengths.ensures

pub lengths-returns-then-left-eq0 : goal.lengths-returns-then-left-eq0
lengths-returns-then-left-eq0 t c = follow_none _ _ _ _ _ c.if-left-eq0.true

pub lengths-passed-past-requires : goal.lengths-passed-past-requires
lengths-passed-past-requires t c = (c.requires.stops_at.0.children, omega arith, omega (arith, c.requires.stops_at.0.at, c.requires.short.of_pattern), omega (arith, c.requires.holding.holds.node, c.requires.short.of_record))

pub lengths-overflow_sub-left : goal.lengths-overflow_sub-left
lengths-overflow_sub-left t c = omega (arith, c.if-left-eq0.false)

pub lengths-skip_where-k-requires : goal.lengths-skip_where-k-requires
lengths-skip_where-k-requires t c = (omega (arith, ap (λ (x : Place). x.node) c.passed-past.ensures, c.requires.holding.holds.node), c.requires.short.of_record)

pub lengths-overflow_sub-left-2 : goal.lengths-overflow_sub-left-2
lengths-overflow_sub-left-2 t c = omega (arith, c.if-left-eq0.false)

pub lengths-overflow_sub-left-3 : goal.lengths-overflow_sub-left-3
lengths-overflow_sub-left-3 t c = omega (arith, (skips_fair c.skip_where-k.ensures).paid)

pub lengths-returns-then-k : goal.lengths-returns-then-k
lengths-returns-then-k t c = follow_tries _ c.if-left-eq0.false c.requires.stops_at.0.at
    (level_over _ _ c.requires.stops_at.1 c.skip_where-k.ensures c.passed-past.ensures (omega arith) c.if-k.true)

pub lengths-behind-first-requires : goal.lengths-behind-first-requires
lengths-behind-first-requires t c = (skips_fair c.skip_where-k.ensures).few

pub lengths-overflow_sub-k : goal.lengths-overflow_sub-k
lengths-overflow_sub-k t c = omega (arith, (skips_fair c.skip_where-k.ensures).further, ap (λ (x : Place). x.node) c.passed-past.ensures)

pub lengths-offset_bounds-parts-i : goal.lengths-offset_bounds-parts-i
lengths-offset_bounds-parts-i t c = omega (arith, c.from-i.ensures, c.requires.stops_at.0.variable)

pub lengths-bounds-parts-i : goal.lengths-bounds-parts-i
lengths-bounds-parts-i t c = omega (arith, c.from-i.ensures, c.requires.stops_at.0.variable)

pub lengths-level-requires : goal.lengths-level-requires
lengths-level-requires t c = let fair = skips_fair c.skip_where-k.ensures in
    let elements = ap (λ (x : Place). x.elements) c.passed-past.ensures in
    let node = ap (λ (x : Place). x.node) c.passed-past.ensures in
    rw (
      c.next.ensures,
      c.remaining.ensures,
      c.queue.ensures,
      c.nodes.ensures,
      c.from-i.ensures,
      c.behind-first.ensures ∙ behind_passed _ _ _ _ c.passed-past.ensures (omega (arith, fair.further, node)),
    ) (
      omega (arith, c.requires.stops_at.0.at),
      (
        run_begun _ _ _ _ c.requires.holding c.requires.stops_at.0.at c.requires.stops_at.0.variable c.requires.stops_at.1 (omega (arith, fair.few, elements)) (omega (arith, c.well_formed))
            (omega (arith, fair.further, node, fair.within (omega (arith, node, c.requires.holding.holds.node))))
            (c.packed.ensures ∙ ap packed c.bound.ensures),
        c.requires.short,
      ),
    )

pub lengths-returns : goal.lengths-returns
lengths-returns t c = let fair = skips_fair c.skip_where-k.ensures in
    let elements = ap (λ (x : Place). x.elements) c.passed-past.ensures in
    let node = ap (λ (x : Place). x.node) c.passed-past.ensures in
    follow_tries _ c.if-left-eq0.false c.requires.stops_at.0.at
    (level_skipped _ _ c.requires.stops_at.1 c.skip_where-k.ensures c.passed-past.ensures (omega arith) _ (omega (arith, fair.further, node))
    (level_run _ _ _ _ _ c.from-i.ensures c.requires.holding c.requires.stops_at.0.at c.requires.stops_at.0.variable c.requires.stops_at.1 (omega (arith, fair.few, elements)) (omega (arith, c.well_formed))
    (omega (arith, fair.further, node, fair.within (omega (arith, node, c.requires.holding.holds.node)))) (c.packed.ensures ∙ ap packed c.bound.ensures) _
    (c.behind-first.ensures ∙ behind_passed _ _ _ _ c.passed-past.ensures (omega (arith, fair.further, node)))
    (level_from (rw (c.queue.ensures, c.nodes.ensures)) (rw (c.next.ensures, c.remaining.ensures)) c.level.ensures)))

pub level-also-seen-requires : goal.level-also-seen-requires
level-also-seen-requires t c = c.requires.begun_at.free.below

pub level-loop-place-init : goal.level-loop-place-init
level-loop-place-init t c = turn_first _ _ _ _ _ _ _

pub level-rest-x-requires : goal.level-rest-x-requires
level-rest-x-requires t c = let inv = c.loop-place.invariant in
    let begun = level_begun c.of-marks.ensures c.of-start.ensures c.requires.begun_at in
    let at = ap (λ (x : Place). x.at) c.of-start.ensures in (
      omega (arith, (inv.turn begun).trying.at, at),
      (turn_holding _ _ _ _ _ _ _ inv c.requires.short.of_record c.also-seen.ensures begun, c.requires.short),
    )

pub level-overflow_sub-left : goal.level-overflow_sub-left
level-overflow_sub-left t c = omega (arith, c.if-left-eq0.false)

pub level-lengthen-k-requires : goal.level-lengthen-k-requires
level-lengthen-k-requires t c = turn_room _ _ _ _ _ _ _ c.loop-place.invariant c.requires.short.of_record c.also-seen.ensures c.rest-x.ensures (level_begun c.of-marks.ensures c.of-start.ensures c.requires.begun_at) (omega (arith, c.if-place-least.false))

pub level-loop-place-smaller : goal.level-loop-place-smaller
level-loop-place-smaller t c = omega (arith, ap (λ (x : Place). x.elements) c.lengthen-k.ensures.place, c.if-place-least.false)

pub level-loop-place-preserved : goal.level-loop-place-preserved
level-loop-place-preserved t c = turn_more _ _ _ _ _ _ _ c.loop-place.invariant c.requires.short.of_record c.also-seen.ensures c.rest-x.ensures
    (failed_by _ c.ne.ensures c.if-ne.false) (omega (arith, c.if-place-least.false)) c.if-left-eq0.false c.lengthen-k.ensures

pub level-returns-then-place-least : goal.level-returns-then-place-least
level-returns-then-place-least t c = level_from c.of-marks.ensures c.of-start.ensures
    (turn_last _ _ _ _ _ _ _ c.loop-place.invariant c.requires.short.of_record c.also-seen.ensures c.rest-x.ensures c.if-place-least.true)

pub level-returns-then-left-eq0 : goal.level-returns-then-left-eq0
level-returns-then-left-eq0 t c = level_from c.of-marks.ensures c.of-start.ensures
    (turn_spent _ _ _ _ _ _ _ c.loop-place.invariant c.requires.short.of_record c.also-seen.ensures c.rest-x.ensures
    (failed_by _ c.ne.ensures c.if-ne.false) (omega (arith, c.if-place-least.false)) c.if-left-eq0.true)

pub level-returns-then-k : goal.level-returns-then-k
level-returns-then-k t c = level_from c.of-marks.ensures c.of-start.ensures
    (turn_over _ _ _ _ _ _ _ c.loop-place.invariant c.requires.short.of_record c.also-seen.ensures c.rest-x.ensures
    (failed_by _ c.ne.ensures c.if-ne.false) (omega (arith, c.if-place-least.false)) c.if-left-eq0.false c.lengthen-k.ensures c.if-k.true)

pub rest-onward-w-requires-clause-holding : goal.rest-onward-w-requires-clause-holding
rest-onward-w-requires-clause-holding t c = c.requires.holding

pub rest-onward-w-requires-clause-short : goal.rest-onward-w-requires-clause-short
rest-onward-w-requires-clause-short t c = c.requires.short

pub rest-returns-then-halts : goal.rest-returns-then-halts
rest-returns-then-halts t c = rest_reports _ c.onward-w.ensures c.if-halts.true (no_failure _ c.in_default.not-Failure) c.report.ensures

pub rest-follow-requires : goal.rest-follow-requires
rest-follow-requires t c = let w = c.onward-w.ensures.going c.requires.holding.state c.requires.holding.holds in
    (omega (arith, w.moved.further), (record { state = w.end; holds = w.moved.holds }, ((w.stops, w.unassigned), c.requires.short)))

pub rest-returns : goal.rest-returns
rest-returns t c = rest_follows_by _ c.onward-w.ensures c.if-halts.false c.requires.holding c.follow.ensures

pub start_level-level-requires : goal.start_level-level-requires
start_level-level-requires t c = rw (
  c.next.ensures,
  c.remaining.ensures,
  c.queue.ensures,
  c.nodes.ensures,
) (omega arith, (none_begun false c.requires.holding (omega (arith, c.well_formed)), c.requires.short))

pub start_level-returns : goal.start_level-returns
start_level-returns t c = rest_starts c.requires.holding (omega (arith, c.well_formed))
    (level_from (rw (c.queue.ensures, c.nodes.ensures)) (rw (c.next.ensures, c.remaining.ensures)) c.level.ensures)

pub level-returns-then-ne : goal.level-returns-then-ne
level-returns-then-ne t c = level_from c.of-marks.ensures c.of-start.ensures
    (turn_hit _ _ _ _ _ _ _ c.loop-place.invariant c.requires.short.of_record c.also-seen.ensures c.rest-x.ensures (failed_by _ c.ne.ensures c.if-ne.true))

pub complements-returns-then-ne : goal.complements-returns-then-ne
complements-returns-then-ne t c = test_stop _ _ _ c.loop-i.invariant
    c.loop-i-test.true c.complement-x.ensures (found_by _ c.ne.ensures c.if-ne.true)

pub rest-returns-in-Failure : goal.rest-returns-in-Failure
rest-returns-in-Failure t c = rest_fails_by _ c.onward-w.ensures c.requires.holding (ap failure c.in-Failure.is)
