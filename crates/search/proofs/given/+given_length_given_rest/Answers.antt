-- The next answer on bytes meets its contracts. Each run name stands further on in the pattern: `levels` falls.
-- Assumes nothing.
use Prim.Native.Nat.{ℕ, ◌+◌, ◌-◌, ◌%◌, ◌^◌, ◌<◌, ◌≤◌}
use native.Mathlib.Omega.{arith}
use mathlib.Core.Path.{◌≡◌, ap, subst, ◌∙◌}
use mathlib.Core.List.{List}
use mathlib.Core.Bool.{false}
use lib.Bits.{bit_or}
use lib.ListN.{length, drop, get_or}
use Rattle.answers.specs.Part.{bound_part}
use Rattle.answers.specs.declared.Part.{Part}
use Rattle.term.specs.Extent.{span_of}
use Rattle.parts.specs.Packed.{bit, packed}
use Rattle.search.specs.State.{place_past}
use Rattle.search.specs.Inner.Memory.{Holding}
use Rattle.search.specs.Inner.Bounds.{StopsAt, Unassigned, Ready, Short}
use Rattle.search.specs.declared.marks.Marks.{Marks}
use Rattle.search.specs.Inner.Lent.{input_of, lent_of}
use Rattle.search.specs.Inner.Replies.{failure}
use Rattle.search.specs.declared.place.Place.{Place}
use Rattle.search.proofs.Findings.{same_failed, resumed_by}
use Rattle.search.proofs.Reporting.{pairs_walk}
use Rattle.search.proofs.Givens.{given_follows, given_spent, given_ends, given_unknown, given_run, given_none, given_unfit, Taken, taken_holding, taken_again, given_stays, given_goes_on}
use Rattle.search.proofs.given.+given_length_given_rest.Goals as goal

-- the given length is taken, and the variable's part is written
given_length_taken : {table classes pattern bytes given : List ℕ} {assigned left : ℕ} {parts stack : List ℕ} {v : ℕ} {m : Marks} {p past : Place}
    {node seen part : ℕ} {bound : Part}
    → Holding (length pattern) (length bytes) assigned parts stack m p
    → Ready (length pattern) v p × (bit assigned v ≡ false)
    → Short pattern bytes
    → (left ≡ 0 → ⊥)
    → get_or given v 0 ≤ p.elements → p.elements < 256
    → (node ≡ p.node + span_of table (drop p.node bytes) false (get_or given v 0 % 256)) × (node ≤ length bytes)
    → past ≡ place_past p (get_or given v 0 % 256) 1 (node - p.node)
    → part ≡ packed bound → bound ≡ bound_part p.node (node - p.node) (get_or given v 0 % 256)
    → seen ≡ bit_or assigned (2 ^ v)
    → Taken (input_of table classes pattern bytes) given (lent_of assigned left parts stack) v (get_or given v 0 % 256) node m p part seen past
given_length_taken holding ready short some enough low behind is_place is_part is_bound is_seen = record {
  holding = holding;
  ready = ready.0;
  free = ready.1;
  short = short.of_record;
  some = some;
  is_n = omega arith;
  fits = omega arith;
  byte = omega arith;
  is_node = behind.0;
  within = behind.1;
  is_place = is_place;
  is_part = is_part ∙ ap packed is_bound;
  is_seen = is_seen;
}

pub given_length-returns-then-left-eq0 : goal.given_length-returns-then-left-eq0
given_length-returns-then-left-eq0 t c = given_none _ _ _ _ _ _ c.if-left-eq0.true

pub given_length-overflow_sub-left : goal.given_length-overflow_sub-left
given_length-overflow_sub-left t c = omega (arith, c.if-left-eq0.false)

pub given_length-offset_bounds-given-v : goal.given_length-offset_bounds-given-v
given_length-offset_bounds-given-v t c = omega (arith, c.requires.ready.0.variable)

pub given_length-bounds-given-v : goal.given_length-bounds-given-v
given_length-bounds-given-v t c = omega (arith, c.requires.ready.0.variable)

pub given_length-returns-then-place-length : goal.given_length-returns-then-place-length
given_length-returns-then-place-length t c = given_unfit _ _ _ _ _ _ c.if-left-eq0.false c.if-place-length.true _

pub given_length-overflow_cast-n : goal.given_length-overflow_cast-n
given_length-overflow_cast-n t c = omega arith

pub given_length-behind-node-requires : goal.given_length-behind-node-requires
given_length-behind-node-requires t c = (c.requires.holding.holds.node, c.requires.short.of_record)

pub given_length-overflow_sub-node : goal.given_length-overflow_sub-node
given_length-overflow_sub-node t c = omega (arith, c.behind-node.ensures.0)

pub given_length-passed-past-requires : goal.given_length-passed-past-requires
given_length-passed-past-requires t c = (c.requires.ready.0.children, omega (arith, c.if-place-length.false), omega (arith, c.requires.ready.0.at, c.requires.short.of_pattern), omega (arith, c.behind-node.ensures.0, c.behind-node.ensures.1, c.requires.short.of_record))

pub given_length-also-requires : goal.given_length-also-requires
given_length-also-requires t c = omega (arith, c.requires.ready.0.variable)

pub given_length-overflow_sub-node-2 : goal.given_length-overflow_sub-node-2
given_length-overflow_sub-node-2 t c = omega (arith, c.behind-node.ensures.0)

pub given_length-offset_bounds-parts-v : goal.given_length-offset_bounds-parts-v
given_length-offset_bounds-parts-v t c = omega (arith, c.requires.ready.0.variable)

pub given_length-bounds-parts-v : goal.given_length-bounds-parts-v
given_length-bounds-parts-v t c = omega (arith, c.requires.ready.0.variable)

pub given_length-given_rest-x-requires : goal.given_length-given_rest-x-requires
given_length-given_rest-x-requires t c = let at = ap (λ (x : Place). x.at) c.passed-past.ensures in
    (omega (arith, at, c.requires.ready.0.at), (taken_holding _ _ _ _ _ _ _ _ (given_length_taken {classes = c.args.classes.now} c.requires.holding c.requires.ready c.requires.short c.if-left-eq0.false (omega (arith, c.if-place-length.false)) (omega (arith, c.struct_known-1.given)) c.behind-node.ensures c.passed-past.ensures c.packed.ensures c.bound.ensures c.also.ensures), c.requires.short))

pub given_length-further-requires-clause-holding : goal.given_length-further-requires-clause-holding
given_length-further-requires-clause-holding t c = taken_again _ _ _ _ _ _ _ _ (given_length_taken c.requires.holding c.requires.ready c.requires.short c.if-left-eq0.false (omega (arith, c.if-place-length.false)) (omega (arith, c.struct_known-1.given)) c.behind-node.ensures c.passed-past.ensures c.packed.ensures c.bound.ensures c.also.ensures) c.given_rest-x.ensures

pub given_length-further-requires-clause-ready : goal.given_length-further-requires-clause-ready
given_length-further-requires-clause-ready t c = c.requires.ready

pub given_length-further-requires-clause-n_le_elements : goal.given_length-further-requires-clause-n_le_elements
given_length-further-requires-clause-n_le_elements t c = (omega (arith, c.if-place-length.false), omega (arith, c.behind-node.ensures.0), c.behind-node.ensures.1)

pub given_length-further-requires-clause-short : goal.given_length-further-requires-clause-short
given_length-further-requires-clause-short t c = c.requires.short

pub given_length-returns : goal.given_length-returns
given_length-returns t c = given_goes_on _ _ _ _ _ _ _ _ (given_length_taken c.requires.holding c.requires.ready c.requires.short c.if-left-eq0.false (omega (arith, c.if-place-length.false)) (omega (arith, c.struct_known-1.given)) c.behind-node.ensures c.passed-past.ensures c.packed.ensures c.bound.ensures c.also.ensures) c.given_rest-x.ensures
    (resumed_by _ _ same_failed c.ne.ensures c.if-ne.false) c.further.ensures

pub given_rest-pairs-walked-requires-clause-holding : goal.given_rest-pairs-walked-requires-clause-holding
given_rest-pairs-walked-requires-clause-holding t c = c.requires.holding

pub given_rest-pairs-walked-requires-clause-short : goal.given_rest-pairs-walked-requires-clause-short
given_rest-pairs-walked-requires-clause-short t c = c.requires.short

pub given_rest-start_level-requires-clause-holding : goal.given_rest-start_level-requires-clause-holding
given_rest-start_level-requires-clause-holding t c = let walks = pairs_walk c.pairs-walked.ensures c.requires.short (ap failure c.in-NoPair.is) in
    let w = walks c.requires.holding.state c.requires.holding.holds in
    record { state = w.end; holds = w.moved.holds }

pub given_rest-start_level-requires-clause-short : goal.given_rest-start_level-requires-clause-short
given_rest-start_level-requires-clause-short t c = let walks = pairs_walk c.pairs-walked.ensures c.requires.short (ap failure c.in-NoPair.is) in
    let w = walks c.requires.holding.state c.requires.holding.holds in
    c.requires.short

pub given_rest-given_length-requires : goal.given_rest-given_length-requires
given_rest-given_length-requires t c = let is_run = c.in-RunName.is in
    let walks = pairs_walk c.pairs-walked.ensures c.requires.short (ap failure is_run) in
    let w = walks c.requires.holding.state c.requires.holding.holds in
    rw c.from.ensures (
      omega (arith, w.moved.further),
      (record { state = w.end; holds = w.moved.holds }, ((subst (StopsAt _ _) is_run w.stops, subst (Unassigned _) is_run w.unassigned), c.requires.short)),
    )

pub given_rest-returns-in-Failure : goal.given_rest-returns-in-Failure
given_rest-returns-in-Failure t c = given_unknown _ _ _ c.requires.holding c.pairs-walked.ensures c.in-Failure.is

pub given_rest-returns-in-NoAllowance : goal.given_rest-returns-in-NoAllowance
given_rest-returns-in-NoAllowance t c = given_follows _ c.requires.holding (pairs_walk c.pairs-walked.ensures c.requires.short (ap failure c.in-NoAllowance.is))
    (given_spent _ _ _ _ _ _ c.in-NoAllowance.is)

pub given_rest-returns-in-NoPair : goal.given_rest-returns-in-NoPair
given_rest-returns-in-NoPair t c = let none = c.in-NoPair.is in
    given_ends _ c.requires.holding (pairs_walk c.pairs-walked.ensures c.requires.short (ap failure none)) none _ c.resumed.ensures c.start_level.ensures

pub given_rest-returns-in-RunName : goal.given_rest-returns-in-RunName
given_rest-returns-in-RunName t c = let is_run = c.in-RunName.is in
    given_follows _ c.requires.holding (pairs_walk c.pairs-walked.ensures c.requires.short (ap failure is_run))
    (given_run _ _ _ _ _ _ _ _ is_run c.from.ensures c.given_length.ensures)

pub given_length-returns-then-ne : goal.given_length-returns-then-ne
given_length-returns-then-ne t c = given_stays _ _ _ _ _ _ _ _ (given_length_taken c.requires.holding c.requires.ready c.requires.short c.if-left-eq0.false (omega (arith, c.if-place-length.false)) (omega (arith, c.struct_known-1.given)) c.behind-node.ensures c.passed-past.ensures c.packed.ensures c.bound.ensures c.also.ensures) c.given_rest-x.ensures (resumed_by _ _ same_failed c.ne.ensures c.if-ne.true)
