-- `skips::seek_part` meets its contract. Assumes nothing.
use native.Mathlib.Omega.{arith}
use Prim.Native.Nat.{◌-◌}
use mathlib.Core.Path.{◌≡◌, refl, sym, ◌∙◌}
use mathlib.Core.Bool.{false}
use lib.ListN.{length, take, drop}
use Rattle.term.proofs.Lists.{rest_length}
use Rattle.skips.specs.Passed.{starts_of}
use Rattle.skips.proofs.Passing.{part_starts, alike_apart, alike_within, starts_empty, failing_stands, failing_part, seek_none, seek_last, seek_out, seek_stop, seek_more}
use Rattle.skips.proofs.seek_part.Goals as goal
use Rattle.skips.proofs.seek_part.Goals.{else-alike-via-then-alike+else-same, else-alike-via-else-alike}

pub returns-then-size-eq0 : goal.returns-then-size-eq0
returns-then-size-eq0 c = c.at_one_pair.ensures ∙ seek_none _ _ _ _ _ _ (sym (failing_stands _ _ _ _ _ refl (starts_empty _ _ _ _ c.if-size-eq0.true)))

pub returns-then-r-at : goal.returns-then-r-at
returns-then-r-at c = c.at_one_pair-then-r-at.ensures ∙ seek_out _ _ _ _ c.loop-n.invariant (omega arith)

pub slice_bounds-same-end : goal.slice_bounds-same-end
slice_bounds-same-end c = omega (arith, alike_within _ _ _ _ _ (sym c.alike.ensures ∙ c.if-alike.true), rest_length c.loop-n.at c.args.r.now)

pub returns-then-same : goal.returns-then-same
returns-then-same c = let loop = c.loop-n in
    c.at_one_pair-then-same.ensures
    ∙ seek_stop _ _ _ _ loop.invariant (omega arith) 0
    (failing_stands _ _ _ _ 0 refl
    (sym (part_starts _ _ _ _ loop.at (alike_within _ _ _ _ _ (sym c.alike.ensures ∙ c.if-alike.true)))
    ∙ sym c.same.ensures.is ∙ c.if-same.true))
    refl

pub loop-n-preserved : goal.loop-n-preserved
loop-n-preserved c = let args = c.args in
    let loop = c.loop-n in
    let alike = c.alike.ensures in
    let apart : starts_of args.table.now args.classes.now args.x.now (take (length args.r.now - loop.at) (drop loop.at args.r.now)) ≡ false =
    elim c.else-alike.branch [
      | else-alike-via-then-alike+else-same w ↦ sym (part_starts _ _ _ _ loop.at (alike_within _ _ _ _ _ (sym alike ∙ w.if-alike.true))) ∙ sym w.same.ensures.is ∙ w.if-same.false
      | else-alike-via-else-alike w ↦ alike_apart _ _ _ _ _ _ c.class_of-first.ensures c.class_of-last.ensures (omega arith) (sym alike ∙ w.if-alike.false)
    ] in
    seek_more _ _ _ _ loop.invariant (omega arith) 1 (failing_part _ _ _ _ 0 refl apart) (omega arith) (λ z. omega (arith, z)) (omega arith) _
    c.small_element-at.ensures.is
    (omega (arith, loop.invariant.within, c.small_element-at.ensures.within, rest_length loop.at args.r.now)) _ (omega arith)

pub returns : goal.returns
returns c = c.at_one_pair-2.ensures ∙ seek_last _ _ _ _ c.loop-n.invariant (omega arith) _ (omega (arith, c.loop-n.invariant.few))
