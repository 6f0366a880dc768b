-- `cost::count_nodes` meets its contract. The invariant: the nodes are those counted so far and those from `at` on.
use native.Mathlib.Omega.{arith}
use mathlib.Core.Path.{◌≡◌, sym, ap, ◌∙◌}
use mathlib.Core.Bool.{true, false, true≢false}
use lib.ListN.{get_or}
use Rattle.cost.specs.Tally.{is_run}
use Rattle.cost.proofs.Tally.{tally_end, tally_run, tally_node, run_seen, no_run_seen, own_some}
use Rattle.cost.proofs.count_nodes.Goals.{in-Run, in_default}
use Rattle.cost.proofs.count_nodes.Goals as goal

pub returns-then-matches : goal.returns-then-matches
returns-then-matches c = let args = c.args in
    let turn = c.loop-at in
    let run : is_run c.decode.result ≡ true = elim c.match-matches.branch [
      | in-Run w ↦ run_seen _ _ w.in-Run.is
      | in_default w ↦ absurd (true≢false (sym c.if-matches.true ∙ w.matches-is))
    ] in
    sym (turn.invariant.1 ∙ tally_run args.table.now args.pattern.now turn.at turn.nodes (omega arith)
    (ap is_run (sym c.decode.ensures) ∙ run))

pub loop-at-preserved : goal.loop-at-preserved
loop-at-preserved c = let args = c.args in
    let turn = c.loop-at in
    let b = get_or args.pattern.now turn.at 0 in
    let other : is_run c.decode.result ≡ false = elim c.match-matches.branch [
      | in-Run w ↦ absurd (true≢false (sym w.matches-is ∙ c.if-matches.false))
      | in_default w ↦ no_run_seen _ w.in_default.not-Run
    ] in (
      omega (arith, c.own_bytes-at.ensures, (own_some args.table.now b).0),
      turn.invariant.1 ∙ tally_node args.table.now args.pattern.now turn.at turn.nodes (omega arith)
          (ap is_run (sym c.decode.ensures) ∙ other) _ c.own_bytes-at.ensures,
    )

pub returns : goal.returns
returns c = let args = c.args in
    let turn = c.loop-at in
    sym (turn.invariant.1 ∙ tally_end args.table.now args.pattern.now turn.at turn.nodes (omega arith))
