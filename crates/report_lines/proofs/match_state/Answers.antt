-- `report_lines::match_state` meets its contract.
use native.Mathlib.Omega.{arith}
use Rattle.report_lines.proofs.States.{matched_answer}
use Rattle.report_lines.proofs.match_state.Goals as goal

pub returns : goal.returns
returns c = matched_answer c.args.table.now c.args.rules.now c.args.states.now _ c.args.state c.requires.files_accepted c.requires.state_bound
    (λ i. omega (arith, c.shared_slice_known-2-1.given i)) (λ i. omega (arith, c.shared_slice_known-3-1.given i))
    _ _ c.part_at.ensures.bytes (omega arith) _ c.match_rules_checked.ensures.is
