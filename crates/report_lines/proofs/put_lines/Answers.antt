-- `report_lines::put_lines` meets its contract.
use Rattle.report_lines.specs.Line.{header}
use Rattle.report_lines.proofs.Turns.{state_counted, turn_starts, turn_room, turn_next, turn_done}
use Rattle.term.proofs.Pairs.{together}
use Rattle.report_lines.proofs.put_lines.Goals as goal

pub loop-state-init : goal.loop-state-init
loop-state-init c = turn_starts _ _ _ _ _

pub match_state-answer-requires : goal.match_state-answer-requires
match_state-answer-requires c = together (state_counted _ _ _ _ c.requires.files_accepted _ c.loop-state-test.true) (λ first rest. record { files_accepted = first; state_bound = rest })

pub put_answer-at-requires : goal.put_answer-at-requires
unfolding header
put_answer-at-requires c = turn_room _ _ _ _ c.requires.files_accepted c.args.out.now _ _ c.requires.report_room_in_bounds (c.put_field-at.ensures.contents, c.put_field-at.ensures.end) c.loop-state.invariant _ c.loop-state-test.true c.match_state-answer.ensures

pub loop-state-preserved : goal.loop-state-preserved
unfolding header
loop-state-preserved c = turn_next _ _ _ _ c.requires.files_accepted c.args.out.now _ _ c.requires.report_room_in_bounds (c.put_field-at.ensures.contents, c.put_field-at.ensures.end) c.loop-state.invariant _ c.loop-state-test.true c.match_state-answer.ensures _ _ c.put_answer-at.ensures.out_value c.put_answer-at.ensures.value

pub returns : goal.returns
unfolding header
returns c = together (turn_done _ _ _ _ c.requires.files_accepted c.args.out.now _ _ c.requires.report_room_in_bounds (c.put_field-at.ensures.contents, c.put_field-at.ensures.end) c.loop-state.invariant c.loop-state-test.false) (λ first rest. record { out_value = first; value = rest })
