-- `kinds::put_each_code` meets its contract. The invariant: the lines of the codes from `code` on are still to be stored.
use Rattle.kinds.proofs.Codes.{codes_start, code_room, code_next, codes_done}
use Rattle.kinds.proofs.put_each_code.Goals as goal

pub loop-code-init : goal.loop-code-init
loop-code-init c = codes_start _

pub put_code-at-requires : goal.put_code-at-requires
put_code-at-requires c = code_room _ _ _ _ c.loop-code.invariant c.loop-code-test.true c.requires

pub loop-code-preserved : goal.loop-code-preserved
loop-code-preserved c = code_next _ _ _ _ c.loop-code.invariant c.loop-code-test.true _ _ c.put_code-at.ensures.out_value c.put_code-at.ensures.value

pub shape_of-out : goal.shape_of-out
shape_of-out c = c.loop-code.invariant.same

pub returns : goal.returns
returns c = codes_done _ _ _ _ c.loop-code.invariant c.loop-code-test.false
