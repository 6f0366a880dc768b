-- `kinds::put_each_code` meets its contract. The invariant: the lines of the codes from `code` on are still to be stored.
use Rattle.kinds.proofs.Codes.{CodeTurn}
use Rattle.kinds.proofs.put_each_code.Given as goal

abbrev pub invariant-loop-code : goal.invariant-loop-code
invariant-loop-code l = CodeTurn l.initial.out l.out l.code l.at
