-- `kinds::put_codes` meets its contract.
use Rattle.kinds.proofs.Codes.{codes_fill}
use borrow.Author.Rules.{rules}
use Rattle.kinds.proofs.put_codes.Goals as goal

pub returns : goal.returns
returns c = codes_fill _ _ (search rules) c.put_each_code.ensures
