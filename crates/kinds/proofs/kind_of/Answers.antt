-- `kinds::kind_of` meets its contract: the rule of the ranges is one test over the whole constant.
use Rattle.kinds.proofs.Ranges.{times, kinds, kind_at}
use borrow.Author.Rules.{rules}
use Rattle.kinds.proofs.kind_of.Goals as goal

pub returns-clause-range : goal.returns-clause-range
unfolding kinds times
returns-clause-range c = (kind_at c.args.code (search rules)).0

pub returns-clause-read : goal.returns-clause-read
unfolding kinds times
returns-clause-read c = (kind_at c.args.code (search rules)).1
