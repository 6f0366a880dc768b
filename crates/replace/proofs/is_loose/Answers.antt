-- `replace::is_loose` meets its contract.
use Rattle.replace.proofs.Marks.{tells_loose}
use Rattle.replace.proofs.is_loose.Goals as goal

pub returns : goal.returns
returns c = tells_loose c.args.table.now c.args.rule.now c.args.template.now _ _ c.free_in.ensures c.is_unmarked.ensures
