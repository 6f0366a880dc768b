-- `plain::check::look_symbol` meets its contract.
use Rattle.plain.proofs.Nodes.{look_list_holds, look_other}
use Rattle.plain.proofs.check.look_symbol.Goals as goal

pub returns-then-entry_of-clause-is : goal.returns-then-entry_of-clause-is
returns-then-entry_of-clause-is c = look_list_holds _ _ _ _ _ c.entry_of.ensures c.if-entry_of.true _ c.look_list.ensures.is

pub returns-clause-is : goal.returns-clause-is
returns-clause-is c = look_other _ _ _ _ _ c.entry_of.ensures c.if-entry_of.false
