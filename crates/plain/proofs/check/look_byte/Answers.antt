-- `plain::check::look_byte` meets its contract.
use Rattle.plain.proofs.Nodes.{variable_below}
use Rattle.plain.proofs.check.look_byte.Goals as goal

pub look_variable-requires : goal.look_variable-requires
look_variable-requires c = variable_below c.in-Name.is c.requires
