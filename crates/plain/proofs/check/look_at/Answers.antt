-- `plain::check::look_at` meets its contract.
use mathlib.Core.Path.{sym, subst}
use Rattle.term.specs.Code.{VariableBelow}
use Rattle.term.proofs.Codes.{decode_below}
use Rattle.plain.proofs.Nodes.{variable_below, look_by_holds, look_by_variable, look_by_none}
use Rattle.plain.proofs.check.look_at.Goals as goal

pub look_variable-requires : goal.look_variable-requires
look_variable-requires c = variable_below c.in-Name.is (subst VariableBelow (sym c.decode.ensures) (decode_below _))

pub returns-in-Symbol-clause-is : goal.returns-in-Symbol-clause-is
returns-in-Symbol-clause-is c = look_by_holds _ _ _ _ _ c.decode.ensures c.in-Symbol.is _ c.look_symbol.ensures.is

pub returns-in-Name-clause-is : goal.returns-in-Name-clause-is
returns-in-Name-clause-is c = look_by_variable _ _ _ _ _ c.decode.ensures c.in-Name.is _ c.look_variable.ensures

pub returns-in-Complement-clause-is : goal.returns-in-Complement-clause-is
returns-in-Complement-clause-is c = look_by_none _ _ _ _ c.decode.ensures c.in-Complement.is
