-- `output::put_decimal` meets its contract.
use native.Mathlib.Omega.{arith}
use Rattle.output.proofs.Decimals.{spelled}
use Rattle.output.proofs.Fields.{field_as}
use Rattle.output.proofs.put_decimal.Goals as goal

pub returns-clause-contents : goal.returns-clause-contents
returns-clause-contents c = (field_as _ _ _ _ _ _ _ (spelled _ _ _ (omega arith) c.decimal-size.ensures.len c.decimal-size.ensures.digits) (c.put_field.ensures.contents, c.put_field.ensures.end)).0

pub returns-clause-end : goal.returns-clause-end
returns-clause-end c = (field_as _ _ _ _ _ _ _ (spelled _ _ _ (omega arith) c.decimal-size.ensures.len c.decimal-size.ensures.digits) (c.put_field.ensures.contents, c.put_field.ensures.end)).1
