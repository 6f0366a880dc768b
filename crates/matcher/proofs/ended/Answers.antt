-- `matcher::ended` meets its contract.
use native.Mathlib.Omega.{arith}
use Rattle.matcher.proofs.ended.Goals as goal

pub overflow_sub-result : goal.overflow_sub-result
overflow_sub-result c = omega (arith, c.requires)

pub overflow_sub-result-in-Failed : goal.overflow_sub-result-in-Failed
overflow_sub-result-in-Failed c = omega (arith, c.requires)

pub returns-in-Found : goal.returns-in-Found
returns-in-Found c = rw c.in-Found.is

pub returns-in-Failed : goal.returns-in-Failed
returns-in-Failed c = rw c.in-Failed.is

pub returns-in-Spent : goal.returns-in-Spent
returns-in-Spent c = rw c.in-Spent.is
