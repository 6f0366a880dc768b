-- `example::find_twins` meets its contract.
use Rattle.example.specs.Inner.{Standing}
use Rattle.example.proofs.find_twins.Given as goal

abbrev pub invariant-loop-s : goal.invariant-loop-s
invariant-loop-s l = Standing l.table l.classes l.kept l.s l.last l.lower
