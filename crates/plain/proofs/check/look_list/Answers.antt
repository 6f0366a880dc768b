-- `plain::check::look_list` meets its contract.
use Rattle.plain.proofs.Nodes.{look_short, look_many, look_few}
use Rattle.plain.proofs.check.look_list.Goals as goal

pub returns-then-q-lt2-clause-is : goal.returns-then-q-lt2-clause-is
returns-then-q-lt2-clause-is c = look_short _ _ _ c.if-q-lt2.true

pub returns-then-runs-gt1-clause-is : goal.returns-then-runs-gt1-clause-is
returns-then-runs-gt1-clause-is c = look_many _ _ _ c.if-q-lt2.false _ c.runs_among-runs.ensures.is c.if-runs-gt1.true

pub returns-clause-is : goal.returns-clause-is
returns-clause-is c = look_few _ _ _ c.if-q-lt2.false _ c.runs_among-runs.ensures.is c.if-runs-gt1.false
