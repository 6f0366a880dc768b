-- `plain::tier::list_step` meets its contract.
use Rattle.plain.proofs.Nodes.{list_short, list_cut, list_equal, list_none, list_few, list_notes}
use Rattle.term.proofs.Pairs.{together}
use Rattle.plain.proofs.tier.list_step.Goals as goal

pub returns-then-q-lt2 : goal.returns-then-q-lt2
returns-then-q-lt2 c = together (list_short _ _ _ c.if-q-lt2.true) (λ first rest. record { is = first; within = rest })

pub returns-then-r-lt2 : goal.returns-then-r-lt2
returns-then-r-lt2 c = together (list_cut _ _ _ c.if-q-lt2.false c.if-r-lt2.true) (λ first rest. record { is = first; within = rest })

pub returns-then-n-m : goal.returns-then-n-m
returns-then-n-m c = together (list_equal _ _ _ c.if-q-lt2.false c.if-r-lt2.false c.if-n-m.true) (λ first rest. record { is = first; within = rest })

pub returns-then-runs-eq0 : goal.returns-then-runs-eq0
returns-then-runs-eq0 c = together (list_none _ _ _ c.if-q-lt2.false c.if-r-lt2.false c.if-n-m.false _ c.runs_among-runs.ensures.is c.if-runs-eq0.true) (λ first rest. record { is = first; within = rest })

pub returns-then-m-n : goal.returns-then-m-n
returns-then-m-n c = together (list_few _ _ _ c.if-q-lt2.false c.if-r-lt2.false c.if-n-m.false _ c.runs_among-runs.ensures.is c.if-runs-eq0.false c.if-m-n.true) (λ first rest. record { is = first; within = rest })

pub returns : goal.returns
returns c = together (list_notes _ _ _ c.if-q-lt2.false c.if-r-lt2.false c.if-n-m.false _ c.runs_among-runs.ensures.is c.if-runs-eq0.false c.if-m-n.false
    c.runs_among-runs.ensures.few.1) (λ first rest. record { is = first; within = rest })
