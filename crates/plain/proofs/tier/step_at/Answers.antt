-- `plain::tier::step_at` meets its contract.
use mathlib.Core.Path.{refl, ap}
use Rattle.plain.specs.declared.tier.Turn.TheVariants.{TakesNode}
use Rattle.plain.proofs.Nodes.{name_below, run_below, step_by, step_by_none}
use Rattle.term.proofs.Pairs.{together}
use Rattle.plain.proofs.tier.step_at.Goals as goal

pub returns-in-Symbol : goal.returns-in-Symbol
returns-in-Symbol c = together (step_by _ _ _ _ _ _ c.decode.ensures c.in-Symbol.is _ c.symbol_step.ensures.is c.symbol_step.ensures.within) (λ first rest. record { is = first; within = rest })

pub returns-in-Name : goal.returns-in-Name
returns-in-Name c = together (step_by _ _ _ _ _ _ c.decode.ensures c.in-Name.is _ (ap (TakesNode c.in-Name.v) c.extent.ensures.is)
    (name_below _ _ _ c.decode.ensures c.in-Name.is, c.extent.ensures.within)) (λ first rest. record { is = first; within = rest })

pub returns-in-Run : goal.returns-in-Run
returns-in-Run c = together (step_by _ _ _ _ _ _ c.decode.ensures c.in-Run.is _ refl (run_below _ _ _ c.decode.ensures c.in-Run.is)) (λ first rest. record { is = first; within = rest })

pub returns-in-Complement : goal.returns-in-Complement
returns-in-Complement c = together (step_by_none _ _ _ _ _ c.decode.ensures c.in-Complement.is) (λ first rest. record { is = first; within = rest })
