-- `plain::match_checked` meets its contract.
use Rattle.plain.proofs.Demanded.{ended_fails, ended_fits}
use Rattle.term.proofs.Pairs.{together}
use Rattle.plain.proofs.match_checked.Goals as goal

pub returns-in-Some : goal.returns-in-Some
returns-in-Some c = together (ended_fits _ _ c.tier-end.ensures.is _ c.in-Some.is c.tier-end.ensures.parts c.show.ensures) (λ first rest. record { is = first; buffer = rest })

pub returns-in-None : goal.returns-in-None
returns-in-None c = together (ended_fails _ _ c.tier-end.ensures.is _ c.in-None.is) (λ first rest. record { is = first; buffer = rest })
