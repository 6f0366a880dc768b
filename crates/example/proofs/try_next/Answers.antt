-- `example::try_next` meets its contract.
use Rattle.example.proofs.Trials.{next_dead, next_over}
use Rattle.example.proofs.Fronts.{front_next}
use Rattle.term.specs.Lent.{language_by}
use Rattle.example.proofs.try_next.Goals as goal

pub returns-in-Some-clause-tries_next : goal.returns-in-Some-clause-tries_next
returns-in-Some-clause-tries_next c = let a = c.args.search.now in
    front_next (language_by a.language) a.lower a.pattern.now c.args.s.now a.allowance c.in-Some.k c.in-Some.ensures.front_at

pub returns-in-Some-look_at-clause-tries_next : goal.returns-in-Some-look_at-clause-tries_next
returns-in-Some-look_at-clause-tries_next c = let a = c.args.search.now in
    next_dead (language_by a.language) a.pattern.now c.args.s.now a.allowance a.lower c.in-Some-look_at.k c.in-Some-look_at.ensures.looks_at

pub returns-clause-tries_next : goal.returns-clause-tries_next
returns-clause-tries_next c = let a = c.args.search.now in
    next_over (language_by a.language) a.pattern.now c.args.s.now a.allowance a.lower c.in_ok-try_one.ensures
