-- `example::try_length` meets its contract.
use Rattle.std.proofs.lemmas.Result.{err_from_is_err_and}
use Rattle.term.specs.Lent.{language_by}
use Rattle.term.proofs.Pairs.{together}
use Rattle.example.proofs.Trials.{running_start, running_stops, running_steps, running_ends}
use Rattle.example.proofs.try_length.Goals as goal

pub loop-shared-init : goal.loop-shared-init
loop-shared-init c = let a = c.args.search.now in running_start (language_by a.language) a.lower a.pattern.now a.allowance c.args.s.now c.requires.s_value

pub returns-in_err-shared : goal.returns-in_err-shared
returns-in_err-shared c = let a = c.args.search.now in let n = c.loop-shared in
    let p = err_from_is_err_and c.from_residual.result c.from_residual.ensures.1 in
    together (rw (p.1, p.2) (running_stops (language_by a.language) a.lower a.pattern.now a.allowance c.args.s.now n.s n.invariant _ c.in_err-shared.ensures.tries_next))
    (λ first rest. record { tries_length = first; cleared = rest })

pub returns-then-not-advance : goal.returns-then-not-advance
returns-then-not-advance c = let a = c.args.search.now in let n = c.loop-shared in
    together (running_ends (language_by a.language) a.lower a.pattern.now a.allowance c.args.s.now n.s n.invariant c.in_ok-shared.shared
    c.in_ok-shared.ensures.shared_in_bounds c.in_ok-shared.ensures.tries_next _ _ c.advance.ensures c.if-not-advance.true)
    (λ first rest. record { tries_length = first; cleared = rest })

pub loop-shared-smaller : goal.loop-shared-smaller
loop-shared-smaller c = let a = c.args.search.now in let n = c.loop-shared in
    (running_steps (language_by a.language) a.lower a.pattern.now a.allowance c.args.s.now n.s n.invariant c.in_ok-shared.shared
    c.in_ok-shared.ensures.shared_in_bounds c.in_ok-shared.ensures.tries_next _ _ c.advance.ensures c.if-not-advance.false).1

pub loop-shared-preserved : goal.loop-shared-preserved
loop-shared-preserved c = let a = c.args.search.now in let n = c.loop-shared in
    (running_steps (language_by a.language) a.lower a.pattern.now a.allowance c.args.s.now n.s n.invariant c.in_ok-shared.shared
    c.in_ok-shared.ensures.shared_in_bounds c.in_ok-shared.ensures.tries_next _ _ c.advance.ensures c.if-not-advance.false).0
