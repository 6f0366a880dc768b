-- `skips::seek_chain` meets its contract. Assumes nothing.
use native.Mathlib.Omega.{arith}
use mathlib.Core.Path.{refl, ◌∙◌}
use Rattle.term.proofs.Lists.{rest_length}
use Rattle.skips.proofs.Passing.{failing_chain, seek_last, seek_out, seek_stop, seek_more}
use Rattle.skips.proofs.seek_chain.Goals as goal

pub returns-then-r-size : goal.returns-then-r-size
returns-then-r-size c = seek_out _ _ _ _ c.loop-elements.invariant (omega arith)

pub returns-then-pairs-eq0 : goal.returns-then-pairs-eq0
returns-then-pairs-eq0 c =
    seek_stop _ _ _ _ c.loop-elements.invariant (omega arith) _ (c.differs-pairs.ensures ∙ failing_chain _ _ _ _ _ c.requires) c.if-pairs-eq0.true

pub loop-elements-preserved : goal.loop-elements-preserved
loop-elements-preserved c = let loop = c.loop-elements in
    seek_more _ _ _ _ loop.invariant (omega arith) _ (c.differs-pairs.ensures ∙ failing_chain _ _ _ _ _ c.requires) (omega arith)
    c.if-pairs-eq0.false (omega arith) _ c.element-size.ensures.is
    (omega (arith, loop.invariant.within, c.element-size.ensures.within, rest_length loop.size c.args.r.now)) _ (omega arith)

pub returns : goal.returns
returns c = seek_last _ _ _ _ c.loop-elements.invariant (omega arith) _ refl
