-- `plain::tier::leaves` meets its contract. The invariant: so many hold, and those from here on.
use mathlib.Core.Path.{◌∙◌, ap}
use Rattle.plain.specs.Bytes.{is_leaf}
use Rattle.plain.proofs.Holding.{held_first, held_end, held_cut, held_other, held_differs, held_next}
use Rattle.term.proofs.Pairs.{together}
use Rattle.plain.proofs.tier.leaves.Goals as goal

pub loop-n-init : goal.loop-n-init
loop-n-init c = held_first _ _ _ _

pub returns-then-r-n : goal.returns-then-r-n
returns-then-r-n c = together (held_cut _ _ _ _ _ c.loop-n.invariant c.if-r-n.true) (λ first rest. record { is = first; within = rest })

pub returns-then-not-is_leaf : goal.returns-then-not-is_leaf
returns-then-not-is_leaf c = together (held_other _ _ _ _ _ c.loop-n.invariant c.loop-n-test.true c.if-r-n.false _ (c.is_leaf.ensures ∙ ap (is_leaf c.args.language.now.table.now) c.decode.ensures) c.if-not-is_leaf.true) (λ first rest. record { is = first; within = rest })

pub returns-then-not-same_symbol : goal.returns-then-not-same_symbol
returns-then-not-same_symbol c = together (held_differs _ _ _ _ _ c.loop-n.invariant c.loop-n-test.true c.if-r-n.false _ (c.is_leaf.ensures ∙ ap (is_leaf c.args.language.now.table.now) c.decode.ensures) c.if-not-is_leaf.false _ c.same_symbol.ensures c.if-not-same_symbol.true) (λ first rest. record { is = first; within = rest })

pub loop-n-preserved : goal.loop-n-preserved
loop-n-preserved c = held_next _ _ _ _ _ c.loop-n.invariant c.loop-n-test.true c.if-r-n.false _ (c.is_leaf.ensures ∙ ap (is_leaf c.args.language.now.table.now) c.decode.ensures) c.if-not-is_leaf.false _ c.same_symbol.ensures c.if-not-same_symbol.false

pub returns : goal.returns
returns c = together (held_end _ _ _ _ _ c.loop-n.invariant c.loop-n-test.false) (λ first rest. record { is = first; within = rest })
