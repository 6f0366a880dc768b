-- `stored::stored_node` meets its contract.
use native.Mathlib.Omega.{arith}
use mathlib.Core.Path.{sym, ◌∙◌}
use Rattle.std.proofs.lemmas.Result.{err_from_is_err_and}
use Rattle.stored.proofs.Inverse.{node_refused, node_size, node_other, node_short, node_list}
use Rattle.stored.proofs.stored_node.Goals as goal

pub returns-in_err-node : goal.returns-in_err-node
returns-in_err-node c = let p = err_from_is_err_and c.from_residual.result c.from_residual.ensures.1 in
    rw (p.1, p.2) (sym c.in_err-node.was ∙ node_refused _ _ _ _ c.node_at.ensures c.in_err-node.was)

pub returns-then-not-in_list : goal.returns-then-not-in_list
returns-then-not-in_list c = node_other _ _ _ _ c.node_at.ensures c.in_ok-node.was (sym c.in_list.ensures ∙ c.if-not-in_list.true)

pub overflow_add-size : goal.overflow_add-size
overflow_add-size c = omega (arith, node_size _ _ _ _ c.node_at.ensures c.in_ok-node.was)

pub returns-then-s-size : goal.returns-then-s-size
returns-then-s-size c = node_short _ _ _ _ c.node_at.ensures c.in_ok-node.was (sym c.in_list.ensures ∙ c.if-not-in_list.false) c.if-s-size.true

pub returns : goal.returns
returns c = node_list _ _ _ _ c.node_at.ensures c.in_ok-node.was (sym c.in_list.ensures ∙ c.if-not-in_list.false) c.if-s-size.false
