-- `reader::node_in` meets its contract.
use Rattle.reader.specs.Node.{open_node, code_node}
use Rattle.reader.proofs.Nodes.{node_short, node_code}
use mathlib.Core.Path.{sym, ◌∙◌}
use Rattle.reader.proofs.node_in.Goals as goal

pub returns-then-s-eq0 : goal.returns-then-s-eq0
returns-then-s-eq0 g c = sym (node_short _ _ _ _ _ c.if-s-eq0.true)

pub returns-then-in_list : goal.returns-then-in_list
unfolding open_node code_node
returns-then-in_list g c = c.plain_node-then-in_list.ensures
    ∙ sym
    (node_code _ _ _ _ _ _ c.if-s-eq0.false (sym c.in-Run.is ∙ c.code_in-code.ensures)
    ∙ rw (sym c.in_list.ensures ∙ c.if-in_list.true))

pub returns-in-Symbol : goal.returns-in-Symbol
unfolding open_node code_node
returns-in-Symbol g c = c.symbol_node.ensures ∙ sym (node_code _ _ _ _ _ _ c.if-s-eq0.false (sym c.in-Symbol.is ∙ c.code_in-code.ensures))

pub returns-in-Name : goal.returns-in-Name
unfolding open_node code_node
returns-in-Name g c = c.plain_node.ensures ∙ sym (node_code _ _ _ _ _ _ c.if-s-eq0.false (sym c.in-Name.is ∙ c.code_in-code.ensures))

pub returns-else-in_list : goal.returns-else-in_list
unfolding open_node code_node
returns-else-in_list g c = c.stray_node.ensures
    ∙ sym
    (node_code _ _ _ _ _ _ c.if-s-eq0.false (sym c.in-Run.is ∙ c.code_in-code.ensures)
    ∙ rw (sym c.in_list.ensures ∙ c.if-in_list.false))

pub returns-in-Complement : goal.returns-in-Complement
unfolding open_node code_node
returns-in-Complement g c = c.complement_node.ensures ∙ sym (node_code _ _ _ _ _ _ c.if-s-eq0.false (sym c.in-Complement.is ∙ c.code_in-code.ensures))

pub returns-in-Refused : goal.returns-in-Refused
unfolding code_node
returns-in-Refused g c = sym (node_code _ _ _ _ _ _ c.if-s-eq0.false (sym c.in-Refused.is ∙ c.code_in-code.ensures))
