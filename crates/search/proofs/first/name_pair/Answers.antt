-- `search::first::name_pair` meets its contract. Assumes nothing.
use native.Mathlib.Omega.{arith}
use mathlib.Core.Path.{sym, subst, ◌∙◌}
use lib.ListN.{get_or}
use Rattle.term.proofs.Codes.{decode_below}
use Rattle.term.specs.Code.{VariableBelow}
use Rattle.search.proofs.FirstPairs.{name_free, name_stands, name_differs}
use Rattle.search.proofs.first.name_pair.Goals as goal

pub returns-then-is_absent : goal.returns-then-is_absent
unfolding VariableBelow
returns-then-is_absent c = name_free _ _ _ _ _ _ _ _ _ c.if-left-eq0.false (omega arith) (omega arith) _ c.decode.ensures c.in-Name.is
    (subst VariableBelow (sym c.decode.ensures ∙ c.in-Name.is) (decode_below (get_or c.args.pattern.now 0 0))) _ c.part_of-part.ensures (sym c.is_absent.ensures ∙ c.if-is_absent.true)

pub returns-then-stands : goal.returns-then-stands
unfolding VariableBelow
returns-then-stands c = name_stands _ _ _ _ _ _ _ _ _ c.if-left-eq0.false (omega arith) (omega arith) _ c.decode.ensures c.in-Name.is
    (subst VariableBelow (sym c.decode.ensures ∙ c.in-Name.is) (decode_below (get_or c.args.pattern.now 0 0))) _ c.part_of-part.ensures (sym c.is_absent.ensures ∙ c.if-is_absent.false) (omega (arith, c.if-part-ne1.false)) (sym c.stands.ensures ∙ c.if-stands.true)

pub returns : goal.returns
unfolding VariableBelow
returns c = name_differs _ _ _ _ _ _ _ _ _ c.if-left-eq0.false (omega arith) (omega arith) _ c.decode.ensures c.in-Name.is
    (subst VariableBelow (sym c.decode.ensures ∙ c.in-Name.is) (decode_below (get_or c.args.pattern.now 0 0))) _ c.part_of-part.ensures (sym c.is_absent.ensures ∙ c.if-is_absent.false) (sym c.stands.ensures ∙ c.if-stands.false)
