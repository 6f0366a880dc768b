-- `replace::listed` meets its contract.
use mathlib.Core.Path.{sym, ◌∙◌}
use Rattle.replace.proofs.Splices.{listed_not, listed_list}
use Rattle.replace.proofs.listed.Goals as goal

pub returns-then-not-count_next : goal.returns-then-not-count_next
returns-then-not-count_next c = let a = c.args in
    listed_not a.language.now.table.now a.language.now.classes.now a.language.now.edition a.b c.in_default.is (sym c.count_next.ensures ∙ c.if-not-count_next.true)

pub returns : goal.returns
returns c = let a = c.args in
    listed_list a.language.now.table.now a.language.now.classes.now a.language.now.edition a.b c.in_default.is (sym c.count_next.ensures ∙ c.if-not-count_next.false) _ c.class_of.ensures
