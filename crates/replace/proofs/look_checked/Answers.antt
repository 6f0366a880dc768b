-- `replace::look_checked` meets its contract.
use Rattle.term.specs.Lent.{language_by}
use Rattle.replace.proofs.Calls.{into_looks}
use Rattle.replace.proofs.look_checked.Goals as goal

pub returns : goal.returns
returns c = let a = c.args in
    into_looks (language_by a.language.now) a.rule.now a.template.now a.«record».now a.allowance _ _ c.look_into.ensures.is
