-- `reader::is_unspliced` meets its contract.
use Rattle.term.specs.Splicing.{unspliced}
use Rattle.term.specs.declared.Edition.{Edition}
use mathlib.Core.Path.{sym, ap, ◌∙◌}
use Rattle.reader.proofs.is_unspliced.Goals as goal
use Rattle.std.specs.Prelude.{Some}

pub returns-in-One : goal.returns-in-One
returns-in-One g c = let args = c.args in
    rw c.if-this-ne0.false (sym (ap (λ (x : Edition). unspliced x args.language.now.classes.now args.stand (Some args.b)) c.in-One.is))

pub returns-in-Two : goal.returns-in-Two
returns-in-Two g c = let args = c.args in
    rw c.if-this-ne0.false (c.is_direct.ensures
    ∙ sym (ap (λ (x : Edition). unspliced x args.language.now.classes.now args.stand (Some args.b)) c.in-Two.is))
