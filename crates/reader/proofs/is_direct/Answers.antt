-- `reader::is_direct` meets its contract.
use Rattle.term.specs.Splicing.{directly}
use mathlib.Core.Path.{sym, ap, ◌∙◌}
use Rattle.reader.proofs.is_direct.Goals as goal
use Rattle.std.specs.Prelude.{ℕ, Option, Some}

pub returns-in-Some : goal.returns-in-Some
returns-in-Some c = let args = c.args in
    c.same_symbol.ensures ∙ sym (ap (λ (x : (Option ℕ)). directly args.classes.now x (Some args.b)) c.in-Some.is)

pub returns-in-None : goal.returns-in-None
returns-in-None c = let args = c.args in
    sym (ap (λ (x : (Option ℕ)). directly args.classes.now x (Some args.b)) c.in-None.is)
