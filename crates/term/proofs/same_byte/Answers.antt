-- `term::same_byte` meets its contract.
use mathlib.Core.Path.{◌∙◌}
use Rattle.term.proofs.SameParts.{byte_number, byte_symbol}
use Rattle.term.proofs.same_byte.Goals as goal

pub returns-then-counting : goal.returns-then-counting
returns-then-counting c = let args = c.args in
    byte_number args.classes.now args.counting args.x args.y c.if-counting.true

pub returns : goal.returns
returns c = let args = c.args in
    c.same_symbol.ensures ∙ byte_symbol args.classes.now args.counting args.x args.y c.if-counting.false
