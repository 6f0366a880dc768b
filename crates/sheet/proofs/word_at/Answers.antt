-- `sheet::word_at` meets its contract.
use Rattle.std.proofs.Common.{rules}
use Rattle.sheet.specs.Word.{word_at}
use Rattle.sheet.proofs.word_at.Goals as goal

pub returns : goal.returns
unfolding word_at
returns c = search rules
