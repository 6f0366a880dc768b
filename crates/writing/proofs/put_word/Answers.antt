-- `writing::put_word` meets its contract.
use native.Mathlib.Omega.{arith}
use mathlib.Core.Path.{◌∙◌}
use Rattle.writing.proofs.Stores.{word_stored}
use Rattle.writing.proofs.put_word.Goals as goal

pub returns : goal.returns
returns c = word_stored c.args.output.now _ c.args.at _ c.args.n (omega arith) c.requires (omega arith) (c.copy_from_slice.ensures.after ∙ c.to_le_bytes.ensures)
