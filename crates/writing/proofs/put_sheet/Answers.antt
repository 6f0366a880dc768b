-- `writing::put_sheet` meets its contract.
use native.Mathlib.Omega.{arith}
use mathlib.Core.Path.{sym, ◌∙◌}
use Rattle.output.proofs.Puts.{puts_room}
use Rattle.writing.proofs.Stores.{sheet_stored}
use borrow.Author.Rules.{rules}
use Rattle.writing.proofs.put_sheet.Goals as goal

pub marked_count-requires : goal.marked_count-requires
marked_count-requires c = omega arith

pub returns : goal.returns
returns c = let args = c.args in
    rw (
      c.put_bytes.ensures.contents ∙ puts_room _ _ _ (search rules),
      c.put_directory.ensures,
      c.put_word.ensures,
      c.marked_count.ensures,
    )
    (sym (sheet_stored args.edition args.output.now args.records.now args.lengths.now c.requires.records_len))
