-- `report_files::first` meets its contract.
use native.Mathlib.Nat.{sub-zero}
use mathlib.Core.Path.{sym}
use lib.Seq.{take_all}
use Rattle.report_files.proofs.first.Goals as goal

pub returns-then-n-bytes : goal.returns-then-n-bytes
returns-then-n-bytes c = simp sub-zero

pub returns : goal.returns
returns c = sym (take_all _ _ c.if-n-bytes.false)
