-- A field put into a buffer.
use Prim.Native.Nat.{ℕ, ◌+◌, ◌≤◌}
use native.Mathlib.Omega.{arith}
use mathlib.Core.Path.{◌≡◌, sym}
use mathlib.Core.List.{List, [], ◌∷◌}
use lib.ListN.{length, set, length-append}
use lib.Seq.{sets}
use Rattle.term.proofs.Stores.{sets_append}
use Rattle.output.specs.Field.{field}
use Rattle.output.proofs.Puts.{Put, stored_put}

pub field_length : (text : List ℕ) (end : ℕ) → length (field text end) ≡ length text + 1
field_length text end = length-append text (end ∷ [])

-- a text that is stored, and the byte after it
pub field_put : (out after text : List ℕ) (at last end : ℕ) → at + length text + 1 ≤ length out → after ≡ sets out at text → last ≡ at + length text
    → Put out at (field text end) (set after last end) (last + 1)
field_put out after text at last end room stored ends =
    let long = field_length text end in
    stored_put out at (field text end) _ _ (omega arith)
    (rw (stored, ends) (sym (sets_append out at text (end ∷ []))), omega arith)

-- what is put under one name is put under another
pub field_as : (out after : List ℕ) (at last end : ℕ) (x y : List ℕ) → x ≡ y → Put out at (field x end) after last → Put out at (field y end) after last
field_as out after at last end x y e p = rw (← e) p
