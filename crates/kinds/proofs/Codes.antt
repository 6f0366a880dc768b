-- The lines of the codes, put one after the other.
use Prim.Native.Nat.{ℕ, suc, ◌+◌, ◌-◌, ◌≤◌, ◌<◌}
use native.Mathlib.Nat.{zero-add}
use native.Mathlib.Omega.{arith}
use mathlib.Core.Path.{◌≡◌, refl, sym, ap, ◌∙◌}
use mathlib.Core.List.{List, ◌++◌, append-nil}
use lib.ListN.{length, length-append, drop_of_length-le}
use lib.Seq.{sets, length-sets}
use Rattle.term.proofs.Stores.{sets_append, sets_front}
use borrow.Author.Tests.{ne_eqb}
use Rattle.output.proofs.Puts.{Put, Stored, put_stored, both_put}
use Rattle.output.proofs.Fields.{field_as}
use Rattle.kinds.specs.Kind.{symbol, name, run, complement, range_kind}
use Rattle.output.specs.Decimal.{decimal_of, decimal}
use Rattle.output.specs.Field.{field, refused_word}
use Rattle.kinds.specs.Codes.{symbol_word, name_word, run_word, complement_word, kind_word, code_line, codes_from, code_list, codes_room}

-- the word of each kind

pub symbol_word_holds : (k : ℕ) → k ≡ symbol → symbol_word ≡ kind_word k
unfolding kind_word
symbol_word_holds k e = rw e refl

pub name_word_holds : (k : ℕ) → k ≡ name → name_word ≡ kind_word k
unfolding kind_word
name_word_holds k e = rw e refl

pub run_word_holds : (k : ℕ) → k ≡ run → run_word ≡ kind_word k
unfolding kind_word
run_word_holds k e = rw e refl

pub complement_word_holds : (k : ℕ) → k ≡ complement → complement_word ≡ kind_word k
unfolding kind_word
complement_word_holds k e = rw e refl

pub refused_word_holds : (k : ℕ) → (k ≡ symbol → ⊥) → (k ≡ name → ⊥) → (k ≡ run → ⊥) → (k ≡ complement → ⊥) → refused_word ≡ kind_word k
unfolding kind_word
refused_word_holds k a b c d = rw (ne_eqb k symbol a, ne_eqb k name b, ne_eqb k run c, ne_eqb k complement d) refl

-- two fields, put one after the other, are the line of a code
pub code_put : (l o p : List ℕ) (at second end code kind : ℕ) → kind ≡ range_kind code → at + length (code_line code) ≤ length l
    → Put l at (field (decimal code) 32) o second → Put o second (field (kind_word kind) 10) p end → Stored l at (code_line code) p end
unfolding code_line
code_put l o p at second end code kind ranged room first last =
    put_stored l at (code_line code) p end room
    (both_put l o p at second end (field (decimal code) 32) (field (kind_word (range_kind code)) 10) room first
    (field_as o p second end 10 (kind_word kind) (kind_word (range_kind code)) (ap kind_word ranged) last))

-- the lines of the codes from this on
abbrev pub codes_left : ℕ → List ℕ
codes_left code = codes_from code (256 - code)

next_code : (code : ℕ) → code < 256 → codes_left code ≡ code_line code ++ codes_left (code + 1)
unfolding codes_from
next_code code h = let e : 256 - code ≡ suc (256 - (code + 1)) = omega arith in rw e refl

pub list_length : length code_list ≡ codes_room
unfolding code_list codes_from code_line kind_word range_kind decimal_of
list_length = refl

-- of the lines to be stored, those from `code` on are left
pub record CodeTurn (first out : List ℕ) (code at : ℕ) : Type 0 where
  pub same : length out ≡ length first
  pub within : code ≤ 256
  pub ends : at + length (codes_left code) ≡ codes_room
  pub left : sets first 0 code_list ≡ sets out at (codes_left code)

pub codes_start : (first : List ℕ) → CodeTurn first first 0 0
unfolding code_list
codes_start first = record { same = refl; within = omega arith; ends = zero-add (length code_list) ∙ list_length; left = refl }

module _ (first out : List ℕ) (code at : ℕ) (turn : CodeTurn first out code at) where
  pub code_room : code < 256 → length first ≡ codes_room → at + length (code_line code) ≤ length out
  code_room h room =
      let next = simp length-append at (ap length (next_code code h)) in
      omega (arith, turn.same, turn.ends)

  pub code_next : code < 256 → (after : List ℕ) (end : ℕ) → after ≡ sets out at (code_line code) → end ≡ at + length (code_line code)
      → CodeTurn first after (code + 1) end
  code_next h after end stored ends =
      let next = simp length-append at (ap length (next_code code h)) in
      record {
        same = ap length stored ∙ length-sets out at (code_line code) ∙ turn.same;
        within = omega arith;
        ends = omega (arith, turn.ends);
        left =
            turn.left ∙ ap (sets out at) (next_code code h) ∙ sets_append out at (code_line code) (codes_left (code + 1))
            ∙ rw (← stored, ← ends);
      }

  pub codes_done : 256 ≤ code → out ≡ sets first 0 code_list
  unfolding codes_from
  codes_done h =
      let e : code ≡ 256 = omega (arith, turn.within) in
      sym (turn.left ∙ rw e)

-- the list fills the output
pub codes_fill : (before after : List ℕ) → length before ≡ codes_room → after ≡ sets before 0 code_list → after ≡ code_list
codes_fill before after room stored =
    stored ∙ sets_front before code_list codes_room list_length (omega arith)
    ∙ ap (λ (r : List ℕ). code_list ++ r) (drop_of_length-le before {i = codes_room} (omega arith)) ∙ append-nil code_list
