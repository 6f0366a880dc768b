-- What is read of a node at the start of some bytes.
use Prim.Native.Nat.{ℕ, ◌≤◌, ◌<◌}
use native.Mathlib.Omega.{arith}
use mathlib.Core.Path.{◌≡◌, refl, sym, ap}
use mathlib.Core.List.{List, [], ◌∷◌}
use mathlib.Core.Bool.{Bool, true, false, cond}
use lib.Dec.{eqb}
use lib.ListN.{length, get_or, drop, drop_of_length-le}
use lib.Seq.{drop-cons}
use borrow.Author.Tests.{eq-eqb, ne_eqb}
use Rattle.term.specs.Table.{largest_table}
use Rattle.term.specs.Code.{byte_of}
use Rattle.term.specs.Tree.{list_code, own}
use Rattle.term.specs.Limits.{Written, Shape}
use Rattle.term.specs.Extent.{entry_of}
use Rattle.term.specs.declared.Code.{Code}
use Rattle.term.specs.declared.Code.TheVariants.{Symbol, Name, Run, Complement}
use Rattle.term.proofs.Spans.{Says, entry_says}
use Rattle.term.specs.Class.{class_of}
use Rattle.splice.specs.Splicing.{list_class}
use Rattle.splice.specs.Pass.{head, list_head, head_of}
use Rattle.splice.specs.declared.Head.{Head}
use Rattle.std.specs.Prelude.{Option, Some, None}

-- of a node that stands there
pub record Headed (classes table : List ℕ) (c : Code) (n : ℕ) (h : Head) : Type 0 where
  pub size : h.size ≡ cond (list_code table c) 2 1
  pub kids : h.kids ≡ n
  pub class : h.class ≡ list_class classes table c

class_around : (classes table : List ℕ) (c : Code) (l : Bool) → list_code table c ≡ l → cond l (Some (class_of classes (byte_of c))) None ≡ list_class classes table c
unfolding list_code list_class byte_of
class_around classes table (Symbol s) true e = rw e
class_around classes table (Symbol s) false e = rw e
class_around classes table (Name v) true e = let z : ◌≡◌ {A = ℕ} 0 1 = ap (λ (x : Bool). cond x 1 0) e in absurd (omega arith)
class_around classes table (Name v) false e = refl
class_around classes table (Run v) true e = let z : ◌≡◌ {A = ℕ} 0 1 = ap (λ (x : Bool). cond x 1 0) e in absurd (omega arith)
class_around classes table (Run v) false e = refl
class_around classes table Complement true e = let z : ◌≡◌ {A = ℕ} 0 1 = ap (λ (x : Bool). cond x 1 0) e in absurd (omega arith)
class_around classes table Complement false e = refl
class_around classes table Code.Refused true e = let z : ◌≡◌ {A = ℕ} 0 1 = ap (λ (x : Bool). cond x 1 0) e in absurd (omega arith)
class_around classes table Code.Refused false e = refl

module _ (classes table : List ℕ) (small : length table ≤ largest_table) where
  -- what is read of it
  pub record Reads (c : Code) (n : ℕ) (o : Option Head) : Type 0 where
    pub head : Head
    pub is : o ≡ Some head
    pub headed : Headed classes table c n head

  pub headed : (records in_list : Bool) (c : Code) (n : ℕ) (bs : List ℕ) → Written records c → Shape table in_list c n
      → Reads c n (head_of table classes (own table c n bs))
  unfolding head_of own
  headed records in_list c n bs w h = go (list_code table c) refl (entry_says table small records in_list c n w h)
    where
      go : (l : Bool) → list_code table c ≡ l → Says l (entry_of table (byte_of c)) n → Reads c n (head_of table classes (byte_of c ∷ cond l (n ∷ bs) bs))
      go true e s = record {
        head = head 2 n (Some (class_of classes (byte_of c)));
        is = rw (eq-eqb (entry_of table (byte_of c)) 255 s) refl;
        headed = record { size = rw e; kids = refl; class = class_around classes table c true e };
      }
      go false e s = record {
        head = head 1 (entry_of table (byte_of c)) None;
        is = rw (ne_eqb (entry_of table (byte_of c)) 255 s.1) refl;
        headed = record { size = rw e; kids = s.0; class = class_around classes table c false e };
      }

-- by what the first bytes are
module _ (table classes : List ℕ) where
  pub head_nothing : (s : List ℕ) → length s ≤ 0 → None ≡ head_of table classes s
  unfolding head_of
  head_nothing [] h = refl
  head_nothing (b ∷ s) h = absurd (omega arith)

  module _ (s : List ℕ) (some : 0 < length s) (b : ℕ) (is : b ≡ get_or s 0 0) where
    first : head_of table classes s ≡ cond (eqb (entry_of table b) 255) (list_head (class_of classes b) (drop 1 s)) (Some (head 1 (entry_of table b) None))
    unfolding head_of
    first = rw is (go s some)
      where
        go : (s : List ℕ) → 0 < length s
            → head_of table classes s
            ≡ cond (eqb (entry_of table (get_or s 0 0)) 255) (list_head (class_of classes (get_or s 0 0)) (drop 1 s)) (Some (head 1 (entry_of table (get_or s 0 0)) None))
        go [] h = absurd (omega arith)
        go (x ∷ s) h = refl

    pub head_plain : (entry_of table b ≡ 255 → ⊥) → Some (head 1 (entry_of table b) None) ≡ head_of table classes s
    head_plain n = sym (rw (ne_eqb (entry_of table b) 255 n) at first)

    pub head_short : entry_of table b ≡ 255 → length s ≤ 1 → None ≡ head_of table classes s
    head_short e l = sym (rw (eq-eqb (entry_of table b) 255 e, drop_of_length-le s l) at first)

    pub head_list : entry_of table b ≡ 255 → 1 < length s → Some (head 2 (get_or s 1 0) (Some (class_of classes b))) ≡ head_of table classes s
    head_list e l = sym (rw (eq-eqb (entry_of table b) 255 e, drop-cons s 1 0 l) at first)
