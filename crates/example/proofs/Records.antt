-- Accepted records are among the strings, and each is read as its own term.
use Prim.Native.Nat.{ℕ, zero, suc, ◌<◌, ◌≤◌}
use mathlib.Core.Path.{◌≡◌, refl, sym, ◌∙◌}
use mathlib.Core.List.{List, [], ◌∷◌}
use mathlib.Core.Bool.{Bool, true, false, cond, false≢true}
use native.Mathlib.Omega.{arith}
use lib.Dec.{leb}
use lib.ListN.{length, get_or}
use borrow.Author.Tests.{leb-true}
use Rattle.term.specs.Code.{byte_of}
use Rattle.term.specs.Language.{Language}
use Rattle.term.specs.Limits.{Written, Counted, Shape, Fits, FitAll, Octets, TermAccepted, below_of}
use Rattle.reader.specs.Reading.{read, read_record}
use Rattle.term.specs.Table.{is_list, entries_accepted, table_accepted}
use Rattle.term.specs.Term.{Term, node, term_tree, term_bytes}
use Rattle.term.specs.Tree.{Tree, Trees, branch, empty, more, number, list_code, own, encode, encodes}
use Rattle.term.specs.declared.Code.{Code}
use Rattle.term.specs.declared.Code.TheVariants.{Symbol, Name, Run, Complement}
use Rattle.reader.proofs.Typed.{record_iff}
use Rattle.example.proofs.Ordered.{Bytes}

pub bytes_octets : (s : List ℕ) → Bytes s → Octets s
bytes_octets [] h i = omega arith
bytes_octets (b ∷ s) h zero = h.0
bytes_octets (b ∷ s) h (suc i) = bytes_octets s h.1 i

pub table_short : (table : List ℕ) → table_accepted table ≡ true → length table ≤ 200
unfolding table_accepted
table_short table h = leb-true (length table) 200 (go (leb (length table) 200) h)
  where
    go : (b : Bool) → cond b (entries_accepted table) false ≡ true → b ≡ true
    go true e = refl
    go false e = absurd (false≢true e)

counted_bytes : (l : Bool) (n k : ℕ) (bs : List ℕ) → Counted l n k → Bytes bs → Bytes (cond l (n ∷ bs) bs)
counted_bytes true n k bs c h = (c, h)
counted_bytes false n k bs c h = h

module _ (table : List ℕ) (accepted : table_accepted table ≡ true) where
  own_bytes_holds : (c : Code) (n : ℕ) (in_list : Bool) (bs : List ℕ) → Written true c → Shape table in_list c n → Bytes bs → Bytes (own table c n bs)
  unfolding own byte_of list_code Written Shape
  own_bytes_holds (Symbol s) n in_list bs w h k =
      (omega (arith, h.0, table_short table accepted), counted_bytes (is_list table s) n (get_or table s 0) bs h.1 k)
  own_bytes_holds (Name v) n in_list bs w h k = absurd w
  own_bytes_holds (Run v) n in_list bs w h k = absurd w
  own_bytes_holds Complement n in_list bs w h k = absurd w
  own_bytes_holds Code.Refused n in_list bs w h k = absurd w

  mutual
    unfolding encode Fits

    tree_bytes : (t : Tree) (left : ℕ) (in_list : Bool) (bs : List ℕ) → Fits table true t left in_list → Bytes bs → Bytes (encode table t bs)
    tree_bytes (branch c ts) left in_list bs h k =
        own_bytes_holds c (number ts) in_list (encodes table ts bs) h.1 h.2 (trees_bytes ts (below_of c left) (list_code table c) bs h.3 k)

    trees_bytes : (ts : Trees) (left : ℕ) (in_list : Bool) (bs : List ℕ) → FitAll table true ts left in_list → Bytes bs → Bytes (encodes table ts bs)
    trees_bytes empty left in_list bs h k = k
    trees_bytes (more t ts) left in_list bs h k =
        tree_bytes t left in_list (encodes table ts bs) h.0 (trees_bytes ts left in_list bs h.1 k)

module _ (l : Language) (accepted : table_accepted l.table ≡ true) where
  pub accepted_bytes : (t : Term) → TermAccepted l t → Bytes (term_bytes l.table t [])
  accepted_bytes t a = tree_bytes l.table accepted (term_tree t) 32 false [] a.fits tt

  -- an accepted record is read, as its term
  pub accepted_read : (t : Term) → TermAccepted l t → read_record l (term_bytes l.table t []) ≡ read t (length (term_bytes l.table t []))
  accepted_read t a = (record_iff l (term_bytes l.table t []) (bytes_octets (term_bytes l.table t []) (accepted_bytes t a)) t).1 (refl, a)

pub some_bytes : (table : List ℕ) (t : Term) → 0 < length (term_bytes table t [])
unfolding encode own
some_bytes table (node s ts) = omega arith

read_same : {t u : Term} {n m : ℕ} → read t n ≡ read u m → t ≡ u
read_same h = cc

pub one_reading : (l : Language) (s : List ℕ) (t u : Term) (n m : ℕ) → read_record l s ≡ read t n → read_record l s ≡ read u m → t ≡ u
one_reading l s t u n m h k = read_same (sym h ∙ k)

pub octets_bytes : (s : List ℕ) → Octets s → Bytes s
octets_bytes [] h = tt
octets_bytes (b ∷ s) h = (h zero, octets_bytes s (λ i. h (suc i)))
