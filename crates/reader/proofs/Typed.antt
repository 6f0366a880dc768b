-- Reading and writing terms and patterns are inverse.
use Prim.Native.Nat.{ℕ}
use native.Mathlib.Omega.{arith}
use mathlib.Core.Path.{◌≡◌, refl, sym, ap, subst, ◌∙◌}
use mathlib.Core.List.{List, []}
use mathlib.Core.Bool.{Bool, true, false}
use mathlib.Core.Logic.{◌↔◌}
use lib.ListN.{length}
use Rattle.term.specs.Tree.{Tree, encode}
use Rattle.term.specs.Term.{Term, term_tree, term_of, term_bytes}
use Rattle.term.specs.Pattern.{Pattern, pattern_tree, pattern_of, pattern_bytes}
use Rattle.term.specs.Language.{Language}
use Rattle.term.specs.Limits.{nesting, Fits, Octets, Accepted, TermAccepted, PatternAccepted}
use Rattle.term.proofs.Trees.{term_back, term_tree_holds, pattern_back, pattern_tree_holds}
use Rattle.reader.specs.Reading.{Parsed, refused, read, shown, map_parsed, read_whole, read_record, read_pattern}
use Rattle.reader.proofs.Answers.{Got}
use Rattle.reader.proofs.Inverse.{ReadWhole, whole_read, read_iff}

pub shown_map : {A B : Type 0} (f : A → B) (a : Parsed A) → shown (map_parsed f a) ≡ shown a
unfolding shown map_parsed
shown_map f (refused r) = refl
shown_map f (read a n) = refl

pub map_read : {A B : Type 0} (f : A → B) (a : Parsed A) (x : B) (n : ℕ) → map_parsed f a ≡ read x n → (t : A) × (a ≡ read t n) × (f t ≡ x)
unfolding map_parsed
map_read f (refused r) x n e = let z : ◌≡◌ {A = ℕ} 0 1 = cc in absurd (omega arith)
map_read f (read t m) x n e = let z : m ≡ n = cc in (t, ap (read t) z, cc)

module _ {X : Type 0} (write : X → Tree) (make : Tree → X) (back : (x : X) → make (write x) ≡ x)
    (records : Bool) (l : Language) (s : List ℕ) (octets : Octets s) (forth : (t : Tree) → Fits l.table records t nesting false → write (make t) ≡ t) where
  typed_iff : (x : X) → (map_parsed make (read_whole records l s) ≡ read x (length s)) ↔ ((encode l.table (write x) [] ≡ s) × Accepted l records (write x))
  unfolding map_parsed
  typed_iff x = (to, from)
    where
      to : map_parsed make (read_whole records l s) ≡ read x (length s) → (encode l.table (write x) [] ≡ s) × Accepted l records (write x)
      to e =
          let m = map_read make (read_whole records l s) x (length s) e in
          let h = (read_iff l records s octets m.0).0 m.1 in
          subst (λ (t : Tree). (encode l.table t [] ≡ s) × Accepted l records t) (sym (forth m.0 h.1.fits) ∙ ap write m.2) h

      from : (encode l.table (write x) [] ≡ s) × Accepted l records (write x) → map_parsed make (read_whole records l s) ≡ read x (length s)
      from h = ap (map_parsed make) ((read_iff l records s octets (write x)).1 h) ∙ ap (λ (y : X). read y (length s)) (back x)

-- what is read are all the bytes
size_told : {A : Type 0} (f : Tree → A) (records : Bool) (l : Language) (s : List ℕ) (x : A) (n : ℕ) → map_parsed f (read_whole records l s) ≡ read x n
    → map_parsed f (read_whole records l s) ≡ read x (length s)
unfolding ReadWhole
size_told f records l s x n e =
    let m = map_read f (read_whole records l s) x n e in
    e ∙ ap (read x) (subst (Got (ReadWhole l records s)) m.1 (whole_read l records s)).1

module _ (l : Language) (s : List ℕ) (octets : Octets s) where
  -- bytes are read as a term exactly if they are the term's and the term is within the limits; and so for a pattern
  pub record_iff : (t : Term) → (read_record l s ≡ read t (length s)) ↔ ((term_bytes l.table t [] ≡ s) × TermAccepted l t)
  unfolding read_record
  record_iff t = typed_iff term_tree term_of term_back true l s octets (λ u. term_tree_holds l.table u nesting false) t

  pub pattern_iff : (q : Pattern) → (read_pattern l s ≡ read q (length s)) ↔ ((pattern_bytes l.table q [] ≡ s) × PatternAccepted l q)
  unfolding read_pattern
  pattern_iff q = typed_iff pattern_tree pattern_of pattern_back false l s octets (λ u. pattern_tree_holds l.table u nesting) q

  module _ (n : ℕ) where
    pub record_read : (t : Term) → read_record l s ≡ read t n → (term_bytes l.table t [] ≡ s) × TermAccepted l t
    unfolding read_record
    record_read t e = (record_iff t).0 (size_told term_of true l s t n e)

    pub pattern_read : (q : Pattern) → read_pattern l s ≡ read q n → (pattern_bytes l.table q [] ≡ s) × PatternAccepted l q
    unfolding read_pattern
    pattern_read q e = (pattern_iff q).0 (size_told pattern_of false l s q n e)
