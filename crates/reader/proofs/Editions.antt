-- In edition 1 reading does not depend on the class list, and of where a node stands only on whether that is in a list.
use Prim.Native.Nat.{ℕ, zero, suc}
use mathlib.Core.Path.{◌≡◌, refl, sym, ap, ap₂, fun_ext, ◌∙◌}
use mathlib.Core.List.{List, []}
use mathlib.Core.Bool.{Bool, true, false, cond}
use lib.ListN.{length, get_or, drop}
use lib.Dec.{eqb, leb}
use Rattle.answers.specs.declared.Refusal.TheVariants.{Short, BadCode, Long}
use Rattle.term.specs.Code.{code_in}
use Rattle.term.specs.Language.{Language, language, simple}
use Rattle.term.specs.Limits.{longest, nesting, below_of}
use Rattle.term.specs.Splicing.{in_list}
use Rattle.term.specs.Term.{term_of}
use Rattle.term.specs.Pattern.{pattern_of}
use Rattle.term.specs.Tree.{Tree}
use Rattle.term.specs.declared.Code.{Code}
use Rattle.term.specs.declared.Code.TheVariants.{Symbol, Name, Run, Complement}
use Rattle.term.specs.declared.Edition.TheVariants.{One}
use Rattle.reader.specs.Node.{known, unless_deep, open_node, code_node, node_at}
use Rattle.reader.specs.Reading.{Parsed, refused, enter, read_all, read_by, read_tree, unless_spare, read_whole, map_parsed, read_record, read_pattern}
use Rattle.reader.specs.Simple.{read_in, told_in}
use Rattle.std.specs.Prelude.{Option, Some, None, Result, Err}
use Rattle.answers.specs.declared.Refusal.{Refusal}
use Rattle.reader.specs.declared.Open.{Open}

module _ (table classes : List ℕ) (stand sight : (Option ℕ)) (alike : in_list stand ≡ in_list sight) where
  open_one : (low : ℕ) (s : List ℕ) (c : Code) → open_node (language One table classes) stand low s c ≡ open_node (simple table) sight low s c
  unfolding open_node
  open_one low s (Symbol b) = refl
  open_one low s (Name v) = refl
  open_one low s (Run v) = rw alike
  open_one low s Complement = refl
  open_one low s Code.Refused = refl

  pub node_one : (records : Bool) (left : ℕ) (s : List ℕ) → node_at (language One table classes) records stand left s ≡ node_at (simple table) records sight left s
  unfolding node_at code_node
  node_one records left s =
      let c = code_in records (get_or s 0 0) in
      ap (λ (n : Result Open Refusal). cond (eqb (length s) 0) (Err Short) (cond (known table c) (unless_deep left n) (Err BadCode)))
      (open_one (below_of c left) s c)

module _ (table classes : List ℕ) where
  by_one : (records : Bool) (n left : ℕ) (stand : (Option ℕ)) (s : List ℕ) → read_by (language One table classes) records n left stand s ≡ read_by (simple table) records n left stand s
  unfolding read_by
  by_one records zero left stand s = refl
  by_one records (suc n) left stand s =
      ap₂ (enter (code_in records (get_or s 0 0))) (node_one table classes stand stand refl records left s)
      (fun_ext (λ size. fun_ext (λ k. fun_ext (λ inside. fun_ext (λ low.
      ap (λ (f : List ℕ → Parsed Tree). read_all f k (drop size s)) (fun_ext (by_one records n low inside)))))))

  whole_one : (records : Bool) (s : List ℕ) → read_whole records (language One table classes) s ≡ read_whole records (simple table) s
  unfolding read_whole read_tree
  whole_one records s =
      ap (λ (a : Parsed Tree). cond (leb (length s) (longest records)) (unless_spare s a) (refused Long)) (by_one records (length s) nesting None s)

  pub record_one : (s : List ℕ) → read_record (language One table classes) s ≡ read_record (simple table) s
  unfolding read_record
  record_one s = ap (map_parsed term_of) (whole_one true s)

  pub pattern_one : (s : List ℕ) → read_pattern (language One table classes) s ≡ read_pattern (simple table) s
  unfolding read_pattern
  pattern_one s = ap (map_parsed pattern_of) (whole_one false s)

-- Where trees stand in edition 1, as its frames tell it

module _ (table classes : List ℕ) where
  node_told : (records : Bool) (left : ℕ) (stand : (Option ℕ)) (s : List ℕ)
      → node_at (language One table classes) records (told_in true records stand) left s ≡ node_at (language One table classes) records stand left s
  unfolding node_at code_node open_node
  node_told true left stand s = refl
  node_told false left (Some b) s = node_one table classes (Some 0) (Some b) refl false left s ∙ sym (node_one table classes (Some b) (Some b) refl false left s)
  node_told false left None s = refl

  by_told : (records : Bool) (n left : ℕ) (stand : (Option ℕ)) (s : List ℕ)
      → read_by (language One table classes) records n left (told_in true records stand) s ≡ read_by (language One table classes) records n left stand s
  unfolding read_by
  by_told records zero left stand s = refl
  by_told records (suc n) left stand s =
      ap (λ (o : Result Open Refusal). enter (code_in records (get_or s 0 0)) o (λ size k inside low. read_all (read_by (language One table classes) records n low inside) k (drop size s)))
      (node_told records left stand s)

pub tree_told : (simple : Bool) (l : Language) (records : Bool) (left : ℕ) (stand : (Option ℕ)) (s : List ℕ)
    → read_tree (read_in simple l) records left (told_in simple records stand) s ≡ read_tree (read_in simple l) records left stand s
unfolding read_tree
tree_told true l records left stand s = by_told l.table [] records (length s) left stand s
tree_told false l records left stand s = refl
