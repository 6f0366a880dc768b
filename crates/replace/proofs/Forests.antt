-- The child patterns that are still to come of a pattern's bytes: what the next byte says of them, and what comes after it.
use Prim.Native.Nat.{ℕ, ◌+◌, ◌-◌, ◌≤◌, ◌<◌}
use native.Mathlib.Omega.{arith}
use mathlib.Core.Path.{◌≡◌, refl, sym, ap, ap₂, ◌∙◌}
use mathlib.Core.List.{List, [], ◌∷◌}
use mathlib.Core.Bool.{Bool, true, false, cond, not, ◌||◌, or_assoc}
use lib.ListN.{length, get_or, take, drop, length-drop}
use lib.Seq.{drop-drop, take_all, take_at}
use lib.Dec.{eqb}
use Rattle.term.specs.Table.{width}
use Rattle.term.specs.Code.{byte_of, decode_of}
use Rattle.term.specs.Tree.{Tree, branch, empty, number, list_code, own, encode}
use Rattle.term.specs.Pattern.{Pattern, Children, name, symbol, complement, end, plain, run, pattern_tree, child_trees, pattern_bytes}
use Rattle.term.specs.Limits.{Written, Shape, Fits, FitAll}
use Rattle.term.specs.Extent.{entry_of, extent_of}
use Rattle.term.specs.declared.Code.{Code}
use Rattle.term.specs.declared.Code.TheVariants.{Symbol, Name, Run, Complement}
use Rattle.term.proofs.Spans.{entry_symbol, extent_tree, extent_some}
use Rattle.term.proofs.Joins.{root_of, first_code, leaf_length}
use Rattle.reader.proofs.Nodes.{own_past}
use Rattle.term.proofs.Lists.{front}
use Rattle.term.proofs.Sizes.{past_tree, encode_append}
use Rattle.term.proofs.SameParts.{branch_some}
use Rattle.anti_pattern.specs.Variables.{vars, vars_all, among}
use Rattle.replace.specs.Loose.{loose, loose_all}
use Rattle.replace.specs.Filling.{own_bytes, children_bytes, Limited}

infixr 65 ◌⊞◌
abbrev pub ◌⊞◌ : Children → Children → Children
end ⊞ rs = rs
(plain q qs) ⊞ rs = plain q (qs ⊞ rs)
(run v qs) ⊞ rs = run v (qs ⊞ rs)

pub bytes_both : (table : List ℕ) (qs rs : Children) (bs : List ℕ) → children_bytes table (qs ⊞ rs) bs ≡ children_bytes table qs (children_bytes table rs bs)
unfolding encode
bytes_both table end rs bs = refl
bytes_both table (plain q qs) rs bs = ap (encode table (pattern_tree q)) (bytes_both table qs rs bs)
bytes_both table (run v qs) rs bs = ap (encode table (branch (Run v) empty)) (bytes_both table qs rs bs)

pub limited_both : (table : List ℕ) (qs rs : Children) → Limited table qs → Limited table rs → Limited table (qs ⊞ rs)
limited_both table end rs h k = k
limited_both table (plain q qs) rs h k = (h.0, limited_both table qs rs h.1 k)
limited_both table (run v qs) rs h k = (h.0, limited_both table qs rs h.1 k)

pub vars_both : (qs rs : Children) (vs : List ℕ) → vars_all (qs ⊞ rs) vs ≡ vars_all qs (vars_all rs vs)
vars_both end rs vs = refl
vars_both (plain q qs) rs vs = ap (vars q) (vars_both qs rs vs)
vars_both (run v qs) rs vs = ap (v ∷◌) (vars_both qs rs vs)

pub loose_both : (fs : List ℕ) (qs rs : Children) → loose_all fs (qs ⊞ rs) ≡ (loose_all fs qs || loose_all fs rs)
loose_both fs end rs = refl
loose_both fs (plain q qs) rs = ap (λ (b : Bool). loose fs q || b) (loose_both fs qs rs) ∙ sym (or_assoc (loose fs q) (loose_all fs qs) (loose_all fs rs))
loose_both fs (run v qs) rs =
    ap (λ (b : Bool). not (among v fs) || b) (loose_both fs qs rs) ∙ sym (or_assoc (not (among v fs)) (loose_all fs qs) (loose_all fs rs))

pub fit_limited : (table : List ℕ) (qs : Children) (left : ℕ) (in_list : Bool) → FitAll table false (child_trees qs) left in_list → Limited table qs
unfolding Fits Written
fit_limited table end left in_list f = tt
fit_limited table (plain q qs) left in_list f = ((left, in_list, f.0), fit_limited table qs left in_list f.1)
fit_limited table (run v qs) left in_list f = (f.0.1, fit_limited table qs left in_list f.1)

-- the code of the first of them
abbrev pub code_of : Children → Code
code_of end = Code.Refused
code_of (plain q qs) = root_of (pattern_tree q)
code_of (run v qs) = Run v

run_fits : (table : List ℕ) (v : ℕ) → (32 ≤ v) × (v < 48) → Fits table false (branch (Run v) empty) 1 true
unfolding Fits Written Shape number
run_fits table v h = (omega arith, h, (refl, refl), tt)

module _ (table s : List ℕ) (at : ℕ) where
  pub head_code : (qs : Children) → at < length s → drop at s ≡ children_bytes table qs [] → Limited table qs → decode_of (get_or s at 0) ≡ code_of qs
  unfolding encode
  head_code end l h k = absurd (omega (arith, length-drop at s, ap length h))
  head_code (plain q qs) l h k = (first_code table s at (pattern_tree q) (children_bytes table qs []) k.0.0 k.0.1 k.0.2 h).1
  head_code (run v qs) l h k = (first_code table s at (branch (Run v) empty) (children_bytes table qs []) 1 true (run_fits table v k.0) h).1

  pub none_left : (qs : Children) → length s ≤ at → drop at s ≡ children_bytes table qs [] → qs ≡ end
  unfolding encode own
  none_left end l h = refl
  none_left (plain q qs) l h =
      let z : length (drop at s) ≡ length (pattern_bytes table q (children_bytes table qs [])) = ap length h in
      absurd (omega (arith, length-drop at s, z, branch_some table (pattern_tree q) (children_bytes table qs [])))
  none_left (run v qs) l h =
      let z : length (drop at s) ≡ length (encode table (branch (Run v) empty) (children_bytes table qs [])) = ap length h in
      absurd (omega (arith, length-drop at s, z, branch_some table (branch (Run v) empty) (children_bytes table qs [])))

-- the first of them by itself, and those after it
abbrev pub first_of : Children → Children
first_of end = end
first_of (plain q qs) = plain q end
first_of (run v qs) = run v end

abbrev pub rest_of : Children → Children
rest_of end = end
rest_of (plain q qs) = qs
rest_of (run v qs) = qs

-- what a code says of them

pub symbol_only : (qs : Children) (x : ℕ) → code_of qs ≡ Symbol x → (ks : Children) × (rs : Children) × (qs ≡ plain (symbol x ks) rs)
symbol_only end x e = let z : ◌≡◌ {A = ℕ} 0 1 = cc in absurd (omega arith)
symbol_only (plain (name v) rs) x e = let z : ◌≡◌ {A = ℕ} 0 1 = cc in absurd (omega arith)
symbol_only (plain (symbol c ks) rs) x e = let z : c ≡ x = cc in (ks, rs, ap (λ (y : ℕ). plain (symbol y ks) rs) z)
symbol_only (plain (complement q) rs) x e = let z : ◌≡◌ {A = ℕ} 0 1 = cc in absurd (omega arith)
symbol_only (run v rs) x e = let z : ◌≡◌ {A = ℕ} 0 1 = cc in absurd (omega arith)

pub name_only : (qs : Children) (x : ℕ) → code_of qs ≡ Name x → (rs : Children) × (qs ≡ plain (name x) rs)
name_only end x e = let z : ◌≡◌ {A = ℕ} 0 1 = cc in absurd (omega arith)
name_only (plain (name v) rs) x e = let z : v ≡ x = cc in (rs, ap (λ (y : ℕ). plain (name y) rs) z)
name_only (plain (symbol c ks) rs) x e = let z : ◌≡◌ {A = ℕ} 0 1 = cc in absurd (omega arith)
name_only (plain (complement q) rs) x e = let z : ◌≡◌ {A = ℕ} 0 1 = cc in absurd (omega arith)
name_only (run v rs) x e = let z : ◌≡◌ {A = ℕ} 0 1 = cc in absurd (omega arith)

pub run_only : (qs : Children) (x : ℕ) → code_of qs ≡ Run x → (rs : Children) × (qs ≡ run x rs)
run_only end x e = let z : ◌≡◌ {A = ℕ} 0 1 = cc in absurd (omega arith)
run_only (plain (name v) rs) x e = let z : ◌≡◌ {A = ℕ} 0 1 = cc in absurd (omega arith)
run_only (plain (symbol c ks) rs) x e = let z : ◌≡◌ {A = ℕ} 0 1 = cc in absurd (omega arith)
run_only (plain (complement q) rs) x e = let z : ◌≡◌ {A = ℕ} 0 1 = cc in absurd (omega arith)
run_only (run v rs) x e = let z : v ≡ x = cc in (rs, ap (λ (y : ℕ). run y rs) z)

pub complement_only : (qs : Children) → code_of qs ≡ Complement → (q : Pattern) × (rs : Children) × (qs ≡ plain (complement q) rs)
complement_only end e = let z : ◌≡◌ {A = ℕ} 0 1 = cc in absurd (omega arith)
complement_only (plain (name v) rs) e = let z : ◌≡◌ {A = ℕ} 0 1 = cc in absurd (omega arith)
complement_only (plain (symbol c ks) rs) e = let z : ◌≡◌ {A = ℕ} 0 1 = cc in absurd (omega arith)
complement_only (plain (complement q) rs) e = (q, rs, refl)
complement_only (run v rs) e = let z : ◌≡◌ {A = ℕ} 0 1 = cc in absurd (omega arith)

pub refused_only : (qs : Children) → code_of qs ≡ Code.Refused → qs ≡ end
refused_only end e = refl
refused_only (plain (name v) rs) e = let z : ◌≡◌ {A = ℕ} 0 1 = cc in absurd (omega arith)
refused_only (plain (symbol c ks) rs) e = let z : ◌≡◌ {A = ℕ} 0 1 = cc in absurd (omega arith)
refused_only (plain (complement q) rs) e = let z : ◌≡◌ {A = ℕ} 0 1 = cc in absurd (omega arith)
refused_only (run v rs) e = let z : ◌≡◌ {A = ℕ} 0 1 = cc in absurd (omega arith)

-- a part to the end
pub part_rest : (s : List ℕ) (i : ℕ) → take (length s - i) (drop i s) ≡ drop i s
part_rest s i = take_all (length s - i) (drop i s) (omega (arith, length-drop i s))

module _ (table s : List ℕ) (small : length table ≤ 200) (at : ℕ) where
  first_tree : (t : Tree) (left : ℕ) (in_list : Bool) (bs : List ℕ) → Fits table false t left in_list → drop at s ≡ encode table t bs
      → (take (extent_of table (drop at s)) (drop at s) ≡ encode table t []) × (drop (at + extent_of table (drop at s)) s ≡ bs)
      × (extent_of table (drop at s) ≡ length (encode table t []))
  first_tree t left in_list bs f h =
      let e : extent_of table (drop at s) ≡ length (encode table t []) = ap (extent_of table) h ∙ extent_tree table small false t left in_list bs f in (
        ap₂ take e (h ∙ encode_append table t [] bs) ∙ take_at (encode table t []) bs _ refl,
        ap (λ (n : ℕ). drop (at + n) s) e ∙ past_tree table s at t bs h,
        e,
      )

  -- a node's own bytes, by what the table says of its code
  pub own_width : (x : ℕ) → x < length table → own_bytes table x ≡ width table x
  own_width x l = ap (λ (n : ℕ). cond (eqb n 255) 2 1) (entry_symbol table x l)

  pub past_symbol : (x : ℕ) (ks rs : Children) (bs : List ℕ) → x < length table → drop at s ≡ children_bytes table (plain (symbol x ks) rs) bs
      → (get_or s at 0 ≡ x) × (drop (at + own_bytes table x) s ≡ children_bytes table (ks ⊞ rs) bs)
  unfolding encode own byte_of list_code
  past_symbol x ks rs bs l h = (
    (front s at x _ h).1,
    sym (drop-drop (own_bytes table x) at s) ∙ ap₂ drop (own_width x l) h ∙ own_past table (Symbol x) (number (child_trees ks)) (children_bytes table ks (children_bytes table rs bs))
        ∙ sym (bytes_both table ks rs bs),
  )

  pub past_name : (v : ℕ) (rs : Children) (bs : List ℕ) → drop at s ≡ children_bytes table (plain (name v) rs) bs → drop (at + 1) s ≡ children_bytes table rs bs
  unfolding encode list_code
  past_name v rs bs h =
      ap (λ (n : ℕ). drop (at + n) s) (sym (leaf_length table (Name v) refl)) ∙ past_tree table s at (branch (Name v) empty) (children_bytes table rs bs) h

  pub past_run : (v : ℕ) (rs : Children) (bs : List ℕ) → drop at s ≡ children_bytes table (run v rs) bs → drop (at + 1) s ≡ children_bytes table rs bs
  unfolding encode list_code
  past_run v rs bs h =
      ap (λ (n : ℕ). drop (at + n) s) (sym (leaf_length table (Run v) refl)) ∙ past_tree table s at (branch (Run v) empty) (children_bytes table rs bs) h

  pub past_child : (q : Pattern) (rs : Children) (bs : List ℕ) (left : ℕ) (in_list : Bool) → Fits table false (pattern_tree q) left in_list
      → drop at s ≡ children_bytes table (plain q rs) bs
      → (extent_of table (drop at s) ≡ length (pattern_bytes table q [])) × (drop (at + extent_of table (drop at s)) s ≡ children_bytes table rs bs)
  unfolding encode
  past_child q rs bs left in_list f h = let e = first_tree (pattern_tree q) left in_list (children_bytes table rs bs) f h in (e.2, e.1)

  -- the first ends where its extent does
  pub past_first : (qs : Children) → at < length s → drop at s ≡ children_bytes table qs [] → Limited table qs
      → (take (extent_of table (drop at s)) (drop at s) ≡ children_bytes table (first_of qs) []) × (drop (at + extent_of table (drop at s)) s ≡ children_bytes table (rest_of qs) [])
      × (extent_of table (drop at s) ≡ length (children_bytes table (first_of qs) []))
  unfolding encode
  past_first end l h k = absurd (omega (arith, length-drop at s, ap length h))
  past_first (plain q qs) l h k = first_tree (pattern_tree q) k.0.0 k.0.1 (children_bytes table qs []) k.0.2 h
  past_first (run v qs) l h k = first_tree (branch (Run v) empty) 1 true (children_bytes table qs []) (run_fits table v k.0) h

-- the bytes of one of them end where its extent does
pub first_extent : (table : List ℕ) → length table ≤ 200 → (t : List ℕ) (qs : Children) → t ≡ children_bytes table (first_of qs) []
    → Limited table (first_of qs) → 0 < length t → length t ≡ extent_of table t
first_extent table small t qs e k some = go (first_of qs) e k (first_first qs)
  where
    first_first : (rs : Children) → first_of (first_of rs) ≡ first_of rs
    first_first end = refl
    first_first (plain q rs) = refl
    first_first (run v rs) = refl

    go : (rs : Children) → t ≡ children_bytes table rs [] → Limited table rs → first_of rs ≡ rs → length t ≡ extent_of table t
    go rs h l f = ap length h ∙ ap (λ (y : Children). length (children_bytes table y [])) (sym f) ∙ sym (past_first table t small 0 rs some h l).2

-- a node's own bytes are one or two
pub own_some : (table : List ℕ) (b n : ℕ) → n ≡ own_bytes table b → (0 < n) × (n ≤ 2)
own_some table b n e = go (eqb (entry_of table b) 255) e
  where
    go : (l : Bool) → n ≡ cond l 2 1 → (0 < n) × (n ≤ 2)
    go true h = (omega arith, omega arith)
    go false h = (omega arith, omega arith)

-- so is the extent of some bytes at least one
pub extent_some_at : (table s : List ℕ) (at n : ℕ) → at < length s → n ≡ extent_of table (take (length s - at) (drop at s)) → 0 < n
extent_some_at table s at n l e =
    let z : n ≡ extent_of table (drop at s) = e ∙ ap (extent_of table) (part_rest s at) in
    omega (arith, z, extent_some table (drop at s) (omega (arith, length-drop at s)))

pub part_length : (s : List ℕ) (i : ℕ) → length (take (length s - i) (drop i s)) ≡ length s - i
part_length s i = ap length (part_rest s i) ∙ length-drop i s
