-- On an accepted pattern's bytes the check is the check on trees.
use Prim.Native.Nat.{ℕ, suc, ◌+◌, ◌^◌, ◌≤◌}
use native.Mathlib.Omega.{arith}
use mathlib.Core.Path.{◌≡◌, refl, sym, ◌∙◌, ap}
use mathlib.Core.List.{List, [], ◌∷◌}
use mathlib.Core.Bool.{Bool, true, false, cond, false≢true}
use lib.Bits.{bit_or}
use lib.ListN.{length, drop}
use lib.Dec.{eqb, leb, ltb}
use borrow.Author.Tests.{eqb-true, eqb-false, leb-true, leb-false, lt-ltb, le-ltb}
use Rattle.term.specs.Code.{decode_of, byte_of}
use Rattle.term.specs.Extent.{entry_of, extent_of}
use Rattle.term.specs.Limits.{Written, Shape, Fits, FitAll, below_of}
use Rattle.term.specs.Pattern.{Pattern, name, symbol, complement, Children, end, plain, run, pattern_tree, child_trees, pattern_bytes}
use Rattle.term.specs.Table.{largest_table, list, is_list}
use Rattle.term.specs.Tree.{Trees, branch, empty, more, number, list_code, own, encode}
use Rattle.term.specs.declared.Code.{Code}
use Rattle.term.specs.declared.Code.TheVariants.{Symbol, Name, Run, Complement}
use Rattle.term.proofs.Codes.{code_back}
use Rattle.term.proofs.Spans.{entry_symbol, extent_tree}
use Rattle.term.proofs.Sizes.{arity, children_bytes, past_tree, symbol_bytes}
use Rattle.anti_pattern.specs.Variables.{among}
use Rattle.parts.specs.Packed.{bit}
use Rattle.parts.proofs.Masks.{bit_new, bit_other}
use Rattle.plain.specs.Bytes.{runs, also_run, runs_among, no_runs, look_list, look_symbol, look_variable, look_by, look_of, passing, on_pass, plain_from}
use Rattle.plain.specs.Check.{seen_or, go_on, only_if, look, looks, is_some, is_plain}
use Rattle.plain.specs.Plain.{run_names}
use Rattle.plain.specs.declared.check.Look.{Look}
use Rattle.plain.specs.declared.runs.Runs.{Runs}
use Rattle.plain.proofs.Nodes.{none_seen}
use Rattle.std.specs.Prelude.{Option, Some, None}

-- the run names of a list's children

-- the variable of the last of them, or else what is given
abbrev pub last_run : Children → ℕ → ℕ
last_run end v = v
last_run (plain q qs) v = last_run qs v
last_run (run u qs) v = last_run qs u

-- children that are no list's have no run name
pub no_run : (table : List ℕ) (qs : Children) (left : ℕ) → FitAll table false (child_trees qs) left false → run_names qs ≡ 0
unfolding Fits Shape
no_run table end left h = refl
no_run table (plain q qs) left h = no_run table qs left h.1
no_run table (run v qs) left h = absurd (false≢true h.0.2.1)

module _ (table : List ℕ) (small : length table ≤ largest_table) where
  runs_tree : (c : Code) (ts : Trees) (left : ℕ) (in_list : Bool) (n : ℕ) (found : Runs) (bs : List ℕ) → Fits table false (branch c ts) left in_list
      → runs_among table (encode table (branch c ts) bs) (suc n) found ≡ runs_among table bs n (also_run c found)
  unfolding Fits encode own runs_among
  runs_tree c ts left in_list n found bs h =
      let z : extent_of table (encode table (branch c ts) bs) ≡ 0 + length (encode table (branch c ts) []) =
      extent_tree table small false (branch c ts) left in_list bs h ∙ omega arith in
      ap (λ (d : Code). runs_among table (drop (extent_of table (encode table (branch c ts) bs)) (encode table (branch c ts) bs)) n (also_run d found)) (code_back false c h.1)
      ∙ ap (λ (k : ℕ). runs_among table (drop k (encode table (branch c ts) bs)) n (also_run c found)) z
      ∙ ap (λ (l : List ℕ). runs_among table l n (also_run c found)) (past_tree table (encode table (branch c ts) bs) 0 (branch c ts) bs refl)

  runs_pattern : (q : Pattern) (left : ℕ) (in_list : Bool) (n : ℕ) (found : Runs) (bs : List ℕ) → Fits table false (pattern_tree q) left in_list
      → runs_among table (pattern_bytes table q bs) (suc n) found ≡ runs_among table bs n found
  runs_pattern (name v) left in_list n found bs h = runs_tree (Name v) empty left in_list n found bs h
  runs_pattern (symbol s qs) left in_list n found bs h = runs_tree (Symbol s) (child_trees qs) left in_list n found bs h
  runs_pattern (complement q) left in_list n found bs h = runs_tree Complement (more (pattern_tree q) empty) left in_list n found bs h

  pub runs_children : (qs : Children) (left : ℕ) (in_list : Bool) (k v : ℕ) (bs : List ℕ) → FitAll table false (child_trees qs) left in_list
      → runs_among table (children_bytes table qs bs) (arity qs) (runs k v) ≡ runs (k + run_names qs) (last_run qs v)
  unfolding Fits encode runs_among
  runs_children end left in_list k v bs h = let z : k ≡ k + 0 = omega arith in ap (λ (n : ℕ). runs n v) z
  runs_children (plain q qs) left in_list k v bs h =
      runs_pattern q left in_list (arity qs) (runs k v) (children_bytes table qs bs) h.0 ∙ runs_children qs left in_list k v bs h.1
  runs_children (run u qs) left in_list k v bs h =
      let z : k + 1 + run_names qs ≡ k + suc (run_names qs) = omega arith in
      runs_tree (Run u) empty left in_list (arity qs) (runs k v) (children_bytes table qs bs) h.0 ∙ runs_children qs left in_list (k + 1) u bs h.1
      ∙ ap (λ (n : ℕ). runs n (last_run qs u)) z

-- the mask has the variables seen
pub record Seen (mask : ℕ) (seen : List ℕ) : Type 0 where
  pub bits : (v : ℕ) → bit mask v ≡ among v seen

seen_more : (mask : ℕ) (seen : List ℕ) (v : ℕ) → Seen mask seen → Seen (bit_or mask (2 ^ v)) (v ∷ seen)
seen_more mask seen v h = record { bits = λ u. go u (eqb v u) refl }
  where
    go : (u : ℕ) (b : Bool) → eqb v u ≡ b → bit (bit_or mask (2 ^ v)) u ≡ cond b true (among u seen)
    go u true e = ap (bit (bit_or mask (2 ^ v))) (sym (eqb-true v u e)) ∙ bit_new mask v
    go u false e = bit_other mask v u (eqb-false v u e) ∙ h.bits u

module _ (table : List ℕ) (small : length table ≤ largest_table) where
  -- what the check makes of some bytes with bs behind them, by the variables seen after these
  data Goes (bs : List ℕ) (x : Bool) : Option (List ℕ) → Type 0 where
    stops : x ≡ false → Goes bs x None
    passes : {last : List ℕ} (mask : ℕ) → Seen mask last → x ≡ plain_from table bs false mask → Goes bs x (Some last)

  carried : {bs : List ℕ} {x y : Bool} {o : Option (List ℕ)} → x ≡ y → Goes bs y o → Goes bs x o
  carried e (stops h) = stops (e ∙ h)
  carried e (passes mask s h) = passes mask s (e ∙ h)

  goes_then : {bs cs : List ℕ} {x : Bool} {o : Option (List ℕ)} (f : List ℕ → Option (List ℕ)) → Goes bs x o
      → ((mask : ℕ) (seen : List ℕ) → Seen mask seen → Goes cs (plain_from table bs false mask) (f seen)) → Goes cs x (go_on o f)
  goes_then f (stops h) next = stops h
  goes_then f (passes {last} mask s h) next = carried h (next mask last s)

  -- a name or a run name
  passed : (a : Bool) (m : ℕ) (f : ℕ → ℕ → Bool) → on_pass (cond a None (passing m 1)) f ≡ cond a false (f m 1)
  passed true m f = refl
  passed false m f = refl

  leaf : (c : Code) (v : ℕ) (bs : List ℕ) (mask : ℕ) → Written false c → list_code table c ≡ false → ((q : List ℕ) (m : ℕ) → look_by c table q m ≡ look_variable m v)
      → plain_from table (encode table (branch c empty) bs) false mask ≡ cond (bit mask v) false (plain_from table bs false (bit_or mask (2 ^ v)))
  unfolding encode own number plain_from look_of
  leaf c v bs mask w l k =
      ap (λ (b : Bool). plain_from table (byte_of c ∷ cond b (0 ∷ bs) bs) false mask) l
      ∙ ap (λ (d : Code). on_pass (look_by d table (byte_of c ∷ bs) mask) (λ x n. plain_from table bs (eqb n 2) x)) (code_back false c w)
      ∙ ap (λ (y : Option Look). on_pass y (λ x n. plain_from table bs (eqb n 2) x)) (k (byte_of c ∷ bs) mask)
      ∙ passed (bit mask v) (bit_or mask (2 ^ v)) (λ x n. plain_from table bs (eqb n 2) x)

  variable : (v : ℕ) (seen : List ℕ) (mask : ℕ) (bs : List ℕ) (x : Bool) → Seen mask seen
      → x ≡ cond (bit mask v) false (plain_from table bs false (bit_or mask (2 ^ v))) → Goes bs x (seen_or (among v seen) v seen)
  variable v seen mask bs x s e = go (among v seen) (e ∙ ap (λ (b : Bool). cond b false (plain_from table bs false (bit_or mask (2 ^ v)))) (s.bits v))
    where
      go : (b : Bool) → x ≡ cond b false (plain_from table bs false (bit_or mask (2 ^ v))) → Goes bs x (seen_or b v seen)
      go true h = stops h
      go false h = passes (bit_or mask (2 ^ v)) (seen_more mask seen v s) h

  -- a symbol
  listed : (a : Bool) (m : ℕ) (f : ℕ → ℕ → Bool) → on_pass (cond a None (passing m 2)) f ≡ cond a false (f m 2)
  listed true m f = refl
  listed false m f = refl

  list_looked : (s n : ℕ) (cs : List ℕ) (mask k v : ℕ) → Written false (Symbol s) → eqb (entry_of table s) list ≡ true → runs_among table cs n no_runs ≡ runs k v
      → look_of table (s ∷ n ∷ cs) mask ≡ cond (ltb 1 k) None (passing mask 2)
  unfolding look_of look_symbol look_list byte_of
  list_looked s n cs mask k v w e r = rw (code_back false (Symbol s) w, e, le-ltb (length (s ∷ n ∷ cs)) 2 (omega arith), r)

  other_looked : (s : ℕ) (cs : List ℕ) (mask : ℕ) → Written false (Symbol s) → eqb (entry_of table s) list ≡ false → look_of table (s ∷ cs) mask ≡ passing mask 1
  unfolding look_of look_symbol byte_of
  other_looked s cs mask w e = rw (code_back false (Symbol s) w, e)

  turned : (n : ℕ) (x : Bool) → cond (ltb 1 n) false x ≡ cond (leb n 1) x false
  turned n x = go (leb n 1) refl
    where
      go : (y : Bool) → leb n 1 ≡ y → cond (ltb 1 n) false x ≡ cond y x false
      go true f = ap (λ (z : Bool). cond z false x) (le-ltb 1 n (leb-true n 1 f))
      go false f = ap (λ (z : Bool). cond z false x) (lt-ltb 1 n (leb-false n 1 f))

  symbol_looked : (s : ℕ) (qs : Children) (left : ℕ) (in_list : Bool) (bs : List ℕ) (mask : ℕ) → Fits table false (pattern_tree (symbol s qs)) left in_list
      → plain_from table (pattern_bytes table (symbol s qs) bs) false mask ≡ cond (leb (run_names qs) 1) (plain_from table (children_bytes table qs bs) false mask) false
  unfolding Fits Shape list_code plain_from
  symbol_looked s qs left in_list bs mask h =
      ap (λ (l : List ℕ). plain_from table l false mask) (symbol_bytes table s qs bs) ∙ go (is_list table s) refl h.3
    where
      entry : (b : Bool) → is_list table s ≡ b → eqb (entry_of table s) list ≡ b
      entry b e = ap (λ (x : ℕ). eqb x list) (entry_symbol table s h.2.0) ∙ e

      go : (b : Bool) → is_list table s ≡ b → FitAll table false (child_trees qs) (below_of (Symbol s) left) b
          → plain_from table (s ∷ cond b (arity qs ∷ children_bytes table qs bs) (children_bytes table qs bs)) false mask
          ≡ cond (leb (run_names qs) 1) (plain_from table (children_bytes table qs bs) false mask) false
      go true e f =
          let z : 0 + run_names qs ≡ run_names qs = omega arith in
          ap (λ (y : Option Look). on_pass y (λ x n. plain_from table (arity qs ∷ children_bytes table qs bs) (eqb n 2) x))
          (list_looked s (arity qs) (children_bytes table qs bs) mask (run_names qs) (last_run qs 0) h.1 (entry true e)
          (runs_children table small qs _ true 0 0 bs f ∙ ap (λ (k : ℕ). runs k (last_run qs 0)) z))
          ∙ listed (ltb 1 (run_names qs)) mask (λ x n. plain_from table (arity qs ∷ children_bytes table qs bs) (eqb n 2) x)
          ∙ turned (run_names qs) (plain_from table (children_bytes table qs bs) false mask)
      go false e f =
          ap (λ (y : Option Look). on_pass y (λ x n. plain_from table (children_bytes table qs bs) (eqb n 2) x))
          (other_looked s (children_bytes table qs bs) mask h.1 (entry false e))
          ∙ ap (λ (k : ℕ). cond (leb k 1) (plain_from table (children_bytes table qs bs) false mask) false) (sym (no_run table qs _ f))

  complement_looked : (q : Pattern) (bs : List ℕ) (mask : ℕ) → plain_from table (pattern_bytes table (complement q) bs) false mask ≡ false
  unfolding encode own byte_of plain_from look_of decode_of
  complement_looked q bs mask = refl

  name_single : (v : ℕ) → list_code table (Name v) ≡ false
  unfolding list_code
  name_single v = refl

  run_single : (v : ℕ) → list_code table (Run v) ≡ false
  unfolding list_code
  run_single v = refl

  mutual
    unfolding Fits encode

    look_goes : (q : Pattern) (left : ℕ) (in_list : Bool) (seen : List ℕ) (mask : ℕ) (bs : List ℕ) → Fits table false (pattern_tree q) left in_list → Seen mask seen
        → Goes bs (plain_from table (pattern_bytes table q bs) false mask) (look q seen)
    look_goes (name v) left in_list seen mask bs h s = variable v seen mask bs _ s (leaf (Name v) v bs mask h.1 (name_single v) (λ q m. refl))
    look_goes (symbol t qs) left in_list seen mask bs h s =
        carried (symbol_looked t qs left in_list bs mask h) (go (leb (run_names qs) 1) (looks_go qs _ _ seen mask bs h.3 s))
      where
        go : (b : Bool) → Goes bs (plain_from table (children_bytes table qs bs) false mask) (looks qs seen)
            → Goes bs (cond b (plain_from table (children_bytes table qs bs) false mask) false) (only_if b (λ u. looks qs seen))
        go true g = g
        go false g = stops refl
    look_goes (complement q) left in_list seen mask bs h s = stops (complement_looked q bs mask)

    looks_go : (qs : Children) (left : ℕ) (in_list : Bool) (seen : List ℕ) (mask : ℕ) (bs : List ℕ) → FitAll table false (child_trees qs) left in_list → Seen mask seen
        → Goes bs (plain_from table (children_bytes table qs bs) false mask) (looks qs seen)
    looks_go end left in_list seen mask bs h s = passes mask s refl
    looks_go (plain q qs) left in_list seen mask bs h s =
        goes_then (looks qs) (look_goes q left in_list seen mask (children_bytes table qs bs) h.0 s) (λ m last t. looks_go qs left in_list last m bs h.1 t)
    looks_go (run v qs) left in_list seen mask bs h s =
        goes_then (looks qs) (variable v seen mask (children_bytes table qs bs) _ s (leaf (Run v) v (children_bytes table qs bs) mask h.0.1 (run_single v) (λ q m. refl)))
        (λ m last t. looks_go qs left in_list last m bs h.1 t)

  -- the check on bytes is the check on trees
  pub looked : (q : Pattern) (left : ℕ) (in_list : Bool) → Fits table false (pattern_tree q) left in_list → plain_from table (pattern_bytes table q []) false 0 ≡ is_plain q
  unfolding is_plain plain_from
  looked q left in_list h = go (look_goes q left in_list [] 0 [] h (record { bits = λ v. none_seen v }))
    where
      go : {x : Bool} {o : Option (List ℕ)} → Goes [] x o → x ≡ is_some o
      go (stops e) = e
      go (passes mask s e) = e
