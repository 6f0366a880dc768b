-- The nodes counted byte by byte are the pattern's.
use Prim.Native.Nat.{ℕ, suc, ◌+◌, ◌<◌, ◌≤◌}
use native.Mathlib.Omega.{arith}
use native.Mathlib.Numerals.{add-one}
use mathlib.Core.Path.{◌≡◌, refl, sym, ◌∙◌, ap}
use mathlib.Core.List.{List, [], ◌∷◌}
use mathlib.Core.Bool.{Bool, true, false, cond}
use lib.ListN.{length, get_or, drop, drop_of_length-le}
use lib.Seq.{drop-cons, drop-drop}
use lib.Dec.{eqb}
use borrow.Author.Tests.{le-ltb}
use Rattle.term.specs.Code.{decode_of, byte_of}
use Rattle.term.specs.Extent.{kids_of, entry_of}
use Rattle.term.specs.Limits.{Written, Shape, below_of, Fits, FitAll}
use Rattle.term.specs.Pattern.{Pattern, Children, name, symbol, complement, end, plain, run, pattern_tree, child_trees}
use Rattle.term.specs.Table.{largest_table, list}
use Rattle.term.specs.Tree.{Trees, branch, empty, more, number, list_code, own, encode, encodes}
use Rattle.term.specs.declared.Code.{Code}
use Rattle.term.specs.declared.Code.TheVariants.{Symbol, Name, Run, Complement}
use Rattle.term.proofs.Codes.{code_back}
use Rattle.term.proofs.Spans.{entry_symbol}
use Rattle.anti_pattern.specs.Cost.{nodes, nodes_in, has_runs, has_runs_in}
use Rattle.cost.specs.Tally.{is_run, own_bytes, tally}
use Rattle.std.specs.Prelude.{Result, Ok, Option, Some, None}
use Rattle.answers.specs.declared.Refusal.{Refusal}

-- byte by byte

module _ (table : List ℕ) where
  pub tally_end : (s : List ℕ) (at n : ℕ) → length s ≤ at → tally table (drop at s) false n ≡ Ok (Some n)
  unfolding tally
  tally_end s at n h = rw (drop_of_length-le s h)

  skip : (s : List ℕ) (n : ℕ) → tally table s true n ≡ tally table (drop 1 s) false n
  unfolding tally
  skip [] n = refl
  skip (b ∷ s) n = refl

  past_own : (l : Bool) (s : List ℕ) (at n : ℕ) → tally table (drop (suc at) s) l n ≡ tally table (drop (at + cond l 2 1) s) false n
  past_own true s at n =
      let z : suc at + 1 ≡ at + 2 = omega arith in
      skip (drop (suc at) s) n ∙ ap (λ (x : List ℕ). tally table x false n) (drop-drop 1 (suc at) s ∙ ap (λ (i : ℕ). drop i s) z)
  past_own false s at n = ap (λ (i : ℕ). tally table (drop i s) false n) (sym (add-one at))

  -- the node at a place, and those after it
  tally_step : (s : List ℕ) (at n : ℕ) → at < length s
      → tally table (drop at s) false n
      ≡ cond (is_run (decode_of (get_or s at 0))) (Ok None) (tally table (drop (at + own_bytes table (get_or s at 0)) s) false (n + 1))
  unfolding tally
  tally_step s at n h =
      rw (drop-cons s at 0 h)
      (ap (cond (is_run (decode_of (get_or s at 0))) (Ok None)) (past_own (eqb (entry_of table (get_or s at 0)) list) s at (n + 1)))

  module _ (s : List ℕ) (at n : ℕ) (within : at < length s) where
    pub tally_run : is_run (decode_of (get_or s at 0)) ≡ true → tally table (drop at s) false n ≡ (Ok None)
    tally_run h = tally_step s at n within ∙ rw h

    pub tally_node : is_run (decode_of (get_or s at 0)) ≡ false → (k : ℕ) → k ≡ own_bytes table (get_or s at 0)
        → tally table (drop at s) false n ≡ tally table (drop (at + k) s) false (n + 1)
    tally_node h k e = tally_step s at n within ∙ rw (h, e)

-- a run name, or another code
pub run_seen : (c : Code) (v : ℕ) → c ≡ Run v → is_run c ≡ true
run_seen c v e = rw e refl

pub no_run_seen : (c : Code) → ((v : ℕ) → c ≡ Run v → ⊥) → is_run c ≡ false
no_run_seen (Symbol s) h = refl
no_run_seen (Name v) h = refl
no_run_seen (Run v) h = absurd (h v refl)
no_run_seen Complement h = refl
no_run_seen Code.Refused h = refl

-- the bytes of a node's own are one or two
pub own_some : (table : List ℕ) (b : ℕ) → (1 ≤ own_bytes table b) × (own_bytes table b ≤ 2)
own_some table b = go (eqb (entry_of table b) list)
  where
    go : (l : Bool) → (1 ≤ cond l 2 1) × (cond l 2 1 ≤ 2)
    go true = (omega arith, omega arith)
    go false = (omega arith, omega arith)

-- over the bytes of a pattern

either : (a b : Bool) (x y : Result (Option ℕ) Refusal) → cond a x (cond b x y) ≡ cond (cond a true b) x y
either true b x y = refl
either false b x y = refl

module _ (table : List ℕ) (small : length table ≤ largest_table) where
  -- the entry of a code tells whether it is a list's
  entry_other : (c : Code) → Written false c → 200 ≤ byte_of c → entry_of table (byte_of c) ≡ kids_of c
  unfolding entry_of
  entry_other c w h = rw (le-ltb (byte_of c) (length table) (omega arith), code_back false c w)

  entry_list : (in_list : Bool) (c : Code) (n : ℕ) → Written false c → Shape table in_list c n → eqb (entry_of table (byte_of c)) list ≡ list_code table c
  unfolding Written Shape list_code byte_of
  entry_list in_list (Symbol s) n w h = ap (λ (e : ℕ). eqb e list) (entry_symbol table s h.0)
  entry_list in_list (Name v) n w h = ap (λ (e : ℕ). eqb e list) (entry_other (Name v) w (omega arith))
  entry_list in_list (Run v) n w h = ap (λ (e : ℕ). eqb e list) (entry_other (Run v) w (omega arith))
  entry_list in_list Complement n w h = ap (λ (e : ℕ). eqb e list) (entry_other Complement tt (omega arith))
  entry_list in_list Code.Refused n w h = absurd h

  tally_own : (l r : Bool) (b k n : ℕ) (bs : List ℕ) → eqb (entry_of table b) list ≡ l → is_run (decode_of b) ≡ r
      → tally table (b ∷ cond l (k ∷ bs) bs) false n ≡ cond r (Ok None) (tally table bs false (n + 1))
  unfolding tally
  tally_own true r b k n bs e f = rw (e, f)
  tally_own false r b k n bs e f = rw (e, f)

  tally_branch : (in_list : Bool) (c : Code) (ts : Trees) (n : ℕ) (bs : List ℕ) → Written false c → Shape table in_list c (number ts)
      → tally table (encode table (branch c ts) bs) false n ≡ cond (is_run c) (Ok None) (tally table (encodes table ts bs) false (n + 1))
  unfolding encode own
  tally_branch in_list c ts n bs w h =
      tally_own (list_code table c) (is_run c) (byte_of c) (number ts) n (encodes table ts bs) (entry_list in_list c (number ts) w h)
      (ap is_run (code_back false c w))

  mutual
    unfolding Fits encode

    pub tally_pattern : (q : Pattern) (left : ℕ) (in_list : Bool) (n : ℕ) (bs : List ℕ) → Fits table false (pattern_tree q) left in_list
        → tally table (encode table (pattern_tree q) bs) false n ≡ cond (has_runs q) (Ok None) (tally table bs false (n + nodes q))
    tally_pattern (name v) left in_list n bs h = tally_branch in_list (Name v) empty n bs h.1 h.2
    tally_pattern (symbol s qs) left in_list n bs h =
        let z : n + 1 + nodes_in qs ≡ n + (1 + nodes_in qs) = omega arith in
        tally_branch in_list (Symbol s) (child_trees qs) n bs h.1 h.2
        ∙ tally_children qs (below_of (Symbol s) left) (list_code table (Symbol s)) (n + 1) bs h.3
        ∙ ap (λ (m : ℕ). cond (has_runs_in qs) (Ok None) (tally table bs false m)) z
    tally_pattern (complement q) left in_list n bs h =
        let z : n + 1 + nodes q ≡ n + (1 + nodes q) = omega arith in
        tally_branch in_list Complement (more (pattern_tree q) empty) n bs h.1 h.2
        ∙ tally_pattern q (below_of Complement left) (list_code table Complement) (n + 1) bs h.3.0
        ∙ ap (λ (m : ℕ). cond (has_runs q) (Ok None) (tally table bs false m)) z

    tally_children : (qs : Children) (left : ℕ) (in_list : Bool) (n : ℕ) (bs : List ℕ) → FitAll table false (child_trees qs) left in_list
        → tally table (encodes table (child_trees qs) bs) false n ≡ cond (has_runs_in qs) (Ok None) (tally table bs false (n + nodes_in qs))
    tally_children end left in_list n bs h = let z : n ≡ n + 0 = omega arith in ap (tally table bs false) z
    tally_children (plain q qs) left in_list n bs h =
        let z : n + nodes q + nodes_in qs ≡ n + (nodes q + nodes_in qs) = omega arith in
        tally_pattern q left in_list n (encodes table (child_trees qs) bs) h.0
        ∙ ap (cond (has_runs q) (Ok None)) (tally_children qs left in_list (n + nodes q) bs h.1
        ∙ ap (λ (m : ℕ). cond (has_runs_in qs) (Ok None) (tally table bs false m)) z)
        ∙ either (has_runs q) (has_runs_in qs) (Ok None) (tally table bs false (n + (nodes q + nodes_in qs)))
    tally_children (run v qs) left in_list n bs h =
        tally_branch in_list (Run v) empty n (encodes table (child_trees qs) bs) h.0.1 h.0.2
