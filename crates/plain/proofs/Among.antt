-- The run names among the children of a node, byte by byte and of trees.
use Prim.Native.Nat.{ℕ, zero, suc, ◌+◌, ◌-◌, ◌*◌, ◌<◌, ◌≤◌}
use native.Mathlib.Nat.{mul-add, mul-one}
use native.Mathlib.Omega.{arith}
use mathlib.Core.Path.{◌≡◌, refl, sym, ◌∙◌, ap}
use mathlib.Core.List.{List, [], ◌∷◌}
use mathlib.Core.Bool.{true, false, cond}
use lib.ListN.{length, get_or, take, drop, drop_of_length-le}
use lib.Seq.{drop-cons, drop-drop}
use lib.Dec.{eqb}
use Rattle.term.proofs.Lists.{rest_part}
use Rattle.term.specs.Table.{list}
use Rattle.term.specs.Code.{variables, decode_of, VariableBelow}
use Rattle.term.specs.Extent.{entry_of, span_of, extent_of}
use Rattle.term.specs.declared.Code.{Code}
use Rattle.term.specs.declared.Code.TheVariants.{Symbol, Name, Run, Complement}
use Rattle.term.proofs.Codes.{decode_below}
use Rattle.term.proofs.Spans.{span_none, span_fixed}
use Rattle.plain.specs.Bytes.{sum_of, also_run, runs_among, no_runs, run_code}
use Rattle.plain.specs.declared.runs.Runs.{Runs}

-- one code more

also_few : (c : Code) (found : Runs) → (also_run c found).number ≤ found.number + 1
also_few (Symbol b) found = omega arith
also_few (Name v) found = omega arith
also_few (Run v) found = omega arith
also_few Complement found = omega arith
also_few Code.Refused found = omega arith

also_below : (c : Code) (found : Runs) → VariableBelow c → found.variable < variables → (also_run c found).variable < variables
unfolding VariableBelow
also_below (Symbol b) found w h = h
also_below (Name v) found w h = h
also_below (Run v) found w h = w
also_below Complement found w h = h
also_below Code.Refused found w h = h

module _ (table s : List ℕ) (n : ℕ) where
  -- after i of the n children, at a place
  pub record Among (found : Runs) (at i : ℕ) : Type 0 where
    pub few : found.number ≤ i
    pub upto : i ≤ n
    pub below : found.variable < variables
    pub within : at ≤ length s
    pub same : runs_among table s n no_runs ≡ runs_among table (drop at s) (n - i) found

  pub among_first : Among no_runs 0 0
  among_first = record {
    few = omega arith;
    upto = omega arith;
    below = omega arith;
    within = omega arith;
    same = ap (λ (k : ℕ). runs_among table s k no_runs) (omega arith);
  }

  none_left : (left : ℕ) (found : Runs) → runs_among table [] left found ≡ found
  unfolding runs_among
  none_left zero found = refl
  none_left (suc left) found = refl

  abbrev Told : Runs → Type 0
  Told r = (r ≡ runs_among table s n no_runs) × ((r.number ≤ n) × (r.variable < variables))

  module _ {found : Runs} {at i : ℕ} (a : Among found at i) where
    pub among_short : length s ≤ at → Told found
    among_short h =
        (sym (a.same ∙ ap (λ (l : List ℕ). runs_among table l (n - i) found) (drop_of_length-le s h) ∙ none_left (n - i) found), (omega (arith, a.few, a.upto), a.below))

    pub among_end : n ≤ i → Told found
    unfolding runs_among
    among_end h =
        let z : n - i ≡ 0 = omega arith in
        (sym (a.same ∙ ap (λ (k : ℕ). runs_among table (drop at s) k found) z), (omega (arith, a.few, a.upto), a.below))

    pub among_next : i < n → at < length s → (k : ℕ) → k ≡ extent_of table (take (length s - at) (drop at s)) → at + k ≤ length s
        → (x : Runs) → x ≡ also_run (decode_of (get_or s at 0)) found → Among x (at + k) (i + 1)
    unfolding runs_among
    among_next h l k e w x f =
        let b = get_or s at 0 in
        let z : n - i ≡ suc (n - (i + 1)) = omega arith in
        let d = drop-cons s at 0 l in
        let j : k ≡ extent_of table (b ∷ drop (suc at) s) = e ∙ ap (extent_of table) (rest_part at s ∙ d) in record {
          few = rw f (omega (arith, also_few (decode_of b) found, a.few));
          upto = omega arith;
          below = rw f (also_below (decode_of b) found (decode_below b) a.below);
          within = w;
          same = a.same ∙ ap (λ (m : ℕ). runs_among table (drop at s) m found) z ∙ ap (λ (l : List ℕ). runs_among table l (suc (n - (i + 1))) found) d
              ∙ ap (λ (m : ℕ). runs_among table (drop m (b ∷ drop (suc at) s)) (n - (i + 1)) (also_run (decode_of b) found)) (sym j)
              ∙ ap (λ (l : List ℕ). runs_among table (drop k l) (n - (i + 1)) (also_run (decode_of b) found)) (sym d)
              ∙ ap (λ (l : List ℕ). runs_among table l (n - (i + 1)) (also_run (decode_of b) found)) (drop-drop k at s)
              ∙ ap (λ (y : Runs). runs_among table (drop (at + k) s) (n - (i + 1)) y) (sym f);
        }

-- no list has more run names than there are codes of run names

abbrev pub run_bytes : List ℕ → ℕ
run_bytes = sum_of run_code

also_number : (c : Code) (found : Runs) → (also_run c found).number ≡ found.number + run_code c
also_number (Symbol b) found = omega arith
also_number (Name v) found = omega arith
also_number (Run v) found = refl
also_number Complement found = omega arith
also_number Code.Refused found = omega arith

pub bytes_behind : (k : ℕ) (s : List ℕ) → run_bytes (drop k s) ≤ run_bytes s
unfolding sum_of
bytes_behind zero s = omega arith
bytes_behind (suc k) [] = omega arith
bytes_behind (suc k) (b ∷ s) = omega (arith, bytes_behind k s)

pub among_bytes : (table s : List ℕ) (n : ℕ) (found : Runs) → (runs_among table s n found).number ≤ found.number + run_bytes s
unfolding runs_among sum_of extent_of span_of
among_bytes table s zero found = omega arith
among_bytes table [] (suc n) found = omega arith
among_bytes table (b ∷ s) (suc n) found =
    let k = cond (eqb (entry_of table b) list) (span_of table s true 0) (span_of table s false (entry_of table b + 0)) in
    omega (arith, among_bytes table (drop k s) n (also_run (decode_of b) found), also_number (decode_of b) found, bytes_behind k s)

pub here_once : (c : Code) → run_code c ≤ 1
here_once (Symbol b) = omega arith
here_once (Name v) = omega arith
here_once (Run v) = omega arith
here_once Complement = omega arith
here_once Code.Refused = omega arith

-- a sum over the codes of s, each of which comes to so much at most
module _ (f : Code → ℕ) (most : ℕ) (each : (c : Code) → f c ≤ most) (s : List ℕ) where
  -- what is summed before a place, and what comes from it on
  pub record Summed (found at : ℕ) : Type 0 where
    pub few : found ≤ most * at
    pub within : at ≤ length s
    pub same : sum_of f s ≡ found + sum_of f (drop at s)

  pub summed_first : Summed 0 0
  summed_first = record { few = omega arith; within = omega arith; same = omega arith }

  module _ (found at : ℕ) (t : Summed found at) where
    pub summed_next : at < length s → (c : Code) → c ≡ decode_of (get_or s at 0) → (k : ℕ) → k ≡ f c → Summed (found + k) (at + 1)
    unfolding sum_of
    summed_next h c d k e =
        let z : suc at ≡ at + 1 = omega arith in
        let i : sum_of f (drop at s) ≡ f (decode_of (get_or s at 0)) + sum_of f (drop (suc at) s) = ap (sum_of f) (drop-cons s at 0 h) in
        let j : k ≡ f (decode_of (get_or s at 0)) = e ∙ ap f d in
        let l : sum_of f (drop (suc at) s) ≡ sum_of f (drop (at + 1) s) = ap (λ (x : ℕ). sum_of f (drop x s)) z in record {
          few = omega (arith, t.few, each (decode_of (get_or s at 0)), mul-add most at 1, mul-one most);
          within = omega arith;
          same = omega (arith, t.same);
        }

    pub summed_end : length s ≤ at → found ≡ sum_of f s
    unfolding sum_of
    summed_end h =
        let i : sum_of f (drop at s) ≡ 0 = ap (sum_of f) (drop_of_length-le s h) in
        omega (arith, t.same)

-- a tree of one byte
pub leaf_bytes : (table s : List ℕ) → 0 < length s → entry_of table (get_or s 0 0) ≡ 0 → (1 ≡ extent_of table s) × (1 ≤ length s)
unfolding extent_of
leaf_bytes table [] h e = absurd (omega arith)
leaf_bytes table (b ∷ s) h e =
    let z : entry_of table b + 0 ≡ 0 = omega arith in
    (sym (span_fixed table b 0 s (λ l. omega arith) ∙ ap (λ (k : ℕ). suc (span_of table s false k)) z ∙ ap suc (span_none table s)), omega arith)
