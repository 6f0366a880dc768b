-- Symbols without children: their bytes, and those that hold at once.
use Prim.Native.Nat.{ℕ, suc, ◌+◌, ◌-◌, ◌<◌, ◌≤◌}
use native.Mathlib.Omega.{arith}
use mathlib.Core.Path.{◌≡◌, refl, sym, ◌∙◌, ap, ap₂, subst}
use mathlib.Core.List.{List, [], ◌∷◌}
use mathlib.Core.Bool.{Bool, true, false, cond, false≢true}
use lib.ListN.{length, get_or, drop, drop_of_length-le}
use lib.Seq.{drop-cons}
use lib.Dec.{ltb, eqb}
use borrow.Author.Tests.{eqb-true}
use Rattle.term.proofs.Lists.{rest_part}
use Rattle.term.specs.Code.{decode_of}
use Rattle.term.specs.Extent.{entry_of, extent_of}
use Rattle.term.specs.Same.{same_byte}
use Rattle.term.specs.declared.Code.{Code}
use Rattle.term.specs.declared.Code.TheVariants.{Symbol, Name, Run, Complement}
use Rattle.plain.specs.Bytes.{also_run, is_leaf, leaves_of}
use Rattle.plain.specs.declared.runs.Runs.{Runs}
use Rattle.plain.proofs.Among.{Among, among_next, leaf_bytes}

-- a symbol is its byte
abbrev pub SymbolIs : ℕ → Code → Type 0
SymbolIs b (Symbol c) = c ≡ b
SymbolIs b (Name v) = Unit {0}
SymbolIs b (Run v) = Unit {0}
SymbolIs b Complement = Unit {0}
SymbolIs b Code.Refused = Unit {0}

pub symbol_is : (b : ℕ) → SymbolIs b (decode_of b)
unfolding decode_of
symbol_is b = go (ltb b 200) (ltb b 232) (ltb b 248) (eqb b 248)
  where
    go : (k l m n : Bool) → SymbolIs b (cond k (Symbol b) (cond l (Name (b - 200)) (cond m (Run (b - 200)) (cond n Complement Code.Refused))))
    go true l m n = refl
    go false true m n = tt
    go false false true n = tt
    go false false false true = tt
    go false false false false = tt

pub leaf_is : (table : List ℕ) (b : ℕ) → is_leaf table (decode_of b) ≡ true → (decode_of b ≡ Symbol b) × (entry_of table b ≡ 0)
leaf_is table b h = go (decode_of b) (symbol_is b) h
  where
    go : (c : Code) → SymbolIs b c → is_leaf table c ≡ true → (c ≡ Symbol b) × (entry_of table b ≡ 0)
    go (Symbol c) e h = (ap Symbol e, ap (entry_of table) (sym e) ∙ eqb-true (entry_of table c) 0 h)
    go (Name v) e h = absurd (false≢true h)
    go (Run v) e h = absurd (false≢true h)
    go Complement e h = absurd (false≢true h)
    go Code.Refused e h = absurd (false≢true h)

-- a symbol without children is passed in one go
pub among_leaf : {table s : List ℕ} {n : ℕ} {found : Runs} {at i : ℕ} → Among table s n found at i → i < n → at < length s
    → is_leaf table (decode_of (get_or s at 0)) ≡ true → Among table s n found (at + 1) (i + 1)
among_leaf {table} {s} {n} {found} {at} {i} a h l e =
    let b = get_or s at 0 in
    let leaf = leaf_is table b e in
    among_next table s n a h l 1 ((leaf_bytes table (b ∷ drop (suc at) s) (omega arith) leaf.1).0 ∙ ap (extent_of table) (sym (rest_part at s ∙ drop-cons s at 0 l)))
    (omega arith) found (ap (λ (c : Code). also_run c found) (sym leaf.0))

module _ (table classes q r : List ℕ) where
  -- so many hold, and those from there on
  pub record Held (n : ℕ) : Type 0 where
    pub within : n ≤ length q
    pub within_too : n ≤ length r
    pub same : leaves_of table classes q r ≡ n + leaves_of table classes (drop n q) (drop n r)

  pub held_first : Held 0
  held_first = record { within = omega arith; within_too = omega arith; same = omega arith }

  no_record : (l : List ℕ) → leaves_of table classes l [] ≡ 0
  unfolding leaves_of
  no_record [] = refl
  no_record (b ∷ l) = refl

  abbrev Told : ℕ → Type 0
  Told n = (n ≡ leaves_of table classes q r) × ((n ≤ length q) × (n ≤ length r))

  module _ (n : ℕ) (h : Held n) where
    stops : leaves_of table classes (drop n q) (drop n r) ≡ 0 → Told n
    stops e = (omega (arith, h.same), (h.within, h.within_too))

    pub held_end : length q ≤ n → Told (length q)
    unfolding leaves_of
    held_end k =
        let z : n ≡ length q = omega (arith, h.within) in
        subst Told z (stops (ap (λ (l : List ℕ). leaves_of table classes l (drop n r)) (drop_of_length-le q k)))

    pub held_cut : length r ≤ n → Told n
    held_cut k = stops (ap (leaves_of table classes (drop n q)) (drop_of_length-le r k) ∙ no_record (drop n q))

    module _ (i : n < length q) (j : n < length r) (a : Bool) (leaf : a ≡ is_leaf table (decode_of (get_or q n 0))) where
      here : leaves_of table classes (drop n q) (drop n r)
          ≡ cond a (cond (same_byte classes false (get_or q n 0) (get_or r n 0)) (suc (leaves_of table classes (drop (suc n) q) (drop (suc n) r))) 0) 0
      unfolding leaves_of
      here = ap₂ (leaves_of table classes) (drop-cons q n 0 i) (drop-cons r n 0 j) ∙ rw leaf refl

      pub held_other : a ≡ false → Told n
      held_other e = stops (here ∙ rw e)

      module _ (is : a ≡ true) (b : Bool) (same : b ≡ same_byte classes false (get_or q n 0) (get_or r n 0)) where
        pub held_differs : b ≡ false → Told n
        held_differs e = stops (here ∙ rw (is, ← same, e))

        pub held_next : b ≡ true → Held (n + 1)
        held_next e =
            let z : leaves_of table classes (drop n q) (drop n r) ≡ suc (leaves_of table classes (drop (suc n) q) (drop (suc n) r)) = here ∙ rw (is, ← same, e) in
            let k : suc n ≡ n + 1 = omega arith in
            let l = ap (λ (m : ℕ). leaves_of table classes (drop m q) (drop m r)) k in
            record { within = omega arith; within_too = omega arith; same = omega (arith, h.same) }
