-- The look at a string: what holds after so many bytes, and what each stop tells.
use Prim.Native.Nat.{ℕ, zero, suc, ◌+◌, ◌-◌, ◌<◌, ◌≤◌}
use mathlib.Core.Path.{◌≡◌, refl, sym, ◌∙◌, ap, subst}
use mathlib.Core.Logic.{◌⊎◌, inl, inr}
use mathlib.Core.List.{List}
use mathlib.Core.Bool.{Bool, true, false, cond}
use native.Mathlib.Omega.{arith}
use lib.Dec.{eqb, ltb}
use lib.ListN.{length, get_or, set, replicate, length-set, length-replicate}
use lib.Seq.{get_or-set_same, get_or-set_other}
use borrow.Author.Tests.{eqb-true, eqb-false, ltb-true, ltb-false}
use Rattle.term.specs.Class.{class_of}
use Rattle.term.specs.Extent.{entry_of}
use Rattle.term.specs.Pattern.{name}
use Rattle.term.specs.Table.{is_list, list}
use Rattle.term.proofs.Spans.{entry_symbol}
use Rattle.term.specs.declared.Edition.{Edition}
use Rattle.anti_pattern.specs.Language.{Language, language}
use Rattle.example.specs.Inner.{LowerAt, NeedlessBy, LooksAt, Twins}
use Rattle.example.specs.Odometer.{Skips, fit_of, step_of}
use Rattle.std.specs.Prelude.{Option, Some, None}
use Rattle.example.proofs.Renaming.{swap}
use Rattle.example.proofs.Probes.{Alive, alive_start, dead_over, dead_code, dead_low, dead_node, dead_list, dead_number, alive_node, alive_list}
use Rattle.example.proofs.Trails.{Still}
use Rattle.example.proofs.Twins.{class_interchange, twin_interchange, exchange, swap_b, swap_other, classed_lowest}

pub zeros_at : (n i : ℕ) → get_or {A = ℕ} (replicate n 0) i 0 ≡ 0
zeros_at zero i = refl
zeros_at (suc n) zero = refl
zeros_at (suc n) (suc i) = zeros_at n i

-- a list with a mark more
pub mark_kept : (seen : List ℕ) (b x : ℕ) → b < length seen → get_or seen x 0 ≡ 1 → get_or (set seen b 1) x 0 ≡ 1
mark_kept seen b x h e = go (eqb x b) refl
  where
    go : (m : Bool) → eqb x b ≡ m → get_or (set seen b 1) x 0 ≡ 1
    go true z = ap (λ (i : ℕ). get_or (set seen b 1) i 0) (eqb-true x b z) ∙ get_or-set_same seen b 1 0 h
    go false z = get_or-set_other seen b x 1 0 (eqb-false x b z) ∙ e

mark_was : (seen : List ℕ) (b x : ℕ) → get_or (set seen b 1) x 0 ≡ 1 → (x ≡ b) ⊎ (get_or seen x 0 ≡ 1)
mark_was seen b x e = go (eqb x b) refl
  where
    go : (m : Bool) → eqb x b ≡ m → (x ≡ b) ⊎ (get_or seen x 0 ≡ 1)
    go true z = inl (eqb-true x b z)
    go false z = inr (sym (get_or-set_other seen b x 1 0 (eqb-false x b z)) ∙ e)

-- after the bytes before `at`: the symbols seen are their own classes, and so many trees are to come
pub record Walk (table classes s seen : List ℕ) (at trees : ℕ) : Type 0 where
  pub within : at ≤ length s
  pub few : trees ≤ suc (length s)
  pub long : length seen ≡ 256
  pub own : (b : ℕ) → get_or seen b 0 ≡ 1 → class_of classes b ≡ b
  pub alive : (edition : Edition) → Alive (language edition table classes) s seen at trees

pub walk_start : (table classes s : List ℕ) → Walk table classes s (replicate 256 0) 0 1
walk_start table classes s = record {
  within = omega arith;
  few = omega arith;
  long = length-replicate {A = ℕ} 256 0;
  own = λ b h. absurd (omega (arith, zeros_at 256 b, h));
  alive = λ edition. alive_start (language edition table classes) s (replicate 256 0);
}

fit_stuck : (size at trees : ℕ) → fit_of size at trees ≡ None → size - at < trees
fit_stuck size at trees h = go (ltb (size - at) trees) refl h
  where
    go : (m : Bool) → ltb (size - at) trees ≡ m → cond {A = Option (ℕ × ℕ)} m None (Some (at, trees)) ≡ None → size - at < trees
    go true e z = ltb-true (size - at) trees e
    go false e z = let y : ◌≡◌ {A = ℕ} 0 1 = cc in absurd (omega arith)

fit_on : (size at trees next left : ℕ) → fit_of size at trees ≡ Some (next, left) → (at ≡ next) × (trees ≡ left) × (trees ≤ size - at)
fit_on size at trees next left h = go (ltb (size - at) trees) refl h
  where
    go : (m : Bool) → ltb (size - at) trees ≡ m → cond {A = Option (ℕ × ℕ)} m None (Some (at, trees)) ≡ Some (next, left) → (at ≡ next) × (trees ≡ left) × (trees ≤ size - at)
    go true e z = let y : ◌≡◌ {A = ℕ} 0 1 = cc in absurd (omega arith)
    go false e z =
        let y : ◌≡◌ {A = ℕ × ℕ} (at, trees) (next, left) = cc in
        (ap (λ (p : ℕ × ℕ). p.0) y, ap (λ (p : ℕ × ℕ). p.1) y, ltb-false (size - at) trees e)

module _ (table classes lower s seen : List ℕ) (at trees : ℕ) (w : Walk table classes s seen at trees) (inside : at < length s) where
  abbrev here : ℕ
  here = get_or s at 0

  abbrev speech : Edition → Language
  speech edition = language edition table classes

  -- the term is over
  pub stops_over : trees ≡ 0 → LooksAt table classes lower s (Some at)
  stops_over z edition pattern q allowance r k = dead_over (speech edition) q allowance s seen at trees (w.alive edition) z inside

  -- no symbol of the table; where there are trees to come
  pub stops_code : length table ≤ here → LooksAt table classes lower s (Some at)
  stops_code h edition pattern q allowance r k = go trees refl
    where
      go : (n : ℕ) → trees ≡ n → Skips (speech edition) q allowance s at
      go zero z = dead_over (speech edition) q allowance s seen at trees (w.alive edition) z inside
      go (suc n) z = dead_code (speech edition) q allowance s seen at trees (w.alive edition) (omega (arith, z)) h

  module _ (some : trees ≡ 0 → ⊥) where
    more : 0 < trees
    more = go trees refl
      where
        go : (n : ℕ) → trees ≡ n → 0 < n
        go zero z = absurd (some z)
        go (suc n) z = omega arith

    -- a symbol that makes it needless
    pub stops_needless : NeedlessBy classes lower seen here true → LooksAt table classes lower s (Some (at + 1))
    stops_needless h edition pattern q allowance r k = go h
      where
        twin : class_of classes here ≡ here → (a : ℕ) → Twins (speech edition) pattern a here → (get_or seen here 0 ≡ 1 → ⊥) → (get_or seen a 0 ≡ 1 → ⊥)
            → Skips (speech edition) q allowance s (at + 1)
        twin o a t x y =
            let low : exchange (speech edition) r.classed pattern a here t here ≡ a = ap (λ (n : ℕ). swap a here n) o ∙ swap_b a here in
            dead_low (speech edition) q allowance s seen at trees (w.alive edition) more r.classed (exchange (speech edition) r.classed pattern a here t)
            (twin_interchange (speech edition) r.classed pattern a here t q r.pattern_bytes_holds)
            (λ n z. ap (λ (m : ℕ). swap a here m) (w.own n z)
            ∙ swap_other a here n (λ i. y (ap (λ (m : ℕ). get_or seen m 0) (sym i) ∙ z)) (λ i. x (ap (λ (m : ℕ). get_or seen m 0) (sym i) ∙ z)))
            (omega (arith, low, t.smaller))

        go : NeedlessBy classes lower seen here true → Skips (speech edition) q allowance s (at + 1)
        go (inl o) =
            dead_low (speech edition) q allowance s seen at trees (w.alive edition) more r.classed (class_of classes) (class_interchange (speech edition) r.classed q) w.own
            (less (class_of classes here) here (classed_lowest (speech edition) r.classed here) o)
          where
            less : (x y : ℕ) → x ≤ y → (x ≡ y → ⊥) → x < y
            less zero zero i j = absurd (j refl)
            less zero (suc y) i j = omega arith
            less (suc x) zero i j = absurd (omega arith)
            less (suc x) (suc y) i j = let z = less x y (omega arith) (λ e. j (ap suc e)) in omega arith
        go (inr o) = twin o.0 o.1.0 (subst (LowerAt (speech edition) pattern here) o.1.1 (k here)) o.1.2 o.1.3

    -- once it is seen
    module _ (own : class_of classes here ≡ here) (low : here < 256) (known : here < length table) where
      abbrev now' : List ℕ
      now' = set seen here 1

      grown : (f : ℕ → ℕ) → Still f now' → Still f seen × (f here ≡ here)
      grown f y =
          (λ x z. y x (mark_kept seen here x (omega (arith, low, w.long)) z), y here (get_or-set_same seen here 1 0 (omega (arith, low, w.long))))

      entry_is : entry_of table here ≡ get_or table here 0
      entry_is = entry_symbol table here known

      listed : (m : Bool) → eqb (entry_of table here) list ≡ m → is_list table here ≡ m
      listed m e = ap (λ (x : ℕ). eqb x list) (sym entry_is) ∙ e

      -- the bytes left are too few
      pub stops_stuck : step_of table s at trees ≡ None → LooksAt table classes lower s (Some (at + 1))
      stops_stuck z edition pattern q allowance r k = go (eqb (entry_of table here) list) (ltb (length s - at) 2) refl refl z
        where
          go : (m n : Bool) → eqb (entry_of table here) list ≡ m → ltb (length s - at) 2 ≡ n
              → cond m (cond n None (fit_of (length s) (at + 2) (trees - 1 + get_or s (at + 1) 0))) (fit_of (length s) (at + 1) (trees - 1 + entry_of table here)) ≡ None
              → Skips (speech edition) q allowance s (at + 1)
          go true true i j e =
              dead_list (speech edition) q allowance s seen at trees (w.alive edition) more now' grown (listed true i) (omega (arith, ltb-true (length s - at) 2 j))
          go true false i j e =
              dead_number (speech edition) q allowance s seen at trees (w.alive edition) more now' grown (listed true i) (fit_stuck (length s) (at + 2) (trees - 1 + get_or s (at + 1) 0) e)
          go false n i j e =
              dead_node (speech edition) q allowance s seen at trees (w.alive edition) more now' grown (listed false i)
              (subst (λ (x : ℕ). length s - (at + 1) < trees - 1 + x) entry_is (fit_stuck (length s) (at + 1) (trees - 1 + entry_of table here) e))

      pub walks_on : (next left : ℕ) → step_of table s at trees ≡ Some (next, left) → Walk table classes s now' next left × (at < next)
      walks_on next left z = go (eqb (entry_of table here) list) (ltb (length s - at) 2) refl refl z
        where
          own_now : (b : ℕ) → get_or now' b 0 ≡ 1 → class_of classes b ≡ b
          own_now b e = by (mark_was seen here b e)
            where
              by : (b ≡ here) ⊎ (get_or seen b 0 ≡ 1) → class_of classes b ≡ b
              by (inl i) = subst (λ (x : ℕ). class_of classes x ≡ x) (sym i) own
              by (inr i) = w.own b i

          to : (x y : ℕ) → fit_of (length s) x y ≡ Some (next, left) → at < x → x ≤ length s → ((edition : Edition) → Alive (speech edition) s now' x y) → Walk table classes s now' next left × (at < next)
          to x y e i j v =
              let f = fit_on (length s) x y next left e in
              let d : y ≡ left = f.1 in let g : x ≡ next = f.0 in (
                record {
                  within = omega (arith, j, g);
                  few = omega (arith, f.2, d);
                  long = length-set seen here 1 ∙ w.long;
                  own = own_now;
                  alive = λ edition. subst (λ (n : ℕ). Alive (speech edition) s now' n left) g (subst (Alive (speech edition) s now' x) d (v edition));
                },
                omega (arith, i, g),
              )

          go : (m n : Bool) → eqb (entry_of table here) list ≡ m → ltb (length s - at) 2 ≡ n
              → cond m (cond n None (fit_of (length s) (at + 2) (trees - 1 + get_or s (at + 1) 0))) (fit_of (length s) (at + 1) (trees - 1 + entry_of table here)) ≡ Some (next, left)
              → Walk table classes s now' next left × (at < next)
          go true true i j e = let y : ◌≡◌ {A = ℕ} 0 1 = cc in absurd (omega arith)
          go true false i j e =
              to (at + 2) (trees - 1 + get_or s (at + 1) 0) e (omega arith) (omega (arith, ltb-false (length s - at) 2 j))
              (λ edition. alive_list (speech edition) (name 0) 0 s seen at trees (w.alive edition) more now' grown (listed true i))
          go false n i j e =
              to (at + 1) (trees - 1 + entry_of table here) e (omega arith) (omega (arith, inside))
              (λ edition. subst (λ (x : ℕ). Alive (speech edition) s now' (at + 1) (trees - 1 + x)) (sym entry_is)
              (alive_node (speech edition) (name 0) 0 s seen at trees (w.alive edition) more now' grown (listed false i)))

      -- by the index that is marked
      pub walks_at : (i next left : ℕ) → i ≡ here → step_of table s at trees ≡ Some (next, left) → Walk table classes s (set seen i 1) next left × (at < next)
      walks_at i next left d z =
          subst (λ (x : ℕ). Walk table classes s (set seen x 1) next left × (at < next)) (sym d) (walks_on next left z)
