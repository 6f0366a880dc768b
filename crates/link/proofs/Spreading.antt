-- The given lengths by run name, for an accepted pattern: the free run names on bytes are those of the tree, and each has its given length.
use Prim.Native.Nat.{ℕ, ◌+◌, ◌-◌, ◌%◌, ◌^◌, ◌<◌, ◌≤◌}
use native.Mathlib.Omega.{arith}
use native.Mathlib.Nat.{zero-div}
use mathlib.Core.Path.{◌≡◌, refl, sym, ◌∙◌, ap, ap₂, subst}
use mathlib.Core.List.{List, [], ◌∷◌}
use mathlib.Core.Bool.{Bool, true, false, cond, false≢true}
use lib.Bits.{bit_or}
use lib.ListN.{length, get_or, drop, set, replicate, length-set, length-replicate}
use lib.Seq.{drop_at, get_or-set_same, get_or-set_other}
use lib.Dec.{eqb}
use borrow.Author.Tests.{eqb-true, eqb-false, eq-eqb}
use Rattle.term.specs.Code.{decode_of, byte_of, variables}
use Rattle.term.specs.Extent.{extent_of}
use Rattle.term.specs.Limits.{Written, below_of, Shape, Fits, FitAll}
use Rattle.term.specs.Pattern.{Pattern, Children, name, symbol, complement, end, plain, run, pattern_tree, child_trees, pattern_bytes}
use Rattle.term.specs.Table.{is_list}
use Rattle.term.specs.Tree.{list_code, number, own, encode}
use Rattle.term.specs.declared.Code.{Code}
use Rattle.term.specs.declared.Code.TheVariants.{Symbol, Name, Run, Complement}
use Rattle.term.proofs.Codes.{code_back}
use Rattle.term.proofs.Spans.{entry_symbol, extent_tree}
use Rattle.term.proofs.Sizes.{children_bytes, encode_append}
use Rattle.anti_pattern.specs.Variables.{among, runs, runs_all, without, firsts, free_runs}
use Rattle.anti_pattern.specs.Next.{given_to}
use Rattle.anti_pattern.specs.Search.{only}
use Rattle.anti_pattern.proofs.Following.{cond_false, Distinct, distinct_firsts, within_skip}
use Rattle.parts.specs.Packed.{bit}
use Rattle.search.specs.Spread.{past_by, past_of, run_here, runs_from, unseen, free_in, spread_to}
use Rattle.parts.proofs.Masks.{bit_new, bit_other}
use Rattle.search.proofs.Spreads.{runs_past}

-- a node in front of others
front : (table : List ℕ) (b : ℕ) (s : List ℕ) (c : Code) → decode_of b ≡ c → runs_from table (b ∷ s) 0 ≡ run_here c (runs_from table s (past_by c table (b ∷ s) - 1))
unfolding runs_from past_of
front table b s c e = ap (λ (x : Code). run_here x (runs_from table s (past_by x table (b ∷ s) - 1))) e

counted : (table : List ℕ) (n : ℕ) (s : List ℕ) (m : Bool) → runs_from table (cond m (n ∷ s) s) (cond m 2 1 - 1) ≡ runs_from table s 0
unfolding runs_from
counted table n s true = refl
counted table n s false = refl

module _ (table : List ℕ) (small : length table ≤ 200) where
  mutual
    unfolding Fits Written Shape encode own byte_of list_code

    runs_bytes : (q : Pattern) (left : ℕ) (in_list : Bool) → Fits table false (pattern_tree q) left in_list → (bs : List ℕ)
        → runs_from table (pattern_bytes table q bs) 0 ≡ runs q (runs_from table bs 0)
    runs_bytes (name v) left in_list f bs = front table (200 + v) bs (Name v) (code_back false (Name v) f.1)
    runs_bytes (symbol s qs) left in_list f bs =
        front table s _ (Symbol s) (code_back false (Symbol s) f.1)
        ∙ ap (λ (e : ℕ). runs_from table (cond (is_list table s) (number (child_trees qs) ∷ children_bytes table qs bs) (children_bytes table qs bs)) (cond (eqb e 255) 2 1 - 1))
        (entry_symbol table s f.2.0)
        ∙ counted table (number (child_trees qs)) (children_bytes table qs bs) (is_list table s)
        ∙ all_runs_bytes qs (below_of (Symbol s) left) (list_code table (Symbol s)) f.3 bs
    runs_bytes (complement q) left in_list f bs =
        let x = extent_tree table small false (pattern_tree (complement q)) left in_list bs f in
        let z : extent_of table (248 ∷ pattern_bytes table q bs) - 1 ≡ length (pattern_bytes table q []) = omega (arith, x) in
        front table 248 (pattern_bytes table q bs) Complement (code_back false Complement tt)
        ∙ ap (runs_from table (pattern_bytes table q bs)) z
        ∙ runs_past table (pattern_bytes table q bs) (length (pattern_bytes table q []))
        ∙ ap (λ (l : List ℕ). runs_from table (drop (length (pattern_bytes table q [])) l) 0) (encode_append table (pattern_tree q) [] bs)
        ∙ ap (λ (l : List ℕ). runs_from table l 0) (drop_at (pattern_bytes table q []) bs (length (pattern_bytes table q [])) refl)

    all_runs_bytes : (qs : Children) (left : ℕ) (in_list : Bool) → FitAll table false (child_trees qs) left in_list → (bs : List ℕ)
        → runs_from table (children_bytes table qs bs) 0 ≡ runs_all qs (runs_from table bs 0)
    all_runs_bytes end left in_list f bs = refl
    all_runs_bytes (plain q qs) left in_list f bs =
        runs_bytes q left in_list f.0 (children_bytes table qs bs) ∙ ap (runs q) (all_runs_bytes qs left in_list f.1 bs)
    all_runs_bytes (run v qs) left in_list f bs =
        front table (200 + v) (children_bytes table qs bs) (Run v) (code_back false (Run v) f.0.1) ∙ ap (v ∷◌) (all_runs_bytes qs left in_list f.1 bs)

-- each once

or_bit : (a i j : ℕ) → bit (bit_or a (2 ^ i)) j ≡ cond (eqb i j) true (bit a j)
or_bit a i j = go (eqb i j) refl
  where
    go : (m : Bool) → eqb i j ≡ m → bit (bit_or a (2 ^ i)) j ≡ cond m true (bit a j)
    go true e = subst (λ (k : ℕ). bit (bit_or a (2 ^ i)) k ≡ true) (eqb-true i j e) (bit_new a i)
    go false e = bit_other a i j (eqb-false i j e)

-- by the bits alone
unseen_same : (vs : List ℕ) (a b : ℕ) → ((i : ℕ) → bit a i ≡ bit b i) → unseen a vs ≡ unseen b vs
unfolding unseen
unseen_same [] a b h = refl
unseen_same (v ∷ vs) a b h =
    ap₂ (λ (m : Bool) (l : List ℕ). cond m l (v ∷ unseen (bit_or a (2 ^ v)) vs)) (h v) (unseen_same vs a b h)
    ∙ ap (λ (l : List ℕ). cond (bit b v) (unseen b vs) (v ∷ l))
    (unseen_same vs (bit_or a (2 ^ v)) (bit_or b (2 ^ v)) (λ i. or_bit a v i ∙ ap (cond (eqb v i) true) (h i) ∙ sym (or_bit b v i)))

unseen_without : (vs : List ℕ) (v seen : ℕ) → unseen (bit_or seen (2 ^ v)) vs ≡ without v (unseen seen vs)
unfolding unseen
unseen_without [] v seen = refl
unseen_without (u ∷ us) v seen = go (λ k. unseen_without us v k) (bit seen u) refl (eqb v u) refl
  where
    go : ((k : ℕ) → unseen (bit_or k (2 ^ v)) us ≡ without v (unseen k us)) → (m : Bool) → bit seen u ≡ m → (k : Bool) → eqb v u ≡ k
        → cond (bit (bit_or seen (2 ^ v)) u) (unseen (bit_or seen (2 ^ v)) us) (u ∷ unseen (bit_or (bit_or seen (2 ^ v)) (2 ^ u)) us)
        ≡ without v (cond m (unseen seen us) (u ∷ unseen (bit_or seen (2 ^ u)) us))
    go again true e k f =
        ap (λ (c : Bool). cond c (unseen (bit_or seen (2 ^ v)) us) (u ∷ unseen (bit_or (bit_or seen (2 ^ v)) (2 ^ u)) us))
        (or_bit seen v u ∙ ap (cond (eqb v u) true) e ∙ always (eqb v u))
        ∙ again seen
      where
        always : (c : Bool) → cond c true true ≡ true
        always true = refl
        always false = refl
    go again false e true f =
        ap (λ (c : Bool). cond c (unseen (bit_or seen (2 ^ v)) us) (u ∷ unseen (bit_or (bit_or seen (2 ^ v)) (2 ^ u)) us))
        (or_bit seen v u ∙ ap (λ (c : Bool). cond c true (bit seen u)) f)
        ∙ unseen_same us (bit_or seen (2 ^ v)) (bit_or (bit_or seen (2 ^ u)) (2 ^ v))
        (λ i. or_bit seen v i ∙ twice (eqb v i) (eqb u i) (bit seen i) (ap (λ (x : ℕ). eqb x i) (eqb-true v u f))
        ∙ sym (or_bit (bit_or seen (2 ^ u)) v i ∙ ap (cond (eqb v i) true) (or_bit seen u i)))
        ∙ again (bit_or seen (2 ^ u))
        ∙ sym (ap (λ (c : Bool). cond c (without v (unseen (bit_or seen (2 ^ u)) us)) (u ∷ without v (unseen (bit_or seen (2 ^ u)) us))) f)
      where
        twice : (a b c : Bool) → a ≡ b → cond a true c ≡ cond a true (cond b true c)
        twice true b c h = refl
        twice false true c h = absurd (false≢true h)
        twice false false c h = refl
    go again false e false f =
        ap (λ (c : Bool). cond c (unseen (bit_or seen (2 ^ v)) us) (u ∷ unseen (bit_or (bit_or seen (2 ^ v)) (2 ^ u)) us))
        (or_bit seen v u ∙ ap₂ (λ (c d : Bool). cond c true d) f e)
        ∙ ap (u ∷◌) (unseen_same us (bit_or (bit_or seen (2 ^ v)) (2 ^ u)) (bit_or (bit_or seen (2 ^ u)) (2 ^ v))
        (λ i. or_bit (bit_or seen (2 ^ v)) u i ∙ ap (cond (eqb u i) true) (or_bit seen v i) ∙ either (eqb u i) (eqb v i) (bit seen i)
        ∙ sym (or_bit (bit_or seen (2 ^ u)) v i ∙ ap (cond (eqb v i) true) (or_bit seen u i)))
        ∙ again (bit_or seen (2 ^ u)))
        ∙ sym (ap (λ (c : Bool). cond c (without v (unseen (bit_or seen (2 ^ u)) us)) (u ∷ without v (unseen (bit_or seen (2 ^ u)) us))) f)
      where
        either : (a b c : Bool) → cond a true (cond b true c) ≡ cond b true (cond a true c)
        either true true c = refl
        either true false c = refl
        either false true c = refl
        either false false c = refl

pub unseen_firsts : (vs : List ℕ) → unseen 0 vs ≡ firsts vs
unfolding unseen
unseen_firsts [] = refl
unseen_firsts (v ∷ vs) =
    ap (λ (c : Bool). cond c (unseen 0 vs) (v ∷ unseen (bit_or 0 (2 ^ v)) vs)) (ap (λ (x : ℕ). eqb (x % 2) 1) (zero-div (2 ^ v)))
    ∙ ap (v ∷◌) (unseen_without vs v 0 ∙ ap (without v) (unseen_firsts vs))

pub free_in_holds : (table : List ℕ) → length table ≤ 200 → (q : Pattern) (left : ℕ) (in_list : Bool) → Fits table false (pattern_tree q) left in_list
    → free_in table (pattern_bytes table q []) ≡ free_runs q
unfolding runs_from
free_in_holds table small q left in_list f = ap (unseen 0) (runs_bytes table small q left in_list f []) ∙ unseen_firsts (runs q [])

-- each has its given length

spread_others : (vs ns out : List ℕ) (v : ℕ) → among v vs ≡ false → get_or (spread_to vs ns out) v 0 ≡ get_or out v 0
unfolding spread_to
spread_others [] ns out v h = refl
spread_others (u ∷ us) [] out v h = refl
spread_others (u ∷ us) (n ∷ ns) out v h =
    let c = cond_false (eqb u v) (among v us) h in
    spread_others us ns (set out u n) v c.1 ∙ get_or-set_other out u v n 0 (λ e. eqb-false u v c.0 (sym e))

spread_given : (vs ns out : List ℕ) (v : ℕ) → length ns ≡ length vs → Distinct vs → ((u : ℕ) → among u vs ≡ true → u < length out) → among v vs ≡ true
    → given_to vs ns v ≡ only (get_or (spread_to vs ns out) v 0)
unfolding spread_to
spread_given [] ns out v l d b m = absurd (false≢true m)
spread_given (u ∷ us) [] out v l d b m = absurd (omega (arith, l))
spread_given (u ∷ us) (n ∷ ns) out v l d b m = go (eqb u v) refl m (spread_given us ns (set out u n) v (omega (arith, l)) d.1
    (λ w k. omega (arith, b w (within_skip u us us (λ j i. i) w k), length-set out u n)))
  where
    go : (c : Bool) → eqb u v ≡ c → cond c true (among v us) ≡ true
        → (among v us ≡ true → given_to us ns v ≡ only (get_or (spread_to us ns (set out u n)) v 0))
        → cond c (only n) (given_to us ns v) ≡ only (get_or (spread_to us ns (set out u n)) v 0)
    go true e m r =
        let i = eqb-true u v e in
        ap only (sym (spread_others us ns (set out u n) v (subst (λ (k : ℕ). among k us ≡ false) i d.0)
        ∙ subst (λ (k : ℕ). get_or (set out u n) k 0 ≡ n) i (get_or-set_same out u n 0 (b u (ap (λ (c : Bool). cond c true (among u us)) (eq-eqb u u refl))))))
    go false e m r = r m

pub spread_free : (q : Pattern) (given : List ℕ) → length given ≡ length (free_runs q) → ((u : ℕ) → among u (free_runs q) ≡ true → u < variables)
    → (v : ℕ) → among v (free_runs q) ≡ true → given_to (free_runs q) given v ≡ only (get_or (spread_to (free_runs q) given (replicate variables 0)) v 0)
spread_free q given l b v m =
    spread_given (free_runs q) given (replicate variables 0) v l (distinct_firsts (runs q [])) (λ u k. omega (arith, b u k, length-replicate {A = ℕ} variables 0)) m
