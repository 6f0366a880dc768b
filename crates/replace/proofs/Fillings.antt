-- Filling a template: what is put so far, and what is still to come.
use Prim.Native.Nat.{ℕ, zero, suc, ◌+◌, ◌-◌, ◌*◌, ◌≤◌, ◌<◌}
use native.Mathlib.Omega.{arith}
use native.Mathlib.Numerals.{add-one}
use mathlib.Core.Path.{◌≡◌, refl, sym, ap, ap₂, subst, ◌∙◌}
use mathlib.Core.Logic.{◌⊎◌, inl, inr}
use mathlib.Core.List.{List, [], ◌∷◌}
use mathlib.Core.Bool.{Bool, true, false, cond, not, ◌&&◌, ◌||◌, true≢false, false≢true, and-true, and-false}
use lib.ListN.{length, get_or, set, take, drop, length-drop, length-take}
use lib.Seq.{sets}
use lib.Dec.{eqb, leb}
use borrow.Author.Tests.{lt-ltb, not-false}
use Rattle.term.specs.Table.{is_list, width}
use Rattle.term.specs.Code.{decode_of}
use Rattle.term.specs.Tree.{encode}
use Rattle.term.specs.Term.{Term, Terms, node, nil, ◌::◌, ◌⧺◌, single, count, size, sizes, terms_bytes}
use Rattle.term.specs.Pattern.{Children, name, symbol, end, plain, run, child_trees, pattern_bytes}
use Rattle.term.specs.Limits.{Written, Shape, Fits}
use Rattle.term.specs.Extent.{extent_of}
use Rattle.term.specs.Part.{part_bytes}
use Rattle.term.specs.declared.Code.{Code}
use Rattle.term.specs.declared.Code.TheVariants.{Symbol, Name, Run, Complement}
use Rattle.term.proofs.Joins.{bytes_join, sizes_join}
use Rattle.term.proofs.SameParts.{and_true as both_true}
use Rattle.term.proofs.Sizes.{encodes_append, terms_sizes, node_bytes}
use Rattle.anti_pattern.specs.Language.{simple}
use Rattle.anti_pattern.specs.Meaning.{Assignment}
use Rattle.anti_pattern.specs.Place.{assigned}
use Rattle.anti_pattern.specs.Variables.{among}
use Rattle.anti_pattern.proofs.Facts.{join_nil, count_join}
use Rattle.replace.specs.Instance.{term_assigned}
use Rattle.term.specs.Splicing.{same_list}
use Rattle.replace.specs.Splice.{placed, placed_all, spliced_instance, spliced_instances}
use Rattle.replace.specs.Loose.{loose, loose_all}
use Rattle.replace.specs.Growth.{nests, nest_all, narrow, narrow_all}
use Rattle.matcher.specs.Demands.{offset_in, length_in, terms_in}
use Rattle.parts.specs.Shown.{entry_width}
use Rattle.replace.specs.Filling.{longest_part, part_room, own_bytes, children_bytes, part_in, Run as Stretch, TellsNesting, ChildrenOf, Limited, Filling, fit_all, filled, filled_to, AllApart, TellsStored, Puts, Fills, Stores, FillsTree, StoresTree, FillsNode, StoresNode, FilledWithin}
use Rattle.replace.specs.declared.Filled.{Filled}
use Rattle.splice.specs.Pass.{narrow_node, stored}
use Rattle.replace.proofs.Forests.{fit_limited, code_of, first_of, rest_of, head_code, none_left, symbol_only, name_only, run_only, complement_only, refused_only, part_rest, own_width, past_symbol, past_first, first_extent}
use Rattle.replace.proofs.Instances.{neither}
use Rattle.replace.proofs.Limits.{all_narrow_holds, and_both}
use Rattle.replace.proofs.Splices.{placed_all_front}
use Rattle.term.proofs.Spans.{extent_some}
use Rattle.term.proofs.Stores.{sets_append}
use Rattle.replace.proofs.Stored.{set_before}
use Rattle.std.specs.Prelude.{Option, Some, None}

-- Sequences joined

join_join : (us ts rs : Terms) → (us ⧺ ts) ⧺ rs ≡ us ⧺ (ts ⧺ rs)
join_join nil ts rs = refl
join_join (u :: us) ts rs = ap (u ::◌) (join_join us ts rs)

pub nest_join : (left : ℕ) (us ts : Terms) → nest_all left (us ⧺ ts) ≡ (nest_all left us && nest_all left ts)
nest_join left nil ts = refl
nest_join left (u :: us) ts = ap (λ (b : Bool). nests left u && b) (nest_join left us ts) ∙ assoc (nests left u) (nest_all left us) (nest_all left ts)
  where
    assoc : (a b c : Bool) → (a && (b && c)) ≡ ((a && b) && c)
    assoc true b c = refl
    assoc false b c = refl

narrow_join : (table : List ℕ) (us ts : Terms) → narrow_all table (us ⧺ ts) ≡ (narrow_all table us && narrow_all table ts)
narrow_join table nil ts = refl
narrow_join table (u :: us) ts = ap (λ (b : Bool). narrow table u && b) (narrow_join table us ts) ∙ assoc (narrow table u) (narrow_all table us) (narrow_all table ts)
  where
    assoc : (a b c : Bool) → (a && (b && c)) ≡ ((a && b) && c)
    assoc true b c = refl
    assoc false b c = refl

pub fit_join : (table : List ℕ) (left : ℕ) (us ts : Terms) → fit_all table left (us ⧺ ts) ≡ (fit_all table left us && fit_all table left ts)
fit_join table left us ts = ap₂ (λ (x y : Bool). x && y) (nest_join left us ts) (narrow_join table us ts) ∙ across (nest_all left us) (nest_all left ts) (narrow_all table us) (narrow_all table ts)
  where
    across : (a b c d : Bool) → ((a && b) && (c && d)) ≡ ((a && c) && (b && d))
    across true true true d = refl
    across true true false d = refl
    across true false true d = refl
    across true false false d = refl
    across false b c d = refl

-- a node fits if its children do, one level down, and their number does
pub node_fit : (table : List ℕ) (left x : ℕ) (ts : Terms) → 0 < left
    → fit_all table left (single (node x ts)) ≡ (fit_all table (left - 1) ts && narrow_node (is_list table x) (count ts))
node_fit table left x ts h =
    ap (λ (b : Bool). ((b && nest_all (left - 1) ts) && true) && ((narrow_node (is_list table x) (count ts) && narrow_all table ts) && true)) (lt-ltb 0 left h)
    ∙ shuffle (nest_all (left - 1) ts) (narrow_all table ts) (narrow_node (is_list table x) (count ts))
  where
    shuffle : (n w c : Bool) → ((n && true) && ((c && w) && true)) ≡ ((n && w) && c)
    shuffle true true true = refl
    shuffle true true false = refl
    shuffle true false true = refl
    shuffle true false false = refl
    shuffle false w c = refl

pub node_deep : (table : List ℕ) (left x : ℕ) (ts : Terms) → left ≡ 0 → fit_all table left (single (node x ts)) ≡ false
node_deep table left x ts e = rw e

-- What is filled

length_told : Option Filled → ℕ
length_told None = 0
length_told (Some r) = r.length

elements_told : Option Filled → ℕ
elements_told None = 0
elements_told (Some r) = r.elements

pub filled_to_holds : (b : Bool) (n k m l : ℕ) → Some (filled m l) ≡ filled_to b n k → (b ≡ true) × (m ≡ n) × (l ≡ k)
unfolding length_told elements_told
filled_to_holds true n k m l e = (refl, ap length_told e, ap elements_told e)
filled_to_holds false n k m l e = let z : ◌≡◌ {A = ℕ} 0 1 = cc in absurd (omega arith)

pub filled_unfit : (b : Bool) (n k : ℕ) → None ≡ filled_to b n k → b ≡ false
filled_unfit true n k e = let z : ◌≡◌ {A = ℕ} 0 1 = cc in absurd (omega arith)
filled_unfit false n k e = refl

-- A part

module _ (table s : List ℕ) (left at : ℕ) (out : List ℕ) where
  pub stored_unfit : (b : Bool) → b ≡ false → TellsNesting table s left b → TellsStored table s left at out false out
  unfolding TellsNesting TellsStored
  stored_unfit b e t ts r = (sym e ∙ t ts r, λ h. absurd (false≢true (sym e ∙ t ts r ∙ h)))

  pub stored_fits : (b : Bool) (after : List ℕ) → b ≡ true → TellsNesting table s left b → after ≡ sets out at s → TellsStored table s left at out true after
  unfolding TellsNesting TellsStored
  stored_fits b after e t h ts r = (sym e ∙ t ts r, λ g. h)

-- where no list stands around, nothing is spliced
no_around : (listed : ℕ → Option ℕ) (ts : Terms) → placed_all listed None ts nil ≡ ts
no_around listed nil = refl
no_around listed (node s us :: ts) = ap (node s us ::◌) (no_around listed ts)

module _ (table bytes answer : List ℕ) (listed : ℕ → Option ℕ) (around : Option ℕ) (no : around ≡ None) (v left at : ℕ) (out part : List ℕ)
    (is : part ≡ part_in bytes answer v) where
  abbrev Putting : Option Filled → List ℕ → Type 0
  Putting r after = Puts table listed around bytes answer v left at out r after × FilledWithin longest_part r

  here_run : (ts : Terms) → Stretch table (part_in bytes answer v) ts → Stretch table part ts
  here_run ts r = subst (λ (y : List ℕ). Stretch table y ts) (sym is) r

  same : (ts : Terms) → placed_all listed around ts nil ≡ ts
  same ts = ap (λ (o : Option ℕ). placed_all listed o ts nil) no ∙ no_around listed ts

  pub part_unfit : (b : Bool) (after : List ℕ) → b ≡ false → TellsStored table part left at out b after → Putting None after
  unfolding TellsStored Puts
  part_unfit b after e t = (
    λ ts r n.
        let z = sym e ∙ (t ts (here_run ts r)).0 in
        rw (same ts) (ap (λ (y : Bool). filled_to y (sizes table ts) (count ts)) z, λ h. absurd (false≢true (z ∙ h))),
    tt,
  )

  pub part_fits : (b : Bool) (k : ℕ) (after : List ℕ) → b ≡ true → TellsStored table part left at out b after → k ≡ terms_in answer v → k ≤ longest_part → length part ≤ longest_part
      → Putting (Some (filled (length part) k)) after
  unfolding TellsStored Puts
  part_fits b k after e t c few short = (
    λ ts r n.
        let y = here_run ts r in
        let z : length part ≡ sizes table ts = ap length y.bytes ∙ terms_sizes table ts in
        let f = sym e ∙ (t ts y).0 in
        rw (same ts) (
          ap₂ (λ (i j : ℕ). Some (filled i j)) z (c ∙ n) ∙ ap (λ (x : Bool). filled_to x (sizes table ts) (count ts)) f,
          λ h. (t ts y).1 h ∙ ap (sets out at) y.bytes,
        ),
    (short, omega arith),
  )

-- what is placed is as narrow as it was

placed_narrow : (table : List ℕ) (listed : ℕ → Option ℕ) (around : Option ℕ) (ts : Terms) → narrow_all table ts ≡ true → narrow_all table (placed_all listed around ts nil) ≡ true
placed_narrow table listed around nil h = refl
placed_narrow table listed around (node x us :: ts) h =
    let a = both_true (narrow table (node x us)) (narrow_all table ts) h in
    go (same_list around (listed x)) (both_true (cond (is_list table x) (leb (count us) 255) true) (narrow_all table us) a.0).1 a.0 (placed_narrow table listed around ts a.1)
  where
    go : (b : Bool) → narrow_all table us ≡ true → narrow table (node x us) ≡ true → narrow_all table (placed_all listed around ts nil) ≡ true
        → narrow_all table (cond b (us ⧺ placed_all listed around ts nil) (node x us :: placed_all listed around ts nil)) ≡ true
    go true f g k = narrow_join table us (placed_all listed around ts nil) ∙ and_both (narrow_all table us) (narrow_all table (placed_all listed around ts nil)) f k
    go false f g k = and_both (narrow table (node x us)) (narrow_all table (placed_all listed around ts nil)) g k

-- Template

assigned_term : (o : Option Terms) (t : Term) → assigned o ≡ single t → term_assigned o ≡ t
assigned_term None t e = let z : ◌≡◌ {A = ℕ} 0 1 = ap count e in absurd (omega arith)
assigned_term (Some nil) t e = let z : ◌≡◌ {A = ℕ} 0 1 = ap count e in absurd (omega arith)
assigned_term (Some (u :: us)) t e = cc

pub within_more : (r : Option Filled) (n m : ℕ) → n ≤ m → FilledWithin n r → FilledWithin m r
within_more (Some r) n m h f = (omega (arith, f.0), omega (arith, f.1))
within_more None n m h f = tt

module _ (table : List ℕ) (listed : ℕ → Option ℕ) (around : Option ℕ) (s bytes answer : List ℕ) (left at : ℕ) (out₀ : List ℕ) where
  -- what child patterns are filled to here, and below a symbol
  abbrev here : Children → Assignment → Terms
  here qs a = spliced_instances listed around qs a

  abbrev below : ℕ → Children → Assignment → Terms
  below x qs a = spliced_instances listed (listed x) qs a

  abbrev Here : Children → List ℕ → Assignment → Type 0
  Here qs vs a = Filling table listed around s bytes answer qs vs a

  abbrev pub Fitted : Option Filled → List ℕ → Type 0
  Fitted r after =
      Fills table listed around s bytes answer left r × (FilledWithin (part_room * length s) r × Stores table listed around s bytes answer left at out₀ after)

  unfitted : (after : List ℕ) → ((qs : Children) (vs : List ℕ) (a : Assignment) → Here qs vs a → fit_all table left (here qs a) ≡ false) → Fitted None after
  unfolding Fills Stores
  unfitted after h = (
    λ qs vs a f. ap (λ (b : Bool). filled_to b (sizes table (here qs a)) (count (here qs a))) (sym (h qs vs a f)),
    (tt, λ qs vs a f g. absurd (false≢true (sym (h qs vs a f) ∙ g))),
  )

  -- One tree

  module _ (some : 0 < length s) (one : length s ≡ extent_of table s) where
    module _ (qs : Children) (vs : List ℕ) (a : Assignment) (f : Here qs vs a) where
      code_is : decode_of (get_or s 0 0) ≡ code_of qs
      code_is = head_code table s 0 qs some f.stands f.limited

      -- nothing comes after it
      alone : rest_of qs ≡ end
      alone =
          let e = past_first table s f.small 0 qs some f.stands f.limited in
          let z : length s ≡ 0 + extent_of table s = omega (arith, one) in
          none_left table s (length s) (rest_of qs) (omega arith) (ap (λ (n : ℕ). drop n s) z ∙ e.1)

    -- no complement and no refused code comes up
    pub tree_complement : (after : List ℕ) → decode_of (get_or s 0 0) ≡ Complement → Fitted None after
    tree_complement after e =
        unfitted after
        (λ qs vs a f.
        let o = complement_only qs (sym (code_is qs vs a f) ∙ e) in
        absurd (true≢false (sym (ap (loose_all vs) o.2) ∙ f.firm)))

    pub tree_refused : (after : List ℕ) → decode_of (get_or s 0 0) ≡ Code.Refused → Fitted None after
    unfolding encode
    tree_refused after e =
        unfitted after
        (λ qs vs a f.
        let o = refused_only qs (sym (code_is qs vs a f) ∙ e) in
        absurd (omega (arith, ap length (f.stands ∙ ap (λ (y : Children). children_bytes table y []) o))))

    -- A variable: the terms that are assigned to it

    pub record Variable (qs : Children) (vs : List ℕ) (a : Assignment) (v : ℕ) : Type 0 where
      pub makes : here qs a ≡ placed_all listed around (assigned (a v)) nil
      pub stretch : Stretch table (part_in bytes answer v) (assigned (a v))
      pub terms : terms_in answer v ≡ count (assigned (a v))

    abbrev pub IsVariable : ℕ → Type 0
    IsVariable v = (qs : Children) (vs : List ℕ) (a : Assignment) → Here qs vs a → Variable qs vs a v

    pub name_variable : (v : ℕ) → decode_of (get_or s 0 0) ≡ Name v → IsVariable v
    unfolding Fits Written
    name_variable v e qs vs a f =
        let o = name_only qs v (sym (code_is qs vs a f) ∙ e) in
        let l : Limited table (plain (name v) o.0) = subst (Limited table) o.1 f.limited in
        let n = neither (not (among v vs)) (loose_all vs o.0) (sym (ap (loose_all vs) o.1) ∙ f.firm) in
        let m = not-false (among v vs) n.0 in
        let t = f.lent.one v l.0.2.1 m in
        let r : o.0 ≡ end = sym (ap rest_of o.1) ∙ alone qs vs a f in
        record {
          makes =
              ap (λ (y : Children). here y a) o.1 ∙ ap (λ (y : Children). placed listed around (term_assigned (a v)) (here y a)) r
              ∙ ap (λ (w : Term). placed listed around w nil) (assigned_term (a v) t.0 t.1)
              ∙ ap (λ (w : Terms). placed_all listed around w nil) (sym t.1);
          stretch = f.lent.part v (omega (arith, l.0.2.1)) m;
          terms = f.lent.terms v (omega (arith, l.0.2.1)) m;
        }

    pub run_variable : (v : ℕ) → decode_of (get_or s 0 0) ≡ Run v → IsVariable v
    run_variable v e qs vs a f =
        let o = run_only qs v (sym (code_is qs vs a f) ∙ e) in
        let l : Limited table (run v o.0) = subst (Limited table) o.1 f.limited in
        let n = neither (not (among v vs)) (loose_all vs o.0) (sym (ap (loose_all vs) o.1) ∙ f.firm) in
        let r : o.0 ≡ end = sym (ap rest_of o.1) ∙ alone qs vs a f in
        record {
          makes = ap (λ (y : Children). here y a) o.1 ∙ ap (λ (y : Children). placed_all listed around (assigned (a v)) (here y a)) r;
          stretch = f.lent.part v l.0.1 (not-false (among v vs) n.0);
          terms = f.lent.terms v l.0.1 (not-false (among v vs) n.0);
        }

    pub tree_part : (v : ℕ) → IsVariable v → (r : Option Filled) (after : List ℕ)
        → Puts table listed around bytes answer v left at out₀ r after → FilledWithin longest_part r → Fitted r after
    unfolding Puts Fills Stores
    tree_part v is r after g w = (
      λ qs vs a f.
          let x = is qs vs a f in
          (g (assigned (a v)) x.stretch x.terms).0
          ∙ ap (λ (b : Bool). filled_to b (sizes table (put_by_holds a)) (count (put_by_holds a))) (sym (fit_nest a x.stretch))
          ∙ ap (λ (us : Terms). filled_to (fit_all table left us) (sizes table us) (count us)) (sym x.makes),
      (
        within_more r longest_part (part_room * length s) (omega arith) w,
        λ qs vs a f h.
            let x = is qs vs a f in
            (g (assigned (a v)) x.stretch x.terms).1 (sym (fit_nest a x.stretch) ∙ sym (ap (fit_all table left) x.makes) ∙ h)
            ∙ ap (λ (us : Terms). sets out₀ at (terms_bytes table us [])) (sym x.makes),
      ),
    )
      where
        put_by_holds : Assignment → Terms
        put_by_holds a = placed_all listed around (assigned (a v)) nil

        fit_nest : (a : Assignment) → Stretch table (part_in bytes answer v) (assigned (a v)) → fit_all table left (put_by_holds a) ≡ nest_all left (put_by_holds a)
        fit_nest a r =
            ap (λ (b : Bool). nest_all left (put_by_holds a) && b)
            (placed_narrow table listed around (assigned (a v)) (all_narrow_holds (simple table) (assigned (a v)) r.left r.in_list r.fits)) ∙ and-true (nest_all left (put_by_holds a))

    -- A symbol: its own bytes, and what its children are filled to

    record Symbolic (qs : Children) (vs : List ℕ) (a : Assignment) (x : ℕ) : Type 0 where
      ks : Children
      makes : here qs a ≡ single (node x (below x ks a))
      in_table : x < length table
      byte : get_or s 0 0 ≡ x
      tree : s ≡ pattern_bytes table (symbol x ks) []
      inner : Filling table listed (listed x) (children_bytes table ks []) bytes answer ks vs a

    module _ (x : ℕ) (e : decode_of (get_or s 0 0) ≡ Symbol x) where
      symbolic : (qs : Children) (vs : List ℕ) (a : Assignment) → Here qs vs a → Symbolic qs vs a x
      unfolding Fits Shape encode
      symbolic qs vs a f =
          let o = symbol_only qs x (sym (code_is qs vs a f) ∙ e) in
          let r : o.1 ≡ end = sym (ap rest_of o.2) ∙ alone qs vs a f in
          let is : qs ≡ plain (symbol x o.0) end = o.2 ∙ ap (plain (symbol x o.0)) r in
          let l : Limited table (plain (symbol x o.0) end) = subst (Limited table) is f.limited in
          let w : AllApart listed around (plain (symbol x o.0) end) = subst (AllApart listed around) is f.apart in
          let h : s ≡ children_bytes table (plain (symbol x o.0) end) [] = subst (λ (y : Children). s ≡ children_bytes table y []) is f.stands in
          let m = neither (loose_all vs o.0) false (sym (ap (loose_all vs) is) ∙ f.firm) in
          record {
            ks = o.0;
            makes = ap (λ (y : Children). here y a) is ∙ ap (λ (c : Bool). cond c (below x o.0 a ⧺ nil) (single (node x (below x o.0 a)))) w.0.0;
            in_table = l.0.2.2.0;
            byte = (past_symbol table s f.small 0 x o.0 end [] l.0.2.2.0 h).0;
            tree = h;
            inner = record { small = f.small; stands = refl; limited = fit_limited table o.0 _ _ l.0.2.3; firm = m.0; apart = w.0.1; lent = f.lent };
          }

      pub tree_deep : (after : List ℕ) → left ≡ 0 → Fitted None after
      tree_deep after z =
          unfitted after
          (λ qs vs a f.
          let y = symbolic qs vs a f in
          ap (fit_all table left) y.makes ∙ node_deep table left x (below x y.ks a) z)

      module _ (deep : 0 < left) (inside : List ℕ) (c : ChildrenOf table s inside) (within : Option ℕ) (iw : within ≡ listed (get_or s 0 0)) where
        module _ (qs : Children) (vs : List ℕ) (a : Assignment) (y : Symbolic qs vs a x) where
          filling : Filling table listed within inside bytes answer y.ks vs a
          unfolding ChildrenOf
          filling =
              subst (λ (o : Option ℕ). Filling table listed o inside bytes answer y.ks vs a) (sym (iw ∙ ap listed y.byte))
              (subst (λ (b : List ℕ). Filling table listed (listed x) b bytes answer y.ks vs a) (sym (c x (child_trees y.ks) y.in_table y.tree)) y.inner)

          inside_is : spliced_instances listed within y.ks a ≡ below x y.ks a
          inside_is = ap (λ (o : Option ℕ). spliced_instances listed o y.ks a) (iw ∙ ap listed y.byte)

        pub tree_inside_unfit : (after : List ℕ) → Fills table listed within inside bytes answer (left - 1) None → Fitted None after
        unfolding Fills
        tree_inside_unfit after g =
            unfitted after
            (λ qs vs a f.
            let y = symbolic qs vs a f in
            let b = sym (ap (fit_all table (left - 1)) (inside_is qs vs a y)) ∙ filled_unfit (fit_all table (left - 1) (spliced_instances listed within y.ks a)) _ _ (g y.ks vs a (filling qs vs a y)) in
            ap (fit_all table left) y.makes ∙ node_fit table left x (below x y.ks a) deep
            ∙ ap (λ (z : Bool). z && narrow_node (is_list table x) (count (below x y.ks a))) b)

        module _ (own : ℕ) (ow : own ≡ own_bytes table (get_or s 0 0)) (m k : ℕ) (g : Fills table listed within inside bytes answer (left - 1) (Some (filled m k))) where
          is_list_holds : (qs : Children) (vs : List ℕ) (a : Assignment) → Here qs vs a → Symbolic qs vs a x → (eqb own 2 ≡ is_list table x) × (own ≡ width table x)
          is_list_holds qs vs a f y =
              let z : own ≡ width table x = ow ∙ ap (own_bytes table) y.byte ∙ own_width table s f.small 0 x y.in_table in
              (ap (λ (w : ℕ). eqb w 2) z ∙ by (is_list table x), z)
            where
              by : (l : Bool) → eqb (cond l 2 1) 2 ≡ l
              by true = refl
              by false = refl

          comes_to : (qs : Children) (vs : List ℕ) (a : Assignment) (y : Symbolic qs vs a x)
              → (fit_all table (left - 1) (below x y.ks a) ≡ true) × (m ≡ sizes table (below x y.ks a)) × (k ≡ count (below x y.ks a))
          unfolding Fills
          comes_to qs vs a y =
              filled_to_holds (fit_all table (left - 1) (below x y.ks a)) (sizes table (below x y.ks a)) (count (below x y.ks a)) m k
              (subst (λ (ts : Terms). Some (filled m k) ≡ filled_to (fit_all table (left - 1) ts) (sizes table ts) (count ts)) (inside_is qs vs a y) (g y.ks vs a (filling qs vs a y)))

          pub tree_wide : (after : List ℕ) → narrow_node (eqb own 2) k ≡ false → Fitted None after
          tree_wide after h =
              unfitted after
              (λ qs vs a f.
              let y = symbolic qs vs a f in
              let z = comes_to qs vs a y in
              ap (fit_all table left) y.makes ∙ node_fit table left x (below x y.ks a) deep
              ∙ ap₂ (λ (u w : Bool). u && w) z.0 (ap₂ narrow_node (sym (is_list_holds qs vs a f y).0) (sym z.2) ∙ h))

          -- the bytes of a node, where its number of children is stored last
          node_stored : (o : List ℕ) (j w : ℕ) (l : Bool) (ts : Terms) → narrow_node l (count ts) ≡ true
              → stored l (sets (set o j w) (j + cond l 2 1) (terms_bytes table ts [])) (j + 1) (count ts)
              ≡ sets o j (w ∷ cond l (count ts ∷ terms_bytes table ts []) (terms_bytes table ts []))
          node_stored o j w true ts h =
              let two : j + 2 ≡ suc (suc j) = omega arith in
              rw (h, add-one j, two) (set_before (set o j w) (suc j) (suc (suc j)) (count ts) (terms_bytes table ts []) (omega arith))
          node_stored o j w false ts h = rw (add-one j)

          pub tree_node : (inner after : List ℕ) → narrow_node (eqb own 2) k ≡ true
              → Stores table listed within inside bytes answer (left - 1) (at + own) (set out₀ at (get_or s 0 0)) inner
              → after ≡ stored (eqb own 2) inner (at + 1) k → FilledWithin (part_room * length inside) (Some (filled m k)) → length inside < length s → own ≤ 2
              → Fitted (Some (filled (own + m) 1)) after
          unfolding Fills Stores encode size
          tree_node inner after h w q within less two = (
            λ qs vs a f.
                let y = symbolic qs vs a f in
                let ts : Terms = below x y.ks a in
                let z = comes_to qs vs a y in
                let l = is_list_holds qs vs a f y in
                let sz : own + m ≡ sizes table (single (node x ts)) = omega (arith, l.1, z.1) in
                ap (λ (n : ℕ). Some (filled n 1)) sz ∙ ap (λ (b : Bool). filled_to b (sizes table (single (node x ts))) 1) (sym (fits qs vs a f))
                ∙ ap (λ (us : Terms). filled_to (fit_all table left us) (sizes table us) (count us)) (sym y.makes),
            (
              (omega (arith, within.0), omega arith),
              λ qs vs a f b.
                  let y = symbolic qs vs a f in
                  let ts : Terms = below x y.ks a in
                  let z = comes_to qs vs a y in
                  let l = is_list_holds qs vs a f y in
                  q ∙ ap₂ (λ (u : Bool) (v : ℕ). stored u inner (at + 1) v) l.0 z.2
                  ∙ ap (λ (o : List ℕ). stored (is_list table x) o (at + 1) (count ts))
                  (w y.ks vs a (filling qs vs a y) (ap (fit_all table (left - 1)) (inside_is qs vs a y) ∙ z.0)
                  ∙ ap (λ (us : Terms). sets (set out₀ at (get_or s 0 0)) (at + own) (terms_bytes table us [])) (inside_is qs vs a y)
                  ∙ ap₂ (λ (u v : ℕ). sets (set out₀ at u) (at + v) (terms_bytes table ts [])) y.byte l.1)
                  ∙ node_stored out₀ at x (is_list table x) ts (narrow_is qs vs a f) ∙ ap (sets out₀ at) (sym (node_bytes table x ts []))
                  ∙ ap (λ (us : Terms). sets out₀ at (terms_bytes table us [])) (sym y.makes),
            ),
          )
            where
              narrow_is : (qs : Children) (vs : List ℕ) (a : Assignment) (f : Here qs vs a) → narrow_node (is_list table x) (count (below x (symbolic qs vs a f).ks a)) ≡ true
              narrow_is qs vs a f = let y = symbolic qs vs a f in ap₂ narrow_node (sym (is_list_holds qs vs a f y).0) (sym (comes_to qs vs a y).2) ∙ h

              fits : (qs : Children) (vs : List ℕ) (a : Assignment) (f : Here qs vs a) → fit_all table left (single (node x (below x (symbolic qs vs a f).ks a))) ≡ true
              fits qs vs a f =
                  let y = symbolic qs vs a f in
                  node_fit table left x (below x y.ks a) deep
                  ∙ and_both (fit_all table (left - 1) (below x y.ks a)) (narrow_node (is_list table x) (count (below x y.ks a))) (comes_to qs vs a y).0 (narrow_is qs vs a f)

  -- Trees one after the other: ws is put, and rs are still to come

  pub record Done (qs : Children) (vs : List ℕ) (a : Assignment) (out : List ℕ) (used put elements : ℕ) : Type 0 where
    pub ws : Terms
    pub rs : Children
    pub stands : drop used s ≡ children_bytes table rs []
    pub limited : Limited table rs
    pub firm : loose_all vs rs ≡ false
    pub apart : AllApart listed around rs
    pub made : here qs a ≡ ws ⧺ here rs a
    pub fit : fit_all table left ws ≡ true
    pub long : put ≡ sizes table ws
    pub many : elements ≡ count ws
    pub stored : out ≡ sets out₀ at (terms_bytes table ws [])

  pub record Passing (out : List ℕ) (used put elements : ℕ) : Type 0 where
    pub within : used ≤ length s
    pub less : put ≤ part_room * used
    pub few : elements ≤ 256 * part_room * used
    pub kept : length out ≡ length out₀
    pub done : (qs : Children) (vs : List ℕ) (a : Assignment) → Here qs vs a → Done qs vs a out used put elements

  pub pass_first : Passing out₀ 0 0 0
  unfolding encode size
  pass_first = record {
    within = omega arith;
    less = omega arith;
    few = omega arith;
    kept = refl;
    done = λ qs vs a f. record {
      ws = nil;
      rs = qs;
      stands = f.stands;
      limited = f.limited;
      firm = f.firm;
      apart = f.apart;
      made = refl;
      fit = refl;
      long = refl;
      many = refl;
      stored = refl;
    };
  }

  pub pass_last : (out : List ℕ) (used put elements : ℕ) → length s ≤ used → Passing out used put elements → Fitted (Some (filled put elements)) out
  unfolding Fills Stores
  pass_last out used put elements l p = (
    λ qs vs a f.
        let d = p.done qs vs a f in
        let e = all qs vs a f in
        ap₂ (λ (i j : ℕ). Some (filled i j)) (d.long ∙ ap (sizes table) (sym e)) (d.many ∙ ap count (sym e))
        ∙ ap (λ (b : Bool). filled_to b (sizes table (here qs a)) (count (here qs a))) (sym (ap (fit_all table left) e ∙ d.fit)),
    (
      (omega (arith, p.less, p.within), omega (arith, p.few, p.within)),
      λ qs vs a f g. (p.done qs vs a f).stored ∙ ap (λ (ts : Terms). sets out₀ at (terms_bytes table ts [])) (sym (all qs vs a f)),
    ),
  )
    where
      all : (qs : Children) (vs : List ℕ) (a : Assignment) (f : Here qs vs a) → here qs a ≡ (p.done qs vs a f).ws
      all qs vs a f =
          let d = p.done qs vs a f in
          d.made ∙ ap (λ (y : Children). d.ws ⧺ here y a) (none_left table s used d.rs l d.stands) ∙ join_nil d.ws

  -- the first of them, and the others

  here_first : (rs : Children) (a : Assignment) → here rs a ≡ here (first_of rs) a ⧺ here (rest_of rs) a
  here_first end a = refl
  here_first (plain q rs) a = placed_all_front listed around (single (spliced_instance listed q a)) (here rs a)
  here_first (run v rs) a = placed_all_front listed around (assigned (a v)) (here rs a)

  limited_first : (rs : Children) → Limited table rs → Limited table (first_of rs) × Limited table (rest_of rs)
  limited_first end h = (tt, tt)
  limited_first (plain q rs) h = ((h.0, tt), h.1)
  limited_first (run v rs) h = ((h.0, tt), h.1)

  firm_first : (vs : List ℕ) (rs : Children) → loose_all vs rs ≡ false → (loose_all vs (first_of rs) ≡ false) × (loose_all vs (rest_of rs) ≡ false)
  firm_first vs end h = (refl, refl)
  firm_first vs (plain q rs) h = let n = neither (loose vs q) (loose_all vs rs) h in (ap (λ (b : Bool). b || false) n.0, n.1)
  firm_first vs (run v rs) h = let n = neither (not (among v vs)) (loose_all vs rs) h in (ap (λ (b : Bool). b || false) n.0, n.1)

  apart_first : (rs : Children) → AllApart listed around rs → AllApart listed around (first_of rs) × AllApart listed around (rest_of rs)
  apart_first end h = (tt, tt)
  apart_first (plain q rs) h = ((h.0, tt), h.1)
  apart_first (run v rs) h = (tt, h)

  module _ (out : List ℕ) (used put elements : ℕ) (more : used < length s) (p : Passing out used put elements) (n : ℕ)
      (i : n ≡ extent_of table (take (length s - used) (drop used s))) (t : List ℕ) (is : t ≡ take (used + n - used) (drop used s)) where
    record Next (qs : Children) (vs : List ℕ) (a : Assignment) (d : Done qs vs a out used put elements) : Type 0 where
      one : length t ≡ extent_of table t
      filling : Filling table listed around t bytes answer (first_of d.rs) vs a
      onward : drop (used + n) s ≡ children_bytes table (rest_of d.rs) []

    next : (qs : Children) (vs : List ℕ) (a : Assignment) → Here qs vs a → (d : Done qs vs a out used put elements) → Next qs vs a d
    unfolding encode
    next qs vs a f d =
        let z : n ≡ extent_of table (drop used s) = i ∙ ap (extent_of table) (part_rest s used) in
        let y : used + n - used ≡ n = omega arith in
        let c = past_first table s f.small used d.rs more d.stands d.limited in
        let b : t ≡ children_bytes table (first_of d.rs) [] = is ∙ ap (λ (k : ℕ). take k (drop used s)) (y ∙ z) ∙ c.0 in
        let r = firm_first vs d.rs d.firm in
        record {
          one = first_extent table f.small t d.rs b (limited_first d.rs d.limited).0 (omega (arith, ap length b, c.2, z, extent_some table (drop used s) (omega (arith, length-drop used s))));
          filling = record {
            small = f.small;
            stands = b;
            limited = (limited_first d.rs d.limited).0;
            firm = r.0;
            apart = (apart_first d.rs d.apart).0;
            lent = f.lent;
          };
          onward = ap (λ (k : ℕ). drop (used + k) s) z ∙ c.1;
        }

    pub pass_tree_unfit : (after : List ℕ) → FillsTree table listed around t bytes answer left None → Fitted None after
    unfolding FillsTree Fills
    pass_tree_unfit after g =
        unfitted after
        (λ qs vs a f.
        let d = p.done qs vs a f in
        let x = next qs vs a f d in
        let us : Terms = here (first_of d.rs) a in
        let b = filled_unfit (fit_all table left us) (sizes table us) (count us) (g x.one (first_of d.rs) vs a x.filling) in
        ap (fit_all table left) (d.made ∙ ap (d.ws ⧺◌) (here_first d.rs a)) ∙ fit_join table left d.ws (us ⧺ here (rest_of d.rs) a)
        ∙ ap (λ (y : Bool). fit_all table left d.ws && y) (fit_join table left us (here (rest_of d.rs) a) ∙ ap (λ (y : Bool). y && fit_all table left (here (rest_of d.rs) a)) b)
        ∙ and-false (fit_all table left d.ws))

    pub pass_tree : (after : List ℕ) (m k : ℕ) → FillsTree table listed around t bytes answer left (Some (filled m k)) → FilledWithin (part_room * length t) (Some (filled m k))
        → StoresTree table listed around t bytes answer left (at + put) out after → length after ≡ length out → used + n ≤ length s → length t ≤ n
        → Passing after (used + n) (put + m) (elements + k)
    unfolding FillsTree StoresTree Fills Stores
    pass_tree after m k g w st same fits size = record {
      within = fits;
      less = omega (arith, p.less, w.0);
      few = omega (arith, p.few, w.1);
      kept = same ∙ p.kept;
      done = λ qs vs a f.
          let d = p.done qs vs a f in
          let x = next qs vs a f d in
          let us : Terms = here (first_of d.rs) a in
          let z = filled_to_holds (fit_all table left us) (sizes table us) (count us) m k (g x.one (first_of d.rs) vs a x.filling) in
          let y : at + put ≡ at + length (terms_bytes table d.ws []) = ap (λ (j : ℕ). at + j) (d.long ∙ sym (terms_sizes table d.ws)) in
          record {
            ws = d.ws ⧺ us;
            rs = rest_of d.rs;
            stands = x.onward;
            limited = (limited_first d.rs d.limited).1;
            firm = (firm_first vs d.rs d.firm).1;
            apart = (apart_first d.rs d.apart).1;
            made = d.made ∙ ap (d.ws ⧺◌) (here_first d.rs a) ∙ sym (join_join d.ws us (here (rest_of d.rs) a));
            fit = fit_join table left d.ws us ∙ and_both (fit_all table left d.ws) (fit_all table left us) d.fit z.0;
            long = ap₂ (λ (u v : ℕ). u + v) d.long z.1 ∙ sym (sizes_join table d.ws us);
            many = ap₂ (λ (u v : ℕ). u + v) d.many z.2 ∙ sym (count_join d.ws us);
            stored =
                st x.one (first_of d.rs) vs a x.filling z.0
                ∙ ap₂ (λ (o : List ℕ) (j : ℕ). sets o j (terms_bytes table us [])) d.stored y
                ∙ sym
                (ap (sets out₀ at) (bytes_join table d.ws us [] ∙ encodes_append table _ [] (terms_bytes table us []))
                ∙ sets_append out₀ at (terms_bytes table d.ws []) (terms_bytes table us []));
          };
    }

-- What is told of one tree, and of one that has a symbol

module _ (table : List ℕ) (listed : ℕ → Option ℕ) (around : Option ℕ) (t bytes answer : List ℕ) (left at : ℕ) (out : List ℕ) where
  abbrev Treed : Option Filled → List ℕ → Type 0
  Treed r after =
      FillsTree table listed around t bytes answer left r × (FilledWithin (part_room * length t) r × StoresTree table listed around t bytes answer left at out after)

  treed : (r : Option Filled) (after : List ℕ) → FilledWithin (part_room * length t) r
      → (length t ≡ extent_of table t → Fitted table listed around t bytes answer left at out r after) → Treed r after
  unfolding FillsTree StoresTree
  treed r after w h = (λ o. (h o).0, (w, λ o. (h o).1.1))

  pub told_node : (x : ℕ) → decode_of (get_or t 0 0) ≡ Symbol x → (r : Option Filled) (after : List ℕ) → FillsNode table listed t bytes answer left r
      → FilledWithin (part_room * length t) r → StoresNode table listed t bytes answer left at out after → Treed r after
  unfolding FillsNode StoresNode
  told_node x e r after f w s = (f around x e, (w, s around x e))

  module _ (some : 0 < length t) where
    told_complement : decode_of (get_or t 0 0) ≡ Complement → (after : List ℕ) → Treed None after
    told_complement e after = treed None after tt (λ o. tree_complement table listed around t bytes answer left at out some o after e)

    told_refused : decode_of (get_or t 0 0) ≡ Code.Refused → (after : List ℕ) → Treed None after
    told_refused e after = treed None after tt (λ o. tree_refused table listed around t bytes answer left at out some o after e)

    pub told_other : (code : Code) → code ≡ decode_of (get_or t 0 0) → (code ≡ Complement) ⊎ (code ≡ Code.Refused) → (after : List ℕ) → Treed None after
    told_other code d (inl e) = told_complement (sym d ∙ e)
    told_other code d (inr e) = told_refused (sym d ∙ e)

    module _ (v : ℕ) (r : Option Filled) (after : List ℕ) (g : Puts table listed around bytes answer v left at out r after)
        (w : FilledWithin longest_part r) where
      within : FilledWithin (part_room * length t) r
      within = within_more r longest_part (part_room * length t) (omega arith) w

      told_name : decode_of (get_or t 0 0) ≡ Name v → Treed r after
      told_name e =
          treed r after within
          (λ o. tree_part table listed around t bytes answer left at out some o v (name_variable table listed around t bytes answer left at out some o v e) r after g w)

      told_run : decode_of (get_or t 0 0) ≡ Run v → Treed r after
      told_run e =
          treed r after within
          (λ o. tree_part table listed around t bytes answer left at out some o v (run_variable table listed around t bytes answer left at out some o v e) r after g w)

      pub told_variable : (code : Code) → code ≡ decode_of (get_or t 0 0) → (code ≡ Name v) ⊎ (code ≡ Run v) → Treed r after
      told_variable code d (inl e) = told_name (sym d ∙ e)
      told_variable code d (inr e) = told_run (sym d ∙ e)

module _ (table : List ℕ) (listed : ℕ → Option ℕ) (t bytes answer : List ℕ) (left at : ℕ) (out : List ℕ) (some : 0 < length t) where
  abbrev pub Noded : Option Filled → List ℕ → Type 0
  Noded r after =
      FillsNode table listed t bytes answer left r × (FilledWithin (part_room * length t) r × StoresNode table listed t bytes answer left at out after)

  noded : (r : Option Filled) (after : List ℕ) → FilledWithin (part_room * length t) r
      → ((around : Option ℕ) (x : ℕ) → decode_of (get_or t 0 0) ≡ Symbol x → length t ≡ extent_of table t → Fitted table listed around t bytes answer left at out r after)
      → Noded r after
  unfolding FillsNode StoresNode FillsTree StoresTree
  noded r after w h = (λ around x e o. (h around x e o).0, (w, λ around x e o. (h around x e o).1.1))

  pub put_deep : (after : List ℕ) → left ≡ 0 → Noded None after
  put_deep after z = noded None after tt (λ around x e o. tree_deep table listed around t bytes answer left at out some o x e after z)

  module _ (deep : 0 < left) (inside : List ℕ) (c : ChildrenOf table t inside) (within : Option ℕ) (iw : within ≡ listed (get_or t 0 0)) where
    pub put_inside_unfit : (after : List ℕ) → Fills table listed within inside bytes answer (left - 1) None → Noded None after
    put_inside_unfit after g =
        noded None after tt (λ around x e o. tree_inside_unfit table listed around t bytes answer left at out some o x e deep inside c within iw after g)

    module _ (own : ℕ) (ow : own ≡ own_bytes table (get_or t 0 0)) (m k : ℕ) (g : Fills table listed within inside bytes answer (left - 1) (Some (filled m k))) where
      pub put_wide : (after : List ℕ) → narrow_node (eqb own 2) k ≡ false → Noded None after
      put_wide after h =
          noded None after tt (λ around x e o. tree_wide table listed around t bytes answer left at out some o x e deep inside c within iw own ow m k g after h)

      pub put_node : (inner after : List ℕ) → narrow_node (eqb own 2) k ≡ true
          → Stores table listed within inside bytes answer (left - 1) (at + own) (set out at (get_or t 0 0)) inner
          → after ≡ stored (eqb own 2) inner (at + 1) k → FilledWithin (part_room * length inside) (Some (filled m k)) → length inside < length t → own ≤ 2
          → Noded (Some (filled (own + m) 1)) after
      put_node inner after h w q f less two =
          noded (Some (filled (own + m) 1)) after (omega (arith, f.0), omega arith)
          (λ around x e o. tree_node table listed around t bytes answer left at out some o x e deep inside c within iw own ow m k g inner after h w q f less two)

-- a part is no longer than an answer can tell
pub part_short : (bytes answer : List ℕ) (v : ℕ) → ((i : ℕ) → get_or answer i 0 ≤ longest_part) → length (part_in bytes answer v) ≤ longest_part
unfolding part_in part_bytes
part_short bytes answer v h =
    either (leb (length answer) (entry_width * v + 1)) _ _ (no_part bytes) (either (leb (offset_in answer v + length_in answer v) (length bytes)) _ _ a_part (no_part bytes))
  where
    either : (b : Bool) (x y : List ℕ) → length x ≤ longest_part → length y ≤ longest_part → length (cond b x y) ≤ longest_part
    either true x y f g = f
    either false x y f g = g

    no_part : (l : List ℕ) → length (take 0 l) ≤ longest_part
    no_part [] = omega arith
    no_part (x ∷ l) = omega arith

    a_part : length (take (length_in answer v) (drop (offset_in answer v) bytes)) ≤ longest_part
    a_part = omega (arith, length-take (length_in answer v) (drop (offset_in answer v) bytes), h (entry_width * v + 1))

pub part_is : (bytes answer : List ℕ) (v : ℕ) (r : List ℕ) → ((i : ℕ) → get_or answer i 0 ≤ longest_part) → r ≡ part_in bytes answer v
    → (r ≡ part_in bytes answer v) × (length r ≤ longest_part)
part_is bytes answer v r h e = (e, omega (arith, ap length e, part_short bytes answer v h))

none_there : (l : List ℕ) (i : ℕ) → length l ≤ i → get_or l i 0 ≡ 0
none_there [] i h = refl
none_there (x ∷ l) zero h = absurd (omega arith)
none_there (x ∷ l) (suc i) h = none_there l i (omega arith)

pub no_second : (t : List ℕ) → length t < 2 → 0 ≡ get_or t 1 0
no_second t h = sym (none_there t 1 (omega arith))

pub terms_none : (answer : List ℕ) (v w : ℕ) → w ≡ v → length answer ≤ 3 * w + 2 → (0 ≡ terms_in answer v) × (0 ≤ longest_part)
terms_none answer v w e h = (sym (none_there answer (entry_width * v + 2) (omega arith)), omega arith)

pub terms_some : (answer : List ℕ) (v w n : ℕ) → ((i : ℕ) → get_or answer i 0 ≤ longest_part) → w ≡ v → n ≡ get_or answer (3 * w + 2) 0 → (n ≡ terms_in answer v) × (n ≤ longest_part)
terms_some answer v w n h e f = (f ∙ ap (λ (i : ℕ). get_or answer (entry_width * i + 2) 0) e, omega (arith, f, h (3 * w + 2)))

-- a part from one place to another
pub part_size : (s : List ℕ) (used n : ℕ) → used + n ≤ length s → length (take (used + n - used) (drop used s)) ≡ n
part_size s used n h = omega (arith, length-take (used + n - used) (drop used s), length-drop used s)

pub filled_within : (most : ℕ) (r : Option Filled) {n k : ℕ} → (e : r ≡ Some (filled n k)) → FilledWithin most r → (n ≤ most) × (k ≤ 256 * most)
filled_within most r e w = subst (FilledWithin most) e w
