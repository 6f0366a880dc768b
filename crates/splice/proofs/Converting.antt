-- What is spliced keeps the limits of what it was spliced from, if no list has too many elements.
use Prim.Native.Nat.{ℕ, suc, ◌+◌, ◌≤◌}
use native.Mathlib.Omega.{arith}
use native.Mathlib.Nat.{le_refl}
use mathlib.Core.Path.{◌≡◌, refl, sym, ap, ◌∙◌}
use mathlib.Core.Logic.{◌↔◌}
use mathlib.Core.List.{List, []}
use mathlib.Core.Bool.{Bool, true, false, cond, false≢true}
use lib.ListN.{length, get_or}
use lib.Dec.{leb}
use borrow.Author.Tests.{leb-true, leb-false, le-leb, eq-eqb}
use Rattle.term.specs.Table.{is_list}
use Rattle.term.specs.Tree.{Tree, Trees, branch, empty, more, number, list_code, encode, encodes}
use Rattle.term.specs.Language.{simple, language}
use Rattle.term.specs.Limits.{Counted, Shape, below_of, Fits, FitAll, longest, Octets, Accepted}
use Rattle.reader.specs.Reading.{Parsed, refused, read, read_whole, unless_spare}
use Rattle.answers.specs.declared.Refusal.TheVariants.{Long, Full}
use Rattle.reader.proofs.Answers.{Got}
use Rattle.term.specs.declared.Code.{Code}
use Rattle.term.specs.declared.Code.TheVariants.{Symbol, Name, Run, Complement}
use Rattle.reader.proofs.Inverse.{complete, whole_read, ReadWhole}
use Rattle.term.proofs.SameParts.{and_true}
use Rattle.term.proofs.Splicing.{one_spliced}
use Rattle.term.proofs.Sizes.{branch_length, more_length, encodes_length}
use Rattle.term.specs.declared.Edition.TheVariants.{Two}
use Rattle.splice.specs.Splicing.{in_list, class_in, ◌⊕◌, list_class, same_list, placed, splice, splice_all}
use Rattle.splice.specs.Converting.{narrow, all_narrow, kept, written, unless_full, splicing, converted, Spliceable}
use Rattle.splice.proofs.Splicing.{in_list_holds, directly_true, splice_spliced, spliced_two, splice_twice}
use Rattle.std.specs.Prelude.{Some, None, Option}

-- the bytes bs are those of t spliced, where s are those of t
pub record SplicedFrom (classes table : List ℕ) (records : Bool) (s bs : List ℕ) (t : Tree) : Type 0 where
  pub from : encode table t [] ≡ s
  pub can : Spliceable classes table records t
  pub to : bs ≡ encode table (splice classes table t) []

-- Sequences joined: number, bytes, limits

pub number_join : (us ts : Trees) → number (us ⊕ ts) ≡ number us + number ts
unfolding ◌⊕◌ number
number_join empty ts = omega arith
number_join (more u us) ts = let i = number_join us ts in omega arith

module _ (table : List ℕ) where
  pub encodes_join : (us ts : Trees) (bs : List ℕ) → encodes table (us ⊕ ts) bs ≡ encodes table us (encodes table ts bs)
  unfolding ◌⊕◌ encode
  encodes_join empty ts bs = refl
  encodes_join (more u us) ts bs = ap (encode table u) (encodes_join us ts bs)

  pub length_join : (us ts : Trees) → length (encodes table (us ⊕ ts) []) ≡ length (encodes table us []) + length (encodes table ts [])
  length_join us ts = ap length (encodes_join us ts []) ∙ encodes_length table us (encodes table ts [])

  pub fit_join : (records : Bool) (us ts : Trees) (left : ℕ) (l : Bool) → FitAll table records us left l → FitAll table records ts left l
      → FitAll table records (us ⊕ ts) left l
  unfolding ◌⊕◌ Fits
  fit_join records empty ts left l h g = g
  fit_join records (more u us) ts left l h g = (h.0, fit_join records us ts left l h.1 g)

  pub fit_split : (records : Bool) (us ts : Trees) (left : ℕ) (l : Bool) → FitAll table records (us ⊕ ts) left l
      → FitAll table records us left l × FitAll table records ts left l
  unfolding ◌⊕◌ Fits
  fit_split records empty ts left l h = (tt, h)
  fit_split records (more u us) ts left l h = let r = fit_split records us ts left l h.1 in ((h.0, r.0), r.1)

  narrow_split : (us ts : Trees) → all_narrow table (us ⊕ ts) ≡ true → (all_narrow table us ≡ true) × (all_narrow table ts ≡ true)
  unfolding ◌⊕◌ narrow
  narrow_split empty ts h = (refl, h)
  narrow_split (more u us) ts h =
      let a = and_true (narrow table u) (all_narrow table (us ⊕ ts)) h in
      let b = narrow_split us ts a.1 in
      (rw a.0 b.0, b.1)

  -- more nesting left does no harm
  below_more : (c : Code) (left high : ℕ) → left ≤ high → below_of c left ≤ below_of c high
  below_more (Symbol b) left high h = omega arith
  below_more (Name v) left high h = omega arith
  below_more (Run v) left high h = omega arith
  below_more Complement left high h = h
  below_more Code.Refused left high h = omega arith

  pub below_less : (c : Code) (left : ℕ) → below_of c left ≤ left
  below_less (Symbol b) left = omega arith
  below_less (Name v) left = omega arith
  below_less (Run v) left = omega arith
  below_less Complement left = le_refl left
  below_less Code.Refused left = omega arith

  mutual
    unfolding Fits

    pub fits_more : (records : Bool) (t : Tree) (left high : ℕ) (l : Bool) → left ≤ high → Fits table records t left l → Fits table records t high l
    fits_more records (branch c ts) left high l h f =
        (omega (arith, f.0), f.1, f.2, fit_all_more records ts (below_of c left) (below_of c high) (list_code table c) (below_more c left high h) f.3)

    pub fit_all_more : (records : Bool) (ts : Trees) (left high : ℕ) (l : Bool) → left ≤ high → FitAll table records ts left l → FitAll table records ts high l
    fit_all_more records empty left high l h f = tt
    fit_all_more records (more t ts) left high l h f = (fits_more records t left high l h f.0, fit_all_more records ts left high l h f.1)

-- One tree in its place

module _ (classes table : List ℕ) where
  -- where a list stands directly in a list, both are lists
  pub directly_list : (a : Option ℕ) (d : Code) → same_list a (list_class classes table d) ≡ true → (list_code table d ≡ true) × (in_list a ≡ true)
  directly_list a d e =
      let h = directly_true a (list_class classes table d) e in
      (sym (in_list_holds classes table d) ∙ ap in_list h.2, ap in_list h.1)

  pub placed_none : (t : Tree) (ts : Trees) → placed classes table None t ts ≡ more t ts
  placed_none (branch c us) ts = refl

  -- what is no list keeps its number of children
  pub none_number : (ts : Trees) → number (splice_all classes table None ts) ≡ number ts
  unfolding splice number
  none_number empty = refl
  none_number (more t ts) = ap number (placed_none (splice classes table t) (splice_all classes table None ts)) ∙ ap suc (none_number ts)

  placed_fits : (records : Bool) (a : Option ℕ) (t : Tree) (ts : Trees) (left : ℕ) → Fits table records t left (in_list a) → FitAll table records ts left (in_list a)
      → FitAll table records (placed classes table a t ts) left (in_list a)
  unfolding Fits
  placed_fits records a (branch d us) ts left f g = go (same_list a (list_class classes table d)) refl
    where
      go : (b : Bool) → same_list a (list_class classes table d) ≡ b → FitAll table records (cond b (us ⊕ ts) (more (branch d us) ts)) left (in_list a)
      go true e =
          let h = directly_list a d e in
          fit_join table records us ts left (in_list a)
          (fit_all_more table records us (below_of d left) left (in_list a) (below_less table d left) (rw (h.0 ∙ sym h.1) at f.3)) g
      go false e = (f, g)

  pub narrow_placed : (a : Option ℕ) (t : Tree) (ts : Trees) → all_narrow table (placed classes table a t ts) ≡ true
      → (in_list a ≡ true → number (placed classes table a t ts) ≤ 255)
      → (narrow table t ≡ true) × (all_narrow table ts ≡ true) × (in_list a ≡ true → number ts ≤ 255)
  unfolding narrow number
  narrow_placed a (branch d us) ts n m = go (same_list a (list_class classes table d)) refl n m
    where
      go : (b : Bool) → same_list a (list_class classes table d) ≡ b → all_narrow table (cond b (us ⊕ ts) (more (branch d us) ts)) ≡ true
          → (in_list a ≡ true → number (cond b (us ⊕ ts) (more (branch d us) ts)) ≤ 255)
          → (narrow table (branch d us) ≡ true) × (all_narrow table ts ≡ true) × (in_list a ≡ true → number ts ≤ 255)
      go true e n m =
          let h = directly_list a d e in
          let r = narrow_split table us ts n in
          let k : number (us ⊕ ts) ≤ 255 = m h.1 in
          let i = number_join us ts in
          (rw (h.0, le-leb (number us) 255 (omega arith), r.0), r.1, λ x. omega arith)
      go false e n m = let r = and_true (narrow table (branch d us)) (all_narrow table ts) n in (r.0, r.1, λ x. let k = m x in omega arith)

  shape_spliced : (l : Bool) (c : Code) (ts : Trees) → Shape table l c (number ts)
      → cond (list_code table c) (leb (number (splice_all classes table (list_class classes table c) ts)) 255) true ≡ true
      → Shape table l c (number (splice_all classes table (list_class classes table c) ts))
  unfolding Shape list_class list_code
  shape_spliced l (Symbol s) ts f n = (f.0, go (is_list table s) f.1 n)
    where
      go : (b : Bool) → Counted b (number ts) (get_or table s 0)
          → cond b (leb (number (splice_all classes table (class_in classes (cond b (Some s) None)) ts)) 255) true ≡ true
          → Counted b (number (splice_all classes table (class_in classes (cond b (Some s) None)) ts)) (get_or table s 0)
      go true f n = leb-true (number (splice_all classes table (Some (get_or classes s s)) ts)) 255 n
      go false f n = none_number ts ∙ f
  shape_spliced l (Name v) ts f n = none_number ts ∙ f
  shape_spliced l (Run v) ts f n = (none_number ts ∙ f.0, f.1)
  shape_spliced l Complement ts f n = none_number ts ∙ f
  shape_spliced l Code.Refused ts f n = f

  -- what is spliced is within the limits
  mutual
    unfolding Fits splice narrow

    pub splice_fits : (records : Bool) (t : Tree) (left : ℕ) (l : Bool) → Fits table records t left l → narrow table (splice classes table t) ≡ true
        → Fits table records (splice classes table t) left l
    splice_fits records (branch c ts) left l f n =
        let ss : Trees = splice_all classes table (list_class classes table c) ts in
        let r = and_true (cond (list_code table c) (leb (number ss) 255) true) (all_narrow table ss) n in (
          f.0,
          f.1,
          shape_spliced l c ts f.2 r.0,
          rw (in_list_holds classes table c) at
              (splice_all_fits records (list_class classes table c) ts (below_of c left) (rw (in_list_holds classes table c) f.3) r.1
              (λ i. leb-true (number ss) 255 (rw (sym (in_list_holds classes table c) ∙ i) at r.0))),
        )

    splice_all_fits : (records : Bool) (a : Option ℕ) (ts : Trees) (left : ℕ) → FitAll table records ts left (in_list a)
        → all_narrow table (splice_all classes table a ts) ≡ true → (in_list a ≡ true → number (splice_all classes table a ts) ≤ 255)
        → FitAll table records (splice_all classes table a ts) left (in_list a)
    splice_all_fits records a empty left f n m = tt
    splice_all_fits records a (more t ts) left f n m =
        let r = narrow_placed a (splice classes table t) (splice_all classes table a ts) n m in
        placed_fits records a (splice classes table t) (splice_all classes table a ts) left
        (splice_fits records t left (in_list a) f.0 r.0) (splice_all_fits records a ts left f.1 r.1 r.2)

-- Its bytes are no more

module _ (classes table : List ℕ) where
  placed_length : (a : Option ℕ) (t : Tree) (ts : Trees)
      → length (encodes table (placed classes table a t ts) []) ≤ length (encode table t []) + length (encodes table ts [])
  placed_length a (branch d us) ts = go (same_list a (list_class classes table d))
    where
      go : (b : Bool)
          → length (encodes table (cond b (us ⊕ ts) (more (branch d us) ts)) []) ≤ length (encode table (branch d us) []) + length (encodes table ts [])
      go true = omega (arith, length_join table us ts, branch_length table d us)
      go false = omega (arith, more_length table (branch d us) ts)

  mutual
    unfolding splice

    pub splice_length : (t : Tree) → length (encode table (splice classes table t) []) ≤ length (encode table t [])
    splice_length (branch c ts) =
        omega (
          arith,
          branch_length table c ts,
          branch_length table c (splice_all classes table (list_class classes table c) ts),
          splice_all_length (list_class classes table c) ts,
        )

    splice_all_length : (a : Option ℕ) (ts : Trees) → length (encodes table (splice_all classes table a ts) []) ≤ length (encodes table ts [])
    splice_all_length a empty = omega arith
    splice_all_length a (more t ts) =
        omega (
          arith,
          placed_length a (splice classes table t) (splice_all classes table a ts),
          splice_length t,
          splice_all_length a ts,
          more_length table t ts,
        )

  -- What is spliced is accepted in edition 2, if its lists are narrow
  pub spliced_accepted : (records : Bool) (t : Tree) → Accepted (simple table) records t → narrow table (splice classes table t) ≡ true
      → Accepted (language Two table classes) records (splice classes table t)
  spliced_accepted records t h n = record {
    short = omega (arith, splice_length t, h.short);
    fits = splice_fits classes table records t 32 false h.fits n;
    spliced = spliced_two classes table (splice classes table t) (splice_spliced classes table t);
  }

  -- and in edition 1
  pub spliced_first : (records : Bool) (t : Tree) → Accepted (simple table) records t → narrow table (splice classes table t) ≡ true
      → Accepted (simple table) records (splice classes table t)
  spliced_first records t h n =
      let a = spliced_accepted records t h n in record { short = a.short; fits = a.fits; spliced = one_spliced table [] None (splice classes table t) }

-- an accepted tree's bytes are read as the tree
pub accepted_read : (table : List ℕ) (records : Bool) (t : Tree) → Accepted (simple table) records t
    → read_whole records (simple table) (encode table t []) ≡ read t (length (encode table t []))
unfolding read_whole unless_spare
accepted_read table records t h =
    rw (
      le-leb (length (encode table t [])) (longest records) h.short,
      complete (simple table) records t 32 None [] h.fits h.spliced,
      eq-eqb (length (encode table t [])) (length (encode table t [])) refl,
    )

-- The converter writes exactly what is spliced and has room

module _ (records : Bool) (classes table : List ℕ) (room : ℕ) where
  written_full : (bs cs : List ℕ) → (unless_full room cs ≡ written bs) ↔ ((bs ≡ cs) × (length bs ≤ room))
  written_full bs cs = go (leb (length cs) room) refl
    where
      go : (b : Bool) → leb (length cs) room ≡ b → (cond b (written cs) (kept Full) ≡ written bs) ↔ ((bs ≡ cs) × (length bs ≤ room))
      go true e = (λ w. let i : bs ≡ cs = cc in (i, rw i (leb-true (length cs) room e)), λ h. ap written (sym h.0))
      go false e = (
        λ w. let z : ◌≡◌ {A = ℕ} 0 1 = cc in absurd (omega arith),
        λ h. let k : length cs ≤ room = rw h.0 at h.1 in absurd (omega (arith, leb-false (length cs) room e)),
      )

  written_narrow : (bs : List ℕ) (t : Tree) (n : ℕ)
      → (splicing classes table room (read t n) ≡ written bs)
      ↔ ((narrow table (splice classes table t) ≡ true) × (bs ≡ encode table (splice classes table t) []) × (length bs ≤ room))
  unfolding splicing
  written_narrow bs t n = go (narrow table (splice classes table t)) refl
    where
      go : (b : Bool) → narrow table (splice classes table t) ≡ b
          → (cond b (unless_full room (encode table (splice classes table t) [])) (kept Long) ≡ written bs)
          ↔ ((b ≡ true) × (bs ≡ encode table (splice classes table t) []) × (length bs ≤ room))
      go true e = let i = written_full bs (encode table (splice classes table t) []) in (λ w. (refl, (i.0 w).0, (i.0 w).1), λ h. i.1 (h.1, h.2))
      go false e = (
        λ w. let z : ◌≡◌ {A = ℕ} 0 1 = cc in absurd (omega arith),
        λ h. absurd (false≢true h.0),
      )

  pub converted_from : (s bs : List ℕ) (t : Tree) → SplicedFrom classes table records s bs t → length bs ≤ room → converted records classes table room s ≡ written bs
  unfolding converted
  converted_from s bs t h l =
      let e : read_whole records (simple table) s ≡ read t (length (encode table t [])) =
      ap (read_whole records (simple table)) (sym h.from) ∙ accepted_read table records t h.can.accepted in
      ap (splicing classes table room) e ∙ (written_narrow bs t (length (encode table t []))).1 (h.can.narrow_lists, h.to, l)

  module _ (s : List ℕ) (octets : Octets s) (bs : List ℕ) where
    pub converted_exactly : (converted records classes table room s ≡ written bs) ↔ (((t : Tree) × SplicedFrom classes table records s bs t) × (length bs ≤ room))
    unfolding converted splicing ReadWhole
    converted_exactly = (λ e. go (read_whole records (simple table) s) (whole_read (simple table) records s) e, λ h. converted_from s bs h.0.0 h.0.1 h.1)
      where
        go : (a : Parsed Tree) → Got (ReadWhole (simple table) records s) a → splicing classes table room a ≡ written bs
            → ((t : Tree) × SplicedFrom classes table records s bs t) × (length bs ≤ room)
        go (refused r) g e = let z : ◌≡◌ {A = ℕ} 0 1 = cc in absurd (omega arith)
        go (read t n) g e =
            let r = (written_narrow bs t n).0 e in
            ((t, record { from = g.0; can = record { accepted = g.2 octets; narrow_lists = r.0 }; to = r.1 }), r.2)

    -- what is written is accepted in edition 2
    pub converted_accepted : converted records classes table room s ≡ written bs
        → (u : Tree) × (encode table u [] ≡ bs) × Accepted (language Two table classes) records u
    converted_accepted e =
        let r = converted_exactly.0 e in
        let t : Tree = r.0.0 in
        let h : SplicedFrom classes table records s bs t = r.0.1 in
        (splice classes table t, sym h.to, spliced_accepted classes table records t h.can.accepted h.can.narrow_lists)

    -- "Splicing twice changes nothing more": what is written is converted to itself
    pub converted_again : converted records classes table room s ≡ written bs → converted records classes table room bs ≡ written bs
    converted_again e =
        let r = converted_exactly.0 e in
        let t : Tree = r.0.0 in
        let h : SplicedFrom classes table records s bs t = r.0.1 in
        let i : splice classes table (splice classes table t) ≡ splice classes table t = splice_twice classes table t in
        converted_from bs bs (splice classes table t)
        (record {
          from = sym h.to;
          can = record { accepted = spliced_first classes table records t h.can.accepted h.can.narrow_lists; narrow_lists = rw i h.can.narrow_lists };
          to = rw i h.to;
        })
        r.1
