-- The theorems: what specs/Demands demands.
use Prim.Native.Nat.{ℕ, ◌≤◌, ◌<◌}
use native.Mathlib.Omega.{arith}
use mathlib.Core.Path.{◌≡◌, refl, sym, ap, ap₂, ◌∙◌}
use mathlib.Core.Logic.Iff
use mathlib.Core.Logic.{◌↔◌}
use mathlib.Core.List.{List, []}
use mathlib.Core.Bool.{Bool, true, false, cond, ◌&&◌}
use lib.ListN.{length}
use lib.Dec.{eqb, leb, ltb}
use borrow.Author.Tests.{eq-eqb, eqb-true, leb-true, leb-false, ltb-true, ltb-false}
use Rattle.answers.specs.declared.Refusal.{Refusal}
use Rattle.answers.proofs.Numbers.{numbered}
use Rattle.answers.specs.Shown.{refusal_number, size_told}
use Rattle.term.specs.Class.{class_of, ClassList, Alike}
use Rattle.term.specs.Language.{simple}
use Rattle.term.specs.Limits.{nesting, FitAll, Octets, Accepted}
use Rattle.term.specs.Same.{same_term, same_terms, same_part}
use Rattle.term.specs.Table.{table_accepted}
use Rattle.term.specs.Term.{Term, Terms, node, nil, ◌::◌, term_tree, term_trees, term_bytes}
use Rattle.term.specs.Tree.{Tree, Trees, branch, more, encode, encodes}
use Rattle.term.specs.declared.Code.TheVariants.{Symbol}
use Rattle.term.proofs.Classes.{class_none, classes_exactly, accepted_alike}
use Rattle.term.proofs.SameParts.{one_tree, and_true, same_run}
use Rattle.reader.specs.Brought.{or_empty, list_accepted}
use Rattle.splice.specs.Call.{call, shown_of}
use Rattle.splice.specs.Converting.{Conversion, kept, written, Spliceable, output_after}
use Rattle.splice.specs.Demands.{spliced_bytes, Input, Demanded, TurnedExactly}
use Rattle.splice.specs.Splicing.{splice, splice_term}
use Rattle.splice.proofs.ByClass.{Classes, class_code, classed, classed_all, UpToClass}
use Rattle.splice.proofs.Classes.{no_classes}
use Rattle.splice.proofs.Conversions.{call_table, call_class, call_converted}
use Rattle.splice.proofs.Converting.{spliced_first, spliced_accepted, converted_from, converted_exactly}
use Rattle.splice.proofs.Splicing.{splice_twice}
use Rattle.splice.proofs.Turning.{turned_exactly}
use Rattle.splice.proofs.Typed.{splice_term_holds}
use Rattle.splice.proofs.Within.{turned_accepted}
use Rattle.std.specs.Prelude.{Result, Err, Option, Some, None}

-- Records turned into each other

-- an accepted class list, or none
pub classes_of_holds : (table : List ℕ) (list : Option (List ℕ)) → list_accepted table list ≡ true → Classes table (or_empty list)
classes_of_holds table None h = no_classes table
classes_of_holds table (Some classes) h = record { low = λ s. low s (ltb s (length table)) refl; own = λ s. own s (ltb s (length table)) refl; alike = (accepted_alike table classes h).alike }
  where
    k : ClassList table classes
    k = (classes_exactly table classes).0 h

    past : (s : ℕ) → ltb s (length table) ≡ false → class_of classes s ≡ s
    past s e = class_none classes s (omega (arith, k.as_long, ltb-false s (length table) e))

    low : (s : ℕ) (b : Bool) → ltb s (length table) ≡ b → class_of classes s ≤ s
    low s true e = k.lowest s (ltb-true s (length table) e)
    low s false e = omega (arith, past s e)

    own : (s : ℕ) (b : Bool) → ltb s (length table) ≡ b → class_of classes (class_of classes s) ≡ class_of classes s
    own s true e = k.own_class s (ltb-true s (length table) e)
    own s false e = ap (class_of classes) (past s e)

-- terms are the same up to class exactly if their trees of classes are one
module _ (classes : List ℕ) where
  mutual
    unfolding classed class_code

    same_classed : (t u : Term) → same_term classes t u ≡ true → UpToClass classes (term_tree t) (term_tree u)
    same_classed (node s ts) (node r us) e =
        let h = and_true (eqb (class_of classes s) (class_of classes r)) (same_terms classes ts us) e in
        ap₂ (λ (x : ℕ) (y : Trees). branch (Symbol x) y) (eqb-true (class_of classes s) (class_of classes r) h.0) (all_same_classed ts us h.1)

    all_same_classed : (ts us : Terms) → same_terms classes ts us ≡ true → classed_all classes (term_trees ts) ≡ classed_all classes (term_trees us)
    all_same_classed nil nil e = refl
    all_same_classed nil (u :: us) e = let z : ◌≡◌ {A = ℕ} 0 1 = ap (λ (x : Bool). cond x 1 0) e in absurd (omega arith)
    all_same_classed (t :: ts) nil e = let z : ◌≡◌ {A = ℕ} 0 1 = ap (λ (x : Bool). cond x 1 0) e in absurd (omega arith)
    all_same_classed (t :: ts) (u :: us) e =
        let h = and_true (same_term classes t u) (same_terms classes ts us) e in ap₂ more (same_classed t u h.0) (all_same_classed ts us h.1)

  mutual
    unfolding classed class_code

    classed_same : (t u : Term) → UpToClass classes (term_tree t) (term_tree u) → same_term classes t u ≡ true
    classed_same (node s ts) (node r us) e =
        let c : Symbol (class_of classes s) ≡ Symbol (class_of classes r) = cc in
        let d : class_of classes s ≡ class_of classes r = cc in
        let k : classed_all classes (term_trees ts) ≡ classed_all classes (term_trees us) = cc in
        rw (eq-eqb (class_of classes s) (class_of classes r) d, all_classed_same ts us k)

    all_classed_same : (ts us : Terms) → classed_all classes (term_trees ts) ≡ classed_all classes (term_trees us) → same_terms classes ts us ≡ true
    all_classed_same nil nil e = refl
    all_classed_same nil (u :: us) e = let z : ◌≡◌ {A = ℕ} 0 1 = cc in absurd (omega arith)
    all_classed_same (t :: ts) nil e = let z : ◌≡◌ {A = ℕ} 0 1 = cc in absurd (omega arith)
    all_classed_same (t :: ts) (u :: us) e =
        let c : classed classes (term_tree t) ≡ classed classes (term_tree u) = cc in
        let k : classed_all classes (term_trees ts) ≡ classed_all classes (term_trees us) = cc in
        rw (classed_same t u c, all_classed_same ts us k)

  and_alone : (b : Bool) → (b && true) ≡ b
  and_alone true = refl
  and_alone false = refl

  -- and their bytes are, by the library's comparison
  module _ (table : List ℕ) (alike : Alike table classes) where
    part_exactly : (t u : Term) → Accepted (simple table) true (term_tree t) → Accepted (simple table) true (term_tree u)
        → UpToClass classes (term_tree t) (term_tree u) ↔ (same_part table classes false (term_bytes table t []) (term_bytes table u []) ≡ true)
    unfolding FitAll encodes
    part_exactly t u h g =
        let e : same_part table classes false (term_bytes table t []) (term_bytes table u []) ≡ same_term classes t u =
        same_run table classes alike (t :: nil) (u :: nil) nesting nesting false false (h.fits, tt) (g.fits, tt) ∙ and_alone (same_term classes t u) in
        (λ d. e ∙ classed_same t u d, λ d. same_classed t u (sym e ∙ d))

-- the theorem
module _ (table : List ℕ) (list : Option (List ℕ)) (accepted : list_accepted table list ≡ true) where
  abbrev classes : List ℕ
  classes = or_empty list

  spliced_part : (t u : Term) → Spliceable (or_empty list) table true (term_tree t) → Spliceable (or_empty list) table true (term_tree u)
      → UpToClass (or_empty list) (splice (or_empty list) table (term_tree t)) (splice (or_empty list) table (term_tree u))
      ↔ (same_part table (or_empty list) false (spliced_bytes (or_empty list) table (term_tree t)) (spliced_bytes (or_empty list) table (term_tree u)) ≡ true)
  spliced_part t u h g =
      let k = classes_of_holds table list accepted in
      let a = splice_term_holds classes table t in
      let b = splice_term_holds classes table u in
      rw (← a, ← b)
      (part_exactly classes table (record { alike = k.alike }) (splice_term classes table t) (splice_term classes table u)
      (rw a (spliced_first classes table true (term_tree t) h.accepted h.narrow_lists))
      (rw b (spliced_first classes table true (term_tree u) g.accepted g.narrow_lists)))

  pub turned_bytes : (t u : Term) → Spliceable (or_empty list) table true (term_tree t) → Spliceable (or_empty list) table true (term_tree u) → TurnedExactly (or_empty list) table t u
  turned_bytes t u h g =
      let k = classes_of_holds table list accepted in
      let b = spliced_part t u h g in
      record {
        through_any = Iff.trans (turned_exactly classes table k (term_tree t) (term_tree u)) b;
        through_accepted = Iff.trans (turned_accepted classes table k true (term_tree t) (term_tree u) h g) b;
      }

-- The converter

module _ (records : Bool) (table : List ℕ) (list : Option (List ℕ)) where
  -- what can be spliced is written where there is room
  call_writes : (s : List ℕ) (t : Tree) → Input records table list s t → (room : ℕ) → length (spliced_bytes (or_empty list) table t) ≤ room
      → call records table list room s ≡ written (spliced_bytes (or_empty list) table t)
  call_writes s t i room l =
      call_converted records table list s room i.table_accepted_holds i.list_accepted_holds
      ∙ converted_from records (or_empty list) table room s (spliced_bytes (or_empty list) table t) t (record { from = i.bytes; can = i.can; to = refl }) l

  -- and only that
  written_of : (s : List ℕ) → Octets s → (room : ℕ) (bs : List ℕ) → call records table list room s ≡ written bs
      → (t : Tree) × (Input records table list s t × (bs ≡ spliced_bytes (or_empty list) table t) × (length bs ≤ room))
  written_of s octets room bs e = by (table_accepted table) refl (list_accepted table list) refl
    where
      by : (a : Bool) → table_accepted table ≡ a → (l : Bool) → list_accepted table list ≡ l
          → (t : Tree) × (Input records table list s t × (bs ≡ spliced_bytes (or_empty list) table t) × (length bs ≤ room))
      by false a l b = let f = sym (call_table records table list s room a) ∙ e in let z : ◌≡◌ {A = ℕ} 0 1 = cc in absurd (omega arith)
      by true a false b = let f = sym (call_class records table list s room a b) ∙ e in let z : ◌≡◌ {A = ℕ} 0 1 = cc in absurd (omega arith)
      by true a true b =
          let r = (converted_exactly records (or_empty list) table room s octets bs).0 (sym (call_converted records table list s room a b) ∙ e) in
          (r.0.0, (record { table_accepted_holds = a; list_accepted_holds = b; bytes = r.0.1.from; can = r.0.1.can }, r.0.1.to, r.1))

  one_input : (s : List ℕ) (t u : Tree) → Input records table list s t → Input records table list s u → t ≡ u
  one_input s t u h g = (one_tree table records t u nesting nesting false false [] [] h.can.accepted.fits g.can.accepted.fits (h.bytes ∙ sym g.bytes)).0

  -- what was spliced can be spliced
  input_again : (s : List ℕ) (t : Tree) → Input records table list s t → Input records table list (spliced_bytes (or_empty list) table t) (splice (or_empty list) table t)
  input_again s t i =
      let d = splice_twice (or_empty list) table t in
      record {
        table_accepted_holds = i.table_accepted_holds;
        list_accepted_holds = i.list_accepted_holds;
        bytes = refl;
        can = record { accepted = spliced_first (or_empty list) table records t i.can.accepted i.can.narrow_lists; narrow_lists = rw d i.can.narrow_lists };
      }

  writes_again : (s : List ℕ) (t : Tree) → Input records table list s t → (room : ℕ) → length (spliced_bytes (or_empty list) table t) ≤ room
      → call records table list room (spliced_bytes (or_empty list) table t) ≡ written (spliced_bytes (or_empty list) table t)
  writes_again s t i room l =
      let d = splice_twice (or_empty list) table t in
      let e : spliced_bytes (or_empty list) table (splice (or_empty list) table t) ≡ spliced_bytes (or_empty list) table t = ap (λ (u : Tree). encode table u []) d in
      call_writes (spliced_bytes (or_empty list) table t) (splice (or_empty list) table t) (input_again s t i) room (rw e l) ∙ ap written e

  module _ (s before : List ℕ) (octets : Octets s) where
    shorter : (t : Tree) → Input records table list s t → (r : Refusal) → call records table list (length before) s ≡ kept r
        → length before < length (spliced_bytes (or_empty list) table t)
    shorter t i r e = by (leb (length (spliced_bytes (or_empty list) table t)) (length before)) refl
      where
        by : (b : Bool) → leb (length (spliced_bytes (or_empty list) table t)) (length before) ≡ b → length before < length (spliced_bytes (or_empty list) table t)
        by true l =
            let f = sym (call_writes s t i (length before) (leb-true (length (spliced_bytes (or_empty list) table t)) (length before) l)) ∙ e in
            let z : ◌≡◌ {A = ℕ} 0 1 = cc in
            absurd (omega arith)
        by false l = leb-false (length (spliced_bytes (or_empty list) table t)) (length before) l

    demanded_by : (c : Conversion) → call records table list (length before) s ≡ c
        → Demanded records table list s before (refusal_number (shown_of c)) (size_told (shown_of c)) (output_after before c)
    demanded_by (kept r) e = record {
      one_tree = one_input s;
      refused_exactly = (λ h t i. shorter t i r e, λ h. numbered r);
      untouched = λ h. (refl, refl);
      writes = λ t i l. let h = shorter t i r e in absurd (omega arith);
      accepted = λ t i. spliced_accepted (or_empty list) table records t i.can.accepted i.can.narrow_lists;
      twice = writes_again s;
    }
    demanded_by (written bs) e = record {
      one_tree = one_input s;
      refused_exactly = (
        λ h. absurd (omega arith),
        λ h. let w = written_of s octets (length before) bs e in absurd (omega (arith, h w.0 w.1.0, ap length w.1.1, w.1.2)),
      );
      untouched = λ h. absurd (omega arith);
      writes = λ t i l.
          let f = sym e ∙ call_writes s t i (length before) l in
          let z : bs ≡ spliced_bytes (or_empty list) table t = cc in
          record { written = refl; whole = ap length z; output = rw z refl };
      accepted = λ t i. spliced_accepted (or_empty list) table records t i.can.accepted i.can.narrow_lists;
      twice = writes_again s;
    }

    -- the whole contract
    abbrev Done : Result ℕ Refusal → List ℕ → Type 0
    Done r after =
        (r ≡ shown_of (call records table list (length before) s)) × ((after ≡ output_after before (call records table list (length before) s))
        × Demanded records table list s before (refusal_number r) (size_told r) after)

    pub is_done : (r : Result ℕ Refusal) (after : List ℕ) → r ≡ shown_of (call records table list (length before) s)
        → after ≡ output_after before (call records table list (length before) s) → Done r after
    is_done r after a b = (a, (b, rw (a, b) (demanded_by (call records table list (length before) s) refl)))

    pub is_refused : (r : Refusal) → call records table list (length before) s ≡ kept r → Done (Err r) before
    is_refused r e = (rw e refl, (rw e refl, demanded_by (kept r) e))
