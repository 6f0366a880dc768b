-- Parts of the record: what they show, how a variable takes one, and when an assigned one stands at a place.
use Prim.Native.Nat.{ℕ, ◌+◌, ◌%◌, ◌<◌, ◌≤◌}
use native.Mathlib.Omega.{arith}
use mathlib.Core.Path.{◌≡◌, refl, sym, ◌∙◌, ap, ap₂, subst}
use mathlib.Core.List.{List, []}
use mathlib.Core.Bool.{Bool, true, false, cond, ◌&&◌, not-eq-not}
use lib.ListN.{length, get_or, take, set, replicate, length-set, length-replicate, get_or-replicate}
use lib.Seq.{get_or-set_same, get_or-set_other}
use lib.Dec.{eqb, leb}
use borrow.Author.Tests.{eqb-true, eqb-false, leb-true, le-leb, ne_eqb}
use Rattle.answers.specs.Part.{part, absent, is_absent, bound_part}
use Rattle.answers.specs.declared.Part.{Part}
use Rattle.term.specs.Code.{variables}
use Rattle.term.specs.Term.{Terms, ◌⧺◌, count, sizes, term_trees, terms_bytes}
use Rattle.term.specs.Class.{Alike}
use Rattle.term.specs.Same.{same_part}
use Rattle.term.specs.Limits.{FitAll, longest_record}
use Rattle.term.specs.Part.{part_bytes}
use Rattle.term.proofs.Sizes.{terms_length, take_terms}
use Rattle.term.proofs.SameParts.{same_counts, same_sizes, same_part_holds, part_same, and_true}
use Rattle.anti_pattern.specs.Search.{Env, bind, start, behind}
use Rattle.anti_pattern.specs.Place.{assigned_part}
use Rattle.anti_pattern.proofs.Facts.{count_join, cut, none_some, some_same, behind_alike, alike_behind}
use Rattle.steps.specs.Turn.{stands_of}
use Rattle.term.proofs.Joins.{bytes_join, fit_split}
use Rattle.link.proofs.Represents.{Stands, Shown}
use Rattle.link.proofs.Places.{within_terms}
use Rattle.std.specs.Prelude.{Some, None}

module _ (table bytes : List ℕ) where
  part_bytes_holds : (at : ℕ) (w : Terms) → Stands table bytes at w → part_bytes bytes (part at (sizes table w) (count w)) ≡ terms_bytes table w []
  unfolding part_bytes
  part_bytes_holds at w s =
      rw (le-leb (at + sizes table w) (length bytes) (within_terms table bytes at w s.after s.within s.stands), s.stands)
      (take_terms table w s.after)

  -- an assigned run, and the elements ts that come next
  module _ (classes : List ℕ) (k : Alike table classes) (at : ℕ) (w ts : Terms) (after : List ℕ) (s : Stands table bytes at w) (left : ℕ) (in_list : Bool)
      (f : FitAll table true (term_trees ts) left in_list) where
    fit_front : (x us : Terms) → ts ≡ x ⧺ us → FitAll table true (term_trees x) left in_list
    fit_front x us z = (fit_split table true x us left in_list (subst (λ (u : Terms). FitAll table true (term_trees u) left in_list) z f)).0

    front_bytes : (x us : Terms) → ts ≡ x ⧺ us → terms_bytes table ts after ≡ terms_bytes table x (terms_bytes table us after)
    front_bytes x us z = ap (λ (u : Terms). terms_bytes table u after) z ∙ bytes_join table x us after

    pub assigned_stands : (us : Terms) → behind classes w ts ≡ Some us
        → (leb (count w) (count ts) && stands_of table classes bytes (part at (sizes table w) (count w)) (terms_bytes table ts after)) ≡ true
    unfolding stands_of
    assigned_stands us b =
        let a = behind_alike classes w ts us b in
        let x = a.0 in
        let n = same_counts classes w x a.2 in
        let m = same_sizes table classes k w x a.2 in
        rw (
          le-leb (count w) (count ts) (omega (arith, ap count a.1, count_join x us)),
          front_bytes x us a.1,
          le-leb (sizes table w) (length (terms_bytes table x (terms_bytes table us after)))
              (omega (arith, terms_length table x (terms_bytes table us after))),
          part_bytes_holds at w s,
        ) (same_part_holds table classes k w x s.limited.left left s.limited.in_list in_list s.limited.fit (fit_front x us a.1)
        (terms_bytes table us after) a.2)

    pub assigned_differs : behind classes w ts ≡ None
        → (leb (count w) (count ts) && stands_of table classes bytes (part at (sizes table w) (count w)) (terms_bytes table ts after)) ≡ false
    unfolding stands_of
    assigned_differs b = (not-eq-not {b = false}).0 (λ e. none_some (sym b ∙ (stood e).1))
      where
        stood : (leb (count w) (count ts) && (leb (sizes table w) (length (terms_bytes table ts after))
            && same_part table classes false (part_bytes bytes (part at (sizes table w) (count w))) (take (sizes table w) (terms_bytes table ts after)))) ≡ true
            → (us : Terms) × (behind classes w ts ≡ Some us)
        stood e =
            let a = and_true (leb (count w) (count ts)) _ e in
            let d = and_true (leb (sizes table w) (length (terms_bytes table ts after))) _ a.1 in
            let c = cut w ts (leb-true (count w) (count ts) a.0) in
            let x : same_part table classes false (terms_bytes table w []) (take (sizes table w) (terms_bytes table c.0 (terms_bytes table c.1 after))) ≡ true =
            rw (sym (part_bytes_holds at w s), sym (front_bytes c.0 c.1 c.2)) d.1 in
            let y = part_same table classes k w c.0 s.limited.left left s.limited.in_list in_list s.limited.fit (fit_front c.0 c.1 c.2)
            (terms_bytes table c.1 after) c.3 x in
            (c.1, ap (behind classes w) c.2 ∙ alike_behind classes w c.0 c.1 y)

  module _ (short : length bytes ≤ longest_record) where
    pub assigned_present : (at : ℕ) (w : Terms) → Stands table bytes at w → is_absent (part at (sizes table w) (count w)) ≡ false
    assigned_present at w s = ne_eqb at 65535 (λ e. omega (arith, s.within))

    bound_is : (at : ℕ) (w : Terms) → Stands table bytes at w → bound_part at (sizes table w) (count w) ≡ part at (sizes table w) (count w)
    bound_is at w s =
        let h = within_terms table bytes at w s.after s.within s.stands in
        let i : at % 65536 ≡ at = omega arith in
        let j : sizes table w % 65536 ≡ sizes table w = omega arith in
        ap₂ (λ (x y : ℕ). part x y (count w)) i j

    -- a variable takes what stands there
    pub shown_bind : (ps : List Part) (e : Env) (v at : ℕ) (w : Terms) → v < variables → (v < 32 → count w ≡ 1) → Shown table bytes ps e → Stands table bytes at w
        → Shown table bytes (set ps v (bound_part at (sizes table w) (count w))) (bind e v at w)
    shown_bind ps e v at w low n h s = record {
      room = length-set ps v _ ∙ h.room;
      shown = λ i k. is i k (eqb v i) refl;
      stands = λ i x. stands i x (eqb v i);
      one = λ i x k. one i x k (eqb v i) refl;
    }
      where
        is : (i : ℕ) → i < variables → (m : Bool) → eqb v i ≡ m
            → get_or (set ps v (bound_part at (sizes table w) (count w))) i (part 0 0 0) ≡ assigned_part table (cond m (Some w) (e.value i))
            (cond m at (e.offset i))
        is i k true z =
            ap (λ (j : ℕ). get_or (set ps v (bound_part at (sizes table w) (count w))) j (part 0 0 0)) (sym (eqb-true v i z))
            ∙ get_or-set_same ps v _ (part 0 0 0) (omega (arith, h.room)) ∙ bound_is at w s
        is i k false z = get_or-set_other ps v i _ (part 0 0 0) (λ y. eqb-false v i z (sym y)) ∙ h.shown i k

        stands : (i : ℕ) (x : Terms) (m : Bool) → cond m (Some w) (e.value i) ≡ Some x → Stands table bytes (cond m at (e.offset i)) x
        stands i x true z = subst (Stands table bytes at) (some_same z) s
        stands i x false z = h.stands i x z

        one : (i : ℕ) (x : Terms) → i < 32 → (m : Bool) → eqb v i ≡ m → cond m (Some w) (e.value i) ≡ Some x → count x ≡ 1
        one i x k true y z = ap count (sym (some_same z)) ∙ n (omega (arith, eqb-true v i y))
        one i x k false y z = h.one i x k z

  pub shown_start : Shown table bytes (replicate variables absent) start
  shown_start = record {
    room = length-replicate variables absent;
    shown = λ v h. get_or-replicate variables v absent (part 0 0 0) h;
    stands = λ v w z. absurd (none_some z);
    one = λ v w h z. absurd (none_some z);
  }
