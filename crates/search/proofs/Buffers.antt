-- The laws of the buffers: what holds of the entries in use holds where they are the same, and with one more on top.
-- Assumes nothing.
use Prim.Native.Nat.{ℕ, suc, ◌+◌, ◌-◌, ◌<◌, ◌≤◌}
use native.Mathlib.Omega.{arith}
use mathlib.Core.List.{List, [], ◌∷◌, ◌++◌}
use mathlib.Core.Path.{◌≡◌, sym, ap, ◌∙◌, subst}
use lib.Dec.{eqb}
use lib.ListN.{length, get_or, set, length-set}
use lib.Seq.{get_or-set_same, get_or-set_other}
use borrow.Author.Tests.{eq-eqb, ne_eqb}
use Rattle.search.specs.Inner.Memory.{frame_in, outer, Linked, put_by_in, Queued, Inside, Insides, Sized}
use Rattle.search.specs.State.{PutBy, alone}
use Rattle.search.specs.declared.place.Remaining.{Remaining}
use Rattle.search.specs.declared.marks.Marks.{Marks}

-- the same below n
abbrev pub Below : ℕ → List ℕ → List ℕ → Type 0
Below n l l' = (i : ℕ) → i < n → get_or l' i 0 ≡ get_or l i 0

pub below_set : (l : List ℕ) (n x : ℕ) → Below n l (set l n x)
below_set l n x i h = get_or-set_other l n i x 0 (λ e. omega arith)

-- the same in the last n of 256
abbrev pub Back : ℕ → List ℕ → List ℕ → Type 0
Back n l l' = (i : ℕ) → i < n → get_or l' (255 - i) 0 ≡ get_or l (255 - i) 0

pub back_set : (l : List ℕ) (n x : ℕ) → n < 256 → Back n l (set l (255 - n) x)
back_set l n x room i h = get_or-set_other l (255 - n) (255 - i) x 0 (λ e. omega arith)

-- while there is room, a new frame is no complement put by, and a new complement no frame
module _ (l : List ℕ) (frames waiting x : ℕ) (room : frames + waiting < 256) where
  pub frame_apart : Back waiting l (set l frames x)
  frame_apart i h = get_or-set_other l frames (255 - i) x 0 (λ e. omega arith)

  pub complement_apart : Below frames l (set l (255 - waiting) x)
  complement_apart i h = get_or-set_other l (255 - waiting) i x 0 (λ e. omega arith)

-- the lengths stay

module _ {parts stack : List ℕ} (z : Sized parts stack) (i x : ℕ) where
  pub sized_part : Sized (set parts i x) stack
  sized_part = record { of_parts = length-set parts i x ∙ z.of_parts; of_stack = z.of_stack }

  pub sized_stack : Sized parts (set stack i x)
  sized_stack = record { of_parts = z.of_parts; of_stack = length-set stack i x ∙ z.of_stack }

-- Open nodes

pub linked_kept : (stack stack' : List ℕ) (n : ℕ) → Below n stack stack' → (inner : ℕ) (fs : List Remaining) → inner ≤ n
    → Linked stack inner fs → Linked stack' inner fs
linked_kept stack stack' n k inner [] low h = h
linked_kept stack stack' n k inner (f ∷ fs) low h =
    let p = h.0 in
    let e = k (inner - 1) (omega arith) in
    let l = h.2 in (
      p,
      ap frame_in e ∙ h.1,
      subst (λ (x : ℕ). outer x < inner) (sym e) l,
      subst (λ (x : ℕ). Linked stack' (outer x) fs) (sym e)
          (linked_kept stack stack' n k (outer (get_or stack (inner - 1) 0)) fs (omega arith) h.3),
    )

pub linked_push : (stack : List ℕ) (inner n x : ℕ) (f : Remaining) (fs : List Remaining) → inner ≤ n → n < length stack → frame_in x ≡ f → outer x ≡ inner
    → Linked stack inner fs → Linked (set stack n x) (n + 1) (f ∷ fs)
linked_push stack inner n x f fs low room is out h =
    let z : n + 1 - 1 ≡ n = omega arith in
    let e : get_or (set stack n x) (n + 1 - 1) 0 ≡ x = ap (λ (i : ℕ). get_or (set stack n x) i 0) z ∙ get_or-set_same stack n x 0 room in
    let o : outer (get_or (set stack n x) (n + 1 - 1) 0) ≡ inner = ap outer e ∙ out in (
      omega arith,
      ap frame_in e ∙ is,
      omega arith,
      subst (λ (i : ℕ). Linked (set stack n x) i fs) (sym o) (linked_kept stack (set stack n x) n (below_set stack n x) inner fs low h),
    )

pub linked_alone : (stack : List ℕ) (inner : ℕ) (fs : List Remaining) → Linked stack inner fs → eqb inner 0 ≡ alone fs
linked_alone stack inner [] h = eq-eqb inner 0 h
linked_alone stack inner (f ∷ fs) h = let p = h.0 in ne_eqb inner 0 (λ e. omega arith)

pub linked_length : (stack : List ℕ) (inner : ℕ) (fs : List Remaining) → Linked stack inner fs → length fs ≤ inner
linked_length stack inner [] h = omega arith
linked_length stack inner (f ∷ fs) h =
    let l = h.2 in
    omega (arith, linked_length stack (outer (get_or stack (inner - 1) 0)) fs h.3)

-- Complements put by

pub queued_kept : (stack stack' : List ℕ) (end : ℕ) → Back end stack stack' → (first : ℕ) (cs : List PutBy)
    → Queued stack first end cs → Queued stack' first end cs
queued_kept stack stack' end k first [] h = h
queued_kept stack stack' end k first (c ∷ cs) h =
    (h.0, ap put_by_in (k first h.0) ∙ h.1, queued_kept stack stack' end k (suc first) cs h.2)

pub queued_push : (stack : List ℕ) (end x : ℕ) (c : PutBy) → length stack ≡ 256 → end < 256 → put_by_in x ≡ c → (first : ℕ) (cs : List PutBy)
    → Queued stack first end cs → Queued (set stack (255 - end) x) first (end + 1) (cs ++ c ∷ [])
queued_push stack end x c z room is first [] h = (
  omega arith,
  ap (λ (i : ℕ). put_by_in (get_or (set stack (255 - end) x) (255 - i) 0)) h ∙ ap put_by_in (get_or-set_same stack (255 - end) x 0 (omega arith)) ∙ is,
  omega arith,
)
queued_push stack end x c z room is first (d ∷ cs) h =
    let l = h.0 in
    (omega arith, ap put_by_in (back_set stack end x room first l) ∙ h.1, queued_push stack end x c z room is (suc first) cs h.2)

-- further on in the pattern their insides have room again

module _ (codes bytes at at' : ℕ) (m m' : Marks) (room : m'.frames + m'.waiting + (codes - at') ≤ m.frames + m.waiting + (codes - at)) where
  pub insides_on : (cs : List PutBy) → Insides codes bytes at m cs → Insides codes bytes at' m' cs
  insides_on [] h = tt
  insides_on (c ∷ cs) h = (
    record { within = h.0.within; node = h.0.node; room = omega (arith, h.0.room) },
    insides_on cs h.1,
  )

pub insides_push : (codes bytes at : ℕ) (m : Marks) (c : PutBy) → Inside codes bytes at m c → (cs : List PutBy)
    → Insides codes bytes at m cs → Insides codes bytes at m (cs ++ c ∷ [])
insides_push codes bytes at m c i [] h = (i, tt)
insides_push codes bytes at m c i (d ∷ cs) h = (h.0, insides_push codes bytes at m c i cs h.1)
