-- Where the search of a level begins, and from where it is called.
-- Assumes nothing.
use Prim.Native.Nat.{ℕ, ◌+◌, ◌-◌, ◌<◌, ◌≤◌}
use native.Mathlib.Omega.{arith}
use mathlib.Core.Path.{◌≡◌, refl, sym, ap, subst, ◌∙◌}
use mathlib.Core.List.{List}
use mathlib.Core.Bool.{Bool, false, true≢false}
use lib.ListN.{set}
use lib.Seq.{get_or-set_same}
use Rattle.answers.specs.Part.{bound_part}
use Rattle.term.specs.Code.{variables}
use Rattle.search.specs.State.{place, place_past}
use Rattle.parts.specs.Packed.{bit, packed}
use Rattle.search.specs.Inner.Memory.{Holding}
use Rattle.search.specs.Inner.Lent.{Handed, Change}
use Rattle.search.specs.Inner.Replies.{run_start}
use Rattle.search.specs.Inner.Halts.{Begun, Levels}
use Rattle.search.specs.declared.place.Place.{Place}
use Rattle.search.specs.declared.marks.Marks.{Marks}
use Rattle.search.specs.declared.Finding.{Finding}
use Rattle.search.proofs.Held.{kept_part}
use Rattle.search.proofs.Kept.{restored, past, past_holds, none_free}

pub place_is : (p q : Place) → p.children ≡ q.children → p.elements ≡ q.elements → p.at ≡ q.at → p.node ≡ q.node → p ≡ q
place_is p q a b c d =
    let e : place p.children p.elements p.at p.node ≡ place q.children q.elements q.at q.node = rw (a, b, c, d) in e

-- marks and place are handed in halves
pub level_from : {i : Handed} {c : Change} {v : ℕ} {halts : Bool} {least : ℕ} {k m : Marks} {q p : Place} {o : Finding} → k ≡ m → q ≡ p
    → Levels i c v halts least k q o → Levels i c v halts least m p o
level_from {i} {c} {v} {halts} {least} {k} {m} {q} {p} {o} e f r =
    subst (λ (x : Marks). Levels i c v halts least x p o) e (subst (λ (x : Place). Levels i c v halts least k x o) f r)

-- A level's start gives no variable any element

pub run_here_holds : (p : Place) → run_start 0 p.node p ≡ p
run_here_holds p = let z : p.elements + 0 ≡ p.elements = omega arith in ap (λ (x : ℕ). place p.children x p.at p.node) z

unfoldable pub none_begun : {codes bytes assigned : ℕ} {parts stack : List ℕ} {m : Marks} {p : Place} (halts : Bool) → Holding codes bytes assigned parts stack m p
    → p.elements < 256 → Begun codes bytes assigned parts stack variables halts 255 m p
none_begun {codes} {bytes} {assigned} {parts} {stack} {m} {p} halts h small = record {
  first = 0;
  most = 0;
  from = p.node;
  holding = subst (λ (x : Place). Holding codes bytes assigned parts stack m x) (sym (run_here_holds p)) h;
  free = none_free;
  some = omega arith;
  few = omega arith;
  last = omega (arith, small);
  behind = omega arith;
  within = h.holds.node;
  named = λ l. absurd (omega (arith, l));
  all = λ l. absurd (omega (arith, l));
  written = λ l. absurd (omega (arith, l));
  halting = record { none = λ e. (refl, refl, refl, omega arith) };
}

-- An unassigned run name has its first n elements, of so many bytes

pub run_start_holds : (p : Place) (n size : ℕ) → n ≤ p.elements → run_start n p.node (place_past p n 1 size) ≡ place_past p 0 1 0
run_start_holds p n size h = place_is (run_start n p.node (place_past p n 1 size)) (place_past p 0 1 0) refl (omega arith) refl (omega arith)

unfoldable pub run_begun : {codes bytes assigned : ℕ} {parts stack : List ℕ} {m : Marks} {p : Place} (v n size x : ℕ) → Holding codes bytes assigned parts stack m p
    → p.at < codes → v < variables → bit assigned v ≡ false → n ≤ p.elements → p.elements < 256 → p.node + size ≤ bytes
    → x ≡ packed (bound_part p.node size n)
    → Begun codes bytes assigned (set parts v x) stack v false 0 m (place_past p n 1 size)
run_begun {codes} {bytes} {assigned} {parts} {stack} {m} {p} v n size x h at low free l small within is_x = record {
  first = n;
  most = p.elements;
  from = p.node;
  holding = subst (λ (y : Place). Holding codes bytes assigned (set parts v x) stack m y) (sym (run_start_holds p n size l))
      (record { state = past h.state; holds = past_holds at (restored (kept_part v x (λ i. free)) h.holds) });
  free = record { below = omega (arith, low); free = λ i. free };
  some = l;
  few = small;
  last = omega (arith, l);
  behind = omega arith;
  within = within;
  named = λ i. low;
  all = λ i. refl;
  written = λ i.
      let z : p.node + size - p.node ≡ size = omega arith in
      get_or-set_same parts v x 0 (omega (arith, low, h.holds.sized.of_parts)) ∙ is_x ∙ ap (λ (y : ℕ). packed (bound_part p.node y n)) (sym z);
  halting = record { none = λ e. absurd (true≢false (sym e)) };
}
