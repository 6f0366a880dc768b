-- The laws of the call for the next answer on bytes.
-- Assumes nothing.
use Prim.Native.Nat.{ℕ, ◌≤◌}
use native.Mathlib.Omega.{arith}
use mathlib.Core.Path.{◌≡◌, refl, sym, ap, subst, ◌∙◌}
use mathlib.Core.List.{List}
use Rattle.std.proofs.Common.{Option, Some, None}
use mathlib.Core.Bool.{Bool, true, false, ◌&&◌}
use lib.ListN.{length, replicate}
use lib.Dec.{leb}
use borrow.Author.Tests.{le-leb}
use Rattle.answers.specs.Part.{absent}
use Rattle.answers.specs.declared.Part.{Part}
use Rattle.term.specs.Limits.{longest_pattern, longest_record}
use Rattle.term.specs.Code.{variables}
use Rattle.search.specs.State.{place}
use Rattle.search.specs.Level.{start_of, levels}
use Rattle.search.specs.Given.{Pass, pass_of}
use Rattle.search.specs.Inner.GivenReplies.{pass_by, left_by, GivenIs, SpreadIs}
use Rattle.search.specs.Following.{next_pass, followed, followed_of, shown_pass, shown_known}
use Rattle.search.specs.Inner.Memory.{marks, Sized}
use Rattle.search.specs.Inner.Lent.{Lent, input_of, lent_of, ◌⇒◌}
use Rattle.parts.specs.Packed.{parts_in}
use Rattle.search.specs.Shown.{shown_by}
use Rattle.search.specs.declared.Finding.{Finding}
use Rattle.search.specs.declared.Finding.TheVariants.{Found, Failed, Spent}
use Rattle.search.proofs.Kept.{first_holds}

-- a pass, with what it shows
abbrev Says : ℕ → Pass → List ℕ → Option Finding → ℕ → List ℕ → Type 0
Says allowance p before x left after = (followed x left ≡ followed_of allowance p) × (after ≡ shown_pass p before)

by_pass_holds : (allowance : ℕ) (x : Option Finding) (left assigned : ℕ) (parts before after : List ℕ) → after ≡ shown_known x (parts_in assigned parts 0 variables) before
    → Says allowance (pass_by x left assigned parts) before x (left_by x left allowance) after
unfolding shown_by
by_pass_holds allowance (Some Found) left assigned parts before after s = (refl, s)
by_pass_holds allowance (Some Failed) left assigned parts before after s = (refl, s)
by_pass_holds allowance (Some Spent) left assigned parts before after s = (refl, s)
by_pass_holds allowance None left assigned parts before after s = (refl, s)

pub shown_ended : {x : Option Finding} {o : Finding} (parts : List Part) (before : List ℕ) {after : List ℕ} → after ≡ shown_by o parts before → x ≡ Some o
    → after ≡ shown_known x parts before
shown_ended parts before s e = s ∙ sym (ap (λ (y : Option Finding). shown_known y parts before) e)

module _ (table classes pattern bytes given before : List ℕ) (allowance : ℕ) where
  pub next_over : leb (length pattern) longest_pattern && leb (length bytes) longest_record ≡ false
      → Says allowance (next_pass table classes pattern bytes given allowance) before None allowance before
  unfolding next_pass
  next_over h = rw h (refl, refl)

  module _ (narrow : length pattern ≤ longest_pattern) (short : length bytes ≤ longest_record) where
    pub next_uneven : {out' : List ℕ} {r : Bool} → SpreadIs table pattern given (replicate variables 0) out' r → r ≡ false
        → Says allowance (next_pass table classes pattern bytes given allowance) before None allowance before
    unfolding next_pass
    next_uneven s e = rw (le-leb (length pattern) longest_pattern narrow, le-leb (length bytes) longest_record short, sym s.even ∙ e) (refl, refl)

    pub next_known : {g : List ℕ} {r : Bool} → SpreadIs table pattern given (replicate variables 0) g r → r ≡ true
        → (parts stack : List ℕ) → Sized parts stack → (x : Option Finding) {got : Lent}
        → GivenIs (input_of table classes pattern bytes) g (lent_of 0 allowance parts stack ⇒ got) (marks 0 0 0 0) (place 1 1 0 0) x
        → (after : List ℕ) → after ≡ shown_known x (parts_in got.assigned got.parts 0 variables) before
        → Says allowance (next_pass table classes pattern bytes given allowance) before x (left_by x got.left allowance) after
    unfolding next_pass
    next_known {g} s e parts stack z x {got} d after w =
        rw (le-leb (length pattern) longest_pattern narrow, le-leb (length bytes) longest_record short, sym s.even ∙ e)
        (subst (λ (p : Pass). Says allowance p before x (left_by x got.left allowance) after)
        (d.replies (start_of (replicate variables absent) 0) (first_holds (length pattern) (length bytes) parts stack narrow z) (levels pattern 0) (omega arith)
        ∙ ap (λ (l : List ℕ). pass_of table classes pattern bytes l allowance) (s.put e))
        (by_pass_holds allowance x got.left got.assigned got.parts before after w))
