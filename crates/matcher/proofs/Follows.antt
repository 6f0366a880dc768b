-- What the call for the next answer tells: by its number, and on accepted input by the search on trees.
use Prim.Native.Nat.{ℕ, ◌≤◌}
use native.Mathlib.Omega.{arith}
use mathlib.Core.Path.{◌≡◌, refl, ap}
use mathlib.Core.List.{List}
use mathlib.Core.Bool.{true}
use lib.ListN.{length}
use Rattle.answers.specs.Refusal.{number_of}
use Rattle.answers.specs.Answers.{answer_number}
use Rattle.answers.specs.declared.Part.{Part}
use Rattle.answers.specs.declared.Refusal.TheVariants.{Unknown}
use Rattle.term.specs.Limits.{Octets}
use Rattle.term.specs.Pattern.{Pattern}
use Rattle.term.specs.Term.{Term}
use Rattle.anti_pattern.specs.Answer.{bound, nothing, spent}
use Rattle.anti_pattern.specs.Next.{Following, follows, unknown, next}
use Rattle.parts.specs.Shown.{answer_width}
use Rattle.reader.specs.Brought.{Brought, language_of, brought_accepted}
use Rattle.call.specs.Call.{written}
use Rattle.matcher.specs.Call.{Input}
use Rattle.matcher.specs.Next.{told_next, next_of, bound_next, next_buffer_of}
use Rattle.matcher.proofs.Answered.{spent_told, none_told, bound_told}
use Rattle.matcher.proofs.Checks.{checked_exactly}
use Rattle.matcher.proofs.Demanded.{told_refused}

pub is_unknown : (f : Following) → answer_number (told_next f) ≡ number_of Unknown → f ≡ unknown
is_unknown (follows o) e = absurd (told_refused o Unknown e)
is_unknown unknown e = refl

pub is_spent : (f : Following) → answer_number (told_next f) ≡ 11 → (n : ℕ) × (f ≡ follows (spent n))
is_spent (follows o) e = let s = spent_told o e in (s.0, ap follows s.1)
is_spent unknown e = absurd (omega (arith, e))

pub is_none : (f : Following) → answer_number (told_next f) ≡ 10 → (n : ℕ) × (f ≡ follows (nothing n))
is_none (follows o) e = let s = none_told o e in (s.0, ap follows s.1)
is_none unknown e = absurd (omega (arith, e))

pub is_bound : (f : Following) → answer_number (told_next f) ≡ 0 → (ps : List Part) × (n : ℕ) × (f ≡ follows (bound ps n))
is_bound (follows o) e = let s = bound_told o e in (s.0, s.1, ap follows s.2)
is_bound unknown e = absurd (omega (arith, e))

module _ (brought : Brought) (pattern bytes given before : List ℕ) (allowance : ℕ) (pattern_octets : Octets pattern)
    (record_octets : Octets bytes) (wide : answer_width ≤ length before) (accepted : brought_accepted brought ≡ true) (q : Pattern) (t : Term)
    (i : Input (language_of brought) pattern bytes q t) where
  abbrev following : ℕ → Following
  following n = next (language_of brought) q t given n

  pub same_next : (more : ℕ) → following more ≡ following allowance
      → (next_of brought pattern bytes given more (length before) ≡ told_next (following allowance))
      × (next_buffer_of brought pattern bytes given more before ≡ written (bound_next (following allowance)) before)
  unfolding next_of next_buffer_of
  same_next more z =
      rw ((checked_exactly brought pattern bytes pattern_octets record_octets (length before) q t).1 (wide, accepted, i))
      (ap told_next z, ap (λ (x : Following). written (bound_next x) before) z)
