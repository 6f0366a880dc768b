-- What a search shows in the answer buffer.
-- Assumes nothing.
use Prim.Native.Nat.{ℕ, ◌-◌, ◌≤◌}
use native.Mathlib.Omega.{arith}
use mathlib.Core.Path.{◌≡◌, refl, ◌∙◌, ap, sym}
use mathlib.Core.List.{List}
use mathlib.Core.Bool.{true, false, ◌&&◌, true≢false}
use lib.ListN.{length, replicate}
use lib.Dec.{leb}
use borrow.Author.Tests.{le-leb}
use Rattle.answers.specs.Part.{absent}
use Rattle.answers.specs.declared.Part.{Part}
use Rattle.term.specs.Limits.{longest_record, longest_pattern}
use Rattle.term.specs.Code.{variables}
use Rattle.parts.specs.Packed.{parts_in}
use Rattle.parts.specs.Shown.{shown_parts}
use Rattle.search.specs.Level.{Reply, levels, end_of, search_of}
use Rattle.search.specs.Shown.{shown_by, shown_in}
use Rattle.search.specs.Inner.Replies.{found, reply_with, reply_of, EndsAtOnce}
use Rattle.search.specs.declared.Ended.{Ended}
use Rattle.search.specs.declared.Finding.{Finding}
use Rattle.search.specs.declared.Finding.TheVariants.{Found, Failed, Spent}
use Rattle.search.proofs.Levels.{search_over}

-- What is found is shown, and nothing else

pub found_shown : (o : Finding) (ps : List Part) (before after : List ℕ) → found o ≡ true → after ≡ shown_parts ps before → after ≡ shown_by o ps before
unfolding shown_by
found_shown Found ps before after h e = e
found_shown Failed ps before after h e = absurd (true≢false (sym h))
found_shown Spent ps before after h e = absurd (true≢false (sym h))

pub other_unshown : (o : Finding) (ps : List Part) (before : List ℕ) → found o ≡ false → before ≡ shown_by o ps before
unfolding shown_by
other_unshown Found ps before h = absurd (true≢false h)
other_unshown Failed ps before h = refl
other_unshown Spent ps before h = refl

-- The whole search

abbrev ended : Finding → ℕ → Ended
ended o left = record { outcome = o; left = left }

module _ (table classes pattern bytes before : List ℕ) (allowance : ℕ) where
  -- what it ends with, and what the buffer then shows
  abbrev pub Shows : Ended → List ℕ → Type 0
  Shows e after = (e ≡ end_of (search_of table classes pattern bytes allowance)) × (after ≡ shown_in (search_of table classes pattern bytes allowance) before)

  pub over_shows : leb (length pattern) longest_pattern && leb (length bytes) longest_record ≡ false → Shows (ended Failed allowance) before
  unfolding shown_by
  over_shows h =
      let z = search_over table classes pattern bytes allowance h in
      (ap end_of z, ap (λ (r : Reply). shown_in r before) z)

  reply_shows : (o : Finding) (left : ℕ) (shown : List Part) (after : List ℕ) → after ≡ shown_by o shown before
      → reply_with o left shown ≡ search_of table classes pattern bytes allowance → Shows (ended o left) after
  unfolding shown_by
  reply_shows Found left shown after s z = (ap end_of z, s ∙ ap (λ (r : Reply). shown_in r before) z)
  reply_shows Failed left shown after s z = (ap end_of z, s ∙ ap (λ (r : Reply). shown_in r before) z)
  reply_shows Spent left shown after s z = (ap end_of z, s ∙ ap (λ (r : Reply). shown_in r before) z)

  pub within_shows : (o : Finding) (left assigned : ℕ) (parts after : List ℕ) → after ≡ shown_by o (parts_in assigned parts 0 variables) before
      → reply_of o left assigned parts ≡ search_of table classes pattern bytes allowance → Shows (ended o left) after
  within_shows o left assigned parts after s z = reply_shows o left (parts_in assigned parts 0 variables) after s z

  -- its first pair decides it
  pub at_once_shows : (o : Finding) (after : List ℕ) → length pattern ≤ longest_pattern → length bytes ≤ longest_record
      → EndsAtOnce table classes pattern bytes 0 allowance o → after ≡ shown_by o (replicate variables absent) before
      → Shows (ended o (allowance - 1)) after
  unfolding search_of
  at_once_shows o after h k d s =
      reply_shows o (allowance - 1) (replicate variables absent) after s
      (rw (le-leb (length pattern) longest_pattern h, le-leb (length bytes) longest_record k) (sym (d.ends (replicate variables absent) (levels pattern 0) (omega arith))))
