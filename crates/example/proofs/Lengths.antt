-- A record that is shown has at most six bytes.
use Prim.Native.Nat.{ℕ, ◌≤◌}
use native.Mathlib.Omega.{arith}
use mathlib.Core.Path.{◌≡◌, refl}
use mathlib.Core.List.{List, [], ◌∷◌}
use mathlib.Core.Bool.{Bool, true, false, cond}
use lib.Dec.{leb}
use lib.ListN.{length}
use borrow.Author.Tests.{leb-true}
use Rattle.answers.specs.Answers.{applied_length}
use Rattle.answers.specs.declared.Applied.TheVariants.{Bound}
use Rattle.answers.specs.declared.Refusal.TheVariants.{Table, Long, Full, Class}
use Rattle.term.specs.Pattern.{Pattern}
use Rattle.term.specs.Table.{table_accepted}
use Rattle.term.specs.Term.{Term}
use Rattle.reader.specs.Reading.{Parsed, refused, read, read_record, read_pattern}
use Rattle.reader.specs.Brought.{Brought, language_of, brought_accepted}
use Rattle.anti_pattern.specs.Answer.{Matching, bound, nothing, spent, answer}
use Rattle.anti_pattern.specs.Language.{Language}
use Rattle.anti_pattern.specs.Order.{All}
use Rattle.call.specs.Call.{answer_by}
use Rattle.call.specs.Verdict.{check, reading}
use Rattle.example.specs.Call.{largest_size, checked, example_by, example_of, refusal}
use Rattle.example.specs.Strings.{up_to}
use Rattle.example.specs.Trial.{by_answer, try_one, try_each, example}
use Rattle.example.proofs.Ordered.{Bytes, up_to_all}
use Rattle.std.specs.Prelude.{Ok, Err}

module _ (l : Language) (q : Pattern) (allowance size room : ℕ) where
  tried_short : (ss : List (List ℕ)) → All (λ s. (length s ≤ size) × Bytes s) ss → applied_length (example_by (try_each l q allowance ss) room) ≤ size
  unfolding try_each
  tried_short [] h = omega arith
  tried_short (s ∷ ss) h = by_reading (read_record l s) (tried_short ss h.1)
    where
      fits : (n : ℕ) (m : Bool) → applied_length (cond m (Ok (Bound n (length s))) (Err Full)) ≤ size
      fits n true = h.0.0
      fits n false = omega arith

      by_answer_holds : (x : Matching) → applied_length (example_by (try_each l q allowance ss) room) ≤ size
          → applied_length (example_by (by_answer s x (λ y. try_each l q allowance ss)) room) ≤ size
      by_answer_holds (bound ps n) rest = fits n (leb (length s) room)
      by_answer_holds (nothing n) rest = rest
      by_answer_holds (spent n) rest = omega arith

      by_reading : (x : Parsed Term) → applied_length (example_by (try_each l q allowance ss) room) ≤ size
          → applied_length (example_by (try_one l q allowance s x (λ y. try_each l q allowance ss)) room) ≤ size
      by_reading (refused r) rest = rest
      by_reading (read t n) rest = by_answer_holds (answer l q t allowance) rest

pub example_short : (brought : Brought) (pattern : List ℕ) (size allowance room : ℕ) → applied_length (example_of brought pattern size allowance room) ≤ largest_size
unfolding example_of checked
example_short brought pattern size allowance room =
    go (leb size largest_size) refl (table_accepted brought.table) (brought_accepted brought) (read_pattern (language_of brought) pattern)
  where
    go : (a : Bool) → leb size largest_size ≡ a → (b c : Bool) (p : Parsed Pattern)
        → applied_length (answer_by refusal (λ q. example_by (example (language_of brought) q allowance size) room)
        (check a Long (check b Table (check c Class (reading p))))) ≤ largest_size
    go false e b c p = omega arith
    go true e false c p = omega arith
    go true e true false p = omega arith
    go true e true true (refused r) = omega arith
    go true e true true (read q n) =
        omega (arith, tried_short (language_of brought) q allowance size room (up_to size) (up_to_all size), leb-true size largest_size e)
