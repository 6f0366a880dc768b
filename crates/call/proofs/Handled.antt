-- Any call whose work tells words or refusals is handled as demand 1 asks.
use Prim.Native.Nat.{ℕ, ◌≤◌}
use native.Mathlib.Omega.{arith}
use mathlib.Core.Path.{◌≡◌, refl, sym, ◌∙◌, ap}
use mathlib.Core.Logic.{◌↔◌}
use mathlib.Core.List.{List, ◌++◌}
use mathlib.Core.Bool.{true}
use lib.ListN.{length, drop, length-append, length-drop, drop_of_length-le}
use lib.Seq.{drop_at}
use Rattle.answers.specs.Refusal.{number_of}
use Rattle.answers.specs.declared.Part.{Part}
use Rattle.answers.specs.declared.Refusal.{Refusal}
use Rattle.term.specs.Table.{table_accepted}
use Rattle.anti_pattern.proofs.Metering.{Split, enough, over, split}
use Rattle.parts.specs.Shown.{numbers, answer_width}
use Rattle.reader.specs.Brought.{Brought, brought_accepted}
use Rattle.call.specs.Verdict.{Verdict, passed, fault}
use Rattle.call.specs.Call.{checks, answer_by, written, buffer_by}
use Rattle.call.specs.Demands.{Handled}
use Rattle.call.proofs.Checks.{passed_exactly}
use Rattle.std.specs.Prelude.{Option, Some, None}

-- numbers that leave a buffer's length as it is leave what lies past 144
past_numbers : (ns before : List ℕ) → length (ns ++ drop answer_width before) ≡ length before → drop answer_width (ns ++ drop answer_width before) ≡ drop answer_width before
past_numbers ns before same = go (split (length before) answer_width)
  where
    go : Split (length before) answer_width → drop answer_width (ns ++ drop answer_width before) ≡ drop answer_width before
    go (enough h) = drop_of_length-le (ns ++ drop answer_width before) {i = answer_width} (omega arith) ∙ sym (drop_of_length-le before {i = answer_width} h)
    go (over h) =
        drop_at ns (drop answer_width before) answer_width (omega (arith, sym same ∙ length-append ns (drop answer_width before), length-drop answer_width before))

past_written : (o : Option (List Part)) (before : List ℕ) → length (written o before) ≡ length before → drop answer_width (written o before) ≡ drop answer_width before
past_written None before same = refl
past_written (Some ps) before same = past_numbers (numbers ps) before same

module _ {X A : Type 0} (refused : Refusal → ℕ → A) (told : X → A) (bound : X → Option (List Part)) where
  -- what is told shows: a refusal has its number and count 0, and what is not bound writes nothing
  pub record Tells (number count : A → ℕ) : Type 0 where
    pub numbered : (r : Refusal) (i : ℕ) → number (refused r i) ≡ number_of r
    pub uncounted : (r : Refusal) (i : ℕ) → count (refused r i) ≡ 0
    pub told_uncounted : (x : X) (r : Refusal) → number (told x) ≡ number_of r → count (told x) ≡ 0
    pub unbound : (x : X) → (number (told x) ≡ 0 → ⊥) → bound x ≡ None

  module _ (before : List ℕ) where
    past_by : (v : Verdict X) → length (buffer_by bound v before) ≡ length before → drop answer_width (buffer_by bound v before) ≡ drop answer_width before
    past_by (fault r i) same = refl
    past_by (passed x) same = past_written (bound x) before same

    untouched_by : {number count : A → ℕ} → Tells number count → (v : Verdict X) → (number (answer_by refused told v) ≡ 0 → ⊥) → buffer_by bound v before ≡ before
    untouched_by tells (fault r i) h = refl
    untouched_by tells (passed x) h = ap (λ (o : Option (List Part)). written o before) (tells.unbound x h)

    -- Demand 1, for a call whose accepted input is what it reads
    module _ (brought : Brought) (own : Verdict X) (Accepted Unanswered : X → Type 0)
        (reads : (x : X) → Accepted x ↔ ((table_accepted brought.table ≡ true) × (own ≡ passed x))) where
      abbrev verdict : Verdict X
      verdict = checks brought (length before) own

      -- on accepted input it tells the work
      accepted_told : (x : X) → answer_width ≤ length before → brought_accepted brought ≡ true → Accepted x
          → (answer_by refused told verdict ≡ told x) × (buffer_by bound verdict before ≡ written (bound x) before)
      accepted_told x wide b a = rw ((passed_exactly brought (length before) own Accepted reads x).1 (wide, b, a)) (refl, refl)

      pub handled : (number count : A → ℕ) → Tells number count
          → (answer_width ≤ length before → brought_accepted brought ≡ true → (x : X) → Accepted x
          → ((r : Refusal) × (number (told x) ≡ number_of r)) ↔ Unanswered x)
          → length (buffer_by bound verdict before) ≡ length before
          → Handled brought Accepted Unanswered before (number (answer_by refused told verdict)) (count (answer_by refused told verdict))
          (buffer_by bound verdict before)
      handled number count tells answers same = record {
        refused_exactly = (
          λ e wide b x a. (answers wide b x a).0 (e.0, sym (ap number (accepted_told x wide b a).0) ∙ e.1),
          refused_by_holds verdict refl,
        );
        refused_shows = shows_by verdict;
        untouched = untouched_by tells verdict;
        past_stays = past_by verdict same;
      }
        where
          shows_by : (v : Verdict X) (r : Refusal) → number (answer_by refused told v) ≡ number_of r → count (answer_by refused told v) ≡ 0
          shows_by (fault s i) r e = tells.uncounted s i
          shows_by (passed x) r e = tells.told_uncounted x r e

          refused_by_holds : (v : Verdict X) → verdict ≡ v
              → (answer_width ≤ length before → brought_accepted brought ≡ true → (x : X) → Accepted x → Unanswered x)
              → (r : Refusal) × (number (answer_by refused told v) ≡ number_of r)
          refused_by_holds (fault r i) e h = (r, tells.numbered r i)
          refused_by_holds (passed x) e h =
              let a = (passed_exactly brought (length before) own Accepted reads x).0 e in
              (answers a.0 a.1 x a.2).1 (h a.0 a.1 x a.2)

    -- The whole contract, by the verdict
    module _ (v : Verdict X) (Demanded : A → List ℕ → Type 0)
        (demanded : length (buffer_by bound v before) ≡ length before → Demanded (answer_by refused told v) (buffer_by bound v before)) where
      abbrev Called : A → List ℕ → Type 0
      Called a after = (a ≡ answer_by refused told v) × ((after ≡ buffer_by bound v before) × Demanded a after)

      called : (a : A) (after : List ℕ) → a ≡ answer_by refused told v → after ≡ buffer_by bound v before → length after ≡ length before → Called a after
      called a after e f same = (e, (f, rw (e, f) (demanded (rw f at same))))

      -- where a check fails
      pub fails : (r : Refusal) (i : ℕ) → v ≡ fault r i → Called (refused r i) before
      fails r i e =
          called (refused r i) before (ap (answer_by refused told) (sym e)) (ap (λ (w : Verdict X). buffer_by bound w before) (sym e)) refl

      -- where all pass
      pub passes : (x : X) → v ≡ passed x → (a : A) (after : List ℕ) → a ≡ told x → after ≡ written (bound x) before → length after ≡ length before → Called a after
      passes x e a after f g =
          called a after (f ∙ ap (answer_by refused told) (sym e)) (g ∙ ap (λ (w : Verdict X). buffer_by bound w before) (sym e))
