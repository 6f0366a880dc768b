-- From the candidates to the call: its answer, its final output, and what is demanded of them.
use Prim.Native.Nat.{ℕ, zero, suc, ◌<◌, ◌≤◌}
use mathlib.Core.Path.{◌≡◌, refl, sym, ◌∙◌, ap, subst}
use mathlib.Core.Logic.{inl}
use mathlib.Core.List.{List, [], ◌∷◌}
use native.Mathlib.Omega.{arith}
use lib.ListN.{length, take, replicate, length-replicate}
use Rattle.answers.specs.declared.Applied.{Applied}
use Rattle.answers.specs.declared.Applied.TheVariants.{Spent}
use Rattle.answers.specs.declared.Refusal.{Refusal}
use Rattle.answers.specs.declared.Refusal.TheVariants.{Long, NoExample}
use Rattle.term.specs.Limits.{TermAccepted, Octets}
use Rattle.term.specs.Pattern.{Pattern}
use Rattle.term.specs.Term.{Term}
use Rattle.anti_pattern.specs.Language.{Language}
use Rattle.parts.specs.Shown.{answer_width}
use Rattle.term.specs.Table.{largest_table}
use Rattle.reader.specs.Brought.{Brought, language_of}
use Rattle.call.specs.Verdict.{passed, fault}
use Rattle.matcher.specs.Call.{rule_checked, check_of}
use Rattle.matcher.proofs.Checks.{check_failed, check_passed}
use Rattle.example.specs.Call.{largest_size, checked, example_of, output_of, example_by, output_by}
use Rattle.example.specs.Demands.{Demanded, Called}
use Rattle.example.specs.Inner.{Rule, Marks, FindsTwins, Ends, Stops, StopsWithin, TriesSizes, ShowsExample}
use Rattle.example.specs.Least.{bytes_in, Candidate, Behind}
use Rattle.example.specs.Trial.{Trial, shows, no_example, spent_at, example}
use Rattle.example.specs.declared.End.{End}
use Rattle.example.specs.declared.Stop.{Stop}
use Rattle.example.proofs.Demands.{checked_long, checked_rule, checked_input, input_rule, demanded}
use Rattle.example.proofs.Exact.{ExampleExact, exact_of}
use Rattle.example.proofs.Records.{table_short}
use Rattle.std.specs.Prelude.{Result, Ok, Err}

-- where the candidates stop is the example

pub take_short : (n : ℕ) (s : List ℕ) → length (take n s) ≤ n
take_short zero s = omega arith
take_short (suc n) [] = omega arith
take_short (suc n) (b ∷ s) = omega (arith, take_short n s)

module _ (l : Language) (pattern : List ℕ) (q : Pattern) (rule : Rule l pattern q) (allowance size : ℕ) where
  exact : ExampleExact l q allowance size
  exact = exact_of l pattern q rule allowance size

  candidate_of : (s : List ℕ) (t : Term) → s ≡ bytes_in l t → length s ≤ size → TermAccepted l t → Candidate l size t
  candidate_of s t e h a = record { accepted = a; small = subst (λ (x : List ℕ). length x ≤ size) e h }

  ends_bound : (c : ℕ) (s : List ℕ) → length s ≤ size → Ends l q allowance size (Err (End.Bound c)) s → example l q allowance size ≡ shows s c
  ends_bound c s h e =
      let t = e.0 in
      (exact.shown_exactly s c).1 (
        t.0,
        record { candidate = candidate_of s t.0 t.1 h t.2; within = omega (arith, t.3, t.4); satisfied = t.5; behind = subst (Behind l q allowance) t.1 e.1 },
        t.1,
        t.3,
      )

  ends_spent : (s : List ℕ) → length s ≤ size → Ends l q allowance size (Err End.Spent) s → example l q allowance size ≡ spent_at allowance
  ends_spent s h e =
      let t = e.0 in
      (exact.spent_exactly allowance).1 (
        refl,
        (t.0, record { candidate = candidate_of s t.0 t.1 h t.2; over = t.3; behind = subst (Behind l q allowance) t.1 e.1 }),
      )

  ends_over : (s : List ℕ) → Ends l q allowance size (Ok tt) s → example l q allowance size ≡ no_example
  ends_over s e = (exact.none_exactly unspent).1 (λ t c. (e t c.accepted (inl (short t c))).1)
    where
      short : (t : Term) → Candidate l size t → length (bytes_in l t) < length (replicate {A = ℕ} (suc size) 0)
      short t c = omega (arith, c.small, length-replicate {A = ℕ} (suc size) 0)

      unspent : (n : ℕ) → example l q allowance size ≡ spent_at n → ⊥
      unspent n z = let w = ((exact.spent_exactly n).0 z).1 in
          let c = w.1.candidate in omega (arith, w.1.over, (e w.0 c.accepted (inl (short w.0 c))).0)

module _ (l : Language) (pattern kept lower : List ℕ) (allowance size : ℕ) (marks : Marks l.classes pattern kept) (finds : FindsTwins l.table l.classes kept lower)
    (r : Result (Unit {0}) Stop) (s : List ℕ) (h : TriesSizes l lower pattern allowance size r s) (short : StopsWithin size r) (before : List ℕ) where
  abbrev Showing : Result Applied Refusal → List ℕ → Type 0
  Showing a after = ShowsExample l pattern size allowance before a after

  showing : (x : Trial) → ((q : Pattern) → Rule l pattern q → example l q allowance size ≡ x)
      → (a : Result Applied Refusal) (after : List ℕ) → a ≡ example_by x (length before) → after ≡ output_by x before → Showing a after
  showing x f a after i j q rule =
      (i ∙ ap (λ (y : Trial). example_by y (length before)) (sym (f q rule)), j ∙ ap (λ (y : Trial). output_by y before) (sym (f q rule)))

  stopped : (e : Stop) → r ≡ Err e → (q : Pattern) → Rule l pattern q → Ends l q allowance size (Err e.end) (take e.length s)
  stopped e i q rule = subst (λ (x : Result (Unit {0}) Stop). Stops l q allowance size x s) i (h q rule (finds l.edition pattern marks))

  shorter : (e : Stop) → r ≡ Err e → length (take e.length s) ≤ size
  shorter e i = let z = subst (StopsWithin size) i short in omega (arith, z, take_short e.length s)

  pub shows_bound : (e : Stop) → r ≡ Err e → (c : ℕ) → e.end ≡ End.Bound c → (a : Result Applied Refusal) (after : List ℕ)
      → a ≡ example_by (shows (take e.length s) c) (length before) → after ≡ output_by (shows (take e.length s) c) before → Showing a after
  shows_bound e i c z = showing (shows (take e.length s) c) (λ q rule. ends_bound l pattern q rule allowance size c (take e.length s) (shorter e i)
      (subst (λ (x : End). Ends l q allowance size (Err x) (take e.length s)) z (stopped e i q rule)))

  pub shows_spent : (e : Stop) → r ≡ Err e → e.end ≡ End.Spent → Showing (Ok (Spent allowance)) before
  shows_spent e i z = showing (spent_at allowance) (λ q rule. ends_spent l pattern q rule allowance size (take e.length s) (shorter e i)
      (subst (λ (x : End). Ends l q allowance size (Err x) (take e.length s)) z (stopped e i q rule))) (Ok (Spent allowance)) before refl refl

  pub shows_none : r ≡ Ok tt → Showing (Err NoExample) before
  shows_none i = showing no_example (λ q rule. ends_over l pattern q rule allowance size s
      (subst (λ (x : Result (Unit {0}) Stop). Stops l q allowance size x s) i (h q rule (finds l.edition pattern marks)))) (Err NoExample) before refl refl

-- the call, by the checks

module _ (brought : Brought) (pattern : List ℕ) (size : ℕ) where
  module _ (octets : Octets pattern) (allowance : ℕ) (before : List ℕ) where
    called : (a : Result Applied Refusal) (after : List ℕ) → a ≡ example_of brought pattern size allowance (length before)
        → after ≡ output_of brought pattern size allowance before → Called brought pattern size allowance before a after
    called a after i j =
        let d = demanded brought pattern size octets allowance before in (
          i,
          (
            j,
            subst (λ (y : Result Applied Refusal). Demanded brought pattern size allowance before y after) (sym i)
                (subst (Demanded brought pattern size allowance before (example_of brought pattern size allowance (length before))) (sym j) d),
          ),
        )

    called_fault : (r : Refusal) (i : ℕ) → checked brought pattern size ≡ fault r i
        → Called brought pattern size allowance before (Err r) before
    unfolding example_of output_of
    called_fault r i e = called (Err r) before (rw e refl) (rw e refl)

    called_passed : (q : Pattern) → checked brought pattern size ≡ passed q → (l : Language) → l ≡ language_of brought → (a : Result Applied Refusal) (after : List ℕ)
        → ShowsExample l pattern size allowance before a after → Called brought pattern size allowance before a after
    unfolding example_of output_of
    called_passed q e l d a after h =
        let shown = subst (λ (x : Language). ShowsExample x pattern size allowance before a after) d h in
        let w = shown q (input_rule brought pattern size q (checked_input brought pattern size octets q e)) in
        called a after (w.0 ∙ rw e refl) (w.1 ∙ rw e refl)

    -- by what the code's checks tell
    pub called_long : largest_size < size → Called brought pattern size allowance before (Err Long) before
    called_long h = called_fault Long 0 (checked_long brought pattern size h)

    module _ (small : size ≤ largest_size) (k : (Result (Unit {0}) Refusal)) (told : k ≡ check_of (rule_checked brought pattern answer_width)) where
      pub called_failed : (r : Refusal) → k ≡ Err r → Called brought pattern size allowance before (Err r) before
      called_failed r e =
          let c = check_failed (rule_checked brought pattern answer_width) r (sym e ∙ told) in
          called_fault r c.0 (checked_rule brought pattern size small ∙ c.1)

      read_rule : k ≡ (Ok tt) → (q : Pattern) × (checked brought pattern size ≡ passed q)
      read_rule e = let c = check_passed (rule_checked brought pattern answer_width) (sym e ∙ told) in (c.0, checked_rule brought pattern size small ∙ c.1)

      pub passed_short : k ≡ (Ok tt) → length brought.table ≤ largest_table
      passed_short e = let c = read_rule e in table_short brought.table (checked_input brought pattern size octets c.0 c.1).table_accepted_holds

      pub called_shown : k ≡ (Ok tt) → (l : Language) → l ≡ language_of brought → (a : Result Applied Refusal) (after : List ℕ)
          → ShowsExample l pattern size allowance before a after → Called brought pattern size allowance before a after
      called_shown e = let c = read_rule e in called_passed c.0 c.1
