-- What is demanded of the call, by its equations alone.
use Prim.Native.Nat.{ℕ, ◌<◌, ◌≤◌}
use mathlib.Core.Path.{◌≡◌, refl, sym, ◌∙◌, ap, subst}
use mathlib.Core.Logic.{◌⊎◌, inl, inr}
use mathlib.Core.List.{List, ◌++◌}
use mathlib.Core.Bool.{Bool, true, false, cond}
use native.Mathlib.Omega.{arith}
use lib.Dec.{leb}
use lib.ListN.{length, drop}
use lib.Seq.{drop-append_seam}
use borrow.Author.Tests.{le-leb, lt-leb, leb-true, leb-false}
use Rattle.answers.specs.Answers.{applied_number, applied_count, applied_length}
use Rattle.answers.specs.Refusal.{number_of}
use Rattle.answers.specs.declared.Applied.TheVariants.{Bound}
use Rattle.answers.specs.declared.Refusal.{Refusal}
use Rattle.answers.specs.declared.Refusal.TheVariants.{Long, Full, NoExample}
use Rattle.answers.proofs.Numbers.{word_or_refusal}
use Rattle.term.specs.Limits.{Octets}
use Rattle.term.specs.Pattern.{Pattern}
use Rattle.term.specs.Table.{table_accepted}
use Rattle.term.specs.Term.{Term}
use Rattle.anti_pattern.specs.Answer.{count_of}
use Rattle.anti_pattern.specs.Demands.{Unsatisfied}
use Rattle.anti_pattern.specs.Language.{Language, Classed}
use Rattle.parts.specs.Shown.{answer_width}
use Rattle.reader.specs.Brought.{Brought, language_in, language_of, list_accepted, brought_accepted}
use Rattle.reader.specs.Reading.{read_pattern}
use Rattle.reader.proofs.Typed.{pattern_read, pattern_iff}
use Rattle.call.specs.Call.{checks, answer_by}
use Rattle.call.specs.Verdict.{Verdict, passed, fault, check}
use Rattle.call.proofs.Checks.{fault_passed, reading_passed}
use Rattle.matcher.specs.Call.{rule_checked}
use Rattle.example.specs.Call.{largest_size, checked, example_of, output_of, example_by, output_by, refusal}
use Rattle.example.specs.Demands.{Input, Reached, FirstSpent, AllPassed, Answered, Demanded}
use Rattle.example.specs.Inner.{Rule}
use Rattle.example.specs.Least.{bytes_in, Candidate}
use Rattle.example.specs.Trial.{Trial, shows, no_example, spent_at, example}
use Rattle.example.proofs.Exact.{ExampleExact, exact_of}
use Rattle.example.proofs.Larger.{larger_example}
use Rattle.std.specs.Prelude.{Ok, Err, Option, Some, None}

-- what is demanded, by what the candidates come to

same_string : {s r : List ℕ} {n m : ℕ} → shows s n ≡ shows r m → s ≡ r
same_string e = cc

-- which trial it is
abbrev kind : Trial → ℕ
kind (shows s n) = 0
kind no_example = 22
kind (spent_at n) = 11

module _ (l : Language) (q : Pattern) (allowance size : ℕ) (exact : ExampleExact l q allowance size) (before : List ℕ) where
  reached_shown : (t : Term) → Reached l q allowance size t → example l q allowance size ≡ shows (bytes_in l t) (count_of l q t)
  reached_shown t r =
      (exact.shown_exactly (bytes_in l t) (count_of l q t)).1 (t, r, refl, refl)

  shown_reached : (s : List ℕ) (n : ℕ) → example l q allowance size ≡ shows s n → (t : Term) × Reached l q allowance size t × (s ≡ bytes_in l t)
  shown_reached s n e =
      let w = (exact.shown_exactly s n).0 e in (w.0, w.1, w.2)

  same_bytes : (s : List ℕ) (n : ℕ) → example l q allowance size ≡ shows s n → (t : Term) → Reached l q allowance size t → length s ≡ length (bytes_in l t)
  same_bytes s n e t r = ap length (same_string (sym e ∙ reached_shown t r))

  -- the example is of another kind
  other : (x y : Trial) → example l q allowance size ≡ x → example l q allowance size ≡ y → (kind x ≡ kind y → ⊥) → ⊥
  other x y i j d = d (ap kind (sym i ∙ j))

  module _ (x : Trial) (e : example l q allowance size ≡ x) where
    unspent : (kind x ≡ 11 → ⊥) → (t : Term) × FirstSpent l q allowance size t → ⊥
    unspent d w = other x (spent_at allowance) e ((exact.spent_exactly allowance).1 (refl, w)) d

    unreached : (kind x ≡ 0 → ⊥) → (t : Term) → Reached l q allowance size t → ⊥
    unreached d t r = other x (shows (bytes_in l t) (count_of l q t)) e (reached_shown t r) d

    satisfiable : (kind x ≡ 11 → ⊥) → (kind x ≡ 22 → ⊥) → ((t : Term) → Candidate l size t → Unsatisfied l q t) → ⊥
    satisfiable d g f =
        other x no_example e ((exact.none_exactly (λ n z. other x (spent_at n) e z d)).1 f) g

  by_trial : (x : Trial) → example l q allowance size ≡ x → Answered l q allowance size before (example_by x (length before)) (output_by x before)
  by_trial (shows s n) e = go (leb (length s) (length before)) refl
    where
      go : (m : Bool) → leb (length s) (length before) ≡ m
          → Answered l q allowance size before (cond m (Ok (Bound n (length s))) (Err Full)) (cond m (s ++ drop (length s) before) before)
      go true z =
          let h : length s ≤ length before = leb-true (length s) (length before) z in
          let w = shown_reached s n e in
          record {
            bound_exactly = (λ i. (w.0, w.1, omega (arith, h, ap length w.2)), λ i. refl);
            bound_shows = λ i.
                let t = exact.shows_least s n e in
                (t.0, t.1, t.4, t.3, record { written = refl; whole = ap length t.2; output = ap (λ (y : List ℕ). y ++ drop (length s) before) t.2 });
            spent_exactly = (λ i. absurd (omega (arith, i)), λ i. absurd (unspent (shows s n) e (λ y. omega (arith, y)) i));
            spent_shows = λ i. absurd (omega (arith, i));
            none_passed = (λ i. absurd (omega (arith, i)), λ f. absurd (satisfiable (shows s n) e (λ y. omega (arith, y)) (λ y. omega (arith, y)) (λ t c. (f t c).1)));
            none_exactly = λ d. (λ i. absurd (omega (arith, i)), λ f. absurd (satisfiable (shows s n) e (λ y. omega (arith, y)) (λ y. omega (arith, y)) f));
            full_exactly = (λ i. absurd (omega (arith, i)), λ i. absurd (omega (arith, h, i.2, same_bytes s n e i.0 i.1)));
          }
      go false z =
          let h : length before < length s = leb-false (length s) (length before) z in
          let w = shown_reached s n e in
          record {
            bound_exactly = (λ i. absurd (omega (arith, i)), λ i. absurd (omega (arith, h, i.2, same_bytes s n e i.0 i.1)));
            bound_shows = λ i. absurd (omega (arith, i));
            spent_exactly = (λ i. absurd (omega (arith, i)), λ i. absurd (unspent (shows s n) e (λ y. omega (arith, y)) i));
            spent_shows = λ i. absurd (omega (arith, i));
            none_passed = (λ i. absurd (omega (arith, i)), λ f. absurd (satisfiable (shows s n) e (λ y. omega (arith, y)) (λ y. omega (arith, y)) (λ t c. (f t c).1)));
            none_exactly = λ d. (λ i. absurd (omega (arith, i)), λ f. absurd (satisfiable (shows s n) e (λ y. omega (arith, y)) (λ y. omega (arith, y)) f));
            full_exactly = (λ i. (w.0, w.1, omega (arith, h, ap length w.2)), λ i. refl);
          }
  by_trial no_example e = record {
    bound_exactly = (λ i. absurd (omega (arith, i)), λ i. absurd (unreached no_example e (λ y. omega (arith, y)) i.0 i.1));
    bound_shows = λ i. absurd (omega (arith, i));
    spent_exactly = (λ i. absurd (omega (arith, i)), λ i. absurd (unspent no_example e (λ y. omega (arith, y)) i));
    spent_shows = λ i. absurd (omega (arith, i));
    none_passed = (λ i. exact.none_passed.0 e, λ f. refl);
    none_exactly = λ d. (λ i. (exact.none_exactly (λ n z. other no_example (spent_at n) e z (λ y. omega (arith, y)))).0 e, λ f. refl);
    full_exactly = (λ i. absurd (omega (arith, i)), λ i. absurd (unreached no_example e (λ y. omega (arith, y)) i.0 i.1));
  }
  by_trial (spent_at n) e = record {
    bound_exactly = (λ i. absurd (omega (arith, i)), λ i. absurd (unreached (spent_at n) e (λ y. omega (arith, y)) i.0 i.1));
    bound_shows = λ i. absurd (omega (arith, i));
    spent_exactly = (λ i. ((exact.spent_exactly n).0 e).1, λ i. refl);
    spent_shows = λ i. ((exact.spent_exactly n).0 e).0;
    none_passed = (λ i. absurd (omega (arith, i)), λ f. absurd (other (spent_at n) no_example e (exact.none_passed.1 f) (λ y. omega (arith, y))));
    none_exactly = λ d. absurd (d refl);
    full_exactly = (λ i. absurd (omega (arith, i)), λ i. absurd (unreached (spent_at n) e (λ y. omega (arith, y)) i.0 i.1));
  }

-- unless bound or spent nothing is counted, and unless bound nothing is written

uncounted : (x : Trial) (room : ℕ) → (applied_number (example_by x room) ≡ 0 → ⊥) → (applied_number (example_by x room) ≡ 11 → ⊥) → applied_count (example_by x room) ≡ 0
uncounted (shows s n) room d g = go (leb (length s) room) d
  where
    go : (m : Bool) → (applied_number (cond m (Ok (Bound n (length s))) (Err Full)) ≡ 0 → ⊥)
        → applied_count (cond m (Ok (Bound n (length s))) (Err Full)) ≡ 0
    go true y = absurd (y refl)
    go false y = refl
uncounted no_example room d g = refl
uncounted (spent_at n) room d g = absurd (g refl)

untouched : (x : Trial) (before : List ℕ) → (applied_number (example_by x (length before)) ≡ 0 → ⊥)
    → (applied_length (example_by x (length before)) ≡ 0) × (output_by x before ≡ before)
untouched (shows s n) before d = go (leb (length s) (length before)) d
  where
    go : (m : Bool) → (applied_number (cond m (Ok (Bound n (length s))) (Err Full)) ≡ 0 → ⊥)
        → (applied_length (cond m (Ok (Bound n (length s))) (Err Full)) ≡ 0) × (cond m (s ++ drop (length s) before) before ≡ before)
    go true y = absurd (y refl)
    go false y = (refl, refl)
untouched no_example before d = (refl, refl)
untouched (spent_at n) before d = (refl, refl)

past_stays : (x : Trial) (before : List ℕ)
    → drop (applied_length (example_by x (length before))) (output_by x before) ≡ drop (applied_length (example_by x (length before))) before
past_stays (shows s n) before = go (leb (length s) (length before))
  where
    go : (m : Bool) → drop (applied_length (cond m (Ok (Bound n (length s))) (Err Full))) (cond m (s ++ drop (length s) before) before)
        ≡ drop (applied_length (cond m (Ok (Bound n (length s))) (Err Full))) before
    go true = drop-append_seam s (drop (length s) before)
    go false = refl
past_stays no_example before = refl
past_stays (spent_at n) before = refl

-- of what the candidates come to, a short output and no example are refused
refused_which : (x : Trial) (room : ℕ) (r : Refusal) → applied_number (example_by x room) ≡ number_of r
    → (applied_number (example_by x room) ≡ 12) ⊎ (applied_number (example_by x room) ≡ 22)
refused_which (shows s n) room r e = go (leb (length s) room) e
  where
    go : (m : Bool) → applied_number (cond m (Ok (Bound n (length s))) (Err Full)) ≡ number_of r
        → (applied_number (cond m (Ok (Bound n (length s))) (Err Full)) ≡ 12) ⊎ (applied_number (cond m (Ok (Bound n (length s))) (Err Full)) ≡ 22)
    go true y = absurd (word_or_refusal 0 refl r y)
    go false y = inl refl
refused_which no_example room r e = inr refl
refused_which (spent_at n) room r e = absurd (word_or_refusal 11 refl r e)

-- the checks

module _ (brought : Brought) (pattern : List ℕ) (size : ℕ) where
  by_rule_holds : checked brought pattern size ≡ check (leb size largest_size) Long (rule_checked brought pattern answer_width)
  unfolding checked checks
  by_rule_holds = refl

  pub checked_long : largest_size < size → checked brought pattern size ≡ fault Long 0
  checked_long h = by_rule_holds ∙ ap (λ (m : Bool). check m Long (rule_checked brought pattern answer_width)) (lt-leb size largest_size h)

  pub checked_rule : size ≤ largest_size → checked brought pattern size ≡ rule_checked brought pattern answer_width
  checked_rule h = by_rule_holds ∙ ap (λ (m : Bool). check m Long (rule_checked brought pattern answer_width)) (le-leb size largest_size h)

  check_true : {X : Type 0} (m : Bool) (r : Refusal) (v : Verdict X) (x : X) → check m r v ≡ passed x → (m ≡ true) × (v ≡ passed x)
  check_true true r v x e = (refl, e)
  check_true false r v x e = absurd (fault_passed e)

  pub checked_input : Octets pattern → (q : Pattern) → checked brought pattern size ≡ passed q → Input brought pattern size q
  unfolding checked
  checked_input o q e =
      let a = check_true (leb size largest_size) Long _ q e in
      let b = check_true (table_accepted brought.table) _ _ q a.1 in
      let c = check_true (brought_accepted brought) _ _ q b.1 in
      let d = reading_passed (read_pattern (language_of brought) pattern) q c.1 in
      let p = pattern_read (language_of brought) pattern o d.0 q d.1 in
      record {
        size_accepted = leb-true size largest_size a.0;
        table_accepted_holds = b.0;
        classes_accepted_holds = c.0;
        pattern_bytes_holds = p.0;
        pattern_accepted = p.1;
      }

  input_checked : Octets pattern → (q : Pattern) → Input brought pattern size q → checked brought pattern size ≡ passed q
  unfolding checked
  input_checked o q i =
      rw (le-leb size largest_size i.size_accepted, i.table_accepted_holds, i.classes_accepted_holds, (pattern_iff (language_of brought) pattern o q).1 (i.pattern_bytes_holds, i.pattern_accepted))

  pub input_rule : (q : Pattern) → Input brought pattern size q → Rule (language_of brought) pattern q
  input_rule q i = record {
    table_accepted_holds = i.table_accepted_holds;
    classed = go brought.list i.classes_accepted_holds;
    pattern_bytes_holds = i.pattern_bytes_holds;
    pattern_accepted = i.pattern_accepted;
  }
    where
      go : (o : Option (List ℕ)) → list_accepted brought.table o ≡ true → Classed (language_in brought.edition brought.table o)
      go None e = inl refl
      go (Some c) e = inr e

  module _ (octets : Octets pattern) (allowance : ℕ) (before : List ℕ) where
    module _ (q : Pattern) (e : checked brought pattern size ≡ passed q) where
      abbrev come : Trial
      come = example (language_of brought) q allowance size

      abbrev Short : Pattern → Type 0
      Short p = (t : Term) × Reached (language_of brought) p allowance size t × (length before < length (bytes_in (language_of brought) t))

      shown : Answered (language_of brought) q allowance size before (example_by come (length before)) (output_by come before)
      shown =
          by_trial (language_of brought) q allowance size
          (exact_of (language_of brought) pattern q (input_rule q (checked_input octets q e)) allowance size) before come refl

      -- the pattern that is read is the only one
      only : (p : Pattern) → Input brought pattern size p → q ≡ p
      only p j = let z = sym e ∙ input_checked octets p j in cc

      refused_by_holds : (applied_number (example_by come (length before)) ≡ 12) ⊎ (applied_number (example_by come (length before)) ≡ 22)
          → Short q ⊎ AllPassed (language_of brought) q allowance size
      refused_by_holds (inl z) = inl (shown.full_exactly.0 z)
      refused_by_holds (inr z) = inr (shown.none_passed.0 z)

      refused_from : Short q ⊎ AllPassed (language_of brought) q allowance size → (r : Refusal) × (applied_number (example_by come (length before)) ≡ number_of r)
      refused_from (inl w) = (Full, shown.full_exactly.1 w)
      refused_from (inr w) = (NoExample, shown.none_passed.1 w)

      larger_trial : (more : ℕ) → (applied_number (example_by come (length before)) ≡ 11 → ⊥) → allowance ≤ more
          → example (language_of brought) q more size ≡ come
      larger_trial more d h =
          larger_example (language_of brought) q allowance more h size (λ n i. d (ap (λ (y : Trial). applied_number (example_by y (length before))) i))

    pub demanded : Demanded brought pattern size allowance before
        (example_of brought pattern size allowance (length before)) (output_of brought pattern size allowance before)
    unfolding example_of output_of
    demanded = go (checked brought pattern size) refl
      where
        go : (v : Verdict Pattern) → checked brought pattern size ≡ v
            → Demanded brought pattern size allowance before
            (answer_by refusal (λ q. example_by (example (language_of brought) q allowance size) (length before)) v)
            (answer_by (λ r i. before) (λ q. output_by (example (language_of brought) q allowance size) before) v)
        go (fault r i) e = record {
          refused_exactly = (λ x q j. absurd (fault_passed (sym e ∙ input_checked octets q j)), λ f. (r, refl));
          long_first = λ h. let z = sym e ∙ checked_long h in let y : r ≡ Long = cc in ap number_of y;
          uncounted = λ d g. refl;
          untouched = λ d. (refl, refl);
          past_stays = refl;
          larger_allowance = λ more d h. rw e (refl, refl);
          answered = λ q j. absurd (fault_passed (sym e ∙ input_checked octets q j));
        }
        go (passed q) e = record {
          refused_exactly = (
            λ y p j.
                subst (λ (x : Pattern). Short q e x ⊎ AllPassed (language_of brought) x allowance size) (only q e p j)
                (refused_by_holds q e (refused_which (come q e) (length before) y.0 y.1)),
            λ f. refused_from q e (f q (checked_input octets q e)),
          );
          long_first = λ h. absurd (fault_passed (sym (checked_long h) ∙ e));
          uncounted = uncounted (come q e) (length before);
          untouched = untouched (come q e) before;
          past_stays = past_stays (come q e) before;
          larger_allowance = λ more d h.
              let z = larger_trial q e more d h in
              rw e (ap (λ (y : Trial). example_by y (length before)) z, ap (λ (y : Trial). output_by y before) z);
          answered = λ p j. subst (λ (x : Pattern). Answered (language_of brought) x allowance size before (example_by (come q e) (length before)) (output_by (come q e) before))
              (only q e p j) (shown q e);
        }
