-- What trying strings one by one comes to.
use Prim.Native.Nat.{ℕ, ◌<◌, ◌≤◌}
use mathlib.Core.Path.{◌≡◌, refl, sym, ◌∙◌, subst}
use mathlib.Core.List.{List, [], ◌∷◌, ◌++◌}
use native.Mathlib.Omega.{arith}
use Rattle.answers.specs.declared.Refusal.{Refusal}
use Rattle.term.specs.Class.{Alike}
use Rattle.term.specs.Pattern.{Pattern}
use Rattle.term.specs.Term.{Term}
use Rattle.reader.specs.Reading.{Parsed, refused, read, read_record}
use Rattle.reader.proofs.Typed.{record_read}
use Rattle.anti_pattern.specs.Answer.{Matching, bound, nothing, spent, count_of, answer}
use Rattle.anti_pattern.specs.Demands.{AnswerExact}
use Rattle.anti_pattern.specs.Language.{Language}
use Rattle.anti_pattern.specs.Meaning.{Assignment, Satisfies}
use Rattle.anti_pattern.specs.Order.{All}
use Rattle.anti_pattern.proofs.Demands.{answer_exact}
use Rattle.anti_pattern.proofs.Within.{accepted_of}
use Rattle.example.specs.Least.{Passed}
use Rattle.example.specs.Trial.{Trial, shows, no_example, spent_at, by_answer, try_one, try_each}
use Rattle.example.proofs.Ordered.{Bytes}
use Rattle.example.proofs.Records.{bytes_octets, one_reading}

module _ (l : Language) (k : Alike l.table l.classes) (q : Pattern) (allowance : ℕ) where
  -- the string is no record, or it is passed over
  abbrev pub PassedAt : List ℕ → Type 0
  PassedAt s = (t : Term) (n : ℕ) → read_record l s ≡ read t n → Passed l q allowance t

  pub data Scan : List (List ℕ) → Trial → Type 0 where
    at_bound : (before : List (List ℕ)) (s : List ℕ) (later : List (List ℕ)) (t : Term) (n : ℕ) → All PassedAt before
        → read_record l s ≡ read t n → count_of l q t ≤ allowance → ((a : Assignment) × Satisfies l q t a)
        → Scan (before ++ (s ∷ later)) (shows s (count_of l q t))
    at_spent : (before : List (List ℕ)) (s : List ℕ) (later : List (List ℕ)) (t : Term) (n : ℕ) → All PassedAt before
        → read_record l s ≡ read t n → allowance < count_of l q t → Scan (before ++ (s ∷ later)) (spent_at allowance)
    at_end : {ss : List (List ℕ)} → All PassedAt ss → Scan ss no_example

  go_on : (s : List ℕ) {ss : List (List ℕ)} {x : Trial} → PassedAt s → Scan ss x → Scan (s ∷ ss) x
  go_on s p (at_bound before r later t n h i j f) = at_bound (s ∷ before) r later t n (p, h) i j f
  go_on s p (at_spent before r later t n h i j) = at_spent (s ∷ before) r later t n (p, h) i j
  go_on s {ss} p (at_end h) = at_end {ss = s ∷ ss} (p, h)

  refused_passed : (s : List ℕ) (r : Refusal) → read_record l s ≡ refused r → PassedAt s
  refused_passed s r h t n i = let y = sym h ∙ i in let z : ◌≡◌ {A = ℕ} 0 1 = cc in absurd (omega arith)

  -- the answer of a string that is read as a record
  pub read_exact : (s : List ℕ) → Bytes s → (t : Term) (n : ℕ) → read_record l s ≡ read t n → AnswerExact l q t allowance
  read_exact s b t n h = answer_exact l k q t (accepted_of l t (record_read l s (bytes_octets s b) n t h).1) allowance

  module _ (s : List ℕ) (b : Bytes s) (ss : List (List ℕ)) (rest : Scan ss (try_each l q allowance ss)) where
    by_answer_holds : (t : Term) (n : ℕ) → read_record l s ≡ read t n → (x : Matching) → answer l q t allowance ≡ x
        → Scan (s ∷ ss) (by_answer s x (λ y. try_each l q allowance ss))
    by_answer_holds t n h (bound ps m) e =
        let d = ((read_exact s b t n h).bound_exactly ps m).0 e in
        subst (λ (i : ℕ). Scan (s ∷ ss) (shows s i)) (sym d.0) (at_bound [] s ss t n tt h d.1 (d.2.0, d.2.1.satisfies))
    by_answer_holds t n h (nothing m) e =
        let d = ((read_exact s b t n h).none_exactly m).0 e in
        go_on s (λ u i g. subst (Passed l q allowance) (one_reading l s t u n i h g) (d.1, d.2)) rest
    by_answer_holds t n h (spent m) e =
        let d = ((read_exact s b t n h).spent_exactly m).0 e in
        subst (λ (i : ℕ). Scan (s ∷ ss) (spent_at i)) (sym d.0) (at_spent [] s ss t n tt h d.1)

    by_reading : (r : Parsed Term) → read_record l s ≡ r → Scan (s ∷ ss) (try_one l q allowance s r (λ y. try_each l q allowance ss))
    by_reading (refused r) h = go_on s (refused_passed s r h) rest
    by_reading (read t n) h = by_answer_holds t n h (answer l q t allowance) refl

  pub scan : (ss : List (List ℕ)) → All Bytes ss → Scan ss (try_each l q allowance ss)
  unfolding try_each
  scan [] b = at_end {ss = []} tt
  scan (s ∷ ss) b = by_reading s b.0 ss (scan ss b.1) (read_record l s) refl
