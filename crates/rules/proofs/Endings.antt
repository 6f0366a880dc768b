-- Where trying the rules ends: at the first that is bound or spent, or past the last.
use Prim.Native.Nat.{ℕ, suc, ◌+◌, ◌≤◌}
use native.Mathlib.Omega.{arith}
use mathlib.Core.Path.{◌≡◌, refl, sym, ◌∙◌, ap, ap₂, subst}
use mathlib.Core.List.{List, [], ◌∷◌, ◌++◌, append-nil}
use lib.ListN.{length}
use Rattle.answers.specs.Answers.{rule_number}
use Rattle.answers.specs.declared.Part.{Part}
use Rattle.term.specs.Class.{Alike}
use Rattle.term.specs.Term.{Term}
use Rattle.term.specs.Pattern.{Pattern}
use Rattle.anti_pattern.specs.Answer.{Matching, bound, nothing, spent, count_of, answer}
use Rattle.anti_pattern.specs.Language.{Language, TermOf}
use Rattle.anti_pattern.proofs.Demands.{answer_exact}
use Rattle.rules.specs.Trial.{Trial, bound_at, none_of, spent_at, try_one, try_each, try_rules}
use Rattle.rules.specs.Call.{told}
use Rattle.rules.specs.Demands.{IsNone, EachNone, counts, Reached}

module _ (l : Language) (t : Term) (allowance : ℕ) where
  -- where trying ends
  pub data Ends (qs : List Pattern) : Trial → Type 0 where
    ends_bound : {k : ℕ} {q : Pattern} {sum : ℕ} {ps : List Part} {n : ℕ} → Reached l qs t allowance k q sum → answer l q t allowance ≡ bound ps n
        → Ends qs (bound_at k ps (sum + n))
    ends_none : EachNone l t allowance qs → Ends qs (none_of (counts l t qs))
    ends_spent : {k : ℕ} {q : Pattern} {sum n : ℕ} → Reached l qs t allowance k q sum → answer l q t allowance ≡ spent n
        → Ends qs (spent_at k (sum + n))

  first_reached : (q : Pattern) (qs : List Pattern) → Reached l (q ∷ qs) t allowance 0 q 0
  first_reached q qs = record { earlier = []; later = qs; rules = refl; index = refl; passed = tt; summed = refl }

  reached_next : {p : Pattern} {qs : List Pattern} {k : ℕ} {q : Pattern} {sum : ℕ} → IsNone l t allowance p
      → Reached l qs t allowance k q sum → Reached l (p ∷ qs) t allowance (suc k) q (count_of l p t + sum)
  reached_next {p} h r = record {
    earlier = p ∷ r.earlier;
    later = r.later;
    rules = ap (λ (l : List Pattern). p ∷ l) r.rules;
    index = ap suc r.index;
    passed = (h, r.passed);
    summed = ap (λ (s : ℕ). count_of l p t + s) r.summed;
  }

module _ (l : Language) (alike : Alike l.table l.classes) (t : Term) (of : TermOf l t) (allowance : ℕ) where
  -- the rules from index i on
  abbrev try_from : ℕ → ℕ → ℕ → List Pattern → Trial
  try_from allowed i sum qs = try_each (λ q. answer l q t allowed) i sum qs

  -- rules that are none are passed over
  passed_over : (ps rest : List Pattern) (i sum : ℕ) → EachNone l t allowance ps
      → try_from allowance i sum (ps ++ rest) ≡ try_from allowance (i + length ps) (sum + counts l t ps) rest
  unfolding try_each
  passed_over [] rest i sum h =
      let k : i ≡ i + 0 = omega arith in
      let s : sum ≡ sum + 0 = omega arith in
      ap₂ (λ (x y : ℕ). try_from allowance x y rest) k s
  passed_over (p ∷ ps) rest i sum h =
      let n = count_of l p t in
      let e : answer l p t allowance ≡ nothing n = ((answer_exact l alike p t of allowance).none_exactly n).1 (refl, h.0.0, h.0.1) in
      let k : i + 1 + length ps ≡ i + suc (length ps) = omega arith in
      let s : sum + n + counts l t ps ≡ sum + (n + counts l t ps) = omega arith in
      rw e (passed_over ps rest (i + 1) (sum + n) h.1 ∙ ap₂ (λ (x y : ℕ). try_from allowance x y rest) k s)

  passed_first : (ps rest : List Pattern) (k sum : ℕ) → EachNone l t allowance ps → k ≡ length ps → sum ≡ counts l t ps
      → try_rules l (ps ++ rest) t allowance ≡ try_from allowance k sum rest
  passed_first ps rest k sum h e f =
      let x : 0 + length ps ≡ k = omega arith in
      let y : 0 + counts l t ps ≡ sum = omega arith in
      passed_over ps rest 0 0 h ∙ ap₂ (λ (x y : ℕ). try_from allowance x y rest) x y

  pub trial_none : (qs : List Pattern) → EachNone l t allowance qs → try_rules l qs t allowance ≡ none_of (counts l t qs)
  unfolding try_each
  trial_none qs h = ap (try_from allowance 0 0) (sym (append-nil qs)) ∙ passed_first qs [] _ _ h refl refl

  module _ {qs : List Pattern} {k : ℕ} {q : Pattern} {sum : ℕ} (r : Reached l qs t allowance k q sum) where
    trial_at : try_rules l qs t allowance ≡ try_one k sum (answer l q t allowance) (λ s. try_from allowance (k + 1) s r.later)
    unfolding try_each
    trial_at = ap (try_from allowance 0 0) r.rules ∙ passed_first r.earlier (q ∷ r.later) k sum r.passed r.index r.summed

    pub trial_bound : (ps : List Part) (n : ℕ) → answer l q t allowance ≡ bound ps n → try_rules l qs t allowance ≡ bound_at k ps (sum + n)
    trial_bound ps n e = rw e at trial_at

    pub trial_spent : (n : ℕ) → answer l q t allowance ≡ spent n → try_rules l qs t allowance ≡ spent_at k (sum + n)
    trial_spent n e = rw e at trial_at

  -- and there is always such an end

  data Ending (qs : List Pattern) : Type 0 where
    ending : (x : Trial) → try_rules l qs t allowance ≡ x → Ends l t allowance qs x → Ending qs

  ending_of : (qs : List Pattern) → Ending qs
  unfolding try_each
  ending_of [] = ending (none_of 0) refl (ends_none tt)
  ending_of (p ∷ qs) = go (answer l p t allowance) refl (ending_of qs)
    where
      go : (o : Matching) → answer l p t allowance ≡ o → Ending qs → Ending (p ∷ qs)
      go (bound ps n) e rest = ending _ (trial_bound (first_reached l t allowance p qs) ps n e) (ends_bound (first_reached l t allowance p qs) e)
      go (spent n) e rest = ending _ (trial_spent (first_reached l t allowance p qs) n e) (ends_spent (first_reached l t allowance p qs) e)
      go (nothing n) e (ending x z f) =
          let a = ((answer_exact l alike p t of allowance).none_exactly n).0 e in
          more (a.1, a.2) f
        where
          more : IsNone l t allowance p → {x : Trial} → Ends l t allowance qs x → Ending (p ∷ qs)
          more h (ends_bound {ps = ps} {n = m} r f) = ending _ (trial_bound (reached_next l t allowance h r) ps m f) (ends_bound (reached_next l t allowance h r) f)
          more h (ends_none g) = ending _ (trial_none (p ∷ qs) (h, g)) (ends_none (h, g))
          more h (ends_spent {n = m} r f) = ending _ (trial_spent (reached_next l t allowance h r) m f) (ends_spent (reached_next l t allowance h r) f)

  pub trial_ends : (qs : List Pattern) → Ends l t allowance qs (try_rules l qs t allowance)
  trial_ends qs = go (ending_of qs)
    where
      go : Ending qs → Ends l t allowance qs (try_rules l qs t allowance)
      go (ending x z f) = subst (Ends l t allowance qs) (sym z) f

  -- unless a rule is spent, a larger allowance changes nothing
  larger_from : (more : ℕ) → allowance ≤ more → (qs : List Pattern) (i sum : ℕ) → (rule_number (told (try_from allowance i sum qs)) ≡ 11 → ⊥)
      → try_from more i sum qs ≡ try_from allowance i sum qs
  unfolding try_each
  larger_from more h [] i sum k = refl
  larger_from more h (q ∷ qs) i sum k = go (answer l q t allowance) refl k (larger_from more h qs (i + 1))
    where
      go : (o : Matching) → answer l q t allowance ≡ o
          → (rule_number (told (try_one i sum o (λ s. try_from allowance (i + 1) s qs))) ≡ 11 → ⊥)
          → ((s : ℕ) → (rule_number (told (try_from allowance (i + 1) s qs)) ≡ 11 → ⊥) → try_from more (i + 1) s qs ≡ try_from allowance (i + 1) s qs)
          → try_one i sum (answer l q t more) (λ s. try_from more (i + 1) s qs)
          ≡ try_one i sum (answer l q t allowance) (λ s. try_from allowance (i + 1) s qs)
      go (bound ps n) e k rest =
          let a = answer_exact l alike q t of allowance in
          rw (a.larger_allowance more ((a.bound_exactly ps n).0 e).1 h, e)
      go (nothing n) e k rest =
          let a = answer_exact l alike q t of allowance in
          rw (a.larger_allowance more ((a.none_exactly n).0 e).1 h, e) (rest (sum + n) k)
      go (spent n) e k rest = absurd (k refl)

  pub larger_trial : (more : ℕ) → allowance ≤ more → (qs : List Pattern) → (rule_number (told (try_rules l qs t allowance)) ≡ 11 → ⊥)
      → try_rules l qs t more ≡ try_rules l qs t allowance
  larger_trial more h qs k = larger_from more h qs 0 0 k
