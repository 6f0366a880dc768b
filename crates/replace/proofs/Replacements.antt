-- What the search and the template come to, and the answer and the final output that are made of it, by the meaning alone.
use Prim.Native.Nat.{ℕ, ◌<◌, ◌≤◌}
use native.Mathlib.Omega.{arith}
use mathlib.Core.Path.{◌≡◌, refl, sym, ap, subst, ◌∙◌}
use mathlib.Core.Logic.{◌⊎◌, inl, inr}
use mathlib.Core.List.{List, []}
use mathlib.Core.Bool.{Bool, true, false, cond, true≢false}
use lib.Dec.{ltb}
use lib.ListN.{length, drop}
use lib.Seq.{drop_at}
use borrow.Author.Tests.{ltb-true, ltb-false}
use Rattle.answers.specs.Answers.{applied_number, applied_count, applied_length}
use Rattle.answers.specs.Refusal.{number_of}
use Rattle.answers.specs.declared.Refusal.{Refusal}
use Rattle.answers.specs.declared.Refusal.TheVariants.{Full, Outgrown}
use Rattle.answers.specs.declared.Applied.{Applied}
use Rattle.answers.specs.declared.Applied.TheVariants.{Bound, Spent}
use Rattle.answers.proofs.Numbers.{word_or_refusal}
use Rattle.term.specs.Class.{Alike}
use Rattle.term.specs.Term.{Term, size, term_tree, term_bytes}
use Rattle.term.specs.Pattern.{Pattern}
use Rattle.term.specs.Limits.{TermAccepted, PatternAccepted}
use Rattle.term.proofs.Sizes.{term_size, encode_append}
use Rattle.anti_pattern.specs.Answer.{count_of}
use Rattle.anti_pattern.specs.Demands.{Unsatisfied}
use Rattle.anti_pattern.specs.Language.{Language, TermOf}
use Rattle.anti_pattern.specs.Search.{Env, first_answer, whole}
use Rattle.anti_pattern.specs.Variables.{free}
use Rattle.anti_pattern.proofs.Demands.{search_decides}
use Rattle.replace.specs.Call.{Replacement, result, nothing, spent, replaced_by, replacement, measured, unless_full, written, apply_on, output_on}
use Rattle.replace.specs.Demands.{FirstShown, Replaced, Fitting}
use Rattle.replace.specs.Growth.{within_limits}
use Rattle.replace.specs.Instance.{instance}
use Rattle.replace.specs.Loose.{loose}
use Rattle.replace.specs.Splice.{spliced_in}
use Rattle.replace.proofs.Limits.{within_accepted}
use Rattle.replace.proofs.Results.{one_result, instance_replaced, replaced_of}
use Rattle.std.specs.Prelude.{Result, Ok, Err, Option, Some, None}

module _ (l : Language) (k : Alike l.table l.classes) (p q : Pattern) (t : Term) (of : TermOf l t) (n : ℕ) where
  pub data Came : Replacement → Type 0 where
    came_spent : n < count_of l p t → Came (spent n)
    came_none : count_of l p t ≤ n → Unsatisfied l p t → Came (nothing (count_of l p t))
    came_result : count_of l p t ≤ n → (e : Env) → first_answer (whole l p t).out ≡ Some e → Came (result (spliced_in l (instance q e.value)) (count_of l p t))

  came_by : count_of l p t ≤ n → (o : Option Env) → first_answer (whole l p t).out ≡ o → Came (replaced_by l q o (count_of l p t))
  came_by h (Some e) f = came_result h e f
  came_by h None f = came_none h ((search_decides l k p t of).failed_none f)

  pub replacement_came : Came (replacement l p q t n)
  unfolding replacement
  replacement_came = go (ltb n (count_of l p t)) refl
    where
      go : (b : Bool) → ltb n (count_of l p t) ≡ b → Came (cond b (spent n) (replaced_by l q (first_answer (whole l p t).out) (count_of l p t)))
      go true e = came_spent (ltb-true n (count_of l p t) e)
      go false e = came_by (ltb-false n (count_of l p t) e) (first_answer (whole l p t).out) refl

module _ (l : Language) (k : Alike l.table l.classes) (p q : Pattern) (t : Term) (of : TermOf l t) (rule : PatternAccepted l p)
    (template : PatternAccepted l q) (firm : loose (free p) q ≡ false)
    (shows : (e : Env) → first_answer (whole l p t).out ≡ Some e → FirstShown l p t e.value) where
  abbrev table : List ℕ
  table = l.table

  one : (u w : Term) → Replaced l p q t u → Replaced l p q t w → u ≡ w
  one = one_result l k p t of q rule template firm

  pub within_exactly : (u : Term) → Replaced l p q t u → (within_limits table u ≡ true → TermAccepted l u) × (TermAccepted l u → within_limits table u ≡ true)
  within_exactly u x = within_accepted l u (replaced_of l k p t of q rule template firm u x)

  module _ (n : ℕ) (before : List ℕ) where
    abbrev room : ℕ
    room = length before

    abbrev Enough : Type 0
    Enough = count_of l p t ≤ n

    pub data Ended : Result Applied Refusal → List ℕ → Type 0 where
      ended_spent : n < count_of l p t → Ended (Ok (Spent n)) before
      ended_none : count_of l p t ≤ n → Unsatisfied l p t → Ended (Ok (Applied.None (count_of l p t))) before
      ended_bound : count_of l p t ≤ n → (u : Term) → Replaced l p q t u → TermAccepted l u → size table u ≤ room
          → Ended (Ok (Bound (count_of l p t) (size table u))) (term_bytes table u (drop (size table u) before))
      ended_full : count_of l p t ≤ n → (u : Term) → Replaced l p q t u → TermAccepted l u → room < size table u → Ended (Err Full) before
      ended_outgrown : count_of l p t ≤ n → (u : Term) → Replaced l p q t u → (TermAccepted l u → ⊥) → Ended (Err Outgrown) before

    ended_by : (r : Replacement) → Came l k p q t of n r → Ended (unless_full room (measured table r)) (written table r (unless_full room (measured table r)) before)
    ended_by (spent m) (came_spent h) = ended_spent h
    ended_by (nothing m) (came_none h f) = ended_none h f
    ended_by (result w m) (came_result h e f) = go (within_limits table u) refl
      where
        u : Term
        u = spliced_in l (instance q e.value)

        x : Replaced l p q t u
        x = instance_replaced l k p t of q rule template firm e.value (shows e f)

        fill : within_limits table u ≡ true → (b : Bool) → ltb room (size table u) ≡ b
            → Ended (cond b (Err Full) (Ok (Bound (count_of l p t) (size table u)))) (written table (result u (count_of l p t)) (cond b (Err Full) (Ok (Bound (count_of l p t) (size table u)))) before)
        fill w true e = ended_full h u x ((within_exactly u x).0 w) (ltb-true room (size table u) e)
        fill w false e = ended_bound h u x ((within_exactly u x).0 w) (ltb-false room (size table u) e)

        go : (b : Bool) → within_limits table u ≡ b
            → Ended (unless_full room (cond b (Ok (Bound (count_of l p t) (size table u))) (Err Outgrown)))
            (written table (result u (count_of l p t)) (unless_full room (cond b (Ok (Bound (count_of l p t) (size table u))) (Err Outgrown))) before)
        go true w = fill w (ltb room (size table u)) refl
        go false w = ended_outgrown h u x (λ a. true≢false (sym ((within_exactly u x).1 a) ∙ w))

    pub ended : Ended (apply_on l p q t n room) (output_on l p q t n before)
    ended = ended_by (replacement l p q t n) (replacement_came l k p q t of n)

    same_size : (u w : Term) → Replaced l p q t u → Replaced l p q t w → length (term_bytes table u []) ≡ size table w
    same_size u w x y = term_size table u ∙ ap (size table) (one u w x y)

    same_accepted : (u w : Term) → Replaced l p q t u → Replaced l p q t w → TermAccepted l u → TermAccepted l w
    same_accepted u w x y h = subst (TermAccepted l) (one u w x y) h

    pub spent_to : (a : Result Applied Refusal) (after : List ℕ) → Ended a after → applied_number a ≡ 11 → n < count_of l p t
    spent_to a after (ended_spent h) e = h
    spent_to a after (ended_none h f) e = absurd (omega arith)
    spent_to a after (ended_bound h u x k' r) e = absurd (omega arith)
    spent_to a after (ended_full h u x k' r) e = absurd (omega arith)
    spent_to a after (ended_outgrown h u x k') e = absurd (omega arith)

    pub spent_from : (a : Result Applied Refusal) (after : List ℕ) → Ended a after → n < count_of l p t → applied_number a ≡ 11
    spent_from a after (ended_spent h) e = refl
    spent_from a after (ended_none h f) e = absurd (omega arith)
    spent_from a after (ended_bound h u x k' r) e = absurd (omega arith)
    spent_from a after (ended_full h u x k' r) e = absurd (omega arith)
    spent_from a after (ended_outgrown h u x k') e = absurd (omega arith)

    pub spent_count : (a : Result Applied Refusal) (after : List ℕ) → Ended a after → applied_number a ≡ 11 → applied_count a ≡ n
    spent_count a after (ended_spent h) e = refl
    spent_count a after (ended_none h f) e = absurd (omega arith)
    spent_count a after (ended_bound h u x k' r) e = absurd (omega arith)
    spent_count a after (ended_full h u x k' r) e = absurd (omega arith)
    spent_count a after (ended_outgrown h u x k') e = absurd (omega arith)

    pub none_to : (a : Result Applied Refusal) (after : List ℕ) → Ended a after → applied_number a ≡ 10 → Enough × Unsatisfied l p t
    none_to a after (ended_spent h) e = absurd (omega arith)
    none_to a after (ended_none h f) e = (h, f)
    none_to a after (ended_bound h u x k' r) e = absurd (omega arith)
    none_to a after (ended_full h u x k' r) e = absurd (omega arith)
    none_to a after (ended_outgrown h u x k') e = absurd (omega arith)

    pub none_from : (a : Result Applied Refusal) (after : List ℕ) → Ended a after → Enough × Unsatisfied l p t → applied_number a ≡ 10
    none_from a after (ended_spent h) e = absurd (omega (arith, e.0))
    none_from a after (ended_none h f) e = refl
    none_from a after (ended_bound h u x k' r) e = absurd (e.1 x.answer x.shown.first.satisfies)
    none_from a after (ended_full h u x k' r) e = absurd (e.1 x.answer x.shown.first.satisfies)
    none_from a after (ended_outgrown h u x k') e = absurd (e.1 x.answer x.shown.first.satisfies)

    pub bound_to : (a : Result Applied Refusal) (after : List ℕ) → Ended a after → applied_number a ≡ 0 → Enough × ((u : Term) × Replaced l p q t u × Fitting l room u)
    bound_to a after (ended_spent h) e = absurd (omega arith)
    bound_to a after (ended_none h f) e = absurd (omega arith)
    bound_to a after (ended_bound h u x k' r) e = (h, (u, x, (k', omega (arith, term_size table u))))
    bound_to a after (ended_full h u x k' r) e = absurd (omega arith)
    bound_to a after (ended_outgrown h u x k') e = absurd (omega arith)

    pub bound_from : (a : Result Applied Refusal) (after : List ℕ) → Ended a after → Enough × ((u : Term) × Replaced l p q t u × Fitting l room u) → applied_number a ≡ 0
    bound_from a after (ended_spent h) e = absurd (omega (arith, e.0))
    bound_from a after (ended_none h f) e = absurd (f e.1.1.answer e.1.1.shown.first.satisfies)
    bound_from a after (ended_bound h u x k' r) e = refl
    bound_from a after (ended_full h u x k' r) e = absurd (omega (arith, e.1.2.1, same_size e.1.0 u e.1.1 x))
    bound_from a after (ended_outgrown h u x k') e = absurd (k' (same_accepted e.1.0 u e.1.1 x e.1.2.0))

    pub outgrown_to : (a : Result Applied Refusal) (after : List ℕ) → Ended a after → applied_number a ≡ number_of Outgrown → Enough × ((u : Term) × Replaced l p q t u × (TermAccepted l u → ⊥))
    outgrown_to a after (ended_spent h) e = absurd (omega arith)
    outgrown_to a after (ended_none h f) e = absurd (omega arith)
    outgrown_to a after (ended_bound h u x k' r) e = absurd (omega arith)
    outgrown_to a after (ended_full h u x k' r) e = absurd (omega arith)
    outgrown_to a after (ended_outgrown h u x k') e = (h, (u, x, k'))

    pub outgrown_from : (a : Result Applied Refusal) (after : List ℕ) → Ended a after → Enough × ((u : Term) × Replaced l p q t u × (TermAccepted l u → ⊥)) → applied_number a ≡ number_of Outgrown
    outgrown_from a after (ended_spent h) e = absurd (omega (arith, e.0))
    outgrown_from a after (ended_none h f) e = absurd (f e.1.1.answer e.1.1.shown.first.satisfies)
    outgrown_from a after (ended_bound h u x k' r) e = absurd (e.1.2 (same_accepted u e.1.0 x e.1.1 k'))
    outgrown_from a after (ended_full h u x k' r) e = absurd (e.1.2 (same_accepted u e.1.0 x e.1.1 k'))
    outgrown_from a after (ended_outgrown h u x k') e = refl

    pub full_to : (a : Result Applied Refusal) (after : List ℕ) → Ended a after → applied_number a ≡ number_of Full → Enough × ((u : Term) × Replaced l p q t u × TermAccepted l u × (room < length (term_bytes table u [])))
    full_to a after (ended_spent h) e = absurd (omega arith)
    full_to a after (ended_none h f) e = absurd (omega arith)
    full_to a after (ended_bound h u x k' r) e = absurd (omega arith)
    full_to a after (ended_full h u x k' r) e = (h, (u, x, k', omega (arith, term_size table u)))
    full_to a after (ended_outgrown h u x k') e = absurd (omega arith)

    pub full_from : (a : Result Applied Refusal) (after : List ℕ) → Ended a after → Enough × ((u : Term) × Replaced l p q t u × TermAccepted l u × (room < length (term_bytes table u []))) → applied_number a ≡ number_of Full
    full_from a after (ended_spent h) e = absurd (omega (arith, e.0))
    full_from a after (ended_none h f) e = absurd (f e.1.1.answer e.1.1.shown.first.satisfies)
    full_from a after (ended_bound h u x k' r) e = absurd (omega (arith, e.1.3, same_size e.1.0 u e.1.1 x))
    full_from a after (ended_full h u x k' r) e = refl
    full_from a after (ended_outgrown h u x k') e = absurd (k' (same_accepted e.1.0 u e.1.1 x e.1.2))

    neither_word : (m : ℕ) → (m ≡ 10 → ⊥) → (m ≡ 0 → ⊥) → (m ≡ 10) ⊎ (m ≡ 0) → ⊥
    neither_word m f g (inl e) = f e
    neither_word m f g (inr e) = g e

    pub shows_count : (a : Result Applied Refusal) (after : List ℕ) → Ended a after → (applied_number a ≡ 10) ⊎ (applied_number a ≡ 0) → applied_count a ≡ count_of l p t
    shows_count a after (ended_spent h) e = absurd (neither_word 11 (λ z. omega arith) (λ z. omega arith) e)
    shows_count a after (ended_none h f) e = refl
    shows_count a after (ended_bound h u x k' r) e = refl
    shows_count a after (ended_full h u x k' r) e = absurd (neither_word (number_of Full) (λ z. omega arith) (λ z. omega arith) e)
    shows_count a after (ended_outgrown h u x k') e = absurd (neither_word (number_of Outgrown) (λ z. omega arith) (λ z. omega arith) e)

    pub shows_length : (a : Result Applied Refusal) (after : List ℕ) → Ended a after → (w : Term) → applied_number a ≡ 0 → Replaced l p q t w → applied_length a ≡ length (term_bytes table w [])
    shows_length a after (ended_spent h) w e y = absurd (omega arith)
    shows_length a after (ended_none h f) w e y = absurd (omega arith)
    shows_length a after (ended_bound h u x k' r) w e y = sym (same_size w u y x)
    shows_length a after (ended_full h u x k' r) w e y = absurd (omega arith)
    shows_length a after (ended_outgrown h u x k') w e y = absurd (omega arith)

    pub writes : (a : Result Applied Refusal) (after : List ℕ) → Ended a after → (w : Term) → applied_number a ≡ 0 → Replaced l p q t w → after ≡ term_bytes table w (drop (length (term_bytes table w [])) before)
    writes a after (ended_spent h) w e y = absurd (omega arith)
    writes a after (ended_none h f) w e y = absurd (omega arith)
    writes a after (ended_bound h u x k' r) w e y = ap (λ (v : Term). term_bytes table v (drop (size table v) before)) (one u w x y)
        ∙ ap (λ (i : ℕ). term_bytes table w (drop i before)) (sym (term_size table w))
    writes a after (ended_full h u x k' r) w e y = absurd (omega arith)
    writes a after (ended_outgrown h u x k') w e y = absurd (omega arith)

    pub refused_to : (a : Result Applied Refusal) (after : List ℕ) → Ended a after → (r : Refusal) × (applied_number a ≡ number_of r) → Enough × ((u : Term) × Replaced l p q t u × (Fitting l room u → ⊥))
    refused_to a after (ended_spent h) e = absurd (word_or_refusal 11 refl e.0 e.1)
    refused_to a after (ended_none h f) e = absurd (word_or_refusal 10 refl e.0 e.1)
    refused_to a after (ended_bound h u x k' r) e = absurd (word_or_refusal 0 refl e.0 e.1)
    refused_to a after (ended_full h u x k' r) e = (h, (u, x, λ g. omega (arith, g.1, term_size table u)))
    refused_to a after (ended_outgrown h u x k') e = (h, (u, x, λ g. k' g.0))

    pub refused_from : (a : Result Applied Refusal) (after : List ℕ) → Ended a after → Enough × ((u : Term) × Replaced l p q t u × (Fitting l room u → ⊥)) → (r : Refusal) × (applied_number a ≡ number_of r)
    refused_from a after (ended_spent h) e = absurd (omega (arith, e.0))
    refused_from a after (ended_none h f) e = absurd (f e.1.1.answer e.1.1.shown.first.satisfies)
    refused_from a after (ended_bound h u x k' r) e = absurd (e.1.2 (same_accepted u e.1.0 x e.1.1 k', omega (arith, same_size e.1.0 u e.1.1 x)))
    refused_from a after (ended_full h u x k' r) e = (Full, refl)
    refused_from a after (ended_outgrown h u x k') e = (Outgrown, refl)

    pub no_count : (a : Result Applied Refusal) (after : List ℕ) → Ended a after → (r : Refusal) → applied_number a ≡ number_of r → applied_count a ≡ 0
    no_count a after (ended_spent h) s e = absurd (word_or_refusal 11 refl s e)
    no_count a after (ended_none h f) s e = absurd (word_or_refusal 10 refl s e)
    no_count a after (ended_bound h u x k' r) s e = absurd (word_or_refusal 0 refl s e)
    no_count a after (ended_full h u x k' r) s e = refl
    no_count a after (ended_outgrown h u x k') s e = refl

    pub untouched : (a : Result Applied Refusal) (after : List ℕ) → Ended a after → (applied_number a ≡ 0 → ⊥) → after ≡ before
    untouched a after (ended_spent h) e = refl
    untouched a after (ended_none h f) e = refl
    untouched a after (ended_bound h u x k' r) e = absurd (e refl)
    untouched a after (ended_full h u x k' r) e = refl
    untouched a after (ended_outgrown h u x k') e = refl

    pub no_length : (a : Result Applied Refusal) (after : List ℕ) → Ended a after → (applied_number a ≡ 0 → ⊥) → applied_length a ≡ 0
    no_length a after (ended_spent h) e = refl
    no_length a after (ended_none h f) e = refl
    no_length a after (ended_bound h u x k' r) e = absurd (e refl)
    no_length a after (ended_full h u x k' r) e = refl
    no_length a after (ended_outgrown h u x k') e = refl

    pub past_stays : (a : Result Applied Refusal) (after : List ℕ) → Ended a after → drop (applied_length a) after ≡ drop (applied_length a) before
    past_stays a after (ended_spent h) = refl
    past_stays a after (ended_none h f) = refl
    past_stays a after (ended_bound h u x k' r) = ap (drop (size table u)) (encode_append table (term_tree u) [] (drop (size table u) before))
        ∙ drop_at (term_bytes table u []) (drop (size table u) before) (size table u) (term_size table u)
    past_stays a after (ended_full h u x k' r) = refl
    past_stays a after (ended_outgrown h u x k') = refl
