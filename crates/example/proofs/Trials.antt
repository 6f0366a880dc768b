-- What trying one string, a turn and all strings of a length tell.
use Prim.Native.Nat.{ℕ, zero, suc, ◌+◌, ◌-◌, ◌<◌, ◌≤◌}
use mathlib.Core.Path.{◌≡◌, refl, sym, ◌∙◌, ap, ap₂, subst}
use mathlib.Core.Logic.{inl, inr}
use mathlib.Core.List.{List, ◌++◌, ◌∷◌}
use mathlib.Core.Bool.{Bool, true, false}
use native.Mathlib.Omega.{arith}
use lib.ListN.{length, get_or, take, drop, replicate, length-replicate}
use lib.Seq.{take-length, take_all, take_at, length-take-le}
use Rattle.answers.specs.declared.Answer.{Answer}
use Rattle.answers.specs.declared.Refusal.{Refusal}
use Rattle.term.specs.Limits.{TermAccepted, Octets}
use Rattle.term.specs.Pattern.{Pattern}
use Rattle.term.specs.Term.{Term}
use Rattle.reader.specs.Reading.{read, shown, read_record}
use Rattle.reader.proofs.Typed.{record_read}
use Rattle.reader.proofs.Answers.{ends_shown}
use Rattle.anti_pattern.specs.Answer.{Matching, bound, nothing, spent, answer}
use Rattle.anti_pattern.specs.Demands.{AnswerExact}
use Rattle.anti_pattern.specs.Language.{Language}
use Rattle.anti_pattern.proofs.Demands.{answer_exact}
use Rattle.anti_pattern.proofs.Within.{accepted_of}
use Rattle.parts.specs.Shown.{answer_width}
use Rattle.link.specs.Input.{Input}
use Rattle.matcher.specs.Call.{told, answer_on_bytes}
use Rattle.matcher.proofs.Matched.{bytes_answered}
use Rattle.example.specs.Least.{bytes_in, Passed, Behind}
use Rattle.example.specs.Call.{largest_size}
use Rattle.example.specs.Inner.{Rule, Lowers, LooksAt, Tries, Ends, Cleared, TriesOne, TriesNext, TriesLength, TriesSizes}
use Rattle.example.specs.Strings.{Earlier}
use Rattle.example.specs.Odometer.{Stepped, Advances}
use Rattle.example.specs.declared.End.{End}
use Rattle.example.specs.declared.End.TheVariants.{Bound, Spent}
use Rattle.example.proofs.Ranks.{rank, power_of}
use Rattle.example.proofs.Ordered.{Bytes}
use Rattle.example.proofs.Records.{accepted_read, one_reading, some_bytes}
use Rattle.example.proofs.Stepping.{zeros_bytes, zeros_least, stepped_long, stepped_is_bytes, left_falls, stepped_behind, all_behind}
use Rattle.example.proofs.Twins.{classed_alike}
use Rattle.std.specs.Prelude.{Result, Ok, Err, Some}
use Rattle.std.specs.Result.{is_err}

-- what an answer makes of a string
abbrev pub tried_by : Result Answer Refusal → Result (Unit {0}) End
tried_by (Ok (Answer.Bound n)) = Err (Bound n)
tried_by (Ok (Answer.None n)) = Ok tt
tried_by (Ok (Answer.Spent n)) = Err Spent
tried_by (Err r) = Ok tt

module _ (l : Language) (pattern s : List ℕ) (allowance : ℕ) where
  -- no record
  pub tries_refused : (x : Result ℕ Refusal) → x ≡ shown (read_record l s) → is_err x ≡ true → TriesOne l pattern s allowance (Ok tt)
  unfolding shown
  tries_refused (Ok n) e d q rule t a i = let z : ◌≡◌ {A = ℕ} 0 1 = cc in absurd (omega arith)
  tries_refused (Err r) e d q rule t a i =
      let z : read_record l s ≡ read t (length (bytes_in l t)) =
      subst (λ (x : List ℕ). read_record l x ≡ read t (length (bytes_in l t))) (sym i) (accepted_read l rule.table_accepted_holds t a) in
      let y : Err r ≡ Ok (length (bytes_in l t)) = e ∙ ap shown z in
      let x : ◌≡◌ {A = ℕ} 0 1 = cc in absurd (omega arith)

  -- a record
  module _ (octets : Octets s) (t : Term) (n : ℕ) (i : read_record l s ≡ read t n) (q : Pattern) (rule : Rule l pattern q) where
    here : (bytes_in l t ≡ s) × TermAccepted l t
    here = record_read l s octets n t i

    exact : AnswerExact l q t allowance
    exact = answer_exact l (classed_alike l rule.classed) q t (accepted_of l t here.1) allowance

    by : (m : Matching) → answer l q t allowance ≡ m → Tries l q allowance s (tried_by (told m))
    by (bound ps c) e =
        let d = (exact.bound_exactly ps c).0 e in
        (t, sym here.0, here.1, d.0, subst (λ (x : ℕ). x ≤ allowance) (sym d.0) d.1, (d.2.0, d.2.1.satisfies))
    by (nothing c) e =
        let d = (exact.none_exactly c).0 e in
        λ u a z. subst (Passed l q allowance)
        (one_reading l s t u n (length (bytes_in l u)) i
        (subst (λ (x : List ℕ). read_record l x ≡ read u (length (bytes_in l u))) (sym z) (accepted_read l rule.table_accepted_holds u a)))
        (d.1, d.2)
    by (spent c) e = (t, sym here.0, here.1, ((exact.spent_exactly c).0 e).1)

    input : Input l pattern s q t
    input = record {
      table_accepted_holds = rule.table_accepted_holds;
      pattern_bytes_holds = rule.pattern_bytes_holds;
      pattern_accepted = rule.pattern_accepted;
      record_bytes = here.0;
      record_accepted = here.1;
    }

    answers : (before : List ℕ) → answer_width ≤ length before → (a : Result Answer Refusal) → a ≡ answer_on_bytes l.table l.classes pattern s allowance (length before)
        → Tries l q allowance s (tried_by a)
    answers before wide a e =
        subst (λ (x : Result Answer Refusal). Tries l q allowance s (tried_by x))
        (sym (e ∙ (bytes_answered l.table l.classes pattern s before allowance wide l.edition (classed_alike l rule.classed) q t input).0))
        (by (answer l q t allowance) refl)

  pub tries_answered : Octets s → (k : Result ℕ Refusal) → k ≡ shown (read_record l s) → is_err k ≡ false → (width : ℕ) → answer_width ≤ width
      → (a : Result Answer Refusal) → a ≡ answer_on_bytes l.table l.classes pattern s allowance width → (x : Result Answer Refusal) → a ≡ x → TriesOne l pattern s allowance (tried_by x)
  tries_answered octets (Err r) e d width wide a z x i q rule = let y : ◌≡◌ {A = ℕ} 0 1 = cc in absurd (omega arith)
  tries_answered octets (Ok n) e d width wide a z x i q rule =
      let r = ends_shown (read_record l s) n (sym e) in
      let long : width ≡ length (replicate {A = ℕ} width 0) = sym (length-replicate {A = ℕ} width 0) in
      answers octets r.0 n r.1 q rule (replicate width 0) (omega (arith, wide, long)) x
      (sym i ∙ z ∙ ap (answer_on_bytes l.table l.classes pattern s allowance) long)

  module _ (lower : List ℕ) where
    -- a turn
    pub next_dead : (k : ℕ) → LooksAt l.table l.classes lower s (Some k) → TriesNext l lower pattern s allowance (Ok k)
    next_dead k h q rule low = h l.edition pattern q allowance rule low

    pub next_over : TriesOne l pattern s allowance (Ok tt) → TriesNext l lower pattern s allowance (Ok (length s))
    next_over h q rule low = λ t a e z later before. h q rule t a (sym (sym (take_all (length s) (bytes_in l t) (omega (arith, e))) ∙ z ∙ take-length s))

-- the strings of one length, of which the first was s₀
pub record Running (l : Language) (lower pattern : List ℕ) (allowance : ℕ) (s₀ s : List ℕ) : Type 0 where
  pub long : length s ≡ length s₀
  pub bytes : Bytes s
  pub behind : (q : Pattern) → Rule l pattern q → Lowers l pattern lower
      → Behind l q allowance (replicate (length s₀) 0) → Behind l q allowance s

module _ (l : Language) (lower pattern : List ℕ) (allowance : ℕ) where
  pub running_start : (s : List ℕ) → s ≡ replicate (length s) 0 → Running l lower pattern allowance s s
  running_start s e = record {
    long = refl;
    bytes = subst Bytes (sym e) (zeros_bytes (length s));
    behind = λ q rule low h. subst (Behind l q allowance) (sym e) h;
  }

  module _ (s₀ s : List ℕ) (w : Running l lower pattern allowance s₀ s) where
    pub running_again : (k : ℕ) → k ≤ length s → TriesNext l lower pattern s allowance (Ok k) → (r : List ℕ) → Stepped s k r
        → Running l lower pattern allowance s₀ r × (power_of (length r) - rank r < power_of (length s) - rank s)
    running_again k i h r z = (
      record {
        long = stepped_long s k r i z ∙ w.long;
        bytes = stepped_is_bytes s k r w.bytes z;
        behind = λ q rule low b. stepped_behind l rule.table_accepted_holds q allowance s k (w.behind q rule low b) (h q rule low) i r z;
      },
      left_falls s k r w.bytes i z,
    )

    pub running_stops : (e : End) → TriesNext l lower pattern s allowance (Err e)
        → TriesLength l lower pattern allowance (length s₀) (Err e) s × Cleared (Err e) s
    unfolding TriesLength Cleared
    running_stops e h = (λ q rule low b. (h q rule low, w.behind q rule low b), tt)

    pub running_over : (k : ℕ) → TriesNext l lower pattern s allowance (Ok k) → (r : List ℕ)
        → ((m : ℕ) → m < k → get_or s m 0 ≡ 255) × (r ≡ replicate (length s) 0)
        → TriesLength l lower pattern allowance (length s₀) (Ok tt) r × Cleared (Ok tt) r
    unfolding TriesLength Cleared
    running_over k h r z = (
      λ q rule low b. subst (λ (n : ℕ). Behind l q allowance (replicate (suc n) 0)) w.long
          (all_behind l rule.table_accepted_holds q allowance s k (w.behind q rule low b) (h q rule low) z.0),
      z.1 ∙ ap (λ (n : ℕ). replicate n 0) (sym (ap length z.1 ∙ length-replicate {A = ℕ} (length s) 0)),
    )

    -- by what the step answers
    module _ (k : ℕ) (i : k ≤ length s) (h : TriesNext l lower pattern s allowance (Ok k)) (x : Bool) (r : List ℕ) (a : Advances s k x r) where
      pub running_steps : x ≡ true → Running l lower pattern allowance s₀ r × (power_of (length r) - rank r < power_of (length s) - rank s)
      unfolding Advances
      running_steps e = running_again k i h r (subst (λ (y : Bool). Advances s k y r) e a)

      pub running_ends : x ≡ false → TriesLength l lower pattern allowance (length s₀) (Ok tt) r × Cleared (Ok tt) r
      unfolding Advances
      running_ends e = running_over k h r (subst (λ (y : Bool). Advances s k y r) e a)

-- the sizes that are over, before those of n bytes
pub record Sizing (l : Language) (lower pattern : List ℕ) (allowance size : ℕ) (s : List ℕ) (n : ℕ) : Type 0 where
  pub zeros : s ≡ replicate largest_size 0
  pub some : 1 ≤ n
  pub within : n ≤ suc size
  pub over : (q : Pattern) → Rule l pattern q → Lowers l pattern lower → Behind l q allowance (replicate n 0)

take_zeros : (n m : ℕ) → n ≤ m → take n (replicate {A = ℕ} m 0) ≡ replicate n 0
take_zeros zero m h = refl
take_zeros (suc n) zero h = absurd (omega arith)
take_zeros (suc n) (suc m) h = ap (0 ∷◌) (take_zeros n m (omega arith))

join_zeros : (n m : ℕ) → n ≤ m → replicate {A = ℕ} n 0 ++ drop n (replicate m 0) ≡ replicate m 0
join_zeros zero m h = refl
join_zeros (suc n) zero h = absurd (omega arith)
join_zeros (suc n) (suc m) h = ap (0 ∷◌) (join_zeros n m (omega arith))

module _ (l : Language) (lower pattern : List ℕ) (allowance size : ℕ) (small : size ≤ largest_size) where
  abbrev Sized : List ℕ → ℕ → Type 0
  Sized s n = Sizing l lower pattern allowance size s n

  pub sizing_start : (s : List ℕ) → s ≡ replicate largest_size 0 → Sized s 1
  sizing_start s e = record { zeros = e; some = omega arith; within = omega arith; over = λ q rule low u a h. none q u h }
    where
      none : (q : Pattern) (u : Term) → Earlier (bytes_in l u) (replicate 1 0) → Passed l q allowance u
      none q u (inl h) = absurd (omega (arith, h, some_bytes l.table u))
      none q u (inr h) = absurd (zeros_least (bytes_in l u) 1 h.1)

  module _ (s : List ℕ) (n : ℕ) (w : Sized s n) (inside : n ≤ size) where
    pub sizing_long : n ≤ length s
    sizing_long = omega (arith, inside, small, ap length w.zeros, length-replicate {A = ℕ} largest_size 0)

    part_long : length (take n s) ≡ n
    part_long = length-take-le n s sizing_long

    pub sizing_part : take n s ≡ replicate (length (take n s)) 0
    sizing_part =
        ap (take n) w.zeros ∙ take_zeros n largest_size (omega (arith, inside, small)) ∙ ap (λ (m : ℕ). replicate m 0) (sym part_long)

    module _ (r : Result (Unit {0}) End) (e : List ℕ) (long : length e ≡ length (take n s)) (h : TriesLength l lower pattern allowance (length (take n s)) r e) where
      front : e ≡ take n (e ++ drop n s)
      front = sym (take_at e (drop n s) n (long ∙ part_long))

      ending : (x : Result (Unit {0}) End) → r ≡ x → (q : Pattern) → Rule l pattern q → Lowers l pattern lower → Ends l q allowance (length (take n s)) x e
      unfolding TriesLength
      ending x i q rule low =
          subst (λ (y : Result (Unit {0}) End). Ends l q allowance (length (take n s)) y e) i
          (h q rule low (subst (λ (m : ℕ). Behind l q allowance (replicate m 0)) (sym part_long) (w.over q rule low)))

      pub sizing_stops : (x : End) → r ≡ Err x → (m : ℕ) → m ≡ n → TriesSizes l lower pattern allowance size (Err (record { end = x; length = m })) (e ++ drop n s)
      sizing_stops x i m z q rule low =
          subst (λ (k : ℕ). Ends l q allowance size (Err x) (take k (e ++ drop n s))) (sym z)
          (subst (λ (y : List ℕ). Ends l q allowance size (Err x) y) front (ending (Err x) i q rule low))

      pub sizing_again : r ≡ Ok tt → Cleared r e → Sized (e ++ drop n s) (n + 1)
      unfolding Cleared
      sizing_again i k =
          let m : suc (length (take n s)) ≡ n + 1 = omega (arith, part_long) in
          record {
            zeros = ap₂ (λ (x y : List ℕ). x ++ drop n y) (subst (λ (x : Result (Unit {0}) End). Cleared x e) i k ∙ ap (λ (x : ℕ). replicate x 0) (long ∙ part_long)) w.zeros
                ∙ join_zeros n largest_size (omega (arith, inside, small));
            some = omega arith;
            within = omega (arith, inside);
            over = λ q rule low. subst (λ (x : ℕ). Behind l q allowance (replicate x 0)) m (ending (Ok tt) i q rule low);
          }

  pub sizing_end : (s : List ℕ) (n : ℕ) → Sized s n → size < n → (x : List ℕ) → TriesSizes l lower pattern allowance size (Ok tt) x
  sizing_end s n w h x q rule low =
      let m : n ≡ suc size = omega (arith, w.within, h) in subst (λ (y : ℕ). Behind l q allowance (replicate y 0)) m (w.over q rule low)
