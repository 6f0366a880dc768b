-- Every answer by the calls: they show the numbers of what they show on trees.
use Prim.Native.Nat.{ℕ, ◌≤◌}
use native.Mathlib.Omega.{arith}
use mathlib.Core.Path.{◌≡◌, refl, sym, ◌∙◌, ap, ap₂, subst}
use mathlib.Core.List.{List, [], ◌∷◌, ◌++◌, map, map-map}
use mathlib.Core.Bool.{true}
use lib.ListN.{length, get_or, take, drop}
use lib.Seq.{take_at}
use Rattle.answers.specs.Part.{part}
use Rattle.answers.specs.Answers.{answer_number}
use Rattle.answers.specs.declared.Part.{Part}
use Rattle.term.specs.Code.{variables}
use Rattle.term.specs.Limits.{Octets}
use Rattle.term.specs.Pattern.{Pattern}
use Rattle.term.specs.Term.{Term}
use Rattle.anti_pattern.specs.Answer.{Matching, bound, answer}
use Rattle.anti_pattern.specs.Demands.{assignments, lengths_shown, Asked, no_more, one_more, Calls, none_at_all, from_first}
use Rattle.anti_pattern.specs.Language.{Language, TermOf}
use Rattle.anti_pattern.specs.Next.{Following, follows, next}
use Rattle.anti_pattern.specs.Place.{parts_at}
use Rattle.anti_pattern.specs.Variables.{free_runs}
use Rattle.anti_pattern.proofs.Demands.{answer_exact}
use Rattle.anti_pattern.proofs.Following.{map_among}
use Rattle.anti_pattern.proofs.Within.{accepted_of}
use Rattle.parts.specs.Shown.{numbers, answer_width}
use Rattle.parts.proofs.Shown.{numbers_length}
use Rattle.reader.specs.Brought.{Brought, language_of, brought_accepted}
use Rattle.call.specs.Call.{written}
use Rattle.call.proofs.Brought.{brought_alike}
use Rattle.matcher.specs.Call.{Input, told, answer_of, bound_parts, buffer_of}
use Rattle.matcher.specs.Demands.{terms_in, NextCalls, AllCalls, EveryCall}
use Rattle.matcher.specs.Next.{told_next, next_of, bound_next, next_buffer_of}
use Rattle.matcher.proofs.Answered.{shown_at, none_told, bound_told, same_call}
use Rattle.link.proofs.Followed.{free_runs_are, next_accepted, every_accepted}
use Rattle.matcher.proofs.Follows.{is_none, is_bound, same_next}

module _ (brought : Brought) (pattern bytes : List ℕ) (pattern_octets : Octets pattern) (record_octets : Octets bytes)
    (accepted : brought_accepted brought ≡ true) (q : Pattern) (t : Term) (i : Input (language_of brought) pattern bytes q t) where
  abbrev l : Language
  l = language_of brought

  of : TermOf l t
  of = accepted_of l t i.record_accepted

  -- parts in a buffer: their numbers, and the lengths of the free run names

  module _ (ps : List Part) (all : length ps ≡ variables) (rest : List ℕ) where
    numbers_shown : take answer_width (numbers ps ++ rest) ≡ numbers ps
    numbers_shown = take_at (numbers ps) rest answer_width (omega (arith, numbers_length ps))

    lengths_shown_holds : map (terms_in (numbers ps ++ rest)) (free_runs q) ≡ lengths_shown q ps
    lengths_shown_holds =
        map_among (terms_in (numbers ps ++ rest)) (λ v. (get_or ps v (part 0 0 0)).elements) (free_runs q)
        (λ v m. shown_at ps rest v (omega (arith, (free_runs_are (language_of brought) pattern bytes q t i v m).1)) 2 (omega arith))

  -- a call that is bound shows all the variables, and what the next is given

  module _ (given : List ℕ) (allowance : ℕ) (before : List ℕ) (wide : answer_width ≤ length before) where
    next_told : (next_of brought pattern bytes given allowance (length before) ≡ told_next (next l q t given allowance))
        × (next_buffer_of brought pattern bytes given allowance before ≡ written (bound_next (next l q t given allowance)) before)
    next_told = same_next brought pattern bytes given before allowance pattern_octets record_octets wide accepted q t i allowance refl

    module _ (ps : List Part) (n : ℕ) (e : next l q t given allowance ≡ follows (bound ps n)) where
      next_all : length ps ≡ variables
      next_all =
          ap length (((next_accepted (language_of brought) pattern bytes q t i (brought_alike brought accepted) given allowance).bound_exactly ps n).0 e).2.4

      next_buffer : next_buffer_of brought pattern bytes given allowance before ≡ numbers ps ++ drop answer_width before
      next_buffer = next_told.1 ∙ ap (λ (f : Following). written (bound_next f) before) e

      next_numbers : take answer_width (next_buffer_of brought pattern bytes given allowance before) ≡ numbers ps
      next_numbers = ap (take answer_width) next_buffer ∙ numbers_shown ps next_all (drop answer_width before)

      next_lengths : map (terms_in (next_buffer_of brought pattern bytes given allowance before)) (free_runs q) ≡ lengths_shown q ps
      next_lengths = ap (λ (b : List ℕ). map (terms_in b) (free_runs q)) next_buffer ∙ lengths_shown_holds ps next_all (drop answer_width before)

  module _ (allowance : ℕ) (before : List ℕ) (wide : answer_width ≤ length before) where
    first_told : (answer_of brought pattern bytes allowance (length before) ≡ told (answer l q t allowance))
        × (buffer_of brought pattern bytes allowance before ≡ written (bound_parts (answer l q t allowance)) before)
    first_told =
        same_call brought pattern bytes (brought_alike brought accepted) q t i allowance before pattern_octets record_octets wide accepted allowance refl

    module _ (ps : List Part) (n : ℕ) (e : answer l q t allowance ≡ bound ps n) where
      first_all : length ps ≡ variables
      first_all = ap length (((answer_exact l (brought_alike brought accepted) q t of allowance).bound_exactly ps n).0 e).2.2

      first_buffer : buffer_of brought pattern bytes allowance before ≡ numbers ps ++ drop answer_width before
      first_buffer = first_told.1 ∙ ap (λ (o : Matching). written (bound_parts o) before) e

      first_numbers : take answer_width (buffer_of brought pattern bytes allowance before) ≡ numbers ps
      first_numbers = ap (take answer_width) first_buffer ∙ numbers_shown ps first_all (drop answer_width before)

      first_lengths : map (terms_in (buffer_of brought pattern bytes allowance before)) (free_runs q) ≡ lengths_shown q ps
      first_lengths = ap (λ (b : List ℕ). map (terms_in b) (free_runs q)) first_buffer ∙ lengths_shown_holds ps first_all (drop answer_width before)

  -- the calls are calls on trees

  next_on_trees : {given : List ℕ} {nss : List (List ℕ)} → NextCalls brought pattern bytes q given nss
      → (pss : List (List Part)) × Asked l q t given pss × (nss ≡ map numbers pss)
  next_on_trees {given} (NextCalls.no_more allowance before wide e) =
      let s = is_none (next l q t given allowance) (sym (ap answer_number (next_told given allowance before wide).0) ∙ e) in
      ([], no_more allowance s.0 s.1, refl)
  next_on_trees {given} (NextCalls.one_more allowance before wide e rest) =
      let s = is_bound (next l q t given allowance) (sym (ap answer_number (next_told given allowance before wide).0) ∙ e) in
      let r = next_on_trees rest in (
        s.0 ∷ r.0,
        one_more allowance s.1 s.2
            (subst (λ (g : List ℕ). Asked l q t g r.0) (next_lengths given allowance before wide s.0 s.1 s.2) r.1),
        ap₂ ◌∷◌ (next_numbers given allowance before wide s.0 s.1 s.2) r.2,
      )

  all_on_trees : {nss : List (List ℕ)} → AllCalls brought pattern bytes q nss → (pss : List (List Part)) × Calls l q t pss × (nss ≡ map numbers pss)
  all_on_trees (AllCalls.none_at_all allowance before wide e) =
      let s = none_told (answer l q t allowance) (sym (ap answer_number (first_told allowance before wide).0) ∙ e) in
      ([], none_at_all allowance s.0 s.1, refl)
  all_on_trees (AllCalls.from_first allowance before wide e rest) =
      let s = bound_told (answer l q t allowance) (sym (ap answer_number (first_told allowance before wide).0) ∙ e) in
      let r = next_on_trees rest in (
        s.0 ∷ r.0,
        from_first allowance s.1 s.2
            (subst (λ (g : List ℕ). Asked l q t g r.0) (first_lengths allowance before wide s.0 s.1 s.2) r.1),
        ap₂ ◌∷◌ (first_numbers allowance before wide s.0 s.1 s.2) r.2,
      )

  -- and back, with this buffer

  module _ (before : List ℕ) (wide : answer_width ≤ length before) where
    next_on_bytes : {given : List ℕ} {pss : List (List Part)} → Asked l q t given pss → NextCalls brought pattern bytes q given (map numbers pss)
    next_on_bytes {given} (no_more allowance n e) =
        NextCalls.no_more allowance before wide (ap answer_number ((next_told given allowance before wide).0 ∙ ap told_next e))
    next_on_bytes {given} (one_more {ps = ps} {pss = pss} allowance n e rest) =
        subst (λ (ns : List ℕ). NextCalls brought pattern bytes q given (ns ∷ map numbers pss)) (next_numbers given allowance before wide ps n e)
        (NextCalls.one_more allowance before wide (ap answer_number ((next_told given allowance before wide).0 ∙ ap told_next e))
        (subst (λ (g : List ℕ). NextCalls brought pattern bytes q g (map numbers pss)) (sym (next_lengths given allowance before wide ps n e))
        (next_on_bytes rest)))

    all_on_bytes : {pss : List (List Part)} → Calls l q t pss → AllCalls brought pattern bytes q (map numbers pss)
    all_on_bytes (none_at_all allowance n e) =
        AllCalls.none_at_all allowance before wide (ap answer_number ((first_told allowance before wide).0 ∙ ap told e))
    all_on_bytes (from_first {ps = ps} {pss = pss} allowance n e rest) =
        subst (λ (ns : List ℕ). AllCalls brought pattern bytes q (ns ∷ map numbers pss)) (first_numbers allowance before wide ps n e)
        (AllCalls.from_first allowance before wide (ap answer_number ((first_told allowance before wide).0 ∙ ap told e))
        (subst (λ (g : List ℕ). NextCalls brought pattern bytes q g (map numbers pss)) (sym (first_lengths allowance before wide ps n e))
        (next_on_bytes rest)))

    pub every_call : EveryCall brought pattern bytes q t
    every_call =
        let every = every_accepted (language_of brought) pattern bytes q t i (brought_alike brought accepted) in
        let joined = map-map numbers (parts_at brought.table q t) (assignments l q t) in record {
          listed = every.listed;
          shown = λ nss c. let r = all_on_trees c in r.2 ∙ ap (map numbers) (every.shown r.0 r.1) ∙ joined;
          callable = subst (AllCalls brought pattern bytes q) joined (all_on_bytes every.callable);
        }
