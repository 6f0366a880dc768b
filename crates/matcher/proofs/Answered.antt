-- The answer on accepted input meets demands 2 and 3.
use Prim.Native.Nat.{ℕ, ◌+◌, ◌-◌, ◌<◌, ◌≤◌, ◌*◌}
use native.Mathlib.Omega.{arith}
use mathlib.Core.Path.{◌≡◌, refl, sym, ◌∙◌, ap, ap₂, subst}
use mathlib.Core.List.{List, [], ◌∷◌, ◌++◌}
use mathlib.Core.Bool.{Bool, true, false, cond}
use lib.ListN.{length, get_or, take, drop, get_or-append}
use lib.Dec.{eqb}
use borrow.Author.Tests.{eqb-true}
use Rattle.answers.specs.Part.{part, absent}
use Rattle.answers.specs.Answers.{answer_number, answer_count}
use Rattle.answers.specs.declared.Part.{Part}
use Rattle.term.specs.Code.{variables}
use Rattle.term.specs.Class.{Alike}
use Rattle.term.specs.Term.{Term, Terms, count, sizes}
use Rattle.term.specs.Pattern.{Pattern, Children, name, symbol, complement, end, plain, run, pattern_tree, child_trees}
use Rattle.term.specs.Limits.{Written, below_of, Fits, FitAll, Octets}
use Rattle.term.specs.Tree.{list_code}
use Rattle.term.specs.declared.Code.TheVariants.{Symbol}
use Rattle.term.proofs.Sizes.{terms_sizes, take_terms}
use Rattle.anti_pattern.specs.Answer.{Matching, bound, nothing, spent, parts, count_of, matching_of, answer}
use Rattle.anti_pattern.specs.Demands.{First, PartsShown, AnswerExact, PublishedAgrees}
use Rattle.anti_pattern.specs.Language.{TermOf}
use Rattle.anti_pattern.specs.Meaning.{Assignment, Satisfies}
use Rattle.anti_pattern.proofs.Meter.{Metered, met}
use Rattle.anti_pattern.specs.Place.{assigned_part, or_absent, variable_part, parts_at, each_variable}
use Rattle.anti_pattern.specs.Published.{NoRuns, assignment}
use Rattle.anti_pattern.specs.Search.{Env, Answers, found, failed, first_answer, whole}
use Rattle.anti_pattern.specs.Order.{length_of}
use Rattle.anti_pattern.specs.Variables.{vars, vars_all, free, among, free_runs}
use Rattle.anti_pattern.proofs.Allowance.{answer_over, answer_within, bound_found}
use Rattle.anti_pattern.proofs.Demands.{search_decides, parts_shown, answer_exact, published_agrees}
use Rattle.anti_pattern.proofs.Within.{accepted_of}
use Rattle.anti_pattern.proofs.First.{answer_satisfies}
use Rattle.anti_pattern.proofs.Following.{map_among}
use Rattle.anti_pattern.proofs.Metering.{meter_within, metered_first}
use Rattle.anti_pattern.proofs.Placed.{AnswerIn, first_answers}
use Rattle.search.specs.Level.{Reply, search_of}
use Rattle.reader.specs.Brought.{Brought, classes_of, language_of, brought_accepted}
use Rattle.call.specs.Call.{written}
use Rattle.matcher.specs.Call.{Input, told, answer_of, bound_parts, buffer_of}
use Rattle.matcher.specs.Demands.{offset_in, length_in, terms_in, Shows, Answered, Published}
use Rattle.link.proofs.Represents.{Shown, Agrees, is_found}
use Rattle.matcher.proofs.Checks.{checked_exactly}
use Rattle.link.proofs.Followed.{free_runs_are}
use Rattle.anti_pattern.proofs.Each.{each_at}
use Rattle.link.proofs.Linked.{whole_agrees}
use Rattle.parts.specs.Shown.{entry, numbers, entry_width, answer_width}
use Rattle.parts.proofs.Shown.{numbers_length, numbers_at}
use Rattle.std.specs.Prelude.{Option, Some, None}

-- the free variables of an accepted pattern are among the 48

first_below : (u v : ℕ) (vs : List ℕ) → u < variables → (among v vs ≡ true → v < variables) → among v (u ∷ vs) ≡ true → v < variables
first_below u v vs low k = go (eqb u v) refl
  where
    go : (b : Bool) → eqb u v ≡ b → cond b true (among v vs) ≡ true → v < variables
    go true e h = omega (arith, eqb-true u v e)
    go false e h = k h

mutual
  unfolding Fits Written

  vars_below : (table : List ℕ) (q : Pattern) (left : ℕ) (in_list : Bool) → Fits table false (pattern_tree q) left in_list
      → (v : ℕ) (vs : List ℕ) → (among v vs ≡ true → v < variables) → among v (vars q vs) ≡ true → v < variables
  vars_below table (name u) left in_list f v vs k h = first_below u v vs (omega (arith, f.1)) k h
  vars_below table (symbol s qs) left in_list f v vs k h = all_below table qs (below_of (Symbol s) left) (list_code table (Symbol s)) f.3 v vs k h
  vars_below table (complement q) left in_list f v vs k h = k h

  all_below : (table : List ℕ) (qs : Children) (left : ℕ) (in_list : Bool) → FitAll table false (child_trees qs) left in_list
      → (v : ℕ) (vs : List ℕ) → (among v vs ≡ true → v < variables) → among v (vars_all qs vs) ≡ true → v < variables
  all_below table end left in_list f v vs k h = k h
  all_below table (plain q qs) left in_list f v vs k h =
      vars_below table q left in_list f.0 v (vars_all qs vs) (all_below table qs left in_list f.1 v vs k) h
  all_below table (run u qs) left in_list f v vs k h =
      first_below u v (vars_all qs vs) f.0.1.1 (all_below table qs left in_list f.1 v vs k) h

-- the k-th number that parts have for a variable in the answer buffer
pub shown_at : (ps : List Part) (rest : List ℕ) (v : ℕ) → v < length ps → (k : ℕ) → k < entry_width
    → get_or (numbers ps ++ rest) (entry_width * v + k) 0 ≡ get_or (entry (get_or ps v (part 0 0 0))) k 0
shown_at ps rest v low k h = get_or-append (numbers ps) rest 0 (entry_width * v + k) (omega (arith, numbers_length ps)) ∙ numbers_at k h ps v low

-- each answer of the search is shown

module _ (brought : Brought) (pattern bytes : List ℕ) (k : Alike brought.table (classes_of brought)) (q : Pattern) (t : Term)
    (i : Input (language_of brought) pattern bytes q t) (e : Env) (o : AnswerIn (whole (language_of brought) q t).out e)
    (ps : List Part) (h : Shown brought.table bytes ps e) (rest : List ℕ) where
  satisfies : Satisfies (language_of brought) q t e.value
  satisfies = answer_satisfies (language_of brought) q t (accepted_of (language_of brought) t i.record_accepted) e o

  placed : PartsShown (language_of brought) q t
  placed = parts_shown (language_of brought) k q t (accepted_of (language_of brought) t i.record_accepted)

  below : (v : ℕ) → among v (free q) ≡ true → v < variables
  below v m =
      vars_below brought.table q 32 false i.pattern_accepted.fits v []
      (λ k. let z : ◌≡◌ {A = ℕ} 0 1 = ap (λ (b : Bool). cond b 1 0) k in absurd (omega arith)) m

  -- the numbers of a variable, by what is assigned to it and by its first place
  abbrev Entry : ℕ → Part → Type 0
  Entry v p =
      (offset_in (numbers (parts brought.table e) ++ rest) v ≡ p.offset) × (length_in (numbers (parts brought.table e) ++ rest) v ≡ p.length)
      × (terms_in (numbers (parts brought.table e) ++ rest) v ≡ p.elements)

  entry_is : (v : ℕ) → v < variables → (p : Part) → get_or (parts brought.table e) v (part 0 0 0) ≡ p → Entry v p
  entry_is v low p z =
      let start : entry_width * v ≡ entry_width * v + 0 = omega arith in (
        ap (λ (i : ℕ). get_or (numbers (parts brought.table e) ++ rest) i 0) start ∙ shown_at (parts brought.table e) rest v low 0 (omega arith) ∙ ap (λ (x : Part). x.offset) z,
        shown_at (parts brought.table e) rest v low 1 (omega arith) ∙ ap (λ (x : Part). x.length) z,
        shown_at (parts brought.table e) rest v low 2 (omega arith) ∙ ap (λ (x : Part). x.elements) z,
      )

  each_is : (f : ℕ → Part) (v : ℕ) → v < variables → parts brought.table e ≡ each_variable f → get_or (parts brought.table e) v (part 0 0 0) ≡ f v
  each_is f v low z =
      let k : 0 + v ≡ v = omega arith in
      ap (λ (l : List Part). get_or l v (part 0 0 0)) z ∙ each_at f 0 variables v low ∙ ap f k

  part_entry : (v : ℕ) → v < variables → Entry v (assigned_part brought.table (e.value v) (e.offset v))
  part_entry v low = entry_is v low (assigned_part brought.table (e.value v) (e.offset v)) (each_is (λ u. assigned_part brought.table (e.value u) (e.offset u)) v low refl)

  value_entry : (v : ℕ) (w : Terms) → v < variables → e.value v ≡ Some w → Entry v (part (e.offset v) (sizes brought.table w) (count w))
  value_entry v w low z = subst (λ (x : Option Terms). Entry v (assigned_part brought.table x (e.offset v))) z (part_entry v low)

  place_entry : (v : ℕ) → v < variables → (p : Part) → variable_part brought.table q t e.value v ≡ p → Entry v p
  place_entry v low p z = entry_is v low p (each_is (variable_part brought.table q t e.value) v low (placed.shown_at_first_place e o) ∙ z)

  length_shown : (v : ℕ) → v < variables → terms_in (numbers (parts brought.table e) ++ rest) v ≡ length_of (e.value v)
  length_shown v low = (part_entry v low).2 ∙ go (e.value v)
    where
      go : (x : Option Terms) → (assigned_part brought.table x (e.offset v)).elements ≡ length_of x
      go None = refl
      go (Some w) = refl

  pub env_shown : Shows brought.table bytes q t e.value (numbers (parts brought.table e) ++ rest)
  env_shown = record {
    first_place = λ v m.
        let f = placed.free_placed e.value satisfies v m in
        f.2 ∙ ap Some (sym (place_entry v (below v m) (part f.0 (sizes brought.table f.1) (count f.1))
        (ap₂ (λ (x : Option ℕ) (y : Option Terms). or_absent x (assigned_part brought.table y)) f.2 f.3)).0);
    value_length = λ v w m z. (value_entry v w (below v m) z).1 ∙ sym (terms_sizes brought.table w);
    value_bytes = λ v w m z.
        let p = value_entry v w (below v m) z in
        let s = h.stands v w z in
        ap₂ (λ (n at : ℕ). take n (drop at bytes)) p.1 p.0 ∙ ap (take (sizes brought.table w)) s.stands ∙ take_terms brought.table w s.after;
    value_terms = λ v w m z. (value_entry v w (below v m) z).2;
    name_term = λ v low m.
        let f = placed.free_placed e.value satisfies v m in
        (value_entry v f.1 (below v m) f.3).2 ∙ h.one v f.1 low f.3;
    absent_mark = λ v low m. place_entry v low absent (placed.others_absent e.value satisfies v m);
    run_lengths_holds = map_among (terms_in (numbers (parts brought.table e) ++ rest)) (λ v. length_of (e.value v)) (free_runs q)
        (λ v m. length_shown v (free_runs_are (language_of brought) pattern bytes q t i v m).1);
  }

-- the number of what is told says which it is

pub spent_told : (o : Matching) → answer_number (told o) ≡ 11 → (n : ℕ) × (o ≡ spent n)
spent_told (bound ps n) h = absurd (omega arith)
spent_told (nothing n) h = absurd (omega arith)
spent_told (spent n) h = (n, refl)

pub none_told : (o : Matching) → answer_number (told o) ≡ 10 → (n : ℕ) × (o ≡ nothing n)
none_told (bound ps n) h = absurd (omega arith)
none_told (nothing n) h = (n, refl)
none_told (spent n) h = absurd (omega arith)

pub bound_told : (o : Matching) → answer_number (told o) ≡ 0 → (ps : List Part) × (n : ℕ) × (o ≡ bound ps n)
bound_told (bound ps n) h = (ps, n, refl)
bound_told (nothing n) h = absurd (omega arith)
bound_told (spent n) h = absurd (omega arith)

shown_by_holds : {table bytes : List ℕ} {e : Env} {left : ℕ} {r : Reply} → Agrees table bytes (met e left) r → Shown table bytes r.parts e
shown_by_holds (is_found h) = h

module _ (brought : Brought) (pattern bytes : List ℕ) (k : Alike brought.table (classes_of brought)) (q : Pattern) (t : Term)
    (i : Input (language_of brought) pattern bytes q t) (allowance : ℕ) where
  of : TermOf (language_of brought) t
  of = accepted_of (language_of brought) t i.record_accepted

  found_shown : (e : Env) → count_of (language_of brought) q t ≤ allowance → first_answer (whole (language_of brought) q t).out ≡ Some e
      → Shown brought.table bytes (search_of brought.table (classes_of brought) pattern bytes allowance).parts e
  found_shown e within o =
      shown_by_holds (subst (λ (m : Metered). Agrees brought.table bytes m (search_of brought.table (classes_of brought) pattern bytes allowance))
      (meter_within allowance (whole (language_of brought) q t) within ∙ metered_first (whole (language_of brought) q t).out e (allowance - count_of (language_of brought) q t) o)
      (whole_agrees (language_of brought) pattern bytes k q t i allowance))

  -- the buffer shows the first answer of the search
  pub first_shown : (before : List ℕ) → answer_number (told (answer (language_of brought) q t allowance)) ≡ 0
      → (e : Env) × (first_answer (whole (language_of brought) q t).out ≡ Some e)
      × Shows brought.table bytes q t e.value (written (bound_parts (answer (language_of brought) q t allowance)) before)
      × Shown brought.table bytes (search_of brought.table (classes_of brought) pattern bytes allowance).parts e
  first_shown before h =
      let b = bound_told (answer (language_of brought) q t allowance) h in
      let f = bound_found (language_of brought) q t allowance b.0 b.1 b.2 in
      let e = f.1.0 in
      let z : answer (language_of brought) q t allowance ≡ bound (parts brought.table e) b.1 = b.2 ∙ ap (λ (ps : List Part). bound ps b.1) f.1.2 in (
        e,
        f.1.1,
        subst (Shows brought.table bytes q t e.value) (ap (λ (o : Matching). written (bound_parts o) before) (sym z))
            (env_shown brought pattern bytes k q t i e (first_answers (whole (language_of brought) q t).out e f.1.1) _ (found_shown e f.0 f.1.1) (drop answer_width before)),
        found_shown e f.0 f.1.1,
      )

  bound_shows : (before : List ℕ) → answer_number (told (answer (language_of brought) q t allowance)) ≡ 0
      → (x : Assignment) × First (language_of brought) q t x × Shows brought.table bytes q t x (written (bound_parts (answer (language_of brought) q t allowance)) before)
  bound_shows before h =
      let s = first_shown before h in
      (s.0.value, (search_decides (language_of brought) k q t of).found_first s.0 s.1, s.2)

  count_told : (o : Answers) (n : ℕ) → answer_count (told (matching_of brought.table o n)) ≡ n
  count_told (found e m o) n = refl
  count_told failed n = refl

  module _ (before : List ℕ) (pattern_octets : Octets pattern) (record_octets : Octets bytes) (wide : answer_width ≤ length before)
      (accepted : brought_accepted brought ≡ true) where
    pub same_call : (more : ℕ) → answer (language_of brought) q t more ≡ answer (language_of brought) q t allowance
        → (answer_of brought pattern bytes more (length before) ≡ told (answer (language_of brought) q t allowance))
        × (buffer_of brought pattern bytes more before ≡ written (bound_parts (answer (language_of brought) q t allowance)) before)
    unfolding answer_of buffer_of
    same_call more z =
        rw ((checked_exactly brought pattern bytes pattern_octets record_octets (length before) q t).1 (wide, accepted, i))
        (ap told z, ap (λ (o : Matching). written (bound_parts o) before) z)

    pub answered : Answered brought pattern bytes before allowance q t (told (answer (language_of brought) q t allowance)) (written (bound_parts (answer (language_of brought) q t allowance)) before)
    answered = record {
      spent_exactly = (
        λ h. let s = spent_told (answer (language_of brought) q t allowance) h in ((exact.spent_exactly s.0).0 s.1).1,
        λ h. ap (λ (o : Matching). answer_number (told o)) ((exact.spent_exactly allowance).1 (refl, h)),
      );
      spent_shows = λ h. ap (λ (o : Matching). answer_count (told o)) (answer_over (language_of brought) q t allowance h);
      shows_count = λ h. ap (λ (o : Matching). answer_count (told o)) (answer_within (language_of brought) q t allowance h)
          ∙ count_told (whole (language_of brought) q t).out (count_of (language_of brought) q t);
      none_exactly = (
        λ h.
            let s = none_told (answer (language_of brought) q t allowance) h in
            let b = (exact.none_exactly s.0).0 s.1 in
            (b.1, b.2),
        λ h. ap (λ (o : Matching). answer_number (told o)) ((exact.none_exactly (count_of (language_of brought) q t)).1 (refl, h.0, h.1)),
      );
      bound_exactly = (
        λ h.
            let s = bound_told (answer (language_of brought) q t allowance) h in
            let b = (exact.bound_exactly s.0 s.1).0 s.2 in
            (b.1, (b.2.0, b.2.1)),
        λ h. ap (λ (o : Matching). answer_number (told o))
            ((exact.bound_exactly (parts_at brought.table q t h.1.0) (count_of (language_of brought) q t)).1 (refl, h.0, (h.1.0, h.1.1, refl))),
      );
      bound_shows = bound_shows before;
      larger_allowance = λ more h l. same_call more (exact.larger_allowance more h l);
    }
      where
        exact : AnswerExact (language_of brought) q t allowance
        exact = answer_exact (language_of brought) k q t of allowance

    pub published : (n : NoRuns q) → Published brought bytes allowance q n t (told (answer (language_of brought) q t allowance)) (written (bound_parts (answer (language_of brought) q t allowance)) before)
    published n = record {
      none_exactly = (
        λ h. let s = none_told (answer (language_of brought) q t allowance) h in
            let b = (agrees.none_exactly s.0).0 s.1 in
            (b.1, b.2),
        λ h. ap (λ (o : Matching). answer_number (told o)) ((agrees.none_exactly (count_of (language_of brought) q t)).1 (refl, h.0, h.1)),
      );
      bound_exactly = (
        λ h. let s = bound_told (answer (language_of brought) q t allowance) h in
            let b = (agrees.bound_exactly s.0 s.1).0 s.2 in
            (b.1, (b.2.0, b.2.1)),
        λ h. ap (λ (o : Matching). answer_number (told o))
            ((agrees.bound_exactly (parts_at brought.table q t (assignment h.1.0)) (count_of (language_of brought) q t)).1
            (refl, h.0, (h.1.0, h.1.1, refl))),
      );
      bound_shows = λ h.
          let b = bound_shows before h in
          let s = agrees.satisfying_substitution b.0 b.1.satisfies in (
            s.0,
            (agrees.solution_satisfies s.0).1 (subst (Satisfies (language_of brought) q t) s.1 b.1.satisfies),
            subst (λ (x : Assignment). Shows brought.table bytes q t x (written (bound_parts (answer (language_of brought) q t allowance)) before)) s.1 b.2,
          );
      only_one = agrees.at_most_one;
    }
      where
        agrees : PublishedAgrees (language_of brought) q t n allowance
        agrees = published_agrees (language_of brought) k q t of n allowance
