-- The answer is that of the checks and the nodes, and meets every demand.
use Prim.Native.Nat.{ℕ, ◌+◌, ◌≤◌}
use native.Mathlib.Omega.{arith}
use mathlib.Core.Path.{◌≡◌, refl, sym, ◌∙◌, ap, subst}
use mathlib.Core.List.{List, []}
use mathlib.Core.Bool.{Bool, true, false, cond, true≢false}
use lib.ListN.{length}
use lib.Dec.{leb}
use borrow.Author.Tests.{leb-true}
use Rattle.answers.specs.Refusal.{number_of}
use Rattle.answers.specs.Answers.{cost_number, cost_count}
use Rattle.answers.specs.declared.Refusal.{Refusal}
use Rattle.answers.specs.declared.Refusal.TheVariants.{Table, Class}
use Rattle.term.specs.Limits.{Octets, nesting, longest_pattern, PatternAccepted}
use Rattle.term.specs.Pattern.{Pattern}
use Rattle.reader.specs.Brought.{Brought, language_of, brought_accepted}
use Rattle.reader.specs.Reading.{Parsed, refused, read, shown, read_pattern}
use Rattle.term.specs.Table.{entries_accepted, table_accepted, largest_table}
use Rattle.reader.proofs.Answers.{refused_shown, ends_shown}
use Rattle.answers.proofs.Numbers.{word_or_refusal}
use Rattle.reader.proofs.Typed.{pattern_iff, pattern_read}
use Rattle.anti_pattern.specs.Cost.{nodes, has_runs}
use Rattle.anti_pattern.specs.Language.{Language, language}
use Rattle.anti_pattern.specs.Published.{NoRuns}
use Rattle.anti_pattern.proofs.Cost.{few_nodes, runs_exactly}
use Rattle.anti_pattern.proofs.Demands.{cost_bound}
use Rattle.cost.specs.Call.{cost_of}
use Rattle.cost.specs.Demands.{Input, Costs, Demanded}
use Rattle.cost.specs.Tally.{tally}
use Rattle.cost.proofs.Tally.{tally_pattern}
use Rattle.std.specs.Prelude.{Result, Ok, Err, Option, Some, None}

refused_count : (c : Result (Option ℕ) Refusal) (r : Refusal) → cost_number c ≡ number_of r → cost_count c ≡ 0
refused_count (Ok (Some n)) r e = absurd (word_or_refusal 0 refl r e)
refused_count (Ok None) r e = refl
refused_count (Err x) r e = refl

table_small : (table : List ℕ) → table_accepted table ≡ true → length table ≤ largest_table
unfolding table_accepted
table_small table t = go (leb (length table) largest_table) refl t
  where
    go : (b : Bool) → leb (length table) largest_table ≡ b → cond b (entries_accepted table) false ≡ true → length table ≤ largest_table
    go true e h = leb-true (length table) largest_table e
    go false e h = absurd (true≢false (sym h))

-- of an accepted pattern
module _ (l : Language) (q : Pattern) (accepted : PatternAccepted l q) where
  costs_by : (b : Bool) → has_runs q ≡ b → Costs l.table q (cond b (Ok None) (Ok (Some (nodes q))))
  costs_by false e =
      let n = (runs_exactly q).0 e in record {
        bound_exactly = (λ h. n, λ h. refl);
        shows_nodes = λ h. refl;
        bounds_count = λ h edition classes t. (cost_bound (language edition l.table classes) q n t).count_at_most;
        bounds_next = λ h edition classes t given.
            let c = cost_bound (language edition l.table classes) q n t in omega (arith, c.next_counts given, c.count_at_most);
        is_ample = few_nodes l q accepted;
        none_exactly = (λ h. absurd (omega (arith, h)), λ h. absurd (h n));
        none_shows = λ h. absurd (h n);
      }
  costs_by true e =
      let n : NoRuns q → ⊥ = λ h. true≢false (sym e ∙ (runs_exactly q).1 h) in record {
        bound_exactly = (λ h. absurd (omega (arith, h)), λ h. absurd (n h));
        shows_nodes = λ h. absurd (n h);
        bounds_count = λ h edition classes t. absurd (n h);
        bounds_next = λ h edition classes t given. absurd (n h);
        is_ample = omega arith;
        none_exactly = (λ h. n, λ h. refl);
        none_shows = λ h. refl;
      }

module _ (brought : Brought) (pattern : List ℕ) where
  -- by what is told of each check

  table_refused : table_accepted brought.table ≡ false → Err Table ≡ cost_of brought pattern
  unfolding cost_of
  table_refused t = rw t

  class_refused : table_accepted brought.table ≡ true → brought_accepted brought ≡ false → Err Class ≡ cost_of brought pattern
  unfolding cost_of
  class_refused t l = rw (t, l)

  pattern_refused : (r : Refusal) → table_accepted brought.table ≡ true → brought_accepted brought ≡ true → read_pattern (language_of brought) pattern ≡ refused r → Err r ≡ cost_of brought pattern
  unfolding cost_of
  pattern_refused r t l e = rw (t, l, e)

  module _ (octets : Octets pattern) where
    read_input : (q : Pattern) (n : ℕ) → table_accepted brought.table ≡ true → brought_accepted brought ≡ true → read_pattern (language_of brought) pattern ≡ read q n → Input brought pattern q
    read_input q n t l e =
        let r = pattern_read (language_of brought) pattern octets n q e in record { table_accepted_holds = t; list_accepted_holds = l; pattern_bytes_holds = r.0; pattern_accepted = r.1 }

    input_cost : (q : Pattern) → Input brought pattern q → cost_of brought pattern ≡ cond (has_runs q) (Ok None) (Ok (Some (nodes q)))
    unfolding cost_of
    input_cost q i = rw (i.table_accepted_holds, i.list_accepted_holds, (pattern_iff (language_of brought) pattern octets q).1 (i.pattern_bytes_holds, i.pattern_accepted))

    demanded : Demanded brought pattern (cost_of brought pattern)
    demanded = record {
      refused_exactly = (
        λ r q i. no_refusal (has_runs q) (nodes q) r.0 (sym (ap cost_number (input_cost q i)) ∙ r.1),
        refused_by_holds (table_accepted brought.table) refl (brought_accepted brought) refl (read_pattern (language_of brought) pattern) refl,
      );
      refused_shows = refused_count (cost_of brought pattern);
      costs = λ q i. subst (Costs brought.table q) (sym (input_cost q i)) (costs_by (language_of brought) q i.pattern_accepted (has_runs q) refl);
    }
      where
        no_refusal : (b : Bool) (n : ℕ) (r : Refusal) → cost_number (cond b (Ok None) (Ok (Some n))) ≡ number_of r → ⊥
        no_refusal true n r e = word_or_refusal 10 refl r e
        no_refusal false n r e = word_or_refusal 0 refl r e

        refused_by_holds : (b : Bool) → table_accepted brought.table ≡ b → (d : Bool) → brought_accepted brought ≡ d → (x : Parsed Pattern) → read_pattern (language_of brought) pattern ≡ x
            → ((q : Pattern) → Input brought pattern q → ⊥) → (r : Refusal) × (cost_number (cost_of brought pattern) ≡ number_of r)
        refused_by_holds false t d l x e h = (Table, ap cost_number (sym (table_refused t)))
        refused_by_holds true t false l x e h = (Class, ap cost_number (sym (class_refused t l)))
        refused_by_holds true t true l (refused r) e h = (r, ap cost_number (sym (pattern_refused r t l e)))
        refused_by_holds true t true l (read q n) e h = absurd (h q (read_input q n t l e))

    -- the whole contract
    abbrev Called : Result (Option ℕ) Refusal → Type 0
    Called c = (c ≡ cost_of brought pattern) × Demanded brought pattern c

    called : (c : Result (Option ℕ) Refusal) → c ≡ cost_of brought pattern → Called c
    called c e = (e, subst (Demanded brought pattern) (sym e) demanded)

    pub table_fails : table_accepted brought.table ≡ false → Called (Err Table)
    table_fails t = called (Err Table) (table_refused t)

    pub class_fails : table_accepted brought.table ≡ true → brought_accepted brought ≡ false → Called (Err Class)
    class_fails t l = called (Err Class) (class_refused t l)

    pub pattern_fails : table_accepted brought.table ≡ true → brought_accepted brought ≡ true → (r : Refusal) → shown (read_pattern (language_of brought) pattern) ≡ Err r → Called (Err r)
    pattern_fails t l r e = called (Err r) (pattern_refused r t l (refused_shown (read_pattern (language_of brought) pattern) r e))

    -- where all pass, the nodes are counted
    module _ (t : table_accepted brought.table ≡ true) (l : brought_accepted brought ≡ true) (n : ℕ) (e : shown (read_pattern (language_of brought) pattern) ≡ Ok n) where
      passed : (q : Pattern) × Input brought pattern q
      passed = let r = ends_shown (read_pattern (language_of brought) pattern) n e in (r.0, read_input r.0 n t l r.1)

      pub passes_short : length pattern ≤ longest_pattern
      passes_short = let p = passed in subst (λ (s : List ℕ). length s ≤ longest_pattern) p.1.pattern_bytes_holds p.1.pattern_accepted.short

      pub passes_counted : (c : Result (Option ℕ) Refusal) → c ≡ tally brought.table pattern false 0 → Called c
      unfolding tally
      passes_counted c h =
          let p = passed in
          let z : 0 + nodes p.0 ≡ nodes p.0 = omega arith in
          called c (h ∙ ap (λ (s : List ℕ). tally brought.table s false 0) (sym p.1.pattern_bytes_holds)
          ∙ tally_pattern brought.table (table_small brought.table t) p.0 nesting false 0 [] p.1.pattern_accepted.fits
          ∙ ap (λ (k : ℕ). cond (has_runs p.0) (Ok None) (Ok (Some k))) z ∙ sym (input_cost p.0 p.1))
