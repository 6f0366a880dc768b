-- Without run names the search sets each pattern node against one record node at most, and finds one answer at most.
use Prim.Native.Nat.{ℕ, suc, ◌+◌, ◌≤◌}
use mathlib.Core.Path.{◌≡◌, refl, sym, ap, subst}
use mathlib.Core.List.{List, [], ◌∷◌, ◌++◌}
use mathlib.Core.Bool.{Bool, true, false, cond, true≢false}
use mathlib.Core.Logic.{inl, inr, ◌↔◌}
use native.Mathlib.Omega.{arith}
use lib.Dec.{eqb, ltb}
use lib.ListN.{length}
use Rattle.term.specs.Class.{class_of}
use Rattle.term.specs.Pattern.{Pattern, name, symbol, complement, Children, end, plain, run, pattern_tree, child_trees}
use Rattle.term.specs.Limits.{PatternAccepted}
use Rattle.term.specs.Table.{width}
use Rattle.term.specs.Term.{Term, node, Terms, nil, ◌::◌, single, size}
use Rattle.term.specs.Tree.{empty, more, branch, list_code, encode, encodes}
use Rattle.term.specs.declared.Code.TheVariants.{Symbol, Name, Run, Complement}
use Rattle.term.proofs.Sizes.{branch_length, more_length}
use Rattle.anti_pattern.specs.Answer.{count_of, matching_of}
use Rattle.anti_pattern.specs.Cost.{nodes, nodes_in, ample, Enough, has_runs, has_runs_in}
use Rattle.anti_pattern.specs.Demands.{BoundOrNone, NoneOrUnknown, CostBound}
use Rattle.anti_pattern.specs.Language.{Language}
use Rattle.anti_pattern.specs.Next.{given_to, check_given, resumed, has_lengths, resumed_after, check_count, next_count, follows, spent_or, unknown_or, one_for_each, next}
use Rattle.anti_pattern.specs.Published.{NoRuns, NoRunsIn}
use Rattle.anti_pattern.specs.Search.{Env, Answers, found, failed, Result, plus, fail, if_true, if_some, Deferred, Continuation, refuted, finish, Tries, freely, start, assign, search, searches, whole}
use Rattle.anti_pattern.specs.Variables.{firsts, free_runs}
use Rattle.anti_pattern.proofs.Allowance.{answer_within}
use Rattle.anti_pattern.proofs.Following.{cond_false}
use Rattle.anti_pattern.proofs.Metering.{leb_false}
use Rattle.anti_pattern.proofs.Published.{no_runs_holds}
use Rattle.std.specs.Prelude.{Option, Some, None}

-- no answer follows the first
abbrev Once : Answers → Type 0
Once (found e m o) = (m ≡ 0) × (o ≡ failed)
Once failed = Unit {0}

pub record AtMost (n : ℕ) (r : Result) : Type 0 where
  pub cost_within : r.cost ≤ n
  pub once : Once r.out

fail_within : (n : ℕ) → AtMost n fail
fail_within n = record { cost_within = omega arith; once = tt }

within : {m n : ℕ} {r : Result} → AtMost m r → m ≤ n → AtMost n r
within a i = record { cost_within = omega (arith, a.cost_within, i); once = a.once }

plus_within : (m n : ℕ) {l : ℕ} {r : Result} → AtMost n r → m + n ≤ l → AtMost l (plus m r)
plus_within m n a i = record { cost_within = omega (arith, a.cost_within, i); once = a.once }

if_true_within : (b : Bool) (f : Unit {0} → Result) {n : ℕ} → AtMost n (f tt) → AtMost n (if_true b f)
if_true_within true f a = a
if_true_within false f {n} a = fail_within n

if_some_within : (o : Option Env) (f : Env → Result) {n : ℕ} → ((e : Env) → AtMost n (f e)) → AtMost n (if_some o f)
if_some_within None f {n} a = fail_within n
if_some_within (Some e) f a = a e

refuted_within : (o : Answers) (c m n l : ℕ) (f : Unit {0} → Result) → c ≤ m → AtMost n (f tt) → m + n ≤ l → AtMost l (refuted o c f)
refuted_within (found e k o) c m n l f h a i = record { cost_within = omega (arith, h, i); once = tt }
refuted_within failed c m n l f h a i = plus_within c n a (omega (arith, h, i))

-- the complements put by count so much at most
abbrev Weigh : List Deferred → ℕ → Type 0
Weigh [] w = Unit {0}
Weigh (d ∷ ds) w = (m : ℕ) × (n : ℕ) × (m + n ≤ w) × ((e : Env) → AtMost m (d e)) × Weigh ds n

weigh_snoc : (put : List Deferred) (d : Deferred) (w m : ℕ) → Weigh put w → ((e : Env) → AtMost m (d e)) → Weigh (put ++ (d ∷ [])) (w + m)
weigh_snoc [] d w m h a = (m, 0, omega arith, a, tt)
weigh_snoc (x ∷ put) d w m h a = (h.0, h.1 + m, omega (arith, h.2), h.3, weigh_snoc put d h.1 m h.4 a)

finish_within : (e : Env) (put : List Deferred) (w : ℕ) → Weigh put w → AtMost w (finish e put)
unfolding finish
finish_within e [] w h = record { cost_within = omega arith; once = (refl, refl) }
finish_within e (d ∷ ds) w h =
    refuted_within (d e).out (d e).cost h.0 h.1 w (λ u. finish e ds) (h.3 e).cost_within (finish_within e ds h.1 h.4) h.2

-- a continuation counts so much at most, and besides what the complements put by do
abbrev Leads : Continuation → ℕ → Type 0
Leads k c = (e : Env) (put : List Deferred) (w : ℕ) → Weigh put w → AtMost (c + w) (k e put)

finish_leads : Leads finish 0
finish_leads e put w h = within (finish_within e put w h) (omega arith)

module _ (table classes : List ℕ) where
  mutual
    unfolding search

    pub search_within : (how : ℕ → Tries) (q : Pattern) → NoRuns q → (t : Term) (at : ℕ) (e : Env) (put : List Deferred) (k : Continuation) (w c : ℕ)
        → Weigh put w → Leads k c → AtMost (nodes q + (c + w)) (search table classes how q t at e put k)
    search_within how (name v) n t at e put k w c h l =
        plus_within 1 (c + w) (if_some_within (assign classes e v at (single t)) (λ f. k f put) (λ f. l f put w h)) (omega arith)
    search_within how (symbol s qs) n (node r ts) at e put k w c h l =
        plus_within 1 (nodes_in qs + (c + w)) (if_true_within (eqb (class_of classes s) (class_of classes r)) _
        (searches_within how qs n ts (at + width table r) e put k w c h l)) (omega arith)
    search_within how (complement q) n t at e put k w c h l =
        let inside : (f : Env) → AtMost (nodes q) (search table classes freely q t at f [] finish) =
        λ f. within (search_within freely q n t at f [] finish 0 0 tt finish_leads) (omega arith) in
        plus_within 1 (c + (w + nodes q)) (l e _ (w + nodes q) (weigh_snoc put _ w (nodes q) h inside)) (omega arith)

    searches_within : (how : ℕ → Tries) (qs : Children) → NoRunsIn qs → (ts : Terms) (at : ℕ) (e : Env) (put : List Deferred) (k : Continuation) (w c : ℕ)
        → Weigh put w → Leads k c → AtMost (nodes_in qs + (c + w)) (searches table classes how qs ts at e put k)
    searches_within how end n nil at e put k w c h l = within (l e put w h) (omega arith)
    searches_within how end n (t :: ts) at e put k w c h l = fail_within _
    searches_within how (plain q qs) n nil at e put k w c h l = fail_within _
    searches_within how (plain q qs) n (t :: ts) at e put k w c h l =
        within (search_within how q n.0 t at e put (λ f ds. searches table classes how qs ts (at + size table t) f ds k) w (nodes_in qs + c) h
        (λ f ds u g. within (searches_within how qs n.1 ts (at + size table t) f ds k u c g l) (omega arith))) (omega arith)
    searches_within how (run v qs) n ts at e put k w c h l = absurd n

-- the whole search

resumed_fail : (is : Env → Bool) (o : Answers) → Once o → resumed is o ≡ fail
resumed_fail is (found e m o) h = go (is e)
  where
    go : (b : Bool) → cond b (record { out = o; cost = m }) (resumed is o) ≡ fail
    go true = rw (h.0, h.1)
    go false = rw h.1
resumed_fail is failed h = refl

module _ (l : Language) (q : Pattern) (n : NoRuns q) (t : Term) where
  whole_within : AtMost (nodes q) (whole l q t)
  whole_within = within (search_within l.table l.classes freely q n t 0 start [] finish 0 0 tt finish_leads) (omega arith)

  check_whole : (given : List ℕ) → check_given l q t given ≡ whole l q t
  unfolding check_given
  check_whole given =
      ap (λ (vs : List ℕ). search l.table l.classes (given_to vs given) q t 0 start [] finish) (ap firsts (no_runs_holds q n []))

  none_resumed : (given : List ℕ) → resumed_after l q t given ≡ fail
  unfolding resumed_after
  none_resumed given = resumed_fail (has_lengths q given) (whole l q t).out whole_within.once

  pub cost_bound : CostBound l q t
  unfolding next
  cost_bound = record {
    count_at_most = omega (arith, whole_within.cost_within);
    bound_or_none = λ allowance h.
        let fit : count_of l q t ≤ allowance = omega (arith, whole_within.cost_within) in
        subst BoundOrNone (sym (answer_within l q t allowance fit)) (not_spent (whole l q t).out);
    next_counts = counts;
    none_follows = λ given allowance h.
        let fit : count_of l q t ≤ allowance = omega (arith, whole_within.cost_within) in
        let m : ltb allowance (check_count l q t given) ≡ false = leb_false (suc allowance) _ (omega (arith, check_counts given)) in
        let n : ltb allowance (next_count l q t given) ≡ false = leb_false (suc allowance) _ (omega (arith, counts given)) in
        rw (m, n, ap (λ (r : Result). r.out) (none_resumed given))
        (follow (eqb (length given) (length (free_runs q))) (check_given l q t given).out (next_count l q t given) allowance);
  }
    where
      not_spent : (o : Answers) → BoundOrNone (matching_of l.table o (count_of l q t))
      not_spent (found e m o) = tt
      not_spent failed = tt

      check_counts : (given : List ℕ) → check_count l q t given ≡ count_of l q t
      check_counts given = ap (λ (r : Result). r.cost) (check_whole given)

      counts : (given : List ℕ) → next_count l q t given ≡ count_of l q t
      counts given = omega (arith, check_counts given, ap (λ (r : Result). r.cost) (none_resumed given))

      follow : (m : Bool) (o : Answers) (c allowance : ℕ)
          → NoneOrUnknown (one_for_each m (λ u. spent_or false allowance (λ u. unknown_or o (λ u. spent_or false allowance (λ u. follows (matching_of l.table failed c))))))
      follow true (found e k o) c allowance = tt
      follow true failed c allowance = tt
      follow false o c allowance = tt

-- how many nodes there are

module _ (table : List ℕ) where
  own_byte : (b : Bool) → 1 ≤ cond b 2 1
  own_byte true = omega arith
  own_byte false = omega arith

  mutual
    nodes_length : (q : Pattern) → nodes q ≤ length (encode table (pattern_tree q) [])
    nodes_length (name v) = omega (arith, branch_length table (Name v) empty, own_byte (list_code table (Name v)))
    nodes_length (symbol s qs) =
        omega (arith, branch_length table (Symbol s) (child_trees qs), own_byte (list_code table (Symbol s)), all_length qs)
    nodes_length (complement q) =
        omega (
          arith,
          branch_length table Complement (more (pattern_tree q) empty),
          own_byte (list_code table Complement),
          more_length table (pattern_tree q) empty,
          nodes_length q,
        )

    all_length : (qs : Children) → nodes_in qs ≤ length (encodes table (child_trees qs) [])
    all_length end = omega arith
    all_length (plain q qs) = omega (arith, more_length table (pattern_tree q) (child_trees qs), nodes_length q, all_length qs)
    all_length (run v qs) =
        omega (
          arith,
          more_length table (branch (Run v) empty) (child_trees qs),
          branch_length table (Run v) empty,
          own_byte (list_code table (Run v)),
          all_length qs,
        )

pub few_nodes : (l : Language) (q : Pattern) → PatternAccepted l q → nodes q ≤ ample
few_nodes l q a = omega (arith, nodes_length l.table q, a.short)

pub enough_nodes : (l : Language) (q : Pattern) (allowance : ℕ) → PatternAccepted l q → Enough q allowance → nodes q ≤ allowance
enough_nodes l q allowance a (inl h) = h
enough_nodes l q allowance a (inr h) = omega (arith, few_nodes l q a)

-- whether there are run names

mutual
  pub runs_exactly : (q : Pattern) → (has_runs q ≡ false) ↔ NoRuns q
  runs_exactly (name v) = (λ h. tt, λ h. refl)
  runs_exactly (symbol s qs) = all_exactly qs
  runs_exactly (complement q) = runs_exactly q

  all_exactly : (qs : Children) → (has_runs_in qs ≡ false) ↔ NoRunsIn qs
  all_exactly end = (λ h. tt, λ h. refl)
  all_exactly (plain q qs) = (
    λ h. let e = cond_false (has_runs q) (has_runs_in qs) h in ((runs_exactly q).0 e.0, (all_exactly qs).0 e.1),
    λ h. rw ((runs_exactly q).1 h.0) ((all_exactly qs).1 h.1),
  )
  all_exactly (run v qs) = (λ h. absurd (true≢false h), λ h. absurd h)
