-- Each index that the game shows is below a sheet's length, or tells a pass or that no move is needed; so 32 bits hold it.
use Prim.Native.Nat.{ℕ, zero, suc, ◌+◌, ◌≤◌}
use native.Mathlib.Omega.{arith}
use mathlib.Core.Path.{◌≡◌, refl, ap}
use mathlib.Core.List.{List, [], ◌∷◌}
use mathlib.Core.Bool.{Bool, true, false, cond}
use lib.Dec.{leb, eqb}
use lib.ListN.{length}
use Rattle.answers.specs.Answers.{played_index}
use Rattle.answers.specs.declared.Played.{Played}
use Rattle.answers.specs.declared.Refusal.TheVariants.{Table, Class, Directory, Loose, Turns}
use Rattle.answers.specs.Shown.{fault_index}
use Rattle.term.specs.Language.{Language}
use Rattle.term.specs.Pattern.{Pattern}
use Rattle.term.specs.Table.{table_accepted}
use Rattle.term.specs.Term.{Term}
use Rattle.reader.specs.Brought.{Brought, language_of, brought_accepted}
use Rattle.reader.specs.Reading.{Parsed, refused, read, read_pattern, read_record}
use Rattle.anti_pattern.specs.Answer.{Matching, bound, nothing, spent}
use Rattle.anti_pattern.specs.Variables.{free}
use Rattle.call.specs.Call.{checks, answer_by}
use Rattle.call.specs.Verdict.{Verdict, passed, fault, check, reading, both}
use Rattle.sheet.specs.Check.{longest_sheet}
use Rattle.sheet.specs.Entry.{entries}
use Rattle.sheet.proofs.Contents.{contents_passed}
use Rattle.rules.specs.Call.{rules_by, rules_of}
use Rattle.rules.proofs.Rules.{rules_few}
use Rattle.replace.specs.Loose.{loose}
use Rattle.game.specs.Call.{most_turns, with_rule, with_template, templates_from, templates_by, check_own, check_templates, side_by, side, Trees, game, told, play_of}
use Rattle.game.specs.Handed.{Handed}
use Rattle.game.specs.Move.{Rule, Game}
use Rattle.game.specs.Search.{Ruling, forced, unforced, stopped, Opening, unneeded, by_rule, by_pass, Turn, to, nowhere, spends, Allowing, each, turn, goal_at, goal_first, at_turn, unless_forced, loader_tries, loader_turn, sender_turn, play}
use Rattle.qonveshir.specs.Shown.{largest}
use Rattle.qonveshir.proofs.Indices.{among_index, entries_few, contents_index}
use Rattle.std.specs.Prelude.{Result, Ok, Err, Some}
use Rattle.answers.specs.declared.Fault.{Fault}
use Rattle.answers.specs.Fault.{fault_at}

-- the entry at fault and the rules that pass, of one side

abbrev Within : ℕ → ℕ → Verdict (List Rule) → Type 0
Within at most (fault r i) = i ≤ at
Within at most (passed rs) = length rs ≤ most

templates_within : (l : Language) (i : ℕ) (ps : List Pattern) (es : List (List ℕ)) → Within (i + length ps) (length ps) (templates_from l i ps es)
unfolding templates_from
templates_within l i [] es = omega arith
templates_within l i (p ∷ ps) [] = omega arith
templates_within l i (p ∷ ps) (e ∷ es) = go (read_pattern l e) (templates_from l (i + 1) ps es) (templates_within l (i + 1) ps es)
  where
    firm : (b : Bool) (q : Pattern) (v : Verdict (List Rule)) → Within (i + 1 + length ps) (length ps) v
        → Within (i + suc (length ps)) (suc (length ps)) (cond b (fault Loose i) (with_rule p q v))
    firm true q v h = omega arith
    firm false q (fault r j) h = omega (arith, h)
    firm false q (passed rs) h = omega (arith, h)

    go : (x : Parsed Pattern) (v : Verdict (List Rule)) → Within (i + 1 + length ps) (length ps) v
        → Within (i + suc (length ps)) (suc (length ps)) (with_template i p x v)
    go (refused r) v h = omega arith
    go (read q n) v h = firm (loose (free p) q) q v h

within_sheet : (at most : ℕ) (v : Verdict (List Rule)) → at ≤ longest_sheet → most ≤ longest_sheet → Within at most v → Within longest_sheet longest_sheet v
within_sheet at most (fault r i) k m h = omega (arith, k, h)
within_sheet at most (passed rs) k m h = omega (arith, m, h)

side_within : (brought : Brought) (rules templates : List ℕ) → Within longest_sheet longest_sheet (side brought rules templates)
unfolding side
side_within brought rules templates = go (check_own brought rules) refl
  where
    l : Language
    l = language_of brought

    ps : List Pattern
    ps = rules_of l (entries rules)

    alike : (b : Bool) → length ps ≤ longest_sheet → Within longest_sheet longest_sheet (cond b (templates_from l 0 ps (entries templates)) (fault Directory 0))
    alike true k = within_sheet (0 + length ps) (length ps) (templates_from l 0 ps (entries templates)) (omega (arith, k)) k (templates_within l 0 ps (entries templates))
    alike false k = omega arith

    by : (x : Result ℕ Fault) → fault_index x ≡ 0 → length ps ≤ longest_sheet → Within longest_sheet longest_sheet (templates_by l ps templates x)
    by (Err f) e k = omega (arith, e)
    by (Ok n) e k = alike (eqb n (length ps)) k

    go : (x : Result ℕ Fault) → check_own brought rules ≡ x → Within longest_sheet longest_sheet (side_by l templates (rules_by x ps))
    go (Err f) e = omega (arith, rw e at (contents_index false (Some brought.edition) brought.table brought.list rules))
    go (Ok n) e =
        by (check_templates l templates) (among_index (Some brought.edition) templates)
        (omega (arith, rules_few l (entries rules), entries_few rules n (contents_passed false (Some brought.edition) brought.table brought.list rules n e).sheet))

-- how the loader begins

abbrev index_of : Ruling Opening → ℕ
index_of x = played_index (told 0 x)

told_index : (n : ℕ) (x : Ruling Opening) → played_index (told n x) ≡ index_of x
told_index n (forced unneeded) = refl
told_index n (forced (by_rule i)) = refl
told_index n (forced by_pass) = refl
told_index n unforced = refl
told_index n stopped = refl

unless_index : (x : Ruling (Unit {0})) (o : Opening) (next : Unit {0} → Ruling Opening) (n : ℕ) → index_of (forced o) ≤ n → index_of (next tt) ≤ n
    → index_of (unless_forced x o next) ≤ n
unless_index (forced a) o next n h k = h
unless_index unforced o next n h k = k
unless_index stopped o next n h k = omega arith

module _ (l : Language) (allowed : Allowing) where
  tries_index : (follow : Term → Ruling (Unit {0})) (t : Term) (i : ℕ) (moved : Bool) (rs : List Rule)
      → index_of (loader_tries l allowed follow t i moved rs) ≤ i + length rs + 65
  unfolding loader_tries
  tries_index follow t i true [] = omega arith
  tries_index follow t i false [] = unless_index (follow t) by_pass (λ y. unforced) (i + 0 + 65) (omega arith) (omega arith)
  tries_index follow t i moved (r ∷ rs) = go (turn l allowed r t) (tries_index follow t (i + 1) true rs) (tries_index follow t (i + 1) moved rs)
    where
      rest : Bool → Unit {0} → Ruling Opening
      rest m = λ x. loader_tries l allowed follow t (i + 1) m rs

      go : (x : Turn) → index_of (rest true tt) ≤ i + 1 + length rs + 65 → index_of (rest moved tt) ≤ i + 1 + length rs + 65
          → index_of (at_turn x (λ u. unless_forced (follow u) (by_rule i) (rest true)) (rest moved)) ≤ i + suc (length rs) + 65
      go (to u) h k = unless_index (follow u) (by_rule i) (rest true) (i + suc (length rs) + 65) (omega arith) (omega (arith, h))
      go nowhere h k = omega (arith, k)
      go spends h k = omega arith

  play_index : (g : Game) (n : ℕ) (t : Term) → index_of (play l allowed g n t) ≤ length g.loader + 65
  unfolding loader_turn
  play_index g zero t = go (goal_at l allowed g t)
    where
      go : (x : Matching) → index_of (goal_first unneeded x (λ y. unforced)) ≤ length g.loader + 65
      go (bound ps m) = omega arith
      go (nothing m) = omega arith
      go (spent m) = omega arith
  play_index g (suc n) t = go (goal_at l allowed g t)
    where
      moves : Ruling Opening
      moves = loader_tries l allowed (λ u. sender_turn l allowed g n u) t zero false g.loader

      go : (x : Matching) → index_of (goal_first unneeded x (λ y. moves)) ≤ length g.loader + 65
      go (bound ps m) = omega arith
      go (nothing m) = omega (arith, tries_index (λ u. sender_turn l allowed g n u) t zero false g.loader)
      go (spent m) = omega arith

-- the call

played_index_holds : (turns : ℕ) (h : Handed) (bytes : List ℕ) (allowance : ℕ) → played_index (play_of turns h bytes allowance) ≤ longest_sheet + 65
unfolding play_of checks
played_index_holds turns h bytes allowance =
    go (leb turns most_turns) (table_accepted h.brought.table) (brought_accepted h.brought) (side h.brought h.sheets.loader h.sheets.loader_templates)
    (side h.brought h.sheets.sender h.sheets.sender_templates) (read_pattern l h.sheets.goal) (read_record l bytes)
    (side_within h.brought h.sheets.loader h.sheets.loader_templates) (side_within h.brought h.sheets.sender h.sheets.sender_templates)
  where
    l : Language
    l = language_of h.brought

    answers : Trees → Result Played Fault
    answers x = told allowance (play l (each allowance) (game x) turns x.1.1)

    go : (a b c : Bool) (v w : Verdict (List Rule)) (q : Parsed Pattern) (t : Parsed Term) → Within longest_sheet longest_sheet v → Within longest_sheet longest_sheet w
        → played_index (answer_by (λ r i. Err (fault_at r i)) answers (check a Turns (check b Table (check c Class (both (both v w) (both (reading q) (reading t))))))) ≤ longest_sheet + 65
    go false b c v w q t i j = omega arith
    go true false c v w q t i j = omega arith
    go true true false v w q t i j = omega arith
    go true true true (fault r k) w q t i j = omega (arith, i)
    go true true true (passed rs) (fault r k) q t i j = omega (arith, j)
    go true true true (passed rs) (passed ss) (refused r) t i j = omega arith
    go true true true (passed rs) (passed ss) (read p m) (refused r) i j = omega arith
    go true true true (passed rs) (passed ss) (read p m) (read u n) i j =
        let g : Game = record { loader = rs; sender = ss; goal = p } in
        omega (arith, i, told_index allowance (play l (each allowance) g turns u), play_index l (each allowance) g turns u)

pub played_fits : (turns : ℕ) (h : Handed) (bytes : List ℕ) (allowance : ℕ) (a : Result Played Fault) → a ≡ play_of turns h bytes allowance → played_index a ≤ largest
played_fits turns h bytes allowance a e = omega (arith, ap played_index e, played_index_holds turns h bytes allowance)
