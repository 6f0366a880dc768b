-- `rules::match_rules_checked` meets its contract. The invariant: the rules before index i are none.
use Rattle.rules.proofs.Turns.{Turn}
use Rattle.rules.proofs.match_rules_checked.Given as goal

abbrev pub invariant-loop-i : goal.invariant-loop-i
invariant-loop-i l = Turn l.table l.classes l.sheet l.«record» l.allowance l.initial.answer l.rules l.answer l.sum l.i
