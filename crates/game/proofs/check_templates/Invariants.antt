-- `game::check_templates` meets its contract.
use Rattle.term.specs.Lent.{language_by}
use Rattle.game.proofs.Templates.{CheckedTo}
use Rattle.game.proofs.check_templates.Given as goal

abbrev pub invariant-loop-i : goal.invariant-loop-i
invariant-loop-i l = CheckedTo (language_by l.language) l.rules l.templates l.n l.i
