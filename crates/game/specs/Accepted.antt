-- The trees of accepted input: rules, each with a template of it.
use Rattle.std.specs.Prelude.{List, [], ◌∷◌}
use Rattle.term.specs.Language.{Language}
use Rattle.term.specs.Limits.{PatternAccepted}
use Rattle.replace.specs.Loose.{Template}
use Rattle.game.specs.Move.{Rule}

pub record RuleAccepted (l : Language) (r : Rule) : Type 0 where
  pub pattern : PatternAccepted l r.pattern
  pub template : PatternAccepted l r.template
  pub of_rule : Template r.pattern r.template

abbrev pub EachAccepted : Language → List Rule → Type 0
EachAccepted l [] = Unit {0}
EachAccepted l (r ∷ rs) = RuleAccepted l r × EachAccepted l rs
