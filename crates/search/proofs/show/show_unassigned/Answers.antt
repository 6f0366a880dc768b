-- `search::show::show_unassigned` meets its contract. Assumes nothing.
use mathlib.Core.Path.{sym, ◌∙◌}
use Rattle.search.proofs.Findings.{same_found}
use Rattle.search.proofs.Shown.{found_shown, other_unshown}
use Rattle.search.proofs.show.show_unassigned.Goals as goal

pub returns-then-eq : goal.returns-then-eq
returns-then-eq c = found_shown _ _ _ _ (sym (same_found _) ∙ sym c.eq.ensures ∙ c.if-eq.true) c.show_absent.ensures

pub returns-else-eq : goal.returns-else-eq
returns-else-eq c = other_unshown _ _ _ (sym (same_found _) ∙ sym c.eq.ensures ∙ c.if-eq.false)
