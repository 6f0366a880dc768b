-- `station::is_in_order` meets its contract.
use mathlib.Core.Path.{sym, ◌∙◌}
use Rattle.station.proofs.Checks.{order_over, order_unfit, order_names}
use Rattle.station.proofs.is_in_order.Goals as goal

pub returns-then-n-gt-KEPT : goal.returns-then-n-gt-KEPT
returns-then-n-gt-KEPT c = sym (order_over c.args.station c.from-n.result c.from-n.ensures c.if-n-gt-KEPT.true)

pub returns-then-not-all_fit : goal.returns-then-not-all_fit
returns-then-not-all_fit c = sym (order_unfit c.args.station c.from-n.result c.from-n.ensures c.if-n-gt-KEPT.false (sym c.all_fit.ensures ∙ c.if-not-all_fit.true))

pub returns : goal.returns
returns c = c.is_distinct.ensures ∙ order_names c.args.station c.from-n.result c.from-n.ensures c.if-n-gt-KEPT.false (sym c.all_fit.ensures ∙ c.if-not-all_fit.false)
