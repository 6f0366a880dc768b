-- `stored::read_form` meets its contract.
use native.Mathlib.Omega.{arith}
use mathlib.Core.Path.{sym, ◌∙◌}
use Rattle.std.proofs.lemmas.Result.{err_from_is_err_and}
use Rattle.stored.proofs.Demands.{form_long, form_refused, form_spare, form_all}
use Rattle.stored.proofs.Steps.{tree_ends}
use Rattle.stored.proofs.read_form.Goals as goal

pub returns-then-s-gt-LONGEST_STORED : goal.returns-then-s-gt-LONGEST_STORED
returns-then-s-gt-LONGEST_STORED c = form_long _ _ c.if-s-gt-LONGEST_STORED.true

pub returns-in_err-end : goal.returns-in_err-end
returns-in_err-end c = let p = err_from_is_err_and c.from_residual.result c.from_residual.ensures.1 in
    rw (p.1, p.2) (form_refused _ _ c.if-s-gt-LONGEST_STORED.false _ (sym c.read_tree.ensures ∙ c.in_err-end.was))

pub returns-then-end-s : goal.returns-then-end-s
returns-then-end-s c = form_spare _ _ c.if-s-gt-LONGEST_STORED.false _ (sym c.read_tree.ensures ∙ c.in_ok-end.was) c.if-end-s.true

pub returns : goal.returns
returns c = let e = sym c.read_tree.ensures ∙ c.in_ok-end.was in
    form_all _ _ c.if-s-gt-LONGEST_STORED.false _ e (tree_ends _ _ _ _ _ (λ i. omega (arith, c.type_inv.s i)) e) c.if-end-s.false
