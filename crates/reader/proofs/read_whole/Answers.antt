-- `reader::read_whole` meets its contract.
use Rattle.reader.proofs.Steps.{whole_long, whole_tree, whole_refused, whole_spare, whole_all, tree_ends}
use Rattle.reader.specs.Reading.{shown}
use Rattle.term.specs.Limits.{longest}
use lib.ListN.{length}
use Prim.Native.Nat.{◌≤◌, ◌<◌}
use mathlib.Core.Bool.{not}
use lib.Dec.{eqb}
use mathlib.Core.Path.{sym, ap, ◌∙◌}
use Rattle.std.proofs.lemmas.Result.{err_from_is_err_and}
use native.Mathlib.Omega.{arith}
use Rattle.reader.proofs.read_whole.Goals as goal

pub returns-then-longest_of-s : goal.returns-then-longest_of-s
returns-then-longest_of-s g c = let h : longest (not (eqb g.row.RECORDS 0)) < length c.args.s.now = omega arith in
    sym (whole_long _ _ _ h)

pub returns-in_err-end : goal.returns-in_err-end
returns-in_err-end g c = let h : length c.args.s.now ≤ longest (not (eqb g.row.RECORDS 0)) = omega arith in
    let p = err_from_is_err_and c.from_residual.result c.from_residual.ensures.1 in
    rw (p.1, p.2) (sym (ap shown (whole_tree _ _ _ h) ∙ whole_refused _ _ _ (sym c.read_tree.ensures ∙ c.in_err-end.was)))

pub returns-then-end-s : goal.returns-then-end-s
returns-then-end-s g c = let h : length c.args.s.now ≤ longest (not (eqb g.row.RECORDS 0)) = omega arith in
    sym (ap shown (whole_tree _ _ _ h) ∙ whole_spare _ _ _ (sym c.read_tree.ensures ∙ c.in_ok-end.was) c.if-end-s.true)

pub returns : goal.returns
returns g c = let h : length c.args.s.now ≤ longest (not (eqb g.row.RECORDS 0)) = omega arith in
    let e = sym c.read_tree.ensures ∙ c.in_ok-end.was in
    sym (ap shown (whole_tree _ _ _ h) ∙ whole_all _ _ _ e (tree_ends _ _ _ _ _ _ e) c.if-end-s.false)
