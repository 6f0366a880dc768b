-- `example::example_brought` meets its contract.
use mathlib.Core.Path.{ap}
use lib.ListN.{length}
use native.Mathlib.Omega.{arith}
use Rattle.std.proofs.lemmas.Result.{err_from_is_err_and}
use Rattle.term.specs.Language.{Language}
use Rattle.term.specs.Lent.{language_by}
use Rattle.reader.specs.Lent.{brought_of}
use Rattle.example.proofs.Calls.{called_long, called_failed, passed_short, called_shown}
use Rattle.example.proofs.example_brought.Goals as goal

pub returns-then-most-gt-LARGEST_SIZE : goal.returns-then-most-gt-LARGEST_SIZE
returns-then-most-gt-LARGEST_SIZE c = let a = c.args in
    called_long (brought_of a.brought.now) a.pattern.now a.size (λ i. omega (arith, c.type_inv.pattern i)) a.allowance a.output.now c.if-most-gt-LARGEST_SIZE.true

pub returns-in_err-check_rule : goal.returns-in_err-check_rule
returns-in_err-check_rule c = let a = c.args in
    let p = err_from_is_err_and c.from_residual.result c.from_residual.ensures.1 in
    rw (p.1, p.2) (called_failed (brought_of a.brought.now) a.pattern.now a.size (λ i. omega (arith, c.type_inv.pattern i)) a.allowance a.output.now
    (omega arith) c.check_rule.result c.check_rule.ensures _ c.in_err-check_rule.was)

pub example_checked-requires-clause-table_len_bound : goal.example_checked-requires-clause-table_len_bound
example_checked-requires-clause-table_len_bound c = let a = c.args in
    omega (
      arith,
      ap (λ (l : Language). length l.table) c.language.ensures,
      passed_short (brought_of a.brought.now) a.pattern.now a.size (λ i. omega (arith, c.type_inv.pattern i)) a.allowance a.output.now
          (omega arith) c.check_rule.result c.check_rule.ensures c.in_ok-check_rule.was,
    )

pub returns : goal.returns
returns c = let a = c.args in
    called_shown (brought_of a.brought.now) a.pattern.now a.size (λ i. omega (arith, c.type_inv.pattern i)) a.allowance a.output.now
    (omega arith) c.check_rule.result c.check_rule.ensures c.in_ok-check_rule.was
    (language_by c.language.result) c.language.ensures c.example_checked.result c.example_checked.new.output c.example_checked.ensures
