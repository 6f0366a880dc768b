-- `cost::cost_brought` meets its contract.
use native.Mathlib.Omega.{arith}
use mathlib.Core.Path.{sym, ◌∙◌}
use Rattle.reader.specs.Lent.{brought_of}
use Rattle.std.proofs.lemmas.Result.{err_from_is_err_and}
use Rattle.cost.proofs.Demanded.{table_fails, class_fails, pattern_fails, passes_short, passes_counted}
use Rattle.cost.proofs.cost_brought.Goals as goal

pub returns-then-not-check_table-clause-is : goal.returns-then-not-check_table-clause-is
returns-then-not-check_table-clause-is c = let args = c.args in
    (table_fails (brought_of args.brought.now) args.pattern.now (λ i. omega (arith, c.type_inv.pattern i)) (sym c.if-not-check_table.ensures)).0

pub returns-then-not-check_table-clause-demand : goal.returns-then-not-check_table-clause-demand
returns-then-not-check_table-clause-demand c = let args = c.args in
    (table_fails (brought_of args.brought.now) args.pattern.now (λ i. omega (arith, c.type_inv.pattern i)) (sym c.if-not-check_table.ensures)).1

pub returns-then-not-accepts_list-clause-is : goal.returns-then-not-accepts_list-clause-is
returns-then-not-accepts_list-clause-is c = let args = c.args in
    (class_fails (brought_of args.brought.now) args.pattern.now (λ i. omega (arith, c.type_inv.pattern i)) (sym c.if-not-check_table.ensures) (sym c.if-not-accepts_list.ensures)).0

pub returns-then-not-accepts_list-clause-demand : goal.returns-then-not-accepts_list-clause-demand
returns-then-not-accepts_list-clause-demand c = let args = c.args in
    (class_fails (brought_of args.brought.now) args.pattern.now (λ i. omega (arith, c.type_inv.pattern i)) (sym c.if-not-check_table.ensures) (sym c.if-not-accepts_list.ensures)).1

pub returns-in_err-read_pattern_in-clause-is : goal.returns-in_err-read_pattern_in-clause-is
returns-in_err-read_pattern_in-clause-is c = let args = c.args in
    let p = err_from_is_err_and c.from_residual.result c.from_residual.ensures.1 in
    rw (p.1, p.2) (pattern_fails (brought_of args.brought.now) args.pattern.now (λ i. omega (arith, c.type_inv.pattern i)) (sym c.if-not-check_table.ensures) (sym c.if-not-accepts_list.ensures) _
    (rw c.language.ensures at (sym c.read_pattern_in.ensures ∙ c.in_err-read_pattern_in.was))).0

pub returns-in_err-read_pattern_in-clause-demand : goal.returns-in_err-read_pattern_in-clause-demand
returns-in_err-read_pattern_in-clause-demand c = let args = c.args in
    let p = err_from_is_err_and c.from_residual.result c.from_residual.ensures.1 in
    rw (p.1, p.2) (pattern_fails (brought_of args.brought.now) args.pattern.now (λ i. omega (arith, c.type_inv.pattern i)) (sym c.if-not-check_table.ensures) (sym c.if-not-accepts_list.ensures) _
    (rw c.language.ensures at (sym c.read_pattern_in.ensures ∙ c.in_err-read_pattern_in.was))).1

pub count_nodes-requires : goal.count_nodes-requires
count_nodes-requires c = let args = c.args in
    passes_short (brought_of args.brought.now) args.pattern.now (λ i. omega (arith, c.type_inv.pattern i)) (sym c.if-not-check_table.ensures) (sym c.if-not-accepts_list.ensures) _
    (rw c.language.ensures at (sym c.read_pattern_in.ensures ∙ c.in_ok-read_pattern_in.was))

pub returns-clause-is : goal.returns-clause-is
returns-clause-is c = let args = c.args in
    (passes_counted (brought_of args.brought.now) args.pattern.now (λ i. omega (arith, c.type_inv.pattern i)) (sym c.if-not-check_table.ensures) (sym c.if-not-accepts_list.ensures) _
    (rw c.language.ensures at (sym c.read_pattern_in.ensures ∙ c.in_ok-read_pattern_in.was)) _ c.count_nodes.ensures).0

pub returns-clause-demand : goal.returns-clause-demand
returns-clause-demand c = let args = c.args in
    (passes_counted (brought_of args.brought.now) args.pattern.now (λ i. omega (arith, c.type_inv.pattern i)) (sym c.if-not-check_table.ensures) (sym c.if-not-accepts_list.ensures) _
    (rw c.language.ensures at (sym c.read_pattern_in.ensures ∙ c.in_ok-read_pattern_in.was)) _ c.count_nodes.ensures).1
