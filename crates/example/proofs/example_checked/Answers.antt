-- `example::example_checked` meets its contract.
use Rattle.term.specs.Lent.{language_by}
use Rattle.example.proofs.Calls.{shows_bound, shows_spent, shows_none}
use Rattle.example.proofs.example_checked.Goals as goal

pub returns-in_default : goal.returns-in_default
returns-in_default c = let a = c.args in
    shows_none (language_by a.language.now) a.pattern.now c.keep_symbols-kept.result c.find_twins.result a.allowance a.size
    c.keep_symbols-kept.ensures c.find_twins.ensures c.try_sizes.result c.try_sizes.new.s c.try_sizes.ensures.tries_sizes c.try_sizes.ensures.length_le_size a.output.now c.in_default.is

pub returns-in-Bound : goal.returns-in-Bound
returns-in-Bound c = let a = c.args in
    shows_bound (language_by a.language.now) a.pattern.now c.keep_symbols-kept.result c.find_twins.result a.allowance a.size
    c.keep_symbols-kept.ensures c.find_twins.ensures c.try_sizes.result c.try_sizes.new.s c.try_sizes.ensures.tries_sizes c.try_sizes.ensures.length_le_size a.output.now c.in-Err.stop c.in-Err.is
    c.in-Bound.count c.in-Bound.is c.put_example.result c.put_example.new.output c.put_example.ensures.value c.put_example.ensures.output_value

pub returns-in-Spent : goal.returns-in-Spent
returns-in-Spent c = let a = c.args in
    shows_spent (language_by a.language.now) a.pattern.now c.keep_symbols-kept.result c.find_twins.result a.allowance a.size
    c.keep_symbols-kept.ensures c.find_twins.ensures c.try_sizes.result c.try_sizes.new.s c.try_sizes.ensures.tries_sizes c.try_sizes.ensures.length_le_size a.output.now c.in-Err.stop c.in-Err.is c.in-Spent.is
