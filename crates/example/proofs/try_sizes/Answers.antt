-- `example::try_sizes` meets its contract.
use native.Mathlib.Omega.{arith}
use mathlib.Core.Path.{refl}
use mathlib.Core.List.{◌++◌}
use lib.ListN.{drop}
use Prim.Native.Nat.{◌+◌}
use Rattle.term.specs.Lent.{language_by}
use Rattle.example.proofs.Trials.{sizing_start, sizing_part, sizing_stops, sizing_again, sizing_end}
use Rattle.example.proofs.try_sizes.Goals as goal

pub loop-length-init : goal.loop-length-init
loop-length-init c = let a = c.args.search.now in
    sizing_start (language_by a.language) a.lower a.pattern.now a.allowance c.args.size c.requires.size_le_largest_size c.args.s.now c.requires.s_value

pub try_length-requires : goal.try_length-requires
try_length-requires c = let a = c.args.search.now in let n = c.loop-length in
    record { s_value = sizing_part (language_by a.language) a.lower a.pattern.now a.allowance c.args.size c.requires.size_le_largest_size n.s n.length n.invariant (omega arith) }

pub returns-in-Err-clause-tries_sizes : goal.returns-in-Err-clause-tries_sizes
returns-in-Err-clause-tries_sizes c = let a = c.args.search.now in let n = c.loop-length in
    sizing_stops (language_by a.language) a.lower a.pattern.now a.allowance c.args.size c.requires.size_le_largest_size n.s n.length n.invariant (omega arith)
    c.try_length.result c.try_length.new.s c.try_length.auto.s c.try_length.ensures.tries_length c.in-Err.end c.in-Err.is n.length refl

pub loop-length-preserved : goal.loop-length-preserved
loop-length-preserved c = let a = c.args.search.now in let n = c.loop-length in
    sizing_again (language_by a.language) a.lower a.pattern.now a.allowance c.args.size c.requires.size_le_largest_size n.s n.length n.invariant (omega arith)
    c.try_length.result c.try_length.new.s c.try_length.auto.s c.try_length.ensures.tries_length c.in_default.is c.try_length.ensures.cleared

pub returns-in_default-clause-tries_sizes : goal.returns-in_default-clause-tries_sizes
returns-in_default-clause-tries_sizes c = let a = c.args.search.now in let n = c.loop-length in
    sizing_end (language_by a.language) a.lower a.pattern.now a.allowance c.args.size c.requires.size_le_largest_size _ (n.length + 1)
    (sizing_again (language_by a.language) a.lower a.pattern.now a.allowance c.args.size c.requires.size_le_largest_size n.s n.length n.invariant (omega arith)
    c.try_length.result c.try_length.new.s c.try_length.auto.s c.try_length.ensures.tries_length c.in_default.is c.try_length.ensures.cleared) (omega arith) (c.try_length.new.s ++ drop n.length n.s)

pub returns-clause-tries_sizes : goal.returns-clause-tries_sizes
returns-clause-tries_sizes c = let a = c.args.search.now in let n = c.loop-length in
    sizing_end (language_by a.language) a.lower a.pattern.now a.allowance c.args.size c.requires.size_le_largest_size n.s n.length n.invariant (omega arith) n.s
