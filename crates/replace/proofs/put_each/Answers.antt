-- `replace::put_each` meets its contract.
use Rattle.replace.proofs.Placings.{place_first, place_last, place_unfit, place_next}
use Rattle.replace.proofs.Splices.{lists}
use Rattle.replace.proofs.Forests.{extent_some_at, part_length}
use Rattle.replace.specs.Splice.{listed_in}
use Rattle.term.specs.Splicing.{same_list}
use Rattle.term.specs.Lent.{language_by}
use lib.ListN.{drop, take}
use mathlib.Core.Path.{refl, ap, ◌∙◌}
use Prim.Native.Nat.{◌-◌, ◌+◌}
use native.Mathlib.Omega.{arith}
use Rattle.replace.proofs.put_each.Goals as goal

pub loop-used-init : goal.loop-used-init
loop-used-init c = place_first c.args.language.now.table.now (listed_in (language_by c.args.language.now)) (lists (language_by c.args.language.now)) c.args.around c.args.part.now c.args.left c.args.at c.args.out.now

pub returns-then-not-put_terms-clause-is : goal.returns-then-not-put_terms-clause-is
returns-then-not-put_terms-clause-is c = (place_unfit c.args.language.now.table.now (listed_in (language_by c.args.language.now)) (lists (language_by c.args.language.now)) c.args.around c.args.part.now c.args.left c.args.at c.args.out.now c.loop-used.out c.loop-used.used c.loop-used.put c.loop-used.elements c.loop-used-test.true c.loop-used.invariant c.extent-n.result c.extent-n.ensures.is c.is_direct-direct.result (c.is_direct-direct.ensures ∙ ap (same_list c.args.around) c.listed-inner.ensures) (take (c.loop-used.used + c.extent-n.result - c.loop-used.used) (drop c.loop-used.used c.args.part.now)) c.placed_bytes-s.result.now refl c.placed_bytes-s.ensures.is c.put_terms.result c.put_terms.new.out c.put_terms.ensures c.if-not-put_terms.true).0

pub loop-used-smaller : goal.loop-used-smaller
loop-used-smaller c = omega (arith, c.requires.0, c.requires.1, c.loop-used.invariant.within, c.loop-used.invariant.less, c.loop-used.invariant.few, c.loop-used-test.true, c.extent-n.ensures.within, part_length c.args.part.now c.loop-used.used, extent_some_at c.args.language.now.table.now c.args.part.now c.loop-used.used _ c.loop-used-test.true c.extent-n.ensures.is)

pub loop-used-preserved : goal.loop-used-preserved
loop-used-preserved c = place_next c.args.language.now.table.now (listed_in (language_by c.args.language.now)) (lists (language_by c.args.language.now)) c.args.around c.args.part.now c.args.left c.args.at c.args.out.now c.loop-used.out c.loop-used.used c.loop-used.put c.loop-used.elements c.loop-used-test.true c.loop-used.invariant c.extent-n.result c.extent-n.ensures.is c.is_direct-direct.result (c.is_direct-direct.ensures ∙ ap (same_list c.args.around) c.listed-inner.ensures) (take (c.loop-used.used + c.extent-n.result - c.loop-used.used) (drop c.loop-used.used c.args.part.now)) c.placed_bytes-s.result.now refl c.placed_bytes-s.ensures.is c.put_terms.result c.put_terms.new.out c.put_terms.ensures c.placed_terms-elements.result c.if-not-put_terms.false c.placed_terms-elements.ensures.is c.placed_terms-elements.ensures.few (extent_some_at c.args.language.now.table.now c.args.part.now c.loop-used.used _ c.loop-used-test.true c.extent-n.ensures.is) (omega (arith, c.loop-used-test.true, c.extent-n.ensures.within, part_length c.args.part.now c.loop-used.used)) c.placed_bytes-s.ensures.within c.put_terms.auto.out

pub returns-clause-is : goal.returns-clause-is
returns-clause-is c = (place_last c.args.language.now.table.now (listed_in (language_by c.args.language.now)) (lists (language_by c.args.language.now)) c.args.around c.args.part.now c.args.left c.args.at c.args.out.now c.loop-used.out c.loop-used.used c.loop-used.put c.loop-used.elements c.loop-used-test.false c.loop-used.invariant).0
