-- `replace::put_terms` meets its contract.
use Rattle.replace.proofs.Fillings.{stored_unfit, stored_fits}
use Rattle.replace.proofs.Stored.{stored_out}
use Rattle.replace.proofs.put_terms.Goals as goal

pub returns-then-not-terms_nest : goal.returns-then-not-terms_nest
returns-then-not-terms_nest c = let a = c.args in
    stored_unfit a.table.now a.s.now a.left a.at a.out.now _ c.if-not-terms_nest.true c.terms_nest.ensures

pub returns-then-out-at : goal.returns-then-out-at
returns-then-out-at c = let a = c.args in
    stored_fits a.table.now a.s.now a.left a.at a.out.now _ a.out.now c.if-not-terms_nest.false c.terms_nest.ensures (stored_out a.out.now a.at a.s.now c.if-out-at.true)

pub returns : goal.returns
returns c = let a = c.args in
    stored_fits a.table.now a.s.now a.left a.at a.out.now _ _ c.if-not-terms_nest.false c.terms_nest.ensures c.store_all.ensures
