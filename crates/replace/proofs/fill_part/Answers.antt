-- `replace::fill_part` meets its contract.
use Rattle.replace.proofs.Placings.{each_part}
use Rattle.replace.proofs.Fillings.{part_unfit, part_fits}
use Rattle.replace.specs.Splice.{listed_in}
use Rattle.term.specs.Lent.{language_by}
use Rattle.term.proofs.Pairs.{together}
use Rattle.replace.proofs.fill_part.Goals as goal

pub returns-then-not-put_terms : goal.returns-then-not-put_terms
returns-then-not-put_terms c = together (part_unfit c.args.language.now.table.now c.args.matched.now.bytes.now c.args.matched.now.answer.now (listed_in (language_by c.args.language.now)) c.args.around c.in-None.is c.args.v c.args.left c.args.at c.args.out.now c.part_of-part.result.now c.part_of-part.ensures.is _ _ c.if-not-put_terms.true c.put_terms.ensures) (λ first rest. record { is = first; within = rest })

pub returns-in-Some : goal.returns-in-Some
returns-in-Some c = together (each_part c.args.language.now.table.now c.args.matched.now.bytes.now c.args.matched.now.answer.now (listed_in (language_by c.args.language.now)) c.args.around c.args.v c.args.left c.args.at c.args.out.now c.part_of-part.result.now c.part_of-part.ensures.is c.part_of-part.ensures.short _ _ (c.put_each.ensures.is, c.put_each.ensures.within)) (λ first rest. record { is = first; within = rest })

pub returns-else-not-put_terms : goal.returns-else-not-put_terms
returns-else-not-put_terms c = together (part_fits c.args.language.now.table.now c.args.matched.now.bytes.now c.args.matched.now.answer.now (listed_in (language_by c.args.language.now)) c.args.around c.in-None.is c.args.v c.args.left c.args.at c.args.out.now c.part_of-part.result.now c.part_of-part.ensures.is _ _ _ c.if-not-put_terms.false c.put_terms.ensures c.terms_of.ensures.is c.terms_of.ensures.few c.part_of-part.ensures.short) (λ first rest. record { is = first; within = rest })
