-- `search::show::show_known` meets its contract. Assumes nothing.
use Rattle.parts.specs.Packed.{parts_in}
use Rattle.search.proofs.Nexts.{shown_ended}
use Rattle.term.specs.Code.{variables}
use Rattle.search.proofs.show.show_known.Goals as goal

pub returns-in-Some : goal.returns-in-Some
returns-in-Some c = let args = c.args in
    shown_ended (parts_in args.assigned args.parts.now 0 variables) args.answer.now c.show_found.ensures c.in-Some.is
