-- `search::given::past` meets its contract. Assumes nothing.
use mathlib.Core.Path.{refl}
use Rattle.search.proofs.Spreads.{past_list, past_symbol, past_one, past_complement}
use Rattle.search.proofs.given.past.Goals as goal

pub returns-then-entry_of : goal.returns-then-entry_of
returns-then-entry_of c = past_list _ _ _ c.decode-code.ensures _ _ c.in-Symbol.is c.entry_of.ensures c.if-entry_of.true c.requires

pub returns-else-entry_of : goal.returns-else-entry_of
returns-else-entry_of c = past_symbol _ _ _ c.decode-code.ensures _ _ c.in-Symbol.is c.entry_of.ensures c.if-entry_of.false

pub returns-in-Name : goal.returns-in-Name
returns-in-Name c = past_one _ _ _ c.decode-code.ensures _ c.in-Name.is refl

pub returns-in-Run : goal.returns-in-Run
returns-in-Run c = past_one _ _ _ c.decode-code.ensures _ c.in-Run.is refl

pub returns-in-Complement : goal.returns-in-Complement
returns-in-Complement c = past_complement _ _ _ c.decode-code.ensures c.in-Complement.is _ c.extent.ensures.is c.extent.ensures.within

pub returns-in-Refused : goal.returns-in-Refused
returns-in-Refused c = past_one _ _ _ c.decode-code.ensures _ c.in-Refused.is refl
