-- `search::given::resumed` meets its contract. Assumes nothing.
use mathlib.Core.Path.{sym, ap}
use Rattle.search.specs.Inner.GivenReplies.{resumed_as}
use Rattle.search.proofs.given.resumed.Goals as goal

pub returns-in-Found : goal.returns-in-Found
returns-in-Found c = sym (ap resumed_as c.in-Found.is)

pub returns-in-Spent : goal.returns-in-Spent
returns-in-Spent c = sym (ap resumed_as c.in-Spent.is)
