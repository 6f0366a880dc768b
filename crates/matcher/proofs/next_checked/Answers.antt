-- `matcher::next_checked` meets its contract.
use Rattle.matcher.proofs.NextDemanded.{next_left_within, next_ended, next_unknown}
use Rattle.matcher.proofs.next_checked.Goals as goal

pub ended-requires : goal.ended-requires
ended-requires c = next_left_within _ _ _ _ _ _ _ c.search_next-end.ensures.is

pub returns-in-Some-clause-is : goal.returns-in-Some-clause-is
returns-in-Some-clause-is c = (next_ended _ _ _ _ _ _ _ _ _ c.in-Some.is c.search_next-end.ensures.is _ c.ended.ensures _ c.search_next-end.ensures.shows).0

pub returns-in-Some-clause-buffer : goal.returns-in-Some-clause-buffer
returns-in-Some-clause-buffer c = (next_ended _ _ _ _ _ _ _ _ _ c.in-Some.is c.search_next-end.ensures.is _ c.ended.ensures _ c.search_next-end.ensures.shows).1

pub returns-in-None-clause-is : goal.returns-in-None-clause-is
returns-in-None-clause-is c = (next_unknown _ _ _ _ _ _ _ _ c.in-None.is c.search_next-end.ensures.is _ c.search_next-end.ensures.shows).0

pub returns-in-None-clause-buffer : goal.returns-in-None-clause-buffer
returns-in-None-clause-buffer c = (next_unknown _ _ _ _ _ _ _ _ c.in-None.is c.search_next-end.ensures.is _ c.search_next-end.ensures.shows).1
