-- `search::search` meets its contract. Assumes nothing.
use native.Mathlib.Omega.{arith}
use mathlib.Core.Path.{refl, subst}
use lib.ListN.{length, replicate}
use borrow.Author.Tests.{le-leb, lt-leb}
use Rattle.answers.specs.Part.{absent}
use Rattle.term.specs.Limits.{longest_record, longest_pattern}
use Rattle.term.specs.Code.{variables}
use Rattle.search.specs.Level.{start_of}
use Rattle.parts.specs.Packed.{part_places}
use Rattle.search.specs.Inner.Memory.{Sized}
use Rattle.search.specs.Inner.Replies.{Decides}
use Rattle.search.proofs.Kept.{first_holds}
use Rattle.search.proofs.Levels.{search_within}
use Rattle.search.proofs.Shown.{over_shows, within_shows, at_once_shows}
use Rattle.search.proofs.search.Goals as goal

-- the buffers as they are made
sized : Sized (replicate part_places 0) (replicate 256 0)
sized = record { of_parts = refl; of_stack = refl }

pub returns-then-pattern-gt-LONGEST_PATTERN-clause-is : goal.returns-then-pattern-gt-LONGEST_PATTERN-clause-is
returns-then-pattern-gt-LONGEST_PATTERN-clause-is c = let args = c.args in
    (over_shows args.table.now args.classes.now args.pattern.now args.«record».now args.answer.now args.allowance
    (rw (lt-leb (length args.pattern.now) longest_pattern c.if-pattern-gt-LONGEST_PATTERN.true))).0

pub returns-then-pattern-gt-LONGEST_PATTERN-clause-shows : goal.returns-then-pattern-gt-LONGEST_PATTERN-clause-shows
returns-then-pattern-gt-LONGEST_PATTERN-clause-shows c = let args = c.args in
    (over_shows args.table.now args.classes.now args.pattern.now args.«record».now args.answer.now args.allowance
    (rw (lt-leb (length args.pattern.now) longest_pattern c.if-pattern-gt-LONGEST_PATTERN.true))).1

pub returns-then-record-gt-LONGEST_RECORD-clause-is : goal.returns-then-record-gt-LONGEST_RECORD-clause-is
returns-then-record-gt-LONGEST_RECORD-clause-is c = let args = c.args in
    (over_shows args.table.now args.classes.now args.pattern.now args.«record».now args.answer.now args.allowance
    (rw (le-leb (length args.pattern.now) longest_pattern (omega arith), lt-leb (length args.«record».now) longest_record c.if-record-gt-LONGEST_RECORD.true))).0

pub returns-then-record-gt-LONGEST_RECORD-clause-shows : goal.returns-then-record-gt-LONGEST_RECORD-clause-shows
returns-then-record-gt-LONGEST_RECORD-clause-shows c = let args = c.args in
    (over_shows args.table.now args.classes.now args.pattern.now args.«record».now args.answer.now args.allowance
    (rw (le-leb (length args.pattern.now) longest_pattern (omega arith), lt-leb (length args.«record».now) longest_record c.if-record-gt-LONGEST_RECORD.true))).1

pub overflow_sub-result : goal.overflow_sub-result
overflow_sub-result c = (subst (Decides _ _ _ _ _ _) c.in-Some.is
    c.first_pair.ensures).some

pub returns-in-Some-clause-is : goal.returns-in-Some-clause-is
returns-in-Some-clause-is c = (at_once_shows _ _ _ _ _ _ _ _ (omega arith) (omega arith)
    (subst (Decides _ _ _ _ _ _) c.in-Some.is
    c.first_pair.ensures)
    c.show_unassigned.ensures).0

pub returns-in-Some-clause-shows : goal.returns-in-Some-clause-shows
returns-in-Some-clause-shows c = (at_once_shows _ _ _ _ _ _ _ _ (omega arith) (omega arith)
    (subst (Decides _ _ _ _ _ _) c.in-Some.is
    c.first_pair.ensures)
    c.show_unassigned.ensures).1

pub start_level-outcome-requires-clause-holding : goal.start_level-outcome-requires-clause-holding
start_level-outcome-requires-clause-holding c = rw c.start.ensures (record { state = start_of (replicate variables absent) 0; holds = first_holds _ _ _ _ (omega arith) sized })

pub start_level-outcome-requires-clause-short : goal.start_level-outcome-requires-clause-short
start_level-outcome-requires-clause-short c = record { of_pattern = omega arith; of_record = omega arith }

pub returns-clause-is : goal.returns-clause-is
returns-clause-is c = (within_shows _ _ _ _ _ _ _ _ _ _ _ c.show_found.ensures
    (search_within _ _ _ _ _ (omega (arith, c.if-pattern-gt-LONGEST_PATTERN.false)) (omega (arith, c.if-record-gt-LONGEST_RECORD.false)) sized c.start.ensures c.start_level-outcome.ensures)).0

pub returns-clause-shows : goal.returns-clause-shows
returns-clause-shows c = (within_shows _ _ _ _ _ _ _ _ _ _ _ c.show_found.ensures
    (search_within _ _ _ _ _ (omega (arith, c.if-pattern-gt-LONGEST_PATTERN.false)) (omega (arith, c.if-record-gt-LONGEST_RECORD.false)) sized c.start.ensures c.start_level-outcome.ensures)).1
