-- `search::search_next` meets its contract. Assumes nothing.
use native.Mathlib.Omega.{arith}
use mathlib.Core.Path.{refl}
use lib.ListN.{length, replicate}
use borrow.Author.Tests.{le-leb, lt-leb}
use Rattle.answers.specs.Part.{absent}
use Rattle.term.specs.Limits.{longest_pattern, longest_record}
use Rattle.term.specs.Code.{variables}
use Rattle.search.specs.Level.{start_of}
use Rattle.parts.specs.Packed.{part_places}
use Rattle.search.specs.Inner.Memory.{Sized}
use Rattle.search.proofs.Kept.{first_holds}
use Rattle.search.proofs.Nexts.{next_over, next_uneven, next_known}
use Rattle.search.proofs.search_next.Goals as goal

-- the buffers as they are made
sized : Sized (replicate part_places 0) (replicate 256 0)
sized = record { of_parts = refl; of_stack = refl }

pub returns-then-pattern-gt-LONGEST_PATTERN-clause-is : goal.returns-then-pattern-gt-LONGEST_PATTERN-clause-is
returns-then-pattern-gt-LONGEST_PATTERN-clause-is c = (next_over c.args.table.now c.args.classes.now c.args.pattern.now c.args.«record».now c.args.given.now c.args.answer.now c.args.allowance
    (rw (lt-leb (length c.args.pattern.now) longest_pattern c.if-pattern-gt-LONGEST_PATTERN.true))).0

pub returns-then-pattern-gt-LONGEST_PATTERN-clause-shows : goal.returns-then-pattern-gt-LONGEST_PATTERN-clause-shows
returns-then-pattern-gt-LONGEST_PATTERN-clause-shows c = (next_over c.args.table.now c.args.classes.now c.args.pattern.now c.args.«record».now c.args.given.now c.args.answer.now c.args.allowance
    (rw (lt-leb (length c.args.pattern.now) longest_pattern c.if-pattern-gt-LONGEST_PATTERN.true))).1

pub returns-then-record-gt-LONGEST_RECORD-clause-is : goal.returns-then-record-gt-LONGEST_RECORD-clause-is
returns-then-record-gt-LONGEST_RECORD-clause-is c = (next_over c.args.table.now c.args.classes.now c.args.pattern.now c.args.«record».now c.args.given.now c.args.answer.now c.args.allowance
    (rw (le-leb (length c.args.pattern.now) longest_pattern (omega (arith, c.if-pattern-gt-LONGEST_PATTERN.false)), lt-leb (length c.args.«record».now) longest_record c.if-record-gt-LONGEST_RECORD.true))).0

pub returns-then-record-gt-LONGEST_RECORD-clause-shows : goal.returns-then-record-gt-LONGEST_RECORD-clause-shows
returns-then-record-gt-LONGEST_RECORD-clause-shows c = (next_over c.args.table.now c.args.classes.now c.args.pattern.now c.args.«record».now c.args.given.now c.args.answer.now c.args.allowance
    (rw (le-leb (length c.args.pattern.now) longest_pattern (omega (arith, c.if-pattern-gt-LONGEST_PATTERN.false)), lt-leb (length c.args.«record».now) longest_record c.if-record-gt-LONGEST_RECORD.true))).1

pub returns-then-not-spread-clause-is : goal.returns-then-not-spread-clause-is
returns-then-not-spread-clause-is c = (next_uneven c.args.table.now c.args.classes.now c.args.pattern.now c.args.«record».now c.args.given.now c.args.answer.now c.args.allowance
    (omega (arith, c.if-pattern-gt-LONGEST_PATTERN.false)) (omega (arith, c.if-record-gt-LONGEST_RECORD.false)) c.spread.ensures c.if-not-spread.true).0

pub returns-then-not-spread-clause-shows : goal.returns-then-not-spread-clause-shows
returns-then-not-spread-clause-shows c = (next_uneven c.args.table.now c.args.classes.now c.args.pattern.now c.args.«record».now c.args.given.now c.args.answer.now c.args.allowance
    (omega (arith, c.if-pattern-gt-LONGEST_PATTERN.false)) (omega (arith, c.if-record-gt-LONGEST_RECORD.false)) c.spread.ensures c.if-not-spread.true).1

pub given_rest-known-requires-clause-holding : goal.given_rest-known-requires-clause-holding
given_rest-known-requires-clause-holding c = rw c.start.ensures (record { state = start_of (replicate variables absent) 0; holds = first_holds _ _ _ _ (omega arith) sized })

pub given_rest-known-requires-clause-short : goal.given_rest-known-requires-clause-short
given_rest-known-requires-clause-short c = record { of_pattern = omega arith; of_record = omega arith }

pub returns-clause-is : goal.returns-clause-is
returns-clause-is c = rw c.left_of.ensures ((next_known c.args.table.now c.args.classes.now c.args.pattern.now c.args.«record».now c.args.given.now c.args.answer.now c.args.allowance
    (omega (arith, c.if-pattern-gt-LONGEST_PATTERN.false)) (omega (arith, c.if-record-gt-LONGEST_RECORD.false)) c.spread.ensures c.if-not-spread.false _ _ sized _
    (rw c.start.ensures at c.given_rest-known.ensures) _ c.show_known.ensures)).0

pub returns-clause-shows : goal.returns-clause-shows
returns-clause-shows c = ((next_known c.args.table.now c.args.classes.now c.args.pattern.now c.args.«record».now c.args.given.now c.args.answer.now c.args.allowance
    (omega (arith, c.if-pattern-gt-LONGEST_PATTERN.false)) (omega (arith, c.if-record-gt-LONGEST_RECORD.false)) c.spread.ensures c.if-not-spread.false _ _ sized _
    (rw c.start.ensures at c.given_rest-known.ensures) _ c.show_known.ensures)).1
