-- `search::halt::report` meets its contract. Assumes nothing.
use borrow.Author.Rules.{rules}
use Rattle.search.proofs.halt.report.Goals as goal

pub returns : goal.returns
returns c = record {
  children = search rules;
  elements = search rules;
  ended = search rules;
  written = rw (
    c.packed-3.ensures,
    c.bound-3.ensures,
    c.packed-2.ensures,
    c.bound-2.ensures,
    c.packed.ensures,
    c.bound.ensures,
    c.run_of.ensures,
  );
}
