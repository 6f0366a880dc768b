-- `game::play` meets its contract.
use native.Mathlib.Omega.{arith}
use mathlib.Core.Path.{ap, ap₂}
use Rattle.std.specs.Prelude.{None}
use Rattle.term.specs.declared.Edition.{Edition}
use Rattle.rules.specs.Call.{in_sheet}
use Rattle.game.specs.Handed.{with, sheets_of}
use Rattle.game.specs.Lent.{sheets_by}
use Rattle.game.proofs.Calls.{in_edition, called_as}
use Rattle.game.proofs.play.Goals as goal

pub returns-clause-is : goal.returns-clause-is
returns-clause-is c = let a = c.args in (
    called_as (with (in_edition c.edition_of.result a.table.now None) (sheets_by c.of-sheets.result))
    (with (in_sheet a.loader.now a.table.now None) (sheets_of a.loader.now a.loader_templates.now a.sender.now a.sender_templates.now a.goal.now))
    (ap₂ with (ap (λ (e : Edition). in_edition e a.table.now None) c.edition_of.ensures) c.of-sheets.ensures)
    a.turns a.state.now a.allowance _ c.play_brought.ensures (
      λ i. omega (arith, c.type_inv.loader i),
      λ i. omega (arith, c.type_inv.loader_templates i),
      λ i. omega (arith, c.type_inv.sender i),
      λ i. omega (arith, c.type_inv.sender_templates i),
      λ i. omega (arith, c.type_inv.goal i),
    )).0

pub returns-clause-demand : goal.returns-clause-demand
returns-clause-demand c = let a = c.args in (
    called_as (with (in_edition c.edition_of.result a.table.now None) (sheets_by c.of-sheets.result))
    (with (in_sheet a.loader.now a.table.now None) (sheets_of a.loader.now a.loader_templates.now a.sender.now a.sender_templates.now a.goal.now))
    (ap₂ with (ap (λ (e : Edition). in_edition e a.table.now None) c.edition_of.ensures) c.of-sheets.ensures)
    a.turns a.state.now a.allowance _ c.play_brought.ensures (
      λ i. omega (arith, c.type_inv.loader i),
      λ i. omega (arith, c.type_inv.loader_templates i),
      λ i. omega (arith, c.type_inv.sender i),
      λ i. omega (arith, c.type_inv.sender_templates i),
      λ i. omega (arith, c.type_inv.goal i),
    )).1
