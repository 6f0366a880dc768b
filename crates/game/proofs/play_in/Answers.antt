-- `game::play_in` meets its contract.
use native.Mathlib.Omega.{arith}
use mathlib.Core.Path.{ap, ap₂, ◌∙◌}
use Rattle.std.specs.Prelude.{Some}
use Rattle.term.specs.declared.Edition.{Edition}
use Rattle.reader.specs.Lent.{brought_of}
use Rattle.rules.specs.Call.{in_sheet}
use Rattle.game.specs.Handed.{with, sheets_of}
use Rattle.game.specs.Lent.{sheets_by}
use Rattle.game.proofs.Calls.{in_edition, called_as}
use Rattle.game.proofs.play_in.Goals as goal

pub returns-clause-is : goal.returns-clause-is
returns-clause-is c = let a = c.args in (
    called_as (with (brought_of c.bringing-brought.result) (sheets_by c.of-sheets.result))
    (with (in_sheet a.loader.now a.table.now (Some a.classes.now)) (sheets_of a.loader.now a.loader_templates.now a.sender.now a.sender_templates.now a.goal.now))
    (ap₂ with (c.bringing-brought.ensures ∙ ap (λ (e : Edition). in_edition e a.table.now (Some a.classes.now)) c.edition_of.ensures) c.of-sheets.ensures)
    a.turns a.state.now a.allowance _ c.play_brought.ensures (
      λ i. omega (arith, c.type_inv.loader i),
      λ i. omega (arith, c.type_inv.loader_templates i),
      λ i. omega (arith, c.type_inv.sender i),
      λ i. omega (arith, c.type_inv.sender_templates i),
      λ i. omega (arith, c.type_inv.goal i),
    )).0

pub returns-clause-demand : goal.returns-clause-demand
returns-clause-demand c = let a = c.args in (
    called_as (with (brought_of c.bringing-brought.result) (sheets_by c.of-sheets.result))
    (with (in_sheet a.loader.now a.table.now (Some a.classes.now)) (sheets_of a.loader.now a.loader_templates.now a.sender.now a.sender_templates.now a.goal.now))
    (ap₂ with (c.bringing-brought.ensures ∙ ap (λ (e : Edition). in_edition e a.table.now (Some a.classes.now)) c.edition_of.ensures) c.of-sheets.ensures)
    a.turns a.state.now a.allowance _ c.play_brought.ensures (
      λ i. omega (arith, c.type_inv.loader i),
      λ i. omega (arith, c.type_inv.loader_templates i),
      λ i. omega (arith, c.type_inv.sender i),
      λ i. omega (arith, c.type_inv.sender_templates i),
      λ i. omega (arith, c.type_inv.goal i),
    )).1
