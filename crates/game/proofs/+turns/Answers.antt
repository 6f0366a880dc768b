-- The turns of loader and sender, and their moves, meet their contracts.
use native.Mathlib.Omega.{arith}
use mathlib.Core.Path.{refl, sym, ◌∙◌, ap}
use Rattle.std.specs.Prelude.{Ok}
use Rattle.std.proofs.lemmas.Result.{err_from_is_err_and}
use Rattle.term.specs.Lent.{language_by}
use Rattle.sheet.specs.Check.{entry_count}
use Rattle.sheet.specs.Entry.{part_at}
use Rattle.game.specs.Lent.{sheets_by}
use Rattle.game.proofs.Steps.{turn_spent_first, turn_reached, turn_over, turn_stopped, turn_moves, follows_spent, follows_none, follows_refused, follows_on, own_sheet_is, own_templates_is}
use Rattle.game.proofs.Rulings.{moves_start, moves_stopped, moves_settled, moves_on, moves_past, moves_end, pass_stopped, pass_settled, pass_lost}
use Rattle.game.proofs.+turns.Goals as goal

pub turn-returns-in_err-reached : goal.turn-returns-in_err-reached
turn-returns-in_err-reached t c = let g = c.args.game.now in
    let p = err_from_is_err_and c.from_residual.result c.from_residual.ensures.1 in
    rw p.1 (turn_spent_first (language_by g.language) (sheets_by g.sheets) g.allowance c.args.side c.args.left c.args.state.now _ c.in_err-reached.ensures)

pub turn-returns-then-reached : goal.turn-returns-then-reached
turn-returns-then-reached t c = let g = c.args.game.now in
    turn_reached (language_by g.language) (sheets_by g.sheets) g.allowance c.args.side c.args.left c.args.state.now _ c.if-reached.true c.in_ok-reached.ensures

pub turn-returns-then-left-eq0 : goal.turn-returns-then-left-eq0
turn-returns-then-left-eq0 t c = let g = c.args.game.now in
    turn_over (language_by g.language) (sheets_by g.sheets) g.allowance c.args.side c.args.left c.args.state.now _ c.if-reached.false c.in_ok-reached.ensures c.if-left-eq0.true

pub turn-returns-in_err-first : goal.turn-returns-in_err-first
turn-returns-in_err-first t c = let g = c.args.game.now in
    let p = err_from_is_err_and c.from_residual-in_err-first.result c.from_residual-in_err-first.ensures.1 in
    rw p.1 (turn_stopped (language_by g.language) (sheets_by g.sheets) g.allowance c.args.side c.args.left c.args.state.now _ c.if-reached.false c.in_ok-reached.ensures
    _ (omega (arith, c.if-left-eq0.false)) _ c.in_err-first.ensures)

pub turn-returns : goal.turn-returns
turn-returns t c = let g = c.args.game.now in
    turn_moves (language_by g.language) (sheets_by g.sheets) g.allowance c.args.side c.args.left c.args.state.now _ c.if-reached.false c.in_ok-reached.ensures
    _ (omega (arith, c.if-left-eq0.false)) c.in_ok-first.first _ _ c.is_some.ensures c.seen.ensures c.in_ok-first.ensures

pub moves-loop-i-init : goal.moves-loop-i-init
moves-loop-i-init t c = let g = c.args.game.now in
    moves_start (language_by g.language) (sheets_by g.sheets) g.allowance c.args.side c.args.below c.args.state.now _
    (c.from-rules.ensures ∙ c.count.ensures ∙ ap entry_count (own_sheet_is c.args.side g.sheets _ c.own.ensures))

pub moves-returns-in_err-forced : goal.moves-returns-in_err-forced
moves-returns-in_err-forced t c = let g = c.args.game.now in
    let p = err_from_is_err_and c.from_residual.result c.from_residual.ensures.1 in
    rw p.1 (moves_stopped (language_by g.language) (sheets_by g.sheets) g.allowance c.args.side c.args.below c.args.state.now _ _ _ c.loop-i.invariant c.loop-i-test.true _ c.in_err-forced.ensures)

pub moves-loop-i-preserved-in_default : goal.moves-loop-i-preserved-in_default
moves-loop-i-preserved-in_default t c = let g = c.args.game.now in
    moves_past (language_by g.language) (sheets_by g.sheets) g.allowance c.args.side c.args.below c.args.state.now _ _ _ c.loop-i.invariant c.loop-i-test.true _ c.in_ok-forced.ensures c.in_default.is

pub moves-returns-then-seen : goal.moves-returns-then-seen
moves-returns-then-seen t c = let g = c.args.game.now in
    moves_settled (language_by g.language) (sheets_by g.sheets) g.allowance c.args.side c.args.below c.args.state.now _ _ _ c.loop-i.invariant c.loop-i-test.true _ c.in_ok-forced.ensures _ c.in-Some.is (sym c.seen.ensures ∙ c.if-seen.true)

pub moves-loop-i-preserved : goal.moves-loop-i-preserved
moves-loop-i-preserved t c = let g = c.args.game.now in
    moves_on (language_by g.language) (sheets_by g.sheets) g.allowance c.args.side c.args.below c.args.state.now _ _ _ c.loop-i.invariant c.loop-i-test.true _ c.in_ok-forced.ensures _ c.in-Some.is (sym c.seen.ensures ∙ c.if-seen.false)

pub moves-returns-then-moved : goal.moves-returns-then-moved
moves-returns-then-moved t c = let g = c.args.game.now in
    moves_end (language_by g.language) (sheets_by g.sheets) g.allowance c.args.side c.args.below c.args.state.now _ _ _ c.loop-i.invariant c.loop-i-test.false c.if-moved.true

pub moves-returns-in_err-passed : goal.moves-returns-in_err-passed
moves-returns-in_err-passed t c = let g = c.args.game.now in
    let p = err_from_is_err_and c.from_residual-in_err-passed.result c.from_residual-in_err-passed.ensures.1 in
    rw p.1 (pass_stopped (language_by g.language) (sheets_by g.sheets) g.allowance c.args.side c.args.below c.args.state.now _ _ _ c.loop-i.invariant c.loop-i-test.false c.if-moved.false _ c.other.ensures _ c.in_err-passed.ensures)

pub moves-returns-then-seen-2 : goal.moves-returns-then-seen-2
moves-returns-then-seen-2 t c = let g = c.args.game.now in
    pass_settled (language_by g.language) (sheets_by g.sheets) g.allowance c.args.side c.args.below c.args.state.now _ _ _ c.loop-i.invariant c.loop-i-test.false c.if-moved.false _ c.other.ensures _ c.in_ok-passed.ensures (sym c.seen-2.ensures ∙ c.if-seen-2.true)

pub moves-returns : goal.moves-returns
moves-returns t c = let g = c.args.game.now in
    pass_lost (language_by g.language) (sheets_by g.sheets) g.allowance c.args.side c.args.below c.args.state.now _ _ _ c.loop-i.invariant c.loop-i-test.false c.if-moved.false _ c.other.ensures _ c.in_ok-passed.ensures (sym c.seen-2.ensures ∙ c.if-seen-2.false)

pub follow-returns-in-Ok-None : goal.follow-returns-in-Ok-None
follow-returns-in-Ok-None t c = let g = c.args.game.now in
    follows_none (language_by g.language) (sheets_by g.sheets) g.allowance c.args.side c.args.below c.args.i c.args.state.now _ _ _ refl _ _ c.apply_checked.ensures
    (c.part_at-rule.ensures.bytes ∙ ap (λ x. part_at x c.args.i) (own_sheet_is c.args.side g.sheets _ c.own-own.ensures))
    (c.part_at-template.ensures.bytes ∙ ap (λ x. part_at x c.args.i) (own_templates_is c.args.side g.sheets _ c.own-own.ensures))
    c.in-Ok-None.field-0-0 (c.in-Ok-None.is ∙ ap Ok c.in-Ok-None.field-0-is)

pub follow-returns-in-Ok-Spent : goal.follow-returns-in-Ok-Spent
follow-returns-in-Ok-Spent t c = let g = c.args.game.now in
    follows_spent (language_by g.language) (sheets_by g.sheets) g.allowance c.args.side c.args.below c.args.i c.args.state.now _ _ _ refl _ _ c.apply_checked.ensures
    (c.part_at-rule.ensures.bytes ∙ ap (λ x. part_at x c.args.i) (own_sheet_is c.args.side g.sheets _ c.own-own.ensures))
    (c.part_at-template.ensures.bytes ∙ ap (λ x. part_at x c.args.i) (own_templates_is c.args.side g.sheets _ c.own-own.ensures))
    c.in-Ok-Spent.field-0-0 (c.in-Ok-Spent.is ∙ ap Ok c.in-Ok-Spent.field-0-is) _

pub follow-returns-in-Err : goal.follow-returns-in-Err
follow-returns-in-Err t c = let g = c.args.game.now in
    follows_refused (language_by g.language) (sheets_by g.sheets) g.allowance c.args.side c.args.below c.args.i c.args.state.now _ _ _ refl _ _ c.apply_checked.ensures
    (c.part_at-rule.ensures.bytes ∙ ap (λ x. part_at x c.args.i) (own_sheet_is c.args.side g.sheets _ c.own-own.ensures))
    (c.part_at-template.ensures.bytes ∙ ap (λ x. part_at x c.args.i) (own_templates_is c.args.side g.sheets _ c.own-own.ensures)) _ c.in-Err.is

pub follow-returns-in_err-forced-in-Ok-Bound : goal.follow-returns-in_err-forced-in-Ok-Bound
follow-returns-in_err-forced-in-Ok-Bound t c = let g = c.args.game.now in
    let p = err_from_is_err_and c.from_residual.result c.from_residual.ensures.1 in
    rw p.1 (follows_on (language_by g.language) (sheets_by g.sheets) g.allowance c.args.side c.args.below c.args.i c.args.state.now _ _ _ refl _ _ c.apply_checked.ensures
    (c.part_at-rule.ensures.bytes ∙ ap (λ x. part_at x c.args.i) (own_sheet_is c.args.side g.sheets _ c.own-own.ensures))
    (c.part_at-template.ensures.bytes ∙ ap (λ x. part_at x c.args.i) (own_templates_is c.args.side g.sheets _ c.own-own.ensures))
    c.in-Ok-Bound.field-0-0 c.in-Ok-Bound.n (c.in-Ok-Bound.is ∙ ap Ok c.in-Ok-Bound.field-0-is) _ c.front.ensures _ c.other.ensures _ c.in_err-forced-in-Ok-Bound.ensures)

pub follow-returns-in_ok-forced-in-Ok-Bound : goal.follow-returns-in_ok-forced-in-Ok-Bound
follow-returns-in_ok-forced-in-Ok-Bound t c = let g = c.args.game.now in
    follows_on (language_by g.language) (sheets_by g.sheets) g.allowance c.args.side c.args.below c.args.i c.args.state.now _ _ _ refl _ _ c.apply_checked.ensures
    (c.part_at-rule.ensures.bytes ∙ ap (λ x. part_at x c.args.i) (own_sheet_is c.args.side g.sheets _ c.own-own.ensures))
    (c.part_at-template.ensures.bytes ∙ ap (λ x. part_at x c.args.i) (own_templates_is c.args.side g.sheets _ c.own-own.ensures))
    c.in-Ok-Bound.field-0-0 c.in-Ok-Bound.n (c.in-Ok-Bound.is ∙ ap Ok c.in-Ok-Bound.field-0-is) _ c.front.ensures _ c.other.ensures _ c.in_ok-forced-in-Ok-Bound.ensures
