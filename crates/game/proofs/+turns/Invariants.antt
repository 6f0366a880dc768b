-- The turns of loader and sender, and their moves, meet their contracts. The measure is thrice the turns left and 2; of the moves and a rule, after
-- which a turn less is left, it lies between.
use Prim.Native.Nat.{◌+◌, ◌*◌}
use Rattle.term.specs.Lent.{language_by}
use Rattle.game.specs.Lent.{sheets_by}
use Rattle.game.proofs.Rulings.{At}
use Rattle.game.proofs.+turns.Given as goal

abbrev pub decreases-turn : goal.decreases-turn
decreases-turn l = 3 * l.left + 2

abbrev pub decreases-moves : goal.decreases-moves
decreases-moves l = 3 * l.below + 4

abbrev pub decreases-follow : goal.decreases-follow
decreases-follow l = 3 * l.below + 3

abbrev pub invariant-moves-loop-i : goal.invariant-moves-loop-i
invariant-moves-loop-i l = At (language_by l.game.language) (sheets_by l.game.sheets) l.game.allowance l.side l.below l.state l.rules l.moved l.i
