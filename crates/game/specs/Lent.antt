-- The sheets of a game, read off what is lent of them.
use Rattle.game.specs.Handed.{Sheets, sheets_of}
use Rattle.game.specs.declared.Own.{Own}
use Rattle.game.specs.declared.Sheets.{Sheets as LentSheets}
use Rattle.game.specs.declared.Side.{Side}
use Rattle.game.specs.declared.Side.TheVariants.{Loader, Sender}

abbrev pub sheets_by : LentSheets → Sheets
sheets_by s = sheets_of s.loader.rules.now s.loader.templates.now s.sender.rules.now s.sender.templates.now s.goal.now

-- a side's sheets
abbrev pub own : Side → LentSheets → Own
own Loader s = s.loader
own Sender s = s.sender
