-- The files of a report in one buffer, each with a room of its own: one byte more than it may have, so that a longer file is refused by
-- its own check.
use Rattle.std.specs.Prelude.{ℕ, ◌+◌, List, take, drop, Option, option_map}
use Rattle.term.specs.Table.{largest_table}
use Rattle.sheet.specs.Check.{longest_sheet}
use Rattle.report_lines.specs.declared.File.{File}
use Rattle.report_lines.specs.declared.File.TheVariants.{Table, Rules, States}

-- the bytes that a file may have
abbrev pub longest_of : File → ℕ
longest_of Table = largest_table
longest_of Rules = longest_sheet
longest_of States = longest_sheet

abbrev pub room_of : File → ℕ
room_of f = longest_of f + 1

-- the rooms lie one after the other
abbrev pub room_start : File → ℕ
room_start Table = 0
room_start Rules = room_of Table
room_start States = room_of Table + room_of Rules

abbrev pub files_room : ℕ
files_room = room_of Table + room_of Rules + room_of States

-- the first n bytes in the room of a file
abbrev pub bytes_of : File → ℕ → List ℕ → List ℕ
bytes_of f n files = take n (drop (room_start f) files)

-- the same, if the file could be read
abbrev pub in_room : File → Option ℕ → List ℕ → Option (List ℕ)
in_room f size files = option_map (λ (n : ℕ). bytes_of f n files) size

-- the name of a file, of three
abbrev pub name_of : File → List ℕ → List ℕ → List ℕ → List ℕ
name_of Table table rules states = table
name_of Rules table rules states = rules
name_of States table rules states = states
