-- What is known of loading: which file, how many bytes at most, and what stays. What the bytes are no contract can say.
use Rattle.std.specs.Prelude.{ℕ, ◌+◌, ◌≤◌, ◌≡◌, List, Bool, length, take, drop, IfSome}
use Rattle.report_lines.specs.Report.{report, report_on, front}
use Rattle.report_lines.specs.declared.File.{File}
use Rattle.report_lines.specs.declared.File.TheVariants.{Table, Rules, States}
use Rattle.report_files.specs.Files.{room_of, room_start, in_room}
use Rattle.report_files.specs.declared.Loaded.{Loaded}

-- it is this file, and at most so many bytes of it, if it could be read
pub record LoadOf (l : Loaded) (f : File) (room : ℕ) : Type 0 where
  pub named : l.file ≡ f
  pub within : IfSome l.size (λ n. n ≤ room)

-- it is loaded into its own room, and the other rooms stay
pub record Loads (l : Loaded) (f : File) (before after : List ℕ) : Type 0 where
  pub held : LoadOf l f (room_of f)
  pub before_stays : take (room_start f) after ≡ take (room_start f) before
  pub past_stays : drop (room_start f + room_of f) after ≡ drop (room_start f + room_of f) before

-- the report on three files that were loaded
abbrev pub loaded_report : Loaded → Loaded → Loaded → List ℕ → List ℕ
loaded_report t r s files =
    report_on (in_room Table t.size files) (in_room Rules r.size files) (in_room States s.size files)

-- a report on some files, of which at most as many bytes are read as there is room for
pub record Reported (size : ℕ) (before after : List ℕ) : Type 0 where
  pub table_read : Bool
  pub table : List ℕ
  pub rules_read : Bool
  pub rules : List ℕ
  pub states_read : Bool
  pub states : List ℕ
  pub table_within : length table ≤ room_of Table
  pub rules_within : length rules ≤ room_of Rules
  pub states_within : length states ≤ room_of States
  pub sized : size ≡ length (report table_read table rules_read rules states_read states)
  pub contents : after ≡ front (report table_read table rules_read rules states_read states) before
