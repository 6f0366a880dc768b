-- Where a station's records lie: "Records lie 4,096 bytes apart, the current one first, then the kept ones in the order their names came".
use Rattle.std.specs.Prelude.{ℕ, ◌*◌, List, get_or, take, drop}
use Rattle.term.specs.Limits.{longest_record}
use Rattle.station.specs.declared.Station.{Station}

-- "its current record and eight kept ones"
abbrev pub most_kept : ℕ
most_kept = 8

-- the room for one record, and for all nine
abbrev pub apart : ℕ
apart = longest_record

abbrev pub room : ℕ
room = 36864

-- of the bytes lent for records: the i-th record, of which the i-th length tells the bytes; the current one is number 0
unfoldable pub record_at : List ℕ → List ℕ → ℕ → List ℕ
record_at lengths bytes i = take (get_or lengths i 0) (drop (apart * i) bytes)

-- the names that are kept, in the order in which they came
unfoldable pub names_of : Station → List ℕ
names_of s = take s.kept s.names
