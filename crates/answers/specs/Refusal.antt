-- Document 01's number for each refusal, and document 02's from 14 on (10 and 11, none and spent, are answers).
use Rattle.std.specs.Prelude.{ℕ}
use Rattle.answers.specs.declared.Refusal.{Refusal}
use Rattle.answers.specs.declared.Refusal.TheVariants.{Table, Short, Spare, BadCode, Deep, Long, Stray, Narrow, Directory, Full, Unread, Class, Unknown, Unspliced, Length, Loose, Outgrown, NoName, Shelf, NoExample, NotPlain, Turns}

abbrev pub number_of : Refusal → ℕ
number_of Table = 1
number_of Short = 2
number_of Spare = 3
number_of BadCode = 4
number_of Deep = 5
number_of Long = 6
number_of Stray = 7
number_of Narrow = 8
number_of Directory = 9
number_of Full = 12
number_of Unread = 13
number_of Class = 14
number_of Unknown = 15
number_of Unspliced = 16
number_of Length = 17
number_of Loose = 18
number_of Outgrown = 19
number_of NoName = 20
number_of Shelf = 21
number_of NoExample = 22
number_of NotPlain = 23
number_of Turns = 24
