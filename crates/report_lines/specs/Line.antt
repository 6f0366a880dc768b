-- A line: four fields one blank apart, ended by byte 10.
use Rattle.std.specs.Prelude.{ℕ, List, [], ◌∷◌, ◌++◌, Result, Ok, Err}
use Rattle.answers.specs.Refusal.{number_of}
use Rattle.answers.specs.declared.Refusal.{Refusal}
use Rattle.answers.specs.declared.RuleAnswer.{RuleAnswer}
use Rattle.answers.specs.declared.RuleAnswer.TheVariants.{Bound, None, Spent}
use Rattle.output.specs.Decimal.{decimal}
use Rattle.output.specs.Field.{field, refused_word}
use Rattle.report_lines.specs.declared.File.{File}
use Rattle.report_lines.specs.declared.File.TheVariants.{Rules, States}
use Rattle.answers.specs.declared.Fault.{Fault}

unfoldable pub line : List ℕ → List ℕ → List ℕ → List ℕ → List ℕ
line a b c d = field a 32 ++ field b 32 ++ field c 32 ++ field d 10

-- `state rule word count`
unfoldable pub header : List ℕ
header =
    field
    (115 ∷ 116 ∷ 97 ∷ 116 ∷ 101 ∷ 32 ∷ 114 ∷ 117 ∷ 108 ∷ 101 ∷ 32 ∷ 119 ∷ 111 ∷ 114 ∷ 100 ∷ 32 ∷ 99 ∷ 111 ∷ 117 ∷ 110 ∷ 116 ∷ [])
    10

-- `bound`, `none`, `spent`
abbrev pub bound_word : List ℕ
bound_word = 98 ∷ 111 ∷ 117 ∷ 110 ∷ 100 ∷ []

abbrev pub none_word : List ℕ
none_word = 110 ∷ 111 ∷ 110 ∷ 101 ∷ []

abbrev pub spent_word : List ℕ
spent_word = 115 ∷ 112 ∷ 101 ∷ 110 ∷ 116 ∷ []

-- `-`
abbrev pub dash : List ℕ
dash = 45 ∷ []

-- the line of the state of an index: state index, rule index (`-` for none), word, sum of counts. A refusal has no line: the states of an
-- accepted sheet are not refused
unfoldable pub answer_line : ℕ → Result RuleAnswer Fault → List ℕ
answer_line k (Ok (Bound i sum)) = line (decimal k) (decimal i) bound_word (decimal sum)
answer_line k (Ok (None sum)) = line (decimal k) dash none_word (decimal sum)
answer_line k (Ok (Spent i sum)) = line (decimal k) (decimal i) spent_word (decimal sum)
answer_line k (Err f) = []

-- `table`, `rules`, `states`
abbrev pub file_word : File → List ℕ
file_word File.Table = 116 ∷ 97 ∷ 98 ∷ 108 ∷ 101 ∷ []
file_word Rules = 114 ∷ 117 ∷ 108 ∷ 101 ∷ 115 ∷ []
file_word States = 115 ∷ 116 ∷ 97 ∷ 116 ∷ 101 ∷ 115 ∷ []

-- `refused`, number, file, entry index
unfoldable pub refusal_line : Refusal → File → ℕ → List ℕ
refusal_line r f i = line refused_word (decimal (number_of r)) (file_word f) (decimal i)
