-- The list of the codes: a line for each from 0 up, of two fields, the code and its kind.
use Rattle.std.specs.Prelude.{ℕ, zero, suc, ◌+◌, cond, List, [], ◌∷◌, ◌++◌, eqb}
use Rattle.kinds.specs.Kind.{symbol, name, run, complement, range_kind}
use Rattle.output.specs.Decimal.{decimal}
use Rattle.output.specs.Field.{field, refused_word}

-- `symbol`, `name`, `run`, `complement`
abbrev pub symbol_word : List ℕ
symbol_word = 115 ∷ 121 ∷ 109 ∷ 98 ∷ 111 ∷ 108 ∷ []

abbrev pub name_word : List ℕ
name_word = 110 ∷ 97 ∷ 109 ∷ 101 ∷ []

abbrev pub run_word : List ℕ
run_word = 114 ∷ 117 ∷ 110 ∷ []

abbrev pub complement_word : List ℕ
complement_word = 99 ∷ 111 ∷ 109 ∷ 112 ∷ 108 ∷ 101 ∷ 109 ∷ 101 ∷ 110 ∷ 116 ∷ []

-- the word of a kind; `refused` for the last
unfoldable pub kind_word : ℕ → List ℕ
kind_word k =
    cond (eqb k symbol) symbol_word
    (cond (eqb k name) name_word
    (cond (eqb k run) run_word
    (cond (eqb k complement) complement_word refused_word)))

unfoldable pub code_line : ℕ → List ℕ
code_line code = field (decimal code) 32 ++ field (kind_word (range_kind code)) 10

-- the lines of n codes, the first of which is this
unfoldable pub codes_from : ℕ → ℕ → List ℕ
codes_from code zero = []
codes_from code (suc n) = code_line code ++ codes_from (code + 1) n

unfoldable pub code_list : List ℕ
code_list = codes_from 0 256

-- the bytes of the list
abbrev pub codes_room : ℕ
codes_room = 2605
