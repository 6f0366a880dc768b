-- The lines that the fields of an answer and of a refusal make.
use Prim.Native.Nat.{ℕ}
use mathlib.Core.Path.{◌≡◌}
use mathlib.Core.List.{List}
use Rattle.answers.specs.Refusal.{number_of}
use Rattle.answers.specs.declared.Refusal.{Refusal}
use Rattle.answers.specs.declared.RuleAnswer.{RuleAnswer}
use Rattle.answers.specs.declared.RuleAnswer.TheVariants.{Bound, None, Spent}
use Rattle.output.specs.Decimal.{decimal}
use Rattle.output.specs.Field.{refused_word}
use Rattle.report_lines.specs.Line.{line, bound_word, none_word, spent_word, dash, answer_line, file_word, refusal_line}
use Rattle.report_lines.specs.declared.File.{File}
use Rattle.std.specs.Prelude.{Result, Ok}
use Rattle.answers.specs.declared.Fault.{Fault}

module _ (k : ℕ) (a : Result RuleAnswer Fault) where
  pub bound_line : (j m : ℕ) → a ≡ Ok (Bound j m) → line (decimal k) (decimal j) bound_word (decimal m) ≡ answer_line k a
  unfolding answer_line
  bound_line j m e = rw e

  pub none_line : (m : ℕ) → a ≡ Ok (None m) → line (decimal k) dash none_word (decimal m) ≡ answer_line k a
  unfolding answer_line
  none_line m e = rw e

  pub spent_line : (j m : ℕ) → a ≡ Ok (Spent j m) → line (decimal k) (decimal j) spent_word (decimal m) ≡ answer_line k a
  unfolding answer_line
  spent_line j m e = rw e

pub file_line : (r : Refusal) (f : File) (i number : ℕ) (word : List ℕ) → number ≡ number_of r → word ≡ file_word f
    → line refused_word (decimal number) word (decimal i) ≡ refusal_line r f i
unfolding refusal_line
file_line r f i number word numbered named = rw (numbered, named)
