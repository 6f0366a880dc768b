-- What is demanded of applying: of the answer `a`, and of the final output `after` where the output held `before`.
use Rattle.std.specs.Prelude.{ℕ, zero, ◌<◌, ◌≤◌, ◌≡◌, ◌⊎◌, ◌↔◌, List, [], true, length, take, drop, Result, Some, None}
use Rattle.answers.specs.Refusal.{number_of}
use Rattle.answers.specs.Answers.{applied_number, applied_count, applied_length}
use Rattle.answers.specs.declared.Refusal.{Refusal}
use Rattle.answers.specs.declared.Refusal.TheVariants.{Loose, Outgrown, Full}
use Rattle.answers.specs.declared.Applied.{Applied}
use Rattle.term.specs.Limits.{longest_record, TermAccepted, PatternAccepted}
use Rattle.term.specs.Pattern.{Pattern, pattern_bytes}
use Rattle.term.specs.Table.{table_accepted}
use Rattle.term.specs.Term.{Term, Terms, sizes, term_bytes, terms_bytes}
use Rattle.anti_pattern.specs.Answer.{count_of}
use Rattle.anti_pattern.specs.Demands.{First, Unsatisfied}
use Rattle.anti_pattern.specs.Language.{Language, language, Classed, TermsOf, ◌⊢◌≈◌}
use Rattle.anti_pattern.specs.Meaning.{Assignment, Holds}
use Rattle.anti_pattern.specs.Place.{place}
use Rattle.anti_pattern.specs.Variables.{free, among}
use Rattle.reader.specs.Brought.{Brought, language_of, brought_accepted}
use Rattle.replace.specs.Splice.{spliced_in}
use Rattle.replace.specs.Loose.{Template}
use Rattle.replace.specs.Call.{Input, look_of, apply_of, output_of, look_on, apply_on, output_on}

module _ (l : Language) where
  -- a first answer, with the parts that stand in the record: of assignments that count as one "the one shown is that of the first place"
  pub record FirstShown (p : Pattern) (t : Term) (x : Assignment) : Type 0 where
    pub first : First l p t x
    pub first_place : (v at : ℕ) (w : Terms) → among v (free p) ≡ true → place l.table p t zero x v None ≡ Some at → x v ≡ Some w
        → take (sizes l.table w) (drop at (term_bytes l.table t [])) ≡ terms_bytes l.table w []

  -- the language in which only equal terms are the same
  abbrev pub exactly : Language
  exactly = language l.edition l.table []

  -- "Applying it puts the first answer's parts into the template": `filled` is the term of which the template, as it stands, holds under the first
  -- answer; "In edition 2 the result is spliced"
  pub record Replaced (p q : Pattern) (t u : Term) : Type 0 where
    pub answer : Assignment
    pub shown : FirstShown p t answer
    pub filled : Term
    pub holds : Holds exactly (TermsOf l) q answer filled
    pub spliced : u ≡ spliced_in l filled

-- a record that is accepted, for which there is so much room
abbrev pub Fitting : Language → ℕ → Term → Type 0
Fitting l room u = TermAccepted l u × (length (term_bytes l.table u []) ≤ room)

module _ (brought : Brought) where
  abbrev l : Language
  l = language_of brought

  -- For the trees of accepted input
  pub record Answered (rule template bytes before : List ℕ) (allowance : ℕ) (p q : Pattern) (t : Term) (a : Result Applied Refusal) (after : List ℕ) : Type 0 where
    -- spent and none as for the match
    pub spent_exactly : (applied_number a ≡ 11) ↔ (allowance < count_of l p t)
    pub spent_shows : applied_number a ≡ 11 → applied_count a ≡ allowance
    pub none_exactly : (applied_number a ≡ 10) ↔ ((count_of l p t ≤ allowance) × Unsatisfied l p t)
    -- else there is one result: bound exactly when it is an accepted record for which there is room
    pub one_result : (u w : Term) → Replaced l p q t u → Replaced l p q t w → u ≡ w
    pub bound_exactly : (applied_number a ≡ 0) ↔ ((count_of l p t ≤ allowance) × ((u : Term) × Replaced l p q t u × Fitting l (length before) u))
    -- "19 (outgrown)" exactly when it is none, "12 after 19" when there is too little room for it
    pub outgrown_exactly : (applied_number a ≡ number_of Outgrown)
        ↔ ((count_of l p t ≤ allowance) × ((u : Term) × Replaced l p q t u × (TermAccepted l u → ⊥)))
    pub full_exactly : (applied_number a ≡ number_of Full)
        ↔ ((count_of l p t ≤ allowance) × ((u : Term) × Replaced l p q t u × TermAccepted l u × (length before < length (term_bytes l.table u []))))
    -- the count of the match
    pub shows_count : (applied_number a ≡ 10) ⊎ (applied_number a ≡ 0) → applied_count a ≡ count_of l p t
    -- the result's bytes, and "the output past" them as it was
    pub shows_length : (u : Term) → applied_number a ≡ 0 → Replaced l p q t u → applied_length a ≡ length (term_bytes l.table u [])
    pub bound_writes : (u : Term) → applied_number a ≡ 0 → Replaced l p q t u → after ≡ term_bytes l.table u (drop (length (term_bytes l.table u [])) before)
    -- every larger allowance gives the same answer and final output
    pub larger_allowance : (more : ℕ) → count_of l p t ≤ allowance → allowance ≤ more
        → (apply_of brought rule template bytes more (length before) ≡ a) × (output_of brought rule template bytes more before ≡ after)
    -- a rule that is its own template gives the record back
    pub own_template : (u : Term) → q ≡ p → Replaced l p q t u → l ⊢ u ≈ t

-- All that is demanded
pub record Demanded (brought : Brought) (rule template bytes before : List ℕ) (allowance : ℕ) (a : Result Applied Refusal) (after : List ℕ) : Type 0 where
  -- refused exactly when the class list or the input is not accepted, or the result is no accepted record for which there is room; a refusal shows
  -- count 0
  pub refused_exactly : ((r : Refusal) × (applied_number a ≡ number_of r))
      ↔ (brought_accepted brought ≡ true → (p q : Pattern) (t : Term) → Input (language_of brought) rule template bytes p q t
      → (count_of (language_of brought) p t ≤ allowance)
      × ((u : Term) × Replaced (language_of brought) p q t u × (Fitting (language_of brought) (length before) u → ⊥)))
  pub refused_shows : (r : Refusal) → applied_number a ≡ number_of r → applied_count a ≡ 0
  -- 18 for an accepted pattern that is no template of the rule, whatever the record
  pub loose : table_accepted brought.table ≡ true → brought_accepted brought ≡ true → (p q : Pattern) → pattern_bytes brought.table p [] ≡ rule → PatternAccepted (language_of brought) p
      → pattern_bytes brought.table q [] ≡ template → PatternAccepted (language_of brought) q → (Template p q → ⊥) → applied_number a ≡ number_of Loose
  -- "length (0 unless bound)"; "Without a written result the output is untouched", and past the length it stays
  pub unbound_length : (applied_number a ≡ 0 → ⊥) → applied_length a ≡ 0
  pub untouched : (applied_number a ≡ 0 → ⊥) → after ≡ before
  pub past_stays : drop (applied_length a) after ≡ drop (applied_length a) before
  -- what is written is an accepted record of the language, the next state
  pub next_record : applied_number a ≡ 0
      → (u : Term) × TermAccepted (language_of brought) u × (take (applied_length a) after ≡ term_bytes brought.table u [])
  pub answered : brought_accepted brought ≡ true → (p q : Pattern) (t : Term) → Input (language_of brought) rule template bytes p q t
      → Answered brought rule template bytes before allowance p q t a after

-- and of a look
pub record LookDemanded (brought : Brought) (rule template bytes : List ℕ) (allowance : ℕ) (a : Result Applied Refusal) : Type 0 where
  -- "For every input the look's answer equals that of applying with an output of 4,096 bytes."
  pub as_applied : a ≡ apply_of brought rule template bytes allowance longest_record
  pub demanded : (before : List ℕ) → length before ≡ longest_record
      → Demanded brought rule template bytes before allowance a (output_of brought rule template bytes allowance before)

-- the same where only the final output is at hand
abbrev pub DemandedOf : Brought → List ℕ → List ℕ → List ℕ → List ℕ → ℕ → List ℕ → Type 0
DemandedOf brought rule template bytes before allowance after =
    Demanded brought rule template bytes before allowance (apply_of brought rule template bytes allowance (length before)) after

abbrev pub LookDemandedOf : Brought → List ℕ → List ℕ → List ℕ → ℕ → Type 0
LookDemandedOf brought rule template bytes allowance = LookDemanded brought rule template bytes allowance (look_of brought rule template bytes allowance)

-- Without the checks, of a table, a class list or none, a rule, a template and a record that passed them in an edition

abbrev pub Looks : Language → List ℕ → List ℕ → List ℕ → ℕ → Result Applied Refusal → Type 0
Looks l rule template bytes allowance a =
    Classed l → (p q : Pattern) (t : Term) → Input l rule template bytes p q t → a ≡ look_on l p q t allowance

pub record Applies (l : Language) (rule template bytes : List ℕ) (allowance : ℕ) (before : List ℕ) (a : Result Applied Refusal) (after : List ℕ) : Type 0 where
  pub answer : Classed l → (p q : Pattern) (t : Term) → Input l rule template bytes p q t
      → (a ≡ apply_on l p q t allowance (length before)) × (after ≡ output_on l p q t allowance before)
  -- what is written is an accepted record of the language
  pub next_record : Classed l → (p q : Pattern) (t : Term) → Input l rule template bytes p q t → applied_number a ≡ 0
      → (u : Term) × TermAccepted l u × (take (applied_length a) after ≡ term_bytes l.table u [])
  -- on all input, accepted or not
  pub untouched : (applied_number a ≡ 0 → ⊥) → after ≡ before
