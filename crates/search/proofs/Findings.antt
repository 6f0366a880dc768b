-- How a search ended, and where pairs stop, by what the code asks of it.
-- Assumes nothing.
use mathlib.Core.Path.{◌≡◌, refl, sym, ap, ◌∙◌}
use mathlib.Core.Bool.{Bool, false, not}
use denote.Enum.Bare
use Rattle.std.proofs.Common.{Option, Some, None}
use Rattle.std.specs.Option.{option_eq}
use Rattle.search.specs.contracts.Finding as findings
use Rattle.search.specs.declared.Finding.{Finding}
use Rattle.search.specs.declared.Finding.TheVariants.{Found, Failed, Spent}
use Rattle.search.specs.Level.{failed}
use Rattle.search.specs.Inner.Replies.{failure, found}
use Rattle.steps.specs.declared.Stop.{Stop}
use Rattle.steps.specs.declared.Stop.TheVariants.{Failure, NoAllowance, NoPair, RunName}

pub same_found : (o : Finding) → Bare.sameb findings.the_type o Found ≡ found o
same_found Found = refl
same_found Failed = refl
same_found Spent = refl

pub same_failed : (o : Finding) → Bare.sameb findings.the_type o Failed ≡ failed o
same_failed Found = refl
same_failed Failed = refl
same_failed Spent = refl

-- where the code asks whether it ended otherwise
turned_over : (x : Bool) {b c : Bool} → b ≡ not x → b ≡ c → x ≡ not c
turned_over Bool.true e f = ap not (sym e ∙ f)
turned_over Bool.false e f = ap not (sym e ∙ f)

pub found_by : (o : Finding) {b c : Bool} → b ≡ not (Bare.sameb findings.the_type o Found) → b ≡ c → found o ≡ not c
found_by o e f = sym (same_found o) ∙ turned_over (Bare.sameb findings.the_type o Found) e f

pub failed_by : (o : Finding) {b c : Bool} → b ≡ not (Bare.sameb findings.the_type o Failed) → b ≡ c → failed o ≡ not c
failed_by o e f = sym (same_failed o) ∙ turned_over (Bare.sameb findings.the_type o Failed) e f

-- the search goes on after the given answer
abbrev pub resuming : Option Finding → Bool
resuming (Some outcome) = failed outcome
resuming None = false

pub resumed_by : (x : Option Finding) (same : Finding → Finding → Bool) → ((o : Finding) → same o Failed ≡ failed o)
    → {b c : Bool} → b ≡ not (option_eq same x (Some Failed)) → b ≡ c → resuming x ≡ not c
resumed_by (Some o) same s e f = sym (s o) ∙ turned_over (same o Failed) e f
resumed_by None same s e f = turned_over false e f

pub no_failure : (s : Stop) → (s ≡ Failure → ⊥) → failure s ≡ false
no_failure Failure n = absurd (n refl)
no_failure NoAllowance n = refl
no_failure NoPair n = refl
no_failure (RunName v) n = refl
