-- In accepted files each state is shown as demanded.
use Prim.Native.Nat.{ℕ, zero, suc, ◌+◌, ◌<◌}
use native.Mathlib.Omega.{arith}
use mathlib.Core.Path.{◌≡◌, refl, sym, ap, ◌∙◌}
use mathlib.Core.List.{List, [], ◌∷◌, ◌++◌, append_assoc}
use mathlib.Core.Bool.{true}
use lib.ListN.{take, drop}
use Rattle.term.specs.Limits.{Octets}
use Rattle.sheet.specs.Entry.{entries, shown_entry}
use Rattle.rules.specs.Call.{rules_of}
use Rattle.report_lines.specs.Line.{header, answer_line}
use Rattle.report_lines.specs.Verdict.{FilesAccepted}
use Rattle.report_lines.specs.Report.{state_line, lines_from, lines, report}
use Rattle.report_lines.specs.Demands.{with_line, StateShown}
use Rattle.report_lines.proofs.States.{state_input}
use Rattle.report_lines.proofs.Turns.{accepted_report, next_line}
use Rattle.sheet.specs.Check.{edition_of}
use Rattle.term.specs.Language.{language}

lines_split : (table rules : List ℕ) (k i : ℕ) (es : List (List ℕ))
    → lines_from table rules i es ≡ lines_from table rules i (take k es) ++ lines_from table rules (i + k) (drop k es)
unfolding lines_from
lines_split table rules zero i es = let e : i + zero ≡ i = omega arith in rw e
lines_split table rules (suc k) i [] = refl
lines_split table rules (suc k) i (x ∷ es) =
    let e : i + 1 + k ≡ i + suc k = omega arith in
    ap (λ (l : List ℕ). state_line table rules i x ++ l) (lines_split table rules k (i + 1) es ∙ rw e)
    ∙ sym (append_assoc (state_line table rules i x) (lines_from table rules (i + 1) (take k es)) (lines_from table rules (i + suc k) (drop k es)))

-- the line of a state in its place
placed_line : (table rules states : List ℕ) (n k : ℕ) → FilesAccepted table rules states n → k < n
    → report true table true rules true states ≡ with_line table rules states k (state_line table rules k (shown_entry states k))
unfolding lines
placed_line table rules states n k v h =
    let z : 0 + k ≡ k = omega arith in
    let front = lines_from table rules 0 (take k (entries states)) in
    accepted_report table rules states n v
    ∙ ap (λ (t : List ℕ). header ++ t)
    (lines_split table rules k 0 (entries states) ∙ ap (λ (j : ℕ). front ++ lines_from table rules j (drop k (entries states))) z
    ∙ ap (λ (t : List ℕ). front ++ t) (next_line table rules states n v k h))

pub state_shown : (table rules states : List ℕ) → Octets rules → Octets states → (n k : ℕ) → FilesAccepted table rules states n → k < n
    → StateShown table rules states k
unfolding state_line
state_shown table rules states ro so n k v h =
    let x = state_input table rules states n k v h ro so in
    record {
      placed = placed_line table rules states n k v h;
      shown = (rules_of (language (edition_of rules) table []) (entries rules), x.0, x.1, ap (answer_line k) x.2);
      own = λ others m w l same.
          placed_line table rules others m k w l ∙ ap (λ (r : List ℕ). with_line table rules others k (state_line table rules k r)) same;
    }
