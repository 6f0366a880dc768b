-- The lines of the states, put one after the other.
use Prim.Native.Nat.{ℕ, ◌+◌, ◌≤◌, ◌<◌}
use native.Mathlib.Numerals.{add-one}
use native.Mathlib.Omega.{arith}
use mathlib.Core.Path.{◌≡◌, refl, sym, ap, ◌∙◌}
use mathlib.Core.List.{List, [], ◌∷◌, ◌++◌}
use mathlib.Core.Bool.{true}
use lib.ListN.{length, drop, length-append, drop_of_length-le}
use lib.Seq.{sets, length-sets, drop-cons}
use Rattle.answers.specs.declared.RuleAnswer.{RuleAnswer}
use Rattle.sheet.specs.Check.{entry_count}
use Rattle.sheet.specs.Entry.{entries, shown_entry}
use Rattle.sheet.proofs.Checks.{accepted_directed}
use Rattle.sheet.proofs.Entries.{entries_count}
use Rattle.term.proofs.Stores.{sets_append}
use Rattle.output.proofs.Puts.{Put, Stored, put_stored}
use Rattle.call.specs.Call.{answer_width}
use Rattle.rules.specs.Call.{in_sheet, answer_of}
use Rattle.report_lines.specs.Line.{header, answer_line}
use Rattle.report_lines.specs.Verdict.{FilesAccepted}
use Rattle.report_lines.specs.Report.{allowance, state_line, lines_from, lines, report, report_room}
use Rattle.report_lines.proofs.Verdicts.{report_by_holds}
use Rattle.report_lines.proofs.States.{states_sheet, record_entry}
use Rattle.report_lines.proofs.Rooms.{report_room_holds}
use Rattle.std.specs.Prelude.{Result, Ok, None}
use Rattle.answers.specs.declared.Fault.{Fault}

-- the lines of the states from index k on
abbrev pub lines_left : List ℕ → List ℕ → List ℕ → ℕ → List ℕ
lines_left table rules states k = lines_from table rules k (drop k (entries states))

-- of the lines to be stored at `from`, those from `state` on are left
pub record Turn (table rules states first : List ℕ) (from : ℕ) (out : List ℕ) (state at : ℕ) : Type 0 where
  pub same : length out ≡ length first
  pub ends : at + length (lines_left table rules states state) ≡ from + length (lines_left table rules states 0)
  pub left : sets first from (lines_left table rules states 0) ≡ sets out at (lines_left table rules states state)

pub turn_starts : (table rules states first : List ℕ) (from : ℕ) → Turn table rules states first from first 0 from
turn_starts table rules states first from = record { same = refl; ends = refl; left = refl }

module _ (table rules states : List ℕ) (n : ℕ) (v : FilesAccepted table rules states n) where
  states_count : entry_count states ≡ n
  states_count = (accepted_directed states n (states_sheet table rules states n v)).counted

  -- by the count that the sheet tells, each state below n is one of accepted files
  pub state_counted : (k : ℕ) → k < n → FilesAccepted table rules states (entry_count states) × (k < entry_count states)
  state_counted k h = rw states_count (v, h)

  pub accepted_report : report true table true rules true states ≡ lines table rules states
  accepted_report = sym (report_by_holds true table true rules true states (Ok n) v)

  entries_left : (k : ℕ) → k < n → drop k (entries states) ≡ shown_entry states k ∷ drop (k + 1) (entries states)
  entries_left k h =
      let counted = entries_count states n (states_sheet table rules states n v) in
      rw (record_entry table rules states n k v h, add-one) (drop-cons (entries states) k [] (omega arith))

  pub next_line : (k : ℕ) → k < n → lines_left table rules states k ≡ state_line table rules k (shown_entry states k) ++ lines_left table rules states (k + 1)
  unfolding lines_from
  next_line k h = ap (lines_from table rules k) (entries_left k h)

  none_left : (k : ℕ) → n ≤ k → lines_left table rules states k ≡ []
  unfolding lines_from
  none_left k h =
      let counted = entries_count states n (states_sheet table rules states n v) in
      ap (lines_from table rules k) (drop_of_length-le (entries states) {i = k} (omega arith))

  -- the lines follow the header
  module _ (before first : List ℕ) (from : ℕ) (wide : report_room ≤ length before) (headed : Put before 0 header first from)
      {out : List ℕ} {state at : ℕ} (turn : Turn table rules states first from out state at) where
    header_stored : Stored before 0 header first from
    unfolding header
    header_stored = put_stored before 0 header first from (omega arith) headed

    whole_length : length (lines table rules states) ≡ from + length (lines_left table rules states 0)
    unfolding lines
    whole_length = simp length-append (omega (arith, header_stored.1))

    pub turn_same : length out ≡ length before
    turn_same = turn.same ∙ ap length header_stored.0 ∙ length-sets before 0 header

    module _ (a : Result RuleAnswer Fault) (h : state < n) (answers : a ≡ answer_of (in_sheet rules table None) rules (shown_entry states state) allowance answer_width) where
      answer_next : lines_left table rules states state ≡ answer_line state a ++ lines_left table rules states (state + 1)
      unfolding state_line
      answer_next = next_line state h ∙ ap (λ (b : Result RuleAnswer Fault). answer_line state b ++ lines_left table rules states (state + 1)) (sym answers)

      pub turn_room : at + length (answer_line state a) ≤ length out
      turn_room =
          let room : length (lines table rules states) ≤ report_room = rw (← accepted_report) (report_room_holds true table true rules true states) in
          let next = simp length-append at (ap length answer_next) in
          let same = turn_same in
          omega (arith, whole_length, turn.ends)

      pub turn_next : (after : List ℕ) (end : ℕ) → after ≡ sets out at (answer_line state a) → end ≡ at + length (answer_line state a)
          → Turn table rules states first from after (state + 1) end
      turn_next after end stored ends =
          let next = simp length-append at (ap length answer_next) in
          record {
            same = ap length stored ∙ length-sets out at (answer_line state a) ∙ turn.same;
            ends = omega (arith, turn.ends);
            left =
                turn.left ∙ ap (sets out at) answer_next
                ∙ sets_append out at (answer_line state a) (lines_left table rules states (state + 1))
                ∙ rw (← stored, ← ends);
          }

    pub turn_done : n ≤ state → (out ≡ sets before 0 (lines table rules states)) × (at ≡ length (lines table rules states))
    unfolding lines
    turn_done h =
        let rest = ap length (none_left state h) in
        let started = header_stored in (
          sym
              (sets_append before 0 header (lines_left table rules states 0) ∙ rw (← started.0, ← started.1)
              (turn.left ∙ ap (sets out at) (none_left state h))),
          omega (arith, whole_length, turn.ends),
        )
