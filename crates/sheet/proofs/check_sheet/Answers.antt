-- `sheet::check_sheet` meets its contract.
use native.Mathlib.Omega.{arith}
use mathlib.Core.Bool.{true, false}
use mathlib.Core.Path.{sym, ◌∙◌}
use Rattle.std.specs.Prelude.{Ok, Err}
use Rattle.sheet.proofs.Checks.{sheet_long, sheet_outside, sheet_followed}
use Rattle.sheet.proofs.Demands.{sheet_checked}
use Rattle.sheet.proofs.check_sheet.Goals as goal

pub returns-then-sheet-gt-LONGEST_SHEET : goal.returns-then-sheet-gt-LONGEST_SHEET
returns-then-sheet-gt-LONGEST_SHEET c = let s = c.args.sheet.now in
    let p = sheet_checked s (λ i. omega (arith, c.type_inv.sheet i)) (Err c.at.result) (rw c.at.ensures (sym (sheet_long s (omega arith)))) in
    record { is = p.0; demand = p.1 }

pub returns-then-sheet-lt-WORD : goal.returns-then-sheet-lt-WORD
returns-then-sheet-lt-WORD c = let s = c.args.sheet.now in
    let e = c.at-then-sheet-lt-WORD in
    let p = sheet_checked s (λ i. omega (arith, c.type_inv.sheet i)) (Err e.result) (rw e.ensures (sym (sheet_outside s (omega arith) (omega arith)))) in
    record { is = p.0; demand = p.1 }

pub returns-then-sheet-n : goal.returns-then-sheet-n
returns-then-sheet-n c = let s = c.args.sheet.now in
    let e = c.at-then-sheet-n in
    let p = sheet_checked s (λ i. omega (arith, c.type_inv.sheet i)) (Err e.result) (rw e.ensures (sym (sheet_outside s (omega arith) (omega arith)))) in
    record { is = p.0; demand = p.1 }

pub returns-then-entries_follow : goal.returns-then-entries_follow
returns-then-entries_follow c = let s = c.args.sheet.now in
    let followed = sheet_followed s c.from-n.result true (omega arith) (omega arith) (omega arith) (sym c.entries_follow.ensures ∙ c.if-entries_follow.true) in
    let p = sheet_checked s (λ i. omega (arith, c.type_inv.sheet i)) (Ok c.from-n.result) (sym followed) in
    record { is = p.0; demand = p.1 }

pub returns : goal.returns
returns c = let s = c.args.sheet.now in
    let followed = sheet_followed s c.from-n.result false (omega arith) (omega arith) (omega arith) (sym c.entries_follow.ensures ∙ c.if-entries_follow.false) in
    let p = sheet_checked s (λ i. omega (arith, c.type_inv.sheet i)) (Err c.at-2.result) (rw c.at-2.ensures (sym followed)) in
    record { is = p.0; demand = p.1 }
