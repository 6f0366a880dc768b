-- The rooms of the files, and the report on what lies in them.
use Rattle.std.specs.Prelude.{Result, Ok, Err, Option, None, Some, IfOk, IfSome, is_some}
use Rattle.std.specs.Option.{unwrap_or}
use Rattle.std.specs.Result.{result_ok}
use Rattle.std.proofs.lemmas.Option.{IfSome_then}
use Prim.Native.Nat.{ℕ, ◌+◌, ◌-◌, ◌≤◌}
use native.Mathlib.Nat.{add-sub_cancel_left}
use native.Mathlib.Omega.{arith}
use mathlib.Core.Path.{◌≡◌, sym, ap, ◌∙◌}
use mathlib.Core.List.{List, []}
use mathlib.Core.Bool.{Bool}
use lib.ListN.{length, take, drop, length-append, length-take, length-drop}
use borrow.Rule.Slice.PartMut.{mid_of, put_mid, mid_len, take_put, drop_put}
use Rattle.report_lines.specs.Report.{report, report_on, report_room, front}
use Rattle.report_lines.specs.declared.File.{File}
use Rattle.report_lines.specs.declared.File.TheVariants.{Table, Rules, States}
use Rattle.report_lines.proofs.Rooms.{report_room_holds}
use Rattle.report_lines.proofs.Cuts.{cut_report}
use Rattle.report_files.specs.Files.{room_of, room_start, files_room, bytes_of, in_room}
use Rattle.report_files.specs.Loading.{LoadOf, Loads, Reported}
use Rattle.report_files.specs.declared.Loaded.{Loaded}

pub room_within : (f : File) → room_start f + room_of f ≤ files_room
room_within Table = omega arith
room_within Rules = omega arith
room_within States = omega arith

pub part_bytes_holds : (f : File) (start n : ℕ) (files : List ℕ) → start ≡ room_start f → take (start + n - start) (drop start files) ≡ bytes_of f n files
part_bytes_holds f start n files e = rw (add-sub_cancel_left, e)

-- a part of the buffer that is lent and back: the room of a file
pub room_loaded : (l : Loaded) (f : File) (before part : List ℕ) (start room : ℕ) → start ≡ room_start f → room ≡ room_of f → length before ≡ files_room
    → LoadOf l f (length (mid_of start (start + room - start) before)) → length part ≡ length (mid_of start (start + room - start) before)
    → Loads l f before (put_mid start (start + room - start) before part)
room_loaded l f before part start room e r wide held same =
    let within = room_within f in
    let end : start + room ≤ length before = omega arith in
    let size = mid_len start (start + room) before end in
    let past : room_start f + room_of f ≡ start + room = omega arith in
    let after = put_mid start (start + room - start) before part in
    record {
      held = record { named = held.named; within = IfSome_then l.size held.within (λ n p. omega arith) };
      before_stays =
          ap (λ (k : ℕ). take k after) (sym e) ∙ take_put start (start + room - start) before part (omega arith)
          ∙ ap (λ (k : ℕ). take k before) e;
      past_stays =
          ap (λ (k : ℕ). drop k after) past ∙ drop_put start (start + room) before part (omega arith) end (same ∙ size)
          ∙ ap (λ (k : ℕ). drop k before) (sym past);
    }

-- what is read is within the buffer, if it could be read
pub ok_within : {E : Type 0} (r : Result ℕ E) (room : ℕ) → IfOk r (λ n. n ≤ room) → IfSome (result_ok r) (λ n. n ≤ room)
ok_within (Ok n) room h = h
ok_within (Err e) room h = tt

-- equal bytes have the same report
pub on_bytes : (a b c x y z : Option (List ℕ)) (before after : List ℕ) (size : ℕ) → a ≡ x → b ≡ y → c ≡ z
    → (size ≡ length (report_on a b c)) × (after ≡ front (report_on a b c) before)
    → (size ≡ length (report_on x y z)) × (after ≡ front (report_on x y z) before)
on_bytes a b c x y z before after size e f g p = rw (← e, ← f, ← g) p

take_short : (n : ℕ) (l : List ℕ) → length (take n l) ≤ n
take_short n l = simp length-take (omega arith)

-- to read no more of each file than its room makes no difference
pub room_enough : (table_read : Bool) (table : List ℕ) (rules_read : Bool) (rules : List ℕ) (states_read : Bool) (states : List ℕ)
    → report table_read (take (room_of Table) table) rules_read (take (room_of Rules) rules) states_read (take (room_of States) states)
    ≡ report table_read table rules_read rules states_read states
room_enough table_read table rules_read rules states_read states =
    cut_report table_read table rules_read rules states_read states (room_of Table) (room_of Rules) (room_of States) (omega arith) (omega arith) (omega arith)

in_room_short : (f : File) (size : Option ℕ) (files : List ℕ) → IfSome size (λ n. n ≤ room_of f) → length (unwrap_or (in_room f size files) []) ≤ room_of f
in_room_short f None files h = omega arith
in_room_short f (Some n) files h = omega (arith, h, take_short n (drop (room_start f) files))

-- the report on bytes in the rooms
pub rooms_reported : (t r s : Option ℕ) (files before after : List ℕ) (size : ℕ)
    → IfSome t (λ n. n ≤ room_of Table) → IfSome r (λ n. n ≤ room_of Rules) → IfSome s (λ n. n ≤ room_of States)
    → (size ≡ length (report_on (in_room Table t files) (in_room Rules r files) (in_room States s files)))
    × (after ≡ front (report_on (in_room Table t files) (in_room Rules r files) (in_room States s files)) before)
    → Reported size before after
rooms_reported t r s files before after size a b c put = record {
  table_read = is_some (in_room Table t files);
  table = unwrap_or (in_room Table t files) [];
  rules_read = is_some (in_room Rules r files);
  rules = unwrap_or (in_room Rules r files) [];
  states_read = is_some (in_room States s files);
  states = unwrap_or (in_room States s files) [];
  table_within = in_room_short Table t files a;
  rules_within = in_room_short Rules r files b;
  states_within = in_room_short States s files c;
  sized = put.0;
  contents = put.1;
}

-- a report keeps the length of the output that it is put to
pub reported_length : (size : ℕ) (before after : List ℕ) → Reported size before after → report_room ≤ length before → length after ≡ length before
unfolding front
reported_length size before after r wide =
    let text = report r.table_read r.table r.rules_read r.rules r.states_read r.states in
    let room = report_room_holds r.table_read r.table r.rules_read r.rules r.states_read r.states in
    ap length r.contents ∙ simp (length-append, length-drop) (omega arith)

pub reported_size : (size : ℕ) (before after : List ℕ) → Reported size before after → size ≤ report_room
reported_size size before after r =
    let room = report_room_holds r.table_read r.table r.rules_read r.rules r.states_read r.states in
    omega (arith, r.sized)
