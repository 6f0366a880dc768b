-- The link: on accepted input the search on bytes is the search on trees.
use Prim.Native.Nat.{ℕ, zero, suc, ◌+◌, ◌-◌, ◌≤◌}
use native.Mathlib.Omega.{arith}
use mathlib.Core.Path.{◌≡◌, refl, sym, ◌∙◌, ap}
use mathlib.Core.List.{List, []}
use mathlib.Core.Bool.{Bool, true, false, cond, false≢true}
use lib.ListN.{length, replicate}
use lib.Seq.{ext_get_or}
use lib.Dec.{leb}
use borrow.Author.Tests.{leb-true, le-leb}
use Rattle.answers.specs.Part.{part, absent}
use Rattle.answers.specs.declared.Part.{Part}
use Rattle.term.specs.Code.{variables}
use Rattle.term.specs.Class.{Alike}
use Rattle.term.specs.Table.{entries_accepted, table_accepted}
use Rattle.term.specs.Tree.{Tree, empty, more, encode}
use Rattle.term.specs.Term.{Term, single}
use Rattle.term.specs.Pattern.{Pattern, end, plain}
use Rattle.term.specs.Limits.{Fits, Accepted, longest_pattern, longest_record}
use Rattle.anti_pattern.specs.Language.{Language}
use Rattle.anti_pattern.specs.Search.{Env, start, whole, fail, freely}
use Rattle.anti_pattern.specs.Place.{assigned_part}
use Rattle.anti_pattern.specs.Answer.{bound, parts, answer}
use Rattle.anti_pattern.proofs.Meter.{Metered, meter, answered}
use Rattle.anti_pattern.proofs.Machine.{machine}
use Rattle.anti_pattern.proofs.Machinery.{machine_level, machine_run_fresh}
use Rattle.anti_pattern.proofs.Metering.{meter_one, meter_fail, meter_used_up}
use Rattle.anti_pattern.proofs.Allowance.{answer_metered}
use Rattle.anti_pattern.proofs.Each.{each_at}
use Rattle.search.specs.Level.{Reply, start_of, stop_by, after_walk, levels, level_of, search_of}
use Rattle.search.specs.State.{State, turns}
use Rattle.link.specs.Input.{Input}
use Rattle.link.specs.OnBytes.{replied, outcome_on_bytes}
use Rattle.link.proofs.Represents.{Limited, Shown, Represents, Agrees, is_found, is_failed, is_spent}
use Rattle.link.proofs.Parts.{shown_start}
use Rattle.link.proofs.Levels.{carry, start_represents, Searches, lengths_agree, complements_agree}
use Rattle.link.proofs.Walks.{Walking, walk_goes}

-- the walk of the search itself
module _ (table : List ℕ) (small : length table ≤ 200) (classes bytes : List ℕ) (short : length bytes ≤ longest_record) (n : ℕ) (lv : List ℕ → State → ℕ → Reply)
    (searches : Searches table classes bytes n lv) (pattern : List ℕ) (narrow : length pattern ≤ longest_pattern) where
  walking : Walking table classes pattern bytes n
  walking = record {
    Comes = Metered;
    Replies = Reply;
    comes = λ fs e ds left. meter left (machine table classes freely fs e ds);
    ending = λ stop s left. stop_by stop lv table pattern bytes s left;
    Fit = Agrees table bytes;
    Known = λ fs e ds. Unit {0};
    same = λ fs gs e f ds es h left. ap (meter left) (h freely);
    step = λ fs gs e f ds es h left i. ap (meter left) (h freely) ∙ meter_one left (machine table classes freely gs f es) i;
    known_same = λ fs gs e f ds es h l x. tt;
    known_step = λ fs gs e f ds es h l x. tt;
    fail_fits = λ fs e ds h left s. carry (ap (meter left) (h freely) ∙ meter_fail left) refl is_failed;
    fails_fits = λ fs e ds h left i s. carry (ap (meter left) (h freely) ∙ meter_one left fail i ∙ meter_fail (left - 1)) refl is_failed;
    spent_fits = λ fs e ds h left z s.
        carry (ap (λ (k : ℕ). meter k (machine table classes freely fs e ds)) z ∙ ap (meter 0) (h freely).1 ∙ meter_used_up (h freely).0) refl is_spent;
    end_fits = λ s e ds shown waits few x left. complements_agree table classes bytes n lv searches pattern narrow s.parts e s.waiting ds left shown waits few;
    run_fits = λ s v qs ts fs e ds h above low few fresh x left.
        carry (ap (meter left) (machine_run_fresh table classes freely s.place.node fs e ds v qs ts fresh)) refl
        (lengths_agree table classes bytes n lv searches pattern narrow small short s v qs ts fs e ds h above low few left);
    end_anywhere = λ parts waiting p p' left. refl;
    failure_anywhere = λ s s' left. refl;
  }

-- every level, with levels enough
pub level_searches : (table : List ℕ) (small : length table ≤ 200) (classes : List ℕ) (alike : Alike table classes) (bytes : List ℕ) (short : length bytes ≤ longest_record) (n : ℕ)
    → Searches table classes bytes n (level_of n table classes bytes)
unfolding level_of after_walk walking
level_searches table small classes alike bytes short zero pattern narrow s qs ts fs e ds left h few = absurd (omega arith)
level_searches table small classes alike bytes short (suc n) pattern narrow s qs ts fs e ds left h few =
    walk_goes table small classes alike bytes short n pattern narrow
    (walking table small classes bytes short n (level_of n table classes bytes) (level_searches table small classes alike bytes short n) pattern narrow) turns s qs ts fs e ds left
    (record { is = h; few = few; long = omega (arith, h.here.few); known = tt })

-- the parts of a reply are the parts of the answer

pub shown_parts_holds : (table bytes : List ℕ) (ps : List Part) (e : Env) → Shown table bytes ps e → parts table e ≡ ps
shown_parts_holds table bytes ps e h =
    ext_get_or (part 0 0 0) (parts table e) ps (sym h.room)
    (λ i k.
    let z : 0 + i ≡ i = omega arith in
    each_at (λ v. assigned_part table (e.value v) (e.offset v)) 0 variables i k
    ∙ ap (λ (v : ℕ). assigned_part table (e.value v) (e.offset v)) z ∙ sym (h.shown i k))

pub answers : (table bytes : List ℕ) (allowance : ℕ) {m : Metered} {r : Reply} → Agrees table bytes m r → answered table allowance m ≡ replied allowance r
answers table bytes allowance (is_found {e} {left} {parts} h) = ap (λ (ps : List Part). bound ps (allowance - left)) (shown_parts_holds table bytes parts e h)
answers table bytes allowance is_failed = refl
answers table bytes allowance is_spent = refl

pub table_short : (table : List ℕ) → table_accepted table ≡ true → length table ≤ 200
unfolding table_accepted
table_short table h = leb-true (length table) 200 (go (leb (length table) 200) h)
  where
    go : (b : Bool) → cond b (entries_accepted table) false ≡ true → b ≡ true
    go true e = refl
    go false e = absurd (false≢true e)

limited_whole : (l : Language) (records : Bool) (t : Tree) → Accepted l records t → Limited l.table records (more t empty)
unfolding Fits
limited_whole l records t a = record { left = 32; in_list = false; fit = (a.fits, tt) }

module _ (l : Language) (pattern bytes : List ℕ) (alike : Alike l.table l.classes) (q : Pattern) (t : Term) (i : Input l pattern bytes q t) (allowance : ℕ) where
  pub narrow : length pattern ≤ longest_pattern
  narrow = rw i.pattern_bytes_holds at i.pattern_accepted.short

  pub short : length bytes ≤ longest_record
  short = rw i.record_bytes at i.record_accepted.short

  pub start_here : Represents l.table pattern bytes (start_of (replicate variables absent) 0) (plain q end) (single t) [] start []
  unfolding encode
  start_here =
      start_represents l.table pattern bytes (replicate variables absent) start q t 0 (sym i.pattern_bytes_holds) (limited_whole l false _ i.pattern_accepted)
      (record { after = []; stands = sym i.record_bytes; within = omega arith; limited = limited_whole l true _ i.record_accepted })
      (shown_start l.table bytes)

  searched : search_of l.table l.classes pattern bytes allowance ≡ level_of (levels pattern 0) l.table l.classes bytes pattern (start_of (replicate variables absent) 0) allowance
  unfolding search_of
  searched = rw (le-leb (length pattern) longest_pattern narrow, le-leb (length bytes) longest_record short)

  -- the reply under an allowance is what the search on trees under it comes to
  pub whole_agrees : Agrees l.table bytes (meter allowance (whole l q t)) (search_of l.table l.classes pattern bytes allowance)
  whole_agrees =
      carry (ap (meter allowance) (machine_level l.table l.classes freely q t 0 start)) searched
      (level_searches l.table (table_short l.table i.table_accepted_holds) l.classes alike bytes short _ pattern narrow (start_of (replicate variables absent) 0) (plain q end) (single t)
      [] start []
      allowance start_here (omega arith))

  -- word, count and parts
  pub linked : answer l q t allowance ≡ outcome_on_bytes l.table l.classes pattern bytes allowance
  unfolding outcome_on_bytes
  linked = answer_metered l q t allowance ∙ answers l.table bytes allowance whole_agrees
