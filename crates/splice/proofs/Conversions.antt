-- The whole conversion, from what the pass over one tree says.
use Prim.Native.Nat.{ℕ, ◌+◌, ◌≤◌, ◌<◌}
use native.Mathlib.Omega.{arith}
use mathlib.Core.Path.{◌≡◌, refl, sym, ap, subst, ◌∙◌}
use mathlib.Core.List.{List, [], ◌++◌}
use mathlib.Core.Bool.{Bool, true, false, cond, ◌&&◌}
use lib.ListN.{length, drop}
use lib.Seq.{sets, sets-eq}
use lib.Dec.{leb}
use borrow.Author.Tests.{leb-true, le-leb, lt-leb}
use Rattle.term.specs.Table.{largest_table, table_accepted, entries_accepted}
use Rattle.term.specs.Tree.{Tree, Trees, empty, more, number, encode, encodes}
use Rattle.term.specs.Language.{simple}
use Rattle.term.specs.Limits.{FitAll, longest, longest_record, Octets, Accepted}
use Rattle.reader.specs.Reading.{read, shown, read_whole}
use Rattle.answers.specs.declared.Refusal.{Refusal}
use Rattle.answers.specs.declared.Refusal.TheVariants.{Table, Class, Long, Full}
use Rattle.reader.proofs.Answers.{Got, refused_shown, ends_shown}
use Rattle.reader.proofs.Inverse.{whole_read, ReadWhole}
use Rattle.reader.specs.Brought.{or_empty, list_accepted}
use Rattle.splice.specs.Splicing.{splice, splice_all}
use Rattle.splice.specs.Converting.{narrow, all_narrow, kept, written, splicing, converted, output_after}
use Rattle.splice.proofs.Converting.{placed_none}
use Rattle.splice.specs.Call.{call, shown_of}
use Rattle.splice.specs.Pass.{Standing, Puts, Stores}
use Rattle.splice.specs.declared.Put.{Put}
use Rattle.std.specs.Prelude.{Some, Ok, Err, Option, None}

table_small : (table : List ℕ) → table_accepted table ≡ true → length table ≤ largest_table
unfolding table_accepted
table_small table e = go (leb (length table) largest_table) refl e
  where
    go : (b : Bool) → leb (length table) largest_table ≡ b → cond b (entries_accepted table) false ≡ true → length table ≤ largest_table
    go true i e = leb-true (length table) largest_table i
    go false i e = let z : ◌≡◌ {A = ℕ} 0 1 = ap (λ (x : Bool). cond x 1 0) e in absurd (omega arith)

longest_of_holds : (records : Bool) → longest records ≤ longest_record
longest_of_holds true = omega arith
longest_of_holds false = omega arith

module _ (records : Bool) (table classes s : List ℕ) where
  module _ (ok : table_accepted table ≡ true) where
    pub call_refused : (room : ℕ) (r : Refusal) → shown (read_whole records (simple table) s) ≡ Err r → converted records classes table room s ≡ kept r
    unfolding converted splicing
    call_refused room r e = rw (refused_shown (read_whole records (simple table) s) r e)

    module _ (octets : Octets s) (n : ℕ) (ends : shown (read_whole records (simple table) s) ≡ Ok n) where
      tree : Tree
      tree = (ends_shown (read_whole records (simple table) s) n ends).0

      is_read : read_whole records (simple table) s ≡ read tree n
      unfolding tree
      is_read = (ends_shown (read_whole records (simple table) s) n ends).1

      got : (encode table tree [] ≡ s) × Accepted (simple table) records tree
      unfolding ReadWhole
      got = let h = subst (Got (ReadWhole (simple table) records s)) is_read (whole_read (simple table) records s) in (h.0, h.2 octets)

      pub not_long : length s ≤ longest_record
      not_long = let h : length (encode table tree []) ≤ longest records = got.1.short in omega (arith, ap length got.0, longest_of_holds records)

      stand : Standing table s 1 None (more tree empty)
      unfolding encode number FitAll
      stand = record {
        small = table_small table ok;
        rest = [];
        records = records;
        left = 32;
        bytes = sym got.0;
        many = refl;
        fits = (got.1.fits, tt);
      }

      one : splice_all classes table None (more tree empty) ≡ more (splice classes table tree) empty
      unfolding splice
      one = placed_none classes table (splice classes table tree) empty

      narrow_one : (t : Tree) → all_narrow table (more t empty) ≡ narrow table t
      unfolding narrow
      narrow_one t = go (narrow table t)
        where
          go : (b : Bool) → (b && true) ≡ b
          go true = refl
          go false = refl

      bytes_one : (t : Tree) → encodes table (more t empty) [] ≡ encode table t []
      unfolding encode
      bytes_one t = refl

      pub call_long : (room : ℕ) → Puts table classes s 1 None None → converted records classes table room s ≡ kept Long
      unfolding converted splicing Puts
      call_long room puts =
          rw (is_read, sym (narrow_one (splice classes table tree)) ∙ sym (ap (all_narrow table) one) ∙ puts (more tree empty) stand)

      module _ (plan : Put) (puts : Puts table classes s 1 None (Some plan)) where
        thin : narrow table (splice classes table tree) ≡ true
        unfolding Puts
        thin = sym (narrow_one (splice classes table tree)) ∙ sym (ap (all_narrow table) one) ∙ (puts (more tree empty) stand).narrow

        plan_put : plan.put ≡ length (encode table (splice classes table tree) [])
        unfolding Puts
        plan_put = (puts (more tree empty) stand).put ∙ ap (λ (x : Trees). length (encodes table x [])) one ∙ ap length (bytes_one (splice classes table tree))

        pub call_full : (room : ℕ) → room < plan.put → converted records classes table room s ≡ kept Full
        unfolding converted splicing
        call_full room h = rw (is_read, thin, lt-leb (length (encode table (splice classes table tree) [])) room (omega (arith, plan_put)))

        call_written : (room : ℕ) → plan.put ≤ room → converted records classes table room s ≡ written (encode table (splice classes table tree) [])
        unfolding converted splicing
        call_written room h = rw (is_read, thin, le-leb (length (encode table (splice classes table tree) [])) room (omega (arith, plan_put)))

        -- what is shown, and the output
        pub written_shown : (room : ℕ) → plan.put ≤ room → Ok plan.put ≡ shown_of (converted records classes table room s)
        written_shown room h = rw (call_written room h) (ap Ok plan_put)

        pub written_output : (out after : List ℕ) → plan.put ≤ length out → Stores table classes s 1 None 0 out after
            → after ≡ output_after out (converted records classes table (length out) s)
        unfolding Stores
        written_output out after h w =
            let bs : List ℕ = encode table (splice classes table tree) [] in
            let e : after ≡ sets out 0 bs =
            w (more tree empty) stand (ap (all_narrow table) one ∙ narrow_one (splice classes table tree) ∙ thin)
            ∙ ap (λ (x : Trees). sets out 0 (encodes table x [])) one
            ∙ ap (sets out 0) (bytes_one (splice classes table tree)) in
            let z : 0 + length bs ≡ length bs = omega arith in
            rw (call_written (length out) h) (e ∙ sets-eq bs out 0 (omega (arith, plan_put)) ∙ ap (λ (k : ℕ). bs ++ drop k out) z)

-- The call's own checks, before

module _ (records : Bool) (table : List ℕ) (list : Option (List ℕ)) (s : List ℕ) (room : ℕ) where
  pub call_table : table_accepted table ≡ false → call records table list room s ≡ kept Table
  unfolding call
  call_table e = rw e

  pub call_class : table_accepted table ≡ true → list_accepted table list ≡ false → call records table list room s ≡ kept Class
  unfolding call
  call_class e f = rw (e, f)

  pub call_converted : table_accepted table ≡ true → list_accepted table list ≡ true → call records table list room s ≡ converted records (or_empty list) table room s
  unfolding call
  call_converted e f = rw (e, f)
