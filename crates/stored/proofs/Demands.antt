-- What is demanded of the move, whichever way, and what each of its checks comes to.
use Prim.Native.Nat.{ℕ, ◌+◌, ◌≤◌, ◌<◌}
use native.Mathlib.Omega.{arith}
use mathlib.Core.Path.{◌≡◌, refl, sym, ap, ◌∙◌}
use mathlib.Core.List.{List, [], ◌++◌}
use mathlib.Core.Bool.{Bool, true, false, cond}
use lib.ListN.{length, drop}
use lib.Seq.{sets}
use lib.Dec.{leb}
use borrow.Author.Tests.{le-leb, lt-leb, leb-true, leb-false, eq-eqb}
use Rattle.answers.specs.Refusal.{number_of}
use Rattle.answers.specs.declared.Refusal.{Refusal}
use Rattle.answers.specs.declared.Refusal.TheVariants.{Table, Class, Long, Spare, Full}
use Rattle.answers.specs.Shown.{refusal_number, size_told}
use Rattle.term.specs.Language.{Language, simple}
use Rattle.term.specs.Limits.{nesting, longest_record, Octets, TermAccepted}
use Rattle.term.specs.Table.{table_accepted}
use Rattle.term.specs.Term.{Term, term_tree, term_of, term_bytes}
use Rattle.term.specs.Tree.{Tree, empty, more, encode}
use Rattle.answers.proofs.Numbers.{numbered}
use Rattle.term.proofs.Splicing.{one_spliced}
use Rattle.term.proofs.Trees.{term_back, term_tree_holds}
use Rattle.reader.specs.Brought.{Brought, language_of, brought_accepted}
use Rattle.reader.specs.Reading.{Parsed, refused, read, shown, join, chain, read_all, read_tree, unless_spare, read_whole, map_parsed, read_record}
use Rattle.reader.proofs.Answers.{refused_shown, ends_shown}
use Rattle.reader.proofs.Inverse.{complete}
use Rattle.reader.proofs.Steps.{whole_refused, whole_spare, whole_all}
use Rattle.reader.proofs.Typed.{record_read}
use Rattle.term.proofs.Stores.{sets_front}
use Rattle.stored.specs.Form.{store, stores, stored_bytes, longest_stored}
use Rattle.stored.specs.Reading.{read_stored_tree, unless_long, read_form, read_stored}
use Rattle.stored.specs.Move.{bytes_by, unless_brought, storing, restoring, moved, output_after}
use Rattle.stored.specs.Passes.{stretched, stripped, record_trees, stored_trees, Putting}
use Rattle.stored.specs.Demands.{RecordOf, StoredOf, Demanded}
use Rattle.stored.proofs.Forms.{stretched_term, stripped_term}
use Rattle.stored.proofs.Inverse.{stored_short, stored_complete, read_sound, Sound, form_sound}
use Rattle.std.specs.Prelude.{Result, Ok, Err, None}

-- Either way

-- what ties the two forms: accepted input is that of one term, and its other form moves back
pub record Ties (Of To : Term → List ℕ → Type 0) (back : List ℕ → Parsed (List ℕ)) (s : List ℕ) (a : Parsed (List ℕ)) : Type 0 where
  pub is_of : (bs : List ℕ) (n : ℕ) → a ≡ read bs n → (t : Term) × (Of t s × To t bs)
  pub of_is : (t : Term) → Of t s → (bs : List ℕ) × ((a ≡ read bs (length s)) × (To t bs × (back bs ≡ read s (length bs))))
  pub same_term_holds : (t u : Term) → Of t s → Of u s → t ≡ u
  pub same_bytes : (t : Term) (bs cs : List ℕ) → To t bs → To t cs → bs ≡ cs

module _ {Of To : Term → List ℕ → Type 0} {back : List ℕ → Parsed (List ℕ)} {s : List ℕ} where
  its_bytes : (cs : List ℕ) (n : ℕ) → Ties Of To back s (read cs n) → (t : Term) → Of t s → To t cs × (back cs ≡ read s (length cs))
  its_bytes cs n g t h =
      let f = g.of_is t h in
      let e : f.0 ≡ cs = cc f.1.0 in
      rw (e) at f.1.1

module _ {Of To : Term → List ℕ → Type 0} {back : List ℕ → Parsed (List ℕ)} {s : List ℕ} (before : List ℕ) where
  -- of a move that is refused, and of one that has bytes to write
  refused_demanded : (r : Refusal) → Ties Of To back s (refused r) → Demanded Of To back s before (number_of r) 0 before
  refused_demanded r g = record {
    one_term = g.same_term_holds;
    there_and_back = λ t h. let z : ◌≡◌ {A = ℕ} 0 1 = cc (g.of_is t h).1.0 in absurd (omega arith);
    refused_exactly = (λ h t bs o k. let z : ◌≡◌ {A = ℕ} 0 1 = cc (g.of_is t o).1.0 in absurd (omega arith), λ h. numbered r);
    untouched = λ h. (refl, refl);
  }

  written_demanded : (cs : List ℕ) (n : ℕ) → Ties Of To back s (read cs n) → length cs ≤ length before
      → Demanded Of To back s before 0 (length cs) (cs ++ drop (length cs) before)
  written_demanded cs n g l = record {
    one_term = g.same_term_holds;
    there_and_back = λ t h. let f = its_bytes cs n g t h in (cs, f.0, f.1, λ r. record { written = refl; whole = refl; output = refl });
    refused_exactly = (λ h. absurd (omega arith), λ h. let f = g.is_of cs n refl in absurd (omega (arith, h f.0 cs f.1.0 f.1.1)));
    untouched = λ h. absurd (omega arith);
  }

  full_demanded : (cs : List ℕ) (n : ℕ) → Ties Of To back s (read cs n) → length before < length cs → Demanded Of To back s before (number_of Full) 0 before
  full_demanded cs n g l = record {
    one_term = g.same_term_holds;
    there_and_back = λ t h. let f = its_bytes cs n g t h in (cs, f.0, f.1, λ r. absurd (omega arith));
    refused_exactly = (λ h t bs o k. let e = g.same_bytes t bs cs k (its_bytes cs n g t o).0 in rw (e) l, λ h. omega arith);
    untouched = λ h. (refl, refl);
  }

module _ {Of To : Term → List ℕ → Type 0} {back : List ℕ → Parsed (List ℕ)} {s : List ℕ} (before : List ℕ) {a : Parsed (List ℕ)} (ties : Ties Of To back s a) where
  -- what a move shows and leaves, and what is demanded of it
  abbrev Done : Result ℕ Refusal → List ℕ → Type 0
  Done r after = (r ≡ moved a (length before)) × ((after ≡ output_after a before) × Demanded Of To back s before (refusal_number r) (size_told r) after)

  pub is_refused : (r : Refusal) → a ≡ refused r → Done (Err r) before
  unfolding moved output_after
  is_refused r e = (rw e, (rw e, refused_demanded before r (rw (e) at ties)))

  module _ (cs : List ℕ) (n : ℕ) (e : a ≡ read cs n) where
    pub is_full : length before < length cs → Done (Err Full) before
    unfolding moved output_after
    is_full l = let f = lt-leb (length cs) (length before) l in (rw (e, f), (rw (e, f), full_demanded before cs n (rw (e) at ties) l))

    pub is_written : (size : ℕ) (after : List ℕ) → size ≡ length cs → size ≤ length before → after ≡ sets before 0 cs → Done (Ok size) after
    unfolding moved output_after
    is_written size after z l h =
        let f = le-leb (length cs) (length before) (omega arith) in
        let o : after ≡ cs ++ drop (length cs) before = h ∙ sets_front before cs (length cs) refl (omega arith) in
        rw (z, o) (rw (e, f), (rw (e, f), written_demanded before cs n (rw (e) at ties) (omega arith)))

-- Both readers read the bytes of a term within the limits

old_complete : (lang : Language) (t : Term) (s : List ℕ) → term_bytes lang.table t [] ≡ s → TermAccepted lang t
    → (read_tree lang true nesting None s ≡ read (term_tree t) (length s)) × (read_record lang s ≡ read t (length s))
unfolding read_record read_whole unless_spare map_parsed
old_complete lang t s b a =
    let n : length (term_bytes lang.table t []) ≡ length s = ap length b in
    let d : read_tree lang true nesting None s ≡ read (term_tree t) (length s) =
    ap (read_tree lang true nesting None) (sym b) ∙ complete lang true (term_tree t) nesting None [] a.fits a.spliced ∙ ap (read (term_tree t)) n in
    (d, rw (le-leb (length s) longest_record (omega (arith, a.short)), d, eq-eqb (length s) (length s) refl, term_back t))

module _ (brought : Brought) (s : List ℕ) where
  pub storing_table : table_accepted brought.table ≡ false → storing brought s ≡ refused Table
  unfolding storing unless_brought
  storing_table a = rw a

  pub restoring_table : table_accepted brought.table ≡ false → restoring brought s ≡ refused Table
  unfolding restoring unless_brought
  restoring_table a = rw a

  module _ (a : table_accepted brought.table ≡ true) where
    pub storing_class : brought_accepted brought ≡ false → storing brought s ≡ refused Class
    unfolding storing unless_brought
    storing_class l = rw (a, l)

    pub restoring_class : brought_accepted brought ≡ false → restoring brought s ≡ refused Class
    unfolding restoring unless_brought
    restoring_class l = rw (a, l)

    module _ (l : brought_accepted brought ≡ true) where
      storing_read : (t : Term) (n : ℕ) → read_record (language_of brought) s ≡ read t n → storing brought s ≡ read (stored_bytes brought.table t []) n
      unfolding storing unless_brought bytes_by
      storing_read t n e = rw (a, l, e)

      restoring_read : (t : Term) (n : ℕ) → read_stored (language_of brought) s ≡ read t n → restoring brought s ≡ read (term_bytes brought.table t []) n
      unfolding restoring unless_brought bytes_by
      restoring_read t n e = rw (a, l, e)

      pub storing_refused : (r : Refusal) → shown (read_record (language_of brought) s) ≡ Err r → storing brought s ≡ refused r
      unfolding storing unless_brought bytes_by
      storing_refused r e = rw (a, l, refused_shown (read_record (language_of brought) s) r e)

-- what is read is one of the two
bytes_read : (f : Term → List ℕ) (a : Parsed Term) (brought : Brought) (bs : List ℕ) (n : ℕ) → unless_brought brought (bytes_by f a) ≡ read bs n
    → (t : Term) × ((table_accepted brought.table ≡ true) × (brought_accepted brought ≡ true) × (a ≡ read t n) × (f t ≡ bs))
unfolding unless_brought bytes_by
bytes_read f a brought bs n e = by (table_accepted brought.table) refl (brought_accepted brought) refl a refl e
  where
    by : (b : Bool) → table_accepted brought.table ≡ b → (c : Bool) → brought_accepted brought ≡ c → (x : Parsed Term) → a ≡ x
        → cond b (cond c (bytes_by f x) (refused Class)) (refused Table) ≡ read bs n
        → (t : Term) × ((table_accepted brought.table ≡ true) × (brought_accepted brought ≡ true) × (a ≡ read t n) × (f t ≡ bs))
    by false p c q x o e = let z : ◌≡◌ {A = ℕ} 0 1 = cc in absurd (omega arith)
    by true p false q x o e = let z : ◌≡◌ {A = ℕ} 0 1 = cc in absurd (omega arith)
    by true p true q (refused r) o e = let z : ◌≡◌ {A = ℕ} 0 1 = cc in absurd (omega arith)
    by true p true q (read t m) o e = let z : m ≡ n = cc in (t, (p, q, o ∙ ap (read t) z, cc))

one_read : (t u : Term) (n : ℕ) (a : Parsed Term) → a ≡ read t n → a ≡ read u n → t ≡ u
one_read t u n a e f = let g : read t n ≡ read u n = sym e ∙ f in cc

module _ (brought : Brought) (s : List ℕ) (octets : Octets s) where
  abbrev table : List ℕ
  table = brought.table

  abbrev lang : Language
  lang = language_of brought

  pub store_ties : Ties (RecordOf brought) (StoredOf brought) (restoring brought) s (storing brought s)
  unfolding storing
  store_ties = record {
    is_of = λ bs n e.
        let f = bytes_read (λ t. stored_bytes table t []) (read_record lang s) brought bs n e in
        let t = f.0 in
        let g = record_read lang s octets n t f.1.2 in (
          t,
          (
            record { table_accepted_holds = f.1.0; list_accepted_holds = f.1.1; bytes = g.0; accepted = g.1 },
            record { table_accepted_holds = f.1.0; list_accepted_holds = f.1.1; bytes = f.1.3; accepted = g.1; short = rw (← f.1.3) (stored_short lang t g.1) },
          ),
        );
    of_is = λ t h.
        let bs = stored_bytes table t [] in (
          bs,
          (
            storing_read brought s h.table_accepted_holds h.list_accepted_holds t (length s) (old_complete lang t s h.bytes h.accepted).1,
            (
              record { table_accepted_holds = h.table_accepted_holds; list_accepted_holds = h.list_accepted_holds; bytes = refl; accepted = h.accepted; short = stored_short lang t h.accepted },
              restoring_read brought bs h.table_accepted_holds h.list_accepted_holds t (length bs) (stored_complete lang bs t refl h.accepted) ∙ ap (λ (x : List ℕ). read x (length bs)) h.bytes,
            ),
          ),
        );
    same_term_holds = λ t u h k. one_read t u (length s) (read_record lang s) (old_complete lang t s h.bytes h.accepted).1 (old_complete lang u s k.bytes k.accepted).1;
    same_bytes = λ t bs cs h k. sym h.bytes ∙ k.bytes;
  }

  pub restore_ties : Ties (StoredOf brought) (RecordOf brought) (storing brought) s (restoring brought s)
  unfolding restoring
  restore_ties = record {
    is_of = λ bs n e.
        let f = bytes_read (λ t. term_bytes table t []) (read_stored lang s) brought bs n e in
        let t = f.0 in
        let g = read_sound lang s octets t n f.1.2 in (
          t,
          (
            record { table_accepted_holds = f.1.0; list_accepted_holds = f.1.1; bytes = g.0; accepted = g.1; short = rw g.0 at (stored_short lang t g.1) },
            record { table_accepted_holds = f.1.0; list_accepted_holds = f.1.1; bytes = f.1.3; accepted = g.1 },
          ),
        );
    of_is = λ t h.
        let bs = term_bytes table t [] in (
          bs,
          (
            restoring_read brought s h.table_accepted_holds h.list_accepted_holds t (length s) (stored_complete lang s t h.bytes h.accepted),
            (
              record { table_accepted_holds = h.table_accepted_holds; list_accepted_holds = h.list_accepted_holds; bytes = refl; accepted = h.accepted },
              storing_read brought bs h.table_accepted_holds h.list_accepted_holds t (length bs) (old_complete lang t bs refl h.accepted).1 ∙ ap (λ (x : List ℕ). read x (length bs)) h.bytes,
            ),
          ),
        );
    same_term_holds = λ t u h k. one_read t u (length s) (read_stored lang s) (stored_complete lang s t h.bytes h.accepted) (stored_complete lang s u k.bytes k.accepted);
    same_bytes = λ t bs cs h k. sym h.bytes ∙ k.bytes;
  }

  -- A record that is read

  pub record Storable (room : ℕ) : Type 0 where
    pub its_term : Term
    pub its_length : ℕ
    pub is_stored : storing brought s ≡ read (stored_bytes brought.table its_term []) its_length
    pub short : length s ≤ longest_record
    pub size : stretched brought.table s false ≡ length (stored_bytes brought.table its_term [])
    pub puts : length (stored_bytes brought.table its_term []) ≤ room → Putting (simple brought.table) s room
    pub put : stored_trees brought.table (record_trees (simple brought.table) nesting None 1 s) ≡ stored_bytes brought.table its_term []

  pub storable : (n room : ℕ) → table_accepted brought.table ≡ true → brought_accepted brought ≡ true → shown (read_record (language_of brought) s) ≡ Ok n → Storable room
  unfolding record_trees read_all chain join stores stretched stored_trees
  storable n room a l e =
      let x = ends_shown (read_record lang s) n e in
      let t = x.0 in
      let g = record_read lang s octets n t x.1 in
      -- edition 1 accepts it too
      let first : TermAccepted (simple table) t = record { short = g.1.short; fits = g.1.fits; spliced = one_spliced table [] None (term_tree t) } in
      let d = (old_complete (simple table) t s g.0 first).0 in
      let r : record_trees (simple table) nesting None 1 s ≡ read (more (term_tree t) empty) (length s + 0) = rw d in
      record {
        its_term = t;
        its_length = n;
        is_stored = storing_read brought s a l t n x.1;
        short = rw g.0 at g.1.short;
        size = ap (λ (y : List ℕ). stretched table y false) (sym g.0) ∙ stretched_term table t [] ∙ omega arith;
        puts = λ l. record { trees = more (term_tree t) empty; bytes = length s + 0; are_read = r; has_room = omega arith; short = stored_short lang t g.1 };
        put = rw r refl;
      }

  -- A stored record that is read

  stripped_tree : (t : Tree) (n : ℕ) → Sound lang s octets t n → (stripped brought.table s 0 ≡ encode table t []) × (t ≡ term_tree (term_of t))
  unfolding Sound stripped
  stripped_tree t n h =
      let u = sym (term_tree_holds table t nesting false h.2) in
      (ap (λ (x : List ℕ). stripped table x 0) (sym h.0 ∙ ap (λ (y : Tree). store table y []) u) ∙ stripped_term table (term_of t) [] ∙ ap (λ (y : Tree). encode table y []) (sym u), u)

  module _ (accepted : table_accepted brought.table ≡ true) (listed : brought_accepted brought ≡ true) where
    pub restoring_refused : (r : Refusal) → shown (read_form (language_of brought) s) ≡ Err r → restoring brought s ≡ refused r
    unfolding restoring unless_brought bytes_by read_stored unless_long map_parsed
    restoring_refused r e = rw (accepted, listed, refused_shown (read_form lang s) r e)

    module _ (n : ℕ) (e : shown (read_form (language_of brought) s) ≡ Ok n) where
      its_tree : (t : Tree) × ((read_form lang s ≡ read t n) × Sound lang s octets t n)
      its_tree = let x = ends_shown (read_form lang s) n e in (x.0, (x.1, rw x.1 at (form_sound lang s octets)))

      pub restoring_long : longest_record < length (stripped brought.table s 0) → restoring brought s ≡ refused Long
      unfolding restoring unless_brought bytes_by read_stored unless_long map_parsed
      restoring_long h =
          let x = its_tree in
          let k = (stripped_tree x.0 n x.1.1).0 in
          rw (accepted, listed, x.1.0, lt-leb (length (encode table x.0 [])) longest_record (omega (arith, ap length k)))

      pub restoring_old : length (stripped brought.table s 0) ≤ longest_record → restoring brought s ≡ read (stripped brought.table s 0) n
      unfolding restoring unless_brought bytes_by read_stored unless_long map_parsed
      restoring_old h =
          let x = its_tree in
          let k = stripped_tree x.0 n x.1.1 in
          rw (accepted, listed, x.1.0, le-leb (length (encode table x.0 [])) longest_record (omega (arith, ap length k.0)))
          (ap (λ (y : List ℕ). read y n) (ap (λ (y : Tree). encode table y []) (sym k.1) ∙ sym k.0))

-- The whole of a stored record

module _ (lang : Language) (s : List ℕ) where
  pub form_long : longest_stored < length s → Err Long ≡ shown (read_form lang s)
  unfolding read_form shown
  form_long h = sym (rw (lt-leb (length s) longest_stored h))

  -- what is read is not too long
  pub form_short : (n : ℕ) → shown (read_form lang s) ≡ Ok n → length s ≤ longest_stored
  form_short n e = go (leb (length s) longest_stored) refl
    where
      go : (b : Bool) → leb (length s) longest_stored ≡ b → length s ≤ longest_stored
      go true l = leb-true (length s) longest_stored l
      go false l = let z : ◌≡◌ {A = ℕ} 0 1 = cc (form_long (leb-false (length s) longest_stored l)) in absurd (omega arith)

  module _ (l : length s ≤ longest_stored) where
    form_tree : read_form lang s ≡ unless_spare s (read_stored_tree lang nesting None s)
    unfolding read_form
    form_tree = rw (le-leb (length s) longest_stored l)

    pub form_refused : (r : Refusal) → shown (read_stored_tree lang nesting None s) ≡ Err r → Err r ≡ shown (read_form lang s)
    form_refused r e = sym (ap shown form_tree ∙ whole_refused s (read_stored_tree lang nesting None s) r e)

    pub form_spare : (n : ℕ) → shown (read_stored_tree lang nesting None s) ≡ Ok n → n < length s → Err Spare ≡ shown (read_form lang s)
    form_spare n e h = sym (ap shown form_tree ∙ whole_spare s (read_stored_tree lang nesting None s) n e h)

    pub form_all : (n : ℕ) → shown (read_stored_tree lang nesting None s) ≡ Ok n → n ≤ length s → length s ≤ n → Ok n ≡ shown (read_form lang s)
    form_all n e h k = sym (ap shown form_tree ∙ whole_all s (read_stored_tree lang nesting None s) n e h k)
