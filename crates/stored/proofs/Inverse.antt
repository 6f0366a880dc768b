-- Reading and writing the stored form are inverse: what is read from bytes is the one term within the limits that has those bytes.
use Prim.Native.Nat.{ℕ, zero, suc, ◌+◌, ◌*◌, ◌/◌, ◌%◌, ◌≤◌, ◌<◌}
use native.Mathlib.Omega.{arith}
use native.Mathlib.Numerals.{sub-one}
use mathlib.Core.Path.{◌≡◌, refl, sym, ap, ap₂, subst, ◌∙◌}
use mathlib.Core.List.{List, [], ◌∷◌}
use mathlib.Core.Bool.{Bool, true, false, cond}
use mathlib.Core.Logic.{◌↔◌}
use lib.ListN.{length, get_or, drop}
use lib.Seq.{drop-drop, drop-length, drop_at, get_or-drop}
use lib.Dec.{leb, eqb}
use borrow.Author.Tests.{eqb-true, leb-true, le-leb, lt-leb, eq-eqb}
use Rattle.answers.specs.declared.Refusal.{Refusal}
use Rattle.answers.specs.declared.Refusal.TheVariants.{Short}
use Rattle.term.specs.Code.{code_in, byte_of}
use Rattle.term.specs.Table.{is_list}
use Rattle.term.specs.Tree.{Tree, Trees, branch, empty, more, number, list_code, own, encode}
use Rattle.term.specs.Term.{Term, Terms, node, nil, ◌::◌, term_tree, term_trees, term_of}
use Rattle.term.specs.Language.{Language}
use Rattle.term.specs.Limits.{nesting, longest_record, Written, Counted, Shape, Fits, FitAll, Octets, TermAccepted}
use Rattle.term.specs.Splicing.{stand_in, in_list, unspliced, SplicedAt, SplicedAll, Spliced}
use Rattle.term.proofs.Splicing.{stand_list}
use Rattle.reader.specs.Node.{node_at}
use Rattle.reader.specs.Reading.{Parsed, refused, read, join, chain, read_all, grow, enter, unless_spare, map_parsed}
use Rattle.term.specs.declared.Code.{Code}
use Rattle.term.specs.declared.Code.TheVariants.{Symbol}
use Rattle.term.proofs.Bools.{cond_all}
use Rattle.reader.proofs.Answers.{Opened, Got, opened_at, opened_map, got_map, got_enter, got_chain}
use Rattle.reader.proofs.Nodes.{NodeSound, sound_node, node_complete}
use Rattle.term.proofs.Trees.{term_back, term_tree_holds}
use Rattle.reader.proofs.Steps.{node_within}
use Rattle.reader.proofs.Typed.{map_read}
use Rattle.sheet.specs.Word.{word, word_at}
use Rattle.sheet.proofs.Words.{word_forth}
use Rattle.stored.specs.Form.{tell, store, stores, stored_bytes, longest_stored}
use Rattle.stored.specs.Reading.{length_bytes, with_length, stored_node, told_length, agrees, agreed, read_node, read_stored_tree, unless_long, read_form, read_stored}
use Rattle.stored.specs.Passes.{stored_size}
use Rattle.stored.proofs.Forms.{store_append, branch_length, more_length, store_twice}
use Rattle.std.specs.Prelude.{Option, Some, None, Result, Ok, Err}
use Rattle.reader.specs.Node.{opened}
use Rattle.reader.specs.declared.Open.{Open}

-- One node

module _ (lang : Language) (stand : (Option ℕ)) (left : ℕ) (s : List ℕ) where
  pub record NodeReads (size k : ℕ) (inside : (Option ℕ)) (low : ℕ) : Type 0 where
    pub own_bytes_holds : ℕ
    pub node : NodeSound lang true stand left s (code_in true (get_or s 0 0)) own_bytes_holds k inside low
    pub is_size : size ≡ own_bytes_holds + length_bytes (in_list inside)
    pub within : size ≤ length s

  node_by : (n : Result Open Refusal) → node_at lang true stand left s ≡ n → Opened NodeReads (with_length s n)
  node_by (Err r) e = tt
  node_by (Ok o) e =
      cond_all (Opened NodeReads) (leb (o.size + length_bytes (in_list o.inside)) (length s))
      (λ l. record {
        own_bytes_holds = o.size;
        node = opened_at (NodeSound lang true stand left s (code_in true (get_or s 0 0))) (sound_node lang true stand left s) e;
        is_size = refl;
        within = leb-true (o.size + length_bytes (in_list o.inside)) (length s) l;
      })
      (λ l. tt)

  pub node_reads : Opened NodeReads (stored_node lang stand left s)
  unfolding stored_node
  node_reads = node_by (node_at lang true stand left s) refl

-- whether a node is a list, and its own bytes
module _ {lang : Language} {stand : (Option ℕ)} {left : ℕ} {s : List ℕ} {size k : ℕ} {inside : (Option ℕ)} {low : ℕ} where
  pub is_list_holds : {c : Code} → NodeSound lang true stand left s c size k inside low → in_list inside ≡ list_code lang.table c
  is_list_holds {c} o = ap in_list o.is_inside ∙ stand_list lang.table c

  pub own_long : {c : Code} → NodeSound lang true stand left s c size k inside low → size ≡ cond (in_list inside) 2 1
  own_long o = o.long ∙ ap (λ (b : Bool). cond b 2 1) (sym (is_list_holds o))

-- The checks of a node, one after the other
module _ (lang : Language) (stand : (Option ℕ)) (left : ℕ) (s : List ℕ) {n : (Result Open Refusal)} (is : n ≡ node_at lang true stand left s) where
  pub node_refused : {r : Refusal} → n ≡ Err r → n ≡ stored_node lang stand left s
  unfolding stored_node
  node_refused e = e ∙ sym (ap (with_length s) (sym is ∙ e))

  module _ {size k : ℕ} {inside : (Option ℕ)} {low : ℕ} (e : n ≡ Ok (opened size k inside low)) where
    pub node_size : size ≤ length s
    node_size = (node_within lang true stand left s (sym is ∙ e)).0

    pub node_other : in_list inside ≡ false → Ok (opened size k inside low) ≡ stored_node lang stand left s
    unfolding stored_node
    node_other l =
        let z : size + 0 ≡ size = omega arith in
        sym (ap (with_length s) (sym is ∙ e) ∙ rw (l, z, le-leb size (length s) node_size))

    pub node_short : in_list inside ≡ true → length s < size + 2 → Err Short ≡ stored_node lang stand left s
    unfolding stored_node
    node_short l h = sym (ap (with_length s) (sym is ∙ e) ∙ rw (l, lt-leb (size + 2) (length s) h))

    pub node_list : in_list inside ≡ true → size + 2 ≤ length s → Ok (opened (size + 2) k inside low) ≡ stored_node lang stand left s
    unfolding stored_node
    node_list l h = sym (ap (with_length s) (sym is ∙ e) ∙ rw (l, le-leb (size + 2) (length s) h))

-- What is read is within the limits, and the bytes are its own

octets_drop : (n : ℕ) (s : List ℕ) → Octets s → Octets (drop n s)
octets_drop n s o i = rw (get_or-drop n s i 0) (o (n + i))

got_agreed : (P : Trees → ℕ → Type 0) (list : Bool) (told : ℕ) (a : Parsed Trees) → Got (λ ts n. agrees list told n ≡ true → P ts n) a → Got P (agreed list told a)
unfolding agreed
got_agreed P list told (refused r) h = tt
got_agreed P list told (read ts n) h = cond_all (Got P) (agrees list told n) h (λ e. tt)

-- the length that is told stands there
tell_forth : (list : Bool) (s : List ℕ) (size n : ℕ) → size ≡ cond list 2 1 → Octets s → size + length_bytes list ≤ length s → agrees list (told_length s) n ≡ true
    → drop size s ≡ tell list n (drop (size + length_bytes list) s)
unfolding tell
tell_forth true s size n e o h a = rw (e, ← eqb-true (told_length s) n a) (word_forth s 2 o (omega arith))
tell_forth false s size n e o h a = let z : size ≡ size + 0 = omega arith in ap (λ (k : ℕ). drop k s) z

module _ (lang : Language) (left : ℕ) (stand : (Option ℕ)) where
  abbrev table : List ℕ
  table = lang.table

  pub record TreeSound (s : List ℕ) (t : Tree) (n : ℕ) : Type 0 where
    pub bytes : Octets s → s ≡ store lang.table t (drop n s)
    pub long : n ≡ length (store lang.table t [])
    pub fits : Octets s → Fits lang.table true t left (in_list stand)
    pub spliced : SplicedAt lang stand t

  pub record TreesSound (s : List ℕ) (k : ℕ) (ts : Trees) (n : ℕ) : Type 0 where
    pub bytes : Octets s → s ≡ stores lang.table ts (drop n s)
    pub long : n ≡ length (stores lang.table ts [])
    pub counted : number ts ≡ k
    pub fits : Octets s → FitAll lang.table true ts left (in_list stand)
    pub spliced : SplicedAll lang stand ts

  none_sound : (s : List ℕ) → TreesSound s 0 empty 0
  unfolding stores number FitAll
  none_sound s = record { bytes = λ o. refl; long = refl; counted = refl; fits = λ o. tt; spliced = tt }

  more_sound : (s : List ℕ) (k : ℕ) (t : Tree) (n : ℕ) (ts : Trees) (m : ℕ) → TreeSound s t n → TreesSound (drop n s) k ts m → TreesSound s (suc k) (more t ts) (n + m)
  unfolding stores number FitAll
  more_sound s k t n ts m a b = record {
    bytes = λ o. a.bytes o ∙ ap (store table t) (b.bytes (octets_drop n s o) ∙ ap (stores table ts) (drop-drop m n s));
    long = rw (more_length table t ts) (ap₂ ◌+◌ a.long b.long);
    counted = ap suc b.counted;
    fits = λ o. (a.fits o, b.fits (octets_drop n s o));
    spliced = (a.spliced, b.spliced);
  }

  sound_all : (f : List ℕ → Parsed Tree) → ((s : List ℕ) → Got (TreeSound s) (f s)) → (k : ℕ) (s : List ℕ) → Got (TreesSound s k) (read_all f k s)
  unfolding read_all
  sound_all f h zero s = none_sound s
  sound_all f h (suc k) s =
      got_chain (TreesSound s (suc k)) (f s) (λ n. read_all f k (drop n s))
      (got_map (λ t n a. got_map (λ ts m b. more_sound s k t n ts m a b) (read_all f k (drop n s)) (sound_all f h k (drop n s))) (f s) (h s))

pub stored_size_holds : (l : Bool) (own_bytes_holds size n m : ℕ) → own_bytes_holds ≡ cond l 2 1 → size ≡ own_bytes_holds + length_bytes l → n ≡ m → size + n ≡ stored_size l + m
stored_size_holds true own_bytes_holds size n m a b c = omega arith
stored_size_holds false own_bytes_holds size n m a b c = omega arith

grow_sound : (lang : Language) (left : ℕ) (stand : (Option ℕ)) (s : List ℕ) (size k : ℕ) (inside : (Option ℕ)) (low : ℕ) (ts : Trees) (n : ℕ)
    → NodeReads lang stand (suc left) s size k inside low → TreesSound lang left inside (drop size s) k ts n → agrees (in_list inside) (told_length s) n ≡ true
    → TreeSound lang (suc left) stand s (branch (code_in true (get_or s 0 0)) ts) (size + n)
unfolding store Fits
grow_sound lang left stand s size k inside low ts n o b a =
    let table = lang.table in
    let c = code_in true (get_or s 0 0) in
    let node = o.node in
    let list = in_list inside in
    record {
      bytes = λ x.
          let told : drop o.own_bytes_holds s ≡ tell list n (drop size s) =
          tell_forth list s o.own_bytes_holds n (own_long node) x (rw (← o.is_size) o.within) a ∙ ap (λ (m : ℕ). tell list n (drop m s)) (sym o.is_size) in
          rw (b.counted, ← b.long, ← is_list_holds node)
          (node.bytes ∙ ap (own table c k) (told ∙ ap (tell list n) (b.bytes (octets_drop size s x) ∙ ap (stores table ts) (drop-drop n size s))));
      long = rw (branch_length table c ts)
          (stored_size_holds (list_code table c) o.own_bytes_holds size n (length (stores table ts [])) node.long (o.is_size ∙ ap (λ (l : Bool). o.own_bytes_holds + length_bytes l) (is_list_holds node)) b.long);
      fits = λ x. (node.levels, node.written, rw b.counted (node.shape x), rw (sub-one (suc left), ← is_list_holds node) (b.fits (octets_drop size s x)));
      spliced = (node.spliced, rw (← node.is_inside) b.spliced);
    }

pub sound : (lang : Language) (left : ℕ) (stand : (Option ℕ)) (s : List ℕ) → Got (TreeSound lang left stand s) (read_stored_tree lang left stand s)
unfolding read_stored_tree read_node
sound lang zero stand s =
    got_enter (TreeSound lang zero stand s) (code_in true (get_or s 0 0)) (stored_node lang stand zero s) _
    (opened_map (λ size k inside low o. absurd (omega (arith, o.node.levels))) (stored_node lang stand zero s) (node_reads lang stand zero s))
sound lang (suc left) stand s =
    got_enter (TreeSound lang (suc left) stand s) (code_in true (get_or s 0 0)) (stored_node lang stand (suc left) s) _
    (opened_map
    (λ size k inside low o.
    got_agreed (λ ts n. TreeSound lang (suc left) stand s (branch (code_in true (get_or s 0 0)) ts) (size + n)) (in_list inside) (told_length s)
    (read_all (read_stored_tree lang left inside) k (drop size s))
    (got_map (λ ts n b a. grow_sound lang left stand s size k inside low ts n o b a) (read_all (read_stored_tree lang left inside) k (drop size s))
    (sound_all lang left inside (read_stored_tree lang left inside) (sound lang left inside) k (drop size s))))
    (stored_node lang stand (suc left) s) (node_reads lang stand (suc left) s))

-- Terms within the limits are read back

agreed_untold : (m n : ℕ) (a : Parsed Trees) → agreed false m a ≡ agreed false n a
unfolding agreed
agreed_untold m n (refused r) = refl
agreed_untold m n (read ts k) = refl

agrees_self : (l : Bool) (n : ℕ) → agrees l n n ≡ true
agrees_self true n = eq-eqb n n refl
agrees_self false n = refl

behind_tree : (table : List ℕ) (t : Tree) (bs : List ℕ) → drop (length (store table t [])) (store table t bs) ≡ bs
behind_tree table t bs = ap (drop (length (store table t []))) (store_append table t [] bs) ∙ drop_at (store table t []) bs (length (store table t [])) refl

module _ (lang : Language) where
  -- the node at the start of its own bytes
  module _ (b k n left : ℕ) (stand : (Option ℕ)) (r : List ℕ) where
    node_opens : (l : Bool) → is_list lang.table b ≡ l → b < length lang.table → Counted l k (get_or lang.table b 0)
        → unspliced lang.edition lang.classes stand (stand_in lang.table (Symbol b)) ≡ false
        → stored_node lang stand (suc left) (b ∷ cond l (k ∷ tell l n r) (tell l n r)) ≡ Ok (opened (stored_size l) k (cond l (Some b) None) left)
    unfolding stored_node own tell word Written Shape list_code byte_of
    node_opens true e h c u =
        let s = b ∷ k ∷ (n % 256) ∷ (n / 256) ∷ r in
        let o : node_at lang true stand (suc left) s ≡ Ok (opened 2 k (Some b) left) =
        rw (e, sub-one (suc left)) at (node_complete lang true stand (suc left) (Symbol b) k ((n % 256) ∷ (n / 256) ∷ r) (omega arith) tt (h, rw e c) u) in
        rw (o, le-leb 4 (length s) (omega arith))
    node_opens false e h c u =
        let s = b ∷ r in
        let o : node_at lang true stand (suc left) s ≡ Ok (opened 1 k None left) =
        rw (e, sub-one (suc left)) at (node_complete lang true stand (suc left) (Symbol b) k r (omega arith) tt (h, rw e c) u) in
        rw (o, le-leb 1 (length s) (omega arith))

    -- and then what its children are read from
    node_step : (l : Bool) → is_list lang.table b ≡ l → b < length lang.table → Counted l k (get_or lang.table b 0)
        → unspliced lang.edition lang.classes stand (stand_in lang.table (Symbol b)) ≡ false
        → read_stored_tree lang (suc left) stand (b ∷ cond l (k ∷ tell l n r) (tell l n r))
        ≡ grow (Symbol b) (stored_size l) (agreed l n (read_all (read_stored_tree lang left (cond l (Some b) None)) k r))
    unfolding read_stored_tree read_node enter tell word word_at
    node_step true e h c u =
        let z : (n % 256) + 256 * (n / 256) ≡ n = omega arith in
        rw (node_opens true e h c u, z)
    node_step false e h c u =
        rw (node_opens false e h c u) (ap (grow (Symbol b) 1) (agreed_untold (told_length (b ∷ r)) n (read_all (read_stored_tree lang left None) k r)))

  mutual
    unfolding Fits Shape list_code byte_of store own grow agreed read_all number chain join

    complete : (t : Term) (left : ℕ) (stand : (Option ℕ)) (within_list : Bool) (bs : List ℕ) → Fits lang.table true (term_tree t) left within_list → SplicedAt lang stand (term_tree t)
        → read_stored_tree lang left stand (store lang.table (term_tree t) bs) ≡ read (term_tree t) (length (store lang.table (term_tree t) []))
    complete (node b ts) zero stand within_list bs f d = absurd (omega (arith, f.0))
    complete (node b ts) (suc left) stand within_list bs f d =
        let table = lang.table in
        let n = length (stores table (term_trees ts) []) in
        rw (
          node_step b (number (term_trees ts)) n left stand (stores table (term_trees ts) bs) (is_list table b) refl f.2.0 f.2.1 d.0,
          completes ts left (stand_in table (Symbol b)) (is_list table b) bs (rw (sub-one (suc left)) at f.3) d.1,
          agrees_self (is_list table b) n,
          branch_length table (Symbol b) (term_trees ts),
        )

    completes : (ts : Terms) (left : ℕ) (stand : (Option ℕ)) (within_list : Bool) (bs : List ℕ) → FitAll lang.table true (term_trees ts) left within_list → SplicedAll lang stand (term_trees ts)
        → read_all (read_stored_tree lang left stand) (number (term_trees ts)) (stores lang.table (term_trees ts) bs) ≡ read (term_trees ts) (length (stores lang.table (term_trees ts) []))
    completes nil left stand within_list bs f d = refl
    completes (t :: ts) left stand within_list bs f d =
        let table = lang.table in
        rw (
          complete t left stand within_list (stores table (term_trees ts) bs) f.0 d.0,
          behind_tree table (term_tree t) (stores table (term_trees ts) bs),
          completes ts left stand within_list bs f.1 d.1,
          more_length table (term_tree t) (term_trees ts),
        )

-- The theorem

-- every accepted record has a stored form that is not too long
pub stored_short : (lang : Language) (t : Term) → TermAccepted lang t → length (stored_bytes lang.table t []) ≤ longest_stored
stored_short lang t a = omega (arith, a.short, store_twice lang.table (term_tree t))

module _ (lang : Language) (s : List ℕ) (t : Term) (bytes : stored_bytes lang.table t [] ≡ s) (accepted : TermAccepted lang t) where
  form_complete : read_form lang s ≡ read (term_tree t) (length s)
  unfolding read_form unless_spare
  form_complete =
      let n : length (stored_bytes lang.table t []) ≡ length s = ap length bytes in
      let d : read_stored_tree lang nesting None s ≡ read (term_tree t) (length s) =
      ap (read_stored_tree lang nesting None) (sym bytes) ∙ complete lang t nesting None false [] accepted.fits accepted.spliced ∙ ap (read (term_tree t)) n in
      rw (le-leb (length s) longest_stored (omega (arith, stored_short lang t accepted)), d, eq-eqb (length s) (length s) refl)

  -- the stored form of a term within the limits is read as it
  pub stored_complete : read_stored lang s ≡ read t (length s)
  unfolding read_stored unless_long map_parsed
  stored_complete = rw (form_complete, le-leb (length (encode lang.table (term_tree t) [])) longest_record accepted.short, term_back t)

module _ (lang : Language) (s : List ℕ) (octets : Octets s) where
  unfoldable pub Sound : Tree → ℕ → Type 0
  Sound t n = (store lang.table t [] ≡ s) × (n ≡ length s) × Fits lang.table true t nesting false × Spliced lang t

  whole_sound : (a : Parsed Tree) → Got (TreeSound lang nesting None s) a → Got Sound (unless_spare s a)
  unfolding unless_spare Sound
  whole_sound (refused r) h = tt
  whole_sound (read t n) h =
      cond_all (Got Sound) (eqb n (length s))
      (λ e.
      let z : n ≡ length s = eqb-true n (length s) e in
      let b : store lang.table t [] ≡ s = sym (h.bytes octets ∙ ap (λ (m : ℕ). store lang.table t (drop m s)) z ∙ ap (store lang.table t) (drop-length s)) in
      (b, z, h.fits octets, h.spliced))
      (λ e. tt)

  -- what is read before the check of the old form's length
  pub form_sound : Got Sound (read_form lang s)
  unfolding read_form
  form_sound = cond_all (Got Sound) (leb (length s) longest_stored) (λ l. whole_sound (read_stored_tree lang nesting None s) (sound lang nesting None s)) (λ l. tt)

  unfoldable pub Accepts : Tree → ℕ → Type 0
  Accepts t n = Sound t n × (length (encode lang.table t []) ≤ longest_record)

  unless_long_holds : (a : Parsed Tree) → Got Sound a → Got Accepts (unless_long lang.table a)
  unfolding unless_long Accepts
  unless_long_holds (refused r) h = tt
  unless_long_holds (read t n) h = cond_all (Got Accepts) (leb (length (encode lang.table t [])) longest_record) (λ l. (h, leb-true (length (encode lang.table t [])) longest_record l)) (λ l. tt)

  pub read_sound : (t : Term) (n : ℕ) → read_stored lang s ≡ read t n → (stored_bytes lang.table t [] ≡ s) × TermAccepted lang t × (n ≡ length s)
  unfolding read_stored Sound Accepts
  read_sound t n e =
      let m = map_read term_of (unless_long lang.table (read_form lang s)) t n e in
      let h = subst (Got Accepts) m.1 (unless_long_holds (read_form lang s) form_sound) in
      let u : m.0 ≡ term_tree t = sym (term_tree_holds lang.table m.0 nesting false h.0.2) ∙ ap term_tree m.2 in
      (rw (← u) h.0.0, record { short = rw (← u) h.1; fits = rw (← u) h.0.2; spliced = rw (← u) h.0.3 }, h.0.1)

  -- bytes are read as a term exactly if they are its stored form and the term is within the limits
  pub stored_iff : (t : Term) → (read_stored lang s ≡ read t (length s)) ↔ ((stored_bytes lang.table t [] ≡ s) × TermAccepted lang t)
  stored_iff t = (λ e. let h = read_sound t (length s) e in (h.0, h.1), λ h. stored_complete lang s t h.0 h.1)
