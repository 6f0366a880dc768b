-- What is still to be read, in frames: a node and then its children, read one node at a time.
use Prim.Native.Nat.{ℕ, zero, suc, ◌+◌, ◌-◌, ◌≤◌, ◌<◌}
use native.Mathlib.Omega.{arith}
use native.Mathlib.Numerals.{add-one, sub-one}
use mathlib.Core.Path.{◌≡◌, refl, sym, ap, ap₂, fun_ext, ◌∙◌}
use mathlib.Core.List.{List, [], ◌∷◌}
use mathlib.Core.Bool.{Bool}
use lib.ListN.{length, get_or, drop, set, take, length-drop, length-set}
use lib.Seq.{drop-drop, get_or-set_same, get_or-set_other}
use Rattle.answers.specs.declared.Refusal.{Refusal}
use Rattle.term.proofs.Lists.{rest_part}
use Rattle.term.specs.Language.{Language}
use Rattle.term.specs.Limits.{nesting}
use Rattle.reader.specs.Frame.{frame}
use Rattle.reader.specs.Node.{node_at}
use Rattle.reader.specs.Reading.{Parsed, shown, read_all, read_tree}
use Rattle.reader.specs.Simple.{read_in, told_in}
use Rattle.reader.proofs.Editions.{tree_told}
use Rattle.term.specs.Tree.{Tree}
use Rattle.reader.specs.declared.Frame.{Frame}
use Rattle.reader.proofs.Steps.{plus, and_then, all_none, all_more, shown_chain, tree_refused, tree_open, node_within, node_below}
use Rattle.std.specs.Prelude.{Result, Ok, Err, Option, None}
use Rattle.reader.specs.Node.{opened}
use Rattle.reader.specs.declared.Open.{Open}

-- all but the first tree
abbrev pub rest_of : Frame → Frame
rest_of f = frame (f.count - 1) f.left f.stand

abbrev pub none : Frame
none = frame 0 0 None

-- Elements in an array, frames or what stands beside them: the first so many, the last of them innermost

module _ {A : Type 0} (no : A) where
  abbrev pub stack : ℕ → List A → List A
  stack zero fs = []
  stack (suc d) fs = get_or fs d no ∷ stack d fs

  pub stack_length : (d : ℕ) (fs : List A) → length (stack d fs) ≡ d
  stack_length zero fs = refl
  stack_length (suc d) fs = ap suc (stack_length d fs)

  pub stack_kept : (d i : ℕ) (fs : List A) (f : A) → d ≤ i → stack d (set fs i f) ≡ stack d fs
  stack_kept zero i fs f h = refl
  stack_kept (suc d) i fs f h = ap₂ ◌∷◌ (get_or-set_other fs i d f no (λ e. omega arith)) (stack_kept d i fs f (omega arith))

  pub stack_pushed : (d : ℕ) (fs : List A) (f : A) → d < length fs → stack (d + 1) (set fs d f) ≡ f ∷ stack d fs
  stack_pushed d fs f h = rw (add-one) (ap₂ ◌∷◌ (get_or-set_same fs d f no h) (stack_kept d d fs f (omega arith)))

  pub stack_popped : (d : ℕ) (fs : List A) → 0 < d → stack d fs ≡ get_or fs (d - 1) no ∷ stack (d - 1) fs
  stack_popped zero fs h = absurd (omega arith)
  stack_popped (suc d) fs h = rw (sub-one (suc d))

-- Reading on

plus_none : (r : Result ℕ Refusal) → plus 0 r ≡ r
plus_none (Err r) = refl
plus_none (Ok n) = ap Ok (omega arith)

plus_plus : (m n : ℕ) (r : Result ℕ Refusal) → plus m (plus n r) ≡ plus (m + n) r
plus_plus m n (Err r) = refl
plus_plus m n (Ok k) = ap Ok (omega arith)

and_no_more : (a : Result ℕ Refusal) → and_then (and_then a (λ n. Ok 0)) (λ n. Ok 0) ≡ a
and_no_more (Err r) = refl
and_no_more (Ok n) = ap Ok (omega arith)

-- a node's children, the trees after the node, and then what follows
module _ (size : ℕ) (s : List ℕ) (g h : List ℕ → Result ℕ Refusal) where
  after_children : (n : ℕ) (l : List ℕ) (b : Result ℕ Refusal) → drop (size + n) s ≡ l
      → and_then (plus (size + n) b) (λ m. h (drop m s)) ≡ plus size (plus n (and_then b (λ m. h (drop m l))))
  after_children n l (Err r) e = refl
  after_children n l (Ok m) e =
      let d : drop (size + n + m) s ≡ drop m l = sym (drop-drop m (size + n) s) ∙ ap (drop m) e in
      ap (λ (x : List ℕ). plus (size + n + m) (h x)) d
      ∙ sym (plus_plus size n (plus m (h (drop m l))) ∙ plus_plus (size + n) m (h (drop m l)))

  after_node : (a : Result ℕ Refusal)
      → and_then (and_then (plus size a) (λ n. g (drop n s))) (λ m. h (drop m s))
      ≡ plus size (and_then a (λ n. and_then (g (drop n (drop size s))) (λ m. h (drop m (drop n (drop size s))))))
  after_node (Err r) = refl
  after_node (Ok n) =
      let d : drop (size + n) s ≡ drop n (drop size s) = sym (drop-drop n size s) in
      ap (λ (x : List ℕ). and_then (plus (size + n) (g x)) (λ m. h (drop m s))) d
      ∙ after_children n (drop n (drop size s)) (g (drop n (drop size s))) d

module _ (lang : Language) (records : Bool) where
  -- the trees of all frames, one frame after the other
  unfoldable pub resume : List Frame → List ℕ → Result ℕ Refusal
  resume [] s = Ok 0
  resume (f ∷ fs) s = and_then (shown (read_all (read_tree lang records f.left f.stand) f.count s)) (λ n. resume fs (drop n s))

  resume_one : (left : ℕ) (stand : (Option ℕ)) (s : List ℕ) → resume (frame 1 left stand ∷ []) s ≡ shown (read_tree lang records left stand s)
  unfolding resume read_all shown
  resume_one left stand s =
      let t = read_tree lang records left stand in
      ap (λ (a : Result ℕ Refusal). and_then a (λ n. Ok 0)) (shown_chain (t s) (λ n. read_all t 0 (drop n s))) ∙ and_no_more (shown (t s))

  resume_none : (f : Frame) (fs : List Frame) (s : List ℕ) → f.count ≡ 0 → resume (f ∷ fs) s ≡ resume fs s
  unfolding resume
  resume_none f fs s e =
      ap (λ (a : Result ℕ Refusal). and_then a (λ n. resume fs (drop n s))) (all_none (read_tree lang records f.left f.stand) f.count s e)
      ∙ plus_none (resume fs s)

  -- under the innermost frame
  resume_under : (f : Frame) (fs gs : List Frame) (s : List ℕ) → ((l : List ℕ) → resume fs l ≡ resume gs l) → resume (f ∷ fs) s ≡ resume (f ∷ gs) s
  unfolding resume
  resume_under f fs gs s e =
      ap (and_then (shown (read_all (read_tree lang records f.left f.stand) f.count s))) (fun_ext (λ n. e (drop n s)))

  resume_refused : (f : Frame) (fs : List Frame) (s : List ℕ) (r : Refusal) → 0 < f.count → node_at lang records f.stand f.left s ≡ Err r
      → resume (f ∷ fs) s ≡ Err r
  unfolding resume
  resume_refused f fs s r h e =
      let t = read_tree lang records f.left f.stand in
      rw (all_more t f.count s (λ z. omega arith), shown_chain (t s) (λ n. read_all t (f.count - 1) (drop n s)), tree_refused lang records f.left f.stand s r e)

  resume_open : (f : Frame) (fs : List Frame) (s : List ℕ) {size k : ℕ} {inside : (Option ℕ)} {low : ℕ} → 0 < f.count
      → node_at lang records f.stand f.left s ≡ Ok (opened size k inside low)
      → resume (f ∷ fs) s ≡ plus size (resume (frame k low inside ∷ rest_of f ∷ fs) (drop size s))
  unfolding resume
  resume_open f fs s {size} {k} {inside} {low} h e =
      let t = read_tree lang records f.left f.stand in
      ap (λ (a : Result ℕ Refusal). and_then a (λ n. resume fs (drop n s)))
      (ap shown (all_more t f.count s (λ z. omega arith)) ∙ shown_chain (t s) (λ n. read_all t (f.count - 1) (drop n s))
      ∙ ap (λ (a : Result ℕ Refusal). and_then a (λ n. shown (read_all t (f.count - 1) (drop n s)))) (tree_open lang records f.left f.stand s e))
      ∙ after_node size s (λ l. shown (read_all t (f.count - 1) l)) (resume fs) (shown (read_all (read_tree lang records low inside) k (drop size s)))

-- The loop of `read_tree`

-- frames around are not empty, and each has a nesting of its own
abbrev pub Kept : List Frame → Type 0
Kept [] = Unit {0}
Kept (f ∷ fs) = (0 < f.count) × (length fs + f.left ≤ nesting) × Kept fs

module _ (lang : Language) (records : Bool) (s : List ℕ) where
  -- read up to `at`, with these frames still to come
  abbrev pub ToCome : List Frame → ℕ → Type 0
  ToCome fs at = shown (read_tree lang records nesting None s) ≡ plus at (resume lang records fs (drop at s))

  pub whole_to_come : ToCome (frame 1 nesting None ∷ []) 0
  whole_to_come = sym (plus_none (resume lang records (frame 1 nesting None ∷ []) s) ∙ resume_one lang records nesting None s)

  -- an open node's children come next, and then what is left of its frame
  pub children_to_come : (f : Frame) (fs : List Frame) (at : ℕ) {size k : ℕ} {inside : (Option ℕ)} {low : ℕ} → 0 < f.count
      → node_at lang records f.stand f.left (drop at s) ≡ Ok (opened size k inside low)
      → ToCome (f ∷ fs) at → ToCome (frame k low inside ∷ rest_of f ∷ fs) (at + size)
  children_to_come f fs at {size} {k} {inside} {low} h e l =
      let gs = frame k low inside ∷ rest_of f ∷ fs in
      l ∙ ap (plus at) (resume_open lang records f fs (drop at s) h e)
      ∙ plus_plus at size (resume lang records gs (drop size (drop at s)))
      ∙ ap (λ (x : List ℕ). plus (at + size) (resume lang records gs x)) (drop-drop size at s)

  -- `top` is the innermost frame; a single tree takes no place around its children
  pub record Reading (around : List Frame) (depth : ℕ) (top : Frame) (at : ℕ) : Type 0 where
    pub within : at ≤ length s
    pub some : 0 < top.count
    pub room : depth + top.left ≤ nesting + (2 - top.count)
    pub places : length around ≡ nesting
    pub kept : Kept (stack none depth around)
    pub to_come : ToCome (top ∷ stack none depth around) at

  pub reading_starts : (around : List Frame) (top : Frame) → length around ≡ nesting → top ≡ frame 1 nesting None → Reading around 0 top 0
  reading_starts around top l e = record {
    within = omega arith;
    some = rw e (omega arith);
    room = rw e (omega arith);
    places = l;
    kept = tt;
    to_come = rw e whole_to_come;
  }

  pub none_to_come : (at : ℕ) → ToCome [] at → shown (read_tree lang records nesting None s) ≡ Ok at
  unfolding resume
  none_to_come at l = l ∙ ap Ok (omega arith)

  pub skip : (f : Frame) (fs : List Frame) (at : ℕ) → f.count ≡ 0 → ToCome (f ∷ fs) at → ToCome fs at
  skip f fs at z l = l ∙ ap (plus at) (resume_none lang records f fs (drop at s) z)

  skip_under : (g f : Frame) (fs : List Frame) (at : ℕ) → f.count ≡ 0 → ToCome (g ∷ f ∷ fs) at → ToCome (g ∷ fs) at
  skip_under g f fs at z l = l ∙ ap (plus at) (resume_under lang records g (f ∷ fs) fs (drop at s) (λ d. resume_none lang records f fs d z))

module _ (lang : Language) (records : Bool) (s : List ℕ) where
  -- the same, told by what is left of the bytes
  abbrev pub ReadTo : List Frame → ℕ → Frame → List ℕ → Type 0
  ReadTo around depth top rest = (rest ≡ drop (length s - length rest) s) × Reading lang records s around depth top (length s - length rest)

  pub read_to_starts : (around : List Frame) (top : Frame) → length around ≡ nesting → top ≡ frame 1 nesting None → ReadTo around 0 top s
  read_to_starts around top l e =
      let z : length s - length s ≡ 0 = omega arith in
      rw z (refl, reading_starts lang records s around top l e)

module _ {lang : Language} {records : Bool} {s : List ℕ} {around : List Frame} {depth : ℕ} {top : Frame} {rest : List ℕ} (l : ReadTo lang records s around depth top rest)
    {n : (Result Open Refusal)} (is : n ≡ node_at lang records top.stand top.left rest) where
  abbrev at : ℕ
  at = length s - length rest

  i : Reading lang records s around depth top at
  i = l.1

  pub refused : {r : Refusal} → n ≡ Err r → shown (read_tree lang records nesting None s) ≡ Err r
  refused {r} e =
      i.to_come ∙ ap (plus at) (resume_refused lang records top (stack none depth around) (drop at s) r i.some (rw l.0 at (sym is ∙ e)))

  pub node_refuses : {r : Refusal} → n ≡ Err r → Err r ≡ shown (read_tree lang records nesting None s)
  node_refuses e = sym (refused e)

  module _ {o : Open} (e : n ≡ Ok o) where
    opens : node_at lang records top.stand top.left (drop at s) ≡ Ok o
    opens = rw l.0 at (sym is ∙ e)

    below : (0 < top.left) × (o.low < top.left + (2 - o.kids))
    below = node_below lang records top.stand top.left (drop at s) opens

    pub node_ends : (at + o.size ≤ length s) × (0 < o.size)
    node_ends =
        let w = node_within lang records top.stand top.left (drop at s) opens in
        (omega (arith, w, length-drop at s, i.within), w.1)

    pub node_held : o.size ≤ length rest
    node_held = omega (arith, node_ends, ap length l.0, length-drop at s)

    pub depth_within : depth ≤ nesting
    depth_within = omega (arith, i.room, i.some, below)

    children : ToCome lang records s (frame o.kids o.low o.inside ∷ rest_of top ∷ stack none depth around) (at + o.size)
    children = children_to_come lang records s top (stack none depth around) at i.some opens i.to_come

    -- what is left of them past the node's own
    abbrev past : List ℕ
    past = take (length rest - o.size) (drop o.size rest)

    past_is : past ≡ drop (at + o.size) s
    past_is = rest_part o.size rest ∙ ap (drop o.size) l.0 ∙ drop-drop o.size at s

    past_at : length s - length past ≡ at + o.size
    past_at = omega (arith, ap length past_is, length-drop (at + o.size) s, node_ends.0)

    read_to_past : {fs : List Frame} {d : ℕ} {f : Frame} → Reading lang records s fs d f (at + o.size) → ReadTo lang records s fs d f past
    read_to_past r = rw past_at (past_is, r)

    -- a node without children: its frame goes on, or after its last tree the one around it
    next_frames : o.kids ≤ 0 → ToCome lang records s (rest_of top ∷ stack none depth around) (at + o.size)
    next_frames z = skip lang records s (frame o.kids o.low o.inside) (rest_of top ∷ stack none depth around) (at + o.size) (omega arith) children

    pub next_tree : o.kids ≤ 0 → (top.count - 1 ≡ 0 → ⊥) → ReadTo lang records s around depth (rest_of top) past
    next_tree z h = read_to_past (record {
      within = node_ends.0;
      some = omega (arith, h);
      room = omega (arith, i.room, h);
      places = i.places;
      kept = i.kept;
      to_come = next_frames z;
    })

    last_tree : o.kids ≤ 0 → top.count - 1 ≡ 0 → ToCome lang records s (stack none depth around) (at + o.size)
    last_tree z h = skip lang records s (rest_of top) (stack none depth around) (at + o.size) h (next_frames z)

    pub next_around : o.kids ≤ 0 → top.count - 1 ≡ 0 → (depth ≡ 0 → ⊥) → ReadTo lang records s around (depth - 1) (get_or around (depth - 1) none) past
    next_around z h d =
        let p = stack_popped none depth around (omega (arith, d)) in
        let w : Kept (get_or around (depth - 1) none ∷ stack none (depth - 1) around) = rw p at i.kept in
        read_to_past (record {
          within = node_ends.0;
          some = w.0;
          room = omega (arith, w.1, stack_length none (depth - 1) around);
          places = i.places;
          kept = w.2;
          to_come = rw (← p) (last_tree z h);
        })

    pub no_more : o.kids ≤ 0 → top.count - 1 ≡ 0 → depth ≡ 0 → shown (read_tree lang records nesting None s) ≡ Ok (length s - length past)
    no_more z h d = rw past_at (none_to_come lang records s (at + o.size) (rw d at (last_tree z h)))

    pub place_free : 0 < top.count - 1 → depth < nesting
    place_free h = omega (arith, i.room, below)

    -- a node with children: they come next, and then what is left of its frame
    module _ (g : Frame) (q : g ≡ frame o.kids o.low o.inside) where
      pub child_last : 0 < o.kids → top.count - 1 ≤ 0 → ReadTo lang records s around depth g past
      child_last z h = read_to_past (record {
        within = node_ends.0;
        some = rw q z;
        room = rw q (omega (arith, i.room, i.some, below));
        places = i.places;
        kept = i.kept;
        to_come = rw q (skip_under lang records s (frame o.kids o.low o.inside) (rest_of top) (stack none depth around) (at + o.size) (omega arith) children);
      })

      pub child_first : 0 < o.kids → 0 < top.count - 1 → ReadTo lang records s (set around depth (rest_of top)) (depth + 1) g past
      child_first z h =
          let p : stack none (depth + 1) (set around depth (rest_of top)) ≡ rest_of top ∷ stack none depth around =
          stack_pushed none depth around (rest_of top) (omega (arith, place_free h, i.places)) in
          read_to_past (record {
            within = node_ends.0;
            some = rw q z;
            room = rw q (omega (arith, i.room, below));
            places = length-set around depth (rest_of top) ∙ i.places;
            kept = rw p (h, omega (arith, i.room, stack_length none depth around), i.kept);
            to_come = rw (p, q) children;
          })

-- Frames as an edition's reader keeps them

module _ (simple : Bool) (l : Language) (records : Bool) where
  resume_told : (f : Frame) (fs : List Frame) (s : List ℕ)
      → resume (read_in simple l) records (frame f.count f.left (told_in simple records f.stand) ∷ fs) s ≡ resume (read_in simple l) records (f ∷ fs) s
  unfolding resume
  resume_told f fs s =
      ap (λ (t : List ℕ → Parsed Tree). and_then (shown (read_all t f.count s)) (λ n. resume (read_in simple l) records fs (drop n s)))
      (fun_ext (λ x. tree_told simple l records f.left f.stand x))

  pub read_to_told : {s : List ℕ} {around : List Frame} {depth : ℕ} {f : Frame} {rest : List ℕ} → ReadTo (read_in simple l) records s around depth f rest
      → ReadTo (read_in simple l) records s around depth (frame f.count f.left (told_in simple records f.stand)) rest
  read_to_told {s} {around} {depth} {f} {rest} (p, i) = (
    p,
    record {
      within = i.within;
      some = i.some;
      room = i.room;
      places = i.places;
      kept = i.kept;
      to_come = i.to_come ∙ ap (plus (length s - length rest)) (sym (resume_told f (stack none depth around) (drop (length s - length rest) s)));
    },
  )
