-- The terms of a part put one by one, each as a child of what stands around.
use Prim.Native.Nat.{ℕ, ◌+◌, ◌-◌, ◌*◌, ◌≤◌, ◌<◌}
use native.Mathlib.Omega.{arith}
use mathlib.Core.Path.{◌≡◌, refl, sym, ap, ap₂, subst, ◌∙◌}
use mathlib.Core.List.{List, [], ◌∷◌}
use mathlib.Core.Bool.{Bool, true, false, cond, ◌&&◌, and-false, false≢true}
use lib.ListN.{length, get_or, take, drop, length-take}
use lib.Seq.{sets}
use Rattle.term.specs.Extent.{extent_of}
use Rattle.term.specs.Limits.{FitAll, Fits}
use Rattle.term.specs.Table.{is_list}
use Rattle.term.specs.Term.{Terms, node, nil, ◌::◌, ◌⧺◌, single, count, sizes, term_trees, term_bytes, terms_bytes}
use Rattle.term.specs.Tree.{number, list_code, own, encode}
use Rattle.term.specs.Code.{byte_of}
use Rattle.term.proofs.Joins.{bytes_join, sizes_join}
use Rattle.term.proofs.Lists.{front}
use Rattle.term.proofs.Sizes.{number_terms, terms_sizes, encodes_append}
use Rattle.term.proofs.Stores.{sets_append}
use Rattle.anti_pattern.proofs.Facts.{join_nil, count_join}
use Rattle.replace.specs.Filling.{longest_part, Run, ChildrenOf, TellsStored, PlacedBytes, placed_terms, part_in, PutsEach, Puts, filled, filled_to, FilledWithin}
use Rattle.replace.specs.Growth.{nest_all}
use Rattle.term.specs.Splicing.{same_list}
use Rattle.replace.specs.Splice.{placed_all}
use Rattle.replace.specs.declared.Filled.{Filled}
use Rattle.replace.proofs.Fillings.{nest_join, within_more}
use Rattle.replace.proofs.Limits.{and_both}
use Rattle.replace.proofs.Parts.{Left, First, whole_left, none_behind, first_left}
use Rattle.std.specs.Prelude.{Option, Some, None}

join_join : (us ts rs : Terms) → (us ⧺ ts) ⧺ rs ≡ us ⧺ (ts ⧺ rs)
join_join nil ts rs = refl
join_join (u :: us) ts rs = ap (u ::◌) (join_join us ts rs)

-- what is direct is a list
direct_some : (around o : Option ℕ) → same_list around o ≡ true → (c : ℕ) × (o ≡ Some c)
direct_some None o h = absurd (false≢true h)
direct_some (Some a) None h = absurd (false≢true h)
direct_some (Some a) (Some c) h = (c, refl)

module _ (table : List ℕ) (listed : ℕ → Option ℕ) (lists : (s c : ℕ) → listed s ≡ Some c → is_list table s ≡ true) (around : Option ℕ)
    (part : List ℕ) (left at : ℕ) (out₀ : List ℕ) where
  abbrev all : Terms → Terms
  all ts = placed_all listed around ts nil

  -- ws is put, and rs are still to come
  pub record Done (ts : Terms) (out : List ℕ) (used put elements : ℕ) : Type 0 where
    pub ws : Terms
    pub rs : Terms
    pub behind : Left table part used rs
    pub made : all ts ≡ ws ⧺ all rs
    pub fit : nest_all left ws ≡ true
    pub long : put ≡ sizes table ws
    pub many : elements ≡ count ws
    pub stored : out ≡ sets out₀ at (terms_bytes table ws [])

  pub record Placing (out : List ℕ) (used put elements : ℕ) : Type 0 where
    pub within : used ≤ length part
    pub less : put ≤ used
    pub few : elements ≤ 255 * used
    pub kept : length out ≡ length out₀
    pub done : (ts : Terms) → Run table part ts → Done ts out used put elements

  pub place_first : Placing out₀ 0 0 0
  unfolding encode sizes
  place_first = record {
    within = omega arith;
    less = omega arith;
    few = omega arith;
    kept = refl;
    done = λ ts r. record { ws = nil; rs = ts; behind = whole_left table part ts r; made = refl; fit = refl; long = refl; many = refl; stored = refl };
  }

  pub place_last : (out : List ℕ) (used put elements : ℕ) → length part ≤ used → Placing out used put elements
      → PutsEach table listed around part left at out₀ (Some (filled put elements)) out × FilledWithin (length part) (Some (filled put elements))
  unfolding PutsEach
  place_last out used put elements l p = (
    λ ts r.
        let d = p.done ts r in
        let e : all ts ≡ d.ws = d.made ∙ ap (λ (y : Terms). d.ws ⧺ all y) (none_behind table part used d.rs l d.behind) ∙ join_nil d.ws in
        rw e (
          ap₂ (λ (i j : ℕ). Some (filled i j)) d.long d.many ∙ ap (λ (b : Bool). filled_to b (sizes table d.ws) (count d.ws)) (sym d.fit),
          λ h. d.stored,
        ),
    (omega (arith, p.less, p.within), omega (arith, p.few, p.within)),
  )

  module _ (out : List ℕ) (used put elements : ℕ) (more : used < length part) (p : Placing out used put elements) (n : ℕ)
      (en : n ≡ extent_of table (take (length part - used) (drop used part))) (direct : Bool) (di : direct ≡ same_list around (listed (get_or part used 0)))
      (t s : List ℕ) (it : t ≡ take (used + n - used) (drop used part)) (ps : PlacedBytes table direct t s)
      (b : Bool) (after : List ℕ) (st : TellsStored table s left (at + put) out b after) where
    -- the term that comes next, as it is placed
    record Next (rs : Terms) : Type 0 where
      us : Terms
      others : Terms
      splits : all rs ≡ us ⧺ all others
      run : Run table s us
      terms : placed_terms direct t ≡ count us
      onward : Left table part (used + n) others

    tree_is : (rs : Terms) (f : First table part used n rs) → t ≡ term_bytes table (node f.sym_of f.kids) []
    tree_is rs f = let z : used + n - used ≡ n = omega arith in it ∙ ap (λ (k : ℕ). take k (drop used part)) z ∙ f.tree

    byte_is : (rs : Terms) (f : First table part used n rs) (h : Left table part used rs) → get_or part used 0 ≡ f.sym_of
    unfolding encode own byte_of
    byte_is rs f h = (front part used f.sym_of _ (h.stands ∙ ap (λ (y : Terms). terms_bytes table y []) f.is)).1

    direct_next : (rs : Terms) (f : First table part used n rs) → same_list around (listed f.sym_of) ≡ true → direct ≡ true → Next rs
    unfolding PlacedBytes ChildrenOf encode own byte_of list_code
    direct_next rs f d e =
        let c = direct_some around (listed f.sym_of) d in
        let i : is_list table f.sym_of ≡ true = lists f.sym_of c.0 c.1 in
        let q : ChildrenOf table t s = subst (λ (y : Bool). PlacedBytes table y t s) e ps in
        let w : s ≡ terms_bytes table f.kids [] = q f.sym_of (term_trees f.kids) f.in_table (tree_is rs f) in
        let g : t ≡ f.sym_of ∷ number (term_trees f.kids) ∷ terms_bytes table f.kids [] =
        tree_is rs f ∙ ap (λ (y : Bool). f.sym_of ∷ cond y (number (term_trees f.kids) ∷ terms_bytes table f.kids []) (terms_bytes table f.kids [])) i in
        record {
          us = f.kids;
          others = f.others;
          splits = ap all f.is ∙ ap (λ (y : Bool). cond y (f.kids ⧺ all f.others) (node f.sym_of f.kids :: all f.others)) d;
          run = subst (λ (y : List ℕ). Run table y f.kids) (sym w) f.inside;
          terms = ap (λ (y : Bool). placed_terms y t) e ∙ ap (λ (y : List ℕ). get_or y 1 0) g ∙ number_terms f.kids;
          onward = f.onward;
        }

    whole_next : (rs : Terms) (f : First table part used n rs) (h : Left table part used rs) → same_list around (listed f.sym_of) ≡ false → direct ≡ false → Next rs
    unfolding PlacedBytes encode Fits
    whole_next rs f h d e =
        let q : s ≡ t = subst (λ (y : Bool). PlacedBytes table y t s) e ps in
        let k = subst (λ (y : Terms). FitAll table true (term_trees y) h.left h.in_list) f.is h.fits in
        record {
          us = single (node f.sym_of f.kids);
          others = f.others;
          splits = ap all f.is ∙ ap (λ (y : Bool). cond y (f.kids ⧺ all f.others) (node f.sym_of f.kids :: all f.others)) d;
          run = record { small = h.small; left = h.left; in_list = h.in_list; bytes = q ∙ tree_is rs f; fits = (k.0, tt) };
          terms = ap (λ (y : Bool). placed_terms y t) e;
          onward = f.onward;
        }

    next : (rs : Terms) → Left table part used rs → Next rs
    next rs h =
        let f = first_left table part used n rs more en h in
        let z : direct ≡ same_list around (listed f.sym_of) = di ∙ ap (λ (x : ℕ). same_list around (listed x)) (byte_is rs f h) in
        go f (same_list around (listed f.sym_of)) refl z
      where
        go : (f : First table part used n rs) (y : Bool) → same_list around (listed f.sym_of) ≡ y → direct ≡ same_list around (listed f.sym_of) → Next rs
        go f true d z = direct_next rs f d (z ∙ d)
        go f false d z = whole_next rs f h d (z ∙ d)

    pub place_unfit : b ≡ false → PutsEach table listed around part left at out₀ None after × FilledWithin (length part) None
    unfolding PutsEach TellsStored
    place_unfit e = (
      λ ts r.
          let d = p.done ts r in
          let x = next d.rs d.behind in
          let f : nest_all left x.us ≡ false = sym (st x.us x.run).0 ∙ e in
          let z : nest_all left (all ts) ≡ false =
          ap (nest_all left) (d.made ∙ ap (d.ws ⧺◌) x.splits) ∙ nest_join left d.ws (x.us ⧺ all x.others)
          ∙ ap (λ (y : Bool). nest_all left d.ws && y) (nest_join left x.us (all x.others) ∙ ap (λ (y : Bool). y && nest_all left (all x.others)) f)
          ∙ and-false (nest_all left d.ws) in
          (ap (λ (y : Bool). filled_to y (sizes table (all ts)) (count (all ts))) (sym z), λ h. absurd (false≢true (sym z ∙ h))),
      tt,
    )

    pub place_next : (k : ℕ) → b ≡ true → k ≡ placed_terms direct t → k ≤ 255 → 0 < n → used + n ≤ length part → length s ≤ length t → length after ≡ length out
        → Placing after (used + n) (put + length s) (elements + k)
    unfolding TellsStored
    place_next k e ke low pos fits small same = record {
      within = fits;
      less = omega (arith, p.less, ap length it, length-take (used + n - used) (drop used part));
      few = omega (arith, p.few);
      kept = same ∙ p.kept;
      done = λ ts r.
          let d = p.done ts r in
          let x = next d.rs d.behind in
          let f : nest_all left x.us ≡ true = sym (st x.us x.run).0 ∙ e in
          let g : after ≡ sets out (at + put) s = (st x.us x.run).1 f in
          let z : at + put ≡ at + length (terms_bytes table d.ws []) = ap (λ (i : ℕ). at + i) (d.long ∙ sym (terms_sizes table d.ws)) in
          let m : length s ≡ sizes table x.us = ap length x.run.bytes ∙ terms_sizes table x.us in
          record {
            ws = d.ws ⧺ x.us;
            rs = x.others;
            behind = x.onward;
            made = d.made ∙ ap (d.ws ⧺◌) x.splits ∙ sym (join_join d.ws x.us (all x.others));
            fit = nest_join left d.ws x.us ∙ and_both (nest_all left d.ws) (nest_all left x.us) d.fit f;
            long = ap₂ ◌+◌ d.long m ∙ sym (sizes_join table d.ws x.us);
            many = ap₂ ◌+◌ d.many (ke ∙ x.terms) ∙ sym (count_join d.ws x.us);
            stored =
                g ∙ ap₂ (λ (o : List ℕ) (i : ℕ). sets o i s) d.stored z
                ∙ ap (sets (sets out₀ at (terms_bytes table d.ws [])) (at + length (terms_bytes table d.ws []))) x.run.bytes
                ∙ sym
                (ap (sets out₀ at) (bytes_join table d.ws x.us [] ∙ encodes_append table _ [] (terms_bytes table x.us []))
                ∙ sets_append out₀ at (terms_bytes table d.ws []) (terms_bytes table x.us []));
          };
    }

-- the part of a variable
pub each_part : (table bytes answer : List ℕ) (listed : ℕ → Option ℕ) (around : Option ℕ) (v left at : ℕ) (out part : List ℕ) → part ≡ part_in bytes answer v → length part ≤ longest_part
    → (r : Option Filled) (after : List ℕ) → PutsEach table listed around part left at out r after × FilledWithin (length part) r
    → Puts table listed around bytes answer v left at out r after × FilledWithin longest_part r
unfolding PutsEach Puts
each_part table bytes answer listed around v left at out part is short r after f =
    (λ ts x n. f.0 ts (subst (λ (y : List ℕ). Run table y ts) (sym is) x), within_more r (length part) longest_part short f.1)
