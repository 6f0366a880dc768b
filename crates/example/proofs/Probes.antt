-- What the walk over a string's first bytes tells of every record that begins with them.
use Prim.Native.Nat.{ℕ, zero, suc, ◌+◌, ◌-◌, ◌<◌, ◌≤◌}
use mathlib.Core.Path.{◌≡◌, refl, sym, ◌∙◌, ap, subst}
use mathlib.Core.List.{List, [], ◌∷◌}
use mathlib.Core.Bool.{true, false}
use native.Mathlib.Omega.{arith}
use lib.ListN.{length, get_or, take}
use lib.Seq.{take-take}
use Rattle.term.specs.Limits.{TermAccepted}
use Rattle.term.specs.Pattern.{Pattern}
use Rattle.term.specs.Table.{is_list}
use Rattle.term.specs.Term.{Term}
use Rattle.anti_pattern.specs.Language.{Language, Classed}
use Rattle.example.specs.Least.{bytes_in}
use Rattle.example.specs.Odometer.{Skips}
use Rattle.example.proofs.Ranks.{later_byte}
use Rattle.example.proofs.Trails.{Still, Trail, trail_start, trail_room, trail_end, trail_code, trail_low, trail_node, trail_list}
use Rattle.example.proofs.Twins.{Interchange, renamed_passed}

pub take_get : (n : ℕ) (x s : List ℕ) (i : ℕ) → take n x ≡ take n s → i < n → length x ≡ length s → get_or x i 0 ≡ get_or s i 0
take_get zero x s i h l e = absurd (omega arith)
take_get (suc n) [] [] i h l e = refl
take_get (suc n) [] (c ∷ s) i h l e = absurd (omega arith)
take_get (suc n) (b ∷ x) [] i h l e = absurd (omega arith)
take_get (suc n) (b ∷ x) (c ∷ s) zero h l e = cc
take_get (suc n) (b ∷ x) (c ∷ s) (suc i) h l e = take_get n x s i (let z : take n x ≡ take n s = cc in z) (omega arith) (omega arith)

pub take_less : (m n : ℕ) (x s : List ℕ) → m ≤ n → take n x ≡ take n s → take m x ≡ take m s
take_less m n x s l h = sym (take-take m n x l) ∙ ap (take m) h ∙ take-take m n s l

-- every record of as many bytes that begins with the first `at` bytes of s has so many trees to come there
abbrev pub Alive : Language → List ℕ → List ℕ → ℕ → ℕ → Type 0
Alive l s seen at trees =
    (t : Term) → TermAccepted l t → length (bytes_in l t) ≡ length s → take at (bytes_in l t) ≡ take at s → Trail l t seen at trees

pub alive_start : (l : Language) (s seen : List ℕ) → Alive l s seen 0 1
alive_start l s seen t a n e = trail_start l t a seen

module _ (l : Language) (q : Pattern) (allowance : ℕ) (s : List ℕ) where
  module _ (seen : List ℕ) (at trees : ℕ) (h : Alive l s seen at trees) where
    -- the term is over, and bytes are left
    pub dead_over : trees ≡ 0 → at < length s → Skips l q allowance s at
    dead_over z i t a n e later before = absurd (omega (arith, i, n, trail_end l t seen at trees (h t a n e) z))

    module _ (some : 0 < trees) where
      -- what a record of the same first bytes has there
      shares : (k : ℕ) (t : Term) → TermAccepted l t → length (bytes_in l t) ≡ length s → at < k → take k (bytes_in l t) ≡ take k s
          → Trail l t seen at trees × (get_or (bytes_in l t) at 0 ≡ get_or s at 0)
      shares k t a n i e = (h t a n (take_less at k (bytes_in l t) s (omega arith) e), take_get k (bytes_in l t) s at e i n)

      -- no symbol of the table, nor is any later one
      pub dead_code : length l.table ≤ get_or s at 0 → Skips l q allowance s at
      dead_code i t a n e later before =
          absurd (omega (arith, i, (trail_code l t seen at trees (h t a n e) some).1, later_byte at s (bytes_in l t) n e later))

      -- a symbol that a renaming lowers, and none before it
      pub dead_low : Classed l → (f : ℕ → ℕ) → Interchange l q f → Still f seen → f (get_or s at 0) < get_or s at 0 → Skips l q allowance s (at + 1)
      dead_low c f i y z t a n e later before =
          let w = shares (at + 1) t a n (omega arith) e in
          renamed_passed l c q allowance f i t a
          (trail_low l t seen at trees w.0 some f y (subst (λ (b : ℕ). f b < b) (sym w.1) z)) before

      -- once the symbol is seen
      module _ (seen' : List ℕ) (grown : (f : ℕ → ℕ) → Still f seen' → Still f seen × (f (get_or s at 0) ≡ get_or s at 0)) where
        grows : (t : Term) → get_or (bytes_in l t) at 0 ≡ get_or s at 0 → (f : ℕ → ℕ) → Still f seen' → Still f seen × (f (get_or (bytes_in l t) at 0) ≡ get_or (bytes_in l t) at 0)
        grows t e f y = ((grown f y).0, subst (λ (b : ℕ). f b ≡ b) (sym e) (grown f y).1)

        pub alive_node : is_list l.table (get_or s at 0) ≡ false → Alive l s seen' (at + 1) (trees - 1 + get_or l.table (get_or s at 0) 0)
        alive_node i t a n e =
            let w = shares (at + 1) t a n (omega arith) e in
            subst (λ (b : ℕ). Trail l t seen' (at + 1) (trees - 1 + get_or l.table b 0)) w.1
            (trail_node l t seen at trees w.0 some seen' (grows t w.1) (ap (is_list l.table) w.1 ∙ i))

        -- a node that has more children than bytes are left
        pub dead_node : is_list l.table (get_or s at 0) ≡ false → length s - (at + 1) < trees - 1 + get_or l.table (get_or s at 0) 0
            → Skips l q allowance s (at + 1)
        dead_node i j t a n e later before =
            absurd (omega (arith, j, n, trail_room l t seen' (at + 1) (trees - 1 + get_or l.table (get_or s at 0) 0) (alive_node i t a n e)))

        module _ (i : is_list l.table (get_or s at 0) ≡ true) where
          listed : (k : ℕ) (t : Term) → TermAccepted l t → length (bytes_in l t) ≡ length s → at < k → take k (bytes_in l t) ≡ take k s
              → (at + 1 < length (bytes_in l t)) × Trail l t seen' (at + 2) (trees - 1 + get_or (bytes_in l t) (at + 1) 0)
          listed k t a n j e =
              let w = shares k t a n j e in
              trail_list l t seen at trees w.0 some seen' (grows t w.1) (ap (is_list l.table) w.1 ∙ i)

          -- a list at the last byte
          pub dead_list : length s ≤ at + 1 → Skips l q allowance s (at + 1)
          dead_list j t a n e later before = absurd (omega (arith, j, n, (listed (at + 1) t a n (omega arith) e).0))

          -- a number of children for which no bytes are left, nor are for any larger
          pub dead_number : length s - (at + 2) < trees - 1 + get_or s (at + 1) 0 → Skips l q allowance s (at + 1)
          dead_number j t a n e later before =
              let w = listed (at + 1) t a n (omega arith) e in
              absurd (omega (
                arith,
                j,
                n,
                w.0,
                later_byte (at + 1) s (bytes_in l t) n e later,
                trail_room l t seen' (at + 2) (trees - 1 + get_or (bytes_in l t) (at + 1) 0) w.1,
              ))

          pub alive_list : Alive l s seen' (at + 2) (trees - 1 + get_or s (at + 1) 0)
          alive_list t a n e =
              subst (λ (b : ℕ). Trail l t seen' (at + 2) (trees - 1 + b)) (take_get (at + 2) (bytes_in l t) s (at + 1) e (omega arith) n)
              (listed (at + 2) t a n (omega arith) e).1
