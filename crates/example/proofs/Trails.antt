-- A record from a place on: the terms that are still to come, and the symbols that have come.
use Prim.Native.Nat.{ℕ, suc, ◌+◌, ◌-◌, ◌<◌, ◌≤◌}
use mathlib.Core.Path.{◌≡◌, refl, sym, ◌∙◌, ap, subst}
use mathlib.Core.List.{List, [], ◌∷◌}
use mathlib.Core.Bool.{Bool, true, false, cond}
use native.Mathlib.Omega.{arith}
use lib.ListN.{length, get_or, drop, length-drop}
use Rattle.term.specs.Limits.{TermAccepted}
use Rattle.term.specs.Table.{is_list}
use Rattle.term.specs.Term.{Term, node, Terms, nil, ◌::◌, ◌⧺◌, count, single, size, sizes, terms_bytes}
use Rattle.term.specs.Tree.{encode}
use Rattle.term.proofs.Joins.{bytes_join}
use Rattle.term.proofs.Lists.{front, past_front}
use Rattle.term.proofs.Sizes.{node_bytes, terms_sizes}
use Rattle.anti_pattern.specs.Language.{Language, OverAll}
use Rattle.anti_pattern.proofs.Facts.{count_join}
use Rattle.anti_pattern.proofs.Within.{accepted_of}
use Rattle.example.specs.Least.{bytes_in}
use Rattle.example.proofs.Leads.{Lead, still, lowered, raised, or_lead, lead, leads, lead_past, lead_low}

pub of_join : (l : Language) (ts us : Terms) → OverAll l.table ts → OverAll l.table us → OverAll l.table (ts ⧺ us)
of_join l nil us h k = k
of_join l (t :: ts) us h k = (h.0, of_join l ts us h.1 k)

-- what was seen stays under a renaming
abbrev pub Still : (ℕ → ℕ) → List ℕ → Type 0
Still f seen = (s : ℕ) → get_or seen s 0 ≡ 1 → f s ≡ s

module _ (l : Language) (t : Term) where
  -- from a place on, the record's bytes are those of so many terms; as long as the symbols seen stay, these lead
  pub record Trail (seen : List ℕ) (at trees : ℕ) : Type 0 where
    pub terms : Terms
    pub rest : drop at (bytes_in l t) ≡ terms_bytes l.table terms []
    pub many : count terms ≡ trees
    pub of : OverAll l.table terms
    pub led : (f : ℕ → ℕ) → Still f seen → lead f t ≡ leads f terms

  or_still : (x : Lead) → x ≡ or_lead x still
  or_still still = refl
  or_still lowered = refl
  or_still raised = refl

  pub trail_start : TermAccepted l t → (seen : List ℕ) → Trail seen 0 1
  unfolding encode
  trail_start a seen = record { terms = single t; rest = refl; many = refl; of = ((accepted_of l t a).0, tt); led = λ f h. or_still (lead f t) }

  some_size : (t : Term) → 0 < size l.table t
  unfolding size
  some_size (node s ts) = go (is_list l.table s)
    where
      go : (m : Bool) → 0 < cond m 2 1 + sizes l.table ts
      go true = omega arith
      go false = omega arith

  room : (ts : Terms) → count ts ≤ sizes l.table ts
  unfolding size
  room nil = omega arith
  room (t :: ts) = omega (arith, some_size t, room ts)

  module _ (seen : List ℕ) (at trees : ℕ) (h : Trail seen at trees) where
    -- each tree still to come takes a byte at least
    pub trail_room : trees ≤ length (bytes_in l t) - at
    trail_room =
        let i : length (drop at (bytes_in l t)) ≡ sizes l.table h.terms = ap length h.rest ∙ terms_sizes l.table h.terms in
        omega (arith, i, length-drop at (bytes_in l t), room h.terms, h.many)

    -- with none to come the bytes are over
    pub trail_end : trees ≡ 0 → length (bytes_in l t) ≤ at
    unfolding encode
    trail_end z = go h.terms h.rest (h.many ∙ z)
      where
        go : (ts : Terms) → drop at (bytes_in l t) ≡ terms_bytes l.table ts [] → count ts ≡ 0 → length (bytes_in l t) ≤ at
        go nil r m = let i : length (drop at (bytes_in l t)) ≡ 0 = ap length r in omega (arith, i, length-drop at (bytes_in l t))
        go (u :: ts) r m = absurd (omega arith)

    abbrev byte : ℕ
    byte = get_or (bytes_in l t) at 0

    abbrev behind : ℕ → Terms → Terms → List ℕ
    behind s us ts = cond (is_list l.table s) (count us ∷ terms_bytes l.table (us ⧺ ts) []) (terms_bytes l.table (us ⧺ ts) [])

    -- the next tree: its node, and its children in front of the others
    data Next : Type 0 where
      next : (us ts : Terms) → at < length (bytes_in l t) → drop at (bytes_in l t) ≡ byte ∷ behind byte us ts
          → suc (count ts) ≡ trees → byte < length l.table → (is_list l.table byte ≡ false → count us ≡ get_or l.table byte 0) → OverAll l.table (us ⧺ ts)
          → ((f : ℕ → ℕ) → Still f seen → lead f t ≡ leads f (node byte us :: ts)) → Next

    trail_next : 0 < trees → Next
    unfolding encode
    trail_next some = go h.terms h.rest h.many h.of h.led
      where
        by : (s : ℕ) (us ts : Terms) → byte ≡ s → at < length (bytes_in l t) → drop at (bytes_in l t) ≡ s ∷ behind s us ts → suc (count ts) ≡ trees
            → s < length l.table → (is_list l.table s ≡ false → count us ≡ get_or l.table s 0) → OverAll l.table (us ⧺ ts)
            → ((f : ℕ → ℕ) → Still f seen → lead f t ≡ leads f (node s us :: ts)) → Next
        by s us ts e i r m n k o d =
            next us ts i (subst (λ (x : ℕ). drop at (bytes_in l t) ≡ x ∷ behind x us ts) (sym e) r) m (subst (λ (x : ℕ). x < length l.table) (sym e) n)
            (subst (λ (x : ℕ). is_list l.table x ≡ false → count us ≡ get_or l.table x 0) (sym e) k) o
            (λ f y. d f y ∙ ap (λ (x : ℕ). leads f (node x us :: ts)) (sym e))

        go : (ts : Terms) → drop at (bytes_in l t) ≡ terms_bytes l.table ts [] → count ts ≡ trees → OverAll l.table ts
            → ((f : ℕ → ℕ) → Still f seen → lead f t ≡ leads f ts) → Next
        go nil r m o d = absurd (omega arith)
        go (node s us :: ts) r m o d =
            let z : drop at (bytes_in l t) ≡ s ∷ behind s us ts =
            r ∙ node_bytes l.table s us (terms_bytes l.table ts [])
            ∙ ap (λ (b : List ℕ). s ∷ cond (is_list l.table s) (count us ∷ b) b) (sym (bytes_join l.table us ts [])) in
            let e = front (bytes_in l t) at s (behind s us ts) z in
            by s us ts e.1 e.0 z m o.0.0 o.0.1 (of_join l us ts o.0.2 o.1) d

    module _ (some : 0 < trees) where
      -- there is a symbol of the table
      pub trail_code : (at < length (bytes_in l t)) × (byte < length l.table)
      trail_code = go (trail_next some)
        where
          go : Next → (at < length (bytes_in l t)) × (byte < length l.table)
          go (next us ts i r m n k o d) = (i, n)

      -- a renaming that lowers it and none before it
      pub trail_low : (f : ℕ → ℕ) → Still f seen → f byte < byte → lead f t ≡ lowered
      trail_low f y z = go (trail_next some)
        where
          go : Next → lead f t ≡ lowered
          go (next us ts i r m n k o d) = d f y ∙ lead_low f byte us ts z

      -- once it is seen
      module _ (seen' : List ℕ) (grown : (f : ℕ → ℕ) → Still f seen' → Still f seen × (f byte ≡ byte)) where
        past : (us ts : Terms) → ((f : ℕ → ℕ) → Still f seen → lead f t ≡ leads f (node byte us :: ts)) → (f : ℕ → ℕ) → Still f seen' → lead f t ≡ leads f (us ⧺ ts)
        past us ts d f y = d f (grown f y).0 ∙ lead_past f byte us ts (grown f y).1

        -- a node of a fixed number of children
        pub trail_node : is_list l.table byte ≡ false → Trail seen' (at + 1) (trees - 1 + get_or l.table byte 0)
        trail_node e = go (trail_next some)
          where
            go : Next → Trail seen' (at + 1) (trees - 1 + get_or l.table byte 0)
            go (next us ts i r m n k o d) = record {
              terms = us ⧺ ts;
              rest = past_front (bytes_in l t) at 1 (byte ∷ []) (terms_bytes l.table (us ⧺ ts) [])
                  (r ∙ ap (λ (x : Bool). byte ∷ cond x (count us ∷ terms_bytes l.table (us ⧺ ts) []) (terms_bytes l.table (us ⧺ ts) [])) e) refl;
              many = count_join us ts ∙ omega (arith, k e, m);
              of = o;
              led = past us ts d;
            }

        -- a list: its number of children follows
        pub trail_list : is_list l.table byte ≡ true
            → (at + 1 < length (bytes_in l t)) × Trail seen' (at + 2) (trees - 1 + get_or (bytes_in l t) (at + 1) 0)
        trail_list e = go (trail_next some)
          where
            go : Next → (at + 1 < length (bytes_in l t)) × Trail seen' (at + 2) (trees - 1 + get_or (bytes_in l t) (at + 1) 0)
            go (next us ts i r m n k o d) =
                let w : drop at (bytes_in l t) ≡ byte ∷ (count us ∷ terms_bytes l.table (us ⧺ ts) []) =
                r ∙ ap (λ (x : Bool). byte ∷ cond x (count us ∷ terms_bytes l.table (us ⧺ ts) []) (terms_bytes l.table (us ⧺ ts) [])) e in
                let z : drop (at + 1) (bytes_in l t) ≡ count us ∷ terms_bytes l.table (us ⧺ ts) [] =
                past_front (bytes_in l t) at 1 (byte ∷ []) (count us ∷ terms_bytes l.table (us ⧺ ts) []) w refl in
                let x = front (bytes_in l t) (at + 1) (count us) (terms_bytes l.table (us ⧺ ts) []) z in (
                  x.0,
                  record {
                    terms = us ⧺ ts;
                    rest = past_front (bytes_in l t) at 2 (byte ∷ count us ∷ []) (terms_bytes l.table (us ⧺ ts) []) w refl;
                    many = count_join us ts ∙ omega (arith, x.1, m);
                    of = o;
                    led = past us ts d;
                  },
                )
