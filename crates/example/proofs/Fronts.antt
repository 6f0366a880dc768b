-- Pattern and record gone down together by first children: where they first are of unlike classes, the search fails with that pair.
use Prim.Native.Nat.{ℕ, zero, suc, ◌+◌, ◌-◌, ◌<◌, ◌≤◌}
use mathlib.Core.Path.{◌≡◌, refl, sym, ◌∙◌, ap, subst}
use mathlib.Core.List.{List, [], ◌∷◌}
use mathlib.Core.Logic.{inl, inr}
use mathlib.Core.Bool.{Bool, true, false, cond}
use native.Mathlib.Omega.{arith}
use lib.Dec.{eqb}
use lib.ListN.{length, get_or, take, drop}
use borrow.Author.Tests.{eqb-true, eqb-false, eq-eqb, ne_eqb}
use Rattle.term.specs.Class.{class_of, Alike}
use Rattle.term.specs.Code.{byte_of}
use Rattle.term.specs.Limits.{Counted, Shape, Fits, FitAll, TermAccepted, below_of, nesting}
use Rattle.term.specs.Pattern.{Pattern, name, symbol, complement, Children, end, plain, run, pattern_bytes, pattern_tree, child_trees}
use Rattle.term.specs.Table.{is_list, list}
use Rattle.term.specs.Term.{Term, node, Terms, nil, ◌::◌, ◌⧺◌, count, single, terms_bytes}
use Rattle.term.specs.Tree.{list_code, own, encode}
use Rattle.term.specs.declared.Code.TheVariants.{Symbol}
use Rattle.term.proofs.Joins.{bytes_join}
use Rattle.term.proofs.Lists.{front, past_front}
use Rattle.term.proofs.Sizes.{arity, number_children, children_bytes, node_bytes, symbol_bytes}
use Rattle.term.specs.declared.Edition.{Edition}
use Rattle.anti_pattern.specs.Language.{Language, language, OverAll}
use Rattle.anti_pattern.specs.Search.{Env, start, finish, Result, failed, first_answer, counted, Deferred, Continuation, freely, search}
use Rattle.anti_pattern.proofs.Demands.{search_decides}
use Rattle.anti_pattern.proofs.Facts.{head_same}
use Rattle.anti_pattern.proofs.Within.{accepted_of}
use Rattle.example.specs.Inner.{Rule, DownBy, FrontAt, TriesNext}
use Rattle.example.specs.Odometer.{Skips}
use Rattle.std.specs.Prelude.{Some, Ok}
use Rattle.example.proofs.Probes.{take_get, take_less}
use Rattle.example.proofs.Twins.{classed_alike}
use Rattle.example.specs.Least.{bytes_in, Passed}
use Rattle.example.proofs.Trails.{of_join}

-- the pairs of roots, first children and so on: the first n - 1 are of like classes, and then two are unlike
pub data Clash (classes : List ℕ) : Pattern → Term → ℕ → Type 0 where
  unlike : {p r : ℕ} {qs : Children} {ts : Terms} → (class_of classes p ≡ class_of classes r → ⊥) → Clash classes (symbol p qs) (node r ts) 1
  below : {p r : ℕ} {q : Pattern} {qs : Children} {t : Term} {ts : Terms} {n : ℕ} → class_of classes p ≡ class_of classes r → Clash classes q t n
      → Clash classes (symbol p (plain q qs)) (node r (t :: ts)) (1 + n)

clash_search : (table classes : List ℕ) {q : Pattern} {t : Term} {n : ℕ} → Clash classes q t n → (at : ℕ) (e : Env) (put : List Deferred) (k : Continuation)
    → search table classes freely q t at e put k ≡ record { out = failed; cost = n }
unfolding search
clash_search table classes (unlike {p} {r} d) at e put k = rw (ne_eqb (class_of classes p) (class_of classes r) d)
clash_search table classes (below {p} {r} i c) at e put k = rw (eq-eqb (class_of classes p) (class_of classes r) i) (ap counted (clash_search table classes c _ e put _))

pub clash_passed : (l : Language) → Alike l.table l.classes → (q : Pattern) (t : Term) (n allowance : ℕ) → TermAccepted l t → Clash l.classes q t n → n ≤ allowance
    → Passed l q allowance t
clash_passed l k q t n allowance a c h =
    let w = clash_search l.table l.classes c zero start [] finish in (
      omega (arith, ap (λ (r : Result). r.cost) w, h),
      (search_decides l k q t (accepted_of l t a)).failed_none (ap (λ (r : Result). first_answer r.out) w),
    )

module _ (l : Language) (pattern : List ℕ) (q : Pattern) (t : Term) where
  abbrev bytes : List ℕ
  bytes = bytes_in l t

  -- after n pairs of like classes: the child patterns from i on, the terms from `at` on; where their first ones clash, pattern and record do
  pub record Fronts (i at n : ℕ) : Type 0 where
    pub children : Children
    pub others : List ℕ
    pub deep : ℕ
    pub in_list : Bool
    pub terms : Terms
    pub pattern_rest : drop i pattern ≡ children_bytes l.table children others
    pub record_rest : drop at bytes ≡ terms_bytes l.table terms []
    pub some_children : 1 ≤ arity children
    pub some_terms : 1 ≤ count terms
    pub fit : FitAll l.table false (child_trees children) deep in_list
    pub of : OverAll l.table terms
    pub clashes : (q' : Pattern) (qs : Children) (u : Term) (ts : Terms) (m : ℕ) → children ≡ plain q' qs → terms ≡ u :: ts → Clash l.classes q' u m → Clash l.classes q t (n + m)

  pub fronts_start : Rule l pattern q → TermAccepted l t → Fronts 0 0 0
  unfolding encode Fits
  fronts_start r a = record {
    children = plain q end;
    others = [];
    deep = nesting;
    in_list = false;
    terms = single t;
    pattern_rest = sym r.pattern_bytes_holds;
    record_rest = refl;
    some_children = omega arith;
    some_terms = omega arith;
    fit = fit_one r.pattern_accepted.fits;
    of = ((accepted_of l t a).0, tt);
    clashes = λ q' qs u ts m i j c. first q' qs u ts m i j c;
  }
    where
      fit_one : Fits l.table false (pattern_tree q) nesting false → FitAll l.table false (child_trees (plain q end)) nesting false
      fit_one h = (h, tt)

      first : (q' : Pattern) (qs : Children) (u : Term) (ts : Terms) (m : ℕ) → plain q end ≡ plain q' qs → single t ≡ u :: ts → Clash l.classes q' u m → Clash l.classes q t (0 + m)
      first q' qs u ts m i j c =
          let x : q' ≡ q = cc in let y : u ≡ t = sym (head_same j) in
          let z : m ≡ 0 + m = omega arith in
          subst (Clash l.classes q t) z (subst (λ (v : Pattern). Clash l.classes v t m) x (subst (λ (v : Term). Clash l.classes q' v m) y c))

  module _ (i at n : ℕ) where
    abbrev P : ℕ
    P = get_or pattern i 0

    abbrev R : ℕ
    R = get_or bytes at 0

    data View : Type 0 where
      view : (qs : Children) (us ts : Terms) (rest : List ℕ) (deep : ℕ) (in_list : Bool)
          → drop i pattern ≡ P ∷ cond (is_list l.table P) (arity qs ∷ children_bytes l.table qs rest) (children_bytes l.table qs rest)
          → drop at bytes ≡ R ∷ cond (is_list l.table R) (count us ∷ terms_bytes l.table (us ⧺ ts) []) (terms_bytes l.table (us ⧺ ts) [])
          → Counted (is_list l.table P) (arity qs) (get_or l.table P 0) → FitAll l.table false (child_trees qs) deep in_list
          → (is_list l.table R ≡ false → count us ≡ get_or l.table R 0) → OverAll l.table (us ⧺ ts)
          → ((m : ℕ) → Clash l.classes (symbol P qs) (node R us) m → Clash l.classes q t (n + m)) → View

    viewed : Fronts i at n → P < 200 → View
    unfolding encode own byte_of Fits Shape list_code
    viewed h low = go h.children h.terms h.pattern_rest h.record_rest h.some_children h.some_terms h.fit h.of h.clashes
      where
        by : (p r : ℕ) (qs : Children) (us ts : Terms) (rest : List ℕ) (deep : ℕ) (in_list : Bool) → P ≡ p → R ≡ r
            → drop i pattern ≡ p ∷ cond (is_list l.table p) (arity qs ∷ children_bytes l.table qs rest) (children_bytes l.table qs rest)
            → drop at bytes ≡ r ∷ cond (is_list l.table r) (count us ∷ terms_bytes l.table (us ⧺ ts) []) (terms_bytes l.table (us ⧺ ts) [])
            → Counted (is_list l.table p) (arity qs) (get_or l.table p 0) → FitAll l.table false (child_trees qs) deep in_list
            → (is_list l.table r ≡ false → count us ≡ get_or l.table r 0) → OverAll l.table (us ⧺ ts)
            → ((m : ℕ) → Clash l.classes (symbol p qs) (node r us) m → Clash l.classes q t (n + m)) → View
        by p r qs us ts rest deep in_list e d x y c f o g k =
            view qs us ts rest deep in_list
            (subst (λ (z : ℕ). drop i pattern ≡ z ∷ cond (is_list l.table z) (arity qs ∷ children_bytes l.table qs rest) (children_bytes l.table qs rest)) (sym e) x)
            (subst (λ (z : ℕ). drop at bytes ≡ z ∷ cond (is_list l.table z) (count us ∷ terms_bytes l.table (us ⧺ ts) []) (terms_bytes l.table (us ⧺ ts) [])) (sym d) y)
            (subst (λ (z : ℕ). Counted (is_list l.table z) (arity qs) (get_or l.table z 0)) (sym e) c) f
            (subst (λ (z : ℕ). is_list l.table z ≡ false → count us ≡ get_or l.table z 0) (sym d) o) g
            (λ m w. k m (subst (λ (z : ℕ). Clash l.classes (symbol z qs) (node r us) m) e (subst (λ (z : ℕ). Clash l.classes (symbol P qs) (node z us) m) d w)))

        high : (b : ℕ) (bs : List ℕ) → drop i pattern ≡ b ∷ bs → 200 ≤ b → ⊥
        high b bs e k = omega (arith, low, (front pattern i b bs e).1, k)

        go : (qs : Children) (ts : Terms) → drop i pattern ≡ children_bytes l.table qs h.others → drop at bytes ≡ terms_bytes l.table ts [] → 1 ≤ arity qs → 1 ≤ count ts
            → FitAll l.table false (child_trees qs) h.deep h.in_list → OverAll l.table ts
            → ((q' : Pattern) (rs : Children) (u : Term) (us : Terms) (m : ℕ) → qs ≡ plain q' rs → ts ≡ u :: us → Clash l.classes q' u m → Clash l.classes q t (n + m)) → View
        go end ts x y a b f o k = absurd (omega arith)
        go (plain q' qs) nil x y a b f o k = absurd (omega arith)
        go (run v qs) ts x y a b f o k = absurd (high (200 + v) (children_bytes l.table qs h.others) x (omega arith))
        go (plain (name v) qs) (u :: ts) x y a b f o k = absurd (high (200 + v) (children_bytes l.table qs h.others) x (omega arith))
        go (plain (complement q') qs) (u :: ts) x y a b f o k = absurd (high 248 (pattern_bytes l.table q' (children_bytes l.table qs h.others)) x (omega arith))
        go (plain (symbol p qs) rs) (node r us :: ts) x y a b f o k =
            let z = x ∙ symbol_bytes l.table p qs (children_bytes l.table rs h.others) in
            let w = y ∙ node_bytes l.table r us (terms_bytes l.table ts [])
            ∙ ap (λ (c : List ℕ). r ∷ cond (is_list l.table r) (count us ∷ c) c) (sym (bytes_join l.table us ts [])) in
            by p r qs us ts (children_bytes l.table rs h.others) (below_of (Symbol p) h.deep) (list_code l.table (Symbol p)) (front pattern i p _ z).1 (front bytes at r _ w).1 z w
            (subst (λ (c : ℕ). Counted (is_list l.table p) c (get_or l.table p 0)) (number_children qs) f.0.2.1) f.0.3
            o.0.1 (of_join l us ts o.0.2 o.1) (λ m c. k (symbol p qs) rs (node r us) ts m refl refl c)

    module _ (h : Fronts i at n) (low : P < 200) where
      -- the pair is of unlike classes
      pub fronts_clash : (class_of l.classes P ≡ class_of l.classes R → ⊥) → Clash l.classes q t (n + 1)
      fronts_clash d = go (viewed h low)
        where
          go : View → Clash l.classes q t (n + 1)
          go (view qs us ts rest deep in_list x y c f o g k) = k 1 (unlike d)

      module _ (k : Alike l.table l.classes) (same : class_of l.classes P ≡ class_of l.classes R) where
        entries : get_or l.table P 0 ≡ get_or l.table R 0
        entries = sym (k.alike P) ∙ ap (λ (x : ℕ). get_or l.table x 0) same ∙ k.alike R

        down : (w : ℕ) (qs : Children) (us ts : Terms) (rest : List ℕ) (deep : ℕ) (in_list : Bool) → drop (i + w) pattern ≡ children_bytes l.table qs rest
            → drop (at + w) bytes ≡ terms_bytes l.table (us ⧺ ts) [] → 1 ≤ arity qs → 1 ≤ count us → FitAll l.table false (child_trees qs) deep in_list → OverAll l.table (us ⧺ ts)
            → ((m : ℕ) → Clash l.classes (symbol P qs) (node R us) m → Clash l.classes q t (n + m)) → Fronts (i + w) (at + w) (n + 1)
        down w qs nil ts rest deep in_list x y a b f o g = absurd (omega arith)
        down w qs (u :: us) ts rest deep in_list x y a b f o g = record {
          children = qs;
          others = rest;
          deep = deep;
          in_list = in_list;
          terms = (u :: us) ⧺ ts;
          pattern_rest = x;
          record_rest = y;
          some_children = a;
          some_terms = omega arith;
          fit = f;
          of = o;
          clashes = λ q' rs v vs m z e c.
              let d : n + (1 + m) ≡ n + 1 + m = omega arith in
              subst (Clash l.classes q t) d
              (g (1 + m) (subst (λ (r : Children). Clash l.classes (symbol P r) (node R (u :: us)) (1 + m)) (sym z)
              (below same (subst (λ (r : Term). Clash l.classes q' r m) (sym (head_same e)) c))));
        }

        pub fronts_fixed : is_list l.table P ≡ false → (get_or l.table P 0 ≡ 0 → ⊥) → Fronts (i + 1) (at + 1) (n + 1)
        fronts_fixed e d = go (viewed h low)
          where
            r_fixed : is_list l.table R ≡ false
            r_fixed = ap (λ (x : ℕ). eqb x list) (sym entries) ∙ e

            go : View → Fronts (i + 1) (at + 1) (n + 1)
            go (view qs us ts rest deep in_list x y c f o g j) =
                let a : arity qs ≡ get_or l.table P 0 = subst (λ (b : Bool). Counted b (arity qs) (get_or l.table P 0)) e c in
                let b : count us ≡ get_or l.table R 0 = o r_fixed in
                down 1 qs us ts rest deep in_list
                (past_front pattern i 1 (P ∷ []) (children_bytes l.table qs rest)
                (x ∙ ap (λ (m : Bool). P ∷ cond m (arity qs ∷ children_bytes l.table qs rest) (children_bytes l.table qs rest)) e) refl)
                (past_front bytes at 1 (R ∷ []) (terms_bytes l.table (us ⧺ ts) [])
                (y ∙ ap (λ (m : Bool). R ∷ cond m (count us ∷ terms_bytes l.table (us ⧺ ts) []) (terms_bytes l.table (us ⧺ ts) [])) r_fixed) refl)
                (omega (arith, a, d)) (omega (arith, b, entries, d)) f g j

        pub fronts_list : is_list l.table P ≡ true → (get_or pattern (i + 1) 0 ≡ 0 → ⊥) → (get_or bytes (at + 1) 0 ≡ 0 → ⊥) → Fronts (i + 2) (at + 2) (n + 1)
        fronts_list e d v = go (viewed h low)
          where
            r_list : is_list l.table R ≡ true
            r_list = ap (λ (x : ℕ). eqb x list) (sym entries) ∙ e

            go : View → Fronts (i + 2) (at + 2) (n + 1)
            go (view qs us ts rest deep in_list x y c f o g j) =
                let z : drop i pattern ≡ P ∷ (arity qs ∷ children_bytes l.table qs rest) =
                x ∙ ap (λ (m : Bool). P ∷ cond m (arity qs ∷ children_bytes l.table qs rest) (children_bytes l.table qs rest)) e in
                let w : drop at bytes ≡ R ∷ (count us ∷ terms_bytes l.table (us ⧺ ts) []) =
                y ∙ ap (λ (m : Bool). R ∷ cond m (count us ∷ terms_bytes l.table (us ⧺ ts) []) (terms_bytes l.table (us ⧺ ts) [])) r_list in
                let a = front pattern (i + 1) (arity qs) (children_bytes l.table qs rest) (past_front pattern i 1 (P ∷ []) (arity qs ∷ children_bytes l.table qs rest) z refl) in
                let b = front bytes (at + 1) (count us) (terms_bytes l.table (us ⧺ ts) []) (past_front bytes at 1 (R ∷ []) (count us ∷ terms_bytes l.table (us ⧺ ts) []) w refl) in
                down 2 qs us ts rest deep in_list
                (past_front pattern i 2 (P ∷ arity qs ∷ []) (children_bytes l.table qs rest) z refl)
                (past_front bytes at 2 (R ∷ count us ∷ []) (terms_bytes l.table (us ⧺ ts) []) w refl)
                (omega (arith, a.1, d)) (omega (arith, b.1, v)) f g j

-- for every record that begins as s does

module _ (l : Language) (pattern s : List ℕ) where
  abbrev pub Fronting : ℕ → ℕ → ℕ → Type 0
  Fronting i at n =
      (q : Pattern) → Rule l pattern q → (t : Term) → TermAccepted l t → length (bytes_in l t) ≡ length s → take at (bytes_in l t) ≡ take at s → Fronts l pattern q t i at n

  pub fronting_start : (n : ℕ) → n ≡ 0 → Fronting 0 0 n
  fronting_start n z q r t a e h = subst (Fronts l pattern q t 0 0) (sym z) (fronts_start l pattern q t r a)

  module _ (i at n : ℕ) (h : Fronting i at n) (low : get_or pattern i 0 < 200) where
    shares : (k : ℕ) → at < k → (q : Pattern) → Rule l pattern q → (t : Term) → TermAccepted l t → length (bytes_in l t) ≡ length s → take k (bytes_in l t) ≡ take k s
        → Fronts l pattern q t i at n × (get_or (bytes_in l t) at 0 ≡ get_or s at 0)
    shares k j q r t a e x = (h q r t a e (take_less at k (bytes_in l t) s (omega arith) x), take_get k (bytes_in l t) s at x j e)

    pub fronting_dead : (class_of l.classes (get_or pattern i 0) ≡ class_of l.classes (get_or s at 0) → ⊥) → (allowance : ℕ) → n + 1 ≤ allowance
        → (q : Pattern) → Rule l pattern q → Skips l q allowance s (at + 1)
    fronting_dead d allowance m q r t a e x later before =
        let w = shares (at + 1) (omega arith) q r t a e x in
        clash_passed l (classed_alike l r.classed) q t (n + 1) allowance a
        (fronts_clash l pattern q t i at n w.0 low (λ z. d (z ∙ ap (class_of l.classes) w.1))) m

    module _ (same : class_of l.classes (get_or pattern i 0) ≡ class_of l.classes (get_or s at 0)) where
      pub fronting_one : (m : ℕ) → m ≡ n + 1 → (get_or l.table (get_or pattern i 0) 0 ≡ 0 → ⊥) → (get_or l.table (get_or pattern i 0) 0 ≡ list → ⊥) → Fronting (i + 1) (at + 1) m
      fronting_one m y d g q r t a e x =
          let w = shares (at + 1) (omega arith) q r t a e x in
          subst (Fronts l pattern q t (i + 1) (at + 1)) (sym y)
          (fronts_fixed l pattern q t i at n w.0 low (classed_alike l r.classed) (same ∙ ap (class_of l.classes) (sym w.1)) (ne_eqb (get_or l.table (get_or pattern i 0) 0) list g) d)

      pub fronting_two : (m : ℕ) → m ≡ n + 1 → get_or l.table (get_or pattern i 0) 0 ≡ list → (get_or pattern (i + 1) 0 ≡ 0 → ⊥) → (get_or s (at + 1) 0 ≡ 0 → ⊥) → Fronting (i + 2) (at + 2) m
      fronting_two m y g d v q r t a e x =
          let w = shares (at + 2) (omega arith) q r t a e x in
          subst (Fronts l pattern q t (i + 2) (at + 2)) (sym y)
          (fronts_list l pattern q t i at n w.0 low (classed_alike l r.classed) (same ∙ ap (class_of l.classes) (sym w.1)) (eq-eqb (get_or l.table (get_or pattern i 0) 0) list g) d
          (λ z. v (sym (take_get (at + 2) (bytes_in l t) s (at + 1) x (omega arith) e) ∙ z)))

-- what the loop holds, with so much of the allowance left
pub record Fronted (table classes pattern s : List ℕ) (allowance i at left : ℕ) : Type 0 where
  pub within : at ≤ length s
  pub spare : left ≤ allowance
  pub fronting : (edition : Edition) → Fronting (language edition table classes) pattern s i at (allowance - left)

module _ (table classes pattern s : List ℕ) (allowance : ℕ) where
  pub fronted_start : Fronted table classes pattern s allowance 0 0 allowance
  fronted_start = record {
    within = omega arith;
    spare = omega arith;
    fronting = λ edition. fronting_start (language edition table classes) pattern s (allowance - allowance) (omega arith);
  }

  module _ (i at left : ℕ) (h : Fronted table classes pattern s allowance i at left) (some : left ≡ 0 → ⊥) (low : get_or pattern i 0 < 200) (inside : at < length s) where
    more : 1 ≤ left
    more = go left refl
      where
        go : (n : ℕ) → left ≡ n → 1 ≤ n
        go zero z = absurd (some z)
        go (suc n) z = omega arith

    next : allowance - (left - 1) ≡ allowance - left + 1
    next = omega (arith, more, h.spare)

    pub fronted_dead : eqb (class_of classes (get_or pattern i 0)) (class_of classes (get_or s at 0)) ≡ false → FrontAt table classes pattern s allowance (Some (at + 1))
    fronted_dead e edition =
        fronting_dead (language edition table classes) pattern s i at (allowance - left) (h.fronting edition) low (eqb-false (class_of classes (get_or pattern i 0)) (class_of classes (get_or s at 0)) e) allowance
        (omega (arith, more, h.spare))

    module _ (e : eqb (class_of classes (get_or pattern i 0)) (class_of classes (get_or s at 0)) ≡ true) where
      pub fronted_on : (m : ℕ) → DownBy table pattern i s at (Some m) → Fronted table classes pattern s allowance (i + m) (at + m) (left - 1)
      fronted_on m (inl w) = subst (λ (n : ℕ). Fronted table classes pattern s allowance (i + n) (at + n) (left - 1)) (sym w.0) (record {
        within = omega (arith, inside);
        spare = omega (arith, h.spare);
        fronting = λ edition. fronting_one (language edition table classes) pattern s i at (allowance - left) (h.fronting edition) low
            (eqb-true (class_of classes (get_or pattern i 0)) (class_of classes (get_or s at 0)) e) (allowance - (left - 1)) next w.1 w.2;
      })
      fronted_on m (inr w) = subst (λ (n : ℕ). Fronted table classes pattern s allowance (i + n) (at + n) (left - 1)) (sym w.0) (record {
        within = w.4;
        spare = omega (arith, h.spare);
        fronting = λ edition. fronting_two (language edition table classes) pattern s i at (allowance - left) (h.fronting edition) low
            (eqb-true (class_of classes (get_or pattern i 0)) (class_of classes (get_or s at 0)) e) (allowance - (left - 1)) next w.1 w.2 w.3;
      })

pub front_next : (l : Language) (lower pattern s : List ℕ) (allowance k : ℕ) → FrontAt l.table l.classes pattern s allowance (Some k) → TriesNext l lower pattern s allowance (Ok k)
front_next l lower pattern s allowance k h q rule low = h l.edition q rule
