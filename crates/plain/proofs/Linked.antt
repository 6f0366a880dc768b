-- On accepted input the tier on bytes is the tier on trees.
use Prim.Native.Nat.{ℕ, zero, suc, ◌+◌, ◌-◌, ◌<◌, ◌≤◌}
use native.Mathlib.Omega.{arith}
use mathlib.Core.Path.{◌≡◌, refl, sym, ◌∙◌, ap, ap₂, subst}
use mathlib.Core.Logic.{◌⊎◌, inl, inr}
use mathlib.Core.List.{List, [], ◌∷◌, ◌++◌}
use mathlib.Core.Bool.{Bool, true, false, cond, ◌&&◌, false≢true}
use lib.ListN.{length, get_or, drop, set, length-set, get_or-replicate}
use lib.Seq.{get_or-set_same, get_or-set_other}
use lib.Dec.{eqb, ltb}
use borrow.Author.Tests.{eqb-true, eqb-false, ne_eqb, le-ltb, ltb-true, ltb-false}
use Rattle.answers.specs.declared.Part.{Part}
use Rattle.answers.specs.declared.Answer.{Answer}
use Rattle.answers.specs.declared.Answer.TheVariants.{Bound}
use Rattle.term.proofs.Lists.{past_front}
use Rattle.term.specs.Class.{class_of, Alike}
use Rattle.term.specs.Code.{variables, byte_of}
use Rattle.term.specs.Extent.{entry_of, span_of, extent_of}
use Rattle.term.specs.Limits.{Written, Shape, Counted, Fits, FitAll, longest_record, nesting}
use Rattle.term.specs.Pattern.{Pattern, name, symbol, complement, Children, end, plain, run, pattern_tree, child_trees, pattern_bytes}
use Rattle.term.specs.Table.{largest_table, list, is_list, width}
use Rattle.term.specs.Term.{Term, node, Terms, nil, ◌::◌, ◌⧺◌, count, single, size, sizes, term_tree, term_trees, term_bytes, terms_bytes}
use Rattle.term.specs.Tree.{branch, empty, number, list_code, own, encode}
use Rattle.term.specs.declared.Code.{Code}
use Rattle.term.specs.declared.Code.TheVariants.{Symbol, Name, Run}
use Rattle.term.proofs.Codes.{code_back}
use Rattle.term.proofs.Spans.{entry_symbol, extent_term, span_terms}
use Rattle.term.proofs.Joins.{bytes_join, sizes_join, sizes_single, fit_split}
use Rattle.term.proofs.Sizes.{arity, number_children, number_terms, children_bytes, node_bytes, symbol_bytes, past_term, past_terms}
use Rattle.anti_pattern.specs.Language.{Language}
use Rattle.anti_pattern.specs.Search.{Env, bind, start}
use Rattle.anti_pattern.specs.Variables.{vars, vars_all, among}
use Rattle.parts.specs.Packed.{part_places, parts_in}
use Rattle.parts.specs.Shown.{numbers, answer_width, shown_parts}
use Rattle.link.specs.Input.{Input}
use Rattle.call.specs.Call.{written}
use Rattle.matcher.specs.Call.{told, bound_parts}
use Rattle.link.proofs.Linked.{shown_parts_holds, table_short, short}
use Rattle.link.proofs.Parts.{shown_bind, shown_start}
use Rattle.link.proofs.Places.{within_terms}
use Rattle.link.proofs.Represents.{Stands, Shown}
use Rattle.plain.specs.Bytes.{runs, runs_among, no_runs, list_step, list_of, symbol_of, turn_by, turn_of, Ending, Standing, standing, takes, stepped, tier_from, standing_start, tier_on, no_parts, told_ending, shown_ending}
use Rattle.plain.specs.Plain.{NoComplement, NoComplements, Once, run_names, plain_children, OneRun, OneRuns, Plain}
use Rattle.plain.specs.Tier.{Tiered, comes_out, taken, left, run_length, and_then, if_true, tier, tiers, whole_tier, shown_tier, plain_answer}
use Rattle.plain.specs.declared.tier.Turn.{Turn}
use Rattle.plain.specs.declared.tier.Turn.TheVariants.{Fails, Enters, Notes, TakesNode, TakesRun}
use Rattle.plain.proofs.Agreeing.{ComesOut, Number, comes, unequal, fewer, number_comes, count_left}
use Rattle.plain.proofs.Looked.{last_run, no_run, runs_children}
use Rattle.plain.proofs.Parted.{parts_take, parts_none}
use Rattle.plain.proofs.Variables.{among_vars, among_here, among_behind, not_among, once_vars, among_front, run_of, some_is, none_is, run_none, run_among}
use Rattle.std.specs.Prelude.{Ok, Option, Some, None}

-- numbers of children

children_number : (qs : Children) → arity qs ≡ plain_children qs + run_names qs
children_number end = refl
children_number (plain q qs) = let i = children_number qs in omega arith
children_number (run v qs) = let i = children_number qs in omega arith

last_run_holds : (qs : Children) (v : ℕ) → run_names qs ≡ 1 → run_of qs ≡ Some (last_run qs v)
last_run_holds end v h = absurd (omega arith)
last_run_holds (plain q qs) v h = last_run_holds qs v h
last_run_holds (run u qs) v h = ap Some (sym (no_more qs u (omega arith)))
  where
    no_more : (qs : Children) (u : ℕ) → run_names qs ≡ 0 → last_run qs u ≡ u
    no_more end u h = refl
    no_more (plain q qs) u h = no_more qs u h
    no_more (run v qs) u h = absurd (omega arith)

taken_left : (n : ℕ) (ts : Terms) → ts ≡ taken n ts ⧺ left n ts
taken_left zero ts = refl
taken_left (suc n) nil = refl
taken_left (suc n) (t :: ts) = ap (t ::◌) (taken_left n ts)

count_taken : (n : ℕ) (ts : Terms) → n ≤ count ts → count (taken n ts) ≡ n
count_taken zero ts h = refl
count_taken (suc n) nil h = absurd (omega arith)
count_taken (suc n) (t :: ts) h = ap suc (count_taken n ts (omega arith))

-- a variable of an accepted pattern is one of those of the answer
mutual
  unfolding Fits Written

  vars_low : (table : List ℕ) (q : Pattern) (deep : ℕ) (in_list : Bool) (u : ℕ) → Fits table false (pattern_tree q) deep in_list → among u (vars q []) ≡ true → u < variables
  vars_low table (name v) deep in_list u h m = go (eqb v u) refl m
    where
      go : (b : Bool) → eqb v u ≡ b → cond b true false ≡ true → u < variables
      go true e m = omega (arith, eqb-true v u e, h.1)
      go false e m = absurd (false≢true m)
  vars_low table (symbol s qs) deep in_list u h m = all_low table qs _ _ u h.3 m
  vars_low table (complement q) deep in_list u h m = absurd (false≢true m)

  all_low : (table : List ℕ) (qs : Children) (deep : ℕ) (in_list : Bool) (u : ℕ) → FitAll table false (child_trees qs) deep in_list → among u (vars_all qs []) ≡ true → u < variables
  all_low table end deep in_list u h m = absurd (false≢true m)
  all_low table (plain q qs) deep in_list u h m =
      go (among u (vars q [])) refl (λ f. vars_low table q deep in_list u h.0 f) (λ f. all_low table qs deep in_list u h.1 f) (sym (among_vars u q (vars_all qs [])) ∙ m)
    where
      go : (b : Bool) → among u (vars q []) ≡ b → (among u (vars q []) ≡ true → u < variables) → (among u (vars_all qs []) ≡ true → u < variables)
          → cond (among u (vars q [])) true (among u (vars_all qs [])) ≡ true → u < variables
      go true e f g m = f e
      go false e f g m = g (sym (ap (λ (c : Bool). cond c true (among u (vars_all qs []))) e) ∙ m)
  all_low table (run v qs) deep in_list u h m = go (eqb v u) refl (λ f. all_low table qs deep in_list u h.1 f) m
    where
      go : (b : Bool) → eqb v u ≡ b → (among u (vars_all qs []) ≡ true → u < variables) → cond b true (among u (vars_all qs [])) ≡ true → u < variables
      go true e f m = omega (arith, eqb-true v u e, h.0.1.1)
      go false e f m = f m

-- the lengths noted for run names

-- so much for each of these variables
abbrev Ones : List ℕ → List ℕ → Type 0
Ones lengths vs = (u : ℕ) → among u vs ≡ true → get_or lengths u 0 ≡ 1

-- the run name of a list's children has what the others leave of n elements; all other variables have 1
record Known (lengths : List ℕ) (qs : Children) (n : ℕ) : Type 0 where
  others : (u : ℕ) → among u (vars_all qs []) ≡ true → (get_or lengths u 0 ≡ 1) ⊎ (run_of qs ≡ Some u)
  own_run : (v : ℕ) → run_of qs ≡ Some v → get_or lengths v 0 ≡ n - plain_children qs

module _ (table classes bytes : List ℕ) (small : length table ≤ largest_table) (alike : Alike table classes) (short : length bytes ≤ longest_record) where
  -- the state shows an assignment
  record Good (s : Standing) (e : Env) : Type 0 where
    lengths_room : length s.lengths ≡ variables
    parts_room : length s.parts ≡ part_places
    shown : Shown table bytes (parts_in s.assigned s.parts 0 variables) e

  good_takes : (s : Standing) (e : Env) (v : ℕ) (w : Terms) → v < variables → (v < 32 → count w ≡ 1) → count w < 256 → Good s e → Stands table bytes s.node w
      → Good (takes s v (sizes table w) (count w)) (bind e v s.node w)
  good_takes s e v w low one few g h = record {
    lengths_room = g.lengths_room;
    parts_room = length-set s.parts v _ ∙ g.parts_room;
    shown = subst (λ ps. Shown table bytes ps (bind e v s.node w)) (sym (parts_take s.assigned s.parts g.parts_room v s.node (sizes table w) (count w) low few))
        (shown_bind table bytes short (parts_in s.assigned s.parts 0 variables) e v s.node w low one g.shown h);
  }

  abbrev from : List ℕ → Standing → ℕ → Ending
  from bs s n = tier_from table classes bytes bs false s n

  -- what the tier makes of some bytes with bs behind them: it ends, or goes on behind the term with what was noted for other variables
  data Goes (bs : List ℕ) (s : Standing) (n behind : ℕ) (vs : List ℕ) (x : Ending) : Option Env → ℕ → Type 0 where
    stops : {k : ℕ} → x.fits ≡ false → x.count ≡ n + k → Goes bs s n behind vs x None k
    passes : {e : Env} {k : ℕ} (r : Standing) → r.node ≡ behind → Good r e → ((u : ℕ) → among u vs ≡ false → get_or r.lengths u 0 ≡ get_or s.lengths u 0)
        → x ≡ from bs r (n + k) → Goes bs s n behind vs x (Some e) k

  -- a name or a run name: the bytes of its code
  leaf : (c : Code) (bs : List ℕ) (s : Standing) (n : ℕ) (x : Turn) → Written false c → list_code table c ≡ false
      → ((q : List ℕ) → turn_by c table classes q (drop s.node bytes) ≡ x)
      → from (encode table (branch c empty) bs) s n ≡ stepped table bytes x s (n + 1) (λ b z. tier_from table classes bytes bs b z (n + 1))
  unfolding encode own number tier_from turn_of
  leaf c bs s n x w l k =
      ap (λ (b : Bool). from (byte_of c ∷ cond b (0 ∷ bs) bs) s n) l
      ∙ ap (λ (y : Turn). stepped table bytes y s (n + 1) (λ b z. tier_from table classes bytes bs b z (n + 1)))
      (ap (λ (d : Code). turn_by d table classes (byte_of c ∷ bs) (drop s.node bytes)) (code_back false c w) ∙ k (byte_of c ∷ bs))

  -- a symbol

  same_table : (s r : ℕ) → eqb (class_of classes s) (class_of classes r) ≡ true → get_or table s 0 ≡ get_or table r 0
  same_table s r e =
      sym (alike.alike s) ∙ ap (λ (k : ℕ). get_or table k 0) (eqb-true (class_of classes s) (class_of classes r) e) ∙ alike.alike r

  -- what a symbol's step is, by whether symbol and number come out
  data Steps (l m : Bool) (ps : Children) (us : Terms) : Turn → Bool → Type 0 where
    fails : Steps l m ps us Fails false
    enters : l ≡ m → ComesOut ps us → (run_names ps ≡ 0) ⊎ (count us ≡ arity ps) → Steps l m ps us (Enters (cond m 2 1)) true
    notes : {v : ℕ} → l ≡ true → m ≡ true → ComesOut ps us → run_of ps ≡ Some v → Steps l m ps us (Notes v (count us - plain_children ps)) true

  list_steps : (ps : Children) (us : Terms) → run_names ps ≤ 1
      → Steps true true ps us (list_step (arity ps) (count us) (runs (run_names ps) (last_run ps 0))) (comes_out ps us)
  unfolding list_step
  list_steps ps us one = go (eqb (arity ps) (count us)) refl (comes_out ps us) (number_comes ps us)
    where
      after : (b : Bool) → Number ps us b → (arity ps ≡ count us → ⊥) → (m : Bool) → eqb (run_names ps) 0 ≡ m → (f : Bool) → ltb (count us) (arity ps - 1) ≡ f
          → Steps true true ps us (cond m Fails (cond f Fails (Notes (last_run ps 0) (count us - (arity ps - 1))))) b
      after true (comes c) d true e f g =
          let z = eqb-true (run_names ps) 0 e in absurd (d (omega (arith, children_number ps, c.1 z)))
      after false (unequal z u) d true e f g = fails
      after false (fewer u) d true e f g = fails
      after b k d false e true g =
          let z = eqb-false (run_names ps) 0 e in
          let y : count us < plain_children ps = omega (arith, children_number ps, ltb-true (count us) (arity ps - 1) g, z) in
          subst (Steps true true ps us Fails) (sym (not_comes b k y)) fails
        where
          not_comes : (b : Bool) → Number ps us b → count us < plain_children ps → b ≡ false
          not_comes true (comes c) y = absurd (omega (arith, c.0))
          not_comes false k y = refl
      after b k d false e false g =
          let z = eqb-false (run_names ps) 0 e in
          let r : run_names ps ≡ 1 = omega (arith, z) in
          let y : count us - (arity ps - 1) ≡ count us - plain_children ps = omega (arith, children_number ps) in
          let l = ltb-false (count us) (arity ps - 1) g in
          subst (λ (x : ℕ). Steps true true ps us (Notes (last_run ps 0) x) b) (sym y)
          (subst (Steps true true ps us (Notes (last_run ps 0) (count us - plain_children ps))) (sym (does b k z (omega (arith, children_number ps, l))))
          (notes refl refl (omega (arith, children_number ps, l), λ x. absurd (z x)) (last_run_holds ps 0 r)))
        where
          does : (b : Bool) → Number ps us b → (run_names ps ≡ 0 → ⊥) → plain_children ps ≤ count us → b ≡ true
          does true k z y = refl
          does false (unequal x u) z y = absurd (z x)
          does false (fewer u) z y = absurd (omega arith)

      go : (a : Bool) → eqb (arity ps) (count us) ≡ a → (b : Bool) → Number ps us b
          → Steps true true ps us (cond a (Enters 2) (cond (eqb (run_names ps) 0) Fails (cond (ltb (count us) (arity ps - 1)) Fails (Notes (last_run ps 0) (count us - (arity ps - 1)))))) b
      go true e true (comes c) = enters refl c (inr (sym (eqb-true (arity ps) (count us) e)))
      go true e false (unequal z u) = absurd (u (omega (arith, children_number ps, eqb-true (arity ps) (count us) e)))
      go true e false (fewer u) = absurd (omega (arith, children_number ps, eqb-true (arity ps) (count us) e))
      go false e b k = after b k (eqb-false (arity ps) (count us) e) (eqb (run_names ps) 0) refl (ltb (count us) (arity ps - 1)) refl

  symbol_step_holds : (s x : ℕ) (q r : List ℕ) → Written false (Symbol s)
      → turn_of table classes (s ∷ q) (x ∷ r)
      ≡ cond (eqb (class_of classes s) (class_of classes x)) (cond (eqb (entry_of table s) list) (list_of table (s ∷ q) (x ∷ r)) (Enters 1)) Fails
  unfolding turn_of symbol_of byte_of
  symbol_step_holds s x q r w = rw (code_back false (Symbol s) w, ne_eqb (length (x ∷ r)) 0 (λ e. omega arith))

  list_step_holds : (s x n m : ℕ) (q r : List ℕ) → list_of table (s ∷ n ∷ q) (x ∷ m ∷ r) ≡ list_step n m (runs_among table q n no_runs)
  unfolding list_of
  list_step_holds s x n m q r = rw (le-ltb (length (s ∷ n ∷ q)) 2 (omega arith), le-ltb (length (x ∷ m ∷ r)) 2 (omega arith))

  counted_by : (b : Bool) (n k : ℕ) → Counted b n k → b ≡ false → n ≡ k
  counted_by b n k h e = subst (λ (c : Bool). Counted c n k) e h

  symbol_steps : (s r : ℕ) (ps : Children) (us : Terms) (deep deep' : ℕ) (in_list inList' : Bool) (cs rs : List ℕ)
      → Fits table false (pattern_tree (symbol s ps)) deep in_list → Fits table true (term_tree (node r us)) deep' inList' → run_names ps ≤ 1
      → Steps (is_list table s) (is_list table r) ps us (turn_of table classes (pattern_bytes table (symbol s ps) cs) (term_bytes table (node r us) rs))
      (eqb (class_of classes s) (class_of classes r) && comes_out ps us)
  unfolding Fits Shape list_code
  symbol_steps s r ps us deep deep' in_list inList' cs rs h k one =
      subst (λ (x : Turn). Steps (is_list table s) (is_list table r) ps us x (eqb (class_of classes s) (class_of classes r) && comes_out ps us)) (sym is)
      (by (eqb (class_of classes s) (class_of classes r)) refl)
    where
      C : List ℕ
      C = children_bytes table ps cs

      R : List ℕ
      R = terms_bytes table us rs

      is : turn_of table classes (pattern_bytes table (symbol s ps) cs) (term_bytes table (node r us) rs)
          ≡ cond (eqb (class_of classes s) (class_of classes r))
          (cond (eqb (entry_of table s) list) (list_of table (s ∷ cond (is_list table s) (arity ps ∷ C) C) (r ∷ cond (is_list table r) (count us ∷ R) R)) (Enters 1)) Fails
      is = ap₂ (turn_of table classes) (symbol_bytes table s ps cs) (node_bytes table r us rs) ∙ symbol_step_holds s r _ _ h.1

      fixed : run_names ps ≡ 0 → arity ps ≡ count us → (b : Bool) → Number ps us b → Steps false false ps us (Enters 1) b
      fixed z e true (comes c) = enters refl c (inl z)
      fixed z e false (unequal y u) = absurd (u (omega (arith, children_number ps)))
      fixed z e false (fewer u) = absurd (omega (arith, children_number ps))

      by : (m : Bool) → eqb (class_of classes s) (class_of classes r) ≡ m
          → Steps (is_list table s) (is_list table r) ps us (cond m (cond (eqb (entry_of table s) list) (list_of table (s ∷ cond (is_list table s) (arity ps ∷ C) C) (r ∷ cond (is_list table r) (count us ∷ R) R)) (Enters 1)) Fails)
          (m && comes_out ps us)
      by false e = fails
      by true e = same (is_list table r) refl
        where
          entries : get_or table s 0 ≡ get_or table r 0
          entries = same_table s r e

          same : (b : Bool) → is_list table r ≡ b
              → Steps (is_list table s) (is_list table r) ps us (cond (eqb (entry_of table s) list) (list_of table (s ∷ cond (is_list table s) (arity ps ∷ C) C) (r ∷ cond (is_list table r) (count us ∷ R) R)) (Enters 1))
              (comes_out ps us)
          same true f =
              let g : is_list table s ≡ true = ap (λ (x : ℕ). eqb x list) entries ∙ f in
              let z : 0 + run_names ps ≡ run_names ps = omega arith in
              let y = runs_children table small ps _ _ 0 0 cs h.3 ∙ ap (λ (x : ℕ). runs x (last_run ps 0)) z in
              rw (entry_symbol table s h.2.0, g, f, list_step_holds s r (arity ps) (count us) C R, y) (list_steps ps us one)
          same false f =
              let g : is_list table s ≡ false = ap (λ (x : ℕ). eqb x list) entries ∙ f in
              let a : arity ps ≡ count us =
              sym (number_children ps) ∙ counted_by (is_list table s) (number (child_trees ps)) (get_or table s 0) h.2.1 g ∙ entries
              ∙ sym (counted_by (is_list table r) (number (term_trees us)) (get_or table r 0) k.2.1 f) ∙ number_terms us in
              rw (entry_symbol table s h.2.0, g, f) (fixed (no_run table ps _ (subst (FitAll table false (child_trees ps) _) g h.3)) a (comes_out ps us) (number_comes ps us))

  -- the bytes of a symbol

  symbol_from : (s : ℕ) (ps : Children) (bs : List ℕ) (z : Standing) (n : ℕ)
      → from (pattern_bytes table (symbol s ps) bs) z n
      ≡ stepped table bytes (turn_of table classes (pattern_bytes table (symbol s ps) bs) (drop z.node bytes)) z (n + 1)
      (λ b y. tier_from table classes bytes (cond (is_list table s) (number (child_trees ps) ∷ children_bytes table ps bs) (children_bytes table ps bs)) b y (n + 1))
  unfolding encode own byte_of list_code tier_from
  symbol_from s ps bs z n = refl

  past_number : (b c : Bool) (k : ℕ) (bs : List ℕ) (z : Standing) (n : ℕ) → b ≡ c
      → tier_from table classes bytes (cond b (k ∷ bs) bs) (eqb (cond c 2 1) 2) z n ≡ from bs z n
  unfolding tier_from
  past_number true true k bs z n e = refl
  past_number true false k bs z n e = absurd (false≢true (sym e))
  past_number false true k bs z n e = absurd (false≢true e)
  past_number false false k bs z n e = refl

  past_own : (at : ℕ) (b : Bool) (s n : ℕ) (rs : List ℕ) → drop at bytes ≡ s ∷ cond b (n ∷ rs) rs → drop (at + cond b 2 1) bytes ≡ rs
  past_own at true s n rs h = past_front bytes at 2 (s ∷ n ∷ []) rs h refl
  past_own at false s n rs h = past_front bytes at 1 (s ∷ []) rs h refl

  -- how what the tier makes of children is what it makes of their node

  goes_in : {bs : List ℕ} {s z : Standing} {n a b : ℕ} {vs : List ℕ} {x y : Ending} {o : Option Env} {k : ℕ} → x ≡ y → a ≡ b
      → ((u : ℕ) → among u vs ≡ false → get_or z.lengths u 0 ≡ get_or s.lengths u 0) → Goes bs z (n + 1) a vs y o k → Goes bs s n b vs x o (1 + k)
  goes_in {n = n} e f kept (stops {k = k} h i) =
      let c : n + 1 + k ≡ n + (1 + k) = omega arith in
      stops {k = 1 + k} (ap (λ (w : Ending). w.fits) e ∙ h) (ap (λ (w : Ending). w.count) e ∙ i ∙ c)
  goes_in {bs = bs} {n = n} e f kept (passes {k = k} r g h i j) =
      let c : n + 1 + k ≡ n + (1 + k) = omega arith in
      passes r (g ∙ f) h (λ u m. i u m ∙ kept u m) (e ∙ j ∙ ap (from bs r) c)

  -- of more variables
  goes_less : {bs : List ℕ} {s : Standing} {n a v : ℕ} {vs : List ℕ} {x : Ending} {o : Option Env} {k : ℕ} → Goes bs s n a vs x o k → Goes bs s n a (v ∷ vs) x o k
  goes_less (stops h i) = stops h i
  goes_less {v = v} {vs = vs} (passes r f g h i) = passes r f g (λ u m. h u (fewer_still (eqb v u) (among u vs) m)) i
    where
      fewer_still : (b c : Bool) → cond b true c ≡ false → c ≡ false
      fewer_still true c m = absurd (false≢true (sym m))
      fewer_still false c m = m

  goes_then : {cs bs : List ℕ} {s : Standing} {n a b : ℕ} {us vs ws : List ℕ} {x : Ending} {o : Option Env} {k : ℕ} (g : Env → Tiered) → Goes cs s n a us x o k
      → ((u : ℕ) → among u vs ≡ false → (among u us ≡ false) × (among u ws ≡ false))
      → ((r : Standing) (e : Env) → r.node ≡ a → Good r e → ((u : ℕ) → among u us ≡ false → get_or r.lengths u 0 ≡ get_or s.lengths u 0)
      → Goes bs r (n + k) b ws (from cs r (n + k)) (g e).out (g e).cost)
      → Goes bs s n b vs x (and_then o k g).out (and_then o k g).cost
  goes_then g (stops h i) apart next = stops h i
  goes_then {cs = cs} {bs = bs} {s = s} {n = n} {b = b} {vs = vs} {ws = ws} {x = x} g (passes {e} {k} r f h i j) apart next = go (next r e f h i)
    where
      go : {o : Option Env} {l : ℕ} → Goes bs r (n + k) b ws (from cs r (n + k)) o l → Goes bs s n b vs x o (k + l)
      go (stops {k = l} p q) =
          let c : n + k + l ≡ n + (k + l) = omega arith in
          stops {k = k + l} (ap (λ (w : Ending). w.fits) j ∙ p) (ap (λ (w : Ending). w.count) j ∙ q ∙ c)
      go (passes {k = l} z p q t w) =
          let c : n + k + l ≡ n + (k + l) = omega arith in
          passes z p q (λ u m. t u (apart u m).1 ∙ i u (apart u m).0) (j ∙ w ∙ ap (from bs z) c)

  -- what is known of the lengths when a list is entered

  known_enters : (lengths : List ℕ) (ps : Children) (n : ℕ) → run_names ps ≤ 1 → Ones lengths (vars_all ps []) → (run_names ps ≡ 0) ⊎ (n ≡ arity ps) → Known lengths ps n
  known_enters lengths ps n one ones (inl z) = record { others = λ u m. inl (ones u m); own_run = λ v h. absurd (none_is (sym (run_none ps z) ∙ h)) }
  known_enters lengths ps n one ones (inr e) = record {
    others = λ u m. inl (ones u m);
    own_run = λ v h. ones v (run_among ps v h) ∙ sym (by v h (eqb (run_names ps) 0) refl);
  }
    where
      by : (v : ℕ) → run_of ps ≡ Some v → (b : Bool) → eqb (run_names ps) 0 ≡ b → n - plain_children ps ≡ 1
      by v h true f = absurd (none_is (sym (run_none ps (eqb-true (run_names ps) 0 f)) ∙ h))
      by v h false f = let z = eqb-false (run_names ps) 0 f in omega (arith, children_number ps, z)

  known_notes : (lengths : List ℕ) (ps : Children) (v n : ℕ) → length lengths ≡ variables → v < variables → run_of ps ≡ Some v → Ones lengths (vars_all ps [])
      → Known (set lengths v (n - plain_children ps)) ps n
  known_notes lengths ps v n long low r ones = record {
    others = λ u m. by u m (eqb u v) refl;
    own_run = λ u h.
        ap (λ (k : ℕ). get_or (set lengths v (n - plain_children ps)) k 0) (some_is (sym h ∙ r))
        ∙ get_or-set_same lengths v (n - plain_children ps) 0 (omega (arith, long));
  }
    where
      by : (u : ℕ) → among u (vars_all ps []) ≡ true → (b : Bool) → eqb u v ≡ b → (get_or (set lengths v (n - plain_children ps)) u 0 ≡ 1) ⊎ (run_of ps ≡ Some u)
      by u m true e = inr (r ∙ ap Some (sym (eqb-true u v e)))
      by u m false e = inl (get_or-set_other lengths v u _ 0 (eqb-false u v e) ∙ ones u m)

  run_low : (qs : Children) (deep : ℕ) (in_list : Bool) (v : ℕ) → FitAll table false (child_trees qs) deep in_list → run_of qs ≡ Some v → v < variables
  unfolding Fits Written
  run_low end deep in_list v h r = absurd (none_is r)
  run_low (plain q qs) deep in_list v h r = run_low qs deep in_list v h.1 r
  run_low (run u qs) deep in_list v h r = omega (arith, h.0.1.1, some_is r)

  -- behind a child pattern that holds of an element
  known_next : (lengths kept : List ℕ) (q : Pattern) (qs : Children) (n : ℕ) (vs : List ℕ) → Once (vars q (vars_all qs vs)) → Known lengths (plain q qs) (suc n)
      → ((u : ℕ) → among u (vars q []) ≡ false → get_or kept u 0 ≡ get_or lengths u 0) → Known kept qs n
  known_next lengths kept q qs n vs once k same = record {
    others = λ u m. by u m (k.others u (among_behind u q (vars_all qs []) m));
    own_run = λ v r.
        let z : suc n - suc (plain_children qs) ≡ n - plain_children qs = omega arith in
        same v (apart v (run_among qs v r)) ∙ k.own_run v r ∙ z;
  }
    where
      apart : (u : ℕ) → among u (vars_all qs []) ≡ true → among u (vars q []) ≡ false
      apart u m = (once_vars q (vars_all qs vs) once).1 u (among_front u qs vs m)

      by : (u : ℕ) → among u (vars_all qs []) ≡ true → (get_or lengths u 0 ≡ 1) ⊎ (run_of qs ≡ Some u) → (get_or kept u 0 ≡ 1) ⊎ (run_of qs ≡ Some u)
      by u m (inl e) = inl (same u (apart u m) ∙ e)
      by u m (inr e) = inr e

  ones_here : (lengths : List ℕ) (q : Pattern) (qs : Children) (n : ℕ) (vs : List ℕ) → Once (vars q (vars_all qs vs)) → Known lengths (plain q qs) n → Ones lengths (vars q [])
  ones_here lengths q qs n vs once k u m = by (k.others u (among_here u q (vars_all qs []) m))
    where
      by : (get_or lengths u 0 ≡ 1) ⊎ (run_of qs ≡ Some u) → get_or lengths u 0 ≡ 1
      by (inl e) = e
      by (inr e) = absurd (false≢true (sym ((once_vars q (vars_all qs vs) once).1 u (among_front u qs vs (run_among qs u e))) ∙ m))

  -- behind the run name
  known_behind : (lengths : List ℕ) (v : ℕ) (qs : Children) (n m : ℕ) (vs : List ℕ) → Once (v ∷ vars_all qs vs) → run_names qs ≡ 0 → Known lengths (run v qs) n → Known lengths qs m
  known_behind lengths v qs n m vs once z k = record {
    others = λ u i. by u i (k.others u (later u i (eqb v u)));
    own_run = λ u r. absurd (none_is (sym (run_none qs z) ∙ r));
  }
    where
      later : (u : ℕ) → among u (vars_all qs []) ≡ true → (b : Bool) → cond b true (among u (vars_all qs [])) ≡ true
      later u i true = refl
      later u i false = i

      by : (u : ℕ) → among u (vars_all qs []) ≡ true → (get_or lengths u 0 ≡ 1) ⊎ (Some v ≡ Some u) → (get_or lengths u 0 ≡ 1) ⊎ (run_of qs ≡ Some u)
      by u i (inl e) = inl e
      by u i (inr e) =
          absurd (false≢true (sym once.0 ∙ among_front v qs vs (ap (λ (x : ℕ). among x (vars_all qs [])) (some_is e) ∙ i)))

  few_elements : (s r : ℕ) (ps : Children) (us : Terms) (deep deep' : ℕ) (in_list inList' : Bool) → is_list table s ≡ is_list table r → Fits table false (pattern_tree (symbol s ps)) deep in_list
      → Fits table true (term_tree (node r us)) deep' inList' → (run_names ps ≡ 0 → ⊥) → count us ≤ 255
  unfolding Fits Shape list_code
  few_elements s r ps us deep deep' in_list inList' l h k has = by (is_list table r) refl k.2.1
    where
      by : (b : Bool) → is_list table r ≡ b → Counted b (number (term_trees us)) (get_or table r 0) → count us ≤ 255
      by true e c = omega (arith, number_terms us, c)
      by false e c = absurd (has (no_run table ps _ (subst (FitAll table false (child_trees ps) _) (l ∙ e) h.3)))

  abbrev rest : ℕ → Children → List ℕ → ℕ → Bool → Standing → Ending
  rest a ps bs n b y = tier_from table classes bytes (cond (is_list table a) (number (child_trees ps) ∷ children_bytes table ps bs) (children_bytes table ps bs)) b y (n + 1)

  mutual
    unfolding Fits Written Shape tier size encode list_code

    tier_goes : (q : Pattern) (t : Term) (deep deep' : ℕ) (in_list inList' : Bool) (vs : List ℕ) (s : Standing) (e : Env) (n : ℕ) (bs rs : List ℕ)
        → Fits table false (pattern_tree q) deep in_list → Fits table true (term_tree t) deep' inList' → NoComplement q → OneRun q → Once (vars q vs) → Good s e
        → Ones s.lengths (vars q []) → s.node ≤ length bytes → drop s.node bytes ≡ term_bytes table t rs
        → Goes bs s n (s.node + size table t) (vars q []) (from (pattern_bytes table q bs) s n) (tier table classes q t s.node e).out
        (tier table classes q t s.node e).cost
    tier_goes (name v) t deep deep' in_list inList' vs s e n bs rs h k c o once g ones w d =
        let i : extent_of table (drop s.node bytes) ≡ sizes table (single t) =
        ap (extent_of table) d ∙ extent_term table small true t deep' inList' rs k ∙ sym (sizes_single table t) in
        passes (takes s v (sizes table (single t)) 1) (ap (λ (m : ℕ). s.node + m) (sizes_single table t))
        (good_takes s e v (single t) (omega (arith, h.1)) (λ l. refl) (omega arith) g
        (record { after = rs; stands = d; within = w; limited = record { left = deep'; in_list = inList'; fit = (k, tt) } }))
        (λ u m. refl) (leaf (Name v) bs s n (TakesNode v (sizes table (single t))) h.1 refl (λ q. ap (TakesNode v) i))
    tier_goes (symbol a ps) (node r us) deep deep' in_list inList' vs s e n bs rs h k c o once g ones w d =
        go (turn_of table classes (pattern_bytes table (symbol a ps) bs) (drop s.node bytes)) (eqb (class_of classes a) (class_of classes r) && comes_out ps us)
        (subst (λ (y : List ℕ). Steps (is_list table a) (is_list table r) ps us (turn_of table classes (pattern_bytes table (symbol a ps) bs) y) (eqb (class_of classes a) (class_of classes r) && comes_out ps us))
        (sym d) (symbol_steps a r ps us deep deep' in_list inList' bs rs h k o.0))
        (symbol_from a ps bs s n)
        (λ j long co few kn.
        tiers_go ps us _ _ _ _ vs (standing (s.node + width table r) j s.assigned s.parts) e (n + 1) bs rs h.3 k.3 c o.1 o.0 once
        (record { lengths_room = long; parts_room = g.parts_room; shown = g.shown }) co few kn
        (omega (arith, within_terms table bytes s.node (single (node r us)) rs w d))
        (past_own s.node (is_list table r) r (count us) (terms_bytes table us rs) (d ∙ node_bytes table r us rs)))
      where
        Inner : List ℕ → Type 0
        Inner j =
            Goes bs (standing (s.node + width table r) j s.assigned s.parts) (n + 1) (s.node + width table r + sizes table us) (vars_all ps [])
            (from (children_bytes table ps bs) (standing (s.node + width table r) j s.assigned s.parts) (n + 1))
            (tiers table classes ps us (s.node + width table r) e).out (tiers table classes ps us (s.node + width table r) e).cost

        behind : s.node + width table r + sizes table us ≡ s.node + (width table r + sizes table us)
        behind = omega arith

        go : (y : Turn) (b : Bool) → Steps (is_list table a) (is_list table r) ps us y b → from (pattern_bytes table (symbol a ps) bs) s n ≡ stepped table bytes y s (n + 1) (rest a ps bs n)
            → ((j : List ℕ) → length j ≡ variables → ComesOut ps us → ((run_names ps ≡ 0 → ⊥) → count us ≤ 255) → Known j ps (count us) → Inner j)
            → Goes bs s n (s.node + (width table r + sizes table us)) (vars_all ps []) (from (pattern_bytes table (symbol a ps) bs) s n)
            (if_true b (λ u. tiers table classes ps us (s.node + width table r) e)).out
            (1 + (if_true b (λ u. tiers table classes ps us (s.node + width table r) e)).cost)
        go y b fails x inner = stops {k = 1} (ap (λ (z : Ending). z.fits) x) (ap (λ (z : Ending). z.count) x)
        go y b (enters l co z) x inner =
            goes_in (x ∙ past_number (is_list table a) (is_list table r) (number (child_trees ps)) (children_bytes table ps bs) (standing (s.node + width table r) s.lengths s.assigned s.parts) (n + 1) l)
            behind (λ u m. refl)
            (inner s.lengths g.lengths_room co (few_elements a r ps us deep deep' in_list inList' l h k) (known_enters s.lengths ps (count us) o.0 ones z))
        go y b (notes {v} l m co q) x inner =
            let two : width table r ≡ 2 = ap (λ (z : Bool). cond z 2 1) m in
            let low = run_low ps _ _ v h.3 q in
            let j = set s.lengths v (count us - plain_children ps) in
            let z = standing (s.node + width table r) j s.assigned s.parts in
            goes_in (x ∙ ap (λ (i : ℕ). rest a ps bs n true (standing (s.node + i) j s.assigned s.parts)) (sym two)
            ∙ ap (λ (f : Bool). rest a ps bs n f z) (sym (ap (λ (f : Bool). eqb (cond f 2 1) 2) m))
            ∙ past_number (is_list table a) (is_list table r) (number (child_trees ps)) (children_bytes table ps bs) z (n + 1) (l ∙ sym m))
            behind
            (λ u i. get_or-set_other s.lengths v u _ 0 (λ f. false≢true (sym i ∙ ap (λ (x : ℕ). among x (vars_all ps [])) f ∙ run_among ps v q)))
            (inner j (length-set s.lengths v _ ∙ g.lengths_room) co (few_elements a r ps us deep deep' in_list inList' (l ∙ sym m) h k)
            (known_notes s.lengths ps v (count us) g.lengths_room low q ones))
    tier_goes (complement q) t deep deep' in_list inList' vs s e n bs rs h k c o once g ones w d = absurd c

    tiers_go : (qs : Children) (ts : Terms) (deep deep' : ℕ) (in_list inList' : Bool) (vs : List ℕ) (s : Standing) (e : Env) (n : ℕ) (bs rs : List ℕ)
        → FitAll table false (child_trees qs) deep in_list → FitAll table true (term_trees ts) deep' inList' → NoComplements qs → OneRuns qs → run_names qs ≤ 1
        → Once (vars_all qs vs) → Good s e → ComesOut qs ts → ((run_names qs ≡ 0 → ⊥) → count ts ≤ 255) → Known s.lengths qs (count ts)
        → s.node ≤ length bytes → drop s.node bytes ≡ terms_bytes table ts rs
        → Goes bs s n (s.node + sizes table ts) (vars_all qs []) (from (children_bytes table qs bs) s n) (tiers table classes qs ts s.node e).out
        (tiers table classes qs ts s.node e).cost
    tiers_go end nil deep deep' in_list inList' vs s e n bs rs h k c o one once g co few kn w d =
        let y : s.node ≡ s.node + 0 = omega arith in
        let z : n ≡ n + 0 = omega arith in
        passes s y g (λ u m. refl) (ap (from bs s) z)
    tiers_go end (t :: ts) deep deep' in_list inList' vs s e n bs rs h k c o one once g co few kn w d = absurd (omega (arith, co.1 refl))
    tiers_go (plain q qs) nil deep deep' in_list inList' vs s e n bs rs h k c o one once g co few kn w d = absurd (omega (arith, co.0))
    tiers_go (plain q qs) (t :: ts) deep deep' in_list inList' vs s e n bs rs h k c o one once g co few kn w d =
        goes_then (λ f. tiers table classes qs ts (s.node + size table t) f)
        (tier_goes q t deep deep' in_list inList' (vars_all qs vs) s e n (children_bytes table qs bs) (terms_bytes table ts rs) h.0 k.0 c.0 o.0 once g
        (ones_here s.lengths q qs (suc (count ts)) vs once kn) w d)
        (λ u m. not_among u q (vars_all qs []) m)
        (λ r f at good same.
        let b : r.node + sizes table ts ≡ s.node + (size table t + sizes table ts) = omega (arith, at) in
        subst (λ (x : ℕ). Goes bs r (n + (tier table classes q t s.node e).cost) (s.node + (size table t + sizes table ts)) (vars_all qs []) (from (children_bytes table qs bs) r (n + (tier table classes q t s.node e).cost))
        (tiers table classes qs ts x f).out (tiers table classes qs ts x f).cost) at
        (subst (λ (x : ℕ). Goes bs r (n + (tier table classes q t s.node e).cost) x (vars_all qs []) (from (children_bytes table qs bs) r (n + (tier table classes q t s.node e).cost))
        (tiers table classes qs ts r.node f).out (tiers table classes qs ts r.node f).cost) b
        (tiers_go qs ts deep deep' in_list inList' vs r f _ bs rs h.1 k.1 c.1 o.1 one (once_vars q (vars_all qs vs) once).0 good
        (omega (arith, co.0), λ z. let i = co.1 z in omega arith) (λ z. let i = few z in omega arith) (known_next s.lengths r.lengths q qs (count ts) vs once kn same)
        (omega (arith, at, within_terms table bytes s.node (t :: ts) rs w d))
        (ap (λ (x : ℕ). drop x bytes) at ∙ past_term table bytes s.node t (terms_bytes table ts rs) d))))
    tiers_go (run v qs) ts deep deep' in_list inList' vs s e n bs rs h k c o one once g co few kn w d =
        let m = run_length qs ts in
        let a = taken m ts in
        let b = left m ts in
        let none_left : run_names qs ≡ 0 = omega arith in
        let sum : m + plain_children qs ≡ count ts = omega (arith, co.0) in
        let long : count a ≡ m = count_taken m ts (omega (arith, sum)) in
        let noted : get_or s.lengths v 0 ≡ count a = kn.own_run v refl ∙ sym long in
        let parted : ts ≡ a ⧺ b = taken_left m ts in
        let fits = fit_split table true a b deep' inList' (subst (λ (x : Terms). FitAll table true (term_trees x) deep' inList') parted k) in
        let there : drop s.node bytes ≡ terms_bytes table a (terms_bytes table b rs) =
        d ∙ ap (λ (x : Terms). terms_bytes table x rs) parted ∙ bytes_join table a b rs in
        let size_is : span_of table (drop s.node bytes) false (get_or s.lengths v 0) ≡ sizes table a =
        ap₂ (λ (l : List ℕ). span_of table l false) there noted ∙ span_terms table small true a deep' inList' (terms_bytes table b rs) fits.0 in
        let z = takes s v (sizes table a) (count a) in
        let joined : s.node + sizes table a + sizes table b ≡ s.node + sizes table ts = omega (arith, ap (sizes table) parted, sizes_join table a b) in
        let l : count b ≡ plain_children qs = count_left m ts (plain_children qs) sum in
        goes_in (leaf (Run v) (children_bytes table qs bs) s n (TakesRun v) h.0.1 refl (λ q. refl)
        ∙ ap₂ (λ (x y : ℕ). from (children_bytes table qs bs) (takes s v x y) (n + 1)) size_is noted) joined
        (λ u i. refl)
        (goes_less (tiers_go qs b deep deep' in_list inList' vs z (bind e v s.node a) (n + 1) bs rs h.1 fits.1 c o (omega arith) once.1
        (good_takes s e v a (omega (arith, h.0.1.1)) (λ i. absurd (omega (arith, h.0.1.0))) (omega (arith, few (λ i. omega arith), sum, long)) g
        (record { after = terms_bytes table b rs; stands = there; within = w; limited = record { left = deep'; in_list = inList'; fit = fits.0 } }))
        (omega (arith, l), λ i. l) (λ i. absurd (i none_left)) (known_behind s.lengths v qs (count ts) (count b) vs once none_left kn)
        (omega (arith, within_terms table bytes s.node a (terms_bytes table b rs) w there))
        (past_terms table bytes s.node a (terms_bytes table b rs) there)))

-- on accepted input

module _ (lang : Language) (pattern bytes : List ℕ) (alike : Alike lang.table lang.classes) (q : Pattern) (t : Term) (i : Input lang pattern bytes q t) (p : Plain q) where
  goes : (small : length lang.table ≤ largest_table) (short : length bytes ≤ longest_record)
      → Goes lang.table lang.classes bytes small alike short [] (standing_start no_parts) 0 (0 + size lang.table t) (vars q []) (tier_on lang.table lang.classes pattern bytes no_parts)
      (whole_tier lang q t).out (whole_tier lang q t).cost
  unfolding tier_on
  goes small short =
      subst (λ (l : List ℕ). Goes lang.table lang.classes bytes small alike short [] (standing_start no_parts) 0 (0 + size lang.table t) (vars q [])
      (tier_from lang.table lang.classes bytes l false (standing_start no_parts) 0) (whole_tier lang q t).out (whole_tier lang q t).cost)
      i.pattern_bytes_holds
      (tier_goes lang.table lang.classes bytes small alike short q t nesting nesting false false [] (standing_start no_parts) start 0 [] [] i.pattern_accepted.fits
      i.record_accepted.fits p.no_complement p.one_run p.no_variable_twice
      (record { lengths_room = refl; parts_room = refl; shown = subst (λ ps. Shown lang.table bytes ps start) (sym parts_none) (shown_start lang.table bytes) })
      (λ u m. get_or-replicate variables u 1 0 (low u m)) (omega arith) (sym i.record_bytes))
    where
      low : (u : ℕ) → among u (vars q []) ≡ true → u < variables
      low u m = vars_low lang.table q nesting false u i.pattern_accepted.fits m

  -- the answer told, and the buffer shown
  pub linked : (before : List ℕ) → answer_width ≤ length before
      → (told_ending (tier_on lang.table lang.classes pattern bytes no_parts) ≡ told (plain_answer lang q t))
      × (shown_ending (tier_on lang.table lang.classes pattern bytes no_parts) before ≡ written (bound_parts (plain_answer lang q t)) before)
  unfolding plain_answer shown_parts tier_from
  linked before wide =
      go (whole_tier lang q t).out (whole_tier lang q t).cost
      (goes (table_short lang.table i.table_accepted_holds) (short lang pattern bytes alike q t i 0))
    where
      go : (o : Option Env) (k : ℕ)
          → Goes lang.table lang.classes bytes (table_short lang.table i.table_accepted_holds) alike (short lang pattern bytes alike q t i 0) [] (standing_start no_parts) 0 (0 + size lang.table t) (vars q [])
          (tier_on lang.table lang.classes pattern bytes no_parts) o k
          → (told_ending (tier_on lang.table lang.classes pattern bytes no_parts) ≡ told (shown_tier lang.table o k))
          × (shown_ending (tier_on lang.table lang.classes pattern bytes no_parts) before ≡ written (bound_parts (shown_tier lang.table o k)) before)
      go o k (stops f n) =
          let z : 0 + k ≡ k = omega arith in
          rw (f, n) (ap (λ (m : ℕ). Ok (Answer.None m)) z, refl)
      go o k (passes {e} r at good kept x) =
          let z : 0 + k ≡ k = omega arith in (
            ap told_ending x ∙ ap (λ (m : ℕ). Ok (Bound m)) z,
            ap (λ (y : Ending). shown_ending y before) x
                ∙ rw (le-ltb (length before) answer_width wide) (ap (λ (ps : List Part). numbers ps ++ drop answer_width before) (sym (shown_parts_holds lang.table bytes _ e good.shown))),
          )
