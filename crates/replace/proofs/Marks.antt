-- Which variables are free, and which patterns are loose, found byte by byte.
use Prim.Native.Nat.{ℕ, zero, suc, ◌+◌, ◌-◌, ◌≤◌, ◌<◌}
use native.Mathlib.Omega.{arith}
use mathlib.Core.Path.{◌≡◌, refl, sym, ap, subst, ◌∙◌}
use mathlib.Core.Logic.{◌⊎◌, inl, inr}
use mathlib.Core.List.{List, [], ◌∷◌}
use mathlib.Core.Bool.{Bool, true, false, cond, not, ◌||◌, or-true, or-false, false≢true}
use lib.ListN.{length, get_or, set, take, drop, length-drop, length-set}
use lib.Seq.{get_or-set_same, get_or-set_other}
use lib.Dec.{eqb, leb}
use borrow.Author.Tests.{eqb-true, eqb-false, leb-true}
use Rattle.term.specs.Table.{entries_accepted, table_accepted}
use Rattle.term.specs.Code.{decode_of, VariableBelow}
use Rattle.term.specs.Pattern.{Pattern, Children, name, symbol, complement, end, plain, run, pattern_tree}
use Rattle.term.specs.Limits.{Shape, Fits}
use Rattle.term.specs.Tree.{encode}
use Rattle.term.specs.Extent.{extent_of}
use Rattle.term.specs.declared.Code.{Code}
use Rattle.term.specs.declared.Code.TheVariants.{Symbol, Name, Run, Complement}
use Rattle.term.proofs.Codes.{decode_below}
use Rattle.anti_pattern.specs.Variables.{vars_all, free, among}
use Rattle.replace.specs.Loose.{loose, loose_all}
use Rattle.replace.specs.Filling.{own_bytes, children_bytes, Limited, Marks, Reads, MarksFree, MarksLoose, TellsLoose}
use Rattle.replace.proofs.Forests.{◌⊞◌, limited_both, vars_both, loose_both, fit_limited, head_code, none_left, symbol_only, name_only, run_only, complement_only, refused_only, part_rest, past_symbol, past_name, past_run, past_child}

pub small_table : (table : List ℕ) → table_accepted table ≡ true → length table ≤ 200
unfolding table_accepted
small_table table h = go (leb (length table) 200) refl h
  where
    go : (b : Bool) → leb (length table) 200 ≡ b → cond b (entries_accepted table) false ≡ true → length table ≤ 200
    go true e h = leb-true (length table) 200 e
    go false e h = absurd (false≢true h)

-- no mark is set
abbrev pub unmarked : List Bool → Bool
unmarked [] = true
unmarked (true ∷ l) = false
unmarked (false ∷ l) = unmarked l

abbrev pub none_marked : List Bool
none_marked = false ∷ false ∷ false ∷ false ∷ false ∷ false ∷ false ∷ false ∷ false ∷ false ∷ false ∷ false ∷ false ∷ false ∷ false ∷ false ∷ false ∷ false ∷ false ∷ false ∷ false ∷ false ∷ false ∷ false ∷ false ∷ false ∷ false ∷ false ∷ false ∷ false ∷ false ∷ false ∷ false ∷ false ∷ false ∷ false ∷ false ∷ false ∷ false ∷ false ∷ false ∷ false ∷ false ∷ false ∷ false ∷ false ∷ false ∷ false ∷ []

pub unmarked_at : (l : List Bool) (v : ℕ) → unmarked l ≡ true → get_or l v false ≡ false
unmarked_at [] v h = refl
unmarked_at (true ∷ l) v h = absurd (false≢true h)
unmarked_at (false ∷ l) zero h = refl
unmarked_at (false ∷ l) (suc v) h = unmarked_at l v h

-- a code's variable is one of the 48
name_below : (b x : ℕ) → decode_of b ≡ Name x → x < 48
unfolding VariableBelow
name_below b x e = subst VariableBelow e (decode_below b)

run_below : (b x : ℕ) → decode_of b ≡ Run x → x < 48
unfolding VariableBelow
run_below b x e = subst VariableBelow e (decode_below b)

pub variable_below : (b : ℕ) (code : Code) → code ≡ decode_of b → (x : ℕ) → (code ≡ Name x) ⊎ (code ≡ Run x) → x < 48
variable_below b code d x (inl e) = name_below b x (sym d ∙ e)
variable_below b code d x (inr e) = run_below b x (sym d ∙ e)

-- the children of a symbol, and that it is in the table
symbol_fits : (table : List ℕ) (x : ℕ) (ks : Children) (left : ℕ) (in_list : Bool) → Fits table false (pattern_tree (symbol x ks)) left in_list
    → (x < length table) × Limited table ks
unfolding Fits Shape
symbol_fits table x ks left in_list f = (f.2.0, fit_limited table ks _ _ f.3)

-- what is still to come of a pattern's bytes
pub record ToCome (table s : List ℕ) (at : ℕ) (qs : Children) : Type 0 where
  pub stands : drop at s ≡ children_bytes table qs []
  pub limited : Limited table qs

module _ (table s : List ℕ) where
  pub whole_to_come : (q : Pattern) → Reads table s q → ToCome table s 0 (plain q end)
  unfolding encode
  whole_to_come q r = record { stands = sym r.bytes; limited = ((32, false, r.fits), tt) }

  module _ (small : length table ≤ 200) (at : ℕ) (l : at < length s) (qs : Children) (t : ToCome table s at qs) where
    pub symbol_next : (x : ℕ) → decode_of (get_or s at 0) ≡ Symbol x
        → (ks : Children) × (rs : Children) × (qs ≡ plain (symbol x ks) rs) × ToCome table s (at + own_bytes table (get_or s at 0)) (ks ⊞ rs)
    symbol_next x e =
        let o = symbol_only qs x (sym (head_code table s at qs l t.stands t.limited) ∙ e) in
        let k : Limited table (plain (symbol x o.0) o.1) = subst (Limited table) o.2 t.limited in
        let f = symbol_fits table x o.0 k.0.0 k.0.1 k.0.2 in
        let p = past_symbol table s small at x o.0 o.1 [] f.0 (subst (λ (y : Children). drop at s ≡ children_bytes table y []) o.2 t.stands) in (
          o.0,
          o.1,
          o.2,
          record { stands = ap (λ (b : ℕ). drop (at + own_bytes table b) s) p.0 ∙ p.1; limited = limited_both table o.0 o.1 f.1 k.1 },
        )

    pub name_next : (x : ℕ) → decode_of (get_or s at 0) ≡ Name x → (rs : Children) × (qs ≡ plain (name x) rs) × ToCome table s (at + 1) rs
    name_next x e =
        let o = name_only qs x (sym (head_code table s at qs l t.stands t.limited) ∙ e) in
        let k : Limited table (plain (name x) o.0) = subst (Limited table) o.1 t.limited in (
          o.0,
          o.1,
          record { stands = past_name table s small at x o.0 [] (subst (λ (y : Children). drop at s ≡ children_bytes table y []) o.1 t.stands); limited = k.1 },
        )

    pub run_next : (x : ℕ) → decode_of (get_or s at 0) ≡ Run x → (rs : Children) × (qs ≡ run x rs) × ToCome table s (at + 1) rs
    run_next x e =
        let o = run_only qs x (sym (head_code table s at qs l t.stands t.limited) ∙ e) in
        let k : Limited table (run x o.0) = subst (Limited table) o.1 t.limited in (
          o.0,
          o.1,
          record { stands = past_run table s small at x o.0 [] (subst (λ (y : Children). drop at s ≡ children_bytes table y []) o.1 t.stands); limited = k.1 },
        )

    pub complement_next : decode_of (get_or s at 0) ≡ Complement
        → (q : Pattern) × (rs : Children) × (qs ≡ plain (complement q) rs) × ToCome table s (at + extent_of table (drop at s)) rs
    complement_next e =
        let o = complement_only qs (sym (head_code table s at qs l t.stands t.limited) ∙ e) in
        let k : Limited table (plain (complement o.0) o.1) = subst (Limited table) o.2 t.limited in (
          o.0,
          o.1,
          o.2,
          record {
            stands =
                (past_child table s small at (complement o.0) o.1 [] k.0.0 k.0.1 k.0.2
                (subst (λ (y : Children). drop at s ≡ children_bytes table y []) o.2 t.stands)).1;
            limited = k.1;
          },
        )

    pub refused_never : decode_of (get_or s at 0) ≡ Code.Refused → ⊥
    unfolding encode
    refused_never e =
        let o = refused_only qs (sym (head_code table s at qs l t.stands t.limited) ∙ e) in
        omega (arith, length-drop at s, ap length (t.stands ∙ ap (λ (y : Children). children_bytes table y []) o))

  pub over_none : (at : ℕ) (qs : Children) → length s ≤ at → ToCome table s at qs → qs ≡ end
  over_none at qs l t = none_left table s at qs l t.stands

  -- The free variables: those marked, and those still to come

  pub record Marking (marks : List Bool) (at : ℕ) : Type 0 where
    pub long : length marks ≡ 48
    pub state : (p : Pattern) → Reads table s p
        → (qs : Children) × ToCome table s at qs × ((v : ℕ) → v < 48 → among v (free p) ≡ (get_or marks v false || among v (vars_all qs [])))

  pub marking_first : (marks : List Bool) → length marks ≡ 48 → ((v : ℕ) → get_or marks v false ≡ false) → Marking marks 0
  marking_first marks l z = record {
    long = l;
    state = λ p r. (plain p end, whole_to_come p r, λ v low. sym (ap (λ (b : Bool). b || among v (free p)) (z v)));
  }

  module _ (marks : List Bool) (at : ℕ) (l : at < length s) (m : Marking marks at) where
    pub marking_symbol : (x : ℕ) → decode_of (get_or s at 0) ≡ Symbol x → Marking marks (at + own_bytes table (get_or s at 0))
    marking_symbol x e = record {
      long = m.long;
      state = λ p r.
          let g = m.state p r in
          let n = symbol_next (small_table table r.table_accepted_holds) at l g.0 g.1 x e in (
            n.0 ⊞ n.1,
            n.3,
            λ v low. g.2 v low ∙ ap (λ (y : Children). get_or marks v false || among v (vars_all y [])) n.2
                ∙ ap (λ (y : List ℕ). get_or marks v false || among v y) (sym (vars_both n.0 n.1 [])),
          );
    }

    marked : (x v : ℕ) (ys : List ℕ) → x < 48 → (get_or marks v false || among v (x ∷ ys)) ≡ (get_or (set marks x true) v false || among v ys)
    marked x v ys low = go (eqb x v) refl
      where
        go : (b : Bool) → eqb x v ≡ b → (get_or marks v false || cond b true (among v ys)) ≡ (get_or (set marks x true) v false || among v ys)
        go true e =
            or-true (get_or marks v false)
            ∙ sym (ap (λ (y : Bool). y || among v ys) (ap (λ (i : ℕ). get_or (set marks x true) i false) (sym (eqb-true x v e)) ∙ get_or-set_same marks x true false (omega (arith, m.long))))
        go false e = sym (ap (λ (y : Bool). y || among v ys) (get_or-set_other marks x v true false (λ z. eqb-false x v e (sym z))))

    marking_name : (x : ℕ) → x < 48 → decode_of (get_or s at 0) ≡ Name x → Marking (set marks x true) (at + 1)
    marking_name x low e = record {
      long = length-set marks x true ∙ m.long;
      state = λ p r.
          let g = m.state p r in
          let n = name_next (small_table table r.table_accepted_holds) at l g.0 g.1 x e in (
            n.0,
            n.2,
            λ v b. g.2 v b ∙ ap (λ (y : Children). get_or marks v false || among v (vars_all y [])) n.1 ∙ marked x v (vars_all n.0 []) low,
          );
    }

    marking_run : (x : ℕ) → x < 48 → decode_of (get_or s at 0) ≡ Run x → Marking (set marks x true) (at + 1)
    marking_run x low e = record {
      long = length-set marks x true ∙ m.long;
      state = λ p r.
          let g = m.state p r in
          let n = run_next (small_table table r.table_accepted_holds) at l g.0 g.1 x e in (
            n.0,
            n.2,
            λ v b. g.2 v b ∙ ap (λ (y : Children). get_or marks v false || among v (vars_all y [])) n.1 ∙ marked x v (vars_all n.0 []) low,
          );
    }

    pub marking_variable : (code : Code) → code ≡ decode_of (get_or s at 0) → (x : ℕ) → (code ≡ Name x) ⊎ (code ≡ Run x) → Marking (set marks x true) (at + 1)
    marking_variable code d x (inl e) = marking_name x (name_below _ x (sym d ∙ e)) (sym d ∙ e)
    marking_variable code d x (inr e) = marking_run x (run_below _ x (sym d ∙ e)) (sym d ∙ e)

    pub marking_complement : (n : ℕ) → decode_of (get_or s at 0) ≡ Complement → n ≡ extent_of table (take (length s - at) (drop at s)) → Marking marks (at + n)
    marking_complement k e i = record {
      long = m.long;
      state = λ p r.
          let g = m.state p r in
          let n = complement_next (small_table table r.table_accepted_holds) at l g.0 g.1 e in (
            n.1,
            subst (λ (j : ℕ). ToCome table s (at + j) n.1) (sym (i ∙ ap (extent_of table) (part_rest s at))) n.3,
            λ v b. g.2 v b ∙ ap (λ (y : Children). get_or marks v false || among v (vars_all y [])) n.2,
          );
    }

    pub marking_refused : decode_of (get_or s at 0) ≡ Code.Refused → MarksFree table s marks
    unfolding MarksFree
    marking_refused e p r = let g = m.state p r in absurd (refused_never (small_table table r.table_accepted_holds) at l g.0 g.1 e)

  pub marking_last : (marks : List Bool) (at : ℕ) → length s ≤ at → Marking marks at → MarksFree table s marks
  unfolding MarksFree
  marking_last marks at l m p r v b =
      let g = m.state p r in
      sym (g.2 v b ∙ ap (λ (y : Children). get_or marks v false || among v (vars_all y [])) (over_none at g.0 l g.1) ∙ or-false (get_or marks v false))

  -- Loose: by what is still to come

  abbrev pub Loosening : List Bool → ℕ → Type 0
  Loosening marks at = (q : Pattern) → Reads table s q → (vs : List ℕ) → Marks marks vs → (qs : Children) × ToCome table s at qs × (loose vs q ≡ loose_all vs qs)

  pub loosening_first : (marks : List Bool) → Loosening marks 0
  loosening_first marks q r vs k = (plain q end, whole_to_come q r, sym (or-false (loose vs q)))

  module _ (marks : List Bool) (at : ℕ) (l : at < length s) (m : Loosening marks at) where
    pub loosening_symbol : (x : ℕ) → decode_of (get_or s at 0) ≡ Symbol x → Loosening marks (at + own_bytes table (get_or s at 0))
    loosening_symbol x e q r vs k =
        let g = m q r vs k in
        let n = symbol_next (small_table table r.table_accepted_holds) at l g.0 g.1 x e in
        (n.0 ⊞ n.1, n.3, g.2 ∙ ap (loose_all vs) n.2 ∙ sym (loose_both vs n.0 n.1))

    loosening_name : (x : ℕ) → x < 48 → decode_of (get_or s at 0) ≡ Name x → get_or marks x false ≡ true → Loosening marks (at + 1)
    loosening_name x low e b q r vs k =
        let g = m q r vs k in
        let n = name_next (small_table table r.table_accepted_holds) at l g.0 g.1 x e in
        (n.0, n.2, g.2 ∙ ap (loose_all vs) n.1 ∙ ap (λ (y : Bool). not y || loose_all vs n.0) (sym (k x low) ∙ b))

    loosening_run : (x : ℕ) → x < 48 → decode_of (get_or s at 0) ≡ Run x → get_or marks x false ≡ true → Loosening marks (at + 1)
    loosening_run x low e b q r vs k =
        let g = m q r vs k in
        let n = run_next (small_table table r.table_accepted_holds) at l g.0 g.1 x e in
        (n.0, n.2, g.2 ∙ ap (loose_all vs) n.1 ∙ ap (λ (y : Bool). not y || loose_all vs n.0) (sym (k x low) ∙ b))

    name_loose : (x : ℕ) → x < 48 → decode_of (get_or s at 0) ≡ Name x → get_or marks x false ≡ false → MarksLoose table s marks true
    unfolding MarksLoose
    name_loose x low e b q r vs k =
        let g = m q r vs k in
        let n = name_next (small_table table r.table_accepted_holds) at l g.0 g.1 x e in
        sym (g.2 ∙ ap (loose_all vs) n.1 ∙ ap (λ (y : Bool). not y || loose_all vs n.0) (sym (k x low) ∙ b))

    run_loose : (x : ℕ) → x < 48 → decode_of (get_or s at 0) ≡ Run x → get_or marks x false ≡ false → MarksLoose table s marks true
    unfolding MarksLoose
    run_loose x low e b q r vs k =
        let g = m q r vs k in
        let n = run_next (small_table table r.table_accepted_holds) at l g.0 g.1 x e in
        sym (g.2 ∙ ap (loose_all vs) n.1 ∙ ap (λ (y : Bool). not y || loose_all vs n.0) (sym (k x low) ∙ b))

    complement_loose : decode_of (get_or s at 0) ≡ Complement → MarksLoose table s marks true
    unfolding MarksLoose
    complement_loose e q r vs k =
        let g = m q r vs k in
        let n = complement_next (small_table table r.table_accepted_holds) at l g.0 g.1 e in
        sym (g.2 ∙ ap (loose_all vs) n.2)

    refused_loose : decode_of (get_or s at 0) ≡ Code.Refused → MarksLoose table s marks true
    unfolding MarksLoose
    refused_loose e q r vs k = let g = m q r vs k in absurd (refused_never (small_table table r.table_accepted_holds) at l g.0 g.1 e)

    module _ (code : Code) (d : code ≡ decode_of (get_or s at 0)) where
      pub loosening_variable : (x : ℕ) → (code ≡ Name x) ⊎ (code ≡ Run x) → get_or marks x false ≡ true → Loosening marks (at + 1)
      loosening_variable x (inl e) = loosening_name x (name_below _ x (sym d ∙ e)) (sym d ∙ e)
      loosening_variable x (inr e) = loosening_run x (run_below _ x (sym d ∙ e)) (sym d ∙ e)

      pub variable_loose : (x : ℕ) → (code ≡ Name x) ⊎ (code ≡ Run x) → get_or marks x false ≡ false → MarksLoose table s marks true
      variable_loose x (inl e) = name_loose x (name_below _ x (sym d ∙ e)) (sym d ∙ e)
      variable_loose x (inr e) = run_loose x (run_below _ x (sym d ∙ e)) (sym d ∙ e)

      pub other_loose : (code ≡ Complement) ⊎ (code ≡ Code.Refused) → MarksLoose table s marks true
      other_loose (inl e) = complement_loose (sym d ∙ e)
      other_loose (inr e) = refused_loose (sym d ∙ e)

  pub loosening_last : (marks : List Bool) (at : ℕ) → length s ≤ at → Loosening marks at → MarksLoose table s marks false
  unfolding MarksLoose
  loosening_last marks at l m q r vs k = let g = m q r vs k in sym (g.2 ∙ ap (loose_all vs) (over_none at g.0 l g.1))

-- the two passes together
pub tells_loose : (table rule template : List ℕ) (marks : List Bool) (b : Bool) → MarksFree table rule marks → MarksLoose table template marks b
    → TellsLoose table rule template b
unfolding MarksFree MarksLoose TellsLoose
tells_loose table rule template marks b f g p q x y = g q y (free p) (f p x)
