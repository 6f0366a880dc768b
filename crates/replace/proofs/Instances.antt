-- A template's instance is the one term of which the template holds, as it stands.
use Prim.Native.Nat.{ℕ, suc, ◌<◌}
use native.Mathlib.Omega.{arith}
use mathlib.Core.Path.{◌≡◌, refl, sym, ap, ap₂, subst, ◌∙◌}
use mathlib.Core.List.{List, [], ◌∷◌}
use mathlib.Core.Bool.{Bool, true, false, cond, not, ◌||◌, true≢false, false≢true}
use lib.Dec.{eqb}
use lib.ListN.{get_or}
use borrow.Author.Tests.{eqb-true, not-false}
use Rattle.term.specs.Code.{names}
use Rattle.term.specs.Class.{class_of}
use Rattle.term.specs.Same.{same_term, same_terms}
use Rattle.term.specs.Table.{is_list}
use Rattle.term.specs.Tree.{number, list_code}
use Rattle.term.specs.Term.{Term, Terms, node, nil, ◌::◌, ◌⧺◌, single, count}
use Rattle.term.specs.Pattern.{Pattern, Children, name, symbol, complement, end, plain, run, pattern_tree, child_trees}
use Rattle.term.specs.Limits.{Written, Counted, Shape, below_of, Fits, FitAll}
use Rattle.term.specs.declared.Code.TheVariants.{Symbol}
use Rattle.term.proofs.SameParts.{same_term_holds, same_terms_holds, term_equal, terms_equal}
use Rattle.anti_pattern.specs.Language.{Language, Over, OverAll, TermsOf, ◌⊢◌≈◌, ◌⊢◌≋◌}
use Rattle.anti_pattern.specs.Meaning.{Assignment, ExtendsAt, Extends, Holds, HoldAll, Satisfies}
use Rattle.anti_pattern.specs.Place.{assigned}
use Rattle.anti_pattern.specs.Variables.{vars, vars_all, free, among}
use Rattle.anti_pattern.proofs.Alike.{node_same, cons_open, cons_same}
use Rattle.anti_pattern.proofs.Facts.{some_same}
use Rattle.replace.specs.Demands.{exactly}
use Rattle.replace.specs.Instance.{term_assigned, instance, instances}
use Rattle.replace.specs.Loose.{loose, loose_all}
use Rattle.std.specs.Prelude.{Option, Some, None}

pub neither : (a b : Bool) → (a || b) ≡ false → (a ≡ false) × (b ≡ false)
neither true b h = absurd (true≢false h)
neither false b h = (refl, h)

-- in the language without classes the same is equal
equal_term : (t u : Term) → same_term [] t u ≡ true → t ≡ u
equal_term = term_equal [] (λ s. refl)

equal_terms : (ts us : Terms) → same_terms [] ts us ≡ true → ts ≡ us
equal_terms = terms_equal [] (λ s. refl)

single_same : {t u : Term} → single t ≡ single u → t ≡ u
single_same e = cc

-- terms over a table

pub over_join : (table : List ℕ) (us ts : Terms) → OverAll table us → OverAll table ts → OverAll table (us ⧺ ts)
over_join table nil ts h g = g
over_join table (u :: us) ts h g = (h.0, over_join table us ts h.1 g)

each_over : (l : Language) (ts : Terms) → TermsOf l ts → OverAll l.table ts
each_over l nil h = tt
each_over l (t :: ts) h = (h.0.0, each_over l ts h.1)

module _ (l : Language) (vs : List ℕ) where
  -- of what a template holds under assignments that agree on the variables

  module _ (x y : Assignment) (agree : (v : ℕ) → among v vs ≡ true → x v ≡ y v) where
    mutual
      pub instance_only : (q : Pattern) (u : Term) → loose vs q ≡ false → Holds (exactly l) (TermsOf l) q x u → instance q y ≡ u
      instance_only (name v) u n h =
          ap term_assigned (sym (agree v (not-false (among v vs) n)) ∙ h.1) ∙ equal_term h.0 u h.2
      instance_only (symbol s qs) (node r ts) n h = ap₂ node h.0 (instances_only qs ts n h.1)
      instance_only (complement q) u n h = absurd (true≢false n)

      instances_only : (qs : Children) (ts : Terms) → loose_all vs qs ≡ false → HoldAll (exactly l) (TermsOf l) qs x ts → instances qs y ≡ ts
      instances_only end ts n h = sym h
      instances_only (plain q qs) nil n h = absurd h
      instances_only (plain q qs) (t :: ts) n h =
          let m = neither (loose vs q) (loose_all vs qs) n in
          ap₂ ◌::◌ (instance_only q t m.0 h.0) (instances_only qs ts m.1 h.1)
      instances_only (run v qs) ts n h =
          let m = neither (not (among v vs)) (loose_all vs qs) n in
          ap₂ ◌⧺◌ (ap assigned (sym (agree v (not-false (among v vs) m.0)) ∙ h.3) ∙ equal_terms h.0 h.1 h.4) (instances_only qs h.2 m.1 h.6) ∙ sym h.5

  module _ (a : Assignment) where
    -- the variables are assigned terms of the language, the names among them a single one each
    pub record Assigns : Type 0 where
      pub names_one : (v : ℕ) → v < names → among v vs ≡ true → (t : Term) × (a v ≡ Some (single t))
      pub assigns : (v : ℕ) → among v vs ≡ true → (w : Terms) × TermsOf l w × (a v ≡ Some w)

    module _ (had : Assigns) where
      mutual
        unfolding Fits Written

        pub instance_holds : (q : Pattern) (left : ℕ) (in_list : Bool) → Fits l.table false (pattern_tree q) left in_list → loose vs q ≡ false
            → Holds (exactly l) (TermsOf l) q a (instance q a)
        instance_holds (name v) left in_list f n =
            let m = had.names_one v f.1 (not-false (among v vs) n) in
            (m.0, m.1, subst (λ (t : Term). same_term [] m.0 t ≡ true) (sym (ap term_assigned m.1)) (same_term_holds [] m.0))
        instance_holds (symbol s qs) left in_list f n = (refl, instances_hold qs (below_of (Symbol s) left) (list_code l.table (Symbol s)) f.3 n)
        instance_holds (complement q) left in_list f n = absurd (true≢false n)

        instances_hold : (qs : Children) (left : ℕ) (in_list : Bool) → FitAll l.table false (child_trees qs) left in_list → loose_all vs qs ≡ false
            → HoldAll (exactly l) (TermsOf l) qs a (instances qs a)
        instances_hold end left in_list f n = refl
        instances_hold (plain q qs) left in_list f n =
            let m = neither (loose vs q) (loose_all vs qs) n in
            (instance_holds q left in_list f.0 m.0, instances_hold qs left in_list f.1 m.1)
        instances_hold (run v qs) left in_list f n =
            let m = neither (not (among v vs)) (loose_all vs qs) n in
            let w = had.assigns v (not-false (among v vs) m.0) in
            (w.0, w.0, instances qs a, w.2, same_terms_holds [] w.0, ap (λ (o : Option Terms). assigned o ⧺ instances qs a) w.2, instances_hold qs left in_list f.1 m.1)

      -- a result is over the table

      -- a symbol with a fixed number of children has no run names for children
      children_count : (qs : Children) (ts : Terms) (left : ℕ) (in_list : Bool) → in_list ≡ false → FitAll l.table false (child_trees qs) left in_list
          → HoldAll (exactly l) (TermsOf l) qs a ts → count ts ≡ number (child_trees qs)
      unfolding Fits Shape number
      children_count end ts left in_list e f h = ap count h
      children_count (plain q qs) nil left in_list e f h = absurd h
      children_count (plain q qs) (t :: ts) left in_list e f h = ap suc (children_count qs ts left in_list e f.1 h.1)
      children_count (run v qs) ts left in_list e f h = absurd (true≢false (sym f.0.2.1 ∙ e))

      counted_fixed : (b : Bool) (n k : ℕ) → Counted b n k → b ≡ false → n ≡ k
      counted_fixed true n k c e = absurd (true≢false e)
      counted_fixed false n k c e = c

      assigned_over : (v : ℕ) (w : Terms) → among v vs ≡ true → a v ≡ Some w → OverAll l.table w
      assigned_over v w m e = let z = had.assigns v m in subst (OverAll l.table) (some_same (sym z.2 ∙ e)) (each_over l z.0 z.1)

      mutual
        unfolding Fits Shape list_code

        pub result_over : (q : Pattern) (u : Term) (left : ℕ) (in_list : Bool) → Fits l.table false (pattern_tree q) left in_list → loose vs q ≡ false
            → Holds (exactly l) (TermsOf l) q a u → Over l.table u
        result_over (name v) u left in_list f n h =
            subst (Over l.table) (equal_term h.0 u h.2) (assigned_over v (single h.0) (not-false (among v vs) n) h.1).0
        result_over (symbol s qs) (node r ts) left in_list f n h =
            subst (λ (x : ℕ). Over l.table (node x ts)) h.0 (
              f.2.0,
              λ e. children_count qs ts (below_of (Symbol s) left) (is_list l.table s) e f.3 h.1
                  ∙ counted_fixed (is_list l.table s) (number (child_trees qs)) (get_or l.table s 0) f.2.1 e,
              results_over qs ts (below_of (Symbol s) left) (list_code l.table (Symbol s)) f.3 n h.1,
            )
        result_over (complement q) u left in_list f n h = absurd (true≢false n)

        results_over : (qs : Children) (ts : Terms) (left : ℕ) (in_list : Bool) → FitAll l.table false (child_trees qs) left in_list → loose_all vs qs ≡ false
            → HoldAll (exactly l) (TermsOf l) qs a ts → OverAll l.table ts
        results_over end ts left in_list f n h = subst (OverAll l.table) (sym h) tt
        results_over (plain q qs) nil left in_list f n h = absurd h
        results_over (plain q qs) (t :: ts) left in_list f n h =
            let m = neither (loose vs q) (loose_all vs qs) n in
            (result_over q t left in_list f.0 m.0 h.0, results_over qs ts left in_list f.1 m.1 h.1)
        results_over (run v qs) ts left in_list f n h =
            let m = neither (not (among v vs)) (loose_all vs qs) n in
            let w : OverAll l.table h.1 = subst (OverAll l.table) (equal_terms h.0 h.1 h.4) (assigned_over v h.0 (not-false (among v vs) m.0) h.3) in
            subst (OverAll l.table) (sym h.5) (over_join l.table h.1 h.2 w (results_over qs h.2 left in_list f.1 m.1 h.6))

    -- of two terms of which a template holds, of one as it stands and of one up to class, the one is the other up to class

    join_same : (w x ts us : Terms) → l ⊢ w ≋ x → l ⊢ ts ≋ us → l ⊢ (w ⧺ ts) ≋ (x ⧺ us)
    join_same nil nil ts us h k = k
    join_same nil (y :: x) ts us h k = absurd (false≢true h)
    join_same (t :: w) nil ts us h k = absurd (false≢true h)
    join_same (t :: w) (y :: x) ts us h k =
        let c = cons_open l t y w x h in cons_same l t y (w ⧺ ts) (x ⧺ us) c.0 (join_same w x ts us c.1 k)

    mutual
      pub same_up_to : (q : Pattern) (u t : Term) → loose vs q ≡ false → Holds (exactly l) (TermsOf l) q a u → Holds l (TermsOf l) q a t → l ⊢ u ≈ t
      same_up_to (name v) u t n h k =
          let w : h.0 ≡ k.0 = single_same (some_same (sym h.1 ∙ k.1)) in
          subst (λ (x : Term). l ⊢ x ≈ t) (sym w ∙ equal_term h.0 u h.2) k.2
      same_up_to (symbol s qs) (node r us) (node x ts) n h k =
          node_same l r x us ts (subst (λ (y : ℕ). class_of l.classes y ≡ class_of l.classes x) h.0 k.0) (all_same_up_to qs us ts n h.1 k.1)
      same_up_to (complement q) u t n h k = absurd (true≢false n)

      all_same_up_to : (qs : Children) (us ts : Terms) → loose_all vs qs ≡ false → HoldAll (exactly l) (TermsOf l) qs a us → HoldAll l (TermsOf l) qs a ts → l ⊢ us ≋ ts
      all_same_up_to end us ts n h k = rw (h, k)
      all_same_up_to (plain q qs) nil ts n h k = absurd h
      all_same_up_to (plain q qs) (u :: us) nil n h k = absurd k
      all_same_up_to (plain q qs) (u :: us) (t :: ts) n h k =
          let m = neither (loose vs q) (loose_all vs qs) n in
          cons_same l u t us ts (same_up_to q u t m.0 h.0 k.0) (all_same_up_to qs us ts m.1 h.1 k.1)
      all_same_up_to (run v qs) us ts n h k =
          let m = neither (not (among v vs)) (loose_all vs qs) n in
          let w : h.1 ≡ k.0 = sym (equal_terms h.0 h.1 h.4) ∙ some_same (sym h.3 ∙ k.3) in
          let x : l ⊢ h.1 ≋ k.1 = subst (λ (y : Terms). l ⊢ y ≋ k.1) (sym w) k.4 in
          rw (h.5, k.5) (join_same h.1 k.1 h.2 k.2 x (all_same_up_to qs h.2 k.2 m.1 h.6 k.6))

-- A satisfying assignment assigns the free variables, and each free name a single term

module _ (l : Language) (a : Assignment) (v : ℕ) (low : v < names) where
  abbrev One : ℕ → Type 0
  One u = (t : Term) × (a u ≡ Some (single t))

  name_first : (u : ℕ) (vs : List ℕ) → (u ≡ v → One v) → (among v vs ≡ true → One v) → among v (u ∷ vs) ≡ true → One v
  name_first u vs g f m = go (eqb u v) refl m
    where
      go : (c : Bool) → eqb u v ≡ c → cond c true (among v vs) ≡ true → One v
      go true e m = g (eqb-true u v e)
      go false e m = f m

  mutual
    unfolding Fits Written

    name_one : (p : Pattern) (t : Term) (left : ℕ) (in_list : Bool) (vs : List ℕ) → Fits l.table false (pattern_tree p) left in_list → Holds l (TermsOf l) p a t
        → (among v vs ≡ true → One v) → among v (vars p vs) ≡ true → One v
    name_one (name u) t left in_list vs f h g m = name_first u vs (λ e. subst One e (h.0, h.1)) g m
    name_one (symbol s qs) (node r ts) left in_list vs f h g m =
        all_names_one qs ts (below_of (Symbol s) left) (list_code l.table (Symbol s)) vs f.3 h.1 g m
    name_one (complement q) t left in_list vs f h g m = g m

    all_names_one : (qs : Children) (ts : Terms) (left : ℕ) (in_list : Bool) (vs : List ℕ) → FitAll l.table false (child_trees qs) left in_list
        → HoldAll l (TermsOf l) qs a ts → (among v vs ≡ true → One v) → among v (vars_all qs vs) ≡ true → One v
    all_names_one end ts left in_list vs f h g m = g m
    all_names_one (plain q qs) nil left in_list vs f h g m = absurd h
    all_names_one (plain q qs) (t :: ts) left in_list vs f h g m =
        name_one q t left in_list (vars_all qs vs) f.0 h.0 (all_names_one qs ts left in_list vs f.1 h.1 g) m
    all_names_one (run u qs) ts left in_list vs f h g m =
        name_first u (vars_all qs vs) (λ e. absurd (omega (arith, f.0.1.0))) (all_names_one qs h.2 left in_list vs f.1 h.6 g) m

pub satisfies_assigns : (l : Language) (p : Pattern) (t : Term) (a : Assignment) → Fits l.table false (pattern_tree p) 32 false → Satisfies l p t a
    → Assigns l (free p) a
unfolding Extends
satisfies_assigns l p t a f s = record {
  names_one = λ v low m. name_one l a v low p t 32 false [] f s.holds (λ n. absurd (false≢true n)) m;
  assigns = λ v m. subst (λ (b : Bool). ExtendsAt (TermsOf l) None b (a v)) m (s.exact v);
}
