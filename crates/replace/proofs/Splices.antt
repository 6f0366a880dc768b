-- A template that is spliced on the way is its instance, spliced by the converter's splicing: where the parts that are put in are spliced already.
use Prim.Native.Nat.{ℕ, suc}
use mathlib.Core.Path.{◌≡◌, refl, sym, ap, ap₂, subst, ◌∙◌}
use mathlib.Core.List.{List}
use mathlib.Core.Bool.{Bool, true, false, not, cond, true≢false}
use borrow.Author.Tests.{not-false}
use Rattle.term.specs.Class.{class_of}
use Rattle.term.specs.Pattern.{Pattern, Children, name, symbol, complement, end, plain, run, pattern_tree, child_trees}
use Rattle.term.specs.Splicing.{Spliced}
use Rattle.term.specs.Table.{is_list}
use Rattle.term.specs.Term.{Term, Terms, node, nil, ◌::◌, ◌⧺◌, single, count, term_tree, term_trees, term_of}
use Rattle.term.specs.Tree.{branch, more}
use Rattle.term.specs.declared.Code.TheVariants.{Symbol}
use Rattle.term.specs.declared.Edition.{Edition}
use Rattle.term.specs.declared.Edition.TheVariants.{One, Two}
use Rattle.term.proofs.Splicing.{one_spliced}
use Rattle.term.proofs.Trees.{term_back}
use Rattle.splice.specs.Splicing as converter
use Rattle.term.specs.Splicing.{class_in, same_list}
use Rattle.splice.specs.Splicing.{◌⊕◌, list_class, splice_term}
use Rattle.splice.proofs.ByClass.{SplicedIn, AllSplicedIn}
use Rattle.splice.proofs.Splicing.{splice_spliced, spliced_same, spliced_two, two_spliced}
use Rattle.anti_pattern.specs.Language.{Language, language, Over, OverAll, TermOf, TermsOf}
use Rattle.anti_pattern.specs.Meaning.{Assignment}
use Rattle.anti_pattern.specs.Place.{assigned}
use Rattle.anti_pattern.specs.Variables.{among}
use Rattle.anti_pattern.proofs.First.{none_is}
use Rattle.replace.specs.Filling.{Apart, AllApart}
use Rattle.replace.specs.Instance.{term_assigned, instance, instances}
use Rattle.replace.specs.Loose.{loose, loose_all}
use Rattle.replace.specs.Splice.{spliced_by, listed_by, listed_in, placed, placed_all, spliced_instance, spliced_instances}
use Rattle.replace.proofs.Instances.{neither, over_join}
use Rattle.std.specs.Prelude.{Some, None, Option}

-- edition 1: nothing is a list in a list

abbrev unlisted : ℕ → Option ℕ
unlisted s = None

nothing_direct : (around : Option ℕ) → same_list around None ≡ false
nothing_direct None = refl
nothing_direct (Some c) = refl

placed_whole : (around : Option ℕ) (t : Term) (ts : Terms) → placed unlisted around t ts ≡ t :: ts
placed_whole around (node s us) ts = ap (λ (b : Bool). cond b (us ⧺ ts) (node s us :: ts)) (nothing_direct around)

placed_all_whole : (around : Option ℕ) (ts rest : Terms) → placed_all unlisted around ts rest ≡ ts ⧺ rest
placed_all_whole around nil rest = refl
placed_all_whole around (t :: ts) rest = placed_whole around t (placed_all unlisted around ts rest) ∙ ap (t ::◌) (placed_all_whole around ts rest)

mutual
  first_edition : (q : Pattern) (a : Assignment) → spliced_instance unlisted q a ≡ instance q a
  first_edition (name v) a = refl
  first_edition (symbol s qs) a = ap (node s) (first_edition_all None qs a)
  first_edition (complement q) a = refl

  first_edition_all : (around : Option ℕ) (qs : Children) (a : Assignment) → spliced_instances unlisted around qs a ≡ instances qs a
  first_edition_all around end a = refl
  first_edition_all around (plain q qs) a =
      placed_whole around (spliced_instance unlisted q a) (spliced_instances unlisted around qs a) ∙ ap₂ ◌::◌ (first_edition q a) (first_edition_all around qs a)
  first_edition_all around (run v qs) a =
      placed_all_whole around (assigned (a v)) (spliced_instances unlisted around qs a) ∙ ap (assigned (a v) ⧺◌) (first_edition_all around qs a)

mutual
  unlisted_apart : (around : Option ℕ) (q : Pattern) → Apart unlisted around q
  unlisted_apart around (name v) = tt
  unlisted_apart around (symbol s qs) = (nothing_direct around, unlisted_all_apart None qs)
  unlisted_apart around (complement q) = tt

  unlisted_all_apart : (around : Option ℕ) (qs : Children) → AllApart unlisted around qs
  unlisted_all_apart around end = tt
  unlisted_all_apart around (plain q qs) = (unlisted_apart around q, unlisted_all_apart around qs)
  unlisted_all_apart around (run v qs) = unlisted_all_apart around qs

-- edition 2: splicing, of terms

module _ (listed : ℕ → Option ℕ) where
  abbrev mutual
    joined : Term → Term
    joined (node s ts) = node s (joined_all (listed s) ts)

    joined_all : Option ℕ → Terms → Terms
    joined_all around nil = nil
    joined_all around (t :: ts) = placed listed around (joined t) (joined_all around ts)

  -- each term of a run is spliced already
  abbrev Settled : Terms → Type 0
  Settled nil = Unit {0}
  Settled (t :: ts) = (joined t ≡ t) × Settled ts

  join_run : (around : Option ℕ) (ts rest : Terms) → Settled ts → joined_all around (ts ⧺ rest) ≡ placed_all listed around ts (joined_all around rest)
  join_run around nil rest w = refl
  join_run around (t :: ts) rest w = ap₂ (placed listed around) w.0 (join_run around ts rest w.1)

  term_settled : (o : Option Terms) → Settled (assigned o) → joined (term_assigned o) ≡ term_assigned o
  term_settled None h = refl
  term_settled (Some nil) h = refl
  term_settled (Some (t :: ts)) h = h.0

  module _ (vs : List ℕ) (a : Assignment) (settled : (v : ℕ) → among v vs ≡ true → Settled (assigned (a v))) where
    mutual
      instance_joined : (q : Pattern) → loose vs q ≡ false → spliced_instance listed q a ≡ joined (instance q a)
      instance_joined (name v) n = sym (term_settled (a v) (settled v (not-false (among v vs) n)))
      instance_joined (symbol s qs) n = ap (node s) (instances_joined (listed s) qs n)
      instance_joined (complement q) n = absurd (true≢false n)

      instances_joined : (around : Option ℕ) (qs : Children) → loose_all vs qs ≡ false → spliced_instances listed around qs a ≡ joined_all around (instances qs a)
      instances_joined around end n = refl
      instances_joined around (plain q qs) n =
          let m = neither (loose vs q) (loose_all vs qs) n in
          ap₂ (placed listed around) (instance_joined q m.0) (instances_joined around qs m.1)
      instances_joined around (run v qs) n =
          let m = neither (not (among v vs)) (loose_all vs qs) n in
          ap (placed_all listed around (assigned (a v))) (instances_joined around qs m.1)
          ∙ sym (join_run around (assigned (a v)) (instances qs a) (settled v (not-false (among v vs) m.0)))

  placed_root : (t : Term) (ts : Terms) → placed listed None t ts ≡ t :: ts
  placed_root (node s us) ts = refl

  count_root : (ts : Terms) → count (joined_all None ts) ≡ count ts
  count_root nil = refl
  count_root (t :: ts) = ap count (placed_root (joined t) (joined_all None ts)) ∙ ap suc (count_root ts)

-- the same by the converter's splicing of trees

module _ (classes table : List ℕ) where
  abbrev listed : ℕ → Option ℕ
  listed s = list_class classes table (Symbol s)

  trees_join : (us ts : Terms) → term_trees (us ⧺ ts) ≡ term_trees us ⊕ term_trees ts
  unfolding ◌⊕◌
  trees_join nil ts = refl
  trees_join (u :: us) ts = ap (more (term_tree u)) (trees_join us ts)

  trees_placed : (around : Option ℕ) (t : Term) (ts : Terms) → term_trees (placed listed around t ts) ≡ converter.placed classes table around (term_tree t) (term_trees ts)
  trees_placed around (node s us) ts = go (same_list around (listed s))
    where
      go : (b : Bool) → term_trees (cond b (us ⧺ ts) (node s us :: ts)) ≡ cond b (term_trees us ⊕ term_trees ts) (more (branch (Symbol s) (term_trees us)) (term_trees ts))
      go true = trees_join us ts
      go false = refl

  mutual
    unfolding converter.splice

    tree_joined : (t : Term) → term_tree (joined listed t) ≡ converter.splice classes table (term_tree t)
    tree_joined (node s ts) = ap (branch (Symbol s)) (trees_joined (listed s) ts)

    trees_joined : (around : Option ℕ) (ts : Terms) → term_trees (joined_all listed around ts) ≡ converter.splice_all classes table around (term_trees ts)
    trees_joined around nil = refl
    trees_joined around (t :: ts) =
        trees_placed around (joined listed t) (joined_all listed around ts) ∙ ap₂ (converter.placed classes table around) (tree_joined t) (trees_joined around ts)

  spliced_joined : (t : Term) → splice_term classes table t ≡ joined listed t
  spliced_joined t = ap term_of (sym (tree_joined t)) ∙ term_back (joined listed t)

  spliced_tree : (t : Term) → term_tree (splice_term classes table t) ≡ converter.splice classes table (term_tree t)
  spliced_tree t = ap term_tree (spliced_joined t) ∙ tree_joined t

  -- what is spliced already stays
  spliced_stays : (t : Term) → Spliced (language Two table classes) (term_tree t) → splice_term classes table t ≡ t
  spliced_stays t h = ap term_of (spliced_same classes table None (term_tree t) (two_spliced classes table (term_tree t) h)) ∙ term_back t

  all_settled : (ts : Terms) → TermsOf (language Two table classes) ts → Settled listed ts
  all_settled nil h = tt
  all_settled (t :: ts) h = (sym (spliced_joined t) ∙ spliced_stays t h.0.1, all_settled ts h.1)

  mutual
    unfolding SplicedIn

    spliced_apart : (around : Option ℕ) (q : Pattern) → SplicedIn classes table around (pattern_tree q) → Apart listed around q
    spliced_apart around (name v) h = tt
    spliced_apart around (symbol s qs) h = (h.0, spliced_all_apart (listed s) qs h.1)
    spliced_apart around (complement q) h = tt

    spliced_all_apart : (around : Option ℕ) (qs : Children) → AllSplicedIn classes table around (child_trees qs) → AllApart listed around qs
    spliced_all_apart around end h = tt
    spliced_all_apart around (plain q qs) h = (spliced_apart around q h.0, spliced_all_apart around qs h.1)
    spliced_all_apart around (run v qs) h = spliced_all_apart around qs h.1

  -- terms over the table stay such

  over_placed : (around : Option ℕ) (t : Term) (ts : Terms) → Over table t → OverAll table ts → OverAll table (placed listed around t ts)
  over_placed around (node s us) ts h g = go (same_list around (listed s))
    where
      go : (b : Bool) → OverAll table (cond b (us ⧺ ts) (node s us :: ts))
      go true = over_join table us ts h.2 g
      go false = (h, g)

  not_listed : (s : ℕ) → is_list table s ≡ false → listed s ≡ None
  unfolding list_class
  not_listed s e = ap (λ (b : Bool). class_in classes (cond b (Some s) None)) e

  mutual
    over_joined : (t : Term) → Over table t → Over table (joined listed t)
    over_joined (node s ts) h = (
      h.0,
      λ e. ap (λ (o : Option ℕ). count (joined_all listed o ts)) (not_listed s e) ∙ count_root listed ts ∙ h.1 e,
      all_over_joined (listed s) ts h.2,
    )

    all_over_joined : (around : Option ℕ) (ts : Terms) → OverAll table ts → OverAll table (joined_all listed around ts)
    all_over_joined around nil h = tt
    all_over_joined around (t :: ts) h = over_placed around (joined listed t) (joined_all listed around ts) (over_joined t h.0) (all_over_joined around ts h.1)

-- In each edition

module _ (table classes : List ℕ) where
  -- a result over the table is of the language once it is spliced
  pub spliced_of : (edition : Edition) (u : Term) → Over table u → TermOf (language edition table classes) (spliced_by edition classes table u)
  spliced_of One u h = (h, one_spliced table classes None (term_tree u))
  spliced_of Two u h = (
    subst (Over table) (sym (spliced_joined classes table u)) (over_joined classes table u h),
    subst (Spliced (language Two table classes)) (sym (spliced_tree classes table u))
        (spliced_two classes table (converter.splice classes table (term_tree u)) (splice_spliced classes table (term_tree u))),
  )

  -- a term of the language stays as it is
  pub stays_spliced : (edition : Edition) (u : Term) → TermOf (language edition table classes) u → spliced_by edition classes table u ≡ u
  stays_spliced One u h = refl
  stays_spliced Two u h = spliced_stays classes table u h.1

  -- a template of the language
  pub template_apart : (edition : Edition) (q : Pattern) → Spliced (language edition table classes) (pattern_tree q) → Apart (listed_by edition classes table) None q
  template_apart One q h = unlisted_apart None q
  template_apart Two q h = spliced_apart classes table None q (two_spliced classes table (pattern_tree q) h)

  -- "the result is spliced": what is filled at the root
  pub filled_spliced : (edition : Edition) (vs : List ℕ) (a : Assignment) → ((v : ℕ) → among v vs ≡ true → TermsOf (language edition table classes) (assigned (a v)))
      → (q : Pattern) → loose vs q ≡ false → spliced_instances (listed_by edition classes table) None (plain q end) a ≡ single (spliced_by edition classes table (instance q a))
  filled_spliced One vs a spoken q n = first_edition_all None (plain q end) a
  filled_spliced Two vs a spoken q n =
      placed_root (listed classes table) (spliced_instance (listed classes table) q a) nil
      ∙ ap single (instance_joined (listed classes table) vs a (λ v m. all_settled classes table (assigned (a v)) (spoken v m)) q n ∙ sym (spliced_joined classes table (instance q a)))

  -- what a symbol is as a list

  pub lists_by : (edition : Edition) (s c : ℕ) → listed_by edition classes table s ≡ Some c → is_list table s ≡ true
  unfolding list_class
  lists_by One s c e = absurd (none_is e)
  lists_by Two s c e = go (is_list table s) e
    where
      go : (b : Bool) → class_in classes (cond b (Some s) None) ≡ Some c → b ≡ true
      go true e = refl
      go false e = absurd (none_is e)

  module _ (edition : Edition) (s : ℕ) where
    pub listed_never : edition ≡ One → None ≡ listed_by edition classes table s
    listed_never e = ap (λ (x : Edition). listed_by x classes table s) (sym e)

    pub listed_not : edition ≡ Two → is_list table s ≡ false → None ≡ listed_by edition classes table s
    listed_not e f = sym (ap (λ (x : Edition). listed_by x classes table s) e ∙ not_listed classes table s f)

    pub listed_list : edition ≡ Two → is_list table s ≡ true → (c : ℕ) → c ≡ class_of classes s → Some c ≡ listed_by edition classes table s
    unfolding list_class
    listed_list e f c g =
        ap Some g ∙ sym (ap (λ (x : Edition). listed_by x classes table s) e ∙ ap (λ (b : Bool). class_in classes (cond b (Some s) None)) f)

pub lists : (l : Language) (s c : ℕ) → listed_in l s ≡ Some c → is_list l.table s ≡ true
lists l = lists_by l.table l.classes l.edition

-- what is placed stands in front of the rest

join_all : (us ts rs : Terms) → (us ⧺ ts) ⧺ rs ≡ us ⧺ (ts ⧺ rs)
join_all nil ts rs = refl
join_all (u :: us) ts rs = ap (u ::◌) (join_all us ts rs)

module _ (listed : ℕ → Option ℕ) (around : Option ℕ) where
  pub placed_front : (t : Term) (ts rest : Terms) → placed listed around t (ts ⧺ rest) ≡ placed listed around t ts ⧺ rest
  placed_front (node s us) ts rest = go (same_list around (listed s))
    where
      go : (b : Bool) → cond b (us ⧺ (ts ⧺ rest)) (node s us :: (ts ⧺ rest)) ≡ cond b (us ⧺ ts) (node s us :: ts) ⧺ rest
      go true = sym (join_all us ts rest)
      go false = refl

  pub placed_all_front : (ts rest : Terms) → placed_all listed around ts rest ≡ placed_all listed around ts nil ⧺ rest
  placed_all_front nil rest = refl
  placed_all_front (t :: ts) rest = ap (placed listed around t) (placed_all_front ts rest) ∙ placed_front t (placed_all listed around ts nil) rest
