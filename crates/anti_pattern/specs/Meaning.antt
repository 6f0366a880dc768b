-- When a pattern holds of a term, and which assignments satisfy it, in a language.
use Rattle.std.specs.Prelude.{ℕ, ◌≡◌, List, Bool, true, false, Option, Some, None}
use Rattle.term.specs.Term.{Term, Terms, node, nil, ◌::◌, ◌⧺◌, single}
use Rattle.term.specs.Pattern.{Pattern, Children, name, symbol, complement, end, plain, run}
use Rattle.anti_pattern.specs.Language.{Language, TermsOf, ◌⊢◌∼◌, ◌⊢◌≈◌, ◌⊢◌≋◌}
use Rattle.anti_pattern.specs.Variables.{free, among}

-- an assignment has a sequence of terms for some of the variables; a name's is a single term, a run name's is a run
abbrev pub Assignment : Type 0
Assignment = ℕ → Option Terms

abbrev pub unassigned : Assignment
unassigned v = None

-- `There` says which terms there are to assign
module _ (There : Terms → Type 0) where
  -- what an extension has at a variable: what was assigned before; else terms that there are, exactly if the variable is to be assigned
  abbrev pub ExtendsAt : Option Terms → Bool → Option Terms → Type 0
  ExtendsAt (Some w) m o = o ≡ Some w
  ExtendsAt None true o = (w : Terms) × There w × (o ≡ Some w)
  ExtendsAt None false o = o ≡ None

  -- b is a, and besides assigns exactly those of the variables vs "that are not already assigned"
  unfoldable pub Extends : Assignment → List ℕ → Assignment → Type 0
  Extends a vs b = (v : ℕ) → ExtendsAt (a v) (among v vs) (b v)

module _ (l : Language) (There : Terms → Type 0) where
  abbrev mutual
    pub Holds : Pattern → Assignment → Term → Type 0
    -- "A name holds of the term assigned to it."
    Holds (name v) a t = (u : Term) × (a v ≡ Some (single u)) × (l ⊢ u ≈ t)
    -- "A symbol holds of a term with that symbol if each child holds of the child in its place."
    Holds (symbol s qs) a (node r ts) = (l ⊢ s ∼ r) × HoldAll qs a ts
    -- "!q, under the assignments from outside it, holds of a term if no assignment of q's free names and free run names that are not
    -- already assigned makes q hold of it."
    Holds (complement q) a t = (b : Assignment) → Extends There a (free q) b → Holds q b t → ⊥

    -- "children are, in order, one child for each plain child pattern, which holds of it, and the assigned run for each run name"
    pub HoldAll : Children → Assignment → Terms → Type 0
    HoldAll end a ts = ts ≡ nil
    HoldAll (plain q qs) a nil = ⊥
    HoldAll (plain q qs) a (t :: ts) = Holds q a t × HoldAll qs a ts
    HoldAll (run v qs) a ts = (w : Terms) × (x : Terms) × (us : Terms) × (a v ≡ Some w) × (l ⊢ w ≋ x) × (ts ≡ x ⧺ us) × HoldAll qs a us

  -- "An assignment satisfies a pattern on a record if under it the pattern holds of the record's term." It assigns the free variables
  pub record SatisfiesOver (q : Pattern) (t : Term) (a : Assignment) : Type 0 where
    pub exact : Extends There unassigned (free q) a
    pub holds : Holds q a t

-- "Terms are all finite trees over the table": there are those of the language. (That all trees would give the same is Demands' OverTable.)
abbrev pub Satisfies : Language → Pattern → Term → Assignment → Type 0
Satisfies l q t a = SatisfiesOver l (TermsOf l) q t a

module _ (l : Language) where
  -- "Assignments that differ only within classes count as one": they assign the same variables, and at each the same run
  abbrev pub OneAt : Option Terms → Option Terms → Type 0
  OneAt None None = Unit {0}
  OneAt None (Some x) = ⊥
  OneAt (Some w) None = ⊥
  OneAt (Some w) (Some x) = l ⊢ w ≋ x

  abbrev pub CountAsOne : Assignment → Assignment → Type 0
  CountAsOne a b = (v : ℕ) → OneAt (a v) (b v)
