-- Document 01's rule of scope, where source document 001 leaves a choice: each name is renamed by the level that it belongs to.
use Rattle.std.specs.Prelude.{ℕ, suc, ◌⊎◌, List, [], ◌∷◌, ◌++◌, Option, Some, None}
use Rattle.std.proofs.Math.Logic.{ite}
use Rattle.anti_pattern.specs.AntiTerm.{Anti, var, neg, app, Antis, ε, ◌▸◌, Free, free?, Occurs, OccursIn}

-- a level is the whole pattern or the inside of a complement, told by its position: a sequence of numbers, where the inside of a
-- complement is its child 0
abbrev pub Position : Type 0
Position = List ℕ

-- the level that each name belongs to, so far
abbrev pub Owner : Type 0
Owner = ℕ → Option Position

-- in the level q at p: "a name that is free further out is fixed within a complement; any other belongs to the outermost complement
-- within which it is free"
abbrev pub belongs : Option Position → Option Position → Option Position
belongs (Some outer) here = Some outer
belongs None here = here

abbrev pub owners_within : Owner → Position → Anti ℕ → Owner
owners_within o p q x = belongs (o x) (ite (free? x q) (Some p) None)

-- a name, and the level that it belongs to
abbrev pub Scoped : Type 0
Scoped = ℕ × Option Position

abbrev mutual
  pub rename : Owner → Position → Anti ℕ → Anti Scoped
  rename o p (var x) = var (x, o x)
  rename o p (neg q) = neg (rename (owners_within o (p ++ (0 ∷ [])) q) (p ++ (0 ∷ [])) q)
  rename o p (app f qs) = app f (rename_all o p 0 qs)

  -- the children from the i-th on
  pub rename_all : Owner → Position → ℕ → Antis ℕ → Antis Scoped
  rename_all o p i ε = ε
  rename_all o p i (q ▸ qs) = rename o (p ++ (i ∷ [])) q ▸ rename_all o p (suc i) qs

-- the names renamed apart
abbrev pub apart : Anti ℕ → Anti Scoped
apart q = rename (owners_within (λ x. None) [] q) [] q

-- the names of q are apart, where the variables F are free in q or further out: what stands in two children is one of F
abbrev mutual
  pub Apart : {X : Type 0} → (X → Type 0) → Anti X → Type 0
  Apart F (var x) = Unit {0}
  Apart F (neg q) = Apart (λ x. F x ⊎ Free x q) q
  Apart F (app f qs) = ApartAll F qs

  pub ApartAll : {X : Type 0} → (X → Type 0) → Antis X → Type 0
  ApartAll F ε = Unit {0}
  ApartAll {X} F (q ▸ qs) = Apart F q × ApartAll F qs × ((x : X) → Occurs x q → OccursIn x qs → F x)
