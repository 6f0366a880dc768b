-- Examples. The table is document 01's: open, shut, held, gate (1), row (2), gates (list), and a second list symbol `bars` of the class of gates.
use Prim.Native.Nat.{ℕ}
use mathlib.Core.Path.{◌≡◌, refl}
use mathlib.Core.List.{List, [], ◌∷◌}
use Rattle.term.specs.Code.{byte_of}
use Rattle.term.specs.Tree.{Tree, Trees, branch, empty, more, number, list_code, own, encode}
use Rattle.term.specs.declared.Code.TheVariants.{Symbol, Complement}
use Rattle.splice.specs.Splicing.{◌⊕◌, list_class, splice}
use Rattle.splice.proofs.ByClass.{SplicedIn, Spliced}

table : List ℕ
table = 0 ∷ 0 ∷ 0 ∷ 1 ∷ 2 ∷ 255 ∷ 255 ∷ []

classes : List ℕ
classes = 0 ∷ 1 ∷ 2 ∷ 3 ∷ 4 ∷ 5 ∷ 5 ∷ []

opened : Tree
opened = branch (Symbol 0) empty

shut : Tree
shut = branch (Symbol 1) empty

gates : Trees → Tree
gates ts = branch (Symbol 5) ts

bars : Trees → Tree
bars ts = branch (Symbol 6) ts

-- gates(open, bars(shut, gates()), open) is gates(open, shut, open); the outer list's own symbol stays
nested : encode table (splice classes table (gates (more opened (more (bars (more shut (more (gates empty) empty))) (more opened empty))))) [] ≡ 5 ∷ 3 ∷ 0 ∷ 1 ∷ 0 ∷ []
unfolding splice list_class ◌⊕◌ encode own number byte_of list_code table classes opened shut gates bars
nested = refl

-- without the class list bars(..) is an element of gates(..) like any other
apart : encode table (splice [] table (gates (more (bars (more opened empty)) empty))) [] ≡ 5 ∷ 1 ∷ 6 ∷ 1 ∷ 0 ∷ []
unfolding splice list_class ◌⊕◌ encode own number byte_of list_code table opened gates bars
apart = refl

-- gates(!gates(open)) is spliced: the complement stands between the lists
between : Spliced classes table (gates (more (branch Complement (more (gates (more opened empty)) empty)) empty))
unfolding SplicedIn list_class table classes opened gates
between = (refl, ((refl, ((refl, ((refl, tt), tt)), tt)), tt))
