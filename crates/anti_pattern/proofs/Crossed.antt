-- By source document 001 alone the set for row(!gate(?0), !!gate(?0)) depends on which complement is taken first.
use Prim.Native.Nat.{ℕ}
use mathlib.Core.Path.{◌≡◌, refl}
use mathlib.Core.Logic.{inl, inr}
use mathlib.Core.List.{[]}
use mathlib.Core.Bool.{Bool, true, false, cond}
use native.Mathlib.Omega.{arith}
use native.Mathlib.Decide.{ℕ_discrete}
use lib.Dec.{eqb}
use Rattle.term.specs.Term.{Term, term_tree}
use Rattle.term.proofs.Splicing.{one_spliced}
use Rattle.anti_pattern.specs.Rides.{table, opened, shut, gate, row}
use Rattle.anti_pattern.specs.AntiTerm.{Anti, var, neg, app, ε, ◌▸◌, Occurs}
use Rattle.anti_pattern.specs.Ground.{Way, bare, take, Semantics}
use Rattle.anti_pattern.specs.Language.{Language, simple, TermOf}
use Rattle.term.proofs.SameParts.{term_equal}
use Rattle.anti_pattern.proofs.Taken.{outermost?, occurs?}
use Rattle.std.specs.Prelude.{None}

abbrev gateᵃ : Anti ℕ → Anti ℕ
gateᵃ q = app 3 (q ▸ ε)

abbrev rowᵃ : Anti ℕ → Anti ℕ → Anti ℕ
rowᵃ p q = app 4 (p ▸ q ▸ ε)

abbrev pub crossed : Anti ℕ
crossed = rowᵃ (neg (gateᵃ (var 0))) (neg (neg (gateᵃ (var 0))))

abbrev pub sides : Term
sides = row (gate opened) (gate shut)

-- what is decided against
abbrev Refused : {P : Type 0} → Dec P → Type 0
Refused (yes p) = ⊥
Refused (no n) = Unit {0}

not_so : {P : Type 0} (d : Dec P) → Refused d → P → ⊥
not_so (yes p) h = absurd h
not_so (no n) h = n

fresh : (x : ℕ) (q : Anti ℕ) → Refused (occurs? ℕ_discrete x q) → Occurs x q → ⊥
fresh x q = not_so (occurs? ℕ_discrete x q)

plainly : (q : Anti ℕ) → Refused (outermost? q) → Way q
plainly q h = bare (not_so (outermost? q) h)

-- the complement of the left child first
pub left_first : Way crossed
unfolding ℕ_discrete occurs? outermost?
left_first =
    take (inl tt) 1 (fresh 1 crossed tt)
    (take (inr (inl tt)) 2 (fresh 2 (rowᵃ (var 1) (neg (neg (gateᵃ (var 0))))) tt)
    (plainly (rowᵃ (var 1) (var 2)) tt)
    (take (inr (inl tt)) 2 (fresh 2 (rowᵃ (var 1) (neg (gateᵃ (var 0)))) tt)
    (plainly (rowᵃ (var 1) (var 2)) tt) (plainly (rowᵃ (var 1) (gateᵃ (var 0))) tt)))
    (take (inr (inl tt)) 2 (fresh 2 (rowᵃ (gateᵃ (var 0)) (neg (neg (gateᵃ (var 0))))) tt)
    (plainly (rowᵃ (gateᵃ (var 0)) (var 2)) tt)
    (take (inr (inl tt)) 2 (fresh 2 (rowᵃ (gateᵃ (var 0)) (neg (gateᵃ (var 0)))) tt)
    (plainly (rowᵃ (gateᵃ (var 0)) (var 2)) tt) (plainly (rowᵃ (gateᵃ (var 0)) (gateᵃ (var 0))) tt)))

-- the outer complement of the right child first, then that of the left child
pub right_first : Way crossed
unfolding ℕ_discrete occurs? outermost?
right_first =
    take (inr (inl tt)) 1 (fresh 1 crossed tt)
    (take (inl tt) 2 (fresh 2 (rowᵃ (neg (gateᵃ (var 0))) (var 1)) tt)
    (plainly (rowᵃ (var 2) (var 1)) tt) (plainly (rowᵃ (gateᵃ (var 0)) (var 1)) tt))
    (take (inl tt) 2 (fresh 2 (rowᵃ (neg (gateᵃ (var 0))) (neg (gateᵃ (var 0)))) tt)
    (take (inr (inl tt)) 1 (fresh 1 (rowᵃ (var 2) (neg (gateᵃ (var 0)))) tt)
    (plainly (rowᵃ (var 2) (var 1)) tt) (plainly (rowᵃ (var 2) (gateᵃ (var 0))) tt))
    (take (inr (inl tt)) 1 (fresh 1 (rowᵃ (gateᵃ (var 0)) (neg (gateᵃ (var 0)))) tt)
    (plainly (rowᵃ (gateᵃ (var 0)) (var 1)) tt) (plainly (rowᵃ (gateᵃ (var 0)) (gateᵃ (var 0))) tt)))

-- the rides' table, and no class list
abbrev pub ride_language : Language
ride_language = simple table

open_of : TermOf ride_language opened
open_of = ((omega arith, λ e. refl, tt), one_spliced table [] None (term_tree opened))

shut_of : TermOf ride_language shut
shut_of = ((omega arith, λ e. refl, tt), one_spliced table [] None (term_tree shut))

gate_of : (t : Term) → TermOf ride_language t → TermOf ride_language (gate t)
gate_of t g = ((omega arith, λ e. refl, (g.0, tt)), one_spliced table [] None (term_tree (gate t)))

-- values for the variables 0, 1 and 2
abbrev values : Term → Term → Term → ℕ → Term
values a b c x = cond (eqb x 0) a (cond (eqb x 1) b c)

values_of : (a b c : Term) → TermOf ride_language a → TermOf ride_language b → TermOf ride_language c → (x : ℕ) → TermOf ride_language (values a b c x)
values_of a b c f g h x = go (eqb x 0) (eqb x 1)
  where
    go : (m n : Bool) → TermOf ride_language (cond m a (cond n b c))
    go true n = f
    go false true = g
    go false false = h

pub left_in : Semantics ride_language left_first sides
unfolding left_first plainly
left_in = (
  (
    (values opened (gate opened) (gate shut), values_of opened (gate opened) (gate shut) open_of (gate_of opened open_of) (gate_of shut shut_of), sides, refl, refl),
    λ h. h.1 (values shut (gate opened) (gate shut), values_of shut (gate opened) (gate shut) shut_of (gate_of opened open_of) (gate_of shut shut_of), sides, refl, refl),
  ),
  λ h. h.1 (
    (values opened (gate opened) (gate shut), values_of opened (gate opened) (gate shut) open_of (gate_of opened open_of) (gate_of shut shut_of), sides, refl, refl),
    λ r. let e = r.3 in let i = term_equal [] (λ s. refl) r.2 sides r.4 in let z : ◌≡◌ {A = ℕ} 0 1 = cc in omega arith,
  ),
)

pub right_out : Semantics ride_language right_first sides → ⊥
unfolding right_first plainly
right_out h = h.0.1 (values opened (gate shut) (gate shut), values_of opened (gate shut) (gate shut) open_of (gate_of shut shut_of) (gate_of shut shut_of), sides, refl, refl)
