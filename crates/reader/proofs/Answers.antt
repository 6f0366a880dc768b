-- How a property of an answer goes through the reader's steps, and what is shown of it. A refusal asks nothing.
use Prim.Native.Nat.{ℕ, ◌+◌}
use native.Mathlib.Omega.{arith}
use mathlib.Core.Path.{◌≡◌, refl, ap, subst}
use Rattle.answers.specs.declared.Refusal.{Refusal}
use Rattle.term.specs.Tree.{Tree, Trees, branch, more}
use Rattle.term.specs.declared.Code.{Code}
use Rattle.reader.specs.Reading.{Parsed, refused, read, shown, join, chain, grow, enter}
use Rattle.std.specs.Prelude.{Ok, Err, Option, Result}
use Rattle.reader.specs.Node.{opened}
use Rattle.reader.specs.declared.Open.{Open}

-- what holds of an open node's parts, and of what was read
abbrev pub Opened : (ℕ → ℕ → Option ℕ → ℕ → Type 0) → Result Open Refusal → Type 0
Opened P (Err r) = Unit {0}
Opened P (Ok o) = P o.size o.kids o.inside o.low

abbrev pub Got : {A : Type 0} → (A → ℕ → Type 0) → Parsed A → Type 0
Got P (refused r) = Unit {0}
Got P (read a n) = P a n

pub opened_map : {P Q : ℕ → ℕ → Option ℕ → ℕ → Type 0} → ((size k : ℕ) (inside : (Option ℕ)) (low : ℕ) → P size k inside low → Q size k inside low) → (n : Result Open Refusal) → Opened P n → Opened Q n
opened_map f (Err r) h = tt
opened_map f (Ok o) h = f o.size o.kids o.inside o.low h

pub got_map : {A : Type 0} {P Q : A → ℕ → Type 0} → ((a : A) (n : ℕ) → P a n → Q a n) → (a : Parsed A) → Got P a → Got Q a
got_map f (refused r) h = tt
got_map f (read a n) h = f a n h

pub opened_at : (P : ℕ → ℕ → Option ℕ → ℕ → Type 0) {n : (Result Open Refusal)} {size k : ℕ} {inside : (Option ℕ)} {low : ℕ} → Opened P n → n ≡ Ok (opened size k inside low) → P size k inside low
opened_at P h e = subst (Opened P) e h

got_grow : (P : Tree → ℕ → Type 0) (c : Code) (size : ℕ) (a : Parsed Trees) → Got (λ ts n. P (branch c ts) (size + n)) a → Got P (grow c size a)
unfolding grow
got_grow P c size (refused r) h = tt
got_grow P c size (read ts n) h = h

pub got_enter : (P : Tree → ℕ → Type 0) (c : Code) (n : Result Open Refusal) (g : ℕ → ℕ → Option ℕ → ℕ → Parsed Trees)
    → Opened (λ size k inside low. Got (λ ts m. P (branch c ts) (size + m)) (g size k inside low)) n → Got P (enter c n g)
unfolding enter
got_enter P c (Err r) g h = tt
got_enter P c (Ok o) g h = got_grow P c o.size (g o.size o.kids o.inside o.low) h

pub enter_same : (c : Code) (n : Result Open Refusal) (g h : ℕ → ℕ → Option ℕ → ℕ → Parsed Trees) → Opened (λ size k inside low. g size k inside low ≡ h size k inside low) n → enter c n g ≡ enter c n h
unfolding enter
enter_same c (Err r) g h e = refl
enter_same c (Ok o) g h e = ap (grow c o.size) e

got_join : (P : Trees → ℕ → Type 0) (t : Tree) (n : ℕ) (a : Parsed Trees) → Got (λ ts m. P (more t ts) (n + m)) a → Got P (join t n a)
unfolding join
got_join P t n (refused r) h = tt
got_join P t n (read ts m) h = h

pub got_chain : (P : Trees → ℕ → Type 0) (a : Parsed Tree) (g : ℕ → Parsed Trees)
    → Got (λ t n. Got (λ ts m. P (more t ts) (n + m)) (g n)) a → Got P (chain a g)
unfolding chain
got_chain P (refused r) g h = tt
got_chain P (read t n) g h = got_join P t n (g n) h

-- what is shown of an answer says which it is

pub refused_shown : {A : Type 0} (a : Parsed A) (r : Refusal) → shown a ≡ Err r → a ≡ refused r
unfolding shown
refused_shown (refused x) r e = cc
refused_shown (read x n) r e = let z : ◌≡◌ {A = ℕ} 0 1 = cc in absurd (omega arith)

pub ends_shown : {A : Type 0} (a : Parsed A) (n : ℕ) → shown a ≡ Ok n → (x : A) × (a ≡ read x n)
unfolding shown
ends_shown (refused r) n e = let z : ◌≡◌ {A = ℕ} 0 1 = cc in absurd (omega arith)
ends_shown (read x m) n e = let z : m ≡ n = cc in (x, ap (read x) z)
