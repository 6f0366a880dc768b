-- The counted search: document 01's "The count". What comes after a pair is a function of the assignments made so far and of the
-- complements put by. "Symbols of one class count as the same wherever a symbol or two parts are compared"; a call that brings no class list
-- has the empty one.
use Rattle.std.specs.Prelude.{ℕ, zero, suc, ◌+◌, List, [], ◌∷◌, ◌++◌, Bool, true, false, cond, eqb, Option, Some, None}
use Rattle.term.specs.Class.{class_of}
use Rattle.term.specs.Table.{width}
use Rattle.term.specs.Term.{Term, Terms, node, nil, ◌::◌, ◌⧺◌, single, size, sizes}
use Rattle.term.specs.Same.{same_term, same_terms}
use Rattle.term.specs.Pattern.{Pattern, Children, name, symbol, complement, end, plain, run}
use Rattle.anti_pattern.specs.Language.{Language}
use Rattle.anti_pattern.specs.Meaning.{Assignment, unassigned}

-- the assignments made so far, and the offset of each variable's first place
pub record Env : Type 0 where
  pub value : Assignment
  pub offset : ℕ → ℕ

abbrev pub update : {A : Type 0} → (ℕ → A) → ℕ → A → ℕ → A
update f v x i = cond (eqb v i) x (f i)

abbrev pub bind : Env → ℕ → ℕ → Terms → Env
bind e v at w = record { value = update e.value v (Some w); offset = update e.offset v at }

abbrev pub start : Env
start = record { value = unassigned; offset = λ v. zero }

-- an answer and, for the search resumed after it, what is counted then and what that comes to; or no answer
pub data Answers : Type 0 where
  found : Env → ℕ → Answers → Answers
  failed : Answers

abbrev pub first_answer : Answers → Option Env
first_answer (found e n o) = Some e
first_answer failed = None

-- the answers, each by the search resumed after the one before it
abbrev pub answers : Answers → List Env
answers (found e n o) = e ∷ answers o
answers failed = []

-- an outcome, and what was counted on the way to it: "to its first answer or its end"
pub record Result : Type 0 where
  pub out : Answers
  pub cost : ℕ

abbrev pub plus : ℕ → Result → Result
plus n r = record { out = r.out; cost = n + r.cost }

-- "One is counted each time a pattern node is set against a record node and each time a length is tried for a run name."
abbrev pub counted : Result → Result
counted r = plus 1 r

-- a failure, uncounted
abbrev pub fail : Result
fail = record { out = failed; cost = zero }

-- an answer after so much is counted, and the search resumed after it
abbrev pub answering : Env → ℕ → Result → Result
answering e n r = record { out = found e r.cost r.out; cost = n }

abbrev pub if_true : Bool → (Unit {0} → Result) → Result
if_true true f = f tt
if_true false f = fail

abbrev pub if_some : {A : Type 0} → Option A → (A → Result) → Result
if_some None f = fail
if_some (Some x) f = f x

-- the answers of the first result, and where these end those of the second
abbrev pub after : Answers → ℕ → (Unit {0} → Result) → Result
after (found e m o) n f = answering e n (after o m f)
after failed n f = plus n (f tt)

abbrev pub or_else : Result → (Unit {0} → Result) → Result
or_else r f = after r.out r.cost f

-- a complement put by: its inside, "searched as a level that starts from the assignments made so far"
abbrev pub Deferred : Type 0
Deferred = Env → Result

abbrev pub Continuation : Type 0
Continuation = Env → List Deferred → Result

-- "one that succeeds is a failure of the level around it, and the later ones are not begun"
abbrev pub refuted : Answers → ℕ → (Unit {0} → Result) → Result
refuted (found e m o) n f = record { out = failed; cost = n }
refuted failed n f = plus n (f tt)

-- "When a level has no pair left, its put-by complements are searched in the order met"; "Assignments made inside are dropped."
unfoldable pub finish : Env → List Deferred → Result
finish e [] = answering e zero fail
finish e (d ∷ ds) = refuted (d e).out (d e).cost (λ u. finish e ds)

-- "An unassigned run name tries lengths 0 up to the elements left in its list": w is taken, and then what is left
abbrev pub lengths : Terms → Terms → (Terms → Terms → Result) → Result
lengths w nil f = counted (f w nil)
lengths w (t :: ts) f = or_else (counted (f w (t :: ts))) (λ u. lengths (w ⧺ single t) ts f)

-- so many of the elements left, where there are so many: w is taken, and then what is left
abbrev pub exactly : ℕ → Terms → Terms → (Terms → Terms → Result) → Result
exactly zero w ts f = f w ts
exactly (suc n) w nil f = fail
exactly (suc n) w (t :: ts) f = exactly n (w ⧺ single t) ts f

-- what an unassigned run name tries: every length, or "its given length only, fitting or not"
pub data Tries : Type 0 where
  every : Tries
  only : ℕ → Tries

-- every run name tries every length
abbrev pub freely : ℕ → Tries
freely v = every

abbrev pub try_fresh : Tries → Terms → (Terms → Terms → Result) → Result
try_fresh every ts f = lengths nil ts f
try_fresh (only n) ts f = counted (exactly n nil ts f)

module _ (classes : List ℕ) where
  -- "An unassigned name takes the node; an assigned one must equal it."
  abbrev pub same_or : Option Terms → Terms → Env → Env → Option Env
  same_or None w e fresh = Some fresh
  same_or (Some x) w e fresh = cond (same_terms classes x w) (Some e) None

  abbrev pub assign : Env → ℕ → ℕ → Terms → Option Env
  assign e v at w = same_or (e.value v) w e (bind e v at w)

  -- what is left of the second sequence behind the first, where it begins with it
  unfoldable pub behind : Terms → Terms → Option Terms
  behind nil us = Some us
  behind (t :: ts) nil = None
  behind (t :: ts) (u :: us) = cond (same_term classes t u) (behind ts us) None

  -- an assigned run name "tries its own length only, counted even where it doesn't fit, and the elements there must equal its run"
  abbrev pub try_run : Option Terms → Tries → Terms → (Terms → Terms → Result) → (Terms → Terms → Result) → Result
  try_run None how ts fresh same = try_fresh how ts fresh
  try_run (Some w) how ts fresh same = counted (if_some (behind w ts) (same w))

module _ (table classes : List ℕ) where
  unfoldable mutual
    -- a pattern node set against the term that stands at the offset; "A complement is put by.", and in it every length is tried
    pub search : (ℕ → Tries) → Pattern → Term → ℕ → Env → List Deferred → Continuation → Result
    search how (name v) t at e put k = counted (if_some (assign classes e v at (single t)) (λ f. k f put))
    search how (symbol s qs) (node r ts) at e put k =
        counted (if_true (eqb (class_of classes s) (class_of classes r)) (λ u. searches how qs ts (at + width table r) e put k))
    search how (complement q) t at e put k = counted (k e (put ++ ((λ f. search freely q t at f [] finish) ∷ [])))

    -- the child patterns left, and the elements left, of which the first stands at the offset: "A plain child pattern with no element
    -- left fails uncounted; so do elements left over once the pairs of the last child pattern are done"
    pub searches : (ℕ → Tries) → Children → Terms → ℕ → Env → List Deferred → Continuation → Result
    searches how end nil at e put k = k e put
    searches how end (t :: ts) at e put k = fail
    searches how (plain q qs) nil at e put k = fail
    searches how (plain q qs) (t :: ts) at e put k = search how q t at e put (λ f ds. searches how qs ts (at + size table t) f ds k)
    searches how (run v qs) ts at e put k =
        try_run classes (e.value v) (how v) ts
        (λ w us. searches how qs us (at + sizes table w) (bind e v at w) put k)
        (λ w us. searches how qs us (at + sizes table w) e put k)

  -- "the whole pattern is a level and so is the inside of each complement"
  abbrev pub level : Pattern → Term → ℕ → Env → Result
  level q t at e = search freely q t at e [] finish

-- the search of a whole pattern, "under no allowance, to its first answer or its end"
abbrev pub whole : Language → Pattern → Term → Result
whole l q t = level l.table l.classes q t zero start
