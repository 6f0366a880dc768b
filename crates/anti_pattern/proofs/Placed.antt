-- The offset that is found for a variable is that of its first place.
use Prim.Native.Nat.{ℕ, zero, suc, ◌+◌}
use mathlib.Core.Path.{◌≡◌, refl, sym, ◌∙◌, ap, ap₂, subst}
use mathlib.Core.Logic.{◌⊎◌, inl, inr}
use mathlib.Core.List.{List, [], ◌∷◌, ◌++◌}
use mathlib.Core.Bool.{Bool, true, false, cond, false≢true}
use native.Mathlib.Omega.{arith}
use lib.Dec.{eqb}
use Rattle.answers.specs.Part.{part, absent}
use Rattle.answers.specs.declared.Part.{Part}
use Rattle.term.specs.Code.{variables}
use Rattle.term.specs.Class.{class_of, Alike}
use Rattle.term.specs.Pattern.{Pattern, name, symbol, complement, Children, end, plain, run}
use Rattle.term.specs.Same.{same_terms}
use Rattle.term.specs.Table.{width}
use Rattle.term.specs.Term.{Term, node, Terms, nil, ◌::◌, ◌⧺◌, single, size, sizes}
use Rattle.anti_pattern.specs.Answer.{parts}
use Rattle.anti_pattern.specs.Language.{Language, TermOf, TermsOf, ◌⊢◌≋◌}
use Rattle.anti_pattern.specs.Meaning.{Assignment, ExtendsAt, Extends, Holds, HoldAll, Satisfies, OneAt, CountAsOne}
use Rattle.anti_pattern.specs.Order.{Member}
use Rattle.anti_pattern.specs.Place.{past, assigned, place, place_all, assigned_part, or_absent, variable_part, each_from, parts_at}
use Rattle.anti_pattern.specs.Search.{Env, bind, start, Answers, found, failed, first_answer, answers, Result, if_true, if_some, after, Deferred, Continuation, refuted, finish, same_or, lengths, exactly, Tries, every, only, freely, try_fresh, behind, try_run, search, searches, whole}
use Rattle.anti_pattern.specs.Variables.{vars, vars_all, free, among}
use borrow.Author.Tests.{eqb-true}
use Rattle.term.proofs.SameParts.{same_terms_holds, same_counts, same_sizes}
use Rattle.anti_pattern.proofs.Alike.{cons_open}
use Rattle.anti_pattern.proofs.Facts.{eqb_same, join_nil, join_one, none_some, behind_alike}
use Rattle.anti_pattern.proofs.First.{some_is, none_is, answer_satisfies}
use Rattle.std.specs.Prelude.{Option, Some, None}

-- an answer of an outcome
abbrev pub AnswerIn : Answers → Env → Type 0
AnswerIn o f = Member f (answers o)

pub first_answers : (o : Answers) (e : Env) → first_answer o ≡ Some e → AnswerIn o e
first_answers (found f m o) e h = inl (some_is h)
first_answers failed e h = absurd (none_is h)

pub answers_after : (o : Answers) (n : ℕ) (g : Unit {0} → Result) (f : Env) → AnswerIn (after o n g).out f → AnswerIn o f ⊎ AnswerIn (g tt).out f
answers_after (found e m o) n g f (inl h) = inl (inl h)
answers_after (found e m o) n g f (inr h) = go (answers_after o m g f h)
  where
    go : AnswerIn o f ⊎ AnswerIn (g tt).out f → AnswerIn (found e m o) f ⊎ AnswerIn (g tt).out f
    go (inl k) = inl (inr k)
    go (inr k) = inr k
answers_after failed n g f h = inr h

-- from e on, f was found: what was assigned stays, with its offset; what has a place in the rest has its offset
abbrev pub Placed : Option Terms → ℕ → Option ℕ → Option Terms → ℕ → Type 0
Placed (Some w) o p x y = (x ≡ Some w) × (y ≡ o)
Placed None o p x y = (n : ℕ) → p ≡ Some n → y ≡ n

abbrev pub PlacedAt : Env → Env → ℕ → Option ℕ → Type 0
PlacedAt e f v p = Placed (e.value v) (e.offset v) p (f.value v) (f.offset v)

abbrev pub Places : Continuation → (Assignment → ℕ → Option ℕ) → Type 0
Places k P = (e : Env) (put : List Deferred) (f : Env) → AnswerIn (k e put).out f → (v : ℕ) → PlacedAt e f v (P f.value v)

-- at the end of a level nothing changes
finish_found : (e f : Env) (ds : List Deferred) → AnswerIn (finish e ds).out f → e ≡ f
unfolding finish
finish_found e f [] (inl h) = h
finish_found e f [] (inr h) = absurd h
finish_found e f (d ∷ ds) h = go (d e).out (d e).cost h (finish_found e f ds)
  where
    go : (o : Answers) (n : ℕ) → AnswerIn (refuted o n (λ u. finish e ds)).out f → (AnswerIn (finish e ds).out f → e ≡ f) → e ≡ f
    go (found g m o) n h r = absurd h
    go failed n h r = r h

unchanged : (e : Env) (v : ℕ) → PlacedAt e e v None
unchanged e v = go (e.value v)
  where
    go : (o : Option Terms) → Placed o (e.offset v) None o (e.offset v)
    go None = λ n h. absurd (let z : ◌≡◌ {A = ℕ} 0 1 = cc in omega arith)
    go (Some w) = (refl, refl)

pub finish_places : Places finish (λ b v. None)
finish_places e put f h v = subst (λ (g : Env). PlacedAt e g v None) (finish_found e f put h) (unchanged e v)

-- a variable that is assigned here
module _ (e f : Env) (u at : ℕ) (w : Terms) (P : ℕ → Option ℕ) where
  placed_fresh : e.value u ≡ None → ((v : ℕ) → PlacedAt (bind e u at w) f v (P v))
      → (v : ℕ) → PlacedAt e f v (cond (eqb u v) (Some at) (P v))
  placed_fresh q h v = go (eqb u v) refl (h v)
    where
      go : (m : Bool) → eqb u v ≡ m → Placed (cond m (Some w) (e.value v)) (cond m at (e.offset v)) (P v) (f.value v) (f.offset v)
          → PlacedAt e f v (cond m (Some at) (P v))
      go true r y =
          subst (λ (o : Option Terms). Placed o (e.offset v) (Some at) (f.value v) (f.offset v))
          (sym (subst (λ (j : ℕ). e.value j ≡ None) (eqb-true u v r) q)) (λ n s. y.1 ∙ cc)
      go false r y = y

  placed_kept : (x : Terms) → e.value u ≡ Some x → ((v : ℕ) → PlacedAt e f v (P v))
      → (v : ℕ) → PlacedAt e f v (cond (eqb u v) (Some at) (P v))
  placed_kept x q h v = go (eqb u v) refl
    where
      go : (m : Bool) → eqb u v ≡ m → PlacedAt e f v (cond m (Some at) (P v))
      go true r =
          let i : e.value v ≡ Some x = subst (λ (j : ℕ). e.value j ≡ Some x) (eqb-true u v r) q in
          subst (λ (o : Option Terms). Placed o (e.offset v) (Some at) (f.value v) (f.offset v)) (sym i)
          (subst (λ (o : Option Terms). Placed o (e.offset v) (P v) (f.value v) (f.offset v)) i (h v))
      go false r = h v

-- a run name's length at which something is found
abbrev pub TakenAt : Terms → Terms → (Terms → Terms → Result) → Env → Type 0
TakenAt w ts g f = (x : Terms) × (us : Terms) × (ts ≡ x ⧺ us) × AnswerIn (g (w ⧺ x) us).out f

pub taken_now : (w ts : Terms) (g : Terms → Terms → Result) (f : Env) → AnswerIn (g w ts).out f → TakenAt w ts g f
taken_now w ts g f h = (nil, ts, refl, subst (λ (y : Terms). AnswerIn (g y ts).out f) (sym (join_nil w)) h)

pub taken_later : (w : Terms) (t : Term) (ts : Terms) (g : Terms → Terms → Result) (f : Env) → TakenAt (w ⧺ single t) ts g f → TakenAt w (t :: ts) g f
taken_later w t ts g f s =
    (t :: s.0, s.1, ap (t ::◌) s.2, subst (λ (y : Terms). AnswerIn (g y s.1).out f) (join_one w t s.0) s.3)

pub lengths_found : (ts w : Terms) (g : Terms → Terms → Result) (f : Env) → AnswerIn (lengths w ts g).out f → TakenAt w ts g f
lengths_found nil w g f h = taken_now w nil g f h
lengths_found (t :: ts) w g f h =
    go (answers_after (g w (t :: ts)).out (1 + (g w (t :: ts)).cost) (λ u. lengths (w ⧺ single t) ts g) f h) (lengths_found ts (w ⧺ single t) g f)
  where
    go : AnswerIn (g w (t :: ts)).out f ⊎ AnswerIn (lengths (w ⧺ single t) ts g).out f
        → (AnswerIn (lengths (w ⧺ single t) ts g).out f → TakenAt (w ⧺ single t) ts g f) → TakenAt w (t :: ts) g f
    go (inl k) r = taken_now w (t :: ts) g f k
    go (inr k) r = taken_later w t ts g f (r k)

exactly_found : (n : ℕ) (ts w : Terms) (g : Terms → Terms → Result) (f : Env) → AnswerIn (exactly n w ts g).out f → TakenAt w ts g f
exactly_found zero ts w g f h = taken_now w ts g f h
exactly_found (suc n) nil w g f h = absurd h
exactly_found (suc n) (t :: ts) w g f h = taken_later w t ts g f (exactly_found n ts (w ⧺ single t) g f h)

pub fresh_found : (m : Tries) (ts : Terms) (g : Terms → Terms → Result) (f : Env) → AnswerIn (try_fresh m ts g).out f → TakenAt nil ts g f
fresh_found every ts g f h = lengths_found ts nil g f h
fresh_found (only n) ts g f h = exactly_found n ts nil g f h

pub if_true_found : (m : Bool) (g : Unit {0} → Result) (f : Env) → AnswerIn (if_true m g).out f → AnswerIn (g tt).out f
if_true_found true g f h = h
if_true_found false g f h = absurd h

-- a name or a run name has a place here, or further on
place_here : (u at v : ℕ) (vs : List ℕ) (other : Option ℕ) → (among v vs ≡ true → (n : ℕ) × (other ≡ Some n)) → among v (u ∷ vs) ≡ true
    → (n : ℕ) × (cond (eqb u v) (Some at) other ≡ Some n)
place_here u at v vs other f m = go (eqb u v) m
  where
    go : (c : Bool) → cond c true (among v vs) ≡ true → (n : ℕ) × (cond c (Some at) other ≡ Some n)
    go true m = (at, refl)
    go false m = f m

pub each_same : (f g : ℕ → Part) → ((v : ℕ) → f v ≡ g v) → (v n : ℕ) → each_from f v n ≡ each_from g v n
each_same f g e v zero = refl
each_same f g e v (suc n) = ap₂ ◌∷◌ (e v) (each_same f g e (suc v) n)

module _ (l : Language) where
  name_places : (e : Env) (u at : ℕ) (w : Terms) (k : Continuation) (P : Assignment → ℕ → Option ℕ) → Places k P → (put : List Deferred) (f : Env)
      (o : Option Terms) → e.value u ≡ o → AnswerIn (if_some (same_or l.classes o w e (bind e u at w)) (λ g. k g put)).out f
      → (v : ℕ) → PlacedAt e f v (cond (eqb u v) (Some at) (P f.value v))
  name_places e u at w k P j put f None q h = placed_fresh e f u at w (P f.value) q (j (bind e u at w) put f h)
  name_places e u at w k P j put f (Some x) q h = go (same_terms l.classes x w) h
    where
      go : (m : Bool) → AnswerIn (if_some (cond m (Some e) None) (λ g. k g put)).out f
          → (v : ℕ) → PlacedAt e f v (cond (eqb u v) (Some at) (P f.value v))
      go true h = placed_kept e f u at w (P f.value) x q (j e put f h)
      go false h = absurd h

  -- what is left behind what was taken is past it
  past_same : (w x us : Terms) → l ⊢ w ≋ x → past w (x ⧺ us) ≡ us
  past_same nil nil us h = refl
  past_same nil (y :: x) us h = absurd (false≢true h)
  past_same (t :: w) nil us h = absurd (false≢true h)
  past_same (t :: w) (y :: x) us h = past_same w x us (cons_open l t y w x h).1

  rest_found : (w ts : Terms) (g : Terms → Result) (f : Env) (o : Option Terms) → behind l.classes w ts ≡ o → AnswerIn (if_some o g).out f
      → (x : Terms) × (us : Terms) × (l ⊢ w ≋ x) × (ts ≡ x ⧺ us) × AnswerIn (g us).out f
  rest_found w ts g f None r h = absurd h
  rest_found w ts g f (Some us) r h = let i = behind_alike l.classes w ts us r in (i.0, us, i.2, i.1, h)

  rest_is : (o : Option Terms) (w x us ts : Terms) → o ≡ Some w → l ⊢ w ≋ x → ts ≡ x ⧺ us → us ≡ past (assigned o) ts
  rest_is o w x us ts h i r = sym (ap (λ (y : Terms). past y ts) (ap assigned h) ∙ ap (past w) r ∙ past_same w x us i)

  rest_place : (P : Terms → Terms → ℕ → Option ℕ) (o : Option Terms) (w x us ts : Terms) → o ≡ Some w → l ⊢ w ≋ x → ts ≡ x ⧺ us
      → P w us ≡ P (assigned o) (past (assigned o) ts)
  rest_place P o w x us ts h i r = ap₂ P (sym (ap assigned h)) (rest_is o w x us ts h i r)

  module _ (e : Env) (u at : ℕ) (ts : Terms) (g h : Terms → Terms → Result) (f : Env) (P : Terms → Terms → ℕ → Option ℕ)
      (fresh : (w us : Terms) → AnswerIn (g w us).out f
      → (v : ℕ) → PlacedAt (bind e u at w) f v (P w us v))
      (kept : (w us : Terms) → AnswerIn (h w us).out f → (v : ℕ) → PlacedAt e f v (P w us v)) where
    abbrev Goal : (ℕ → Option ℕ) → Type 0
    Goal p = (v : ℕ) → PlacedAt e f v (cond (eqb u v) (Some at) (p v))

    run_places : (m : Tries) (o : Option Terms) → e.value u ≡ o → AnswerIn (try_run l.classes o m ts g h).out f
        → Goal (P (assigned (f.value u)) (past (assigned (f.value u)) ts))
    run_places m None q r =
        let s = fresh_found m ts g f r in
        let k = fresh s.0 s.1 s.3 in
        let i : f.value u ≡ Some s.0 =
        (subst (λ (m : Bool). Placed (cond m (Some s.0) (e.value u)) (cond m at (e.offset u)) (P s.0 s.1 u) (f.value u) (f.offset u))
        (eqb_same u) (k u)).0 in
        subst Goal (rest_place P (f.value u) s.0 s.0 s.1 ts i (same_terms_holds l.classes s.0) s.2) (placed_fresh e f u at s.0 (P s.0 s.1) q k)
    run_places m (Some w) q r =
        let s = rest_found w ts (h w) f (behind l.classes w ts) refl r in
        let k = kept w s.1 s.4 in
        let i : f.value u ≡ Some w =
        (subst (λ (o : Option Terms). Placed o (e.offset u) (P w s.1 u) (f.value u) (f.offset u)) q (k u)).0 in
        subst Goal (rest_place P (f.value u) w s.0 s.1 ts i s.2 s.3) (placed_kept e f u at w (P w s.1) w q k)

  mutual
    unfolding search

    pub search_places : (how : ℕ → Tries) (q : Pattern) (t : Term) (at : ℕ) (k : Continuation) (P : Assignment → ℕ → Option ℕ) → Places k P
        → Places (λ e put. search l.table l.classes how q t at e put k) (λ b v. place l.table q t at b v (P b v))
    search_places how (name u) t at k P j e put f h = name_places e u at (single t) k P j put f (e.value u) refl h
    search_places how (symbol s qs) (node r ts) at k P j e put f h =
        searches_places how qs ts (at + width l.table r) k P j e put f (if_true_found (eqb (class_of l.classes s) (class_of l.classes r)) (λ u. searches l.table l.classes how qs ts (at + width l.table r) e put k) f h)
    search_places how (complement q) t at k P j e put f h = j e (put ++ ((λ g. search l.table l.classes freely q t at g [] finish) ∷ [])) f h

    pub searches_places : (how : ℕ → Tries) (qs : Children) (ts : Terms) (at : ℕ) (k : Continuation) (P : Assignment → ℕ → Option ℕ) → Places k P
        → Places (λ e put. searches l.table l.classes how qs ts at e put k) (λ b v. place_all l.table qs ts at b v (P b v))
    searches_places how end nil at k P j e put f h = j e put f h
    searches_places how end (t :: ts) at k P j e put f h = absurd h
    searches_places how (plain q qs) nil at k P j e put f h = absurd h
    searches_places how (plain q qs) (t :: ts) at k P j e put f h =
        search_places how q t at (λ g ds. searches l.table l.classes how qs ts (at + size l.table t) g ds k) (λ b v. place_all l.table qs ts (at + size l.table t) b v (P b v))
        (searches_places how qs ts (at + size l.table t) k P j) e put f h
    searches_places how (run u qs) ts at k P j e put f h =
        run_places e u at ts (λ w us. searches l.table l.classes how qs us (at + sizes l.table w) (bind e u at w) put k)
        (λ w us. searches l.table l.classes how qs us (at + sizes l.table w) e put k) f
        (λ w us v. place_all l.table qs us (at + sizes l.table w) f.value v (P f.value v))
        (λ w us r. searches_places how qs us (at + sizes l.table w) k P j (bind e u at w) put f r)
        (λ w us r. searches_places how qs us (at + sizes l.table w) k P j e put f r)
        (how u) (e.value u) refl h

  -- the offset of each variable that has a place is that of its first place
  search_placed : (how : ℕ → Tries) (q : Pattern) (t : Term) (f : Env) → AnswerIn (search l.table l.classes how q t zero start [] finish).out f
      → (v n : ℕ) → place l.table q t zero f.value v None ≡ Some n → f.offset v ≡ n
  search_placed how q t f h v n p = search_places how q t zero finish (λ b v. None) finish_places start [] f h v n p

  -- each free variable has a place
  mutual
    has_place : (q : Pattern) (t : Term) (at : ℕ) (b : Assignment) (v : ℕ) (vs : List ℕ) (other : Option ℕ) → Holds l (TermsOf l) q b t
        → (among v vs ≡ true → (n : ℕ) × (other ≡ Some n)) → among v (vars q vs) ≡ true
        → (n : ℕ) × (place l.table q t at b v other ≡ Some n)
    has_place (name u) t at b v vs other h f m = place_here u at v vs other f m
    has_place (symbol s qs) (node r ts) at b v vs other h f m = has_place_all qs ts (at + width l.table r) b v vs other h.1 f m
    has_place (complement q) t at b v vs other h f m = f m

    has_place_all : (qs : Children) (ts : Terms) (at : ℕ) (b : Assignment) (v : ℕ) (vs : List ℕ) (other : Option ℕ) → HoldAll l (TermsOf l) qs b ts
        → (among v vs ≡ true → (n : ℕ) × (other ≡ Some n)) → among v (vars_all qs vs) ≡ true
        → (n : ℕ) × (place_all l.table qs ts at b v other ≡ Some n)
    has_place_all end ts at b v vs other h f m = f m
    has_place_all (plain q qs) nil at b v vs other h f m = absurd h
    has_place_all (plain q qs) (t :: ts) at b v vs other h f m =
        has_place q t at b v (vars_all qs vs) (place_all l.table qs ts (at + size l.table t) b v other) h.0
        (has_place_all qs ts (at + size l.table t) b v vs other h.1 f) m
    has_place_all (run u qs) ts at b v vs other h f m =
        place_here u at v (vars_all qs vs) (place_all l.table qs (past (assigned (b u)) ts) (at + sizes l.table (assigned (b u))) b v other)
        (has_place_all qs (past (assigned (b u)) ts) (at + sizes l.table (assigned (b u))) b v vs other
        (subst (λ (y : Terms). HoldAll l (TermsOf l) qs b y) (rest_is (b u) h.0 h.1 h.2 ts h.3 h.4 h.5) h.6) f) m

  -- the part that is shown for a variable, at the offset found and at its first place
  shows : (n : ℕ) (p : Option ℕ) (m : Bool) (o : Option Terms) → ExtendsAt (TermsOf l) None m o
      → (m ≡ true → (k : ℕ) × (p ≡ Some k)) → ((k : ℕ) → p ≡ Some k → n ≡ k) → assigned_part l.table o n ≡ or_absent p (assigned_part l.table o)
  shows n p true None x g i = absurd (none_some x.2)
  shows n p true (Some w) x g i = let k = g refl in rw (k.1, i k.0 k.1)
  shows n p false None x g i = absent_there p
    where
      absent_there : (p : Option ℕ) → absent ≡ or_absent p (assigned_part l.table None)
      absent_there None = refl
      absent_there (Some k) = refl
  shows n p false (Some w) x g i = absurd (none_some (sym x))

  module _ (q : Pattern) (t : Term) where
    -- each free variable has a place and a value
    pub free_placed : (a : Assignment) → Satisfies l q t a → (v : ℕ) → among v (free q) ≡ true
        → (at : ℕ) × (w : Terms) × (place l.table q t zero a v None ≡ Some at) × (a v ≡ Some w)
    unfolding Extends
    free_placed a s v m =
        let p = has_place q t zero a v [] None s.holds (λ m. absurd (false≢true m)) m in
        let w = subst (λ (c : Bool). ExtendsAt (TermsOf l) None c (a v)) m (s.exact v) in (p.0, w.0, p.1, w.2)

    -- and no other variable has
    pub others_absent : (a : Assignment) → Satisfies l q t a → (v : ℕ) → among v (free q) ≡ false → variable_part l.table q t a v ≡ absent
    unfolding Extends
    others_absent a s v m =
        let w : a v ≡ None = subst (λ (c : Bool). ExtendsAt (TermsOf l) None c (a v)) m (s.exact v) in
        ap (λ (o : Option Terms). or_absent (place l.table q t zero a v None) (assigned_part l.table o)) w ∙ go (place l.table q t zero a v None)
      where
        go : (p : Option ℕ) → or_absent p (assigned_part l.table None) ≡ absent
        go None = refl
        go (Some k) = refl

    -- every answer that satisfies is shown at the first places
    pub shown_at_first_places : (how : ℕ → Tries) (e : Env) → AnswerIn (search l.table l.classes how q t zero start [] finish).out e
        → Satisfies l q t e.value → parts l.table e ≡ parts_at l.table q t e.value
    unfolding Extends
    shown_at_first_places how e h s =
        each_same (λ v. assigned_part l.table (e.value v) (e.offset v)) (variable_part l.table q t e.value) each 0 variables
      where
        each : (v : ℕ) → assigned_part l.table (e.value v) (e.offset v) ≡ variable_part l.table q t e.value v
        each v =
            shows (e.offset v) (place l.table q t zero e.value v None) (among v (free q)) (e.value v) (s.exact v)
            (has_place q t zero e.value v [] None s.holds (λ m. absurd (false≢true m)))
            (search_placed how q t e h v)

    pub shown_at_first_place : TermOf l t → (e : Env) → AnswerIn (whole l q t).out e → parts l.table e ≡ parts_at l.table q t e.value
    shown_at_first_place g e h = shown_at_first_places freely e h (answer_satisfies l q t g e h)

  -- assignments that count as one show the same parts, where the table bytes within a class are alike

  module _ (k : Alike l.table l.classes) where
    part_one : (o p : Option Terms) (at : ℕ) → OneAt l o p → assigned_part l.table o at ≡ assigned_part l.table p at
    part_one None None at h = refl
    part_one None (Some x) at h = absurd h
    part_one (Some w) None at h = absurd h
    part_one (Some w) (Some x) at h = ap₂ (part at) (same_sizes l.table l.classes k w x h) (same_counts l.classes w x h)

    past_one : (w x ts : Terms) → l ⊢ w ≋ x → past w ts ≡ past x ts
    past_one nil nil ts h = refl
    past_one nil (y :: x) ts h = absurd (false≢true h)
    past_one (t :: w) nil ts h = absurd (false≢true h)
    past_one (t :: w) (y :: x) nil h = refl
    past_one (t :: w) (y :: x) (u :: ts) h = past_one w x ts (cons_open l t y w x h).1

    assigned_one : (o p : Option Terms) → OneAt l o p → l ⊢ assigned o ≋ assigned p
    assigned_one None None h = refl
    assigned_one None (Some x) h = absurd h
    assigned_one (Some w) None h = absurd h
    assigned_one (Some w) (Some x) h = h

    module _ (a b : Assignment) (e : CountAsOne l a b) (v : ℕ) where
      mutual
        pub place_one : (q : Pattern) (t : Term) (at : ℕ) (other other' : Option ℕ) → other ≡ other'
            → place l.table q t at a v other ≡ place l.table q t at b v other'
        place_one (name u) t at other other' i = ap (cond (eqb u v) (Some at)) i
        place_one (symbol s qs) (node r ts) at other other' i = places_one qs ts (at + width l.table r) other other' i
        place_one (complement q) t at other other' i = i

        places_one : (qs : Children) (ts : Terms) (at : ℕ) (other other' : Option ℕ) → other ≡ other'
            → place_all l.table qs ts at a v other ≡ place_all l.table qs ts at b v other'
        places_one end ts at other other' i = i
        places_one (plain q qs) nil at other other' i = i
        places_one (plain q qs) (t :: ts) at other other' i =
            place_one q t at (place_all l.table qs ts (at + size l.table t) a v other) (place_all l.table qs ts (at + size l.table t) b v other')
            (places_one qs ts (at + size l.table t) other other' i)
        places_one (run u qs) ts at other other' i =
            let h = assigned_one (a u) (b u) (e u) in
            ap (cond (eqb u v) (Some at))
            (places_one qs (past (assigned (a u)) ts) (at + sizes l.table (assigned (a u))) other other' i
            ∙ ap₂ (λ (us : Terms) (n : ℕ). place_all l.table qs us (at + n) b v other') (past_one (assigned (a u)) (assigned (b u)) ts h)
            (same_sizes l.table l.classes k (assigned (a u)) (assigned (b u)) h))

    pub parts_one : (q : Pattern) (t : Term) (a b : Assignment) → CountAsOne l a b → parts_at l.table q t a ≡ parts_at l.table q t b
    parts_one q t a b e = each_same (variable_part l.table q t a) (variable_part l.table q t b) each 0 variables
      where
        go : (p : Option ℕ) (o r : Option Terms) → OneAt l o r → or_absent p (assigned_part l.table o) ≡ or_absent p (assigned_part l.table r)
        go None o r h = refl
        go (Some at) o r h = part_one o r at h

        each : (v : ℕ) → variable_part l.table q t a v ≡ variable_part l.table q t b v
        each v =
            ap (λ (p : Option ℕ). or_absent p (assigned_part l.table (a v))) (place_one a b e v q t zero None None refl)
            ∙ go (place l.table q t zero b v None) (a v) (b v) (e v)
