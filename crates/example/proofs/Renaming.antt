-- A search does not tell records apart whose symbols are renamed, as long as what is of one class stays so, in the pattern too.
use Prim.Native.Nat.{ℕ, zero, ◌+◌}
use mathlib.Core.Path.{◌≡◌, refl, sym, ◌∙◌, ap, ap₂, subst}
use mathlib.Core.List.{List, [], ◌∷◌, ◌++◌}
use mathlib.Core.Bool.{Bool, true, false, cond, ◌&&◌}
use native.Mathlib.Omega.{arith}
use lib.Dec.{eqb}
use Rattle.term.specs.Class.{class_of}
use Rattle.term.specs.Pattern.{Pattern, name, symbol, complement, Children, end, plain, run}
use Rattle.term.specs.Same.{same_term, same_terms}
use Rattle.term.specs.Table.{width}
use Rattle.term.specs.Term.{Term, node, Terms, nil, ◌::◌, ◌⧺◌, single, size, sizes}
use Rattle.anti_pattern.specs.Search.{Env, bind, start, Answers, found, failed, first_answer, Result, plus, counted, fail, if_true, if_some, after, Deferred, Continuation, refuted, finish, lengths, freely, same_or, assign, behind, try_run, search, searches, level}
use Rattle.std.specs.Prelude.{Option, Some, None}

-- two symbols exchanged
abbrev pub swap : ℕ → ℕ → ℕ → ℕ
swap a b x = cond (eqb x a) b (cond (eqb x b) a x)

module _ (classes : List ℕ) (f : ℕ → ℕ) where
  abbrev mutual
    pub rename : Term → Term
    rename (node s ts) = node (f s) (renames ts)

    pub renames : Terms → Terms
    renames nil = nil
    renames (t :: ts) = rename t :: renames ts

  abbrev renamed : Option Terms → Option Terms
  renamed None = None
  renamed (Some w) = Some (renames w)

  -- the pattern's symbols are of the class of a symbol exactly if they are of that of the renamed one
  abbrev mutual
    pub Fixed : Pattern → Type 0
    Fixed (name v) = Unit {0}
    Fixed (symbol s qs) = ((r : ℕ) → eqb (class_of classes s) (class_of classes (f r)) ≡ eqb (class_of classes s) (class_of classes r)) × Fixeds qs
    Fixed (complement q) = Fixed q

    pub Fixeds : Children → Type 0
    Fixeds end = Unit {0}
    Fixeds (plain q qs) = Fixed q × Fixeds qs
    Fixeds (run v qs) = Fixeds qs

  renames_join : (x y : Terms) → renames (x ⧺ y) ≡ renames x ⧺ renames y
  renames_join nil y = refl
  renames_join (t :: x) y = ap (rename t ::◌) (renames_join x y)

  -- what was assigned is renamed
  abbrev Likened : Env → Env → Type 0
  Likened e e' = (v : ℕ) → e'.value v ≡ renamed (e.value v)

  data LikeOut : Answers → Answers → Type 0 where
    both_found : {e e' : Env} {m m' : ℕ} {o o' : Answers} → Likened e e' → m ≡ m' → LikeOut o o' → LikeOut (found e m o) (found e' m' o')
    both_failed : LikeOut failed failed

  record Like (r r' : Result) : Type 0 where
    pub outs : LikeOut r.out r'.out
    pub costs : r.cost ≡ r'.cost

  abbrev LikeDeferred : Deferred → Deferred → Type 0
  LikeDeferred d d' = (e e' : Env) → Likened e e' → Like (d e) (d' e')

  abbrev LikePut : List Deferred → List Deferred → Type 0
  LikePut [] [] = Unit {0}
  LikePut [] (d' ∷ ds') = ⊥
  LikePut (d ∷ ds) [] = ⊥
  LikePut (d ∷ ds) (d' ∷ ds') = LikeDeferred d d' × LikePut ds ds'

  abbrev LikeNext : Continuation → Continuation → Type 0
  LikeNext k k' = (e e' : Env) → Likened e e' → (ds ds' : List Deferred) → LikePut ds ds' → Like (k e ds) (k' e' ds')

  like_plus : (n m : ℕ) (r r' : Result) → n ≡ m → Like r r' → Like (plus n r) (plus m r')
  like_plus n m r r' e h = record { outs = h.outs; costs = omega (arith, h.costs) }

  like_counted : (r r' : Result) → Like r r' → Like (counted r) (counted r')
  like_counted r r' h = like_plus 1 1 r r' refl h

  like_fail : Like fail fail
  like_fail = record { outs = both_failed; costs = refl }

  put_last : (ds ds' : List Deferred) (d d' : Deferred) → LikePut ds ds' → LikeDeferred d d' → LikePut (ds ++ (d ∷ [])) (ds' ++ (d' ∷ []))
  put_last [] [] d d' h k = (k, tt)
  put_last [] (x ∷ ds') d d' h k = absurd h
  put_last (x ∷ ds) [] d d' h k = absurd h
  put_last (x ∷ ds) (y ∷ ds') d d' h k = (h.0, put_last ds ds' d d' h.1 k)

  like_refuted : {o o' : Answers} (n m : ℕ) (g g' : Unit {0} → Result) → LikeOut o o' → n ≡ m → Like (g tt) (g' tt) → Like (refuted o n g) (refuted o' m g')
  like_refuted n m g g' (both_found h i j) e k = record { outs = both_failed; costs = e }
  like_refuted n m g g' both_failed e k = like_plus n m (g tt) (g' tt) e k

  like_after : {o o' : Answers} (n m : ℕ) (g g' : Unit {0} → Result) → LikeOut o o' → n ≡ m → Like (g tt) (g' tt) → Like (after o n g) (after o' m g')
  like_after n m g g' (both_found {m = x} {m' = y} h i j) e k =
      let r = like_after x y g g' j i k in record { outs = both_found h r.costs r.outs; costs = e }
  like_after n m g g' both_failed e k = like_plus n m (g tt) (g' tt) e k

  finish_like : LikeNext finish finish
  unfolding finish
  finish_like e e' h [] [] p = record { outs = both_found h refl both_failed; costs = refl }
  finish_like e e' h [] (d' ∷ ds') p = absurd p
  finish_like e e' h (d ∷ ds) [] p = absurd p
  finish_like e e' h (d ∷ ds) (d' ∷ ds') p =
      let x = p.0 e e' h in
      like_refuted (d e).cost (d' e').cost (λ u. finish e ds) (λ u. finish e' ds') x.outs x.costs (finish_like e e' h ds ds' p.1)

  like_bind : (e e' : Env) (v at at' : ℕ) (w : Terms) → Likened e e' → Likened (bind e v at w) (bind e' v at' (renames w))
  like_bind e e' v at at' w h i = go (eqb v i)
    where
      go : (m : Bool) → cond m (Some (renames w)) (e'.value i) ≡ renamed (cond m (Some w) (e.value i))
      go true = refl
      go false = h i

  like_true : (m : Bool) (g g' : Unit {0} → Result) → Like (g tt) (g' tt) → Like (if_true m g) (if_true m g')
  like_true true g g' h = h
  like_true false g g' h = like_fail

  -- lengths of a run name
  lengths_like : (w ts : Terms) (g g' : Terms → Terms → Result) → ((x us : Terms) → Like (g x us) (g' (renames x) (renames us)))
      → Like (lengths w ts g) (lengths (renames w) (renames ts) g')
  lengths_like w nil g g' h = like_counted (g w nil) (g' (renames w) nil) (h w nil)
  lengths_like w (t :: ts) g g' h =
      let x = h w (t :: ts) in
      like_after (1 + (g w (t :: ts)).cost) (1 + (g' (renames w) (renames (t :: ts))).cost) (λ u. lengths (w ⧺ single t) ts g)
      (λ u. lengths (renames w ⧺ single (rename t)) (renames ts) g') x.outs (omega (arith, x.costs))
      (subst (λ (y : Terms). Like (lengths (w ⧺ single t) ts g) (lengths y (renames ts) g')) (renames_join w (single t)) (lengths_like (w ⧺ single t) ts g g' h))

  module _ (one : (x y : ℕ) → eqb (class_of classes (f x)) (class_of classes (f y)) ≡ eqb (class_of classes x) (class_of classes y)) where
    mutual
      same_rename : (t u : Term) → same_term classes (rename t) (rename u) ≡ same_term classes t u
      same_rename (node s ts) (node r us) = ap₂ ◌&&◌ (one s r) (same_renames ts us)

      same_renames : (ts us : Terms) → same_terms classes (renames ts) (renames us) ≡ same_terms classes ts us
      same_renames nil nil = refl
      same_renames nil (u :: us) = refl
      same_renames (t :: ts) nil = refl
      same_renames (t :: ts) (u :: us) = ap₂ ◌&&◌ (same_rename t u) (same_renames ts us)

    behind_renames : (w ts : Terms) → behind classes (renames w) (renames ts) ≡ renamed (behind classes w ts)
    unfolding behind
    behind_renames nil ts = refl
    behind_renames (t :: w) nil = refl
    behind_renames (t :: w) (u :: ts) =
        ap₂ (λ (m : Bool) (o : Option Terms). cond m o None) (same_rename t u) (behind_renames w ts) ∙ go (same_term classes t u)
      where
        go : (m : Bool) → cond m (renamed (behind classes w ts)) None ≡ renamed (cond m (behind classes w ts) None)
        go true = refl
        go false = refl

    like_some : (o o' : Option Terms) (g g' : Terms → Result) → o' ≡ renamed o → ((x : Terms) → Like (g x) (g' (renames x))) → Like (if_some o g) (if_some o' g')
    like_some None o' g g' e h = subst (λ (y : Option Terms). Like fail (if_some y g')) (sym e) like_fail
    like_some (Some x) o' g g' e h = subst (λ (y : Option Terms). Like (g x) (if_some y g')) (sym e) (h x)

    run_like : (o o' : Option Terms) (v : ℕ) (ts : Terms) (g h g' h' : Terms → Terms → Result) → o' ≡ renamed o
        → ((x us : Terms) → Like (g x us) (g' (renames x) (renames us))) → ((x us : Terms) → Like (h x us) (h' (renames x) (renames us)))
        → Like (try_run classes o (freely v) ts g h) (try_run classes o' (freely v) (renames ts) g' h')
    run_like None o' v ts g h g' h' e a b =
        subst (λ (y : Option Terms). Like (lengths nil ts g) (try_run classes y (freely v) (renames ts) g' h')) (sym e) (lengths_like nil ts g g' a)
    run_like (Some w) o' v ts g h g' h' e a b =
        subst (λ (y : Option Terms). Like (try_run classes (Some w) (freely v) ts g h) (try_run classes y (freely v) (renames ts) g' h')) (sym e)
        (like_counted (if_some (behind classes w ts) (h w)) (if_some (behind classes (renames w) (renames ts)) (h' (renames w)))
        (like_some (behind classes w ts) (behind classes (renames w) (renames ts)) (h w) (h' (renames w)) (behind_renames w ts) (b w)))

    -- a name
    module _ (e e' : Env) (v at at' : ℕ) (t : Term) (k k' : Continuation) (ds ds' : List Deferred) (l : Likened e e') (p : LikePut ds ds') (n : LikeNext k k') where
      kept_like : (m m' : Bool) → m' ≡ m → Like (if_some (cond m (Some e) None) (λ g. k g ds)) (if_some (cond m' (Some e') None) (λ g. k' g ds'))
      kept_like true m' h = subst (λ (b : Bool). Like (k e ds) (if_some (cond b (Some e') None) (λ g. k' g ds'))) (sym h) (n e e' l ds ds' p)
      kept_like false m' h = subst (λ (b : Bool). Like fail (if_some (cond b (Some e') None) (λ g. k' g ds'))) (sym h) like_fail

      name_like : (o o' : Option Terms) → o' ≡ renamed o
          → Like (if_some (same_or classes o (single t) e (bind e v at (single t))) (λ g. k g ds))
          (if_some (same_or classes o' (single (rename t)) e' (bind e' v at' (single (rename t)))) (λ g. k' g ds'))
      name_like None o' h =
          subst (λ (y : Option Terms). Like (k (bind e v at (single t)) ds) (if_some (same_or classes y (single (rename t)) e' (bind e' v at' (single (rename t)))) (λ g. k' g ds'))) (sym h)
          (n (bind e v at (single t)) (bind e' v at' (single (rename t))) (like_bind e e' v at at' (single t) l) ds ds' p)
      name_like (Some x) o' h =
          subst (λ (y : Option Terms). Like (if_some (same_or classes (Some x) (single t) e (bind e v at (single t))) (λ g. k g ds))
          (if_some (same_or classes y (single (rename t)) e' (bind e' v at' (single (rename t)))) (λ g. k' g ds'))) (sym h)
          (kept_like (same_terms classes x (single t)) (same_terms classes (renames x) (single (rename t))) (same_renames x (single t)))

    module _ (table : List ℕ) where
      mutual
        unfolding search

        search_like : (q : Pattern) → Fixed q → (t : Term) (at at' : ℕ) (e e' : Env) (ds ds' : List Deferred) (k k' : Continuation) → Likened e e' → LikePut ds ds'
            → LikeNext k k' → Like (search table classes freely q t at e ds k) (search table classes freely q (rename t) at' e' ds' k')
        search_like (name v) x t at at' e e' ds ds' k k' l p n =
            like_counted (if_some (assign classes e v at (single t)) (λ g. k g ds)) (if_some (assign classes e' v at' (single (rename t))) (λ g. k' g ds'))
            (name_like e e' v at at' t k k' ds ds' l p n (e.value v) (e'.value v) (l v))
        search_like (symbol s qs) x (node r ts) at at' e e' ds ds' k k' l p n =
            let here : Unit {0} → Result = λ u. searches table classes freely qs ts (at + width table r) e ds k in
            let there : Unit {0} → Result = λ u. searches table classes freely qs (renames ts) (at' + width table (f r)) e' ds' k' in
            like_counted (if_true (eqb (class_of classes s) (class_of classes r)) here) (if_true (eqb (class_of classes s) (class_of classes (f r))) there)
            (subst (λ (m : Bool). Like (if_true (eqb (class_of classes s) (class_of classes r)) here) (if_true m there)) (sym (x.0 r))
            (like_true (eqb (class_of classes s) (class_of classes r)) here there
            (searches_like qs x.1 ts (at + width table r) (at' + width table (f r)) e e' ds ds' k k' l p n)))
        search_like (complement q) x t at at' e e' ds ds' k k' l p n =
            let here : Deferred = λ g. search table classes freely q t at g [] finish in
            let there : Deferred = λ g. search table classes freely q (rename t) at' g [] finish in
            like_counted (k e (ds ++ (here ∷ []))) (k' e' (ds' ++ (there ∷ [])))
            (n e e' l (ds ++ (here ∷ [])) (ds' ++ (there ∷ []))
            (put_last ds ds' here there p (λ g g' h. search_like q x t at at' g g' [] [] finish finish h tt finish_like)))

        searches_like : (qs : Children) → Fixeds qs → (ts : Terms) (at at' : ℕ) (e e' : Env) (ds ds' : List Deferred) (k k' : Continuation) → Likened e e' → LikePut ds ds'
            → LikeNext k k' → Like (searches table classes freely qs ts at e ds k) (searches table classes freely qs (renames ts) at' e' ds' k')
        searches_like end x nil at at' e e' ds ds' k k' l p n = n e e' l ds ds' p
        searches_like end x (t :: ts) at at' e e' ds ds' k k' l p n = like_fail
        searches_like (plain q qs) x nil at at' e e' ds ds' k k' l p n = like_fail
        searches_like (plain q qs) x (t :: ts) at at' e e' ds ds' k k' l p n =
            search_like q x.0 t at at' e e' ds ds' (λ g d. searches table classes freely qs ts (at + size table t) g d k)
            (λ g d. searches table classes freely qs (renames ts) (at' + size table (rename t)) g d k') l p
            (λ g g' h d d' y. searches_like qs x.1 ts (at + size table t) (at' + size table (rename t)) g g' d d' k k' h y n)
        searches_like (run v qs) x ts at at' e e' ds ds' k k' l p n =
            run_like (e.value v) (e'.value v) v ts (λ w us. searches table classes freely qs us (at + sizes table w) (bind e v at w) ds k)
            (λ w us. searches table classes freely qs us (at + sizes table w) e ds k)
            (λ w us. searches table classes freely qs us (at' + sizes table w) (bind e' v at' w) ds' k')
            (λ w us. searches table classes freely qs us (at' + sizes table w) e' ds' k') (l v)
            (λ w us. searches_like qs x us (at + sizes table w) (at' + sizes table (renames w)) (bind e v at w) (bind e' v at' (renames w)) ds ds' k k'
            (like_bind e e' v at at' w l) p n)
            (λ w us. searches_like qs x us (at + sizes table w) (at' + sizes table (renames w)) e e' ds ds' k k' l p n)

      -- the whole search: the same count, and found or failed alike
      whole_like : (q : Pattern) → Fixed q → (t : Term) → Like (level table classes q t zero start) (level table classes q (rename t) zero start)
      whole_like q x t = search_like q x t zero zero start start [] [] finish finish (λ v. refl) tt finish_like

    pub same_count : (table : List ℕ) (q : Pattern) → Fixed q → (t : Term)
        → (level table classes q t zero start).cost ≡ (level table classes q (rename t) zero start).cost
    same_count table q x t = (whole_like table q x t).costs

    pub failed_alike : (table : List ℕ) (q : Pattern) → Fixed q → (t : Term)
        → first_answer (level table classes q (rename t) zero start).out ≡ None → first_answer (level table classes q t zero start).out ≡ None
    failed_alike table q x t h = go (whole_like table q x t).outs h
      where
        go : {o o' : Answers} → LikeOut o o' → first_answer o' ≡ None → first_answer o ≡ None
        go (both_found i j g) e = let z : ◌≡◌ {A = ℕ} 0 1 = cc in absurd (omega arith)
        go both_failed e = refl
