-- The rules of one state, tried one by one.
use Prim.Native.Nat.{ℕ, zero, suc, ◌+◌, ◌<◌}
use mathlib.Core.Path.{◌≡◌, refl, sym, subst}
use mathlib.Core.List.{List, [], ◌∷◌}
use mathlib.Core.Bool.{Bool, true, false, false≢true}
use native.Mathlib.Omega.{arith}
use Rattle.term.specs.Class.{Alike}
use Rattle.term.specs.Limits.{TermAccepted}
use Rattle.term.specs.Table.{table_accepted}
use Rattle.term.specs.Term.{Term}
use Rattle.anti_pattern.specs.Language.{Language}
use Rattle.game.specs.Accepted.{RuleAccepted, EachAccepted}
use Rattle.game.specs.Move.{Rule, Leads, Move, Stuck}
use Rattle.game.specs.Search.{Ruling, forced, unforced, stopped, Opening, by_rule, by_pass, Turn, to, nowhere, spends, turn, at_turn, unless_forced, if_forced, loader_tries, sender_tries, Allowing}
use Rattle.game.proofs.Turns.{Decided, yes, no, unknown, leads_once, Told, leads_to, no_move, is_spent, turn_told, move_first, first_leads, move_later, later_move, no_rule}

module _ (lang : Language) (alike : Alike lang.table lang.classes) (tabled : table_accepted lang.table ≡ true)
    (allowed : Allowing) (t : Term) (st : TermAccepted lang t) where
  -- The loader's: S is what a move is to leave forced
  module _ (S : Term → Type 0) where
    abbrev Unforcing : List Rule → Type 0
    Unforcing rs = (j : ℕ) (w : Term) → Move lang rs j t w → S w → ⊥

    -- what trying the rules rs from index i on comes to
    pub data Loader (i : ℕ) (moved : Bool) (rs : List Rule) : Ruling Opening → Type 0 where
      by_rule_holds : (j k : ℕ) (u : Term) → k ≡ i + j → Move lang rs j t u → S u → ((h : ℕ) (w : Term) → h < j → Move lang rs h t w → S w → ⊥)
          → Loader i moved rs (forced (by_rule k))
      by_pass_holds : moved ≡ false → Stuck lang rs t → S t → Loader i moved rs (forced by_pass)
      by_none : ((j : ℕ) (w : Term) → Move lang rs j t w → S w → ⊥) → (moved ≡ false → Stuck lang rs t → S t → ⊥) → Loader i moved rs unforced
      is_stopped : Loader i moved rs stopped

    passed : (i : ℕ) (x : Ruling (Unit {0})) → Decided (S t) (λ y. Unit {0}) x → Loader i false [] (unless_forced x by_pass (λ y. unforced))
    passed i (forced a) (yes p q) = by_pass_holds refl (no_rule lang t) p
    passed i unforced (no n) = by_none (λ j w m s. no_rule lang t j w m) (λ e k s. n s)
    passed i stopped unknown = is_stopped

    module _ (i : ℕ) (moved : Bool) (r : Rule) (ok : RuleAccepted lang r) (rs : List Rule) where
      -- the rule is no move
      skip : {x : Ruling Opening} → ((u : Term) → Leads lang r t u → ⊥) → Loader (i + 1) moved rs x → Loader i moved (r ∷ rs) x
      skip n (by_rule_holds j k u e m s l) =
          by_rule_holds (suc j) k u (omega (arith, e)) (move_later lang r rs t j u m) s
          (λ h w b v z. go h w b v z)
        where
          go : (h : ℕ) (w : Term) → h < suc j → Move lang (r ∷ rs) h t w → S w → ⊥
          go zero w b v z = n w (first_leads lang r rs t w v)
          go (suc h) w b v z = l h w (omega arith) (later_move lang r rs t h w v) z
      skip n (by_pass_holds e k s) = by_pass_holds e stuck s
        where
          stuck : Stuck lang (r ∷ rs) t
          stuck zero u v = n u (first_leads lang r rs t u v)
          stuck (suc h) u v = k h u (later_move lang r rs t h u v)
      skip n (by_none l k) = by_none none (λ e v s. k e (λ h u m. v (suc h) u (move_later lang r rs t h u m)) s)
        where
          none : (j : ℕ) (w : Term) → Move lang (r ∷ rs) j t w → S w → ⊥
          none zero w v s = n w (first_leads lang r rs t w v)
          none (suc j) w v s = l j w (later_move lang r rs t j w v) s
      skip n is_stopped = is_stopped

      -- the rule is a move that does not force
      pass_over : {x : Ruling Opening} (u : Term) → Leads lang r t u → (S u → ⊥) → Loader (i + 1) true rs x → Loader i moved (r ∷ rs) x
      pass_over u d n (by_rule_holds j k w e m s l) =
          by_rule_holds (suc j) k w (omega (arith, e)) (move_later lang r rs t j w m) s
          (λ h y b v z. go h y b v z)
        where
          go : (h : ℕ) (y : Term) → h < suc j → Move lang (r ∷ rs) h t y → S y → ⊥
          go zero y b v z = n (subst S (sym (leads_once lang alike tabled r ok t st u y d (first_leads lang r rs t y v))) z)
          go (suc h) y b v z = l h y (omega arith) (later_move lang r rs t h y v) z
      pass_over u d n (by_pass_holds e k s) = absurd (false≢true (sym e))
      pass_over u d n (by_none l k) = by_none none (λ e v s. v 0 u (move_first lang r rs t u d))
        where
          none : (j : ℕ) (w : Term) → Move lang (r ∷ rs) j t w → S w → ⊥
          none zero w v s = n (subst S (sym (leads_once lang alike tabled r ok t st u w d (first_leads lang r rs t w v))) s)
          none (suc j) w v s = l j w (later_move lang r rs t j w v) s
      pass_over u d n is_stopped = is_stopped

      followed : (u : Term) → Leads lang r t u → (x : Ruling (Unit {0})) → Decided (S u) (λ y. Unit {0}) x → (next : Unit {0} → Ruling Opening)
          → Loader (i + 1) true rs (next tt) → Loader i moved (r ∷ rs) (unless_forced x (by_rule i) next)
      followed u d (forced a) (yes p q) next rest = by_rule_holds 0 i u (omega arith) (move_first lang r rs t u d) p (λ h w b v z. omega arith)
      followed u d unforced (no n) next rest = pass_over u d n rest
      followed u d stopped unknown next rest = is_stopped

    pub loader_tries_holds : (follow : Term → Ruling (Unit {0})) → ((u : Term) → TermAccepted lang u → Decided (S u) (λ y. Unit {0}) (follow u))
        → (i : ℕ) (moved : Bool) (rs : List Rule) → EachAccepted lang rs → Loader i moved rs (loader_tries lang allowed follow t i moved rs)
    unfolding loader_tries
    loader_tries_holds follow f i true [] ok = by_none (λ j w m s. no_rule lang t j w m) (λ e k s. false≢true (sym e))
    loader_tries_holds follow f i false [] ok = passed i (follow t) (f t st)
    loader_tries_holds follow f i moved (r ∷ rs) ok =
        go (turn lang allowed r t) (turn_told lang alike tabled r ok.0 t st allowed) (loader_tries_holds follow f (i + 1) true rs ok.1) (loader_tries_holds follow f (i + 1) moved rs ok.1)
      where
        go : (x : Turn) → Told lang r t x → Loader (i + 1) true rs (loader_tries lang allowed follow t (i + 1) true rs)
            → Loader (i + 1) moved rs (loader_tries lang allowed follow t (i + 1) moved rs)
            → Loader i moved (r ∷ rs)
            (at_turn x (λ u. unless_forced (follow u) (by_rule i) (λ y. loader_tries lang allowed follow t (i + 1) true rs))
            (λ y. loader_tries lang allowed follow t (i + 1) moved rs))
        go (to u) (leads_to d) rest other = followed i moved r ok.0 rs u d (follow u) (f u d.within) (λ y. loader_tries lang allowed follow t (i + 1) true rs) rest
        go nowhere (no_move n) rest other = skip i moved r ok.0 rs n other
        go spends is_spent rest other = is_stopped

  -- The sender's: L is what each move is to leave forced
  module _ (L : Term → Type 0) where
    abbrev pub AllLeave : List Rule → Type 0
    AllLeave rs = (j : ℕ) (w : Term) → Move lang rs j t w → L w

    pub data Sender (moved : Bool) (rs : List Rule) : Ruling (Unit {0}) → Type 0 where
      all_leave : ((j : ℕ) (w : Term) → Move lang rs j t w → L w) → (moved ≡ false → Stuck lang rs t → L t) → Sender moved rs (forced tt)
      one_does_not : (((j : ℕ) (w : Term) → Move lang rs j t w → L w) → (moved ≡ false → Stuck lang rs t → L t) → ⊥) → Sender moved rs unforced
      is_stopped : Sender moved rs stopped

    sender_passed : {Q : Opening → Type 0} (x : Ruling Opening) → Decided (L t) Q x → Sender false [] (if_forced x (λ y. forced tt))
    sender_passed (forced a) (yes p q) = all_leave (λ j w m. absurd (no_rule lang t j w m)) (λ e k. p)
    sender_passed unforced (no n) = one_does_not (λ a b. n (b refl (no_rule lang t)))
    sender_passed stopped unknown = is_stopped

    module _ (moved : Bool) (r : Rule) (ok : RuleAccepted lang r) (rs : List Rule) where
      sender_skip : {x : Ruling (Unit {0})} → ((u : Term) → Leads lang r t u → ⊥) → Sender moved rs x → Sender moved (r ∷ rs) x
      sender_skip n (all_leave a b) = all_leave all (λ e k. b e (λ h u m. k (suc h) u (move_later lang r rs t h u m)))
        where
          all : (j : ℕ) (w : Term) → Move lang (r ∷ rs) j t w → L w
          all zero w v = absurd (n w (first_leads lang r rs t w v))
          all (suc j) w v = a j w (later_move lang r rs t j w v)
      sender_skip n (one_does_not d) = one_does_not (λ a b. d (λ j w m. a (suc j) w (move_later lang r rs t j w m)) (λ e k. b e (stuck k)))
        where
          stuck : Stuck lang rs t → Stuck lang (r ∷ rs) t
          stuck k zero u v = n u (first_leads lang r rs t u v)
          stuck k (suc h) u v = k h u (later_move lang r rs t h u v)
      sender_skip n is_stopped = is_stopped

      sender_over : {x : Ruling (Unit {0})} (u : Term) → Leads lang r t u → L u → Sender true rs x → Sender moved (r ∷ rs) x
      sender_over u d p (all_leave a b) = all_leave all (λ e k. absurd (k 0 u (move_first lang r rs t u d)))
        where
          all : (j : ℕ) (w : Term) → Move lang (r ∷ rs) j t w → L w
          all zero w v = subst L (leads_once lang alike tabled r ok t st u w d (first_leads lang r rs t w v)) p
          all (suc j) w v = a j w (later_move lang r rs t j w v)
      sender_over u d p (one_does_not n) =
          one_does_not (λ a b. n (λ j w m. a (suc j) w (move_later lang r rs t j w m)) (λ e k. absurd (false≢true (sym e))))
      sender_over u d p is_stopped = is_stopped

      sender_followed : {Q : Opening → Type 0} (u : Term) → Leads lang r t u → (x : Ruling Opening) → Decided (L u) Q x → (next : Unit {0} → Ruling (Unit {0}))
          → Sender true rs (next tt) → Sender moved (r ∷ rs) (if_forced x next)
      sender_followed u d (forced a) (yes p q) next rest = sender_over u d p rest
      sender_followed u d unforced (no n) next rest = one_does_not (λ a b. n (a 0 u (move_first lang r rs t u d)))
      sender_followed u d stopped unknown next rest = is_stopped

    pub sender_tries_holds : (Q : Term → Opening → Type 0) (follow : Term → Ruling Opening) → ((u : Term) → TermAccepted lang u → Decided (L u) (Q u) (follow u))
        → (moved : Bool) (rs : List Rule) → EachAccepted lang rs → Sender moved rs (sender_tries lang allowed follow t moved rs)
    unfolding sender_tries
    sender_tries_holds Q follow f true [] ok = all_leave (λ j w m. absurd (no_rule lang t j w m)) (λ e k. absurd (false≢true (sym e)))
    sender_tries_holds Q follow f false [] ok = sender_passed (follow t) (f t st)
    sender_tries_holds Q follow f moved (r ∷ rs) ok =
        go (turn lang allowed r t) (turn_told lang alike tabled r ok.0 t st allowed) (sender_tries_holds Q follow f true rs ok.1) (sender_tries_holds Q follow f moved rs ok.1)
      where
        go : (x : Turn) → Told lang r t x → Sender true rs (sender_tries lang allowed follow t true rs)
            → Sender moved rs (sender_tries lang allowed follow t moved rs)
            → Sender moved (r ∷ rs)
            (at_turn x (λ u. if_forced (follow u) (λ y. sender_tries lang allowed follow t true rs)) (λ y. sender_tries lang allowed follow t moved rs))
        go (to u) (leads_to d) rest other = sender_followed moved r ok.0 rs u d (follow u) (f u d.within) (λ y. sender_tries lang allowed follow t true rs) rest
        go nowhere (no_move n) rest other = sender_skip moved r ok.0 rs n other
        go spends is_spent rest other = is_stopped
