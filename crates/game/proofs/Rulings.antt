-- The rules of one's own, one by one: what is left of the search after some of them.
use Prim.Native.Nat.{ℕ, suc, ◌+◌, ◌<◌, ◌≤◌}
use native.Mathlib.Omega.{arith}
use mathlib.Core.Path.{◌≡◌, refl, sym, ◌∙◌, ap, subst}
use mathlib.Core.List.{List, [], ◌∷◌}
use mathlib.Core.Bool.{Bool, true, false}
use lib.ListN.{length, drop, drop_of_length-le}
use Rattle.term.specs.Term.{Term}
use Rattle.anti_pattern.specs.Language.{Language, Classed}
use Rattle.sheet.specs.Check.{entry_count}
use Rattle.game.specs.Call.{Input}
use Rattle.game.specs.Handed.{Sheets}
use Rattle.game.specs.Move.{Rule, Game}
use Rattle.game.specs.Search.{Ruling, forced, unforced, stopped, Opening, by_rule, by_pass, Turn, to, nowhere, spends, turn, at_turn, unless_forced, if_forced, loader_tries, sender_tries, loader_turn, sender_turn, loader_moves, sender_moves, each}
use Rattle.game.specs.Turns.{other, seen, own_sheet, own_rules, told_left, followed, opened, held, turn_left, MovesLeft, Turns, Moves, Follows}
use Rattle.game.specs.declared.First.{First}
use Rattle.game.specs.declared.First.TheVariants.{ByRule, ByPass}
use Rattle.game.specs.declared.Side.{Side}
use Rattle.game.specs.declared.Side.TheVariants.{Loader, Sender}
use Rattle.game.specs.declared.Spent.{Spent}
use Rattle.game.proofs.Sides.{rule_drop, rule_there, side_counted}
use Rattle.std.specs.Prelude.{Option, Some, None, Result, Ok, Err}

-- how a side's state is ruled

abbrev pub Ruled : Side → Type 0
Ruled Loader = Ruling Opening
Ruled Sender = Ruling (Unit {0})

abbrev settled : (x : Side) → Result (Option First) Spent → Ruled x
settled Loader r = opened r
settled Sender r = held r

-- what a followed rule makes of the rest, and what a pass makes of the state

abbrev rest : (x : Side) → ℕ → Result (Option Bool) Spent → Ruled x → Ruled x → Ruled x
rest Loader i (Ok None) next past = past
rest Loader i (Ok (Some true)) next past = forced (by_rule i)
rest Loader i (Ok (Some false)) next past = next
rest Loader i (Err e) next past = stopped
rest Sender i (Ok None) next past = past
rest Sender i (Ok (Some true)) next past = next
rest Sender i (Ok (Some false)) next past = unforced
rest Sender i (Err e) next past = stopped

abbrev passed : (x : Side) → Result Bool Spent → Ruled x
passed Loader (Ok true) = forced by_pass
passed Loader (Ok false) = unforced
passed Loader (Err e) = stopped
passed Sender (Ok true) = forced tt
passed Sender (Ok false) = unforced
passed Sender (Err e) = stopped

loader_follows : (i : ℕ) (x : Turn) (f : Term → Ruling (Unit {0})) (next past : Ruling Opening)
    → at_turn x (λ u. unless_forced (f u) (by_rule i) (λ y. next)) (λ y. past) ≡ rest Loader i (followed x (λ u. told_left (f u))) next past
loader_follows i (to u) f next past = go (f u)
  where
    go : (r : Ruling (Unit {0})) → unless_forced r (by_rule i) (λ y. next) ≡ rest Loader i (followed (to u) (λ v. told_left r)) next past
    go (forced a) = refl
    go unforced = refl
    go stopped = refl
loader_follows i nowhere f next past = refl
loader_follows i spends f next past = refl

sender_follows : (i : ℕ) (x : Turn) (f : Term → Ruling Opening) (next past : Ruling (Unit {0}))
    → at_turn x (λ u. if_forced (f u) (λ y. next)) (λ y. past) ≡ rest Sender i (followed x (λ u. told_left (f u))) next past
sender_follows i (to u) f next past = go (f u)
  where
    go : (r : Ruling Opening) → if_forced r (λ y. next) ≡ rest Sender i (followed (to u) (λ v. told_left r)) next past
    go (forced o) = refl
    go unforced = refl
    go stopped = refl
sender_follows i nowhere f next past = refl
sender_follows i spends f next past = refl

loader_passes : (x : Ruling (Unit {0})) → unless_forced x by_pass (λ y. unforced) ≡ passed Loader (told_left x)
loader_passes (forced a) = refl
loader_passes unforced = refl
loader_passes stopped = refl

sender_passes : (x : Ruling Opening) → if_forced x (λ y. forced tt) ≡ passed Sender (told_left x)
sender_passes (forced o) = refl
sender_passes unforced = refl
sender_passes stopped = refl

-- by what the side sees

rest_won : (x : Side) (i : ℕ) (b : Bool) (next past : Ruled x) → seen x b ≡ true → rest x i (Ok (Some b)) next past ≡ settled x (Ok (Some (ByRule i)))
rest_won Loader i true next past e = refl
rest_won Loader i false next past e = let z : ◌≡◌ {A = ℕ} 0 1 = cc in absurd (omega arith)
rest_won Sender i true next past e = let z : ◌≡◌ {A = ℕ} 0 1 = cc in absurd (omega arith)
rest_won Sender i false next past e = refl

rest_lost : (x : Side) (i : ℕ) (b : Bool) (next past : Ruled x) → seen x b ≡ false → rest x i (Ok (Some b)) next past ≡ next
rest_lost Loader i true next past e = let z : ◌≡◌ {A = ℕ} 0 1 = cc in absurd (omega arith)
rest_lost Loader i false next past e = refl
rest_lost Sender i true next past e = refl
rest_lost Sender i false next past e = let z : ◌≡◌ {A = ℕ} 0 1 = cc in absurd (omega arith)

rest_none : (x : Side) (i : ℕ) (next past : Ruled x) → rest x i (Ok None) next past ≡ past
rest_none Loader i next past = refl
rest_none Sender i next past = refl

rest_stopped : (x : Side) (i : ℕ) (e : Spent) (next past : Ruled x) → rest x i (Err e) next past ≡ settled x (Err e)
rest_stopped Loader i e next past = refl
rest_stopped Sender i e next past = refl

passed_won : (x : Side) (b : Bool) → seen x b ≡ true → passed x (Ok b) ≡ settled x (Ok (Some ByPass))
passed_won Loader true e = refl
passed_won Loader false e = let z : ◌≡◌ {A = ℕ} 0 1 = cc in absurd (omega arith)
passed_won Sender true e = let z : ◌≡◌ {A = ℕ} 0 1 = cc in absurd (omega arith)
passed_won Sender false e = refl

passed_lost : (x : Side) (b : Bool) → seen x b ≡ false → passed x (Ok b) ≡ settled x (Ok None)
passed_lost Loader true e = let z : ◌≡◌ {A = ℕ} 0 1 = cc in absurd (omega arith)
passed_lost Loader false e = refl
passed_lost Sender true e = refl
passed_lost Sender false e = let z : ◌≡◌ {A = ℕ} 0 1 = cc in absurd (omega arith)

passed_stopped : (x : Side) (e : Spent) → passed x (Err e) ≡ settled x (Err e)
passed_stopped Loader e = refl
passed_stopped Sender e = refl

module _ (l : Language) (s : Sheets) (allowance : ℕ) (side : Side) (below : ℕ) (state : List ℕ) where
  abbrev all_moves : (x : Side) → Game → Term → Ruled x
  all_moves Loader g t = loader_moves l (each allowance) g (suc below) t
  all_moves Sender g t = sender_moves l (each allowance) g (suc below) t

  abbrev from : (x : Side) → Game → Term → ℕ → Bool → List Rule → Ruled x
  from Loader g t i moved rs = loader_tries l (each allowance) (λ u. sender_turn l (each allowance) g below u) t i moved rs
  from Sender g t i moved rs = sender_tries l (each allowance) (λ u. loader_turn l (each allowance) g below u) t moved rs

  -- after the rules before index i
  pub record At (rules : ℕ) (moved : Bool) (i : ℕ) : Type 0 where
    pub counted : rules ≡ entry_count (own_sheet side s)
    pub going : Classed l → (g : Game) (t : Term) → Input l s state g t → all_moves side g t ≡ from side g t i moved (drop i (own_rules side g))

  pub moves_start : (rules : ℕ) → rules ≡ entry_count (own_sheet side s) → At rules false 0
  moves_start rules c = record { counted = c; going = λ k g t j. go side g t }
    where
      go : (x : Side) (g : Game) (t : Term) → all_moves x g t ≡ from x g t 0 false (drop 0 (own_rules x g))
      go Loader g t = refl
      go Sender g t = refl

  own_count : (x : Side) (g : Game) (t : Term) → Input l s state g t → entry_count (own_sheet x s) ≡ length (own_rules x g)
  own_count Loader g t j = side_counted l s.loader s.loader_templates g.loader j.loader
  own_count Sender g t j = side_counted l s.sender s.sender_templates g.sender j.sender

  -- one rule
  tried_one : (x : Side) (g : Game) (t : Term) (i : ℕ) (moved : Bool) (r : Rule) (rs : List Rule)
      → from x g t i moved (r ∷ rs)
      ≡ rest x i (followed (turn l (each allowance) r t) (λ u. turn_left l allowance g (other x) below u)) (from x g t (i + 1) true rs) (from x g t (i + 1) moved rs)
  unfolding loader_tries sender_tries
  tried_one Loader g t i moved r rs = loader_follows i (turn l (each allowance) r t) (λ u. sender_turn l (each allowance) g below u) (from Loader g t (i + 1) true rs) (from Loader g t (i + 1) moved rs)
  tried_one Sender g t i moved r rs = sender_follows i (turn l (each allowance) r t) (λ u. loader_turn l (each allowance) g below u) (from Sender g t (i + 1) true rs) (from Sender g t (i + 1) moved rs)

  -- no rule is left
  tried_none : (x : Side) (g : Game) (t : Term) (i : ℕ) → from x g t i true [] ≡ settled x (Ok None)
  unfolding loader_tries sender_tries
  tried_none Loader g t i = refl
  tried_none Sender g t i = refl

  tried_pass : (x : Side) (g : Game) (t : Term) (i : ℕ) → from x g t i false [] ≡ passed x (turn_left l allowance g (other x) below t)
  unfolding loader_tries sender_tries
  tried_pass Loader g t i = loader_passes (sender_turn l (each allowance) g below t)
  tried_pass Sender g t i = sender_passes (loader_turn l (each allowance) g below t)

  moves_by : (x : Side) (g : Game) (t : Term) (r : Result (Option First) Spent) → settled x r ≡ all_moves x g t → MovesLeft l allowance g x below t r
  moves_by Loader g t r e = e
  moves_by Sender g t r e = e

  module _ (rules : ℕ) (moved : Bool) (i : ℕ) (a : At rules moved i) where
    -- the rule of an index is there, and what is left of it
    tried : i < rules → (r : Result (Option Bool) Spent) → Follows l s allowance side below i state r → Classed l
        → (g : Game) (t : Term) → Input l s state g t
        → all_moves side g t ≡ rest side i r (from side g t (i + 1) true (drop (i + 1) (own_rules side g))) (from side g t (i + 1) moved (drop (i + 1) (own_rules side g)))
    unfolding Follows
    tried b r f k g t j =
        let h = rule_there (own_rules side g) i (omega (arith, a.counted, own_count side g t j)) in
        a.going k g t j ∙ ap (from side g t i moved) (rule_drop (own_rules side g) i h.0 h.1)
        ∙ tried_one side g t i moved h.0 (drop (i + 1) (own_rules side g))
        ∙ ap (λ (y : Result (Option Bool) Spent). rest side i y (from side g t (i + 1) true (drop (i + 1) (own_rules side g))) (from side g t (i + 1) moved (drop (i + 1) (own_rules side g))))
        (sym (f k g t j h.0 h.1))

    module _ (b : i < rules) where
      pub moves_stopped : (e : Spent) → Follows l s allowance side below i state (Err e) → Moves l s allowance side below state (Err e)
      unfolding Moves
      moves_stopped e f k g t j = moves_by side g t (Err e) (sym (tried b (Err e) f k g t j ∙ rest_stopped side i e _ _))

      module _ (o : Option Bool) (fo : Follows l s allowance side below i state (Ok o)) (d : Bool) (is : o ≡ Some d) where
        f : Follows l s allowance side below i state (Ok (Some d))
        f = subst (λ (x : Option Bool). Follows l s allowance side below i state (Ok x)) is fo

        pub moves_settled : seen side d ≡ true → Moves l s allowance side below state (Ok (Some (ByRule i)))
        unfolding Moves
        moves_settled e k g t j = moves_by side g t (Ok (Some (ByRule i))) (sym (tried b (Ok (Some d)) f k g t j ∙ rest_won side i d _ _ e))

        pub moves_on : seen side d ≡ false → At rules true (i + 1)
        moves_on e = record { counted = a.counted; going = λ k g t j. tried b (Ok (Some d)) f k g t j ∙ rest_lost side i d _ _ e }

      pub moves_past : (o : Option Bool) → Follows l s allowance side below i state (Ok o) → o ≡ None → At rules moved (i + 1)
      moves_past o fo is = record {
        counted = a.counted;
        going = λ k g t j. tried b (Ok None) (subst (λ (x : Option Bool). Follows l s allowance side below i state (Ok x)) is fo) k g t j ∙ rest_none side i _ _;
      }

    -- past the last
    module _ (b : rules ≤ i) where
      last : Classed l → (g : Game) (t : Term) → Input l s state g t → (m : Bool) → moved ≡ m → all_moves side g t ≡ from side g t i m []
      last k g t j m e =
          a.going k g t j ∙ ap (from side g t i moved) (drop_of_length-le (own_rules side g) {i = i} (omega (arith, b, a.counted, own_count side g t j)))
          ∙ ap (λ (y : Bool). from side g t i y []) e

      pub moves_end : moved ≡ true → Moves l s allowance side below state (Ok None)
      unfolding Moves
      moves_end e k g t j = moves_by side g t (Ok None) (sym (last k g t j true e ∙ tried_none side g t i))

      module _ (e : moved ≡ false) (y : Side) (z : y ≡ other side) where
        pass_left : (r : Result Bool Spent) → Turns l s allowance y below state r → Classed l → (g : Game) (t : Term) → Input l s state g t
            → all_moves side g t ≡ passed side r
        unfolding Turns
        pass_left r f k g t j = last k g t j false e ∙ tried_pass side g t i ∙ ap (passed side) (ap (λ (x : Side). turn_left l allowance g x below t) (sym z) ∙ sym (f k g t j))

        pub pass_stopped : (x : Spent) → Turns l s allowance y below state (Err x) → Moves l s allowance side below state (Err x)
        unfolding Moves
        pass_stopped x f k g t j = moves_by side g t (Err x) (sym (pass_left (Err x) f k g t j ∙ passed_stopped side x))

        module _ (d : Bool) (f : Turns l s allowance y below state (Ok d)) where
          pub pass_settled : seen side d ≡ true → Moves l s allowance side below state (Ok (Some ByPass))
          unfolding Moves
          pass_settled h k g t j = moves_by side g t (Ok (Some ByPass)) (sym (pass_left (Ok d) f k g t j ∙ passed_won side d h))

          pub pass_lost : seen side d ≡ false → Moves l s allowance side below state (Ok None)
          unfolding Moves
          pass_lost h k g t j = moves_by side g t (Ok None) (sym (pass_left (Ok d) f k g t j ∙ passed_lost side d h))
