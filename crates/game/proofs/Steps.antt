-- What each step of the code comes to, on accepted input.
use Prim.Native.Nat.{ℕ, zero, suc, ◌+◌, ◌≤◌}
use native.Mathlib.Omega.{arith}
use mathlib.Core.Path.{◌≡◌, refl, sym, ◌∙◌, ap, subst}
use mathlib.Core.List.{List, []}
use mathlib.Core.Bool.{Bool, true, false, cond}
use lib.Dec.{ltb}
use lib.ListN.{length, take, drop}
use lib.Seq.{take_at}
use borrow.Author.Tests.{le-ltb}
use Rattle.answers.specs.declared.Answer.{Answer}
use Rattle.answers.specs.declared.Applied.{Applied}
use Rattle.answers.specs.declared.Played.{Played}
use Rattle.answers.specs.declared.Refusal.{Refusal}
use Rattle.answers.specs.declared.Refusal.TheVariants.{Full, Outgrown}
use Rattle.term.specs.Limits.{TermAccepted, longest_record}
use Rattle.term.specs.Term.{Term, size, term_tree, term_bytes}
use Rattle.term.proofs.Sizes.{term_size, encode_append}
use Rattle.anti_pattern.specs.Answer.{Matching, bound, nothing, spent, answer}
use Rattle.anti_pattern.specs.Language.{Language, Classed}
use Rattle.parts.specs.Shown.{answer_width}
use Rattle.link.specs.Input.{Input as MatchInput}
use Rattle.link.proofs.Linked.{linked}
use Rattle.matcher.specs.Call.{told as match_told, answer_on_bytes}
use Rattle.replace.specs.Call.{Input as ReplaceInput, Replacement, result, nothing as unbound, spent as overspent, replacement, measured, unless_full, written}
use Rattle.replace.specs.Demands.{Applies}
use Rattle.replace.specs.Growth.{within_limits}
use Rattle.replace.proofs.Calls.{classed_alike}
use Rattle.replace.proofs.Limits.{within_room}
use Rattle.sheet.specs.Entry.{part_at}
use Rattle.game.specs.Accepted.{EachAccepted}
use Rattle.game.specs.Call.{Side as SheetsOf, Input, told}
use Rattle.game.specs.Handed.{Sheets}
use Rattle.game.specs.Lent.{sheets_by, own}
use Rattle.game.specs.declared.Own.{Own}
use Rattle.game.specs.declared.Sheets.{Sheets as LentSheets}
use Rattle.game.specs.Move.{Rule, Game, rule_at}
use Rattle.game.specs.Search.{Ruling, Opening, unneeded, Turn, to, nowhere, spends, turn_by, goal_first, loader_turn, sender_turn, loader_moves, sender_moves, each}
use Rattle.game.specs.Turns.{other, seen, own_sheet, own_templates, own_rules, told_goal, told_left, as_move, followed, opened, held, ended, turn_left, MovesLeft, Reaches, Turns, Moves, Follows, Begins, Plays}
use Rattle.game.specs.declared.First.{First}
use Rattle.game.specs.declared.First.TheVariants.{ByRule, ByPass}
use Rattle.game.specs.declared.Side.{Side}
use Rattle.game.specs.declared.Side.TheVariants.{Loader, Sender}
use Rattle.game.specs.declared.Spent.{Spent}
use Rattle.game.proofs.Sides.{rule_accepted, side_input}
use Rattle.game.proofs.Turns.{Told, leads_to, turn_told}
use Rattle.std.specs.Prelude.{not, is_some, Option, Some, None, Result, Ok, Err}
use Rattle.answers.specs.declared.Fault.{Fault}

-- the goal is tried first

loader_first : (l : Language) (allowance : ℕ) (g : Game) (n : ℕ) (t : Term)
    → loader_turn l (each allowance) g n t ≡ goal_first unneeded (answer l g.goal t allowance) (λ x. loader_moves l (each allowance) g n t)
unfolding loader_turn
loader_first l allowance g zero t = refl
loader_first l allowance g (suc n) t = refl

sender_first : (l : Language) (allowance : ℕ) (g : Game) (n : ℕ) (t : Term)
    → sender_turn l (each allowance) g n t ≡ goal_first tt (answer l g.goal t allowance) (λ x. sender_moves l (each allowance) g n t)
unfolding loader_turn
sender_first l allowance g zero t = refl
sender_first l allowance g (suc n) t = refl

-- by what the match tells

abbrev pub reached_by : Result Answer Refusal → Result Bool Spent
reached_by (Ok (Answer.Bound n)) = Ok true
reached_by (Ok (Answer.None n)) = Ok false
reached_by (Ok (Answer.Spent n)) = Err (record {})
reached_by (Err r) = Ok false

told_reached : (x : Matching) → reached_by (match_told x) ≡ told_goal x
told_reached (bound ps n) = refl
told_reached (nothing n) = refl
told_reached (spent n) = refl

abbrev goal_then : Result Bool Spent → Result Bool Spent → Result Bool Spent
goal_then (Ok true) next = Ok true
goal_then (Ok false) next = next
goal_then (Err e) next = Err e

told_then : {A : Type 0} (a : A) (x : Matching) (next : Unit {0} → Ruling A) → told_left (goal_first a x next) ≡ goal_then (told_goal x) (told_left (next tt))
told_then a (bound ps n) next = refl
told_then a (nothing n) next = refl
told_then a (spent n) next = refl

abbrev begun_then : ℕ → Result Bool Spent → Result Played Fault → Result Played Fault
begun_then allowance (Ok true) next = Ok Played.Unneeded
begun_then allowance (Ok false) next = next
begun_then allowance (Err e) next = Ok (Played.Spent allowance)

told_begun : (allowance : ℕ) (x : Matching) (next : Unit {0} → Ruling Opening)
    → told allowance (goal_first unneeded x next) ≡ begun_then allowance (told_goal x) (told allowance (next tt))
told_begun allowance (bound ps n) next = refl
told_begun allowance (nothing n) next = refl
told_begun allowance (spent n) next = refl

-- what the moves leave

opened_left : (m : Option First) → told_left (opened (Ok m)) ≡ Ok (is_some m)
opened_left (Some (ByRule i)) = refl
opened_left (Some ByPass) = refl
opened_left None = refl

abbrev pub played_by : Option First → Played
played_by (Some (ByRule i)) = Played.ByRule i
played_by (Some ByPass) = Played.ByPass
played_by None = Played.None

held_left : (m : Option First) → told_left (held (Ok m)) ≡ Ok (not (is_some m))
held_left (Some m) = refl
held_left None = refl

module _ (l : Language) (s : Sheets) (allowance : ℕ) where
  goal_told : (state : List ℕ) (a : Result Answer Refusal) → a ≡ answer_on_bytes l.table l.classes s.goal state allowance answer_width → Classed l
      → (g : Game) (t : Term) → Input l s state g t → match_told (answer l g.goal t allowance) ≡ a
  unfolding answer_on_bytes
  goal_told state a e k g t i =
      let m : MatchInput l s.goal state g.goal t = record {
        table_accepted_holds = i.table_accepted_holds;
        pattern_bytes_holds = i.goal_bytes;
        pattern_accepted = i.goal_accepted;
        record_bytes = i.record_bytes;
        record_accepted = i.record_accepted;
      } in
      ap match_told (linked l s.goal state (classed_alike l k) g.goal t m allowance) ∙ sym e

  pub reached : (state : List ℕ) (width : ℕ) → width ≡ answer_width → (a : Result Answer Refusal) → a ≡ answer_on_bytes l.table l.classes s.goal state allowance width
      → (x : Result Answer Refusal) → a ≡ x → Reaches l s allowance state (reached_by x)
  unfolding Reaches
  reached state width w a e x h k g t i =
      ap reached_by (sym h ∙ sym (goal_told state a (e ∙ ap (answer_on_bytes l.table l.classes s.goal state allowance) w) k g t i)) ∙ told_reached (answer l g.goal t allowance)

  abbrev moved_left : Game → Side → ℕ → Term → Result Bool Spent
  moved_left g Loader n t = told_left (loader_moves l (each allowance) g n t)
  moved_left g Sender n t = told_left (sender_moves l (each allowance) g n t)

  turn_then : (g : Game) (side : Side) (n : ℕ) (t : Term)
      → turn_left l allowance g side n t ≡ goal_then (told_goal (answer l g.goal t allowance)) (moved_left g side n t)
  turn_then g Loader n t = ap told_left (loader_first l allowance g n t) ∙ told_then unneeded (answer l g.goal t allowance) (λ x. loader_moves l (each allowance) g n t)
  turn_then g Sender n t = ap told_left (sender_first l allowance g n t) ∙ told_then tt (answer l g.goal t allowance) (λ x. sender_moves l (each allowance) g n t)

  module _ (side : Side) (left : ℕ) (state : List ℕ) where
    pub turn_spent_first : (e : Spent) → Reaches l s allowance state (Err e) → Turns l s allowance side left state (Err e)
    unfolding Reaches Turns
    turn_spent_first e h k g t i = ap (λ (r : Result Bool Spent). goal_then r (moved_left g side left t)) (h k g t i) ∙ sym (turn_then g side left t)

    turn_true : Reaches l s allowance state (Ok true) → Turns l s allowance side left state (Ok true)
    unfolding Reaches Turns
    turn_true h k g t i = ap (λ (r : Result Bool Spent). goal_then r (moved_left g side left t)) (h k g t i) ∙ sym (turn_then g side left t)

    pub turn_reached : (b : Bool) → b ≡ true → Reaches l s allowance state (Ok b) → Turns l s allowance side left state (Ok true)
    turn_reached b e h = turn_true (subst (λ (x : Bool). Reaches l s allowance state (Ok x)) e h)

    module _ (v : Bool) (f : v ≡ false) (unreached : Reaches l s allowance state (Ok v)) where
      h : Reaches l s allowance state (Ok false)
      h = subst (λ (x : Bool). Reaches l s allowance state (Ok x)) f unreached

      no_goal : Classed l → (g : Game) (t : Term) → Input l s state g t → Ok false ≡ told_goal (answer l g.goal t allowance)
      unfolding Reaches
      no_goal = h

      pub turn_over : left ≡ 0 → Turns l s allowance side left state (Ok false)
      unfolding Turns
      turn_over z k g t i =
          over side ∙ ap (λ (n : ℕ). moved_left g side n t) (sym z)
          ∙ ap (λ (r : Result Bool Spent). goal_then r (moved_left g side left t)) (no_goal k g t i) ∙ sym (turn_then g side left t)
        where
          over : (x : Side) → Ok false ≡ moved_left g x 0 t
          over Loader = refl
          over Sender = refl

      module _ (below : ℕ) (b : left ≡ below + 1) where
        moves_then : (r : Result (Option First) Spent) (x : Result Bool Spent) → ((g : Game) (t : Term) → MovesLeft l allowance g side below t r → x ≡ moved_left g side left t)
            → Moves l s allowance side below state r → Turns l s allowance side left state x
        unfolding Turns Moves
        moves_then r x f m k g t i =
            f g t (m k g t i) ∙ ap (λ (r : Result Bool Spent). goal_then r (moved_left g side left t)) (no_goal k g t i) ∙ sym (turn_then g side left t)

        after : left ≡ suc below
        after = omega (arith, b)

        pub turn_stopped : (e : Spent) → Moves l s allowance side below state (Err e) → Turns l s allowance side left state (Err e)
        turn_stopped e = moves_then (Err e) (Err e) (go side)
          where
            go : (x : Side) (g : Game) (t : Term) → MovesLeft l allowance g x below t (Err e) → Err e ≡ moved_left g x left t
            go Loader g t m = ap told_left m ∙ ap (λ (n : ℕ). told_left (loader_moves l (each allowance) g n t)) (sym after)
            go Sender g t m = ap told_left m ∙ ap (λ (n : ℕ). told_left (sender_moves l (each allowance) g n t)) (sym after)

        pub turn_moves : (m : Option First) (c d : Bool) → c ≡ is_some m → d ≡ seen side c → Moves l s allowance side below state (Ok m)
            → Turns l s allowance side left state (Ok d)
        turn_moves m c d u v = moves_then (Ok m) (Ok d) (go side v)
          where
            go : (x : Side) → d ≡ seen x c → (g : Game) (t : Term) → MovesLeft l allowance g x below t (Ok m) → Ok d ≡ moved_left g x left t
            go Loader w g t f =
                ap Ok (w ∙ u) ∙ sym (opened_left m) ∙ ap told_left f ∙ ap (λ (n : ℕ). told_left (loader_moves l (each allowance) g n t)) (sym after)
            go Sender w g t f =
                ap Ok (w ∙ ap not u) ∙ sym (held_left m) ∙ ap told_left f ∙ ap (λ (n : ℕ). told_left (sender_moves l (each allowance) g n t)) (sym after)

  -- the loader begins
  module _ (turns : ℕ) (state : List ℕ) where
    begun : (g : Game) (t : Term) → told allowance (loader_turn l (each allowance) g turns t)
        ≡ begun_then allowance (told_goal (answer l g.goal t allowance)) (told allowance (loader_moves l (each allowance) g turns t))
    begun g t = ap (told allowance) (loader_first l allowance g turns t) ∙ told_begun allowance (answer l g.goal t allowance) (λ x. loader_moves l (each allowance) g turns t)

    pub begins_spent : (e : Spent) → Reaches l s allowance state (Err e) → Begins l s allowance turns state (Err e)
    unfolding Reaches Begins
    begins_spent e h k g t i = ap (λ (r : Result Bool Spent). begun_then allowance r (told allowance (loader_moves l (each allowance) g turns t))) (h k g t i) ∙ sym (begun g t)

    begins_true : Reaches l s allowance state (Ok true) → Begins l s allowance turns state (Ok Played.Unneeded)
    unfolding Reaches Begins
    begins_true h k g t i = ap (λ (r : Result Bool Spent). begun_then allowance r (told allowance (loader_moves l (each allowance) g turns t))) (h k g t i) ∙ sym (begun g t)

    pub begins_reached : (b : Bool) → b ≡ true → Reaches l s allowance state (Ok b) → Begins l s allowance turns state (Ok Played.Unneeded)
    begins_reached b e h = begins_true (subst (λ (x : Bool). Reaches l s allowance state (Ok x)) e h)

    module _ (v : Bool) (f : v ≡ false) (unreached : Reaches l s allowance state (Ok v)) where
      no_goal_yet : Classed l → (g : Game) (t : Term) → Input l s state g t → Ok false ≡ told_goal (answer l g.goal t allowance)
      unfolding Reaches
      no_goal_yet = subst (λ (x : Bool). Reaches l s allowance state (Ok x)) f unreached

      pub begins_over : turns ≡ 0 → Begins l s allowance turns state (Ok Played.None)
      unfolding Begins
      begins_over z k g t i =
          ap (λ (n : ℕ). told allowance (loader_moves l (each allowance) g n t)) (sym z)
          ∙ ap (λ (r : Result Bool Spent). begun_then allowance r (told allowance (loader_moves l (each allowance) g turns t))) (no_goal_yet k g t i) ∙ sym (begun g t)

      begins_by : (below : ℕ) → turns ≡ below + 1 → (r : Result (Option First) Spent) → Moves l s allowance Loader below state r
          → (p : Result Played Spent) → ended allowance p ≡ told allowance (opened r) → Begins l s allowance turns state p
      unfolding Begins Moves
      begins_by below b r m p e k g t i =
          let after : suc below ≡ turns = omega (arith, b) in
          e ∙ ap (told allowance) (m k g t i) ∙ ap (λ (n : ℕ). told allowance (loader_moves l (each allowance) g n t)) after
          ∙ ap (λ (r : Result Bool Spent). begun_then allowance r (told allowance (loader_moves l (each allowance) g turns t))) (no_goal_yet k g t i) ∙ sym (begun g t)

      module _ (below : ℕ) (b : turns ≡ below + 1) where
        pub begins_stopped : (e : Spent) → Moves l s allowance Loader below state (Err e) → Begins l s allowance turns state (Err e)
        begins_stopped e m = begins_by below b (Err e) m (Err e) refl

        pub begins_moves : (r : Option First) → Moves l s allowance Loader below state (Ok r) → (x : Option First) → r ≡ x → Begins l s allowance turns state (Ok (played_by x))
        begins_moves r m x e = begins_by below b (Ok x) (subst (λ (y : Option First). Moves l s allowance Loader below state (Ok y)) e m) (Ok (played_by x)) (go x)
          where
            go : (y : Option First) → ended allowance (Ok (played_by y)) ≡ told allowance (opened (Ok y))
            go (Some (ByRule j)) = refl
            go (Some ByPass) = refl
            go None = refl

    pub plays_begun : (p : Played) → Begins l s allowance turns state (Ok p) → Plays l s allowance turns state (Ok p)
    unfolding Begins
    plays_begun p h = h

    pub plays_spent : (e : Spent) → Begins l s allowance turns state (Err e) → Plays l s allowance turns state (Ok (Played.Spent allowance))
    unfolding Begins
    plays_spent e h = h

-- a rule is matched, and its result written

-- what an answer of applying, with room for every record, tells of the turn
pub data Applying (table : List ℕ) (x : Replacement) (after : List ℕ) : Result Applied Refusal → Type 0 where
  to_state : (u : Term) (m n : ℕ) → turn_by table x ≡ to u → take n after ≡ term_bytes table u [] → Applying table x after (Ok (Applied.Bound m n))
  no_state : (n : ℕ) → turn_by table x ≡ nowhere → Applying table x after (Ok (Applied.None n))
  outgrown : (r : Refusal) → turn_by table x ≡ nowhere → Applying table x after (Err r)
  over : (n : ℕ) → turn_by table x ≡ spends → Applying table x after (Ok (Applied.Spent n))

applying : (l : Language) (x : Replacement) (before : List ℕ) → length before ≡ longest_record
    → Applying l.table x (written l.table x (unless_full (length before) (measured l.table x)) before) (unless_full (length before) (measured l.table x))
applying l (unbound n) before e = no_state n refl
applying l (overspent n) before e = over n refl
applying l (result u m) before e = go (within_limits l.table u) refl
  where
    table : List ℕ
    table = l.table

    bytes_front : take (size table u) (term_bytes table u (drop (size table u) before)) ≡ term_bytes table u []
    bytes_front =
        ap (take (size table u)) (encode_append table (term_tree u) [] (drop (size table u) before))
        ∙ take_at (term_bytes table u []) (drop (size table u) before) (size table u) (term_size table u)

    bound_to : cond (within_limits table u) (to u) nowhere ≡ to u → (b : Bool) → ltb (length before) (size table u) ≡ b → size table u ≤ length before
        → Applying table (result u m) (written table (result u m) (cond b (Err Full) (Ok (Applied.Bound m (size table u)))) before)
        (cond b (Err Full) (Ok (Applied.Bound m (size table u))))
    bound_to w true h k = let z = ap (λ (b : Bool). cond {A = ℕ} b 1 0) (sym h ∙ le-ltb (length before) (size table u) k) in absurd (omega (arith, z))
    bound_to w false h k = to_state u m (size table u) w bytes_front

    go : (b : Bool) → within_limits table u ≡ b
        → Applying table (result u m) (written table (result u m) (unless_full (length before) (cond b (Ok (Applied.Bound m (size table u))) (Err Outgrown))) before)
        (unless_full (length before) (cond b (Ok (Applied.Bound m (size table u))) (Err Outgrown)))
    go true h = bound_to (ap (λ (b : Bool). cond b (to u) nowhere) h) (ltb (length before) (size table u)) refl (omega (arith, within_room l u h, e))
    go false h = outgrown Outgrown (ap (λ (b : Bool). cond b (to u) nowhere) h)

module _ (l : Language) (s : Sheets) (allowance : ℕ) where
  -- a state after a move is as good as the one before
  next_input : (state next : List ℕ) (g : Game) (t u : Term) → Input l s state g t → TermAccepted l u → term_bytes l.table u [] ≡ next → Input l s next g u
  next_input state next g t u i a e = record {
    table_accepted_holds = i.table_accepted_holds;
    loader = i.loader;
    sender = i.sender;
    goal_bytes = i.goal_bytes;
    goal_accepted = i.goal_accepted;
    record_bytes = e;
    record_accepted = a;
  }

  told_accepted : (r : Rule) (t : Term) (x : Turn) (u : Term) → Told l r t x → x ≡ to u → TermAccepted l u
  told_accepted r t (to w) u (leads_to d) e = subst (TermAccepted l) (let z : w ≡ u = same e in z) d.within
    where
      same : {a b : Term} → to a ≡ to b → a ≡ b
      same h = cc
  told_accepted r t nowhere u d e = let z : ◌≡◌ {A = ℕ} 0 1 = cc in absurd (omega arith)
  told_accepted r t spends u d e = let z : ◌≡◌ {A = ℕ} 0 1 = cc in absurd (omega arith)

  -- the rule of an index at a state of accepted input
  module _ (rules templates : List ℕ) (state : List ℕ) (i : ℕ) (rule template : List ℕ) (is_rule : rule ≡ part_at rules i) (is_template : template ≡ part_at templates i)
      (before : List ℕ) (room : length before ≡ longest_record) (a : Result Applied Refusal) (after : List ℕ)
      (applies : Applies l rule template state allowance before a after) where
    rule_applied : Classed l → (g : Game) (t : Term) → Input l s state g t → (rs : List Rule) → SheetsOf l rules templates rs
        → (x : Rule) → rule_at rs i ≡ Some x
        → Applying l.table (replacement l x.pattern x.template t allowance) after a
    rule_applied k g t j rs side x e =
        let both = side_input l rules templates rs side j.table_accepted_holds t state j.record_bytes j.record_accepted i x e in
        let c = applies.answer k x.pattern x.template t
        (subst (λ (y : List ℕ). ReplaceInput l y template state x.pattern x.template t) (sym is_rule)
        (subst (λ (y : List ℕ). ReplaceInput l (part_at rules i) y state x.pattern x.template t) (sym is_template) both)) in
        rw (c.0, c.1) (applying l (replacement l x.pattern x.template t allowance) before room)

turn_spent : (table : List ℕ) (x : Replacement) (after : List ℕ) (a : Result Applied Refusal) (n : ℕ) → Applying table x after a → a ≡ Ok (Applied.Spent n) → turn_by table x ≡ spends
turn_spent table x after a n (to_state u m k h f) e = let z : ◌≡◌ {A = ℕ} 0 1 = cc in absurd (omega arith)
turn_spent table x after a n (no_state k h) e = let z : ◌≡◌ {A = ℕ} 0 1 = cc in absurd (omega arith)
turn_spent table x after a n (outgrown r h) e = let z : ◌≡◌ {A = ℕ} 0 1 = cc in absurd (omega arith)
turn_spent table x after a n (over k h) e = h

turn_none : (table : List ℕ) (x : Replacement) (after : List ℕ) (a : Result Applied Refusal) (n : ℕ) → Applying table x after a → a ≡ Ok (Applied.None n) → turn_by table x ≡ nowhere
turn_none table x after a n (to_state u m k h f) e = let z : ◌≡◌ {A = ℕ} 0 1 = cc in absurd (omega arith)
turn_none table x after a n (no_state k h) e = h
turn_none table x after a n (outgrown r h) e = let z : ◌≡◌ {A = ℕ} 0 1 = cc in absurd (omega arith)
turn_none table x after a n (over k h) e = let z : ◌≡◌ {A = ℕ} 0 1 = cc in absurd (omega arith)

turn_refused : (table : List ℕ) (x : Replacement) (after : List ℕ) (a : Result Applied Refusal) (r : Refusal) → Applying table x after a → a ≡ Err r
    → turn_by table x ≡ nowhere
turn_refused table x after a r (to_state u m k h f) e = let z : ◌≡◌ {A = ℕ} 0 1 = cc in absurd (omega arith)
turn_refused table x after a r (no_state k h) e = let z : ◌≡◌ {A = ℕ} 0 1 = cc in absurd (omega arith)
turn_refused table x after a r (outgrown y h) e = h
turn_refused table x after a r (over k h) e = let z : ◌≡◌ {A = ℕ} 0 1 = cc in absurd (omega arith)

turn_bound : (table : List ℕ) (x : Replacement) (after : List ℕ) (a : Result Applied Refusal) (m n : ℕ) → Applying table x after a → a ≡ Ok (Applied.Bound m n)
    → (u : Term) × (turn_by table x ≡ to u) × (take n after ≡ term_bytes table u [])
turn_bound table x after a m n (to_state u c k h f) e = (u, h, ap (λ (y : ℕ). take y after) (let z : n ≡ k = cc in z) ∙ f)
turn_bound table x after a m n (no_state k h) e = let z : ◌≡◌ {A = ℕ} 0 1 = cc in absurd (omega arith)
turn_bound table x after a m n (outgrown y h) e = let z : ◌≡◌ {A = ℕ} 0 1 = cc in absurd (omega arith)
turn_bound table x after a m n (over k h) e = let z : ◌≡◌ {A = ℕ} 0 1 = cc in absurd (omega arith)

-- the rule of an index, of a side's sheets

module _ (l : Language) (s : Sheets) (allowance : ℕ) (side : Side) (below i : ℕ) (state rule template : List ℕ) (before : List ℕ) (room : length before ≡ longest_record)
    (a : Result Applied Refusal) (after : List ℕ) (applies : Applies l rule template state allowance before a after)
    (is_rule : rule ≡ part_at (own_sheet side s) i) (is_template : template ≡ part_at (own_templates side s) i) where
  own_side : (x : Side) (g : Game) (t : Term) → Input l s state g t → SheetsOf l (own_sheet x s) (own_templates x s) (own_rules x g)
  own_side Loader g t j = j.loader
  own_side Sender g t j = j.sender

  by_rule_applied : Classed l → (g : Game) (t : Term) → Input l s state g t → (x : Rule) → rule_at (own_rules side g) i ≡ Some x
      → Applying l.table (replacement l x.pattern x.template t allowance) after a
  by_rule_applied k g t j x e =
      rule_applied l s allowance (own_sheet side s) (own_templates side s) state i rule template is_rule is_template before room a after applies k g t j
      (own_rules side g) (own_side side g t j) x e

  abbrev Following : Result (Option Bool) Spent → Type 0
  Following r = Follows l s allowance side below i state r

  pub follows_spent : (n : ℕ) → a ≡ Ok (Applied.Spent n) → (e : Spent) → Following (Err e)
  unfolding Follows
  follows_spent n h e k g t j x d =
      sym (ap (λ (y : Turn). followed y (λ u. turn_left l allowance g (other side) below u)) (turn_spent _ _ after a n (by_rule_applied k g t j x d) h))

  pub follows_none : (n : ℕ) → a ≡ Ok (Applied.None n) → Following (Ok None)
  unfolding Follows
  follows_none n h k g t j x d =
      sym (ap (λ (y : Turn). followed y (λ u. turn_left l allowance g (other side) below u)) (turn_none _ _ after a n (by_rule_applied k g t j x d) h))

  pub follows_refused : (r : Refusal) → a ≡ Err r → Following (Ok None)
  unfolding Follows
  follows_refused r h k g t j x d =
      sym (ap (λ (y : Turn). followed y (λ u. turn_left l allowance g (other side) below u)) (turn_refused _ _ after a r (by_rule_applied k g t j x d) h))

  own_accepted : (y : Side) (g : Game) (t : Term) → Input l s state g t → EachAccepted l (own_rules y g)
  own_accepted Loader g t j = j.loader.accepted
  own_accepted Sender g t j = j.sender.accepted

  pub follows_on : (m n : ℕ) → a ≡ Ok (Applied.Bound m n) → (next : List ℕ) → next ≡ take n after → (y : Side) → y ≡ other side
      → (r : Result Bool Spent) → Turns l s allowance y below next r → Following (as_move r)
  unfolding Follows Turns
  follows_on m n h next is_next y z r f k g t j x d =
      let c = turn_bound _ _ after a m n (by_rule_applied k g t j x d) h in
      let ok = rule_accepted l (own_rules side g) i x (own_accepted side g t j) d in
      let w = told_accepted l s allowance x t _ c.0 (turn_told l (classed_alike l k) j.table_accepted_holds x ok t j.record_accepted (each allowance)) c.1 in
      ap as_move (f k g c.0 (next_input l s allowance state next g t c.0 j w (sym c.2 ∙ sym is_next)))
      ∙ ap (λ (v : Side). as_move (turn_left l allowance g v below c.0)) z
      ∙ sym (ap (λ (y : Turn). followed y (λ u. turn_left l allowance g (other side) below u)) c.1)

-- the sheets of a side, by what lends them

pub own_sheet_is : (x : Side) (s : LentSheets) (o : Own) → o ≡ own x s → o.rules.now ≡ own_sheet x (sheets_by s)
own_sheet_is x s o e = ap (λ (y : Own). y.rules.now) e ∙ go x
  where
    go : (y : Side) → (own y s).rules.now ≡ own_sheet y (sheets_by s)
    go Loader = refl
    go Sender = refl

pub own_templates_is : (x : Side) (s : LentSheets) (o : Own) → o ≡ own x s → o.templates.now ≡ own_templates x (sheets_by s)
own_templates_is x s o e = ap (λ (y : Own). y.templates.now) e ∙ go x
  where
    go : (y : Side) → (own y s).templates.now ≡ own_templates y (sheets_by s)
    go Loader = refl
    go Sender = refl

pub plays_as : (l k : Language) → l ≡ k → (s r : Sheets) → s ≡ r → (allowance turns : ℕ) (bytes : List ℕ) (p : Result Played Fault) → Plays l s allowance turns bytes p
    → Plays k r allowance turns bytes p
plays_as l k e s r d allowance turns bytes p h =
    subst (λ (x : Sheets). Plays k x allowance turns bytes p) d (subst (λ (x : Language). Plays x s allowance turns bytes p) e h)
