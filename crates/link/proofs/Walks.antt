-- One turn of the walk is one step of the machine.
use Prim.Native.Nat.{ℕ, zero, suc, ◌+◌, ◌-◌, ◌*◌, ◌<◌, ◌≤◌}
use native.Mathlib.Omega.{arith}
use mathlib.Core.Path.{◌≡◌, refl, sym, ◌∙◌, ap, ap₂, subst}
use mathlib.Core.List.{List, [], ◌∷◌, ◌++◌}
use mathlib.Core.Bool.{Bool, true, false, cond, ◌&&◌}
use lib.ListN.{length, get_or, take, drop, set}
use lib.Seq.{take_at}
use lib.Dec.{eqb}
use borrow.Author.Tests.{eqb-true, eq-eqb, ne_eqb}
use Rattle.answers.specs.Part.{part, absent, bound_part}
use Rattle.answers.specs.declared.Part.{Part}
use Rattle.term.proofs.Lists.{past_front}
use Rattle.term.specs.Class.{class_of, Alike}
use Rattle.term.specs.Same.{same_byte}
use Rattle.term.specs.Table.{is_list, width}
use Rattle.term.specs.Code.{byte_of, variables}
use Rattle.term.specs.Tree.{Trees, branch, empty, more, list_code, own, encode}
use Rattle.term.specs.Term.{Term, Terms, node, nil, ◌::◌, ◌⧺◌, count, single, size, sizes}
use Rattle.term.specs.Pattern.{Pattern, Children, name, symbol, complement, end, plain, run, pattern_tree, child_trees, pattern_bytes}
use Rattle.term.specs.Limits.{Written, Fits, longest_pattern, longest_record}
use Rattle.term.specs.declared.Code.{Code}
use Rattle.term.specs.declared.Code.TheVariants.{Symbol, Name, Run}
use Rattle.anti_pattern.specs.Search.{Env, bind, Result, counted, fail, if_true, if_some, same_or, behind, Tries}
use Rattle.anti_pattern.specs.Place.{assigned_part}
use Rattle.anti_pattern.specs.Variables.{among, runs_all}
use Rattle.anti_pattern.proofs.Machine.{Frame, Pending, frame, pending, machine}
use Rattle.term.proofs.SameParts.{same_counts, same_sizes, entry_alike, branch_some}
use Rattle.term.proofs.Sizes.{children_bytes, number_terms, number_children, encode_append}
use Rattle.anti_pattern.proofs.Facts.{behind_alike, one_behind, none_behind}
use Rattle.anti_pattern.proofs.Machinery.{machine_end, machine_over, machine_short, machine_name, machine_symbol, machine_run_assigned, machine_complement}
use Rattle.anti_pattern.proofs.Metering.{Split, enough, over, split}
use Rattle.anti_pattern.proofs.Steps.{pair_counts}
use Rattle.steps.specs.Turn.{step_of, variable_of, over_step, assigned_step, symbol_step, name_step, run_step, pair_step, code_step}
use Rattle.search.specs.State.{remaining, PutBy, put_by, place, State, state, part_in_state, place_past, entered, closed_by, closed, alone, variable_at, step_at, walk_by, Walked, walk_of, turns}
use Rattle.search.specs.declared.place.Remaining.{Remaining}
use Rattle.search.specs.Level.{levels}
use Rattle.search.specs.declared.place.Place.{Place}
use Rattle.steps.specs.declared.Step.{Step}
use Rattle.steps.specs.declared.Step.TheVariants.{Stops, Fails, Closes, Opens, Passes, Binds, PutsBy}
use Rattle.steps.specs.declared.Stop.{Stop}
use Rattle.steps.specs.declared.Stop.TheVariants.{Failure, NoAllowance, NoPair, RunName}
use Rattle.term.proofs.Joins.{sizes_single}
use Rattle.link.proofs.Represents.{Limited, codes_left, Here, Shown, Waits, AllWait, Represents}
use Rattle.link.proofs.Places.{limited_children, childless, some_width, stacked_alone, stacked_open, here_past, here_stands, here_open, here_close, close_at, past_leaf}
use Rattle.link.proofs.Parts.{assigned_present, shown_bind}
use Rattle.link.proofs.Turns.{turn_over, turn_end, child_here, variable_here, does_code, does_short, does_spent, does_pair, assigned_passes, assigned_fails, name_binds, symbol_opens, symbol_passes, symbol_fails, complement_put_by}
use Rattle.std.specs.Prelude.{Option, Some, None}

-- variables within the limits

name_below : {table : List ℕ} {v : ℕ} {us ts : Trees} → Limited table false (more (branch (Name v) us) ts) → v < 32
unfolding Fits Written
name_below h = h.fit.0.1

run_within : {table : List ℕ} {v : ℕ} {us ts : Trees} → Limited table false (more (branch (Run v) us) ts) → (32 ≤ v) × (v < variables)
unfolding Fits Written
run_within h = h.fit.0.1

-- a variable in front of a list
later : (v : ℕ) (m : Bool) (j : ℕ) → m ≡ true → cond (eqb v j) true m ≡ true
later v m j h = go (eqb v j)
  where
    go : (c : Bool) → cond c true m ≡ true
    go true = refl
    go false = h

-- a complement put by

all_wait_next : (table pattern bytes : List ℕ) (c : PutBy) (d : Pending) (cs : List PutBy) (ds : List Pending) → AllWait table pattern bytes cs ds
    → Waits table pattern bytes c d → AllWait table pattern bytes (cs ++ (c ∷ [])) (ds ++ (d ∷ []))
all_wait_next table pattern bytes c d [] [] w x = (x, tt)
all_wait_next table pattern bytes c d [] (b ∷ ds) w x = absurd w
all_wait_next table pattern bytes c d (a ∷ cs) [] w x = absurd w
all_wait_next table pattern bytes c d (a ∷ cs) (b ∷ ds) w x = (w.0, all_wait_next table pattern bytes c d cs ds w.1 x)

-- the run names left outside complements
abbrev pub frames_runs : List Frame → List ℕ
frames_runs [] = []
frames_runs (f ∷ fs) = runs_all f.patterns (frames_runs fs)

abbrev pub Fewer : List Frame → List Frame → Type 0
Fewer gs fs = (v : ℕ) → among v (frames_runs gs) ≡ true → among v (frames_runs fs) ≡ true

-- What the machine's steps come to for a search that goes through them: the same for every way of trying lengths.
pub record Walking (table classes pattern bytes : List ℕ) (n : ℕ) : Type 1 where
  -- what the search on trees comes to, from frames, assignment, complements put by and an allowance; and what the one on bytes replies where
  -- a walk stops
  pub Comes : Type 0
  pub Replies : Type 0
  pub comes : List Frame → Env → List Pending → ℕ → Comes
  pub ending : Stop → State → ℕ → Replies
  pub Fit : Comes → Replies → Type 0
  -- what is known on the way
  pub Known : List Frame → Env → List Pending → Type 0
  -- steps
  pub same : (fs gs : List Frame) (e f : Env) (ds es : List Pending) → ((h : ℕ → Tries) → machine table classes h fs e ds ≡ machine table classes h gs f es)
      → (left : ℕ) → comes fs e ds left ≡ comes gs f es left
  pub step : (fs gs : List Frame) (e f : Env) (ds es : List Pending) → ((h : ℕ → Tries) → machine table classes h fs e ds ≡ counted (machine table classes h gs f es))
      → (left : ℕ) → 0 < left → comes fs e ds left ≡ comes gs f es (left - 1)
  pub known_same : (fs gs : List Frame) (e f : Env) (ds es : List Pending) → ((h : ℕ → Tries) → machine table classes h fs e ds ≡ machine table classes h gs f es)
      → Fewer gs fs → Known fs e ds → Known gs f es
  pub known_step : (fs gs : List Frame) (e f : Env) (ds es : List Pending)
      → ((h : ℕ → Tries) → machine table classes h fs e ds ≡ counted (machine table classes h gs f es)) → Fewer gs fs → Known fs e ds → Known gs f es
  -- failures, and no allowance
  pub fail_fits : (fs : List Frame) (e : Env) (ds : List Pending) → ((h : ℕ → Tries) → machine table classes h fs e ds ≡ fail)
      → (left : ℕ) (s : State) → Fit (comes fs e ds left) (ending Failure s left)
  pub fails_fits : (fs : List Frame) (e : Env) (ds : List Pending) → ((h : ℕ → Tries) → machine table classes h fs e ds ≡ counted fail)
      → (left : ℕ) → 0 < left → (s : State) → Fit (comes fs e ds left) (ending Failure s (left - 1))
  pub spent_fits : (fs : List Frame) (e : Env) (ds : List Pending)
      → ((h : ℕ → Tries) → (r : Result) × (machine table classes h fs e ds ≡ counted r)) → (left : ℕ) → left ≡ 0 → (s : State)
      → Fit (comes fs e ds left) (ending NoAllowance s left)
  -- the end of a level, and a run name that is not assigned
  pub end_fits : (s : State) (e : Env) (ds : List Pending) → Shown table bytes s.parts e → AllWait table pattern bytes s.waiting ds
      → 257 * length pattern ≤ n → Known [] e ds → (left : ℕ) → Fit (comes [] e ds left) (ending NoPair s left)
  pub run_fits : (s : State) (v : ℕ) (qs : Children) (ts : Terms) (fs : List Frame) (e : Env) (ds : List Pending)
      → Represents table pattern bytes s (run v qs) ts fs e ds → 32 ≤ v → v < variables → levels pattern (s.place.at + 1) ≤ n → e.value v ≡ None
      → Known (frame (run v qs) ts s.place.node ∷ fs) e ds → (left : ℕ)
      → Fit (comes (frame (run v qs) ts s.place.node ∷ fs) e ds left) (ending (RunName v) s left)
  -- how a level ends does not depend on the place
  pub end_anywhere : (parts : List Part) (waiting : List PutBy) (p p' : Place) (left : ℕ)
      → ending NoPair (state parts [] waiting p) left ≡ ending NoPair (state parts [] waiting p') left
  pub failure_anywhere : (s s' : State) (left : ℕ) → ending Failure s left ≡ ending Failure s' left

module _ (table : List ℕ) (small : length table ≤ 200) (classes : List ℕ) (alike : Alike table classes) (bytes : List ℕ) (short : length bytes ≤ longest_record)
    (n : ℕ) (pattern : List ℕ) (narrow : length pattern ≤ longest_pattern) (k : Walking table classes pattern bytes n) where
  abbrev ended : Walked → k.Replies
  ended w = k.ending w.stop w.state w.left

  abbrev searched : ℕ → State → ℕ → k.Replies
  searched turns s left = ended (walk_of turns table classes pattern bytes s left)

  carry : {x y : k.Comes} {r q : k.Replies} → x ≡ y → r ≡ q → k.Fit y q → k.Fit x r
  carry {x} {y} {r} {q} e f a = subst (λ (z : k.Comes). k.Fit z r) (sym e) (subst (λ (z : k.Replies). k.Fit y z) (sym f) a)

  -- levels enough, and turns enough: each turn takes a byte of the pattern or closes a node
  pub record Ready (turns : ℕ) (s : State) (qs : Children) (ts : Terms) (fs : List Frame) (e : Env) (ds : List Pending) : Type 0 where
    pub is : Represents table pattern bytes s qs ts fs e ds
    pub few : levels pattern s.place.at ≤ suc n
    pub long : 2 * (length pattern - s.place.at) + length fs < turns
    pub known : k.Known (frame qs ts s.place.node ∷ fs) e ds

  -- what a walk of so many turns comes to
  abbrev Goes : ℕ → Type 0
  Goes turns =
      (s : State) (qs : Children) (ts : Terms) (fs : List Frame) (e : Env) (ds : List Pending) (left : ℕ) → Ready turns s qs ts fs e ds
      → k.Fit (k.comes (frame qs ts s.place.node ∷ fs) e ds left) (searched turns s left)

  -- by the step that the turn takes
  module _ (turns : ℕ) (s : State) (left : ℕ) where
    abbrev step : Step
    step = step_at (alone s.frames) table classes pattern bytes (part_in_state s (variable_at pattern s.place.at)) s.place left

    stops : (stop : Stop) → step ≡ Stops stop → searched (suc turns) s left ≡ k.ending stop s left
    unfolding walk_of walk_by
    stops stop h = rw h

    fails : step ≡ Fails → searched (suc turns) s left ≡ k.ending Failure s (left - 1)
    unfolding walk_of walk_by
    fails h = rw h

    closes : step ≡ Closes → searched (suc turns) s left ≡ searched turns (closed s) left
    unfolding walk_of walk_by
    closes h = rw h

    opens : (children elements width : ℕ) → step ≡ Opens children elements width
        → searched (suc turns) s left
        ≡ searched turns (state s.parts (remaining (s.place.children - 1) (s.place.elements - 1) ∷ s.frames) s.waiting
        (entered s.place children elements width)) (left - 1)
    unfolding walk_of walk_by
    opens children elements width h = rw h

    passes : (elements size : ℕ) → step ≡ Passes elements size
        → searched (suc turns) s left ≡ searched turns (state s.parts s.frames s.waiting (place_past s.place elements 1 size)) (left - 1)
    unfolding walk_of walk_by
    passes elements size h = rw h

    binds : (v size : ℕ) → step ≡ Binds v size
        → searched (suc turns) s left
        ≡ searched turns (state (set s.parts v (bound_part s.place.node size 1)) s.frames s.waiting (place_past s.place 1 1 size)) (left - 1)
    unfolding walk_of walk_by
    binds v size h = rw h

    puts_by : (codes size : ℕ) → step ≡ PutsBy codes size
        → searched (suc turns) s left
        ≡ searched turns (state s.parts s.frames (s.waiting ++ (put_by s.place.at (codes - 1) s.place.node ∷ []))
        (place_past s.place 1 codes size)) (left - 1)
    unfolding walk_of walk_by
    puts_by codes size h = rw h

  -- a level with no child pattern left ends alike wherever in the record it stands
  ends_anywhere : (turns : ℕ) (parts : List Part) (waiting : List PutBy) (elements at here there left : ℕ)
      → searched turns (state parts [] waiting (place 0 elements at here)) left ≡ searched turns (state parts [] waiting (place 0 elements at there)) left
  unfolding walk_of step_at step_of over_step walk_by
  ends_anywhere zero parts waiting elements at here there left = k.failure_anywhere _ _ left
  ends_anywhere (suc turns) parts waiting zero at here there left = k.end_anywhere parts waiting _ _ left
  ends_anywhere (suc turns) parts waiting (suc elements) at here there left =
      rw (ne_eqb (suc elements) 0 (λ z. omega arith)) (k.failure_anywhere _ _ left)

  -- so past a complement that was its last
  past_last : (turns : ℕ) (parts : List Part) (frames : List Remaining) (waiting : List PutBy) (p : Place) (codes size left : ℕ)
      → searched turns (state parts frames waiting (place_past p 1 codes (cond (alone frames && eqb p.children 1) 0 size))) left
      ≡ searched turns (state parts frames waiting (place_past p 1 codes size)) left
  past_last turns parts (f ∷ frames) waiting p codes size left = refl
  past_last turns parts [] waiting p codes size left = by (eqb p.children 1) refl
    where
      by : (last : Bool) → eqb p.children 1 ≡ last
          → searched turns (state parts [] waiting (place_past p 1 codes (cond last 0 size))) left
          ≡ searched turns (state parts [] waiting (place_past p 1 codes size)) left
      by true e =
          let z : p.children - 1 ≡ 0 = omega (arith, eqb-true p.children 1 e) in
          rw z (ends_anywhere turns parts waiting (p.elements - 1) (p.at + codes) (p.node + 0) (p.node + size) left)
      by false e = refl

  module _ (turns : ℕ) (goes : Goes turns) (s : State) (fs : List Frame) (e : Env) (ds : List Pending) (left : ℕ) where
    abbrev Agreed : Children → Terms → Type 0
    Agreed cs ts = k.Fit (k.comes (frame cs ts s.place.node ∷ fs) e ds left) (searched (suc turns) s left)

    on_over : (t : Term) (ts : Terms) → Ready (suc turns) s end (t :: ts) fs e ds → Agreed end (t :: ts)
    on_over t ts h =
        carry refl
        (stops turns s left Failure
        (turn_over table classes pattern bytes _ s.place left (alone s.frames) h.is.here.children (omega (arith, h.is.here.elements))))
        (k.fail_fits (frame end (t :: ts) s.place.node ∷ fs) e ds (λ x. machine_over table classes x s.place.node fs e ds t ts) left s)

    on_short : (q : Pattern) (qs : Children) → Ready (suc turns) s (plain q qs) nil fs e ds → Agreed (plain q qs) nil
    on_short q qs h =
        carry refl
        (stops turns s left Failure (does_short table classes pattern bytes s.place s.frames fs q qs _ left h.is.here))
        (k.fail_fits (frame (plain q qs) nil s.place.node ∷ fs) e ds (λ x. machine_short table classes x s.place.node fs e ds q qs) left s)

    on_spent : (q : Pattern) (qs : Children) (t : Term) (ts : Terms) → Ready (suc turns) s (plain q qs) (t :: ts) fs e ds → left ≡ 0
        → Agreed (plain q qs) (t :: ts)
    on_spent q qs t ts h z =
        carry refl
        (stops turns s left NoAllowance (does_spent table classes pattern bytes s.place s.frames fs q qs _ left t ts h.is.here z))
        (k.spent_fits (frame (plain q qs) (t :: ts) s.place.node ∷ fs) e ds (λ x. pair_counts table classes x s.place.node fs e ds q qs t ts) left z s)

    -- a child pattern of one byte
    module _ (cs qs : Children) (ts : Terms) (c : Code) (z : child_trees cs ≡ more (branch c empty) (child_trees qs)) (l : list_code table c ≡ false)
        (h : Ready (suc turns) s cs ts fs e ds) where
      here : s.place.at < length pattern
      here = child_here table classes pattern bytes s.place s.frames fs cs qs (branch c empty) ts z h.is.here

      -- past the elements w
      goes_past : (w us : Terms) → ts ≡ w ⧺ us → (parts : List Part) (f : Env) → Shown table bytes parts f
          → k.Known (frame qs us (s.place.node + sizes table w) ∷ fs) f ds
          → k.Fit (k.comes (frame qs us (s.place.node + sizes table w) ∷ fs) f ds (left - 1))
          (searched turns (state parts s.frames s.waiting (place_past s.place (count w) 1 (sizes table w))) (left - 1))
      goes_past w us x parts f shown known =
          goes _ qs us fs f ds (left - 1)
          (record {
            is = past_leaf table pattern bytes s cs qs c w us fs e f ds parts z l
                (subst (λ (u : Terms). Represents table pattern bytes s cs u fs e ds) x h.is) shown;
            few = omega (arith, h.few, here);
            long = omega (arith, h.long, here);
            known = known;
          })

      -- a name or a run name
      module _ (v : ℕ) (y : variable_of c ≡ v) (low : v < variables) where
        part_here : (o : Option Terms) → e.value v ≡ o → part_in_state s (variable_at pattern s.place.at) ≡ assigned_part table o (e.offset v)
        part_here o x =
            ap (part_in_state s) (variable_here table classes pattern bytes s.place s.frames fs cs qs (branch c empty) ts z h.is.here ∙ y)
            ∙ h.is.shown.shown v low ∙ ap (λ (p : Option Terms). assigned_part table p (e.offset v)) x

        on_assigned : (w : Terms) → e.value v ≡ Some w
            → step turns s left
            ≡ assigned_step table classes bytes (part (e.offset v) (sizes table w) (count w)) (drop s.place.node bytes) s.place.elements
            → 0 < left
            → ((us : Terms) → behind classes w ts ≡ Some us → (y : ℕ → Tries) → machine table classes y (frame cs ts s.place.node ∷ fs) e ds
            ≡ counted (machine table classes y (frame qs us (s.place.node + sizes table w) ∷ fs) e ds))
            → ((us : Terms) → Fewer (frame qs us (s.place.node + sizes table w) ∷ fs) (frame cs ts s.place.node ∷ fs))
            → (behind classes w ts ≡ None → (y : ℕ → Tries) → machine table classes y (frame cs ts s.place.node ∷ fs) e ds ≡ counted fail)
            → Agreed cs ts
        on_assigned w x does i holds fewer differs = go (behind classes w ts) refl
          where
            go : (o : Option Terms) → behind classes w ts ≡ o → Agreed cs ts
            go (Some us) b =
                let a = behind_alike classes w ts us b in
                let m = same_sizes table classes alike w a.0 a.2 in
                let past : (y : ℕ → Tries) → machine table classes y (frame cs ts s.place.node ∷ fs) e ds
                ≡ counted (machine table classes y (frame qs us (s.place.node + sizes table a.0) ∷ fs) e ds) =
                λ y. holds us b y ∙ ap (λ (i : ℕ). counted (machine table classes y (frame qs us (s.place.node + i) ∷ fs) e ds)) m in
                carry (k.step (frame cs ts s.place.node ∷ fs) (frame qs us (s.place.node + sizes table a.0) ∷ fs) e e ds ds past left i)
                (passes turns s left _ _ (does ∙ assigned_passes table classes pattern bytes s.place s.frames fs cs ts h.is.here (e.offset v) w
                (h.is.shown.stands v w x) alike us b)
                ∙ ap₂ (λ (i j : ℕ). searched turns (state s.parts s.frames s.waiting (place_past s.place i 1 j)) (left - 1))
                (same_counts classes w a.0 a.2) m)
                (goes_past a.0 us a.1 s.parts e h.is.shown
                (k.known_step (frame cs ts s.place.node ∷ fs) (frame qs us (s.place.node + sizes table a.0) ∷ fs) e e ds ds past (fewer us) h.known))
            go None b =
                carry refl
                (fails turns s left (does ∙ assigned_fails table classes pattern bytes s.place s.frames fs cs ts h.is.here (e.offset v) w
                (h.is.shown.stands v w x) alike b))
                (k.fails_fits (frame cs ts s.place.node ∷ fs) e ds (differs b) left i s)

    -- a name
    module _ (v : ℕ) (qs : Children) (t : Term) (ts : Terms) (h : Ready (suc turns) s (plain (name v) qs) (t :: ts) fs e ds) (i : 0 < left) where
      name_low : v < variables
      name_low = omega (arith, name_below h.is.here.patterns_limited)

      name_step_holds : (o : Option Terms) → e.value v ≡ o
          → step turns s left ≡ name_step table classes bytes (drop s.place.node bytes) v (assigned_part table o (e.offset v)) s.place.elements
      unfolding pair_step list_code
      name_step_holds o x =
          does_pair table classes pattern bytes s.place s.frames fs (name v) qs _ left t ts h.is.here i
          ∙ ap (λ (p : Part). name_step table classes bytes (drop s.place.node bytes) v p s.place.elements)
          (part_here (plain (name v) qs) qs (t :: ts) (Name v) refl refl h v refl name_low o x)

      name_assigned : (w : Terms) → e.value v ≡ Some w
          → name_step table classes bytes (drop s.place.node bytes) v (part (e.offset v) (sizes table w) (count w)) s.place.elements
          ≡ assigned_step table classes bytes (part (e.offset v) (sizes table w) (count w)) (drop s.place.node bytes) s.place.elements
      unfolding name_step
      name_assigned w x = rw (assigned_present table bytes short (e.offset v) w (h.is.shown.stands v w x))

      on_name : (o : Option Terms) → e.value v ≡ o → Agreed (plain (name v) qs) (t :: ts)
      unfolding list_code
      on_name None x =
          let b : (y : ℕ → Tries) → machine table classes y (frame (plain (name v) qs) (t :: ts) s.place.node ∷ fs) e ds
          ≡ counted (machine table classes y (frame qs ts (s.place.node + sizes table (single t)) ∷ fs) (bind e v s.place.node (single t)) ds) =
          λ y. machine_name table classes y s.place.node fs e ds v qs t ts
          ∙ ap (λ (o : Option Terms). counted (if_some (same_or classes o (single t) e (bind e v s.place.node (single t)))
          (λ f. machine table classes y (frame qs ts (s.place.node + size table t) ∷ fs) f ds))) x
          ∙ ap (λ (m : ℕ). counted (machine table classes y (frame qs ts (s.place.node + m) ∷ fs) (bind e v s.place.node (single t)) ds))
          (sym (sizes_single table t)) in
          carry
          (k.step (frame (plain (name v) qs) (t :: ts) s.place.node ∷ fs) (frame qs ts (s.place.node + sizes table (single t)) ∷ fs)
          e (bind e v s.place.node (single t)) ds ds b left i)
          (binds turns s left v _ (name_step_holds None x ∙ name_binds table small classes pattern bytes s.place s.frames fs (plain (name v) qs) t ts v
          h.is.here))
          (goes_past (plain (name v) qs) qs (t :: ts) (Name v) refl refl h (single t) ts refl _
          (bind e v s.place.node (single t))
          (shown_bind table bytes short s.parts e v s.place.node (single t) name_low (λ k. refl) h.is.shown
          (here_stands table pattern bytes s.place s.frames (plain (name v) qs) (single t) ts fs h.is.here))
          (k.known_step (frame (plain (name v) qs) (t :: ts) s.place.node ∷ fs) (frame qs ts (s.place.node + sizes table (single t)) ∷ fs)
          e (bind e v s.place.node (single t)) ds ds b (λ j m. m) h.known))
      on_name (Some w) x =
          on_assigned (plain (name v) qs) qs (t :: ts) (Name v) refl refl h v refl name_low w x (name_step_holds (Some w) x ∙ name_assigned w x) i
          (λ us b y.
          let o = one_behind classes w t ts us (h.is.shown.one v w (name_below h.is.here.patterns_limited) x) b in
          machine_name table classes y s.place.node fs e ds v qs t ts
          ∙ ap (λ (p : Option Env). counted (if_some p (λ f. machine table classes y (frame qs ts (s.place.node + size table t) ∷ fs) f ds)))
          (ap (λ (p : Option Terms). same_or classes p (single t) e (bind e v s.place.node (single t))) x
          ∙ ap (λ (m : Bool). cond m (Some e) None) o.0)
          ∙ ap₂ (λ (m : ℕ) (r : Terms). counted (machine table classes y (frame qs r (s.place.node + m) ∷ fs) e ds))
          (sym (sizes_single table t) ∙ sym (same_sizes table classes alike w (single t) o.0)) o.1)
          (λ us j m. m)
          (λ b y.
          machine_name table classes y s.place.node fs e ds v qs t ts
          ∙ ap (λ (p : Option Env). counted (if_some p (λ f. machine table classes y (frame qs ts (s.place.node + size table t) ∷ fs) f ds)))
          (ap (λ (p : Option Terms). same_or classes p (single t) e (bind e v s.place.node (single t))) x
          ∙ ap (λ (m : Bool). cond m (Some e) None) (none_behind classes w t ts b)))

    -- a run name
    module _ (v : ℕ) (qs : Children) (ts : Terms) (h : Ready (suc turns) s (run v qs) ts fs e ds) where
      run_step_holds : (o : Option Terms) → e.value v ≡ o
          → step turns s left ≡ run_step table classes bytes v (assigned_part table o (e.offset v)) (drop s.place.node bytes) s.place.elements left
      unfolding code_step list_code
      run_step_holds o x =
          does_code table classes pattern bytes s.place s.frames fs (run v qs) qs (branch (Run v) empty) ts refl h.is.here _ left
          ∙ ap (λ (p : Part). run_step table classes bytes v p (drop s.place.node bytes) s.place.elements left)
          (part_here (run v qs) qs ts (Run v) refl refl h v refl (run_within h.is.here.patterns_limited).1 o x)

      run_fresh : run_step table classes bytes v absent (drop s.place.node bytes) s.place.elements left ≡ Stops (RunName v)
      unfolding run_step
      run_fresh = refl

      run_spent : (w : Terms) → e.value v ≡ Some w → left ≡ 0
          → run_step table classes bytes v (part (e.offset v) (sizes table w) (count w)) (drop s.place.node bytes) s.place.elements left ≡ Stops NoAllowance
      unfolding run_step
      run_spent w x i = rw (assigned_present table bytes short (e.offset v) w (h.is.shown.stands v w x), eq-eqb left 0 i)

      run_assigned : (w : Terms) → e.value v ≡ Some w → 0 < left
          → run_step table classes bytes v (part (e.offset v) (sizes table w) (count w)) (drop s.place.node bytes) s.place.elements left
          ≡ assigned_step table classes bytes (part (e.offset v) (sizes table w) (count w)) (drop s.place.node bytes) s.place.elements
      unfolding run_step
      run_assigned w x i = rw (assigned_present table bytes short (e.offset v) w (h.is.shown.stands v w x), ne_eqb left 0 (λ k. omega arith))

      on_run_assigned : (w : Terms) → e.value v ≡ Some w → Split left 0 → Agreed (run v qs) ts
      unfolding list_code
      on_run_assigned w x (enough i) =
          let z : left ≡ 0 = omega arith in
          carry refl
          (stops turns s left NoAllowance (run_step_holds (Some w) x ∙ run_spent w x z))
          (k.spent_fits (frame (run v qs) ts s.place.node ∷ fs) e ds
          (λ y. (
            if_some (behind classes w ts) (λ us. machine table classes y (frame qs us (s.place.node + sizes table w) ∷ fs) e ds),
            machine_run_assigned table classes y s.place.node fs e ds v qs ts w x,
          )) left z s)
      on_run_assigned w x (over i) =
          on_assigned (run v qs) qs ts (Run v) refl refl h v refl (run_within h.is.here.patterns_limited).1 w x
          (run_step_holds (Some w) x ∙ run_assigned w x i) i
          (λ us b y. machine_run_assigned table classes y s.place.node fs e ds v qs ts w x
          ∙ ap (λ (o : Option Terms). counted (if_some o (λ us. machine table classes y (frame qs us (s.place.node + sizes table w) ∷ fs) e ds))) b)
          (λ us j m. later v (among j (runs_all qs (frames_runs fs))) j m)
          (λ b y. machine_run_assigned table classes y s.place.node fs e ds v qs ts w x
          ∙ ap (λ (o : Option Terms). counted (if_some o (λ us. machine table classes y (frame qs us (s.place.node + sizes table w) ∷ fs) e ds))) b)

      on_run : (o : Option Terms) → e.value v ≡ o → Agreed (run v qs) ts
      unfolding list_code
      on_run (Some w) x = on_run_assigned w x (split left 0)
      on_run None x =
          let r = run_within h.is.here.patterns_limited in
          carry refl
          (stops turns s left (RunName v) (run_step_holds None x ∙ run_fresh))
          (k.run_fits s v qs ts fs e ds h.is r.0 r.1
          (omega (arith, h.few, here (run v qs) qs ts (Run v) refl refl h)) x h.known left)

    -- a symbol
    module _ (r : ℕ) (qs : Children) (ts : Terms) (i : 0 < left) where
      symbol_step_holds : (ps : Children) (k : ℕ) (us : Terms) → Ready (suc turns) s (plain (symbol r ps) qs) (node k us :: ts) fs e ds
          → step turns s left ≡ symbol_step table classes (drop s.place.at pattern) (drop s.place.node bytes) r
      unfolding pair_step
      symbol_step_holds ps j us h = does_pair table classes pattern bytes s.place s.frames fs (symbol r ps) qs _ left (node j us) ts h.is.here i

      -- one of the same class, whose table byte is alike
      module _ (j : ℕ) (same : same_byte classes false r j ≡ true) where
        byte : get_or table r 0 ≡ get_or table j 0
        byte = entry_alike table classes alike r j (eqb-true (class_of classes r) (class_of classes j) same)

        entering : (ps : Children) (us : Terms) (y : ℕ → Tries)
            → machine table classes y (frame (plain (symbol r ps) qs) (node j us :: ts) s.place.node ∷ fs) e ds
            ≡ counted (machine table classes y (frame ps us (s.place.node + width table r) ∷ frame qs ts (s.place.node + size table (node j us)) ∷ fs) e ds)
        entering ps us y =
            machine_symbol table classes y s.place.node fs e ds r qs ps j us ts
            ∙ ap (λ (b : Bool). counted (if_true b
            (λ u. machine table classes y (frame ps us (s.place.node + width table j) ∷ frame qs ts (s.place.node + size table (node j us)) ∷ fs) e ds)))
            same
            ∙ ap (λ (b : ℕ). counted (machine table classes y
            (frame ps us (s.place.node + cond (eqb b 255) 2 1) ∷ frame qs ts (s.place.node + size table (node j us)) ∷ fs) e ds)) (sym byte)

        on_open : (ps : Children) (us : Terms) → Ready (suc turns) s (plain (symbol r ps) qs) (node j us :: ts) fs e ds → 0 < get_or table r 0
            → Agreed (plain (symbol r ps) qs) (node j us :: ts)
        on_open ps us h x =
            let low = child_here table classes pattern bytes s.place s.frames fs (plain (symbol r ps) qs) qs (pattern_tree (symbol r ps))
            (node j us :: ts) refl h.is.here in
            let wide = some_width (is_list table r) in
            carry (k.step (frame (plain (symbol r ps) qs) (node j us :: ts) s.place.node ∷ fs)
            (frame ps us (s.place.node + width table r) ∷ frame qs ts (s.place.node + size table (node j us)) ∷ fs) e e ds ds (entering ps us) left i)
            (opens turns s left _ _ _
            (symbol_step_holds ps j us h ∙ symbol_opens table small classes pattern bytes s.place s.frames fs r j same byte ps qs us ts h.is.here x))
            (goes _ ps us (frame qs ts (s.place.node + size table (node j us)) ∷ fs) e ds (left - 1)
            (record {
              is = record {
                here = here_open table pattern bytes s.place s.frames r j byte ps qs us ts fs h.is.here;
                shown = h.is.shown;
                waiting = h.is.waiting;
              };
              few = omega (arith, h.few);
              long = omega (arith, h.long);
              known = k.known_step (frame (plain (symbol r ps) qs) (node j us :: ts) s.place.node ∷ fs)
                  (frame ps us (s.place.node + width table r) ∷ frame qs ts (s.place.node + size table (node j us)) ∷ fs) e e ds ds (entering ps us)
                  (λ i m. m) h.known;
            }))

        -- without children its frame is over at once
        on_leaf : (ps : Children) (us : Terms) → Ready (suc turns) s (plain (symbol r ps) qs) (node j us :: ts) fs e ds → get_or table r 0 ≡ 0
            → Agreed (plain (symbol r ps) qs) (node j us :: ts)
        unfolding list_code
        on_leaf end nil h x =
            let b : (y : ℕ → Tries) → machine table classes y (frame (plain (symbol r end) qs) (node j nil :: ts) s.place.node ∷ fs) e ds
            ≡ counted (machine table classes y (frame qs ts (s.place.node + sizes table (single (node j nil))) ∷ fs) e ds) =
            λ y. entering end nil y ∙ ap counted (machine_end table classes y _ (frame qs ts (s.place.node + size table (node j nil)) ∷ fs) e ds
            ∙ ap (λ (m : ℕ). machine table classes y (frame qs ts (s.place.node + m) ∷ fs) e ds) (sym (sizes_single table (node j nil)))) in
            carry
            (k.step (frame (plain (symbol r end) qs) (node j nil :: ts) s.place.node ∷ fs)
            (frame qs ts (s.place.node + sizes table (single (node j nil))) ∷ fs) e e ds ds b left i)
            (passes turns s left _ _
            (symbol_step_holds end j nil h ∙ symbol_passes table small classes pattern bytes s.place s.frames fs r j same byte qs ts h.is.here x))
            (goes_past (plain (symbol r end) qs) qs (node j nil :: ts) (Symbol r) refl (ap (λ (b : ℕ). eqb b 255) x) h (single (node j nil)) ts refl
            s.parts e h.is.shown
            (k.known_step (frame (plain (symbol r end) qs) (node j nil :: ts) s.place.node ∷ fs)
            (frame qs ts (s.place.node + sizes table (single (node j nil))) ∷ fs) e e ds ds b (λ i m. m) h.known))
        on_leaf end (u :: us) h x = absurd (omega (arith, childless h.is.here.elements_limited (sym byte ∙ x), number_terms (u :: us)))
        on_leaf (plain p ps) us h x = absurd (omega (arith, childless h.is.here.patterns_limited x, number_children (plain p ps)))
        on_leaf (run v ps) us h x = absurd (omega (arith, childless h.is.here.patterns_limited x, number_children (run v ps)))

        on_same : (ps : Children) (us : Terms) → Ready (suc turns) s (plain (symbol r ps) qs) (node j us :: ts) fs e ds
            → Split (get_or table r 0) 0 → Agreed (plain (symbol r ps) qs) (node j us :: ts)
        on_same ps us h (enough x) = on_leaf ps us h (omega arith)
        on_same ps us h (over x) = on_open ps us h x

      on_symbol : (j : ℕ) (ps : Children) (us : Terms) → Ready (suc turns) s (plain (symbol r ps) qs) (node j us :: ts) fs e ds
          → Agreed (plain (symbol r ps) qs) (node j us :: ts)
      on_symbol j ps us h = go (same_byte classes false r j) refl
        where
          go : (m : Bool) → same_byte classes false r j ≡ m → Agreed (plain (symbol r ps) qs) (node j us :: ts)
          go true x = on_same j x ps us h (split (get_or table r 0) 0)
          go false x =
              carry refl
              (fails turns s left
              (symbol_step_holds ps j us h ∙ symbol_fails table small classes pattern bytes s.place s.frames fs r j (plain (symbol r ps) qs) us ts h.is.here x))
              (k.fails_fits (frame (plain (symbol r ps) qs) (node j us :: ts) s.place.node ∷ fs) e ds
              (λ y. machine_symbol table classes y s.place.node fs e ds r qs ps j us ts
              ∙ ap (λ (b : Bool). counted (if_true b
              (λ u. machine table classes y (frame ps us (s.place.node + width table j) ∷ frame qs ts (s.place.node + size table (node j us)) ∷ fs) e ds))) x)
              left i s)

    -- a complement
    module _ (q : Pattern) (qs : Children) (t : Term) (ts : Terms) (h : Ready (suc turns) s (plain (complement q) qs) (t :: ts) fs e ds) (i : 0 < left) where
      waits : Waits table pattern bytes (put_by s.place.at (length (pattern_bytes table (complement q) []) - 1) s.place.node)
          (pending q t s.place.node)
      unfolding encode own byte_of list_code
      waits = record {
        codes = ap (take (length (pattern_bytes table (complement q) []) - 1)) (past_front pattern s.place.at 1 (248 ∷ []) _ h.is.here.codes refl
            ∙ encode_append table (pattern_tree q) [] (children_bytes table qs (codes_left table fs)))
            ∙ take_at (pattern_bytes table q []) (children_bytes table qs (codes_left table fs)) (length (pattern_bytes table (complement q) []) - 1) (omega arith);
        limited = limited_children h.is.here.patterns_limited;
        at = refl;
        stands = here_stands table pattern bytes s.place s.frames (plain (complement q) qs) (single t) ts fs h.is.here;
      }

      on_complement : Agreed (plain (complement q) qs) (t :: ts)
      on_complement =
          let low = child_here table classes pattern bytes s.place s.frames fs (plain (complement q) qs) qs (pattern_tree (complement q)) (t :: ts) refl
          h.is.here in
          let wide = branch_some table (pattern_tree (complement q)) [] in
          let b : (y : ℕ → Tries) → machine table classes y (frame (plain (complement q) qs) (t :: ts) s.place.node ∷ fs) e ds
          ≡ counted (machine table classes y (frame qs ts (s.place.node + sizes table (single t)) ∷ fs) e (ds ++ (pending q t s.place.node ∷ []))) =
          λ y. machine_complement table classes y s.place.node fs e ds q qs t ts
          ∙ ap (λ (x : ℕ). counted (machine table classes y (frame qs ts (s.place.node + x) ∷ fs) e (ds ++ (pending q t s.place.node ∷ []))))
          (sym (sizes_single table t)) in
          carry (k.step (frame (plain (complement q) qs) (t :: ts) s.place.node ∷ fs) (frame qs ts (s.place.node + sizes table (single t)) ∷ fs)
          e e ds (ds ++ (pending q t s.place.node ∷ [])) b left i)
          (puts_by turns s left _ _
          (does_pair table classes pattern bytes s.place s.frames fs (complement q) qs _ left t ts h.is.here i
          ∙ complement_put_by table small classes pattern bytes s.place s.frames fs q qs t ts _ h.is.here)
          ∙ past_last turns s.parts s.frames _ s.place _ (sizes table (single t)) (left - 1))
          (goes _ qs ts fs e (ds ++ (pending q t s.place.node ∷ [])) (left - 1)
          (record {
            is = record {
              here = here_past table pattern bytes s.place s.frames (plain (complement q) qs) qs (pattern_tree (complement q)) (single t) ts fs
                  (length (pattern_bytes table (complement q) [])) refl refl h.is.here;
              shown = h.is.shown;
              waiting = all_wait_next table pattern bytes _ (pending q t s.place.node) s.waiting ds h.is.waiting waits;
            };
            few = omega (arith, h.few);
            long = omega (arith, h.long);
            known = k.known_step (frame (plain (complement q) qs) (t :: ts) s.place.node ∷ fs)
                (frame qs ts (s.place.node + sizes table (single t)) ∷ fs) e e ds (ds ++ (pending q t s.place.node ∷ [])) b (λ j m. m) h.known;
          }))

    on_pair : (q : Pattern) (qs : Children) (t : Term) (ts : Terms) → Ready (suc turns) s (plain q qs) (t :: ts) fs e ds → Split left 0
        → Agreed (plain q qs) (t :: ts)
    on_pair q qs t ts h (enough i) = on_spent q qs t ts h (omega arith)
    on_pair (name v) qs t ts h (over i) = on_name v qs t ts h i (e.value v) refl
    on_pair (symbol r ps) qs (node j us) ts h (over i) = on_symbol r qs ts i j ps us h
    on_pair (complement q) qs t ts h (over i) = on_complement q qs t ts h i

  module _ (turns : ℕ) (goes : Goes turns) (s : State) (e : Env) (ds : List Pending) (left : ℕ) where
    -- out of a node
    on_close : (f : Frame) (fs : List Frame) → Ready (suc turns) s end nil (f ∷ fs) e ds → Agreed turns goes s (f ∷ fs) e ds left end nil
    on_close f fs h = let o = stacked_open table s.frames _ f fs h.is.here.around in go o.0 o.1 o.2
      where
        go : (c : Remaining) (cs : List Remaining) → s.frames ≡ c ∷ cs → Agreed turns goes s (f ∷ fs) e ds left end nil
        go c cs x =
            let g = subst (λ (l : List Remaining). Here table pattern bytes s.place l end nil (f ∷ fs)) x h.is.here in
            let b : (y : ℕ → Tries) → machine table classes y (frame end nil s.place.node ∷ f ∷ fs) e ds
            ≡ machine table classes y (frame f.patterns f.elements (closed_by (c ∷ cs) s).place.node ∷ fs) e ds =
            λ y. machine_end table classes y s.place.node (f ∷ fs) e ds
            ∙ ap (λ (m : ℕ). machine table classes y (frame f.patterns f.elements m ∷ fs) e ds) (close_at table pattern bytes s.place cs c f fs g) in
            carry
            (k.same (frame end nil s.place.node ∷ f ∷ fs) (frame f.patterns f.elements (closed_by (c ∷ cs) s).place.node ∷ fs) e e ds ds b left)
            (closes turns s left (turn_end table classes pattern bytes _ s.place left (alone s.frames) h.is.here.children h.is.here.elements
            ∙ ap (λ (l : List Remaining). cond (alone l) (Stops NoPair) Closes) x)
            ∙ ap (λ (l : List Remaining). searched turns (closed_by l s) left) x)
            (goes (closed_by (c ∷ cs) s) f.patterns f.elements fs e ds left
            (record {
              is = record { here = here_close table pattern bytes s.place cs c f fs g; shown = h.is.shown; waiting = h.is.waiting };
              few = h.few;
              long = omega (arith, h.long);
              known = k.known_same (frame end nil s.place.node ∷ f ∷ fs)
                  (frame f.patterns f.elements (closed_by (c ∷ cs) s).place.node ∷ fs) e e ds ds b (λ j m. m) h.known;
            }))

    -- the end of a level
    on_end : Ready (suc turns) s end nil [] e ds → Agreed turns goes s [] e ds left end nil
    on_end h =
        carry (k.same (frame end nil s.place.node ∷ []) [] e e ds ds (λ y. machine_end table classes y s.place.node [] e ds) left)
        (stops turns s left NoPair (turn_end table classes pattern bytes _ s.place left (alone s.frames) h.is.here.children h.is.here.elements
        ∙ ap (λ (l : List Remaining). cond (alone l) (Stops NoPair) Closes) (stacked_alone table s.frames _ h.is.here.around)))
        (k.end_fits s e ds h.is.shown h.is.waiting (omega (arith, h.few))
        (k.known_same (frame end nil s.place.node ∷ []) [] e e ds ds (λ y. machine_end table classes y s.place.node [] e ds) (λ j m. m) h.known) left)

  turn : (turns : ℕ) → Goes turns → Goes (suc turns)
  turn turns goes s end nil [] e ds left h = on_end turns goes s e ds left h
  turn turns goes s end nil (f ∷ fs) e ds left h = on_close turns goes s e ds left f fs h
  turn turns goes s end (t :: ts) fs e ds left h = on_over turns goes s fs e ds left t ts h
  turn turns goes s (plain q qs) nil fs e ds left h = on_short turns goes s fs e ds left q qs h
  turn turns goes s (plain q qs) (t :: ts) fs e ds left h = on_pair turns goes s fs e ds left q qs t ts h (split left 0)
  turn turns goes s (run v qs) ts fs e ds left h = on_run turns goes s fs e ds left v qs ts h (e.value v) refl

  pub walk_goes : (turns : ℕ) → Goes turns
  walk_goes zero s qs ts fs e ds left h = absurd (omega (arith, h.long))
  walk_goes (suc turns) s qs ts fs e ds left h = turn turns (walk_goes turns) s qs ts fs e ds left h
