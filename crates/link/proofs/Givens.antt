-- The next answer in one pass: on accepted input that on bytes is that on trees.
use Prim.Native.Nat.{ℕ, zero, suc, ◌+◌, ◌-◌, ◌<◌, ◌≤◌}
use native.Mathlib.Omega.{arith}
use mathlib.Core.Path.{◌≡◌, refl, sym, ◌∙◌, ap, ap₂, subst}
use mathlib.Core.List.{List, [], ◌∷◌}
use mathlib.Core.Bool.{Bool, true, false, cond}
use lib.ListN.{length, get_or, drop, replicate}
use lib.Dec.{eqb}
use borrow.Author.Tests.{eqb-true, eq-eqb, ne_eqb}
use Rattle.answers.specs.Part.{absent}
use Rattle.answers.specs.declared.Part.{Part}
use Rattle.term.specs.Limits.{longest_pattern, longest_record, FitAll}
use Rattle.term.specs.Code.{variables}
use Rattle.term.specs.Class.{Alike}
use Rattle.term.specs.Extent.{span_of}
use Rattle.term.specs.Pattern.{Pattern, Children, end, plain, run}
use Rattle.term.specs.Term.{Term, Terms, nil, ◌::◌, ◌⧺◌, count, single, sizes, term_trees, terms_bytes}
use Rattle.anti_pattern.specs.Answer.{bound, parts}
use Rattle.anti_pattern.specs.Demands.{OneForEach}
use Rattle.anti_pattern.specs.Language.{Language}
use Rattle.anti_pattern.proofs.Machine.{Frame, Pending, frame, machine}
use Rattle.anti_pattern.proofs.Meter.{Metered, met, missed, used_up, meter}
use Rattle.anti_pattern.specs.Next.{follows, given_to, has_lengths, resumed_after, next}
use Rattle.anti_pattern.proofs.Pass.{Passed, ended, stranger, passing, further, then_further, end_passed, followed_by}
use Rattle.anti_pattern.specs.Search.{Env, first_answer, Result, bind, start, exactly, Tries, only, freely, try_fresh}
use Rattle.anti_pattern.specs.Variables.{NoName, among, runs, runs_all, without, firsts, free_runs}
use Rattle.anti_pattern.proofs.Correct.{Permitted}
use Rattle.anti_pattern.proofs.Facts.{join_one, count_join}
use Rattle.anti_pattern.proofs.Machinery.{machine_run_fresh}
use Rattle.anti_pattern.proofs.Metering.{leb_true, leb_false, Split, enough, over, split, meter_fail}
use Rattle.anti_pattern.proofs.Within.{accepted_of}
use Rattle.anti_pattern.proofs.Passing.{Told, passing_same, passing_step, passing_fail, passing_fails, passing_used_up, passing_unfit, passing_run, passing_end, told_step, told_same, told_run, next_passing, passed_first, tells, told_whole}
use Rattle.search.specs.Given.{Pass, ends, unknown, resumed_by, or_further, further_of, given_length_of, given_by, after_given, given_of, pass_of}
use Rattle.search.specs.Level.{Reply, start_of, tried, lengths_of, level_of, levels}
use Rattle.search.specs.State.{State, turns}
use Rattle.term.proofs.Spans.{span_terms}
use Rattle.term.proofs.Joins.{bytes_join, fit_split}
use Rattle.link.specs.Input.{Input}
use Rattle.link.specs.OnBytes.{replied_pass}
use Rattle.link.proofs.Represents.{bytes_left, Represents, Shown, Agrees, is_found, is_failed, is_spent}
use Rattle.link.proofs.Levels.{carry, or_then, Searches, run_bound, next_size, lengths_from, complements_agree}
use Rattle.link.proofs.Linked.{answers, level_searches, table_short, narrow, short, start_here}
use Rattle.link.proofs.Walks.{frames_runs, Walking, walk_goes}
use Rattle.std.specs.Prelude.{Some, None}

-- what a pass on bytes says of one on trees
pub data Fits (table bytes : List ℕ) : Passed → Pass → Type 0 where
  both_end : {m : Metered} {r : Reply} → Agrees table bytes m r → Fits table bytes (ended m) (ends r)
  both_unknown : Fits table bytes stranger unknown

module _ {table bytes : List ℕ} where
  bring : {p q : Passed} {x y : Pass} → p ≡ q → x ≡ y → Fits table bytes q y → Fits table bytes p x
  bring {p} {q} {x} {y} e f a = rw (e, f) a

  resumed_fits : {m : Metered} {r : Reply} → Agrees table bytes m r → Fits table bytes (end_passed m) (resumed_by r.outcome r.left)
  resumed_fits (is_found h) = both_end is_failed
  resumed_fits is_failed = both_unknown
  resumed_fits is_spent = both_end is_spent

  further_fits : {p : Passed} {x : Pass} (f : Unit {0} → Result) (next : ℕ → Reply) → Fits table bytes p x
      → ((n : ℕ) → Agrees table bytes (meter n (f tt)) (next n)) → Fits table bytes (then_further p f) (or_further x next)
  further_fits f next (both_end a) k = both_end (or_then f next a k)
  further_fits f next both_unknown k = both_unknown

-- the first m of a sequence
cut_at : (m : ℕ) (ts : Terms) → m ≤ count ts → (x : Terms) × (us : Terms) × (ts ≡ x ⧺ us) × (count x ≡ m)
cut_at zero ts h = (nil, ts, refl, refl)
cut_at (suc m) nil h = absurd (omega arith)
cut_at (suc m) (t :: ts) h = let r = cut_at m ts (omega arith) in (t :: r.0, r.1, ap (t ::◌) r.2, omega (arith, r.3))

later : (v j : ℕ) (m : Bool) → m ≡ true → cond (eqb v j) true m ≡ true
later v j m h = go (eqb v j)
  where
    go : (c : Bool) → cond c true m ≡ true
    go true = refl
    go false = h

module _ (table : List ℕ) (small : length table ≤ 200) (classes : List ℕ) (alike : Alike table classes) (bytes : List ℕ) (short : length bytes ≤ longest_record)
    (how : ℕ → Tries) (is : Env → Bool)
    (told : (f : Env) → is f ≡ true → Permitted how f.value) (free g : List ℕ)
    (given : (v : ℕ) → among v free ≡ true → how v ≡ only (get_or g v 0)) where
  pub record Known (fs : List Frame) (e : Env) (ds : List Pending) : Type 0 where
    pub meant : Told table classes how is fs e ds
    pub runs : (v : ℕ) → among v (frames_runs fs) ≡ true → among v free ≡ true

  module _ (n : ℕ) (lv : List ℕ → State → ℕ → Reply) (searches : Searches table classes bytes n lv) (pattern : List ℕ) (narrow : length pattern ≤ longest_pattern)
      (gl : State → ℕ → Pass)
      (goes : (s : State) (qs : Children) (ts : Terms) (fs : List Frame) (e : Env) (ds : List Pending) (left : ℕ)
      → Represents table pattern bytes s qs ts fs e ds → levels pattern s.place.at ≤ n → Known (frame qs ts s.place.node ∷ fs) e ds
      → Fits table bytes (passing table classes how is (frame qs ts s.place.node ∷ fs) e ds left) (gl s left)) where
    -- a free run name
    module _ (s : State) (v : ℕ) (qs : Children) (ts : Terms) (fs : List Frame) (e : Env) (ds : List Pending)
        (h : Represents table pattern bytes s (run v qs) ts fs e ds) (above : 32 ≤ v) (low : v < variables) (few : levels pattern (s.place.at + 1) ≤ n)
        (fresh : e.value v ≡ None) (known : Known (frame (run v qs) ts s.place.node ∷ fs) e ds) where
      abbrev m : ℕ
      m = get_or g v 0

      abbrev onward : Terms → Terms → Result
      onward w us = machine table classes freely (frame qs us (s.place.node + sizes table w) ∷ fs) (bind e v s.place.node w) ds

      abbrev here : List Frame
      here = frame (run v qs) ts s.place.node ∷ fs

      only_m : how v ≡ only m
      only_m = given v (known.runs v (ap (λ (c : Bool). cond c true (among v (runs_all qs (frames_runs fs)))) (eq-eqb v v refl)))

      -- the bytes of the elements x
      first_size : (x us : Terms) → ts ≡ x ⧺ us → span_of table (drop s.place.node bytes) false (count x) ≡ sizes table x
      first_size x us z =
          let g = h.here in
          let rest = bytes_left table fs g.bytes_after in
          let fit = g.elements_limited in
          let stands : drop s.place.node bytes ≡ terms_bytes table x (terms_bytes table us rest) =
          g.stands ∙ ap (λ (y : Terms). terms_bytes table y rest) z ∙ bytes_join table x us rest in
          ap (λ (l : List ℕ). span_of table l false (count x)) stands
          ∙ span_terms table small true x fit.left fit.in_list (terms_bytes table us rest)
          (fit_split table true x us fit.left fit.in_list (subst (λ (y : Terms). FitAll table true (term_trees y) fit.left fit.in_list) z fit.fit)).0

      -- the lengths after it
      lengths_after : (x us : Terms) → ts ≡ x ⧺ us → (left : ℕ)
          → Agrees table bytes (meter left (further x us onward))
          (further_of (lv pattern) table bytes v s (count us) (count x) (sizes table x) left)
      unfolding further_of
      lengths_after x nil z left = carry (meter_fail left) refl is_failed
      lengths_after x (t :: us) z left =
          carry refl
          (ap₂ (λ (a b : ℕ). lengths_of (lv pattern) table bytes v s (count us) a b left) (sym (count_join x (single t)))
          (next_size table classes bytes n lv searches pattern narrow small short s v qs ts fs e ds h above low few x t us z))
          (lengths_from table classes bytes n lv searches pattern narrow small short s v qs ts fs e ds h above low few us (x ⧺ single t) left
          (z ∙ sym (join_one x t us)))

      spent_given : (left : ℕ) → left ≡ 0
          → Fits table bytes (passing table classes how is here e ds left) (given_length_of gl (lv pattern) table bytes m v s left)
      unfolding given_length_of
      spent_given left z =
          bring (ap (passing table classes how is here e ds) z
          ∙ passing_used_up table classes how is here e ds (exactly m nil ts (λ w us. machine table classes how (frame qs us (s.place.node + sizes table w) ∷ fs) (bind e v s.place.node w) ds))
          (machine_run_fresh table classes how s.place.node fs e ds v qs ts fresh
          ∙ ap (λ (y : Tries). try_fresh y ts (λ w us. machine table classes how (frame qs us (s.place.node + sizes table w) ∷ fs) (bind e v s.place.node w) ds)) only_m))
          (rw (eq-eqb left 0 z)) (both_end (is_spent {left = left}))

      unfit_given : (left : ℕ) → 0 < left → count ts < m
          → Fits table bytes (passing table classes how is here e ds left) (given_length_of gl (lv pattern) table bytes m v s left)
      unfolding given_length_of
      unfit_given left i l =
          bring (passing_unfit table classes how is told v m s.place.node qs fs e ds fresh only_m ts l left i)
          (rw (ne_eqb left 0 (λ z. omega arith), leb_true (suc s.place.elements) m (omega (arith, h.here.elements)))) both_unknown

      fit_given : (left : ℕ) → 0 < left → (x us : Terms) → ts ≡ x ⧺ us → count x ≡ m
          → Fits table bytes (passing table classes how is here e ds left) (given_length_of gl (lv pattern) table bytes m v s left)
      unfolding given_length_of
      fit_given left i x us z c =
          let k : Known (frame (run v qs) (x ⧺ us) s.place.node ∷ fs) e ds =
          subst (λ (y : Terms). Known (frame (run v qs) y s.place.node ∷ fs) e ds) z known in
          let b = run_bound table classes bytes n lv searches pattern narrow small short s v qs ts fs e ds h above low few x us z in
          bring (ap (λ (y : Terms). passing table classes how is (frame (run v qs) y s.place.node ∷ fs) e ds left) z
          ∙ passing_run table classes how is told v m s.place.node qs fs e ds fresh only_m x us c k.meant left i)
          (rw (ne_eqb left 0 (λ y. omega arith), leb_false (suc s.place.elements) m (omega (arith, h.here.elements, ap count z, count_join x us, c)))
          (ap₂ (λ (a b : ℕ). or_further (gl (tried s v a b) (left - 1)) (λ l. further_of (lv pattern) table bytes v s (s.place.elements - a) a b l)) (sym c)
          (ap (span_of table (drop s.place.node bytes) false) (sym c) ∙ first_size x us z)
          ∙ ap (λ (a : ℕ). or_further (gl (tried s v (count x) (sizes table x)) (left - 1))
          (λ l. further_of (lv pattern) table bytes v s a (count x) (sizes table x) l))
          (omega (arith, h.here.elements, ap count z, count_join x us))))
          (further_fits (λ u. further x us onward) _
          (goes (tried s v (count x) (sizes table x)) qs us fs (bind e v s.place.node x) ds (left - 1) b few (record {
            meant = told_run table classes how is told v m s.place.node qs fs e ds fresh only_m x us c k.meant;
            runs = λ j y. known.runs j (later v j (among j (runs_all qs (frames_runs fs))) y);
          }))
          (λ l. lengths_after x us z l))

      run_given : (left : ℕ) → Fits table bytes (passing table classes how is here e ds left) (given_length_of gl (lv pattern) table bytes m v s left)
      run_given left = go (split left 0) (split m (count ts))
        where
          go : Split left 0 → Split m (count ts)
              → Fits table bytes (passing table classes how is here e ds left) (given_length_of gl (lv pattern) table bytes m v s left)
          go (enough i) c = spent_given left (omega arith)
          go (over i) (over c) = unfit_given left i c
          go (over i) (enough c) = let r = cut_at m ts c in fit_given left i r.0 r.1 r.2 r.3

    giving : Walking table classes pattern bytes n
    giving = record {
      Comes = Passed;
      Replies = Pass;
      comes = λ fs e ds left. passing table classes how is fs e ds left;
      ending = λ stop s left. given_by stop gl lv table pattern bytes g s left;
      Fit = Fits table bytes;
      Known = Known;
      same = λ fs gs e f ds es h left. passing_same table classes how is fs e ds gs f es h left;
      step = λ fs gs e f ds es h left i. passing_step table classes how is fs e ds gs f es h left i;
      known_same = λ fs gs e f ds es h l x.
          record { meant = told_same table classes how is fs e ds gs f es (h how) x.meant; runs = λ v y. x.runs v (l v y) };
      known_step = λ fs gs e f ds es h l x.
          record { meant = told_step table classes how is fs e ds gs f es (h how) x.meant; runs = λ v y. x.runs v (l v y) };
      fail_fits = λ fs e ds h left s. bring (passing_fail table classes how is fs e ds (h how) left) refl both_unknown;
      fails_fits = λ fs e ds h left i s. bring (passing_fails table classes how is fs e ds (h how) left i) refl both_unknown;
      spent_fits = λ fs e ds h left z s.
          bring (ap (passing table classes how is fs e ds) z ∙ passing_used_up table classes how is fs e ds (h how).0 (h how).1) refl (both_end is_spent);
      end_fits = λ s e ds shown waits few x left.
          bring (passing_end table classes how is e ds left) refl
          (resumed_fits (complements_agree table classes bytes n lv searches pattern narrow s.parts e s.waiting ds left shown waits few));
      run_fits = λ s v qs ts fs e ds h above low few fresh x left. run_given s v qs ts fs e ds h above low few fresh x left;
      end_anywhere = λ parts waiting p p' left. refl;
      failure_anywhere = λ s s' left. refl;
    }

  -- with levels enough
  given_searches : (pattern : List ℕ) → length pattern ≤ longest_pattern → (n : ℕ) (s : State) (qs : Children) (ts : Terms) (fs : List Frame) (e : Env)
      (ds : List Pending) (left : ℕ) → Represents table pattern bytes s qs ts fs e ds → levels pattern s.place.at ≤ n
      → Known (frame qs ts s.place.node ∷ fs) e ds
      → Fits table bytes (passing table classes how is (frame qs ts s.place.node ∷ fs) e ds left) (given_of n table classes bytes pattern g s left)
  unfolding given_of after_given giving
  given_searches pattern narrow zero s qs ts fs e ds left h few known = absurd (omega arith)
  given_searches pattern narrow (suc n) s qs ts fs e ds left h few known =
      walk_goes table small classes alike bytes short n pattern narrow
      (giving n (level_of n table classes bytes) (level_searches table small classes alike bytes short n) pattern narrow (given_of n table classes bytes pattern g)
      (given_searches pattern narrow n)) turns s qs ts fs e ds left
      (record { is = h; few = few; long = omega (arith, h.here.few); known = known })

kept_without : (v i : ℕ) (us : List ℕ) → eqb v i ≡ false → among i us ≡ true → among i (without v us) ≡ true
kept_without v i [] e h = h
kept_without v i (u ∷ us) e h = go (eqb v u) refl h (kept_without v i us e)
  where
    go : (c : Bool) → eqb v u ≡ c → cond (eqb u i) true (among i us) ≡ true → (among i us ≡ true → among i (without v us) ≡ true)
        → among i (cond c (without v us) (u ∷ without v us)) ≡ true
    go true f h r = r (subst (λ (m : Bool). cond m true (among i us) ≡ true) e
        (subst (λ (k : ℕ). cond (eqb k i) true (among i us) ≡ true) (sym (eqb-true v u f)) h))
    go false f h r = by (eqb u i) h
      where
        by : (c : Bool) → cond c true (among i us) ≡ true → cond c true (among i (without v us)) ≡ true
        by true h = refl
        by false h = r h

-- every variable of a list stands in it once
firsts_all : (vs : List ℕ) (i : ℕ) → among i vs ≡ true → among i (firsts vs) ≡ true
firsts_all [] i h = h
firsts_all (v ∷ vs) i h = go (eqb v i) refl h (firsts_all vs i)
  where
    go : (c : Bool) → eqb v i ≡ c → cond c true (among i vs) ≡ true → (among i vs ≡ true → among i (firsts vs) ≡ true)
        → cond c true (among i (without v (firsts vs))) ≡ true
    go true e h r = refl
    go false e h r = kept_without v i (firsts vs) e (r h)

-- the answer that a pass comes to
pass_replied : (table bytes : List ℕ) (allowance : ℕ) {p : Passed} {x : Pass} → Fits table bytes p x → followed_by table allowance p ≡ replied_pass allowance x
pass_replied table bytes allowance (both_end a) = ap follows (answers table bytes allowance a)
pass_replied table bytes allowance both_unknown = refl

module _ (l : Language) (pattern bytes : List ℕ) (alike : Alike l.table l.classes) (q : Pattern) (t : Term) (i : Input l pattern bytes q t) (apart : NoName (free_runs q) q) (given g : List ℕ)
    (each : OneForEach q given) (spread : (v : ℕ) → among v (free_runs q) ≡ true → given_to (free_runs q) given v ≡ only (get_or g v 0))
    (allowance : ℕ) where
  pub next_fits : Fits l.table bytes
      (passing l.table l.classes (given_to (free_runs q) given) (has_lengths q given) (frame (plain q end) (single t) 0 ∷ []) start [] allowance)
      (pass_of l.table l.classes pattern bytes g allowance)
  next_fits =
      given_searches l.table (table_short l.table i.table_accepted_holds) l.classes alike bytes (short l pattern bytes alike q t i allowance) (given_to (free_runs q) given)
      (has_lengths q given) (tells l q t given allowance) (free_runs q) g spread pattern (narrow l pattern bytes alike q t i allowance) (levels pattern 0)
      (start_of (replicate variables absent) 0) (plain q end) (single t) [] start [] allowance (start_here l pattern bytes alike q t i allowance) (omega arith)
      (record { meant = told_whole l q t given allowance (accepted_of l t i.record_accepted) apart each; runs = λ v h. firsts_all (runs q []) v h })

  -- the next answer on trees is what the pass on bytes comes to
  pub next_linked : next l q t given allowance ≡ replied_pass allowance (pass_of l.table l.classes pattern bytes g allowance)
  next_linked = next_passing l q t given allowance each ∙ pass_replied l.table bytes allowance next_fits

  -- an answer is the first of the search resumed after the given one, and what it shows stands in the record
  pub next_stands : (ps : List Part) (n : ℕ) → next l q t given allowance ≡ follows (bound ps n)
      → (e : Env) × (first_answer (resumed_after l q t given).out ≡ Some e) × (ps ≡ parts l.table e) × ((shown : List Part) × Shown l.table bytes shown e)
  next_stands ps n h = go _ refl next_fits (sym (next_passing l q t given allowance each) ∙ h)
    where
      go : (p : Passed)
          → passing l.table l.classes (given_to (free_runs q) given) (has_lengths q given) (frame (plain q end) (single t) 0 ∷ []) start [] allowance ≡ p
          → {x : Pass} → Fits l.table bytes p x → followed_by l.table allowance p ≡ follows (bound ps n)
          → (e : Env) × (first_answer (resumed_after l q t given).out ≡ Some e) × (ps ≡ parts l.table e) × ((shown : List Part) × Shown l.table bytes shown e)
      go (ended (met e left)) p (both_end (is_found s)) h =
          let z : ps ≡ parts l.table e = cc in (e, passed_first l q t given allowance e left p, z, (_, s))
      go (ended (missed left)) p f h = let z : ◌≡◌ {A = ℕ} 0 1 = cc in absurd (omega arith)
      go (ended used_up) p f h = let z : ◌≡◌ {A = ℕ} 0 1 = cc in absurd (omega arith)
      go stranger p f h = let z : ◌≡◌ {A = ℕ} 0 1 = cc in absurd (omega arith)
