-- What trying the candidates comes to, by the meaning of the pattern alone: for every accepted table, with an accepted class list or none, every
-- pattern, allowance and size.
use Prim.Native.Nat.{ℕ, ◌<◌, ◌≤◌}
use mathlib.Core.Path.{◌≡◌, refl, sym, ◌∙◌, ap, subst}
use mathlib.Core.Logic.{◌⊎◌, inl, inr, ◌↔◌}
use mathlib.Core.List.{List, ◌∷◌, ◌++◌}
use mathlib.Core.Bool.{true}
use native.Mathlib.Omega.{arith}
use lib.ListN.{length}
use Rattle.term.specs.Class.{Alike}
use Rattle.term.specs.Limits.{TermAccepted}
use Rattle.term.specs.Pattern.{Pattern}
use Rattle.term.specs.Table.{table_accepted}
use Rattle.term.specs.Term.{Term}
use Rattle.reader.specs.Reading.{read, read_record}
use Rattle.reader.proofs.Typed.{record_read}
use Rattle.anti_pattern.specs.Answer.{count_of}
use Rattle.anti_pattern.specs.Demands.{Unsatisfied}
use Rattle.anti_pattern.specs.Language.{Language}
use Rattle.anti_pattern.specs.Meaning.{Assignment, Satisfies}
use Rattle.anti_pattern.specs.Order.{All, Member, Ascending}
use Rattle.anti_pattern.proofs.Metering.{Split, enough, over, split}
use Rattle.example.specs.Strings.{up_to, Earlier}
use Rattle.example.specs.Trial.{Trial, shows, no_example, spent_at, example}
use Rattle.example.specs.Demands.{Reached, FirstSpent, AllPassed}
use Rattle.example.specs.Inner.{Rule}
use Rattle.example.specs.Least.{bytes_in, Candidate, Passed, Behind, Least}
use Rattle.example.proofs.Lists.{all_map, all_in, in_right, in_split, sorted_after}
use Rattle.example.proofs.Ordered.{Bytes, up_to_in, up_to_all, up_to_sorted, earlier_once}
use Rattle.example.proofs.Records.{bytes_octets, accepted_bytes, accepted_read, some_bytes, one_reading}
use Rattle.example.proofs.Twins.{classed_alike}
use Rattle.example.proofs.Scan.{PassedAt, Scan, at_bound, at_spent, at_end, scan}

module _ (l : Language) (q : Pattern) where
  pub record ExampleExact (allowance size : ℕ) : Type 0 where
    -- a record is shown exactly if it is reached, with its count
    pub shown_exactly : (s : List ℕ) (n : ℕ)
        → (example l q allowance size ≡ shows s n) ↔ ((t : Term) × Reached l q allowance size t × (s ≡ bytes_in l t) × (n ≡ count_of l q t))
    -- and it is the least of all that satisfy
    pub shows_least : (s : List ℕ) (n : ℕ) → example l q allowance size ≡ shows s n
        → (t : Term) × Reached l q allowance size t × (s ≡ bytes_in l t) × (n ≡ count_of l q t) × Least l q t
    pub spent_exactly : (n : ℕ) → (example l q allowance size ≡ spent_at n) ↔ ((n ≡ allowance) × ((t : Term) × FirstSpent l q allowance size t))
    pub none_passed : (example l q allowance size ≡ no_example) ↔ AllPassed l q allowance size
    pub none_exactly : ((n : ℕ) → example l q allowance size ≡ spent_at n → ⊥)
        → (example l q allowance size ≡ no_example) ↔ ((t : Term) → Candidate l size t → Unsatisfied l q t)

-- where a string of a sorted list stands to one of its elements
data Stands (before : List (List ℕ)) (s r : List ℕ) : Type 0 where
  is_before : Member r before → Stands before s r
  is_it : s ≡ r → Stands before s r
  is_later : Earlier s r → Stands before s r

stands : (before : List (List ℕ)) (s : List ℕ) (later : List (List ℕ)) (r : List ℕ) → Ascending Earlier (before ++ (s ∷ later))
    → Member r (before ++ (s ∷ later)) → Stands before s r
stands before s later r h i = go (in_split r before (s ∷ later) i)
  where
    go : Member r before ⊎ Member r (s ∷ later) → Stands before s r
    go (inl j) = is_before j
    go (inr (inl e)) = is_it e
    go (inr (inr j)) = is_later (all_in (Earlier s) later r (sorted_after Earlier before s later h) j)

earlier_length : (s r : List ℕ) → Earlier s r → length s ≤ length r
earlier_length s r (inl h) = omega arith
earlier_length s r (inr h) = omega (arith, h.0)

module _ (l : Language) (accepted : table_accepted l.table ≡ true) (k : Alike l.table l.classes) (q : Pattern) (allowance size : ℕ) where
  abbrev Satisfied : Term → Type 0
  Satisfied t = (a : Assignment) × Satisfies l q t a

  -- the list of strings that is tried, by what is known of it
  record Tried (ss : List (List ℕ)) : Type 0 where
    pub sorted : Ascending Earlier ss
    pub each : All (λ s. (length s ≤ size) × Bytes s) ss
    pub complete : (t : Term) → Candidate l size t → Member (bytes_in l t) ss

  tried : Tried (up_to size)
  tried = record {
    sorted = up_to_sorted size;
    each = up_to_all size;
    complete = λ t c. up_to_in (bytes_in l t) size (accepted_bytes l accepted t c.accepted) (some_bytes l.table t) c.small;
  }

  scanned : Scan l k q allowance (up_to size) (example l q allowance size)
  scanned = scan l k q allowance (up_to size) (all_map (λ s. (length s ≤ size) × Bytes s) Bytes (up_to size) (λ s h. h.1) (up_to_all size))

  -- a record whose string was passed over
  passed : (t : Term) → TermAccepted l t → PassedAt l k q allowance (bytes_in l t) → Passed l q allowance t
  passed t a p = p t (length (bytes_in l t)) (accepted_read l accepted t a)

  -- the record that the scan stopped at
  record Stopped (s : List ℕ) (t : Term) : Type 0 where
    pub bytes : bytes_in l t ≡ s
    pub candidate : Candidate l size t

  module _ (before : List (List ℕ)) (s : List ℕ) (later : List (List ℕ)) (t : Term) (n : ℕ) (h : Tried (before ++ (s ∷ later)))
      (p : All (PassedAt l k q allowance) before) (i : read_record l s ≡ read t n) where
    stopped : Stopped s t
    stopped =
        let e = all_in (λ r. (length r ≤ size) × Bytes r) (before ++ (s ∷ later)) s h.each (in_right s before (s ∷ later) (inl refl)) in
        let r = record_read l s (bytes_octets s e.1) n t i in
        record {
          bytes = r.0;
          candidate = record { accepted = r.1; small = subst (λ (x : List ℕ). length x ≤ size) (sym r.0) e.0 };
        }

    place : (u : Term) → Candidate l size u → Stands before s (bytes_in l u)
    place u c = stands before s later (bytes_in l u) h.sorted (h.complete u c)

    -- the record of the same bytes is the same
    same : (u : Term) → TermAccepted l u → s ≡ bytes_in l u → t ≡ u
    same u a e =
        one_reading l s t u n (length (bytes_in l u)) i
        (subst (λ (x : List ℕ). read_record l x ≡ read u (length (bytes_in l u))) (sym e) (accepted_read l accepted u a))

    before_none : (u : Term) → TermAccepted l u → Member (bytes_in l u) before → Passed l q allowance u
    before_none u a j = passed u a (all_in (PassedAt l k q allowance) before (bytes_in l u) p j)

    behind : Behind l q allowance (bytes_in l t)
    behind u a e = go (place u (record { accepted = a; small = omega (arith, earlier_length (bytes_in l u) (bytes_in l t) e, stopped.candidate.small) }))
      where
        go : Stands before s (bytes_in l u) → Passed l q allowance u
        go (is_before j) = before_none u a j
        go (is_it x) =
            let y : Earlier (bytes_in l u) (bytes_in l u) = subst (Earlier (bytes_in l u)) (stopped.bytes ∙ x) e in
            absurd (earlier_once (bytes_in l u) (bytes_in l u) y y)
        go (is_later x) = absurd (earlier_once s (bytes_in l u) x (subst (Earlier (bytes_in l u)) stopped.bytes e))

    least : Satisfied t → Least l q t
    least f = record {
      accepted = stopped.candidate.accepted;
      satisfied = f;
      least = λ u a b y. go u a b y (split (length (bytes_in l u)) size);
    }
      where
        by : (u : Term) → TermAccepted l u → (b : Assignment) → Satisfies l q u b → Stands before s (bytes_in l u)
            → (t ≡ u) ⊎ Earlier (bytes_in l t) (bytes_in l u)
        by u a b y (is_before j) = absurd ((before_none u a j).1 b y)
        by u a b y (is_it e) = inl (same u a e)
        by u a b y (is_later e) = inr (subst (λ (z : List ℕ). Earlier z (bytes_in l u)) (sym stopped.bytes) e)

        go : (u : Term) → TermAccepted l u → (b : Assignment) → Satisfies l q u b → Split (length (bytes_in l u)) size
            → (t ≡ u) ⊎ Earlier (bytes_in l t) (bytes_in l u)
        go u a b y (enough m) = by u a b y (place u (record { accepted = a; small = m }))
        go u a b y (over m) = inr (inl (omega (arith, stopped.candidate.small)))

    -- a record that all before are passed over, and that is not, is where the scan stopped
    only : Satisfied t ⊎ (allowance < count_of l q t) → (u : Term) → Candidate l size u → Satisfied u ⊎ (allowance < count_of l q u)
        → Behind l q allowance (bytes_in l u) → t ≡ u
    only f u c g w = go (place u c)
      where
        unpassed : (v : Term) → Satisfied v ⊎ (allowance < count_of l q v) → Passed l q allowance v → ⊥
        unpassed v (inl x) y = y.1 x.0 x.1
        unpassed v (inr x) y = omega (arith, y.0)

        go : Stands before s (bytes_in l u) → t ≡ u
        go (is_before j) = absurd (unpassed u g (before_none u c.accepted j))
        go (is_it e) = same u c.accepted e
        go (is_later e) =
            absurd (unpassed t f (w t stopped.candidate.accepted (subst (λ (z : List ℕ). Earlier z (bytes_in l u)) (sym stopped.bytes) e)))

  -- what is shown

  shown_there : {ss : List (List ℕ)} {x : Trial} → Tried ss → Scan l k q allowance ss x → (s : List ℕ) (n : ℕ) → x ≡ shows s n
      → (t : Term) × Reached l q allowance size t × (s ≡ bytes_in l t) × (n ≡ count_of l q t) × Least l q t
  shown_there h (at_bound before r later t m p i j f) s n e =
      let d = stopped before r later t m h p i in
      let x : r ≡ s = cc in let y : count_of l q t ≡ n = cc in (
        t,
        record { candidate = d.candidate; within = j; satisfied = f; behind = behind before r later t m h p i },
        sym x ∙ sym d.bytes,
        sym y,
        least before r later t m h p i f,
      )
  shown_there h (at_spent before r later t m p i j) s n e = let z : ◌≡◌ {A = ℕ} 0 1 = cc in absurd (omega arith)
  shown_there h (at_end p) s n e = let z : ◌≡◌ {A = ℕ} 0 1 = cc in absurd (omega arith)

  shown_back : {ss : List (List ℕ)} {x : Trial} → Tried ss → Scan l k q allowance ss x → (s : List ℕ) (n : ℕ)
      → ((t : Term) × Reached l q allowance size t × (s ≡ bytes_in l t) × (n ≡ count_of l q t)) → x ≡ shows s n
  shown_back h (at_bound before r later t m p i j f) s n w =
      let e = only before r later t m h p i (inl f) w.0 w.1.candidate (inl w.1.satisfied) w.1.behind in
      let x : r ≡ s = sym (stopped before r later t m h p i).bytes ∙ ap (bytes_in l) e ∙ sym w.2 in
      let y : count_of l q t ≡ n = ap (count_of l q) e ∙ sym w.3 in
      rw (x, y)
  shown_back h (at_spent before r later t m p i j) s n w =
      let e = ap (count_of l q) (only before r later t m h p i (inr j) w.0 w.1.candidate (inl w.1.satisfied) w.1.behind) in
      absurd (omega (arith, e, j, w.1.within))
  shown_back {ss} h (at_end p) s n w =
      let c = w.1.candidate in let f = w.1.satisfied in
      absurd ((passed w.0 c.accepted (all_in (PassedAt l k q allowance) ss (bytes_in l w.0) p (h.complete w.0 c))).1 f.0 f.1)

  -- none

  none_there : {ss : List (List ℕ)} {x : Trial} → Tried ss → Scan l k q allowance ss x → x ≡ no_example → (t : Term) → Candidate l size t → Passed l q allowance t
  none_there h (at_bound before r later t m p i j f) e = let z : ◌≡◌ {A = ℕ} 0 1 = cc in absurd (omega arith)
  none_there h (at_spent before r later t m p i j) e = let z : ◌≡◌ {A = ℕ} 0 1 = cc in absurd (omega arith)
  none_there {ss} h (at_end p) e = λ t c. passed t c.accepted (all_in (PassedAt l k q allowance) ss (bytes_in l t) p (h.complete t c))

  none_back : {ss : List (List ℕ)} {x : Trial} → Tried ss → Scan l k q allowance ss x → ((n : ℕ) → x ≡ spent_at n → ⊥)
      → ((t : Term) → Candidate l size t → Unsatisfied l q t) → x ≡ no_example
  none_back h (at_bound before r later t m p i j f) d u = absurd (u t (stopped before r later t m h p i).candidate f.0 f.1)
  none_back h (at_spent before r later t m p i j) d u = absurd (d allowance refl)
  none_back h (at_end p) d u = refl

  -- spent

  abbrev Spent : ℕ → Type 0
  Spent n = (n ≡ allowance) × ((t : Term) × FirstSpent l q allowance size t)

  spent_there : {ss : List (List ℕ)} {x : Trial} → Tried ss → Scan l k q allowance ss x → (n : ℕ) → x ≡ spent_at n → Spent n
  spent_there h (at_bound before r later t m p i j f) n e = let z : ◌≡◌ {A = ℕ} 0 1 = cc in absurd (omega arith)
  spent_there h (at_spent before r later t m p i j) n e =
      let x : allowance ≡ n = cc in
      (sym x, (t, record { candidate = (stopped before r later t m h p i).candidate; over = j; behind = behind before r later t m h p i }))
  spent_there h (at_end p) n e = let z : ◌≡◌ {A = ℕ} 0 1 = cc in absurd (omega arith)

  spent_back : {ss : List (List ℕ)} {x : Trial} → Tried ss → Scan l k q allowance ss x → (n : ℕ) → Spent n → x ≡ spent_at n
  spent_back h (at_bound before r later t m p i j f) n w =
      let u = w.1.1 in
      let e = ap (count_of l q) (only before r later t m h p i (inl f) w.1.0 u.candidate (inr u.over) u.behind) in
      absurd (omega (arith, e, j, u.over))
  spent_back h (at_spent before r later t m p i j) n w = ap spent_at (sym w.0)
  spent_back {ss} h (at_end p) n w =
      let u = w.1.1 in
      let c = u.candidate in
      absurd (omega (
        arith,
        (passed w.1.0 c.accepted (all_in (PassedAt l k q allowance) ss (bytes_in l w.1.0) p (h.complete w.1.0 c))).0,
        u.over,
      ))

  example_exact : ExampleExact l q allowance size
  example_exact = record {
    shown_exactly = λ s n. (λ e. let w = shown_there tried scanned s n e in (w.0, w.1, w.2, w.3), shown_back tried scanned s n);
    shows_least = shown_there tried scanned;
    spent_exactly = λ n. (spent_there tried scanned n, spent_back tried scanned n);
    none_passed = (
      none_there tried scanned,
      λ f. none_back tried scanned (λ n e. let w = (spent_there tried scanned n e).1 in omega (arith, w.1.over, (f w.0 w.1.candidate).0)) (λ t c. (f t c).1),
    );
    none_exactly = λ d. (λ e t c. (none_there tried scanned e t c).1, none_back tried scanned d);
  }

pub exact_of : (l : Language) (pattern : List ℕ) (q : Pattern) → Rule l pattern q → (allowance size : ℕ) → ExampleExact l q allowance size
exact_of l pattern q rule = example_exact l rule.table_accepted_holds (classed_alike l rule.classed) q
