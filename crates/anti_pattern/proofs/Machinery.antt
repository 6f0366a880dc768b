-- The machine, step by step, with what each step counts.
use Prim.Native.Nat.{ℕ, zero, ◌+◌}
use mathlib.Core.Path.{◌≡◌, refl, sym, ◌∙◌, ap}
use mathlib.Core.List.{List, [], ◌∷◌, ◌++◌, map}
use lib.Dec.{eqb}
use Rattle.term.specs.Pattern.{Pattern, name, symbol, complement, Children, end, plain, run}
use Rattle.term.specs.Class.{class_of}
use Rattle.term.specs.Table.{width}
use Rattle.term.specs.Term.{Term, node, Terms, nil, ◌::◌, single, size, sizes}
use Rattle.anti_pattern.proofs.Machine.{Frame, Pending, frame, pending, deferred, resume, machine}
use Rattle.anti_pattern.specs.Search.{Env, bind, counted, fail, answering, if_true, if_some, Deferred, refuted, finish, assign, Tries, freely, try_fresh, behind, try_run, search}
use Rattle.std.specs.Prelude.{Option, Some, None}

module _ (table classes : List ℕ) (how : ℕ → Tries) where
  -- a level: the whole pattern, or the inside of a complement
  pub machine_level : (q : Pattern) (t : Term) (n : ℕ) (e : Env) → search table classes how q t n e [] finish ≡ machine table classes how (frame (plain q end) (single t) n ∷ []) e []
  unfolding machine search
  machine_level q t n e = refl

  pub machine_found : (e : Env) → machine table classes how [] e [] ≡ answering e zero fail
  unfolding machine finish
  machine_found e = refl

  pub machine_refute : (e : Env) (d : Pending) (ds : List Pending)
      → machine table classes how [] e (d ∷ ds) ≡ refuted (machine table classes freely (frame (plain d.inside end) (single d.term) d.at ∷ []) e []).out
      (machine table classes freely (frame (plain d.inside end) (single d.term) d.at ∷ []) e []).cost (λ u. machine table classes how [] e ds)
  unfolding machine finish search
  machine_refute e d ds = refl

  module _ (n : ℕ) (fs : List Frame) (e : Env) (ds : List Pending) where
    pub machine_end : machine table classes how (frame end nil n ∷ fs) e ds ≡ machine table classes how fs e ds
    unfolding machine search
    machine_end = refl

    pub machine_over : (t : Term) (ts : Terms) → machine table classes how (frame end (t :: ts) n ∷ fs) e ds ≡ fail
    unfolding machine search
    machine_over t ts = refl

    pub machine_short : (q : Pattern) (qs : Children) → machine table classes how (frame (plain q qs) nil n ∷ fs) e ds ≡ fail
    unfolding machine search
    machine_short q qs = refl

    pub machine_name : (v : ℕ) (qs : Children) (t : Term) (ts : Terms)
        → machine table classes how (frame (plain (name v) qs) (t :: ts) n ∷ fs) e ds
        ≡ counted (if_some (assign classes e v n (single t)) (λ f. machine table classes how (frame qs ts (n + size table t) ∷ fs) f ds))
    unfolding machine search
    machine_name v qs t ts = refl

    pub machine_symbol : (s : ℕ) (qs ps : Children) (r : ℕ) (us ts : Terms)
        → machine table classes how (frame (plain (symbol s ps) qs) (node r us :: ts) n ∷ fs) e ds
        ≡ counted (if_true (eqb (class_of classes s) (class_of classes r)) (λ u. machine table classes how (frame ps us (n + width table r) ∷ frame qs ts (n + size table (node r us)) ∷ fs) e ds))
    unfolding machine search
    machine_symbol s qs ps r us ts = refl

    -- a run name, by what is assigned to it
    machine_run : (v : ℕ) (qs : Children) (ts : Terms)
        → machine table classes how (frame (run v qs) ts n ∷ fs) e ds
        ≡ try_run classes (e.value v) (how v) ts (λ w us. machine table classes how (frame qs us (n + sizes table w) ∷ fs) (bind e v n w) ds)
        (λ w us. machine table classes how (frame qs us (n + sizes table w) ∷ fs) e ds)
    unfolding machine search
    machine_run v qs ts = refl

    pub machine_run_fresh : (v : ℕ) (qs : Children) (ts : Terms) → e.value v ≡ None
        → machine table classes how (frame (run v qs) ts n ∷ fs) e ds
        ≡ try_fresh (how v) ts (λ w us. machine table classes how (frame qs us (n + sizes table w) ∷ fs) (bind e v n w) ds)
    machine_run_fresh v qs ts h =
        machine_run v qs ts
        ∙ ap (λ (o : Option Terms). try_run classes o (how v) ts (λ w us. machine table classes how (frame qs us (n + sizes table w) ∷ fs) (bind e v n w) ds)
        (λ w us. machine table classes how (frame qs us (n + sizes table w) ∷ fs) e ds)) h

    pub machine_run_assigned : (v : ℕ) (qs : Children) (ts w : Terms) → e.value v ≡ Some w
        → machine table classes how (frame (run v qs) ts n ∷ fs) e ds
        ≡ counted (if_some (behind classes w ts) (λ us. machine table classes how (frame qs us (n + sizes table w) ∷ fs) e ds))
    machine_run_assigned v qs ts w h =
        machine_run v qs ts
        ∙ ap (λ (o : Option Terms). try_run classes o (how v) ts (λ w us. machine table classes how (frame qs us (n + sizes table w) ∷ fs) (bind e v n w) ds)
        (λ w us. machine table classes how (frame qs us (n + sizes table w) ∷ fs) e ds)) h

    map_snoc : (d : Pending) (xs : List Pending) → map (deferred table classes) (xs ++ (d ∷ [])) ≡ map (deferred table classes) xs ++ (deferred table classes d ∷ [])
    map_snoc d [] = refl
    map_snoc d (x ∷ xs) = ap (deferred table classes x ∷◌) (map_snoc d xs)

    pub machine_complement : (q : Pattern) (qs : Children) (t : Term) (ts : Terms)
        → machine table classes how (frame (plain (complement q) qs) (t :: ts) n ∷ fs) e ds
        ≡ counted (machine table classes how (frame qs ts (n + size table t) ∷ fs) e (ds ++ (pending q t n ∷ [])))
    unfolding machine search
    machine_complement q qs t ts =
        ap (λ (put : List Deferred). counted (resume table classes how (frame qs ts (n + size table t) ∷ fs) e put)) (sym (map_snoc (pending q t n) ds))
