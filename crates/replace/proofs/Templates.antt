-- Which patterns are templates of a rule.
use Prim.Native.Nat.{ℕ}
use mathlib.Core.Path.{◌≡◌, refl, subst}
use mathlib.Core.List.{List, [], ◌∷◌}
use mathlib.Core.Bool.{Bool, true, false, cond, not, ◌||◌, true≢false, false≢true}
use mathlib.Core.Logic.{◌↔◌}
use lib.Dec.{eqb}
use borrow.Author.Tests.{eqb-true, eq-eqb, not-false}
use Rattle.term.specs.Pattern.{Pattern, Children, name, symbol, complement, end, plain, run}
use Rattle.anti_pattern.specs.Variables.{vars, vars_all, free, among}
use Rattle.replace.specs.Loose.{NoComplement, NoComplements, Template, loose, loose_all}
use Rattle.replace.proofs.Instances.{neither}

both_false : (a b : Bool) → a ≡ false → b ≡ false → (a || b) ≡ false
both_false a b g h = rw (g, h)

not_of : (b : Bool) → b ≡ true → not b ≡ false
not_of true h = refl
not_of false h = absurd (false≢true h)

module _ (fs : List ℕ) where
  -- a variable in front of others
  front_free : (u v : ℕ) (vs : List ℕ) → not (among u fs) ≡ false → (among v vs ≡ true → among v fs ≡ true) → among v (u ∷ vs) ≡ true → among v fs ≡ true
  front_free u v vs l g m = go (eqb u v) refl m
    where
      go : (c : Bool) → eqb u v ≡ c → cond c true (among v vs) ≡ true → among v fs ≡ true
      go true e m = subst (λ (x : ℕ). among x fs ≡ true) (eqb-true u v e) (not-false (among u fs) l)
      go false e m = g m

  mutual
    firm_free : (q : Pattern) (v : ℕ) (vs : List ℕ) → loose fs q ≡ false → (among v vs ≡ true → among v fs ≡ true) → among v (vars q vs) ≡ true
        → among v fs ≡ true
    firm_free (name u) v vs l g m = front_free u v vs l g m
    firm_free (symbol s qs) v vs l g m = firm_free_all qs v vs l g m
    firm_free (complement q) v vs l g m = g m

    firm_free_all : (qs : Children) (v : ℕ) (vs : List ℕ) → loose_all fs qs ≡ false → (among v vs ≡ true → among v fs ≡ true) → among v (vars_all qs vs) ≡ true
        → among v fs ≡ true
    firm_free_all end v vs l g m = g m
    firm_free_all (plain q qs) v vs l g m =
        let n = neither (loose fs q) (loose_all fs qs) l in
        firm_free q v (vars_all qs vs) n.0 (firm_free_all qs v vs n.1 g) m
    firm_free_all (run u qs) v vs l g m =
        let n = neither (not (among u fs)) (loose_all fs qs) l in
        front_free u v (vars_all qs vs) n.0 (firm_free_all qs v vs n.1 g) m

  mutual
    firm_plain : (q : Pattern) → loose fs q ≡ false → NoComplement q
    firm_plain (name v) l = tt
    firm_plain (symbol s qs) l = firm_plain_all qs l
    firm_plain (complement q) l = absurd (true≢false l)

    firm_plain_all : (qs : Children) → loose_all fs qs ≡ false → NoComplements qs
    firm_plain_all end l = tt
    firm_plain_all (plain q qs) l =
        let n = neither (loose fs q) (loose_all fs qs) l in (firm_plain q n.0, firm_plain_all qs n.1)
    firm_plain_all (run v qs) l = firm_plain_all qs (neither (not (among v fs)) (loose_all fs qs) l).1

  -- the other way: variables stay where others come in front

  among_front : (u v : ℕ) (vs : List ℕ) → among v vs ≡ true → among v (u ∷ vs) ≡ true
  among_front u v vs h = go (eqb u v)
    where
      go : (c : Bool) → cond c true (among v vs) ≡ true
      go true = refl
      go false = h

  among_first : (v : ℕ) (vs : List ℕ) → among v (v ∷ vs) ≡ true
  among_first v vs = rw (eq-eqb v v refl)

  mutual
    among_kept : (q : Pattern) (v : ℕ) (vs : List ℕ) → among v vs ≡ true → among v (vars q vs) ≡ true
    among_kept (name u) v vs h = among_front u v vs h
    among_kept (symbol s qs) v vs h = among_kept_all qs v vs h
    among_kept (complement q) v vs h = h

    among_kept_all : (qs : Children) (v : ℕ) (vs : List ℕ) → among v vs ≡ true → among v (vars_all qs vs) ≡ true
    among_kept_all end v vs h = h
    among_kept_all (plain q qs) v vs h = among_kept q v (vars_all qs vs) (among_kept_all qs v vs h)
    among_kept_all (run u qs) v vs h = among_front u v (vars_all qs vs) (among_kept_all qs v vs h)

  mutual
    free_firm : (q : Pattern) (vs : List ℕ) → NoComplement q → ((v : ℕ) → among v (vars q vs) ≡ true → among v fs ≡ true) → loose fs q ≡ false
    free_firm (name u) vs n g = not_of (among u fs) (g u (among_first u vs))
    free_firm (symbol s qs) vs n g = free_firm_all qs vs n g
    free_firm (complement q) vs n g = absurd n

    free_firm_all : (qs : Children) (vs : List ℕ) → NoComplements qs → ((v : ℕ) → among v (vars_all qs vs) ≡ true → among v fs ≡ true)
        → loose_all fs qs ≡ false
    free_firm_all end vs n g = refl
    free_firm_all (plain q qs) vs n g =
        both_false (loose fs q) (loose_all fs qs) (free_firm q (vars_all qs vs) n.0 g) (free_firm_all qs vs n.1 (λ v m. g v (among_kept q v (vars_all qs vs) m)))
    free_firm_all (run u qs) vs n g =
        both_false (not (among u fs)) (loose_all fs qs) (not_of (among u fs) (g u (among_first u (vars_all qs vs))))
        (free_firm_all qs vs n (λ v m. g v (among_front u v (vars_all qs vs) m)))

pub template_exactly : (p q : Pattern) → (loose (free p) q ≡ false) ↔ Template p q
template_exactly p q =
    (λ l. (firm_plain (free p) q l, λ v m. firm_free (free p) q v [] l (λ n. absurd (false≢true n)) m), λ h. free_firm (free p) q [] h.0 h.1)
