-- The parts that are put into a template are those of the first answer at its first places, and there is one result.
use Prim.Native.Nat.{ℕ, zero, ◌≤◌}
use native.Mathlib.Omega.{arith}
use mathlib.Core.Path.{◌≡◌, refl, sym, ap, ap₂, subst, ◌∙◌}
use mathlib.Core.List.{List, [], ◌∷◌}
use mathlib.Core.Bool.{Bool, true, false, cond, false≢true}
use lib.Dec.{eqb}
use lib.ListN.{get_or, take, drop}
use Rattle.answers.specs.Answers.{answer_number}
use Rattle.term.specs.Class.{class_of, Alike}
use Rattle.term.specs.Code.{byte_of}
use Rattle.term.specs.Limits.{PatternAccepted}
use Rattle.term.specs.Pattern.{Pattern}
use Rattle.term.specs.Same.{same_term, same_terms}
use Rattle.term.specs.Table.{is_list}
use Rattle.term.specs.Term.{Term, Terms, node, nil, ◌::◌, sizes, term_trees, term_bytes, terms_bytes}
use Rattle.term.specs.Tree.{number, list_code, own, encode}
use Rattle.term.proofs.SameParts.{and_true, same_sizes}
use Rattle.term.proofs.Sizes.{terms_sizes}
use Rattle.anti_pattern.specs.Answer.{count_of, matching_of, answer}
use Rattle.anti_pattern.specs.Demands.{First}
use Rattle.anti_pattern.specs.Language.{Language, Classed, TermOf, TermsOf, ◌⊢◌≈◌}
use Rattle.anti_pattern.specs.Meaning.{Assignment, OneAt, Holds}
use Rattle.anti_pattern.specs.Place.{place}
use Rattle.anti_pattern.specs.Search.{Env, Answers, found, failed, first_answer, whole}
use Rattle.anti_pattern.specs.Variables.{free, among}
use Rattle.anti_pattern.proofs.Allowance.{answer_within}
use Rattle.anti_pattern.proofs.Demands.{search_decides, parts_shown}
use Rattle.anti_pattern.proofs.First.{one_first, some_is, none_is}
use Rattle.anti_pattern.proofs.OverTable.{same_of}
use Rattle.anti_pattern.proofs.Placed.{place_one}
use Rattle.anti_pattern.proofs.Within.{accepted_of}
use Rattle.reader.specs.Brought.{bringing}
use Rattle.link.specs.Input.{Input as MatchInput}
use Rattle.call.specs.Call.{written}
use Rattle.matcher.specs.Call.{told, bound_parts}
use Rattle.matcher.specs.Demands.{offset_in, length_in}
use Rattle.matcher.proofs.Answered.{first_shown}
use Rattle.replace.specs.Demands.{FirstShown, exactly, Replaced}
use Rattle.replace.specs.Instance.{instance}
use Rattle.replace.specs.Loose.{loose}
use Rattle.replace.specs.Splice.{spliced_in}
use Rattle.replace.proofs.Splices.{spliced_of, stays_spliced}
use Rattle.replace.proofs.Instances.{Assigns, instance_only, instance_holds, result_over, same_up_to, satisfies_assigns}
use Rattle.std.specs.Prelude.{Option, Some, None}

-- terms that are the same up to class and have the same bytes are equal

own_rest : (b : Bool) (n m : ℕ) (x y : List ℕ) → cond b (n ∷ x) x ≡ cond b (m ∷ y) y → x ≡ y
own_rest true n m x y e = cc
own_rest false n m x y e = e

rest_of : (x : ℕ) (a b : List ℕ) → x ∷ a ≡ x ∷ b → a ≡ b
rest_of x a b e = cc

module _ (table classes : List ℕ) where
  mutual
    unfolding encode own byte_of list_code

    equal_bytes : (t u : Term) (bs cs : List ℕ) → same_term classes t u ≡ true → term_bytes table t bs ≡ term_bytes table u cs → (t ≡ u) × (bs ≡ cs)
    equal_bytes (node s ts) (node r us) bs cs h e =
        let a = and_true (eqb (class_of classes s) (class_of classes r)) (same_terms classes ts us) h in
        let z : s ≡ r = ap (λ (x : List ℕ). get_or x 0 0) e in
        let f : s ∷ cond (is_list table s) (number (term_trees ts) ∷ terms_bytes table ts bs) (terms_bytes table ts bs)
        ≡ s ∷ cond (is_list table s) (number (term_trees us) ∷ terms_bytes table us cs) (terms_bytes table us cs) =
        e ∙ ap (λ (x : ℕ). x ∷ cond (is_list table x) (number (term_trees us) ∷ terms_bytes table us cs) (terms_bytes table us cs)) (sym z) in
        let g = own_rest (is_list table s) (number (term_trees ts)) (number (term_trees us)) (terms_bytes table ts bs) (terms_bytes table us cs) (rest_of s _ _ f) in
        let b = equal_all ts us bs cs a.1 g in
        (ap₂ node z b.0, b.1)

    equal_all : (ts us : Terms) (bs cs : List ℕ) → same_terms classes ts us ≡ true → terms_bytes table ts bs ≡ terms_bytes table us cs → (ts ≡ us) × (bs ≡ cs)
    equal_all nil nil bs cs h e = (refl, e)
    equal_all nil (u :: us) bs cs h e = absurd (false≢true h)
    equal_all (t :: ts) nil bs cs h e = absurd (false≢true h)
    equal_all (t :: ts) (u :: us) bs cs h e =
        let a = and_true (same_term classes t u) (same_terms classes ts us) h in
        let x = equal_bytes t u (terms_bytes table ts bs) (terms_bytes table us cs) a.0 e in
        let y = equal_all ts us bs cs a.1 x.1 in
        (ap₂ ◌::◌ x.0 y.0, y.1)

module _ (l : Language) (k : Alike l.table l.classes) (p : Pattern) (t : Term) (of : TermOf l t) where
  -- two first answers that are shown agree
  pub shown_agree : (x y : Assignment) → FirstShown l p t x → FirstShown l p t y → (v : ℕ) → among v (free p) ≡ true → x v ≡ y v
  shown_agree x y f g v m =
      let a = (parts_shown l k p t of).free_placed x f.first.satisfies v m in
      let b = (parts_shown l k p t of).free_placed y g.first.satisfies v m in
      let c = one_first l p t x y f.first g.first in
      let z : place l.table p t zero y v None ≡ Some a.0 = sym (place_one l k x y c v p t zero None None refl) ∙ a.2 in
      let s : same_terms l.classes a.1 b.1 ≡ true = one (x v) (y v) a.1 b.1 a.3 b.3 (c v) in
      let n : sizes l.table a.1 ≡ sizes l.table b.1 = same_sizes l.table l.classes k a.1 b.1 s in
      let e : terms_bytes l.table a.1 [] ≡ terms_bytes l.table b.1 [] =
      sym (f.first_place v a.0 a.1 m a.2 a.3) ∙ ap (λ (i : ℕ). take i (drop a.0 (term_bytes l.table t []))) n
      ∙ g.first_place v a.0 b.1 m z b.3 in
      a.3 ∙ ap Some (equal_all l.table l.classes a.1 b.1 [] [] s e).0 ∙ sym b.3
    where
      one : (o r : Option Terms) (w u : Terms) → o ≡ Some w → r ≡ Some u → OneAt l o r → same_terms l.classes w u ≡ true
      one None r w u e i h = absurd (none_is e)
      one (Some w') None w u e i h = absurd (none_is i)
      one (Some w') (Some u') w u e i h =
          subst (λ (y : Terms). same_terms l.classes y u ≡ true) (some_is e) (subst (λ (y : Terms). same_terms l.classes w' y ≡ true) (some_is i) h)

  module _ (q : Pattern) (rule : PatternAccepted l p) (template : PatternAccepted l q) (firm : loose (free p) q ≡ false) where
    had : (x : Assignment) → First l p t x → Assigns l (free p) x
    had x f = satisfies_assigns l p t x rule.fits f.satisfies

    pub one_result : (u w : Term) → Replaced l p q t u → Replaced l p q t w → u ≡ w
    one_result u w x y =
        let e : x.filled ≡ y.filled =
        sym (instance_only l (free p) x.answer y.answer (shown_agree x.answer y.answer x.shown y.shown) q x.filled firm x.holds)
        ∙ instance_only l (free p) y.answer y.answer (λ v m. refl) q y.filled firm y.holds in
        x.spliced ∙ ap (spliced_in l) e ∙ sym y.spliced

    pub instance_replaced : (x : Assignment) → FirstShown l p t x → Replaced l p q t (spliced_in l (instance q x))
    instance_replaced x f = record {
      answer = x;
      shown = f;
      filled = instance q x;
      holds = instance_holds l (free p) x (had x f.first) q 32 false template.fits firm;
      spliced = refl;
    }

    -- a result is of the language
    pub replaced_of : (u : Term) → Replaced l p q t u → TermOf l u
    replaced_of u x =
        subst (TermOf l) (sym x.spliced)
        (spliced_of l.table l.classes l.edition x.filled
        (result_over l (free p) x.answer (had x.answer x.shown.first) q x.filled 32 false template.fits firm x.holds))

    -- the rule's own record, where it is its own template
    pub own_template : Classed l → (u : Term) → q ≡ p → Replaced l p q t u → l ⊢ u ≈ t
    own_template c u e x =
        let h : l ⊢ x.filled ≈ t =
        same_up_to l (free p) x.answer p x.filled t (subst (λ (y : Pattern). loose (free p) y ≡ false) e firm)
        (subst (λ (y : Pattern). Holds (exactly l) (TermsOf l) y x.answer x.filled) e x.holds) x.shown.first.satisfies.holds in
        let s : u ≡ x.filled = x.spliced ∙ stays_spliced l.table l.classes l.edition x.filled (same_of l c x.filled t h of) in
        subst (λ (y : Term). l ⊢ y ≈ t) (sym s) h

-- what the search finds first is a first answer that is shown
module _ (l : Language) (rule bytes : List ℕ) (k : Alike l.table l.classes) (p : Pattern) (t : Term) (i : MatchInput l rule bytes p t) where
  found_bound : (o : Answers) (n : ℕ) (e : Env) → first_answer o ≡ Some e → answer_number (told (matching_of l.table o n)) ≡ 0
  found_bound (found f m o) n e h = refl
  found_bound failed n e h = absurd (none_is h)

  pub first_is_shown : (e : Env) → first_answer (whole l p t).out ≡ Some e → FirstShown l p t e.value
  first_is_shown e h =
      let n : count_of l p t ≤ count_of l p t = omega arith in
      let b : answer_number (told (answer l p t (count_of l p t))) ≡ 0 =
      ap (λ o. answer_number (told o)) (answer_within l p t (count_of l p t) n) ∙ found_bound (whole l p t).out (count_of l p t) e h in
      let buffer : List ℕ = written (bound_parts (answer l p t (count_of l p t))) [] in
      let s = first_shown (bringing l.edition l.table l.classes) rule bytes k p t i (count_of l p t) [] b in
      subst (λ (f : Env). FirstShown l p t f.value) (some_is (sym s.1 ∙ h))
      (record {
        first = (search_decides l k p t (accepted_of l t i.record_accepted)).found_first s.0 s.1;
        first_place = λ v at w m z y.
            let o : at ≡ offset_in buffer v = some_is (sym z ∙ s.2.first_place v m) in
            let j : sizes l.table w ≡ length_in buffer v = sym (terms_sizes l.table w) ∙ sym (s.2.value_length v w m y) in
            ap₂ (λ (c d : ℕ). take c (drop d (term_bytes l.table t []))) j o
            ∙ ap (λ (bs : List ℕ). take (length_in buffer v) (drop (offset_in buffer v) bs)) i.record_bytes ∙ s.2.value_bytes v w m y;
      })
