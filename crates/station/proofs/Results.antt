-- The result of an apply that is bound: the bytes of a term within a record's limits.
use Prim.Native.Nat.{ℕ, ◌+◌, ◌≤◌, ◌<◌}
use native.Mathlib.Omega.{arith}
use mathlib.Core.Path.{◌≡◌, refl, ap, ap₂, ◌∙◌}
use mathlib.Core.List.{List, []}
use mathlib.Core.Bool.{Bool, true, false, cond, ◌&&◌}
use lib.Dec.{ltb, leb}
use lib.ListN.{length, take, drop, length-replicate}
use lib.Seq.{take_at}
use borrow.Author.Tests.{leb-true}
use Rattle.answers.specs.Answers.{applied_length}
use Rattle.answers.specs.declared.Applied.{Applied}
use Rattle.answers.specs.declared.Applied.TheVariants.{Bound}
use Rattle.answers.specs.declared.Refusal.TheVariants.{Full, Outgrown}
use Rattle.term.specs.Limits.{longest_record}
use Rattle.term.specs.Pattern.{Pattern}
use Rattle.term.specs.Table.{is_list}
use Rattle.term.specs.Term.{Term, node, size, sizes, term_tree, term_bytes}
use Rattle.term.proofs.Sizes.{term_size, encode_append}
use Rattle.anti_pattern.specs.Language.{Language}
use Rattle.reader.specs.Brought.{Brought, language_of}
use Rattle.call.specs.Call.{answer_by}
use Rattle.call.specs.Verdict.{Verdict, passed, fault}
use Rattle.replace.specs.Call.{Replacement, result, nothing, spent, replacement, measured, unless_full, written, checked, refusal, apply_on, output_on, apply_of, output_of}
use Rattle.replace.specs.Growth.{within_limits, nests, narrow}
use Rattle.station.specs.Call.{applied_to, result_of, fresh}
use Rattle.station.proofs.Sound.{and_left}
use Rattle.std.specs.Prelude.{Result, Ok, Err}
use Rattle.answers.specs.declared.Refusal.{Refusal}

-- what is bound, with so much room
pub record Comes (table : List ℕ) (r : Replacement) (k : ℕ) : Type 0 where
  pub term : Term
  pub count : ℕ
  pub is : r ≡ result term count
  pub within : within_limits table term ≡ true
  pub long : k ≡ size table term

bound_comes : (table : List ℕ) (room : ℕ) (r : Replacement) (n k : ℕ) → unless_full room (measured table r) ≡ Ok (Bound n k) → Comes table r k
bound_comes table room (result u c) n k e = go (within_limits table u) refl e
  where
    go : (b : Bool) → within_limits table u ≡ b → unless_full room (cond b (Ok (Bound c (size table u))) (Err Outgrown)) ≡ Ok (Bound n k) → Comes table (result u c) k
    go true h e = roomy (ltb room (size table u)) e
      where
        roomy : (f : Bool) → cond f (Err Full) (Ok (Bound c (size table u))) ≡ Ok (Bound n k) → Comes table (result u c) k
        roomy true e = let z : ◌≡◌ {A = ℕ} 0 1 = cc in absurd (omega arith)
        roomy false e = record { term = u; count = c; is = refl; within = h; long = cc }
    go false h e = let z : ◌≡◌ {A = ℕ} 0 1 = cc in absurd (omega arith)
bound_comes table room (nothing c) n k e = let z : ◌≡◌ {A = ℕ} 0 1 = cc in absurd (omega arith)
bound_comes table room (spent c) n k e = let z : ◌≡◌ {A = ℕ} 0 1 = cc in absurd (omega arith)

take_term : (table : List ℕ) (u : Term) (bs : List ℕ) → take (size table u) (term_bytes table u bs) ≡ term_bytes table u []
take_term table u bs = ap (take (size table u)) (encode_append table (term_tree u) [] bs) ∙ take_at (term_bytes table u []) bs (size table u) (term_size table u)

size_some : (table : List ℕ) (u : Term) → 0 < size table u
unfolding size
size_some table (node s ts) = go (is_list table s)
  where
    go : (b : Bool) → 0 < cond b 2 1 + sizes table ts
    go true = omega arith
    go false = omega arith

within_short : (table : List ℕ) (u : Term) → within_limits table u ≡ true → size table u ≤ longest_record
unfolding within_limits
within_short table u h = leb-true (size table u) longest_record (and_left (leb (size table u) longest_record) (nests 32 u && narrow table u) h)

pub fresh_length : length fresh ≡ longest_record
unfolding fresh
fresh_length = length-replicate {A = ℕ} longest_record 0

module _ (brought : Brought) (rule template : List ℕ) (allowance : ℕ) (bytes : List ℕ) where
  -- the term whose bytes the result is
  pub record TheResult (k : ℕ) : Type 0 where
    pub term : Term
    pub within : within_limits brought.table term ≡ true
    pub long : k ≡ size brought.table term
    pub is : result_of brought rule template allowance bytes ≡ term_bytes brought.table term []

  module _ (n k : ℕ) (e : applied_to brought rule template allowance bytes ≡ Ok (Bound n k)) where
    abbrev Trees : Type 0
    Trees = (Pattern × Pattern) × Term

    abbrev l : Language
    l = language_of brought

    abbrev tells : ℕ → Trees → Result Applied Refusal
    tells room x = apply_on l x.0.0 x.0.1 x.1 allowance room

    abbrev leaves : Trees → List ℕ
    leaves x = output_on l x.0.0 x.0.1 x.1 allowance fresh

    wrote : (v : Verdict Trees) → answer_by refusal (tells longest_record) v ≡ Ok (Bound n k)
        → (u : Term) × (within_limits brought.table u ≡ true) × (k ≡ size brought.table u) × (answer_by (λ r i. fresh) leaves v ≡ term_bytes brought.table u (drop k fresh))
    wrote (fault r i) f = let z : ◌≡◌ {A = ℕ} 0 1 = cc in absurd (omega arith)
    wrote (passed x) f =
        let r = replacement l x.0.0 x.0.1 x.1 allowance in
        let b = bound_comes brought.table longest_record r n k f in
        let g : tells (length fresh) x ≡ Ok (Bound n k) = ap (λ (m : ℕ). tells m x) fresh_length ∙ f in
        (b.term, b.within, b.long, ap₂ (λ (y : Replacement) (a : Result Applied Refusal). written brought.table y a fresh) b.is g)

    pub the_result : TheResult k
    unfolding apply_of output_of result_of
    the_result =
        let w = wrote (checked brought rule template bytes) e in
        record {
          term = w.0;
          within = w.1;
          long = w.2;
          is = ap₂ (λ (a : Result Applied Refusal) (o : List ℕ). take (applied_length a) o) e w.3
              ∙ ap (λ (m : ℕ). take m (term_bytes brought.table w.0 (drop k fresh))) w.2 ∙ take_term brought.table w.0 (drop k fresh);
        }

    result_length : length (result_of brought rule template allowance bytes) ≡ size brought.table the_result.term
    result_length = ap length the_result.is ∙ term_size brought.table the_result.term

    pub result_some : 0 < length (result_of brought rule template allowance bytes)
    result_some = omega (arith, result_length, size_some brought.table the_result.term)

    pub result_short : length (result_of brought rule template allowance bytes) ≤ longest_record
    result_short = omega (arith, result_length, within_short brought.table the_result.term the_result.within)

-- the bytes of a term that L8 wrote, without what lies past them
pub written_term : (table : List ℕ) (u : Term) (n : ℕ) (after before : List ℕ) → n ≡ length (term_bytes table u [])
    → after ≡ term_bytes table u (drop (length (term_bytes table u [])) before) → take n after ≡ term_bytes table u []
written_term table u n after before e f =
    let k = length (term_bytes table u []) in
    ap₂ take e (f ∙ encode_append table (term_tree u) [] (drop k before)) ∙ take_at (term_bytes table u []) (drop k before) k refl
