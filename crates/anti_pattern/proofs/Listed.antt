-- Laws of lists whose members keep a condition, in order.
use mathlib.Core.Path.{subst}
use mathlib.Core.Logic.{◌⊎◌, inl, inr}
use mathlib.Core.List.{List, [], ◌∷◌, ◌++◌}
use Rattle.anti_pattern.specs.Order.{All, Member, Ascending}

module _ {A : Type 0} where
  pub all_map : (P Q : A → Type 0) → ((x : A) → P x → Q x) → (xs : List A) → All P xs → All Q xs
  all_map P Q f [] p = tt
  all_map P Q f (x ∷ xs) p = (f x p.0, all_map P Q f xs p.1)

  pub all_join : (P : A → Type 0) (xs ys : List A) → All P xs → All P ys → All P (xs ++ ys)
  all_join P [] ys p q = q
  all_join P (x ∷ xs) ys p q = (p.0, all_join P xs ys p.1 q)

  pub all_member : (P : A → Type 0) (xs : List A) (x : A) → All P xs → Member x xs → P x
  all_member P [] x p m = absurd m
  all_member P (y ∷ ys) x p (inl e) = subst P e p.0
  all_member P (y ∷ ys) x p (inr m) = all_member P ys x p.1 m

  pub member_left : (xs ys : List A) (x : A) → Member x xs → Member x (xs ++ ys)
  member_left [] ys x m = absurd m
  member_left (y ∷ xs) ys x (inl e) = inl e
  member_left (y ∷ xs) ys x (inr m) = inr (member_left xs ys x m)

  pub member_right : (xs ys : List A) (x : A) → Member x ys → Member x (xs ++ ys)
  member_right [] ys x m = m
  member_right (y ∷ xs) ys x m = inr (member_right xs ys x m)

  pub ascending_map : (P : A → Type 0) (R S : A → A → Type 0) → ((x y : A) → P x → P y → R x y → S x y)
      → (xs : List A) → All P xs → Ascending R xs → Ascending S xs
  ascending_map P R S f [] p r = tt
  ascending_map P R S f (x ∷ xs) p r = (both xs p.1 r.0, ascending_map P R S f xs p.1 r.1)
    where
      both : (ys : List A) → All P ys → All (R x) ys → All (S x) ys
      both [] q s = tt
      both (y ∷ ys) q s = (f x y p.0 q.0 s.0, both ys q.1 s.1)

  pub ascending_join : (P Q : A → Type 0) (R : A → A → Type 0) → ((x y : A) → P x → Q y → R x y)
      → (xs ys : List A) → All P xs → All Q ys → Ascending R xs → Ascending R ys → Ascending R (xs ++ ys)
  ascending_join P Q R f [] ys p q r s = s
  ascending_join P Q R f (x ∷ xs) ys p q r s =
      (all_join (R x) xs ys r.0 (all_map Q (R x) (λ y z. f x y p.0 z) ys q), ascending_join P Q R f xs ys p.1 q r.1 s)

  pub member_split : (xs ys : List A) (x : A) → Member x (xs ++ ys) → Member x xs ⊎ Member x ys
  member_split [] ys x m = inr m
  member_split (y ∷ xs) ys x (inl e) = inl (inl e)
  member_split (y ∷ xs) ys x (inr m) = go (member_split xs ys x m)
    where
      go : Member x xs ⊎ Member x ys → Member x (y ∷ xs) ⊎ Member x ys
      go (inl k) = inl (inr k)
      go (inr k) = inr k

  all_after : (P : A → Type 0) (xs ys : List A) → All P (xs ++ ys) → All P ys
  all_after P [] ys p = p
  all_after P (x ∷ xs) ys p = all_after P xs ys p.1

  -- what stands before one of an ascending list, and what after it
  pub ascending_before : (R : A → A → Type 0) (xs : List A) (x : A) (ys : List A) → Ascending R (xs ++ (x ∷ ys)) → All (λ y. R y x) xs
  ascending_before R [] x ys a = tt
  ascending_before R (y ∷ xs) x ys a = ((all_after (R y) xs (x ∷ ys) a.0).0, ascending_before R xs x ys a.1)

  pub ascending_after : (R : A → A → Type 0) (xs : List A) (x : A) (ys : List A) → Ascending R (xs ++ (x ∷ ys)) → Ascending R (x ∷ ys)
  ascending_after R [] x ys a = a
  ascending_after R (y ∷ xs) x ys a = ascending_after R xs x ys a.1
