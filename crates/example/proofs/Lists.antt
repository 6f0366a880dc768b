-- Lists whose elements all meet a condition, membership, and sorted lists.
use mathlib.Core.Path.{ap, subst}
use mathlib.Core.Logic.{◌⊎◌, inl, inr}
use mathlib.Core.List.{List, [], ◌∷◌, ◌++◌, map}
use Rattle.anti_pattern.specs.Order.{All, Member, Ascending}

module _ {A : Type 0} where
  pub all_map : (P Q : A → Type 0) (xs : List A) → ((x : A) → P x → Q x) → All P xs → All Q xs
  all_map P Q [] f h = tt
  all_map P Q (x ∷ xs) f h = (f x h.0, all_map P Q xs f h.1)

  pub all_join : (P : A → Type 0) (xs ys : List A) → All P xs → All P ys → All P (xs ++ ys)
  all_join P [] ys h k = k
  all_join P (x ∷ xs) ys h k = (h.0, all_join P xs ys h.1 k)

  pub all_in : (P : A → Type 0) (xs : List A) (x : A) → All P xs → Member x xs → P x
  all_in P [] x h i = absurd i
  all_in P (y ∷ ys) x h (inl e) = subst P e h.0
  all_in P (y ∷ ys) x h (inr i) = all_in P ys x h.1 i

  pub in_left : (x : A) (xs ys : List A) → Member x xs → Member x (xs ++ ys)
  in_left x [] ys i = absurd i
  in_left x (z ∷ zs) ys (inl e) = inl e
  in_left x (z ∷ zs) ys (inr i) = inr (in_left x zs ys i)

  pub in_right : (x : A) (xs ys : List A) → Member x ys → Member x (xs ++ ys)
  in_right x [] ys i = i
  in_right x (z ∷ zs) ys i = inr (in_right x zs ys i)

  pub in_split : (x : A) (xs ys : List A) → Member x (xs ++ ys) → Member x xs ⊎ Member x ys
  in_split x [] ys i = inr i
  in_split x (z ∷ zs) ys (inl e) = inl (inl e)
  in_split x (z ∷ zs) ys (inr i) = go (in_split x zs ys i)
    where
      go : Member x zs ⊎ Member x ys → Member x (z ∷ zs) ⊎ Member x ys
      go (inl j) = inl (inr j)
      go (inr j) = inr j

  pub sorted_join : (R : A → A → Type 0) (xs ys : List A) → Ascending R xs → Ascending R ys → All (λ x. All (R x) ys) xs → Ascending R (xs ++ ys)
  sorted_join R [] ys h k c = k
  sorted_join R (x ∷ xs) ys h k c = (all_join (R x) xs ys h.0 c.0, sorted_join R xs ys h.1 k c.1)

  pub sorted_map : (R S : A → A → Type 0) (P : A → Type 0) (xs : List A) → ((x y : A) → P x → P y → R x y → S x y) → All P xs → Ascending R xs → Ascending S xs
  sorted_map R S P [] f a h = tt
  sorted_map R S P (x ∷ xs) f a h = (go xs a.1 h.0, sorted_map R S P xs f a.1 h.1)
    where
      go : (ys : List A) → All P ys → All (R x) ys → All (S x) ys
      go [] b k = tt
      go (y ∷ ys) b k = (f x y a.0 b.0 k.0, go ys b.1 k.1)

  -- what comes after an element of a sorted list
  pub sorted_after : (R : A → A → Type 0) (xs : List A) (x : A) (ys : List A) → Ascending R (xs ++ (x ∷ ys)) → All (R x) ys
  sorted_after R [] x ys h = h.0
  sorted_after R (z ∷ zs) x ys h = sorted_after R zs x ys h.1

module _ {A B : Type 0} (f : A → B) where
  pub all_under : (P : B → Type 0) (xs : List A) → All (λ x. P (f x)) xs → All P (map f xs)
  all_under P [] h = tt
  all_under P (x ∷ xs) h = (h.0, all_under P xs h.1)

  pub in_under : (x : A) (xs : List A) → Member x xs → Member (f x) (map f xs)
  in_under x [] i = absurd i
  in_under x (y ∷ ys) (inl e) = inl (ap f e)
  in_under x (y ∷ ys) (inr i) = inr (in_under x ys i)

  pub sorted_under : (R : A → A → Type 0) (S : B → B → Type 0) → ((x y : A) → R x y → S (f x) (f y)) → (xs : List A) → Ascending R xs → Ascending S (map f xs)
  sorted_under R S k [] h = tt
  sorted_under R S k (x ∷ xs) h = (go xs h.0, sorted_under R S k xs h.1)
    where
      go : (ys : List A) → All (R x) ys → All (S (f x)) (map f ys)
      go [] a = tt
      go (y ∷ ys) a = (k x y a.0, go ys a.1)
