-- What stands in a list, and lists within lists.
use Rattle.std.proofs.Common.{List, [], ◌∷◌, ◌++◌, refl, sym, subst, inl, inr, append_assoc}
use Rattle.list_laws.specs.Each.{Each}
use Rattle.list_laws.specs.Places.{IsIn}

module _ {X : Type 0} where
  pub each_in : (P : X → Type 0) (xs : List X) (x : X) → Each P xs → IsIn x xs → P x
  each_in P [] x h i = absurd i
  each_in P (y ∷ ys) x h i = elim i [
    | inl e ↦ subst P (sym e) h.0
    | inr r ↦ each_in P ys x h.1 r
  ]

  pub in_each : (P : X → Type 0) (xs : List X) → ((x : X) → IsIn x xs → P x) → Each P xs
  in_each P [] f = tt
  in_each P (y ∷ ys) f = (f y (inl refl), in_each P ys (λ x i. f x (inr i)))

  -- each item of a list stands in another
  abbrev pub Within : List X → List X → Type 0
  Within xs ys = (x : X) → IsIn x xs → IsIn x ys

  pub within_left : (xs ys : List X) → Within xs (xs ++ ys)
  within_left [] ys x i = absurd i
  within_left (z ∷ zs) ys x i = elim i [
    | inl e ↦ inl e
    | inr r ↦ inr (within_left zs ys x r)
  ]

  pub within_right : (xs ys : List X) → Within ys (xs ++ ys)
  within_right [] ys x i = i
  within_right (z ∷ zs) ys x i = inr (within_right zs ys x i)

  pub within_both : (xs ys zs : List X) → Within xs zs → Within ys zs → Within (xs ++ ys) zs
  within_both [] ys zs f g x i = g x i
  within_both (w ∷ ws) ys zs f g x i = elim i [
    | inl e ↦ f x (inl e)
    | inr r ↦ within_both ws ys zs (λ v j. f v (inr j)) g x r
  ]

  -- what stands in the ends stands in the whole
  pub within_ends : (xs ys zs : List X) → Within (xs ++ zs) ((xs ++ ys) ++ zs)
  within_ends xs ys zs = within_both xs zs ((xs ++ ys) ++ zs) (λ x i. within_left (xs ++ ys) zs x (within_left xs ys x i)) (within_right (xs ++ ys) zs)

  pub within_rest : (xs ys zs : List X) → Within (ys ++ zs) ((xs ++ ys) ++ zs)
  within_rest xs ys zs x i = subst (IsIn x) (sym (append_assoc xs ys zs)) (within_right xs (ys ++ zs) x i)
