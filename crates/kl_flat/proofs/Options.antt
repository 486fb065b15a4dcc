-- Lists in which something may be missing.
use Rattle.std.proofs.Common.{◌≡◌, List, [], ◌∷◌, ◌++◌, Option, Some, None, refl, ap, sym, ◌∙◌}
use Rattle.std.specs.Option.{option_map}
use Rattle.kl_flat.specs.Table.{all_of}

module _ {A : Type 0} where
  pub all_of-none : (os : List (Option A)) (rest : List (Option A)) → all_of (os ++ None ∷ rest) ≡ None
  all_of-none [] rest = refl
  all_of-none (None ∷ os) rest = refl
  all_of-none (Some x ∷ os) rest = ap (option_map (λ xs. x ∷ xs)) (all_of-none os rest)

  pub all_of-more : (os : List (Option A)) (xs : List A) (x : A) → all_of os ≡ Some xs → all_of (os ++ Some x ∷ []) ≡ Some (xs ++ x ∷ [])
  all_of-more [] xs x e = let none : [] ≡ xs = cc in ap (λ ys. Some (ys ++ x ∷ [])) none
  all_of-more (None ∷ os) xs x e = cc
  all_of-more (Some y ∷ os) xs x e = by (all_of os) refl (λ ys is. all_of-more os ys x is)
    where
      by : (o : Option (List A)) → all_of os ≡ o → ((ys : List A) → all_of os ≡ Some ys → all_of (os ++ Some x ∷ []) ≡ Some (ys ++ x ∷ [])) → all_of (Some y ∷ os ++ Some x ∷ []) ≡ Some (xs ++ x ∷ [])
      by None is more = let bad : option_map (λ zs. y ∷ zs) None ≡ Some xs = ap (option_map (λ zs. y ∷ zs)) (sym is) ∙ e in cc
      by (Some ys) is more =
          let same : Some (y ∷ ys) ≡ Some xs = ap (option_map (λ zs. y ∷ zs)) (sym is) ∙ e in
          let whole : y ∷ ys ≡ xs = cc in
          ap (option_map (λ zs. y ∷ zs)) (more ys is) ∙ ap (λ zs. Some (zs ++ x ∷ [])) whole
