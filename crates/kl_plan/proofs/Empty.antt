-- Two lists, one behind the other, are empty where both are.
use Rattle.std.proofs.Common.{◌≡◌, List, [], ◌∷◌, ◌++◌, refl, ap, ◌∙◌}

module _ {X : Type 0} where
  pub none_first : (xs ys : List X) → (xs ++ ys) ≡ [] → xs ≡ []
  none_first [] ys h = refl
  none_first (x ∷ xs) ys h = cc

  pub none_behind : (xs ys : List X) → (xs ++ ys) ≡ [] → ys ≡ []
  none_behind [] ys h = h
  none_behind (x ∷ xs) ys h = cc

  pub none_both : (xs ys : List X) → xs ≡ [] → ys ≡ [] → (xs ++ ys) ≡ []
  none_both xs ys h g = ap (λ zs. zs ++ ys) h ∙ g
