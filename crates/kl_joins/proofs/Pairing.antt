-- Lists whose items are changed in place, one after the other.
use Rattle.std.proofs.Common.{◌≡◌, ℕ, suc, ◌+◌, ◌<◌, ◌≤◌, List, [], ◌∷◌, ◌++◌, length, take, drop, get_or, sym, ap, subst, ◌∙◌, arith, add-one}
use Rattle.std.specs.Bool.{⊤}
use Rattle.std.proofs.Math.ListN.{set}
use Rattle.std.proofs.Math.Seq.{take-suc, take-suc-set}
use Rattle.std.proofs.lemmas.List.{take_all}
use Rattle.kl_joins.proofs.Fronts.{put_back}

-- what each item becomes
module _ {A : Type 0} (R : A → A → Type 0) where
  abbrev pub Paired : List A → List A → Type 0
  Paired [] [] = ⊤
  Paired [] (y ∷ ys) = ⊥
  Paired (x ∷ xs) [] = ⊥
  Paired (x ∷ xs) (y ∷ ys) = R x y × Paired xs ys

  more_paired : (xs ys : List A) (x y : A) → Paired xs ys → R x y → Paired (xs ++ x ∷ []) (ys ++ y ∷ [])
  more_paired [] [] x y h r = (r, tt)
  more_paired [] (b ∷ ys) x y h r = absurd h
  more_paired (a ∷ xs) [] x y h r = absurd h
  more_paired (a ∷ xs) (b ∷ ys) x y h r = (h.0, more_paired xs ys x y h.1 r)

  pub item_paired : (xs ys : List A) (i : ℕ) (x y : A) → i < length xs → length ys ≡ length xs → x ≡ get_or xs i x → Paired (take i xs) (take i ys) → R x y
      → Paired (take (i + 1) xs) (take (i + 1) (set ys i y))
  item_paired xs ys i x y lt long at h r =
      let less : i < length ys = omega arith in
      let before : take (suc i) xs ≡ take i xs ++ x ∷ [] = take-suc xs i x lt ∙ ap (λ z. take i xs ++ z ∷ []) (sym at) in
      let after : take (suc i) (set ys i y) ≡ take i ys ++ y ∷ [] = take-suc-set ys i y less in
      rw (add-one, before, after) (more_paired (take i xs) (take i ys) x y h r)

  all_paired : (xs ys : List A) (i : ℕ) → length xs ≤ i → length ys ≡ length xs → Paired (take i xs) (take i ys) → Paired xs ys
  all_paired xs ys i le long h =
      let less : length ys ≤ i = omega arith in
      subst (λ (zs : List A). Paired xs zs) (take_all i ys less) (subst (λ (zs : List A). Paired zs (take i ys)) (take_all i xs le) h)

  -- a list that is lent, changed in place and put back
  pub list_paired : (all xs ys : List A) (i : ℕ) → xs ≡ all → length xs ≤ i → length ys ≡ length xs → Paired (take i xs) (take i ys) → Paired all (take (length all) (ys ++ drop (length ys) all))
  list_paired all xs ys i same le long h = rw (put_back all ys (long ∙ ap length same), ← same) (all_paired xs ys i le long h)
