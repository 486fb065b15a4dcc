-- Lists that are lent, changed in place and put back.
use Rattle.std.proofs.Common.{◌≡◌, ℕ, suc, ◌+◌, ◌<◌, ◌≤◌, ◌≢◌, List, [], ◌∷◌, ◌++◌, length, take, drop, get_or, refl, sym, ap, subst, ◌∙◌}
use Rattle.std.proofs.Common.{arith, add-one, append-nil}
use Rattle.std.proofs.Math.ListN.{set}
use Rattle.std.proofs.Math.Seq.{take-suc, take-suc-set}
use Rattle.std.proofs.lemmas.List.{length-set, get_or-set_other, get_or_default, take_all, drop_all}

abbrev pub onto : {A T : Type 0} → (A → T → T) → List A → T → T
onto front [] t = t
onto front (x ∷ xs) t = front x (onto front xs t)

-- a front that became another, whatever follows
abbrev pub Fronts : {A T : Type 0} → (A → T → T) → (T → T → Type 0) → List A → List A → Type 0
Fronts {A} {T} front R xs ys = (p q : T) → R p q → R (onto front xs p) (onto front ys q)

pub unvisited_more : {A : Type 0} (xs ys : List A) (i : ℕ) (y : A)
    → (length ys ≡ length xs) × ((k : ℕ) (d : A) → i ≤ k → get_or ys k d ≡ get_or xs k d)
    → (length (set ys i y) ≡ length xs) × ((k : ℕ) (d : A) → i + 1 ≤ k → get_or (set ys i y) k d ≡ get_or xs k d)
unvisited_more xs ys i y h = (
  length-set ys i y ∙ h.0,
  λ k d le. let ne : k ≢ i = omega arith in let at : i ≤ k = omega arith in
      get_or-set_other ys i k y d ne ∙ h.1 k d at,
)

pub unvisited_item : {A : Type 0} (xs ys : List A) (i : ℕ) (d : A) → i < length xs
    → (length ys ≡ length xs) × ((k : ℕ) (d : A) → i ≤ k → get_or ys k d ≡ get_or xs k d) → get_or ys i d ≡ get_or xs i (get_or ys i d)
unvisited_item xs ys i d lt h =
    let le : i ≤ i = omega arith in
    h.1 i d le ∙ get_or_default xs i d (get_or ys i d) lt

pub put_back : {A : Type 0} (xs ys : List A) → length ys ≡ length xs → take (length xs) (ys ++ drop (length ys) xs) ≡ ys
put_back xs ys long =
    let none : drop (length ys) xs ≡ [] = ap (λ n. drop n xs) long ∙ drop_all (length xs) xs (omega arith) in
    rw (none, append-nil) (take_all (length xs) ys (omega arith))

module _ {A T : Type 0} (front : A → T → T) (R : T → T → Type 0) where
  onto_more : (xs : List A) (x : A) (t : T) → onto front (xs ++ x ∷ []) t ≡ onto front xs (front x t)
  onto_more [] x t = refl
  onto_more (y ∷ xs) x t = ap (front y) (onto_more xs x t)

  more : (xs ys : List A) (x y : A) → Fronts front R xs ys → ((p q : T) → R p q → R (front x p) (front y q))
      → Fronts front R (xs ++ x ∷ []) (ys ++ y ∷ [])
  more xs ys x y h k = λ p q r. rw (onto_more xs x p, onto_more ys y q) (h (front x p) (front y q) (k p q r))

  -- one element more
  pub item : (xs ys : List A) (i : ℕ) (x y : A) → i < length xs → length ys ≡ length xs → x ≡ get_or xs i x
      → Fronts front R (take i xs) (take i ys)
      → ((p q : T) → R p q → R (front x p) (front y q)) → Fronts front R (take (i + 1) xs) (take (i + 1) (set ys i y))
  item xs ys i x y lt long at h k =
      let less : i < length ys = omega arith in
      let before : take (suc i) xs ≡ take i xs ++ x ∷ [] = take-suc xs i x lt ∙ ap (λ z. take i xs ++ z ∷ []) (sym at) in
      let after : take (suc i) (set ys i y) ≡ take i ys ++ y ∷ [] = take-suc-set ys i y less in
      rw (add-one, before, after) (more (take i xs) (take i ys) x y h k)

  -- all of them, put back
  pub whole : (all xs ys : List A) (i : ℕ) → xs ≡ all → length xs ≤ i → length ys ≡ length xs → Fronts front R (take i xs) (take i ys)
      → Fronts front R all (take (length all) (ys ++ drop (length ys) all))
  whole all xs ys i same le long h =
      let less : length ys ≤ i = omega arith in
      let ended : Fronts front R xs ys = subst (λ (zs : List A). Fronts front R xs zs) (take_all i ys less)
      (subst (λ (zs : List A). Fronts front R zs (take i ys)) (take_all i xs le) h) in
      rw (put_back all ys (long ∙ ap length same), ← same) ended
