-- Lists of which an element moved ahead, and the numbers that their elements have then.
use Rattle.std.proofs.Common.{◌≡◌, ◌<◌, ◌≤◌, ◌+◌, ◌||◌, ℕ, zero, suc, Bool, true, false, List, [], ◌∷◌, ◌++◌, map, cond, length, Some, None, slice_get, slice_index_or, refl, sym, ap, ◌∙◌, subst, arith, nat_eq, nat_lt}
use Rattle.std.specs.List.{insert, remove}
use Rattle.std.proofs.lemmas.Bool.Decides.{nat_tests}
use Rattle.std.proofs.lemmas.Option.{same_Some}
use Rattle.kl_outcome.specs.Outcome.{Name}
use Rattle.kl_sqlserve.specs.Reordering.{moved_number, moved_to}
use Rattle.kl_sqlserve.proofs.Shuffles.{Shuffle, empty, under, flip, onward, same}

-- the numbers where the first two change places
abbrev pub turned : ℕ → ℕ
turned zero = 1
turned (suc zero) = 0
turned (suc (suc i)) = suc (suc i)

-- the numbers behind a first element that stays
abbrev pub lifted : (ℕ → ℕ) → ℕ → ℕ
lifted f zero = 0
lifted f (suc i) = suc (f i)

-- where one element moves ahead, from a place to the front, or to another
abbrev to_front : ℕ → ℕ → ℕ
to_front zero i = i
to_front (suc k) i = turned (lifted (to_front k) i)

abbrev ahead : ℕ → ℕ → ℕ → ℕ
ahead zero from i = to_front from i
ahead (suc to) zero i = i
ahead (suc to) (suc from) i = lifted (ahead to from) i

-- the first list is the second in another order: what has the number i there has the number f i here
pub data Moved {A : Type 0} : (ℕ → ℕ) → List A → List A → Type 0 where
  stays : (xs : List A) → Moved (λ i. i) xs xs
  turns : (x y : A) (xs : List A) → Moved turned (y ∷ x ∷ xs) (x ∷ y ∷ xs)
  lifts : {f : ℕ → ℕ} {ys xs : List A} (x : A) → Moved f ys xs → Moved (lifted f) (x ∷ ys) (x ∷ xs)
  onto : {f g : ℕ → ℕ} {zs ys xs : List A} → Moved f ys xs → Moved g zs ys → Moved (λ i. g (f i)) zs xs

module _ {A : Type 0} where
  pub found_there : {f : ℕ → ℕ} {ys xs : List A} → Moved f ys xs → (i : ℕ) → slice_get ys (f i) ≡ slice_get xs i
  found_there (stays xs) i = refl
  found_there (turns x y xs) zero = refl
  found_there (turns x y xs) (suc zero) = refl
  found_there (turns x y xs) (suc (suc i)) = refl
  found_there (lifts x m) zero = refl
  found_there (lifts x m) (suc i) = found_there m i
  found_there (onto {f = f} m n) i = found_there n (f i) ∙ found_there m i

  pub shuffled : {f : ℕ → ℕ} {ys xs : List A} → Moved f ys xs → Shuffle xs ys
  shuffled (stays xs) = same xs
  shuffled (turns x y xs) = flip x y xs
  shuffled (lifts x m) = under x (shuffled m)
  shuffled (onto m n) = onward (shuffled m) (shuffled n)

  fronted : (k : ℕ) (xs : List A) (x : A) → slice_get xs k ≡ Some x → Moved (to_front k) (x ∷ remove xs k) xs
  fronted zero [] x is = absurd (let h : None ≡ Some x = is in cc)
  fronted zero (y ∷ xs) x is = subst (λ z. Moved (λ i. i) (z ∷ xs) (y ∷ xs)) (same_Some y x is) (stays (y ∷ xs))
  fronted (suc k) [] x is = absurd (let h : None ≡ Some x = is in cc)
  fronted (suc k) (y ∷ xs) x is = onto (lifts y (fronted k xs x is)) (turns y x (remove xs k))

  moved : (to from : ℕ) (xs : List A) (x : A) → to ≤ from → slice_get xs from ≡ Some x → Moved (ahead to from) (insert (remove xs from) to x) xs
  moved zero from xs x le is = fronted from xs x is
  moved (suc to) zero xs x le is = absurd (omega (arith, le))
  moved (suc to) (suc from) [] x le is = absurd (let h : None ≡ Some x = is in cc)
  moved (suc to) (suc from) (y ∷ xs) x le is = lifts y (moved to from xs x (omega (arith, le)) is)

pub over : {A B : Type 0} (g : A → B) {f : ℕ → ℕ} {ys xs : List A} → Moved f ys xs → Moved f (map g ys) (map g xs)
over g (stays xs) = stays (map g xs)
over g (turns x y xs) = turns (g x) (g y) (map g xs)
over g (lifts x m) = lifts (g x) (over g m)
over g (onto m n) = onto (over g m) (over g n)

-- ---- the numbers as they are told

record Fronts (k i : ℕ) (n : ℕ) : Type 0 where
  first : i ≡ k → n ≡ 0
  before : i < k → n ≡ suc i
  after : k < i → n ≡ i

turned_two : (n : ℕ) → 1 < n → turned n ≡ n
turned_two zero lt = absurd (omega (arith, lt))
turned_two (suc zero) lt = absurd (omega (arith, lt))
turned_two (suc (suc n)) lt = refl

fronts : (k i : ℕ) → Fronts k i (to_front k i)
fronts zero i = record { first = λ e. e; before = λ lt. absurd (omega (arith, lt)); after = λ lt. refl }
fronts (suc k) zero = record { first = λ e. absurd (omega (arith, e)); before = λ lt. refl; after = λ lt. absurd (omega (arith, lt)) }
fronts (suc k) (suc i) =
    let more = fronts k i in
    record {
      first = λ e. ap (λ n. turned (suc n)) (more.first (omega (arith, e)));
      before = λ lt. let is = more.before (omega (arith, lt)) in turned_two (suc (to_front k i)) (omega (arith, is)) ∙ ap suc is;
      after = λ lt. let is = more.after (omega (arith, lt)) in turned_two (suc (to_front k i)) (omega (arith, is, lt)) ∙ ap suc is;
    }

record Goes (to from i : ℕ) (n : ℕ) : Type 0 where
  first : i ≡ from → n ≡ to
  before : i < to → n ≡ i
  between : to ≤ i → i < from → n ≡ suc i
  after : from < i → n ≡ i

goes : (to from i : ℕ) → to ≤ from → Goes to from i (ahead to from i)
goes zero from i le =
    let is = fronts from i in
    record { first = is.first; before = λ lt. absurd (omega (arith, lt)); between = λ le lt. is.before lt; after = is.after }
goes (suc to) zero i le = absurd (omega (arith, le))
goes (suc to) (suc from) zero le = record {
  first = λ e. absurd (omega (arith, e));
  before = λ lt. refl;
  between = λ le lt. absurd (omega (arith, le));
  after = λ lt. absurd (omega (arith, lt));
}
goes (suc to) (suc from) (suc i) le =
    let more = goes to from i (omega (arith, le)) in
    record {
      first = λ e. ap suc (more.first (omega (arith, e)));
      before = λ lt. ap suc (more.before (omega (arith, lt)));
      between = λ at lt. ap suc (more.between (omega (arith, at)) (omega (arith, lt)));
      after = λ lt. ap suc (more.after (omega (arith, lt)));
    }

number_is : (to from i : ℕ) → to ≤ from → ahead to from i ≡ moved_number from to i
number_is to from i le = by (nat_eq i from) (nat_lt i to) (nat_lt from i) refl refl refl
  where
    is : Goes to from i (ahead to from i)
    is = goes to from i le

    by : (a b c : Bool) → nat_eq i from ≡ a → nat_lt i to ≡ b → nat_lt from i ≡ c → ahead to from i ≡ cond a to (cond (b || c) i (i + 1))
    by true b c e f g = is.first (grind (arith, nat_tests))
    by false true c e f g = is.before (grind (arith, nat_tests))
    by false false true e f g = is.after (grind (arith, nat_tests))
    by false false false e f g =
        let here : to ≤ i = grind (arith, nat_tests) in
        let lower : i < from = grind (arith, nat_tests) in
        is.between here lower ∙ omega arith

get_is : (xs : List Name) (i : ℕ) (d : Name) → i < length xs → slice_get xs i ≡ Some (slice_index_or xs i d)
get_is [] i d lt = absurd (omega (arith, lt))
get_is (x ∷ xs) zero d lt = refl
get_is (x ∷ xs) (suc i) d lt = get_is xs i d (omega (arith, lt))

pub moved_ahead : (from to : ℕ) (names : List Name) → to ≤ from → from < length names → Moved (moved_number from to) (moved_to from to names) names
moved_ahead from to names le lt =
    subst (λ (f : ℕ → ℕ). Moved f (moved_to from to names) names) (λ k i. number_is to from i le k) (moved to from names (slice_index_or names from []) le (get_is names from [] lt))
