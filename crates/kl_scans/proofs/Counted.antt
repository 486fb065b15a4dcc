-- The count of starts, and what is not counted.
use Rattle.std.proofs.Common.{◌≡◌, ◌≢◌, ⊎_elim, ℕ, ◌<◌, ◌≤◌, true, false, List, [], ◌++◌, length, map, set, get_or, take, drop, Option, Some, None, cond, nat_eq, slice_get, refl, sym, ap, ◌∙◌, subst, arith, append-nil}
use Rattle.std.proofs.lemmas.Bool.{cases_eq, eq-eqb, false_from_ne_true, eqb-true}
use Rattle.std.proofs.lemmas.List.{map-set, set-get_or, length-set, get_or_default, take_all, drop_all}
use Rattle.std.proofs.lemmas.Option.{slice_get_read, slice_get_past}
use Rattle.std.specs.Option.{option_map}
use Rattle.kl_base.proofs.Places.{get-set_other, get-set_same}
use Rattle.kl_ask.specs.Asked.{raised_by}
use Rattle.kl_scans.specs.Log.{CountsStart}

pub eq_self : (n : ℕ) → nat_eq n n ≡ true
eq_self n = eq-eqb n n refl

pub eq_other : (m n : ℕ) → m ≢ n → nat_eq m n ≡ false
eq_other m n ne = false_from_ne_true (nat_eq m n) (λ e. ne (eqb-true m n e))

pub put_back : {A : Type 0} (xs ys : List A) → length ys ≡ length xs → take (length xs) (ys ++ drop (length ys) xs) ≡ ys
put_back xs ys long =
    let none : drop (length ys) xs ≡ [] = ap (λ n. drop n xs) long ∙ drop_all (length xs) xs (omega arith) in
    rw (none, append-nil) (take_all (length xs) ys (omega arith))

untouched : (number n : ℕ) → number ≢ n → (o : Option ℕ) → o ≡ option_map (λ times. cond (nat_eq number n) (raised_by 1 times) times) o
untouched number n ne (Some t) = rw (eq_other number n ne) refl
untouched number n ne None = refl

module _ (number : ℕ) (xs : List (ℕ × ℕ)) (m : ℕ) (lt : number < length xs) (is : m ≡ raised_by 1 (get_or xs number (0, 0)).1) where
  abbrev entry : ℕ × ℕ
  entry = get_or xs number (0, 0)

  abbrev after : List (ℕ × ℕ)
  after = set xs number (entry.0, m)

  there : slice_get xs number ≡ Some entry
  there = slice_get_read xs (length xs) number entry refl lt (get_or_default xs number (0, 0) entry lt)

  at_place : option_map (λ e. e.1) (slice_get after number) ≡ option_map (λ times. cond (nat_eq number number) (raised_by 1 times) times) (option_map (λ e. e.1) (slice_get xs number))
  at_place = rw (get-set_same xs number (entry.0, m) lt, there, eq_self number) (ap Some is)

  counts : CountsStart number xs after
  counts = record {
    times = λ n. ⊎_elim
        (λ e. subst (λ i. option_map (λ e. e.1) (slice_get after i) ≡ option_map (λ times. cond (nat_eq number i) (raised_by 1 times) times) (option_map (λ e. e.1) (slice_get xs i))) (sym e) at_place)
        (λ ne. ap (option_map (λ e. e.1)) (get-set_other xs number n (entry.0, m) ne) ∙ untouched number n (λ e. ne (sym e)) (option_map (λ e. e.1) (slice_get xs n)))
        (cases_eq n number);
    numbers = map-set (λ e. e.0) xs number (entry.0, m) ∙ sym (map-set (λ e. e.0) xs number entry) ∙ ap (map (λ e. e.0)) (set-get_or xs number (0, 0));
  }

pub counted : (number : ℕ) (ss xs : List (ℕ × ℕ)) (m : ℕ) → xs ≡ ss → number < length xs → m ≡ raised_by 1 (get_or xs number (0, 0)).1
    → CountsStart number ss (take (length ss) (set xs number ((get_or xs number (0, 0)).0, m) ++ drop (length (set xs number ((get_or xs number (0, 0)).0, m))) ss))
counted number ss xs m same lt is =
    let ys : List (ℕ × ℕ) = set xs number ((get_or xs number (0, 0)).0, m) in
    let long : length ys ≡ length ss = length-set xs number ((get_or xs number (0, 0)).0, m) ∙ ap length same in
    subst (CountsStart number ss) (sym (put_back ss ys long)) (subst (λ z. CountsStart number z ys) same (counts number xs m lt is))

none_past : (number n : ℕ) (ss : List (ℕ × ℕ)) → length ss ≤ number → option_map (λ e. e.1) (slice_get ss n) ≡ option_map (λ times. cond (nat_eq number n) (raised_by 1 times) times) (option_map (λ e. e.1) (slice_get ss n))
none_past number n ss le = ⊎_elim
    (λ e. let none : slice_get ss n ≡ None = slice_get_past ss n (subst (λ i. length ss ≤ i) (sym e) le) in rw none refl)
    (λ ne. untouched number n (λ e. ne (sym e)) (option_map (λ e. e.1) (slice_get ss n)))
    (cases_eq n number)

pub uncounted : (number : ℕ) (ss xs : List (ℕ × ℕ)) → xs ≡ ss → length xs ≤ number → CountsStart number ss (take (length ss) (xs ++ drop (length xs) ss))
uncounted number ss xs same le =
    subst (CountsStart number ss) (sym (put_back ss xs (ap length same) ∙ same)) (record { times = λ n. none_past number n ss (subst (λ z. length z ≤ number) same le); numbers = refl })
