-- A value with a smaller key is smaller, so a sort by key and then value sorts.
use Rattle.std.proofs.Common.{◌≡◌, ℕ, zero, suc, ◌+◌, ◌-◌, ◌*◌, ◌^◌, ◌<◌, ◌≤◌, ⊎_elim, ℤ, pos, negsuc, Bool, true, false, List, [], ◌∷◌, ◌++◌, map, take, length, get_or, drop, Option, Some, None, inl, inr, ◌⊎◌, refl, sym, ap, ap₂, subst, ◌∙◌, arith, Ordering, Less, Equal, Greater, is_lt, is_le, IsPermutation, IsSorted, add-one, drop-cons}
use Rattle.std.proofs.Math.Nat.{pow-suc, mul-le-mul_right, pow-le-pow_right}
use Rattle.std.specs.Cmp.{nat_cmp_is}
use Rattle.std.specs.Prelude.{FitsSigned}
use Rattle.std.specs.Int.{w64}
use Rattle.std.specs.Bool.{OnTrue}
use Rattle.std.specs.List.{All, AllByRecursion, IsAllAdjacentAnswer}
use Rattle.std.specs.Ordering.{nat_cmp, int_cmp, ordering_then, ordering_reverse}
use Rattle.std.specs.Cmp.Lexicographic.{slice_cmp}
use Rattle.std.proofs.lemmas.Bool.{cases_lt}
use Rattle.std.proofs.lemmas.Bool.Decides.{nat_tests}
use Rattle.std.proofs.lemmas.Cmp.{tied_itself, nat_list_cmp_total}
use Rattle.std.proofs.lemmas.List.{drop_all, get_or_past, get_or-map, length-map}
use Rattle.std.proofs.Math.Seq.{take-suc}
use Rattle.std.proofs.lemmas.List.Elements.{All-append, recursion_from_All, All-from_recursion}
use Rattle.std.proofs.lemmas.List.Sorted.{IsPermutation-map, IsPermutation-refl, All-permutation}
use Rattle.kl_base.specs.Fields.{bytes_cmp}
use Rattle.kl_base.specs.Sorted.{sorted}
use Rattle.kl_base.proofs.SortedLemmas.{sorted_is}
use Rattle.kl_value.specs.Keys.{front, counted, second_key, key_layer, key_of, lead_layer, lead_of, second_layer, first_label_layer, second_label_layer, HasKeyLayer, BeginsWith, BeginAlike}
use Rattle.kl_value.specs.Order.{order_layer, compare}
use Rattle.kl_value.specs.declared.value.Value.{Value, Value-F, out-Value, roll-Value, roll-out-Value}
use Rattle.kl_value.specs.contracts.value.ValueOrd.TheImpl as derived
use Rattle.kl_value.proofs.OrderLemmas.{compare-out, compare_total, compare_exact, derived_is}
use Rattle.kl_base.proofs.Orders.{not_above}

nat_less : (m n : ℕ) → m < n → nat_cmp m n ≡ Less
nat_less m n h = sym (nat_cmp_is m n Less h)

nat_greater : (m n : ℕ) → nat_cmp m n ≡ Greater → n < m
nat_greater m n h =
    ⊎_elim (λ below. absurd (let e = nat_less m n below in cc))
    (λ above. ⊎_elim (λ less. less) (λ other. absurd (let same : m ≡ n = omega arith in let e = nat_cmp_is m n Equal same in cc)) (cases_lt n m))
    (cases_lt m n)

-- ---- fronts of texts

pub front-nil : (n : ℕ) → front n [] ≡ 0
unfolding front
front-nil zero = refl
front-nil (suc n) = refl

pub front-cons : (n b : ℕ) (bs : List ℕ) → b < 256 → front (suc n) (b ∷ bs) ≡ b * 256 ^ n + front n bs
unfolding front
front-cons n b bs h = grind (arith, nat_tests)

front-far : (n b : ℕ) (bs : List ℕ) → 256 ≤ b → front (suc n) (b ∷ bs) ≡ 256 ^ suc n - 1
unfolding front
front-far n b bs h = grind (arith, nat_tests)

pub some_power : (n : ℕ) → 0 < 256 ^ n
some_power zero = omega arith
some_power (suc n) = omega (arith, pow-suc 256 n, some_power n)

pub front-less : (n : ℕ) (bs : List ℕ) → front n bs < 256 ^ n
unfolding front
front-less zero bs = omega arith
front-less (suc n) [] = some_power (suc n)
front-less (suc n) (b ∷ bs) =
    ⊎_elim
    (λ near. let most : b ≤ 255 = omega arith in omega (arith, front-cons n b bs near, front-less n bs, mul-le-mul_right (256 ^ n) most, pow-suc 256 n))
    (λ far. omega (arith, front-far n b bs far, some_power (suc n)))
    (cases_lt b 256)

spread : (x d p : ℕ) → (x * 256 + d) * p ≡ x * (p * 256) + d * p
spread x d p = omega arith

-- one more byte is read
pub front_turn : (bs : List ℕ) (i n number : ℕ) → get_or bs i 0 < 256
    → (number * 256 + get_or bs i 0) * 256 ^ n + front n (drop (i + 1) bs) ≡ number * 256 ^ suc n + front (suc n) (drop i bs)
front_turn bs i n number byte =
    ⊎_elim
    (λ within. (let here : front (suc n) (drop i bs) ≡ get_or bs i 0 * 256 ^ n + front n (drop (i + 1) bs) =
    ap (front (suc n)) (drop-cons bs i 0 within) ∙ (front-cons n (get_or bs i 0) (drop (suc i) bs) byte ∙ ap (λ k. get_or bs i 0 * 256 ^ n + front n (drop k bs)) (sym (add-one i))) in
    omega (arith, here, spread number (get_or bs i 0) (256 ^ n), ap (λ p. number * p) (pow-suc 256 n))))
    (λ past. (let none : get_or bs i 0 ≡ 0 = get_or_past bs i 0 past in
    let here : front (suc n) (drop i bs) ≡ 0 = ap (front (suc n)) (drop_all i bs past) ∙ front-nil (suc n) in
    let next : front n (drop (i + 1) bs) ≡ 0 = ap (front n) (drop_all (i + 1) bs (omega arith)) ∙ front-nil n in
    omega (arith, here, next, spread number (get_or bs i 0) (256 ^ n), ap (λ p. number * p) (pow-suc 256 n), ap (λ d. d * 256 ^ n) none)))
    (cases_lt i (length bs))

front_below : (n : ℕ) (s t : List ℕ) → front n s < front n t → bytes_cmp s t ≡ Less
unfolding front
front_below zero s t h = absurd (omega arith)
front_below (suc n) [] [] h = absurd (omega arith)
front_below (suc n) [] (c ∷ cs) h = refl
front_below (suc n) (b ∷ bs) [] h = absurd (omega (arith, h))
front_below (suc n) (b ∷ bs) (c ∷ cs) h =
    ⊎_elim (λ less. ap (λ o. ordering_then o (bytes_cmp bs cs)) (nat_less b c less))
    (λ most. ⊎_elim
    (λ more. absurd (front_fall n b c bs cs more h))
    (λ other. (let same : b ≡ c = omega arith in
    let rest : bytes_cmp bs cs ≡ Less = front_below n bs cs (front_rest n b c bs cs same h) in
    ap₂ ordering_then (sym (nat_cmp_is b c Equal same)) rest))
    (cases_lt c b))
    (cases_lt b c)
  where
    front_fall : (n b c : ℕ) (bs cs : List ℕ) → c < b → front (suc n) (b ∷ bs) < front (suc n) (c ∷ cs) → ⊥
    front_fall n b c bs cs more h =
        ⊎_elim
        (λ near. (let next : suc c ≤ b = omega arith in
        omega (arith, h, front-cons n b bs near, front-cons n c cs (omega arith), front-less n cs, mul-le-mul_right (256 ^ n) next)))
        (λ far. omega (arith, h, front-far n b bs far, front-less (suc n) (c ∷ cs), some_power (suc n)))
        (cases_lt b 256)

    front_rest : (n b c : ℕ) (bs cs : List ℕ) → b ≡ c → front (suc n) (b ∷ bs) < front (suc n) (c ∷ cs) → front n bs < front n cs
    front_rest n b c bs cs same h =
        ⊎_elim
        (λ near. omega (arith, h, front-cons n b bs near, front-cons n c cs (omega arith), ap (λ k. k * 256 ^ n) same))
        (λ far. absurd (omega (arith, h, front-far n b bs far, front-far n c cs (omega arith))))
        (cases_lt b 256)

pub low_power : (i n : ℕ) → i < n → n ≤ 15 → 256 ^ i ≤ 256 ^ 14
low_power i n low most = pow-le-pow_right (omega arith) {j = 14} (omega arith)

pub turn_room : (i number b : ℕ) → number < 256 ^ i → b < 256 → number * 256 + b < 256 ^ (i + 1)
turn_room i number b low byte = rw add-one (omega (arith, low, byte, pow-suc 256 i))

pub turn_value : (n : ℕ) (bs : List ℕ) (i number b : ℕ) → i < n → b ≡ get_or bs i 0 → b < 256 → number * 256 ^ (n - i) + front (n - i) (drop i bs) ≡ front n bs
    → (number * 256 + b) * 256 ^ (n - (i + 1)) + front (n - (i + 1)) (drop (i + 1) bs) ≡ front n bs
turn_value n bs i number b low same byte so_far =
    let left : n - i ≡ suc (n - (i + 1)) = omega arith in
    ap (λ d. (number * 256 + d) * 256 ^ (n - (i + 1)) + front (n - (i + 1)) (drop (i + 1) bs)) same
    ∙ (front_turn bs i (n - (i + 1)) number (subst (λ d. d < 256) same byte)
    ∙ subst (λ k. number * 256 ^ k + front k (drop i bs) ≡ front n bs) left so_far)

pub turn_end : (n : ℕ) (bs : List ℕ) (i number : ℕ) → n ≤ i → number * 256 ^ (n - i) + front (n - i) (drop i bs) ≡ front n bs → number ≡ front n bs
unfolding front
turn_end n bs i number past so_far =
    let left : n - i ≡ 0 = omega arith in
    let whole : number * 1 + 0 ≡ front n bs = subst (λ k. number * 256 ^ k + front k (drop i bs) ≡ front n bs) left so_far in
    omega (arith, whole)

-- ---- tests

pub OnTrue-from : (r : Bool) (P : Type 0) → (r ≡ true → P) → OnTrue r P
OnTrue-from true P h = h refl
OnTrue-from false P h = tt

pub rise_is : (vs : List Value) (r : Bool) → IsAllAdjacentAnswer (λ v w b. b ≡ is_le (derived.ghosts.cmp v w)) vs r → OnTrue r (IsSorted compare vs)
rise_is vs true h = λ k d low within. ap is_lt (compare_total.antisymm _ _) ∙ not_above _ (h k d within ∙ ap is_le (derived_is _ _))
rise_is vs false h = tt

pub all_and_next : {X : Type 0} (P : X → Type 0) (xs : List X) (i : ℕ) (x : X) → i < length xs → x ≡ get_or xs i x → All P (take i xs) → P x → All P (take (i + 1) xs)
all_and_next P xs i x within at all one =
    rw add-one
    (subst (All P) (ap (λ y. take i xs ++ y ∷ []) at ∙ sym (take-suc xs i x within))
    (All-append P (take i xs) (x ∷ []) all (All-from_recursion P (x ∷ []) (one, tt))))

pub rising_sorted : (vs : List Value) → IsSorted compare vs → vs ≡ sorted compare vs
rising_sorted vs up = sorted_is compare compare_total compare_exact vs vs (IsPermutation-refl vs) up

-- ---- keys

counted_below : (half : ℕ) (m n : ℤ) → counted half m < counted half n → int_cmp m n ≡ Less
counted_below half (pos m) (pos n) h = (let less : m < n = omega arith in grind (arith, nat_tests))
counted_below half (pos m) (negsuc n) h = absurd (omega arith)
counted_below half (negsuc m) (pos n) h = refl
counted_below half (negsuc m) (negsuc n) h = (let less : n < m = omega arith in grind (arith, nat_tests))

counted_room : (half : ℕ) (n : ℤ) → 0 < half → counted half n < 2 * half
counted_room half (pos n) some = omega arith
counted_room half (negsuc n) some = omega arith

counted_same : (m n : ℤ) → FitsSigned w64 m → FitsSigned w64 n → counted (2 ^ 63) m ≡ counted (2 ^ 63) n → m ≡ n
counted_same (pos m) (pos n) fm fn e = (let low = fm.sfits in let less = fn.sfits in ap (λ k. pos k) (omega arith))
counted_same (pos m) (negsuc n) fm fn e = (let low = fm.sfits in let less = fn.sfits in absurd (omega arith))
counted_same (negsuc m) (pos n) fm fn e = (let low = fm.sfits in let less = fn.sfits in absurd (omega arith))
counted_same (negsuc m) (negsuc n) fm fn e = (let low = fm.sfits in let less = fn.sfits in ap (λ k. negsuc k) (omega arith))

pub text_room : (t : List ℕ) → front 15 t < 2 ^ 120
text_room t = front-less 15 t

pub second_text_room : (t : List ℕ) → front 7 t < 2 ^ 56
second_text_room t = front-less 7 t

second_most : (y : Value-F Value) → second_key (Some y) ≤ 3 * 2 ^ 61
second_most (Value-F.Bool b) = omega arith
second_most (Value-F.Int n) = omega (arith, counted_room (2 ^ 60) n (omega arith))
second_most (Value-F.Text t) = omega (arith, second_text_room t)
second_most _ = omega arith

pub second_room : (y : Option (Value-F Value)) → second_key y < 2 ^ 63
second_room None = omega arith
second_room (Some y) = omega (arith, second_most y)

pub first_room : (n : ℤ) → counted (2 ^ 63) n < 2 ^ 64
first_room n = omega (arith, counted_room (2 ^ 63) n (omega arith))

second_below : (x y : Value-F Value) → second_key (Some x) < second_key (Some y) → order_layer compare x y ≡ Less
second_below (Value-F.Bool a) (Value-F.Bool b) h = absurd (omega arith)
second_below (Value-F.Bool a) y h = refl
second_below (Value-F.Int m) (Value-F.Bool b) h = absurd (omega arith)
second_below (Value-F.Int m) (Value-F.Int n) h = counted_below (2 ^ 60) m n (omega arith)
second_below (Value-F.Int m) y h = refl
second_below (Value-F.Text s) (Value-F.Bool b) h = absurd (omega arith)
second_below (Value-F.Text s) (Value-F.Int n) h = absurd (omega (arith, h, counted_room (2 ^ 60) n (omega arith)))
second_below (Value-F.Text s) (Value-F.Text t) h = front_below 7 s t (omega (arith, h))
second_below (Value-F.Text s) y h = refl
second_below x y h = absurd (omega (arith, h, second_most y))

-- What smaller keys tell of two values with a key: the first parts are in order, or they are the same and the second
-- parts have smaller keys.
abbrev Tells : (x y : Value-F Value) (second other : Option (Value-F Value)) → Type 0
Tells x y second other = (order_layer compare x y ≡ Less) ⊎ ((x ≡ y) × (second_key second < second_key other))

front_tells : (x y : Value-F Value) (second other : Option (Value-F Value)) → HasKeyLayer x → HasKeyLayer y → key_layer x second < key_layer y other → Tells x y second other
front_tells (Value-F.Int m) (Value-F.Int n) second other hx hy h =
    ⊎_elim (λ less. inl (counted_below (2 ^ 63) m n less))
    (λ most. (let same : counted (2 ^ 63) m ≡ counted (2 ^ 63) n = omega (arith, h, second_room other) in
    inr (ap (λ k. Value-F.Int k) (counted_same m n hx hy same), omega (arith, h, same))))
    (cases_lt (counted (2 ^ 63) m) (counted (2 ^ 63) n))
front_tells (Value-F.Int m) (Value-F.Text t) second other hx hy h = inl refl
front_tells (Value-F.Text s) (Value-F.Int n) second other hx hy h = absurd (omega (arith, h, first_room n, second_room other))
front_tells (Value-F.Text s) (Value-F.Text t) second other hx hy h = inl (front_below 15 s t (omega (arith, h)))
front_tells (Value-F.Int m) y second other hx hy h = absurd hy
front_tells (Value-F.Text s) y second other hx hy h = absurd hy
front_tells x y second other hx hy h = absurd hx

abbrev fields_cmp : List ℕ × Value → List ℕ × Value → Ordering
fields_cmp f g = ordering_then (bytes_cmp f.0 g.0) (compare f.1 g.1)

same_value : (a b : Value) → out-Value a ≡ out-Value b → compare a b ≡ Equal
same_value a b e = ap (compare a) (sym (sym (roll-out-Value a) ∙ (ap roll-Value e ∙ roll-out-Value b))) ∙ tied_itself compare_total a

field_below : (f g : List ℕ × Value) (fs gs : List (List ℕ × Value)) → f.0 ≡ g.0 → compare f.1 g.1 ≡ Less → slice_cmp fields_cmp (f ∷ fs) (g ∷ gs) ≡ Less
field_below f g fs gs label less =
    let tie : bytes_cmp f.0 g.0 ≡ Equal = ap (bytes_cmp f.0) (sym label) ∙ tied_itself nat_list_cmp_total f.0 in
    ap₂ (λ o p. ordering_then (ordering_then o p) (slice_cmp fields_cmp fs gs)) tie less

field_same : (f g : List ℕ × Value) (fs gs : List (List ℕ × Value)) → f.0 ≡ g.0 → out-Value f.1 ≡ out-Value g.1 → slice_cmp fields_cmp fs gs ≡ Less
    → slice_cmp fields_cmp (f ∷ fs) (g ∷ gs) ≡ Less
field_same f g fs gs label same less =
    let tie : bytes_cmp f.0 g.0 ≡ Equal = ap (bytes_cmp f.0) (sym label) ∙ tied_itself nat_list_cmp_total f.0 in
    ap₂ (λ o p. ordering_then (ordering_then o p) (slice_cmp fields_cmp fs gs)) tie (same_value f.1 g.1 same) ∙ less

same_some : (l m : List ℕ) → Some l ≡ Some m → l ≡ m
same_some l m e = cc

rest_below : (f g : List ℕ × Value) (fs gs : List (List ℕ × Value)) → second_label_layer (Value-F.Rec (f ∷ fs)) ≡ second_label_layer (Value-F.Rec (g ∷ gs))
    → second_key (second_layer (Value-F.Rec (f ∷ fs))) < second_key (second_layer (Value-F.Rec (g ∷ gs))) → slice_cmp fields_cmp fs gs ≡ Less
rest_below f g [] [] same h = absurd (omega (arith, h))
rest_below f g [] (j ∷ gs) same h = refl
rest_below f g (i ∷ fs) [] same h = absurd (omega (arith, h))
rest_below f g (i ∷ fs) (j ∷ gs) same h =
    field_below i j fs gs (same_some i.0 j.0 same) (compare-out i.1 j.1 ∙ second_below (out-Value i.1) (out-Value j.1) h)

-- of values that begin alike, one with a smaller key is smaller
layer_below : (v w : Value) (x y : Value-F Value) → out-Value v ≡ x → out-Value w ≡ y
    → first_label_layer x ≡ first_label_layer y → second_label_layer x ≡ second_label_layer y
    → Tells (out-Value (lead_layer v x)) (out-Value (lead_layer w y)) (second_layer x) (second_layer y)
    → order_layer compare x y ≡ Less
layer_below v w (Value-F.Rec (f ∷ fs)) (Value-F.Rec (g ∷ gs)) ex ey first second tells =
    let label : f.0 ≡ g.0 = same_some f.0 g.0 first in
    ⊎_elim
    (λ less. field_below f g fs gs label (compare-out f.1 g.1 ∙ less))
    (λ both. field_same f g fs gs label both.0 (rest_below f g fs gs second both.1))
    tells
layer_below v w (Value-F.Rec (f ∷ fs)) y ex ey first second tells = cc
layer_below v w x (Value-F.Rec (g ∷ gs)) ex ey first second tells = cc
layer_below v w x y ex ey first second tells =
    ⊎_elim
    (λ less. ap₂ (order_layer compare) (sym ex) (sym ey) ∙ less)
    (λ both. absurd (omega (arith, both.1)))
    tells

begin_below : (first second : Option (List ℕ)) (v w : Value) → BeginsWith first second v → BeginsWith first second w → key_of v < key_of w → compare v w ≡ Less
begin_below first second v w bv bw less =
    compare-out v w
    ∙ layer_below v w (out-Value v) (out-Value w) refl refl (bv.first_is ∙ sym bw.first_is) (bv.second_is ∙ sym bw.second_is)
    (front_tells (out-Value (lead_of v)) (out-Value (lead_of w)) (second_layer (out-Value v)) (second_layer (out-Value w)) bv.has_key bw.has_key less)

-- ---- sorts

abbrev pub keyed_as : Value → ℕ × Value
keyed_as v = (key_of v, v)

abbrev pair_cmp : ℕ × Value → ℕ × Value → Ordering
pair_cmp p q = ordering_then (nat_cmp p.0 q.0) (derived.ghosts.cmp p.1 q.1)

abbrev Keyed : Option (List ℕ) → Option (List ℕ) → ℕ × Value → Type 0
Keyed l m p = (p.0 ≡ key_of p.1) × BeginsWith l m p.1

all_keyed : (l m : Option (List ℕ)) (vs : List Value) → AllByRecursion (BeginsWith l m) vs → AllByRecursion (Keyed l m) (map keyed_as vs)
all_keyed l m [] all = tt
all_keyed l m (v ∷ vs) all = ((refl, all.0), all_keyed l m vs all.1)

values_of : (vs : List Value) → map (λ (p : ℕ × Value). p.1) (map keyed_as vs) ≡ vs
values_of [] = refl
values_of (v ∷ vs) = ap (λ ws. v ∷ ws) (values_of vs)

pair_less : (l m : Option (List ℕ)) (p q : ℕ × Value) → Keyed l m p → Keyed l m q → compare p.1 q.1 ≡ Less → pair_cmp p q ≡ Less
pair_less l m p q kp kq less = go (nat_cmp p.0 q.0) refl
  where
    go : (o : Ordering) → nat_cmp p.0 q.0 ≡ o → ordering_then o (derived.ghosts.cmp p.1 q.1) ≡ Less
    go Less e = refl
    go Equal e = derived_is p.1 q.1 ∙ less
    go Greater e =
        let turned : key_of q.1 < key_of p.1 = subst (λ a. a < key_of p.1) kq.0 (subst (λ a. q.0 < a) kp.0 (nat_greater p.0 q.0 e)) in
        let back : compare q.1 p.1 ≡ Less = begin_below l m q.1 p.1 kq.1 kp.1 turned in
        absurd (let e = compare_total.antisymm p.1 q.1 in let f = ap ordering_reverse back in cc)

not_less : (l m : Option (List ℕ)) (p q : ℕ × Value) → Keyed l m p → Keyed l m q → is_lt (pair_cmp p q) ≡ false → is_lt (compare p.1 q.1) ≡ false
not_less l m p q kp kq h = go (compare p.1 q.1) refl
  where
    go : (o : Ordering) → compare p.1 q.1 ≡ o → is_lt o ≡ false
    go Less e = sym (ap is_lt (pair_less l m p q kp kq e)) ∙ h
    go Equal e = refl
    go Greater e = refl

sorted_values_of : (l m : Option (List ℕ)) (ps : List (ℕ × Value)) → All (Keyed l m) ps → IsSorted pair_cmp ps → IsSorted compare (map (λ p. p.1) ps)
sorted_values_of l m ps all up k d low within =
    let pair : ℕ × Value = keyed_as d in
    let within_pairs : k + 1 < length ps = omega (arith, within, length-map ps (λ (p : ℕ × Value). p.1)) in
    let second : get_or (map (λ (p : ℕ × Value). p.1) ps) (k + 1) d ≡ (get_or ps (k + 1) pair).1 = get_or-map (λ (p : ℕ × Value). p.1) ps (k + 1) pair d within_pairs in
    let first : get_or (map (λ (p : ℕ × Value). p.1) ps) k d ≡ (get_or ps k pair).1 = get_or-map (λ (p : ℕ × Value). p.1) ps k pair d (omega arith) in
    ap₂ (λ v w. is_lt (compare v w)) second first
    ∙ not_less l m _ _ (all (k + 1) pair within_pairs) (all k pair (omega arith)) (up k pair low within_pairs)

-- what a sort of the pairs of key and value leaves
pub sorted_by_keys : (vs : List Value) (qs ps : List (ℕ × Value)) → BeginAlike vs → qs ≡ map keyed_as vs → IsPermutation qs ps → IsSorted pair_cmp ps
    → map (λ p. p.1) ps ≡ sorted compare vs
sorted_by_keys vs qs ps alike same sorts up =
    let moved : IsPermutation (map keyed_as vs) ps = subst (λ rs. IsPermutation rs ps) same sorts in
    let all : All (Keyed alike.0 alike.1) (map keyed_as vs) =
    All-from_recursion (Keyed alike.0 alike.1) (map keyed_as vs)
    (all_keyed alike.0 alike.1 vs (recursion_from_All (BeginsWith alike.0 alike.1) vs alike.2)) in
    sorted_is compare compare_total compare_exact vs (map (λ p. p.1) ps)
    (subst (λ ws. IsPermutation ws (map (λ (p : ℕ × Value). p.1) ps)) (values_of vs) (IsPermutation-map (λ (p : ℕ × Value). p.1) (map keyed_as vs) ps moved))
    (sorted_values_of alike.0 alike.1 ps (All-permutation (Keyed alike.0 alike.1) (map keyed_as vs) ps moved all) up)
