-- The steps of a join that goes table by table.
use Rattle.std.proofs.Common.{◌≡◌, ℕ, zero, suc, ◌+◌, ◌*◌, ◌<◌, ◌≤◌, Bool, true, false, not, ◌&&◌, List, [], ◌∷◌, ◌++◌, map, filter, length, slice_get, refl, sym, ap, ◌∙◌, append_assoc, append-nil, arith, nat_lt}
use Rattle.std.specs.List.{list_all, flat_map}
use Rattle.std.proofs.lemmas.Bool.{and_parts}
use Rattle.std.proofs.lemmas.Bool.Decides.{nat_tests}
use Rattle.std.proofs.lemmas.List.{map-append}
use Rattle.std.proofs.lemmas.List.Elements.{filter-append}
use Rattle.kl_value.specs.declared.Value.{Value}
use Rattle.kl_sqltext.specs.Meaning.{Tuple, tuples, tuple_passes, right_cell, cells_stand, cell_in}
use Rattle.kl_sqltext.specs.declared.ast.SqlTest.{SqlTest}
use Rattle.kl_sqltext.specs.declared.ast.SqlRight.{SqlRight}
use Rattle.kl_sqltext.specs.declared.ast.SqlRight.TheVariants as right
use Rattle.kl_sqlserve.specs.Joining.{rest, steps, steps_in, tuples_left, wanted, width}
use Rattle.kl_sqlserve.specs.Tests.{is_right_within, is_within, may_pass}
use Rattle.kl_sqlserve.specs.declared.chosen.Level.{Level}

-- ---- lists

pub map-map : {A B C : Type 0} (f : B → C) (g : A → B) (xs : List A) → map f (map g xs) ≡ map (λ x. f (g x)) xs
map-map f g [] = refl
map-map f g (x ∷ xs) = ap (λ z. f (g x) ∷ z) (map-map f g xs)

pub map-same : {A B : Type 0} (f g : A → B) → ((x : A) → f x ≡ g x) → (xs : List A) → map f xs ≡ map g xs
map-same f g h [] = refl
map-same f g h (x ∷ xs) = λ i. h x i ∷ map-same f g h xs i

-- ---- tests that are decided

gets : {A : Type 0} (front t : List A) (i : ℕ) → i < length front → slice_get (front ++ t) i ≡ slice_get front i
gets [] t i lt = absurd (omega (arith, lt))
gets (x ∷ front) t zero lt = refl
gets (x ∷ front) t (suc i) lt = gets front t i (omega (arith, lt))

below : (i n : ℕ) → nat_lt i n ≡ true → i < n
below i n e = grind (arith, nat_tests)

right_same : (front t : Tuple) (r : SqlRight) → is_right_within (length front) r ≡ true → right_cell (front ++ t) r ≡ right_cell front r
right_same front t (right.Col i l) e = ap (λ o. cell_in o l) (gets front t i (below i (length front) e))
right_same front t (right.Lit v) e = refl

pub decided : (front t : Tuple) (q : SqlTest) → is_within (length front) q ≡ true → tuple_passes (front ++ t) q ≡ tuple_passes front q
decided front t q e =
    let parts = and_parts (nat_lt q.table (length front)) (is_right_within (length front) q.right) e in
    (λ i. cells_stand q.op (cell_in (gets front t q.table (below q.table (length front) parts.0) i) q.column) (right_same front t q.right parts.1 i))

-- where a test of the front fails, each tuple that begins so fails
closed : (front t : Tuple) (qs : List SqlTest) → may_pass qs front ≡ false → list_all (tuple_passes (front ++ t)) qs ≡ false
closed front t [] e = cc
closed front t (q ∷ qs) e = by (is_within (length front) q) (tuple_passes front q) refl refl (closed front t qs)
  where
    by : (w p : Bool) → is_within (length front) q ≡ w → tuple_passes front q ≡ p → (may_pass qs front ≡ false → list_all (tuple_passes (front ++ t)) qs ≡ false) → list_all (tuple_passes (front ++ t)) (q ∷ qs) ≡ false
    by true false is fails more = ap (λ b. b && list_all (tuple_passes (front ++ t)) qs) (decided front t q is ∙ fails)
    by true true is fits more = last (tuple_passes (front ++ t) q) (more (sym (λ i. not (is i && not (fits i)) && may_pass qs front) ∙ e))
      where
        last : (b : Bool) → list_all (tuple_passes (front ++ t)) qs ≡ false → (b && list_all (tuple_passes (front ++ t)) qs) ≡ false
        last true h = h
        last false h = refl
    by false p is fits more = last (tuple_passes (front ++ t) q) (more (sym (λ i. not (is i && not (fits i)) && may_pass qs front) ∙ e))
      where
        last : (b : Bool) → list_all (tuple_passes (front ++ t)) qs ≡ false → (b && list_all (tuple_passes (front ++ t)) qs) ≡ false
        last true h = h
        last false h = refl

module _ (tests : List SqlTest) where
  abbrev good : Tuple → Bool
  good t = list_all (tuple_passes t) tests

  none_good : (front : Tuple) (ts : List Tuple) → ((t : Tuple) → good (front ++ t) ≡ false) → filter good (map (λ t. front ++ t) ts) ≡ []
  none_good front [] bad = refl
  none_good front (t ∷ ts) bad = let b = bad t in rw b (none_good front ts bad)

  -- nothing goes on from a front from which each tuple fails
  pub none_wanted : (front : Tuple) (tables : List (List Value)) → ((t : Tuple) → good (front ++ t) ≡ false) → wanted tests front tables ≡ []
  none_wanted front tables bad = none_good front (tuples tables) bad

  pub closed_off : (front : Tuple) (tables : List (List Value)) → may_pass tests front ≡ false → wanted tests front tables ≡ []
  closed_off front tables e = none_wanted front tables (λ t. closed front t tests e)

  -- the next table's rows one by one
  wanted_rows : (front : Tuple) (rows : List Value) (tables : List (List Value)) → wanted tests front (rows ∷ tables) ≡ flat_map (λ r. wanted tests (front ++ r ∷ []) tables) rows
  wanted_rows front [] tables = refl
  wanted_rows front (r ∷ rows) tables =
      let one : map (λ t. front ++ t) (map (λ t. r ∷ t) (tuples tables)) ≡ map (λ t. (front ++ r ∷ []) ++ t) (tuples tables) =
      map-map (λ t. front ++ t) (λ t. r ∷ t) (tuples tables) ∙ map-same (λ t. front ++ r ∷ t) (λ t. (front ++ r ∷ []) ++ t) (λ t. sym (append_assoc front (r ∷ []) t)) (tuples tables) in
      let more : List Tuple = flat_map (λ row. map (λ t. row ∷ t) (tuples tables)) rows in
      ap (filter good) (map-append (λ t. front ++ t) (map (λ t. r ∷ t) (tuples tables)) more)
      ∙ filter-append good (map (λ t. front ++ t) (map (λ t. r ∷ t) (tuples tables))) (map (λ t. front ++ t) more)
      ∙ (λ i. filter good (one i) ++ wanted_rows front rows tables i)

  -- rows from which nothing goes on may be left out
  left_out : (keep : Value → Bool) (front : Tuple) (rows : List Value) (tables : List (List Value)) → ((r : Value) → keep r ≡ false → wanted tests (front ++ r ∷ []) tables ≡ [])
      → flat_map (λ r. wanted tests (front ++ r ∷ []) tables) rows ≡ flat_map (λ r. wanted tests (front ++ r ∷ []) tables) (filter keep rows)
  left_out keep front [] tables h = refl
  left_out keep front (r ∷ rows) tables h = by (keep r) refl (left_out keep front rows tables h)
    where
      by : (b : Bool) → keep r ≡ b → flat_map (λ r. wanted tests (front ++ r ∷ []) tables) rows ≡ flat_map (λ r. wanted tests (front ++ r ∷ []) tables) (filter keep rows)
          → wanted tests (front ++ r ∷ []) tables ++ flat_map (λ r. wanted tests (front ++ r ∷ []) tables) rows ≡ flat_map (λ r. wanted tests (front ++ r ∷ []) tables) (filter keep (r ∷ rows))
      by true e k = rw e (ap (λ z. wanted tests (front ++ r ∷ []) tables ++ z) k)
      by false e k = rw (e, h r e) k

  -- what goes on from a front goes on with those rows of the next table that are kept
  pub wanted_kept : (keep : Value → Bool) (front : Tuple) (rows : List Value) (tables : List (List Value)) → ((r : Value) → keep r ≡ false → wanted tests (front ++ r ∷ []) tables ≡ [])
      → wanted tests front (rows ∷ tables) ≡ flat_map (λ r. wanted tests (front ++ r ∷ []) tables) (filter keep rows)
  wanted_kept keep front rows tables h = wanted_rows front rows tables ∙ left_out keep front rows tables h

  -- ---- levels

  module _ (tables : List (List Value)) where
    pub rest_last : (levels : List Level) (v : Level) → rest tests tables (levels ++ v ∷ []) ≡ tuples_left tests tables v ++ rest tests tables levels
    rest_last [] v = sym (append-nil (tuples_left tests tables v))
    rest_last (w ∷ levels) v = ap (λ ts. ts ++ tuples_left tests tables w) (rest_last levels v) ∙ append_assoc (tuples_left tests tables v) (rest tests tables levels) (tuples_left tests tables w)

    -- at first, all tuples that pass
    pub at_first : wanted tests [] tables ≡ filter good (tuples tables)
    at_first = ap (filter good) (same_all (tuples tables))
      where
        same_all : (ts : List Tuple) → map (λ t. [] ++ t) ts ≡ ts
        same_all [] = refl
        same_all (t ∷ ts) = ap (λ z. t ∷ z) (same_all ts)

pub steps_last : (tables : List (List Value)) (levels : List Level) (v : Level) → steps tables (levels ++ v ∷ []) ≡ steps tables levels + steps_in tables v
steps_last tables [] v = refl
steps_last tables (w ∷ levels) v = omega (arith, steps_last tables levels v)

pub width_some : (tables : List (List Value)) → 0 < width tables
width_some [] = omega arith
width_some (rows ∷ tables) = omega arith

pub filter-few : {A : Type 0} (keep : A → Bool) (xs : List A) → length (filter keep xs) ≤ length xs
filter-few keep [] = omega arith
filter-few keep (x ∷ xs) = by (keep x) refl (filter-few keep xs)
  where
    by : (b : Bool) → keep x ≡ b → length (filter keep xs) ≤ length xs → length (filter keep (x ∷ xs)) ≤ suc (length xs)
    by true e h = rw e (omega (arith, h))
    by false e h = rw e (omega (arith, h))

pub times_few : (a b w : ℕ) → a ≤ b → a * w ≤ b * w
times_few a b w h = grind arith
