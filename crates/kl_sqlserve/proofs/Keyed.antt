-- Rows whose keys differ from what the rows chosen before ask for.
use Rattle.std.proofs.Common.{◌≡◌, ℕ, zero, suc, ◌<◌, Bool, true, false, ◌&&◌, List, [], ◌∷◌, ◌++◌, map, length, cond, slice_get, Option, Some, None, refl, sym, ap, ◌∙◌, arith, nat_lt, nat_eq}
use Rattle.std.specs.List.{list_all}
use Rattle.std.specs.Option.{option_to_list}
use Rattle.std.specs.Ordering.{is_eq}
use Rattle.std.specs.Cmp.{Equal-is, tied_itself}
use Rattle.std.proofs.lemmas.Bool.{and_parts}
use Rattle.std.proofs.lemmas.Bool.Decides.{nat_tests}
use Rattle.std.proofs.lemmas.List.{map-append}
use Rattle.kl_value.proofs.CanonLemmas.{eq_is}
use Rattle.kl_value.proofs.OrderLemmas.{compare_exact, compare_total}
use Rattle.kl_value.specs.Order.{compare}
use Rattle.kl_value.specs.Views.{field_at}
use Rattle.kl_value.specs.declared.Value.{Value}
use Rattle.kl_value.specs.declared.Value.TheVariants as value
use Rattle.kl_outcome.specs.Outcome.{Name}
use Rattle.kl_sqltext.specs.Meaning.{Tuple, cell, cell_in, cells_stand, right_cell, tuple_passes}
use Rattle.kl_ask.specs.Driver.{same_value}
use Rattle.kl_sqltext.specs.declared.ast.SqlOp.{SqlOp}
use Rattle.kl_sqltext.specs.declared.ast.SqlOp.TheVariants as op
use Rattle.kl_sqltext.specs.declared.ast.SqlRight.{SqlRight}
use Rattle.kl_sqltext.specs.declared.ast.SqlRight.TheVariants as right
use Rattle.kl_sqltext.specs.declared.ast.SqlTest.{SqlTest}
use Rattle.kl_sqlserve.specs.Joining.{wanted}
use Rattle.kl_sqlserve.specs.Keys.{front_key, key_by, key_in, keys_at, or_false, own_key, same_key}
use Rattle.kl_sqlserve.specs.declared.keys.Key.{Key}
use Rattle.kl_sqlserve.proofs.Joins.{none_wanted}

-- ---- equal values

pub tied : (v w : Value) → same_value v w ≡ true → v ≡ w
tied v w e = compare_exact v w ((Equal-is (compare v w)).0 e)

pub same_itself : (v : Value) → same_value v v ≡ true
same_itself v = ap is_eq (tied_itself compare_total v)

pub key_is : (v w : Value) → same_key v w ≡ same_value v w
key_is v w = eq_is v w

-- ---- cells of a tuple that goes on with a row

module _ (front : Tuple) (row : Value) (t : Tuple) where
  abbrev tuple : Tuple
  tuple = (front ++ row ∷ []) ++ t

  at_front : (xs : Tuple) (i : ℕ) → i < length xs → slice_get ((xs ++ row ∷ []) ++ t) i ≡ slice_get xs i
  at_front [] i lt = absurd (omega (arith, lt))
  at_front (x ∷ xs) zero lt = refl
  at_front (x ∷ xs) (suc i) lt = at_front xs i (omega (arith, lt))

  at_row : (xs : Tuple) → slice_get ((xs ++ row ∷ []) ++ t) (length xs) ≡ Some row
  at_row [] = refl
  at_row (x ∷ xs) = at_row xs

  module _ (n : ℕ) (size : length front ≡ n) where
    own_cell : (i : ℕ) (l : Name) → nat_eq i n ≡ true → cell tuple i l ≡ field_at l row
    own_cell i l e = let here : i ≡ length front = grind (arith, nat_tests) in ap (λ o. cell_in o l) (ap (slice_get tuple) here ∙ at_row front)

    other_cell : (j : ℕ) (m : Name) → nat_lt j n ≡ true → cell tuple j m ≡ cell front j m
    other_cell j m e = let before : j < length front = grind (arith, nat_tests) in ap (λ o. cell_in o m) (at_front front j before)

    equal : (a b : Option Value) → cells_stand op.Eq a b ≡ true → a ≡ b
    equal (Some v) (Some w) e = ap Some (tied v w e)
    equal (Some v) None e = cc
    equal None (Some w) e = cc
    equal None None e = cc

    abbrev owns : List Key → List Value
    owns keys = map (λ k. or_false (field_at k.own row)) keys

    abbrev asks : List Key → List Value
    asks keys = map (λ k. or_false (cell front k.number k.other)) keys

    abbrev Agree : Option Key → Type 0
    Agree key = owns (option_to_list key) ≡ asks (option_to_list key)

    -- the key of a test that tuple_passes has the value that is asked for
    agree : (i : ℕ) (l : Name) (o : SqlOp) (r : SqlRight) → cells_stand o (cell tuple i l) (right_cell tuple r) ≡ true → Agree (key_by n i l o r)
    agree i l op.Eq (right.Col j m) e = by (nat_eq i n && nat_lt j n) (nat_eq j n && nat_lt i n) refl refl
      where
        both : cell tuple i l ≡ cell tuple j m
        both = equal (cell tuple i l) (cell tuple j m) e

        by : (a b : Bool) → (nat_eq i n && nat_lt j n) ≡ a → (nat_eq j n && nat_lt i n) ≡ b
            → Agree (cond a (Some (record { own = l; number = j; other = m })) (cond b (Some (record { own = m; number = i; other = l })) None))
        by true b is other =
            let parts = and_parts (nat_eq i n) (nat_lt j n) is in
            (λ k. or_false ((sym (own_cell i l parts.0) ∙ both ∙ other_cell j m parts.1) k) ∷ [])
        by false true is other =
            let parts = and_parts (nat_eq j n) (nat_lt i n) other in
            (λ k. or_false ((sym (own_cell j m parts.0) ∙ sym both ∙ other_cell i l parts.1) k) ∷ [])
        by false false is other = refl
    agree i l op.Eq (right.Lit v) e = refl
    agree i l op.Ne r e = refl
    agree i l op.Lt r e = refl
    agree i l op.Le r e = refl
    agree i l op.Gt r e = refl
    agree i l op.Ge r e = refl

    -- where all tests pass, so have all keys
    all_agree : (qs : List SqlTest) → list_all (tuple_passes tuple) qs ≡ true → owns (keys_at n qs) ≡ asks (keys_at n qs)
    all_agree [] e = refl
    all_agree (q ∷ qs) e =
        let parts = and_parts (tuple_passes tuple q) (list_all (tuple_passes tuple) qs) e in
        map-append (λ (k : Key). or_false (field_at k.own row)) (option_to_list (key_in n q)) (keys_at n qs)
        ∙ (λ k. agree q.table q.column q.op q.right parts.0 k ++ all_agree qs parts.1 k)
        ∙ sym (map-append (λ (k : Key). or_false (cell front k.number k.other)) (option_to_list (key_in n q)) (keys_at n qs))

    fails : (qs : List SqlTest) → same_key (own_key (keys_at n qs) row) (front_key (keys_at n qs) front) ≡ false → list_all (tuple_passes tuple) qs ≡ false
    fails qs e = by (list_all (tuple_passes tuple) qs) refl
      where
        by : (b : Bool) → list_all (tuple_passes tuple) qs ≡ b → b ≡ false
        by false is = refl
        by true is =
            let whole : own_key (keys_at n qs) row ≡ front_key (keys_at n qs) front = ap value.List (all_agree qs is) in
            absurd (let h : true ≡ false = sym (key_is _ _ ∙ ap (same_value (own_key (keys_at n qs) row)) (sym whole) ∙ same_itself (own_key (keys_at n qs) row)) ∙ e in cc)

-- nothing goes on with a row whose keys differ
pub keys_differ : (tests : List SqlTest) (front : Tuple) (row : Value) (tables : List (List Value)) (n : ℕ) → length front ≡ n
    → same_key (own_key (keys_at n tests) row) (front_key (keys_at n tests) front) ≡ false → wanted tests (front ++ row ∷ []) tables ≡ []
keys_differ tests front row tables n size e = none_wanted tests (front ++ row ∷ []) tables (λ t. fails front row t n size tests e)
