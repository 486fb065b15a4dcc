-- The rows of a table that are equal to none before.
use Rattle.std.proofs.Common.{◌≡◌, ◌<◌, ℕ, zero, suc, ◌+◌, Bool, true, false, List, [], ◌∷◌, ◌++◌, All, map, length, drop, cond, refl, sym, ap, ◌∙◌, subst, append_assoc, arith}
use Rattle.std.specs.HashSet.{contains}
use Rattle.std.proofs.lemmas.Bool.{and_parts}
use Rattle.std.proofs.lemmas.List.{map-append}
use Rattle.std.proofs.lemmas.List.Elements.{All-append}
use Rattle.std.proofs.lemmas.Option.{slice_get_within}
use Rattle.kl_base.specs.Fields.{labels_of, rises}
use Rattle.kl_value.specs.declared.Value.{Value}
use Rattle.kl_type.specs.declared.ground.Ty.{Ty}
use Rattle.kl_ask.specs.Tables.{columns_of}
use Rattle.kl_flat.specs.ColumnTable.{IsRow, rows_of}
use Rattle.kl_flat.specs.Columns.{is_table_type}
use Rattle.kl_flat.specs.Fitting.{all_fit, are_rows}
use Rattle.kl_flat.specs.Held.{row_at}
use Rattle.kl_flat.specs.declared.column_table.ColumnTable.{ColumnTable}
use Rattle.kl_flat.proofs.Tables.{row_is}
use Rattle.kl_sqltext.specs.Meaning.{without_repeats}
use Rattle.kl_sqlserve.specs.Handing.{Leaves}
use Rattle.kl_sqlserve.specs.Keys.{same_key}
use Rattle.kl_sqlserve.specs.Left.{Seen}
use Rattle.kl_sqlserve.specs.Repeats.{fresh}
use Rattle.kl_sqlserve.specs.Server.{is_set, kept_rows}
use Rattle.kl_sqlserve.proofs.Fitted.{and_from, fresh_fit}
use Rattle.kl_sqlserve.proofs.Goings.{drop_here}
use Rattle.kl_sqlserve.proofs.Repeated.{fresh-none}

module _ (table : ColumnTable) (at : ℕ) (row : Value) (is : IsRow table at row) (places : List ℕ) (seen seen' : Seen)
    (so_far : map (row_at table.columns.items) places ++ fresh (contains same_key seen) (drop at (rows_of table)) ≡ without_repeats (rows_of table)) where
  abbrev rows : List Value
  rows = rows_of table

  abbrev before : List Value
  before = map (row_at table.columns.items) places

  here : drop at rows ≡ row ∷ drop (at + 1) rows
  here = let next : suc at ≡ at + 1 = omega arith in drop_here rows at row is ∙ ap (λ n. row ∷ drop n rows) next

  pub first_picked : Leaves true row seen seen' true → (places' : List ℕ) → places' ≡ places ++ at ∷ [] → map (row_at table.columns.items) places' ++ fresh (contains same_key seen') (drop (at + 1) rows) ≡ without_repeats rows
  first_picked leaves places' grown =
      (λ i. map (row_at table.columns.items) (grown i) ++ fresh (contains same_key seen') (drop (at + 1) rows))
      ∙ ap (λ vs. vs ++ fresh (contains same_key seen') (drop (at + 1) rows)) (map-append (row_at table.columns.items) places (at ∷ []))
      ∙ append_assoc before (row_at table.columns.items at ∷ []) (fresh (contains same_key seen') (drop (at + 1) rows))
      ∙ ap (λ v. before ++ v ∷ fresh (contains same_key seen') (drop (at + 1) rows)) (sym (row_is table at row is))
      ∙ ap (λ vs. before ++ vs) (sym (leaves (drop (at + 1) rows)))
      ∙ ap (λ vs. before ++ fresh (contains same_key seen) vs) (sym here) ∙ so_far

  pub first_skipped : Leaves true row seen seen' false → (places' : List ℕ) → places' ≡ places → map (row_at table.columns.items) places' ++ fresh (contains same_key seen') (drop (at + 1) rows) ≡ without_repeats rows
  first_skipped leaves places' same =
      (λ i. map (row_at table.columns.items) (same i) ++ fresh (contains same_key seen') (drop (at + 1) rows))
      ∙ ap (λ vs. before ++ vs) (sym (leaves (drop (at + 1) rows)))
      ∙ ap (λ vs. before ++ fresh (contains same_key seen) vs) (sym here) ∙ so_far

  pub there_picked : All (λ p. p < length rows) places → (places' : List ℕ) → places' ≡ places ++ at ∷ [] → All (λ p. p < length rows) places'
  there_picked all places' grown = subst (All (λ p. p < length rows)) (sym grown) (All-append (λ p. p < length rows) places (at ∷ []) all one)
    where
      one : All (λ p. p < length rows) (at ∷ [])
      one zero d lt = slice_get_within rows at row is
      one (suc k) d lt = absurd (omega (arith, lt))

pub kept_fit : (t : Ty) (rows : List Value) → are_rows t rows ≡ true → are_rows t (kept_rows t rows) ≡ true
kept_fit t rows e =
    let parts = and_parts (is_table_type t) _ e in
    let rest = and_parts (rises (labels_of (columns_of t))) (all_fit (columns_of t) rows) parts.1 in
    and_from _ _ parts.0 (and_from _ _ rest.0 (by (is_set t) rest.1))
  where
    by : (b : Bool) → all_fit (columns_of t) rows ≡ true → all_fit (columns_of t) (cond b (without_repeats rows) rows) ≡ true
    by true fit = subst (λ vs. all_fit (columns_of t) vs ≡ true) (fresh-none (λ w. false) (λ w. refl) rows) (fresh_fit (columns_of t) (λ w. false) rows fit)
    by false fit = fit
