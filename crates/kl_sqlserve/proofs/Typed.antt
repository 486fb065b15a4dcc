-- The types of what statements show.
use Rattle.std.proofs.Common.{◌≡◌, ℕ, zero, suc, Bool, true, false, List, [], ◌∷◌, map, cond, Option, Some, None, refl, sym, ap, ◌∙◌, slice_get, nat_eq, Ordering, Less, Equal, Greater}
use Rattle.std.specs.BTreeMap.{insert_entry}
use Rattle.std.specs.List.{AllByRecursion}
use Rattle.std.specs.Option.{option_map}
use Rattle.std.specs.Ordering.{match_ordering}
use Rattle.std.specs.Cmp.Lexicographic.{pointwise}
use Rattle.kl_base.specs.Fields.{bytes_cmp, field}
use Rattle.kl_type.specs.Ground.{Ground, at, ground_of, rec, row, row_by}
use Rattle.kl_type.specs.declared.ground.Ty.{Ty}
use Rattle.kl_outcome.specs.Outcome.{Name}
use Rattle.kl_outcome.specs.Typed.{Inhabits}
use Rattle.kl_ask.specs.Asks.{column, item_of}
use Rattle.kl_ask.specs.Named.{source_named}
use Rattle.kl_ask.specs.Statements.{RowTypes, column_in, sql_type, type_of_table}
use Rattle.kl_ask.specs.Tables.{columns_of}
use Rattle.kl_flat.specs.ColumnTable.{rows_of}
use Rattle.kl_flat.specs.Columns.{is_table_type}
use Rattle.kl_flat.specs.declared.parts.Source.{Source}
use Rattle.kl_flat.proofs.Cursors.{left_typed}
use Rattle.kl_flat.proofs.Suiting.{item_is}
use Rattle.kl_flat.proofs.Typing.{rows_good, rows_suit}
use Rattle.kl_sqltext.specs.Grammar.{SqlColumn}
use Rattle.kl_sqltext.specs.Meaning.{shown_columns, with_column}
use Rattle.kl_sqltext.specs.declared.ast.Spj.{Spj}
use Rattle.kl_flat.specs.Flat.{Sources}
use Rattle.kl_sqlserve.specs.Handing.{left_of_joined}
use Rattle.kl_sqlserve.specs.Left.{column_type, columns_shown}
use Rattle.kl_sqlserve.specs.Opening.{AreSides}
use Rattle.kl_sqlserve.specs.Server.{rows_left_in, type_of}
use Rattle.kl_sqlserve.specs.declared.joined.Open.{Open}
use Rattle.kl_sqlserve.specs.declared.joined.Open.TheVariants as opened
use Rattle.kl_sqlserve.specs.declared.side.Side.{Side}
use Rattle.kl_sqlserve.proofs.Fitted.{columns_rise}

-- ---- the rows that a cursor has left have its type

pub left_has : (o : Open) → AllByRecursion (Inhabits (type_of o)) (rows_left_in o)
left_has (opened.Rows o) = left_typed o
left_has (opened.Joined j) = rows_good (columns_shown j.query) (columns_rise j.query.sides j.query.statement.columns) (left_of_joined j) j.typed

-- ---- the type of what is shown, by the types of the sources

abbrev grounds_of : List (Name × Ty) → List (Name × Ground)
grounds_of cs = map (λ c. (c.0, ground_of c.1)) cs

put_grounds : (l : Name) (t : Ty) (cs : List (Name × Ty)) → insert_entry bytes_cmp (grounds_of cs) l (ground_of t) ≡ grounds_of (insert_entry bytes_cmp cs l t)
put_grounds l t [] = refl
put_grounds l t (c ∷ cs) = by (bytes_cmp l c.0) (put_grounds l t cs)
  where
    by : (o : Ordering) → insert_entry bytes_cmp (grounds_of cs) l (ground_of t) ≡ grounds_of (insert_entry bytes_cmp cs l t)
        → match_ordering o ((l, ground_of t) ∷ grounds_of (c ∷ cs)) ((c.0, ground_of t) ∷ grounds_of cs) ((c.0, ground_of c.1) ∷ insert_entry bytes_cmp (grounds_of cs) l (ground_of t))
        ≡ grounds_of (match_ordering o ((l, t) ∷ c ∷ cs) ((c.0, t) ∷ cs) (c ∷ insert_entry bytes_cmp cs l t))
    by Less more = refl
    by Equal more = refl
    by Greater more = ap (λ ds. (c.0, ground_of c.1) ∷ ds) more

with_grounds : (l : Name) (o : Option Ty) (cs : List (Name × Ty)) → with_column l (option_map ground_of o) (grounds_of cs) ≡ grounds_of (with_column l o cs)
with_grounds l None cs = refl
with_grounds l (Some t) cs = put_grounds l t cs

shown_grounds : (types : ℕ → Name → Option Ty) (cs : List SqlColumn) → shown_columns (λ i l. option_map ground_of (types i l)) cs ≡ grounds_of (shown_columns types cs)
shown_grounds types [] = refl
shown_grounds types (c ∷ cs) = ap (with_column c.2 (option_map ground_of (types c.0 c.1))) (shown_grounds types cs) ∙ with_grounds c.2 (types c.0 c.1) (shown_columns types cs)

row_grounds : (cs : List (Name × Ty)) → row_by (λ g. g) (grounds_of cs) ≡ row_by ground_of cs
row_grounds [] = refl
row_grounds (c ∷ cs) = ap (row c.0 (ground_of c.1)) (row_grounds cs)

at_field : (l : Name) (cs : List (Name × Ty)) → at l (row_by ground_of cs) ≡ option_map ground_of (field l cs)
at_field l [] = refl
at_field l (c ∷ cs) = by (pointwise nat_eq l c.0) (at_field l cs)
  where
    by : (b : Bool) → at l (row_by ground_of cs) ≡ option_map ground_of (field l cs) → cond b (Some (ground_of c.1)) (at l (row_by ground_of cs)) ≡ option_map ground_of (cond b (Some c.1) (field l cs))
    by true more = refl
    by false more = more

-- a column of a type of tables
pub column_is : (t : Ty) → is_table_type t ≡ true → (l : Name) → column l (item_of (ground_of t)) ≡ option_map ground_of (field l (columns_of t))
column_is t suits l = ap (column l) (item_is t suits) ∙ at_field l (columns_of t)

-- the types of rows are those of the sources
abbrev pub TypesOf : RowTypes → Sources → Type 0
TypesOf types sources = (l : Name) (a : Source) → source_named sources l ≡ Some a → types l ≡ Some (item_of (ground_of a.ty))

module _ (types : RowTypes) (sources : Sources) (are : TypesOf types sources) where
  cell_is : (names : List Name) (sides : List Side) → AreSides sources names sides → (i : ℕ) (l : Name) → column_in (type_of_table types (slice_get names i)) l ≡ option_map ground_of (column_type sides i l)
  cell_is [] [] h i l = refl
  cell_is [] (s ∷ sides) h i l = absurd h
  cell_is (n ∷ names) [] h i l = absurd h
  cell_is (n ∷ names) (s ∷ sides) h zero l = ap (λ o. column_in o l) (are n h.0.0 h.0.1) ∙ ap (λ t. column l (item_of (ground_of t))) (sym h.0.2) ∙ column_is s.ty (rows_suit s.ty (rows_of s.index.table) s.typed) l
  cell_is (n ∷ names) (s ∷ sides) h (suc i) l = cell_is names sides h.1 i l

  pub shown_type_is : (q : Spj) (sides : List Side) → AreSides sources q.tables sides → sql_type types q ≡ rec (row_by ground_of (shown_columns (column_type sides) q.columns))
  shown_type_is q sides h =
      ap (λ (f : ℕ → Name → Option Ground). rec (row_by (λ g. g) (shown_columns f q.columns))) (λ k i l. cell_is q.tables sides h i l k)
      ∙ ap (λ cs. rec (row_by (λ g. g) cs)) (shown_grounds (column_type sides) q.columns) ∙ ap rec (row_grounds (shown_columns (column_type sides) q.columns))
