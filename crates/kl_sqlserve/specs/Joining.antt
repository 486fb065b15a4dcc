-- What a join that goes table by table has still to give.
use Rattle.std.specs.Prelude.{ℕ, suc, ◌+◌, ◌*◌, List, [], ◌∷◌, ◌++◌, map, filter, length, drop}
use Rattle.std.specs.List.{list_all, flat_map}
use Rattle.kl_value.specs.declared.Value.{Value}
use Rattle.kl_flat.specs.Held.{row_at}
use Rattle.kl_sqltext.specs.Meaning.{Tuple, tuples, tuple_passes}
use Rattle.kl_sqltext.specs.declared.ast.SqlTest.{SqlTest}
use Rattle.kl_sqlserve.specs.Tests.{tuple_of}
use Rattle.kl_sqlserve.specs.declared.chosen.Level.{Level}

-- the tuples that pass, among those that begin so and go on with rows of these tables
abbrev pub wanted : List SqlTest → Tuple → List (List Value) → List Tuple
wanted tests front tables = filter (λ t. list_all (tuple_passes t) tests) (map (λ t. front ++ t) (tuples tables))

-- the rows that a level has left
abbrev pub rows_left : Level → List Value
rows_left v = map (row_at v.table.columns.items) (drop v.at v.places)

-- the tuples that it has left, where these are the tables of the join
abbrev pub tuples_left : List SqlTest → List (List Value) → Level → List Tuple
tuples_left tests tables v = flat_map (λ r. wanted tests (tuple_of v.front ++ r ∷ []) (drop (suc (length v.front)) tables)) (rows_left v)

-- all that are left: the last level comes first
abbrev pub rest : List SqlTest → List (List Value) → List Level → List Tuple
rest tests tables [] = []
rest tests tables (v ∷ levels) = rest tests tables levels ++ tuples_left tests tables v

-- how many steps are left at most, which falls with each
abbrev pub width : List (List Value) → ℕ
width [] = 1
width (rows ∷ tables) = 2 + length rows * width tables

abbrev pub steps_in : List (List Value) → Level → ℕ
steps_in tables v = 1 + length (rows_left v) * width (drop (suc (length v.front)) tables)

abbrev pub steps : List (List Value) → List Level → ℕ
steps tables [] = 0
steps tables (v ∷ levels) = steps tables levels + steps_in tables v
