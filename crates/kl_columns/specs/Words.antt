-- What the words ask for.
use Rattle.std.specs.Prelude.{ℕ, Bool, not, ◌&&◌, ◌||◌, ◌==◌, List, length, codes, filter, nat_eq}
use Rattle.std.specs.Cmp.Lexicographic.{pointwise}
use Rattle.std.specs.List.{ends_with, list_all, list_any}

-- the option: tables are for the server of SQL
abbrev pub is_option : List ℕ → Bool
is_option word = pointwise nat_eq word (codes "--sql")

-- each other word is a path
abbrev pub paths_of : List (List ℕ) → List (List ℕ)
paths_of words = filter (λ word. not (is_option word)) words

abbrev pub wants_sql : List (List ℕ) → Bool
wants_sql words = list_any is_option words

abbrev pub is_table : List ℕ → Bool
is_table path = ends_with nat_eq path (codes ".csv")

abbrev pub is_values : List ℕ → Bool
is_values path = ends_with nat_eq path (codes ".kx")

-- paths of tables and files of values, one at least
abbrev pub are_files : List (List ℕ) → Bool
are_files paths = list_all (λ path. is_table path || is_values path) paths && not (length paths == 0)
