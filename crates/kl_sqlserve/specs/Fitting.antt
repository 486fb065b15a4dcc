-- Whether a statement fits the attached sources, as tests. No public contract cites this.
use Rattle.std.specs.Prelude.{◌≡◌, ℕ, Bool, true, false, not, ◌&&◌, List, [], ◌∷◌, Option, Some, None, nat_eq, slice_get}
use Rattle.std.specs.Cmp.Lexicographic.{pointwise}
use Rattle.std.specs.List.{list_all}
use Rattle.std.specs.Option.{is_some}
use Rattle.kl_base.specs.Fields.{field}
use Rattle.kl_type.specs.declared.ground.Ty.{Ty, Ty-F, out-Ty}
use Rattle.kl_type.specs.Has.{has_type}
use Rattle.kl_outcome.specs.Outcome.{Name}
use Rattle.kl_ask.specs.Named.{source_named}
use Rattle.kl_ask.specs.Tables.{columns_of}
use Rattle.kl_ask.specs.declared.ask.Ask.{Ask}
use Rattle.kl_ask.specs.declared.ask.Ask.TheVariants as asks
use Rattle.kl_flat.specs.declared.parts.Source.{Source}
use Rattle.kl_flat.specs.Flat.{Sources}
use Rattle.kl_sqltext.specs.Grammar.{SqlColumn}
use Rattle.kl_sqltext.specs.Reading.{SqlReads}
use Rattle.kl_sqltext.specs.declared.ast.Spj.{Spj}
use Rattle.kl_sqltext.specs.declared.ast.SqlRight.{SqlRight}
use Rattle.kl_sqltext.specs.declared.ast.SqlRight.TheVariants as right
use Rattle.kl_sqltext.specs.declared.ast.SqlTest.{SqlTest}

-- the type of a column of an attached source
abbrev pub type_in_source : Name → Option Source → Option Ty
type_in_source l (Some a) = field l (columns_of a.ty)
type_in_source l None = None

-- the type of a column of the table of a number, where there is one
abbrev pub type_in_table : Sources → Name → Option Name → Option Ty
type_in_table sources l (Some name) = type_in_source l (source_named sources name)
type_in_table sources l None = None

abbrev pub type_at : Sources → List Name → ℕ → Name → Option Ty
type_at sources tables i l = type_in_table sources l (slice_get tables i)

-- both are one base type
abbrev pub same_base : Ty-F Ty → Ty-F Ty → Bool
same_base Ty-F.Bool Ty-F.Bool = true
same_base Ty-F.Int Ty-F.Int = true
same_base Ty-F.Str Ty-F.Str = true
same_base _ _ = false

abbrev pub is_typed_column : Ty → Option Ty → Bool
is_typed_column t (Some u) = same_base (out-Ty t) (out-Ty u)
is_typed_column t None = false

abbrev pub suits_right : (ℕ → Name → Option Ty) → Ty → SqlRight → Bool
suits_right types t (right.Col i l) = is_typed_column t (types i l)
suits_right types t (right.Lit v) = has_type v t

abbrev pub suits_test : (ℕ → Name → Option Ty) → Option Ty → SqlRight → Bool
suits_test types (Some t) r = suits_right types t r
suits_test types None r = false

-- no column is shown under the label
abbrev pub is_unshown : Name → List SqlColumn → Bool
is_unshown l cs = list_all (λ c. not (pointwise nat_eq l c.2)) cs

abbrev pub shows_apart : List SqlColumn → Bool
shows_apart [] = true
shows_apart (c ∷ cs) = is_unshown c.2 cs && shows_apart cs

abbrev pub are_attached : Sources → List Name → Bool
are_attached sources names = list_all (λ l. is_some (source_named sources l)) names

abbrev pub have_columns : (ℕ → Name → Option Ty) → List SqlColumn → Bool
have_columns types cs = list_all (λ c. is_some (types c.0 c.1)) cs

abbrev pub suit_tests : (ℕ → Name → Option Ty) → List SqlTest → Bool
suit_tests types tests = list_all (λ q. suits_test types (types q.table q.column) q.right) tests

abbrev pub is_fitting : Sources → Spj → Bool
is_fitting sources q =
    (are_attached sources q.tables && have_columns (type_at sources q.tables) q.columns)
    && (shows_apart q.columns && suit_tests (type_at sources q.tables) q.tests)

-- the ask for the statement that the bytes are, where it fits; None where they are none that does
abbrev pub IsAskFor : Sources → List ℕ → Option Ask → Type 0
IsAskFor sources text (Some ask) = (q : Spj) × SqlReads text q × (is_fitting sources q ≡ true) × (ask ≡ asks.Sql text)
IsAskFor sources text None = (q : Spj) → SqlReads text q → is_fitting sources q ≡ false
