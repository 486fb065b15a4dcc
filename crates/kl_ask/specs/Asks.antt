-- Asks: which of them a driver can be asked, and what they answer.
use Rattle.std.specs.Prelude.{◌≡◌, ◌==◌, Bool, false, ◌&&◌, ◌||◌, List, [], length, map, filter, cond, nat_eq, Option, Some, None, IsSome}
use Rattle.std.specs.List.{AllByRecursion, list_all, list_any}
use Rattle.std.specs.List.Sorted.{IsStrictlySortedBy}
use Rattle.std.specs.Cmp.Lexicographic.{pointwise}
use Rattle.std.specs.declared.cmp.Ordering.{Ordering}
use Rattle.std.specs.Ordering.{is_eq, is_ne, is_lt, is_le, is_gt, is_ge}
use Rattle.kl_base.specs.Fields.{bytes_cmp}
use Rattle.kl_value.specs.Order.{compare}
use Rattle.kl_value.specs.Views.{field_at}
use Rattle.kl_value.specs.declared.Kind.{Kind}
use Rattle.kl_value.specs.declared.Kind.TheVariants as kind
use Rattle.kl_value.specs.declared.Value.{Value}
use Rattle.kl_value.specs.declared.Value.TheVariants as value
use Rattle.kl_type.specs.Ground.{Ground, Row, rec, coll, no_row, row, at, labels_in}
use Rattle.kl_outcome.specs.Outcome.{Name, as_record}
use Rattle.kl_outcome.specs.Typed.{Inhabits}
use Rattle.kl_ask.specs.declared.ask.Abilities.{Abilities}
use Rattle.kl_ask.specs.declared.ask.Cmp.{Cmp}
use Rattle.kl_ask.specs.declared.ask.Cmp.TheVariants as cmp
use Rattle.kl_ask.specs.declared.ask.Right.{Right}
use Rattle.kl_ask.specs.declared.ask.Right.TheVariants as right
use Rattle.kl_ask.specs.declared.ask.ColTest.{ColTest}
use Rattle.kl_ask.specs.declared.ask.Ask.{Ask}
use Rattle.kl_ask.specs.declared.ask.Ask.TheVariants as asks

-- ---- collection types

abbrev pub item_of : Ground → Ground
item_of (coll k t) = t
item_of t = t

abbrev pub kind_of : Ground → Kind
kind_of (coll k t) = k
kind_of t = kind.List

-- the columns of rows of a type, which has none where it is no record type, and the type of one of them
abbrev pub columns : Ground → List Name
columns (rec r) = labels_in r
columns t = []

abbrev pub column : Name → Ground → Option Ground
column l (rec r) = at l r
column l t = None

-- ---- what an ask answers

abbrev pub holds : Cmp → Ordering → Bool
holds cmp.Eq o = is_eq o
holds cmp.Ne o = is_ne o
holds cmp.Lt o = is_lt o
holds cmp.Le o = is_le o
holds cmp.Gt o = is_gt o
holds cmp.Ge o = is_ge o

abbrev pub side : Right → Value → Option Value
side (right.Col l) v = field_at l v
side (right.Const c) v = Some c

abbrev pub compared : Cmp → Option Value → Option Value → Bool
compared op (Some a) (Some b) = holds op (compare a b)
compared op _ _ = false

-- a row passes a test, by the order of values
abbrev pub passes : Value → ColTest → Bool
passes v t = compared t.op (field_at t.left v) (side t.right v)

abbrev pub is_kept : List Name → Name → Bool
is_kept keep l = list_any (λ k. pointwise nat_eq k l) keep

abbrev pub shown_fields : Value → List Name → Option (List (Name × Value)) → Value
shown_fields v keep (Some fs) = value.Rec (filter (λ f. is_kept keep f.0) fs)
shown_fields v keep None = v

-- a row with the kept columns alone; a value that is no record stays whole
abbrev pub shown : List Name → Value → Value
shown keep v = shown_fields v keep (as_record v)

-- the rows that pass all tests, each with the kept columns, in their order
abbrev pub answers : List Value → List Name → List ColTest → List Value
answers rows keep tests = map (shown keep) (filter (λ v. list_all (passes v) tests) rows)

abbrev pub shown_row : List Name → Row → Row
shown_row keep no_row = no_row
shown_row keep (row l t r) = cond (is_kept keep l) (row l t (shown_row keep r)) (shown_row keep r)

-- the type of what is shown of rows of a type
abbrev pub shown_type : List Name → Ground → Ground
shown_type keep (rec r) = rec (shown_row keep r)
shown_type keep t = t

-- ---- which asks are allowed

abbrev pub same_names : List Name → List Name → Bool
same_names = pointwise (pointwise nat_eq)

-- Whole rows without tests are always allowed. Tests need `select`, fewer columns `project`, and SQL `join`.
abbrev pub is_allowed : Abilities → Ground → Ask → Bool
is_allowed a t (asks.Rows source keep tests) = (length tests == 0 || a.select) && (same_names keep (columns (item_of t)) || a.project)
is_allowed a t (asks.Sql text) = a.join

abbrev pub SideFits : Ground → Ground → Right → Type 0
SideFits item t (right.Col l) = column l item ≡ Some t
SideFits item t (right.Const c) = Inhabits t c

-- a test fits rows of a type: its column is there, and both sides have one type
abbrev pub TestFits : Ground → ColTest → Type 0
TestFits item test = (t : Ground) × (column test.left item ≡ Some t) × SideFits item t test.right

-- Columns that are kept are there, and stand in strictly rising order, so that none is kept twice. Where the rows are no
-- records, no column is there: none is kept, and nothing is tested.
pub record AskFits (t : Ground) (keep : List Name) (tests : List ColTest) : Type 0 where
  pub rising : IsStrictlySortedBy bytes_cmp keep
  pub there : AllByRecursion (λ l. IsSome (column l (item_of t))) keep
  pub fitting : AllByRecursion (TestFits (item_of t)) tests
