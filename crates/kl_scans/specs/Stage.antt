-- What scans of a session read, where that is told, and which of them make sense.
use Rattle.std.specs.Prelude.{◌≡◌, ◌≢◌, ℕ, Bool, false, true, List, [], Option, Some, None, cond, is_some, slice_get}
use Rattle.std.specs.List.{AllByRecursion, Contains, IsDistinct, list_all}
use Rattle.kl_value.specs.declared.Kind.TheVariants as kind
use Rattle.kl_value.specs.declared.Value.{Value}
use Rattle.kl_type.specs.Ground.{Ground, ground_of}
use Rattle.kl_outcome.specs.Outcome.{Name}
use Rattle.kl_outcome.specs.Typed.{Inhabits}
use Rattle.kl_ask.specs.Asks.{item_of, kind_of, shown_type, answers, is_allowed, AskFits}
use Rattle.kl_ask.specs.Driver.{Source, row_type, same_value}
use Rattle.kl_ask.specs.Statements.{RowTypes, SqlFits, sql_type}
use Rattle.kl_scans.specs.Running.{Running}
use Rattle.kl_ask.specs.declared.ask.Abilities.{Abilities}
use Rattle.kl_ask.specs.declared.ask.Ask.{Ask}
use Rattle.kl_ask.specs.declared.ask.Ask.TheVariants as asks
use Rattle.kl_ask.specs.declared.ask.ColTest.{ColTest}
use Rattle.kl_ask.specs.declared.session.Attached.{Attached}
use Rattle.kl_phrase.specs.Readers.{Out, ok}
use Rattle.kl_sqltext.specs.Meaning.{spj}
use Rattle.kl_sqltext.specs.Reading.{SqlReads}
use Rattle.kl_sqltext.specs.Statements.{statement}
use Rattle.kl_sqltext.specs.declared.ast.Spj.{Spj}
use Rattle.kl_plan.specs.declared.plan.Scan.{Scan}
use Rattle.kl_plan.specs.Meaning.{Readings}
use Rattle.kl_plan.specs.Nodes.{Node}
use Rattle.kl_plan.specs.Subqueries.{Memo}
use Rattle.kl_scans.specs.Held.{Held, held_at}

-- what plans mean and cost in a session rests on this alone: what its drivers can do and have attached, its sources, how many rows
-- are pulled at once and how many a block holds, and the memos of the plan that is run
pub record Stage : Type 0 where
  pub held : ℕ → Option Held
  pub sources : List Attached
  pub fetch : ℕ
  pub block : ℕ
  pub memos : List Memo

unfoldable pub stage : Running → Stage
stage w = record { held = held_at w; sources = w.sources; fetch = w.settings.fetch; block = w.settings.block; memos = w.memos }

-- the rows that answer an ask, where they are told
abbrev pub answered_by : Option (List Value) → List Name → List ColTest → Option (List Value)
answered_by (Some rows) keep tests = Some (answers rows keep tests)
answered_by None keep tests = None

-- a source that is not attached has no rows
abbrev pub rows_asked : Option Source → List Name → List ColTest → Option (List Value)
rows_asked (Some a) keep tests = answered_by a.rows keep tests
rows_asked None keep tests = Some []

-- ---- statements

-- the statement that a text is, where it is one: a descent over the text finds exactly those
abbrev pub whole_statement : Out ℕ Spj → Option Spj
whole_statement (ok q []) = Some q
whole_statement o = None

unfoldable pub statement_of : List ℕ → Option Spj
statement_of text = whole_statement (statement text)

-- the rows of a table, where they are told; one that is not attached has none
abbrev pub rows_there : Option Source → Option (List Value)
rows_there (Some a) = a.rows
rows_there None = Some []

abbrev pub or_none : Option (List Value) → List Value
or_none (Some rows) = rows
or_none None = []

module _ (attached : Name → Option Source) where
  abbrev pub table_rows : Name → List Value
  table_rows l = or_none (rows_there (attached l))

  abbrev pub table_types : RowTypes
  table_types l = row_type (attached l)

  abbrev pub are_told : List Name → Bool
  are_told ls = list_all (λ l. is_some (rows_there (attached l))) ls

  -- what a statement means over the tables, where these are told
  abbrev pub joined_by : Option Spj → Option (List Value)
  joined_by (Some q) = cond (are_told q.tables) (Some (spj table_rows q)) None
  joined_by None = None

  abbrev pub read_by : Ask → Option (List Value)
  read_by (asks.Rows source keep tests) = rows_asked (attached source) keep tests
  read_by (asks.Sql text) = joined_by (statement_of text)

-- what a driver has attached: nothing, where it is not there
abbrev pub attached_by : Option Held → Name → Option Source
attached_by (Some h) l = h.attached l
attached_by None l = None

abbrev pub read_in : Option Held → Ask → Option (List Value)
read_in o ask = read_by (attached_by o) ask

-- what each scan reads: the rows that answer its ask, where they are told
abbrev pub readings : Stage → Readings
readings t c = read_in (t.held c.driver) c.ask

-- ---- scans that make sense

-- a source of the session that stands at a driver
abbrev pub StandsAt : Stage → ℕ → Name → Type 0
StandsAt t driver l = (i : ℕ) × (a : Attached) × (slice_get t.sources i ≡ Some a) × (a.source ≡ l) × (a.driver ≡ Some driver)

-- a statement that the driver of a scan can answer, over sources of the session that stand there, as a bag or a set of rows of a type
pub record Joins (t : Stage) (h : Held) (c : Scan) (text : List ℕ) (u : Ground) : Type 0 where
  pub statement : Spj
  pub reads : SqlReads text statement
  pub join : h.abilities.join ≡ true
  pub no_list : c.kind ≢ kind.List
  pub stand : AllByRecursion (StandsAt t c.driver) statement.tables
  pub fits : SqlFits (table_types h.attached) statement
  pub shows : u ≡ sql_type (table_types h.attached) statement

-- an ask that the driver of a scan can answer, of its source or by a statement, as a collection of its kind, with rows of a type
abbrev pub AskOf : Stage → Held → Scan → Source → Ask → Ground → Type 0
AskOf t h c a (asks.Rows source keep tests) u =
    (source ≡ c.source) × (is_allowed h.abilities (ground_of a.ty) (asks.Rows source keep tests) ≡ true)
    × AskFits (ground_of a.ty) keep tests × (u ≡ shown_type keep (item_of (ground_of a.ty)))
    × (c.kind ≡ kind.List → kind_of (ground_of a.ty) ≡ kind.List)
AskOf t h c a (asks.Sql text) u = Joins t h c text u

-- a scan of a source of the session that its driver has attached, with rows of a type
pub record ScanOf (t : Stage) (c : Scan) (u : Ground) : Type 0 where
  pub place : ℕ
  pub entry : Attached
  pub listed : slice_get t.sources place ≡ Some entry
  pub named : c.source ≡ entry.source
  pub driver : entry.driver ≡ Some c.driver
  pub held : Held
  pub holds : t.held c.driver ≡ Some held
  pub source : Source
  pub attached : held.attached c.source ≡ Some source
  pub ask : AskOf t held c source c.ask u

-- of a driver that can test rows and do nothing more, whole rows alone may be asked, all or those that pass tests
abbrev pub only_selects : Abilities
only_selects = record { select = true; project = false; join = false; unique = false }

-- an ask for whole rows of a set, all or those that pass its tests
abbrev pub AsksWholeSet : Ground → Ask → Type 0
AsksWholeSet t ask = (kind_of t ≡ kind.Set) × (is_allowed only_selects t ask ≡ true)

-- a scan of whole rows of a set, at a driver that repeats no row of a set
pub record RepeatsNone (t : Stage) (c : Scan) : Type 0 where
  pub held : Held
  pub holds : t.held c.driver ≡ Some held
  pub unique : held.abilities.unique ≡ true
  pub source : Source
  pub attached : held.attached c.source ≡ Some source
  pub whole : AsksWholeSet (ground_of source.ty) c.ask

-- what all scans read is told, and has its type; and drivers keep what they say of repeats
abbrev pub IsTold : Stage → Type 0
IsTold t = (c : Scan) (u : Ground) → ScanOf t c u → (rows : List Value) × (readings t c ≡ Some rows) × AllByRecursion (Inhabits u) rows
    × (RepeatsNone t c → IsDistinct same_value rows)

-- a memo of the plan that is run
abbrev pub MemoOf : Stage → ℕ → List ℕ → Node → Type 0
MemoOf t n frees p = Contains t.memos (n, (frees, p))
