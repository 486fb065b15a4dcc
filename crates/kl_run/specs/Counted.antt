-- What a run of a plan shows in its trace.
use Rattle.std.specs.Prelude.{◌≡◌, ℕ, zero, suc, ◌&&◌, max, Bool, true, List, [], ◌∷◌, length, map, Option, Some, None, cond}
use Rattle.std.specs.Prelude.{nat_eq, slice_get}
use Rattle.std.specs.List.{AllByRecursion, Contains, sum_by}
use Rattle.kl_outcome.specs.Outcome.{Name}
use Rattle.kl_value.specs.declared.Value.{Value}
use Rattle.kl_ask.specs.Asked.{raised_by, same_ask}
use Rattle.kl_ask.specs.Asks.{answers}
use Rattle.kl_ask.specs.Driver.{DriverKind, State, Rows}
use Rattle.kl_ask.specs.declared.ask.Ask.{Ask}
use Rattle.kl_ask.specs.declared.ask.Ask.TheVariants as asks
use Rattle.kl_ask.specs.declared.ask.ColTest.{ColTest}
use Rattle.kl_ask.specs.declared.settings.JoinRun.{JoinRun}
use Rattle.kl_ask.specs.declared.settings.Trace.{Trace}
use Rattle.kl_sqltext.specs.Meaning.{spj}
use Rattle.kl_sqltext.specs.Reading.{SqlReads}
use Rattle.kl_sqltext.specs.declared.ast.Spj.{Spj}
use Rattle.kl_plan.specs.Meaning.{Readings}
use Rattle.kl_plan.specs.Nodes.{Node}
use Rattle.kl_plan.specs.Numbers.{scans_in}
use Rattle.kl_plan.specs.Parts.{joins_of}
use Rattle.kl_plan.specs.Prices.{inner_starts}
use Rattle.kl_plan.specs.declared.plan.Scan.{Scan}
use Rattle.kl_scans.specs.Log.{Event, counted, fullest}
use Rattle.kl_counts.specs.Log.{Entry, entries_in, hits_in, misses_in, times_in}
use Rattle.kl_sources.specs.Sources.{contents}
use Rattle.kl_sources.specs.declared.source.Source.{Source}

-- a count for each scan, by its number, and nothing is counted but steps
pub record IsFreshTrace (p : Node) (rewriting : ℕ) (t : Trace) : Type 0 where
  pub steps : t.steps ≡ rewriting
  pub starts : t.starts ≡ map (λ c. (c.number, 0)) (scans_in p)
  pub joins : t.joins ≡ []
  pub hits : t.hits ≡ 0
  pub misses : t.misses ≡ 0
  pub peak : t.peak ≡ 0

abbrev pub count_in : Option (ℕ × ℕ) → ℕ
count_in (Some e) = e.1
count_in None = 0

-- how often the scan of a number was started
abbrev pub starts_of : List (ℕ × ℕ) → ℕ → ℕ
starts_of starts n = count_in (slice_get starts n)

-- ---- what was done, as a trace shows it

-- an execution of a join of a plan, which started its inner scan as often as its outer rows ask for
abbrev pub IsExecution : ℕ → Node → Entry → Type 0
IsExecution block p e = Contains (joins_of p) (e.join, e.way) × (e.starts ≡ inner_starts block e.way e.outer)

-- as a trace has it
abbrev pub as_run : Entry → JoinRun
as_run e = record { join = e.join; outer = counted e.outer; starts = counted e.starts }

-- the most rows of a block of any of these
abbrev pub greatest : ℕ → List Entry → ℕ
greatest block [] = 0
greatest block (e ∷ es) = max (fullest block e.way e.outer) (greatest block es)

-- A trace shows what was done while a plan was run, whatever it came to: how often each scan was started, the executions of joins
-- in their order and their greatest block, and how many look-ups found a value and how many did not. A count stands still at its
-- greatest value.
pub record Shows (block : ℕ) (p : Node) (es : List Event) (t : Trace) : Type 0 where
  pub numbers : map (λ e. e.0) t.starts ≡ map (λ c. c.number) (scans_in p)
  pub starts : (c : Scan) → Contains (scans_in p) c → starts_of t.starts c.number ≡ counted (times_in c.number es)
  pub executions : AllByRecursion (IsExecution block p) (entries_in es)
  pub joins : t.joins ≡ map as_run (entries_in es)
  pub peak : t.peak ≡ greatest block (entries_in es)
  pub hits : t.hits ≡ counted (length (hits_in es))
  pub misses : t.misses ≡ counted (length (misses_in es))

-- ---- what drivers were asked

-- A count that was raised so often: it stands still at its greatest value, and one that was never raised is as it was.
abbrev pub raised : ℕ → ℕ → ℕ
raised zero count = count
raised (suc n) count = raised_by (suc n) count

-- how often an ask was asked, by the kept list of a driver
abbrev pub times_of : Ask → List (Ask × ℕ) → ℕ
times_of ask [] = 0
times_of ask (kept ∷ asked) = cond (same_ask kept.0 ask) kept.1 (times_of ask asked)

abbrev pub asks_it : ℕ → Ask → Scan → Bool
asks_it d ask c = nat_eq c.driver d && same_ask c.ask ask

-- the starts of the scans that ask a driver this
abbrev pub starts_asking : ℕ → Ask → List Scan → List (ℕ × ℕ) → ℕ
starts_asking d ask cs starts = sum_by (λ c. cond (asks_it d ask c) (starts_of starts c.number) 0) cs

-- Each driver was asked each ask as often as the scans that ask it were started, and nothing else. (A count stands still at its
-- greatest value.)
abbrev pub AsksCounted : Node → List (ℕ × ℕ) → List State → List State → Type 0
AsksCounted p starts old new =
    (d : ℕ) (a b : State) (ask : Ask) → slice_get old d ≡ Some a → slice_get new d ≡ Some b
    → times_of ask b.asked ≡ raised (starts_asking d ask (scans_in p) starts) (times_of ask a.asked)

-- ---- what scans read

-- a marked source that stands at a driver under this name, where its contents are told to be these rows
abbrev pub IsToldTable : List DriverKind → List Source → (ℕ → Bool) → ℕ → (Name → List Value) → Name → Type 0
IsToldTable ks ss marks driver rows l =
    (i : ℕ) × (s : Source) × (slice_get ss i ≡ Some s) × (marks i ≡ true) × (s.driver ≡ driver) × (s.name ≡ l)
    × (contents ks s ≡ Some (Rows (rows l)))

-- what scans of the marked sources read, and scans by statements over them, where contents are told
pub record ReadsMarked (ks : List DriverKind) (ss : List Source) (marks : ℕ → Bool) (R : Readings) : Type 0 where
  pub alone : (i : ℕ) (s : Source) (rows : List Value) (c : Scan) (keep : List Name) (tests : List ColTest)
      → slice_get ss i ≡ Some s → marks i ≡ true → contents ks s ≡ Some (Rows rows) → c.driver ≡ s.driver
      → c.ask ≡ asks.Rows s.name keep tests
      → R c ≡ Some (answers rows keep tests)
  pub joined : (c : Scan) (text : List ℕ) (q : Spj) (rows : Name → List Value) → c.ask ≡ asks.Sql text → SqlReads text q
      → AllByRecursion (IsToldTable ks ss marks c.driver rows) q.tables
      → R c ≡ Some (spj rows q)
