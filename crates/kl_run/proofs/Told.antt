-- Where the values of the sources of a session are told, so is what its scans read.
use mathlib.Core.Path.{ap₂}
use Rattle.std.proofs.Common.{◌≡◌, ◌==◌, ◌||◌, ℕ, Bool, false, true, cond, length, List, [], ◌∷◌, map, filter, Option, Some, None, IsSome, slice_get, refl, sym, ap, ◌∙◌, subst}
use Rattle.std.specs.List.{AllByRecursion, IsDistinct, list_all}
use Rattle.std.proofs.lemmas.Bool.{and_parts}
use Rattle.std.proofs.lemmas.Option.{same_Some}
use Rattle.kl_value.specs.declared.Kind.TheVariants as kind
use Rattle.kl_value.specs.declared.Value.{Value}
use Rattle.kl_type.specs.Ground.{Ground, Row, rec, ground_of}
use Rattle.kl_outcome.specs.Outcome.{Name}
use Rattle.kl_outcome.specs.Typed.{Inhabits}
use Rattle.kl_core.specs.Typing.{HaveSources}
use Rattle.kl_ask.specs.Asks.{item_of, kind_of, columns, passes, shown, answers, same_names}
use Rattle.kl_ask.specs.Driver.{State, Source, row_type, same_value}
use Rattle.kl_sqltext.specs.Meaning.{spj}
use Rattle.kl_ask.specs.World.{World, IsReady, at_driver, at_place, at_source, source_at, type_in, types_of, value_of_rows, value_in, values_of}
use Rattle.kl_ask.specs.declared.ask.Ask.{Ask}
use Rattle.kl_ask.specs.declared.ask.Ask.TheVariants as asks
use Rattle.kl_ask.specs.declared.ask.ColTest.{ColTest}
use Rattle.kl_ask.specs.declared.session.Attached.{Attached}
use Rattle.kl_ask.proofs.Equal.{same_names as names_decide}
use Rattle.kl_ask.proofs.Whole.{whole_row}
use Rattle.kl_ship.proofs.Filtered.{all_filtered}
use Rattle.kl_plan.specs.declared.plan.Scan.{Scan}
use Rattle.kl_scans.specs.Held.{Held, held_in, held_at}
use Rattle.kl_scans.specs.Running.{Running, session}
use Rattle.kl_scans.specs.Stage.{Stage, stage, StandsAt, table_rows, table_types, joined_by, answered_by, rows_asked, read_by, read_in, AskOf, AsksWholeSet, RepeatsNone, ScanOf}
use Rattle.kl_scans.proofs.Statements.{reads_statement}
use Rattle.kl_run.proofs.Joined.{IsTold, spj_typed, spj_told}
use Rattle.kl_cursor.specs.Sense.{IsToldAt}
use Rattle.kl_run.proofs.Shown.{answers_typed}

abbrev pub held_of : State → Held
held_of s = record { abilities = s.kind.abilities; attached = s.attached }

pub held_there : (w : Running) (d : ℕ) (x : State) → slice_get w.drivers d ≡ Some x → (stage w).held d ≡ Some (held_of x)
unfolding stage held_at
held_there w d x is = ap held_in is

abbrev IsHeld : Option State → Held → Type 0
IsHeld o h = (x : State) × (o ≡ Some x) × (h ≡ held_of x)

held_is : (o : Option State) (h : Held) → held_in o ≡ Some h → IsHeld o h
held_is (Some x) h e = (x, refl, sym (same_Some _ _ e))
held_is None h e = absurd cc

holder : (w : Running) (d : ℕ) (h : Held) → (stage w).held d ≡ Some h → IsHeld (slice_get w.drivers d) h
unfolding stage held_at
holder w d h e = held_is (slice_get w.drivers d) h e

pub listed_in : (w : Running) (i : ℕ) → slice_get (stage w).sources i ≡ slice_get w.sources i
unfolding stage
listed_in w i = refl

type_at : (w : World) (i : ℕ) (s : Source) → source_at w i ≡ Some s → types_of w i ≡ Some (ground_of s.ty)
unfolding types_of
type_at w i s is = ap type_in is

value_at : (w : World) (i : ℕ) (s : Source) → source_at w i ≡ Some s → values_of w i ≡ value_of_rows (ground_of s.ty) s.rows
unfolding values_of
value_at w i s is = ap value_in is

-- a value is that of rows that are told
pub rows_of : (t : Ground) (o : Option (List Value)) (v : Value) → value_of_rows t o ≡ Some v → (rows : List Value) × (o ≡ Some rows)
rows_of t (Some rows) v e = (rows, refl)
rows_of t None v e = absurd cc

-- what is read of whole rows are those that pass the tests
abbrev passing : List ColTest → Value → Bool
passing tests v = list_all (passes v) tests

whole_answers : (t : Ground) (tests : List ColTest) (rows : List Value) → AllByRecursion (Inhabits t) rows → answers rows (columns t) tests ≡ filter (passing tests) rows
whole_answers t tests [] h = refl
whole_answers t tests (v ∷ rows) h = by (passing tests v) (whole_answers t tests rows h.1)
  where
    by : (b : Bool) → answers rows (columns t) tests ≡ filter (passing tests) rows → map (shown (columns t)) (cond b (v ∷ filter (passing tests) rows) (filter (passing tests) rows)) ≡ cond b (v ∷ filter (passing tests) rows) (filter (passing tests) rows)
    by true more = ap₂ (λ w ws. w ∷ ws) (whole_row t v h.0.0) more
    by false more = more

or_no : (b : Bool) → b || false ≡ true → b ≡ true
or_no true h = refl
or_no false h = h

whole_read : (t : Ground) (source : Name) (keep : List Name) (tests : List ColTest) (rows : List Value) → AsksWholeSet t (asks.Rows source keep tests) → AllByRecursion (Inhabits (item_of t)) rows → answers rows keep tests ≡ filter (passing tests) rows
whole_read t source keep tests rows h typed =
    let both = and_parts (length tests == 0 || true) (same_names keep (columns (item_of t)) || false) h.1 in
    let all : keep ≡ columns (item_of t) = (names_decide keep (columns (item_of t))).0 (or_no (same_names keep (columns (item_of t))) both.1) in
    ap (λ ls. answers rows ls tests) all ∙ whole_answers (item_of t) tests rows typed

-- rows that repeat none repeat none among those that pass
filtered_apart : (p : Value → Bool) (vs : List Value) → IsDistinct same_value vs → IsDistinct same_value (filter p vs)
unfolding IsDistinct
filtered_apart p [] d = d
filtered_apart p (v ∷ vs) d = by (p v) (filtered_apart p vs d.1)
  where
    by : (b : Bool) → IsDistinct same_value (filter p vs) → IsDistinct same_value (cond b (v ∷ filter p vs) (filter p vs))
    by true more = (all_filtered (λ w. same_value v w ≡ false) p vs d.0, more)
    by false more = more

-- sources at a driver that joins are told, and their rows are records
abbrev TablesTold : Stage → Held → ℕ → Type 0
TablesTold t h driver = h.abilities.join ≡ true → (l : Name) → StandsAt t driver l → IsSome (table_types h.attached l) → IsTold (h.attached l)

tables_told : (t : Stage) (h : Held) (driver : ℕ) (ls : List Name) → (l_told : (l : Name) → StandsAt t driver l → IsSome (table_types h.attached l) → IsTold (h.attached l))
    → AllByRecursion (StandsAt t driver) ls → AllByRecursion (λ l. IsSome (table_types h.attached l)) ls → AllByRecursion (λ l. IsTold (h.attached l)) ls
tables_told t h driver [] told stand there = tt
tables_told t h driver (l ∷ ls) told stand there = (told l stand.0 there.0, tables_told t h driver ls told stand.1 there.1)

-- what an ask reads of an attached source whose rows are told, and of which type that is
asked_told : (t : Stage) (h : Held) (c : Scan) (a : Source) (u : Ground) (rows : List Value) → h.attached c.source ≡ Some a → a.rows ≡ Some rows → AllByRecursion (Inhabits (item_of (ground_of a.ty))) rows → TablesTold t h c.driver
    → (ask : Ask) → AskOf t h c a ask u → (read : List Value) × (read_by h.attached ask ≡ Some read) × AllByRecursion (Inhabits u) read × (AsksWholeSet (ground_of a.ty) ask → (p : Value → Bool) × (read ≡ filter p rows))
asked_told t h c a u rows at told typed tables (asks.Rows source keep tests) f = (
  answers rows keep tests,
  ap (λ o. rows_asked o keep tests) (ap h.attached f.0 ∙ at) ∙ ap (λ o. answered_by o keep tests) told,
  subst (λ t. AllByRecursion (Inhabits t) (answers rows keep tests)) (sym f.3) (answers_typed keep tests (item_of (ground_of a.ty)) rows typed),
  λ whole. (passing tests, whole_read (ground_of a.ty) source keep tests rows whole typed),
)
asked_told t h c a u rows at told typed tables (asks.Sql text) f =
    let all = tables_told t h c.driver f.statement.tables (tables f.join) f.stand f.fits.tables in (
      spj (table_rows h.attached) f.statement,
      ap (joined_by h.attached) (reads_statement text f.statement f.reads) ∙ spj_told h.attached f.statement all f.fits.columns,
      subst (λ t. AllByRecursion (Inhabits t) (spj (table_rows h.attached) f.statement)) (sym f.shows) (spj_typed h.attached f.statement all f.fits.columns),
      λ whole. absurd (let never : false ≡ true = whole.1 in cc),
    )

-- a listed source, as its driver has it attached
table_here : (w : World) (driver place : ℕ) (entry : Attached) (x : State) (h : Held) (a : Source) → slice_get w.sources place ≡ Some entry → entry.driver ≡ Some driver → slice_get w.drivers driver ≡ Some x → h ≡ held_of x
    → h.attached entry.source ≡ Some a → source_at w place ≡ Some a
table_here w driver place entry x h a at held is same attached =
    let has : x.attached entry.source ≡ Some a = ap (λ k. k.attached entry.source) (sym same) ∙ attached in
    ap (λ o. at_source o w.drivers) at ∙ ap (λ o. at_place entry o w.drivers) held ∙ ap (at_driver entry) is ∙ has

read_there : (o : Option Held) (h : Held) (ask : Ask) (rows : List Value) → o ≡ Some h → read_by h.attached ask ≡ Some rows → read_in o ask ≡ Some rows
read_there o h ask rows is read = ap (λ q. read_in q ask) is ∙ read

-- drivers keep what they say of repeats
abbrev pub KeepApart : Running → Type 0
KeepApart w = (c : Scan) (u : Ground) (f : ScanOf (stage w) c u) (rows : List Value) → f.source.rows ≡ Some rows → f.held.abilities.unique ≡ true → kind_of (ground_of f.source.ty) ≡ kind.Set → IsDistinct same_value rows

-- a driver joins only records
abbrev pub JoinsRecords : Running → Type 0
JoinsRecords w = (driver : ℕ) (h : Held) (l : Name) (a : Source) → (stage w).held driver ≡ Some h → h.abilities.join ≡ true → StandsAt (stage w) driver l → h.attached l ≡ Some a → (r : Row) × (item_of (ground_of a.ty) ≡ rec r)

pub told_at : (w : Running) → IsReady (session w) → HaveSources (types_of (session w)) (values_of (session w)) → KeepApart w → JoinsRecords w → IsToldAt w
told_at w ready have apart records c u f =
    let x = holder w c.driver f.held f.holds in
    let at : slice_get w.sources f.place ≡ Some f.entry = sym (listed_in w f.place) ∙ f.listed in
    let here : source_at (session w) f.place ≡ Some f.source = table_here (session w) c.driver f.place f.entry x.0 f.held f.source at f.driver x.1 x.2 (ap f.held.attached (sym f.named) ∙ f.attached) in
    let v = have f.place (ground_of f.source.ty) (type_at (session w) f.place f.source here) in
    let rows = rows_of (ground_of f.source.ty) f.source.rows v.0 (sym (value_at (session w) f.place f.source here) ∙ v.1) in
    let listed = ready.listed f.place f.entry f.source at here in
    let read = asked_told (stage w) f.held c f.source u rows.0 f.attached rows.1 (listed.typed rows.0 rows.1) (λ join l stands there. table l stands (f.held.attached l) refl there join) c.ask f.ask in
    (read.0, read_there ((stage w).held c.driver) f.held c.ask read.0 f.holds read.1, read.2, none_twice rows.0 rows.1 read.0 read.3)
  where
    -- a table of the scan's driver
    table : (l : Name) → StandsAt (stage w) c.driver l → (o : Option Source) → f.held.attached l ≡ o → IsSome (row_type o) → f.held.abilities.join ≡ true → IsTold (f.held.attached l)
    table l stands (Some a) is there join =
        let x = holder w c.driver f.held f.holds in
        let at : slice_get w.sources stands.0 ≡ Some stands.1 = sym (listed_in w stands.0) ∙ stands.2 in
        let attached : f.held.attached stands.1.source ≡ Some a = ap f.held.attached stands.3 ∙ is in
        let here : source_at (session w) stands.0 ≡ Some a = table_here (session w) c.driver stands.0 stands.1 x.0 f.held a at stands.4 x.1 x.2 attached in
        let v = have stands.0 (ground_of a.ty) (type_at (session w) stands.0 a here) in
        let rows = rows_of (ground_of a.ty) a.rows v.0 (sym (value_at (session w) stands.0 a here) ∙ v.1) in
        let listed = ready.listed stands.0 stands.1 a at here in
        let record_is = records c.driver f.held l a f.holds join stands is in
        record {
          source = a;
          is = is;
          row = record_is.0;
          shape = record_is.1;
          rows = rows.0;
          told = rows.1;
          typed = subst (λ t. AllByRecursion (Inhabits t) rows.0) record_is.1 (listed.typed rows.0 rows.1);
        }
    table l stands None is there join = absurd cc

    none_twice : (rows : List Value) → f.source.rows ≡ Some rows → (read : List Value) → (AsksWholeSet (ground_of f.source.ty) c.ask → (p : Value → Bool) × (read ≡ filter p rows)) → RepeatsNone (stage w) c → IsDistinct same_value read
    none_twice rows told read all h =
        let held : f.held ≡ h.held = same_Some _ _ (sym f.holds ∙ h.holds) in
        let source : f.source ≡ h.source = same_Some _ _ (sym f.attached ∙ ap (λ k. k.attached c.source) held ∙ h.attached) in
        let whole : AsksWholeSet (ground_of f.source.ty) c.ask = subst (λ s. AsksWholeSet (ground_of s.ty) c.ask) (sym source) h.whole in
        let read_is = all whole in
        subst (IsDistinct same_value) (sym read_is.1) (filtered_apart read_is.0 rows (apart c u f rows told (ap (λ k. k.abilities.unique) held ∙ h.unique) whole.0))
