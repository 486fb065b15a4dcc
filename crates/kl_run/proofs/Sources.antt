-- What stands in a session at the sources of a catalogue.
use Rattle.std.proofs.Common.{◌≡◌, ℕ, zero, suc, ◌+◌, Bool, true, false, cond, List, [], ◌∷◌, Option, Some, None, slice_get, refl, sym, ap, ◌∙◌, subst, arith, zero-add, add-zero}
use Rattle.std.specs.List.{AllByRecursion, IsDistinct}
use Rattle.std.specs.Option.{option_map}
use Rattle.std.proofs.lemmas.Option.{same_Some, slice_get_within}
use Rattle.kl_value.specs.Canon.{canonical}
use Rattle.kl_value.specs.declared.Value.{Value}
use Rattle.kl_type.specs.Ground.{ground_of}
use Rattle.kl_outcome.specs.Outcome.{Name}
use Rattle.kl_ask.specs.Asks.{kind_of, answers}
use Rattle.kl_ask.specs.Driver.{DriverKind, State, Source as Held, Stored, Missing, Bad, Long, Deep, Rows, Suits, told_rows}
use Rattle.kl_ask.specs.Lists.{EachSteps}
use Rattle.kl_ask.specs.World.{at_driver, at_source, value_of_rows, value_in, values_of}
use Rattle.kl_ask.specs.declared.ask.ColTest.{ColTest}
use Rattle.kl_ask.specs.declared.ask.Ask.TheVariants as asks
use Rattle.kl_ask.specs.declared.session.Attached.{Attached}
use Rattle.kl_ask.specs.declared.settings.Settings.{Settings}
use Rattle.kl_ask.specs.declared.settings.Trace.{Trace}
use Rattle.kl_ask.proofs.Worlds.{there}
use Rattle.kl_plan.specs.Nodes.{Node}
use Rattle.kl_plan.specs.declared.plan.Scan.{Scan}
use Rattle.kl_scans.specs.Running.{Running, session}
use Rattle.kl_scans.specs.Stage.{stage, attached_by, joined_by, rows_there, answered_by, rows_asked, read_in}
use Rattle.kl_cursor.specs.Left.{reading}
use Rattle.kl_sources.specs.Attaching.{HaveNone, MayAttach, IsMarkedName, Stands, list_of, listed, world_of}
use Rattle.kl_sources.specs.Sources.{ArePlaced, IsFit, kinds_of, contents, names_of, same}
use Rattle.kl_sources.specs.declared.source.Source.{Source}
use Rattle.kl_sources.proofs.Lists.{of_all, unmapped}
use Rattle.kl_sources.proofs.NameLemmas.{one_of_name, same_here}
use Rattle.kl_sources.proofs.SessionLemmas.{shifts}
use Rattle.kl_run.specs.Counted.{IsToldTable, ReadsMarked}
use Rattle.kl_run.specs.Planned.{abilities_in, ship_source}
use Rattle.kl_run.specs.Running.{fresh_run}
use Rattle.kl_run.proofs.Joined.{HasRows, joined_reads}
use Rattle.kl_run.proofs.Told.{held_there}
use Rattle.kl_base.proofs.Each.{all_map}
use Rattle.kl_sqltext.specs.Meaning.{spj}
use Rattle.kl_sqltext.specs.Reading.{SqlReads}
use Rattle.kl_sqltext.specs.declared.ast.Spj.{Spj}
use Rattle.kl_scans.proofs.Statements.{reads_statement}

-- ---- lists

entry_as : (marks : ℕ → Bool) (n : ℕ) (ss : List Source) (i : ℕ) → slice_get (list_of marks n ss) i ≡ option_map (listed (marks (n + i))) (slice_get ss i)
entry_as marks n [] i = refl
entry_as marks n (s ∷ ss) zero = ap (λ k. Some (listed (marks k) s)) (sym (add-zero n))
entry_as marks n (s ∷ ss) (suc i) = entry_as marks (suc n) ss i ∙ ap (λ b. option_map (listed b) (slice_get ss i)) (shifts marks n i)

pub told_is : (o : Option Stored) (rows : List Value) → told_rows o ≡ Some rows → o ≡ Some (Rows rows)
told_is None rows e = absurd cc
told_is (Some Missing) rows e = absurd cc
told_is (Some (Bad place)) rows e = absurd cc
told_is (Some (Long most)) rows e = absurd cc
told_is (Some (Deep place)) rows e = absurd cc
told_is (Some (Rows all)) rows e = ap (λ q. Some (Rows q)) (same_Some _ _ e)

-- the source of a name
abbrev pub named : Name → List Source → Option Source
named l [] = None
named l (s ∷ ss) = cond (same s.name l) (Some s) (named l ss)

none_named : (ss : List Source) (i : ℕ) (s : Source) (x : Name) → AllByRecursion (λ y. same x y ≡ false) (names_of ss) → slice_get ss i ≡ Some s → same x s.name ≡ false
none_named [] i s x h at = absurd cc
none_named (t ∷ ss) zero s x h at = subst (λ (q : Source). same x q.name ≡ false) (same_Some _ _ at) h.0
none_named (t ∷ ss) (suc i) s x h at = none_named ss i s x h.1 at

pub named_is : (ss : List Source) (i : ℕ) (s : Source) → IsDistinct same (names_of ss) → slice_get ss i ≡ Some s → named s.name ss ≡ Some s
unfolding IsDistinct
named_is [] i s d at = absurd cc
named_is (t ∷ ss) zero s d at =
    let e : t ≡ s = same_Some _ _ at in
    let here : same t.name s.name ≡ true = same_here t.name s.name (ap (λ (q : Source). q.name) e) in
    rw here (ap (λ q. Some q) e)
named_is (t ∷ ss) (suc i) s d at =
    let other : same t.name s.name ≡ false = none_named ss i s t.name d.0 at in
    rw other (named_is ss i s d.1 at)

-- ---- drivers

-- the driver of a source before and after attaching
pub record DriverOf (ds mid : List State) (marks : ℕ → Bool) (ss : List Source) (s : Source) : Type 0 where
  pub old : State
  pub was : slice_get ds s.driver ≡ Some old
  pub now : State
  pub is : slice_get mid s.driver ≡ Some now
  pub may : MayAttach marks ss old now
  pub kind : DriverKind
  pub known : slice_get (kinds_of ds) s.driver ≡ Some kind
  pub abilities : kind.abilities ≡ now.kind.abilities
  pub suits : Suits kind.abilities (ground_of s.ty)

module _ (ds mid : List State) (ss : List Source) (marks : ℕ → Bool) (placed : ArePlaced (kinds_of ds) ss) (none : HaveNone ds) (steps : EachSteps (MayAttach marks ss) ds mid) where
  pub driver_of : (i : ℕ) (s : Source) → slice_get ss i ≡ Some s → DriverOf ds mid marks ss s
  driver_of i s at =
      let fit = of_all (IsFit (kinds_of ds)) ss i s placed.fit at in
      let old = unmapped (λ d. d.kind) ds s.driver fit.0 fit.1 in
      let now = there mid s.driver (omega (arith, slice_get_within ds s.driver old.0 old.1, steps.size)) in
      let may = steps.each s.driver old.0 now.0 old.1 now.1 in
      record {
        old = old.0;
        was = old.1;
        now = now.0;
        is = now.1;
        may = may;
        kind = fit.0;
        known = fit.1;
        abilities = ap (λ k. k.abilities) (sym old.2 ∙ sym may.keeps.kind);
        suits = fit.2;
      }

  pub abilities_of : (i : ℕ) (s : Source) (at : slice_get ss i ≡ Some s) → (ship_source (kinds_of ds) s).abilities ≡ (driver_of i s at).now.kind.abilities
  abilities_of i s at = ap abilities_in (driver_of i s at).known ∙ (driver_of i s at).abilities

  -- a source that is not marked is attached nowhere
  pub unattached : (i : ℕ) (s : Source) (at : slice_get ss i ≡ Some s) → marks i ≡ false → (driver_of i s at).now.attached s.name ≡ None
  unattached i s at off =
      let d = driver_of i s at in
      d.may.others s.name unmarked ∙ none s.driver d.old d.was s.name
    where
      unmarked : IsMarkedName marks ss s.name → ⊥
      unmarked h =
          let same : h.0 ≡ i = one_of_name ss h.0 i h.1 s placed.differ h.2 at h.4 in
          let on : marks i ≡ true = subst (λ k. marks k ≡ true) same h.3 in
          let no : true ≡ false = sym on ∙ off in
          cc

  module _ (stand : (i : ℕ) (s : Source) → slice_get ss i ≡ Some s → marks i ≡ true → Stands (kinds_of ds) mid s) (settings : Settings) (trace : Trace) (plan : Node) where
    abbrev w : Running
    w = fresh_run plan (world_of mid (list_of marks 0 ss) settings trace)

    pub entry_of : (i : ℕ) (s : Source) → slice_get ss i ≡ Some s → slice_get w.sources i ≡ Some (listed (marks i) s)
    entry_of i s at = entry_as marks 0 ss i ∙ ap (option_map (listed (marks (0 + i)))) at ∙ ap (λ k. Some (listed (marks k) s)) (zero-add i)

    -- what stands in the session is what is made of a source of the catalogue
    pub entry_from : (i : ℕ) (e : Attached) → slice_get w.sources i ≡ Some e → (s : Source) × (slice_get ss i ≡ Some s) × (listed (marks i) s ≡ e)
    entry_from i e at = of_some (slice_get ss i) refl (sym (entry_as marks 0 ss i) ∙ at)
      where
        of_some : (o : Option Source) → slice_get ss i ≡ o → option_map (listed (marks (0 + i))) o ≡ Some e → (s : Source) × (slice_get ss i ≡ Some s) × (listed (marks i) s ≡ e)
        of_some (Some s) is same = (s, is, ap (λ k. listed (marks k) s) (sym (zero-add i)) ∙ same_Some _ _ same)
        of_some None is same = absurd cc

    -- ---- what scans read

    reads_at : (x : State) (s : Source) (c : Scan) (keep : List Name) (tests : List ColTest) → slice_get mid s.driver ≡ Some x → c.driver ≡ s.driver → c.ask ≡ asks.Rows s.name keep tests
        → reading w c ≡ rows_asked (x.attached s.name) keep tests
    reads_at x s c keep tests is at ask = ap (λ d. read_in ((stage w).held d) c.ask) at ∙ ap (λ a. read_in ((stage w).held s.driver) a) ask ∙ ap (λ o. read_in o (asks.Rows s.name keep tests)) (held_there w s.driver x is)

    pub reads_marked : (i : ℕ) (s : Source) (c : Scan) (keep : List Name) (tests : List ColTest) → slice_get ss i ≡ Some s → marks i ≡ true → c.driver ≡ s.driver → c.ask ≡ asks.Rows s.name keep tests
        → reading w c ≡ answered_by (told_rows (contents (kinds_of ds) s)) keep tests
    reads_marked i s c keep tests at on d ask =
        let st = stand i s at on in
        reads_at st.driver s c keep tests st.there d ask ∙ ap (λ o. rows_asked o keep tests) st.attached

    pub reads_unmarked : (i : ℕ) (s : Source) (c : Scan) (keep : List Name) (tests : List ColTest) → slice_get ss i ≡ Some s → marks i ≡ false → c.driver ≡ s.driver → c.ask ≡ asks.Rows s.name keep tests
        → reading w c ≡ Some (answers [] keep tests)
    reads_unmarked i s c keep tests at off d ask =
        let here = driver_of i s at in
        reads_at here.now s c keep tests here.is d ask ∙ ap (λ o. rows_asked o keep tests) (unattached i s at off)

    -- what the driver of the source of a name has attached under it
    abbrev attached_at : Option State → Name → Option Held
    attached_at (Some x) l = x.attached l
    attached_at None l = None

    abbrev attached_of : Option Source → Option Held
    attached_of (Some s) = attached_at (slice_get mid s.driver) s.name
    attached_of None = None

    pub attached_named : Name → Option Held
    attached_named l = attached_of (named l ss)

    -- at the driver of a source that is what this one has attached
    pub attached_there : (i : ℕ) (s : Source) (at : slice_get ss i ≡ Some s) (driver : ℕ) → driver ≡ s.driver → attached_by ((stage w).held driver) s.name ≡ attached_named s.name
    unfolding attached_named
    attached_there i s at driver same =
        let d = driver_of i s at in
        ap (λ k. attached_by ((stage w).held k) s.name) same ∙ ap (λ o. attached_by o s.name) (held_there w s.driver d.now d.is) ∙ sym (ap attached_of (named_is ss i s placed.differ at) ∙ ap (λ o. attached_at o s.name) d.is)

    pub named_marked : (i : ℕ) (s : Source) → slice_get ss i ≡ Some s → (on : marks i ≡ true) → rows_there (attached_named s.name) ≡ told_rows (contents (kinds_of ds) s)
    unfolding attached_named
    named_marked i s at on =
        let st = stand i s at on in
        ap (λ o. rows_there (attached_of o)) (named_is ss i s placed.differ at) ∙ ap (λ o. rows_there (attached_at o s.name)) st.there ∙ ap rows_there st.attached

    pub named_unmarked : (i : ℕ) (s : Source) → slice_get ss i ≡ Some s → marks i ≡ false → rows_there (attached_named s.name) ≡ Some []
    unfolding attached_named
    named_unmarked i s at off =
        let d = driver_of i s at in
        ap (λ o. rows_there (attached_of o)) (named_is ss i s placed.differ at) ∙ ap (λ o. rows_there (attached_at o s.name)) d.is ∙ ap rows_there (unattached i s at off)

    -- a scan by a statement, over tables of its driver
    pub joined_at : (c : Scan) (text : List ℕ) (q : Spj) (rows : Name → List Value) → c.ask ≡ asks.Sql text → SqlReads text q → AllByRecursion (HasRows (attached_by ((stage w).held c.driver)) rows) q.tables → reading w c ≡ Some (spj rows q)
    joined_at c text q rows ask reads tables =
        ap (read_in ((stage w).held c.driver)) ask ∙ ap (joined_by (attached_by ((stage w).held c.driver))) (reads_statement text q reads) ∙ joined_reads (attached_by ((stage w).held c.driver)) rows q tables

    told_table : (c : Scan) (rows : Name → List Value) (l : Name) → IsToldTable (kinds_of ds) ss marks c.driver rows l → HasRows (attached_by ((stage w).held c.driver)) rows l
    told_table c rows l m =
        let driver : c.driver ≡ m.1.driver = sym m.4 in
        ap (λ n. rows_there (attached_by ((stage w).held c.driver) n)) (sym m.5)
        ∙ ap rows_there (attached_there m.0 m.1 m.2 c.driver driver) ∙ named_marked m.0 m.1 m.2 m.3 ∙ ap told_rows m.6

    pub reads : ReadsMarked (kinds_of ds) ss marks (reading w)
    reads = record {
      alone = λ i s rows c keep tests at on is d ask. reads_marked i s c keep tests at on d ask ∙ ap (λ o. answered_by (told_rows o) keep tests) is;
      joined = λ c text q rows ask reads tables. joined_at c text q rows ask reads (all_map (IsToldTable (kinds_of ds) ss marks c.driver rows) (HasRows (attached_by ((stage w).held c.driver)) rows) q.tables (told_table c rows) tables);
    }

    -- ---- values

    value_at : (i : ℕ) (s : Source) (b : Bool) (a : Held) → slice_get ss i ≡ Some s → marks i ≡ b → at_source (Some (listed b s)) mid ≡ Some a → values_of (session w) i ≡ value_of_rows (ground_of a.ty) a.rows
    unfolding values_of
    value_at i s b a at is here = ap (λ o. value_in (at_source o mid)) (entry_of i s at ∙ ap (λ m. Some (listed m s)) is) ∙ ap value_in here

    pub value_marked : (i : ℕ) (s : Source) → slice_get ss i ≡ Some s → marks i ≡ true → values_of (session w) i ≡ value_of_rows (ground_of s.ty) (told_rows (contents (kinds_of ds) s))
    value_marked i s at on =
        let st = stand i s at on in
        value_at i s true (record { ty = s.ty; rows = told_rows (contents (kinds_of ds) s); count = st.count; kept = st.kept }) at on (ap (at_driver (listed true s)) st.there ∙ st.attached)

    pub value_unmarked : (i : ℕ) (s : Source) → slice_get ss i ≡ Some s → marks i ≡ false → values_of (session w) i ≡ Some (canonical (kind_of (ground_of s.ty)) [])
    value_unmarked i s at off = value_at i s false (record { ty = s.ty; rows = Some []; count = 0; kept = None }) at off refl
