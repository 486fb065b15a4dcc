-- A plan in the session of a catalogue.
use Rattle.std.proofs.Common.{◌≡◌, ◌≢◌, ⊎_elim, ℕ, suc, ◌<◌, nat_eq, Bool, true, false, ◌&&◌, List, [], ◌∷◌, map, Option, Some, None, cond, slice_get, refl, sym, ap, ◌∙◌, subst}
use Rattle.std.specs.Prelude.{⊤}
use Rattle.std.specs.List.{AllByRecursion, Contains, IsDistinct}
use Rattle.std.proofs.lemmas.Option.{same_Some}
use Rattle.kl_value.specs.declared.Kind.{Kind}
use Rattle.kl_value.specs.declared.Kind.TheVariants as kind
use Rattle.kl_value.specs.declared.Value.{Value}
use Rattle.kl_type.specs.Ground.{Ground, Row, rec as rec_type, coll, IsGround, ground_of}
use Rattle.kl_type.specs.declared.Ty.{Ty}
use Rattle.kl_outcome.specs.Outcome.{Name, fine, flow, items_of}
use Rattle.kl_outcome.proofs.OutcomeTypes.{FlowOf}
use Rattle.kl_core.specs.Core.{core}
use Rattle.kl_core.specs.Leaves.{Leaves}
use Rattle.kl_core.specs.Trees.{Tree, Ext, Source as Place}
use Rattle.kl_core.specs.Typing.{SourceTypes, CoreTypes, HaveSources}
use Rattle.kl_rules.specs.Preserving.{Preserves}
use Rattle.kl_ask.specs.Asks.{columns, item_of, kind_of, shown_type, is_allowed, AskFits}
use Rattle.kl_ask.specs.Driver.{DriverKind, State, Source as Held, Rows, IsColl, same_value, row_type, told_rows}
use Rattle.kl_ask.specs.Lists.{EachSteps}
use Rattle.kl_ask.specs.Statements.{RowTypes}
use Rattle.kl_ask.specs.World.{World, types_of, values_of, value_of_rows}
use Rattle.kl_ask.specs.declared.ask.Abilities.{Abilities}
use Rattle.kl_ask.specs.declared.ask.Ask.{Ask}
use Rattle.kl_ask.specs.declared.ask.Ask.TheVariants as asks
use Rattle.kl_ask.specs.declared.ask.ColTest.{ColTest}
use Rattle.kl_ask.specs.declared.session.Attached.{Attached}
use Rattle.kl_ask.specs.declared.settings.Settings.{Settings}
use Rattle.kl_ask.specs.declared.settings.Trace.{Trace}
use Rattle.kl_sqltext.specs.Written.{statement_text}
use Rattle.kl_sqltext.specs.declared.ast.Spj.{Spj}
use Rattle.kl_sqltext.specs.declared.ast.SqlTest.{SqlTest}
use Rattle.kl_ship.specs.Contents.{AreSources, IsTable, type_in, types_in, Holds, HoldAll}
use Rattle.kl_ship.specs.Delegation.{body_left}
use Rattle.kl_ship.specs.Joined.{Joins, statement}
use Rattle.kl_plan.specs.Meaning.{plan, worth, coming}
use Rattle.kl_plan.specs.Nodes.{Node}
use Rattle.kl_plan.specs.Parts.{memos_of, parts_of}
use Rattle.kl_plan.specs.Typing.{AnyMemo, PlanTypes}
use Rattle.kl_plan.proofs.Holding.{memo_numbers, parts_in_all}
use Rattle.kl_plan.proofs.ListedTypes.{types_of_parts}
use Rattle.kl_joins.specs.Bare.{Bare}
use Rattle.kl_joins.specs.Numbered.{SameScan}
use Rattle.kl_joins.proofs.Finished.{finished_typed, finished_worth, finished_list}
use Rattle.kl_ship.proofs.Bare.{sent_bare}
use Rattle.kl_ship.proofs.Fitting.{rows_flow}
use Rattle.kl_ship.proofs.Law.{told, law, law_coming}
use Rattle.kl_ship.specs.Ships.{IsScan, IsWholeScan, ByRows, BySql, ByAsk, columns_asked}
use Rattle.kl_ship.specs.Sources.{ground, fits}
use Rattle.kl_ship.specs.Sense.{AreTypesOf, AskOf as ShipAskOf}
use Rattle.kl_ship.specs.declared.needs.Need.{Need}
use Rattle.kl_ship.specs.declared.needs.Need.TheVariants as need
use Rattle.kl_plan.specs.declared.plan.Scan.{Scan}
use Rattle.kl_ship.specs.declared.source.ShipSource.{ShipSource}
use Rattle.kl_ship.proofs.Fronts.{left_typed}
use Rattle.kl_ship.proofs.Over.{types_over}
use Rattle.kl_ship.proofs.Sense.{flat_record, shipped_types, whole_ask, rows_asked, rows_ground, rows_sense, abilities, shown, sql_asked, sql_fits, sql_ground, sql_types}
use Rattle.kl_ship.proofs.Sources.{Known, known}
use Rattle.kl_scans.specs.Held.{Held as Holder}
use Rattle.kl_scans.specs.Stage.{Stage, stage, attached_by, rows_there, or_none, table_rows, table_types, answered_by, StandsAt, AskOf, ScanOf, MemoOf}
use Rattle.kl_scans.specs.Right.{IsReadyRun}
use Rattle.kl_scans.specs.Running.{Running, session}
use Rattle.kl_cursor.specs.Left.{reading}
use Rattle.kl_cursor.specs.Sense.{TypesAt}
use Rattle.kl_sources.specs.Attaching.{HaveNone, HasTyped, MayAttach, Serves, Stands, list_of, listed, world_of}
use Rattle.kl_sources.specs.Sources.{ArePlaced, kinds_of, contents}
use Rattle.kl_sources.specs.declared.source.Source.{Source}
use Rattle.kl_sources.proofs.Lists.{unmapped}
use Rattle.kl_base.proofs.Each.{all_map}
use Rattle.kl_base.proofs.Places.{get-map}
use Rattle.kl_run.specs.Planned.{IsPlanOf, abilities_in, ship_source, ships_of}
use Rattle.kl_run.specs.Running.{Runs, fresh_run}
use Rattle.kl_run.proofs.Joined.{Agree, fits_same, type_same, HasRows}
use Rattle.kl_run.proofs.Kept.{room_where}
use Rattle.kl_run.proofs.Means.{same_types}
use Rattle.kl_run.proofs.Shipped.{are_sources}
use Rattle.kl_run.proofs.Sources.{named, named_is, told_is, driver_of, abilities_of, entry_of, entry_from, reads_marked, reads_unmarked, reads, attached_named, attached_there, joined_at, named_marked, named_unmarked, value_marked, value_unmarked}
use Rattle.kl_run.proofs.Told.{held_of, held_there, listed_in, rows_of, KeepApart, JoinsRecords, told_at}

none_apart : IsDistinct same_value []
unfolding IsDistinct
none_apart = tt

-- an ask of rows of a source, as plans are made for it, is one of the source that its driver has attached
ask_of : (ss : List ShipSource) (t : Stage) (h : Holder) (c : Scan) (s : ShipSource) (a : Held) (source : Name) (keep : List Name) (tests : List ColTest) (u : Ground) → s.abilities ≡ h.abilities → s.name ≡ c.source → s.ty ≡ a.ty
    → ShipAskOf ss s (asks.Rows source keep tests) c.kind u → AskOf t h c a (asks.Rows source keep tests) u
ask_of ss t h c s a source keep tests u e f g x =
    let fitting = subst (Fitting h.abilities) g (subst (λ can. Fitting can s.ty) e (x.1, x.2, x.3, x.4)) in
    (x.0 ∙ f, fitting.0, fitting.1, fitting.2, fitting.3)
  where
    Fitting : Abilities → Ty → Type 0
    Fitting can ty = (is_allowed can (ground_of ty) (asks.Rows source keep tests) ≡ true) × AskFits (ground_of ty) keep tests × (u ≡ shown_type keep (item_of (ground_of ty))) × (c.kind ≡ kind.List → kind_of (ground_of ty) ≡ kind.List)

-- the types of the rows of sources, by name
abbrev type_of_named : Option Source → Option Ground
type_of_named (Some s) = Some (item_of (ground_of s.ty))
type_of_named None = None

-- ---- scans by other numbers

-- the same scan under another number
abbrev under : ℕ → Scan → Scan
under n c = record { number = n; driver = c.driver; source = c.source; ask = c.ask; kind = c.kind }

under_is : (c d : Scan) → SameScan c d → under d.number c ≡ d
under_is c d s = rw (s.driver, s.source, s.ask, s.kind) refl

ask_under : (t : Stage) (h : Holder) (c : Scan) (n : ℕ) (a : Held) (u : Ground) (ask : Ask) → AskOf t h c a ask u → AskOf t h (under n c) a ask u
ask_under t h c n a u (asks.Rows source keep tests) f = f
ask_under t h c n a u (asks.Sql text) f = record {
  statement = f.statement;
  reads = f.reads;
  join = f.join;
  no_list = f.no_list;
  stand = f.stand;
  fits = f.fits;
  shows = f.shows;
}

scan_under : (t : Stage) (c : Scan) (n : ℕ) (u : Ground) → ScanOf t c u → ScanOf t (under n c) u
scan_under t c n u f = record {
  place = f.place;
  entry = f.entry;
  listed = f.listed;
  named = f.named;
  driver = f.driver;
  held = f.held;
  holds = f.holds;
  source = f.source;
  attached = f.attached;
  ask = ask_under t f.held c n f.source u c.ask f.ask;
}

-- a scan makes sense, and reads what it reads, whatever its number is
scan_same : (t : Stage) (c d : Scan) (u : Ground) → SameScan c d → ScanOf t c u → ScanOf t d u
scan_same t c d u s f = subst (λ x. ScanOf t x u) (under_is c d s) (scan_under t c d.number u f)

reads_same : (w : Running) (c d : Scan) → SameScan c d → reading w c ≡ reading w d
reads_same w c d s = ap (reading w) (under_is c d s)

-- ---- the memos of a run

memos_here : (w : Running) → (stage w).memos ≡ w.memos
unfolding stage
memos_here w = refl

-- of the plan that is run each memo is listed
typed_listed : (w : Running) (p : Node) (s : Ground) → w.memos ≡ memos_of p → PlanTypes (ScanOf (stage w)) AnyMemo [] p s → TypesAt w [] p s
typed_listed w p s is h =
    types_of_parts (parts_of p) (ScanOf (stage w)) (ScanOf (stage w)) AnyMemo (MemoOf (stage w)) (λ c u j o. o)
    (λ n frees q j l. subst (λ ms. Contains ms (n, (frees, q))) (sym (memos_here w ∙ is)) j) p [] s (parts_in_all p) h

module _ (ds mid : List State) (ss : List Source) (marks : ℕ → Bool) (placed : ArePlaced (kinds_of ds) ss) (none : HaveNone ds) (steps : EachSteps (MayAttach marks ss) ds mid)
    (stand : (i : ℕ) (s : Source) → slice_get ss i ≡ Some s → marks i ≡ true → Stands (kinds_of ds) mid s) (settings : Settings) (trace : Trace) (p : Node) where
  abbrev w : Running
  w = fresh_run p (world_of mid (list_of marks 0 ss) settings trace)

  abbrev ks : List DriverKind
  ks = kinds_of ds

  abbrev ships : List ShipSource
  ships = ships_of ks ss

  module _ (serves : Serves ks marks ss (session w)) where
    types_same : (i : ℕ) → types_of (session w) i ≡ types_in ships i
    types_same i = serves.types i ∙ same_types ks ss i

    -- ---- the plan makes sense

    -- the types of the marked sources alone
    abbrev S : SourceTypes
    S i = cond (marks i) (types_of (session w) i) None

    marked : (i : ℕ) (t : Ground) → S i ≡ Some t → (marks i ≡ true) × (types_of (session w) i ≡ Some t)
    marked i t e = by (marks i) refl e
      where
        by : (b : Bool) → marks i ≡ b → cond b (types_of (session w) i) None ≡ Some t → (marks i ≡ true) × (types_of (session w) i ≡ Some t)
        by true is h = (is, h)
        by false is h = absurd cc

    knows : (i : ℕ) (t : Ground) → S i ≡ Some t → Known ships i t
    knows i t e = known ships i t (sym (types_same i) ∙ (marked i t e).1)

    collection_at : (i : ℕ) (s : ShipSource) → slice_get ships i ≡ Some s → IsColl (ground s)
    collection_at i s at =
        let q = unmapped (ship_source ks) ss i s at in
        subst (λ x. IsColl (ground x)) q.2 (driver_of ds mid ss marks placed none steps i q.0 q.1).suits.collection

    fit : AreSources ships
    fit = are_sources ks ss placed

    -- the driver of a marked source can do what plans are made for
    can_do : (i : ℕ) (s : Source) (at : slice_get ss i ≡ Some s) (on : marks i ≡ true) → (ship_source ks s).abilities ≡ (stand i s at on).driver.kind.abilities
    can_do i s at on =
        let st = stand i s at on in
        let d = driver_of ds mid ss marks placed none steps i s at in
        let here : st.driver ≡ d.now = same_Some _ _ (sym st.there ∙ d.is) in
        abilities_of ds mid ss marks placed none steps i s at ∙ ap (λ (x : State). x.kind.abilities) (sym here)

    listed_at : (i : ℕ) (s : Source) → slice_get ss i ≡ Some s → marks i ≡ true → slice_get (stage w).sources i ≡ Some (record { source = s.name; ty = s.ty; driver = Some s.driver })
    listed_at i s at on = listed_in w i ∙ entry_of ds mid ss marks placed none steps stand settings trace p i s at ∙ ap (λ b. Some (listed b s)) on

    abbrev held_as : (i : ℕ) (s : Source) → slice_get ss i ≡ Some s → marks i ≡ true → Held
    held_as i s at on = record { ty = s.ty; rows = told_rows (contents ks s); count = (stand i s at on).count; kept = (stand i s at on).kept }

    scan_of : (i : ℕ) (s : Source) (c : Scan) (at : slice_get ss i ≡ Some s) (on : marks i ≡ true) → c.driver ≡ s.driver → c.source ≡ s.name → (u : Ground)
        → AskOf (stage w) (held_of (stand i s at on).driver) c (held_as i s at on) c.ask u → ScanOf (stage w) c u
    scan_of i s c at on driver named u ask =
        let st = stand i s at on in
        record {
          place = i;
          entry = record { source = s.name; ty = s.ty; driver = Some s.driver };
          listed = listed_at i s at on;
          named = named;
          driver = ap Some (sym driver);
          held = held_of st.driver;
          holds = held_there w c.driver st.driver (ap (slice_get mid) driver ∙ st.there);
          source = held_as i s at on;
          attached = ap st.driver.attached named ∙ st.attached;
          ask = ask;
        }

    -- a scan of rows
    scan_at : (i : ℕ) (t : Ground) (s : ShipSource) (c : Scan) (source : Name) (keep : List Name) (tests : List ColTest) (u : Ground) → S i ≡ Some t → slice_get ships i ≡ Some s → c.driver ≡ s.driver → c.source ≡ s.name
        → c.ask ≡ asks.Rows source keep tests → ShipAskOf ships s c.ask c.kind u → ScanOf (stage w) c u
    scan_at i t s c source keep tests u e at driver named is ask =
        let q = unmapped (ship_source ks) ss i s at in
        let on = (marked i t e).0 in
        let name : c.source ≡ q.0.name = named ∙ ap (λ (x : ShipSource). x.name) (sym q.2) in
        scan_of i q.0 c q.1 on (driver ∙ ap (λ (x : ShipSource). x.driver) (sym q.2)) name u
        (subst (λ a. AskOf (stage w) (held_of (stand i q.0 q.1 on).driver) c (held_as i q.0 q.1 on) a u) (sym is)
        (ask_of ships (stage w) (held_of (stand i q.0 q.1 on).driver) c (ship_source ks q.0) (held_as i q.0 q.1 on) source keep tests u (can_do i q.0 q.1 on) (sym name) refl
        (subst (λ a. ShipAskOf ships (ship_source ks q.0) a c.kind u) is (subst (λ x. ShipAskOf ships x c.ask c.kind u) (sym q.2) ask))))

    asked : (i : ℕ) (t : Ground) (s : ShipSource) (v : Need) (n : ℕ) (c : Scan) → S i ≡ Some t → slice_get ships i ≡ Some s → IsWholeScan s v n c → IsGround (ground s) → ScanOf (stage w) c (item_of (ground s))
    asked i t s v n c e at is good = scan_at i t s c s.name (columns (item_of (ground s))) [] (item_of (ground s)) e at is.scan.driver is.scan.source is.ask (whole_ask ships s v n c is good)

    -- ---- scans by statements

    -- a marked source of a driver
    abbrev IsMarkedTable : ℕ → Name → Type 0
    IsMarkedTable driver l = (i : ℕ) × (x : Source) × (slice_get ss i ≡ Some x) × (marks i ≡ true) × (x.name ≡ l) × (x.driver ≡ driver)

    stands_at : (driver : ℕ) (l : Name) → IsMarkedTable driver l → StandsAt (stage w) driver l
    stands_at driver l m = (m.0, record { source = m.1.name; ty = m.1.ty; driver = Some m.1.driver }, listed_at m.0 m.1 m.2 m.3, m.4, ap Some m.5)

    types : RowTypes
    types l = type_of_named (named l ss)

    type_named : (i : ℕ) (x : Source) → slice_get ss i ≡ Some x → types x.name ≡ Some (item_of (ground_of x.ty))
    unfolding types
    type_named i x at = ap type_of_named (named_is ss i x placed.differ at)

    types_are : (driver : ℕ) → AreTypesOf ships driver types
    types_are driver i t at same =
        let q = unmapped (ship_source ks) ss i t at in
        subst (λ x. types x.name ≡ Some (item_of (ground x))) q.2 (type_named i q.0 q.1)

    -- what the driver has attached has that type
    type_attached : (driver : ℕ) (x : State) (l : Name) → slice_get mid driver ≡ Some x → IsMarkedTable driver l → types l ≡ table_types x.attached l
    type_attached driver x l there m =
        let st = stand m.0 m.1 m.2 m.3 in
        let here : st.driver ≡ x = same_Some _ _ (sym st.there ∙ ap (slice_get mid) m.5 ∙ there) in
        let has : x.attached m.1.name ≡ Some (held_as m.0 m.1 m.2 m.3) = ap (λ (y : State). y.attached m.1.name) (sym here) ∙ st.attached in
        subst (λ n. types n ≡ table_types x.attached n) m.4 (type_named m.0 m.1 m.2 ∙ sym (ap row_type has))

    left_body : (k : Kind) (b : Tree) (n : ℕ) (G : List Ground) (v : Ground) (select : Bool) → CoreTypes S G b v → CoreTypes S G (body_left select k n b) v
    left_body k b n G v true h = left_typed S k b n G v h
    left_body k b n G v false h = h

    -- each source that joins is marked
    joined_marked : (s : ShipSource) (k : Kind) (select : Bool) (ts : List ShipSource) (n : ℕ) (b : Tree) (qs : List SqlTest) (d : Tree) (G : List Ground) (v : Ground) → CoreTypes S G b (coll k v) → Joins ships s k select n b ts qs d
        → AllByRecursion (IsMarkedTable s.driver) (map (λ t. t.name) ts)
    joined_marked s k select [] n b qs d G v h j = tt
    joined_marked s k select (t ∷ ts) n b qs d G v h j =
        let x : CoreTypes S G (Ext k j.0 (Place j.1)) (coll k v) = subst (λ y. CoreTypes S G y (coll k v)) j.3 (left_body k b n G (coll k v) select h) in
        let q = unmapped (ship_source ks) ss j.1 t j.4.listed in (
          (j.1, q.0, q.1, (marked j.1 (coll x.1 x.2) x.4.0).0, ap (λ (y : ShipSource). y.name) q.2, ap (λ (y : ShipSource). y.driver) q.2 ∙ j.4.driver),
          joined_marked s k true ts (suc n) j.0 j.2 d (x.2 ∷ G) v x.5 j.6,
        )

    module _ (i : ℕ) (t : Ground) (s : ShipSource) (k : Kind) (b d : Tree) (n : ℕ) (c : Scan) (G : List Ground) (v : Ground) (is : S i ≡ Some t) (at : slice_get ships i ≡ Some s) (scan : IsScan s (need.Source k) n c) (good : IsGround (ground s))
        (sense : CoreTypes S (item_of (ground s) ∷ G) b (coll k v)) where
      rows_left : ByRows s k b c d → (r : Ground) × ScanOf (stage w) c r × IsGround r × CoreTypes S (r ∷ G) d (coll k v)
      rows_left a = (
        shown_type (columns_asked k s d) (item_of (ground s)),
        scan_at i t s c s.name (columns_asked k s d) _ (shown_type (columns_asked k s d) (item_of (ground s))) is at scan.driver scan.source a.ask (rows_asked ships S s k b n c d G (coll k v) good sense scan a),
        rows_ground ships S s k b n c d G (coll k v) good sense,
        rows_sense ships S s k b n c d G (coll k v) good sense a,
      )

      module _ (a : BySql ships s k b c d) (fitting : (fits k s && s.abilities.join) ≡ true) where
        abbrev stated : Spj
        stated = statement k s a.joined a.tests a.behind

        abbrev u : Ground
        u = rec_type (shown ships fit S knows i t s k b d n c G v is at scan a fitting good sense)

        all_marked : AllByRecursion (IsMarkedTable s.driver) stated.tables
        all_marked =
            let q = unmapped (ship_source ks) ss i s at in (
              (i, q.0, q.1, (marked i t is).0, ap (λ (y : ShipSource). y.name) q.2, ap (λ (y : ShipSource). y.driver) q.2),
              joined_marked s k s.abilities.select a.joined 1 b a.tests a.behind (item_of (ground s) ∷ G) v sense a.joins,
            )

        not_list : c.kind ≢ kind.List
        not_list =
            let here = sql_asked ships fit S knows i t s k b d n c G v is at scan a fitting good sense in
            let asked : ShipAskOf ships here.source (asks.Sql (statement_text stated)) c.kind u = subst (λ q. ShipAskOf ships here.source q c.kind u) a.ask here.ask in
            asked.3

        sql_here : ScanOf (stage w) c u
        sql_here =
            let q = unmapped (ship_source ks) ss i s at in
            let on = (marked i t is).0 in
            let st = stand i q.0 q.1 on in
            let driver : q.0.driver ≡ s.driver = ap (λ (y : ShipSource). y.driver) q.2 in
            let agree : Agree types (table_types st.driver.attached) stated.tables =
            all_map (IsMarkedTable s.driver) (λ l. types l ≡ table_types st.driver.attached l) stated.tables (λ l m. type_attached s.driver st.driver l (ap (slice_get mid) (sym driver) ∙ st.there) m) all_marked in
            let fitted = sql_fits ships fit S knows i t s k b d n c G v is at scan a fitting good sense types (types_are s.driver) in
            scan_of i q.0 c q.1 on (scan.driver ∙ sym driver) (scan.source ∙ ap (λ (y : ShipSource). y.name) (sym q.2)) u
            (subst (λ z. AskOf (stage w) (held_of st.driver) c (held_as i q.0 q.1 on) z u) (sym a.ask) (record {
              statement = stated;
              reads = a.reads;
              join = ap (λ (y : Abilities). y.join) (sym (can_do i q.0 q.1 on)) ∙ ap (λ (y : ShipSource). y.abilities.join) q.2 ∙ (abilities ships fit S knows i t s k b d n c G v is at scan a fitting good sense).1;
              no_list = not_list;
              stand = all_map (IsMarkedTable s.driver) (StandsAt (stage w) c.driver) stated.tables (λ l m. subst (λ y. StandsAt (stage w) y l) (sym scan.driver) (stands_at s.driver l m)) all_marked;
              fits = fits_same types (table_types st.driver.attached) stated agree fitted.0;
              shows = fitted.1 ∙ type_same types (table_types st.driver.attached) stated agree;
            }))

        sql_left : (r : Ground) × ScanOf (stage w) c r × IsGround r × CoreTypes S (r ∷ G) d (coll k v)
        sql_left = (u, sql_here, sql_ground ships fit S knows i t s k b d n c G v is at scan a fitting good sense, sql_types ships fit S knows i t s k b d n c G v is at scan a fitting good sense)

      left_to : ByAsk ships s k b c d → (r : Ground) × ScanOf (stage w) c r × IsGround r × CoreTypes S (r ∷ G) d (coll k v)
      left_to ask = ⊎_elim (λ a. rows_left a.1) (λ a. sql_left a.1 a.0) ask

    module _ (t u : Tree) (leaves : Leaves (λ x. ⊤) (λ i. marks i ≡ true) t) (keeps : Preserves t u) (of : IsPlanOf settings ships u p) where
      -- the plan of scans alone, which was finished
      abbrev sent : Node
      sent = of.ships.sent

      bare : Bare sent
      bare = sent_bare settings.delegate ships sent need.Items u 0 of.ships.sends.0 of.ships.sends.1

      sent_typed : (s : Ground) → CoreTypes (types_of (session w)) [] t s → PlanTypes (ScanOf (stage w)) AnyMemo [] sent s
      sent_typed s h =
          let over : CoreTypes S [] t s = types_over (types_of (session w)) S (λ i. marks i ≡ true) (λ i on. ap (λ b. cond b (types_of (session w) i) None) on) t [] s leaves h in
          shipped_types ships S (ScanOf (stage w)) (λ i t s e at. collection_at i s at) knows asked (λ i t s k b d n c G v e at scan ask good sense. left_to i t s k b d n c G v e at scan good sense ask) sent settings.delegate u 0 of.ships.sends.0 s (keeps.typed S [] s over) of.ships.sends.1

      typed : (s : Ground) → CoreTypes (types_of (session w)) [] t s → TypesAt w [] p s
      typed s h = typed_listed w p s refl (finished_typed (ScanOf (stage w)) settings.join settings.cache sent p of.ships.finishes bare (scan_same (stage w)) AnyMemo s (sent_typed s h))

      ready : 0 < settings.block → IsReadyRun w
      ready block = record {
        session = serves.ready;
        block = block;
        numbers = subst (IsDistinct nat_eq) (sym (memo_numbers p)) of.numbers.memos;
        room = λ m i. room_where settings.join settings.cache sent p of.ships.finishes bare m i;
        right = tt;
      }

      over_ships : (s : Ground) → CoreTypes (types_of (session w)) [] t s → CoreTypes (types_in ships) [] t s
      over_ships s h = types_over (types_of (session w)) (types_in ships) (λ i. marks i ≡ true) (λ i on. sym (types_same i)) t [] s leaves h

      -- ---- what the sources hold

      attached_apart : (i : ℕ) (s : Source) (b : Bool) (c : Scan) (u : Ground) (f : ScanOf (stage w) c u) → slice_get ss i ≡ Some s → marks i ≡ b → listed b s ≡ f.entry
          → (rows : List Value) → f.source.rows ≡ Some rows → f.held.abilities.unique ≡ true → kind_of (ground_of f.source.ty) ≡ kind.Set → IsDistinct same_value rows
      attached_apart i s true c u f at on entry rows told unique set =
          let st = stand i s at on in
          let d = driver_of ds mid ss marks placed none steps i s at in
          let here : st.driver ≡ d.now = same_Some _ _ (sym st.there ∙ d.is) in
          let driver : c.driver ≡ s.driver = same_Some _ _ (sym f.driver ∙ ap (λ e. e.driver) (sym entry)) in
          let named : c.source ≡ s.name = f.named ∙ ap (λ e. e.source) (sym entry) in
          let held : f.held ≡ held_of st.driver = same_Some _ _ (sym f.holds ∙ held_there w c.driver st.driver (ap (slice_get mid) driver ∙ st.there)) in
          let source : f.source ≡ record { ty = s.ty; rows = told_rows (contents ks s); count = st.count; kept = st.kept } =
          same_Some _ _ (sym f.attached ∙ ap (λ k. k.attached c.source) held ∙ ap st.driver.attached named ∙ st.attached) in
          st.unrepeated d.kind rows d.known
          (ap (λ (a : Abilities). a.unique) (d.abilities ∙ ap (λ (x : State). x.kind.abilities) (sym here)) ∙ ap (λ k. k.abilities.unique) (sym held) ∙ unique)
          (ap (λ (x : Held). kind_of (ground_of x.ty)) (sym source) ∙ set)
          (told_is (contents ks s) rows (ap (λ (x : Held). x.rows) (sym source) ∙ told))
      attached_apart i s false c u f at off entry rows told unique set = let never : None ≡ Some c.driver = ap (λ e. e.driver) entry ∙ f.driver in absurd cc

      apart_at : KeepApart w
      apart_at c u f =
          let e = entry_from ds mid ss marks placed none steps stand settings trace p f.place f.entry (sym (listed_in w f.place) ∙ f.listed) in
          attached_apart f.place e.0 (marks f.place) c u f e.1 refl e.2

      -- a driver joins only records
      records_at : JoinsRecords w
      records_at driver h l a holds join stands attached =
          let e = entry_from ds mid ss marks placed none steps stand settings trace p stands.0 stands.1 (sym (listed_in w stands.0) ∙ stands.2) in
          by e.0 (marks stands.0) e.1 refl e.2
        where
          by : (s : Source) (b : Bool) → slice_get ss stands.0 ≡ Some s → marks stands.0 ≡ b → listed b s ≡ stands.1 → (r : Row) × (item_of (ground_of a.ty) ≡ rec_type r)
          by s true at on entry =
              let st = stand stands.0 s at on in
              let d = driver_of ds mid ss marks placed none steps stands.0 s at in
              let place : s.driver ≡ driver = same_Some _ _ (ap (λ (y : Attached). y.driver) entry ∙ stands.4) in
              let name : s.name ≡ l = ap (λ (y : Attached). y.source) entry ∙ stands.3 in
              let held : h ≡ held_of st.driver = same_Some _ _ (sym holds ∙ held_there w driver st.driver (ap (slice_get mid) (sym place) ∙ st.there)) in
              let has : a ≡ held_as stands.0 s at on = same_Some _ _ (sym attached ∙ ap (λ (k : Holder). k.attached l) held ∙ ap st.driver.attached (sym name) ∙ st.attached) in
              let joins : d.kind.abilities.join ≡ true = ap (λ (y : Abilities). y.join) (sym (ap abilities_in d.known)) ∙ ap (λ (y : Abilities). y.join) (can_do stands.0 s at on) ∙ ap (λ (k : Holder). k.abilities.join) (sym held) ∙ join in
              let flat = flat_record (item_of (ground_of s.ty)) (d.suits.join joins) in
              (flat.0, ap (λ (y : Held). item_of (ground_of y.ty)) has ∙ flat.1)
          by s false at off entry = let never : None ≡ Some driver = ap (λ (y : Attached). y.driver) entry ∙ stands.4 in absurd cc

      module _ (have : HaveSources (types_of (session w)) (values_of (session w))) where
        abbrev attached : Name → Option Held
        attached = attached_named ds mid ss marks placed none steps stand settings trace p

        -- the rows of a marked source are told
        rows_marked : (i : ℕ) (s : Source) → slice_get ss i ≡ Some s → marks i ≡ true → (rows : List Value) × (told_rows (contents ks s) ≡ Some rows)
        rows_marked i s at on =
            let type_is : types_of (session w) i ≡ Some (ground_of s.ty) = types_same i ∙ ap type_in (get-map (ship_source ks) ss i s at) in
            let v = have i (ground_of s.ty) type_is in
            rows_of (ground_of s.ty) (told_rows (contents ks s)) v.0 (sym (value_marked ds mid ss marks placed none steps stand settings trace p i s at on) ∙ v.1)

        holds_at : (i : ℕ) (s : Source) → slice_get ss i ≡ Some s → (b : Bool) → marks i ≡ b → Holds (reading w) (values_of (session w)) i (ship_source ks s) (table_rows attached s.name)
        holds_at i s at true on =
            let st = stand i s at on in
            let d = driver_of ds mid ss marks placed none steps i s at in
            let rows = rows_marked i s at on in
            let worth_is = value_marked ds mid ss marks placed none steps stand settings trace p i s at on in
            let told : contents ks s ≡ Some (Rows rows.0) = told_is (contents ks s) rows.0 rows.1 in
            let named_rows : rows.0 ≡ table_rows attached s.name = sym (ap or_none (named_marked ds mid ss marks placed none steps stand settings trace p i s at on ∙ rows.1)) in
            subst (Holds (reading w) (values_of (session w)) i (ship_source ks s)) named_rows (record {
              reads = λ c keep tests e f. reads_marked ds mid ss marks placed none steps stand settings trace p i s c keep tests at on e f ∙ ap (λ o. answered_by o keep tests) rows.1;
              value = worth_is ∙ ap (value_of_rows (ground_of s.ty)) rows.1;
              collection = d.suits.collection;
              typed = subst (HasTyped s) told st.typed;
              unrepeated = λ unique set. st.unrepeated d.kind rows.0 d.known (ap (λ (a : Abilities). a.unique) (sym (ap abilities_in d.known)) ∙ unique) set told;
            })
        holds_at i s at false off =
            let named_rows : [] ≡ table_rows attached s.name = sym (ap or_none (named_unmarked ds mid ss marks placed none steps stand settings trace p i s at off)) in
            subst (Holds (reading w) (values_of (session w)) i (ship_source ks s)) named_rows (record {
              reads = λ c keep tests e f. reads_unmarked ds mid ss marks placed none steps stand settings trace p i s c keep tests at off e f;
              value = value_unmarked ds mid ss marks placed none steps stand settings trace p i s at off;
              collection = (driver_of ds mid ss marks placed none steps i s at).suits.collection;
              typed = tt;
              unrepeated = λ unique set. none_apart;
            })

        -- the rows of each source are told, by its name
        named_told : (i : ℕ) (s : Source) → slice_get ss i ≡ Some s → (b : Bool) → marks i ≡ b → rows_there (attached s.name) ≡ Some (table_rows attached s.name)
        named_told i s at true on =
            let told = named_marked ds mid ss marks placed none steps stand settings trace p i s at on ∙ (rows_marked i s at on).1 in
            told ∙ ap Some (sym (ap or_none told))
        named_told i s at false off =
            let told = named_unmarked ds mid ss marks placed none steps stand settings trace p i s at off in
            told ∙ ap Some (sym (ap or_none told))

        table_told : (c : Scan) (l : Name) → IsTable ships c.driver l → HasRows (attached_by ((stage w).held c.driver)) (table_rows attached) l
        table_told c l m =
            let x = unmapped (ship_source ks) ss m.0 m.1 m.2 in
            let name : x.0.name ≡ l = ap (λ (y : ShipSource). y.name) x.2 ∙ m.3 in
            let driver : c.driver ≡ x.0.driver = sym (ap (λ (y : ShipSource). y.driver) x.2 ∙ m.4) in
            subst (HasRows (attached_by ((stage w).held c.driver)) (table_rows attached)) name
            (ap rows_there (attached_there ds mid ss marks placed none steps stand settings trace p m.0 x.0 x.1 c.driver driver) ∙ named_told m.0 x.0 x.1 (marks m.0) refl)

        hold_all : HoldAll ships (reading w) (values_of (session w))
        hold_all = record {
          rows = table_rows attached;
          each = λ i s at. let q = unmapped (ship_source ks) ss i s at in subst (λ x. Holds (reading w) (values_of (session w)) i x (table_rows attached x.name)) q.2 (holds_at i q.0 q.1 (marks i) refl);
          joined = λ c text q ask reads tables. joined_at ds mid ss marks placed none steps stand settings trace p c text q (table_rows attached) ask reads
              (all_map (IsTable ships c.driver) (HasRows (attached_by ((stage w).held c.driver)) (table_rows attached)) q.tables (table_told c) tables);
        }

        -- what its scans read is told, and has its type
        reads_told : (c : Scan) (v : Ground) → ScanOf (stage w) c v → (rows : List Value) × (reading w c ≡ Some rows) × FlowOf v (flow rows fine)
        reads_told c v f = let r = told_at w serves.ready have apart_at records_at c v f in (r.0, r.1, rows_flow v r.0 r.2)

        value_is : (s : Ground) → CoreTypes (types_of (session w)) [] t s → worth (plan (reading w) p []) ≡ core (values_of (session w)) t []
        value_is s h =
            finished_worth (ScanOf (stage w)) settings.join settings.cache sent p of.ships.finishes bare AnyMemo (reading w) reads_told (reads_same w) s (sent_typed s h)
            ∙ (law ships (reading w) (values_of (session w)) fit hold_all sent settings.delegate need.Items u 0 of.ships.sends.0 [] [] s tt (keeps.typed (types_in ships) [] s (over_ships s h)) of.ships.sends.1).0
            ∙ keeps.means (types_in ships) (values_of (session w)) [] [] s (told ships (reading w) (values_of (session w)) fit hold_all) tt (over_ships s h)

        list_is : (s : Ground) → CoreTypes (types_of (session w)) [] t (coll kind.List s) → coming (plan (reading w) p []) ≡ items_of (core (values_of (session w)) t [])
        list_is s h =
            finished_list (ScanOf (stage w)) settings.join settings.cache sent p of.ships.finishes bare AnyMemo (reading w) reads_told (reads_same w) s (sent_typed (coll kind.List s) h)
            ∙ law_coming ships (reading w) (values_of (session w)) fit hold_all settings.delegate u sent kind.List s (keeps.typed (types_in ships) [] (coll kind.List s) (over_ships (coll kind.List s) h)) of.ships.sends
            ∙ ap items_of (keeps.means (types_in ships) (values_of (session w)) [] [] (coll kind.List s) (told ships (reading w) (values_of (session w)) fit hold_all) tt (over_ships (coll kind.List s) h))

      runs : 0 < settings.block → (s : Ground) × CoreTypes (types_of (session w)) [] t s → Runs ks ss marks t p w
      runs block sense = record {
        ready = ready block;
        sense = sense;
        typed = typed;
        told = λ have. told_at w serves.ready have apart_at records_at;
        value = λ have s h. value_is have s h;
        list = λ have s h. list_is have s h;
        reads = reads ds mid ss marks placed none steps stand settings trace p;
      }

-- In the session of a catalogue whose sources a term reads are attached, a plan of what the term was rewritten into makes sense where
-- its run begins, and where the sources are told, it means what the term means.
pub session_runs : (ds mid : List State) (ss : List Source) (marks : ℕ → Bool) (settings : Settings) (trace : Trace) (w : World) (t u : Tree) (p : Node)
    → ArePlaced (kinds_of ds) ss → HaveNone ds → EachSteps (MayAttach marks ss) ds mid → ((i : ℕ) (s : Source) → slice_get ss i ≡ Some s → marks i ≡ true → Stands (kinds_of ds) mid s)
    → Serves (kinds_of ds) marks ss w → w ≡ world_of mid (list_of marks 0 ss) settings trace → (s : Ground) × CoreTypes (types_of w) [] t s → Leaves (λ x. ⊤) (λ i. marks i ≡ true) t
    → Preserves t u → IsPlanOf settings (ships_of (kinds_of ds) ss) u p → 0 < settings.block → Runs (kinds_of ds) ss marks t p (fresh_run p w)
session_runs ds mid ss marks settings trace w t u p placed none steps stand serves is sense leaves keeps of block =
    subst (λ x. Runs (kinds_of ds) ss marks t p (fresh_run p x)) (sym is)
    (runs ds mid ss marks placed none steps stand settings trace p (subst (Serves (kinds_of ds) marks ss) is serves) t u leaves keeps of block (subst (λ x. (s : Ground) × CoreTypes (types_of x) [] t s) is sense))
