-- A plan means the term from which it was made.
use Rattle.std.proofs.Common.{◌≡◌, ⊎_elim, ℕ, suc, Bool, true, false, ◌&&◌, cond, nat_eq, List, [], ◌∷◌, map, Some, slice_get, refl, sym, ap, subst, ◌∙◌}
use Rattle.std.specs.Cmp.Lexicographic.{pointwise, same_text}
use Rattle.std.specs.List.{AllByRecursion, IsDistinct, list_all}
use Rattle.std.proofs.lemmas.Cmp.{nat_list_eq_equiv}
use mathlib.Core.Path.{ap₂}
use Rattle.kl_value.specs.Canon.{canonical}
use Rattle.kl_value.specs.declared.Kind.{Kind}
use Rattle.kl_value.specs.declared.Kind.TheVariants as kind
use Rattle.kl_value.specs.declared.Value.{Value}
use Rattle.kl_value.specs.Views.{as_bool}
use Rattle.kl_type.specs.Ground.{Ground, Row, bool, var as var_type, rec as rec_type, coll, at, IsGround}
use Rattle.kl_outcome.specs.Outcome.{Name, Outcome, done, Flow, fine, flow, drawn, outcome_of, applied, recorded, tagged, part, items_of, item_then, collected, as_variant}
use Rattle.kl_outcome.specs.Typed.{Inhabits, HaveTypes, OfType}
use Rattle.kl_outcome.proofs.OutcomeTypes.{FlowOf, items_typed, item_typed, canonical_inhabits, drawn_typed}
use Rattle.kl_outcome.proofs.Flows.{collected_flow}
use Rattle.kl_core.specs.Trees as term
use Rattle.kl_core.specs.Trees.{Tree, Trees, no_trees, trees, Parts, no_parts, parts, Arms, no_arms, arm}
use Rattle.kl_core.specs.Core.{Tables, core, core_all, core_items, core_parts, core_arms}
use Rattle.kl_core.specs.Typing.{SourceTypes, CoreTypes, EachType, AllTypes, PartTypes, ArmTypes, HasArm, HaveSources}
use Rattle.kl_core.proofs.Safety.{safe}
use Rattle.kl_ask.specs.Asks.{columns, item_of, kind_of, answers, passes, shown_type}
use Rattle.kl_ask.specs.declared.ask.ColTest.{ColTest}
use Rattle.kl_ask.specs.Driver.{same_value}
use Rattle.kl_sqltext.specs.declared.ast.SqlTest.{SqlTest}
use Rattle.kl_sqltext.specs.Meaning.{spj}
use Rattle.kl_sqltext.specs.Written.{statement_text}
use Rattle.kl_outcome.proofs.Having.{both_true}
use Rattle.kl_ask.proofs.Whole.{whole_rows, collection_is}
use Rattle.kl_ship.specs.declared.needs.Need.{Need}
use Rattle.kl_ship.specs.declared.needs.Need.TheVariants as need
use Rattle.kl_ship.specs.declared.source.ShipSource.{ShipSource}
use Rattle.kl_plan.specs.declared.plan.Scan.{Scan}
use Rattle.kl_plan.specs.Nodes as node
use Rattle.kl_plan.specs.Nodes.{Node, Nodes, no_nodes, nodes, Fields, no_fields, fields, Branches, no_branches, rest, branch}
use Rattle.kl_ship.specs.Delegation.{kept_of, tests_taken, body_left, row_test}
use Rattle.kl_plan.specs.Meaning.{Come, one, many, worth, coming, drawn_for, come_after, come_chosen, come_opened, Readings, scanned, no_tables}
use Rattle.kl_plan.specs.Meaning.{plan, plan_all, plan_items, plan_fields, plan_branches}
use Rattle.kl_ship.specs.Sources.{ground, fits, fits_source}
use Rattle.kl_ship.specs.Ships.{Sends, Becomes, TreesBecome, PartsBecome, ArmsBecome, Stays, passed_on, IsScan, IsWholeScan, Delegates, ByRows, BySql, columns_asked, scan_kind}
use Rattle.kl_ship.specs.Contents.{types_in, Holds, IsTable, HoldAll, AreSources}
use Rattle.kl_ship.specs.Joined.{Joins, statement}
use Rattle.kl_plan.specs.Alike.{Alike}
use Rattle.kl_ship.proofs.Plain.{plain_core}
use Rattle.kl_ship.proofs.Sources.{known}
use Rattle.kl_ship.proofs.Fitting.{rows_flow, fitting_rows, itself}
use Rattle.kl_ship.proofs.Joining.{RowsAt}
use Rattle.kl_ship.proofs.Stating.{stated_type, sql_sense, sql_rows, sql_alike}
use Rattle.kl_ship.proofs.Asking.{used_shown, whole_shown, asked_alike}
use Rattle.kl_plan.proofs.Comings.{Same, same_type, worth_typed, coming_alike, drawn_for_typed, after_shows, choice_shows, cases_shows, union_shows, loop_shows, loop_by}
use Rattle.kl_ship.proofs.Wanted.{Shows, passed, lift}
use Rattle.kl_ship.proofs.Sense.{flat_record, is_coll, rows_sense}
use Rattle.kl_ship.proofs.Shown.{shown_answers, whole_shown_answers}

-- of a part whose value is the same
lift_from : (into : Need) (s : Ground) (o : Outcome) (p q : Outcome) → q ≡ p → (go : Outcome → Come) → Same s o (go p) → Shows into s o (go q)
lift_from into s o p q is go h = subst (λ x. Shows into s o (go x)) (sym is) (lift into s o (go p) h.0 h.1)

rows_show : (n : Need) (j : Kind) (s u : Ground) (unique : Bool) (rows : List Value) → s ≡ coll j u → AllByRecursion (Inhabits u) rows
    → (unique ≡ true → j ≡ kind.Set → IsDistinct same_value rows) → Shows n s (done (canonical j rows)) (many (scan_kind n j unique) (flow rows fine))
rows_show need.Whole j s u unique rows e h apart = (collected_flow j rows fine, (u, e, rows_flow u rows h))
rows_show need.Items j s u unique rows e h apart = (collected_flow j rows fine, (u, e, rows_flow u rows h))
rows_show (need.Source k) j s u unique rows e h apart =
    elim (fits_source j k unique) as (λ b. fits_source j k unique ≡ b → Shows (need.Source k) s (done (canonical j rows)) (many (cond b k j) (flow rows fine))) [
      | true ↦ λ fit. λ i t q.
          let same : u ≡ t = same_type j i u t (sym e ∙ q) in (
            subst (Alike k (items_of (done (canonical j rows)))) (sym (itself k (flow rows fine))) (fitting_rows k j u unique rows h apart fit),
            subst (FlowOf t) (sym (itself k (flow rows fine))) (subst (λ x. FlowOf x (flow rows fine)) same (rows_flow u rows h)),
          )
      | false ↦ λ fit. lift (need.Source k) s (done (canonical j rows)) (many j (flow rows fine)) (collected_flow j rows fine) (u, e, rows_flow u rows h)
    ] refl

module _ (ss : List ShipSource) (R : Readings) (T : Tables) (fit : AreSources ss) (holds : HoldAll ss R T) where
  abbrev S : SourceTypes
  S = types_in ss

  value_typed : (i : ℕ) (s : ShipSource) (h : Holds R T i s (holds.rows s.name)) → Inhabits (ground s) (canonical (kind_of (ground s)) (holds.rows s.name))
  value_typed i s h = subst (λ t. Inhabits t (canonical (kind_of (ground s)) (holds.rows s.name))) (sym (collection_is (ground s) h.collection)) (canonical_inhabits (kind_of (ground s)) (item_of (ground s)) (holds.rows s.name) h.typed)

  pub told : HaveSources S T
  told i t e =
      let k = known ss i t e in
      let h = holds.each i k.0 k.1 in
      (canonical (kind_of (ground k.0)) (holds.rows k.0.name), h.value, subst (λ u. Inhabits u (canonical (kind_of (ground k.0)) (holds.rows k.0.name))) (sym k.2) (value_typed i k.0 h))

  typed : (t : Tree) (G : List Ground) (env : List Value) (s : Ground) → HaveTypes G env → CoreTypes S G t s → OfType s (core T t env)
  typed t G env s e h = safe S T told t G env s e h

  -- an outcome as a term has it
  alone : (into : Need) (t : Tree) (G : List Ground) (env : List Value) (s : Ground) → HaveTypes G env → CoreTypes S G t s → (o : Outcome) → o ≡ core T t env
      → Shows into s (core T t env) (one o)
  alone into t G env s e h o is = lift into s (core T t env) (one o) is (subst (OfType s) (sym is) (typed t G env s e h))

  -- a term of this form
  formed : (u : Need) (t x : Tree) (G : List Ground) (env : List Value) (s : Ground) (c : Come) → t ≡ x → CoreTypes S G t s → (CoreTypes S G x s → Shows u s (core T x env) c) → Shows u s (core T t env) c
  formed u t x G env s c is h go = subst (λ y. Shows u s (core T y env) c) (sym is) (go (subst (λ y. CoreTypes S G y s) is h))

  -- a part without sources as it stands
  as_plain : (into : Need) (t : Tree) (n : ℕ) (x : Tree) (m : ℕ) (G : List Ground) (env : List Value) (s : Ground) → HaveTypes G env → CoreTypes S G t s → Stays into t n x m
      → Shows into s (core T t env) (plan R (node.Plain x) env)
  as_plain into t n x m G env s e h w = alone into t G env s e h (core no_tables x env) (plain_core no_tables T x env w.no_source ∙ ap (λ y. core T y env) (sym w.is))

  -- a scan of a whole source
  scan_comes : (i : ℕ) (s : ShipSource) (into : Need) (n : ℕ) (c : Scan) (env : List Value) (h : Holds R T i s (holds.rows s.name)) → IsWholeScan s into n c
      → plan R (node.Scan c) env ≡ many (scan_kind into (kind_of (ground s)) s.abilities.unique) (flow (holds.rows s.name) fine)
  scan_comes i s into n c env h w =
      let keep : List Name = columns (item_of (ground s)) in
      ap₂ scanned w.scan.kind (h.reads c keep [] w.scan.driver w.ask ∙ ap (λ q. Some q) (whole_rows (item_of (ground s)) (holds.rows s.name) h.typed))

  abbrev shown : ShipSource → Need → List Value → Come
  shown s into rows = many (scan_kind into (kind_of (ground s)) s.abilities.unique) (flow rows fine)

  source_shows : (into : Need) (i : ℕ) (s : ShipSource) (h : Holds R T i s (holds.rows s.name))
      → Shows into (ground s) (done (canonical (kind_of (ground s)) (holds.rows s.name))) (shown s into (holds.rows s.name))
  source_shows into i s h = rows_show into (kind_of (ground s)) (ground s) (item_of (ground s)) s.abilities.unique (holds.rows s.name) (collection_is (ground s) h.collection) h.typed h.unrepeated

  -- ---- a generator

  -- the type of the rows that are asked
  abbrev pub row_of : Kind → ShipSource → Tree → Ground
  row_of k s d = shown_type (columns_asked k s d) (item_of (ground s))

  module _ (k : Kind) (b : Tree) (i : ℕ) (s : ShipSource) (h : Holds R T i s (holds.rows s.name)) (n : ℕ) (c : Scan) (d : Tree) (scan : IsScan s (need.Source k) n c) (asked : ByRows s k b c d) where
    abbrev u : Ground
    u = item_of (ground s)

    abbrev tests_of : List ColTest
    tests_of = map row_test (tests_taken s.abilities.select k 1 b)

    abbrev asked_rows : List Name → List Value
    asked_rows keep = answers (holds.rows s.name) keep tests_of

    abbrev comes_of : List Name → Come
    comes_of keep = many (cond (fits k s) k (kind_of (ground s))) (flow (asked_rows keep) fine)

    asked_comes : (env : List Value) → plan R (node.Scan c) env ≡ comes_of (columns_asked k s d)
    asked_comes env = ap₂ scanned scan.kind (h.reads c (columns_asked k s d) tests_of scan.driver asked.ask)

    -- by cases on which columns are asked
    either_columns : (P : List Name → Type 0) → (fits k s ≡ true → P (kept_of d u)) → P (columns u) → P (columns_asked k s d)
    either_columns P some all = by (fits k s) s.abilities.project refl
      where
        by : (x y : Bool) → fits k s ≡ x → P (cond (x && y) (kept_of d u) (columns u))
        by true true is = some is
        by true false is = all
        by false y is = all

    -- what the loop draws of the answers, through what is left of its body
    generator_alike : (G : List Ground) (env : List Value) (v : Ground) → HaveTypes G env → CoreTypes S (u ∷ G) b v
        → Alike k (drawn (items_of (core T (term.Source i) env)) (λ x. items_of (core T b (x ∷ env)))) (drawn (drawn_for k (plan R (node.Scan c) env)) (λ x. items_of (core T d (x ∷ env))))
    generator_alike G env v e sense =
        let D : Tree = body_left s.abilities.select k 1 b in
        let F : Flow = drawn (items_of (done (canonical (kind_of (ground s)) (holds.rows s.name)))) (λ x. items_of (core T b (x ∷ env))) in
        let Goal : Tree → List Name → Type 0 = λ y keep. Alike k F (drawn (drawn_for k (comes_of keep)) (λ x. items_of (core T y (x ∷ env)))) in
        let few : fits k s ≡ true → Goal d (kept_of d u) =
        λ is. subst (λ y. Goal y (kept_of y u)) (sym asked.body) (asked_alike S T told k s.abilities.select b G env e u v sense (kind_of (ground s)) s.abilities.unique (kept_of D u) (holds.rows s.name) h.typed h.unrepeated
        (used_shown S T told k s.abilities.select b G env e u v sense) (λ none. absurd (let f : true ≡ false = sym is ∙ none in cc))) in
        let all : Goal d (columns u) =
        subst (λ y. Goal y (columns u)) (sym asked.body) (asked_alike S T told k s.abilities.select b G env e u v sense (kind_of (ground s)) s.abilities.unique (columns u) (holds.rows s.name) h.typed h.unrepeated
        (whole_shown S T told k s.abilities.select b G env e u v sense) (λ none. refl)) in
        subst (λ o. Alike k (drawn (items_of (outcome_of o)) (λ x. items_of (core T b (x ∷ env)))) (drawn (drawn_for k (plan R (node.Scan c) env)) (λ x. items_of (core T d (x ∷ env))))) (sym h.value)
        (subst (λ x. Alike k F (drawn (drawn_for k x) (λ y. items_of (core T d (y ∷ env))))) (sym (asked_comes env))
        (either_columns (λ keep. Goal d keep) few all))

    -- the answers are rows of the type that is asked
    generator_rows : (env : List Value) → FlowOf (row_of k s d) (drawn_for k (plan R (node.Scan c) env))
    generator_rows env =
        let p : Value → Bool = λ v. list_all (passes v) tests_of in
        subst (λ x. FlowOf (row_of k s d) (drawn_for k x)) (sym (asked_comes env))
        (drawn_for_typed k (cond (fits k s) k (kind_of (ground s))) (row_of k s d) (comes_of (columns_asked k s d)) (
          row_of k s d,
          refl,
          rows_flow (row_of k s d) (asked_rows (columns_asked k s d))
              (either_columns (λ keep. AllByRecursion (Inhabits (shown_type keep u)) (asked_rows keep)) (λ is. shown_answers d u p (holds.rows s.name) h.typed) (whole_shown_answers u p (holds.rows s.name) h.typed)),
        ))

  -- what a body of a loop gives for a row
  abbrev Bodies : Ground → Ground → (Value → Outcome) → (Value → Come) → Type 0
  Bodies u s go to = (v : Value) → Inhabits u v → Same s (go v) (to v)

  -- ---- a generator by a statement

  -- the sources of the list, with their rows
  at_rows : (i : ℕ) (t : ShipSource) → slice_get ss i ≡ Some t → RowsAt S T i t (holds.rows t.name)
  at_rows i t at = let h = holds.each i t at in record { value = h.value; is = is_coll ss fit S (known ss) i t at; typed = h.typed; unrepeated = h.unrepeated }

  by_statement : (k : Kind) (b : Tree) (i : ℕ) (s : ShipSource) → slice_get ss i ≡ Some s → (n : ℕ) (c : Scan) (d : Tree) → IsScan s (need.Source k) n c → BySql ss s k b c d → (fits k s && s.abilities.join) ≡ true
      → (G : List Ground) (env : List Value) (j : Kind) (u v : Ground) → HaveTypes G env → CoreTypes S G (term.Source i) (coll j u) → CoreTypes S (u ∷ G) b (coll k v) → (q : Node)
      → ((r : Ground) → CoreTypes S (r ∷ G) d (coll k v) → Bodies r (coll k v) (λ x. core T d (x ∷ env)) (λ x. plan R q (x ∷ env)))
      → Same (coll k v) (core T (term.Ext k b (term.Source i)) env) (plan R (node.Ext k q (node.Scan c)) env)
  by_statement k b i s at n c d scan asked fitting G env j u v e src g q bodies =
      loop_by k shown v (drawn (items_of (core T (term.Source i) env)) (λ x. items_of (core T b (x ∷ env)))) (drawn_for k (plan R (node.Scan c) env)) (λ x. core T d (x ∷ env)) (λ x. plan R q (x ∷ env))
      (drawn_typed v u (items_of (core T (term.Source i) env)) (λ x. items_of (core T b (x ∷ env))) (items_typed j u (core T (term.Source i) env) (typed (term.Source i) G env (coll j u) e src))
      (λ x xi. items_typed k v (core T b (x ∷ env)) (typed b (u ∷ G) (x ∷ env) (coll k v) (xi, e) g)))
      (subst (λ f. Alike k (drawn (items_of (core T (term.Source i) env)) (λ x. items_of (core T b (x ∷ env)))) (drawn f (λ x. items_of (core T d (x ∷ env))))) (sym drawing)
      (subst (λ y. Alike k (drawn (items_of (core T (term.Source i) env)) (λ x. items_of (core T b (x ∷ env)))) (drawn (flow read fine) (λ x. items_of (core T y (x ∷ env))))) (sym asked.body)
      (sql_alike S T told k ss s holds.rows at_rows flat b i 0 asked.joined asked.tests asked.behind at parts.0 asked.joins G v u j src g asked.apart env e)))
      (subst (FlowOf shown) (sym drawing) (rows_flow shown read (sql_rows S T told k ss s holds.rows at_rows flat b i 0 asked.joined asked.tests asked.behind at parts.0 asked.joins G v u j src g asked.apart)))
      (bodies shown (subst (λ y. CoreTypes S (shown ∷ G) y (coll k v)) (sym asked.body) (sql_sense S T told k ss s holds.rows at_rows flat b i 0 asked.joined asked.tests asked.behind at parts.0 asked.joins G v u j src g asked.apart)))
    where
      parts : (fits k s ≡ true) × (s.abilities.join ≡ true)
      parts = both_true (fits k s) s.abilities.join fitting

      flat : (i : ℕ) (t : ShipSource) → slice_get ss i ≡ Some t → t.driver ≡ s.driver → (r : Row) × (item_of (ground t) ≡ rec_type r)
      flat l t here same =
          let able : t.abilities ≡ s.abilities = fit.able i l s t at here same in
          flat_record (item_of (ground t)) ((fit.suited l t here).join (ap (λ a. a.join) able ∙ parts.1))

      shown : Ground
      shown = stated_type S T told k ss s holds.rows at_rows flat b i 0 asked.joined asked.tests asked.behind at parts.0 asked.joins G v u j src g asked.apart

      read : List Value
      read = spj holds.rows (statement k s asked.joined asked.tests asked.behind)

      tables : AllByRecursion (IsTable ss c.driver) (map (λ t. t.name) (s ∷ asked.joined))
      tables = ((i, s, at, refl, sym scan.driver), joined_tables s.abilities.select asked.joined 1 b asked.tests asked.behind asked.joins)
        where
          joined_tables : (select : Bool) (ts : List ShipSource) (m : ℕ) (a : Tree) (qs : List SqlTest) (x : Tree) → Joins ss s k select m a ts qs x → AllByRecursion (IsTable ss c.driver) (map (λ t. t.name) ts)
          joined_tables select [] m a qs x w = tt
          joined_tables select (t ∷ ts) m a qs x w = ((w.1, t, w.4.listed, refl, w.4.driver ∙ sym scan.driver), joined_tables true ts (suc m) w.0 w.2 x w.6)

      reads : R c ≡ Some read
      reads = holds.joined c (statement_text (statement k s asked.joined asked.tests asked.behind)) (statement k s asked.joined asked.tests asked.behind) asked.ask asked.reads tables

      drawing : drawn_for k (plan R (node.Scan c) env) ≡ flow read fine
      drawing =
          ap (drawn_for k) (ap₂ scanned (scan.kind ∙ ap (λ x. cond x k (kind_of (ground s))) parts.0) reads)
          ∙ itself k (flow read fine)

  generator_shows : (k : Kind) (b t : Tree) (n : ℕ) (p : Node) (m : ℕ) (d : Tree) (w : Delegates ss k b t n p m d) (G : List Ground) (env : List Value) (j : Kind) (u s : Ground)
      → HaveTypes G env → CoreTypes S G t (coll j u) → CoreTypes S (u ∷ G) b (coll k s) → (q : Node)
      → ((r : Ground) → CoreTypes S (r ∷ G) d (coll k s) → Bodies r (coll k s) (λ v. core T d (v ∷ env)) (λ v. plan R q (v ∷ env)))
      → Same (coll k s) (core T (term.Ext k b t) env) (plan R (node.Ext k q p) env)
  generator_shows k b t n p m d w G env j u s e h g q bodies =
      subst (λ y. Same (coll k s) (core T (term.Ext k b y) env) (plan R (node.Ext k q p) env)) (sym w.is)
      (subst (λ y. Same (coll k s) (core T (term.Ext k b (term.Source w.place)) env) (plan R (node.Ext k q y) env)) (sym w.plan) both)
    where
      src : CoreTypes S G (term.Source w.place) (coll j u)
      src = subst (λ y. CoreTypes S G y (coll j u)) w.is h

      item : item_of (ground w.source) ≡ u
      item =
          let x = known ss w.place (coll j u) src.0 in
          let z : Some w.source ≡ Some x.0 = sym w.listed ∙ x.1 in
          let same : w.source ≡ x.0 = cc in
          ap (λ y. item_of (ground y)) same ∙ sym (ap item_of x.2)

      whole_good : IsGround (ground w.source)
      whole_good =
          let x = known ss w.place (coll j u) src.0 in
          let z : Some w.source ≡ Some x.0 = sym w.listed ∙ x.1 in
          let same : w.source ≡ x.0 = cc in
          subst IsGround (x.2 ∙ ap ground (sym same)) src.1

      sense : CoreTypes S (item_of (ground w.source) ∷ G) b (coll k s)
      sense = subst (λ y. CoreTypes S (y ∷ G) b (coll k s)) (sym item) g

      hold : Holds R T w.place w.source (holds.rows w.source.name)
      hold = holds.each w.place w.source w.listed

      by_rows : ByRows w.source k b w.reading d → Same (coll k s) (core T (term.Ext k b (term.Source w.place)) env) (plan R (node.Ext k q (node.Scan w.reading)) env)
      by_rows asked =
          let r : Ground = row_of k w.source d in
          loop_by k r s (drawn (items_of (core T (term.Source w.place) env)) (λ v. items_of (core T b (v ∷ env)))) (drawn_for k (plan R (node.Scan w.reading) env)) (λ v. core T d (v ∷ env)) (λ v. plan R q (v ∷ env))
          (drawn_typed s u (items_of (core T (term.Source w.place) env)) (λ v. items_of (core T b (v ∷ env))) (items_typed j u (core T (term.Source w.place) env) (typed (term.Source w.place) G env (coll j u) e src))
          (λ v i. items_typed k s (core T b (v ∷ env)) (typed b (u ∷ G) (v ∷ env) (coll k s) (i, e) g)))
          (generator_alike k b w.place w.source hold n w.reading d w.scan asked G env (coll k s) e sense)
          (generator_rows k b w.place w.source hold n w.reading d w.scan asked env)
          (bodies r (rows_sense ss S w.source k b n w.reading d G (coll k s) whole_good sense asked))

      both : Same (coll k s) (core T (term.Ext k b (term.Source w.place)) env) (plan R (node.Ext k q (node.Scan w.reading)) env)
      both = ⊎_elim (λ a. by_rows a.1) (λ a. by_statement k b w.place w.source w.listed n w.reading d w.scan a.1 a.0 G env j u s e src g q bodies) w.ask

  mutual
    pub law : (p : Node) (on : Bool) (u : Need) (t : Tree) (n m : ℕ) (G : List Ground) (env : List Value) (s : Ground) → HaveTypes G env → CoreTypes S G t s → Becomes on ss u t n p m
        → Shows u s (core T t env) (plan R p env)
    law (node.Plain x) on u t n m G env s e h w = as_plain u t n x m G env s e h w
    law (node.Var x) on u t n m G env s e h w = alone u t G env s e h (outcome_of (slice_get env x)) (ap (λ y. core T y env) (sym w.0))
    law (node.Scan c) on u t n m G env s e h w =
        formed u t (term.Source w.0) G env s (plan R (node.Scan c) env) w.2 h
        (λ g.
        let k = known ss w.0 s g.0 in
        let q : Some w.1 ≡ Some k.0 = sym w.3 ∙ k.1 in
        let same : w.1 ≡ k.0 = cc in
        let d = holds.each w.0 w.1 w.3 in
        subst (λ x. Shows u s (core T (term.Source w.0) env) x) (sym (scan_comes w.0 w.1 u n c env d w.4))
        (subst (λ o. Shows u s (outcome_of o) (shown w.1 u (holds.rows w.1.name))) (sym d.value)
        (subst (λ y. Shows u y (done (canonical (kind_of (ground w.1)) (holds.rows w.1.name))) (shown w.1 u (holds.rows w.1.name))) (ap ground same ∙ sym k.2) (source_shows u w.0 w.1 d))))
    law (node.Rec ps) on u t n m G env s e h w =
        formed u t (term.Rec w.0) G env s (plan R (node.Rec ps) env) w.1 h (λ g. alone u (term.Rec w.0) G env s e g _ (ap recorded (law_parts ps on w.0 n m G env g.0 e g.3 w.2)))
    law (node.Proj l a) on u t n m G env s e h w =
        formed u t (term.Proj l w.0) G env s (plan R (node.Proj l a) env) w.1 h
        (λ g. alone u (term.Proj l w.0) G env s e g _ (ap (part l) (law a on need.Whole w.0 n m G env (rec_type g.0) e g.1 w.2).0))
    law (node.Inj l a) on u t n m G env s e h w =
        formed u t (term.Inj l w.0) G env s (plan R (node.Inj l a) env) w.1 h (λ g. alone u (term.Inj l w.0) G env s e g _ (ap (tagged l) (law a on need.Whole w.0 n m G env g.1 e g.5 w.2).0))
    law (node.Case a bs) on u t n m G env s e h w =
        formed u t (term.Case w.0 w.1) G env s (plan R (node.Case a bs) env) w.3 h
        (λ g.
        let first = law a on need.Whole w.0 n w.2 G env (var_type g.0) e g.1 w.4 in
        let c = cases_shows g.0 s (core T w.0 env) (λ l v. core_arms T w.1 l v env) (λ l v. plan_branches R bs l v env) (typed w.0 G env (var_type g.0) e g.1)
        (λ l r v i j. law_arms bs on u w.1 w.2 m G env g.0 s l r v e g.3 i j (g.2 l (rw i refl)) w.5) in
        lift_from u s _ (core T w.0 env) (worth (plan R a env)) first.0 (λ o. come_after o (λ v. come_opened (as_variant v) (λ l v. plan_branches R bs l v env))) c)
    law (node.Make k ps) on u t n m G env s e h w =
        formed u t (term.Make k w.0) G env s (plan R (node.Make k ps) env) w.1 h
        (λ g.
        let is = law_items ps on w.0 n m G env g.0 e g.3 w.2 in
        lift u s _ (many k (plan_items R ps env)) (ap (collected k) is.0) (g.0, g.1, is.1))
    law (node.Union a b) on u t n m G env s e h w =
        formed u t (term.Union w.0 w.1) G env s (plan R (node.Union a b) env) w.3 h
        (λ g.
        let first : Same (coll g.0 g.1) (core T w.0 env) (plan R a env) =
        subst (λ q. Same q (core T w.0 env) (plan R a env)) g.2 (passed u s _ _ (law a on (passed_on u) w.0 n w.2 G env s e g.3 w.4)) in
        let second : Same (coll g.0 g.1) (core T w.1 env) (plan R b env) =
        subst (λ q. Same q (core T w.1 env) (plan R b env)) g.2 (passed u s _ _ (law b on (passed_on u) w.1 w.2 m G env s e g.4 w.5)) in
        let both = subst (λ q. Same q (core T (term.Union w.0 w.1) env) (plan R (node.Union a b) env)) (sym g.2) (union_shows g.0 g.1 _ _ _ _ first second) in
        lift u s _ _ both.0 both.1)
    law (node.Ext k b a) on u t n m G env s e h w =
        formed u t (term.Ext k w.0 w.1) G env s (plan R (node.Ext k b a) env) w.4 h
        (λ g.
        let sense : CoreTypes S (g.2 ∷ G) w.0 (coll k g.0) = subst (CoreTypes S (g.2 ∷ G) w.0) g.3 g.5 in
        let body : (r : Ground) → CoreTypes S (r ∷ G) w.2 (coll k g.0) → Bodies r (coll k g.0) (λ v. core T w.2 (v ∷ env)) (λ v. plan R b (v ∷ env)) =
        λ r f v i. law b on need.Items w.2 w.3 m (r ∷ G) (v ∷ env) (coll k g.0) (i, e) f w.6 in
        let whole : Same (coll k g.0) (core T (term.Ext k w.0 w.1) env) (plan R (node.Ext k b a) env) =
        ⊎_elim
        (λ c.
        let source = law a on (need.Source k) w.1 n w.3 G env (coll g.1 g.2) e g.4 c.2 in
        let drawing = source g.1 g.2 refl in
        loop_shows k g.2 g.0 (core T w.1 env) (λ v. core T w.0 (v ∷ env)) (drawn_for k (plan R a env)) (λ v. plan R b (v ∷ env))
        (items_typed g.1 g.2 (core T w.1 env) (typed w.1 G env (coll g.1 g.2) e g.4)) drawing.0 drawing.1
        (subst (λ y. Bodies g.2 (coll k g.0) (λ v. core T y (v ∷ env)) (λ v. plan R b (v ∷ env))) c.1 (body g.2 (subst (λ y. CoreTypes S (g.2 ∷ G) y (coll k g.0)) (sym c.1) sense))))
        (λ c. generator_shows k w.0 w.1 n a w.3 w.2 c.1 G env g.1 g.2 g.0 e g.4 sense b body)
        w.5 in
        let back = subst (λ q. Same q (core T (term.Ext k w.0 w.1) env) (plan R (node.Ext k b a) env)) (sym g.3) whole in
        lift u s _ _ back.0 back.1)
    law (node.If a b c) on u t n m G env s e h w =
        formed u t (term.If w.0 w.1 w.2) G env s (plan R (node.If a b c) env) w.5 h
        (λ g.
        let first = law a on need.Whole w.0 n w.3 G env bool e g.0 w.6 in
        let second = passed u s _ _ (law b on (passed_on u) w.1 w.3 w.4 G env s e g.1 w.7) in
        let third = passed u s _ _ (law c on (passed_on u) w.2 w.4 m G env s e g.2 w.8) in
        let both = choice_shows s (core T w.0 env) (core T w.1 env) (core T w.2 env) (plan R b env) (plan R c env) (typed w.0 G env bool e g.0) second third in
        lift_from u s _ (core T w.0 env) (worth (plan R a env)) first.0 (λ o. come_after o (λ v. come_chosen (as_bool v) (plan R b env) (plan R c env))) both)
    law (node.Let a b) on u t n m G env s e h w =
        formed u t (term.Let w.0 w.1) G env s (plan R (node.Let a b) env) w.3 h
        (λ g.
        let first = law a on need.Whole w.0 n w.2 G env g.0 e g.1 w.4 in
        let both = after_shows s g.0 (core T w.0 env) (λ v. core T w.1 (v ∷ env)) (λ v. plan R b (v ∷ env)) (typed w.0 G env g.0 e g.1)
        (λ v i. passed u s _ _ (law b on (passed_on u) w.1 w.2 m (g.0 ∷ G) (v ∷ env) s (i, e) g.2 w.5)) in
        lift_from u s _ (core T w.0 env) (worth (plan R a env)) first.0 (λ o. come_after o (λ v. plan R b (v ∷ env))) both)
    law (node.Prim c ps) on u t n m G env s e h w =
        formed u t (term.Prim c w.0) G env s (plan R (node.Prim c ps) env) w.1 h (λ g. alone u (term.Prim c w.0) G env s e g _ (ap (applied c) (law_all ps on w.0 n m G env g.0 e g.1 w.2)))
    law (node.Join number k how o cs c q b) on u t n m G env s e h w = absurd w
    law (node.Memo number frees p) on u t n m G env s e h w = absurd w

    law_items : (p : Nodes) (on : Bool) (ts : Trees) (n m : ℕ) (G : List Ground) (env : List Value) (s : Ground) → HaveTypes G env → EachType S G ts s → TreesBecome on ss ts n p m
        → (plan_items R p env ≡ core_items T ts env) × FlowOf s (plan_items R p env)
    law_items no_nodes on ts n m G env s e h w = (ap (λ x. core_items T x env) (sym w.0), tt)
    law_items (nodes p ps) on ts n m G env s e h w =
        let g : EachType S G (trees w.0 w.1) s = subst (λ x. EachType S G x s) w.3 h in
        let first = law p on need.Whole w.0 n w.2 G env s e g.0 w.4 in
        let more_ = law_items ps on w.1 w.2 m G env s e g.1 w.5 in
        (ap₂ item_then first.0 more_.0 ∙ ap (λ x. core_items T x env) (sym w.3), item_typed s (worth (plan R p env)) (plan_items R ps env) (worth_typed s (plan R p env) first.1) more_.1)

    law_all : (p : Nodes) (on : Bool) (ts : Trees) (n m : ℕ) (G : List Ground) (env : List Value) (us : List Ground) → HaveTypes G env → AllTypes S G ts us → TreesBecome on ss ts n p m
        → plan_all R p env ≡ core_all T ts env
    law_all no_nodes on ts n m G env us e h w = ap (λ x. core_all T x env) (sym w.0)
    law_all (nodes p ps) on ts n m G env us e h w =
        let g : AllTypes S G (trees w.0 w.1) us = subst (λ x. AllTypes S G x us) w.3 h in
        ap₂ (λ o os. o ∷ os) (law p on need.Whole w.0 n w.2 G env g.0 e g.3 w.4).0 (law_all ps on w.1 w.2 m G env g.1 e g.4 w.5) ∙ ap (λ x. core_all T x env) (sym w.3)

    law_parts : (p : Fields) (on : Bool) (ts : Parts) (n m : ℕ) (G : List Ground) (env : List Value) (r : Row) → HaveTypes G env → PartTypes S G ts r → PartsBecome on ss need.Whole ts n p m
        → plan_fields R p env ≡ core_parts T ts env
    law_parts no_fields on ts n m G env r e h w = ap (λ x. core_parts T x env) (sym w.0)
    law_parts (fields l p ps) on ts n m G env r e h w =
        let g : PartTypes S G (parts l w.0 w.1) r = subst (λ x. PartTypes S G x r) w.3 h in
        ap₂ (λ o os. (l, o) ∷ os) (law p on need.Whole w.0 n w.2 G env g.0 e g.3 w.4).0 (law_parts ps on w.1 w.2 m G env g.1 e g.4 w.5) ∙ ap (λ x. core_parts T x env) (sym w.3)

    law_arms : (p : Branches) (on : Bool) (u : Need) (bs : Arms) (n m : ℕ) (G : List Ground) (env : List Value) (r : Row) (s : Ground) (l : Name) (a : Ground) (v : Value)
        → HaveTypes G env → ArmTypes S G bs r s → at l r ≡ Some a → Inhabits a v → HasArm l bs → ArmsBecome on ss (passed_on u) bs n p m → Same s (core_arms T bs l v env) (plan_branches R p l v env)
    law_arms no_branches on u bs n m G env r s l a v e h i j c w = absurd (subst (HasArm l) w.0 c)
    law_arms (rest b) on u bs n m G env r s l a v e h i j c w =
        let g : ArmTypes S G (term.rest w.0) r s = subst (λ x. ArmTypes S G x r s) w.1 h in
        subst (λ x. Same s (core_arms T x l v env) (plan R b env)) (sym w.1) (passed u s _ _ (law b on (passed_on u) w.0 n m G env s e g w.2))
    law_arms (branch k b bs) on u ys n m G env r s l a v e h i j c w =
        subst (λ x. Same s (core_arms T x l v env) (plan_branches R (branch k b bs) l v env)) (sym w.3)
        (by_label (pointwise nat_eq l k) refl (λ q. passed u s _ _ (law b on (passed_on u) w.0 n w.2 (g.0 ∷ G) (v ∷ env) s (subst (λ t. Inhabits t v) q j, e) g.2 w.4))
        (λ d. law_arms bs on u w.1 w.2 m G env r s l a v e g.3 i j d w.5))
      where
        g : ArmTypes S G (arm k w.0 w.1) r s
        g = subst (λ x. ArmTypes S G x r s) w.3 h

        has : HasArm l (arm k w.0 w.1)
        has = subst (HasArm l) w.3 c

        by_label : (y : Bool) → pointwise nat_eq l k ≡ y → (a ≡ g.0 → Same s (core T w.0 (v ∷ env)) (plan R b (v ∷ env))) → (HasArm l w.1 → Same s (core_arms T w.1 l v env) (plan_branches R bs l v env))
            → Same s (cond y (core T w.0 (v ∷ env)) (core_arms T w.1 l v env)) (cond y (plan R b (v ∷ env)) (plan_branches R bs l v env))
        by_label true q here there =
            let same : l ≡ k = same_text l k (sym q) in
            let f : Some a ≡ Some g.0 = sym i ∙ ap (λ x. at x r) same ∙ g.1 in
            let z : a ≡ g.0 = cc in
            here z
        by_label false q here there = there (⊎_elim (λ d. absurd (off d)) (λ d. d) has)
          where
            off : l ≡ k → ⊥
            off d = let f : pointwise nat_eq l k ≡ true = subst (λ x. pointwise nat_eq l x ≡ true) d (nat_list_eq_equiv.refl l) in let z : true ≡ false = sym f ∙ q in cc

  -- the items of a collection as they come
  pub law_coming : (on : Bool) (t : Tree) (p : Node) (k : Kind) (s : Ground) → CoreTypes S [] t (coll k s) → Sends on ss t p → Alike k (items_of (core T t [])) (coming (plan R p []))
  law_coming on t p k s h w =
      let both = law p on need.Items t 0 w.0 [] [] (coll k s) tt h w.1 in
      subst (λ o. Alike k (items_of o) (coming (plan R p []))) both.0 (coming_alike k s (plan R p []) both.1)
