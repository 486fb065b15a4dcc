-- A plan makes sense where the term does from which it was made.
use Rattle.std.proofs.Common.{◌≡◌, ◌≢◌, ◌==◌, inl, inr, ⊎_elim, ℕ, zero, suc, Bool, true, false, ◌&&◌, ◌||◌, cond, List, [], ◌∷◌, length, map, filter, Some, None, IsSome, slice_get, refl, sym, ap, subst, ◌∙◌}
use Rattle.std.specs.Cmp.Derive.{both_true as both_hold}
use Rattle.std.proofs.Math.Bool.{or-true}
use Rattle.std.specs.List.{AllByRecursion}
use Rattle.std.specs.List.Sorted.{IsStrictlySortedBy}
use Rattle.std.proofs.lemmas.Bool.{and_parts}
use Rattle.std.proofs.lemmas.List.Kept.{IsStrictlySortedBy-filter}
use Rattle.kl_base.specs.Fields.{bytes_cmp}
use Rattle.kl_value.specs.declared.Kind.{Kind}
use Rattle.kl_value.specs.declared.Kind.TheVariants as kind
use Rattle.kl_type.specs.Ground.{Ground, Row, bool, int, str, rec as rec_type, var as var_type, coll, arrow, at, IsGround, ground_of}
use Rattle.kl_outcome.specs.Outcome.{Name}
use Rattle.kl_core.specs.Trees as term
use Rattle.kl_core.specs.Trees.{Tree, Trees, no_trees, trees, Parts, no_parts, parts, Arms, no_arms, arm}
use Rattle.kl_core.specs.Typing.{SourceTypes, CoreTypes, EachType, AllTypes, PartTypes, ArmTypes, HasArm}
use Rattle.kl_ask.specs.Asks.{columns, column, item_of, kind_of, shown_type, same_names, is_allowed, AskFits}
use Rattle.kl_ask.specs.Driver.{State, Source, IsColl, IsFlat}
use Rattle.kl_ask.specs.declared.ask.Ask.TheVariants as asks
use Rattle.kl_ask.specs.declared.ask.ColTest.{ColTest}
use mathlib.Core.Path.{fun_ext}
use Rattle.kl_type.specs.Ground.{row_by}
use Rattle.kl_outcome.proofs.Having.{both_true}
use Rattle.kl_ask.specs.Statements.{RowTypes, type_of_table, column_in, cell_type, SqlSideFits, SqlTestFits, SqlFits, sql_type}
use Rattle.kl_sqltext.specs.Grammar.{SqlColumn}
use Rattle.kl_sqltext.specs.Meaning.{shown_columns}
use Rattle.kl_sqltext.specs.declared.ast.Spj.{Spj}
use Rattle.kl_sqltext.specs.declared.ast.SqlTest.{SqlTest}
use Rattle.kl_sqltext.specs.declared.ast.SqlRight.{SqlRight}
use Rattle.kl_sqltext.specs.declared.ast.SqlRight.TheVariants as right
use Rattle.kl_ship.specs.Joined.{Joins, statement}
use Rattle.kl_ship.proofs.Stated.{column_type}
use Rattle.kl_ship.proofs.Listed.{Records}
use Rattle.kl_ship.proofs.Joint.{TestOf, SideOf, JoinedSense, joined_sense, joined_tests}
use Rattle.kl_ship.proofs.OverShown.{cs_there, row_type_good, shown_row, shown_types}
use Rattle.kl_ask.proofs.Whole.{whole_type, can_start_whole, collection_is}
use Rattle.kl_ship.specs.declared.needs.Need.{Need}
use Rattle.kl_ship.specs.declared.needs.Need.TheVariants as need
use Rattle.kl_plan.specs.declared.plan.Scan.{Scan}
use Rattle.kl_ship.specs.declared.source.ShipSource.{ShipSource}
use Rattle.kl_plan.specs.Nodes as node
use Rattle.kl_plan.specs.Nodes.{Node, Nodes, no_nodes, nodes, Fields, no_fields, fields, Branches, no_branches, rest, branch, view}
use Rattle.kl_ship.specs.Delegation.{whole_use, column_use, in_use, first_of, or_first, kept_of, tests_taken, body_left, row_test}
use Rattle.kl_ship.specs.Ships.{Sends, Becomes, TreesBecome, PartsBecome, ArmsBecome, passed_on, IsScan, IsWholeScan, Delegates, ByRows, BySql, ByAsk, columns_asked, scan_kind}
use Rattle.kl_plan.specs.Typing.{AnyMemo, Nowhere}
use Rattle.kl_ship.specs.Sources.{ground, fits, fits_source}
use Rattle.kl_ship.specs.Contents.{types_in, AreSources}
use Rattle.kl_ship.proofs.Sources.{Known, known}
use Rattle.kl_ship.proofs.Over.{types_over}
use Rattle.kl_ship.proofs.TestTypes.{tests_fit}
use Rattle.kl_ship.proofs.Fronts.{left_typed}
use Rattle.kl_ship.proofs.Filtered.{all_filtered}
use Rattle.kl_plan.proofs.Comings.{same_type}
use Rattle.kl_ship.proofs.Shown.{all_ground, all_shown_sense, shown_ground, shown_sense}
use Rattle.kl_plan.specs.Typing.{PlanTypes, EachPlan, PlansOf, FieldTypes, BranchTypes, HasBranch}
use Rattle.kl_ship.specs.Sense.{AreTypesOf, AskOf, ScanOf, KeepsTypes}

-- ---- a scan of a whole source

-- only a list is drawn as a list
list_only : (k j : Kind) (unique : Bool) → scan_kind (need.Source k) j unique ≡ kind.List → j ≡ kind.List
list_only kind.Set kind.Set unique e = cc
list_only kind.Set kind.Bag unique e = cc
list_only kind.Set kind.List unique e = refl
list_only kind.Bag kind.Set true e = cc
list_only kind.Bag kind.Set false e = cc
list_only kind.Bag kind.Bag unique e = cc
list_only kind.Bag kind.List unique e = refl
list_only kind.List kind.Set unique e = cc
list_only kind.List kind.Bag unique e = cc
list_only kind.List kind.List unique e = refl

kind_only : (u : Need) (j : Kind) (unique : Bool) → scan_kind u j unique ≡ kind.List → j ≡ kind.List
kind_only need.Whole j unique e = e
kind_only need.Items j unique e = e
kind_only (need.Source k) j unique e = list_only k j unique e

-- a driver that has the source attached, with its abilities
abbrev attached_source : ShipSource → Source
attached_source s = record { ty = s.ty; rows = None; count = 0; kept = None }

abbrev holding : ShipSource → State
holding s = record {
  kind = record { name = []; abilities = s.abilities; suits = λ t. false; most = None; stored = None; spells = None };
  attached = λ n. Some (attached_source s);
  cursors = λ k. None;
  file = λ k. None;
  read = λ k. None;
  asked = [];
  handed = 0;
  faults = 0;
  drifts = 0;
  unread = 0;
}

abbrev IsAsked : ShipSource → Ground → Type 0
IsAsked s t = (is_allowed s.abilities t (asks.Rows s.name (columns (item_of (ground s))) []) ≡ true) × AskFits t (columns (item_of (ground s))) []

-- it can always be asked for whole rows
whole_asked : (s : ShipSource) → IsGround (ground s) → IsAsked s (ground s)
whole_asked s good =
    let w = (can_start_whole (holding s) s.name s.ty (attached_source s) refl refl good).answerable in
    let e : Some (attached_source s) ≡ Some w.0 = w.1 in
    let same : w.0 ≡ attached_source s = cc in
    subst (λ a. IsAsked s (ground_of a.ty)) same (w.2, w.3)

-- a scan of all its rows asks what it can be asked
pub whole_ask : (ss : List ShipSource) (s : ShipSource) (u : Need) (n : ℕ) (c : Scan) → IsWholeScan s u n c → IsGround (ground s) → AskOf ss s c.ask c.kind (item_of (ground s))
whole_ask ss s u n c w good =
    let a = whole_asked s good in
    subst (λ q. AskOf ss s q c.kind (item_of (ground s))) (sym w.ask) (refl, a.0, a.1, sym (whole_type (item_of (ground s))), λ e. kind_only u (kind_of (ground s)) s.abilities.unique (sym w.scan.kind ∙ e))

whole_scan : (ss : List ShipSource) (i : ℕ) (s : ShipSource) (u : Need) (n : ℕ) (c : Scan) → slice_get ss i ≡ Some s → IsWholeScan s u n c → IsGround (ground s) → ScanOf ss c (item_of (ground s))
whole_scan ss i s u n c at w good = record { place = i; source = s; listed = at; driver = w.scan.driver; named = w.scan.source; ask = whole_ask ss s u n c w good }

-- ---- a scan of a source to which work is left

-- the columns that are asked are columns, in rising order
first_rises : (ls : List Name) → IsStrictlySortedBy bytes_cmp (first_of ls)
unfolding IsStrictlySortedBy
first_rises [] = tt
first_rises (l ∷ ls) = (tt, tt)

one_rises : (keep all : List Name) → IsStrictlySortedBy bytes_cmp keep → IsStrictlySortedBy bytes_cmp (or_first keep all)
one_rises [] all h = first_rises all
one_rises (k ∷ keep) all h = h

use_rises : (w : Bool) (p : Name → Bool) (all : List Name) → IsStrictlySortedBy bytes_cmp all → IsStrictlySortedBy bytes_cmp (cond w all (filter p all))
use_rises true p all h = h
use_rises false p all h = IsStrictlySortedBy-filter bytes_cmp p all h

first_there : (P : Name → Type 0) (ls : List Name) → AllByRecursion P ls → AllByRecursion P (first_of ls)
first_there P [] h = tt
first_there P (l ∷ ls) h = (h.0, tt)

one_there : (P : Name → Type 0) (keep all : List Name) → AllByRecursion P keep → AllByRecursion P all → AllByRecursion P (or_first keep all)
one_there P [] all h g = first_there P all g
one_there P (k ∷ keep) all h g = h

use_there : (P : Name → Type 0) (w : Bool) (p : Name → Bool) (all : List Name) → AllByRecursion P all → AllByRecursion P (cond w all (filter p all))
use_there P true p all h = h
use_there P false p all h = all_filtered P p all h

kept_rises : (d : Tree) (u : Ground) → IsStrictlySortedBy bytes_cmp (columns u) → IsStrictlySortedBy bytes_cmp (kept_of d u)
kept_rises d u h = one_rises (in_use 0 d (columns u)) (columns u) (use_rises (whole_use 0 d) (λ l. column_use 0 l d) (columns u) h)

kept_there : (P : Name → Type 0) (d : Tree) (u : Ground) → AllByRecursion P (columns u) → AllByRecursion P (kept_of d u)
kept_there P d u h = one_there P (in_use 0 d (columns u)) (columns u) (use_there P (whole_use 0 d) (λ l. column_use 0 l d) (columns u) h) h

-- what of an ask for rows its driver must allow
tests_allowed : (select : Bool) (k : Kind) (b : Tree) → (length (map row_test (tests_taken select k 1 b)) == 0 || select) ≡ true
tests_allowed true k b = or-true (length (map row_test (tests_taken true k 1 b)) == 0)
tests_allowed false k b = refl

-- of a collection type that is proper the items' type is
pub item_good : (t : Ground) → IsGround t → IsGround (item_of t)
item_good (coll k t) good = good
item_good bool good = good
item_good int good = good
item_good str good = good
item_good (rec_type r) good = good
item_good (var_type r) good = good
item_good (arrow a t) good = good

module _ (ss : List ShipSource) (S : SourceTypes) (s : ShipSource) (k : Kind) (b : Tree) (n : ℕ) (c : Scan) (d : Tree) (G : List Ground) (v : Ground) (good : IsGround (ground s)) (sense : CoreTypes S (item_of (ground s) ∷ G) b v) where
  abbrev u : Ground
  u = item_of (ground s)

  abbrev all : List Name
  all = columns u

  either_columns : (P : List Name → Type 0) → (s.abilities.project ≡ true → P (kept_of d u)) → P all → P (columns_asked k s d)
  either_columns P some whole = by (fits k s) s.abilities.project refl
    where
      by : (x y : Bool) → s.abilities.project ≡ y → P (cond (x && y) (kept_of d u) all)
      by true true is = some is
      by true false is = whole
      by false y is = whole

  pub rows_asked : IsScan s (need.Source k) n c → ByRows s k b c d → AskOf ss s c.ask c.kind (shown_type (columns_asked k s d) u)
  rows_asked scan asked =
      let w = whole_asked s good in
      let fit = w.1 in
      subst (λ q. AskOf ss s q c.kind (shown_type (columns_asked k s d) u)) (sym asked.ask) (
        refl,
        both_hold (tests_allowed s.abilities.select k b)
            (either_columns (λ keep. (same_names keep all || s.abilities.project) ≡ true) (λ p. ap (λ b. same_names (kept_of d u) all || b) p ∙ or-true (same_names (kept_of d u) all)) (and_parts (length {A = ColTest} [] == 0 || s.abilities.select) (same_names all all || s.abilities.project) w.0).1),
        record {
          rising = either_columns (λ keep. IsStrictlySortedBy bytes_cmp keep) (λ p. kept_rises d u fit.rising) fit.rising;
          there = either_columns (λ keep. AllByRecursion (λ l. IsSome (column l u)) keep) (λ p. kept_there (λ l. IsSome (column l u)) d u fit.there) fit.there;
          fitting = tests_fit S u G s.abilities.select k b v sense;
        },
        refl,
        λ e. kind_only (need.Source k) (kind_of (ground s)) s.abilities.unique (sym scan.kind ∙ e),
      )

  pub rows_ground : IsGround (shown_type (columns_asked k s d) u)
  rows_ground = either_columns (λ keep. IsGround (shown_type keep u)) (λ p. shown_ground d u (item_good (ground s) good)) (all_ground u (item_good (ground s) good))

  -- what is left of the body makes sense over the rows that are asked
  pub rows_sense : ByRows s k b c d → CoreTypes S (shown_type (columns_asked k s d) u ∷ G) d v
  rows_sense asked =
      let left_sense : CoreTypes S (u ∷ G) d v = subst (λ y. CoreTypes S (u ∷ G) y v) (sym asked.body) (of_left s.abilities.select) in
      either_columns (λ keep. CoreTypes S (shown_type keep u ∷ G) d v) (λ p. shown_sense S d u G v (item_good (ground s) good) left_sense) (all_shown_sense S d u G v left_sense)
    where
      of_left : (x : Bool) → CoreTypes S (u ∷ G) (body_left x k 1 b) v
      of_left true = left_typed S k b 1 (u ∷ G) v sense
      of_left false = sense

-- ---- plans

-- Over sources of which those that have a type are of the list, and where a scan of one makes sense, whole or with work of a loop's
-- body left to it.
module _ (ss : List ShipSource) (S : SourceTypes) (Of : Scan → Ground → Type 0)
    (collections : (i : ℕ) (t : Ground) (s : ShipSource) → S i ≡ Some t → slice_get ss i ≡ Some s → IsColl (ground s))
    (knows : (i : ℕ) (t : Ground) → S i ≡ Some t → Known ss i t)
    (asked : (i : ℕ) (t : Ground) (s : ShipSource) (u : Need) (n : ℕ) (c : Scan) → S i ≡ Some t → slice_get ss i ≡ Some s → IsWholeScan s u n c → IsGround (ground s) → Of c (item_of (ground s)))
    (left_to : (i : ℕ) (t : Ground) (s : ShipSource) (k : Kind) (b d : Tree) (n : ℕ) (c : Scan) (G : List Ground) (v : Ground) → S i ≡ Some t → slice_get ss i ≡ Some s
    → IsScan s (need.Source k) n c → ByAsk ss s k b c d → IsGround (ground s) → CoreTypes S (item_of (ground s) ∷ G) b (coll k v)
    → (r : Ground) × Of c r × IsGround r × CoreTypes S (r ∷ G) d (coll k v)) where
  abbrev Types : List Ground → Node → Ground → Type 0
  Types = PlanTypes Of AnyMemo

  -- of what a loop draws, the kind may be another
  abbrev TypesFor : Need → List Ground → Node → Ground → Type 0
  TypesFor (need.Source k) G p s = (j : Kind) (u : Ground) → s ≡ coll j u → (i : Kind) × Types G p (coll i u)
  TypesFor need.Whole G p s = Types G p s
  TypesFor need.Items G p s = Types G p s

  passed : (u : Need) (G : List Ground) (p : Node) (s : Ground) → TypesFor (passed_on u) G p s → Types G p s
  passed need.Whole G p s h = h
  passed need.Items G p s h = h
  passed (need.Source k) G p s h = h

  for : (u : Need) (G : List Ground) (p : Node) (s : Ground) → Types G p s → TypesFor u G p s
  for need.Whole G p s h = h
  for need.Items G p s h = h
  for (need.Source k) G p s h = λ j u f. (j, subst (Types G p) f h)

  source_typed : (u : Need) (i : ℕ) (s : ShipSource) (n : ℕ) (c : Scan) (G : List Ground) (t : Ground) → S i ≡ Some t → slice_get ss i ≡ Some s → IsWholeScan s u n c → IsGround (ground s) → t ≡ ground s → TypesFor u G (node.Scan c) t
  source_typed need.Whole i s n c G t is at w good e =
      (item_of (ground s), e ∙ collection_is (ground s) (collections i t s is at) ∙ ap (λ k. coll k (item_of (ground s))) (sym w.scan.kind), subst IsGround (sym e) good, asked i t s need.Whole n c is at w good)
  source_typed need.Items i s n c G t is at w good e =
      (item_of (ground s), e ∙ collection_is (ground s) (collections i t s is at) ∙ ap (λ k. coll k (item_of (ground s))) (sym w.scan.kind), subst IsGround (sym e) good, asked i t s need.Items n c is at w good)
  source_typed (need.Source k) i s n c G t is at w good e = λ j u f.
      let same : item_of (ground s) ≡ u = same_type (kind_of (ground s)) j (item_of (ground s)) u (sym (collection_is (ground s) (collections i t s is at)) ∙ sym e ∙ f) in
      -- a collection of any kind is of a ground type where its items are
      let item : IsGround u = subst IsGround (sym e ∙ f) good in
      (c.kind, (item_of (ground s), ap (coll c.kind) (sym same), item, asked i t s (need.Source k) n c is at w good))

  has_branch : (p : Branches) (l : Name) (on : Bool) (u : Need) (bs : Arms) (n m : ℕ) → ArmsBecome on ss u bs n p m → HasArm l bs → HasBranch l p
  has_branch no_branches l on u bs n m w h = absurd (subst (HasArm l) w.0 h)
  has_branch (rest c) l on u bs n m w h = tt
  has_branch (branch k b cs) l on u bs n m w h =
      let g : HasArm l (arm k w.0 w.1) = subst (HasArm l) w.3 h in
      ⊎_elim (λ e. inl e) (λ d. inr (has_branch cs l on u w.1 w.2 m w.5 d)) g

  -- what a loop draws of a scan to which work of its body is left, and what is left of the body
  generator_typed : (k : Kind) (b t : Tree) (n : ℕ) (p : Node) (m : ℕ) (d : Tree) (G : List Ground) (j : Kind) (u v : Ground) → Delegates ss k b t n p m d → CoreTypes S G t (coll j u) → CoreTypes S (u ∷ G) b (coll k v)
      → (r : Ground) × (i : Kind) × Types G p (coll i r) × CoreTypes S (r ∷ G) d (coll k v)
  generator_typed k b t n p m d G j u v w h g =
      let src : CoreTypes S G (term.Source w.place) (coll j u) = subst (λ y. CoreTypes S G y (coll j u)) w.is h in
      let x = knows w.place (coll j u) src.0 in
      let q : Some w.source ≡ Some x.0 = sym w.listed ∙ x.1 in
      let same : w.source ≡ x.0 = cc in
      let whole : ground w.source ≡ coll j u = ap ground same ∙ sym x.2 in
      let item : item_of (ground w.source) ≡ u = ap item_of whole in
      let z = left_to w.place (coll j u) w.source k b d n w.reading G v src.0 w.listed w.scan w.ask (subst IsGround (sym whole) src.1) (subst (λ y. CoreTypes S (y ∷ G) b (coll k v)) (sym item) g) in
      (z.0, w.reading.kind, subst (λ y. Types G y (coll w.reading.kind z.0)) (sym w.plan) (z.0, refl, z.2, z.1), z.3)

  formed : (G : List Ground) (t x : Tree) (s : Ground) → t ≡ x → CoreTypes S G t s → CoreTypes S G x s
  formed G t x s is h = subst (λ y. CoreTypes S G y s) is h

  mutual
    typed : (p : Node) (on : Bool) (u : Need) (t : Tree) (n m : ℕ) (G : List Ground) (s : Ground) → CoreTypes S G t s → Becomes on ss u t n p m → TypesFor u G p s
    typed (node.Plain x) on u t n m G s h w = for u G (node.Plain x) s (w.no_source, λ U. types_over S U Nowhere (λ i none. absurd none) x G s w.no_source (formed G t x s w.is h))
    typed (node.Var x) on u t n m G s h w = for u G (node.Var x) s (formed G t (term.Var x) s w.0 h)
    typed (node.Scan c) on u t n m G s h w =
        let g = formed G t (term.Source w.0) s w.2 h in
        let k = knows w.0 s g.0 in
        let q : Some w.1 ≡ Some k.0 = sym w.3 ∙ k.1 in
        let same : w.1 ≡ k.0 = cc in
        let e : s ≡ ground w.1 = k.2 ∙ ap ground (sym same) in
        source_typed u w.0 w.1 n c G s g.0 w.3 w.4 (subst IsGround e g.1) e
    typed (node.Rec ps) on u t n m G s h w =
        let g = formed G t (term.Rec w.0) s w.1 h in
        for u G (node.Rec ps) s (g.0, g.1, g.2, typed_parts ps on w.0 n m G g.0 g.3 w.2)
    typed (node.Proj l a) on u t n m G s h w =
        let g = formed G t (term.Proj l w.0) s w.1 h in
        for u G (node.Proj l a) s (g.0, typed a on need.Whole w.0 n m G (rec_type g.0) g.1 w.2, g.2)
    typed (node.Inj l a) on u t n m G s h w =
        let g = formed G t (term.Inj l w.0) s w.1 h in
        for u G (node.Inj l a) s (g.0, g.1, g.2, g.3, g.4, typed a on need.Whole w.0 n m G g.1 g.5 w.2)
    typed (node.Case a bs) on u t n m G s h w =
        let g = formed G t (term.Case w.0 w.1) s w.3 h in
        for u G (node.Case a bs) s
        (g.0, typed a on need.Whole w.0 n w.2 G (var_type g.0) g.1 w.4, λ l i. has_branch bs l on (passed_on u) w.1 w.2 m w.5 (g.2 l i), typed_arms bs on u w.1 w.2 m G g.0 s g.3 w.5)
    typed (node.Make k ps) on u t n m G s h w =
        let g = formed G t (term.Make k w.0) s w.1 h in
        for u G (node.Make k ps) s (g.0, g.1, g.2, typed_each ps on w.0 n m G g.0 g.3 w.2)
    typed (node.Union a b) on u t n m G s h w =
        let g = formed G t (term.Union w.0 w.1) s w.3 h in
        for u G (node.Union a b) s
        (g.0, g.1, g.2, passed u G a s (typed a on (passed_on u) w.0 n w.2 G s g.3 w.4), passed u G b s (typed b on (passed_on u) w.1 w.2 m G s g.4 w.5))
    typed (node.Ext k b a) on u t n m G s h w =
        let g = formed G t (term.Ext k w.0 w.1) s w.4 h in
        let sense : CoreTypes S (g.2 ∷ G) w.0 (coll k g.0) = subst (CoreTypes S (g.2 ∷ G) w.0) g.3 g.5 in
        let body : (r : Ground) → CoreTypes S (r ∷ G) w.2 (coll k g.0) → Types (r ∷ G) b s = λ r f. subst (Types (r ∷ G) b) (sym g.3) (typed b on need.Items w.2 w.3 m (r ∷ G) (coll k g.0) f w.6) in
        for u G (node.Ext k b a) s
        (⊎_elim
        (λ c.
        let source = typed a on (need.Source k) w.1 n w.3 G (coll g.1 g.2) g.4 c.2 g.1 g.2 refl in
        (g.0, source.0, g.2, g.3, source.1, body g.2 (subst (λ y. CoreTypes S (g.2 ∷ G) y (coll k g.0)) (sym c.1) sense)))
        (λ c.
        let source = generator_typed k w.0 w.1 n a w.3 w.2 G g.1 g.2 g.0 c.1 g.4 sense in
        (g.0, source.1, source.0, g.3, source.2, body source.0 source.3))
        w.5)
    typed (node.If a b c) on u t n m G s h w =
        let g = formed G t (term.If w.0 w.1 w.2) s w.5 h in
        for u G (node.If a b c) s
        (typed a on need.Whole w.0 n w.3 G bool g.0 w.6, passed u G b s (typed b on (passed_on u) w.1 w.3 w.4 G s g.1 w.7), passed u G c s (typed c on (passed_on u) w.2 w.4 m G s g.2 w.8))
    typed (node.Let a b) on u t n m G s h w =
        let g = formed G t (term.Let w.0 w.1) s w.3 h in
        for u G (node.Let a b) s
        (g.0, typed a on need.Whole w.0 n w.2 G g.0 g.1 w.4, passed u (g.0 ∷ G) b s (typed b on (passed_on u) w.1 w.2 m (g.0 ∷ G) s g.2 w.5))
    typed (node.Prim c ps) on u t n m G s h w =
        let g = formed G t (term.Prim c w.0) s w.1 h in
        for u G (node.Prim c ps) s (g.0, typed_all ps on w.0 n m G g.0 g.1 w.2, g.2)
    typed (node.Join number k how o cs c q b) on u t n m G s h w = absurd w
    typed (node.Memo number frees p) on u t n m G s h w = absurd w

    typed_each : (p : Nodes) (on : Bool) (ts : Trees) (n m : ℕ) (G : List Ground) (s : Ground) → EachType S G ts s → TreesBecome on ss ts n p m → EachPlan Of AnyMemo G p s
    typed_each no_nodes on ts n m G s h w = tt
    typed_each (nodes p ps) on ts n m G s h w =
        let g : EachType S G (trees w.0 w.1) s = subst (λ x. EachType S G x s) w.3 h in
        (typed p on need.Whole w.0 n w.2 G s g.0 w.4, typed_each ps on w.1 w.2 m G s g.1 w.5)

    typed_all : (p : Nodes) (on : Bool) (ts : Trees) (n m : ℕ) (G : List Ground) (us : List Ground) → AllTypes S G ts us → TreesBecome on ss ts n p m → PlansOf Of AnyMemo G p us
    typed_all no_nodes on ts n m G us h w = subst (λ x. AllTypes S G x us) w.0 h
    typed_all (nodes p ps) on ts n m G us h w =
        let g : AllTypes S G (trees w.0 w.1) us = subst (λ x. AllTypes S G x us) w.3 h in
        (g.0, g.1, g.2, typed p on need.Whole w.0 n w.2 G g.0 g.3 w.4, typed_all ps on w.1 w.2 m G g.1 g.4 w.5)

    typed_parts : (p : Fields) (on : Bool) (ts : Parts) (n m : ℕ) (G : List Ground) (r : Row) → PartTypes S G ts r → PartsBecome on ss need.Whole ts n p m → FieldTypes Of AnyMemo G p r
    typed_parts no_fields on ts n m G r h w = subst (λ x. PartTypes S G x r) w.0 h
    typed_parts (fields l p ps) on ts n m G r h w =
        let g : PartTypes S G (parts l w.0 w.1) r = subst (λ x. PartTypes S G x r) w.3 h in
        (g.0, g.1, g.2, typed p on need.Whole w.0 n w.2 G g.0 g.3 w.4, typed_parts ps on w.1 w.2 m G g.1 g.4 w.5)

    typed_arms : (p : Branches) (on : Bool) (u : Need) (bs : Arms) (n m : ℕ) (G : List Ground) (r : Row) (s : Ground) → ArmTypes S G bs r s → ArmsBecome on ss (passed_on u) bs n p m → BranchTypes Of AnyMemo G p r s
    typed_arms no_branches on u bs n m G r s h w = tt
    typed_arms (rest c) on u bs n m G r s h w =
        passed u G c s (typed c on (passed_on u) w.0 n m G s (subst (λ x. ArmTypes S G x r s) w.1 h) w.2)
    typed_arms (branch l b cs) on u bs n m G r s h w =
        let g : ArmTypes S G (arm l w.0 w.1) r s = subst (λ x. ArmTypes S G x r s) w.3 h in
        (g.0, g.1, passed u (g.0 ∷ G) b s (typed b on (passed_on u) w.0 n w.2 (g.0 ∷ G) s g.2 w.4), typed_arms cs on u w.1 w.2 m G r s g.3 w.5)

  pub shipped_types : (p : Node) (on : Bool) (t : Tree) (n m : ℕ) (s : Ground) → CoreTypes S [] t s → Becomes on ss need.Items t n p m → PlanTypes Of AnyMemo [] p s
  shipped_types p on t n m s h w = typed p on need.Items t n m [] s h w

-- ---- a scan by a statement

cell_types : (types : RowTypes) (ts : List ShipSource) (rs : List Row) → Records ts rs → AllByRecursion (λ t. types t.name ≡ Some (item_of (ground t))) ts → (i : ℕ) (l : Name)
    → column_in (type_of_table types (slice_get (map (λ t. t.name) ts) i)) l ≡ column_type rs i l
cell_types types [] [] h e i l = refl
cell_types types [] (r ∷ rs) h e i l = absurd h
cell_types types (t ∷ ts) [] h e i l = absurd h
cell_types types (t ∷ ts) (r ∷ rs) h e zero l = ap (λ o. column_in o l) e.0 ∙ ap (column l) h.0
cell_types types (t ∷ ts) (r ∷ rs) h e (suc i) l = cell_types types ts rs h.2 e.1 i l

side_fits : (types : RowTypes) (q : Spj) (rs : List Row) → ((i : ℕ) (l : Name) → cell_type types q i l ≡ column_type rs i l) → (x : SqlTest) → TestOf rs x → SqlTestFits types q x
side_fits types q rs e x h = (h.0, e x.table x.column ∙ h.1, by x.right h.2)
  where
    by : (r : SqlRight) → SideOf rs h.0 r → SqlSideFits types q h.0 r
    by (right.Col i l) g = e i l ∙ g
    by (right.Lit v) g = g

sides_fit : (types : RowTypes) (q : Spj) (rs : List Row) → ((i : ℕ) (l : Name) → cell_type types q i l ≡ column_type rs i l) → (xs : List SqlTest) → AllByRecursion (TestOf rs) xs → AllByRecursion (SqlTestFits types q) xs
sides_fit types q rs e [] h = tt
sides_fit types q rs e (x ∷ xs) h = (side_fits types q rs e x h.0, sides_fit types q rs e xs h.1)

columns_fit : (types : RowTypes) (q : Spj) (rs : List Row) → ((i : ℕ) (l : Name) → cell_type types q i l ≡ column_type rs i l) → (cs : List SqlColumn) → AllByRecursion (λ c. IsSome (column_type rs c.0 c.1)) cs → AllByRecursion (λ c. IsSome (cell_type types q c.0 c.1)) cs
columns_fit types q rs e [] h = tt
columns_fit types q rs e (c ∷ cs) h = (subst IsSome (sym (e c.0 c.1)) h.0, columns_fit types q rs e cs h.1)

tables_fit : (types : RowTypes) (ts : List ShipSource) → AllByRecursion (λ t. types t.name ≡ Some (item_of (ground t))) ts → AllByRecursion (λ l. IsSome (types l)) (map (λ t. t.name) ts)
tables_fit types [] h = tt
tables_fit types (t ∷ ts) h = (subst IsSome (sym h.0) refl, tables_fit types ts h.1)

never_list : (k j : Kind) (unique : Bool) → (j ≡ kind.List → ⊥) → fits_source j k unique ≡ true → k ≢ kind.List
never_list kind.List j unique n f e = n (list_only kind.List j unique (ap (λ x. cond x kind.List j) f))
never_list kind.Set j unique n f e = cc
never_list kind.Bag j unique n f e = cc

-- a driver that joins has records
pub flat_record : (t : Ground) → IsFlat t → (r : Row) × (t ≡ rec_type r)
flat_record (rec_type r) h = (r, refl)
flat_record t h = absurd h

module _ (ss : List ShipSource) (fit : AreSources ss) (S : SourceTypes) (knows : (i : ℕ) (t : Ground) → S i ≡ Some t → Known ss i t) where
  pub is_coll : (i : ℕ) (t : ShipSource) → slice_get ss i ≡ Some t → (u : Ground) → S i ≡ Some u → u ≡ coll (kind_of (ground t)) (item_of (ground t))
  is_coll i t at u e =
      let x = knows i u e in
      let z : Some t ≡ Some x.0 = sym at ∙ x.1 in
      let same : t ≡ x.0 = cc in
      x.2 ∙ ap ground (sym same) ∙ collection_is (ground t) (fit.suited i t at).collection

  module _ (i : ℕ) (t : Ground) (s : ShipSource) (k : Kind) (b d : Tree) (n : ℕ) (c : Scan) (G : List Ground) (v : Ground) (typed_at : S i ≡ Some t) (at : slice_get ss i ≡ Some s) (scan : IsScan s (need.Source k) n c)
      (asked : BySql ss s k b c d) (fitting : (fits k s && s.abilities.join) ≡ true) (good : IsGround (ground s)) (sense : CoreTypes S (item_of (ground s) ∷ G) b (coll k v)) where
    pub abilities : (fits k s ≡ true) × (s.abilities.join ≡ true)
    abilities = both_true (fits k s) s.abilities.join fitting

    pub flat : (j : ℕ) (u : ShipSource) → slice_get ss j ≡ Some u → u.driver ≡ s.driver → (r : Row) × (item_of (ground u) ≡ rec_type r)
    flat j u here same =
        let able : u.abilities ≡ s.abilities = fit.able i j s u at here same in
        flat_record (item_of (ground u)) ((fit.suited j u here).join (ap (λ a. a.join) able ∙ abilities.1))

    pub row : (r : Row) × (item_of (ground s) ≡ rec_type r)
    row = flat i s at refl

    pub body : CoreTypes S (rec_type row.0 ∷ G) b (coll k v)
    body = subst (λ y. CoreTypes S (y ∷ G) b (coll k v)) row.1 sense

    pub behind : JoinedSense S k ss s is_coll flat asked.joined asked.behind (rec_type row.0 ∷ G) v
    behind = joined_sense S k ss s is_coll flat s.abilities.select asked.joined 1 b asked.tests asked.behind (rec_type row.0 ∷ G) v body asked.joins

    abbrev pub rs : List Row
    rs = row.0 ∷ behind.0

    pub records : Records (s ∷ asked.joined) rs
    records = (row.1, subst IsGround row.1 (item_good (ground s) good), behind.1)

    abbrev pub shown : Row
    shown = shown_row s.abilities.project s asked.joined rs records asked.behind asked.apart

    abbrev pub q : Spj
    q = statement k s asked.joined asked.tests asked.behind

    pub sql_types : CoreTypes S (rec_type shown ∷ G) d (coll k v)
    sql_types = subst (λ y. CoreTypes S (rec_type shown ∷ G) y (coll k v)) (sym asked.body) (shown_types s.abilities.project s asked.joined rs records asked.behind asked.apart S G (coll k v) behind.2)

    pub sql_ground : IsGround (rec_type shown)
    sql_ground = row_type_good s.abilities.project s asked.joined rs records asked.behind asked.apart

    agreed : (types : RowTypes) → AreTypesOf ss s.driver types → (select : Bool) (ts : List ShipSource) (m : ℕ) (a : Tree) (qs : List SqlTest) (x : Tree) → Joins ss s k select m a ts qs x → AllByRecursion (λ y. types y.name ≡ Some (item_of (ground y))) ts
    agreed types e select [] m a qs x w = tt
    agreed types e select (y ∷ ts) m a qs x w = (e w.1 y w.4.listed w.4.driver, agreed types e true ts (suc m) w.0 w.2 x w.6)

    pub sql_fits : (types : RowTypes) → AreTypesOf ss s.driver types → SqlFits types q × (rec_type shown ≡ sql_type types q)
    sql_fits types e =
        let all : AllByRecursion (λ y. types y.name ≡ Some (item_of (ground y))) (s ∷ asked.joined) = (e i s at refl, agreed types e s.abilities.select asked.joined 1 b asked.tests asked.behind asked.joins) in
        let cells : (j : ℕ) (l : Name) → cell_type types q j l ≡ column_type rs j l = cell_types types (s ∷ asked.joined) rs records all in (
          record {
            tables = tables_fit types (s ∷ asked.joined) all;
            columns = columns_fit types q rs cells q.columns (cs_there s.abilities.project s asked.joined rs records asked.behind);
            apart = asked.apart;
            tests = sides_fit types q rs cells asked.tests (joined_tests S k ss s is_coll flat s.abilities.select asked.joined behind.0 (row.0 ∷ []) 1 b asked.tests asked.behind G v body refl behind.1 asked.joins);
          },
          ap (λ f. rec_type (row_by (λ x. x) (shown_columns f q.columns))) (sym (fun_ext λ j. fun_ext λ l. cells j l)),
        )

    pub sql_asked : ScanOf ss c (rec_type shown)
    sql_asked = record {
      place = i;
      source = s;
      listed = at;
      driver = scan.driver;
      named = scan.source;
      ask = subst (λ a. AskOf ss s a c.kind (rec_type shown)) (sym asked.ask) (q, asked.reads, abilities.1, not_list, sql_fits);
    }
      where
        not_list : c.kind ≢ kind.List
        not_list e = never_list k (kind_of (ground s)) s.abilities.unique ((fit.suited i s at).no_list abilities.1) abilities.0 (sym (ap (λ x. cond x k (kind_of (ground s))) abilities.0) ∙ sym scan.kind ∙ e)

-- ---- what is shipped, over these sources

module _ (ss : List ShipSource) (fit : AreSources ss) where
  pub left_to_source : (i : ℕ) (t : Ground) (s : ShipSource) (k : Kind) (b d : Tree) (n : ℕ) (c : Scan) (G : List Ground) (v : Ground) → types_in ss i ≡ Some t → slice_get ss i ≡ Some s
      → IsScan s (need.Source k) n c → ByAsk ss s k b c d → IsGround (ground s) → CoreTypes (types_in ss) (item_of (ground s) ∷ G) b (coll k v)
      → (r : Ground) × ScanOf ss c r × IsGround r × CoreTypes (types_in ss) (r ∷ G) d (coll k v)
  left_to_source i t s k b d n c G v is at scan ask good sense = ⊎_elim
      (λ a. (
        shown_type (columns_asked k s d) (item_of (ground s)),
        record { place = i; source = s; listed = at; driver = scan.driver; named = scan.source; ask = rows_asked ss (types_in ss) s k b n c d G (coll k v) good sense scan a.1 },
        rows_ground ss (types_in ss) s k b n c d G (coll k v) good sense,
        rows_sense ss (types_in ss) s k b n c d G (coll k v) good sense a.1,
      ))
      (λ a. (
        rec_type (shown ss fit (types_in ss) (known ss) i t s k b d n c G v is at scan a.1 a.0 good sense),
        sql_asked ss fit (types_in ss) (known ss) i t s k b d n c G v is at scan a.1 a.0 good sense,
        sql_ground ss fit (types_in ss) (known ss) i t s k b d n c G v is at scan a.1 a.0 good sense,
        sql_types ss fit (types_in ss) (known ss) i t s k b d n c G v is at scan a.1 a.0 good sense,
      ))
      ask

-- what is sent makes sense at each type of the term
pub sends_sense : (ss : List ShipSource) (on : Bool) (t : Tree) (p : Node) → AreSources ss → Sends on ss t p → KeepsTypes ss t p
sends_sense ss on t p fit w s c =
    shipped_types ss (types_in ss) (ScanOf ss) (λ i u x is at. (fit.suited i x at).collection) (known ss) (λ i u x v k q is. whole_scan ss i x v k q) (left_to_source ss fit) p on t 0 w.0 s c w.1
