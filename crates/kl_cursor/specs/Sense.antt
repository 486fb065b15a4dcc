-- Which cursors make sense where they stand.
use Rattle.std.specs.Prelude.{◌≡◌, ◌≢◌, ℕ, true, List, [], ◌∷◌, Option, Some, None, ⊤}
use Rattle.std.specs.List.{AllByRecursion}
use Rattle.kl_value.specs.declared.Kind.{Kind}
use Rattle.kl_value.specs.declared.Kind.TheVariants as kind
use Rattle.kl_value.specs.declared.Value.{Value}
use Rattle.kl_type.specs.Ground.{Ground, Row, bool, coll, IsGround}
use Rattle.kl_outcome.specs.Outcome.{fine, flow}
use Rattle.kl_outcome.specs.Typed.{Inhabits, HaveTypes, PrimTypes}
use Rattle.kl_core.specs.Counts.{fits_in}
use Rattle.kl_ask.specs.Driver.{Cursor}
use Rattle.kl_ask.specs.declared.settings.JoinHow.TheVariants as way
use Rattle.kl_join.specs.Index.{Files, RowIndex}
use Rattle.kl_scans.specs.Running.{Running}
use Rattle.kl_scans.specs.Right.{IsReadyRun}
use Rattle.kl_plan.specs.declared.plan.Scan.{Scan}
use Rattle.kl_plan.specs.Nodes.{Node, Nodes, Fields, Key, no_key, key}
use Rattle.kl_plan.specs.Typing.{PlanTypes, EachPlan, PlansOf, FieldTypes, KeyTypes}
use Rattle.kl_scans.specs.Held.{cursor_at}
use Rattle.kl_scans.specs.Stage.{Stage, stage, readings, ScanOf, MemoOf, IsTold}
use Rattle.kl_cursor.specs.Joining.{JoinParts, Holding, waits, files, inner_of}
use Rattle.kl_cursor.specs.Left.{Snap, fresh, have, pulling, both, bound, outside, inside, made, ended, taking, reads, pairing, joining, matching, leading}
use Rattle.kl_cursor.specs.Likeness.{Same}

abbrev pub TypesAt : Running → List Ground → Node → Ground → Type 0
TypesAt w = PlanTypes (ScanOf (stage w)) (MemoOf (stage w))

abbrev pub IsToldAt : Running → Type 0
IsToldAt w = IsTold (stage w)

-- an open cursor of a scan with rows of a type, which are told where all is
abbrev pub CursorOf : Running → Scan → Option Cursor → Ground → Type 0
CursorOf w c (Some o) u = (o.ask ≡ c.ask) × (o.ty ≡ u) × (IsToldAt w → (rows : List Value) × (o.left ≡ Some rows))
CursorOf w c None u = ⊤

-- a join of a kind over outer rows of one type and inner rows of another, whose items have a third
pub record JoinTypes (t : Stage) (G : List Ground) (j : JoinParts) (k : Kind) (outer inner item : Ground) : Type 0 where
  pub kind : j.kind ≡ k
  pub conds : EachPlan (ScanOf t) (MemoOf t) (outer ∷ G) j.conds bool
  pub proper : IsGround (coll j.inner.kind inner)
  pub scan : ScanOf t j.inner inner
  pub key : KeyTypes (ScanOf t) (MemoOf t) (outer ∷ G) j.way k j.key inner
  pub body : PlanTypes (ScanOf t) (MemoOf t) (inner ∷ outer ∷ G) j.body (coll k item)

-- an index of the inner rows by the label of the key
abbrev pub FilesBy : RowIndex → Key → List Value → Type 0
FilesBy i no_key rows = ⊥
FilesBy i (key l p) rows = Files i l rows

-- an index of the inner rows as a join draws them, in some order of a set or a bag
pub record IsFiled (t : Stage) (j : JoinParts) (i : RowIndex) (inner : Ground) : Type 0 where
  pub rows : List Value
  pub filed : FilesBy i j.key rows
  pub typed : AllByRecursion (Inhabits inner) rows
  pub same : IsTold t → Same j.kind (inner_of (readings t) [] j) (flow rows fine)

-- what a join holds is of its way
abbrev pub HoldsTypes : Stage → JoinParts → Holding → Ground → Ground → Type 0
HoldsTypes t j (waits xs) outer inner = (j.way ≡ way.Block) × AllByRecursion (Inhabits outer) xs
HoldsTypes t j (files None) outer inner = j.way ≡ way.Index
HoldsTypes t j (files (Some i)) outer inner = (j.way ≡ way.Index) × IsFiled t j i inner

-- a cursor of a collection of a kind, whose items have a type
abbrev pub Fits : Running → List Ground → Kind → Ground → Snap → Type 0
Fits w G k u (fresh p) = TypesAt w G p (coll k u)
Fits w G k u (have vs e) = AllByRecursion (Inhabits u) vs
Fits w G k u (pulling c x rows n) = AllByRecursion (Inhabits u) rows × ScanOf (stage w) c u
    × CursorOf w c (cursor_at w c.driver x) u × (n ≡ w.settings.fetch)
Fits w G k u (both s p) = Fits w G k u s × TypesAt w G p (coll k u)
Fits w G k u (bound v s) = (t : Ground) × Inhabits t v × Fits w (t ∷ G) k u s
Fits w G k u (outside b s) = (j : Kind) × (t : Ground) × (fits_in j k ≡ true) × Fits w G j t s × TypesAt w (t ∷ G) b (coll k u)
Fits w G k u (inside b s v i) = (j : Kind) × (t : Ground) × (fits_in j k ≡ true) × Fits w G j t s × TypesAt w (t ∷ G) b (coll k u)
    × Inhabits t v × Fits w (t ∷ G) k u i
Fits w G k u (made ps) = EachPlan (ScanOf (stage w)) (MemoOf (stage w)) G ps u
Fits w G k u ended = ⊤
Fits w G k u (taking vs s) = AllByRecursion (Inhabits u) vs × Fits w G k u s
Fits w G k u (reads i p) = (i ≡ k) × (j : Kind) × TypesAt w G p (coll j u)
Fits w G k u (pairing i b xs s) = (j : Kind) × (t : Ground) × (v : Ground) × (fits_in j k ≡ true) × Fits w G j v s
    × TypesAt w (v ∷ t ∷ G) b (coll k u) × AllByRecursion (Inhabits t) xs × (k ≢ kind.List) × (i ≡ k)
Fits w G k u (joining j s h n) = (i : Kind) × (t : Ground) × (v : Ground) × (fits_in i k ≡ true) × Fits w G i t s
    × JoinTypes (stage w) G j k t v u × HoldsTypes (stage w) j h t v
Fits w G k u (matching b ys x s) = (t : Ground) × (v : Ground) × Inhabits t x × AllByRecursion (Inhabits v) ys
    × TypesAt w (v ∷ t ∷ G) b (coll k u) × Fits w G k u s
Fits w G k u (leading v i s) = (t : Ground) × Inhabits t v × Fits w (t ∷ G) k u i × Fits w G k u s

-- a cursor that makes sense where it stands
abbrev pub Stands : Running → Snap → List Value → Type 0
Stands w s env = (G : List Ground) × (k : Kind) × (u : Ground) × HaveTypes G env × Fits w G k u s × IsReadyRun w

-- a plan that makes sense where it stands, and one of a collection
abbrev pub HasWorth : Running → Node → List Value → Type 0
HasWorth w p env = (G : List Ground) × (s : Ground) × HaveTypes G env × TypesAt w G p s × IsReadyRun w

abbrev pub HasItems : Running → Node → List Value → Type 0
HasItems w p env = (G : List Ground) × (k : Kind) × (u : Ground) × HaveTypes G env × TypesAt w G p (coll k u) × IsReadyRun w

-- for private functions alone: the same of the fields of a record, and of the arguments of a primitive
abbrev pub HasFields : Running → Fields → List Value → Type 0
HasFields w ps env = (G : List Ground) × (r : Row) × HaveTypes G env × FieldTypes (ScanOf (stage w)) (MemoOf (stage w)) G ps r
    × IsReadyRun w

abbrev pub HasCall : Running → ℕ → Nodes → List Value → Type 0
HasCall w c ps env = (G : List Ground) × (us : List Ground) × (s : Ground) × HaveTypes G env
    × PlansOf (ScanOf (stage w)) (MemoOf (stage w)) G ps us × PrimTypes c us s × IsReadyRun w
