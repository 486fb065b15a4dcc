-- What evaluations answer.
use Rattle.std.specs.Prelude.{◌≡◌, ◌≢◌, ℕ, List, [], ◌∷◌, ◌++◌, Bool, true, false, None, Result, Ok, Err, IfOk, Vec, ⊤}
use Rattle.std.specs.List.{AllByRecursion}
use Rattle.std.specs.declared.alloc.Global.{Global}
use Rattle.kl_value.specs.declared.Kind.{Kind}
use Rattle.kl_value.specs.declared.Kind.TheVariants as kind
use Rattle.kl_value.specs.declared.Value.{Value}
use Rattle.kl_value.specs.declared.Value.TheVariants as value
use Rattle.kl_type.specs.Ground.{Ground, Row, bool, coll}
use Rattle.kl_prim.specs.Table.{meaning}
use Rattle.kl_outcome.specs.Outcome.{Name, Outcome, done, over, stuck, End, Flow, fine, overflow, flow, answered}
use Rattle.kl_outcome.specs.Typed.{Inhabits, HaveTypes, PrimTypes}
use Rattle.kl_core.specs.Core.{Tables, core}
use Rattle.kl_core.specs.Trees.{Tree, Trees, Parts}
use Rattle.kl_core.specs.Typing.{SourceTypes, CoreTypes, EachType, AllTypes, PartTypes, HaveSources}
use Rattle.kl_ask.specs.World.{World, IsReady, Moved, types_of, values_of}
use Rattle.kl_eval.specs.World.{StoppedBy}
use Rattle.kl_eval.specs.Steps.{AddsItems, TellsTruth}
use Rattle.kl_eval.specs.Comes.{Comes, ItemsCome, ArgsCome, PartsCome, Draws}
use Rattle.kl_eval.specs.Sources.{NoSource, NoSourceInTrees, NoSourceInParts}
use Rattle.kl_eval.specs.declared.stop.EvalStop.{EvalStop}
use Rattle.kl_eval.specs.declared.stop.EvalStop.TheVariants as stop
use Rattle.kl_eval.specs.declared.stop.Halt.{Halt}
use Rattle.kl_eval.specs.declared.stop.Halt.TheVariants as halt

-- ---- sense

abbrev pub SenseIn : SourceTypes → Tree → List Value → Type 0
SenseIn S t env = (G : List Ground) × (s : Ground) × HaveTypes G env × CoreTypes S G t s

-- a term makes sense under the types of the attached sources and some types of the values of its positions
abbrev pub Sense : Tree → List Value → World → Type 0
Sense t env w = (G : List Ground) × (s : Ground) × HaveTypes G env × CoreTypes (types_of w) G t s × IsReady w

-- a term in which no source stands makes sense, whatever sources are attached
abbrev pub SenseAnywhere : Tree → List Value → Type 0
SenseAnywhere t env = (G : List Ground) × (s : Ground) × HaveTypes G env × ((S : SourceTypes) → CoreTypes S G t s)

abbrev pub SensePlain : Tree → List Value → World → Type 0
SensePlain t env w = NoSource t × SenseAnywhere t env × IsReady w

-- for private functions alone: the same under some types of sources, and of lists of terms, of fields, of arguments, of
-- bodies and of whole collections
abbrev pub HasSense : Tree → List Value → Type 0
HasSense t env = (S : SourceTypes) × SenseIn S t env

abbrev pub SenseEach : Trees → List Value → World → Type 0
SenseEach ts env w = (G : List Ground) × (s : Ground) × HaveTypes G env × EachType (types_of w) G ts s × IsReady w

abbrev pub SenseParts : Parts → List Value → World → Type 0
SenseParts ps env w = (G : List Ground) × (r : Row) × HaveTypes G env × PartTypes (types_of w) G ps r × IsReady w

abbrev pub SenseCall : ℕ → Trees → List Value → World → Type 0
SenseCall c ts env w = (G : List Ground) × (ss : List Ground) × (s : Ground) × HaveTypes G env × AllTypes (types_of w) G ts ss
    × PrimTypes c ss s × IsReady w

-- a body makes sense at each of some values, and gives a collection there
abbrev pub SenseBody : Tree → List Value → List Value → World → Type 0
SenseBody b vs env w =
    (G : List Ground) × (u : Ground) × (k : Kind) × (s : Ground) × HaveTypes G env × AllByRecursion (Inhabits u) vs
    × CoreTypes (types_of w) (u ∷ G) b (coll k s) × IsReady w

-- a term makes sense as a collection
abbrev pub SenseWhole : Tree → List Value → World → Type 0
SenseWhole t env w = (G : List Ground) × (k : Kind) × (s : Ground) × HaveTypes G env × CoreTypes (types_of w) G t (coll k s) × IsReady w

-- a term makes sense as a truth value
abbrev pub SenseTest : Tree → List Value → World → Type 0
SenseTest t env w = (G : List Ground) × HaveTypes G env × CoreTypes (types_of w) G t bool × IsReady w

-- a term makes sense as a list
abbrev pub SenseList : Tree → List Value → World → Type 0
SenseList t env w = (G : List Ground) × (s : Ground) × HaveTypes G env × CoreTypes (types_of w) G t (coll kind.List s) × IsReady w

-- ---- results, for private functions alone

-- P holds of the outcome that a result tells; a stop by a driver has its cause
abbrev pub ResultGives : (Outcome → Type 0) → World → World → Result Value Halt → Type 0
ResultGives P a b (Ok v) = P (done v)
ResultGives P a b (Err (halt.Over vs)) = P (over vs.items)
ResultGives P a b (Err (halt.Driver l e)) = StoppedBy l e a b
ResultGives P a b (Err halt.NoMemory) = ⊤

abbrev pub PartGives : (Outcome → Type 0) → World → World → Result Value EvalStop → Type 0
PartGives P a b (Ok v) = P (done v)
PartGives P a b (Err stop.Overflow) = (vs : List Value) × P (over vs)
PartGives P a b (Err (stop.Driver l e)) = StoppedBy l e a b
PartGives P a b (Err stop.NoMemory) = ⊤

abbrev pub CallGives : (Outcome → Type 0) → World → World → Result Value EvalStop → Type 0
CallGives P a b (Ok v) = P (done v)
CallGives P a b (Err stop.Overflow) = P (over [])
CallGives P a b (Err (stop.Driver l e)) = StoppedBy l e a b
CallGives P a b (Err stop.NoMemory) = ⊤

-- P holds of the flow that a result tells
abbrev pub FlowGives : (Flow → Type 0) → World → World → Result (Vec Value Global) Halt → Type 0
FlowGives P a b (Ok vs) = P (flow vs.items fine)
FlowGives P a b (Err (halt.Over vs)) = P (flow vs.items overflow)
FlowGives P a b (Err (halt.Driver l e)) = StoppedBy l e a b
FlowGives P a b (Err halt.NoMemory) = ⊤

abbrev pub FieldsGive : Parts → List Value → World → World → Result (Vec (Name × Value) Global) EvalStop → Type 0
FieldsGive ps env a b (Ok fs) = (go : List (Name × Value) → Outcome) → PartsCome (types_of a) (values_of a) env ps go (go fs.items)
FieldsGive ps env a b (Err stop.Overflow) = (go : List (Name × Value) → Outcome) → PartsCome (types_of a) (values_of a) env ps go (over [])
FieldsGive ps env a b (Err (stop.Driver l e)) = StoppedBy l e a b
FieldsGive ps env a b (Err stop.NoMemory) = ⊤

-- ---- evaluations, for private functions alone, which leave a session as it is where no source stands in what is evaluated

pub record Evals (t : Tree) (env : List Value) (r : Result Value Halt) (a b : World) : Type 0 where
  pub moved : Moved a b
  pub still : NoSource t → b ≡ a
  pub gives : ResultGives (Comes (types_of a) (values_of a) env t) a b r

pub record EvalsPart (t : Tree) (env : List Value) (r : Result Value EvalStop) (a b : World) : Type 0 where
  pub moved : Moved a b
  pub still : NoSource t → b ≡ a
  pub gives : PartGives (Comes (types_of a) (values_of a) env t) a b r

-- the truth value of a test
abbrev pub Tests : Tree → List Value → Result Bool EvalStop → World → World → Type 0
Tests t env r a b = (p : Result Value EvalStop) × EvalsPart t env p a b × TellsTruth p r

pub record EvalsEach (ts : Trees) (env : List Value) (r : Result (Vec Value Global) Halt) (a b : World) : Type 0 where
  pub moved : Moved a b
  pub still : NoSourceInTrees ts → b ≡ a
  pub gives : FlowGives (ItemsCome (types_of a) (values_of a) env ts) a b r

pub record EvalsBody (t : Tree) (drawn : Flow) (env : List Value) (r : Result (Vec Value Global) Halt) (a b : World) : Type 0 where
  pub moved : Moved a b
  pub still : NoSource t → b ≡ a
  pub gives : FlowGives (Draws (λ v. Comes (types_of a) (values_of a) (v ∷ env) t) drawn) a b r

-- the items of a collection at the end of a list; a stop leaves that as it was
abbrev pub AddsAll : Result Value Halt → Result (Unit {0}) Halt → List Value → List Value → Type 0
AddsAll (Ok v) r old new = AddsItems v r old new
AddsAll (Err h) (Err q) old new = (q ≡ h) × (new ≡ old)
AddsAll (Err h) (Ok _) old new = ⊥

pub record EvalsInto (t : Tree) (env : List Value) (r : Result (Unit {0}) Halt) (old new : List Value) (a b : World) : Type 0 where
  pub whole : Result Value Halt
  pub evals : Evals t env whole a b
  pub adds : AddsAll whole r old new

pub record EvalsFields (ps : Parts) (env : List Value) (r : Result (Vec (Name × Value) Global) EvalStop) (a b : World) : Type 0 where
  pub moved : Moved a b
  pub still : NoSourceInParts ps → b ≡ a
  pub gives : FieldsGive ps env a b r

pub record EvalsCall (c : ℕ) (ts : Trees) (env : List Value) (r : Result Value EvalStop) (a b : World) : Type 0 where
  pub moved : Moved a b
  pub still : NoSourceInTrees ts → b ≡ a
  pub gives : CallGives (ArgsCome (types_of a) (values_of a) env ts (λ vs. answered (meaning c vs))) a b r

-- the end of a source
abbrev pub end_of : Bool → End
end_of true = overflow
end_of false = fine

-- ---- the public calls

-- A result says what an outcome is, unless a driver refused to go on or memory ran out. Of an outcome without sense it says
-- nothing: of a term that makes sense that is one where a source that is not told was read.
abbrev pub Tells : Outcome → Result Value EvalStop → Type 0
Tells (done v) (Ok w) = w ≡ v
Tells (done v) (Err stop.Overflow) = ⊥
Tells (over vs) (Ok w) = ⊥
Tells (over vs) (Err stop.Overflow) = ⊤
Tells stuck r = ⊤
Tells o (Err (stop.Driver l e)) = ⊤
Tells o (Err stop.NoMemory) = ⊤

-- a stop by a driver has its cause
abbrev pub Caused : {A : Type 0} → Result A EvalStop → World → World → Type 0
Caused (Err (stop.Driver l e)) a b = StoppedBy l e a b
Caused _ a b = ⊤

-- the value of a term
pub record Evaluates (t : Tree) (env : List Value) (r : Result Value EvalStop) (a b : World) : Type 0 where
  pub moved : Moved a b
  pub still : NoSource t → b ≡ a
  pub cause : Caused r a b
  pub tells : Tells (core (values_of a) t env) r
  pub typed : (G : List Ground) (s : Ground) → HaveTypes G env → CoreTypes (types_of a) G t s → IfOk r (Inhabits s)
  pub sense : HaveSources (types_of a) (values_of a) → core (values_of a) t env ≢ stuck

-- the same of a list at the end of another: of an overflow the items before it
abbrev pub Lists : Outcome → Result (Unit {0}) EvalStop → List Value → List Value → Type 0
Lists (done v) (Ok _) old new = (vs : List Value) × (v ≡ value.List vs) × (new ≡ old ++ vs)
Lists (done v) (Err stop.Overflow) old new = ⊥
Lists (over vs) (Ok _) old new = ⊥
Lists (over vs) (Err stop.Overflow) old new = new ≡ old ++ vs
Lists stuck r old new = ⊤
Lists o (Err (stop.Driver l e)) old new = ⊤
Lists o (Err stop.NoMemory) old new = ⊤

-- a stop that is no overflow leaves a list as it was, and otherwise items of a type were added
abbrev pub Added : Ground → Result (Unit {0}) EvalStop → List Value → List Value → Type 0
Added s (Err (stop.Driver l e)) old new = new ≡ old
Added s (Err stop.NoMemory) old new = new ≡ old
Added s _ old new = (vs : List Value) × (new ≡ old ++ vs) × AllByRecursion (Inhabits s) vs

pub record EvaluatesList (t : Tree) (env : List Value) (r : Result (Unit {0}) EvalStop) (old new : List Value) (a b : World) : Type 0 where
  pub moved : Moved a b
  pub still : NoSource t → b ≡ a
  pub cause : Caused r a b
  pub tells : Lists (core (values_of a) t env) r old new
  pub typed : (G : List Ground) (s : Ground) → HaveTypes G env → CoreTypes (types_of a) G t (coll kind.List s) → Added s r old new
  pub sense : HaveSources (types_of a) (values_of a) → core (values_of a) t env ≢ stuck

-- no source has a value
abbrev pub no_tables : Tables
no_tables i = None

-- The result of a term in which no source stands says what its outcome is, with the items before an overflow, unless memory ran out.
-- Of a driver's stop no more is said than that its cause is there already.
abbrev pub TellsPlain : World → Tree → List Value → Result Value Halt → Type 0
TellsPlain w t env (Ok v) = core no_tables t env ≡ done v
TellsPlain w t env (Err (halt.Over vs)) = core no_tables t env ≡ over vs.items
TellsPlain w t env (Err (halt.Driver l e)) = StoppedBy l e w w
TellsPlain w t env (Err halt.NoMemory) = ⊤

-- the same of a part, of which an overflow leaves no items
abbrev pub TellsPart : World → Tree → List Value → Result Value EvalStop → Type 0
TellsPart w t env (Ok v) = core no_tables t env ≡ done v
TellsPart w t env (Err stop.Overflow) = (vs : List Value) × (core no_tables t env ≡ over vs)
TellsPart w t env (Err (stop.Driver l e)) = StoppedBy l e w w
TellsPart w t env (Err stop.NoMemory) = ⊤
