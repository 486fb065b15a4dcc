-- What the steps of a cursor do.
use Rattle.std.specs.Prelude.{◌≡◌, ◌⊎◌, ◌≤◌, ◌<◌, ◌^◌, ◌+◌, ℕ, Bool, length, List, [], ◌∷◌, Option, Some, None, Result, Ok, Err, IfOk, Vec, ⊤}
use Rattle.std.specs.List.{AllByRecursion, Contains}
use Rattle.std.specs.declared.alloc.Global.{Global}
use Rattle.kl_value.specs.Views.{collection, IsBool}
use Rattle.kl_value.specs.declared.Kind.{Kind}
use Rattle.kl_value.specs.declared.Value.{Value}
use Rattle.kl_type.specs.Ground.{Ground, Row, no_row, row}
use Rattle.kl_prim.specs.Meaning.{gives, overflows}
use Rattle.kl_outcome.specs.Outcome.{Name, Outcome, done, over, stuck, End, more, stop, fine, overflow, flow, items_of, applied, parts_then}
use Rattle.kl_outcome.specs.Typed.{Inhabits, HaveTypes, OfType, PrimTypes}
use Rattle.kl_scans.specs.Running.{Running}
use Rattle.kl_ask.specs.declared.DriverError.{DriverError}
use Rattle.kl_eval.specs.Steps.{TellsTruth}
use Rattle.kl_eval.specs.declared.stop.EvalStop.{EvalStop}
use Rattle.kl_eval.specs.declared.stop.EvalStop.TheVariants as why
use Rattle.kl_eval.specs.declared.stop.Halt.{Halt}
use Rattle.kl_eval.specs.declared.stop.Halt.TheVariants as halt
use Rattle.kl_plan.specs.Alike.{harm}
use Rattle.kl_plan.specs.declared.plan.Scan.{Scan}
use Rattle.kl_plan.specs.Nodes.{Node, Nodes, Fields}
use Rattle.kl_plan.specs.Meaning.{worth, plan, plan_all, plan_fields}
use Rattle.kl_plan.specs.Prices.{Prices}
use Rattle.kl_plan.specs.Typing.{PlansOf, FieldTypes}
use Rattle.kl_cursor.specs.declared.state.State.{State}
use Rattle.kl_scans.specs.Held.{Uses, nothing}
use Rattle.kl_scans.specs.Log.{Event, IsOf, paid}
use Rattle.kl_scans.specs.Moves.{Moves}
use Rattle.kl_scans.specs.Scans.{StoppedBy}
use Rattle.kl_scans.specs.Stage.{stage, ScanOf, MemoOf}
use Rattle.kl_cursor.specs.Left.{Snap, have, outside, ended, snap, uses, left, reading, cost, cost_nodes, cost_fields, to_start, PartsLeft}
use Rattle.kl_plan.specs.Holding.{Listing, PartsIn, PartsInNodes, PartsInFields}
use Rattle.kl_cursor.specs.Gathering.{Gathered, with_all, answer_in}
use Rattle.kl_cursor.specs.Likeness.{Same}
use Rattle.kl_cursor.specs.Measure.{height, falling, most}
use Rattle.kl_cursor.specs.Sense.{TypesAt, IsToldAt, Fits, HasWorth, Stands}

-- the scans, joins and memos of some events are all listed
abbrev pub AreOf : Listing → List Event → Type 0
AreOf all es = AllByRecursion (IsOf all) es

-- of all types that a cursor has where it stands, and where contents are told
abbrev pub WhereTold : List Value → Snap → Running → (Kind → Type 0) → Type 0
WhereTold env s a P = (G : List Ground) (k : Kind) (u : Ground) → HaveTypes G env → Fits a G k u s → IsToldAt a → P k

-- where all that is left ends well, what was done and what is still to be done comes to what was to be done before
abbrev pub Counts : List Value → Snap → Running → List Event → (Prices → ℕ) → Type 0
Counts env s a es later = harm (left a s env) ≡ 0 → (P : Prices) → paid (stage a) P es + later P ≡ to_start a P s env

-- from one cursor to another, where nothing was given
pub record Onward (env : List Value) (s : Snap) (a : Running) (t : Snap) (b : Running) : Type 0 where
  pub moves : Moves (uses s) (uses t) a b
  pub known : (all : Listing) → PartsLeft all s → AreOf all moves.events × PartsLeft all t
  pub same : WhereTold env s a (λ k. Same k (left a s env) (left b t env))
  pub counts : WhereTold env s a (λ k. Counts env s a moves.events (λ P. to_start b P t env))
  pub typed : (G : List Ground) (k : Kind) (u : Ground) → HaveTypes G env → Fits a G k u s → Fits b G k u t
  pub lower : height t ≤ height s
  pub fewer : most b t ≤ most a s

-- The same, where an item was given: of a list the next one, of a set or a bag one of those left.
pub record Gives (env : List Value) (s : Snap) (a : Running) (v : Value) (t : Snap) (b : Running) : Type 0 where
  pub moves : Moves (uses s) (uses t) a b
  pub known : (all : Listing) → PartsLeft all s → AreOf all moves.events × PartsLeft all t
  pub gave : WhereTold env s a (λ k. Same k (left a s env) (more v (left b t env)))
  pub counts : WhereTold env s a (λ k. Counts env s a moves.events (λ P. to_start b P t env))
  pub typed : (G : List Ground) (k : Kind) (u : Ground) → HaveTypes G env → Fits a G k u s → Inhabits u v × Fits b G k u t
  pub lower : height t ≤ height s
  pub fell : most b t < most a s

-- nothing was left: neither an item, nor an open cursor
pub record Ends (env : List Value) (s : Snap) (a b : Running) : Type 0 where
  pub moves : Moves (uses s) nothing a b
  pub known : (all : Listing) → PartsLeft all s → AreOf all moves.events
  pub over : WhereTold env s a (λ k. Same k (left a s env) (stop fine))
  pub counts : WhereTold env s a (λ k. Counts env s a moves.events (λ P. 0))

-- What leaves no cursor open and gives nothing, and why. The scans that were started are those that stood in it.
pub record Halts (before : Uses) (Holds : Listing → Type 0) (cause : Type 0) (a b : Running) : Type 0 where
  pub moves : Moves before nothing a b
  pub known : (all : Listing) → Holds all → AreOf all moves.events
  pub reason : cause

-- A driver refused to go on with a scan that stood in it. The source that is named is that scan's, and what is told of it has its
-- cause there.
pub record StoppedAt (Holds : Listing → Type 0) (l : Name) (e : DriverError) (a b : Running) : Type 0 where
  pub scan : Scan
  pub stood : (all : Listing) → Holds all → Contains all.scans scan
  pub named : l ≡ scan.source
  pub by : StoppedBy scan l e a b

-- the end is an overflow, or a driver refused to go on with one of its scans, or memory ran out
abbrev pub Reason : List Value → Snap → EvalStop → Running → Running → Type 0
Reason env s why.Overflow a b = WhereTold env s a (λ k. Same k (left a s env) (stop overflow))
Reason env s (why.Driver l e) a b = StoppedAt (λ all. PartsLeft all s) l e a b
Reason env s why.NoMemory a b = ⊤

abbrev pub Refused : Uses → (Listing → Type 0) → Name → DriverError → Running → Running → Type 0
Refused before Holds l e a b = Halts before Holds (StoppedAt Holds l e a b) a b

abbrev pub Stops : List Value → Snap → EvalStop → Running → Running → Type 0
Stops env s e a b = Halts (uses s) (λ all. PartsLeft all s) (Reason env s e a b) a b

abbrev pub Steps : List Value → Snap → Result (Option Value × State) EvalStop → Running → Running → Type 0
Steps env s (Ok (Some v, t)) a b = Gives env s a v (snap t) b
Steps env s (Ok (None, t)) a b = Ends env s a b
Steps env s (Err e) a b = Stops env s e a b

-- what a plan becomes as it begins
abbrev pub Begins : List Value → Snap → Result State EvalStop → Running → Running → Type 0
Begins env s (Ok t) a b = Onward env s a (snap t) b × (falling (snap t) < falling s)
Begins env s (Err e) a b = Stops env s e a b

-- ---- all that is left

-- all items that were left, and the end
pub record Empties (env : List Value) (s : Snap) (vs : List Value) (end : End) (a b : Running) : Type 0 where
  pub moves : Moves (uses s) nothing a b
  pub known : (all : Listing) → PartsLeft all s → AreOf all moves.events
  pub gave : WhereTold env s a (λ k. Same k (left a s env) (flow vs end))
  pub counts : WhereTold env s a (λ k. Counts env s a moves.events (λ P. 0))
  pub typed : (G : List Ground) (k : Kind) (u : Ground) → HaveTypes G env → Fits a G k u s → AllByRecursion (Inhabits u) vs

abbrev pub Drains : List Value → Snap → Result (Vec Value Global) Halt → Running → Running → Type 0
Drains env s (Ok vs) a b = Empties env s vs.items fine a b
Drains env s (Err (halt.Over vs)) a b = Empties env s vs.items overflow a b
Drains env s (Err (halt.Driver l e)) a b = Refused (uses s) (λ all. PartsLeft all s) l e a b
Drains env s (Err halt.NoMemory) a b = Halts (uses s) (λ all. PartsLeft all s) ⊤ a b

-- the same, beside what was gathered before
abbrev pub Adds : List Value → Snap → End → Gathered → Gathered → Running → Running → Type 0
Adds env s end old new a b = (vs : List Value) × (new ≡ with_all old vs) × Empties env s vs end a b

abbrev pub Emits : List Value → Snap → Result (Unit {0}) EvalStop → Gathered → Gathered → Running → Running → Type 0
Emits env s (Ok _) old new a b = Adds env s fine old new a b
Emits env s (Err why.Overflow) old new a b = Adds env s overflow old new a b
Emits env s (Err (why.Driver l e)) old new a b = Refused (uses s) (λ all. PartsLeft all s) l e a b
Emits env s (Err why.NoMemory) old new a b = Halts (uses s) (λ all. PartsLeft all s) ⊤ a b

-- what is answered of all items, which were tallied from this on
abbrev pub Tallies : List Value → Snap → Gathered → Result Value EvalStop → Running → Running → Type 0
Tallies env s g (Ok v) a b = (vs : List Value) × (answer_in (with_all g vs) ≡ gives v) × Empties env s vs fine a b
Tallies env s g (Err why.Overflow) a b = (vs : List Value)
    × (Empties env s vs overflow a b ⊎ ((answer_in (with_all g vs) ≡ overflows) × Empties env s vs fine a b))
Tallies env s g (Err (why.Driver l e)) a b = Refused (uses s) (λ all. PartsLeft all s) l e a b
Tallies env s g (Err why.NoMemory) a b = Halts (uses s) (λ all. PartsLeft all s) ⊤ a b

-- a body stands at what was drawn, and its items there; what stopped the drawing stops them
abbrev pub DrawnStand : List Value → Node → Result (Vec Value Global) Halt → Running → Type 0
DrawnStand env p (Ok vs) a = Stands a (outside p (have vs.items fine)) env
DrawnStand env p (Err (halt.Over vs)) a = Stands a (outside p (have vs.items overflow)) env
DrawnStand env p (Err (halt.Driver l e)) a = ⊤
DrawnStand env p (Err halt.NoMemory) a = ⊤

abbrev pub EmitsDrawn : List Value → Node → Result (Vec Value Global) Halt → Result (Unit {0}) EvalStop → Gathered → Gathered
    → Running → Running → Type 0
EmitsDrawn env p (Ok vs) r old new a b = Emits env (outside p (have vs.items fine)) r old new a b
EmitsDrawn env p (Err (halt.Over vs)) r old new a b = Emits env (outside p (have vs.items overflow)) r old new a b
EmitsDrawn env p (Err (halt.Driver l e)) r old new a b = (r ≡ Err (why.Driver l e)) × (b ≡ a)
EmitsDrawn env p (Err halt.NoMemory) r old new a b = (r ≡ Err why.NoMemory) × (b ≡ a)

-- ---- values

-- What parts come to under any types that they have: where contents are told, what is said of it is so, and where that is well,
-- the starts are paid for; and it has its type in any case.
pub record PartComes {X : Type 0} (Typing : List Ground → X → Type 0) (env : List Value) (Holds : Listing → Type 0)
    (price : Prices → ℕ) (is well : Type 0) (Typed : X → Type 0) (a b : Running) : Type 0 where
  pub moves : Moves nothing nothing a b
  pub known : (all : Listing) → Holds all → AreOf all moves.events
  pub comes : (G : List Ground) (x : X) → HaveTypes G env → Typing G x → IsToldAt a → is
  pub counts : (G : List Ground) (x : X) → HaveTypes G env → Typing G x → IsToldAt a → well → (P : Prices)
      → paid (stage a) P moves.events ≡ price P
  pub typed : (G : List Ground) (x : X) → HaveTypes G env → Typing G x → Typed x

abbrev pub IsValue : Outcome → Type 0
IsValue (done v) = ⊤
IsValue (over vs) = ⊥
IsValue stuck = ⊥

-- a plan comes to an outcome
abbrev pub ComesTo : List Value → Node → Outcome → Running → Running → Type 0
ComesTo env p o a b = PartComes (λ G s. TypesAt a G p s) env (λ all. PartsIn all p) (λ P. cost (stage a) P p env)
    (worth (plan (reading a) p env) ≡ o) (IsValue o) (λ s. OfType s o) a b

abbrev pub Fails : (Listing → Type 0) → Type 0 → Running → Running → Type 0
Fails Holds reason a b = Halts nothing Holds reason a b

-- the value of a plan, or an overflow with the items that come before it
abbrev pub Wholly : List Value → Node → Result Value Halt → Running → Running → Type 0
Wholly env p (Ok v) a b = ComesTo env p (done v) a b
Wholly env p (Err (halt.Over vs)) a b = ComesTo env p (over vs.items) a b
Wholly env p (Err (halt.Driver l e)) a b = Refused nothing (λ all. PartsIn all p) l e a b
Wholly env p (Err halt.NoMemory) a b = Fails (λ all. PartsIn all p) ⊤ a b

-- the same of a part, of which an overflow leaves no items
abbrev pub Partly : List Value → Node → Result Value EvalStop → Running → Running → Type 0
Partly env p (Ok v) a b = ComesTo env p (done v) a b
Partly env p (Err why.Overflow) a b = (vs : List Value) × ComesTo env p (over vs) a b
Partly env p (Err (why.Driver l e)) a b = Refused nothing (λ all. PartsIn all p) l e a b
Partly env p (Err why.NoMemory) a b = Fails (λ all. PartsIn all p) ⊤ a b

-- a part makes sense, and what it comes to is a truth value
abbrev pub HasTruth : Running → Node → List Value → Type 0
HasTruth w p env = HasWorth w p env × ((q : Result Value EvalStop) (x : Running) → Partly env p q w x → IfOk q IsBool)

-- the truth value of a part
abbrev pub Tests : List Value → Node → Result Bool EvalStop → Running → Running → Type 0
Tests env p r a b = (q : Result Value EvalStop) × Partly env p q a b × TellsTruth q r

-- the fields of a record
abbrev pub FieldsHave : List (Name × Value) → Row → Type 0
FieldsHave [] r = r ≡ no_row
FieldsHave (f ∷ fs) r = (s : Ground) × (rest : Row) × (r ≡ row f.0 s rest) × Inhabits s f.1 × FieldsHave fs rest

abbrev pub FieldsCome : List Value → Fields → List (Name × Value) → Running → Running → Type 0
FieldsCome env ps fs a b = PartComes (λ G r. FieldTypes (ScanOf (stage a)) (MemoOf (stage a)) G ps r) env (λ all. PartsInFields all ps)
    (λ P. cost_fields (stage a) P ps env)
    ((go : List (Name × Value) → Outcome) → parts_then (plan_fields (reading a) ps env) go ≡ go fs) ⊤ (λ r. FieldsHave fs r) a b

abbrev pub FieldsOver : List Value → Fields → Running → Running → Type 0
FieldsOver env ps a b = PartComes (λ G r. FieldTypes (ScanOf (stage a)) (MemoOf (stage a)) G ps r) env (λ all. PartsInFields all ps)
    (λ P. 0) ((go : List (Name × Value) → Outcome) → parts_then (plan_fields (reading a) ps env) go ≡ over []) ⊥ (λ r. ⊤) a b

abbrev pub FieldsGive : List Value → Fields → Result (Vec (Name × Value) Global) EvalStop → Running → Running → Type 0
FieldsGive env ps (Ok fs) a b = FieldsCome env ps fs.items a b
FieldsGive env ps (Err why.Overflow) a b = FieldsOver env ps a b
FieldsGive env ps (Err (why.Driver l e)) a b = Refused nothing (λ all. PartsInFields all ps) l e a b
FieldsGive env ps (Err why.NoMemory) a b = Fails (λ all. PartsInFields all ps) ⊤ a b

-- what a primitive makes of its arguments
abbrev pub CallTypes : Running → List Ground → ℕ → Nodes → Ground → Type 0
CallTypes w G c ps s = (us : List Ground) × PlansOf (ScanOf (stage w)) (MemoOf (stage w)) G ps us × PrimTypes c us s

abbrev pub CallComes : List Value → ℕ → Nodes → Outcome → Running → Running → Type 0
CallComes env c ps o a b = PartComes (λ G s. CallTypes a G c ps s) env (λ all. PartsInNodes all ps)
    (λ P. cost_nodes (stage a) P ps env)
    (applied c (plan_all (reading a) ps env) ≡ o) (IsValue o) (λ s. OfType s o) a b

abbrev pub CallGives : List Value → ℕ → Nodes → Result Value EvalStop → Running → Running → Type 0
CallGives env c ps (Ok v) a b = CallComes env c ps (done v) a b
CallGives env c ps (Err why.Overflow) a b = CallComes env c ps (over []) a b
CallGives env c ps (Err (why.Driver l e)) a b = Refused nothing (λ all. PartsInNodes all ps) l e a b
CallGives env c ps (Err why.NoMemory) a b = Fails (λ all. PartsInNodes all ps) ⊤ a b

-- ---- what the helpers make

-- the items of a collection that was made whole
abbrev pub ItemsIn : Result Value Halt → Result (Vec Value Global) Halt → Type 0
ItemsIn (Ok v) (Ok vs) = (k : Kind) × (v ≡ collection k vs.items)
ItemsIn (Ok v) (Err h) = ⊥
ItemsIn (Err h) r = r ≡ Err h

abbrev pub AddsWhole : Result Value Halt → Result (Unit {0}) EvalStop → Gathered → Gathered → Type 0
AddsWhole (Ok v) (Ok _) old new = (k : Kind) × (vs : List Value) × (v ≡ collection k vs) × (new ≡ with_all old vs)
AddsWhole (Err (halt.Over vs)) (Err why.Overflow) old new = new ≡ with_all old vs.items
AddsWhole (Err (halt.Driver l e)) r old new = r ≡ Err (why.Driver l e)
AddsWhole r (Err why.NoMemory) old new = ⊤
AddsWhole _ _ old new = ⊥

-- the items of a collection, as a cursor
abbrev pub Opened : Value → Snap → Type 0
Opened v s = (vs : List Value) × (s ≡ have vs fine) × (items_of (done v) ≡ flow vs fine) × (length vs < 2 ^ 64)

-- what a part that is evaluated whole gives as a cursor
abbrev pub Halted : Result Value Halt → Result State EvalStop → Type 0
Halted (Ok v) (Ok s) = Opened v (snap s)
Halted (Ok v) (Err e) = ⊥
Halted (Err (halt.Over vs)) (Ok s) = (snap s ≡ have vs.items overflow) × (length vs.items < 2 ^ 64)
Halted (Err (halt.Over vs)) (Err e) = ⊥
Halted (Err (halt.Driver l e)) r = r ≡ Err (why.Driver l e)
Halted (Err halt.NoMemory) r = r ≡ Err why.NoMemory

-- what a plan that is drained gives as a cursor
abbrev pub Drained : Result (Vec Value Global) Halt → Result State EvalStop → Type 0
Drained (Ok vs) (Ok s) = (snap s ≡ have vs.items fine) × (length vs.items < 2 ^ 64)
Drained (Ok vs) (Err e) = ⊥
Drained (Err (halt.Over vs)) (Ok s) = (snap s ≡ have vs.items overflow) × (length vs.items < 2 ^ 64)
Drained (Err (halt.Over vs)) (Err e) = ⊥
Drained (Err (halt.Driver l e)) r = r ≡ Err (why.Driver l e)
Drained (Err halt.NoMemory) r = r ≡ Err why.NoMemory

-- what `next` answers; behind the end a cursor has nothing left
abbrev pub Nexts : List Value → Snap → Result (Option Value) EvalStop → Snap → Running → Running → Type 0
Nexts env s (Ok (Some v)) t a b = Gives env s a v t b
Nexts env s (Ok None) t a b = Ends env s a b × (t ≡ ended)
Nexts env s (Err e) t a b = Stops env s e a b × (t ≡ ended)
