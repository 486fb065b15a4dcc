-- What the steps of evaluators make.
use Rattle.std.specs.Prelude.{◌≡◌, ℕ, Bool, suc, List, [], ◌∷◌, ◌++◌, Option, Some, None, Result, Ok, Err, Vec, cond, nat_eq, ⊤}
use Rattle.std.specs.Option.{option_map}
use Rattle.std.specs.declared.alloc.Global.{Global}
use Rattle.std.specs.Cmp.Lexicographic.{pointwise}
use Rattle.kl_value.specs.Canon.{canonical}
use Rattle.kl_value.specs.Views.{as_bool, collection}
use Rattle.kl_value.specs.declared.Kind.{Kind}
use Rattle.kl_value.specs.declared.Value.{Value}
use Rattle.kl_value.specs.declared.Value.TheVariants as value
use Rattle.kl_prim.specs.Meaning.{Answer, gives, overflows}
use Rattle.kl_outcome.specs.Outcome.{Name, Outcome, done, over, stuck, kept}
use Rattle.kl_eval.specs.declared.stop.EvalStop.{EvalStop}
use Rattle.kl_eval.specs.declared.stop.EvalStop.TheVariants as stop
use Rattle.kl_eval.specs.declared.stop.Halt.{Halt}
use Rattle.kl_eval.specs.declared.stop.Halt.TheVariants as halt

-- a result says what an outcome is, unless memory ran out
abbrev pub AnswersOutcome : Outcome → Result Value Halt → Type 0
AnswersOutcome (done v) (Ok w) = w ≡ v
AnswersOutcome (done v) (Err (halt.Over ws)) = ⊥
AnswersOutcome (over vs) (Ok w) = ⊥
AnswersOutcome (over vs) (Err (halt.Over ws)) = ws.items ≡ vs
AnswersOutcome stuck r = ⊥
AnswersOutcome o (Err (halt.Driver l e)) = ⊥
AnswersOutcome o (Err halt.NoMemory) = ⊤

abbrev pub inside_of : Result Value Halt → Result Value EvalStop
inside_of (Ok v) = Ok v
inside_of (Err (halt.Over vs)) = Err stop.Overflow
inside_of (Err (halt.Driver l e)) = Err (stop.Driver l e)
inside_of (Err halt.NoMemory) = Err stop.NoMemory

abbrev pub Outside : EvalStop → Halt → Type 0
Outside stop.Overflow (halt.Over vs) = vs.items ≡ []
Outside (stop.Driver l e) h = h ≡ halt.Driver l e
Outside stop.NoMemory halt.NoMemory = ⊤
Outside _ _ = ⊥

-- these at the end of a list, unless memory ran out
abbrev pub AppendsAll : List Value → Result (Unit {0}) Halt → List Value → List Value → Type 0
AppendsAll vs (Ok _) old new = new ≡ old ++ vs
AppendsAll vs (Err (halt.Over ws)) old new = ⊥
AppendsAll vs (Err (halt.Driver l e)) old new = ⊥
AppendsAll vs (Err halt.NoMemory) old new = ⊤

abbrev pub AddsItems : Value → Result (Unit {0}) Halt → List Value → List Value → Type 0
AddsItems v r old new = (k : Kind) × (vs : List Value) × (v ≡ collection k vs) × AppendsAll vs r old new

abbrev pub AddsField : Name → Value → Result (Unit {0}) EvalStop → List (Name × Value) → List (Name × Value) → Type 0
AddsField l v (Ok _) old new = new ≡ old ++ (l, v) ∷ []
AddsField l v (Err stop.Overflow) old new = ⊥
AddsField l v (Err (stop.Driver m e)) old new = ⊥
AddsField l v (Err stop.NoMemory) old new = ⊤

-- an overflow behind some items
abbrev pub Behind : List Value → Halt → Halt → Type 0
Behind vs (halt.Over ws) (halt.Over us) = us.items ≡ vs ++ ws.items
Behind vs (halt.Driver l e) h = h ≡ halt.Driver l e
Behind vs (halt.Over ws) halt.NoMemory = ⊤
Behind vs halt.NoMemory halt.NoMemory = ⊤
Behind vs _ _ = ⊥

-- a collection of what was drawn
abbrev pub Gathers : Kind → Result (Vec Value Global) Halt → Result Value Halt → Type 0
Gathers k (Ok vs) r = AnswersOutcome (done (canonical k vs.items)) r
Gathers k (Err (halt.Over vs)) r = AnswersOutcome (over (kept k vs.items)) r
Gathers k (Err (halt.Driver l e)) r = r ≡ Err (halt.Driver l e)
Gathers k (Err halt.NoMemory) r = r ≡ Err halt.NoMemory

-- what an outcome has as a list at the end of another; a stop that is no overflow leaves that as it was
abbrev pub AddsList : Result Value Halt → Result (Unit {0}) EvalStop → List Value → List Value → Type 0
AddsList (Ok v) (Ok _) old new = (vs : List Value) × (v ≡ value.List vs) × (new ≡ old ++ vs)
AddsList (Err (halt.Over vs)) (Err stop.Overflow) old new = new ≡ old ++ vs.items
AddsList (Err (halt.Driver l e)) r old new = (r ≡ Err (stop.Driver l e)) × (new ≡ old)
AddsList r (Err stop.NoMemory) old new = new ≡ old
AddsList _ _ old new = ⊥

-- what a primitive answers
abbrev pub AnswersPrim : Answer → Result Value EvalStop → Type 0
AnswersPrim a (Ok v) = a ≡ gives v
AnswersPrim a (Err stop.Overflow) = a ≡ overflows
AnswersPrim a (Err (stop.Driver l e)) = ⊥
AnswersPrim a (Err stop.NoMemory) = ⊤

-- the place of the first one with a label
abbrev pub place_of : {X : Type 0} → Name → List (Name × X) → Option ℕ
place_of l [] = None
place_of l (p ∷ ps) = cond (pointwise nat_eq l p.0) (Some 0) (option_map suc (place_of l ps))

-- the truth value of a test
abbrev pub TellsTruth : Result Value EvalStop → Result Bool EvalStop → Type 0
TellsTruth p (Ok b) = (v : Value) × (p ≡ Ok v) × (as_bool v ≡ Some b)
TellsTruth p (Err e) = p ≡ Err e

-- two collections as one, of the kind of the first
abbrev pub Finishes : Kind → Result (Unit {0}) Halt → List Value → Result Value Halt → Type 0
Finishes k (Ok _) both r = AnswersOutcome (done (canonical k both)) r
Finishes k (Err h) both r = r ≡ Err h

abbrev pub JoinsItems : Kind → List Value → Result Value Halt → Result Value Halt → Type 0
JoinsItems k vs (Ok w) r = (q : Result (Unit {0}) Halt) × (both : List Value) × AddsItems w q vs both × Finishes k q both r
JoinsItems k vs (Err h) r = (f : Halt) × Behind vs h f × Gathers k (Err f) r

abbrev pub Joins : Value → Result Value Halt → Result Value Halt → Type 0
Joins v p r = (k : Kind) × (vs : List Value) × (v ≡ collection k vs) × JoinsItems k vs p r
