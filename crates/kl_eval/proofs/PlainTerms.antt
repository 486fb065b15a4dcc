-- Terms without sources: one means the same over all tables, and what it may come to is that.
use Rattle.std.proofs.Common.{◌≡◌, List, ◌∷◌, cond, nat_eq, Option, Some, None, Result, Ok, Err, refl, sym, ap, subst, Bor}
use Rattle.std.specs.Prelude.{IfSome}
use Rattle.std.specs.Cmp.Lexicographic.{pointwise}
use mathlib.Core.Path.{fun_ext, ap₂}
use Rattle.kl_value.specs.declared.Value.{Value}
use Rattle.kl_outcome.proofs.Refining.{Refines, refines_is}
use Rattle.kl_outcome.specs.Outcome.{Name, Outcome, done, over, after, applied, recorded, tagged, part, cases, items_of, item_then, drawn, collected, union_of}
use Rattle.kl_core.specs.Trees.{Tree, Var, Const, Source, Rec, Proj, Inj, Case, Make, Union, Ext, If, Let, Prim, Trees, no_trees, trees, Parts, no_parts, parts, Arms, no_arms, rest, arm}
use Rattle.kl_core.proofs.Meanings.{choice_same}
use Rattle.kl_core.specs.Leaves.{LeavesOfTrees, LeavesOfParts, LeavesOfArms}
use Rattle.kl_core.specs.Core.{Tables, core, core_all, core_items, core_parts, core_arms}
use Rattle.kl_core.specs.Typing.{SourceTypes, HaveSources}
use Rattle.kl_type.specs.Ground.{Ground}
use Rattle.kl_core.proofs.Safety.{never_stuck}
use Rattle.kl_ask.specs.World.{World, types_of, values_of}
use Rattle.kl_eval.specs.declared.stop.EvalStop.{EvalStop}
use Rattle.kl_eval.specs.declared.stop.EvalStop.TheVariants as eval_stop
use Rattle.kl_eval.specs.declared.stop.Halt.{Halt}
use Rattle.kl_eval.specs.declared.stop.Halt.TheVariants as halt
use Rattle.kl_eval.specs.Comes.{Comes}
use Rattle.kl_eval.specs.Evals.{HasSense, Sense, SenseAnywhere, SensePlain, Evals, EvalsPart, TellsPart, TellsPlain, no_tables}
use Rattle.kl_eval.specs.Sources.{Anywhere, Nowhere, NoSource}
use Rattle.kl_eval.specs.World.{StoppedBy}
use Rattle.kl_eval.proofs.Laws.{comes_refine}

module _ (T U : Tables) where
  mutual
    pub plain_core : (t : Tree) (env : List Value) → NoSource t → core T t env ≡ core U t env
    plain_core (Var x) env h = refl
    plain_core (Const v) env h = refl
    plain_core (Source i) env h = absurd h
    plain_core (Rec ps) env h = ap recorded (plain_parts ps env h)
    plain_core (Proj l a) env h = ap (part l) (plain_core a env h)
    plain_core (Inj l a) env h = ap (tagged l) (plain_core a env h)
    plain_core (Case a bs) env h = ap₂ cases (plain_core a env h.0) (fun_ext λ l. fun_ext λ v. plain_arms bs l v env h.1)
    plain_core (Make k ts) env h = ap (collected k) (plain_items ts env h)
    plain_core (Union a b) env h = ap₂ union_of (plain_core a env h.0) (plain_core b env h.1)
    plain_core (Ext k b s) env h = ap₂ (λ o go. collected k (drawn (items_of o) go)) (plain_core s env h.1) (fun_ext λ v. ap items_of (plain_core b (v ∷ env) h.0))
    plain_core (If a b c) env h = choice_same _ _ _ _ _ _ (plain_core a env h.0) (plain_core b env h.1) (plain_core c env h.2)
    plain_core (Let a b) env h = ap₂ after (plain_core a env h.0) (fun_ext λ v. plain_core b (v ∷ env) h.1)
    plain_core (Prim c ts) env h = ap (applied c) (plain_all ts env h)

    plain_all : (ts : Trees) (env : List Value) → LeavesOfTrees Anywhere Nowhere ts → core_all T ts env ≡ core_all U ts env
    plain_all no_trees env h = refl
    plain_all (trees t ts) env h = ap₂ (λ o os. o ∷ os) (plain_core t env h.0) (plain_all ts env h.1)

    plain_items : (ts : Trees) (env : List Value) → LeavesOfTrees Anywhere Nowhere ts → core_items T ts env ≡ core_items U ts env
    plain_items no_trees env h = refl
    plain_items (trees t ts) env h = ap₂ item_then (plain_core t env h.0) (plain_items ts env h.1)

    plain_parts : (ps : Parts) (env : List Value) → LeavesOfParts Anywhere Nowhere ps → core_parts T ps env ≡ core_parts U ps env
    plain_parts no_parts env h = refl
    plain_parts (parts l t ps) env h = ap₂ (λ o os. (l, o) ∷ os) (plain_core t env h.0) (plain_parts ps env h.1)

    plain_arms : (bs : Arms) (l : Name) (v : Value) (env : List Value) → LeavesOfArms Anywhere Nowhere bs → core_arms T bs l v env ≡ core_arms U bs l v env
    plain_arms no_arms l v env h = refl
    plain_arms (rest c) l v env h = plain_core c env h
    plain_arms (arm m b bs) l v env h = ap₂ (λ o q. cond (pointwise nat_eq l m) o q) (plain_core b (v ∷ env) h.0) (plain_arms bs l v env h.1)

abbrev no_types : SourceTypes
no_types i = None

pub plain_sense : (t : Tree) (env : List Value) (w : World) → SensePlain t env w → Sense t env w
plain_sense t env w s = (s.1.0, s.1.1, s.1.2, s.1.3 (types_of w), s.2)

no_sources : HaveSources no_types no_tables
no_sources i u e = absurd (not_some u e)
  where
    not_some : (x : Ground) → None ≡ Some x → ⊥
    not_some x h = cc

come_plain : (t : Tree) (env : List Value) (S : SourceTypes) (T : Tables) (o : Outcome) → NoSource t → SenseAnywhere t env → Comes S T env t o → core no_tables t env ≡ o
come_plain t env S T o n s c =
    let up : Refines (core no_tables t env) o = subst (λ q. Refines q o) (plain_core T no_tables t env n) (comes_refine S T t env o c) in
    sym (refines_is (core no_tables t env) o up (never_stuck no_types no_tables no_sources t s.0 env s.1 s.2 (s.3 no_types)))

plain_comes : (t : Tree) (env : List Value) (w : World) (o : Outcome) → SensePlain t env w → Comes (types_of w) (values_of w) env t o → core no_tables t env ≡ o
plain_comes t env w o s c = come_plain t env (types_of w) (values_of w) o s.0 s.1 c

pub anywhere_sense : (t : Tree) (env : List Value) → SenseAnywhere t env → HasSense t env
anywhere_sense t env s = (no_types, (s.0, s.1, s.2, s.3 no_types))

-- what a term comes to, where something tells of it
pub told_is : {X : Type 0} (value : X → Value) (t : Tree) (env : List Value) (o : Option X) → NoSource t → SenseAnywhere t env → IfSome o (λ x. (S : SourceTypes) (T : Tables) → Comes S T env t (done (value x))) → IfSome o (λ x. core no_tables t env ≡ done (value x))
told_is value t env (Some x) n s h = come_plain t env no_types no_tables (done (value x)) n s (h no_types no_tables)
told_is value t env None n s h = tt

pub plain_same : (t : Tree) (env : List Value) (r : Result Value Halt) (a b : World) → SensePlain t env a → Evals t env r a b → b ≡ a
plain_same t env r a b s h = h.still s.0

pub plain_tells : (t : Tree) (env : List Value) (r : Result Value Halt) (a b : World) → SensePlain t env a → Evals t env r a b → TellsPlain a t env r
plain_tells t env (Ok v) a b s h = plain_comes t env a (done v) s h.gives
plain_tells t env (Err (halt.Over vs)) a b s h = plain_comes t env a (over vs.items) s h.gives
plain_tells t env (Err (halt.Driver l e)) a b s h = subst (StoppedBy l e a) (h.still s.0) h.gives
plain_tells t env (Err halt.NoMemory) a b s h = tt

pub part_same : (t : Tree) (env : List Value) (r : Result Value EvalStop) (a b : World) → SensePlain t env a → EvalsPart t env r a b → b ≡ a
part_same t env r a b s h = h.still s.0

pub part_tells : (t : Tree) (env : List Value) (r : Result Value EvalStop) (a b : World) → SensePlain t env a → EvalsPart t env r a b → TellsPart a t env r
part_tells t env (Ok v) a b s h = plain_comes t env a (done v) s h.gives
part_tells t env (Err eval_stop.Overflow) a b s h = (h.gives.0, plain_comes t env a (over h.gives.0) s h.gives.1)
part_tells t env (Err (eval_stop.Driver l e)) a b s h = subst (StoppedBy l e a) (h.still s.0) h.gives
part_tells t env (Err eval_stop.NoMemory) a b s h = tt
