-- The public calls, from what a term may come to.
use Rattle.std.proofs.Common.{◌≡◌, ◌≢◌, List, ◌++◌, reverse, Result, Ok, Err, IsSome, IfOk, refl, sym, ◌∙◌, ap, subst}
use Rattle.std.specs.List.{AllByRecursion}
use Rattle.std.proofs.lemmas.Option.{same_Some}
use Rattle.kl_value.specs.Views.{Collection, as_collection, items_at}
use Rattle.kl_value.proofs.ViewLemmas.{collection_is}
use Rattle.kl_value.specs.declared.Kind.TheVariants as kind
use Rattle.kl_value.specs.declared.Value.{Value}
use Rattle.kl_value.specs.declared.Value.TheVariants as value
use Rattle.kl_type.specs.Ground.{Ground, coll}
use Rattle.kl_outcome.specs.Outcome.{Outcome, done, over, stuck}
use Rattle.kl_outcome.specs.Typed.{Inhabits}
use Rattle.kl_core.specs.Core.{core}
use Rattle.kl_core.specs.Trees.{Tree}
use Rattle.kl_core.specs.Typing.{HaveSources}
use Rattle.kl_outcome.proofs.OutcomeTypes.{items_inhabit}
use Rattle.kl_outcome.proofs.Refining.{Refines}
use Rattle.kl_core.proofs.Safety.{never_stuck}
use Rattle.kl_eval.specs.declared.stop.EvalStop.{EvalStop}
use Rattle.kl_eval.specs.declared.stop.EvalStop.TheVariants as eval_stop
use Rattle.kl_eval.specs.declared.stop.Halt.{Halt}
use Rattle.kl_eval.specs.declared.stop.Halt.TheVariants as halt
use Rattle.kl_ask.specs.World.{World, types_of, values_of}
use Rattle.kl_ask.specs.declared.DriverError.{DriverError}
use Rattle.kl_outcome.specs.Outcome.{Name}
use Rattle.kl_eval.specs.Steps.{inside_of, AddsList}
use Rattle.kl_eval.specs.Evals.{Sense, SenseList, Evals, Tells, Evaluates, Lists, EvaluatesList}
use Rattle.kl_eval.proofs.Laws.{comes_typed, comes_refine}

tells_done : (o : Outcome) (w : Value) → Refines o (done w) → Tells o (Ok w)
tells_done (done v) w b = cc
tells_done (over vs) w b = cc
tells_done stuck w b = tt

tells_over : (o : Outcome) (ws : List Value) → Refines o (over ws) → Tells o (Err eval_stop.Overflow)
tells_over (done v) ws b = cc
tells_over (over vs) ws b = tt
tells_over stuck ws b = tt

tells_none : (o : Outcome) → Tells o (Err eval_stop.NoMemory)
tells_none (done v) = tt
tells_none (over vs) = tt
tells_none stuck = tt

tells_driver : (o : Outcome) (l : Name) (e : DriverError) → Tells o (Err (eval_stop.Driver l e))
tells_driver (done v) l e = tt
tells_driver (over vs) l e = tt
tells_driver stuck l e = tt

makes_sense : (t : Tree) (env : List Value) (a : World) → Sense t env a → HaveSources (types_of a) (values_of a) → core (values_of a) t env ≢ stuck
makes_sense t env a s told = never_stuck (types_of a) (values_of a) told t s.0 env s.1 s.2 s.3

evaluated : (t : Tree) (env : List Value) (r : Result Value Halt) (a b : World) → Sense t env a → Evals t env r a b → Evaluates t env (inside_of r) a b
evaluated t env (Ok v) a b s h = record {
  moved = h.moved;
  still = h.still;
  cause = tt;
  tells = tells_done (core (values_of a) t env) v (comes_refine (types_of a) (values_of a) t env (done v) h.gives);
  typed = λ G u have ty. comes_typed (types_of a) (values_of a) t G env u (done v) have ty h.gives;
  sense = makes_sense t env a s;
}
evaluated t env (Err (halt.Over vs)) a b s h = record {
  moved = h.moved;
  still = h.still;
  cause = tt;
  tells = tells_over (core (values_of a) t env) vs.items (comes_refine (types_of a) (values_of a) t env (over vs.items) h.gives);
  typed = λ G u have ty. tt;
  sense = makes_sense t env a s;
}
evaluated t env (Err (halt.Driver l e)) a b s h = record { moved = h.moved; still = h.still; cause = h.gives; tells = tells_driver (core (values_of a) t env) l e; typed = λ G u have ty. tt; sense = makes_sense t env a s }
evaluated t env (Err halt.NoMemory) a b s h = record { moved = h.moved; still = h.still; cause = tt; tells = tells_none (core (values_of a) t env); typed = λ G u have ty. tt; sense = makes_sense t env a s }

pub evaluates : (t : Tree) (es xs : List Value) (r : Result Value Halt) (q : Result Value EvalStop) (a b : World) → xs ≡ es → Sense t (reverse es) a → Evals t (reverse xs) r a b → q ≡ inside_of r → Evaluates t (reverse es) q a b
evaluates t es xs r q a b e s h is = subst (λ q. Evaluates t (reverse es) q a b) (sym is) (evaluated t (reverse es) r a b s (subst (λ z. Evals t (reverse z) r a b) e h))

pub sense_at : (t : Tree) (es xs : List Value) (w : World) → xs ≡ es → Sense t (reverse es) w → Sense t (reverse xs) w
sense_at t es xs w e s = subst (λ z. Sense t (reverse z) w) (sym e) s

-- ---- lists

of_list : (t : Tree) (env : List Value) (a : World) → SenseList t env a → Sense t env a
of_list t env a s = (s.0, coll kind.List s.1, s.2, s.3, s.4)

pub list_sense : (t : Tree) (es xs : List Value) (w : World) → xs ≡ es → SenseList t (reverse es) w → Sense t (reverse xs) w
list_sense t es xs w e s = sense_at t es xs w e (of_list t (reverse es) w s)

list_there : (v : Value) (s : Ground) → Inhabits (coll kind.List s) v → IsSome (items_at kind.List v)
list_there v s i = rw (i.0.1, value.outs-List i.0.0) refl

pub lists_there : (t : Tree) (es xs : List Value) (r : Result Value Halt) (a b : World) → xs ≡ es → SenseList t (reverse es) a → Evals t (reverse xs) r a b → IfOk r (λ v. IsSome (items_at kind.List v))
lists_there t es xs (Ok v) a b e s h =
    let h' = subst (λ z. Evals t (reverse z) (Ok v) a b) e h in
    list_there v s.1 (comes_typed (types_of a) (values_of a) t s.0 (reverse es) (coll kind.List s.1) (done v) s.2 s.3 h'.gives)
lists_there t es xs (Err f) a b e s h = tt

lists_done : (o : Outcome) (w : Value) (vs old new : List Value) → Refines o (done w) → w ≡ value.List vs → new ≡ old ++ vs → Lists o (Ok tt) old new
lists_done (done v) w vs old new b e n = let same : w ≡ v = cc in (vs, sym same ∙ e, n)
lists_done (over us) w vs old new b e n = cc
lists_done stuck w vs old new b e n = tt

lists_over : (o : Outcome) (vs old new : List Value) → Refines o (over vs) → new ≡ old ++ vs → Lists o (Err eval_stop.Overflow) old new
lists_over (done v) vs old new b n = cc
lists_over (over us) vs old new b n = let same : vs ≡ us = cc in n ∙ ap (λ q. old ++ q) same
lists_over stuck vs old new b n = tt

lists_none : (o : Outcome) (old new : List Value) → Lists o (Err eval_stop.NoMemory) old new
lists_none (done v) old new = tt
lists_none (over vs) old new = tt
lists_none stuck old new = tt

lists_driver : (o : Outcome) (l : Name) (e : DriverError) (old new : List Value) → Lists o (Err (eval_stop.Driver l e)) old new
lists_driver (done v) l e old new = tt
lists_driver (over vs) l e old new = tt
lists_driver stuck l e old new = tt

items_of_list : (s : Ground) (v : Value) (vs : List Value) → v ≡ value.List vs → Inhabits (coll kind.List s) v → AllByRecursion (Inhabits s) vs
items_of_list s v vs e i =
    let d = items_inhabit kind.List s v i in
    let c : Collection = record { kind = kind.List; items = d.0 } in
    let k : Collection = record { kind = kind.List; items = vs } in
    let same : c ≡ k = same_Some c k (sym d.1 ∙ ap as_collection e ∙ collection_is kind.List vs) in
    subst (AllByRecursion (Inhabits s)) (ap (λ z. z.items) same) d.2

listed : (t : Tree) (env : List Value) (r : Result Value Halt) (q : Result (Unit {0}) EvalStop) (old new : List Value) (a b : World) → SenseList t env a → Evals t env r a b → AddsList r q old new → EvaluatesList t env q old new a b
listed t env (Ok v) (Ok x) old new a b s h k = record {
  moved = h.moved;
  still = h.still;
  cause = tt;
  tells = lists_done (core (values_of a) t env) v k.0 old new (comes_refine (types_of a) (values_of a) t env (done v) h.gives) k.1 k.2;
  typed = λ G u have ty. (k.0, k.2, items_of_list u v k.0 k.1 (comes_typed (types_of a) (values_of a) t G env (coll kind.List u) (done v) have ty h.gives));
  sense = makes_sense t env a (of_list t env a s);
}
listed t env (Err (halt.Over vs)) (Err eval_stop.Overflow) old new a b s h k = record {
  moved = h.moved;
  still = h.still;
  cause = tt;
  tells = lists_over (core (values_of a) t env) vs.items old new (comes_refine (types_of a) (values_of a) t env (over vs.items) h.gives) k;
  typed = λ G u have ty. (vs.items, k, comes_typed (types_of a) (values_of a) t G env (coll kind.List u) (over vs.items) have ty h.gives);
  sense = makes_sense t env a (of_list t env a s);
}
listed t env (Err (halt.Driver l e)) q old new a b s h k = subst (λ z. EvaluatesList t env z old new a b) (sym k.0) (record {
  moved = h.moved;
  still = h.still;
  cause = h.gives;
  tells = lists_driver (core (values_of a) t env) l e old new;
  typed = λ G u have ty. k.1;
  sense = makes_sense t env a (of_list t env a s);
})
listed t env r (Err eval_stop.NoMemory) old new a b s h k = record {
  moved = h.moved;
  still = h.still;
  cause = tt;
  tells = lists_none (core (values_of a) t env) old new;
  typed = λ G u have ty. left r k;
  sense = makes_sense t env a (of_list t env a s);
}
  where
    left : (r : Result Value Halt) → AddsList r (Err eval_stop.NoMemory) old new → new ≡ old
    left (Ok v) k = k
    left (Err (halt.Over vs)) k = k
    left (Err (halt.Driver l e)) k = k.1
    left (Err halt.NoMemory) k = k
listed t env (Ok v) (Err eval_stop.Overflow) old new a b s h k = absurd k
listed t env (Ok v) (Err (eval_stop.Driver l e)) old new a b s h k = absurd k
listed t env (Err (halt.Over vs)) (Err (eval_stop.Driver l e)) old new a b s h k = absurd k
listed t env (Err halt.NoMemory) (Err (eval_stop.Driver l e)) old new a b s h k = absurd k
listed t env (Err (halt.Over vs)) (Ok x) old new a b s h k = absurd k
listed t env (Err halt.NoMemory) (Ok x) old new a b s h k = absurd k
listed t env (Err halt.NoMemory) (Err eval_stop.Overflow) old new a b s h k = absurd k

pub lists : (t : Tree) (es xs : List Value) (r : Result Value Halt) (q : Result (Unit {0}) EvalStop) (old new : List Value) (a b : World) → xs ≡ es → SenseList t (reverse es) a → Evals t (reverse xs) r a b → AddsList r q old new → EvaluatesList t (reverse es) q old new a b
lists t es xs r q old new a b e s h k = listed t (reverse es) r q old new a b s (subst (λ z. Evals t (reverse z) r a b) e h) k
