-- Items of a body, added to those that were drawn before.
use Rattle.std.proofs.Common.{◌≡◌, ℕ, ◌<◌, Bool, List, [], ◌∷◌, ◌+◌, length, drop, get_or, Option, IfOk, IfSome, Some, Result, Ok, Err, refl, sym, ◌∙◌, ap, subst, append-nil}
use Rattle.kl_value.proofs.CanonLemmas.{canonical-nil, canonical-one}
use Rattle.kl_value.specs.Views.{collection, as_bool, IsBool, IsCollection}
use Rattle.kl_value.specs.declared.Kind.{Kind}
use Rattle.kl_value.specs.declared.Kind.TheVariants as kind
use Rattle.kl_value.specs.declared.Value.{Value}
use Rattle.kl_value.specs.declared.Value.TheVariants as value
use Rattle.kl_type.specs.Ground.{bool, coll}
use Rattle.kl_outcome.specs.Outcome.{done, over, End, Flow, more, stop, fine, overflow, flow, collected}
use Rattle.kl_outcome.specs.Typed.{OfType, Inhabits}
use Rattle.kl_outcome.proofs.OutcomeTypes.{items_inhabit}
use Rattle.kl_core.specs.declared.term.Term.{Term}
use Rattle.kl_core.specs.declared.term.Term.TheVariants as term
use Rattle.kl_core.specs.Trees.{Tree, Make, Prim, no_trees, trees, view, trees_view}
use Rattle.kl_core.specs.Core.{Tables}
use Rattle.kl_core.specs.Typing.{CoreTypes, SourceTypes}
use Rattle.kl_eval.specs.declared.stop.EvalStop.{EvalStop}
use Rattle.kl_eval.specs.declared.stop.EvalStop.TheVariants as eval_stop
use Rattle.kl_eval.specs.declared.stop.Halt.{Halt}
use Rattle.kl_eval.specs.declared.stop.Halt.TheVariants as halt
use Rattle.kl_ask.specs.World.{World, Moved, types_of, values_of}
use Rattle.kl_ask.proofs.Worlds.{moved_none, ready_on}
use Rattle.kl_eval.specs.Comes.{Comes, ItemsCome}
use Rattle.kl_eval.specs.Sources.{NoSource}
use Rattle.kl_eval.specs.Evals.{Sense, SenseTest, SenseWhole, PartGives, CallGives, Evals, EvalsPart, EvalsBody, EvalsCall, EvalsInto, AddsAll}
use Rattle.kl_eval.proofs.Loops.{OnBody}
use Rattle.kl_eval.specs.Steps.{AppendsAll, AddsItems, Behind, Outside, TellsTruth}
use Rattle.kl_eval.proofs.Laws.{comes_typed}
use Rattle.kl_eval.proofs.Forms.{alone, evals_stop, onto, picked, picked_typed, body_goes, body_over, body_lost, value_if, value_if_stop, at_If, at_Make, at_Prim, at_value, value_let, value_let_stop, at_Let}

none_over : (k : Kind) → over [] ≡ collected k (stop overflow)
none_over kind.Set = refl
none_over kind.Bag = refl
none_over kind.List = refl

-- ---- what makes sense as a collection

pub sense_of : (t : Tree) (env : List Value) (a : World) → SenseWhole t env a → Sense t env a
sense_of t env a s = (s.0, coll s.1 s.2, s.3, s.4, s.5)

pub whole_there : (t : Tree) (env : List Value) (u : Value) (a b : World) → SenseWhole t env a → Evals t env (Ok u) a b → IsCollection u
whole_there t env u a b s h =
    let i : OfType (coll s.1 s.2) (done u) = comes_typed (types_of a) (values_of a) t s.0 env (coll s.1 s.2) (done u) s.3 s.4 h.gives in
    let d = items_inhabit s.1 s.2 u i in
    rw d.1 refl

-- ---- a term by its value

pub into_stop : (t : Tree) (env : List Value) (h : Halt) (old new : List Value) (a b : World) → Evals t env (Err h) a b → new ≡ old → EvalsInto t env (Err h) old new a b
into_stop t env h old new a b e s = record { whole = Err h; evals = e; adds = (refl, s) }

-- ---- a condition

module _ (t x y z x' : Term) (env : List Value) (et : t ≡ term.If x y z) (ex : x' ≡ x) where
  pub whole_picked : (p : Term) (bit : Bool) (a b : World) → p ≡ picked bit y z → Moved a b → SenseWhole (view t) env a → SenseWhole (view p) env b
  whole_picked p bit a b ep m s =
      let s' = subst (λ q. SenseWhole q env a) (at_If t x y z x' env et ex) s in
      subst (λ q. SenseWhole (view q) env b) (sym ep)
      (s'.0, s'.1, s'.2, s'.3, onto (λ S. CoreTypes S s'.0 (view (picked bit y z)) (coll s'.1 s'.2)) a b m (picked_typed t x y z x' env et ex bit (types_of a) s'.0 (coll s'.1 s'.2) s'.4), ready_on a b m s'.5)

  pub into_if : (p : Term) (v w : Value) (bit : Bool) (r : Result (Unit {0}) Halt) (old new : List Value) (a b c : World) → p ≡ picked bit y z → w ≡ v → as_bool w ≡ Some bit → EvalsPart (view x') env (Ok v) a b → EvalsInto (view p) env r old new b c → EvalsInto (view t) env r old new a c
  into_if p v w bit r old new a b c ep ew eb h k = record { whole = k.whole; evals = value_if t x y z x' env et ex p v w bit k.whole a b c ep ew eb h k.evals; adds = k.adds }

  pub into_if_stop : (e : EvalStop) (h : Halt) (old new : List Value) (a b : World) → EvalsPart (view x') env (Err e) a b → Outside e h → new ≡ old → EvalsInto (view t) env (Err h) old new a b
  into_if_stop e h old new a b p o s = into_stop (view t) env h old new a b (value_if_stop t x y z x' env et ex e h a b p o) s

  pub into_tested : (p : Term) (bit told : Bool) (q : Result Value EvalStop) (r : Result (Unit {0}) Halt) (old new : List Value) (a b c : World) → p ≡ picked bit y z → told ≡ bit → TellsTruth q (Ok told) → EvalsPart (view x') env q a b → EvalsInto (view p) env r old new b c → EvalsInto (view t) env r old new a c
  into_tested p bit told q r old new a b c ep ey k h m = into_if p k.0 k.0 bit r old new a b c ep refl (k.2 ∙ ap Some ey) (subst (λ z. EvalsPart (view x') env z a b) k.1 h) m

  pub into_tested_stop : (q : Result Value EvalStop) (e : EvalStop) (h : Halt) (old new : List Value) (a b : World) → TellsTruth q (Err e) → EvalsPart (view x') env q a b → Outside e h → new ≡ old → EvalsInto (view t) env (Err h) old new a b
  into_tested_stop q e h old new a b k p o s = into_if_stop e h old new a b (subst (λ z. EvalsPart (view x') env z a b) k p) o s

-- ---- a test

pub sense_told : (t : Tree) (env : List Value) (a : World) → SenseTest t env a → Sense t env a
sense_told t env a s = (s.0, bool, s.1, s.2, s.3)

pub truth_told : (t : Tree) (env : List Value) (q : Result Value EvalStop) (a b : World) → SenseTest t env a → EvalsPart t env q a b → IfOk q IsBool
truth_told t env (Ok v) a b s h = (comes_typed (types_of a) (values_of a) t s.0 env bool (done v) s.1 s.2 h.gives).0
truth_told t env (Err e) a b s h = tt

pub test_sense : (t x y z x' : Term) (env : List Value) → t ≡ term.If x y z → x' ≡ x → (a : World) → SenseWhole (view t) env a → SenseTest (view x') env a
test_sense t x y z x' env et ex a s = let s' = subst (λ q. SenseWhole q env a) (at_If t x y z x' env et ex) s in (s'.0, s'.3, s'.4.0, s'.5)

-- ---- what is bound

module _ (t x y x' : Term) (env : List Value) (et : t ≡ term.Let x y) (ex : x' ≡ x) where
  pub whole_bound : (y' : Term) (v w : Value) (a b : World) → y' ≡ y → w ≡ v → SenseWhole (view t) env a → EvalsPart (view x') env (Ok v) a b → SenseWhole (view y') (w ∷ env) b
  whole_bound y' v w a b ey ew s h =
      let s' = subst (λ q. SenseWhole q env a) (at_Let t x y x' env et ex) s in
      let i : Inhabits s'.4.0 v = comes_typed (types_of a) (values_of a) (view x') s'.0 env s'.4.0 (done v) s'.3 s'.4.1 h.gives in
      subst (λ q. SenseWhole (view q) (w ∷ env) b) (sym ey)
      (subst (λ q. SenseWhole (view y) (q ∷ env) b) (sym ew)
      (s'.4.0 ∷ s'.0, s'.1, s'.2, (i, s'.3), onto (λ S. CoreTypes S (s'.4.0 ∷ s'.0) (view y) (coll s'.1 s'.2)) a b h.moved s'.4.2, ready_on a b h.moved s'.5))

  pub into_let : (y' : Term) (v w : Value) (r : Result (Unit {0}) Halt) (old new : List Value) (a b c : World) → y' ≡ y → w ≡ v → EvalsPart (view x') env (Ok v) a b → EvalsInto (view y') (w ∷ env) r old new b c → EvalsInto (view t) env r old new a c
  into_let y' v w r old new a b c ey ew h k = record { whole = k.whole; evals = value_let t x y x' env et ex y' v w k.whole a b c ey ew h k.evals; adds = k.adds }

  pub into_let_stop : (e : EvalStop) (h : Halt) (old new : List Value) (a b : World) → EvalsPart (view x') env (Err e) a b → Outside e h → new ≡ old → EvalsInto (view t) env (Err h) old new a b
  into_let_stop e h old new a b p o s = into_stop (view t) env h old new a b (value_let_stop t x y x' env et ex e h a b p o) s

-- ---- a literal of no item, and of one

module _ (t : Term) (k : Kind) (ts us : List Term) (env : List Value) (et : t ≡ term.Make k ts) (eu : us ≡ ts) where
  pub into_none : (old new : List Value) (a : World) → length us ≡ 0 → new ≡ old → EvalsInto (view t) env (Ok tt) old new a a
  into_none old new a n s =
      let empty : us ≡ [] = nil_of us n in
      let c : Comes (types_of a) (values_of a) env (Make k (trees_view us)) (done (collection k [])) =
      (stop fine, subst (λ q. ItemsCome (types_of a) (values_of a) env (trees_view q) (stop fine)) (sym empty) refl, ap done (sym (canonical-nil k))) in
      record {
        whole = Ok (collection k []);
        evals = record { moved = moved_none a; still = λ n. refl; gives = subst (λ q. Comes (types_of a) (values_of a) env q (done (collection k []))) (sym (at_Make t k ts us env et eu)) c };
        adds = (k, [], refl, s ∙ sym (append-nil old));
      }
    where
      nil_of : (us : List Term) → length us ≡ 0 → us ≡ []
      nil_of [] n = refl
      nil_of (u ∷ us) n = cc

  module _ (x : Term) (n : length us ≡ 1) (is : x ≡ get_or us 0 x) where
    one : view t ≡ Make k (trees (view x) no_trees)
    one = at_Make t k ts us env et eu ∙ ap (λ q. Make k (trees_view q)) (alone us x n is)

    pub into_one : (v : Value) (r : Result (Unit {0}) Halt) (old new : List Value) (a b : World) → EvalsPart (view x) env (Ok v) a b → AppendsAll (v ∷ []) r old new → EvalsInto (view t) env r old new a b
    into_one v r old new a b h add =
        let c : Comes (types_of a) (values_of a) env (Make k (trees (view x) no_trees)) (done (collection k (v ∷ []))) =
        (more v (stop fine), (done v, h.gives, (stop fine, refl, refl)), ap done (sym (canonical-one k v))) in
        record {
          whole = Ok (collection k (v ∷ []));
          evals = record { moved = h.moved; still = λ n. h.still (subst NoSource one n).0; gives = subst (λ q. Comes (types_of a) (values_of a) env q (done (collection k (v ∷ [])))) (sym one) c };
          adds = (k, v ∷ [], refl, add);
        }

    pub into_one_stop : (e : EvalStop) (h : Halt) (old new : List Value) (a b : World) → EvalsPart (view x) env (Err e) a b → Outside e h → new ≡ old → EvalsInto (view t) env (Err h) old new a b
    into_one_stop e h old new a b p o s = into_stop (view t) env h old new a b
        (evals_stop (view t) (view x) env e h a b p o (λ S T vs c. subst (λ q. Comes S T env q (over [])) (sym one) (stop overflow, (over vs, c, refl), none_over k)) (λ n. (subst NoSource one n).0)) s

-- ---- a primitive that is looked at

module _ (t : Term) (c : ℕ) (ts us : List Term) (env : List Value) (et : t ≡ term.Prim c ts) (eu : us ≡ ts) where
  pub prim_comes : (r : Option Bool) → IfSome r (λ yes. (S : SourceTypes) (T : Tables) → Comes S T env (Prim c (trees_view us)) (done (value.Bool yes)))
      → IfSome r (λ yes. (S : SourceTypes) (T : Tables) → Comes S T env (view t) (done (value.Bool yes)))
  prim_comes r = subst (λ q. IfSome r (λ yes. (S : SourceTypes) (T : Tables) → Comes S T env q (done (value.Bool yes)))) (sym (at_Prim t c ts us env et eu))

  pub look_prim : (r : Result Value EvalStop) (a b : World) → EvalsCall c (trees_view us) env r a b → EvalsPart (view t) env r a b
  look_prim r a b h = subst (λ q. EvalsPart q env r a b) (sym (at_Prim t c ts us env et eu)) (record { moved = h.moved; still = h.still; gives = go r h.gives })
    where
      go : (r : Result Value EvalStop) → CallGives (Comes (types_of a) (values_of a) env (Prim c (trees_view us))) a b r → PartGives (Comes (types_of a) (values_of a) env (Prim c (trees_view us))) a b r
      go (Ok v) h = h
      go (Err eval_stop.Overflow) h = ([], h)
      go (Err (eval_stop.Driver l e)) h = h
      go (Err eval_stop.NoMemory) h = tt

-- ---- at each of some values

whole_added : (t : Tree) (env : List Value) (w : Result Value Halt) (old new : List Value) (a b : World) → Evals t env w a b → AddsAll w (Ok tt) old new → (u : Value) × Evals t env (Ok u) a b × AddsItems u (Ok tt) old new
whole_added t env (Ok u) old new a b h add = (u, h, add)
whole_added t env (Err h') old new a b h add = absurd add

-- what was added is the items of a value
pub added : (t : Tree) (env : List Value) (old new : List Value) (a b : World) → EvalsInto t env (Ok tt) old new a b → (u : Value) × Evals t env (Ok u) a b × AddsItems u (Ok tt) old new
added t env old new a b k = whole_added t env k.whole old new a b k.evals k.adds

module _ (t : Tree) (vs : List Value) (i : ℕ) (v : Value) (whole : Flow) (e : End) (env now : List Value) (a b : World) (lt : i < length vs) (is : v ≡ get_or vs i v) (inv : OnBody t whole (flow (drop i vs) e) (drop i vs) env now a b) where
  pub body_sense_whole : SenseWhole t (v ∷ env) b
  body_sense_whole = let s = (at_value t vs i v whole e env now a b lt is inv).sense in (s.1 ∷ s.0, s.2, s.3, (s.5.0, s.4), s.6, s.7)

  pub body_added : (now' : List Value) (c : World) → EvalsInto t (v ∷ env) (Ok tt) now now' b c → OnBody t whole (flow (drop (i + 1) vs) e) (drop (i + 1) vs) env now' a c
  body_added now' c k = let d = added t (v ∷ env) now now' b c k in body_goes t vs i v whole e env now a b lt is inv d.0 now' c d.1 d.2

  pub body_stops : (q r : Halt) (items : List Value) (c : World) → EvalsInto t (v ∷ env) (Err q) now items b c → Behind items q r → EvalsBody t whole env (Err r) a c
  body_stops q r items c k m = go k.whole k.evals k.adds
    where
      lost : (q r : Halt) (u : Value) → Evals t (v ∷ env) (Ok u) b c → AddsItems u (Err q) now items → Behind items q r → EvalsBody t whole env (Err r) a c
      lost (halt.Over ws) r u h add m = absurd add.3
      lost (halt.Driver l e) r u h add m = absurd add.3
      lost halt.NoMemory (halt.Over us) u h add m = absurd m
      lost halt.NoMemory (halt.Driver l e) u h add m = absurd m
      lost halt.NoMemory halt.NoMemory u h add m = body_lost t vs i v whole e env now a b lt is inv u items halt.NoMemory c h add

      go : (w : Result Value Halt) → Evals t (v ∷ env) w b c → AddsAll w (Err q) now items → EvalsBody t whole env (Err r) a c
      go (Ok u) h add = lost q r u h add m
      go (Err h') h add = body_over t vs i v whole e env now a b lt is inv q r items c (sym add.1) (subst (λ z. Evals t (v ∷ env) (Err z) b c) (sym add.0) h) m
