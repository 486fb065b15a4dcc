-- Plans whose items come one by one, and what is answered of a tally of the items.
use Rattle.std.proofs.Common.{◌≡◌, ◌⊎◌, ⊎_elim, inl, inr, ℕ, List, [], ◌∷◌, Option, Some, None, Result, Ok, Err, refl, sym, ap, subst, ◌∙◌, arith}
use Rattle.kl_value.specs.Canon.{canonical}
use Rattle.kl_value.specs.declared.Kind.{Kind}
use Rattle.kl_value.specs.declared.Value.{Value}
use Rattle.kl_type.specs.Ground.{Ground, coll}
use Rattle.kl_outcome.specs.Outcome.{done, End, fine, overflow, flow, items_of, kept, gathered, collected}
use Rattle.kl_outcome.specs.Typed.{OfType}
use Rattle.kl_outcome.proofs.Drawing.{typed_collected}
use Rattle.kl_outcome.proofs.Flows.{collected_flow}
use Rattle.kl_outcome.proofs.OutcomeTypes.{FlowOf, collected_typed, items_typed}
use Rattle.kl_scans.specs.Running.{Running}
use Rattle.kl_eval.specs.Steps.{AnswersPrim}
use Rattle.kl_eval.specs.declared.stop.EvalStop.{EvalStop}
use Rattle.kl_eval.specs.declared.stop.EvalStop.TheVariants as why
use Rattle.kl_plan.specs.Alike.{harm}
use Rattle.kl_plan.specs.Kinds.{kind_of_items}
use Rattle.kl_plan.specs.Meaning.{worth, coming, plan}
use Rattle.kl_plan.specs.Nodes.{Node}
use Rattle.kl_plan.proofs.Collections.{alike_same}
use Rattle.kl_plan.proofs.Comings.{ComesAs, worth_typed, coming_alike}
use Rattle.kl_plan.proofs.Likeness.{alike_on}
use Rattle.kl_scans.specs.Stage.{stage, ScanOf, MemoOf}
use Rattle.kl_cursor.specs.Gathering.{Gathered, listed, empty, counted, summed, sought, IsTally, with_one, with_all, answer_in, Tells, TellsItems}
use Rattle.kl_cursor.specs.Left.{Snap, fresh, reading}
use Rattle.kl_cursor.specs.Likeness.{Same}
use Rattle.kl_cursor.specs.Sense.{TypesAt, HasWorth, Stands}
use Rattle.kl_cursor.specs.Steps.{Empties, Emits, Tallies, ComesTo, Partly}
use Rattle.kl_cursor.proofs.Comings.{told_comes}
use Rattle.kl_cursor.proofs.Drawn.{KindIn, kind_in}
use Rattle.kl_cursor.proofs.Likes.{same_alike, same_harm}
use Rattle.kl_cursor.proofs.ValueDrain.{end_types, well_ends}

-- what a tally tells, where a kind is known
pub tells_kind : (code : ℕ) (before : List Value) (o : Option Kind) (g : Gathered) → TellsItems code before o g → (k : Kind) × (o ≡ Some k) × Tells code before k g
tells_kind code before (Some k) g h = (k, refl, h)
tells_kind code before None g h = absurd h

module _ (env : List Value) (p : Node) (k : Kind) (a : Running) (is : kind_of_items p ≡ Some k) where
  of_kind : (G : List Ground) (s : Ground) → TypesAt a G p s → (u : Ground) × (s ≡ coll k u)
  of_kind G s y = subst (KindIn s) is (kind_in (ScanOf (stage a)) (MemoOf (stage a)) p G s y)

  pub worth_stands : HasWorth a p env → Stands a (fresh p) env
  worth_stands h = let x = of_kind h.0 h.1 h.3 in (h.0, k, x.0, h.2, subst (TypesAt a h.0 p) x.1 h.3, h.4)

  -- the collection of the items is what the plan comes to
  module _ (b : Running) where
    pub items_come : (vs : List Value) (e : End) → (e ≡ fine) ⊎ (e ≡ overflow) → Empties env (fresh p) vs e a b → ComesTo env p (gathered k e vs) a b
    items_come vs e ends h = record {
      moves = h.moves;
      known = h.known;
      comes = λ G s t y told.
          let x = of_kind G s y in
          let u = x.0 in
          let y' : TypesAt a G p (coll k u) = subst (TypesAt a G p) x.1 y in
          let c = plan (reading a) p env in
          let comes : ComesAs (coll k u) c = told_comes a p G env (coll k u) t y' told in
          let worthy : OfType (coll k u) (worth c) = worth_typed (coll k u) c comes in
          let all : FlowOf u (flow vs e) = end_types u vs e ends (h.typed G k u t y') in
          let same : Same k (coming c) (flow vs e) = h.gave G k u t y' told in
          let one : collected k (flow vs e) ≡ collected k (items_of (worth c)) = alike_same k u (items_of (worth c)) (flow vs e) (items_typed k u (worth c) worthy) all
          (alike_on k (items_of (worth c)) (coming c) (flow vs e) (coming_alike k u c comes) (same_alike k (coming c) (flow vs e) same)) in
          sym (typed_collected k u (worth c) worthy) ∙ sym one ∙ collected_flow k vs e;
      counts = λ G s t y told well P.
          let x = of_kind G s y in
          let u = x.0 in
          let y' : TypesAt a G p (coll k u) = subst (TypesAt a G p) x.1 y in
          let same : Same k (coming (plan (reading a) p env)) (flow vs e) = h.gave G k u t y' told in
          let z : harm (coming (plan (reading a) p env)) ≡ 0 = sym (same_harm k (coming (plan (reading a) p env)) (flow vs e) same) ∙ well_ends e ends k vs well in
          let c = h.counts G k u t y' told z P in
          omega (arith, c);
      typed = λ G s t y.
          let x = of_kind G s y in
          let u = x.0 in
          let y' : TypesAt a G p (coll k u) = subst (TypesAt a G p) x.1 y in
          subst (λ q. OfType q (gathered k e vs)) (sym x.1) (subst (OfType (coll k u)) (collected_flow k vs e) (collected_typed k u (flow vs e) (end_types u vs e ends (h.typed G k u t y'))));
    }

    -- what holds of the collection and of a stop holds of the answer
    pub tallied : (X : Type 0) (g : Gathered) (r : Result Value EvalStop) → Tallies env (fresh p) g r a b
        → ((vs : List Value) → ComesTo env p (done (canonical k vs)) a b → AnswersPrim (answer_in (with_all g vs)) r → X) → ((e : EvalStop) → r ≡ Err e → Partly env p (Err e) a b → X) → X
    tallied X g (Ok v) h go stop = go h.0 (items_come h.0 fine (inl refl) h.2) h.1
    tallied X g (Err why.Overflow) h go stop = ⊎_elim
        (λ i. stop why.Overflow refl (kept k h.0, items_come h.0 overflow (inr refl) i))
        (λ i. go h.0 (items_come h.0 fine (inl refl) i.1) i.0) h.1
    tallied X g (Err (why.Driver l e)) h go stop = stop (why.Driver l e) refl h
    tallied X g (Err why.NoMemory) h go stop = stop why.NoMemory refl h

-- ---- what code has of a tally

tally_with : (g : Gathered) (v : Value) → IsTally g → IsTally (with_one g v)
tally_with (listed us) v h = absurd h
tally_with (empty b) v h = tt
tally_with (counted n) v h = tt
tally_with (summed z) v h = tt
tally_with (sought w b) v h = tt

tally_after : (g : Gathered) (vs : List Value) → IsTally g → IsTally (with_all g vs)
tally_after g [] h = h
tally_after g (v ∷ vs) h = tally_after (with_one g v) vs (tally_with g v h)

pub tally_there : (env : List Value) (s : Snap) (z : Unit {0}) (g new : Gathered) (a b : Running) → IsTally g → Emits env s (Ok z) g new a b → IsTally new
tally_there env s z g new a b h k = subst IsTally (sym k.1) (tally_after g k.0 h)

pub tally_answers : (env : List Value) (s : Snap) (z : Unit {0}) (g new : Gathered) (r : Result Value EvalStop) (a b : Running) → Emits env s (Ok z) g new a b → AnswersPrim (answer_in new) r → Tallies env s g r a b
tally_answers env s z g new (Ok v) a b h m = (h.0, ap answer_in (sym h.1) ∙ m, h.2)
tally_answers env s z g new (Err why.Overflow) a b h m = (h.0, inr (ap answer_in (sym h.1) ∙ m, h.2))
tally_answers env s z g new (Err (why.Driver l e)) a b h m = absurd m
tally_answers env s z g new (Err why.NoMemory) a b h m = record { moves = h.2.moves; known = h.2.known; reason = tt }

pub tally_stops : (env : List Value) (s : Snap) (e : EvalStop) (g new : Gathered) (a b : Running) → Emits env s (Err e) g new a b → Tallies env s g (Err e) a b
tally_stops env s why.Overflow g new a b h = (h.0, inl h.2)
tally_stops env s (why.Driver l e) g new a b h = h
tally_stops env s why.NoMemory g new a b h = h
