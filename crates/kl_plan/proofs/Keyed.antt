-- A join with a key means the loops for which it stands.
use Rattle.std.proofs.Common.{◌≡◌, ⊎_elim, ℕ, Bool, true, false, List, [], ◌∷◌, Option, Some, None, IsSome, refl, sym, ap, subst, ◌∙◌}
use Rattle.std.specs.Ordering.{is_eq}
use Rattle.std.proofs.lemmas.Cmp.{eq_by_cmp_equiv}
use mathlib.Core.Path.{ap₂}
use Rattle.kl_value.specs.Order.{compare}
use Rattle.kl_value.proofs.OrderLemmas.{compare_total}
use Rattle.kl_value.specs.declared.Kind.{Kind}
use Rattle.kl_value.specs.declared.Value.{Value, Value-F, out-Value}
use Rattle.kl_value.specs.declared.Value.TheVariants as value
use Rattle.kl_value.specs.Views.{as_bool, field_at, field_layer}
use Rattle.kl_type.specs.Ground.{Ground}
use Rattle.kl_prim.specs.Meaning.{gives}
use Rattle.kl_prim.specs.Table.{rows, row_at, meaning}
use Rattle.kl_ask.specs.declared.settings.JoinHow.{JoinHow}
use Rattle.kl_outcome.specs.Outcome.{Name, done, Flow, stop, fine, drawn, answered, applied, outcome_of, part, field_in, record_layer}
use Rattle.kl_outcome.specs.Typed.{Inhabits}
use Rattle.kl_outcome.proofs.OutcomeTypes.{FlowOf}
use Rattle.kl_outcome.proofs.Drawing.{drawn_same}
use Rattle.kl_plan.specs.declared.plan.Scan.{Scan}
use Rattle.kl_plan.specs.Nodes as node
use Rattle.kl_plan.specs.Nodes.{Node, Nodes, no_nodes, nodes, key}
use Rattle.kl_plan.specs.Meaning.{many, worth, coming, drawn_for, Readings, scanned, on_test, tested, under_key, same_key, plan, plan_conds}
use Rattle.kl_plan.specs.Loops.{around, loops}
use Rattle.kl_plan.specs.Keys.{above, IsColumn, IsEquality, IsKey, Tell}
use Rattle.kl_plan.proofs.Above.{above_keeps}
use Rattle.kl_plan.proofs.Around.{chosen_tested, conds_around}

-- ---- the test of a key

equal_means : (v w : Value) → meaning 1 (v ∷ w ∷ []) ≡ gives (value.Bool (is_eq (compare v w)))
unfolding meaning row_at rows
equal_means v w = refl

field_read : (l : Name) (y : Value) → part l (done y) ≡ outcome_of (field_at l y)
field_read l y = by (out-Value y)
  where
    by : (z : Value-F Value) → field_in l (record_layer z) ≡ outcome_of (field_layer l z)
    by (Value-F.Rec fs) = refl
    by (Value-F.Bool b) = refl
    by (Value-F.Int n) = refl
    by (Value-F.Text t) = refl
    by (Value-F.Inj m w) = refl
    by (Value-F.Set vs) = refl
    by (Value-F.Bag vs) = refl
    by (Value-F.List vs) = refl

told : (b : Bool) (f : Flow) → tested (done (value.Bool b)) f ≡ on_test (Some b) f
told b f = ap (λ z. on_test z f) (ap (λ z. as_bool_layer z) (value.outs-Bool b))
  where
    as_bool_layer : Value-F Value → Option Bool
    as_bool_layer (Value-F.Bool c) = Some c
    as_bool_layer (Value-F.Int n) = None
    as_bool_layer (Value-F.Text t) = None
    as_bool_layer (Value-F.Rec fs) = None
    as_bool_layer (Value-F.Inj m w) = None
    as_bool_layer (Value-F.Set vs) = None
    as_bool_layer (Value-F.Bag vs) = None
    as_bool_layer (Value-F.List vs) = None

flips : (v w : Value) → is_eq (compare v w) ≡ is_eq (compare w v)
flips v w = (eq_by_cmp_equiv compare_total).symm v w

column_first : (v : Value) (o : Option Value) (f : Flow) → tested (applied 1 (outcome_of o ∷ done v ∷ [])) f ≡ on_test (same_key v o) f
column_first v (Some w) f = ap (λ a. tested (answered a) f) (equal_means w v) ∙ told (is_eq (compare w v)) f
column_first v None f = refl

column_last : (v : Value) (o : Option Value) (f : Flow) → tested (applied 1 (done v ∷ outcome_of o ∷ [])) f ≡ on_test (same_key v o) f
column_last v (Some w) f = ap (λ a. tested (answered a) f) (equal_means v w) ∙ told (is_eq (compare v w)) f ∙ ap (λ b. on_test (Some b) f) (flips v w)
column_last v None f = refl

module _ (R : Readings) where
  column_is : (l : Name) (c : Node) (y : Value) (env : List Value) → IsColumn l c → worth (plan R c (y ∷ env)) ≡ outcome_of (field_at l y)
  column_is l c y env h =
      ⊎_elim (λ e. subst (λ p. worth (plan R p (y ∷ env)) ≡ outcome_of (field_at l y)) (sym e) (field_read l y))
      (⊎_elim (λ e. subst (λ p. worth (plan R p (y ∷ env)) ≡ outcome_of (field_at l y)) (sym e) (field_read l y))
      (λ e. subst (λ p. worth (plan R p (y ∷ env)) ≡ outcome_of (field_at l y)) (sym e) (field_read l y))) h

  equality_is : (c a b : Node) (env : List Value) → IsEquality c a b → worth (plan R c env) ≡ applied 1 (worth (plan R a env) ∷ worth (plan R b env) ∷ [])
  equality_is c a b env h =
      ⊎_elim (λ e. ap (λ p. worth (plan R p env)) e)
      (λ w. ap (λ p. worth (plan R p env)) w.4 ∙ sym (ap₂ (λ p q. applied 1 (worth (plan R p env) ∷ worth (plan R q env) ∷ [])) w.2 w.3)) h

  key_tested : (l : Name) (p c : Node) (y v : Value) (env : List Value) (f : Flow) → IsKey l p c → worth (plan R p env) ≡ done v → tested (worth (plan R c (y ∷ env))) f ≡ on_test (same_key v (field_at l y)) f
  key_tested l p c y v env f h e =
      ⊎_elim
      (λ q. ap (λ o. tested o f) (equality_is c h.column (above p 0) (y ∷ env) q ∙ ap₂ (λ a b. applied 1 (a ∷ b ∷ [])) (column_is l h.column y env h.is_column) there) ∙ column_first v (field_at l y) f)
      (λ q. ap (λ o. tested o f) (equality_is c (above p 0) h.column (y ∷ env) q ∙ ap₂ (λ a b. applied 1 (a ∷ b ∷ [])) there (column_is l h.column y env h.is_column)) ∙ column_last v (field_at l y) f)
      h.equal
    where
      there : worth (plan R (above p 0) (y ∷ env)) ≡ done v
      there = ap worth (above_keeps R y p [] env 0 refl) ∙ e

  nothing_tested : (b : Option Bool) → IsSome b → stop fine ≡ on_test b (stop fine)
  nothing_tested (Some true) h = refl
  nothing_tested (Some false) h = refl
  nothing_tested None h = cc

  -- conditions that come to truth values may be tested before another
  conds_turned : (ds : Nodes) (env : List Value) (b : Option Bool) (f : Flow) → Tell R ds env → IsSome b → plan_conds R ds env (on_test b f) ≡ on_test b (plan_conds R ds env f)
  conds_turned no_nodes env b f h s = refl
  conds_turned (nodes c cs) env b f h s =
      first (plan_conds R cs env (on_test b f)) ∙ by (as_bool h.0) h.2 (conds_turned cs env b f h.3 s) ∙ ap (on_test b) (sym (first (plan_conds R cs env f)))
    where
      first : (g : Flow) → tested (worth (plan R c env)) g ≡ on_test (as_bool h.0) g
      first g = ap (λ o. tested o g) h.1

      by : (t : Option Bool) → IsSome t → plan_conds R cs env (on_test b f) ≡ on_test b (plan_conds R cs env f)
          → on_test t (plan_conds R cs env (on_test b f)) ≡ on_test b (on_test t (plan_conds R cs env f))
      by (Some true) i rest = rest
      by (Some false) i rest = nothing_tested b s
      by None i rest = cc

  some_key : (v : Value) (o : Option Value) → IsSome o → IsSome (same_key v o)
  some_key v (Some w) h = refl
  some_key v None h = cc

  module _ (k : Kind) (l : Name) (p c b : Node) (ds : Nodes) (is_key : IsKey l p c) where
    abbrev whole : Node
    whole = around k ds (node.If c b (node.Make k no_nodes))

    abbrev without : Node
    without = around k ds b

    pub body_keyed : (x y v : Value) (env : List Value) → worth (plan R p (x ∷ env)) ≡ done v → Tell R ds (y ∷ x ∷ env) → IsSome (field_at l y)
        → on_test (same_key v (field_at l y)) (coming (plan R without (y ∷ x ∷ env))) ≡ coming (plan R whole (y ∷ x ∷ env))
    body_keyed x y v env e tell there =
        ap (on_test (same_key v (field_at l y))) (conds_around R k ds b (y ∷ x ∷ env))
        ∙ sym (conds_turned ds (y ∷ x ∷ env) (same_key v (field_at l y)) (coming (plan R b (y ∷ x ∷ env))) tell (some_key v (field_at l y) there))
        ∙ ap (plan_conds R ds (y ∷ x ∷ env)) (sym (chosen_tested k (worth (plan R c (y ∷ x ∷ env))) (plan R b (y ∷ x ∷ env)) ∙ key_tested l p c y v (x ∷ env) (coming (plan R b (y ∷ x ∷ env))) is_key e))
        ∙ sym (conds_around R k ds (node.If c b (node.Make k no_nodes)) (y ∷ x ∷ env))

    pub keyed_is_loops : (n : ℕ) (how : JoinHow) (o : Node) (cs : Nodes) (i : Scan) (t u : Ground) (env : List Value)
        → FlowOf t (drawn_for k (plan R o env)) → FlowOf u (drawn_for k (scanned i.kind (R i)))
        → ((x : Value) → Inhabits t x → (v : Value) × (worth (plan R p (x ∷ env)) ≡ done v))
        → ((x y : Value) → Inhabits t x → Inhabits u y → Tell R ds (y ∷ x ∷ env) × IsSome (field_at l y))
        → plan R (node.Join n k how o cs i (key l p) without) env ≡ plan R (loops k o cs i whole) env
    keyed_is_loops n how o cs i t u env outer inner keys tells =
        ap (many k) (drawn_same t (drawn_for k (plan R o env)) _ _ outer (λ x is.
        let v = keys x is in
        ap (plan_conds R cs (x ∷ env))
        (ap (λ q. under_key q (λ w. drawn (drawn_for k (scanned i.kind (R i))) (λ y. on_test (same_key w (field_at l y)) (coming (plan R without (y ∷ x ∷ env)))))) v.1
        ∙ drawn_same u (drawn_for k (scanned i.kind (R i))) _ _ inner (λ y typed. let g = tells x y is typed in body_keyed x y v.0 env v.1 g.0 g.1))
        ∙ sym (conds_around R k cs (node.Ext k whole (node.Scan i)) (x ∷ env))))
