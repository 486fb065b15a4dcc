-- Cursors that are drawn on.
use Rattle.std.proofs.Common.{◌≡◌, List, [], Option, Some, None, Result, Ok, Err, reverse, sym, subst}
use Rattle.kl_value.specs.declared.Kind.TheVariants as kind
use Rattle.kl_value.specs.declared.Value.{Value}
use Rattle.kl_type.specs.Ground.{coll, int}
use Rattle.kl_outcome.specs.Typed.{HaveTypes}
use Rattle.kl_scans.specs.Right.{IsReadyRun}
use Rattle.kl_scans.specs.Running.{Running}
use Rattle.kl_plan.specs.Nodes.{Node}
use Rattle.kl_eval.specs.declared.stop.EvalStop.{EvalStop}
use Rattle.kl_scans.specs.Held.{Owned}
use Rattle.kl_scans.proofs.Moving.{owned_after, ready_stays}
use Rattle.kl_cursor.specs.AtHand.{NextsHeld}
use Rattle.kl_cursor.specs.Left.{Snap, fresh, ended, uses}
use Rattle.kl_cursor.specs.Sense.{Stands, HasWorth, TypesAt}
use Rattle.kl_cursor.specs.Steps.{Nexts}
use Rattle.kl_cursor.specs.declared.cursor.Draw.{Draw}
use Rattle.kl_cursor.specs.declared.cursor.Draw.TheVariants as draw
use Rattle.calls_plans.proofs.Reading.{owned_nothing}

pub fresh_owned : (p : Node) (s : Snap) (w : Running) → s ≡ fresh p → Owned (uses s) w
fresh_owned p s w is = subst (λ t. Owned (uses t) w) (sym is) (owned_nothing w)

pub fresh_stands : (p : Node) (s : Snap) (env : List Value) (w : Running) → s ≡ fresh p → env ≡ [] → TypesAt w [] p (coll kind.List int) → IsReadyRun w → Stands w s (reverse env)
fresh_stands p s env w is none typed ready =
    subst (λ t. Stands w t (reverse env)) (sym is) ([], kind.List, int, subst (λ vs. HaveTypes [] (reverse vs)) (sym none) tt, typed, ready)

pub plan_worth : (p : Node) (env : List Value) (w : Running) → env ≡ [] → TypesAt w [] p (coll kind.List int) → IsReadyRun w → HasWorth w p (reverse env)
plan_worth p env w none typed ready = ([], coll kind.List int, subst (λ vs. HaveTypes [] (reverse vs)) (sym none) tt, typed, ready)

module _ (env : List Value) (s : Snap) (a b : Running) where
  pub next_owned : (r : Result (Option Value) EvalStop) (t : Snap) → Nexts env s r t a b → Owned (uses s) a → Owned (uses t) b
  next_owned (Ok (Some v)) t n o = owned_after (uses s) (uses t) a b o n.moves
  next_owned (Ok None) t n o = subst (λ x. Owned (uses x) b) (sym n.1) (owned_nothing b)
  next_owned (Err e) t n o = subst (λ x. Owned (uses x) b) (sym n.1) (owned_nothing b)

  ends : (t : Snap) → t ≡ ended → IsReadyRun b → Stands a s env → Stands b t env
  ends t is ready h = subst (λ x. Stands b x env) (sym is) (h.0, h.1, h.2, h.3, tt, ready)

  next_stands : (r : Result (Option Value) EvalStop) (t : Snap) → Nexts env s r t a b → Stands a s env → Stands b t env
  next_stands (Ok (Some v)) t n h = (h.0, h.1, h.2, h.3, (n.typed h.0 h.1 h.2 h.3 h.4).1, ready_stays (uses s) (uses t) a b n.moves h.5)
  next_stands (Ok None) t n h = ends t n.1 (ready_stays (uses s) (uses ended) a b n.0.moves h.5) h
  next_stands (Err e) t n h = ends t n.1 (ready_stays (uses s) (uses ended) a b n.0.moves h.5) h

  -- and where nothing is read on
  pub held_owned : (r : Result Draw EvalStop) (t : Snap) → NextsHeld env s r t a b → Owned (uses s) a → Owned (uses t) b
  held_owned (Ok (draw.Item v)) t n o = owned_after (uses s) (uses t) a b o n.moves
  held_owned (Ok draw.End) t n o = subst (λ x. Owned (uses x) b) (sym n.1) (owned_nothing b)
  held_owned (Ok draw.NeedsPull) t n o = owned_after (uses s) (uses t) a b o n.moves
  held_owned (Err e) t n o = subst (λ x. Owned (uses x) b) (sym n.1) (owned_nothing b)

  held_stands : (r : Result Draw EvalStop) (t : Snap) → NextsHeld env s r t a b → Stands a s env → Stands b t env
  held_stands (Ok (draw.Item v)) t n h = (h.0, h.1, h.2, h.3, (n.typed h.0 h.1 h.2 h.3 h.4).1, ready_stays (uses s) (uses t) a b n.moves h.5)
  held_stands (Ok draw.End) t n h = ends t n.1 (ready_stays (uses s) (uses ended) a b n.0.moves h.5) h
  held_stands (Ok draw.NeedsPull) t n h = (h.0, h.1, h.2, h.3, n.typed h.0 h.1 h.2 h.3 h.4, ready_stays (uses s) (uses t) a b n.moves h.5)
  held_stands (Err e) t n h = ends t n.1 (ready_stays (uses s) (uses ended) a b n.0.moves h.5) h

pub drawn_held_stands : (env env' : List Value) (s t : Snap) (a b : Running) (r : Result Draw EvalStop) → NextsHeld (reverse env) s r t a b → env' ≡ env → Stands a s (reverse env) → Stands b t (reverse env')
drawn_held_stands env env' s t a b r n same h = subst (λ e. Stands b t (reverse e)) (sym same) (held_stands (reverse env) s a b r t n h)

pub drawn_stands : (env env' : List Value) (s t : Snap) (a b : Running) (r : Result (Option Value) EvalStop) → Nexts (reverse env) s r t a b → env' ≡ env → Stands a s (reverse env) → Stands b t (reverse env')
drawn_stands env env' s t a b r n same h = subst (λ e. Stands b t (reverse e)) (sym same) (next_stands (reverse env) s a b r t n h)
