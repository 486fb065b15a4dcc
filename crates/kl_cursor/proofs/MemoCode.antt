-- Memos, from what the code has.
use Rattle.std.proofs.Common.{◌≡◌, ℕ, ◌+◌, ◌≤◌, Bool, true, false, List, Result, Ok, Err, refl, sym, ap, subst, ◌∙◌, arith, IfOk, OnErr}
use Rattle.std.specs.List.{Contains}
use Rattle.kl_value.specs.Views.{IsCollection}
use Rattle.kl_value.specs.declared.Value.{Value}
use Rattle.kl_outcome.specs.Outcome.{done}
use Rattle.kl_eval.specs.Steps.{AnswersOutcome, inside_of}
use Rattle.kl_eval.specs.declared.stop.EvalStop.{EvalStop}
use Rattle.kl_eval.specs.declared.stop.EvalStop.TheVariants as why
use Rattle.kl_eval.specs.declared.stop.Halt.{Halt}
use Rattle.kl_eval.specs.declared.stop.Halt.TheVariants as halt
use Rattle.kl_lookups.specs.Lookups.{has}
use Rattle.kl_plan.specs.declared.plan.Plan.{Plan}
use Rattle.kl_plan.specs.declared.plan.Plan.TheVariants as plans
use Rattle.kl_plan.specs.Nodes as node
use Rattle.kl_plan.specs.Nodes.{Node, view}
use Rattle.kl_plan.specs.Subqueries.{Subquery, values_at}
use Rattle.kl_plan.proofs.Views.{view_Memo}
use Rattle.kl_scans.specs.Over.{Recalls, MayKeep, Keeps}
use Rattle.kl_scans.specs.Running.{Running}
use Rattle.kl_scans.specs.Same.{same_subquery}
use Rattle.kl_scans.proofs.Moving.{moves_none}
use Rattle.kl_scans.specs.Held.{nothing}
use Rattle.kl_cursor.specs.declared.state.State.{State}
use Rattle.kl_cursor.specs.Gathering.{Gathered}
use Rattle.kl_cursor.specs.Laziness.{BeginsLazily}
use Rattle.kl_cursor.specs.Left.{fresh, snap}
use Rattle.kl_cursor.specs.Measure.{tall}
use Rattle.kl_cursor.specs.Memos.{IsMemo, KeepsSame, KeepsCopy, Misses, Fills}
use Rattle.kl_cursor.specs.Sense.{HasWorth, HasItems}
use Rattle.kl_cursor.specs.Steps.{ComesTo, Wholly, Emits, AddsWhole}
use Rattle.kl_cursor.proofs.Comings.{answers, whole_as, worth_as}
use Rattle.kl_cursor.proofs.EmitCode.{emit_whole}
use Rattle.kl_cursor.proofs.KeptSame.{keeps_same}
use Rattle.kl_cursor.proofs.LazyCode.{other_spares}
use Rattle.kl_cursor.proofs.Recalling.{memo_comes_one, memo_sense, hit_comes, hit_keeps, may_keep, miss_comes, miss_lost, part_leaves, part_stopped, stopped_leaves}
use Rattle.kl_cursor.proofs.Whole.{ComesOne, items_worth, whole_collection}

-- ---- the plan of a memo

module _ (t : Plan) (n : ℕ) (frees gs : List ℕ) (p q : Plan) (et : t ≡ plans.Memo n frees p) (eg : gs ≡ frees) (eq : q ≡ p) where
  pub at_Memo : view t ≡ node.Memo n gs (view q)
  at_Memo = ap view et ∙ view_Memo n frees p ∙ ap (λ z. node.Memo n z (view p)) (sym eg) ∙ ap (λ z. node.Memo n gs (view z)) (sym eq)

  pub code_memo_sense : (env : List Value) (w : Running) → HasWorth w (view t) env → HasWorth w (node.Memo n gs (view q)) env
  code_memo_sense env w h = worth_as env (view t) (node.Memo n gs (view q)) w at_Memo h

  pub code_memo : (env : List Value) (r : Result Value Halt) (w x : Running) → Wholly env (node.Memo n gs (view q)) r w x → Wholly env (view t) r w x
  code_memo env r w x h = whole_as env (view t) (node.Memo n gs (view q)) r w x at_Memo h

  pub code_memo_items : (env : List Value) (w : Running) → HasItems w (view t) env → HasItems w (node.Memo n gs (view q)) env
  code_memo_items env w h = subst (λ z. HasItems w z env) at_Memo h

  pub code_emit_memo : (env : List Value) (r : Result (Unit {0}) EvalStop) (old new : Gathered) (w x : Running) → Emits env (fresh (node.Memo n gs (view q))) r old new w x → Emits env (fresh (view t)) r old new w x
  code_emit_memo env r old new w x h = subst (λ z. Emits env (fresh z) r old new w x) (sym at_Memo) h

  pub memo_low : 1 + tall (view q) ≤ tall (view t)
  memo_low = let e : tall (view t) ≡ 1 + tall (view q) = ap tall at_Memo in omega arith

pub memo_whole_form : (t : Plan) (n : ℕ) (frees : List ℕ) (p : Plan) → t ≡ plans.Memo n frees p → ComesOne (view t)
memo_whole_form t n frees p e = subst ComesOne (sym (ap view e ∙ view_Memo n frees p)) (memo_comes_one n frees (view p))

-- what a memo becomes as it begins was drawn lazily by nobody
pub memo_begins_lazily : (t : Plan) (n : ℕ) (frees : List ℕ) (p : Plan) → t ≡ plans.Memo n frees p → (env : List Value) (r : Result State EvalStop) (a b : Running) → BeginsLazily env (fresh (view t)) r a b
memo_begins_lazily t n frees p e env (Ok s) a b = other_spares env (view t) (node.Memo n frees (view p)) (snap s) a b (ap view e ∙ view_Memo n frees p) refl
memo_begins_lazily t n frees p e env (Err z) a b = tt

-- another plan is none
pub no_memo : (t p : Plan) (x : Node) (P : Type 0) → t ≡ p → view p ≡ x → (IsMemo x → ⊥) → IsMemo (view t) → P
no_memo t p x P e f none h = absurd (none (subst IsMemo (ap view e ∙ f) h))

-- ---- stops

-- what holds in any case
any_stop : (r : Result Value Halt) (P : Type 0) → P → OnErr r P
any_stop (Ok v) P h = tt
any_stop (Err e) P h = h

on_stop : (r : Result Value Halt) (P Q : Type 0) → (P → Q) → OnErr r P → OnErr r Q
on_stop (Ok v) P Q f h = tt
on_stop (Err e) P Q f h = f h

pub stop_inside : (r : Result Value Halt) (q : Result Value EvalStop) (P : Type 0) → q ≡ inside_of r → OnErr r P → OnErr q P
stop_inside r q P e h = subst (λ z. OnErr z P) (sym e) (go r h)
  where
    go : (r : Result Value Halt) → OnErr r P → OnErr (inside_of r) P
    go (Ok v) h = tt
    go (Err (halt.Over vs)) h = h
    go (Err (halt.Driver l f)) h = h
    go (Err halt.NoMemory) h = h

-- ---- a look-up

-- a fact on the key that was made, at the number and the values
at_key : (P : Subquery → Type 0) (k l : Subquery) → k ≡ l → P k → P l
at_key P k l e h = subst P e h

pub found_there : (k : Subquery) (b : Bool) (w x : Running) → Recalls k b w x → b ≡ true → has same_subquery k x.kept ≡ true
found_there k b w x r is = (subst (λ z. Recalls k z w x) is r).0

module _ (env : List Value) (n : ℕ) (frees : List ℕ) (p : Node) (k : Subquery) (b : Bool) (w x : Running) (e : k ≡ (n, values_at env frees)) (r : Recalls k b w x) where
  pub found_comes : (v : Value) → b ≡ true → HasWorth w (node.Memo n frees p) env → Contains x.kept (k, v) → ComesTo env (node.Memo n frees p) (done v) w x
  found_comes v is h c =
      hit_comes env n frees p w x h v (at_key (λ z. Recalls z true w x) k (n, values_at env frees) e (subst (λ z. Recalls k z w x) is r))
      (at_key (λ z. Contains x.kept (z, v)) k (n, values_at env frees) e c)

  pub found_whole : (v : Value) (q : Result Value Halt) → b ≡ true → HasWorth w (node.Memo n frees p) env → Contains x.kept (k, v) → AnswersOutcome (done v) q → Wholly env (node.Memo n frees p) q w x
  found_whole v q is h c a = answers env (node.Memo n frees p) w x (done v) q (found_comes v is h c) a

  pub found_collection : (v : Value) → b ≡ true → HasItems w (node.Memo n frees p) env → Contains x.kept (k, v) → IsCollection v
  found_collection v is h c = whole_collection env (node.Memo n frees p) (Ok v) w x h (found_comes v is (items_worth env (node.Memo n frees p) w h) c)

  pub found_emits : (v : Value) (z : Result (Unit {0}) EvalStop) (old new : Gathered) → b ≡ true → HasItems w (node.Memo n frees p) env → Contains x.kept (k, v) → AddsWhole (Ok v) z old new → Emits env (fresh (node.Memo n frees p)) z old new w x
  found_emits v z old new is h c a = emit_whole env (node.Memo n frees p) (Ok v) z old new w x (memo_comes_one n frees p) (found_comes v is (items_worth env (node.Memo n frees p) w h) c) a

  pub found_keeps : (q : Result Value Halt) → b ≡ true → HasWorth w (node.Memo n frees p) env → OnErr q (KeepsSame w x)
  found_keeps q is h = any_stop q (KeepsSame w x) (hit_keeps env n frees p w x h (at_key (λ z. Recalls z true w x) k (n, values_at env frees) e (subst (λ z. Recalls k z w x) is r)))

  -- nothing was found, and nothing changed
  unfound : b ≡ false → (has same_subquery k w.kept ≡ false) × (x ≡ w)
  unfound is = subst (λ z. Recalls k z w x) is r

  at_number : HasWorth w (node.Memo n frees p) env → HasWorth w (node.Memo k.0 frees p) env
  at_number h = subst (λ m. HasWorth w (node.Memo m frees p) env) (sym (ap (λ z. z.0) e)) h

  pub unfound_misses : b ≡ false → HasWorth w (node.Memo n frees p) env → Misses x env k frees p
  unfound_misses is h = let u = unfound is in subst (λ z. Misses z env k frees p) (sym u.1) (at_number h, ap (λ z. z.1) e, u.0)

  pub unfound_whole : (q : Result Value Halt) (y : Running) → b ≡ false → HasWorth w (node.Memo n frees p) env → Fills env k p q x y → Wholly env (node.Memo n frees p) q w y
  unfound_whole q y is h f =
      let u = unfound is in
      subst (λ m. Wholly env (node.Memo m frees p) q w y) (ap (λ z. z.0) e) (subst (λ z. Wholly env (node.Memo k.0 frees p) q z y) u.1 (f frees (unfound_misses is h)))

  pub unfound_keeps : (q : Result Value Halt) (y : Running) → b ≡ false → HasWorth w (node.Memo n frees p) env → OnErr q (y.kept ≡ x.kept) → OnErr q (KeepsSame w y)
  unfound_keeps q y is h f = on_stop q (y.kept ≡ x.kept) (KeepsSame w y) (λ same. keeps_same w y (same ∙ ap (λ (z : Running). z.kept) (unfound is).1)) f

  pub unfound_collection : (q : Result Value Halt) (y : Running) → b ≡ false → HasItems w (node.Memo n frees p) env → Fills env k p q x y → IfOk q IsCollection
  unfound_collection q y is h f = whole_collection env (node.Memo n frees p) q w y h (unfound_whole q y is (items_worth env (node.Memo n frees p) w h) f)

  pub unfound_emits : (q : Result Value Halt) (z : Result (Unit {0}) EvalStop) (old new : Gathered) (y : Running) → b ≡ false → HasItems w (node.Memo n frees p) env → Fills env k p q x y → AddsWhole q z old new → Emits env (fresh (node.Memo n frees p)) z old new w y
  unfound_emits q z old new y is h f a = emit_whole env (node.Memo n frees p) q z old new w y (memo_comes_one n frees p) (unfound_whole q y is (items_worth env (node.Memo n frees p) w h) f) a

-- without room for a key nothing is done
pub lost_keeps : (w : Running) → KeepsSame w w
lost_keeps w = keeps_same w w refl

pub memo_lost : (env : List Value) (p : Node) (w : Running) → Wholly env p (Err halt.NoMemory) w w
memo_lost env p w = record { moves = moves_none nothing w; known = λ all i. tt; reason = tt }

pub emit_lost : (env : List Value) (p : Node) (old new : Gathered) (w : Running) → Emits env (fresh p) (Err why.NoMemory) old new w w
emit_lost env p old new w = record { moves = moves_none nothing w; known = λ all i. tt; reason = tt }

-- ---- what is kept

-- a copy is kept as what it was made of
pub copy_may : (k : Subquery) (v u : Value) (w : Running) → u ≡ v → MayKeep k v w → MayKeep k u w
copy_may k v u w e h = subst (λ z. MayKeep k z w) (sym e) h

pub copy_kept : (k : Subquery) (v u : Value) (w x : Running) (i : Unit {0}) → u ≡ v → Keeps k u (Ok i) w x → KeepsCopy k v (Ok v) w x
copy_kept k v u w x i e h = (refl, subst (λ z. Keeps k z (Ok i) w x) e h)

pub part_ready : (env : List Value) (k : Subquery) (p : Node) (w : Running) (frees : List ℕ) → Misses w env k frees p → HasWorth w p env
part_ready env k p w frees m = memo_sense env k.0 frees p w m.0

module _ (env : List Value) (k : Subquery) (p : Node) (w x : Running) where
  pub part_may_keep : (frees : List ℕ) (v : Value) → Misses w env k frees p → ComesTo env p (done v) w x → MayKeep k v x
  part_may_keep frees v m h =
      let e : k ≡ (k.0, values_at env frees) = ap (λ z. (k.0, z)) m.1 in
      at_key (λ z. MayKeep z v x) (k.0, values_at env frees) k (sym e) (may_keep env k.0 frees p w x v m.0 h (at_key (λ z. has same_subquery z w.kept ≡ false) k (k.0, values_at env frees) e m.2))

  pub part_fills : (v : Value) (r : Result Value Halt) (y : Running) → ComesTo env p (done v) w x → KeepsCopy k v r x y → Fills env k p r w y
  part_fills v (Ok u) y h c frees m =
      let e : k ≡ (k.0, values_at env frees) = ap (λ z. (k.0, z)) m.1 in
      subst (λ z. ComesTo env (node.Memo k.0 frees p) (done z) w y) (sym c.0) (miss_comes env k.0 frees p w x v m.0 h y (at_key (λ z. Keeps z v (Ok tt) x y) k (k.0, values_at env frees) e c.1))
  part_fills v (Err halt.NoMemory) y h c frees m = subst (λ z. Wholly env (node.Memo k.0 frees p) (Err halt.NoMemory) w z) (sym c) (miss_lost env k.0 frees p w x v m.0 h)
  part_fills v (Err (halt.Over vs)) y h c frees m = absurd c
  part_fills v (Err (halt.Driver l f)) y h c frees m = absurd c

  -- what is kept stays where no copy could be made, and where the part stopped
  pub copy_leaves : (frees : List ℕ) (v : Value) (r : Result Value Halt) (y : Running) → Misses w env k frees p → ComesTo env p (done v) w x → KeepsCopy k v r x y → OnErr r (y.kept ≡ w.kept)
  copy_leaves frees v (Ok u) y m h c = tt
  copy_leaves frees v (Err halt.NoMemory) y m h c = ap (λ (z : Running). z.kept) c ∙ part_leaves env k.0 frees p w x m.0 h.moves h.known
  copy_leaves frees v (Err (halt.Over vs)) y m h c = absurd c
  copy_leaves frees v (Err (halt.Driver l f)) y m h c = absurd c

  pub stop_leaves : (frees : List ℕ) (e : Halt) → Misses w env k frees p → Wholly env p (Err e) w x → x.kept ≡ w.kept
  stop_leaves frees e m h = stopped_leaves env k.0 frees p w x m.0 e h

  pub part_fails : (e : Halt) → Wholly env p (Err e) w x → Fills env k p (Err e) w x
  part_fails e h frees m = part_stopped env k.0 frees p w x e h
