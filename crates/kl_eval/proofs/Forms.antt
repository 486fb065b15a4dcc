-- Each form of a term, from its parts.
use Rattle.std.proofs.Common.{◌≡◌, ℕ, ◌<◌, ◌≤◌, ◌+◌, ◌⊎◌, ⊎_elim, Bool, true, false, zero, suc, cond, nat_eq, List, [], ◌∷◌, ◌++◌, map, length, drop, get_or, Option, Result, Vec, Some, None, Ok, Err, IsSome, All, refl, sym, ◌∙◌, ap, subst, append_assoc, append-nil, arith, slice_get, IfOk, IfSome}
use Rattle.std.specs.Cmp.Lexicographic.{pointwise, same_text}
use Rattle.std.proofs.lemmas.Cmp.{nat_list_eq_equiv}
use Rattle.std.specs.List.{AllByRecursion}
use Rattle.std.specs.Option.{option_map}
use Rattle.std.specs.declared.alloc.Global.{Global}
use Rattle.std.proofs.lemmas.List.{at_drop_more}
use Rattle.std.proofs.lemmas.Grind.{common_steps}
use Rattle.std.proofs.Math.Path.{fun_ext}
use Rattle.std.proofs.lemmas.Option.{slice_get_read, same_Some}
use Rattle.std.proofs.lemmas.List.Elements.{All-from_recursion}
use Rattle.kl_value.specs.Canon.{canonical}
use Rattle.kl_value.specs.IsCanonical.{IsCanonical}
use Rattle.kl_value.specs.Views.{as_bool, as_collection, collection, field_at, IsCollection, IsBool}
use Rattle.kl_value.proofs.ViewLemmas.{collection_is}
use Rattle.kl_value.specs.declared.Kind.{Kind}
use Rattle.kl_value.specs.declared.Value.{Value}
use Rattle.kl_value.specs.declared.Value.TheVariants as value
use Rattle.kl_type.specs.Ground.{Ground, Row, at, bool, rec as rec_type, var as var_type, coll}
use Rattle.kl_prim.specs.Meaning.{Answer, gives}
use Rattle.kl_prim.specs.Table.{Fits, meaning, row_at, Row as Primitive}
use Rattle.kl_outcome.specs.Outcome.{Name, Outcome, done, over, End, Flow, more, stop, fine, overflow, flow, outcome_of, answered, as_variant, items_of, items_at_all, followed, kept, gathered, collected, joined_to, union_of}
use Rattle.kl_outcome.specs.Typed.{Inhabits, HaveTypes, OfType, RowTypes, PrimTypes}
use Rattle.kl_core.specs.declared.term.Term.{Term}
use Rattle.kl_core.specs.declared.term.Term.TheVariants as term
use Rattle.kl_core.specs.Core.{Tables}
use Rattle.kl_core.specs.Trees.{Tree, Source, Rec, Proj, Inj, Case, Make, Union, Ext, If, Let, Prim, Trees, no_trees, trees, Parts, parts, Arms, arms_of, rest_of, view, view_part, trees_view, parts_view}
use Rattle.kl_core.specs.Typing.{SourceTypes, CoreTypes, EachType, AllTypes, PartTypes, ArmTypes, HasArm, Covers}
use Rattle.kl_core.proofs.Views.{view_Var, view_Source, view_Rec, view_Proj, view_Inj, view_Make, view_Union, view_Ext, view_If, view_Let, view_Prim, view_option, arms_view, view_Case}
use Rattle.kl_outcome.proofs.OutcomeTypes.{part_typed, part_is, variant_is, items_inhabit, FlowOf, items_typed}
use Rattle.kl_outcome.proofs.Flows.{collected_flow}
use Rattle.kl_eval.specs.declared.stop.EvalStop.{EvalStop}
use Rattle.kl_eval.specs.declared.stop.EvalStop.TheVariants as eval_stop
use Rattle.kl_eval.specs.declared.stop.Halt.{Halt}
use Rattle.kl_eval.specs.declared.stop.Halt.TheVariants as halt
use Rattle.kl_ask.specs.World.{World, IsReady, Moved, types_of, values_of}
use Rattle.kl_ask.proofs.Worlds.{moved_none, moved_then, types_stay, values_stay, ready_on}
use Rattle.kl_ask.specs.declared.DriverError.{DriverError}
use Rattle.kl_eval.specs.Sources.{NoSource, NoSourceInTrees, NoSourceInParts, NoSourceInArms}
use Rattle.kl_eval.specs.World.{Tabled}
use Rattle.kl_eval.proofs.Stops.{stopped_then}
use Rattle.kl_eval.specs.Comes.{Picks, OpensVariant, FollowsFlow, Draws, Comes, ItemsCome, ArgsCome, PartsCome, ArmsCome}
use Rattle.kl_eval.specs.Evals.{Sense, SenseIn, SenseEach, SenseParts, SenseCall, SenseBody, HasSense, ResultGives, PartGives, CallGives, FlowGives, Evals, EvalsPart, EvalsEach, EvalsBody, EvalsFields, EvalsCall, end_of}
use Rattle.kl_eval.proofs.Loops.{before, OnEach, OnBody, OnFields}
use Rattle.kl_eval.specs.Steps.{AnswersOutcome, inside_of, Outside, AppendsAll, AddsItems, AddsField, Behind, Gathers, AnswersPrim, place_of, TellsTruth, Finishes, JoinsItems, Joins}
use Rattle.kl_eval.proofs.Laws.{comes_typed}
use Rattle.kl_outcome.proofs.PrimLemmas.{prim_fits, all_canonical, one_or_two}

-- ---- worlds

pub back : (P : SourceTypes → Tables → Type 0) (a b : World) → Moved a b → P (types_of b) (values_of b) → P (types_of a) (values_of a)
back P a b m h = subst (λ T. P (types_of a) T) (values_stay a b m) (subst (λ S. P S (values_of b)) (types_stay a b m) h)

pub onto : (P : SourceTypes → Type 0) (a b : World) → Moved a b → P (types_of a) → P (types_of b)
onto P a b m h = subst P (sym (types_stay a b m)) h

-- what makes sense still does
pub sense_on : (t : Tree) (env : List Value) (a b : World) → Moved a b → Sense t env a → Sense t env b
sense_on t env a b m s = (s.0, s.1, s.2, onto (λ S. CoreTypes S s.0 t s.1) a b m s.3, ready_on a b m s.4)

-- ---- results

module _ (P Q : Outcome → Type 0) (a b : World) where
  pub gives_map : (r : Result Value Halt) → ((o : Outcome) → P o → Q o) → ResultGives P a b r → ResultGives Q a b r
  gives_map (Ok v) f h = f (done v) h
  gives_map (Err (halt.Over vs)) f h = f (over vs.items) h
  gives_map (Err (halt.Driver l e)) f h = h
  gives_map (Err halt.NoMemory) f h = tt

  pub part_map : (r : Result Value EvalStop) → ((o : Outcome) → P o → Q o) → PartGives P a b r → PartGives Q a b r
  part_map (Ok v) f h = f (done v) h
  part_map (Err eval_stop.Overflow) f h = (h.0, f (over h.0) h.1)
  part_map (Err (eval_stop.Driver l e)) f h = h
  part_map (Err eval_stop.NoMemory) f h = tt

  pub gives_stop : (e : EvalStop) (h : Halt) → PartGives P a b (Err e) → Outside e h → ((vs : List Value) → P (over vs) → Q (over [])) → ResultGives Q a b (Err h)
  gives_stop eval_stop.Overflow (halt.Over ws) p o f = subst (λ q. Q (over q)) (sym o) (f p.0 p.1)
  gives_stop eval_stop.Overflow (halt.Driver l e) p o f = absurd o
  gives_stop eval_stop.Overflow halt.NoMemory p o f = absurd o
  gives_stop (eval_stop.Driver l e) h p o f = subst (λ q. ResultGives Q a b (Err q)) (sym o) p
  gives_stop eval_stop.NoMemory (halt.Over ws) p o f = absurd o
  gives_stop eval_stop.NoMemory (halt.Driver l e) p o f = absurd o
  gives_stop eval_stop.NoMemory halt.NoMemory p o f = tt

module _ (P : Outcome → Type 0) (a b : World) where
  pub gives_made : (v : Value) (r : Result Value Halt) → P (done v) → AnswersOutcome (done v) r → ResultGives P a b r
  gives_made v (Ok w) h k = subst (λ q. P (done q)) (sym k) h
  gives_made v (Err (halt.Over ws)) h k = absurd k
  gives_made v (Err (halt.Driver l e)) h k = absurd k
  gives_made v (Err halt.NoMemory) h k = tt

  pub gives_over : (vs : List Value) (r : Result Value Halt) → P (over vs) → AnswersOutcome (over vs) r → ResultGives P a b r
  gives_over vs (Ok w) h k = absurd k
  gives_over vs (Err (halt.Over ws)) h k = subst (λ q. P (over q)) (sym k) h
  gives_over vs (Err (halt.Driver l e)) h k = absurd k
  gives_over vs (Err halt.NoMemory) h k = tt

  pub gives_inside : (r : Result Value Halt) (q : Result Value EvalStop) → q ≡ inside_of r → ResultGives P a b r → PartGives P a b q
  gives_inside r q e h = subst (PartGives P a b) (sym e) (go r h)
    where
      go : (r : Result Value Halt) → ResultGives P a b r → PartGives P a b (inside_of r)
      go (Ok v) h = h
      go (Err (halt.Over vs)) h = (vs.items, h)
      go (Err (halt.Driver l e)) h = h
      go (Err halt.NoMemory) h = tt

-- a later result, seen from before
module _ (a b c : World) (m : Moved a b) where
  pub gives_from : (P : Outcome → Type 0) (r : Result Value Halt) → ResultGives P b c r → ResultGives P a c r
  gives_from P (Ok v) h = h
  gives_from P (Err (halt.Over vs)) h = h
  gives_from P (Err (halt.Driver l e)) h = stopped_then l e a b c m h
  gives_from P (Err halt.NoMemory) h = tt

  pub part_from : (P : Outcome → Type 0) (r : Result Value EvalStop) → PartGives P b c r → PartGives P a c r
  part_from P (Ok v) h = h
  part_from P (Err eval_stop.Overflow) h = h
  part_from P (Err (eval_stop.Driver l e)) h = stopped_then l e a b c m h
  part_from P (Err eval_stop.NoMemory) h = tt

  pub flow_from : (P : Flow → Type 0) (r : Result (Vec Value Global) Halt) → FlowGives P b c r → FlowGives P a c r
  flow_from P (Ok vs) h = h
  flow_from P (Err (halt.Over vs)) h = h
  flow_from P (Err (halt.Driver l e)) h = stopped_then l e a b c m h
  flow_from P (Err halt.NoMemory) h = tt

pub evals_part : (t : Tree) (env : List Value) (r : Result Value Halt) (q : Result Value EvalStop) (a b : World) → Evals t env r a b → q ≡ inside_of r → EvalsPart t env q a b
evals_part t env r q a b h e = record { moved = h.moved; still = h.still; gives = gives_inside (Comes (types_of a) (values_of a) env t) a b r q e h.gives }

-- a part, and then a term
module _ (t x t' : Tree) (env env' : List Value) (v : Value) where
  abbrev Step : Type 0
  Step = (S : SourceTypes) (T : Tables) (o : Outcome) → Comes S T env x (done v) → Comes S T env' t' o → Comes S T env t o

  evals_then : (r : Result Value Halt) (a b c : World) → EvalsPart x env (Ok v) a b → Evals t' env' r b c → Step → (NoSource t → NoSource x × NoSource t') → Evals t env r a c
  evals_then r a b c h k f none = record {
    moved = moved_then a b c h.moved k.moved;
    still = λ n. k.still (none n).1 ∙ h.still (none n).0;
    gives = gives_map (Comes (types_of a) (values_of a) env' t') (Comes (types_of a) (values_of a) env t) a c r (λ o d. f (types_of a) (values_of a) o h.gives d)
        (gives_from a b c h.moved (Comes (types_of a) (values_of a) env' t') r (back (λ S T. ResultGives (Comes S T env' t') b c r) a b h.moved k.gives));
  }

  part_then : (r : Result Value EvalStop) (a b c : World) → EvalsPart x env (Ok v) a b → EvalsPart t' env' r b c → Step → (NoSource t → NoSource x × NoSource t') → EvalsPart t env r a c
  part_then r a b c h k f none = record {
    moved = moved_then a b c h.moved k.moved;
    still = λ n. k.still (none n).1 ∙ h.still (none n).0;
    gives = part_map (Comes (types_of a) (values_of a) env' t') (Comes (types_of a) (values_of a) env t) a c r (λ o d. f (types_of a) (values_of a) o h.gives d)
        (part_from a b c h.moved (Comes (types_of a) (values_of a) env' t') r (back (λ S T. PartGives (Comes S T env' t') b c r) a b h.moved k.gives));
  }

evals_made : (t x : Tree) (env : List Value) (v u : Value) (r : Result Value Halt) (a b : World) → EvalsPart x env (Ok v) a b → AnswersOutcome (done u) r → ((S : SourceTypes) (T : Tables) → Comes S T env x (done v) → Comes S T env t (done u)) → (NoSource t → NoSource x) → Evals t env r a b
evals_made t x env v u r a b h k f none = record { moved = h.moved; still = λ n. h.still (none n); gives = gives_made (Comes (types_of a) (values_of a) env t) a b u r (f (types_of a) (values_of a) h.gives) k }

pub evals_stop : (t x : Tree) (env : List Value) (e : EvalStop) (h : Halt) (a b : World) → EvalsPart x env (Err e) a b → Outside e h → ((S : SourceTypes) (T : Tables) (vs : List Value) → Comes S T env x (over vs) → Comes S T env t (over [])) → (NoSource t → NoSource x) → Evals t env (Err h) a b
evals_stop t x env e h a b p o f none = record { moved = p.moved; still = λ n. p.still (none n); gives = gives_stop (Comes (types_of a) (values_of a) env x) (Comes (types_of a) (values_of a) env t) a b e h p.gives o (f (types_of a) (values_of a)) }

part_stop : (t x : Tree) (env : List Value) (e : EvalStop) (a b : World) → EvalsPart x env (Err e) a b → ((S : SourceTypes) (T : Tables) (vs : List Value) → Comes S T env x (over vs) → Comes S T env t (over [])) → (NoSource t → NoSource x) → EvalsPart t env (Err e) a b
part_stop t x env e a b h f none = record { moved = h.moved; still = λ n. h.still (none n); gives = go e h.gives }
  where
    go : (e : EvalStop) → PartGives (Comes (types_of a) (values_of a) env x) a b (Err e) → PartGives (Comes (types_of a) (values_of a) env t) a b (Err e)
    go eval_stop.Overflow k = ([], f (types_of a) (values_of a) k.0 k.1)
    go (eval_stop.Driver l e) k = k
    go eval_stop.NoMemory k = tt

-- ---- what is lent

pub evals_lent : (t : Tree) (env : List Value) (v : Value) (a : World) → ((S : SourceTypes) (T : Tables) → Comes S T env t (done v)) → EvalsPart t env (Ok v) a a
evals_lent t env v a f = record { moved = moved_none a; still = λ n. refl; gives = f (types_of a) (values_of a) }

pub evals_copied : (t : Tree) (env : List Value) (v : Value) (r : Result Value Halt) (a : World) → ((S : SourceTypes) (T : Tables) → Comes S T env t (done v)) → AnswersOutcome (done v) r → Evals t env r a a
evals_copied t env v r a f k = record { moved = moved_none a; still = λ n. refl; gives = gives_made (Comes (types_of a) (values_of a) env t) a a v r (f (types_of a) (values_of a)) k }

-- ---- variables, constants and sources

pub got : (G : List Ground) (env : List Value) (x : ℕ) (s : Ground) → HaveTypes G env → slice_get G x ≡ Some s → IsSome (slice_get env x)
got [] [] x s h e = cc
got [] (v ∷ env) x s h e = absurd h
got (u ∷ G) [] x s h e = absurd h
got (u ∷ G) (v ∷ env) zero s h e = refl
got (u ∷ G) (v ∷ env) (suc x) s h e = got G env x s h.1 e

pub sense_var : (t : Term) (x : ℕ) (S : SourceTypes) (env : List Value) → t ≡ term.Var x → SenseIn S (view t) env → IsSome (slice_get env x)
sense_var t x S env e s = let s' = subst (λ q. SenseIn S q env) (ap view e ∙ view_Var x) s in got s'.0 env x s'.1 s'.2 s'.3.0

pub come_var : (t : Term) (x : ℕ) (v : Value) (env : List Value) → t ≡ term.Var x → slice_get env x ≡ Some v → (S : SourceTypes) (T : Tables) → Comes S T env (view t) (done v)
come_var t x v env e g S T = subst (λ q. Comes S T env q (done v)) (sym (ap view e ∙ view_Var x)) (sym (ap outcome_of g))

pub value_var : (t : Term) (x : ℕ) (env : List Value) (v : Value) (r : Result Value Halt) (a : World) → t ≡ term.Var x → slice_get env x ≡ Some v → AnswersOutcome (done v) r → Evals (view t) env r a a
value_var t x env v r a e g k = evals_copied (view t) env v r a (come_var t x v env e g) k

-- ---- fields

module _ (S : SourceTypes) (T : Tables) (t : Term) (l m : Name) (x x' : Term) (env : List Value) (et : t ≡ term.Proj l x) (em : m ≡ l) (ex : x' ≡ x) where
  pub at_Proj : view t ≡ Proj m (view x')
  at_Proj = ap view et ∙ view_Proj l x ∙ ap (λ q. Proj l (view q)) (sym ex) ∙ ap (λ q. Proj q (view x')) (sym em)

  pub proj_sense : SenseIn S (view t) env → SenseIn S (view x') env
  proj_sense s = let s' = subst (λ q. SenseIn S q env) at_Proj s in (s'.0, rec_type s'.3.0, s'.2, s'.3.1)

  field_there : (v : Value) (s : Ground) → OfType s (outcome_of (field_at m v)) → IsSome (field_at m v)
  field_there v s h = go (field_at m v) h
    where
      go : (o : Option Value) → OfType s (outcome_of o) → IsSome o
      go (Some u) h = refl
      go None h = absurd h

  pub proj_there : (v : Value) → SenseIn S (view t) env → Comes S T env (view x') (done v) → IsSome (field_at m v)
  proj_there v s c =
      let s' = subst (λ q. SenseIn S q env) at_Proj s in
      let i : Inhabits (rec_type s'.3.0) v = comes_typed S T (view x') s'.0 env (rec_type s'.3.0) (done v) s'.2 s'.3.1 c in
      field_there v s'.1 (subst (OfType s'.1) (part_is m v) (part_typed m s'.3.0 s'.1 (done v) i s'.3.2))

  pub come_proj : (v u : Value) → field_at m v ≡ Some u → Comes S T env (view x') (done v) → Comes S T env (view t) (done u)
  come_proj v u e c = subst (λ q. Comes S T env q (done u)) (sym at_Proj) (done v, c, sym (part_is m v ∙ ap outcome_of e))

  pub come_proj_over : (vs : List Value) → Comes S T env (view x') (over vs) → Comes S T env (view t) (over [])
  come_proj_over vs c = subst (λ q. Comes S T env q (over [])) (sym at_Proj) (over vs, c, refl)

pub lent_there : (t : Term) (l m : Name) (x x' : Term) (env : List Value) (v : Value) → t ≡ term.Proj l x → m ≡ l → x' ≡ x → HasSense (view t) env → ((S : SourceTypes) (T : Tables) → Comes S T env (view x') (done v)) → IsSome (field_at m v)
lent_there t l m x x' env v et em ex s c = proj_there s.0 (λ i. None) t l m x x' env et em ex v s.1 (c s.0 (λ i. None))

pub sense_proj : (t : Term) (l : Name) (x x' : Term) (env : List Value) (a : World) → t ≡ term.Proj l x → x' ≡ x → Sense (view t) env a → Sense (view x') env a
sense_proj t l x x' env a et ex s = let p = proj_sense (types_of a) (values_of a) t l l x x' env et refl ex (s.0, s.1, s.2, s.3) in (p.0, p.1, p.2, p.3, s.4)

pub there_field : (t : Term) (l m : Name) (x x' : Term) (env : List Value) (v w : Value) (a b : World) → t ≡ term.Proj l x → m ≡ l → x' ≡ x → w ≡ v → Sense (view t) env a → EvalsPart (view x') env (Ok v) a b → IsSome (field_at m w)
there_field t l m x x' env v w a b et em ex ew s h = subst (λ q. IsSome (field_at m q)) (sym ew) (proj_there (types_of a) (values_of a) t l m x x' env et em ex v (s.0, s.1, s.2, s.3) h.gives)

pub value_proj : (t : Term) (l m : Name) (x x' : Term) (env : List Value) (v w u : Value) (r : Result Value Halt) (a b : World) → t ≡ term.Proj l x → m ≡ l → x' ≡ x → w ≡ v → field_at m w ≡ Some u → EvalsPart (view x') env (Ok v) a b → AnswersOutcome (done u) r → Evals (view t) env r a b
value_proj t l m x x' env v w u r a b et em ex ew ef h k =
    evals_made (view t) (view x') env v u r a b h k (λ S T c. come_proj S T t l m x x' env et em ex v u (ap (field_at m) (sym ew) ∙ ef) c) (subst NoSource (at_Proj (types_of a) (values_of a) t l m x x' env et em ex))

pub value_proj_stop : (t : Term) (l m : Name) (x x' : Term) (env : List Value) (e : EvalStop) (h : Halt) (a b : World) → t ≡ term.Proj l x → m ≡ l → x' ≡ x → EvalsPart (view x') env (Err e) a b → Outside e h → Evals (view t) env (Err h) a b
value_proj_stop t l m x x' env e h a b et em ex p o = evals_stop (view t) (view x') env e h a b p o (λ S T vs c. come_proj_over S T t l m x x' env et em ex vs c) (subst NoSource (at_Proj (types_of a) (values_of a) t l m x x' env et em ex))

-- ---- variants

module _ (t : Term) (l m : Name) (x x' : Term) (env : List Value) (et : t ≡ term.Inj l x) (em : m ≡ l) (ex : x' ≡ x) where
  at_Inj : view t ≡ Inj m (view x')
  at_Inj = ap view et ∙ view_Inj l x ∙ ap (λ q. Inj l (view q)) (sym ex) ∙ ap (λ q. Inj q (view x')) (sym em)

  pub sense_inj : (a : World) → Sense (view t) env a → Sense (view x') env a
  sense_inj a s = let s' = subst (λ q. Sense q env a) at_Inj s in (s'.0, s'.3.1, s'.2, s'.3.5, s'.4)

  pub value_inj : (v : Value) (r : Result Value Halt) (a b : World) → EvalsPart (view x') env (Ok v) a b → AnswersOutcome (done (value.Inj m v)) r → Evals (view t) env r a b
  value_inj v r a b h k = evals_made (view t) (view x') env v (value.Inj m v) r a b h k (λ S T c. subst (λ q. Comes S T env q (done (value.Inj m v))) (sym at_Inj) (done v, c, refl)) (subst NoSource at_Inj)

  pub value_inj_stop : (e : EvalStop) (h : Halt) (a b : World) → EvalsPart (view x') env (Err e) a b → Outside e h → Evals (view t) env (Err h) a b
  value_inj_stop e h a b p o = evals_stop (view t) (view x') env e h a b p o (λ S T vs c. subst (λ q. Comes S T env q (over [])) (sym at_Inj) (over vs, c, refl)) (subst NoSource at_Inj)

-- ---- `If`

pub over_gives : (t : Tree) (env : List Value) (f : Halt) (vs : Vec Value Global) (a b : World) → f ≡ halt.Over vs → Evals t env (Err f) a b → Comes (types_of a) (values_of a) env t (over vs.items)
over_gives t env f vs a b e h = (subst (λ q. Evals t env (Err q) a b) e h).gives

abbrev pub picked : Bool → Term → Term → Term
picked true y z = y
picked false y z = z

module _ (t x y z x' : Term) (env : List Value) (et : t ≡ term.If x y z) (ex : x' ≡ x) where
  pub at_If : view t ≡ If (view x') (view y) (view z)
  at_If = ap view et ∙ view_If x y z ∙ ap (λ q. If (view q) (view y) (view z)) (sym ex)

  pub sense_test : (a : World) → Sense (view t) env a → Sense (view x') env a
  sense_test a s = let s' = subst (λ q. Sense q env a) at_If s in (s'.0, bool, s'.2, s'.3.0, s'.4)

  pub truth_there : (v w : Value) (a b : World) → w ≡ v → Sense (view t) env a → EvalsPart (view x') env (Ok v) a b → IsBool w
  truth_there v w a b ew s h =
      let s' = subst (λ q. Sense q env a) at_If s in
      subst IsBool (sym ew) (comes_typed (types_of a) (values_of a) (view x') s'.0 env bool (done v) s'.2 s'.3.0 h.gives).0

  pub picked_typed : (bit : Bool) (S : SourceTypes) (G : List Ground) (s : Ground) → CoreTypes S G (If (view x') (view y) (view z)) s → CoreTypes S G (view (picked bit y z)) s
  picked_typed true S G s h = h.1
  picked_typed false S G s h = h.2

  pub sense_picked : (p : Term) (bit : Bool) (a b : World) → p ≡ picked bit y z → Moved a b → Sense (view t) env a → Sense (view p) env b
  sense_picked p bit a b ep m s =
      let s' = subst (λ q. Sense q env a) at_If s in
      subst (λ q. Sense (view q) env b) (sym ep) (sense_on (view (picked bit y z)) env a b m (s'.0, s'.1, s'.2, picked_typed bit (types_of a) s'.0 s'.1 s'.3, s'.4))

  picked_comes : (bit : Bool) (S : SourceTypes) (T : Tables) (o : Outcome) → Comes S T env (view (picked bit y z)) o → Picks (Some bit) (Comes S T env (view y)) (Comes S T env (view z)) o
  picked_comes true S T o h = h
  picked_comes false S T o h = h

  come_if : (v w : Value) (bit : Bool) → w ≡ v → as_bool w ≡ Some bit → (S : SourceTypes) (T : Tables) (o : Outcome) → Comes S T env (view x') (done v) → Comes S T env (view (picked bit y z)) o → Comes S T env (view t) o
  come_if v w bit ew eb S T o d e = subst (λ q. Comes S T env q o) (sym at_If) (done v, d, subst (λ q. Picks q (Comes S T env (view y)) (Comes S T env (view z)) o) (sym (ap as_bool (sym ew) ∙ eb)) (picked_comes bit S T o e))

  come_if_over : (S : SourceTypes) (T : Tables) (vs : List Value) → Comes S T env (view x') (over vs) → Comes S T env (view t) (over [])
  come_if_over S T vs c = subst (λ q. Comes S T env q (over [])) (sym at_If) (over vs, c, refl)

  none_if : (bit : Bool) → NoSource (view t) → NoSource (view x') × NoSource (view (picked bit y z))
  none_if true n = let m = subst NoSource at_If n in (m.0, m.1)
  none_if false n = let m = subst NoSource at_If n in (m.0, m.2)

  pub value_if : (p : Term) (v w : Value) (bit : Bool) (r : Result Value Halt) (a b c : World) → p ≡ picked bit y z → w ≡ v → as_bool w ≡ Some bit → EvalsPart (view x') env (Ok v) a b → Evals (view p) env r b c → Evals (view t) env r a c
  value_if p v w bit r a b c ep ew eb h k = evals_then (view t) (view x') (view (picked bit y z)) env env v r a b c h (subst (λ q. Evals (view q) env r b c) ep k) (come_if v w bit ew eb) (none_if bit)

  pub value_if_stop : (e : EvalStop) (h : Halt) (a b : World) → EvalsPart (view x') env (Err e) a b → Outside e h → Evals (view t) env (Err h) a b
  value_if_stop e h a b p o = evals_stop (view t) (view x') env e h a b p o come_if_over (λ n. (subst NoSource at_If n).0)

  -- the test, as it is told
  pub test_told : (q : Result Value EvalStop) (a b : World) → Sense (view t) env a → EvalsPart (view x') env q a b → IfOk q IsBool
  test_told (Ok v) a b s h = truth_there v v a b refl s h
  test_told (Err e) a b s h = tt

  pub value_tested : (p : Term) (bit told : Bool) (q : Result Value EvalStop) (r : Result Value Halt) (a b c : World) → p ≡ picked bit y z → told ≡ bit → TellsTruth q (Ok told) → EvalsPart (view x') env q a b → Evals (view p) env r b c → Evals (view t) env r a c
  value_tested p bit told q r a b c ep ey k h m = value_if p k.0 k.0 bit r a b c ep refl (k.2 ∙ ap Some ey) (subst (λ z. EvalsPart (view x') env z a b) k.1 h) m

  pub value_tested_stop : (q : Result Value EvalStop) (e : EvalStop) (h : Halt) (a b : World) → TellsTruth q (Err e) → EvalsPart (view x') env q a b → Outside e h → Evals (view t) env (Err h) a b
  value_tested_stop q e h a b k p o = value_if_stop e h a b (subst (λ z. EvalsPart (view x') env z a b) k p) o

  pub look_if : (p : Term) (v w : Value) (bit : Bool) (r : Result Value EvalStop) (a b c : World) → p ≡ picked bit y z → w ≡ v → as_bool w ≡ Some bit → EvalsPart (view x') env (Ok v) a b → EvalsPart (view p) env r b c → EvalsPart (view t) env r a c
  look_if p v w bit r a b c ep ew eb h k = part_then (view t) (view x') (view (picked bit y z)) env env v r a b c h (subst (λ q. EvalsPart (view q) env r b c) ep k) (come_if v w bit ew eb) (none_if bit)

  pub look_if_stop : (e : EvalStop) (a b : World) → EvalsPart (view x') env (Err e) a b → EvalsPart (view t) env (Err e) a b
  look_if_stop e a b p = part_stop (view t) (view x') env e a b p come_if_over (λ n. (subst NoSource at_If n).0)

  pub look_tested : (p : Term) (bit told : Bool) (q : Result Value EvalStop) (r : Result Value EvalStop) (a b c : World) → p ≡ picked bit y z → told ≡ bit → TellsTruth q (Ok told) → EvalsPart (view x') env q a b → EvalsPart (view p) env r b c → EvalsPart (view t) env r a c
  look_tested p bit told q r a b c ep ey k h m = look_if p k.0 k.0 bit r a b c ep refl (k.2 ∙ ap Some ey) (subst (λ z. EvalsPart (view x') env z a b) k.1 h) m

  pub look_tested_stop : (q : Result Value EvalStop) (e : EvalStop) (a b : World) → TellsTruth q (Err e) → EvalsPart (view x') env q a b → EvalsPart (view t) env (Err e) a b
  look_tested_stop q e a b k p = look_if_stop e a b (subst (λ z. EvalsPart (view x') env z a b) k p)

-- ---- `Let`

module _ (t x y x' : Term) (env : List Value) (et : t ≡ term.Let x y) (ex : x' ≡ x) where
  pub at_Let : view t ≡ Let (view x') (view y)
  at_Let = ap view et ∙ view_Let x y ∙ ap (λ q. Let (view q) (view y)) (sym ex)

  pub sense_bound : (a : World) → Sense (view t) env a → Sense (view x') env a
  sense_bound a s = let s' = subst (λ q. Sense q env a) at_Let s in (s'.0, s'.3.0, s'.2, s'.3.1, s'.4)

  pub sense_body : (y' : Term) (v w : Value) (a b : World) → y' ≡ y → w ≡ v → Sense (view t) env a → EvalsPart (view x') env (Ok v) a b → Sense (view y') (w ∷ env) b
  sense_body y' v w a b ey ew s h =
      let s' = subst (λ q. Sense q env a) at_Let s in
      let i : Inhabits s'.3.0 v = comes_typed (types_of a) (values_of a) (view x') s'.0 env s'.3.0 (done v) s'.2 s'.3.1 h.gives in
      subst (λ q. Sense (view q) (w ∷ env) b) (sym ey)
      (subst (λ q. Sense (view y) (q ∷ env) b) (sym ew) (sense_on (view y) (v ∷ env) a b h.moved (s'.3.0 ∷ s'.0, s'.1, (i, s'.2), s'.3.2, s'.4)))

  pub value_let : (y' : Term) (v w : Value) (r : Result Value Halt) (a b c : World) → y' ≡ y → w ≡ v → EvalsPart (view x') env (Ok v) a b → Evals (view y') (w ∷ env) r b c → Evals (view t) env r a c
  value_let y' v w r a b c ey ew h k =
      evals_then (view t) (view x') (view y) env (v ∷ env) v r a b c h (subst (λ q. Evals (view y) (q ∷ env) r b c) ew (subst (λ q. Evals (view q) (w ∷ env) r b c) ey k))
      (λ S T o d e. subst (λ q. Comes S T env q o) (sym at_Let) (done v, d, e))
      (subst NoSource at_Let)

  pub value_let_stop : (e : EvalStop) (h : Halt) (a b : World) → EvalsPart (view x') env (Err e) a b → Outside e h → Evals (view t) env (Err h) a b
  value_let_stop e h a b p o = evals_stop (view t) (view x') env e h a b p o (λ S T vs c. subst (λ q. Comes S T env q (over [])) (sym at_Let) (over vs, c, refl)) (λ n. (subst NoSource at_Let n).0)

-- ---- `Case`

not_none : (i : ℕ) → Some i ≡ None → ⊥
not_none i e = cc

-- the branch at the place of a label, or what stands for all others
module _ (S : SourceTypes) (T : Tables) (env : List Value) (last : Arms) (l : Name) (v : Value) (o : Outcome) where
  pub arm_at : (ps : List (Name × Term)) (i : ℕ) (p : Name × Term) → place_of l ps ≡ Some i → slice_get ps i ≡ Some p → Comes S T (v ∷ env) (view p.1) o → ArmsCome S T env (arms_of (map view_part ps) last) l v o
  arm_at [] i p e g c = cc
  arm_at (q ∷ ps) i p e g c = by_label (λ j f h. arm_at ps j p f h c) (pointwise nat_eq l q.0) refl
    where
      later : ((j : ℕ) → place_of l ps ≡ Some j → slice_get ps j ≡ Some p → ArmsCome S T env (arms_of (map view_part ps) last) l v o) → (j : Option ℕ) → place_of l ps ≡ j → option_map suc j ≡ Some i → ArmsCome S T env (arms_of (map view_part ps) last) l v o
      later again (Some j) f d = let is : i ≡ suc j = cc in again j f (subst (λ k. slice_get (q ∷ ps) k ≡ Some p) is g)
      later again None f d = cc

      by_label : ((j : ℕ) → place_of l ps ≡ Some j → slice_get ps j ≡ Some p → ArmsCome S T env (arms_of (map view_part ps) last) l v o) → (b : Bool) → pointwise nat_eq l q.0 ≡ b → cond (pointwise nat_eq l q.0) (Comes S T (v ∷ env) (view q.1) o) (ArmsCome S T env (arms_of (map view_part ps) last) l v o)
      by_label again true is =
          let z : Some 0 ≡ Some i = rw is at e in
          let first : i ≡ 0 = cc in
          let at_p : Some q ≡ Some p = subst (λ k. slice_get (q ∷ ps) k ≡ Some p) first g in
          let same : q ≡ p = cc in
          rw is (subst (λ k. Comes S T (v ∷ env) (view k.1) o) (sym same) c)
      by_label again false is = rw is (later again (place_of l ps) refl (rw is at e))

  pub arm_none : (ps : List (Name × Term)) → place_of l ps ≡ None → ArmsCome S T env last l v o → ArmsCome S T env (arms_of (map view_part ps) last) l v o
  arm_none [] e c = c
  arm_none (q ∷ ps) e c = by_label (λ f. arm_none ps f c) (pointwise nat_eq l q.0) refl
    where
      later : (place_of l ps ≡ None → ArmsCome S T env (arms_of (map view_part ps) last) l v o) → (j : Option ℕ) → place_of l ps ≡ j → option_map suc j ≡ None → ArmsCome S T env (arms_of (map view_part ps) last) l v o
      later again (Some j) f d = cc
      later again None f d = again f

      by_label : (place_of l ps ≡ None → ArmsCome S T env (arms_of (map view_part ps) last) l v o) → (b : Bool) → pointwise nat_eq l q.0 ≡ b → cond (pointwise nat_eq l q.0) (Comes S T (v ∷ env) (view q.1) o) (ArmsCome S T env (arms_of (map view_part ps) last) l v o)
      by_label again true is = absurd (not_none 0 (rw is at e))
      by_label again false is = rw is (later again (place_of l ps) refl (rw is at e))

-- no source stands in them
none_at : (last : Arms) (ps : List (Name × Term)) (i : ℕ) (p : Name × Term) → slice_get ps i ≡ Some p → NoSourceInArms (arms_of (map view_part ps) last) → NoSource (view p.1)
none_at last [] i p e n = cc
none_at last (q ∷ ps) zero p e n = let at_p : Some q ≡ Some p = e in let same : q ≡ p = cc in subst (λ z. NoSource (view z.1)) same n.0
none_at last (q ∷ ps) (suc i) p e n = none_at last ps i p e n.1

none_last : (last : Arms) (ps : List (Name × Term)) → NoSourceInArms (arms_of (map view_part ps) last) → NoSourceInArms last
none_last last [] n = n
none_last last (q ∷ ps) n = none_last last ps n.1

-- their types
module _ (S : SourceTypes) (G : List Ground) (last : Arms) (r : Row) (s : Ground) (l : Name) (u : Ground) (there : at l r ≡ Some u) where
  pub arm_typed : (ps : List (Name × Term)) (i : ℕ) (p : Name × Term) → place_of l ps ≡ Some i → slice_get ps i ≡ Some p → ArmTypes S G (arms_of (map view_part ps) last) r s → CoreTypes S (u ∷ G) (view p.1) s
  arm_typed [] i p e g h = cc
  arm_typed (q ∷ ps) i p e g h = by_label (λ j f k. arm_typed ps j p f k h.3) (pointwise nat_eq l q.0) refl
    where
      later : ((j : ℕ) → place_of l ps ≡ Some j → slice_get ps j ≡ Some p → CoreTypes S (u ∷ G) (view p.1) s) → (j : Option ℕ) → place_of l ps ≡ j → option_map suc j ≡ Some i → CoreTypes S (u ∷ G) (view p.1) s
      later again (Some j) f d = let is : i ≡ suc j = cc in again j f (subst (λ k. slice_get (q ∷ ps) k ≡ Some p) is g)
      later again None f d = cc

      by_label : ((j : ℕ) → place_of l ps ≡ Some j → slice_get ps j ≡ Some p → CoreTypes S (u ∷ G) (view p.1) s) → (b : Bool) → pointwise nat_eq l q.0 ≡ b → CoreTypes S (u ∷ G) (view p.1) s
      by_label again true is =
          let z : Some 0 ≡ Some i = rw is at e in
          let first : i ≡ 0 = cc in
          let at_p : Some q ≡ Some p = subst (λ k. slice_get (q ∷ ps) k ≡ Some p) first g in
          let same : q ≡ p = cc in
          let named : l ≡ q.0 = same_text l q.0 (sym is) in
          let f : Some u ≡ Some h.0 = sym there ∙ ap (λ k. at k r) named ∙ h.1 in
          let type : u ≡ h.0 = cc in
          subst (λ k. CoreTypes S (u ∷ G) (view k.1) s) same (subst (λ k. CoreTypes S (k ∷ G) (view q.1) s) (sym type) h.2)
      by_label again false is = later again (place_of l ps) refl (rw is at e)

  pub other_typed : (ps : List (Name × Term)) → place_of l ps ≡ None → HasArm l (arms_of (map view_part ps) last) → ArmTypes S G (arms_of (map view_part ps) last) r s → HasArm l last × ArmTypes S G last r s
  other_typed [] e a h = (a, h)
  other_typed (q ∷ ps) e a h = by_label (λ f z. other_typed ps f z h.3) (pointwise nat_eq l q.0) refl
    where
      later : (place_of l ps ≡ None → HasArm l (arms_of (map view_part ps) last) → HasArm l last × ArmTypes S G last r s) → (j : Option ℕ) → place_of l ps ≡ j → option_map suc j ≡ None → HasArm l (arms_of (map view_part ps) last) → HasArm l last × ArmTypes S G last r s
      later again (Some j) f d z = cc
      later again None f d z = again f z

      by_label : (place_of l ps ≡ None → HasArm l (arms_of (map view_part ps) last) → HasArm l last × ArmTypes S G last r s) → (b : Bool) → pointwise nat_eq l q.0 ≡ b → HasArm l last × ArmTypes S G last r s
      by_label again true is = absurd (not_none 0 (rw is at e))
      by_label again false is = later again (place_of l ps) refl (rw is at e) (⊎_elim (λ d. absurd (off d)) (λ d. d) a)
        where
          off : l ≡ q.0 → ⊥
          off d = let f : pointwise nat_eq l q.0 ≡ true = subst (λ k. pointwise nat_eq l k ≡ true) d (nat_list_eq_equiv.refl l) in let w : true ≡ false = sym f ∙ is in cc

pub found : (l : Name) (ps qs rs : List (Name × Term)) (i : ℕ) (p : Name × Term) → qs ≡ ps → rs ≡ ps → Some i ≡ place_of l qs → i < length qs → p ≡ get_or rs i p → (place_of l ps ≡ Some i) × (slice_get ps i ≡ Some p)
found l ps qs rs i p eq er e lt is =
    (sym (e ∙ ap (place_of l) eq), slice_get_read ps (length ps) i p refl (subst (λ q. i < length q) eq lt) (subst (λ q. p ≡ get_or q i p) er is))

pub missing : (l : Name) (ps qs : List (Name × Term)) → qs ≡ ps → None ≡ place_of l qs → place_of l ps ≡ None
missing l ps qs eq e = sym (e ∙ ap (place_of l) eq)

module _ (t x x' : Term) (ps qs : List (Name × Term)) (c : Option Term) (env : List Value) (et : t ≡ term.Case x ps c) (ex : x' ≡ x) (eq : qs ≡ ps) where
  at_Case : view t ≡ Case (view x') (arms_view qs c)
  at_Case = ap view et ∙ view_Case x ps c ∙ ap (λ q. Case (view q) (arms_view ps c)) (sym ex) ∙ ap (λ q. Case (view x') (arms_view q c)) (sym eq)

  pub sense_subject : (a : World) → Sense (view t) env a → Sense (view x') env a
  sense_subject a s = let s' = subst (λ q. Sense q env a) at_Case s in (s'.0, var_type s'.3.0, s'.2, s'.3.1, s'.4)

  module _ (v w : Value) (l : Name) (u : Value) (a b : World) (ew : w ≡ v) (ev : as_variant w ≡ Some (l, u)) (s : Sense (view t) env a) (h : EvalsPart (view x') env (Ok v) a b) where
    abbrev Carried : Type 0
    Carried = (G : List Ground) × (k : Ground) × (r : Row) × (f : Ground) × HaveTypes G env × Covers r (arms_view qs c) × ArmTypes (types_of a) G (arms_view qs c) r k × (at l r ≡ Some f) × Inhabits f u

    carried : Carried
    carried =
        let s' = subst (λ q. Sense q env a) at_Case s in
        let i : Inhabits (var_type s'.3.0) v = comes_typed (types_of a) (values_of a) (view x') s'.0 env (var_type s'.3.0) (done v) s'.2 s'.3.1 h.gives in
        let d = variant_is s'.3.0 v i in
        let before : Name × Value = (d.0, d.2) in
        let behind : Name × Value = (l, u) in
        let e : before ≡ behind = same_Some before behind (sym d.3 ∙ ap as_variant (sym ew) ∙ ev) in
        let el : d.0 ≡ l = ap (λ z. z.0) e in
        let eu : d.2 ≡ u = ap (λ z. z.1) e in
        (s'.0, s'.1, s'.3.0, d.1, s'.2, s'.3.2, s'.3.3, subst (λ k. at k s'.3.0 ≡ Some d.1) el d.4, subst (Inhabits d.1) eu d.5)

    pub sense_branch : (i : ℕ) (p : Name × Term) → place_of l qs ≡ Some i → slice_get qs i ≡ Some p → Sense (view p.1) (u ∷ env) b
    sense_branch i p e g = let d = carried in sense_on (view p.1) (u ∷ env) a b h.moved (d.3 ∷ d.0, d.1, (d.8, d.4), arm_typed (types_of a) d.0 (rest_of (view_option c)) d.2 d.1 l d.3 d.7 qs i p e g d.6, s.4)

    other_there : place_of l qs ≡ None → (k : Carried) → HasArm l (rest_of (view_option c)) × ArmTypes (types_of a) k.0 (rest_of (view_option c)) k.2 k.1
    other_there e d = other_typed (types_of a) d.0 (rest_of (view_option c)) d.2 d.1 l d.3 d.7 qs e (d.5 l (rw d.7 refl)) d.6

    pub sense_other : (y : Term) → place_of l qs ≡ None → c ≡ Some y → Sense (view y) env b
    sense_other y e ec =
        let d = carried in
        let o = (other_there e d).1 in
        sense_on (view y) env a b h.moved (d.0, d.1, d.4, subst (λ z. ArmTypes (types_of a) d.0 (rest_of (view_option z)) d.2 d.1) ec o, s.4)

    pub no_branch : place_of l qs ≡ None → c ≡ None → ⊥
    no_branch e ec = subst (λ z. HasArm l (rest_of (view_option z))) ec (other_there e carried).0

  pub variant_there : (v w : Value) (a b : World) → w ≡ v → Sense (view t) env a → EvalsPart (view x') env (Ok v) a b → IsSome (as_variant w)
  variant_there v w a b ew s h =
      let s' = subst (λ q. Sense q env a) at_Case s in
      let d = variant_is s'.3.0 v (comes_typed (types_of a) (values_of a) (view x') s'.0 env (var_type s'.3.0) (done v) s'.2 s'.3.1 h.gives) in
      subst (λ q. IsSome (as_variant q)) (sym ew) (rw d.3 refl)

  pub sense_other_at : (v w : Value) (l : Name) (u : Value) (a b : World) → w ≡ v → as_variant w ≡ Some (l, u) → Sense (view t) env a → EvalsPart (view x') env (Ok v) a b → (y y' : Term) → place_of l qs ≡ None → c ≡ Some y → y' ≡ y → Sense (view y') env b
  sense_other_at v w l u a b ew ev s h y y' e ec ey = subst (λ q. Sense (view q) env b) (sym ey) (sense_other v w l u a b ew ev s h y e ec)

  opens : (v w : Value) (l : Name) (u : Value) (S : SourceTypes) (T : Tables) (o : Outcome) → w ≡ v → as_variant w ≡ Some (l, u) → Comes S T env (view x') (done v) → ArmsCome S T env (arms_view qs c) l u o → Comes S T env (view t) o
  opens v w l u S T o ew ev d e = subst (λ q. Comes S T env q o) (sym at_Case) (done v, d, subst (λ q. OpensVariant q (λ l w. ArmsCome S T env (arms_view qs c) l w) o) (sym (ap as_variant (sym ew) ∙ ev)) e)

  pub value_branch : (v w : Value) (l : Name) (u : Value) (i : ℕ) (p : Name × Term) (r : Result Value Halt) (a b d : World) → w ≡ v → as_variant w ≡ Some (l, u) → place_of l qs ≡ Some i → slice_get qs i ≡ Some p
      → EvalsPart (view x') env (Ok v) a b → Evals (view p.1) (u ∷ env) r b d → Evals (view t) env r a d
  value_branch v w l u i p r a b d ew ev e g h k =
      evals_then (view t) (view x') (view p.1) env (u ∷ env) v r a b d h k (λ S T o f z. opens v w l u S T o ew ev f (arm_at S T env (rest_of (view_option c)) l u o qs i p e g z))
      (λ n. let m = subst NoSource at_Case n in (m.0, none_at (rest_of (view_option c)) qs i p g m.1))

  pub value_other : (v w : Value) (l : Name) (u : Value) (y : Term) (r : Result Value Halt) (a b d : World) → w ≡ v → as_variant w ≡ Some (l, u) → place_of l qs ≡ None → c ≡ Some y
      → EvalsPart (view x') env (Ok v) a b → Evals (view y) env r b d → Evals (view t) env r a d
  value_other v w l u y r a b d ew ev e ec h k =
      evals_then (view t) (view x') (view y) env env v r a b d h k
      (λ S T o f z. opens v w l u S T o ew ev f (arm_none S T env (rest_of (view_option c)) l u o qs e (subst (λ q. ArmsCome S T env (rest_of (view_option q)) l u o) (sym ec) z)))
      (λ n. let m = subst NoSource at_Case n in (m.0, subst (λ q. NoSourceInArms (rest_of (view_option q))) ec (none_last (rest_of (view_option c)) qs m.1)))

  pub value_other_at : (v w : Value) (l : Name) (u : Value) (y y' : Term) (r : Result Value Halt) (a b d : World) → w ≡ v → as_variant w ≡ Some (l, u) → place_of l qs ≡ None → c ≡ Some y → y' ≡ y
      → EvalsPart (view x') env (Ok v) a b → Evals (view y') env r b d → Evals (view t) env r a d
  value_other_at v w l u y y' r a b d ew ev e ec ey h k = value_other v w l u y r a b d ew ev e ec h (subst (λ q. Evals (view q) env r b d) ey k)

  pub value_case_stop : (e : EvalStop) (h : Halt) (a b : World) → EvalsPart (view x') env (Err e) a b → Outside e h → Evals (view t) env (Err h) a b
  value_case_stop e h a b p o = evals_stop (view t) (view x') env e h a b p o (λ S T vs c. subst (λ q. Comes S T env q (over [])) (sym at_Case) (over vs, c, refl)) (λ n. (subst NoSource at_Case n).0)

-- ---- what is drawn

module _ (P : Flow → Type 0) (Q : Outcome → Type 0) (k : Kind) (a b : World) where
  pub gathers : (d : Result (Vec Value Global) Halt) (r : Result Value Halt) → ((f : Flow) → P f → Q (collected k f)) → FlowGives P a b d → Gathers k d r → ResultGives Q a b r
  gathers (Ok vs) r f h g = gives_made Q a b (canonical k vs.items) r (subst Q (collected_flow k vs.items fine) (f (flow vs.items fine) h)) g
  gathers (Err (halt.Over vs)) r f h g = gives_over Q a b (kept k vs.items) r (subst Q (collected_flow k vs.items overflow) (f (flow vs.items overflow) h)) g
  gathers (Err (halt.Driver l e)) r f h g = subst (ResultGives Q a b) (sym g) h
  gathers (Err halt.NoMemory) r f h g = subst (ResultGives Q a b) (sym g) tt

-- a literal
module _ (t : Term) (k : Kind) (ts us : List Term) (env : List Value) (et : t ≡ term.Make k ts) (eu : us ≡ ts) where
  pub at_Make : view t ≡ Make k (trees_view us)
  at_Make = ap view et ∙ view_Make k ts ∙ ap (λ q. Make k (trees_view q)) (sym eu)

  pub sense_make : (a : World) → Sense (view t) env a → SenseEach (trees_view us) env a
  sense_make a s = let s' = subst (λ q. Sense q env a) at_Make s in (s'.0, s'.3.0, s'.2, s'.3.3, s'.4)

  pub value_make : (d : Result (Vec Value Global) Halt) (r : Result Value Halt) (a b : World) → EvalsEach (trees_view us) env d a b → Gathers k d r → Evals (view t) env r a b
  value_make d r a b h g =
      subst (λ q. Evals q env r a b) (sym at_Make)
      (record { moved = h.moved; still = h.still; gives = gathers (ItemsCome (types_of a) (values_of a) env (trees_view us)) (Comes (types_of a) (values_of a) env (Make k (trees_view us))) k a b d r (λ f c. (f, c, refl)) h.gives g })

-- ---- a loop

module _ (t : Term) (k : Kind) (x y x' y' : Term) (env : List Value) (et : t ≡ term.Ext k x y) (ex : x' ≡ x) (ey : y' ≡ y) where
  at_Ext : view t ≡ Ext k (view x') (view y')
  at_Ext = ap view et ∙ view_Ext k x y ∙ ap (λ q. Ext k (view q) (view y)) (sym ex) ∙ ap (λ q. Ext k (view x') (view q)) (sym ey)

  pub sense_source : (a : World) → Sense (view t) env a → Sense (view y') env a
  sense_source a s = let s' = subst (λ q. Sense q env a) at_Ext s in (s'.0, coll s'.3.1 s'.3.2, s'.2, s'.3.4, s'.4)

  -- a source is a collection
  pub source_whole : (v : Value) (a : World) → Sense (view t) env a → Comes (types_of a) (values_of a) env (view y') (done v) → IsCollection v
  source_whole v a s c =
      let s' = subst (λ q. Sense q env a) at_Ext s in
      let i : OfType (coll s'.3.1 s'.3.2) (done v) = comes_typed (types_of a) (values_of a) (view y') s'.0 env (coll s'.3.1 s'.3.2) (done v) s'.2 s'.3.4 c in
      let d = items_inhabit s'.3.1 s'.3.2 v i in
      rw d.1 refl

  -- the items of a source
  pub sense_items : (p : Outcome) (vs : List Value) (e : End) (a b : World) → Moved a b → items_of p ≡ flow vs e → Sense (view t) env a → Comes (types_of a) (values_of a) env (view y') p → SenseBody (view x') vs env b
  sense_items p vs e a b m is s c =
      let s' = subst (λ q. Sense q env a) at_Ext s in
      let ty = s'.3 in
      let all : AllByRecursion (Inhabits ty.2) vs = front ty.2 vs (subst (FlowOf ty.2) is (items_typed ty.1 ty.2 p (comes_typed (types_of a) (values_of a) (view y') s'.0 env (coll ty.1 ty.2) p s'.2 ty.4 c))) in
      (s'.0, ty.2, k, ty.0, s'.2, all, onto (λ S. CoreTypes S (ty.2 ∷ s'.0) (view x') (coll k ty.0)) a b m (subst (λ q. CoreTypes (types_of a) (ty.2 ∷ s'.0) (view x') q) ty.3 ty.5), ready_on a b m s'.4)
    where
      front : (u : Ground) (vs : List Value) → FlowOf u (flow vs e) → AllByRecursion (Inhabits u) vs
      front u [] h = tt
      front u (v ∷ vs) h = (h.0, front u vs h.1)

  pub value_loop : (p : Outcome) (vs : List Value) (e : End) (d : Result (Vec Value Global) Halt) (r : Result Value Halt) (a b c : World) → Moved a b → (NoSource (view y') → b ≡ a) → items_of p ≡ flow vs e → Comes (types_of a) (values_of a) env (view y') p
      → EvalsBody (view x') (flow vs e) env d b c → Gathers k d r → Evals (view t) env r a c
  value_loop p vs e d r a b c m calm is h i g =
      subst (λ q. Evals q env r a c) (sym at_Ext)
      (record {
        moved = moved_then a b c m i.moved;
        still = λ n. i.still n.0 ∙ calm n.1;
        gives = gathers (Draws (λ v. Comes (types_of a) (values_of a) (v ∷ env) (view x')) (flow vs e)) (Comes (types_of a) (values_of a) env (Ext k (view x') (view y'))) k a c d r
            (λ f q. (p, f, h, subst (λ z. Draws (λ v. Comes (types_of a) (values_of a) (v ∷ env) (view x')) z f) (sym is) q, refl))
            (flow_from a b c m (Draws (λ v. Comes (types_of a) (values_of a) (v ∷ env) (view x')) (flow vs e)) d (back (λ S T. FlowGives (Draws (λ v. Comes S T (v ∷ env) (view x')) (flow vs e)) b c d) a b m i.gives)) g;
      })

  -- want of memory in its source, and what a driver stopped there
  pub loop_lost : (q : Halt) (a b : World) → Evals (view y') env (Err q) a b → Evals (view t) env (Err halt.NoMemory) a b
  loop_lost q a b h = record { moved = h.moved; still = λ n. h.still (subst NoSource at_Ext n).1; gives = tt }

  pub loop_refused : (q : Halt) (l : Name) (e : DriverError) (a b : World) → q ≡ halt.Driver l e → Evals (view y') env (Err q) a b → Evals (view t) env (Err (halt.Driver l e)) a b
  loop_refused q l e a b eq h = let h' = subst (λ z. Evals (view y') env (Err z) a b) eq h in record { moved = h'.moved; still = λ n. h'.still (subst NoSource at_Ext n).1; gives = h'.gives }

-- the items of a collection, or before an overflow
pub items_done : (v : Value) (k : Kind) (vs : List Value) → as_collection v ≡ Some (record { kind = k; items = vs }) → items_of (done v) ≡ flow vs fine
items_done v k vs e = ap items_at_all e

-- ---- two collections as one

pub joined_items : (v w : Value) (p : Result Value Halt) (k : Kind) (vs both : List Value) (r : Result Value Halt) → v ≡ collection k vs → p ≡ Ok w → AddsItems w (Ok tt) vs both → AnswersOutcome (done (canonical k both)) r → Joins v p r
joined_items v w p k vs both r ev ep add end = (k, vs, ev, subst (λ q. JoinsItems k vs q r) (sym ep) (Ok tt, both, add, end))

pub flow_more : (vs ws : List Value) (e : End) → followed (flow vs fine) (flow ws e) ≡ flow (vs ++ ws) e
flow_more [] ws e = refl
flow_more (v ∷ vs) ws e = ap (more v) (flow_more vs ws e)

module _ (t : Term) (x y x' : Term) (env : List Value) (et : t ≡ term.Union x y) (ex : x' ≡ x) where
  at_Union : view t ≡ Union (view x') (view y)
  at_Union = ap view et ∙ view_Union x y ∙ ap (λ q. Union (view q) (view y)) (sym ex)

  pub sense_first : (a : World) → Sense (view t) env a → Sense (view x') env a
  sense_first a s = let s' = subst (λ q. Sense q env a) at_Union s in (s'.0, s'.1, s'.2, s'.3.3, s'.4)

  -- the first is a collection
  pub first_there : (v : Value) (a b : World) → Sense (view t) env a → Evals (view x') env (Ok v) a b → IsCollection v
  first_there v a b s h =
      let s' = subst (λ q. Sense q env a) at_Union s in
      let ty = s'.3 in
      let i : OfType (coll ty.0 ty.1) (done v) = subst (λ q. OfType q (done v)) ty.2 (comes_typed (types_of a) (values_of a) (view x') s'.0 env s'.1 (done v) s'.2 ty.3 h.gives) in
      let c = items_inhabit ty.0 ty.1 v i in
      rw c.1 refl

  pub sense_second : (y' : Term) (a b : World) → y' ≡ y → Moved a b → Sense (view t) env a → Sense (view y') env b
  sense_second y' a b ey m s =
      let s' = subst (λ q. Sense q env a) at_Union s in
      subst (λ q. Sense (view q) env b) (sym ey) (sense_on (view y) env a b m (s'.0, s'.1, s'.2, s'.3.4, s'.4))

  pub second_there : (y' : Term) (w : Value) (a b c : World) → y' ≡ y → Moved a b → Sense (view t) env a → Evals (view y') env (Ok w) b c → IsCollection w
  second_there y' w a b c ey m s h =
      let s' = subst (λ q. Sense q env a) at_Union s in
      let ty = s'.3 in
      let h' : Comes (types_of a) (values_of a) env (view y) (done w) = back (λ S T. Comes S T env (view y) (done w)) a b m (subst (λ q. Evals (view q) env (Ok w) b c) ey h).gives in
      let i : OfType (coll ty.0 ty.1) (done w) = subst (λ q. OfType q (done w)) ty.2 (comes_typed (types_of a) (values_of a) (view y) s'.0 env s'.1 (done w) s'.2 ty.4 h') in
      let d = items_inhabit ty.0 ty.1 w i in
      rw d.1 refl

  pub second_told : (y' : Term) (p : Result Value Halt) (a b c : World) → y' ≡ y → Moved a b → Sense (view t) env a → Evals (view y') env p b c → IfOk p IsCollection
  second_told y' (Ok w) a b c ey m s h = second_there y' w a b c ey m s h
  second_told y' (Err e) a b c ey m s h = tt

  unites : (v : Value) (k : Kind) (vs : List Value) (q : Outcome) (ws : List Value) (e : End) (S : SourceTypes) (T : Tables) → v ≡ collection k vs → items_of q ≡ flow ws e → Comes S T env (view x') (done v) → Comes S T env (view y) q
      → Comes S T env (view t) (gathered k e (vs ++ ws))
  unites v k vs q ws e S T ev eq c d =
      let is : gathered k e (vs ++ ws) ≡ union_of (done v) q =
      sym (ap (λ z. joined_to z q) (ap as_collection ev ∙ collection_is k vs)
      ∙ ap (λ z. collected k (followed (flow vs fine) z)) eq ∙ ap (collected k) (flow_more vs ws e) ∙ collected_flow k (vs ++ ws) e) in
      subst (λ z. Comes S T env z (gathered k e (vs ++ ws))) (sym at_Union) (done v, c, (q, d, is))

  both_still : (y' : Term) (a b c : World) → y' ≡ y → (NoSource (view x') → b ≡ a) → (NoSource (view y') → c ≡ b) → NoSource (view t) → c ≡ a
  both_still y' a b c ey h g n = let m = subst NoSource at_Union n in g (subst (λ z. NoSource (view z)) (sym ey) m.1) ∙ h m.0

  pub value_union : (y' : Term) (v w : Value) (k : Kind) (vs both : List Value) (r : Result Value Halt) (a b c : World) → y' ≡ y → v ≡ collection k vs → AddsItems w (Ok tt) vs both
      → Evals (view x') env (Ok v) a b → Evals (view y') env (Ok w) b c → AnswersOutcome (done (canonical k both)) r → Evals (view t) env r a c
  value_union y' v w k vs both r a b c ey ev add h g m =
      let g' = subst (λ q. Evals (view q) env (Ok w) b c) ey g in
      let ws : List Value = add.1 in
      let is : items_of (done w) ≡ flow ws fine = ap items_at_all (ap as_collection add.2 ∙ collection_is add.0 ws) in
      record {
        moved = moved_then a b c h.moved g'.moved;
        still = both_still y' a b c ey h.still g.still;
        gives = gives_made (Comes (types_of a) (values_of a) env (view t)) a c (canonical k both) r
            (subst (λ z. Comes (types_of a) (values_of a) env (view t) (done (canonical k z))) (sym add.3)
            (unites v k vs (done w) ws fine (types_of a) (values_of a) ev is h.gives (back (λ S T. Comes S T env (view y) (done w)) a b h.moved g'.gives))) m;
      }

  pub value_union_lost : (y' : Term) (v w : Value) (vs both : List Value) (e : Halt) (a b c : World) → y' ≡ y → Evals (view x') env (Ok v) a b → Evals (view y') env (Ok w) b c → AddsItems w (Err e) vs both → Evals (view t) env (Err e) a c
  value_union_lost y' v w vs both (halt.Over us) a b c ey h g add = absurd add.3
  value_union_lost y' v w vs both (halt.Driver l e) a b c ey h g add = absurd add.3
  value_union_lost y' v w vs both halt.NoMemory a b c ey h g add = record { moved = moved_then a b c h.moved g.moved; still = both_still y' a b c ey h.still g.still; gives = tt }

  pub value_union_over : (y' : Term) (v : Value) (k : Kind) (vs : List Value) (e f : Halt) (r : Result Value Halt) (a b c : World) → y' ≡ y → v ≡ collection k vs → Behind vs e f
      → Evals (view x') env (Ok v) a b → Evals (view y') env (Err e) b c → Gathers k (Err f) r → Evals (view t) env r a c
  value_union_over y' v k vs (halt.Over ws) (halt.Over us) r a b c ey ev e h g m =
      let g' = subst (λ q. Evals (view q) env (Err (halt.Over ws)) b c) ey g in
      record {
        moved = moved_then a b c h.moved g'.moved;
        still = both_still y' a b c ey h.still g.still;
        gives = gives_over (Comes (types_of a) (values_of a) env (view t)) a c (kept k us.items) r
            (subst (λ z. Comes (types_of a) (values_of a) env (view t) (over (kept k z))) (sym e)
            (unites v k vs (over ws.items) ws.items overflow (types_of a) (values_of a) ev refl h.gives (back (λ S T. Comes S T env (view y) (over ws.items)) a b h.moved g'.gives))) m;
      }
  value_union_over y' v k vs (halt.Over ws) halt.NoMemory r a b c ey ev e h g m = record { moved = moved_then a b c h.moved g.moved; still = both_still y' a b c ey h.still g.still; gives = subst (ResultGives (Comes (types_of a) (values_of a) env (view t)) a c) (sym m) tt }
  value_union_over y' v k vs (halt.Over ws) (halt.Driver l f) r a b c ey ev e h g m = absurd e
  value_union_over y' v k vs (halt.Driver l f) q r a b c ey ev e h g m =
      record {
        moved = moved_then a b c h.moved g.moved;
        still = both_still y' a b c ey h.still g.still;
        gives = subst (ResultGives (Comes (types_of a) (values_of a) env (view t)) a c) (sym (subst (λ z. Gathers k (Err z) r) e m)) (stopped_then l f a b c h.moved g.gives);
      }
  value_union_over y' v k vs halt.NoMemory (halt.Over us) r a b c ey ev e h g m = absurd e
  value_union_over y' v k vs halt.NoMemory (halt.Driver l f) r a b c ey ev e h g m = absurd e
  value_union_over y' v k vs halt.NoMemory halt.NoMemory r a b c ey ev e h g m = record { moved = moved_then a b c h.moved g.moved; still = both_still y' a b c ey h.still g.still; gives = subst (ResultGives (Comes (types_of a) (values_of a) env (view t)) a c) (sym m) tt }

  pub value_join : (y' : Term) (v : Value) (p r : Result Value Halt) (a b c : World) → y' ≡ y → Evals (view x') env (Ok v) a b → Evals (view y') env p b c → Joins v p r → Evals (view t) env r a c
  value_join y' v (Ok w) r a b c ey h g j = joined j.3.0 j.3.2 j.3.3
    where
      joined : (q : Result (Unit {0}) Halt) → AddsItems w q j.1 j.3.1 → Finishes j.0 q j.3.1 r → Evals (view t) env r a c
      joined (Ok u) add end = value_union y' v w j.0 j.1 j.3.1 r a b c ey j.2 add h g end
      joined (Err e) add end = subst (λ z. Evals (view t) env z a c) (sym end) (value_union_lost y' v w j.1 j.3.1 e a b c ey h g add)
  value_join y' v (Err e) r a b c ey h g j = value_union_over y' v j.0 j.1 e j.3.0 r a b c ey j.2 j.3.1 h g j.3.2

  pub value_union_first : (e : Halt) (a b : World) → Evals (view x') env (Err e) a b → Evals (view t) env (Err e) a b
  value_union_first (halt.Over vs) a b h = record { moved = h.moved; still = λ n. h.still (subst NoSource at_Union n).0; gives = subst (λ z. Comes (types_of a) (values_of a) env z (over vs.items)) (sym at_Union) (over vs.items, h.gives, refl) }
  value_union_first (halt.Driver l e) a b h = record { moved = h.moved; still = λ n. h.still (subst NoSource at_Union n).0; gives = h.gives }
  value_union_first halt.NoMemory a b h = record { moved = h.moved; still = λ n. h.still (subst NoSource at_Union n).0; gives = tt }

-- ---- a record

module _ (t : Term) (ps qs : List (Name × Term)) (env : List Value) (et : t ≡ term.Rec ps) (eq : qs ≡ ps) where
  at_Rec : view t ≡ Rec (parts_view qs)
  at_Rec = ap view et ∙ view_Rec ps ∙ ap (λ q. Rec (parts_view q)) (sym eq)

  pub sense_rec : (a : World) → Sense (view t) env a → SenseParts (parts_view qs) env a
  sense_rec a s = let s' = subst (λ q. Sense q env a) at_Rec s in (s'.0, s'.3.0, s'.2, s'.3.3, s'.4)

  pub value_rec : (fs : Vec (Name × Value) Global) (gs : List (Name × Value)) (a b : World) → gs ≡ fs.items → EvalsFields (parts_view qs) env (Ok fs) a b → Evals (view t) env (Ok (value.Rec gs)) a b
  value_rec fs gs a b eg h = record { moved = h.moved; still = λ n. h.still (subst NoSource at_Rec n); gives = subst (λ z. Comes (types_of a) (values_of a) env z (done (value.Rec gs))) (sym at_Rec) (subst (λ z. PartsCome (types_of a) (values_of a) env (parts_view qs) (λ fs. done (value.Rec fs)) (done (value.Rec z))) (sym eg) (h.gives (λ fs. done (value.Rec fs)))) }

  pub value_rec_stop : (e : EvalStop) (h : Halt) (a b : World) → EvalsFields (parts_view qs) env (Err e) a b → Outside e h → Evals (view t) env (Err h) a b
  value_rec_stop eval_stop.Overflow (halt.Over ws) a b p o = record { moved = p.moved; still = λ n. p.still (subst NoSource at_Rec n); gives = subst (λ z. Comes (types_of a) (values_of a) env (view t) (over z)) (sym o) (subst (λ z. Comes (types_of a) (values_of a) env z (over [])) (sym at_Rec) (p.gives (λ fs. done (value.Rec fs)))) }
  value_rec_stop eval_stop.Overflow (halt.Driver l e) a b p o = absurd o
  value_rec_stop eval_stop.Overflow halt.NoMemory a b p o = absurd o
  value_rec_stop (eval_stop.Driver l e) h a b p o = subst (λ q. Evals (view t) env (Err q) a b) (sym o) (record { moved = p.moved; still = λ n. p.still (subst NoSource at_Rec n); gives = p.gives })
  value_rec_stop eval_stop.NoMemory (halt.Over ws) a b p o = absurd o
  value_rec_stop eval_stop.NoMemory (halt.Driver l e) a b p o = absurd o
  value_rec_stop eval_stop.NoMemory halt.NoMemory a b p o = record { moved = p.moved; still = λ n. p.still (subst NoSource at_Rec n); gives = tt }

-- ---- a source

module _ (t : Term) (i : ℕ) (env : List Value) (et : t ≡ term.Source i) where
  at_Source : view t ≡ Source i
  at_Source = ap view et ∙ view_Source i

  pub source_there : (a : World) → Sense (view t) env a → IsSome (types_of a i)
  source_there a s = let s' = subst (λ q. Sense q env a) at_Source s in rw s'.3.0 refl

  pub source_ready : (a : World) → Sense (view t) env a → IsReady a
  source_ready a s = s.4

  pub value_source : (v : Value) (a b : World) → Tabled i (Ok v) a b → Evals (view t) env (Ok v) a b
  value_source v a b h = record { moved = h.moved; still = λ n. absurd (subst NoSource at_Source n); gives = subst (λ z. Comes (types_of a) (values_of a) env z (done v)) (sym at_Source) (v, h.gives, refl) }

  pub value_source_stop : (e : EvalStop) (h : Halt) (a b : World) → Tabled i (Err e) a b → Outside e h → Evals (view t) env (Err h) a b
  value_source_stop eval_stop.Overflow h a b p o = absurd p.gives
  value_source_stop (eval_stop.Driver l e) h a b p o = subst (λ q. Evals (view t) env (Err q) a b) (sym o) (record { moved = p.moved; still = λ n. absurd (subst NoSource at_Source n); gives = p.gives })
  value_source_stop eval_stop.NoMemory (halt.Over ws) a b p o = absurd o
  value_source_stop eval_stop.NoMemory (halt.Driver l e) a b p o = absurd o
  value_source_stop eval_stop.NoMemory halt.NoMemory a b p o = record { moved = p.moved; still = λ n. absurd (subst NoSource at_Source n); gives = tt }

-- ---- a primitive

module _ (t : Term) (c : ℕ) (ts us : List Term) (env : List Value) (et : t ≡ term.Prim c ts) (eu : us ≡ ts) where
  pub at_Prim : view t ≡ Prim c (trees_view us)
  at_Prim = ap view et ∙ view_Prim c ts ∙ ap (λ q. Prim c (trees_view q)) (sym eu)

  pub sense_prim : (a : World) → Sense (view t) env a → SenseCall c (trees_view us) env a
  sense_prim a s = let s' = subst (λ q. Sense q env a) at_Prim s in (s'.0, s'.3.0, s'.1, s'.2, s'.3.1, s'.3.2, s'.4)

  pub value_prim : (v : Value) (a b : World) → EvalsCall c (trees_view us) env (Ok v) a b → Evals (view t) env (Ok v) a b
  value_prim v a b h = record { moved = h.moved; still = λ n. h.still (subst NoSource at_Prim n); gives = subst (λ z. Comes (types_of a) (values_of a) env z (done v)) (sym at_Prim) h.gives }

-- ---- the arguments of a call

by_row : (r : Option Primitive) (ss : List Ground) (s : Ground) → RowTypes r ss s → (length ss ≡ 1) ⊎ (length ss ≡ 2)
by_row (Some p) ss s h = one_or_two p.entry.shape ss s h
by_row None ss s h = absurd h

prim_arity : (c : ℕ) (ss : List Ground) (s : Ground) → PrimTypes c ss s → (length ss ≡ 1) ⊎ (length ss ≡ 2)
unfolding PrimTypes
prim_arity c ss s h = by_row (row_at c) ss s h

as_many : (S : SourceTypes) (G : List Ground) (ts : List Term) (ss : List Ground) → AllTypes S G (trees_view ts) ss → length ss ≡ length ts
as_many S G [] ss h = ap length h
as_many S G (t ∷ ts) ss h = ap length h.2 ∙ ap suc (as_many S G ts h.1 h.4)

pub call_arity : (c : ℕ) (ts : List Term) (env : List Value) (a : World) → SenseCall c (trees_view ts) env a → (length ts ≡ 1 → ⊥) → (length ts ≡ 2 → ⊥) → ⊥
call_arity c ts env a s no_one no_two =
    let same = as_many (types_of a) s.0 ts s.1 s.4 in
    ⊎_elim (λ e. no_one (sym same ∙ e)) (λ e. no_two (sym same ∙ e)) (prim_arity c s.1 s.2 s.5)

pub alone : (ts : List Term) (x : Term) → length ts ≡ 1 → x ≡ get_or ts 0 x → ts ≡ x ∷ []
alone [] x e g = cc
alone (y ∷ []) x e g = let same : y ≡ x = sym g in ap (λ q. q ∷ []) same
alone (y ∷ z ∷ ts) x e g = absurd (omega (arith, e))

pub pair : (ts : List Term) (x y : Term) → length ts ≡ 2 → x ≡ get_or ts 0 x → y ≡ get_or ts 1 y → ts ≡ x ∷ y ∷ []
pair [] x y e g h = cc
pair (u ∷ []) x y e g h = absurd (omega (arith, e))
pair (u ∷ v ∷ []) x y e g h = let first : u ≡ x = sym g in let second : v ≡ y = sym h in cc
pair (u ∷ v ∷ w ∷ ts) x y e g h = absurd (omega (arith, e))

types_canonical : (ss : List Ground) (vs : List Value) → HaveTypes ss vs → All IsCanonical vs
types_canonical ss vs h = All-from_recursion IsCanonical vs (all_canonical ss vs h)

prim_gives : (P : Outcome → Type 0) (a b : World) (m : Answer) (r : Result Value EvalStop) → ((o : Outcome) → o ≡ answered m → P o) → AnswersPrim m r → CallGives P a b r
prim_gives P a b m (Ok v) f k = f (done v) (sym (ap answered k))
prim_gives P a b m (Err eval_stop.Overflow) f k = f (over []) (sym (ap answered k))
prim_gives P a b m (Err (eval_stop.Driver l e)) f k = absurd k
prim_gives P a b m (Err eval_stop.NoMemory) f k = tt

call_stop : (P Q : Outcome → Type 0) (a b : World) (e : EvalStop) → PartGives P a b (Err e) → ((vs : List Value) → P (over vs) → Q (over [])) → CallGives Q a b (Err e)
call_stop P Q a b eval_stop.Overflow h f = f h.0 h.1
call_stop P Q a b (eval_stop.Driver l e) h f = h
call_stop P Q a b eval_stop.NoMemory h f = tt

-- one argument
module _ (c : ℕ) (ts : List Term) (x : Term) (env : List Value) (a : World) (n : length ts ≡ 1) (is : x ≡ get_or ts 0 x) where
  abbrev Only : Trees
  Only = trees (view x) no_trees

  only : trees_view ts ≡ Only
  only = ap trees_view (alone ts x n is)

  pub sense_only : SenseCall c (trees_view ts) env a → Sense (view x) env a
  sense_only s = let s' = subst (λ q. SenseCall c q env a) only s in (s'.0, s'.4.0, s'.3, s'.4.3, s'.6)

  pub fits_only : (v : Value) (b : World) → SenseCall c (trees_view ts) env a → EvalsPart (view x) env (Ok v) a b → Fits c (v ∷ []) × All IsCanonical (v ∷ [])
  fits_only v b s h =
      let s' = subst (λ q. SenseCall c q env a) only s in
      let ty = s'.4 in
      let i : Inhabits ty.0 v = comes_typed (types_of a) (values_of a) (view x) s'.0 env ty.0 (done v) s'.3 ty.3 h.gives in
      let have : HaveTypes s'.1 (v ∷ []) = subst (λ q. HaveTypes q (v ∷ [])) (sym (ty.2 ∙ ap (λ q. ty.0 ∷ q) ty.4)) (i, tt) in
      (prim_fits c s'.1 s'.2 (v ∷ []) s'.5 have, types_canonical s'.1 (v ∷ []) have)

  pub call_only : (v : Value) (r : Result Value EvalStop) (b : World) → EvalsPart (view x) env (Ok v) a b → AnswersPrim (meaning c (v ∷ [])) r → EvalsCall c (trees_view ts) env r a b
  call_only v r b h m =
      subst (λ q. EvalsCall c q env r a b) (sym only)
      (record { moved = h.moved; still = λ n. h.still n.0; gives = prim_gives (ArgsCome (types_of a) (values_of a) env Only (λ vs. answered (meaning c vs))) a b (meaning c (v ∷ [])) r (λ o e. (done v, h.gives, e)) m })

  pub call_only_stop : (e : EvalStop) (b : World) → EvalsPart (view x) env (Err e) a b → EvalsCall c (trees_view ts) env (Err e) a b
  call_only_stop e b h =
      subst (λ q. EvalsCall c q env (Err e) a b) (sym only)
      (record { moved = h.moved; still = λ n. h.still n.0; gives = call_stop (Comes (types_of a) (values_of a) env (view x)) (ArgsCome (types_of a) (values_of a) env Only (λ vs. answered (meaning c vs))) a b e h.gives (λ vs d. (over vs, d, refl)) })

-- two arguments
pub sense_former : (c : ℕ) (ts : List Term) (x : Term) (env : List Value) (a : World) → length ts ≡ 2 → x ≡ get_or ts 0 x → SenseCall c (trees_view ts) env a → Sense (view x) env a
sense_former c [] x env a n is s = cc
sense_former c (u ∷ ts) x env a n is s = subst (λ q. Sense (view q) env a) (sym is) (s.0, s.4.0, s.3, s.4.3, s.6)

module _ (c : ℕ) (ts : List Term) (x y : Term) (env : List Value) (a : World) (n : length ts ≡ 2) (is : x ≡ get_or ts 0 x) (also : y ≡ get_or ts 1 y) where
  abbrev Both : Trees
  Both = trees (view x) (trees (view y) no_trees)

  both : trees_view ts ≡ Both
  both = ap trees_view (pair ts x y n is also)

  pub sense_latter : (b : World) → Moved a b → SenseCall c (trees_view ts) env a → Sense (view y) env b
  sense_latter b m s =
      let s' = subst (λ q. SenseCall c q env a) both s in
      sense_on (view y) env a b m (s'.0, s'.4.4.0, s'.3, s'.4.4.3, s'.6)

  pub fits_both : (v w : Value) (b d : World) → SenseCall c (trees_view ts) env a → EvalsPart (view x) env (Ok v) a b → EvalsPart (view y) env (Ok w) b d → Fits c (v ∷ w ∷ []) × All IsCanonical (v ∷ w ∷ [])
  fits_both v w b d s h g =
      let s' = subst (λ q. SenseCall c q env a) both s in
      let ty = s'.4 in
      let i : Inhabits ty.0 v = comes_typed (types_of a) (values_of a) (view x) s'.0 env ty.0 (done v) s'.3 ty.3 h.gives in
      let g' : Comes (types_of a) (values_of a) env (view y) (done w) = back (λ S T. Comes S T env (view y) (done w)) a b h.moved g.gives in
      let j : Inhabits ty.4.0 w = comes_typed (types_of a) (values_of a) (view y) s'.0 env ty.4.0 (done w) s'.3 ty.4.3 g' in
      let have : HaveTypes s'.1 (v ∷ w ∷ []) = subst (λ q. HaveTypes q (v ∷ w ∷ [])) (sym (ty.2 ∙ ap (λ q. ty.0 ∷ q) (ty.4.2 ∙ ap (λ q. ty.4.0 ∷ q) ty.4.4))) (i, (j, tt)) in
      (prim_fits c s'.1 s'.2 (v ∷ w ∷ []) s'.5 have, types_canonical s'.1 (v ∷ w ∷ []) have)

  pub call_both : (v w : Value) (r : Result Value EvalStop) (b d : World) → EvalsPart (view x) env (Ok v) a b → EvalsPart (view y) env (Ok w) b d → AnswersPrim (meaning c (v ∷ w ∷ [])) r → EvalsCall c (trees_view ts) env r a d
  call_both v w r b d h g m =
      let g' : Comes (types_of a) (values_of a) env (view y) (done w) = back (λ S T. Comes S T env (view y) (done w)) a b h.moved g.gives in
      subst (λ q. EvalsCall c q env r a d) (sym both)
      (record {
        moved = moved_then a b d h.moved g.moved;
        still = λ n. g.still n.1.0 ∙ h.still n.0;
        gives = prim_gives (ArgsCome (types_of a) (values_of a) env Both (λ vs. answered (meaning c vs))) a d (meaning c (v ∷ w ∷ [])) r (λ o e. (done v, h.gives, (done w, g', e))) m;
      })

  -- a comparison of values that stand somewhere
  pub comparison_comes : (v w : Value) (r : Option Bool) → ((S : SourceTypes) (T : Tables) → Comes S T env (view x) (done v)) → ((S : SourceTypes) (T : Tables) → Comes S T env (view y) (done w))
      → IfSome r (λ yes. meaning c (v ∷ w ∷ []) ≡ gives (value.Bool yes)) → IfSome r (λ yes. (S : SourceTypes) (T : Tables) → Comes S T env (Prim c (trees_view ts)) (done (value.Bool yes)))
  comparison_comes v w None f g m = tt
  comparison_comes v w (Some bit) f g m = λ S T. subst (λ q. ArgsCome S T env q (λ vs. answered (meaning c vs)) (done (value.Bool bit))) (sym both) (done v, f S T, (done w, g S T, sym (ap answered m)))

  pub call_latter_stop : (v : Value) (e : EvalStop) (b d : World) → EvalsPart (view x) env (Ok v) a b → EvalsPart (view y) env (Err e) b d → EvalsCall c (trees_view ts) env (Err e) a d
  call_latter_stop v e b d h g =
      subst (λ q. EvalsCall c q env (Err e) a d) (sym both)
      (record {
        moved = moved_then a b d h.moved g.moved;
        still = λ n. g.still n.1.0 ∙ h.still n.0;
        gives = call_stop (Comes (types_of a) (values_of a) env (view y)) (ArgsCome (types_of a) (values_of a) env Both (λ vs. answered (meaning c vs))) a d e (part_from a b d h.moved (Comes (types_of a) (values_of a) env (view y)) (Err e) (back (λ S T. PartGives (Comes S T env (view y)) b d (Err e)) a b h.moved g.gives)) (λ vs k. (done v, h.gives, (over vs, k, refl)));
      })

pub call_former_stop : (c : ℕ) (ts : List Term) (x : Term) (env : List Value) (a b : World) (e : EvalStop) → length ts ≡ 2 → x ≡ get_or ts 0 x → EvalsPart (view x) env (Err e) a b → EvalsCall c (trees_view ts) env (Err e) a b
call_former_stop c [] x env a b e n is h = cc
call_former_stop c (u ∷ ts) x env a b e n is h =
    let h' = subst (λ q. EvalsPart (view q) env (Err e) a b) is h in
    record { moved = h'.moved; still = λ n. h'.still n.0; gives = call_stop (Comes (types_of a) (values_of a) env (view u)) (ArgsCome (types_of a) (values_of a) env (trees_view (u ∷ ts)) (λ vs. answered (meaning c vs))) a b e h'.gives (λ vs d. (over vs, d, refl)) }

-- ---- loops

pub rest_is : (terms : List Term) (i : ℕ) (t : Term) → i < length terms → t ≡ get_or terms i t → trees_view (drop i terms) ≡ trees (view t) (trees_view (drop (i + 1) terms))
rest_is terms i t lt is = at_drop_more trees_view terms i t lt ∙ ap (λ q. trees (view q) (trees_view (drop (i + 1) terms))) (sym is)

pub drop_all : {X : Type 0} (xs : List X) (i : ℕ) → length xs ≤ i → drop i xs ≡ []
drop_all xs i le = grind (arith, common_steps)

before_then : (vs ws : List Value) (f : Flow) → before (vs ++ ws) f ≡ before vs (before ws f)
before_then [] ws f = refl
before_then (v ∷ vs) ws f = ap (more v) (before_then vs ws f)

before_end : (vs : List Value) (e : End) → before vs (stop e) ≡ flow vs e
before_end [] e = refl
before_end (v ∷ vs) e = ap (more v) (before_end vs e)

-- the items of a literal
pub each_starts : (ts : List Term) (env : List Value) (none : List Value) (a : World) → none ≡ [] → SenseEach (trees_view ts) env a → OnEach (trees_view ts) (trees_view ts) env none a a
each_starts ts env none a e s = subst (λ q. OnEach (trees_view ts) (trees_view ts) env q a a) (sym e) (record { moved = moved_none a; still = λ n. (refl, n); sense = s; onward = λ f c. c })

module _ (terms : List Term) (i : ℕ) (t : Term) (whole : Trees) (env now : List Value) (a b : World) (lt : i < length terms) (is : t ≡ get_or terms i t) (inv : OnEach whole (trees_view (drop i terms)) env now a b) where
  abbrev Later : Trees
  Later = trees_view (drop (i + 1) terms)

  at_item : OnEach whole (trees (view t) Later) env now a b
  at_item = subst (λ q. OnEach whole q env now a b) (rest_is terms i t lt is) inv

  item_still : (c : World) → (NoSource (view t) → c ≡ b) → NoSourceInTrees whole → c ≡ a
  item_still c calm n = let m = at_item.still n in calm m.1.0 ∙ m.0

  pub each_sense : Sense (view t) env b
  each_sense = let s = at_item.sense in (s.0, s.1, s.2, s.3.0, s.4)

  pub each_goes : (v : Value) (now' : List Value) (c : World) → Evals (view t) env (Ok v) b c → now' ≡ now ++ v ∷ [] → OnEach whole Later env now' a c
  each_goes v now' c h e =
      let k = at_item in
      record {
        moved = moved_then a b c k.moved h.moved;
        still = λ n. (item_still c h.still n, (k.still n).1.1);
        sense = (k.sense.0, k.sense.1, k.sense.2, onto (λ S. EachType S k.sense.0 Later k.sense.1) b c h.moved k.sense.3.1, ready_on b c h.moved k.sense.4);
        onward = λ f d. subst (λ q. ItemsCome (types_of a) (values_of a) env whole q) (sym (ap (λ q. before q f) e ∙ before_then now (v ∷ []) f))
            (k.onward (more v f) (done v, back (λ S T. Comes S T env (view t) (done v)) a b k.moved h.gives, (f, d, refl)));
      }

  pub each_over : (q : Halt) (vs : Vec Value Global) (ws : Vec Value Global) (c : World) → q ≡ halt.Over vs → Evals (view t) env (Err q) b c → now ≡ ws.items → EvalsEach whole env (Err (halt.Over ws)) a c
  each_over q vs ws c eq h' e =
      let h = subst (λ z. Evals (view t) env (Err z) b c) eq h' in
      let k = at_item in
      record {
        moved = moved_then a b c k.moved h.moved;
        still = item_still c h.still;
        gives = subst (ItemsCome (types_of a) (values_of a) env whole) (before_end now overflow ∙ ap (λ q. flow q overflow) e)
            (k.onward (stop overflow) (over vs.items, back (λ S T. Comes S T env (view t) (over vs.items)) a b k.moved h.gives, refl));
      }

  pub each_lost : (v : Value) (now' : List Value) (q : Halt) (c : World) → Evals (view t) env (Ok v) b c → AppendsAll (v ∷ []) (Err q) now now' → EvalsEach whole env (Err q) a c
  each_lost v now' (halt.Over ws) c h add = absurd add
  each_lost v now' (halt.Driver l e) c h add = absurd add
  each_lost v now' halt.NoMemory c h add = record { moved = moved_then a b c (at_item).moved h.moved; still = item_still c h.still; gives = tt }

  pub each_none : (q : Halt) (c : World) → Evals (view t) env (Err q) b c → EvalsEach whole env (Err halt.NoMemory) a c
  each_none q c h = record { moved = moved_then a b c (at_item).moved h.moved; still = item_still c h.still; gives = tt }

  pub each_refused : (q : Halt) (l : Name) (e : DriverError) (c : World) → q ≡ halt.Driver l e → Evals (view t) env (Err q) b c → EvalsEach whole env (Err (halt.Driver l e)) a c
  each_refused q l e c eq h' =
      let h = subst (λ z. Evals (view t) env (Err z) b c) eq h' in
      record { moved = moved_then a b c (at_item).moved h.moved; still = item_still c h.still; gives = stopped_then l e a b c (at_item).moved h.gives }

pub each_ends : (terms : List Term) (i : ℕ) (whole : Trees) (env : List Value) (ws : Vec Value Global) (a b : World) → length terms ≤ i → OnEach whole (trees_view (drop i terms)) env ws.items a b → EvalsEach whole env (Ok ws) a b
each_ends terms i whole env ws a b le inv =
    let k = subst (λ q. OnEach whole (trees_view q) env ws.items a b) (drop_all terms i le) inv in
    record { moved = k.moved; still = λ n. (k.still n).0; gives = subst (ItemsCome (types_of a) (values_of a) env whole) (before_end ws.items fine) (k.onward (stop fine) refl) }

-- a body at each of some values
pub body_starts : (t : Tree) (vs : List Value) (e : End) (env none : List Value) (a : World) → none ≡ [] → SenseBody t vs env a → OnBody t (flow vs e) (flow vs e) vs env none a a
body_starts t vs e env none a en s = subst (λ q. OnBody t (flow vs e) (flow vs e) vs env q a a) (sym en) (record { moved = moved_none a; still = λ n. refl; sense = s; onward = λ f c. c })

follows_flow : (vs : List Value) (P : Flow → Type 0) (g : Flow) → P g → FollowsFlow (flow vs fine) P (before vs g)
follows_flow [] P g h = h
follows_flow (v ∷ vs) P g h = (before vs g, follows_flow vs P g h, refl)

follows_over : (vs : List Value) (P : Flow → Type 0) → FollowsFlow (flow vs overflow) P (before vs (stop overflow))
follows_over [] P = refl
follows_over (v ∷ vs) P = (before vs (stop overflow), follows_over vs P, refl)

module _ (t : Tree) (vs : List Value) (i : ℕ) (v : Value) (whole : Flow) (e : End) (env now : List Value) (a b : World) (lt : i < length vs) (is : v ≡ get_or vs i v) (inv : OnBody t whole (flow (drop i vs) e) (drop i vs) env now a b) where
  left_is : drop i vs ≡ v ∷ drop (i + 1) vs
  left_is = at_drop_more (λ x. x) vs i v lt ∙ ap (λ q. q ∷ drop (i + 1) vs) (sym is)

  pub at_value : OnBody t whole (more v (flow (drop (i + 1) vs) e)) (v ∷ drop (i + 1) vs) env now a b
  at_value = subst (λ q. OnBody t whole (flow q e) q env now a b) left_is inv

  pub body_goes : (u : Value) (now' : List Value) (c : World) → Evals t (v ∷ env) (Ok u) b c → AddsItems u (Ok tt) now now' → OnBody t whole (flow (drop (i + 1) vs) e) (drop (i + 1) vs) env now' a c
  body_goes u now' c h add =
      let k = at_value in
      let ws : List Value = add.1 in
      let items : items_of (done u) ≡ flow ws fine = ap items_at_all (ap as_collection add.2 ∙ collection_is add.0 ws) in
      record {
        moved = moved_then a b c k.moved h.moved;
        still = λ n. h.still n ∙ k.still n;
        sense = (k.sense.0, k.sense.1, k.sense.2, k.sense.3, k.sense.4, k.sense.5.1, onto (λ S. CoreTypes S (k.sense.1 ∷ k.sense.0) t (coll k.sense.2 k.sense.3)) b c h.moved k.sense.6, ready_on b c h.moved k.sense.7);
        onward = λ f d. subst (Draws (λ v. Comes (types_of a) (values_of a) (v ∷ env) t) whole) (sym (ap (λ q. before q f) add.3 ∙ before_then now ws f))
            (k.onward (before ws f) (
              done u,
              back (λ S T. Comes S T (v ∷ env) t (done u)) a b k.moved h.gives,
              subst (λ q. FollowsFlow q (Draws (λ v. Comes (types_of a) (values_of a) (v ∷ env) t) (flow (drop (i + 1) vs) e)) (before ws f)) (sym items) (follows_flow ws _ f d),
            ));
      }

  pub body_lost : (u : Value) (now' : List Value) (q : Halt) (c : World) → Evals t (v ∷ env) (Ok u) b c → AddsItems u (Err q) now now' → EvalsBody t whole env (Err q) a c
  body_lost u now' (halt.Over ws) c h add = absurd add.3
  body_lost u now' (halt.Driver l e) c h add = absurd add.3
  body_lost u now' halt.NoMemory c h add = record { moved = moved_then a b c (at_value).moved h.moved; still = λ n. h.still n ∙ inv.still n; gives = tt }

  pub body_over : (q r : Halt) (items : List Value) (c : World) → now ≡ items → Evals t (v ∷ env) (Err q) b c → Behind items q r → EvalsBody t whole env (Err r) a c
  body_over (halt.Over ws) (halt.Over us) items c en h m =
      let k = at_value in
      record {
        moved = moved_then a b c k.moved h.moved;
        still = λ n. h.still n ∙ k.still n;
        gives = subst (Draws (λ v. Comes (types_of a) (values_of a) (v ∷ env) t) whole)
            (sym (before_then now ws.items (stop overflow)) ∙ before_end (now ++ ws.items) overflow ∙ ap (λ q. flow q overflow) (ap (λ q. q ++ ws.items) en ∙ sym m))
            (k.onward (before ws.items (stop overflow)) (over ws.items, back (λ S T. Comes S T (v ∷ env) t (over ws.items)) a b k.moved h.gives, follows_over ws.items _));
      }
  body_over (halt.Over ws) halt.NoMemory items c en h m = record { moved = moved_then a b c (at_value).moved h.moved; still = λ n. h.still n ∙ inv.still n; gives = tt }
  body_over (halt.Over ws) (halt.Driver l e) items c en h m = absurd m
  body_over (halt.Driver l e) q items c en h m =
      subst (λ z. EvalsBody t whole env (Err z) a c) (sym m)
      (record { moved = moved_then a b c (at_value).moved h.moved; still = λ n. h.still n ∙ inv.still n; gives = stopped_then l e a b c (at_value).moved h.gives })
  body_over halt.NoMemory (halt.Over us) items c en h m = absurd m
  body_over halt.NoMemory (halt.Driver l e) items c en h m = absurd m
  body_over halt.NoMemory halt.NoMemory items c en h m = record { moved = moved_then a b c (at_value).moved h.moved; still = λ n. h.still n ∙ inv.still n; gives = tt }

pub body_ends : (t : Tree) (vs : List Value) (i : ℕ) (whole : Flow) (e : End) (env : List Value) (ws : List Value) (a b : World) → length vs ≤ i → OnBody t whole (flow (drop i vs) e) (drop i vs) env ws a b
    → Moved a b × Draws (λ v. Comes (types_of a) (values_of a) (v ∷ env) t) whole (flow ws e)
body_ends t vs i whole e env ws a b le inv =
    let k = subst (λ q. OnBody t whole (flow q e) q env ws a b) (drop_all vs i le) inv in
    (k.moved, subst (Draws (λ v. Comes (types_of a) (values_of a) (v ∷ env) t) whole) (before_end ws e) (k.onward (stop e) refl))

pub body_fine : (t : Tree) (vs : List Value) (i : ℕ) (whole : Flow) (past : Bool) (env : List Value) (ws : Vec Value Global) (a b : World) → length vs ≤ i → past ≡ false → OnBody t whole (flow (drop i vs) (end_of past)) (drop i vs) env ws.items a b → EvalsBody t whole env (Ok ws) a b
body_fine t vs i whole past env ws a b le ep inv =
    let d = body_ends t vs i whole (end_of past) env ws.items a b le inv in
    record { moved = d.0; still = inv.still; gives = subst (λ q. Draws (λ v. Comes (types_of a) (values_of a) (v ∷ env) t) whole (flow ws.items (end_of q))) ep d.1 }

pub body_past : (t : Tree) (vs : List Value) (i : ℕ) (whole : Flow) (past : Bool) (env : List Value) (ws : Vec Value Global) (a b : World) → length vs ≤ i → past ≡ true → OnBody t whole (flow (drop i vs) (end_of past)) (drop i vs) env ws.items a b → EvalsBody t whole env (Err (halt.Over ws)) a b
body_past t vs i whole past env ws a b le ep inv =
    let d = body_ends t vs i whole (end_of past) env ws.items a b le inv in
    record { moved = d.0; still = inv.still; gives = subst (λ q. Draws (λ v. Comes (types_of a) (values_of a) (v ∷ env) t) whole (flow ws.items (end_of q))) ep d.1 }

-- the fields of a record
pub fields_starts : (ps : Parts) (env : List Value) (none : List (Name × Value)) (a : World) → none ≡ [] → SenseParts ps env a → OnFields ps ps env none a a
fields_starts ps env none a e s = subst (λ q. OnFields ps ps env q a a) (sym e) (record { moved = moved_none a; still = λ n. (refl, n); sense = s; onward = λ go o c. c })

module _ (fields : List (Name × Term)) (i : ℕ) (p : Name × Term) (whole : Parts) (env : List Value) (now : List (Name × Value)) (a b : World) (lt : i < length fields) (is : p ≡ get_or fields i p) (inv : OnFields whole (parts_view (drop i fields)) env now a b) where
  abbrev Rest : Parts
  Rest = parts_view (drop (i + 1) fields)

  at_field : OnFields whole (parts p.0 (view p.1) Rest) env now a b
  at_field = subst (λ q. OnFields whole q env now a b) (at_drop_more parts_view fields i p lt ∙ ap (λ q. parts q.0 (view q.1) Rest) (sym is)) inv

  field_still : (c : World) → (NoSource (view p.1) → c ≡ b) → NoSourceInParts whole → c ≡ a
  field_still c calm n = let m = at_field.still n in calm m.1.0 ∙ m.0

  pub fields_sense : Sense (view p.1) env b
  fields_sense = let s = at_field.sense in (s.0, s.3.0, s.2, s.3.3, s.4)

  pub fields_goes : (v : Value) (now' : List (Name × Value)) (c : World) → EvalsPart (view p.1) env (Ok v) b c → AddsField p.0 v (Ok tt) now now' → OnFields whole Rest env now' a c
  fields_goes v now' c h e =
      let k = at_field in
      record {
        moved = moved_then a b c k.moved h.moved;
        still = λ n. (field_still c h.still n, (k.still n).1.1);
        sense = (k.sense.0, k.sense.3.1, k.sense.2, onto (λ S. PartTypes S k.sense.0 Rest k.sense.3.1) b c h.moved k.sense.3.4, ready_on b c h.moved k.sense.4);
        onward = λ go o d. k.onward go o (
          done v,
          back (λ S T. Comes S T env (view p.1) (done v)) a b k.moved h.gives,
          subst (λ q. PartsCome (types_of a) (values_of a) env Rest q o) (fun_ext (λ fs. ap go (ap (λ q. q ++ fs) e ∙ append_assoc now ((p.0, v) ∷ []) fs))) d,
        );
      }

  pub fields_lost : (v : Value) (now' : List (Name × Value)) (e : EvalStop) (c : World) → EvalsPart (view p.1) env (Ok v) b c → AddsField p.0 v (Err e) now now' → EvalsFields whole env (Err e) a c
  fields_lost v now' eval_stop.Overflow c h add = absurd add
  fields_lost v now' (eval_stop.Driver l e) c h add = absurd add
  fields_lost v now' eval_stop.NoMemory c h add = record { moved = moved_then a b c (at_field).moved h.moved; still = field_still c h.still; gives = tt }

  pub fields_stops : (e : EvalStop) (c : World) → EvalsPart (view p.1) env (Err e) b c → EvalsFields whole env (Err e) a c
  fields_stops eval_stop.Overflow c h =
      let k = at_field in
      record {
        moved = moved_then a b c k.moved h.moved;
        still = field_still c h.still;
        gives = λ go. k.onward go (over []) (over h.gives.0, back (λ S T. Comes S T env (view p.1) (over h.gives.0)) a b k.moved h.gives.1, refl);
      }
  fields_stops (eval_stop.Driver l e) c h = record { moved = moved_then a b c (at_field).moved h.moved; still = field_still c h.still; gives = stopped_then l e a b c (at_field).moved h.gives }
  fields_stops eval_stop.NoMemory c h = record { moved = moved_then a b c (at_field).moved h.moved; still = field_still c h.still; gives = tt }

pub fields_ends : (fields : List (Name × Term)) (i : ℕ) (whole : Parts) (env : List Value) (fs : Vec (Name × Value) Global) (a b : World) → length fields ≤ i → OnFields whole (parts_view (drop i fields)) env fs.items a b → EvalsFields whole env (Ok fs) a b
fields_ends fields i whole env fs a b le inv =
    let k = subst (λ q. OnFields whole (parts_view q) env fs.items a b) (drop_all fields i le) inv in
    record { moved = k.moved; still = λ n. (k.still n).0; gives = λ go. k.onward go (go fs.items) (sym (ap go (append-nil fs.items))) }

-- ---- the place of a label

next_place : {X : Type 0} (l : Name) (bs : List (Name × X)) (i : ℕ) (p : Name × X) → i < length bs → p ≡ get_or bs i p → drop i bs ≡ p ∷ drop (i + 1) bs
next_place l bs i p lt is = at_drop_more (λ x. x) bs i p lt ∙ ap (λ q. q ∷ drop (i + 1) bs) (sym is)

pub place_here : {X : Type 0} (l : Name) (bs : List (Name × X)) (i : ℕ) (p : Name × X) → i < length bs → p ≡ get_or bs i p → (b : Bool) → b ≡ pointwise nat_eq l (get_or bs i p).0 → b ≡ true → place_of l bs ≡ option_map (λ k. i + k) (place_of l (drop i bs)) → Some i ≡ place_of l bs
place_here l bs i p lt is b eb et inv =
    let e : pointwise nat_eq l p.0 ≡ true = ap (λ q. pointwise nat_eq l q.0) is ∙ sym eb ∙ et in
    let f : place_of l (drop i bs) ≡ Some 0 = ap (place_of l) (next_place l bs i p lt is) ∙ ap (λ b. cond b (Some 0) (option_map suc (place_of l (drop (i + 1) bs)))) e in
    sym (inv ∙ ap (option_map (λ k. i + k)) f ∙ ap Some (grind arith))

pub place_next : {X : Type 0} (l : Name) (bs : List (Name × X)) (i : ℕ) (p : Name × X) → i < length bs → p ≡ get_or bs i p → (b : Bool) → b ≡ pointwise nat_eq l (get_or bs i p).0 → b ≡ false → place_of l bs ≡ option_map (λ k. i + k) (place_of l (drop i bs)) → place_of l bs ≡ option_map (λ k. i + 1 + k) (place_of l (drop (i + 1) bs))
place_next l bs i p lt is b eb et inv =
    let e : pointwise nat_eq l p.0 ≡ false = ap (λ q. pointwise nat_eq l q.0) is ∙ sym eb ∙ et in
    let f : place_of l (drop i bs) ≡ option_map suc (place_of l (drop (i + 1) bs)) = ap (place_of l) (next_place l bs i p lt is) ∙ ap (λ b. cond b (Some 0) (option_map suc (place_of l (drop (i + 1) bs)))) e in
    inv ∙ ap (option_map (λ k. i + k)) f ∙ go (place_of l (drop (i + 1) bs))
  where
    go : (o : Option ℕ) → option_map (λ k. i + k) (option_map suc o) ≡ option_map (λ k. i + 1 + k) o
    go (Some k) = ap Some (grind arith)
    go None = refl

pub place_ends : {X : Type 0} (l : Name) (bs : List (Name × X)) (i : ℕ) → length bs ≤ i → place_of l bs ≡ option_map (λ k. i + k) (place_of l (drop i bs)) → None ≡ place_of l bs
place_ends l bs i le inv = sym (inv ∙ ap (λ q. option_map (λ k. i + k) (place_of l q)) (drop_all bs i le))
