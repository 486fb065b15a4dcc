-- Values of plans, from what the code has.
use Rattle.std.proofs.Common.{◌≡◌, ℕ, ◌<◌, Bool, true, false, cond, List, ◌∷◌, length, map, get_or, Option, Some, None, IsSome, Result, Vec, Ok, Err, slice_get, refl, sym, ap, subst, ◌∙◌, rules, IfOk}
use Rattle.std.specs.declared.alloc.Global.{Global}
use Rattle.std.proofs.lemmas.Option.{slice_get_read}
use Rattle.kl_value.specs.Views.{as_bool, field_at, IsBool, IsCollection}
use Rattle.kl_value.specs.declared.Kind.{Kind}
use Rattle.kl_value.specs.declared.Value.{Value}
use Rattle.kl_value.specs.declared.Value.TheVariants as value
use Rattle.kl_outcome.specs.Outcome.{Name, done, as_variant}
use Rattle.kl_core.specs.Trees.{view as term_view}
use Rattle.kl_core.specs.declared.term.Term.{Term}
use Rattle.kl_scans.specs.Over.{IsUndriven, IsUndrivenPart}
use Rattle.kl_scans.specs.Running.{Running, session}
use Rattle.kl_eval.specs.Evals.{TellsPart, TellsPlain, SensePlain}
use Rattle.kl_eval.specs.Steps.{AnswersOutcome, Outside, Gathers, place_of, TellsTruth, Joins}
use Rattle.kl_eval.specs.declared.stop.EvalStop.{EvalStop}
use Rattle.kl_eval.specs.declared.stop.Halt.{Halt}
use Rattle.kl_plan.specs.declared.plan.Plan.{Plan, the_lemmas}
use Rattle.kl_plan.specs.declared.plan.Plan.TheVariants as plans
use Rattle.kl_plan.specs.declared.plan.Scan.{Scan}
use Rattle.kl_plan.specs.Nodes as node
use Rattle.kl_plan.specs.Nodes.{Node, rest, branches_of, view, view_branch, nodes_view, fields_view}
use Rattle.kl_plan.specs.Joins.{other_node}
use Rattle.kl_plan.proofs.Views.{view_Var, view_Rec, view_Proj, view_Inj, view_Case, view_Make, view_Union, view_Ext, view_If, view_Let, view_Prim, view_Scan}
use Rattle.kl_cursor.specs.Left.{fresh}
use Rattle.kl_cursor.specs.Sense.{HasWorth, HasFields, HasCall, Stands}
use Rattle.kl_cursor.specs.Steps.{ComesTo, Wholly, Partly, Drains, FieldsGive, CallGives}
use Rattle.kl_cursor.proofs.Comings.{whole_as, worth_as, worth_on, head_sense, head_stop, makes, lead_sense, leads, binds_lead}
use Rattle.kl_cursor.proofs.ValueForms.{heads_let, heads_if, heads_case, heads_proj, heads_inj, makes_proj, makes_inj, field_there, binds_let, leads_if, test_there, variant_there, binds_branch, no_rest, leads_rest, plain_part, plain_whole, plain_sense, var_whole, var_there, union_first_sense, union_second_sense, first_there, second_there, union_whole, union_first}
use Rattle.kl_cursor.proofs.ValueDrain.{ComesAsItems, make_items, loop_items, scan_items, gathers, items_stand}
use Rattle.kl_cursor.proofs.ValueParts.{rec_sense, rec_whole, rec_stop, prim_sense, prim_whole, prim_stop}

-- ---- parts without sources, and values of positions

pub view_Plain : (m : Term) → view (plans.Plain m) ≡ node.Plain (term_view m)
view_Plain m = search (rules, the_lemmas)

at_Plain : (t : Plan) (m : Term) → t ≡ plans.Plain m → view t ≡ node.Plain (term_view m)
at_Plain t m e = ap view e ∙ view_Plain m

pub code_plain_sense : (env : List Value) (t : Plan) (m : Term) (w : Running) → t ≡ plans.Plain m → HasWorth w (view t) env → SensePlain (term_view m) env (session w)
code_plain_sense env t m w e h = plain_sense env (term_view m) w (worth_as env (view t) (node.Plain (term_view m)) w (at_Plain t m e) h)

pub code_plain : (env : List Value) (t : Plan) (m : Term) (r : Result Value Halt) (w x : Running) → t ≡ plans.Plain m → x ≡ w → TellsPlain (session w) (term_view m) env r → IsUndriven r → Wholly env (view t) r w x
code_plain env t m r w x e f h i = whole_as env (view t) (node.Plain (term_view m)) r w x (at_Plain t m e) (plain_whole env (term_view m) r w x f h i)

pub code_part : (env : List Value) (t : Plan) (m : Term) (r : Result Value EvalStop) (w x : Running) → t ≡ plans.Plain m → x ≡ w → TellsPart (session w) (term_view m) env r → IsUndrivenPart r → Partly env (view t) r w x
code_part env t m r w x e f h i = subst (λ z. Partly env z r w x) (sym (at_Plain t m e)) (plain_part env (term_view m) r w x f h i)

pub at_Var : (t : Plan) (x : ℕ) → t ≡ plans.Var x → view t ≡ node.Var x
at_Var t x e = ap view e ∙ view_Var x

pub code_var_sense : (env : List Value) (t : Plan) (x : ℕ) (w : Running) → t ≡ plans.Var x → HasWorth w (view t) env → IsSome (slice_get env x)
code_var_sense env t x w e h = var_there env x w (worth_as env (view t) (node.Var x) w (at_Var t x e) h)

pub code_var : (env : List Value) (t : Plan) (x : ℕ) (v : Value) (r : Result Value Halt) (w : Running) → t ≡ plans.Var x → slice_get env x ≡ Some v → AnswersOutcome (done v) r → Wholly env (view t) r w w
code_var env t x v r w e g k = whole_as env (view t) (node.Var x) r w w (at_Var t x e) (var_whole env x v r w g k)

-- ---- records

module _ (env : List Value) (t : Plan) (fs gs : List (Name × Plan)) (w : Running) (et : t ≡ plans.Rec fs) (eg : gs ≡ fs) where
  at_Rec : view t ≡ node.Rec (fields_view gs)
  at_Rec = ap view et ∙ view_Rec fs ∙ ap (λ q. node.Rec (fields_view q)) (sym eg)

  pub code_rec_sense : HasWorth w (view t) env → HasFields w (fields_view gs) env
  code_rec_sense h = rec_sense env (fields_view gs) w (worth_as env (view t) (node.Rec (fields_view gs)) w at_Rec h)

  pub code_rec : (ks : Vec (Name × Value) Global) (js : List (Name × Value)) (x : Running) → js ≡ ks.items → FieldsGive env (fields_view gs) (Ok ks) w x → Wholly env (view t) (Ok (value.Rec js)) w x
  code_rec ks js x e h = whole_as env (view t) (node.Rec (fields_view gs)) (Ok (value.Rec js)) w x at_Rec (rec_whole env (fields_view gs) ks js w x e h)

  pub code_rec_stop : (e : EvalStop) (h : Halt) (x : Running) → FieldsGive env (fields_view gs) (Err e) w x → Outside e h → Wholly env (view t) (Err h) w x
  code_rec_stop e h x k o = whole_as env (view t) (node.Rec (fields_view gs)) (Err h) w x at_Rec (rec_stop env (fields_view gs) e h w x k o)

module _ (env : List Value) (t : Plan) (l : Name) (a b : Plan) (w : Running) (et : t ≡ plans.Proj l a) (eb : b ≡ a) where
  at_Proj : view t ≡ node.Proj l (view b)
  at_Proj = ap view et ∙ view_Proj l a ∙ ap (λ q. node.Proj l (view q)) (sym eb)

  pub code_proj_sense : HasWorth w (view t) env → HasWorth w (view b) env
  code_proj_sense h = head_sense env (node.Proj l (view b)) (view b) w (heads_proj env l (view b) w) (worth_as env (view t) (node.Proj l (view b)) w at_Proj h)

  pub code_field : (v v' : Value) (x : Running) → v' ≡ v → HasWorth w (view t) env → ComesTo env (view b) (done v) w x → IsSome (field_at l v')
  code_field v v' x e h k = subst (λ z. IsSome (field_at l z)) (sym e) (field_there env l (view b) v w x (worth_as env (view t) (node.Proj l (view b)) w at_Proj h) k)

  pub code_proj : (v v' u : Value) (r : Result Value Halt) (x : Running) → v' ≡ v → ComesTo env (view b) (done v) w x → field_at l v' ≡ Some u → AnswersOutcome (done u) r → Wholly env (view t) r w x
  code_proj v v' u r x e h g k = whole_as env (view t) (node.Proj l (view b)) r w x at_Proj (makes env (node.Proj l (view b)) (view b) v u r w x (makes_proj env l (view b) v u w (ap (field_at l) (sym e) ∙ g)) h k)

  pub code_proj_stop : (e : EvalStop) (h : Halt) (x : Running) → Partly env (view b) (Err e) w x → Outside e h → Wholly env (view t) (Err h) w x
  code_proj_stop e h x k o = whole_as env (view t) (node.Proj l (view b)) (Err h) w x at_Proj (head_stop env (node.Proj l (view b)) (view b) e h w x (heads_proj env l (view b) w) k o)

module _ (env : List Value) (t : Plan) (l : Name) (a b : Plan) (w : Running) (et : t ≡ plans.Inj l a) (eb : b ≡ a) where
  at_Inj : view t ≡ node.Inj l (view b)
  at_Inj = ap view et ∙ view_Inj l a ∙ ap (λ q. node.Inj l (view q)) (sym eb)

  pub code_inj_sense : HasWorth w (view t) env → HasWorth w (view b) env
  code_inj_sense h = head_sense env (node.Inj l (view b)) (view b) w (heads_inj env l (view b) w) (worth_as env (view t) (node.Inj l (view b)) w at_Inj h)

  pub code_inj : (v : Value) (r : Result Value Halt) (x : Running) → ComesTo env (view b) (done v) w x → AnswersOutcome (done (value.Inj l v)) r → Wholly env (view t) r w x
  code_inj v r x h k = whole_as env (view t) (node.Inj l (view b)) r w x at_Inj (makes env (node.Inj l (view b)) (view b) v (value.Inj l v) r w x (makes_inj env l (view b) v w) h k)

  pub code_inj_stop : (e : EvalStop) (h : Halt) (x : Running) → Partly env (view b) (Err e) w x → Outside e h → Wholly env (view t) (Err h) w x
  code_inj_stop e h x k o = whole_as env (view t) (node.Inj l (view b)) (Err h) w x at_Inj (head_stop env (node.Inj l (view b)) (view b) e h w x (heads_inj env l (view b) w) k o)

-- ---- what is bound, and a choice

module _ (env : List Value) (t a b a' : Plan) (w : Running) (et : t ≡ plans.Let a b) (ea : a' ≡ a) where
  pub at_Let : view t ≡ node.Let (view a') (view b)
  at_Let = ap view et ∙ view_Let a b ∙ ap (λ q. node.Let (view q) (view b)) (sym ea)

  pub code_let_sense : HasWorth w (view t) env → HasWorth w (view a') env
  code_let_sense h = head_sense env (node.Let (view a') (view b)) (view a') w (heads_let env (view a') (view b) w) (worth_as env (view t) (node.Let (view a') (view b)) w at_Let h)

  module _ (b' : Plan) (v : Value) (x : Running) (eb : b' ≡ b) (k : ComesTo env (view a') (done v) w x) where
    pub code_body_sense : HasWorth w (view t) env → HasWorth x (view b') (v ∷ env)
    code_body_sense h = subst (λ z. HasWorth x (view z) (v ∷ env)) (sym eb)
        (lead_sense env (node.Let (view a') (view b)) (view a') v (v ∷ env) (view b) w x (binds_lead env _ _ v v (view b) w (binds_let env (view a') (view b) v w)) k (worth_as env (view t) (node.Let (view a') (view b)) w at_Let h))

    pub code_let : (r : Result Value Halt) (y : Running) → Wholly (v ∷ env) (view b') r x y → Wholly env (view t) r w y
    code_let r y m = whole_as env (view t) (node.Let (view a') (view b)) r w y at_Let
        (leads env (node.Let (view a') (view b)) (view a') v (v ∷ env) (view b) r w x y (binds_lead env _ _ v v (view b) w (binds_let env (view a') (view b) v w)) k (subst (λ z. Wholly (v ∷ env) (view z) r x y) eb m))

  pub code_let_stop : (e : EvalStop) (h : Halt) (x : Running) → Partly env (view a') (Err e) w x → Outside e h → Wholly env (view t) (Err h) w x
  code_let_stop e h x k o = whole_as env (view t) (node.Let (view a') (view b)) (Err h) w x at_Let (head_stop env (node.Let (view a') (view b)) (view a') e h w x (heads_let env (view a') (view b) w) k o)

pub cond_view : (y : Bool) (b c : Plan) → view (cond y b c) ≡ cond y (view b) (view c)
cond_view true b c = refl
cond_view false b c = refl

-- what a test comes to
pub tested_value : (env : List Value) (p : Node) (q : Result Value EvalStop) (y : Bool) (w x : Running) → Partly env p q w x → (told : TellsTruth q (Ok y)) → ComesTo env p (done told.0) w x
tested_value env p q y w x h told = subst (λ z. Partly env p z w x) told.1 h

pub tested_stop : (env : List Value) (p : Node) (q : Result Value EvalStop) (e : EvalStop) (w x : Running) → Partly env p q w x → TellsTruth q (Err e) → Partly env p (Err e) w x
tested_stop env p q e w x h told = subst (λ z. Partly env p z w x) told h

module _ (env : List Value) (t a b c a' : Plan) (w : Running) (et : t ≡ plans.If a b c) (ea : a' ≡ a) where
  pub at_If : view t ≡ node.If (view a') (view b) (view c)
  at_If = ap view et ∙ view_If a b c ∙ ap (λ q. node.If (view q) (view b) (view c)) (sym ea)

  pub code_if_sense : HasWorth w (view t) env → HasWorth w (view a') env
  code_if_sense h = head_sense env (node.If (view a') (view b) (view c)) (view a') w (heads_if env (view a') (view b) (view c) w) (worth_as env (view t) (node.If (view a') (view b) (view c)) w at_If h)

  pub code_test : (q : Result Value EvalStop) (x : Running) → HasWorth w (view t) env → Partly env (view a') q w x → IfOk q IsBool
  code_test (Ok v) x h k = test_there env (view a') (view b) (view c) v w x (worth_as env (view t) (node.If (view a') (view b) (view c)) w at_If h) k
  code_test (Err z) x h k = tt

  module _ (q : Result Value EvalStop) (d : Plan) (y z : Bool) (x : Running) (ed : d ≡ cond z b c) (ez : y ≡ z) (k : Partly env (view a') q w x) (told : TellsTruth q (Ok y)) where
    tested : as_bool told.0 ≡ Some z
    tested = told.2 ∙ ap Some ez

    pub code_picked_sense : HasWorth w (view t) env → HasWorth x (view d) env
    code_picked_sense h = subst (λ n. HasWorth x n env) (sym (ap view ed ∙ cond_view z b c))
        (lead_sense env (node.If (view a') (view b) (view c)) (view a') told.0 env (cond z (view b) (view c)) w x (leads_if env (view a') (view b) (view c) told.0 z w tested)
        (tested_value env (view a') q y w x k told) (worth_as env (view t) (node.If (view a') (view b) (view c)) w at_If h))

    pub code_if : (r : Result Value Halt) (v : Running) → Wholly env (view d) r x v → Wholly env (view t) r w v
    code_if r v m = whole_as env (view t) (node.If (view a') (view b) (view c)) r w v at_If
        (leads env (node.If (view a') (view b) (view c)) (view a') told.0 env (cond z (view b) (view c)) r w x v (leads_if env (view a') (view b) (view c) told.0 z w tested)
        (tested_value env (view a') q y w x k told) (subst (λ n. Wholly env n r x v) (ap view ed ∙ cond_view z b c) m))

  pub code_if_stop : (q : Result Value EvalStop) (e : EvalStop) (h : Halt) (x : Running) → Partly env (view a') q w x → TellsTruth q (Err e) → Outside e h → Wholly env (view t) (Err h) w x
  code_if_stop q e h x k told o = whole_as env (view t) (node.If (view a') (view b) (view c)) (Err h) w x at_If
      (head_stop env (node.If (view a') (view b) (view c)) (view a') e h w x (heads_if env (view a') (view b) (view c) w) (tested_stop env (view a') q e w x k told) o)

-- ---- branches

pub found : (l : Name) (ps qs rs : List (Name × Plan)) (i : ℕ) (p : Name × Plan) → qs ≡ ps → rs ≡ ps → Some i ≡ place_of l qs → i < length qs → p ≡ get_or rs i p → (place_of l ps ≡ Some i) × (slice_get ps i ≡ Some p)
found l ps qs rs i p eq er e lt is =
    (sym (e ∙ ap (place_of l) eq), slice_get_read ps (length ps) i p refl (subst (λ q. i < length q) eq lt) (subst (λ q. p ≡ get_or q i p) er is))

pub missing : (l : Name) (ps qs : List (Name × Plan)) → qs ≡ ps → None ≡ place_of l qs → place_of l ps ≡ None
missing l ps qs eq e = sym (e ∙ ap (place_of l) eq)

module _ (env : List Value) (t a a' : Plan) (ps : List (Name × Plan)) (c : Option Plan) (w : Running) (et : t ≡ plans.Case a ps c) (ea : a' ≡ a) where
  abbrev CaseOf : Node
  CaseOf = node.Case (view a') (branches_of (map view_branch ps) (other_node c))

  pub at_Case : view t ≡ CaseOf
  at_Case = ap view et ∙ view_Case a ps c ∙ ap (λ q. node.Case (view q) (branches_of (map view_branch ps) (other_node c))) (sym ea)

  pub code_case_sense : HasWorth w (view t) env → HasWorth w (view a') env
  code_case_sense h = head_sense env CaseOf (view a') w (heads_case env (view a') (branches_of (map view_branch ps) (other_node c)) w) (worth_as env (view t) CaseOf w at_Case h)

  pub code_case_stop : (e : EvalStop) (h : Halt) (x : Running) → Partly env (view a') (Err e) w x → Outside e h → Wholly env (view t) (Err h) w x
  code_case_stop e h x k o = whole_as env (view t) CaseOf (Err h) w x at_Case (head_stop env CaseOf (view a') e h w x (heads_case env (view a') (branches_of (map view_branch ps) (other_node c)) w) k o)

  module _ (v : Value) (x : Running) (subject : ComesTo env (view a') (done v) w x) where
    pub code_variant : HasWorth w (view t) env → IsSome (as_variant v)
    code_variant h = variant_there env (view a') (branches_of (map view_branch ps) (other_node c)) v w x (worth_as env (view t) CaseOf w at_Case h) subject

    module _ (l : Name) (u : Value) (ev : as_variant v ≡ Some (l, u)) where
      pub code_branch_sense : (i : ℕ) (b : Name × Plan) → (place_of l ps ≡ Some i) × (slice_get ps i ≡ Some b) → HasWorth w (view t) env → HasWorth x (view b.1) (u ∷ env)
      code_branch_sense i b g h = lead_sense env CaseOf (view a') v (u ∷ env) (view b.1) w x (binds_lead env _ _ v u (view b.1) w (binds_branch env (view a') v l u ps (other_node c) w ev i b g.0 g.1)) subject (worth_as env (view t) CaseOf w at_Case h)

      pub code_branch : (i : ℕ) (b : Name × Plan) (r : Result Value Halt) (y : Running) → (place_of l ps ≡ Some i) × (slice_get ps i ≡ Some b) → Wholly (u ∷ env) (view b.1) r x y → Wholly env (view t) r w y
      code_branch i b r y g m = whole_as env (view t) CaseOf r w y at_Case
          (leads env CaseOf (view a') v (u ∷ env) (view b.1) r w x y (binds_lead env _ _ v u (view b.1) w (binds_branch env (view a') v l u ps (other_node c) w ev i b g.0 g.1)) subject m)

      pub code_no_rest : HasWorth w (view t) env → place_of l ps ≡ None → c ≡ None → ⊥
      code_no_rest h g ec = no_rest env (view a') v l u ps (other_node c) w ev x (worth_as env (view t) CaseOf w at_Case h) subject g (ap other_node ec)

      rest_at : (d d' : Plan) → c ≡ Some d → d' ≡ d → other_node c ≡ rest (view d')
      rest_at d d' ec ed = ap other_node ec ∙ ap (λ z. rest (view z)) (sym ed)

      pub code_rest_sense : (d d' : Plan) → place_of l ps ≡ None → c ≡ Some d → d' ≡ d → HasWorth w (view t) env → HasWorth x (view d') env
      code_rest_sense d d' g ec ed h = lead_sense env CaseOf (view a') v env (view d') w x (leads_rest env (view a') v l u ps (other_node c) w ev (view d') g (rest_at d d' ec ed)) subject (worth_as env (view t) CaseOf w at_Case h)

      pub code_rest : (d d' : Plan) (r : Result Value Halt) (y : Running) → place_of l ps ≡ None → c ≡ Some d → d' ≡ d → Wholly env (view d') r x y → Wholly env (view t) r w y
      code_rest d d' r y g ec ed m = whole_as env (view t) CaseOf r w y at_Case
          (leads env CaseOf (view a') v env (view d') r w x y (leads_rest env (view a') v l u ps (other_node c) w ev (view d') g (rest_at d d' ec ed)) subject m)

-- ---- two collections

module _ (env : List Value) (t a b a' : Plan) (w : Running) (et : t ≡ plans.Union a b) (ea : a' ≡ a) where
  pub at_Union : view t ≡ node.Union (view a') (view b)
  at_Union = ap view et ∙ view_Union a b ∙ ap (λ q. node.Union (view q) (view b)) (sym ea)

  there : HasWorth w (view t) env → HasWorth w (node.Union (view a') (view b)) env
  there h = worth_as env (view t) (node.Union (view a') (view b)) w at_Union h

  pub code_first_sense : HasWorth w (view t) env → HasWorth w (view a') env
  code_first_sense h = union_first_sense env (view a') (view b) w (there h)

  pub code_first : (v : Value) (x : Running) → HasWorth w (view t) env → ComesTo env (view a') (done v) w x → IsCollection v
  code_first v x h k = first_there env (view a') (view b) v w x (there h) k

  pub code_union_first : (h : Halt) (x : Running) → Wholly env (view a') (Err h) w x → Wholly env (view t) (Err h) w x
  code_union_first h x k = whole_as env (view t) (node.Union (view a') (view b)) (Err h) w x at_Union (union_first env (view a') (view b) h w x k)

  module _ (b' : Plan) (v : Value) (x : Running) (eb : b' ≡ b) (k : ComesTo env (view a') (done v) w x) where
    pub code_second_sense : HasWorth w (view t) env → HasWorth x (view b') env
    code_second_sense h =
        let s = union_second_sense env (view a') (view b) w (there h) in
        subst (λ z. HasWorth x (view z) env) (sym eb) (worth_on env (view b) w x k.moves s)

    pub code_second : (r : Result Value Halt) (y : Running) → HasWorth w (view t) env → Wholly env (view b') r x y → IfOk r IsCollection
    code_second (Ok u) y h m = second_there env (view a') (view b) u w x y k.moves (there h) (subst (λ z. ComesTo env (view z) (done u) x y) eb m)
    code_second (Err e) y h m = tt

    pub code_union : (q r : Result Value Halt) (y : Running) → Wholly env (view b') q x y → Joins v q r → Wholly env (view t) r w y
    code_union q r y m j = whole_as env (view t) (node.Union (view a') (view b)) r w y at_Union (union_whole env (view a') (view b) v q r w x y k (subst (λ z. Wholly env (view z) q x y) eb m) j)

-- ---- what is drained

module _ (env : List Value) (p : Plan) (q : Node) (k : Kind) (w : Running) (at : view p ≡ q) (items : ComesAsItems w q env k) where
  drained_stands : HasWorth w (view p) env → Stands w (fresh (view p)) env
  drained_stands h = subst (λ z. Stands w (fresh z) env) (sym at) (items_stand env q k w w items (worth_as env (view p) q w at h))

  drained_whole : (d : Result (Vec Value Global) Halt) (r : Result Value Halt) (x : Running) → Drains env (fresh (view p)) d w x → Gathers k d r → Wholly env (view p) r w x
  drained_whole d r x h g = whole_as env (view p) q r w x at (gathers env q k w x items d r (subst (λ z. Drains env (fresh z) d w x) at h) g)

module _ (env : List Value) (p : Plan) (k : Kind) (ps : List Plan) (w : Running) (e : p ≡ plans.Make k ps) where
  pub code_make_ready : HasWorth w (view p) env → Stands w (fresh (view p)) env
  code_make_ready = drained_stands env p (node.Make k (nodes_view ps)) k w (ap view e ∙ view_Make k ps) (make_items w k (nodes_view ps) env)

  pub code_make : (d : Result (Vec Value Global) Halt) (r : Result Value Halt) (x : Running) → Drains env (fresh (view p)) d w x → Gathers k d r → Wholly env (view p) r w x
  code_make = drained_whole env p (node.Make k (nodes_view ps)) k w (ap view e ∙ view_Make k ps) (make_items w k (nodes_view ps) env)

module _ (env : List Value) (p : Plan) (k : Kind) (b s : Plan) (w : Running) (e : p ≡ plans.Ext k b s) where
  pub code_loop_ready : HasWorth w (view p) env → Stands w (fresh (view p)) env
  code_loop_ready = drained_stands env p (node.Ext k (view b) (view s)) k w (ap view e ∙ view_Ext k b s) (loop_items w k (view b) (view s) env)

  pub code_loop : (d : Result (Vec Value Global) Halt) (r : Result Value Halt) (x : Running) → Drains env (fresh (view p)) d w x → Gathers k d r → Wholly env (view p) r w x
  code_loop = drained_whole env p (node.Ext k (view b) (view s)) k w (ap view e ∙ view_Ext k b s) (loop_items w k (view b) (view s) env)

module _ (env : List Value) (p : Plan) (c : Scan) (w : Running) (e : p ≡ plans.Scan c) where
  pub code_scan_ready : HasWorth w (view p) env → Stands w (fresh (view p)) env
  code_scan_ready = drained_stands env p (node.Scan c) c.kind w (ap view e ∙ view_Scan c) (scan_items w c env)

  pub code_scan : (d : Result (Vec Value Global) Halt) (r : Result Value Halt) (x : Running) → Drains env (fresh (view p)) d w x → Gathers c.kind d r → Wholly env (view p) r w x
  code_scan = drained_whole env p (node.Scan c) c.kind w (ap view e ∙ view_Scan c) (scan_items w c env)

-- ---- a primitive

module _ (env : List Value) (t : Plan) (c : ℕ) (ps qs : List Plan) (w : Running) (et : t ≡ plans.Prim c ps) (eq : qs ≡ ps) where
  pub at_Prim : view t ≡ node.Prim c (nodes_view qs)
  at_Prim = ap view et ∙ view_Prim c ps ∙ ap (λ z. node.Prim c (nodes_view z)) (sym eq)

  pub code_call_sense : HasWorth w (view t) env → HasCall w c (nodes_view qs) env
  code_call_sense h = prim_sense env c (nodes_view qs) w (worth_as env (view t) (node.Prim c (nodes_view qs)) w at_Prim h)

  pub code_call : (v : Value) (x : Running) → CallGives env c (nodes_view qs) (Ok v) w x → Wholly env (view t) (Ok v) w x
  code_call v x h = whole_as env (view t) (node.Prim c (nodes_view qs)) (Ok v) w x at_Prim (prim_whole env c (nodes_view qs) v w x h)

  pub code_call_stop : (e : EvalStop) (h : Halt) (x : Running) → CallGives env c (nodes_view qs) (Err e) w x → Outside e h → Wholly env (view t) (Err h) w x
  code_call_stop e h x k o = whole_as env (view t) (node.Prim c (nodes_view qs)) (Err h) w x at_Prim (prim_stop env c (nodes_view qs) e h w x k o)
