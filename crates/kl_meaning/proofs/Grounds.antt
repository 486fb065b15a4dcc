-- Derivations give proper types.
use Rattle.std.proofs.Common.{◌≡◌, ℕ, Bool, true, false, IsTrue, List, [], ◌∷◌, cond, Option, Some, None, IsSome, refl, sym, ap, subst, rules}
use Rattle.std.specs.List.{AllByRecursion}
use Rattle.std.specs.Cmp.Lexicographic.{pointwise}
use Rattle.std.specs.Prelude.{nat_eq}
use Rattle.kl_base.specs.Fields.{field}
use Rattle.kl_type.specs.Ground.{Ground, Row, var, coll as colls, no_row, row, at, IsGround, IsRow}
use Rattle.kl_type.proofs.RowLemmas.{same_label}
use Rattle.kl_outcome.specs.Outcome.{Name}
use Rattle.kl_outcome.proofs.Grounds.{at_ground, prim_ground}
use Rattle.kl_syntax.specs.declared.tree.Op.{Op}
use Rattle.kl_syntax.specs.declared.tree.Op.TheVariants as op
use Rattle.kl_syntax.specs.declared.tree.Tail.{Tail}
use Rattle.kl_syntax.specs.declared.tree.Tail.TheVariants as tail
use Rattle.kl_syntax.specs.declared.tree.Word.{Word}
use Rattle.kl_syntax.specs.Syntax.{Pat, catch, any, same, is, shape as record_of, variant, Pats, no_pats, pats, Exp, Const, name, Call, Rec, More, Inj, Coll, Comp, If, Let, Case, Path, Not, Neg, Chain, Exps, no_exps, exps, Quals, no_quals, draw, test, Branches, no_branches, otherwise, branch, Steps, no_steps, step, Decls, no_decls, constant, function}
use Rattle.kl_meaning.specs.Match.{same_name}
use Rattle.kl_meaning.specs.Run.{code_named}
use Rattle.kl_meaning.specs.Typing.{Context, AreGround, Sort, nothing, value_of, function_of, primitive, ValueTypes, CallTypes, VariableOr, NameTypes, BindsRest, Takes, TakesFields, OpTypes, PathTypes, Types, AllTypes, QualTypes, BranchTypes, StepTypes, has_branch, sort_at, sort_if, with_sort, types_at_first, types_after, FunctionTypes, KnownTypes, ProgramTypes}

some_ground : (b : Bool) (u t : Ground) (o : Option Ground) → IsGround u → (o ≡ Some t → IsGround t) → cond b (Some u) o ≡ Some t → IsGround t
some_ground true u t o g k e = let d : u ≡ t = cc in subst IsGround d g
some_ground false u t o g k e = k e

pub field_ground : (x : Name) (G : Context) (t : Ground) → AreGround G → field x G ≡ Some t → IsGround t
field_ground x [] t g e = let d : ⊥ = cc in absurd d
field_ground x (b ∷ G) t g e = some_ground (pointwise nat_eq x b.0) b.1 t (field x G) g.0 (field_ground x G t g.1) e

pub op_ground : (c : Op) (s u t : Ground) → IsGround s → IsGround u → OpTypes c s u t → IsGround t
op_ground op.And s u t g k h = subst IsGround (sym h.2) tt
op_ground op.Or s u t g k h = subst IsGround (sym h.2) tt
op_ground op.Append s u t g k h = subst IsGround (sym h.4) g
op_ground op.Eq s u t g k h = prim_ground _ _ t (g, (k, tt)) h
op_ground op.Ne s u t g k h = prim_ground _ _ t (g, (k, tt)) h
op_ground op.Lt s u t g k h = prim_ground _ _ t (g, (k, tt)) h
op_ground op.Le s u t g k h = prim_ground _ _ t (g, (k, tt)) h
op_ground op.Gt s u t g k h = prim_ground _ _ t (g, (k, tt)) h
op_ground op.Ge s u t g k h = prim_ground _ _ t (g, (k, tt)) h
op_ground op.Add s u t g k h = prim_ground _ _ t (g, (k, tt)) h
op_ground op.Sub s u t g k h = prim_ground _ _ t (g, (k, tt)) h
op_ground op.Cat s u t g k h = prim_ground _ _ t (g, (k, tt)) h
op_ground op.Mul s u t g k h = prim_ground _ _ t (g, (k, tt)) h

pub path_ground : (ls : List Word) (s t : Ground) → IsGround s → PathTypes ls s t → IsGround t
path_ground [] s t g h = subst IsGround h g
path_ground (l ∷ ls) s t g h = path_ground ls h.1 t (at_ground l.text h.0 h.1 (subst IsGround h.2 g) h.3) h.4

-- the types of a name are ground
abbrev pub IsGroundSort : Sort → Type 0
IsGroundSort nothing = Unit {0}
IsGroundSort (value_of P) = (t : Ground) → P t → IsGround t
IsGroundSort (function_of P) = (a b : Ground) → P a b → IsGround a × IsGround b
IsGroundSort (primitive c) = Unit {0}

value_ground : (k : Sort) (t : Ground) → IsGroundSort k → ValueTypes k t → IsGround t
value_ground nothing t g h = absurd h
value_ground (value_of P) t g h = g t h
value_ground (function_of P) t g h = absurd h
value_ground (primitive c) t g h = absurd h

call_ground : (k : Sort) (ss : List Ground) (t : Ground) → IsGroundSort k → AllByRecursion IsGround ss → CallTypes k ss t → IsGround t
call_ground nothing ss t g a h = absurd h
call_ground (value_of P) ss t g a h = absurd h
call_ground (function_of P) ss t g a h = (g h.0 t h.2).1
call_ground (primitive c) ss t g a h = prim_ground c ss t a h

variable_ground : (o : Option Ground) (k : Sort) (t : Ground) → (o ≡ Some t → IsGround t) → IsGroundSort k → VariableOr o k t → IsGround t
variable_ground (Some s) k t f g h = f (ap Some h)
variable_ground None k t f g h = value_ground k t g h

binds_ground : (end : Tail) (r : Row) (ps : Pats) (G H : Context) → AreGround G → BindsRest end r ps G H → AreGround H
binds_ground tail.Exact r ps G H a h = subst AreGround (sym h) a
binds_ground tail.Open r ps G H a h = subst AreGround (sym h) a
binds_ground (tail.Rest x) r ps G H a h = subst AreGround (sym h.2) (h.1.0, a)

mutual
  pub takes_ground : (p : Pat) (outside : Name → Ground → Type 0) (t : Ground) (G H : Context) → IsGround t → AreGround G → Takes p outside t G H → AreGround H
  takes_ground (catch x) outside t G H g a h = subst AreGround (sym h) (g, a)
  takes_ground any outside t G H g a h = subst AreGround (sym h) a
  takes_ground (same x) outside t G H g a h = subst AreGround (sym h.1) a
  takes_ground (is w n) outside t G H g a h = subst AreGround (sym h.1) a
  takes_ground (record_of ps end) outside t G H g a h =
      binds_ground end h.0 ps h.1 H (fields_ground ps outside h.0 G h.1 (subst IsGround h.2 g) a h.4) h.5
  takes_ground (variant l p) outside t G H g a h = takes_ground p outside h.1 G H (at_ground l.text h.0 h.1 (subst IsGround h.2 g).1 h.3) a h.4

  fields_ground : (ps : Pats) (outside : Name → Ground → Type 0) (r : Row) (G H : Context) → IsRow r → AreGround G → TakesFields ps outside r G H → AreGround H
  fields_ground no_pats outside r G H g a h = subst AreGround (sym h) a
  fields_ground (pats l p ps) outside r G H g a h = fields_ground ps outside r h.1 H g (takes_ground p outside h.0 G h.1 (at_ground l.text r h.0 g h.2) a h.3) h.4

-- a row has a label, or none
row_shows : (r : Row) (P : Type 0) → IsGround (var r) → ((l : Name) → IsSome (at l r) → P) → P
row_shows no_row P g k = absurd (g.0 refl)
row_shows (row l t r) P g k = k l (shown (pointwise nat_eq l l) (same_label l))
  where
    shown : (b : Bool) → b ≡ true → IsSome (cond b (Some t) (at l r))
    shown true e = search rules
    shown false e = let d : ⊥ = cc in absurd d

no_label : IsTrue false → ⊥
no_label h = let d : ⊥ = cc in d

module _ (K : Name → Sort) (ground : (x : Name) → IsGroundSort (K x)) where
  mutual
    pub types_ground : (e : Exp) (G : Context) (t : Ground) → AreGround G → Types e K G t → IsGround t
    types_ground (Const v) G t a h = h.0
    types_ground (name x) G t a h = variable_ground (field x.text G) (K x.text) t (field_ground x.text G t a) (ground x.text) h
    types_ground (Call f es) G t a h = call_ground (K f.text) h.0 t (ground f.text) (all_ground es G h.0 a h.1) h.2
    types_ground (Rec fs) G t a h = h.2
    types_ground (More fs e) G t a h = h.3
    types_ground (Inj l e) G t a h = h.3
    types_ground (Coll k es) G t a h = h.2
    types_ground (Comp k e qs) G t a h = subst IsGround (sym h.2) (types_ground e h.1 h.0 (quals_ground qs G h.1 a h.3) h.4)
    types_ground (If c b d) G t a h = types_ground b G t a h.1
    types_ground (Let p x y) G t a h = types_ground y h.1 t (takes_ground p (NameTypes K G) h.0 G h.1 (types_ground x G h.0 a h.2) a h.3) h.4
    types_ground (Case e bs) G t a h = let g = types_ground e G (var h.0) a h.1 in branches_ground bs h.0 G t g a h.2 h.3
    types_ground (Path e ls) G t a h = path_ground ls h.0 t (types_ground e G h.0 a h.1) h.2
    types_ground (Not e) G t a h = prim_ground 11 (h.0 ∷ []) t (types_ground e G h.0 a h.1, tt) h.2
    types_ground (Neg e) G t a h = prim_ground 10 (h.0 ∷ []) t (types_ground e G h.0 a h.1, tt) h.2
    types_ground (Chain e ss) G t a h = steps_ground ss G h.0 t a (types_ground e G h.0 a h.1) h.2

    pub all_ground : (es : Exps) (G : Context) (ss : List Ground) → AreGround G → AllTypes es K G ss → AllByRecursion IsGround ss
    all_ground no_exps G ss a h = subst (AllByRecursion IsGround) (sym h) tt
    all_ground (exps e es) G ss a h = subst (AllByRecursion IsGround) (sym h.2) (types_ground e G h.0 a h.3, all_ground es G h.1 a h.4)

    pub quals_ground : (qs : Quals) (G H : Context) → AreGround G → QualTypes qs K G H → AreGround H
    quals_ground no_quals G H a h = subst AreGround (sym h) a
    quals_ground (draw p s qs) G H a h = quals_ground qs h.2 H (takes_ground p (NameTypes K G) h.1 G h.2 (types_ground s G (colls h.0 h.1) a h.3) a h.4) h.5
    quals_ground (test c qs) G H a h = quals_ground qs G H a h.1

    branches_ground : (bs : Branches) (r : Row) (G : Context) (t : Ground) → IsGround (var r) → AreGround G → ((l : Name) → IsSome (at l r) → IsTrue (has_branch bs l)) → BranchTypes bs K G r t → IsGround t
    branches_ground no_branches r G t g a within h = row_shows r (IsGround t) g (λ l k. let d : ⊥ = no_label (within l k) in absurd d)
    branches_ground (otherwise c) r G t g a within h = types_ground c G t a h
    branches_ground (branch l p b bs) r G t g a within h = types_ground b h.1 t (takes_ground p (NameTypes K G) h.0 G h.1 (at_ground l.text r h.0 g.1 h.2) a h.3) h.4

    steps_ground : (ss : Steps) (G : Context) (s t : Ground) → AreGround G → IsGround s → StepTypes ss K G s t → IsGround t
    steps_ground no_steps G s t a g h = subst IsGround h g
    steps_ground (step c e ss) G s t a g h = steps_ground ss G h.1 t a (op_ground c s h.0 h.1 g (types_ground e G h.0 a h.2) h.3) h.4

-- ---- programs

first_ground : (s : Option Ground) (c : Option ℕ) → ((t : Ground) → s ≡ Some t → IsGround t) → IsGroundSort (sort_at s c)
first_ground (Some s) c g = λ t e. g t (ap Some e)
first_ground None (Some c) g = tt
first_ground None None g = tt

sort_ground : (b : Bool) (k j : Sort) → IsGroundSort k → IsGroundSort j → IsGroundSort (sort_if b k j)
sort_ground true k j g h = g
sort_ground false k j g h = h

-- a declaration more
pub constant_ground : (d : Name) (e : Exp) (K : KnownTypes) → ((x : Name) → IsGroundSort (K x)) → (x : Name) → IsGroundSort (with_sort d (value_of (Types e K [])) K x)
constant_ground d e K g x = sort_ground (same_name x d) (value_of (Types e K [])) (K x) (λ t h. types_ground K g e [] t tt h) (g x)

pub function_ground : (d : Name) (p : Pat) (e : Exp) (K : KnownTypes) → ((x : Name) → IsGroundSort (K x)) → (x : Name) → IsGroundSort (with_sort d (function_of (FunctionTypes K p e)) K x)
function_ground d p e K g x =
    sort_ground (same_name x d) (function_of (FunctionTypes K p e)) (K x)
    (λ s t h. (h.0, types_ground K g e h.1 t (takes_ground p (NameTypes K []) s [] h.1 h.0 tt h.2) h.3)) (g x)

-- over sources of proper types
pub first_known : (types : Context) → AreGround types → (x : Name) → IsGroundSort (types_at_first types x)
first_known types g x = first_ground (field x types) (code_named x) (λ t e. field_ground x types t g e)

last_ground : (ds : Decls) (e : Exp) (K : KnownTypes) (t : Ground) → ((x : Name) → IsGroundSort (K x)) → Types e (types_after ds K) [] t → IsGround t
last_ground no_decls e K t g h = types_ground K g e [] t tt h
last_ground (constant d a ds) e K t g h = last_ground ds e (with_sort d.text (value_of (Types a K [])) K) t (constant_ground d.text a K g) h
last_ground (function d p a ds) e K t g h = last_ground ds e (with_sort d.text (function_of (FunctionTypes K p a)) K) t (function_ground d.text p a K g) h

pub program_ground : (ds : Decls) (e : Exp) (types : Context) (t : Ground) → AreGround types → ProgramTypes ds e types t → IsGround t
program_ground ds e types t g h = last_ground ds e (types_at_first types) t (first_known types g) h
