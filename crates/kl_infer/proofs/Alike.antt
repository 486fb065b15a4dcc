-- Names with the same types give the same derivations.
use Rattle.std.proofs.Common.{◌≡◌, List, [], Option, Some, None, subst}
use Rattle.kl_base.specs.Fields.{field}
use Rattle.kl_type.specs.Ground.{Ground, Row, bool, rec, var, coll as colls}
use Rattle.kl_outcome.specs.Outcome.{Name}
use Rattle.kl_outcome.specs.Typed.{PrimTypes}
use Rattle.kl_syntax.specs.Syntax.{Pat, catch, any, same, is, shape, variant, Pats, no_pats, pats, Exp, Const, name, Call, Rec, More, Inj, Coll, Comp, If, Let, Case, Path, Not, Neg, Chain, Exps, no_exps, exps, Flds, no_flds, flds, Quals, no_quals, draw, test, Branches, no_branches, otherwise, branch, Steps, no_steps, step}
use Rattle.kl_meaning.specs.Typing.{Context, Sort, nothing, value_of, function_of, primitive, ValueTypes, CallTypes, VariableOr, NameTypes, Takes, TakesFields, Types, AllTypes, EachType, FieldTypes, QualTypes, BranchTypes, StepTypes, FunctionTypes}

-- what the one gives the other gives too
abbrev pub IsIncluded : Sort → Sort → Type 0
IsIncluded nothing k = Unit {0}
IsIncluded (value_of P) (value_of Q) = (t : Ground) → P t → Q t
IsIncluded (value_of P) _ = ⊥
IsIncluded (function_of P) (function_of Q) = (a b : Ground) → P a b → Q a b
IsIncluded (function_of P) _ = ⊥
IsIncluded (primitive c) (primitive d) = c ≡ d
IsIncluded (primitive c) _ = ⊥

abbrev pub AreAlike : Sort → Sort → Type 0
AreAlike k j = IsIncluded k j × IsIncluded j k

value_within : (k j : Sort) (t : Ground) → IsIncluded k j → ValueTypes k t → ValueTypes j t
value_within nothing j t w h = absurd h
value_within (value_of P) (value_of Q) t w h = w t h
value_within (value_of P) nothing t w h = absurd w
value_within (value_of P) (function_of Q) t w h = absurd w
value_within (value_of P) (primitive d) t w h = absurd w
value_within (function_of P) j t w h = absurd h
value_within (primitive c) j t w h = absurd h

call_within : (k j : Sort) (ss : List Ground) (t : Ground) → IsIncluded k j → CallTypes k ss t → CallTypes j ss t
call_within nothing j ss t w h = absurd h
call_within (value_of P) j ss t w h = absurd h
call_within (function_of P) (function_of Q) ss t w h = (h.0, h.1, w h.0 t h.2)
call_within (function_of P) nothing ss t w h = absurd w
call_within (function_of P) (value_of Q) ss t w h = absurd w
call_within (function_of P) (primitive d) ss t w h = absurd w
call_within (primitive c) (primitive d) ss t w h = subst (λ n. PrimTypes n ss t) w h
call_within (primitive c) nothing ss t w h = absurd w
call_within (primitive c) (value_of Q) ss t w h = absurd w
call_within (primitive c) (function_of Q) ss t w h = absurd w

variable_within : (o : Option Ground) (k j : Sort) (t : Ground) → IsIncluded k j → VariableOr o k t → VariableOr o j t
variable_within (Some s) k j t w h = h
variable_within None k j t w h = value_within k j t w h

mutual
  takes_within : (p : Pat) (P Q : Name → Ground → Type 0) (t : Ground) (G H : Context) → ((x : Name) (u : Ground) → P x u → Q x u) → Takes p P t G H → Takes p Q t G H
  takes_within (catch x) P Q t G H w h = h
  takes_within any P Q t G H w h = h
  takes_within (same x) P Q t G H w h = (w x.text t h.0, h.1)
  takes_within (is v n) P Q t G H w h = h
  takes_within (shape ps end) P Q t G H w h = (h.0, h.1, h.2, h.3, fields_within ps P Q h.0 G h.1 w h.4, h.5)
  takes_within (variant l p) P Q t G H w h = (h.0, h.1, h.2, h.3, takes_within p P Q h.1 G H w h.4)

  fields_within : (ps : Pats) (P Q : Name → Ground → Type 0) (r : Row) (G H : Context) → ((x : Name) (u : Ground) → P x u → Q x u) → TakesFields ps P r G H → TakesFields ps Q r G H
  fields_within no_pats P Q r G H w h = h
  fields_within (pats l p ps) P Q r G H w h = (h.0, h.1, h.2, takes_within p P Q h.0 G h.1 w h.3, fields_within ps P Q r h.1 H w h.4)

module _ (K J : Name → Sort) (within : (x : Name) → IsIncluded (K x) (J x)) where
  named : (G : Context) (x : Name) (t : Ground) → NameTypes K G x t → NameTypes J G x t
  named G x t h = variable_within (field x G) (K x) (J x) t (within x) h

  mutual
    pub types_within : (e : Exp) (G : Context) (t : Ground) → Types e K G t → Types e J G t
    types_within (Const v) G t h = h
    types_within (name x) G t h = named G x.text t h
    types_within (Call f es) G t h = (h.0, all_within es G h.0 h.1, call_within (K f.text) (J f.text) h.0 t (within f.text) h.2)
    types_within (Rec fs) G t h = (h.0, h.1, h.2, h.3, each_field fs G h.0 h.4)
    types_within (More fs e) G t h = (h.0, h.1, h.2, h.3, h.4, each_field fs G h.0 h.5, types_within e G (rec h.1) h.6)
    types_within (Inj l e) G t h = (h.0, h.1, h.2, h.3, h.4, types_within e G h.1 h.5)
    types_within (Coll k es) G t h = (h.0, h.1, h.2, each_within es G h.0 h.3)
    types_within (Comp k e qs) G t h = (h.0, h.1, h.2, quals_within qs G h.1 h.3, types_within e h.1 h.0 h.4)
    types_within (If a b c) G t h = (types_within a G bool h.0, types_within b G t h.1, types_within c G t h.2)
    types_within (Let p x y) G t h = (h.0, h.1, types_within x G h.0 h.2, takes_within p (NameTypes K G) (NameTypes J G) h.0 G h.1 (named G) h.3, types_within y h.1 t h.4)
    types_within (Case e bs) G t h = (h.0, types_within e G (var h.0) h.1, h.2, branches_within bs G h.0 t h.3)
    types_within (Path e ls) G t h = (h.0, types_within e G h.0 h.1, h.2)
    types_within (Not e) G t h = (h.0, types_within e G h.0 h.1, h.2)
    types_within (Neg e) G t h = (h.0, types_within e G h.0 h.1, h.2)
    types_within (Chain e ss) G t h = (h.0, types_within e G h.0 h.1, steps_within ss G h.0 t h.2)

    all_within : (es : Exps) (G : Context) (ss : List Ground) → AllTypes es K G ss → AllTypes es J G ss
    all_within no_exps G ss h = h
    all_within (exps e es) G ss h = (h.0, h.1, h.2, types_within e G h.0 h.3, all_within es G h.1 h.4)

    each_within : (es : Exps) (G : Context) (t : Ground) → EachType es K G t → EachType es J G t
    each_within no_exps G t h = h
    each_within (exps e es) G t h = (types_within e G t h.0, each_within es G t h.1)

    each_field : (fs : Flds) (G : Context) (r : Row) → FieldTypes fs K G r → FieldTypes fs J G r
    each_field no_flds G r h = h
    each_field (flds l e fs) G r h = (h.0, h.1, types_within e G h.0 h.2, each_field fs G r h.3)

    quals_within : (qs : Quals) (G H : Context) → QualTypes qs K G H → QualTypes qs J G H
    quals_within no_quals G H h = h
    quals_within (draw p s qs) G H h = (h.0, h.1, h.2, types_within s G (colls h.0 h.1) h.3, takes_within p (NameTypes K G) (NameTypes J G) h.1 G h.2 (named G) h.4, quals_within qs h.2 H h.5)
    quals_within (test c qs) G H h = (types_within c G bool h.0, quals_within qs G H h.1)

    branches_within : (bs : Branches) (G : Context) (r : Row) (t : Ground) → BranchTypes bs K G r t → BranchTypes bs J G r t
    branches_within no_branches G r t h = h
    branches_within (otherwise c) G r t h = types_within c G t h
    branches_within (branch l p b bs) G r t h = (h.0, h.1, h.2, takes_within p (NameTypes K G) (NameTypes J G) h.0 G h.1 (named G) h.3, types_within b h.1 t h.4, branches_within bs G r t h.5)

    steps_within : (ss : Steps) (G : Context) (s t : Ground) → StepTypes ss K G s t → StepTypes ss J G s t
    steps_within no_steps G s t h = h
    steps_within (step c e ss) G s t h = (h.0, h.1, types_within e G h.0 h.2, h.3, steps_within ss G h.1 t h.4)

  pub function_within : (p : Pat) (e : Exp) (s t : Ground) → FunctionTypes K p e s t → FunctionTypes J p e s t
  function_within p e s t h = (h.0, h.1, takes_within p (NameTypes K []) (NameTypes J []) s [] h.1 (named []) h.2, types_within e h.1 t h.3)
