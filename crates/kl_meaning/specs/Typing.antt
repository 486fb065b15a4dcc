-- The types of expressions and programs, as derivations over ground types. Where a derivation is free to choose a type, it
-- is one of the language's (`IsGround`): labels rise, a variant has at least one, and no function stands in it.
use Rattle.std.specs.Prelude.{◌≡◌, ℕ, Bool, true, false, ◌||◌, IsTrue, List, [], ◌∷◌, Option, Some, None, IsSome, ⊤}
use Rattle.std.specs.List.{AllByRecursion}
use Rattle.kl_base.specs.Fields.{field}
use Rattle.kl_value.specs.declared.Kind.{Kind}
use Rattle.kl_type.specs.Ground.{Ground, Row, bool, rec, var, coll as colls, at, IsGround}
use Rattle.kl_outcome.specs.Outcome.{Name}
use Rattle.kl_outcome.specs.Typed.{Inhabits, IsWithout, PrimTypes}
use Rattle.kl_syntax.specs.declared.tree.Op.{Op}
use Rattle.kl_syntax.specs.declared.tree.Op.TheVariants as op
use Rattle.kl_syntax.specs.declared.tree.Tail.{Tail}
use Rattle.kl_syntax.specs.declared.tree.Tail.TheVariants as tail
use Rattle.kl_syntax.specs.declared.tree.Word.{Word}
use Rattle.kl_syntax.specs.Syntax.{Pat, catch, any, same, is, shape, variant, Pats, no_pats, pats, Exp, Const, name, Call, Rec}
use Rattle.kl_syntax.specs.Syntax.{More, Inj, Coll, Comp, If, Let, Case, Path, Not, Neg, Chain, Exps, no_exps, exps, Flds, no_flds}
use Rattle.kl_syntax.specs.Syntax.{flds, Quals, no_quals, draw, test, Branches, no_branches, otherwise, branch, Steps, no_steps}
use Rattle.kl_syntax.specs.Syntax.{step, Decls, no_decls, constant, function}
use Rattle.kl_meaning.specs.Match.{Env, same_name, has_label}
use Rattle.kl_meaning.specs.Run.{code_of, code_named}

-- the type of each variable, the last bound first
abbrev pub Context : Type 0
Context = List (Name × Ground)

-- each of them is one of the language's
abbrev pub AreGround : Context → Type 0
AreGround G = AllByRecursion (λ b. IsGround b.1) G

-- values of these types at the same names, in the same order
abbrev pub HaveTypesByName : Context → Env → Type 0
HaveTypesByName [] [] = ⊤
HaveTypesByName (b ∷ G) (c ∷ env) = (b.0 ≡ c.0) × Inhabits b.1 c.1 × HaveTypesByName G env
HaveTypesByName _ _ = ⊥

-- what types a name has that is no variable: those of a value; of a function, pairs of parameter and result; or a
-- primitive's
pub data Sort : Type 1 where
  nothing : Sort
  value_of : (Ground → Type 0) → Sort
  function_of : (Ground → Ground → Type 0) → Sort
  primitive : ℕ → Sort

abbrev pub KnownTypes : Type 1
KnownTypes = Name → Sort

abbrev pub ValueTypes : Sort → Ground → Type 0
ValueTypes (value_of P) t = P t
ValueTypes _ t = ⊥

-- a function takes one argument, a primitive those of its row
abbrev pub CallTypes : Sort → List Ground → Ground → Type 0
CallTypes (function_of P) ss t = (s : Ground) × (ss ≡ s ∷ []) × P s t
CallTypes (primitive code) ss t = PrimTypes code ss t
CallTypes _ ss t = ⊥

-- the last variable bound to a name first
abbrev pub VariableOr : Option Ground → Sort → Ground → Type 0
VariableOr (Some s) k t = s ≡ t
VariableOr None k t = ValueTypes k t

abbrev pub NameTypes : KnownTypes → Context → Name → Ground → Type 0
NameTypes known G x t = VariableOr (field x G) (known x) t

-- each label of the row stands in the pattern, unless it ends in `...` or in `...\r`
abbrev pub IsWhole : Tail → Row → Pats → Type 0
IsWhole tail.Exact r ps = (l : Name) → IsSome (at l r) → IsTrue (has_label ps l)
IsWhole _ r ps = ⊤

-- under `...\r`, r is bound last and has the record type of the other labels
abbrev pub BindsRest : Tail → Row → Pats → Context → Context → Type 0
BindsRest (tail.Rest x) r ps G H = (q : Row) × IsWithout (has_label ps) r q × (H ≡ (x.text, rec q) ∷ G)
BindsRest _ r ps G H = H ≡ G

-- A pattern takes a type, and binds variables after those of G, which gives H. `outside` has the types of a bare name.
abbrev mutual
  pub Takes : Pat → (Name → Ground → Type 0) → Ground → Context → Context → Type 0
  Takes (catch x) outside t G H = H ≡ (x.text, t) ∷ G
  Takes any outside t G H = H ≡ G
  Takes (same x) outside t G H = outside x.text t × (H ≡ G)
  Takes (is w n) outside t G H = Inhabits t w × (H ≡ G)
  Takes (shape ps end) outside t G H =
      (r : Row) × (M : Context) × (t ≡ rec r) × IsWhole end r ps × TakesFields ps outside r G M × BindsRest end r ps M H
  Takes (variant l p) outside t G H = (r : Row) × (s : Ground) × (t ≡ var r) × (at l.text r ≡ Some s) × Takes p outside s G H

  pub TakesFields : Pats → (Name → Ground → Type 0) → Row → Context → Context → Type 0
  TakesFields no_pats outside r G H = H ≡ G
  TakesFields (pats l p ps) outside r G H =
      (s : Ground) × (M : Context) × (at l.text r ≡ Some s) × Takes p outside s G M × TakesFields ps outside r M H

-- `and` and `or` take truth values, `++` two collections of one type, the other operators what their primitives take
abbrev pub OpTypes : Op → Ground → Ground → Ground → Type 0
OpTypes op.And s u t = (s ≡ bool) × (u ≡ bool) × (t ≡ bool)
OpTypes op.Or s u t = (s ≡ bool) × (u ≡ bool) × (t ≡ bool)
OpTypes op.Append s u t = (k : Kind) × (a : Ground) × (s ≡ colls k a) × (u ≡ s) × (t ≡ s)
OpTypes c s u t = PrimTypes (code_of c) (s ∷ u ∷ []) t

abbrev pub PathTypes : List Word → Ground → Ground → Type 0
PathTypes [] s t = s ≡ t
PathTypes (l ∷ ls) s t = (r : Row) × (u : Ground) × (s ≡ rec r) × (at l.text r ≡ Some u) × PathTypes ls u t

abbrev pub has_field : Flds → Name → Bool
has_field no_flds l = false
has_field (flds m e fs) l = same_name l m.text || has_field fs l

-- a branch for the label, or `otherwise`
abbrev pub has_branch : Branches → Name → Bool
has_branch no_branches l = false
has_branch (otherwise c) l = true
has_branch (branch m p b bs) l = same_name l m.text || has_branch bs l

abbrev mutual
  pub Types : Exp → KnownTypes → Context → Ground → Type 0
  Types (Const v) known G t = IsGround t × Inhabits t v
  Types (name x) known G t = NameTypes known G x.text t
  Types (Call f es) known G t = (ss : List Ground) × AllTypes es known G ss × CallTypes (known f.text) ss t
  Types (Rec fs) known G t =
      (r : Row) × (t ≡ rec r) × IsGround t × ((l : Name) → IsSome (at l r) → IsTrue (has_field fs l)) × FieldTypes fs known G r
  -- the fields have the types of the row at their labels, and what stands behind `...` has the record type of the others
  Types (More fs a) known G t =
      (r : Row) × (q : Row) × (t ≡ rec r) × IsGround t × IsWithout (has_field fs) r q × FieldTypes fs known G r × Types a known G (rec q)
  Types (Inj l a) known G t = (r : Row) × (s : Ground) × (t ≡ var r) × IsGround t × (at l.text r ≡ Some s) × Types a known G s
  Types (Coll k es) known G t = (s : Ground) × (t ≡ colls k s) × IsGround t × EachType es known G s
  Types (Comp k e qs) known G t = (s : Ground) × (H : Context) × (t ≡ colls k s) × QualTypes qs known G H × Types e known H s
  Types (If a b c) known G t = Types a known G bool × Types b known G t × Types c known G t
  Types (Let p a b) known G t = (s : Ground) × (H : Context) × Types a known G s × Takes p (NameTypes known G) s G H × Types b known H t
  Types (Case a bs) known G t =
      (r : Row) × Types a known G (var r) × ((l : Name) → IsSome (at l r) → IsTrue (has_branch bs l)) × BranchTypes bs known G r t
  Types (Path a ls) known G t = (s : Ground) × Types a known G s × PathTypes ls s t
  Types (Not a) known G t = (s : Ground) × Types a known G s × PrimTypes 11 (s ∷ []) t
  Types (Neg a) known G t = (s : Ground) × Types a known G s × PrimTypes 10 (s ∷ []) t
  Types (Chain a ss) known G t = (s : Ground) × Types a known G s × StepTypes ss known G s t

  -- each of its own type
  pub AllTypes : Exps → KnownTypes → Context → List Ground → Type 0
  AllTypes no_exps known G ss = ss ≡ []
  AllTypes (exps e es) known G ss = (s : Ground) × (rest : List Ground) × (ss ≡ s ∷ rest) × Types e known G s × AllTypes es known G rest

  -- all of one type
  pub EachType : Exps → KnownTypes → Context → Ground → Type 0
  EachType no_exps known G s = ⊤
  EachType (exps e es) known G s = Types e known G s × EachType es known G s

  -- each of the type that the row has at its label
  pub FieldTypes : Flds → KnownTypes → Context → Row → Type 0
  FieldTypes no_flds known G r = ⊤
  FieldTypes (flds l e fs) known G r = (s : Ground) × (at l.text r ≡ Some s) × Types e known G s × FieldTypes fs known G r

  -- a generator draws from a collection of any kind, and a condition is a truth value
  pub QualTypes : Quals → KnownTypes → Context → Context → Type 0
  QualTypes no_quals known G H = H ≡ G
  QualTypes (draw p s qs) known G H =
      (k : Kind) × (u : Ground) × (M : Context) × Types s known G (colls k u) × Takes p (NameTypes known G) u G M × QualTypes qs known M H
  QualTypes (test c qs) known G H = Types c known G bool × QualTypes qs known G H

  -- each branch is for a label of the variant, and all results have the type
  pub BranchTypes : Branches → KnownTypes → Context → Row → Ground → Type 0
  BranchTypes no_branches known G r t = ⊤
  BranchTypes (otherwise c) known G r t = Types c known G t
  BranchTypes (branch l p b bs) known G r t =
      (s : Ground) × (H : Context) × (at l.text r ≡ Some s) × Takes p (NameTypes known G) s G H × Types b known H t
      × BranchTypes bs known G r t

  pub StepTypes : Steps → KnownTypes → Context → Ground → Ground → Type 0
  StepTypes no_steps known G s t = s ≡ t
  StepTypes (step c e ss) known G s t = (u : Ground) × (q : Ground) × Types e known G u × OpTypes c s u q × StepTypes ss known G q t

-- sources by their types, and then primitives
abbrev pub sort_by_code : Option ℕ → Sort
sort_by_code (Some c) = primitive c
sort_by_code None = nothing

abbrev pub sort_at : Option Ground → Option ℕ → Sort
sort_at (Some s) c = value_of (λ t. s ≡ t)
sort_at None c = sort_by_code c

abbrev pub types_at_first : List (Name × Ground) → KnownTypes
types_at_first sources x = sort_at (field x sources) (code_named x)

abbrev pub sort_if : Bool → Sort → Sort → Sort
sort_if true k j = k
sort_if false k j = j

abbrev pub with_sort : Name → Sort → KnownTypes → KnownTypes
with_sort d k known x = sort_if (same_name x d) k (known x)

-- a function has the pairs of a type that its parameter takes and a type that its body has then
abbrev pub FunctionTypes : KnownTypes → Pat → Exp → Ground → Ground → Type 0
FunctionTypes known p e s t = IsGround s × (H : Context) × Takes p (NameTypes known []) s [] H × Types e known H t

-- a definition has the types of its expression over the definitions before it, each use a derivation of its own
abbrev pub types_after : Decls → KnownTypes → KnownTypes
types_after no_decls known = known
types_after (constant d e ds) known = types_after ds (with_sort d.text (value_of (Types e known [])) known)
types_after (function d p e ds) known = types_after ds (with_sort d.text (function_of (FunctionTypes known p e)) known)

-- each definition has a type by itself
abbrev pub EachTyped : Decls → KnownTypes → Type 0
EachTyped no_decls known = ⊤
EachTyped (constant d e ds) known = ((t : Ground) × Types e known [] t)
    × EachTyped ds (with_sort d.text (value_of (Types e known [])) known)
EachTyped (function d p e ds) known =
    ((s : Ground) × (t : Ground) × FunctionTypes known p e s t)
    × EachTyped ds (with_sort d.text (function_of (FunctionTypes known p e)) known)

-- the types of a program's last expression, and whether the program has a typing, over the types of its sources
abbrev pub ProgramTypes : Decls → Exp → List (Name × Ground) → Ground → Type 0
ProgramTypes ds e sources t = Types e (types_after ds (types_at_first sources)) [] t

abbrev pub HasTyping : Decls → Exp → List (Name × Ground) → Type 0
HasTyping ds e sources = EachTyped ds (types_at_first sources) × ((t : Ground) × ProgramTypes ds e sources t)
