-- Typings of programs with function parameters: derivations as without them, under a list of what stands for each of them.
use Rattle.std.specs.Prelude.{◌≡◌, ℕ, suc, zero, Bool, true, false, ◌||◌, IsTrue, List, [], ◌∷◌, cond, Option, Some, None, IsSome}
use Rattle.std.specs.Prelude.{is_some, ⊤}
use Rattle.kl_base.specs.Fields.{field}
use Rattle.kl_value.specs.declared.Kind.{Kind}
use Rattle.kl_type.specs.Ground.{Ground, Row, bool, rec, var, coll as colls, at, IsGround}
use Rattle.kl_outcome.specs.Outcome.{Name}
use Rattle.kl_outcome.specs.Typed.{Inhabits, IsWithout, PrimTypes}
use Rattle.kl_syntax.specs.declared.tree.Tail.TheVariants as tail
use Rattle.kl_syntax.specs.Syntax.{shape, Exp, Const, name, Call, Rec, More, Inj, Coll, Comp, If, Let, Case, Path, Not, Neg}
use Rattle.kl_syntax.specs.Syntax.{Chain, Exps, no_exps, exps, Flds, no_flds, flds, Quals, no_quals, draw, test, Branches}
use Rattle.kl_syntax.specs.Syntax.{no_branches, otherwise, branch, Steps, no_steps, step}
use Rattle.kl_meaning.specs.Match.{same_name}
use Rattle.kl_meaning.specs.Typing.{Context, KnownTypes, CallTypes, NameTypes, Takes, OpTypes, PathTypes, has_branch}
use Rattle.kl_ho.specs.Highers.{Higher, Highers, Funs, head, given_by, literal}

-- the types of the body of a definition with function fields, under what stands for them and what its other fields bind
abbrev pub DeeperTypes : Type 1
DeeperTypes = Higher → Funs → Context → Ground → Type 0

abbrev pub CallOver : Option Higher → Type 0 → (Higher → Type 0) → Type 0
CallOver None P Q = P
CallOver (Some h) P Q = Q h

-- a field at the label, which is none of these
abbrev pub has_value_field : Flds → List (Name × Name) → Name → Bool
has_value_field no_flds skips l = false
has_value_field (flds m e fs) skips l = cond (is_some (field m.text skips)) (has_value_field fs skips l) (same_name l m.text || has_value_field fs skips l)

abbrev pub FieldOver : Bool → Type 0 → Type 0 → Type 0
FieldOver true P Q = P
FieldOver false P Q = Q

module _ (deeper : DeeperTypes) (highers : Highers) (funs : Funs) (known : KnownTypes) where
  abbrev mutual
    pub OverTypes : Exp → Context → Ground → Type 0
    OverTypes (Const v) G t = IsGround t × Inhabits t v
    OverTypes (name x) G t = NameTypes known G x.text t
    -- the pattern without function fields takes the record of the value fields, and the body has the type
    OverTypes (Call f es) G t =
        CallOver (highers (head funs f.text)) ((ss : List Ground) × OverAll es G ss × CallTypes (known (head funs f.text)) ss t)
        (λ h. (given : Funs) × (s : Ground) × (H : Context) × (given_by h.handed (literal es) funs ≡ Some given) × OverArgument es h.handed G s
        × Takes (shape h.rest tail.Exact) (NameTypes known []) s [] H × deeper h given H t)
    OverTypes (Rec fs) G t =
        (r : Row) × (t ≡ rec r) × IsGround t × ((l : Name) → IsSome (at l r) → IsTrue (has_value_field fs [] l)) × OverFields fs [] G r
    OverTypes (More fs a) G t =
        (r : Row) × (q : Row) × (t ≡ rec r) × IsGround t × IsWithout (has_value_field fs []) r q × OverFields fs [] G r × OverTypes a G (rec q)
    OverTypes (Inj l a) G t = (r : Row) × (s : Ground) × (t ≡ var r) × IsGround t × (at l.text r ≡ Some s) × OverTypes a G s
    OverTypes (Coll k es) G t = (s : Ground) × (t ≡ colls k s) × IsGround t × OverEach es G s
    OverTypes (Comp k e qs) G t = (s : Ground) × (H : Context) × (t ≡ colls k s) × OverQuals qs G H × OverTypes e H s
    OverTypes (If a b c) G t = OverTypes a G bool × OverTypes b G t × OverTypes c G t
    OverTypes (Let p a b) G t = (s : Ground) × (H : Context) × OverTypes a G s × Takes p (NameTypes known G) s G H × OverTypes b H t
    OverTypes (Case a bs) G t =
        (r : Row) × OverTypes a G (var r) × ((l : Name) → IsSome (at l r) → IsTrue (has_branch bs l)) × OverBranches bs G r t
    OverTypes (Path a ls) G t = (s : Ground) × OverTypes a G s × PathTypes ls s t
    OverTypes (Not a) G t = (s : Ground) × OverTypes a G s × PrimTypes 11 (s ∷ []) t
    OverTypes (Neg a) G t = (s : Ground) × OverTypes a G s × PrimTypes 10 (s ∷ []) t
    OverTypes (Chain a ss) G t = (s : Ground) × OverTypes a G s × OverSteps ss G s t

    -- the record of the value fields of the one argument
    pub OverArgument : Exps → List (Name × Name) → Context → Ground → Type 0
    OverArgument (exps e no_exps) skips G t = OverRecord e skips G t
    OverArgument _ skips G t = ⊥

    pub OverRecord : Exp → List (Name × Name) → Context → Ground → Type 0
    OverRecord (Rec fs) skips G t =
        (r : Row) × (t ≡ rec r) × IsGround t × ((l : Name) → IsSome (at l r) → IsTrue (has_value_field fs skips l)) × OverFields fs skips G r
    OverRecord _ skips G t = ⊥

    pub OverAll : Exps → Context → List Ground → Type 0
    OverAll no_exps G ss = ss ≡ []
    OverAll (exps e es) G ss = (s : Ground) × (rest : List Ground) × (ss ≡ s ∷ rest) × OverTypes e G s × OverAll es G rest

    pub OverEach : Exps → Context → Ground → Type 0
    OverEach no_exps G s = ⊤
    OverEach (exps e es) G s = OverTypes e G s × OverEach es G s

    pub OverFields : Flds → List (Name × Name) → Context → Row → Type 0
    OverFields no_flds skips G r = ⊤
    OverFields (flds l e fs) skips G r =
        FieldOver (is_some (field l.text skips)) (OverFields fs skips G r) ((s : Ground) × (at l.text r ≡ Some s) × OverTypes e G s × OverFields fs skips G r)

    pub OverQuals : Quals → Context → Context → Type 0
    OverQuals no_quals G H = H ≡ G
    OverQuals (draw p s qs) G H =
        (k : Kind) × (u : Ground) × (M : Context) × OverTypes s G (colls k u) × Takes p (NameTypes known G) u G M × OverQuals qs M H
    OverQuals (test c qs) G H = OverTypes c G bool × OverQuals qs G H

    pub OverBranches : Branches → Context → Row → Ground → Type 0
    OverBranches no_branches G r t = ⊤
    OverBranches (otherwise c) G r t = OverTypes c G t
    OverBranches (branch l p b bs) G r t =
        (s : Ground) × (H : Context) × (at l.text r ≡ Some s) × Takes p (NameTypes known G) s G H × OverTypes b H t × OverBranches bs G r t

    pub OverSteps : Steps → Context → Ground → Ground → Type 0
    OverSteps no_steps G s t = s ≡ t
    OverSteps (step c e ss) G s t = (u : Ground) × (q : Ground) × OverTypes e G u × OpTypes c s u q × OverSteps ss G q t

-- in derivations that go at most n calls with function fields deep
abbrev pub types_within : ℕ → Highers → KnownTypes → DeeperTypes
types_within zero highers known = λ h given G t. ⊥
types_within (suc n) highers known = λ h given G t. OverTypes (types_within n highers known) highers given known h.body G t

-- there is a derivation
abbrev pub HoTypes : Highers → Funs → KnownTypes → Exp → Context → Ground → Type 0
HoTypes highers funs known e G t = (n : ℕ) × OverTypes (types_within n highers known) highers funs known e G t
