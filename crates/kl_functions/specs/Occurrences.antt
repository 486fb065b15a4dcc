-- Where names stand in an expression: alone, or as the head of a call.
use Rattle.std.specs.Prelude.{Bool, true, false, ◌&&◌, List, [], ◌∷◌, ◌++◌, map, cond, Option, Some, None, is_some, Result, Ok, Err}
use Rattle.std.specs.Borrow.{Bor}
use Rattle.std.specs.Option.{option_map}
use Rattle.kl_outcome.specs.Outcome.{Name}
use Rattle.kl_syntax.specs.Syntax.{Pat, catch, any, same, is, shape, variant, Pats, no_pats, pats, Exp, Const, name, Call, Rec}
use Rattle.kl_syntax.specs.Syntax.{More, Inj, Coll, Comp, If, Let, Case, Path, Not, Neg, Chain, Exps, no_exps, exps, Flds}
use Rattle.kl_syntax.specs.Syntax.{no_flds, flds, Quals, no_quals, draw, test, Branches, no_branches, otherwise, branch, Steps}
use Rattle.kl_syntax.specs.Syntax.{no_steps, step}
use Rattle.kl_functions.specs.declared.occurrences.Referent.{Referent}
use Rattle.kl_functions.specs.declared.occurrences.Referent.TheVariants.{Field, Global, Local}
use Rattle.kl_functions.specs.declared.occurrences.Occurrence.{Occurrence}
use Rattle.kl_functions.specs.declared.occurrences.Parameter.{Parameter}
use Rattle.kl_functions.specs.declared.occurrences.Occurrence.TheVariants.{Alone, Head}
use Rattle.kl_ho.specs.Highers.{bare}
use Rattle.kl_ho.specs.Functions.{behind_pattern, behind_quals}
use Rattle.kl_ho.specs.HoPrograms.{is_among}

-- what each reference points to
abbrev pub names_of : List (Bor Name) → List Name
names_of xs = map (λ x. x.now) xs

abbrev pub pairs_of : List (Bor Name × Bor Name) → List (Name × Name)
pairs_of fs = map (λ f. (f.0.now, f.1.now)) fs

abbrev pub seconds_of : List (Name × Name) → List Name
seconds_of fs = map (λ f. f.1) fs

-- the variables of a parameter, and those of its fields that may be functions
pub record Roles : Type 0 where
  pub variables : List Name
  pub candidates : List Name

abbrev pub roles_of : Parameter → Roles
roles_of p = record { variables = names_of p.variables.items; candidates = names_of p.candidates.items }

-- the part before has an answer, and this holds of it
abbrev pub OnOk : {V : Type 0} {X : Type 0} → Result V X → (V → Type 0) → Type 0
OnOk (Ok v) P = P v
OnOk (Err e) P = ⊥

abbrev pub is_one : Exps → Bool
is_one (exps e no_exps) = true
is_one _ = false

abbrev pub is_bare : Exp → Bool
is_bare e = is_some (bare e)

-- the bare name in a field of a literal is told with the head of its call
abbrev pub unless_told : Bool → Exp → List Occurrence → List Occurrence
unless_told given e found = cond (given && is_bare e) [] found

module _ (roles : Roles) where
  -- what a name refers to, behind the variables of the parameter and those bound inside the body
  abbrev pub referent : List Name → Name → Referent
  referent hiding x =
      cond (is_among x hiding) Local (cond (is_among x roles.candidates) (Field x) (cond (is_among x roles.variables) Local (Global x)))

  abbrev pub referents : Flds → List Name → List (Name × Option Referent)
  referents no_flds hiding = []
  referents (flds l e fs) hiding = (l.text, option_map (λ x. referent hiding x) (bare e)) ∷ referents fs hiding

  abbrev pub literal_at : Exp → List Name → Option (List (Name × Option Referent))
  literal_at (Rec fs) hiding = Some (referents fs hiding)
  literal_at _ hiding = None

  -- the literal that is the one argument
  abbrev pub argument_at : Exps → List Name → Option (List (Name × Option Referent))
  argument_at (exps e no_exps) hiding = literal_at e hiding
  argument_at _ hiding = None

  abbrev mutual
    -- bare names in a pattern are looked up outside it
    pub pattern_occurrences : Pat → List Name → List Occurrence
    pattern_occurrences (catch x) hiding = []
    pattern_occurrences any hiding = []
    pattern_occurrences (same x) hiding = Alone (referent hiding x.text) ∷ []
    pattern_occurrences (is v n) hiding = []
    pattern_occurrences (shape ps end) hiding = patterns_occurrences ps hiding
    pattern_occurrences (variant l p) hiding = pattern_occurrences p hiding

    pub patterns_occurrences : Pats → List Name → List Occurrence
    patterns_occurrences no_pats hiding = []
    patterns_occurrences (pats l p ps) hiding = pattern_occurrences p hiding ++ patterns_occurrences ps hiding

  abbrev mutual
    -- `given` where the expression is the one argument of a call
    pub occurrences : Exp → Bool → List Name → List Occurrence
    occurrences (Const v) given hiding = []
    occurrences (name x) given hiding = Alone (referent hiding x.text) ∷ []
    occurrences (Call f es) given hiding = Head (referent hiding f.text) (argument_at es hiding) ∷ occurrences_all es (is_one es) hiding
    occurrences (Rec fs) given hiding = occurrences_fields fs given hiding
    occurrences (More fs a) given hiding = occurrences_fields fs false hiding ++ occurrences a false hiding
    occurrences (Inj l a) given hiding = occurrences a false hiding
    occurrences (Coll k es) given hiding = occurrences_all es false hiding
    occurrences (Comp k e qs) given hiding = occurrences_quals qs hiding ++ occurrences e false (behind_quals qs hiding)
    occurrences (If a b c) given hiding = occurrences a false hiding ++ (occurrences b false hiding ++ occurrences c false hiding)
    occurrences (Let p a b) given hiding = occurrences a false hiding ++ (pattern_occurrences p hiding ++ occurrences b false (behind_pattern p hiding))
    occurrences (Case a bs) given hiding = occurrences a false hiding ++ occurrences_branches bs hiding
    occurrences (Path a ls) given hiding = occurrences a false hiding
    occurrences (Not a) given hiding = occurrences a false hiding
    occurrences (Neg a) given hiding = occurrences a false hiding
    occurrences (Chain a ss) given hiding = occurrences a false hiding ++ occurrences_steps ss hiding

    pub occurrences_all : Exps → Bool → List Name → List Occurrence
    occurrences_all no_exps given hiding = []
    occurrences_all (exps e es) given hiding = occurrences e given hiding ++ occurrences_all es given hiding

    pub occurrences_fields : Flds → Bool → List Name → List Occurrence
    occurrences_fields no_flds given hiding = []
    occurrences_fields (flds l e fs) given hiding = unless_told given e (occurrences e false hiding) ++ occurrences_fields fs given hiding

    pub occurrences_quals : Quals → List Name → List Occurrence
    occurrences_quals no_quals hiding = []
    occurrences_quals (draw p e qs) hiding = occurrences e false hiding ++ (pattern_occurrences p hiding ++ occurrences_quals qs (behind_pattern p hiding))
    occurrences_quals (test e qs) hiding = occurrences e false hiding ++ occurrences_quals qs hiding

    pub occurrences_branches : Branches → List Name → List Occurrence
    occurrences_branches no_branches hiding = []
    occurrences_branches (otherwise e) hiding = occurrences e false hiding
    occurrences_branches (branch l p e bs) hiding = pattern_occurrences p hiding ++ (occurrences e false (behind_pattern p hiding) ++ occurrences_branches bs hiding)

    pub occurrences_steps : Steps → List Name → List Occurrence
    occurrences_steps no_steps hiding = []
    occurrences_steps (step c e ss) hiding = occurrences e false hiding ++ occurrences_steps ss hiding

  -- of a pattern and what it is bound in
  abbrev pub occurrences_bound : Pat → Exp → List Name → List Occurrence
  occurrences_bound p e hiding = pattern_occurrences p hiding ++ occurrences e false (behind_pattern p hiding)
