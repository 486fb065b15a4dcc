-- The definitions that a program reaches.
-- No public contract cites this.
use Rattle.std.specs.Prelude.{◌≡◌, Bool, true, false, ◌||◌, List, [], ◌∷◌, ◌++◌, cond, Option, Some, None}
use Rattle.std.specs.BTreeSet.{BTreeSet, contains}
use Rattle.kl_base.specs.Fields.{bytes_cmp}
use Rattle.kl_outcome.specs.Outcome.{Name}
use Rattle.kl_syntax.specs.declared.tree.Decl.{Decl}
use Rattle.kl_syntax.specs.declared.tree.Pattern.{Pattern}
use Rattle.kl_syntax.specs.declared.tree.Word.{Word}
use Rattle.kl_syntax.specs.Syntax.{Pat, catch, any, same, is, shape, variant, Pats, no_pats, pats, Exp, Const, name, Call, Rec}
use Rattle.kl_syntax.specs.Syntax.{More, Inj, Coll, Comp, If, Let, Case, Path, Not, Neg, Chain, Exps, no_exps, exps, Flds, no_flds}
use Rattle.kl_syntax.specs.Syntax.{flds, Quals, no_quals, draw, test, Branches, no_branches, otherwise, branch, Steps, no_steps}
use Rattle.kl_syntax.specs.Syntax.{step, Decls, no_decls, constant, function}
use Rattle.kl_syntax.specs.View.{pattern_view, view}
use Rattle.kl_meaning.specs.Match.{same_name}

-- the names that a pattern looks up, and those that stand in an expression, as they are written
abbrev mutual
  pub pattern_names : Pat → List Word
  pattern_names (catch x) = []
  pattern_names any = []
  pattern_names (same x) = x ∷ []
  pattern_names (is v n) = []
  pattern_names (shape ps end) = patterns_names ps
  pattern_names (variant l p) = pattern_names p

  pub patterns_names : Pats → List Word
  patterns_names no_pats = []
  patterns_names (pats l p ps) = pattern_names p ++ patterns_names ps

abbrev mutual
  pub names : Exp → List Word
  names (Const v) = []
  names (name x) = x ∷ []
  names (Call f es) = f ∷ names_all es
  names (Rec fs) = names_fields fs
  names (More fs a) = names_fields fs ++ names a
  names (Inj l a) = names a
  names (Coll k es) = names_all es
  names (Comp k e qs) = names e ++ names_quals qs
  names (If a b c) = names a ++ names b ++ names c
  names (Let p a b) = pattern_names p ++ names a ++ names b
  names (Case a bs) = names a ++ names_branches bs
  names (Path a ls) = names a
  names (Not a) = names a
  names (Neg a) = names a
  names (Chain a ss) = names a ++ names_steps ss

  pub names_all : Exps → List Word
  names_all no_exps = []
  names_all (exps e es) = names e ++ names_all es

  pub names_fields : Flds → List Word
  names_fields no_flds = []
  names_fields (flds l e fs) = names e ++ names_fields fs

  pub names_quals : Quals → List Word
  names_quals no_quals = []
  names_quals (draw p e qs) = (pattern_names p ++ names e) ++ names_quals qs
  names_quals (test e qs) = names e ++ names_quals qs

  pub names_branches : Branches → List Word
  names_branches no_branches = []
  names_branches (otherwise e) = names e
  names_branches (branch l p e bs) = (pattern_names p ++ names e) ++ names_branches bs

  pub names_steps : Steps → List Word
  names_steps no_steps = []
  names_steps (step c e ss) = names e ++ names_steps ss

abbrev pub decl_names : Option Pattern → Decl → List Word
decl_names (Some p) d = pattern_names (pattern_view p) ++ names (view d.body)
decl_names None d = names (view d.body)

-- whether one of the names is this one
abbrev pub is_among : List Word → Name → Bool
is_among [] d = false
is_among (x ∷ xs) d = cond (same_name x.text d) true (is_among xs d)

-- what stands in a set of names, and these besides, stands in another
abbrev pub NamesAdded : List Word → BTreeSet Name → BTreeSet Name → Type 0
NamesAdded ws old new = (x : Name) → contains bytes_cmp new x ≡ (is_among ws x || contains bytes_cmp old x)

abbrev pub if_among : Bool → List Word → List Word
if_among b xs = cond b xs []

-- the names in the last expression, and in each definition that is named behind it so
abbrev pub wanted : Decls → Exp → List Word
wanted no_decls e = names e
wanted (constant d a ds) e = wanted ds e ++ if_among (is_among (wanted ds e) d.text) (names a)
wanted (function d p a ds) e = wanted ds e ++ if_among (is_among (wanted ds e) d.text) (pattern_names p ++ names a)

abbrev pub kept_if : Bool → (Decls → Decls) → Decls → Decls
kept_if b d ds = cond b (d ds) ds

-- the definitions that are reached
abbrev pub reached : Decls → Exp → Decls
reached no_decls e = no_decls
reached (constant d a ds) e = kept_if (is_among (wanted ds e) d.text) (constant d a) (reached ds e)
reached (function d p a ds) e = kept_if (is_among (wanted ds e) d.text) (function d p a) (reached ds e)
