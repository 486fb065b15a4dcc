-- The copy of a program without its functions, as what is known of its definitions makes it.
-- No public contract cites this.
use Rattle.std.specs.Prelude.{◌≡◌, Bool, ◌&&◌, List, [], cond, Option, Some, None}
use Rattle.kl_outcome.specs.Outcome.{Name}
use Rattle.kl_syntax.specs.declared.tree.Decl.{Decl}
use Rattle.kl_syntax.specs.declared.tree.Pattern.{Pattern}
use Rattle.kl_syntax.specs.declared.tree.Tail.TheVariants as tail
use Rattle.kl_syntax.specs.Syntax.{Pat, shape, Exp, Exps, Flds, Quals, Branches, Steps}
use Rattle.kl_syntax.specs.View.{view, pattern_view}
use Rattle.kl_ho.specs.HoPrograms.{FunctionFields, handed_in, rest_in, higher_from}
use Rattle.kl_ho.specs.Plain.{nothing, takes_function, is_bare_function, plainly, plainly_handed, plainly_all, plainly_fields}
use Rattle.kl_ho.specs.Plain.{plainly_quals, plainly_branches, plainly_steps, body_plainly}
use Rattle.kl_ho.specs.Shapes.{names_after, names_after_all}
use Rattle.kl_functions.specs.declared.plain.Place.{Place}
use Rattle.kl_functions.specs.Known.{fields_in, functions_of}
use Rattle.kl_functions.specs.Occurrences.{names_of, seconds_of}

abbrev pub fields_at : Place → FunctionFields
fields_at s = fields_in s.all.now

abbrev pub functions_at : Place → Name → Bool
functions_at s = functions_of s.before.known.now s.before.sources.now

abbrev pub params_at : Place → List Name
params_at s = names_of s.params.now

abbrev pub is_handed : Place → Exp → Option Name → Name → List Name → Bool
is_handed s e o l V = is_bare_function (functions_at s) (params_at s) e V && takes_function (fields_at s) (params_at s) o l

abbrev pub plain_copy : Place → Exp → Option Name → List Name → Exp
plain_copy s e o V = plainly (fields_at s) (functions_at s) (params_at s) e o V

abbrev pub plain_handed : Place → Exps → Name → List Name → Exps
plain_handed s es f V = plainly_handed (fields_at s) (functions_at s) (params_at s) es f V

abbrev pub plain_all : Place → Exps → List Name → Exps
plain_all s es V = plainly_all (fields_at s) (functions_at s) (params_at s) es V

abbrev pub plain_fields : Place → Flds → Option Name → List Name → Flds
plain_fields s fs o V = plainly_fields (fields_at s) (functions_at s) (params_at s) fs o V

abbrev pub plain_field : Place → Exp → Option Name → Name → List Name → Exp
plain_field s e o l V = cond (is_handed s e o l V) nothing (plain_copy s e None V)

abbrev pub plain_quals : Place → Quals → List Name → Quals
plain_quals s qs V = plainly_quals (fields_at s) (functions_at s) (params_at s) qs V

abbrev pub plain_branches : Place → Branches → List Name → Branches
plain_branches s bs V = plainly_branches (fields_at s) (functions_at s) (params_at s) bs V

abbrev pub plain_steps : Place → Steps → List Name → Steps
plain_steps s ss V = plainly_steps (fields_at s) (functions_at s) (params_at s) ss V

-- ---- declarations

-- the function parameters of a definition with these function fields, and its other variables
abbrev pub parameter_names : List Name → Pat → List Name
parameter_names ls (shape ps tail.Exact) = seconds_of (handed_in ls ps)
parameter_names ls _ = []

abbrev pub other_names : List Name → Pat → List Name
other_names ls (shape ps tail.Exact) = names_after_all (rest_in ls ps) []
other_names ls p = names_after p []

module _ (fields : FunctionFields) (is_function : Name → Bool) where
  abbrev pub function_body : Name → Pat → Exp → Exp
  function_body d p e = body_plainly fields is_function (higher_from (fields d) p e) p e

  abbrev pub IsPlainBody : Name → Option Pattern → Option Pattern → Exp → Exp → Type 0
  IsPlainBody d (Some p) q e x = (q ≡ Some p) × (x ≡ function_body d (pattern_view p) e)
  IsPlainBody d None q e x = (q ≡ None) × (x ≡ plainly fields is_function [] e None [])

  -- the copy of a declaration
  abbrev pub IsPlainDecl : Decl → Decl → Type 0
  IsPlainDecl d c = (c.name ≡ d.name) × IsPlainBody d.name.text d.param c.param (view d.body) (view c.body)
