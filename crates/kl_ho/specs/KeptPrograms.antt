-- Programs with function parameters that keep to the rules, of names and of shapes.
use Rattle.std.specs.Prelude.{◌≡◌, nat_eq, List, [], ◌∷◌, cond, length}
use Rattle.std.specs.List.{starts_with}
use Rattle.kl_outcome.specs.Outcome.{Name}
use Rattle.kl_syntax.specs.declared.tree.Decl.{Decl}
use Rattle.kl_syntax.specs.View.{view, decls_of}
use Rattle.kl_meaning.specs.Match.{same_name}
use Rattle.kl_ho.specs.declared.program.HoScoped.{HoScoped}
use Rattle.kl_ho.specs.Expansion.{New}
use Rattle.kl_ho.specs.HoPrograms.{FunctionFields}
use Rattle.kl_ho.specs.Keeps.{AreOld, KeepsDecls}
use Rattle.kl_ho.specs.Plain.{first_arity, first_world}
use Rattle.kl_ho.specs.Shapes.{DefinesOld}

-- the new names are those that begin with a base
abbrev pub begins : Name → New
begins base y = starts_with nat_eq y base

-- the labels that are listed for the first definition of a name
abbrev pub listed : List Decl → List (List Name) → FunctionFields
listed (d ∷ ds) (ls ∷ lss) x = cond (same_name x d.name.text) ls (listed ds lss x)
listed _ _ x = []

abbrev pub fields_of : HoScoped → FunctionFields
fields_of ho = listed ho.program.defs ho.functions

-- the program keeps to the rules over these sources, and its base begins no name that is there
pub record KeepsToRules (sources : List Name) (ho : HoScoped) : Type 0 where
  pub each_listed : length ho.functions ≡ length ho.program.defs
  pub first_old : AreOld (begins ho.base) (first_arity sources)
  pub defines_old : DefinesOld (begins ho.base) (decls_of ho.program.defs)
  pub keeps : KeepsDecls (fields_of ho) (decls_of ho.program.defs) (view ho.program.last) (first_world sources) (first_arity sources)
