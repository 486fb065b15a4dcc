-- What is known of the definitions of a program.
use Rattle.std.specs.Prelude.{◌≡◌, ◌↔◌, Bool, true, false, not, List, [], ◌∷◌, ◌++◌, map, filter, cond, Option, Some, None}
use Rattle.std.specs.List.{AllByRecursion, Contains}
use Rattle.kl_outcome.specs.Outcome.{Name}
use Rattle.kl_syntax.specs.declared.tree.Decl.{Decl}
use Rattle.kl_syntax.specs.declared.tree.Pattern.{Pattern}
use Rattle.kl_syntax.specs.Syntax.{Pat, Exp}
use Rattle.kl_syntax.specs.View.{view, pattern_view}
use Rattle.kl_meaning.specs.Match.{same_name}
use Rattle.kl_functions.specs.declared.functions.Before.{Before}
use Rattle.kl_functions.specs.declared.functions.Known.{Known}
use Rattle.kl_ho.specs.Functions.{IsFieldOf, first_functions}
use Rattle.kl_ho.specs.HoPrograms.{FunctionFields, is_among}

-- before a definition the last one of a name counts
abbrev pub function_at : List Known → Bool → Name → Bool
function_at [] found x = found
function_at (k ∷ ks) found x = function_at ks (cond (same_name x k.name) k.is_function found) x

abbrev pub fields_at : List Known → List Name → Name → List Name
fields_at [] found x = found
fields_at (k ∷ ks) found x = fields_at ks (cond (same_name x k.name) k.fields found) x

abbrev pub functions_of : List Known → List Name → Name → Bool
functions_of known sources x = function_at known (first_functions sources x) x

abbrev pub fields_of : List Known → FunctionFields
fields_of known x = fields_at known [] x

-- the labels of the candidates that are not unmade
abbrev pub settled_labels : List Name → List (Name × Name) → List Name
settled_labels unmade cs = map (λ c. c.0) (filter (λ c. not (is_among c.1 unmade)) cs)

-- the labels are those of the least function fields, over these definitions
abbrev pub AreLabels : List Name → List Known → Pat → Exp → List Name → Type 0
AreLabels sources known p e ls = (l : Name) → Contains ls l ↔ IsFieldOf (functions_of known sources) (fields_of known) p e l

abbrev pub AreFieldsOf : Before → Pat → Exp → List Name → Type 0
AreFieldsOf before p e ls = AreLabels before.sources.now before.known.now p e ls

abbrev pub IsKnownBy : List Name → List Known → Option Pattern → Decl → Known → Type 0
IsKnownBy sources known (Some p) d k = (k.is_function ≡ true) × AreLabels sources known (pattern_view p) (view d.body) k.fields
IsKnownBy sources known None d k = (k.is_function ≡ false) × (k.fields ≡ [])

abbrev pub IsKnownAs : List Name → List Known → Known → Decl → Type 0
IsKnownAs sources known k d = (k.name ≡ d.name.text) × IsKnownBy sources known d.param d k

abbrev pub IsKnown : Before → Known → Decl → Type 0
IsKnown before k d = IsKnownAs before.sources.now before.known.now k d

-- of each definition, over those before it
abbrev pub AreKnown : List Name → List Known → List Known → List Decl → Type 0
AreKnown sources known [] [] = Unit {0}
AreKnown sources known (k ∷ ks) (d ∷ ds) = IsKnownAs sources known k d × AreKnown sources (known ++ k ∷ []) ks ds
AreKnown sources known _ _ = ⊥

-- of a name that is defined twice the first definition counts, so that nothing before the second one is read by it
abbrev pub fields_in : List Known → FunctionFields
fields_in [] x = []
fields_in (k ∷ ks) x = cond (same_name x k.name) k.fields (fields_in ks x)

-- no two definitions have one name
abbrev pub AreDistinct : List Decl → Type 0
AreDistinct [] = Unit {0}
AreDistinct (d ∷ ds) = AllByRecursion (λ e. same_name e.name.text d.name.text ≡ false) ds × AreDistinct ds
