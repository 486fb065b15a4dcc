-- What a name stands for where it stands.
use Rattle.std.specs.Prelude.{ℕ, suc, ◌==◌, nat_le, Bool, false, ◌||◌, List, [], ◌∷◌, length, find, map, Option, Some, None}
use Rattle.std.specs.Prelude.{is_some, option_and_then, if◌then◌else◌, bytes_eq}
use Rattle.std.specs.Borrow.{Bor}
use Rattle.std.specs.Option.{option_map, option_or}
use Rattle.kl_syntax.specs.declared.tree.Meaning.{Meaning}
use Rattle.kl_syntax.specs.declared.tree.Meaning.TheVariants.{Variable, Definition, Source, Primitive}
use Rattle.kl_syntax.specs.declared.tree.Word.{Word}
use Rattle.kl_scope.specs.declared.names.Sense.{Sense}
use Rattle.kl_prim.specs.Table.{Entry, rows}

abbrev pub Name : Type 0
Name = List ℕ

-- what can be named at a place: variables, the innermost first; definitions before it, the last first, and whether each
-- is a function; sources
pub record Scope : Type 0 where
  pub variables : List Name
  pub definitions : List (Name × Bool)
  pub sources : List Name

-- what a name means, and how many arguments it takes
abbrev pub sense : Meaning → ℕ → Sense
sense m n = record { means = m; takes = n }

-- the place of the first that has the name, from 0
abbrev pub place_in : List Name → Name → Option ℕ
place_in [] x = None
place_in (y ∷ ys) x = if bytes_eq y x then Some 0 else option_map suc (place_in ys x)

-- the innermost variable
abbrev pub variable_in : List Name → Name → Option Sense
variable_in ys x = option_map (λ i. sense (Variable i) 0) (place_in ys x)

-- the last definition, by its place in the program; a function takes one argument
abbrev pub definition_in : List (Name × Bool) → Name → Option Sense
definition_in [] x = None
definition_in (d ∷ ds) x = if bytes_eq d.0 x then Some (sense (Definition (length ds)) (if d.1 then 1 else 0)) else definition_in ds x

abbrev pub source_in : List Name → Name → Option Sense
source_in ys x = option_map (λ i. sense (Source i) 0) (place_in ys x)

-- the primitive of the table that has the name
abbrev pub entry_named : Name → Option Entry
entry_named x = find (λ e. bytes_eq e.name x) (map (λ r. r.entry) rows)

-- codes 1 to 12 but 10 are operators, and 27 and 28 forms of records, whose names call nothing
abbrev pub has_a_form : ℕ → Bool
has_a_form code = if code == 10 then false else nat_le code 12 || code == 27 || code == 28

abbrev pub by_name : Entry → Option Sense
by_name e = if has_a_form e.code then None else Some (sense (Primitive e.code) e.arity)

abbrev pub primitive_of : Name → Option Sense
primitive_of x = option_and_then by_name (entry_named x)

-- a name: the innermost variable, then a definition, then a source
abbrev pub named : Scope → Name → Option Sense
named s x = option_or (variable_in s.variables x) (option_or (definition_in s.definitions x) (source_in s.sources x))

-- a name with arguments: then a primitive
abbrev pub called : Scope → Name → Option Sense
called s x = option_or (named s x) (primitive_of x)

-- a new definition can't have the name: it has a meaning, or is a primitive's
abbrev pub is_taken : Scope → Name → Bool
is_taken s x = is_some (named s x) || is_some (entry_named x)

abbrev pub at_first : List Name → Scope
at_first sources = record { variables = []; definitions = []; sources = sources }

-- the scope with one variable more, and with several in their written order
abbrev pub bound : Scope → Name → Scope
bound s x = record s { variables = x ∷ s.variables }

abbrev pub all_bound : Scope → List Word → Scope
all_bound s [] = s
all_bound s (w ∷ ws) = all_bound (bound s w.text) ws

-- the scope behind a definition
abbrev pub defined : Scope → Name → Bool → Scope
defined s x is_function = record s { definitions = (x, is_function) ∷ s.definitions }

-- what each reference points to
abbrev pub behind_each : List (Bor Word) → List Word
behind_each words = map (λ w. w.now) words
