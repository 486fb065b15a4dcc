-- How function fields are found: which variables a round over the calls of a body makes functions.
-- No public contract cites this.
use Rattle.std.specs.Prelude.{◌≡◌, Bool, true, false, ◌&&◌, ◌||◌, not, List, [], ◌∷◌, ◌++◌, filter, Option, Some, None}
use Rattle.std.specs.Borrow.{Bor}
use Rattle.std.specs.List.{list_any, AllByRecursion}
use Rattle.kl_outcome.specs.Outcome.{Name}
use Rattle.kl_meaning.specs.Match.{same_name}
use Rattle.kl_functions.specs.declared.occurrences.Referent.{Referent}
use Rattle.kl_functions.specs.declared.occurrences.Referent.TheVariants.{Field, Global, Local}
use Rattle.kl_functions.specs.declared.occurrences.Occurrence.{Occurrence}
use Rattle.kl_functions.specs.declared.occurrences.Occurrence.TheVariants.{Alone, Head}
use Rattle.kl_functions.specs.declared.functions.Before.{Before}
use Rattle.kl_functions.specs.declared.functions.Round.{Round}
use Rattle.kl_ho.specs.Functions.{Ref, parameter, global, variable, Site, IsFunction}
use Rattle.kl_ho.specs.HoPrograms.{FunctionFields, is_among}
use Rattle.kl_functions.specs.Known.{functions_of, fields_of}
use Rattle.kl_functions.specs.Occurrences.{names_of}

-- ---- calls

abbrev pub ref_view : Referent → Ref
ref_view (Field x) = parameter x
ref_view (Global x) = global x
ref_view Local = variable

abbrev pub handed_ref : Name → Option Referent → List (Name × Ref) → List (Name × Ref)
handed_ref l (Some r) rest = (l, ref_view r) ∷ rest
handed_ref l None rest = rest

abbrev pub handed_refs : List (Name × Option Referent) → List (Name × Ref)
handed_refs [] = []
handed_refs (f ∷ fs) = handed_ref f.0 f.1 (handed_refs fs)

abbrev pub if_ref : (Name × Ref → Bool) → Name → Option Referent → Bool
if_ref p l (Some r) = p (l, ref_view r)
if_ref p l None = false

abbrev pub literal_refs : Option (List (Name × Option Referent)) → List (Name × Ref)
literal_refs (Some fs) = handed_refs fs
literal_refs None = []

abbrev pub site_at : Occurrence → List Site
site_at (Alone r) = []
site_at (Head r fields) = record { head = ref_view r; handed = literal_refs fields } ∷ []

abbrev pub sites_in : List Occurrence → List Site
sites_in [] = []
sites_in (o ∷ os) = site_at o ++ sites_in os

-- ---- a round

abbrev pub is_parameter : Name → Ref → Bool
is_parameter x (parameter y) = same_name x y
is_parameter x _ = false

-- each field that is named is one of these
abbrev pub IsOf : List Name → Ref → Type 0
IsOf cs (parameter x) = is_among x cs ≡ true
IsOf cs _ = Unit {0}

abbrev pub IsSiteOf : List Name → Site → Type 0
IsSiteOf cs s = IsOf cs s.head × AllByRecursion (λ f. IsOf cs f.1) s.handed

abbrev pub AreSitesOf : List Name → List Site → Type 0
AreSitesOf cs ss = AllByRecursion (IsSiteOf cs) ss

-- what is known before the definition, the calls in its body, and the fields that are not known to be functions
pub record Facts : Type 0 where
  pub is_function : Name → Bool
  pub before : FunctionFields
  pub calls : List Site
  pub unmade : List Name

module _ (facts : Facts) where
  abbrev pub stands_for : Ref → Bool
  stands_for (parameter x) = not (is_among x facts.unmade)
  stands_for (global d) = facts.is_function d
  stands_for variable = false

  abbrev pub gives_at : Name → Name × Ref → Bool
  gives_at l f = same_name l f.0 && stands_for f.1

  -- in this call of the parameter a function stands at the label
  abbrev pub gives : Name → Name → Site → Bool
  gives h l s = is_parameter h s.head && list_any (λ f. gives_at l f) s.handed

  -- at the label of this head a function is known to stand
  abbrev pub is_field : Ref → Name → Bool
  is_field (parameter h) l = list_any (λ s. gives h l s) facts.calls
  is_field (global d) l = is_among l (facts.before d)
  is_field variable l = false

  abbrev pub is_handed_at : Name → Ref → Name × Ref → Bool
  is_handed_at x r f = is_parameter x f.1 && is_field r f.0

  -- the variable is the head of this call, or is handed to a function field of its head
  abbrev pub makes : Name → Site → Bool
  makes x s = is_parameter x s.head || list_any (λ f. is_handed_at x s.head f) s.handed

  abbrev pub is_made : Name → Bool
  is_made x = list_any (λ s. makes x s) facts.calls

  abbrev pub still_unmade : List Name → List Name
  still_unmade xs = filter (λ x. not (is_made x)) xs

-- all candidates but these are functions
abbrev pub AreMade : Facts → List Name → Type 0
AreMade facts candidates =
    AreSitesOf candidates facts.calls → (x : Name) → is_among x candidates ≡ true → is_among x facts.unmade ≡ false → IsFunction facts.is_function facts.before facts.calls x

-- and no round makes more of them functions
pub record AreSettled (facts : Facts) (candidates : List Name) : Type 0 where
  pub closed : (x : Name) → is_among x facts.unmade ≡ true → is_made facts x ≡ false
  pub known : AreMade facts candidates

-- ---- in the code's own places

abbrev pub facts_in : Before → List Occurrence → List (Bor Name) → Facts
facts_in before found unmade = record {
  is_function = functions_of before.known.now before.sources.now;
  before = fields_of before.known.now;
  calls = sites_in found;
  unmade = names_of unmade;
}

abbrev pub facts_of : Round → Facts
facts_of r = facts_in r.before r.found.now r.unmade.now

abbrev pub at_place : (Site → Bool) → Occurrence → Bool
at_place p (Alone r) = false
at_place p (Head r fields) = p (record { head = ref_view r; handed = literal_refs fields })

abbrev pub if_bare : (Name × Ref → Bool) → Name × Option Referent → Bool
if_bare p f = if_ref p f.0 f.1
