-- How the code keeps what can be named.
-- No public contract cites this.
use Rattle.std.specs.Prelude.{◌≡◌, ℕ, Bool, List, [], ◌∷◌, length, map, reverse, Option, Some, None, if◌then◌else◌, bytes_eq}
use Rattle.std.specs.BTreeMap.{BTreeMap, get}
use Rattle.std.specs.Option.{option_or}
use Rattle.kl_base.specs.Fields.{bytes_cmp}
use Rattle.kl_scope.specs.declared.names.Bound.{Bound}
use Rattle.kl_scope.specs.declared.names.Sense.{Sense}
use Rattle.kl_scope.specs.Senses.{Name, definition_in, source_in}

abbrev pub names_of : List Bound → List Name
names_of bs = map (λ b. b.name) bs

-- the number of variables outside the innermost of a name
abbrev pub level_in : List Name → Name → Option ℕ
level_in [] x = None
level_in (y ∷ ys) x = if bytes_eq y x then Some (length ys) else level_in ys x

-- each variable says which one it hides
abbrev pub HidingIs : List Bound → Type 0
HidingIs [] = Unit {0}
HidingIs (b ∷ bs) = (b.hidden ≡ level_in (names_of bs) b.name) × HidingIs bs

-- the tables say what the lists do
pub record Kept (variables : List Bound) (innermost : BTreeMap Name ℕ) (definitions : List (Name × Bool)) (sources : List Name)
    (fixed : BTreeMap Name Sense) : Type 0 where
  pub levels : (x : Name) → get bytes_cmp innermost x ≡ level_in (names_of (reverse variables)) x
  pub hiding : HidingIs (reverse variables)
  pub others : (x : Name) → get bytes_cmp fixed x ≡ option_or (definition_in (reverse definitions) x) (source_in sources x)
