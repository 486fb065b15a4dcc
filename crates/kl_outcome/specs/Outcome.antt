-- What an expression, a term or a plan comes to, and what is drawn of it.
use Rattle.std.specs.Prelude.{ℕ, Bool, List, [], ◌∷◌, cond, Option, Some, None}
use Rattle.kl_base.specs.Fields.{field}
use Rattle.kl_value.specs.Canon.{canonical}
use Rattle.kl_value.specs.declared.Kind.{Kind}
use Rattle.kl_value.specs.declared.Kind.TheVariants as kind
use Rattle.kl_value.specs.declared.Value.{Value, Value-F, out-Value}
use Rattle.kl_value.specs.declared.Value.TheVariants as value
use Rattle.kl_prim.specs.Meaning.{Answer, gives, overflows, senseless}
use Rattle.kl_prim.specs.Table.{meaning}
pub use Rattle.kl_prim.specs.Records.{as_record, record_layer}
use Rattle.kl_value.specs.Views.{as_bool, as_collection, Collection}

-- labels and names
abbrev pub Name : Type 0
Name = List ℕ

-- a value; an overflow, with the items before it; or no sense
pub data Outcome : Type 0 where
  done : Value → Outcome
  over : List Value → Outcome
  stuck : Outcome

-- how a drawing ends
pub data End : Type 0 where
  fine : End
  overflow : End
  broken : End

-- the items that are drawn, one after the other, and then the end
pub data Flow : Type 0 where
  more : Value → Flow → Flow
  stop : End → Flow

abbrev pub flow : List Value → End → Flow
flow [] e = stop e
flow (v ∷ vs) e = more v (flow vs e)

abbrev pub items_in : Flow → List Value
items_in (more v f) = v ∷ items_in f
items_in (stop e) = []

abbrev pub end_in : Flow → End
end_in (more v f) = end_in f
end_in (stop e) = e

abbrev pub at_end : End → Flow → Flow
at_end fine g = g
at_end overflow g = stop overflow
at_end broken g = stop broken

-- one after the other, up to the first end that is not fine
abbrev pub followed : Flow → Flow → Flow
followed (more v f) g = more v (followed f g)
followed (stop e) g = at_end e g

-- what is drawn for each item, and then the source's own end
abbrev pub drawn : Flow → (Value → Flow) → Flow
drawn (more v f) go = followed (go v) (drawn f go)
drawn (stop e) go = stop e

-- an overflow in a part that is evaluated leaves no items
abbrev pub after : Outcome → (Value → Outcome) → Outcome
after (done v) go = go v
after (over vs) go = over []
after stuck go = stuck

abbrev pub outcome_of : Option Value → Outcome
outcome_of (Some v) = done v
outcome_of None = stuck

-- what a primitive answers
abbrev pub answered : Answer → Outcome
answered (gives v) = done v
answered overflows = over []
answered senseless = stuck

-- parts in order, and what is made of their values
abbrev pub args_then : List Outcome → (List Value → Outcome) → Outcome
args_then [] go = go []
args_then (o ∷ os) go = after o (λ v. args_then os (λ vs. go (v ∷ vs)))

abbrev pub parts_then : List (Name × Outcome) → (List (Name × Value) → Outcome) → Outcome
parts_then [] go = go []
parts_then (p ∷ ps) go = after p.1 (λ v. parts_then ps (λ fs. go ((p.0, v) ∷ fs)))

abbrev pub applied : ℕ → List Outcome → Outcome
applied code os = args_then os (λ vs. answered (meaning code vs))

abbrev pub recorded : List (Name × Outcome) → Outcome
recorded ps = parts_then ps (λ fs. done (value.Rec fs))

abbrev pub tagged : Name → Outcome → Outcome
tagged l o = after o (λ v. done (value.Inj l v))

-- the part that a test chooses
abbrev pub chosen : Option Bool → Outcome → Outcome → Outcome
chosen (Some b) o q = cond b o q
chosen None o q = stuck

abbrev pub if_then : Outcome → Outcome → Outcome → Outcome
if_then c o q = after c (λ v. chosen (as_bool v) o q)

-- the label and the value of a variant
abbrev pub variant_layer : Value-F Value → Option (Name × Value)
variant_layer (Value-F.Inj l v) = Some (l, v)
variant_layer _ = None

abbrev pub as_variant : Value → Option (Name × Value)
as_variant v = variant_layer (out-Value v)

abbrev pub field_in : Name → Option (List (Name × Value)) → Outcome
field_in l (Some fs) = outcome_of (field l fs)
field_in l None = stuck

abbrev pub part : Name → Outcome → Outcome
part l o = after o (λ v. field_in l (as_record v))

abbrev pub opened : Option (Name × Value) → (Name → Value → Outcome) → Outcome
opened (Some c) go = go c.0 c.1
opened None go = stuck

abbrev pub cases : Outcome → (Name → Value → Outcome) → Outcome
cases o go = after o (λ v. opened (as_variant v) go)

-- the items that an outcome gives, and its end
abbrev pub items_at_all : Option Collection → Flow
items_at_all (Some c) = flow c.items fine
items_at_all None = stop broken

abbrev pub items_of : Outcome → Flow
items_of (done v) = items_at_all (as_collection v)
items_of (over vs) = flow vs overflow
items_of stuck = stop broken

-- a part that gives one item, or the first overflow
abbrev pub item_then : Outcome → Flow → Flow
item_then (done v) f = more v f
item_then (over vs) f = stop overflow
item_then stuck f = stop broken

-- a collection of the items; a list alone keeps those that come before an overflow
abbrev pub kept : Kind → List Value → List Value
kept kind.List vs = vs
kept _ vs = []

abbrev pub gathered : Kind → End → List Value → Outcome
gathered k fine vs = done (canonical k vs)
gathered k overflow vs = over (kept k vs)
gathered k broken vs = stuck

abbrev pub collected : Kind → Flow → Outcome
collected k f = gathered k (end_in f) (items_in f)

-- two collections as one
abbrev pub joined_to : Option Collection → Outcome → Outcome
joined_to (Some c) q = collected c.kind (followed (flow c.items fine) (items_of q))
joined_to None q = stuck

abbrev pub union_of : Outcome → Outcome → Outcome
union_of (done v) q = joined_to (as_collection v) q
union_of (over vs) q = over vs
union_of stuck q = stuck
