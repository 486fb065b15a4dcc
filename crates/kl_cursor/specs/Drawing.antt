-- Which parts a loop draws item by item: its first items are there before the last row of such a part is, and no collection of them is
-- made. What a set gives to a list or a bag must be made first, as none of its items may come twice.
use Rattle.std.specs.Prelude.{◌≢◌, List, Bool, Option, Some, None}
use Rattle.kl_value.specs.declared.Kind.{Kind}
use Rattle.kl_value.specs.declared.Kind.TheVariants as kind
use Rattle.kl_core.specs.Counts.{fits_in}
use Rattle.kl_plan.specs.Kinds.{kind_of_items}
use Rattle.kl_plan.specs.Nodes.{Node}
use Rattle.kl_plan.specs.declared.plan.Plan.{Plan}
use Rattle.kl_plan.specs.declared.plan.Plan.TheVariants as plans

-- A kind that the form of a plan does not tell may be a set's, whose items may be drawn as they come into a set alone.
abbrev pub fits_items : Option Kind → Kind → Bool
fits_items (Some k) into = fits_in k into
fits_items None into = fits_in kind.Set into

-- Whether a loop of a kind draws the items of a plan as they come. Else the plan is made whole first.
abbrev pub draws : Kind → Node → Bool
draws into p = fits_items (kind_of_items p) into

-- for private functions alone: a plan that is no literal, no condition and no binding
abbrev pub IsOther : Plan → Type 0
IsOther p = ((k : Kind) (ps : List Plan) → p ≢ plans.Make k ps) × ((a b c : Plan) → p ≢ plans.If a b c) × ((a b : Plan) → p ≢ plans.Let a b)
