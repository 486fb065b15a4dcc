-- What a plan gives, over what its scans read and the values of its positions, the nearest first.
use Rattle.std.specs.Prelude.{Bool, true, false, List, [], ◌∷◌, Option, Some, None, cond, slice_get, nat_eq}
use Rattle.std.specs.Cmp.Lexicographic.{pointwise}
use Rattle.std.specs.Option.{option_map}
use Rattle.std.specs.Ordering.{is_eq}
use Rattle.kl_value.specs.Order.{compare}
use Rattle.kl_value.specs.Views.{as_bool, as_collection, field_at}
use Rattle.kl_value.specs.declared.Kind.{Kind}
use Rattle.kl_value.specs.declared.Value.{Value}
use Rattle.kl_outcome.specs.Outcome.{Name, Outcome, done, over, stuck, Flow, stop, fine, overflow, broken, flow, followed, drawn}
use Rattle.kl_outcome.specs.Outcome.{outcome_of, applied, recorded, tagged, part, as_variant, items_of, item_then, collected, union_of}
use Rattle.kl_core.specs.Core.{Tables, core}
use Rattle.kl_core.specs.Counts.{fits_in}
use Rattle.kl_plan.specs.declared.plan.Scan.{Scan}
use Rattle.kl_plan.specs.Kinds.{first_kind}
use Rattle.kl_plan.specs.Nodes as node
use Rattle.kl_plan.specs.Nodes.{Node, Nodes, no_nodes, nodes, Fields, no_fields, fields, Branches, no_branches, rest, branch, Key}
use Rattle.kl_plan.specs.Nodes.{no_key, key}

-- what a plan comes to: an outcome whose value is made whole, or the items of a collection of a kind as they come
pub data Come : Type 0 where
  one : Outcome → Come
  many : Kind → Flow → Come

-- its value, which of a collection is the canonical one
abbrev pub worth : Come → Outcome
worth (one o) = o
worth (many k f) = collected k f

-- its items as they come
abbrev pub coming : Come → Flow
coming (one o) = items_of o
coming (many k f) = f

-- its items as a loop of a kind draws them: as they come where the kinds fit, else the canonical ones
abbrev pub drawn_for : Kind → Come → Flow
drawn_for k (one o) = items_of o
drawn_for k (many j f) = cond (fits_in j k) f (items_of (collected j f))

-- what is made of the value of a part
abbrev pub come_after : Outcome → (Value → Come) → Come
come_after (done v) go = go v
come_after (over vs) go = one (over [])
come_after stuck go = one stuck

abbrev pub come_chosen : Option Bool → Come → Come → Come
come_chosen (Some b) c d = cond b c d
come_chosen None c d = one stuck

abbrev pub come_opened : Option (Name × Value) → (Name → Value → Come) → Come
come_opened (Some c) go = go c.0 c.1
come_opened None go = one stuck

-- the kind of what is a collection
abbrev pub kind_come : Come → Option Kind
kind_come (one (done v)) = option_map (λ c. c.kind) (as_collection v)
kind_come (one (over vs)) = None
kind_come (one stuck) = None
kind_come (many k f) = Some k

-- Two collections as one of their kind: the items of both, one behind the other, as these come. Where neither is one, an overflow
-- or a part without sense is what comes.
abbrev pub joined_as : Option Kind → Come → Come → Come
joined_as (Some k) c d = many k (followed (coming c) (coming d))
joined_as None c d = one (union_of (worth c) (worth d))

abbrev pub come_union : Come → Come → Come
come_union c d = joined_as (first_kind (kind_come c) (kind_come d)) c d

-- what is kept of a part is its value
abbrev pub come_kept : Come → Come
come_kept (one o) = one o
come_kept (many k f) = many k (items_of (collected k f))

-- ---- joins

abbrev pub on_test : Option Bool → Flow → Flow
on_test (Some true) f = f
on_test (Some false) f = stop fine
on_test None f = stop broken

-- what is drawn where a condition holds
abbrev pub tested : Outcome → Flow → Flow
tested (done v) f = on_test (as_bool v) f
tested (over vs) f = stop overflow
tested stuck f = stop broken

-- what is drawn under a key
abbrev pub under_key : Outcome → (Value → Flow) → Flow
under_key (done v) go = go v
under_key (over vs) go = stop overflow
under_key stuck go = stop broken

-- a row has a key at a label
abbrev pub same_key : Value → Option Value → Option Bool
same_key v (Some w) = Some (is_eq (compare w v))
same_key v None = None

-- ---- what scans read

-- the rows that each scan reads, where they are known
abbrev pub Readings : Type 0
Readings = Scan → Option (List Value)

-- the rows of a scan, as a collection of its kind
abbrev pub scanned : Kind → Option (List Value) → Come
scanned k (Some rows) = many k (flow rows fine)
scanned k None = one stuck

-- a part without sources has no table
abbrev pub no_tables : Tables
no_tables i = None

-- ---- plans

abbrev mutual
  pub plan : Readings → Node → List Value → Come
  plan R (node.Plain t) env = one (core no_tables t env)
  plan R (node.Var x) env = one (outcome_of (slice_get env x))
  plan R (node.Rec fs) env = one (recorded (plan_fields R fs env))
  plan R (node.Proj l a) env = one (part l (worth (plan R a env)))
  plan R (node.Inj l a) env = one (tagged l (worth (plan R a env)))
  plan R (node.Case a bs) env = come_after (worth (plan R a env)) (λ v. come_opened (as_variant v) (λ l w. plan_branches R bs l w env))
  plan R (node.Make k ps) env = many k (plan_items R ps env)
  plan R (node.Union a b) env = come_union (plan R a env) (plan R b env)
  plan R (node.Ext k b s) env = many k (drawn (drawn_for k (plan R s env)) (λ v. coming (plan R b (v ∷ env))))
  plan R (node.If a b c) env = come_after (worth (plan R a env)) (λ v. come_chosen (as_bool v) (plan R b env) (plan R c env))
  plan R (node.Let a b) env = come_after (worth (plan R a env)) (λ v. plan R b (v ∷ env))
  plan R (node.Prim c ps) env = one (applied c (plan_all R ps env))
  plan R (node.Scan s) env = scanned s.kind (R s)
  -- for each row of the outer part that meets the conditions, its key is evaluated, and the inner rows with that key are drawn
  plan R (node.Join n k how o cs i q b) env =
      many k (drawn (drawn_for k (plan R o env)) (λ x. plan_conds R cs (x ∷ env) (plan_key R q (x ∷ env)
      (λ test. drawn (drawn_for k (scanned i.kind (R i))) (λ y. on_test (test y) (coming (plan R b (y ∷ x ∷ env))))))))
  plan R (node.Memo n frees p) env = come_kept (plan R p env)

  pub plan_all : Readings → Nodes → List Value → List Outcome
  plan_all R no_nodes env = []
  plan_all R (nodes p ps) env = worth (plan R p env) ∷ plan_all R ps env

  pub plan_items : Readings → Nodes → List Value → Flow
  plan_items R no_nodes env = stop fine
  plan_items R (nodes p ps) env = item_then (worth (plan R p env)) (plan_items R ps env)

  pub plan_fields : Readings → Fields → List Value → List (Name × Outcome)
  plan_fields R no_fields env = []
  plan_fields R (fields l p fs) env = (l, worth (plan R p env)) ∷ plan_fields R fs env

  -- the first branch for the label
  pub plan_branches : Readings → Branches → Name → Value → List Value → Come
  plan_branches R no_branches l v env = one stuck
  plan_branches R (rest c) l v env = plan R c env
  plan_branches R (branch m b bs) l v env = cond (pointwise nat_eq l m) (plan R b (v ∷ env)) (plan_branches R bs l v env)

  -- what is drawn where all conditions hold
  pub plan_conds : Readings → Nodes → List Value → Flow → Flow
  plan_conds R no_nodes env f = f
  plan_conds R (nodes c cs) env f = tested (worth (plan R c env)) (plan_conds R cs env f)

  -- what is drawn of the rows that have the key
  pub plan_key : Readings → Key → List Value → ((Value → Option Bool) → Flow) → Flow
  plan_key R no_key env go = go (λ y. Some true)
  plan_key R (key l p) env go = under_key (worth (plan R p env)) (λ v. go (λ y. same_key v (field_at l y)))
