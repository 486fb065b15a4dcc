-- How a pattern takes a value.
use Rattle.std.specs.Prelude.{Bool, true, false, ◌||◌, List, [], ◌∷◌, cond, Option, Some, None, nat_eq}
use Rattle.std.specs.List.{list_all}
use Rattle.std.specs.Cmp.Lexicographic.{pointwise}
use Rattle.std.specs.Ordering.{is_eq}
use Rattle.kl_base.specs.Fields.{field}
use Rattle.kl_value.specs.Order.{compare}
use Rattle.kl_value.specs.declared.Value.{Value}
use Rattle.kl_value.specs.declared.Value.TheVariants as value
use Rattle.kl_prim.specs.Records.{Fields, without}
use Rattle.kl_outcome.specs.Outcome.{Outcome, done, over, stuck, Flow, stop, fine, overflow, broken, Name, as_record, as_variant}
use Rattle.kl_syntax.specs.declared.tree.Tail.{Tail}
use Rattle.kl_syntax.specs.declared.tree.Tail.TheVariants as tail
use Rattle.kl_syntax.specs.Syntax.{Pat, catch, any, same, is, shape, variant, Pats, no_pats, pats}

-- what each variable has, the last bound first
abbrev pub Env : Type 0
Env = List (Name × Value)

-- the bindings; no; an overflow in the value of a bare name; or no sense
pub data Fit : Type 0 where
  bound : Env → Fit
  misses : Fit
  past : Fit
  odd : Fit

abbrev pub fit_then : Fit → (Env → Fit) → Fit
fit_then (bound env) go = go env
fit_then misses go = misses
fit_then past go = past
fit_then odd go = odd

abbrev pub same_name : Name → Name → Bool
same_name = pointwise nat_eq

-- a test for equality with what stands in the pattern
abbrev pub compared : Outcome → Value → Env → Fit
compared (done w) v env = cond (is_eq (compare v w)) (bound env) misses
compared (over ws) v env = past
compared stuck v env = odd

abbrev pub has_label : Pats → Name → Bool
has_label no_pats l = false
has_label (pats m p ps) l = same_name l m.text || has_label ps l

abbrev pub fit_field : Option Value → (Value → Fit) → Fit
fit_field (Some v) go = go v
fit_field None go = odd

abbrev pub is_open : Tail → Bool
is_open tail.Exact = false
is_open _ = true

-- without `...` a record has no other labels
abbrev pub fit_record : Option Fields → Bool → Pats → (Fields → Fit) → Fit
fit_record (Some fs) dots ps go = cond (dots || list_all (λ f. has_label ps f.0) fs) (go fs) odd
fit_record None dots ps go = odd

-- the rest of a record is bound after its fields are matched
abbrev pub bind_rest : Tail → Fields → Env → Fit
bind_rest (tail.Rest x) others env = bound ((x.text, value.Rec others) ∷ env)
bind_rest _ others env = bound env

abbrev pub fit_variant : Option (Name × Value) → Name → (Value → Fit) → Fit
fit_variant (Some c) l go = cond (same_name c.0 l) (go c.1) misses
fit_variant None l go = odd

-- the bindings after those that stand; `outside` is what a bare name has outside the pattern
abbrev mutual
  pub fits : Pat → (Name → Outcome) → Value → Env → Fit
  fits (catch x) outside v env = bound ((x.text, v) ∷ env)
  fits any outside v env = bound env
  fits (same x) outside v env = compared (outside x.text) v env
  fits (is w n) outside v env = compared (done w) v env
  fits (shape ps end) outside v env =
      fit_record (as_record v) (is_open end) ps
      (λ fs. fit_then (fits_fields ps outside fs env) (λ inner. bind_rest end (without (has_label ps) fs) inner))
  fits (variant l p) outside v env = fit_variant (as_variant v) l.text (λ w. fits p outside w env)

  -- in written order
  pub fits_fields : Pats → (Name → Outcome) → Fields → Env → Fit
  fits_fields no_pats outside fs env = bound env
  fits_fields (pats l p ps) outside fs env =
      fit_field (field l.text fs) (λ v. fit_then (fits p outside v env) (λ inner. fits_fields ps outside fs inner))

-- what is drawn of an item: nothing where it does not fit
abbrev pub if_fits : Fit → (Env → Flow) → Flow
if_fits (bound env) go = go env
if_fits misses go = stop fine
if_fits past go = stop overflow
if_fits odd go = stop broken

-- what comes of a value that must fit
abbrev pub must_fit : Fit → (Env → Outcome) → Outcome
must_fit (bound env) go = go env
must_fit misses go = stuck
must_fit past go = over []
must_fit odd go = stuck
