-- Scans of lists of sets of texts.
use Rattle.std.proofs.Common.{◌≡◌, ℕ, Bool, true, false, List, [], Ok, Some, IsSome, refl, sym, ap, ◌∙◌, subst}
use Rattle.kl_value.specs.declared.Kind.TheVariants as kinds
use Rattle.kl_value.specs.declared.Value.{Value}
use Rattle.kl_type.specs.Ground.{Ground, IsGround, IsProper, coll, ground_of, str}
use Rattle.kl_type.specs.declared.ground.Ty.{Ty}
use Rattle.kl_type.specs.declared.ground.Ty.TheVariants as ty
use Rattle.kl_type.proofs.GroundLemmas.{ground-Coll, ground-Str}
use Rattle.kl_outcome.specs.Outcome.{Name}
use Rattle.kl_ask.specs.Asks.{columns, item_of}
use Rattle.kl_ask.specs.Driver.{CanStart, Pulls, Source, State}
use Rattle.kl_ask.specs.declared.ask.Ask.TheVariants as asks
use Rattle.kl_ask.specs.declared.ask.ColTest.{ColTest}
use Rattle.kl_ask.proofs.Opened.{some_of}
use Rattle.kl_ask.proofs.Whole.{can_start_whole}

-- an open cursor stays open
pub stays_open : (cursor most : ℕ) (into into' : List Value) (more : Bool) (a b : State) → IsSome (a.cursors cursor) → Pulls cursor most into into' (Ok more) a b → IsSome (b.cursors cursor)
stays_open cursor most into into' true a b is p = let at = some_of (a.cursors cursor) is in rw (p.answer at.0 at.1).now refl
stays_open cursor most into into' false a b is p = let at = some_of (a.cursors cursor) is in rw (p.answer at.0 at.1).now refl

abbrev pub sets : Ground
sets = coll kinds.List (coll kinds.Set str)

pub sets_ground : ground_of (ty.Coll kinds.List (ty.Coll kinds.Set ty.Str)) ≡ sets
sets_ground = ground-Coll kinds.List (ty.Coll kinds.Set ty.Str) ∙ ap (coll kinds.List) (ground-Coll kinds.Set ty.Str ∙ ap (coll kinds.Set) ground-Str)

pub sets_proper : IsProper (ty.Coll kinds.List (ty.Coll kinds.Set ty.Str))
sets_proper = subst IsGround (sym sets_ground) tt

-- all rows of such a source may be asked
module _ (s : State) (name n : Name) (keep : List Name) (tests : List ColTest) (t : Ty) (a : Source) where
  pub asks_all : n ≡ name → keep ≡ [] → tests ≡ [] → s.attached name ≡ Some a → a.ty ≡ t → IsProper a.ty → ground_of t ≡ sets → CanStart s (asks.Rows n keep tests)
  asks_all same none untested is ty good ground =
      let whole = subst (λ g. CanStart s (asks.Rows name (columns (item_of g)) [])) ground (can_start_whole s name t a is ty good) in
      let tested = subst (λ ts. CanStart s (asks.Rows name [] ts)) (sym untested) whole in
      subst (λ m. CanStart s (asks.Rows m keep tests)) (sym same) (subst (λ k. CanStart s (asks.Rows name k tests)) (sym none) tested)
