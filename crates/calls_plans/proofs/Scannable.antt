-- Sessions in which a scan of a list of integers can be started.
use Rattle.std.proofs.Common.{◌≡◌, ◌<◌, ℕ, zero, suc, List, [], ◌∷◌, ◌++◌, map, Some, true, slice_get, refl, sym, ap, ◌∙◌, subst}
use Rattle.std.specs.List.{AllByRecursion}
use Rattle.std.proofs.lemmas.Option.{same_Some}
use Rattle.std.specs.List.Sorted.{IsStrictlySortedBy}
use Rattle.kl_base.specs.Fields.{bytes_cmp}
use Rattle.kl_value.specs.declared.Kind.TheVariants as kind
use Rattle.kl_value.specs.declared.Value.{Value}
use Rattle.kl_type.specs.Ground.{Ground, coll, int, IsGround, ground_of}
use Rattle.kl_type.specs.declared.Ty.{Ty}
use Rattle.kl_outcome.specs.Outcome.{Name}
use Rattle.kl_outcome.specs.Typed.{Inhabits}
use Rattle.kl_ask.specs.Asks.{kind_of, item_of, shown_type, is_allowed, AskFits}
use Rattle.kl_ask.specs.Driver.{State, Source}
use Rattle.kl_ask.specs.World.{World, IsReady, at_place, at_source, source_at}
use Rattle.kl_ask.specs.declared.ask.Ask.TheVariants as asks
use Rattle.kl_ask.specs.declared.session.Attached.{Attached}
use Rattle.kl_plan.specs.declared.plan.Scan.{Scan}
use Rattle.kl_scans.specs.Held.{Held, held_at}
use Rattle.kl_scans.specs.Running.{Running}
use Rattle.kl_scans.specs.Scans.{CanScan}
use Rattle.kl_scans.specs.Stage.{Stage, stage, AskOf}
use Rattle.calls_plans.specs.Reading.{HoldsNumbers}

none_rising : IsStrictlySortedBy bytes_cmp []
unfolding IsStrictlySortedBy
none_rising = tt

numbers_fit : (g : Ground) → AskFits g [] []
numbers_fit g = record { rising = none_rising; there = tt; fitting = tt }

ask_of : (t : Stage) (h : Held) (c : Scan) (s : Source) → ground_of s.ty ≡ coll kind.List int → AskOf t h c s (asks.Rows c.source [] []) int
ask_of t h c s e = (
  refl,
  subst (λ g. is_allowed h.abilities g (asks.Rows c.source [] []) ≡ true) (sym e) refl,
  numbers_fit (ground_of s.ty),
  ap (λ g. shown_type [] (item_of g)) (sym e),
  λ list. ap kind_of e,
)

abbrev held_of : State → Held
held_of s = record { abilities = s.kind.abilities; attached = s.attached }

abbrev listed_as : Name → Ty → Attached
listed_as name ty = record { source = name; ty = ty; driver = Some 0 }

pub can_scan : {A : Type 0} (f : A → State) (w : Running) (c : Scan) (xs ys : List A) (x : A) (name : Name) (ty : Ty) → w.drivers ≡ map f xs → xs ≡ ys ++ x ∷ [] → ys ≡ []
    → w.sources ≡ listed_as name ty ∷ [] → name ≡ c.source → (s : Source) × ((f x).attached c.source ≡ Some s) × (s.ty ≡ ty) → ground_of ty ≡ coll kind.List int
    → c.driver ≡ 0 → c.ask ≡ asks.Rows c.source [] [] → CanScan w c
unfolding stage held_at
can_scan f w c xs ys x name ty seen pushed none listed named has ground first ask = (
  int,
  record {
    place = 0;
    entry = listed_as name ty;
    listed = ap (λ ss. slice_get ss 0) listed;
    named = sym named;
    driver = ap Some (sym first);
    held = held_of (f x);
    holds = rw (first, seen, pushed, none) refl;
    source = has.0;
    attached = has.1;
    ask = subst (λ a. AskOf (stage w) (held_of (f x)) c has.0 a int) (sym ask) (ask_of (stage w) (held_of (f x)) c has.0 (ap ground_of has.2 ∙ ground));
  },
)

pub numbers_typed : (g : Ground) (rows : List Value) → g ≡ coll kind.List int → AllByRecursion (Inhabits (item_of g)) rows → AllByRecursion (Inhabits int) rows
numbers_typed g rows is h = subst (λ t. AllByRecursion (Inhabits (item_of t)) rows) is h

within_one : (a b : Attached) (i : ℕ) → slice_get (b ∷ []) i ≡ Some a → (i ≡ 0) × (a ≡ b)
within_one a b zero e = (refl, sym (same_Some _ _ e))
within_one a b (suc i) e = absurd cc

pub is_ready : {A : Type 0} (f : A → State) (w : World) (xs ys : List A) (x : A) (source name : Name) (ty : Ty) → w.drivers ≡ map f xs → xs ≡ ys ++ x ∷ [] → ys ≡ []
    → w.sources ≡ listed_as name ty ∷ [] → name ≡ source → HoldsNumbers (f x) source ty → ground_of ty ≡ coll kind.List int → 0 < w.settings.fetch → IsReady w
is_ready f w xs ys x source name ty seen pushed none listed named has ground room = record {
  fetch = room;
  listed = λ i a s at is.
      let first = within_one a (listed_as name ty) i (ap (λ ss. slice_get ss i) (sym listed) ∙ at) in
      let here : source_at w 0 ≡ (f x).attached name = ap (λ ss. at_source (slice_get ss 0) w.drivers) listed ∙ ap (λ ds. at_place (listed_as name ty) (Some 0) ds) (seen ∙ ap (map f) (pushed ∙ ap (λ zs. zs ++ x ∷ []) none)) in
      let same : s ≡ has.0 = same_Some _ _ (sym is ∙ ap (source_at w) first.0 ∙ here ∙ ap (f x).attached named ∙ has.1) in
      let type_is : s.ty ≡ ty = ap (λ (z : Source). z.ty) same ∙ has.2 in
      let shape : ground_of s.ty ≡ coll kind.List int = ap ground_of type_is ∙ ground in
      record {
        ty = type_is ∙ ap (λ (z : Attached). z.ty) (sym first.1);
        proper = subst IsGround (sym shape) tt;
        collection = (kind.List, int, shape);
        typed = λ rows told. subst (λ t. AllByRecursion (Inhabits (item_of t)) rows) (sym shape) (has.3 rows (ap (λ (z : Source). z.rows) (sym same) ∙ told));
      };
}
