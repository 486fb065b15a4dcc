-- Scans that repeat no row.
use Rattle.std.proofs.Common.{◌≡◌, ◌⊎◌, ⊎_elim, ◌<◌, ◌≤◌, ℕ, ◌+◌, true, List, Some, length, map, get_or, slice_get, refl, sym, ap, ◌∙◌, subst, arith}
use Rattle.std.proofs.lemmas.List.{length-map}
use Rattle.std.proofs.lemmas.Option.{same_Some, slice_get_read, slice_get_within}
use Rattle.kl_type.specs.Ground.{ground_of}
use Rattle.kl_ask.specs.Driver.{State}
use Rattle.kl_ask.specs.Lists.{AtIndex}
use Rattle.kl_ask.specs.World.{IsReady, at_driver, at_place, at_source, source_at}
use Rattle.kl_ask.specs.declared.ask.Abilities.{Abilities}
use Rattle.kl_ask.specs.declared.session.Attached.{Attached}
use Rattle.kl_plan.specs.declared.plan.Scan.{Scan}
use Rattle.kl_scans.specs.Running.{Running, session}
use Rattle.kl_scans.specs.Scans.{CanScan, IsWholeSet, ListsWholeSet}
use Rattle.kl_scans.specs.Stage.{stage, AsksWholeSet, RepeatsNone}
use Rattle.kl_scans.proofs.Called.{of_driver, place_within, has, listed_there}

pub whole_listed : (all : List Attached) (c : Scan) (i : ℕ) (a : Attached) → i < length all → a ≡ get_or all i a → IsWholeSet a c → ListsWholeSet all c
whole_listed all c i a lt is h = (i, a, slice_get_read all (length all) i a refl lt is, h)

module _ {D : Type 0} (state : D → State) (boxes all : List D) (is : boxes ≡ all) (w : Running) (c : Scan) (can : CanScan w c) (drivers : map state all ≡ w.drivers) where
  pub driver_within : c.driver < length boxes
  driver_within = subst (λ n. c.driver < n) (ap length (sym drivers) ∙ length-map all state ∙ ap length (sym is)) (place_within w c can)

  able : (a : Abilities) → AtIndex c.driver (λ s. a ≡ s.kind.abilities) (map state boxes) → a ≡ can.1.held.abilities
  able a can_do =
      let d = of_driver w c can in
      subst (AtIndex c.driver (λ s. a ≡ s.kind.abilities)) (ap (map state) is ∙ drivers) can_do d.0 d.1 ∙ ap (λ k. k.abilities) (sym d.2)

  -- a listed source that is the scan's is the one that its driver has attached
  listed_type : IsReady (session w) → (i : ℕ) (s : Attached) → slice_get w.sources i ≡ Some s → s.source ≡ c.source → s.driver ≡ Some c.driver → can.1.source.ty ≡ s.ty
  listed_type ready i s at named driver =
      let d = of_driver w c can in
      let here : source_at (session w) i ≡ Some can.1.source =
      ap (λ q. at_source q w.drivers) at ∙ ap (λ q. at_place s q w.drivers) driver ∙ ap (at_driver s) d.1 ∙ ap (d.0).attached named ∙ has w c can in
      (ready.listed i s can.1.source at here).ty

  pub repeats : IsReady (session w) → (a : Abilities) → AtIndex c.driver (λ s. a ≡ s.kind.abilities) (map state boxes) → a.unique ≡ true → (listed : List Attached) → listed ≡ w.sources → ListsWholeSet listed c → RepeatsNone (stage w) c
  repeats ready a can_do unique listed same h' =
      let h : ListsWholeSet w.sources c = subst (λ z. ListsWholeSet z c) same h' in
      record {
        held = can.1.held;
        holds = can.1.holds;
        unique = ap (λ k. k.unique) (sym (able a can_do)) ∙ unique;
        source = can.1.source;
        attached = can.1.attached;
        whole = subst (λ t. AsksWholeSet (ground_of t) c.ask) (sym (listed_type ready h.0 h.1 h.2 h.3.0 h.3.1)) h.3.2;
      }

  -- and such a scan is found
  module _ (h : RepeatsNone (stage w) c) where
    same_held : h.held ≡ can.1.held
    same_held = same_Some _ _ (sym h.holds ∙ can.1.holds)

    pub states_it : (a : Abilities) → AtIndex c.driver (λ s. a ≡ s.kind.abilities) (map state boxes) → a.unique ≡ true
    states_it a can_do = ap (λ k. k.unique) (able a can_do) ∙ ap (λ k. k.abilities.unique) (sym same_held) ∙ h.unique

    pub is_listed : IsReady (session w) → (listed : List Attached) → listed ≡ w.sources → ListsWholeSet listed c
    is_listed ready listed same =
        let f = can.1 in
        let source : h.source ≡ f.source = same_Some _ _ (sym h.attached ∙ ap (λ k. k.attached c.source) same_held ∙ f.attached) in
        let whole : AsksWholeSet (ground_of f.source.ty) c.ask = subst (λ s. AsksWholeSet (ground_of s.ty) c.ask) source h.whole in
        let at = listed_there w c can in
        subst (λ z. ListsWholeSet z c) (sym same)
        (f.place, f.entry, at, (sym f.named, f.driver, subst (λ t. AsksWholeSet (ground_of t) c.ask) (listed_type ready f.place f.entry at (sym f.named) f.driver) whole))

-- ---- the search

abbrev pub NoneBefore : List Attached → Scan → ℕ → Type 0
NoneBefore all c i = (j : ℕ) (a : Attached) → j < i → slice_get all j ≡ Some a → IsWholeSet a c → ⊥

pub none_goes : (all : List Attached) (c : Scan) (i : ℕ) (a : Attached) → i < length all → a ≡ get_or all i a → (IsWholeSet a c → ⊥) → NoneBefore all c i → NoneBefore all c (i + 1)
none_goes all c i a lt is other none j b below at h =
    let either : (j < i) ⊎ (j ≡ i) = grind (arith, below) in
    ⊎_elim (λ before. none j b before at h)
    (λ here. let same : b ≡ a = same_Some b a (sym at ∙ ap (slice_get all) here ∙ slice_get_read all (length all) i a refl lt is) in other (subst (λ z. IsWholeSet z c) same h)) either

pub none_yet : (all : List Attached) (c : Scan) → NoneBefore all c 0
none_yet all c j a below = absurd (omega (arith, below))

pub none_listed : (all : List Attached) (c : Scan) (i : ℕ) → length all ≤ i → NoneBefore all c i → ListsWholeSet all c → ⊥
none_listed all c i le none h = none h.0 h.1 (let lt = slice_get_within all h.0 h.1 h.2 in omega (arith, lt, le)) h.2 h.3
