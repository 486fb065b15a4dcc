-- The sources of a catalogue, as plans are made for them.
use Rattle.std.proofs.Common.{◌≡◌, ◌<◌, ℕ, List, [], ◌∷◌, length, map, get_or, Some, slice_get, refl, sym, ap, ◌∙◌, subst, arith}
use Rattle.std.proofs.lemmas.List.{length-map}
use Rattle.std.proofs.lemmas.Option.{slice_get_read, slice_get_within}
use Rattle.std.specs.List.{AllByRecursion}
use Rattle.kl_outcome.specs.Outcome.{Name}
use Rattle.kl_type.specs.Ground.{IsGround, IsProper}
use Rattle.kl_type.specs.declared.Ty.{Ty}
use Rattle.kl_ask.specs.Driver.{DriverKind, State, Suits}
use Rattle.kl_ask.specs.declared.ask.Abilities.{Abilities}
use Rattle.kl_base.proofs.Places.{get-map}
use Rattle.kl_ship.specs.Contents.{AreSources}
use Rattle.kl_ship.specs.Sources.{ground}
use Rattle.kl_ship.specs.declared.source.ShipSource.{ShipSource}
use Rattle.kl_sources.specs.Sources.{ArePlaced, IsSuited, IsFit, kinds_of}
use Rattle.kl_sources.proofs.Lists.{of_all, unmapped}
use Rattle.kl_sources.specs.declared.source.Source.{Source}
use Rattle.kl_run.specs.Planned.{abilities_in, ship_source, ships_of}

-- of drivers by what they mean
module _ {A : Type 0} (f : A → State) (ds : List A) where
  pub place_within : (s : Source) → IsSuited (kinds_of (map f ds)) s → s.driver < length ds
  place_within s h =
      let lt = slice_get_within (kinds_of (map f ds)) s.driver h.0 h.1 in
      let e = length-map (map f ds) (λ d. d.kind) in
      let g = length-map ds f in
      omega (arith, lt, e, g)

  pub source_made : (s : Source) (x : A) (ty : Ty) (can : Abilities) (name : Name) → IsSuited (kinds_of (map f ds)) s → x ≡ get_or ds s.driver x → can ≡ (f x).kind.abilities → ty ≡ s.ty → name ≡ s.name
      → ◌≡◌ {A = ShipSource} (record { ty = ty; driver = s.driver; abilities = can; name = name }) (ship_source (kinds_of (map f ds)) s)
  source_made s x ty can name h is e g i =
      let here : slice_get (kinds_of (map f ds)) s.driver ≡ Some (f x).kind = get-map (λ d. d.kind) (map f ds) s.driver (f x) (get-map f ds s.driver x (slice_get_read ds (length ds) s.driver x refl (place_within s h) is)) in
      let same : can ≡ abilities_in (slice_get (kinds_of (map f ds)) s.driver) = e ∙ ap abilities_in (sym here) in
      rw (same, g, i) refl

-- a source that is placed, as plans are made for it
module _ (ks : List DriverKind) (ss : List Source) (placed : ArePlaced ks ss) where
  abbrev From : ShipSource → Type 0
  From t = (i : ℕ) × (s : Source) × (slice_get ss i ≡ Some s) × (ship_source ks s ≡ t)

  from : (i : ℕ) (t : ShipSource) → slice_get (ships_of ks ss) i ≡ Some t → From t
  from i t at = let q = unmapped (ship_source ks) ss i t at in (i, q.0, q.1, q.2)

  -- what a driver can do goes with the types of its sources, and is the same for all of them
  pub are_sources : AreSources (ships_of ks ss)
  are_sources = record {
    suited = λ i t at.
        let q = from i t at in
        let f = of_all (IsFit ks) ss q.0 q.1 placed.fit q.2 in
        subst (λ x. Suits x.abilities (ground x)) q.3 (subst (λ o. Suits (abilities_in o) (ground (ship_source ks q.1))) (sym f.1) f.2);
    able = λ i j s t at there same.
        let p = from i s at in
        let q = from j t there in
        let driver : q.1.driver ≡ p.1.driver = ap (λ (x : ShipSource). x.driver) q.3 ∙ same ∙ sym (ap (λ (x : ShipSource). x.driver) p.3) in
        sym (ap (λ (x : ShipSource). x.abilities) q.3) ∙ ap (λ d. abilities_in (slice_get ks d)) driver ∙ ap (λ (x : ShipSource). x.abilities) p.3;
  }

pub are_proper : (ks : List DriverKind) (ss : List Source) → AllByRecursion (λ s. IsProper s.ty) ss → AllByRecursion (λ s. IsGround (ground s)) (ships_of ks ss)
are_proper ks [] h = tt
are_proper ks (s ∷ ss) h = (h.0, are_proper ks ss h.1)

-- of a list that was made of them
pub sources_made : (ks : List DriverKind) (ss : List Source) (ships all : List ShipSource) → ArePlaced ks ss → ships ≡ ships_of ks ss → all ≡ ships → AreSources all
sources_made ks ss ships all placed h e = subst AreSources (sym (e ∙ h)) (are_sources ks ss placed)

pub proper_made : (ks : List DriverKind) (ss : List Source) (ships all : List ShipSource) → ArePlaced ks ss → ships ≡ ships_of ks ss → all ≡ ships → AllByRecursion (λ s. IsGround (ground s)) all
proper_made ks ss ships all placed h e = subst (AllByRecursion (λ s. IsGround (ground s))) (sym (e ∙ h)) (are_proper ks ss placed.proper)
