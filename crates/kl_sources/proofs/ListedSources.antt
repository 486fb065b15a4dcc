-- What stands in the list of a session, by the sources that it was made of.
use Rattle.std.proofs.Common.{◌≡◌, ℕ, zero, suc, ◌+◌, Bool, true, false, List, [], ◌∷◌, Some, None, refl, sym, ap, ◌∙◌, arith, slice_get, add-zero}
use Rattle.std.proofs.lemmas.Option.{same_Some}
use Rattle.kl_ask.specs.declared.session.Attached.{Attached}
use Rattle.kl_sources.specs.Attaching.{list_of, listed}
use Rattle.kl_sources.specs.declared.source.Source.{Source}

-- an entry that has a driver is a marked source at that driver
pub listed_source : (marks : ℕ → Bool) (n : ℕ) (ss : List Source) (i : ℕ) (a : Attached) (place : ℕ) → slice_get (list_of marks n ss) i ≡ Some a → a.driver ≡ Some place
    → (s : Source) × (slice_get ss i ≡ Some s) × (marks (n + i) ≡ true) × (s.name ≡ a.source) × (s.driver ≡ place)
listed_source marks n [] i a place at held = absurd cc
listed_source marks n (x ∷ ss) zero a place at held = by_mark (marks n) refl
  where
    by_mark : (b : Bool) → marks n ≡ b → (s : Source) × (slice_get (x ∷ ss) zero ≡ Some s) × (marks (n + zero) ≡ true) × (s.name ≡ a.source) × (s.driver ≡ place)
    by_mark true is =
        let same : listed true x ≡ a = ap (λ b. listed b x) (sym is) ∙ same_Some _ _ at in
        (x, refl, ap marks (add-zero n) ∙ is, ap (λ e. e.source) same, same_Some _ _ (ap (λ e. e.driver) same ∙ held))
    by_mark false is =
        let same : listed false x ≡ a = ap (λ b. listed b x) (sym is) ∙ same_Some _ _ at in
        let none : None ≡ Some place = ap (λ e. e.driver) same ∙ held in
        absurd cc
listed_source marks n (x ∷ ss) (suc i) a place at held =
    let found = listed_source marks (suc n) ss i a place at held in
    (found.0, found.1, ap marks (omega arith) ∙ found.2, found.3, found.4)
