-- What one read of a record does to the records that are left.
use Rattle.std.proofs.Common.{◌≡◌, ℕ, true, false, List, [], ◌∷◌, Option, Some, Bor, refl, sym, ap, ◌∙◌, inl}
use Rattle.csv.specs.Reading.{Reached, ReadRecord, default_config, is_flexible, took_first}
use Rattle.csv.proofs.ReadFacts.{rows-end, rows-more}
use Rattle.kl_flat.specs.Records.{TextReader, IsPlain, left_from, records_left, source}
use Rattle.kl_flat.proofs.Fuel.{left-some, left-none}

-- the bytes of a reader over a slice
abbrev rem : Bor (List ℕ) → Option (List ℕ)
rem s = Some s.now

at_reader : (r : TextReader) (y : List ℕ) → source r ≡ Some y → records_left r ≡ left_from r.state y
at_reader r y e = rw e refl

pub read-some : (a b : TextReader) (f : List (List ℕ)) → IsPlain a → took_first b ≡ true → is_flexible b ≡ is_flexible a → ReadRecord rem a b true f
    → IsPlain b × (records_left a ≡ f ∷ records_left b)
unfolding Reached
read-some a b f plain first flexible r =
    let (y, at) = plain.known in
    let (z, known, reached) = rows-more rem a b f default_config a.state y y [] plain.config at (refl, refl) r in
    let (p, next, row, ends) = reached in (
      record { trims = r.3 ∙ plain.trims; ready = inl first; config = r.2 ∙ plain.config; flexible = flexible ∙ plain.flexible; known = (z, known) },
      at_reader a y at ∙ left-some a.state y p next ∙ (λ i. sym row i ∷ left_from (ends.0 i) (ends.1 i)) ∙ ap (λ rs. f ∷ rs) (sym (at_reader b z known)),
    )

pub read-none : (a b : TextReader) (f : List (List ℕ)) → IsPlain a → ReadRecord rem a b false f → records_left a ≡ []
read-none a b f plain r =
    let (y, at) = plain.known in
    at_reader a y at ∙ left-none a.state y (rows-end rem a b f default_config y plain.config at r)
