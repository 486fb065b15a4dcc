-- The body over the rows of a statement is what the statement of these tables has over what it shows.
use Rattle.std.proofs.Common.{◌≡◌, ℕ, ◌-◌, List, ◌∷◌, length, map, slice_get, Option, Some, None, refl, ap, ◌∙◌, arith}
use Rattle.std.specs.Option.{option_map}
use Rattle.std.proofs.lemmas.List.{length-map}
use Rattle.std.proofs.lemmas.Option.{slice_get-map}
use mathlib.Core.Path.{fun_ext, ap₂}
use Rattle.kl_core.specs.Trees.{Tree}
use Rattle.kl_sqltext.specs.Grammar.{SqlColumn}
use Rattle.kl_ship.specs.declared.source.ShipSource.{ShipSource}
use Rattle.kl_ship.specs.Joined.{label_in, packed, columns_of, columns_if, columns_at, over_shown}
use Rattle.kl_ship.specs.Packed.{list_or_none, columns_listed, over_rows}

listed_at : (ts : List ShipSource) (i : ℕ) → columns_listed (map columns_of ts) i ≡ columns_at ts i
listed_at ts i = ap list_or_none (slice_get-map columns_of ts i) ∙ by (slice_get ts i)
  where
    by : (o : Option ShipSource) → list_or_none (option_map columns_of o) ≡ columns_if o
    by (Some t) = refl
    by None = refl

pub rows_shown : (s t : ShipSource) (ts : List ShipSource) (cs : List SqlColumn) (d : Tree) → over_rows cs (map columns_of (s ∷ t ∷ ts)) 0 d ≡ over_shown s (t ∷ ts) cs d
rows_shown s t ts cs d =
    ap (λ n. packed n (λ p. label_in cs (n - 1 - p)) (λ p. columns_listed (map columns_of (s ∷ t ∷ ts)) (n - 1 - p)) 0 d) (length-map (s ∷ t ∷ ts) columns_of)
    ∙ ap₂ (λ f g. packed (length (s ∷ t ∷ ts)) f g 0 d) (fun_ext (λ p. ap (label_in cs) (place p))) (fun_ext (λ p. listed_at (s ∷ t ∷ ts) (length (s ∷ t ∷ ts) - 1 - p) ∙ ap (columns_at (s ∷ t ∷ ts)) (place p)))
  where
    place : (p : ℕ) → length (s ∷ t ∷ ts) - 1 - p ≡ length (t ∷ ts) - p
    place p = omega arith
