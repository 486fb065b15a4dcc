-- The kind of the collections that a scheme stands for.
use Rattle.std.specs.Prelude.{◌≡◌, ℕ, List, Option, Some, None, slice_get}
use Rattle.kl_value.specs.declared.Kind.{Kind}
use Rattle.kl_type.specs.Ground.{Ground, coll}
use Rattle.kl_rows.specs.declared.schemes.Node.TheVariants as node
use Rattle.kl_rows.specs.declared.schemes.Part.{Part}
use Rattle.kl_rows.specs.declared.schemes.Part.TheVariants.{Is}
use Rattle.kl_rows.specs.declared.schemes.Scheme.{Scheme}
use Rattle.kl_rows.specs.Schemes.{Instance}

abbrev pub fixed_kind : Option Part → Option Kind
fixed_kind (Some (Is (node.Fixed k))) = Some k
fixed_kind _ = None

abbrev pub kind_place : Option Part → Option ℕ
kind_place (Some (Is (node.Coll k t))) = Some k
kind_place _ = None

abbrev pub kind_at : List Part → Option ℕ → Option Kind
kind_at parts (Some k) = fixed_kind (slice_get parts k)
kind_at parts None = None

-- the known kind of the collection at the root
abbrev pub known_kind : Scheme → Option Kind
known_kind s = kind_at s.nodes (kind_place (slice_get s.nodes s.root))

-- some instance is no collection of this kind
abbrev pub HasOther : Scheme → Kind → Type 0
HasOther s k = (t : Ground) × Instance s t × ((a : Ground) → t ≡ coll k a → ⊥)
