-- Which types tables have, seen as ground types.
use Rattle.std.proofs.Common.{◌≡◌, ℕ, ◌==◌, not, true, false, [], ◌∷◌, length, refl, sym, ap, ◌∙◌, subst}
use Rattle.std.specs.List.{list_all}
use Rattle.std.proofs.lemmas.Bool.{and_parts}
use Rattle.kl_type.specs.Ground.{rec, row_by, ground_of}
use Rattle.kl_type.specs.declared.ground.Ty.{Ty, Ty-F, out-Ty, roll-Ty, roll-out-Ty}
use Rattle.kl_type.specs.declared.ground.Ty.TheVariants as ty
use Rattle.kl_type.proofs.GroundLemmas.{ground-Bool, ground-Int, ground-Str}
use Rattle.kl_ask.specs.Asks.{item_of}
use Rattle.kl_ask.specs.Driver.{IsBase, AllBase, IsFlat, Suits}
use Rattle.kl_ask.specs.Tables.{columns_of}
use Rattle.kl_ask.proofs.Shapes.{Shape, columns_shape}
use Rattle.kl_flat.specs.Columns.{is_base, is_table_type, base_layer}
use Rattle.kl_flat.specs.Table.{Columns}

base_by : (x : Ty-F Ty) → base_layer x ≡ true → IsBase (ground_of (roll-Ty x))
base_by Ty-F.Bool e = subst IsBase (sym (ap ground_of ty.rolls-Bool ∙ ground-Bool)) tt
base_by Ty-F.Int e = subst IsBase (sym (ap ground_of ty.rolls-Int ∙ ground-Int)) tt
base_by Ty-F.Str e = subst IsBase (sym (ap ground_of ty.rolls-Str ∙ ground-Str)) tt
base_by x e = cc

base_is : (t : Ty) → is_base t ≡ true → IsBase (ground_of t)
base_is t e = subst (λ u. IsBase (ground_of u)) (roll-out-Ty t) (base_by (out-Ty t) e)

all_base : (columns : Columns) → list_all (λ c. is_base c.1) columns ≡ true → AllBase (row_by ground_of columns)
all_base [] e = tt
all_base (c ∷ columns) e = let parts = and_parts (is_base c.1) (list_all (λ c. is_base c.1) columns) e in (base_is c.1 parts.0, all_base columns parts.1)

flat_row : (columns : Columns) → (length columns ≡ 0 → ⊥) → list_all (λ c. is_base c.1) columns ≡ true → IsFlat (rec (row_by ground_of columns))
flat_row [] some e = absurd (some refl)
flat_row (c ∷ columns) some e = all_base (c ∷ columns) e

not_none : (n : ℕ) → not (n == 0) ≡ true → n ≡ 0 → ⊥
not_none n h e = let f = rw e at h in cc

table_shape : (t : Ty) → is_table_type t ≡ true → Shape (ground_of t) (columns_of t) × IsFlat (rec (row_by ground_of (columns_of t)))
table_shape t e =
    let parts = and_parts (not (length (columns_of t) == 0)) (list_all (λ c. is_base c.1) (columns_of t)) e in
    let some = not_none (length (columns_of t)) parts.0 in
    (columns_shape t some, flat_row (columns_of t) some parts.1)

pub item_is : (t : Ty) → is_table_type t ≡ true → item_of (ground_of t) ≡ rec (row_by ground_of (columns_of t))
item_is t e = ap item_of (table_shape t e).0.1

pub item_flat : (t : Ty) → is_table_type t ≡ true → IsFlat (item_of (ground_of t))
item_flat t e = subst IsFlat (sym (item_is t e)) (table_shape t e).1

pub suits : (t : Ty) → is_table_type t ≡ true → Suits (record { select = true; project = true; join = false; unique = false }) (ground_of t)
suits t e = record {
  collection = ((table_shape t e).0.0, rec (row_by ground_of (columns_of t)), (table_shape t e).0.1);
  select = λ is. item_flat t e;
  project = λ is. item_flat t e;
  join = λ is. cc;
  no_list = λ is. cc;
}
