-- The types that made rows suit, seen as ground types.
use Rattle.std.proofs.Common.{◌≡◌, ℕ, true, false, List, [], ◌∷◌, length, codes, nat_eq, refl, sym, ap, ◌∙◌}
use Rattle.std.specs.Cmp.Lexicographic.{pointwise, same_text}
use Rattle.std.proofs.lemmas.Bool.{and_parts}
use Rattle.kl_value.specs.declared.Kind.{Kind}
use Rattle.kl_type.specs.Ground.{coll, int, str, rec, row, no_row, row_by, ground_of}
use Rattle.kl_type.specs.Parts.{is_int, is_string}
use Rattle.kl_type.specs.declared.ground.Ty.{Ty, Ty-F, out-Ty, roll-Ty, roll-out-Ty}
use Rattle.kl_type.specs.declared.ground.Ty.TheVariants as ty
use Rattle.kl_type.proofs.GroundLemmas.{ground-Int, ground-Str}
use Rattle.kl_ask.specs.Asks.{item_of}
use Rattle.kl_ask.specs.Driver.{Suits}
use Rattle.kl_ask.specs.Tables.{columns_of}
use Rattle.kl_ask.proofs.Shapes.{columns_shape}
use Rattle.kl_tools.specs.Driver.{made_type}
use Rattle.kl_tools.specs.Types.{are_made, is_int_at, is_made_type, is_text_at}

int_is : (t : Ty) → is_int t ≡ true → ground_of t ≡ int
int_is t h = by (out-Ty t) refl
  where
    by : (x : Ty-F Ty) → out-Ty t ≡ x → ground_of t ≡ int
    by Ty-F.Int e = ap ground_of (sym (roll-out-Ty t) ∙ ap roll-Ty e ∙ ty.rolls-Int) ∙ ground-Int
    by Ty-F.Bool e = let n = rw e at h in cc
    by Ty-F.Str e = let n = rw e at h in cc
    by (Ty-F.Rec fs) e = let n = rw e at h in cc
    by (Ty-F.Var fs) e = let n = rw e at h in cc
    by (Ty-F.Coll k u) e = let n = rw e at h in cc

text_is : (t : Ty) → is_string t ≡ true → ground_of t ≡ str
text_is t h = by (out-Ty t) refl
  where
    by : (x : Ty-F Ty) → out-Ty t ≡ x → ground_of t ≡ str
    by Ty-F.Str e = ap ground_of (sym (roll-out-Ty t) ∙ ap roll-Ty e ∙ ty.rolls-Str) ∙ ground-Str
    by Ty-F.Bool e = let n = rw e at h in cc
    by Ty-F.Int e = let n = rw e at h in cc
    by (Ty-F.Rec fs) e = let n = rw e at h in cc
    by (Ty-F.Var fs) e = let n = rw e at h in cc
    by (Ty-F.Coll k u) e = let n = rw e at h in cc

abbrev Column : Type 0
Column = List ℕ × Ty

int_at : (c : Column) (l : List ℕ) → is_int_at c l ≡ true → (c.0 ≡ l) × (ground_of c.1 ≡ int)
int_at c l h = let both = and_parts (pointwise nat_eq c.0 l) (is_int c.1) h in (same_text _ _ (sym both.0), int_is c.1 both.1)

text_at : (c : Column) (l : List ℕ) → is_text_at c l ≡ true → (c.0 ≡ l) × (ground_of c.1 ≡ str)
text_at c l h = let both = and_parts (pointwise nat_eq c.0 l) (is_string c.1) h in (same_text _ _ (sym both.0), text_is c.1 both.1)

-- three columns, with their labels and their types
row_is : (cs : List Column) → are_made cs ≡ true → rec (row_by ground_of cs) ≡ made_type
row_is [] h = cc
row_is (a ∷ []) h = cc
row_is (a ∷ b ∷ []) h = cc
row_is (a ∷ b ∷ c ∷ []) h =
    let first = and_parts (is_int_at a (codes "grp")) _ h in
    let rest = and_parts (is_int_at b (codes "id")) (is_text_at c (codes "name")) first.1 in
    let group = int_at a _ first.0 in
    let id = int_at b _ rest.0 in
    let name = text_at c _ rest.1 in
    λ i. rec (row (group.0 i) (group.1 i) (row (id.0 i) (id.1 i) (row (name.0 i) (name.1 i) no_row)))
row_is (a ∷ b ∷ c ∷ d ∷ cs) h = cc

some : (cs : List Column) → are_made cs ≡ true → length cs ≡ 0 → ⊥
some [] h e = cc
some (c ∷ cs) h e = cc

pub made_shape : (t : Ty) → is_made_type t ≡ true → (k : Kind) × (ground_of t ≡ coll k made_type)
made_shape t h =
    let shape = columns_shape t (some (columns_of t) h) in
    (shape.0, shape.1 ∙ ap (coll shape.0) (row_is (columns_of t) h))

pub item_is : (t : Ty) → is_made_type t ≡ true → item_of (ground_of t) ≡ made_type
item_is t h = ap item_of (made_shape t h).1

pub suits : (t : Ty) → is_made_type t ≡ true → Suits (record { select = false; project = false; join = false; unique = true }) (ground_of t)
suits t h = let shape = made_shape t h in record {
  collection = (shape.0, made_type, shape.1);
  select = λ e. cc;
  project = λ e. cc;
  join = λ e. cc;
  no_list = λ e. cc;
}
