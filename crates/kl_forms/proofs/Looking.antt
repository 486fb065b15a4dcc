-- A label in a row that is there.
use Rattle.std.proofs.Common.{◌≡◌, ℕ, ◌<◌, Bool, true, false, List, [], ◌∷◌, length, Option, Some, None, sym, ap, ◌∙◌, subst}
use Rattle.kl_type.specs.Ground.{Ground, Row, rec, var, at}
use Rattle.kl_rows.specs.declared.cell.TypeNode.{TypeNode}
use Rattle.kl_rows.specs.declared.cell.TypeNode.TheVariants.{AnyType, Rec, Var}
use Rattle.kl_rows.specs.declared.cell.Cell.{Cell}
use Rattle.kl_rows.specs.declared.cell.Cell.TheVariants.{OfType}
use Rattle.kl_rows.specs.declared.looking.Spot.{Spot}
use Rattle.kl_rows.specs.declared.looking.Spot.TheVariants.{At, Behind}
use Rattle.kl_rows.specs.Lists.{Fields}
use Rattle.kl_rows.specs.Looking.{KnownAs, Spots}
use Rattle.kl_rows.specs.Places.{a_row, sort_at, IsFine, IsRowAt}
use Rattle.kl_rows.specs.Solutions.{Assignment, Solves}
use Rattle.kl_rows.specs.Steps.{Advances}
use Rattle.kl_rows.specs.Making.{AddsCell, Same}
use Rattle.kl_rows.proofs.Advancing.{agrees_on, agrees_refl, keeps_on, keeps_refl}
use Rattle.kl_rows.proofs.CellLists.{sort_within}
use Rattle.kl_forms.specs.Checks.{Checks, OpensItem, LeavesNone, Finds}
use Rattle.kl_forms.specs.Forms.{HasFields, InRow, FieldOf, VariantOf}
use Rattle.kl_forms.specs.Rows.{HasRest, FindsRow, OpensRow, OpensBoth, RefusesRow}
use Rattle.kl_forms.proofs.Fronts.{first_row}
use Rattle.kl_forms.proofs.Opening.{opens, refuses}
use Rattle.kl_forms.proofs.Steps.{Stable, merges, told}

row_within : (ns : List Cell) (i : ℕ) → IsRowAt ns i → i < length ns
row_within ns i h = sort_within ns i a_row h

-- two rows made one
rows_one : (ans : Bool) (old new : List Cell) (a b : ℕ) → IsRowAt old a → Advances ans old new (Same (sort_at old a) a b) (λ s. Unit {0}) → Checks ans old new (λ s. s.rows a ≡ s.rows b)
rows_one ans old new a b is m = subst (λ o. Checks ans old new (Same o a b)) is (merges ans old new _ m)

-- a row that was opened and is made one with a row that was there
pub row_has : (old mid new : List Cell) (row end : ℕ) (ans : Bool) (E : Row → Assignment → Type 0) → IsRowAt old end → OpensRow old mid row E → Advances ans mid new (Same (sort_at mid row) row end) (λ s. Unit {0}) → Checks ans old new (λ s. E (s.rows end) s)
row_has old mid new row end ans E there o m =
    let c = rows_one ans mid new row end o.sort m in
    record {
      fine = c.fine;
      keeps = keeps_on old mid new o.keeps c.keeps;
      down = λ s h d.
          let w = o.down s (s.rows end) h (s.rows_ground end) d in
          let z = c.down w.to w.solves (w.holds ∙ sym (w.agrees.rows end (row_within old end there))) in
          let le = o.keeps.grows in
          (z.0, record { to = z.1.to; agrees = agrees_on (length old) (length mid) s w.to z.1.to le w.agrees z.1.agrees; solves = z.1.solves; holds = tt });
      up = λ e s h. let w = c.up e s h in let y = o.up s w.0 in (y.0, subst (λ r. E r s) w.1 y.1);
    }

module _ (old mid new : List Cell) (row rest end : ℕ) (ans : Bool) (fs gs : Fields) (o : Option (ℕ × ℕ)) (there : IsRowAt old end) (same : gs ≡ fs) (found : FindsRow o old mid true gs) where
  pub row_refused : o ≡ None → Checks false old mid (λ s. HasFields true fs (s.rows end) s)
  row_refused e =
      let c : RefusesRow old mid (HasFields true fs) = subst (λ fs. RefusesRow old mid (HasFields true fs)) same (subst (λ o. FindsRow o old mid true gs) e found) in
      record { fine = c.fine; keeps = c.keeps; down = λ s h d. absurd (c.none s (s.rows end) h (s.rows_ground end) d); up = λ t s h. (let z : ⊥ = cc in absurd z) }

  pub row_takes : o ≡ Some (row, rest) → Advances ans mid new (Same (sort_at mid row) row end) (λ s. Unit {0}) → Checks ans old new (λ s. HasFields true fs (s.rows end) s)
  row_takes e m = row_has old mid new row end ans (HasFields true fs) there (first_row true fs old mid row rest (subst (λ fs. OpensBoth old mid row rest (HasRest true fs)) same (subst (λ o. FindsRow o old mid true gs) e found))) m

-- one label of a row
module _ (old mid new : List Cell) (l m : List ℕ) (item end : ℕ) (ans : Bool) (fs : Fields) (fine : IsFine old) (there : IsRowAt old end) (adds : AddsCell old mid (OfType AnyType) item) (is : fs ≡ (l, item) ∷ []) (same : l ≡ m)
    (check : Checks ans mid new (λ s. HasFields true fs (s.rows end) s)) where
  end_check : Checks ans mid new (λ s. InRow m end (s.types item) s)
  end_check = told ans mid new _ _
      (λ s h d. subst (λ k. HasFields true k (s.rows end) s) (sym is) ((subst (λ k. at k (s.rows end) ≡ Some (s.types item)) (sym same) d, tt), tt))
      (λ s h d. subst (λ k. at k (s.rows end) ≡ Some (s.types item)) same (subst (λ k. HasFields true k (s.rows end) s) is d).0.0)
      check

  stable_row : (t : Ground) → Stable (length old) (InRow m end t)
  stable_row t s u a d = ap (at m) (a.rows end (row_within old end there)) ∙ d

  pub end_opens : ans ≡ true → OpensItem old new item (InRow m end)
  end_opens e = opens old mid new item (InRow m end) fine adds stable_row ans e end_check

  pub end_refuses : ans ≡ false → LeavesNone old new (InRow m end)
  end_refuses e = refuses old mid new item (InRow m end) fine adds stable_row ans e end_check

-- what is found where the old solutions say the same in other words
finds_as : (old new : List Cell) (E F : Ground → Assignment → Type 0) (o : Option ℕ) → ((t : Ground) (s : Assignment) → Solves old s → E t s → F t s) → ((t : Ground) (s : Assignment) → Solves old s → F t s → E t s) → Finds o old new E → Finds o old new F
finds_as old new E F (Some i) to from h = record {
  fine = h.fine;
  keeps = h.keeps;
  sort = h.sort;
  down = λ s t k g d. h.down s t k g (from t s k d);
  up = λ s k. let w = h.up s k in (w.0, to (s.types i) s w.0 w.1);
}
finds_as old new E F None to from h = record { fine = h.fine; keeps = h.keeps; none = λ s t k g d. h.none s t k g (from t s k d) }

-- the label stands in the row as far as it is known, or can only stand behind that
pub at_spot : (cells : List Cell) (row i : ℕ) (l : List ℕ) (z : Spot) → IsFine cells → Spots z cells row l → z ≡ At i → Finds (Some i) cells cells (InRow l row)
at_spot cells row i l z fine h e =
    let k : Spots (At i) cells row l = subst (λ x. Spots x cells row l) e h in
    record {
      fine = fine;
      keeps = keeps_refl cells;
      sort = k.there;
      down = λ s t g ground d. record { to = s; agrees = agrees_refl (length cells) s; solves = g; holds = one_some (sym (k.gives s g) ∙ d) };
      up = λ s g. (g, k.gives s g);
    }
  where
    one_some : {a b : Ground} → Some a ≡ Some b → a ≡ b
    one_some q = cc

pub behind_spot : (old new : List Cell) (row end : ℕ) (l : List ℕ) (z : Spot) (o : Option ℕ) → Spots z old row l → z ≡ Behind end → Finds o old new (InRow l end) → Finds o old new (InRow l row)
behind_spot old new row end l z o h e f =
    let k : Spots (Behind end) old row l = subst (λ x. Spots x old row l) e h in
    finds_as old new (InRow l end) (InRow l row) o (λ t s g d. k.gives s g ∙ d) (λ t s g d. sym (k.gives s g) ∙ d) f

pub end_there : (cells : List Cell) (row end : ℕ) (l : List ℕ) (z : Spot) → Spots z cells row l → z ≡ Behind end → IsRowAt cells end
end_there cells row end l z h e = (subst (λ x. Spots x cells row l) e h).there

-- a record, and a variant, whose row is known
pub record_row : (cells : List Cell) (t row : ℕ) (n : TypeNode) → KnownAs cells t n → n ≡ Rec row → IsRowAt cells row
record_row cells t row n h e = (subst (KnownAs cells t) e h).placed

pub variant_row : (cells : List Cell) (t row : ℕ) (n : TypeNode) → KnownAs cells t n → n ≡ Var row → IsRowAt cells row
variant_row cells t row n h e = (subst (KnownAs cells t) e h).placed

pub in_record : (old new : List Cell) (t row : ℕ) (l : List ℕ) (n : TypeNode) (o : Option ℕ) → KnownAs old t n → n ≡ Rec row → Finds o old new (InRow l row) → Finds o old new (FieldOf l t)
in_record old new t row l n o h e f =
    let k = subst (KnownAs old t) e h in
    finds_as old new (InRow l row) (FieldOf l t) o (λ u s g d. (s.rows row, k.says s g, d)) (λ u s g d. ap (at l) (one_row (s.rows row) d.0 (sym (k.says s g) ∙ d.1)) ∙ d.2) f
  where
    one_row : (a b : Row) → rec a ≡ rec b → a ≡ b
    one_row a b q = cc

pub in_variant : (old new : List Cell) (t row : ℕ) (l : List ℕ) (n : TypeNode) (o : Option ℕ) → KnownAs old t n → n ≡ Var row → Finds o old new (InRow l row) → Finds o old new (VariantOf l t)
in_variant old new t row l n o h e f =
    let k = subst (KnownAs old t) e h in
    finds_as old new (InRow l row) (VariantOf l t) o (λ u s g d. (s.rows row, k.says s g, d)) (λ u s g d. ap (at l) (one_row (s.rows row) d.0 (sym (k.says s g) ∙ d.1)) ∙ d.2) f
  where
    one_row : (a b : Row) → var a ≡ var b → a ≡ b
    one_row a b q = cc
