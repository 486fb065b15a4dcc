-- Records and variants over rows.
use Rattle.std.proofs.Common.{◌≡◌, ℕ, Bool, true, false, IsTrue, List, [], ◌∷◌, length, Option, Some, None, sym, ap, ◌∙◌, subst}
use Rattle.kl_type.specs.Ground.{Ground, Row, rec, var, at, IsGround, IsRow}
use Rattle.kl_rows.specs.declared.cell.TypeNode.{TypeNode}
use Rattle.kl_rows.specs.declared.cell.TypeNode.TheVariants.{AnyType, Rec, Var}
use Rattle.kl_rows.specs.declared.cell.Cell.{Cell}
use Rattle.kl_rows.specs.declared.cell.Cell.TheVariants.{OfType}
use Rattle.kl_rows.specs.Lists.{Fields}
use Rattle.kl_rows.specs.Places.{a_row, IsFine, IsType, IsRowAt}
use Rattle.kl_rows.specs.Solutions.{Assignment, TypeSays, Solves}
use Rattle.kl_rows.specs.Making.{CanMake, AddsCell}
use Rattle.kl_rows.specs.Steps.{Grown, KeepsCells}
use Rattle.kl_rows.proofs.CellLists.{sort_within}
use Rattle.kl_rows.proofs.Advancing.{agrees_on, keeps_on, absurd_true}
use Rattle.kl_rows.proofs.Growing.{grown_type}
use Rattle.kl_forms.specs.Checks.{Checks, OpensItem, LeavesNone}
use Rattle.kl_forms.specs.Forms.{HasFields, IsRecord, IsVariant, RestOf}
use Rattle.kl_forms.specs.Rows.{HasRest, FindsRow, OpensRow, OpensBoth, RefusesRow}
use Rattle.kl_forms.proofs.Steps.{told}
use Rattle.kl_forms.proofs.Opening.{type_within, stable_type, opens, refuses}
use Rattle.kl_forms.proofs.Fronts.{first_row}

-- a type over a row: a record's or a variant's
module _ (over : Row → Ground) (node : ℕ → TypeNode) (row_good : (r : Row) → IsGround (over r) → IsRow r)
    (says : (i : ℕ) (s : Assignment) (t : Ground) → t ≡ over (s.rows i) → TypeSays (node i) s t) (said : (i : ℕ) (s : Assignment) (t : Ground) → TypeSays (node i) s t → t ≡ over (s.rows i)) where
  over_good : (s : Assignment) (want : ℕ) (r : Row) → s.types want ≡ over r → IsRow r
  over_good s want r e = row_good r (subst IsGround e (s.types_ground want))

  over_row : (old mid made new : List Cell) (row i want : ℕ) (ans : Bool) (E : Row → Assignment → Type 0) → IsType old want → OpensRow old mid row E → CanMake mid (OfType (node row)) → AddsCell mid made (OfType (node row)) i
      → Checks ans made new (λ s. s.types i ≡ s.types want) → Checks ans old new (λ s. (r : Row) × (s.types want ≡ over r) × E r s)
  over_row old mid made new row i want ans E there open_row can adds c = record {
    fine = c.fine;
    keeps = keeps_on old made new (keeps_on old mid made open_row.keeps adds.keeps) c.keeps;
    down = λ s h d.
        let w = open_row.down s d.0 h (over_good s want d.0 d.1) d.2 in
        let same : w.to.types want ≡ s.types want = w.agrees.types want (type_within old want there) in
        let x = grown_type mid made i open_row.fine (node row) can adds w.to w.solves (s.types want) (s.types_ground want) (says row w.to (s.types want) (d.1 ∙ ap over (sym w.holds))) in
        let le = open_row.keeps.grows in
        let a = agrees_on (length old) (length mid) s w.to x.to le w.agrees x.agrees in
        let z = c.down x.to x.solves (x.holds ∙ sym (a.types want (type_within old want there))) in
        let more = (keeps_on old mid made open_row.keeps adds.keeps).grows in
        (z.0, record { to = z.1.to; agrees = agrees_on (length old) (length made) s x.to z.1.to more a z.1.agrees; solves = z.1.solves; holds = tt });
    up = λ e s h.
        let w = c.up e s h in
        let x = (adds.solves s).0 w.0 in
        let y = open_row.up s x.0 in
        (y.0, (s.rows row, sym w.1 ∙ said row s (s.types i) x.1, y.1));
  }

  over_none : (old new : List Cell) (want : ℕ) (b : Bool) (fs : Fields) → RefusesRow old new (HasFields b fs) → Checks false old new (λ s. (r : Row) × (s.types want ≡ over r) × HasFields b fs r s)
  over_none old new want b fs c = record {
    fine = c.fine;
    keeps = c.keeps;
    down = λ s h d. absurd (c.none s d.0 h (over_good s want d.0 d.1) d.2);
    up = λ t s h. absurd_true _ t;
  }

module _ (old mid made new : List Cell) (row rest i want : ℕ) (ans b : Bool) (fs gs : Fields) (o : Option (ℕ × ℕ)) (there : IsType old want) (same : gs ≡ fs) (found : FindsRow o old mid b gs) where
  none_found : o ≡ None → RefusesRow old mid (HasFields b fs)
  none_found e = subst (λ fs. RefusesRow old mid (HasFields b fs)) same (subst (λ o. FindsRow o old mid b gs) e found)

  both_found : o ≡ Some (row, rest) → OpensBoth old mid row rest (HasRest b fs)
  both_found e = subst (λ fs. OpensBoth old mid row rest (HasRest b fs)) same (subst (λ o. FindsRow o old mid b gs) e found)

  row_found : o ≡ Some (row, rest) → OpensRow old mid row (HasFields b fs)
  row_found e = first_row b fs old mid row rest (both_found e)

  pub no_record : o ≡ None → Checks false old mid (IsRecord b fs want)
  no_record e = over_none rec Rec (λ r h. h) (λ i s t h. h) (λ i s t h. h) old mid want b fs (none_found e)

  pub no_variant : o ≡ None → Checks false old mid (IsVariant b fs want)
  no_variant e = over_none var Var (λ r h. h.1) (λ i s t h. h) (λ i s t h. h) old mid want b fs (none_found e)

  pub a_record : o ≡ Some (row, rest) → AddsCell mid made (OfType (Rec row)) i → Checks ans made new (λ s. s.types i ≡ s.types want) → Checks ans old new (IsRecord b fs want)
  a_record e adds c = let r = row_found e in over_row rec Rec (λ r h. h) (λ i s t h. h) (λ i s t h. h) old mid made new row i want ans (HasFields b fs) there r (record { placed = r.sort; tidy = tt }) adds c

  pub a_variant : o ≡ Some (row, rest) → AddsCell mid made (OfType (Var row)) i → Checks ans made new (λ s. s.types i ≡ s.types want) → Checks ans old new (IsVariant b fs want)
  a_variant e adds c = let r = row_found e in over_row var Var (λ r h. h.1) (λ i s t h. h) (λ i s t h. h) old mid made new row i want ans (HasFields b fs) there r (record { placed = r.sort; tidy = tt }) adds c

  -- the record of the other fields
  module _ (is_open : b ≡ true) (adds : AddsCell mid made (OfType (Rec row)) i) (check : Checks ans made new (λ s. s.types i ≡ s.types want)) (e : o ≡ Some (row, rest)) where
    opened_both : OpensBoth old mid row rest (HasRest true fs)
    opened_both = subst (λ b. OpensBoth old mid row rest (HasRest b fs)) is_open (both_found e)

    kept_cells : KeepsCells old made
    kept_cells = keeps_on old mid made opened_both.keeps adds.keeps

    rest_is : (s : Assignment) (r q : Row) → Solves old s → IsRow q → s.types want ≡ rec r → HasRest true fs r q s → IsTrue ans × Grown old new s (λ u. u.rows rest ≡ q)
    rest_is s r q h g d k =
        let w = opened_both.down s r q h (subst IsGround d (s.types_ground want)) g k in
        let x = grown_type mid made i opened_both.fine (Rec row) (record { placed = opened_both.sort; tidy = tt }) adds w.to w.solves (s.types want) (s.types_ground want) (d ∙ ap rec (sym w.holds.0)) in
        let le = opened_both.keeps.grows in
        let a = agrees_on (length old) (length mid) s w.to x.to le w.agrees x.agrees in
        let z = check.down x.to x.solves (x.holds ∙ sym (a.types want (type_within old want there))) in
        let more = kept_cells.grows in
        let there_made = adds.keeps.sorts rest a_row opened_both.rest_sort in
        (z.0, record { to = z.1.to; agrees = agrees_on (length old) (length made) s x.to z.1.to more a z.1.agrees; solves = z.1.solves; holds = z.1.agrees.rows rest (sort_within made rest a_row there_made) ∙ (x.agrees.rows rest (sort_within mid rest a_row opened_both.rest_sort) ∙ w.holds.1) })

    pub no_rest : ans ≡ false → LeavesNone old new (RestOf fs want)
    no_rest n = record {
      fine = check.fine;
      keeps = keeps_on old made new kept_cells check.keeps;
      none = λ s t h g d. absurd_true _ (subst IsTrue n (rest_is s d.0 d.1 h d.5.0 d.2 (d.4, d.5)).0);
    }

    pub a_rest : ans ≡ true → (end : List Cell) (others : ℕ) → AddsCell new end (OfType (Rec rest)) others → OpensItem old end others (RestOf fs want)
    a_rest y end others last = record {
      fine = last.fine;
      keeps = keeps_on old new end keeps_new last.keeps;
      sort = last.sort;
      down = λ s t h g d.
          let w = (rest_is s d.0 d.1 h d.5.0 d.2 (d.4, d.5)).1 in
          let x = grown_type new end others check.fine (Rec rest) (record { placed = there_new; tidy = tt }) last w.to w.solves t g (d.3 ∙ ap rec (sym w.holds)) in
          let le = keeps_new.grows in
          record { to = x.to; agrees = agrees_on (length old) (length new) s w.to x.to le w.agrees x.agrees; solves = x.solves; holds = x.holds };
      up = λ s h.
          let a = (last.solves s).0 h in
          let c = check.up y s a.0 in
          let m = (adds.solves s).0 c.0 in
          let x = opened_both.up s m.0 in
          (x.0, (s.rows row, s.rows rest, sym c.1 ∙ m.1, a.1, x.1.0, x.1.1));
    }
      where
        keeps_new : KeepsCells old new
        keeps_new = keeps_on old made new kept_cells check.keeps

        there_new : IsRowAt new rest
        there_new = check.keeps.sorts rest a_row (adds.keeps.sorts rest a_row opened_both.rest_sort)

  pub none_other : o ≡ None → b ≡ true → LeavesNone old mid (RestOf fs want)
  none_other e is_open =
      let c : RefusesRow old mid (HasFields true fs) = subst (λ b. RefusesRow old mid (HasFields b fs)) is_open (none_found e) in
      record { fine = c.fine; keeps = c.keeps; none = λ s t h g d. c.none s d.0 h (subst IsGround d.2 (s.types_ground want)) d.4 }

-- one label of a type over a row
module _ (over : Row → Ground) (old mid new : List Cell) (l m : List ℕ) (item want : ℕ) (ans : Bool) (fs : Fields) (fine : IsFine old) (there : IsType old want) (adds : AddsCell old mid (OfType AnyType) item)
    (is : fs ≡ (l, item) ∷ []) (same : l ≡ m) (check : Checks ans mid new (λ s. (r : Row) × (s.types want ≡ over r) × HasFields true fs r s)) where
  abbrev AtLabel : Ground → Assignment → Type 0
  AtLabel t s = (r : Row) × (s.types want ≡ over r) × (at m r ≡ Some t)

  label_check : Checks ans mid new (λ s. AtLabel (s.types item) s)
  label_check = told ans mid new _ _
      (λ s h d. (d.0, d.1, subst (λ k. HasFields true k d.0 s) (sym is) ((subst (λ k. at k d.0 ≡ Some (s.types item)) (sym same) d.2, tt), tt)))
      (λ s h d. (d.0, d.1, subst (λ k. at k d.0 ≡ Some (s.types item)) same (subst (λ k. HasFields true k d.0 s) is d.2).0.0))
      check

  abbrev Over : Ground → Ground → Type 0
  Over t x = (r : Row) × (x ≡ over r) × (at m r ≡ Some t)

  pub label_opens : ans ≡ true → OpensItem old new item AtLabel
  label_opens e = opens old mid new item AtLabel fine adds (λ t. stable_type old want (Over t) there) ans e label_check

  pub label_refuses : ans ≡ false → LeavesNone old new AtLabel
  label_refuses e = refuses old mid new item AtLabel fine adds (λ t. stable_type old want (Over t) there) ans e label_check
