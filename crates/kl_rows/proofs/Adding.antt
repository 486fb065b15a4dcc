-- One cell more.
use Rattle.std.proofs.Common.{◌≡◌, ◌↔◌, ◌⊎◌, inl, inr, ⊎_elim, ℕ, suc, Bool, true, false, IsTrue, List, [], ◌∷◌, ◌++◌, length, Some, slice_get, get_or, refl, sym, ap, ◌∙◌, subst, arith, length-append}
use Rattle.kl_rows.specs.declared.cell.RowNode.TheVariants.{AnyRow, NoRow, Front}
use Rattle.kl_rows.specs.declared.cell.Cell.{Cell}
use Rattle.kl_rows.specs.declared.cell.Cell.TheVariants.{OfType, OfFunction, OfRow, OfKind}
use Rattle.kl_rows.specs.Lists.{Fields}
use Rattle.kl_rows.specs.Places.{Sort, a_row, sort_of, sort_at, IsPlaced, chained_one, Ended, Lacks, at_open, at_none, at_front, LacksAs, IsTidy, IsFine}
use Rattle.kl_rows.specs.Solutions.{Says}
use Rattle.kl_rows.specs.Steps.{KeepsCells, Advances, Equates}
use Rattle.kl_rows.specs.Joining.{MeetsRows}
use Rattle.kl_rows.specs.Making.{IsNewTidy, CanMake, AddsCell, HasSort, Same, Unifies}
use Rattle.kl_rows.specs.Finite.{Solvable}
use Rattle.kl_rows.proofs.CellLists.{get_last, get_first, get_end, total_push, stands, sort_here, sort_within}
use Rattle.std.proofs.lemmas.Option.{slice_get-get_or}
use Rattle.kl_rows.proofs.Advancing.{advances, goes, then, placed_keeps, KeepsRows, walk_kept, lacks_kept, tidy_kept, absurd_true}

module _ (ns : List Cell) (d : Cell) (fine : IsFine ns) (can : CanMake ns d) where
  abbrev grown : List Cell
  grown = ns ++ d ∷ []

  rows_kept : KeepsRows ns grown
  rows_kept j n h = get_first ns d j (OfRow n) h

  grown_keeps : KeepsCells ns grown
  grown_keeps = record {
    grows = omega (arith, length-append ns (d ∷ []));
    sorts = λ i q e. (let st = stands ns i q e in sort_here grown i st.cell (get_first ns d i st.cell st.here) ∙ ap Some st.sort);
    lacks = λ l i h. lacks_kept ns grown l rows_kept h;
  }

  old_ended : (i : ℕ) → Ended ns i → Ended grown i
  old_ended i old =
      let le = old.short in
      record { steps = old.steps; fields = old.fields; end = old.end; walk = walk_kept ns grown rows_kept old.steps i old.fields old.end old.walk; short = omega (arith, total_push chained_one ns d) }

  new_ended : (c : Cell) → c ≡ d → sort_of c ≡ a_row → IsPlaced ns (length ns) c → Ended grown (length ns)
  new_ended (OfRow (AnyRow ls)) e q p = record { steps = 0; fields = []; end = length ns; walk = (refl, refl, record { node = AnyRow ls; here = get_end ns d ∙ ap Some (sym e); is_end = tt }); short = omega arith }
  new_ended (OfRow NoRow) e q p = record { steps = 0; fields = []; end = length ns; walk = (refl, refl, record { node = NoRow; here = get_end ns d ∙ ap Some (sym e); is_end = tt }); short = omega arith }
  new_ended (OfRow (Front fs r)) e q p =
      let old = fine.ended r p.1 in
      let le = old.short in
      let one : chained_one d ≡ 1 = sym (ap chained_one e) in
      record {
        steps = suc old.steps;
        fields = fs ++ old.fields;
        end = old.end;
        walk = (fs, old.fields, r, record { here = get_end ns d ∙ ap Some (sym e) }, refl, walk_kept ns grown rows_kept old.steps r old.fields old.end old.walk);
        short = omega (arith, total_push chained_one ns d);
      }
  new_ended (OfType n) e q p = let z : ⊥ = cc in absurd z
  new_ended (OfFunction x y) e q p = let z : ⊥ = cc in absurd z
  new_ended (OfKind n) e q p = let z : ⊥ = cc in absurd z

  ended_at : (i : ℕ) (c : Cell) → sort_of c ≡ a_row → (slice_get ns i ≡ Some c) ⊎ ((i ≡ length ns) × (c ≡ d)) → Ended grown i
  ended_at i c q (inl e) = old_ended i (fine.ended i (sort_here ns i c e ∙ ap Some q))
  ended_at i c q (inr e) = subst (Ended grown) (sym e.0) (new_ended c e.1 q (subst (IsPlaced ns (length ns)) (sym e.1) can.placed))

  tidy_new : (c : Cell) (fs : Fields) (r : ℕ) → c ≡ OfRow (Front fs r) → IsNewTidy ns c → IsTidy ns fs r
  tidy_new c fs r e t = subst (IsNewTidy ns) e t

  grown_fine : IsFine grown
  grown_fine = record {
    tidy = λ i fs r e. tidy_kept ns grown fs r rows_kept (⊎_elim (λ h. fine.tidy i fs r h) (λ h. tidy_new d fs r (sym h.1) can.tidy) (get_last ns d i (OfRow (Front fs r)) e));
    placed = λ i c e. ⊎_elim (λ h. placed_keeps ns grown i c grown_keeps (fine.placed i c h)) (λ h. placed_keeps ns grown i c grown_keeps (subst (λ x. IsPlaced ns i x) (sym h.1) (subst (λ j. IsPlaced ns j d) (sym h.0) can.placed))) (get_last ns d i c e);
    ended = λ i h. (let st = stands grown i a_row h in ended_at i st.cell st.sort (get_last ns d i st.cell st.here));
  }

  lacks_new : (c : Cell) → c ≡ d → (l : List ℕ) → LacksAs c ns l → Lacks grown l (length ns)
  lacks_new (OfRow (AnyRow ls)) e l h = at_open ls (get_end ns d ∙ ap Some (sym e)) h
  lacks_new (OfRow NoRow) e l h = at_none (get_end ns d ∙ ap Some (sym e))
  lacks_new (OfRow (Front fs r)) e l h = at_front fs r (get_end ns d ∙ ap Some (sym e)) h.0 (lacks_kept ns grown l rows_kept h.1)
  lacks_new (OfType n) e l h = absurd h
  lacks_new (OfFunction x y) e l h = absurd h
  lacks_new (OfKind n) e l h = absurd h

  pub adds : (new : List Cell) (i : ℕ) → new ≡ ns ++ d ∷ [] → i ≡ length ns → AddsCell ns new d i
  adds new i e p = subst (λ xs. AddsCell ns xs d i) (sym e) (subst (AddsCell ns grown d) (sym p) (record {
    place = refl;
    fine = grown_fine;
    keeps = grown_keeps;
    sort = sort_here grown (length ns) d (get_end ns d);
    lacks = λ l h. lacks_new d refl l h;
    solves = λ s. (
      λ h. (record { each = λ j c q. h.each j c (get_first ns d j c q) }, h.each (length ns) d (get_end ns d)),
      λ h. record { each = λ j c q. ⊎_elim (λ g. (let o = h.0 in o.each j c g)) (λ g. subst (λ x. Says x s j) (sym g.1) (subst (Says d s) (sym g.0) h.1)) (get_last ns d j c q) },
    );
  }))

pub same_told : (ans : Bool) (ns new : List Cell) (a b : ℕ) (q : Sort) → sort_at ns a ≡ Some q → Advances ans ns new (Same (Some q) a b) (λ s. Unit {0}) → Advances ans ns new (Same (sort_at ns a) a b) (λ s. Unit {0})
same_told ans ns new a b q e h = subst (λ o. Advances ans ns new (Same o a b) (λ s. Unit {0})) (sym e) h

append_first : (xs ys : List (ℕ × ℕ)) → xs ≡ [] → xs ++ ys ≡ ys
append_first xs ys e = ap (λ zs. zs ++ ys) e

module _ (old now : List Cell) (a b : ℕ) (before after : List (ℕ × ℕ)) (empty : before ≡ []) where
  pub rows_merge : (ans : Bool) (new : List Cell) → MeetsRows true old now a b before after → Advances ans now new (Equates after) (λ s. Unit {0}) → Advances ans old new (λ s. s.rows a ≡ s.rows b) (λ s. Unit {0})
  rows_merge ans new m h =
      let x = m.step in
      let p = x.fewer in
      let q = h.fewer in
      let h' : Advances ans now new (Equates m.more) (λ s. Unit {0}) = subst (λ ps. Advances ans now new (Equates ps) (λ s. Unit {0})) (m.added ∙ append_first before m.more empty) h in
      advances ans old new _ _ ((then) ans old now new _ _ _ (goes true old now _ _ x) (goes ans now new _ _ h')) (omega arith)

pub sort_told : (ns : List Cell) (a b : ℕ) (x c : Cell) → HasSort ns a b → x ≡ get_or ns a x → x ≡ c → sort_at ns a ≡ Some (sort_of c)
sort_told ns a b x c h e f = sort_here ns a c (slice_get-get_or ns a x (sort_within ns a h.sort h.first) ∙ ap Some (sym e ∙ f))

pub unify_false : (old new : List Cell) (a b : ℕ) → Advances false old new (Same (sort_at old a) a b) (λ s. Unit {0}) → Unifies false old new a b
unify_false old new a b h = record {
  fine = h.fine;
  keeps = h.keeps;
  exact = ((λ t. absurd_true _ t), λ w. (h.down w.0 w.1 w.2).0);
  down = λ s g d. (h.down s g d).1;
  up = λ t. absurd_true _ t;
}

pub unify_true : (old new cells : List Cell) (a b : ℕ) (ans : Bool) → Advances true old new (Same (sort_at old a) a b) (λ s. Unit {0}) → cells ≡ new → IsTrue ans ↔ Solvable cells → Unifies ans old new a b
unify_true old new cells a b ans h e d =
    let told = subst (λ xs. IsTrue ans ↔ Solvable xs) e d in
    record {
      fine = h.fine;
      keeps = h.keeps;
      exact = (
        (λ t. let w = told.0 t in let one = h.up refl w.by w.solves tt in (w.by, one.0, one.1)),
        (λ w. let one = (h.down w.0 w.1 w.2).1 in told.1 (record { by = one.to; solves = one.solves })),
      );
      down = λ s g k. (h.down s g k).1;
      up = λ t s g. h.up refl s g tt;
    }

-- where two numbers were made one, something solves the cells
pub unified_solvable : (old new : List Cell) (a b : ℕ) (ans : Bool) → ans ≡ true → Unifies ans old new a b → Solvable new
unified_solvable old new a b ans e h =
    let w = h.exact.0 (subst (λ x. IsTrue x) (sym e) refl) in
    let g = h.down w.0 w.1 w.2 in
    record { by = g.to; solves = g.solves }
