-- Rows that are picked out of columns.
use Rattle.std.proofs.Common.{◌≡◌, ◌<◌, ◌≤◌, ◌⊎◌, ◌≢◌, inl, inr, ℕ, ℤ, zero, suc, ◌+◌, pos, Bool, false, List, [], ◌∷◌, ◌++◌, Vec, Global, All, map, length, get_or, slice_get, Some, refl, sym, ap, ◌∙◌, subst, arith}
use Rattle.std.specs.List.{range_with_len}
use Rattle.std.proofs.lemmas.Bool.{cases_eq}
use Rattle.std.proofs.lemmas.List.{length-map}
use Rattle.std.proofs.lemmas.Option.{get_or_from_slice_get, same_Some}
use Rattle.kl_value.specs.declared.Value.TheVariants as value
use Rattle.kl_flat.specs.Held.{height, row_at, text_at, value_at}
use Rattle.kl_flat.specs.ColumnTable.{rows_of}
use Rattle.kl_flat.specs.Picking.{Picks, PicksRows}
use Rattle.kl_flat.specs.declared.column_table.ColumnTable.{ColumnTable}
use Rattle.kl_flat.specs.declared.held.Cells.{Cells}
use Rattle.kl_flat.specs.declared.held.Cells.TheVariants as cells
use Rattle.kl_flat.specs.declared.held.Column.{Column}
use Rattle.kl_flat.specs.declared.texts.Texts.{Texts}
use Rattle.kl_flat.proofs.Gaining.{gains_text, text_cell}
use Rattle.kl_flat.proofs.Tables.{rows_length}

-- ---- cells

-- one text more is picked
pub picks_text : (places : List ℕ) (n : ℕ) (old now after : Texts) → Picks places n (cells.Text old) (cells.Text now) → after.bytes.items ≡ now.bytes.items ++ text_at old (get_or places n 0)
    → after.ends.items ≡ now.ends.items ++ length after.bytes.items ∷ [] → Picks places (n + 1) (cells.Text old) (cells.Text after)
picks_text places n old now after so_far bytes ends =
    let cell : List ℕ = text_at old (get_or places n 0) in
    let gains = gains_text cell (cells.Text now) now after refl bytes ends in
    let last : value.Text cell ≡ value_at (cells.Text after) (height (cells.Text now)) = same_Some _ _ (sym (text_cell cell) ∙ gains.gained) in
    record {
      size = omega (arith, gains.grown, so_far.size);
      values = λ i lt. by i lt last gains.before (cases_eq i n);
    }
  where
    by : (i : ℕ) → i < n + 1 → value.Text (text_at old (get_or places n 0)) ≡ value_at (cells.Text after) (height (cells.Text now)) → ((j : ℕ) → j < height (cells.Text now) → value_at (cells.Text after) j ≡ value_at (cells.Text now) j) → (i ≡ n) ⊎ (i ≢ n)
        → value_at (cells.Text after) i ≡ value_at (cells.Text old) (get_or places i 0)
    by i lt last before (inl e) = ap (value_at (cells.Text after)) (e ∙ sym so_far.size) ∙ sym last ∙ ap (λ j. value_at (cells.Text old) (get_or places j 0)) (sym e)
    by i lt last before (inr ne) = before i (omega (arith, so_far.size, lt, ne)) ∙ so_far.values i (omega (arith, lt, ne))

module _ {T : Type 0} where
  copies_length : (copies items : List T) (places : List ℕ) → map Some copies ≡ map (slice_get items) places → length copies ≡ length places
  copies_length copies items places e = sym (length-map copies Some) ∙ ap length e ∙ length-map places (slice_get items)

  copy_at : (copies items : List T) (places : List ℕ) (d : T) → map Some copies ≡ map (slice_get items) places → (i : ℕ) → i < length places → get_or copies i d ≡ get_or items (get_or places i 0) d
  copy_at copies items [] d e i lt = absurd (omega (arith, lt))
  copy_at [] items (p ∷ places) d e i lt = cc
  copy_at (x ∷ copies) items (p ∷ places) d e zero lt = let first : Some x ≡ slice_get items p = cc in sym (get_or_from_slice_get items p x d (sym first))
  copy_at (x ∷ copies) items (p ∷ places) d e (suc i) lt = let others : map Some copies ≡ map (slice_get items) places = cc in copy_at copies items places d others i (omega (arith, lt))

pub picks_truths : (places : List ℕ) (self : Cells) (old new : Vec Bool Global) → self ≡ cells.Bool old → map Some new.items ≡ map (slice_get old.items) places → Picks places (length places) self (cells.Bool new)
picks_truths places self old new is e = subst (λ s. Picks places (length places) s (cells.Bool new)) (sym is) (record {
  size = copies_length new.items old.items places e;
  values = λ i lt. ap value.Bool (copy_at new.items old.items places false e i lt);
})

pub picks_numbers : (places : List ℕ) (self : Cells) (old new : Vec ℤ Global) → self ≡ cells.Int old → map Some new.items ≡ map (slice_get old.items) places → Picks places (length places) self (cells.Int new)
picks_numbers places self old new is e = subst (λ s. Picks places (length places) s (cells.Int new)) (sym is) (record {
  size = copies_length new.items old.items places e;
  values = λ i lt. ap value.Int (copy_at new.items old.items places (pos 0) e i lt);
})

-- ---- columns

pub record PicksSome (places : List ℕ) (old new : List Column) : Type 0 where
  pub filled : All (λ c. length places ≤ height c.cells) new
  pub rows : PicksRows places old new

-- the cells at these places are there
pub are_there : (t : ColumnTable) (places : List ℕ) → All (λ p. p < length (rows_of t)) places → All (λ c. All (λ p. p < height c.cells) places) t.columns.items
are_there t places within k c lt i d few = omega (arith, within i d few, t.filled k c lt, rows_length t)

picked_from : {A : Type 0} (f g : ℕ → A) (a : ℕ) (places : List ℕ) → ((i : ℕ) → i < length places → f (a + i) ≡ g (get_or places i 0)) → map f (range_with_len a (length places)) ≡ map g places
picked_from f g a [] same = refl
picked_from f g a (p ∷ places) same =
    let first : f a ≡ g p = ap f (omega arith) ∙ same 0 (omega arith) in
    let later : (i : ℕ) → i < length places → f ((a + 1) + i) ≡ g (get_or places i 0) = λ i lt. ap f (omega arith) ∙ same (suc i) (omega (arith, lt)) in
    (λ j. first j ∷ picked_from f g (a + 1) places later j)

pub rows_picked : (columns picked : List Column) (places : List ℕ) → PicksRows places columns picked → map (row_at picked) (range_with_len 0 (length places)) ≡ map (row_at columns) places
rows_picked columns picked places rows = picked_from (row_at picked) (row_at columns) 0 places (λ i lt. let plain : 0 + i ≡ i = omega arith in ap (row_at picked) plain ∙ ap value.Rec (rows i lt))
