-- A column that gains a cell.
use Rattle.std.proofs.Common.{◌≡◌, ◌<◌, ℕ, ℤ, pos, Bool, false, List, [], ◌∷◌, ◌++◌, Vec, Global, length, get_or, Some, refl, sym, ap, ◌∙◌, subst, arith, length-append}
use Rattle.std.specs.List.{slice_index, slice_range}
use Rattle.std.specs.Option.{option_map}
use Rattle.std.proofs.lemmas.Grind.{common_steps}
use Rattle.std.proofs.lemmas.Option.{get_or_from_slice_get, slice_get_read}
use Rattle.kl_value.specs.declared.Value.TheVariants as value
use Rattle.kl_type.specs.declared.ground.Ty.TheVariants as ty
use Rattle.kl_prim.specs.Meaning.{number_in}
use Rattle.kl_flat.specs.Cells.{cell_layer, cell_value, truth_in, without_blanks}
use Rattle.kl_flat.specs.Filling.{Gains}
use Rattle.kl_flat.specs.Held.{height, value_at, text_at}
use Rattle.kl_flat.specs.Texts.{start}
use Rattle.kl_flat.specs.declared.held.Cells.{Cells}
use Rattle.kl_flat.specs.declared.held.Cells.TheVariants as cells
use Rattle.kl_flat.specs.declared.texts.Texts.{Texts}
use Rattle.kl_flat.proofs.Texting.{text_before, text_last}

-- ---- what a cell means in a column of each type

pub truth_cell : (bs : List ℕ) → cell_value bs ty.Bool ≡ truth_in bs
truth_cell bs = ap (cell_layer bs) ty.outs-Bool

pub number_cell : (bs : List ℕ) → cell_value bs ty.Int ≡ option_map value.Int (number_in (without_blanks bs))
number_cell bs = ap (cell_layer bs) ty.outs-Int

pub text_cell : (bs : List ℕ) → cell_value bs ty.Str ≡ Some (value.Text bs)
text_cell bs = ap (cell_layer bs) ty.outs-Str

-- ---- one more cell

read_front : {A : Type 0} (xs : List A) (x d : A) (i : ℕ) → i < length xs → get_or (xs ++ x ∷ []) i d ≡ get_or xs i d
read_front xs x d i lt = grind (arith, common_steps)

read_last : {A : Type 0} (xs : List A) (x d : A) → get_or (xs ++ x ∷ []) (length xs) d ≡ x
read_last xs x d = grind (arith, common_steps)

abbrev text_of : List ℕ → List ℕ → ℕ → List ℕ
text_of bytes ends i = slice_range bytes (start ends i) (slice_index ends i)

module _ (cell : List ℕ) (self : Cells) where
  pub gains_truth : (old new : Vec Bool Global) (truth : Bool) → self ≡ cells.Bool old → Some (value.Bool truth) ≡ truth_in cell → new.items ≡ old.items ++ truth ∷ [] → Gains cell self (cells.Bool new)
  gains_truth old new truth is found grown = subst (λ s. Gains cell s (cells.Bool new)) (sym is) (record {
    gained = truth_cell cell ∙ sym found ∙ ap (λ b. Some (value.Bool b)) (sym (ap (λ xs. get_or xs (length old.items) false) grown ∙ read_last old.items truth false));
    kind = refl;
    grown = ap length grown ∙ length-append old.items (truth ∷ []);
    before = λ i lt. ap value.Bool (ap (λ xs. get_or xs i false) grown ∙ read_front old.items truth false i lt);
  })

  pub gains_number : (old new : Vec ℤ Global) (number : ℤ) → self ≡ cells.Int old → Some number ≡ number_in (without_blanks cell) → new.items ≡ old.items ++ number ∷ [] → Gains cell self (cells.Int new)
  gains_number old new number is found grown = subst (λ s. Gains cell s (cells.Int new)) (sym is) (record {
    gained = number_cell cell ∙ ap (option_map value.Int) (sym found) ∙ ap (λ n. Some (value.Int n)) (sym (ap (λ xs. get_or xs (length old.items) (pos 0)) grown ∙ read_last old.items number (pos 0)));
    kind = refl;
    grown = ap length grown ∙ length-append old.items (number ∷ []);
    before = λ i lt. ap value.Int (ap (λ xs. get_or xs i (pos 0)) grown ∙ read_front old.items number (pos 0) i lt);
  })

  pub gains_text : (old new : Texts) → self ≡ cells.Text old → new.bytes.items ≡ old.bytes.items ++ cell → new.ends.items ≡ old.ends.items ++ length new.bytes.items ∷ [] → Gains cell self (cells.Text new)
  gains_text old new is bytes ends = subst (λ s. Gains cell s (cells.Text new)) (sym is) (record {
    gained = text_cell cell ∙ ap (λ t. Some (value.Text t)) (sym (same (length old.ends.items) ∙ text_last old.bytes.items cell old.ends.items (length new.bytes.items) (ap length bytes) old.ordered old.within old.whole));
    kind = refl;
    grown = ap length ends ∙ length-append old.ends.items (length new.bytes.items ∷ []);
    before = λ i lt. ap value.Text (same i ∙ text_before old.bytes.items cell old.ends.items (length new.bytes.items) (ap length bytes) old.ordered old.within old.whole i lt);
  })
    where
      same : (i : ℕ) → text_at new i ≡ text_of (old.bytes.items ++ cell) (old.ends.items ++ length new.bytes.items ∷ []) i
      same i = (λ j. text_of (bytes j) (ends j) i)

-- ---- a value that is read

default : {A : Type 0} (xs : List A) (i : ℕ) (x d : A) → i < length xs → x ≡ get_or xs i x → get_or xs i d ≡ x
default xs i x d lt is = get_or_from_slice_get xs i x d (slice_get_read xs (length xs) i x refl lt is)

module _ (self : Cells) (i : ℕ) (tall : i < height self) where
  pub truth_at : (truths : Vec Bool Global) (x : Bool) → self ≡ cells.Bool truths → x ≡ get_or truths.items i x → value_at self i ≡ value.Bool x
  truth_at truths x is read = ap (λ s. value_at s i) is ∙ ap value.Bool (default truths.items i x false (subst (λ s. i < height s) is tall) read)

  pub number_at : (numbers : Vec ℤ Global) (x : ℤ) → self ≡ cells.Int numbers → x ≡ get_or numbers.items i x → value_at self i ≡ value.Int x
  number_at numbers x is read = ap (λ s. value_at s i) is ∙ ap value.Int (default numbers.items i x (pos 0) (subst (λ s. i < height s) is tall) read)
