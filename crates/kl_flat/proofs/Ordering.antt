-- How values of different shapes stand.
use Rattle.std.proofs.Common.{◌≡◌, ◌⊎◌, inl, inr, ℤ, ℕ, Bool, List, Vec, Global, refl, sym, ap, ◌∙◌}
use Rattle.std.specs.declared.cmp.Ordering.TheVariants.{Less, Greater}
use Rattle.std.specs.Ordering.{bool_cmp, int_cmp}
use Rattle.kl_base.specs.Fields.{bytes_cmp}
use Rattle.kl_value.specs.Order.{compare, order_layer}
use Rattle.kl_value.specs.declared.Value.{Value, Value-F, out-Value, roll-Value, roll-out-Value}
use Rattle.kl_value.specs.declared.Value.TheVariants as value
use Rattle.kl_value.proofs.OrderLemmas.{compare-out}
use Rattle.kl_flat.specs.Held.{value_at}
use Rattle.kl_flat.specs.declared.held.Cells.{Cells}
use Rattle.kl_flat.specs.declared.held.Cells.TheVariants as cells
use Rattle.kl_flat.specs.declared.texts.Texts.{Texts}

module _ (v w : Value) (x y : Value-F Value) (left : out-Value v ≡ x) (right : out-Value w ≡ y) where
  by_layers : compare v w ≡ order_layer compare x y
  by_layers = compare-out v w ∙ (λ i. order_layer compare (left i) (right i))

pub bools : (a b : Bool) → compare (value.Bool a) (value.Bool b) ≡ bool_cmp a b
bools a b = by_layers (value.Bool a) (value.Bool b) _ _ (value.outs-Bool a) (value.outs-Bool b)

pub ints : (m n : ℤ) → compare (value.Int m) (value.Int n) ≡ int_cmp m n
ints m n = by_layers (value.Int m) (value.Int n) _ _ (value.outs-Int m) (value.outs-Int n)

pub texts : (s t : List ℕ) → compare (value.Text s) (value.Text t) ≡ bytes_cmp s t
texts s t = by_layers (value.Text s) (value.Text t) _ _ (value.outs-Text s) (value.outs-Text t)

pub int_bool : (n : ℤ) (b : Bool) → compare (value.Int n) (value.Bool b) ≡ Greater
int_bool n b = by_layers (value.Int n) (value.Bool b) _ _ (value.outs-Int n) (value.outs-Bool b)

pub text_bool : (s : List ℕ) (b : Bool) → compare (value.Text s) (value.Bool b) ≡ Greater
text_bool s b = by_layers (value.Text s) (value.Bool b) _ _ (value.outs-Text s) (value.outs-Bool b)

pub text_int : (s : List ℕ) (n : ℤ) → compare (value.Text s) (value.Int n) ≡ Greater
text_int s n = by_layers (value.Text s) (value.Int n) _ _ (value.outs-Text s) (value.outs-Int n)

pub bool_int : (b : Bool) (n : ℤ) → compare (value.Bool b) (value.Int n) ≡ Less
bool_int b n = by_layers (value.Bool b) (value.Int n) _ _ (value.outs-Bool b) (value.outs-Int n)

pub bool_text : (b : Bool) (s : List ℕ) → compare (value.Bool b) (value.Text s) ≡ Less
bool_text b s = by_layers (value.Bool b) (value.Text s) _ _ (value.outs-Bool b) (value.outs-Text s)

pub int_text : (n : ℤ) (s : List ℕ) → compare (value.Int n) (value.Text s) ≡ Less
int_text n s = by_layers (value.Int n) (value.Text s) _ _ (value.outs-Int n) (value.outs-Text s)

module _ (w : Value) where
  rolled : (y : Value-F Value) → out-Value w ≡ y → w ≡ roll-Value y
  rolled y e = sym (roll-out-Value w) ∙ ap roll-Value e

  module _ (no_bool : (b : Bool) → w ≡ value.Bool b → ⊥) where
    pub bool_first : (b : Bool) → compare (value.Bool b) w ≡ Less
    bool_first b = by (out-Value w) refl
      where
        by : (y : Value-F Value) → out-Value w ≡ y → compare (value.Bool b) w ≡ Less
        by (Value-F.Bool a) e = absurd (no_bool a (rolled _ e ∙ value.rolls-Bool a))
        by y e = by_layers (value.Bool b) w _ y (value.outs-Bool b) e

    module _ (no_int : (n : ℤ) → w ≡ value.Int n → ⊥) where
      pub int_first : (n : ℤ) → compare (value.Int n) w ≡ Less
      int_first n = by (out-Value w) refl
        where
          by : (y : Value-F Value) → out-Value w ≡ y → compare (value.Int n) w ≡ Less
          by (Value-F.Bool a) e = absurd (no_bool a (rolled _ e ∙ value.rolls-Bool a))
          by (Value-F.Int m) e = absurd (no_int m (rolled _ e ∙ value.rolls-Int m))
          by y e = by_layers (value.Int n) w _ y (value.outs-Int n) e

      pub text_first : ((t : List ℕ) → w ≡ value.Text t → ⊥) → (s : List ℕ) → compare (value.Text s) w ≡ Less
      text_first no_text s = by (out-Value w) refl
        where
          by : (y : Value-F Value) → out-Value w ≡ y → compare (value.Text s) w ≡ Less
          by (Value-F.Bool a) e = absurd (no_bool a (rolled _ e ∙ value.rolls-Bool a))
          by (Value-F.Int m) e = absurd (no_int m (rolled _ e ∙ value.rolls-Int m))
          by (Value-F.Text t) e = absurd (no_text t (rolled _ e ∙ value.rolls-Text t))
          by y e = by_layers (value.Text s) w _ y (value.outs-Text s) e

pub text_above : (s : List ℕ) (w : Value) → ((b : Bool) × (w ≡ value.Bool b)) ⊎ ((n : ℤ) × (w ≡ value.Int n)) → compare (value.Text s) w ≡ Greater
text_above s w (inl is) = ap (compare (value.Text s)) is.1 ∙ text_bool s is.0
text_above s w (inr is) = ap (compare (value.Text s)) is.1 ∙ text_int s is.0

-- ---- cells of different types

pub cells_above : (b : Bool) (other : Cells) (i : ℕ) → ((numbers : Vec ℤ Global) × (other ≡ cells.Int numbers)) ⊎ ((texts : Texts) × (other ≡ cells.Text texts)) → compare (value.Bool b) (value_at other i) ≡ Less
cells_above b other i (inl is) = ap (λ o. compare (value.Bool b) (value_at o i)) is.1 ∙ bool_int b _
cells_above b other i (inr is) = ap (λ o. compare (value.Bool b) (value_at o i)) is.1 ∙ bool_text b _

pub cells_below : (s : List ℕ) (other : Cells) (i : ℕ) → ((truths : Vec Bool Global) × (other ≡ cells.Bool truths)) ⊎ ((numbers : Vec ℤ Global) × (other ≡ cells.Int numbers)) → compare (value.Text s) (value_at other i) ≡ Greater
cells_below s other i (inl is) = ap (λ o. compare (value.Text s) (value_at o i)) is.1 ∙ text_bool s _
cells_below s other i (inr is) = ap (λ o. compare (value.Text s) (value_at o i)) is.1 ∙ text_int s _
