-- Made rows have their type, and no two of one source are equal.
use Rattle.std.proofs.Common.{◌≡◌, ◌<◌, ℕ, ℤ, zero, suc, pos, false, List, [], ◌∷◌, Option, Some, None, IsSome, codes, refl, sym, ap, subst, ◌∙◌, arith, Ordering, Less, Equal, Greater, is_eq}
use Rattle.std.specs.List.{AllByRecursion, IsDistinct}
use Rattle.std.proofs.lemmas.Option.{same_Some}
use Rattle.kl_base.specs.Fields.{LabelsRise, labels_of}
use Rattle.kl_base.proofs.FieldsLemmas.{rise_strictly}
use Rattle.kl_value.specs.Order.{compare}
use Rattle.kl_value.specs.Views.{int_layer, bytes_layer}
use Rattle.kl_value.specs.declared.Value.{Value, Value-F, out-Value}
use Rattle.kl_value.specs.declared.Value.TheVariants as value
use Rattle.kl_value.proofs.IsCanonicalLemmas.{int_made, text_made, record_made}
use Rattle.kl_value.proofs.OrderLemmas.{compare_exact}
use Rattle.kl_type.specs.Ground.{int, str}
use Rattle.kl_outcome.specs.Outcome.{Name}
use Rattle.kl_outcome.specs.Typed.{Has, Inhabits}
use Rattle.kl_ask.specs.Driver.{same_value}
use Rattle.kl_tools.specs.Driver.{made_type}
use Rattle.kl_tools.specs.Made.{made_row, rows_from}

-- ---- the type

int_has : (n : ℤ) → Has int (value.Int n)
int_has n = subst IsSome (sym (ap int_layer (value.outs-Int n))) refl

text_has : (t : List ℕ) → Has str (value.Text t)
text_has t = subst IsSome (sym (ap bytes_layer (value.outs-Text t))) refl

abbrev fields : ℤ → ℤ → List ℕ → List (Name × Value)
fields g i n = (codes "grp", value.Int g) ∷ (codes "id", value.Int i) ∷ (codes "name", value.Text n) ∷ []

row_typed : (g i : ℤ) (n : List ℕ) → Inhabits made_type (value.Rec (fields g i n))
row_typed g i n =
    let up : LabelsRise (fields g i n) = rise_strictly (labels_of (fields g i n)) refl in
    ((fields g i n, refl, (_, _, refl, int_has g, (_, _, refl, int_has i, (_, _, refl, text_has n, refl)))), record_made (fields g i n) (int_made g, (int_made i, (text_made n, tt))) up)

pub rows_typed : (seed i n : ℕ) → AllByRecursion (Inhabits made_type) (rows_from seed i n)
rows_typed seed i zero = tt
rows_typed seed i (suc n) = (row_typed _ _ _, rows_typed seed (suc i) n)

-- ---- no two are equal

abbrev second : Value-F Value → Option ℤ
second (Value-F.Rec (g ∷ i ∷ fs)) = int_layer (out-Value i.1)
second _ = None

id_is : (seed i : ℕ) → second (out-Value (made_row seed i)) ≡ Some (pos i)
id_is seed i = ap second (value.outs-Rec _) ∙ ap int_layer (value.outs-Int (pos i))

same_number : (i j : ℕ) → pos i ≡ pos j → i ≡ j
same_number i j e = cc

rows_differ : (seed i j : ℕ) → i < j → same_value (made_row seed i) (made_row seed j) ≡ false
rows_differ seed i j less = by (compare (made_row seed i) (made_row seed j)) refl
  where
    by : (o : Ordering) → compare (made_row seed i) (made_row seed j) ≡ o → is_eq (compare (made_row seed i) (made_row seed j)) ≡ false
    by Less e = ap is_eq e
    by Greater e = ap is_eq e
    by Equal e =
        let same : made_row seed i ≡ made_row seed j = compare_exact _ _ e in
        let ids : i ≡ j = same_number i j (same_Some _ _ (sym (id_is seed i) ∙ ap (λ v. second (out-Value v)) same ∙ id_is seed j)) in
        absurd (omega (arith, less, ids))

differ_from : (seed i j n : ℕ) → i < j → AllByRecursion (λ v. same_value (made_row seed i) v ≡ false) (rows_from seed j n)
differ_from seed i j zero less = tt
differ_from seed i j (suc n) less = (rows_differ seed i j less, differ_from seed i (suc j) n (omega (arith, less)))

pub rows_distinct : (seed i n : ℕ) → IsDistinct same_value (rows_from seed i n)
unfolding IsDistinct
rows_distinct seed i zero = tt
rows_distinct seed i (suc n) = (differ_from seed i (suc i) n (omega arith), rows_distinct seed (suc i) n)
