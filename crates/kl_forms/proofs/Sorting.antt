-- Fields sorted by label are the same fields, and those of one label stand side by side.
use Rattle.std.proofs.Common.{◌≡◌, ◌≢◌, ⊎_elim, ℕ, zero, suc, ◌-◌, Bool, true, false, cond, List, [], ◌∷◌, drop, Option, Some, None, is_some, IsSome, nat_eq, refl, sym, ap, ◌∙◌, subst, is_gt, IsPermutation}
use Rattle.std.specs.Cmp.{IsTotalOrder}
use Rattle.std.specs.Cmp.Lexicographic.{pointwise}
use Rattle.std.specs.List.{AllByRecursion}
use Rattle.std.specs.List.Sorted.{IsSortedBy}
use Rattle.std.proofs.lemmas.Cmp.{on_total, nat_list_cmp_total}
use Rattle.std.proofs.lemmas.List.Elements.{All-from_recursion, recursion_from_All}
use Rattle.std.proofs.lemmas.List.Sorted.{All-permutation, IsPermutation-sym}
use Rattle.kl_base.specs.Fields.{bytes_cmp, field}
use Rattle.kl_base.specs.Sorted.{IsRising}
use Rattle.kl_base.proofs.FieldsLemmas.{label_cmp, by_label}
use Rattle.kl_base.proofs.SortedLemmas.{IsRising-from_sorted}
use Rattle.kl_value.proofs.OrderLemmas.{same_bytes}
use Rattle.kl_type.specs.Ground.{Row, at}
use Rattle.kl_type.proofs.RowLemmas.{told}
use Rattle.kl_prim.specs.Records.{is_label_of}
use Rattle.kl_outcome.proofs.RowFields.{without_by}
use Rattle.kl_rows.specs.declared.cell.Cell.{Cell}
use Rattle.kl_rows.specs.Lists.{Fields}
use Rattle.kl_rows.specs.Places.{IsType, AreTypes}
use Rattle.kl_rows.specs.Solutions.{Assignment}
use Rattle.kl_rows.proofs.ListLemmas.{Label, field_there}
use Rattle.kl_forms.specs.Forms.{HasFields}
use Rattle.kl_forms.specs.Rows.{HasRest, FindsRow, next}
use Rattle.kl_forms.proofs.Fronts.{none_behind}
use Rattle.kl_base.proofs.Orders.{neither}

label_total : IsTotalOrder (label_cmp {T = ℕ})
label_total = on_total (λ (f : Label × ℕ). f.0) nat_list_cmp_total

pub rising_sorted : (fs : Fields) → IsSortedBy (by_label {T = ℕ}) fs → IsRising label_cmp fs
rising_sorted fs up = IsRising-from_sorted label_cmp label_total fs up

perm_all : (P : Label × ℕ → Type 0) (fs gs : Fields) → IsPermutation fs gs → AllByRecursion P fs → AllByRecursion P gs
perm_all P fs gs m h = recursion_from_All P gs (All-permutation P fs gs m (All-from_recursion P fs h))

pub perm_types : (ns : List Cell) (fs gs : Fields) → IsPermutation fs gs → AreTypes ns fs → AreTypes ns gs
perm_types ns fs gs m h = perm_all (λ f. IsType ns f.1) fs gs m h

none_all : (fs : Fields) (l : Label) → field l fs ≡ None → AllByRecursion (λ f. l ≢ f.0) fs
none_all [] l e = tt
none_all ((m, t) ∷ fs) l e = let d = none_behind l m t fs e in (d.0, none_all fs l d.1)

all_none : (fs : Fields) (l : Label) → AllByRecursion (λ f. l ≢ f.0) fs → field l fs ≡ None
all_none [] l h = refl
all_none ((m, t) ∷ fs) l h = field_there l m t fs h.0 ∙ all_none fs l h.1

perm_some : (fs gs : Fields) (l : Label) → IsPermutation fs gs → IsSome (field l fs) → IsSome (field l gs)
perm_some fs gs l m h = by (field l gs) refl
  where
    by : (o : Option ℕ) → field l gs ≡ o → IsSome (field l gs)
    by None e = let z : field l fs ≡ None = all_none fs l (perm_all (λ f. l ≢ f.0) gs fs (IsPermutation-sym fs gs m) (none_all gs l e)) in let w : ⊥ = cc in absurd w
    by (Some t) e = subst IsSome (sym e) refl

perm_fields : (b : Bool) (fs gs : Fields) (r : Row) (s : Assignment) → IsPermutation fs gs → HasFields b fs r s → HasFields b gs r s
perm_fields true fs gs r s m h = (perm_all (λ f. at f.0 r ≡ Some (s.types f.1)) fs gs m h.0, tt)
perm_fields false fs gs r s m h = (perm_all (λ f. at f.0 r ≡ Some (s.types f.1)) fs gs m h.0, λ l k. perm_some fs gs l m (h.1 l k))

-- the same labels
both_some : (o p : Option ℕ) → (IsSome o → IsSome p) → (IsSome p → IsSome o) → is_some o ≡ is_some p
both_some (Some n) p go come = sym (go refl)
both_some None (Some n) go come = come refl
both_some None None go come = refl

perm_label : (fs gs : Fields) (l : Label) → IsPermutation fs gs → is_label_of fs l ≡ is_label_of gs l
perm_label fs gs l m = both_some (field l fs) (field l gs) (perm_some fs gs l m) (perm_some gs fs l (IsPermutation-sym fs gs m))

perm_rest : (b : Bool) (fs gs : Fields) (r q : Row) (s : Assignment) → IsPermutation fs gs → HasRest b fs r q s → HasRest b gs r q s
perm_rest b fs gs r q s m h = (perm_fields b fs gs r s m h.0, without_by (is_label_of fs) (is_label_of gs) r q (λ l. perm_label fs gs l m) h.1)

pub finds_sorted : (o : Option (ℕ × ℕ)) (b : Bool) (fs gs : Fields) (old new : List Cell) → IsPermutation fs gs → FindsRow o old new b gs → FindsRow o old new b fs
finds_sorted (Some found) b fs gs old new m c = record {
  fine = c.fine;
  keeps = c.keeps;
  sort = c.sort;
  rest_sort = c.rest_sort;
  down = λ s r q h g k e. c.down s r q h g k (perm_rest b fs gs r q s m e);
  up = λ s h. let w = c.up s h in (w.0, perm_rest b gs fs (s.rows found.0) (s.rows found.1) s (IsPermutation-sym fs gs m) w.1);
}
finds_sorted None b fs gs old new m c = record { fine = c.fine; keeps = c.keeps; none = λ s r h g e. c.none s r h g (perm_fields b fs gs r s m e) }

-- neighbours

past : (l m : Label) (t : ℕ) (fs : Fields) → is_gt (bytes_cmp l m) ≡ false → l ≢ m → AllByRecursion (λ g. is_gt (label_cmp (m, t) g) ≡ false) fs → AllByRecursion (λ f. l ≢ f.0) fs
past l m t [] le d h = tt
past l m t (g ∷ fs) le d h =
    (λ e. d (same_bytes l m (neither (bytes_cmp l m) le (sym (ap is_gt (nat_list_cmp_total.antisymm m l)) ∙ subst (λ x. is_gt (bytes_cmp m x) ≡ false) (sym e) h.0))), past l m t fs le d h.1)

next_is : (l : Label) (t : ℕ) (fs : Fields) → IsRising label_cmp ((l, t) ∷ fs) → field l fs ≡ next l fs
next_is l t [] up = refl
next_is l t ((m, u) ∷ fs) up = ⊎_elim
    (λ p. ap (λ b. cond b (Some u) (field l fs)) p.0 ∙ sym (ap (λ b. cond b (Some u) None) p.0))
    (λ p. ap (λ o. cond (pointwise nat_eq l m) (Some u) o) (all_none fs l (past l m u fs up.0.0 p.1 up.1.0)))
    (told l m)

rising_drop : (fs : Fields) (j : ℕ) → IsRising label_cmp fs → IsRising label_cmp (drop j fs)
rising_drop fs zero up = up
rising_drop [] (suc j) up = tt
rising_drop (f ∷ fs) (suc j) up = rising_drop fs j up.1

pub next_at : (all : Fields) (i : ℕ) (l : Label) (t : ℕ) → IsRising label_cmp all → drop (i - 1) all ≡ (l, t) ∷ drop i all → field l (drop i all) ≡ next l (drop i all)
next_at all i l t up split = next_is l t (drop i all) (subst (IsRising label_cmp) split (rising_drop all (i - 1) up))
