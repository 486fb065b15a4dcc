-- A map that has at each label what fields have.
use Rattle.std.proofs.Common.{◌≡◌, ℕ, suc, ◌<◌, List, [], ◌∷◌, length, drop, get_or, Some, None, cond, nat_eq, refl, sym, ap, subst, ◌∙◌, drop-cons}
use mathlib.Core.Path.{ap₂}
use Rattle.std.specs.Cmp.Lexicographic.{pointwise}
use Rattle.std.specs.HashMap.{get, IsEmpty, Updates}
use Rattle.std.proofs.lemmas.Cmp.{nat_list_eq_equiv}
use Rattle.std.proofs.lemmas.Option.{slice_get-get_or, same_Some}
use Rattle.kl_base.specs.Fields.{field}
use Rattle.kl_rows.specs.Lists.{Fields, Index, Holds}
use Rattle.kl_rows.proofs.ListLemmas.{Label}

pub index_none : (m : Index) (fs : Fields) → IsEmpty m → fs ≡ [] → Holds m fs
index_none m fs e none l = empty m e l ∙ ap (field l) (sym none)
  where
    empty : (m : Index) → IsEmpty m → (l : List ℕ) → get (pointwise nat_eq) m l ≡ None
    empty m e l = simp e refl

index_front : (m n : Index) (k : Label) (v : ℕ) (fs : Fields) → Holds m fs → Updates (pointwise nat_eq) m n k (Some v) → Holds n ((k, v) ∷ fs)
index_front m n k v fs h u l = u.0 l ∙ ap₂ (λ b o. cond b (Some v) o) (nat_list_eq_equiv.symm k l) (h l)

pub index_more : (m n : Index) (k : Label) (v : ℕ) (fs : Fields) (i j : ℕ) (f g d : Label × ℕ) → j < length fs → i ≡ suc j → f ≡ get_or fs j f → g ≡ get_or fs j d → k ≡ f.0 → v ≡ g.1 → Holds m (drop i fs) → Updates (pointwise nat_eq) m n k (Some v) → Holds n (drop j fs)
index_more m n k v fs i j f g d lt e a b p q h u =
    let same : f ≡ g = same_Some f g (ap Some a ∙ sym (slice_get-get_or fs j f lt) ∙ slice_get-get_or fs j d lt ∙ ap Some (sym b)) in
    let front : drop j fs ≡ (k, v) ∷ drop i fs = drop-cons fs j f lt ∙ ap₂ (λ x xs. x ∷ xs) (sym a ∙ ap₂ (λ x y. (x, y)) (sym p) (ap (λ x. x.1) same ∙ sym q)) (ap (λ x. drop x fs) (sym e)) in
    subst (Holds n) (sym front) (index_front m n k v (drop i fs) h u)
