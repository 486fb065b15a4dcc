-- The labels of the columns of made rows.
use Rattle.std.proofs.Common.{◌≡◌, ℕ, true, List, [], ◌∷◌, codes, get_or, sym, ap, ◌∙◌, nat_eq}
use Rattle.std.specs.Cmp.Lexicographic.{pointwise, same_text}
use Rattle.std.proofs.lemmas.Bool.{and_parts}
use Rattle.kl_type.specs.Parts.{is_int, is_string}
use Rattle.kl_type.specs.declared.ground.Ty.{Ty}
use Rattle.kl_tools.specs.Types.{are_made, is_int_at, is_text_at}

abbrev Column : Type 0
Column = List ℕ × Ty

pub made_labels : (cs : List Column) (g i n : Column) → are_made cs ≡ true → g ≡ get_or cs 0 g → i ≡ get_or cs 1 i → n ≡ get_or cs 2 n
    → (g.0 ≡ codes "grp") × ((i.0 ≡ codes "id") × (n.0 ≡ codes "name"))
made_labels [] g i n e p q r = cc
made_labels (a ∷ []) g i n e p q r = cc
made_labels (a ∷ b ∷ []) g i n e p q r = cc
made_labels (a ∷ b ∷ c ∷ []) g i n e p q r =
    let first = and_parts (is_int_at a (codes "grp")) _ e in
    let rest = and_parts (is_int_at b (codes "id")) (is_text_at c (codes "name")) first.1 in
    let group = same_text _ _ (sym (and_parts (pointwise nat_eq a.0 (codes "grp")) (is_int a.1) first.0).0) in
    let id = same_text _ _ (sym (and_parts (pointwise nat_eq b.0 (codes "id")) (is_int b.1) rest.0).0) in
    let name = same_text _ _ (sym (and_parts (pointwise nat_eq c.0 (codes "name")) (is_string c.1) rest.1).0) in
    (ap (λ x. x.0) p ∙ group, (ap (λ x. x.0) q ∙ id, ap (λ x. x.0) r ∙ name))
made_labels (a ∷ b ∷ c ∷ d ∷ cs) g i n e p q r = cc
