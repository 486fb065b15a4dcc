-- Fields in a map and in a list.
use Rattle.std.proofs.Common.{◌≡◌, ℕ, Bool, List, [], ◌∷◌, refl, ap, ◌∙◌, Option, Some, cond}
use Rattle.std.specs.BTreeMap.{is_at}
use Rattle.std.specs.Cmp.Lexicographic.{pointwise}
use Rattle.std.specs.Map.{lookup}
use Rattle.std.proofs.lemmas.Map.Text.{is_eq-slice_cmp}
use Rattle.std.specs.Prelude.{nat_eq}
use Rattle.kl_base.specs.Fields.{bytes_cmp, field}
use Rattle.kl_type.specs.declared.ground.Ty.{Ty}
use Rattle.kl_heads.specs.Heads.{Types}

pub found_is : (fields : Types) (l : List ℕ) → lookup (is_at (bytes_cmp l)) fields ≡ field l fields
found_is [] l = refl
found_is (f ∷ fields) l =
    ap (λ (b : Bool). cond b (Some f.1) (lookup (is_at (bytes_cmp l)) fields)) (is_eq-slice_cmp l f.0)
    ∙ ap (λ (o : Option Ty). cond (pointwise nat_eq l f.0) (Some f.1) o) (found_is fields l)
