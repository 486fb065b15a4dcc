-- The fields of a record as they come.
use Rattle.std.specs.Prelude.{◌≡◌, ℕ, Bool, List, nat_eq}
use Rattle.std.specs.List.{list_any}
use Rattle.std.specs.Cmp.Lexicographic.{pointwise}
use Rattle.std.specs.BTreeMap.{is_at}
use Rattle.kl_base.specs.Fields.{bytes_cmp}

-- some field has the label
abbrev pub has_label : {T : Type 0} → List (List ℕ × T) → List ℕ → Bool
has_label fields l = list_any (λ f. pointwise nat_eq l f.0) fields

-- for private functions alone: a label is among these exactly where some field has it
pub record AreLabels {T : Type 0} (labels : List (List ℕ)) (fields : List (List ℕ × T)) : Type 0 where
  pub same : (l : List ℕ) → list_any (is_at (bytes_cmp l)) labels ≡ has_label fields l
