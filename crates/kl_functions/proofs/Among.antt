-- Names among others.
use Rattle.std.proofs.Common.{◌≡◌, ◌↔◌, true, List, sym}
use Rattle.std.specs.List.{Contains}
use Rattle.std.specs.Cmp.Lexicographic.{same_text}
use Rattle.std.proofs.lemmas.Cmp.{nat_list_eq_equiv}
use Rattle.std.proofs.lemmas.Map.Views.{Contains-from_any, list_any-from_Contains}
use Rattle.kl_outcome.specs.Outcome.{Name}
use Rattle.kl_meaning.specs.Match.{same_name}
use Rattle.kl_ho.specs.HoPrograms.{is_among}

pub among_is : (x : Name) (ys : List Name) → (is_among x ys ≡ true) ↔ Contains ys x
among_is x ys = (
  (λ e. Contains-from_any {eq = same_name} (λ y z i. same_text y z (sym i)) x ys e),
  (λ c. list_any-from_Contains nat_list_eq_equiv x ys c),
)
