-- Tests of names.
use Rattle.std.specs.Prelude.{◌≡◌, ◌≢◌, false, nat_eq}
use Rattle.std.proofs.Common.{⊎_elim}
use Rattle.std.specs.Cmp.Lexicographic.{pointwise}
use Rattle.kl_type.proofs.RowLemmas.{told}
use Rattle.kl_outcome.specs.Outcome.{Name}

pub not_same : (a b : Name) → a ≢ b → pointwise nat_eq a b ≡ false
not_same a b h = ⊎_elim (λ e. absurd (h e.1)) (λ e. e.0) (told a b)
