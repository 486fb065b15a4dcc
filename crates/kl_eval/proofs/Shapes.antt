-- Canonical records of a type.
use Rattle.std.proofs.Common.{List, refl, sym, subst}
use Rattle.std.specs.List.{AllByRecursion}
use Rattle.std.specs.List.Sorted.{IsStrictlySortedBy}
use Rattle.kl_base.specs.Fields.{bytes_cmp}
use Rattle.kl_value.specs.IsCanonical.{IsCanonical}
use Rattle.kl_value.specs.declared.Value.{Value}
use Rattle.kl_value.specs.declared.Value.TheVariants as value
use Rattle.kl_value.proofs.IsCanonicalLemmas.{record_made}
use Rattle.kl_type.specs.Ground.{Row, rec as rec_type, labels_in}
use Rattle.kl_outcome.specs.Outcome.{Name, done}
use Rattle.kl_outcome.specs.Typed.{HasFields, OfType}
use Rattle.kl_outcome.proofs.OutcomeTypes.{labels_same}

pub record_typed : (r : Row) (fs : List (Name × Value)) → IsStrictlySortedBy bytes_cmp (labels_in r) → HasFields r fs → AllByRecursion (λ f. IsCanonical f.1) fs → OfType (rec_type r) (done (value.Rec fs))
record_typed r fs up has good = ((fs, refl, has), record_made fs good (subst (IsStrictlySortedBy bytes_cmp) (sym (labels_same r fs has)) up))
