use Rattle.std.proofs.Common.{◌≡◌, sym, ap, subst}
use Rattle.kl_rows.specs.declared.cell.RowNode.{RowNode}
use Rattle.kl_rows.specs.declared.cell.Cell.TheVariants.{OfRow}
use Rattle.kl_rows.specs.Making.{CanMake}
use Rattle.kl_rows.specs.Expanding.{Pushes}
use Rattle.kl_rows.specs.Copying.{IsPlain, Takes}
use Rattle.kl_rows.specs.Places.{IsFine}
use Rattle.kl_rows.proofs.RowCopies.{takes_plain}
use Rattle.kl_rows.proofs.copying.copy_row.Goals as goal

told : (old new : _) (n m : RowNode) (p : _) → IsFine old → CanMake old (OfRow n) → n ≡ m → IsPlain (OfRow m) → Pushes old new (OfRow m) p → Takes old new (OfRow n) p
told old new n m p fine can e plain q =
    let is : OfRow m ≡ OfRow n = ap OfRow (sym e) in
    subst (λ c. Takes old new c p) is (takes_plain old new (OfRow m) p fine (subst (CanMake old) (sym is) can) plain q)

pub returns-in_ok-at-in-AnyRow : goal.returns-in_ok-at-in-AnyRow
returns-in_ok-at-in-AnyRow c = told _ _ _ _ _ c.requires.fine c.requires.can c.in-AnyRow.is tt c.in_ok-at-in-AnyRow.ensures

pub returns-in_ok-at-in-NoRow : goal.returns-in_ok-at-in-NoRow
returns-in_ok-at-in-NoRow c = told _ _ _ _ _ c.requires.fine c.requires.can c.in-NoRow.is tt c.in_ok-at-in-NoRow.ensures
