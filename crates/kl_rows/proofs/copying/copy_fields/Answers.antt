use Rattle.std.proofs.Common.{◌≡◌, length, List, [], ◌∷◌, refl, subst, arith, rules}
use Rattle.kl_rows.specs.declared.cell.RowNode.TheVariants.{Front}
use Rattle.kl_rows.specs.declared.cell.Cell.TheVariants.{OfRow}
use Rattle.kl_rows.specs.Expanding.{Pushes}
use Rattle.kl_rows.proofs.RowCopies.{split_none, split_more, split_takes}
use Rattle.kl_rows.proofs.copying.copy_fields.Goals as goal

nil_of : {A : Type 0} (xs : List A) → length xs ≡ 0 → xs ≡ []
nil_of [] e = refl
nil_of (x ∷ xs) e = absurd (omega arith)

pub fields-init : goal.fields-init
fields-init c = split_none _ _ _ _ c.requires.fine c.requires.can refl

pub fields-preserved : goal.fields-preserved
fields-preserved c =
    split_more _ _ _ _ _ _ _ _ _ c.in-Some.field c.in_ok-block.block.items c.requires.fine c.requires.can c.in-Some.ensures.items c.in_ok-block.ensures.items c.fields.invariant
    (subst (λ fs. Pushes c.fields.target.items c.push.new.cells.items (OfRow (Front fs c.fields.at)) c.in_ok-at.at) c.of.ensures c.in_ok-at.ensures)

pub returns : goal.returns
returns c =
    let none : length c.fields.left.items ≡ 0 = search rules in
    split_takes _ _ _ _ _ _ (nil_of c.fields.left.items none) c.fields.invariant
