use Rattle.std.proofs.Common.{◌≡◌, sym, subst}
use Rattle.kl_rows.specs.declared.cell.TypeNode.{TypeNode}
use Rattle.kl_rows.specs.declared.cell.TypeNode.TheVariants.{AnyType, Base, Rec, Var, Coll, TypeLink}
use Rattle.kl_rows.specs.declared.cell.Cell.TheVariants.{OfType}
use Rattle.kl_rows.specs.Making.{CanMake}
use Rattle.kl_rows.specs.Copying.{IsPlain, Takes}
use Rattle.kl_rows.proofs.RowCopies.{takes_plain, takes_type_link}
use Rattle.kl_rows.proofs.copying.copy_type.Goals as goal

plain : (n : TypeNode) → ((a : _) → n ≡ TypeLink a → ⊥) → IsPlain (OfType n)
plain AnyType h = tt
plain (Base b) h = tt
plain (Rec r) h = tt
plain (Var r) h = tt
plain (Coll k a) h = tt
plain (TypeLink a) h = absurd (h a (λ i. TypeLink a))

pub returns-in-TypeLink : goal.returns-in-TypeLink
returns-in-TypeLink c =
    subst (λ n. Takes c.args.target.now.items c.args.target.now.items (OfType n) c.in-TypeLink.at) (sym c.in-TypeLink.is)
    (takes_type_link c.args.target.now.items c.in-TypeLink.at c.requires.fine (subst (λ n. CanMake c.args.target.now.items (OfType n)) c.in-TypeLink.is c.requires.can))

pub returns : goal.returns
returns c = takes_plain _ _ _ _ c.requires.fine c.requires.can (plain c.args.node c.in_default.not-TypeLink) c.in_ok-at.ensures
