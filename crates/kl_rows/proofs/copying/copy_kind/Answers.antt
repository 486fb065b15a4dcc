use Rattle.std.proofs.Common.{◌≡◌, sym, subst}
use Rattle.kl_rows.specs.declared.cell.KindNode.{KindNode}
use Rattle.kl_rows.specs.declared.cell.KindNode.TheVariants.{AnyKind, Fixed, KindLink}
use Rattle.kl_rows.specs.declared.cell.Cell.TheVariants.{OfKind}
use Rattle.kl_rows.specs.Making.{CanMake}
use Rattle.kl_rows.specs.Copying.{IsPlain, Takes}
use Rattle.kl_rows.proofs.RowCopies.{takes_plain, takes_kind_link}
use Rattle.kl_rows.proofs.copying.copy_kind.Goals as goal

plain : (n : KindNode) → ((a : _) → n ≡ KindLink a → ⊥) → IsPlain (OfKind n)
plain AnyKind h = tt
plain (Fixed k) h = tt
plain (KindLink a) h = absurd (h a (λ i. KindLink a))

pub returns-in-KindLink : goal.returns-in-KindLink
returns-in-KindLink c =
    subst (λ n. Takes c.args.target.now.items c.args.target.now.items (OfKind n) c.in-KindLink.at) (sym c.in-KindLink.is)
    (takes_kind_link c.args.target.now.items c.in-KindLink.at c.requires.fine (subst (λ n. CanMake c.args.target.now.items (OfKind n)) c.in-KindLink.is c.requires.can))

pub returns : goal.returns
returns c = takes_plain _ _ _ _ c.requires.fine c.requires.can (plain c.args.node c.in_default.not-KindLink) c.in_ok-at.ensures
