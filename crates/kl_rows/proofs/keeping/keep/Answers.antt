use Rattle.std.proofs.Common.{refl}
use Rattle.kl_rows.proofs.Kept.{keeps_new}
use Rattle.kl_rows.proofs.keeping.keep.Goals as goal

pub returns : goal.returns
returns c = keeps_new c.args.kept.now.items c.deref.result.now _ c.args.at c.is_kept.result c.requires c.deref.ensures.value c.is_kept.ensures c.if-is_kept.false refl
