use Rattle.kl_cursor.proofs.MemoCode.{copy_may, copy_kept}
use Rattle.kl_cursor.proofs.memos.keep_copy.Goals as goal

pub keep-requires : goal.keep-requires
keep-requires g c = copy_may _ _ _ _ c.in-Ok.ensures c.requires

pub returns-in-Ok-keep : goal.returns-in-Ok-keep
returns-in-Ok-keep g c = copy_kept _ _ _ _ _ tt c.in-Ok.ensures c.in-Ok-keep.ensures
