use Rattle.std.proofs.Common.{length, refl, arith}
use Rattle.std.proofs.lemmas.Option.{slice_get_read}
use Rattle.kl_scope.specs.Breaches.{is_marked}
use Rattle.kl_sources.proofs.EndLemmas.{list_more}
use Rattle.kl_sources.proofs.walking.list.Goals as goal

pub sources-preserved : goal.sources-preserved
sources-preserved c =
    list_more (is_marked c.args.scoped.now) c.sources.place c.args.sources.now c.index-sources-place.result c.mentions.result c.sources.list.items _
    (slice_get_read c.args.sources.now (length c.args.sources.now) c.sources.place c.index-sources-place.result refl (omega arith) c.index-sources-place.is)
    c.mentions.ensures c.sources.invariant c.in-Ok.ensures
