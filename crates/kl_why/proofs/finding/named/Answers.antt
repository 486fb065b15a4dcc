use Rattle.std.proofs.Common.{◌∙◌, length, refl, sym}
use Rattle.std.proofs.lemmas.Option.{slice_get_read}
use Rattle.kl_sources.proofs.NameLemmas.{same_is}
use Rattle.kl_why.proofs.finding.named.Goals as goal

pub returns-then-eq : goal.returns-then-eq
returns-then-eq c = (
  (
    c.loop-source.source-index,
    slice_get_read c.args.sources.now (length c.args.sources.now) c.loop-source.source-index c.source-item.result refl c.loop-source-test.true c.source-item.is,
  ),
  same_is c.source-item.result.name c.args.name.now (sym c.eq.ensures ∙ c.if-eq.true),
)
