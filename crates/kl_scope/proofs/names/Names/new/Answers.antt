use Rattle.kl_scope.proofs.NameLemmas.{sources_more, kept_more}
use Rattle.kl_scope.proofs.names.Names.new.Goals as goal

pub sources-preserved : goal.sources-preserved
sources-preserved c = record {
  kept = kept_more c.args.sources.now c.sources.i c.index-sources-i.result c.in_ok-dup.field-0 c.sources.kept.items c.push.new.self.items c.sources-test.true c.index-sources-i.is c.in_ok-dup.ensures c.sources.invariant.kept c.in_ok-push.ensures.items;
  fixed = sources_more c.args.sources.now c.sources.i c.index-sources-i.result c.sources.fixed c.add_source.new.fixed c.sources-test.true c.index-sources-i.is c.sources.invariant.fixed c.in_ok-add_source.ensures;
}
