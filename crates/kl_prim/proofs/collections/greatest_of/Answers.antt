use Rattle.std.proofs.Common.{◌∙◌}
use Rattle.kl_value.proofs.IsCanonicalLemmas.{rising}
use Rattle.kl_prim.proofs.CollectionLemmas.{last_high, found_high}
use Rattle.kl_prim.proofs.collections.greatest_of.Goals as goal

pub returns-in-Set : goal.returns-in-Set
returns-in-Set c = c.last.ensures.value ∙ last_high c.args.items.now (rising c.args.kind c.args.items.now c.requires c.in-Set.is)

pub returns-in-List : goal.returns-in-List
returns-in-List c = found_high c.args.items.now c.greatest_in.result c.greatest_in.ensures
