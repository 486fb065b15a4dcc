use Rattle.std.proofs.Common.{◌∙◌}
use Rattle.kl_value.proofs.IsCanonicalLemmas.{rising}
use Rattle.kl_prim.proofs.CollectionLemmas.{first_low, found_low}
use Rattle.kl_prim.proofs.collections.least_of.Goals as goal

pub returns-in-Set : goal.returns-in-Set
returns-in-Set c = c.first.ensures.value ∙ first_low c.args.items.now (rising c.args.kind c.args.items.now c.requires c.in-Set.is)

pub returns-in-List : goal.returns-in-List
returns-in-List c = found_low c.args.items.now c.least_in.result c.least_in.ensures
