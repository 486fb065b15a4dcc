use Rattle.std.proofs.Common.{◌∙◌}
use Rattle.kl_value.proofs.IsCanonicalLemmas.{rising}
use Rattle.kl_prim.proofs.CollectionLemmas.{contained, searched}
use Rattle.kl_prim.proofs.collections.member.Goals as goal

pub returns-in-Set : goal.returns-in-Set
returns-in-Set c =
    let up = rising c.args.kind c.args.items.now c.requires c.in-Set.is in
    c.is_ok.ensures.value ∙ searched c.args.v.now c.args.items.now c.binary_search.result up c.binary_search.ensures.bound c.binary_search.ensures.position

pub returns-in-List : goal.returns-in-List
returns-in-List c = c.contains.ensures.value ∙ contained c.args.v.now c.args.items.now
