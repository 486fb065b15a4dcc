use Rattle.std.proofs.Common.{◌≡◌, ◌∙◌, sym, ap, List, [], take, arith}
use Rattle.std.specs.List.{flat_map}
use Rattle.std.proofs.lemmas.List.{take_all}
use Rattle.kl_value.specs.Canon.{canonical}
use Rattle.kl_value.specs.declared.Value.{Value}
use Rattle.kl_prim.specs.Meaning.{gives, listed, with_some}
use Rattle.kl_value.specs.Views.{items_at}
use Rattle.kl_prim.proofs.ItemLemmas.{all_some_is, flat_map-map}
use Rattle.kl_prim.proofs.collections.flatten_lent.Goals as goal

pub returns : goal.returns
returns c =
    let vs : List Value = c.args.items.now in
    let k = c.args.kind in
    let all : take c.loop-item.item-index vs ≡ vs = take_all c.loop-item.item-index vs (omega arith) in
    ap (λ o. with_some o (λ lists. gives (canonical k (flat_map (λ ws. ws) lists)))) (all_some_is (items_at k) [] vs c.requires)
    ∙ (ap (λ ws. gives (canonical k ws)) (flat_map-map (λ ws. ws) (listed k) vs ∙ (ap (flat_map (listed k)) (sym all) ∙ sym c.loop-item.invariant))
    ∙ ap (λ v. gives v) (sym c.in_ok-canon.ensures))
