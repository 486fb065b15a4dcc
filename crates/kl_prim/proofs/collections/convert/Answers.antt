use Rattle.std.proofs.Common.{◌∙◌, sym, ap, subst, List}
use Rattle.kl_value.specs.Canon.{canonical}
use Rattle.kl_value.specs.IsCanonical.{IsCanonical}
use Rattle.kl_value.specs.Views.{collection}
use Rattle.kl_value.specs.declared.Value.{Value}
use Rattle.kl_value.specs.declared.Value.TheVariants as value
use Rattle.kl_value.proofs.CanonLemmas.{canonical_list, set_again, bag_again, set_of_bag}
use Rattle.kl_prim.specs.Meaning.{gives}
use Rattle.kl_prim.proofs.collections.convert.Goals as goal

pub returns-in-Set-kind : goal.returns-in-Set-kind
returns-in-Set-kind c =
    let vs : List Value = c.args.items.items in
    let form = subst (λ k. IsCanonical (collection k vs)) c.in-Set-kind.is c.requires in
    ap (λ v. gives v) (ap (λ k. canonical k vs) c.in-Set.is ∙ (sym (set_again vs form) ∙ ap value.Set (sym c.of.ensures)))

pub returns-in-Bag-kind : goal.returns-in-Bag-kind
returns-in-Bag-kind c =
    let vs : List Value = c.args.items.items in
    let form = subst (λ k. IsCanonical (collection k vs)) c.in-Bag-kind.is c.requires in
    ap (λ v. gives v)
    (ap (λ k. canonical k vs) c.in-Set.is ∙ (sym (set_of_bag vs _ form c.dedup.ensures.filtered) ∙ ap value.Set (sym c.of-in-Bag-kind.ensures)))

pub returns-in-Set-kind-2 : goal.returns-in-Set-kind-2
returns-in-Set-kind-2 c =
    let vs : List Value = c.args.items.items in
    ap (λ v. gives v)
    (ap (λ k. canonical k vs) c.in-Bag.is
    ∙ (sym (bag_again c.args.kind vs c.requires c.in-Set-kind-2.is) ∙ ap value.Bag (sym c.of-in-Set-kind-2.ensures)))

pub returns-in-List : goal.returns-in-List
returns-in-List c =
    let vs : List Value = c.args.items.items in
    ap (λ v. gives v) (ap (λ k. canonical k vs) c.in-List.is ∙ (sym (canonical_list vs) ∙ ap value.List (sym c.of-in-List.ensures)))
