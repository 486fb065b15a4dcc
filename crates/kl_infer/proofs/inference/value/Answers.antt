use Rattle.std.proofs.Common.{ap, sym, ◌∙◌}
use Rattle.kl_base.specs.Fields.{field}
use Rattle.kl_infer.specs.Names.{meant_of}
use Rattle.kl_infer.proofs.Sharing.{again_ok, kept, named_value, named_source, source_named, made_at}
use Rattle.kl_infer.proofs.inference.value.Goals as goal

pub returns-in-Value-clause-made : goal.returns-in-Value-clause-made
returns-in-Value-clause-made c = kept c.again.result _ c.requires.made

pub returns-in-Value-clause-scheme : goal.returns-in-Value-clause-scheme
returns-in-Value-clause-scheme c = again_ok c.again.result _ _ c.again.ensures (named_value c.args.known.now c.args.e.now _ _ c.in-Name.is (sym c.stands_for.ensures.means ∙ ap meant_of c.in-Value.is) c.requires.good)

pub make-requires-clause-is_source : goal.make-requires-clause-is_source
make-requires-clause-is_source c = λ p h. named_source c.args.known.now c.args.e.now _ p c.in-Name.is _ (sym c.stands_for.ensures.means ∙ ap meant_of c.in-Source.is) h

pub returns-in-Some-clause-scheme : goal.returns-in-Some-clause-scheme
returns-in-Some-clause-scheme c =
    let here = made_at c.args.known.now.sources.now c.in-Name.x.text c.args.made.now.items _ c.requires.made (sym (c.in-Some.ensures ∙ ap (field c.in-Name.x.text) c.deref.ensures.value)) in
    again_ok c.again-in-Some.result _ _ c.again-in-Some.ensures (source_named c.args.known.now c.args.e.now _ _ c.in-Name.is _ (sym c.stands_for.ensures.means ∙ ap meant_of c.in-Source.is) here)
