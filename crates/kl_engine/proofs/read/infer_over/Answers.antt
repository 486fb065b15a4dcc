use Rattle.std.proofs.lemmas.List.Elements.{All-map}
use Rattle.kl_type.specs.Ground.{IsProper}
use Rattle.kl_sources.specs.declared.source.Source.{Source}
use Rattle.kl_engine.proofs.read.infer_over.Goals as goal

pub infer_types-requires : goal.infer_types-requires
infer_types-requires c = rw (c.deref.ensures.value, c.in-Ok.ensures) (All-map (λ s. IsProper s.1) (λ (s : Source). (s.name, s.ty)) c.args.sources.now c.requires)
