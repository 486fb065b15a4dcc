use Rattle.std.proofs.Common.{length, Ok, Err, refl, arith}
use Rattle.std.proofs.lemmas.Option.{slice_get_read}
use Rattle.kl_sources.proofs.StepLemmas.{next_suits, next_fresh, turn_on, turn_off}
use Rattle.kl_sources.proofs.walking.attach_marked.Goals as goal

pub attach_if-requires-clause-suits : goal.attach_if-requires-clause-suits
attach_if-requires-clause-suits g c = next_suits _ _ c.requires.placed c.requires.clear _ _ _ c.sources.invariant c.index-sources-place.result (slice_get_read c.args.sources.now (length c.args.sources.now) c.sources.place c.index-sources-place.result refl (omega arith) c.index-sources-place.is)

pub attach_if-requires-clause-fresh : goal.attach_if-requires-clause-fresh
attach_if-requires-clause-fresh g c = next_fresh _ _ c.requires.placed c.requires.clear _ _ _ c.sources.invariant c.index-sources-place.result (slice_get_read c.args.sources.now (length c.args.sources.now) c.sources.place c.index-sources-place.result refl (omega arith) c.index-sources-place.is)

pub returns-in-Err : goal.returns-in-Err
returns-in-Err g c = turn_off _ _ c.requires.placed c.requires.clear _ _ _ c.sources.invariant c.index-sources-place.result (slice_get_read c.args.sources.now (length c.args.sources.now) c.sources.place c.index-sources-place.result refl (omega arith) c.index-sources-place.is) _ (Err c.in-Err.error) c.mentions.result c.mentions.ensures c.in-Err.ensures c.in-Err.error refl _ refl refl

pub sources-preserved : goal.sources-preserved
sources-preserved g c = turn_on _ _ c.requires.placed c.requires.clear _ _ _ c.sources.invariant c.index-sources-place.result (slice_get_read c.args.sources.now (length c.args.sources.now) c.sources.place c.index-sources-place.result refl (omega arith) c.index-sources-place.is) _ (Ok c.in-Ok.field-0) c.mentions.result c.mentions.ensures c.in-Ok.ensures refl
