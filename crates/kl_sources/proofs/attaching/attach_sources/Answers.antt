use Rattle.std.proofs.Common.{refl}
use Rattle.kl_scope.specs.Breaches.{is_marked}
use Rattle.kl_sources.proofs.EndLemmas.{call_ok, call_err}
use Rattle.kl_sources.proofs.attaching.attach_sources.Goals as goal

pub returns-in-Ok : goal.returns-in-Ok
returns-in-Ok g c = call_ok (is_marked c.args.scoped.now) c.deref.result.now c.args.sources.items c.deref.ensures.value _ _ c.requires.placed c.in-Ok.list c.in-Ok.ensures

pub returns-in-Err : goal.returns-in-Err
returns-in-Err g c = call_err (is_marked c.args.scoped.now) c.deref.result.now c.args.sources.items c.deref.ensures.value _ _ c.requires.placed c.requires.clear c.in-Err.refused c.in-Err.ensures c.swap_remove-source.result c.swap_remove-source.ensures.value _ refl refl
