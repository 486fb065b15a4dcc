use Rattle.std.proofs.Common.{refl, sym, ◌∙◌}
use Rattle.kl_scope.proofs.ResolveLemmas.{resolves_is, refusal_is}
use Rattle.kl_scope.proofs.scoped.names_found.Goals as goal

pub returns-in-None : goal.returns-in-None
returns-in-None c = record {
  resolved =
      resolves_is c.args.program.now c.walk_through.new.program c.args.sources.now c.in_ok-walk.walk c.in_ok-walk.ensures _ refl c.into_sources.ensures c.into_parts-first.ensures.marks
      (sym c.into_parts-first.ensures.first ∙ c.in-None.is);
  refused = tt;
}

pub returns-in-Some : goal.returns-in-Some
returns-in-Some c = record {
  resolved = tt;
  refused = refusal_is c.args.program.now c.walk_through.new.program c.args.sources.now c.in_ok-walk.walk c.in_ok-walk.ensures c.in-Some.first (sym c.into_parts-first.ensures.first ∙ c.in-Some.is);
}
