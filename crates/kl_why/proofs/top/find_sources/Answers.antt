use Rattle.kl_why.proofs.Explained.{no_sources, sources_found}
use Rattle.kl_why.proofs.top.find_sources.Goals as goal

pub returns-in-None-clause-finds : goal.returns-in-None-clause-finds
returns-in-None-clause-finds g c = rw c.in-None.is (no_sources (g.F.Files.state c.args.files.now).told _ c.new.result.items c.new.ensures.items)

pub returns-in-Ok-clause-finds : goal.returns-in-Ok-clause-finds
returns-in-Ok-clause-finds g c = rw c.in-Some.is (sources_found (g.F.Files.state c.args.files.now) (g.F.Files.state c.read_text.new.files) _ _ _ c.sources_in.result c.in-Ok.ensures.text.0 c.sources_in.ensures)
