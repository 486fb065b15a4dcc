use Rattle.kl_why.proofs.Explained.{found_in, sources_wrong}
use Rattle.kl_why.proofs.top.find.Goals as goal

pub returns-in-Ok-find_sources : goal.returns-in-Ok-find_sources
returns-in-Ok-find_sources g c =
    found_in (g.F.Files.state c.args.files.now) (g.F.Files.state c.find_in.new.files) _ _ c.args.paths.now (g.F.Files.state c.read_text.new.files)
    (g.F.Files.state c.find_sources.new.files) c.in-Ok.text c.in-Ok-find_sources.sources.items c.find_in.result c.in-Ok.ensures.told
    c.in-Ok-find_sources.ensures.told c.in-Ok.ensures.text.0 c.in-Ok-find_sources.ensures.finds.0 c.find_in.ensures

pub returns-in-Err-find_sources : goal.returns-in-Err-find_sources
returns-in-Err-find_sources g c =
    sources_wrong (g.F.Files.state c.args.files.now) (g.F.Files.state c.read_text.new.files) (g.F.Files.state c.find_sources.new.files) _ _
    c.args.paths.now c.in-Err-find_sources.why c.in-Ok.ensures.told c.in-Ok.ensures.later c.in-Err-find_sources.ensures.finds
