use Rattle.std.proofs.Common.{sym, subst}
use Rattle.kl_heads.specs.FileReading.{FetchesMore, MayFetch, headed_file}
use Rattle.kl_heads.proofs.FilePieces.{begun_grows, fetches_more}
use Rattle.kl_heads.proofs.file_reader.FileReader.fetch.Goals as goal

pub invariant_of-self : goal.invariant_of-self
invariant_of-self g c = begun_grows _ _ _ _ _ _ _ _ c.self.invariant c.fetch_piece.ensures

pub returns : goal.returns
returns g c =
    let s = c.self.inside in
    subst (λ o. FetchesMore c.fetch_piece.result o (headed_file s.front s.head c.fetch_piece.new.self s.refused) (g.F.Files.state c.args.files.now) (g.F.Files.state c.fetch_piece.new.files)) c.self.view_is
    (fetches_more c.fetch_piece.result (headed_file s.front s.head s.items s.refused) c.fetch_piece.new.self _ _ (subst MayFetch (sym c.self.view_is) c.requires.waits) c.fetch_piece.ensures)
