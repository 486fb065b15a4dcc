use Rattle.std.proofs.Common.{◌≡◌, Err, ap, subst, sym, ◌∙◌}
use Rattle.kl_exchange.specs.FileReading.{FetchesPiece, FileReading}
use Rattle.kl_json.specs.Files.{FetchesOn, Reading}
use Rattle.kl_json.specs.contracts.reader.JsonReader as reader
use Rattle.kl_json.proofs.Fetched.{fetched_as, fetches_on}
use Rattle.kl_json.proofs.reader.JsonReader.fetch.Goals as goal
use Rattle.kl_json.proofs.reader.JsonReader.fetch.Goals.{in-Ok, in-Err}

pub returns : goal.returns
returns g c =
    let s = g.F.Files.state c.args.files.now in
    let t = g.F.Files.state c.fetch_piece.new.files in
    let piece = subst (λ (i : FileReading). FetchesPiece c.fetch_piece.result i c.fetch_piece.new.self s t) (ap (λ (r : Reading). r.items) c.self.view_is) c.fetch_piece.ensures in
    let same : c.match-fetch_piece.result ≡ fetched_as c.fetch_piece.result = elim c.match-fetch_piece.branch [
      | in-Ok w ↦ w.result-is ∙ sym (ap fetched_as w.in-Ok.is)
      | in-Err w ↦ w.result-is ∙ ap Err w.fault_of.ensures ∙ sym (ap fetched_as w.in-Err.is)
    ] in
    let new : Reading = record { place = (reader.the_view c.self.inside).place; items = c.fetch_piece.new.self } in
    subst (λ q. FetchesOn q c.args.self.now new s t) (sym same)
    (fetches_on c.args.self.now new s t (ap (λ (r : Reading). r.place) c.self.view_is) c.fetch_piece.result piece)
