use Rattle.std.proofs.Common.{Err, IsSome, refl, sym, subst}
use Rattle.kl_json.specs.Answers.{Does, FromEnds, ItemsStand, json_lines}
use Rattle.kl_json.proofs.Listing.{done, unopened}
use Rattle.kl_json.proofs.ItemPutting.{from_unopened, from_unprinted, items_unopened, items_weaker}
use Rattle.kl_json.proofs.top.from.Goals as goal

pub returns-in-Err : goal.returns-in-Err
returns-in-Err g c =
    let s = g.F.Files.state c.args.files.now in
    let t = g.F.Files.state c.open_path.new.self in
    let out = g.S.Sink.state c.args.out.now in
    subst (λ f. Does json_lines FromEnds ItemsStand c.args.path.now (Err f) s t out out) (sym c.open_fault.ensures)
    (unopened json_lines FromEnds ItemsStand c.args.path.now c.in-Err.stop s t out refl from_unopened (λ bytes. items_unopened bytes c.in-Err.stop) c.in-Err.ensures)

pub put_file-ended-requires-clause-is_open : goal.put_file-ended-requires-clause-is_open
put_file-ended-requires-clause-is_open g c = subst IsSome (sym c.in-Ok.ensures.left) refl

pub put_file-ended-requires-clause-empty : goal.put_file-ended-requires-clause-empty
put_file-ended-requires-clause-empty g c = c.new-page.ensures

pub close-requires : goal.close-requires
close-requires g c = c.put_file-ended.ensures.keeps.is_open

pub returns : goal.returns
returns g c =
    done json_lines FromEnds ItemsStand items_weaker from_unprinted c.args.path.now c.in-Ok.file _ _ _ _ c.in-Ok.ensures c.close.ensures _ _ _ c.put_file-ended.result c.finish.result _
    c.put_file-ended.ensures c.finish.ensures
