use Rattle.std.proofs.Common.{Err, IsSome, refl, sym, subst}
use Rattle.kl_json.specs.Answers.{Does, JsonStands, ToEnds, item_lines}
use Rattle.kl_json.proofs.Listing.{done, unopened}
use Rattle.kl_json.proofs.Putting.{json_unopened, json_weaker, to_unopened, to_unprinted}
use Rattle.kl_json.proofs.top.to.Goals as goal

pub returns-in-Err : goal.returns-in-Err
returns-in-Err g c =
    let s = g.F.Files.state c.args.files.now in
    let t = g.F.Files.state c.open_path.new.self in
    let out = g.S.Sink.state c.args.out.now in
    subst (λ f. Does item_lines ToEnds (JsonStands c.args.choices.now) c.args.path.now (Err f) s t out out) (sym c.open_fault.ensures)
    (unopened item_lines ToEnds (JsonStands c.args.choices.now) c.args.path.now c.in-Err.stop s t out refl to_unopened (λ bytes. json_unopened c.args.choices.now bytes c.in-Err.stop) c.in-Err.ensures)

pub put_values-ended-requires-clause-is_open : goal.put_values-ended-requires-clause-is_open
put_values-ended-requires-clause-is_open g c = subst IsSome (sym c.in-Ok.ensures.left) refl

pub put_values-ended-requires-clause-empty : goal.put_values-ended-requires-clause-empty
put_values-ended-requires-clause-empty g c = c.new-page.ensures

pub close-requires : goal.close-requires
close-requires g c = c.put_values-ended.ensures.keeps.is_open

pub returns : goal.returns
returns g c =
    done item_lines ToEnds (JsonStands c.args.choices.now) (json_weaker c.args.choices.now) to_unprinted c.args.path.now c.in-Ok.file _ _ _ _ c.in-Ok.ensures c.close.ensures _ _ _ c.put_values-ended.result c.finish.result _
    c.put_values-ended.ensures c.finish.ensures
