use Rattle.std.proofs.Common.{◌++◌, ap, codes, ◌∙◌}
use Rattle.std.proofs.lemmas.List.{append_assoc}
use Rattle.std.proofs.lemmas.Result.{on_ok_weaker}
use Rattle.kl_why.proofs.why.put_unread.Goals as goal

pub returns : goal.returns
returns c =
    let page = c.args.page.now.items in
    let front = c.args.path.now ++ codes ": this file of source " in
    let back = codes " is missing or could not be read\n" in
    let name = c.args.name.now in
    on_ok_weaker c.put_missing.result (λ is. is ∙ ap (λ x. x ++ name ++ back) (c.in_ok-put_two.ensures ∙ append_assoc page c.args.path.now (codes ": this file of source "))
    ∙ ap (λ x. x ++ back) (append_assoc page front name) ∙ append_assoc page (front ++ name) back) c.put_missing.ensures
