use Rattle.std.proofs.Common.{◌≡◌, Err, sym, ap, subst, ◌∙◌}
use Rattle.kl_heads.specs.FileReading.{HandsItem, headed_file}
use Rattle.kl_heads.proofs.FileItems.{as_held, hands_item}
use Rattle.kl_heads.proofs.file_reader.FileReader.item_held.Goals.{in-Ok, in-Err}
use Rattle.kl_heads.proofs.file_reader.FileReader.item_held.Goals as goal

pub returns : goal.returns
returns c =
    let s = c.self.inside in
    let is : c.match-next_held.result ≡ as_held s.head c.next_held.result =
    elim c.match-next_held.branch [
      | in-Ok w ↦ w.result-is ∙ sym (ap (as_held s.head) w.in-Ok.is)
      | in-Err w ↦ w.result-is ∙ (ap Err w.behind.ensures ∙ sym (ap (as_held s.head) w.in-Err.is))
    ] in
    subst (λ r. HandsItem r c.args.self.now (headed_file s.front s.head c.next_held.new.self s.refused)) (sym is)
    (subst (λ o. HandsItem (as_held s.head c.next_held.result) o (headed_file s.front s.head c.next_held.new.self s.refused)) c.self.view_is
    (hands_item (headed_file s.front s.head s.items s.refused) c.next_held.new.self c.next_held.result (ap (λ o. o.front) c.self.view_is ∙ c.requires) c.next_held.ensures))
