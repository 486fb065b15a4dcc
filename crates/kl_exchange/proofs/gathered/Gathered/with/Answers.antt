use Rattle.std.proofs.Common.{◌≡◌, ap, ◌∙◌, arith, length}
use Rattle.std.specs.BTreeSet.{insert_key}
use Rattle.kl_base.specs.Fields.{bytes_cmp}
use Rattle.kl_exchange.proofs.LabelSets.{others_with, few_with}
use Rattle.kl_exchange.proofs.gathered.Gathered.with.Goals as goal
use Rattle.kl_exchange.proofs.gathered.Gathered.with.Goals.{then-len-ge-FEW+in_ok-dup+in_ok-insert, else-len-ge-FEW}

pub invariant_of-result : goal.invariant_of-result
invariant_of-result g c =
    let size : c.len.result ≡ length c.self.inside.fields.items = c.len.ensures ∙ c.self.inside.fields.ok.0 in
    elim c.if-len-ge-FEW.branch [
      | then-len-ge-FEW+in_ok-dup+in_ok-insert w ↦
          others_with c.self.inside.others.keys c.if-len-ge-FEW.others.keys c.self.inside.fields.items c.push.new.self.items c.args.label c.args.value c.self.invariant
          (omega (arith, size, w.if-len-ge-FEW.true))
          (ap (λ s. s.keys) w.others-is ∙ (w.in_ok-insert.ensures.keys ∙ ap (insert_key bytes_cmp c.self.inside.others.keys) w.in_ok-dup.ensures)) c.in_ok-push.ensures.items
      | else-len-ge-FEW w ↦
          few_with c.self.inside.others.keys c.if-len-ge-FEW.others.keys c.self.inside.fields.items c.push.new.self.items c.args.label c.args.value c.self.invariant
          (omega (arith, size, w.if-len-ge-FEW.false))
          (ap (λ s. s.keys) w.others-is) c.in_ok-push.ensures.items
    ]
