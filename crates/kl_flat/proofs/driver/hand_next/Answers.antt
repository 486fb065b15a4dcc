use Rattle.std.proofs.Common.{◌≡◌, ◌∙◌, ap, arith, length, length-append, refl, rules}
use Rattle.kl_flat.proofs.Adding.{taken_back}
use Rattle.kl_flat.proofs.driver.hand_next.Goals as goal

pub returns-in-Ok-clause-handed : goal.returns-in-Ok-clause-handed
returns-in-Ok-clause-handed c =
    let added = c.in-Ok.ensures.added in
    let before : c.len-before.result ≡ length c.args.into.now.items = search rules in
    let after : c.len.result ≡ length c.add_answers.new.into.items = search rules in
    record {
      taken = added.taken;
      size = omega (arith, before, after, ap length added.grown, length-append c.args.into.now.items added.taken);
      appended = added.grown;
      takes = added.takes;
      ask = refl;
      ty = refl;
      table = refl;
    }

pub returns-in-Err-clause-refused : goal.returns-in-Err-clause-refused
returns-in-Err-clause-refused c =
    let before : c.len-before.result ≡ length c.args.into.now.items = search rules in
    c.truncate.ensures.items ∙ taken_back _ _ _ before c.add_answers.ensures.stays
