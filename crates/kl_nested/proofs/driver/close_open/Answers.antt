use Rattle.std.proofs.Common.{◌≡◌, ◌<◌, ◌∙◌, Some, ap, length, refl, rules, slice_get, subst, sym}
use Rattle.std.specs.Option.{option_flatten}
use Rattle.std.proofs.lemmas.Option.{same_Some, slice_get_read}
use Rattle.kl_outside.specs.Files.{Closes}
use Rattle.kl_nested.specs.declared.parts.Open.{Open}
use Rattle.kl_nested.proofs.Held.{held_within}
use Rattle.kl_nested.proofs.driver.close_open.Goals as goal

pub returns : goal.returns
returns g c =
    let cursors = c.args.cursors.now.items in
    let within : c.args.cursor < length cursors = held_within cursors c.args.cursor c.requires.is_open in
    let there : slice_get cursors c.args.cursor ≡ Some (Some c.in-Some.open) = slice_get_read cursors (length cursors) c.args.cursor (Some c.in-Some.open) refl within (search rules) in
    record {
      file = λ o is.
          let same : c.in-Some.open ≡ o = same_Some _ _ (sym (ap option_flatten there) ∙ is) in
          subst (λ (x : Open). Closes x.file (g.F.Files.state c.args.files.now) (g.F.Files.state c.close.new.self)) same c.close.ensures;
      closed = c.close_cursor.ensures.closed;
      others = c.close_cursor.ensures.others;
    }
