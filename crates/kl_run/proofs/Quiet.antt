-- Drivers whose cursors were all closed again are quiet.
use Rattle.std.proofs.Common.{◌≡◌, ℕ, ◌+◌, Option, Some, None, refl, sym, ap, ◌∙◌, arith}
use Rattle.std.proofs.Math.Path.{fun_ext}
use Rattle.kl_ask.specs.Driver.{Cursor}
use Rattle.kl_ask.specs.Lists.{EachSteps}
use Rattle.kl_ask.specs.World.{Quiet}
use Rattle.kl_scans.specs.Held.{nothing, cursor_at, count_open, open_at}
use Rattle.kl_scans.specs.Moves.{Moves}
use Rattle.kl_scans.specs.Running.{Running}
use Rattle.kl_scans.proofs.Stepped.{cursor_here}

closed : (o : Option Cursor) → count_open o ≡ 0 → o ≡ None
closed None e = refl
closed (Some c) e = absurd (omega (arith, e))

module _ (a b : Running) (m : Moves nothing nothing a b) where
  same_cursor : (d k : ℕ) → cursor_at b d k ≡ cursor_at a d k
  same_cursor d k = by (cursor_at a d k) refl
    where
      by : (o : Option Cursor) → cursor_at a d k ≡ o → cursor_at b d k ≡ cursor_at a d k
      by (Some c) is = m.others d k refl (ap count_open is)
      by None is =
          let shut : open_at a d k ≡ 0 = ap count_open is in
          let e : open_at b d k + 0 ≡ open_at a d k + 0 = m.balance d k in
          closed (cursor_at b d k) (omega (arith, shut, e)) ∙ sym is

  pub moves_quiet : EachSteps Quiet a.drivers b.drivers
  moves_quiet = record {
    size = m.drivers.size;
    each = λ i x y was is.
        let s = m.drivers.each i x y was is in
        record { keeps = s.keeps; attached = s.attached; cursors = fun_ext (λ k. sym (cursor_here b i k y is) ∙ same_cursor i k ∙ cursor_here a i k x was) };
  }
