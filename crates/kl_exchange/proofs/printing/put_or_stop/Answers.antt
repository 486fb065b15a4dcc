use Rattle.std.proofs.Common.{ap, ◌∙◌}
use Rattle.kl_exchange.proofs.Printed.{on_err, wrote_page}
use Rattle.kl_exchange.proofs.printing.put_or_stop.Goals as goal

pub returns : goal.returns
returns g c =
    let same = on_err c.try_extend_from_slice.result c.is_ok.result c.is_ok.ensures.value c.if-is_ok.false c.try_extend_from_slice.ensures.err in
    let none = on_err c.try_extend_from_slice-2.result c.is_ok-2.result c.is_ok-2.ensures.value c.if-is_ok-2.false c.try_extend_from_slice-2.ensures.err in
    wrote_page c.args.bytes.now.items c.as_slice.result.now c.try_extend_from_slice.new.self.items c.args.piece.now c.try_extend_from_slice-2.new.self.items
    c.in-Ok.field-0 c.write_whole-2.result _ _ _ c.as_slice.ensures.value (ap (λ a. a.items) same) (ap (λ a. a.items) none ∙ c.clear.ensures)
    c.in-Ok.ensures c.write_whole-2.ensures
