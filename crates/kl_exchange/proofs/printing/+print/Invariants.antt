use Rattle.std.proofs.Common.{map, take, IsTrue}
use Rattle.std.specs.List.{AllByRecursion}
use Rattle.kl_base.specs.Word.{is_word}
use Rattle.kl_value.specs.Written.{text_of, with_commas}
use Rattle.kl_exchange.specs.Printing.{Prints, field_text}
use Rattle.kl_exchange.specs.Stored.{IsStored}
use Rattle.kl_exchange.proofs.printing.+print.Given as goal

abbrev pub invariant-print_fields-fields : goal.invariant-print_fields-fields
invariant-print_fields-fields g l =
    (Prints (with_commas (map field_text (take l.i l.fields))) (g.S.Sink.state l.fn.sink) l.fn.page.bytes.items l.fn.page.stop
    (g.S.Sink.state l.sink) l.page.bytes.items l.page.stop)
    × AllByRecursion (λ f. IsTrue (is_word f.0) × IsStored f.1) (take l.i l.fields)

abbrev pub invariant-print_items-items : goal.invariant-print_items-items
invariant-print_items-items g l =
    (Prints (with_commas (map text_of (take l.i l.items))) (g.S.Sink.state l.fn.sink) l.fn.page.bytes.items l.fn.page.stop
    (g.S.Sink.state l.sink) l.page.bytes.items l.page.stop)
    × AllByRecursion IsStored (take l.i l.items)
