use Rattle.std.proofs.Common.{◌≡◌, ◌∙◌, ap, not, sym, false, true, rules}
use Rattle.kl_value.specs.declared.Kind.TheVariants as kind
use Rattle.kl_rules.proofs.PlainTerms.{full_value, empty_value, record_value, variant_value, scalar_value}
use Rattle.kl_rules.proofs.plainness.+is_plain_value.Goals as goal

pub is_plain_value-returns-in-Rec : goal.is_plain_value-returns-in-Rec
is_plain_value-returns-in-Rec t c = record_value _ _ _ _ c.in-Rec.is c.slice.ensures c.are_plain_fields.ensures

pub is_plain_value-returns-in-Inj : goal.is_plain_value-returns-in-Inj
is_plain_value-returns-in-Inj t c = variant_value _ _ _ c.in-Inj.is

pub is_plain_value-returns-then-not-is_empty : goal.is_plain_value-returns-then-not-is_empty
is_plain_value-returns-then-not-is_empty t c =
    let full : c.is_empty.result ≡ false = search (rules, c.if-not-is_empty.true) in
    full_value kind.Set _ _ _ _ _ c.in-Set.is c.slice-then-not-is_empty.ensures c.is_empty.ensures full c.are_plain_values.ensures

pub is_plain_value-returns-else-not-is_empty : goal.is_plain_value-returns-else-not-is_empty
is_plain_value-returns-else-not-is_empty t c =
    let none : c.is_empty.result ≡ true = search (rules, c.if-not-is_empty.false) in
    ap not none ∙ sym (empty_value kind.Set _ _ _ c.in-Set.is c.is_empty.ensures none)

pub is_plain_value-returns-then-not-is_empty-2 : goal.is_plain_value-returns-then-not-is_empty-2
is_plain_value-returns-then-not-is_empty-2 t c =
    let full : c.is_empty-in-Bag.result ≡ false = search (rules, c.if-not-is_empty-2.true) in
    full_value kind.Bag _ _ _ _ _ c.in-Bag.is c.slice-then-not-is_empty-2.ensures c.is_empty-in-Bag.ensures full c.are_plain_values-then-not-is_empty-2.ensures

pub is_plain_value-returns-else-not-is_empty-2 : goal.is_plain_value-returns-else-not-is_empty-2
is_plain_value-returns-else-not-is_empty-2 t c =
    let none : c.is_empty-in-Bag.result ≡ true = search (rules, c.if-not-is_empty-2.false) in
    ap not none ∙ sym (empty_value kind.Bag _ _ _ c.in-Bag.is c.is_empty-in-Bag.ensures none)

pub is_plain_value-returns-then-not-is_empty-3 : goal.is_plain_value-returns-then-not-is_empty-3
is_plain_value-returns-then-not-is_empty-3 t c =
    let full : c.is_empty-in-List.result ≡ false = search (rules, c.if-not-is_empty-3.true) in
    full_value kind.List _ _ _ _ _ c.in-List.is c.slice-then-not-is_empty-3.ensures c.is_empty-in-List.ensures full c.are_plain_values-then-not-is_empty-3.ensures

pub is_plain_value-returns-else-not-is_empty-3 : goal.is_plain_value-returns-else-not-is_empty-3
is_plain_value-returns-else-not-is_empty-3 t c =
    let none : c.is_empty-in-List.result ≡ true = search (rules, c.if-not-is_empty-3.false) in
    ap not none ∙ sym (empty_value kind.List _ _ _ c.in-List.is c.is_empty-in-List.ensures none)

pub is_plain_value-returns-in-Bool : goal.is_plain_value-returns-in-Bool
is_plain_value-returns-in-Bool t c = scalar_value _ c.in-Bool.is

pub is_plain_value-returns-in-Bool-2 : goal.is_plain_value-returns-in-Bool-2
is_plain_value-returns-in-Bool-2 t c = scalar_value _ c.in-Bool.is

pub is_plain_value-returns-in-Bool-3 : goal.is_plain_value-returns-in-Bool-3
is_plain_value-returns-in-Bool-3 t c = scalar_value _ c.in-Bool.is
