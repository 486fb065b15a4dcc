use Rattle.std.proofs.Common.{◌<◌, ◌++◌, List, codes, length, map, refl, sym, ap, subst, ◌∙◌, arith, take_all}
use Rattle.std.specs.List.{AllByRecursion, flat_map}
use Rattle.kl_value.specs.Written.{text_of, byte_text, with_commas}
use Rattle.kl_value.specs.declared.Kind.TheVariants as kind
use Rattle.kl_value.specs.declared.Value.{Value}
use Rattle.kl_exchange.specs.Printing.{field_text}
use Rattle.kl_exchange.specs.Stored.{IsStored}
use Rattle.kl_exchange.proofs.Pairs.{Pair}
use Rattle.kl_exchange.proofs.Printed.{prints_none, then, shown, item_more}
use Rattle.kl_exchange.proofs.StoredLemmas.{StoredField, all_more, bool_stored, int_stored, text_stored, variant_stored, record_stored, items_stored}
use Rattle.kl_exchange.proofs.TextLemmas.{text-Bool, text-Int, text-Text, text-Rec, text-Inj, text-Set, text-Bag, text-List}
use Rattle.kl_exchange.proofs.printing.+print.Goals as goal

pub print_fields-fields-init : goal.print_fields-fields-init
print_fields-fields-init g t c = (prints_none _ _ _, tt)

pub print_fields-fields-preserved : goal.print_fields-fields-preserved
print_fields-fields-preserved g t c =
    let within : c.fields.i < length c.args.fields.now = omega arith in (
      item_more field_text c.args.fields.now c.fields.i c.index-fields-i.result within c.index-fields-i.is c.separator.ensures
          (ap (λ l. (l ++ codes "=") ++ text_of c.index-fields-i.result.1) c.word.ensures.bytes)
          c.fields.invariant.0 c.put.ensures (then (then c.put-in-fields.ensures c.put-in-fields-2.ensures) c.print_value.ensures.prints),
      all_more StoredField c.args.fields.now c.fields.i c.index-fields-i.result within c.index-fields-i.is c.fields.invariant.1 (c.word.ensures.word, c.print_value.ensures.stored),
    )

pub print_fields-returns : goal.print_fields-returns
print_fields-returns g t c =
    let whole = take_all c.fields.i c.args.fields.now c.fields-test.false in
    record {
      prints = shown (with_commas (map field_text c.args.fields.now)) (ap (λ fs. with_commas (map field_text fs)) (sym whole)) c.fields.invariant.0;
      stored = subst (AllByRecursion StoredField) whole c.fields.invariant.1;
    }

pub print_items-items-init : goal.print_items-items-init
print_items-items-init g t c = (prints_none _ _ _, tt)

pub print_items-items-preserved : goal.print_items-items-preserved
print_items-items-preserved g t c =
    let within : c.items.i < length c.args.items.now = omega arith in (
      item_more text_of c.args.items.now c.items.i c.index-items-i.result within c.index-items-i.is c.separator.ensures refl
          c.items.invariant.0 c.put.ensures c.print_value.ensures.prints,
      all_more IsStored c.args.items.now c.items.i c.index-items-i.result within c.index-items-i.is c.items.invariant.1 c.print_value.ensures.stored,
    )

pub print_items-returns : goal.print_items-returns
print_items-returns g t c =
    let whole = take_all c.items.i c.args.items.now c.items-test.false in
    record {
      prints = shown (with_commas (map text_of c.args.items.now)) (ap (λ vs. with_commas (map text_of vs)) (sym whole)) c.items.invariant.0;
      stored = subst (AllByRecursion IsStored) whole c.items.invariant.1;
    }

pub print_value-returns-in-Bool : goal.print_value-returns-in-Bool
print_value-returns-in-Bool g t c = record {
  prints = shown (text_of c.args.v.now) (ap text_of c.in-Bool.is ∙ text-Bool _) c.print_word.ensures;
  stored = bool_stored c.args.v.now _ c.in-Bool.is;
}

pub print_value-returns-in-Int : goal.print_value-returns-in-Int
print_value-returns-in-Int g t c = record {
  prints = shown (text_of c.args.v.now) (ap text_of c.in-Int.is ∙ text-Int _) c.print_number.ensures.prints;
  stored = int_stored c.args.v.now _ c.in-Int.is c.print_number.ensures.fits;
}

pub print_value-returns-in-Text : goal.print_value-returns-in-Text
print_value-returns-in-Text g t c = record {
  prints = shown (text_of c.args.v.now)
      (ap text_of c.in-Text.is ∙ (text-Text _ ∙ ap (λ bs. (codes "\"" ++ flat_map byte_text bs) ++ codes "\"") (sym c.slice.ensures)))
      c.print_text.ensures;
  stored = text_stored c.args.v.now _ c.in-Text.is;
}

pub print_value-returns-in-Rec : goal.print_value-returns-in-Rec
print_value-returns-in-Rec g t c = record {
  prints = shown (text_of c.args.v.now)
      (ap text_of c.in-Rec.is ∙ (text-Rec _ ∙ ap (λ (fs : List Pair). (codes "[" ++ with_commas (map field_text fs)) ++ codes "]") (sym c.slice-in-Rec.ensures)))
      (then (then c.put.ensures c.print_fields.ensures.prints) c.put-in-Rec.ensures);
  stored = record_stored c.args.v.now _ c.in-Rec.is (subst (AllByRecursion StoredField) c.slice-in-Rec.ensures c.print_fields.ensures.stored);
}

pub print_value-returns-in-Inj : goal.print_value-returns-in-Inj
print_value-returns-in-Inj g t c = record {
  prints = shown (text_of c.args.v.now)
      (ap text_of c.in-Inj.is
      ∙ (text-Inj _ _
      ∙ (ap (λ l. (((codes "<" ++ l) ++ codes "=") ++ text_of c.in-Inj.inner) ++ codes ">") (sym c.word.ensures.bytes)
      ∙ ap (λ w. (((codes "<" ++ c.word.result.now) ++ codes "=") ++ text_of w) ++ codes ">") (sym c.get.ensures))))
      (then (then (then (then c.put-in-Inj.ensures c.put-in-Inj-2.ensures) c.put-in-Inj-3.ensures) c.print_value.ensures.prints) c.put-in-Inj-4.ensures);
  stored = variant_stored c.args.v.now _ _ c.in-Inj.is c.word.ensures.word (subst IsStored c.get.ensures c.print_value.ensures.stored);
}

pub print_value-returns-in-Set : goal.print_value-returns-in-Set
print_value-returns-in-Set g t c = record {
  prints = shown (text_of c.args.v.now)
      (ap text_of c.in-Set.is ∙ (text-Set _ ∙ ap (λ (vs : List Value). (codes "{" ++ with_commas (map text_of vs)) ++ codes "}") (sym c.slice-in-Set.ensures)))
      (then (then c.put-in-Set.ensures c.print_items.ensures.prints) c.put-in-Set-2.ensures);
  stored = items_stored kind.Set c.args.v.now _ c.in-Set.is (subst (AllByRecursion IsStored) c.slice-in-Set.ensures c.print_items.ensures.stored);
}

pub print_value-returns-in-Bag : goal.print_value-returns-in-Bag
print_value-returns-in-Bag g t c = record {
  prints = shown (text_of c.args.v.now)
      (ap text_of c.in-Bag.is ∙ (text-Bag _ ∙ ap (λ (vs : List Value). (codes "{|" ++ with_commas (map text_of vs)) ++ codes "|}") (sym c.slice-in-Bag.ensures)))
      (then (then c.put-in-Bag.ensures c.print_items-in-Bag.ensures.prints) c.put-in-Bag-2.ensures);
  stored = items_stored kind.Bag c.args.v.now _ c.in-Bag.is (subst (AllByRecursion IsStored) c.slice-in-Bag.ensures c.print_items-in-Bag.ensures.stored);
}

pub print_value-returns-in-List : goal.print_value-returns-in-List
print_value-returns-in-List g t c = record {
  prints = shown (text_of c.args.v.now)
      (ap text_of c.in-List.is ∙ (text-List _ ∙ ap (λ (vs : List Value). (codes "[|" ++ with_commas (map text_of vs)) ++ codes "|]") (sym c.slice-in-List.ensures)))
      (then (then c.put-in-List.ensures c.print_items-in-List.ensures.prints) c.put-in-List-2.ensures);
  stored = items_stored kind.List c.args.v.now _ c.in-List.is (subst (AllByRecursion IsStored) c.slice-in-List.ensures c.print_items-in-List.ensures.stored);
}
