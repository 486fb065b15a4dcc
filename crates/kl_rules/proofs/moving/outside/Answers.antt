use Rattle.std.proofs.Common.{◌≡◌, ◌-◌, ◌^◌, min, false, true, sym, ap, subst, ◌∙◌, rules}
use Rattle.std.specs.Option.{is_some}
use Rattle.kl_core.specs.declared.term.Term.{Term}
use Rattle.kl_rules.specs.Rewriting.{IsEmptyCollection, Lowers}
use Rattle.kl_core.specs.Trees.{view}
use Rattle.kl_core.specs.Counts.{total_in, depth_of}
use Rattle.kl_rules.proofs.Forms.{Tested, promotes_unsure}
use Rattle.kl_rules.proofs.Moves.{outside_told}
use Rattle.kl_rules.proofs.moving.outside.Goals as goal

pub returns-then-not-is_total-2 : goal.returns-then-not-is_total-2
returns-then-not-is_total-2 c =
    let no_total : c.is_total-2.result ≡ false = search (rules, c.if-not-is_total-2.true) in
    let p : Tested c.args.term.now = record {
      kind = c.in-Ext.field-0;
      body = c.in-Ext.body;
      source = c.in-Ext.s;
      test = c.in-If.c;
      part = c.in-If.field-1;
      rest = c.in-If.e;
      loop = c.in-Ext.is;
      choice_is = sym c.get.ensures ∙ c.in-If.is;
    } in
    λ u h d. promotes_unsure c.args.term.now p (ap (λ x. total_in (view x)) (sym c.get-4.ensures) ∙ sym c.is_total-2.ensures ∙ no_total) u h

pub returns : goal.returns
returns c =
    let some : is_some c.empty_kind.result ≡ true = search (rules, c.is_none.ensures, c.if-is_none.false) in
    let drawn : c.is_total.result ≡ true = search (rules, c.if-not-is_total.false) in
    let test : c.is_total-2.result ≡ true = search (rules, c.if-not-is_total-2.false) in
    let p : Tested c.args.term.now = record {
      kind = c.in-Ext.field-0;
      body = c.in-Ext.body;
      source = c.in-Ext.s;
      test = c.in-If.c;
      part = c.in-If.field-1;
      rest = c.in-If.e;
      loop = c.in-Ext.is;
      choice_is = sym c.get.ensures ∙ c.in-If.is;
    } in
    outside_told c.args.most c.args.term.now p c.empty_kind.result c.depth.result c.lowered.result c.requires.within c.ranges.most.fits
    (subst (λ (x : Term). IsEmptyCollection (view x) c.empty_kind.result) c.get-2.ensures c.empty_kind.ensures)
    some
    (ap (λ x. total_in (view x)) (sym c.get-4.ensures) ∙ sym c.is_total-2.ensures ∙ test)
    (ap (λ x. total_in (view x)) (sym c.get-3.ensures) ∙ sym c.is_total.ensures ∙ drawn)
    (c.depth.ensures ∙ ap (λ (x : Term). min (depth_of (view x)) (2 ^ 64 - 1)) c.get-5.ensures)
    c.if-depth-most.false
    (subst (λ (x : Term). Lowers (view x) c.lowered.result) c.get-6.ensures c.lowered.ensures)
