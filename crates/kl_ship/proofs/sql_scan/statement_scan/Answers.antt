use Rattle.std.proofs.Common.{◌≡◌, length, slice_get, Some, refl, sym, subst, ◌∙◌, arith}
use Rattle.std.proofs.lemmas.Option.{slice_get_read}
use Rattle.std.specs.Option.{option_map}
use Rattle.kl_core.specs.Trees.{view}
use Rattle.kl_ship.specs.Shipping.{IsStated}
use Rattle.kl_ship.proofs.SqlScans.{may_state, few_tables, stated_scan}
use Rattle.kl_ship.proofs.sql_scan.statement_scan.Goals as goal

pub statement-requires : goal.statement-requires
statement-requires c =
    let at : slice_get c.args.sources.now c.args.place ≡ Some c.index-sources-place.result = slice_get_read c.args.sources.now (length c.args.sources.now) c.args.place c.index-sources-place.result refl c.requires.listed c.index-sources-place.is in
    record {
      sources = c.requires.sources;
      proper = c.requires.proper;
      asked = may_state c.args.sources.now c.args.place c.index-sources-place.result c.args.kind (view c.args.body.now) at c.requires.sense (c.requires.joins c.index-sources-place.result at);
      few = let h = c.requires.few in omega (arith, h);
    }

pub packed_more-requires : goal.packed_more-requires
packed_more-requires c =
    record { few = few_tables c.args.sources.now c.index-sources-place.result c.args.kind (view c.args.body.now) c.in_ok-stated.stated.text c.in_ok-stated.stated.columns c.in_ok-stated.stated.all.items c.in_ok-stated.stated.select (view c.in_ok-stated.stated.body.now) c.in_ok-stated.ensures c.requires.few }

pub returns : goal.returns
returns c s here =
    let at : slice_get c.args.sources.now c.args.place ≡ Some c.index-sources-place.result = slice_get_read c.args.sources.now (length c.args.sources.now) c.args.place c.index-sources-place.result refl c.requires.listed c.index-sources-place.is in
    let same : Some c.index-sources-place.result ≡ Some s = sym at ∙ here in
    let is : c.index-sources-place.result ≡ s = cc in
    subst (λ x. IsStated c.args.sources.now x c.args.kind (view c.args.body.now) c.args.number c.in_ok-new.field-0 (option_map view c.in_ok-packed.packed)) is
    (stated_scan c.args.sources.now c.index-sources-place.result c.args.kind (view c.args.body.now) c.in_ok-stated.stated.text c.in_ok-stated.stated.columns c.in_ok-stated.stated.all.items c.in_ok-stated.stated.select (view c.in_ok-stated.stated.body.now) c.in_ok-stated.ensures
    c.args.number c.in_ok-scan.scan c.in_ok-new.field-0 (option_map view c.in_ok-packed.packed) c.in_ok-new.ensures c.in_ok-scan.ensures.scan c.in_ok-scan.ensures.ask c.in_ok-packed.ensures)
