use Rattle.std.proofs.Common.{refl}
use Rattle.std.proofs.lemmas.Option.{slice_get_read}
use Rattle.kl_ship.proofs.Shipped.{scan_made}
use Rattle.kl_ship.proofs.shipping.reading.Goals as goal

pub returns-clause-becomes : goal.returns-clause-becomes
returns-clause-becomes c = λ on.
    scan_made on c.args.sources.now _ c.args.place _ _ _ _ _ _ (slice_get_read c.args.sources.now _ c.args.place c.index-sources-place.result refl c.requires.listed c.index-sources-place.is)
    c.next-here.ensures.before c.next-here.ensures.after c.scanning.ensures c.whole_scan.ensures.scan c.whole_scan.ensures.ask
