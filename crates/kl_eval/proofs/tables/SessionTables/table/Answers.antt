use Rattle.std.proofs.Common.{◌<◌, subst}
use Rattle.std.proofs.lemmas.List.{length-map}
use Rattle.kl_eval.proofs.Reading.{entry, listed_within, driver_within, can_scan, tabled, bare_tabled}
use Rattle.kl_eval.proofs.tables.SessionTables.table.Goals as goal

pub bounds-slice-source : goal.bounds-slice-source
bounds-slice-source g c = listed_within _ _ _ c.slice.ensures c.requires.there

pub scan_attached-requires-clause-place : goal.scan_attached-requires-clause-place
scan_attached-requires-clause-place g c = subst (λ n. c.in-Some.place < n) (length-map c.args.self.now.drivers.items _) (driver_within _ _ _ _ (entry _ _ _ _ c.slice.ensures c.index-slice-source.is c.requires.there) c.in-Some.is c.requires.there c.requires.ready)

pub scan_attached-requires-clause-can : goal.scan_attached-requires-clause-can
scan_attached-requires-clause-can g c = can_scan _ _ _ _ (entry _ _ _ _ c.slice.ensures c.index-slice-source.is c.requires.there) c.in-Some.is c.requires.there c.requires.ready

pub returns-in-Some : goal.returns-in-Some
returns-in-Some g c = tabled _ _ _ _ _ _ (entry _ _ _ _ c.slice.ensures c.index-slice-source.is c.requires.there) c.in-Some.is c.requires.there c.requires.ready c.scan_attached.ensures

pub returns-in-None : goal.returns-in-None
returns-in-None g c = bare_tabled _ _ _ (entry _ _ _ _ c.slice.ensures c.index-slice-source.is c.requires.there) c.in-None.is c.requires.ready _ c.no_rows.ensures
