use Rattle.std.proofs.Common.{Ok, Err, rules, subst}
use Rattle.kl_flat.specs.Attaching.{ReadsRows}
use Rattle.kl_flat.specs.ColumnTable.{rows_of}
use Rattle.kl_flat.proofs.Attaching.{attach_done, attach_refused, attach_stopped, read_rows_fit}
use Rattle.kl_flat.proofs.driver.FlatDriverDriver.attach.Goals as goal

pub add_source-requires : goal.add_source-requires
add_source-requires g c = read_rows_fit c.slice.result.now c.args.ty.now (rows_of c.in-Ok.table) _ _ c.in-Ok.ensures c.requires.suits c.requires.proper

pub returns-in-Err : goal.returns-in-Err
returns-in-Err g c =
    let f = g.F.Files.state c.args.self.now.files in
    let f' = g.F.Files.state c.table_of_file.new.files in
    let read = subst (λ path. ReadsRows path c.args.ty.now (Err c.in-Err.error) f f') c.slice.ensures c.in-Err.ensures in
    attach_refused c.args.source.now c.args.locator.now c.args.ty.now f f' c.args.self.now.sources _ _ _ c.args.self.now.unread c.in-Err.error _ read c.unread_by-self.ensures (search rules)

pub returns-in_err-add_source-in-Ok : goal.returns-in_err-add_source-in-Ok
returns-in_err-add_source-in-Ok g c =
    let f = g.F.Files.state c.args.self.now.files in
    let f' = g.F.Files.state c.table_of_file.new.files in
    let read = subst (λ path. ReadsRows path c.args.ty.now (Ok (rows_of c.in-Ok.table)) f f') c.slice.ensures c.in-Ok.ensures in
    attach_stopped c.args.source.now c.args.locator.now c.args.ty.now (rows_of c.in-Ok.table) c.from_residual.result f f' c.args.self.now.sources c.add_source.new.sources _ _ _ _ read c.in_err-add_source-in-Ok.ensures.refused (search rules)

pub returns-in_ok-add_source-in-Ok : goal.returns-in_ok-add_source-in-Ok
returns-in_ok-add_source-in-Ok g c =
    let f = g.F.Files.state c.args.self.now.files in
    let f' = g.F.Files.state c.table_of_file.new.files in
    let read = subst (λ path. ReadsRows path c.args.ty.now (Ok (rows_of c.in-Ok.table)) f f') c.slice.ensures c.in-Ok.ensures in
    let good = read_rows_fit c.slice.result.now c.args.ty.now (rows_of c.in-Ok.table) _ _ c.in-Ok.ensures c.requires.suits c.requires.proper in
    attach_done c.args.source.now c.args.locator.now c.args.ty.now (rows_of c.in-Ok.table) c.in_ok-add_source-in-Ok.field-0 f f' c.args.self.now.sources c.add_source.new.sources _ _ _ _ read c.in_ok-add_source-in-Ok.ensures.added good
