use Rattle.std.proofs.Common.{◌≡◌, [], true, false, refl}
use Rattle.std.specs.Bool.{MatchBool}
use Rattle.csv.specs.Records.{fields_of}
use Rattle.kl_flat.specs.Records.{IsPlain, records_left}
use Rattle.kl_flat.proofs.Steps.{read-some, read-none}
use Rattle.kl_flat.proofs.records.next_record.Goals as goal

pub returns-clause-plain : goal.returns-clause-plain
returns-clause-plain c =
    let reads = c.in-Ok.ensures.reads c.requires.trims c.requires.ready in
    let f = fields_of c.read_byte_record.new.row in
    (elim c.in-Ok.found as (λ b. c.in-Ok.found ≡ b → MatchBool b (IsPlain c.read_byte_record.new.self) (records_left c.args.reader.now ≡ [])) [
      | true ↦ λ e. (read-some c.args.reader.now c.read_byte_record.new.self f c.requires (c.in-Ok.ensures.ready c.requires.trims) c.in-Ok.ensures.flexible (rw e at reads)).0
      | false ↦ λ e. read-none c.args.reader.now c.read_byte_record.new.self f c.requires (rw e at reads)
    ]) refl

pub returns-clause-record : goal.returns-clause-record
returns-clause-record c e =
    let r = rw e at (c.in-Ok.ensures.reads c.requires.trims c.requires.ready) in
    (read-some c.args.reader.now c.read_byte_record.new.self (fields_of c.read_byte_record.new.row) c.requires (c.in-Ok.ensures.ready c.requires.trims) c.in-Ok.ensures.flexible r).1
