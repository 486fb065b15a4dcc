use Rattle.std.proofs.Common.{subst}
use Rattle.kl_base.specs.Fields.{IsFieldsOf}
use Rattle.kl_json.proofs.Records.{made, refused}
use Rattle.kl_json.proofs.meaning.record.Goals as goal

pub returns-in-Some : goal.returns-in-Some
returns-in-Some c = made c.args.pairs.items c.in-Some.fields (subst (IsFieldsOf c.args.pairs.items) c.in-Some.is c.in_ok-fields.ensures)

pub returns-in-None : goal.returns-in-None
returns-in-None c = refused c.args.pairs.items (subst (IsFieldsOf c.args.pairs.items) c.in-None.is c.in_ok-fields.ensures)
