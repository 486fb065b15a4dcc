use Rattle.std.proofs.Common.{rules}
use Rattle.kl_joins.proofs.Kept.{put_made}
use Rattle.kl_joins.proofs.keeping.put.Goals as goal

pub returns : goal.returns
returns c = put_made c.replace.new.dest c.in_ok-made.field-0 c.args.made c.in_ok-made.was (first_of (cc, search rules))
