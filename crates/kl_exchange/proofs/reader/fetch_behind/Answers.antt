use Rattle.std.proofs.Common.{◌≡◌, ◌+◌, length, take, ap, ◌∙◌, arith, rules}
use Rattle.kl_exchange.proofs.Fetching.{fetched_behind, put_behind, filled_front}
use Rattle.kl_exchange.proofs.reader.fetch_behind.Goals as goal

pub returns-in-Ok : goal.returns-in-Ok
returns-in-Ok g c =
    let size : c.len-before.result ≡ length c.args.bytes.now.items = c.len-before.ensures ∙ c.args.bytes.now.ok.0 in
    let end : c.in-Some.end ≡ c.len-before.result + c.args.most = search rules in
    let room : c.resize.new.self.len ≡ c.in-Some.end = c.in_ok-resize.ensures.len in
    let whole : length c.deref_mut.result.now ≡ c.resize.new.self.len = c.deref_mut.ensures.len in
    let into : length c.read.new.into ≡ c.args.most = search rules in
    let within = c.in-Ok.ensures.within in
    fetched_behind _ _ _ _ _ _ _ _ c.in-Ok.ensures
    (c.truncate.ensures.items
    ∙ put_behind c.args.bytes.now.items c.deref_mut.result.now c.read.new.into _ _ c.len-before.result c.in-Ok.count c.resize.new.self.len
    (ap (take c.len-before.result) (c.deref_mut.ensures.value ∙ c.in_ok-resize.ensures.items) ∙ filled_front _ _ c.in-Some.end _ size (omega arith)) size within (omega arith))
    into
