use Rattle.std.proofs.Common.{◌≡◌, ap, ◌∙◌, rules}
use Rattle.json.specs.Lex.{tokens}
use Rattle.json.specs.Print.{print}
use Rattle.json.specs.Tree.{json_tokens}
use Rattle.kl_json.specs.Written.{json_of}
use Rattle.kl_json.proofs.WrittenLemmas.{read_whole}
use Rattle.kl_json.proofs.written.json_text.Goals as goal

pub returns-in-Ok-clause-reads_back : goal.returns-in-Ok-clause-reads_back
returns-in-Ok-clause-reads_back c shallow =
    let j = json_of c.args.v.now in
    let all = c.write_value.new.writer.tokens in
    let text : c.into_inner.result.items ≡ print all = search rules in
    let whole : all ≡ json_tokens j = search rules in
    read_whole j c.into_inner.result.items (ap tokens text ∙ c.into_inner.ensures.reads_back ∙ whole) shallow
