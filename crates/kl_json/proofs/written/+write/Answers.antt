use Rattle.std.proofs.Common.{◌∷◌, [], ◌++◌, sym, ap, ◌∙◌}
use Rattle.json.specs.Token.{begin_object, end_object, key}
use Rattle.json.specs.Tree.{json_tokens}
use Rattle.kl_json.specs.Written.{json_of}
use Rattle.kl_json.proofs.WrittenLemmas.{json-Inj, wrapped}
use Rattle.kl_json.proofs.written.+write.Goals as goal

pub write_value-returns-in_ok-end_object-in-Inj-clause-ok : goal.write_value-returns-in_ok-end_object-in-Inj-clause-ok
write_value-returns-in_ok-end_object-in-Inj-clause-ok t c =
    let old = c.args.writer.now.tokens in
    let l = c.in-Inj.label in
    let v = c.in-Inj.inner in
    let inner = json_tokens (json_of v) in
    let named = c.in_ok-write_label-in-Inj.ensures.ok ∙ ap (λ ts. ts ++ key l ∷ []) c.in_ok-begin_object-in-Inj.ensures.ok in
    let valued = c.in_ok-write_value-in-Inj.ensures.ok ∙ ap (λ w. c.write_label.new.writer.tokens ++ json_tokens (json_of w)) c.get.ensures ∙ ap (λ ts. ts ++ inner) named in
    c.in_ok-end_object-in-Inj.ensures.ok ∙ ap (λ ts. ts ++ end_object ∷ []) valued ∙ wrapped old inner begin_object (key l) end_object
    ∙ ap (λ j. old ++ json_tokens j) (sym (ap json_of c.in-Inj.is ∙ json-Inj l v))
