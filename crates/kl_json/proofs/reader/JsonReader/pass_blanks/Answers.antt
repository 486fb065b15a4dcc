use Rattle.std.proofs.Common.{◌≡◌, ◌≤◌, length, true, false, take, drop, subst, sym, ap, arith}
use Rattle.std.specs.List.{list_all}
use Rattle.kl_exchange.specs.Grammar.{is_blank}
use Rattle.kl_exchange.proofs.Reading.{blank_from}
use Rattle.kl_json.specs.Files.{starts_blank}
use Rattle.kl_json.proofs.reader.JsonReader.pass_blanks.Goals as goal

pub returns : goal.returns
returns c =
    let n = c.blanks-count.result in
    let all = c.args.self.now.items.text.left in
    let few : n ≤ length all = omega (arith, c.blanks-count.ensures.within, ap length c.left.ensures.left) in
    let left = ap (λ r. r.items.text.left) c.pass.ensures in (
      n,
      few,
      blank_from (take n all) (subst (λ l. list_all is_blank (take n l) ≡ true) c.left.ensures.left c.blanks-count.ensures.all),
      c.pass.ensures,
      subst (λ l. starts_blank l ≡ false) (sym left) (subst (λ l. starts_blank (drop n l) ≡ false) c.left.ensures.left c.blanks-count.ensures.behind),
    )
