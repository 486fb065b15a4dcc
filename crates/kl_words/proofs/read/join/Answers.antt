use Rattle.std.proofs.Common.{◌∙◌, ap, codes, Option, Some}
use Rattle.std.specs.Option.{option_map_or}
use Rattle.clap.specs.Words.{Text, found_of}
use Rattle.clap.proofs.WalkLemmas.{first_value-rows}
use Rattle.kl_ask.specs.declared.settings.JoinHow.TheVariants as join
use Rattle.kl_ask.specs.declared.settings.Settings.{Settings}
use Rattle.kl_words.specs.Commands.{join_named}
use Rattle.kl_words.proofs.read.join.Goals as goal

pub returns-in-Some : goal.returns-in-Some
returns-in-Some c = c.join_name.ensures
    ∙ ap (λ (o : Option Text). option_map_or join_named o (Some join.Index)) (c.in-Some.ensures ∙ first_value-rows (found_of c.args.matches.now) (codes "join"))

pub returns-in-None : goal.returns-in-None
returns-in-None c =
    ap (λ (s : Settings). Some s.join) c.usual.ensures
    ∙ ap (λ (o : Option Text). option_map_or join_named o (Some join.Index)) (c.in-None.ensures ∙ first_value-rows (found_of c.args.matches.now) (codes "join"))
