-- How a program is run for which no settings are given.
use Rattle.std.specs.Prelude.{true}
use Rattle.kl_ask.specs.declared.settings.Settings.{Settings}
use Rattle.kl_ask.specs.declared.settings.JoinHow.TheVariants as join

abbrev pub usual_settings : Settings
usual_settings = record { block = 256; fetch = 64; cache = 64; join = join.Index; rewrite = true; delegate = true }
