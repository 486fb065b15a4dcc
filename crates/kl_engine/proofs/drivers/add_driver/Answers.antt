use Rattle.std.proofs.Common.{rules, ◌≡◌, ◌++◌, ◌∷◌, [], map, ap, ◌∙◌}
use Rattle.std.proofs.lemmas.List.{map_push}
use Rattle.kl_engine.proofs.DriverLemmas.{adds_driver}
use Rattle.kl_engine.proofs.drivers.add_driver.Goals as goal

pub returns-clause-added : goal.returns-clause-added
returns-clause-added g c =
    let items : c.push.new.self.items ≡ c.args.drivers.now.items ++ c.args.driver ∷ [] = first_of (search rules, cc) in
    adds_driver _ _ _ (ap (map _) items ∙ map_push _ _ _) c.requires.others c.requires.idle
