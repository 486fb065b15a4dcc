use Rattle.std.proofs.Common.{rules, ◌≡◌, ◌++◌, ◌∷◌, [], map, ap, ◌∙◌}
use Rattle.std.proofs.lemmas.List.{map_push}
use Rattle.kl_why.proofs.Idle.{none_more}
use Rattle.kl_why.proofs.drivers.add_driver.Goals as goal

pub returns-clause-clear : goal.returns-clause-clear
returns-clause-clear g c =
    let items : c.push.new.self.items ≡ c.args.drivers.now.items ++ c.args.driver ∷ [] = first_of (search rules, cc) in
    none_more _ _ _ (ap (map _) items ∙ map_push _ _ _) c.requires.clear c.requires.fresh
