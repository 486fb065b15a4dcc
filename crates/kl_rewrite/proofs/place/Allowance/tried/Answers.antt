use Rattle.kl_rewrite.proofs.OnePlace.{promoted, exchanged}
use Rattle.kl_rewrite.proofs.place.Allowance.tried.Goals as goal

pub returns-in-3 : goal.returns-in-3
returns-in-3 c = promoted c.args.level c.args.number c.args.term.now c.promote.new.term c.promote.result c.args.self.now c.in-3.is c.requires.searchable c.requires.least c.promote.ensures.moves

pub returns-in-17 : goal.returns-in-17
returns-in-17 c = exchanged c.args.level c.args.number c.args.term.now c.exchange.new.term c.exchange.result c.args.self.now c.in-17.is c.requires.searchable c.requires.least c.exchange.ensures
