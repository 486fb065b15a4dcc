use Rattle.std.proofs.Common.{[], length}
use Rattle.kl_phrase.specs.Readers.{others}
use Rattle.kl_phrase.proofs.Gathered.{Progress}
use Rattle.kl_lex.specs.declared.keyword.Keyword.TheVariants.{Define}
use Rattle.kl_parse.specs.Grammar.{whole}
use Rattle.kl_parse.specs.Kinds.{is_key}
use Rattle.kl_parse.specs.Descent.{read_pat, reads, decl}
use Rattle.kl_parse.proofs.program.decls.Given as goal

abbrev pub invariant-decls : goal.invariant-decls
invariant-decls l = Progress (is_key Define) (decl l.total (read_pat l.total l.depth) (reads l.total l.depth whole)) (others (is_key Define) (decl l.total (read_pat l.total l.depth) (reads l.total l.depth whole)) [] l.tokens) l.found.items l.rest

abbrev pub decreases-decls : goal.decreases-decls
decreases-decls l = length l.rest
