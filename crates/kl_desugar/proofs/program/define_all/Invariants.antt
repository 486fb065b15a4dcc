use Rattle.std.proofs.Common.{◌≡◌, length, map, reverse}
use Rattle.kl_syntax.specs.View.{decls_of}
use Rattle.kl_desugar.specs.Translation.{codes_first, codes_after}
use Rattle.kl_desugar.specs.States.{codes_of}
use Rattle.kl_desugar.proofs.program.define_all.Given as goal

abbrev pub invariant-defs : goal.invariant-defs
invariant-defs l =
    codes_after (decls_of (reverse (map (λ d. d.now) l.defs.items))) (codes_of l.codes)
    ≡ codes_after (decls_of (reverse (map (λ d. d.now) l.initial.defs.items))) (codes_first l.sources)

abbrev pub decreases-defs : goal.decreases-defs
decreases-defs l = length l.defs.items
