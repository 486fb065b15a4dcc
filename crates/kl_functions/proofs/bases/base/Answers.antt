use Rattle.kl_functions.proofs.Basing.{first_free, then_old, then_defined, tried_more}
use Rattle.kl_functions.proofs.bases.base.Goals as goal

pub returns-then-not-is_begun-clause-first : goal.returns-then-not-is_begun-clause-first
returns-then-not-is_begun-clause-first c =
    first_free c.word_of.result c.args.program.now.defs c.slice-defs.result.now c.args.sources.now c.tries.bytes.items c.deref.result.now c.deref-then-not-is_begun.result.now c.slice-defs.ensures c.deref.ensures.value c.deref-then-not-is_begun.ensures.value
    c.if-not-is_begun.ensures c.tries.invariant c.word_of.ensures

pub returns-then-not-is_begun-clause-first_old : goal.returns-then-not-is_begun-clause-first_old
returns-then-not-is_begun-clause-first_old c =
    then_old c.word_of.result c.args.program.now.defs c.args.sources.now
    (first_free c.word_of.result c.args.program.now.defs c.slice-defs.result.now c.args.sources.now c.tries.bytes.items c.deref.result.now c.deref-then-not-is_begun.result.now c.slice-defs.ensures c.deref.ensures.value c.deref-then-not-is_begun.ensures.value
    c.if-not-is_begun.ensures c.tries.invariant c.word_of.ensures)

pub returns-then-not-is_begun-clause-defines_old : goal.returns-then-not-is_begun-clause-defines_old
returns-then-not-is_begun-clause-defines_old c =
    then_defined c.word_of.result c.args.program.now.defs c.args.sources.now
    (first_free c.word_of.result c.args.program.now.defs c.slice-defs.result.now c.args.sources.now c.tries.bytes.items c.deref.result.now c.deref-then-not-is_begun.result.now c.slice-defs.ensures c.deref.ensures.value c.deref-then-not-is_begun.ensures.value
    c.if-not-is_begun.ensures c.tries.invariant c.word_of.ensures)

pub tries-preserved : goal.tries-preserved
tries-preserved c = tried_more c.slice-defs.result.now c.args.sources.now c.tries.bytes.items _ c.deref.result.now c.deref.ensures.value c.in_ok-insert.ensures.items c.if-not-is_begun.ensures c.tries.invariant
