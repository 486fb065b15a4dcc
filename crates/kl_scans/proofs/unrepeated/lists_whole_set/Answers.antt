use Rattle.std.proofs.Common.{sym, ◌∙◌}
use Rattle.kl_scans.proofs.Repeats.{none_goes, none_listed, none_yet, whole_listed}
use Rattle.kl_scans.proofs.unrepeated.lists_whole_set.Goals as goal

pub returns-then-is_whole_set-clause-yes : goal.returns-then-is_whole_set-clause-yes
returns-then-is_whole_set-clause-yes c e = whole_listed _ c.args.scan.now _ _ c.sources-test.true c.source-item.is (c.is_whole_set.ensures.yes c.if-is_whole_set.true)

pub sources-init : goal.sources-init
sources-init c = none_yet _ c.args.scan.now

pub sources-preserved : goal.sources-preserved
sources-preserved c = none_goes _ c.args.scan.now _ _ c.sources-test.true c.source-item.is (λ h. let yes = c.is_whole_set.ensures.no h in let no = sym yes ∙ c.if-is_whole_set.false in absurd cc) c.sources.invariant

pub returns-clause-no : goal.returns-clause-no
returns-clause-no c h = absurd (none_listed _ c.args.scan.now _ c.sources-test.false c.sources.invariant h)
