use Rattle.std.proofs.Common.{sym, subst}
use Rattle.kl_core.specs.Trees.{view}
use Rattle.kl_rules.specs.Rules.{RewriteRule}
use Rattle.kl_rules.specs.Rewriting.{RewritesBy}
use Rattle.kl_rules.proofs.table.rule.Goals as goal

pub returns-in-1 : goal.returns-in-1
returns-in-1 c = subst (λ n. RewritesBy (RewriteRule n) (view c.args.term.now) c.rule_1.result) (sym c.in-1.is) c.rule_1.ensures

pub returns-in-2 : goal.returns-in-2
returns-in-2 c = subst (λ n. RewritesBy (RewriteRule n) (view c.args.term.now) c.rule_2.result) (sym c.in-2.is) c.rule_2.ensures

pub returns-in-3 : goal.returns-in-3
returns-in-3 c = subst (λ n. RewritesBy (RewriteRule n) (view c.args.term.now) c.rule_3.result) (sym c.in-3.is) c.rule_3.ensures

pub returns-in-4 : goal.returns-in-4
returns-in-4 c = subst (λ n. RewritesBy (RewriteRule n) (view c.args.term.now) c.rule_4.result) (sym c.in-4.is) c.rule_4.ensures

pub returns-in-5 : goal.returns-in-5
returns-in-5 c = subst (λ n. RewritesBy (RewriteRule n) (view c.args.term.now) c.rule_5.result) (sym c.in-5.is) c.rule_5.ensures

pub returns-in-6 : goal.returns-in-6
returns-in-6 c = subst (λ n. RewritesBy (RewriteRule n) (view c.args.term.now) c.rule_6.result) (sym c.in-6.is) c.rule_6.ensures

pub returns-in-7 : goal.returns-in-7
returns-in-7 c = subst (λ n. RewritesBy (RewriteRule n) (view c.args.term.now) c.rule_7.result) (sym c.in-7.is) c.rule_7.ensures

pub returns-in-8 : goal.returns-in-8
returns-in-8 c = subst (λ n. RewritesBy (RewriteRule n) (view c.args.term.now) c.rule_8.result) (sym c.in-8.is) c.rule_8.ensures

pub returns-in-9 : goal.returns-in-9
returns-in-9 c = subst (λ n. RewritesBy (RewriteRule n) (view c.args.term.now) c.rule_9.result) (sym c.in-9.is) c.rule_9.ensures

pub returns-in-10 : goal.returns-in-10
returns-in-10 c = subst (λ n. RewritesBy (RewriteRule n) (view c.args.term.now) c.rule_10.result) (sym c.in-10.is) c.rule_10.ensures

pub returns-in-11 : goal.returns-in-11
returns-in-11 c = subst (λ n. RewritesBy (RewriteRule n) (view c.args.term.now) c.rule_11.result) (sym c.in-11.is) c.rule_11.ensures

pub returns-in-12 : goal.returns-in-12
returns-in-12 c = subst (λ n. RewritesBy (RewriteRule n) (view c.args.term.now) c.rule_12.result) (sym c.in-12.is) c.rule_12.ensures

pub returns-in-13 : goal.returns-in-13
returns-in-13 c = subst (λ n. RewritesBy (RewriteRule n) (view c.args.term.now) c.rule_13.result) (sym c.in-13.is) c.rule_13.ensures

pub returns-in-14 : goal.returns-in-14
returns-in-14 c = subst (λ n. RewritesBy (RewriteRule n) (view c.args.term.now) c.rule_14.result) (sym c.in-14.is) c.rule_14.ensures

pub returns-in-15 : goal.returns-in-15
returns-in-15 c = subst (λ n. RewritesBy (RewriteRule n) (view c.args.term.now) c.rule_15.result) (sym c.in-15.is) c.rule_15.ensures

pub returns-in-16 : goal.returns-in-16
returns-in-16 c = subst (λ n. RewritesBy (RewriteRule n) (view c.args.term.now) c.rule_16.result) (sym c.in-16.is) c.rule_16.ensures

pub returns-in-17 : goal.returns-in-17
returns-in-17 c = subst (λ n. RewritesBy (RewriteRule n) (view c.args.term.now) c.rule_17.result) (sym c.in-17.is) c.rule_17.ensures
