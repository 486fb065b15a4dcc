use Rattle.std.proofs.Common.{sym}
use Rattle.kl_core.proofs.Made.{made_of_two, made_of_three}
use Rattle.kl_core.proofs.copy.+copy.Goals as goal

pub copy-returns-in-Case : goal.copy-returns-in-Case
copy-returns-in-Case t c =
    made_of_three _ _ _ _ _ _ _ _ _ c.case.ensures c.copy_box-in-Case.ensures c.copy_fields-in-Case.ensures c.copy_other.ensures
    (λ x qs d g h i. rw (g, h, c.slice-in-Case.ensures, i) (sym c.in-Case.is))

pub copy-returns-in-Union : goal.copy-returns-in-Union
copy-returns-in-Union t c = made_of_two _ c.copy_box-in-Union.result c.copy_box-in-Union-2.result c.union.result _ _ _ c.union.ensures c.copy_box-in-Union.ensures c.copy_box-in-Union-2.ensures (λ x y h i. rw (h, i) (sym c.in-Union.is))

pub copy-returns-in-Ext : goal.copy-returns-in-Ext
copy-returns-in-Ext t c = made_of_two _ c.copy_box-in-Ext.result c.copy_box-in-Ext-2.result c.extension.result _ _ _ c.extension.ensures c.copy_box-in-Ext.ensures c.copy_box-in-Ext-2.ensures (λ x y h i. rw (h, i) (sym c.in-Ext.is))

pub copy-returns-in-If : goal.copy-returns-in-If
copy-returns-in-If t c =
    made_of_three _ _ _ _ _ _ _ _ _ c.test.ensures c.copy_box-in-If.ensures c.copy_box-in-If-2.ensures c.copy_box-in-If-3.ensures (λ x y z h i j. rw (h, i, j) (sym c.in-If.is))

pub copy-returns-in-Let : goal.copy-returns-in-Let
copy-returns-in-Let t c = made_of_two _ c.copy_box-in-Let.result c.copy_box-in-Let-2.result c.binding.result _ _ _ c.binding.ensures c.copy_box-in-Let.ensures c.copy_box-in-Let-2.ensures (λ x y h i. rw (h, i) (sym c.in-Let.is))
