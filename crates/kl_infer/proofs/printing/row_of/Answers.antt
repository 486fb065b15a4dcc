use Rattle.std.proofs.Common.{rules, ◌≡◌, ◌++◌, ◌∷◌, [], Some, None, sym, subst}
use Rattle.kl_infer.specs.Rows.{front_of}
use Rattle.kl_infer.proofs.TreeLemmas.{some_at, front_tree}
use Rattle.kl_infer.specs.Printed.{tree_at}
use Rattle.kl_infer.proofs.RowLemmas.{OnRow, on_row_more, on_row_end}
use Rattle.kl_infer.proofs.printing.row_of.Goals as goal

pub row-smaller : goal.row-smaller
row-smaller c =
    let here = some_at c.args.parts.now c.row.end c.index-parts-end.result c.row.invariant.can.inside c.index-parts-end.is in
    let front : front_of c.index-parts-end.result ≡ Some (c.in-Some.front.label.now, (c.in-Some.front.item, c.in-Some.front.rest)) = first_of (search rules, cc) in
    (on_row_more c.args.parts.now c.args.place c.row.end c.row.fields.items _ _ _ c.index-parts-end.result c.row.invariant here (front_tree (tree_at c.args.parts.now) c.row.end _ _ front)).1

pub row-preserved : goal.row-preserved
row-preserved c =
    let here = some_at c.args.parts.now c.row.end c.index-parts-end.result c.row.invariant.can.inside c.index-parts-end.is in
    let front : front_of c.index-parts-end.result ≡ Some (c.in-Some.front.label.now, (c.in-Some.front.item, c.in-Some.front.rest)) = first_of (search rules, cc) in
    let more = (on_row_more c.args.parts.now c.args.place c.row.end c.row.fields.items _ _ _ c.index-parts-end.result c.row.invariant here (front_tree (tree_at c.args.parts.now) c.row.end _ _ front)).0 in
    let items : c.push.new.self.items ≡ c.row.fields.items ++ (c.in-Some.front.label.now, c.in-Some.front.item) ∷ [] = first_of (search rules, cc) in
    subst (λ fs. OnRow c.args.parts.now c.args.place fs c.in-Some.front.rest) (sym items) more

pub returns : goal.returns
returns c =
    let here = some_at c.args.parts.now c.row.end c.index-parts-end.result c.row.invariant.can.inside c.index-parts-end.is in
    let none : front_of c.index-parts-end.result ≡ None = first_of (search rules, cc) in
    on_row_end c.args.parts.now c.args.place c.row.end c.row.fields.items c.index-parts-end.result c.row.invariant here none
