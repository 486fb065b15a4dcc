use Rattle.std.proofs.Common.{◌≡◌, length, arith}
use Rattle.kl_forms.proofs.Shapes.{no_primitive, by_one, by_two, not_so_many, shape_called}
use Rattle.kl_forms.proofs.primitives.applied.Goals as goal

pub returns-in_default : goal.returns-in_default
returns-in_default c = no_primitive _ _ _ _ c.requires.fine c.in_default.ensures.row

pub returns-in_ok-holds-in-len1 : goal.returns-in_ok-holds-in-len1
returns-in_ok-holds-in-len1 c =
    let size : length c.args.args.now ≡ 1 = omega arith in
    by_one c.args.u.now.cells.items c.args.code c.args.want c.args.args.now _ c.in-Some.ensures.row _ _ size c.in_ok-holds-in-len1.ensures

pub returns-in_ok-holds-in-len2 : goal.returns-in_ok-holds-in-len2
returns-in_ok-holds-in-len2 c =
    let size : length c.args.args.now ≡ 2 = omega arith in
    by_two c.args.u.now.cells.items c.args.code c.args.want c.args.args.now _ c.in-Some.ensures.row _ _ size c.in_ok-holds-in-len2.ensures

pub returns-in_default-args : goal.returns-in_default-args
returns-in_default-args c = not_so_many c.args.u.now.cells.items c.args.code c.args.want c.args.args.now _ c.in-Some.ensures.row c.requires.fine (λ e. omega arith) (λ e. omega arith)

pub returns-in_default-args-2 : goal.returns-in_default-args-2
returns-in_default-args-2 c = not_so_many c.args.u.now.cells.items c.args.code c.args.want c.args.args.now _ c.in-Some.ensures.row c.requires.fine (λ e. omega arith) (λ e. omega arith)

pub takes_two-requires-clause-called : goal.takes_two-requires-clause-called
takes_two-requires-clause-called c = shape_called c.args.code _ c.in-Some.ensures.row c.requires.called
