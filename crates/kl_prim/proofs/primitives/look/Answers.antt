use Rattle.std.proofs.Common.{arith, refl, sym}
use Rattle.kl_prim.specs.Table.{Fits, meaning, row_at, rows}
use Rattle.kl_prim.proofs.TableLemmas.{◌&◌, answers_by, fits, means, no_row}
use Rattle.kl_prim.specs.Arguments.{values_in}
use Rattle.kl_prim.proofs.primitives.look.Goals as goal

pub equal-requires : goal.equal-requires
unfolding Fits row_at rows
equal-requires c = fits c.args.code 1 (values_in c.args.args.now) c.in-1.is c.requires.fits

pub unequal-requires : goal.unequal-requires
unfolding Fits row_at rows
unequal-requires c = fits c.args.code 2 (values_in c.args.args.now) c.in-2.is c.requires.fits

pub below-requires : goal.below-requires
unfolding Fits row_at rows
below-requires c = fits c.args.code 3 (values_in c.args.args.now) c.in-3.is c.requires.fits

pub at_most-requires : goal.at_most-requires
unfolding Fits row_at rows
at_most-requires c = fits c.args.code 4 (values_in c.args.args.now) c.in-4.is c.requires.fits

pub above-requires : goal.above-requires
unfolding Fits row_at rows
above-requires c = fits c.args.code 5 (values_in c.args.args.now) c.in-5.is c.requires.fits

pub at_least-requires : goal.at_least-requires
unfolding Fits row_at rows
at_least-requires c = fits c.args.code 6 (values_in c.args.args.now) c.in-6.is c.requires.fits

pub add-requires : goal.add-requires
unfolding Fits row_at rows
add-requires c = fits c.args.code 7 (values_in c.args.args.now) c.in-7.is c.requires.fits

pub subtract-requires : goal.subtract-requires
unfolding Fits row_at rows
subtract-requires c = fits c.args.code 8 (values_in c.args.args.now) c.in-8.is c.requires.fits

pub multiply-requires : goal.multiply-requires
unfolding Fits row_at rows
multiply-requires c = fits c.args.code 9 (values_in c.args.args.now) c.in-9.is c.requires.fits

pub negate-requires : goal.negate-requires
unfolding Fits row_at rows
negate-requires c = fits c.args.code 10 (values_in c.args.args.now) c.in-10.is c.requires.fits

pub complement-requires : goal.complement-requires
unfolding Fits row_at rows
complement-requires c = fits c.args.code 11 (values_in c.args.args.now) c.in-11.is c.requires.fits

pub join-requires : goal.join-requires
unfolding Fits row_at rows
join-requires c = fits c.args.code 12 (values_in c.args.args.now) c.in-12.is c.requires.fits

pub is_empty-requires : goal.is_empty-requires
unfolding Fits row_at rows
is_empty-requires c = fits c.args.code 13 (values_in c.args.args.now) c.in-13.is c.requires.fits

pub count-requires : goal.count-requires
unfolding Fits row_at rows
count-requires c = fits c.args.code 14 (values_in c.args.args.now) c.in-14.is c.requires.fits

pub sum-requires : goal.sum-requires
unfolding Fits row_at rows
sum-requires c = fits c.args.code 15 (values_in c.args.args.now) c.in-15.is c.requires.fits

pub member-requires-clause-fits : goal.member-requires-clause-fits
unfolding Fits row_at rows
member-requires-clause-fits c = fits c.args.code 16 (values_in c.args.args.now) c.in-16.is c.requires.fits

pub least-requires-clause-fits : goal.least-requires-clause-fits
unfolding Fits row_at rows
least-requires-clause-fits c = fits c.args.code 17 (values_in c.args.args.now) c.in-17.is c.requires.fits

pub greatest-requires-clause-fits : goal.greatest-requires-clause-fits
unfolding Fits row_at rows
greatest-requires-clause-fits c = fits c.args.code 18 (values_in c.args.args.now) c.in-18.is c.requires.fits

pub text_length-requires : goal.text_length-requires
unfolding Fits row_at rows
text_length-requires c = fits c.args.code 23 (values_in c.args.args.now) c.in-23.is c.requires.fits

pub begins_with-requires : goal.begins_with-requires
unfolding Fits row_at rows
begins_with-requires c = fits c.args.code 24 (values_in c.args.args.now) c.in-24.is c.requires.fits

pub to_int-requires : goal.to_int-requires
unfolding Fits row_at rows
to_int-requires c = fits c.args.code 25 (values_in c.args.args.now) c.in-25.is c.requires.fits

pub to_text-requires : goal.to_text-requires
unfolding Fits row_at rows
to_text-requires c = fits c.args.code 26 (values_in c.args.args.now) c.in-26.is c.requires.fits

pub finishes_with-requires : goal.finishes_with-requires
unfolding Fits row_at rows
finishes_with-requires c = fits c.args.code 30 (values_in c.args.args.now) c.in-30.is c.requires.fits

pub unreachable-requires : goal.unreachable-requires
unfolding rows
unreachable-requires c =
    no_row c.args.code (values_in c.args.args.now) (
    (λ e. omega arith) &
    (λ e. omega arith) &
    (λ e. omega arith) &
    (λ e. omega arith) &
    (λ e. omega arith) &
    (λ e. omega arith) &
    (λ e. omega arith) &
    (λ e. omega arith) &
    (λ e. omega arith) &
    (λ e. omega arith) &
    (λ e. omega arith) &
    (λ e. omega arith) &
    (λ e. omega arith) &
    (λ e. omega arith) &
    (λ e. omega arith) &
    (λ e. omega arith) &
    (λ e. omega arith) &
    (λ e. omega arith) &
    (λ e. c.requires.looks.0 (sym e)) &
    (λ e. c.requires.looks.1 (sym e)) &
    (λ e. c.requires.looks.2 (sym e)) &
    (λ e. c.requires.looks.3 (sym e)) &
    (λ e. omega arith) &
    (λ e. omega arith) &
    (λ e. omega arith) &
    (λ e. omega arith) &
    (λ e. c.requires.looks.4 (sym e)) &
    (λ e. c.requires.looks.5 (sym e)) &
    (λ e. c.requires.looks.6 (sym e)) &
    (λ e. omega arith) &
    tt) c.requires.fits

pub returns-in-1 : goal.returns-in-1
unfolding meaning row_at rows
returns-in-1 c = answers_by _ _ _ (means c.args.code 1 (values_in c.args.args.now) _ c.in-1.is refl) c.equal.ensures

pub returns-in-2 : goal.returns-in-2
unfolding meaning row_at rows
returns-in-2 c = answers_by _ _ _ (means c.args.code 2 (values_in c.args.args.now) _ c.in-2.is refl) c.unequal.ensures

pub returns-in-3 : goal.returns-in-3
unfolding meaning row_at rows
returns-in-3 c = answers_by _ _ _ (means c.args.code 3 (values_in c.args.args.now) _ c.in-3.is refl) c.below.ensures

pub returns-in-4 : goal.returns-in-4
unfolding meaning row_at rows
returns-in-4 c = answers_by _ _ _ (means c.args.code 4 (values_in c.args.args.now) _ c.in-4.is refl) c.at_most.ensures

pub returns-in-5 : goal.returns-in-5
unfolding meaning row_at rows
returns-in-5 c = answers_by _ _ _ (means c.args.code 5 (values_in c.args.args.now) _ c.in-5.is refl) c.above.ensures

pub returns-in-6 : goal.returns-in-6
unfolding meaning row_at rows
returns-in-6 c = answers_by _ _ _ (means c.args.code 6 (values_in c.args.args.now) _ c.in-6.is refl) c.at_least.ensures

pub returns-in-7 : goal.returns-in-7
unfolding meaning row_at rows
returns-in-7 c = answers_by _ _ _ (means c.args.code 7 (values_in c.args.args.now) _ c.in-7.is refl) c.add.ensures

pub returns-in-8 : goal.returns-in-8
unfolding meaning row_at rows
returns-in-8 c = answers_by _ _ _ (means c.args.code 8 (values_in c.args.args.now) _ c.in-8.is refl) c.subtract.ensures

pub returns-in-9 : goal.returns-in-9
unfolding meaning row_at rows
returns-in-9 c = answers_by _ _ _ (means c.args.code 9 (values_in c.args.args.now) _ c.in-9.is refl) c.multiply.ensures

pub returns-in-10 : goal.returns-in-10
unfolding meaning row_at rows
returns-in-10 c = answers_by _ _ _ (means c.args.code 10 (values_in c.args.args.now) _ c.in-10.is refl) c.negate.ensures

pub returns-in-11 : goal.returns-in-11
unfolding meaning row_at rows
returns-in-11 c = answers_by _ _ _ (means c.args.code 11 (values_in c.args.args.now) _ c.in-11.is refl) c.complement.ensures

pub returns-in-12 : goal.returns-in-12
unfolding meaning row_at rows
returns-in-12 c = answers_by _ _ _ (means c.args.code 12 (values_in c.args.args.now) _ c.in-12.is refl) c.join.ensures

pub returns-in-13 : goal.returns-in-13
unfolding meaning row_at rows
returns-in-13 c = answers_by _ _ _ (means c.args.code 13 (values_in c.args.args.now) _ c.in-13.is refl) c.is_empty.ensures

pub returns-in-14 : goal.returns-in-14
unfolding meaning row_at rows
returns-in-14 c = answers_by _ _ _ (means c.args.code 14 (values_in c.args.args.now) _ c.in-14.is refl) c.count.ensures

pub returns-in-15 : goal.returns-in-15
unfolding meaning row_at rows
returns-in-15 c = answers_by _ _ _ (means c.args.code 15 (values_in c.args.args.now) _ c.in-15.is refl) c.sum.ensures

pub returns-in-16 : goal.returns-in-16
unfolding meaning row_at rows
returns-in-16 c = answers_by _ _ _ (means c.args.code 16 (values_in c.args.args.now) _ c.in-16.is refl) c.member.ensures

pub returns-in-17 : goal.returns-in-17
unfolding meaning row_at rows
returns-in-17 c = answers_by _ _ _ (means c.args.code 17 (values_in c.args.args.now) _ c.in-17.is refl) c.least.ensures

pub returns-in-18 : goal.returns-in-18
unfolding meaning row_at rows
returns-in-18 c = answers_by _ _ _ (means c.args.code 18 (values_in c.args.args.now) _ c.in-18.is refl) c.greatest.ensures

pub returns-in-23 : goal.returns-in-23
unfolding meaning row_at rows
returns-in-23 c = answers_by _ _ _ (means c.args.code 23 (values_in c.args.args.now) _ c.in-23.is refl) c.text_length.ensures

pub returns-in-24 : goal.returns-in-24
unfolding meaning row_at rows
returns-in-24 c = answers_by _ _ _ (means c.args.code 24 (values_in c.args.args.now) _ c.in-24.is refl) c.begins_with.ensures

pub returns-in-25 : goal.returns-in-25
unfolding meaning row_at rows
returns-in-25 c = answers_by _ _ _ (means c.args.code 25 (values_in c.args.args.now) _ c.in-25.is refl) c.to_int.ensures

pub returns-in-26 : goal.returns-in-26
unfolding meaning row_at rows
returns-in-26 c = answers_by _ _ _ (means c.args.code 26 (values_in c.args.args.now) _ c.in-26.is refl) c.to_text.ensures

pub returns-in-30 : goal.returns-in-30
unfolding meaning row_at rows
returns-in-30 c = answers_by _ _ _ (means c.args.code 30 (values_in c.args.args.now) _ c.in-30.is refl) c.finishes_with.ensures
