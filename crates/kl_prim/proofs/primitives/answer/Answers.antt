use Rattle.std.proofs.Common.{refl}
use Rattle.kl_prim.specs.Table.{Fits, meaning, row_at, rows}
use Rattle.kl_prim.proofs.TableLemmas.{answers_by, fits, means}
use Rattle.kl_prim.specs.Arguments.{values_in}
use Rattle.kl_prim.proofs.primitives.answer.Goals as goal

pub flatten-requires : goal.flatten-requires
unfolding Fits row_at rows
flatten-requires c = fits c.args.code 19 (values_in c.args.args) c.in-19.is c.requires.fits

pub setof-requires-clause-fits : goal.setof-requires-clause-fits
unfolding Fits row_at rows
setof-requires-clause-fits c = fits c.args.code 20 (values_in c.args.args) c.in-20.is c.requires.fits

pub bagof-requires-clause-fits : goal.bagof-requires-clause-fits
unfolding Fits row_at rows
bagof-requires-clause-fits c = fits c.args.code 21 (values_in c.args.args) c.in-21.is c.requires.fits

pub listof-requires-clause-fits : goal.listof-requires-clause-fits
unfolding Fits row_at rows
listof-requires-clause-fits c = fits c.args.code 22 (values_in c.args.args) c.in-22.is c.requires.fits

pub extend-requires : goal.extend-requires
unfolding Fits row_at rows
extend-requires c = fits c.args.code 27 (values_in c.args.args) c.in-27.is c.requires.fits

pub rest-requires : goal.rest-requires
unfolding Fits row_at rows
rest-requires c = fits c.args.code 28 (values_in c.args.args) c.in-28.is c.requires.fits

pub first_items-requires : goal.first_items-requires
unfolding Fits row_at rows
first_items-requires c = fits c.args.code 29 (values_in c.args.args) c.in-29.is c.requires.fits

pub returns-in-19 : goal.returns-in-19
unfolding meaning row_at rows
returns-in-19 c = answers_by _ _ _ (means c.args.code 19 (values_in c.args.args) _ c.in-19.is refl) c.flatten.ensures

pub returns-in-20 : goal.returns-in-20
unfolding meaning row_at rows
returns-in-20 c = answers_by _ _ _ (means c.args.code 20 (values_in c.args.args) _ c.in-20.is refl) c.setof.ensures

pub returns-in-21 : goal.returns-in-21
unfolding meaning row_at rows
returns-in-21 c = answers_by _ _ _ (means c.args.code 21 (values_in c.args.args) _ c.in-21.is refl) c.bagof.ensures

pub returns-in-22 : goal.returns-in-22
unfolding meaning row_at rows
returns-in-22 c = answers_by _ _ _ (means c.args.code 22 (values_in c.args.args) _ c.in-22.is refl) c.listof.ensures

pub returns-in-27 : goal.returns-in-27
unfolding meaning row_at rows
returns-in-27 c = answers_by _ _ _ (means c.args.code 27 (values_in c.args.args) _ c.in-27.is refl) c.extend.ensures

pub returns-in-28 : goal.returns-in-28
unfolding meaning row_at rows
returns-in-28 c = answers_by _ _ _ (means c.args.code 28 (values_in c.args.args) _ c.in-28.is refl) c.rest.ensures

pub returns-in-29 : goal.returns-in-29
unfolding meaning row_at rows
returns-in-29 c = answers_by _ _ _ (means c.args.code 29 (values_in c.args.args) _ c.in-29.is refl) c.first_items.ensures
