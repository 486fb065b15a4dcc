-- The values of arguments.
use Rattle.std.specs.Prelude.{List, [], ◌∷◌}
use Rattle.kl_value.specs.declared.Value.{Value}
use Rattle.kl_prim.specs.declared.args.Arg.{Arg}
use Rattle.kl_prim.specs.declared.args.Arg.TheVariants as arg
use Rattle.kl_prim.specs.declared.args.Args.{Args}
use Rattle.kl_prim.specs.declared.args.Args.TheVariants as args

-- the value of an argument, lent or handed over
abbrev pub value_in : Arg → Value
value_in (arg.Lent v) = v.now
value_in (arg.Owned v) = v

abbrev pub values_in : Args → List Value
values_in (args.One a) = value_in a ∷ []
values_in (args.Two a b) = value_in a ∷ value_in b ∷ []
