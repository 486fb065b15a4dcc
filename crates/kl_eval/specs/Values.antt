-- What an environment has.
use Rattle.std.specs.Prelude.{List, ◌∷◌, reverse, Result, Ok, Err}
use Rattle.kl_value.specs.declared.Value.{Value}
use Rattle.kl_prim.specs.Arguments.{value_in}
use Rattle.kl_prim.specs.declared.Arg.{Arg}
use Rattle.kl_eval.specs.declared.env.Env.{Env}
use Rattle.kl_eval.specs.declared.env.Env.TheVariants.{Base, Near'}
use Rattle.kl_eval.specs.declared.stop.EvalStop.{EvalStop}

abbrev pub values : Env → List Value
values (Base s) = reverse s.now
values (Near' v p rest) = v.now ∷ values rest

abbrev pub arg_in : Result Arg EvalStop → Result Value EvalStop
arg_in (Ok a) = Ok (value_in a)
arg_in (Err e) = Err e
