use Rattle.std.proofs.Common.{rules, subst}
use mathlib.Core.List.{mem-append_right}
use Rattle.kl_ask.specs.Driver.{CanStart}
use Rattle.kl_ask.proofs.boxed.start_boxed.Goals as goal

pub start-requires : goal.start-requires
start-requires g c κs = (search rules, λ within. (tt, (λ a m. within a (mem-append_right κs.0 m), subst (λ v. CanStart ((goal.Driver-dyn g v).state v.1) c.args.ask.now) (search rules) c.requires)))
