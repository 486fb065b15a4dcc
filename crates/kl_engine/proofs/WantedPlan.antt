-- That memory ran out before a plan was made.
use Rattle.std.proofs.Common.{◌≡◌, inr, List, Option, Some, None, sym, subst}
use Rattle.kl_outside.specs.Files.{FilesState}
use Rattle.kl_ask.specs.Driver.{DriverKind}
use Rattle.kl_plan.specs.Nodes.{Node}
use Rattle.kl_sources.specs.Sources.{kinds_of}
use Rattle.kl_engine.specs.Commands.{Command, NoneNamed, Program, Show, Upgrade}
use Rattle.kl_engine.specs.Faults.{Ending}
use Rattle.kl_engine.specs.Planned.{Course, HasPlan, MayBeEarly}
use Rattle.kl_engine.specs.declared.run.How.{How}
use Rattle.kl_engine.specs.declared.fault.Fault.TheVariants as fault
use Rattle.kl_engine.specs.declared.top.Purpose.TheVariants as purpose

may_want : (command : Command) (end : Ending) (files files' : FilesState) (ks : List DriverKind) → end ≡ Some fault.NoMemory → MayBeEarly command end files files' ks
may_want command end files files' ks is = subst (λ e. MayBeEarly command e files files' ks) (sym is) tt

pub wanted_plan : (how : How) (command : Command) (plan : Option Node) (course : Course) (files files' : FilesState) → plan ≡ None → course.trace.steps ≡ 0 → course.ending ≡ Some fault.NoMemory
    → HasPlan how command plan course files files'
wanted_plan how NoneNamed plan course files files' none steps is = inr (none, steps, inr (may_want NoneNamed course.ending files files' (kinds_of course.old) is))
wanted_plan how (Program (purpose.Explain settings) from) plan course files files' none steps is =
    inr (none, steps, may_want (Program (purpose.Explain settings) from) course.ending files files' (kinds_of course.old) is)
wanted_plan how (Program (purpose.Run first) from) plan course files files' none steps is =
    inr (none, steps, inr (may_want (Program (purpose.Run first) from) course.ending files files' (kinds_of course.old) is))
wanted_plan how (Program purpose.Check from) plan course files files' none steps is =
    inr (none, steps, inr (may_want (Program purpose.Check from) course.ending files files' (kinds_of course.old) is))
wanted_plan how (Program purpose.Types from) plan course files files' none steps is =
    inr (none, steps, inr (may_want (Program purpose.Types from) course.ending files files' (kinds_of course.old) is))
wanted_plan how (Show path) plan course files files' none steps is = inr (none, steps, inr (may_want (Show path) course.ending files files' (kinds_of course.old) is))
wanted_plan how (Upgrade path word) plan course files files' none steps is =
    inr (none, steps, inr (may_want (Upgrade path word) course.ending files files' (kinds_of course.old) is))
