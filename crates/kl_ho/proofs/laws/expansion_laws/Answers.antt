use Rattle.kl_ho.proofs.Programs.{program_comes, program_comes_alone, program_typing, program_has_typing}
use Rattle.kl_ho.proofs.Failing.{ill_typed}
use Rattle.kl_ho.proofs.Translated.{same_term}
use Rattle.kl_ho.proofs.Shaping.{kept_expansion}
use Rattle.kl_ho.proofs.ProgramAccepting.{accepted}
use Rattle.kl_ho.proofs.Counting.{same_nodes}
use Rattle.kl_ho.proofs.laws.expansion_laws.Goals as goal

pub returns : goal.returns
returns c = record {
  comes = λ fields ds e cs x h sources. (h.1, program_comes h.0 fields h.1 ds cs e x h.2 sources);
  comes_alone = λ fields ds e cs x h sources n o i. program_comes_alone h.0 fields h.1 ds cs e x h.2 sources n o i;
  types = λ fields ds e cs x h sources t. program_typing h.0 fields h.1 ds cs e x h.2 sources t;
  typing = λ fields ds e cs x h sources. program_has_typing h.0 fields h.1 ds cs e x h.2 sources;
  ill_typed = λ fields ds e cs x h sources i. ill_typed h.0 fields h.1 ds cs e x h.2 sources i;
  same_term = λ fields ds e cs x also y h k sources. same_term h.0 k.0 fields h.2 k.2 sources;
  accepted = λ fields ds e cs x h sources world arity k d. accepted h.0 fields h.1 ds cs e x h.2 sources world arity k d;
  same_size = λ highers n m funs e x y h k. same_nodes h.0 k.0 highers h.2 k.2;
  has_expansion = λ fields is_new sources world arity ds e choose old defines k h. kept_expansion fields is_new sources world arity ds e choose old defines k h;
}
