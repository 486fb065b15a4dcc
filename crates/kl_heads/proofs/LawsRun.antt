-- What the run over the bytes left says, as readers want it.
use Rattle.std.proofs.Common.{◌≡◌, ℕ, ◌-◌, ◌<◌, Bool, true, false, List, ◌++◌, length, refl, sym, ap, subst, ◌∙◌}
use Rattle.kl_type.specs.Ground.{IsProper}
use Rattle.kl_type.specs.declared.ground.Ty.{Ty}
use Rattle.kl_exchange.specs.FileItems.{reading}
use Rattle.kl_exchange.specs.Reading.{nesting}
use Rattle.kl_heads.specs.Files.{standing}
use Rattle.kl_heads.specs.Heads.{IsHead}
use Rattle.kl_heads.specs.Machine.{run, more, ends, no_head, fails, deep, start, may_be_item}
use Rattle.kl_heads.specs.Reading.{IsBad, IsDeep}
use Rattle.kl_heads.specs.Texts.{IsHeadless}
use Rattle.kl_heads.specs.declared.machine.Machine.{Machine}
use Rattle.kl_heads.proofs.Heading.{more_head, more_bad, fails_bad, deep_deep}
use Rattle.kl_heads.proofs.Late.{LateRun, typed_late}
use Rattle.kl_heads.proofs.Proper.{head_proper}
use Rattle.kl_heads.proofs.Reaching.{ends_head}
use Rattle.kl_heads.proofs.Runs.{extended, run_append}

pub said_head : (left rest : List ℕ) (t : Ty) → run 256 left start ≡ ends t rest → (head : List ℕ) × (left ≡ head ++ rest) × IsHead nesting head t × IsProper t
said_head left rest t e = let c = ends_head 256 left rest t e in (c.0, c.1, c.2, head_proper 256 c.0 t c.2)

pub said_more : (left : List ℕ) (m : Machine) → run 256 left start ≡ more m → (u : List ℕ) × (t : Ty) × (0 < length u) × IsHead nesting (left ++ u) t
said_more left m e = more_head left m e

pub said_bad : (left rest : List ℕ) (finished : Bool) → run 256 left start ≡ fails rest
    → (length left - length rest < length left) × IsBad (standing true 0 left finished) (length left - length rest)
said_bad left rest finished e = fails_bad (reading 0 left finished) rest e

pub said_end : (left : List ℕ) (m : Machine) → run 256 left start ≡ more m → may_be_item m.phase ≡ false → IsBad (standing true 0 left true) (length left)
said_end left m e late = more_bad (reading 0 left true) m e late refl

pub said_deep : (left rest : List ℕ) (finished : Bool) → run 256 left start ≡ deep rest → IsDeep (standing true 0 left finished) (length left - length rest)
said_deep left rest finished e = deep_deep (reading 0 left finished) rest e

pub no_head_more : (left behind : List ℕ) → run 256 left start ≡ no_head → IsHeadless (left ++ behind)
no_head_more left behind e before u blank is =
    subst LateRun (run_append 256 left behind start ∙ ap (λ o. extended 256 o behind) e) (typed_late 256 (left ++ behind) (before, u, is, blank))

pub more_item : (left : List ℕ) (m : Machine) → run 256 left start ≡ more m → may_be_item m.phase ≡ true → IsHeadless left
more_item left m e early before u blank is = absurd (let late = subst LateRun e (typed_late 256 left (before, u, is, blank)) in let clash : true ≡ false = sym early ∙ late in cc)
