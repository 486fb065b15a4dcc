-- The first declaration whose term is too large.
use Rattle.std.proofs.Common.{◌≡◌, arith, ℕ, ◌<◌, ◌≤◌, nat_lt, Bool, true, false, if◌then◌else◌, List, [], ◌∷◌, ◌++◌, Option, Some, None, refl, ap, subst, ◌∙◌}
use Rattle.std.specs.Prelude.{All}
use Rattle.std.specs.Option.{option_map}
use Rattle.std.proofs.lemmas.Bool.{lt-ltb, le-ltb}
use Rattle.std.proofs.lemmas.Bool.Decides.{nat_tests}
use Rattle.std.proofs.lemmas.List.Elements.{All-cons, All-head, All-nil, All-tail}
use Rattle.kl_scope.specs.Limits.{HasManyNodes, IsDeep, IsWithin, IsFirstPast, Tells}
use Rattle.kl_scope.specs.declared.counting.SizeBreach.{SizeBreach}
use Rattle.kl_scope.specs.declared.counting.SizeBreach.TheVariants.{Nodes, Depth}
use Rattle.kl_scope.specs.declared.terms.Size.{Size}
use Rattle.kl_engine.specs.Typing.{breach_fault}
use Rattle.kl_engine.specs.Verdict.{size_fault}
use Rattle.kl_engine.specs.declared.fault.Fault.{Fault}
use Rattle.kl_engine.specs.declared.fault.Fault.TheVariants as fault

many : (s : Size) (ss : List Size) → 4096 < s.nodes → size_fault (s ∷ ss) ≡ Some fault.TermNodes
many s ss past = ap (λ b. if b then Some fault.TermNodes else if nat_lt 512 s.depth then Some fault.TermDepth else size_fault ss) (lt-ltb 4096 s.nodes past)

few : (s : Size) (ss : List Size) → s.nodes ≤ 4096 → size_fault (s ∷ ss) ≡ if nat_lt 512 s.depth then Some fault.TermDepth else size_fault ss
few s ss within = ap (λ b. if b then Some fault.TermNodes else if nat_lt 512 s.depth then Some fault.TermDepth else size_fault ss) (le-ltb 4096 s.nodes within)

deep : (s : Size) (ss : List Size) → IsDeep s → size_fault (s ∷ ss) ≡ Some fault.TermDepth
deep s ss is = few s ss is.0 ∙ ap (λ b. if b then Some fault.TermDepth else size_fault ss) (lt-ltb 512 s.depth is.1)

fits : (s : Size) (ss : List Size) → IsWithin s → size_fault (s ∷ ss) ≡ size_fault ss
fits s ss is = few s ss is.0 ∙ ap (λ b. if b then Some fault.TermDepth else size_fault ss) (le-ltb 512 s.depth is.1)

all_fit : (ss : List Size) → All IsWithin ss → size_fault ss ≡ None
all_fit [] all = refl
all_fit (s ∷ ss) all = fits s ss (All-head IsWithin s ss all) ∙ all_fit ss (All-tail IsWithin s ss all)

behind_fitting : (before after : List Size) → All IsWithin before → size_fault (before ++ after) ≡ size_fault after
behind_fitting [] after all = refl
behind_fitting (s ∷ ss) after all = fits s (ss ++ after) (All-head IsWithin s ss all) ∙ behind_fitting ss after (All-tail IsWithin s ss all)

first_past : (IsPast : Size → Type 0) (f : Fault) → ((s : Size) (ss : List Size) → IsPast s → size_fault (s ∷ ss) ≡ Some f) → (decl : ℕ) (sizes : List Size) → IsFirstPast IsPast decl sizes → size_fault sizes ≡ Some f
first_past IsPast f told decl sizes is = ap size_fault is.parts ∙ (behind_fitting is.before (is.size ∷ is.after) is.earlier ∙ told is.size is.after is.past)

pub told_size : (found : Option SizeBreach) (sizes : List Size) → Tells found sizes → size_fault sizes ≡ option_map breach_fault found
told_size None sizes tells = all_fit sizes tells
told_size (Some (Nodes decl)) sizes tells = first_past HasManyNodes fault.TermNodes many decl sizes tells
told_size (Some (Depth decl)) sizes tells = first_past IsDeep fault.TermDepth deep decl sizes tells

-- the fault is one of sizes
module _ (P : Fault → Type 0) (nodes : P fault.TermNodes) (depth : P fault.TermDepth) where
  one_size : (x y : Bool) (rest : Option Fault) (f : Fault) → (rest ≡ Some f → P f) → (if x then Some fault.TermNodes else if y then Some fault.TermDepth else rest) ≡ Some f → P f
  one_size true y rest f more is = let same : fault.TermNodes ≡ f = cc in subst P same nodes
  one_size false true rest f more is = let same : fault.TermDepth ≡ f = cc in subst P same depth
  one_size false false rest f more is = more is

  pub sized_faults : (ss : List Size) (f : Fault) → size_fault ss ≡ Some f → P f
  sized_faults [] f is = absurd cc
  sized_faults (s ∷ ss) f is = one_size (nat_lt 4096 s.nodes) (nat_lt 512 s.depth) (size_fault ss) f (sized_faults ss f) is

-- ---- no term is too large

one_within : (x y : Bool) (rest : Option Fault) → (if x then Some fault.TermNodes else if y then Some fault.TermDepth else rest) ≡ None → (x ≡ false) × (y ≡ false) × (rest ≡ None)
one_within true y rest is = absurd cc
one_within false true rest is = absurd cc
one_within false false rest is = (refl, refl, is)

pub all_within : (ss : List Size) → size_fault ss ≡ None → All IsWithin ss
all_within [] is = All-nil IsWithin
all_within (s ∷ ss) is =
    let found = one_within (nat_lt 4096 s.nodes) (nat_lt 512 s.depth) (size_fault ss) is in
    All-cons IsWithin s ss (grind (arith, nat_tests, found.0), grind (arith, nat_tests, found.1)) (all_within ss found.2)
