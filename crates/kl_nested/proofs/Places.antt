-- Items and the places where they begin.
use Rattle.std.proofs.Common.{◌≡◌, ℕ, ◌+◌, ◌≤◌, false, List, [], ◌∷◌, ◌++◌, length, Some, None, sym, ap, ◌∙◌, refl, arith, append_assoc, length-append}
use Rattle.std.proofs.lemmas.List.{append_cancel_left}
use Rattle.kl_value.specs.declared.Value.{Value}
use Rattle.kl_type.specs.Has.{has_type}
use Rattle.kl_type.specs.declared.ground.Ty.{Ty}
use Rattle.kl_exchange.specs.FileItems.{Items}
use Rattle.kl_exchange.specs.Found.{FileItem, Placed, values_of}
use Rattle.kl_exchange.proofs.FileReading.{item_size}
use Rattle.kl_exchange.proofs.OneAnswer.{one_front}
use Rattle.kl_nested.specs.Contents.{first_misfit}
use Rattle.kl_nested.specs.Handing.{AllHave}

pub none_misfit : (t : Ty) (xs : List FileItem) → AllHave t (values_of xs) → first_misfit t xs ≡ None
none_misfit t [] h = refl
none_misfit t (x ∷ xs) h = rw h.0 (none_misfit t xs h.1)

pub misfit_at : (t : Ty) (vs : List Value) (v : Value) (us : List Value) (q : ℕ) (xs : List FileItem) (read all a b : List ℕ) → Items read vs → AllHave t vs → has_type v t ≡ false → Placed q all xs → read ++ a ≡ all ++ b → values_of xs ≡ vs ++ v ∷ us
    → first_misfit t xs ≡ Some (q + length read)
misfit_at t [] v us q [] read all a b items have misfit placed same is = absurd cc
misfit_at t [] v us q (x ∷ xs) read all a b items have misfit placed same is =
    let first : x.1 ≡ v = cc in
    let at : x.0 ≡ q + length read = let k : length read ≡ 0 = ap length items in let l = placed.3 in omega arith in
    rw (ap (λ w. has_type w t) first ∙ misfit) (ap Some at)
misfit_at t (w ∷ vs) v us q [] read all a b items have misfit placed same is = absurd cc
misfit_at t (w ∷ vs) v us q (x ∷ xs) read all a b (item, rest, split, spells, others) have misfit (other, behind, cut, at, spelled, more) same is =
    let first : x.1 ≡ w = cc in
    let later : values_of xs ≡ vs ++ v ∷ us = cc in
    let whole : item ++ (rest ++ a) ≡ other ++ (behind ++ b) = sym (append_assoc item rest a) ∙ (ap (λ z. z ++ a) (sym split) ∙ (same ∙ (ap (λ z. z ++ b) cut ∙ append_assoc other behind b))) in
    let one : item ≡ other = (one_front 256 256 item other (rest ++ a) (behind ++ b) w x.1 spells spelled whole).0 in
    let tails : rest ++ a ≡ behind ++ b = append_cancel_left item (rest ++ a) (behind ++ b) (whole ∙ ap (λ z. z ++ (behind ++ b)) (sym one)) in
    let long : length read ≡ length item + length rest = ap length split ∙ length-append item rest in
    let step = misfit_at t vs v us (q + length other) xs rest behind a b others have.1 misfit more tails later in
    let size : length item ≡ length other = ap length one in
    rw (ap (λ z. has_type z t) first ∙ have.0) (step ∙ ap Some (omega arith))

pub items_few : (read : List ℕ) (vs : List Value) → Items read vs → length vs ≤ length read
items_few read [] h = omega arith
items_few read (v ∷ vs) (item, rest, split, spells, others) =
    let a = items_few rest vs others in
    let b = item_size item v spells in
    let c : length read ≡ length item + length rest = ap length split ∙ length-append item rest in
    omega arith
