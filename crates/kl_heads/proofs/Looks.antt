-- What an answer about the front of bytes says of them by the grammar.
use Rattle.std.proofs.Common.{◌≡◌, ◌⊎◌, inl, inr, ℕ, ◌+◌, ◌-◌, ◌<◌, ◌≤◌, Bool, true, false, cond, List, [], ◌∷◌, ◌++◌, length, take, refl, sym, ap, subst, ◌∙◌, arith, Result, Ok, Err, append-nil, length-append}
use Rattle.std.specs.Prelude.{⊤}
use Rattle.kl_type.specs.Ground.{IsProper}
use Rattle.kl_type.specs.declared.ground.Ty.{Ty}
use Rattle.kl_exchange.specs.Reading.{nesting}
use Rattle.kl_heads.specs.Files.{BeginsNext, standing}
use Rattle.kl_heads.specs.Fronts.{Looks, look_at}
use Rattle.kl_heads.specs.Heads.{IsHead}
use Rattle.kl_heads.specs.Machine.{Run, run, more, ends, no_head, fails, deep, start, may_be_item}
use Rattle.kl_heads.specs.Reading.{IsBad, IsDeep}
use Rattle.kl_heads.specs.Texts.{IsHeadless, StaysHeadless}
use Rattle.kl_heads.specs.declared.front.Look.{Look}
use Rattle.kl_heads.specs.declared.front.Look.TheVariants as look
use Rattle.kl_heads.specs.declared.machine.Machine.{Machine}
use Rattle.kl_heads.specs.declared.scan.Halt.{Halt}
use Rattle.kl_heads.specs.declared.scan.Halt.TheVariants as halt
use Rattle.kl_heads.proofs.Runs.{extended, run_append}
use Rattle.kl_heads.proofs.LawsRun.{said_head, said_more, said_bad, said_end, said_deep, no_head_more, more_item}

-- what an answer about the front says
abbrev pub Means : List ℕ → Bool → Result Look Halt → Type 0
Means left finished (Ok (look.Head t n)) = (n ≤ length left) × IsHead nesting (take n left) t × IsProper t
Means left finished (Ok look.Items) = StaysHeadless finished left
Means left finished (Ok look.Unknown) = (finished ≡ false) × BeginsNext true left
Means left finished (Err (halt.Bad k)) = ((k < length left) ⊎ (finished ≡ true))
    × ((behind : List ℕ) (whole : Bool) → (finished ≡ true → (behind ≡ []) × (whole ≡ true)) → IsBad (standing true 0 (left ++ behind) whole) k)
Means left finished (Err (halt.TooDeep k)) = (k < length left) × ((behind : List ℕ) (whole : Bool) → IsDeep (standing true 0 (left ++ behind) whole) k)
Means left finished (Err halt.NoMemory) = ⊤

module _ (left : List ℕ) where
  head_means : (finished : Bool) (rest : List ℕ) (t : Ty) → run 256 left start ≡ ends t rest → Means left finished (Ok (look.Head t (length left - length rest)))
  head_means finished rest t e =
      let h = said_head left rest t e in
      let size : length left ≡ length h.0 + length rest = ap length h.1 ∙ length-append h.0 rest in
      let count : length left - length rest ≡ length h.0 = omega arith in
      let front : take (length left - length rest) left ≡ h.0 = ap (λ k. take k left) count ∙ (ap (take (length h.0)) h.1 ∙ front_is h.0 rest) in
      (omega arith, subst (λ bs. IsHead nesting bs t) (sym front) h.2, h.3)
    where
      front_is : (xs ys : List ℕ) → take (length xs) (xs ++ ys) ≡ xs
      front_is [] ys = refl
      front_is (x ∷ xs) ys = ap (λ zs. x ∷ zs) (front_is xs ys)

  end_means : (m : Machine) (b : Bool) → run 256 left start ≡ more m → may_be_item m.phase ≡ b → Means left true (cond b (Ok look.Items) (Err (halt.Bad (length left))))
  end_means m true e may = λ behind none. subst IsHeadless (sym (ap (λ bs. left ++ bs) (none refl) ∙ append-nil left)) (more_item left m e may)
  end_means m false e may = (
    inr refl,
    λ behind whole alone.
        let none : left ++ behind ≡ left = ap (λ bs. left ++ bs) (alone refl).0 ∙ append-nil left in
        subst (λ b. IsBad (standing true 0 (left ++ behind) b) (length left)) (sym (alone refl).1)
        (subst (λ bs. IsBad (standing true 0 bs true) (length left)) (sym none) (said_end left m e may)),
  )

  same_place : (rest behind : List ℕ) → length (left ++ behind) - length (rest ++ behind) ≡ length left - length rest
  same_place rest behind =
      let a : length (left ++ behind) ≡ length left + length behind = length-append left behind in
      let b : length (rest ++ behind) ≡ length rest + length behind = length-append rest behind in
      omega arith

  look_means : (finished : Bool) (o : Run) → run 256 left start ≡ o → Means left finished (look_at left finished o)
  look_means finished (ends t rest) e = head_means finished rest t e
  look_means finished no_head e = λ behind none. no_head_more left behind e
  look_means finished (fails rest) e = (
    inl (said_bad left rest finished e).0,
    λ behind whole alone.
        subst (λ k. IsBad (standing true 0 (left ++ behind) whole) k) (same_place rest behind)
        (said_bad (left ++ behind) (rest ++ behind) whole (run_append 256 left behind start ∙ ap (λ o. extended 256 o behind) e)).1,
  )
  look_means finished (deep rest) e = (
    (said_deep left rest finished e).within,
    λ behind whole.
        subst (λ k. IsDeep (standing true 0 (left ++ behind) whole) k) (same_place rest behind)
        (said_deep (left ++ behind) (rest ++ behind) whole (run_append 256 left behind start ∙ ap (λ o. extended 256 o behind) e)),
  )
  look_means false (more m) e = let s = said_more left m e in (refl, (s.0, s.2, inl (s.1, s.3)))
  look_means true (more m) e = end_means m (may_be_item m.phase) e refl

  pub means : (finished : Bool) (r : Result Look Halt) → Looks r (look_at left finished (run 256 left start)) → Means left finished r
  means finished (Ok l) looks = subst (Means left finished) looks (look_means finished (run 256 left start) refl)
  means finished (Err (halt.Bad k)) looks = subst (Means left finished) looks (look_means finished (run 256 left start) refl)
  means finished (Err (halt.TooDeep k)) looks = subst (Means left finished) looks (look_means finished (run 256 left start) refl)
  means finished (Err halt.NoMemory) looks = tt

-- the same of bytes and of an answer that are known otherwise
pub looked : (left bytes : List ℕ) (finished ended : Bool) (r said : Result Look Halt) → bytes ≡ left → ended ≡ finished → r ≡ said → Looks r (look_at bytes ended (run 256 bytes start)) → Means left finished said
looked left bytes finished ended r said same end is looks =
    subst (Means left finished) is (subst (λ bs. Means bs finished r) same (subst (λ f. Means bytes f r) end (means bytes ended r looks)))
