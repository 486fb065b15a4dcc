-- Two verdicts on one text are alike.
use Rattle.std.proofs.Common.{◌≡◌, ◌⊎◌, inl, inr, ℕ, ◌<◌, Bool, true, false, List, [], length, Option, Some, None, refl, sym, ap, ap₂, subst, ◌∙◌, arith}
use Rattle.std.specs.Prelude.{IsTrue}
use Rattle.std.proofs.lemmas.List.{length-map}
use Rattle.kl_type.specs.Ground.{Ground}
use Rattle.kl_outcome.specs.Outcome.{Name, Outcome, done, over, stuck}
use Rattle.kl_syntax.specs.Syntax.{Exp, Decls}
use Rattle.kl_syntax.specs.declared.tree.Program.{Program}
use Rattle.kl_scope.specs.Sizes.{declared}
use Rattle.kl_meaning.specs.Run.{meaning_of_program}
use Rattle.kl_meaning.specs.Typing.{HasTyping, types_at_first}
use Rattle.kl_infer.proofs.Principal.{one_failing}
use Rattle.kl_ask.specs.Driver.{DriverKind}
use Rattle.kl_ask.specs.declared.settings.Settings.{Settings}
use Rattle.kl_sources.specs.Sources.{names_of, grounds_of}
use Rattle.kl_sources.proofs.Agreement.{values_one, first_one, none_without}
use Rattle.kl_sources.specs.declared.source.Source.{Source}
use Rattle.kl_engine.specs.Answering.{Varies, SameVerdict, one, replanned, retyped}
use Rattle.kl_engine.specs.Reading.{definitions, last}
use Rattle.kl_engine.specs.Verdict.{Verdict, refused, size_fault, AfterSizes, IsUntyped, IsExplained, IsListing, stored_fault, IsOutcome, IsMeant, IsScopedVerdict, AreMarks, IsTextVerdict}
use Rattle.kl_engine.specs.declared.fault.Fault.{Fault}
use Rattle.kl_engine.specs.declared.fault.Fault.TheVariants as fault
use Rattle.kl_engine.specs.declared.top.Purpose.{Purpose}
use Rattle.kl_engine.specs.declared.top.Purpose.TheVariants as purpose
use Rattle.kl_engine.proofs.ReadLemmas.{faults_alike, no_fault, one_program}

module _ (grounds : List (Name × Ground)) (ds : Decls) (e : Exp) where
  untyped_alike : (L : Type 0) (v w : Verdict) → IsUntyped grounds ds e v → IsUntyped grounds ds e w → SameVerdict L v w
  untyped_alike L v w (n, ill, is) (m, also, it) = one (is ∙ (ap (λ k. refused (fault.IllTyped k)) (one_failing ds e (types_at_first grounds) n m ill.fails also.fails) ∙ sym it))

  outcome_one : (first : Option ℕ) (o : Outcome) (v w : Verdict) → IsOutcome grounds first ds e o v → IsOutcome grounds first ds e o w → v ≡ w
  outcome_one first (done x) v w this that = this ∙ sym that
  outcome_one first (over xs) v w (inl (list, is)) (inl (also, it)) = is ∙ sym it
  outcome_one first (over xs) v w (inl (list, is)) (inr (none, it)) = absurd (none list)
  outcome_one first (over xs) v w (inr (none, is)) (inl (list, it)) = absurd (none list)
  outcome_one first (over xs) v w (inr (none, is)) (inr (also, it)) = is ∙ sym it
  outcome_one first stuck v w this that = absurd this

  listing_alike : (v w : Verdict) → IsUntyped grounds ds e v ⊎ IsListing grounds ds e v → IsUntyped grounds ds e w ⊎ IsListing grounds ds e w → SameVerdict (Varies purpose.Types) v w
  listing_alike v w (inl this) (inl that) = untyped_alike (Varies purpose.Types) v w this that
  listing_alike v w (inl (n, ill, is)) (inr (typed, infers, it)) = absurd (ill.none infers.has_typing)
  listing_alike v w (inr (typed, infers, is)) (inl (n, ill, it)) = absurd (ill.none infers.has_typing)
  listing_alike v w (inr this) (inr that) = retyped tt grounds ds e this that

-- ---- the values of sources

same_fault : (f g : Fault) (a b : Option Fault) → a ≡ b → a ≡ Some f → b ≡ Some g → f ≡ g
same_fault f g a b same this that = let both : Some f ≡ Some g = sym this ∙ (same ∙ that) in cc

-- ---- verdicts on one program

module _ (ks : List DriverKind) (ss : List Source) (marks others : ℕ → Bool) (same : (i : ℕ) → i < length ss → marks i ≡ others i) (ds : Decls) (e : Exp) where
  meant_one : (first : Option ℕ) (v w : Verdict) → IsMeant ks ss marks first ds e v → IsMeant ks ss others first ds e w → v ≡ w
  meant_one first v w (inl (s, x, f, at, is, eq)) (inl (t, y, g, there, it, eq2)) =
      let both = first_one ks marks others 0 ss s t x y (λ i less. same i (omega (arith, less))) at there in
      eq ∙ (ap refused (same_fault f g (stored_fault s.name x) (stored_fault t.name y) (ap₂ (λ u z. stored_fault u.name z) both.0 both.1) is it) ∙ sym eq2)
  meant_one first v w (inl (s, x, f, at, is, eq)) (inr (vs, values, it)) = absurd (none_without ks marks others 0 ss s x vs (λ i less. same i (omega (arith, less))) at values)
  meant_one first v w (inr (vs, values, is)) (inl (t, y, g, there, it, eq)) = absurd (none_without ks others marks 0 ss t y vs (λ i less. sym (same i (omega (arith, less)))) there values)
  meant_one first v w (inr (vs, values, is)) (inr (ws, again, it)) =
      let both : vs ≡ ws = values_one ks marks others 0 ss vs ws (λ i less. same i (omega (arith, less))) values again in
      outcome_one (grounds_of ss) ds e first (meaning_of_program ds e ws) v w (subst (λ xs. IsOutcome (grounds_of ss) first ds e (meaning_of_program ds e xs) v) both is) it

  meant_alike : (first : Option ℕ) (v w : Verdict) → IsUntyped (grounds_of ss) ds e v ⊎ (HasTyping ds e (grounds_of ss) × IsMeant ks ss marks first ds e v) → IsUntyped (grounds_of ss) ds e w ⊎ (HasTyping ds e (grounds_of ss) × IsMeant ks ss others first ds e w) → SameVerdict (Varies (purpose.Run first)) v w
  meant_alike first v w (inl this) (inl that) = untyped_alike (grounds_of ss) ds e (Varies (purpose.Run first)) v w this that
  meant_alike first v w (inl (n, ill, is)) (inr (typing, it)) = absurd (ill.none typing)
  meant_alike first v w (inr (typing, is)) (inl (n, ill, it)) = absurd (ill.none typing)
  meant_alike first v w (inr (typing, is)) (inr (also, it)) = one (meant_one first v w is it)

  explained_alike : (settings : Settings) (v w : Verdict) → IsUntyped (grounds_of ss) ds e v ⊎ (HasTyping ds e (grounds_of ss) × IsExplained ks ss settings ds e v) → IsUntyped (grounds_of ss) ds e w ⊎ (HasTyping ds e (grounds_of ss) × IsExplained ks ss settings ds e w) → SameVerdict (Varies (purpose.Explain settings)) v w
  explained_alike settings v w (inl this) (inl that) = untyped_alike (grounds_of ss) ds e (Varies (purpose.Explain settings)) v w this that
  explained_alike settings v w (inl (n, ill, is)) (inr (typing, it)) = absurd (ill.none typing)
  explained_alike settings v w (inr (typing, is)) (inl (n, ill, it)) = absurd (ill.none typing)
  explained_alike settings v w (inr (typing, is)) (inr (also, it)) = replanned tt ks ss settings ds e is it

  sized_alike : (L : Type 0) (size : Option Fault) (This That : Verdict → Type 0) → ((v w : Verdict) → This v → That w → SameVerdict L v w) → (v w : Verdict) → AfterSizes size This v → AfterSizes size That w → SameVerdict L v w
  sized_alike L (Some f) This That alike v w this that = one (this ∙ sym that)
  sized_alike L None This That alike v w this that = alike v w this that

  pub done_alike : (p : Purpose) (v w : Verdict) → IsScopedVerdict ks ss marks p ds e v → IsScopedVerdict ks ss others p ds e w → SameVerdict (Varies p) v w
  done_alike purpose.Check v w this that = one (this ∙ sym that)
  done_alike purpose.Types v w this that = sized_alike (Varies purpose.Types) (size_fault (declared ds e [])) (λ u. IsUntyped (grounds_of ss) ds e u ⊎ IsListing (grounds_of ss) ds e u) (λ u. IsUntyped (grounds_of ss) ds e u ⊎ IsListing (grounds_of ss) ds e u) (listing_alike (grounds_of ss) ds e) v w this that
  done_alike (purpose.Explain settings) v w this that =
      sized_alike (Varies (purpose.Explain settings)) (size_fault (declared ds e []))
      (λ u. IsUntyped (grounds_of ss) ds e u ⊎ (HasTyping ds e (grounds_of ss) × IsExplained ks ss settings ds e u))
      (λ u. IsUntyped (grounds_of ss) ds e u ⊎ (HasTyping ds e (grounds_of ss) × IsExplained ks ss settings ds e u)) (explained_alike settings) v w this that
  done_alike (purpose.Run first) v w this that =
      sized_alike (Varies (purpose.Run first)) (size_fault (declared ds e []))
      (λ u. IsUntyped (grounds_of ss) ds e u ⊎ (HasTyping ds e (grounds_of ss) × IsMeant ks ss marks first ds e u))
      (λ u. IsUntyped (grounds_of ss) ds e u ⊎ (HasTyping ds e (grounds_of ss) × IsMeant ks ss others first ds e u)) (meant_alike first) v w this that

both_true : (a b : Bool) → (IsTrue a → IsTrue b) → (IsTrue b → IsTrue a) → a ≡ b
both_true true true there back = refl
both_true true false there back = let is = there refl in cc
both_true false true there back = let is = back refl in cc
both_true false false there back = refl

pub marks_one : (q : Program) (ss : List Source) (marks others : ℕ → Bool) → AreMarks q (names_of ss) marks → AreMarks q (names_of ss) others → (i : ℕ) → i < length ss → marks i ≡ others i
marks_one q ss marks others this that i less =
    let within : i < length (names_of ss) = subst (λ n. i < n) (sym (length-map ss (λ s. s.name))) less in
    both_true (marks i) (others i) (λ is. (that i within).1 ((this i within).0 is)) (λ is. (this i within).1 ((that i within).0 is))

module _ (ks : List DriverKind) (ss : List Source) (p : Purpose) (bytes : List ℕ) where
  pub text_alike : (v w : Verdict) → IsTextVerdict ks ss p bytes v → IsTextVerdict ks ss p bytes w → SameVerdict (Varies p) v w
  text_alike v w (inl (f, this, is)) (inl (g, that, it)) = subst (λ u. SameVerdict (Varies p) u w) (sym is) (subst (SameVerdict (Varies p) (refused f)) (sym it) (faults_alike (Varies p) (names_of ss) bytes f g this that))
  text_alike v w (inl (f, this, is)) (inr (q, marks, whole, told, it)) = absurd (no_fault (names_of ss) bytes f q whole this)
  text_alike v w (inr (q, marks, whole, told, is)) (inl (f, that, it)) = absurd (no_fault (names_of ss) bytes f q whole that)
  text_alike v w (inr (q, marks, whole, told, is)) (inr (r, others, also, again, it)) =
      let same : q ≡ r = one_program (names_of ss) bytes q r whole also in
      let told_too : AreMarks r (names_of ss) marks = subst (λ s. AreMarks s (names_of ss) marks) same told in
      done_alike ks ss marks others (marks_one r ss marks others told_too again) (definitions (names_of ss) r) (last (names_of ss) r) p v w (subst (λ s. IsScopedVerdict ks ss marks p (definitions (names_of ss) s) (last (names_of ss) s) v) same is) it
