-- What sources come to rests on no more than their marks, and is one.
use Rattle.std.proofs.Common.{◌≡◌, inl, inr, ℕ, suc, ◌+◌, ◌<◌, Bool, true, false, List, [], ◌∷◌, length, Some, sym, ap, ap₂, subst, ◌∙◌, arith}
use Rattle.kl_outcome.specs.Outcome.{Name}
use Rattle.kl_value.specs.declared.Value.{Value}
use Rattle.kl_ask.specs.Driver.{DriverKind, Stored, Rows}
use Rattle.kl_sources.specs.Sources.{contents, value_of as source_value, IsValueAt, HaveValues, IsReadable, FirstWithout}
use Rattle.kl_sources.specs.declared.source.Source.{Source}

module _ (ks : List DriverKind) (marks others : ℕ → Bool) where
  pub values_agree : (n : ℕ) (ss : List Source) (vs : List (Name × Value)) → ((i : ℕ) → i < n + length ss → others i ≡ marks i) → HaveValues ks others n ss vs → HaveValues ks marks n ss vs
  values_agree n [] vs same have = have
  values_agree n (s ∷ ss) vs same (v, rest, is, at, more) =
      (v, rest, is, subst (λ m. IsValueAt ks m s v) (same n (omega arith)) at, values_agree (suc n) ss rest (λ i less. same i (omega (arith, less))) more)

  pub first_agrees : (n : ℕ) (ss : List Source) (s : Source) (w : Stored) → ((i : ℕ) → i < n + length ss → others i ≡ marks i) → FirstWithout ks others n ss s w → FirstWithout ks marks n ss s w
  first_agrees n [] s w same first = first
  first_agrees n (t ∷ ts) s w same (inl (marked, is, at, none)) = inl (sym (same n (omega arith)) ∙ marked, is, at, none)
  first_agrees n (t ∷ ts) s w same (inr (readable, rest)) = inr (subst (λ m. IsReadable ks m t) (same n (omega arith)) readable, first_agrees (suc n) ts s w (λ i less. same i (omega (arith, less))) rest)

-- ---- and it is one

same_rows : (ks : List DriverKind) (s : Source) (rows others : List Value) → contents ks s ≡ Some (Rows rows) → contents ks s ≡ Some (Rows others) → rows ≡ others
same_rows ks s rows others at there = let both : Some (Rows rows) ≡ Some (Rows others) = sym at ∙ there in cc

value_one : (ks : List DriverKind) (m : Bool) (s : Source) (v w : Value) → IsValueAt ks m s v → IsValueAt ks m s w → v ≡ w
value_one ks true s v w (rows, at, is) (others, there, it) = is ∙ (ap (source_value s) (same_rows ks s rows others at there) ∙ sym it)
value_one ks false s v w this that = this ∙ sym that

true_again : (a b : Bool) → a ≡ b → a ≡ true → b ≡ true
true_again a b same is = sym same ∙ is

module _ (ks : List DriverKind) (marks others : ℕ → Bool) where
  pub values_one : (n : ℕ) (ss : List Source) (vs ws : List (Name × Value)) → ((i : ℕ) → i < n + length ss → marks i ≡ others i) → HaveValues ks marks n ss vs → HaveValues ks others n ss ws → vs ≡ ws
  values_one n [] vs ws same this that = this ∙ sym that
  values_one n (s ∷ ss) vs ws same (v, rest, is, at, more) (w, left, it, there, again) =
      let one_value : v ≡ w = value_one ks (marks n) s v w at (subst (λ m. IsValueAt ks m s w) (sym (same n (omega arith))) there) in
      let others_too : rest ≡ left = values_one (suc n) ss rest left (λ i less. same i (omega (arith, less))) more again in
      is ∙ (ap₂ (λ x xs. (s.name, x) ∷ xs) one_value others_too ∙ sym it)

  pub first_one : (n : ℕ) (ss : List Source) (s t : Source) (w x : Stored) → ((i : ℕ) → i < n + length ss → marks i ≡ others i) → FirstWithout ks marks n ss s w → FirstWithout ks others n ss t x → (s ≡ t) × (w ≡ x)
  first_one n [] s t w x same this that = absurd this
  first_one n (u ∷ us) s t w x same (inl (marked, is, at, none)) (inl (also, it, there, never)) = (is ∙ sym it, let both : Some w ≡ Some x = sym at ∙ there in cc)
  first_one n (u ∷ us) s t w x same (inl (marked, is, at, none)) (inr (readable, rest)) = absurd (none (subst (λ m. IsReadable ks m u) (true_again (marks n) (others n) (same n (omega arith)) marked) readable))
  first_one n (u ∷ us) s t w x same (inr (readable, rest)) (inl (also, it, there, never)) = absurd (never (subst (λ m. IsReadable ks m u) (true_again (others n) (marks n) (sym (same n (omega arith))) also) readable))
  first_one n (u ∷ us) s t w x same (inr (readable, rest)) (inr (again, left)) = first_one (suc n) us s t w x (λ i less. same i (omega (arith, less))) rest left

  pub none_without : (n : ℕ) (ss : List Source) (s : Source) (w : Stored) (vs : List (Name × Value)) → ((i : ℕ) → i < n + length ss → marks i ≡ others i) → FirstWithout ks marks n ss s w → HaveValues ks others n ss vs → ⊥
  none_without n [] s w vs same this that = this
  none_without n (u ∷ us) s w vs same (inl (marked, is, at, none)) (v, rest, eq, has, more) =
      let value : IsValueAt ks true u v = subst (λ m. IsValueAt ks m u v) (true_again (marks n) (others n) (same n (omega arith)) marked) has in
      none (value.0, value.1)
  none_without n (u ∷ us) s w vs same (inr (readable, left)) (v, rest, eq, has, more) = none_without (suc n) us s w rest (λ i less. same i (omega (arith, less))) left more
