-- What a record expression makes of its fields, one for each.
use Rattle.std.proofs.Common.{◌≡◌, ◌≢◌, Bool, true, false, not, ◌||◌, cond, List, [], ◌∷◌, Some, None, IsSome, IsTrue, refl, sym, ap, subst, ◌∙◌, true≢false}
use Rattle.std.specs.List.{AllByRecursion}
use Rattle.std.proofs.lemmas.Bool.{or_parts}
use Rattle.kl_base.specs.Fields.{field}
use Rattle.kl_type.specs.Ground.{Row, at}
use Rattle.kl_type.proofs.RowLemmas.{same_label, drops, at_drops}
use Rattle.kl_outcome.specs.Outcome.{Name}
use Rattle.kl_syntax.specs.declared.tree.Word.{Word}
use Rattle.kl_syntax.specs.Syntax.{Exp, Flds, no_flds, flds}
use Rattle.kl_meaning.specs.Match.{same_name}
use Rattle.kl_meaning.specs.Typing.{Context, KnownTypes, FieldTypes, has_field}
use Rattle.kl_meaning.specs.Tidy.{AreTidyFields}
pub use Rattle.kl_prim.proofs.RecordLemmas.{AllApart, in_order_all, in_order_found, in_order_rises}
pub use Rattle.kl_outcome.proofs.RowFields.{IsFieldOf, HasAll, along_row, parts_of_row}

module _ {T : Type 0} (made : Exp → T) (all_made : Flds → List (Name × T)) (none : all_made no_flds ≡ []) (more : (l : Word) (e : Exp) (fs : Flds) → all_made (flds l e fs) ≡ (l.text, made e) ∷ all_made fs) where
  pub has_fields : (fs : Flds) (l : Name) → IsTrue (has_field fs l) → IsSome (field l (all_made fs))
  has_fields no_flds l h = absurd (true≢false (sym h))
  has_fields (flds m e fs) l h = subst (λ ps. IsSome (field l ps)) (sym (more m e fs)) (by_label (same_name l m.text) h (has_fields fs l))
    where
      by_label : (b : Bool) → IsTrue (b || has_field fs l) → (IsTrue (has_field fs l) → IsSome (field l (all_made fs))) → IsSome (cond b (Some (made e)) (field l (all_made fs)))
      by_label true h next = refl
      by_label false h next = next h

  labels_apart : (fs : Flds) (l : Name) → has_field fs l ≡ false → AllByRecursion (λ p. l ≢ p.0) (all_made fs)
  labels_apart no_flds l h = subst (AllByRecursion (λ p. l ≢ p.0)) (sym none) tt
  labels_apart (flds m e fs) l h =
      let both = or_parts (same_name l m.text) (has_field fs l) h in
      subst (AllByRecursion (λ p. l ≢ p.0)) (sym (more m e fs))
      ((λ d. true≢false (sym (subst (λ k. same_name l k ≡ true) d (same_label l)) ∙ both.0)), labels_apart fs l both.1)

  pub fields_apart : (fs : Flds) → AreTidyFields fs → AllApart (all_made fs)
  fields_apart no_flds h = subst AllApart (sym none) tt
  fields_apart (flds l e fs) h = subst AllApart (sym (more l e fs)) (labels_apart fs l.text h.0, fields_apart fs h.2)

-- ---- the labels that are written, apart from those behind `...`

module _ (K : KnownTypes) (G : Context) (r : Row) where
  -- the row of the written labels alone
  abbrev pub written : Flds → Row
  written fs = drops (λ l. not (has_field fs l)) r

  still : (gs fs : Flds) → ((l : Name) → IsTrue (has_field gs l) → IsTrue (has_field fs l)) → FieldTypes gs K G r → FieldTypes gs K G (written fs)
  still no_flds fs within h = tt
  still (flds l e gs) fs within h =
      let here : has_field fs l.text ≡ true = within l.text (rw (same_label l.text) refl) in (
        h.0,
        at_drops (λ m. not (has_field fs m)) l.text r ∙ ap (λ b. cond (not b) None (at l.text r)) here ∙ h.1,
        h.2,
        still gs fs (λ m k. within m (elim (same_name m l.text) as (λ b. IsTrue (b || has_field gs m)) [ true ↦ refl | false ↦ k ])) h.3,
      )

  pub written_types : (fs : Flds) → FieldTypes fs K G r → FieldTypes fs K G (written fs)
  written_types fs h = still fs fs (λ l k. k) h

  pub written_named : (fs : Flds) (l : Name) → IsSome (at l (written fs)) → IsTrue (has_field fs l)
  written_named fs l h = by_test (has_field fs l) (subst IsSome (at_drops (λ m. not (has_field fs m)) l r) h)
    where
      by_test : (b : Bool) → IsSome (cond (not b) None (at l r)) → IsTrue b
      by_test true k = refl
      by_test false k = absurd (true≢false (sym k))
