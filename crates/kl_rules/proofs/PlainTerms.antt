-- What tells that a term has one type, form by form.
use Rattle.std.proofs.Common.{◌≡◌, ◌==◌, ◌⊎◌, inl, inr, ℕ, ℤ, arith, Bool, true, false, ◌&&◌, List, [], ◌∷◌, map, length, refl, sym, ap, ◌∙◌, true≢false}
use Rattle.std.proofs.lemmas.Bool.{eqb-true}
use Rattle.std.proofs.Math.Bool.{and_assoc}
use Rattle.kl_value.specs.declared.Kind.{Kind}
use Rattle.kl_value.specs.declared.Value.{Value}
use Rattle.kl_value.specs.declared.Value.TheVariants as value
use Rattle.kl_value.specs.Views.{collection}
use Rattle.kl_outcome.specs.Outcome.{Name}
use Rattle.kl_core.specs.declared.term.Term.{Term}
use Rattle.kl_core.specs.declared.term.Term.TheVariants as term
use Rattle.kl_core.specs.Trees.{view, trees_view, parts_view}
use Rattle.kl_core.proofs.Views.{view_Rec, view_Make}
use Rattle.kl_rules.specs.Guards.{plain_value, all_plain, fields_plain, some_plain, plain_in, plain_trees, plain_parts}
use Rattle.kl_outcome.proofs.Having.{both_true}
use Rattle.kl_rules.proofs.OneType.{plain_at, plain_items, plain_fields, plain_variant}

-- ---- three tests, one after the other

pub front_then : (x y r s v : Bool) → r ≡ x → r ≡ true → s ≡ y → v ≡ s → v ≡ (x && y)
front_then x y r s v e told f g = let one : x ≡ true = sym e ∙ told in rw one (g ∙ f)

pub front_else : (x y r v : Bool) → r ≡ x → r ≡ false → v ≡ false → v ≡ (x && y)
front_else x y r v e not_so f = let one : x ≡ false = sym e ∙ not_so in rw one f

pub all_then : (x y z w v r : Bool) → w ≡ (x && (y && z)) → v ≡ (x && y) → v ≡ true → r ≡ z → r ≡ w
all_then x y z w v r whole front told e =
    let both = both_true x y (sym front ∙ told) in
    e ∙ sym (whole ∙ ap (λ b. b && (y && z)) both.0 ∙ ap (λ b. b && z) both.1)

pub all_else : (x y z w v : Bool) → w ≡ (x && (y && z)) → v ≡ (x && y) → v ≡ false → v ≡ w
all_else x y z w v whole front not_so = not_so ∙ sym (whole ∙ sym (and_assoc x y z) ∙ ap (λ b. b && z) (sym front ∙ not_so))

-- ---- terms

pub plain_rec : (t : Term) (ps qs : List (Name × Term)) (r : Bool) → t ≡ term.Rec ps → qs ≡ ps → r ≡ plain_parts (parts_view qs) → r ≡ plain_in (view t)
plain_rec t ps qs r e f g = g ∙ ap (λ x. plain_parts (parts_view x)) f ∙ sym (ap plain_in (ap view e ∙ view_Rec ps))

some_trees : (k : Kind) (ts : List Term) → (length ts == 0) ≡ false → plain_in (view (term.Make k ts)) ≡ plain_trees (trees_view ts)
some_trees k [] e = absurd (true≢false e)
some_trees k (t ∷ ts) e = ap plain_in (view_Make k (t ∷ ts))

no_trees_plain : (k : Kind) (ts : List Term) → (length ts == 0) ≡ true → plain_in (view (term.Make k ts)) ≡ false
no_trees_plain k [] e = ap plain_in (view_Make k [])
no_trees_plain k (t ∷ ts) e = let none = eqb-true (length (t ∷ ts)) 0 e in absurd (omega (arith, none))

pub plain_make : (t : Term) (k : Kind) (ts us : List Term) (b r : Bool) → t ≡ term.Make k ts → us ≡ ts → b ≡ (length ts == 0) → b ≡ false → r ≡ plain_trees (trees_view us) → r ≡ plain_in (view t)
plain_make t k ts us b r e f g not_so h = h ∙ ap (λ x. plain_trees (trees_view x)) f ∙ sym (ap (λ x. plain_in (view x)) e ∙ some_trees k ts (sym g ∙ not_so))

pub plain_nothing : (t : Term) (k : Kind) (ts : List Term) (b : Bool) → t ≡ term.Make k ts → b ≡ (length ts == 0) → b ≡ true → plain_in (view t) ≡ false
plain_nothing t k ts b e g told = ap (λ x. plain_in (view x)) e ∙ no_trees_plain k ts (sym g ∙ told)

-- ---- values

some_values : (vs : List Value) → (length vs == 0) ≡ false → some_plain (map plain_value vs) ≡ all_plain (map plain_value vs)
some_values [] e = absurd (true≢false e)
some_values (v ∷ vs) e = refl

no_values : (vs : List Value) → (length vs == 0) ≡ true → some_plain (map plain_value vs) ≡ false
no_values [] e = refl
no_values (v ∷ vs) e = let none = eqb-true (length (v ∷ vs)) 0 e in absurd (omega (arith, none))

pub full_value : (k : Kind) (v : Value) (vs ws : List Value) (b r : Bool) → v ≡ collection k vs → ws ≡ vs → b ≡ (length vs == 0) → b ≡ false → r ≡ all_plain (map plain_value ws) → r ≡ plain_value v
full_value k v vs ws b r e f g not_so h = h ∙ ap (λ x. all_plain (map plain_value x)) f ∙ sym (ap plain_value e ∙ plain_items k vs ∙ some_values vs (sym g ∙ not_so))

pub empty_value : (k : Kind) (v : Value) (vs : List Value) (b : Bool) → v ≡ collection k vs → b ≡ (length vs == 0) → b ≡ true → plain_value v ≡ false
empty_value k v vs b e g told = ap plain_value e ∙ plain_items k vs ∙ no_values vs (sym g ∙ told)

pub record_value : (v : Value) (fs gs : List (Name × Value)) (r : Bool) → v ≡ value.Rec fs → gs ≡ fs → r ≡ fields_plain (map (λ f. (f.0, plain_value f.1)) gs) → r ≡ plain_value v
record_value v fs gs r e f g = g ∙ ap (λ x. fields_plain (map (λ f. (f.0, plain_value f.1)) x)) f ∙ sym (ap plain_value e ∙ plain_fields fs)

pub variant_value : (v w : Value) (l : Name) → v ≡ value.Inj l w → false ≡ plain_value v
variant_value v w l e = sym (ap plain_value e ∙ plain_variant l w)

pub scalar_value : (v : Value) → ((b : Bool) × (v ≡ value.Bool b)) ⊎ (((n : ℤ) × (v ≡ value.Int n)) ⊎ ((s : List ℕ) × (v ≡ value.Text s))) → true ≡ plain_value v
scalar_value v (inl h) = sym (ap plain_value h.1 ∙ plain_at _ _ (value.outs-Bool h.0))
scalar_value v (inr (inl h)) = sym (ap plain_value h.1 ∙ plain_at _ _ (value.outs-Int h.0))
scalar_value v (inr (inr h)) = sym (ap plain_value h.1 ∙ plain_at _ _ (value.outs-Text h.0))
