-- Definitions that are a name.
use Rattle.std.proofs.Common.{◌≡◌, Bool, true, false, ℕ, List, [], ◌∷◌, Option, Some, None, cond, Result, Ok, Err, refl, sym, ap, ◌∙◌, subst}
use Rattle.std.specs.Prelude.{MatchResult, OnOk, nat_eq}
use Rattle.std.specs.Cmp.Lexicographic.{pointwise, same_text}
use Rattle.kl_base.specs.Fields.{field}
use Rattle.kl_type.specs.Ground.{Ground, ground_of}
use Rattle.kl_type.specs.declared.Ty.{Ty}
use Rattle.kl_rows.specs.declared.Scheme.{Scheme}
use Rattle.kl_rows.specs.Places.{a_type}
use Rattle.kl_outcome.specs.Outcome.{Name}
use Rattle.kl_syntax.specs.declared.tree.Decl.{Decl}
use Rattle.kl_syntax.specs.declared.tree.Expr.{Expr}
use Rattle.kl_syntax.specs.declared.tree.Expr.TheVariants as expr
use Rattle.kl_syntax.specs.declared.tree.Pattern.{Pattern}
use Rattle.kl_syntax.specs.declared.tree.Word.{Word}
use Rattle.kl_syntax.specs.Syntax.{Exp}
use Rattle.kl_syntax.specs.View.{view}
use Rattle.kl_meaning.specs.Match.{same_name}
use Rattle.kl_meaning.specs.Run.{code_named}
use Rattle.kl_meaning.specs.Typing.{ValueTypes, Types}
use Rattle.kl_infer.specs.Asking.{OnNoType}
use Rattle.kl_infer.specs.Declaring.{AreMade, Concluded, IsMade}
use Rattle.kl_infer.specs.Inferred.{IsPrincipal}
use Rattle.kl_infer.specs.Names.{Meant, by_value, by_source, by_maybe_code, by_maybe_source, defined, meant, meant_over, meant_first, sort_of, sorts, IsGood}
use Rattle.kl_infer.specs.declared.refusal.Refusal.{Refusal}
use Rattle.kl_infer.specs.declared.refusal.Refusal.TheVariants.{NoMemory}
use Rattle.kl_infer.specs.declared.scope.Known.{Known}
use Rattle.kl_infer.proofs.Views.{view_name}

-- ---- one more owner

pub again_ok : (r : Result Scheme Refusal) (p : Scheme) (P : Ground → Type 0) → MatchResult r (λ s. s ≡ p) (λ e. e ≡ NoMemory) → IsPrincipal a_type p P → Concluded r P
again_ok (Ok s) p P m h = subst (λ (z : Scheme). IsPrincipal a_type z P) (sym m) h
again_ok (Err e) p P m h = subst (λ (z : Refusal). OnNoType z ((t : Ground) → P t → ⊥)) (sym m) tt

pub kept : {X : Type 0} (r : Result X Refusal) (A : Type 0) → A → OnOk r A
kept (Ok x) A h = h
kept (Err e) A h = tt

-- ---- the first source of a name

hides_none : (b : Bool) (o : Option Pattern) (s : Scheme) (m : Meant) (t : Ty) → cond b (defined o s) m ≡ by_source t → m ≡ by_source t
hides_none true (Some q) s m t e = let d : ⊥ = cc in absurd d
hides_none true None s m t e = let d : ⊥ = cc in absurd d
hides_none false o s m t e = e

over_source : (x : Name) (ds : List Decl) (ss : List Scheme) (m : Meant) (t : Ty) → meant_over x ds ss m ≡ by_source t → m ≡ by_source t
over_source x [] ss m t e = e
over_source x (d ∷ ds) [] m t e = e
over_source x (d ∷ ds) (s ∷ ss) m t e = hides_none (same_name x d.name.text) d.param s m t (over_source x ds ss (cond (same_name x d.name.text) (defined d.param s) m) t e)

first_source : (o : Option Ty) (c : Option ℕ) (t : Ty) → by_maybe_source o (by_maybe_code c) ≡ by_source t → o ≡ Some t
first_source (Some u) c t e = let d : u ≡ t = cc in ap Some d
first_source None (Some n) t e = let d : ⊥ = cc in absurd d
first_source None None t e = let d : ⊥ = cc in absurd d

-- ---- a name

module _ (k : Known) (e : Expr) (x : Word) (p : Scheme) (h : e ≡ expr.Name x) where
  to_name : (m : Meant) → meant k x.text ≡ m → IsPrincipal a_type p (λ u. ValueTypes (sort_of m) u) → IsPrincipal a_type p (Types (view e) (sorts k) [])
  to_name m is f = subst (λ (z : Exp). IsPrincipal a_type p (Types z (sorts k) [])) (sym (view_name e x h)) (subst (λ (z : Meant). IsPrincipal a_type p (λ u. ValueTypes (sort_of z) u)) (sym is) f)

  of_name : (m : Meant) → meant k x.text ≡ m → IsPrincipal a_type p (Types (view e) (sorts k) []) → IsPrincipal a_type p (λ u. ValueTypes (sort_of m) u)
  of_name m is f = subst (λ (z : Meant). IsPrincipal a_type p (λ u. ValueTypes (sort_of z) u)) is (subst (λ (z : Exp). IsPrincipal a_type p (Types z (sorts k) [])) (view_name e x h) f)

  -- that stands for the scheme
  pub named_value : meant k x.text ≡ by_value p → ((y : Name) → IsGood (meant k y)) → IsPrincipal a_type p (Types (view e) (sorts k) [])
  named_value is good = let g : IsGood (by_value p) = subst IsGood is (good x.text) in to_name (by_value p) is (record { good = g.0; sort_is = g.1; instances = λ t. ((λ i. i), (λ i. i)); has_one = g.2 })

  -- that stands for a source
  pub named_source : (t : Ty) → meant k x.text ≡ by_source t → IsPrincipal a_type p (Types (view e) (sorts k) []) → IsMade k.sources.now (x.text, p)
  named_source t is f = (t, first_source (field x.text k.sources.now) (code_named x.text) t (over_source x.text k.defs.now k.schemes.now (meant_first x.text k.sources.now) t is), of_name (by_source t) is f)

  pub source_named : (t : Ty) → meant k x.text ≡ by_source t → IsMade k.sources.now (x.text, p) → IsPrincipal a_type p (Types (view e) (sorts k) [])
  source_named t is f =
      let here : field x.text k.sources.now ≡ Some t = first_source (field x.text k.sources.now) (code_named x.text) t (over_source x.text k.defs.now k.schemes.now (meant_first x.text k.sources.now) t is) in
      let same : f.0 ≡ t = some_same f.0 t (sym f.1 ∙ here) in
      to_name (by_source t) is (subst (λ (z : Ty). IsPrincipal a_type p (λ u. ground_of z ≡ u)) same f.2)
    where
      some_same : (a b : Ty) → Some a ≡ Some b → a ≡ b
      some_same a b e = cc

-- ---- what was made

pub made_at : (sources : List (Name × Ty)) (x : Name) (made : List (Name × Scheme)) (p : Scheme) → AreMade sources made → field x made ≡ Some p → IsMade sources (x, p)
made_at sources x [] p h e = let d : ⊥ = cc in absurd d
made_at sources x (m ∷ ms) p h e = here (pointwise nat_eq x m.0) refl (field x ms) (made_at sources x ms p h.1) e
  where
    here : (b : Bool) → b ≡ pointwise nat_eq x m.0 → (o : Option Scheme) → (o ≡ Some p → IsMade sources (x, p)) → cond b (Some m.1) o ≡ Some p → IsMade sources (x, p)
    here true w o go q = let d : m.1 ≡ p = cc in subst (λ (z : Scheme). IsMade sources (x, z)) d (subst (λ (z : Name). IsMade sources (z, m.1)) (sym (same_text x m.0 w)) h.0)
    here false w o go q = go q
