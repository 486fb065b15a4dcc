-- A list of integers as the one source, and a term that reads it twice.
use Rattle.std.proofs.Common.{◌≡◌, ◌≤◌, ℕ, zero, suc, List, [], ◌∷◌, Bool, true, false, Some, slice_get, refl, sym, ap, ◌∙◌, subst, arith}
use Rattle.std.specs.List.{AllByRecursion}
use Rattle.std.proofs.lemmas.Option.{same_Some}
use Rattle.kl_value.specs.declared.Kind.TheVariants as kind
use Rattle.kl_type.specs.Ground.{coll, int, IsGround, ground_of}
use Rattle.kl_type.specs.declared.ground.Ty.{Ty}
use Rattle.kl_type.specs.declared.ground.Ty.TheVariants as ty
use Rattle.kl_type.proofs.GroundLemmas.{ground-Int, ground-Coll}
use Rattle.kl_core.specs.Counts.{nodes_of}
use Rattle.kl_core.specs.Trees.{Tree, Source, Union}
use Rattle.kl_core.specs.Typing.{CoreTypes}
use Rattle.kl_ask.specs.Driver.{Suits}
use Rattle.kl_ask.specs.declared.ask.Abilities.{Abilities}
use Rattle.kl_ship.specs.Contents.{AreSources, MakesSense, type_in, types_in}
use Rattle.kl_ship.specs.Sources.{ground}
use Rattle.kl_ship.specs.declared.source.ShipSource.{ShipSource}

pub list_ground : (t : Ty) → t ≡ ty.Int → ground_of (ty.Coll kind.List t) ≡ coll kind.List int
list_ground t is = ground-Coll kind.List t ∙ ap (coll kind.List) (ap ground_of is ∙ ground-Int)

never : (b : Bool) → b ≡ false → b ≡ true → ⊥
never b e f = let x : false ≡ true = sym e ∙ f in cc

abbrev whole_rows : Abilities
whole_rows = record { select = false; project = false; join = false; unique = false }

pub one_small : (t : Tree) → t ≡ Union (Source 0) (Source 0) → nodes_of t ≤ 16384
one_small t is = subst (λ u. nodes_of u ≤ 16384) (sym is) (omega arith)

module _ (s : ShipSource) (ss : List ShipSource) (one : ss ≡ s ∷ []) (typed : ground s ≡ coll kind.List int) where
  pub one_makes_sense : (t : Tree) → t ≡ Union (Source 0) (Source 0) → MakesSense ss t
  one_makes_sense t is =
      let there : types_in ss 0 ≡ Some (coll kind.List int) = ap (λ xs. type_in (slice_get xs 0)) one ∙ ap Some typed in
      (coll kind.List int, subst (λ u. CoreTypes (types_in ss) [] u (coll kind.List int)) (sym is) (kind.List, int, refl, (there, tt), (there, tt)))

  only_one : (i : ℕ) (x : ShipSource) → slice_get (s ∷ []) i ≡ Some x → s ≡ x
  only_one zero x at = same_Some _ _ at
  only_one (suc i) x at = absurd cc

  pub one_sources : s.abilities ≡ whole_rows → AreSources ss
  one_sources can =
      let suits : Suits s.abilities (ground s) = record {
        collection = (kind.List, int, typed);
        select = λ on. absurd (never s.abilities.select (ap (λ (a : Abilities). a.select) can) on);
        project = λ on. absurd (never s.abilities.project (ap (λ (a : Abilities). a.project) can) on);
        join = λ on. absurd (never s.abilities.join (ap (λ (a : Abilities). a.join) can) on);
        no_list = λ on. absurd (never s.abilities.join (ap (λ (a : Abilities). a.join) can) on);
      } in
      subst AreSources (sym one) (record {
        suited = λ i x at. subst (λ (y : ShipSource). Suits y.abilities (ground y)) (only_one i x at) suits;
        able = λ i j x y at there same. ap (λ (z : ShipSource). z.abilities) (sym (only_one j y there) ∙ only_one i x at);
      })

  pub one_proper : AllByRecursion (λ x. IsGround (ground x)) ss
  one_proper = subst (AllByRecursion (λ x. IsGround (ground x))) (sym one) (subst IsGround (sym typed) tt, tt)
