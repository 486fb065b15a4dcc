-- Which sources stand in a term, as it is asked.
use Rattle.std.proofs.Common.{◌≡◌, ℕ, Bool, true, false, not, ◌||◌, List, [], ◌∷◌, map, Option, Some, None, slice_get, refl, sym, ap, subst, ◌∙◌}
use Rattle.std.proofs.Math.Bool.{or_assoc}
use Rattle.std.proofs.lemmas.Option.{slice_get_within}
use Rattle.kl_outcome.specs.Outcome.{Name}
use Rattle.kl_type.specs.Ground.{Ground, Row}
use Rattle.kl_core.specs.declared.term.Term.{Term}
use Rattle.kl_core.specs.declared.term.Term.TheVariants as term
use Rattle.kl_core.proofs.Views.{view_Case}
use Rattle.kl_core.specs.Trees.{Tree, Var, Const, Source, Rec, Proj, Inj, Case, Make, Union, Ext, If, Let, Prim, Trees, no_trees, trees, Parts, no_parts, parts, Arms, no_arms, rest, arm, arms_of, view, view_part, parts_view}
use Rattle.kl_core.specs.Leaves.{LeavesOfTrees, LeavesOfParts, LeavesOfArms}
use Rattle.kl_core.specs.Typing.{CoreTypes, EachType, AllTypes, PartTypes, ArmTypes}
use Rattle.kl_ship.specs.declared.needs.Need.{Need}
use Rattle.kl_ship.specs.declared.source.ShipSource.{ShipSource}
use Rattle.kl_ship.specs.Contents.{types_in, type_in}
use Rattle.kl_ship.specs.Sources.{ground}
use Rattle.kl_ship.specs.Ships.{MayStay}
use Rattle.kl_plan.specs.Typing.{Anywhere, Nowhere, NoSource}
use Rattle.kl_ship.specs.Shipping.{other_view, IsSound, TreesSound, PartsSound, ArmsSound}
use Rattle.kl_ship.specs.Reads.{reads_in, reads_trees, reads_parts, reads_arms}

pub reads_branches : (ps : List (Name × Term)) (last : Arms) → reads_arms (arms_of (map view_part ps) last) ≡ (reads_parts (parts_view ps) || reads_arms last)
reads_branches [] last = refl
reads_branches (p ∷ ps) last = ap (λ b. reads_in (view p.1) || b) (reads_branches ps last) ∙ sym (or_assoc (reads_in (view p.1)) (reads_parts (parts_view ps)) (reads_arms last))

-- of a case whose subject reads none
reads_behind : (t a b : Term) (ps qs : List (Name × Term)) (c : Option Term) (r s : Bool) → t ≡ term.Case a ps c → b ≡ a → r ≡ reads_in (view b) → r ≡ false → qs ≡ ps → s ≡ reads_parts (parts_view qs)
    → reads_in (view t) ≡ (s || reads_arms (other_view c))
reads_behind t a b ps qs c r s e f g h i j =
    let none : reads_in (view a) ≡ false = ap (λ x. reads_in (view x)) (sym f) ∙ sym g ∙ h in
    ap reads_in (ap view e ∙ view_Case a ps c) ∙ ap (λ x. x || reads_arms (arms_of (map view_part ps) (other_view c))) none
    ∙ reads_branches ps (other_view c) ∙ ap (λ x. x || reads_arms (other_view c)) (sym (j ∙ ap (λ x. reads_parts (parts_view x)) i))

pub reads_branch : (t a b : Term) (ps qs : List (Name × Term)) (c : Option Term) (r s : Bool) → t ≡ term.Case a ps c → b ≡ a → r ≡ reads_in (view b) → r ≡ false → qs ≡ ps → s ≡ reads_parts (parts_view qs)
    → s ≡ true → true ≡ reads_in (view t)
reads_branch t a b ps qs c r s e f g h i j k = sym (reads_behind t a b ps qs c r s e f g h i j ∙ ap (λ x. x || reads_arms (other_view c)) k)

pub reads_other : (t a b o d : Term) (ps qs : List (Name × Term)) (c : Option Term) (r s q : Bool) → t ≡ term.Case a ps c → b ≡ a → r ≡ reads_in (view b) → r ≡ false → qs ≡ ps → s ≡ reads_parts (parts_view qs)
    → s ≡ false → c ≡ Some o → d ≡ o → q ≡ reads_in (view d) → q ≡ reads_in (view t)
reads_other t a b o d ps qs c r s q e f g h i j k l m n =
    n ∙ ap (λ x. reads_in (view x)) m ∙ sym (reads_behind t a b ps qs c r s e f g h i j ∙ ap (λ x. x || reads_arms (other_view c)) k ∙ ap (λ x. reads_arms (other_view x)) l)

pub reads_nothing : (t a b : Term) (ps qs : List (Name × Term)) (c : Option Term) (r s : Bool) → t ≡ term.Case a ps c → b ≡ a → r ≡ reads_in (view b) → r ≡ false → qs ≡ ps → s ≡ reads_parts (parts_view qs)
    → s ≡ false → c ≡ None → false ≡ reads_in (view t)
reads_nothing t a b ps qs c r s e f g h i j k l =
    sym (reads_behind t a b ps qs c r s e f g h i j ∙ ap (λ x. x || reads_arms (other_view c)) k ∙ ap (λ x. reads_arms (other_view x)) l)

-- ---- a term in which none is asked for

neither : (a b : Bool) → (a || b) ≡ false → (a ≡ false) × (b ≡ false)
neither false b h = (refl, h)
neither true b h = cc

mutual
  pub no_source : (t : Tree) → reads_in t ≡ false → NoSource t
  no_source (Var x) h = tt
  no_source (Const v) h = tt
  no_source (Source i) h = cc
  no_source (Rec ps) h = no_source_parts ps h
  no_source (Proj l a) h = no_source a h
  no_source (Inj l a) h = no_source a h
  no_source (Case a bs) h = let e = neither (reads_in a) (reads_arms bs) h in (no_source a e.0, no_source_arms bs e.1)
  no_source (Make k ts) h = no_source_trees ts h
  no_source (Union a b) h = let e = neither (reads_in a) (reads_in b) h in (no_source a e.0, no_source b e.1)
  no_source (Ext k b s) h = let e = neither (reads_in b) (reads_in s) h in (no_source b e.0, no_source s e.1)
  no_source (If a b c) h =
      let e = neither (reads_in a) (reads_in b || reads_in c) h in
      let f = neither (reads_in b) (reads_in c) e.1 in
      (no_source a e.0, no_source b f.0, no_source c f.1)
  no_source (Let a b) h = let e = neither (reads_in a) (reads_in b) h in (no_source a e.0, no_source b e.1)
  no_source (Prim c ts) h = no_source_trees ts h

  no_source_trees : (ts : Trees) → reads_trees ts ≡ false → LeavesOfTrees Anywhere Nowhere ts
  no_source_trees no_trees h = tt
  no_source_trees (trees t ts) h = let e = neither (reads_in t) (reads_trees ts) h in (no_source t e.0, no_source_trees ts e.1)

  no_source_parts : (ps : Parts) → reads_parts ps ≡ false → LeavesOfParts Anywhere Nowhere ps
  no_source_parts no_parts h = tt
  no_source_parts (parts l t ps) h = let e = neither (reads_in t) (reads_parts ps) h in (no_source t e.0, no_source_parts ps e.1)

  no_source_arms : (bs : Arms) → reads_arms bs ≡ false → LeavesOfArms Anywhere Nowhere bs
  no_source_arms no_arms h = tt
  no_source_arms (rest c) h = no_source c h
  no_source_arms (arm l b bs) h = let e = neither (reads_in b) (reads_arms bs) h in (no_source b e.0, no_source_arms bs e.1)

-- what stays: a part that may, in which no source is found
pub stays_plain : (u : Need) (t : Tree) (may reads : Bool) → (may ≡ true → MayStay u t) → may ≡ true → reads ≡ reads_in t → not reads ≡ true → MayStay u t × NoSource t
stays_plain u t may reads m h e n = (m h, no_source t (sym e ∙ unread reads n))
  where
    unread : (b : Bool) → not b ≡ true → b ≡ false
    unread false n = refl
    unread true n = cc

-- ---- a term that makes sense

module _ (ss : List ShipSource) where
  -- a source that has a type is one of the list
  abbrev pub Known : ℕ → Ground → Type 0
  Known i t = (s : ShipSource) × (slice_get ss i ≡ Some s) × (t ≡ ground s)

  pub known : (i : ℕ) (t : Ground) → types_in ss i ≡ Some t → Known i t
  known i t e = by (slice_get ss i) refl
    where
      by : (o : Option ShipSource) → slice_get ss i ≡ o → Known i t
      by (Some s) is = (s, is, (let f : Some t ≡ Some (ground s) = sym e ∙ ap type_in is in cc))
      by None is = absurd (let f : Some t ≡ None = sym e ∙ ap type_in is in cc)

  mutual
    pub sound : (t : Tree) (G : List Ground) (s : Ground) → CoreTypes (types_in ss) G t s → IsSound ss t
    sound (Var x) G s h = tt
    sound (Const v) G s h = tt
    sound (Source i) G s h = let k = known i s h.0 in slice_get_within ss i k.0 k.1
    sound (Rec ps) G s h = sound_parts ps G h.0 h.3
    sound (Proj l a) G s h = sound a G _ h.1
    sound (Inj l a) G s h = sound a G h.1 h.5
    sound (Case a bs) G s h = (sound a G _ h.1, sound_arms bs G h.0 s h.3)
    sound (Make k ts) G s h = sound_each ts G h.0 h.3
    sound (Union a b) G s h = (sound a G s h.3, sound b G s h.4)
    sound (Ext k b a) G s h =
        (sound b (h.2 ∷ G) s h.5, sound a G _ h.4, record { near = G; kind = h.1; row = h.2; item = h.0; source = h.4; body = subst (CoreTypes (types_in ss) (h.2 ∷ G) b) h.3 h.5 })
    sound (If a b c) G s h = (sound a G _ h.0, sound b G s h.1, sound c G s h.2)
    sound (Let a b) G s h = (sound a G h.0 h.1, sound b (h.0 ∷ G) s h.2)
    sound (Prim c ts) G s h = sound_all ts G h.0 h.1

    sound_each : (ts : Trees) (G : List Ground) (s : Ground) → EachType (types_in ss) G ts s → TreesSound ss ts
    sound_each no_trees G s h = tt
    sound_each (trees t ts) G s h = (sound t G s h.0, sound_each ts G s h.1)

    sound_all : (ts : Trees) (G : List Ground) (us : List Ground) → AllTypes (types_in ss) G ts us → TreesSound ss ts
    sound_all no_trees G us h = tt
    sound_all (trees t ts) G us h = (sound t G h.0 h.3, sound_all ts G h.1 h.4)

    sound_parts : (ps : Parts) (G : List Ground) (r : Row) → PartTypes (types_in ss) G ps r → PartsSound ss ps
    sound_parts no_parts G r h = tt
    sound_parts (parts l t ps) G r h = (sound t G h.0 h.3, sound_parts ps G h.1 h.4)

    sound_arms : (bs : Arms) (G : List Ground) (r : Row) (s : Ground) → ArmTypes (types_in ss) G bs r s → ArmsSound ss bs
    sound_arms no_arms G r s h = tt
    sound_arms (rest c) G r s h = sound c G s h
    sound_arms (arm l b bs) G r s h = (sound b (h.0 ∷ G) s h.2, sound_arms bs G r s h.3)
