-- Which kinds plans have, and how loops draw them.
use Rattle.std.proofs.Common.{◌≡◌, ℕ, true, false, List, ◌∷◌, Option, Some, None, refl, sym, ap, ◌∙◌}
use Rattle.std.specs.Prelude.{⊤}
use Rattle.kl_value.specs.declared.Kind.{Kind}
use Rattle.kl_value.specs.declared.Kind.TheVariants as kind
use Rattle.kl_value.specs.declared.Value.{Value}
use Rattle.kl_type.specs.Ground.{Ground, Row, coll}
use Rattle.kl_outcome.specs.Outcome.{Flow, items_of}
use Rattle.kl_outcome.specs.Typed.{HaveTypes}
use Rattle.kl_core.specs.Counts.{fits_in}
use Rattle.kl_scans.specs.Running.{Running}
use Rattle.kl_plan.specs.declared.plan.Scan.{Scan}
use Rattle.kl_plan.specs.Alike.{Alike}
use Rattle.kl_plan.specs.Kinds.{first_kind, kind_of_items, kind_of_branches}
use Rattle.kl_plan.specs.Meaning.{worth, coming, drawn_for, plan}
use Rattle.kl_plan.specs.Nodes as node
use Rattle.kl_plan.specs.Nodes.{Node, Branches, no_branches, rest, branch}
use Rattle.kl_plan.specs.Typing.{PlanTypes, BranchTypes}
use Rattle.kl_plan.proofs.Comings.{drawn_alike, drawn_fitting}
use Rattle.kl_plan.proofs.KindLaws.{kinds_typed}
use Rattle.kl_plan.proofs.Likeness.{alike_back}
use Rattle.kl_scans.specs.Stage.{stage, ScanOf, MemoOf}
use Rattle.kl_cursor.specs.Drawing.{fits_items, draws}
use Rattle.kl_cursor.specs.Left.{reading}
use Rattle.kl_cursor.specs.Likeness.{Same}
use Rattle.kl_cursor.specs.Sense.{TypesAt, IsToldAt}
use Rattle.kl_cursor.specs.Standing.{StandsSomewhere}
use Rattle.kl_cursor.proofs.Comings.{told_comes}
use Rattle.kl_cursor.proofs.Likes.{same_itself}

-- ---- the kind is that of the type

abbrev pub KindIn : Ground → Option Kind → Type 0
KindIn s (Some k) = (u : Ground) × (s ≡ coll k u)
KindIn s None = ⊤

first_in : (s : Ground) (a b : Option Kind) → KindIn s a → KindIn s b → KindIn s (first_kind a b)
first_in s (Some k) b h g = h
first_in s None b h g = g

module _ (Of : Scan → Ground → Type 0) (Listed : ℕ → List ℕ → Node → Type 0) where
  mutual
    pub kind_in : (p : Node) (G : List Ground) (s : Ground) → PlanTypes Of Listed G p s → KindIn s (kind_of_items p)
    kind_in (node.Case a bs) G s h = kind_in_branches bs G h.0 s h.3
    kind_in (node.Make k ps) G s h = (h.0, h.1)
    kind_in (node.Union a b) G s h = first_in s (kind_of_items a) (kind_of_items b) (kind_in a G s h.3) (kind_in b G s h.4)
    kind_in (node.Ext k b a) G s h = (h.0, h.3)
    kind_in (node.If a b c) G s h = first_in s (kind_of_items b) (kind_of_items c) (kind_in b G s h.1) (kind_in c G s h.2)
    kind_in (node.Let a b) G s h = kind_in b (h.0 ∷ G) s h.2
    kind_in (node.Scan c) G s h = (h.0, h.1)
    kind_in (node.Join n k how o cs i q b) G s h = (h.0, h.4)
    kind_in (node.Memo n frees p) G s h = kind_in p G s h.3
    kind_in (node.Plain t) G s h = tt
    kind_in (node.Var x) G s h = tt
    kind_in (node.Rec ps) G s h = tt
    kind_in (node.Proj l a) G s h = tt
    kind_in (node.Inj l a) G s h = tt
    kind_in (node.Prim c ps) G s h = tt

    kind_in_branches : (bs : Branches) (G : List Ground) (r : Row) (s : Ground) → BranchTypes Of Listed G bs r s → KindIn s (kind_of_branches bs)
    kind_in_branches no_branches G r s h = tt
    kind_in_branches (rest c) G r s h = kind_in c G s h
    kind_in_branches (branch l b bs) G r s h = first_in s (kind_of_items b) (kind_of_branches bs) (kind_in b (h.0 ∷ G) s h.2) (kind_in_branches bs G r s h.3)

-- ---- which kinds fit

fits_set : (j : Kind) → fits_in j kind.Set ≡ true
fits_set kind.Set = refl
fits_set kind.Bag = refl
fits_set kind.List = refl

-- where a set fits, all do
least_fits : (j into : Kind) → fits_in kind.Set into ≡ true → fits_in j into ≡ true
least_fits j kind.Set e = fits_set j
least_fits j kind.Bag e = cc
least_fits j kind.List e = cc

always_set : (o : Option Kind) → fits_items o kind.Set ≡ true
always_set (Some k) = fits_set k
always_set None = refl

-- a plan that is drawn as it comes is of a kind that fits
pub draws_fits : (Of : Scan → Ground → Type 0) (Listed : ℕ → List ℕ → Node → Type 0) (p : Node) (G : List Ground) (j : Kind) (u : Ground) (into : Kind) → PlanTypes Of Listed G p (coll j u) → draws into p ≡ true → fits_in j into ≡ true
draws_fits Of Listed p G j u into h e = by_kind (kind_of_items p) (λ i is. kinds_typed Of Listed p G j u i h is) e
  where
    by_kind : (o : Option Kind) → ((i : Kind) → o ≡ Some i → i ≡ j) → fits_items o into ≡ true → fits_in j into ≡ true
    by_kind (Some i) x f = ap (λ z. fits_in z into) (sym (x i refl)) ∙ f
    by_kind None x f = least_fits j into f

-- ---- how a loop of a kind draws what is told

module _ (env : List Value) (k : Kind) (p : Node) (w : Running) where
  pub drawn_as_comes : draws k p ≡ true → (G : List Ground) (j : Kind) (u : Ground) → HaveTypes G env → TypesAt w G p (coll j u) → IsToldAt w → drawn_for k (plan (reading w) p env) ≡ coming (plan (reading w) p env)
  drawn_as_comes on G j u e h told = drawn_fitting k j u (plan (reading w) p env) (told_comes w p G env (coll j u) e h told) (draws_fits (ScanOf (stage w)) (MemoOf (stage w)) p G j u k h on)

  -- it draws the items of the value, in some order of a bag
  abbrev pub DrawsWhole : Type 0
  DrawsWhole = (G : List Ground) (j : Kind) (u : Ground) → HaveTypes G env → TypesAt w G p (coll j u) → IsToldAt w → Same k (drawn_for k (plan (reading w) p env)) (items_of (worth (plan (reading w) p env)))

  pub not_drawn : draws k p ≡ false → DrawsWhole
  not_drawn off = λ G j u e h told. same_kept k (kind_of_items p) (items_of (worth (plan (reading w) p env))) (drawn_for k (plan (reading w) p env)) off
      (drawn_alike k (coll j u) (plan (reading w) p env) (told_comes w p G env (coll j u) e h told) j u refl).0
    where
      never : true ≡ false → ⊥
      never x = cc

      same_kept : (i : Kind) (o : Option Kind) (f g : Flow) → fits_items o i ≡ false → Alike i f g → Same i g f
      same_kept kind.Set o f g x y = absurd (never (sym (always_set o) ∙ x))
      same_kept kind.Bag o f g x y = alike_back kind.Bag f g y
      same_kept kind.List o f g x y = alike_back kind.List f g y

-- what stands somewhere is one value
pub standing_drawn : (env : List Value) (k : Kind) (p : Node) (w : Running) → StandsSomewhere p → DrawsWhole env k p w
standing_drawn env k (node.Plain t) w s = λ G j u e h told. same_itself k (items_of (worth (plan (reading w) (node.Plain t) env)))
standing_drawn env k (node.Var x) w s = λ G j u e h told. same_itself k (items_of (worth (plan (reading w) (node.Var x) env)))
standing_drawn env k (node.Rec ps) w s = absurd s
standing_drawn env k (node.Proj l a) w s = absurd s
standing_drawn env k (node.Inj l a) w s = absurd s
standing_drawn env k (node.Case a bs) w s = absurd s
standing_drawn env k (node.Make j ps) w s = absurd s
standing_drawn env k (node.Union a b) w s = absurd s
standing_drawn env k (node.Ext j b a) w s = absurd s
standing_drawn env k (node.If a b c) w s = absurd s
standing_drawn env k (node.Let a b) w s = absurd s
standing_drawn env k (node.Prim c ps) w s = absurd s
standing_drawn env k (node.Scan c) w s = absurd s
standing_drawn env k (node.Join n j how o cs i q b) w s = absurd s
standing_drawn env k (node.Memo n frees q) w s = absurd s
