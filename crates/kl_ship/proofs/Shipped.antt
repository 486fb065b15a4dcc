-- What the code of shipping gives, form by form.
use Rattle.std.proofs.Common.{◌≡◌, inl, inr, ℕ, suc, ◌+◌, ◌*◌, ◌^◌, ◌<◌, ◌≤◌, Bool, true, false, ◌&&◌, List, [], ◌∷◌, ◌++◌, drop, get_or, map, length, Option, Some, Result, Ok, Err, IfOk, slice_get, refl, sym, ap, subst, ◌∙◌, arith}
use Rattle.std.proofs.lemmas.List.{drop_all}
use Rattle.kl_base.specs.declared.NoMemory.{NoMemory}
use Rattle.kl_base.proofs.Places.{drop_at}
use Rattle.kl_value.specs.declared.Kind.{Kind}
use Rattle.kl_outcome.specs.Outcome.{Name}
use Rattle.kl_core.specs.declared.term.Term.{Term}
use Rattle.kl_core.specs.declared.term.Term.TheVariants as form
use Rattle.kl_core.specs.Trees as term
use Rattle.kl_core.specs.Trees.{Tree, Trees, Parts, Arms, arm, arms_of, trees_view, parts_view, view as term_view, view_part}
use Rattle.kl_core.specs.Building.{Makes, MakesOfTwo, MakesOfThree}
use Rattle.kl_core.specs.Counts.{nodes_of, nodes_trees, nodes_parts, nodes_arms}
use Rattle.kl_core.proofs.Made.{made, made_of_two, made_of_three}
use Rattle.kl_core.proofs.Views.{view_Rec as view_fields, view_Case as view_cases}
use Rattle.kl_ask.specs.Asks.{columns, item_of}
use Rattle.kl_ask.specs.declared.ask.Ask.TheVariants as asks
use Rattle.kl_ship.specs.declared.needs.Need.{Need}
use Rattle.kl_ship.specs.declared.needs.Need.TheVariants as need
use Rattle.kl_plan.specs.declared.plan.Plan.{Plan}
use Rattle.kl_plan.specs.declared.plan.Plan.TheVariants as plan
use Rattle.kl_plan.specs.declared.plan.Scan.{Scan}
use Rattle.kl_ship.specs.declared.source.ShipSource.{ShipSource}
use Rattle.kl_ship.specs.Delegation.{body_left}
use Rattle.kl_ship.specs.Joined.{columns_of}
use Rattle.kl_plan.specs.Nodes as node
use Rattle.kl_plan.specs.Nodes.{Node, Nodes, no_nodes, nodes, Fields, no_fields, fields, Branches, branches_of, view, view_branch, nodes_view, fields_view}
use Rattle.kl_ship.specs.Ships.{Becomes, TreesBecome, PartsBecome, ArmsBecome, ByAsk, ByRows, IsScan, is_generator, passed_on}
use Rattle.kl_ship.specs.Shipping.{IsSound, TreesSound, PartsSound, ArmsSound, IsStated, behind_statement, other_view, arms_view, UnionBecomes, LoopBecomes, LetBecomes, IfBecomes, CaseBecomes}
use Rattle.kl_plan.specs.Joins.{other_node}
use Rattle.kl_ship.specs.Sizes.{amount_in, amount_of_parts, amount_of_arms, sources_in, sources_trees, sources_parts, loops_in, loops_trees, loops_parts}
use Rattle.kl_ship.specs.Sources.{fits, ground}
use Rattle.kl_ship.proofs.Smaller.{child_less, loops_nodes}
use Rattle.kl_plan.proofs.Views.{view_Rec, view_Case, view_Union, view_Ext, view_If, view_Let, view_Scan}

-- ---- the measure: the nodes of a part, times a power of the most nodes that one becomes over a shown row, for its loops

abbrev pub most_of : List ShipSource → ℕ
most_of [] = 2
most_of (s ∷ ss) = 2 * length (columns_of s) + most_of ss

two_most : (ss : List ShipSource) → 2 ≤ most_of ss
two_most [] = omega arith
two_most (s ∷ ss) = let h = two_most ss in omega (arith, h)

unfoldable pub weight : List ShipSource → ℕ → ℕ → ℕ
weight ss n l = n * most_of ss ^ l

pub smaller : (ss : List ShipSource) (a b s r : ℕ) → a < b → s ≤ r → weight ss a s < weight ss b r
unfolding weight
smaller ss a b s r less few = let some = two_most ss in child_less (most_of ss) a b s r (omega (arith, some)) less few

pub no_smaller : (ss : List ShipSource) (n m l k : ℕ) → n ≡ m → l ≡ k → weight ss n l ≡ weight ss m k
no_smaller ss n m l k e f = ap (λ x. weight ss x l) e ∙ ap (weight ss m) f

-- ---- a case

parts_before : (loop source : ℕ) (ps : List (Name × Term)) (last : Arms) → amount_of_arms loop source (arms_of (map view_part ps) last) ≡ amount_of_parts loop source (parts_view ps) + amount_of_arms loop source last
parts_before loop source [] last = omega arith
parts_before loop source (p ∷ ps) last = let e = parts_before loop source ps last in omega (arith, e)

nodes_branches : (ps : List (Name × Term)) (last : Arms) → nodes_arms (arms_of (map view_part ps) last) ≡ nodes_parts (parts_view ps) + nodes_arms last
nodes_branches [] last = omega arith
nodes_branches (p ∷ ps) last = let e = nodes_branches ps last in omega (arith, e)

pub nodes_case : (t a : Term) (ps : List (Name × Term)) (c : Option Term) → t ≡ form.Case a ps c
    → nodes_of (term_view t) ≡ 1 + (nodes_of (term_view a) + (nodes_parts (parts_view ps) + nodes_arms (other_view c)))
nodes_case t a ps c e = ap nodes_of (ap term_view e ∙ view_cases a ps c) ∙ ap (λ n. 1 + (nodes_of (term_view a) + n)) (nodes_branches ps (other_view c))

pub amount_case : (loop source : ℕ) (t a : Term) (ps : List (Name × Term)) (c : Option Term) → t ≡ form.Case a ps c
    → amount_in loop source (term_view t) ≡ amount_in loop source (term_view a) + (amount_of_parts loop source (parts_view ps) + amount_of_arms loop source (other_view c))
amount_case loop source t a ps c e =
    ap (amount_in loop source) (ap term_view e ∙ view_cases a ps c) ∙ ap (λ n. amount_in loop source (term_view a) + n) (parts_before loop source ps (other_view c))

-- a part has a node
pub some_node : (t : Tree) → 0 < nodes_of t
some_node t = let h = loops_nodes t in omega (arith, h)

module _ (ss : List ShipSource) where
  sound_branches : (ps : List (Name × Term)) (last : Arms) → ArmsSound ss (arms_of (map view_part ps) last) → PartsSound ss (parts_view ps) × ArmsSound ss last
  sound_branches [] last h = (tt, h)
  sound_branches (p ∷ ps) last h = let r = sound_branches ps last h.1 in ((h.0, r.0), r.1)

  pub sound_case : (t a : Term) (ps : List (Name × Term)) (c : Option Term) → t ≡ form.Case a ps c → IsSound ss (term_view t)
      → IsSound ss (term_view a) × PartsSound ss (parts_view ps) × ArmsSound ss (other_view c)
  sound_case t a ps c e h =
      let g : IsSound ss (term.Case (term_view a) (arms_view ps c)) = subst (IsSound ss) (ap term_view e ∙ view_cases a ps c) h in
      let r = sound_branches ps (other_view c) g.1 in
      (g.0, r.0, r.1)

module _ (on : Bool) (ss : List ShipSource) where
  -- branches, and what stands behind them
  arms_become : (v : Need) (ps : List (Name × Term)) (bs : List (Name × Plan)) (n m k : ℕ) (last : Arms) (end : Branches)
      → PartsBecome on ss v (parts_view ps) n (fields_view bs) m → ArmsBecome on ss v last m end k → ArmsBecome on ss v (arms_of (map view_part ps) last) n (branches_of (map view_branch bs) end) k
  arms_become v [] [] n m k last end h g = subst (λ x. ArmsBecome on ss v last x end k) h.1 g
  arms_become v [] (b ∷ bs) n m k last end h g = absurd (let e = h.3 in cc)
  arms_become v (p ∷ ps) [] n m k last end h g = absurd (let e = h.0 in cc)
  arms_become v (p ∷ ps) (b ∷ bs) n m k last end h g =
      let same = apart p.0 b.0 (term_view p.1) h.0 (parts_view ps) h.1 h.3 in (
        h.0,
        arms_of (map view_part ps) last,
        h.2,
        ap (λ l. arm l (term_view p.1) (arms_of (map view_part ps) last)) same.0 ∙ ap (λ x. arm b.0 x (arms_of (map view_part ps) last)) same.1,
        h.4,
        arms_become v ps bs h.2 m k last end (subst (λ y. PartsBecome on ss v y h.2 (fields_view bs) m) (sym same.2) h.5) g,
      )
    where
      apart : (l k : Name) (x y : Tree) (xs ys : Parts) → term.parts l x xs ≡ term.parts k y ys → (l ≡ k) × (x ≡ y) × (xs ≡ ys)
      apart l k x y xs ys e = (cc, cc, cc)

  -- ---- what is made of parts

  pub union_made : (v : Need) (a b : Tree) (n i m : ℕ) (ra rb : Result Plan NoMemory) (r : Result Plan NoMemory) → MakesOfTwo (λ x y. plan.Union x y) ra rb r
      → IfOk ra (λ x. Becomes on ss v a n (view x) i) → IfOk rb (λ y. Becomes on ss v b i (view y) m) → IfOk r (λ p. UnionBecomes on ss v a b n (view p) m)
  union_made v a b n i m ra rb r w h k = made_of_two _ ra rb r _ _ _ w h k (λ x y f g. (view x, view y, i, f, g, view_Union x y))

  pub let_made : (v : Need) (a b : Tree) (n i m : ℕ) (ra rb : Result Plan NoMemory) (r : Result Plan NoMemory) → MakesOfTwo (λ x y. plan.Let x y) ra rb r
      → IfOk ra (λ x. Becomes on ss need.Whole a n (view x) i) → IfOk rb (λ y. Becomes on ss v b i (view y) m) → IfOk r (λ p. LetBecomes on ss v a b n (view p) m)
  let_made v a b n i m ra rb r w h k = made_of_two _ ra rb r _ _ _ w h k (λ x y f g. (view x, view y, i, f, g, view_Let x y))

  pub if_made : (v : Need) (a b c : Tree) (n i j m : ℕ) (ra rb rc : Result Plan NoMemory) (r : Result Plan NoMemory) → MakesOfThree (λ x y z. plan.If x y z) ra rb rc r
      → IfOk ra (λ x. Becomes on ss need.Whole a n (view x) i) → IfOk rb (λ y. Becomes on ss v b i (view y) j) → IfOk rc (λ z. Becomes on ss v c j (view z) m) → IfOk r (λ p. IfBecomes on ss v a b c n (view p) m)
  if_made v a b c n i j m ra rb rc r w h k l = made_of_three _ ra rb rc r _ _ _ _ w h k l (λ x y z e f g. (view x, view y, view z, i, j, e, f, g, view_If x y z))

  pub case_made : (v : Need) (a : Tree) (ps qs : List (Name × Term)) (c : Option Term) (n i j m : ℕ) (ra : Result Plan NoMemory) (rb : Result (List (Name × Plan)) NoMemory) (rc : Result (Option Plan) NoMemory) (r : Result Plan NoMemory)
      → MakesOfThree (λ x y z. plan.Case x y z) ra rb rc r → qs ≡ ps → IfOk ra (λ x. Becomes on ss need.Whole a n (view x) i)
      → IfOk rb (λ bs. PartsBecome on ss v (parts_view qs) i (fields_view bs) j) → IfOk rc (λ o. ArmsBecome on ss v (other_view c) j (other_node o) m) → IfOk r (λ p. CaseBecomes on ss v a (arms_view ps c) n (view p) m)
  case_made v a ps qs c n i j m ra rb rc r w same h k l =
      made_of_three _ ra rb rc r _ _ _ _ w h k l
      (λ x bs o e f g. (view x, branches_of (map view_branch bs) (other_node o), i, e, arms_become v ps bs i j m (other_view c) (other_node o) (subst (λ q. PartsBecome on ss v (parts_view q) i (fields_view bs) j) same f) g, view_Case x bs o))

  -- ---- a part, by its form

  formed : (u : Need) (t : Term) (x : Tree) (n m : ℕ) (p : Plan) (q : Node) → term_view t ≡ x → view p ≡ q → Becomes on ss u x n q m → Becomes on ss u (term_view t) n (view p) m
  formed u t x n m p q e f h = subst (λ y. Becomes on ss u y n (view p) m) (sym e) (subst (λ y. Becomes on ss u x n y m) (sym f) h)

  pub record_made : (u : Need) (t : Term) (ps qs : List (Name × Term)) (n m : ℕ) (ra : Result (List (Name × Plan)) NoMemory) (r : Result Plan NoMemory) → t ≡ form.Rec ps → qs ≡ ps
      → Makes (λ fs. plan.Rec fs) ra r → IfOk ra (λ fs. PartsBecome on ss need.Whole (parts_view qs) n (fields_view fs) m) → IfOk r (λ p. Becomes on ss u (term_view t) n (view p) m)
  record_made u t ps qs n m ra r e same w h =
      made _ ra r _ _ w h
      (λ fs f. formed u t _ n m (plan.Rec fs) _ (ap term_view e ∙ view_fields ps) (view_Rec fs) (parts_view ps, refl, subst (λ q. PartsBecome on ss need.Whole (parts_view q) n (fields_view fs) m) same f))

  -- a form whose parts became those of a plan
  of_form : (P : Node → Type 0) (u : Need) (t : Term) (x : Tree) (n m : ℕ) (r : Result Plan NoMemory) → term_view t ≡ x → ((q : Node) → P q → Becomes on ss u x n q m) → IfOk r (λ p. P (view p)) → IfOk r (λ p. Becomes on ss u (term_view t) n (view p) m)
  of_form P u t x n m (Ok p) e f h = subst (λ y. Becomes on ss u y n (view p) m) (sym e) (f (view p) h)
  of_form P u t x n m (Err none) e f h = tt

  pub if_is : (u v : Need) (a b c : Tree) (n m : ℕ) (q : Node) → v ≡ passed_on u → IfBecomes on ss v a b c n q m → Becomes on ss u (term.If a b c) n q m
  if_is u v a b c n m q f h =
      subst (λ y. Becomes on ss u (term.If a b c) n y m) (sym h.8) (a, b, c, h.3, h.4, refl, h.5, subst (λ z. Becomes on ss z b h.3 h.1 h.4) f h.6, subst (λ z. Becomes on ss z c h.4 h.2 m) f h.7)

  pub case_becomes : (u v : Need) (t a : Term) (ps : List (Name × Term)) (c : Option Term) (n m : ℕ) (r : Result Plan NoMemory) → t ≡ form.Case a ps c → v ≡ passed_on u
      → IfOk r (λ p. CaseBecomes on ss v (term_view a) (arms_view ps c) n (view p) m) → IfOk r (λ p. Becomes on ss u (term_view t) n (view p) m)
  case_becomes u v t a ps c n m r e f = of_form (λ q. CaseBecomes on ss v (term_view a) (arms_view ps c) n q m) u t _ n m r (ap term_view e ∙ view_cases a ps c)
      (λ q h. subst (λ y. Becomes on ss u (term.Case (term_view a) (arms_view ps c)) n y m) (sym h.5) (term_view a, arms_view ps c, h.2, refl, h.3, subst (λ z. ArmsBecome on ss z (arms_view ps c) h.2 h.1 m) f h.4))

  pub scan_made : (u : Need) (place : ℕ) (s : ShipSource) (n i m : ℕ) (ra : Result Scan NoMemory) (r : Result Plan NoMemory) → slice_get ss place ≡ Some s → i ≡ n → m ≡ n + 1
      → Makes (λ c. plan.Scan c) ra r → IfOk ra (λ c. IsScan s u i c) → IfOk ra (λ c. c.ask ≡ asks.Rows s.name (columns (item_of (ground s))) []) → IfOk r (λ p. Becomes on ss u (term.Source place) n (view p) m)
  scan_made u place s n i m ra r at e f w h g =
      made _ ra r _ _ w (both (λ c. IsScan s u i c) (λ c. c.ask ≡ asks.Rows s.name (columns (item_of (ground s))) []) ra h g)
      (λ c z. subst (λ y. Becomes on ss u (term.Source place) n y m) (sym (view_Scan c)) (place, s, refl, at, record { scan = subst (λ q. IsScan s u q c) e z.0; ask = z.1 }, let one : m ≡ suc n = omega (arith, f) in one))
    where
      both : (P Q : Scan → Type 0) (q : Result Scan NoMemory) → IfOk q P → IfOk q Q → IfOk q (λ c. P c × Q c)
      both P Q (Ok c) a b = (a, b)
      both P Q (Err x) a b = tt

  -- ---- loops

  -- a loop whose source becomes a plan
  pub over_plan : (k : Kind) (b a : Tree) (n i m : ℕ) (ra rb r : Result Plan NoMemory) → is_generator on a ≡ false → MakesOfTwo (λ s x. plan.Ext k x s) ra rb r
      → IfOk ra (λ x. Becomes on ss (need.Source k) a n (view x) i) → IfOk rb (λ y. Becomes on ss need.Items b i (view y) m) → IfOk r (λ p. LoopBecomes on ss k b a n (view p) m)
  over_plan k b a n i m ra rb r off w h g =
      made_of_two _ ra rb r _ _ _ w h g (λ x y f e. (view x, view y, b, i, inl (off, refl, f), e, view_Ext k y x))

module _ (ss : List ShipSource) where
  -- a loop over a source to whose driver work of the body is left
  pub over_scan : (k : Kind) (b d : Tree) (place : ℕ) (s : ShipSource) (n i m : ℕ) (c : Scan) (x y : Plan) → slice_get ss place ≡ Some s → x ≡ plan.Scan c → IsScan s (need.Source k) n c → ByAsk ss s k b c d → i ≡ n + 1
      → Becomes true ss need.Items d i (view y) m → LoopBecomes true ss k b (term.Source place) n (view (plan.Ext k y x)) m
  over_scan k b d place s n i m c x y at is scan ask e h =
      let one : i ≡ suc n = omega (arith, e) in
      let shown : view x ≡ node.Scan c = ap view is ∙ view_Scan c in
      (view x, view y, d, i, inr (refl, record { place = place; source = s; reading = c; is = refl; listed = at; plan = shown; scan = scan; ask = ask; next = one }), h, view_Ext k y x)

  pub asked_made : (k : Kind) (b : Tree) (place : ℕ) (s : ShipSource) (n h i m : ℕ) (rc : Result Scan NoMemory) (rx ry r : Result Plan NoMemory) → slice_get ss place ≡ Some s → (fits k s && s.abilities.join) ≡ false → h ≡ n → i ≡ n + 1
      → IfOk rc (λ c. IsScan s (need.Source k) h c) → IfOk rc (λ c. ByRows s k b c (body_left s.abilities.select k 1 b)) → Makes (λ c. plan.Scan c) rc rx
      → IfOk ry (λ y. Becomes true ss need.Items (body_left s.abilities.select k 1 b) i (view y) m) → MakesOfTwo (λ x y. plan.Ext k y x) rx ry r → IfOk r (λ p. LoopBecomes true ss k b (term.Source place) n (view p) m)
  asked_made k b place s n h i m (Ok c) (Ok x) ry r at off e f scan rows w g v =
      made_of_two _ (Ok x) ry r (λ y. y ≡ plan.Scan c) _ _ v w g (λ x y is q. over_scan k b _ place s n i m c x y at is (subst (λ z. IsScan s (need.Source k) z c) e scan) (inl (off, rows)) f q)
  asked_made k b place s n h i m (Ok c) (Err x) ry r at off e f scan rows w g v = made_of_two (λ x y. plan.Ext k y x) (Err x) ry r (λ y. ⊥) _ _ v tt g (λ x y none q. absurd none)
  asked_made k b place s n h i m (Err x) (Ok y) ry r at off e f scan rows w g v = absurd w
  asked_made k b place s n h i m (Err x) (Err y) ry r at off e f scan rows w g v = made_of_two (λ x y. plan.Ext k y x) (Err y) ry r (λ y. ⊥) _ _ v tt g (λ x y none q. absurd none)

  pub stated_made : (k : Kind) (b : Tree) (place : ℕ) (s : ShipSource) (n h i m : ℕ) (p : Plan) (o : Option Tree) (ry r : Result Plan NoMemory) → slice_get ss place ≡ Some s → (fits k s && s.abilities.join) ≡ true → h ≡ n → i ≡ n + 1
      → IsStated ss s k b h p o → IfOk ry (λ y. Becomes true ss need.Items (behind_statement s k b o) i (view y) m) → MakesOfTwo (λ x y. plan.Ext k y x) (Ok p) ry r → IfOk r (λ q. LoopBecomes true ss k b (term.Source place) n (view q) m)
  stated_made k b place s n h i m p o ry r at may e f st g v =
      made_of_two (λ x y. plan.Ext k y x) (Ok p) ry r (λ y. y ≡ p) _ _ v refl g
      (λ x y is q. over_scan k b _ place s n i m st.0 x y at (is ∙ st.1) (subst (λ z. IsScan s (need.Source k) z st.0) e st.2.scan) (inr (may, st.2.sql)) f q)

-- what became of what is left of a body
pub drawn_by : (ss : List ShipSource) (d e : Tree) (n m : ℕ) (r : Result Plan NoMemory) → d ≡ e → IfOk r (λ p. Becomes true ss need.Items e n (view p) m) → IfOk r (λ p. Becomes true ss need.Items d n (view p) m)
drawn_by ss d e n m r same h = subst (λ x. IfOk r (λ p. Becomes true ss need.Items x n (view p) m)) (sym same) h

-- a choice of a front, in a box
pub chosen_by : (ss : List ShipSource) (d a b c : Tree) (n m : ℕ) (p : Plan) (r : Result Plan NoMemory) → d ≡ term.If a b c → IfOk r (λ q. q ≡ p) → IfBecomes true ss need.Items a b c n (view p) m
    → IfOk r (λ q. Becomes true ss need.Items d n (view q) m)
chosen_by ss d a b c n m p (Ok q) same is h =
    subst (λ x. Becomes true ss need.Items x n (view q) m) (sym same) (subst (λ x. Becomes true ss need.Items (term.If a b c) n (view x) m) (sym is) (if_is true ss need.Items need.Items a b c n m (view p) refl h))
chosen_by ss d a b c n m p (Err e) same is h = tt

-- ---- loops over parts

abbrev pub before : List Node → Nodes → Nodes
before [] r = r
before (p ∷ ps) r = nodes p (before ps r)

abbrev pub fields_before : List (Name × Node) → Fields → Fields
fields_before [] r = r
fields_before (f ∷ fs) r = fields f.0 f.1 (fields_before fs r)

before_all : (ps : List Plan) → before (map view ps) no_nodes ≡ nodes_view ps
before_all [] = refl
before_all (p ∷ ps) = ap (nodes (view p)) (before_all ps)

before_one : (ps : List Plan) (p : Plan) (r : Nodes) → before (map view (ps ++ p ∷ [])) r ≡ before (map view ps) (nodes (view p) r)
before_one [] p r = refl
before_one (q ∷ ps) p r = ap (nodes (view q)) (before_one ps p r)

fields_before_all : (fs : List (Name × Plan)) → fields_before (map view_branch fs) no_fields ≡ fields_view fs
fields_before_all [] = refl
fields_before_all (f ∷ fs) = ap (fields f.0 (view f.1)) (fields_before_all fs)

fields_before_one : (fs : List (Name × Plan)) (f : Name × Plan) (r : Fields) → fields_before (map view_branch (fs ++ f ∷ [])) r ≡ fields_before (map view_branch fs) (fields f.0 (view f.1) r)
fields_before_one [] f r = refl
fields_before_one (g ∷ fs) f r = ap (fields g.0 (view g.1)) (fields_before_one fs f r)

-- what was made so far, and whatever the rest becomes, are what the whole becomes
abbrev pub Follows : Bool → List ShipSource → Trees → Trees → ℕ → ℕ → List Plan → Type 0
Follows on ss whole left first now made = (r : Nodes) (m : ℕ) → TreesBecome on ss left now r m → TreesBecome on ss whole first (before (map view made) r) m

abbrev pub FieldsFollow : Bool → List ShipSource → Need → Parts → Parts → ℕ → ℕ → List (Name × Plan) → Type 0
FieldsFollow on ss v whole left first now made = (r : Fields) (m : ℕ) → PartsBecome on ss v left now r m → PartsBecome on ss v whole first (fields_before (map view_branch made) r) m

pub follows_next : (on : Bool) (ss : List ShipSource) (whole left : Trees) (t : Tree) (first now then : ℕ) (made : List Plan) (p : Plan) → Follows on ss whole (term.trees t left) first now made
    → Becomes on ss need.Whole t now (view p) then → Follows on ss whole left first then (made ++ p ∷ [])
follows_next on ss whole left t first now then made p k h r m g =
    subst (λ q. TreesBecome on ss whole first q m) (sym (before_one made p r)) (k (nodes (view p) r) m (t, left, then, refl, h, g))

pub follows_last : (on : Bool) (ss : List ShipSource) (whole : Trees) (first now : ℕ) (made : List Plan) → Follows on ss whole term.no_trees first now made → TreesBecome on ss whole first (nodes_view made) now
follows_last on ss whole first now made k = subst (λ q. TreesBecome on ss whole first q now) (before_all made) (k no_nodes now (refl, refl))

pub fields_follow_next : (on : Bool) (ss : List ShipSource) (v : Need) (whole left : Parts) (l : Name) (t : Tree) (first now then : ℕ) (made : List (Name × Plan)) (k : Name) (p : Plan)
    → FieldsFollow on ss v whole (term.parts l t left) first now made → k ≡ l → Becomes on ss v t now (view p) then → FieldsFollow on ss v whole left first then (made ++ (k, p) ∷ [])
fields_follow_next on ss v whole left l t first now then made k p f e h r m g =
    subst (λ q. PartsBecome on ss v whole first q m) (sym (fields_before_one made (k, p) r)) (f (fields k (view p) r) m (t, left, then, ap (λ x. term.parts x t left) (sym e), h, g))

pub fields_follow_last : (on : Bool) (ss : List ShipSource) (v : Need) (whole : Parts) (first now : ℕ) (made : List (Name × Plan)) → FieldsFollow on ss v whole term.no_parts first now made
    → PartsBecome on ss v whole first (fields_view made) now
fields_follow_last on ss v whole first now made k = subst (λ q. PartsBecome on ss v whole first q now) (fields_before_all made) (k no_fields now (refl, refl))

-- ---- a loop's turn

-- What holds before the term at a place: those left make sense and are no more than all, and what was made so far goes on.
abbrev pub TermsLeft : Bool → List ShipSource → List Term → ℕ → ℕ → ℕ → List Plan → Type 0
TermsLeft on ss ts i first now made =
    TreesSound ss (trees_view (drop i ts)) × (nodes_trees (trees_view (drop i ts)) ≤ nodes_trees (trees_view ts))
    × (loops_trees (trees_view (drop i ts)) ≤ loops_trees (trees_view ts))
    × (now + sources_trees (trees_view (drop i ts)) ≤ first + sources_trees (trees_view ts)) × Follows on ss (trees_view ts) (trees_view (drop i ts)) first now made

module _ (on : Bool) (ss : List ShipSource) (ts : List Term) (i first now : ℕ) (x : Term) (made : List Plan) (at : i < length ts) (e : x ≡ get_or ts i x) (left : TermsLeft on ss ts i first now made) where
  front : trees_view (drop i ts) ≡ term.trees (term_view x) (trees_view (drop (i + 1) ts))
  front = ap trees_view (drop_at ts i x at e)

  nodes_front : nodes_trees (trees_view (drop i ts)) ≡ nodes_of (term_view x) + nodes_trees (trees_view (drop (i + 1) ts))
  nodes_front = ap nodes_trees front

  loops_front : loops_trees (trees_view (drop i ts)) ≡ loops_in (term_view x) + loops_trees (trees_view (drop (i + 1) ts))
  loops_front = ap loops_trees front

  sources_front : sources_trees (trees_view (drop i ts)) ≡ sources_in (term_view x) + sources_trees (trees_view (drop (i + 1) ts))
  sources_front = ap sources_trees front

  sound_front : TreesSound ss (term.trees (term_view x) (trees_view (drop (i + 1) ts)))
  sound_front = subst (TreesSound ss) front left.0

  pub term_nodes : nodes_of (term_view x) ≤ nodes_trees (trees_view ts)
  term_nodes = let a = nodes_front in let b = left.1 in omega (arith, a, b)

  pub term_loops : loops_in (term_view x) ≤ loops_trees (trees_view ts)
  term_loops = let a = loops_front in let b = left.2 in omega (arith, a, b)

  pub term_sources : now + sources_in (term_view x) ≤ first + sources_trees (trees_view ts)
  term_sources = let a = sources_front in let b = left.3 in omega (arith, a, b)

  pub term_sound : IsSound ss (term_view x)
  term_sound = sound_front.0

  pub terms_next : (then : ℕ) (made' : List Plan) (p : Plan) → then ≤ now + sources_in (term_view x) → Becomes on ss need.Whole (term_view x) now (view p) then → made' ≡ made ++ p ∷ [] → TermsLeft on ss ts (i + 1) first then made'
  terms_next then made' p few becomes is =
      let a = nodes_front in let b = left.1 in let c = loops_front in let d = left.2 in let f = sources_front in let g = left.3 in (
        sound_front.1,
        omega (arith, a, b),
        omega (arith, c, d),
        omega (arith, f, g, few),
        subst (Follows on ss (trees_view ts) (trees_view (drop (i + 1) ts)) first then) (sym is)
            (follows_next on ss (trees_view ts) (trees_view (drop (i + 1) ts)) (term_view x) first now then made p (subst (λ q. Follows on ss (trees_view ts) q first now made) front left.4) becomes),
      )

pub terms_last : (on : Bool) (ss : List ShipSource) (ts : List Term) (i first now : ℕ) (made result : List Plan) → length ts ≤ i → TermsLeft on ss ts i first now made → result ≡ made
    → TreesBecome on ss (trees_view ts) first (nodes_view result) now
terms_last on ss ts i first now made result end left is =
    let none : trees_view (drop i ts) ≡ term.no_trees = ap trees_view (drop_all i ts end) in
    subst (λ q. TreesBecome on ss (trees_view ts) first (nodes_view q) now) (sym is)
    (follows_last on ss (trees_view ts) first now made (subst (λ q. Follows on ss (trees_view ts) q first now made) none left.4))

abbrev pub PartsLeft : Bool → List ShipSource → Need → List (Name × Term) → ℕ → ℕ → ℕ → List (Name × Plan) → Type 0
PartsLeft on ss v ps i first now made =
    PartsSound ss (parts_view (drop i ps)) × (nodes_parts (parts_view (drop i ps)) ≤ nodes_parts (parts_view ps))
    × (loops_parts (parts_view (drop i ps)) ≤ loops_parts (parts_view ps))
    × (now + sources_parts (parts_view (drop i ps)) ≤ first + sources_parts (parts_view ps)) × FieldsFollow on ss v (parts_view ps) (parts_view (drop i ps)) first now made

module _ (on : Bool) (ss : List ShipSource) (v : Need) (ps : List (Name × Term)) (i first now : ℕ) (x : Name × Term) (made : List (Name × Plan)) (at : i < length ps) (e : x ≡ get_or ps i x) (left : PartsLeft on ss v ps i first now made) where
  part_front : parts_view (drop i ps) ≡ term.parts x.0 (term_view x.1) (parts_view (drop (i + 1) ps))
  part_front = ap parts_view (drop_at ps i x at e)

  part_nodes_front : nodes_parts (parts_view (drop i ps)) ≡ nodes_of (term_view x.1) + nodes_parts (parts_view (drop (i + 1) ps))
  part_nodes_front = ap nodes_parts part_front

  part_loops_front : loops_parts (parts_view (drop i ps)) ≡ loops_in (term_view x.1) + loops_parts (parts_view (drop (i + 1) ps))
  part_loops_front = ap loops_parts part_front

  part_sources_front : sources_parts (parts_view (drop i ps)) ≡ sources_in (term_view x.1) + sources_parts (parts_view (drop (i + 1) ps))
  part_sources_front = ap sources_parts part_front

  part_sound_front : PartsSound ss (term.parts x.0 (term_view x.1) (parts_view (drop (i + 1) ps)))
  part_sound_front = subst (PartsSound ss) part_front left.0

  pub part_nodes : nodes_of (term_view x.1) ≤ nodes_parts (parts_view ps)
  part_nodes = let a = part_nodes_front in let b = left.1 in omega (arith, a, b)

  pub part_loops : loops_in (term_view x.1) ≤ loops_parts (parts_view ps)
  part_loops = let a = part_loops_front in let b = left.2 in omega (arith, a, b)

  pub part_sources : now + sources_in (term_view x.1) ≤ first + sources_parts (parts_view ps)
  part_sources = let a = part_sources_front in let b = left.3 in omega (arith, a, b)

  pub part_sound : IsSound ss (term_view x.1)
  part_sound = part_sound_front.0

  pub parts_next : (then : ℕ) (made' : List (Name × Plan)) (l : Name) (p : Plan) → then ≤ now + sources_in (term_view x.1) → l ≡ x.0 → Becomes on ss v (term_view x.1) now (view p) then → made' ≡ made ++ (l, p) ∷ []
      → PartsLeft on ss v ps (i + 1) first then made'
  parts_next then made' l p few label becomes is =
      let a = part_nodes_front in let b = left.1 in let c = part_loops_front in let d = left.2 in let f = part_sources_front in let g = left.3 in (
        part_sound_front.1,
        omega (arith, a, b),
        omega (arith, c, d),
        omega (arith, f, g, few),
        subst (FieldsFollow on ss v (parts_view ps) (parts_view (drop (i + 1) ps)) first then) (sym is)
            (fields_follow_next on ss v (parts_view ps) (parts_view (drop (i + 1) ps)) x.0 (term_view x.1) first now then made l p (subst (λ q. FieldsFollow on ss v (parts_view ps) q first now made) part_front left.4) label becomes),
      )

pub parts_last : (on : Bool) (ss : List ShipSource) (v : Need) (ps : List (Name × Term)) (i first now : ℕ) (made result : List (Name × Plan)) → length ps ≤ i → PartsLeft on ss v ps i first now made → result ≡ made
    → PartsBecome on ss v (parts_view ps) first (fields_view result) now
parts_last on ss v ps i first now made result end left is =
    let none : parts_view (drop i ps) ≡ term.no_parts = ap parts_view (drop_all i ps end) in
    subst (λ q. PartsBecome on ss v (parts_view ps) first (fields_view q) now) (sym is)
    (fields_follow_last on ss v (parts_view ps) first now made (subst (λ q. FieldsFollow on ss v (parts_view ps) q first now made) none left.4))

-- ---- parts weigh less than the whole

module _ (ss : List ShipSource) where
  pub same_weight : (t x : Tree) → t ≡ x → weight ss (nodes_of x) (loops_in x) ≡ weight ss (nodes_of t) (loops_in t)
  same_weight t x e = ap (λ y. weight ss (nodes_of y) (loops_in y)) (sym e)

  pub first_of_two : (a b : Tree) → weight ss (nodes_of a) (loops_in a) < weight ss (1 + (nodes_of a + nodes_of b)) (loops_in a + loops_in b)
  first_of_two a b = smaller ss (nodes_of a) (1 + (nodes_of a + nodes_of b)) (loops_in a) (loops_in a + loops_in b) (omega arith) (omega arith)

  pub second_of_two : (a b : Tree) → weight ss (nodes_of b) (loops_in b) < weight ss (1 + (nodes_of a + nodes_of b)) (loops_in a + loops_in b)
  second_of_two a b = smaller ss (nodes_of b) (1 + (nodes_of a + nodes_of b)) (loops_in b) (loops_in a + loops_in b) (omega arith) (omega arith)

  pub first_of_three : (a b c : Tree) → weight ss (nodes_of a) (loops_in a) < weight ss (1 + (nodes_of a + (nodes_of b + nodes_of c))) (loops_in a + (loops_in b + loops_in c))
  first_of_three a b c = smaller ss (nodes_of a) (1 + (nodes_of a + (nodes_of b + nodes_of c))) (loops_in a) (loops_in a + (loops_in b + loops_in c)) (omega arith) (omega arith)

  pub second_of_three : (a b c : Tree) → weight ss (nodes_of b) (loops_in b) < weight ss (1 + (nodes_of a + (nodes_of b + nodes_of c))) (loops_in a + (loops_in b + loops_in c))
  second_of_three a b c = smaller ss (nodes_of b) (1 + (nodes_of a + (nodes_of b + nodes_of c))) (loops_in b) (loops_in a + (loops_in b + loops_in c)) (omega arith) (omega arith)

  pub third_of_three : (a b c : Tree) → weight ss (nodes_of c) (loops_in c) < weight ss (1 + (nodes_of a + (nodes_of b + nodes_of c))) (loops_in a + (loops_in b + loops_in c))
  third_of_three a b c = smaller ss (nodes_of c) (1 + (nodes_of a + (nodes_of b + nodes_of c))) (loops_in c) (loops_in a + (loops_in b + loops_in c)) (omega arith) (omega arith)

  pub body_of_loop : (b a : Tree) → weight ss (nodes_of b) (loops_in b) < weight ss (1 + (nodes_of b + nodes_of a)) (1 + (loops_in b + loops_in a))
  body_of_loop b a = smaller ss (nodes_of b) (1 + (nodes_of b + nodes_of a)) (loops_in b) (1 + (loops_in b + loops_in a)) (omega arith) (omega arith)

  pub source_of_loop : (b a : Tree) → weight ss (nodes_of a) (loops_in a) < weight ss (1 + (nodes_of b + nodes_of a)) (1 + (loops_in b + loops_in a))
  source_of_loop b a = smaller ss (nodes_of a) (1 + (nodes_of b + nodes_of a)) (loops_in a) (1 + (loops_in b + loops_in a)) (omega arith) (omega arith)

  pub body_of_generator : (b : Tree) → weight ss (nodes_of b) (loops_in b) < weight ss (1 + (nodes_of b + 1)) (1 + loops_in b)
  body_of_generator b = smaller ss (nodes_of b) (1 + (nodes_of b + 1)) (loops_in b) (1 + loops_in b) (omega arith) (omega arith)

  pub subject_of_case : (a : Tree) (n m l k : ℕ) → weight ss (nodes_of a) (loops_in a) < weight ss (1 + (nodes_of a + (n + m))) (loops_in a + (l + k))
  subject_of_case a n m l k = smaller ss (nodes_of a) (1 + (nodes_of a + (n + m))) (loops_in a) (loops_in a + (l + k)) (omega arith) (omega arith)

  pub branches_of_case : (a : Tree) (n m l k : ℕ) → weight ss (1 + n) l < weight ss (1 + (nodes_of a + (n + m))) (loops_in a + (l + k))
  branches_of_case a n m l k = let some = some_node a in smaller ss (1 + n) (1 + (nodes_of a + (n + m))) l (loops_in a + (l + k)) (omega (arith, some)) (omega arith)

  pub other_of_case : (a : Tree) (n m l k : ℕ) → weight ss (1 + m) k < weight ss (1 + (nodes_of a + (n + m))) (loops_in a + (l + k))
  other_of_case a n m l k = let some = some_node a in smaller ss (1 + m) (1 + (nodes_of a + (n + m))) k (loops_in a + (l + k)) (omega (arith, some)) (omega arith)

  -- one of several parts
  pub one_of_all : (t : Tree) (n l : ℕ) → nodes_of t ≤ n → loops_in t ≤ l → weight ss (nodes_of t) (loops_in t) < weight ss (1 + n) l
  one_of_all t n l few low = smaller ss (nodes_of t) (1 + n) (loops_in t) l (omega (arith, few)) low
