-- The body over what a statement shows: it makes sense, reads no more sources than before, and weighs less than the loop.
use Rattle.std.proofs.Common.{◌≡◌, ℕ, zero, suc, ◌+◌, ◌*◌, ◌-◌, ◌<◌, ◌≤◌, Bool, true, ◌&&◌, List, [], ◌∷◌, length, Some, slice_get, refl, sym, ap, subst, ◌∙◌, arith}
use Rattle.std.specs.List.{AllByRecursion}
use Rattle.kl_value.specs.declared.Kind.{Kind}
use Rattle.kl_type.specs.Ground.{IsGround, coll}
use Rattle.kl_core.specs.Counts.{nodes_of}
use Rattle.kl_core.specs.Trees.{Tree, Source}
use Rattle.kl_core.specs.Typing.{CoreTypes}
use Rattle.kl_ask.specs.Asks.{item_of}
use Rattle.kl_sqltext.specs.declared.ast.SqlTest.{SqlTest}
use Rattle.kl_ship.specs.declared.needs.Need.TheVariants as need
use Rattle.kl_plan.specs.declared.plan.Scan.{Scan}
use Rattle.kl_ship.specs.declared.source.ShipSource.{ShipSource}
use Rattle.kl_ship.specs.Contents.{AreSources, types_in}
use Rattle.kl_ship.specs.Joined.{Joins, columns_of, columns_at, label_in, over_shown, statement}
use Rattle.kl_ship.specs.Shipping.{IsSound, LoopSense}
use Rattle.kl_ship.specs.Ships.{BySql, IsScan}
use Rattle.kl_ship.specs.Sizes.{amount_in, loops_in, sources_in}
use Rattle.kl_ship.specs.Sources.{fits, ground}
use Rattle.kl_ship.proofs.Sense.{sql_types}
use Rattle.kl_ship.proofs.Shipped.{most_of, weight}
use Rattle.kl_ship.proofs.Smaller.{joined_amount, joined_nodes, packed_amount, packed_less, packed_nodes}
use Rattle.kl_ship.proofs.Sources.{known, sound}

pub one_of : (P : ShipSource → Type 0) (ss : List ShipSource) (i : ℕ) (s : ShipSource) → AllByRecursion P ss → slice_get ss i ≡ Some s → P s
one_of P [] i s h e = absurd cc
one_of P (t ∷ ss) zero s h e = let same : t ≡ s = cc in subst P same h.0
one_of P (t ∷ ss) (suc i) s h e = one_of P ss i s h.1 e

-- ---- how many columns a source has at most

least : (ss : List ShipSource) → 2 ≤ most_of ss
least [] = omega arith
least (s ∷ ss) = let h = least ss in omega (arith, h)

most_columns : (ss : List ShipSource) (i : ℕ) (s : ShipSource) → slice_get ss i ≡ Some s → 2 + 2 * length (columns_of s) ≤ most_of ss
most_columns [] i s e = cc
most_columns (t ∷ ss) zero s e = let same : t ≡ s = cc in let f = ap (λ x. length (columns_of x)) same in let h = least ss in omega (arith, f, h)
most_columns (t ∷ ss) (suc i) s e = let h = most_columns ss i s e in omega (arith, h)

-- each is one of the list
abbrev AreOf : List ShipSource → List ShipSource → Type 0
AreOf ss ts = AllByRecursion (λ t. (i : ℕ) × (slice_get ss i ≡ Some t)) ts

joined_of : (ss : List ShipSource) (s : ShipSource) (k : Kind) (select : Bool) (ts : List ShipSource) (n : ℕ) (b : Tree) (qs : List SqlTest) (d : Tree) → Joins ss s k select n b ts qs d → AreOf ss ts
joined_of ss s k select [] n b qs d w = tt
joined_of ss s k select (t ∷ ts) n b qs d w = ((w.1, w.4.listed), joined_of ss s k true ts (suc n) w.0 w.2 d w.6)

columns_few : (ss ts : List ShipSource) (i : ℕ) → AreOf ss ts → 2 + 2 * length (columns_at ts i) ≤ most_of ss
columns_few ss [] i h = let l = least ss in omega (arith, l)
columns_few ss (t ∷ ts) zero h = most_columns ss h.0.0 t h.0.1
columns_few ss (t ∷ ts) (suc i) h = columns_few ss ts i h.1

-- ---- what is over the shown row

shown_amount : (loop source : ℕ) (s : ShipSource) (k : Kind) (ts : List ShipSource) (qs : List SqlTest) (d : Tree) → amount_in loop source (over_shown s ts (statement k s ts qs d).columns d) ≡ amount_in loop source d
shown_amount loop source s k [] qs d = refl
shown_amount loop source s k (t ∷ ts) qs d =
    packed_amount loop source (length (s ∷ t ∷ ts)) (λ p. label_in (statement k s (t ∷ ts) qs d).columns (length (t ∷ ts) - p)) (λ p. columns_at (s ∷ t ∷ ts) (length (t ∷ ts) - p)) 0 d

shown_nodes : (ss : List ShipSource) (s : ShipSource) (k : Kind) (ts : List ShipSource) (qs : List SqlTest) (d : Tree) → AreOf ss (s ∷ ts) → nodes_of (over_shown s ts (statement k s ts qs d).columns d) ≤ most_of ss * nodes_of d
shown_nodes ss s k [] qs d h = many (most_of ss) (nodes_of d) (least ss)
  where
    many : (m n : ℕ) → 2 ≤ m → n ≤ m * n
    many (suc m) n h = omega arith
    many zero n h = omega (arith, h)
shown_nodes ss s k (t ∷ ts) qs d h =
    packed_nodes (length (s ∷ t ∷ ts)) (λ p. label_in (statement k s (t ∷ ts) qs d).columns (length (t ∷ ts) - p)) (λ p. columns_at (s ∷ t ∷ ts) (length (t ∷ ts) - p))
    (most_of ss) (λ p. columns_few ss (s ∷ t ∷ ts) (length (t ∷ ts) - p) h) 0 d

module _ (ss : List ShipSource) (place : ℕ) (s : ShipSource) (k : Kind) (b : Tree) (c : Scan) (d : Tree) (at : slice_get ss place ≡ Some s) (asked : BySql ss s k b c d) where
  amount_behind : (loop source : ℕ) → loop + source ≡ 1 → amount_in loop source d ≤ amount_in loop source b
  amount_behind loop source one =
      let e = ap (amount_in loop source) asked.body in
      let f = shown_amount loop source s k asked.joined asked.tests asked.behind in
      let g = joined_amount ss s k loop source one s.abilities.select asked.joined 1 b asked.tests asked.behind asked.joins in
      omega (arith, e, f, g)

  pub sources_behind : sources_in d ≤ sources_in b
  sources_behind = amount_behind 0 1 refl

  pub loops_behind : loops_in d ≤ loops_in b
  loops_behind = amount_behind 1 0 refl

  pub weight_behind : weight ss (nodes_of d) (loops_in d) < weight ss (1 + (nodes_of b + 1)) (1 + loops_in b)
  unfolding weight
  weight_behind =
      let e = ap nodes_of asked.body in
      let f = shown_nodes ss s k asked.joined asked.tests asked.behind ((place, at), joined_of ss s k s.abilities.select asked.joined 1 b asked.tests asked.behind asked.joins) in
      let g = joined_nodes ss s k s.abilities.select asked.joined 1 b asked.tests asked.behind asked.joins in
      let h = loops_behind in
      let l = least ss in
      packed_less (most_of ss) (nodes_of d) (nodes_of asked.behind) (1 + (nodes_of b + 1)) (loops_in d) (1 + loops_in b) (omega (arith, l)) (omega (arith, e, f)) (omega (arith, g)) (omega (arith, h))

  module _ (sources : AreSources ss) (proper : IsGround (ground s)) (n : ℕ) (scan : IsScan s (need.Source k) n c) (joins : (fits k s && s.abilities.join) ≡ true) (sense : LoopSense ss k b (Source place)) where
    pub sound_behind : IsSound ss d
    sound_behind =
        let x = known ss place (coll sense.kind sense.row) sense.source.0 in
        let q : Some s ≡ Some x.0 = sym at ∙ x.1 in
        let same : s ≡ x.0 = cc in
        let item : item_of (ground s) ≡ sense.row = ap (λ y. item_of (ground y)) same ∙ ap item_of (sym x.2) in
        let body : CoreTypes (types_in ss) (item_of (ground s) ∷ sense.near) b (coll k sense.item) = subst (λ y. CoreTypes (types_in ss) (y ∷ sense.near) b (coll k sense.item)) (sym item) sense.body in
        let typed = sql_types ss sources (types_in ss) (known ss) place (coll sense.kind sense.row) s k b d n c sense.near sense.item sense.source.0 at scan asked joins proper body in
        sound ss d _ (coll k sense.item) typed

-- ---- a plan in which no work is left
