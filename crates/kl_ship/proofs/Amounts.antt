-- No more scans stand in a plan than its term has nodes.
use Rattle.std.proofs.Common.{◌≡◌, ℕ, zero, suc, ◌≤◌, Bool, List, length, refl, sym, ap, ◌∙◌, arith}
use Rattle.std.proofs.lemmas.List.{length-map}
use Rattle.kl_ask.specs.declared.settings.Settings.{Settings}
use Rattle.kl_core.specs.Counts.{nodes_of, nodes_trees, nodes_parts, nodes_arms}
use Rattle.kl_core.specs.Trees as term
use Rattle.kl_core.specs.Trees.{Tree, Trees, no_trees, trees, Parts, no_parts, parts, Arms, no_arms, arm}
use Rattle.kl_joins.specs.Numbered.{from}
use Rattle.kl_joins.proofs.Amounts.{finished_scans}
use Rattle.kl_ship.specs.declared.needs.Need.TheVariants as need
use Rattle.kl_ship.specs.declared.source.ShipSource.{ShipSource}
use Rattle.kl_plan.specs.Nodes.{Node}
use Rattle.kl_plan.specs.Numbers.{scans_in}
use Rattle.kl_ship.specs.Ships.{Sends}
use Rattle.kl_ship.specs.Whole.{Ships}
use Rattle.kl_ship.proofs.Numbering.{numbers_are}
use Rattle.kl_ship.proofs.ScansFew.{few_scans}
use Rattle.kl_ship.specs.Sizes.{sources_in, sources_trees, sources_parts, sources_arms}

mutual
  pub few : (t : Tree) → sources_in t ≤ nodes_of t
  few (term.Var x) = omega arith
  few (term.Const v) = omega arith
  few (term.Source i) = omega arith
  few (term.Rec ps) = let h = few_parts ps in omega (arith, h)
  few (term.Proj l a) = let h = few a in omega (arith, h)
  few (term.Inj l a) = let h = few a in omega (arith, h)
  few (term.Case a bs) = let h = few a in let g = few_arms bs in omega (arith, h, g)
  few (term.Make k ts) = let h = few_trees ts in omega (arith, h)
  few (term.Union a b) = let h = few a in let g = few b in omega (arith, h, g)
  few (term.Ext k b s) = let h = few b in let g = few s in omega (arith, h, g)
  few (term.If a b c) = let h = few a in let g = few b in let f = few c in omega (arith, h, g, f)
  few (term.Let a b) = let h = few a in let g = few b in omega (arith, h, g)
  few (term.Prim c ts) = let h = few_trees ts in omega (arith, h)

  few_trees : (ts : Trees) → sources_trees ts ≤ nodes_trees ts
  few_trees no_trees = omega arith
  few_trees (trees t ts) = let h = few t in let g = few_trees ts in omega (arith, h, g)

  few_parts : (ps : Parts) → sources_parts ps ≤ nodes_parts ps
  few_parts no_parts = omega arith
  few_parts (parts l t ps) = let h = few t in let g = few_parts ps in omega (arith, h, g)

  few_arms : (bs : Arms) → sources_arms bs ≤ nodes_arms bs
  few_arms no_arms = omega arith
  few_arms (term.rest c) = few c
  few_arms (arm l b bs) = let h = few b in let g = few_arms bs in omega (arith, h, g)

-- a plan has no more scans than its term has nodes
pub sent_most : (ss : List ShipSource) (delegate : Bool) (t : Tree) (p : Node) → Sends delegate ss t p → length (scans_in p) ≤ nodes_of t
sent_most ss delegate t p w =
    let n = numbers_are ss delegate t need.Items 0 p w.0 w.1 in
    let size : length (scans_in p) ≡ n.0 = sym (length-map (scans_in p) (λ c. c.number)) ∙ ap length n.2 ∙ length-from 0 n.0 in
    let last = n.1 in
    let most = few_scans ss p delegate need.Items t 0 w.0 w.1 in
    let least = few t in
    omega (arith, size, last, most, least)
  where
    length-from : (n k : ℕ) → length (from n k) ≡ k
    length-from n zero = refl
    length-from n (suc k) = ap suc (length-from (suc n) k)

pub scans_most : (how : Settings) (ss : List ShipSource) (t : Tree) (p : Node) → Ships how ss t p → length (scans_in p) ≤ nodes_of t
scans_most how ss t p w =
    let same = finished_scans how.join how.cache w.sent p w.finishes in
    let most = sent_most ss how.delegate t w.sent w.sends in
    omega (arith, same, most)
