-- A plan has no more scans than its term has sources.
use Rattle.std.proofs.Common.{◌≡◌, ⊎_elim, ℕ, ◌+◌, ◌-◌, ◌≤◌, Bool, List, [], ◌∷◌, length, refl, ap, arith}
use Rattle.kl_value.specs.declared.Kind.{Kind}
use Rattle.kl_core.specs.Trees.{Tree, Trees, Parts, Arms}
use Rattle.kl_sqltext.specs.declared.ast.SqlTest.{SqlTest}
use Rattle.kl_ship.specs.declared.needs.Need.{Need}
use Rattle.kl_ship.specs.declared.needs.Need.TheVariants as need
use Rattle.kl_plan.specs.declared.plan.Scan.{Scan}
use Rattle.kl_ship.specs.declared.source.ShipSource.{ShipSource}
use Rattle.kl_plan.specs.Nodes as node
use Rattle.kl_plan.specs.Nodes.{Node, Nodes, no_nodes, nodes, Fields, no_fields, fields, Branches, no_branches, rest, branch}
use Rattle.kl_ship.specs.Joined.{label_in, columns_at, over_shown, statement}
use Rattle.kl_ship.specs.Ships.{Becomes, TreesBecome, PartsBecome, ArmsBecome, passed_on, ByAsk, Delegates}
use Rattle.kl_ship.specs.Sizes.{sources_in, sources_trees, sources_parts, sources_arms}
use Rattle.kl_ship.proofs.Smaller.{packed_amount, by_amount, joined_amount}

shown_sources : (s : ShipSource) (k : Kind) (ts : List ShipSource) (qs : List SqlTest) (d : Tree) → sources_in (over_shown s ts (statement k s ts qs d).columns d) ≡ sources_in d
shown_sources s k [] qs d = refl
shown_sources s k (t ∷ ts) qs d = packed_amount 0 1 (length (s ∷ t ∷ ts)) (λ p. label_in (statement k s (t ∷ ts) qs d).columns (length (t ∷ ts) - p)) (λ p. columns_at (s ∷ t ∷ ts) (length (t ∷ ts) - p)) 0 d

module _ (ss : List ShipSource) where
  asked_sources : (s : ShipSource) (k : Kind) (b : Tree) (c : Scan) (d : Tree) → ByAsk ss s k b c d → sources_in d ≤ sources_in b
  asked_sources s k b c d w = ⊎_elim
      (λ a. let e = ap sources_in a.1.body in let le = by_amount 0 1 s.abilities.select k 1 b in omega (arith, e, le))
      (λ a. let e = ap sources_in a.1.body in let f = shown_sources s k a.1.joined a.1.tests a.1.behind in let le = joined_amount ss s k 0 1 refl s.abilities.select a.1.joined 1 b a.1.tests a.1.behind a.1.joins in omega (arith, e, f, le))
      w

  mutual
    pub few_scans : (p : Node) (on : Bool) (u : Need) (t : Tree) (n m : ℕ) → Becomes on ss u t n p m → m ≤ n + sources_in t
    few_scans (node.Plain x) on u t n m w = let e = w.next in omega (arith, e)
    few_scans (node.Var x) on u t n m w = let e = w.1 in omega (arith, e)
    few_scans (node.Rec ps) on u t n m w = let e = ap sources_in w.1 in let h = few_fields ps on need.Whole w.0 n m w.2 in omega (arith, e, h)
    few_scans (node.Proj l a) on u t n m w = let e = ap sources_in w.1 in let h = few_scans a on need.Whole w.0 n m w.2 in omega (arith, e, h)
    few_scans (node.Inj l a) on u t n m w = let e = ap sources_in w.1 in let h = few_scans a on need.Whole w.0 n m w.2 in omega (arith, e, h)
    few_scans (node.Case a bs) on u t n m w =
        let e = ap sources_in w.3 in let h = few_scans a on need.Whole w.0 n w.2 w.4 in let g = few_branches bs on (passed_on u) w.1 w.2 m w.5 in omega (arith, e, h, g)
    few_scans (node.Make k ps) on u t n m w = let e = ap sources_in w.1 in let h = few_nodes ps on w.0 n m w.2 in omega (arith, e, h)
    few_scans (node.Union a b) on u t n m w =
        let e = ap sources_in w.3 in let h = few_scans a on (passed_on u) w.0 n w.2 w.4 in let g = few_scans b on (passed_on u) w.1 w.2 m w.5 in omega (arith, e, h, g)
    few_scans (node.Ext k b s) on u t n m w =
        let e = ap sources_in w.4 in
        let h = few_scans b on need.Items w.2 w.3 m w.6 in
        let whole : w.3 + sources_in w.2 ≤ n + (sources_in w.0 + sources_in w.1) = ⊎_elim
        (λ o. let f = ap sources_in o.1 in let g = few_scans s on (need.Source k) w.1 n w.3 o.2 in omega (arith, f, g))
        (λ q. by_delegate k w.0 w.1 n s w.3 w.2 q.1)
        w.5 in
        omega (arith, e, h, whole)
      where
        by_delegate : (k : Kind) (b y : Tree) (n : ℕ) (s : Node) (i : ℕ) (d : Tree) → Delegates ss k b y n s i d → i + sources_in d ≤ n + (sources_in b + sources_in y)
        by_delegate k b y n s i d q =
            let one : sources_in y ≡ 1 = ap sources_in q.is in
            let next = q.next in
            let few = asked_sources q.source k b q.reading d q.ask in
            omega (arith, one, next, few)
    few_scans (node.If a b c) on u t n m w =
        let e = ap sources_in w.5 in let h = few_scans a on need.Whole w.0 n w.3 w.6 in let g = few_scans b on (passed_on u) w.1 w.3 w.4 w.7 in let f = few_scans c on (passed_on u) w.2 w.4 m w.8 in omega (arith, e, h, g, f)
    few_scans (node.Let a b) on u t n m w =
        let e = ap sources_in w.3 in let h = few_scans a on need.Whole w.0 n w.2 w.4 in let g = few_scans b on (passed_on u) w.1 w.2 m w.5 in omega (arith, e, h, g)
    few_scans (node.Prim c ps) on u t n m w = let e = ap sources_in w.1 in let h = few_nodes ps on w.0 n m w.2 in omega (arith, e, h)
    few_scans (node.Scan c) on u t n m w = let e : sources_in t ≡ 1 = ap sources_in w.2 in let f = w.5 in omega (arith, e, f)
    few_scans (node.Join number j how o cs c q b) on u t n m w = absurd w
    few_scans (node.Memo number frees p) on u t n m w = absurd w

    few_nodes : (ps : Nodes) (on : Bool) (ts : Trees) (n m : ℕ) → TreesBecome on ss ts n ps m → m ≤ n + sources_trees ts
    few_nodes no_nodes on ts n m w = let e = w.1 in omega (arith, e)
    few_nodes (nodes p ps) on ts n m w = let e = ap sources_trees w.3 in let h = few_scans p on need.Whole w.0 n w.2 w.4 in let g = few_nodes ps on w.1 w.2 m w.5 in omega (arith, e, h, g)

    few_fields : (ps : Fields) (on : Bool) (u : Need) (ts : Parts) (n m : ℕ) → PartsBecome on ss u ts n ps m → m ≤ n + sources_parts ts
    few_fields no_fields on u ts n m w = let e = w.1 in omega (arith, e)
    few_fields (fields l p ps) on u ts n m w = let e = ap sources_parts w.3 in let h = few_scans p on u w.0 n w.2 w.4 in let g = few_fields ps on u w.1 w.2 m w.5 in omega (arith, e, h, g)

    few_branches : (bs : Branches) (on : Bool) (u : Need) (ts : Arms) (n m : ℕ) → ArmsBecome on ss u ts n bs m → m ≤ n + sources_arms ts
    few_branches no_branches on u ts n m w = let e = w.1 in omega (arith, e)
    few_branches (rest c) on u ts n m w = let e = ap sources_arms w.1 in let h = few_scans c on u w.0 n m w.2 in omega (arith, e, h)
    few_branches (branch l b bs) on u ts n m w = let e = ap sources_arms w.3 in let h = few_scans b on u w.0 n w.2 w.4 in let g = few_branches bs on u w.1 w.2 m w.5 in omega (arith, e, h, g)
