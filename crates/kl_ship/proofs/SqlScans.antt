-- A scan by a statement of loops, from the parts that the code finds.
use Rattle.std.proofs.Common.{◌≡◌, ℕ, ◌+◌, ◌<◌, ◌≤◌, ◌^◌, Bool, true, ◌&&◌, List, [], ◌∷◌, length, map, nat_eq, Option, Some, None, slice_get, refl, sym, ap, subst, ◌∙◌, arith}
use Rattle.std.proofs.lemmas.List.{length-map}
use Rattle.std.specs.List.{IsDistinct}
use Rattle.std.specs.Cmp.Lexicographic.{pointwise}
use Rattle.kl_value.specs.declared.Kind.{Kind}
use Rattle.kl_outcome.specs.Outcome.{Name}
use Rattle.kl_type.specs.Ground.{coll}
use Rattle.kl_core.specs.Trees.{Tree, Source}
use Rattle.kl_core.specs.Typing.{CoreTypes}
use Rattle.kl_outcome.proofs.Having.{both_true}
use Rattle.kl_ask.specs.Asks.{item_of}
use Rattle.kl_ask.specs.declared.ask.Ask.TheVariants as asks
use Rattle.kl_sqltext.specs.declared.ast.SqlTest.{SqlTest}
use Rattle.kl_sqltext.specs.Grammar.{SqlColumn}
use Rattle.kl_sqltext.specs.Reading.{SqlReads}
use Rattle.kl_ship.specs.declared.needs.Need.TheVariants as need
use Rattle.kl_plan.specs.declared.plan.Plan.{Plan}
use Rattle.kl_plan.specs.declared.plan.Plan.TheVariants as plan
use Rattle.kl_plan.specs.declared.plan.Scan.{Scan}
use Rattle.kl_ship.specs.declared.source.ShipSource.{ShipSource}
use Rattle.kl_ship.specs.Contents.{types_in}
use Rattle.kl_ship.specs.Delegation.{body_left}
use Rattle.kl_ship.specs.Joined.{Joins, columns_of, over_shown, statement}
use Rattle.kl_ship.specs.Packed.{over_rows, over_more}
use Rattle.kl_ship.specs.Shipping.{LoopSense, IsStated, behind_statement}
use Rattle.kl_ship.specs.Ships.{IsScan}
use Rattle.kl_ship.specs.Sizes.{loops_in}
use Rattle.kl_ship.specs.Sources.{fits, ground}
use Rattle.kl_ship.specs.Stated.{MayState, StatesLoops}
use Rattle.kl_ship.proofs.PackedShown.{rows_shown}
use Rattle.kl_ship.proofs.Sources.{known}

-- ---- one table or more

pub over_none : (select : Bool) (k : Kind) (cs : List SqlColumn) (all : List (List Name)) (body : Tree) → length all ≤ 1 → over_more select k cs all body ≡ None
over_none select k cs [] body h = refl
over_none select k cs (first ∷ []) body h = refl
over_none select k cs (first ∷ second ∷ all) body h = absurd (omega (arith, h))

pub over_some : (select : Bool) (k : Kind) (cs : List SqlColumn) (all : List (List Name)) (body : Tree) → 1 < length all → over_more select k cs all body ≡ Some (over_rows cs all 0 (body_left select k (length all) body))
over_some select k cs [] body h = absurd (omega (arith, h))
over_some select k cs (first ∷ []) body h = absurd (omega (arith, h))
over_some select k cs (first ∷ second ∷ all) body h = refl

-- ---- what the statement asks for

pub may_state : (ss : List ShipSource) (place : ℕ) (s : ShipSource) (k : Kind) (b : Tree) → slice_get ss place ≡ Some s → LoopSense ss k b (Source place) → (fits k s && s.abilities.join) ≡ true → MayState ss s k b
may_state ss place s k b at sense joins =
    let x = known ss place (coll sense.kind sense.row) sense.source.0 in
    let q : Some s ≡ Some x.0 = sym at ∙ x.1 in
    let same : s ≡ x.0 = cc in
    let item : item_of (ground s) ≡ sense.row = ap (λ y. item_of (ground y)) same ∙ ap item_of (sym x.2) in
    let may = both_true (fits k s) s.abilities.join joins in
    record {
      place = place;
      listed = at;
      fits = may.0;
      join = may.1;
      outside = sense.near;
      drawn = sense.item;
      sense = subst (λ y. CoreTypes (types_in ss) (y ∷ sense.near) b (coll k sense.item)) (sym item) sense.body;
    }

module _ (ss : List ShipSource) (s : ShipSource) (k : Kind) (b : Tree) (text : List ℕ) (cs : List SqlColumn) (all : List (List Name)) (select : Bool) (body : Tree) (q : StatesLoops ss s k b text cs all select body) where
  pub few_tables : 1 + loops_in b ≤ 9000 → length all < 2 ^ 32
  few_tables few = let e = ap length q.all in let f = length-map (s ∷ q.tables) columns_of in let g = q.loops in omega (arith, e, f, g, few)

  rows : (t : ShipSource) (ts : List ShipSource) → length (s ∷ t ∷ ts) ≡ 1 + length (t ∷ ts)
  rows t ts = omega arith

  -- the body behind the statement is what stands over what it shows
  behind : (ts : List ShipSource) (qs : List SqlTest) (d : Option Tree) → all ≡ map columns_of (s ∷ ts) → Joins ss s k s.abilities.select 1 b ts qs (body_left select k (1 + length ts) body)
      → d ≡ over_more select k cs all body → behind_statement s k b d ≡ over_shown s ts cs (body_left select k (1 + length ts) body)
  behind [] qs d e joins is = ap (behind_statement s k b) (is ∙ ap (λ x. over_more select k cs x body) e) ∙ sym joins.1
  behind (t ∷ ts) qs d e joins is =
      ap (behind_statement s k b) (is ∙ ap (λ x. over_more select k cs x body) e)
      ∙ ap (λ n. over_rows cs (map columns_of (s ∷ t ∷ ts)) 0 (body_left select k n body)) (length-map (s ∷ t ∷ ts) columns_of ∙ rows t ts)
      ∙ rows_shown s t ts cs (body_left select k (1 + length (t ∷ ts)) body)

  pub stated_scan : (n : ℕ) (c : Scan) (p : Plan) (d : Option Tree) → p ≡ plan.Scan c → IsScan s (need.Source k) n c → c.ask ≡ asks.Sql text → d ≡ over_more select k cs all body → IsStated ss s k b n p d
  stated_scan n c p d is scan ask packed = (
    c,
    is,
    record {
      scan = scan;
      sql = record {
        joined = q.tables;
        tests = q.tests;
        behind = body_left select k (1 + length q.tables) body;
        joins = q.joins;
        body = behind q.tables q.tests d q.all q.joins packed ∙ ap (λ x. over_shown s q.tables x (body_left select k (1 + length q.tables) body)) q.columns;
        ask = ask ∙ ap asks.Sql q.text;
        reads = subst (λ x. SqlReads x (statement k s q.tables q.tests (body_left select k (1 + length q.tables) body))) q.text q.reads;
        apart = subst (λ x. IsDistinct (pointwise nat_eq) (map (λ y. y.2) x)) q.columns q.apart;
      };
    },
  )
