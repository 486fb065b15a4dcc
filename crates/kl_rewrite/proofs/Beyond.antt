-- Beyond what the rules see at a node: none fits there behind the step that did not before it.
use Rattle.std.specs.Prelude.{◌&&◌, nat_eq}
use Rattle.std.proofs.Common.{◌≡◌, ℕ, zero, suc, ◌+◌, ◌≤◌, ◌<◌, true, false, [], Some, refl, sym, ap, ap₂, subst, ◌∙◌, arith, ⊎_elim, true≢false}
use Rattle.std.proofs.lemmas.Option.{same_Some}
use Rattle.std.proofs.lemmas.Bool.{and_parts, eqb-true, cases_eq}
use Rattle.kl_value.specs.declared.Kind.{Kind}
use Rattle.kl_value.specs.declared.Value.TheVariants as value
use Rattle.kl_core.specs.Trees.{trees, Tree, Var, Const, Source, Rec, Proj, Inj, Case, Make, Union, Ext, If, Let, Prim, no_trees}
use Rattle.kl_core.specs.Positions.{shift_of}
use Rattle.kl_core.specs.Counts.{nodes_of, depth_of}
use Rattle.kl_rules.specs.Rules.{RewriteRule, empty_of, KnownCondition, NestedCondition, ConditionOrder, FilterPromotion}
use Rattle.kl_rules.proofs.RaisedSizes.{depth_shift}
use Rattle.kl_rules.proofs.Moves.{exchange_nodes, promote_nodes}
use Rattle.kl_rewrite.specs.Places.{part_at, with_part}
use Rattle.kl_rewrite.specs.Search.{Made, IsStill}
use Rattle.kl_rewrite.specs.Beyond.{stays_tested, stays_drawn, behind_test, beyond_parts}
use Rattle.kl_rewrite.proofs.RuleForms.{rule_among}

-- ---- behind a test another term is no other test

abbrev Inside : Tree → Tree → Tree → Type 0
Inside b d f = (s : Tree) × (b ≡ If d s f)

inside : (b w d s f : Tree) (j : ℕ) → behind_test (with_part b j w) j ≡ true → with_part b j w ≡ If d s f → Inside b d f
inside (Var x) w d s f j h e = absurd cc
inside (Const v) w d s f j h e = absurd cc
inside (Source i) w d s f j h e = absurd cc
inside (Rec ps) w d s f j h e = absurd cc
inside (Proj l a) w d s f j h e = absurd cc
inside (Inj l a) w d s f j h e = absurd cc
inside (Case a bs) w d s f zero h e = absurd cc
inside (Case a bs) w d s f (suc j) h e = absurd cc
inside (Make k ts) w d s f j h e = absurd cc
inside (Union a b) w d s f zero h e = absurd cc
inside (Union a b) w d s f (suc j) h e = absurd cc
inside (Ext k b r) w d s f zero h e = absurd cc
inside (Ext k b r) w d s f (suc j) h e = absurd cc
inside (If a b c) w d s f zero h e = absurd cc
inside (If a b c) w d s f (suc zero) h e =
    let test : a ≡ d = cc in
    let rest : c ≡ f = cc in
    (b, ap₂ (λ x y. If x b y) test rest)
inside (If a b c) w d s f (suc (suc j)) h e = absurd (let n : suc (suc j) ≡ 1 = eqb-true (suc (suc j)) 1 h in omega (arith, n))
inside (Let a b) w d s f zero h e = absurd cc
inside (Let a b) w d s f (suc j) h e = absurd cc
inside (Prim c ts) w d s f j h e = absurd cc

-- what a rule makes of a term at which nothing is made is too large or too deep
refused : (calm level i : ℕ) (t u : Tree) → IsStill calm level t → RewriteRule i t u → nodes_of u ≤ nodes_of t + calm → level + depth_of u ≤ 512 → ⊥
refused calm level i t u still r small shallow =
    still i u (record { before = t; after = u; stands = refl; rewrites = r; whole = refl; small = small; shallow = omega (arith, shallow) })

-- ---- a condition

module _ (calm level : ℕ) (c b e w : Tree) (j : ℕ) (plain : stays_tested c ≡ true) (at : behind_test (with_part b j w) j ≡ true) (deep : level + depth_of (If c b e) ≤ 512) (still : IsStill calm level (If c b e)) where
  known : (v : Tree) → KnownCondition (If c (with_part b j w) e) v → ⊥
  known v r =
      let same : If c (with_part b j w) e ≡ If (Const (value.Bool r.0)) r.1 r.2 = r.3 in
      let test : c ≡ Const (value.Bool r.0) = cc in
      true≢false (sym plain ∙ ap stays_tested test)

  nested : (v : Tree) → NestedCondition (If c (with_part b j w) e) v → ⊥
  nested v r =
      let same : If c (with_part b j w) e ≡ If (If r.1 r.2 (Const (value.Bool false))) r.3 (empty_of r.0) = r.4 in
      let test : c ≡ If r.1 r.2 (Const (value.Bool false)) = cc in
      true≢false (sym plain ∙ ap stays_tested test)

  ordered : (v : Tree) → level + depth_of v ≤ 512 → ConditionOrder (If c (with_part b j w) e) v → ⊥
  ordered v low r =
      let same : If c (with_part b j w) e ≡ If r.1 (If r.2 r.3 (empty_of r.0)) (empty_of r.0) = r.4 in
      let first : c ≡ r.1 = cc in
      let then : with_part b j w ≡ If r.2 r.3 (empty_of r.0) = cc in
      let rest : e ≡ empty_of r.0 = cc in
      let g = inside b w r.2 r.3 (empty_of r.0) j at then in
      let whole : If c b e ≡ If r.1 (If r.2 g.0 (empty_of r.0)) (empty_of r.0) = ap (λ x. If x b e) first ∙ ap₂ (λ x y. If r.1 x y) g.1 rest in
      let next : Tree = If r.2 (If r.1 g.0 (empty_of r.0)) (empty_of r.0) in
      let rule : ConditionOrder (If c b e) next = (r.0, r.1, r.2, g.0, whole, refl, r.6, r.7, r.8) in
      let many : nodes_of next ≡ nodes_of (If c b e) = exchange_nodes (If c b e) next rule in
      let old : depth_of (If c b e) ≡ depth_of (If r.1 (If r.2 g.0 (empty_of r.0)) (empty_of r.0)) = ap depth_of whole in
      let new : depth_of v ≡ depth_of (If r.2 (If r.1 r.3 (empty_of r.0)) (empty_of r.0)) = ap depth_of r.5 in
      refused calm level 17 (If c b e) next still rule (omega (arith, many)) (omega (arith, deep, low, old, new))

  tested : (i : ℕ) (v : Tree) → level + depth_of v ≤ 512 → RewriteRule i (If c (with_part b j w) e) v → ⊥
  tested i v low r =
      let among = rule_among i (If c (with_part b j w) e) v r in
      let from : 15 ≤ i = among.0 in
      let upto : i < 18 = among.1 in
      ⊎_elim (λ q. known v (subst (λ n. RewriteRule n (If c (with_part b j w) e) v) q r))
      (λ m. ⊎_elim (λ q. nested v (subst (λ n. RewriteRule n (If c (with_part b j w) e) v) q r))
      (λ n. (let last : i ≡ 17 = omega (arith, m, n, from, upto) in ordered v low (subst (λ n. RewriteRule n (If c (with_part b j w) e) v) last r)))
      (cases_eq i 16))
      (cases_eq i 15)

-- ---- a loop

module _ (calm level : ℕ) (k : Kind) (b s w : Tree) (j : ℕ) (plain : stays_drawn s ≡ true) (at : behind_test (with_part b j w) j ≡ true) (deep : level + depth_of (Ext k b s) ≤ 512) (still : IsStill calm level (Ext k b s)) where
  promotes : (v : Tree) → level + depth_of v ≤ 512 → FilterPromotion (Ext k (with_part b j w) s) v → ⊥
  promotes v low r =
      let same : Ext k (with_part b j w) s ≡ Ext r.0 (If (shift_of r.3 0 1) r.2 (empty_of r.1)) r.4 = r.5 in
      let loop : k ≡ r.0 = cc in
      let body : with_part b j w ≡ If (shift_of r.3 0 1) r.2 (empty_of r.1) = cc in
      let source : s ≡ r.4 = cc in
      let g = inside b w (shift_of r.3 0 1) r.2 (empty_of r.1) j at body in
      let whole : Ext k b s ≡ Ext r.0 (If (shift_of r.3 0 1) g.0 (empty_of r.1)) r.4 = ap (λ x. Ext x b s) loop ∙ ap₂ (Ext r.0) g.1 source in
      let next : Tree = If r.3 (Ext r.0 g.0 r.4) (empty_of r.1) in
      let rule : FilterPromotion (Ext k b s) next = (r.0, r.1, g.0, r.3, r.4, whole, refl, r.7, r.8) in
      let many : nodes_of next ≡ nodes_of (Ext k b s) = promote_nodes (Ext k b s) next rule in
      let old : depth_of (Ext k b s) ≡ depth_of (Ext r.0 (If (shift_of r.3 0 1) g.0 (empty_of r.1)) r.4) = ap depth_of whole in
      let new : depth_of v ≡ depth_of (If r.3 (Ext r.0 r.2 r.4) (empty_of r.1)) = ap depth_of r.6 in
      refused calm level 3 (Ext k b s) next still rule (omega (arith, many)) (omega (arith, deep, low, old, new, depth_shift r.3 0 1))

  looped : (i : ℕ) (v : Tree) → level + depth_of v ≤ 512 → RewriteRule i (Ext k (with_part b j w) s) v → ⊥
  looped zero v low r = absurd r
  looped (suc zero) v low r =
      let same : Ext k (with_part b j w) s ≡ Ext r.0 r.2 (Ext r.1 r.3 r.4) = r.5 in
      let source : s ≡ Ext r.1 r.3 r.4 = cc in
      true≢false (sym plain ∙ ap stays_drawn source)
  looped (suc (suc zero)) v low r = absurd (let no : Ext k (with_part b j w) s ≡ Union (Ext r.0 r.1 r.3) (Ext r.0 r.2 r.3) = r.4 in cc)
  looped (suc (suc (suc zero))) v low r = promotes v low r
  looped (suc (suc (suc (suc zero)))) v low r =
      let same : Ext k (with_part b j w) s ≡ Ext r.0 r.2 (empty_of r.1) = r.3 in
      let source : s ≡ empty_of r.1 = cc in
      refused calm level 4 (Ext k b s) (empty_of k) still (k, r.1, b, ap (Ext k b) source, refl) (omega arith) (omega (arith, deep))
  looped (suc (suc (suc (suc (suc zero))))) v low r =
      let same : Ext k (with_part b j w) s ≡ Ext r.0 r.2 (Make r.1 (trees r.3 no_trees)) = r.4 in
      let source : s ≡ Make r.1 (trees r.3 no_trees) = cc in
      let rule : RewriteRule 5 (Ext k b s) (Let r.3 b) = (k, r.1, b, r.3, ap (Ext k b) source, refl) in
      let many : nodes_of s ≡ nodes_of (Make r.1 (trees r.3 no_trees)) = ap nodes_of source in
      let high : depth_of s ≡ depth_of (Make r.1 (trees r.3 no_trees)) = ap depth_of source in
      refused calm level 5 (Ext k b s) (Let r.3 b) still rule (omega (arith, many)) (omega (arith, deep, high))
  looped (suc (suc (suc (suc (suc (suc zero)))))) v low r =
      let same : Ext k (with_part b j w) s ≡ Ext r.0 r.2 (If r.3 r.4 (empty_of r.1)) = r.5 in
      let source : s ≡ If r.3 r.4 (empty_of r.1) = cc in
      true≢false (sym plain ∙ ap stays_drawn source)
  looped (suc (suc (suc (suc (suc (suc (suc zero))))))) v low r =
      let same : Ext k (with_part b j w) s ≡ Ext r.0 r.1 (Let r.2 r.3) = r.4 in
      let source : s ≡ Let r.2 r.3 = cc in
      true≢false (sym plain ∙ ap stays_drawn source)
  looped (suc (suc (suc (suc (suc (suc (suc (suc i)))))))) v low r =
      let among = rule_among (suc (suc (suc (suc (suc (suc (suc (suc i)))))))) (Ext k (with_part b j w) s) v r in
      let upto : suc (suc (suc (suc (suc (suc (suc (suc i))))))) < 8 = among.1 in
      omega (arith, upto)

-- ---- at any node

-- what a step makes there, of the term itself
of_made : (calm level i : ℕ) (t u : Tree) → Made calm level t [] i u → (v : Tree) × (level + depth_of v ≤ 512) × RewriteRule i t v
of_made calm level i t u m = (m.after, omega (arith, m.shallow), subst (λ x. RewriteRule i x m.after) (sym (same_Some t m.before m.stands)) m.rewrites)

pub beyond_still : (calm level : ℕ) (t b w : Tree) (i j : ℕ) → part_at t i ≡ Some b → level + depth_of t ≤ 512 → IsStill calm level t → beyond_parts i j (with_part t i (with_part b j w)) ≡ true → IsStill calm level (with_part t i (with_part b j w))
beyond_still calm level (Var x) b w i j e deep still h = absurd cc
beyond_still calm level (Const v) b w i j e deep still h = absurd cc
beyond_still calm level (Source n) b w i j e deep still h = absurd cc
beyond_still calm level (Rec ps) b w i j e deep still h = absurd cc
beyond_still calm level (Proj l a) b w i j e deep still h = absurd cc
beyond_still calm level (Inj l a) b w i j e deep still h = absurd cc
beyond_still calm level (Case a bs) b w zero j e deep still h = absurd cc
beyond_still calm level (Case a bs) b w (suc i) j e deep still h = absurd cc
beyond_still calm level (Make k ts) b w i j e deep still h = absurd cc
beyond_still calm level (Union a c) b w zero j e deep still h = absurd cc
beyond_still calm level (Union a c) b w (suc i) j e deep still h = absurd cc
beyond_still calm level (Ext k a s) b w zero j e deep still h =
    let p = and_parts (stays_drawn s) (behind_test (with_part b j w) j) h in
    let same : a ≡ b = same_Some a b e in
    λ n u m. let f = of_made calm level n (Ext k (with_part b j w) s) u m in
    looped calm level k b s w j p.0 p.1 (subst (λ x. level + depth_of (Ext k x s) ≤ 512) same deep) (subst (λ x. IsStill calm level (Ext k x s)) same still) n f.0 f.1 f.2
beyond_still calm level (Ext k a s) b w (suc i) j e deep still h = absurd (let n : suc i ≡ 0 = eqb-true (suc i) 0 ((and_parts (nat_eq (suc i) 0) (stays_drawn (with_part b j w)) ((and_parts (nat_eq (suc i) 0 && stays_drawn (with_part b j w)) (behind_test a j) h).0)).0) in omega (arith, n))
beyond_still calm level (If c a d) b w zero j e deep still h = absurd cc
beyond_still calm level (If c a d) b w (suc zero) j e deep still h =
    let p = and_parts (stays_tested c) (behind_test (with_part b j w) j) h in
    let same : a ≡ b = same_Some a b e in
    λ n u m. let f = of_made calm level n (If c (with_part b j w) d) u m in
    tested calm level c b d w j p.0 p.1 (subst (λ x. level + depth_of (If c x d) ≤ 512) same deep) (subst (λ x. IsStill calm level (If c x d)) same still) n f.0 f.1 f.2
beyond_still calm level (If c a d) b w (suc (suc i)) j e deep still h = absurd (let n : suc (suc i) ≡ 1 = eqb-true (suc (suc i)) 1 ((and_parts (nat_eq (suc (suc i)) 1) (stays_tested c) ((and_parts (nat_eq (suc (suc i)) 1 && stays_tested c) (behind_test a j) h).0)).0) in omega (arith, n))
beyond_still calm level (Let a c) b w zero j e deep still h = absurd cc
beyond_still calm level (Let a c) b w (suc i) j e deep still h = absurd cc
beyond_still calm level (Prim c ts) b w i j e deep still h = absurd cc
