-- What the calls answer that move the parts of a term where it stands.
use Rattle.std.proofs.Common.{◌≡◌, ℕ, ◌+◌, ◌-◌, ◌^◌, ◌≤◌, ◌<◌, Bool, true, false, Option, Some, None, Result, Ok, Err, IfOk, min, nat_le, refl, sym, ap, ap₂, subst, ◌∙◌, arith}
use Rattle.std.specs.Option.{is_some}
use Rattle.std.proofs.lemmas.Bool.{leb-true, leb-false}
use Rattle.kl_base.specs.declared.memory.NoMemory.{NoMemory}
use Rattle.kl_value.specs.declared.Kind.{Kind}
use Rattle.kl_core.specs.declared.term.Term.{Term}
use Rattle.kl_core.specs.declared.term.Term.TheVariants as term
use Rattle.kl_core.specs.Trees.{Tree, Make, Ext, If, no_trees, view}
use Rattle.kl_core.specs.Positions.{shift_of}
use Rattle.kl_core.specs.Counts.{total_in, nodes_of, depth_of}
use Rattle.kl_core.proofs.Lowering.{one_lowered}
use Rattle.kl_core.proofs.Totals.{total_shift}
use Rattle.kl_core.proofs.Views.{view_If}
use Rattle.kl_rules.specs.Guards.{IsFarther}
use Rattle.kl_rules.specs.Rules.{Rewriting, empty_of, FilterPromotion, ConditionOrder}
use Rattle.kl_rules.specs.Rewriting.{IsShiftable, IsRewritten, Lowers, IsEmptyCollection, AreEmptyCollections}
use Rattle.kl_rules.specs.Moving.{MovesWithin, IsUnordered, IsPromoted, promoted}
use Rattle.kl_rules.proofs.RaisedSizes.{nodes_shift, depth_shift, depth_few}
use Rattle.kl_rules.proofs.Forms.{Tested, tested_view, promotes_of}

-- ---- rule 17

pub order_view : (t c i j e d s f : Term) → t ≡ term.If c i e → j ≡ i → j ≡ term.If d s f → view t ≡ If (view c) (If (view d) (view s) (view f)) (view e)
order_view t c i j e d s f p q r = ap view p ∙ view_If c i e ∙ ap (λ x. If (view c) x (view e)) (ap view (sym q ∙ r) ∙ view_If d s f)

pub exchange_nodes : (t u : Tree) → ConditionOrder t u → nodes_of u ≡ nodes_of t
exchange_nodes t u h =
    let before : nodes_of t ≡ nodes_of (If h.1 (If h.2 h.3 (empty_of h.0)) (empty_of h.0)) = ap nodes_of h.4 in
    let after : nodes_of u ≡ nodes_of (If h.2 (If h.1 h.3 (empty_of h.0)) (empty_of h.0)) = ap nodes_of h.5 in
    omega (arith, before, after)

exchange_deep : (most : ℕ) (t c d s f e : Tree) → t ≡ If c (If d s f) e → most < 2 + depth_of c → (u : Tree) → ConditionOrder t u → depth_of u ≤ most → ⊥
exchange_deep most t c d s f e at over u h low =
    let same : If c (If d s f) e ≡ If h.1 (If h.2 h.3 (empty_of h.0)) (empty_of h.0) = sym at ∙ h.4 in
    let first : c ≡ h.1 = cc in
    let sinks : depth_of c ≡ depth_of h.1 = ap depth_of first in
    let after : depth_of u ≡ depth_of (If h.2 (If h.1 h.3 (empty_of h.0)) (empty_of h.0)) = ap depth_of h.5 in
    omega (arith, over, low, sinks, after)

-- as the call has it
pub ordered_told : (most : ℕ) (t c d s f e : Term) (o : Option Kind) (x : ℕ) → view t ≡ If (view c) (If (view d) (view s) (view f)) (view e) → depth_of (view t) ≤ most → most < 2 ^ 64 → AreEmptyCollections (view e) (view f) o → is_some o ≡ true
    → total_in (view c) ≡ true → total_in (view d) ≡ true → IsFarther (view d) (view c) → x ≡ min (depth_of (view c)) (2 ^ 64 - 1) → IsUnordered most (view t) (nat_le x (most - 2))
ordered_told most t c d s f e None x at within fits empty some first second far sink = absurd cc
ordered_told most t c d s f e (Some k) x at within fits empty some first second far sink = by_bit (nat_le x (most - 2)) refl
  where
    whole : view t ≡ If (view c) (If (view d) (view s) (empty_of k)) (empty_of k)
    whole = at ∙ ap₂ (λ p q. If (view c) (If (view d) (view s) p) q) empty.1 empty.0

    deep : depth_of (view t) ≡ depth_of (If (view c) (If (view d) (view s) (empty_of k)) (empty_of k))
    deep = ap depth_of whole

    by_bit : (b : Bool) → nat_le x (most - 2) ≡ b → IsUnordered most (view t) b
    by_bit true h = (k, view c, view d, view s, whole, first, second, far, (let low = leb-true x (most - 2) h in omega (arith, low, sink, deep, within, fits)))
    by_bit false h = exchange_deep most (view t) (view c) (view d) (view s) (view f) (view e) at (let high = leb-false x (most - 2) h in omega (arith, high, sink, deep, within))

-- ---- rule 3

pub promote_nodes : (t u : Tree) → FilterPromotion t u → nodes_of u ≡ nodes_of t
promote_nodes t u h =
    let before : nodes_of t ≡ nodes_of (Ext h.0 (If (shift_of h.3 0 1) h.2 (empty_of h.1)) h.4) = ap nodes_of h.5 in
    let after : nodes_of u ≡ nodes_of (If h.3 (Ext h.0 h.2 h.4) (empty_of h.1)) = ap nodes_of h.6 in
    omega (arith, before, after, nodes_shift h.3 0 1)

outside_found : (most : ℕ) (t : Term) (p : Tested t) (j : Kind) (r : Result (Option Term) NoMemory) → view p.rest ≡ empty_of j → total_in (view p.test) ≡ true → total_in (view p.source) ≡ true → 2 + depth_of (view p.source) ≤ most
    → Lowers (view p.test) r → IfOk r (λ o. IsPromoted most (view t) o)
outside_found most t p j (Ok (Some w)) rest test drawn sink low =
    (p.kind, j, view p.part, view p.source, tested_view t p ∙ rw (low, rest) refl, sym (total_shift (view w) 0 1) ∙ ap total_in (sym low) ∙ test, drawn, sink)
outside_found most t p j (Ok None) rest test drawn sink low = λ u h d. let g = promotes_of t p u h in low g.1 g.3
outside_found most t p j (Err e) rest test drawn sink low = tt

-- as the call has it
pub outside_told : (most : ℕ) (t : Term) (p : Tested t) (o : Option Kind) (x : ℕ) (r : Result (Option Term) NoMemory) → depth_of (view t) ≤ most → most < 2 ^ 64 → IsEmptyCollection (view p.rest) o → is_some o ≡ true
    → total_in (view p.test) ≡ true → total_in (view p.source) ≡ true → x ≡ min (depth_of (view p.source)) (2 ^ 64 - 1) → x ≤ most - 2 → Lowers (view p.test) r → IfOk r (λ q. IsPromoted most (view t) q)
outside_told most t p None x r within fits empty some test drawn is sink low = absurd cc
outside_told most t p (Some j) x r within fits empty some test drawn is sink low =
    let deep : depth_of (view t) ≡ depth_of (Ext p.kind (If (view p.test) (view p.part) (view p.rest)) (view p.source)) = ap depth_of (tested_view t p) in
    outside_found most t p j r empty test drawn (omega (arith, within, fits, is, sink, deep)) low

pub promote_made : (most : ℕ) (t u w : Term) (o : Option Term) → o ≡ Some w → depth_of (view t) ≤ most → IsPromoted most (view t) o → view u ≡ promoted (view w) (view t) → MovesWithin FilterPromotion most t u true
promote_made most t u w o is within h made =
    let g = subst (IsPromoted most (view t)) is h in
    let now : view u ≡ If (view w) (Ext g.0 g.2 g.3) (empty_of g.1) = made ∙ ap (promoted (view w)) g.4 in
    let before : depth_of (view t) ≡ depth_of (Ext g.0 (If (shift_of (view w) 0 1) g.2 (empty_of g.1)) g.3) = ap depth_of g.4 in
    let after : depth_of (view u) ≡ depth_of (If (view w) (Ext g.0 g.2 g.3) (empty_of g.1)) = ap depth_of now in
    let sink : 2 + depth_of g.3 ≤ most = g.7 in
    ((g.0, g.1, g.2, view w, g.3, g.4, now, g.5, g.6), only g.0 g.1 g.2 g.3 g.4 now, omega (arith, within, before, after, sink, depth_shift (view w) 0 1))
  where
    only : (k j : Kind) (a s : Tree) → view t ≡ Ext k (If (shift_of (view w) 0 1) a (empty_of j)) s → view u ≡ If (view w) (Ext k a s) (empty_of j) → (v : Tree) → FilterPromotion (view t) v → v ≡ view u
    only k j a s at now v r =
        let same : Ext k (If (shift_of (view w) 0 1) a (empty_of j)) s ≡ Ext r.0 (If (shift_of r.3 0 1) r.2 (empty_of r.1)) r.4 = sym at ∙ r.5 in
        let low : shift_of r.3 0 1 ≡ shift_of (view w) 0 1 = cc in
        let test : r.3 ≡ view w = one_lowered r.3 (view w) 0 low in
        let loop : r.0 ≡ k = cc in
        let part : r.2 ≡ a = cc in
        let source : r.4 ≡ s = cc in
        let kinds : Make r.1 no_trees ≡ Make j no_trees = cc in
        let kind : r.1 ≡ j = cc in
        r.6 ∙ rw (test, loop, part, source, kind) (sym now)

-- ---- the same of a copy, however deep

pub shallow : (s t : Term) → t ≡ s → IsShiftable (view s) → depth_of (view t) ≤ 2 ^ 64 - 1
shallow s t e h = let few = depth_few (view s) in let small : nodes_of (view s) < 2 ^ 31 = h.1 in subst (λ (x : Term). depth_of (view x) ≤ 2 ^ 64 - 1) (sym e) (omega (arith, few, small))

module _ (R : Rewriting) (s t u : Term) (b : Bool) (same : t ≡ s) (h : MovesWithin R (2 ^ 64 - 1) t u b) where
  pub copied : b ≡ true → IsRewritten R (view s) (Some u)
  copied is = let g = subst (λ c. MovesWithin R (2 ^ 64 - 1) t u c) is h in subst (λ (x : Term). IsRewritten R (view x) (Some u)) same (g.0, g.1)

  pub not_copied : b ≡ false → IsShiftable (view s) → ((v : Tree) → R (view s) v → nodes_of v ≡ nodes_of (view s)) → IsRewritten R (view s) None
  not_copied is small keeps v r =
      let g = subst (λ c. MovesWithin R (2 ^ 64 - 1) t u c) is h in
      let few = depth_few v in
      let many : nodes_of v ≡ nodes_of (view s) = keeps v r in
      let low : nodes_of (view s) < 2 ^ 31 = small.1 in
      g.1 v (subst (λ (x : Term). R (view x) v) (sym same) r) (omega (arith, few, many, low))
