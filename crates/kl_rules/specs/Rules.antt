-- The rules of rewriting, on positions. Each is written with names in its comment, with x bound by the loop or by the `Let`,
-- and bound names are renamed apart: a part that comes to stand under one more binder is raised by one, behind its own
-- binder where it has one. `x not in c` is said on the left side: c stands there as a term that was raised by one. Total is a
-- term in which no primitive may overflow.
use Rattle.std.specs.Prelude.{◌≡◌, ◌≢◌, ℕ, zero, suc, Bool, true, false, cond, nat_eq, List, [], ◌∷◌, Option, Some, None}
use Rattle.std.specs.Cmp.Lexicographic.{pointwise}
use Rattle.std.specs.List.Sorted.{IsStrictlySortedBy}
use Rattle.kl_base.specs.Fields.{bytes_cmp}
use Rattle.kl_value.specs.declared.Kind.{Kind}
use Rattle.kl_value.specs.declared.Kind.TheVariants as kind
use Rattle.kl_value.specs.declared.Value.TheVariants as value
use Rattle.kl_outcome.specs.Outcome.{Name}
use Rattle.kl_core.specs.Trees.{Tree, Const, Rec, Proj, Inj, Case, Make, Union, Ext, If, Let, no_trees, trees, Parts, no_parts}
use Rattle.kl_core.specs.Trees.{parts, Arms, no_arms, rest, arm}
use Rattle.kl_core.specs.Positions.{shift_of, subst_of}
use Rattle.kl_core.specs.Counts.{total_in, total_parts, fits_in}
use Rattle.kl_rules.specs.Guards.{IsCheap, uses_in, IsFarther, plain_in}
use Rattle.kl_rules.specs.Unpacking.{labels_at, turned_onto, bound_round, packed}

-- the empty collection of a kind
abbrev pub empty_of : Kind → Tree
empty_of k = Make k no_trees

-- which term turns into which
abbrev pub Rewriting : Type 1
Rewriting = Tree → Tree → Type 0

-- 1. Vertical fusion: `Ext(k, x. a, Ext(j, y. b, s))` is `Ext(k, y. Ext(k, x. a, b), s)`, where items of a source of kind j
-- may be drawn as they come for a result of kind k.
abbrev pub VerticalFusion : Rewriting
VerticalFusion t u = (k j : Kind) × (a b s : Tree) × (t ≡ Ext k a (Ext j b s)) × (u ≡ Ext k (Ext k (shift_of a 1 1) b) s)
    × (fits_in j k ≡ true)

-- 2. Horizontal fusion: `Union(Ext(k, x. a, s), Ext(k, x. b, s))` is `Ext(k, x. Union(a, b), s)`, where k is set or bag, and s
-- has one type.
abbrev pub HorizontalFusion : Rewriting
HorizontalFusion t u = (k : Kind) × (a b s : Tree) × (t ≡ Union (Ext k a s) (Ext k b s)) × (u ≡ Ext k (Union a b) s)
    × (k ≢ kind.List) × (plain_in s ≡ true)

-- 3. Filter promotion: `Ext(k, x. If(c, a, Make(j, [])), s)` is `If(c, Ext(k, x. a, s), Make(j, []))`, where x is not in c, and c
-- and s are total.
abbrev pub FilterPromotion : Rewriting
FilterPromotion t u =
    (k j : Kind) × (a c s : Tree) × (t ≡ Ext k (If (shift_of c 0 1) a (empty_of j)) s)
    × (u ≡ If c (Ext k a s) (empty_of j)) × (total_in c ≡ true) × (total_in s ≡ true)

-- 4. `Ext(k, x. a, Make(j, []))` is `Make(k, [])`.
abbrev pub EmptySource : Rewriting
EmptySource t u = (k j : Kind) × (a : Tree) × (t ≡ Ext k a (empty_of j)) × (u ≡ empty_of k)

-- 5. `Ext(k, x. a, Make(j, [s]))` is `Let(x = s, a)`.
abbrev pub SingletonSource : Rewriting
SingletonSource t u = (k j : Kind) × (a s : Tree) × (t ≡ Ext k a (Make j (trees s no_trees))) × (u ≡ Let s a)

-- 6. `Ext(k, x. a, If(c, s, Make(j, [])))` is `If(c, Ext(k, x. a, s), Make(k, []))`.
abbrev pub ConditionalSource : Rewriting
ConditionalSource t u = (k j : Kind) × (a c s : Tree) × (t ≡ Ext k a (If c s (empty_of j))) × (u ≡ If c (Ext k a s) (empty_of k))

-- 7. `Ext(k, x. a, Let(y = b, s))` is `Let(y = b, Ext(k, x. a, s))`.
abbrev pub LetSource : Rewriting
LetSource t u = (k : Kind) × (a b s : Tree) × (t ≡ Ext k a (Let b s)) × (u ≡ Let b (Ext k (shift_of a 1 1) s))

-- 8. `Let(x = s, a)` is a, where x is not in a, and s is total.
abbrev pub DeadLet : Rewriting
DeadLet t u = (a s : Tree) × (t ≡ Let s (shift_of a 0 1)) × (u ≡ a) × (total_in s ≡ true)

-- 9. `Let(x = s, a)` is a with s for x, where s is a path, a constant or a source.
abbrev pub CopyPropagation : Rewriting
CopyPropagation t u = (a s : Tree) × (t ≡ Let s a) × (u ≡ subst_of a 0 s) × IsCheap s

-- 10. `Let(x = s, a)` is a with s for x, where s is total, and x stands once in a, in no body of a loop.
abbrev pub InlinedOnce : Rewriting
InlinedOnce t u = (a s : Tree) × (t ≡ Let s a) × (u ≡ subst_of a 0 s) × (total_in s ≡ true) × (uses_in 0 a ≡ 1)

-- 11. Scalar replacement: `Let(x = Rec(l1 = t1, .. ln = tn), a)` is `Let(y1 = t1, .. Let(yn = tn, b))`, where x stands in a only
-- as `Proj(li, x)`, and b has yi there. The left side is made from b. Labels rise, as in each record that makes sense.
abbrev pub ScalarReplacement : Rewriting
ScalarReplacement t u =
    (b : Tree) × (ps : Parts) × (t ≡ Let (Rec ps) (packed (turned_onto (labels_at ps) []) 0 b))
    × (u ≡ bound_round ps 0 b) × IsStrictlySortedBy bytes_cmp (labels_at ps)

-- 12. `Let(x = Let(y = s, b), a)` is `Let(y = s, Let(x = b, a))`.
abbrev pub LetOfLet : Rewriting
LetOfLet t u = (a b s : Tree) × (t ≡ Let (Let s b) a) × (u ≡ Let s (Let b (shift_of a 1 1)))

-- what stands at a label
abbrev pub part_of : Name → Parts → Option Tree
part_of l no_parts = None
part_of l (parts m t ps) = cond (pointwise nat_eq l m) (Some t) (part_of l ps)

-- 13. `Proj(l, Rec(.., l = u, ..))` is u, where all fields are total, u among them.
abbrev pub KnownField : Rewriting
KnownField t u = (l : Name) × (ps : Parts) × (t ≡ Proj l (Rec ps)) × (part_of l ps ≡ Some u) × (total_parts ps ≡ true)

-- the branch of a label, or else what stands behind `otherwise`, over what the variant carries
abbrev pub branch_of : Name → Arms → Option Tree
branch_of l no_arms = None
branch_of l (rest c) = Some (shift_of c 0 1)
branch_of l (arm m b bs) = cond (pointwise nat_eq l m) (Some b) (branch_of l bs)

-- 14. `Case(Inj(l, s), ..)` is `Let(x = s, the branch of l)`, or `Let(x = s, otherwise)` where no branch has l.
abbrev pub KnownVariant : Rewriting
KnownVariant t u = (l : Name) × (bs : Arms) × (a s : Tree) × (t ≡ Case (Inj l s) bs) × (branch_of l bs ≡ Some a) × (u ≡ Let s a)

-- 15. `If(Const true, p, q)` is p, and `If(Const false, p, q)` is q.
abbrev pub KnownCondition : Rewriting
KnownCondition t u = (b : Bool) × (p q : Tree) × (t ≡ If (Const (value.Bool b)) p q) × (u ≡ cond b p q)

-- 16. `If(If(a, b, Const false), c, Make(k, []))` is `If(a, If(b, c, Make(k, [])), Make(k, []))`.
abbrev pub NestedCondition : Rewriting
NestedCondition t u = (k : Kind) × (a b c : Tree) × (t ≡ If (If a b (Const (value.Bool false))) c (empty_of k))
    × (u ≡ If a (If b c (empty_of k)) (empty_of k))

-- 17. `If(c, If(d, s, Make(k, [])), Make(k, []))` is `If(d, If(c, s, Make(k, [])), Make(k, []))`, where c and d are total, and the
-- nearest variable of d is farther out than that of c. A term without free variables is farther out than every variable.
abbrev pub ConditionOrder : Rewriting
ConditionOrder t u =
    (k : Kind) × (c d s : Tree) × (t ≡ If c (If d s (empty_of k)) (empty_of k))
    × (u ≡ If d (If c s (empty_of k)) (empty_of k)) × (total_in c ≡ true) × (total_in d ≡ true) × IsFarther d c

-- the rules in the order of their numbers
abbrev pub rewrite_rules : List Rewriting
rewrite_rules =
    VerticalFusion
    ∷ HorizontalFusion
    ∷ FilterPromotion
    ∷ EmptySource
    ∷ SingletonSource
    ∷ ConditionalSource
    ∷ LetSource
    ∷ DeadLet
    ∷ CopyPropagation
    ∷ InlinedOnce
    ∷ ScalarReplacement
    ∷ LetOfLet
    ∷ KnownField
    ∷ KnownVariant
    ∷ KnownCondition
    ∷ NestedCondition
    ∷ ConditionOrder
    ∷ []

abbrev pub row_of : List Rewriting → ℕ → Rewriting
row_of [] i t u = ⊥
row_of (r ∷ rs) zero t u = r t u
row_of (r ∷ rs) (suc i) t u = row_of rs i t u

-- The rule with a number, from 1 on, turns t into u.
abbrev pub RewriteRule : ℕ → Rewriting
RewriteRule zero t u = ⊥
RewriteRule (suc i) t u = row_of rewrite_rules i t u
