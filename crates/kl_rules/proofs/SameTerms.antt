-- Terms that are told to be one are one.
use Rattle.std.proofs.Common.{◌≡◌, ◌↔◌, ℕ, suc, ◌+◌, ◌<◌, length, drop, drop-cons, get_or, arith, Bool, true, false, ◌&&◌, nat_eq, List, [], ◌∷◌, map, Option, Some, None, refl, sym, ap, ap₂, subst, ◌∙◌}
use Rattle.std.specs.Cmp.Lexicographic.{pointwise, same_text}
use Rattle.std.specs.Ordering.{is_eq}
use Rattle.std.proofs.lemmas.Bool.{eqb-true, eq-eqb}
use Rattle.std.proofs.lemmas.List.{get_or_default}
use Rattle.std.proofs.lemmas.Cmp.{tied_itself, nat_list_eq_equiv}
use Rattle.kl_base.proofs.Orders.{tied}
use Rattle.kl_value.specs.declared.Kind.{Kind}
use Rattle.kl_value.specs.declared.Kind.TheVariants as kind
use Rattle.kl_value.specs.declared.Value.{Value}
use Rattle.kl_value.specs.Order.{compare}
use Rattle.kl_value.proofs.OrderLemmas.{compare_total, compare_exact}
use Rattle.kl_outcome.specs.Outcome.{Name}
use Rattle.kl_core.specs.declared.term.Term.{Term}
use Rattle.kl_core.specs.declared.term.Term.TheVariants as term
use Rattle.kl_core.specs.Trees.{Tree, Var, Const, Source, Rec, Proj, Inj, Case, Make, Union, Ext, If, Let, Prim, Trees, no_trees, trees, Parts, no_parts, parts, Arms, no_arms, rest, arm, arms_of, rest_of, view, view_part, trees_view, parts_view}
use Rattle.kl_core.proofs.Views.{view_Rec, view_Case, view_option}
use Rattle.kl_core.proofs.Lowering.{choice_is}
use Rattle.kl_rules.specs.Sameness.{same_kind, same_in, same_trees, same_parts, same_arms}
use Rattle.kl_outcome.proofs.Having.{both_true}

kind_is : (k j : Kind) → same_kind k j ≡ true → k ≡ j
kind_is kind.Set kind.Set e = refl
kind_is kind.Bag kind.Bag e = refl
kind_is kind.List kind.List e = refl
kind_is k j e = absurd cc

kind_itself : (k : Kind) → same_kind k k ≡ true
kind_itself kind.Set = refl
kind_itself kind.Bag = refl
kind_itself kind.List = refl

value_is : (v w : Value) → is_eq (compare v w) ≡ true → v ≡ w
value_is v w e = compare_exact v w (tied (compare v w) e)

value_itself : (v : Value) → is_eq (compare v v) ≡ true
value_itself v = ap is_eq (tied_itself compare_total v)

parts_are : {l m : Name} {t u : Tree} {ps qs : Parts} → l ≡ m → t ≡ u → ps ≡ qs → parts l t ps ≡ parts m u qs
parts_are {l} {m} {t} {u} {ps} {qs} e f g = ap (λ x. parts x t ps) e ∙ ap₂ (parts m) f g

arms_are : {l m : Name} {t u : Tree} {bs cs : Arms} → l ≡ m → t ≡ u → bs ≡ cs → arm l t bs ≡ arm m u cs
arms_are {l} {m} {t} {u} {bs} {cs} e f g = ap (λ x. arm x t bs) e ∙ ap₂ (arm m) f g

loops_are : {k j : Kind} {b c s r : Tree} → k ≡ j → b ≡ c → s ≡ r → Ext k b s ≡ Ext j c r
loops_are {k} {j} {b} {c} {s} {r} e f g = ap (λ x. Ext x b s) e ∙ ap₂ (Ext j) f g

mutual
  pub same_is : (t u : Tree) → same_in t u ≡ true → t ≡ u
  same_is (Var x) (Var y) e = ap Var (eqb-true x y e)
  same_is (Const v) (Const w) e = ap Const (value_is v w e)
  same_is (Source i) (Source j) e = ap Source (eqb-true i j e)
  same_is (Rec ps) (Rec qs) e = ap Rec (same_parts_are ps qs e)
  same_is (Proj l a) (Proj m b) e = let d = both_true (pointwise nat_eq l m) (same_in a b) e in ap₂ Proj (same_text l m (sym d.0)) (same_is a b d.1)
  same_is (Inj l a) (Inj m b) e = let d = both_true (pointwise nat_eq l m) (same_in a b) e in ap₂ Inj (same_text l m (sym d.0)) (same_is a b d.1)
  same_is (Case a bs) (Case b cs) e = let d = both_true (same_in a b) (same_arms bs cs) e in ap₂ Case (same_is a b d.0) (same_arms_are bs cs d.1)
  same_is (Make k ts) (Make j us) e = let d = both_true (same_kind k j) (same_trees ts us) e in ap₂ Make (kind_is k j d.0) (same_trees_are ts us d.1)
  same_is (Union a b) (Union c d) e = let f = both_true (same_in a c) (same_in b d) e in ap₂ Union (same_is a c f.0) (same_is b d f.1)
  same_is (Ext k b s) (Ext j c r) e =
      let d = both_true (same_kind k j) (same_in b c && same_in s r) e in
      let f = both_true (same_in b c) (same_in s r) d.1 in
      loops_are (kind_is k j d.0) (same_is b c f.0) (same_is s r f.1)
  same_is (If a b c) (If d f g) e =
      let p = both_true (same_in a d) (same_in b f && same_in c g) e in
      let q = both_true (same_in b f) (same_in c g) p.1 in
      choice_is (same_is a d p.0) (same_is b f q.0) (same_is c g q.1)
  same_is (Let a b) (Let c d) e = let f = both_true (same_in a c) (same_in b d) e in ap₂ Let (same_is a c f.0) (same_is b d f.1)
  same_is (Prim c ts) (Prim d us) e = let f = both_true (nat_eq c d) (same_trees ts us) e in ap₂ Prim (eqb-true c d f.0) (same_trees_are ts us f.1)
  same_is t u e = absurd cc

  same_trees_are : (ts us : Trees) → same_trees ts us ≡ true → ts ≡ us
  same_trees_are no_trees no_trees e = refl
  same_trees_are (trees t ts) (trees u us) e = let d = both_true (same_in t u) (same_trees ts us) e in ap₂ trees (same_is t u d.0) (same_trees_are ts us d.1)
  same_trees_are ts us e = absurd cc

  same_parts_are : (ps qs : Parts) → same_parts ps qs ≡ true → ps ≡ qs
  same_parts_are no_parts no_parts e = refl
  same_parts_are (parts l t ps) (parts m u qs) e =
      let d = both_true (pointwise nat_eq l m) (same_in t u && same_parts ps qs) e in
      let f = both_true (same_in t u) (same_parts ps qs) d.1 in
      parts_are (same_text l m (sym d.0)) (same_is t u f.0) (same_parts_are ps qs f.1)
  same_parts_are ps qs e = absurd cc

  same_arms_are : (bs cs : Arms) → same_arms bs cs ≡ true → bs ≡ cs
  same_arms_are no_arms no_arms e = refl
  same_arms_are (rest c) (rest d) e = ap rest (same_is c d e)
  same_arms_are (arm l b bs) (arm m c cs) e =
      let d = both_true (pointwise nat_eq l m) (same_in b c && same_arms bs cs) e in
      let f = both_true (same_in b c) (same_arms bs cs) d.1 in
      arms_are (same_text l m (sym d.0)) (same_is b c f.0) (same_arms_are bs cs f.1)
  same_arms_are bs cs e = absurd cc

mutual
  pub same_itself : (t : Tree) → same_in t t ≡ true
  same_itself (Var x) = eq-eqb x x refl
  same_itself (Const v) = value_itself v
  same_itself (Source i) = eq-eqb i i refl
  same_itself (Rec ps) = same_parts_itself ps
  same_itself (Proj l a) = rw (nat_list_eq_equiv.refl l) (same_itself a)
  same_itself (Inj l a) = rw (nat_list_eq_equiv.refl l) (same_itself a)
  same_itself (Case a bs) = rw (same_itself a) (same_arms_itself bs)
  same_itself (Make k ts) = rw (kind_itself k) (same_trees_itself ts)
  same_itself (Union a b) = rw (same_itself a) (same_itself b)
  same_itself (Ext k b s) = rw (kind_itself k, same_itself b) (same_itself s)
  same_itself (If a b c) = rw (same_itself a, same_itself b) (same_itself c)
  same_itself (Let a b) = rw (same_itself a) (same_itself b)
  same_itself (Prim c ts) = rw (eq-eqb c c refl) (same_trees_itself ts)

  same_trees_itself : (ts : Trees) → same_trees ts ts ≡ true
  same_trees_itself no_trees = refl
  same_trees_itself (trees t ts) = rw (same_itself t) (same_trees_itself ts)

  same_parts_itself : (ps : Parts) → same_parts ps ps ≡ true
  same_parts_itself no_parts = refl
  same_parts_itself (parts l t ps) = rw (nat_list_eq_equiv.refl l, same_itself t) (same_parts_itself ps)

  same_arms_itself : (bs : Arms) → same_arms bs bs ≡ true
  same_arms_itself no_arms = refl
  same_arms_itself (rest c) = same_itself c
  same_arms_itself (arm l b bs) = rw (nat_list_eq_equiv.refl l, same_itself b) (same_arms_itself bs)

pub same_exactly : (t u : Tree) (b : Bool) → b ≡ same_in t u → (b ≡ true) ↔ (t ≡ u)
same_exactly t u b e = (λ yes. same_is t u (sym e ∙ yes), λ f. e ∙ subst (λ x. same_in t x ≡ true) f (same_itself t))

-- ---- lists and cases

never_both : (b : Bool) → (b && false) ≡ false
never_both true = refl
never_both false = refl

pub trees_differ : (ts us : List Term) → (length ts ≡ length us → ⊥) → same_trees (trees_view ts) (trees_view us) ≡ false
trees_differ [] [] h = absurd (h refl)
trees_differ [] (u ∷ us) h = refl
trees_differ (t ∷ ts) [] h = refl
trees_differ (t ∷ ts) (u ∷ us) h = ap (λ b. same_in (view t) (view u) && b) (trees_differ ts us (λ e. h (ap suc e))) ∙ never_both (same_in (view t) (view u))

pub parts_differ : (ps qs : List (Name × Term)) → (length ps ≡ length qs → ⊥) → same_parts (parts_view ps) (parts_view qs) ≡ false
parts_differ [] [] h = absurd (h refl)
parts_differ [] (q ∷ qs) h = refl
parts_differ (p ∷ ps) [] h = refl
parts_differ (p ∷ ps) (q ∷ qs) h =
    ap (λ b. pointwise nat_eq p.0 q.0 && (same_in (view p.1) (view q.1) && b)) (parts_differ ps qs (λ e. h (ap suc e)))
    ∙ ap (λ b. pointwise nat_eq p.0 q.0 && b) (never_both (same_in (view p.1) (view q.1)))
    ∙ never_both (pointwise nat_eq p.0 q.0)

pub same_records : (t u : Term) (ps qs fs gs : List (Name × Term)) (r : Bool) → t ≡ term.Rec ps → u ≡ term.Rec qs → fs ≡ ps → gs ≡ qs → r ≡ same_parts (parts_view fs) (parts_view gs) → r ≡ same_in (view t) (view u)
same_records t u ps qs fs gs r e f g h i = i ∙ ap₂ (λ x y. same_parts (parts_view x) (parts_view y)) g h ∙ sym (ap₂ same_in (ap view e ∙ view_Rec ps) (ap view f ∙ view_Rec qs))

same_branches : (ps qs : List (Name × Term)) (c d : Option Tree) → same_arms (arms_of (map view_part ps) (rest_of c)) (arms_of (map view_part qs) (rest_of d)) ≡ (same_parts (parts_view ps) (parts_view qs) && same_arms (rest_of c) (rest_of d))
same_branches [] [] c d = refl
same_branches [] (q ∷ qs) (Some c) d = refl
same_branches [] (q ∷ qs) None d = refl
same_branches (p ∷ ps) [] c (Some d) = refl
same_branches (p ∷ ps) [] c None = refl
same_branches (p ∷ ps) (q ∷ qs) c d =
    ap (λ b. pointwise nat_eq p.0 q.0 && (same_in (view p.1) (view q.1) && b)) (same_branches ps qs c d)
    ∙ regroup (pointwise nat_eq p.0 q.0) (same_in (view p.1) (view q.1)) (same_parts (parts_view ps) (parts_view qs)) (same_arms (rest_of c) (rest_of d))
  where
    regroup : (x y z w : Bool) → (x && (y && (z && w))) ≡ ((x && (y && z)) && w)
    regroup false y z w = refl
    regroup true false z w = refl
    regroup true true z w = refl

pub same_cases : (t u a b : Term) (ps qs : List (Name × Term)) (c d : Option Term) → t ≡ term.Case a ps c → u ≡ term.Case b qs d
    → same_in (view t) (view u) ≡ (same_in (view a) (view b) && (same_parts (parts_view ps) (parts_view qs) && same_arms (rest_of (view_option c)) (rest_of (view_option d))))
same_cases t u a b ps qs c d e f =
    ap₂ same_in (ap view e ∙ view_Case a ps c) (ap view f ∙ view_Case b qs d) ∙ ap (λ x. same_in (view a) (view b) && x) (same_branches ps qs (view_option c) (view_option d))

-- a place of two lists of parts at which both are one
pub same_next : (ps qs : List (Name × Term)) (i : ℕ) (p q x y : Name × Term) (whole : Bool) → i < length ps → length ps ≡ length qs
    → pointwise nat_eq (get_or ps i p).0 (get_or qs i q).0 ≡ true → same_in (view (get_or ps i x).1) (view (get_or qs i y).1) ≡ true
    → same_parts (parts_view (drop i ps)) (parts_view (drop i qs)) ≡ whole → same_parts (parts_view (drop (i + 1) ps)) (parts_view (drop (i + 1) qs)) ≡ whole
same_next ps qs i p q x y whole within long labels terms inv =
    let inside : i < length qs = omega (arith, within, long) in
    let next : i + 1 ≡ suc i = omega arith in
    let label : pointwise nat_eq (get_or ps i x).0 (get_or qs i y).0 ≡ true =
    ap₂ (λ f g. pointwise nat_eq f.0 g.0) (get_or_default ps i x p within) (get_or_default qs i y q inside) ∙ labels in
    ap (λ k. same_parts (parts_view (drop k ps)) (parts_view (drop k qs))) next
    ∙ sym (ap₂ (λ f g. same_parts (parts_view f) (parts_view g)) (drop-cons ps i x within) (drop-cons qs i y inside)
    ∙ ap (λ b. b && (same_in (view (get_or ps i x).1) (view (get_or qs i y).1) && same_parts (parts_view (drop (suc i) ps)) (parts_view (drop (suc i) qs)))) label
    ∙ ap (λ b. b && same_parts (parts_view (drop (suc i) ps)) (parts_view (drop (suc i) qs))) terms)
    ∙ inv
