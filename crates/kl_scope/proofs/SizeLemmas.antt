-- Sizes as the code counts them are those of the terms, as far as 32 bits go.
use Rattle.std.proofs.Common.{◌≡◌, ℕ, max, min, List, [], ◌∷◌, refl, ap, ◌∙◌, arith}
use Rattle.kl_syntax.specs.declared.tree.Word.{Word}
use Rattle.kl_syntax.specs.declared.tree.Tail.{Tail}
use Rattle.kl_syntax.specs.declared.tree.Tail.TheVariants as tail
use Rattle.kl_syntax.specs.Syntax.{Pat, catch, any, same, is, shape, variant, Pats, no_pats, pats, Quals, no_quals, draw, test, Steps, no_steps, step}
use Rattle.kl_scope.specs.declared.terms.Size.{Size}
use Rattle.kl_scope.specs.Caps.{most, capped}
use Rattle.kl_scope.specs.Sizes.{beside, node, leaf, no_parts, named, with_rest, matched, matched_fields, sized, qualified, chained, third, projected}

abbrev pair : ℕ → ℕ → Size
pair m n = record { nodes = m; depth = n }

pair_is : (m n p q : ℕ) → m ≡ p → n ≡ q → pair m n ≡ pair p q
pair_is m n p q h k = rw (h, k) refl

pub size_is : (a b : Size) → a.nodes ≡ b.nodes → a.depth ≡ b.depth → a ≡ b
size_is a b h k = pair_is a.nodes a.depth b.nodes b.depth h k

nodes_alike : (a b : Size) → capped a ≡ capped b → min a.nodes most ≡ min b.nodes most
unfolding capped
nodes_alike a b h = ap (λ (s : Size). s.nodes) h

depth_alike : (a b : Size) → capped a ≡ capped b → min a.depth most ≡ min b.depth most
unfolding capped
depth_alike a b h = ap (λ (s : Size). s.depth) h

twice_capped : (a : Size) → capped (capped a) ≡ capped a
unfolding capped
twice_capped a = size_is (capped (capped a)) (capped a) (omega arith) (omega arith)

pub alike : (p a : Size) → p ≡ capped a → capped p ≡ capped a
alike p a h = ap capped h ∙ twice_capped a

pub no_parts_is : no_parts ≡ capped no_parts
unfolding capped
no_parts_is = refl

-- ---- terms of one capped size serve alike as parts

pub node_alike : (a b : Size) → capped a ≡ capped b → capped (node a) ≡ capped (node b)
unfolding capped node
node_alike a b h =
    let m = nodes_alike a b h in
    let n = depth_alike a b h in
    size_is (capped (node a)) (capped (node b)) (omega (arith, m)) (omega (arith, n))

max_alike : (m n p q : ℕ) → min m most ≡ min p most → min n most ≡ min q most → min (max m n) most ≡ min (max p q) most
max_alike m n p q h k = omega (arith, h, k)

pub beside_alike : (a b c d : Size) → capped a ≡ capped b → capped c ≡ capped d → capped (beside a c) ≡ capped (beside b d)
unfolding capped beside
beside_alike a b c d h k =
    let m = nodes_alike a b h in
    let n = nodes_alike c d k in
    size_is (capped (beside a c)) (capped (beside b d)) (omega (arith, m, n)) (max_alike a.depth c.depth b.depth d.depth (depth_alike a b h) (depth_alike c d k))

compared_alike : (t u a b w : Size) → capped t ≡ capped u → capped a ≡ capped b → capped (node (beside (node (beside t w)) (beside a leaf))) ≡ capped (node (beside (node (beside u w)) (beside b leaf)))
compared_alike t u a b w h k =
    node_alike (beside (node (beside t w)) (beside a leaf)) (beside (node (beside u w)) (beside b leaf))
    (beside_alike (node (beside t w)) (node (beside u w)) (beside a leaf) (beside b leaf) (node_alike (beside t w) (beside u w) (beside_alike t u w w h refl)) (beside_alike a b leaf leaf k refl))

chosen_alike : (t u a b : Size) → capped t ≡ capped u → capped a ≡ capped b → capped (node (beside t (beside a leaf))) ≡ capped (node (beside u (beside b leaf)))
chosen_alike t u a b h k = node_alike (beside t (beside a leaf)) (beside u (beside b leaf)) (beside_alike t u (beside a leaf) (beside b leaf) h (beside_alike a b leaf leaf k refl))

rest_alike : (end : Tail) (t u a b : Size) → capped t ≡ capped u → capped a ≡ capped b → capped (with_rest end t a) ≡ capped (with_rest end u b)
rest_alike tail.Exact t u a b h k = k
rest_alike tail.Open t u a b h k = k
rest_alike (tail.Rest w) t u a b h k =
    node_alike (beside (node (beside t leaf)) a) (beside (node (beside u leaf)) b)
    (beside_alike (node (beside t leaf)) (node (beside u leaf)) a b (node_alike (beside t leaf) (beside u leaf) (beside_alike t u leaf leaf h refl)) k)

mutual
  pub matched_alike : (p : Pat) (t u a b : Size) (ds : List Size) → capped t ≡ capped u → capped a ≡ capped b → capped (matched p t a ds) ≡ capped (matched p u b ds)
  matched_alike (catch w) t u a b ds h k = node_alike (beside t a) (beside u b) (beside_alike t u a b h k)
  matched_alike any t u a b ds h k = k
  matched_alike (same w) t u a b ds h k = compared_alike t u a b (named w.means ds) h k
  matched_alike (is v n) t u a b ds h k = compared_alike t u a b leaf h k
  matched_alike (shape ps end) t u a b ds h k = fields_alike ps t u (with_rest end t a) (with_rest end u b) ds h (rest_alike end t u a b h k)
  matched_alike (variant l p) t u a b ds h k = chosen_alike t u (matched p leaf a ds) (matched p leaf b ds) h (matched_alike p leaf leaf a b ds refl k)

  fields_alike : (ps : Pats) (t u a b : Size) (ds : List Size) → capped t ≡ capped u → capped a ≡ capped b → capped (matched_fields ps t a ds) ≡ capped (matched_fields ps u b ds)
  fields_alike no_pats t u a b ds h k = k
  fields_alike (pats l p ps) t u a b ds h k = matched_alike p (node t) (node u) (matched_fields ps t a ds) (matched_fields ps u b ds) ds (node_alike t u h) (fields_alike ps t u a b ds h k)

qualified_alike : (qs : Quals) (s t : Size) (ds : List Size) → capped s ≡ capped t → capped (qualified qs s ds) ≡ capped (qualified qs t ds)
qualified_alike no_quals s t ds h = h
qualified_alike (draw p e qs) s t ds h =
    let k = matched_alike p leaf leaf (qualified qs s ds) (qualified qs t ds) ds refl (qualified_alike qs s t ds h) in
    node_alike (beside (matched p leaf (qualified qs s ds) ds) (sized e ds)) (beside (matched p leaf (qualified qs t ds) ds) (sized e ds)) (beside_alike (matched p leaf (qualified qs s ds) ds) (matched p leaf (qualified qs t ds) ds) (sized e ds) (sized e ds) k refl)
qualified_alike (test e qs) s t ds h = chosen_alike (sized e ds) (sized e ds) (qualified qs s ds) (qualified qs t ds) refl (qualified_alike qs s t ds h)

pub chained_alike : (ss : Steps) (s t : Size) (ds : List Size) → capped s ≡ capped t → capped (chained s ss ds) ≡ capped (chained t ss ds)
chained_alike no_steps s t ds h = h
chained_alike (step o e ss) s t ds h =
    let part = beside (sized e ds) (third o) in
    chained_alike ss (node (beside s part)) (node (beside t part)) ds (node_alike (beside s part) (beside t part) (beside_alike s t part part h refl))

pub projected_alike : (ls : List Word) (s t : Size) → capped s ≡ capped t → capped (projected s ls) ≡ capped (projected t ls)
projected_alike [] s t h = h
projected_alike (l ∷ ls) s t h = projected_alike ls (node s) (node t) (node_alike s t h)

-- ---- what the code counts from what it counted before

pub up_node : (r p a : Size) → r ≡ capped (node p) → p ≡ capped a → r ≡ capped (node a)
up_node r p a e h = e ∙ node_alike p a (alike p a h)

pub up_beside : (r p q a b : Size) → r ≡ capped (beside p q) → p ≡ capped a → q ≡ capped b → r ≡ capped (beside a b)
up_beside r p q a b e h k = e ∙ beside_alike p a q b (alike p a h) (alike q b k)

pub up_chosen : (r p q a b : Size) → r ≡ capped (node (beside p (beside q leaf))) → p ≡ capped a → q ≡ capped b → r ≡ capped (node (beside a (beside b leaf)))
up_chosen r p q a b e h k = e ∙ chosen_alike p a q b (alike p a h) (alike q b k)

pub up_compared : (r t w b a : Size) → r ≡ capped (node (beside (node (beside t w)) (beside a leaf))) → w ≡ capped b → r ≡ capped (node (beside (node (beside t b)) (beside a leaf)))
up_compared r t w b a e h =
    e
    ∙ node_alike (beside (node (beside t w)) (beside a leaf)) (beside (node (beside t b)) (beside a leaf))
    (beside_alike (node (beside t w)) (node (beside t b)) (beside a leaf) (beside a leaf) (node_alike (beside t w) (beside t b) (beside_alike t t w b refl (alike w b h))) refl)

pub up_matched : (p : Pat) (r t a u b : Size) (ds : List Size) → r ≡ capped (matched p t a ds) → t ≡ capped u → a ≡ capped b → r ≡ capped (matched p u b ds)
up_matched p r t a u b ds e h k = e ∙ matched_alike p t u a b ds (alike t u h) (alike a b k)

pub up_fields : (ps : Pats) (r t a b : Size) (ds : List Size) → r ≡ capped (matched_fields ps t a ds) → a ≡ capped b → r ≡ capped (matched_fields ps t b ds)
up_fields ps r t a b ds e k = e ∙ fields_alike ps t t a b ds refl (alike a b k)

pub up_qualified : (qs : Quals) (r s t : Size) (ds : List Size) → r ≡ capped (qualified qs s ds) → s ≡ capped t → r ≡ capped (qualified qs t ds)
up_qualified qs r s t ds e h = e ∙ qualified_alike qs s t ds (alike s t h)

pub up_chained : (ss : Steps) (r s t : Size) (ds : List Size) → r ≡ capped (chained s ss ds) → s ≡ capped t → r ≡ capped (chained t ss ds)
up_chained ss r s t ds e h = e ∙ chained_alike ss s t ds (alike s t h)

pub up_projected : (ls : List Word) (r s t : Size) → r ≡ capped (projected s ls) → s ≡ capped t → r ≡ capped (projected t ls)
up_projected ls r s t e h = e ∙ projected_alike ls s t (alike s t h)

pub leaf_is : leaf ≡ capped leaf
unfolding capped
leaf_is = refl

pub over_chosen : (r t q b : Size) → r ≡ capped (node (beside t (beside q leaf))) → q ≡ capped b → r ≡ capped (node (beside t (beside b leaf)))
over_chosen r t q b e h = e ∙ chosen_alike t t q b refl (alike q b h)
