-- Positions lowered in lists and in cases.
use Rattle.std.proofs.Common.{◌≡◌, ℕ, ◌+◌, List, [], ◌∷◌, map, Option, refl, sym, ap, ◌∙◌}
use mathlib.Core.Path.{ap₂}
use Rattle.std.specs.Option.{option_map}
use Rattle.kl_value.specs.declared.Kind.{Kind}
use Rattle.kl_outcome.specs.Outcome.{Name}
use Rattle.kl_core.specs.declared.term.Term.{Term}
use Rattle.kl_core.specs.declared.term.Term.TheVariants as term
use Rattle.kl_core.specs.Trees as tree
use Rattle.kl_core.specs.Trees.{Arms, arms_of, rest_of, view as term_view, view_part, trees_view, parts_view}
use Rattle.kl_core.proofs.Views.{view_Rec as term_Rec, view_Case as term_Case, view_Union as term_Union, view_Ext as term_Ext, view_If as term_If, view_Let as term_Let}
use Rattle.kl_plan.specs.declared.plan.Plan.{Plan}
use Rattle.kl_plan.specs.declared.plan.Plan.TheVariants as plan
use Rattle.kl_plan.specs.Joins.{other_node}
use Rattle.kl_plan.specs.Nodes as node
use Rattle.kl_plan.specs.Nodes.{Branches, branches_of, view, view_branch, nodes_view, fields_view}
use Rattle.kl_plan.proofs.Views.{view_Rec, view_Case, view_Union, view_Ext, view_If, view_Let}
use Rattle.kl_joins.specs.Lowering.{lowered, lowered_nodes, lowered_fields, lowered_branches, lowered_tree, lowered_trees, lowered_parts, lowered_arms}
use Rattle.kl_joins.proofs.Pairing.{Paired}

-- what an item becomes
abbrev pub Lowers : ℕ → Plan → Plan → Type 0
Lowers n p q = view q ≡ lowered n (view p)

abbrev pub LowersUnder : ℕ → Name × Plan → Name × Plan → Type 0
LowersUnder n p q = (q.0 ≡ p.0) × (view q.1 ≡ lowered n (view p.1))

abbrev pub LowersTerm : ℕ → Term → Term → Type 0
LowersTerm n t u = term_view u ≡ lowered_tree n (term_view t)

abbrev pub LowersPart : ℕ → Name × Term → Name × Term → Type 0
LowersPart n t u = (u.0 ≡ t.0) × (term_view u.1 ≡ lowered_tree n (term_view t.1))

-- lists
pub all_lowered : (n : ℕ) (xs ys : List Plan) → Paired (Lowers n) xs ys → nodes_view ys ≡ lowered_nodes n (nodes_view xs)
all_lowered n [] [] h = refl
all_lowered n [] (y ∷ ys) h = absurd h
all_lowered n (x ∷ xs) [] h = absurd h
all_lowered n (x ∷ xs) (y ∷ ys) h = ap₂ node.nodes h.0 (all_lowered n xs ys h.1)

pub labelled_lowered : (n : ℕ) (xs ys : List (Name × Plan)) → Paired (LowersUnder n) xs ys → fields_view ys ≡ lowered_fields n (fields_view xs)
labelled_lowered n [] [] h = refl
labelled_lowered n [] (y ∷ ys) h = absurd h
labelled_lowered n (x ∷ xs) [] h = absurd h
labelled_lowered n (x ∷ xs) (y ∷ ys) h = let more = labelled_lowered n xs ys h.1 in let one = h.0.0 in let two = h.0.1 in rw (one, two, more) refl

pub terms_lowered : (n : ℕ) (xs ys : List Term) → Paired (LowersTerm n) xs ys → trees_view ys ≡ lowered_trees n (trees_view xs)
terms_lowered n [] [] h = refl
terms_lowered n [] (y ∷ ys) h = absurd h
terms_lowered n (x ∷ xs) [] h = absurd h
terms_lowered n (x ∷ xs) (y ∷ ys) h = ap₂ tree.trees h.0 (terms_lowered n xs ys h.1)

pub parts_lowered : (n : ℕ) (xs ys : List (Name × Term)) → Paired (LowersPart n) xs ys → parts_view ys ≡ lowered_parts n (parts_view xs)
parts_lowered n [] [] h = refl
parts_lowered n [] (y ∷ ys) h = absurd h
parts_lowered n (x ∷ xs) [] h = absurd h
parts_lowered n (x ∷ xs) (y ∷ ys) h = let more = parts_lowered n xs ys h.1 in let one = h.0.0 in let two = h.0.1 in rw (one, two, more) refl

-- cases
choices_lowered : (n : ℕ) (xs ys : List (Name × Plan)) (last : Branches) → fields_view ys ≡ lowered_fields (n + 1) (fields_view xs)
    → branches_of (map view_branch ys) (lowered_branches n last) ≡ lowered_branches n (branches_of (map view_branch xs) last)
choices_lowered n [] [] last e = refl
choices_lowered n [] (y ∷ ys) last e = absurd cc
choices_lowered n (x ∷ xs) [] last e = absurd cc
choices_lowered n (x ∷ xs) (y ∷ ys) last e =
    let more : fields_view ys ≡ lowered_fields (n + 1) (fields_view xs) = cc in
    let h = choices_lowered n xs ys last more in
    let one : y.0 ≡ x.0 = cc in
    let two : view y.1 ≡ lowered (n + 1) (view x.1) = cc in
    rw (one, two, h) refl

pub case_lowered : (n : ℕ) (p q a x b : Plan) (bs zs cs : List (Name × Plan)) (o y r : Option Plan) → p ≡ plan.Case a bs o → q ≡ plan.Case b cs r → x ≡ a → zs ≡ bs → y ≡ o
    → view b ≡ lowered n (view x) → fields_view cs ≡ lowered_fields (n + 1) (fields_view zs) → other_node r ≡ lowered_branches n (other_node y) → view q ≡ lowered n (view p)
case_lowered n p q a x b bs zs cs o y r pe qe xa zb yo h i j =
    ap view qe ∙ view_Case b cs r
    ∙ ap₂ node.Case (h ∙ ap (λ z. lowered n (view z)) xa)
    (ap (branches_of (map view_branch cs)) (j ∙ ap (λ z. lowered_branches n (other_node z)) yo) ∙ choices_lowered n bs cs (other_node o) (i ∙ ap (λ z. lowered_fields (n + 1) (fields_view z)) zb))
    ∙ sym (ap (λ z. lowered n (view z)) pe ∙ ap (lowered n) (view_Case a bs o))

arms_lowered : (n : ℕ) (xs ys : List (Name × Term)) (last : Arms) → parts_view ys ≡ lowered_parts (n + 1) (parts_view xs)
    → arms_of (map view_part ys) (lowered_arms n last) ≡ lowered_arms n (arms_of (map view_part xs) last)
arms_lowered n [] [] last e = refl
arms_lowered n [] (y ∷ ys) last e = absurd cc
arms_lowered n (x ∷ xs) [] last e = absurd cc
arms_lowered n (x ∷ xs) (y ∷ ys) last e =
    let more : parts_view ys ≡ lowered_parts (n + 1) (parts_view xs) = cc in
    let h = arms_lowered n xs ys last more in
    let one : y.0 ≡ x.0 = cc in
    let two : term_view y.1 ≡ lowered_tree (n + 1) (term_view x.1) = cc in
    rw (one, two, h) refl

pub case_term_lowered : (n : ℕ) (p q a x b : Term) (bs zs cs : List (Name × Term)) (o y r : Option Term) → p ≡ term.Case a bs o → q ≡ term.Case b cs r → x ≡ a → zs ≡ bs → y ≡ o
    → term_view b ≡ lowered_tree n (term_view x) → parts_view cs ≡ lowered_parts (n + 1) (parts_view zs)
    → rest_of (option_map term_view r) ≡ lowered_arms n (rest_of (option_map term_view y)) → term_view q ≡ lowered_tree n (term_view p)
case_term_lowered n p q a x b bs zs cs o y r pe qe xa zb yo h i j =
    ap term_view qe ∙ term_Case b cs r
    ∙ ap₂ tree.Case (h ∙ ap (λ z. lowered_tree n (term_view z)) xa)
    (ap (arms_of (map view_part cs)) (j ∙ ap (λ z. lowered_arms n (rest_of (option_map term_view z))) yo)
    ∙ arms_lowered n bs cs (rest_of (option_map term_view o)) (i ∙ ap (λ z. lowered_parts (n + 1) (parts_view z)) zb))
    ∙ sym (ap (λ z. lowered_tree n (term_view z)) pe ∙ ap (lowered_tree n) (term_Case a bs o))

-- ---- forms

pub rec_lowered : (n : ℕ) (p q : Plan) (fs gs zs : List (Name × Plan)) → p ≡ plan.Rec fs → q ≡ plan.Rec gs → zs ≡ fs → fields_view gs ≡ lowered_fields n (fields_view zs) → view q ≡ lowered n (view p)
rec_lowered n p q fs gs zs pe qe ze h =
    ap view qe ∙ view_Rec gs ∙ ap node.Rec (h ∙ ap (λ z. lowered_fields n (fields_view z)) ze) ∙ sym (ap (λ z. lowered n (view z)) pe ∙ ap (lowered n) (view_Rec fs))

pub union_lowered : (n : ℕ) (p q a b d f x y : Plan) → p ≡ plan.Union a b → q ≡ plan.Union d f → x ≡ a → y ≡ b → view d ≡ lowered n (view x) → view f ≡ lowered n (view y) → view q ≡ lowered n (view p)
union_lowered n p q a b d f x y pe qe xe ye h i =
    ap view qe ∙ view_Union d f ∙ ap₂ node.Union (h ∙ ap (λ z. lowered n (view z)) xe) (i ∙ ap (λ z. lowered n (view z)) ye)
    ∙ sym (ap (λ z. lowered n (view z)) pe ∙ ap (lowered n) (view_Union a b))

pub ext_lowered : (n : ℕ) (k : Kind) (p q a b d f x y : Plan) → p ≡ plan.Ext k a b → q ≡ plan.Ext k d f → x ≡ a → y ≡ b → view d ≡ lowered (n + 1) (view x) → view f ≡ lowered n (view y) → view q ≡ lowered n (view p)
ext_lowered n k p q a b d f x y pe qe xe ye h i =
    ap view qe ∙ view_Ext k d f ∙ ap₂ (node.Ext k) (h ∙ ap (λ z. lowered (n + 1) (view z)) xe) (i ∙ ap (λ z. lowered n (view z)) ye)
    ∙ sym (ap (λ z. lowered n (view z)) pe ∙ ap (lowered n) (view_Ext k a b))

pub let_lowered : (n : ℕ) (p q a b d f x y : Plan) → p ≡ plan.Let a b → q ≡ plan.Let d f → x ≡ a → y ≡ b → view d ≡ lowered n (view x) → view f ≡ lowered (n + 1) (view y) → view q ≡ lowered n (view p)
let_lowered n p q a b d f x y pe qe xe ye h i =
    ap view qe ∙ view_Let d f ∙ ap₂ node.Let (h ∙ ap (λ z. lowered n (view z)) xe) (i ∙ ap (λ z. lowered (n + 1) (view z)) ye)
    ∙ sym (ap (λ z. lowered n (view z)) pe ∙ ap (lowered n) (view_Let a b))

pub if_lowered : (n : ℕ) (p q a b c d f g x y w : Plan) → p ≡ plan.If a b c → q ≡ plan.If d f g → x ≡ a → y ≡ b → w ≡ c
    → view d ≡ lowered n (view x) → view f ≡ lowered n (view y) → view g ≡ lowered n (view w) → view q ≡ lowered n (view p)
if_lowered n p q a b c d f g x y w pe qe xe ye we h i j =
    ap view qe ∙ view_If d f g
    ∙ (ap (λ z. node.If z (view f) (view g)) (h ∙ ap (λ z. lowered n (view z)) xe)
    ∙ ap₂ (node.If (lowered n (view a))) (i ∙ ap (λ z. lowered n (view z)) ye) (j ∙ ap (λ z. lowered n (view z)) we))
    ∙ sym (ap (λ z. lowered n (view z)) pe ∙ ap (lowered n) (view_If a b c))

pub term_rec_lowered : (n : ℕ) (p q : Term) (fs gs zs : List (Name × Term)) → p ≡ term.Rec fs → q ≡ term.Rec gs → zs ≡ fs → parts_view gs ≡ lowered_parts n (parts_view zs) → term_view q ≡ lowered_tree n (term_view p)
term_rec_lowered n p q fs gs zs pe qe ze h =
    ap term_view qe ∙ term_Rec gs ∙ ap tree.Rec (h ∙ ap (λ z. lowered_parts n (parts_view z)) ze) ∙ sym (ap (λ z. lowered_tree n (term_view z)) pe ∙ ap (lowered_tree n) (term_Rec fs))

pub term_union_lowered : (n : ℕ) (p q a b d f x y : Term) → p ≡ term.Union a b → q ≡ term.Union d f → x ≡ a → y ≡ b → term_view d ≡ lowered_tree n (term_view x) → term_view f ≡ lowered_tree n (term_view y) → term_view q ≡ lowered_tree n (term_view p)
term_union_lowered n p q a b d f x y pe qe xe ye h i =
    ap term_view qe ∙ term_Union d f ∙ ap₂ tree.Union (h ∙ ap (λ z. lowered_tree n (term_view z)) xe) (i ∙ ap (λ z. lowered_tree n (term_view z)) ye)
    ∙ sym (ap (λ z. lowered_tree n (term_view z)) pe ∙ ap (lowered_tree n) (term_Union a b))

pub term_ext_lowered : (n : ℕ) (k : Kind) (p q a b d f x y : Term) → p ≡ term.Ext k a b → q ≡ term.Ext k d f → x ≡ a → y ≡ b → term_view d ≡ lowered_tree (n + 1) (term_view x) → term_view f ≡ lowered_tree n (term_view y) → term_view q ≡ lowered_tree n (term_view p)
term_ext_lowered n k p q a b d f x y pe qe xe ye h i =
    ap term_view qe ∙ term_Ext k d f ∙ ap₂ (tree.Ext k) (h ∙ ap (λ z. lowered_tree (n + 1) (term_view z)) xe) (i ∙ ap (λ z. lowered_tree n (term_view z)) ye)
    ∙ sym (ap (λ z. lowered_tree n (term_view z)) pe ∙ ap (lowered_tree n) (term_Ext k a b))

pub term_let_lowered : (n : ℕ) (p q a b d f x y : Term) → p ≡ term.Let a b → q ≡ term.Let d f → x ≡ a → y ≡ b → term_view d ≡ lowered_tree n (term_view x) → term_view f ≡ lowered_tree (n + 1) (term_view y) → term_view q ≡ lowered_tree n (term_view p)
term_let_lowered n p q a b d f x y pe qe xe ye h i =
    ap term_view qe ∙ term_Let d f ∙ ap₂ tree.Let (h ∙ ap (λ z. lowered_tree n (term_view z)) xe) (i ∙ ap (λ z. lowered_tree (n + 1) (term_view z)) ye)
    ∙ sym (ap (λ z. lowered_tree n (term_view z)) pe ∙ ap (lowered_tree n) (term_Let a b))

pub term_if_lowered : (n : ℕ) (p q a b c d f g x y w : Term) → p ≡ term.If a b c → q ≡ term.If d f g → x ≡ a → y ≡ b → w ≡ c
    → term_view d ≡ lowered_tree n (term_view x) → term_view f ≡ lowered_tree n (term_view y) → term_view g ≡ lowered_tree n (term_view w) → term_view q ≡ lowered_tree n (term_view p)
term_if_lowered n p q a b c d f g x y w pe qe xe ye we h i j =
    ap term_view qe ∙ term_If d f g
    ∙ (ap (λ z. tree.If z (term_view f) (term_view g)) (h ∙ ap (λ z. lowered_tree n (term_view z)) xe)
    ∙ ap₂ (tree.If (lowered_tree n (term_view a))) (i ∙ ap (λ z. lowered_tree n (term_view z)) ye) (j ∙ ap (λ z. lowered_tree n (term_view z)) we))
    ∙ sym (ap (λ z. lowered_tree n (term_view z)) pe ∙ ap (lowered_tree n) (term_If a b c))
