-- All expansions of an expression have as many nodes, whatever their names.
use Rattle.std.proofs.Common.{◌≡◌, ℕ, suc, ◌+◌, List, Option, Some, None, is_some, refl, sym, ap, ◌∙◌, subst, true≢false}
use mathlib.Core.Path.{ap₂}
use Rattle.std.proofs.lemmas.Option.{same_Some}
use Rattle.kl_outcome.specs.Outcome.{Name}
use Rattle.kl_syntax.specs.Syntax.{Exp, Exps, Flds, Quals, Branches, Steps}
use Rattle.kl_ho.specs.Highers.{Highers, Funs, given_by}
use Rattle.kl_ho.specs.Nodes.{nodes, nodes_all, nodes_fields, nodes_quals, nodes_branches, nodes_steps}
use Rattle.kl_ho.specs.Expansion.{Scope, New, Expands, e_const, e_name, e_call, e_unfold, e_rec, e_extend, e_inj, e_coll, e_comp}
use Rattle.kl_ho.specs.Expansion.{e_if, e_let, e_case, e_path, e_not, e_neg, e_chain, ExpandAll, a_none, a_more, FieldsExpand}
use Rattle.kl_ho.specs.Expansion.{f_none, f_skip, f_more, QualsExpand, q_none, q_draw, q_test, BranchesExpand, b_none}
use Rattle.kl_ho.specs.Expansion.{b_otherwise, b_more, StepsExpand, s_none, s_more}

pub some_none : {A : Type 0} {a : A} {o : Option A} → o ≡ Some a → o ≡ None → ⊥
some_none e f = true≢false (sym (ap is_some e) ∙ ap is_some f)

module _ (is_new also_new : New) (highers : Highers) where
  mutual
    pub same_nodes : {n m : ℕ} {funs : Funs} {S T : Scope} {e x y : Exp} → Expands is_new highers n funs S e x → Expands also_new highers m funs T e y → nodes x ≡ nodes y
    same_nodes e_const e_const = refl
    same_nodes (e_name b) (e_name c) = refl
    same_nodes (e_call n t a es) (e_call i u c fs) = ap suc (same_all es fs)
    same_nodes (e_call n t a es) (e_unfold d given found g fs p b) = absurd (some_none found n)
    same_nodes (e_unfold d given found g fs p b) (e_call n t a es) = absurd (some_none found n)
    same_nodes (e_unfold {funs = funs} {fs = ls} d given found g fs p x) (e_unfold {n = k} {S = S} {T = T} {gs = hs} {b = z} c others known i gs q y) =
        let one : d ≡ c = same_Some d c (sym found ∙ known) in
        let two : given ≡ others = same_Some given others (sym g ∙ subst (λ h. given_by h.handed ls funs ≡ Some others) (sym one) i) in
        let fields = same_fields fs (subst (λ h. FieldsExpand also_new highers (suc k) funs S h.handed ls hs) (sym one) gs) in
        let body = same_nodes x (subst (λ h. Expands also_new highers k given T h.body z) (sym one) (subst (λ w. Expands also_new highers k w T c.body z) (sym two) y)) in
        ap suc (ap₂ (λ a b. a + b) (ap suc fields) body)
    same_nodes (e_rec fs) (e_rec gs) = ap suc (same_fields fs gs)
    same_nodes (e_extend fs a) (e_extend gs b) = ap suc (ap₂ (λ i j. i + j) (same_fields fs gs) (same_nodes a b))
    same_nodes (e_inj t a) (e_inj u b) = ap suc (same_nodes a b)
    same_nodes (e_coll es) (e_coll fs) = ap suc (same_all es fs)
    same_nodes (e_comp qs a) (e_comp rs b) = ap suc (ap₂ (λ i j. i + j) (same_nodes a b) (same_quals qs rs))
    same_nodes (e_if a b c) (e_if x y z) = ap suc (ap₂ (λ i j. i + j) (same_nodes a x) (ap₂ (λ i j. i + j) (same_nodes b y) (same_nodes c z)))
    same_nodes (e_let a p b) (e_let x q y) = ap suc (ap₂ (λ i j. i + j) (same_nodes a x) (same_nodes b y))
    same_nodes (e_case a bs) (e_case x cs) = ap suc (ap₂ (λ i j. i + j) (same_nodes a x) (same_branches bs cs))
    same_nodes (e_path t a) (e_path u b) = ap suc (same_nodes a b)
    same_nodes (e_not a) (e_not b) = ap suc (same_nodes a b)
    same_nodes (e_neg a) (e_neg b) = ap suc (same_nodes a b)
    same_nodes (e_chain a ss) (e_chain b rs) = ap suc (ap₂ (λ i j. i + j) (same_nodes a b) (same_steps ss rs))

    pub same_all : {n m : ℕ} {funs : Funs} {S T : Scope} {es xs ys : Exps} → ExpandAll is_new highers n funs S es xs → ExpandAll also_new highers m funs T es ys → nodes_all xs ≡ nodes_all ys
    same_all a_none a_none = refl
    same_all (a_more e es) (a_more f fs) = ap₂ (λ i j. i + j) (same_nodes e f) (same_all es fs)

    pub same_fields : {n m : ℕ} {funs : Funs} {S T : Scope} {skips : List (Name × Name)} {fs gs hs : Flds} → FieldsExpand is_new highers n funs S skips fs gs → FieldsExpand also_new highers m funs T skips fs hs
        → nodes_fields gs ≡ nodes_fields hs
    same_fields f_none f_none = refl
    same_fields (f_skip s fs) (f_skip t gs) = same_fields fs gs
    same_fields (f_more s t e fs) (f_more u v f gs) = ap₂ (λ i j. i + j) (same_nodes e f) (same_fields fs gs)
    same_fields (f_skip s fs) (f_more u v f gs) = absurd (true≢false (sym s ∙ ap is_some u))
    same_fields (f_more s t e fs) (f_skip u gs) = absurd (true≢false (sym u ∙ ap is_some s))

    pub same_quals : {n m : ℕ} {funs : Funs} {S T U V : Scope} {qs rs ts : Quals} → QualsExpand is_new highers n funs S qs rs U → QualsExpand also_new highers m funs T qs ts V → nodes_quals rs ≡ nodes_quals ts
    same_quals q_none q_none = refl
    same_quals (q_draw e p qs) (q_draw f r rs) = ap₂ (λ i j. i + j) (same_nodes e f) (same_quals qs rs)
    same_quals (q_test e qs) (q_test f rs) = ap₂ (λ i j. i + j) (same_nodes e f) (same_quals qs rs)

    pub same_branches : {n m : ℕ} {funs : Funs} {S T : Scope} {bs cs ds : Branches} → BranchesExpand is_new highers n funs S bs cs → BranchesExpand also_new highers m funs T bs ds → nodes_branches cs ≡ nodes_branches ds
    same_branches b_none b_none = refl
    same_branches (b_otherwise e) (b_otherwise f) = same_nodes e f
    same_branches (b_more t p e bs) (b_more u q f cs) = ap₂ (λ i j. i + j) (same_nodes e f) (same_branches bs cs)

    pub same_steps : {n m : ℕ} {funs : Funs} {S T : Scope} {ss rs ts : Steps} → StepsExpand is_new highers n funs S ss rs → StepsExpand also_new highers m funs T ss ts → nodes_steps rs ≡ nodes_steps ts
    same_steps s_none s_none = refl
    same_steps (s_more e ss) (s_more f rs) = ap₂ (λ i j. i + j) (same_nodes e f) (same_steps ss rs)
