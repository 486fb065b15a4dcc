-- All expansions of a program are translated to the same term, whatever their names.
use Rattle.std.proofs.Common.{◌≡◌, ℕ, suc, Bool, true, false, cond, List, [], ◌∷◌, length, Option, Some, None, refl, sym, ap, ◌∙◌, subst}
use Rattle.std.proofs.lemmas.Option.{same_Some}
use Rattle.kl_base.specs.Fields.{field}
use Rattle.kl_value.specs.declared.Kind.{Kind}
use Rattle.kl_value.specs.declared.Value.TheVariants as value
use Rattle.kl_prim.specs.Records.{in_order}
use Rattle.kl_outcome.specs.Outcome.{Name}
use Rattle.kl_type.proofs.RowLemmas.{same_label}
use Rattle.kl_syntax.specs.declared.tree.Tail.{Tail}
use Rattle.kl_syntax.specs.declared.tree.Tail.TheVariants as tail
use Rattle.kl_syntax.specs.declared.tree.Word.{Word}
use Rattle.kl_syntax.specs.Syntax.{Pat, shape, Pats, Exp, Exps, Flds, Quals, Branches, Steps, Decls}
use Rattle.kl_meaning.specs.Match.{same_name}
use Rattle.kl_core.specs.Trees as term
use Rattle.kl_core.specs.Trees.{Tree, Trees, no_trees, trees, Arms, no_arms, rest, arm}
use Rattle.kl_desugar.specs.Translation.{Codes, Place, here, inside, place_tree, level_of, name_tree, level_tree, at_level, code_tree, marks, others, with_rest}
use Rattle.kl_desugar.specs.Translation.{matched, matched_fields, matched_here, tested, empty, called_tree, operated_tree, projected, no_sense, pair}
use Rattle.kl_desugar.specs.Translation.{tree, tree_all, tree_fields, tree_quals, tree_branches, tree_steps, with_code, value_by, function_by}
use Rattle.kl_desugar.specs.Translation.{function_tree, codes_after, codes_first, term_of}
use Rattle.kl_desugar.specs.Translation.{Scope as Places}
use Rattle.kl_ho.specs.Highers.{Highers, Funs, given_by}
use Rattle.kl_ho.specs.Expansion.{Scope, New, HidesNone, BecomesBy, Becomes, PatBecomes, p_catch, p_any, p_same, p_is, p_shape, p_variant}
use Rattle.kl_ho.specs.Expansion.{TailBecomes, t_exact, t_open, t_rest, PatsBecome, p_none, p_more, texts, Expands, e_const}
use Rattle.kl_ho.specs.Expansion.{e_name, e_call, e_unfold, e_rec, e_extend, e_inj, e_coll, e_comp, e_if, e_let, e_case, e_path}
use Rattle.kl_ho.specs.Expansion.{e_not, e_neg, e_chain, ExpandAll, a_none, a_more, FieldsExpand, f_none, f_skip, f_more}
use Rattle.kl_ho.specs.Expansion.{QualsExpand, q_none, q_draw, q_test, BranchesExpand, b_none, b_otherwise, b_more, StepsExpand}
use Rattle.kl_ho.specs.Expansion.{s_none, s_more}
use Rattle.kl_ho.specs.HoPrograms.{FunctionFields, no_highers, with_higher, ProgramExpands, x_last, x_constant, x_function, x_dropped}
use Rattle.kl_ho.proofs.Counting.{some_none}
use Rattle.kl_ho.proofs.Holding.{differs, old_other}

-- ---- levels

-- two new names of one variable stand at one level
abbrev SameLevel : Option Name → Option Name → Places → Places → Type 0
SameLevel (Some y) (Some z) R Q = (m : ℕ) × (level_of y R ≡ Some m) × (level_of z Q ≡ Some m)
SameLevel None None R Q = Unit {0}
SameLevel _ _ R Q = ⊥

-- two expansions at one place of the program: each variable that is seen stands at the same level in both, and no old name is bound
record Aligned (is_new also_new : New) (S T : Scope) (R Q : Places) : Type 0 where
  size : length R ≡ length Q
  seen : (x : Name) → SameLevel (field x S) (field x T) R Q
  around : (x : Name) → is_new x ≡ false → level_of x R ≡ None
  beside : (x : Name) → also_new x ≡ false → level_of x Q ≡ None

module _ (is_new also_new : New) where
  abbrev Along : Scope → Scope → Places → Places → Type 0
  Along S T R Q = Aligned is_new also_new S T R Q

  nothing_seen : Along [] [] [] []
  nothing_seen = record { size = refl; seen = λ x. tt; around = λ x o. refl; beside = λ x o. refl }

  unseen : {S T : Scope} {R Q : Places} → Along S T R Q → Along [] [] R Q
  unseen a = record { size = a.size; seen = λ x. tt; around = a.around; beside = a.beside }

  -- a position without a name
  unnamed : {S T : Scope} {R Q : Places} → Along S T R Q → Along S T (None ∷ R) (None ∷ Q)
  unnamed {S} {T} {R} {Q} a = record { size = ap suc a.size; seen = λ x. at (field x S) (field x T) (a.seen x); around = a.around; beside = a.beside }
    where
      at : (o p : Option Name) → SameLevel o p R Q → SameLevel o p (None ∷ R) (None ∷ Q)
      at (Some y) (Some z) h = h
      at None None h = h
      at (Some y) None h = h
      at None (Some z) h = h

  bound : {S T : Scope} {R Q : Places} (x y z : Name) → is_new y ≡ true → HidesNone x y S → also_new z ≡ true → HidesNone x z T → Along S T R Q
      → Along ((x, y) ∷ S) ((x, z) ∷ T) (Some y ∷ R) (Some z ∷ Q)
  bound {S} {T} {R} {Q} x y z n h m k a = record {
    size = ap suc a.size;
    seen = λ w. by_name w (same_name w x) refl;
    around = λ w o. rw (old_other is_new w y o n) (a.around w o);
    beside = λ w o. rw (old_other also_new w z o m) (a.beside w o);
  }
    where
      kept : (o p : Option Name) → ((v : Name) → o ≡ Some v → same_name v y ≡ false) → ((v : Name) → p ≡ Some v → same_name v z ≡ false) → SameLevel o p R Q
          → SameLevel o p (Some y ∷ R) (Some z ∷ Q)
      kept (Some u) (Some v) f g l = (l.0, rw (f u refl) l.1, rw (g v refl) l.2)
      kept None None f g l = l
      kept (Some u) None f g l = l
      kept None (Some v) f g l = l

      by_name : (w : Name) (b : Bool) → same_name w x ≡ b → SameLevel (cond b (Some y) (field w S)) (cond b (Some z) (field w T)) (Some y ∷ R) (Some z ∷ Q)
      by_name w true e = (length R, rw (same_label y) refl, rw (same_label z) (ap Some (sym a.size)))
      by_name w false e = kept (field w S) (field w T) (λ v i. differs x y w v S h i e) (λ v i. differs x z w v T k i e) (a.seen w)

  named_at : (codes : Codes) (o p : Option Name) (x y z : Name) (R Q : Places) → SameLevel o p R Q → (is_new x ≡ false → level_of x R ≡ None)
      → (also_new x ≡ false → level_of x Q ≡ None) → BecomesBy is_new o x y → BecomesBy also_new p x z → (n m : ℕ) → n ≡ m → name_tree codes R y n ≡ name_tree codes Q z m
  named_at codes (Some u) (Some v) x y z R Q l f g b c n m e =
      ap (λ o. level_tree o (codes y) n) (ap (λ w. level_of w R) b ∙ l.1) ∙ ap (λ k. at_level l.0 k) e
      ∙ sym (ap (λ o. level_tree o (codes z) m) (ap (λ w. level_of w Q) c ∙ l.2))
  named_at codes None None x y z R Q l f g b c n m e =
      ap (λ o. level_tree o (codes y) n) (ap (λ w. level_of w R) b.0 ∙ f b.1) ∙ ap (λ w. code_tree (codes w)) (b.0 ∙ sym c.0)
      ∙ sym (ap (λ o. level_tree o (codes z) m) (ap (λ w. level_of w Q) c.0 ∙ g c.1))
  named_at codes (Some u) None x y z R Q l f g b c n m e = absurd l
  named_at codes None (Some v) x y z R Q l f g b c n m e = absurd l

  same_named : (codes : Codes) (x y z : Name) {S T : Scope} {R Q : Places} → Along S T R Q → Becomes is_new S x y → Becomes also_new T x z → (n m : ℕ) → n ≡ m
      → name_tree codes R y n ≡ name_tree codes Q z m
  same_named codes x y z {S} {T} {R} {Q} a b c n m e = named_at codes (field x S) (field x T) x y z R Q (a.seen x) (a.around x) (a.beside x) b c n m e

  -- ---- patterns

  same_marks : {O P S T U V : Scope} {ps qs rs : Pats} → PatsBecome is_new O S ps qs T → PatsBecome also_new P U ps rs V → marks qs ≡ marks rs
  same_marks p_none p_none = refl
  same_marks (p_more t p ps) (p_more u q qs) = λ i. ((t ∙ sym u) i, value.Bool true) ∷ same_marks ps qs i

  same_rest : {S T U V : Scope} {R Q : Places} {end close also : Tail} (qs rs : Pats) → TailBecomes is_new S end close T → TailBecomes also_new U end also V → Along S U R Q → marks qs ≡ marks rs
      → (t u : Place) → t ≡ u → (A B : Places → Tree) → ((R Q : Places) → Along T V R Q → A R ≡ B Q) → with_rest close qs t A R ≡ with_rest also rs u B Q
  same_rest qs rs t_exact t_exact a m t u s A B go = go _ _ a
  same_rest qs rs t_open t_open a m t u s A B go = go _ _ a
  same_rest qs rs (t_rest {x = x} {y = y} n h) (t_rest {y = z} i k) a m t u s A B go =
      λ j. term.Let (term.Prim 28 (pair (place_tree (s j) (a.size j)) (term.Const (value.Rec (in_order (m j)))))) (go _ _ (bound x.text y.text z.text n h i k a) j)

  mutual
    same_matched : (codes : Codes) {O P S T U V : Scope} {Ro Qo R Q : Places} {p q r : Pat} → PatBecomes is_new O S p q T → PatBecomes also_new P U p r V → Along O P Ro Qo → Along S U R Q
        → (t u : Place) → t ≡ u → (e f : Tree) → e ≡ f → (A B : Places → Tree) → ((R Q : Places) → Along T V R Q → A R ≡ B Q) → matched q t codes Ro e A R ≡ matched r u codes Qo f B Q
    same_matched codes (p_catch {x = x} {y = y} n h) (p_catch {y = z} m k) o a t u s e f l A B go =
        λ i. term.Let (place_tree (s i) (a.size i)) (go _ _ (bound x.text y.text z.text n h m k a) i)
    same_matched codes p_any p_any o a t u s e f l A B go = go _ _ a
    same_matched codes (p_same {x = x} {y = y} b) (p_same {y = z} c) o a t u s e f l A B go =
        λ i. tested (place_tree (s i) (a.size i)) (same_named codes x.text y.text z.text o b c _ _ a.size i) (go _ _ a i) (l i)
    same_matched codes (p_is {v = v}) p_is o a t u s e f l A B go = λ i. tested (place_tree (s i) (a.size i)) (term.Const v) (go _ _ a i) (l i)
    same_matched codes (p_shape ps end) (p_shape qs close) o a t u s e f l A B go =
        same_fields_matched codes ps qs o a t u s e f l _ _ (λ R Q b. same_rest _ _ end close b (same_marks ps qs) t u s A B go)
    same_matched codes (p_variant t p) (p_variant u q) o a v w s e f l A B go =
        λ i. term.Case (place_tree (s i) (a.size i)) (arm ((t ∙ sym u) i)
        (same_matched codes p q o (unnamed a) _ _ (ap here a.size) e f l A B go i) (rest (l i)))

    same_fields_matched : (codes : Codes) {O P S T U V : Scope} {Ro Qo R Q : Places} {ps qs rs : Pats} → PatsBecome is_new O S ps qs T → PatsBecome also_new P U ps rs V → Along O P Ro Qo
        → Along S U R Q → (t u : Place) → t ≡ u → (e f : Tree) → e ≡ f → (A B : Places → Tree) → ((R Q : Places) → Along T V R Q → A R ≡ B Q)
        → matched_fields qs t codes Ro e A R ≡ matched_fields rs u codes Qo f B Q
    same_fields_matched codes p_none p_none o a t u s e f l A B go = go _ _ a
    same_fields_matched codes (p_more c p ps) (p_more d q qs) o a t u s e f l A B go =
        same_matched codes p q o a _ _ (λ i. inside ((c ∙ sym d) i) (s i)) e f l _ _ (λ R Q b. same_fields_matched codes ps qs o b t u s e f l A B go)

  same_here : (codes : Codes) {O P T V : Scope} {S U : Scope} {R Q : Places} {p q r : Pat} → PatBecomes is_new O S p q T → PatBecomes also_new P U p r V → Along O P R Q → Along S U R Q
      → (e : Tree) (A B : Places → Tree) → ((R Q : Places) → Along T V R Q → A R ≡ B Q) → matched_here q codes R e A ≡ matched_here r codes Q e B
  same_here codes p q o a e A B go = same_matched codes p q o (unnamed a) _ _ (ap here a.size) e e refl A B go

  -- ---- expressions

  same_projected : (ls ms ns : List Word) (t u : Tree) → texts ms ≡ texts ls → texts ns ≡ texts ls → t ≡ u → projected ms t ≡ projected ns u
  same_projected ls ms ns t u e f s = by ms ns (e ∙ sym f) t u s
    where
      by : (ms ns : List Word) → texts ms ≡ texts ns → (t u : Tree) → t ≡ u → projected ms t ≡ projected ns u
      by [] [] e t u s = s
      by [] (n ∷ ns) e t u s = absurd cc
      by (m ∷ ms) [] e t u s = absurd cc
      by (m ∷ ms) (n ∷ ns) e t u s = let head : m.text ≡ n.text = cc in let behind : texts ms ≡ texts ns = cc in by ms ns behind _ _ (λ i. term.Proj (head i) (s i))

  module _ (highers : Highers) (codes : Codes) where
    mutual
      same_tree : {n m : ℕ} {funs : Funs} {S T : Scope} {e x y : Exp} → Expands is_new highers n funs S e x → Expands also_new highers m funs T e y → (R Q : Places) → Along S T R Q
          → tree x codes R ≡ tree y codes Q
      same_tree e_const e_const R Q a = refl
      same_tree (e_name {x = x} {y = y} b) (e_name {y = z} c) R Q a = same_named codes x.text y.text z.text a b c _ _ a.size
      same_tree (e_call n t o es) (e_call m u p fs) R Q a = λ i. called_tree (codes ((t ∙ sym u) i)) (same_trees es fs R Q a i)
      same_tree (e_call n t o es) (e_unfold d given found g fs p b) R Q a = absurd (some_none found n)
      same_tree (e_unfold d given found g fs p b) (e_call n t o es) R Q a = absurd (some_none found n)
      same_tree (e_unfold {funs = funs} {fs = ls} d given found g fs p x) (e_unfold {n = k} {S = S} {T = T} {gs = hs} {q = r} {b = z} c others known i gs q y) R Q a =
          let one : d ≡ c = same_Some d c (sym found ∙ known) in
          let two : given ≡ others = same_Some given others (sym g ∙ subst (λ h. given_by h.handed ls funs ≡ Some others) (sym one) i) in
          let fields = same_tree_fields fs (subst (λ h. FieldsExpand also_new highers (suc k) funs S h.handed ls hs) (sym one) gs) R Q a in
          let pattern = subst (λ h. PatBecomes also_new [] [] (shape h.rest tail.Exact) r T) (sym one) q in
          let body = subst (λ h. Expands also_new highers k given T h.body z) (sym one) (subst (λ w. Expands also_new highers k w T c.body z) (sym two) y) in
          λ i. term.Let (term.Rec (term.parts_of (in_order (fields i)))) (same_here codes p pattern (unseen a) (unseen a) no_sense _ _ (λ R Q b. same_tree x body R Q b) i)
      same_tree (e_rec fs) (e_rec gs) R Q a = λ i. term.Rec (term.parts_of (in_order (same_tree_fields fs gs R Q a i)))
      same_tree (e_extend fs b) (e_extend gs c) R Q a = λ i. term.Prim 27 (pair (term.Rec (term.parts_of (in_order (same_tree_fields fs gs R Q a i)))) (same_tree b c R Q a i))
      same_tree (e_inj t b) (e_inj u c) R Q a = λ i. term.Inj ((t ∙ sym u) i) (same_tree b c R Q a i)
      same_tree (e_coll {k = k} es) (e_coll fs) R Q a = λ i. term.Make k (same_trees es fs R Q a i)
      same_tree (e_comp {k = k} qs b) (e_comp rs c) R Q a = same_quals qs rs k R Q a _ _ (λ R Q d. λ i. term.Make k (trees (same_tree b c R Q d i) no_trees))
      same_tree (e_if b c d) (e_if x y z) R Q a = λ i. term.If (same_tree b x R Q a i) (same_tree c y R Q a i) (same_tree d z R Q a i)
      same_tree (e_let b p c) (e_let x q y) R Q a = λ i. term.Let (same_tree b x R Q a i) (same_here codes p q a a no_sense _ _ (λ R Q d. same_tree c y R Q d) i)
      same_tree (e_case b bs) (e_case x cs) R Q a = λ i. term.Case (same_tree b x R Q a i) (same_branches bs cs R Q a i)
      same_tree (e_path {ls = ls} {ms = ms} t b) (e_path {ms = ns} u c) R Q a = same_projected ls ms ns _ _ t u (same_tree b c R Q a)
      same_tree (e_not b) (e_not c) R Q a = λ i. term.Prim 11 (trees (same_tree b c R Q a i) no_trees)
      same_tree (e_neg b) (e_neg c) R Q a = λ i. term.Prim 10 (trees (same_tree b c R Q a i) no_trees)
      same_tree (e_chain b ss) (e_chain c rs) R Q a = same_steps ss rs R Q a _ _ (same_tree b c R Q a)

      same_trees : {n m : ℕ} {funs : Funs} {S T : Scope} {es xs ys : Exps} → ExpandAll is_new highers n funs S es xs → ExpandAll also_new highers m funs T es ys → (R Q : Places) → Along S T R Q
          → tree_all xs codes R ≡ tree_all ys codes Q
      same_trees a_none a_none R Q a = refl
      same_trees (a_more e es) (a_more f fs) R Q a = λ i. trees (same_tree e f R Q a i) (same_trees es fs R Q a i)

      same_tree_fields : {n m : ℕ} {funs : Funs} {S T : Scope} {skips : List (Name × Name)} {fs gs hs : Flds} → FieldsExpand is_new highers n funs S skips fs gs
          → FieldsExpand also_new highers m funs T skips fs hs → (R Q : Places) → Along S T R Q → tree_fields gs codes R ≡ tree_fields hs codes Q
      same_tree_fields f_none f_none R Q a = refl
      same_tree_fields (f_skip s fs) (f_skip t gs) R Q a = same_tree_fields fs gs R Q a
      same_tree_fields (f_more s t e fs) (f_more u v f gs) R Q a = λ i. ((t ∙ sym v) i, same_tree e f R Q a i) ∷ same_tree_fields fs gs R Q a i
      same_tree_fields (f_skip s fs) (f_more u v f gs) R Q a = absurd cc
      same_tree_fields (f_more s t e fs) (f_skip u gs) R Q a = absurd cc

      same_quals : {n m : ℕ} {funs : Funs} {S T U V : Scope} {qs rs ts : Quals} → QualsExpand is_new highers n funs S qs rs U → QualsExpand also_new highers m funs T qs ts V → (k : Kind)
          → (R Q : Places) → Along S T R Q → (A B : Places → Tree) → ((R Q : Places) → Along U V R Q → A R ≡ B Q) → tree_quals rs k A codes R ≡ tree_quals ts k B codes Q
      same_quals q_none q_none k R Q a A B go = go R Q a
      same_quals (q_draw e p qs) (q_draw f q rs) k R Q a A B go =
          λ i. term.Ext k (same_here codes p q a a (empty k) _ _ (λ R Q b. same_quals qs rs k R Q b A B go) i) (same_tree e f R Q a i)
      same_quals (q_test e qs) (q_test f rs) k R Q a A B go = λ i. term.If (same_tree e f R Q a i) (same_quals qs rs k R Q a A B go i) (empty k)

      same_branches : {n m : ℕ} {funs : Funs} {S T : Scope} {bs cs ds : Branches} → BranchesExpand is_new highers n funs S bs cs → BranchesExpand also_new highers m funs T bs ds → (R Q : Places)
          → Along S T R Q → tree_branches cs codes R ≡ tree_branches ds codes Q
      same_branches b_none b_none R Q a = refl
      same_branches (b_otherwise e) (b_otherwise f) R Q a = λ i. rest (same_tree e f R Q a i)
      same_branches (b_more t p e bs) (b_more u q f cs) R Q a =
          λ i. arm ((t ∙ sym u) i) (same_here codes p q a a no_sense _ _ (λ R Q b. same_tree e f R Q b) i) (same_branches bs cs R Q a i)

      same_steps : {n m : ℕ} {funs : Funs} {S T : Scope} {ss rs ts : Steps} → StepsExpand is_new highers n funs S ss rs → StepsExpand also_new highers m funs T ss ts → (R Q : Places)
          → Along S T R Q → (t u : Tree) → t ≡ u → tree_steps rs t codes R ≡ tree_steps ts u codes Q
      same_steps s_none s_none R Q a t u s = s
      same_steps (s_more {c = c} e ss) (s_more f rs) R Q a t u s = same_steps ss rs R Q a _ _ (λ i. operated_tree c (s i) (same_tree e f R Q a i))

  -- ---- programs

  same_function : (highers : Highers) (codes : Codes) {n m : ℕ} {S T : Scope} {p q r : Pat} {a b c : Exp} → PatBecomes is_new [] [] p q S → PatBecomes also_new [] [] p r T
      → Expands is_new highers n [] S a b → Expands also_new highers m [] T a c → function_tree q b codes ≡ function_tree r c codes
  same_function highers codes p q h k = same_here codes p q nothing_seen nothing_seen no_sense _ _ (λ R Q a. same_tree highers codes h k R Q a)

  same_after : (fields : FunctionFields) {n m : ℕ} {highers : Highers} {ds cs bs : Decls} {e x y : Exp} → ProgramExpands is_new fields n highers ds e cs x
      → ProgramExpands also_new fields m highers ds e bs y → (codes : Codes) → tree x (codes_after cs codes) [] ≡ tree y (codes_after bs codes) []
  same_after fields (x_last {highers = highers} h) (x_last k) codes = same_tree highers codes h k [] [] nothing_seen
  same_after fields (x_constant {highers = highers} {c = c} {b = b} t h more) (x_constant {x = y} {cs = bs} u k beyond) codes =
      same_after fields more beyond (with_code c.text (value_by (tree b codes [])) codes)
      ∙ (λ i. tree y (codes_after bs (with_code ((t ∙ sym u) i) (value_by (same_tree highers codes h k [] [] nothing_seen i)) codes)) [])
  same_after fields (x_function {highers = highers} {c = c} {q = q} {b = b} none t p h more) (x_function {x = y} {cs = bs} also_none u r k beyond) codes =
      same_after fields more beyond (with_code c.text (function_by (function_tree q b codes)) codes)
      ∙ (λ i. tree y (codes_after bs (with_code ((t ∙ sym u) i) (function_by (same_function highers codes p r h k i)) codes)) [])
  same_after fields (x_function none t p h more) (x_dropped d is beyond) codes = absurd (some_none is none)
  same_after fields (x_dropped d is beyond) (x_function none t p h more) codes = absurd (some_none is none)
  same_after fields (x_dropped {highers = highers} {d = d} {e = e} {ds = ds} h is more) (x_dropped {n = m} {x = y} {cs = bs} k known beyond) codes =
      let one : h ≡ k = same_Some h k (sym is ∙ known) in
      same_after fields more (subst (λ g. ProgramExpands also_new fields m (with_higher d.text (Some g) highers) ds e bs y) (sym one) beyond) codes

pub same_term : (is_new also_new : New) (fields : FunctionFields) {n m : ℕ} {ds cs bs : Decls} {e x y : Exp} → ProgramExpands is_new fields n no_highers ds e cs x
    → ProgramExpands also_new fields m no_highers ds e bs y → (sources : List Name) → term_of cs x sources ≡ term_of bs y sources
same_term is_new also_new fields h k sources = same_after is_new also_new fields h k (codes_first sources)
