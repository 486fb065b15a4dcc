-- The forms of expressions as the code checks them.
use Rattle.std.proofs.Common.{◌≡◌, ℕ, Bool, false, List, [], ◌∷◌, ◌++◌, length, map, drop, get_or, slice_index_or, zero, suc, ◌+◌, ◌<◌, ◌≤◌, arith, Option, Some, None, Result, Ok, Err, refl, sym, ap, ◌∙◌, subst}
use Rattle.std.specs.Prelude.{is_some}
use Rattle.std.specs.Option.{option_map}
use Rattle.std.proofs.lemmas.List.{drop_all}
use Rattle.std.specs.List.{AllByRecursion}
use Rattle.kl_value.specs.declared.Kind.{Kind}
use Rattle.kl_value.specs.declared.Value.{Value}
use Rattle.kl_type.specs.Ground.{Ground, bool, IsGround}
use Rattle.kl_rows.specs.Lists.{Fields}
use Rattle.kl_rows.specs.Solutions.{Assignment}
use Rattle.kl_rows.proofs.Advancing.{Fact}
use Rattle.kl_forms.specs.Forms.{ItemsOf, DrawnFrom, VariantOf, IsRecord, IsVariant, RestOf, IsOfType, Applies, Operates}
use Rattle.kl_outcome.specs.Outcome.{Name}
use Rattle.kl_outcome.specs.Typed.{PrimTypes}
use Rattle.kl_syntax.specs.declared.tree.Branch.{Branch, out-Branch}
use Rattle.kl_syntax.specs.declared.tree.Expr.{Expr}
use Rattle.kl_syntax.specs.declared.tree.Expr.TheVariants as expr
use Rattle.kl_syntax.specs.declared.tree.Op.{Op}
use Rattle.kl_syntax.specs.declared.tree.Pattern.{Pattern}
use Rattle.kl_syntax.specs.declared.tree.Qual.{Qual}
use Rattle.kl_syntax.specs.declared.tree.Qual.TheVariants as quals
use Rattle.kl_syntax.specs.declared.tree.Word.{Word}
use Rattle.kl_syntax.specs.Syntax.{Exp, Exps, Steps, Branches, no_branches, Quals, no_quals, draw, Case, Rec}
use Rattle.kl_syntax.specs.View.{view, qual_view, branch_view, branches_of, rest_of, exps_of, exps_view, flds_of, field_view, quals_view, steps_view, pattern_view}
use Rattle.kl_meaning.specs.Typing.{Context, NameTypes, CallTypes, Takes, PathTypes, Types, AllTypes, EachType, QualTypes, StepTypes}
use Rattle.kl_infer.specs.Asking.{Leaves, Asks, Refuses, Asked, Gets, Found, GetsMany, Binds, Bound, Binding, context, onto}
use Rattle.kl_infer.specs.Names.{Ready, sorts, ArmsTake, labelled}
use Rattle.kl_infer.specs.declared.refusal.Refusal.{Refusal}
use Rattle.kl_infer.specs.declared.scope.Known.{Known}
use Rattle.kl_rows.specs.declared.cell.Cell.{Cell}
use Rattle.kl_rows.specs.Places.{IsFine, IsType, AreTypes}
use Rattle.kl_infer.proofs.Leaving.{Leads, begins, restated, leads_on, binds, opens_none, said, ready_on, ready_for, ready_in, ready_head, ready_tail, ready_both}
use Rattle.kl_infer.proofs.Loops.{BindingLeads, at_number, ends, all_next, each_next, arms_next, step_checked, step_refused, steps_next, quals_next, binding_begins, bound_all, draw_split, draw_join, test_split, test_join, draw_refused, draw_unchecked, draw_untaken, draw_form, test_form}
use Rattle.kl_infer.proofs.PatternForms.{ready_out, bound_so_far}
use Rattle.kl_infer.proofs.Forms.{T, second, Payload, Items, Drawn, Body, constant_form, inject_seen, inject_opened, coll_seen, coll_opened, comp_seen, comp_bound, head_checked, head_left, let_checked, let_bound, if_tested, if_chosen}
use Rattle.kl_infer.proofs.Lists.{Arms, with_arms, LastTypes, IsLast, none_last, rest_last, is_rest, names_of, length_names, bodies, RestAt, rest_at, more_refused, more_asked, Armed, Left, call_asked, record_asked, case_chosen, case_checked, case_armed}
use Rattle.kl_infer.proofs.Views.{arm, view_con, view_name, view_call, view_rec, view_more, view_inj, view_coll, view_comp, view_if, view_let, view_case, view_path, view_not, view_neg, view_chain, count_view, names_seen, bodies_seen, length_seen, arm_names, arm_length, arms_seen, view_gen, view_cond}
use Rattle.kl_base.proofs.Places.{drop_at}
use Rattle.kl_syntax.proofs.Views.{branch_seen}

module _ (k : Known) (ns : Fields) (w : ℕ) (e : Expr) (a : List Cell) (ready : Ready k a ns (w ∷ [])) where
  -- the expression has the type
  abbrev pub Has : Fact
  Has = λ s. Types (view e) (sorts k) (context s ns) (s.types w)

  at_view : (r : Result (Unit {0}) Refusal) (b : List Cell) (x : Exp) (R : Fact) → view e ≡ x → Leads r a b (T k ns x w) R → Leads r a b Has R
  at_view r b x R v f = subst (λ (z : Exp). Leads r a b (T k ns z w) R) (sym v) f

  pub const_ok : (r : Result (Unit {0}) Refusal) (b : List Cell) (v : Value) → e ≡ expr.Const v → Asked r a b (IsOfType v w) → Asked r a b Has
  const_ok r b v h f = at_view r b _ (λ s. Unit {0}) (view_con e v h) (constant_form k ns a w ready r b v f)

  pub name_ok : (r : Result (Unit {0}) Refusal) (b : List Cell) (x : Word) → e ≡ expr.Name x → Asked r a b (λ s. NameTypes (sorts k) (context s ns) x.text (s.types w)) → Asked r a b Has
  name_ok r b x h f = at_view r b _ (λ s. Unit {0}) (view_name e x h) f

  module _ (l : Word) (x y : Expr) (h : e ≡ expr.Inj l x) (j : y ≡ x) where
    pub inject_none : (o : Refusal) → Refuses a (λ s. (t : Ground) × IsGround t × VariantOf l.text w t s) o → Refuses a Has o
    inject_none o f = at_view (Err o) a _ (λ s. Unit {0}) (view_inj e l x y h j)
        (leads_on (Err o) a a a _ _ (λ s. Unit {0}) (inject_seen k ns a w ready l (view y)) (opens_none a (VariantOf l.text w) (Payload k ns a w ready l (view y)) o f))

    pub inject_ok : (r : Result (Unit {0}) Refusal) (b c : List Cell) (i : ℕ) → Gets a b i (VariantOf l.text w) → Asked r b c (T k ns (view y) i) → Asked r a c Has
    inject_ok r b c i g f = at_view r c _ (λ s. Unit {0}) (view_inj e l x y h j) (leads_on r a b c _ _ (λ s. Unit {0}) (inject_opened k ns a w ready l (view y) b i g) f)

  module _ (n : Kind) (xs ys : List Expr) (h : e ≡ expr.Coll n xs) (j : ys ≡ xs) where
    pub coll_none : (o : Refusal) → Refuses a (λ s. (t : Ground) × IsGround t × ItemsOf n w t s) o → Refuses a Has o
    coll_none o f = at_view (Err o) a _ (λ s. Unit {0}) (view_coll e n xs ys h j)
        (leads_on (Err o) a a a _ _ (λ s. Unit {0}) (coll_seen k ns a w ready n (exps_view ys)) (opens_none a (ItemsOf n w) (Items k ns a w ready n (exps_view ys)) o f))

    pub coll_ok : (r : Result (Unit {0}) Refusal) (b c : List Cell) (i : ℕ) → Gets a b i (ItemsOf n w) → Asked r b c (λ s. EachType (exps_view ys) (sorts k) (context s ns) (s.types i)) → Asked r a c Has
    coll_ok r b c i g f = at_view r c _ (λ s. Unit {0}) (view_coll e n xs ys h j) (leads_on r a b c _ _ (λ s. Unit {0}) (coll_opened k ns a w ready n (exps_view ys) b i g) f)

  module _ (n : Kind) (x y : Expr) (qs rs : List Qual) (h : e ≡ expr.Comp n x qs) (j1 : y ≡ x) (j2 : rs ≡ qs) where
    pub comp_none : (o : Refusal) → Refuses a (λ s. (t : Ground) × IsGround t × ItemsOf n w t s) o → Refuses a Has o
    comp_none o f = at_view (Err o) a _ (λ s. Unit {0}) (view_comp e n x y qs rs h j1 j2)
        (leads_on (Err o) a a a _ _ (λ s. Unit {0}) (comp_seen k ns a w ready n (view y) (quals_view rs)) (opens_none a (ItemsOf n w) (Drawn k ns a w ready n (view y) (quals_view rs)) o f))

    pub comp_bound_so : (r : Result (Unit {0}) Refusal) (b c : List Cell) (i : ℕ) (bs0 bs : Fields) → bs0 ≡ [] → Gets a b i (ItemsOf n w) → Bound r b c bs0 bs ns (λ s. QualTypes (quals_view rs) (sorts k))
        → Leads r a c Has (λ s. Types (view y) (sorts k) (context s (onto bs ns)) (s.types i))
    comp_bound_so r b c i bs0 bs e0 g q = at_view r c _ _ (view_comp e n x y qs rs h j1 j2)
        (comp_bound k ns a w ready n (view y) (quals_view rs) r b c i bs g (subst (λ (v : Fields). Bound r b c v bs ns (λ s. QualTypes (quals_view rs) (sorts k))) e0 q))

    pub comp_ok : (r : Result (Unit {0}) Refusal) (b c d : List Cell) (i : ℕ) (bs0 bs cs : Fields) → bs0 ≡ [] → cs ≡ bs → Gets a b i (ItemsOf n w) → Binds b c bs0 bs ns (λ s. QualTypes (quals_view rs) (sorts k))
        → Asked r c d (λ s. Types (view y) (sorts k) (context s (onto cs ns)) (s.types i)) → Asked r a d Has
    comp_ok r b c d i bs0 bs cs e0 ec g q f = leads_on r a c d _ _ (λ s. Unit {0}) (comp_bound_so (Ok tt) b c i bs0 bs e0 g q) (subst (λ (v : Fields). Asked r c d (λ s. Types (view y) (sorts k) (context s (onto v ns)) (s.types i))) ec f)

  -- an expression, and what is asked of its type
  module _ (b : List Cell) (i : ℕ) (g : Gets a b i (λ t s. Unit {0})) where
    pub path_checked : (r : Result (Unit {0}) Refusal) (c : List Cell) (x y : Expr) (ls ms : List Word) → e ≡ expr.Path x ls → y ≡ x → ms ≡ ls → Asked r b c (T k ns (view y) i) → Leads r a c Has (λ s. PathTypes ms (s.types i) (s.types w))
    path_checked r c x y ls ms h j1 j2 f = at_view r c _ _ (view_path e x y ls ms h j1 j2) (head_checked k ns a w ready b i g (view y) (λ G t u. PathTypes ms t u) r c f)

    pub chain_checked : (r : Result (Unit {0}) Refusal) (c : List Cell) (x y : Expr) (ss rs : List (Op × Expr)) → e ≡ expr.Chain x ss → y ≡ x → rs ≡ ss → Asked r b c (T k ns (view y) i)
        → Leads r a c Has (λ s. StepTypes (steps_view rs) (sorts k) (context s ns) (s.types i) (s.types w))
    chain_checked r c x y ss rs h j1 j2 f = at_view r c _ _ (view_chain e x y ss rs h j1 j2) (head_checked k ns a w ready b i g (view y) (λ G t u. StepTypes (steps_view rs) (sorts k) G t u) r c f)

    pub not_applied : (r : Result (Unit {0}) Refusal) (c : List Cell) (x y : Expr) → e ≡ expr.Not x → y ≡ x → Asked r b c (Applies 11 (i ∷ []) w) → Leads r a c Has (T k ns (view y) i)
    not_applied r c x y h j f = at_view r c _ _ (view_not e x y h j) (head_left k ns a w ready b i g (view y) (λ G t u. PrimTypes 11 (t ∷ []) u) r c f)

    pub neg_applied : (r : Result (Unit {0}) Refusal) (c : List Cell) (x y : Expr) → e ≡ expr.Neg x → y ≡ x → Asked r b c (Applies 10 (i ∷ []) w) → Leads r a c Has (T k ns (view y) i)
    neg_applied r c x y h j f = at_view r c _ _ (view_neg e x y h j) (head_left k ns a w ready b i g (view y) (λ G t u. PrimTypes 10 (t ∷ []) u) r c f)

    module _ (p : Pattern) (x y x2 y2 : Expr) (h : e ≡ expr.Let p x y) (j1 : x2 ≡ x) (j2 : y2 ≡ y) where
      pub let_checked_so : (r : Result (Unit {0}) Refusal) (c : List Cell) → Asked r b c (T k ns (view x2) i) → Leads r a c Has (λ s. Body k ns a w ready b i g (pattern_view p) (view x2) (view y2) (context s ns) (s.types i) (s.types w))
      let_checked_so r c f = at_view r c _ _ (view_let e p x y x2 y2 h j1 j2) (let_checked k ns a w ready b i g (pattern_view p) (view x2) (view y2) r c f)

      pub let_bound_so : (r : Result (Unit {0}) Refusal) (c d : List Cell) (bs0 bs : Fields) → bs0 ≡ [] → Asks b c (T k ns (view x2) i) → Bound r c d bs0 bs ns (λ s. Takes (pattern_view p) (NameTypes (sorts k) (context s ns)) (s.types i))
          → Leads r a d Has (λ s. Types (view y2) (sorts k) (context s (onto bs ns)) (s.types w))
      let_bound_so r c d bs0 bs e0 f q = at_view r d _ _ (view_let e p x y x2 y2 h j1 j2)
          (let_bound k ns a w ready b i g (pattern_view p) (view x2) (view y2) r c d bs f (subst (λ (u : Fields). Bound r c d u bs ns (λ s. Takes (pattern_view p) (NameTypes (sorts k) (context s ns)) (s.types i))) e0 q))

      pub let_ok : (r : Result (Unit {0}) Refusal) (c d z : List Cell) (bs0 bs cs : Fields) → bs0 ≡ [] → cs ≡ bs → Asks b c (T k ns (view x2) i) → Binds c d bs0 bs ns (λ s. Takes (pattern_view p) (NameTypes (sorts k) (context s ns)) (s.types i))
          → Asked r d z (λ s. Types (view y2) (sorts k) (context s (onto cs ns)) (s.types w)) → Asked r a z Has
      let_ok r c d z bs0 bs cs e0 ec f q m = leads_on r a d z _ _ (λ s. Unit {0}) (let_bound_so (Ok tt) c d bs0 bs e0 f q) (subst (λ (u : Fields). Asked r d z (λ s. Types (view y2) (sorts k) (context s (onto u ns)) (s.types w))) ec m)

  module _ (b : List Cell) (i : ℕ) (g : Gets a b i (λ t s. t ≡ bool)) (x y u x2 y2 u2 : Expr) (h : e ≡ expr.If x y u) (j1 : x2 ≡ x) (j2 : y2 ≡ y) (j3 : u2 ≡ u) where
    pub if_tested_so : (r : Result (Unit {0}) Refusal) (c : List Cell) → Asked r b c (T k ns (view x2) i) → Leads r a c Has (λ s. T k ns (view y2) w s × T k ns (view u2) w s)
    if_tested_so r c f = at_view r c _ _ (view_if e x y u x2 y2 u2 h j1 j2 j3) (if_tested k ns a w ready b i g (view x2) (view y2) (view u2) r c f)

    pub if_chosen_so : (r : Result (Unit {0}) Refusal) (c d : List Cell) → Asks b c (T k ns (view x2) i) → Asked r c d (T k ns (view y2) w) → Leads r a d Has (T k ns (view u2) w)
    if_chosen_so r c d f q = at_view r d _ _ (view_if e x y u x2 y2 u2 h j1 j2 j3) (if_chosen k ns a w ready b i g (view x2) (view y2) (view u2) r c d f q)

    pub if_ok : (r : Result (Unit {0}) Refusal) (c d z : List Cell) → Asks b c (T k ns (view x2) i) → Asks c d (T k ns (view y2) w) → Asked r d z (T k ns (view u2) w) → Asked r a z Has
    if_ok r c d z f q m = leads_on r a d z _ _ (λ s. Unit {0}) (if_chosen_so (Ok tt) c d f q) m

  module _ (b : List Cell) (is ds1 : List ℕ) (j2 : ds1 ≡ is) where
    pub call_asked_so : (r : Result (Unit {0}) Refusal) (c : List Cell) (f : Word) (xs ys : List Expr) → e ≡ expr.Call f xs → ys ≡ xs → GetsMany a b is (length ys) → Asked r b c (λ s. CallTypes (sorts k f.text) (map s.types ds1) (s.types w))
        → Leads r a c Has (λ s. AllTypes (exps_view ys) (sorts k) (context s ns) (map s.types is))
    call_asked_so r c f xs ys h j1 g q = at_view r c _ _ (view_call e f xs ys h j1)
        (call_asked k ns r a b c w ready is (length ys) f (exps_view ys) (sym (count_view ys)) g (subst (λ (v : List ℕ). Asked r b c (λ s. CallTypes (sorts k f.text) (map s.types v) (s.types w))) j2 q))

    pub call_ok : (r : Result (Unit {0}) Refusal) (c d : List Cell) (ds2 : List ℕ) (f : Word) (xs ys : List Expr) → ds2 ≡ is → e ≡ expr.Call f xs → ys ≡ xs → GetsMany a b is (length ys) → Asks b c (λ s. CallTypes (sorts k f.text) (map s.types ds1) (s.types w))
        → Asked r c d (λ s. AllTypes (exps_view ys) (sorts k) (context s ns) (map s.types ds2)) → Asked r a d Has
    call_ok r c d ds2 f xs ys j3 h j1 g q m = leads_on r a c d _ _ (λ s. Unit {0}) (call_asked_so (Ok tt) c f xs ys h j1 g q) (subst (λ (v : List ℕ). Asked r c d (λ s. AllTypes (exps_view ys) (sorts k) (context s ns) (map s.types v))) j3 m)

    pub record_asked_so : (r : Result (Unit {0}) Refusal) (c : List Cell) (xs ys : List (Word × Expr)) (all : Fields) → e ≡ expr.Rec xs → ys ≡ xs → all ≡ labelled (map (λ f. f.0.text) ys) ds1 → GetsMany a b is (length ys) → Asked r b c (IsRecord false all w)
        → Leads r a c Has (λ s. AllTypes (exps_of (map (λ f. view f.1) ys)) (sorts k) (context s ns) (map s.types is))
    record_asked_so r c xs ys all h j1 j4 g q =
        let fs = map field_view ys in
        let same : all ≡ labelled (names_of fs) is = j4 ∙ ap (λ (v : List Name). labelled v ds1) (sym (names_seen ys)) ∙ ap (labelled (names_of fs)) j2 in
        at_view r c _ _ (view_rec e xs ys h j1)
        (subst (λ (v : Exps). Leads r a c (T k ns (Rec (flds_of fs)) w) (λ s. AllTypes v (sorts k) (context s ns) (map s.types is))) (bodies_seen ys)
        (record_asked k ns r a b c w ready is fs (subst (λ (n : ℕ). GetsMany a b is n) (sym (length_seen ys)) g) (subst (λ (v : Fields). Asked r b c (IsRecord false v w)) same q)))

    pub record_ok : (r : Result (Unit {0}) Refusal) (c d : List Cell) (ds2 : List ℕ) (xs ys : List (Word × Expr)) (all : Fields) → ds2 ≡ is → e ≡ expr.Rec xs → ys ≡ xs → all ≡ labelled (map (λ f. f.0.text) ys) ds1 → GetsMany a b is (length ys) → Asks b c (IsRecord false all w)
        → Asked r c d (λ s. AllTypes (exps_of (map (λ f. view f.1) ys)) (sorts k) (context s ns) (map s.types ds2)) → Asked r a d Has
    record_ok r c d ds2 xs ys all j3 h j1 j4 g q m = leads_on r a c d _ _ (λ s. Unit {0}) (record_asked_so (Ok tt) c xs ys all h j1 j4 g q)
        (subst (λ (v : List ℕ). Asked r c d (λ s. AllTypes (exps_of (map (λ f. view f.1) ys)) (sorts k) (context s ns) (map s.types v))) j3 m)

  -- a record with more fields
  module _ (b : List Cell) (is ds1 : List ℕ) (j2 : ds1 ≡ is) (x y : Expr) (xs ys : List (Word × Expr)) (all : Fields) (h : e ≡ expr.More xs x) (j1 : ys ≡ xs) (j3 : y ≡ x) (j4 : all ≡ labelled (map (λ f. f.0.text) ys) ds1) (g : GetsMany a b is (length ys)) where
    abbrev Pairs : List (Word × Exp)
    Pairs = map field_view ys

    many_more : GetsMany a b is (length Pairs)
    many_more = subst (λ (n : ℕ). GetsMany a b is n) (sym (length_seen ys)) g

    rest_so : (r : Result ℕ Refusal) (c : List Cell) → Found r b c (RestOf all w) → Found r b c (λ u s. RestAt (names_of Pairs) (s.types w) (map s.types is) u)
    rest_so r c q =
        let same : all ≡ labelled (names_of Pairs) is = j4 ∙ ap (λ (v : List Name). labelled v ds1) (sym (names_seen ys)) ∙ ap (labelled (names_of Pairs)) j2 in
        rest_at r b c (names_of Pairs) is w (many_more.size ∙ sym (length_names Pairs)) (subst (λ (v : Fields). Found r b c (RestOf v w)) same q)

    pub more_none : (o : Refusal) → Refuses b (λ s. (t : Ground) × IsGround t × RestOf all w t s) o → Refuses a Has o
    more_none o q = at_view (Err o) b _ (λ s. Unit {0}) (view_more e x y xs ys h j1 j3) (more_refused k ns a b w ready is Pairs (view y) many_more o (rest_so (Err o) b q))

    pub more_asked_so : (r : Result (Unit {0}) Refusal) (c d : List Cell) (i : ℕ) (ds2 : List ℕ) → ds2 ≡ is → Gets b c i (RestOf all w)
        → Asked r c d (λ s. AllTypes (exps_of (map (λ f. view f.1) ys)) (sorts k) (context s ns) (map s.types ds2)) → Leads r a d Has (T k ns (view y) i)
    more_asked_so r c d i ds2 j5 q m = at_view r d _ _ (view_more e x y xs ys h j1 j3)
        (more_asked k ns a b w ready is Pairs (view y) many_more r c d i (rest_so (Ok i) c q)
        (subst (λ (v : List ℕ). Asked r c d (λ s. AllTypes (bodies Pairs) (sorts k) (context s ns) (map s.types v))) j5
        (subst (λ (v : Exps). Asked r c d (λ s. AllTypes v (sorts k) (context s ns) (map s.types ds2))) (sym (bodies_seen ys)) m)))

    pub more_ok : (r : Result (Unit {0}) Refusal) (c d z : List Cell) (i : ℕ) (ds2 : List ℕ) → ds2 ≡ is → Gets b c i (RestOf all w)
        → Asks c d (λ s. AllTypes (exps_of (map (λ f. view f.1) ys)) (sorts k) (context s ns) (map s.types ds2)) → Asked r d z (T k ns (view y) i) → Asked r a z Has
    more_ok r c d z i ds2 j5 q m f = leads_on r a d z _ _ (λ s. Unit {0}) (more_asked_so (Ok tt) c d i ds2 j5 q m) f

  -- a `case`: `last` is what stands behind its branches
  module _ (b c : List Cell) (i : ℕ) (is ds1 : List ℕ) (y y2 : Expr) (bs bs2 : List Branch) (rest : Option Expr) (all : Fields) (o : Bool) (last : Branches) (il : IsLast last) (lr : rest_of (option_map view rest) ≡ last) (oo : o ≡ is_rest last)
      (h : e ≡ expr.Case y bs rest) (j1 : y2 ≡ y) (j2 : bs2 ≡ bs) (j3 : ds1 ≡ is) (j5 : all ≡ labelled (map (λ b. (out-Branch b).label.text) bs2) ds1) (g1 : GetsMany a b is (length bs2)) (g2 : Gets b c i (λ t s. Unit {0})) where
    abbrev Arms_in : Arms
    Arms_in = map arm bs2

    pub many : GetsMany a b is (length Arms_in)
    many = subst (λ (n : ℕ). GetsMany a b is n) (sym (arm_length bs2)) g1

    view_is : view e ≡ Case (view y2) (with_arms Arms_in last)
    view_is = view_case e y y2 bs bs2 rest h j1 j2 ∙ ap (λ (v : Branches). Case (view y2) (with_arms Arms_in v)) lr

    chosen_so : (r : Result (Unit {0}) Refusal) (d : List Cell) → Asked r c d (IsVariant o all i) → Asked r c d (IsVariant (is_rest last) (labelled (names_of Arms_in) is) i)
    chosen_so r d q =
        let same : all ≡ labelled (names_of Arms_in) is = j5 ∙ ap (λ (v : List Name). labelled v ds1) (sym (arm_names bs2)) ∙ ap (labelled (names_of Arms_in)) j3 in
        subst (λ (v : Fields). Asked r c d (IsVariant (is_rest last) v i)) same (subst (λ (v : Bool). Asked r c d (IsVariant v all i)) oo q)

    pub case_chosen_so : (r : Result (Unit {0}) Refusal) (d : List Cell) → Asked r c d (IsVariant o all i) → Leads r a d Has (λ s. T k ns (view y2) i s × (Armed k ns a b c w ready i is (view y2) Arms_in last il many g2 s × Left k ns a b c w ready i is (view y2) Arms_in last il many g2 s))
    case_chosen_so r d q = at_view r d _ _ view_is (case_chosen k ns a b c w ready i is (view y2) Arms_in last il many g2 r d (chosen_so r d q))

    module _ (d : List Cell) (q1 : Asks c d (IsVariant o all i)) where
      pub case_checked_so : (r : Result (Unit {0}) Refusal) (x : List Cell) → Asked r d x (T k ns (view y2) i) → Leads r a x Has (λ s. Armed k ns a b c w ready i is (view y2) Arms_in last il many g2 s × Left k ns a b c w ready i is (view y2) Arms_in last il many g2 s)
      case_checked_so r x q = at_view r x _ _ view_is (case_checked k ns a b c w ready i is (view y2) Arms_in last il many g2 d (chosen_so (Ok tt) d q1) r x q)

      pub case_armed_so : (r : Result (Unit {0}) Refusal) (x f : List Cell) (ds2 : List ℕ) → ds2 ≡ is → Asks d x (T k ns (view y2) i)
          → Asked r x f (λ s. ArmsTake (branches_of (map branch_view bs2) no_branches) (sorts k) (context s ns) (map s.types ds2) (s.types w)) → Leads r a f Has (λ s. LastTypes last (sorts k) (context s ns) (s.types w))
      case_armed_so r x f ds2 j4 q2 q3 = at_view r f _ _ view_is (case_armed k ns a b c w ready i is (view y2) Arms_in last il many g2 d (chosen_so (Ok tt) d q1) r x f q2
          (subst (λ (v : List ℕ). Asked r x f (λ s. ArmsTake (with_arms Arms_in no_branches) (sorts k) (context s ns) (map s.types v) (s.types w))) j4
          (subst (λ (v : Branches). Asked r x f (λ s. ArmsTake v (sorts k) (context s ns) (map s.types ds2) (s.types w))) (arms_seen bs2 no_branches) q3)))

-- what stands behind the branches of a `case`, and whether it is open
abbrev pub behind_of : Option Expr → Branches
behind_of rest = rest_of (option_map view rest)

pub behind_last : (rest : Option Expr) → IsLast (behind_of rest)
behind_last (Some u) = rest_last (view u)
behind_last None = none_last

pub behind_open : (rest : Option Expr) (o : Bool) → o ≡ is_some rest → o ≡ is_rest (behind_of rest)
behind_open (Some u) o e = e
behind_open None o e = e

pub behind_none : (k : Known) (ns : Fields) (w : ℕ) (a b : List Cell) (D : Fact) (rest : Option Expr) → rest ≡ None → Leaves a b D (λ s. LastTypes (behind_of rest) (sorts k) (context s ns) (s.types w)) → Asks a b D
behind_none k ns w a b D rest e f = subst (λ (z : Option Expr). Leaves a b D (λ s. LastTypes (behind_of z) (sorts k) (context s ns) (s.types w))) e f

pub behind_some : (r : Result (Unit {0}) Refusal) (k : Known) (ns : Fields) (w : ℕ) (a b c : List Cell) (D : Fact) (rest : Option Expr) (u u2 : Expr) → rest ≡ Some u → u2 ≡ u → Leaves a b D (λ s. LastTypes (behind_of rest) (sorts k) (context s ns) (s.types w))
    → Asked r b c (λ s. Types (view u2) (sorts k) (context s ns) (s.types w)) → Asked r a c D
behind_some r k ns w a b c D rest u u2 e e2 f g = leads_on r a b c _ _ (λ s. Unit {0}) (subst (λ (z : Option Expr). Leaves a b D (λ s. LastTypes (behind_of z) (sorts k) (context s ns) (s.types w))) e f)
    (subst (λ (z : Expr). Asked r b c (λ s. Types (view z) (sorts k) (context s ns) (s.types w))) e2 g)

-- ---- what the calls in them ask

pub size_at : (ds is : List ℕ) (n : ℕ) → ds ≡ is → length is ≡ n → length ds ≡ n
size_at ds is n e h = ap length e ∙ h

pub binds_there : (a b : List Cell) (bs0 bs ns : Fields) (D : Assignment → Context → Context → Type 0) → bs0 ≡ [] → Binds a b bs0 bs ns D → AreTypes b bs
binds_there a b bs0 bs ns D e q = q.sorts (subst (λ (v : Fields). AreTypes a v) (sym e) tt)

wants_drop : (P : ℕ → Type 0) (ws : List ℕ) (n : ℕ) → AllByRecursion P ws → AllByRecursion P (drop n ws)
wants_drop P ws zero h = h
wants_drop P [] (suc n) h = tt
wants_drop P (v ∷ ws) (suc n) h = wants_drop P ws n h.1

pub next_ready : (k : Known) (a : List Cell) (ns : Fields) (ws : List ℕ) (n : ℕ) → n < length ws → Ready k a ns ws → Ready k a ns (slice_index_or ws n 0 ∷ drop (n + 1) ws)
next_ready k a ns ws n lt r = ready_for k a ns ws _ (subst (λ (v : List ℕ). AllByRecursion (IsType a) v) (at_number ws n lt) (wants_drop (IsType a) ws n r.wants)) r

pub one_ready : (k : Known) (a : List Cell) (ns : Fields) (ws : List ℕ) (n m : ℕ) → n < m → length ws ≡ m → Ready k a ns ws → Ready k a ns (slice_index_or ws n 0 ∷ [])
one_ready k a ns ws n m lt e r = ready_head k a ns _ _ (next_ready k a ns ws n (omega arith) r)

-- ---- lists

module _ (k : Known) (ns : Fields) where
  abbrev All : Exps → List ℕ → Fact
  All es ws = λ s. AllTypes es (sorts k) (context s ns) (map s.types ws)

  pub all_starts : (t : List Cell) (es : List Expr) (ws : List ℕ) → IsFine t → Leaves t t (All (exps_view es) ws) (All (exps_view (drop 0 es)) (drop 0 ws))
  all_starts t es ws f = begins t (All (exps_view es) ws) f

  pub all_more : (r : Result (Unit {0}) Refusal) (a0 a b : List Cell) (D : Fact) (es : List Expr) (ws : List ℕ) (n : ℕ) (x : Expr) → length ws ≡ length es → n < length es → x ≡ get_or es n x → Ready k a0 ns ws
      → Leaves a0 a D (All (exps_view (drop n es)) (drop n ws)) → Asked r a b (λ s. Types (view x) (sorts k) (context s ns) (s.types (slice_index_or ws n 0))) → Leads r a0 b D (All (exps_view (drop (n + 1) es)) (drop (n + 1) ws))
  all_more r a0 a b D es ws n x e lt h y f g =
      all_next k ns r a0 a b D (view x) (exps_view (drop (n + 1) es)) (slice_index_or ws n 0) (drop (n + 1) ws) (next_ready k a ns ws n (omega arith) (ready_on k a0 a ns ws f.fine f.keeps y))
      (subst (λ (v : List ℕ). Leaves a0 a D (All (exps_view (x ∷ drop (n + 1) es)) v)) (at_number ws n (omega arith)) (subst (λ (v : List Expr). Leaves a0 a D (All (exps_view v) (drop n ws))) (drop_at es n x lt h) f)) g

  pub all_done : (a0 a : List Cell) (D : Fact) (es : List Expr) (ws : List ℕ) (n : ℕ) → length ws ≡ length es → length es ≤ n → Leaves a0 a D (All (exps_view (drop n es)) (drop n ws)) → Asks a0 a D
  all_done a0 a D es ws n e le f =
      ends a0 a D (All (exps_view []) []) (λ s. refl)
      (subst (λ (v : List ℕ). Leaves a0 a D (All (exps_view []) v)) (drop_all n ws (omega arith)) (subst (λ (v : List Expr). Leaves a0 a D (All (exps_view v) (drop n ws))) (drop_all n es le) f))

  abbrev bodies_view : List (Word × Expr) → Exps
  bodies_view fs = exps_of (map (λ f. view f.1) fs)

  pub fields_starts : (t : List Cell) (es : List (Word × Expr)) (ws : List ℕ) → IsFine t → Leaves t t (All (bodies_view es) ws) (All (bodies_view (drop 0 es)) (drop 0 ws))
  fields_starts t es ws f = begins t (All (bodies_view es) ws) f

  pub fields_more : (r : Result (Unit {0}) Refusal) (a0 a b : List Cell) (D : Fact) (es : List (Word × Expr)) (ws : List ℕ) (n : ℕ) (x y : Word × Expr) → length ws ≡ length es → n < length es → x ≡ get_or es n x → x ≡ y → Ready k a0 ns ws
      → Leaves a0 a D (All (bodies_view (drop n es)) (drop n ws)) → Asked r a b (λ s. Types (view y.1) (sorts k) (context s ns) (s.types (slice_index_or ws n 0))) → Leads r a0 b D (All (bodies_view (drop (n + 1) es)) (drop (n + 1) ws))
  fields_more r a0 a b D es ws n x y e lt h hy z f g =
      all_next k ns r a0 a b D (view x.1) (bodies_view (drop (n + 1) es)) (slice_index_or ws n 0) (drop (n + 1) ws) (next_ready k a ns ws n (omega arith) (ready_on k a0 a ns ws f.fine f.keeps z))
      (subst (λ (v : List ℕ). Leaves a0 a D (All (bodies_view (x ∷ drop (n + 1) es)) v)) (at_number ws n (omega arith)) (subst (λ (v : List (Word × Expr)). Leaves a0 a D (All (bodies_view v) (drop n ws))) (drop_at es n x lt h) f))
      (subst (λ (z : Word × Expr). Asked r a b (λ s. Types (view z.1) (sorts k) (context s ns) (s.types (slice_index_or ws n 0)))) (sym hy) g)

  pub fields_done : (a0 a : List Cell) (D : Fact) (es : List (Word × Expr)) (ws : List ℕ) (n : ℕ) → length ws ≡ length es → length es ≤ n → Leaves a0 a D (All (bodies_view (drop n es)) (drop n ws)) → Asks a0 a D
  fields_done a0 a D es ws n e le f =
      ends a0 a D (All (bodies_view []) []) (λ s. refl)
      (subst (λ (v : List ℕ). Leaves a0 a D (All (bodies_view []) v)) (drop_all n ws (omega arith)) (subst (λ (v : List (Word × Expr)). Leaves a0 a D (All (bodies_view v) (drop n ws))) (drop_all n es le) f))

  abbrev Each : Exps → ℕ → Fact
  Each es i = λ s. EachType es (sorts k) (context s ns) (s.types i)

  pub each_starts : (t : List Cell) (es : List Expr) (i : ℕ) → IsFine t → Leaves t t (Each (exps_view es) i) (Each (exps_view (drop 0 es)) i)
  each_starts t es i f = begins t (Each (exps_view es) i) f

  pub each_more : (r : Result (Unit {0}) Refusal) (a0 a b : List Cell) (D : Fact) (es : List Expr) (i n : ℕ) (x : Expr) → n < length es → x ≡ get_or es n x → Ready k a0 ns (i ∷ [])
      → Leaves a0 a D (Each (exps_view (drop n es)) i) → Asked r a b (λ s. Types (view x) (sorts k) (context s ns) (s.types i)) → Leads r a0 b D (Each (exps_view (drop (n + 1) es)) i)
  each_more r a0 a b D es i n x lt h y f g =
      each_next k ns r a0 a b D (view x) (exps_view (drop (n + 1) es)) i (ready_on k a0 a ns (i ∷ []) f.fine f.keeps y)
      (subst (λ (v : List Expr). Leaves a0 a D (Each (exps_view v) i)) (drop_at es n x lt h) f) g

  pub each_done : (a0 a : List Cell) (D : Fact) (es : List Expr) (i n : ℕ) → length es ≤ n → Leaves a0 a D (Each (exps_view (drop n es)) i) → Asks a0 a D
  each_done a0 a D es i n le f = ends a0 a D (Each (exps_view []) i) (λ s. tt) (subst (λ (v : List Expr). Leaves a0 a D (Each (exps_view v) i)) (drop_all n es le) f)

  abbrev arms_view : List Branch → Branches
  arms_view bs = branches_of (map branch_view bs) no_branches

  abbrev Arming : Branches → List ℕ → ℕ → Fact
  Arming bs ws w = λ s. ArmsTake bs (sorts k) (context s ns) (map s.types ws) (s.types w)

  pub arms_starts : (t : List Cell) (bs : List Branch) (ws : List ℕ) (w : ℕ) → IsFine t → Leaves t t (Arming (arms_view bs) ws w) (Arming (arms_view (drop 0 bs)) (drop 0 ws) w)
  arms_starts t bs ws w f = begins t (Arming (arms_view bs) ws w) f

  pub arms_more : (r : Result (Unit {0}) Refusal) (a0 a b : List Cell) (D : Fact) (bs : List Branch) (ws : List ℕ) (w n : ℕ) (x : Branch) → length ws ≡ length bs → n < length bs → x ≡ get_or bs n x → Ready k a0 ns (w ∷ ws)
      → Leaves a0 a D (Arming (arms_view (drop n bs)) (drop n ws) w) → Asked r a b (λ s. ArmsTake (branch_view x no_branches) (sorts k) (context s ns) (s.types (slice_index_or ws n 0) ∷ []) (s.types w))
      → Leads r a0 b D (Arming (arms_view (drop (n + 1) bs)) (drop (n + 1) ws) w)
  arms_more r a0 a b D bs ws w n x e lt h y f g =
      let rest = arms_view (drop (n + 1) bs) in
      let one = slice_index_or ws n 0 in
      let now : Ready k a ns (w ∷ ws) = ready_on k a0 a ns (w ∷ ws) f.fine f.keeps y in
      let next : Ready k a ns (one ∷ drop (n + 1) ws) = next_ready k a ns ws n (omega arith) (ready_tail k a ns w ws now) in
      arms_next k ns r a0 a b D (out-Branch x).label (pattern_view (out-Branch x).pat) (view (out-Branch x).body) rest one w (drop (n + 1) ws) (ready_both k a ns w (one ∷ drop (n + 1) ws) (ready_head k a ns w ws now) next)
      (subst (λ (v : Branches). Leaves a0 a D (Arming v (one ∷ drop (n + 1) ws) w)) (branch_seen x rest)
      (subst (λ (v : List ℕ). Leaves a0 a D (Arming (arms_view (x ∷ drop (n + 1) bs)) v w)) (at_number ws n (omega arith)) (subst (λ (v : List Branch). Leaves a0 a D (Arming (arms_view v) (drop n ws) w)) (drop_at bs n x lt h) f)))
      (subst (λ (v : Branches). Asked r a b (λ s. ArmsTake v (sorts k) (context s ns) (s.types one ∷ []) (s.types w))) (branch_seen x no_branches) g)

  pub arms_done : (a0 a : List Cell) (D : Fact) (bs : List Branch) (ws : List ℕ) (w n : ℕ) → length ws ≡ length bs → length bs ≤ n → Leaves a0 a D (Arming (arms_view (drop n bs)) (drop n ws) w) → Asks a0 a D
  arms_done a0 a D bs ws w n e le f =
      ends a0 a D (Arming (arms_view []) [] w) (λ s. tt)
      (subst (λ (v : List ℕ). Leaves a0 a D (Arming (arms_view []) v w)) (drop_all n ws (omega arith)) (subst (λ (v : List Branch). Leaves a0 a D (Arming (arms_view v) (drop n ws) w)) (drop_all n bs le) f))

  -- one branch
  module _ (a b : List Cell) (x : Branch) (i w : ℕ) (bs0 bs : Fields) (ready : Ready k a ns (i ∷ w ∷ [])) (e0 : bs0 ≡ []) where
    pub arm_bound : (r : Result (Unit {0}) Refusal) → Bound r a b bs0 bs ns (λ s. Takes (pattern_view (out-Branch x).pat) (NameTypes (sorts k) (context s ns)) (s.types i))
        → Leads r a b (λ s. ArmsTake (branch_view x no_branches) (sorts k) (context s ns) (s.types i ∷ []) (s.types w)) (λ s. Types (view (out-Branch x).body) (sorts k) (context s (onto bs ns)) (s.types w))
    arm_bound r q =
        let p = pattern_view (out-Branch x).pat in
        let y = view (out-Branch x).body in
        subst (λ (v : Branches). Leads r a b (λ s. ArmsTake v (sorts k) (context s ns) (s.types i ∷ []) (s.types w)) (λ s. Types y (sorts k) (context s (onto bs ns)) (s.types w))) (sym (branch_seen x no_branches))
        (leads_on r a a b _ _ _
        (restated a _ (λ s. (H : Context) × Takes p (NameTypes (sorts k) (context s ns)) (s.types i) (context s ns) H × Types y (sorts k) H (s.types w)) ready.fine (λ s h. (h.0, h.1, h.2)) (λ s o h. (h.0, h.1, h.2, tt)))
        (binds r a b [] bs ns (λ s. Takes p (NameTypes (sorts k) (context s ns)) (s.types i)) (λ H s. Types y (sorts k) H (s.types w)) (λ H. said k a ns (i ∷ w ∷ []) (λ G ts. Types y (sorts k) H (second ts)) ready)
        (subst (λ (v : Fields). Bound r a b v bs ns (λ s. Takes p (NameTypes (sorts k) (context s ns)) (s.types i))) e0 q)))

    pub arm_ok : (r : Result (Unit {0}) Refusal) (c : List Cell) (cs : Fields) → cs ≡ bs → Binds a b bs0 bs ns (λ s. Takes (pattern_view (out-Branch x).pat) (NameTypes (sorts k) (context s ns)) (s.types i))
        → Asked r b c (λ s. Types (view (out-Branch x).body) (sorts k) (context s (onto cs ns)) (s.types w)) → Asked r a c (λ s. ArmsTake (branch_view x no_branches) (sorts k) (context s ns) (s.types i ∷ []) (s.types w))
    arm_ok r c cs ec q m = leads_on r a b c _ _ (λ s. Unit {0}) (arm_bound (Ok tt) q) (subst (λ (v : Fields). Asked r b c (λ s. Types (view (out-Branch x).body) (sorts k) (context s (onto v ns)) (s.types w))) ec m)

  abbrev Stepped : Steps → ℕ → ℕ → Fact
  Stepped ss t w = λ s. StepTypes ss (sorts k) (context s ns) (s.types t) (s.types w)

  pub steps_starts : (t : List Cell) (ss : List (Op × Expr)) (i w : ℕ) → IsFine t → Leaves t t (Stepped (steps_view ss) i w) (Stepped (steps_view (drop 0 ss)) i w)
  steps_starts t ss i w f = begins t (Stepped (steps_view ss) i w) f

  -- one step: the type so far is there
  module _ (a0 a b : List Cell) (D : Fact) (ss : List (Op × Expr)) (n : ℕ) (x x2 : Op × Expr) (i t w u : ℕ) (lt : n < length ss) (h : x ≡ get_or ss n x) (hx : x ≡ x2) (y : Ready k a0 ns (i ∷ w ∷ [])) (there : IsType a t)
      (f : Leaves a0 a D (Stepped (steps_view (drop n ss)) t w)) (g : Gets a b u (λ z s. Unit {0})) where
    so_far : Ready k a ns (t ∷ w ∷ [])
    so_far = let q = ready_on k a0 a ns (i ∷ w ∷ []) f.fine f.keeps y in ready_for k a ns (i ∷ w ∷ []) (t ∷ w ∷ []) (there, q.wants.1) q

    at_step : Leaves a0 a D (Stepped (steps_view (x ∷ drop (n + 1) ss)) t w)
    at_step = subst (λ (z : List (Op × Expr)). Leaves a0 a D (Stepped (steps_view z) t w)) (drop_at ss n x lt h) f

    asked_step : (r : Result (Unit {0}) Refusal) (c : List Cell) → Asked r b c (λ s. Types (view x2.1) (sorts k) (context s ns) (s.types u)) → Asked r b c (T k ns (view x.1) u)
    asked_step r c q = subst (λ (z : Op × Expr). Asked r b c (λ s. Types (view z.1) (sorts k) (context s ns) (s.types u))) (sym hx) q

    pub steps_unchecked : (o : Refusal) → Refuses b (λ s. Types (view x2.1) (sorts k) (context s ns) (s.types u)) o → Refuses a0 D o
    steps_unchecked o q = step_checked k ns a0 a b D x.0 (view x.1) (steps_view (drop (n + 1) ss)) t w u so_far at_step g (Err o) b (asked_step (Err o) b q)

    module _ (c : List Cell) (z z2 : Op × Expr) (h2 : z ≡ get_or ss n z) (hz : z ≡ z2) (q : Asks b c (λ s. Types (view x2.1) (sorts k) (context s ns) (s.types u))) where
      same_op : z2.0 ≡ x.0
      same_op = ap (λ (v : Op × Expr). v.0) (sym hz ∙ one_at (drop_at ss n z lt h2) (drop_at ss n x lt h))
        where
          one_at : drop n ss ≡ z ∷ drop (n + 1) ss → drop n ss ≡ x ∷ drop (n + 1) ss → z ≡ x
          one_at p o = cc

      pub steps_refused : (o : Refusal) → Refuses c (λ s. (v : Ground) × IsGround v × Operates z2.0 t u v s) o → Refuses a0 D o
      steps_refused o m = step_refused k ns a0 a b D x.0 (view x.1) (steps_view (drop (n + 1) ss)) t w u so_far at_step g c (asked_step (Ok tt) c q) o (subst (λ (p : Op). Refuses c (λ s. (v : Ground) × IsGround v × Operates p t u v s) o) same_op m)

      pub steps_more : (d : List Cell) (v : ℕ) → Gets c d v (Operates z2.0 t u) → Leaves a0 d D (Stepped (steps_view (drop (n + 1) ss)) v w)
      steps_more d v m = steps_next k ns a0 a b D x.0 (view x.1) (steps_view (drop (n + 1) ss)) t w u so_far at_step g c (asked_step (Ok tt) c q) d v (subst (λ (p : Op). Gets c d v (Operates p t u)) same_op m)

  pub steps_done : (r : Result (Unit {0}) Refusal) (a0 a b : List Cell) (D : Fact) (ss : List (Op × Expr)) (n t w : ℕ) → length ss ≤ n → Leaves a0 a D (Stepped (steps_view (drop n ss)) t w) → Asked r a b (λ s. s.types t ≡ s.types w) → Asked r a0 b D
  steps_done r a0 a b D ss n t w le f g = leads_on r a0 a b D _ (λ s. Unit {0}) (subst (λ (v : List (Op × Expr)). Leaves a0 a D (Stepped (steps_view v) t w)) (drop_all n ss le) f) g

-- ---- qualifiers

module _ (k : Known) (ns : Fields) where
  abbrev Drawings : Quals → Assignment → Context → Context → Type 0
  Drawings qs = λ s. QualTypes qs (sorts k)

  qual_split : (x : Qual) (qs : Quals) (G H : Context) → QualTypes (qual_view x qs) (sorts k) G H → (M : Context) × QualTypes (qual_view x no_quals) (sorts k) G M × QualTypes qs (sorts k) M H
  qual_split (quals.Gen p y) qs G H h =
      let w = draw_split (sorts k) (pattern_view p) (view y) qs G H (subst (λ (z : Quals). QualTypes z (sorts k) G H) (view_gen (quals.Gen p y) p y qs refl) h) in
      (w.0, subst (λ (z : Quals). QualTypes z (sorts k) G w.0) (sym (view_gen (quals.Gen p y) p y no_quals refl)) w.1, w.2)
  qual_split (quals.Cond y) qs G H h =
      let w = test_split (sorts k) (view y) qs G H (subst (λ (z : Quals). QualTypes z (sorts k) G H) (view_cond (quals.Cond y) y qs refl) h) in
      (w.0, subst (λ (z : Quals). QualTypes z (sorts k) G w.0) (sym (view_cond (quals.Cond y) y no_quals refl)) w.1, w.2)

  qual_join : (x : Qual) (qs : Quals) (G M H : Context) → QualTypes (qual_view x no_quals) (sorts k) G M → QualTypes qs (sorts k) M H → QualTypes (qual_view x qs) (sorts k) G H
  qual_join (quals.Gen p y) qs G M H h j = subst (λ (z : Quals). QualTypes z (sorts k) G H) (sym (view_gen (quals.Gen p y) p y qs refl))
      (draw_join (sorts k) (pattern_view p) (view y) qs G M H (subst (λ (z : Quals). QualTypes z (sorts k) G M) (view_gen (quals.Gen p y) p y no_quals refl) h) j)
  qual_join (quals.Cond y) qs G M H h j = subst (λ (z : Quals). QualTypes z (sorts k) G H) (sym (view_cond (quals.Cond y) y qs refl))
      (test_join (sorts k) (view y) qs G M H (subst (λ (z : Quals). QualTypes z (sorts k) G M) (view_cond (quals.Cond y) y no_quals refl) h) j)

  pub quals_starts : (t : List Cell) (bs : Fields) (qs : List Qual) → IsFine t → Binding t t bs bs ns (Drawings (quals_view qs)) (Drawings (quals_view (drop 0 qs)))
  quals_starts t bs qs f = binding_begins t bs ns (Drawings (quals_view qs)) f

  pub quals_ready : (a0 a : List Cell) (bs0 bs : Fields) (D R : Assignment → Context → Context → Type 0) → Binding a0 a bs0 bs ns D R → Ready k a0 (onto bs0 ns) [] → Ready k a (onto bs ns) []
  quals_ready a0 a bs0 bs D R f r = ready_in k a bs ns [] (f.sorts (bound_so_far k a0 bs0 ns [] r)) (ready_on k a0 a ns [] f.fine f.keeps (ready_out k a0 bs0 ns [] r))

  pub quals_more : (r : Result (Unit {0}) Refusal) (a0 a b : List Cell) (bs0 bs cs : Fields) (D : Assignment → Context → Context → Type 0) (qs : List Qual) (n : ℕ) (x : Qual) → n < length qs → x ≡ get_or qs n x → Binding a0 a bs0 bs ns D (Drawings (quals_view (drop n qs)))
      → Bound r a b bs cs ns (λ s. QualTypes (qual_view x no_quals) (sorts k)) → BindingLeads r a0 b bs0 cs ns D (Drawings (quals_view (drop (n + 1) qs)))
  quals_more r a0 a b bs0 bs cs D qs n x lt e f g =
      let rest = quals_view (drop (n + 1) qs) in
      quals_next k ns r a0 a b bs0 bs cs D (qual_view x no_quals) rest (qual_view x rest) (qual_split x rest) (qual_join x rest) (subst (λ (v : List Qual). Binding a0 a bs0 bs ns D (Drawings (quals_view v))) (drop_at qs n x lt e) f) g

  pub quals_done : (a0 a : List Cell) (bs0 bs : Fields) (D : Assignment → Context → Context → Type 0) (qs : List Qual) (n : ℕ) → length qs ≤ n → Binding a0 a bs0 bs ns D (Drawings (quals_view (drop n qs))) → Binds a0 a bs0 bs ns D
  quals_done a0 a bs0 bs D qs n le f = bound_all ns a0 a bs0 bs D (Drawings (quals_view [])) (λ s G H h. h) (λ s G H h. h) (subst (λ (v : List Qual). Binding a0 a bs0 bs ns D (Drawings (quals_view v))) (drop_all n qs le) f)

  abbrev One : Qual → Fields → Fact
  One q bs = λ s. (H : Context) × QualTypes (qual_view q no_quals) (sorts k) (context s (onto bs ns)) H

  module _ (a b : List Cell) (bs ds : Fields) (q : Qual) (p : Pattern) (x : Expr) (i : ℕ) (ready : Ready k a (onto bs ns) []) (e : q ≡ quals.Gen p x) (g1 : Gets a b i (λ t s. Unit {0})) where
    drawn_so : (o : Refusal) → Refuses a (λ s. (H : Context) × QualTypes (draw (pattern_view p) (view x) no_quals) (sorts k) (context s (onto bs ns)) H) o → Refuses a (One q bs) o
    drawn_so o f = subst (λ (v : Quals). Refuses a (λ s. (H : Context) × QualTypes v (sorts k) (context s (onto bs ns)) H) o) (sym (view_gen q p x no_quals e)) f

    pub gen_refused : (o : Refusal) → Refuses b (λ s. (u : Ground) × IsGround u × DrawnFrom i u s) o → Refuses a (One q bs) o
    gen_refused o f = drawn_so o (draw_refused k bs ns a b ready (pattern_view p) (view x) i g1 o f)

    module _ (c : List Cell) (j : ℕ) (g2 : Gets b c j (DrawnFrom i)) (ed : ds ≡ bs) where
      pub gen_unchecked : (o : Refusal) → Refuses c (λ s. Types (view x) (sorts k) (context s (onto ds ns)) (s.types i)) o → Refuses a (One q bs) o
      gen_unchecked o f = drawn_so o (draw_unchecked k bs ns a b ready (pattern_view p) (view x) i g1 c j g2 c o (subst (λ (v : Fields). Refuses c (λ s. Types (view x) (sorts k) (context s (onto v ns)) (s.types i)) o) ed f))

      module _ (d : List Cell) (f : Asks c d (λ s. Types (view x) (sorts k) (context s (onto ds ns)) (s.types i))) (bs0 : Fields) (e0 : bs0 ≡ []) where
        source_so : Asks c d (λ s. Types (view x) (sorts k) (context s (onto bs ns)) (s.types i))
        source_so = subst (λ (v : Fields). Asks c d (λ s. Types (view x) (sorts k) (context s (onto v ns)) (s.types i))) ed f

        taken_so : (r : Result (Unit {0}) Refusal) (z : List Cell) (cs : Fields) → Bound r d z bs0 cs (onto ds ns) (λ s. Takes (pattern_view p) (NameTypes (sorts k) (context s (onto ds ns))) (s.types j))
            → Bound r d z [] cs (onto bs ns) (λ s. Takes (pattern_view p) (NameTypes (sorts k) (context s (onto bs ns))) (s.types j))
        taken_so r z cs h = subst (λ (v : Fields). Bound r d z [] cs (onto v ns) (λ s. Takes (pattern_view p) (NameTypes (sorts k) (context s (onto v ns))) (s.types j))) ed
            (subst (λ (v : Fields). Bound r d z v cs (onto ds ns) (λ s. Takes (pattern_view p) (NameTypes (sorts k) (context s (onto ds ns))) (s.types j))) e0 h)

        pub gen_untaken : (o : Refusal) → Refuses d (λ s. (H : Context) × Takes (pattern_view p) (NameTypes (sorts k) (context s (onto ds ns))) (s.types j) (context s (onto bs0 (onto ds ns))) H) o → Refuses a (One q bs) o
        gen_untaken o h = drawn_so o (draw_untaken k bs ns a b ready (pattern_view p) (view x) i g1 c j g2 d source_so d [] o (taken_so (Err o) d [] h))

        pub gen_ok : (z : List Cell) (cs es : Fields) → es ≡ bs ++ cs → Binds d z bs0 cs (onto ds ns) (λ s. Takes (pattern_view p) (NameTypes (sorts k) (context s (onto ds ns))) (s.types j)) → Binds a z bs es ns (λ s. QualTypes (qual_view q no_quals) (sorts k))
        gen_ok z cs es ee h =
            subst (λ (v : Fields). Binds a z bs v ns (λ s. QualTypes (qual_view q no_quals) (sorts k))) (sym ee)
            (subst (λ (v : Quals). Binds a z bs (bs ++ cs) ns (λ s. QualTypes v (sorts k))) (sym (view_gen q p x no_quals e))
            (draw_form k bs ns a b ready (pattern_view p) (view x) i g1 c j g2 d source_so z cs (taken_so (Ok tt) z cs h)))

  pub cond_ok : (r : Result (Unit {0}) Refusal) (a b c : List Cell) (bs ds : Fields) (q : Qual) (x : Expr) (i : ℕ) → Ready k a (onto bs ns) [] → q ≡ quals.Cond x → ds ≡ bs → Gets a b i (λ t s. t ≡ bool)
      → Asked r b c (λ s. Types (view x) (sorts k) (context s (onto ds ns)) (s.types i)) → Bound r a c bs bs ns (λ s. QualTypes (qual_view q no_quals) (sorts k))
  cond_ok r a b c bs ds q x i ready e ed g m =
      subst (λ (v : Quals). Bound r a c bs bs ns (λ s. QualTypes v (sorts k))) (sym (view_cond q x no_quals e))
      (test_form k bs ns a b ready r c (view x) i g (subst (λ (v : Fields). Asked r b c (λ s. Types (view x) (sorts k) (context s (onto v ns)) (s.types i))) ed m))
