-- A program of a type comes to an outcome of it.
use Rattle.std.proofs.Common.{◌≡◌, ◌≢◌, Bool, true, false, not, IsTrue, cond, List, [], ◌∷◌, Option, Some, None, IsSome, ℕ, nat_eq, refl, sym, ap, ◌∙◌, subst, true≢false}
use Rattle.std.specs.Cmp.Lexicographic.{pointwise, same_text}
use Rattle.std.specs.List.{AllByRecursion}
use Rattle.kl_base.specs.Fields.{field}
use Rattle.kl_value.specs.Views.{as_bool}
use Rattle.kl_value.specs.declared.Value.{Value}
use Rattle.kl_value.specs.declared.Value.TheVariants as value
use Rattle.kl_value.proofs.IsCanonicalLemmas.{bool_made}
use Rattle.kl_type.specs.Ground.{Ground, Row, bool, rec, var, coll as colls, at, IsGround, IsRow}
use Rattle.kl_type.proofs.RowLemmas.{drops_row}
use Rattle.kl_prim.specs.Table.{meaning}
use Rattle.kl_outcome.specs.Outcome.{Name, Outcome, done, over, stuck, Flow, stop, fine, answered, applied, part, recorded, items_of, item_then}
use Rattle.kl_outcome.specs.Typed.{Inhabits, OfType, PrimTypes}
use Rattle.kl_outcome.proofs.OutcomeTypes.{never_of, after_typed, choice_typed, part_typed, recorded_typed, tagged_typed, cases_typed, args_then_typed, ArgsOf, FlowOf, drawn_typed, items_typed, item_typed, collected_typed, union_typed}
use Rattle.kl_outcome.proofs.PrimLemmas.{extend_types, prim_typed}
use Rattle.kl_outcome.proofs.RowFields.{IsFieldOf, divided, parts_of_row}
use Rattle.kl_syntax.specs.declared.tree.Op.{Op}
use Rattle.kl_syntax.specs.declared.tree.Op.TheVariants as op
use Rattle.kl_syntax.specs.declared.tree.Word.{Word}
use Rattle.kl_syntax.specs.Syntax.{Pat, Exp, Const, name, Call, Rec, More, Inj, Coll, Comp, If, Let, Case, Path, Not, Neg, Chain, Exps, no_exps, exps, Flds, no_flds, flds, Quals, no_quals, draw, test, Branches, no_branches, otherwise, branch, Steps, no_steps, step, Decls, no_decls, constant, function}
use Rattle.kl_meaning.specs.Match.{Env, fits, if_fits, must_fit, same_name}
use Rattle.kl_meaning.specs.Run.{Meant, as_value, named, look_up, one_then, called, code_of, operated, in_order, parts_of, flow_if, draw_if, run, run_all, run_items, run_fields, run_quals, run_branches, run_steps, code_named, meant_by_code, meant_at, at_first, with_known, known_after, meaning_of_program}
use Rattle.kl_meaning.specs.Run as meant
use Rattle.kl_meaning.specs.Typing.{Context, Sort, HaveTypesByName, ValueTypes, VariableOr, NameTypes, CallTypes, Takes, OpTypes, PathTypes, has_field, has_branch, Types, AllTypes, EachType, FieldTypes, QualTypes, BranchTypes, StepTypes, sort_by_code, sort_at, types_at_first, sort_if, with_sort, FunctionTypes, types_after, ProgramTypes}
use Rattle.kl_meaning.specs.Typing as sort
use Rattle.kl_meaning.specs.Tidy.{IsSurePattern, IsTidy, AreTidy, AreTidyFields, AreTidyQuals, AreTidyBranches, AreTidySteps, IsTidyProgram}
use Rattle.kl_meaning.proofs.Patterns.{sure_fits, takes, must_fit_typed, if_fits_typed}
use Rattle.kl_prim.proofs.RecordLemmas.{in_order_all, in_order_found, in_order_rises}
use Rattle.kl_meaning.proofs.Fields.{has_fields, fields_apart, written, written_named, written_types}

-- what a name means is of the types that it has
abbrev pub Agrees : Sort → Meant → Type 0
Agrees sort.nothing meant.nothing = Unit {0}
Agrees (sort.value_of P) (meant.value_of o) = (t : Ground) → P t → OfType t o
Agrees (sort.function_of P) (meant.function_of f) = (s t : Ground) (v : Value) → P s t → Inhabits s v → OfType t (f v)
Agrees (sort.primitive c) (meant.primitive d) = c ≡ d
Agrees _ _ = ⊥

-- ---- names

-- a name has a variable in both or in none
abbrev Both : Option Ground → Option Value → Type 0
Both (Some t) (Some v) = Inhabits t v
Both None None = Unit {0}
Both _ _ = ⊥

both_at : (x : Name) (G : Context) (env : Env) → HaveTypesByName G env → Both (field x G) (field x env)
both_at x [] [] h = tt
both_at x [] (c ∷ env) h = absurd h
both_at x (b ∷ G) [] h = absurd h
both_at x (b ∷ G) (c ∷ env) h =
    subst (λ l. Both (field x (b ∷ G)) (cond (pointwise nat_eq x l) (Some c.1) (field x env))) h.0
    (elim (pointwise nat_eq x b.0) as (λ q. Both (cond q (Some b.1) (field x G)) (cond q (Some c.1) (field x env))) [ true ↦ h.1 | false ↦ both_at x G env h.2 ])

value_typed : (k : Sort) (m : Meant) (t : Ground) → Agrees k m → ValueTypes k t → OfType t (as_value m)
value_typed (sort.value_of P) (meant.value_of o) t a h = a t h
value_typed (sort.value_of P) meant.nothing t a h = absurd a
value_typed (sort.value_of P) (meant.function_of f) t a h = absurd a
value_typed (sort.value_of P) (meant.primitive c) t a h = absurd a
value_typed sort.nothing m t a h = absurd h
value_typed (sort.function_of P) m t a h = absurd h
value_typed (sort.primitive c) m t a h = absurd h

named_typed : (s : Option Ground) (v : Option Value) (k : Sort) (m : Meant) (t : Ground) → Both s v → Agrees k m → VariableOr s k t → OfType t (named v m)
named_typed (Some s) (Some v) k m t b a h = subst (λ q. Inhabits q v) h b
named_typed (Some s) None k m t b a h = absurd b
named_typed None (Some v) k m t b a h = absurd b
named_typed None None k m t b a h = value_typed k m t a h

applied_typed : (code : ℕ) (os : List Outcome) (ss : List Ground) (t : Ground) → ArgsOf os ss → PrimTypes code ss t → OfType t (applied code os)
applied_typed code os ss t h p = args_then_typed t os ss (λ vs. answered (meaning code vs)) h (λ vs i. prim_typed code ss t vs p i)

one_typed : (s t : Ground) (os : List Outcome) (f : Value → Outcome) → ArgsOf os (s ∷ []) → ((v : Value) → Inhabits s v → OfType t (f v)) → OfType t (one_then os f)
one_typed s t [] f h g = let n : ⊥ = cc in absurd n
one_typed s t (o ∷ []) f h g = let same : s ≡ h.0 = cc in after_typed t s o f (subst (λ q. OfType q o) (sym same) h.3) g
one_typed s t (o ∷ q ∷ os) f h g = let rest : h.1 ≡ [] = cc in let n : ⊥ = cc in absurd n

called_typed : (k : Sort) (m : Meant) (os : List Outcome) (ss : List Ground) (t : Ground) → Agrees k m → ArgsOf os ss → CallTypes k ss t → OfType t (called m os)
called_typed (sort.function_of P) (meant.function_of f) os ss t a h c = one_typed c.0 t os f (subst (ArgsOf os) c.1 h) (λ v i. a c.0 t v c.2 i)
called_typed (sort.function_of P) meant.nothing os ss t a h c = absurd a
called_typed (sort.function_of P) (meant.value_of o) os ss t a h c = absurd a
called_typed (sort.function_of P) (meant.primitive d) os ss t a h c = absurd a
called_typed (sort.primitive b) (meant.primitive d) os ss t a h c = subst (λ q. OfType t (applied q os)) a (applied_typed b os ss t h c)
called_typed (sort.primitive b) meant.nothing os ss t a h c = absurd a
called_typed (sort.primitive b) (meant.value_of o) os ss t a h c = absurd a
called_typed (sort.primitive b) (meant.function_of f) os ss t a h c = absurd a
called_typed sort.nothing m os ss t a h c = absurd c
called_typed (sort.value_of P) m os ss t a h c = absurd c

-- ---- parts of forms

pub truth_typed : (b : Bool) → OfType bool (done (value.Bool b))
truth_typed b = (rw (value.outs-Bool b) refl, bool_made b)

operated_typed : (c : Op) (s u t : Ground) (o q : Outcome) → OpTypes c s u t → OfType s o → OfType u q → OfType t (operated c o q)
operated_typed op.And s u t o q h i j =
    subst (λ z. OfType z (operated op.And o q)) (sym h.2)
    (choice_typed bool o q (done (value.Bool false)) (subst (λ z. OfType z o) h.0 i) (subst (λ z. OfType z q) h.1 j) (truth_typed false))
operated_typed op.Or s u t o q h i j =
    subst (λ z. OfType z (operated op.Or o q)) (sym h.2)
    (choice_typed bool o (done (value.Bool true)) q (subst (λ z. OfType z o) h.0 i) (truth_typed true) (subst (λ z. OfType z q) h.1 j))
operated_typed op.Append s u t o q h i j =
    subst (λ z. OfType z (operated op.Append o q)) (sym (h.4 ∙ h.2))
    (union_typed h.0 h.1 o q (subst (λ z. OfType z o) h.2 i) (subst (λ z. OfType z q) (h.3 ∙ h.2) j))
operated_typed c s u t o q h i j = applied_typed (code_of c) (o ∷ q ∷ []) (s ∷ u ∷ []) t (s, u ∷ [], refl, i, (u, [], refl, j, refl)) h

path_typed : (ls : List Word) (s t : Ground) (o : Outcome) → PathTypes ls s t → OfType s o → OfType t (parts_of ls o)
path_typed [] s t o h i = subst (λ q. OfType q o) h i
path_typed (l ∷ ls) s t o h i = path_typed ls h.1 t (part l.text o) h.4 (part_typed l.text h.0 h.1 o (subst (λ q. OfType q o) h.2 i) h.3)

test_typed : (t : Ground) (o : Outcome) (f : Flow) → OfType bool o → FlowOf t f → FlowOf t (draw_if o f)
test_typed t (done v) f h g = by_truth (as_bool v) h.0
  where
    by_truth : (b : Option Bool) → IsSome b → FlowOf t (flow_if b f)
    by_truth (Some true) s = g
    by_truth (Some false) s = tt
    by_truth None s = absurd (true≢false (sym s))
test_typed t (over vs) f h g = tt
test_typed t stuck f h g = absurd h

-- ---- expressions

module _ (K : sort.KnownTypes) (M : meant.KnownOutcomes) (agree : (x : Name) → Agrees (K x) (M x)) where
  looked_up : (G : Context) (env : Env) → HaveTypesByName G env → (x : Name) (t : Ground) → NameTypes K G x t → OfType t (look_up M env x)
  looked_up G env h x t n = named_typed (field x G) (field x env) (K x) (M x) t (both_at x G env h) (agree x) n

  -- a record whose fields have the types of a row, all of its labels among them
  record_safe : (fs : Flds) (env : Env) (r : Row) → AreTidyFields fs → IsRow r → ((l : Name) → IsSome (at l r) → IsTrue (has_field fs l))
      → AllByRecursion (IsFieldOf (λ o t. OfType t o) r) (run_fields fs M env) → OfType (rec r) (recorded (in_order (run_fields fs M env)))
  record_safe fs env r y row_is whole all =
      let ps = run_fields fs M env in
      let up = in_order_rises ps (fields_apart (λ e. run e M env) (λ fs. run_fields fs M env) refl (λ l e fs. refl) fs y) in
      recorded_typed (in_order ps) r
      (parts_of_row r (in_order ps) row_is up (in_order_all (IsFieldOf (λ o t. OfType t o) r) ps all)
      (λ l s. in_order_found l ps (has_fields (λ e. run e M env) (λ fs. run_fields fs M env) refl (λ l e fs. refl) fs l (whole l s))))
      up

  mutual
    pub safe : (e : Exp) (G : Context) (env : Env) (t : Ground) → IsTidy e → HaveTypesByName G env → Types e K G t → OfType t (run e M env)
    safe (Const v) G env t y h i = i.1
    safe (name x) G env t y h i = looked_up G env h x.text t i
    safe (Call f es) G env t y h i = called_typed (K f.text) (M f.text) (run_all es M env) i.0 t (agree f.text) (safe_all es G env i.0 y h i.1) i.2
    safe (Rec fs) G env t y h i =
        subst (λ q. OfType q (run (Rec fs) M env)) (sym i.1) (record_safe fs env i.0 y (subst IsGround i.1 i.2) i.3 (safe_fields fs G env i.0 y h i.4))
    safe (More fs a) G env t y h i =
        let row_is = subst IsGround i.2 i.3 in
        let r = written K G i.0 fs in
        applied_typed 27 (recorded (in_order (run_fields fs M env)) ∷ run a M env ∷ []) (rec r ∷ rec i.1 ∷ []) t (
          rec r,
          rec i.1 ∷ [],
          refl,
          record_safe fs env r y.0 (drops_row (λ l. not (has_field fs l)) i.0 row_is) (written_named K G i.0 fs) (safe_fields fs G env r y.0 h (written_types K G i.0 fs i.5)),
          (rec i.1, [], refl, safe a G env (rec i.1) y.1 h i.6, refl),
        )
        (extend_types r i.1 i.0 t i.2 (divided (has_field fs) i.0 i.1 row_is i.4))
    safe (Inj l a) G env t y h i =
        subst (λ q. OfType q (run (Inj l a) M env)) (sym i.2) (tagged_typed l.text i.0 i.1 (run a M env) i.4 (safe a G env i.1 y h i.5))
    safe (Coll k es) G env t y h i =
        subst (λ q. OfType q (run (Coll k es) M env)) (sym i.1) (collected_typed k i.0 (run_items es M env) (safe_items es G env i.0 y h i.3))
    safe (Comp k e qs) G env t y h i =
        subst (λ q. OfType q (run (Comp k e qs) M env)) (sym i.2)
        (collected_typed k i.0 (run_quals qs (λ inner. item_then (run e M inner) (stop fine)) M env)
        (safe_quals qs G i.1 env i.0 (λ inner. item_then (run e M inner) (stop fine)) y.0 h i.3
        (λ inner j. item_typed i.0 (run e M inner) (stop fine) (safe e i.1 inner i.0 y.1 j i.4) tt)))
    safe (If a b c) G env t y h i =
        choice_typed t (run a M env) (run b M env) (run c M env) (safe a G env bool y.0 h i.0) (safe b G env t y.1 h i.1) (safe c G env t y.2 h i.2)
    safe (Let p a b) G env t y h i =
        after_typed t i.0 (run a M env) (λ v. must_fit (fits p (look_up M env) v env) (λ inner. run b M inner)) (safe a G env i.0 y.1 h i.2)
        (λ v j. must_fit_typed i.1 t (fits p (look_up M env) v env) (λ inner. run b M inner)
        (takes (NameTypes K G) (look_up M env) (looked_up G env h) p i.0 v G i.1 env i.3 j h) (sure_fits (look_up M env) p v env y.0)
        (λ inner k. safe b i.1 inner t y.2 k i.4))
    safe (Case a bs) G env t y h i =
        cases_typed i.0 t (run a M env) (λ l v. run_branches bs l v M env) (safe a G env (var i.0) y.0 h i.1)
        (λ l u v e j. safe_branches bs G env i.0 t l u v y.1 h i.3 e j (i.2 l (rw e refl)))
    safe (Path a ls) G env t y h i = path_typed ls i.0 t (run a M env) i.2 (safe a G env i.0 y h i.1)
    safe (Not a) G env t y h i = applied_typed 11 (run a M env ∷ []) (i.0 ∷ []) t (i.0, [], refl, safe a G env i.0 y h i.1, refl) i.2
    safe (Neg a) G env t y h i = applied_typed 10 (run a M env ∷ []) (i.0 ∷ []) t (i.0, [], refl, safe a G env i.0 y h i.1, refl) i.2
    safe (Chain a ss) G env t y h i = safe_steps ss G env i.0 t (run a M env) y.1 h i.2 (safe a G env i.0 y.0 h i.1)

    safe_all : (es : Exps) (G : Context) (env : Env) (ss : List Ground) → AreTidy es → HaveTypesByName G env → AllTypes es K G ss → ArgsOf (run_all es M env) ss
    safe_all no_exps G env ss y h i = i
    safe_all (exps e es) G env ss y h i = (i.0, i.1, i.2, safe e G env i.0 y.0 h i.3, safe_all es G env i.1 y.1 h i.4)

    safe_items : (es : Exps) (G : Context) (env : Env) (s : Ground) → AreTidy es → HaveTypesByName G env → EachType es K G s → FlowOf s (run_items es M env)
    safe_items no_exps G env s y h i = tt
    safe_items (exps e es) G env s y h i = item_typed s (run e M env) (run_items es M env) (safe e G env s y.0 h i.0) (safe_items es G env s y.1 h i.1)

    safe_fields : (fs : Flds) (G : Context) (env : Env) (r : Row) → AreTidyFields fs → HaveTypesByName G env → FieldTypes fs K G r → AllByRecursion (IsFieldOf (λ o t. OfType t o) r) (run_fields fs M env)
    safe_fields no_flds G env r y h i = tt
    safe_fields (flds l e fs) G env r y h i = ((i.0, i.1, safe e G env i.0 y.1 h i.2), safe_fields fs G env r y.2 h i.3)

    safe_quals : (qs : Quals) (G H : Context) (env : Env) (t : Ground) (go : Env → Flow) → AreTidyQuals qs → HaveTypesByName G env → QualTypes qs K G H
        → ((inner : Env) → HaveTypesByName H inner → FlowOf t (go inner)) → FlowOf t (run_quals qs go M env)
    safe_quals no_quals G H env t go y h i g = g env (subst (λ C. HaveTypesByName C env) (sym i) h)
    safe_quals (draw p s qs) G H env t go y h i g =
        drawn_typed t i.1 (items_of (run s M env)) (λ v. if_fits (fits p (look_up M env) v env) (λ inner. run_quals qs go M inner))
        (items_typed i.0 i.1 (run s M env) (safe s G env (colls i.0 i.1) y.0 h i.3))
        (λ v j. if_fits_typed i.2 t (fits p (look_up M env) v env) (λ inner. run_quals qs go M inner)
        (takes (NameTypes K G) (look_up M env) (looked_up G env h) p i.1 v G i.2 env i.4 j h)
        (λ inner k. safe_quals qs i.2 H inner t go y.1 k i.5 g))
    safe_quals (test c qs) G H env t go y h i g = test_typed t (run c M env) (run_quals qs go M env) (safe c G env bool y.0 h i.0) (safe_quals qs G H env t go y.1 h i.1 g)

    safe_branches : (bs : Branches) (G : Context) (env : Env) (r : Row) (t : Ground) (l : Name) (u : Ground) (v : Value) → AreTidyBranches bs → HaveTypesByName G env → BranchTypes bs K G r t
        → at l r ≡ Some u → Inhabits u v → IsTrue (has_branch bs l) → OfType t (run_branches bs l v M env)
    safe_branches no_branches G env r t l u v y h i e j c = absurd (true≢false (sym c))
    safe_branches (otherwise b) G env r t l u v y h i e j c = safe b G env t y h i
    safe_branches (branch m p b bs) G env r t l u v y h i e j c =
        by_label (same_name l m.text) refl
        (λ k. must_fit_typed i.1 t (fits p (look_up M env) v env) (λ inner. run b M inner)
        (takes (NameTypes K G) (look_up M env) (looked_up G env h) p i.0 v G i.1 env i.3 k h) (sure_fits (look_up M env) p v env y.0)
        (λ inner k. safe b i.1 inner t y.1 k i.4))
        (λ d. safe_branches bs G env r t l u v y.2 h i.5 e j d)
      where
        by_label : (b' : Bool) → same_name l m.text ≡ b' → (Inhabits i.0 v → OfType t (must_fit (fits p (look_up M env) v env) (λ inner. run b M inner))) → (IsTrue (has_branch bs l) → OfType t (run_branches bs l v M env))
            → OfType t (cond b' (must_fit (fits p (look_up M env) v env) (λ inner. run b M inner)) (run_branches bs l v M env))
        by_label true q here there =
            let same : l ≡ m.text = same_text l m.text (sym q) in
            let types : Some u ≡ Some i.0 = sym e ∙ ap (λ k. at k r) same ∙ i.2 in
            let one : u ≡ i.0 = cc in
            here (subst (λ z. Inhabits z v) one j)
        by_label false q here there = there (rw q at c)

    safe_steps : (ss : Steps) (G : Context) (env : Env) (s t : Ground) (o : Outcome) → AreTidySteps ss → HaveTypesByName G env → StepTypes ss K G s t → OfType s o → OfType t (run_steps ss o M env)
    safe_steps no_steps G env s t o y h i j = subst (λ q. OfType q o) i j
    safe_steps (step c e ss) G env s t o y h i j =
        safe_steps ss G env i.1 t (operated c o (run e M env)) y.1 h i.4
        (operated_typed c s i.0 i.1 o (run e M env) i.3 j (safe e G env i.0 y.0 h i.2))

-- ---- programs

with_agrees : (d : Name) (k : Sort) (m : Meant) (K : sort.KnownTypes) (M : meant.KnownOutcomes) → Agrees k m → ((x : Name) → Agrees (K x) (M x)) → (x : Name) → Agrees (with_sort d k K x) (with_known d m M x)
with_agrees d k m K M a h x = elim (same_name x d) as (λ b. Agrees (sort_if b k (K x)) (cond b m (M x))) [ true ↦ a | false ↦ h x ]

code_agrees : (c : Option ℕ) → Agrees (sort_by_code c) (meant_by_code c)
code_agrees (Some c) = refl
code_agrees None = tt

source_agrees : (s : Option Ground) (v : Option Value) (c : Option ℕ) → Both s v → Agrees (sort_at s c) (meant_at v c)
source_agrees (Some s) (Some v) c b = λ t e. subst (λ q. Inhabits q v) e b
source_agrees (Some s) None c b = absurd b
source_agrees None (Some v) c b = absurd b
source_agrees None None c b = code_agrees c

first_agrees : (types : List (Name × Ground)) (values : List (Name × Value)) → HaveTypesByName types values → (x : Name) → Agrees (types_at_first types x) (at_first values x)
first_agrees types values h x = source_agrees (field x types) (field x values) (code_named x) (both_at x types values h)

function_agrees : (K : sort.KnownTypes) (M : meant.KnownOutcomes) → ((x : Name) → Agrees (K x) (M x)) → (p : Pat) (e : Exp) → IsSurePattern p → IsTidy e
    → Agrees (sort.function_of (FunctionTypes K p e)) (meant.function_of (λ v. must_fit (fits p (look_up M []) v []) (λ inner. run e M inner)))
function_agrees K M h p e y z s t v i j =
    must_fit_typed i.1 t (fits p (look_up M []) v []) (λ inner. run e M inner)
    (takes (NameTypes K []) (look_up M []) (looked_up K M h [] [] tt) p s v [] i.1 [] i.2 j tt) (sure_fits (look_up M []) p v [] y)
    (λ inner k. safe K M h e i.1 inner t z k i.3)

last_typed : (ds : Decls) (e : Exp) (K : sort.KnownTypes) (M : meant.KnownOutcomes) → ((x : Name) → Agrees (K x) (M x)) → (t : Ground) → IsTidyProgram ds e → Types e (types_after ds K) [] t → OfType t (run e (known_after ds M) [])
last_typed no_decls e K M h t y i = safe K M h e [] [] t y tt i
last_typed (constant d a ds) e K M h t y i =
    last_typed ds e (with_sort d.text (sort.value_of (Types a K [])) K) (with_known d.text (meant.value_of (run a M [])) M)
    (with_agrees d.text _ _ K M (λ u k. safe K M h a [] [] u y.0 tt k) h) t y.1 i
last_typed (function d p a ds) e K M h t y i =
    last_typed ds e (with_sort d.text (sort.function_of (FunctionTypes K p a)) K)
    (with_known d.text (meant.function_of (λ v. must_fit (fits p (look_up M []) v []) (λ inner. run a M inner))) M)
    (with_agrees d.text _ _ K M (function_agrees K M h p a y.0 y.1) h) t y.2 i

pub program_typed : (ds : Decls) (e : Exp) (types : List (Name × Ground)) (values : List (Name × Value)) (t : Ground) → IsTidyProgram ds e → HaveTypesByName types values → ProgramTypes ds e types t → OfType t (meaning_of_program ds e values)
program_typed ds e types values t y h i = last_typed ds e (types_at_first types) (at_first values) (first_agrees types values h) t y i

pub never_stuck : (ds : Decls) (e : Exp) (types : List (Name × Ground)) (values : List (Name × Value)) (t : Ground) → IsTidyProgram ds e → HaveTypesByName types values → ProgramTypes ds e types t → meaning_of_program ds e values ≢ stuck
never_stuck ds e types values t y h i = never_of t (meaning_of_program ds e values) (program_typed ds e types values t y h i)
