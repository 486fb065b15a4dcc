-- An expansion means what the given expression means.
use Rattle.std.proofs.Common.{◌≡◌, ℕ, suc, zero, Bool, true, false, ◌||◌, cond, List, [], ◌∷◌, Option, Some, None, refl, ap}
use Rattle.std.proofs.Common.{◌∙◌}
use mathlib.Core.Path.{ap₂}
use Rattle.std.specs.List.{list_all}
use Rattle.std.specs.Ordering.{is_eq}
use Rattle.kl_base.specs.Fields.{field}
use Rattle.kl_value.specs.declared.Value.{Value}
use Rattle.kl_value.specs.declared.Value.TheVariants as value
use Rattle.kl_value.specs.Order.{compare}
use Rattle.kl_prim.specs.Records.{without}
use Rattle.kl_outcome.specs.Outcome.{Outcome, done, over, stuck, Flow, stop, fine, Name, after, applied, recorded, tagged, part}
use Rattle.kl_outcome.specs.Outcome.{cases, items_of, item_then, drawn, collected, as_record, as_variant}
use Rattle.kl_syntax.specs.declared.tree.Tail.{Tail}
use Rattle.kl_syntax.specs.declared.tree.Tail.TheVariants as tail
use Rattle.kl_syntax.specs.declared.tree.Word.{Word}
use Rattle.kl_syntax.specs.Syntax.{Pat, shape, Pats, Exp, Exps, Flds, Quals, Branches, Steps}
use Rattle.kl_meaning.specs.Match.{Env, Fit, misses, past, odd, fit_then, same_name, compared, has_label, fit_field, is_open}
use Rattle.kl_meaning.specs.Match.{fit_record, bind_rest, fit_variant, fits, fits_fields, if_fits, must_fit}
use Rattle.kl_meaning.specs.Match as fit
use Rattle.kl_meaning.specs.Run.{KnownOutcomes, look_up, called, operated, in_order, parts_of, draw_if, run, run_all, run_items}
use Rattle.kl_meaning.specs.Run.{run_fields, run_quals, run_branches, run_steps}
use Rattle.kl_ho.specs.Highers.{Higher, Highers, Funs, head}
use Rattle.kl_ho.specs.HoRun.{Deeper, over_run, over_all, over_items, over_fields, over_quals, over_branches, over_steps, within}
use Rattle.kl_ho.specs.Expansion.{Scope, New, BecomesBy, Becomes, PatBecomes, p_catch, p_any, p_same, p_is, p_shape, p_variant}
use Rattle.kl_ho.specs.Expansion.{TailBecomes, t_exact, t_open, t_rest, PatsBecome, p_none, p_more, texts, Expands, e_const}
use Rattle.kl_ho.specs.Expansion.{e_name, e_call, e_unfold, e_rec, e_extend, e_inj, e_coll, e_comp, e_if, e_let, e_case, e_path}
use Rattle.kl_ho.specs.Expansion.{e_not, e_neg, e_chain, ExpandAll, a_none, a_more, FieldsExpand, f_none, f_skip, f_more}
use Rattle.kl_ho.specs.Expansion.{QualsExpand, q_none, q_draw, q_test, BranchesExpand, b_none, b_otherwise, b_more, StepsExpand}
use Rattle.kl_ho.specs.Expansion.{s_none, s_more}
use Rattle.kl_ho.proofs.Holding.{SameAt, Holds, holds_unseen, holds_bound}

pub everywhere : {A B : Type 0} {f g : A → B} → ((x : A) → f x ≡ g x) → f ≡ g
everywhere h = λ i x. h x i

-- ---- names

seen_same : (is_new : New) (o : Option Name) (x y : Name) (known : KnownOutcomes) (env held : Env) → SameAt o (field x env) held → (is_new x ≡ false → field x held ≡ None)
    → BecomesBy is_new o x y → look_up known env x ≡ look_up known held y
seen_same is_new (Some z) x y known env held h r b = rw (h.1, b, h.2) refl
seen_same is_new None x y known env held h r b = rw (h, b.0, r b.1) refl

pub name_same : (is_new : New) (S : Scope) (x y : Name) (known : KnownOutcomes) (env held : Env) → Becomes is_new S x y → Holds is_new S env held → look_up known env x ≡ look_up known held y
name_same is_new S x y known env held b h = seen_same is_new (field x S) x y known env held (h.seen x) (h.around x) b

-- ---- patterns

abbrev FitAlike : New → Scope → Fit → Fit → Type 0
FitAlike is_new S (fit.bound env) (fit.bound held) = Holds is_new S env held
FitAlike is_new S misses misses = Unit {0}
FitAlike is_new S past past = Unit {0}
FitAlike is_new S odd odd = Unit {0}
FitAlike is_new S _ _ = ⊥

cond_alike : (is_new : New) (S : Scope) (b : Bool) (f g f' g' : Fit) → FitAlike is_new S f f' → FitAlike is_new S g g' → FitAlike is_new S (cond b f g) (cond b f' g')
cond_alike is_new S true f g f' g' h k = h
cond_alike is_new S false f g f' g' h k = k

compared_alike : (is_new : New) (S : Scope) (o : Outcome) (v : Value) (env held : Env) → Holds is_new S env held → FitAlike is_new S (compared o v env) (compared o v held)
compared_alike is_new S (done w) v env held h = cond_alike is_new S (is_eq (compare v w)) (fit.bound env) misses (fit.bound held) misses h tt
compared_alike is_new S (over ws) v env held h = tt
compared_alike is_new S stuck v env held h = tt

then_alike : (is_new : New) (S T : Scope) (f g : Fit) (go to : Env → Fit) → FitAlike is_new S f g → ((env held : Env) → Holds is_new S env held → FitAlike is_new T (go env) (to held)) → FitAlike is_new T (fit_then f go) (fit_then g to)
then_alike is_new S T (fit.bound env) (fit.bound held) go to h k = k env held h
then_alike is_new S T misses misses go to h k = tt
then_alike is_new S T past past go to h k = tt
then_alike is_new S T odd odd go to h k = tt
then_alike is_new S T (fit.bound env) misses go to h k = absurd h
then_alike is_new S T (fit.bound env) past go to h k = absurd h
then_alike is_new S T (fit.bound env) odd go to h k = absurd h
then_alike is_new S T misses (fit.bound env) go to h k = absurd h
then_alike is_new S T misses past go to h k = absurd h
then_alike is_new S T misses odd go to h k = absurd h
then_alike is_new S T past (fit.bound env) go to h k = absurd h
then_alike is_new S T past misses go to h k = absurd h
then_alike is_new S T past odd go to h k = absurd h
then_alike is_new S T odd (fit.bound env) go to h k = absurd h
then_alike is_new S T odd misses go to h k = absurd h
then_alike is_new S T odd past go to h k = absurd h

field_alike : (is_new : New) (T : Scope) (o : Option Value) (go to : Value → Fit) → ((v : Value) → FitAlike is_new T (go v) (to v)) → FitAlike is_new T (fit_field o go) (fit_field o to)
field_alike is_new T (Some v) go to h = h v
field_alike is_new T None go to h = tt

record_alike : (is_new : New) (T : Scope) (o : Option (List (Name × Value))) (dots : Bool) (ps qs : Pats) (go to : List (Name × Value) → Fit) → ((l : Name) → has_label ps l ≡ has_label qs l)
    → ((fs : List (Name × Value)) → FitAlike is_new T (go fs) (to fs)) → FitAlike is_new T (fit_record o dots ps go) (fit_record o dots qs to)
record_alike is_new T (Some fs) dots ps qs go to e h =
    let same : list_all (λ f. has_label ps f.0) fs ≡ list_all (λ f. has_label qs f.0) fs = ap (λ t. list_all t fs) (everywhere (λ f. e f.0)) in
    rw same (cond_alike is_new T (dots || list_all (λ f. has_label qs f.0) fs) (go fs) odd (to fs) odd (h fs) tt)
record_alike is_new T None dots ps qs go to e h = tt

variant_alike : (is_new : New) (T : Scope) (o : Option (Name × Value)) (l : Name) (go to : Value → Fit) → ((v : Value) → FitAlike is_new T (go v) (to v)) → FitAlike is_new T (fit_variant o l go) (fit_variant o l to)
variant_alike is_new T (Some c) l go to h = cond_alike is_new T (same_name c.0 l) (go c.1) misses (to c.1) misses (h c.1) tt
variant_alike is_new T None l go to h = tt

pub labels_same : {is_new : New} {O S T : Scope} {ps qs : Pats} → PatsBecome is_new O S ps qs T → (l : Name) → has_label ps l ≡ has_label qs l
labels_same p_none l = refl
labels_same (p_more {m = m} {ps = ps} {qs = qs} e p h) l = rw (e, labels_same h l) refl

open_same : {is_new : New} {S T : Scope} {end close : Tail} → TailBecomes is_new S end close T → is_open end ≡ is_open close
open_same t_exact = refl
open_same t_open = refl
open_same (t_rest n a) = refl

rest_alike : {is_new : New} {S T : Scope} {end close : Tail} → TailBecomes is_new S end close T → (others : List (Name × Value)) (env held : Env) → Holds is_new S env held
    → FitAlike is_new T (bind_rest end others env) (bind_rest close others held)
rest_alike t_exact others env held h = h
rest_alike t_open others env held h = h
rest_alike {is_new = is_new} (t_rest {S = S} {x = x} {y = y} n a) others env held h = holds_bound is_new S x.text y.text (value.Rec others) env held n a h

module _ (is_new : New) (known : KnownOutcomes) (O : Scope) (outer held_outer : Env) (h_outer : Holds is_new O outer held_outer) where
  mutual
    pub fits_alike : {S T : Scope} {p q : Pat} → PatBecomes is_new O S p q T → (v : Value) (env held : Env) → Holds is_new S env held
        → FitAlike is_new T (fits p (look_up known outer) v env) (fits q (look_up known held_outer) v held)
    fits_alike (p_catch {S = S} {x = x} {y = y} n a) v env held h = holds_bound is_new S x.text y.text v env held n a h
    fits_alike p_any v env held h = h
    fits_alike (p_same {S = S} {x = x} {y = y} b) v env held h =
        rw (name_same is_new O x.text y.text known outer held_outer b h_outer) (compared_alike is_new S (look_up known held_outer y.text) v env held h)
    fits_alike (p_is {S = S} {v = w}) v env held h = compared_alike is_new S (done w) v env held h
    fits_alike (p_shape {T = T} {U = U} {ps = ps} {qs = qs} {end = end} {close = close} b c) v env held h =
        rw (open_same c) (record_alike is_new U (as_record v) (is_open close) ps qs _ _ (labels_same b)
        (λ fs. then_alike is_new T U (fits_fields ps (look_up known outer) fs env) (fits_fields qs (look_up known held_outer) fs held) _ _ (fields_alike b fs env held h)
        (λ a z k. rw (everywhere (labels_same b)) (rest_alike c (without (has_label qs) fs) a z k))))
    fits_alike (p_variant {T = T} {l = l} e b) v env held h = rw e (variant_alike is_new T (as_variant v) l.text _ _ (λ w. fits_alike b w env held h))

    fields_alike : {S T : Scope} {ps qs : Pats} → PatsBecome is_new O S ps qs T → (fs : List (Name × Value)) (env held : Env) → Holds is_new S env held
        → FitAlike is_new T (fits_fields ps (look_up known outer) fs env) (fits_fields qs (look_up known held_outer) fs held)
    fields_alike p_none fs env held h = h
    fields_alike (p_more {T = T} {U = U} {l = l} {p = p} {q = q} e b c) fs env held h =
        rw e (field_alike is_new U (field l.text fs) _ _
        (λ v. then_alike is_new T U (fits p (look_up known outer) v env) (fits q (look_up known held_outer) v held) _ _ (fits_alike b v env held h) (λ a z k. fields_alike c fs a z k)))

pub must_alike : (is_new : New) (T : Scope) (f g : Fit) (go to : Env → Outcome) → FitAlike is_new T f g → ((env held : Env) → Holds is_new T env held → go env ≡ to held) → must_fit f go ≡ must_fit g to
must_alike is_new T (fit.bound env) (fit.bound held) go to h k = k env held h
must_alike is_new T misses misses go to h k = refl
must_alike is_new T past past go to h k = refl
must_alike is_new T odd odd go to h k = refl
must_alike is_new T (fit.bound env) misses go to h k = absurd h
must_alike is_new T (fit.bound env) past go to h k = absurd h
must_alike is_new T (fit.bound env) odd go to h k = absurd h
must_alike is_new T misses (fit.bound env) go to h k = absurd h
must_alike is_new T misses past go to h k = absurd h
must_alike is_new T misses odd go to h k = absurd h
must_alike is_new T past (fit.bound env) go to h k = absurd h
must_alike is_new T past misses go to h k = absurd h
must_alike is_new T past odd go to h k = absurd h
must_alike is_new T odd (fit.bound env) go to h k = absurd h
must_alike is_new T odd misses go to h k = absurd h
must_alike is_new T odd past go to h k = absurd h

pub if_alike : (is_new : New) (T : Scope) (f g : Fit) (go to : Env → Flow) → FitAlike is_new T f g → ((env held : Env) → Holds is_new T env held → go env ≡ to held) → if_fits f go ≡ if_fits g to
if_alike is_new T (fit.bound env) (fit.bound held) go to h k = k env held h
if_alike is_new T misses misses go to h k = refl
if_alike is_new T past past go to h k = refl
if_alike is_new T odd odd go to h k = refl
if_alike is_new T (fit.bound env) misses go to h k = absurd h
if_alike is_new T (fit.bound env) past go to h k = absurd h
if_alike is_new T (fit.bound env) odd go to h k = absurd h
if_alike is_new T misses (fit.bound env) go to h k = absurd h
if_alike is_new T misses past go to h k = absurd h
if_alike is_new T misses odd go to h k = absurd h
if_alike is_new T past (fit.bound env) go to h k = absurd h
if_alike is_new T past misses go to h k = absurd h
if_alike is_new T past odd go to h k = absurd h
if_alike is_new T odd (fit.bound env) go to h k = absurd h
if_alike is_new T odd misses go to h k = absurd h
if_alike is_new T odd past go to h k = absurd h

-- ---- expressions

paths_same : (ls ms : List Word) (o : Outcome) → texts ms ≡ texts ls → parts_of ls o ≡ parts_of ms o
paths_same [] [] o e = refl
paths_same [] (m ∷ ms) o e = let z : ⊥ = cc in absurd z
paths_same (l ∷ ls) [] o e = let z : ⊥ = cc in absurd z
paths_same (l ∷ ls) (m ∷ ms) o e =
    let first : m.text ≡ l.text = cc in
    let others : texts ms ≡ texts ls = cc in
    rw first (paths_same ls ms (part l.text o) others)

after_same : {o p : Outcome} {f g : Value → Outcome} → o ≡ p → ((v : Value) → f v ≡ g v) → after o f ≡ after p g
after_same e h = ap₂ after e (everywhere h)

-- what a body comes to is what its expansions mean, those that go n deep
abbrev RightAt : New → Highers → KnownOutcomes → ℕ → Deeper → Type 0
RightAt is_new highers known n deeper =
    (h : Higher) (given : Funs) (T : Scope) (b : Exp) (env held : Env) → Expands is_new highers n given T h.body b → Holds is_new T env held → deeper h given env ≡ run b known held

-- and those that go less deep
abbrev pub Sound : New → Highers → KnownOutcomes → ℕ → Deeper → Type 0
Sound is_new highers known zero deeper = Unit {0}
Sound is_new highers known (suc n) deeper = RightAt is_new highers known n deeper × Sound is_new highers known n deeper

module _ (is_new : New) (highers : Highers) (known : KnownOutcomes) (deeper : Deeper) where
  mutual
    pub run_same : {n : ℕ} {funs : Funs} {S : Scope} {e x : Exp} → Expands is_new highers n funs S e x → Sound is_new highers known n deeper → (env held : Env) → Holds is_new S env held
        → over_run deeper highers funs known e env ≡ run x known held
    run_same e_const sound env held h = refl
    run_same (e_name {S = S} {x = x} {y = y} b) sound env held h = name_same is_new S x.text y.text known env held b h
    run_same (e_call {funs = funs} {f = f} {g = g} n t a es) sound env held h = rw (n, t) (ap (called (known (head funs f.text))) (all_same es sound env held h))
    run_same (e_unfold {S = S} {T = T} {q = q} {b = x} d given is g fs p b) sound env held h =
        rw (is, g) (after_same (ap (λ ps. recorded (in_order ps)) (fields_same fs sound env held h))
        (λ v. must_alike is_new T (fits (shape d.rest tail.Exact) (look_up known []) v []) (fits q (look_up known held) v held) _ _
        (fits_alike is_new known [] [] held (holds_unseen is_new S env held h) p v [] held (holds_unseen is_new S env held h)) (λ a z k. sound.0 d given T x a z b k)))
    run_same (e_rec fs) sound env held h = ap (λ ps. recorded (in_order ps)) (fields_same fs sound env held h)
    run_same (e_extend fs a) sound env held h =
        ap₂ (λ o p. applied 27 (o ∷ p ∷ [])) (ap (λ ps. recorded (in_order ps)) (fields_same fs sound env held h)) (run_same a sound env held h)
    run_same (e_inj {l = l} e a) sound env held h = rw e (ap (tagged l.text) (run_same a sound env held h))
    run_same (e_coll {k = k} es) sound env held h = ap (collected k) (items_same es sound env held h)
    run_same (e_comp {k = k} qs a) sound env held h = ap (collected k) (quals_same qs sound _ _ env held h (λ z w i. ap (λ o. item_then o (stop fine)) (run_same a sound z w i)))
    run_same (e_if a b c) sound env held h = rw (run_same a sound env held h, run_same b sound env held h, run_same c sound env held h) refl
    run_same (e_let {S = S} {T = T} {p = p} {q = q} a r b) sound env held h =
        after_same (run_same a sound env held h)
        (λ v. must_alike is_new T (fits p (look_up known env) v env) (fits q (look_up known held) v held) _ _ (fits_alike is_new known S env held h r v env held h) (λ z w i. run_same b sound z w i))
    run_same (e_case a bs) sound env held h = ap₂ cases (run_same a sound env held h) (everywhere (λ l. everywhere (λ v. branches_same bs sound l v env held h)))
    run_same (e_path {ls = ls} {ms = ms} e a) sound env held h = ap (parts_of ls) (run_same a sound env held h) ∙ paths_same ls ms _ e
    run_same (e_not a) sound env held h = ap (λ o. applied 11 (o ∷ [])) (run_same a sound env held h)
    run_same (e_neg a) sound env held h = ap (λ o. applied 10 (o ∷ [])) (run_same a sound env held h)
    run_same (e_chain {ss = ss} {rs = rs} a s) sound env held h = steps_same s sound _ _ env held h (run_same a sound env held h)

    all_same : {n : ℕ} {funs : Funs} {S : Scope} {es xs : Exps} → ExpandAll is_new highers n funs S es xs → Sound is_new highers known n deeper → (env held : Env) → Holds is_new S env held
        → over_all deeper highers funs known es env ≡ run_all xs known held
    all_same a_none sound env held h = refl
    all_same (a_more e es) sound env held h = ap₂ (λ o os. o ∷ os) (run_same e sound env held h) (all_same es sound env held h)

    items_same : {n : ℕ} {funs : Funs} {S : Scope} {es xs : Exps} → ExpandAll is_new highers n funs S es xs → Sound is_new highers known n deeper → (env held : Env) → Holds is_new S env held
        → over_items deeper highers funs known es env ≡ run_items xs known held
    items_same a_none sound env held h = refl
    items_same (a_more e es) sound env held h = ap₂ item_then (run_same e sound env held h) (items_same es sound env held h)

    fields_same : {n : ℕ} {funs : Funs} {S : Scope} {skips : List (Name × Name)} {fs gs : Flds} → FieldsExpand is_new highers n funs S skips fs gs → Sound is_new highers known n deeper → (env held : Env) → Holds is_new S env held
        → over_fields deeper highers funs known fs skips env ≡ run_fields gs known held
    fields_same f_none sound env held h = refl
    fields_same (f_skip s fs) sound env held h = rw s (fields_same fs sound env held h)
    fields_same (f_more {l = l} s e a fs) sound env held h = rw (s, e) (ap₂ (λ o os. (l.text, o) ∷ os) (run_same a sound env held h) (fields_same fs sound env held h))

    quals_same : {n : ℕ} {funs : Funs} {S U : Scope} {qs rs : Quals} → QualsExpand is_new highers n funs S qs rs U → Sound is_new highers known n deeper → (go to : Env → Flow) (env held : Env) → Holds is_new S env held
        → ((a z : Env) → Holds is_new U a z → go a ≡ to z) → over_quals deeper highers funs known qs go env ≡ run_quals rs to known held
    quals_same q_none sound go to env held h k = k env held h
    quals_same (q_draw {S = S} {T = T} {p = p} {q = q} s r qs) sound go to env held h k =
        ap₂ (λ o f. drawn (items_of o) f) (run_same s sound env held h)
        (everywhere (λ v. if_alike is_new T (fits p (look_up known env) v env) (fits q (look_up known held) v held) _ _ (fits_alike is_new known S env held h r v env held h)
        (λ a z i. quals_same qs sound go to a z i k)))
    quals_same (q_test c qs) sound go to env held h k = ap₂ draw_if (run_same c sound env held h) (quals_same qs sound go to env held h k)

    branches_same : {n : ℕ} {funs : Funs} {S : Scope} {bs cs : Branches} → BranchesExpand is_new highers n funs S bs cs → Sound is_new highers known n deeper → (l : Name) (v : Value) (env held : Env) → Holds is_new S env held
        → over_branches deeper highers funs known bs l v env ≡ run_branches cs l v known held
    branches_same b_none sound l v env held h = refl
    branches_same (b_otherwise c) sound l v env held h = run_same c sound env held h
    branches_same (b_more {S = S} {T = T} {l = m} {p = p} {q = q} e r b bs) sound l v env held h =
        rw e (ap₂ (cond (same_name l m.text))
        (must_alike is_new T (fits p (look_up known env) v env) (fits q (look_up known held) v held) _ _ (fits_alike is_new known S env held h r v env held h) (λ a z i. run_same b sound a z i))
        (branches_same bs sound l v env held h))

    steps_same : {n : ℕ} {funs : Funs} {S : Scope} {ss rs : Steps} → StepsExpand is_new highers n funs S ss rs → Sound is_new highers known n deeper → (o p : Outcome) (env held : Env) → Holds is_new S env held → o ≡ p
        → over_steps deeper highers funs known ss o env ≡ run_steps rs p known held
    steps_same s_none sound o p env held h e = e
    steps_same (s_more {c = c} a ss) sound o p env held h e = steps_same ss sound _ _ env held h (ap₂ (operated c) e (run_same a sound env held h))

module _ (is_new : New) (highers : Highers) (known : KnownOutcomes) where
  abbrev one_more : Deeper → Deeper
  one_more deeper = λ h given inner. over_run deeper highers given known h.body inner

  right_more : (n : ℕ) (deeper : Deeper) → Sound is_new highers known n deeper → RightAt is_new highers known n (one_more deeper)
  right_more n deeper s = λ h given T b env held x k. run_same is_new highers known deeper x s env held k

  sound_more : (n : ℕ) (deeper : Deeper) → Sound is_new highers known n deeper → Sound is_new highers known (suc n) (one_more deeper)
  sound_more zero deeper s = (right_more zero deeper s, tt)
  sound_more (suc n) deeper s = (right_more (suc n) deeper s, sound_more n deeper s.1)

  pub sound_within : (n : ℕ) (deeper : Deeper) → Sound is_new highers known n (within n deeper highers known)
  sound_within zero deeper = tt
  sound_within (suc n) deeper = sound_more n (within n deeper highers known) (sound_within n deeper)

  pub sound_still : (n m : ℕ) (deeper : Deeper) → Sound is_new highers known n deeper → Sound is_new highers known n (within m deeper highers known)
  sound_still n zero deeper s = s
  sound_still n (suc m) deeper s = (sound_more n (within m deeper highers known) (sound_still n m deeper s)).1
