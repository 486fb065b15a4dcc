-- A pattern that takes a type binds values of the types that it gives, does not fit, or overflows.
use Rattle.std.proofs.Common.{◌≡◌, Bool, true, false, ◌||◌, cond, List, ◌∷◌, Option, Some, None, refl, sym, ap, ◌∙◌, subst}
use Rattle.std.specs.Cmp.Lexicographic.{same_text}
use Rattle.std.specs.Ordering.{is_eq}
use Rattle.std.specs.List.{list_all}
use Rattle.kl_base.specs.Fields.{field}
use Rattle.kl_value.specs.Order.{compare}
use Rattle.kl_value.specs.IsCanonical.{IsCanonical}
use Rattle.kl_value.specs.declared.Value.{Value}
use Rattle.kl_value.specs.declared.Value.TheVariants as value
use Rattle.kl_prim.specs.Records.{Fields, without}
use Rattle.kl_prim.proofs.RecordLemmas.{fields_rise, record_form, rest_canonical}
use Rattle.kl_outcome.proofs.RowFields.{all_named, without_typed}
use Rattle.kl_syntax.specs.declared.tree.Tail.{Tail}
use Rattle.kl_syntax.specs.declared.tree.Tail.TheVariants as tail
use Rattle.kl_type.specs.Ground.{Ground, Row, rec, var, at}
use Rattle.kl_outcome.specs.Outcome.{Name, Outcome, done, over, stuck, Flow, as_record, as_variant}
use Rattle.kl_outcome.specs.Typed.{HasFields, Inhabits, OfType}
use Rattle.kl_outcome.proofs.OutcomeTypes.{over_nil, FieldsOf, record_is, field_typed, variant_is, FlowOf}
use Rattle.kl_syntax.specs.Syntax.{Pat, catch, any, same, is, shape, variant, Pats, no_pats, pats}
use Rattle.kl_meaning.specs.Match.{Env, Fit, bound, misses, past, odd, fit_then, same_name, compared, has_label, fit_field, fit_record, fit_variant, is_open, bind_rest, fits, fits_fields, if_fits, must_fit}
use Rattle.kl_meaning.specs.Typing.{Context, HaveTypesByName, IsWhole, BindsRest, Takes, TakesFields}
use Rattle.kl_meaning.specs.Tidy.{IsSurePattern, AreSurePatterns}

-- ---- a pattern without a test

abbrev pub IsNoMiss : Fit → Type 0
IsNoMiss misses = ⊥
IsNoMiss _ = Unit {0}

then_no_miss : (f : Fit) (go : Env → Fit) → IsNoMiss f → ((env : Env) → IsNoMiss (go env)) → IsNoMiss (fit_then f go)
then_no_miss (bound env) go h g = g env
then_no_miss misses go h g = h
then_no_miss past go h g = tt
then_no_miss odd go h g = tt

field_no_miss : (o : Option Value) (go : Value → Fit) → ((v : Value) → IsNoMiss (go v)) → IsNoMiss (fit_field o go)
field_no_miss (Some v) go g = g v
field_no_miss None go g = tt

record_no_miss : (o : Option (List (Name × Value))) (dots : Bool) (ps : Pats) (go : List (Name × Value) → Fit) → ((fs : List (Name × Value)) → IsNoMiss (go fs)) → IsNoMiss (fit_record o dots ps go)
record_no_miss (Some fs) dots ps go g = elim (dots || list_all (λ f. has_label ps f.0) fs) as (λ b. IsNoMiss (cond b (go fs) odd)) [ true ↦ g fs | false ↦ tt ]
record_no_miss None dots ps go g = tt

rest_no_miss : (end : Tail) (fs : Fields) (env : Env) → IsNoMiss (bind_rest end fs env)
rest_no_miss tail.Exact fs env = tt
rest_no_miss tail.Open fs env = tt
rest_no_miss (tail.Rest x) fs env = tt

module _ (outside : Name → Outcome) where
  mutual
    pub sure_fits : (p : Pat) (v : Value) (env : Env) → IsSurePattern p → IsNoMiss (fits p outside v env)
    sure_fits (catch x) v env h = tt
    sure_fits any v env h = tt
    sure_fits (same x) v env h = absurd h
    sure_fits (is w n) v env h = absurd h
    sure_fits (shape ps end) v env h =
        record_no_miss (as_record v) (is_open end) ps (λ fs. fit_then (fits_fields ps outside fs env) (λ inner. bind_rest end (without (has_label ps) fs) inner))
        (λ fs. then_no_miss (fits_fields ps outside fs env) (λ inner. bind_rest end (without (has_label ps) fs) inner) (sure_fits_fields ps fs env h)
        (λ inner. rest_no_miss end (without (has_label ps) fs) inner))
    sure_fits (variant l p) v env h = absurd h

    sure_fits_fields : (ps : Pats) (fs : List (Name × Value)) (env : Env) → AreSurePatterns ps → IsNoMiss (fits_fields ps outside fs env)
    sure_fits_fields no_pats fs env h = tt
    sure_fits_fields (pats l p ps) fs env h =
        field_no_miss (field l.text fs) (λ v. fit_then (fits p outside v env) (λ inner. fits_fields ps outside fs inner))
        (λ v. then_no_miss (fits p outside v env) (λ inner. fits_fields ps outside fs inner) (sure_fits p v env h.0) (λ inner. sure_fits_fields ps fs inner h.1))

-- ---- a pattern that takes a type

-- bindings of these types, no, or an overflow
abbrev pub FitOf : Context → Fit → Type 0
FitOf H (bound env) = HaveTypesByName H env
FitOf H misses = Unit {0}
FitOf H past = Unit {0}
FitOf H odd = ⊥

then_typed : (M H : Context) (f : Fit) (go : Env → Fit) → FitOf M f → ((env : Env) → HaveTypesByName M env → FitOf H (go env)) → FitOf H (fit_then f go)
then_typed M H (bound env) go h g = g env h
then_typed M H misses go h g = tt
then_typed M H past go h g = tt
then_typed M H odd go h g = absurd h

compared_typed : (H : Context) (t : Ground) (o : Outcome) (v : Value) (env : Env) → OfType t o → HaveTypesByName H env → FitOf H (compared o v env)
compared_typed H t (done w) v env h g = elim (is_eq (compare v w)) as (λ b. FitOf H (cond b (bound env) misses)) [ true ↦ g | false ↦ tt ]
compared_typed H t (over ws) v env h g = tt
compared_typed H t stuck v env h g = absurd h

no_more : (end : Tail) (r : Row) (fs : Fields) (ps : Pats) → HasFields r fs → IsWhole end r ps → (is_open end || list_all (λ f. has_label ps f.0) fs) ≡ true
no_more tail.Exact r fs ps h w = all_named (has_label ps) r fs h w
no_more tail.Open r fs ps h w = refl
no_more (tail.Rest x) r fs ps h w = refl

record_fits : (H : Context) (r : Row) (v : Value) (end : Tail) (ps : Pats) (go : Fields → Fit) → Inhabits (rec r) v → IsWhole end r ps
    → ((fs : Fields) → FieldsOf r fs → IsCanonical (value.Rec fs) → FitOf H (go fs)) → FitOf H (fit_record (as_record v) (is_open end) ps go)
record_fits H r v end ps go i w g =
    let f = record_is r v i in
    subst (λ o. FitOf H (fit_record o (is_open end) ps go)) (sym f.1)
    (subst (λ b. FitOf H (cond b (go f.0) odd)) (sym (no_more end r f.0 ps f.2.0 w)) (g f.0 f.2 (subst IsCanonical (record_form v f.0 f.1) i.1)))

-- the rest of a record has the type of the other labels
rest_fits : (end : Tail) (r : Row) (ps : Pats) (fs : Fields) (M H : Context) (env : Env) → BindsRest end r ps M H → HasFields r fs → IsCanonical (value.Rec fs) → HaveTypesByName M env
    → FitOf H (bind_rest end (without (has_label ps) fs) env)
rest_fits tail.Exact r ps fs M H env h k c e = subst (λ C. HaveTypesByName C env) (sym h) e
rest_fits tail.Open r ps fs M H env h k c e = subst (λ C. HaveTypesByName C env) (sym h) e
rest_fits (tail.Rest x) r ps fs M H env h k c e =
    let others = without (has_label ps) fs in
    subst (λ C. HaveTypesByName C ((x.text, value.Rec others) ∷ env)) (sym h.2)
    (refl, ((others, refl, without_typed (has_label ps) r h.0 h.1 fs (fields_rise fs c) k), rest_canonical (has_label ps) fs c), e)

variant_fits : (H : Context) (r : Row) (s : Ground) (v : Value) (l : Name) (go : Value → Fit) → Inhabits (var r) v → at l r ≡ Some s
    → ((w : Value) → Inhabits s w → FitOf H (go w)) → FitOf H (fit_variant (as_variant v) l go)
variant_fits H r s v l go i e g =
    let f = variant_is r v i in
    subst (λ o. FitOf H (fit_variant o l go)) (sym f.3) (by_label (same_name f.0 l) refl f.1 f.2 f.4 f.5)
  where
    m : Name
    m = (variant_is r v i).0

    by_label : (b : Bool) → same_name m l ≡ b → (u : Ground) (w : Value) → at m r ≡ Some u → Inhabits u w → FitOf H (cond b (go w) misses)
    by_label true q u w a j =
        let same : m ≡ l = same_text m l (sym q) in
        let types : Some u ≡ Some s = sym a ∙ ap (λ k. at k r) same ∙ e in
        let one : u ≡ s = cc in
        g w (subst (λ t. Inhabits t w) one j)
    by_label false q u w a j = tt

module _ (types : Name → Ground → Type 0) (outside : Name → Outcome) (agree : (x : Name) (t : Ground) → types x t → OfType t (outside x)) where
  mutual
    pub takes : (p : Pat) (t : Ground) (v : Value) (G H : Context) (env : Env) → Takes p types t G H → Inhabits t v → HaveTypesByName G env → FitOf H (fits p outside v env)
    takes (catch x) t v G H env h i e = subst (λ C. HaveTypesByName C ((x.text, v) ∷ env)) (sym h) (refl, i, e)
    takes any t v G H env h i e = subst (λ C. HaveTypesByName C env) (sym h) e
    takes (same x) t v G H env h i e = compared_typed H t (outside x.text) v env (agree x.text t h.0) (subst (λ C. HaveTypesByName C env) (sym h.1) e)
    takes (is w n) t v G H env h i e = compared_typed H t (done w) v env h.0 (subst (λ C. HaveTypesByName C env) (sym h.1) e)
    takes (shape ps end) t v G H env h i e =
        record_fits H h.0 v end ps (λ fs. fit_then (fits_fields ps outside fs env) (λ inner. bind_rest end (without (has_label ps) fs) inner))
        (subst (λ q. Inhabits q v) h.2 i) h.3
        (λ fs k c. then_typed h.1 H (fits_fields ps outside fs env) (λ inner. bind_rest end (without (has_label ps) fs) inner)
        (takes_fields ps h.0 fs G h.1 env h.4 k e) (λ inner j. rest_fits end h.0 ps fs h.1 H inner h.5 k.0 c j))
    takes (variant l p) t v G H env h i e =
        variant_fits H h.0 h.1 v l.text (λ w. fits p outside w env) (subst (λ q. Inhabits q v) h.2 i) h.3
        (λ w j. takes p h.1 w G H env h.4 j e)

    takes_fields : (ps : Pats) (r : Row) (fs : List (Name × Value)) (G H : Context) (env : Env) → TakesFields ps types r G H → FieldsOf r fs → HaveTypesByName G env → FitOf H (fits_fields ps outside fs env)
    takes_fields no_pats r fs G H env h k e = subst (λ C. HaveTypesByName C env) (sym h) e
    takes_fields (pats l p ps) r fs G H env h k e =
        let f = field_typed r l.text h.0 fs k h.2 in
        subst (λ o. FitOf H (fit_field o (λ v. fit_then (fits p outside v env) (λ inner. fits_fields ps outside fs inner)))) (sym f.1)
        (then_typed h.1 H (fits p outside f.0 env) (λ inner. fits_fields ps outside fs inner) (takes p h.0 f.0 G h.1 env h.3 f.2 e)
        (λ inner i. takes_fields ps r fs h.1 H inner h.4 k i))

-- ---- what comes of it

pub must_fit_typed : (H : Context) (t : Ground) (f : Fit) (go : Env → Outcome) → FitOf H f → IsNoMiss f → ((env : Env) → HaveTypesByName H env → OfType t (go env)) → OfType t (must_fit f go)
must_fit_typed H t (bound env) go h n g = g env h
must_fit_typed H t misses go h n g = absurd n
must_fit_typed H t past go h n g = over_nil t
must_fit_typed H t odd go h n g = absurd h

pub if_fits_typed : (H : Context) (t : Ground) (f : Fit) (go : Env → Flow) → FitOf H f → ((env : Env) → HaveTypesByName H env → FlowOf t (go env)) → FlowOf t (if_fits f go)
if_fits_typed H t (bound env) go h g = g env h
if_fits_typed H t misses go h g = tt
if_fits_typed H t past go h g = tt
if_fits_typed H t odd go h g = absurd h
