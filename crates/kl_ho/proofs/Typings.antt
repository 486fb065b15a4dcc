-- The derivations of a given expression are those of its expansion.
use Rattle.std.proofs.Common.{◌≡◌, ◌↔◌, ℕ, suc, zero, false, ◌||◌, List, [], ◌∷◌, Option, Some, None, refl, sym, ap}
use Rattle.std.proofs.Common.{◌∙◌, subst}
use Rattle.std.proofs.lemmas.Option.{same_Some}
use Rattle.kl_base.specs.Fields.{field}
use Rattle.kl_type.specs.Ground.{Ground, Row, bool, rec, var, coll as colls}
use Rattle.kl_outcome.specs.Outcome.{Name}
use Rattle.kl_outcome.specs.Typed.{IsWithout, PrimTypes}
use Rattle.kl_syntax.specs.declared.tree.Tail.{Tail}
use Rattle.kl_syntax.specs.declared.tree.Word.{Word}
use Rattle.kl_syntax.specs.Syntax.{Pat, Pats, Exp, Exps, Flds, Quals, Branches, Steps}
use Rattle.kl_meaning.specs.Match.{same_name, has_label}
use Rattle.kl_meaning.specs.Typing.{Context, Sort, nothing, value_of, function_of, primitive, KnownTypes, ValueTypes, CallTypes}
use Rattle.kl_meaning.specs.Typing.{NameTypes, IsWhole, BindsRest, Takes, TakesFields, PathTypes, has_field, has_branch, Types}
use Rattle.kl_meaning.specs.Typing.{AllTypes, EachType, FieldTypes, QualTypes, BranchTypes, StepTypes}
use Rattle.kl_ho.specs.Highers.{Highers, Funs, head}
use Rattle.kl_ho.specs.HoTyping.{has_value_field, OverTypes, OverAll, OverEach, OverFields, OverQuals, OverBranches, OverSteps}
use Rattle.kl_ho.specs.HoTyping.{types_within}
use Rattle.kl_ho.specs.Expansion.{Scope, New, BecomesBy, Becomes, PatBecomes, p_catch, p_any, p_same, p_is, p_shape, p_variant}
use Rattle.kl_ho.specs.Expansion.{TailBecomes, t_exact, t_open, t_rest, PatsBecome, p_none, p_more, texts, Expands, e_const}
use Rattle.kl_ho.specs.Expansion.{e_name, e_call, e_unfold, e_rec, e_extend, e_inj, e_coll, e_comp, e_if, e_let, e_case, e_path}
use Rattle.kl_ho.specs.Expansion.{e_not, e_neg, e_chain, ExpandAll, a_none, a_more, FieldsExpand, f_none, f_skip, f_more}
use Rattle.kl_ho.specs.Expansion.{QualsExpand, q_none, q_draw, q_test, BranchesExpand, b_none, b_otherwise, b_more, StepsExpand}
use Rattle.kl_ho.specs.Expansion.{s_none, s_more}
use Rattle.kl_ho.proofs.Holding.{SameAt, Holds, holds_unseen, holds_bound}
use Rattle.kl_ho.proofs.Meaning.{everywhere, labels_same}

-- ---- what names have

-- the same types, or the same function's or primitive's
abbrev pub Alike : Sort → Sort → Type 0
Alike nothing nothing = Unit {0}
Alike (value_of P) (value_of Q) = (t : Ground) → P t ↔ Q t
Alike (function_of P) (function_of Q) = (s : Ground) (t : Ground) → P s t ↔ Q s t
Alike (primitive c) (primitive d) = c ≡ d
Alike _ _ = ⊥

pub value_alike : (k j : Sort) (t : Ground) → Alike k j → ValueTypes k t ↔ ValueTypes j t
value_alike nothing nothing t a = (λ h. absurd h, λ h. absurd h)
value_alike (value_of P) (value_of Q) t a = a t
value_alike (function_of P) (function_of Q) t a = (λ h. absurd h, λ h. absurd h)
value_alike (primitive c) (primitive d) t a = (λ h. absurd h, λ h. absurd h)
value_alike nothing (value_of Q) t a = absurd a
value_alike nothing (function_of Q) t a = absurd a
value_alike nothing (primitive d) t a = absurd a
value_alike (value_of P) nothing t a = absurd a
value_alike (value_of P) (function_of Q) t a = absurd a
value_alike (value_of P) (primitive d) t a = absurd a
value_alike (function_of P) nothing t a = absurd a
value_alike (function_of P) (value_of Q) t a = absurd a
value_alike (function_of P) (primitive d) t a = absurd a
value_alike (primitive c) nothing t a = absurd a
value_alike (primitive c) (value_of Q) t a = absurd a
value_alike (primitive c) (function_of Q) t a = absurd a

pub call_alike : (k j : Sort) (ss : List Ground) (t : Ground) → Alike k j → CallTypes k ss t ↔ CallTypes j ss t
call_alike nothing nothing ss t a = (λ h. absurd h, λ h. absurd h)
call_alike (value_of P) (value_of Q) ss t a = (λ h. absurd h, λ h. absurd h)
call_alike (function_of P) (function_of Q) ss t a = (λ h. (h.0, h.1, (a h.0 t).0 h.2), λ h. (h.0, h.1, (a h.0 t).1 h.2))
call_alike (primitive c) (primitive d) ss t a = (λ h. subst (λ b. PrimTypes b ss t) a h, λ h. subst (λ b. PrimTypes b ss t) (sym a) h)
call_alike nothing (value_of Q) ss t a = absurd a
call_alike nothing (function_of Q) ss t a = absurd a
call_alike nothing (primitive d) ss t a = absurd a
call_alike (value_of P) nothing ss t a = absurd a
call_alike (value_of P) (function_of Q) ss t a = absurd a
call_alike (value_of P) (primitive d) ss t a = absurd a
call_alike (function_of P) nothing ss t a = absurd a
call_alike (function_of P) (value_of Q) ss t a = absurd a
call_alike (function_of P) (primitive d) ss t a = absurd a
call_alike (primitive c) nothing ss t a = absurd a
call_alike (primitive c) (value_of Q) ss t a = absurd a
call_alike (primitive c) (function_of Q) ss t a = absurd a

abbrev pub AllAlike : KnownTypes → KnownTypes → Type 0
AllAlike known also = (x : Name) → Alike (known x) (also x)

seen_alike : (is_new : New) (o : Option Name) (x y : Name) (known also : KnownTypes) (G H : Context) → AllAlike known also → SameAt o (field x G) H → (is_new x ≡ false → field x H ≡ None)
    → BecomesBy is_new o x y → (t : Ground) → NameTypes known G x t ↔ NameTypes also H y t
seen_alike is_new (Some z) x y known also G H a h r b t = rw (h.1, b, h.2) ((λ i. i), (λ i. i))
seen_alike is_new None x y known also G H a h r b t = rw (h, b.0, r b.1) (value_alike (known x) (also x) t (a x))

pub name_alike : (is_new : New) (S : Scope) (x y : Name) (known also : KnownTypes) (G H : Context) → AllAlike known also → Becomes is_new S x y → Holds is_new S G H → (t : Ground) → NameTypes known G x t ↔ NameTypes also H y t
name_alike is_new S x y known also G H a b h t = seen_alike is_new (field x S) x y known also G H a (h.seen x) (h.around x) b t

-- ---- patterns

pub whole_to : {is_new : New} {S T : Scope} {end close : Tail} → TailBecomes is_new S end close T → (r : Row) (ps qs : Pats) → ((l : Name) → has_label ps l ≡ has_label qs l) → IsWhole end r ps → IsWhole close r qs
whole_to t_exact r ps qs e w = λ l s. sym (e l) ∙ w l s
whole_to t_open r ps qs e w = tt
whole_to (t_rest n a) r ps qs e w = tt

pub whole_back : {is_new : New} {S T : Scope} {end close : Tail} → TailBecomes is_new S end close T → (r : Row) (ps qs : Pats) → ((l : Name) → has_label ps l ≡ has_label qs l) → IsWhole close r qs → IsWhole end r ps
whole_back t_exact r ps qs e w = λ l s. e l ∙ w l s
whole_back t_open r ps qs e w = tt
whole_back (t_rest n a) r ps qs e w = tt

pub rest_to : {is_new : New} {S T : Scope} {end close : Tail} → TailBecomes is_new S end close T → (r : Row) (ps qs : Pats) → ((l : Name) → has_label ps l ≡ has_label qs l) → (G H K : Context) → Holds is_new S G H → BindsRest end r ps G K
    → (L : Context) × Holds is_new T K L × BindsRest close r qs H L
rest_to t_exact r ps qs e G H K h i = (H, rw i h, refl)
rest_to t_open r ps qs e G H K h i = (H, rw i h, refl)
rest_to {is_new = is_new} (t_rest {S = S} {x = x} {y = y} n a) r ps qs e G H K h i =
    ((y.text, rec i.0) ∷ H, rw i.2 (holds_bound is_new S x.text y.text (rec i.0) G H n a h), (i.0, subst (λ f. IsWithout f r i.0) (everywhere e) i.1, refl))

pub rest_back : {is_new : New} {S T : Scope} {end close : Tail} → TailBecomes is_new S end close T → (r : Row) (ps qs : Pats) → ((l : Name) → has_label ps l ≡ has_label qs l) → (G H L : Context) → Holds is_new S G H → BindsRest close r qs H L
    → (K : Context) × Holds is_new T K L × BindsRest end r ps G K
rest_back t_exact r ps qs e G H L h i = (G, rw i h, refl)
rest_back t_open r ps qs e G H L h i = (G, rw i h, refl)
rest_back {is_new = is_new} (t_rest {S = S} {x = x} {y = y} n a) r ps qs e G H L h i =
    ((x.text, rec i.0) ∷ G, rw i.2 (holds_bound is_new S x.text y.text (rec i.0) G H n a h), (i.0, subst (λ f. IsWithout f r i.0) (sym (everywhere e)) i.1, refl))

module _ (is_new : New) (O : Scope) (out to : Name → Ground → Type 0) where
  module _ (names : (x y : Name) → Becomes is_new O x y → (t : Ground) → out x t → to y t) where
    mutual
      pub takes_to : {S T : Scope} {p q : Pat} → PatBecomes is_new O S p q T → (t : Ground) (G H K : Context) → Holds is_new S G H → Takes p out t G K → (L : Context) × Holds is_new T K L × Takes q to t H L
      takes_to (p_catch {S = S} {x = x} {y = y} n a) t G H K h i = ((y.text, t) ∷ H, rw i (holds_bound is_new S x.text y.text t G H n a h), refl)
      takes_to p_any t G H K h i = (H, rw i h, refl)
      takes_to (p_same {x = x} {y = y} b) t G H K h i = (H, rw i.1 h, (names x.text y.text b t i.0, refl))
      takes_to p_is t G H K h i = (H, rw i.1 h, (i.0, refl))
      takes_to (p_shape {ps = ps} {qs = qs} b c) t G H K h i =
          let m = fields_to b i.0 G H i.1 h i.4 in
          let n = rest_to c i.0 ps qs (labels_same b) i.1 m.0 K m.1 i.5 in
          (n.0, n.1, (i.0, m.0, i.2, whole_to c i.0 ps qs (labels_same b) i.3, m.2, n.2))
      takes_to (p_variant e b) t G H K h i =
          let m = takes_to b i.1 G H K h i.4 in
          (m.0, m.1, (i.0, i.1, i.2, rw e i.3, m.2))

      pub fields_to : {S T : Scope} {ps qs : Pats} → PatsBecome is_new O S ps qs T → (r : Row) (G H K : Context) → Holds is_new S G H → TakesFields ps out r G K → (L : Context) × Holds is_new T K L × TakesFields qs to r H L
      fields_to p_none r G H K h i = (H, rw i h, refl)
      fields_to (p_more e b c) r G H K h i =
          let m = takes_to b i.0 G H i.1 h i.3 in
          let n = fields_to c r i.1 m.0 K m.1 i.4 in
          (n.0, n.1, (i.0, m.0, rw e i.2, m.2, n.2))

  module _ (names : (x y : Name) → Becomes is_new O x y → (t : Ground) → to y t → out x t) where
    mutual
      pub takes_back : {S T : Scope} {p q : Pat} → PatBecomes is_new O S p q T → (t : Ground) (G H L : Context) → Holds is_new S G H → Takes q to t H L → (K : Context) × Holds is_new T K L × Takes p out t G K
      takes_back (p_catch {S = S} {x = x} {y = y} n a) t G H L h i = ((x.text, t) ∷ G, rw i (holds_bound is_new S x.text y.text t G H n a h), refl)
      takes_back p_any t G H L h i = (G, rw i h, refl)
      takes_back (p_same {x = x} {y = y} b) t G H L h i = (G, rw i.1 h, (names x.text y.text b t i.0, refl))
      takes_back p_is t G H L h i = (G, rw i.1 h, (i.0, refl))
      takes_back (p_shape {ps = ps} {qs = qs} b c) t G H L h i =
          let m = fields_back b i.0 G H i.1 h i.4 in
          let n = rest_back c i.0 ps qs (labels_same b) m.0 i.1 L m.1 i.5 in
          (n.0, n.1, (i.0, m.0, i.2, whole_back c i.0 ps qs (labels_same b) i.3, m.2, n.2))
      takes_back (p_variant e b) t G H L h i =
          let m = takes_back b i.1 G H L h i.4 in
          (m.0, m.1, (i.0, i.1, i.2, rw e at i.3, m.2))

      pub fields_back : {S T : Scope} {ps qs : Pats} → PatsBecome is_new O S ps qs T → (r : Row) (G H L : Context) → Holds is_new S G H → TakesFields qs to r H L → (K : Context) × Holds is_new T K L × TakesFields ps out r G K
      fields_back p_none r G H L h i = (G, rw i h, refl)
      fields_back (p_more e b c) r G H L h i =
          let m = takes_back b i.0 G H i.1 h i.3 in
          let n = fields_back c r m.0 i.1 L m.1 i.4 in
          (n.0, n.1, (i.0, m.0, rw e at i.2, m.2, n.2))

-- ---- parts

pub paths_alike : (ls ms : List Word) (s t : Ground) → texts ms ≡ texts ls → PathTypes ls s t → PathTypes ms s t
paths_alike [] [] s t e h = h
paths_alike [] (m ∷ ms) s t e h = let z : ⊥ = cc in absurd z
paths_alike (l ∷ ls) [] s t e h = let z : ⊥ = cc in absurd z
paths_alike (l ∷ ls) (m ∷ ms) s t e h =
    let first : m.text ≡ l.text = cc in
    let others : texts ms ≡ texts ls = cc in
    (h.0, h.1, h.2, rw first h.3, paths_alike ls ms h.1 t others h.4)

module _ (is_new : New) (highers : Highers) where
  pub value_fields_same : {n : ℕ} {funs : Funs} {S : Scope} {skips : List (Name × Name)} {fs gs : Flds} → FieldsExpand is_new highers n funs S skips fs gs → (l : Name)
      → has_value_field fs skips l ≡ has_field gs l
  value_fields_same f_none l = refl
  value_fields_same (f_skip s h) l = rw s (value_fields_same h l)
  value_fields_same (f_more {l = m} s e a h) l = rw (s, e) (ap (λ b. same_name l m.text || b) (value_fields_same h l))

  pub branches_named : {n : ℕ} {funs : Funs} {S : Scope} {bs cs : Branches} → BranchesExpand is_new highers n funs S bs cs → (l : Name) → has_branch bs l ≡ has_branch cs l
  branches_named b_none l = refl
  branches_named (b_otherwise c) l = refl
  branches_named (b_more {l = m} e p b bs) l = rw e (ap (λ c. same_name l m.text || c) (branches_named bs l))

-- ---- from the given expression to the expansion

module _ (is_new : New) (highers : Highers) (known also : KnownTypes) (alike : AllAlike known also) where
  pub names_to : (S : Scope) (G H : Context) → Holds is_new S G H → (x y : Name) → Becomes is_new S x y → (t : Ground) → NameTypes known G x t → NameTypes also H y t
  names_to S G H h x y b t = (name_alike is_new S x y known also G H alike b h t).0

  mutual
    pub types_to : {n : ℕ} {funs : Funs} {S : Scope} {e x : Exp} → Expands is_new highers n funs S e x → (m : ℕ) (G H : Context) (t : Ground) → Holds is_new S G H
        → OverTypes (types_within m highers known) highers funs known e G t → Types x also H t
    types_to e_const m G H t h i = i
    types_to (e_name {S = S} {x = x} {y = y} b) m G H t h i = names_to S G H h x.text y.text b t i
    types_to (e_call {funs = funs} {f = f} n e a es) m G H t h i =
        let j = rw n at i in
        (j.0, all_to es m G H j.0 h j.1, rw e ((call_alike (known (head funs f.text)) (also (head funs f.text)) j.0 t (alike (head funs f.text))).0 j.2))
    types_to (e_unfold d given is g fs p b) zero G H t h i = let j = rw is at i in absurd j.6
    types_to (e_unfold {funs = funs} {S = S} d given is g fs p b) (suc m) G H t h i =
        let j = rw is at i in
        let one : j.0 ≡ given = same_Some j.0 given (sym j.3 ∙ g) in
        let r = j.4 in
        let k = takes_to is_new [] (NameTypes known []) (NameTypes also H) (names_to [] [] H (holds_unseen is_new S G H h)) p j.1 [] H j.2 (holds_unseen is_new S G H h) j.5 in (
          j.1,
          k.0,
          (r.0, r.1, r.2, (λ l s. sym (value_fields_same is_new highers fs l) ∙ r.3 l s), record_to fs (suc m) G H r.0 h r.4),
          k.2,
          types_to b m j.2 k.0 t k.1 (subst (λ z. OverTypes (types_within m highers known) highers z known d.body j.2 t) one j.6),
        )
    types_to (e_rec fs) m G H t h i = (i.0, i.1, i.2, (λ l s. sym (value_fields_same is_new highers fs l) ∙ i.3 l s), record_to fs m G H i.0 h i.4)
    types_to (e_extend fs a) m G H t h i =
        (i.0, i.1, i.2, i.3, subst (λ f. IsWithout f i.0 i.1) (everywhere (value_fields_same is_new highers fs)) i.4, record_to fs m G H i.0 h i.5, types_to a m G H (rec i.1) h i.6)
    types_to (e_inj e a) m G H t h i = (i.0, i.1, i.2, i.3, rw e i.4, types_to a m G H i.1 h i.5)
    types_to (e_coll es) m G H t h i = (i.0, i.1, i.2, each_to es m G H i.0 h i.3)
    types_to (e_comp qs a) m G H t h i =
        let k = quals_to qs m G H i.1 h i.3 in
        (i.0, k.0, i.2, k.2, types_to a m i.1 k.0 i.0 k.1 i.4)
    types_to (e_if a b c) m G H t h i = (types_to a m G H bool h i.0, types_to b m G H t h i.1, types_to c m G H t h i.2)
    types_to (e_let {S = S} a p b) m G H t h i =
        let k = takes_to is_new S (NameTypes known G) (NameTypes also H) (names_to S G H h) p i.0 G H i.1 h i.3 in
        (i.0, k.0, types_to a m G H i.0 h i.2, k.2, types_to b m i.1 k.0 t k.1 i.4)
    types_to (e_case a bs) m G H t h i = (i.0, types_to a m G H (var i.0) h i.1, (λ l s. sym (branches_named is_new highers bs l) ∙ i.2 l s), branches_to bs m G H i.0 t h i.3)
    types_to (e_path {ls = ls} {ms = ms} e a) m G H t h i = (i.0, types_to a m G H i.0 h i.1, paths_alike ls ms i.0 t e i.2)
    types_to (e_not a) m G H t h i = (i.0, types_to a m G H i.0 h i.1, i.2)
    types_to (e_neg a) m G H t h i = (i.0, types_to a m G H i.0 h i.1, i.2)
    types_to (e_chain a ss) m G H t h i = (i.0, types_to a m G H i.0 h i.1, steps_to ss m G H i.0 t h i.2)

    all_to : {n : ℕ} {funs : Funs} {S : Scope} {es xs : Exps} → ExpandAll is_new highers n funs S es xs → (m : ℕ) (G H : Context) (ts : List Ground) → Holds is_new S G H
        → OverAll (types_within m highers known) highers funs known es G ts → AllTypes xs also H ts
    all_to a_none m G H ts h i = i
    all_to (a_more e es) m G H ts h i = (i.0, i.1, i.2, types_to e m G H i.0 h i.3, all_to es m G H i.1 h i.4)

    each_to : {n : ℕ} {funs : Funs} {S : Scope} {es xs : Exps} → ExpandAll is_new highers n funs S es xs → (m : ℕ) (G H : Context) (t : Ground) → Holds is_new S G H
        → OverEach (types_within m highers known) highers funs known es G t → EachType xs also H t
    each_to a_none m G H t h i = tt
    each_to (a_more e es) m G H t h i = (types_to e m G H t h i.0, each_to es m G H t h i.1)

    record_to : {n : ℕ} {funs : Funs} {S : Scope} {skips : List (Name × Name)} {fs gs : Flds} → FieldsExpand is_new highers n funs S skips fs gs → (m : ℕ) (G H : Context) (r : Row) → Holds is_new S G H
        → OverFields (types_within m highers known) highers funs known fs skips G r → FieldTypes gs also H r
    record_to f_none m G H r h i = tt
    record_to (f_skip s fs) m G H r h i = record_to fs m G H r h (rw s at i)
    record_to (f_more s e a fs) m G H r h i = let j = rw s at i in (j.0, rw e j.1, types_to a m G H j.0 h j.2, record_to fs m G H r h j.3)

    quals_to : {n : ℕ} {funs : Funs} {S T : Scope} {qs rs : Quals} → QualsExpand is_new highers n funs S qs rs T → (m : ℕ) (G H K : Context) → Holds is_new S G H
        → OverQuals (types_within m highers known) highers funs known qs G K → (L : Context) × Holds is_new T K L × QualTypes rs also H L
    quals_to q_none m G H K h i = (H, rw i h, refl)
    quals_to (q_draw {S = S} s p qs) m G H K h i =
        let k = takes_to is_new S (NameTypes known G) (NameTypes also H) (names_to S G H h) p i.1 G H i.2 h i.4 in
        let l = quals_to qs m i.2 k.0 K k.1 i.5 in
        (l.0, l.1, (i.0, i.1, k.0, types_to s m G H (colls i.0 i.1) h i.3, k.2, l.2))
    quals_to (q_test c qs) m G H K h i =
        let l = quals_to qs m G H K h i.1 in
        (l.0, l.1, (types_to c m G H bool h i.0, l.2))

    branches_to : {n : ℕ} {funs : Funs} {S : Scope} {bs cs : Branches} → BranchesExpand is_new highers n funs S bs cs → (m : ℕ) (G H : Context) (r : Row) (t : Ground) → Holds is_new S G H
        → OverBranches (types_within m highers known) highers funs known bs G r t → BranchTypes cs also H r t
    branches_to b_none m G H r t h i = tt
    branches_to (b_otherwise c) m G H r t h i = types_to c m G H t h i
    branches_to (b_more {S = S} e p b bs) m G H r t h i =
        let k = takes_to is_new S (NameTypes known G) (NameTypes also H) (names_to S G H h) p i.0 G H i.1 h i.3 in
        (i.0, k.0, rw e i.2, k.2, types_to b m i.1 k.0 t k.1 i.4, branches_to bs m G H r t h i.5)

    steps_to : {n : ℕ} {funs : Funs} {S : Scope} {ss rs : Steps} → StepsExpand is_new highers n funs S ss rs → (m : ℕ) (G H : Context) (s t : Ground) → Holds is_new S G H
        → OverSteps (types_within m highers known) highers funs known ss G s t → StepTypes rs also H s t
    steps_to s_none m G H s t h i = i
    steps_to (s_more a ss) m G H s t h i = (i.0, i.1, types_to a m G H i.0 h i.2, i.3, steps_to ss m G H i.1 t h i.4)

  -- ---- and back

  pub names_back : (S : Scope) (G H : Context) → Holds is_new S G H → (x y : Name) → Becomes is_new S x y → (t : Ground) → NameTypes also H y t → NameTypes known G x t
  names_back S G H h x y b t = (name_alike is_new S x y known also G H alike b h t).1

  mutual
    pub types_back : {n : ℕ} {funs : Funs} {S : Scope} {e x : Exp} → Expands is_new highers n funs S e x → (G H : Context) (t : Ground) → Holds is_new S G H
        → Types x also H t → OverTypes (types_within n highers known) highers funs known e G t
    types_back e_const G H t h i = i
    types_back (e_name {S = S} {x = x} {y = y} b) G H t h i = names_back S G H h x.text y.text b t i
    types_back (e_call {funs = funs} {f = f} n e a es) G H t h i =
        let j = rw e at i in
        rw n (j.0, all_back es G H j.0 h j.1, (call_alike (known (head funs f.text)) (also (head funs f.text)) j.0 t (alike (head funs f.text))).1 j.2)
    types_back (e_unfold {funs = funs} {S = S} d given is g fs p b) G H t h i =
        let r = i.2 in
        let k = takes_back is_new [] (NameTypes known []) (NameTypes also H) (names_back [] [] H (holds_unseen is_new S G H h)) p i.0 [] H i.1 (holds_unseen is_new S G H h) i.3 in
        rw is (given, i.0, k.0, g, (r.0, r.1, r.2, (λ l s. value_fields_same is_new highers fs l ∙ r.3 l s), record_back fs G H r.0 h r.4), k.2, types_back b k.0 i.1 t k.1 i.4)
    types_back (e_rec fs) G H t h i = (i.0, i.1, i.2, (λ l s. value_fields_same is_new highers fs l ∙ i.3 l s), record_back fs G H i.0 h i.4)
    types_back (e_extend fs a) G H t h i =
        (i.0, i.1, i.2, i.3, subst (λ f. IsWithout f i.0 i.1) (sym (everywhere (value_fields_same is_new highers fs))) i.4, record_back fs G H i.0 h i.5, types_back a G H (rec i.1) h i.6)
    types_back (e_inj e a) G H t h i = (i.0, i.1, i.2, i.3, rw e at i.4, types_back a G H i.1 h i.5)
    types_back (e_coll es) G H t h i = (i.0, i.1, i.2, each_back es G H i.0 h i.3)
    types_back (e_comp qs a) G H t h i =
        let k = quals_back qs G H i.1 h i.3 in
        (i.0, k.0, i.2, k.2, types_back a k.0 i.1 i.0 k.1 i.4)
    types_back (e_if a b c) G H t h i = (types_back a G H bool h i.0, types_back b G H t h i.1, types_back c G H t h i.2)
    types_back (e_let {S = S} a p b) G H t h i =
        let k = takes_back is_new S (NameTypes known G) (NameTypes also H) (names_back S G H h) p i.0 G H i.1 h i.3 in
        (i.0, k.0, types_back a G H i.0 h i.2, k.2, types_back b k.0 i.1 t k.1 i.4)
    types_back (e_case a bs) G H t h i = (i.0, types_back a G H (var i.0) h i.1, (λ l s. branches_named is_new highers bs l ∙ i.2 l s), branches_back bs G H i.0 t h i.3)
    types_back (e_path {ls = ls} {ms = ms} e a) G H t h i = (i.0, types_back a G H i.0 h i.1, paths_alike ms ls i.0 t (sym e) i.2)
    types_back (e_not a) G H t h i = (i.0, types_back a G H i.0 h i.1, i.2)
    types_back (e_neg a) G H t h i = (i.0, types_back a G H i.0 h i.1, i.2)
    types_back (e_chain a ss) G H t h i = (i.0, types_back a G H i.0 h i.1, steps_back ss G H i.0 t h i.2)

    all_back : {n : ℕ} {funs : Funs} {S : Scope} {es xs : Exps} → ExpandAll is_new highers n funs S es xs → (G H : Context) (ts : List Ground) → Holds is_new S G H
        → AllTypes xs also H ts → OverAll (types_within n highers known) highers funs known es G ts
    all_back a_none G H ts h i = i
    all_back (a_more e es) G H ts h i = (i.0, i.1, i.2, types_back e G H i.0 h i.3, all_back es G H i.1 h i.4)

    each_back : {n : ℕ} {funs : Funs} {S : Scope} {es xs : Exps} → ExpandAll is_new highers n funs S es xs → (G H : Context) (t : Ground) → Holds is_new S G H
        → EachType xs also H t → OverEach (types_within n highers known) highers funs known es G t
    each_back a_none G H t h i = tt
    each_back (a_more e es) G H t h i = (types_back e G H t h i.0, each_back es G H t h i.1)

    record_back : {n : ℕ} {funs : Funs} {S : Scope} {skips : List (Name × Name)} {fs gs : Flds} → FieldsExpand is_new highers n funs S skips fs gs → (G H : Context) (r : Row) → Holds is_new S G H
        → FieldTypes gs also H r → OverFields (types_within n highers known) highers funs known fs skips G r
    record_back f_none G H r h i = tt
    record_back (f_skip s fs) G H r h i = rw s (record_back fs G H r h i)
    record_back (f_more s e a fs) G H r h i = rw s (i.0, rw e at i.1, types_back a G H i.0 h i.2, record_back fs G H r h i.3)

    quals_back : {n : ℕ} {funs : Funs} {S T : Scope} {qs rs : Quals} → QualsExpand is_new highers n funs S qs rs T → (G H L : Context) → Holds is_new S G H
        → QualTypes rs also H L → (K : Context) × Holds is_new T K L × OverQuals (types_within n highers known) highers funs known qs G K
    quals_back q_none G H L h i = (G, rw i h, refl)
    quals_back (q_draw {S = S} s p qs) G H L h i =
        let k = takes_back is_new S (NameTypes known G) (NameTypes also H) (names_back S G H h) p i.1 G H i.2 h i.4 in
        let l = quals_back qs k.0 i.2 L k.1 i.5 in
        (l.0, l.1, (i.0, i.1, k.0, types_back s G H (colls i.0 i.1) h i.3, k.2, l.2))
    quals_back (q_test c qs) G H L h i =
        let l = quals_back qs G H L h i.1 in
        (l.0, l.1, (types_back c G H bool h i.0, l.2))

    branches_back : {n : ℕ} {funs : Funs} {S : Scope} {bs cs : Branches} → BranchesExpand is_new highers n funs S bs cs → (G H : Context) (r : Row) (t : Ground) → Holds is_new S G H
        → BranchTypes cs also H r t → OverBranches (types_within n highers known) highers funs known bs G r t
    branches_back b_none G H r t h i = tt
    branches_back (b_otherwise c) G H r t h i = types_back c G H t h i
    branches_back (b_more {S = S} e p b bs) G H r t h i =
        let k = takes_back is_new S (NameTypes known G) (NameTypes also H) (names_back S G H h) p i.0 G H i.1 h i.3 in
        (i.0, k.0, rw e at i.2, k.2, types_back b k.0 i.1 t k.1 i.4, branches_back bs G H r t h i.5)

    steps_back : {n : ℕ} {funs : Funs} {S : Scope} {ss rs : Steps} → StepsExpand is_new highers n funs S ss rs → (G H : Context) (s t : Ground) → Holds is_new S G H
        → StepTypes rs also H s t → OverSteps (types_within n highers known) highers funs known ss G s t
    steps_back s_none G H s t h i = i
    steps_back (s_more a ss) G H s t h i = (i.0, i.1, types_back a G H i.0 h i.2, i.3, steps_back ss G H i.1 t h i.4)
