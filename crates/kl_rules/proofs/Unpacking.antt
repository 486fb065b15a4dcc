-- A record that is bound and used by its fields alone, and the same with a position for each field, mean the same.
use Rattle.std.proofs.Common.{◌≡◌, ℕ, zero, suc, ◌+◌, ◌-◌, ◌≤◌, ◌<◌, Bool, true, false, cond, nat_eq, List, [], ◌∷◌, ◌++◌, length, Option, Some, None, slice_get, refl, sym, ap, ap₂, subst, ◌∙◌, arith, ⊎_elim, inl, inr, Less, Equal}
use Rattle.std.specs.List.{AllByRecursion}
use Rattle.std.specs.List.Sorted.{IsStrictlySortedBy}
use Rattle.std.specs.Cmp.Lexicographic.{pointwise, same_text}
use Rattle.std.proofs.lemmas.Bool.{cases_lt, lt-ltb, le-ltb}
use Rattle.std.proofs.lemmas.Cmp.{tied_itself, nat_list_cmp_total, nat_list_eq_equiv}
use Rattle.std.proofs.lemmas.Map.Keys.{sorted_head, sorted_tail}
use Rattle.std.proofs.lemmas.Option.{same_Some}
use mathlib.Core.Path.{fun_ext}
use Rattle.kl_base.specs.Fields.{bytes_cmp, labels_of, field}
use Rattle.kl_value.specs.declared.Value.{Value}
use Rattle.kl_value.specs.declared.Value.TheVariants as value
use Rattle.kl_type.specs.Ground.{Ground, Row, rec as rec_type, no_row, row, at}
use Rattle.kl_outcome.specs.Outcome.{Name, Outcome, done, over, stuck, after, outcome_of, parts_then, recorded, record_layer, field_in, part, tagged, cases, applied, items_of, item_then, drawn, collected, union_of}
use Rattle.kl_core.specs.Trees.{Tree, Var, Const, Source, Rec, Proj, Inj, Case, Make, Union, Ext, If, Let, Prim, Trees, no_trees, trees, Parts, no_parts, parts, Arms, no_arms, rest, arm}
use Rattle.kl_core.specs.Core.{Tables, core, core_all, core_items, core_parts, core_arms}
use Rattle.kl_core.specs.Typing.{SourceTypes, CoreTypes, EachType, AllTypes, PartTypes, ArmTypes, HasArm}
use Rattle.kl_core.proofs.Meanings.{choice_same, get_left, get_right, shift_keeps}
use Rattle.kl_core.proofs.Proper.{types_proper}
use Rattle.kl_core.proofs.TypeLaws.{shift_typed}
use Rattle.kl_rules.specs.Unpacking.{labels_at, turned_onto, bound_round, packed_var, packed, packed_trees, packed_parts, packed_arms}
use Rattle.kl_rules.specs.Rules.{ScalarReplacement}
use Rattle.kl_rules.specs.Preserving.{Preserves}

-- ---- what stands at labels

abbrev rights : {X : Type 0} → List (Name × X) → List X
rights [] = []
rights (p ∷ ps) = p.1 ∷ rights ps

abbrev Got : {X : Type 0} → List (Name × X) → List X → ℕ → Name → Type 0
Got {X} ps post k l = (x : X) × (slice_get ps k ≡ Some (l, x)) × (slice_get (rights ps ++ post) k ≡ Some x)

got : {X : Type 0} (ps : List (Name × X)) (post : List X) (k : ℕ) (l : Name) → slice_get (labels_of ps) k ≡ Some l → Got ps post k l
got [] post k l e = absurd cc
got (p ∷ ps) post zero l e = (p.1, ap (λ m. Some (m, p.1)) (same_Some p.0 l e), refl)
got (p ∷ ps) post (suc k) l e = got ps post k l e

past : {X : Type 0} (ps : List (Name × X)) (post : List X) (k : ℕ) → slice_get (labels_of ps) k ≡ None → (m : ℕ) × (k ≡ length (labels_of ps) + m) × (slice_get (rights ps ++ post) k ≡ slice_get post m)
past [] post k e = (k, omega arith, refl)
past (p ∷ ps) post zero e = absurd cc
past (p ∷ ps) post (suc k) e = let h = past ps post k e in (h.0, omega (arith, h.1), h.2)

-- ---- a term with the record, and with its fields

-- the pairs, as positions see them, are found by label in the record
abbrev FoundBy : {X : Type 0} → List (Name × X) → (Name → Option X) → Type 0
FoundBy {X} ps find = (k : ℕ) (l : Name) (x : X) → slice_get ps k ≡ Some (l, x) → find l ≡ Some x

module _ (T : Tables) (fs gs : List (Name × Value)) (post : List Value) (held : FoundBy gs (λ l. field l fs)) where
  var_means : (pre : List Value) (x n : ℕ) → n ≡ length pre → core T (packed (labels_of gs) n (Var x)) (pre ++ value.Rec fs ∷ post) ≡ outcome_of (slice_get (pre ++ (rights gs ++ post)) x)
  var_means pre x n e = ⊎_elim low high (cases_lt x n)
    where
      low : x < n → core T (packed (labels_of gs) n (Var x)) (pre ++ value.Rec fs ∷ post) ≡ outcome_of (slice_get (pre ++ (rights gs ++ post)) x)
      low h = rw (lt-ltb x n h) (ap outcome_of (get_left pre (value.Rec fs ∷ post) (rights gs ++ post) x (omega (arith, h, e))))

      by_label : n ≤ x → (o : Option Name) → slice_get (labels_of gs) (x - n) ≡ o → core T (packed_var (labels_of gs) n x o) (pre ++ value.Rec fs ∷ post) ≡ outcome_of (slice_get (pre ++ (rights gs ++ post)) x)
      by_label h (Some l) i =
          let g = got gs post (x - n) l i in
          ap (λ o. part l (outcome_of o)) (get_right pre (value.Rec fs ∷ post) n 0 (omega (arith, e)))
          ∙ ap (λ y. field_in l (record_layer y)) (value.outs-Rec fs)
          ∙ ap outcome_of (held (x - n) l g.0 g.1)
          ∙ sym (ap outcome_of (get_right pre (rights gs ++ post) x (x - n) (omega (arith, e, h)) ∙ g.2))
      by_label h None i =
          let g = past gs post (x - n) i in
          ap outcome_of (get_right pre (value.Rec fs ∷ post) (x + 1 - length (labels_of gs)) (suc g.0) (omega (arith, e, h, g.1)))
          ∙ sym (ap outcome_of (get_right pre (rights gs ++ post) x (x - n) (omega (arith, e, h)) ∙ g.2))

      high : n ≤ x → core T (packed (labels_of gs) n (Var x)) (pre ++ value.Rec fs ∷ post) ≡ outcome_of (slice_get (pre ++ (rights gs ++ post)) x)
      high h = rw (le-ltb x n h) (by_label h (slice_get (labels_of gs) (x - n)) refl)

  mutual
    pub packed_means : (t : Tree) (pre : List Value) (n : ℕ) → n ≡ length pre → core T (packed (labels_of gs) n t) (pre ++ value.Rec fs ∷ post) ≡ core T t (pre ++ (rights gs ++ post))
    packed_means (Var x) pre n e = var_means pre x n e
    packed_means (Const v) pre n e = refl
    packed_means (Source i) pre n e = refl
    packed_means (Rec ps) pre n e = ap recorded (packed_parts_mean ps pre n e)
    packed_means (Proj l a) pre n e = ap (part l) (packed_means a pre n e)
    packed_means (Inj l a) pre n e = ap (tagged l) (packed_means a pre n e)
    packed_means (Case a bs) pre n e = ap₂ cases (packed_means a pre n e) (fun_ext λ l. fun_ext λ v. packed_arms_mean bs l v pre n e)
    packed_means (Make k ts) pre n e = ap (collected k) (packed_items_mean ts pre n e)
    packed_means (Union a b) pre n e = ap₂ union_of (packed_means a pre n e) (packed_means b pre n e)
    packed_means (Ext k b s) pre n e = ap₂ (λ o go. collected k (drawn (items_of o) go)) (packed_means s pre n e) (fun_ext λ v. ap items_of (packed_means b (v ∷ pre) (n + 1) (omega (arith, e))))
    packed_means (If a b c) pre n e = choice_same _ _ _ _ _ _ (packed_means a pre n e) (packed_means b pre n e) (packed_means c pre n e)
    packed_means (Let a b) pre n e = ap₂ after (packed_means a pre n e) (fun_ext λ v. packed_means b (v ∷ pre) (n + 1) (omega (arith, e)))
    packed_means (Prim c ts) pre n e = ap (applied c) (packed_all_mean ts pre n e)

    packed_all_mean : (ts : Trees) (pre : List Value) (n : ℕ) → n ≡ length pre → core_all T (packed_trees (labels_of gs) n ts) (pre ++ value.Rec fs ∷ post) ≡ core_all T ts (pre ++ (rights gs ++ post))
    packed_all_mean no_trees pre n e = refl
    packed_all_mean (trees t ts) pre n e = ap₂ (λ o os. o ∷ os) (packed_means t pre n e) (packed_all_mean ts pre n e)

    packed_items_mean : (ts : Trees) (pre : List Value) (n : ℕ) → n ≡ length pre → core_items T (packed_trees (labels_of gs) n ts) (pre ++ value.Rec fs ∷ post) ≡ core_items T ts (pre ++ (rights gs ++ post))
    packed_items_mean no_trees pre n e = refl
    packed_items_mean (trees t ts) pre n e = ap₂ item_then (packed_means t pre n e) (packed_items_mean ts pre n e)

    packed_parts_mean : (ps : Parts) (pre : List Value) (n : ℕ) → n ≡ length pre → core_parts T (packed_parts (labels_of gs) n ps) (pre ++ value.Rec fs ∷ post) ≡ core_parts T ps (pre ++ (rights gs ++ post))
    packed_parts_mean no_parts pre n e = refl
    packed_parts_mean (parts l t ps) pre n e = ap₂ (λ o os. (l, o) ∷ os) (packed_means t pre n e) (packed_parts_mean ps pre n e)

    packed_arms_mean : (bs : Arms) (l : Name) (v : Value) (pre : List Value) (n : ℕ) → n ≡ length pre → core_arms T (packed_arms (labels_of gs) n bs) l v (pre ++ value.Rec fs ∷ post) ≡ core_arms T bs l v (pre ++ (rights gs ++ post))
    packed_arms_mean no_arms l v pre n e = refl
    packed_arms_mean (rest c) l v pre n e = packed_means c pre n e
    packed_arms_mean (arm k b bs) l v pre n e = ap₂ (λ o q. cond (pointwise nat_eq l k) o q) (packed_means b (v ∷ pre) (n + 1) (omega (arith, e))) (packed_arms_mean bs l v pre n e)

arm_out : (l : Name) (ls : List Name) (bs : Arms) (n : ℕ) → HasArm l (packed_arms ls n bs) → HasArm l bs
arm_out l ls no_arms n h = h
arm_out l ls (rest c) n h = tt
arm_out l ls (arm k b bs) n (inl e) = inl e
arm_out l ls (arm k b bs) n (inr h) = inr (arm_out l ls bs n h)

module _ (S : SourceTypes) (w : Row) (gs : List (Name × Ground)) (post : List Ground) (held : FoundBy gs (λ l. at l w)) where
  var_typed : (pre : List Ground) (x n : ℕ) (s : Ground) → n ≡ length pre → CoreTypes S (pre ++ rec_type w ∷ post) (packed (labels_of gs) n (Var x)) s → slice_get (pre ++ (rights gs ++ post)) x ≡ Some s
  var_typed pre x n s e = ⊎_elim low high (cases_lt x n)
    where
      low : x < n → CoreTypes S (pre ++ rec_type w ∷ post) (packed (labels_of gs) n (Var x)) s → slice_get (pre ++ (rights gs ++ post)) x ≡ Some s
      low h i = get_left pre (rights gs ++ post) (rec_type w ∷ post) x (omega (arith, h, e)) ∙ (rw (lt-ltb x n h) at i).0

      by_label : n ≤ x → (o : Option Name) → slice_get (labels_of gs) (x - n) ≡ o → CoreTypes S (pre ++ rec_type w ∷ post) (packed_var (labels_of gs) n x o) s → slice_get (pre ++ (rights gs ++ post)) x ≡ Some s
      by_label h (Some l) i j =
          let g = got gs post (x - n) l i in
          let is : Some (rec_type w) ≡ Some (rec_type j.0) = sym (get_right pre (rec_type w ∷ post) n 0 (omega (arith, e))) ∙ j.1.0 in
          let same : w ≡ j.0 = cc in
          get_right pre (rights gs ++ post) x (x - n) (omega (arith, e, h)) ∙ g.2 ∙ sym (held (x - n) l g.0 g.1) ∙ ap (at l) same ∙ j.2
      by_label h None i j =
          let g = past gs post (x - n) i in
          get_right pre (rights gs ++ post) x (x - n) (omega (arith, e, h)) ∙ g.2
          ∙ sym (get_right pre (rec_type w ∷ post) (x + 1 - length (labels_of gs)) (suc g.0) (omega (arith, e, h, g.1))) ∙ j.0

      high : n ≤ x → CoreTypes S (pre ++ rec_type w ∷ post) (packed (labels_of gs) n (Var x)) s → slice_get (pre ++ (rights gs ++ post)) x ≡ Some s
      high h i = by_label h (slice_get (labels_of gs) (x - n)) refl (rw (le-ltb x n h) at i)

  mutual
    pub packed_typed : (t : Tree) (pre : List Ground) (s : Ground) (n : ℕ) → n ≡ length pre → CoreTypes S (pre ++ rec_type w ∷ post) (packed (labels_of gs) n t) s → CoreTypes S (pre ++ (rights gs ++ post)) t s
    packed_typed (Var x) pre s n e h = (var_typed pre x n s e h, types_proper S (packed (labels_of gs) n (Var x)) (pre ++ rec_type w ∷ post) s h)
    packed_typed (Const v) pre s n e h = h
    packed_typed (Source i) pre s n e h = h
    packed_typed (Rec ps) pre s n e h = (h.0, h.1, h.2, packed_parts_typed ps pre h.0 n e h.3)
    packed_typed (Proj l a) pre s n e h = (h.0, packed_typed a pre _ n e h.1, h.2)
    packed_typed (Inj l a) pre s n e h = (h.0, h.1, h.2, h.3, h.4, packed_typed a pre h.1 n e h.5)
    packed_typed (Case a bs) pre s n e h = (h.0, packed_typed a pre _ n e h.1, λ l i. arm_out l (labels_of gs) bs n (h.2 l i), packed_arms_typed bs pre h.0 s n e h.3)
    packed_typed (Make k ts) pre s n e h = (h.0, h.1, h.2, packed_each_typed ts pre h.0 n e h.3)
    packed_typed (Union a b) pre s n e h = (h.0, h.1, h.2, packed_typed a pre s n e h.3, packed_typed b pre s n e h.4)
    packed_typed (Ext k b a) pre s n e h = (h.0, h.1, h.2, h.3, packed_typed a pre _ n e h.4, packed_typed b (h.2 ∷ pre) s (n + 1) (omega (arith, e)) h.5)
    packed_typed (If a b c) pre s n e h = (packed_typed a pre _ n e h.0, packed_typed b pre s n e h.1, packed_typed c pre s n e h.2)
    packed_typed (Let a b) pre s n e h = (h.0, packed_typed a pre h.0 n e h.1, packed_typed b (h.0 ∷ pre) s (n + 1) (omega (arith, e)) h.2)
    packed_typed (Prim c ts) pre s n e h = (h.0, packed_all_typed ts pre h.0 n e h.1, h.2)

    packed_each_typed : (ts : Trees) (pre : List Ground) (s : Ground) (n : ℕ) → n ≡ length pre → EachType S (pre ++ rec_type w ∷ post) (packed_trees (labels_of gs) n ts) s → EachType S (pre ++ (rights gs ++ post)) ts s
    packed_each_typed no_trees pre s n e h = tt
    packed_each_typed (trees t ts) pre s n e h = (packed_typed t pre s n e h.0, packed_each_typed ts pre s n e h.1)

    packed_all_typed : (ts : Trees) (pre ss : List Ground) (n : ℕ) → n ≡ length pre → AllTypes S (pre ++ rec_type w ∷ post) (packed_trees (labels_of gs) n ts) ss → AllTypes S (pre ++ (rights gs ++ post)) ts ss
    packed_all_typed no_trees pre ss n e h = h
    packed_all_typed (trees t ts) pre ss n e h = (h.0, h.1, h.2, packed_typed t pre h.0 n e h.3, packed_all_typed ts pre h.1 n e h.4)

    packed_parts_typed : (ps : Parts) (pre : List Ground) (r : Row) (n : ℕ) → n ≡ length pre → PartTypes S (pre ++ rec_type w ∷ post) (packed_parts (labels_of gs) n ps) r → PartTypes S (pre ++ (rights gs ++ post)) ps r
    packed_parts_typed no_parts pre r n e h = h
    packed_parts_typed (parts l t ps) pre r n e h = (h.0, h.1, h.2, packed_typed t pre h.0 n e h.3, packed_parts_typed ps pre h.1 n e h.4)

    packed_arms_typed : (bs : Arms) (pre : List Ground) (r : Row) (s : Ground) (n : ℕ) → n ≡ length pre → ArmTypes S (pre ++ rec_type w ∷ post) (packed_arms (labels_of gs) n bs) r s → ArmTypes S (pre ++ (rights gs ++ post)) bs r s
    packed_arms_typed no_arms pre r s n e h = tt
    packed_arms_typed (rest c) pre r s n e h = packed_typed c pre s n e h
    packed_arms_typed (arm l b bs) pre r s n e h = (h.0, h.1, packed_typed b (h.0 ∷ pre) s (n + 1) (omega (arith, e)) h.2, packed_arms_typed bs pre r s n e h.3)

-- ---- pairs whose labels rise, the last first

label_itself : (l : Name) → pointwise nat_eq l l ≡ true
label_itself l = nat_list_eq_equiv.refl l

pub apart : (l m : Name) → bytes_cmp m l ≡ Less → pointwise nat_eq l m ≡ false
apart l m less = by_bit (pointwise nat_eq l m) refl
  where
    by_bit : (b : Bool) → pointwise nat_eq l m ≡ b → pointwise nat_eq l m ≡ false
    by_bit true i =
        let same : bytes_cmp m m ≡ Less = subst (λ x. bytes_cmp m x ≡ Less) (same_text l m (sym i)) less in
        let equal : bytes_cmp m m ≡ Equal = tied_itself nat_list_cmp_total m in
        absurd (let d : Less ≡ Equal = sym same ∙ equal in cc)
    by_bit false i = i

label_after : {X : Type 0} (m : Name) (ps : List (Name × X)) → AllByRecursion (λ l. bytes_cmp m l ≡ Less) (labels_of ps) → (k : ℕ) (l : Name) (x : X) → slice_get ps k ≡ Some (l, x) → bytes_cmp m l ≡ Less
label_after m [] all k l x e = absurd cc
label_after m (p ∷ ps) all zero l x e = subst (λ y. bytes_cmp m y ≡ Less) (ap (λ q. q.0) (same_Some p (l, x) e)) all.0
label_after m (p ∷ ps) all (suc k) l x e = label_after m ps all.1 k l x e

-- a list turned onto another one holds what the two do
turned_held : {X : Type 0} (ps qs : List (Name × X)) (find : Name → Option X) → FoundBy ps find → FoundBy qs find → FoundBy (turned_onto ps qs) find
turned_held [] qs find h g = g
turned_held {X} (p ∷ ps) qs find h g = turned_held ps (p ∷ qs) find (λ k l x e. h (suc k) l x e) front
  where
    front : FoundBy (p ∷ qs) find
    front zero l x e = h 0 l x e
    front (suc k) l x e = g k l x e

fields_held : (fs : List (Name × Value)) → IsStrictlySortedBy bytes_cmp (labels_of fs) → FoundBy fs (λ l. field l fs)
fields_held [] up k l x e = absurd cc
fields_held (f ∷ fs) up zero l x e =
    let same : f ≡ (l, x) = same_Some f (l, x) e in
    let label : l ≡ f.0 = sym (ap (λ q. q.0) same) in
    rw (subst (λ m. pointwise nat_eq l m ≡ true) label (label_itself l)) (ap (λ q. Some q.1) same)
fields_held (f ∷ fs) up (suc k) l x e =
    rw (apart l f.0 (label_after f.0 fs (sorted_head bytes_cmp f.0 (labels_of fs) up) k l x e)) (fields_held fs (sorted_tail bytes_cmp f.0 (labels_of fs) up) k l x e)

-- the fields of a row, as pairs
abbrev types_in : Row → List (Name × Ground)
types_in no_row = []
types_in (row l t r) = (l, t) ∷ types_in r

row_held : (r : Row) → IsStrictlySortedBy bytes_cmp (labels_of (types_in r)) → FoundBy (types_in r) (λ l. at l r)
row_held no_row up k l x e = absurd cc
row_held (row m t r) up zero l x e =
    let p : Name × Ground = (m, t) in
    let same : p ≡ (l, x) = same_Some p (l, x) e in
    let label : l ≡ m = sym (ap (λ q. q.0) same) in
    rw (subst (λ n. pointwise nat_eq l n ≡ true) label (label_itself l)) (ap (λ q. Some q.1) same)
row_held (row m t r) up (suc k) l x e =
    rw (apart l m (label_after m (types_in r) (sorted_head bytes_cmp m (labels_of (types_in r)) up) k l x e)) (row_held r (sorted_tail bytes_cmp m (labels_of (types_in r)) up) k l x e)

labels_turned : {X : Type 0} (ps qs : List (Name × X)) → labels_of (turned_onto ps qs) ≡ turned_onto (labels_of ps) (labels_of qs)
labels_turned [] qs = refl
labels_turned (p ∷ ps) qs = labels_turned ps (p ∷ qs)

rights_turned : {X : Type 0} (ps qs : List (Name × X)) (post : List X) → turned_onto (rights ps) (rights qs ++ post) ≡ rights (turned_onto ps qs) ++ post
rights_turned [] qs post = refl
rights_turned (p ∷ ps) qs post = rights_turned ps (p ∷ qs) post

-- ---- the fields bound one after the other

parts_same : (os : List (Name × Outcome)) (go to : List (Name × Value) → Outcome) → ((fs : List (Name × Value)) → labels_of fs ≡ labels_of os → go fs ≡ to fs) → parts_then os go ≡ parts_then os to
parts_same [] go to h = h [] refl
parts_same (o ∷ os) go to h = ap (after o.1) (fun_ext λ v. parts_same os _ _ (λ fs e. h ((o.0, v) ∷ fs) (ap (λ ls. o.0 ∷ ls) e)))

after_parts : (os : List (Name × Outcome)) (go : List (Name × Value) → Outcome) (to : Value → Outcome) → after (parts_then os go) to ≡ parts_then os (λ fs. after (go fs) to)
after_parts [] go to = refl
after_parts (o ∷ os) go to = by_outcome o.1 (λ v. after_parts os (λ fs. go ((o.0, v) ∷ fs)) to)
  where
    by_outcome : (x : Outcome) → ((v : Value) → after (parts_then os (λ fs. go ((o.0, v) ∷ fs))) to ≡ parts_then os (λ fs. after (go ((o.0, v) ∷ fs)) to)) → after (after x (λ v. parts_then os (λ fs. go ((o.0, v) ∷ fs)))) to ≡ after x (λ v. parts_then os (λ fs. after (go ((o.0, v) ∷ fs)) to))
    by_outcome (done v) next = next v
    by_outcome (over vs) next = refl
    by_outcome stuck next = refl

core_labels : (T : Tables) (ps : Parts) (env : List Value) → labels_of (core_parts T ps env) ≡ labels_at ps
core_labels T no_parts env = refl
core_labels T (parts l t ps) env = ap (λ ls. l ∷ ls) (core_labels T ps env)

bound_means : (T : Tables) (env : List Value) (a : Tree) (ps : Parts) (ws : List Value) (n : ℕ) → n ≡ length ws
    → core T (bound_round ps n a) (ws ++ env) ≡ parts_then (core_parts T ps env) (λ fs. core T a (turned_onto (rights fs) (ws ++ env)))
bound_means T env a no_parts ws n e = refl
bound_means T env a (parts l t ps) ws n e =
    ap₂ after (shift_keeps T t [] ws env 0 n refl e) (fun_ext λ v. bound_means T env a ps (v ∷ ws) (n + 1) (omega (arith, e)))

bound_typed : (S : SourceTypes) (G : List Ground) (a : Tree) (s : Ground) (ps : Parts) (r : Row) (ts : List Ground) (n : ℕ) → n ≡ length ts → PartTypes S G ps r
    → CoreTypes S (turned_onto (rights (types_in r)) (ts ++ G)) a s → CoreTypes S (ts ++ G) (bound_round ps n a) s
bound_typed S G a s no_parts r ts n e h k = subst (λ q. CoreTypes S (turned_onto (rights (types_in q)) (ts ++ G)) a s) h k
bound_typed S G a s (parts l t ps) r ts n e h k = (
  h.0,
  shift_typed S t [] ts G h.0 0 n refl e h.3,
  bound_typed S G a s ps h.1 (h.0 ∷ ts) (n + 1) (omega (arith, e)) h.4 (subst (λ q. CoreTypes S (turned_onto (rights (types_in q)) (ts ++ G)) a s) h.2 k),
)

row_labels : (S : SourceTypes) (G : List Ground) (ps : Parts) (r : Row) → PartTypes S G ps r → labels_of (types_in r) ≡ labels_at ps
row_labels S G no_parts r h = ap (λ q. labels_of (types_in q)) h
row_labels S G (parts l t ps) r h = ap (λ q. labels_of (types_in q)) h.2 ∙ ap (λ ls. l ∷ ls) (row_labels S G ps h.1 h.4)

unpack : (a : Tree) (ps : Parts) → IsStrictlySortedBy bytes_cmp (labels_at ps) → Preserves (Let (Rec ps) (packed (turned_onto (labels_at ps) []) 0 a)) (bound_round ps 0 a)
unpack a ps up = record {
  typed = λ S G r h. typed S G r h;
  means = λ S T G env r told e h. means T env;
}
  where
    typed : (S : SourceTypes) (G : List Ground) (r : Ground) → CoreTypes S G (Let (Rec ps) (packed (turned_onto (labels_at ps) []) 0 a)) r → CoreTypes S G (bound_round ps 0 a) r
    typed S G r h =
        let w : Row = h.1.0 in
        let gs : List (Name × Ground) = turned_onto (types_in w) [] in
        let labels : labels_of gs ≡ turned_onto (labels_at ps) [] = labels_turned (types_in w) [] ∙ ap (λ ls. turned_onto ls []) (row_labels S G ps w h.1.3) in
        let rising = subst (IsStrictlySortedBy bytes_cmp) (sym (row_labels S G ps w h.1.3)) up in
        let held : FoundBy gs (λ l. at l w) = turned_held (types_in w) [] (λ l. at l w) (row_held w rising) (λ k l x f. absurd cc) in
        let body = subst (λ q. CoreTypes S (q ∷ G) (packed (turned_onto (labels_at ps) []) 0 a) r) h.1.1 h.2 in
        let open_body = packed_typed S w gs G held a [] r 0 refl (subst (λ ls. CoreTypes S (rec_type w ∷ G) (packed ls 0 a) r) (sym labels) body) in
        bound_typed S G a r ps w [] 0 refl h.1.3 (subst (λ env. CoreTypes S env a r) (sym (rights_turned (types_in w) [] G)) open_body)

    means : (T : Tables) (env : List Value) → core T (bound_round ps 0 a) env ≡ core T (Let (Rec ps) (packed (turned_onto (labels_at ps) []) 0 a)) env
    means T env =
        bound_means T env a ps [] 0 refl
        ∙ parts_same (core_parts T ps env) _ _ (λ fs e. (
        let labels : labels_of fs ≡ labels_at ps = e ∙ core_labels T ps env in
        let gs : List (Name × Value) = turned_onto fs [] in
        let held : FoundBy gs (λ l. field l fs) = turned_held fs [] (λ l. field l fs) (fields_held fs (subst (IsStrictlySortedBy bytes_cmp) (sym labels) up)) (λ k l x f. absurd cc) in
        ap (core T a) (rights_turned fs [] env)
        ∙ sym (packed_means T fs gs env held a [] 0 refl)
        ∙ ap (λ ls. core T (packed ls 0 a) (value.Rec fs ∷ env)) (labels_turned fs [] ∙ ap (λ ls. turned_onto ls []) labels)))
        ∙ sym (after_parts (core_parts T ps env) (λ fs. done (value.Rec fs)) (λ v. core T (packed (turned_onto (labels_at ps) []) 0 a) (v ∷ env)))

pub unpacks_keep : (t u : Tree) → ScalarReplacement t u → Preserves t u
unpacks_keep t u h = subst (λ x. Preserves x u) (sym h.2) (subst (λ y. Preserves (Let (Rec h.1) (packed (turned_onto (labels_at h.1) []) 0 h.0)) y) (sym h.3) (unpack h.0 h.1 h.4))
