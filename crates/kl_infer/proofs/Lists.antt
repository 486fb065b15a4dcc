-- What forms with many parts ask: calls, records, branches, and lists one part after another.
use Rattle.std.proofs.Common.{◌≡◌, ℕ, suc, Bool, true, false, ◌||◌, IsTrue, List, [], ◌∷◌, length, map, cond, Option, Some, None, is_some, IsSome, Result, Ok, Err, refl, sym, ap, ◌∙◌, subst, rules}
use Rattle.std.specs.Prelude.{⊤}
use Rattle.std.specs.List.{AllByRecursion}
use Rattle.kl_base.specs.Fields.{field}
use Rattle.kl_type.specs.Ground.{Ground, Row, rec, var, at, IsGround, IsRow}
use Rattle.kl_rows.specs.Lists.{Fields}
use Rattle.kl_rows.specs.Solutions.{Assignment}
use Rattle.kl_rows.proofs.Advancing.{Fact}
use Rattle.kl_outcome.specs.Outcome.{Name}
use Rattle.kl_prim.specs.Records.{is_label_of}
use Rattle.kl_outcome.specs.Typed.{IsWithout}
use Rattle.kl_forms.specs.Forms.{HasNoOthers, IsRecord, IsVariant, RestOf}
use Rattle.kl_syntax.specs.declared.tree.Word.{Word}
use Rattle.kl_syntax.specs.Syntax.{Pat, Exp, Call, Rec, More, Case, Exps, no_exps, exps, Branches, no_branches, otherwise, branch}
use Rattle.kl_syntax.specs.View.{exps_of, flds_of}
use Rattle.kl_meaning.specs.Match.{same_name}
use Rattle.kl_meaning.specs.Typing.{Sort, Context, CallTypes, Types, AllTypes, FieldTypes, BranchTypes, has_branch, has_field}
use Rattle.kl_infer.specs.Asking.{Leaves, Asks, Refuses, Asked, Gets, Found, GetsMany, context}
use Rattle.kl_infer.specs.Names.{Ready, sorts, ArmsTake, labelled}
use Rattle.kl_infer.specs.declared.refusal.Refusal.{Refusal}
use Rattle.kl_infer.specs.declared.scope.Known.{Known}
use Rattle.kl_rows.specs.declared.cell.Cell.{Cell}
use Rattle.kl_outcome.proofs.Grounds.{at_ground}
use Rattle.kl_outcome.proofs.RowFields.{without_by}
use Rattle.kl_infer.proofs.Leaving.{Leads, restated, leads_on, in_words, refuses_more, beside, opens, opens_none, opens_many, goes_on, ready_on, ready_for, ready_new, ready_many, said}
use Rattle.kl_infer.proofs.Forms.{T, first, second, ground_of_type, ground_of_all, ready_after}

-- ---- labels with types

-- the row has these types at these labels
abbrev pub AtEach : Row → List Name → List Ground → Type 0
AtEach r [] [] = ⊤
AtEach r (l ∷ ls) (t ∷ ts) = (at l r ≡ Some t) × AtEach r ls ts
AtEach r _ _ = ⊥

pub each_ground : (r : Row) (ls : List Name) (ts : List Ground) → IsRow r → AtEach r ls ts → AllByRecursion IsGround ts
each_ground r [] [] g h = tt
each_ground r (l ∷ ls) (t ∷ ts) g h = (at_ground l r t g h.0, each_ground r ls ts g h.1)
each_ground r [] (t ∷ ts) g h = absurd h
each_ground r (l ∷ ls) [] g h = absurd h

pub each_length : (r : Row) (ls : List Name) (ts : List Ground) → AtEach r ls ts → length ts ≡ length ls
each_length r [] [] h = refl
each_length r (l ∷ ls) (t ∷ ts) h = ap suc (each_length r ls ts h.1)
each_length r [] (t ∷ ts) h = absurd h
each_length r (l ∷ ls) [] h = absurd h

fields_at : (r : Row) (ls : List Name) (is : List ℕ) (s : Assignment) → length is ≡ length ls → AtEach r ls (map s.types is) → AllByRecursion (λ f. at f.0 r ≡ Some (s.types f.1)) (labelled ls is)
fields_at r [] [] s e h = tt
fields_at r (l ∷ ls) (i ∷ is) s e h = (h.0, fields_at r ls is s (let d : length is ≡ length ls = cc in d) h.1)
fields_at r [] (i ∷ is) s e h = tt
fields_at r (l ∷ ls) [] s e h = tt

at_fields : (r : Row) (ls : List Name) (is : List ℕ) (s : Assignment) → length is ≡ length ls → AllByRecursion (λ f. at f.0 r ≡ Some (s.types f.1)) (labelled ls is) → AtEach r ls (map s.types is)
at_fields r [] [] s e h = tt
at_fields r (l ∷ ls) (i ∷ is) s e h = (h.0, at_fields r ls is s (let d : length is ≡ length ls = cc in d) h.1)
at_fields r [] (i ∷ is) s e h = let d : ⊥ = cc in absurd d
at_fields r (l ∷ ls) [] s e h = let d : ⊥ = cc in absurd d

abbrev pub has_name : List Name → Name → Bool
has_name [] l = false
has_name (m ∷ ls) l = same_name l m || has_name ls l

some_or : (b : Bool) (n : ℕ) (o : Option ℕ) (c : Bool) → (IsSome o → IsTrue c) → IsSome (cond b (Some n) o) → IsTrue (b || c)
some_or true n o c f h = refl
some_or false n o c f h = f h

or_some : (b : Bool) (n : ℕ) (o : Option ℕ) (c : Bool) → (IsTrue c → IsSome o) → IsTrue (b || c) → IsSome (cond b (Some n) o)
or_some true n o c f h = search rules
or_some false n o c f h = f h

not_some : (o : Option ℕ) → IsSome o → o ≡ None → ⊥
not_some (Some n) h e = let d : ⊥ = cc in d
not_some None h e = let d : ⊥ = cc in d

named_there : (l : Name) (ls : List Name) (is : List ℕ) → IsSome (field l (labelled ls is)) → IsTrue (has_name ls l)
named_there l [] is h = absurd (not_some None h refl)
named_there l (m ∷ ls) [] h = absurd (not_some None h refl)
named_there l (m ∷ ls) (i ∷ is) h = some_or (same_name l m) i (field l (labelled ls is)) (has_name ls l) (named_there l ls is) h

there_named : (l : Name) (ls : List Name) (is : List ℕ) → length is ≡ length ls → IsTrue (has_name ls l) → IsSome (field l (labelled ls is))
there_named l [] is e h = let d : ⊥ = cc in absurd d
there_named l (m ∷ ls) [] e h = let d : ⊥ = cc in absurd d
there_named l (m ∷ ls) (i ∷ is) e h = or_some (same_name l m) i (field l (labelled ls is)) (has_name ls l) (there_named l ls is (let d : length is ≡ length ls = cc in d)) h

-- each label of the row is one of these, unless it is open
abbrev pub Within : Bool → List Name → Row → Type 0
Within true ls r = ⊤
Within false ls r = (l : Name) → IsSome (at l r) → IsTrue (has_name ls l)

within_named : (open_end : Bool) (ls : List Name) (is : List ℕ) (r : Row) → HasNoOthers open_end (labelled ls is) r → Within open_end ls r
within_named true ls is r h = tt
within_named false ls is r h = λ l k. named_there l ls is (h l k)

named_within : (open_end : Bool) (ls : List Name) (is : List ℕ) (r : Row) → length is ≡ length ls → Within open_end ls r → HasNoOthers open_end (labelled ls is) r
named_within true ls is r e h = tt
named_within false ls is r e h = λ l k. there_named l ls is e (h l k)

-- a record, and a variant, by its labels and types
abbrev pub RecordAt : Bool → List Name → Ground → List Ground → Type 0
RecordAt o ls t ts = (r : Row) × (t ≡ rec r) × AtEach r ls ts × Within o ls r

abbrev VariantAt : Bool → List Name → Ground → List Ground → Type 0
VariantAt o ls t ts = (r : Row) × (t ≡ var r) × AtEach r ls ts × Within o ls r

module _ (r : Result (Unit {0}) Refusal) (a b : List Cell) (o : Bool) (ls : List Name) (is : List ℕ) (w : ℕ) (e : length is ≡ length ls) where
  pub record_at : Asked r a b (IsRecord o (labelled ls is) w) → Asked r a b (λ s. RecordAt o ls (s.types w) (map s.types is))
  record_at f = in_words r a b (IsRecord o (labelled ls is) w) (λ s. RecordAt o ls (s.types w) (map s.types is))
      (λ s h. (h.0, h.1, (fields_at h.0 ls is s e h.2, named_within o ls is h.0 e h.3)))
      (λ s h. (h.0, h.1, at_fields h.0 ls is s e h.2.0, within_named o ls is h.0 h.2.1)) f

  variant_at : Asked r a b (IsVariant o (labelled ls is) w) → Asked r a b (λ s. VariantAt o ls (s.types w) (map s.types is))
  variant_at f = in_words r a b (IsVariant o (labelled ls is) w) (λ s. VariantAt o ls (s.types w) (map s.types is))
      (λ s h. (h.0, h.1, (fields_at h.0 ls is s e h.2, named_within o ls is h.0 e h.3)))
      (λ s h. (h.0, h.1, at_fields h.0 ls is s e h.2.0, within_named o ls is h.0 h.2.1)) f

-- ---- the record of the other fields

label_named : (ls : List Name) (is : List ℕ) → length is ≡ length ls → (l : Name) → is_label_of (labelled ls is) l ≡ has_name ls l
label_named [] is e l = refl
label_named (m ∷ ls) [] e l = let d : ⊥ = cc in absurd d
label_named (m ∷ ls) (i ∷ is) e l = by (same_name l m) (field l (labelled ls is)) (has_name ls l) (label_named ls is (let d : length is ≡ length ls = cc in d) l)
  where
    by : (b : Bool) (o : Option ℕ) (c : Bool) → is_some o ≡ c → is_some (cond b (Some i) o) ≡ (b || c)
    by true o c h = refl
    by false o c h = h

-- a record by its labels and types, and the record of its other fields
abbrev pub RestAt : List Name → Ground → List Ground → Ground → Type 0
RestAt ls t ts u = (r : Row) × (q : Row) × (t ≡ rec r) × (u ≡ rec q) × AtEach r ls ts × IsWithout (has_name ls) r q

found_in_words : (r : Result ℕ Refusal) (a b : List Cell) (E F : Ground → Fact) → ((t : Ground) (s : Assignment) → F t s → E t s) → ((t : Ground) (s : Assignment) → E t s → F t s) → Found r a b E → Found r a b F
found_in_words (Ok i) a b E F go come f = record {
  fine = f.fine;
  keeps = f.keeps;
  sort = f.sort;
  down = λ s t h g d. f.down s t h g (go t s d);
  up = λ s h. let z = f.up s h in (z.0, come (s.types i) s z.1);
}
found_in_words (Err e) a b E F go come f = refuses_more a _ (λ s. (t : Ground) × IsGround t × E t s) e (λ s d. (d.0, d.1, go d.0 s d.2)) f

pub rest_at : (r : Result ℕ Refusal) (a b : List Cell) (ls : List Name) (is : List ℕ) (w : ℕ) → length is ≡ length ls → Found r a b (RestOf (labelled ls is) w) → Found r a b (λ u s. RestAt ls (s.types w) (map s.types is) u)
rest_at r a b ls is w e f = found_in_words r a b (RestOf (labelled ls is) w) (λ u s. RestAt ls (s.types w) (map s.types is) u)
    (λ u s d. (d.0, d.1, d.2, d.3, (fields_at d.0 ls is s e d.4, tt), without_by (has_name ls) (is_label_of (labelled ls is)) d.0 d.1 (λ l. sym (label_named ls is e l)) d.5))
    (λ u s d. (d.0, d.1, d.2, d.3, at_fields d.0 ls is s e d.4.0, without_by (is_label_of (labelled ls is)) (has_name ls) d.0 d.1 (label_named ls is e) d.5)) f

-- ---- calls

abbrev pub count : Exps → ℕ
count no_exps = 0
count (exps e es) = suc (count es)

all_length : (es : Exps) (K : Name → Sort) (G : Context) (ss : List Ground) → AllTypes es K G ss → length ss ≡ count es
all_length no_exps K G ss h = ap length h
all_length (exps e es) K G ss h = ap length h.2 ∙ ap suc (all_length es K G h.1 h.4)

module _ (k : Known) (ns : Fields) (r : Result (Unit {0}) Refusal) (a b c : List Cell) (w : ℕ) (ready : Ready k a ns (w ∷ [])) (is : List ℕ) where
  pub call_asked : (n : ℕ) (f : Word) (es : Exps) → n ≡ count es → GetsMany a b is n → Asked r b c (λ s. CallTypes (sorts k f.text) (map s.types is) (s.types w))
      → Leads r a c (T k ns (Call f es) w) (λ s. AllTypes es (sorts k) (context s ns) (map s.types is))
  call_asked n f es e g h =
      leads_on r a b c _ _ _
      (goes_on a a b _ _ _
      (restated a (T k ns (Call f es) w) (λ s. (ts : List Ground) × (length ts ≡ n) × AllByRecursion IsGround ts × (CallTypes (sorts k f.text) ts (s.types w) × AllTypes es (sorts k) (context s ns) ts)) ready.fine
      (λ s h. (h.0, all_length es (sorts k) (context s ns) h.0 h.1 ∙ sym e, ground_of_all k ns a (w ∷ []) ready es s h.0 h.1, (h.2, h.1)))
      (λ s q h. (h.0, h.3.1, h.3.0)))
      (opens_many a b is n (λ ts s. CallTypes (sorts k f.text) ts (s.types w) × AllTypes es (sorts k) (context s ns) ts)
      (λ ts. said k a ns (w ∷ []) (λ G us. CallTypes (sorts k f.text) ts (first us) × AllTypes es (sorts k) G ts) ready) g))
      (beside r b c (λ s. CallTypes (sorts k f.text) (map s.types is) (s.types w)) (λ s. AllTypes es (sorts k) (context s ns) (map s.types is))
      (said k b ns is (λ G ts. AllTypes es (sorts k) G ts) (ready_many k a b ns (w ∷ []) is n g ready)) h)

-- ---- records

abbrev pub names_of : {X : Type 0} → List (Word × X) → List Name
names_of fs = map (λ f. f.0.text) fs

abbrev pub bodies : List (Word × Exp) → Exps
bodies fs = exps_of (map (λ f. f.1) fs)

module _ (K : Name → Sort) (G : Context) (r : Row) where
  fields_split : (fs : List (Word × Exp)) → FieldTypes (flds_of fs) K G r → (ts : List Ground) × AtEach r (names_of fs) ts × AllTypes (bodies fs) K G ts
  fields_split [] h = ([], tt, refl)
  fields_split (f ∷ fs) h = let w = fields_split fs h.3 in (h.0 ∷ w.0, (h.1, w.1), (h.0, w.0, refl, h.2, w.2))

  cons_first : (t u : Ground) (ts us : List Ground) → t ∷ ts ≡ u ∷ us → t ≡ u
  cons_first t u ts us e = cc

  cons_rest : (t u : Ground) (ts us : List Ground) → t ∷ ts ≡ u ∷ us → ts ≡ us
  cons_rest t u ts us e = cc

  fields_join : (fs : List (Word × Exp)) (ts : List Ground) → AtEach r (names_of fs) ts → AllTypes (bodies fs) K G ts → FieldTypes (flds_of fs) K G r
  fields_join [] ts h k = tt
  fields_join (f ∷ fs) [] h k = absurd h
  fields_join (f ∷ fs) (t ∷ ts) h k = (t, h.0, subst (λ (u : Ground). Types f.1 K G u) (sym (cons_first t k.0 ts k.1 k.2)) k.3, fields_join fs ts h.1 (subst (λ (us : List Ground). AllTypes (bodies fs) K G us) (sym (cons_rest t k.0 ts k.1 k.2)) k.4))

has_names : (fs : List (Word × Exp)) (l : Name) → has_field (flds_of fs) l ≡ has_name (names_of fs) l
has_names [] l = refl
has_names (f ∷ fs) l = ap (λ z. same_name l f.0.text || z) (has_names fs l)

pub length_names : {X : Type 0} (fs : List (Word × X)) → length (names_of fs) ≡ length fs
length_names [] = refl
length_names (f ∷ fs) = ap suc (length_names fs)

module _ (k : Known) (ns : Fields) (r : Result (Unit {0}) Refusal) (a b c : List Cell) (w : ℕ) (ready : Ready k a ns (w ∷ [])) (is : List ℕ) where
  pub record_asked : (fs : List (Word × Exp)) → GetsMany a b is (length fs) → Asked r b c (IsRecord false (labelled (names_of fs) is) w)
      → Leads r a c (T k ns (Rec (flds_of fs)) w) (λ s. AllTypes (bodies fs) (sorts k) (context s ns) (map s.types is))
  record_asked fs g h =
      let ls = names_of fs in
      let el : length is ≡ length ls = g.size ∙ sym (length_names fs) in
      leads_on r a b c _ _ _
      (goes_on a a b _ _ _
      (restated a (T k ns (Rec (flds_of fs)) w) (λ s. (ts : List Ground) × (length ts ≡ length fs) × AllByRecursion IsGround ts × (RecordAt false ls (s.types w) ts × AllTypes (bodies fs) (sorts k) (context s ns) ts)) ready.fine
      (λ s h.
      let v = fields_split (sorts k) (context s ns) h.0 fs h.4 in (
        v.0,
        each_length h.0 ls v.0 v.1 ∙ length_names fs,
        each_ground h.0 ls v.0 (subst IsGround h.1 (s.types_ground w)) v.1,
        ((h.0, h.1, v.1, λ l q. subst IsTrue (has_names fs l) (h.3 l q)), v.2),
      ))
      (λ s q h. let v = h.3.0 in (v.0, v.1, s.types_ground w, (λ l z. subst IsTrue (sym (has_names fs l)) (v.3 l z)), fields_join (sorts k) (context s ns) v.0 fs h.0 v.2 h.3.1)))
      (opens_many a b is (length fs) (λ ts s. RecordAt false ls (s.types w) ts × AllTypes (bodies fs) (sorts k) (context s ns) ts)
      (λ ts. said k a ns (w ∷ []) (λ G us. RecordAt false ls (first us) ts × AllTypes (bodies fs) (sorts k) G ts) ready) g))
      (beside r b c (λ s. RecordAt false ls (s.types w) (map s.types is)) (λ s. AllTypes (bodies fs) (sorts k) (context s ns) (map s.types is))
      (said k b ns is (λ G ts. AllTypes (bodies fs) (sorts k) G ts) (ready_many k a b ns (w ∷ []) is (length fs) g ready)) (record_at r b c false ls is w el h))

-- a record with more fields
module _ (k : Known) (ns : Fields) (a b : List Cell) (w : ℕ) (ready : Ready k a ns (w ∷ [])) (is : List ℕ) (fs : List (Word × Exp)) (x : Exp) (g : GetsMany a b is (length fs)) where
  abbrev Both : Context → List Ground → Ground → Type 0
  Both G ts u = AllTypes (bodies fs) (sorts k) G ts × Types x (sorts k) G u

  abbrev At : Ground → Fact
  At u s = RestAt (names_of fs) (s.types w) (map s.types is) u

  more_seen : Leaves a b (T k ns (More (flds_of fs) x) w) (λ s. (u : Ground) × IsGround u × At u s × Both (context s ns) (map s.types is) u)
  more_seen =
      let ls = names_of fs in
      goes_on a a b _ _ _
      (restated a (T k ns (More (flds_of fs) x) w) (λ s. (ts : List Ground) × (length ts ≡ length fs) × AllByRecursion IsGround ts × ((u : Ground) × IsGround u × RestAt ls (s.types w) ts u × Both (context s ns) ts u)) ready.fine
      (λ s h.
      let v = fields_split (sorts k) (context s ns) h.0 fs h.5 in (
        v.0,
        each_length h.0 ls v.0 v.1 ∙ length_names fs,
        each_ground h.0 ls v.0 (subst IsGround h.2 (s.types_ground w)) v.1,
        (rec h.1, h.4.0, (h.0, h.1, h.2, refl, v.1, without_by (has_field (flds_of fs)) (has_name ls) h.0 h.1 (has_names fs) h.4), (v.2, h.6)),
      ))
      (λ s z h.
      let v = h.3.2 in (
        v.0,
        v.1,
        v.2,
        s.types_ground w,
        without_by (has_name ls) (has_field (flds_of fs)) v.0 v.1 (λ l. sym (has_names fs l)) v.5,
        fields_join (sorts k) (context s ns) v.0 fs h.0 v.4 h.3.3.0,
        subst (λ (t : Ground). Types x (sorts k) (context s ns) t) v.3 h.3.3.1,
      )))
      (opens_many a b is (length fs) (λ ts s. (u : Ground) × IsGround u × RestAt ls (s.types w) ts u × Both (context s ns) ts u)
      (λ ts. said k a ns (w ∷ []) (λ G us. (u : Ground) × IsGround u × RestAt ls (first us) ts u × Both G ts u) ready) g)

  pub more_refused : (e : Refusal) → Refuses b (λ s. (u : Ground) × IsGround u × At u s) e → Refuses a (T k ns (More (flds_of fs) x) w) e
  more_refused e f = leads_on (Err e) a b b _ _ (λ s. Unit {0}) more_seen (opens_none b At (λ u s. Both (context s ns) (map s.types is) u) e f)

  pub more_asked : (r : Result (Unit {0}) Refusal) (c d : List Cell) (i : ℕ) → Gets b c i At → Asked r c d (λ s. AllTypes (bodies fs) (sorts k) (context s ns) (map s.types is)) → Leads r a d (T k ns (More (flds_of fs) x) w) (T k ns x i)
  more_asked r c d i h m =
      let q = ready_many k a b ns (w ∷ []) is (length fs) g ready in
      leads_on r a c d _ _ _
      (goes_on a b c _ _ _ more_seen (opens b c i At (λ u s. Both (context s ns) (map s.types is) u) (λ u. said k b ns is (λ G ts. Both G ts u) q) h))
      (beside r c d (λ s. AllTypes (bodies fs) (sorts k) (context s ns) (map s.types is)) (T k ns x i) (said k c ns (i ∷ []) (λ G ts. Types x (sorts k) G (first ts)) (ready_new k b c ns is i At h q)) m)

-- ---- branches

abbrev behind_one : List Ground → List Ground
behind_one [] = []
behind_one (t ∷ ts) = ts

abbrev behind_two : List Ground → List Ground
behind_two ts = behind_one (behind_one ts)

abbrev pub Arms : Type 0
Arms = List (Word × (Pat × Exp))

abbrev pub with_arms : Arms → Branches → Branches
with_arms [] last = last
with_arms (m ∷ ms) last = branch m.0 m.1.0 m.1.1 (with_arms ms last)

-- what stands behind the branches
abbrev pub LastTypes : Branches → (Name → Sort) → Context → Ground → Type 0
LastTypes (otherwise e) K G t = Types e K G t
LastTypes _ K G t = ⊤

abbrev pub is_rest : Branches → Bool
is_rest (otherwise e) = true
is_rest _ = false

pub data IsLast : Branches → Type 0 where
  none_last : IsLast no_branches
  rest_last : (e : Exp) → IsLast (otherwise e)

module _ (K : Name → Sort) (G : Context) (r : Row) (t : Ground) where
  last_split : (last : Branches) → IsLast last → BranchTypes last K G r t → LastTypes last K G t
  last_split no_branches il h = tt
  last_split (otherwise e) il h = h
  last_split (branch l p b bs) il h = tt

  last_join : (last : Branches) → IsLast last → LastTypes last K G t → BranchTypes last K G r t
  last_join no_branches none_last h = tt
  last_join (otherwise e) (rest_last e') h = h
  last_join (branch _ _ _ _) x6 h = elim x6 [ ]

  arms_split : (ms : Arms) (last : Branches) → IsLast last → BranchTypes (with_arms ms last) K G r t → (ts : List Ground) × AtEach r (names_of ms) ts × ArmsTake (with_arms ms no_branches) K G ts t × LastTypes last K G t
  arms_split [] last il h = ([], tt, tt, last_split last il h)
  arms_split (m ∷ ms) last il h = let w = arms_split ms last il h.5 in (h.0 ∷ w.0, (h.2, w.1), (h.1, h.3, h.4, w.2), w.3)

  arms_join : (ms : Arms) (last : Branches) (ts : List Ground) → IsLast last → AtEach r (names_of ms) ts → ArmsTake (with_arms ms no_branches) K G ts t → LastTypes last K G t → BranchTypes (with_arms ms last) K G r t
  arms_join [] last ts il h k j = last_join last il j
  arms_join (m ∷ ms) last [] il h k j = absurd h
  arms_join (m ∷ ms) last (u ∷ ts) il h k j = (u, k.0, h.0, k.1, k.2, arms_join ms last ts il h.1 k.3 j)

has_arms : (ms : Arms) (l : Name) → has_branch (with_arms ms no_branches) l ≡ has_name (names_of ms) l
has_arms [] l = refl
has_arms (m ∷ ms) l = ap (λ z. same_name l m.0.text || z) (has_arms ms l)

or_true : (b c : Bool) → IsTrue c → IsTrue (b || c)
or_true true c h = refl
or_true false c h = h

has_rest : (ms : Arms) (e : Exp) (l : Name) → IsTrue (has_branch (with_arms ms (otherwise e)) l)
has_rest [] e l = refl
has_rest (m ∷ ms) e l = or_true (same_name l m.0.text) _ (has_rest ms e l)

arms_within : (ms : Arms) (last : Branches) (r : Row) → IsLast last → ((l : Name) → IsSome (at l r) → IsTrue (has_branch (with_arms ms last) l)) → Within (is_rest last) (names_of ms) r
arms_within ms no_branches r none_last h = λ l q. subst IsTrue (has_arms ms l) (h l q)
arms_within ms (otherwise e) r (rest_last e') h = tt
arms_within ms (branch _ _ _ _) r x6 h = elim x6 [ ]

within_arms : (ms : Arms) (last : Branches) (r : Row) → IsLast last → Within (is_rest last) (names_of ms) r → (l : Name) → IsSome (at l r) → IsTrue (has_branch (with_arms ms last) l)
within_arms ms no_branches r none_last h l q = subst IsTrue (sym (has_arms ms l)) (h l q)
within_arms ms (otherwise e) r (rest_last e') h l q = has_rest ms e l
within_arms ms (branch _ _ _ _) r x7 h l q = elim x7 [ ]

-- the subject of a `case`, its branches, and what stands behind them, one after another
module _ (k : Known) (ns : Fields) (a b c : List Cell) (w : ℕ) (ready : Ready k a ns (w ∷ [])) (i : ℕ) (is : List ℕ) (x : Exp) (ms : Arms) (last : Branches) (il : IsLast last) (g1 : GetsMany a b is (length ms)) (g2 : Gets b c i (λ t s. Unit {0})) where
  abbrev pub Armed : Fact
  Armed = λ s. ArmsTake (with_arms ms no_branches) (sorts k) (context s ns) (map s.types is) (s.types w)

  abbrev pub Left : Fact
  Left = λ s. LastTypes last (sorts k) (context s ns) (s.types w)

  abbrev Subject : Context → Ground → List Ground → Ground → Type 0
  Subject G t ts u = VariantAt (is_rest last) (names_of ms) t ts × (Types x (sorts k) G t × (ArmsTake (with_arms ms no_branches) (sorts k) G ts u × LastTypes last (sorts k) G u))

  ready_types : Ready k b ns (w ∷ is)
  ready_types = let q = ready_on k a b ns (w ∷ []) g1.fine g1.keeps ready in ready_for k b ns (w ∷ []) (w ∷ is) (q.wants.0, g1.sorts) q

  ready_subject : Ready k c ns (i ∷ w ∷ is)
  ready_subject = ready_after k ns b (w ∷ is) ready_types c i (λ t s. Unit {0}) g2

  case_seen : Leaves a c (T k ns (Case x (with_arms ms last)) w) (λ s. Subject (context s ns) (s.types i) (map s.types is) (s.types w))
  case_seen =
      let ls = names_of ms in
      let K = sorts k in
      goes_on a a c _ _ _
      (restated a _ (λ s. (ts : List Ground) × (length ts ≡ length ms) × AllByRecursion IsGround ts × ((t : Ground) × IsGround t × Unit {0} × Subject (context s ns) t ts (s.types w))) ready.fine
      (λ s h.
      let v = arms_split K (context s ns) h.0 (s.types w) ms last il h.3 in
      let gr : IsGround (var h.0) = ground_of_type k ns a (w ∷ []) ready x s (var h.0) h.1 in
      (v.0, each_length h.0 ls v.0 v.1 ∙ length_names ms, each_ground h.0 ls v.0 gr.1 v.1, (var h.0, gr, tt, ((h.0, refl, v.1, arms_within ms last h.0 il h.2), (h.1, (v.2, v.3))))))
      (λ s q h.
      let v = h.3.3.0 in
      (v.0, subst (λ (t : Ground). Types x K (context s ns) t) v.1 h.3.3.1.0, within_arms ms last v.0 il v.3, arms_join K (context s ns) v.0 (s.types w) ms last h.0 il v.2 h.3.3.1.1.0 h.3.3.1.1.1)))
      (goes_on a b c _ _ _
      (opens_many a b is (length ms) (λ ts s. (t : Ground) × IsGround t × Unit {0} × Subject (context s ns) t ts (s.types w))
      (λ ts. said k a ns (w ∷ []) (λ G us. (t : Ground) × IsGround t × Unit {0} × Subject G t ts (first us)) ready) g1)
      (opens b c i (λ t s. Unit {0}) (λ t s. Subject (context s ns) t (map s.types is) (s.types w)) (λ t. said k b ns (w ∷ is) (λ G us. Subject G t (behind_one us) (first us)) ready_types) g2))

  pub case_chosen : (r : Result (Unit {0}) Refusal) (d : List Cell) → Asked r c d (IsVariant (is_rest last) (labelled (names_of ms) is) i) → Leads r a d (T k ns (Case x (with_arms ms last)) w) (λ s. T k ns x i s × (Armed s × Left s))
  case_chosen r d h =
      let K = sorts k in
      leads_on r a c d _ _ _ case_seen
      (beside r c d (λ s. VariantAt (is_rest last) (names_of ms) (s.types i) (map s.types is)) (λ s. T k ns x i s × (Armed s × Left s))
      (said k c ns (i ∷ w ∷ is) (λ G us. Types x K G (first us) × (ArmsTake (with_arms ms no_branches) K G (behind_two us) (second us) × LastTypes last K G (second us))) ready_subject)
      (variant_at r c d (is_rest last) (names_of ms) is i (g1.size ∙ sym (length_names ms)) h))

  module _ (d : List Cell) (h1 : Asks c d (IsVariant (is_rest last) (labelled (names_of ms) is) i)) where
    ready_chosen : Ready k d ns (i ∷ w ∷ is)
    ready_chosen = ready_on k c d ns (i ∷ w ∷ is) h1.fine h1.keeps ready_subject

    pub case_checked : (r : Result (Unit {0}) Refusal) (e : List Cell) → Asked r d e (T k ns x i) → Leads r a e (T k ns (Case x (with_arms ms last)) w) (λ s. Armed s × Left s)
    case_checked r e h =
        let K = sorts k in
        leads_on r a d e _ _ _ (case_chosen (Ok tt) d h1)
        (beside r d e (T k ns x i) (λ s. Armed s × Left s) (said k d ns (i ∷ w ∷ is) (λ G us. ArmsTake (with_arms ms no_branches) K G (behind_two us) (second us) × LastTypes last K G (second us)) ready_chosen) h)

    pub case_armed : (r : Result (Unit {0}) Refusal) (e f : List Cell) → Asks d e (T k ns x i) → Asked r e f Armed → Leads r a f (T k ns (Case x (with_arms ms last)) w) Left
    case_armed r e f h2 h =
        leads_on r a e f _ _ _ (case_checked (Ok tt) e h2)
        (beside r e f Armed Left (said k e ns (i ∷ w ∷ is) (λ G us. LastTypes last (sorts k) G (second us)) (ready_on k d e ns (i ∷ w ∷ is) h2.fine h2.keeps ready_chosen)) h)
