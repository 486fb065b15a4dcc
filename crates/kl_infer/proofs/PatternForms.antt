-- What patterns and qualifiers ask, and the variables that they bind.
use Rattle.std.proofs.Common.{◌≡◌, ℕ, ◌||◌, IsTrue, List, [], ◌∷◌, ◌++◌, length, map, Result, Ok, Err, refl, sym, ap, ◌∙◌, subst}
use Rattle.kl_value.specs.declared.Value.{Value}
use Rattle.kl_type.specs.Ground.{Ground, Row, rec, IsGround}
use Rattle.kl_rows.specs.declared.cell.Cell.{Cell}
use Rattle.kl_rows.specs.Lists.{Fields}
use Rattle.kl_rows.specs.Places.{a_type, IsType, AreTypes}
use Rattle.kl_rows.specs.Solutions.{Assignment}
use Rattle.kl_rows.proofs.Advancing.{Fact, agrees_refl, keeps_refl, types_keep}
use Rattle.std.specs.List.{AllByRecursion}
use Rattle.kl_outcome.specs.Outcome.{Name}
use Rattle.kl_forms.specs.Forms.{VariantOf, IsRecord, IsOfType}
use Rattle.kl_forms.proofs.Steps.{Stable}
use Rattle.kl_syntax.specs.declared.tree.Tail.{Tail}
use Rattle.kl_syntax.specs.declared.tree.Tail.TheVariants as tail
use Rattle.kl_syntax.specs.declared.tree.Word.{Word}
use Rattle.kl_syntax.specs.Syntax.{Pat, Pats, catch, any, same, is, shape, variant}
use Rattle.kl_syntax.specs.View.{pats_of}
use Rattle.kl_meaning.specs.Match.{same_name, has_label, is_open}
use Rattle.kl_meaning.specs.Typing.{Context, NameTypes, IsWhole, BindsRest, Takes, TakesFields}
use Rattle.kl_infer.specs.Asking.{Leaves, Asks, Refuses, Asked, Gets, GetsMany, Binds, Bound, context, onto}
use Rattle.kl_infer.specs.Names.{Ready, sorts, TakesAll, labelled}
use Rattle.kl_infer.specs.declared.refusal.Refusal.{Refusal}
use Rattle.kl_infer.specs.declared.refusal.Refusal.TheVariants.{NoType, NoMemory}
use Rattle.kl_infer.specs.declared.scope.Known.{Known}
use Rattle.kl_outcome.proofs.Grounds.{at_ground}
use Rattle.kl_outcome.proofs.RowFields.{without_by}
use Rattle.kl_infer.proofs.Leaving.{Leads, refuses_more, restated, goes_on, leads_on, beside, binds, opens, opens_none, opens_many, ready_many, ready_new, ready_nothing, said, same_context}
use Rattle.kl_infer.proofs.Forms.{first}
use Rattle.kl_infer.proofs.Lists.{AtEach, Within, RecordAt, RestAt, each_ground, each_length, has_name, names_of, length_names, record_at}

-- ---- variables more

pub onto_push : (bs ns : Fields) (b : Name × ℕ) → onto (bs ++ b ∷ []) ns ≡ b ∷ onto bs ns
onto_push [] ns b = refl
onto_push (c ∷ bs) ns b = onto_push bs (c ∷ ns) b

pub onto_append : (bs cs ns : Fields) → onto (bs ++ cs) ns ≡ onto cs (onto bs ns)
onto_append [] cs ns = refl
onto_append (b ∷ bs) cs ns = onto_append bs cs (b ∷ ns)

pub types_push : (ts : List Cell) (bs : Fields) (b : Name × ℕ) → AreTypes ts bs → IsType ts b.1 → AreTypes ts (bs ++ b ∷ [])
types_push ts [] b h k = (k, tt)
types_push ts (c ∷ bs) b h k = (h.0, types_push ts bs b h.1 k)

pub types_append : (ts : List Cell) (bs cs : Fields) → AreTypes ts bs → AreTypes ts cs → AreTypes ts (bs ++ cs)
types_append ts [] cs h k = k
types_append ts (c ∷ bs) cs h k = (h.0, types_append ts bs cs h.1 k)

types_split : (ts : List Cell) (bs ns : Fields) → AreTypes ts (onto bs ns) → AreTypes ts bs × AreTypes ts ns
types_split ts [] ns h = (tt, h)
types_split ts (b ∷ bs) ns h = let w = types_split ts bs (b ∷ ns) h in ((w.1.0, w.0), w.1.1)

-- what stands outside a pattern, and what it has bound so far
pub ready_out : (k : Known) (a : List Cell) (bs ns : Fields) (ws : List ℕ) → Ready k a (onto bs ns) ws → Ready k a ns ws
ready_out k a bs ns ws r = record { good = r.good; fine = r.fine; bound = (types_split a bs ns r.bound).1; wants = r.wants }

pub bound_so_far : (k : Known) (a : List Cell) (bs ns : Fields) (ws : List ℕ) → Ready k a (onto bs ns) ws → AreTypes a bs
bound_so_far k a bs ns ws r = (types_split a bs ns r.bound).0

module _ (a b : List Cell) (bs cs ns : Fields) (D : Assignment → Context → Context → Type 0) where
  pub binds_by : (AreTypes a bs → AreTypes b cs) → ((H : Context) → Leaves a b (λ s. D s (context s (onto bs ns)) H) (λ u. context u (onto cs ns) ≡ H)) → Binds a b bs cs ns D
  binds_by sorts f = let one = f [] in record { fine = one.fine; keeps = one.keeps; sorts = sorts; down = λ s H h d. (f H).down s h d; up = λ s h. (f (context s (onto cs ns))).up s h refl }

  pub binds_at : (r : Result (Unit {0}) Refusal) → Bound r a b bs cs ns D → (H : Context) → Leads r a b (λ s. D s (context s (onto bs ns)) H) (λ u. context u (onto cs ns) ≡ H)
  binds_at (Ok u) g H = record { fine = g.fine; keeps = g.keeps; down = λ s h d. g.down s H h d; up = λ s h r. let z = g.up s h in (z.0, subst (λ (I : Context). D s (context s (onto bs ns)) I) r z.1) }
  binds_at (Err e) g H = refuses_more a _ (λ s. (H : Context) × D s (context s (onto bs ns)) H) e (λ s d. (H, d)) g

-- no context is left
pub refuses_each : (a : List Cell) (P : Assignment → Context → Type 0) (e : Refusal) → ((H : Context) → Refuses a (λ s. P s H) e) → Refuses a (λ s. (H : Context) × P s H) e
refuses_each a P NoType f = λ s h d. f d.0 s h d.1
refuses_each a P NoMemory f = tt

-- the same in other words
pub bound_told : (r : Result (Unit {0}) Refusal) (a b : List Cell) (bs cs ns : Fields) (D E : Assignment → Context → Context → Type 0) → ((s : Assignment) (H : Context) → E s (context s (onto bs ns)) H → D s (context s (onto bs ns)) H)
    → ((s : Assignment) (H : Context) → D s (context s (onto bs ns)) H → E s (context s (onto bs ns)) H) → Bound r a b bs cs ns D → Bound r a b bs cs ns E
bound_told (Ok u) a b bs cs ns D E go come g = let one = binds_at a b bs cs ns D (Ok u) g in binds_by a b bs cs ns E g.sorts
    (λ H. let f = one H in record { fine = f.fine; keeps = f.keeps; down = λ s h d. f.down s h (go s H d); up = λ s h r. let z = f.up s h r in (z.0, come s H z.1) })
bound_told (Err e) a b bs cs ns D E go come g = refuses_more a _ (λ s. (H : Context) × D s (context s (onto bs ns)) H) e (λ s d. (d.0, go s d.0 d.1)) g

-- steps before a pattern
pub bound_on : (r : Result (Unit {0}) Refusal) (a b c : List Cell) (bs cs ns : Fields) (D E : Assignment → Context → Context → Type 0) → ((H : Context) → Leaves a b (λ s. D s (context s (onto bs ns)) H) (λ s. E s (context s (onto bs ns)) H))
    → Bound r b c bs cs ns E → Bound r a c bs cs ns D
bound_on (Ok u) a b c bs cs ns D E f g = let one = f [] in binds_by a c bs cs ns D (λ h. g.sorts (types_keep a b bs one.keeps h)) (λ H. goes_on a b c _ _ _ (f H) (binds_at b c bs cs ns E (Ok u) g H))
bound_on (Err e) a b c bs cs ns D E f g = refuses_each a (λ s. D s (context s (onto bs ns))) e (λ H. leads_on (Err e) a b c _ _ (λ s. Unit {0}) (f H) (binds_at b c bs cs ns E (Err e) g H))

module _ (k : Known) (ns : Fields) where
  abbrev pub Outside : Assignment → Name → Ground → Type 0
  Outside s = NameTypes (sorts k) (context s ns)

  module _ (a : List Cell) (bs : Fields) (ready : Ready k a (onto bs ns) []) where
    -- what binds nothing
    pub tests_only : (r : Result (Unit {0}) Refusal) (b : List Cell) (E : Fact) → Asked r a b E → Bound r a b bs bs ns (λ s G H. E s × (H ≡ G))
    tests_only (Ok o) b E f = record {
      fine = f.fine;
      keeps = f.keeps;
      sorts = λ h. types_keep a b bs f.keeps h;
      down = λ s H h d. let u = f.down s h d.0 in record { to = u.to; agrees = u.agrees; solves = u.solves; holds = same_context a (onto bs ns) s u.to ready.bound u.agrees ∙ sym d.1 };
      up = λ s h. let z = f.up s h tt in (z.0, (z.1, refl));
    }
    tests_only (Err e) b E f = refuses_more a _ E e (λ s d. d.1.0) f

  module _ (a : List Cell) (bs : Fields) (t : ℕ) (ready : Ready k a (onto bs ns) (t ∷ [])) where
    tests : (r : Result (Unit {0}) Refusal) (b : List Cell) (E : Fact) → Asked r a b E → Bound r a b bs bs ns (λ s G H. E s × (H ≡ G))
    tests = tests_only a bs (ready_nothing k a (onto bs ns) (t ∷ []) ready)

    pub any_pattern : Binds a a bs bs ns (λ s. Takes any (Outside s) (s.types t))
    any_pattern = record { fine = ready.fine; keeps = keeps_refl a; sorts = λ h. h; down = λ s H h d. record { to = s; agrees = agrees_refl _ s; solves = h; holds = sym d }; up = λ s h. (h, refl) }

    pub same_pattern : (r : Result (Unit {0}) Refusal) (x : Word) (b : List Cell) → Asked r a b (λ s. NameTypes (sorts k) (context s ns) x.text (s.types t)) → Bound r a b bs bs ns (λ s. Takes (same x) (Outside s) (s.types t))
    same_pattern r x b f = tests r b (λ s. NameTypes (sorts k) (context s ns) x.text (s.types t)) f

    pub is_pattern : (r : Result (Unit {0}) Refusal) (v : Value) (n : ℕ) (b : List Cell) → Asked r a b (IsOfType v t) → Bound r a b bs bs ns (λ s. Takes (is v n) (Outside s) (s.types t))
    is_pattern r v n b f = tests r b (IsOfType v t) f

    pub catch_pattern : (x : Word) → Binds a a bs (bs ++ (x.text, t) ∷ []) ns (λ s. Takes (catch x) (Outside s) (s.types t))
    catch_pattern x = record {
      fine = ready.fine;
      keeps = keeps_refl a;
      sorts = λ h. types_push a bs (x.text, t) h ready.wants.0;
      down = λ s H h d. record { to = s; agrees = agrees_refl _ s; solves = h; holds = ap (context s) (onto_push bs ns (x.text, t)) ∙ sym d };
      up = λ s h. (h, ap (context s) (onto_push bs ns (x.text, t)));
    }

    module _ (l : Word) (q : Pat) where
      variant_seen : (H : Context) → Leaves a a (λ s. Takes (variant l q) (Outside s) (s.types t) (context s (onto bs ns)) H) (λ s. (u : Ground) × IsGround u × VariantOf l.text t u s × Takes q (Outside s) u (context s (onto bs ns)) H)
      variant_seen H = restated a _ _ ready.fine
          (λ s e. (e.1, at_ground l.text e.0 e.1 (subst IsGround e.2 (s.types_ground t)).1 e.3, (e.0, e.2, e.3), e.4))
          (λ s z e. (e.2.0, e.0, e.2.1, e.2.2, e.3))

      pub variant_refused : (e : Refusal) → Refuses a (λ s. (u : Ground) × IsGround u × VariantOf l.text t u s) e → Refuses a (λ s. (H : Context) × Takes (variant l q) (Outside s) (s.types t) (context s (onto bs ns)) H) e
      variant_refused e f = refuses_each a (λ s. Takes (variant l q) (Outside s) (s.types t) (context s (onto bs ns))) e
          (λ H. leads_on (Err e) a a a _ _ (λ s. Unit {0}) (variant_seen H) (opens_none a (VariantOf l.text t) (λ u s. Takes q (Outside s) u (context s (onto bs ns)) H) e f))

      pub variant_pattern : (r : Result (Unit {0}) Refusal) (b c : List Cell) (cs : Fields) (i : ℕ) → Gets a b i (VariantOf l.text t) → Bound r b c bs cs ns (λ s. Takes q (Outside s) (s.types i)) → Bound r a c bs cs ns (λ s. Takes (variant l q) (Outside s) (s.types t))
      variant_pattern r b c cs i g h = bound_on r a b c bs cs ns (λ s. Takes (variant l q) (Outside s) (s.types t)) (λ s. Takes q (Outside s) (s.types i))
          (λ H. goes_on a a b _ _ _ (variant_seen H)
          (opens a b i (VariantOf l.text t) (λ u s. Takes q (Outside s) u (context s (onto bs ns)) H)
          (λ u s v ag d. subst (λ (G : Context). Takes q (NameTypes (sorts k) G) u (context v (onto bs ns)) H) (sym (same_context a ns s v ((types_split a bs ns ready.bound).1) ag))
          (subst (λ (G : Context). Takes q (NameTypes (sorts k) (context s ns)) u G H) (sym (same_context a (onto bs ns) s v ready.bound ag)) d)) g)) h

-- ---- record patterns

abbrev pub PatList : Type 0
PatList = List (Word × Pat)

whole_labels : (ps : PatList) (l : Name) → has_label (pats_of ps) l ≡ has_name (names_of ps) l
whole_labels [] l = refl
whole_labels (p ∷ ps) l = ap (λ z. same_name l p.0.text || z) (whole_labels ps l)

whole_within : (end : Tail) (ps : PatList) (r : Row) → IsWhole end r (pats_of ps) → Within (is_open end) (names_of ps) r
whole_within tail.Exact ps r h = λ l q. subst IsTrue (whole_labels ps l) (h l q)
whole_within tail.Open ps r h = tt
whole_within (tail.Rest x) ps r h = tt

within_whole : (end : Tail) (ps : PatList) (r : Row) → Within (is_open end) (names_of ps) r → IsWhole end r (pats_of ps)
within_whole tail.Exact ps r h = λ l q. subst IsTrue (sym (whole_labels ps l)) (h l q)
within_whole tail.Open ps r h = tt
within_whole (tail.Rest x) ps r h = tt

-- a pattern that does not bind the other fields
abbrev pub BindsNoRest : Tail → Type 0
BindsNoRest end = (x : Word) → end ≡ tail.Rest x → ⊥

not_bound : (end : Tail) (r : Row) (ps : Pats) (G H : Context) → BindsNoRest end → BindsRest end r ps G H → G ≡ H
not_bound tail.Exact r ps G H n h = sym h
not_bound tail.Open r ps G H n h = sym h
not_bound (tail.Rest x) r ps G H n h = absurd (n x refl)

bound_none : (end : Tail) (r : Row) (ps : Pats) (G : Context) → BindsNoRest end → BindsRest end r ps G G
bound_none tail.Exact r ps G n = refl
bound_none tail.Open r ps G n = refl
bound_none (tail.Rest x) r ps G n = absurd (n x refl)

module _ (out : Name → Ground → Type 0) (r : Row) where
  takes_split : (ps : PatList) (G H : Context) → TakesFields (pats_of ps) out r G H → (ts : List Ground) × AtEach r (names_of ps) ts × TakesAll (pats_of ps) out ts G H
  takes_split [] G H h = ([], tt, h)
  takes_split (p ∷ ps) G H h = let w = takes_split ps h.1 H h.4 in (h.0 ∷ w.0, (h.2, w.1), (h.1, h.3, w.2))

  takes_join : (ps : PatList) (ts : List Ground) (G H : Context) → AtEach r (names_of ps) ts → TakesAll (pats_of ps) out ts G H → TakesFields (pats_of ps) out r G H
  takes_join [] [] G H h k = k
  takes_join [] (t ∷ ts) G H h k = absurd h
  takes_join (p ∷ ps) [] G H h k = absurd h
  takes_join (p ∷ ps) (t ∷ ts) G H h k = (t, k.0, h.0, k.1, takes_join ps ts k.0 H h.1 k.2)

module _ (k : Known) (ns : Fields) (a : List Cell) (bs : Fields) (t : ℕ) (ready : Ready k a (onto bs ns) (t ∷ [])) (is : List ℕ) where
  -- two contexts at once
  said_twice : (x : List Cell) (ws : List ℕ) (P : Context → Context → List Ground → Type 0) → Ready k x (onto bs ns) ws → Stable (length x) (λ s. P (context s ns) (context s (onto bs ns)) (map s.types ws))
  said_twice x ws P r s u ag d =
      subst (λ (G : Context). P G (context u (onto bs ns)) (map u.types ws)) (sym (same_context x ns s u ((types_split x bs ns r.bound).1) ag))
      (said k x (onto bs ns) ws (λ G ts. P (context s ns) G ts) r s u ag d)

  module _ (b : List Cell) (ps : PatList) (end : Tail) (plain : BindsNoRest end) (g : GetsMany a b is (length ps)) where
    pub record_asked : (r : Result (Unit {0}) Refusal) (c : List Cell) (H : Context) → Asked r b c (IsRecord (is_open end) (labelled (names_of ps) is) t)
        → Leads r a c (λ s. Takes (shape (pats_of ps) end) (Outside k ns s) (s.types t) (context s (onto bs ns)) H) (λ s. TakesAll (pats_of ps) (Outside k ns s) (map s.types is) (context s (onto bs ns)) H)
    record_asked r c H f =
        let ls = names_of ps in
        let o = is_open end in
        let el : length is ≡ length ls = g.size ∙ sym (length_names ps) in
        leads_on r a b c _ _ _
        (goes_on a a b _ _ _
        (restated a _ (λ s. (ts : List Ground) × (length ts ≡ length ps) × AllByRecursion IsGround ts × (RecordAt o ls (s.types t) ts × TakesAll (pats_of ps) (Outside k ns s) ts (context s (onto bs ns)) H)) ready.fine
        (λ s d.
        let here = subst (λ (M : Context). TakesFields (pats_of ps) (Outside k ns s) d.0 (context s (onto bs ns)) M) (not_bound end d.0 (pats_of ps) d.1 H plain d.5) d.4 in
        let v = takes_split (Outside k ns s) d.0 ps (context s (onto bs ns)) H here in
        (v.0, each_length d.0 ls v.0 v.1 ∙ length_names ps, each_ground d.0 ls v.0 (subst IsGround d.2 (s.types_ground t)) v.1, ((d.0, d.2, v.1, whole_within end ps d.0 d.3), v.2)))
        (λ s z d.
        let v = d.3.0 in
        (v.0, H, v.1, within_whole end ps v.0 v.3, takes_join (Outside k ns s) v.0 ps d.0 (context s (onto bs ns)) H v.2 d.3.1, bound_none end v.0 (pats_of ps) H plain)))
        (opens_many a b is (length ps) (λ ts s. RecordAt o ls (s.types t) ts × TakesAll (pats_of ps) (Outside k ns s) ts (context s (onto bs ns)) H)
        (λ ts. said_twice a (t ∷ []) (λ G G2 us. RecordAt o ls (first us) ts × TakesAll (pats_of ps) (NameTypes (sorts k) G) ts G2 H) ready) g))
        (beside r b c (λ s. RecordAt o ls (s.types t) (map s.types is)) (λ s. TakesAll (pats_of ps) (Outside k ns s) (map s.types is) (context s (onto bs ns)) H)
        (said_twice b is (λ G G2 us. TakesAll (pats_of ps) (NameTypes (sorts k) G) us G2 H) (ready_many k a b (onto bs ns) (t ∷ []) is (length ps) g ready)) (record_at r b c o ls is t el f))

    pub record_refused : (c : List Cell) (e : Refusal) → Refuses b (IsRecord (is_open end) (labelled (names_of ps) is) t) e → Refuses a (λ s. (H : Context) × Takes (shape (pats_of ps) end) (Outside k ns s) (s.types t) (context s (onto bs ns)) H) e
    record_refused c e f = refuses_each a (λ s. Takes (shape (pats_of ps) end) (Outside k ns s) (s.types t) (context s (onto bs ns))) e (λ H. record_asked (Err e) c H f)

    pub record_pattern : (r : Result (Unit {0}) Refusal) (c d : List Cell) (cs : Fields) → Asks b c (IsRecord (is_open end) (labelled (names_of ps) is) t)
        → Bound r c d bs cs ns (λ s. TakesAll (pats_of ps) (Outside k ns s) (map s.types is)) → Bound r a d bs cs ns (λ s. Takes (shape (pats_of ps) end) (Outside k ns s) (s.types t))
    record_pattern r c d cs f h = bound_on r a c d bs cs ns (λ s. Takes (shape (pats_of ps) end) (Outside k ns s) (s.types t)) (λ s. TakesAll (pats_of ps) (Outside k ns s) (map s.types is)) (λ H. record_asked (Ok tt) c H f) h

  -- a pattern that binds the other fields
  module _ (b : List Cell) (ps : PatList) (x : Word) (g : GetsMany a b is (length ps)) where
    abbrev Shaped : Assignment → Context → Context → Type 0
    Shaped s = Takes (shape (pats_of ps) (tail.Rest x)) (Outside k ns s) (s.types t)

    abbrev Others : Ground → Fact
    Others u s = RestAt (names_of ps) (s.types t) (map s.types is) u

    -- the fields are taken, and then the other fields are bound
    abbrev Then : Context → (Name → Ground → Type 0) → Context → List Ground → Ground → Type 0
    Then H out G ts u = (M : Context) × TakesAll (pats_of ps) out ts G M × (H ≡ (x.text, u) ∷ M)

    rest_seen : (H : Context) → Leaves a b (λ s. Shaped s (context s (onto bs ns)) H) (λ s. (u : Ground) × IsGround u × Others u s × Then H (Outside k ns s) (context s (onto bs ns)) (map s.types is) u)
    rest_seen H =
        let ls = names_of ps in
        goes_on a a b _ _ _
        (restated a _ (λ s. (ts : List Ground) × (length ts ≡ length ps) × AllByRecursion IsGround ts × ((u : Ground) × IsGround u × RestAt ls (s.types t) ts u × Then H (Outside k ns s) (context s (onto bs ns)) ts u)) ready.fine
        (λ s d.
        let v = takes_split (Outside k ns s) d.0 ps (context s (onto bs ns)) d.1 d.4 in
        let w = d.5 in (
          v.0,
          each_length d.0 ls v.0 v.1 ∙ length_names ps,
          each_ground d.0 ls v.0 (subst IsGround d.2 (s.types_ground t)) v.1,
          (rec w.0, w.1.0, (d.0, w.0, d.2, refl, v.1, without_by (has_label (pats_of ps)) (has_name ls) d.0 w.0 (whole_labels ps) w.1), (d.1, v.2, w.2)),
        ))
        (λ s z d.
        let v = d.3.2 in
        let w = d.3.3 in (
          v.0,
          w.0,
          v.2,
          tt,
          takes_join (Outside k ns s) v.0 ps d.0 (context s (onto bs ns)) w.0 v.4 w.1,
          (v.1, without_by (has_name ls) (has_label (pats_of ps)) v.0 v.1 (λ l. sym (whole_labels ps l)) v.5, w.2 ∙ ap (λ (y : Ground). (x.text, y) ∷ w.0) v.3),
        )))
        (opens_many a b is (length ps) (λ ts s. (u : Ground) × IsGround u × RestAt ls (s.types t) ts u × Then H (Outside k ns s) (context s (onto bs ns)) ts u)
        (λ ts. said_twice a (t ∷ []) (λ G G2 us. (u : Ground) × IsGround u × RestAt ls (first us) ts u × Then H (NameTypes (sorts k) G) G2 ts u) ready) g)

    ready_fields : Ready k b (onto bs ns) is
    ready_fields = ready_many k a b (onto bs ns) (t ∷ []) is (length ps) g ready

    pub rest_refused : (e : Refusal) → Refuses b (λ s. (u : Ground) × IsGround u × Others u s) e → Refuses a (λ s. (H : Context) × Shaped s (context s (onto bs ns)) H) e
    rest_refused e f = refuses_each a (λ s. Shaped s (context s (onto bs ns))) e
        (λ H. leads_on (Err e) a b b _ _ (λ s. Unit {0}) (rest_seen H) (opens_none b Others (λ u s. Then H (Outside k ns s) (context s (onto bs ns)) (map s.types is) u) e f))

    module _ (c : List Cell) (i : ℕ) (q : Gets b c i Others) where
      rest_taken : (r : Result (Unit {0}) Refusal) (d : List Cell) (cs : Fields) (H : Context) → Bound r c d bs cs ns (λ s. TakesAll (pats_of ps) (Outside k ns s) (map s.types is))
          → Leads r a d (λ s. Shaped s (context s (onto bs ns)) H) (λ s. H ≡ (x.text, s.types i) ∷ context s (onto cs ns))
      rest_taken r d cs H h =
          leads_on r a c d _ _ _
          (goes_on a b c _ _ _ (rest_seen H) (opens b c i Others (λ u s. Then H (Outside k ns s) (context s (onto bs ns)) (map s.types is) u) (λ u. said_twice b is (λ G G2 us. Then H (NameTypes (sorts k) G) G2 us u) ready_fields) q))
          (binds r c d bs cs ns (λ s. TakesAll (pats_of ps) (Outside k ns s) (map s.types is)) (λ M s. H ≡ (x.text, s.types i) ∷ M)
          (λ M. said k c (onto bs ns) (i ∷ []) (λ G ts. H ≡ (x.text, first ts) ∷ M) (ready_new k b c (onto bs ns) is i Others q ready_fields)) h)

      pub rest_untaken : (d : List Cell) (cs : Fields) (e : Refusal) → Refuses c (λ s. (H : Context) × TakesAll (pats_of ps) (Outside k ns s) (map s.types is) (context s (onto bs ns)) H) e → Refuses a (λ s. (H : Context) × Shaped s (context s (onto bs ns)) H) e
      rest_untaken d cs e h = refuses_each a (λ s. Shaped s (context s (onto bs ns))) e (λ H. rest_taken (Err e) d cs H h)

      pub rest_pattern : (d : List Cell) (cs : Fields) → Binds c d bs cs ns (λ s. TakesAll (pats_of ps) (Outside k ns s) (map s.types is)) → Binds a d bs (cs ++ (x.text, i) ∷ []) ns Shaped
      rest_pattern d cs h =
          binds_by a d bs (cs ++ (x.text, i) ∷ []) ns Shaped
          (λ f. types_push d cs (x.text, i) (h.sorts (types_keep b c bs q.keeps (types_keep a b bs g.keeps f))) (h.keeps.sorts i a_type q.sort))
          (λ H. goes_on a d d _ _ _ (rest_taken (Ok tt) d cs H h)
          (restated d _ (λ u. context u (onto (cs ++ (x.text, i) ∷ []) ns) ≡ H) h.fine
          (λ s e. ap (context s) (onto_push cs ns (x.text, i)) ∙ sym e) (λ s z e. sym e ∙ ap (context s) (onto_push cs ns (x.text, i)))))
