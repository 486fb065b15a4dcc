-- Rows with the columns in use: their types, and what they have in common with the whole rows. (What of it is said of any
-- columns stands in kl_flat/proofs/Shown.antt too; it belongs into kl_ask.)
use Rattle.std.proofs.Common.{◌≡◌, Bool, true, false, not, ◌||◌, cond, nat_eq, List, [], ◌∷◌, map, filter, Some, None, refl, sym, ap, ◌∙◌, subst}
use Rattle.std.specs.Cmp.Lexicographic.{pointwise, same_text}
use Rattle.std.specs.List.{AllByRecursion}
use Rattle.std.specs.List.Sorted.{IsStrictlySortedBy}
use Rattle.std.proofs.lemmas.List.Kept.{IsStrictlySortedBy-filter}
use Rattle.std.proofs.lemmas.Option.{same_Some}
use Rattle.std.proofs.lemmas.Cmp.{nat_list_eq_equiv}
use Rattle.kl_base.specs.Fields.{bytes_cmp, labels_of, LabelsRise, field}
use Rattle.kl_base.proofs.Each.{all_map}
use Rattle.kl_value.specs.IsCanonical.{IsCanonical, IsCanonicalLayer}
use Rattle.kl_value.specs.Views.{field_at, field_layer}
use Rattle.kl_value.specs.declared.Value.{Value, every_here-Value}
use Rattle.kl_value.specs.declared.Value.TheVariants as value
use Rattle.kl_value.proofs.IsCanonicalLemmas.{record_made}
use Rattle.kl_type.specs.Ground.{Ground, Row, bool, int, str, rec, var, coll, arrow, no_row, row, labels_in, at, IsGround, IsRow}
use Rattle.kl_outcome.specs.Outcome.{Name, as_record, record_layer}
use Rattle.kl_outcome.specs.Typed.{Has, HasFields, Inhabits}
use Rattle.kl_outcome.proofs.OutcomeTypes.{record_is, labels_same}
use Rattle.kl_type.proofs.RowLemmas.{drops, at_drops, drops_row}
use Rattle.kl_core.specs.Trees.{Tree}
use Rattle.kl_core.specs.Typing.{SourceTypes, CoreTypes}
use Rattle.kl_ask.specs.Asks.{columns, is_kept, shown, shown_fields, shown_row, shown_type}
use Rattle.kl_ask.proofs.Whole.{whole_row, whole_type}
use Rattle.kl_ship.specs.Delegation.{whole_use, column_use, in_use, or_first, first_of, kept_of}
use Rattle.kl_ship.proofs.Filtered.{all_filtered}
use Rattle.kl_ship.proofs.Uses.{SameIn}
use Rattle.kl_ship.proofs.UseTypes.{TypedIn, use_typed}

pub rising : (fs : List (Name × Value)) → IsCanonical (value.Rec fs) → LabelsRise fs
unfolding IsCanonical
rising fs h = subst IsCanonicalLayer (value.outs-Rec fs) (every_here-Value IsCanonicalLayer (value.Rec fs) h)

-- a field more where its label is kept
kept_field : (b : Bool) (l : Name) (t : Ground) (r : Row) (v : Value) (fs : List (Name × Value)) → Has t v → HasFields r fs → HasFields (cond b (row l t r) r) (cond b ((l, v) ∷ fs) fs)
kept_field true l t r v fs i h = (v, fs, refl, i, h)
kept_field false l t r v fs i h = h

pub labels_kept : (p : Name → Bool) (fs : List (Name × Value)) → labels_of (filter (λ f. p f.0) fs) ≡ filter p (labels_of fs)
labels_kept p [] = refl
labels_kept p (f ∷ fs) = by (p f.0) (labels_kept p fs)
  where
    by : (b : Bool) → labels_of (filter (λ g. p g.0) fs) ≡ filter p (labels_of fs)
        → labels_of (cond b (f ∷ filter (λ g. p g.0) fs) (filter (λ g. p g.0) fs)) ≡ cond b (f.0 ∷ filter p (labels_of fs)) (filter p (labels_of fs))
    by true more = ap (λ ls. f.0 ∷ ls) more
    by false more = more

module _ (keep : List Name) where
  abbrev kept : List (Name × Value) → List (Name × Value)
  kept fs = filter (λ f. is_kept keep f.0) fs

  kept_fields : (r : Row) (fs : List (Name × Value)) → HasFields r fs → HasFields (shown_row keep r) (kept fs)
  kept_fields no_row fs h = ap kept h
  kept_fields (row l t r) fs h =
      subst (λ gs. HasFields (shown_row keep (row l t r)) (kept gs)) (sym h.2) (kept_field (is_kept keep l) l t (shown_row keep r) h.0 (kept h.1) h.3 (kept_fields r h.1 h.4))

  pub shown_record : (r : Row) (v : Value) → Inhabits (rec r) v → Inhabits (shown_type keep (rec r)) (shown keep v)
  shown_record r v i =
      let parts = record_is r v i in
      let fs = parts.0 in
      let same : i.0.0 ≡ fs = same_Some _ _ (sym (ap as_record i.0.1 ∙ ap record_layer (value.outs-Rec i.0.0)) ∙ parts.1) in
      let up = rising fs (subst (λ gs. IsCanonical (value.Rec gs)) same (subst IsCanonical i.0.1 i.1)) in
      let made : value.Rec (kept fs) ≡ shown keep v = ap (shown_fields v keep) (sym parts.1) in
      subst (Inhabits (rec (shown_row keep r))) made (
        (kept fs, refl, kept_fields r fs parts.2.0),
        record_made (kept fs) (all_filtered (λ f. IsCanonical f.1) (λ f. is_kept keep f.0) fs parts.2.1) (subst (IsStrictlySortedBy bytes_cmp) (sym (labels_kept (is_kept keep) fs)) (IsStrictlySortedBy-filter bytes_cmp (is_kept keep) (labels_of fs) up)),
      )

-- ---- the columns in use are kept

-- each of these labels that is used is kept
abbrev KeepsUsed : (Name → Bool) → List Name → List Name → Type 0
KeepsUsed used keep all = AllByRecursion (λ m. used m ≡ true → is_kept keep m ≡ true) all

still_kept : (b : Bool) (l m : Name) (keep : List Name) → is_kept keep m ≡ true → is_kept (cond b (l ∷ keep) keep) m ≡ true
still_kept true l m keep h = by (pointwise nat_eq l m)
  where
    by : (c : Bool) → (c || is_kept keep m) ≡ true
    by true = refl
    by false = h
still_kept false l m keep h = h

used_kept : (used : Name → Bool) (all : List Name) → KeepsUsed used (filter used all) all
used_kept used [] = tt
used_kept used (l ∷ ls) = (
  λ h. ap (λ b. is_kept (cond b (l ∷ filter used ls) (filter used ls)) l) h ∙ ap (λ b. b || is_kept (filter used ls) l) (nat_list_eq_equiv.refl l),
  all_map (λ m. used m ≡ true → is_kept (filter used ls) m ≡ true) (λ m. used m ≡ true → is_kept (cond (used l) (l ∷ filter used ls) (filter used ls)) m ≡ true) ls
      (λ m h u. still_kept (used l) l m (filter used ls) (h u)) (used_kept used ls),
)

none_used : (used : Name → Bool) (keep : List Name) (all : List Name) → KeepsUsed used [] all → KeepsUsed used keep all
none_used used keep all h = all_map (λ m. used m ≡ true → is_kept [] m ≡ true) (λ m. used m ≡ true → is_kept keep m ≡ true) all (λ m g u. absurd (let f : false ≡ true = g u in cc)) h

first_kept : (used : Name → Bool) (keep all : List Name) → KeepsUsed used keep all → KeepsUsed used (or_first keep all) all
first_kept used [] all h = none_used used (first_of all) all h
first_kept used (k ∷ keep) all h = h

-- a row that is a record has the same under each kept label
field_shown : (keep : List Name) (used : Name → Bool) (fs : List (Name × Value)) → KeepsUsed used keep (labels_of fs) → (l : Name) → used l ≡ true → field l fs ≡ field l (kept keep fs)
field_shown keep used [] h l u = refl
field_shown keep used (f ∷ fs) h l u = by (pointwise nat_eq l f.0) refl (is_kept keep f.0) refl (field_shown keep used fs h.1 l u)
  where
    by : (b : Bool) → pointwise nat_eq l f.0 ≡ b → (c : Bool) → is_kept keep f.0 ≡ c → field l fs ≡ field l (kept keep fs)
        → cond b (Some f.1) (field l fs) ≡ field l (cond c (f ∷ kept keep fs) (kept keep fs))
    by true e true i more = sym (ap (λ d. cond d (Some f.1) (field l (kept keep fs))) e)
    by true e false i more =
        let same : l ≡ f.0 = same_text l f.0 (sym e) in
        let is : is_kept keep f.0 ≡ true = h.0 (ap used (sym same) ∙ u) in
        absurd (let g : false ≡ true = sym i ∙ is in cc)
    by false e true i more = more ∙ sym (ap (λ d. cond d (Some f.1) (field l (kept keep fs))) e)
    by false e false i more = more

-- ---- rows as a body uses them

all_again : (all : List Name) → or_first all all ≡ all
all_again [] = refl
all_again (l ∷ ls) = refl

whole_kept : (b : Tree) (u : Ground) → whole_use 0 b ≡ true → kept_of b u ≡ columns u
whole_kept b u h = ap (λ x. or_first (cond x (columns u) (filter (λ l. column_use 0 l b) (columns u))) (columns u)) h ∙ all_again (columns u)

parts_kept : (b : Tree) (u : Ground) → whole_use 0 b ≡ false → KeepsUsed (λ l. column_use 0 l b) (kept_of b u) (columns u)
parts_kept b u h =
    subst (λ x. KeepsUsed (λ l. column_use 0 l b) (or_first (cond x (columns u) (filter (λ l. column_use 0 l b) (columns u))) (columns u)) (columns u)) (sym h)
    (first_kept (λ l. column_use 0 l b) (filter (λ l. column_use 0 l b) (columns u)) (columns u) (used_kept (λ l. column_use 0 l b) (columns u)))

-- the same as the whole row, in what a body uses of it
abbrev pub ShownSame : Tree → Ground → Value → Type 0
ShownSame b u v = SameIn (whole_use 0 b) (λ l. column_use 0 l b) v (shown (kept_of b u) v)

whole_same : (b : Tree) (u : Ground) (v : Value) → Has u v → kept_of b u ≡ columns u → ShownSame b u v
whole_same b u v h e =
    let same : v ≡ shown (kept_of b u) v = sym (ap (λ ls. shown ls v) e ∙ whole_row u v h) in
    record { all = λ x. same; columns = λ l x. ap (field_at l) same }

record_same : (b : Tree) (r : Row) (v : Value) → Has (rec r) v → (w : Bool) → whole_use 0 b ≡ w → ShownSame b (rec r) v
record_same b r v h true is = whole_same b (rec r) v h (whole_kept b (rec r) is)
record_same b r v h false is = record {
  all = λ x. absurd (let f : false ≡ true = sym is ∙ x in cc);
  columns = λ l x.
      let keep = kept_of b (rec r) in
      let fs : List (Name × Value) = h.0 in
      let read : as_record v ≡ Some fs = ap as_record h.1 ∙ ap record_layer (value.outs-Rec fs) in
      let shows : shown keep v ≡ value.Rec (kept keep fs) = ap (shown_fields v keep) read in
      let used = subst (KeepsUsed (λ l. column_use 0 l b) keep) (sym (labels_same r fs h.2)) (parts_kept b (rec r) is) in
      ap (field_at l) h.1 ∙ ap (field_layer l) (value.outs-Rec fs)
      ∙ field_shown keep (λ l. column_use 0 l b) fs used l x
      ∙ sym (ap (field_at l) shows ∙ ap (field_layer l) (value.outs-Rec (kept keep fs)));
}

none_at_all : (b : Tree) → or_first (in_use 0 b []) [] ≡ []
none_at_all b = by (whole_use 0 b)
  where
    by : (w : Bool) → or_first (cond w [] []) [] ≡ []
    by true = refl
    by false = refl

pub shown_same : (b : Tree) (u : Ground) (v : Value) → Has u v → ShownSame b u v
shown_same b (rec r) v h = record_same b r v h (whole_use 0 b) refl
shown_same b bool v h = whole_same b bool v h (none_at_all b)
shown_same b int v h = whole_same b int v h (none_at_all b)
shown_same b str v h = whole_same b str v h (none_at_all b)
shown_same b (var r) v h = whole_same b (var r) v h (none_at_all b)
shown_same b (coll k t) v h = whole_same b (coll k t) v h (none_at_all b)
shown_same b (arrow s t) v h = absurd h

-- what is shown has the type that is shown
whole_inhabits : (u : Ground) (keep : List Name) (v : Value) → Inhabits u v → keep ≡ columns u → Inhabits (shown_type keep u) (shown keep v)
whole_inhabits u keep v h e =
    subst (λ ls. Inhabits (shown_type ls u) (shown ls v)) (sym e) (subst (λ t. Inhabits t (shown (columns u) v)) (sym (whole_type u)) (subst (Inhabits u) (sym (whole_row u v h.0)) h))

pub shown_inhabits : (b : Tree) (u : Ground) (v : Value) → Inhabits u v → Inhabits (shown_type (kept_of b u) u) (shown (kept_of b u) v)
shown_inhabits b (rec r) v h = shown_record (kept_of b (rec r)) r v h
shown_inhabits b bool v h = whole_inhabits bool (kept_of b bool) v h (none_at_all b)
shown_inhabits b int v h = whole_inhabits int (kept_of b int) v h (none_at_all b)
shown_inhabits b str v h = whole_inhabits str (kept_of b str) v h (none_at_all b)
shown_inhabits b (var r) v h = whole_inhabits (var r) (kept_of b (var r)) v h (none_at_all b)
shown_inhabits b (coll k t) v h = whole_inhabits (coll k t) (kept_of b (coll k t)) v h (none_at_all b)
shown_inhabits b (arrow s t) v h = absurd h.0

-- ---- the type of what is shown

is_drop : (keep : List Name) (r : Row) → shown_row keep r ≡ drops (λ l. not (is_kept keep l)) r
is_drop keep no_row = refl
is_drop keep (row l t r) = by (is_kept keep l) (is_drop keep r)
  where
    by : (b : Bool) → shown_row keep r ≡ drops (λ m. not (is_kept keep m)) r
        → cond b (row l t (shown_row keep r)) (shown_row keep r) ≡ cond (not b) (drops (λ m. not (is_kept keep m)) r) (row l t (drops (λ m. not (is_kept keep m)) r))
    by true e = ap (row l t) e
    by false e = e

pub shown_good : (keep : List Name) (r : Row) → IsRow r → IsRow (shown_row keep r)
shown_good keep r h = subst IsRow (sym (is_drop keep r)) (drops_row (λ l. not (is_kept keep l)) r h)

whole_ground : (keep : List Name) (u : Ground) → keep ≡ columns u → IsGround u → IsGround (shown_type keep u)
whole_ground keep u e good = subst (λ ls. IsGround (shown_type ls u)) (sym e) (subst IsGround (sym (whole_type u)) good)

pub all_ground : (u : Ground) → IsGround u → IsGround (shown_type (columns u) u)
all_ground u good = whole_ground (columns u) u refl good

-- what is shown is of a ground type where the rows are
pub shown_ground : (b : Tree) (u : Ground) → IsGround u → IsGround (shown_type (kept_of b u) u)
shown_ground b (rec r) good = shown_good (kept_of b (rec r)) r good
shown_ground b bool good = whole_ground (kept_of b bool) bool (none_at_all b) good
shown_ground b int good = whole_ground (kept_of b int) int (none_at_all b) good
shown_ground b str good = whole_ground (kept_of b str) str (none_at_all b) good
shown_ground b (var r) good = whole_ground (kept_of b (var r)) (var r) (none_at_all b) good
shown_ground b (coll k t) good = whole_ground (kept_of b (coll k t)) (coll k t) (none_at_all b) good
shown_ground b (arrow s t) good = absurd good

at_shown : (keep : List Name) (l : Name) (r : Row) → is_kept keep l ≡ true → at l (shown_row keep r) ≡ at l r
at_shown keep l r h =
    ap (at l) (is_drop keep r) ∙ at_drops (λ m. not (is_kept keep m)) l r ∙ ap (λ b. cond (not b) None (at l r)) h

label_kept : (keep : List Name) (used : Name → Bool) (r : Row) → KeepsUsed used keep (labels_in r) → (l : Name) (s : Ground) → at l r ≡ Some s → used l ≡ true → is_kept keep l ≡ true
label_kept keep used no_row h l s e u = cc
label_kept keep used (row m t r) h l s e u = by (pointwise nat_eq l m) refl (λ f. label_kept keep used r h.1 l s f u)
  where
    by : (b : Bool) → pointwise nat_eq l m ≡ b → (at l r ≡ Some s → is_kept keep l ≡ true) → is_kept keep l ≡ true
    by true is more = let same : l ≡ m = same_text l m (sym is) in ap (is_kept keep) same ∙ h.0 (ap used (sym same) ∙ u)
    by false is more = more (sym (ap (λ b. cond b (Some t) (at l r)) is) ∙ e)

row_typed : (b : Tree) (r : Row) (w : Bool) → whole_use 0 b ≡ w → TypedIn (whole_use 0 b) (λ l. column_use 0 l b) (rec r) (rec (shown_row (kept_of b (rec r)) r))
row_typed b r true is =
    let same : rec r ≡ rec (shown_row (kept_of b (rec r)) r) = sym (ap (λ ls. rec (shown_row ls r)) (whole_kept b (rec r) is) ∙ whole_type (rec r)) in
    record { all = λ x. same; columns = λ l x q s e h. let f : rec (shown_row (kept_of b (rec r)) r) ≡ rec q = sym same ∙ e in (q, f, h) }
row_typed b r false is = record {
  all = λ x. absurd (let f : false ≡ true = sym is ∙ x in cc);
  columns = λ l x q s e h.
      let same : r ≡ q = cc in
      let g : at l r ≡ Some s = ap (at l) same ∙ h in
      (shown_row (kept_of b (rec r)) r, refl, at_shown (kept_of b (rec r)) l r (label_kept (kept_of b (rec r)) (λ m. column_use 0 m b) r (parts_kept b (rec r) is) l s g x) ∙ g);
}

module _ (S : SourceTypes) where
  whole_sense : (b : Tree) (u : Ground) (keep : List Name) (G : List Ground) (s : Ground) → keep ≡ columns u → CoreTypes S (u ∷ G) b s → CoreTypes S (shown_type keep u ∷ G) b s
  whole_sense b u keep G s e h = subst (λ ls. CoreTypes S (shown_type ls u ∷ G) b s) (sym e) (subst (λ t. CoreTypes S (t ∷ G) b s) (sym (whole_type u)) h)

  -- a body makes sense over the columns in use
  pub shown_sense : (b : Tree) (u : Ground) (G : List Ground) (s : Ground) → IsGround u → CoreTypes S (u ∷ G) b s → CoreTypes S (shown_type (kept_of b u) u ∷ G) b s
  shown_sense b (rec r) G s good h = use_typed S (rec r) (rec (shown_row (kept_of b (rec r)) r)) (shown_good (kept_of b (rec r)) r good) b [] G 0 s refl (row_typed b r (whole_use 0 b) refl) h
  shown_sense b bool G s good h = whole_sense b bool (kept_of b bool) G s (none_at_all b) h
  shown_sense b int G s good h = whole_sense b int (kept_of b int) G s (none_at_all b) h
  shown_sense b str G s good h = whole_sense b str (kept_of b str) G s (none_at_all b) h
  shown_sense b (var r) G s good h = whole_sense b (var r) (kept_of b (var r)) G s (none_at_all b) h
  shown_sense b (coll k t) G s good h = whole_sense b (coll k t) (kept_of b (coll k t)) G s (none_at_all b) h
  shown_sense b (arrow a t) G s good h = absurd good

  pub all_shown_sense : (b : Tree) (u : Ground) (G : List Ground) (s : Ground) → CoreTypes S (u ∷ G) b s → CoreTypes S (shown_type (columns u) u ∷ G) b s
  all_shown_sense b u G s h = whole_sense b u (columns u) G s refl h

-- ---- the answers are of the type that is shown

all_answers : (P Q : Value → Type 0) (keep : List Name) (p : Value → Bool) → ((v : Value) → P v → Q (shown keep v)) → (rows : List Value) → AllByRecursion P rows → AllByRecursion Q (map (shown keep) (filter p rows))
all_answers P Q keep p f [] h = tt
all_answers P Q keep p f (v ∷ rows) h = by (p v) (all_answers P Q keep p f rows h.1)
  where
    by : (b : Bool) → AllByRecursion Q (map (shown keep) (filter p rows)) → AllByRecursion Q (map (shown keep) (cond b (v ∷ filter p rows) (filter p rows)))
    by true more = (f v h.0, more)
    by false more = more

pub shown_answers : (b : Tree) (u : Ground) (p : Value → Bool) (rows : List Value) → AllByRecursion (Inhabits u) rows → AllByRecursion (Inhabits (shown_type (kept_of b u) u)) (map (shown (kept_of b u)) (filter p rows))
shown_answers b u p rows h = all_answers (Inhabits u) (Inhabits (shown_type (kept_of b u) u)) (kept_of b u) p (shown_inhabits b u) rows h

pub whole_shown_answers : (u : Ground) (p : Value → Bool) (rows : List Value) → AllByRecursion (Inhabits u) rows → AllByRecursion (Inhabits (shown_type (columns u) u)) (map (shown (columns u)) (filter p rows))
whole_shown_answers u p rows h = all_answers (Inhabits u) (Inhabits (shown_type (columns u) u)) (columns u) p (λ v i. whole_inhabits u (columns u) v i refl) rows h
