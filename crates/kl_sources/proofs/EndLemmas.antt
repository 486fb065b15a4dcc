-- What the whole call comes to.
use Rattle.std.proofs.Common.{◌≡◌, ◌⊎◌, ◌<◌, ◌≤◌, ℕ, zero, suc, ◌+◌, Bool, true, false, List, [], ◌∷◌, ◌++◌, length, take, Option, Some, None, Result, Ok, Err, refl, sym, ap, subst, ◌∙◌, arith, inl, inr, get_or, slice_get, zero-add, add-zero, add-one}
use Rattle.std.proofs.lemmas.Bool.{cases_eq, cases_lt}
use Rattle.std.proofs.lemmas.Option.{slice_get_read, slice_get_within, same_Some}
use Rattle.std.specs.Result.{MatchResult}
use Rattle.kl_value.specs.declared.Value.{Value}
use Rattle.kl_type.specs.declared.Ty.{Ty}
use Rattle.kl_outcome.specs.Outcome.{Name}
use Rattle.kl_ask.specs.Driver.{DriverKind, State, Stored, Missing, Bad, Long, Deep, Rows, stored_by}
use Rattle.kl_ask.specs.Lists.{EachSteps}
use Rattle.kl_ask.specs.declared.ask.DriverError.{DriverError}
use Rattle.kl_ask.specs.declared.ask.DriverError.TheVariants as error
use Rattle.kl_ask.specs.declared.session.Attached.{Attached}
use Rattle.kl_sources.specs.declared.attaching.AttachError.{AttachError}
use Rattle.kl_sources.specs.declared.source.Source.{Source}
use Rattle.kl_sources.specs.declared.walking.Refused.{Refused}
use Rattle.kl_sources.specs.Sources.{ArePlaced, IsSuited, kinds_of, contents, contents_at, HasRows, HaveValues, IsValueAt, IsReadable, FirstWithout, value_of, empty_of}
use Rattle.kl_sources.specs.Attaching.{AgreeBelow, AttachesAll, HaveNone, HasTyped, IsErrorOf, IsMarkedAt, IsMishap, IsRefusalOf, IsUnread, MayAttach, NoVerdict, StandsWithout, list_of, listed}
use Rattle.kl_sources.specs.Walking.{AttachesBelow, IsWant, MayAttachBelow, StopsAt, WalksAll, WalksToEnd}
use Rattle.kl_sources.proofs.Lists.{element, of_all}
use Rattle.kl_sources.proofs.NameLemmas.{one_of_name}
use Rattle.kl_sources.proofs.SessionLemmas.{serves, shifts}
use Rattle.kl_sources.proofs.StepLemmas.{begins}

-- ---- the list

more_of : (marks : ℕ → Bool) (n i : ℕ) (ss : List Source) (s : Source) → slice_get ss i ≡ Some s → list_of marks n (take (suc i) ss) ≡ list_of marks n (take i ss) ++ listed (marks (n + i)) s ∷ []
more_of marks n i [] s is = absurd cc
more_of marks n zero (x ∷ ss) s is = ap (λ (q : Source). listed (marks n) q ∷ []) (same_Some _ _ is) ∙ ap (λ k. listed (marks k) s ∷ []) (sym (add-zero n))
more_of marks n (suc i) (x ∷ ss) s is =
    ap (λ l. listed (marks n) x ∷ l) (more_of marks (suc n) i ss s is)
    ∙ ap (λ b. listed (marks n) x ∷ (list_of marks (suc n) (take i ss) ++ listed b s ∷ [])) (shifts marks n i)

pub list_more : (marks : ℕ → Bool) (i : ℕ) (ss : List Source) (s : Source) (m : Bool) (before after : List Attached) → slice_get ss i ≡ Some s → m ≡ marks i → before ≡ list_of marks 0 (take i ss) → after ≡ before ++ listed m s ∷ [] → after ≡ list_of marks 0 (take (i + 1) ss)
list_more marks i ss s m before after is marked so_far more =
    more ∙ ap (λ b. before ++ listed b s ∷ []) (marked ∙ ap marks (sym (zero-add i))) ∙ ap (λ l. l ++ listed (marks (0 + i)) s ∷ []) so_far
    ∙ sym (more_of marks 0 i ss s is) ∙ ap (λ k. list_of marks 0 (take k ss)) (sym (add-one i))

list_agrees : (marks others : ℕ → Bool) (n : ℕ) (ss : List Source) → ((i : ℕ) → i < length ss → marks (n + i) ≡ others (n + i)) → list_of others n ss ≡ list_of marks n ss
list_agrees marks others n [] same = refl
list_agrees marks others n (s ∷ ss) same =
    ap (λ b. listed b s ∷ list_of others (suc n) ss) (ap others (sym (add-zero n)) ∙ sym (same 0 (omega arith)) ∙ ap marks (add-zero n))
    ∙ ap (λ l. listed (marks n) s ∷ l) (list_agrees marks others (suc n) ss (λ i lt. shifts marks n i ∙ same (suc i) (omega (arith, lt)) ∙ sym (shifts others n i)))

-- ---- sources by their place

record FirstAt (ks : List DriverKind) (marks : ℕ → Bool) (n : ℕ) (ss : List Source) (s : Source) (w : Stored) : Type 0 where
  place : ℕ
  there : slice_get ss place ≡ Some s
  marked : marks (n + place) ≡ true
  stands : contents ks s ≡ Some w
  without : HasRows ks s → ⊥
  before : (i : ℕ) (t : Source) → i < place → slice_get ss i ≡ Some t → marks (n + i) ≡ true → HasRows ks t

readable_rows : (ks : List DriverKind) (b : Bool) (t : Source) → IsReadable ks b t → b ≡ true → HasRows ks t
readable_rows ks true t h e = h
readable_rows ks false t h e = absurd cc

rows_readable : (ks : List DriverKind) (b : Bool) (t : Source) → (b ≡ true → HasRows ks t) → IsReadable ks b t
rows_readable ks true t f = f refl
rows_readable ks false t f = tt

first_at : (ks : List DriverKind) (marks : ℕ → Bool) (n : ℕ) (ss : List Source) (s : Source) (w : Stored) → FirstWithout ks marks n ss s w → FirstAt ks marks n ss s w
first_at ks marks n [] s w h = absurd h
first_at ks marks n (t ∷ ts) s w (inl h) = record {
  place = 0;
  there = ap Some (sym h.1);
  marked = ap marks (add-zero n) ∙ h.0;
  stands = ap (contents ks) h.1 ∙ h.2;
  without = λ r. h.3 (subst (HasRows ks) h.1 r);
  before = λ i u lt is mk. absurd (omega (arith, lt));
}
first_at ks marks n (t ∷ ts) s w (inr h) =
    let r = first_at ks marks (suc n) ts s w h.1 in
    record {
      place = suc r.place;
      there = r.there;
      marked = sym (shifts marks n r.place) ∙ r.marked;
      stands = r.stands;
      without = r.without;
      before = before_more r;
    }
  where
    before_more : (r : FirstAt ks marks (suc n) ts s w) (i : ℕ) (u : Source) → i < suc r.place → slice_get (t ∷ ts) i ≡ Some u → marks (n + i) ≡ true → HasRows ks u
    before_more r zero u lt is mk = subst (HasRows ks) (same_Some _ _ is) (readable_rows ks (marks n) t h.0 (ap marks (sym (add-zero n)) ∙ mk))
    before_more r (suc i) u lt is mk = r.before i u (omega (arith, lt)) is (shifts marks n i ∙ mk)

first_without : (ks : List DriverKind) (marks : ℕ → Bool) (n : ℕ) (ss : List Source) (s : Source) (w : Stored) (p : ℕ) → slice_get ss p ≡ Some s → marks (n + p) ≡ true → contents ks s ≡ Some w → (HasRows ks s → ⊥)
    → ((i : ℕ) (t : Source) → i < p → slice_get ss i ≡ Some t → marks (n + i) ≡ true → HasRows ks t) → FirstWithout ks marks n ss s w
first_without ks marks n [] s w p is mk stands without before = absurd cc
first_without ks marks n (t ∷ ts) s w zero is mk stands without before =
    let e : t ≡ s = same_Some _ _ is in
    inl (ap marks (sym (add-zero n)) ∙ mk, sym e, ap (contents ks) e ∙ stands, λ r. without (subst (HasRows ks) e r))
first_without ks marks n (t ∷ ts) s w (suc p) is mk stands without before =
    inr (
      rows_readable ks (marks n) t (λ e. before 0 t (omega arith) refl (ap marks (add-zero n) ∙ e)),
      first_without ks marks (suc n) ts s w p is (shifts marks n p ∙ mk) stands without (λ i u lt there m. before (suc i) u (omega (arith, lt)) there (sym (shifts marks n i) ∙ m)),
    )

value_rows : (ks : List DriverKind) (b : Bool) (s : Source) (v : Value) → IsValueAt ks b s v → b ≡ true → HasRows ks s
value_rows ks true s v h e = (h.0, h.1)
value_rows ks false s v h e = absurd cc

values_rows : (ks : List DriverKind) (marks : ℕ → Bool) (n : ℕ) (ss : List Source) (vs : List (Name × Value)) → HaveValues ks marks n ss vs → (i : ℕ) (t : Source) → slice_get ss i ≡ Some t → marks (n + i) ≡ true → HasRows ks t
values_rows ks marks n [] vs h i t is mk = absurd cc
values_rows ks marks n (s ∷ ss) vs h zero t is mk = subst (HasRows ks) (same_Some _ _ is) (value_rows ks (marks n) s h.0 h.3 (ap marks (sym (add-zero n)) ∙ mk))
values_rows ks marks n (s ∷ ss) vs h (suc i) t is mk = values_rows ks marks (suc n) ss h.1 h.4 i t is (shifts marks n i ∙ mk)

value_for : (ks : List DriverKind) (b : Bool) (s : Source) → (b ≡ true → HasRows ks s) → (v : Value) × IsValueAt ks b s v
value_for ks true s f = let r = f refl in (value_of s r.0, (r.0, r.1, refl))
value_for ks false s f = (empty_of s, refl)

values_for : (ks : List DriverKind) (marks : ℕ → Bool) (n : ℕ) (ss : List Source) → ((i : ℕ) (t : Source) → slice_get ss i ≡ Some t → marks (n + i) ≡ true → HasRows ks t) → (vs : List (Name × Value)) × HaveValues ks marks n ss vs
values_for ks marks n [] f = ([], refl)
values_for ks marks n (s ∷ ss) f =
    let one = value_for ks (marks n) s (λ e. f 0 s refl (ap marks (add-zero n) ∙ e)) in
    let rest = values_for ks marks (suc n) ss (λ i t is mk. f (suc i) t is (sym (shifts marks n i) ∙ mk)) in
    ((s.name, one.0) ∷ rest.0, (one.0, rest.0, refl, one.1, rest.1))

-- ---- what is told

typed_rows : (ks : List DriverKind) (s : Source) (w : Stored) → HasTyped s (contents ks s) → contents ks s ≡ Some w → HasRows ks s
typed_rows ks s w h e = by_stored w e (subst (HasTyped s) e h)
  where
    by_stored : (w : Stored) → contents ks s ≡ Some w → HasTyped s (Some w) → HasRows ks s
    by_stored Missing e h = absurd h
    by_stored (Bad place) e h = absurd h
    by_stored (Long most) e h = absurd h
    by_stored (Deep place) e h = absurd h
    by_stored (Rows rows) e h = (rows, e)

no_rows : (ks : List DriverKind) (s : Source) → contents ks s ≡ None → HasRows ks s → ⊥
no_rows ks s none r = let e = r.1 in absurd cc

error_rows : (ks : List DriverKind) (s : Source) (w : Stored) (e : DriverError) → IsErrorOf w e → contents ks s ≡ Some w → HasRows ks s → ⊥
error_rows ks s w e error_of stands r = by_stored w error_of (same_Some _ _ (sym stands ∙ r.1))
  where
    by_stored : (w : Stored) → IsErrorOf w e → w ≡ Rows r.0 → ⊥
    by_stored Missing h q = absurd cc
    by_stored (Bad place) h q = absurd cc
    by_stored (Long most) h q = absurd cc
    by_stored (Deep place) h q = absurd cc
    by_stored (Rows rows) h q = h

abbrev AllTyped : List DriverKind → (ℕ → Bool) → List Source → ℕ → Type 0
AllTyped ks marks ss n = (i : ℕ) (t : Source) → i < n → slice_get ss i ≡ Some t → marks i ≡ true → HasTyped t (contents ks t)

abbrev AllRows : List DriverKind → (ℕ → Bool) → List Source → ℕ → Type 0
AllRows ks marks ss n = (i : ℕ) (t : Source) → i < n → slice_get ss i ≡ Some t → marks i ≡ true → HasRows ks t

record UntoldAt (ks : List DriverKind) (marks : ℕ → Bool) (ss : List Source) (n : ℕ) : Type 0 where
  place : ℕ
  source : Source
  within : place < n
  there : slice_get ss place ≡ Some source
  marked : marks place ≡ true
  none : contents ks source ≡ None

module _ (ks : List DriverKind) (marks : ℕ → Bool) (ss : List Source) where
  rows_more : (n : ℕ) → AllRows ks marks ss n → ((t : Source) → slice_get ss n ≡ Some t → marks n ≡ true → HasRows ks t) → AllRows ks marks ss (suc n)
  rows_more n all here i t lt is mk = elim (cases_eq i n) [
    | inl e ↦ here t (ap (slice_get ss) (sym e) ∙ is) (ap marks (sym e) ∙ mk)
    | inr ne ↦ all i t (omega (arith, lt, ne)) is mk
  ]

  told_more : (n : ℕ) → AllRows ks marks ss n → AllTyped ks marks ss (suc n) → (o : Option Source) → slice_get ss n ≡ o → (b : Bool) → marks n ≡ b → AllRows ks marks ss (suc n) ⊎ UntoldAt ks marks ss (suc n)
  told_more n all typed None is b mk = inl (rows_more n all (λ t e m. absurd cc))
  told_more n all typed (Some s) is false mk = inl (rows_more n all (λ t e m. absurd cc))
  told_more n all typed (Some s) is true mk = by_contents (contents ks s) refl
    where
      by_contents : (o : Option Stored) → contents ks s ≡ o → AllRows ks marks ss (suc n) ⊎ UntoldAt ks marks ss (suc n)
      by_contents None e = inr (record { place = n; source = s; within = omega arith; there = is; marked = mk; none = e })
      by_contents (Some w) e = inl (rows_more n all (λ t there m. subst (HasRows ks) (same_Some _ _ (sym is ∙ there)) (typed_rows ks s w (typed n s (omega arith) is mk) e)))

  told_or_not : (n : ℕ) → AllTyped ks marks ss n → AllRows ks marks ss n ⊎ UntoldAt ks marks ss n
  told_or_not zero typed = inl (λ i t lt is mk. absurd (omega (arith, lt)))
  told_or_not (suc n) typed = elim (told_or_not n (λ i t lt is mk. typed i t (omega (arith, lt)) is mk)) [
    | inl all ↦ told_more n all typed (slice_get ss n) refl (marks n) refl
    | inr u ↦ inr (record { place = u.place; source = u.source; within = omega (arith, u.within); there = u.there; marked = u.marked; none = u.none })
  ]

  module _ (placed : ArePlaced ks ss) where
    silent_driver : (i : ℕ) (s : Source) → slice_get ss i ≡ Some s → contents ks s ≡ None → (i : ℕ) × (k : DriverKind) × (slice_get ks i ≡ Some k) × (k.stored ≡ None)
    silent_driver i s is none =
        let suited = of_all (IsSuited ks) ss i s placed.suited is in
        (s.driver, suited.0, suited.1, silent suited.0.stored refl (ap (contents_at s) (sym suited.1) ∙ none))
      where
        silent : {o : Option (List ℕ → Ty → Stored)} (p : Option (List ℕ → Ty → Stored)) → o ≡ p → stored_by p s.locator s.ty ≡ None → o ≡ None
        silent None e h = e
        silent (Some f) e h = absurd cc

    -- a source that is not told, behind ones that are attached
    no_verdict : (n : ℕ) → AllTyped ks marks ss n → (s : Source) → slice_get ss n ≡ Some s → marks n ≡ true → contents ks s ≡ None → NoVerdict ks marks ss
    no_verdict n typed s is mk none = record {
      driver = silent_driver n s is none;
      no_values = λ vs h. no_rows ks s none (values_rows ks marks 0 ss vs h n s is (ap marks (zero-add n) ∙ mk));
      no_first = λ t w h. not_first t w (first_at ks marks 0 ss t w h);
    }
      where
        not_first : (t : Source) (w : Stored) → FirstAt ks marks 0 ss t w → ⊥
        not_first t w f = elim (cases_lt f.place n) [
          | inl lt ↦ f.without (typed_rows ks t w (typed f.place t lt f.there (ap marks (sym (zero-add f.place)) ∙ f.marked)) f.stands)
          | inr le ↦ elim (cases_eq f.place n) [
            | inl e ↦ (let same : t ≡ s = same_Some _ _ (sym f.there ∙ ap (slice_get ss) e ∙ is) in let q : contents ks s ≡ Some w = subst (λ u. contents ks u ≡ Some w) same f.stands in absurd cc)
            | inr ne ↦ no_rows ks s none (f.before n s (omega (arith, le, ne)) is (ap marks (zero-add n) ∙ mk))
          ]
        ]

    untold_verdict : (n : ℕ) → AllTyped ks marks ss n → UntoldAt ks marks ss n → NoVerdict ks marks ss
    untold_verdict n typed u = no_verdict u.place (λ i t lt is mk. typed i t (omega (arith, lt, u.within)) is mk) u.source u.there u.marked u.none

-- ---- other marks that say the same

module _ (marks others : ℕ → Bool) (ss : List Source) (agree : AgreeBelow (length ss) others marks) (old new : List State) where
  same_at : (i : ℕ) (s : Source) → slice_get ss i ≡ Some s → others i ≡ marks i
  same_at i s is = agree i (slice_get_within ss i s is)

  below_agrees : (n : ℕ) → AttachesBelow n marks ss old new → AttachesBelow n others ss old new
  below_agrees n below = record {
    own = λ i a b ha hb. let m = below.own i a b ha hb in record {
      others = λ x never. m.others x (λ h. never (as_well h));
      untouched = λ never. m.untouched (λ x h. never x (as_well h));
    };
    drivers = record { size = below.drivers.size; each = λ i a b ha hb. may (below.drivers.each i a b ha hb) };
    stand = λ i s lt is mk. below.stand i s lt is (sym (same_at i s is) ∙ mk);
  }
    where
      as_well : {i : ℕ} {x : Name} → IsMarkedAt marks ss i x → IsMarkedAt others ss i x
      as_well h = (h.0, h.1, h.2, same_at h.0 h.1 h.2 ∙ h.3, h.4, h.5)

      may : {a b : State} → MayAttachBelow n marks ss a b → MayAttachBelow n others ss a b
      may m = record { keeps = m.keeps; cursors = m.cursors; asked = m.asked; handed = m.handed; drifts = m.drifts; others = λ x never. m.others x (λ h. never (h.0, h.1, h.2, h.3, same_at h.0 h.1 h.3 ∙ h.4, h.5)) }

  stops_agrees : (r : Refused) → StopsAt marks ss old new r → StopsAt others ss old new r
  stops_agrees r stops = record {
    count = stops.count;
    below = below_agrees stops.count stops.below;
    source = stops.source;
    there = stops.there;
    cause = elim stops.cause [
      | inl h ↦ inl h
      | inr h ↦ inr (h.0, same_at r.place stops.source stops.there ∙ h.1, h.2)
    ];
  }

-- ---- the whole call

module _ (marks : ℕ → Bool) (ss : List Source) (old new : List State) (placed : ArePlaced (kinds_of old) ss) where
  all_steps : (n : ℕ) → AttachesBelow n marks ss old new → EachSteps (MayAttach marks ss) old new
  all_steps n below = record { size = below.drivers.size; each = λ i a b ha hb. may (below.drivers.each i a b ha hb) }
    where
      may : {a b : State} → MayAttachBelow n marks ss a b → MayAttach marks ss a b
      may m = record { keeps = m.keeps; cursors = m.cursors; asked = m.asked; handed = m.handed; drifts = m.drifts; others = λ x never. m.others x (λ h. never (h.0, h.1, h.3, h.4, h.5)) }

  typed_below : (n : ℕ) → AttachesBelow n marks ss old new → AllTyped (kinds_of old) marks ss n
  typed_below n below i t lt is mk = (below.stand i t lt is mk).typed

  to_end : (all : List Attached) → WalksToEnd marks ss all old new → AttachesAll marks ss (Ok all) old new
  to_end all h = record {
    drivers = all_steps (length ss) h.below;
    own = h.below.own;
    list = h.list;
    stand = λ i s is mk. h.below.stand i s (slice_get_within ss i s is) is mk;
    ready = λ settings trace fetch. serves (kinds_of old) marks ss placed new (λ i s is mk. h.below.stand i s (slice_get_within ss i s is) is mk) all h.list settings trace fetch;
    values = elim (told_or_not (kinds_of old) marks ss (length ss) typed) [
      | inl rows ↦ inl (values_for (kinds_of old) marks 0 ss (λ i t is mk. rows i t (slice_get_within ss i t is) is (ap marks (sym (zero-add i)) ∙ mk)))
      | inr u ↦ inr (untold_verdict (kinds_of old) marks ss placed (length ss) typed u)
    ];
    refused = λ s w first. let f = first_at (kinds_of old) marks 0 ss s w first in
        f.without (typed_rows (kinds_of old) s w (typed f.place s (slice_get_within ss f.place s f.there) f.there (ap marks (sym (zero-add f.place)) ∙ f.marked)) f.stands);
    cause = tt;
  }
    where
      typed : AllTyped (kinds_of old) marks ss (length ss)
      typed = typed_below (length ss) h.below

  module _ (r : Refused) (stops : StopsAt marks ss old new r) (e : AttachError) (named : e.source ≡ stops.source.name) (with_error : e.error ≡ r.error) where
    typed_before : AllTyped (kinds_of old) marks ss stops.count
    typed_before = typed_below stops.count stops.below

    -- a first source without rows is the one that is refused
    refused_first : (s : Source) (w : Stored) → FirstAt (kinds_of old) marks 0 ss s w → IsRefusalOf ss s w old new e
    refused_first s w f = elim stops.cause [
      | inl want ↦ inr (mishap_here (inr want))
      | inr h ↦ elim h.2 [
        | inl mishap ↦ inr (mishap_here mishap)
        | inr (inl g) ↦ at_first h.0 h.1 (λ same. inl (named ∙ ap (λ (q : Source). q.name) same, subst (λ d. IsErrorOf w d) (sym with_error) (subst (λ v. IsErrorOf v r.error) (same_Some _ _ (sym g.2 ∙ ap (contents (kinds_of old)) same ∙ f.stands)) g.1)))
            (error_rows (kinds_of old) stops.source g.0 r.error g.1 g.2)
        | inr (inr g) ↦ at_first h.0 h.1 (λ same. absurd (let q : contents (kinds_of old) s ≡ None = ap (contents (kinds_of old)) (sym same) ∙ g.1 in let p = f.stands in cc)) (no_rows (kinds_of old) stops.source g.1)
      ]
    ]
      where
        mishap_here : IsMishap stops.source r.error old new → (i : ℕ) × (t : Source) × (slice_get ss i ≡ Some t) × (e.source ≡ t.name) × IsMishap t e.error old new
        mishap_here mishap = (r.place, stops.source, stops.there, named, subst (λ d. IsMishap stops.source d old new) (sym with_error) mishap)

        at_first : stops.count ≡ r.place → marks r.place ≡ true → (stops.source ≡ s → IsRefusalOf ss s w old new e) → (HasRows (kinds_of old) stops.source → ⊥) → IsRefusalOf ss s w old new e
        at_first counted mk here never = elim (cases_lt f.place r.place) [
          | inl lt ↦ absurd (f.without (typed_rows (kinds_of old) s w (typed_before f.place s (omega (arith, lt, counted)) f.there (ap marks (sym (zero-add f.place)) ∙ f.marked)) f.stands))
          | inr le ↦ elim (cases_eq f.place r.place) [
            | inl same_place ↦ here (same_Some _ _ (sym stops.there ∙ ap (slice_get ss) (sym same_place) ∙ f.there))
            | inr ne ↦ absurd (never (f.before r.place stops.source (omega (arith, le, ne)) stops.there (ap marks (zero-add r.place) ∙ mk)))
          ]
        ]

    stands_without : stops.count ≡ r.place → marks r.place ≡ true → (w : Stored) → IsErrorOf w r.error → contents (kinds_of old) stops.source ≡ Some w → StandsWithout (kinds_of old) marks ss stops.source r.error
    stands_without counted mk w error_of stands = (
      w,
      error_of,
      stands,
      elim (told_or_not (kinds_of old) marks ss stops.count typed_before) [
        | inl rows ↦ inl (first_without (kinds_of old) marks 0 ss stops.source w r.place stops.there (ap marks (zero-add r.place) ∙ mk) stands (error_rows (kinds_of old) stops.source w r.error error_of stands)
            (λ i t lt is m. rows i t (omega (arith, lt, counted)) is (ap marks (sym (zero-add i)) ∙ m)))
        | inr u ↦ inr (untold_verdict (kinds_of old) marks ss placed stops.count typed_before u)
      ],
    )

    abbrev CauseOf : DriverError → Type 0
    CauseOf d = IsMishap stops.source d old new ⊎ StandsWithout (kinds_of old) marks ss stops.source d ⊎ IsUnread (kinds_of old) marks ss stops.source d old new

    cause_here : CauseOf r.error
    cause_here = elim stops.cause [
      | inl want ↦ inl (inr want)
      | inr h ↦ elim h.2 [
        | inl mishap ↦ inl mishap
        | inr (inl g) ↦ inr (inl (stands_without h.0 h.1 g.0 g.1 g.2))
        | inr (inr g) ↦ inr (inr (g.0, g.1, no_verdict (kinds_of old) marks ss placed r.place (subst (AllTyped (kinds_of old) marks ss) h.0 typed_before) stops.source stops.there h.1 g.1, g.2))
      ]
    ]

    -- what is attached has a name of the sources before
    not_attached : HaveNone old → (i : ℕ) (s : Source) → stops.count ≤ i → slice_get ss i ≡ Some s → (k : ℕ) (d : State) → slice_get new k ≡ Some d → d.attached s.name ≡ None
    not_attached clear i s le is k d there =
        let a = element old k (omega (arith, slice_get_within new k d there, stops.below.drivers.size)) in
        (stops.below.drivers.each k a.0 d a.1 there).others s.name (λ h. absurd (let same_place : h.0 ≡ i = one_of_name ss h.0 i h.1 s placed.differ h.3 is h.5 in omega (arith, h.2, le, same_place)))
        ∙ clear k a.0 a.1 s.name

    to_stop : HaveNone old → AttachesAll marks ss (Err e) old new
    to_stop clear = record {
      drivers = all_steps stops.count stops.below;
      own = stops.below.own;
      list = tt;
      stand = tt;
      ready = tt;
      values = tt;
      refused = λ s w first. refused_first s w (first_at (kinds_of old) marks 0 ss s w first);
      cause = record {
        place = r.place;
        refused = stops.source;
        there = stops.there;
        named = sym named;
        marked = λ enough. elim stops.cause [ inl want ↦ absurd (enough (with_error ∙ want)) | inr h ↦ h.1 ];
        cause = subst CauseOf (sym with_error) cause_here;
        before = λ enough i s lt is mk. elim stops.cause [
          | inl want ↦ absurd (enough (with_error ∙ want))
          | inr h ↦ stops.below.stand i s (omega (arith, lt, h.0)) is mk
        ];
        behind = λ enough i s le is. elim stops.cause [
          | inl want ↦ absurd (enough (with_error ∙ want))
          | inr h ↦ not_attached clear i s (omega (arith, le, h.0)) is
        ];
      };
    }

module _ (marks : ℕ → Bool) (ss : List Source) (old new : List State) (placed : ArePlaced (kinds_of old) ss) where
  pub whole_ok : (all : List Attached) → WalksToEnd marks ss all old new → (others : ℕ → Bool) → AgreeBelow (length ss) others marks → AttachesAll others ss (Ok all) old new
  whole_ok all h others agree = to_end others ss old new placed all (record {
    below = below_agrees marks others ss agree old new (length ss) h.below;
    list = h.list ∙ list_agrees others marks 0 ss (λ i lt. ap others (zero-add i) ∙ agree i lt ∙ ap marks (sym (zero-add i)));
  })

  pub whole_err : HaveNone old → (r : Refused) → StopsAt marks ss old new r → (s : Source) → slice_get ss r.place ≡ Some s → (e : AttachError) → e.source ≡ s.name → e.error ≡ r.error → (others : ℕ → Bool) → AgreeBelow (length ss) others marks → AttachesAll others ss (Err e) old new
  whole_err clear r stops s is e named with_error others agree =
      let other = stops_agrees marks others ss agree old new r stops in
      to_stop others ss old new placed r other e (named ∙ ap (λ (q : Source). q.name) (same_Some _ _ (sym is ∙ other.there))) with_error clear

-- ---- the calls in between

module _ (marks : ℕ → Bool) (ss : List Source) where
  pub too_many : (old : List State) → 0 < length ss → (r : Refused) → r.place ≡ 0 → r.error ≡ error.NoMemory → StopsAt marks ss old old r
  too_many old some r first want =
      let s = element ss 0 some in
      record { count = 0; below = begins marks ss old; source = s.0; there = ap (slice_get ss) first ∙ s.1; cause = inl want }

  pub listed_all : (old new : List State) (result : Result (List Attached) Refused) → AttachesBelow (length ss) marks ss old new → MatchResult result (λ all. all ≡ list_of marks 0 ss) (IsWant (length ss)) → WalksAll marks ss result old new
  listed_all old new (Ok all) below h = record { below = below; list = h }
  listed_all old new (Err r) below h =
      let s = element ss r.place h.0 in
      record { count = length ss; below = below; source = s.0; there = s.1; cause = inl h.1 }

module _ (marks : ℕ → Bool) (given ss : List Source) (same : given ≡ ss) (old new : List State) (placed : ArePlaced (kinds_of old) ss) where
  pub call_ok : (all : List Attached) → WalksAll marks given (Ok all) old new → (others : ℕ → Bool) → AgreeBelow (length ss) others marks → AttachesAll others ss (Ok all) old new
  call_ok all h = whole_ok marks ss old new placed all (subst (λ q. WalksToEnd marks q all old new) same h)

  pub call_err : HaveNone old → (r : Refused) → WalksAll marks given (Err r) old new → (s : Source) → s ≡ get_or ss r.place s → (e : AttachError) → e.source ≡ s.name → e.error ≡ r.error → (others : ℕ → Bool) → AgreeBelow (length ss) others marks → AttachesAll others ss (Err e) old new
  call_err clear r h s is e named with_error =
      let stops : StopsAt marks ss old new r = subst (λ q. StopsAt marks q old new r) same h in
      whole_err marks ss old new placed clear r stops s (slice_get_read ss (length ss) r.place s refl (slice_get_within ss r.place stops.source stops.there) is) e named with_error
