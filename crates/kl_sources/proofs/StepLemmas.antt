-- Attaching sources one by one.
use Rattle.std.proofs.Common.{◌≡◌, ◌≢◌, ◌⊎◌, ◌<◌, ℕ, ◌+◌, Bool, true, false, List, length, Option, Some, None, Result, Ok, Err, IsSome, refl, sym, ap, subst, ◌∙◌, arith, inl, inr, slice_get}
use Rattle.std.proofs.lemmas.Bool.{cases_eq}
use Rattle.std.proofs.lemmas.Option.{slice_get_within, same_Some}
use Rattle.std.specs.Result.{IsOk}
use Rattle.kl_type.specs.declared.Ty.{Ty}
use Rattle.kl_outcome.specs.Outcome.{Name}
use Rattle.kl_ask.specs.Driver.{Source as AttachedSource, DriverKind, State, Stored, Missing, Bad, Long, Deep, Rows, Attaches, IsTold, Unreadable, stored_by, stored_at, told_rows}
use Rattle.kl_ask.specs.Lists.{AtIndex, StepsAt, EachSteps}
use Rattle.kl_ask.specs.declared.ask.DriverError.{DriverError}
use Rattle.kl_ask.specs.declared.ask.DriverError.TheVariants as error
use Rattle.kl_ask.proofs.Worlds.{keeps_none, keeps_then}
use Rattle.kl_sources.specs.declared.source.Source.{Source}
use Rattle.kl_sources.specs.declared.walking.Refused.{Refused}
use Rattle.kl_sources.specs.Sources.{ArePlaced, IsSuited, kinds_of, contents, contents_at}
use Rattle.kl_sources.specs.Attaching.{AttachesOwn, EachAttachesOwn, HaveNone, IsErrorOf, IsUnreadable, HasTyped, Stands}
use Rattle.kl_sources.specs.Walking.{IsMarkedBelow, MayAttachBelow, AttachesBelow, RefusesFor, StopsAt, SameEnd, AttachesIf}
use Rattle.kl_sources.proofs.Lists.{element, of_all, unmapped}
use Rattle.kl_sources.proofs.NameLemmas.{one_of_name}
use Rattle.kl_base.proofs.Places.{get-map}

below_more : (n : ℕ) (marks : ℕ → Bool) (ss : List Source) (x : Name) → IsMarkedBelow n marks ss x → IsMarkedBelow (n + 1) marks ss x
below_more n marks ss x h = (h.0, h.1, omega (arith, h.2), h.3, h.4, h.5)

module _ (marks : ℕ → Bool) (ss : List Source) where
  -- a driver that is as it was
  same_own : (i : ℕ) (a b : State) → a ≡ b → AttachesOwn marks ss i a b
  same_own i a b e = record { others = λ x never. ap (λ (d : State). d.attached x) (sym e); untouched = λ never. sym e }

  pub begins : (ds : List State) → AttachesBelow 0 marks ss ds ds
  begins ds = record {
    own = λ i a b ha hb. same_own i a b (same_Some _ _ (sym ha ∙ hb));
    drivers = record { size = refl; each = λ i a b ha hb. subst (λ s. MayAttachBelow 0 marks ss a s) (same_Some _ _ (sym ha ∙ hb)) (record { keeps = keeps_none a; cursors = refl; asked = refl; handed = refl; drifts = refl; others = λ x never. refl }) };
    stand = λ i s lt is marked. absurd (omega (arith, lt));
  }

  wider : (n : ℕ) (a b : State) → MayAttachBelow n marks ss a b → MayAttachBelow (n + 1) marks ss a b
  wider n a b m = record { keeps = m.keeps; cursors = m.cursors; asked = m.asked; handed = m.handed; drifts = m.drifts; others = λ x never. m.others x (λ h. never (below_more n marks ss x h)) }

  -- a source that is not marked
  pub skips : (n : ℕ) (old mid new : List State) → AttachesBelow n marks ss old mid → marks n ≡ false → new ≡ mid → AttachesBelow (n + 1) marks ss old new
  skips n old mid new below unmarked stays = record {
    own = λ i a b ha hb. below.own i a b ha (ap (λ ds. slice_get ds i) (sym stays) ∙ hb);
    drivers = record { size = ap length stays ∙ below.drivers.size; each = λ i a b ha hb. wider n a b (below.drivers.each i a b ha (ap (λ ds. slice_get ds i) (sym stays) ∙ hb)) };
    stand = λ i s lt is marked. subst (λ ds. Stands (kinds_of old) ds s) (sym stays) (below.stand i s (still i lt marked) is marked);
  }
    where
      still : (i : ℕ) → i < n + 1 → marks i ≡ true → i < n
      still i lt marked = elim (cases_eq i n) [
        | inl e ↦ absurd (let f : marks n ≡ true = ap marks (sym e) ∙ marked in cc)
        | inr ne ↦ omega (arith, lt, ne)
      ]

-- ---- what one source came to

pub unmarked_end : (m : Bool) (s : Source) (ds : List State) → m ≡ false → AttachesIf m s (Ok tt) ds ds
unmarked_end true s ds h = absurd cc
unmarked_end false s ds h = (refl, refl)

pub marked_end : (m : Bool) (s : Source) (q : Result ℕ DriverError) (r : Result (Unit {0}) DriverError) (old new : List State) → m ≡ true → StepsAt s.driver (λ a b. Attaches s.name s.locator s.ty q a b) old new → SameEnd q r → AttachesIf m s r old new
marked_end true s q r old new h step ends = (q, ends, step)
marked_end false s q r old new h step ends = absurd cc

-- ---- a step at one driver

module _ (old : List State) (ss : List Source) (placed : ArePlaced (kinds_of old) ss) where
  -- the driver of a source, as it was
  first_driver : (n : ℕ) (s : Source) → slice_get ss n ≡ Some s → (d : State) × (slice_get old s.driver ≡ Some d) × (d.kind.suits s.ty ≡ true)
  first_driver n s is =
      let suited = of_all (IsSuited (kinds_of old)) ss n s placed.suited is in
      let at = unmapped (λ (d : State). d.kind) old s.driver suited.0 suited.1 in
      (at.0, at.1, subst (λ (k : DriverKind). k.suits s.ty ≡ true) (sym at.2) suited.2)

  contents_here : (s : Source) (d : State) → slice_get old s.driver ≡ Some d → contents (kinds_of old) s ≡ stored_by d.kind.stored s.locator s.ty
  contents_here s d is = ap (contents_at s) (get-map (λ (d : State). d.kind) old s.driver d is)

  module _ (clear : HaveNone old) (marks : ℕ → Bool) (n : ℕ) (mid : List State) (below : AttachesBelow n marks ss old mid) (s : Source) (is : slice_get ss n ≡ Some s) where
    -- the driver of the next source, as it is now
    now : (d : State) × (e : State) × (slice_get old s.driver ≡ Some d) × (slice_get mid s.driver ≡ Some e) × MayAttachBelow n marks ss d e
    now =
        let d = first_driver n s is in
        let e = element mid s.driver (omega (arith, slice_get_within old s.driver d.0 d.1, below.drivers.size)) in
        (d.0, e.0, d.1, e.1, below.drivers.each s.driver d.0 e.0 d.1 e.1)

    at_now : (P : State → Type 0) → P now.1 → AtIndex s.driver P mid
    at_now P p = λ a there. subst P (same_Some _ _ (sym now.3 ∙ there)) p

    pub next_suits : AtIndex s.driver (λ d. d.kind.suits s.ty ≡ true) mid
    next_suits =
        let d = first_driver n s is in
        at_now (λ d. d.kind.suits s.ty ≡ true) (subst (λ (k : DriverKind). k.suits s.ty ≡ true) (sym now.4.keeps.kind) (subst (λ (q : State). q.kind.suits s.ty ≡ true) (same_Some _ _ (sym d.1 ∙ now.2)) d.2))

    pub next_fresh : AtIndex s.driver (λ d. d.attached s.name ≡ None) mid
    next_fresh = at_now (λ d. d.attached s.name ≡ None) (now.4.others s.name (λ h. absurd (let e : h.0 ≡ n = one_of_name ss h.0 n h.1 s placed.differ h.3 is h.5 in omega (arith, h.2, e))) ∙ clear s.driver now.0 now.2 s.name)

    -- what the driver says of the locator
    said : stored_at now.1 s.locator s.ty ≡ contents (kinds_of old) s
    said = ap (λ (k : DriverKind). stored_by k.stored s.locator s.ty) now.4.keeps.kind ∙ sym (contents_here s now.0 now.2)

    module _ (marked : marks n ≡ true) (new : List State) where
      here_name : IsMarkedBelow (n + 1) marks ss s.name
      here_name = (n, s, omega arith, is, marked, refl)

      module _ (q : Result ℕ DriverError) (step : StepsAt s.driver (λ a b. Attaches s.name s.locator s.ty q a b) mid new) where
        after : (f : State) × (slice_get new s.driver ≡ Some f) × Attaches s.name s.locator s.ty q now.1 f
        after =
            let f = element new s.driver (omega (arith, slice_get_within mid s.driver now.1 now.3, step.size)) in
            (f.0, f.1, step.here now.1 f.0 now.3 f.1)

        -- what a driver keeps, one that is not asked too
        kept : (i : ℕ) (a c : State) → slice_get old i ≡ Some a → slice_get new i ≡ Some c
            → (b : State) × (slice_get mid i ≡ Some b) × MayAttachBelow n marks ss a b × ((b ≡ c) ⊎ ((i ≡ s.driver) × Attaches s.name s.locator s.ty q b c))
        kept i a c ha hc =
            let b = element mid i (omega (arith, slice_get_within old i a ha, below.drivers.size)) in (
              b.0,
              b.1,
              below.drivers.each i a b.0 ha b.1,
              elim (cases_eq i s.driver) [
                | inl e ↦ inr (e, step.here b.0 c (ap (slice_get mid) (sym e) ∙ b.1) (ap (slice_get new) (sym e) ∙ hc))
                | inr ne ↦ inl (same_Some _ _ (sym b.1 ∙ sym (step.others i ne) ∙ hc))
              ],
            )

        -- what is attached is so but under the source's name, and at its own driver
        module _ (under : (b c : State) → Attaches s.name s.locator s.ty q b c → (x : Name) → x ≢ s.name → c.attached x ≡ b.attached x) where
          own_step : EachAttachesOwn marks ss old new
          own_step i a c ha hc = let k = kept i a c ha hc in on i a c k.0 (below.own i a k.0 ha k.1) k.3
            where
              on : (i : ℕ) (a c b : State) → AttachesOwn marks ss i a b → (b ≡ c) ⊎ ((i ≡ s.driver) × Attaches s.name s.locator s.ty q b c) → AttachesOwn marks ss i a c
              on i a c b m h = elim h [
                | inl e ↦ subst (AttachesOwn marks ss i a) e m
                | inr g ↦ record {
                  others = λ x never. under b c g.1 x (λ e. never (n, s, is, marked, sym g.0, sym e)) ∙ m.others x never;
                  untouched = λ never. absurd (never s.name (n, s, is, marked, sym g.0, refl));
                }
              ]

        -- the frame of a step, where what is attached is so but under the source's name
        module _ (under : (b c : State) → Attaches s.name s.locator s.ty q b c → (x : Name) → (IsMarkedBelow (n + 1) marks ss x → ⊥) → c.attached x ≡ b.attached x) where
          framed : EachSteps (MayAttachBelow (n + 1) marks ss) old new
          framed = record {
            size = step.size ∙ below.drivers.size;
            each = λ i a c ha hc. let k = kept i a c ha hc in on i a c k.0 k.2 k.3;
          }
            where
              on : (i : ℕ) (a c b : State) → MayAttachBelow n marks ss a b → (b ≡ c) ⊎ ((i ≡ s.driver) × Attaches s.name s.locator s.ty q b c) → MayAttachBelow (n + 1) marks ss a c
              on i a c b m h = elim h [
                | inl e ↦ subst (MayAttachBelow (n + 1) marks ss a) e (wider marks ss n a b m)
                | inr g ↦ record {
                  keeps = keeps_then a b c m.keeps g.1.keeps;
                  cursors = g.1.cursors ∙ m.cursors;
                  asked = g.1.asked ∙ m.asked;
                  handed = g.1.handed ∙ m.handed;
                  drifts = g.1.drifts ∙ m.drifts;
                  others = λ x never. under b c g.1 x never ∙ m.others x (λ y. never (below_more n marks ss x y));
                }
              ]

        -- a source that stands, stands still
        module _ (under : (b c : State) → Attaches s.name s.locator s.ty q b c → (x : Name) → x ≢ s.name → c.attached x ≡ b.attached x) where
          still_stands : (i : ℕ) (t : Source) → i < n → slice_get ss i ≡ Some t → marks i ≡ true → Stands (kinds_of old) new t
          still_stands i t lt there is_marked =
              let st = below.stand i t lt there is_marked in
              let c = element new t.driver (omega (arith, slice_get_within mid t.driver st.driver st.there, step.size)) in
              let ne : t.name ≢ s.name = λ e. absurd (let same_place : i ≡ n = one_of_name ss i n t s placed.differ there is e in omega (arith, lt, same_place)) in
              record {
                driver = c.0;
                there = c.1;
                attached = (elim (cases_eq t.driver s.driver) [
                  | inl e ↦ under st.driver c.0 (step.here st.driver c.0 (ap (slice_get mid) (sym e) ∙ st.there) (ap (slice_get new) (sym e) ∙ c.1)) t.name ne
                  | inr away ↦ ap (λ (d : State). d.attached t.name) (same_Some _ _ (sym c.1 ∙ step.others t.driver away ∙ st.there))
                ]) ∙ st.attached;
                count = st.count;
                kept = st.kept;
                counted = st.counted;
                typed = st.typed;
                unrepeated = st.unrepeated;
              }

      -- the source is attached
      pub attaches : (count : ℕ) → StepsAt s.driver (λ a b. Attaches s.name s.locator s.ty (Ok count) a b) mid new → AttachesBelow (n + 1) marks ss old new
      attaches count step = record {
        own = own_step (Ok count) step (λ b c g x away. g.others x away);
        drivers = framed (Ok count) step (λ b c g x never. g.others x (λ e. never (subst (IsMarkedBelow (n + 1) marks ss) (sym e) here_name)));
        stand = λ i t lt there is_marked. elim (cases_eq i n) [
          | inl e ↦ subst (Stands (kinds_of old) new) (same_Some _ _ (sym is ∙ ap (slice_get ss) (sym e) ∙ there)) stands_now
          | inr ne ↦ still_stands (Ok count) step (λ b c g x away. g.others x away) i t (omega (arith, lt, ne)) there is_marked
        ];
      }
        where
          typed_for : (f : State) → Attaches s.name s.locator s.ty (Ok count) now.1 f → (o : Option Stored) → stored_at now.1 s.locator s.ty ≡ o → HasTyped s o
          typed_for f g None e = tt
          typed_for f g (Some Missing) e = absurd ((g.missing e).0)
          typed_for f g (Some (Bad place)) e = absurd (g.bad place e)
          typed_for f g (Some (Long most)) e = absurd (g.long most e)
          typed_for f g (Some (Deep place)) e = absurd (g.deep place e)
          typed_for f g (Some (Rows rows)) e = g.typed rows e

          stands_now : Stands (kinds_of old) new s
          stands_now =
              let f = after (Ok count) step in
              let at = f.2.attached in
              record {
                driver = f.0;
                there = f.1;
                count = count;
                kept = at.0;
                attached = at.1 ∙ ap (λ (o : Option Stored). Some (record { ty = s.ty; rows = told_rows o; count = count; kept = at.0 })) said;
                counted = λ rows is_told. f.2.count rows (said ∙ is_told);
                typed = subst (HasTyped s) said (typed_for f.0 f.2 (stored_at now.1 s.locator s.ty) refl);
                unrepeated = λ k rows here unique set is_told. f.2.unique (ap (λ (j : DriverKind). j.abilities.unique) (now.4.keeps.kind ∙ same_Some _ _ (sym (get-map (λ (d : State). d.kind) old s.driver now.0 now.2) ∙ here)) ∙ unique) set rows (said ∙ is_told);
              }

      -- the source is refused

      untold : (IsTold now.1 → ⊥) → contents (kinds_of old) s ≡ None
      untold never = sym said ∙ by_stored now.1.kind.stored refl
        where
          by_stored : (o : Option (List ℕ → Ty → Stored)) → now.1.kind.stored ≡ o → stored_by o s.locator s.ty ≡ None
          by_stored None e = refl
          by_stored (Some f) e = absurd (never (subst (λ (p : Option (List ℕ → Ty → Stored)). IsSome p) (sym e) refl))

      unread_for : (e : DriverError) (w : Stored) (f : State) → slice_get new s.driver ≡ Some f → IsErrorOf w e → IsUnreadable e → Unreadable w (stored_at now.1 s.locator s.ty) now.1 f → RefusesFor (kinds_of old) s e old new
      unread_for e w f there error_of unreadable h = elim h [
        | inl stands ↦ inr (inl (w, error_of, sym said ∙ stands))
        | inr none ↦ inr (inr (unreadable, untold none.0, (now.0, f, now.2, there, omega (arith, now.4.keeps.unread, none.1))))
      ]

      refused_for : (e : DriverError) (f : State) → slice_get new s.driver ≡ Some f → Attaches s.name s.locator s.ty (Err e) now.1 f → RefusesFor (kinds_of old) s e old new
      refused_for error.Failed f there g = elim (g.failed refl) [
        | inl missing ↦ inr (inl (Missing, refl, sym said ∙ missing))
        | inr rose ↦ inl (inl (refl, (now.0, f, now.2, there, omega (arith, now.4.keeps.faults, rose))))
      ]
      refused_for (error.BadSource place) f there g = unread_for (error.BadSource place) (Bad place) f there refl tt (g.bad_source place refl)
      refused_for (error.TooLong most) f there g = unread_for (error.TooLong most) (Long most) f there refl tt (g.too_long most refl)
      refused_for (error.TooDeep place) f there g = unread_for (error.TooDeep place) (Deep place) f there refl tt (g.too_deep place refl)
      refused_for (error.Changed d) f there g = absurd (g.no_change d refl)
      refused_for error.NoMemory f there g = inl (inr refl)

      pub refuses : (e : DriverError) → StepsAt s.driver (λ a b. Attaches s.name s.locator s.ty (Err e) a b) mid new → (r : Refused) → r.place ≡ n → r.error ≡ e → StopsAt marks ss old new r
      refuses e step r at_place with_error =
          let f = after (Err e) step in
          record {
            count = n;
            below = record {
              drivers = narrowed;
              own = own_step (Err e) step (λ b c g x away. ap (λ (h : Name → Option AttachedSource). h x) g.refused);
              stand = still_stands (Err e) step (λ b c g x away. ap (λ (h : Name → Option AttachedSource). h x) g.refused);
            };
            source = s;
            there = ap (slice_get ss) at_place ∙ is;
            cause = inr (sym at_place, ap marks at_place ∙ marked, subst (λ d. RefusesFor (kinds_of old) s d old new) (sym with_error) (refused_for e f.0 f.1 f.2));
          }
        where
          on : (i : ℕ) (a c b : State) → MayAttachBelow n marks ss a b → (b ≡ c) ⊎ ((i ≡ s.driver) × Attaches s.name s.locator s.ty (Err e) b c) → MayAttachBelow n marks ss a c
          on i a c b m h = elim h [
            | inl same_state ↦ subst (MayAttachBelow n marks ss a) same_state m
            | inr g ↦ record {
              keeps = keeps_then a b c m.keeps g.1.keeps;
              cursors = g.1.cursors ∙ m.cursors;
              asked = g.1.asked ∙ m.asked;
              handed = g.1.handed ∙ m.handed;
              drifts = g.1.drifts ∙ m.drifts;
              others = λ x never. ap (λ (h : Name → Option AttachedSource). h x) g.1.refused ∙ m.others x never;
            }
          ]

          narrowed : EachSteps (MayAttachBelow n marks ss) old new
          narrowed = record {
            size = step.size ∙ below.drivers.size;
            each = λ i a c ha hc. let k = kept (Err e) step i a c ha hc in on i a c k.0 k.2 k.3;
          }

    -- a turn of the walk
    module _ (new : List State) (result : Result (Unit {0}) DriverError) where
      pub turn_on : (m : Bool) → m ≡ marks n → AttachesIf m s result mid new → IsOk result → AttachesBelow (n + 1) marks ss old new
      turn_on true is_marked h fine = on_end h.0 h.1 h.2
        where
          on_end : (q : Result ℕ DriverError) → SameEnd q result → StepsAt s.driver (λ a b. Attaches s.name s.locator s.ty q a b) mid new → AttachesBelow (n + 1) marks ss old new
          on_end (Ok count) ends step = attaches (sym is_marked) new count step
          on_end (Err e) ends step = absurd (no_end result fine ends)
            where
              no_end : (r : Result (Unit {0}) DriverError) → IsOk r → SameEnd (Err e) r → ⊥
              no_end (Ok done) ok same_end = same_end
              no_end (Err f) ok same_end = absurd cc
      turn_on false is_marked h fine = skips marks ss n old mid new below (sym is_marked) h.1

      pub turn_off : (m : Bool) → m ≡ marks n → AttachesIf m s result mid new → (f : DriverError) → result ≡ Err f → (r : Refused) → r.place ≡ n → r.error ≡ f → StopsAt marks ss old new r
      turn_off true is_marked h f is_err r at_place with_error = on_end h.0 h.1 h.2
        where
          on_end : (q : Result ℕ DriverError) → SameEnd q result → StepsAt s.driver (λ a b. Attaches s.name s.locator s.ty q a b) mid new → StopsAt marks ss old new r
          on_end (Ok count) ends step = absurd (no_end result is_err ends)
            where
              no_end : (r : Result (Unit {0}) DriverError) → r ≡ Err f → SameEnd (Ok count) r → ⊥
              no_end (Ok done) err same_end = absurd cc
              no_end (Err g) err same_end = same_end
          on_end (Err e) ends step = refuses (sym is_marked) new e step r at_place (with_error ∙ same_error result is_err ends)
            where
              same_error : (r : Result (Unit {0}) DriverError) → r ≡ Err f → SameEnd (Err e) r → f ≡ e
              same_error (Ok done) err same_end = absurd cc
              same_error (Err g) err same_end = let p : g ≡ f = cc in sym p ∙ same_end
      turn_off false is_marked h f is_err r at_place with_error = absurd (let p : IsOk result = h.0 in not_ok result is_err p)
        where
          not_ok : (r : Result (Unit {0}) DriverError) → r ≡ Err f → IsOk r → ⊥
          not_ok (Ok done) err ok = absurd cc
          not_ok (Err g) err ok = absurd cc
