-- What a session of attached sources has of them.
use Rattle.std.proofs.Common.{◌≡◌, ◌<◌, ℕ, zero, suc, ◌+◌, Bool, true, false, List, [], ◌∷◌, map, Option, Some, None, refl, sym, ap, subst, ◌∙◌, arith, slice_get, zero-add, add-zero}
use Rattle.std.specs.List.{AllByRecursion}
use Rattle.std.proofs.lemmas.Option.{same_Some}
use Rattle.kl_value.proofs.CanonLemmas.{canonical-nil}
use Rattle.kl_value.specs.declared.Value.{Value}
use Rattle.kl_type.specs.Ground.{IsProper, ground_of}
use Rattle.kl_type.specs.declared.Ty.{Ty}
use Rattle.kl_outcome.specs.Outcome.{Name}
use Rattle.kl_outcome.specs.Typed.{Inhabits}
use Rattle.kl_ask.specs.Asks.{item_of, kind_of}
use Rattle.kl_ask.specs.Driver.{Source as AttachedSource, DriverKind, State, Stored, Missing, Bad, Long, Deep, Rows, IsColl, told_rows}
use Rattle.kl_ask.specs.World.{IsListed, at_driver, at_source, source_at, type_in, types_of, value_in, value_of_rows, values_of}
use Rattle.kl_ask.specs.declared.session.Attached.{Attached}
use Rattle.kl_ask.specs.declared.settings.Settings.{Settings}
use Rattle.kl_ask.specs.declared.settings.Trace.{Trace}
use Rattle.kl_sources.specs.declared.source.Source.{Source}
use Rattle.kl_sources.specs.Sources.{ArePlaced, IsFit, contents, grounds_of, HaveValues, IsValueAt}
use Rattle.kl_sources.specs.Attaching.{HasTyped, Serves, Stands, list_of, listed, world_of}
use Rattle.kl_sources.proofs.Lists.{of_all}

pub shifts : (marks : ℕ → Bool) (n i : ℕ) → marks (suc n + i) ≡ marks (n + suc i)
shifts marks n i = ap marks (omega arith)

-- ---- the list

listed_at : (marks : ℕ → Bool) (n : ℕ) (ss : List Source) (i : ℕ) (s : Source) → slice_get ss i ≡ Some s → slice_get (list_of marks n ss) i ≡ Some (listed (marks (n + i)) s)
listed_at marks n [] i s is = absurd cc
listed_at marks n (x ∷ ss) zero s is = ap (λ (q : Source). Some (listed (marks n) q)) (same_Some _ _ is) ∙ ap (λ b. Some (listed b s)) (ap marks (sym (add-zero n)))
listed_at marks n (x ∷ ss) (suc i) s is = listed_at marks (suc n) ss i s is ∙ ap (λ b. Some (listed b s)) (shifts marks n i)

listed_none : (marks : ℕ → Bool) (n : ℕ) (ss : List Source) (i : ℕ) → slice_get ss i ≡ None → slice_get (list_of marks n ss) i ≡ None
listed_none marks n [] i is = refl
listed_none marks n (x ∷ ss) zero is = absurd cc
listed_none marks n (x ∷ ss) (suc i) is = listed_none marks (suc n) ss i is

-- the rows with which a source stands in a session
abbrev rows_at : Bool → List DriverKind → Source → Option (List Value)
rows_at true ks s = told_rows (contents ks s)
rows_at false ks s = Some []

-- and what is attached then
abbrev IsPlacedAs : Bool → List DriverKind → Source → Option AttachedSource → Type 0
IsPlacedAs b ks s o = (t : AttachedSource) × (o ≡ Some t) × (t.ty ≡ s.ty) × (t.rows ≡ rows_at b ks s)

listed_name : (b : Bool) (s : Source) → (listed b s).ty ≡ s.ty
listed_name true s = refl
listed_name false s = refl

-- ---- values

module _ (ks : List DriverKind) where
  value_is : (b : Bool) (s : Source) (v : Value) → IsValueAt ks b s v → value_of_rows (ground_of s.ty) (rows_at b ks s) ≡ Some v
  value_is true s v h = ap (λ o. value_of_rows (ground_of s.ty) (told_rows o)) h.1 ∙ ap Some (sym h.2)
  value_is false s v h = ap Some (canonical-nil (kind_of (ground_of s.ty)) ∙ sym h)

  values_at : (marks : ℕ → Bool) (n : ℕ) (ss : List Source) (vs : List (Name × Value)) → HaveValues ks marks n ss vs → (i : ℕ) (s : Source) → slice_get ss i ≡ Some s → value_of_rows (ground_of s.ty) (rows_at (marks (n + i)) ks s) ≡ slice_get (map (λ p. p.1) vs) i
  values_at marks n [] vs h i s is = absurd cc
  values_at marks n (x ∷ ss) vs h zero s is =
      subst (λ (q : Source). value_of_rows (ground_of q.ty) (rows_at (marks (n + 0)) ks q) ≡ slice_get (map (λ p. p.1) vs) 0) (same_Some _ _ is)
      (ap (λ b. value_of_rows (ground_of x.ty) (rows_at b ks x)) (ap marks (add-zero n)) ∙ value_is (marks n) x h.0 h.3 ∙ ap (λ (us : List (Name × Value)). slice_get (map (λ p. p.1) us) 0) (sym h.2))
  values_at marks n (x ∷ ss) vs h (suc i) s is =
      ap (λ b. value_of_rows (ground_of s.ty) (rows_at b ks s)) (sym (shifts marks n i)) ∙ values_at marks (suc n) ss h.1 h.4 i s is
      ∙ ap (λ (us : List (Name × Value)). slice_get (map (λ p. p.1) us) (suc i)) (sym h.2)

  values_none : (marks : ℕ → Bool) (n : ℕ) (ss : List Source) (vs : List (Name × Value)) → HaveValues ks marks n ss vs → (i : ℕ) → slice_get ss i ≡ None → None ≡ slice_get (map (λ p. p.1) vs) i
  values_none marks n [] vs h i is = ap (λ (us : List (Name × Value)). slice_get (map (λ p. p.1) us) i) (sym h)
  values_none marks n (x ∷ ss) vs h zero is = absurd cc
  values_none marks n (x ∷ ss) vs h (suc i) is = values_none marks (suc n) ss h.1 h.4 i is ∙ ap (λ (us : List (Name × Value)). slice_get (map (λ p. p.1) us) (suc i)) (sym h.2)

-- ---- types

grounds_at : (ss : List Source) (i : ℕ) (s : Source) → slice_get ss i ≡ Some s → slice_get (map (λ p. p.1) (grounds_of ss)) i ≡ Some (ground_of s.ty)
grounds_at [] i s is = absurd cc
grounds_at (x ∷ ss) zero s is = ap (λ (q : Source). Some (ground_of q.ty)) (same_Some _ _ is)
grounds_at (x ∷ ss) (suc i) s is = grounds_at ss i s is

grounds_none : (ss : List Source) (i : ℕ) → slice_get ss i ≡ None → slice_get (map (λ p. p.1) (grounds_of ss)) i ≡ None
grounds_none [] i is = refl
grounds_none (x ∷ ss) zero is = absurd cc
grounds_none (x ∷ ss) (suc i) is = grounds_none ss i is

-- ---- the session

typed_told : (s : Source) (o : Option Stored) (rows : List Value) → HasTyped s o → told_rows o ≡ Some rows → AllByRecursion (Inhabits (item_of (ground_of s.ty))) rows
typed_told s None rows h e = absurd cc
typed_told s (Some Missing) rows h e = absurd h
typed_told s (Some (Bad place)) rows h e = absurd h
typed_told s (Some (Long most)) rows h e = absurd h
typed_told s (Some (Deep place)) rows h e = absurd h
typed_told s (Some (Rows all)) rows h e = subst (AllByRecursion (Inhabits (item_of (ground_of s.ty)))) (same_Some _ _ e) h

module _ (ks : List DriverKind) (marks : ℕ → Bool) (ss : List Source) (placed : ArePlaced ks ss) (ds : List State) (stand : (i : ℕ) (s : Source) → slice_get ss i ≡ Some s → marks i ≡ true → Stands ks ds s) (list : List Attached) (list_is : list ≡ list_of marks 0 ss) (settings : Settings) (trace : Trace) where
  stands_in : (i : ℕ) (s : Source) → slice_get ss i ≡ Some s → slice_get list i ≡ Some (listed (marks i) s)
  stands_in i s is = ap (λ (l : List Attached). slice_get l i) list_is ∙ listed_at marks 0 ss i s is ∙ ap (λ k. Some (listed (marks k) s)) (zero-add i)

  placed_at : (i : ℕ) (s : Source) → slice_get ss i ≡ Some s → (b : Bool) → marks i ≡ b → IsPlacedAs b ks s (at_source (Some (listed b s)) ds)
  placed_at i s is true mk = let st = stand i s is mk in (record { ty = s.ty; rows = told_rows (contents ks s); count = st.count; kept = st.kept }, ap (at_driver (listed true s)) st.there ∙ st.attached, refl, refl)
  placed_at i s is false mk = (record { ty = s.ty; rows = Some []; count = 0; kept = None }, refl, refl, refl)

  source_is : (i : ℕ) (s : Source) → slice_get ss i ≡ Some s → IsPlacedAs (marks i) ks s (source_at (world_of ds list settings trace) i)
  source_is i s is = let p = placed_at i s is (marks i) refl in (p.0, ap (λ o. at_source o ds) (stands_in i s is) ∙ p.1, p.2, p.3)

  source_none : (i : ℕ) → slice_get ss i ≡ None → source_at (world_of ds list settings trace) i ≡ None
  source_none i is = ap (λ o. at_source o ds) (ap (λ (l : List Attached). slice_get l i) list_is ∙ listed_none marks 0 ss i is)

  typed_at : (i : ℕ) (s : Source) → slice_get ss i ≡ Some s → (b : Bool) → marks i ≡ b → (rows : List Value) → rows_at b ks s ≡ Some rows → AllByRecursion (Inhabits (item_of (ground_of s.ty))) rows
  typed_at i s is true mk rows e = typed_told s (contents ks s) rows (stand i s is mk).typed e
  typed_at i s is false mk rows e = subst (AllByRecursion (Inhabits (item_of (ground_of s.ty)))) (same_Some _ _ e) tt

  listed_as : (i : ℕ) (s : Source) → slice_get ss i ≡ Some s → (a : Attached) (t : AttachedSource) → listed (marks i) s ≡ a → t.ty ≡ s.ty → t.rows ≡ rows_at (marks i) ks s → IsListed a t
  listed_as i s is a t same_entry same_type same_rows = subst (λ (q : Attached). IsListed q t) same_entry (record {
    ty = same_type ∙ sym (listed_name (marks i) s);
    proper = subst IsProper (sym same_type) (of_all (λ (s : Source). IsProper s.ty) ss i s placed.proper is);
    collection = subst (λ (u : Ty). IsColl (ground_of u)) (sym same_type) (of_all (IsFit ks) ss i s placed.fit is).2.collection;
    typed = λ rows e. subst (λ (u : Ty). AllByRecursion (Inhabits (item_of (ground_of u))) rows) (sym same_type) (typed_at i s is (marks i) refl rows (sym same_rows ∙ e));
  })

  listed_in : (i : ℕ) (o : Option Source) → slice_get ss i ≡ o → (a : Attached) (t : AttachedSource) → slice_get list i ≡ Some a → source_at (world_of ds list settings trace) i ≡ Some t → IsListed a t
  listed_in i None is a t entry source = absurd (let n = source_none i is in cc)
  listed_in i (Some s) is a t entry source =
      let p = source_is i s is in
      let same : p.0 ≡ t = same_Some _ _ (sym p.1 ∙ source) in
      listed_as i s is a t (same_Some _ _ (sym (stands_in i s is) ∙ entry)) (ap (λ (q : AttachedSource). q.ty) (sym same) ∙ p.2) (ap (λ (q : AttachedSource). q.rows) (sym same) ∙ p.3)

  types_in : (i : ℕ) (o : Option Source) → slice_get ss i ≡ o → types_of (world_of ds list settings trace) i ≡ slice_get (map (λ p. p.1) (grounds_of ss)) i
  unfolding types_of
  types_in i None is = ap type_in (source_none i is) ∙ sym (grounds_none ss i is)
  types_in i (Some s) is = let p = source_is i s is in ap type_in p.1 ∙ ap (λ u. Some (ground_of u)) p.2 ∙ sym (grounds_at ss i s is)

  values_in : (vs : List (Name × Value)) → HaveValues ks marks 0 ss vs → (i : ℕ) (o : Option Source) → slice_get ss i ≡ o → values_of (world_of ds list settings trace) i ≡ slice_get (map (λ p. p.1) vs) i
  unfolding values_of
  values_in vs h i None is = ap value_in (source_none i is) ∙ values_none ks marks 0 ss vs h i is
  values_in vs h i (Some s) is =
      let p = source_is i s is in
      ap value_in p.1 ∙ (λ k. value_of_rows (ground_of (p.2 k)) (p.3 k)) ∙ ap (λ k. value_of_rows (ground_of s.ty) (rows_at (marks k) ks s)) (sym (zero-add i)) ∙ values_at ks marks 0 ss vs h i s is

  pub serves : 0 < settings.fetch → Serves ks marks ss (world_of ds list settings trace)
  serves fetch = record {
    ready = record { fetch = fetch; listed = λ i a t entry source. listed_in i (slice_get ss i) refl a t entry source };
    types = λ i. types_in i (slice_get ss i) refl;
    values = λ vs h i. values_in vs h i (slice_get ss i) refl;
  }
