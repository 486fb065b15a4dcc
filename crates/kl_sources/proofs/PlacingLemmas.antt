-- Placing sources entry by entry.
use Rattle.std.proofs.Common.{◌≡◌, ◌<◌, ℕ, zero, suc, ◌+◌, ◌^◌, Bool, true, false, ◌||◌, List, [], ◌∷◌, ◌++◌, map, length, get_or, drop, Option, Some, None, Result, Ok, Err, cond, All, refl, sym, ap, subst, ◌∙◌, arith, inl, inr, slice_get, append_assoc, append-nil, ◌≤◌, drop-cons, add-one, is_some}
use Rattle.std.proofs.lemmas.Map.Text.{is_eq-slice_cmp}
use Rattle.std.proofs.lemmas.List.{drop_all}
use Rattle.std.proofs.lemmas.List.Elements.{recursion_from_All}
use Rattle.std.proofs.lemmas.Option.{some_pair_parts, slice_get_read, slice_get_within, same_Some}
use Rattle.std.proofs.lemmas.Bool.{cases_eq, or_parts}
use Rattle.std.specs.BTreeSet.{BTreeSet, contains, Updates}
use Rattle.std.specs.List.{AllByRecursion, IsDistinct, list_any}
use Rattle.std.specs.Option.{option_map}
use Rattle.kl_base.proofs.Each.{all_map}
use Rattle.kl_base.specs.Fields.{bytes_cmp}
use Rattle.kl_type.specs.Ground.{IsProper, ground_of}
use Rattle.kl_type.specs.declared.Ty.{Ty}
use Rattle.kl_outcome.specs.Outcome.{Name}
use Rattle.kl_ask.specs.Driver.{DriverKind, State, Suits}
use Rattle.kl_catalogue.specs.declared.reading.Entry.{Entry}
use Rattle.kl_ask.proofs.Names.{not_same}
use Rattle.kl_sources.specs.declared.source.Source.{Source}
use Rattle.kl_sources.specs.declared.placing.PlaceError.{PlaceError}
use Rattle.kl_sources.specs.declared.placing.PlaceError.TheVariants.{Twice, NoDriver, Unsuited, NoMemory}
use Rattle.kl_sources.specs.Sources.{kinds_of, same, is_taken, driver_named, at_driver, placed, in_front, sources_of, names_of, IsSuited, IsFit, ArePlaced}
use Rattle.kl_sources.specs.Placing.{IsUnless, Finds, behind}
use Rattle.kl_sources.proofs.Lists.{unmapped}
use Rattle.kl_sources.proofs.NameLemmas.{turned, same_is, same_here}
use Rattle.kl_base.proofs.Places.{get-map}
use Rattle.kl_scope.specs.Senses.{entry_named}

-- ---- the first driver of a name

pub first_named : (x : Name) (ks : List DriverKind) (i : ℕ) (k : DriverKind) → ((j : ℕ) (d : DriverKind) → j < i → slice_get ks j ≡ Some d → same d.name x ≡ false) → slice_get ks i ≡ Some k → same k.name x ≡ true → driver_named x ks ≡ Some (i, k)
first_named x [] i k before is here = absurd cc
first_named x (d ∷ ks) zero k before is here = let e : d ≡ k = same_Some _ _ is in rw e (ap (λ t. cond {A = Option (ℕ × DriverKind)} t (Some (0, k)) (option_map (λ p. (suc p.0, p.1)) (driver_named x ks))) here)
first_named x (d ∷ ks) (suc i) k before is here =
    ap (λ t. cond {A = Option (ℕ × DriverKind)} t (Some (0, d)) (option_map (λ p. (suc p.0, p.1)) (driver_named x ks))) (before 0 d (omega arith) refl)
    ∙ ap (option_map (λ p. (suc p.0, p.1))) (first_named x ks i k (λ j e lt h. before (suc j) e (omega arith) h) is here)

pub none_named : (x : Name) (ks : List DriverKind) → ((j : ℕ) (d : DriverKind) → slice_get ks j ≡ Some d → same d.name x ≡ false) → driver_named x ks ≡ None
none_named x [] none = refl
none_named x (d ∷ ks) none =
    ap (λ t. cond {A = Option (ℕ × DriverKind)} t (Some (0, d)) (option_map (λ p. (suc p.0, p.1)) (driver_named x ks))) (none 0 d refl)
    ∙ ap (option_map (λ p. (suc p.0, p.1))) (none_named x ks (λ j e h. none (suc j) e h))

named_step : (d : DriverKind) (ks : List DriverKind) (i : ℕ) (k : DriverKind) (t : Bool) (o : Option (ℕ × DriverKind)) → ((j : ℕ) (f : DriverKind) → o ≡ Some (j, f) → slice_get ks j ≡ Some f) → cond {A = Option (ℕ × DriverKind)} t (Some (0, d)) (option_map (λ p. (suc p.0, p.1)) o) ≡ Some (i, k) → slice_get (d ∷ ks) i ≡ Some k
named_step d ks i k true o rest q = let p = some_pair_parts 0 i d k q in subst (λ n. slice_get (d ∷ ks) n ≡ Some k) p.0 (ap Some p.1)
named_step d ks i k false None rest q = absurd cc
named_step d ks i k false (Some f) rest q = let p = some_pair_parts (suc f.0) i f.1 k q in subst (λ n. slice_get (d ∷ ks) n ≡ Some k) p.0 (rest f.0 f.1 refl ∙ ap Some p.1)

named_stands : (x : Name) (ks : List DriverKind) (i : ℕ) (k : DriverKind) → driver_named x ks ≡ Some (i, k) → slice_get ks i ≡ Some k
named_stands x [] i k h = absurd cc
named_stands x (d ∷ ks) i k h = named_step d ks i k (same d.name x) (driver_named x ks) (λ j f e. named_stands x ks j f e) h

-- ---- drivers in a list

module _ {A : Type 0} (f : A → State) (xs : List A) where
  kind_at : (i : ℕ) (a : A) → i < length xs → a ≡ get_or xs i a → slice_get (kinds_of (map f xs)) i ≡ Some (f a).kind
  kind_at i a lt is = get-map (λ (d : State). d.kind) (map f xs) i (f a) (get-map f xs i a (slice_get_read xs (length xs) i a refl lt is))

  module _ (x : Name) where
    abbrev NoneBelow : ℕ → Type 0
    NoneBelow n = (j : ℕ) (k : DriverKind) → j < n → slice_get (kinds_of (map f xs)) j ≡ Some k → same k.name x ≡ false

    pub finds : (i : ℕ) (a : A) → NoneBelow i → i < length xs → a ≡ get_or xs i a → (f a).kind.name ≡ x → Finds x (kinds_of (map f xs)) (Some i)
    finds i a none lt is named =
        let there = kind_at i a lt is in
        ((f a).kind, there, first_named x (kinds_of (map f xs)) i (f a).kind none there (same_here (f a).kind.name x named))

    pub none_more : (i : ℕ) (a : A) → NoneBelow i → i < length xs → a ≡ get_or xs i a → ((f a).kind.name ≡ x → ⊥) → NoneBelow (i + 1)
    none_more i a none lt is other = λ j k below there. elim (cases_eq j i) [
      | inl e ↦ not_same k.name x (λ h. other (ap (λ (q : DriverKind). q.name) (same_Some _ _ (sym (kind_at i a lt is) ∙ ap (slice_get (kinds_of (map f xs))) (sym e) ∙ there)) ∙ h))
      | inr ne ↦ none j k (omega (arith, below, ne)) there
    ]

    pub finds_none : (n : ℕ) → NoneBelow n → length xs ≤ n → Finds x (kinds_of (map f xs)) None
    finds_none n none le = none_named x (kinds_of (map f xs)) (λ j k there. none j k (within_kinds j k there) there)
      where
        within_kinds : (j : ℕ) (k : DriverKind) → slice_get (kinds_of (map f xs)) j ≡ Some k → j < n
        within_kinds j k there =
            let d = unmapped (λ (d : State). d.kind) (map f xs) j k there in
            let a = unmapped f xs j d.0 d.1 in
            omega (arith, slice_get_within xs j a.0 a.1, le)

  pub found_within : (x : Name) (i : ℕ) → Finds x (kinds_of (map f xs)) (Some i) → i < length xs
  found_within x i found =
      let d = unmapped (λ (d : State). d.kind) (map f xs) i found.0 found.1 in
      let a = unmapped f xs i d.0 d.1 in
      slice_get_within xs i a.0 a.1

  pub place_fits : (x : Name) (i : ℕ) → length xs < 2 ^ 32 → Finds x (kinds_of (map f xs)) (Some i) → i < 2 ^ 32
  place_fits x i small found = omega (arith, small, found_within x i found)

  module _ (e : Entry) (i : ℕ) (a : A) (found : Finds e.driver (kinds_of (map f xs)) (Some i)) (lt : i < length xs) (is : a ≡ get_or xs i a) where
    same_kind : found.0 ≡ (f a).kind
    same_kind = same_Some _ _ (sym found.1 ∙ kind_at i a lt is)

    at_found : (t : Bool) → t ≡ (f a).kind.suits e.ty → at_driver e (driver_named e.driver (kinds_of (map f xs))) ≡ cond t (Ok (record { name = e.name; ty = e.ty; driver = i; locator = e.locator })) (Err (Unsuited e.name))
    at_found t suits = ap (at_driver e) found.2 ∙ ap (λ b. cond b (Ok (record { name = e.name; ty = e.ty; driver = i; locator = e.locator })) (Err (Unsuited e.name))) (ap (λ (k : DriverKind). k.suits e.ty) same_kind ∙ sym suits)

    pub suits_not : (t : Bool) → t ≡ (f a).kind.suits e.ty → t ≡ false → (n : Name) → n ≡ e.name → at_driver e (driver_named e.driver (kinds_of (map f xs))) ≡ Err (Unsuited n)
    suits_not t suits unfit n name = at_found t suits ∙ ap (λ b. cond b (Ok (record { name = e.name; ty = e.ty; driver = i; locator = e.locator })) (Err (Unsuited e.name))) unfit ∙ ap (λ q. Err (Unsuited q)) (sym name)

    pub suits_it : (t : Bool) → t ≡ (f a).kind.suits e.ty → t ≡ true → (n : Name) (ty : Ty) (l : List ℕ) → n ≡ e.name → ty ≡ e.ty → l ≡ e.locator → at_driver e (driver_named e.driver (kinds_of (map f xs))) ≡ Ok (record { name = n; ty = ty; driver = i; locator = l })
    suits_it t suits fits n ty l name type locator = rw (name, type, locator) (at_found t suits ∙ ap (λ b. cond b (Ok (record { name = e.name; ty = e.ty; driver = i; locator = e.locator })) (Err (Unsuited e.name))) fits)

    pub is_fit : (t : Bool) → (t ≡ true → Suits (f a).kind.abilities (ground_of e.ty)) → t ≡ true → (n : Name) (ty : Ty) (l : List ℕ) → ty ≡ e.ty → IsFit (kinds_of (map f xs)) (record { name = n; ty = ty; driver = i; locator = l })
    is_fit t only fits n ty l type = ((f a).kind, kind_at i a lt is, subst (λ (u : Ty). Suits (f a).kind.abilities (ground_of u)) (sym type) (only fits))

-- ---- the walk over the entries

-- Sources are placed for the first entries, whose names are taken, and the rest decides.
pub record Placing (ks : List DriverKind) (entries : List Entry) (n : ℕ) (taken : BTreeSet Name) (sources : List Source) : Type 0 where
  before : List Name
  taken_is : (x : Name) → contains bytes_cmp taken x ≡ list_any (same x) before
  rest : sources_of ks [] entries ≡ behind sources (sources_of ks before (drop n entries))
  fit : AllByRecursion (IsFit ks) sources

behind_none : (r : Result (List Source) PlaceError) → r ≡ behind [] r
behind_none (Ok ss) = refl
behind_none (Err e) = refl

fit_more : (ks : List DriverKind) (ss : List Source) (s : Source) → AllByRecursion (IsFit ks) ss → IsFit ks s → AllByRecursion (IsFit ks) (ss ++ s ∷ [])
fit_more ks [] s all one = (one, tt)
fit_more ks (t ∷ ss) s all one = (all.0, fit_more ks ss s all.1 one)

pub begins : (ks : List DriverKind) (entries : List Entry) (taken : BTreeSet Name) (sources : List Source) → taken.keys ≡ [] → sources ≡ [] → Placing ks entries 0 taken sources
begins ks entries taken sources none empty = record {
  before = [];
  taken_is = λ x. rw none refl;
  rest = rw empty (behind_none (sources_of ks [] entries));
  fit = rw empty tt;
}

module _ (ks : List DriverKind) (entries : List Entry) (n : ℕ) (taken : BTreeSet Name) (sources : List Source) (p : Placing ks entries n taken sources) where
  is_taken_here : (x : Name) → is_taken p.before x ≡ (contains bytes_cmp taken x || is_some (entry_named x))
  is_taken_here x = ap (λ t. t || is_some (entry_named x)) (sym (p.taken_is x))

  module _ (e : Entry) (lt : n < length entries) (is : e ≡ get_or entries n e) where
    next : drop n entries ≡ e ∷ drop (suc n) entries
    next = drop-cons entries n e lt ∙ ap (λ x. x ∷ drop (suc n) entries) (sym is)

    turn : sources_of ks [] entries ≡ behind sources (in_front (placed ks p.before e) (sources_of ks (e.name ∷ p.before) (drop (suc n) entries)))
    turn = p.rest ∙ ap (λ es. behind sources (sources_of ks p.before es)) next

    refused_with : (error : PlaceError) → placed ks p.before e ≡ Err error → sources_of ks [] entries ≡ Err error
    refused_with error h = turn ∙ ap (λ r. behind sources (in_front r (sources_of ks (e.name ∷ p.before) (drop (suc n) entries)))) h

    -- the name is taken
    pub name_taken : (b : Bool) → b ≡ (contains bytes_cmp taken e.name || is_some (entry_named e.name)) → b ≡ true → (x : Name) → x ≡ e.name → sources_of ks [] entries ≡ Err (Twice x)
    name_taken b answer h x same_name =
        rw same_name (refused_with (Twice e.name) (ap (λ t. cond t (Err (Twice e.name)) (at_driver e (driver_named e.driver ks))) (is_taken_here e.name ∙ sym answer ∙ h)))

    free : (b : Bool) → b ≡ (contains bytes_cmp taken e.name || is_some (entry_named e.name)) → b ≡ false → placed ks p.before e ≡ at_driver e (driver_named e.driver ks)
    free b answer h = ap (λ t. cond t (Err (Twice e.name)) (at_driver e (driver_named e.driver ks))) (is_taken_here e.name ∙ sym answer ∙ h)

    -- what is wrong with the entry itself
    pub entry_wrong : (b : Bool) → b ≡ (contains bytes_cmp taken e.name || is_some (entry_named e.name)) → b ≡ false → (error : PlaceError) → IsUnless (at_driver e (driver_named e.driver ks)) error → IsUnless (sources_of ks [] entries) error
    entry_wrong b answer h (Twice x) wrong = refused_with (Twice x) (free b answer h ∙ wrong)
    entry_wrong b answer h (NoDriver x) wrong = refused_with (NoDriver x) (free b answer h ∙ wrong)
    entry_wrong b answer h (Unsuited x) wrong = refused_with (Unsuited x) (free b answer h ∙ wrong)
    entry_wrong b answer h NoMemory wrong = tt

    in_turn : (s : Source) (r : Result (List Source) PlaceError) → behind sources (in_front (Ok s) r) ≡ behind (sources ++ s ∷ []) r
    in_turn s (Ok ts) = ap Ok (sym (append_assoc sources (s ∷ []) ts))
    in_turn s (Err error) = refl

    pub goes_on : (b : Bool) → b ≡ (contains bytes_cmp taken e.name || is_some (entry_named e.name)) → b ≡ false → (s : Source) → at_driver e (driver_named e.driver ks) ≡ Ok s → IsFit ks s
        → (taken' : BTreeSet Name) (x : Name) → x ≡ e.name → Updates bytes_cmp taken taken' x true → (sources' : List Source) → sources' ≡ sources ++ s ∷ [] → Placing ks entries (n + 1) taken' sources'
    goes_on b answer h s stands one_fit taken' x same_name up sources' more = record {
      before = e.name ∷ p.before;
      taken_is = λ y. up.0 y ∙ rw (is_eq-slice_cmp x y, same_name, p.taken_is y) (or_cond e.name y (list_any (same y) p.before));
      rest = rw (add-one, more) (turn ∙ ap (λ r. behind sources (in_front r (sources_of ks (e.name ∷ p.before) (drop (suc n) entries)))) (free b answer h ∙ stands) ∙ in_turn s (sources_of ks (e.name ∷ p.before) (drop (suc n) entries)));
      fit = subst (AllByRecursion (IsFit ks)) (sym more) (fit_more ks sources s p.fit one_fit);
    }
      where
        or_cond : (a y : Name) (t : Bool) → cond (same a y) true t ≡ (same y a || t)
        or_cond a y t = by_test (same a y) refl
          where
            by_test : (u : Bool) → same a y ≡ u → cond u true t ≡ (same y a || t)
            by_test true q = sym (ap (λ v. v || t) (same_here y a (sym (same_is a y q))))
            by_test false q = sym (ap (λ v. v || t) (turned a y q))

  pub fit_so_far : AllByRecursion (IsFit ks) sources
  fit_so_far = p.fit

  pub ended : length entries ≤ n → sources_of ks [] entries ≡ Ok sources
  ended h = p.rest ∙ ap (λ es. behind sources (sources_of ks p.before es)) (drop_all n entries h) ∙ ap Ok (append-nil sources)

-- ---- what is placed

record AllPlaced (ks : List DriverKind) (before : List Name) (ss : List Source) : Type 0 where
  suited : AllByRecursion (IsSuited ks) ss
  proper : AllByRecursion (λ s. IsProper s.ty) ss
  fresh : AllByRecursion (λ s. list_any (same s.name) before ≡ false) ss
  differ : IsDistinct same (names_of ss)

record IsPlaced (ks : List DriverKind) (before : List Name) (e : Entry) (s : Source) : Type 0 where
  fresh : list_any (same e.name) before ≡ false
  name : s.name ≡ e.name
  ty : s.ty ≡ e.ty
  suited : IsSuited ks s

ok_same : {A : Type 0} (x y : A) → ◌≡◌ {A = Result A PlaceError} (Ok x) (Ok y) → x ≡ y
ok_same x y h = cc

module _ (ks : List DriverKind) (before : List Name) (e : Entry) (s : Source) where
  suited_one : (i : ℕ) (k : DriverKind) → list_any (same e.name) before ≡ false → driver_named e.driver ks ≡ Some (i, k) → (t : Bool) → k.suits e.ty ≡ t
      → cond t (Ok (record { name = e.name; ty = e.ty; driver = i; locator = e.locator })) (Err (Unsuited e.name)) ≡ Ok s → IsPlaced ks before e s
  suited_one i k free named true suits h = subst (IsPlaced ks before e) (ok_same (record { name = e.name; ty = e.ty; driver = i; locator = e.locator }) s h)
      (record { fresh = free; name = refl; ty = refl; suited = (k, named_stands e.driver ks i k named, suits) })
  suited_one i k free named false suits h = absurd cc

  at_one : list_any (same e.name) before ≡ false → (o : Option (ℕ × DriverKind)) → driver_named e.driver ks ≡ o → at_driver e o ≡ Ok s → IsPlaced ks before e s
  at_one free None named h = absurd cc
  at_one free (Some p) named h = suited_one p.0 p.1 free named (p.1.suits e.ty) refl h

  placed_one : (t : Bool) → is_taken before e.name ≡ t → cond t (Err (Twice e.name)) (at_driver e (driver_named e.driver ks)) ≡ Ok s → IsPlaced ks before e s
  placed_one true taken h = absurd cc
  placed_one false taken h = at_one (or_parts (list_any (same e.name) before) (is_some (entry_named e.name)) taken).0 (driver_named e.driver ks) refl h

all_named : (P : Name → Type 0) (ss : List Source) → AllByRecursion (λ s. P s.name) ss → AllByRecursion P (names_of ss)
all_named P [] h = tt
all_named P (s ∷ ss) h = (h.0, all_named P ss h.1)

in_order : (ks : List DriverKind) (before : List Name) (e : Entry) (s : Source) (ts : List Source) → IsProper e.ty → IsPlaced ks before e s → AllPlaced ks (e.name ∷ before) ts → AllPlaced ks before (s ∷ ts)
unfolding IsDistinct
in_order ks before e s ts proper one rest = record {
  suited = (one.suited, rest.suited);
  proper = (subst IsProper (sym one.ty) proper, rest.proper);
  fresh = (subst (λ x. list_any (same x) before ≡ false) (sym one.name) one.fresh, all_map (λ t. list_any (same t.name) (e.name ∷ before) ≡ false) (λ t. list_any (same t.name) before ≡ false) ts (λ t h. (or_parts (same t.name e.name) (list_any (same t.name) before) h).1) rest.fresh);
  differ = (
    all_named (λ y. same s.name y ≡ false) ts (all_map (λ t. list_any (same t.name) (e.name ∷ before) ≡ false) (λ t. same s.name t.name ≡ false) ts
        (λ t h. subst (λ x. same x t.name ≡ false) (sym one.name) (turned t.name e.name (or_parts (same t.name e.name) (list_any (same t.name) before) h).0)) rest.fresh),
    rest.differ,
  );
}

front : (ks : List DriverKind) (before : List Name) (e : Entry) (ss : List Source) → IsProper e.ty → (p : Result Source PlaceError) (r : Result (List Source) PlaceError) → placed ks before e ≡ p → ((ts : List Source) → r ≡ Ok ts → AllPlaced ks (e.name ∷ before) ts) → in_front p r ≡ Ok ss → AllPlaced ks before ss
front ks before e ss proper (Ok s) (Ok ts) is rest h = subst (AllPlaced ks before) (ok_same (s ∷ ts) ss h) (in_order ks before e s ts proper (placed_one ks before e s (is_taken before e.name) refl is) (rest ts refl))
front ks before e ss proper (Ok s) (Err f) is rest h = absurd cc
front ks before e ss proper (Err f) r is rest h = absurd cc

all_placed : (ks : List DriverKind) (before : List Name) (es : List Entry) (ss : List Source) → AllByRecursion (λ e. IsProper e.ty) es → sources_of ks before es ≡ Ok ss → AllPlaced ks before ss
unfolding IsDistinct
all_placed ks before [] ss proper h = subst (AllPlaced ks before) (ok_same [] ss h) (record { suited = tt; proper = tt; fresh = tt; differ = tt })
all_placed ks before (e ∷ es) ss proper h = front ks before e ss proper.0 (placed ks before e) (sources_of ks (e.name ∷ before) es) refl (λ ts q. all_placed ks (e.name ∷ before) es ts proper.1 q) h

pub are_placed : (ks : List DriverKind) (es : List Entry) (ss : List Source) → All (λ e. IsProper e.ty) es → sources_of ks [] es ≡ Ok ss → AllByRecursion (IsFit ks) ss → ArePlaced ks ss
are_placed ks es ss proper h fit =
    let all = all_placed ks [] es ss (recursion_from_All (λ (e : Entry). IsProper e.ty) es proper) h in
    record { suited = all.suited; fit = fit; proper = all.proper; differ = all.differ }
