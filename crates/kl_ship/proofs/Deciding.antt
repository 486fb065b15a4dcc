-- What tests of plans have told.
use Rattle.std.proofs.Common.{◌≡◌, ◌==◌, ◌⊎◌, inl, inr, ⊎_elim, ℕ, zero, suc, ◌+◌, ◌<◌, ◌≤◌, Bool, true, false, not, ◌&&◌, List, [], ◌∷◌, map, drop, get_or, length, Some, None, nat_eq, refl, sym, ap, subst, ◌∙◌, arith, add-one, drop-cons, Result, Ok, Err, IfOk}
use mathlib.Core.Path.{ap₂}
use Rattle.std.specs.Bool.{Decides}
use Rattle.std.specs.Cmp.Lexicographic.{pointwise, same_text}
use Rattle.std.specs.List.{AllByRecursion}
use Rattle.std.proofs.lemmas.Bool.{eqb-true, eq-eqb}
use Rattle.std.proofs.lemmas.Bool.Decides.{Decides-eqb}
use Rattle.std.proofs.lemmas.List.{length-map, drop_all}
use Rattle.kl_type.specs.Parts.{same_kind}
use Rattle.kl_value.specs.declared.Kind.{Kind}
use Rattle.kl_value.specs.declared.Kind.TheVariants as kind
use Rattle.kl_outcome.specs.Outcome.{Name}
use Rattle.kl_outcome.proofs.Having.{both_true}
use Rattle.kl_sqltext.specs.declared.ast.Spj.{Spj}
use Rattle.kl_sqltext.specs.declared.ast.SqlTest.{SqlTest}
use Rattle.kl_sqltext.specs.declared.reading.SqlError.{SqlError}
use Rattle.kl_sqltext.specs.declared.reading.SqlError.TheVariants.{Bad, NoMemory}
use Rattle.kl_sqltext.specs.Grammar.{SqlColumn}
use Rattle.kl_sqltext.specs.Reading.{SqlReads}
use Rattle.kl_ask.specs.declared.ask.Ask.{Ask}
use Rattle.kl_ask.specs.declared.ask.Ask.TheVariants as asks
use Rattle.kl_plan.specs.declared.plan.Scan.{Scan}
use Rattle.kl_ship.specs.declared.source.ShipSource.{ShipSource}
use Rattle.kl_ship.specs.Delegation.{taken}
use Rattle.kl_ship.specs.Full.{Shows, IsUsed, IsReading, IsLoopOver, IsFull, IsFullAt}
use Rattle.kl_plan.specs.Erased.{erased}
use Rattle.kl_plan.specs.Nodes as node
use Rattle.kl_plan.specs.Nodes.{Node}
use Rattle.kl_ship.specs.Whether.{has_tests, is_scan_by, is_loop_by, has_loop}

-- ---- decisions

pub yes : {P : Type 0} → P → Decides true P
yes p = ((λ e. p), (λ h. refl))

pub no : {P : Type 0} → (P → ⊥) → Decides false P
no f = ((λ e. cc), (λ h. absurd (f h)))

pub refuted : {P : Type 0} (r : Bool) → Decides r P → r ≡ false → P → ⊥
refuted r d e p = let h : r ≡ true = d.1 p in cc

pub follows : {P Q : Type 0} (r : Bool) → (P → Q) → (Q → P) → Decides r P → Decides r Q
follows r f g d = ((λ e. f (d.0 e)), (λ q. d.1 (g q)))

pub on_ok : {E P Q : Type 0} (r : Result Bool E) → ((b : Bool) → Decides b P → Decides b Q) → IfOk r (λ b. Decides b P) → IfOk r (λ b. Decides b Q)
on_ok (Ok b) f h = f b h
on_ok (Err e) f h = tt

-- ---- a walk through a list

module _ {X : Type 0} (Q : X → Type 0) (R : List X → Type 0) (split : (x : X) (xs : List X) → R (x ∷ xs) → Q x × R xs) (join : (x : X) (xs : List X) → Q x → R xs → R (x ∷ xs)) where
  abbrev pub Walked : ℕ → List X → Type 0
  Walked i xs = (R (drop i xs) → R xs) × (R xs → R (drop i xs))

  front : (i : ℕ) (x : X) (xs : List X) → i < length xs → x ≡ get_or xs i x → drop i xs ≡ x ∷ drop (i + 1) xs
  front i x xs lt is = rw add-one (drop-cons xs i x lt ∙ ap (λ z. z ∷ drop (suc i) xs) (sym is))

  pub walked_on : (i : ℕ) (x : X) (xs : List X) → i < length xs → x ≡ get_or xs i x → Walked i xs → Q x → Walked (i + 1) xs
  walked_on i x xs lt is w q =
      let e = front i x xs lt is in
      ((λ h. w.0 (subst R (sym e) (join x (drop (i + 1) xs) q h))), (λ h. (split x (drop (i + 1) xs) (subst R e (w.1 h))).1))

  pub walked_out : (i : ℕ) (xs : List X) → length xs ≤ i → R [] → Walked i xs → R xs
  walked_out i xs le nil w = w.0 (subst R (sym (drop_all i xs le)) nil)

-- ---- kinds

pub kinds_are : (j k : Kind) → same_kind j k ≡ true → j ≡ k
kinds_are kind.Set kind.Set h = refl
kinds_are kind.Bag kind.Bag h = refl
kinds_are kind.List kind.List h = refl
kinds_are kind.Set kind.Bag h = cc
kinds_are kind.Set kind.List h = cc
kinds_are kind.Bag kind.Set h = cc
kinds_are kind.Bag kind.List h = cc
kinds_are kind.List kind.Set h = cc
kinds_are kind.List kind.Bag h = cc

pub kind_is : (k : Kind) → same_kind k k ≡ true
kind_is kind.Set = refl
kind_is kind.Bag = refl
kind_is kind.List = refl

-- ---- tests in the front

nonzero : (q : SqlTest) (qs : List SqlTest) → (length (q ∷ qs) == 0) ≡ false
nonzero q qs = by (length (q ∷ qs) == 0) refl
  where
    by : (b : Bool) → (length (q ∷ qs) == 0) ≡ b → (length (q ∷ qs) == 0) ≡ false
    by true e = absurd (let z : length (q ∷ qs) ≡ 0 = (Decides-eqb (length (q ∷ qs)) 0).0 e in omega (arith, z))
    by false e = e

front_empty : (x : Bool) (qs : List SqlTest) → (x && not (length qs == 0)) ≡ false → x ≡ true → qs ≡ []
front_empty x [] h e = refl
front_empty true (q ∷ qs) h e = let wrong : true ≡ false = sym (ap (λ z. true && not z) (nonzero q qs)) ∙ h in cc
front_empty false (q ∷ qs) h e = cc

-- ---- a loop directly inside

abbrev pub IsLoopBy : ℕ → Kind → Node → Type 0
IsLoopBy driver k b = (d : Scan) × IsLoopOver k d b × (d.driver ≡ driver) × (d.kind ≡ k)

scan_by : (driver : ℕ) (k : Kind) (p : Node) → is_scan_by driver k p ≡ true → (d : Scan) × IsReading d p × (d.driver ≡ driver)
    × (d.kind ≡ k)
scan_by driver k (node.Scan d) h = let e = both_true (nat_eq d.driver driver) (same_kind d.kind k) h in (d, refl, eqb-true d.driver driver e.0, kinds_are d.kind k e.1)
scan_by driver k (node.Memo n frees p) h = scan_by driver k p h
scan_by driver k p h = cc

loop_by : (driver : ℕ) (k : Kind) (b : Node) → is_loop_by driver k b ≡ true → IsLoopBy driver k b
loop_by driver k (node.Ext j a s) h =
    let e = both_true (same_kind j k) (is_scan_by driver k s) h in
    let d = scan_by driver k s e.1 in
    (d.0, (kinds_are j k e.0, d.1), d.2, d.3)
loop_by driver k (node.Join n j how o cs i q b) h =
    let e = both_true (same_kind j k) (is_scan_by driver k o) h in
    let d = scan_by driver k o e.1 in
    (d.0, (kinds_are j k e.0, d.1), d.2, d.3)
loop_by driver k (node.Memo n frees p) h = loop_by driver k p h
loop_by driver k b h = cc

by_scan : (driver : ℕ) (k : Kind) (p : Node) (d : Scan) → IsReading d p → d.driver ≡ driver → d.kind ≡ k → is_scan_by driver k p ≡ true
by_scan driver k (node.Scan c) d is e f =
    let own : is_scan_by driver k (node.Scan d) ≡ true = rw (eq-eqb d.driver driver e, f, kind_is k) refl in
    ap (λ x. is_scan_by driver k (node.Scan x)) is ∙ own
by_scan driver k (node.Memo n frees p) d is e f = by_scan driver k p d is e f
by_scan driver k p d is e f = absurd is

by_loop : (driver : ℕ) (k : Kind) (b : Node) (d : Scan) → IsLoopOver k d b → d.driver ≡ driver → d.kind ≡ k → is_loop_by driver k b ≡ true
by_loop driver k (node.Ext j a s) d is e f = ap₂ (λ x y. x && y) (ap (λ z. same_kind z k) is.0 ∙ kind_is k) (by_scan driver k s d is.1 e f)
by_loop driver k (node.Join n j how o cs i q b) d is e f =
    ap₂ (λ x y. x && y) (ap (λ z. same_kind z k) is.0 ∙ kind_is k) (by_scan driver k o d is.1 e f)
by_loop driver k (node.Memo n frees p) d is e f = by_loop driver k p d is e f
by_loop driver k b d is e f = absurd is

-- ---- columns

abbrev pub AreUsed : Node → List Name → Type 0
AreUsed b ls = AllByRecursion (IsUsed b) ls ⊎ (length ls ≤ 1)

abbrev pub ShowsUsed : Node → Ask → Type 0
ShowsUsed b a = (ls : List Name) → Shows a ls → AreUsed b ls

abbrev shown_labels : List SqlColumn → List Name
shown_labels cs = map (λ c. c.2) cs

pub shown_sql : (b : Node) (a : Ask) (text bytes : List ℕ) (q : Spj) (cs : List SqlColumn) (r : Bool) → a ≡ asks.Sql text → bytes ≡ text → SqlReads bytes q → ((p : Spj) → SqlReads bytes p → q ≡ p) → cs ≡ q.columns
    → Decides r (AllByRecursion (IsUsed b) (map (λ c. c.2) cs) ⊎ (length cs ≤ 1)) → Decides r (ShowsUsed b a)
shown_sql b a text bytes q cs r is e reads only f d = subst (λ x. Decides r (ShowsUsed b x)) (sym (is ∙ ap asks.Sql (sym e))) (follows r there back d)
  where
    there : AllByRecursion (IsUsed b) (shown_labels cs) ⊎ (length cs ≤ 1) → ShowsUsed b (asks.Sql bytes)
    there h ls shown =
        let same : shown_labels cs ≡ ls = ap shown_labels (f ∙ ap (λ x. x.columns) (only shown.0 shown.1)) ∙ sym shown.2 in
        ⊎_elim (λ all. inl (subst (AllByRecursion (IsUsed b)) same all)) (λ few. inr (subst (λ n. n ≤ 1) (sym (length-map cs (λ c. c.2)) ∙ ap length same) few)) h

    back : ShowsUsed b (asks.Sql bytes) → AllByRecursion (IsUsed b) (shown_labels cs) ⊎ (length cs ≤ 1)
    back h = ⊎_elim (λ all. inl all) (λ few. inr (subst (λ n. n ≤ 1) (length-map cs (λ c. c.2)) few)) (h (shown_labels cs) (q, reads, ap shown_labels f))

pub shown_none : (b : Node) (a : Ask) (text bytes : List ℕ) → a ≡ asks.Sql text → bytes ≡ text → ((p : Spj) → SqlReads bytes p → ⊥) → Decides true (ShowsUsed b a)
shown_none b a text bytes is e none = subst (λ x. Decides true (ShowsUsed b x)) (sym (is ∙ ap asks.Sql (sym e))) (yes (λ ls shown. absurd (none shown.0 shown.1)))

pub no_memory : (e : SqlError) (place : ℕ) → e ≡ Bad place → e ≡ NoMemory → ⊥
no_memory e place is other = let wrong : Bad place ≡ NoMemory = sym is ∙ other in cc

-- ---- a loop over a scan of a source

module _ (s : ShipSource) (k : Kind) (b : Node) (c : Scan) where
  abbrev pub IsFullIf : Type 0
  IsFullIf = s.driver ≡ c.driver → s.name ≡ c.source → IsFull s k b c

  is_of : (r : Bool) → r ≡ (nat_eq s.driver c.driver && pointwise nat_eq s.name c.source) → r ≡ true → (s.driver ≡ c.driver) × (s.name ≡ c.source)
  is_of r e f =
      let h = both_true (nat_eq s.driver c.driver) (pointwise nat_eq s.name c.source) (sym e ∙ f) in
      (eqb-true s.driver c.driver h.0, same_text s.name c.source (sym h.1))

  no_tests : (q : Bool) → q ≡ has_tests s k b → q ≡ false → s.abilities.select ≡ true → taken k 1 (erased b) ≡ []
  no_tests q g h = front_empty s.abilities.select (taken k 1 (erased b)) (sym g ∙ h)

  pub with_loop : (r m q : Bool) → r ≡ (nat_eq s.driver c.driver && pointwise nat_eq s.name c.source) → r ≡ true → m ≡ same_kind c.kind k → m ≡ true → q ≡ has_loop s c.driver k b → q ≡ true → Decides false IsFullIf
  with_loop r m q e f i j g h = no (λ full.
      let o = is_of r e f in
      let both_are = both_true s.abilities.join (is_loop_by c.driver k b) (sym g ∙ h) in
      let l = loop_by c.driver k b both_are.1 in
      (full o.0 o.1).loops both_are.0 (kinds_are c.kind k (sym i ∙ j)) l.0 l.1 l.2 l.3)

  no_loop : (q : Bool) → q ≡ has_loop s c.driver k b → q ≡ false → s.abilities.join ≡ true → c.kind ≡ k → (d : Scan) → IsLoopOver k d b
      → d.driver ≡ c.driver → d.kind ≡ k → ⊥
  no_loop q g h join same d is e f =
      let all : has_loop s c.driver k b ≡ true = ap (λ x. x && is_loop_by c.driver k b) join ∙ by_loop c.driver k b d is e f in
      let wrong : true ≡ false = sym all ∙ sym g ∙ h in cc

  pub by_columns : (r m q l u : Bool) → r ≡ (nat_eq s.driver c.driver && pointwise nat_eq s.name c.source) → r ≡ true → q ≡ has_tests s k b → q ≡ false → m ≡ same_kind c.kind k → m ≡ true
      → l ≡ has_loop s c.driver k b → l ≡ false → s.abilities.project ≡ true → Decides u (ShowsUsed b c.ask) → Decides u IsFullIf
  by_columns r m q l u e f g h i j x y project d =
      follows u (λ used v w. record { tests = no_tests q g h; columns = λ p n. used; loops = no_loop l x y })
      (λ full. let o = is_of r e f in (full o.0 o.1).columns project (kinds_are c.kind k (sym i ∙ j))) d

  -- where the driver leaves no columns out
  pub without_columns : (q l : Bool) → q ≡ has_tests s k b → q ≡ false → l ≡ has_loop s c.driver k b → l ≡ false
      → s.abilities.project ≡ false → Decides true IsFullIf
  without_columns q l g h x y p = yes (λ v w. record {
    tests = no_tests q g h;
    columns = λ on same ls shows. absurd (let wrong : true ≡ false = sym on ∙ p in cc);
    loops = no_loop l x y;
  })

-- ---- all sources

module _ (k : Kind) (b : Node) (c : Scan) where
  abbrev pub EachFull : List ShipSource → Type 0
  EachFull = AllByRecursion (λ s. IsFullIf s k b c)

  pub full_at : (ss : List ShipSource) → EachFull ss → IsFullAt ss k b (node.Scan c)
  full_at [] h i s e = absurd (let wrong : None ≡ Some s = e in cc)
  full_at (t ∷ ss) h zero s e = subst (λ x. IsFullIf x k b c) (some_is e) h.0
    where
      some_is : Some t ≡ Some s → t ≡ s
      some_is e = cc
  full_at (t ∷ ss) h (suc i) s e = full_at ss h.1 i s e
