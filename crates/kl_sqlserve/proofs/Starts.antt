-- Cursors of a server are opened.
use Rattle.std.proofs.Common.{length-append, ◌≡◌, ◌≢◌, ◌<◌, ◌≤◌, ℕ, suc, ◌+◌, ◌*◌, ◌^◌, Bool, true, false, List, [], ◌∷◌, ◌++◌, map, filter, cond, not, length, Option, Some, None, Ok, IsSome, refl, sym, ap, ◌∙◌, subst, arith}
use Rattle.std.specs.List.{AllByRecursion, flat_map, list_all}
use Rattle.std.specs.List.Sorted.{IsPermutation}
use Rattle.std.specs.Option.{option_map}
use Rattle.std.specs.Ordering.{eq_by_cmp}
use Rattle.std.proofs.Math.Nat.{mul-le-mul, pow-succ', pow-zero}
use Rattle.std.proofs.lemmas.List.{length-map}
use Rattle.std.proofs.lemmas.List.Sorted.{IsPermutation-refl, IsPermutation-trans}
use Rattle.std.proofs.lemmas.Option.{same_Some}
use Rattle.kl_value.specs.Order.{compare}
use Rattle.kl_value.specs.declared.Value.{Value}
use Rattle.kl_type.specs.Ground.{ground_of}
use Rattle.kl_outside.specs.Files.{FilesState}
use Rattle.kl_outcome.specs.Outcome.{Name}
use Rattle.kl_ask.specs.Asked.{with_ask}
use Rattle.kl_ask.specs.Asks.{item_of}
use Rattle.kl_ask.specs.Driver.{AreRows, CanStart, IsFresh, IsJoined, IsTold, OpensAt as IsOpened, Source as Attached, Starts, State, row_type, row_types}
use Rattle.kl_ask.specs.Named.{source_named}
use Rattle.kl_ask.specs.declared.ask.Ask.{Ask}
use Rattle.kl_ask.specs.declared.ask.Ask.TheVariants as asks
use Rattle.kl_ask.specs.declared.ask.ColTest.{ColTest}
use Rattle.kl_ask.proofs.Opened.{added_free, added_now, added_others}
use Rattle.kl_flat.specs.ColumnTable.{rows_of}
use Rattle.kl_flat.specs.Flat.{Sources, attached_of, contents_of, told_only}
use Rattle.kl_flat.specs.declared.parts.Source.{Source}
use Rattle.kl_flat.specs.declared.parts.Open.{Open as RowsOpen}
use Rattle.kl_flat.proofs.Cursors.{fresh_over, told_size}
use Rattle.kl_sqltext.specs.Meaning.{Tuple, shown_tuple, spj, tuple_passes, tuples, without_repeats}
use Rattle.kl_sqltext.specs.Reading.{SqlReads}
use Rattle.kl_sqltext.specs.declared.ast.Spj.{Spj}
use Rattle.kl_sqltext.proofs.Answer.{unique}
use Rattle.kl_sqlserve.specs.Handing.{left_of_joined}
use Rattle.kl_sqlserve.specs.Left.{tables_of}
use Rattle.kl_sqlserve.specs.Opening.{AreAttached, AreSides, CanOpen, OpensAt, OpensJoined, OpensRows, bag_over, rows_over}
use Rattle.kl_sqlserve.specs.Server.{ask_of, cursor_of, kept_contents, sql_state}
use Rattle.kl_sqlserve.specs.declared.joined.Joined.{Joined}
use Rattle.kl_sqlserve.specs.declared.joined.Open.{Open}
use Rattle.kl_sqlserve.specs.declared.joined.Open.TheVariants as opened
use Rattle.kl_sqlserve.specs.declared.side.Side.{Side}
use Rattle.kl_sqlserve.proofs.Joins.{filter-few}
use Rattle.kl_sqlserve.proofs.Openings.{sides_length, statement_some}
use Rattle.kl_sqlserve.proofs.Reordered.{all_tables, same_many, some_tables}
use Rattle.kl_sqlserve.proofs.Typed.{shown_type_is}

-- ---- how many rows a statement can have

product : (ts : List Tuple) (rows : List Value) → length (flat_map (λ row. map (λ t. row ∷ t) ts) rows) ≡ length rows * length ts
product ts [] = grind arith
product ts (row ∷ rows) =
    length-append (map (λ t. row ∷ t) ts) (flat_map (λ row. map (λ t. row ∷ t) ts) rows) ∙ (λ i. length-map ts (λ (t : Tuple). row ∷ t) i + product ts rows i) ∙ more (length ts) (length rows)
  where
    more : (a n : ℕ) → a + n * a ≡ suc n * a
    more a n = grind arith

module _ (b : ℕ) (small : (s : Side) → length (rows_of s.index.table) ≤ b) where
  tuples_few : (sides : List Side) → length (tuples (tables_of sides)) ≤ b ^ length sides
  tuples_few [] = let one_more = pow-zero b in omega (arith, one_more)
  tuples_few (s ∷ sides) =
      let whole = product (tuples (tables_of sides)) (rows_of s.index.table) in
      let less = mul-le-mul (small s) (tuples_few sides) in
      let power = pow-succ' b (length sides) in
      omega (arith, whole, less, power)

  repeats_few : (vs : List Value) → length (without_repeats vs) ≤ length vs
  repeats_few [] = omega arith
  repeats_few (v ∷ vs) = omega (arith, filter-few (λ w. not (eq_by_cmp compare v w)) (without_repeats vs), repeats_few vs)

  -- a statement has no more rows than tuples
  rows_few : (q : Spj) (sides : List Side) → length (rows_over q (tables_of sides)) ≤ b ^ length sides
  rows_few q sides = by q.distinct
    where
      bag : length (bag_over q (tables_of sides)) ≤ b ^ length sides
      bag = omega (arith, length-map (filter (λ t. list_all (tuple_passes t) q.tests) (tuples (tables_of sides))) (shown_tuple q.columns), filter-few (λ t. list_all (tuple_passes t) q.tests) (tuples (tables_of sides)), tuples_few sides)

      by : (d : Bool) → length (cond d (without_repeats (bag_over q (tables_of sides))) (bag_over q (tables_of sides))) ≤ b ^ length sides
      by true = omega (arith, repeats_few (bag_over q (tables_of sides)), bag)
      by false = bag

at_most : (m n : ℕ) → m < n → m ≤ n
at_most m n lt = omega (arith, lt)

-- ---- what is told

rows_told : {A : Type 0} (told : Option A) (xs ys : List Value) → told_only told xs ≡ Some ys → ys ≡ xs
rows_told None xs ys e = absurd cc
rows_told (Some t) xs ys e = sym (same_Some _ _ e)

all_told : {A : Type 0} (told : Option A) (xs ys zs : List Value) → told_only told xs ≡ Some ys → told_only told zs ≡ Some zs
all_told None xs ys zs e = absurd cc
all_told (Some t) xs ys zs e = refl

module _ (f : FilesState) (sources : Sources) (cursors : List (Option Open)) (asked : List (Ask × ℕ)) (handed unread : ℕ) where
  abbrev now : State
  now = sql_state f sources cursors asked handed unread

  types_are : (l : Name) (a : Source) → source_named sources l ≡ Some a → row_types now l ≡ Some (item_of (ground_of a.ty))
  types_are l a is = ap (λ o. row_type (option_map (attached_of f.told) o)) is

  -- the rows that are told of attached tables
  module _ (rows : Name → List Value) where
    one_told : (l : Name) (a : Source) → source_named sources l ≡ Some a → (b : Attached) → now.attached l ≡ Some b → b.rows ≡ Some (rows l) → told_only f.told (rows_of a.table) ≡ Some (rows l)
    one_told l a found b is told = ap (λ (x : Attached). x.rows) (same_Some _ _ (sym (ap (option_map (attached_of f.told)) found) ∙ is)) ∙ told

    tables_told : (names : List Name) (sides : List Side) → AreSides sources names sides → AreRows now rows names → map rows names ≡ tables_of sides
    tables_told [] [] h are = refl
    tables_told [] (s ∷ sides) h are = absurd h
    tables_told (l ∷ names) [] h are = absurd h
    tables_told (l ∷ names) (s ∷ sides) h are =
        let one = rows_told f.told (rows_of h.0.0.table) (rows l) (one_told l h.0.0 h.0.1 are.0.0 are.0.1 are.0.2) in
        let same : rows l ≡ rows_of s.index.table = one ∙ ap rows_of (sym h.0.3) in
        (λ i. same i ∷ tables_told names sides h.1 are.1 i)

    told_then : (names : List Name) (sides : List Side) → AreSides sources names sides → AreRows now rows names → names ≢ [] → (zs : List Value) → told_only f.told zs ≡ Some zs
    told_then [] sides h are some zs = absurd (some refl)
    told_then (l ∷ names) [] h are some zs = absurd h
    told_then (l ∷ names) (s ∷ sides) h are some zs = all_told f.told (rows_of h.0.0.table) (rows l) zs (one_told l h.0.0 h.0.1 are.0.0 are.0.1 are.0.2)

  untold_none : (vs : List Value) → (IsTold now → ⊥) → told_only f.told vs ≡ None
  untold_none vs untold = by f.told refl
    where
      by : (t : Option (List ℕ → Option (List ℕ))) → f.told ≡ t → told_only t vs ≡ None
      by None is = refl
      by (Some files) is = absurd (untold (subst (λ t. IsSome (kept_contents (contents_of t))) (sym is) refl))

  -- a cursor over a statement
  joined : (text : List ℕ) (j : Joined) → OpensJoined sources (asks.Sql text) text j → (q : Spj) → SqlReads text q → IsJoined q now (cursor_of f.told (opened.Joined j))
  joined text j opens q reads = subst (λ q. IsJoined q now (cursor_of f.told (opened.Joined j))) (unique text opens.statement q opens.reads reads) (record {
    ty = sym (shown_type_is (row_types now) sources types_are ordered j.query.sides opens.sides) ∙ opens.order.types (row_types now);
    left = λ rows are.
        let there = all_tables (λ l. (a : Attached) × (now.attached l ≡ Some a) × (a.rows ≡ Some (rows l))) opens.statement ordered opens.order are in (
          left_of_joined j,
          told_then rows ordered.tables j.query.sides opens.sides there some (left_of_joined j),
          IsPermutation-trans (spj rows opens.statement) (spj rows ordered) (left_of_joined j) (opens.order.rows rows)
              (subst (IsPermutation (spj rows ordered)) (ap (rows_over ordered) (tables_told rows ordered.tables j.query.sides opens.sides there) ∙ sym opens.left) (IsPermutation-refl (spj rows ordered))),
        );
    untold = untold_none (left_of_joined j);
    told = λ shown is. told_size f.told (left_of_joined j) shown is;
    bound = few;
  })
    where
      ordered : Spj
      ordered = j.query.statement

      some : ordered.tables ≢ []
      some = some_tables opens.statement ordered opens.order (statement_some text opens.statement opens.reads)

      few : length (left_of_joined j) ≤ (2 ^ 64) ^ length opens.statement.tables
      few = subst (λ n. length (left_of_joined j) ≤ (2 ^ 64) ^ n) (sides_length sources ordered.tables j.query.sides opens.sides ∙ same_many opens.statement ordered opens.order)
          (subst (λ vs. length vs ≤ (2 ^ 64) ^ length j.query.sides) (sym opens.left) (rows_few (2 ^ 64) (λ s. at_most (length (rows_of s.index.table)) (2 ^ 64) s.small) ordered j.query.sides))

  -- a cursor over a source
  rows_opened : (source : Name) (keep : List Name) (tests : List ColTest) (o : RowsOpen) → OpensRows sources (asks.Rows source keep tests) o → (a : Attached) → now.attached source ≡ Some a → IsFresh keep tests a (cursor_of f.told (opened.Rows o))
  rows_opened source keep tests o opens a is =
      let same : attached_of f.told opens.source ≡ a = same_Some _ _ (sym (ap (option_map (attached_of f.told)) opens.found) ∙ is) in
      subst (λ a. IsFresh keep tests a (cursor_of f.told (opened.Rows o))) same (fresh_over f.told source keep tests opens.source o opens.ask_is opens.ty opens.table opens.start o.small)

  opens_at : (ask : Ask) (o : Open) → OpensAt sources ask o → IsOpened ask now (cursor_of f.told o)
  opens_at (asks.Rows source keep tests) o opens = λ a is. subst (λ o. IsFresh keep tests a (cursor_of f.told o)) (sym opens.1) (rows_opened source keep tests opens.0 opens.2 a is)
  opens_at (asks.Sql text) o opens = λ q reads. subst (λ o. IsJoined q now (cursor_of f.told o)) (sym opens.1) (joined text opens.0 opens.2 q reads)

  ask_kept : (ask : Ask) (o : Open) → OpensAt sources ask o → ask_of o ≡ ask
  ask_kept (asks.Rows source keep tests) o opens = ap ask_of opens.1 ∙ opens.2.ask_is
  ask_kept (asks.Sql text) o opens = ap ask_of opens.1 ∙ opens.2.ask_is

  -- what may be asked can be opened
  all_attached : (names : List Name) → AllByRecursion (λ l. IsSome (row_types now l)) names → AreAttached sources names
  all_attached [] all = tt
  all_attached (l ∷ names) all = (by (source_named sources l) all.0, all_attached names all.1)
    where
      by : (o : Option Source) → IsSome (row_type (option_map (attached_of f.told) o)) → IsSome o
      by None is = absurd cc
      by (Some a) is = refl

  pub can_open : (ask : Ask) → CanStart now ask → CanOpen sources ask
  can_open (asks.Rows source keep tests) can = by (source_named sources source) can.answerable.1
    where
      by : (o : Option Source) {a : Attached} → option_map (attached_of f.told) o ≡ Some a → IsSome o
      by None is = absurd cc
      by (Some s) is = refl
  can_open (asks.Sql text) can = let a = can.answerable in (a.0, a.1, all_attached a.0.tables a.3.tables, a.3.apart)

  pub start_done : (ask : Ask) (n : ℕ) (o : Open) (cursors' : List (Option Open)) (asked' : List (Ask × ℕ)) → OpensAt sources ask o → n ≡ length cursors → cursors' ≡ cursors ++ Some o ∷ [] → asked' ≡ with_ask ask asked
      → Starts ask (Ok n) now (sql_state f sources cursors' asked' handed unread)
  start_done ask n o cursors' asked' opens last grown counted = record {
    keeps = record { kind = refl; handed = omega arith; faults = omega arith; drifts = omega arith; no_drift = λ is. refl; unread = omega arith };
    attached = refl;
    reading = λ k is. record { file = refl; read = refl };
    handed = refl;
    faults = refl;
    drifts = refl;
    unread = refl;
    opens = record {
      free = ap (option_map (cursor_of f.told)) (added_free cursors cursors' n o last grown);
      opened = cursor_of f.told o;
      now = ap (option_map (cursor_of f.told)) (added_now cursors cursors' n o last grown);
      ask_kept = ask_kept ask o opens;
      fresh = opens_at ask o opens;
      others = λ k ne. ap (option_map (cursor_of f.told)) (added_others cursors cursors' n o last grown k ne);
      anew = λ is. absurd cc;
      unread = λ r is. absurd cc;
      asked = counted;
    };
    refused = tt;
    failed = λ is. absurd cc;
    no_other = tt;
  }
