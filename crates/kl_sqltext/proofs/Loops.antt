-- The loops of the descent.
use Rattle.std.proofs.Common.{◌≡◌, ℕ, zero, suc, ◌+◌, ◌<◌, Bool, true, false, List, [], ◌∷◌, ◌++◌, length, ◌⊎◌, inl, inr, if◌then◌else◌, ◌≤◌, refl, sym, ap, ◌∙◌, append_assoc, append-nil, codes, arith}
use Rattle.kl_phrase.specs.Words.{heads, list_of}
use Rattle.kl_phrase.specs.Readers.{Why, bad, deep, Out, ok, fail, Reader, after, behind, both, made, nothing, pick, turns, loop}
use Rattle.kl_phrase.proofs.Gathered.{Progress, part_fails}
use Rattle.kl_phrase.proofs.Failures.{err_by}
use Rattle.kl_phrase.proofs.Kept.{takes_behind}
use Rattle.kl_phrase.proofs.Tails.{Going, fails_at}
use Rattle.kl_sqltext.specs.declared.ast.SqlTest.{SqlTest}
use Rattle.kl_sqltext.specs.declared.ast.Spj.{Spj}
use Rattle.kl_phrase.specs.declared.fault.Fault.{Fault}
use Rattle.kl_phrase.specs.declared.fault.Fault.TheVariants as fault
use Rattle.kl_phrase.specs.Gives.{Fails}
use Rattle.kl_sqltext.specs.Words.{is_blank}
use Rattle.kl_sqltext.specs.Grammar.{Name, SqlColumn, FromWhere, put_first, spj_of}
use Rattle.kl_sqltext.specs.Descent.{is, mark, code, gap, gaps, space, after_gap}
use Rattle.kl_sqltext.specs.Statements as d
use Rattle.kl_sqltext.proofs.Goods.{takes_conjunction, reads_spaced}

-- where the refusals of a part are those of the whole, its fault is the whole's
fails_with : {A B : Type 0} (f : Fault ℕ) (part : Out ℕ A) (whole : Out ℕ B) → ((w : Why) (s : List ℕ) → part ≡ fail w s → whole ≡ fail w s) → Fails f part → Fails f whole
fails_with fault.Memory part whole h e = tt
fails_with (fault.Bad r) part whole h e = h bad r.now e
fails_with (fault.Deep r) part whole h e = h deep r.now e

-- ---- tests

abbrev pub Next : Reader ℕ SqlTest
Next = behind d.conjunction (behind space d.test)

pub tests_start : (bytes r : List ℕ) (a : SqlTest) → behind space d.test bytes ≡ ok a r → Progress is_blank Next (d.tests bytes) (a ∷ []) r
tests_start bytes r a e = (suc (length r), omega arith, sym (rw e (again (turns (pick is_blank (made inl Next) (made inr (nothing (tt {0})))) (suc (length r)) r))))
  where
    again : (o : Out ℕ (List SqlTest × Unit {0})) → after {B = List SqlTest} (after {B = SqlTest × List SqlTest} (after {B = List SqlTest} o (λ x s. ok x.0 s)) (λ l s. ok (a, l) s)) (λ x s. ok (list_of x) s) ≡ after {B = List SqlTest} o (λ x s. ok ((a ∷ []) ++ x.0) s)
    again (ok x s) = refl
    again (fail w s) = refl

pub next_less : (bytes r : List ℕ) (a : SqlTest) → Next bytes ≡ ok a r → length r < length bytes
next_less bytes r a e = takes_behind takes_conjunction (reads_spaced.keeps (λ _ _. ⊥) 0 0) bytes a r e

pub tests_fail : (whole : Out ℕ (List SqlTest)) (found : List SqlTest) (rest : List ℕ) (f : Fault ℕ) → heads is_blank rest ≡ true → Fails f (Next rest) → Progress is_blank Next whole found rest → Fails f whole
tests_fail whole found rest f h e so = part_fails is_blank Next (Next rest) whole found rest f h (λ w s k. k) e so

-- ---- tables

-- what follows a turn
abbrev Turned : ℕ → ℕ → Name ⊎ FromWhere → Reader ℕ FromWhere
Turned k i (inl l) r = after {B = FromWhere} (d.more k (suc i) r) (λ x s. ok (put_first (l, x)) s)
Turned k i (inr rest) r = ok rest r

-- a turn of the tables is a turn of the whole
module _ (k i : ℕ) where
  Item : Reader ℕ FromWhere
  Item = behind (mark 44) (behind gap (made put_first (both (d.table i) (d.more k (suc i)))))

  One : Reader ℕ (Name ⊎ FromWhere)
  One = made inl (behind (mark 44) (behind gap (d.table i)))

  abbrev Onto : Out ℕ FromWhere → Out ℕ (Name ⊎ FromWhere) → Type 0
  Onto o q = o ≡ after q (Turned k i)

  item_is : (ts : List ℕ) → Onto (Item ts) (One ts)
  unfolding Item One
  item_is ts = by (mark 44 ts)
    where
      third : (o : Out ℕ Name) → after {B = FromWhere} (after {B = Name × FromWhere} o (λ a r. after (d.more k (suc i) r) (λ b s. ok (a, b) s))) (λ x s. ok (put_first x) s) ≡ after {B = FromWhere} (after {B = Name ⊎ FromWhere} o (λ a r. ok (inl a) r)) (Turned k i)
      third (fail w r) = refl
      third (ok a r) = fourth (d.more k (suc i) r)
        where
          fourth : (q : Out ℕ FromWhere) → after {B = FromWhere} (after {B = Name × FromWhere} q (λ b s. ok (a, b) s)) (λ x s. ok (put_first x) s) ≡ after {B = FromWhere} q (λ x s. ok (put_first (a, x)) s)
          fourth (ok b s) = refl
          fourth (fail w s) = refl

      by : (o : Out ℕ (Unit {0})) → after {B = FromWhere} o (λ _ r. behind gap (made put_first (both (d.table i) (d.more k (suc i)))) r) ≡ after {B = FromWhere} (after {B = Name ⊎ FromWhere} (after {B = Name} o (λ _ r. behind gap (d.table i) r)) (λ a r. ok (inl a) r)) (Turned k i)
      by (fail w r) = refl
      by (ok x r) = second (gap r)
        where
          second : (o : Out ℕ (Unit {0})) → after {B = FromWhere} o (λ _ r. made put_first (both (d.table i) (d.more k (suc i))) r) ≡ after {B = FromWhere} (after {B = Name ⊎ FromWhere} (after {B = Name} o (λ _ r. d.table i r)) (λ a r. ok (inl a) r)) (Turned k i)
          second (fail w r) = refl
          second (ok x r) = third (d.table i r)

  where_is : (ts : List ℕ) → Onto (d.a_where ts) (made inr d.a_where ts)
  where_is ts = by (d.a_where ts)
    where
      by : (o : Out ℕ FromWhere) → o ≡ after {B = FromWhere} (after {B = Name ⊎ FromWhere} o (λ a r. ok (inr a) r)) (Turned k i)
      by (ok a r) = refl
      by (fail w r) = refl

  chosen : (b : Bool) (o p : Out ℕ FromWhere) (q r : Out ℕ (Name ⊎ FromWhere)) → Onto o q → Onto p r → Onto (if b then o else p) (if b then q else r)
  chosen true o p q r h k = h
  chosen false o p q r h k = k

  gap_is : (b : Bool) (ts : List ℕ) → Onto (after_gap (is 44) Item d.a_where b ts) (after_gap (is 44) One (made inr d.a_where) b ts)
  gap_is true ts = chosen (heads (is 44) ts) (Item ts) (d.a_where ts) (One ts) (made inr d.a_where ts) (item_is ts) (where_is ts)
  gap_is false ts = chosen (heads (is 44) ts) (Item ts) (fail bad ts) (One ts) (fail bad ts) (item_is ts) refl

  gapped_is : (o : Out ℕ Bool) → Onto (after o (after_gap (is 44) Item d.a_where)) (after o (after_gap (is 44) One (made inr d.a_where)))
  gapped_is (ok b r) = gap_is b r
  gapped_is (fail w r) = refl

  pub table_more : (ts : List ℕ) → d.more (suc k) i ts ≡ after (d.table_turn i ts) (Turned k i)
  unfolding d.more Item One
  table_more ts = chosen (heads d.goes_further ts) _ (ok ([], []) ts) _ (ok (inr ([], [])) ts) (gapped_is (gaps ts)) refl

-- ---- the tables, one by one

abbrev pub put_behind : List Name → FromWhere → FromWhere
put_behind found x = (found ++ x.0, x.1)

-- the next table has the number i
abbrev pub Tabling : Out ℕ FromWhere → List Name → ℕ → List ℕ → Type 0
Tabling whole found i rest = (k : ℕ) × (i + k ≡ 10000) × (made (put_behind found) (d.more k i) rest ≡ whole)

pub tables_start : (bytes r : List ℕ) (a : Name) → d.table 0 bytes ≡ ok a r → Tabling (d.tables bytes) (a ∷ []) 1 r
tables_start bytes r a e = (9999, refl, rw e (again (d.more 9999 1 r)))
  where
    again : (q : Out ℕ FromWhere) → after {B = FromWhere} q (λ x s. ok (put_behind (a ∷ []) x) s) ≡ after {B = FromWhere} (after {B = Name × FromWhere} q (λ b s. ok (a, b) s)) (λ x s. ok (put_first x) s)
    again (ok b s) = refl
    again (fail w s) = refl

pub tables_on : (whole : Out ℕ FromWhere) (found : List Name) (i : ℕ) (rest r : List ℕ) (a : Name) → i ≤ 9999 → d.table_turn i rest ≡ ok (inl a) r → Tabling whole found i rest → Tabling whole (found ++ a ∷ []) (suc i) r
tables_on whole found i rest r a le e (zero, eq, so) = absurd (omega (arith, le, eq))
tables_on whole found i rest r a le e (suc k, eq, so) = (k, omega (arith, eq), sym one ∙ so)
  where
    again : (q : Out ℕ FromWhere) → after {B = FromWhere} (after {B = FromWhere} q (λ x s. ok (put_first (a, x)) s)) (λ x s. ok (put_behind found x) s) ≡ after {B = FromWhere} q (λ x s. ok (put_behind (found ++ a ∷ []) x) s)
    again (ok x s) = ap (λ z. ok (z, x.1) s) (sym (append_assoc found (a ∷ []) x.0))
    again (fail w s) = refl

    one : made (put_behind found) (d.more (suc k) i) rest ≡ made (put_behind (found ++ a ∷ [])) (d.more k (suc i)) r
    one = rw (table_more k i rest, e) (again (d.more k (suc i) r))

pub tables_end : (whole : Out ℕ FromWhere) (found : List Name) (i : ℕ) (rest r : List ℕ) (qs : List SqlTest) → i ≤ 9999 → d.table_turn i rest ≡ ok (inr ([], qs)) r → Tabling whole found i rest → whole ≡ ok (found, qs) r
tables_end whole found i rest r qs le e (zero, eq, so) = absurd (omega (arith, le, eq))
tables_end whole found i rest r qs le e (suc k, eq, so) = sym so ∙ one
  where
    one : made (put_behind found) (d.more (suc k) i) rest ≡ ok (found, qs) r
    one = rw (table_more k i rest, e) (ap (λ z. ok (z, qs) r) (append-nil found))

pub tables_fail : (whole : Out ℕ FromWhere) (found : List Name) (i : ℕ) (rest : List ℕ) (f : Fault ℕ) → i ≤ 9999 → Fails f (d.table_turn i rest) → Tabling whole found i rest → Fails f whole
tables_fail whole found i rest f le e (zero, eq, so) = absurd (omega (arith, le, eq))
tables_fail whole found i rest f le e (suc k, eq, so) = fails_with f (d.table_turn i rest) whole (λ w s h. sym so ∙ one w s h) e
  where
    one : (w : Why) (s : List ℕ) → d.table_turn i rest ≡ fail w s → made (put_behind found) (d.more (suc k) i) rest ≡ fail w s
    one w s h = rw (table_more k i rest, h) refl

pub tables_last : (whole : Out ℕ FromWhere) (found : List Name) (i : ℕ) (rest r : List ℕ) (qs : List SqlTest) → 9999 < i → d.last_turn rest ≡ ok ([], qs) r → Tabling whole found i rest → whole ≡ ok (found, qs) r
unfolding d.more
tables_last whole found i rest r qs lt e (zero, eq, so) = sym so ∙ one
  where
    one : made (put_behind found) d.last_turn rest ≡ ok (found, qs) r
    one = rw e (ap (λ z. ok (z, qs) r) (append-nil found))
tables_last whole found i rest r qs lt e (suc k, eq, so) = absurd (omega (arith, lt, eq))

pub tables_last_fail : (whole : Out ℕ FromWhere) (found : List Name) (i : ℕ) (rest : List ℕ) (f : Fault ℕ) → 9999 < i → Fails f (d.last_turn rest) → Tabling whole found i rest → Fails f whole
unfolding d.more
tables_last_fail whole found i rest f lt e (zero, eq, so) = fails_with f (d.last_turn rest) whole (λ w s h. sym so ∙ one w s h) e
  where
    one : (w : Why) (s : List ℕ) → d.last_turn rest ≡ fail w s → made (put_behind found) d.last_turn rest ≡ fail w s
    one w s h = rw h refl
tables_last_fail whole found i rest f lt e (suc k, eq, so) = absurd (omega (arith, lt, eq))

-- ---- the columns, one by one

abbrev pub Columning : Out ℕ (List SqlColumn × FromWhere) → List SqlColumn → List ℕ → Type 0
Columning = Going d.columns_turn

pub columns_start : (bytes r : List ℕ) (a : SqlColumn) → d.column bytes ≡ ok a r → Columning (d.columns bytes) (a ∷ []) r
columns_start bytes r a e = (suc (length r), omega arith, sym (rw e (again (loop d.columns_turn r))))
  where
    again : (q : Out ℕ (List SqlColumn × FromWhere)) → after {B = List SqlColumn × FromWhere} (after {B = SqlColumn × (List SqlColumn × FromWhere)} q (λ b s. ok (a, b) s)) (λ x s. ok (d.columns_of x) s) ≡ after {B = List SqlColumn × FromWhere} q (λ x s. ok ((a ∷ []) ++ x.0, x.1) s)
    again (ok x s) = refl
    again (fail w s) = refl

pub columns_fail : (whole : Out ℕ (List SqlColumn × FromWhere)) (found : List SqlColumn) (rest : List ℕ) (f : Fault ℕ) → Fails f (d.columns_turn rest) → Columning whole found rest → Fails f whole
columns_fail whole found rest f e so = fails_with f (d.columns_turn rest) whole (λ w s h. fails_at d.columns_turn whole found rest s w h so) e

-- ---- the statement

abbrev pub spj_with : Bool → List SqlColumn × FromWhere → Spj
spj_with b y = record { distinct = b; columns = y.0; tables = y.1.0; tests = y.1.1 }

module _ (bytes r s t : List ℕ) (b : Bool) (e : code (codes "SELECT") bytes ≡ ok tt r) (f : space r ≡ ok tt s) (g : d.distinct s ≡ ok b t) where
  statement_at : d.statement bytes ≡ after {B = Spj} (d.columns t) (λ y u. ok (spj_with b y) u)
  statement_at = rw (e, f, g) (again (both d.column (loop d.columns_turn) t))
    where
      again : (q : Out ℕ (SqlColumn × (List SqlColumn × FromWhere))) → after {B = Spj} (after {B = Bool × (SqlColumn × (List SqlColumn × FromWhere))} q (λ x u. ok (b, x) u)) (λ x u. ok (spj_of x) u) ≡ after {B = Spj} (after {B = List SqlColumn × FromWhere} q (λ x u. ok (d.columns_of x) u)) (λ y u. ok (spj_with b y) u)
      again (ok x u) = refl
      again (fail w u) = refl

  pub statement_is : (y : List SqlColumn × FromWhere) (u : List ℕ) → d.columns t ≡ ok y u → d.statement bytes ≡ ok (spj_with b y) u
  statement_is y u h = statement_at ∙ ap (λ (o : Out ℕ (List SqlColumn × FromWhere)). after {B = Spj} o (λ y u. ok (spj_with b y) u)) h

  pub statement_fails : (f : Fault ℕ) → Fails f (d.columns t) → Fails f (d.statement bytes)
  statement_fails f h = err_by f (d.statement bytes) (d.columns t) (λ y u. ok (spj_with b y) u) statement_at h
