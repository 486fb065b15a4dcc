-- The statement that a text is, and the rows of its tables.
use Rattle.std.proofs.Common.{◌≡◌, ℕ, Bool, true, false, List, [], ◌∷◌, Option, Some, None, IsSome, is_some, cond, refl, ap, arith}
use Rattle.std.specs.List.{AllByRecursion}
use Rattle.std.proofs.lemmas.Bool.{and_parts}
use Rattle.std.proofs.lemmas.Option.{same_Some}
use Rattle.kl_value.specs.declared.Value.{Value}
use Rattle.kl_outcome.specs.Outcome.{Name}
use Rattle.kl_ask.specs.Driver.{Source, row_type}
use Rattle.kl_phrase.specs.Readers.{Out, ok, fail, bad, deep}
use Rattle.kl_sqltext.specs.Meaning.{spj}
use Rattle.kl_sqltext.specs.Reading.{SqlReads}
use Rattle.kl_sqltext.specs.Statements.{statement}
use Rattle.kl_sqltext.specs.declared.ast.Spj.{Spj}
use Rattle.kl_sqltext.proofs.Answer.{same, rest_none, bad_none, no_deep}
use Rattle.kl_scans.specs.Held.{Held}
use Rattle.kl_scans.specs.Scans.{AreRows}
use Rattle.kl_scans.specs.Stage.{whole_statement, statement_of, rows_there, or_none, table_rows, table_types, are_told, joined_by}

pub reads_statement : (text : List ℕ) (q : Spj) → SqlReads text q → statement_of text ≡ Some q
unfolding statement_of
reads_statement text q h = by (statement text) refl
  where
    by : (o : Out ℕ Spj) → statement text ≡ o → whole_statement o ≡ Some q
    by (ok s []) e = ap Some (same text [] s q e refl h)
    by (ok s (t ∷ r)) e = absurd (rest_none text (t ∷ r) s q e (omega arith) h)
    by (fail bad r) e = absurd (bad_none text r q e h)
    by (fail deep r) e = absurd (no_deep text r e)

module _ (h : Held) where
  row_told : (o : Option Source) → IsSome (row_type o) → is_some (rows_there o) ≡ true → (a : Source) × (o ≡ Some a) × (a.rows ≡ Some (or_none (rows_there o)))
  row_told (Some a) there told = (a, refl, of_rows a.rows told)
    where
      of_rows : (r : Option (List Value)) → is_some r ≡ true → r ≡ Some (or_none r)
      of_rows (Some rows) t = refl
      of_rows None t = absurd cc
  row_told None there told = absurd cc

  -- the rows of tables that are attached and told
  pub rows_told : (ls : List Name) → AllByRecursion (λ l. IsSome (table_types h.attached l)) ls → are_told h.attached ls ≡ true → AreRows h (table_rows h.attached) ls
  rows_told [] there told = tt
  rows_told (l ∷ ls) there told =
      let parts = and_parts (is_some (rows_there (h.attached l))) (are_told h.attached ls) told in
      (row_told (h.attached l) there.0 parts.0, rows_told ls there.1 parts.1)

-- what a statement over told tables means
pub joined_is : (attached : Name → Option Source) (q : Spj) (rows : List Value) → joined_by attached (Some q) ≡ Some rows → (are_told attached q.tables ≡ true) × (spj (table_rows attached) q ≡ rows)
joined_is attached q rows e = by (are_told attached q.tables) refl e
  where
    by : (b : Bool) → are_told attached q.tables ≡ b → cond b (Some (spj (table_rows attached) q)) None ≡ Some rows → (are_told attached q.tables ≡ true) × (spj (table_rows attached) q ≡ rows)
    by true is f = (is, same_Some _ _ f)
    by false is f = absurd cc
