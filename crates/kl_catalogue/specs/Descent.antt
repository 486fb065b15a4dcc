-- The descent: for each word of the grammar a reader.
-- No public contract cites this.
use Rattle.std.specs.Prelude.{ℕ, nat_eq, Bool, true, false, List, Option, Some, None, codes}
use Rattle.std.specs.Cmp.Lexicographic.{pointwise}
use Rattle.kl_lex.specs.declared.token.Sym.TheVariants as sym
use Rattle.kl_lex.specs.declared.token.Tok.{Tok}
use Rattle.kl_lex.specs.declared.token.Tok.TheVariants as tok
use Rattle.kl_lex.specs.declared.token.Placed.{Placed}
use Rattle.kl_phrase.specs.Readers.{Reader, one, both, behind, before, made, many, only}
use Rattle.kl_type.specs.declared.ground.Ty.{Ty}
use Rattle.kl_type.specs.Descent.{mark, reads, of_word}
use Rattle.kl_catalogue.specs.declared.reading.Entry.{Entry}
use Rattle.kl_lex.specs.Keywords.{is_keyword}
use Rattle.kl_catalogue.specs.Grammar.{Parts, entry_of}

-- ---- one token

abbrev pub is_source_at : Tok → Bool
is_source_at (tok.Word word) = pointwise nat_eq word (codes "source")
is_source_at _ = false

abbrev pub is_source : Placed → Bool
is_source t = is_source_at t.what

abbrev pub a_source : Placed → Option (Unit {0})
a_source t = only (is_source t)

abbrev pub unless_keyword : Bool → List ℕ → Option (List ℕ)
unless_keyword true word = None
unless_keyword false word = Some word

abbrev pub a_name_at : Tok → Option (List ℕ)
a_name_at = of_word (λ word. unless_keyword (is_keyword word) word)

abbrev pub a_name : Placed → Option (List ℕ)
a_name t = a_name_at t.what

abbrev pub a_text_at : Tok → Option (List ℕ)
a_text_at (tok.Text text) = Some text
a_text_at _ = None

abbrev pub a_text : Placed → Option (List ℕ)
a_text t = a_text_at t.what

-- ---- entries, where e reads their types

module _ (e : Reader Placed Ty) where
  abbrev pub described : Reader Placed Parts
  described = both (one a_name) (both (behind (mark sym.Colon) e) (both (behind (mark sym.Eq) (one a_name)) (one a_text)))

  -- what stands behind "source"
  abbrev pub entry_rest : Reader Placed Entry
  entry_rest = made entry_of (before described (mark sym.Semi))

  abbrev pub entry : Reader Placed Entry
  entry = made entry_of (behind (one a_source) (before described (mark sym.Semi)))

  abbrev pub entries : Reader Placed (List Entry)
  entries = many is_source entry

abbrev pub catalogue : ℕ → Reader Placed (List Entry)
catalogue depth = entries (reads depth)
