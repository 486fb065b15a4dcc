-- The grammar of catalogues: which tokens spell which catalogue, its types nested at most so deep.
use Rattle.std.specs.Prelude.{◌≡◌, ℕ, false, List, codes}
use Rattle.kl_lex.specs.declared.token.Sym.TheVariants as sym
use Rattle.kl_lex.specs.declared.token.Tok.TheVariants as tok
use Rattle.kl_lex.specs.declared.token.Placed.{Placed}
use Rattle.kl_phrase.specs.Words.{Phrase, One, Then, Behind, Before, Many, Made}
use Rattle.kl_type.specs.declared.ground.Ty.{Ty}
use Rattle.kl_type.specs.Grammar.{Symbol, Reads}
use Rattle.kl_catalogue.specs.declared.reading.Entry.{Entry}
use Rattle.kl_lex.specs.Keywords.{is_keyword}

-- ---- one token

-- "source"
abbrev pub IsSource : Placed → Unit {0} → Type 0
IsSource t x = t.what ≡ tok.Word (codes "source")

-- NAME: a word that is no keyword
abbrev pub IsName : Placed → List ℕ → Type 0
IsName t name = (t.what ≡ tok.Word name) × (is_keyword name ≡ false)

-- TEXT
abbrev pub IsTextToken : Placed → List ℕ → Type 0
IsTextToken t text = t.what ≡ tok.Text text

-- ---- entries

-- name, type, driver and locator
abbrev pub Parts : Type 0
Parts = List ℕ × (Ty × (List ℕ × List ℕ))

abbrev pub entry_of : Parts → Entry
entry_of x = record { name = x.0; ty = x.1.0; driver = x.1.1.0; locator = x.1.1.1 }

module _ (E : Phrase Placed Ty) where
  -- NAME ":" type "=" NAME TEXT
  abbrev pub Described : Phrase Placed Parts
  Described = Then (One IsName) (Then (Behind (Symbol sym.Colon) E) (Then (Behind (Symbol sym.Eq) (One IsName)) (One IsTextToken)))

  -- entry := "source" NAME ":" type "=" NAME TEXT ";"
  abbrev pub AnEntry : Phrase Placed Entry
  AnEntry = Made entry_of (Behind (One IsSource) (Before Described (Symbol sym.Semi)))

-- catalogue := { entry }
abbrev pub ReadsCatalogue : ℕ → Phrase Placed (List Entry)
ReadsCatalogue depth = Many (AnEntry (Reads depth))
