-- How tokens are spelled.
use Rattle.std.specs.Prelude.{◌≡◌, ◌≢◌, ℕ, pos, ◌+◌, ◌≤◌, IsTrue, List, [], ◌∷◌, ◌++◌, codes}
use Rattle.std.specs.List.{list_all}
use Rattle.std.specs.Char.{is_ascii_digit}
use Rattle.std.specs.Str.Parse.{digits_value}
use Rattle.kl_base.specs.Word.{is_word}
use Rattle.kl_value.specs.Quoted.{quote, Parts}
use Rattle.kl_lex.specs.declared.token.Sym.{Sym as Symbol}
use Rattle.kl_lex.specs.declared.token.Sym.TheVariants.{OpenList, CloseList, OpenBag, CloseBag, OpenSet, CloseSet}
use Rattle.kl_lex.specs.declared.token.Sym.TheVariants.{OpenRec, CloseRec, OpenPar, ClosePar, Le, Ge, Ne, Draw, Lt, Gt}
use Rattle.kl_lex.specs.declared.token.Sym.TheVariants.{Equals, Arrow, Eq, Bar, Comma, Semi, Dots, Dot, Colon, Append}
use Rattle.kl_lex.specs.declared.token.Sym.TheVariants.{Add, Sub, Mul, Cat, Bind, Any}
use Rattle.kl_lex.specs.declared.token.Tok.{Tok}
use Rattle.kl_lex.specs.declared.token.Tok.TheVariants.{Word, Int, Big, Text, Sym}

-- ---- symbols

abbrev pub spelling : Symbol → List ℕ
spelling OpenList = codes "[|"
spelling CloseList = codes "|]"
spelling OpenBag = codes "{|"
spelling CloseBag = codes "|}"
spelling OpenSet = codes "{"
spelling CloseSet = codes "}"
spelling OpenRec = codes "["
spelling CloseRec = codes "]"
spelling OpenPar = codes "("
spelling ClosePar = codes ")"
spelling Le = codes "<="
spelling Ge = codes ">="
spelling Ne = codes "<>"
spelling Draw = codes "<-"
spelling Lt = codes "<"
spelling Gt = codes ">"
spelling Equals = codes "=="
spelling Arrow = codes "=>"
spelling Eq = codes "="
spelling Bar = codes "|"
spelling Comma = codes ","
spelling Semi = codes ";"
spelling Dots = codes "..."
spelling Dot = codes "."
spelling Colon = codes ":"
spelling Append = codes "++"
spelling Add = codes "+"
spelling Sub = codes "-"
spelling Mul = codes "*"
spelling Cat = codes "^"
spelling Bind = codes "\\"
spelling Any = codes "_"

-- ---- numbers

-- digits, one at least
abbrev pub IsNumber : List ℕ → Type 0
IsNumber u = (u ≢ []) × IsTrue (list_all is_ascii_digit u)

-- the greatest value of an integer token
abbrev pub int_max : ℕ
int_max = 9223372036854775807

-- ---- texts

-- the bytes are a whole text, between its quotes, that means these
abbrev pub SpellsText : List ℕ → List ℕ → Type 0
SpellsText meant u = (inside : List ℕ) × (u ≡ quote ∷ (inside ++ quote ∷ [])) × Parts meant inside

-- ---- tokens

-- what is read as one: a word, a number of any size, a text or a symbol
pub data Lexeme (u : List ℕ) : Type 0 where
  word : IsTrue (is_word u) → Lexeme u
  number : IsNumber u → Lexeme u
  text : (meant : List ℕ) → SpellsText meant u → Lexeme u
  symbol : (s : Symbol) → u ≡ spelling s → Lexeme u

-- the bytes spell this token; a number past the greatest by more than one spells none
abbrev pub Spelled : Tok → List ℕ → Type 0
Spelled (Word w) u = IsTrue (is_word u) × (w ≡ u)
Spelled (Int n) u = IsNumber u × (digits_value 10 u ≤ int_max) × (n ≡ pos (digits_value 10 u))
Spelled Big u = IsNumber u × (digits_value 10 u ≡ int_max + 1)
Spelled (Text meant) u = SpellsText meant u
Spelled (Sym s) u = u ≡ spelling s
