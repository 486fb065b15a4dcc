-- The phrases of one token.
use Rattle.std.specs.Prelude.{◌≡◌, ℕ, ◌^◌, pos, neg_ℤ, true, false, List, ◌⊎◌}
use Rattle.kl_lex.specs.declared.token.Sym.{Sym}
use Rattle.kl_lex.specs.declared.token.Sym.TheVariants as sym
use Rattle.kl_lex.specs.declared.token.Tok.{Tok}
use Rattle.kl_lex.specs.declared.token.Tok.TheVariants as tok
use Rattle.kl_lex.specs.declared.token.Token.{Token}
use Rattle.kl_value.specs.declared.value.Value.{Value}
use Rattle.kl_value.specs.declared.value.Value.TheVariants as value
use Rattle.kl_lex.specs.declared.keyword.Keyword.{Keyword}
use Rattle.kl_lex.specs.declared.keyword.Keyword.TheVariants as key
use Rattle.kl_parse.specs.declared.operator.Level.{Level}
use Rattle.kl_parse.specs.declared.operator.Level.TheVariants as level
use Rattle.kl_syntax.specs.declared.tree.Op.{Op}
use Rattle.kl_syntax.specs.declared.tree.Op.TheVariants as op
use Rattle.kl_syntax.specs.declared.tree.Word.{Word}
use Rattle.kl_syntax.specs.declared.tree.Meaning.TheVariants.{Open}
use Rattle.kl_lex.specs.Keywords.{spelling}
use Rattle.kl_phrase.specs.Words.{Phrase, One, Numbered, Made}

-- this symbol
abbrev pub IsSymbol : Sym → Token → Unit {0} → Type 0
IsSymbol s t x = t.what ≡ tok.Sym s

abbrev pub Symbol : Sym → Phrase Token (Unit {0})
Symbol s = One (IsSymbol s)

-- this keyword
abbrev pub IsKey : Keyword → Token → Unit {0} → Type 0
IsKey k t x = t.what ≡ tok.Word (spelling k)

abbrev pub Key : Keyword → Phrase Token (Unit {0})
Key k = One (IsKey k)

-- LABEL, any word
abbrev pub IsLabel : Token → List ℕ → Type 0
IsLabel t word = t.what ≡ tok.Word word

-- NAME, a word that is no keyword
abbrev pub IsName : Token → List ℕ → Type 0
IsName t word = (t.what ≡ tok.Word word) × ((k : Keyword) → word ≡ spelling k → ⊥)

-- with the number of its token; what it means is not told yet
abbrev pub word_of : ℕ × List ℕ → Word
word_of x = record { text = x.1; token = x.0; means = Open }

abbrev pub Label : Phrase Token Word
Label = Made word_of (Numbered (One IsLabel))

abbrev pub Name : Phrase Token Word
Name = Made word_of (Numbered (One IsName))

-- INT | TEXT | "true" | "false"
abbrev pub IsConstant : Token → Value → Type 0
IsConstant t (value.Int n) = t.what ≡ tok.Int n
IsConstant t (value.Text text) = t.what ≡ tok.Text text
IsConstant t (value.Bool true) = t.what ≡ tok.Word (spelling key.True)
IsConstant t (value.Bool false) = t.what ≡ tok.Word (spelling key.False)
IsConstant t _ = ⊥

abbrev pub Constant : Phrase Token Value
Constant = One IsConstant

-- BIG, behind a minus: the least integer
abbrev pub IsLeast : Token → Value → Type 0
IsLeast t v = (t.what ≡ tok.Big) × (v ≡ value.Int (neg_ℤ (pos (2 ^ 63))))

-- INT or BIG, behind the minus of a pattern
abbrev pub IsNegative : Token → Value → Type 0
IsNegative t v = ((n : ℕ) × (t.what ≡ tok.Int (pos n)) × (v ≡ value.Int (neg_ℤ (pos n)))) ⊎ IsLeast t v

-- how an operator is written
abbrev pub written : Op → Tok
written op.Or = tok.Word (spelling key.Or)
written op.And = tok.Word (spelling key.And)
written op.Eq = tok.Sym sym.Eq
written op.Ne = tok.Sym sym.Ne
written op.Lt = tok.Sym sym.Lt
written op.Le = tok.Sym sym.Le
written op.Gt = tok.Sym sym.Gt
written op.Ge = tok.Sym sym.Ge
written op.Add = tok.Sym sym.Add
written op.Sub = tok.Sym sym.Sub
written op.Append = tok.Sym sym.Append
written op.Cat = tok.Sym sym.Cat
written op.Mul = tok.Sym sym.Mul

-- the operators of one level are read from the left; those that compare stand alone
abbrev pub level_of : Op → Level
level_of op.Or = level.Or
level_of op.And = level.And
level_of op.Eq = level.Compare
level_of op.Ne = level.Compare
level_of op.Lt = level.Compare
level_of op.Le = level.Compare
level_of op.Gt = level.Compare
level_of op.Ge = level.Compare
level_of op.Add = level.Add
level_of op.Sub = level.Add
level_of op.Append = level.Add
level_of op.Cat = level.Add
level_of op.Mul = level.Mul

-- an operator of this level
abbrev pub IsOp : Level → Token → Op → Type 0
IsOp l t o = (t.what ≡ written o) × (level_of o ≡ l)

abbrev pub AnOp : Level → Phrase Token Op
AnOp l = One (IsOp l)
