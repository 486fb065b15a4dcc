-- The words that are no names.
use Rattle.std.specs.Prelude.{ℕ, nat_eq, Bool, List, [], ◌∷◌, codes, find, Option, is_some}
use Rattle.std.specs.Cmp.Lexicographic.{pointwise}
use Rattle.kl_lex.specs.declared.keyword.Keyword.{Keyword}
use Rattle.kl_lex.specs.declared.keyword.Keyword.TheVariants as key

-- how a keyword is written
abbrev pub spelling : Keyword → List ℕ
spelling key.And = codes "and"
spelling key.Case = codes "case"
spelling key.Define = codes "define"
spelling key.Else = codes "else"
spelling key.End = codes "end"
spelling key.False = codes "false"
spelling key.If = codes "if"
spelling key.In = codes "in"
spelling key.Let = codes "let"
spelling key.Not = codes "not"
spelling key.Of = codes "of"
spelling key.Or = codes "or"
spelling key.Otherwise = codes "otherwise"
spelling key.Then = codes "then"
spelling key.True = codes "true"

abbrev pub all_keywords : List Keyword
all_keywords = key.And ∷ key.Case ∷ key.Define ∷ key.Else ∷ key.End ∷ key.False ∷ key.If ∷ key.In ∷ key.Let ∷ key.Not ∷ key.Of
    ∷ key.Or ∷ key.Otherwise ∷ key.Then ∷ key.True ∷ []

-- the keyword that is written so
abbrev pub keyword_of : List ℕ → Option Keyword
keyword_of word = find (λ k. pointwise nat_eq word (spelling k)) all_keywords

-- a keyword, which names nothing
abbrev pub is_keyword : List ℕ → Bool
is_keyword word = is_some (keyword_of word)
