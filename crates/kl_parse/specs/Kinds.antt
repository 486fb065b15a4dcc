-- Which kind of token it is, as tests.
-- No public contract cites this.
use Rattle.std.specs.Prelude.{ℕ, ◌^◌, ◌+◌, nat_eq, ℤ, pos, negsuc, neg_ℤ, Bool, true, false, ◌||◌, List, [], ◌∷◌, Option, Some}
use Rattle.std.specs.Prelude.{None, if◌then◌else◌}
use Rattle.kl_lex.specs.declared.token.Sym.{Sym}
use Rattle.kl_lex.specs.declared.token.Sym.TheVariants as sym
use Rattle.kl_lex.specs.contracts.token.Sym as sym_type
use Rattle.kl_lex.specs.declared.token.Tok.{Tok}
use Rattle.kl_lex.specs.declared.token.Tok.TheVariants as tok
use Rattle.kl_lex.specs.declared.token.Token.{Token}
use Rattle.kl_value.specs.declared.value.Value.{Value}
use Rattle.kl_value.specs.declared.value.Value.TheVariants as value
use Rattle.kl_lex.specs.declared.keyword.Keyword.{Keyword}
use Rattle.kl_lex.specs.declared.keyword.Keyword.TheVariants as key
use Rattle.kl_lex.specs.contracts.keyword.Keyword as key_type
use Rattle.kl_parse.specs.declared.operator.Level.{Level}
use Rattle.kl_parse.specs.declared.operator.Level.TheVariants as level
use Rattle.kl_parse.specs.contracts.operator.Level as level_type
use Rattle.kl_syntax.specs.declared.tree.Op.{Op}
use Rattle.kl_syntax.specs.declared.tree.Op.TheVariants as op
use Rattle.kl_lex.specs.Keywords.{keyword_of}
use Rattle.kl_parse.specs.Lexemes.{level_of}
use denote.Enum.Bare.{sameb}
use denote.Enum.Declared.{tag_of}
use Rattle.kl_phrase.specs.Readers.{only}

abbrev pub key_kind : Keyword → ℕ
key_kind k = 3 + tag_of key_type.the_type k

abbrev pub symbol_kind : Sym → ℕ
symbol_kind s = 20 + tag_of sym_type.the_type s

abbrev pub word_kind : Option Keyword → ℕ
word_kind None = 1
word_kind (Some k) = key_kind k

abbrev pub kind_at : Tok → ℕ
kind_at (tok.Int n) = 0
kind_at (tok.Text text) = 2
kind_at tok.Big = 19
kind_at (tok.Word word) = word_kind (keyword_of word)
kind_at (tok.Sym s) = symbol_kind s

abbrev pub has : ℕ → List ℕ → Bool
has k [] = false
has k (j ∷ kinds) = nat_eq k j || has k kinds

-- a token of one of these kinds
abbrev pub among : List ℕ → Token → Bool
among kinds t = has (kind_at t.what) kinds

abbrev pub one_symbol : Sym → List ℕ
one_symbol s = symbol_kind s ∷ []

abbrev pub one_key : Keyword → List ℕ
one_key k = key_kind k ∷ []

abbrev pub is_symbol : Sym → Token → Bool
is_symbol s = among (one_symbol s)

abbrev pub is_key : Keyword → Token → Bool
is_key k = among (one_key k)

abbrev pub name_kinds : List ℕ
name_kinds = 1 ∷ []

abbrev pub label_kinds : List ℕ
label_kinds = 1 ∷ key_kind key.And ∷ key_kind key.Case ∷ key_kind key.Define ∷ key_kind key.Else ∷ key_kind key.End
    ∷ key_kind key.False ∷ key_kind key.If ∷ key_kind key.In ∷ key_kind key.Let ∷ key_kind key.Not ∷ key_kind key.Of
    ∷ key_kind key.Or ∷ key_kind key.Otherwise ∷ key_kind key.Then ∷ key_kind key.True ∷ []

abbrev pub constant_kinds : List ℕ
constant_kinds = 0 ∷ 2 ∷ key_kind key.True ∷ key_kind key.False ∷ []

abbrev pub big_kinds : List ℕ
big_kinds = 19 ∷ []

abbrev pub op_kinds : Level → List ℕ
op_kinds level.Or = key_kind key.Or ∷ []
op_kinds level.And = key_kind key.And ∷ []
op_kinds level.Compare = symbol_kind sym.Eq ∷ symbol_kind sym.Ne ∷ symbol_kind sym.Lt ∷ symbol_kind sym.Le ∷ symbol_kind sym.Gt
    ∷ symbol_kind sym.Ge ∷ []
op_kinds level.Add = symbol_kind sym.Add ∷ symbol_kind sym.Sub ∷ symbol_kind sym.Append ∷ symbol_kind sym.Cat ∷ []
op_kinds level.Mul = symbol_kind sym.Mul ∷ []

-- ---- what a token says, if it is of the kind

abbrev pub a_symbol : Sym → Token → Option (Unit {0})
a_symbol s t = only (is_symbol s t)

abbrev pub a_key : Keyword → Token → Option (Unit {0})
a_key k t = only (is_key k t)

abbrev pub a_label_at : Tok → Option (List ℕ)
a_label_at (tok.Word word) = Some word
a_label_at _ = None

abbrev pub a_label : Token → Option (List ℕ)
a_label t = a_label_at t.what

abbrev pub unless_key : Option Keyword → List ℕ → Option (List ℕ)
unless_key None word = Some word
unless_key (Some k) word = None

abbrev pub a_name_at : Tok → Option (List ℕ)
a_name_at (tok.Word word) = unless_key (keyword_of word) word
a_name_at _ = None

abbrev pub a_name : Token → Option (List ℕ)
a_name t = a_name_at t.what

abbrev pub truth_of : Option Keyword → Option Value
truth_of (Some key.True) = Some (value.Bool true)
truth_of (Some key.False) = Some (value.Bool false)
truth_of _ = None

abbrev pub a_constant_at : Tok → Option Value
a_constant_at (tok.Int n) = Some (value.Int n)
a_constant_at (tok.Text text) = Some (value.Text text)
a_constant_at (tok.Word word) = truth_of (keyword_of word)
a_constant_at _ = None

abbrev pub a_constant : Token → Option Value
a_constant t = a_constant_at t.what

abbrev pub least : Value
least = value.Int (neg_ℤ (pos (2 ^ 63)))

abbrev pub a_least_at : Tok → Option Value
a_least_at tok.Big = Some least
a_least_at _ = None

abbrev pub a_least : Token → Option Value
a_least t = a_least_at t.what

abbrev pub opposite : ℤ → Option Value
opposite (pos n) = Some (value.Int (neg_ℤ (pos n)))
opposite (negsuc n) = None

abbrev pub a_negative_at : Tok → Option Value
a_negative_at (tok.Int n) = opposite n
a_negative_at tok.Big = Some least
a_negative_at _ = None

abbrev pub a_negative : Token → Option Value
a_negative t = a_negative_at t.what

abbrev pub symbol_op : Sym → Option Op
symbol_op sym.Eq = Some op.Eq
symbol_op sym.Ne = Some op.Ne
symbol_op sym.Lt = Some op.Lt
symbol_op sym.Le = Some op.Le
symbol_op sym.Gt = Some op.Gt
symbol_op sym.Ge = Some op.Ge
symbol_op sym.Add = Some op.Add
symbol_op sym.Sub = Some op.Sub
symbol_op sym.Append = Some op.Append
symbol_op sym.Cat = Some op.Cat
symbol_op sym.Mul = Some op.Mul
symbol_op _ = None

abbrev pub key_op : Option Keyword → Option Op
key_op (Some key.Or) = Some op.Or
key_op (Some key.And) = Some op.And
key_op _ = None

abbrev pub op_at : Tok → Option Op
op_at (tok.Sym s) = symbol_op s
op_at (tok.Word word) = key_op (keyword_of word)
op_at _ = None

abbrev pub of_level : Level → Option Op → Option Op
of_level l None = None
of_level l (Some o) = if sameb level_type.the_type (level_of o) l then Some o else None

abbrev pub an_op : Level → Token → Option Op
an_op l t = of_level l (op_at t.what)
