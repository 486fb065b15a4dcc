-- The grammar of the language: which tokens spell which tree, nested at most so deep.
use Rattle.std.specs.Prelude.{◌≡◌, ℕ, zero, suc, Bool, true, false, ◌&&◌, ◌||◌, not, List, [], ◌∷◌, drop, Option, Some, None}
use Rattle.kl_lex.specs.declared.token.Sym.TheVariants as sym
use Rattle.kl_lex.specs.declared.token.Tok.{Tok}
use Rattle.kl_lex.specs.declared.token.Tok.TheVariants as tok
use Rattle.kl_lex.specs.declared.token.Token.{Token}
use Rattle.kl_value.specs.declared.value.Kind.{Kind}
use Rattle.kl_value.specs.declared.value.Kind.TheVariants as kind
use Rattle.kl_value.specs.declared.value.Value.{Value}
use Rattle.kl_lex.specs.declared.keyword.Keyword.TheVariants as key
use Rattle.kl_parse.specs.declared.operator.Level.{Level}
use Rattle.kl_parse.specs.declared.operator.Level.TheVariants as level
use Rattle.kl_syntax.specs.declared.tree.Word.{Word}
use Rattle.kl_syntax.specs.declared.tree.Op.{Op}
use Rattle.kl_syntax.specs.declared.tree.Tail.{Tail}
use Rattle.kl_syntax.specs.declared.tree.Tail.TheVariants as tail
use Rattle.kl_syntax.specs.declared.tree.Pattern.{Pattern}
use Rattle.kl_syntax.specs.declared.tree.Pattern.TheVariants as pattern
use Rattle.kl_syntax.specs.declared.tree.Expr.{Expr}
use Rattle.kl_syntax.specs.declared.tree.Expr.TheVariants as expr
use Rattle.kl_syntax.specs.declared.tree.Qual.{Qual}
use Rattle.kl_syntax.specs.declared.tree.Qual.TheVariants as qual
use Rattle.kl_syntax.specs.declared.tree.Branch.{Branch}
use Rattle.kl_syntax.specs.declared.tree.Decl.{Decl}
use Rattle.kl_syntax.specs.declared.tree.Program.{Program}
use Rattle.kl_parse.specs.Lexemes.{Symbol, Key, Label, Name, Constant, IsNegative, IsLeast, AnOp, word_of}
use Rattle.kl_lex.specs.Brackets.{opener, closer}
use Rattle.kl_phrase.specs.Depth.{opens}
use Rattle.kl_phrase.specs.Fronts.{Missing}
use Rattle.kl_phrase.specs.Words.{heads, Phrase, One, Nothing, Numbered, Then, Behind, Before, Many, Made, Or, Optional, Opened}
use Rattle.kl_phrase.specs.Words.{Never, Parted, Tailed}

-- ---- what is made of the parts

abbrev pub is_of : ℕ × Value → Pattern
is_of x = pattern.Is x.1 x.0

abbrev pub variant_of : Word × Pattern → Pattern
variant_of x = pattern.Inj x.0 x.1

abbrev pub tail_of : Option Tail → Tail
tail_of (Some t) = t
tail_of None = tail.Exact

abbrev pub shape_of : (Word × Pattern) × (List (Word × Pattern) × Option Tail) → Pattern
shape_of x = pattern.Rec (x.0 ∷ x.1.0) (tail_of x.1.1)

abbrev pub name_of : Word × Option (List Expr) → Expr
name_of (w, None) = expr.Name w
name_of (w, Some args) = expr.Call w args

abbrev pub rec_of : List (Word × Expr) × Option Expr → Expr
rec_of (fs, None) = expr.Rec fs
rec_of (fs, Some a) = expr.More fs a

abbrev pub record_of : (Word × Expr) × (List (Word × Expr) × Option Expr) → Expr
record_of x = rec_of (x.0 ∷ x.1.0, x.1.1)

abbrev pub inject_of : Word × Expr → Expr
inject_of x = expr.Inj x.0 x.1

abbrev pub gen_of : Pattern × Expr → Qual
gen_of x = qual.Gen x.0 x.1

abbrev pub comp_of : Kind → Expr × List Qual → Expr
comp_of k x = expr.Comp k x.0 x.1

abbrev pub case_of : Expr × (List Branch × Option Expr) → Expr
case_of x = expr.Case x.0 x.1.0 x.1.1

abbrev pub path_of : Expr × List Word → Expr
path_of (e, []) = e
path_of (e, label ∷ more) = expr.Path e (label ∷ more)

abbrev pub chain_of : Expr × List (Op × Expr) → Expr
chain_of (e, []) = e
chain_of (e, step ∷ more) = expr.Chain e (step ∷ more)

abbrev pub compare_of : Expr × Option (Op × Expr) → Expr
compare_of (e, None) = e
compare_of (e, Some step) = expr.Chain e (step ∷ [])

abbrev pub let_of : Pattern × (Expr × Expr) → Expr
let_of x = expr.Let x.0 x.1.0 x.1.1

abbrev pub if_of : Expr × (Expr × Expr) → Expr
if_of x = expr.If x.0 x.1.0 x.1.1

abbrev pub branch_of : (Word × Pattern) × Expr → Branch
branch_of x = record { label = x.0.0; pat = x.0.1; body = x.1 }

abbrev pub function_of : Pattern × Expr → Option Pattern × Expr
function_of x = (Some x.0, x.1)

abbrev pub constant_of : Expr → Option Pattern × Expr
constant_of e = (None, e)

abbrev pub decl_of : Word × (Option Pattern × Expr) → Decl
decl_of x = record { name = x.0; param = x.1.0; body = x.1.1 }

abbrev pub program_of : List Decl × Expr → Program
program_of x = record { defs = x.0; last = x.1 }

-- ---- patterns

-- "\" NAME
abbrev pub BindPat : Phrase Token Pattern
BindPat = Made pattern.Bind (Behind (Symbol sym.Bind) Name)

-- "_"
abbrev pub AnyPat : Phrase Token Pattern
AnyPat = Made (λ _. pattern.Any) (Symbol sym.Any)

-- "-" INT | "-" BIG
abbrev pub NegativePat : Phrase Token Pattern
NegativePat = Made is_of (Numbered (Behind (Symbol sym.Sub) (One IsNegative)))

-- INT | TEXT | "true" | "false"
abbrev pub ConstantPat : Phrase Token Pattern
ConstantPat = Made is_of (Numbered Constant)

-- NAME
abbrev pub SamePat : Phrase Token Pattern
SamePat = Made pattern.Same Name

abbrev pub Simple : Phrase Token Pattern
Simple = Or BindPat (Or AnyPat (Or NegativePat (Or ConstantPat SamePat)))

-- others := "..." [ "\" NAME ]
abbrev pub Others : Phrase Token Tail
Others = Behind (Symbol sym.Dots) (Optional tail.Open (Made tail.Rest (Behind (Symbol sym.Bind) Name)))

-- P: the patterns that stand inside brackets
module _ (P : Phrase Token Pattern) where
  -- LABEL "=" pat
  abbrev pub PatField : Phrase Token (Word × Pattern)
  PatField = Then Label (Behind (Symbol sym.Eq) P)

  -- field { "," field } [ "," others ]
  abbrev pub ShapeFields : Phrase Token Pattern
  ShapeFields = Made shape_of (Then PatField (Tailed (Symbol sym.Comma) PatField Others))

  -- others
  abbrev pub ShapeDots : Phrase Token Pattern
  ShapeDots = Made (pattern.Rec []) Others

  -- "[" [ field { "," field } [ "," others ] | others ] "]"
  abbrev pub PatRec : Phrase Token Pattern
  PatRec = Behind (Symbol sym.OpenRec) (Before (Or ShapeFields (Or ShapeDots (Nothing (pattern.Rec [] tail.Exact)))) (Symbol sym.CloseRec))

  -- "<" LABEL "=" pat ">"
  abbrev pub PatVariant : Phrase Token (Word × Pattern)
  PatVariant = Behind (Symbol sym.Lt) (Before PatField (Symbol sym.Gt))

  -- pat := variant | record | simple, where nesting may go on
  abbrev pub Pat : Bool → Phrase Token Pattern
  Pat may = Or (Opened may (Made variant_of PatVariant)) (Or (Opened may PatRec) Simple)

abbrev pub ReadsPat : ℕ → Phrase Token Pattern
ReadsPat zero = Pat Never false
ReadsPat (suc depth) = Pat (ReadsPat depth) true

-- ---- expressions

-- S { op S }, with the operators of one level
abbrev pub Chained : Level → Phrase Token Expr → Phrase Token Expr
Chained l S = Made chain_of (Then S (Many (Then (AnOp l) S)))

-- what stands inside: expressions E
module _ (E : Phrase Token Expr) where
  -- expr { "," expr }
  abbrev pub Exprs : Phrase Token (List Expr)
  Exprs = Parted (Symbol sym.Comma) E

  -- "(" exprs ")"
  abbrev pub Args : Phrase Token (List Expr)
  Args = Behind (Symbol sym.OpenPar) (Before Exprs (Symbol sym.ClosePar))

  -- "(" expr ")"
  abbrev pub Group : Phrase Token Expr
  Group = Behind (Symbol sym.OpenPar) (Before E (Symbol sym.ClosePar))

  -- LABEL "=" expr
  abbrev pub Field : Phrase Token (Word × Expr)
  Field = Then Label (Behind (Symbol sym.Eq) E)

  -- "<" LABEL "=" add ">", where E is add
  abbrev pub Inject : Phrase Token Expr
  Inject = Made inject_of (Behind (Symbol sym.Lt) (Before Field (Symbol sym.Gt)))

  -- [ "otherwise" expr ]
  abbrev pub Otherwise : Phrase Token (Option Expr)
  Otherwise = Optional None (Made Some (Behind (Key key.Otherwise) E))

  -- "if" expr "then" expr "else" expr
  abbrev pub If : Phrase Token Expr
  If = Made if_of (Behind (Key key.If) (Then (Before E (Key key.Then)) (Then (Before E (Key key.Else)) E)))

-- a post, which is a signed expression U whose first token is no minus
abbrev pub Unsigned : Phrase Token Expr → Phrase Token Expr
Unsigned U n e ts = U n e ts × ((t : Token) (more : List Token) → ts ≡ t ∷ more → t.what ≡ tok.Sym sym.Sub → ⊥)

-- and signed expressions U
module _ (E U : Phrase Token Expr) where
  -- field { "," field } [ "," "..." post ]
  abbrev pub Fields : Phrase Token Expr
  Fields = Made record_of (Then (Field E) (Tailed (Symbol sym.Comma) (Field E) (Behind (Symbol sym.Dots) (Unsigned U))))

  -- "[" [ field { "," field } [ "," "..." post ] ] "]"
  abbrev pub Rec : Phrase Token Expr
  Rec = Behind (Symbol sym.OpenRec) (Before (Optional (expr.Rec []) Fields) (Symbol sym.CloseRec))

-- patterns P too
module _ (P : Phrase Token Pattern) (E : Phrase Token Expr) where
  -- qual := pat "<-" expr | expr
  abbrev pub AQual : Phrase Token Qual
  AQual = Or (Made gen_of (Then (Before P (Symbol sym.Draw)) E)) (Made qual.Cond E)

  -- inside := [ exprs ] | expr "|" qual { "," qual }
  abbrev pub Inside : Kind → Phrase Token Expr
  Inside k = Or (Made (expr.Coll k) (Optional [] (Exprs E)))
      (Made (comp_of k) (Then E (Behind (Symbol sym.Bar) (Parted (Symbol sym.Comma) AQual))))

  -- coll := "{" inside "}" | "{|" inside "|}" | "[|" inside "|]"
  abbrev pub Coll : Kind → Phrase Token Expr
  Coll k = Behind (Symbol (opener k)) (Before (Inside k) (Symbol (closer k)))

  -- "let" pat "==" expr "in" expr
  abbrev pub Let : Phrase Token Expr
  Let = Made let_of (Behind (Key key.Let) (Then (Before P (Symbol sym.Equals)) (Then (Before E (Key key.In)) E)))

-- "case" expr "of" branch { "," branch } otherwise "end", where B are the branches
abbrev pub Case : Phrase Token Expr → Phrase Token Branch → Phrase Token Expr
Case E B = Made case_of (Behind (Key key.Case) (Then (Before E (Key key.Of))
    (Then (Parted (Symbol sym.Comma) B) (Before (Otherwise E) (Key key.End)))))

-- NAME [ args ]
abbrev pub Named : Bool → Phrase Token Expr → Phrase Token Expr
Named may E = Made name_of (Then Name (Optional None (Opened may (Made Some (Args E)))))

-- "-" BIG
abbrev pub Least : Phrase Token Expr
Least = Made expr.Const (Behind (Symbol sym.Sub) (One IsLeast))

-- may: whether nesting may go on. What stands inside: patterns P, expressions E, those behind `not` N, those behind a
-- minus U, those in a variant A, and branches B
module _ (may : Bool) (P : Phrase Token Pattern) (E N U A : Phrase Token Expr) (B : Phrase Token Branch) where
  -- prim := constant | "(" expr ")" | record | variant | coll | case | NAME [ args ]
  abbrev pub Prim : Phrase Token Expr
  Prim = Or (Made expr.Const Constant) (Or (Opened may (Group E))
      (Or (Opened may (Rec E U)) (Or (Opened may (Inject A))
      (Or (Opened may (Coll P E kind.Set)) (Or (Opened may (Coll P E kind.Bag))
      (Or (Opened may (Coll P E kind.List)) (Or (Opened may (Case E B)) (Named may E))))))))

  -- post := prim { "." LABEL }
  abbrev pub Post : Phrase Token Expr
  Post = Made path_of (Then Prim (Many (Behind (Symbol sym.Dot) Label)))

  -- un := "-" BIG | "-" un | post
  abbrev pub Un : Phrase Token Expr
  Un = Or Least (Or (Opened may (Made expr.Neg (Behind (Symbol sym.Sub) U))) Post)

  -- mul := un { "*" un }
  abbrev pub Mul : Phrase Token Expr
  Mul = Chained level.Mul Un

  -- add := mul { ("+"|"-"|"++"|"^") mul }
  abbrev pub Add : Phrase Token Expr
  Add = Chained level.Add Mul

  -- cmp := add [ ("="|"<>"|"<"|"<="|">"|">=") add ]
  abbrev pub Compare : Phrase Token Expr
  Compare = Made compare_of (Then Add (Optional None (Made Some (Then (AnOp level.Compare) Add))))

  -- not := "not" not | cmp
  abbrev pub Not : Phrase Token Expr
  Not = Or (Opened may (Made expr.Not (Behind (Key key.Not) N))) Compare

  -- and := not { "and" not }
  abbrev pub And : Phrase Token Expr
  And = Chained level.And Not

  -- or := and { "or" and }
  abbrev pub Ors : Phrase Token Expr
  Ors = Chained level.Or And

  -- expr := let | if | or
  abbrev pub Whole : Phrase Token Expr
  Whole = Or (Opened may (Let P E)) (Or (Opened may (If E)) Ors)

-- branch := "<" LABEL "=" pat ">" "=>" expr
abbrev pub ABranch : Bool → Phrase Token Pattern → Phrase Token Expr → Phrase Token Branch
ABranch may P E = Opened may (Made branch_of (Then (PatVariant P) (Behind (Symbol sym.Arrow) E)))

-- where an expression stands: anywhere, behind `not`, behind a minus, in a variant
pub data Sort : Type 0 where
  whole : Sort
  negated : Sort
  signed : Sort
  added : Sort

abbrev pub of_sort : Sort → Bool → Phrase Token Pattern → (E N U A : Phrase Token Expr) → Phrase Token Branch → Phrase Token Expr
of_sort whole may P E N U A B = Whole may P E N U A B
of_sort negated may P E N U A B = Not may P E N U A B
of_sort signed may P E N U A B = Un may P E N U A B
of_sort added may P E N U A B = Add may P E N U A B

-- the patterns inside the brackets of one nested at most so deep
abbrev pub PatInside : ℕ → Phrase Token Pattern
PatInside zero = Never
PatInside (suc depth) = ReadsPat depth

-- the tokens are this expression, nested at most so deep
abbrev pub Reads : ℕ → Sort → Phrase Token Expr
Reads zero s = of_sort s false Never Never Never Never Never Never
Reads (suc depth) s = of_sort s true (ReadsPat depth) (Reads depth whole) (Reads depth negated) (Reads depth signed)
    (Reads depth added) (ABranch (opens depth) (PatInside depth) (Reads depth whole))

-- ---- programs

module _ (P : Phrase Token Pattern) (E : Phrase Token Expr) where
  -- body := pat "=>" expr | expr
  abbrev pub Body : Phrase Token (Option Pattern × Expr)
  Body = Or (Made function_of (Then (Before P (Symbol sym.Arrow)) E)) (Made constant_of E)

  -- "define" NAME "==" body ";"
  abbrev pub ADecl : Phrase Token Decl
  ADecl = Made decl_of (Behind (Key key.Define) (Then Name (Behind (Symbol sym.Equals) (Before Body (Symbol sym.Semi)))))

  -- program := { define } expr ";"
  abbrev pub AProgram : Phrase Token Program
  AProgram = Made program_of (Then (Many ADecl) (Before E (Symbol sym.Semi)))

-- the tokens are this program, nested at most so deep
abbrev pub ReadsProgram : ℕ → Phrase Token Program
ReadsProgram depth = AProgram (ReadsPat depth) (Reads depth whole)

-- ---- What begins a program nested so little. No branch fits the last level, and yet a `case` begins there: so one token may
-- stand in the place of a branch, a number or a text, where ts has no such token. A front of ts itself leaves out none.

abbrev pub number_at : Tok → Bool
number_at (tok.Int n) = true
number_at _ = false

abbrev pub text_at : Tok → Bool
text_at (tok.Text text) = true
text_at _ = false

abbrev pub is_number : Token → Bool
is_number t = number_at t.what

abbrev pub is_text : Token → Bool
is_text t = text_at t.what

-- a number where ts has none, or a text where it has none
abbrev pub misses : List Token → ℕ → Token → Bool
misses ts n t = (is_number t && not (heads is_number (drop n ts))) || (is_text t && not (heads is_text (drop n ts)))

-- what such a token stands for
abbrev pub left_out : Branch
left_out = record { label = word_of (0, []); pat = pattern.Any; body = expr.Coll kind.Set [] }

-- the same expressions, but that such a token may stand for a branch
abbrev pub Begins : List Token → ℕ → Sort → Phrase Token Expr
Begins ts zero s = of_sort s false Never Never Never Never Never Never
Begins ts (suc depth) s = of_sort s true (ReadsPat depth) (Begins ts depth whole) (Begins ts depth negated) (Begins ts depth signed)
    (Begins ts depth added) (Or (Missing (misses ts) left_out) (ABranch (opens depth) (PatInside depth) (Begins ts depth whole)))

-- the same programs, but that such a token may stand for a branch
abbrev pub BeginsProgram : List Token → ℕ → Phrase Token Program
BeginsProgram ts depth = AProgram (ReadsPat depth) (Begins ts depth whole)
