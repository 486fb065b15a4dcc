-- No pattern, no expression and no body has the token that ends them.
use Rattle.std.proofs.Common.{◌≡◌, ℕ, zero, suc, Bool, true, false, List, [], Option, Some, None as Nil, inl, inr, refl, ap, ◌∙◌}
use Rattle.kl_lex.specs.declared.token.Sym.{Sym}
use Rattle.kl_lex.specs.declared.token.Sym.TheVariants as sy
use Rattle.kl_lex.specs.declared.token.Tok.{Tok}
use Rattle.kl_lex.specs.declared.token.Tok.TheVariants as tok
use Rattle.kl_lex.specs.declared.token.Token.{Token}
use Rattle.kl_lex.specs.declared.keyword.Keyword.{Keyword}
use Rattle.kl_lex.specs.declared.keyword.Keyword.TheVariants as key
use Rattle.kl_value.specs.declared.value.Kind.{Kind}
use Rattle.kl_value.specs.declared.value.Kind.TheVariants as kind
use Rattle.kl_value.specs.declared.value.Value.{Value}
use Rattle.kl_value.specs.declared.value.Value.TheVariants as value
use Rattle.kl_parse.specs.declared.operator.Level.{Level}
use Rattle.kl_parse.specs.declared.operator.Level.TheVariants as level
use Rattle.kl_syntax.specs.declared.tree.Op.{Op}
use Rattle.kl_syntax.specs.declared.tree.Op.TheVariants as op
use Rattle.kl_syntax.specs.declared.tree.Pattern.{Pattern}
use Rattle.kl_syntax.specs.declared.tree.Pattern.TheVariants as pattern
use Rattle.kl_syntax.specs.declared.tree.Tail.TheVariants as tail
use Rattle.kl_syntax.specs.declared.tree.Expr.{Expr}
use Rattle.kl_syntax.specs.declared.tree.Expr.TheVariants as expr
use Rattle.kl_syntax.specs.declared.tree.Qual.TheVariants as qual
use Rattle.kl_syntax.specs.declared.tree.Branch.{Branch}
use Rattle.kl_lex.specs.Keywords.{keyword_of}
use Rattle.kl_phrase.specs.Depth.{opens}
use Rattle.kl_parse.specs.Lexemes.{IsSymbol, Symbol, IsKey, Key, IsLabel, IsName, IsConstant, Constant, IsLeast, IsNegative, word_of, Label, Name, written, IsOp, AnOp}
use Rattle.kl_parse.specs.Grammar.{is_of, variant_of, shape_of, name_of, record_of, inject_of, gen_of, comp_of, case_of, path_of, chain_of, compare_of, let_of, if_of, branch_of, function_of, constant_of, BindPat, AnyPat, NegativePat, ConstantPat, SamePat, Simple, PatField, Others, ShapeFields, ShapeDots, PatRec, PatVariant, Pat, ReadsPat, Chained, Exprs, Args, Group, Field, Unsigned, Fields, Rec, Inject, Otherwise, If, AQual, Inside, Coll, Let, Case, Named, Least, Prim, Post, Un, Mul, Add, Compare, Not, And, Ors, ABranch, Sort, whole, negated, signed, added, of_sort, PatInside, Reads, Body}
use Rattle.kl_parse.specs.Kinds.{has, kind_at, word_kind, is_symbol, one_symbol}
use Rattle.kl_parse.proofs.ExprFirsts.{InLet, InIf, InCase, Prim2, Prim3, Prim4, Prim5, Prim6, Prim7, Prim8, Minus, Iffy, Second}
use Rattle.kl_phrase.specs.Words.{Phrase, One, Nothing, Numbered, Then, Behind, Before, Many, Made, Or, Optional, Opened, Never, Parted, Tailed}
use Rattle.kl_phrase.proofs.Spelled.{Closed, Each, None, closed_none, each_one, each_nothing, each_then, each_behind, each_before, each_many, each_parted, each_tailed, each_made, each_numbered, each_or, each_opened}

abbrev pub semi : Token → Bool
semi = is_symbol sy.Semi

abbrev pub NoEnd : {A : Type 0} → Phrase Token A → Type 0
NoEnd S = Each (None semi) S

closed : Closed (None semi)
closed = closed_none semi

abbrev ends_at : Tok → Bool
ends_at w = has (kind_at w) (one_symbol sy.Semi)

-- ---- one token

symbol : (s : Sym) → ends_at (tok.Sym s) ≡ false → NoEnd (Symbol s)
symbol s h = each_one (None semi) closed (IsSymbol s) (λ t x e. (ap ends_at e ∙ h, tt))

no_word : (o : Option Keyword) → has (word_kind o) (one_symbol sy.Semi) ≡ false
no_word Nil = refl
no_word (Some key.And) = refl
no_word (Some _) = refl

word : (t : Token) (w : List ℕ) → t.what ≡ tok.Word w → semi t ≡ false
word t w e = ap ends_at e ∙ no_word (keyword_of w)

keyword : (k : Keyword) → NoEnd (Key k)
keyword k = each_one (None semi) closed (IsKey k) (λ t x e. (ap ends_at e ∙ no_word (keyword_of (Rattle.kl_lex.specs.Keywords.spelling k)), tt))

label : NoEnd Label
label = each_made word_of (Numbered (One IsLabel)) (each_numbered (One IsLabel) (each_one (None semi) closed IsLabel (λ t x e. (word t x e, tt))))

name : NoEnd Name
name = each_made word_of (Numbered (One IsName)) (each_numbered (One IsName) (each_one (None semi) closed IsName (λ t x e. (word t x e.0, tt))))

constant : NoEnd Constant
constant = each_one (None semi) closed IsConstant (λ t v h. (go v t h, tt))
  where
    go : (v : Value) (t : Token) → IsConstant t v → semi t ≡ false
    go (value.Int n) t h = ap ends_at h
    go (value.Text text) t h = ap ends_at h
    go (value.Bool true) t h = ap ends_at h
    go (value.Bool false) t h = ap ends_at h
    go _ t h = absurd h

negative : NoEnd (One IsNegative)
negative = each_one (None semi) closed IsNegative (λ t v h. (go t v h, tt))
  where
    go : (t : Token) (v : Value) → IsNegative t v → semi t ≡ false
    go t v (inl (n, e, k)) = ap ends_at e
    go t v (inr (e, k)) = ap ends_at e

least : NoEnd (One IsLeast)
least = each_one (None semi) closed IsLeast (λ t v h. (ap ends_at h.0, tt))

no_op : (o : Op) → ends_at (written o) ≡ false
no_op op.Or = refl
no_op _ = refl

an_op : (l : Level) → NoEnd (AnOp l)
an_op l = each_one (None semi) closed (IsOp l) (λ t o h. (ap ends_at h.0 ∙ no_op o, tt))

past : {A : Type 0} (s : Sym) (S : Phrase Token A) → ends_at (tok.Sym s) ≡ false → NoEnd S → NoEnd (Behind (Symbol s) S)
past s S h f = each_behind (None semi) closed (Symbol s) S (symbol s h) f

past_key : {A : Type 0} (k : Keyword) (S : Phrase Token A) → NoEnd S → NoEnd (Behind (Key k) S)
past_key k S f = each_behind (None semi) closed (Key k) S (keyword k) f

shut : {A : Type 0} (s : Sym) (S : Phrase Token A) → ends_at (tok.Sym s) ≡ false → NoEnd S → NoEnd (Before S (Symbol s))
shut s S h f = each_before (None semi) closed S (Symbol s) f (symbol s h)

shut_key : {A : Type 0} (k : Keyword) (S : Phrase Token A) → NoEnd S → NoEnd (Before S (Key k))
shut_key k S f = each_before (None semi) closed S (Key k) f (keyword k)

pair : {A B : Type 0} (S : Phrase Token A) (R : Phrase Token B) → NoEnd S → NoEnd R → NoEnd (Then S R)
pair S R f g = each_then (None semi) closed S R f g

list : {A : Type 0} (S : Phrase Token A) → NoEnd S → NoEnd (Parted (Symbol sy.Comma) S)
list S f = each_parted (None semi) closed (Symbol sy.Comma) S (symbol sy.Comma refl) f

empty : {A : Type 0} (a : A) → NoEnd (Nothing a)
empty a = each_nothing (None semi) closed a

-- ---- patterns

simple : NoEnd Simple
simple =
    each_or BindPat (Or AnyPat (Or NegativePat (Or ConstantPat SamePat))) (each_made pattern.Bind (Behind (Symbol sy.Bind) Name) (past sy.Bind Name refl name))
    (each_or AnyPat (Or NegativePat (Or ConstantPat SamePat)) (each_made (λ _. pattern.Any) (Symbol sy.Any) (symbol sy.Any refl))
    (each_or NegativePat (Or ConstantPat SamePat) (each_made is_of (Numbered (Behind (Symbol sy.Sub) (One IsNegative))) (each_numbered (Behind (Symbol sy.Sub) (One IsNegative)) (past sy.Sub (One IsNegative) refl negative)))
    (each_or ConstantPat SamePat (each_made is_of (Numbered Constant) (each_numbered Constant constant)) (each_made pattern.Same Name name))))

others : NoEnd Others
others = past sy.Dots (Optional tail.Open (Made tail.Rest (Behind (Symbol sy.Bind) Name))) refl (each_or (Made tail.Rest (Behind (Symbol sy.Bind) Name)) (Nothing tail.Open) (each_made tail.Rest (Behind (Symbol sy.Bind) Name) (past sy.Bind Name refl name)) (empty tail.Open))

pat_field : (P : Phrase Token Pattern) → NoEnd P → NoEnd (PatField P)
pat_field P f = pair Label (Behind (Symbol sy.Eq) P) label (past sy.Eq P refl f)

pat_variant : (P : Phrase Token Pattern) → NoEnd P → NoEnd (PatVariant P)
pat_variant P f = past sy.Lt (Before (PatField P) (Symbol sy.Gt)) refl (shut sy.Gt (PatField P) refl (pat_field P f))

pat : (may : Bool) (P : Phrase Token Pattern) → NoEnd P → NoEnd (Pat P may)
pat may P f =
    each_or (Opened may (Made variant_of (PatVariant P))) (Or (Opened may (PatRec P)) Simple) (each_opened may (Made variant_of (PatVariant P)) (each_made variant_of (PatVariant P) (pat_variant P f)))
    (each_or (Opened may (PatRec P)) Simple (each_opened may (PatRec P) (past sy.OpenRec (Before (Or (ShapeFields P) (Or (ShapeDots P) (Nothing (pattern.Rec [] tail.Exact)))) (Symbol sy.CloseRec)) refl (shut sy.CloseRec (Or (ShapeFields P) (Or (ShapeDots P) (Nothing (pattern.Rec [] tail.Exact)))) refl inside))) simple)
  where
    inside : NoEnd (Or (ShapeFields P) (Or (ShapeDots P) (Nothing (pattern.Rec [] tail.Exact))))
    inside =
        each_or (ShapeFields P) (Or (ShapeDots P) (Nothing (pattern.Rec [] tail.Exact))) (each_made shape_of (Then (PatField P) (Tailed (Symbol sy.Comma) (PatField P) Others)) (pair (PatField P) (Tailed (Symbol sy.Comma) (PatField P) Others) (pat_field P f) (each_tailed (None semi) closed (Symbol sy.Comma) (PatField P) Others (symbol sy.Comma refl) (pat_field P f) others)))
        (each_or (ShapeDots P) (Nothing (pattern.Rec [] tail.Exact)) (each_made (pattern.Rec []) Others others) (empty (pattern.Rec [] tail.Exact)))

nothing_there : {A : Type 0} → NoEnd {A = A} Never
nothing_there n a u s = absurd s

pub no_pat : (n : ℕ) → NoEnd (ReadsPat n)
no_pat zero = pat false Never nothing_there
no_pat (suc n) = pat true (ReadsPat n) (no_pat n)

no_inside : (n : ℕ) → NoEnd (PatInside n)
no_inside zero = nothing_there
no_inside (suc n) = no_pat n

-- ---- expressions

chained : (l : Level) (S : Phrase Token Expr) → NoEnd S → NoEnd (Chained l S)
chained l S f = each_made chain_of (Then S (Many (Then (AnOp l) S))) (pair S (Many (Then (AnOp l) S)) f (each_many (None semi) closed (Then (AnOp l) S) (pair (AnOp l) S (an_op l) f)))

module _ (E : Phrase Token Expr) (fe : NoEnd E) where
  exprs : NoEnd (Exprs E)
  exprs = list E fe

  args : NoEnd (Args E)
  args = past sy.OpenPar (Before (Exprs E) (Symbol sy.ClosePar)) refl (shut sy.ClosePar (Exprs E) refl exprs)

  group : NoEnd (Group E)
  group = past sy.OpenPar (Before E (Symbol sy.ClosePar)) refl (shut sy.ClosePar E refl fe)

  field : NoEnd (Field E)
  field = pair Label (Behind (Symbol sy.Eq) E) label (past sy.Eq E refl fe)

  fields_of : (U : Phrase Token Expr) → NoEnd U → NoEnd (Rec E U)
  fields_of U fu =
      past sy.OpenRec (Before (Optional (expr.Rec []) (Fields E U)) (Symbol sy.CloseRec)) refl
      (shut sy.CloseRec (Optional (expr.Rec []) (Fields E U)) refl
      (each_or (Fields E U) (Nothing (expr.Rec []))
      (each_made record_of (Then (Field E) (Tailed (Symbol sy.Comma) (Field E) (Behind (Symbol sy.Dots) (Unsigned U))))
      (pair (Field E) (Tailed (Symbol sy.Comma) (Field E) (Behind (Symbol sy.Dots) (Unsigned U))) field
      (each_tailed (None semi) closed (Symbol sy.Comma) (Field E) (Behind (Symbol sy.Dots) (Unsigned U)) (symbol sy.Comma refl) field (past sy.Dots (Unsigned U) refl (λ n a u s. fu n a u s.0)))))
      (empty (expr.Rec []))))

  inject : NoEnd (Inject E)
  inject = each_made inject_of (Behind (Symbol sy.Lt) (Before (Field E) (Symbol sy.Gt))) (past sy.Lt (Before (Field E) (Symbol sy.Gt)) refl (shut sy.Gt (Field E) refl field))

  otherwise : NoEnd (Otherwise E)
  otherwise = each_or (Made Some (Behind (Key key.Otherwise) E)) (Nothing Nil) (each_made Some (Behind (Key key.Otherwise) E) (past_key key.Otherwise E fe)) (empty Nil)

  iff : NoEnd (If E)
  iff = each_made if_of (Behind (Key key.If) (InIf E)) (past_key key.If (InIf E) (pair (Before E (Key key.Then)) (Then (Before E (Key key.Else)) E) (shut_key key.Then E fe) (pair (Before E (Key key.Else)) E (shut_key key.Else E fe) fe)))

  case : (B : Phrase Token Branch) → NoEnd B → NoEnd (Case E B)
  case B fb = each_made case_of (Behind (Key key.Case) (InCase E B)) (past_key key.Case (InCase E B) (pair (Before E (Key key.Of)) (Then (Parted (Symbol sy.Comma) B) (Before (Otherwise E) (Key key.End))) (shut_key key.Of E fe) (pair (Parted (Symbol sy.Comma) B) (Before (Otherwise E) (Key key.End)) (list B fb) (shut_key key.End (Otherwise E) otherwise))))

  named : (may : Bool) → NoEnd (Named may E)
  named may = each_made name_of (Then Name (Optional Nil (Opened may (Made Some (Args E))))) (pair Name (Optional Nil (Opened may (Made Some (Args E)))) name (each_or (Opened may (Made Some (Args E))) (Nothing Nil) (each_opened may (Made Some (Args E)) (each_made Some (Args E) args)) (empty Nil)))

  module _ (P : Phrase Token Pattern) (fp : NoEnd P) where
    a_qual : NoEnd (AQual P E)
    a_qual = each_or (Made gen_of (Then (Before P (Symbol sy.Draw)) E)) (Made qual.Cond E) (each_made gen_of (Then (Before P (Symbol sy.Draw)) E) (pair (Before P (Symbol sy.Draw)) E (shut sy.Draw P refl fp) fe)) (each_made qual.Cond E fe)

    inside : (k : Kind) → NoEnd (Inside P E k)
    inside k = each_or (Made (expr.Coll k) (Optional [] (Exprs E))) (Made (comp_of k) (Then E (Behind (Symbol sy.Bar) (Parted (Symbol sy.Comma) (AQual P E))))) (each_made (expr.Coll k) (Optional [] (Exprs E)) (each_or (Exprs E) (Nothing []) exprs (empty []))) (each_made (comp_of k) (Then E (Behind (Symbol sy.Bar) (Parted (Symbol sy.Comma) (AQual P E)))) (pair E (Behind (Symbol sy.Bar) (Parted (Symbol sy.Comma) (AQual P E))) fe (past sy.Bar (Parted (Symbol sy.Comma) (AQual P E)) refl (list (AQual P E) a_qual))))

    coll : (k : Kind) → NoEnd (Coll P E k)
    coll kind.Set = past sy.OpenSet (Before (Inside P E kind.Set) (Symbol sy.CloseSet)) refl (shut sy.CloseSet (Inside P E kind.Set) refl (inside kind.Set))
    coll kind.Bag = past sy.OpenBag (Before (Inside P E kind.Bag) (Symbol sy.CloseBag)) refl (shut sy.CloseBag (Inside P E kind.Bag) refl (inside kind.Bag))
    coll kind.List = past sy.OpenList (Before (Inside P E kind.List) (Symbol sy.CloseList)) refl (shut sy.CloseList (Inside P E kind.List) refl (inside kind.List))

    lett : NoEnd (Let P E)
    lett = each_made let_of (Behind (Key key.Let) (InLet P E)) (past_key key.Let (InLet P E) (pair (Before P (Symbol sy.Equals)) (Then (Before E (Key key.In)) E) (shut sy.Equals P refl fp) (pair (Before E (Key key.In)) E (shut_key key.In E fe) fe)))

    branch : (may : Bool) → NoEnd (ABranch may P E)
    branch may = each_opened may (Made branch_of (Then (PatVariant P) (Behind (Symbol sy.Arrow) E))) (each_made branch_of (Then (PatVariant P) (Behind (Symbol sy.Arrow) E)) (pair (PatVariant P) (Behind (Symbol sy.Arrow) E) (pat_variant P fp) (past sy.Arrow E refl fe)))

    body : NoEnd (Body P E)
    body = each_or (Made function_of (Then (Before P (Symbol sy.Arrow)) E)) (Made constant_of E) (each_made function_of (Then (Before P (Symbol sy.Arrow)) E) (pair (Before P (Symbol sy.Arrow)) E (shut sy.Arrow P refl fp) fe)) (each_made constant_of E fe)

module _ (may : Bool) (P : Phrase Token Pattern) (E N U A : Phrase Token Expr) (B : Phrase Token Branch) (fp : NoEnd P) (fe : NoEnd E) (fn : NoEnd N) (fu : NoEnd U) (fa : NoEnd A) (fb : NoEnd B) where
  prim : NoEnd (Prim may P E N U A B)
  prim =
      each_or (Made expr.Const Constant) (Prim2 may P E N U A B) (each_made expr.Const Constant constant)
      (each_or (Opened may (Group E)) (Prim3 may P E N U A B) (each_opened may (Group E) (group E fe))
      (each_or (Opened may (Rec E U)) (Prim4 may P E N U A B) (each_opened may (Rec E U) (fields_of E fe U fu))
      (each_or (Opened may (Inject A)) (Prim5 may P E N U A B) (each_opened may (Inject A) (inject A fa))
      (each_or (Opened may (Coll P E kind.Set)) (Prim6 may P E N U A B) (each_opened may (Coll P E kind.Set) (coll E fe P fp kind.Set))
      (each_or (Opened may (Coll P E kind.Bag)) (Prim7 may P E N U A B) (each_opened may (Coll P E kind.Bag) (coll E fe P fp kind.Bag))
      (each_or (Opened may (Coll P E kind.List)) (Prim8 may P E N U A B) (each_opened may (Coll P E kind.List) (coll E fe P fp kind.List))
      (each_or (Opened may (Case E B)) (Named may E) (each_opened may (Case E B) (case E fe B fb)) (named E fe may))))))))

  post : NoEnd (Post may P E N U A B)
  post = each_made path_of (Then (Prim may P E N U A B) (Many (Behind (Symbol sy.Dot) Label))) (pair (Prim may P E N U A B) (Many (Behind (Symbol sy.Dot) Label)) prim (each_many (None semi) closed (Behind (Symbol sy.Dot) Label) (past sy.Dot Label refl label)))

  un : NoEnd (Un may P E N U A B)
  un = each_or Least (Minus may P E N U A B) (each_made expr.Const (Behind (Symbol sy.Sub) (One IsLeast)) (past sy.Sub (One IsLeast) refl least)) (each_or (Opened may (Made expr.Neg (Behind (Symbol sy.Sub) U))) (Post may P E N U A B) (each_opened may (Made expr.Neg (Behind (Symbol sy.Sub) U)) (each_made expr.Neg (Behind (Symbol sy.Sub) U) (past sy.Sub U refl fu))) post)

  mul : NoEnd (Mul may P E N U A B)
  mul = chained level.Mul (Un may P E N U A B) un

  add : NoEnd (Add may P E N U A B)
  add = chained level.Add (Mul may P E N U A B) mul

  compare : NoEnd (Compare may P E N U A B)
  compare = each_made compare_of (Then (Add may P E N U A B) (Second may P E N U A B)) (pair (Add may P E N U A B) (Second may P E N U A B) add (each_or (Made Some (Then (AnOp level.Compare) (Add may P E N U A B))) (Nothing Nil) (each_made Some (Then (AnOp level.Compare) (Add may P E N U A B)) (pair (AnOp level.Compare) (Add may P E N U A B) (an_op level.Compare) add)) (empty Nil)))

  negation : NoEnd (Not may P E N U A B)
  negation = each_or (Opened may (Made expr.Not (Behind (Key key.Not) N))) (Compare may P E N U A B) (each_opened may (Made expr.Not (Behind (Key key.Not) N)) (each_made expr.Not (Behind (Key key.Not) N) (past_key key.Not N fn))) compare

  ors : NoEnd (Ors may P E N U A B)
  ors = chained level.Or (And may P E N U A B) (chained level.And (Not may P E N U A B) negation)

  sort : (s : Sort) → NoEnd (of_sort s may P E N U A B)
  sort whole = each_or (Opened may (Let P E)) (Iffy may P E N U A B) (each_opened may (Let P E) (lett E fe P fp)) (each_or (Opened may (If E)) (Ors may P E N U A B) (each_opened may (If E) (iff E fe)) ors)
  sort negated = negation
  sort signed = un
  sort added = add

pub no_reads : (n : ℕ) (s : Sort) → NoEnd (Reads n s)
no_reads zero s = sort false Never Never Never Never Never Never nothing_there nothing_there nothing_there nothing_there nothing_there nothing_there s
no_reads (suc n) s = sort true (ReadsPat n) (Reads n whole) (Reads n negated) (Reads n signed) (Reads n added) (ABranch (opens n) (PatInside n) (Reads n whole)) (no_pat n) (no_reads n whole) (no_reads n negated) (no_reads n signed) (no_reads n added) (branch (Reads n whole) (no_reads n whole) (PatInside n) (no_inside n) (opens n)) s

pub no_body : (n : ℕ) → NoEnd (Body (ReadsPat n) (Reads n whole))
no_body n = body (Reads n whole) (no_reads n whole) (ReadsPat n) (no_pat n)
