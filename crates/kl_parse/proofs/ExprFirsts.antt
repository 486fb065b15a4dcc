-- With which tokens expressions begin, and what may go on behind them.
use Rattle.std.proofs.Common.{ℕ, Bool, List, [], ◌∷◌, ◌++◌, Option, Some, None, refl}
use Rattle.kl_lex.specs.declared.token.Sym.{Sym}
use Rattle.kl_lex.specs.declared.token.Sym.TheVariants as sy
use Rattle.kl_lex.specs.declared.token.Token.{Token}
use Rattle.kl_value.specs.declared.value.Kind.{Kind}
use Rattle.kl_value.specs.declared.value.Kind.TheVariants as kind
use Rattle.kl_lex.specs.declared.keyword.Keyword.{Keyword}
use Rattle.kl_lex.specs.declared.keyword.Keyword.TheVariants as key
use Rattle.kl_parse.specs.declared.operator.Level.{Level}
use Rattle.kl_parse.specs.declared.operator.Level.TheVariants as level
use Rattle.kl_syntax.specs.declared.tree.Expr.{Expr}
use Rattle.kl_syntax.specs.declared.tree.Op.{Op}
use Rattle.kl_syntax.specs.declared.tree.Expr.TheVariants as expr
use Rattle.kl_syntax.specs.declared.tree.Pattern.{Pattern}
use Rattle.kl_syntax.specs.declared.tree.Branch.{Branch}
use Rattle.kl_parse.specs.Lexemes.{Symbol, Key, Label, Name, Constant, IsLeast, AnOp}
use Rattle.kl_lex.specs.Brackets.{opener, closer}
use Rattle.kl_parse.specs.Grammar.{name_of, inject_of, case_of, path_of, chain_of, compare_of, let_of, if_of, Chained, Exprs, Args, Group, Field, Unsigned, Fields, Rec, Inject, Otherwise, If, Inside, Coll, Let, Case, Named, Least, Prim, Post, Un, Mul, Add, Compare, Not, And, Ors, Whole}
use Rattle.kl_parse.specs.Kinds.{among, is_symbol, is_key, one_symbol, one_key, symbol_kind, name_kinds, label_kinds, constant_kinds, op_kinds}
use Rattle.kl_parse.proofs.KindLemmas.{on_symbol, on_key, on_constant}
use Rattle.kl_parse.proofs.PatGoods.{alt, starts_label, starts_name}
use Rattle.kl_phrase.specs.Words.{Phrase, One, Then, Behind, Before, Many, Made, Or, Optional, Opened, Parted}
use Rattle.kl_phrase.proofs.Theory.{On, on_behind}
use Rattle.kl_phrase.proofs.Firsts.{on_made, on_then, on_opened}

-- ---- what may go on

abbrev pub goes_prim : List ℕ
goes_prim = one_symbol sy.OpenPar

abbrev pub goes_path : List ℕ
goes_path = symbol_kind sy.Dot ∷ goes_prim

abbrev pub goes_mul : List ℕ
goes_mul = op_kinds level.Mul ++ goes_path

abbrev pub goes_add : List ℕ
goes_add = op_kinds level.Add ++ goes_mul

abbrev pub goes_compare : List ℕ
goes_compare = op_kinds level.Compare ++ goes_add

abbrev pub goes_and : List ℕ
goes_and = op_kinds level.And ++ goes_compare

abbrev pub goes_whole : List ℕ
goes_whole = op_kinds level.Or ++ goes_and

-- ---- how they begin

on_after : {A : Type 0} (s : Sym) (S : Phrase Token A) → On (is_symbol s) (Behind (Symbol s) S)
on_after s S = on_behind (is_symbol s) (Symbol s) S (on_symbol s)

on_after_key : {A : Type 0} (k : Keyword) (S : Phrase Token A) → On (is_key k) (Behind (Key k) S)
on_after_key k S = on_behind (is_key k) (Key k) S (on_key k)

pub on_args : (E : Phrase Token Expr) → On (is_symbol sy.OpenPar) (Made Some (Args E))
on_args E = on_made (is_symbol sy.OpenPar) Some (Args E) (on_after sy.OpenPar (Before (Exprs E) (Symbol sy.ClosePar)))

pub on_field : (E : Phrase Token Expr) → On (among label_kinds) (Field E)
on_field E = on_then (among label_kinds) Label (Behind (Symbol sy.Eq) E) starts_label

pub on_constants : On (among constant_kinds) (Made expr.Const Constant)
on_constants = on_made (among constant_kinds) expr.Const Constant on_constant

pub on_group : (E : Phrase Token Expr) → On (is_symbol sy.OpenPar) (Group E)
on_group E = on_after sy.OpenPar (Before E (Symbol sy.ClosePar))

pub on_rec : (E U : Phrase Token Expr) → On (is_symbol sy.OpenRec) (Rec E U)
on_rec E U = on_after sy.OpenRec (Before (Optional (expr.Rec []) (Fields E U)) (Symbol sy.CloseRec))

pub on_base : (U : Phrase Token Expr) → On (is_symbol sy.Dots) (Behind (Symbol sy.Dots) (Unsigned U))
on_base U = on_after sy.Dots (Unsigned U)

pub on_inject : (A : Phrase Token Expr) → On (is_symbol sy.Lt) (Inject A)
on_inject A = on_made (is_symbol sy.Lt) inject_of (Behind (Symbol sy.Lt) (Before (Field A) (Symbol sy.Gt))) (on_after sy.Lt (Before (Field A) (Symbol sy.Gt)))

pub on_coll : (P : Phrase Token Pattern) (E : Phrase Token Expr) (k : Kind) → On (is_symbol (opener k)) (Coll P E k)
on_coll P E k = on_after (opener k) (Before (Inside P E k) (Symbol (closer k)))

abbrev pub InCase : Phrase Token Expr → Phrase Token Branch → Phrase Token (Expr × (List Branch × Option Expr))
InCase E B = Then (Before E (Key key.Of)) (Then (Parted (Symbol sy.Comma) B) (Before (Otherwise E) (Key key.End)))

pub on_case : (E : Phrase Token Expr) (B : Phrase Token Branch) → On (is_key key.Case) (Case E B)
on_case E B = on_made (is_key key.Case) case_of (Behind (Key key.Case) (InCase E B)) (on_after_key key.Case (InCase E B))

pub on_named : (may : Bool) (E : Phrase Token Expr) → On (among name_kinds) (Named may E)
on_named may E = on_made (among name_kinds) name_of (Then Name (Optional None (Opened may (Made Some (Args E))))) (on_then (among name_kinds) Name (Optional None (Opened may (Made Some (Args E)))) starts_name)

abbrev pub InLet : Phrase Token Pattern → Phrase Token Expr → Phrase Token (Pattern × (Expr × Expr))
InLet P E = Then (Before P (Symbol sy.Equals)) (Then (Before E (Key key.In)) E)

pub on_let : (P : Phrase Token Pattern) (E : Phrase Token Expr) → On (is_key key.Let) (Let P E)
on_let P E = on_made (is_key key.Let) let_of (Behind (Key key.Let) (InLet P E)) (on_after_key key.Let (InLet P E))

abbrev pub InIf : Phrase Token Expr → Phrase Token (Expr × (Expr × Expr))
InIf E = Then (Before E (Key key.Then)) (Then (Before E (Key key.Else)) E)

pub on_if : (E : Phrase Token Expr) → On (is_key key.If) (If E)
on_if E = on_made (is_key key.If) if_of (Behind (Key key.If) (InIf E)) (on_after_key key.If (InIf E))

pub on_not : (N : Phrase Token Expr) → On (is_key key.Not) (Made expr.Not (Behind (Key key.Not) N))
on_not N = on_made (is_key key.Not) expr.Not (Behind (Key key.Not) N) (on_after_key key.Not N)

pub on_minus : (U : Phrase Token Expr) → On (is_symbol sy.Sub) (Made expr.Neg (Behind (Symbol sy.Sub) U))
on_minus U = on_made (is_symbol sy.Sub) expr.Neg (Behind (Symbol sy.Sub) U) (on_after sy.Sub U)

pub on_digits : On (is_symbol sy.Sub) Least
on_digits = on_made (is_symbol sy.Sub) expr.Const (Behind (Symbol sy.Sub) (One IsLeast)) (on_after sy.Sub (One IsLeast))

pub on_chained : (l : Level) (kinds : List ℕ) (S : Phrase Token Expr) → On (among kinds) S → On (among kinds) (Chained l S)
on_chained l kinds S on = on_made (among kinds) chain_of (Then S (Many (Then (AnOp l) S))) (on_then (among kinds) S (Many (Then (AnOp l) S)) on)

-- the alternatives of prim, from the last to the first
abbrev pub prim8 : List ℕ
prim8 = one_key key.Case ++ name_kinds

abbrev pub prim7 : List ℕ
prim7 = one_symbol sy.OpenList ++ prim8

abbrev pub prim6 : List ℕ
prim6 = one_symbol sy.OpenBag ++ prim7

abbrev pub prim5 : List ℕ
prim5 = one_symbol sy.OpenSet ++ prim6

abbrev pub prim4 : List ℕ
prim4 = one_symbol sy.Lt ++ prim5

abbrev pub prim3 : List ℕ
prim3 = one_symbol sy.OpenRec ++ prim4

abbrev pub prim2 : List ℕ
prim2 = one_symbol sy.OpenPar ++ prim3

abbrev pub prim_kinds : List ℕ
prim_kinds = constant_kinds ++ prim2

abbrev pub un_kinds : List ℕ
un_kinds = one_symbol sy.Sub ++ prim_kinds

abbrev pub not_kinds : List ℕ
not_kinds = one_key key.Not ++ un_kinds

abbrev pub if_kinds : List ℕ
if_kinds = one_key key.If ++ not_kinds

abbrev pub whole_kinds : List ℕ
whole_kinds = one_key key.Let ++ if_kinds

module _ (may : Bool) (P : Phrase Token Pattern) (E N U A : Phrase Token Expr) (B : Phrase Token Branch) where
  abbrev pub Prim8 : Phrase Token Expr
  Prim8 = Or (Opened may (Case E B)) (Named may E)

  abbrev pub Prim7 : Phrase Token Expr
  Prim7 = Or (Opened may (Coll P E kind.List)) Prim8

  abbrev pub Prim6 : Phrase Token Expr
  Prim6 = Or (Opened may (Coll P E kind.Bag)) Prim7

  abbrev pub Prim5 : Phrase Token Expr
  Prim5 = Or (Opened may (Coll P E kind.Set)) Prim6

  abbrev pub Prim4 : Phrase Token Expr
  Prim4 = Or (Opened may (Inject A)) Prim5

  abbrev pub Prim3 : Phrase Token Expr
  Prim3 = Or (Opened may (Rec E U)) Prim4

  abbrev pub Prim2 : Phrase Token Expr
  Prim2 = Or (Opened may (Group E)) Prim3

  pub on8 : On (among prim8) Prim8
  on8 = alt (Opened may (Case E B)) (Named may E) (one_key key.Case) name_kinds prim8 refl refl (on_opened (is_key key.Case) may (Case E B) (on_case E B)) (on_named may E)

  pub on7 : On (among prim7) Prim7
  on7 = alt (Opened may (Coll P E kind.List)) Prim8 (one_symbol sy.OpenList) prim8 prim7 refl refl (on_opened (is_symbol sy.OpenList) may (Coll P E kind.List) (on_coll P E kind.List)) on8

  pub on6 : On (among prim6) Prim6
  on6 = alt (Opened may (Coll P E kind.Bag)) Prim7 (one_symbol sy.OpenBag) prim7 prim6 refl refl (on_opened (is_symbol sy.OpenBag) may (Coll P E kind.Bag) (on_coll P E kind.Bag)) on7

  pub on5 : On (among prim5) Prim5
  on5 = alt (Opened may (Coll P E kind.Set)) Prim6 (one_symbol sy.OpenSet) prim6 prim5 refl refl (on_opened (is_symbol sy.OpenSet) may (Coll P E kind.Set) (on_coll P E kind.Set)) on6

  pub on4 : On (among prim4) Prim4
  on4 = alt (Opened may (Inject A)) Prim5 (one_symbol sy.Lt) prim5 prim4 refl refl (on_opened (is_symbol sy.Lt) may (Inject A) (on_inject A)) on5

  pub on3 : On (among prim3) Prim3
  on3 = alt (Opened may (Rec E U)) Prim4 (one_symbol sy.OpenRec) prim4 prim3 refl refl (on_opened (is_symbol sy.OpenRec) may (Rec E U) (on_rec E U)) on4

  pub on2 : On (among prim2) Prim2
  on2 = alt (Opened may (Group E)) Prim3 (one_symbol sy.OpenPar) prim3 prim2 refl refl (on_opened (is_symbol sy.OpenPar) may (Group E) (on_group E)) on3

  pub on_prim : On (among prim_kinds) (Prim may P E N U A B)
  on_prim = alt (Made expr.Const Constant) Prim2 constant_kinds prim2 prim_kinds refl refl on_constants on2

  pub on_path : On (among prim_kinds) (Post may P E N U A B)
  on_path = on_made (among prim_kinds) path_of (Then (Prim may P E N U A B) (Many (Behind (Symbol sy.Dot) Label))) (on_then (among prim_kinds) (Prim may P E N U A B) (Many (Behind (Symbol sy.Dot) Label)) on_prim)

  abbrev pub Minus : Phrase Token Expr
  Minus = Or (Opened may (Made expr.Neg (Behind (Symbol sy.Sub) U))) (Post may P E N U A B)

  pub on_signed : On (among un_kinds) Minus
  on_signed = alt (Opened may (Made expr.Neg (Behind (Symbol sy.Sub) U))) (Post may P E N U A B) (one_symbol sy.Sub) prim_kinds un_kinds refl refl (on_opened (is_symbol sy.Sub) may (Made expr.Neg (Behind (Symbol sy.Sub) U)) (on_minus U)) on_path

  pub on_un : On (among un_kinds) (Un may P E N U A B)
  on_un = alt Least Minus (one_symbol sy.Sub) un_kinds un_kinds refl refl on_digits on_signed

  pub on_mul : On (among un_kinds) (Mul may P E N U A B)
  on_mul = on_chained level.Mul un_kinds (Un may P E N U A B) on_un

  pub on_add : On (among un_kinds) (Add may P E N U A B)
  on_add = on_chained level.Add un_kinds (Mul may P E N U A B) on_mul

  abbrev pub Second : Phrase Token (Option (Op × Expr))
  Second = Optional None (Made Some (Then (AnOp level.Compare) (Add may P E N U A B)))

  pub on_compare : On (among un_kinds) (Compare may P E N U A B)
  on_compare = on_made (among un_kinds) compare_of (Then (Add may P E N U A B) Second) (on_then (among un_kinds) (Add may P E N U A B) Second on_add)

  pub on_negation : On (among not_kinds) (Not may P E N U A B)
  on_negation = alt (Opened may (Made expr.Not (Behind (Key key.Not) N))) (Compare may P E N U A B) (one_key key.Not) un_kinds not_kinds refl refl (on_opened (is_key key.Not) may (Made expr.Not (Behind (Key key.Not) N)) (on_not N)) on_compare

  pub on_and : On (among not_kinds) (And may P E N U A B)
  on_and = on_chained level.And not_kinds (Not may P E N U A B) on_negation

  pub on_ors : On (among not_kinds) (Ors may P E N U A B)
  on_ors = on_chained level.Or not_kinds (And may P E N U A B) on_and

  abbrev pub Iffy : Phrase Token Expr
  Iffy = Or (Opened may (If E)) (Ors may P E N U A B)

  pub on_iffy : On (among if_kinds) Iffy
  on_iffy = alt (Opened may (If E)) (Ors may P E N U A B) (one_key key.If) not_kinds if_kinds refl refl (on_opened (is_key key.If) may (If E) (on_if E)) on_ors

  pub on_whole : On (among whole_kinds) (Whole may P E N U A B)
  on_whole = alt (Opened may (Let P E)) Iffy (one_key key.Let) if_kinds whole_kinds refl refl (on_opened (is_key key.Let) may (Let P E) (on_let P E)) on_iffy
