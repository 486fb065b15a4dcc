-- Where a qualifier is a generator and where a condition, and where a body is a function, by its tokens alone: one walk passes
-- over patterns, and tells of what follows an expression unless it met an opener.
use Rattle.std.proofs.Common.{◌≡◌, ℕ, zero, suc, Bool, true, false, List, [], ◌∷◌, ◌++◌, Option, Some, None, inl, inr, refl, sym, ap, ◌∙◌, append_assoc}
use Rattle.kl_lex.specs.declared.token.Sym.{Sym}
use Rattle.kl_lex.specs.declared.token.Sym.TheVariants as sy
use Rattle.kl_lex.specs.declared.token.Tok.{Tok}
use Rattle.kl_lex.specs.declared.token.Tok.TheVariants as tok
use Rattle.kl_lex.specs.declared.token.Token.{Token}
use Rattle.kl_value.specs.declared.value.Value.{Value}
use Rattle.kl_value.specs.declared.value.Value.TheVariants as value
use Rattle.kl_value.specs.declared.value.Kind.TheVariants as kind
use Rattle.kl_lex.specs.declared.keyword.Keyword.{Keyword}
use Rattle.kl_lex.specs.declared.keyword.Keyword.TheVariants as key
use Rattle.kl_parse.specs.declared.operator.Level.{Level}
use Rattle.kl_parse.specs.declared.operator.Level.TheVariants as level
use Rattle.kl_syntax.specs.declared.tree.Op.{Op}
use Rattle.kl_syntax.specs.declared.tree.Op.TheVariants as op
use Rattle.kl_syntax.specs.declared.tree.Expr.{Expr}
use Rattle.kl_syntax.specs.declared.tree.Expr.TheVariants as expr
use Rattle.kl_syntax.specs.declared.tree.Pattern.{Pattern}
use Rattle.kl_syntax.specs.declared.tree.Pattern.TheVariants as pattern
use Rattle.kl_syntax.specs.declared.tree.Tail.TheVariants as tail
use Rattle.kl_syntax.specs.declared.tree.Branch.{Branch}
use Rattle.kl_lex.specs.Keywords.{spelling, keyword_of}
use Rattle.kl_parse.specs.Lexemes.{IsSymbol, Symbol, IsKey, Key, IsLabel, IsName, IsConstant, Constant, IsLeast, IsNegative, word_of, Label, Name, written, AnOp, IsOp}
use Rattle.kl_parse.specs.Grammar.{is_of, variant_of, shape_of, name_of, record_of, inject_of, path_of, chain_of, compare_of, let_of, if_of, BindPat, AnyPat, NegativePat, ConstantPat, SamePat, Simple, PatField, Others, ShapeFields, ShapeDots, PatRec, PatVariant, Pat, ReadsPat, Chained, Exprs, Args, Group, Field, Unsigned, Fields, Rec, Inject, If, Coll, Let, Case, Named, Least, Prim, Post, Un, Mul, Add, Compare, Not, And, Ors, Whole, Inside, whole, negated, signed, added, of_sort, Sort}
use Rattle.kl_parse.specs.Kinds.{has, kind_at, among, is_symbol, one_symbol, symbol_kind}
use Rattle.kl_parse.proofs.KindLemmas.{is_none, among_symbols, is_symbol_of}
use Rattle.kl_parse.proofs.PatGoods.{stop}
use Rattle.kl_parse.proofs.ExprFirsts.{InLet, InIf, whole_kinds, Prim2, Prim3, Prim4, Prim5, Prim6, Prim7, Prim8, Minus, Iffy, Second}
use Rattle.kl_phrase.specs.Words.{heads, Phrase, One, Nothing, Numbered, Then, Behind, Before, Many, Made, Or, Optional, Opened, Never, Tailed}
use Rattle.kl_phrase.proofs.Theory.{On}
use Rattle.kl_phrase.proofs.Spelled.{Closed, Each, each_one, each_nothing, each_then, each_behind, each_before, each_many, each_tailed, each_made, each_numbered, each_or, each_opened}

-- what a token is to the walk
pub data Act : Type 0 where
  through : Act
  comma : Act
  inner : Act
  outer : Act
  yes : Act
  nay : Act
  perhaps : Act

abbrev pub act_symbol : Sym → Act
act_symbol sy.OpenRec = inner
act_symbol sy.CloseRec = outer
act_symbol sy.Comma = comma
act_symbol sy.Draw = nay
act_symbol sy.Arrow = nay
act_symbol sy.OpenPar = yes
act_symbol sy.OpenSet = yes
act_symbol sy.OpenBag = yes
act_symbol sy.OpenList = yes
act_symbol sy.CloseSet = yes
act_symbol sy.CloseBag = yes
act_symbol sy.CloseList = yes
act_symbol sy.Semi = yes
act_symbol _ = through

abbrev pub act_word : Option Keyword → Act
act_word (Some key.Case) = perhaps
act_word _ = through

abbrev pub act : Tok → Act
act (tok.Sym s) = act_symbol s
act (tok.Word word) = act_word (keyword_of word)
act _ = through

abbrev pub told : Act → ℕ → Bool → (ℕ → Bool) → Bool
told through k e f = f k
told comma zero e f = true
told comma (suc k) e f = f (suc k)
told inner k e f = f (suc k)
told outer zero e f = false
told outer (suc k) e f = f k
told yes k e f = true
told nay k e f = false
told perhaps k true f = f k
told perhaps k false f = true

-- inside so many brackets: whether an expression ends here, before what follows a condition or a body
abbrev pub is_expr : ℕ → List Token → Bool
is_expr k [] = false
is_expr k (t ∷ ts) = told (act t.what) k (heads (is_symbol sy.Eq) ts) (λ j. is_expr j ts)

-- ---- what is passed over

abbrev pub Passes : List Token → Type 0
Passes u = (k : ℕ) (w : List Token) → is_expr k (u ++ w) ≡ is_expr k w

-- inside a bracket
abbrev Inner : List Token → Type 0
Inner u = (k : ℕ) (w : List Token) → is_expr (suc k) (u ++ w) ≡ is_expr (suc k) w

-- what follows is told of, or an opener came first
abbrev pub Leads : List Token → Type 0
Leads u = (k : ℕ) (w : List Token) → is_expr k w ≡ true → is_expr k (u ++ w) ≡ true

closed_passes : Closed Passes
closed_passes = record { nil = λ k w. refl; join = λ u v f g k w. ap (is_expr k) (append_assoc u v w) ∙ f k (v ++ w) ∙ g k w }

closed_inner : Closed Inner
closed_inner = record { nil = λ k w. refl; join = λ u v f g k w. ap (is_expr (suc k)) (append_assoc u v w) ∙ f k (v ++ w) ∙ g k w }

closed_leads : Closed Leads
closed_leads = record { nil = λ k w h. h; join = λ u v f g k w h. ap (is_expr k) (append_assoc u v w) ∙ f k (v ++ w) (g k w h) }

to_inner : {A : Type 0} (S : Phrase Token A) → Each Passes S → Each Inner S
to_inner S f n a u s k w = f n a u s (suc k) w

pub to_leads : {A : Type 0} (S : Phrase Token A) → Each Passes S → Each Leads S
to_leads S f n a u s k w h = f n a u s k w ∙ h

passing : (t : Token) → act t.what ≡ through → Passes (t ∷ [])
passing t e k w = ap (λ a. told a k (heads (is_symbol sy.Eq) w) (λ j. is_expr j w)) e

passes_symbol : (s : Sym) → act_symbol s ≡ through → Each Passes (Symbol s)
passes_symbol s h = each_one Passes closed_passes (IsSymbol s) (λ t a e. passing t (ap act e ∙ h))

inner_comma : Each Inner (Symbol sy.Comma)
inner_comma = each_one Inner closed_inner (IsSymbol sy.Comma) (λ t a e k w. ap (λ z. told (act z) (suc k) (heads (is_symbol sy.Eq) w) (λ j. is_expr j w)) e)

passes_name : Each Passes Name
passes_name = each_made word_of (Numbered (One IsName)) (each_numbered (One IsName) (each_one Passes closed_passes IsName (λ t x h. passing t (ap act h.0 ∙ ap act_word (is_none x h.1)))))

constant_through : (v : Value) (t : Token) → IsConstant t v → act t.what ≡ through
constant_through (value.Int n) t h = ap act h
constant_through (value.Text text) t h = ap act h
constant_through (value.Bool true) t h = ap act h
constant_through (value.Bool false) t h = ap act h
constant_through _ t h = absurd h

passes_constant : Each Passes Constant
passes_constant = each_one Passes closed_passes IsConstant (λ t v h. passing t (constant_through v t h))

passes_negative : Each Passes (One IsNegative)
passes_negative = each_one Passes closed_passes IsNegative go
  where
    go : (t : Token) (v : Value) → IsNegative t v → Passes (t ∷ [])
    go t v (inl (n, e, k)) = passing t (ap act e)
    go t v (inr (e, k)) = passing t (ap act e)

-- a label and its sign
word_then_eq : (o : Option Keyword) (k : ℕ) (f : ℕ → Bool) → told (act_word o) k true f ≡ f k
word_then_eq None k f = refl
word_then_eq (Some key.Case) k f = refl
word_then_eq (Some _) k f = refl

passes_field : {A : Type 0} (P : Phrase Token A) → Each Passes P → Each Passes (Then Label (Behind (Symbol sy.Eq) P))
passes_field P f n x ts (u, v, e, (y, ey, (ny, (t, et, ht))), (u2, v2, e2, (c, ec, hc), r)) k w =
    let whole : ts ++ w ≡ t ∷ (c ∷ (v2 ++ w)) = ap (λ z. z ++ w) (e ∙ ap (λ z. z ++ v) et ∙ ap (λ z. t ∷ z) (e2 ∙ ap (λ z. z ++ v2) ec)) in
    let is_eq : is_symbol sy.Eq c ≡ true = is_symbol_of sy.Eq c hc in
    let one : is_expr k (t ∷ (c ∷ (v2 ++ w))) ≡ is_expr k (c ∷ (v2 ++ w)) = ap (λ (z : Tok). told (act z) k (is_symbol sy.Eq c) (λ j. is_expr j (c ∷ (v2 ++ w)))) ht ∙ ap (λ b. told (act_word (keyword_of y.1)) k b (λ j. is_expr j (c ∷ (v2 ++ w)))) is_eq ∙ word_then_eq (keyword_of y.1) k (λ j. is_expr j (c ∷ (v2 ++ w))) in
    let two : is_expr k (c ∷ (v2 ++ w)) ≡ is_expr k (v2 ++ w) = passing c (ap act hc) k (v2 ++ w) in
    ap (is_expr k) whole ∙ one ∙ two ∙ f _ x.1 v2 r k w

passes_simple : Each Passes Simple
passes_simple =
    each_or BindPat (Or AnyPat (Or NegativePat (Or ConstantPat SamePat))) (each_made pattern.Bind (Behind (Symbol sy.Bind) Name) (each_behind Passes closed_passes (Symbol sy.Bind) Name (passes_symbol sy.Bind refl) passes_name))
    (each_or AnyPat (Or NegativePat (Or ConstantPat SamePat)) (each_made (λ _. pattern.Any) (Symbol sy.Any) (passes_symbol sy.Any refl))
    (each_or NegativePat (Or ConstantPat SamePat) (each_made is_of (Numbered (Behind (Symbol sy.Sub) (One IsNegative))) (each_numbered (Behind (Symbol sy.Sub) (One IsNegative)) (each_behind Passes closed_passes (Symbol sy.Sub) (One IsNegative) (passes_symbol sy.Sub refl) passes_negative)))
    (each_or ConstantPat SamePat (each_made is_of (Numbered Constant) (each_numbered Constant passes_constant)) (each_made pattern.Same Name passes_name))))

-- what is passed over inside is passed over with its brackets
bracketed : {A : Type 0} (S : Phrase Token A) → Each Inner S → Each Passes (Behind (Symbol sy.OpenRec) (Before S (Symbol sy.CloseRec)))
bracketed S f n x ts (u, v, e, (t, et, ht), (u2, v2, e2, s, (c, ec, hc))) k w =
    let whole : ts ++ w ≡ t ∷ (u2 ++ (c ∷ w)) = ap (λ z. z ++ w) (e ∙ ap (λ z. z ++ v) et ∙ ap (λ z. t ∷ z) (e2 ∙ ap (λ z. u2 ++ z) ec)) ∙ ap (λ z. t ∷ z) (append_assoc u2 (c ∷ []) w) in
    let one : is_expr k (t ∷ (u2 ++ (c ∷ w))) ≡ is_expr (suc k) (u2 ++ (c ∷ w)) = ap (λ (z : Tok). told (act z) k (heads (is_symbol sy.Eq) (u2 ++ (c ∷ w))) (λ j. is_expr j (u2 ++ (c ∷ w)))) ht in
    let two : is_expr (suc k) (c ∷ w) ≡ is_expr k w = ap (λ (z : Tok). told (act z) (suc k) (heads (is_symbol sy.Eq) w) (λ j. is_expr j w)) hc in
    ap (is_expr k) whole ∙ one ∙ f _ x u2 s k (c ∷ w) ∙ two

passes_pat : (may : Bool) (P : Phrase Token Pattern) → Each Passes P → Each Passes (Pat P may)
passes_pat may P f =
    each_or (Opened may (Made variant_of (PatVariant P))) (Or (Opened may (PatRec P)) Simple) (each_opened may (Made variant_of (PatVariant P)) (each_made variant_of (PatVariant P) (each_behind Passes closed_passes (Symbol sy.Lt) (Before (PatField P) (Symbol sy.Gt)) (passes_symbol sy.Lt refl) (each_before Passes closed_passes (PatField P) (Symbol sy.Gt) (passes_field P f) (passes_symbol sy.Gt refl)))))
    (each_or (Opened may (PatRec P)) Simple (each_opened may (PatRec P) (bracketed (Or (ShapeFields P) (Or (ShapeDots P) (Nothing (pattern.Rec [] tail.Exact)))) inside)) passes_simple)
  where
    others : Each Inner Others
    others =
        to_inner Others
        (each_behind Passes closed_passes (Symbol sy.Dots) (Optional tail.Open (Made tail.Rest (Behind (Symbol sy.Bind) Name))) (passes_symbol sy.Dots refl)
        (each_or (Made tail.Rest (Behind (Symbol sy.Bind) Name)) (Nothing tail.Open) (each_made tail.Rest (Behind (Symbol sy.Bind) Name) (each_behind Passes closed_passes (Symbol sy.Bind) Name (passes_symbol sy.Bind refl) passes_name)) (each_nothing Passes closed_passes tail.Open)))

    field : Each Inner (PatField P)
    field = to_inner (PatField P) (passes_field P f)

    inside : Each Inner (Or (ShapeFields P) (Or (ShapeDots P) (Nothing (pattern.Rec [] tail.Exact))))
    inside =
        each_or (ShapeFields P) (Or (ShapeDots P) (Nothing (pattern.Rec [] tail.Exact))) (each_made shape_of (Then (PatField P) (Tailed (Symbol sy.Comma) (PatField P) Others)) (each_then Inner closed_inner (PatField P) (Tailed (Symbol sy.Comma) (PatField P) Others) field (each_tailed Inner closed_inner (Symbol sy.Comma) (PatField P) Others inner_comma field others)))
        (each_or (ShapeDots P) (Nothing (pattern.Rec [] tail.Exact)) (each_made (pattern.Rec []) Others others) (each_nothing Inner closed_inner (pattern.Rec [] tail.Exact)))

pub nothing_there : {A : Type 0} (P : List Token → Type 0) → Each {A = A} P Never
nothing_there P n a u s = absurd s

pub passes_reads_pat : (n : ℕ) → Each Passes (ReadsPat n)
passes_reads_pat zero = passes_pat false Never (nothing_there Passes)
passes_reads_pat (suc n) = passes_pat true (ReadsPat n) (passes_reads_pat n)

-- ---- expressions

leads_yes : {A : Type 0} (s : Sym) (R : Phrase Token A) → act_symbol s ≡ yes → Each Leads (Behind (Symbol s) R)
leads_yes s R h n x ts (u, v, e, (t, et, ht), r) k w i =
    let whole : ts ++ w ≡ t ∷ (v ++ w) = ap (λ z. z ++ w) (e ∙ ap (λ z. z ++ v) et) in
    ap (is_expr k) whole ∙ ap (λ a. told a k (heads (is_symbol sy.Eq) (v ++ w)) (λ j. is_expr j (v ++ w))) (ap act ht ∙ h)

word_leads : (o : Option Keyword) (k : ℕ) (b : Bool) (f : ℕ → Bool) → f k ≡ true → told (act_word o) k b f ≡ true
word_leads None k b f h = h
word_leads (Some key.Case) k true f h = h
word_leads (Some key.Case) k false f h = refl
word_leads (Some _) k b f h = h

word_token : (t : Token) (x : List ℕ) → t.what ≡ tok.Word x → Leads (t ∷ [])
word_token t x e k w h = ap (λ (z : Tok). told (act z) k (heads (is_symbol sy.Eq) w) (λ j. is_expr j w)) e ∙ word_leads (keyword_of x) k (heads (is_symbol sy.Eq) w) (λ j. is_expr j w) h

leads_label : Each Leads Label
leads_label = each_made word_of (Numbered (One IsLabel)) (each_numbered (One IsLabel) (each_one Leads closed_leads IsLabel (λ t x h. word_token t x h)))

leads_key : (k : Keyword) → Each Leads (Key k)
leads_key k = each_one Leads closed_leads (IsKey k) (λ t x h. word_token t (spelling k) h)

leads_symbol : (s : Sym) → act_symbol s ≡ through → Each Leads (Symbol s)
leads_symbol s h = to_leads (Symbol s) (passes_symbol s h)

leads_comma : Each Leads (Symbol sy.Comma)
leads_comma = each_one Leads closed_leads (IsSymbol sy.Comma) (λ t a e k w h. ap (λ z. told (act z) k (heads (is_symbol sy.Eq) w) (λ j. is_expr j w)) e ∙ go k w h)
  where
    go : (k : ℕ) (w : List Token) → is_expr k w ≡ true → told comma k (heads (is_symbol sy.Eq) w) (λ j. is_expr j w) ≡ true
    go zero w h = refl
    go (suc k) w h = h

leads_bracketed : {A : Type 0} (S : Phrase Token A) → Each Leads S → Each Leads (Behind (Symbol sy.OpenRec) (Before S (Symbol sy.CloseRec)))
leads_bracketed S f n x ts (u, v, e, (t, et, ht), (u2, v2, e2, s, (c, ec, hc))) k w h =
    let whole : ts ++ w ≡ t ∷ (u2 ++ (c ∷ w)) = ap (λ z. z ++ w) (e ∙ ap (λ z. z ++ v) et ∙ ap (λ z. t ∷ z) (e2 ∙ ap (λ z. u2 ++ z) ec)) ∙ ap (λ z. t ∷ z) (append_assoc u2 (c ∷ []) w) in
    let one : is_expr k (t ∷ (u2 ++ (c ∷ w))) ≡ is_expr (suc k) (u2 ++ (c ∷ w)) = ap (λ (z : Tok). told (act z) k (heads (is_symbol sy.Eq) (u2 ++ (c ∷ w))) (λ j. is_expr j (u2 ++ (c ∷ w)))) ht in
    let two : is_expr (suc k) (c ∷ w) ≡ true = ap (λ (z : Tok). told (act z) (suc k) (heads (is_symbol sy.Eq) w) (λ j. is_expr j w)) hc ∙ h in
    ap (is_expr k) whole ∙ one ∙ f _ x u2 s (suc k) (c ∷ w) two

leads_field : (E : Phrase Token Expr) → Each Leads E → Each Leads (Field E)
leads_field E f = each_then Leads closed_leads Label (Behind (Symbol sy.Eq) E) leads_label (each_behind Leads closed_leads (Symbol sy.Eq) E (leads_symbol sy.Eq refl) f)

-- an operator is passed over, or is a word
op_token : (o : Op) (t : Token) → t.what ≡ written o → Leads (t ∷ [])
op_token op.Or t e = word_token t (spelling key.Or) e
op_token op.And t e = word_token t (spelling key.And) e
op_token op.Eq t e = λ k w h. passing t (ap act e) k w ∙ h
op_token op.Ne t e = λ k w h. passing t (ap act e) k w ∙ h
op_token op.Lt t e = λ k w h. passing t (ap act e) k w ∙ h
op_token op.Le t e = λ k w h. passing t (ap act e) k w ∙ h
op_token op.Gt t e = λ k w h. passing t (ap act e) k w ∙ h
op_token op.Ge t e = λ k w h. passing t (ap act e) k w ∙ h
op_token op.Add t e = λ k w h. passing t (ap act e) k w ∙ h
op_token op.Sub t e = λ k w h. passing t (ap act e) k w ∙ h
op_token op.Append t e = λ k w h. passing t (ap act e) k w ∙ h
op_token op.Cat t e = λ k w h. passing t (ap act e) k w ∙ h
op_token op.Mul t e = λ k w h. passing t (ap act e) k w ∙ h

leads_op : (l : Level) → Each Leads (AnOp l)
leads_op l = each_one Leads closed_leads (IsOp l) (λ t o h. op_token o t h.0)

leads_chained : (l : Level) (S : Phrase Token Expr) → Each Leads S → Each Leads (Chained l S)
leads_chained l S f = each_made chain_of (Then S (Many (Then (AnOp l) S))) (each_then Leads closed_leads S (Many (Then (AnOp l) S)) f (each_many Leads closed_leads (Then (AnOp l) S) (each_then Leads closed_leads (AnOp l) S (leads_op l) f)))

module _ (may : Bool) (P : Phrase Token Pattern) (E N U A : Phrase Token Expr) (B : Phrase Token Branch) (fp : Each Leads P) (fe : Each Leads E) (fn : Each Leads N) (fu : Each Leads U) (fa : Each Leads A) (on_e : On (Rattle.kl_parse.specs.Kinds.among whole_kinds) E) where
  leads_case : Each Leads (Case E B)
  leads_case n x ts (y, ey, (u, v, e, (t, et, ht), (v1, v2, e1, (w1, w2, e2, s, o), r))) k w i =
      let text : v ++ w ≡ w1 ++ (w2 ++ (v2 ++ w)) = ap (λ z. z ++ w) (e1 ∙ ap (λ z. z ++ v2) e2) ∙ append_assoc (w1 ++ w2) v2 w ∙ append_assoc w1 w2 (v2 ++ w) in
      let whole : ts ++ w ≡ t ∷ (w1 ++ (w2 ++ (v2 ++ w))) = ap (λ z. z ++ w) (e ∙ ap (λ z. z ++ v) et) ∙ ap (λ z. t ∷ z) text in
      let no_eq : heads (is_symbol sy.Eq) (w1 ++ (w2 ++ (v2 ++ w))) ≡ false = stop whole_kinds (one_symbol sy.Eq) refl (w1 ++ (w2 ++ (v2 ++ w))) (on_e _ y.0 w1 (w2 ++ (v2 ++ w)) s) in
      ap (is_expr k) whole ∙ ap (λ (z : Tok). told (act z) k (heads (is_symbol sy.Eq) (w1 ++ (w2 ++ (v2 ++ w)))) (λ j. is_expr j (w1 ++ (w2 ++ (v2 ++ w))))) ht ∙ ap (λ b. told perhaps k b (λ j. is_expr j (w1 ++ (w2 ++ (v2 ++ w))))) no_eq

  leads_named : Each Leads (Named may E)
  leads_named = each_made name_of (Then Name (Optional None (Opened may (Made Some (Args E))))) (each_then Leads closed_leads Name (Optional None (Opened may (Made Some (Args E)))) (to_leads Name passes_name) (each_or (Opened may (Made Some (Args E))) (Nothing None) (each_opened may (Made Some (Args E)) (each_made Some (Args E) (leads_yes sy.OpenPar (Before (Exprs E) (Symbol sy.ClosePar)) refl))) (each_nothing Leads closed_leads None)))

  leads_rec : Each Leads (Rec E U)
  leads_rec =
      leads_bracketed (Optional (expr.Rec []) (Fields E U))
      (each_or (Fields E U) (Nothing (expr.Rec []))
      (each_made record_of (Then (Field E) (Tailed (Symbol sy.Comma) (Field E) (Behind (Symbol sy.Dots) (Unsigned U))))
      (each_then Leads closed_leads (Field E) (Tailed (Symbol sy.Comma) (Field E) (Behind (Symbol sy.Dots) (Unsigned U))) (leads_field E fe)
      (each_tailed Leads closed_leads (Symbol sy.Comma) (Field E) (Behind (Symbol sy.Dots) (Unsigned U)) leads_comma (leads_field E fe)
      (each_behind Leads closed_leads (Symbol sy.Dots) (Unsigned U) (leads_symbol sy.Dots refl) (λ n a u s. fu n a u s.0)))))
      (each_nothing Leads closed_leads (expr.Rec [])))

  leads_prim : Each Leads (Prim may P E N U A B)
  leads_prim =
      each_or (Made expr.Const Constant) (Prim2 may P E N U A B) (each_made expr.Const Constant (to_leads Constant passes_constant))
      (each_or (Opened may (Group E)) (Prim3 may P E N U A B) (each_opened may (Group E) (leads_yes sy.OpenPar (Before E (Symbol sy.ClosePar)) refl))
      (each_or (Opened may (Rec E U)) (Prim4 may P E N U A B) (each_opened may (Rec E U) leads_rec)
      (each_or (Opened may (Inject A)) (Prim5 may P E N U A B) (each_opened may (Inject A) (each_made inject_of (Behind (Symbol sy.Lt) (Before (Field A) (Symbol sy.Gt))) (each_behind Leads closed_leads (Symbol sy.Lt) (Before (Field A) (Symbol sy.Gt)) (leads_symbol sy.Lt refl) (each_before Leads closed_leads (Field A) (Symbol sy.Gt) (leads_field A fa) (leads_symbol sy.Gt refl)))))
      (each_or (Opened may (Coll P E kind.Set)) (Prim6 may P E N U A B) (each_opened may (Coll P E kind.Set) (leads_yes sy.OpenSet (Before (Inside P E kind.Set) (Symbol sy.CloseSet)) refl))
      (each_or (Opened may (Coll P E kind.Bag)) (Prim7 may P E N U A B) (each_opened may (Coll P E kind.Bag) (leads_yes sy.OpenBag (Before (Inside P E kind.Bag) (Symbol sy.CloseBag)) refl))
      (each_or (Opened may (Coll P E kind.List)) (Prim8 may P E N U A B) (each_opened may (Coll P E kind.List) (leads_yes sy.OpenList (Before (Inside P E kind.List) (Symbol sy.CloseList)) refl))
      (each_or (Opened may (Case E B)) (Named may E) (each_opened may (Case E B) leads_case) leads_named)))))))

  leads_post : Each Leads (Post may P E N U A B)
  leads_post = each_made path_of (Then (Prim may P E N U A B) (Many (Behind (Symbol sy.Dot) Label))) (each_then Leads closed_leads (Prim may P E N U A B) (Many (Behind (Symbol sy.Dot) Label)) leads_prim (each_many Leads closed_leads (Behind (Symbol sy.Dot) Label) (each_behind Leads closed_leads (Symbol sy.Dot) Label (leads_symbol sy.Dot refl) leads_label)))

  leads_least : Each Leads (One IsLeast)
  leads_least = each_one Leads closed_leads IsLeast (λ t v h k w i. passing t (ap act h.0) k w ∙ i)

  leads_un : Each Leads (Un may P E N U A B)
  leads_un =
      each_or Least (Minus may P E N U A B) (each_made expr.Const (Behind (Symbol sy.Sub) (One IsLeast)) (each_behind Leads closed_leads (Symbol sy.Sub) (One IsLeast) (leads_symbol sy.Sub refl) leads_least))
      (each_or (Opened may (Made expr.Neg (Behind (Symbol sy.Sub) U))) (Post may P E N U A B) (each_opened may (Made expr.Neg (Behind (Symbol sy.Sub) U)) (each_made expr.Neg (Behind (Symbol sy.Sub) U) (each_behind Leads closed_leads (Symbol sy.Sub) U (leads_symbol sy.Sub refl) fu))) leads_post)

  leads_mul : Each Leads (Mul may P E N U A B)
  leads_mul = leads_chained level.Mul (Un may P E N U A B) leads_un

  leads_add : Each Leads (Add may P E N U A B)
  leads_add = leads_chained level.Add (Mul may P E N U A B) leads_mul

  leads_compare : Each Leads (Compare may P E N U A B)
  leads_compare = each_made compare_of (Then (Add may P E N U A B) (Second may P E N U A B)) (each_then Leads closed_leads (Add may P E N U A B) (Second may P E N U A B) leads_add (each_or (Made Some (Then (AnOp level.Compare) (Add may P E N U A B))) (Nothing None) (each_made Some (Then (AnOp level.Compare) (Add may P E N U A B)) (each_then Leads closed_leads (AnOp level.Compare) (Add may P E N U A B) (leads_op level.Compare) leads_add)) (each_nothing Leads closed_leads None)))

  leads_not : Each Leads (Not may P E N U A B)
  leads_not = each_or (Opened may (Made expr.Not (Behind (Key key.Not) N))) (Compare may P E N U A B) (each_opened may (Made expr.Not (Behind (Key key.Not) N)) (each_made expr.Not (Behind (Key key.Not) N) (each_behind Leads closed_leads (Key key.Not) N (leads_key key.Not) fn))) leads_compare

  leads_and : Each Leads (And may P E N U A B)
  leads_and = leads_chained level.And (Not may P E N U A B) leads_not

  leads_ors : Each Leads (Ors may P E N U A B)
  leads_ors = leads_chained level.Or (And may P E N U A B) leads_and

  leads_if : Each Leads (If E)
  leads_if = each_made if_of (Behind (Key key.If) (InIf E)) (each_behind Leads closed_leads (Key key.If) (InIf E) (leads_key key.If) (each_then Leads closed_leads (Before E (Key key.Then)) (Then (Before E (Key key.Else)) E) (each_before Leads closed_leads E (Key key.Then) fe (leads_key key.Then)) (each_then Leads closed_leads (Before E (Key key.Else)) E (each_before Leads closed_leads E (Key key.Else) fe (leads_key key.Else)) fe)))

  leads_let : Each Leads (Let P E)
  leads_let = each_made let_of (Behind (Key key.Let) (InLet P E)) (each_behind Leads closed_leads (Key key.Let) (InLet P E) (leads_key key.Let) (each_then Leads closed_leads (Before P (Symbol sy.Equals)) (Then (Before E (Key key.In)) E) (each_before Leads closed_leads P (Symbol sy.Equals) fp (leads_symbol sy.Equals refl)) (each_then Leads closed_leads (Before E (Key key.In)) E (each_before Leads closed_leads E (Key key.In) fe (leads_key key.In)) fe)))

  leads_whole : Each Leads (Whole may P E N U A B)
  leads_whole = each_or (Opened may (Let P E)) (Iffy may P E N U A B) (each_opened may (Let P E) leads_let) (each_or (Opened may (If E)) (Ors may P E N U A B) (each_opened may (If E) leads_if) leads_ors)

  pub leads_sort : (s : Sort) → Each Leads (of_sort s may P E N U A B)
  leads_sort whole = leads_whole
  leads_sort negated = leads_not
  leads_sort signed = leads_un
  leads_sort added = leads_add

-- ---- apart

-- a pattern before a sign, and an expression before what follows it, are no two fronts of one text
pub never_both : (S : Phrase Token Pattern) (R : Phrase Token Expr) → Each Passes S → Each Leads R → (n m : ℕ) (a : Pattern) (b : Expr) (ts y r x s : List Token) (t : Token) → act t.what ≡ nay → S n a y → ts ≡ (y ++ t ∷ []) ++ r → R m b x → ts ≡ x ++ s → is_expr 0 s ≡ true → ⊥
never_both S R f g n m a b ts y r x s t at h e k i end =
    let one : is_expr 0 ts ≡ false = ap (is_expr 0) (e ∙ append_assoc y (t ∷ []) r) ∙ f n a y h 0 (t ∷ r) ∙ ap (λ z. told z 0 (heads (is_symbol sy.Eq) r) (λ j. is_expr j r)) at in
    let two : is_expr 0 ts ≡ true = ap (is_expr 0) i ∙ g m b x k 0 s end in
    let z : false ≡ true = sym one ∙ two in cc

pub ends_qual : (s : List Token) → heads (Rattle.kl_parse.specs.Kinds.among Rattle.kl_parse.specs.Descent.after_qual) s ≡ true → is_expr 0 s ≡ true
ends_qual [] h = absurd cc
ends_qual (t ∷ s) h = among_symbols (λ w. told (act w) 0 (heads (is_symbol sy.Eq) s) (λ j. is_expr j s) ≡ true) (sy.Comma ∷ sy.CloseSet ∷ sy.CloseBag ∷ sy.CloseList ∷ []) t.what (refl, (refl, (refl, (refl, tt)))) h

pub ends_body : (s : List Token) → heads (is_symbol sy.Semi) s ≡ true → is_expr 0 s ≡ true
ends_body [] h = absurd cc
ends_body (t ∷ s) h = among_symbols (λ w. told (act w) 0 (heads (is_symbol sy.Eq) s) (λ j. is_expr j s) ≡ true) (sy.Semi ∷ []) t.what (refl, tt) h

pub draws : (t : Token) → IsSymbol sy.Draw t tt → act t.what ≡ nay
draws t e = ap act e

pub arrows : (t : Token) → IsSymbol sy.Arrow t tt → act t.what ≡ nay
arrows t e = ap act e
