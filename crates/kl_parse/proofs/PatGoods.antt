-- The readers of patterns read the patterns. P: those inside brackets; W: where what begins one of them has its whole texts.
use Rattle.std.proofs.Common.{◌≡◌, ℕ, zero, suc, Bool, true, false, IsTrue, List, [], ◌++◌, refl}
use Rattle.kl_lex.specs.declared.token.Sym.{Sym}
use Rattle.kl_lex.specs.declared.token.Sym.TheVariants as sy
use Rattle.kl_lex.specs.declared.token.Token.{Token}
use Rattle.kl_lex.specs.declared.keyword.Keyword.{Keyword}
use Rattle.kl_syntax.specs.declared.tree.Pattern.{Pattern}
use Rattle.kl_syntax.specs.declared.tree.Pattern.TheVariants as pattern
use Rattle.kl_syntax.specs.declared.tree.Tail.TheVariants as tail
use Rattle.kl_parse.specs.Lexemes.{Symbol, Key, IsLabel, IsName, Constant, IsNegative, word_of, Label, Name}
use Rattle.kl_parse.specs.Grammar.{is_of, variant_of, shape_of, BindPat, AnyPat, NegativePat, ConstantPat, SamePat, Simple, PatField, Others, ShapeFields, ShapeDots, PatRec, PatVariant, Pat, ReadsPat}
use Rattle.kl_parse.specs.Kinds.{has, among, is_symbol, one_symbol, name_kinds, label_kinds, constant_kinds}
use Rattle.kl_parse.specs.Descent as d
use Rattle.kl_parse.proofs.KindLemmas.{all_of, none_of, within, without, decides_symbol, decides_key, decides_label, decides_name, decides_constant, decides_negative, on_symbol, on_label, on_name, on_constant, has_symbol, has_label, has_name, has_negative}
use Rattle.kl_phrase.specs.Words.{Phrase, One, Nothing, Numbered, Then, Behind, Before, Made, Or, Optional, Opened, Never, Tailed}
use Rattle.kl_phrase.specs.Readers.{Reader, bad, made, both, behind, before}
use Rattle.kl_phrase.proofs.Theory.{Good, On, Off, Has, good_one, good_nothing, good_numbered, good_made, good_both, good_behind, good_before, good_pick, good_follow, on_behind, has_behind, no}
use Rattle.kl_phrase.proofs.Firsts.{Stops, Heads, on_or, on_made, on_then, on_numbered, on_opened, on_within, off_on, off_or, off_nothing, meets_on, heads_without, has_made, has_then, has_before, has_left, has_right, has_nothing}
use Rattle.kl_phrase.proofs.Deciding.{good_opening_by}
use Rattle.kl_phrase.proofs.Tails.{good_tailed, has_tailed}

abbrev pub Free : List Token → Type 0
Free v = Unit {0}

-- ---- one token

pub good_symbol : {N : ℕ} (s : Sym) (C : List Token → Type 0) → Good N (Symbol s) (Symbol s) C (d.mark s)
good_symbol s C = good_one (decides_symbol s)

pub good_key : {N : ℕ} (k : Keyword) (C : List Token → Type 0) → Good N (Key k) (Key k) C (d.word_mark k)
good_key k C = good_one (decides_key k)

pub good_label : {N : ℕ} {C : List Token → Type 0} → Good N Label Label C (d.label N)
good_label = good_made (good_numbered (good_one decides_label))

pub good_name : {N : ℕ} {C : List Token → Type 0} → Good N Name Name C (d.name N)
good_name = good_made (good_numbered (good_one decides_name))

pub starts_label : On (among label_kinds) Label
starts_label = on_made (among label_kinds) word_of (Numbered (One IsLabel)) (on_numbered (among label_kinds) (One IsLabel) on_label)

pub starts_name : On (among name_kinds) Name
starts_name = on_made (among name_kinds) word_of (Numbered (One IsName)) (on_numbered (among name_kinds) (One IsName) on_name)

-- ---- alternatives

pub alt : {A : Type 0} (S R : Phrase Token A) (a b c : List ℕ) → all_of a c ≡ true → all_of b c ≡ true → On (among a) S → On (among b) R → On (among c) (Or S R)
alt S R a b c h k f g = on_or (among c) S R (on_within S (within a c h) f) (on_within R (within b c k) g)

-- none of the one begins as the other does
pub off : {A : Type 0} (S : Phrase Token A) (a b : List ℕ) (C : List Token → Type 0) → none_of a b ≡ true → On (among a) S → Off (among b) S C
off S a b C h on = off_on C (without a b h) on

-- what follows, where it is such a token, does not go on
pub stop : (a b : List ℕ) → none_of a b ≡ true → (v : List Token) → Heads (among a) v → Stops (among b) v
stop a b h = heads_without (without a b h)

pub closes : {N : ℕ} {A : Type 0} (s : Sym) {S V : Phrase Token A} {C : List Token → Type 0} {p : Reader Token A} → Good N S V C p → ((v : List Token) → Heads (is_symbol s) v → C v) → Good N (Before S (Symbol s)) (Before V (Symbol s)) Free (before p (d.mark s))
closes s gp next = good_before gp (good_symbol s Free) (has_symbol s) (meets_on Free next (on_symbol s))

-- behind a symbol
pub past : {N : ℕ} {A : Type 0} (s : Sym) {S V : Phrase Token A} {C : List Token → Type 0} {p : Reader Token A} → Good N S V C p → Has V → Good N (Behind (Symbol s) S) (Behind (Symbol s) V) C (behind (d.mark s) p)
past s gp has = good_behind (good_symbol s Free) gp has (λ n b y v r h. tt)

pub past_key : {N : ℕ} {A : Type 0} (k : Keyword) {S V : Phrase Token A} {C : List Token → Type 0} {p : Reader Token A} → Good N S V C p → Has V → Good N (Behind (Key k) S) (Behind (Key k) V) C (behind (d.word_mark k) p)
past_key k gp has = good_behind (good_key k Free) gp has (λ n b y v r h. tt)

-- ---- patterns without others inside

on_bind : On (is_symbol sy.Bind) BindPat
on_bind = on_made (is_symbol sy.Bind) pattern.Bind (Behind (Symbol sy.Bind) Name) (on_behind (is_symbol sy.Bind) (Symbol sy.Bind) Name (on_symbol sy.Bind))

on_any : On (is_symbol sy.Any) AnyPat
on_any = on_made (is_symbol sy.Any) (λ _. pattern.Any) (Symbol sy.Any) (on_symbol sy.Any)

on_negative : On (is_symbol sy.Sub) NegativePat
on_negative = on_made (is_symbol sy.Sub) is_of (Numbered (Behind (Symbol sy.Sub) (One IsNegative))) (on_numbered (is_symbol sy.Sub) (Behind (Symbol sy.Sub) (One IsNegative)) (on_behind (is_symbol sy.Sub) (Symbol sy.Sub) (One IsNegative) (on_symbol sy.Sub)))

on_const : On (among constant_kinds) ConstantPat
on_const = on_made (among constant_kinds) is_of (Numbered Constant) (on_numbered (among constant_kinds) Constant on_constant)

on_same : On (among name_kinds) SamePat
on_same = on_made (among name_kinds) pattern.Same Name starts_name

abbrev kinds1 : List ℕ
kinds1 = constant_kinds ++ name_kinds

abbrev kinds2 : List ℕ
kinds2 = one_symbol sy.Sub ++ kinds1

abbrev kinds3 : List ℕ
kinds3 = one_symbol sy.Any ++ kinds2

abbrev simple_kinds : List ℕ
simple_kinds = one_symbol sy.Bind ++ kinds3

on1 : On (among kinds1) (Or ConstantPat SamePat)
on1 = alt ConstantPat SamePat constant_kinds name_kinds kinds1 refl refl on_const on_same

on2 : On (among kinds2) (Or NegativePat (Or ConstantPat SamePat))
on2 = alt NegativePat (Or ConstantPat SamePat) (one_symbol sy.Sub) kinds1 kinds2 refl refl on_negative on1

on3 : On (among kinds3) (Or AnyPat (Or NegativePat (Or ConstantPat SamePat)))
on3 = alt AnyPat (Or NegativePat (Or ConstantPat SamePat)) (one_symbol sy.Any) kinds2 kinds3 refl refl on_any on2

on_simple : On (among simple_kinds) Simple
on_simple = alt BindPat (Or AnyPat (Or NegativePat (Or ConstantPat SamePat))) (one_symbol sy.Bind) kinds3 simple_kinds refl refl on_bind on3

good_simple : {N : ℕ} → Good N Simple Simple Free (d.simple N)
unfolding d.simple
good_simple =
    good_pick (good_made (past sy.Bind good_name has_name))
    (good_pick (good_made (good_symbol sy.Any Free))
    (good_pick (good_made (good_numbered (past sy.Sub (good_one decides_negative) has_negative)))
    (good_pick (good_made (good_numbered (good_one decides_constant))) (good_made good_name) on_const (off SamePat name_kinds constant_kinds Free refl on_same))
    on_negative (off (Or ConstantPat SamePat) kinds1 (one_symbol sy.Sub) Free refl on1))
    on_any (off (Or NegativePat (Or ConstantPat SamePat)) kinds2 (one_symbol sy.Any) Free refl on2))
    on_bind (off (Or AnyPat (Or NegativePat (Or ConstantPat SamePat))) kinds3 (one_symbol sy.Bind) Free refl on3)

has_simple : Has Simple
has_simple = has_right BindPat (Or AnyPat (Or NegativePat (Or ConstantPat SamePat))) (has_left AnyPat (Or NegativePat (Or ConstantPat SamePat)) (has_made (λ _. pattern.Any) (Symbol sy.Any) (has_symbol sy.Any)))

-- ---- patterns inside brackets

abbrev Shape : Phrase Token Pattern → Phrase Token Pattern
Shape P = Or (ShapeFields P) (Or (ShapeDots P) (Nothing (pattern.Rec [] tail.Exact)))

on_others : On (is_symbol sy.Dots) Others
on_others = on_behind (is_symbol sy.Dots) (Symbol sy.Dots) (Optional tail.Open (Made tail.Rest (Behind (Symbol sy.Bind) Name))) (on_symbol sy.Dots)

good_others : {N : ℕ} → Good N Others Others (Stops (is_symbol sy.Bind)) (d.others N)
good_others =
    past sy.Dots (good_pick (good_made (past sy.Bind good_name has_name)) good_nothing (on_made (is_symbol sy.Bind) tail.Rest (Behind (Symbol sy.Bind) Name) (on_behind (is_symbol sy.Bind) (Symbol sy.Bind) Name (on_symbol sy.Bind))) (off_nothing (is_symbol sy.Bind) tail.Open (Stops (is_symbol sy.Bind)) (λ v h. h)))
    (has_right (Made tail.Rest (Behind (Symbol sy.Bind) Name)) (Nothing tail.Open) (has_nothing tail.Open))

on_pat_field : (P : Phrase Token Pattern) → On (among label_kinds) (PatField P)
on_pat_field P = on_then (among label_kinds) Label (Behind (Symbol sy.Eq) P) starts_label

on_variant : (P : Phrase Token Pattern) → On (is_symbol sy.Lt) (Made variant_of (PatVariant P))
on_variant P = on_made (is_symbol sy.Lt) variant_of (PatVariant P) (on_behind (is_symbol sy.Lt) (Symbol sy.Lt) (Before (PatField P) (Symbol sy.Gt)) (on_symbol sy.Lt))

on_rec : (P : Phrase Token Pattern) → On (is_symbol sy.OpenRec) (PatRec P)
on_rec P = on_behind (is_symbol sy.OpenRec) (Symbol sy.OpenRec) (Before (Shape P) (Symbol sy.CloseRec)) (on_symbol sy.OpenRec)

abbrev bracket_kinds : List ℕ
bracket_kinds = one_symbol sy.OpenRec ++ simple_kinds

on_bracketed : (may : Bool) (P : Phrase Token Pattern) → On (among bracket_kinds) (Or (Opened may (PatRec P)) Simple)
on_bracketed may P = alt (Opened may (PatRec P)) Simple (one_symbol sy.OpenRec) simple_kinds bracket_kinds refl refl (on_opened (is_symbol sy.OpenRec) may (PatRec P) (on_rec P)) on_simple

module _ (N : ℕ) (P W : Phrase Token Pattern) (p : Reader Token Pattern) (good : Good N P W Free p) (has_in : Has W) where
  pub good_pat_field : Good N (PatField P) (PatField W) Free (d.pat_field N p)
  good_pat_field = good_both {C = Free} good_label (past sy.Eq good has_in) (has_behind (Symbol sy.Eq) W (has_symbol sy.Eq) has_in) (λ n b y v r h. tt)

  pub has_pat_field : Has (PatField W)
  has_pat_field = has_then Label (Behind (Symbol sy.Eq) W) has_label (has_behind (Symbol sy.Eq) W (has_symbol sy.Eq) has_in)

  good_shape_fields : Good N (ShapeFields P) (ShapeFields W) (Heads (is_symbol sy.CloseRec)) (made shape_of (both (d.pat_field N p) (d.pat_fields N p)))
  good_shape_fields = good_made (good_both {C = Free} good_pat_field (good_tailed (is_symbol sy.Comma) (is_symbol sy.Dots) (good_symbol sy.Comma Free) (good_follow (Stops (is_symbol sy.Bind)) (λ v h. tt) good_pat_field) good_others (on_symbol sy.Comma) on_others (off (PatField P) label_kinds (one_symbol sy.Dots) (Stops (is_symbol sy.Bind)) refl (on_pat_field P)) has_pat_field
      (stop (one_symbol sy.Comma) (one_symbol sy.Bind) refl) (λ v h. (stop (one_symbol sy.CloseRec) (one_symbol sy.Bind) refl v h, stop (one_symbol sy.CloseRec) (one_symbol sy.Comma) refl v h)))
      (has_tailed (Symbol sy.Comma) (PatField W) Others) (λ n b y v r h. tt))

  on_shape_fields : On (among label_kinds) (ShapeFields P)
  on_shape_fields = on_made (among label_kinds) shape_of (Then (PatField P) (Tailed (Symbol sy.Comma) (PatField P) Others)) (on_then (among label_kinds) (PatField P) (Tailed (Symbol sy.Comma) (PatField P) Others) (on_pat_field P))

  on_shape_dots : On (is_symbol sy.Dots) (ShapeDots P)
  on_shape_dots = on_made (is_symbol sy.Dots) (pattern.Rec []) Others on_others

  good_shape : Good N (Shape P) (Shape W) (Heads (is_symbol sy.CloseRec)) (d.shape N p)
  good_shape =
      good_pick good_shape_fields
      (good_pick (good_made (good_follow (Heads (is_symbol sy.CloseRec)) (stop (one_symbol sy.CloseRec) (one_symbol sy.Bind) refl) good_others)) good_nothing on_shape_dots (off_nothing (is_symbol sy.Dots) (pattern.Rec [] tail.Exact) (Heads (is_symbol sy.CloseRec)) (stop (one_symbol sy.CloseRec) (one_symbol sy.Dots) refl)))
      on_shape_fields
      (off_or (among label_kinds) (ShapeDots P) (Nothing (pattern.Rec [] tail.Exact)) (Heads (is_symbol sy.CloseRec)) (off (ShapeDots P) (one_symbol sy.Dots) label_kinds (Heads (is_symbol sy.CloseRec)) refl on_shape_dots) (off_nothing (among label_kinds) (pattern.Rec [] tail.Exact) (Heads (is_symbol sy.CloseRec)) (stop (one_symbol sy.CloseRec) label_kinds refl)))

  good_in_shape : Good N (Before (Shape P) (Symbol sy.CloseRec)) (Before (Shape W) (Symbol sy.CloseRec)) Free (d.in_shape N p)
  good_in_shape = closes sy.CloseRec good_shape (λ v h. h)

  has_shape : Has (Before (Shape W) (Symbol sy.CloseRec))
  has_shape = has_before (Shape W) (Symbol sy.CloseRec) (has_right (ShapeFields W) (Or (ShapeDots W) (Nothing (pattern.Rec [] tail.Exact))) (has_right (ShapeDots W) (Nothing (pattern.Rec [] tail.Exact)) (has_nothing (pattern.Rec [] tail.Exact)))) (has_symbol sy.CloseRec)

  good_rec : Good N (PatRec P) (PatRec W) Free (behind (d.mark sy.OpenRec) (d.in_shape N p))
  good_rec = past sy.OpenRec good_in_shape has_shape

  pub good_variant : Good N (PatVariant P) (PatVariant W) Free (d.pat_variant N p)
  good_variant = past sy.Lt (closes sy.Gt good_pat_field (λ v h. tt)) (has_before (PatField W) (Symbol sy.Gt) has_pat_field (has_symbol sy.Gt))

pub fields_in : (W : Phrase Token Pattern) → Has W → Has (PatField W)
fields_in W has_in = has_then Label (Behind (Symbol sy.Eq) W) has_label (has_behind (Symbol sy.Eq) W (has_symbol sy.Eq) has_in)

pub has_pat : (may : Bool) (P : Phrase Token Pattern) → Has (Pat P may)
has_pat may P = has_right (Opened may (Made variant_of (PatVariant P))) (Or (Opened may (PatRec P)) Simple) (has_right (Opened may (PatRec P)) Simple has_simple)

good_pat : (N : ℕ) (may can : Bool) (P W : Phrase Token Pattern) (p : Reader Token Pattern) → (IsTrue may → IsTrue can) → (IsTrue may → Good N P W Free p) → (IsTrue may → Has W) → Good N (Pat P may) (Pat W can) Free (d.pat N p bad may)
unfolding d.pat
good_pat N may can P W p i good has_in =
    good_opening_by {may = may} {can = can} i (λ z. good_made (good_variant N P W p (good z) (has_in z)))
    (good_opening_by {may = may} {can = can} i (λ z. good_rec N P W p (good z) (has_in z)) good_simple (on_rec P) (off Simple simple_kinds (one_symbol sy.OpenRec) Free refl on_simple))
    (on_variant P) (off (Or (Opened may (PatRec P)) Simple) bracket_kinds (one_symbol sy.Lt) Free refl (on_bracketed may P))

-- ---- nested at most so deep

pub has_reads_pat : (n : ℕ) → Has (ReadsPat n)
has_reads_pat zero = has_pat false Never
has_reads_pat (suc n) = has_pat true (ReadsPat n)

-- what begins a pattern has its whole texts in those nested as deep, and so in those nested two deeper
pub good_pat_same : (N n : ℕ) → Good N (ReadsPat n) (ReadsPat n) Free (d.pat_by N bad n)
unfolding d.pat_by
good_pat_same N zero = good_pat N false false Never Never (d.never bad) (λ i. i) no no
good_pat_same N (suc n) = good_pat N true true (ReadsPat n) (ReadsPat n) (d.pat_by N bad n) (λ i. i) (λ i. good_pat_same N n) (λ i. has_reads_pat n)

pub good_pat_up : (N n : ℕ) → Good N (ReadsPat n) (ReadsPat (suc (suc n))) Free (d.pat_by N bad n)
unfolding d.pat_by
good_pat_up N zero = good_pat N false true Never (ReadsPat 1) (d.never bad) (λ i. refl) no no
good_pat_up N (suc n) = good_pat N true true (ReadsPat n) (ReadsPat (suc (suc n))) (d.pat_by N bad n) (λ i. i) (λ i. good_pat_up N n) (λ i. has_reads_pat (suc (suc n)))
