-- Each reader of the descent reads its word of the grammar.
-- E: the types inside brackets; W: where what begins one of them has its whole texts.
use Rattle.std.proofs.Common.{◌≡◌, ℕ, zero, suc, Bool, true, false, IsTrue, [], refl}
use Rattle.kl_lex.specs.declared.token.Sym.{Sym}
use Rattle.kl_lex.specs.declared.token.Sym.TheVariants as sy
use Rattle.kl_lex.specs.declared.token.Placed.{Placed}
use Rattle.kl_value.specs.declared.Kind.{Kind}
use Rattle.kl_value.specs.declared.Kind.TheVariants as kind
use Rattle.kl_phrase.specs.Words.{Phrase, One, Nothing, Behind, Before, Or, Optional, Opened, Never}
use Rattle.kl_phrase.specs.Readers.{Reader, pick, nothing}
use Rattle.kl_phrase.proofs.Theory.{Good, On, Off, Has, Opens, good_one, good_nothing, good_made, good_behind, good_before, good_pick, good_opening, good_follow, on_behind, no}
use Rattle.kl_phrase.proofs.Firsts.{Heads, on_made, off_on, off_or, off_opened, off_nothing, meets_on, heads_without, has_before, has_right, has_nothing, opens_behind, opens_made}
use Rattle.kl_type.specs.declared.ground.Ty.{Ty}
use Rattle.kl_type.specs.declared.ground.Ty.TheVariants as ty
use Rattle.kl_lex.specs.Brackets.{opener, closer}
use Rattle.kl_type.specs.Grammar.{IsSymbol, Symbol, IsBase, Fields, Coll, Rec, Var, AType, Reads}
use Rattle.kl_type.specs.Descent as d
use Rattle.kl_type.specs.Descent.{same_symbol, is_symbol, is_word}
use Rattle.kl_type.proofs.TokenLemmas.{symbol_of, good_symbol, on_symbol, has_symbol, apart, word_no_symbol, symbol_no_word, decides_base, on_base, has_base}
use Rattle.kl_type.proofs.FieldGoods.{Free, FieldList, on_fields, good_fields, has_fields}

-- ---- with which tokens they begin

pub on_coll : (E : Phrase Placed Ty) (k : Kind) → On (is_symbol (opener k)) (Coll E k)
on_coll E k = on_made (is_symbol (opener k)) (ty.Coll k) (Behind (Symbol (opener k)) (Before E (Symbol (closer k)))) (on_behind (is_symbol (opener k)) (Symbol (opener k)) (Before E (Symbol (closer k))) (on_symbol (opener k)))

abbrev InRec : Phrase Placed Ty → Phrase Placed FieldList
InRec E = Before (Optional [] (Fields E)) (Symbol sy.CloseRec)

abbrev InVar : Phrase Placed Ty → Phrase Placed FieldList
InVar E = Before (Fields E) (Symbol sy.Gt)

pub on_rec : (E : Phrase Placed Ty) → On (is_symbol sy.OpenRec) (Rec E)
on_rec E = on_made (is_symbol sy.OpenRec) ty.Rec (Behind (Symbol sy.OpenRec) (InRec E)) (on_behind (is_symbol sy.OpenRec) (Symbol sy.OpenRec) (InRec E) (on_symbol sy.OpenRec))

pub on_var : (E : Phrase Placed Ty) → On (is_symbol sy.Lt) (Var E)
on_var E = on_made (is_symbol sy.Lt) ty.Var (Behind (Symbol sy.Lt) (InVar E)) (on_behind (is_symbol sy.Lt) (Symbol sy.Lt) (InVar E) (on_symbol sy.Lt))

-- what begins with another symbol, or otherwise
off_more : (may : Bool) (s r : Sym) (S R : Phrase Placed Ty) → same_symbol r s ≡ false → On (is_symbol r) S → Off (is_symbol s) R Free → Off (is_symbol s) (Or (Opened may S) R) Free
off_more may s r S R ne on off = off_or (is_symbol s) (Opened may S) R Free (off_opened (is_symbol s) may S Free (off_on Free (apart r s ne) on)) off

-- ---- what stands inside brackets

module _ (W : Phrase Placed Ty) (has_in : Has W) where
  has_in_coll : (k : Kind) → Has (Before W (Symbol (closer k)))
  has_in_coll k = has_before W (Symbol (closer k)) has_in (has_symbol (closer k))

  has_in_rec : Has (InRec W)
  has_in_rec = has_before (Optional [] (Fields W)) (Symbol sy.CloseRec) (has_right (Fields W) (Nothing []) (has_nothing [])) (has_symbol sy.CloseRec)

  has_in_var : Has (InVar W)
  has_in_var = has_before (Fields W) (Symbol sy.Gt) (has_fields W has_in) (has_symbol sy.Gt)

  opens_var : Opens (is_symbol sy.Lt) (Var W)
  opens_var = opens_made (is_symbol sy.Lt) ty.Var (Behind (Symbol sy.Lt) (InVar W)) (opens_behind (is_symbol sy.Lt) (IsSymbol sy.Lt) (InVar W) (symbol_of sy.Lt) has_in_var)

  opens_coll : (k : Kind) → Opens (is_symbol (opener k)) (Coll W k)
  opens_coll k = opens_made (is_symbol (opener k)) (ty.Coll k) (Behind (Symbol (opener k)) (Before W (Symbol (closer k)))) (opens_behind (is_symbol (opener k)) (IsSymbol (opener k)) (Before W (Symbol (closer k))) (symbol_of (opener k)) (has_in_coll k))

  opens_rec : Opens (is_symbol sy.OpenRec) (Rec W)
  opens_rec = opens_made (is_symbol sy.OpenRec) ty.Rec (Behind (Symbol sy.OpenRec) (InRec W)) (opens_behind (is_symbol sy.OpenRec) (IsSymbol sy.OpenRec) (InRec W) (symbol_of sy.OpenRec) has_in_rec)

module _ (N : ℕ) (E W : Phrase Placed Ty) (e : Reader Placed Ty) (good : Good N E W Free e) (has_in : Has W) where
  pub good_coll : (k : Kind) → Good N (Coll E k) (Coll W k) Free (d.coll e k)
  good_coll k = good_made (good_behind (good_symbol (opener k) Free) (good_before good (good_symbol (closer k) Free) (has_symbol (closer k)) (λ n b y v r h. tt)) (has_in_coll W has_in k) (λ n b y v r h. tt))

  good_optional : Good N (Optional [] (Fields E)) (Optional [] (Fields W)) (Heads (is_symbol sy.CloseRec)) (pick is_word (d.fields e) (nothing []))
  good_optional = good_pick (good_follow (Heads (is_symbol sy.CloseRec)) (heads_without (apart sy.CloseRec sy.Comma refl)) (good_fields N E W e good has_in)) good_nothing (on_fields E) (off_nothing is_word [] (Heads (is_symbol sy.CloseRec)) (heads_without (symbol_no_word sy.CloseRec)))

  pub good_rec : Good N (Rec E) (Rec W) Free (d.rec e)
  good_rec = good_made (good_behind (good_symbol sy.OpenRec Free) (good_before good_optional (good_symbol sy.CloseRec Free) (has_symbol sy.CloseRec) (meets_on Free (λ v h. h) (on_symbol sy.CloseRec))) (has_in_rec W has_in) (λ n b y v r h. tt))

  pub good_var : Good N (Var E) (Var W) Free (d.var e)
  good_var = good_made (good_behind (good_symbol sy.Lt Free) (good_before (good_fields N E W e good has_in) (good_symbol sy.Gt Free) (has_symbol sy.Gt) (meets_on Free (heads_without (apart sy.Gt sy.Comma refl)) (on_symbol sy.Gt))) (has_in_var W has_in) (λ n b y v r h. tt))

-- ---- types

abbrev VariantOn : Bool → Phrase Placed Ty → Phrase Placed Ty
VariantOn may E = Or (Opened may (Var E)) (One IsBase)

abbrev RecordOn : Bool → Phrase Placed Ty → Phrase Placed Ty
RecordOn may E = Or (Opened may (Rec E)) (VariantOn may E)

abbrev ListOn : Bool → Phrase Placed Ty → Phrase Placed Ty
ListOn may E = Or (Opened may (Coll E kind.List)) (RecordOn may E)

abbrev BagOn : Bool → Phrase Placed Ty → Phrase Placed Ty
BagOn may E = Or (Opened may (Coll E kind.Bag)) (ListOn may E)

has_a_type : (may : Bool) (E : Phrase Placed Ty) → Has (AType E may)
has_a_type may E = has_right (Opened may (Coll E kind.Set)) (BagOn may E) (has_right (Opened may (Coll E kind.Bag)) (ListOn may E) (has_right (Opened may (Coll E kind.List)) (RecordOn may E) (has_right (Opened may (Rec E)) (VariantOn may E) (has_right (Opened may (Var E)) (One IsBase) has_base))))

module _ (may : Bool) (E : Phrase Placed Ty) where
  pub off_variant : (s : Sym) → same_symbol sy.Lt s ≡ false → Off (is_symbol s) (VariantOn may E) Free
  off_variant s a = off_more may s sy.Lt (Var E) (One IsBase) a (on_var E) (off_on Free (word_no_symbol s) on_base)

  pub off_record : (s : Sym) → same_symbol sy.OpenRec s ≡ false → same_symbol sy.Lt s ≡ false → Off (is_symbol s) (RecordOn may E) Free
  off_record s b a = off_more may s sy.OpenRec (Rec E) (VariantOn may E) b (on_rec E) (off_variant s a)

  pub off_list : (s : Sym) → same_symbol sy.OpenList s ≡ false → same_symbol sy.OpenRec s ≡ false → same_symbol sy.Lt s ≡ false → Off (is_symbol s) (ListOn may E) Free
  off_list s c b a = off_more may s sy.OpenList (Coll E kind.List) (RecordOn may E) c (on_coll E kind.List) (off_record s b a)

  pub off_bag : (s : Sym) → same_symbol sy.OpenBag s ≡ false → same_symbol sy.OpenList s ≡ false → same_symbol sy.OpenRec s ≡ false → same_symbol sy.Lt s ≡ false → Off (is_symbol s) (BagOn may E) Free
  off_bag s g c b a = off_more may s sy.OpenBag (Coll E kind.Bag) (ListOn may E) g (on_coll E kind.Bag) (off_list s c b a)

good_a_type : (N : ℕ) (may : Bool) (E W : Phrase Placed Ty) (e : Reader Placed Ty) → (IsTrue may → Good N E W Free e) → Has W → Good N (AType E may) (AType W true) Free (d.a_type e may)
unfolding d.a_type
good_a_type N may E W e good has_in =
    good_opening (λ i. good_coll N E W e (good i) has_in kind.Set)
    (good_opening (λ i. good_coll N E W e (good i) has_in kind.Bag)
    (good_opening (λ i. good_coll N E W e (good i) has_in kind.List)
    (good_opening (λ i. good_rec N E W e (good i) has_in)
    (good_opening (λ i. good_var N E W e (good i) has_in) (good_one decides_base) (on_var E) (off_on Free (word_no_symbol sy.Lt) on_base) (opens_var W has_in))
    (on_rec E) (off_variant may E sy.OpenRec refl) (opens_rec W has_in))
    (on_coll E kind.List) (off_record may E sy.OpenList refl refl) (opens_coll W has_in kind.List))
    (on_coll E kind.Bag) (off_list may E sy.OpenBag refl refl refl) (opens_coll W has_in kind.Bag))
    (on_coll E kind.Set) (off_bag may E sy.OpenSet refl refl refl refl) (opens_coll W has_in kind.Set)

-- ---- nested at most so deep

pub has_reads : (n : ℕ) → Has (Reads n)
has_reads zero = has_a_type false Never
has_reads (suc n) = has_a_type true (Reads n)

pub good_reads : (N n : ℕ) → Good N (Reads n) (Reads (suc n)) Free (d.reads n)
unfolding d.reads
good_reads N zero = good_a_type N false Never (Reads 0) d.never no (has_reads 0)
good_reads N (suc n) = good_a_type N true (Reads n) (Reads (suc n)) (d.reads n) (λ i. good_reads N n) (has_reads (suc n))
