-- The flat descent of types: as the descent, but each failure is a plain one, so it reads no type that nests deeper.
use Rattle.std.proofs.Common.{◌≡◌, ℕ, zero, suc, Bool, true, false, IsTrue, [], length, refl, subst, sym}
use Rattle.kl_lex.specs.declared.token.Sym.{Sym}
use Rattle.kl_lex.specs.declared.token.Sym.TheVariants as sy
use Rattle.kl_lex.specs.declared.token.Tok.{Tok}
use Rattle.kl_lex.specs.declared.token.Tok.TheVariants as tok
use Rattle.kl_lex.specs.declared.token.Placed.{Placed}
use Rattle.kl_value.specs.declared.Kind.{Kind}
use Rattle.kl_value.specs.declared.Kind.TheVariants as kind
use Rattle.kl_phrase.specs.Words.{Phrase, Never}
use Rattle.kl_phrase.specs.Readers.{Reader, one, pick}
use Rattle.kl_phrase.proofs.Theory.{Good, Has, good_one, good_pick, no}
use Rattle.kl_phrase.proofs.Firsts.{Within, on_opened, off_on}
use Rattle.kl_type.specs.declared.ground.Ty.{Ty}
use Rattle.kl_type.specs.declared.ground.Ty.TheVariants as ty
use Rattle.kl_lex.specs.Brackets.{opener, closer}
use Rattle.kl_type.specs.Grammar.{put, Coll, Rec, Var, AType, Reads}
use Rattle.kl_type.specs.Texts.{is_bracket, is_bracket_at}
use Rattle.kl_type.specs.Descent as d
use Rattle.kl_type.specs.Descent.{is_symbol, is_word, a_symbol, a_base, a_label}
use Rattle.kl_type.proofs.TokenLemmas.{symbol_of, word_no_symbol, decides_base, on_base}
use Rattle.kl_type.proofs.FieldGoods.{Free, FieldList}
use Rattle.kl_phrase.proofs.FirstPlaces.{Flattens, Firstly, stays, good_stays, flat_one, flat_nothing, flat_chain, flat_made, flat_both, flat_behind, flat_before, flat_pick, flat_opening}
use Rattle.kl_type.proofs.Goods.{on_coll, on_rec, on_var, off_variant, off_record, off_list, off_bag, good_coll, good_rec, good_var, has_reads}

abbrev flat_type : Reader Placed Ty → Bool → Reader Placed Ty
flat_type e may = pick (is_symbol sy.OpenSet) (stays may (d.coll e kind.Set)) (pick (is_symbol sy.OpenBag) (stays may (d.coll e kind.Bag)) (pick (is_symbol sy.OpenList) (stays may (d.coll e kind.List)) (pick (is_symbol sy.OpenRec) (stays may (d.rec e)) (pick (is_symbol sy.Lt) (stays may (d.var e)) (one a_base)))))

pub flat_reads : ℕ → Reader Placed Ty
flat_reads zero = flat_type d.never false
flat_reads (suc n) = flat_type (flat_reads n) true

-- ---- it answers the same

brackets : (s : Sym) → is_bracket_at (tok.Sym s) ≡ true → Within (is_symbol s) is_bracket
brackets s b t h = subst (λ (z : Tok). is_bracket_at z ≡ true) (sym (symbol_of s t h)) b

module _ (e e' : Reader Placed Ty) (h : Flattens is_bracket e e') where
  flat_mark : (s : Sym) → Flattens is_bracket (d.mark s) (d.mark s)
  flat_mark s = flat_one (a_symbol s)

  flat_field : (fields : FieldList) → Flattens is_bracket (d.field e fields) (d.field e' fields)
  flat_field fields = flat_both (flat_one (a_label fields)) (flat_behind (flat_mark sy.Colon) h)

  flat_more : (k : ℕ) (fields : FieldList) → Flattens is_bracket (d.more e k fields) (d.more e' k fields)
  flat_more zero fields = record { flat = λ ts. refl }
  flat_more (suc k) fields = flat_pick (flat_chain (flat_behind (flat_mark sy.Comma) (flat_field fields)) (λ f. flat_more k (put fields f))) (flat_nothing fields)

  flat_others : (fields : FieldList) → Flattens is_bracket (d.others e fields) (d.others e' fields)
  flat_others fields = record { flat = λ ts. (flat_more (suc (length ts)) fields).flat ts }

  flat_fields : Flattens is_bracket (d.fields e) (d.fields e')
  flat_fields = flat_chain (flat_field []) (λ f. flat_others (put [] f))

  flat_coll : (k : Kind) → Flattens is_bracket (d.coll e k) (d.coll e' k)
  flat_coll k = flat_made (ty.Coll k) (flat_behind (flat_mark (opener k)) (flat_before h (flat_mark (closer k))))

  flat_rec : Flattens is_bracket (d.rec e) (d.rec e')
  flat_rec = flat_made ty.Rec (flat_behind (flat_mark sy.OpenRec) (flat_before (flat_pick flat_fields (flat_nothing [])) (flat_mark sy.CloseRec)))

  flat_var : Flattens is_bracket (d.var e) (d.var e')
  flat_var = flat_made ty.Var (flat_behind (flat_mark sy.Lt) (flat_before flat_fields (flat_mark sy.Gt)))

flat_a_type : (e e' : Reader Placed Ty) (may : Bool) → (IsTrue may → Flattens is_bracket e e') → Flattens is_bracket (d.a_type e may) (flat_type e' may)
unfolding d.a_type
flat_a_type e e' may h =
    flat_opening (brackets sy.OpenSet refl) (λ i. flat_coll e e' (h i) kind.Set)
    (flat_opening (brackets sy.OpenBag refl) (λ i. flat_coll e e' (h i) kind.Bag)
    (flat_opening (brackets sy.OpenList refl) (λ i. flat_coll e e' (h i) kind.List)
    (flat_opening (brackets sy.OpenRec refl) (λ i. flat_rec e e' (h i))
    (flat_opening (brackets sy.Lt refl) (λ i. flat_var e e' (h i)) (flat_one a_base)))))

pub flattens : (n : ℕ) → Flattens is_bracket (d.reads n) (flat_reads n)
unfolding d.reads flat_reads
flattens zero = flat_a_type d.never d.never false no
flattens (suc n) = flat_a_type (d.reads n) (flat_reads n) true (λ i. flattens n)

-- ---- it reads its phrase

good_flat_type : (N : ℕ) (may : Bool) (E : Phrase Placed Ty) (e : Reader Placed Ty) → (IsTrue may → Good N E E Free e) → (IsTrue may → Has E) → Good N (AType E may) (AType E may) Free (flat_type e may)
good_flat_type N may E e good has =
    good_pick (good_stays may (λ i. good_coll N E E e (good i) (has i) kind.Set))
    (good_pick (good_stays may (λ i. good_coll N E E e (good i) (has i) kind.Bag))
    (good_pick (good_stays may (λ i. good_coll N E E e (good i) (has i) kind.List))
    (good_pick (good_stays may (λ i. good_rec N E E e (good i) (has i)))
    (good_pick (good_stays may (λ i. good_var N E E e (good i) (has i))) (good_one decides_base)
    (on_opened (is_symbol sy.Lt) may (Var E) (on_var E)) (off_on Free (word_no_symbol sy.Lt) on_base))
    (on_opened (is_symbol sy.OpenRec) may (Rec E) (on_rec E)) (off_variant may E sy.OpenRec refl))
    (on_opened (is_symbol sy.OpenList) may (Coll E kind.List) (on_coll E kind.List)) (off_record may E sy.OpenList refl refl))
    (on_opened (is_symbol sy.OpenBag) may (Coll E kind.Bag) (on_coll E kind.Bag)) (off_list may E sy.OpenBag refl refl refl))
    (on_opened (is_symbol sy.OpenSet) may (Coll E kind.Set) (on_coll E kind.Set)) (off_bag may E sy.OpenSet refl refl refl refl)

pub good_flat : (N n : ℕ) → Good N (Reads n) (Reads n) Free (flat_reads n)
unfolding flat_reads
good_flat N zero = good_flat_type N false Never d.never no no
good_flat N (suc n) = good_flat_type N true (Reads n) (flat_reads n) (λ i. good_flat N n) (λ i. has_reads n)

pub firstly : Firstly Reads Free is_bracket (λ N n. d.reads n) (λ N n. flat_reads n)
firstly = record { good = good_flat; flat = λ N n. flattens n }
