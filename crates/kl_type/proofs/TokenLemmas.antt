-- The phrases of one token, and what decides them.
use Rattle.std.proofs.Common.{◌≡◌, ℕ, suc, ◌+◌, ◌<◌, Bool, true, false, cond, List, [], ◌∷◌, length, replicate, Option, Some, None, inl, inr, if◌then◌else◌, refl, sym, ap, subst, ◌∙◌, codes, arith}
use Rattle.std.specs.Str.{bytes_eq}
use Rattle.std.proofs.lemmas.Slice.Eq.{bytes_eq-Decides}
use Rattle.std.proofs.lemmas.List.{length-replicate}
use Rattle.kl_base.specs.Fields.{field}
use Rattle.kl_lex.specs.declared.token.Sym.{Sym}
use Rattle.kl_lex.specs.contracts.token.Sym.{the_type}
use Rattle.kl_lex.specs.declared.token.Tok.{Tok}
use Rattle.kl_lex.specs.declared.token.Tok.TheVariants as tok
use Rattle.kl_lex.specs.declared.token.Placed.{Placed}
use Rattle.kl_phrase.specs.Words.{One, heads}
use Rattle.kl_phrase.proofs.Theory.{Good, Decides, On, Has, good_one, only_true}
use Rattle.kl_phrase.proofs.Firsts.{Without, on_one, has_one}
use Rattle.kl_type.specs.declared.ground.Ty.{Ty}
use Rattle.kl_type.specs.declared.ground.Ty.TheVariants as ty
use Rattle.kl_type.specs.Grammar.{IsSymbol, Symbol, IsBase, IsLabel}
use Rattle.kl_type.specs.Descent.{same_symbol, is_symbol_at, is_symbol, a_symbol, is_word_at, is_word, base_of, a_base_at, a_base, unless, a_label_at, a_label, mark, of_word}
use denote.Enum.Bare.{same_true, true_same}
use Rattle.kl_phrase.specs.Readers.{one, fail, bad}

-- ---- symbols

symbol_at : (s : Sym) (w : Tok) → is_symbol_at s w ≡ true → w ≡ tok.Sym s
symbol_at s (tok.Sym found) h = ap tok.Sym (same_true the_type tt found s h)
symbol_at s (tok.Word w) h = absurd cc
symbol_at s (tok.Int n) h = absurd cc
symbol_at s tok.Big h = absurd cc
symbol_at s (tok.Text w) h = absurd cc

at_symbol : (s : Sym) (w : Tok) → w ≡ tok.Sym s → is_symbol_at s w ≡ true
at_symbol s w e = subst (λ (z : Tok). is_symbol_at s z ≡ true) (sym e) (true_same the_type s s refl)

pub symbol_of : (s : Sym) (t : Placed) → is_symbol s t ≡ true → IsSymbol s t tt
symbol_of s t h = symbol_at s t.what h

pub decides_symbol : (s : Sym) → Decides (IsSymbol s) (a_symbol s)
decides_symbol s = (λ t x h. symbol_at s t.what (only_true (is_symbol s t) x h), λ t x h. rw (at_symbol s t.what h) refl)

pub good_symbol : {N : ℕ} (s : Sym) (C : List Placed → Type 0) → Good N (Symbol s) (Symbol s) C (mark s)
good_symbol s C = good_one (decides_symbol s)

pub on_symbol : (s : Sym) → On (is_symbol s) (Symbol s)
on_symbol s = on_one (λ t x h. at_symbol s t.what h)

-- two symbols
pub apart : (s r : Sym) → same_symbol s r ≡ false → Without (is_symbol s) (is_symbol r)
apart s r ne t h = subst (λ (z : Tok). is_symbol_at r z ≡ false) (sym (symbol_at s t.what h)) ne

abbrev pub a_token : Tok → Placed
a_token w = record { what = w; from = 0; to = 0 }

pub has_symbol : (s : Sym) → Has (Symbol s)
has_symbol s = has_one (IsSymbol s) (a_token (tok.Sym s)) tt refl

pub word_no_symbol : (s : Sym) → Without is_word (is_symbol s)
word_no_symbol s t h = go t.what h
  where
    go : (w : Tok) → is_word_at w ≡ true → is_symbol_at s w ≡ false
    go (tok.Sym found) h = absurd cc
    go (tok.Word w) h = refl
    go (tok.Int m) h = absurd cc
    go tok.Big h = absurd cc
    go (tok.Text w) h = absurd cc

pub symbol_no_word : (s : Sym) → Without (is_symbol s) is_word
symbol_no_word s t h = subst (λ (z : Tok). is_word_at z ≡ false) (sym (symbol_at s t.what h)) refl

-- ---- words

pub word_is : {A : Type 0} (read : List ℕ → Option A) (w : Tok) (a : A) → of_word read w ≡ Some a → (word : List ℕ) × (w ≡ tok.Word word) × (read word ≡ Some a)
word_is read (tok.Sym found) a h = absurd cc
word_is read (tok.Word word) a h = (word, refl, h)
word_is read (tok.Int n) a h = absurd cc
word_is read tok.Big a h = absurd cc
word_is read (tok.Text w) a h = absurd cc

pub no_word : {A : Type 0} (read : List ℕ → Option A) (ts : List Placed) → heads is_word ts ≡ false → one (λ t. of_word read t.what) ts ≡ fail bad ts
no_word read [] h = refl
no_word {A} read (t ∷ ts) h = rw (at t.what h) refl
  where
    at : (w : Tok) → is_word_at w ≡ false → of_word read w ≡ None
    at (tok.Sym found) h = refl
    at (tok.Word w) h = absurd cc
    at (tok.Int n) h = refl
    at tok.Big h = refl
    at (tok.Text w) h = refl

-- ---- the types without others inside

base_at : (w : List ℕ) (a : Ty) → base_of w ≡ Some a → (t : Placed) → t.what ≡ tok.Word w → IsBase t a
base_at w a h t e = go (bytes_eq w (codes "bool")) (bytes_eq w (codes "int")) (bytes_eq w (codes "string")) refl refl refl h
  where
    go : (b i s : Bool) → bytes_eq w (codes "bool") ≡ b → bytes_eq w (codes "int") ≡ i → bytes_eq w (codes "string") ≡ s → (if b then Some ty.Bool else if i then Some ty.Int else if s then Some ty.Str else None) ≡ Some a → IsBase t a
    go true i s x y z h = let k : a ≡ ty.Bool = cc in inl (e ∙ ap tok.Word ((bytes_eq-Decides w (codes "bool")).0 x), k)
    go false true s x y z h = let k : a ≡ ty.Int = cc in inr (inl (e ∙ ap tok.Word ((bytes_eq-Decides w (codes "int")).0 y), k))
    go false false true x y z h = let k : a ≡ ty.Str = cc in inr (inr (e ∙ ap tok.Word ((bytes_eq-Decides w (codes "string")).0 z), k))
    go false false false x y z h = absurd cc

a_base_is : (t : Placed) (a : Ty) → a_base t ≡ Some a → IsBase t a
a_base_is t a h = let k = word_is base_of t.what a h in base_at k.0 a k.2 t k.1

is_a_base : (t : Placed) (a : Ty) → IsBase t a → a_base t ≡ Some a
is_a_base t a (inl (e, k)) = ap a_base_at e ∙ ap Some (sym k)
is_a_base t a (inr (inl (e, k))) = ap a_base_at e ∙ ap Some (sym k)
is_a_base t a (inr (inr (e, k))) = ap a_base_at e ∙ ap Some (sym k)

pub decides_base : Decides IsBase a_base
decides_base = (λ t a h. a_base_is t a h, λ t a h. is_a_base t a h)

base_word : (t : Placed) (a : Ty) → IsBase t a → is_word t ≡ true
base_word t a (inl (e, k)) = ap is_word_at e
base_word t a (inr (inl (e, k))) = ap is_word_at e
base_word t a (inr (inr (e, k))) = ap is_word_at e

pub on_base : On is_word (One IsBase)
on_base = on_one base_word

pub has_base : Has (One IsBase)
has_base = has_one IsBase (a_token (tok.Word (codes "bool"))) ty.Bool (inl (refl, refl))

-- ---- labels

unless_none : (o : Option Ty) (w x : List ℕ) → unless o w ≡ Some x → (w ≡ x) × (o ≡ None)
unless_none None w x h = let k : w ≡ x = cc in (k, refl)
unless_none (Some t) w x h = absurd cc

label_at : (fields : List (List ℕ × Ty)) (w : Tok) (x : List ℕ) → a_label_at fields w ≡ Some x → (w ≡ tok.Word x) × (field x fields ≡ None)
label_at fields w x h =
    let (v, is, free) = word_is (λ word. unless (field word fields) word) w x h in
    let k = unless_none (field v fields) v x free in
    (is ∙ ap tok.Word k.0, subst (λ (z : List ℕ). field z fields ≡ None) k.0 k.1)

pub decides_label : (fields : List (List ℕ × Ty)) → Decides (IsLabel fields) (a_label fields)
decides_label fields = (λ t x h. label_at fields t.what x h, λ t x h. ap (a_label_at fields) h.0 ∙ ap (λ (o : Option Ty). unless o x) h.1)

pub on_label : (fields : List (List ℕ × Ty)) → On is_word (One (IsLabel fields))
on_label fields = on_one (λ t x h. ap is_word_at h.0)

-- a label that no field has: one longer than all of theirs together
total : List (List ℕ × Ty) → ℕ
total [] = 0
total (f ∷ fields) = length f.0 + total fields

longer : (fields : List (List ℕ × Ty)) (label : List ℕ) → total fields < length label → field label fields ≡ None
unfolding total
longer [] label lt = refl
longer (f ∷ fields) label lt = go (bytes_eq label f.0) refl (longer fields label (omega arith))
  where
    go : (b : Bool) → bytes_eq label f.0 ≡ b → field label fields ≡ None → cond (bytes_eq label f.0) (Some f.1) (field label fields) ≡ None
    go true h others = let k : length label ≡ length f.0 = ap length ((bytes_eq-Decides label f.0).0 h) in absurd (omega arith)
    go false h others = rw h others

pub has_label : (fields : List (List ℕ × Ty)) → Has (One (IsLabel fields))
has_label fields = let label = replicate (suc (total fields)) 97 in has_one (IsLabel fields) (a_token (tok.Word label)) label (refl, longer fields label (omega (arith, length-replicate {A = ℕ} (suc (total fields)) 97)))
