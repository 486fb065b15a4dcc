-- The phrases of one token, and what decides them.
use Rattle.std.proofs.Common.{◌≡◌, ℕ, Bool, true, false, List, Some, codes, refl, sym, ap, subst, ◌∙◌}
use Rattle.std.proofs.lemmas.Slice.Eq.{bytes_eq-Decides}
use Rattle.kl_lex.specs.declared.token.Tok.{Tok}
use Rattle.kl_lex.specs.declared.token.Tok.TheVariants as tok
use Rattle.kl_phrase.specs.Words.{One}
use Rattle.kl_phrase.proofs.Theory.{Decides, On, Has, only_true}
use Rattle.kl_phrase.proofs.Firsts.{on_one, has_one}
use Rattle.kl_type.proofs.TokenLemmas.{a_token, word_is}
use Rattle.kl_phrase.specs.Readers.{only}
use Rattle.kl_lex.specs.Keywords.{is_keyword}
use Rattle.kl_catalogue.specs.Grammar.{IsSource, IsName, IsTextToken}
use Rattle.kl_catalogue.specs.Descent.{is_source_at, is_source, a_source, unless_keyword, a_name_at, a_name, a_text_at, a_text}

-- ---- "source"

source_at : (w : Tok) → is_source_at w ≡ true → w ≡ tok.Word (codes "source")
source_at (tok.Sym s) h = absurd cc
source_at (tok.Word w) h = ap tok.Word ((bytes_eq-Decides w (codes "source")).0 h)
source_at (tok.Int n) h = absurd cc
source_at tok.Big h = absurd cc
source_at (tok.Text w) h = absurd cc

at_source : (w : Tok) → w ≡ tok.Word (codes "source") → is_source_at w ≡ true
at_source w e = subst (λ (z : Tok). is_source_at z ≡ true) (sym e) refl

pub decides_source : Decides IsSource a_source
decides_source = (λ t x h. source_at t.what (only_true (is_source t) x h), λ t x h. ap only (at_source t.what h))

pub on_source : On is_source (One IsSource)
on_source = on_one (λ t x h. at_source t.what h)

-- ---- names

named : (b : Bool) (w x : List ℕ) → unless_keyword b w ≡ Some x → (w ≡ x) × (b ≡ false)
named true w x h = absurd cc
named false w x h = let k : w ≡ x = cc in (k, refl)

name_at : (w : Tok) (x : List ℕ) → a_name_at w ≡ Some x → (w ≡ tok.Word x) × (is_keyword x ≡ false)
name_at w x h =
    let (v, is, free) = word_is (λ word. unless_keyword (is_keyword word) word) w x h in
    let k = named (is_keyword v) v x free in
    (is ∙ ap tok.Word k.0, subst (λ (z : List ℕ). is_keyword z ≡ false) k.0 k.1)

pub decides_name : Decides IsName a_name
decides_name = (λ t x h. name_at t.what x h, λ t x h. ap a_name_at h.0 ∙ ap (λ (b : Bool). unless_keyword b x) h.1)

pub has_name : Has (One IsName)
has_name = has_one IsName (a_token (tok.Word (codes "a"))) (codes "a") (refl, refl)

-- ---- texts

text_at : (w : Tok) (x : List ℕ) → a_text_at w ≡ Some x → w ≡ tok.Text x
text_at (tok.Sym s) x h = absurd cc
text_at (tok.Word w) x h = absurd cc
text_at (tok.Int n) x h = absurd cc
text_at tok.Big x h = absurd cc
text_at (tok.Text w) x h = let k : w ≡ x = cc in ap tok.Text k

pub decides_text : Decides IsTextToken a_text
decides_text = (λ t x h. text_at t.what x h, λ t x h. ap a_text_at h)

pub has_text : Has (One IsTextToken)
has_text = has_one IsTextToken (a_token (tok.Text (codes "a"))) (codes "a") refl
