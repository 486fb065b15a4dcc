-- What the code's steps say of the descent.
use Rattle.std.proofs.Common.{◌≡◌, ℕ, zero, suc, ◌<◌, true, false, List, [], ◌∷◌, ◌++◌, length, Option, Some, None, ◌⊎◌, inl, inr, refl, ap, ◌∙◌}
use Rattle.kl_lex.specs.declared.token.Sym.{Sym}
use Rattle.kl_lex.specs.declared.token.Sym.TheVariants as sy
use Rattle.kl_lex.specs.declared.token.Token.{Token}
use Rattle.kl_lex.specs.declared.keyword.Keyword.{Keyword}
use Rattle.kl_phrase.specs.declared.fault.Fault.{Fault}
use Rattle.kl_phrase.specs.declared.fault.Fault.TheVariants as fault
use Rattle.kl_syntax.specs.declared.tree.Word.{Word}
use Rattle.kl_syntax.specs.declared.tree.Pattern.{Pattern}
use Rattle.kl_syntax.specs.declared.tree.Pattern.TheVariants as pattern
use Rattle.kl_syntax.specs.declared.tree.Tail.{Tail}
use Rattle.kl_phrase.specs.Gives.{Fails}
use Rattle.kl_phrase.specs.Depth.{opens}
use Rattle.kl_parse.specs.Grammar.{variant_of, shape_of, tail_of}
use Rattle.kl_parse.specs.Kinds.{among, is_symbol, is_key, label_kinds}
use Rattle.kl_parse.specs.Descent as d
use Rattle.kl_parse.specs.Descent.{mark, word_mark}
use Rattle.kl_phrase.specs.Words.{heads}
use Rattle.kl_phrase.specs.Readers.{Why, bad, deep, Out, ok, fail, Reader, after, behind, turns, tail_turn, tails}
use Rattle.kl_phrase.proofs.Kept.{Rests, rest_less}
use Rattle.kl_phrase.proofs.Failures.{fails_after, fails_so}
use Rattle.kl_phrase.proofs.Gathered.{Progress, goes_on, part_fails}
use Rattle.kl_phrase.proofs.Tails.{Going, goes_further, ends_at, fails_at}
use Rattle.kl_parse.proofs.Kepts.{same_pat, keeps_pat_field, keeps_label}
use Rattle.kl_phrase.proofs.Exact.{IsBad}

-- the symbol, and what stands behind it
abbrev pub Ahead : Sym → List Token → List Token → Type 0
Ahead s rest more = (t : Token) × (rest ≡ t ∷ more) × (is_symbol s t ≡ true)

abbrev pub AheadKey : Keyword → List Token → List Token → Type 0
AheadKey k rest more = (t : Token) × (rest ≡ t ∷ more) × (is_key k t ≡ true)

pub behind_mark : {A : Type 0} (s : Sym) (p : Reader Token A) (rest more : List Token) → Ahead s rest more → behind (mark s) p rest ≡ p more
behind_mark s p rest more (t, e, h) = rw (e, h) refl

pub behind_key : {A : Type 0} (k : Keyword) (p : Reader Token A) (rest more : List Token) → AheadKey k rest more → behind (word_mark k) p rest ≡ p more
behind_key k p rest more (t, e, h) = rw (e, h) refl

pub heads_mark : (s : Sym) (rest more : List Token) → Ahead s rest more → heads (is_symbol s) rest ≡ true
heads_mark s rest more (t, e, h) = rw e h

pub heads_key : (k : Keyword) (rest more : List Token) → AheadKey k rest more → heads (is_key k) rest ≡ true
heads_key k rest more (t, e, h) = rw e h

pub less : {A : Type 0} (s : Sym) (p : Reader Token A) (rest more r : List Token) (a : A) → ((ts : List Token) → Rests ts (p ts)) → Ahead s rest more → p more ≡ ok a r → length r < length rest
less s p rest more r a rests (t, e, h) eq = rest_less t rest more r a (p more) e (rests more) eq

-- ---- a loop of parts behind a symbol

pub onward : {A : Type 0} (s : Sym) (p : Reader Token A) → ((ts : List Token) → Rests ts (p ts)) → (whole : Out Token (List A)) (found : List A) (rest more r : List Token) (a : A) → Ahead s rest more → p more ≡ ok a r
    → Progress (is_symbol s) (behind (mark s) p) whole found rest → Progress (is_symbol s) (behind (mark s) p) whole (found ++ a ∷ []) r
onward s p rests whole found rest more r a ahead e = goes_on (is_symbol s) (behind (mark s) p) whole found rest r a (heads_mark s rest more ahead) (behind_mark s p rest more ahead ∙ e) (less s p rest more r a rests ahead e)

pub fails_on : {A : Type 0} (s : Sym) (p : Reader Token A) (whole : Out Token (List A)) (found : List A) (rest more : List Token) (f : Fault Token) → Ahead s rest more → Fails f (p more) → Progress (is_symbol s) (behind (mark s) p) whole found rest → Fails f whole
fails_on s p whole found rest more f ahead = part_fails (is_symbol s) (behind (mark s) p) (p more) whole found rest f (heads_mark s rest more ahead) (λ w r e. behind_mark s p rest more ahead ∙ e)

-- ---- patterns

pat_suc : (N n k : ℕ) (ts : List Token) → n ≡ suc k → d.read_pat N n ts ≡ d.pat N (d.read_pat N k) deep true ts
unfolding d.pat_by
pat_suc N n k ts z = ap (λ m. d.read_pat N m ts) z

pat_is : (N n : ℕ) (ts : List Token) → d.read_pat N n ts ≡ d.pat N (d.pat_inside N n) deep (opens n) ts
unfolding d.pat_by
pat_is N zero ts = refl
pat_is N (suc n) ts = refl

pat_zero : (N n : ℕ) (ts : List Token) → n ≡ 0 → d.read_pat N n ts ≡ d.pat N (d.never deep) deep false ts
unfolding d.pat_by
pat_zero N n ts z = ap (λ m. d.read_pat N m ts) z

pub variant_deep : (N n : ℕ) (ts more : List Token) → n ≡ 0 → Ahead sy.Lt ts more → d.read_pat N n ts ≡ fail deep ts
unfolding d.pat
variant_deep N n ts more z a = pat_zero N n ts z ∙ rw (heads_mark sy.Lt ts more a) refl

variant_at : (N n k : ℕ) (ts more : List Token) → n ≡ suc k → Ahead sy.Lt ts more → d.read_pat N n ts ≡ after (d.in_variant N (d.read_pat N k) more) (λ x s. ok (variant_of x) s)
unfolding d.pat
variant_at N n k ts more z a = pat_suc N n k ts z ∙ rw (heads_mark sy.Lt ts more a) (ap (λ (o : Out Token (Word × Pattern)). after {B = Pattern} o (λ x s. ok (variant_of x) s)) (behind_mark sy.Lt (d.in_variant N (d.read_pat N k)) ts more a))

pub variant_fails : (N n k : ℕ) (ts more : List Token) (f : Fault Token) → n ≡ suc k → Ahead sy.Lt ts more → Fails f (d.in_variant N (d.read_pat N k) more) → Fails f (d.read_pat N n ts)
variant_fails N n k ts more f z a h = fails_so f (d.read_pat N n ts) (after (d.in_variant N (d.read_pat N k) more) (λ x s. ok (variant_of x) s)) (variant_at N n k ts more z a) (fails_after f (d.in_variant N (d.read_pat N k) more) (λ x s. ok (variant_of x) s) h)

pub variant_ok : (N n k : ℕ) (ts more r : List Token) (w : Word) (p : Pattern) → n ≡ suc k → Ahead sy.Lt ts more → d.in_variant N (d.read_pat N k) more ≡ ok (w, p) r → d.read_pat N n ts ≡ ok (pattern.Inj w p) r
variant_ok N n k ts more r w p z a h = variant_at N n k ts more z a ∙ rw h refl

pub shape_deep : (N n : ℕ) (ts more : List Token) → n ≡ 0 → heads (is_symbol sy.Lt) ts ≡ false → Ahead sy.OpenRec ts more → d.read_pat N n ts ≡ fail deep ts
unfolding d.pat
shape_deep N n ts more z miss a = pat_zero N n ts z ∙ rw (miss, heads_mark sy.OpenRec ts more a) refl

pub shape_at : (N n k : ℕ) (ts more : List Token) → n ≡ suc k → heads (is_symbol sy.Lt) ts ≡ false → Ahead sy.OpenRec ts more → d.read_pat N n ts ≡ d.in_shape N (d.read_pat N k) more
unfolding d.pat
shape_at N n k ts more z miss a = pat_suc N n k ts z ∙ rw (miss, heads_mark sy.OpenRec ts more a) (behind_mark sy.OpenRec (d.in_shape N (d.read_pat N k)) ts more a)

pub simple_at : (N n : ℕ) (ts : List Token) → heads (is_symbol sy.Lt) ts ≡ false → heads (is_symbol sy.OpenRec) ts ≡ false → d.read_pat N n ts ≡ d.simple N ts
unfolding d.pat
simple_at N n ts miss neither = pat_is N n ts ∙ rw (miss, neither) refl

-- the fields of a record pattern, behind the first
tails_shape : (a : Word × Pattern) (o : Out Token (List (Word × Pattern) × Option Tail)) → after {B = Pattern} (after {B = (Word × Pattern) × (List (Word × Pattern) × Option Tail)} o (λ b s. ok (a, b) s)) (λ x r. ok (shape_of x) r) ≡ after (after {B = List (Word × Pattern) × Option Tail} o (λ x r. ok ((a ∷ []) ++ x.0, x.1) r)) (λ x s. ok (pattern.Rec x.0 (tail_of x.1)) s)
tails_shape a (ok x r) = refl
tails_shape a (fail w r) = refl

pub fields_at : (N : ℕ) (p : Reader Token Pattern) (ts rest : List Token) (a : Word × Pattern) → heads (among label_kinds) ts ≡ true → d.pat_field N p ts ≡ ok a rest → d.shape N p ts ≡ after (tails (d.pat_turn N p) (a ∷ []) rest) (λ x s. ok (pattern.Rec x.0 (tail_of x.1)) s)
fields_at N p ts rest a h e = rw (h, e) (tails_shape a (turns (d.pat_turn N p) (suc (length rest)) rest))

pub fields_fail : (N : ℕ) (p : Reader Token Pattern) (ts rest : List Token) (a : Word × Pattern) (f : Fault Token) → heads (among label_kinds) ts ≡ true → d.pat_field N p ts ≡ ok a rest → Fails f (tails (d.pat_turn N p) (a ∷ []) rest) → Fails f (d.shape N p ts)
fields_fail N p ts rest a f h e i = fails_so f (d.shape N p ts) (after (tails (d.pat_turn N p) (a ∷ []) rest) (λ x s. ok (pattern.Rec x.0 (tail_of x.1)) s)) (fields_at N p ts rest a h e) (fails_after f (tails (d.pat_turn N p) (a ∷ []) rest) (λ x s. ok (pattern.Rec x.0 (tail_of x.1)) s) i)

pub fields_ok : (N : ℕ) (p : Reader Token Pattern) (ts rest r : List Token) (a : Word × Pattern) (fs : List (Word × Pattern)) (o : Option Tail) → heads (among label_kinds) ts ≡ true → d.pat_field N p ts ≡ ok a rest → tails (d.pat_turn N p) (a ∷ []) rest ≡ ok (fs, o) r → d.shape N p ts ≡ ok (pattern.Rec fs (tail_of o)) r
fields_ok N p ts rest r a fs o h e i = fields_at N p ts rest a h e ∙ rw i refl

-- ---- a list of parts behind commas, at whose end dots may stand, and what g reads behind them

module _ {A B : Type 0} (f : Reader Token A) (g : Reader Token B) where
  abbrev pub Turning : Reader Token (A ⊎ Option B)
  Turning = tail_turn (is_symbol sy.Comma) (is_symbol sy.Dots) (mark sy.Comma) f (behind (mark sy.Dots) g)

  turn_item : (rest more r : List Token) (a : A) → Ahead sy.Comma rest more → heads (is_symbol sy.Dots) more ≡ false → f more ≡ ok a r → Turning rest ≡ ok (inl a) r
  turn_item rest more r a (t, e, h) miss i = rw (e, h, miss, i) refl

  turn_fails : (rest more : List Token) (w : Why) (r : List Token) → Ahead sy.Comma rest more → heads (is_symbol sy.Dots) more ≡ false → f more ≡ fail w r → Turning rest ≡ fail w r
  turn_fails rest more w r (t, e, h) miss i = rw (e, h, miss, i) refl

  turn_dots : (rest more last r : List Token) (b : B) → Ahead sy.Comma rest more → Ahead sy.Dots more last → g last ≡ ok b r → Turning rest ≡ ok (inr (Some b)) r
  turn_dots rest more last r b (t, e, h) (c, i, j) k = rw (e, h, i, j, k) refl

  turn_breaks : (rest more last : List Token) (w : Why) (r : List Token) → Ahead sy.Comma rest more → Ahead sy.Dots more last → g last ≡ fail w r → Turning rest ≡ fail w r
  turn_breaks rest more last w r (t, e, h) (c, i, j) k = rw (e, h, i, j, k) refl

  turn_end : (rest : List Token) → heads (is_symbol sy.Comma) rest ≡ false → Turning rest ≡ ok (inr None) rest
  turn_end rest h = rw h refl

  module _ (whole : Out Token (List A × Option B)) (found : List A) (rest : List Token) where
    pub item_on : ((ts : List Token) → Rests ts (f ts)) → (more r : List Token) (a : A) → Ahead sy.Comma rest more → heads (is_symbol sy.Dots) more ≡ false → f more ≡ ok a r → Going Turning whole found rest → Going Turning whole (found ++ a ∷ []) r
    item_on rests more r a ahead miss e so = goes_further Turning whole found rest r a (turn_item rest more r a ahead miss e) (less sy.Comma f rest more r a rests ahead e) so

    pub item_breaks : (more : List Token) (q : Fault Token) → Ahead sy.Comma rest more → heads (is_symbol sy.Dots) more ≡ false → Fails q (f more) → Going Turning whole found rest → Fails q whole
    item_breaks more fault.Memory ahead miss h so = tt
    item_breaks more (fault.Bad r) ahead miss h so = fails_at Turning whole found rest r.now bad (turn_fails rest more bad r.now ahead miss h) so
    item_breaks more (fault.Deep r) ahead miss h so = fails_at Turning whole found rest r.now deep (turn_fails rest more deep r.now ahead miss h) so

    pub dots_end : (more last r : List Token) (b : B) → Ahead sy.Comma rest more → Ahead sy.Dots more last → g last ≡ ok b r → Going Turning whole found rest → whole ≡ ok (found, Some b) r
    dots_end more last r b ahead dots e so = ends_at Turning whole found rest r (Some b) (turn_dots rest more last r b ahead dots e) so

    pub dots_break : (more last : List Token) (q : Fault Token) → Ahead sy.Comma rest more → Ahead sy.Dots more last → Fails q (g last) → Going Turning whole found rest → Fails q whole
    dots_break more last fault.Memory ahead dots h so = tt
    dots_break more last (fault.Bad r) ahead dots h so = fails_at Turning whole found rest r.now bad (turn_breaks rest more last bad r.now ahead dots h) so
    dots_break more last (fault.Deep r) ahead dots h so = fails_at Turning whole found rest r.now deep (turn_breaks rest more last deep r.now ahead dots h) so

    pub list_end : heads (is_symbol sy.Comma) rest ≡ false → Going Turning whole found rest → whole ≡ ok (found, None) rest
    list_end h so = ends_at Turning whole found rest rest None (turn_end rest h) so

pub rests_pat_field : (N n : ℕ) (ts : List Token) → Rests ts (d.pat_field N (d.read_pat N n) ts)
rests_pat_field N n ts = (keeps_pat_field IsBad N N (d.read_pat N n) (d.read_pat N n) (same_pat IsBad N N n)).rests ts

pub field_less : (N n : ℕ) (rest more r : List Token) (a : Word × Pattern) → Ahead sy.Comma rest more → d.pat_field N (d.read_pat N n) more ≡ ok a r → length r < length rest
field_less N n rest more r a ahead e = less sy.Comma (d.pat_field N (d.read_pat N n)) rest more r a (rests_pat_field N n) ahead e

pub rests_label : (N : ℕ) (ts : List Token) → Rests ts (d.label N ts)
rests_label N ts = (keeps_label IsBad N N).rests ts
