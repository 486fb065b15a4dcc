-- What the code's steps say of the descent.
use Rattle.std.proofs.Common.{◌≡◌, ℕ, zero, suc, ◌<◌, Bool, true, false, cond, List, [], ◌∷◌, length, Option, Some, None, is_some, refl, sym, ap, subst, ◌∙◌, arith}
use Rattle.std.specs.Prelude.{nat_eq}
use Rattle.std.specs.Cmp.Lexicographic.{pointwise}
use Rattle.std.specs.BTreeMap.{is_at}
use Rattle.std.specs.Map.{lookup}
use Rattle.std.proofs.lemmas.Map.Text.{is_eq-slice_cmp}
use Rattle.kl_base.specs.Fields.{bytes_cmp, field}
use Rattle.kl_lex.specs.declared.token.Sym.{Sym}
use Rattle.kl_lex.specs.declared.token.Sym.TheVariants as sy
use Rattle.kl_lex.specs.declared.token.Tok.TheVariants as tok
use Rattle.kl_lex.specs.declared.token.Placed.{Placed}
use Rattle.kl_value.specs.declared.Kind.{Kind}
use Rattle.kl_value.specs.declared.Kind.TheVariants as kind
use Rattle.kl_phrase.specs.Depth.{opens}
use Rattle.kl_phrase.specs.Words.{heads}
use Rattle.kl_phrase.specs.Readers.{Why, bad, deep, Out, ok, fail, Reader, after, behind, one}
use Rattle.kl_type.specs.declared.ground.Ty.{Ty}
use Rattle.kl_type.specs.declared.ground.Ty.TheVariants as ty
use Rattle.kl_phrase.specs.declared.fault.Fault.{Fault}
use Rattle.kl_phrase.specs.declared.fault.Fault.TheVariants as fault
use Rattle.kl_phrase.specs.Gives.{Fails}
use Rattle.kl_phrase.proofs.Failures.{fails_after}
use Rattle.kl_lex.specs.Brackets.{opener}
use Rattle.kl_type.specs.Grammar.{put}
use Rattle.kl_type.specs.Descent as d
use Rattle.kl_type.specs.Descent.{is_symbol, is_word, is_word_at, a_label, a_label_at, a_base, a_base_at, base_of, unless}
use Rattle.kl_type.proofs.TokenLemmas.{apart, no_word}
use Rattle.kl_type.proofs.FieldGoods.{FieldList}
use Rattle.kl_type.proofs.Kepts.{takes_next}

-- the symbol, and what stands behind it
abbrev pub Ahead : Sym → List Placed → List Placed → Type 0
Ahead s rest more = (t : Placed) × (rest ≡ t ∷ more) × (is_symbol s t ≡ true)

behind_mark : {A : Type 0} (s : Sym) (p : Reader Placed A) (rest more : List Placed) → Ahead s rest more → behind (d.mark s) p rest ≡ p more
behind_mark s p rest more (t, e, h) = rw (e, h) refl

heads_mark : (s : Sym) (rest more : List Placed) → Ahead s rest more → heads (is_symbol s) rest ≡ true
heads_mark s rest more (t, e, h) = rw e h

heads_apart : (s r : Sym) → d.same_symbol s r ≡ false → (rest more : List Placed) → Ahead s rest more → heads (is_symbol r) rest ≡ false
heads_apart s r ne rest more (t, e, h) = rw e (apart s r ne t h)

-- ---- words

abbrev pub AheadWord : List ℕ → List Placed → List Placed → Type 0
AheadWord w rest more = (t : Placed) × (rest ≡ t ∷ more) × (t.what ≡ tok.Word w)

found_is : (fields : FieldList) (w : List ℕ) → lookup (is_at (bytes_cmp w)) fields ≡ field w fields
found_is [] w = refl
found_is (f ∷ fields) w = ap (λ (b : Bool). cond b (Some f.1) (lookup (is_at (bytes_cmp w)) fields)) (is_eq-slice_cmp w f.0) ∙ ap (λ (o : Option Ty). cond (pointwise nat_eq w f.0) (Some f.1) o) (found_is fields w)

taken_there : (o : Option Ty) (w : List ℕ) → is_some o ≡ true → unless o w ≡ None
taken_there None w h = absurd cc
taken_there (Some t) w h = refl

taken_free : (o : Option Ty) (w : List ℕ) → is_some o ≡ false → unless o w ≡ Some w
taken_free None w h = refl
taken_free (Some t) w h = absurd cc

module _ (fields : FieldList) (ts : List Placed) where
  pub no_label : heads is_word ts ≡ false → one (a_label fields) ts ≡ fail bad ts
  no_label h = no_word (λ word. unless (field word fields) word) ts h

  pub label_there : (w : List ℕ) (more : List Placed) → AheadWord w ts more → is_some (lookup (is_at (bytes_cmp w)) fields) ≡ true → one (a_label fields) ts ≡ fail bad ts
  label_there w more (t, e, h) there = let k : a_label fields t ≡ None = ap (a_label_at fields) h ∙ taken_there (field w fields) w (ap is_some (sym (found_is fields w)) ∙ there) in rw (e, k) refl

  pub label_free : (w : List ℕ) (more : List Placed) → AheadWord w ts more → is_some (lookup (is_at (bytes_cmp w)) fields) ≡ false → one (a_label fields) ts ≡ ok w more
  label_free w more (t, e, h) free = let k : a_label fields t ≡ Some w = ap (a_label_at fields) h ∙ taken_free (field w fields) w (ap is_some (sym (found_is fields w)) ∙ free) in rw (e, k) refl

pub no_base : (ts : List Placed) → heads is_word ts ≡ false → one a_base ts ≡ fail bad ts
no_base = no_word base_of

-- ---- fields

-- what was found and what is left lead to the whole, in more turns than tokens are left
abbrev pub Progress : Reader Placed Ty → Out Placed FieldList → FieldList → List Placed → Type 0
Progress e whole found rest = (k : ℕ) × (length rest < k) × (d.more e k found rest ≡ whole)

module _ (e : Reader Placed Ty) where
  pub starts : (ts r : List Placed) (f : List ℕ × Ty) → d.field e [] ts ≡ ok f r → Progress e (d.fields e ts) (put [] f) r
  starts ts r f h = (suc (length r), omega arith, sym (rw h refl))

  pub goes_on : (whole : Out Placed FieldList) (found : FieldList) (rest more r : List Placed) (f : List ℕ × Ty) → Ahead sy.Comma rest more → d.field e found more ≡ ok f r → length r < length rest → Progress e whole found rest → Progress e whole (put found f) r
  goes_on whole found rest more r f a h lt (zero, le, so_far) = absurd (omega arith)
  goes_on whole found rest more r f a h lt (suc k, le, so_far) =
      let one : d.more e (suc k) found rest ≡ d.more e k (put found f) r = rw (heads_mark sy.Comma rest more a, behind_mark sy.Comma (d.field e found) rest more a, h) refl in
      (k, omega arith, sym one ∙ so_far)

  breaks : (whole : Out Placed FieldList) (found : FieldList) (rest more r : List Placed) (w : Why) → Ahead sy.Comma rest more → d.field e found more ≡ fail w r → Progress e whole found rest → whole ≡ fail w r
  breaks whole found rest more r w a h (zero, le, so_far) = absurd (omega arith)
  breaks whole found rest more r w a h (suc k, le, so_far) =
      let one : d.more e (suc k) found rest ≡ fail w r = rw (heads_mark sy.Comma rest more a, behind_mark sy.Comma (d.field e found) rest more a, h) refl in
      sym so_far ∙ one

  pub fails_on : (whole : Out Placed FieldList) (found : FieldList) (rest more : List Placed) (f : Fault Placed) → Ahead sy.Comma rest more → Fails f (d.field e found more) → Progress e whole found rest → Fails f whole
  fails_on whole found rest more fault.Memory a h so = tt
  fails_on whole found rest more (fault.Bad r) a h so = breaks whole found rest more r.now bad a h so
  fails_on whole found rest more (fault.Deep r) a h so = breaks whole found rest more r.now deep a h so

  pub stops : (whole : Out Placed FieldList) (found : FieldList) (rest : List Placed) → heads (is_symbol sy.Comma) rest ≡ false → Progress e whole found rest → whole ≡ ok found rest
  stops whole found rest h (zero, le, so_far) = absurd (omega arith)
  stops whole found rest h (suc k, le, so_far) = let one : d.more e (suc k) found rest ≡ ok found rest = rw h refl in sym so_far ∙ one

  pub starts_at : (ts r : List Placed) (found next : FieldList) (f : List ℕ × Ty) → found ≡ [] → d.field e found ts ≡ ok f r → next ≡ put found f → Progress e (d.fields e ts) next r
  starts_at ts r found next f z h n = subst (λ (y : FieldList). Progress e (d.fields e ts) y r) (sym (n ∙ ap (λ (y : FieldList). put y f) z)) (starts ts r f (subst (λ (y : FieldList). d.field e y ts ≡ ok f r) z h))

  pub goes_on_at : (whole : Out Placed FieldList) (found next : FieldList) (rest more r : List Placed) (f : List ℕ × Ty) → Ahead sy.Comma rest more → d.field e found more ≡ ok f r → length r < length rest → next ≡ put found f → Progress e whole found rest → Progress e whole next r
  goes_on_at whole found next rest more r f a h lt n so = subst (λ (y : FieldList). Progress e whole y r) (sym n) (goes_on whole found rest more r f a h lt so)

  pub fields_fail_at : (ts : List Placed) (found : FieldList) (f : Fault Placed) → found ≡ [] → Fails f (d.field e found ts) → Fails f (d.fields e ts)
  fields_fail_at ts found f z h = fails_after f (d.field e [] ts) (λ x. d.others e (put [] x)) (subst (λ (y : FieldList). Fails f (d.field e y ts)) z h)

  pub fields_fail : (ts : List Placed) (f : Fault Placed) → Fails f (d.field e [] ts) → Fails f (d.fields e ts)
  fields_fail ts f h = fails_after f (d.field e [] ts) (λ x. d.others e (put [] x)) h

pub less : (n : ℕ) (found : FieldList) (rest more r : List Placed) (f : List ℕ × Ty) → Ahead sy.Comma rest more → d.field (d.reads n) found more ≡ ok f r → length r < length rest
less n found rest more r f a h = takes_next n found rest f r (behind_mark sy.Comma (d.field (d.reads n) found) rest more a ∙ h)

-- ---- by depth

reads_is : (n : ℕ) (ts : List Placed) → d.reads n ts ≡ d.a_type (d.inside n) (opens n) ts
unfolding d.reads
reads_is zero ts = refl
reads_is (suc n) ts = refl

at_depth : (n m : ℕ) (ts : List Placed) → n ≡ m → d.reads n ts ≡ d.a_type (d.inside m) (opens m) ts
at_depth n m ts z = ap (λ k. d.reads k ts) z ∙ reads_is m ts

pub coll_deep : (n : ℕ) (k : Kind) (ts more : List Placed) → n ≡ 0 → Ahead (opener k) ts more → d.reads n ts ≡ fail deep ts
unfolding d.a_type
coll_deep n kind.Set ts more z a = at_depth n 0 ts z ∙ rw (heads_mark sy.OpenSet ts more a) refl
coll_deep n kind.Bag ts more z a = at_depth n 0 ts z ∙ rw (heads_apart sy.OpenBag sy.OpenSet refl ts more a, heads_mark sy.OpenBag ts more a) refl
coll_deep n kind.List ts more z a = at_depth n 0 ts z ∙ rw (heads_apart sy.OpenList sy.OpenSet refl ts more a, heads_apart sy.OpenList sy.OpenBag refl ts more a, heads_mark sy.OpenList ts more a) refl

made_behind : {A : Type 0} (s : Sym) (f : A → Ty) (p : Reader Placed A) (ts more : List Placed) → Ahead s ts more → after {B = Ty} (behind (d.mark s) p ts) (λ x r. ok (f x) r) ≡ after (p more) (λ x r. ok (f x) r)
made_behind {A} s f p ts more a = ap (λ (o : Out Placed A). after {B = Ty} o (λ x r. ok (f x) r)) (behind_mark s p ts more a)

pub coll_at : (n m : ℕ) (k : Kind) (ts more : List Placed) → n ≡ suc m → Ahead (opener k) ts more → d.reads n ts ≡ after (d.in_coll (d.reads m) k more) (λ x r. ok (ty.Coll k x) r)
unfolding d.a_type
coll_at n m kind.Set ts more z a = at_depth n (suc m) ts z ∙ rw (heads_mark sy.OpenSet ts more a) (made_behind sy.OpenSet (ty.Coll kind.Set) (d.in_coll (d.reads m) kind.Set) ts more a)
coll_at n m kind.Bag ts more z a = at_depth n (suc m) ts z ∙ rw (heads_apart sy.OpenBag sy.OpenSet refl ts more a, heads_mark sy.OpenBag ts more a) (made_behind sy.OpenBag (ty.Coll kind.Bag) (d.in_coll (d.reads m) kind.Bag) ts more a)
coll_at n m kind.List ts more z a = at_depth n (suc m) ts z ∙ rw (heads_apart sy.OpenList sy.OpenSet refl ts more a, heads_apart sy.OpenList sy.OpenBag refl ts more a, heads_mark sy.OpenList ts more a) (made_behind sy.OpenList (ty.Coll kind.List) (d.in_coll (d.reads m) kind.List) ts more a)

-- no bracket of a collection
abbrev pub NoColl : List Placed → Type 0
NoColl ts = (heads (is_symbol sy.OpenSet) ts ≡ false) × (heads (is_symbol sy.OpenBag) ts ≡ false) × (heads (is_symbol sy.OpenList) ts ≡ false)

pub rec_deep : (n : ℕ) (ts more : List Placed) → n ≡ 0 → NoColl ts → Ahead sy.OpenRec ts more → d.reads n ts ≡ fail deep ts
unfolding d.a_type
rec_deep n ts more z (s, b, l) a = at_depth n 0 ts z ∙ rw (s, b, l, heads_mark sy.OpenRec ts more a) refl

pub rec_at : (n m : ℕ) (ts more : List Placed) → n ≡ suc m → NoColl ts → Ahead sy.OpenRec ts more → d.reads n ts ≡ after (d.in_rec (d.reads m) more) (λ x r. ok (ty.Rec x) r)
unfolding d.a_type
rec_at n m ts more z (s, b, l) a = at_depth n (suc m) ts z ∙ rw (s, b, l, heads_mark sy.OpenRec ts more a) (made_behind sy.OpenRec ty.Rec (d.in_rec (d.reads m)) ts more a)

pub var_deep : (n : ℕ) (ts more : List Placed) → n ≡ 0 → NoColl ts → heads (is_symbol sy.OpenRec) ts ≡ false → Ahead sy.Lt ts more → d.reads n ts ≡ fail deep ts
unfolding d.a_type
var_deep n ts more z (s, b, l) r a = at_depth n 0 ts z ∙ rw (s, b, l, r, heads_mark sy.Lt ts more a) refl

pub var_at : (n m : ℕ) (ts more : List Placed) → n ≡ suc m → NoColl ts → heads (is_symbol sy.OpenRec) ts ≡ false → Ahead sy.Lt ts more → d.reads n ts ≡ after (d.in_var (d.reads m) more) (λ x r. ok (ty.Var x) r)
unfolding d.a_type
var_at n m ts more z (s, b, l) r a = at_depth n (suc m) ts z ∙ rw (s, b, l, r, heads_mark sy.Lt ts more a) (made_behind sy.Lt ty.Var (d.in_var (d.reads m)) ts more a)

pub base_at : (n : ℕ) (ts : List Placed) → NoColl ts → heads (is_symbol sy.OpenRec) ts ≡ false → heads (is_symbol sy.Lt) ts ≡ false → d.reads n ts ≡ one a_base ts
unfolding d.a_type
base_at n ts (s, b, l) r v = reads_is n ts ∙ rw (s, b, l, r, v) refl
