-- The phrases of one token, and what decides them.
use Rattle.std.proofs.Common.{◌≡◌, ℕ, ◌+◌, ◌<◌, pos, negsuc, neg_ℤ, Bool, true, false, ◌||◌, ◌&&◌, not, nat_eq, cond, List, [], ◌∷◌, find, map, Option, Some, None, ◌⊎◌, inl, inr, if◌then◌else◌, refl, sym, ap, subst, ◌∙◌, arith}
use Rattle.std.proofs.lemmas.Bool.{eqb-true, eq-eqb, and_parts, not-true}
use Rattle.std.specs.List.{AllByRecursion}
use Rattle.std.specs.Cmp.Lexicographic.{pointwise}
use Rattle.std.proofs.lemmas.Slice.Eq.{bytes_eq-Decides}
use Rattle.kl_lex.specs.declared.token.Sym.{Sym}
use Rattle.kl_lex.specs.declared.token.Sym.TheVariants as sy
use Rattle.kl_lex.specs.contracts.token.Sym as sym_type
use Rattle.kl_lex.specs.declared.token.Tok.{Tok}
use Rattle.kl_lex.specs.declared.token.Tok.TheVariants as tok
use Rattle.kl_lex.specs.declared.token.Token.{Token}
use Rattle.kl_value.specs.declared.value.Value.{Value}
use Rattle.kl_value.specs.declared.value.Value.TheVariants as value
use Rattle.kl_lex.specs.declared.keyword.Keyword.{Keyword}
use Rattle.kl_lex.specs.declared.keyword.Keyword.TheVariants as key
use Rattle.kl_lex.specs.contracts.keyword.Keyword as key_type
use Rattle.kl_parse.specs.declared.operator.Level.{Level}
use Rattle.kl_parse.specs.contracts.operator.Level as level_type
use Rattle.kl_syntax.specs.declared.tree.Op.{Op}
use Rattle.kl_syntax.specs.declared.tree.Op.TheVariants as op
use Rattle.kl_lex.specs.Keywords.{spelling, all_keywords, keyword_of}
use Rattle.kl_parse.specs.Lexemes.{IsSymbol, Symbol, IsKey, Key, IsLabel, IsName, IsConstant, Constant, IsLeast, IsNegative, written, level_of, IsOp, AnOp, word_of, Label, Name}
use Rattle.kl_phrase.specs.Readers.{only}
use Rattle.kl_parse.specs.Kinds.{key_kind, symbol_kind, word_kind, kind_at, has, among, is_symbol, is_key, name_kinds, label_kinds, constant_kinds, big_kinds, op_kinds, a_symbol, a_key, unless_key, a_label_at, a_label, a_name_at, a_name, truth_of, a_constant_at, a_constant, least, a_least_at, a_least, a_negative_at, a_negative, symbol_op, key_op, op_at, of_level, an_op}
use Rattle.kl_phrase.specs.Words.{One, Numbered}
use Rattle.kl_phrase.proofs.Theory.{Decides, On, Has, only_true}
use Rattle.kl_phrase.proofs.Firsts.{Within, Without, on_one, has_one, has_made, has_numbered}
use denote.Enum.Bare.{sameb, tag_one, same_true, true_same}
use denote.Enum.Declared.{tag_of}

-- ---- sets of kinds

pub has_or : (k j : ℕ) (kinds : List ℕ) → has k (j ∷ kinds) ≡ true → (k ≡ j) ⊎ (has k kinds ≡ true)
has_or k j kinds h = go (nat_eq k j) refl
  where
    go : (b : Bool) → nat_eq k j ≡ b → (k ≡ j) ⊎ (has k kinds ≡ true)
    go true e = inl (eqb-true k j e)
    go false e = let f : (false || has k kinds) ≡ true = ap (λ b. b || has k kinds) (sym e) ∙ h in inr f

abbrev pub all_of : List ℕ → List ℕ → Bool
all_of [] b = true
all_of (k ∷ a) b = has k b && all_of a b

abbrev pub none_of : List ℕ → List ℕ → Bool
none_of [] b = true
none_of (k ∷ a) b = not (has k b) && none_of a b

pub either : {A B X : Type 0} → A ⊎ B → (A → X) → (B → X) → X
either (inl a) f g = f a
either (inr b) f g = g b

in_all : (k : ℕ) (a b : List ℕ) → all_of a b ≡ true → has k a ≡ true → has k b ≡ true
in_all k [] b h i = absurd cc
in_all k (j ∷ a) b h i = let two = and_parts (has j b) (all_of a b) h in either (has_or k j a i) (λ e. ap (λ z. has z b) e ∙ two.0) (in_all k a b two.1)

in_none : (k : ℕ) (a b : List ℕ) → none_of a b ≡ true → has k a ≡ true → has k b ≡ false
in_none k [] b h i = absurd cc
in_none k (j ∷ a) b h i = let two = and_parts (not (has j b)) (none_of a b) h in either (has_or k j a i) (λ e. ap (λ z. has z b) e ∙ not-true (has j b) two.0) (in_none k a b two.1)

-- each of these kinds is one of those; none is
pub within : (a b : List ℕ) → all_of a b ≡ true → Within (among a) (among b)
within a b h t i = in_all (kind_at t.what) a b h i

pub without : (a b : List ℕ) → none_of a b ≡ true → Without (among a) (among b)
without a b h t i = in_none (kind_at t.what) a b h i

same : (k j : ℕ) → has k (j ∷ []) ≡ true → k ≡ j
same k j h = either (has_or k j [] h) (λ e. e) (λ (f : has k [] ≡ true). absurd (let g : false ≡ true = f in cc))

-- ---- keywords

found : (word : List ℕ) (ks : List Keyword) (k : Keyword) → find (λ k. pointwise nat_eq word (spelling k)) ks ≡ Some k → word ≡ spelling k
found word [] k h = absurd cc
found word (j ∷ ks) k h = go (pointwise nat_eq word (spelling j)) refl (found word ks k)
  where
    go : (b : Bool) → pointwise nat_eq word (spelling j) ≡ b → (find (λ k. pointwise nat_eq word (spelling k)) ks ≡ Some k → word ≡ spelling k) → word ≡ spelling k
    go true e more = let f : Path (Option Keyword) (Some j) (Some k) = ap (λ b. cond b (Some j) (find (λ k. pointwise nat_eq word (spelling k)) ks)) (sym e) ∙ h in let z : j ≡ k = cc in (bytes_eq-Decides word (spelling j)).0 e ∙ ap spelling z
    go false e more = more (ap (λ b. cond b (Some j) (find (λ k. pointwise nat_eq word (spelling k)) ks)) (sym e) ∙ h)

pub spelled : (word : List ℕ) (k : Keyword) → keyword_of word ≡ Some k → word ≡ spelling k
spelled word k h = found word all_keywords k h

pub of_spelling : (k : Keyword) → keyword_of (spelling k) ≡ Some k
of_spelling key.And = refl
of_spelling key.Case = refl
of_spelling key.Define = refl
of_spelling key.Else = refl
of_spelling key.End = refl
of_spelling key.False = refl
of_spelling key.If = refl
of_spelling key.In = refl
of_spelling key.Let = refl
of_spelling key.Not = refl
of_spelling key.Of = refl
of_spelling key.Or = refl
of_spelling key.Otherwise = refl
of_spelling key.Then = refl
of_spelling key.True = refl

key_low : (k : Keyword) → tag_of key_type.the_type k < 15
key_low key.And = omega arith
key_low key.Case = omega arith
key_low key.Define = omega arith
key_low key.Else = omega arith
key_low key.End = omega arith
key_low key.False = omega arith
key_low key.If = omega arith
key_low key.In = omega arith
key_low key.Let = omega arith
key_low key.Not = omega arith
key_low key.Of = omega arith
key_low key.Or = omega arith
key_low key.Otherwise = omega arith
key_low key.Then = omega arith
key_low key.True = omega arith

word_low : (o : Option Keyword) → word_kind o < 18
word_low None = omega arith
word_low (Some k) = let l = key_low k in omega arith

-- ---- a symbol

pub symbol_at : (s : Sym) (w : Tok) → kind_at w ≡ symbol_kind s → w ≡ tok.Sym s
symbol_at s (tok.Sym r) h = let e : tag_of sym_type.the_type r ≡ tag_of sym_type.the_type s = omega arith in ap tok.Sym (tag_one sym_type.the_type tt r s e)
symbol_at s (tok.Word word) h = let l = word_low (keyword_of word) in absurd (omega arith)
symbol_at s (tok.Int n) h = absurd (omega arith)
symbol_at s tok.Big h = absurd (omega arith)
symbol_at s (tok.Text text) h = absurd (omega arith)

pub symbol_of : (s : Sym) (t : Token) → is_symbol s t ≡ true → IsSymbol s t tt
symbol_of s t h = symbol_at s t.what (same (kind_at t.what) (symbol_kind s) h)

yes : (k : ℕ) → has k (k ∷ []) ≡ true
yes k = ap (λ b. b || false) (eq-eqb k k refl)

pub is_symbol_of : (s : Sym) (t : Token) → IsSymbol s t tt → is_symbol s t ≡ true
is_symbol_of s t e = subst (λ (w : Tok). has (kind_at w) (symbol_kind s ∷ []) ≡ true) (sym e) (yes (symbol_kind s))

pub decides_symbol : (s : Sym) → Decides (IsSymbol s) (a_symbol s)
decides_symbol s = (λ t x h. symbol_of s t (only_true (is_symbol s t) x h), λ t x h. ap only (is_symbol_of s t h))

pub on_symbol : (s : Sym) → On (is_symbol s) (Symbol s)
on_symbol s = on_one (λ t x h. is_symbol_of s t h)

-- ---- a keyword

key_at : (k : Keyword) (w : Tok) → kind_at w ≡ key_kind k → w ≡ tok.Word (spelling k)
key_at k (tok.Sym r) h = let l = key_low k in absurd (omega arith)
key_at k (tok.Word word) h = go (keyword_of word) refl
  where
    go : (o : Option Keyword) → keyword_of word ≡ o → tok.Word word ≡ tok.Word (spelling k)
    go None e = let f : 1 ≡ 3 + tag_of key_type.the_type k = ap word_kind (sym e) ∙ h in absurd (omega arith)
    go (Some j) e = let f : 3 + tag_of key_type.the_type j ≡ 3 + tag_of key_type.the_type k = ap word_kind (sym e) ∙ h in let g : tag_of key_type.the_type j ≡ tag_of key_type.the_type k = omega arith in ap tok.Word (spelled word j e ∙ ap spelling (tag_one key_type.the_type tt j k g))
key_at k (tok.Int n) h = absurd (omega arith)
key_at k tok.Big h = let l = key_low k in absurd (omega arith)
key_at k (tok.Text text) h = absurd (omega arith)

pub key_of : (k : Keyword) (t : Token) → is_key k t ≡ true → IsKey k t tt
key_of k t h = key_at k t.what (same (kind_at t.what) (key_kind k) h)

pub is_key_of : (k : Keyword) (t : Token) → IsKey k t tt → is_key k t ≡ true
is_key_of k t e = subst (λ (w : Tok). has (kind_at w) (key_kind k ∷ []) ≡ true) (sym e) (ap (λ o. has (word_kind o) (key_kind k ∷ [])) (of_spelling k) ∙ yes (key_kind k))

pub decides_key : (k : Keyword) → Decides (IsKey k) (a_key k)
decides_key k = (λ t x h. key_of k t (only_true (is_key k t) x h), λ t x h. ap only (is_key_of k t h))

pub on_key : (k : Keyword) → On (is_key k) (Key k)
on_key k = on_one (λ t x h. is_key_of k t h)

-- ---- words

label_at : (w : Tok) (x : List ℕ) → a_label_at w ≡ Some x → w ≡ tok.Word x
label_at (tok.Sym r) x h = absurd cc
label_at (tok.Word w) x h = let e : w ≡ x = cc in ap tok.Word e
label_at (tok.Int n) x h = absurd cc
label_at tok.Big x h = absurd cc
label_at (tok.Text w) x h = absurd cc

pub decides_label : Decides IsLabel a_label
decides_label = (λ t x h. label_at t.what x h, λ t x h. ap a_label_at h)

word_in : (o : Option Keyword) → has (word_kind o) label_kinds ≡ true
word_in None = refl
word_in (Some key.And) = refl
word_in (Some key.Case) = refl
word_in (Some key.Define) = refl
word_in (Some key.Else) = refl
word_in (Some key.End) = refl
word_in (Some key.False) = refl
word_in (Some key.If) = refl
word_in (Some key.In) = refl
word_in (Some key.Let) = refl
word_in (Some key.Not) = refl
word_in (Some key.Of) = refl
word_in (Some key.Or) = refl
word_in (Some key.Otherwise) = refl
word_in (Some key.Then) = refl
word_in (Some key.True) = refl

pub word_among : (t : Token) (x : List ℕ) → IsLabel t x → among label_kinds t ≡ true
word_among t x e = subst (λ (w : Tok). has (kind_at w) label_kinds ≡ true) (sym e) (word_in (keyword_of x))

pub on_label : On (among label_kinds) (One IsLabel)
on_label = on_one word_among

named : (w x : List ℕ) (o : Option Keyword) → keyword_of w ≡ o → unless_key o w ≡ Some x → (w ≡ x) × (keyword_of x ≡ None)
named w x None e h = let k : w ≡ x = cc in (k, ap keyword_of (sym k) ∙ e)
named w x (Some k) e h = absurd cc

no_key : (x : List ℕ) → keyword_of x ≡ None → (k : Keyword) → x ≡ spelling k → ⊥
no_key x h k e = let f : None ≡ Some k = sym h ∙ ap keyword_of e ∙ of_spelling k in cc

name_at : (w : Tok) (x : List ℕ) → a_name_at w ≡ Some x → (w ≡ tok.Word x) × ((k : Keyword) → x ≡ spelling k → ⊥)
name_at (tok.Sym r) x h = absurd cc
name_at (tok.Word w) x h = let k = named w x (keyword_of w) refl h in (ap tok.Word k.0, no_key x k.1)
name_at (tok.Int n) x h = absurd cc
name_at tok.Big x h = absurd cc
name_at (tok.Text w) x h = absurd cc

pub is_none : (x : List ℕ) → ((k : Keyword) → x ≡ spelling k → ⊥) → keyword_of x ≡ None
is_none x none = go (keyword_of x) refl
  where
    go : (o : Option Keyword) → keyword_of x ≡ o → keyword_of x ≡ None
    go None e = e
    go (Some k) e = absurd (none k (spelled x k e))

pub decides_name : Decides IsName a_name
decides_name = (λ t x h. name_at t.what x h, λ t x h. ap a_name_at h.0 ∙ ap (λ o. unless_key o x) (is_none x h.1))

pub on_name : On (among name_kinds) (One IsName)
on_name = on_one (λ t x h. subst (λ (w : Tok). has (kind_at w) name_kinds ≡ true) (sym h.0) (ap (λ o. has (word_kind o) name_kinds) (is_none x h.1)))

-- ---- constants

constant_at : (w : Tok) (v : Value) → a_constant_at w ≡ Some v → (t : Token) → t.what ≡ w → IsConstant t v
constant_at (tok.Sym r) v h t e = absurd cc
constant_at (tok.Word w) v h t e = truth (keyword_of w) refl h
  where
    truth : (o : Option Keyword) → keyword_of w ≡ o → truth_of o ≡ Some v → IsConstant t v
    truth (Some key.True) f h = let k : value.Bool true ≡ v = cc in subst (IsConstant t) k (e ∙ ap tok.Word (spelled w key.True f))
    truth (Some key.False) f h = let k : value.Bool false ≡ v = cc in subst (IsConstant t) k (e ∙ ap tok.Word (spelled w key.False f))
    truth _ f h = absurd cc
constant_at (tok.Int n) v h t e = let k : value.Int n ≡ v = cc in subst (IsConstant t) k e
constant_at tok.Big v h t e = absurd cc
constant_at (tok.Text w) v h t e = let k : value.Text w ≡ v = cc in subst (IsConstant t) k e

at_constant : (v : Value) (t : Token) → IsConstant t v → a_constant t ≡ Some v
at_constant (value.Int n) t h = ap a_constant_at h
at_constant (value.Text text) t h = ap a_constant_at h
at_constant (value.Bool true) t h = ap a_constant_at h
at_constant (value.Bool false) t h = ap a_constant_at h
at_constant _ t h = absurd h

pub decides_constant : Decides IsConstant a_constant
decides_constant = (λ t v h. constant_at t.what v h t refl, λ t v h. at_constant v t h)

constant_among : (v : Value) (t : Token) → IsConstant t v → among constant_kinds t ≡ true
constant_among (value.Int n) t h = ap (λ (w : Tok). has (kind_at w) constant_kinds) h
constant_among (value.Text text) t h = ap (λ (w : Tok). has (kind_at w) constant_kinds) h
constant_among (value.Bool true) t h = ap (λ (w : Tok). has (kind_at w) constant_kinds) h
constant_among (value.Bool false) t h = ap (λ (w : Tok). has (kind_at w) constant_kinds) h
constant_among _ t h = absurd h

pub on_constant : On (among constant_kinds) Constant
on_constant = on_one (λ t v h. constant_among v t h)

least_at : (w : Tok) (v : Value) → a_least_at w ≡ Some v → (w ≡ tok.Big) × (v ≡ least)
least_at (tok.Sym r) v h = absurd cc
least_at (tok.Word w) v h = absurd cc
least_at (tok.Int n) v h = absurd cc
least_at tok.Big v h = let k : least ≡ v = cc in (refl, sym k)
least_at (tok.Text w) v h = absurd cc

pub decides_least : Decides IsLeast a_least
decides_least = (λ t v h. least_at t.what v h, λ t v h. ap a_least_at h.0 ∙ ap Some (sym h.1))

pub least_among : (t : Token) (v : Value) → IsLeast t v → among big_kinds t ≡ true
least_among t v h = ap (λ (w : Tok). has (kind_at w) big_kinds) h.0

pub on_least : On (among big_kinds) (One IsLeast)
on_least = on_one least_among

negative_at : (w : Tok) (v : Value) → a_negative_at w ≡ Some v → ((n : ℕ) × (w ≡ tok.Int (pos n)) × (v ≡ value.Int (neg_ℤ (pos n)))) ⊎ ((w ≡ tok.Big) × (v ≡ least))
negative_at (tok.Sym r) v h = absurd cc
negative_at (tok.Word w) v h = absurd cc
negative_at (tok.Int (pos n)) v h = let k : value.Int (neg_ℤ (pos n)) ≡ v = cc in inl (n, refl, sym k)
negative_at (tok.Int (negsuc n)) v h = absurd cc
negative_at tok.Big v h = let k : least ≡ v = cc in inr (refl, sym k)
negative_at (tok.Text w) v h = absurd cc

pub decides_negative : Decides IsNegative a_negative
decides_negative = (λ t v h. negative_at t.what v h, back)
  where
    back : (t : Token) (v : Value) → IsNegative t v → a_negative t ≡ Some v
    back t v (inl (n, e, k)) = ap a_negative_at e ∙ ap Some (sym k)
    back t v (inr (e, k)) = ap a_negative_at e ∙ ap Some (sym k)

-- ---- operators

symbol_written : (s : Sym) (o : Op) → symbol_op s ≡ Some o → tok.Sym s ≡ written o
symbol_written sy.Eq o h = let k : op.Eq ≡ o = cc in ap written k
symbol_written sy.Ne o h = let k : op.Ne ≡ o = cc in ap written k
symbol_written sy.Lt o h = let k : op.Lt ≡ o = cc in ap written k
symbol_written sy.Le o h = let k : op.Le ≡ o = cc in ap written k
symbol_written sy.Gt o h = let k : op.Gt ≡ o = cc in ap written k
symbol_written sy.Ge o h = let k : op.Ge ≡ o = cc in ap written k
symbol_written sy.Add o h = let k : op.Add ≡ o = cc in ap written k
symbol_written sy.Sub o h = let k : op.Sub ≡ o = cc in ap written k
symbol_written sy.Append o h = let k : op.Append ≡ o = cc in ap written k
symbol_written sy.Cat o h = let k : op.Cat ≡ o = cc in ap written k
symbol_written sy.Mul o h = let k : op.Mul ≡ o = cc in ap written k
symbol_written _ o h = absurd cc

written_at : (w : Tok) (o : Op) → op_at w ≡ Some o → w ≡ written o
written_at (tok.Sym s) o h = symbol_written s o h
written_at (tok.Word w) o h = go (keyword_of w) refl h
  where
    go : (k : Option Keyword) → keyword_of w ≡ k → key_op k ≡ Some o → tok.Word w ≡ written o
    go (Some key.Or) e h = let k : op.Or ≡ o = cc in ap tok.Word (spelled w key.Or e) ∙ ap written k
    go (Some key.And) e h = let k : op.And ≡ o = cc in ap tok.Word (spelled w key.And e) ∙ ap written k
    go _ e h = absurd cc
written_at (tok.Int n) o h = absurd cc
written_at tok.Big o h = absurd cc
written_at (tok.Text w) o h = absurd cc

op_written : (o : Op) → op_at (written o) ≡ Some o
op_written op.Or = refl
op_written op.And = refl
op_written op.Eq = refl
op_written op.Ne = refl
op_written op.Lt = refl
op_written op.Le = refl
op_written op.Gt = refl
op_written op.Ge = refl
op_written op.Add = refl
op_written op.Sub = refl
op_written op.Append = refl
op_written op.Cat = refl
op_written op.Mul = refl

level_is : (l : Level) (o : Option Op) (q : Op) → of_level l o ≡ Some q → (o ≡ Some q) × (level_of q ≡ l)
level_is l None q h = absurd cc
level_is l (Some p) q h = go (sameb level_type.the_type (level_of p) l) refl
  where
    go : (b : Bool) → sameb level_type.the_type (level_of p) l ≡ b → (Some p ≡ Some q) × (level_of q ≡ l)
    go true e = let f : Path (Option Op) (Some p) (Some q) = ap (λ b. if b then Some p else None) (sym e) ∙ h in let k : p ≡ q = cc in (f, ap level_of (sym k) ∙ same_true level_type.the_type tt (level_of p) l e)
    go false e = let f : Path (Option Op) None (Some q) = ap (λ b. if b then Some p else None) (sym e) ∙ h in absurd cc

pub decides_op : (l : Level) → Decides (IsOp l) (an_op l)
decides_op l = (λ t o h. let k = level_is l (op_at t.what) o h in (written_at t.what o k.0, k.1), λ t o h. ap (λ w. of_level l (op_at w)) h.0 ∙ ap (of_level l) (op_written o) ∙ ap (λ b. if b then Some o else None) (true_same level_type.the_type (level_of o) l h.1))

op_in : (o : Op) → has (kind_at (written o)) (op_kinds (level_of o)) ≡ true
op_in op.Or = refl
op_in op.And = refl
op_in op.Eq = refl
op_in op.Ne = refl
op_in op.Lt = refl
op_in op.Le = refl
op_in op.Gt = refl
op_in op.Ge = refl
op_in op.Add = refl
op_in op.Sub = refl
op_in op.Append = refl
op_in op.Cat = refl
op_in op.Mul = refl

pub op_among : (l : Level) (t : Token) (o : Op) → IsOp l t o → among (op_kinds l) t ≡ true
op_among l t o h = ap (λ w. has (kind_at w) (op_kinds l)) h.0 ∙ ap (λ k. has (kind_at (written o)) (op_kinds k)) (sym h.1) ∙ op_in o

pub on_op : (l : Level) → On (among (op_kinds l)) (AnOp l)
on_op l = on_one (op_among l)

-- ---- some token is one

abbrev a_token : Tok → Token
a_token w = record { what = w; from = 0; to = 0 }

pub has_symbol : (s : Sym) → Has (Symbol s)
has_symbol s = has_one (IsSymbol s) (a_token (tok.Sym s)) tt refl

pub has_key : (k : Keyword) → Has (Key k)
has_key k = has_one (IsKey k) (a_token (tok.Word (spelling k))) tt refl

pub has_label : Has Label
has_label = has_made word_of (Numbered (One IsLabel)) (has_numbered (One IsLabel) (has_one IsLabel (a_token (tok.Word [])) [] refl))

pub has_least : Has (One IsLeast)
has_least = has_one IsLeast (a_token tok.Big) least (refl, refl)

pub has_negative : Has (One IsNegative)
has_negative = has_one IsNegative (a_token tok.Big) least (inr (refl, refl))

unkeyed : (k : Keyword) → [] ≡ spelling k → ⊥
unkeyed key.And e = cc
unkeyed key.Case e = cc
unkeyed key.Define e = cc
unkeyed key.Else e = cc
unkeyed key.End e = cc
unkeyed key.False e = cc
unkeyed key.If e = cc
unkeyed key.In e = cc
unkeyed key.Let e = cc
unkeyed key.Not e = cc
unkeyed key.Of e = cc
unkeyed key.Or e = cc
unkeyed key.Otherwise e = cc
unkeyed key.Then e = cc
unkeyed key.True e = cc

pub has_name : Has Name
has_name = has_made word_of (Numbered (One IsName)) (has_numbered (One IsName) (has_one IsName (a_token (tok.Word [])) [] (refl, unkeyed)))

-- a token of one of these symbols' kinds is one of them
pub among_symbols : (X : Tok → Type 0) (ss : List Sym) (w : Tok) → AllByRecursion (λ s. X (tok.Sym s)) ss → has (kind_at w) (map (λ s. symbol_kind s) ss) ≡ true → X w
among_symbols X [] w each h = absurd cc
among_symbols X (s ∷ ss) w (x, each) h = either (has_or (kind_at w) (symbol_kind s) (map (λ s. symbol_kind s) ss) h) (λ i. subst X (sym (symbol_at s w i)) x) (among_symbols X ss w each)
