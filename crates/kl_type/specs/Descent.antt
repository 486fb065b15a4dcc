-- The descent: for each word of the grammar a reader.
-- Only the contracts of what reads a type inside a longer list of tokens cite this.
use Rattle.std.specs.Prelude.{ℕ, zero, suc, nat_eq, Bool, true, false, List, [], length, Option, Some, None, if◌then◌else◌, codes}
use Rattle.std.specs.Cmp.Lexicographic.{pointwise}
use Rattle.kl_base.specs.Fields.{field as at_label}
use Rattle.kl_lex.specs.declared.token.Sym.{Sym}
use Rattle.kl_lex.specs.declared.token.Sym.TheVariants as sym
use Rattle.kl_lex.specs.contracts.token.Sym.{the_type}
use Rattle.kl_lex.specs.declared.token.Tok.{Tok}
use Rattle.kl_lex.specs.declared.token.Tok.TheVariants as tok
use Rattle.kl_lex.specs.declared.token.Placed.{Placed}
use Rattle.kl_phrase.specs.Readers.{Reader, bad, deep, fail, one, nothing, both, behind, before, chain, made, pick, opening, only}
use Rattle.kl_value.specs.declared.Kind.{Kind}
use Rattle.kl_value.specs.declared.Kind.TheVariants as kind
use Rattle.kl_type.specs.declared.ground.Ty.{Ty}
use Rattle.kl_type.specs.declared.ground.Ty.TheVariants as ty
use Rattle.kl_lex.specs.Brackets.{opener, closer}
use Rattle.kl_type.specs.Grammar.{put}
use denote.Enum.Bare.{sameb}

-- ---- one token

abbrev pub same_symbol : Sym → Sym → Bool
same_symbol a b = sameb the_type a b

abbrev pub is_symbol_at : Sym → Tok → Bool
is_symbol_at s (tok.Sym found) = same_symbol found s
is_symbol_at s _ = false

abbrev pub is_symbol : Sym → Placed → Bool
is_symbol s t = is_symbol_at s t.what

abbrev pub a_symbol : Sym → Placed → Option (Unit {0})
a_symbol s t = only (is_symbol s t)

abbrev pub is_word_at : Tok → Bool
is_word_at (tok.Word word) = true
is_word_at _ = false

abbrev pub is_word : Placed → Bool
is_word t = is_word_at t.what

-- what a word is read as; any other token is not
abbrev pub of_word : {A : Type 0} → (List ℕ → Option A) → Tok → Option A
of_word read (tok.Word word) = read word
of_word read _ = None

abbrev pub base_of : List ℕ → Option Ty
base_of word =
    if pointwise nat_eq word (codes "bool") then Some ty.Bool else
    if pointwise nat_eq word (codes "int") then Some ty.Int else
    if pointwise nat_eq word (codes "string") then Some ty.Str else None

abbrev pub a_base_at : Tok → Option Ty
a_base_at = of_word base_of

abbrev pub a_base : Placed → Option Ty
a_base t = a_base_at t.what

abbrev pub unless : Option Ty → List ℕ → Option (List ℕ)
unless None word = Some word
unless (Some t) word = None

abbrev pub a_label_at : List (List ℕ × Ty) → Tok → Option (List ℕ)
a_label_at fields = of_word (λ word. unless (at_label word fields) word)

abbrev pub a_label : List (List ℕ × Ty) → Placed → Option (List ℕ)
a_label fields t = a_label_at fields t.what

abbrev pub mark : Sym → Reader Placed (Unit {0})
mark s = one (a_symbol s)

-- ---- types, where e reads those inside brackets

module _ (e : Reader Placed Ty) where
  abbrev pub field : List (List ℕ × Ty) → Reader Placed (List ℕ × Ty)
  field fields = both (one (a_label fields)) (behind (mark sym.Colon) e)

  abbrev pub more : ℕ → List (List ℕ × Ty) → Reader Placed (List (List ℕ × Ty))
  more zero fields ts = fail bad ts
  more (suc k) fields ts = pick (is_symbol sym.Comma) (chain (behind (mark sym.Comma) (field fields)) (λ f. more k (put fields f)))
      (nothing fields) ts

  abbrev pub others : List (List ℕ × Ty) → Reader Placed (List (List ℕ × Ty))
  others fields ts = more (suc (length ts)) fields ts

  abbrev pub fields : Reader Placed (List (List ℕ × Ty))
  fields = chain (field []) (λ f. others (put [] f))

  -- what stands behind an opener
  abbrev pub in_coll : Kind → Reader Placed Ty
  in_coll k = before e (mark (closer k))

  abbrev pub in_rec : Reader Placed (List (List ℕ × Ty))
  in_rec = before (pick is_word fields (nothing [])) (mark sym.CloseRec)

  abbrev pub in_var : Reader Placed (List (List ℕ × Ty))
  in_var = before fields (mark sym.Gt)

  abbrev pub coll : Kind → Reader Placed Ty
  coll k = made (ty.Coll k) (behind (mark (opener k)) (in_coll k))

  abbrev pub rec : Reader Placed Ty
  rec = made ty.Rec (behind (mark sym.OpenRec) in_rec)

  abbrev pub var : Reader Placed Ty
  var = made ty.Var (behind (mark sym.Lt) in_var)

  unfoldable pub a_type : Bool → Reader Placed Ty
  a_type may =
      opening (is_symbol sym.OpenSet) may (coll kind.Set)
      (opening (is_symbol sym.OpenBag) may (coll kind.Bag)
      (opening (is_symbol sym.OpenList) may (coll kind.List)
      (opening (is_symbol sym.OpenRec) may rec (opening (is_symbol sym.Lt) may var (one a_base)))))

abbrev pub never : Reader Placed Ty
never ts = fail deep ts

unfoldable pub reads : ℕ → Reader Placed Ty
reads zero = a_type never false
reads (suc depth) = a_type (reads depth) true

-- ---- as the code goes, by how deep nesting may go on

abbrev pub inside : ℕ → Reader Placed Ty
inside zero = never
inside (suc n) = reads n
