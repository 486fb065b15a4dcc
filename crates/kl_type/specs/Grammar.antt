-- The grammar of types: which tokens spell which type, nested at most so deep.
use Rattle.std.specs.Prelude.{◌≡◌, ℕ, zero, suc, ◌+◌, Bool, true, false, List, [], ◌++◌, length, None, codes, ◌⊎◌}
use Rattle.std.specs.BTreeMap.{insert_entry}
use Rattle.kl_base.specs.Fields.{bytes_cmp, field}
use Rattle.kl_lex.specs.declared.token.Sym.{Sym}
use Rattle.kl_lex.specs.declared.token.Sym.TheVariants as sym
use Rattle.kl_lex.specs.declared.token.Tok.TheVariants as tok
use Rattle.kl_lex.specs.declared.token.Placed.{Placed}
use Rattle.kl_lex.specs.Brackets.{opener, closer}
use Rattle.kl_phrase.specs.Words.{Phrase, One, Then, Behind, Before, Made, Or, Optional, Opened, Never}
use Rattle.kl_value.specs.declared.Kind.{Kind}
use Rattle.kl_value.specs.declared.Kind.TheVariants as kind
use Rattle.kl_type.specs.declared.ground.Ty.{Ty}
use Rattle.kl_type.specs.declared.ground.Ty.TheVariants as ty

-- ---- one token

-- this symbol
abbrev pub IsSymbol : Sym → Placed → Unit {0} → Type 0
IsSymbol s t x = t.what ≡ tok.Sym s

abbrev pub Symbol : Sym → Phrase Placed (Unit {0})
Symbol s = One (IsSymbol s)

-- "bool" | "int" | "string"
abbrev pub IsBase : Placed → Ty → Type 0
IsBase t a =
    ((t.what ≡ tok.Word (codes "bool")) × (a ≡ ty.Bool))
    ⊎ (((t.what ≡ tok.Word (codes "int")) × (a ≡ ty.Int)) ⊎ ((t.what ≡ tok.Word (codes "string")) × (a ≡ ty.Str)))

-- LABEL: any word, but no label of these fields
abbrev pub IsLabel : List (List ℕ × Ty) → Placed → List ℕ → Type 0
IsLabel fields t label = (t.what ≡ tok.Word label) × (field label fields ≡ None)

-- ---- what stands inside brackets: types E

-- the fields with one more in its place, by rising label
abbrev pub put : List (List ℕ × Ty) → List ℕ × Ty → List (List ℕ × Ty)
put fields f = insert_entry bytes_cmp fields f.0 f.1

module _ (E : Phrase Placed Ty) where
  -- LABEL ":" type
  abbrev pub Field : List (List ℕ × Ty) → Phrase Placed (List ℕ × Ty)
  Field fields = Then (One (IsLabel fields)) (Behind (Symbol sym.Colon) E)

-- { "," LABEL ":" type }, behind these fields
pub data MoreFields (E : Phrase Placed Ty) : List (List ℕ × Ty) → ℕ → List (List ℕ × Ty) → List Placed → Type 0 where
  no_more : {fields : List (List ℕ × Ty)} {n : ℕ} → MoreFields E fields n fields []
  one_more : {fields all : List (List ℕ × Ty)} {n : ℕ} {u v : List Placed} (f : List ℕ × Ty)
      → Behind (Symbol sym.Comma) (Field E fields) n f u → MoreFields E (put fields f) (n + length u) all v
      → MoreFields E fields n all (u ++ v)

module _ (E : Phrase Placed Ty) where
  -- LABEL ":" type { "," LABEL ":" type }
  abbrev pub Fields : Phrase Placed (List (List ℕ × Ty))
  Fields n all ts = (f : List ℕ × Ty) × (u : List Placed) × (v : List Placed) × (ts ≡ u ++ v) × Field E [] n f u
      × MoreFields E (put [] f) (n + length u) all v

  -- "{" type "}" | "{|" type "|}" | "[|" type "|]"
  abbrev pub Coll : Kind → Phrase Placed Ty
  Coll k = Made (ty.Coll k) (Behind (Symbol (opener k)) (Before E (Symbol (closer k))))

  -- "[" [ fields ] "]"
  abbrev pub Rec : Phrase Placed Ty
  Rec = Made ty.Rec (Behind (Symbol sym.OpenRec) (Before (Optional [] Fields) (Symbol sym.CloseRec)))

  -- "<" fields ">"
  abbrev pub Var : Phrase Placed Ty
  Var = Made ty.Var (Behind (Symbol sym.Lt) (Before Fields (Symbol sym.Gt)))

  -- type := coll | record | variant | base, where nesting may go on
  abbrev pub AType : Bool → Phrase Placed Ty
  AType may =
      Or (Opened may (Coll kind.Set)) (Or (Opened may (Coll kind.Bag)) (Or (Opened may (Coll kind.List))
      (Or (Opened may Rec) (Or (Opened may Var) (One IsBase)))))

-- the tokens are this type, nested at most so deep
abbrev pub Reads : ℕ → Phrase Placed Ty
Reads zero = AType Never false
Reads (suc depth) = AType (Reads depth) true
