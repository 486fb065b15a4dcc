-- Heads: which bytes state which type.
use Rattle.std.specs.Prelude.{◌≡◌, ℕ, Bool, false, List, [], ◌∷◌, ◌++◌, codes, ◌⊎◌, ⊤, IsTrue, is_some}
use Rattle.std.proofs.Common.{zero, suc}
use Rattle.kl_base.specs.Fields.{field}
use Rattle.kl_value.specs.Written.{opening, closing}
use Rattle.kl_value.specs.declared.Kind.{Kind}
use Rattle.kl_type.specs.Grammar.{put}
use Rattle.kl_type.specs.declared.ground.Ty.{Ty}
use Rattle.kl_type.specs.declared.ground.Ty.TheVariants as ty
use Rattle.kl_exchange.specs.Grammar.{Spelling, Blank, is_blank, Padded, Listed, SpellsLabel}

-- a type without brackets
pub data SpellsBase (bytes : List ℕ) (t : Ty) : Type 0 where
  truth : bytes ≡ codes "bool" → t ≡ ty.Bool → SpellsBase bytes t
  number : bytes ≡ codes "int" → t ≡ ty.Int → SpellsBase bytes t
  text : bytes ≡ codes "string" → t ≡ ty.Str → SpellsBase bytes t

-- LABEL ":" type, where S spells types
pub record SpellsFieldType (S : Spelling Ty) (bytes : List ℕ) (f : List ℕ × Ty) : Type 0 where
  pub name : List ℕ
  pub text : List ℕ
  pub is : bytes ≡ name ++ (codes ":" ++ text)
  pub label : Padded SpellsLabel name f.0
  pub inside : Padded S text f.1

-- fields of types, by rising label
abbrev pub Types : Type 0
Types = List (List ℕ × Ty)

-- some field has the label
abbrev pub has_label : Types → List ℕ → Bool
has_label fields l = is_some (field l fields)

-- fields with others put in one by one, each in its place
abbrev pub put_all : Types → Types → Types
put_all fields [] = fields
put_all fields (f ∷ others) = put_all (put fields f) others

-- and each label is a new one
abbrev pub AreNew : Types → Types → Type 0
AreNew fields [] = ⊤
AreNew fields (f ∷ others) = (has_label fields f.0 ≡ false) × AreNew (put fields f) others

-- A type with brackets, where S spells the types inside. Fields come in any order, no label repeats, and a variant type has
-- one at least.
pub data SpellsBracketType (S : Spelling Ty) (bytes : List ℕ) (t : Ty) : Type 0 where
  collection : (k : Kind) (inside : List ℕ) (item : Ty) → bytes ≡ opening k ++ (inside ++ closing k) → Padded S inside item
      → t ≡ ty.Coll k item → SpellsBracketType S bytes t
  fields : (inside : List ℕ) (fs : Types) → bytes ≡ codes "[" ++ (inside ++ codes "]") → Listed (SpellsFieldType S) inside fs
      → AreNew [] fs → t ≡ ty.Rec (put_all [] fs) → SpellsBracketType S bytes t
  cases : (inside : List ℕ) (f : List ℕ × Ty) (fs : Types) → bytes ≡ codes "<" ++ (inside ++ codes ">")
      → Listed (SpellsFieldType S) inside (f ∷ fs) → AreNew [] (f ∷ fs) → t ≡ ty.Var (put_all [] (f ∷ fs))
      → SpellsBracketType S bytes t

-- The bytes spell the type, with at most so many brackets open at a place.
abbrev pub SpellsType : ℕ → Spelling Ty
SpellsType zero bytes t = SpellsBase bytes t
SpellsType (suc n) bytes t = SpellsBase bytes t ⊎ SpellsBracketType (SpellsType n) bytes t

-- a head: `type`, white space, one byte of it at least, and a type with its `;`
pub record IsHead (n : ℕ) (bytes : List ℕ) (t : Ty) : Type 0 where
  pub before : List ℕ
  pub blank : ℕ
  pub text : List ℕ
  pub is : bytes ≡ before ++ (codes "type" ++ (blank ∷ (text ++ codes ";")))
  pub blank_before : Blank before
  pub apart : IsTrue (is_blank blank)
  pub states : Padded (SpellsType n) text t
