-- A type that a head states is one of the grammar of types over tokens, so it is proper.
use Rattle.std.proofs.Common.{◌≡◌, ℕ, zero, suc, ◌+◌, Bool, true, false, List, [], ◌∷◌, ◌++◌, length, codes, Option, Some, None, refl, inl, inr, true≢false}
use Rattle.std.specs.Prelude.{is_some}
use Rattle.kl_base.specs.Fields.{field}
use Rattle.kl_lex.specs.Brackets.{opener, closer}
use Rattle.kl_lex.specs.declared.token.Placed.{Placed}
use Rattle.kl_lex.specs.declared.token.Sym.TheVariants as sy
use Rattle.kl_lex.specs.declared.token.Tok.{Tok}
use Rattle.kl_lex.specs.declared.token.Tok.TheVariants as tok
use Rattle.kl_phrase.specs.Words.{Phrase, Never}
use Rattle.kl_value.specs.declared.Kind.{Kind}
use Rattle.kl_value.specs.declared.Kind.TheVariants as kind
use Rattle.kl_type.specs.Grammar.{put, IsBase, Field, MoreFields, no_more, one_more, Fields, Coll, AType, Reads}
use Rattle.kl_type.specs.Ground.{IsProper}
use Rattle.kl_type.specs.declared.ground.Ty.{Ty}
use Rattle.kl_type.specs.declared.ground.Ty.TheVariants as ty
use Rattle.kl_type.proofs.Proper.{reads_proper}
use Rattle.kl_exchange.specs.Grammar.{Spelling, Padded, More, Listed}
use Rattle.kl_heads.specs.Heads.{Types, has_label, put_all, AreNew, SpellsBase, SpellsFieldType, SpellsBracketType, SpellsType, IsHead}

-- a token anywhere
abbrev placed : Tok → Placed
placed what = record { what = what; from = 0; to = 0 }

base_reads : (bytes : List ℕ) (t : Ty) → SpellsBase bytes t → (p : Placed) × IsBase p t
base_reads bytes t (SpellsBase.truth is e) = (placed (tok.Word (codes "bool")), inl (refl, e))
base_reads bytes t (SpellsBase.number is e) = (placed (tok.Word (codes "int")), inr (inl (refl, e)))
base_reads bytes t (SpellsBase.text is e) = (placed (tok.Word (codes "string")), inr (inr (refl, e)))

base_type : (may : Bool) (E : Phrase Placed Ty) (n : ℕ) (bytes : List ℕ) (t : Ty) → SpellsBase bytes t → (ts : List Placed) × AType E may n t ts
base_type may E n bytes t s = let b = base_reads bytes t s in (b.0 ∷ [], inr (inr (inr (inr (inr (b.0, refl, b.1))))))

none_of : (o : Option Ty) → is_some o ≡ false → o ≡ None
none_of None h = refl
none_of (Some t) h = absurd (true≢false h)

module _ (E : Phrase Placed Ty) (S : Spelling Ty) (reads : (n : ℕ) (bytes : List ℕ) (t : Ty) → S bytes t → (ts : List Placed) × E n t ts) where
  field_reads : (fields : Types) (n : ℕ) (bytes : List ℕ) (f : List ℕ × Ty) → SpellsFieldType S bytes f → has_label fields f.0 ≡ false
      → (ts : List Placed) × Field E fields n f ts
  field_reads fields n bytes f s new =
      let inner = reads ((n + 1) + 1) s.inside.inside f.1 s.inside.spells in
      let word : Placed = placed (tok.Word f.0) in
      let colon : Placed = placed (tok.Sym sy.Colon) in (
        word ∷ colon ∷ inner.0,
        (
          word ∷ [],
          colon ∷ inner.0,
          refl,
          (word, refl, (refl, none_of (field f.0 fields) new)),
          (colon ∷ [], inner.0, refl, (colon, refl, refl), inner.1),
        ),
      )

  more_reads : (fields : Types) (n : ℕ) (bytes : List ℕ) (gs : Types) → More (SpellsFieldType S) bytes gs → AreNew fields gs
      → (ts : List Placed) × MoreFields E fields n (put_all fields gs) ts
  more_reads fields n bytes [] s new = ([], no_more)
  more_reads fields n bytes (g ∷ gs) s new =
      let comma : Placed = placed (tok.Sym sy.Comma) in
      let one = field_reads fields (n + 1) s.0 g s.3 new.0 in
      let rest = more_reads (put fields g) (n + length (comma ∷ one.0)) s.1 gs s.4 new.1 in
      ((comma ∷ one.0) ++ rest.0, one_more g (comma ∷ [], one.0, refl, (comma, refl, refl), one.1) rest.1)

  fields_reads : (n : ℕ) (bytes : List ℕ) (f : List ℕ × Ty) (fs : Types) → Listed (SpellsFieldType S) bytes (f ∷ fs) → AreNew [] (f ∷ fs)
      → (ts : List Placed) × Fields E n (put_all [] (f ∷ fs)) ts
  fields_reads n bytes f fs s new =
      let one = field_reads [] n s.0 f s.3 new.0 in
      let rest = more_reads (put [] f) (n + length one.0) s.1 fs s.4 new.1 in
      (one.0 ++ rest.0, (f, one.0, rest.0, refl, one.1, rest.1))

  coll_reads : (k : Kind) (n : ℕ) (inside : List ℕ) (item t : Ty) → Padded S inside item → t ≡ ty.Coll k item → (ts : List Placed) × Coll E k n t ts
  coll_reads k n inside item t s e =
      let open_ : Placed = placed (tok.Sym (opener k)) in
      let close : Placed = placed (tok.Sym (closer k)) in
      let inner = reads (n + 1) s.inside item s.spells in (
        open_ ∷ (inner.0 ++ close ∷ []),
        (
          item,
          e,
          (open_ ∷ [], inner.0 ++ close ∷ [], refl, (open_, refl, refl), (inner.0, close ∷ [], refl, inner.1, (close, refl, refl))),
        ),
      )

  bracket_reads : (n : ℕ) (bytes : List ℕ) (t : Ty) → SpellsBracketType S bytes t → (ts : List Placed) × AType E true n t ts
  bracket_reads n bytes t (SpellsBracketType.collection kind.Set inside item is s e) = let c = coll_reads kind.Set n inside item t s e in (c.0, inl (refl, c.1))
  bracket_reads n bytes t (SpellsBracketType.collection kind.Bag inside item is s e) = let c = coll_reads kind.Bag n inside item t s e in (c.0, inr (inl (refl, c.1)))
  bracket_reads n bytes t (SpellsBracketType.collection kind.List inside item is s e) = let c = coll_reads kind.List n inside item t s e in (c.0, inr (inr (inl (refl, c.1))))
  bracket_reads n bytes t (SpellsBracketType.fields inside [] is s new e) =
      let open_ : Placed = placed (tok.Sym sy.OpenRec) in
      let close : Placed = placed (tok.Sym sy.CloseRec) in
      (open_ ∷ close ∷ [], inr (inr (inr (inl (refl, ([], e, (open_ ∷ [], close ∷ [], refl, (open_, refl, refl), ([], close ∷ [], refl, inr (refl, refl), (close, refl, refl)))))))))
  bracket_reads n bytes t (SpellsBracketType.fields inside (f ∷ fs) is s new e) =
      let open_ : Placed = placed (tok.Sym sy.OpenRec) in
      let close : Placed = placed (tok.Sym sy.CloseRec) in
      let c = fields_reads (n + 1) inside f fs s new in
      (open_ ∷ (c.0 ++ close ∷ []), inr (inr (inr (inl (refl, (put_all [] (f ∷ fs), e, (open_ ∷ [], c.0 ++ close ∷ [], refl, (open_, refl, refl), (c.0, close ∷ [], refl, inl c.1, (close, refl, refl)))))))))
  bracket_reads n bytes t (SpellsBracketType.cases inside f fs is s new e) =
      let open_ : Placed = placed (tok.Sym sy.Lt) in
      let close : Placed = placed (tok.Sym sy.Gt) in
      let c = fields_reads (n + 1) inside f fs s new in
      (open_ ∷ (c.0 ++ close ∷ []), inr (inr (inr (inr (inl (refl, (put_all [] (f ∷ fs), e, (open_ ∷ [], c.0 ++ close ∷ [], refl, (open_, refl, refl), (c.0, close ∷ [], refl, c.1, (close, refl, refl))))))))))

type_reads : (n k : ℕ) (bytes : List ℕ) (t : Ty) → SpellsType n bytes t → (ts : List Placed) × Reads n k t ts
type_reads zero k bytes t s = base_type false Never k bytes t s
type_reads (suc n) k bytes t (inl s) = base_type true (Reads n) k bytes t s
type_reads (suc n) k bytes t (inr s) = bracket_reads (Reads n) (SpellsType n) (type_reads n) k bytes t s

pub type_proper : (n : ℕ) (bytes : List ℕ) (t : Ty) → SpellsType n bytes t → IsProper t
type_proper n bytes t s = let c = type_reads n 0 bytes t s in reads_proper n 0 t c.0 c.1

pub head_proper : (n : ℕ) (bytes : List ℕ) (t : Ty) → IsHead n bytes t → IsProper t
head_proper n bytes t h = type_proper n h.states.inside t h.states.spells
