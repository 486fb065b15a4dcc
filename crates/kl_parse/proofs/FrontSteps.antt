-- What a first token is, as the code finds it.
use Rattle.std.proofs.Common.{◌≡◌, ℕ, suc, ◌-◌, ◌<◌, ◌≤◌, Bool, true, false, ◌&&◌, nat_lt, List, [], ◌∷◌, length, take, drop, get_or, Some, refl, sym, ap, ◌∙◌, arith}
use Rattle.std.proofs.lemmas.Bool.{ltb-true, and_parts}
use Rattle.kl_lex.specs.declared.token.Sym.{Sym}
use Rattle.kl_lex.specs.declared.token.Tok.{Tok}
use Rattle.kl_lex.specs.declared.token.Tok.TheVariants as tok
use Rattle.kl_lex.specs.declared.token.Token.{Token}
use Rattle.kl_parse.specs.declared.operator.Level.{Level}
use Rattle.kl_syntax.specs.declared.tree.Op.{Op}
use Rattle.kl_parse.specs.Kinds.{has, kind_at, among, is_symbol, symbol_kind, label_kinds, op_kinds, op_at, of_level, an_op}
use Rattle.kl_parse.proofs.KindLemmas.{symbol_at, has_or, either, decides_op, op_among}
use Rattle.kl_phrase.specs.Words.{heads}
use Rattle.kl_phrase.specs.Readers.{one, ok}

first_false : (test : Token → Bool) (ts : List Token) (t : Token) → 1 ≤ length ts → test (get_or ts 0 t) ≡ false → heads test ts ≡ false
first_false test [] t le h = absurd (omega arith)
first_false test (x ∷ ts) t le h = h

no_symbol : (s : Sym) (w : Tok) → ((x : Sym) → w ≡ tok.Sym x → ⊥) → has (kind_at w) (symbol_kind s ∷ []) ≡ false
no_symbol s w none = go (has (kind_at w) (symbol_kind s ∷ [])) refl
  where
    go : (b : Bool) → has (kind_at w) (symbol_kind s ∷ []) ≡ b → has (kind_at w) (symbol_kind s ∷ []) ≡ false
    go false e = e
    go true e = absurd (either (has_or (kind_at w) (symbol_kind s) [] e) (λ i. none s (symbol_at s w i)) (λ (f : has (kind_at w) [] ≡ true). let z : false ≡ true = f in cc))

pub not_symbol : (s : Sym) (ts : List Token) (t : Token) → 1 ≤ length ts → ((x : Sym) → (get_or ts 0 t).what ≡ tok.Sym x → ⊥) → heads (is_symbol s) ts ≡ false
not_symbol s ts t le none = first_false (is_symbol s) ts t le (no_symbol s (get_or ts 0 t).what none)

below : List ℕ → Bool
below [] = true
below (k ∷ kinds) = nat_lt k 18 && below kinds

in_below : (k : ℕ) (kinds : List ℕ) → below kinds ≡ true → has k kinds ≡ true → k < 18
unfolding below
in_below k [] h i = absurd cc
in_below k (j ∷ kinds) h i = let two = and_parts (nat_lt j 18) (below kinds) h in either (has_or k j kinds i) (λ e. let l : j < 18 = ltb-true j 18 two.0 in omega arith) (in_below k kinds two.1)

no_word : (w : Tok) → ((x : List ℕ) → w ≡ tok.Word x → ⊥) → has (kind_at w) label_kinds ≡ false
unfolding below
no_word (tok.Sym s) none = go (has (symbol_kind s) label_kinds) refl
  where
    go : (b : Bool) → has (symbol_kind s) label_kinds ≡ b → has (symbol_kind s) label_kinds ≡ false
    go false e = e
    go true e = absurd (let l = in_below (symbol_kind s) label_kinds refl e in omega arith)
no_word (tok.Word w) none = absurd (none w refl)
no_word (tok.Int n) none = refl
no_word tok.Big none = refl
no_word (tok.Text x) none = refl

pub not_word : (ts : List Token) (t : Token) → 1 ≤ length ts → ((x : List ℕ) → (get_or ts 0 t).what ≡ tok.Word x → ⊥) → heads (among label_kinds) ts ≡ false
not_word ts t le none = first_false (among label_kinds) ts t le (no_word (get_or ts 0 t).what none)

whole_take : (ts : List Token) → take (length ts) ts ≡ ts
whole_take [] = refl
whole_take (t ∷ ts) = ap (λ z. t ∷ z) (whole_take ts)

pub is_op_at : (l : Level) (ts : List Token) (t : Token) (o : Op) → 1 ≤ length ts → of_level l (op_at (get_or ts 0 t).what) ≡ Some o → (heads (among (op_kinds l)) ts ≡ true) × (one (an_op l) ts ≡ ok o (take (length ts - 1) (drop 1 ts)))
is_op_at l [] t o le h = absurd (omega arith)
is_op_at l (x ∷ ts) t o le h =
    let k : suc (length ts) - 1 ≡ length ts = omega arith in
    let e : take (suc (length ts) - 1) ts ≡ ts = ap (λ n. take n ts) k ∙ whole_take ts in
    (op_among l x o ((decides_op l).0 x o h), rw h (ap (ok o) (sym e)))
