-- At which byte a token, a declaration or an entry begins.
use Rattle.std.specs.Prelude.{ℕ, zero, suc, List, [], ◌∷◌, cond, Bool, true, false}
use Rattle.std.specs.List.{slice_get}
use Rattle.std.specs.Option.{option_map, unwrap_or}
use Rattle.kl_lex.specs.declared.token.Sym.TheVariants as sym
use Rattle.kl_lex.specs.declared.token.Tok.{Tok}
use Rattle.kl_lex.specs.declared.token.Tok.TheVariants as tok
use Rattle.kl_lex.specs.declared.token.Token.{Token}

-- the byte at which these last tokens of a text of so many bytes begin
abbrev pub begin : ℕ → List Token → ℕ
begin total [] = total
begin total (t ∷ ts) = t.from

-- the byte of the token of this number, or that of the text's end where there is none
abbrev pub token_byte : ℕ → List Token → ℕ → ℕ
token_byte total ts n = unwrap_or (option_map (λ t. t.from) (slice_get ts n)) total

abbrev pub is_semi : Tok → Bool
is_semi (tok.Sym sym.Semi) = true
is_semi t = false

-- what stands behind so many semicolons
abbrev pub behind : ℕ → List Token → List Token
behind zero ts = ts
behind (suc n) [] = []
behind (suc n) (t ∷ ts) = cond (is_semi t.what) (behind n ts) (behind (suc n) ts)

-- the byte at which the declaration or the entry of this number begins, each of which has a semicolon behind it
abbrev pub part_byte : ℕ → List Token → ℕ → ℕ
part_byte total ts n = begin total (behind n ts)
