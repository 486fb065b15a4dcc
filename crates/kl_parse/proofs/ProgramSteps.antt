-- What the code's steps say of the descent through definitions.
use Rattle.std.proofs.Common.{◌≡◌, ℕ, ◌<◌, List, [], ◌∷◌, ◌++◌, length, Option, ap, ◌∙◌}
use Rattle.kl_lex.specs.declared.token.Sym.TheVariants as sy
use Rattle.kl_lex.specs.declared.token.Token.{Token}
use Rattle.kl_lex.specs.declared.keyword.Keyword.TheVariants as key
use Rattle.kl_phrase.specs.declared.fault.Fault.{Fault}
use Rattle.kl_syntax.specs.declared.tree.Word.{Word}
use Rattle.kl_syntax.specs.declared.tree.Pattern.{Pattern}
use Rattle.kl_syntax.specs.declared.tree.Expr.{Expr}
use Rattle.kl_syntax.specs.declared.tree.Decl.{Decl}
use Rattle.kl_phrase.specs.Gives.{Fails}
use Rattle.kl_parse.specs.Grammar.{decl_of, whole}
use Rattle.kl_parse.specs.Kinds.{is_key}
use Rattle.kl_parse.specs.Descent as d
use Rattle.kl_parse.specs.Descent.{mark}
use Rattle.kl_parse.proofs.Kepts.{same_reads, same_body, keeps_rest}
use Rattle.kl_parse.proofs.Steps.{AheadKey, behind_key, heads_key}
use Rattle.kl_phrase.specs.Readers.{Out, ok, Reader, after, behind, before, both}
use Rattle.kl_phrase.proofs.Kept.{Rests, keeps_made, rest_less}
use Rattle.kl_phrase.proofs.Gathered.{Progress, goes_on, part_fails}
use Rattle.kl_phrase.proofs.Exact.{Each}

abbrev pub ADecl : ℕ → ℕ → Reader Token Decl
ADecl N n = d.decl N (d.read_pat N n) (d.reads N n whole)

decl_at : (N n : ℕ) (rest more : List Token) → AheadKey key.Define rest more → ADecl N n rest ≡ d.decl_rest N n more
decl_at N n rest more a = ap (λ (o : Out Token (Word × (Option Pattern × Expr))). after {B = Decl} o (λ x s. ok (decl_of x) s)) (behind_key key.Define (both (d.name N) (behind (mark sy.Equals) (before (d.body (d.read_pat N n) (d.reads N n whole)) (mark sy.Semi)))) rest more a)

rests_decl : (N n : ℕ) (ts : List Token) → Rests ts (d.decl_rest N n ts)
rests_decl N n ts = (keeps_made decl_of (keeps_rest Each N N n n (same_reads N N n whole) (same_body N N n (same_reads N N n whole)))).rests ts

pub decl_less : (N n : ℕ) (rest more r : List Token) (a : Decl) → AheadKey key.Define rest more → d.decl_rest N n more ≡ ok a r → length r < length rest
decl_less N n rest more r a (t, e, h) i = rest_less t rest more r a (d.decl_rest N n more) e (rests_decl N n more) i

pub decl_on : (N n : ℕ) (list : Out Token (List Decl)) (found : List Decl) (rest more r : List Token) (a : Decl) → AheadKey key.Define rest more → d.decl_rest N n more ≡ ok a r → Progress (is_key key.Define) (ADecl N n) list found rest → Progress (is_key key.Define) (ADecl N n) list (found ++ a ∷ []) r
decl_on N n list found rest more r a ahead e so = goes_on (is_key key.Define) (ADecl N n) list found rest r a (heads_key key.Define rest more ahead) (decl_at N n rest more ahead ∙ e) (decl_less N n rest more r a ahead e) so

pub decl_fails : (N n : ℕ) (list : Out Token (List Decl)) (found : List Decl) (rest more : List Token) (f : Fault Token) → AheadKey key.Define rest more → Fails f (d.decl_rest N n more) → Progress (is_key key.Define) (ADecl N n) list found rest → Fails f list
decl_fails N n list found rest more f ahead = part_fails (is_key key.Define) (ADecl N n) (d.decl_rest N n more) list found rest f (heads_key key.Define rest more ahead) (λ w s e. decl_at N n rest more ahead ∙ e)
