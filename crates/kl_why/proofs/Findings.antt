-- What is found of a text.
use Rattle.std.proofs.Common.{◌≡◌, ℕ, List, length, Ok, Err, sym, ap, subst, ◌∙◌}
use Rattle.kl_type.specs.Ground.{Ground}
use Rattle.kl_lex.specs.Lexing.{Tokens}
use Rattle.kl_lex.specs.declared.token.Token.{Token}
use Rattle.kl_syntax.specs.declared.tree.Program.{Program}
use Rattle.kl_parse.specs.Parsing.{IsProgram, IsSyntaxPlace, IsDeepPlace}
use Rattle.kl_scope.specs.Breaches.{IsRefusal, Resolves}
use Rattle.kl_scope.specs.Senses.{Name}
use Rattle.kl_scope.specs.declared.refusal.ScopeError.{ScopeError}
use Rattle.kl_scope.specs.declared.refusal.ScopeError.TheVariants as breach
use Rattle.kl_scope.specs.declared.scoped.Scoped.{Scoped}
use Rattle.kl_why.specs.Programs.{HasNoTyping, IsWrong, Judges, Reads, ReadsScope, Spells, UnfitAt, scope_refusal}
use Rattle.kl_why.specs.Tokens.{token_byte}
use Rattle.kl_why.specs.Untyped.{HasNoType}
use Rattle.kl_why.specs.declared.program.Read.{Read}
use Rattle.kl_why.specs.declared.wrong.Refusal.{Refusal}
use Rattle.kl_why.specs.declared.wrong.Refusal.TheVariants as refusal
use Rattle.kl_why.specs.declared.wrong.Wrong.{Wrong}
use Rattle.kl_why.specs.declared.wrong.Wrong.TheVariants as wrong

-- the layers saw the tokens under other names
module _ (names : List Name) (text : List ℕ) (ts us vs : List Token) (tokens : Tokens text ts) (same : us ≡ ts) (also : vs ≡ ts) where
  pub found_syntax : (k byte : ℕ) → IsSyntaxPlace us k → byte ≡ token_byte (length text) vs k → ReadsScope names text (Err (refusal.Wrong wrong.Syntax byte))
  found_syntax k byte place is = λ grounds. (ts, k, tokens, subst (λ r. IsSyntaxPlace r k) same place, is ∙ ap (λ r. token_byte (length text) r k) also)

  pub found_deep : (k byte : ℕ) → IsDeepPlace us k → byte ≡ token_byte (length text) vs k → ReadsScope names text (Err (refusal.Wrong wrong.Nesting byte))
  found_deep k byte place is = λ grounds. (ts, k, tokens, subst (λ r. IsDeepPlace r k) same place, is ∙ ap (λ r. token_byte (length text) r k) also)

  spelled : (p : Program) → IsProgram us p → Spells text ts p
  spelled p reads = record { tokens = tokens; program = subst (λ r. IsProgram r p) same reads }

  broken : (p : Program) (e : ScopeError) → IsProgram us p → IsRefusal p names e → ReadsScope names text (Err (scope_refusal (length text) vs e))
  broken p (breach.Unknown name k) reads first = λ grounds. (ts, p, k, spelled p reads, first, ap (λ r. token_byte (length text) r k) also)
  broken p (breach.Twice name k) reads first = λ grounds. (ts, p, k, spelled p reads, first, ap (λ r. token_byte (length text) r k) also)
  broken p (breach.Misapplied name k) reads first = λ grounds. (ts, p, k, spelled p reads, first, ap (λ r. token_byte (length text) r k) also)
  broken p (breach.Refutable k) reads first = λ grounds. (ts, p, k, spelled p reads, first, ap (λ r. token_byte (length text) r k) also)
  broken p breach.NoMemory reads first = tt

  pub found_breach : (p : Program) (e : ScopeError) (r : Refusal) → IsProgram us p → IsRefusal p names e → r ≡ scope_refusal (length text) vs e → ReadsScope names text (Err r)
  found_breach p e r reads first is = subst (λ x. ReadsScope names text (Err x)) (sym is) (broken p e reads first)

pub found_scope : (names : List Name) (text : List ℕ) (ts us : List Token) (p : Program) (s : Scoped) (r : Read) → Tokens text ts → us ≡ ts → IsProgram us p → Resolves p names s
    → r.tokens ≡ ts → r.scoped ≡ s → ReadsScope names text (Ok r)
found_scope names text ts us p s r tokens same reads resolves tokens_are scoped_is = (
  p,
  record { tokens = subst (λ x. Tokens text x) (sym tokens_are) tokens; program = subst (λ x. IsProgram x p) (same ∙ sym tokens_are) reads },
  subst (λ x. Resolves p names x) (sym scoped_is) resolves,
)

-- ---- what is wrong with a declaration

unfit : (names : List Name) (grounds : List (Name × Ground)) (text : List ℕ) (r : Read) (p : Program) (w : Wrong) (byte : ℕ) → Spells text r.tokens p → Resolves p names r.scoped
    → UnfitAt (length text) r.tokens grounds r.scoped w byte → IsWrong names grounds text w byte
unfit names grounds text r p wrong.TermNodes byte spells resolves (n, fails, is) = (r.tokens, p, r.scoped, n, spells, resolves, fails, is)
unfit names grounds text r p wrong.TermDepth byte spells resolves (n, fails, is) = (r.tokens, p, r.scoped, n, spells, resolves, fails, is)
unfit names grounds text r p wrong.NoTyping byte spells resolves (n, fails, is) = (r.tokens, p, r.scoped, n, spells, resolves, fails, is)
unfit names grounds text r p wrong.NoToken byte spells resolves (n, fails, is) = absurd fails
unfit names grounds text r p wrong.Syntax byte spells resolves (n, fails, is) = absurd fails
unfit names grounds text r p wrong.Nesting byte spells resolves (n, fails, is) = absurd fails
unfit names grounds text r p (wrong.Unknown name) byte spells resolves (n, fails, is) = absurd fails
unfit names grounds text r p (wrong.Twice name) byte spells resolves (n, fails, is) = absurd fails
unfit names grounds text r p (wrong.Misapplied name) byte spells resolves (n, fails, is) = absurd fails
unfit names grounds text r p wrong.Refutable byte spells resolves (n, fails, is) = absurd fails
unfit names grounds text r p wrong.NoCatalogue byte spells resolves (n, fails, is) = absurd fails
unfit names grounds text r p (wrong.NameTwice name) byte spells resolves (n, fails, is) = absurd fails
unfit names grounds text r p (wrong.NoDriver name) byte spells resolves (n, fails, is) = absurd fails
unfit names grounds text r p (wrong.Unsuited name) byte spells resolves (n, fails, is) = absurd fails

-- the text was read as this, and the program in scope was judged
module _ (names : List Name) (grounds : List (Name × Ground)) (text : List ℕ) (r : Read) (us : List Token) (total : ℕ) (same : us ≡ r.tokens) (all : total ≡ length text) (read : ReadsScope names text (Ok r)) where
  pub read_unfit : (e : Refusal) → Judges total us grounds r.scoped (Err e) → Reads names grounds text (Err e)
  read_unfit (refusal.Wrong w byte) judged =
      unfit names grounds text r read.0 w byte read.1 read.2
      (subst (λ n. UnfitAt n r.tokens grounds r.scoped w byte) all (subst (λ x. UnfitAt total x grounds r.scoped w byte) same judged))
  read_unfit refusal.NoMemory judged = tt

-- a program in scope was read, and has no typing
pub no_type : (names : List Name) (grounds : List (Name × Ground)) (text : List ℕ) (r : Read) (n : ℕ) → ReadsScope names text (Ok r) → HasNoTyping grounds r.scoped n → HasNoType names grounds text
no_type names grounds text r n (p, spells, resolves) fails = (r.tokens, p, r.scoped, n, spells, resolves, fails)
