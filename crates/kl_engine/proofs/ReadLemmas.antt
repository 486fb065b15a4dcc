-- What is read of the text of a program, and that this is all that can be told of it.
use Rattle.std.proofs.Common.{◌≡◌, inl, inr, ℕ, ◌+◌, ◌≤◌, ◌==◌, if◌then◌else◌, List, [], ◌∷◌, length, Ok, Err, refl, sym, ap, subst, ◌∙◌, arith}
use Rattle.kl_lex.specs.declared.token.Token.{Token}
use Rattle.kl_lex.specs.Lexing.{Tokens, PlacesRise}
use Rattle.kl_lex.proofs.OneLexing as lexing
use Rattle.kl_parse.specs.Parsing.{IsProgram, IsSyntaxPlace, IsDeepPlace}
use Rattle.kl_parse.proofs.Answer.{unique, one_place}
use Rattle.kl_syntax.specs.declared.tree.Program.{Program}
use Rattle.kl_scope.specs.Breaches.{NotAfter, InScope, IsFirstBreach, IsRefusal, Resolves}
use Rattle.kl_scope.specs.Ranks.{token_of, rule_of}
use Rattle.kl_scope.specs.Senses.{Name}
use Rattle.kl_scope.specs.declared.refusal.ScopeError.{ScopeError}
use Rattle.kl_scope.specs.declared.refusal.ScopeError.TheVariants.{Unknown, Twice, Misapplied, Refutable, NoMemory}
use Rattle.kl_scope.specs.declared.scoped.Scoped.{Scoped}
use Rattle.kl_engine.specs.Answering.{unnamed, SameVerdict, one, renamed}
use Rattle.kl_engine.specs.Reading.{byte_of, scope_fault, IsBreach, IsScopeFault, IsTokensFault, IsTextFault, IsProgramOf, ReadsText}
use Rattle.kl_engine.specs.Verdict.{refused}
use Rattle.kl_engine.specs.declared.fault.Fault.{Fault}
use Rattle.kl_engine.specs.declared.fault.Fault.TheVariants as fault
use Rattle.kl_engine.specs.declared.fault.Wrong.{Wrong}
use Rattle.kl_engine.specs.declared.fault.Wrong.TheVariants as wrong

-- ---- which faults a text has

module _ (P : Fault → Type 0) (bad : (w : Wrong) (byte : ℕ) → P (fault.Text w byte)) (deep : P fault.Nesting) where
  any_breach : (ts : List Token) (size : ℕ) (e : ScopeError) → IsBreach e → P (scope_fault ts size e)
  any_breach ts size (Unknown name token) is = bad (wrong.Unknown name) (byte_of ts token size)
  any_breach ts size (Twice name token) is = bad (wrong.Twice name) (byte_of ts token size)
  any_breach ts size (Misapplied name token) is = bad (wrong.Misapplied name) (byte_of ts token size)
  any_breach ts size (Refutable token) is = bad wrong.Refutable (byte_of ts token size)
  any_breach ts size NoMemory is = absurd is

  -- each fault of a text is one of these
  pub any_fault : (names : List Name) (bytes : List ℕ) (f : Fault) → IsTextFault names bytes f → P f
  any_fault names bytes f (inl (ts, tokens, inl (p, e, reads, breach, first, is))) = subst P (sym is) (any_breach ts (length bytes) e breach)
  any_fault names bytes f (inl (ts, tokens, inr (inl (k, place, is)))) = subst P (sym is) (bad wrong.Syntax (byte_of ts k (length bytes)))
  any_fault names bytes f (inl (ts, tokens, inr (inr (k, place, is)))) = subst P (sym is) deep
  any_fault names bytes f (inr (byte, none, is)) = subst P (sym is) (bad wrong.NoToken byte)

-- ---- two faults of one text are alike

abbrev wrong_of : ScopeError → Wrong
wrong_of (Unknown name token) = wrong.Unknown name
wrong_of (Twice name token) = wrong.Twice name
wrong_of (Misapplied name token) = wrong.Misapplied name
wrong_of _ = wrong.Refutable

fault_is : (ts : List Token) (size : ℕ) (e : ScopeError) → IsBreach e → scope_fault ts size e ≡ fault.Text (wrong_of e) (byte_of ts (token_of e) size)
fault_is ts size (Unknown name token) is = refl
fault_is ts size (Twice name token) is = refl
fault_is ts size (Misapplied name token) is = refl
fault_is ts size (Refutable token) is = refl
fault_is ts size NoMemory is = absurd is

abbrev by_rule : ℕ → Wrong
by_rule n = if n == 1 then wrong.Unknown [] else if n == 2 then wrong.Twice [] else if n == 3 then wrong.Misapplied [] else wrong.Refutable

unnamed_is : (e : ScopeError) → unnamed (wrong_of e) ≡ by_rule (rule_of e)
unnamed_is (Unknown name token) = refl
unnamed_is (Twice name token) = refl
unnamed_is (Misapplied name token) = refl
unnamed_is (Refutable token) = refl
unnamed_is NoMemory = refl

same_rank : (e f : ScopeError) → NotAfter e f → NotAfter f e → (token_of e ≡ token_of f) × (rule_of e ≡ rule_of f)
same_rank e f (inl a) (inl b) = absurd (omega (arith, a, b))
same_rank e f (inl a) (inr b) = absurd (let same = b.0 in omega (arith, a, same))
same_rank e f (inr a) (inl b) = absurd (let same = a.0 in omega (arith, b, same))
same_rank e f (inr a) (inr b) = (a.0, let this = a.1 in let that = b.1 in omega (arith, this, that))

scope_alike : (L : Type 0) (names : List Name) (ts : List Token) (size : ℕ) (f g : Fault) → IsScopeFault names ts size f → IsScopeFault names ts size g → SameVerdict L (refused f) (refused g)
scope_alike L names ts size f g (p, e, reads, breach, first, is) (q, d, again, also, second, it) =
    let too : IsFirstBreach p names d = subst (λ r. IsFirstBreach r names d) (unique ts q p again reads) second in
    let same = same_rank e d (first.first d too.breaks) (too.first e first.breaks) in
    renamed (wrong_of e) (wrong_of d) (byte_of ts (token_of e) size)
    (ap refused (is ∙ fault_is ts size e breach))
    (ap refused (it ∙ (fault_is ts size d also ∙ ap (λ n. fault.Text (wrong_of d) (byte_of ts n size)) (sym same.0))))
    (unnamed_is e ∙ (ap by_rule same.1 ∙ sym (unnamed_is d)))

tokens_alike : (L : Type 0) (names : List Name) (ts : List Token) (size : ℕ) (f g : Fault) → IsTokensFault names ts size f → IsTokensFault names ts size g → SameVerdict L (refused f) (refused g)
tokens_alike L names ts size f g (inl this) (inl that) = scope_alike L names ts size f g this that
tokens_alike L names ts size f g (inl (p, e, reads, breach, first, was)) (inr (inl (k, place, it))) = absurd ((one_place ts).no_syntax p k reads place)
tokens_alike L names ts size f g (inl (p, e, reads, breach, first, was)) (inr (inr (k, place, it))) = absurd ((one_place ts).no_deep p k reads place)
tokens_alike L names ts size f g (inr (inl (k, place, is))) (inl (p, e, reads, breach, first, was)) = absurd ((one_place ts).no_syntax p k reads place)
tokens_alike L names ts size f g (inr (inl (k, place, is))) (inr (inl (j, also, it))) = one (ap refused (is ∙ (ap (λ n. fault.Text wrong.Syntax (byte_of ts n size)) ((one_place ts).one_syntax k j place also) ∙ sym it)))
tokens_alike L names ts size f g (inr (inl (k, place, is))) (inr (inr (j, also, it))) = absurd ((one_place ts).apart k j place also)
tokens_alike L names ts size f g (inr (inr (k, place, is))) (inl (p, e, reads, breach, first, was)) = absurd ((one_place ts).no_deep p k reads place)
tokens_alike L names ts size f g (inr (inr (k, place, is))) (inr (inl (j, also, it))) = absurd ((one_place ts).apart j k also place)
tokens_alike L names ts size f g (inr (inr (k, place, is))) (inr (inr (j, also, it))) = one (ap refused (is ∙ sym it))

pub faults_alike : (L : Type 0) (names : List Name) (bytes : List ℕ) (f g : Fault) → IsTextFault names bytes f → IsTextFault names bytes g → SameVerdict L (refused f) (refused g)
faults_alike L names bytes f g (inl (ts, tokens, ends)) (inl (us, also, too)) =
    tokens_alike L names us (length bytes) f g (subst (λ r. IsTokensFault names r (length bytes) f) (lexing.unique bytes ts us tokens also) ends) too
faults_alike L names bytes f g (inl (ts, tokens, ends)) (inr (byte, none, it)) = absurd (lexing.refused bytes byte ts none tokens)
faults_alike L names bytes f g (inr (byte, none, is)) (inl (ts, tokens, ends)) = absurd (lexing.refused bytes byte ts none tokens)
faults_alike L names bytes f g (inr (byte, none, is)) (inr (byte2, none2, it)) =
    one (ap refused (is ∙ (ap (λ n. fault.Text wrong.NoToken n) (lexing.one_byte bytes byte byte2 none none2) ∙ sym it)))

-- ---- a text in scope is one program, and has no fault

tokens_whole : (names : List Name) (ts : List Token) (size : ℕ) (f : Fault) (p : Program) → IsProgram ts p → InScope p names → IsTokensFault names ts size f → ⊥
tokens_whole names ts size f p reads scope (inl (q, e, again, breach, first, is)) = scope e (subst (λ r. IsFirstBreach r names e) (unique ts q p again reads) first).breaks
tokens_whole names ts size f p reads scope (inr (inl (k, place, is))) = (one_place ts).no_syntax p k reads place
tokens_whole names ts size f p reads scope (inr (inr (k, place, is))) = (one_place ts).no_deep p k reads place

pub no_fault : (names : List Name) (bytes : List ℕ) (f : Fault) (p : Program) → IsProgramOf names bytes p → IsTextFault names bytes f → ⊥
no_fault names bytes f p whole (inl (ts, tokens, ends)) =
    tokens_whole names whole.tokens (length bytes) f p whole.spelled whole.in_scope
    (subst (λ r. IsTokensFault names r (length bytes) f) (lexing.unique bytes ts whole.tokens tokens whole.lexed) ends)
no_fault names bytes f p whole (inr (byte, none, is)) = lexing.refused bytes byte whole.tokens none whole.lexed

pub one_program : (names : List Name) (bytes : List ℕ) (p q : Program) → IsProgramOf names bytes p → IsProgramOf names bytes q → p ≡ q
one_program names bytes p q this that =
    unique that.tokens p q (subst (λ r. IsProgram r p) (lexing.unique bytes this.tokens that.tokens this.lexed that.lexed) this.spelled) that.spelled

pub few_tokens : (place total : ℕ) (ts : List Token) → PlacesRise place total ts → place + length ts ≤ total
few_tokens place total [] rise = omega (arith, rise)
few_tokens place total (t ∷ ts) (after, full, more) = let rest = few_tokens t.to total ts more in omega (arith, after, full, rest)

-- ---- what is found

-- what is found of these tokens, which the layers saw under other names
pub found_deep : (names : List Name) (text : List ℕ) (ts us : List Token) (k : ℕ) → Tokens text ts → us ≡ ts → IsDeepPlace us k → ReadsText names text (Err fault.Nesting)
found_deep names text ts us k tokens same place = inr (inl (ts, tokens, inr (inr (k, subst (λ r. IsDeepPlace r k) same place, refl))))

pub found_wrong : (names : List Name) (text : List ℕ) (ts us vs : List Token) (k byte : ℕ) → Tokens text ts → us ≡ ts → vs ≡ ts → IsSyntaxPlace us k → byte ≡ byte_of vs k (length text) → ReadsText names text (Err (fault.Text wrong.Syntax byte))
found_wrong names text ts us vs k byte tokens same also place is =
    inr (inl (ts, tokens, inr (inl (k, subst (λ r. IsSyntaxPlace r k) same place, ap (fault.Text wrong.Syntax) (is ∙ ap (λ r. byte_of r k (length text)) also)))))

pub found_program : (names : List Name) (text : List ℕ) (ts us : List Token) (p : Program) (s : Scoped) → Tokens text ts → us ≡ ts → IsProgram us p → Resolves p names s → ReadsText names text (Ok s)
found_program names text ts us p s tokens same reads resolves = (p, record { tokens = ts; lexed = tokens; spelled = subst (λ r. IsProgram r p) same reads; in_scope = resolves.in_scope }, resolves)

found_breach : (names : List Name) (text : List ℕ) (ts us vs : List Token) (p : Program) (e : ScopeError) → Tokens text ts → us ≡ ts → vs ≡ ts → IsProgram us p → IsRefusal p names e → ReadsText names text (Err (scope_fault vs (length text) e))
found_breach names text ts us vs p (Unknown name token) tokens same also reads first = inr (inl (ts, tokens, inl (p, Unknown name token, subst (λ r. IsProgram r p) same reads, tt, first, ap (λ r. scope_fault r (length text) (Unknown name token)) also)))
found_breach names text ts us vs p (Twice name token) tokens same also reads first = inr (inl (ts, tokens, inl (p, Twice name token, subst (λ r. IsProgram r p) same reads, tt, first, ap (λ r. scope_fault r (length text) (Twice name token)) also)))
found_breach names text ts us vs p (Misapplied name token) tokens same also reads first = inr (inl (ts, tokens, inl (p, Misapplied name token, subst (λ r. IsProgram r p) same reads, tt, first, ap (λ r. scope_fault r (length text) (Misapplied name token)) also)))
found_breach names text ts us vs p (Refutable token) tokens same also reads first = inr (inl (ts, tokens, inl (p, Refutable token, subst (λ r. IsProgram r p) same reads, tt, first, ap (λ r. scope_fault r (length text) (Refutable token)) also)))
found_breach names text ts us vs p NoMemory tokens same also reads first = inl refl

pub found_fault : (names : List Name) (text : List ℕ) (ts us vs : List Token) (p : Program) (e : ScopeError) (f : Fault) → Tokens text ts → us ≡ ts → vs ≡ ts → IsProgram us p → IsRefusal p names e → f ≡ scope_fault vs (length text) e → ReadsText names text (Err f)
found_fault names text ts us vs p e f tokens same also reads first is = subst (λ g. ReadsText names text (Err g)) (sym is) (found_breach names text ts us vs p e tokens same also reads first)
