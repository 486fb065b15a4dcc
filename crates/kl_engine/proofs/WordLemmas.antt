-- A word is one type, or none for one reason.
use Rattle.std.proofs.Common.{◌≡◌, inl, inr, ℕ, List, drop, length, map, Err, sym, ap, subst, ◌∙◌}
use Rattle.kl_lex.specs.Placing.{token_of}
use Rattle.kl_lex.proofs.OneLexing.{placed as one_placed, one_byte, refused as refused_no_tokens}
use Rattle.kl_type.specs.Grammar.{Reads}
use Rattle.kl_type.specs.Reading.{ReadsType, SpellsType, RefusesType}
use Rattle.kl_type.specs.Texts.{byte_of, IsBadAt, IsDeepAt}
use Rattle.kl_type.specs.declared.Ty.{Ty}
use Rattle.kl_type.specs.declared.TypeError.TheVariants.{Bad, TooDeep}
use Rattle.kl_type.proofs.Answer.{unique, one_place}
use Rattle.kl_engine.specs.Verdict.{IsTypeFault}
use Rattle.kl_engine.specs.declared.fault.Fault.{Fault}
use Rattle.kl_engine.specs.declared.fault.Fault.TheVariants as fault

pub one_type : (bytes : List ℕ) (t u : Ty) → ReadsType bytes t → ReadsType bytes u → t ≡ u
one_type bytes t u (ts, placed, spelled) (us, also, too) = unique ts t u spelled (subst (λ ks. SpellsType ks u) (sym (one_placed bytes ts us placed also)) too)

bad_none : (bytes : List ℕ) (t : Ty) (b : ℕ) → ReadsType bytes t → RefusesType bytes (Err (Bad b)) → ⊥
bad_none bytes t b (ts, placed, spelled) (inl refused) = refused_no_tokens bytes b (map token_of ts) refused placed
bad_none bytes t b (ts, placed, spelled) (inr (us, also, (k, bad, at))) = (one_place ts).no_bad t k spelled (subst (λ ks. IsBadAt Reads ks k) (sym (one_placed bytes ts us placed also)) bad)

deep_none : (bytes : List ℕ) (t : Ty) (b : ℕ) → ReadsType bytes t → RefusesType bytes (Err (TooDeep b)) → ⊥
deep_none bytes t b (ts, placed, spelled) (us, also, (k, deep, at)) = (one_place ts).no_deep t k spelled (subst (λ ks. IsDeepAt Reads ks k) (sym (one_placed bytes ts us placed also)) deep)

one_bad : (bytes : List ℕ) (b d : ℕ) → RefusesType bytes (Err (Bad b)) → RefusesType bytes (Err (Bad d)) → b ≡ d
one_bad bytes b d (inl this) (inl that) = one_byte bytes b d this that
one_bad bytes b d (inl this) (inr (us, also, (k, bad, at))) = absurd (refused_no_tokens bytes b (map token_of us) this also)
one_bad bytes b d (inr (ts, placed, (j, bad, at))) (inl that) = absurd (refused_no_tokens bytes d (map token_of ts) that placed)
one_bad bytes b d (inr (ts, placed, (j, this, at))) (inr (us, also, (k, that, there))) =
    let here : IsBadAt Reads ts k = subst (λ ks. IsBadAt Reads ks k) (one_placed bytes us ts also placed) that in
    let place : d ≡ byte_of (length bytes) (drop k ts) = there ∙ ap (λ ks. byte_of (length bytes) (drop k ks)) (one_placed bytes us ts also placed) in
    at ∙ (ap (λ n. byte_of (length bytes) (drop n ts)) ((one_place ts).one_bad j k this here) ∙ sym place)

bad_or_deep : (bytes : List ℕ) (b d : ℕ) → RefusesType bytes (Err (Bad b)) → RefusesType bytes (Err (TooDeep d)) → ⊥
bad_or_deep bytes b d (inl this) (us, also, (k, deep, at)) = refused_no_tokens bytes b (map token_of us) this also
bad_or_deep bytes b d (inr (ts, placed, (j, bad, at))) (us, also, (k, deep, there)) = (one_place ts).apart j k bad (subst (λ ks. IsDeepAt Reads ks k) (one_placed bytes us ts also placed) deep)

-- a type is none of what is wrong
pub fault_none : (bytes : List ℕ) (t : Ty) (f : Fault) → ReadsType bytes t → IsTypeFault bytes f → ⊥
fault_none bytes t f reads (inl (b, this, is)) = bad_none bytes t b reads this
fault_none bytes t f reads (inr (b, this, is)) = deep_none bytes t b reads this

pub one_fault : (bytes : List ℕ) (f g : Fault) → IsTypeFault bytes f → IsTypeFault bytes g → f ≡ g
one_fault bytes f g (inl (b, this, is)) (inl (d, that, it)) = is ∙ (ap fault.NoType (one_bad bytes b d this that) ∙ sym it)
one_fault bytes f g (inl (b, this, is)) (inr (d, that, it)) = absurd (bad_or_deep bytes b d this that)
one_fault bytes f g (inr (b, this, is)) (inl (d, that, it)) = absurd (bad_or_deep bytes d b that this)
one_fault bytes f g (inr (b, this, is)) (inr (d, that, it)) = is ∙ sym it
