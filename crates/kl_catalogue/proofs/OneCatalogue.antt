-- The bytes of a catalogue are one catalogue, or go wrong in one way.
use Rattle.std.proofs.Common.{◌≡◌, inl, inr, ℕ, List, drop, length, map, Err, sym, ap, subst, ◌∙◌}
use Rattle.kl_lex.specs.Placing.{token_of}
use Rattle.kl_lex.proofs.OneLexing.{placed as one_placed, one_byte, refused as refused_no_tokens}
use Rattle.kl_catalogue.specs.Grammar.{ReadsCatalogue}
use Rattle.kl_catalogue.specs.Reading.{IsCatalogue, SpellsCatalogue, RefusesCatalogue}
use Rattle.kl_type.specs.Texts.{byte_of, IsBadAt, IsDeepAt}
use Rattle.kl_catalogue.specs.declared.reading.CatalogueError.TheVariants.{Bad, TooDeep}
use Rattle.kl_catalogue.specs.declared.reading.Entry.{Entry}
use Rattle.kl_catalogue.proofs.Answer.{unique, one_place}

pub one_catalogue : (bytes : List ℕ) (es ds : List Entry) → IsCatalogue bytes es → IsCatalogue bytes ds → es ≡ ds
one_catalogue bytes es ds (ts, placed, spelled) (us, also, too) = unique ts es ds spelled (subst (λ ks. SpellsCatalogue ks ds) (sym (one_placed bytes ts us placed also)) too)

pub bad_none : (bytes : List ℕ) (es : List Entry) (b : ℕ) → IsCatalogue bytes es → RefusesCatalogue bytes (Err (Bad b)) → ⊥
bad_none bytes es b (ts, placed, spelled) (inl refused) = refused_no_tokens bytes b (map token_of ts) refused placed
bad_none bytes es b (ts, placed, spelled) (inr (us, also, (k, bad, at))) = (one_place ts).no_bad es k spelled (subst (λ ks. IsBadAt ReadsCatalogue ks k) (sym (one_placed bytes ts us placed also)) bad)

pub deep_none : (bytes : List ℕ) (es : List Entry) (b : ℕ) → IsCatalogue bytes es → RefusesCatalogue bytes (Err (TooDeep b)) → ⊥
deep_none bytes es b (ts, placed, spelled) (us, also, (k, deep, at)) = (one_place ts).no_deep es k spelled (subst (λ ks. IsDeepAt ReadsCatalogue ks k) (sym (one_placed bytes ts us placed also)) deep)

pub one_bad : (bytes : List ℕ) (b d : ℕ) → RefusesCatalogue bytes (Err (Bad b)) → RefusesCatalogue bytes (Err (Bad d)) → b ≡ d
one_bad bytes b d (inl this) (inl that) = one_byte bytes b d this that
one_bad bytes b d (inl this) (inr (us, also, (k, bad, at))) = absurd (refused_no_tokens bytes b (map token_of us) this also)
one_bad bytes b d (inr (ts, placed, (j, bad, at))) (inl that) = absurd (refused_no_tokens bytes d (map token_of ts) that placed)
one_bad bytes b d (inr (ts, placed, (j, this, at))) (inr (us, also, (k, that, there))) =
    let here : IsBadAt ReadsCatalogue ts k = subst (λ ks. IsBadAt ReadsCatalogue ks k) (one_placed bytes us ts also placed) that in
    let place : d ≡ byte_of (length bytes) (drop k ts) = there ∙ ap (λ ks. byte_of (length bytes) (drop k ks)) (one_placed bytes us ts also placed) in
    at ∙ (ap (λ n. byte_of (length bytes) (drop n ts)) ((one_place ts).one_bad j k this here) ∙ sym place)

pub bad_or_deep : (bytes : List ℕ) (b d : ℕ) → RefusesCatalogue bytes (Err (Bad b)) → RefusesCatalogue bytes (Err (TooDeep d)) → ⊥
bad_or_deep bytes b d (inl this) (us, also, (k, deep, at)) = refused_no_tokens bytes b (map token_of us) this also
bad_or_deep bytes b d (inr (ts, placed, (j, bad, at))) (us, also, (k, deep, there)) = (one_place ts).apart j k bad (subst (λ ks. IsDeepAt ReadsCatalogue ks k) (one_placed bytes us ts also placed) deep)
