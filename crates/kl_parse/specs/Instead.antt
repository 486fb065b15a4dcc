-- What a function of the descent answers after another one failed.
-- No public contract cites this.
use Rattle.std.specs.Prelude.{List, Result}
use Rattle.kl_lex.specs.declared.token.Token.{Token}
use Rattle.kl_phrase.specs.declared.fault.Fault.{Fault}
use Rattle.kl_phrase.specs.Gives.{Gives}
use Rattle.kl_phrase.specs.Readers.{Why, Out}
use Rattle.kl_phrase.specs.Refusals.{refused}

-- what the second answers after the first failed
abbrev pub Instead : {X A : Type 0} → (X → A) → (X → List Token) → Why → List Token → Result X (Fault Token)
    → Result X (Fault Token) → Type 0
Instead {X} {A} value rest w r second result = (o : Out Token A) → Gives value rest second o → Gives value rest result (refused w r o)
