-- What is kept of findings: the first breach, and which sources are named.
-- No public contract cites this.
use Rattle.std.specs.Prelude.{◌==◌, Bool, true, ◌&&◌, ◌||◌, List, [], ◌∷◌, Option, Some, None, if◌then◌else◌, nat_lt, slice_set}
use Rattle.kl_scope.specs.declared.refusal.ScopeError.{ScopeError}
use Rattle.kl_scope.specs.Ranks.{token_of, rule_of}
use Rattle.kl_scope.specs.Findings.{Finding, breach, mention}

pub record Gathered : Type 0 where
  pub first : Option ScopeError
  pub marks : List Bool

abbrev pub is_before : ScopeError → ScopeError → Bool
is_before e f = nat_lt (token_of e) (token_of f) || token_of e == token_of f && nat_lt (rule_of e) (rule_of f)

abbrev pub earlier : Option ScopeError → ScopeError → Option ScopeError
earlier None e = Some e
earlier (Some f) e = Some (if is_before e f then e else f)

abbrev pub noted : Gathered → Finding → Gathered
noted g (breach e) = record g { first = earlier g.first e }
noted g (mention i) = record g { marks = slice_set g.marks i true }

abbrev pub gathered : Gathered → List Finding → Gathered
gathered g [] = g
gathered g (f ∷ fs) = gathered (noted g f) fs
