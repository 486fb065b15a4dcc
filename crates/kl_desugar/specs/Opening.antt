-- What qualifiers ask.
-- No public contract cites this.
use Rattle.std.specs.Prelude.{◌≡◌, List, ◌++◌}
use Rattle.kl_value.specs.declared.Kind.{Kind}
use Rattle.kl_syntax.specs.Syntax.{Quals}
use Rattle.kl_desugar.specs.Translation.{Scope, Codes}
use Rattle.kl_desugar.specs.Layers.{Layered, after_quals, quals_layers}

-- what qualifiers draw and test is added to the layers, and what they bind to the scope
pub record OpensQuals (qs : Quals) (k : Kind) (codes : Codes) (old new : Scope) (ls ms : List Layered) : Type 0 where
  pub scope : new ≡ after_quals qs old
  pub layers : ms ≡ ls ++ quals_layers qs k codes old
