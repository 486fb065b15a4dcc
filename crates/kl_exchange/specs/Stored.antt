-- What the types of the program keep of every value: integers are within 64 bits, and labels are
-- words. No public contract cites this.
use Rattle.std.specs.Prelude.{⊤, IsTrue, FitsSigned}
use Rattle.std.specs.Int.{w64}
use Rattle.std.specs.List.{AllByRecursion}
use Rattle.kl_base.specs.Word.{is_word}
use Rattle.kl_value.specs.declared.Value.{Value, Value-F, every-Value}

-- at one level
abbrev pub IsStoredLayer : Value-F Value → Type 0
IsStoredLayer (Value-F.Int n) = FitsSigned w64 n
IsStoredLayer (Value-F.Rec fs) = AllByRecursion (λ f. IsTrue (is_word f.0)) fs
IsStoredLayer (Value-F.Inj l v) = IsTrue (is_word l)
IsStoredLayer _ = ⊤

unfoldable pub IsStored : Value → Type 0
IsStored = every-Value IsStoredLayer
