-- What contracts see of a reader.
use Rattle.std.specs.Prelude.{ℕ, Bool, List, Option}
use Rattle.kl_exchange.specs.declared.error.ReadError.{ReadError}

pub record State : Type 0 where
  -- the number of bytes in the items read so far
  pub place : ℕ
  -- the bytes behind these that have come
  pub left : List ℕ
  -- no more come
  pub finished : Bool
  -- what was answered for good
  pub refused : Option ReadError
