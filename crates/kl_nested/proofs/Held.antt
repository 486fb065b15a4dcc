-- An open cursor is in its place.
use Rattle.std.proofs.Common.{◌<◌, ℕ, List, length, Option, Some, None, IsSome, refl}
use Rattle.std.specs.Option.{option_map}
use Rattle.kl_ask.specs.Cursors.{open_at}
use Rattle.kl_ask.proofs.Opened.{is_within}
use Rattle.kl_nested.specs.declared.parts.Open.{Open}

seen_so : (o : Option Open) → IsSome o → IsSome (option_map (λ (x : Open). x) o)
seen_so (Some x) h = refl
seen_so None h = absurd cc

pub held_within : (cursors : List (Option Open)) (k : ℕ) → IsSome (open_at cursors k) → k < length cursors
held_within cursors k is = is_within (λ x. x) cursors k (seen_so (open_at cursors k) is)
