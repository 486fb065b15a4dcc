use Rattle.std.proofs.Common.{◌≡◌, drop, map}
use Rattle.std.specs.Prelude.{string_bytes}
use Rattle.kl_json.specs.Words.{read_line, start}
use Rattle.kl_json.proofs.words.read_line.Given as goal

abbrev pub invariant-loop-word : goal.invariant-loop-word
invariant-loop-word l =
    read_line start (map (λ w. string_bytes w) l.words) ≡ read_line l.line (map (λ w. string_bytes w) (drop l.word-index l.words))
