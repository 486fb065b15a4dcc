use Rattle.std.proofs.Common.{◌≡◌, map, take}
use Rattle.kl_base.specs.Fields.{labels_of}
use Rattle.kl_core.specs.Trees.{view, view_part}
use Rattle.kl_rules.specs.Unpacked.{unpacked}
use Rattle.kl_rules.proofs.records.+unpack.Given as goal

abbrev pub invariant-unpack_all-loop-term : goal.invariant-unpack_all-loop-term
invariant-unpack_all-loop-term l = map view l.made.items ≡ map (λ t. unpacked (labels_of l.fields) l.at (view t)) (take l.term-index l.terms)

abbrev pub invariant-unpack_labelled-loop-part : goal.invariant-unpack_labelled-loop-part
invariant-unpack_labelled-loop-part l = map view_part l.made.items ≡ map (λ p. (p.0, unpacked (labels_of l.fields) l.at (view p.1))) (take l.part-index l.parts)
