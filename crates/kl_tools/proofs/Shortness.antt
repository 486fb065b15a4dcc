-- The catalogue over made rows is short.
use Rattle.std.proofs.Common.{◌<◌, ◌≤◌, ◌+◌, ◌^◌, ◌≡◌, ℕ, List, ◌++◌, length, length-append, arith, codes, decimal, refl, subst, sym}
use Rattle.std.proofs.lemmas.Fmt.{length-decimal-le}
use Rattle.kl_tools.specs.Texts.{catalogue_text, source_text}

digits_few : (n : ℕ) → n < 2 ^ 32 → length (decimal n) ≤ 10
digits_few n small = length-decimal-le 10 n (omega arith) (omega (arith, small)) (omega (arith, small))

lengths : (a b c d e f g : List ℕ) → length (a ++ b ++ c ++ d ++ e ++ f ++ g) ≡ length a + (length b + (length c + (length d + (length e + (length f + length g)))))
lengths a b c d e f g =
    omega (arith, length-append (a ++ b ++ c ++ d ++ e ++ f) g, length-append (a ++ b ++ c ++ d ++ e) f, length-append (a ++ b ++ c ++ d) e, length-append (a ++ b ++ c) d, length-append (a ++ b) c, length-append a b)

source_few : (name : List ℕ) (seed size : ℕ) → length name ≡ 1 → seed < 2 ^ 32 → size < 2 ^ 32 → length (source_text name seed size) ≤ 200
source_few name seed size one first second =
    subst (λ n. n ≤ 200) (sym (lengths (codes "source ") name (codes " : {|[grp: int, id: int, name: string]|} = made \"") (decimal seed) (codes " ") (decimal size) (codes "\";\n")))
    (omega (arith, one, digits_few seed first, digits_few size second))

both_few : (a b : List ℕ) → length a ≤ 200 → length b ≤ 200 → length (a ++ b) ≤ 65536
both_few a b first second = omega (arith, first, second, length-append a b)

pub catalogue_short : (seed size : ℕ) → seed < 2 ^ 32 → size < 2 ^ 32 → length (catalogue_text seed size) ≤ 65536
catalogue_short seed size first second =
    both_few (source_text (codes "g") seed size) (source_text (codes "h") seed 100) (source_few (codes "g") seed size refl first second) (source_few (codes "h") seed 100 refl first (omega arith))
