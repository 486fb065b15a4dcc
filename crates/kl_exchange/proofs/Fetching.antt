-- Bytes that were put behind others.
use Rattle.std.proofs.Common.{◌≡◌, ℕ, zero, suc, ◌+◌, ◌≤◌, List, [], ◌∷◌, ◌++◌, length, take, min, Some, None, Ok, IsSome, arith, refl, sym, ap, ◌∙◌, append_assoc, take_all, length-take}
use Rattle.std.proofs.Math.Seq.{take-append-add}
use Rattle.std.proofs.lemmas.List.{take-append-le}
use Rattle.kl_exchange.specs.Fetching.{FetchesBehind}
use Rattle.kl_exchange.specs.FileReading.{Left}
use Rattle.kl_outside.specs.Files.{FilesState, Consumed, ReadsPiece}

pub still_open : (left left' : Left) (piece : List ℕ) → Consumed left left' piece → IsSome left'
still_open (Some (Some old)) (Some (Some new)) piece is = refl
still_open (Some None) (Some None) piece is = refl
still_open (Some None) (Some (Some new)) piece is = absurd is
still_open (Some None) None piece is = absurd is
still_open None left' piece is = absurd is
still_open (Some (Some old)) (Some None) piece is = absurd is
still_open (Some (Some old)) None piece is = absurd is

take_less : (m n : ℕ) (xs : List ℕ) → m ≤ n → take m (take n xs) ≡ take m xs
take_less zero n xs le = refl
take_less (suc m) zero xs le = absurd (omega arith)
take_less (suc m) (suc n) [] le = refl
take_less (suc m) (suc n) (x ∷ xs) le = ap (λ ys. x ∷ ys) (take_less m n xs (omega arith))

-- A piece was put at the front of the room behind some bytes, and the rest of the room was cut off.
pub put_behind : (old whole into post tail : List ℕ) (before count n : ℕ) → take before whole ≡ old → before ≡ length old → count ≤ length into → before + count ≤ n
    → take (before + count) (take n ((take before whole ++ (into ++ post)) ++ tail)) ≡ old ++ take count into
put_behind old whole into post tail before count n front size within fits =
    take_less (before + count) n ((take before whole ++ (into ++ post)) ++ tail) fits
    ∙ (ap (take (before + count)) (append_assoc (take before whole) (into ++ post) tail)
    ∙ (ap (λ k. take (k + count) (take before whole ++ ((into ++ post) ++ tail))) (size ∙ ap length (sym front))
    ∙ (take-append-add (take before whole) ((into ++ post) ++ tail) count
    ∙ (ap (λ bs. bs ++ take count ((into ++ post) ++ tail)) front
    ∙ ap (λ bs. old ++ bs) (ap (take count) (append_assoc into post tail) ∙ take-append-le count into (post ++ tail) within)))))

-- the front of what was filled up
pub filled_front : (old filling : List ℕ) (n before : ℕ) → before ≡ length old → before ≤ n → take before (take n old ++ filling) ≡ old
filled_front old filling n before size fits =
    ap (λ bs. take before (bs ++ filling)) (take_all n old (omega arith)) ∙ (take-append-le before old filling (omega arith) ∙ take_all before old (omega arith))

pub fetched_behind : (file most count : ℕ) (into old new : List ℕ) (s t : FilesState) → ReadsPiece file into (Ok count) s t → new ≡ old ++ take count into → length into ≡ most
    → FetchesBehind file most (Ok count) old new s t
fetched_behind file most count into old new s t reads is size =
    let within = reads.within in
    record {
      told = reads.told;
      others = reads.others;
      is_open = still_open (s.left file) (t.left file) (take count into) reads.bytes;
      others_seen = reads.others_seen;
      later = reads.later;
      counts = reads.counts;
      failed = λ e. absurd cc;
      came = (take count into, is, length-take count into ∙ (let few : min count (length into) ≡ count = omega arith in few), omega arith, reads.bytes, reads.end, reads.seen);
    }
