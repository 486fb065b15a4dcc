-- A file that was opened, read and closed.
use Rattle.std.proofs.Common.{◌≡◌, ℕ, ◌++◌, List, Option, Some, None, Ok, Err, Result, IsErrOf, IsSome, refl, sym, ◌∙◌, ap, subst, arith, inl, inr}
use Rattle.std.proofs.lemmas.Bool.{cases_eq}
use Rattle.std.proofs.Math.Path.{fun_ext}
use Rattle.std.specs.Result.{IsErrAnd}
use Rattle.kl_outside.specs.Files.{CountsFailed, FilesState, OpensPath, Closes, ReadsWhole, ReadsRest, IsWhole, OtherFiles, OtherSeen, ReadsPiece, left_at_first}
use Rattle.kl_outside.specs.declared.stop.Stop.{Stop}
use Rattle.kl_outside.specs.declared.stop.Stop.TheVariants as stop
use Rattle.kl_outside.specs.declared.files.Whole.{Whole}

-- what is open in the end is what was open at first
pub same_left : (file : ℕ) (s0 s1 s2 s3 : FilesState) → s0.left file ≡ None → OtherFiles file s0 s1 → OtherFiles file s1 s2 → OtherFiles file s2 s3 → s3.left file ≡ None → (k : ℕ) → s3.left k ≡ s0.left k
same_left file s0 s1 s2 s3 fresh a b d closed k = elim (cases_eq k file) [ inl is ↦ ap s3.left is ∙ closed ∙ sym fresh ∙ sym (ap s0.left is) | inr ne ↦ d k ne ∙ b k ne ∙ a k ne ]

-- the count of faults over several calls, of which the last one's answer is the answer
pub counts_on : {T : Type 0} (result : Result T Stop) (a b c : ℕ) → b ≡ a → CountsFailed result b c → CountsFailed result a c
counts_on (Ok value) a b c same counts = counts ∙ same
counts_on (Err stop.Failed) a b c same counts = omega (arith, same, counts)
counts_on (Err stop.NoMemory) a b c same counts = counts ∙ same

-- and where the call behind the last one counts no fault
pub counts_before : {T : Type 0} (result : Result T Stop) (a b c : ℕ) → CountsFailed result a b → c ≡ b → CountsFailed result a c
counts_before (Ok value) a b c counts same = same ∙ counts
counts_before (Err stop.Failed) a b c counts same = omega (arith, same, counts)
counts_before (Err stop.NoMemory) a b c counts same = same ∙ counts

-- a number under which no file is open is not that of an open one
pub not_open : (left : Option (Option (List ℕ))) → left ≡ None → IsSome left → ⊥
not_open None none is = cc
not_open (Some known) none is = cc

no_failure : {T : Type 0} {value : T} {stop : Stop} → Ok value ≡ Err stop → ⊥
no_failure is = cc

pub whole_read : (path : List ℕ) (most file : ℕ) (result : Result Whole Stop) (s0 s1 s2 s3 : FilesState) → OpensPath path (Ok file) s0 s1 → ReadsRest file most result s1 s2 → Closes file s2 s3 → ReadsWhole path most result s0 s3
whole_read path most file result s0 s1 s2 s3 opens reads closes = record {
  told = closes.told ∙ reads.told ∙ opens.told;
  left = fun_ext (same_left file s0 s1 s2 s3 opens.fresh opens.others reads.others closes.others closes.closed);
  open_seen = λ k is. closes.seen k ∙ reads.others_seen k (other k is) ∙ opens.others_seen k (other k is);
  whole = λ bytes holds. reads.whole bytes (opens.left ∙ ap Some (ap (λ t. left_at_first t path) holds.1 ∙ holds.2));
  within = reads.within;
  later = omega (arith, opens.later, reads.later, closes.faults);
  counts = counts_before result s0.faults s2.faults s3.faults (counts_on result s0.faults s1.faults s2.faults opens.counts reads.counts) closes.faults;
  failed = λ is. inr (omega (arith, opens.later, reads.failed is, closes.faults));
  missing = λ missing. absurd (no_failure (opens.missing missing).0);
}
  where
    other : (k : ℕ) → IsSome (s0.left k) → k ≡ file → ⊥
    other k is same = not_open (s0.left k) (ap s0.left same ∙ opens.fresh) is

there : (path : List ℕ) (most : ℕ) (w : Whole) (old new : FilesState) (told : List ℕ → Option (List ℕ)) → ReadsWhole path most (Ok w) old new → old.told ≡ Some told → (found : Option (List ℕ)) → told path ≡ found → (bytes : List ℕ) × (told path ≡ Some bytes) × IsWhole most bytes w
there path most w old new told reads is None missing = absurd (no_failure (reads.missing (told, is, missing)).0)
there path most w old new told reads is (Some bytes) holds = (bytes, holds, reads.whole bytes (told, is, holds))

-- Where bytes are told, a file that was read is there, and the answer is that of its bytes.
pub was_there : (path : List ℕ) (most : ℕ) (w : Whole) (old new : FilesState) (told : List ℕ → Option (List ℕ)) → ReadsWhole path most (Ok w) old new → old.told ≡ Some told → (bytes : List ℕ) × (told path ≡ Some bytes) × IsWhole most bytes w
was_there path most w old new told reads is = there path most w old new told reads is (told path) refl

-- Pieces of an open file that were read, and no other call; `bytes` is what they were, `old` before and `now` behind them.
pub record ReadPieces (file : ℕ) (bytes : List ℕ) (old now : FilesState) : Type 0 where
  pub told : now.told ≡ old.told
  pub is_open : IsSome (now.left file)
  pub others : OtherFiles file old now
  pub others_seen : OtherSeen file old now
  pub whole : (all : List ℕ) → old.left file ≡ Some (Some all) → (more : List ℕ) × (now.left file ≡ Some (Some more)) × (all ≡ bytes ++ more)
  pub counts : now.faults ≡ old.faults

-- a read that stopped ends it
pub rest_stopped : (file most : ℕ) (bytes into : List ℕ) (result : Result Whole Stop) (why : Stop) (s0 s1 s2 : FilesState) → IsErrAnd result (λ e. e ≡ why)
    → ReadPieces file bytes s0 s1 → ReadsPiece file into (Err why) s1 s2 → ReadsRest file most result s0 s2
rest_stopped file most bytes into (Ok whole) why s0 s1 s2 is so reads = absurd is
rest_stopped file most bytes into (Err e) why s0 s1 s2 is so reads = record {
  told = reads.told ∙ so.told;
  others = λ k ne. reads.others k ne ∙ so.others k ne;
  others_seen = λ k ne. reads.others_seen k ne ∙ so.others_seen k ne;
  whole = λ all known. tt;
  within = tt;
  later = omega (arith, so.counts, reads.later);
  counts = subst (λ x. CountsFailed {T = Whole} (Err x) s0.faults s2.faults) (sym is) (counts_on {T = Whole} (Err why) s0.faults s1.faults s2.faults so.counts (as_whole why reads.counts));
  failed = λ bad. omega (arith, so.counts, reads.failed (ap Err (sym is ∙ error_of bad)));
}
  where
    as_whole : (x : Stop) → CountsFailed {T = ℕ} (Err x) s1.faults s2.faults → CountsFailed {T = Whole} (Err x) s1.faults s2.faults
    as_whole stop.Failed h = h
    as_whole stop.NoMemory h = h

    error_of : {x y : Stop} → IsErrOf {T = Whole} (Err x) y → x ≡ y
    error_of h = cc

-- want of memory behind a read ends it
pub rest_wanting : (file most count : ℕ) (bytes into : List ℕ) (result : Result Whole Stop) (s0 s1 s2 : FilesState) → IsErrAnd result (λ e. e ≡ stop.NoMemory)
    → ReadPieces file bytes s0 s1 → ReadsPiece file into (Ok count) s1 s2 → ReadsRest file most result s0 s2
rest_wanting file most count bytes into (Ok whole) s0 s1 s2 is so reads = absurd is
rest_wanting file most count bytes into (Err e) s0 s1 s2 is so reads = record {
  told = reads.told ∙ so.told;
  others = λ k ne. reads.others k ne ∙ so.others k ne;
  others_seen = λ k ne. reads.others_seen k ne ∙ so.others_seen k ne;
  whole = λ all known. tt;
  within = tt;
  later = omega (arith, so.counts, reads.later);
  counts = subst (λ x. CountsFailed {T = Whole} (Err x) s0.faults s2.faults) (sym is) (let c : s2.faults ≡ s1.faults = reads.counts in c ∙ so.counts);
  failed = λ bad. absurd (let h : stop.NoMemory ≡ stop.Failed = sym is ∙ error_of bad in cc);
}
  where
    error_of : {x y : Stop} → IsErrOf {T = Whole} (Err x) y → x ≡ y
    error_of h = cc
