-- What open cursors have read.
use Rattle.std.proofs.Common.{◌≡◌, ℕ, [], Option, Some, None, true, false, refl, sym, ap, subst, ◌∙◌}
use Rattle.std.specs.Option.{option_map}
use Rattle.std.proofs.lemmas.Bool.{false≢true}
use Rattle.std.proofs.lemmas.Option.{same_Some}
use Rattle.kl_outside.specs.Files.{Seen, nothing_seen}
use Rattle.kl_exchange.specs.FileItems.{reading}
use Rattle.kl_exchange.specs.FileReading.{Left, SeesMore}
use Rattle.kl_heads.specs.FileReading.{AsSeen, HasOpened, HeadedFile, IsMetBy}
use Rattle.kl_exchange.proofs.FileReading.{begins_so}
use Rattle.kl_ask.specs.Driver.{ReadSoFar, ReadsOn, State, read_under}
use Rattle.kl_nested.specs.Nested.{read_as}
use Rattle.kl_nested.specs.declared.parts.Open.{Open}

-- what was read for a cursor, where its file's part is as it was
pub under : (o : Option Open) (a b : State) → ((x : Open) → o ≡ Some x → b.read x.file ≡ a.read x.file)
    → read_under (option_map (λ (x : Open). x.file) o) b ≡ read_under (option_map (λ (x : Open). x.file) o) a
under None a b same = refl
under (Some x) a b same = same x refl

pub reads_on : (before after : Option Seen) → SeesMore before after → ReadsOn (option_map read_as before) (option_map read_as after)
reads_on None after is = ap (option_map read_as) is
reads_on (Some b) (Some a) more = more
reads_on (Some b) None more = absurd more

-- what a cursor reads on
pub reads_under : (p : Option Open) (o : Open) (a b : State) → p ≡ Some o → ReadsOn (a.read o.file) (b.read o.file)
    → ReadsOn (read_under (option_map (λ (x : Open). x.file) p) a) (read_under (option_map (λ (x : Open). x.file) p) b)
reads_under p o a b is more = subst (λ p. ReadsOn (read_under (option_map (λ (x : Open). x.file) p) a) (read_under (option_map (λ (x : Open). x.file) p) b)) (sym is) more

-- what was read, as the files know it
pub read_there : (x : Option Seen) (read : ReadSoFar) → option_map read_as x ≡ Some read → (q : Seen) × (x ≡ Some q) × (read_as q ≡ read)
read_there None read is = absurd cc
read_there (Some q) read is = (q, refl, same_Some _ _ is)

-- of a file that was just opened nothing was read
module _ (now : HeadedFile) where
  pub begins_open : (left : Left) → now.front ≡ true → now.head ≡ 0 → now.refused ≡ None → now.items.text ≡ reading 0 [] false → now.items.past ≡ false → HasOpened left now left
  begins_open left front size fresh text unpast = record { unknown = front; size = size; fresh = fresh; items = begins_so now.items left text unpast }

  pub begins_seen : (log : Option (ℕ → Seen)) → now.front ≡ true → now.head ≡ 0 → now.refused ≡ None → now.items.text ≡ reading 0 [] false → now.items.past ≡ false
      → AsSeen (λ first left. HasOpened first now left) now (option_map (λ seen. nothing_seen) log)
  begins_seen None front size fresh text unpast q is = absurd cc
  begins_seen (Some log) front size fresh text unpast q is =
      subst (λ (q : Seen). HasOpened (Some (Some q.bytes)) now (Some (Some [])) × IsMetBy now q) (same_Some _ _ is) (
        begins_open (Some (Some [])) front size fresh text unpast,
        record {
          ended = λ finished. absurd (false≢true (sym (ap (λ t. t.finished) text) ∙ finished));
          passed = λ past. absurd (false≢true (sym unpast ∙ past));
        },
      )
