-- What stays the same when a reader is asked.
use Rattle.std.proofs.Common.{◌≡◌, ℕ, ◌+◌, length, ap, ◌∙◌, arith, inl, inr, Result, Ok, Err, length-append}
use Rattle.kl_exchange.specs.Reading.{ReadsNext}
use Rattle.kl_exchange.specs.State.{State}
use Rattle.kl_exchange.specs.declared.error.ReadError.{ReadError}
use Rattle.kl_exchange.specs.declared.error.ReadError.TheVariants as error
use Rattle.kl_exchange.specs.declared.reader.Item.{Item}
use Rattle.kl_exchange.specs.declared.reader.Item.TheVariants as item

total : State → ℕ
total s = s.place + length s.left

pub reads_total : (old : State) (r : Result Item ReadError) (new : State) → ReadsNext old r new → new.place + length new.left ≡ old.place + length old.left
unfolding total
reads_total old (Ok (item.Value v)) new c =
    let size : length old.left ≡ length c.bytes + length new.left = ap length c.front ∙ length-append c.bytes new.left in
    let place = c.place in
    omega arith
reads_total old (Ok item.NeedMore) new c = ap total c.same
reads_total old (Ok item.End) new c = ap total c.same
reads_total old (Err (error.Bad place)) new (inl c) = ap total c.1
reads_total old (Err (error.Bad place)) new (inr c) = ap total c.2
reads_total old (Err (error.TooDeep place)) new (inl c) = ap total c.1
reads_total old (Err (error.TooDeep place)) new (inr c) = ap total c.2
reads_total old (Err error.NoMemory) new c = ap total c

pub reads_finished : (old : State) (r : Result Item ReadError) (new : State) → ReadsNext old r new → new.finished ≡ old.finished
reads_finished old (Ok (item.Value v)) new c = c.finished
reads_finished old (Ok item.NeedMore) new c = ap (λ s. s.finished) c.same
reads_finished old (Ok item.End) new c = ap (λ s. s.finished) c.same
reads_finished old (Err (error.Bad place)) new (inl c) = ap (λ s. s.finished) c.1
reads_finished old (Err (error.Bad place)) new (inr c) = ap (λ s. s.finished) c.2
reads_finished old (Err (error.TooDeep place)) new (inl c) = ap (λ s. s.finished) c.1
reads_finished old (Err (error.TooDeep place)) new (inr c) = ap (λ s. s.finished) c.2
reads_finished old (Err error.NoMemory) new c = ap (λ s. s.finished) c
