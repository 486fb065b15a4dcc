-- What the top call answers.
use Rattle.std.proofs.Common.{◌≡◌, inl, inr, ℕ, List, Option, Some, None, Err, refl, sym, subst}
use Rattle.kl_json.specs.Answers.{AnswersWords, Does, Ending, FromEnds, ItemsStand, JsonStands, TellsOf, ToEnds, item_lines, json_lines, status_of}
use Rattle.kl_json.specs.declared.choices.Choices.{Choices}
use Rattle.kl_json.specs.declared.fault.Fault.TheVariants as fault
use Rattle.kl_json.specs.declared.words.Command.{Command}
use Rattle.kl_json.specs.declared.words.Command.TheVariants as command
use Rattle.kl_json.proofs.Listing.{failed}
use Rattle.kl_outside.specs.Files.{FilesState}
use Rattle.kl_outside.specs.Sinks.{SinkState}

module _ (asked : Option Command) (status : ℕ) (files files' : FilesState) (out out' err err' : SinkState) where
  pub answers_to : (file : List ℕ) (c : Choices) (path told : List ℕ) (end : Ending) → asked ≡ Some (command.To file c) → path ≡ file → told ≡ file
      → Does item_lines ToEnds (JsonStands c) path end files files' out out' → status ≡ status_of end → TellsOf told end err err' → AnswersWords asked status files files' out out' err err'
  answers_to file c path told end is same same' d s t =
      subst (λ a. AnswersWords a status files files' out out' err err') (sym is)
      (record {
        end = end;
        does = inl (subst (λ p. Does item_lines ToEnds (JsonStands c) p end files files' out out') same d);
        status_is = s;
        tells = subst (λ p. TellsOf p end err err') same' t;
      })

  pub answers_from : (file path told : List ℕ) (end : Ending) → asked ≡ Some (command.From file) → path ≡ file → told ≡ file
      → Does json_lines FromEnds ItemsStand path end files files' out out' → status ≡ status_of end → TellsOf told end err err' → AnswersWords asked status files files' out out' err err'
  answers_from file path told end is same same' d s t =
      subst (λ a. AnswersWords a status files files' out out' err err') (sym is)
      (record {
        end = end;
        does = inl (subst (λ p. Does json_lines FromEnds ItemsStand p end files files' out out') same d);
        status_is = s;
        tells = subst (λ p. TellsOf p end err err') same' t;
      })

module _ (asked : Option Command) (status : ℕ) (files : FilesState) (out err err' : SinkState) (path : List ℕ) where
  pub answers_none : asked ≡ None → status ≡ status_of (failed fault.Usage) → TellsOf path (failed fault.Usage) err err' → AnswersWords asked status files files out out err err'
  answers_none is s t =
      subst (λ a. AnswersWords a status files files out out err err') (sym is)
      (record { end = Err fault.Usage; does = inl (refl, refl, refl); status_is = s; tells = t })

  pub answers_wanting : status ≡ status_of (failed fault.NoMemory) → TellsOf path (failed fault.NoMemory) err err' → AnswersWords asked status files files out out err err'
  answers_wanting s t = record { end = Err fault.NoMemory; does = inr (refl, refl, refl); status_is = s; tells = t }
