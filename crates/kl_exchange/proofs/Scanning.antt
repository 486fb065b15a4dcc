-- One byte of a scan.
use Rattle.std.proofs.Common.{◌≡◌, ℕ, ◌+◌, ◌-◌, ◌<◌, ◌==◌, true, not, List, [], ◌∷◌, ◌++◌, length, take, drop, get_or, refl, sym, ap, subst, ◌∙◌, Result, Ok, Err, drop-cons, add-one, append_assoc, append-nil, take-append-drop, drop-drop, true≢false}
use Rattle.std.specs.List.{list_all}
use Rattle.std.proofs.lemmas.Bool.{and_parts, not-true}
use Rattle.kl_base.specs.Word.{is_word_byte}
use Rattle.kl_exchange.specs.Grammar.{is_blank}
use Rattle.kl_exchange.specs.Machine.{Brackets, IsSound, advanced, run, more, ends, fails, deep, followed, goes, value_due, opened, record_opened, label_due, named, after_value, in_name, in_text, is_plain, stays_on_blank}
use Rattle.kl_exchange.specs.declared.machine.Holder.{Holder}
use Rattle.kl_exchange.specs.declared.machine.Phase.{Phase}
use Rattle.kl_exchange.specs.declared.machine.Phase.TheVariants as phase
use Rattle.kl_exchange.proofs.Reading.{Reaches, reaches, rest_is}
use Rattle.kl_value.specs.declared.Value.{Value}
use Rattle.kl_exchange.proofs.Runs.{at, go, run_append, extended}
use Rattle.kl_exchange.specs.declared.machine.Machine.{Machine}
use Rattle.kl_exchange.specs.Machine.{Step}
use Rattle.kl_exchange.specs.declared.machine.Stop.{Stop}
use Rattle.kl_exchange.specs.declared.machine.Stop.TheVariants as stop
use Rattle.kl_exchange.proofs.Completes.{Right, right}

pub byte_at : (bytes : List ℕ) (i : ℕ) → i < length bytes → drop i bytes ≡ get_or bytes i 0 ∷ drop (i + 1) bytes
byte_at bytes i within = drop-cons bytes i 0 within ∙ ap (λ k. get_or bytes i 0 ∷ drop k bytes) (sym (add-one i))

module _ (m : Machine) (bytes : List ℕ) (i : ℕ) (within : i < length bytes) where
  pub scan_step : (o : Result Step Stop) → advanced 256 m.stack m.phase (get_or bytes i 0) ≡ o
      → run 256 (drop i bytes) m ≡ followed o (get_or bytes i 0) (drop (i + 1) bytes) (λ n. run 256 (drop (i + 1) bytes) n)
  scan_step o e = ap (λ bs. run 256 bs m) (byte_at bytes i within) ∙ ap (λ p. followed p (get_or bytes i 0) (drop (i + 1) bytes) (λ n. run 256 (drop (i + 1) bytes) n)) e

  pub scan_sound : (n : Machine) → IsSound 256 m.stack m.phase → advanced 256 m.stack m.phase (get_or bytes i 0) ≡ Ok (Step.Goes n) → IsSound 256 n.stack n.phase
  scan_sound n sound e =
      let r = right 256 m.stack m.phase (get_or bytes i 0) sound in
      (subst (Right 256 m.stack m.phase (get_or bytes i 0)) e r).0

  pub scan_fails : advanced 256 m.stack m.phase (get_or bytes i 0) ≡ Err stop.Bad → run 256 (drop i bytes) m ≡ fails (drop i bytes)
  scan_fails e = scan_step (Err stop.Bad) e ∙ ap fails (sym (byte_at bytes i within))

  pub scan_deep : advanced 256 m.stack m.phase (get_or bytes i 0) ≡ Err stop.TooDeep → run 256 (drop i bytes) m ≡ deep (drop i bytes)
  scan_deep e = scan_step (Err stop.TooDeep) e ∙ ap deep (sym (byte_at bytes i within))

-- The bytes from a place on, of which the first were taken.
pub skipped : (bytes sub : List ℕ) (at count : ℕ) (m n : Machine) → sub ≡ drop at bytes → run 256 (take count sub) m ≡ more n → run 256 (drop at bytes) m ≡ run 256 (drop (at + count) bytes) n
skipped bytes sub at count m n is met =
    ap (λ bs. run 256 bs m) (sym (take-append-drop count (drop at bytes)))
    ∙ (run_append 256 (take count (drop at bytes)) (drop count (drop at bytes)) m
    ∙ (ap (λ o. extended 256 o (drop count (drop at bytes))) (ap (λ bs. run 256 (take count bs) m) (sym is) ∙ met)
    ∙ ap (λ bs. run 256 bs n) (drop-drop count at bytes)))

pub skipped_sound : (bytes : List ℕ) (m n : Machine) → IsSound 256 m.stack m.phase → run 256 bytes m ≡ more n → IsSound 256 n.stack n.phase
skipped_sound bytes m n sound met = (subst (Reaches 256 m bytes) met (reaches 256 bytes m sound)).0

-- Bytes at which a machine stays, or that only lengthen what it reads.
stays : (st : Brackets) (p : Phase) (b : ℕ) → stays_on_blank p ≡ true → is_blank b ≡ true → advanced 256 st p b ≡ goes st p
unfolding value_due opened record_opened label_due named after_value
stays st phase.Value b e blank = rw blank
stays st (phase.Opened k) b e blank = rw blank
stays st phase.RecordOpened b e blank = rw blank
stays st (phase.Label h) b e blank = rw blank
stays st (phase.Named h l) b e blank = rw blank
stays st (phase.After v) b e blank = rw blank
stays st phase.Brace b e blank = absurd (true≢false (sym e))
stays st phase.Bracket b e blank = absurd (true≢false (sym e))
stays st (phase.Name h name) b e blank = absurd (true≢false (sym e))
stays st (phase.Word word count) b e blank = absurd (true≢false (sym e))
stays st phase.Minus b e blank = absurd (true≢false (sym e))
stays st (phase.Digits negative m) b e blank = absurd (true≢false (sym e))
stays st (phase.Text t) b e blank = absurd (true≢false (sym e))
stays st (phase.Escape t) b e blank = absurd (true≢false (sym e))
stays st (phase.Hex t) b e blank = absurd (true≢false (sym e))
stays st (phase.HexLow t high) b e blank = absurd (true≢false (sym e))
stays st (phase.Closing k items) b e blank = absurd (true≢false (sym e))

pub blanks_stay : (st : Brackets) (p : Phase) (bs : List ℕ) → stays_on_blank p ≡ true → list_all is_blank bs ≡ true → run 256 bs (at st p) ≡ more (at st p)
blanks_stay st p [] e all = refl
blanks_stay st p (b ∷ bs) e all =
    let both = and_parts (is_blank b) (list_all is_blank bs) all in
    go 256 st p b bs st p (stays st p b e both.0) ∙ blanks_stay st p bs e both.1

pub name_goes_on : (st : Brackets) (h : Holder) (name bs : List ℕ) → list_all is_word_byte bs ≡ true → run 256 bs (at st (phase.Name h name)) ≡ more (at st (phase.Name h (name ++ bs)))
unfolding in_name
name_goes_on st h name [] all = ap (λ ns. more (at st (phase.Name h ns))) (sym (append-nil name))
name_goes_on st h name (b ∷ bs) all =
    let both = and_parts (is_word_byte b) (list_all is_word_byte bs) all in
    go 256 st (phase.Name h name) b bs st (phase.Name h (name ++ b ∷ [])) (rw both.0)
    ∙ (name_goes_on st h (name ++ b ∷ []) bs both.1 ∙ ap (λ ns. more (at st (phase.Name h ns))) (append_assoc name (b ∷ []) bs))

plain_step : (st : Brackets) (t : List ℕ) (b : ℕ) → is_plain b ≡ true → in_text st t b ≡ goes st (phase.Text (t ++ b ∷ []))
unfolding in_text
plain_step st t b plain =
    let both = and_parts (not (b == 34)) (not (b == 92)) plain in
    rw (not-true (b == 34) both.0, not-true (b == 92) both.1)

pub text_goes_on : (st : Brackets) (t bs : List ℕ) → list_all is_plain bs ≡ true → run 256 bs (at st (phase.Text t)) ≡ more (at st (phase.Text (t ++ bs)))
text_goes_on st t [] all = ap (λ ns. more (at st (phase.Text ns))) (sym (append-nil t))
text_goes_on st t (b ∷ bs) all =
    let both = and_parts (is_plain b) (list_all is_plain bs) all in
    go 256 st (phase.Text t) b bs st (phase.Text (t ++ b ∷ [])) (plain_step st t b both.0)
    ∙ (text_goes_on st (t ++ b ∷ []) bs both.1 ∙ ap (λ ns. more (at st (phase.Text ns))) (append_assoc t (b ∷ []) bs))

pub name_from : (m : Machine) (h : Holder) (name new bs : List ℕ) → m.phase ≡ phase.Name h name → list_all is_word_byte bs ≡ true → new ≡ name ++ bs
    → run 256 bs m ≡ more (at m.stack (phase.Name h new))
name_from m h name new bs is all longer =
    ap (λ p. run 256 bs (at m.stack p)) is ∙ (name_goes_on m.stack h name bs all ∙ ap (λ ns. more (at m.stack (phase.Name h ns))) (sym longer))

pub text_from : (m : Machine) (t new bs : List ℕ) → m.phase ≡ phase.Text t → list_all is_plain bs ≡ true → new ≡ t ++ bs → run 256 bs m ≡ more (at m.stack (phase.Text new))
text_from m t new bs is all longer =
    ap (λ p. run 256 bs (at m.stack p)) is ∙ (text_goes_on m.stack t bs all ∙ ap (λ ns. more (at m.stack (phase.Text ns))) (sym longer))

-- A scan that has come to a machine m at a place, and from there to n over the next bytes.
module _ (M m n : Machine) (bytes : List ℕ) (from count : ℕ) (sound : IsSound 256 m.stack m.phase) (met : run 256 (drop from bytes) m ≡ run 256 bytes M)
    (took : run 256 (take count (take (length bytes - from) (drop from bytes))) m ≡ more n) where
  pub sound_there : IsSound 256 n.stack n.phase
  sound_there = skipped_sound (take count (take (length bytes - from) (drop from bytes))) m n sound took

  pub met_there : run 256 (drop (from + count) bytes) n ≡ run 256 bytes M
  met_there = sym (skipped bytes (take (length bytes - from) (drop from bytes)) from count m n (rest_is bytes bytes from refl) took) ∙ met

  module _ (within : from + count < length bytes) where
    pub sound_behind : (k : Machine) → advanced 256 n.stack n.phase (get_or bytes (from + count) 0) ≡ Ok (Step.Goes k) → IsSound 256 k.stack k.phase
    sound_behind k e = scan_sound n bytes (from + count) within k sound_there e

    pub met_behind : (k : Machine) → advanced 256 n.stack n.phase (get_or bytes (from + count) 0) ≡ Ok (Step.Goes k) → run 256 (drop ((from + count) + 1) bytes) k ≡ run 256 bytes M
    met_behind k e = sym (scan_step n bytes (from + count) within (Ok (Step.Goes k)) e) ∙ met_there

    pub met_end : (v : Value) → advanced 256 n.stack n.phase (get_or bytes (from + count) 0) ≡ Ok (Step.Ends v) → run 256 bytes M ≡ ends v (drop ((from + count) + 1) bytes)
    met_end v e = sym met_there ∙ scan_step n bytes (from + count) within (Ok (Step.Ends v)) e

    pub met_bad : advanced 256 n.stack n.phase (get_or bytes (from + count) 0) ≡ Err stop.Bad → run 256 bytes M ≡ fails (drop (from + count) bytes)
    met_bad e = sym met_there ∙ scan_fails n bytes (from + count) within e

    pub met_deep : advanced 256 n.stack n.phase (get_or bytes (from + count) 0) ≡ Err stop.TooDeep → run 256 bytes M ≡ deep (drop (from + count) bytes)
    met_deep e = sym met_there ∙ scan_deep n bytes (from + count) within e
