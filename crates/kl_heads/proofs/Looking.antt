-- What a front says of all bytes, from what the machine makes of those behind a place.
use Rattle.std.proofs.Common.{◌≡◌, ℕ, ◌+◌, ◌-◌, ◌≤◌, ◌<◌, Bool, true, false, cond, List, length, take, drop, sym, ap, ◌∙◌, Ok, Err, arith, take-append-drop, length-drop}
use Rattle.std.proofs.Math.Seq.{take-length}
use Rattle.std.proofs.lemmas.List.{take_all}
use Rattle.kl_type.specs.declared.ground.Ty.{Ty}
use Rattle.kl_heads.specs.Fronts.{HasTaken, look_at}
use Rattle.kl_heads.specs.Machine.{Run, run, more, ends, no_head, fails, deep, start, may_be_item}
use Rattle.kl_heads.specs.declared.front.Look.TheVariants as look
use Rattle.kl_heads.specs.declared.machine.Machine.{Machine}
use Rattle.kl_heads.specs.declared.scan.Halt.TheVariants as halt
use Rattle.kl_heads.proofs.Runs.{extended, run_append}

-- The bytes before a place have led to m.
module _ (bytes : List ℕ) (place : ℕ) (m : Machine) (taken : HasTaken bytes place m) where
  -- those that are left, as code takes them
  abbrev sub : List ℕ
  sub = take (length bytes - place) (drop place bytes)

  is : sub ≡ drop place bytes
  is = take_all (length bytes - place) (drop place bytes) (omega (arith, length-drop place bytes))

  pub behind : run 256 bytes start ≡ run 256 sub m
  behind =
      ap (λ bs. run 256 bs start) (sym (take-append-drop place bytes))
      ∙ (run_append 256 (take place bytes) (drop place bytes) start
      ∙ (ap (λ o. extended 256 o (drop place bytes)) taken.met ∙ ap (λ bs. run 256 bs m) (sym is)))

  counted : (count : ℕ) → count ≤ length sub → length bytes - length (drop count sub) ≡ place + count
  counted count within =
      let e : length sub ≡ length bytes - place = ap length is ∙ length-drop place bytes in
      let within_bytes : place ≤ length bytes = taken.within in
      rw (length-drop count sub) (omega (arith, e))

  module _ (finished : Bool) where
    at_run : (o : Run) → run 256 sub m ≡ o → look_at bytes finished (run 256 bytes start) ≡ look_at bytes finished o
    at_run o e = ap (λ r. look_at bytes finished r) (behind ∙ e)

    pub looks_head : (t : Ty) (count : ℕ) → count ≤ length sub → run 256 sub m ≡ ends t (drop count sub)
        → look_at bytes finished (run 256 bytes start) ≡ Ok (look.Head t (place + count))
    looks_head t count within e = at_run (ends t (drop count sub)) e ∙ ap (λ k. Ok (look.Head t k)) (counted count within)

    pub looks_items : run 256 sub m ≡ no_head → look_at bytes finished (run 256 bytes start) ≡ Ok look.Items
    looks_items e = at_run no_head e

    pub looks_bad : (count : ℕ) → count < length sub → run 256 sub m ≡ fails (drop count sub)
        → look_at bytes finished (run 256 bytes start) ≡ Err (halt.Bad (place + count))
    looks_bad count within e = at_run (fails (drop count sub)) e ∙ ap (λ k. Err (halt.Bad k)) (counted count (omega arith))

    pub looks_deep : (count : ℕ) → count < length sub → run 256 sub m ≡ deep (drop count sub)
        → look_at bytes finished (run 256 bytes start) ≡ Err (halt.TooDeep (place + count))
    looks_deep count within e = at_run (deep (drop count sub)) e ∙ ap (λ k. Err (halt.TooDeep k)) (counted count (omega arith))

  -- all bytes have been taken
  module _ (n : Machine) (e : run 256 sub m ≡ more n) where
    pub all_taken : HasTaken bytes (length bytes) n
    all_taken = record { within = omega arith; met = ap (λ bs. run 256 bs start) (take-length bytes) ∙ (behind ∙ e) }

    pub looks_unknown : (finished : Bool) → finished ≡ false → look_at bytes finished (run 256 bytes start) ≡ Ok look.Unknown
    looks_unknown finished f = at_run finished (more n) e ∙ ap (λ b. look_at bytes b (more n)) f

    through : (finished : Bool) → finished ≡ true → (items : Bool) → may_be_item n.phase ≡ items
        → look_at bytes finished (run 256 bytes start) ≡ cond items (Ok look.Items) (Err (halt.Bad (length bytes)))
    through finished f items is_items =
        at_run finished (more n) e
        ∙ (ap (λ b. look_at bytes b (more n)) f ∙ ap (λ b. cond b (Ok look.Items) (Err (halt.Bad (length bytes)))) is_items)

    pub looks_through : (finished : Bool) → finished ≡ true → may_be_item n.phase ≡ true → look_at bytes finished (run 256 bytes start) ≡ Ok look.Items
    looks_through finished f items = through finished f true items

    pub looks_cut : (finished : Bool) → finished ≡ true → may_be_item n.phase ≡ false → look_at bytes finished (run 256 bytes start) ≡ Err (halt.Bad (length bytes))
    looks_cut finished f items = through finished f false items
