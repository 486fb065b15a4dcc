-- What runs over the bytes left say of a text that may begin with a head.
use Rattle.std.proofs.Common.{◌≡◌, ℕ, ◌+◌, ◌-◌, ◌<◌, true, false, List, [], ◌∷◌, ◌++◌, length, take, refl, sym, ap, subst, ◌∙◌, arith, inl, inr, Some, None, Err, append-nil, length-append, take_all, true≢false}
use Rattle.kl_type.specs.declared.ground.Ty.{Ty}
use Rattle.kl_exchange.specs.State.{State}
use Rattle.kl_exchange.proofs.Reading.{front_taken, more_taken, one_taken}
use Rattle.kl_heads.specs.Heads.{IsHead}
use Rattle.kl_heads.specs.Machine.{Run, run, more, ends, fails, deep, advanced, start, may_be_item}
use Rattle.kl_heads.specs.Reading.{IsNext, NoneNext, IsBad, IsDeep}
use Rattle.kl_heads.specs.Texts.{MayFollow, Begins}
use Rattle.kl_heads.specs.declared.machine.Machine.{Machine}
use Rattle.kl_heads.specs.declared.machine.Stop.TheVariants as stop
use Rattle.kl_heads.proofs.Completes.{IsSound}
use Rattle.kl_heads.proofs.Items.{dead_text, dead_next, no_items, stuck_next}
use Rattle.kl_heads.proofs.Late.{Typed, Told, told}
use Rattle.kl_heads.proofs.Reaching.{Stuck, Ended, begins_more, ended_stuck, fits, more_lifts, deeper_step, fails_begun, deep_begun}
use Rattle.kl_heads.proofs.Runs.{extended, run_append, run_head}

-- a head is a text
pub head_text : (n : ℕ) (bytes : List ℕ) (t : Ty) → IsHead n bytes t → MayFollow true n bytes
head_text n bytes t spells = (Some t, [], (bytes, [], sym (append-nil bytes), spells, tt))

pub begins_head : (n : ℕ) (bytes u : List ℕ) (t : Ty) → IsHead n (bytes ++ u) t → Begins true n bytes
begins_head n bytes u t spells = record { more = u; whole = head_text n (bytes ++ u) t spells }

pub front_begins : (n : ℕ) (front : List ℕ) (m : Machine) → run n front start ≡ more m → Begins true n front
front_begins n front m met = let c = begins_more n front m met in begins_head n front c.0 c.1 c.2

more_not_ends : (o : Run) (m : Machine) (t : Ty) (rest : List ℕ) → o ≡ more m → o ≡ ends t rest → ⊥
more_not_ends o m t rest e f = cc

-- where the bytes left lead to a machine
module _ (left : List ℕ) (m : Machine) (met : run 256 left start ≡ more m) where
  -- they are less than a head
  pub more_head : (u : List ℕ) × (t : Ty) × (0 < length u) × IsHead 256 (left ++ u) t
  more_head = let c = begins_more 256 left m met in (c.0, c.1, some c.0 c.1 c.2, c.2)
    where
      some : (u : List ℕ) (t : Ty) → IsHead 256 (left ++ u) t → 0 < length u
      some [] t spells =
          absurd (more_not_ends (run 256 left start) m t [] met
          (ap (λ bs. run 256 bs start) (sym (append-nil left) ∙ sym (append-nil (left ++ []))) ∙ run_head 256 256 (left ++ []) t [] spells (omega arith)))
      some (b ∷ u) t spells = omega arith

  pub more_begun : (u : List ℕ) × (0 < length u) × IsNext true 256 (left ++ u)
  more_begun = let c = more_head in (c.0, c.2, inl (c.1, c.3))

-- where no more come, and no item may stand there
pub more_bad : (text : State) (m : Machine) → run 256 text.left start ≡ more m → may_be_item m.phase ≡ false → text.finished ≡ true
    → IsBad (record { first = true; text = text }) (length text.left)
more_bad text m met late finished = record {
  within = omega arith;
  begins = subst (Begins true 256) (sym (take_all (length text.left) text.left (omega arith))) (front_begins 256 text.left m met);
  longest = λ j n past within b. absurd (omega arith);
  in_none = λ n u alone whole. none n (subst (MayFollow true n) (ap (λ bs. text.left ++ bs) (alone finished)) whole);
  none_next = next;
}
  where
    typed : Typed text.left
    typed = by (subst (Told text.left) met (told 256 text.left))
      where
        by : Told text.left (more m) → Typed text.left
        by (inl c) = absurd (true≢false (sym c.1 ∙ late))
        by (inr c) = c.0

    not_ended : (n : ℕ) (t : Ty) (rest : List ℕ) → run (256 + n) text.left start ≡ ends t rest → ⊥
    not_ended n t rest e = more_not_ends (run (256 + n) text.left start) m t rest (more_lifts n text.left m met) e

    next : (n : ℕ) → NoneNext true n text.left
    next n = dead_next (256 + n) n text.left (fits n) typed (not_ended n)

    none : (n : ℕ) → MayFollow true n (text.left ++ []) → ⊥
    none n (None, vs, whole) = no_items n text.left [] vs typed whole
    none n (Some t, vs, (head, rest, is, spells, others)) = next n head rest (sym (append-nil text.left) ∙ is) (inl (t, spells))

-- where a byte cannot follow
pub bad_there : (text : State) (front : List ℕ) (b : ℕ) (others : List ℕ) (n : Machine) → text.left ≡ front ++ b ∷ others → run 256 front start ≡ more n
    → ((ys : List ℕ) → run 256 (b ∷ ys) n ≡ fails (b ∷ ys)) → IsBad (record { first = true; text = text }) (length front)
bad_there text front b others n is met stop = record {
  within = let size : length text.left ≡ length front + length (b ∷ others) = ap length is ∙ length-append front (b ∷ others) in omega arith;
  begins = subst (Begins true 256) (sym (front_taken text.left front (b ∷ others) is)) (front_begins 256 front n met);
  longest = λ j k past within begun.
      let taken = more_taken text.left front b others j is past in
      dead_text (256 + k) k (take j text.left) begun.more (fits k) (subst Typed (sym taken.1) (typed taken.0))
      (subst (λ bs. Stuck (256 + k) (run (256 + k) bs start)) (sym taken.1) (stuck k taken.0)) begun.whole;
  in_none = λ k more alone whole. dead_text (256 + k) k text.left more (fits k) (subst Typed (sym is) (typed others)) (all_stuck k) whole;
  none_next = λ k. stuck_next (256 + k) k text.left (fits k) (subst Typed (sym is) (typed others)) (all_stuck k);
}
  where
    falls : (ys : List ℕ) → run 256 (front ++ b ∷ ys) start ≡ fails (b ∷ ys)
    falls ys = rw (run_append 256 front (b ∷ ys) start, met) (stop ys)

    typed : (ys : List ℕ) → Typed (front ++ b ∷ ys)
    typed ys = subst (Told (front ++ b ∷ ys)) (falls ys) (told 256 (front ++ b ∷ ys))

    stuck : (k : ℕ) (ys : List ℕ) → Stuck (256 + k) (run (256 + k) (front ++ b ∷ ys) start)
    stuck k ys = ended_stuck k (front ++ b ∷ ys) (subst Ended (sym (falls ys)) tt)

    all_stuck : (k : ℕ) → Stuck (256 + k) (run (256 + k) text.left start)
    all_stuck k = subst (λ bs. Stuck (256 + k) (run (256 + k) bs start)) (sym is) (stuck k others)

-- where a byte opens a bracket too many
pub deep_there : (text : State) (front : List ℕ) (b : ℕ) (others : List ℕ) (n : Machine) → text.left ≡ front ++ b ∷ others → run 256 front start ≡ more n
    → IsSound 256 n.stack n.phase → advanced 256 n.stack n.phase b ≡ Err stop.TooDeep → IsDeep (record { first = true; text = text }) (length front)
deep_there text front b others n is met sound stop =
    let size : length text.left ≡ length front + length (b ∷ others) = ap length is ∙ length-append front (b ∷ others) in
    let one_more : take (length front + 1) text.left ≡ front ++ b ∷ [] = rw (is, one_taken front b others) in
    record {
      within = omega arith;
      begins = subst (Begins true 256) (sym (front_taken text.left front (b ∷ others) is)) (front_begins 256 front n met);
      deeper = (257, subst (Begins true 257) (sym one_more) begun_deeper);
      too_deep = λ begun. dead_text 256 256 (take (length front + 1) text.left) begun.more (omega arith) (subst Typed (sym one_more) (typed []))
          (subst (λ bs. Stuck 256 (run 256 bs start)) (sym one_more) (stuck [])) begun.whole;
      none_next = stuck_next 256 256 text.left (omega arith) (subst Typed (sym is) (typed others)) (subst (λ bs. Stuck 256 (run 256 bs start)) (sym is) (stuck others));
    }
  where
    falls : (ys : List ℕ) → run 256 (front ++ b ∷ ys) start ≡ deep (b ∷ ys)
    falls ys = rw (run_append 256 front (b ∷ ys) start, met, stop) refl

    typed : (ys : List ℕ) → Typed (front ++ b ∷ ys)
    typed ys = subst (Told (front ++ b ∷ ys)) (falls ys) (told 256 (front ++ b ∷ ys))

    stuck : (ys : List ℕ) → Stuck 256 (run 256 (front ++ b ∷ ys) start)
    stuck ys = subst (Stuck 256) (sym (falls ys)) tt

    begun_deeper : Begins true 257 (front ++ b ∷ [])
    begun_deeper =
        let k = deeper_step n b sound stop in
        let reached : run 257 (front ++ b ∷ []) start ≡ more k.0 =
        run_append 257 front (b ∷ []) start ∙ (ap (λ o. extended 257 o (b ∷ [])) (more_lifts 1 front n met) ∙ k.1) in
        front_begins 257 (front ++ b ∷ []) k.0 reached

-- the same, from the run
pub fails_bad : (text : State) (rest : List ℕ) → run 256 text.left start ≡ fails rest
    → (length text.left - length rest < length text.left) × IsBad (record { first = true; text = text }) (length text.left - length rest)
fails_bad text rest e =
    let c = fails_begun text.left rest e in
    let size : length text.left ≡ length c.0 + length rest = ap length c.4 ∙ length-append c.0 rest in
    let some : 0 < length rest = subst (λ bs. 0 < length bs) (sym c.5) (omega arith) in
    let k : length c.0 ≡ length text.left - length rest = omega arith in
    (omega arith, subst (IsBad (record { first = true; text = text })) k (bad_there text c.0 c.1 c.2 c.3 (c.4 ∙ ap (λ bs. c.0 ++ bs) c.5) c.6 c.7))

pub deep_deep : (text : State) (rest : List ℕ) → run 256 text.left start ≡ deep rest → IsDeep (record { first = true; text = text }) (length text.left - length rest)
deep_deep text rest e =
    let c = deep_begun text.left rest e in
    let size : length text.left ≡ length c.0 + length rest = ap length c.4 ∙ length-append c.0 rest in
    let k : length c.0 ≡ length text.left - length rest = omega arith in
    subst (IsDeep (record { first = true; text = text })) k (deep_there text c.0 c.1 c.2 c.3 (c.4 ∙ ap (λ bs. c.0 ++ bs) c.5) c.6 c.7 c.8)
