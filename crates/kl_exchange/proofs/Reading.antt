-- What runs over the bytes left say of exchange texts.
use Rattle.std.proofs.Common.{◌≡◌, ℕ, ◌+◌, ◌-◌, ◌<◌, ◌≤◌, suc, zero, Bool, true, false, List, [], ◌∷◌, ◌++◌, length, take, drop, refl, sym, ap, subst, ◌∙◌, arith, IsTrue, ◌⊎◌, inl, inr, Option, Some, None, Result, Ok, Err, append-nil, length-append, length-drop, take-append-drop, drop-drop, take_all, take_at, true≢false}
use Rattle.std.specs.Prelude.{⊤}
use Rattle.kl_value.specs.declared.Value.{Value}
use Rattle.kl_exchange.specs.Grammar.{is_blank, Blank, IsItem, IsExchange, Begins}
use Rattle.kl_exchange.specs.Machine.{IsSound, advanced, run, Run, more, ends, fails, deep, followed, start}
use Rattle.kl_exchange.specs.Reading.{NoItem, GivesItem, Waits, IsBad, IsDeep, ReadsNext}
use Rattle.kl_exchange.specs.State.{State}
use Rattle.kl_exchange.specs.declared.error.ReadError.{ReadError}
use Rattle.kl_exchange.specs.declared.error.ReadError.TheVariants as error
use Rattle.std.specs.List.{list_all}
use Rattle.kl_exchange.specs.Scan.{KeepsRun, IsBegun}
use Rattle.kl_exchange.specs.declared.machine.Machine.{Machine}
use Rattle.kl_exchange.specs.Machine.{Step}
use Rattle.kl_exchange.specs.declared.machine.Stop.{Stop}
use Rattle.kl_exchange.specs.declared.machine.Stop.TheVariants as stop
use Rattle.kl_exchange.proofs.Completes.{Completes, Right, right, Lifts, lifts, can_complete, start_item, RunLifts, run_lifts}
use Rattle.std.proofs.Math.Nat.{suc-add}
use Rattle.std.proofs.lemmas.Bool.{and_parts}
use Rattle.kl_exchange.proofs.Canonical.{item_canonical}
use Rattle.kl_exchange.proofs.Runs.{extended, run_append, run_item, run_blank}

pub all_blank : (bs : List ℕ) → Blank bs → list_all is_blank bs ≡ true
all_blank [] blank = refl
all_blank (b ∷ bs) blank = rw (blank.0, all_blank bs blank.1)

abbrev pub CompletesAt : ℕ → Machine → List ℕ → Value → Type 0
CompletesAt L m u w = Completes L m.stack m.phase u w

-- the bytes before these can be completed
abbrev pub Begun : ℕ → Machine → List ℕ → List ℕ → Stop → Type 0
Begun L m bytes rest why = (front : List ℕ) × (b : ℕ) × (others : List ℕ) × (bytes ≡ front ++ rest) × (rest ≡ b ∷ others)
    × (n : Machine) × (run L front m ≡ more n) × IsSound L n.stack n.phase × ((u : List ℕ) (w : Value) → CompletesAt L n u w → CompletesAt L m (front ++ u) w)
    × (advanced L n.stack n.phase b ≡ Err why)

-- what a run over bytes leads to
abbrev pub Reaches : ℕ → Machine → List ℕ → Run → Type 0
Reaches L m bytes (more n) = IsSound L n.stack n.phase × ((u : List ℕ) (w : Value) → CompletesAt L n u w → CompletesAt L m (bytes ++ u) w)
Reaches L m bytes (ends v rest) = (item : List ℕ) × (bytes ≡ item ++ rest) × CompletesAt L m item v
Reaches L m bytes (fails rest) = Begun L m bytes rest stop.Bad ⊎ Begun L m bytes rest stop.NoMemory
Reaches L m bytes (deep rest) = Begun L m bytes rest stop.TooDeep

module _ (L : ℕ) where
  go_on : (m n : Machine) (b : ℕ) (bytes : List ℕ) → advanced L m.stack m.phase b ≡ Ok (Step.Goes n) → run L (b ∷ bytes) m ≡ run L bytes n
  go_on m n b bytes e = ap (λ o. followed o b bytes (λ k. run L bytes k)) e

  begun_before : (m n : Machine) (b : ℕ) (bytes rest : List ℕ) (why : Stop) → advanced L m.stack m.phase b ≡ Ok (Step.Goes n)
      → ((u : List ℕ) (w : Value) → CompletesAt L n u w → CompletesAt L m (b ∷ u) w) → Begun L n bytes rest why → Begun L m (b ∷ bytes) rest why
  begun_before m n b bytes rest why e leads c = (
    b ∷ c.0,
    c.1,
    c.2,
    ap (λ bs. b ∷ bs) c.3,
    c.4,
    c.5,
    go_on m n b c.0 e ∙ c.6,
    c.7,
    λ u w d. leads (c.0 ++ u) w (c.8 u w d),
    c.9,
  )

  reach_before : (m n : Machine) (b : ℕ) (bytes : List ℕ) (o : Run) → advanced L m.stack m.phase b ≡ Ok (Step.Goes n)
      → ((u : List ℕ) (w : Value) → CompletesAt L n u w → CompletesAt L m (b ∷ u) w) → Reaches L n bytes o → Reaches L m (b ∷ bytes) o
  reach_before m n b bytes (more k) e leads c = (c.0, λ u w d. leads (bytes ++ u) w (c.1 u w d))
  reach_before m n b bytes (ends v rest) e leads c = (b ∷ c.0, ap (λ bs. b ∷ bs) c.1, leads c.0 v c.2)
  reach_before m n b bytes (fails rest) e leads (inl c) = inl (begun_before m n b bytes rest stop.Bad e leads c)
  reach_before m n b bytes (fails rest) e leads (inr c) = inr (begun_before m n b bytes rest stop.NoMemory e leads c)
  reach_before m n b bytes (deep rest) e leads c = begun_before m n b bytes rest stop.TooDeep e leads c

  stopped : (m : Machine) (b : ℕ) (bytes : List ℕ) (why : Stop) → IsSound L m.stack m.phase → advanced L m.stack m.phase b ≡ Err why
      → Begun L m (b ∷ bytes) (b ∷ bytes) why
  stopped m b bytes why sound e = ([], b, bytes, refl, refl, m, refl, sound, λ u w c. c, e)

  reach_step : (m : Machine) (b : ℕ) (bytes : List ℕ) (o : Result Step Stop) → IsSound L m.stack m.phase → advanced L m.stack m.phase b ≡ o → Right L m.stack m.phase b o
      → ((n : Machine) → IsSound L n.stack n.phase → Reaches L n bytes (run L bytes n)) → Reaches L m (b ∷ bytes) (followed o b bytes (λ n. run L bytes n))
  reach_step m b bytes (Ok (Step.Goes n)) sound e c again = reach_before m n b bytes (run L bytes n) e c.1 (again n c.0)
  reach_step m b bytes (Ok (Step.Ends v)) sound e c again = (b ∷ [], refl, c)
  reach_step m b bytes (Err stop.Bad) sound e c again = inl (stopped m b bytes stop.Bad sound e)
  reach_step m b bytes (Err stop.TooDeep) sound e c again = stopped m b bytes stop.TooDeep sound e
  reach_step m b bytes (Err stop.NoMemory) sound e c again = inr (stopped m b bytes stop.NoMemory sound e)

  pub reaches : (bytes : List ℕ) (m : Machine) → IsSound L m.stack m.phase → Reaches L m bytes (run L bytes m)
  reaches [] m sound = (sound, λ u w c. c)
  reaches (b ∷ bytes) m sound =
      reach_step m b bytes (advanced L m.stack m.phase b) sound refl (right L m.stack m.phase b sound) (λ n s. reaches bytes n s)

  pub start_sound : IsSound L start.stack start.phase
  start_sound = record { frames = tt; at = tt; nesting = omega arith }

  -- a machine that bytes come to can be completed
  begins_item : (front : List ℕ) (m : Machine) → IsSound L m.stack m.phase → ((u : List ℕ) (w : Value) → CompletesAt L m u w → CompletesAt L start (front ++ u) w)
      → (u : List ℕ) × (w : Value) × IsItem L (front ++ u) w
  begins_item front m sound leads =
      let c = can_complete L m.stack m.phase sound in
      (c.0, c.1, start_item L (front ++ c.0) c.1 (leads c.0 c.1 c.2))

  pub one_item : (bytes : List ℕ) (v : Value) → IsItem L bytes v → IsExchange L bytes (v ∷ [])
  one_item bytes v spells = (bytes, [], sym (append-nil bytes), spells, tt)

  pub begins_more : (bytes : List ℕ) (m : Machine) → run L bytes start ≡ more m → (u : List ℕ) × (w : Value) × IsItem L (bytes ++ u) w
  begins_more bytes m e =
      let r = subst (Reaches L start bytes) e (reaches bytes start start_sound) in
      begins_item bytes m r.0 r.1

  pub begins : (bytes u : List ℕ) (w : Value) → IsItem L (bytes ++ u) w → Begins L bytes
  begins bytes u w spells = record { more = u; values = w ∷ []; whole = one_item (bytes ++ u) w spells }

  -- an item and what is behind it
  pub ends_item : (bytes rest : List ℕ) (v : Value) → run L bytes start ≡ ends v rest → (item : List ℕ) × (bytes ≡ item ++ rest) × IsItem L item v
  ends_item bytes rest v e =
      let r = subst (Reaches L start bytes) e (reaches bytes start start_sound) in
      (r.0, r.1, start_item L r.0 v r.2)

  -- A run that stops goes on so behind its bytes.
  abbrev pub Stuck : Run → Type 0
  Stuck (more m) = ⊥
  Stuck (ends v rest) = ⊥
  Stuck (fails rest) = ⊤
  Stuck (deep rest) = ⊤

  stuck_extended : (o : Run) (u : List ℕ) → Stuck o → Stuck (extended L o u)
  stuck_extended (more m) u h = absurd h
  stuck_extended (ends v rest) u h = absurd h
  stuck_extended (fails rest) u h = tt
  stuck_extended (deep rest) u h = tt

  stuck_not_more : (o : Run) (m : Machine) → Stuck o → o ≡ more m → ⊥
  stuck_not_more o m h e = subst Stuck e h

  stuck_not_ends : (o : Run) (v : Value) (rest : List ℕ) → Stuck o → o ≡ ends v rest → ⊥
  stuck_not_ends o v rest h e = subst Stuck e h

  -- no exchange text begins with bytes that a run stops at
  pub dead : (n : ℕ) (bytes u : List ℕ) (vs : List Value) → n ≤ L → Stuck (run L bytes start) → IsExchange n (bytes ++ u) vs → ⊥
  dead n bytes u [] room stuck blank =
      stuck_not_more (run L (bytes ++ u) start) start (rw (run_append L bytes u start) (stuck_extended (run L bytes start) u stuck)) (run_blank L (bytes ++ u) blank)
  dead n bytes u (v ∷ vs) room stuck whole =
      stuck_not_ends (run L (bytes ++ u) start) v whole.1 (rw (run_append L bytes u start) (stuck_extended (run L bytes start) u stuck))
      (rw whole.2 (run_item L n whole.0 v whole.1 whole.3 room))

  -- no item stands at the front of bytes that a run does not end in
  pub none_there : (n : ℕ) (bytes : List ℕ) → n ≤ L → ((v : Value) (rest : List ℕ) → run L bytes start ≡ ends v rest → ⊥) → NoItem n bytes
  none_there n bytes room none item rest v is spells = none v rest (rw is (run_item L n item v rest spells room))

-- what a reader keeps
module _ (buffer : List ℕ) (from to place : ℕ) (m : Machine) (keeps : KeepsRun buffer from to place m) where
  pub keeps_sound : IsSound 256 m.stack m.phase
  keeps_sound = (subst (Reaches 256 start (take (to - from) (drop from buffer))) keeps.met (reaches 256 (take (to - from) (drop from buffer)) start (start_sound 256))).0

  -- the run over the bytes left goes on from the machine
  pub keeps_run : run 256 (drop from buffer) start ≡ run 256 (drop to buffer) m
  keeps_run =
      let ordered = keeps.ordered in
      let parts : drop from buffer ≡ take (to - from) (drop from buffer) ++ drop to buffer =
      sym (ap (λ bs. take (to - from) (drop from buffer) ++ bs) (ap (λ k. drop k buffer) (let k : to ≡ from + (to - from) = omega arith in k) ∙ sym (drop-drop (to - from) from buffer)) ∙ take-append-drop (to - from) (drop from buffer)) in
      ap (λ bs. run 256 bs start) parts
      ∙ (run_append 256 (take (to - from) (drop from buffer)) (drop to buffer) start ∙ ap (λ o. extended 256 o (drop to buffer)) keeps.met)

-- The same outcome under a deeper limit.
deeper : (n : ℕ) → 256 ≤ 256 + n
deeper n = omega arith

fits : (n : ℕ) → n ≤ 256 + n
fits n = omega arith

more_lifts : (n : ℕ) (bytes : List ℕ) (m : Machine) → run 256 bytes start ≡ more m → run (256 + n) bytes start ≡ more m
more_lifts n bytes m e = subst (λ o. RunLifts 256 (256 + n) (deeper n) o (run (256 + n) bytes start)) e (run_lifts 256 (256 + n) (deeper n) bytes start)

fails_lifts : (n : ℕ) (bytes rest : List ℕ) → run 256 bytes start ≡ fails rest → run (256 + n) bytes start ≡ fails rest
fails_lifts n bytes rest e = subst (λ o. RunLifts 256 (256 + n) (deeper n) o (run (256 + n) bytes start)) e (run_lifts 256 (256 + n) (deeper n) bytes start)

more_not_ends : (m : Machine) (v : Value) (rest : List ℕ) (o : Run) → o ≡ more m → o ≡ ends v rest → ⊥
more_not_ends m v rest o e f = cc

-- where the bytes left lead to a machine
module _ (left : List ℕ) (m : Machine) (met : run 256 left start ≡ more m) where
  no_item_yet : (n : ℕ) → NoItem n left
  no_item_yet n = none_there (256 + n) n left (fits n) (λ v rest e. more_not_ends m v rest _ (more_lifts n left m met) e)

  pub needs_more : (old : State) → old.left ≡ left → old.refused ≡ None → old.finished ≡ false → Waits old old
  needs_more old same fresh unfinished =
      let c = begins_more 256 left m met in
      record {
        fresh = fresh;
        unfinished = unfinished;
        more = c.0;
        proper = some c.0 c.1 c.2;
        v = c.1;
        begun = subst (λ bs. IsItem 256 (bs ++ c.0) c.1) (sym same) c.2;
        same = refl;
      }
    where
      some : (u : List ℕ) (w : Value) → IsItem 256 (left ++ u) w → 0 < length u
      some [] w spells = absurd (no_item_yet 256 left [] w (sym (append-nil left)) (subst (λ bs. IsItem 256 bs w) (append-nil left) spells))
      some (b ∷ u) w spells = omega arith

  pub bad_at_end : (old : State) → old.left ≡ left → old.finished ≡ true → list_all is_blank left ≡ false → IsBad old (length left)
  bad_at_end old same finished text =
      let c = begins_more 256 left m met in
      subst (λ l. IsBad (record old { left = l }) (length left)) (sym same)
      (record {
        within = omega arith;
        begins = subst (Begins 256) (sym (take_all (length left) left (omega arith))) (begins 256 left c.0 c.1 c.2);
        longest = λ j n past within b. absurd (omega arith);
        in_none = none;
        no_item = no_item_yet;
      })
    where
      none : (n : ℕ) (u : List ℕ) (vs : List Value) → (IsTrue old.finished → u ≡ []) → IsExchange n (left ++ u) vs → ⊥
      none n u [] alone whole =
          let blank : Blank left = subst Blank (ap (λ bs. left ++ bs) (alone finished) ∙ append-nil left) whole in
          true≢false (sym (all_blank left blank) ∙ text)
      none n u (v ∷ vs) alone whole =
          no_item_yet n whole.0 whole.1 v (sym (ap (λ bs. left ++ bs) (alone finished) ∙ append-nil left) ∙ whole.2) whole.3

-- where an item ends
pub gives : (old new : State) (v : Value) (rest : List ℕ) → run 256 old.left start ≡ ends v rest → old.refused ≡ None → new.left ≡ rest
    → new.place ≡ old.place + (length old.left - length rest) → new.finished ≡ old.finished → new.refused ≡ None → GivesItem old v new
gives old new v rest met fresh left place finished refused =
    let c = ends_item 256 old.left rest v met in
    record {
      fresh = fresh;
      bytes = c.0;
      front = c.1 ∙ ap (λ bs. c.0 ++ bs) (sym left);
      spells = c.2;
      canonical = item_canonical 256 c.0 v c.2;
      place = place ∙ (let size : length old.left ≡ length c.0 + length rest = ap length c.1 ∙ length-append c.0 rest in omega arith);
      finished = finished;
      refused = refused;
    }

-- where a byte cannot follow
pub front_taken : (left front rest : List ℕ) → left ≡ front ++ rest → take (length front) left ≡ front
front_taken left front rest is = rw is (take_at front rest (length front) refl)

pub more_taken : (left front : List ℕ) (b : ℕ) (others : List ℕ) (j : ℕ) → left ≡ front ++ b ∷ others → length front < j → (ys : List ℕ) × (take j left ≡ front ++ b ∷ ys)
more_taken left [] b others zero is past = absurd (omega arith)
more_taken left [] b others (suc j) is past = (take j others, rw is refl)
more_taken left (a ∷ front) b others zero is past = absurd (omega arith)
more_taken left (a ∷ front) b others (suc j) is past =
    let rest = more_taken (front ++ b ∷ others) front b others j refl (omega arith) in
    (rest.0, rw is (ap (λ bs. a ∷ bs) rest.1))

module _ (left front : List ℕ) (b : ℕ) (others : List ℕ) (is : left ≡ front ++ b ∷ others) (n : Machine) (met : run 256 front start ≡ more n) where
  front_begins : Begins 256 front
  front_begins = let c = begins_more 256 front n met in begins 256 front c.0 c.1 c.2

abbrev Fails : Run → Type 0
Fails (fails rest) = ⊤
Fails _ = ⊥

fails_is : (o : Run) → Fails o → (rest : List ℕ) × (o ≡ fails rest)
fails_is (fails rest) h = (rest, refl)
fails_is (more m) h = absurd h
fails_is (ends v rest) h = absurd h
fails_is (deep rest) h = absurd h

fails_lift : (k : ℕ) (bytes : List ℕ) → Fails (run 256 bytes start) → Stuck (256 + k) (run (256 + k) bytes start)
fails_lift k bytes h =
    let c = fails_is (run 256 bytes start) h in
    subst (Stuck (256 + k)) (sym (fails_lifts k bytes c.0 c.1)) tt

pub bad_there : (old : State) (front : List ℕ) (b : ℕ) (others : List ℕ) (n : Machine) → old.left ≡ front ++ b ∷ others → run 256 front start ≡ more n
    → ((ys : List ℕ) → run 256 (b ∷ ys) n ≡ fails (b ∷ ys)) → IsBad old (length front)
bad_there old front b others n is met stop = record {
  within = let size : length old.left ≡ length front + length (b ∷ others) = ap length is ∙ length-append front (b ∷ others) in omega arith;
  begins = subst (Begins 256) (sym (front_taken old.left front (b ∷ others) is)) (front_begins old.left front b others is n met);
  longest = λ j k past within begun.
      let taken = more_taken old.left front b others j is past in
      dead (256 + k) k (take j old.left) begun.more begun.values (fits k) (subst (λ bs. Stuck (256 + k) (run (256 + k) bs start)) (sym taken.1) (fails_lift k (front ++ b ∷ taken.0) (falls taken.0))) begun.whole;
  in_none = λ k more vs alone whole. dead (256 + k) k old.left more vs (fits k) (fallen k) whole;
  no_item = λ k. none_there (256 + k) k old.left (fits k) (λ v rest e. stuck_not_ends (256 + k) (run (256 + k) old.left start) v rest (fallen k) e);
}
  where
    falls : (ys : List ℕ) → Fails (run 256 (front ++ b ∷ ys) start)
    falls ys = rw (run_append 256 front (b ∷ ys) start, met, stop ys) tt

    fallen : (k : ℕ) → Stuck (256 + k) (run (256 + k) old.left start)
    fallen k = subst (λ bs. Stuck (256 + k) (run (256 + k) bs start)) (sym is) (fails_lift k (front ++ b ∷ others) (falls others))

-- where a byte opens a bracket too many
deeper_step : (n : Machine) (b : ℕ) → IsSound 256 n.stack n.phase → advanced 256 n.stack n.phase b ≡ Err stop.TooDeep → (k : Machine) × (run 257 (b ∷ []) n ≡ more k)
deeper_step n b sound e =
    goes (subst (λ o. Lifts o (advanced 257 n.stack n.phase b)) e (lifts 256 257 (omega arith) n.stack n.phase b))
  where
    sound_there : IsSound 257 n.stack n.phase
    sound_there = record { frames = sound.frames; at = sound.at; nesting = let low = sound.nesting in omega arith }

    goes : ((k : Machine) × (advanced 257 n.stack n.phase b ≡ Ok (Step.Goes k))) ⊎ (advanced 257 n.stack n.phase b ≡ Err stop.TooDeep)
        → (k : Machine) × (run 257 (b ∷ []) n ≡ more k)
    goes (inl c) = (c.0, go_on 257 n c.0 b [] c.1)
    goes (inr f) = absurd (let high = subst (Right 257 n.stack n.phase b) f (right 257 n.stack n.phase b sound_there) in let low = sound.nesting in omega arith)

pub one_taken : (front : List ℕ) (b : ℕ) (others : List ℕ) → take (length front + 1) (front ++ b ∷ others) ≡ front ++ b ∷ []
one_taken [] b others = refl
one_taken (a ∷ front) b others = rw (suc-add (length front) 1) (ap (λ bs. a ∷ bs) (one_taken front b others))

pub deep_there : (old : State) (front : List ℕ) (b : ℕ) (others : List ℕ) (n : Machine) → old.left ≡ front ++ b ∷ others → run 256 front start ≡ more n
    → IsSound 256 n.stack n.phase → advanced 256 n.stack n.phase b ≡ Err stop.TooDeep → IsDeep old (length front)
deep_there old front b others n is met sound stop =
    let size : length old.left ≡ length front + length (b ∷ others) = ap length is ∙ length-append front (b ∷ others) in
    let one_more : take (length front + 1) old.left ≡ front ++ b ∷ [] = rw (is, one_taken front b others) in
    record {
      within = omega arith;
      begins = subst (Begins 256) (sym (front_taken old.left front (b ∷ others) is)) (front_begins old.left front b others is n met);
      deeper = (257, subst (Begins 257) (sym one_more) begun_deeper);
      too_deep = λ begun. dead 256 256 (take (length front + 1) old.left) begun.more begun.values (omega arith) (subst (λ bs. Stuck 256 (run 256 bs start)) (sym one_more) (stuck [])) begun.whole;
      no_item = none_there 256 256 old.left (omega arith) (λ v rest e. stuck_not_ends 256 (run 256 old.left start) v rest (subst (λ bs. Stuck 256 (run 256 bs start)) (sym is) (stuck others)) e);
    }
  where
    stuck : (ys : List ℕ) → Stuck 256 (run 256 (front ++ b ∷ ys) start)
    stuck ys = rw (run_append 256 front (b ∷ ys) start, met, stop) tt

    begun_deeper : Begins 257 (front ++ b ∷ [])
    begun_deeper =
        let k = deeper_step n b sound stop in
        let reached : run 257 (front ++ b ∷ []) start ≡ more k.0 =
        run_append 257 front (b ∷ []) start ∙ (ap (λ o. extended 257 o (b ∷ [])) (more_lifts 1 front n met) ∙ k.1) in
        let c = begins_more 257 (front ++ b ∷ []) k.0 reached in
        begins 257 (front ++ b ∷ []) c.0 c.1 c.2

-- A scan of the bytes behind the machine that a reader keeps.
abbrev pub seen : List ℕ → ℕ → ℕ → Bool → Option ReadError → State
seen buffer place from finished refused = record { place = place; left = drop from buffer; finished = finished; refused = refused }

pub rest_is : (xs buffer : List ℕ) (i : ℕ) → xs ≡ buffer → take (length xs - i) (drop i xs) ≡ drop i buffer
rest_is xs buffer i same = take_all (length xs - i) (drop i xs) (omega (arith, length-drop i xs)) ∙ ap (drop i) same

pub blank_from : (bs : List ℕ) → list_all is_blank bs ≡ true → Blank bs
blank_from [] all = tt
blank_from (b ∷ bs) all = let both = and_parts (is_blank b) (list_all is_blank bs) all in (both.0, blank_from bs both.1)

-- what a scan that fails leads from
pub fails_begun : (bytes rest : List ℕ) → run 256 bytes start ≡ fails rest
    → (front : List ℕ) × (b : ℕ) × (others : List ℕ) × (n : Machine) × (bytes ≡ front ++ rest) × (rest ≡ b ∷ others) × (run 256 front start ≡ more n)
    × ((ys : List ℕ) → run 256 (b ∷ ys) n ≡ fails (b ∷ ys))
fails_begun bytes rest met = begun (subst (Reaches 256 start bytes) met (reaches 256 bytes start (start_sound 256)))
  where
    begun : Begun 256 start bytes rest stop.Bad ⊎ Begun 256 start bytes rest stop.NoMemory
        → (front : List ℕ) × (b : ℕ) × (others : List ℕ) × (n : Machine) × (bytes ≡ front ++ rest) × (rest ≡ b ∷ others) × (run 256 front start ≡ more n)
        × ((ys : List ℕ) → run 256 (b ∷ ys) n ≡ fails (b ∷ ys))
    begun (inl c) = (c.0, c.1, c.2, c.5, c.3, c.4, c.6, λ ys. ap (λ o. followed o c.1 ys (λ k. run 256 ys k)) c.9)
    begun (inr c) = (c.0, c.1, c.2, c.5, c.3, c.4, c.6, λ ys. ap (λ o. followed o c.1 ys (λ k. run 256 ys k)) c.9)

-- and one that opens a bracket too many
pub deep_begun : (bytes rest : List ℕ) → run 256 bytes start ≡ deep rest
    → (front : List ℕ) × (b : ℕ) × (others : List ℕ) × (n : Machine) × (bytes ≡ front ++ rest) × (rest ≡ b ∷ others) × (run 256 front start ≡ more n)
    × IsSound 256 n.stack n.phase × (advanced 256 n.stack n.phase b ≡ Err stop.TooDeep)
deep_begun bytes rest met =
    let c = subst (Reaches 256 start bytes) met (reaches 256 bytes start (start_sound 256)) in (c.0, c.1, c.2, c.5, c.3, c.4, c.6, c.7, c.9)

module _ (buffer xs : List ℕ) (from to place : ℕ) (m n : Machine) (keeps : KeepsRun buffer from to place m) (same : xs ≡ buffer) (machine : n ≡ m) where
  scanned_bytes : take (length xs - to) (drop to xs) ≡ drop to buffer
  scanned_bytes = rest_is xs buffer to same

  pub goes_to : (o : Run) → run 256 (take (length xs - to) (drop to xs)) n ≡ o → run 256 (drop from buffer) start ≡ o
  goes_to o e =
      keeps_run buffer from to place m keeps
      ∙ (ap (λ bs. run 256 bs m) (sym scanned_bytes) ∙ (ap (λ k. run 256 (take (length xs - to) (drop to xs)) k) (sym machine) ∙ e))

  pub keeps_all : (k : Machine) (len : ℕ) → len ≡ length buffer → run 256 (take (length xs - to) (drop to xs)) n ≡ more k → KeepsRun buffer from len place k
  keeps_all k len whole e =
      let ordered = keeps.ordered in
      let within = keeps.within in
      record {
        ordered = omega arith;
        within = omega arith;
        room = keeps.room;
        met = ap (λ bs. run 256 bs start) (take_all (len - from) (drop from buffer) (omega (arith, length-drop from buffer))) ∙ goes_to (more k) e;
      }

  behind : (count : ℕ) → drop count (take (length xs - to) (drop to xs)) ≡ drop (to + count) buffer
  behind count = ap (drop count) scanned_bytes ∙ drop-drop count to buffer

  left_size : (count : ℕ) → count ≤ length (take (length xs - to) (drop to xs)) → (length (drop from buffer) - length (drop (to + count) buffer) ≡ (to + count) - from)
  left_size count small =
      let ordered = keeps.ordered in
      let within = keeps.within in
      let size : length (take (length xs - to) (drop to xs)) ≡ length (drop to buffer) = ap length scanned_bytes in
      omega (arith, length-drop from buffer, length-drop (to + count) buffer, length-drop to buffer)

  pub ends_here : (finished : Bool) (refused : Option ReadError) (v : Value) (count : ℕ)
      → (count ≤ length (take (length xs - to) (drop to xs))) × (run 256 (take (length xs - to) (drop to xs)) n ≡ ends v (drop count (take (length xs - to) (drop to xs))))
      → refused ≡ None → GivesItem (seen buffer place from finished refused) v (seen buffer (place + ((to + count) - from)) (to + count) finished refused)
  ends_here finished refused v count e fresh =
      gives (seen buffer place from finished refused) (seen buffer (place + ((to + count) - from)) (to + count) finished refused) v (drop (to + count) buffer)
      (goes_to (ends v (drop (to + count) buffer)) (e.1 ∙ ap (ends v) (behind count))) fresh refl
      (ap (λ k. place + k) (sym (left_size count e.0))) refl fresh

  front_size : (count : ℕ) (front : List ℕ) → count ≤ length (take (length xs - to) (drop to xs)) → drop from buffer ≡ front ++ drop (to + count) buffer
      → length front ≡ (to + count) - from
  front_size count front small is =
      let size : length (drop from buffer) ≡ length front + length (drop (to + count) buffer) = ap length is ∙ length-append front (drop (to + count) buffer) in
      omega (arith, left_size count small)

  pub bad_here : (finished : Bool) (refused : Option ReadError) (count : ℕ)
      → (count < length (take (length xs - to) (drop to xs))) × (run 256 (take (length xs - to) (drop to xs)) n ≡ fails (drop count (take (length xs - to) (drop to xs))))
      → refused ≡ None → ReadsNext (seen buffer place from finished refused) (Err (error.Bad (place + ((to + count) - from))))
      (seen buffer place from finished (Some (error.Bad (place + ((to + count) - from)))))
  bad_here finished refused count e fresh =
      let c = fails_begun (drop from buffer) (drop (to + count) buffer) (goes_to (fails (drop (to + count) buffer)) (e.1 ∙ ap fails (behind count))) in
      let old : State = seen buffer place from finished refused in
      let small : count ≤ length (take (length xs - to) (drop to xs)) = let h = e.0 in omega arith in
      inr (
        fresh,
        (
          (to + count) - from,
          refl,
          subst (IsBad old) (front_size count c.0 small c.4) (bad_there old c.0 c.1 c.2 c.3 (c.4 ∙ ap (λ bs. c.0 ++ bs) c.5) c.6 c.7),
        ),
        refl,
      )

  pub deep_here : (finished : Bool) (refused : Option ReadError) (count : ℕ)
      → (count < length (take (length xs - to) (drop to xs))) × (run 256 (take (length xs - to) (drop to xs)) n ≡ deep (drop count (take (length xs - to) (drop to xs))))
      → refused ≡ None → ReadsNext (seen buffer place from finished refused) (Err (error.TooDeep (place + ((to + count) - from))))
      (seen buffer place from finished (Some (error.TooDeep (place + ((to + count) - from)))))
  deep_here finished refused count e fresh =
      let met = goes_to (deep (drop (to + count) buffer)) (e.1 ∙ ap deep (behind count)) in
      let c = subst (Reaches 256 start (drop from buffer)) met (reaches 256 (drop from buffer) start (start_sound 256)) in
      let old : State = seen buffer place from finished refused in
      let small : count ≤ length (take (length xs - to) (drop to xs)) = let h = e.0 in omega arith in
      inr (
        fresh,
        (
          (to + count) - from,
          refl,
          subst (IsDeep old) (front_size count c.0 small c.3) (deep_there old c.0 c.1 c.2 c.5 (c.3 ∙ ap (λ bs. c.0 ++ bs) c.4) c.6 c.7 c.9),
        ),
        refl,
      )

pub bad_end_here : (buffer : List ℕ) (from place len : ℕ) (refused : Option ReadError) (finished : Bool) → IsBegun (drop from buffer) → refused ≡ None → finished ≡ true
    → list_all is_blank (drop from buffer) ≡ false → len ≡ length buffer
    → ReadsNext (seen buffer place from finished refused) (Err (error.Bad (place + (len - from)))) (seen buffer place from finished (Some (error.Bad (place + (len - from)))))
bad_end_here buffer from place len refused finished begun fresh end text whole =
    let old : State = seen buffer place from finished refused in
    let size : length (drop from buffer) ≡ len - from = omega (arith, length-drop from buffer) in
    inr (fresh, (len - from, refl, subst (IsBad old) size (bad_at_end (drop from buffer) begun.machine begun.met old refl end text)), refl)
