-- What a run over bytes says of them: they begin a head, or are one, or begin none.
use Rattle.std.proofs.Common.{◌≡◌, ℕ, ◌+◌, ◌≤◌, List, [], ◌∷◌, ◌++◌, length, take, refl, sym, ap, subst, ◌∙◌, arith, ◌⊎◌, inl, inr, Result, Ok, Err, length-append, take_at, lit<}
use Rattle.std.specs.Prelude.{⊤}
use Rattle.kl_type.specs.declared.ground.Ty.{Ty}
use Rattle.kl_exchange.proofs.OneAnswer.{same_front}
use Rattle.kl_heads.specs.Heads.{IsHead}
use Rattle.kl_heads.specs.Machine.{Run, run, more, ends, no_head, fails, deep, followed, advanced, start}
use Rattle.kl_heads.specs.Machine.{Step}
use Rattle.kl_heads.specs.declared.machine.Machine.{Machine}
use Rattle.kl_heads.specs.declared.machine.Stop.{Stop}
use Rattle.kl_heads.specs.declared.machine.Stop.TheVariants as stop
use Rattle.kl_heads.proofs.Completes.{IsSound, Completes, Right, right, Lifts, lifts, can_complete, start_head, RunLifts, run_lifts}
use Rattle.kl_heads.proofs.Runs.{extended, run_append, run_head}

abbrev pub CompletesAt : ℕ → Machine → List ℕ → Ty → Type 0
CompletesAt L m u w = Completes L m.stack m.phase u w

-- the bytes before these can be completed
abbrev pub Begun : ℕ → Machine → List ℕ → List ℕ → Stop → Type 0
Begun L m bytes rest why = (front : List ℕ) × (b : ℕ) × (others : List ℕ) × (bytes ≡ front ++ rest) × (rest ≡ b ∷ others)
    × (n : Machine) × (run L front m ≡ more n) × IsSound L n.stack n.phase × ((u : List ℕ) (w : Ty) → CompletesAt L n u w → CompletesAt L m (front ++ u) w)
    × (advanced L n.stack n.phase b ≡ Err why)

-- what a run over bytes leads to
abbrev pub Reaches : ℕ → Machine → List ℕ → Run → Type 0
Reaches L m bytes (more n) = IsSound L n.stack n.phase × ((u : List ℕ) (w : Ty) → CompletesAt L n u w → CompletesAt L m (bytes ++ u) w)
Reaches L m bytes (ends t rest) = (head : List ℕ) × (bytes ≡ head ++ rest) × CompletesAt L m head t
Reaches L m bytes no_head = (rest : List ℕ) × Begun L m bytes rest stop.NoHead
Reaches L m bytes (fails rest) = Begun L m bytes rest stop.Bad ⊎ Begun L m bytes rest stop.NoMemory
Reaches L m bytes (deep rest) = Begun L m bytes rest stop.TooDeep

module _ (L : ℕ) where
  pub go_on : (m n : Machine) (b : ℕ) (bytes : List ℕ) → advanced L m.stack m.phase b ≡ Ok (Step.Goes n) → run L (b ∷ bytes) m ≡ run L bytes n
  go_on m n b bytes e = ap (λ o. followed o b bytes (λ k. run L bytes k)) e

  begun_before : (m n : Machine) (b : ℕ) (bytes rest : List ℕ) (why : Stop) → advanced L m.stack m.phase b ≡ Ok (Step.Goes n)
      → ((u : List ℕ) (w : Ty) → CompletesAt L n u w → CompletesAt L m (b ∷ u) w) → Begun L n bytes rest why → Begun L m (b ∷ bytes) rest why
  begun_before m n b bytes rest why e leads c = (
    b ∷ c.0,
    c.1,
    c.2,
    ap (λ bs. b ∷ bs) c.3,
    c.4,
    c.5,
    go_on m n b c.0 e ∙ c.6,
    c.7,
    λ u w d. leads (c.0 ++ u) w (c.8 u w d),
    c.9,
  )

  reach_before : (m n : Machine) (b : ℕ) (bytes : List ℕ) (o : Run) → advanced L m.stack m.phase b ≡ Ok (Step.Goes n)
      → ((u : List ℕ) (w : Ty) → CompletesAt L n u w → CompletesAt L m (b ∷ u) w) → Reaches L n bytes o → Reaches L m (b ∷ bytes) o
  reach_before m n b bytes (more k) e leads c = (c.0, λ u w d. leads (bytes ++ u) w (c.1 u w d))
  reach_before m n b bytes (ends t rest) e leads c = (b ∷ c.0, ap (λ bs. b ∷ bs) c.1, leads c.0 t c.2)
  reach_before m n b bytes no_head e leads c = (c.0, begun_before m n b bytes c.0 stop.NoHead e leads c.1)
  reach_before m n b bytes (fails rest) e leads (inl c) = inl (begun_before m n b bytes rest stop.Bad e leads c)
  reach_before m n b bytes (fails rest) e leads (inr c) = inr (begun_before m n b bytes rest stop.NoMemory e leads c)
  reach_before m n b bytes (deep rest) e leads c = begun_before m n b bytes rest stop.TooDeep e leads c

  stopped : (m : Machine) (b : ℕ) (bytes : List ℕ) (why : Stop) → IsSound L m.stack m.phase → advanced L m.stack m.phase b ≡ Err why
      → Begun L m (b ∷ bytes) (b ∷ bytes) why
  stopped m b bytes why sound e = ([], b, bytes, refl, refl, m, refl, sound, λ u w c. c, e)

  reach_step : (m : Machine) (b : ℕ) (bytes : List ℕ) (o : Result Step Stop) → IsSound L m.stack m.phase → advanced L m.stack m.phase b ≡ o → Right L m.stack m.phase b o
      → ((n : Machine) → IsSound L n.stack n.phase → Reaches L n bytes (run L bytes n)) → Reaches L m (b ∷ bytes) (followed o b bytes (λ n. run L bytes n))
  reach_step m b bytes (Ok (Step.Goes n)) sound e c again = reach_before m n b bytes (run L bytes n) e c.1 (again n c.0)
  reach_step m b bytes (Ok (Step.Ends t)) sound e c again = (b ∷ [], refl, c)
  reach_step m b bytes (Err stop.NoHead) sound e c again = (b ∷ bytes, stopped m b bytes stop.NoHead sound e)
  reach_step m b bytes (Err stop.Bad) sound e c again = inl (stopped m b bytes stop.Bad sound e)
  reach_step m b bytes (Err stop.TooDeep) sound e c again = stopped m b bytes stop.TooDeep sound e
  reach_step m b bytes (Err stop.NoMemory) sound e c again = inr (stopped m b bytes stop.NoMemory sound e)

  pub reaches : (bytes : List ℕ) (m : Machine) → IsSound L m.stack m.phase → Reaches L m bytes (run L bytes m)
  reaches [] m sound = (sound, λ u w c. c)
  reaches (b ∷ bytes) m sound =
      reach_step m b bytes (advanced L m.stack m.phase b) sound refl (right L m.stack m.phase b sound) (λ n s. reaches bytes n s)

  pub start_sound : IsSound L start.stack start.phase
  start_sound = record { at = lit< tt; nesting = omega arith }

  -- bytes that lead to a machine begin a head
  pub begins_more : (bytes : List ℕ) (m : Machine) → run L bytes start ≡ more m → (u : List ℕ) × (w : Ty) × IsHead L (bytes ++ u) w
  begins_more bytes m e =
      let r = subst (Reaches L start bytes) e (reaches bytes start start_sound) in
      let c = can_complete L m.stack m.phase r.0 in
      (c.0, c.1, start_head L (bytes ++ c.0) c.1 (r.1 c.0 c.1 c.2))

  -- a head and what is behind it
  pub ends_head : (bytes rest : List ℕ) (t : Ty) → run L bytes start ≡ ends t rest → (head : List ℕ) × (bytes ≡ head ++ rest) × IsHead L head t
  ends_head bytes rest t e =
      let r = subst (Reaches L start bytes) e (reaches bytes start start_sound) in
      (r.0, r.1, start_head L r.0 t r.2)

  -- A run that stops goes on so behind its bytes.
  abbrev pub Stuck : Run → Type 0
  Stuck (more m) = ⊥
  Stuck (ends t rest) = ⊥
  Stuck o = ⊤

  stuck_extended : (o : Run) (u : List ℕ) → Stuck o → Stuck (extended L o u)
  stuck_extended (more m) u h = absurd h
  stuck_extended (ends t rest) u h = absurd h
  stuck_extended no_head u h = tt
  stuck_extended (fails rest) u h = tt
  stuck_extended (deep rest) u h = tt

  -- no head stands at the front where a run stops, whatever follows
  pub dead : (n : ℕ) (bytes u head rest : List ℕ) (t : Ty) → n ≤ L → Stuck (run L bytes start) → bytes ++ u ≡ head ++ rest → IsHead n head t → ⊥
  dead n bytes u head rest t room stuck is spells =
      let whole : run L (bytes ++ u) start ≡ ends t rest = ap (λ bs. run L bs start) is ∙ run_head L n head t rest spells room in
      let still : Stuck (run L (bytes ++ u) start) = rw (run_append L bytes u start) (stuck_extended (run L bytes start) u stuck) in
      subst Stuck whole still

-- what a run that fails leads from
pub fails_begun : (bytes rest : List ℕ) → run 256 bytes start ≡ fails rest
    → (front : List ℕ) × (b : ℕ) × (others : List ℕ) × (n : Machine) × (bytes ≡ front ++ rest) × (rest ≡ b ∷ others) × (run 256 front start ≡ more n)
    × ((ys : List ℕ) → run 256 (b ∷ ys) n ≡ fails (b ∷ ys))
fails_begun bytes rest met = begun (subst (Reaches 256 start bytes) met (reaches 256 bytes start (start_sound 256)))
  where
    begun : Begun 256 start bytes rest stop.Bad ⊎ Begun 256 start bytes rest stop.NoMemory
        → (front : List ℕ) × (b : ℕ) × (others : List ℕ) × (n : Machine) × (bytes ≡ front ++ rest) × (rest ≡ b ∷ others) × (run 256 front start ≡ more n)
        × ((ys : List ℕ) → run 256 (b ∷ ys) n ≡ fails (b ∷ ys))
    begun (inl c) = (c.0, c.1, c.2, c.5, c.3, c.4, c.6, λ ys. ap (λ o. followed o c.1 ys (λ k. run 256 ys k)) c.9)
    begun (inr c) = (c.0, c.1, c.2, c.5, c.3, c.4, c.6, λ ys. ap (λ o. followed o c.1 ys (λ k. run 256 ys k)) c.9)

-- and one that opens a bracket too many
pub deep_begun : (bytes rest : List ℕ) → run 256 bytes start ≡ deep rest
    → (front : List ℕ) × (b : ℕ) × (others : List ℕ) × (n : Machine) × (bytes ≡ front ++ rest) × (rest ≡ b ∷ others) × (run 256 front start ≡ more n)
    × IsSound 256 n.stack n.phase × (advanced 256 n.stack n.phase b ≡ Err stop.TooDeep)
deep_begun bytes rest met =
    let c = subst (Reaches 256 start bytes) met (reaches 256 bytes start (start_sound 256)) in (c.0, c.1, c.2, c.5, c.3, c.4, c.6, c.7, c.9)

-- The same outcome under a deeper limit.
pub fits : (n : ℕ) → n ≤ 256 + n
fits n = omega arith

lifted : (n : ℕ) (bytes : List ℕ) → RunLifts 256 (256 + n) (omega arith) (run 256 bytes start) (run (256 + n) bytes start)
lifted n bytes = run_lifts 256 (256 + n) (omega arith) bytes start

pub more_lifts : (n : ℕ) (bytes : List ℕ) (m : Machine) → run 256 bytes start ≡ more m → run (256 + n) bytes start ≡ more m
more_lifts n bytes m e = subst (λ o. RunLifts 256 (256 + n) (omega arith) o (run (256 + n) bytes start)) e (lifted n bytes)

-- a run that stops whatever the limit is
abbrev pub Ended : Run → Type 0
Ended no_head = ⊤
Ended (fails rest) = ⊤
Ended _ = ⊥

ended_as : (n : ℕ) (o p : Run) → Ended o → RunLifts 256 (256 + n) (omega arith) o p → Stuck (256 + n) p
ended_as n (more m) p h lift = absurd h
ended_as n (ends t rest) p h lift = absurd h
ended_as n no_head p h lift = subst (Stuck (256 + n)) (sym lift) tt
ended_as n (fails rest) p h lift = subst (Stuck (256 + n)) (sym lift) tt
ended_as n (deep rest) p h lift = absurd h

pub ended_stuck : (n : ℕ) (bytes : List ℕ) → Ended (run 256 bytes start) → Stuck (256 + n) (run (256 + n) bytes start)
ended_stuck n bytes h = ended_as n (run 256 bytes start) (run (256 + n) bytes start) h (lifted n bytes)

-- a byte that opens a bracket too many opens one under a deeper limit
pub deeper_step : (n : Machine) (b : ℕ) → IsSound 256 n.stack n.phase → advanced 256 n.stack n.phase b ≡ Err stop.TooDeep → (k : Machine) × (run 257 (b ∷ []) n ≡ more k)
deeper_step n b sound e =
    goes (subst (λ o. Lifts o (advanced 257 n.stack n.phase b)) e (lifts 256 257 (omega arith) n.stack n.phase b))
  where
    sound_there : IsSound 257 n.stack n.phase
    sound_there = record { at = sound.at; nesting = let low = sound.nesting in omega arith }

    goes : ((k : Machine) × (advanced 257 n.stack n.phase b ≡ Ok (Step.Goes k))) ⊎ (advanced 257 n.stack n.phase b ≡ Err stop.TooDeep)
        → (k : Machine) × (run 257 (b ∷ []) n ≡ more k)
    goes (inl c) = (c.0, go_on 257 n c.0 b [] c.1)
    goes (inr f) = absurd (let high = subst (Right 257 n.stack n.phase b) f (right 257 n.stack n.phase b sound_there) in let low = sound.nesting in omega arith)

-- No head's spelling begins another's, and each spells one type, whatever follows.
type_of_run : Run → Ty → Ty
type_of_run (ends t rest) other = t
type_of_run o other = other

rest_of_run : Run → List ℕ
rest_of_run (ends t rest) = rest
rest_of_run o = []

pub one_head : (m n : ℕ) (a b x y : List ℕ) (t u : Ty) → IsHead m a t → IsHead n b u → a ++ x ≡ b ++ y → (a ≡ b) × (t ≡ u)
unfolding type_of_run rest_of_run
one_head m n a b x y t u p q e =
    let first : run (m + n) (a ++ x) start ≡ ends t x = run_head (m + n) m a t x p (omega arith) in
    let second : run (m + n) (b ++ y) start ≡ ends u y = run_head (m + n) n b u y q (omega arith) in
    let same : ends t x ≡ ends u y = sym first ∙ (ap (λ bs. run (m + n) bs start) e ∙ second) in
    let rest : x ≡ y = ap rest_of_run same in
    (same_front a b x (e ∙ ap (λ z. b ++ z) (sym rest)), ap (λ o. type_of_run o t) same)
