-- One item at the front, and one answer for each state.
use Rattle.std.proofs.Common.{◌≡◌, ◌≢◌, ℕ, ◌+◌, ◌-◌, ◌<◌, ◌≤◌, suc, zero, Bool, true, false, cond, List, [], ◌∷◌, ◌++◌, length, take, drop, refl, sym, ap, subst, ◌∙◌, arith, inl, inr, Option, Some, None, Result, Ok, Err, append-nil, length-append, take_at, take_all, take-append-drop, true≢false}
use Rattle.std.specs.List.{list_all}
use Rattle.std.proofs.lemmas.Option.{same_Some}
use Rattle.std.proofs.lemmas.Bool.{cases_lt}
use Rattle.kl_value.specs.declared.Value.{Value}
use Rattle.kl_exchange.specs.Grammar.{is_blank, Blank, IsItem, Begins}
use Rattle.kl_exchange.specs.Machine.{run, Run, more, ends, fails, deep, start, advanced}
use Rattle.kl_exchange.specs.Reading.{GivesItem, Waits, EndsText, IsBad, IsDeep, ReadsNext}
use Rattle.kl_exchange.specs.State.{State}
use Rattle.kl_exchange.specs.declared.machine.Machine.{Machine}
use Rattle.kl_exchange.specs.declared.machine.Stop.TheVariants as stop
use Rattle.kl_exchange.specs.declared.error.ReadError.{ReadError}
use Rattle.kl_exchange.specs.declared.error.ReadError.TheVariants as error
use Rattle.kl_exchange.specs.declared.reader.Item.{Item}
use Rattle.kl_exchange.specs.declared.reader.Item.TheVariants as item
use Rattle.kl_exchange.proofs.Runs.{extended, run_append, run_item, run_blank}
use Rattle.kl_exchange.proofs.Reading.{begins, begins_more, ends_item, one_item, blank_from, Stuck, dead, more_taken, front_taken, fails_begun, deep_begun, bad_there, deep_there, all_blank}
use Rattle.kl_exchange.proofs.FileItems.{begins_front}

-- cutting what follows
pub same_front : (a b x : List ℕ) → a ++ x ≡ b ++ x → a ≡ b
same_front a b x e =
    let size : length a ≡ length b = omega (arith, ap length e, length-append a x, length-append b x) in
    sym (take_at a x (length a) refl) ∙ (ap (take (length a)) e ∙ take_at b x (length a) (sym size))

value_of : Run → Value → Value
value_of (ends v rest) other = v
value_of _ other = other

rest_of : Run → List ℕ
rest_of (ends v rest) = rest
rest_of _ = []

pub one_front : (m n : ℕ) (a b x y : List ℕ) (v w : Value) → IsItem m a v → IsItem n b w → a ++ x ≡ b ++ y → (a ≡ b) × (v ≡ w)
unfolding value_of rest_of
one_front m n a b x y v w p q e =
    let first : run (m + n) (a ++ x) start ≡ ends v x = run_item (m + n) m a v x p (omega arith) in
    let second : run (m + n) (b ++ y) start ≡ ends w y = run_item (m + n) n b w y q (omega arith) in
    let same : ends v x ≡ ends w y = sym first ∙ (ap (λ bs. run (m + n) bs start) e ∙ second) in
    let rest : x ≡ y = ap rest_of same in
    (same_front a b x (e ∙ ap (λ z. b ++ z) (sym rest)), ap (λ o. value_of o v) same)

-- the answer that the run over the bytes left gives
bad_answer : State → ℕ → Result Item ReadError × State
bad_answer old k = (Err (error.Bad (old.place + k)), record old { refused = Some (error.Bad (old.place + k)) })

deep_answer : State → ℕ → Result Item ReadError × State
deep_answer old k = (Err (error.TooDeep (old.place + k)), record old { refused = Some (error.TooDeep (old.place + k)) })

abbrev answer : State → Run → Result Item ReadError × State
answer old (ends v rest) = (Ok (item.Value v), record old { place = old.place + (length old.left - length rest); left = rest })
answer old (more m) = cond old.finished (cond (list_all is_blank old.left) (Ok item.End, old) (bad_answer old (length old.left))) (Ok item.NeedMore, old)
answer old (fails rest) = bad_answer old (length old.left - length rest)
answer old (deep rest) = deep_answer old (length old.left - length rest)

same_state : (s t : State) → s.place ≡ t.place → s.left ≡ t.left → s.finished ≡ t.finished → s.refused ≡ t.refused → s ≡ t
same_state s t p l f r = λ i. record { place = p i; left = l i; finished = f i; refused = r i }

less_taken : (front rest : List ℕ) (j : ℕ) → j ≤ length front → (zs : List ℕ) × (front ≡ take j (front ++ rest) ++ zs)
less_taken front rest zero small = (front, refl)
less_taken [] rest (suc j) small = absurd (omega arith)
less_taken (a ∷ front) rest (suc j) small = let c = less_taken front rest j (omega arith) in (c.0, ap (λ bs. a ∷ bs) c.1)

abbrev Same : Result Item ReadError × State → Result Item ReadError × State → Type 0
Same a b = a ≡ b

module _ (old : State) where
  abbrev Answered : Result Item ReadError → State → Type 0
  Answered r new = (r, new) ≡ answer old (run 256 old.left start)

  gives_answer : (v : Value) (new : State) → GivesItem old v new → Answered (Ok (item.Value v)) new
  gives_answer v new g =
      let met : run 256 old.left start ≡ ends v new.left = ap (λ bs. run 256 bs start) g.front ∙ run_item 256 256 g.bytes v new.left g.spells (omega arith) in
      let size : length old.left ≡ length g.bytes + length new.left = ap length g.front ∙ length-append g.bytes new.left in
      let after : State = record old { place = old.place + (length old.left - length new.left); left = new.left } in
      let same : new ≡ after = same_state new after (g.place ∙ ap (λ k. old.place + k) (omega arith)) refl g.finished (g.refused ∙ sym g.fresh) in
      ap (λ s. (Ok (item.Value v), s)) same ∙ ap (answer old) (sym met)

  still_more : (o : Run) (u : List ℕ) (v : Value) → 0 < length u → extended 256 o u ≡ ends v [] → (m : Machine) × (o ≡ more m)
  unfolding rest_of
  still_more (more m) u v some e = (m, refl)
  still_more (ends w rest) u v some e = let none : rest ++ u ≡ [] = ap rest_of e in absurd (omega (arith, ap length none, length-append rest u))
  still_more (fails rest) u v some e = cc
  still_more (deep rest) u v some e = cc

  waits_answer : (new : State) → Waits old new → Answered (Ok item.NeedMore) new
  waits_answer new w =
      let whole : run 256 (old.left ++ w.more) start ≡ ends w.v [] =
      ap (λ bs. run 256 bs start) (sym (append-nil (old.left ++ w.more))) ∙ run_item 256 256 (old.left ++ w.more) w.v [] w.begun (omega arith) in
      let c = still_more (run 256 old.left start) w.more w.v w.proper (sym (run_append 256 old.left w.more start) ∙ whole) in
      ap (λ s. (Ok item.NeedMore, s)) w.same ∙ sym (ap (answer old) c.1 ∙ ap (λ b. cond b (cond (list_all is_blank old.left) (Ok item.End, old) (bad_answer old (length old.left))) (Ok item.NeedMore, old)) w.unfinished)

  ends_answer : (new : State) → EndsText old new → Answered (Ok item.End) new
  ends_answer new w =
      ap (λ s. (Ok item.End, s)) w.same
      ∙ sym (ap (answer old) (run_blank 256 old.left w.blank)
      ∙ (ap (λ b. cond b (cond (list_all is_blank old.left) (Ok item.End, old) (bad_answer old (length old.left))) (Ok item.NeedMore, old)) w.finished
      ∙ ap (λ b. cond b (Ok item.End, old) (bad_answer old (length old.left))) (all_blank old.left w.blank)))

  -- two places of one refusal
  begun_all : (m : Machine) → run 256 old.left start ≡ more m → Begins 256 old.left
  begun_all m e = let c = begins_more 256 old.left m e in begins 256 old.left c.0 c.1 c.2

  begun_front : (front : List ℕ) (n : Machine) → run 256 front start ≡ more n → Begins 256 front
  begun_front front n e = let c = begins_more 256 front n e in begins 256 front c.0 c.1 c.2

  front_within : (front rest : List ℕ) → old.left ≡ front ++ rest → length old.left ≡ length front + length rest
  front_within front rest is = ap length is ∙ length-append front rest

  -- what begins no text: bytes that go past where the run stopped
  past : (front : List ℕ) (b : ℕ) (others : List ℕ) (n : Machine) (k : ℕ) → old.left ≡ front ++ b ∷ others → run 256 front start ≡ more n
      → ((ys : List ℕ) → Stuck 256 (run 256 (b ∷ ys) n)) → length front < k → Begins 256 (take k old.left) → ⊥
  past front b others n k is met stuck far begun =
      let taken = more_taken old.left front b others k is far in
      dead 256 256 (take k old.left) begun.more begun.values (omega arith)
      (subst (λ bs. Stuck 256 (run 256 bs start)) (sym taken.1) (rw (run_append 256 front (b ∷ taken.0) start, met) (stuck taken.0))) begun.whole

  before : (front rest : List ℕ) (n : Machine) (k : ℕ) → old.left ≡ front ++ rest → run 256 front start ≡ more n → k ≤ length front → Begins 256 (take k old.left)
  before front rest n k is met small =
      let c = less_taken front rest k small in
      subst (λ bs. Begins 256 (take k bs)) (sym is) (begins_front 256 (take k (front ++ rest)) c.0 (subst (Begins 256) c.1 (begun_front front n met)))

  fails_stuck : (b : ℕ) (n : Machine) → ((ys : List ℕ) → run 256 (b ∷ ys) n ≡ fails (b ∷ ys)) → (ys : List ℕ) → Stuck 256 (run 256 (b ∷ ys) n)
  fails_stuck b n stop ys = rw (stop ys) tt

  deep_stuck : (b : ℕ) (n : Machine) → advanced 256 n.stack n.phase b ≡ Err stop.TooDeep → (ys : List ℕ) → Stuck 256 (run 256 (b ∷ ys) n)
  deep_stuck b n e ys = rw e tt

  -- where the answer is a refusal, the place is that of the run
  bad_place : (o : Run) (k : ℕ) → run 256 old.left start ≡ o → IsBad old k → bad_answer old k ≡ answer old o
  bad_place (ends v rest) k e bad = let c = ends_item 256 old.left rest v e in absurd (bad.no_item 256 c.0 rest v c.1 c.2)
  bad_place (more m) k e bad = at_end old.finished (list_all is_blank old.left) refl refl
    where
      at_end : (b c : Bool) → old.finished ≡ b → list_all is_blank old.left ≡ c
          → bad_answer old k ≡ cond b (cond c (Ok item.End, old) (bad_answer old (length old.left))) (Ok item.NeedMore, old)
      at_end false c f g =
          let d = begins_more 256 old.left m e in
          absurd (bad.in_none 256 d.0 (d.1 ∷ []) (λ t. absurd (true≢false (sym t ∙ f))) (one_item 256 (old.left ++ d.0) d.1 d.2))
      at_end true true f g = absurd (bad.in_none 0 [] [] (λ _. refl) (subst Blank (sym (append-nil old.left)) (blank_from old.left g)))
      at_end true false f g =
          elim (cases_lt k (length old.left)) [
            | inl less ↦ absurd (bad.longest (length old.left) 256 less (omega arith) (subst (Begins 256) (sym (take_all (length old.left) old.left (omega arith))) (begun_all m e)))
            | inr past_end ↦ (let within = bad.within in let same : k ≡ length old.left = omega arith in ap (bad_answer old) same)
          ]
  bad_place (fails rest) k e bad =
      let c = fails_begun old.left rest e in
      let size = front_within c.0 rest c.4 in
      let is : old.left ≡ c.0 ++ c.1 ∷ c.2 = c.4 ∙ ap (λ bs. c.0 ++ bs) c.5 in
      elim (cases_lt k (length c.0)) [
        | inl less ↦ absurd (bad.longest (length c.0) 256 less (omega arith) (subst (Begins 256) (sym (front_taken old.left c.0 rest c.4)) (begun_front c.0 c.3 c.6)))
        | inr high ↦ elim (cases_lt (length c.0) k) [
          | inl less ↦ absurd (past c.0 c.1 c.2 c.3 k is c.6 (fails_stuck c.1 c.3 c.7) less bad.begins)
          | inr low ↦ (let same : k ≡ length old.left - length rest = omega arith in ap (bad_answer old) same)
        ]
      ]
  bad_place (deep rest) k e bad =
      let c = deep_begun old.left rest e in
      let is : old.left ≡ c.0 ++ c.1 ∷ c.2 = c.4 ∙ ap (λ bs. c.0 ++ bs) c.5 in
      let there = deep_there old c.0 c.1 c.2 c.3 is c.6 c.7 c.8 in
      elim (cases_lt (length c.0) k) [
        | inl less ↦ absurd (past c.0 c.1 c.2 c.3 k is c.6 (deep_stuck c.1 c.3 c.8) less bad.begins)
        | inr low ↦ (let within = there.within in absurd (bad.longest (length c.0 + 1) there.deeper.0 (omega arith) (omega arith) there.deeper.1))
      ]

  deep_place : (o : Run) (k : ℕ) → run 256 old.left start ≡ o → IsDeep old k → deep_answer old k ≡ answer old o
  deep_place (ends v rest) k e d = let c = ends_item 256 old.left rest v e in absurd (d.no_item c.0 rest v c.1 c.2)
  deep_place (more m) k e d =
      absurd (d.too_deep (begins_front 256 (take (k + 1) old.left) (drop (k + 1) old.left) (subst (Begins 256) (sym (take-append-drop (k + 1) old.left)) (begun_all m e))))
  deep_place (fails rest) k e d =
      let c = fails_begun old.left rest e in
      let is : old.left ≡ c.0 ++ c.1 ∷ c.2 = c.4 ∙ ap (λ bs. c.0 ++ bs) c.5 in
      let there = bad_there old c.0 c.1 c.2 c.3 is c.6 c.7 in
      elim (cases_lt k (length c.0)) [
        | inl less ↦ absurd (d.too_deep (before c.0 rest c.3 (k + 1) c.4 c.6 (omega arith)))
        | inr high ↦ (let within = d.within in absurd (there.longest (k + 1) d.deeper.0 (omega arith) (omega arith) d.deeper.1))
      ]
  deep_place (deep rest) k e d =
      let c = deep_begun old.left rest e in
      let size = front_within c.0 rest c.4 in
      let is : old.left ≡ c.0 ++ c.1 ∷ c.2 = c.4 ∙ ap (λ bs. c.0 ++ bs) c.5 in
      elim (cases_lt k (length c.0)) [
        | inl less ↦ absurd (d.too_deep (before c.0 rest c.3 (k + 1) c.4 c.6 (omega arith)))
        | inr high ↦ elim (cases_lt (length c.0) k) [
          | inl less ↦ absurd (past c.0 c.1 c.2 c.3 k is c.6 (deep_stuck c.1 c.3 c.8) less d.begins)
          | inr low ↦ (let same : k ≡ length old.left - length rest = omega arith in ap (deep_answer old) same)
        ]
      ]

  bad_answered : (place : ℕ) (new : State) → ((k : ℕ) × (place ≡ old.place + k) × IsBad old k) → new ≡ record old { refused = Some (error.Bad place) } → Answered (Err (error.Bad place)) new
  unfolding bad_answer
  bad_answered place new c same =
      (λ i. (Err (error.Bad (c.1 i)), (same ∙ ap (λ p. record old { refused = Some (error.Bad p) }) c.1) i)) ∙ bad_place (run 256 old.left start) c.0 refl c.2

  deep_answered : (place : ℕ) (new : State) → ((k : ℕ) × (place ≡ old.place + k) × IsDeep old k) → new ≡ record old { refused = Some (error.TooDeep place) }
      → Answered (Err (error.TooDeep place)) new
  unfolding deep_answer
  deep_answered place new c same =
      (λ i. (Err (error.TooDeep (c.1 i)), (same ∙ ap (λ p. record old { refused = Some (error.TooDeep p) }) c.1) i)) ∙ deep_place (run 256 old.left start) c.0 refl c.2

  answered : (r : Result Item ReadError) (new : State) → old.refused ≡ None → ReadsNext old r new → r ≢ Err error.NoMemory → Answered r new
  answered (Ok (item.Value v)) new fresh reads other = gives_answer v new reads
  answered (Ok item.NeedMore) new fresh reads other = waits_answer new reads
  answered (Ok item.End) new fresh reads other = ends_answer new reads
  answered (Err (error.Bad place)) new fresh (inl c) other = absurd (let clash : None ≡ Some (error.Bad place) = sym fresh ∙ c.0 in cc)
  answered (Err (error.Bad place)) new fresh (inr c) other = bad_answered place new c.1 c.2
  answered (Err (error.TooDeep place)) new fresh (inl c) other = absurd (let clash : None ≡ Some (error.TooDeep place) = sym fresh ∙ c.0 in cc)
  answered (Err (error.TooDeep place)) new fresh (inr c) other = deep_answered place new c.1 c.2
  answered (Err error.NoMemory) new fresh reads other = absurd (other refl)

  -- what a reader answers once it has refused
  kept : (e : ReadError) (r : Result Item ReadError) (new : State) → old.refused ≡ Some e → ReadsNext old r new → r ≢ Err error.NoMemory → Same (r, new) (Err e, old)
  kept e (Ok (item.Value v)) new refused reads other = absurd (let fresh = reads.fresh in let clash : None ≡ Some e = sym fresh ∙ refused in cc)
  kept e (Ok item.NeedMore) new refused reads other = absurd (let fresh = reads.fresh in let clash : None ≡ Some e = sym fresh ∙ refused in cc)
  kept e (Ok item.End) new refused reads other = absurd (let fresh = reads.fresh in let clash : None ≡ Some e = sym fresh ∙ refused in cc)
  kept e (Err (error.Bad place)) new refused (inl c) other = λ i. (Err (same_Some _ e (sym c.0 ∙ refused) i), c.1 i)
  kept e (Err (error.Bad place)) new refused (inr c) other = absurd (let clash : None ≡ Some e = sym c.0 ∙ refused in cc)
  kept e (Err (error.TooDeep place)) new refused (inl c) other = λ i. (Err (same_Some _ e (sym c.0 ∙ refused) i), c.1 i)
  kept e (Err (error.TooDeep place)) new refused (inr c) other = absurd (let clash : None ≡ Some e = sym c.0 ∙ refused in cc)
  kept e (Err error.NoMemory) new refused reads other = absurd (other refl)

pub one_answer : (old new other : State) (r s : Result Item ReadError) → ReadsNext old r new → ReadsNext old s other → r ≢ Err error.NoMemory → s ≢ Err error.NoMemory → (r ≡ s) × (new ≡ other)
one_answer old new other r s p q f g = both (refusal old.refused refl)
  where
    both : Same (r, new) (s, other) → (r ≡ s) × (new ≡ other)
    both e = (ap (λ x. x.0) e, ap (λ x. x.1) e)

    refusal : (o : Option ReadError) → old.refused ≡ o → Same (r, new) (s, other)
    refusal None e = answered old r new e p f ∙ sym (answered old s other e q g)
    refusal (Some d) e = kept old d r new e p f ∙ sym (kept old d s other e q g)
