-- Every record of a text is in csv's record list: its bound on the number of records is never reached.
use Rattle.std.proofs.Common.{◌≡◌, ◌≤◌, ◌+◌, ◌||◌, ◌==◌, ℕ, zero, suc, Bool, true, false, List, [], ◌∷◌, ◌++◌, length, Some, None, refl, ap, arith, if◌then◌else◌, add-one, subst}
use Rattle.std.proofs.lemmas.Option.{same_Some}
use Rattle.csv.specs.Machine.{Read, after_end, ends_at_end, fields_after, in_field, start_field, start_record, is_end, next_record, step}
use Rattle.csv.specs.Reading.{default_config, records_from, records_next}
use Rattle.csv.specs.declared.parser.Config.{Config}
use Rattle.csv.specs.declared.parser.State.{State}
use Rattle.csv.specs.declared.parser.State.TheVariants as st
use Rattle.csv.specs.declared.parser.Action.{Action}
use Rattle.csv.specs.declared.parser.Action.TheVariants as act
use Rattle.kl_flat.specs.Records.{left_from}

abbrev cfg : Config
cfg = default_config

abbrev SA : Type 0
SA = State × Action

-- a step that ends a record leaves a state in which the text may end
abbrev Rests : SA → Type 0
Rests p = is_end p.1 ≡ true → ends_at_end p.0 ≡ false

chosen : (b : Bool) (p q : SA) → Rests p → Rests q → Rests (if b then p else q)
chosen true p q f g = f
chosen false p q f g = g

no_end : (s : State) (a : Action) → is_end a ≡ false → Rests (s, a)
no_end s a h e = cc

ended : (c : ℕ) → ends_at_end (after_end cfg.terminator c) ≡ false
ended c = elim (c == 13) as (λ b. ends_at_end (if b then st.AfterCr else st.StartRecord) ≡ false) [ true ↦ refl | false ↦ refl ]

in_field_rests : (c : ℕ) → Rests (in_field cfg c)
in_field_rests c = chosen (c == 44) _ _ (no_end st.StartField act.EndField refl) (chosen ((c == 13) || (c == 10)) _ _ (λ e. ended c) (no_end st.InField act.Copy refl))

start_field_rests : (c : ℕ) → Rests (start_field cfg c)
start_field_rests c = chosen (c == 34) _ _ (no_end st.InQuoted act.Skip refl) (in_field_rests c)

start_record_rests : (c : ℕ) → Rests (start_record cfg c)
start_record_rests c = chosen ((c == 13) || (c == 10)) _ _ (no_end st.StartRecord act.Skip refl) (start_field_rests c)

step_rests : (s : State) (c : ℕ) → Rests (step cfg s c)
step_rests st.StartRecord c = start_record_rests c
step_rests st.StartField c = start_field_rests c
step_rests st.InField c = in_field_rests c
step_rests st.InQuoted c = chosen (c == 34) _ _ (no_end st.AfterQuote act.Skip refl) (no_end st.InQuoted act.Copy refl)
step_rests st.InEscape c = no_end st.InQuoted act.Copy refl
step_rests st.AfterQuote c = chosen (c == 34) _ _ (no_end st.InQuoted act.Copy refl) (in_field_rests c)
step_rests st.InComment c = chosen (c == 10) _ _ (no_end st.StartRecord act.Skip refl) (no_end st.InComment act.Skip refl)
step_rests st.AfterCr c = chosen (c == 10) _ _ (no_end st.StartRecord act.Skip refl) (start_record_rests c)

-- how many records there can be at most: one for each byte, and one that the end of the text ends
abbrev one_if : Bool → ℕ
one_if true = 1
one_if false = 0

abbrev most : State → List ℕ → ℕ
most s y = length y + one_if (ends_at_end s)

most-le : (s : State) (y : List ℕ) → most s y ≤ length y + 1
most-le s y = elim (ends_at_end s) as (λ b. length y + one_if b ≤ length y + 1) [ true ↦ omega arith | false ↦ omega arith ]

pub falls : (y : List ℕ) (s : State) (f : List (List ℕ)) (p : List ℕ) (r : Read) → next_record cfg s f p y ≡ Some r → most r.1 r.2 + 1 ≤ most s y
unfolding next_record
falls [] s f p r h = (elim (ends_at_end s) as (λ b. ends_at_end s ≡ b → most r.1 r.2 + 1 ≤ most s []) [
  | true ↦ λ e. let g = rw e at h in
      subst (λ (q : Read). most q.1 q.2 + 1 ≤ most s []) (same_Some (f ++ p ∷ [], st.StartRecord, []) r g) (rw e (omega arith))
  | false ↦ λ e. let g = rw e at h in cc
]) refl
falls (c ∷ rest) s f p r h = (elim (is_end (step cfg s c).1) as (λ b. is_end (step cfg s c).1 ≡ b → most r.1 r.2 + 1 ≤ most s (c ∷ rest)) [
  | true ↦ λ e. let g = rw e at h in
      subst (λ (q : Read). most q.1 q.2 + 1 ≤ most s (c ∷ rest)) (same_Some (fields_after (step cfg s c).1 f p, (step cfg s c).0, rest) r g) (rw (step_rests s c e) (omega arith))
  | false ↦ λ e. let g = rw e at h in let i = falls rest (step cfg s c).0 _ _ r g in
      omega (arith, most-le (step cfg s c).0 rest)
]) refl

none : (s : State) (y : List ℕ) → most s y ≤ 0 → next_record cfg s [] [] y ≡ None
unfolding next_record
none s [] h = (elim (ends_at_end s) as (λ b. ends_at_end s ≡ b → next_record cfg s [] [] [] ≡ None) [
  | true ↦ λ e. let g = rw e at h in absurd (omega arith)
  | false ↦ λ e. rw e refl
]) refl
none s (c ∷ rest) h = absurd (omega arith)

-- a bound that leaves room for every record gives what any other such bound gives
pub enough : (n m : ℕ) (s : State) (y : List ℕ) → most s y ≤ n → most s y ≤ m → records_from cfg n s y ≡ records_from cfg m s y
unfolding records_from
enough zero zero s y h k = refl
enough zero (suc m) s y h k = rw (none s y h) refl
enough (suc n) zero s y h k = rw (none s y k) refl
enough (suc n) (suc m) s y h k = (elim (next_record cfg s [] [] y) as (λ o. next_record cfg s [] [] y ≡ o → records_next (records_from cfg n) o ≡ records_next (records_from cfg m) o) [
  | None ↦ λ e. refl
  | Some r ↦ λ e. let less = falls y s [] [] r e in ap (λ rs. r.0 ∷ rs) (enough n m r.1 r.2 (omega arith) (omega arith))
]) refl

-- the records that are left begin with the next one
pub left-some : (s : State) (y : List ℕ) (r : Read) → next_record cfg s [] [] y ≡ Some r → left_from s y ≡ r.0 ∷ left_from r.1 r.2
unfolding records_from
left-some s y r e =
    let less = falls y s [] [] r e in
    rw (add-one, e) (ap (λ rs. r.0 ∷ rs) (enough (length y) (length r.2 + 1) r.1 r.2 (omega (arith, most-le s y)) (most-le r.1 r.2)))

pub left-none : (s : State) (y : List ℕ) → next_record cfg s [] [] y ≡ None → left_from s y ≡ []
unfolding records_from
left-none s y e = rw (add-one, e) refl
