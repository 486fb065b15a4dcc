-- Items that are left, taken one by one.
use Rattle.std.proofs.Common.{◌≡◌, ◌<◌, length, Bool, true, false, List, [], ◌∷◌, ◌++◌, reverse, refl, sym, ap, ◌∙◌, subst, arith}
use Rattle.std.proofs.lemmas.List.{reverse-append}
use Rattle.kl_value.specs.declared.Value.{Value}
use Rattle.kl_outcome.specs.Outcome.{End, more, stop, fine, overflow, flow}
use Rattle.kl_scans.specs.Running.{Running}
use Rattle.kl_eval.specs.declared.stop.EvalStop.TheVariants as why
use Rattle.kl_scans.specs.Held.{nothing}
use Rattle.kl_scans.proofs.Moving.{moves_none}
use Rattle.kl_cursor.specs.declared.state.State.TheVariants as state
use Rattle.kl_cursor.specs.Left.{have, snap, end_of}
use Rattle.kl_cursor.specs.Steps.{Gives, Ends, Stops}
use Rattle.kl_cursor.proofs.Likes.{same_itself}
use Rattle.kl_cursor.proofs.Snaps.{snap_Have}

have_gives : (env : List Value) (v : Value) (vs : List Value) (e : End) (w : Running) → Gives env (have (v ∷ vs) e) w v (have vs e) w
have_gives env v vs e w = record {
  moves = moves_none nothing w;
  known = λ all h. (tt, tt);
  gave = λ G k u h f told. same_itself k (more v (flow vs e));
  counts = λ G k u h f told z P. omega arith;
  typed = λ G k u h f. (f.0, f.1);
  lower = omega arith;
  fell = omega arith;
}

have_ends : (env : List Value) (w : Running) → Ends env (have [] fine) w w
have_ends env w = record { moves = moves_none nothing w; known = λ all h. tt; over = λ G k u h f told. same_itself k (stop fine); counts = λ G k u h f told z P. omega arith }

have_stops : (env : List Value) (w : Running) → Stops env (have [] overflow) why.Overflow w w
have_stops env w = record { moves = moves_none nothing w; known = λ all h. tt; reason = λ G k u h f told. same_itself k (stop overflow) }

reverse_last : (vs : List Value) (v : Value) → reverse (vs ++ v ∷ []) ≡ v ∷ reverse vs
reverse_last vs v = reverse-append vs (v ∷ [])

pub popped : (env : List Value) (items rest of : List Value) (v : Value) (past : Bool) (w : Running) → items ≡ rest ++ v ∷ [] → of ≡ rest → Gives env (have (reverse items) (end_of past)) w v (snap (state.Have of past)) w
popped env items rest of v past w e f =
    subst (λ xs. Gives env (have xs (end_of past)) w v (snap (state.Have of past)) w) (sym (ap reverse e ∙ reverse_last rest v))
    (subst (λ z. Gives env (have (v ∷ reverse rest) (end_of past)) w v z w) (sym (snap_Have of past ∙ ap (λ xs. have (reverse xs) (end_of past)) f))
    (have_gives env v (reverse rest) (end_of past) w))

pub none_popped : (items rest : List Value) → items ≡ rest ++ [] → (0 < length items → false ≡ true) → items ≡ []
none_popped [] rest e h = refl
none_popped (v ∷ vs) rest e h = absurd (let x : false ≡ true = h (omega arith) in cc)

pub popped_end : (env : List Value) (items : List Value) (past : Bool) (w : Running) → items ≡ [] → past ≡ false → Ends env (have (reverse items) (end_of past)) w w
popped_end env items past w e f = subst (λ xs. Ends env (have (reverse xs) (end_of past)) w w) (sym e) (subst (λ y. Ends env (have [] (end_of y)) w w) (sym f) (have_ends env w))

pub popped_stop : (env : List Value) (items : List Value) (past : Bool) (w : Running) → items ≡ [] → past ≡ true → Stops env (have (reverse items) (end_of past)) why.Overflow w w
popped_stop env items past w e f = subst (λ xs. Stops env (have (reverse xs) (end_of past)) why.Overflow w w) (sym e) (subst (λ y. Stops env (have [] (end_of y)) why.Overflow w w) (sym f) (have_stops env w))
