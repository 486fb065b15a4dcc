-- Values of memos: from what is kept, or from their parts, whose values are kept then.
use Rattle.std.proofs.Common.{◌≡◌, ℕ, ◌+◌, true, false, List, [], map, length, nat_eq, Err, refl, sym, ap, subst, ◌∙◌, arith}
use Rattle.std.specs.List.{Contains, IsDistinct}
use Rattle.std.specs.List.Sorted.{IsPermutation}
use Rattle.std.proofs.lemmas.List.Elements.{All-contains, All-from_recursion}
use Rattle.kl_value.specs.declared.Value.{Value}
use Rattle.kl_type.specs.Ground.{Ground}
use Rattle.kl_outcome.specs.Outcome.{done, items_of}
use Rattle.kl_outcome.proofs.Drawing.{collected_again}
use Rattle.kl_eval.specs.declared.stop.Halt.{Halt}
use Rattle.kl_eval.specs.declared.stop.Halt.TheVariants as halt
use Rattle.kl_lookups.specs.Lookups.{has}
use Rattle.kl_plan.specs.Holding.{Listing, PartsIn}
use Rattle.kl_plan.specs.Meaning.{Come, one, many, coming, worth, come_kept, plan}
use Rattle.kl_plan.specs.Nodes as node
use Rattle.kl_plan.specs.Nodes.{Node}
use Rattle.kl_plan.specs.Numbers.{scans_in}
use Rattle.kl_plan.specs.Occurs.{frees_in}
use Rattle.kl_plan.specs.Parts.{joins_of}
use Rattle.kl_plan.specs.Subqueries.{values_at, Covers}
use Rattle.kl_plan.proofs.Agree.{plan_agrees}
use Rattle.kl_plan.proofs.AgreeTypes.{plan_types_agree}
use Rattle.kl_plan.proofs.Frees.{frees_covered}
use Rattle.kl_plan.proofs.Holding.{parts_without_memos}
use Rattle.kl_scans.specs.Held.{nothing}
use Rattle.kl_scans.specs.Log.{missed, hit, paid, Leaves}
use Rattle.kl_scans.specs.Moves.{Moves}
use Rattle.kl_scans.specs.Over.{Did, Recalls, MayKeep}
use Rattle.kl_scans.specs.Right.{IsRight, IsRightFor, AreRight, IsReadyRun}
use Rattle.kl_scans.specs.Running.{Running}
use Rattle.kl_scans.specs.Same.{same_subquery}
use Rattle.kl_scans.specs.Stage.{stage, readings, ScanOf, MemoOf}
use Rattle.kl_scans.proofs.Kept.{right_for}
use Rattle.kl_scans.proofs.Looks.{leaves_same, no_looks}
use Rattle.kl_scans.proofs.Moving.{moves_then, stage_stays, ready_stays, paid_then}
use Rattle.kl_cursor.specs.Left.{reading, cost}
use Rattle.kl_cursor.specs.Memos.{KeepsSame}
use Rattle.kl_cursor.specs.Sense.{HasWorth}
use Rattle.kl_cursor.specs.Steps.{AreOf, ComesTo, Wholly}
use Rattle.kl_cursor.proofs.Whole.{ComesOne}
use Rattle.kl_cursor.proofs.Events.{of_then}
use Rattle.kl_cursor.proofs.KeptSame.{moved_same}
use Rattle.kl_cursor.proofs.Refusals.{halts_at}
use Rattle.kl_cursor.proofs.Positions.{have_length, values_agree, retyped, retyped_have, retyped_at}

-- ---- what a memo comes to

kept_worth : (c : Come) → worth (come_kept c) ≡ worth c
kept_worth (one o) = refl
kept_worth (many k f) = collected_again k f

-- a memo comes as one value
pub memo_comes_one : (n : ℕ) (frees : List ℕ) (p : Node) → ComesOne (node.Memo n frees p)
memo_comes_one n frees p R env = by (plan R p env)
  where
    by : (c : Come) → coming (come_kept c) ≡ items_of (worth (come_kept c))
    by (one o) = refl
    by (many k f) = ap items_of (sym (collected_again k f))

pub memo_sense : (env : List Value) (n : ℕ) (frees : List ℕ) (p : Node) (w : Running) → HasWorth w (node.Memo n frees p) env → HasWorth w p env
memo_sense env n frees p w h = (h.0, h.1, h.2, h.3.3, h.4)

-- each free position has a value
pub memo_covers : (env : List Value) (n : ℕ) (frees : List ℕ) (p : Node) (w : Running) → HasWorth w (node.Memo n frees p) env → Covers frees env
memo_covers env n frees p w h =
    subst (λ xs. Covers xs env) (sym h.3.4) (frees_covered (length h.0) p env (have_length h.0 env h.2))

-- ---- a value that is kept

-- what is kept under a key is right for the memo of its number
pub right_at : (w : Running) (n : ℕ) (frees : List ℕ) (p : Node) (vs : List Value) (v : Value) → AreRight (stage w) w.kept → MemoOf (stage w) n frees p → Contains w.kept ((n, vs), v)
    → IsRight (stage w) frees p vs v
right_at w n frees p vs v right listed kept =
    All-contains (λ e. IsRightFor (stage w) e.0 e.1) w.kept ((n, vs), v) (All-from_recursion (λ e. IsRightFor (stage w) e.0 e.1) w.kept right) kept frees p listed

module _ (env : List Value) (n : ℕ) (frees : List ℕ) (p : Node) (w x : Running) (sense : HasWorth w (node.Memo n frees p) env) where
  -- a value that is found is the memo's
  pub hit_comes : (v : Value) → Recalls (n, values_at env frees) true w x → Contains x.kept ((n, values_at env frees), v) → ComesTo env (node.Memo n frees p) (done v) w x
  hit_comes v r kept = record {
    moves = did.moves;
    known = λ all i. subst (AreOf all) (sym did.only) ((i.0, memo_covers env n frees p w sense), tt);
    comes = λ G s e t told. kept_worth (plan (reading w) p env) ∙ right.value G env s e t.3 t.4 refl told;
    counts = λ G s e t told well P.
        ap (paid (stage w) P) did.only ∙ (let z : (P.memo n (values_at env frees) + cost (stage w) P p env) + 0 ≡ P.memo n (values_at env frees) + cost (stage w) P p env = omega arith in z);
    typed = λ G s e t. right.typed G env s e t.3 t.4 refl;
  }
    where
      did : Did (hit n frees p env) w x
      did = r.1 frees p env refl

      right : IsRight (stage w) frees p (values_at env frees) v
      right =
          let st = stage_stays nothing nothing w x did.moves in
          subst (λ t. IsRight t frees p (values_at env frees) v) st
          (right_at x n frees p (values_at env frees) v (ready_stays nothing nothing w x did.moves sense.4).right (subst (λ t. MemoOf t n frees p) (sym st) sense.3.6) kept)

  -- and all that was kept stays
  pub hit_keeps : Recalls (n, values_at env frees) true w x → KeepsSame w x
  hit_keeps r =
      let did = r.1 frees p env refl in
      let left = subst (λ es. Leaves w.room es w.kept x.kept) did.only did.moves.logged.kept in
      subst (λ es. IsPermutation w.kept es) (sym left.1) (moved_same same_subquery (n, values_at env frees) w.kept)

-- ---- what is kept while a part is evaluated

-- no memo stands in the part of a memo, so nothing is looked up there
module _ (env : List Value) (n : ℕ) (frees : List ℕ) (p : Node) (w x : Running) (sense : HasWorth w (node.Memo n frees p) env) where
  pub part_leaves : (m : Moves nothing nothing w x) → ((all : Listing) → PartsIn all p → AreOf all m.events) → x.kept ≡ w.kept
  part_leaves m known =
      leaves_same w.room m.events w.kept x.kept
      (no_looks (record { scans = scans_in p; joins = joins_of p; memos = [] }) m.events refl (known (record { scans = scans_in p; joins = joins_of p; memos = [] }) (parts_without_memos p sense.3.5)))
      m.logged.kept

  pub stopped_leaves : (e : Halt) → Wholly env p (Err e) w x → x.kept ≡ w.kept
  stopped_leaves (halt.Over vs) h = part_leaves h.moves h.known
  stopped_leaves (halt.Driver l f) h = part_leaves h.moves h.known
  stopped_leaves halt.NoMemory h = part_leaves h.moves h.known

-- ---- a value that is kept anew

-- a value that a part comes to here, it comes to wherever its free positions have the same values
module _ (env : List Value) (n : ℕ) (frees : List ℕ) (p : Node) (w x : Running) (v : Value) (sense : HasWorth w (node.Memo n frees p) env) (h : ComesTo env p (done v) w x) where
  pub comes_right : IsRight (stage w) frees p (values_at env frees) v
  comes_right = record {
    typed = λ H to s have t listed same.
        let G = sense.0 in
        let both = sym sense.3.4 ∙ listed in
        let equal = values_same H to listed same in
        h.typed (retyped p G H env to sense.2 have both equal) s (retyped_have p G H env to sense.2 have both equal)
        (plan_types_agree (ScanOf (stage w)) (MemoOf (stage w)) p H (retyped p G H env to sense.2 have both equal) s sense.3.5 (retyped_at p G H env to sense.2 have both equal) t);
    value = λ H to s have t listed same told.
        let both = sym sense.3.4 ∙ listed in
        ap worth (sym (plan_agrees (readings (stage w)) p env to (values_agree p sense.0 H env to sense.2 have both (values_same H to listed same)))) ∙ h.comes sense.0 sense.1 sense.2 sense.3.3 told;
  }
    where
      values_same : (H : List Ground) (to : List Value) → frees ≡ frees_in (length H) p → values_at to frees ≡ values_at env frees → values_at env (frees_in (length sense.0) p) ≡ values_at to (frees_in (length sense.0) p)
      values_same H to listed same = subst (λ xs. values_at env xs ≡ values_at to xs) sense.3.4 (sym same)

-- the memos of a stage are those of the run
memos_there : (w : Running) → w.memos ≡ (stage w).memos
unfolding stage
memos_there w = refl

numbers_differ : (w : Running) → IsReadyRun w → IsDistinct nat_eq (map (λ m. m.0) (stage w).memos)
numbers_differ w ready = subst (λ ms. IsDistinct nat_eq (map (λ m. m.0) ms)) (memos_there w) ready.numbers

module _ (env : List Value) (n : ℕ) (frees : List ℕ) (p : Node) (w x : Running) (v : Value) (sense : HasWorth w (node.Memo n frees p) env) (h : ComesTo env p (done v) w x) where
  -- it may be kept where the look-up found nothing
  pub may_keep : has same_subquery (n, values_at env frees) w.kept ≡ false → MayKeep (n, values_at env frees) v x
  may_keep none =
      let st = stage_stays nothing nothing w x h.moves in
      let ready = ready_stays nothing nothing w x h.moves sense.4 in
      let listed = subst (λ t. MemoOf t n frees p) (sym st) sense.3.6 in
      record {
        none = subst (λ k. has same_subquery (n, values_at env frees) k ≡ false) (sym still) none;
        room = ready.room (n, (frees, p)) (subst (λ ms. Contains ms (n, (frees, p))) (sym (memos_there x)) listed);
        right = right_for (stage x) (numbers_differ x ready) (n, values_at env frees) frees p v listed (subst (λ t. IsRight t frees p (values_at env frees) v) (sym st) (comes_right env n frees p w x v sense h));
      }
    where
      still : x.kept ≡ w.kept
      still = part_leaves env n frees p w x sense h.moves h.known

  -- and then it is the memo's
  pub miss_comes : (y : Running) → Did (missed (n, values_at env frees) v) x y → ComesTo env (node.Memo n frees p) (done v) w y
  miss_comes y did = record {
    moves = moves_then nothing nothing nothing w x y h.moves did.moves;
    known = λ all i. of_then all h.moves.events did.moves.events (h.known all i.1) (subst (AreOf all) (sym did.only) ((frees, p, i.0), tt));
    comes = λ G s e t told. kept_worth (plan (reading w) p env) ∙ h.comes G s e t.3 told;
    counts = λ G s e t told well P.
        let part = h.counts G s e t.3 told tt P in
        let one : paid (stage w) P did.moves.events ≡ P.memo n (values_at env frees) + 0 = ap (paid (stage w) P) did.only in
        omega (arith, paid_then (stage w) P h.moves.events did.moves.events);
    typed = λ G s e t. h.typed G s e t.3;
  }

  -- want of memory behind the evaluation
  pub miss_lost : Wholly env (node.Memo n frees p) (Err halt.NoMemory) w x
  miss_lost = record { moves = h.moves; known = λ all i. h.known all i.1; reason = tt }

-- what stops the part stops the memo
pub part_stopped : (env : List Value) (n : ℕ) (frees : List ℕ) (p : Node) (w x : Running) (e : Halt) → Wholly env p (Err e) w x → Wholly env (node.Memo n frees p) (Err e) w x
part_stopped env n frees p w x (halt.Over vs) h = record {
  moves = h.moves;
  known = λ all i. h.known all i.1;
  comes = λ G s e t told. kept_worth (plan (reading w) p env) ∙ h.comes G s e t.3 told;
  counts = λ G s e t told well P. absurd well;
  typed = λ G s e t. h.typed G s e t.3;
}
part_stopped env n frees p w x (halt.Driver l f) h = halts_at nothing (λ all. PartsIn all (node.Memo n frees p)) (λ all. PartsIn all p) l f w x (λ all i. i.1) h
part_stopped env n frees p w x halt.NoMemory h = record { moves = h.moves; known = λ all i. h.known all i.1; reason = tt }
