-- The machine's run is one of which all is known.
use Rattle.std.proofs.Common.{◌≡◌, ℕ, Bool, true, false, List, [], ◌∷◌, ◌++◌, cond, nat_eq, length, map, refl}
use Rattle.std.specs.List.{IsDistinct}
use Rattle.kl_value.specs.declared.Value.{Value}
use Rattle.kl_plan.specs.Nodes.{Node}
use Rattle.kl_plan.specs.Meaning.{Readings}
use Rattle.kl_lookups.specs.Lookups.{has}
use Rattle.kl_plan.specs.Subqueries.{Subquery, values_at}
use Rattle.kl_counts.specs.Places.{Places, AnyScan, AnyJoin, NoMemo, MemoFree, Apart}
use Rattle.kl_counts.specs.Free.{AreFree}
use Rattle.kl_scans.specs.Log.{Event, started, handed, joined, missed, hit}
use Rattle.kl_counts.specs.Machine.{Entries, looks, run}
use Rattle.kl_plan.specs.Parts.{memos_of}
use Rattle.kl_scans.specs.Stage.{Stage, readings}
use Rattle.kl_counts.specs.Ran.{HitMemos, Ran}
use Rattle.kl_counts.proofs.Paying.{paid_run}
use Rattle.kl_counts.proofs.Acting.{kept_run, run_does}
use Rattle.kl_counts.proofs.Regular.{costed, Costed}

module _ (same : Subquery → Subquery → Bool) (capacity : ℕ) (value : Subquery → Value) (t : Stage) (p : Node) where
  abbrev R : Readings
  R = readings t

  abbrev block : ℕ
  block = t.block

  hits_append : (xs ys : List Event) → HitMemos R block p xs → HitMemos R block p ys → HitMemos R block p (xs ++ ys)
  hits_append [] ys h g = g
  hits_append (started c ∷ xs) ys h g = hits_append xs ys h g
  hits_append (handed c m ∷ xs) ys h g = hits_append xs ys h g
  hits_append (joined n way outer starts ∷ xs) ys h g = (h.0, hits_append xs ys h.1 g)
  hits_append (missed k v ∷ xs) ys h g = hits_append xs ys h g
  hits_append (hit n frees q env ∷ xs) ys h g = (h.0, hits_append xs ys h.1 g)

  abbrev Known : Entries → List Event → Entries → Type 0
  Known m es l = HitMemos R block p es

  part_known : (d : ℕ) (q : Node) (env : List Value) → length env ≡ d → MemoFree d q → (m : Entries) → HitMemos R block p (run same capacity value R block q env m).0
  part_known = run_does same capacity value R block Known NoMemo (λ m. tt) (λ k xs l ys m h g. hits_append xs ys h g) (λ c m. tt) (λ n way outer m. (refl, tt)) (λ d n frees q env z h m. absurd h)

  looks_known : (d n : ℕ) (frees : List ℕ) (q : Node) (env : List Value) → length env ≡ d → Costed R block p d n frees q → (m : Entries)
      → HitMemos R block p (looks same capacity value n frees q env (run same capacity value R block q env) m).0
  looks_known d n frees q env z h m = by (has same (n, values_at env frees) m) _ _ (part_known d q env z h.free m)
    where
      by : (b : Bool) (x y : Entries) → HitMemos R block p (run same capacity value R block q env m).0
          → HitMemos R block p (cond {A = List Event × Entries} b (hit n frees q env ∷ [], x)
          ((run same capacity value R block q env m).0 ++ missed (n, values_at env frees) (value (n, values_at env frees)) ∷ [], y)).0
      by true x y g = (record { depth = d; free = h.free; costs = λ P. h.costs P env z }, tt)
      by false x y g = hits_append (run same capacity value R block q env m).0 (missed (n, values_at env frees) (value (n, values_at env frees)) ∷ []) g tt

  pub run_known : Apart p → Places AnyScan AnyJoin (λ d n frees q. AreFree d frees q) 0 p → IsDistinct nat_eq (map (λ m. m.0) (memos_of p)) → Ran same capacity value t p (run same capacity value R block p [] []).0
  run_known apart frees differ =
      let kept = kept_run same capacity value R block p apart [] in
      record {
        paid = λ P. paid_run same capacity value t P p;
        hits = kept.hits;
        misses = kept.misses;
        memos = run_does same capacity value R block Known (Costed R block p) (λ m. tt) (λ k xs l ys m h g. hits_append xs ys h g) (λ c m. tt) (λ n way outer m. (refl, tt)) looks_known 0 p [] refl
            (costed R block p apart frees differ) [];
      }
