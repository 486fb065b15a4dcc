-- What the machine does, by what its steps do; and that its look-ups are those of a cache.
use Rattle.std.proofs.Common.{◌≡◌, ℕ, zero, suc, Bool, true, false, List, [], ◌∷◌, ◌++◌, Option, Some, None, cond, nat_eq, length, refl, sym, ap, ◌∙◌}
use Rattle.std.specs.Cmp.Lexicographic.{pointwise}
use mathlib.Core.Path.{ap₂}
use Rattle.kl_value.specs.Views.{as_bool, field_at}
use Rattle.kl_value.specs.declared.Value.{Value}
use Rattle.kl_outcome.specs.Outcome.{Name, Outcome, done, over, stuck, Flow, more, stop, as_variant}
use Rattle.kl_ask.specs.declared.settings.JoinHow.{JoinHow}
use Rattle.kl_plan.specs.declared.plan.Scan.{Scan}
use Rattle.kl_plan.specs.Nodes as node
use Rattle.kl_plan.specs.Nodes.{Node, Nodes, no_nodes, nodes, Fields, no_fields, fields, Branches, no_branches, rest, branch, Key as JoinKey, no_key, key}
use Rattle.kl_plan.specs.Meaning.{Readings, same_key}
use Rattle.kl_lookups.specs.Lookups.{has, moved_up, kept_with, left_by, hit_by, missed_by}
use Rattle.kl_lookups.proofs.Lookups.{left_append, hit_append, missed_append, moved_none}
use Rattle.kl_plan.specs.Subqueries.{Subquery, values_at}
use Rattle.kl_plan.specs.Prices.{inner_starts}
use Rattle.kl_counts.specs.Places.{AnyScan, AnyJoin, NoMemo, Places, PlacesNodes, PlacesFields, PlacesBranches, PlacesKey, MemoFree, Apart}
use Rattle.kl_scans.specs.Log.{Event, started, handed, joined, missed, hit}
use Rattle.kl_counts.specs.Log.{asked_in, hits_in, misses_in}
use Rattle.kl_counts.specs.Machine.{Entries, Act, then_do, often, at_value, chosen, opened, each, looks, run, run_nodes, run_fields, run_branch, run_conds, run_key}

module _ (same : Subquery → Subquery → Bool) (capacity : ℕ) (value : Subquery → Value) (R : Readings) (block : ℕ) where
  -- Rel holds from the entries before through what is done to the entries behind it
  module _ (Rel : Entries → List Event → Entries → Type 0) (M : ℕ → ℕ → List ℕ → Node → Type 0)
      (none : (m : Entries) → Rel m [] m)
      (on : (k : Entries) (xs : List Event) (l : Entries) (ys : List Event) (m : Entries) → Rel k xs l → Rel l ys m → Rel k (xs ++ ys) m)
      (start : (c : Scan) (m : Entries) → Rel m (started c ∷ []) m)
      (join : (n : ℕ) (way : JoinHow) (outer : ℕ) (m : Entries) → Rel m (joined n way outer (inner_starts block way outer) ∷ []) m)
      (memo : (d n : ℕ) (frees : List ℕ) (p : Node) (env : List Value) → length env ≡ d → M d n frees p → (m : Entries)
      → Rel m (looks same capacity value n frees p env (run same capacity value R block p env) m).0 (looks same capacity value n frees p env (run same capacity value R block p env) m).1)
    where
      abbrev Does : Act → Type 0
      Does a = (m : Entries) → Rel m (a m).0 (a m).1

      then_does : (a b : Act) → Does a → Does b → Does (then_do a b)
      then_does a b p q m = on m (a m).0 (a m).1 (b (a m).1).0 (b (a m).1).1 (p m) (q (a m).1)

      each_does : (go : Value → Act) (f : Flow) → ((v : Value) → Does (go v)) → Does (each go f)
      each_does go (more v f) h = then_does (go v) (each go f) (h v) (each_does go f h)
      each_does go (stop e) h = none

      value_does : (o : Outcome) (go : Value → Act) → ((v : Value) → Does (go v)) → Does (at_value o go)
      value_does (done v) go h = h v
      value_does (over vs) go h = none
      value_does stuck go h = none

      chosen_does : (b : Option Bool) (x y : Act) → Does x → Does y → Does (chosen b x y)
      chosen_does (Some true) x y p q = p
      chosen_does (Some false) x y p q = q
      chosen_does None x y p q = none

      opened_does : (o : Option (Name × Value)) (go : Name → Value → Act) → ((l : Name) (v : Value) → Does (go l v)) → Does (opened o go)
      opened_does (Some c) go h = h c.0 c.1
      opened_does None go h = none

      cond_does : (b : Bool) (x y : Act) → Does x → Does y → Does (cond b x y)
      cond_does true x y p q = p
      cond_does false x y p q = q

      often_does : (n : ℕ) (c : Scan) → Does (often n c)
      often_does zero c m = none m
      often_does (suc n) c m = on m (started c ∷ []) m (often n c m).0 m (start c m) (often_same n c m (often_does n c m))
        where
          often_same : (n : ℕ) (c : Scan) (m : Entries) → Rel m (often n c m).0 (often n c m).1 → Rel m (often n c m).0 m
          often_same zero c m h = h
          often_same (suc n) c m h = h

      mutual
        pub run_does : (d : ℕ) (p : Node) (env : List Value) → length env ≡ d → Places AnyScan AnyJoin M d p → Does (run same capacity value R block p env)
        run_does d (node.Plain t) env z h = none
        run_does d (node.Var x) env z h = none
        run_does d (node.Rec ps) env z h = fields_do d ps env z h
        run_does d (node.Proj l a) env z h = run_does d a env z h
        run_does d (node.Inj l a) env z h = run_does d a env z h
        run_does d (node.Case a bs) env z h = then_does _ _ (run_does d a env z h.0) (value_does _ _ (λ v. opened_does (as_variant v) _ (λ l w. branch_does d bs l w env z h.1)))
        run_does d (node.Make k ps) env z h = nodes_do d ps env z h
        run_does d (node.Union a b) env z h = then_does _ _ (run_does d a env z h.0) (run_does d b env z h.1)
        run_does d (node.Ext k b s) env z h = then_does _ _ (run_does d s env z h.1) (each_does _ _ (λ v. run_does (suc d) b (v ∷ env) (ap suc z) h.0))
        run_does d (node.If a b c) env z h = then_does _ _ (run_does d a env z h.0) (value_does _ _ (λ v. chosen_does (as_bool v) _ _ (run_does d b env z h.1) (run_does d c env z h.2)))
        run_does d (node.Let a b) env z h = then_does _ _ (run_does d a env z h.0) (value_does _ _ (λ v. run_does (suc d) b (v ∷ env) (ap suc z) h.1))
        run_does d (node.Prim c ps) env z h = nodes_do d ps env z h
        run_does d (node.Scan c) env z h = start c
        run_does d (node.Join n k way o cs i q b) env z h =
            then_does _ _ (run_does d o env z h.0) (then_does _ _
            (each_does _ _ (λ x. conds_do (suc d) cs (x ∷ env) _ (ap suc z) h.1 (key_does (suc d) q (x ∷ env) _ (ap suc z) h.2 (λ test. each_does _ _ (λ y. chosen_does (test y) _ _ (run_does (suc (suc d)) b (y ∷ x ∷ env) (ap (λ n. suc (suc n)) z) h.4) none)))))
            (then_does _ _ (often_does _ i) (join n way _)))
        run_does d (node.Memo n frees p) env z h = memo d n frees p env z h

        nodes_do : (d : ℕ) (ps : Nodes) (env : List Value) → length env ≡ d → PlacesNodes AnyScan AnyJoin M d ps → Does (run_nodes same capacity value R block ps env)
        nodes_do d no_nodes env z h = none
        nodes_do d (nodes p ps) env z h = then_does _ _ (run_does d p env z h.0) (nodes_do d ps env z h.1)

        fields_do : (d : ℕ) (ps : Fields) (env : List Value) → length env ≡ d → PlacesFields AnyScan AnyJoin M d ps → Does (run_fields same capacity value R block ps env)
        fields_do d no_fields env z h = none
        fields_do d (fields l p ps) env z h = then_does _ _ (run_does d p env z h.0) (fields_do d ps env z h.1)

        branch_does : (d : ℕ) (bs : Branches) (l : Name) (v : Value) (env : List Value) → length env ≡ d → PlacesBranches AnyScan AnyJoin M d bs → Does (run_branch same capacity value R block bs l v env)
        branch_does d no_branches l v env z h = none
        branch_does d (rest c) l v env z h = run_does d c env z h
        branch_does d (branch x b bs) l v env z h = cond_does (pointwise nat_eq l x) _ _ (run_does (suc d) b (v ∷ env) (ap suc z) h.0) (branch_does d bs l v env z h.1)

        conds_do : (d : ℕ) (cs : Nodes) (env : List Value) (go : Act) → length env ≡ d → PlacesNodes AnyScan AnyJoin M d cs → Does go → Does (run_conds same capacity value R block cs env go)
        conds_do d no_nodes env go z h g = g
        conds_do d (nodes c cs) env go z h g = then_does _ _ (run_does d c env z h.0) (value_does _ _ (λ v. chosen_does (as_bool v) _ _ (conds_do d cs env go z h.1 g) none))

        key_does : (d : ℕ) (q : JoinKey) (env : List Value) (go : (Value → Option Bool) → Act) → length env ≡ d → PlacesKey AnyScan AnyJoin M d q → ((test : Value → Option Bool) → Does (go test))
            → Does (run_key same capacity value R block q env go)
        key_does d no_key env go z h g = g (λ y. Some true)
        key_does d (key l p) env go z h g = then_does _ _ (run_does d p env z h) (value_does _ _ (λ v. g (λ y. same_key v (field_at l y))))

  -- ---- without memos nothing is looked up

  asked_append : (xs ys : List Event) → asked_in (xs ++ ys) ≡ asked_in xs ++ asked_in ys
  asked_append [] ys = refl
  asked_append (started c ∷ xs) ys = asked_append xs ys
  asked_append (handed c m ∷ xs) ys = asked_append xs ys
  asked_append (joined n way outer starts ∷ xs) ys = asked_append xs ys
  asked_append (missed k v ∷ xs) ys = ap (λ ks. k ∷ ks) (asked_append xs ys)
  asked_append (hit n frees p env ∷ xs) ys = ap (λ ks. (n, values_at env frees) ∷ ks) (asked_append xs ys)

  hits_append : (xs ys : List Event) → hits_in (xs ++ ys) ≡ hits_in xs ++ hits_in ys
  hits_append [] ys = refl
  hits_append (started c ∷ xs) ys = hits_append xs ys
  hits_append (handed c m ∷ xs) ys = hits_append xs ys
  hits_append (joined n way outer starts ∷ xs) ys = hits_append xs ys
  hits_append (missed k v ∷ xs) ys = hits_append xs ys
  hits_append (hit n frees p env ∷ xs) ys = ap (λ ks. (n, values_at env frees) ∷ ks) (hits_append xs ys)

  misses_append : (xs ys : List Event) → misses_in (xs ++ ys) ≡ misses_in xs ++ misses_in ys
  misses_append [] ys = refl
  misses_append (started c ∷ xs) ys = misses_append xs ys
  misses_append (handed c m ∷ xs) ys = misses_append xs ys
  misses_append (joined n way outer starts ∷ xs) ys = misses_append xs ys
  misses_append (missed k v ∷ xs) ys = ap (λ ks. k ∷ ks) (misses_append xs ys)
  misses_append (hit n frees p env ∷ xs) ys = misses_append xs ys

  record Quiet (m : Entries) (es : List Event) (l : Entries) : Type 0 where
    asked : asked_in es ≡ []
    hits : hits_in es ≡ []
    misses : misses_in es ≡ []
    kept : l ≡ m

  quiet_on : (k : Entries) (xs : List Event) (l : Entries) (ys : List Event) (m : Entries) → Quiet k xs l → Quiet l ys m → Quiet k (xs ++ ys) m
  quiet_on k xs l ys m p q = record {
    asked = asked_append xs ys ∙ ap₂ (λ a b. a ++ b) p.asked q.asked;
    hits = hits_append xs ys ∙ ap₂ (λ a b. a ++ b) p.hits q.hits;
    misses = misses_append xs ys ∙ ap₂ (λ a b. a ++ b) p.misses q.misses;
    kept = q.kept ∙ p.kept;
  }

  quiet_run : (d : ℕ) (p : Node) (env : List Value) → length env ≡ d → MemoFree d p → (m : Entries) → Quiet m (run same capacity value R block p env m).0 (run same capacity value R block p env m).1
  quiet_run = run_does Quiet NoMemo (λ m. record { asked = refl; hits = refl; misses = refl; kept = refl }) quiet_on
      (λ c m. record { asked = refl; hits = refl; misses = refl; kept = refl }) (λ n way outer m. record { asked = refl; hits = refl; misses = refl; kept = refl })
      (λ d n frees p env z h m. absurd h)

  -- ---- where no memo stands inside another, the look-ups are those of a cache

  pub record Kept (m : Entries) (es : List Event) (l : Entries) : Type 0 where
    pub hits : hits_in es ≡ hit_by same capacity value (asked_in es) m
    pub misses : misses_in es ≡ missed_by same capacity value (asked_in es) m
    pub entries : l ≡ left_by same capacity value (asked_in es) m

  kept_on : (k : Entries) (xs : List Event) (l : Entries) (ys : List Event) (m : Entries) → Kept k xs l → Kept l ys m → Kept k (xs ++ ys) m
  kept_on k xs l ys m p q =
      let both = asked_append xs ys in
      record {
        hits = hits_append xs ys ∙ ap₂ (λ a b. a ++ b) p.hits (q.hits ∙ ap (hit_by same capacity value (asked_in ys)) p.entries)
            ∙ sym (hit_append same capacity value (asked_in xs) (asked_in ys) k) ∙ sym (ap (λ ks. hit_by same capacity value ks k) both);
        misses = misses_append xs ys ∙ ap₂ (λ a b. a ++ b) p.misses (q.misses ∙ ap (missed_by same capacity value (asked_in ys)) p.entries)
            ∙ sym (missed_append same capacity value (asked_in xs) (asked_in ys) k) ∙ sym (ap (λ ks. missed_by same capacity value ks k) both);
        entries = q.entries ∙ ap (left_by same capacity value (asked_in ys)) p.entries ∙ sym (left_append same capacity value (asked_in xs) (asked_in ys) k)
            ∙ sym (ap (λ ks. left_by same capacity value ks k) both);
      }

  kept_looks : (d n : ℕ) (frees : List ℕ) (p : Node) (env : List Value) → length env ≡ d → MemoFree d p → (m : Entries)
      → Kept m (looks same capacity value n frees p env (run same capacity value R block p env) m).0 (looks same capacity value n frees p env (run same capacity value R block p env) m).1
  kept_looks d n frees p env z h m = by (has same (n, values_at env frees) m) refl (quiet_run d p env z h m)
    where
      k : Subquery
      k = (n, values_at env frees)

      part : List Event × Entries
      part = run same capacity value R block p env m

      by : (b : Bool) → has same k m ≡ b → Quiet m part.0 part.1
          → Kept m
          (cond {A = List Event × Entries} b (hit n frees p env ∷ [], moved_up same k m) (part.0 ++ missed k (value k) ∷ [], kept_with same capacity k (value k) part.1)).0
          (cond {A = List Event × Entries} b (hit n frees p env ∷ [], moved_up same k m) (part.0 ++ missed k (value k) ∷ [], kept_with same capacity k (value k) part.1)).1
      by true t q = record {
        hits = rw t refl;
        misses = rw t refl;
        entries = rw t refl;
      }
      by false t q =
          let last : List Event = missed k (value k) ∷ [] in
          let asked : asked_in (part.0 ++ last) ≡ k ∷ [] = asked_append part.0 last ∙ ap (λ ks. ks ++ k ∷ []) q.asked in
          let hits : hits_in (part.0 ++ last) ≡ [] = hits_append part.0 last ∙ ap (λ ks. ks ++ []) q.hits in
          let misses : misses_in (part.0 ++ last) ≡ k ∷ [] = misses_append part.0 last ∙ ap (λ ks. ks ++ k ∷ []) q.misses in
          let none = moved_none same k m t in
          record {
            hits = hits ∙ rw asked (rw t refl);
            misses = misses ∙ rw asked (rw t refl);
            entries = ap (kept_with same capacity k (value k)) (q.kept ∙ sym none) ∙ rw asked (rw t refl);
          }

  pub kept_run : (p : Node) → Apart p → (m : Entries) → Kept m (run same capacity value R block p [] m).0 (run same capacity value R block p [] m).1
  kept_run p h = run_does Kept (λ d n frees p. MemoFree d p) (λ m. record { hits = refl; misses = refl; entries = refl }) kept_on
      (λ c m. record { hits = refl; misses = refl; entries = refl }) (λ n way outer m. record { hits = refl; misses = refl; entries = refl })
      kept_looks 0 p [] refl h
