-- In plans that make sense each free position is bound around them; so the free positions that a memo lists are those of its part.
use Rattle.std.proofs.Common.{◌≡◌, ◌≤◌, ◌<◌, ◌⊎◌, ⊎_elim, ℕ, zero, suc, ◌+◌, Bool, true, false, List, [], ◌∷◌, ◌++◌, cond, nat_eq, length, refl, sym, subst, arith}
use Rattle.std.specs.List.{list_any, AllByRecursion}
use Rattle.kl_type.specs.Ground.{Ground, Row}
use Rattle.kl_ask.specs.declared.settings.JoinHow.{JoinHow}
use Rattle.kl_ask.specs.declared.settings.JoinHow.TheVariants as way
use Rattle.kl_value.specs.declared.Kind.{Kind}
use Rattle.kl_plan.specs.declared.plan.Scan.{Scan}
use Rattle.kl_plan.specs.Nodes as node
use Rattle.kl_plan.specs.Nodes.{Node, Nodes, no_nodes, nodes, Fields, no_fields, fields, Branches, no_branches, rest, branch, Key as JoinKey, no_key, key}
use Rattle.kl_plan.specs.Numbers.{memos_in, memos_of_nodes, memos_of_fields, memos_of_branches, memos_of_key}
use Rattle.kl_plan.specs.Occurs.{occurs, frees_from, frees_in}
use Rattle.kl_plan.specs.Typing.{PlanTypes, KeyTypes, EachPlan, PlansOf, FieldTypes, BranchTypes}
use Rattle.kl_plan.proofs.Frees.{plan_bound}
use Rattle.kl_counts.specs.Free.{Rise, AreFree}
use Rattle.kl_counts.specs.Places.{Places, PlacesNodes, PlacesFields, PlacesBranches, PlacesKey, AnyScan, AnyJoin, NoMemo, MemoFree}
use Rattle.kl_counts.proofs.Same.{nat_itself, nat_is}

-- ---- the free positions that are listed

rise_less : (n : ℕ) (xs : List ℕ) → Rise (suc n) xs → Rise n xs
rise_less n [] h = tt
rise_less n (x ∷ xs) h = let low = h.0 in (omega arith, h.1)

rise_from : (n k : ℕ) (p : Node) → Rise n (frees_from n k p)
rise_from n zero p = tt
rise_from n (suc k) p = by (occurs n p) (rise_from (suc n) k p)
  where
    by : (b : Bool) → Rise (suc n) (frees_from (suc n) k p) → Rise n (cond b (n ∷ frees_from (suc n) k p) (frees_from (suc n) k p))
    by true h = (omega arith, h)
    by false h = rise_less n (frees_from (suc n) k p) h

bound_from : (n k d : ℕ) (p : Node) → n + k ≡ d → AllByRecursion (λ x. x < d) (frees_from n k p)
bound_from n zero d p e = tt
bound_from n (suc k) d p e = by (occurs n p) (bound_from (suc n) k d p (omega arith))
  where
    by : (b : Bool) → AllByRecursion (λ x. x < d) (frees_from (suc n) k p) → AllByRecursion (λ x. x < d) (cond b (n ∷ frees_from (suc n) k p) (frees_from (suc n) k p))
    by true h = (omega arith, h)
    by false h = h

above : (x n : ℕ) → n ≤ x → nat_eq x n ≡ false → suc n ≤ x
above x n low s = ⊎_elim (λ e. absurd (let t : nat_eq x n ≡ true = subst (λ y. nat_eq x y ≡ true) e (nat_itself x) in cc)) (λ lt. lt) (apart x n low)
  where
    apart : (x n : ℕ) → n ≤ x → (x ≡ n) ⊎ (suc n ≤ x)
    apart x n h = grind arith

listed_from : (n k : ℕ) (p : Node) (x : ℕ) → occurs x p ≡ true → n ≤ x → x < n + k → list_any (nat_eq x) (frees_from n k p) ≡ true
listed_from n zero p x o low high = absurd (omega arith)
listed_from n (suc k) p x o low high = by (nat_eq x n) (occurs n p) refl refl (listed_from (suc n) k p x o)
  where
    by : (a b : Bool) → nat_eq x n ≡ a → occurs n p ≡ b → (suc n ≤ x → x < suc n + k → list_any (nat_eq x) (frees_from (suc n) k p) ≡ true)
        → list_any (nat_eq x) (cond b (n ∷ frees_from (suc n) k p) (frees_from (suc n) k p)) ≡ true
    by true true s t r = rw s refl
    by true false s t r = let e = nat_is x n s in let here : occurs n p ≡ true = subst (λ y. occurs y p ≡ true) e o in absurd cc
    by false true s t r = rw s (r (above x n low s) (omega arith))
    by false false s t r = r (above x n low s) (omega arith)

pub are_free : (d : ℕ) (p : Node) → ((x : ℕ) → occurs x p ≡ true → x < d) → AreFree d (frees_in d p) p
are_free d p bound = record {
  rising = rise_from 0 d p;
  listed = λ x o. let high = bound x o in listed_from 0 d p x o (omega arith) (omega arith);
  bound = bound_from 0 d d p (omega arith);
}

-- ---- parts without memos

none_in : (xs ys : List ℕ) → xs ++ ys ≡ [] → (xs ≡ []) × (ys ≡ [])
none_in [] ys h = (refl, h)
none_in (x ∷ xs) ys h = absurd cc

mutual
  pub memo_free : (d : ℕ) (p : Node) → memos_in p ≡ [] → MemoFree d p
  memo_free d (node.Plain t) h = tt
  memo_free d (node.Var x) h = tt
  memo_free d (node.Rec ps) h = free_fields d ps h
  memo_free d (node.Proj l a) h = memo_free d a h
  memo_free d (node.Inj l a) h = memo_free d a h
  memo_free d (node.Case a bs) h = (memo_free d a ((none_in (memos_in a) (memos_of_branches bs) h).0), free_branches d bs ((none_in (memos_in a) (memos_of_branches bs) h).1))
  memo_free d (node.Make k ps) h = free_nodes d ps h
  memo_free d (node.Union a b) h = (memo_free d a ((none_in (memos_in a) (memos_in b) h).0), memo_free d b ((none_in (memos_in a) (memos_in b) h).1))
  memo_free d (node.Ext k b s) h = (memo_free (suc d) b ((none_in (memos_in s) (memos_in b) h).1), memo_free d s ((none_in (memos_in s) (memos_in b) h).0))
  memo_free d (node.If a b c) h =
      let g = (none_in (memos_in a) (memos_in b ++ memos_in c) h).1 in
      (memo_free d a ((none_in (memos_in a) (memos_in b ++ memos_in c) h).0), memo_free d b ((none_in (memos_in b) (memos_in c) g).0), memo_free d c ((none_in (memos_in b) (memos_in c) g).1))
  memo_free d (node.Let a b) h = (memo_free d a ((none_in (memos_in a) (memos_in b) h).0), memo_free (suc d) b ((none_in (memos_in a) (memos_in b) h).1))
  memo_free d (node.Prim c ps) h = free_nodes d ps h
  memo_free d (node.Scan c) h = tt
  memo_free d (node.Join n k how o cs i q b) h =
      let g = (none_in (memos_in o) (memos_of_nodes cs ++ (memos_of_key q ++ memos_in b)) h).1 in
      let f = (none_in (memos_of_nodes cs) (memos_of_key q ++ memos_in b) g).1 in (
        memo_free d o ((none_in (memos_in o) (memos_of_nodes cs ++ (memos_of_key q ++ memos_in b)) h).0),
        free_nodes (suc d) cs ((none_in (memos_of_nodes cs) (memos_of_key q ++ memos_in b) g).0),
        free_key (suc d) q ((none_in (memos_of_key q) (memos_in b) f).0),
        tt,
        memo_free (suc (suc d)) b ((none_in (memos_of_key q) (memos_in b) f).1),
      )
  memo_free d (node.Memo n frees p) h = absurd cc

  free_nodes : (d : ℕ) (ps : Nodes) → memos_of_nodes ps ≡ [] → PlacesNodes AnyScan AnyJoin NoMemo d ps
  free_nodes d no_nodes h = tt
  free_nodes d (nodes p ps) h = (memo_free d p ((none_in (memos_in p) (memos_of_nodes ps) h).0), free_nodes d ps ((none_in (memos_in p) (memos_of_nodes ps) h).1))

  free_fields : (d : ℕ) (ps : Fields) → memos_of_fields ps ≡ [] → PlacesFields AnyScan AnyJoin NoMemo d ps
  free_fields d no_fields h = tt
  free_fields d (fields l p ps) h = (memo_free d p ((none_in (memos_in p) (memos_of_fields ps) h).0), free_fields d ps ((none_in (memos_in p) (memos_of_fields ps) h).1))

  free_branches : (d : ℕ) (bs : Branches) → memos_of_branches bs ≡ [] → PlacesBranches AnyScan AnyJoin NoMemo d bs
  free_branches d no_branches h = tt
  free_branches d (rest c) h = memo_free d c h
  free_branches d (branch l b bs) h = (memo_free (suc d) b ((none_in (memos_in b) (memos_of_branches bs) h).0), free_branches d bs ((none_in (memos_in b) (memos_of_branches bs) h).1))

  free_key : (d : ℕ) (q : JoinKey) → memos_of_key q ≡ [] → PlacesKey AnyScan AnyJoin NoMemo d q
  free_key d no_key h = tt
  free_key d (key l p) h = memo_free d p h

-- ---- where memos stand in plans that make sense

-- a memo's part has none, and it lists the free positions of its part
abbrev pub Alone : ℕ → ℕ → List ℕ → Node → Type 0
Alone d n frees p = MemoFree d p × AreFree d frees p

module _ (Of : Scan → Ground → Type 0) (Listed : ℕ → List ℕ → Node → Type 0) where
  mutual
    pub memos_alone : (p : Node) (G : List Ground) (s : Ground) → PlanTypes Of Listed G p s → Places AnyScan AnyJoin Alone (length G) p
    memos_alone (node.Plain t) G s h = tt
    memos_alone (node.Var y) G s h = tt
    memos_alone (node.Rec ps) G s h = fields_alone ps G h.0 h.3
    memos_alone (node.Proj l a) G s h = memos_alone a G _ h.1
    memos_alone (node.Inj l a) G s h = memos_alone a G _ h.5
    memos_alone (node.Case a bs) G s h = (memos_alone a G _ h.1, branches_alone bs G h.0 s h.3)
    memos_alone (node.Make k ps) G s h = each_alone ps G h.0 h.3
    memos_alone (node.Union a b) G s h = (memos_alone a G s h.3, memos_alone b G s h.4)
    memos_alone (node.Ext k b a) G s h = (memos_alone b (h.2 ∷ G) s h.5, memos_alone a G _ h.4)
    memos_alone (node.If a b c) G s h = (memos_alone a G _ h.0, memos_alone b G s h.1, memos_alone c G s h.2)
    memos_alone (node.Let a b) G s h = (memos_alone a G h.0 h.1, memos_alone b (h.0 ∷ G) s h.2)
    memos_alone (node.Prim c ps) G s h = plans_alone ps G h.0 h.1
    memos_alone (node.Scan c) G s h = tt
    memos_alone (node.Join n k how o cs i q b) G s h =
        (memos_alone o G _ h.5, each_alone cs (h.2 ∷ G) _ h.6, key_alone how k q (h.2 ∷ G) h.3 h.9, tt, memos_alone b (h.3 ∷ h.2 ∷ G) s h.10)
    memos_alone (node.Memo n frees p) G s h =
        (memo_free (length G) p h.5, subst (λ fs. AreFree (length G) fs p) (sym h.4) (are_free (length G) p (plan_bound Of Listed p G s h.3)))

    key_alone : (how : JoinHow) (k : Kind) (q : JoinKey) (G : List Ground) (v : Ground) → KeyTypes Of Listed G how k q v → PlacesKey AnyScan AnyJoin Alone (length G) q
    key_alone how k no_key G v h = tt
    key_alone way.Block k (key l p) G v h = absurd h
    key_alone way.Index k (key l p) G v h = memos_alone p G h.1 h.4

    each_alone : (ps : Nodes) (G : List Ground) (s : Ground) → EachPlan Of Listed G ps s → PlacesNodes AnyScan AnyJoin Alone (length G) ps
    each_alone no_nodes G s h = tt
    each_alone (nodes p ps) G s h = (memos_alone p G s h.0, each_alone ps G s h.1)

    plans_alone : (ps : Nodes) (G : List Ground) (ss : List Ground) → PlansOf Of Listed G ps ss → PlacesNodes AnyScan AnyJoin Alone (length G) ps
    plans_alone no_nodes G ss h = tt
    plans_alone (nodes p ps) G ss h = (memos_alone p G h.0 h.3, plans_alone ps G h.1 h.4)

    fields_alone : (ps : Fields) (G : List Ground) (r : Row) → FieldTypes Of Listed G ps r → PlacesFields AnyScan AnyJoin Alone (length G) ps
    fields_alone no_fields G r h = tt
    fields_alone (fields l p ps) G r h = (memos_alone p G h.0 h.3, fields_alone ps G h.1 h.4)

    branches_alone : (bs : Branches) (G : List Ground) (r : Row) (s : Ground) → BranchTypes Of Listed G bs r s → PlacesBranches AnyScan AnyJoin Alone (length G) bs
    branches_alone no_branches G r s h = tt
    branches_alone (rest c) G r s h = memos_alone c G s h
    branches_alone (branch l b bs) G r s h = (memos_alone b (h.0 ∷ G) s h.2, branches_alone bs G r s h.3)
