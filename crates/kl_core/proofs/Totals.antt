-- A term in which no primitive may overflow does not overflow.
use Rattle.std.proofs.Common.{◌≡◌, ◌≢◌, ◌⊎◌, inl, inr, ℕ, Bool, true, false, ◌&&◌, cond, nat_eq, List, [], ◌∷◌, Option, Some, None, slice_get, refl, sym, subst}
use Rattle.std.specs.Cmp.Lexicographic.{pointwise}
use Rattle.kl_value.specs.declared.Kind.{Kind}
use Rattle.kl_value.specs.declared.Value.{Value}
use Rattle.kl_value.specs.Views.{as_bool, as_collection, Collection}
use Rattle.kl_prim.specs.Meaning.{Answer, gives, overflows, senseless}
use Rattle.kl_prim.specs.Table.{Row as Primitive, row_at, meaning, meaning_of, IsTotal, IsTotalRow}
use Rattle.kl_prim.proofs.MeaningLemmas.{meaning_total}
use Rattle.kl_type.specs.Ground.{Ground}
use Rattle.kl_outcome.specs.Outcome.{Name, Outcome, done, over, stuck, fine, overflow, broken, Flow, more, stop, flow, items_in, end_in, followed, drawn, after, outcome_of, answered, args_then, parts_then, chosen, as_record, field_in, as_variant, opened, items_at_all, items_of, item_then, gathered, collected, joined_to, union_of}
use Rattle.kl_outcome.specs.Typed.{Inhabits, HaveTypes, OfType}
use Rattle.kl_outcome.proofs.Having.{both_true}
use Rattle.kl_core.specs.Trees.{Tree, Var, Const, Source, Rec, Proj, Inj, Case, Make, Union, Ext, If, Let, Prim, Trees, no_trees, trees, Parts, no_parts, parts, Arms, no_arms, rest, arm}
use Rattle.kl_core.specs.Core.{Tables, core, core_all, core_items, core_parts, core_arms}
use Rattle.kl_core.specs.Counts.{total_in, total_trees, total_parts, total_arms, total_row, total_code}
use Rattle.kl_core.specs.Positions.{shift_of, shift_trees, shift_parts, shift_arms}
use Rattle.kl_core.specs.Typing.{SourceTypes, CoreTypes, HaveSources}
use Rattle.kl_core.proofs.Safety.{safe}

-- no overflow
abbrev pub NoOverflow : Outcome → Type 0
NoOverflow (done v) = Unit {0}
NoOverflow (over vs) = ⊥
NoOverflow stuck = Unit {0}

abbrev pub NoOverflowIn : Flow → Type 0
NoOverflowIn (more v f) = NoOverflowIn f
NoOverflowIn (stop fine) = Unit {0}
NoOverflowIn (stop overflow) = ⊥
NoOverflowIn (stop broken) = Unit {0}

calm_flow : (vs : List Value) → NoOverflowIn (flow vs fine)
calm_flow [] = tt
calm_flow (v ∷ vs) = calm_flow vs

calm_after : (o : Outcome) (go : Value → Outcome) → NoOverflow o → ((v : Value) → NoOverflow (go v)) → NoOverflow (after o go)
calm_after (done v) go h g = g v
calm_after (over vs) go h g = absurd h
calm_after stuck go h g = tt

calm_some : (o : Option Value) → NoOverflow (outcome_of o)
calm_some (Some v) = tt
calm_some None = tt

calm_chosen : (b : Option Bool) (o q : Outcome) → NoOverflow o → NoOverflow q → NoOverflow (chosen b o q)
calm_chosen (Some true) o q h g = h
calm_chosen (Some false) o q h g = g
calm_chosen None o q h g = tt

calm_field : (l : Name) (fs : Option (List (Name × Value))) → NoOverflow (field_in l fs)
calm_field l (Some fs) = calm_some _
calm_field l None = tt

calm_opened : (c : Option (Name × Value)) (go : Name → Value → Outcome) → ((l : Name) (v : Value) → NoOverflow (go l v)) → NoOverflow (opened c go)
calm_opened (Some c) go g = g c.0 c.1
calm_opened None go g = tt

calm_at_all : (c : Option Collection) → NoOverflowIn (items_at_all c)
calm_at_all (Some c) = calm_flow c.items
calm_at_all None = tt

calm_items : (o : Outcome) → NoOverflow o → NoOverflowIn (items_of o)
calm_items (done v) h = calm_at_all (as_collection v)
calm_items (over vs) h = absurd h
calm_items stuck h = tt

calm_followed : (f g : Flow) → NoOverflowIn f → NoOverflowIn g → NoOverflowIn (followed f g)
calm_followed (more v f) g h k = calm_followed f g h k
calm_followed (stop fine) g h k = k
calm_followed (stop overflow) g h k = absurd h
calm_followed (stop broken) g h k = tt

calm_drawn : (f : Flow) (go : Value → Flow) → NoOverflowIn f → ((v : Value) → NoOverflowIn (go v)) → NoOverflowIn (drawn f go)
calm_drawn (more v f) go h g = calm_followed (go v) (drawn f go) (g v) (calm_drawn f go h g)
calm_drawn (stop fine) go h g = tt
calm_drawn (stop overflow) go h g = absurd h
calm_drawn (stop broken) go h g = tt

calm_item : (o : Outcome) (f : Flow) → NoOverflow o → NoOverflowIn f → NoOverflowIn (item_then o f)
calm_item (done v) f h g = g
calm_item (over vs) f h g = absurd h
calm_item stuck f h g = tt

calm_gathered : (k : Kind) (f : Flow) (vs : List Value) → NoOverflowIn f → NoOverflow (gathered k (end_in f) vs)
calm_gathered k (more v f) vs h = calm_gathered k f vs h
calm_gathered k (stop fine) vs h = tt
calm_gathered k (stop overflow) vs h = absurd h
calm_gathered k (stop broken) vs h = tt

calm_collected : (k : Kind) (f : Flow) → NoOverflowIn f → NoOverflow (collected k f)
calm_collected k f h = calm_gathered k f (items_in f) h

calm_joined : (c : Option Collection) (q : Outcome) → NoOverflow q → NoOverflow (joined_to c q)
calm_joined (Some c) q h = calm_collected c.kind (followed (flow c.items fine) (items_of q)) (calm_followed (flow c.items fine) (items_of q) (calm_flow c.items) (calm_items q h))
calm_joined None q h = tt

calm_union : (o q : Outcome) → NoOverflow o → NoOverflow q → NoOverflow (union_of o q)
calm_union (done v) q h g = calm_joined (as_collection v) q g
calm_union (over vs) q h g = absurd h
calm_union stuck q h g = tt

abbrev NoOverflowAll : List Outcome → Type 0
NoOverflowAll [] = Unit {0}
NoOverflowAll (o ∷ os) = NoOverflow o × NoOverflowAll os

calm_args : (os : List Outcome) (go : List Value → Outcome) → NoOverflowAll os → ((vs : List Value) → NoOverflow (go vs)) → NoOverflow (args_then os go)
calm_args [] go h g = g []
calm_args (o ∷ os) go h g = calm_after o _ h.0 (λ v. calm_args os _ h.1 (λ vs. g (v ∷ vs)))

abbrev NoOverflowParts : List (Name × Outcome) → Type 0
NoOverflowParts [] = Unit {0}
NoOverflowParts (p ∷ ps) = NoOverflow p.1 × NoOverflowParts ps

calm_parts : (ps : List (Name × Outcome)) (go : List (Name × Value) → Outcome) → NoOverflowParts ps → ((fs : List (Name × Value)) → NoOverflow (go fs)) → NoOverflow (parts_then ps go)
calm_parts [] go h g = g []
calm_parts (p ∷ ps) go h g = calm_after p.1 _ h.0 (λ v. calm_parts ps _ h.1 (λ fs. g ((p.0, v) ∷ fs)))

calm_cond : (b : Bool) (o q : Outcome) → NoOverflow o → NoOverflow q → NoOverflow (cond b o q)
calm_cond true o q h g = h
calm_cond false o q h g = g

calm_answer : (a : Answer) → a ≢ overflows → NoOverflow (answered a)
calm_answer (gives v) n = tt
calm_answer overflows n = n refl
calm_answer senseless n = tt

known_or_none : (o : Option Primitive) → total_row o ≡ true → IsTotalRow o ⊎ (o ≡ None)
known_or_none (Some p) h = inl h
known_or_none None h = inr refl

calm_prim : (code : ℕ) (vs : List Value) → total_code code ≡ true → NoOverflow (answered (meaning code vs))
unfolding total_code meaning IsTotal
calm_prim code vs h = elim (known_or_none (row_at code) h) [
  | inl t ↦ calm_answer (meaning_of (row_at code) vs) (meaning_total code vs t)
  | inr e ↦ subst (λ o. NoOverflow (answered (meaning_of o vs))) (sym e) tt
]

module _ (T : Tables) where
  mutual
    pub total_calm : (t : Tree) (env : List Value) → total_in t ≡ true → NoOverflow (core T t env)
    total_calm (Var x) env h = calm_some (slice_get env x)
    total_calm (Const v) env h = tt
    total_calm (Source i) env h = calm_some (T i)
    total_calm (Rec ps) env h = calm_parts (core_parts T ps env) _ (total_calm_parts ps env h) (λ fs. tt)
    total_calm (Proj l a) env h = calm_after (core T a env) _ (total_calm a env h) (λ v. calm_field l (as_record v))
    total_calm (Inj l a) env h = calm_after (core T a env) _ (total_calm a env h) (λ v. tt)
    total_calm (Case a bs) env h =
        let b = both_true (total_in a) (total_arms bs) h in
        calm_after (core T a env) _ (total_calm a env b.0) (λ v. calm_opened (as_variant v) _ (λ l w. total_calm_arms bs l w env b.1))
    total_calm (Make k ts) env h = calm_collected k (core_items T ts env) (total_calm_items ts env h)
    total_calm (Union a b) env h = let c = both_true (total_in a) (total_in b) h in calm_union (core T a env) (core T b env) (total_calm a env c.0) (total_calm b env c.1)
    total_calm (Ext k b s) env h =
        let c = both_true (total_in b) (total_in s) h in
        calm_collected k (drawn (items_of (core T s env)) (λ v. items_of (core T b (v ∷ env)))) (calm_drawn (items_of (core T s env)) (λ v. items_of (core T b (v ∷ env))) (calm_items (core T s env) (total_calm s env c.1)) (λ v. calm_items (core T b (v ∷ env)) (total_calm b (v ∷ env) c.0)))
    total_calm (If a b c) env h =
        let d = both_true (total_in a) (total_in b && total_in c) h in
        let e = both_true (total_in b) (total_in c) d.1 in
        calm_after (core T a env) _ (total_calm a env d.0) (λ v. calm_chosen (as_bool v) _ _ (total_calm b env e.0) (total_calm c env e.1))
    total_calm (Let a b) env h = let c = both_true (total_in a) (total_in b) h in calm_after (core T a env) _ (total_calm a env c.0) (λ v. total_calm b (v ∷ env) c.1)
    total_calm (Prim c ts) env h =
        let d = both_true (total_code c) (total_trees ts) h in
        calm_args (core_all T ts env) _ (total_calm_all ts env d.1) (λ vs. calm_prim c vs d.0)

    total_calm_all : (ts : Trees) (env : List Value) → total_trees ts ≡ true → NoOverflowAll (core_all T ts env)
    total_calm_all no_trees env h = tt
    total_calm_all (trees t ts) env h = let c = both_true (total_in t) (total_trees ts) h in (total_calm t env c.0, total_calm_all ts env c.1)

    total_calm_items : (ts : Trees) (env : List Value) → total_trees ts ≡ true → NoOverflowIn (core_items T ts env)
    total_calm_items no_trees env h = tt
    total_calm_items (trees t ts) env h = let c = both_true (total_in t) (total_trees ts) h in calm_item (core T t env) (core_items T ts env) (total_calm t env c.0) (total_calm_items ts env c.1)

    total_calm_parts : (ps : Parts) (env : List Value) → total_parts ps ≡ true → NoOverflowParts (core_parts T ps env)
    total_calm_parts no_parts env h = tt
    total_calm_parts (parts l t ps) env h = let c = both_true (total_in t) (total_parts ps) h in (total_calm t env c.0, total_calm_parts ps env c.1)

    total_calm_arms : (bs : Arms) (l : Name) (v : Value) (env : List Value) → total_arms bs ≡ true → NoOverflow (core_arms T bs l v env)
    total_calm_arms no_arms l v env h = tt
    total_calm_arms (rest c) l v env h = total_calm c env h
    total_calm_arms (arm m b bs) l v env h = let c = both_true (total_in b) (total_arms bs) h in calm_cond (pointwise nat_eq l m) _ _ (total_calm b (v ∷ env) c.0) (total_calm_arms bs l v env c.1)

-- a value of the type
abbrev pub HasValue : Ground → Outcome → Type 0
HasValue t o = (v : Value) × (o ≡ done v) × Inhabits t v

valued : (t : Ground) (o : Outcome) → NoOverflow o → OfType t o → HasValue t o
valued t (done v) h g = (v, refl, g)
valued t (over vs) h g = absurd h
valued t stuck h g = absurd g

-- a total term that makes sense has a value
pub total_value : (S : SourceTypes) (T : Tables) (told : HaveSources S T) (G : List Ground) (env : List Value) (t : Tree) (s : Ground)
    → HaveTypes G env → CoreTypes S G t s → total_in t ≡ true → HasValue s (core T t env)
total_value S T told G env t s e h total = valued s (core T t env) (total_calm T t env total) (safe S T told t G env s e h)

-- moving keeps it
mutual
  pub total_shift : (t : Tree) (n m : ℕ) → total_in (shift_of t n m) ≡ total_in t
  total_shift (Var x) n m = refl
  total_shift (Const v) n m = refl
  total_shift (Source i) n m = refl
  total_shift (Rec ps) n m = total_shift_parts ps n m
  total_shift (Proj l a) n m = total_shift a n m
  total_shift (Inj l a) n m = total_shift a n m
  total_shift (Case a bs) n m = rw (total_shift a n m, total_shift_arms bs n m) refl
  total_shift (Make k ts) n m = total_shift_trees ts n m
  total_shift (Union a b) n m = rw (total_shift a n m, total_shift b n m) refl
  total_shift (Ext k b s) n m = rw (total_shift b _ m, total_shift s n m) refl
  total_shift (If a b c) n m = rw (total_shift a n m, total_shift b n m, total_shift c n m) refl
  total_shift (Let a b) n m = rw (total_shift a n m, total_shift b _ m) refl
  total_shift (Prim c ts) n m = rw (total_shift_trees ts n m) refl

  total_shift_trees : (ts : Trees) (n m : ℕ) → total_trees (shift_trees ts n m) ≡ total_trees ts
  total_shift_trees no_trees n m = refl
  total_shift_trees (trees t ts) n m = rw (total_shift t n m, total_shift_trees ts n m) refl

  total_shift_parts : (ps : Parts) (n m : ℕ) → total_parts (shift_parts ps n m) ≡ total_parts ps
  total_shift_parts no_parts n m = refl
  total_shift_parts (parts l t ps) n m = rw (total_shift t n m, total_shift_parts ps n m) refl

  total_shift_arms : (bs : Arms) (n m : ℕ) → total_arms (shift_arms bs n m) ≡ total_arms bs
  total_shift_arms no_arms n m = refl
  total_shift_arms (rest c) n m = total_shift c n m
  total_shift_arms (arm l b bs) n m = rw (total_shift b _ m, total_shift_arms bs n m) refl
