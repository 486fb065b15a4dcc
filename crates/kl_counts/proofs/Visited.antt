-- What a plan visits stands in it.
use Rattle.std.proofs.Common.{ℕ, suc, Bool, true, false, List, [], ◌∷◌, ◌++◌, Option, Some, None, cond, nat_eq}
use Rattle.std.specs.Cmp.Lexicographic.{pointwise}
use Rattle.std.specs.List.{AllByRecursion}
use Rattle.kl_value.specs.Views.{as_bool, field_at}
use Rattle.kl_value.specs.declared.Kind.{Kind}
use Rattle.kl_value.specs.declared.Value.{Value}
use Rattle.kl_outcome.specs.Outcome.{Name, Outcome, done, over, stuck, Flow, more, stop, as_variant}
use Rattle.kl_ask.specs.declared.settings.JoinHow.{JoinHow}
use Rattle.kl_plan.specs.declared.plan.Scan.{Scan}
use Rattle.kl_plan.specs.Nodes as node
use Rattle.kl_plan.specs.Nodes.{Node, Nodes, no_nodes, nodes, Fields, no_fields, fields, Branches, no_branches, rest, branch, Key as JoinKey, no_key, key}
use Rattle.kl_plan.specs.Meaning.{Readings, worth, drawn_for, scanned, same_key, plan}
use Rattle.kl_counts.specs.Places.{Places, PlacesNodes, PlacesFields, PlacesBranches, PlacesKey}
use Rattle.kl_plan.specs.Reached.{passing}
use Rattle.kl_counts.specs.Visits.{Visit, reads, joins, asks, at_value, chosen, opened, each, visits, visits_nodes, visits_fields, visits_branch, visits_conds, visits_key}

module _ (R : Readings) (S : Scan → Type 0) (J : ℕ → JoinHow → Scan → Type 0) (M : ℕ → ℕ → List ℕ → Node → Type 0) where
  abbrev pub Stood : Visit → Type 0
  Stood (reads c env) = S c
  Stood (joins n way i outer) = J n way i
  Stood (asks k) = Unit {0}

  abbrev All : List Visit → Type 0
  All vs = AllByRecursion Stood vs

  both : (xs ys : List Visit) → All xs → All ys → All (xs ++ ys)
  both [] ys h g = g
  both (x ∷ xs) ys h g = (h.0, both xs ys h.1 g)

  each_all : (go : Value → List Visit) (f : Flow) → ((v : Value) → All (go v)) → All (each go f)
  each_all go (more v f) h = both (go v) (each go f) (h v) (each_all go f h)
  each_all go (stop e) h = tt

  value_all : (o : Outcome) (go : Value → List Visit) → ((v : Value) → All (go v)) → All (at_value o go)
  value_all (done v) go h = h v
  value_all (over vs) go h = tt
  value_all stuck go h = tt

  chosen_all : (b : Option Bool) (xs ys : List Visit) → All xs → All ys → All (chosen b xs ys)
  chosen_all (Some true) xs ys p q = p
  chosen_all (Some false) xs ys p q = q
  chosen_all None xs ys p q = tt

  opened_all : (o : Option (Name × Value)) (go : Name → Value → List Visit) → ((l : Name) (v : Value) → All (go l v)) → All (opened o go)
  opened_all (Some c) go h = h c.0 c.1
  opened_all None go h = tt

  cond_all : (b : Bool) (xs ys : List Visit) → All xs → All ys → All (cond b xs ys)
  cond_all true xs ys p q = p
  cond_all false xs ys p q = q

  -- what a join visits at an outer row, and where it passes under a test of inner rows
  abbrev inner_rows : Kind → Scan → Node → Value → List Value → (Value → Option Bool) → List Visit
  inner_rows k i b x env test = each (λ y. chosen (test y) (visits R b (y ∷ x ∷ env)) []) (drawn_for k (scanned i.kind (R i)))

  abbrev outer_row : Kind → Nodes → Scan → JoinKey → Node → List Value → Value → List Visit
  outer_row k cs i q b env x = visits_conds R cs (x ∷ env) (visits_key R q (x ∷ env) (inner_rows k i b x env))

  -- M is what is known at memos: there it is asked of the part
  module _ (part : (d n : ℕ) (frees : List ℕ) (p : Node) → M d n frees p → (env : List Value) → All (visits R p env)) where
    mutual
      pub visited : (d : ℕ) (p : Node) (env : List Value) → Places S J M d p → All (visits R p env)
      visited d (node.Plain t) env h = tt
      visited d (node.Var x) env h = tt
      visited d (node.Rec ps) env h = visited_fields d ps env h
      visited d (node.Proj l a) env h = visited d a env h
      visited d (node.Inj l a) env h = visited d a env h
      visited d (node.Case a bs) env h =
          let go : Value → List Visit = λ v. opened (as_variant v) (λ l w. visits_branch R bs l w env) in
          both (visits R a env) (at_value (worth (plan R a env)) go) (visited d a env h.0)
          (value_all (worth (plan R a env)) go (λ v. opened_all (as_variant v) (λ l w. visits_branch R bs l w env) (λ l w. visited_branch d bs l w env h.1)))
      visited d (node.Make k ps) env h = visited_nodes d ps env h
      visited d (node.Union a b) env h = both (visits R a env) (visits R b env) (visited d a env h.0) (visited d b env h.1)
      visited d (node.Ext k b s) env h =
          both (visits R s env) (each (λ v. visits R b (v ∷ env)) (drawn_for k (plan R s env))) (visited d s env h.1)
          (each_all (λ v. visits R b (v ∷ env)) (drawn_for k (plan R s env)) (λ v. visited (suc d) b (v ∷ env) h.0))
      visited d (node.If a b c) env h =
          let go : Value → List Visit = λ v. chosen (as_bool v) (visits R b env) (visits R c env) in
          both (visits R a env) (at_value (worth (plan R a env)) go) (visited d a env h.0)
          (value_all (worth (plan R a env)) go (λ v. chosen_all (as_bool v) (visits R b env) (visits R c env) (visited d b env h.1) (visited d c env h.2)))
      visited d (node.Let a b) env h =
          let go : Value → List Visit = λ v. visits R b (v ∷ env) in
          both (visits R a env) (at_value (worth (plan R a env)) go) (visited d a env h.0) (value_all (worth (plan R a env)) go (λ v. visited (suc d) b (v ∷ env) h.1))
      visited d (node.Prim c ps) env h = visited_nodes d ps env h
      visited d (node.Scan c) env h = (h, tt)
      visited d (node.Join n k way o cs i q b) env h =
          both (visits R o env) (each (outer_row k cs i q b env) (drawn_for k (plan R o env)) ++ joins n way i (passing R k o cs env) ∷ []) (visited d o env h.0)
          (both (each (outer_row k cs i q b env) (drawn_for k (plan R o env))) (joins n way i (passing R k o cs env) ∷ [])
          (each_all (outer_row k cs i q b env) (drawn_for k (plan R o env))
          (λ x. visited_conds (suc d) cs (x ∷ env) (visits_key R q (x ∷ env) (inner_rows k i b x env)) h.1 (visited_key (suc d) q (x ∷ env) (inner_rows k i b x env) h.2
          (λ test. each_all (λ y. chosen (test y) (visits R b (y ∷ x ∷ env)) []) (drawn_for k (scanned i.kind (R i)))
          (λ y. chosen_all (test y) (visits R b (y ∷ x ∷ env)) [] (visited (suc (suc d)) b (y ∷ x ∷ env) h.4) tt)))))
          (h.3, tt))
      visited d (node.Memo n frees p) env h = (tt, part d n frees p h env)

      visited_nodes : (d : ℕ) (ps : Nodes) (env : List Value) → PlacesNodes S J M d ps → All (visits_nodes R ps env)
      visited_nodes d no_nodes env h = tt
      visited_nodes d (nodes p ps) env h = both (visits R p env) (visits_nodes R ps env) (visited d p env h.0) (visited_nodes d ps env h.1)

      visited_fields : (d : ℕ) (ps : Fields) (env : List Value) → PlacesFields S J M d ps → All (visits_fields R ps env)
      visited_fields d no_fields env h = tt
      visited_fields d (fields l p ps) env h = both (visits R p env) (visits_fields R ps env) (visited d p env h.0) (visited_fields d ps env h.1)

      visited_branch : (d : ℕ) (bs : Branches) (l : Name) (v : Value) (env : List Value) → PlacesBranches S J M d bs → All (visits_branch R bs l v env)
      visited_branch d no_branches l v env h = tt
      visited_branch d (rest c) l v env h = visited d c env h
      visited_branch d (branch m b bs) l v env h = cond_all (pointwise nat_eq l m) (visits R b (v ∷ env)) (visits_branch R bs l v env) (visited (suc d) b (v ∷ env) h.0) (visited_branch d bs l v env h.1)

      visited_conds : (d : ℕ) (cs : Nodes) (env : List Value) (xs : List Visit) → PlacesNodes S J M d cs → All xs → All (visits_conds R cs env xs)
      visited_conds d no_nodes env xs h g = g
      visited_conds d (nodes c cs) env xs h g =
          let go : Value → List Visit = λ v. chosen (as_bool v) (visits_conds R cs env xs) [] in
          both (visits R c env) (at_value (worth (plan R c env)) go) (visited d c env h.0)
          (value_all (worth (plan R c env)) go (λ v. chosen_all (as_bool v) (visits_conds R cs env xs) [] (visited_conds d cs env xs h.1 g) tt))

      visited_key : (d : ℕ) (q : JoinKey) (env : List Value) (go : (Value → Option Bool) → List Visit) → PlacesKey S J M d q → ((test : Value → Option Bool) → All (go test)) → All (visits_key R q env go)
      visited_key d no_key env go h g = g (λ y. Some true)
      visited_key d (key l p) env go h g =
          let to : Value → List Visit = λ v. go (λ y. same_key v (field_at l y)) in
          both (visits R p env) (at_value (worth (plan R p env)) to) (visited d p env h) (value_all (worth (plan R p env)) to (λ v. g (λ y. same_key v (field_at l y))))
