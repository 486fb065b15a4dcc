-- Lists of parts, which are lent, changed in place and put back.
use Rattle.std.proofs.Common.{◌≡◌, ◌≢◌, ℕ, suc, ◌+◌, ◌<◌, ◌≤◌, List, [], ◌∷◌, ◌++◌, length, take, drop, get_or, refl, sym, ap, subst, ◌∙◌}
use Rattle.std.proofs.Common.{arith}
use Rattle.std.proofs.Math.ListN.{set}
use Rattle.std.proofs.Math.Seq.{drop-cons}
use Rattle.std.proofs.lemmas.List.{append-nil, length-set, get_or-set_other, take_all, drop_all, take-append-drop, take_more, take_more_set}
use Rattle.kl_outcome.specs.Outcome.{Name}
use Rattle.kl_plan.specs.declared.plan.Plan.{Plan}
use Rattle.kl_plan.specs.Nodes.{Node, no_nodes, nodes, no_fields, fields, view, nodes_view, fields_view}
use Rattle.kl_joins.specs.declared.numbering.Numbers.{Numbers}
use Rattle.kl_joins.specs.Numbered.{SamePlan, SameNodes, SameFields}
use Rattle.kl_joins.specs.Numbering.{Marks, in_plan, in_nodes, in_fields, both, HasRoom, NumbersFrom, PlanNumbered, EachNumbered}
use Rattle.kl_joins.specs.Numbering.{FieldsNumbered}
use Rattle.kl_joins.proofs.Counters.{none, both_none, both_assoc, room_as, room_first, room_next, counted_as, counted_both}

-- a list of which nothing was changed from an index on
abbrev pub Unvisited : {A : Type 0} → List A → List A → ℕ → Type 0
Unvisited {A} xs ys i = (length ys ≡ length xs) × ((k : ℕ) (d : A) → i ≤ k → get_or ys k d ≡ get_or xs k d)

pub unvisited_more : {A : Type 0} (xs ys : List A) (i : ℕ) (y : A) → Unvisited xs ys i → Unvisited xs (set ys i y) (i + 1)
unvisited_more xs ys i y h = (
  length-set ys i y ∙ h.0,
  λ k d le.
      let ne : k ≢ i = omega arith in
      let at : i ≤ k = omega arith in
      get_or-set_other ys i k y d ne ∙ h.1 k d at,
)

pub put_back : {A : Type 0} (all xs ys : List A) → xs ≡ all → length ys ≡ length xs → take (length all) (ys ++ drop (length ys) all) ≡ ys
put_back all xs ys e long =
    let same : length ys ≡ length all = long ∙ ap length e in
    let gone : drop (length ys) all ≡ [] = ap (λ n. drop n all) same ∙ drop_all (length all) all (omega arith) in
    rw (gone, append-nil) (take_all (length all) ys (omega (arith, same)))

module _ {A T : Type 0} (part : A → Node) (label : A → Name) (seen : List A → T) (Same : T → T → Type 0) (marks : T → Marks)
    (none_is : marks (seen []) ≡ none) (cons_is : (x : A) (xs : List A) → marks (seen (x ∷ xs)) ≡ both (in_plan (part x)) (marks (seen xs)))
    (same_more : (xs ys : List A) (x y : A) → Same (seen xs) (seen ys) → SamePlan (part x) (part y) → label x ≡ label y
    → Same (seen (xs ++ x ∷ [])) (seen (ys ++ y ∷ []))) where
  marks_append : (xs ys : List A) → marks (seen (xs ++ ys)) ≡ both (marks (seen xs)) (marks (seen ys))
  marks_append [] ys = ap (λ m. both m (marks (seen ys))) (sym none_is)
  marks_append (x ∷ xs) ys =
      cons_is x (xs ++ ys) ∙ ap (both (in_plan (part x))) (marks_append xs ys)
      ∙ sym (both_assoc (in_plan (part x)) (marks (seen xs)) (marks (seen ys)))
      ∙ ap (λ m. both m (marks (seen ys))) (sym (cons_is x xs))

  marks_more : (xs : List A) (x : A) → marks (seen (xs ++ x ∷ [])) ≡ both (marks (seen xs)) (in_plan (part x))
  marks_more xs x =
      let one : marks (seen (x ∷ [])) ≡ in_plan (part x) =
      cons_is x [] ∙ ap (both (in_plan (part x))) none_is ∙ both_none (in_plan (part x)) in
      marks_append xs (x ∷ []) ∙ ap (both (marks (seen xs))) one

  marks_at : (xs : List A) (i : ℕ) (d : A) → i < length xs
      → marks (seen xs) ≡ both (marks (seen (take i xs))) (both (in_plan (part (get_or xs i d))) (marks (seen (drop (suc i) xs))))
  marks_at xs i d lt =
      ap (λ ys. marks (seen ys)) (sym (take-append-drop i xs) ∙ ap (λ ys. take i xs ++ ys) (drop-cons xs i d lt))
      ∙ marks_append (take i xs) (get_or xs i d ∷ drop (suc i) xs)
      ∙ ap (both (marks (seen (take i xs)))) (cons_is (get_or xs i d) (drop (suc i) xs))

  -- before the element at an index
  pub item_room : (w v : Numbers) (all xs ys : List A) (i : ℕ) (d : A) → xs ≡ all → i < length xs → Unvisited xs ys i
      → HasRoom w (marks (seen all)) → NumbersFrom Same marks w v (seen (take i xs)) (seen (take i ys))
      → HasRoom v (in_plan (part (get_or ys i d)))
  item_room w v all xs ys i d e lt un room h =
      let le : i ≤ i = omega arith in
      let now : Marks = in_plan (part (get_or xs i d)) in
      let later : Marks = marks (seen (drop (suc i) xs)) in
      let start : HasRoom w (both (marks (seen (take i xs))) (both now later)) =
      room_as w (marks (seen all)) _ (ap (λ zs. marks (seen zs)) (sym e) ∙ marks_at xs i d lt) room in
      subst (λ (x : A). HasRoom v (in_plan (part x))) (sym (un.1 i d le))
      (room_first v now later (room_next w v (marks (seen (take i xs))) (both now later) (marks (seen (take i ys))) start h.counted))

  -- one element more
  pub item_numbered : (w v u : Numbers) (xs ys : List A) (i : ℕ) (d y : A) → i < length xs → Unvisited xs ys i
      → NumbersFrom Same marks w v (seen (take i xs)) (seen (take i ys))
      → PlanNumbered v u (part (get_or ys i d)) (part y) → label (get_or ys i d) ≡ label y
      → NumbersFrom Same marks w u (seen (take (i + 1) xs)) (seen (take (i + 1) (set ys i y)))
  item_numbered w v u xs ys i d y lt un h k like =
      let le : i ≤ i = omega arith in
      let x : A = get_or ys i d in
      let within : i < length ys = omega (arith, lt, un.0) in
      let before : take (i + 1) xs ≡ take i xs ++ x ∷ [] = take_more xs i d lt ∙ ap (λ z. take i xs ++ z ∷ []) (sym (un.1 i d le)) in
      let after : take (i + 1) (set ys i y) ≡ take i ys ++ y ∷ [] = take_more_set ys i y within in
      let more : NumbersFrom Same marks w u (seen (take i xs ++ x ∷ [])) (seen (take i ys ++ y ∷ [])) = record {
        same = same_more (take i xs) (take i ys) x y h.same k.same like;
        counted =
            counted_as w u _ _ _ _ (marks_more (take i xs) x) (marks_more (take i ys) y) (counted_both w v u _ _ _ _ h.counted k.counted);
      } in
      subst (λ (zs : List A). NumbersFrom Same marks w u (seen (take (i + 1) xs)) (seen zs)) (sym after)
      (subst (λ (zs : List A). NumbersFrom Same marks w u (seen zs) (seen (take i ys ++ y ∷ []))) (sym before) more)

  -- all elements
  pub list_numbered : (w v : Numbers) (all xs ys : List A) (i : ℕ) → xs ≡ all → length xs ≤ i → length ys ≡ length xs
      → NumbersFrom Same marks w v (seen (take i xs)) (seen (take i ys))
      → NumbersFrom Same marks w v (seen all) (seen (take (length all) (ys ++ drop (length ys) all)))
  list_numbered w v all xs ys i e le long h =
      let less : length ys ≤ i = omega arith in
      subst (λ (zs : List A). NumbersFrom Same marks w v (seen all) (seen zs)) (take_all i ys less ∙ sym (put_back all xs ys e long))
      (subst (λ (zs : List A). NumbersFrom Same marks w v (seen zs) (seen (take i ys))) (take_all i xs le ∙ e) h)

-- ---- plans

same_nodes_more : (xs ys : List Plan) (x y : Plan) → SameNodes (nodes_view xs) (nodes_view ys) → SamePlan (view x) (view y)
    → SameNodes (nodes_view (xs ++ x ∷ [])) (nodes_view (ys ++ y ∷ []))
same_nodes_more [] [] x y h s = (view x, no_nodes, refl, s, refl)
same_nodes_more [] (z ∷ ys) x y h s = let e : no_nodes ≡ nodes h.0 h.1 = h.2 in absurd cc
same_nodes_more (z ∷ xs) [] x y h s = let e : nodes (view z) (nodes_view xs) ≡ no_nodes = h in absurd cc
same_nodes_more (z ∷ xs) (v ∷ ys) x y h s =
    let e : nodes (view z) (nodes_view xs) ≡ nodes h.0 h.1 = h.2 in
    let first : h.0 ≡ view z = cc in
    let others : h.1 ≡ nodes_view xs = cc in (
      view z,
      nodes_view (xs ++ x ∷ []),
      refl,
      subst (λ p. SamePlan p (view v)) first h.3,
      same_nodes_more xs ys x y
          (subst (λ ps. SameNodes ps (nodes_view ys)) others h.4) s,
    )

abbrev no_label : Plan → Name
no_label p = []

module _ (w v : Numbers) where
  pub plans_room : (all xs ys : List Plan) (i : ℕ) (d : Plan) → xs ≡ all → i < length xs → Unvisited xs ys i
      → HasRoom w (in_nodes (nodes_view all)) → EachNumbered w v (nodes_view (take i xs)) (nodes_view (take i ys))
      → HasRoom v (in_plan (view (get_or ys i d)))
  plans_room =
      item_room view no_label nodes_view SameNodes in_nodes refl (λ x xs. refl) (λ xs ys x y h s e. same_nodes_more xs ys x y h s) w v

  pub plans_more : (u : Numbers) (xs ys : List Plan) (i : ℕ) (d y : Plan) → i < length xs → Unvisited xs ys i
      → EachNumbered w v (nodes_view (take i xs)) (nodes_view (take i ys)) → PlanNumbered v u (view (get_or ys i d)) (view y)
      → EachNumbered w u (nodes_view (take (i + 1) xs)) (nodes_view (take (i + 1) (set ys i y)))
  plans_more u xs ys i d y lt un h k =
      item_numbered view no_label nodes_view SameNodes in_nodes refl (λ x zs. refl) (λ zs us x z g s e. same_nodes_more zs us x z g s) w v u
      xs ys i d y lt un h k refl

  pub plans_numbered : (all xs ys : List Plan) (i : ℕ) → xs ≡ all → length xs ≤ i → length ys ≡ length xs
      → EachNumbered w v (nodes_view (take i xs)) (nodes_view (take i ys))
      → EachNumbered w v (nodes_view all) (nodes_view (take (length all) (ys ++ drop (length ys) all)))
  plans_numbered =
      list_numbered view no_label nodes_view SameNodes in_nodes refl (λ x xs. refl) (λ xs ys x y h s e. same_nodes_more xs ys x y h s) w v

-- ---- plans with labels

same_fields_more : (xs ys : List (Name × Plan)) (x y : Name × Plan) → SameFields (fields_view xs) (fields_view ys)
    → SamePlan (view x.1) (view y.1) → x.0 ≡ y.0 → SameFields (fields_view (xs ++ x ∷ [])) (fields_view (ys ++ y ∷ []))
same_fields_more [] [] x y h s l = (view x.1, no_fields, ap (λ m. fields m (view x.1) no_fields) l, s, refl)
same_fields_more [] (z ∷ ys) x y h s l = let e : no_fields ≡ fields z.0 h.0 h.1 = h.2 in absurd cc
same_fields_more (z ∷ xs) [] x y h s l = let e : fields z.0 (view z.1) (fields_view xs) ≡ no_fields = h in absurd cc
same_fields_more (z ∷ xs) (v ∷ ys) x y h s l =
    let e : fields z.0 (view z.1) (fields_view xs) ≡ fields v.0 h.0 h.1 = h.2 in
    let name : z.0 ≡ v.0 = cc in
    let first : h.0 ≡ view z.1 = cc in
    let others : h.1 ≡ fields_view xs = cc in (
      view z.1,
      fields_view (xs ++ x ∷ []),
      ap (λ m. fields m (view z.1) (fields_view (xs ++ x ∷ []))) name,
      subst (λ p. SamePlan p (view v.1)) first h.3,
      same_fields_more xs ys x y (subst (λ ps. SameFields ps (fields_view ys)) others h.4) s l,
    )

abbrev part_of : Name × Plan → Node
part_of p = view p.1

abbrev label_of : Name × Plan → Name
label_of p = p.0

module _ (w v : Numbers) where
  pub parts_room : (all xs ys : List (Name × Plan)) (i : ℕ) (d : Name × Plan) → xs ≡ all → i < length xs → Unvisited xs ys i
      → HasRoom w (in_fields (fields_view all)) → FieldsNumbered w v (fields_view (take i xs)) (fields_view (take i ys))
      → HasRoom v (in_plan (view (get_or ys i d).1))
  parts_room = item_room part_of label_of fields_view SameFields in_fields refl (λ x xs. refl) same_fields_more w v

  pub parts_more : (u : Numbers) (xs ys : List (Name × Plan)) (i : ℕ) (d : Name × Plan) (y : Plan) → i < length xs → Unvisited xs ys i
      → FieldsNumbered w v (fields_view (take i xs)) (fields_view (take i ys))
      → PlanNumbered v u (view (get_or ys i d).1) (view y)
      → FieldsNumbered w u (fields_view (take (i + 1) xs)) (fields_view (take (i + 1) (set ys i ((get_or ys i d).0, y))))
  parts_more u xs ys i d y lt un h k =
      item_numbered part_of label_of fields_view SameFields in_fields refl (λ x zs. refl) same_fields_more w v u xs ys i d
      ((get_or ys i d).0, y) lt un h k refl

  pub parts_numbered : (all xs ys : List (Name × Plan)) (i : ℕ) → xs ≡ all → length xs ≤ i → length ys ≡ length xs
      → FieldsNumbered w v (fields_view (take i xs)) (fields_view (take i ys))
      → FieldsNumbered w v (fields_view all) (fields_view (take (length all) (ys ++ drop (length ys) all)))
  parts_numbered = list_numbered part_of label_of fields_view SameFields in_fields refl (λ x xs. refl) same_fields_more w v
