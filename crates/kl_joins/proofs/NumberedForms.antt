-- The numbers in a plan, by its form.
use Rattle.std.proofs.Common.{◌≡◌, inl, inr, ℕ, ◌+◌, ◌<◌, ◌^◌, List, [], ◌∷◌, map, Option, Some, None, refl, sym, ap, subst, ◌∙◌, rules}
use Rattle.std.proofs.Common.{arith}
use Rattle.kl_value.specs.declared.Kind.{Kind}
use Rattle.kl_outcome.specs.Outcome.{Name}
use Rattle.kl_core.specs.declared.term.Term.{Term}
use Rattle.kl_core.specs.Trees.{view as term_view}
use Rattle.kl_plan.specs.declared.plan.Join.{Join, out-Join}
use Rattle.kl_plan.specs.declared.plan.JoinKey.{JoinKey, out-JoinKey, roll-JoinKey}
use Rattle.kl_plan.specs.declared.plan.Plan.{Plan, out-Plan, roll-Plan, the_lemmas}
use Rattle.kl_plan.specs.declared.plan.Plan.TheOpen.{Plan-F}
use Rattle.kl_plan.specs.declared.plan.Plan.TheVariants as plan
use Rattle.kl_plan.specs.declared.plan.Scan.{Scan}
use Rattle.kl_plan.specs.Joins.{join_view, keys_view, other_node}
use Rattle.kl_plan.specs.Nodes as node
use Rattle.kl_plan.specs.Nodes.{Node, Fields, no_fields, fields, Branches, branch, branches_of, Key, key, view, view_branch}
use Rattle.kl_plan.specs.Nodes.{nodes_view, fields_view}
use Rattle.kl_plan.proofs.Views.{view_Var, view_Case, view_If, view_Scan, view_Join}
use Rattle.kl_joins.specs.declared.numbering.Numbers.{Numbers}
use Rattle.kl_joins.specs.Numbered.{SameScan, SamePlan, SameNodes, SameFields, SameBranches}
use Rattle.kl_joins.specs.Numbering.{Marks, in_plan, in_nodes, in_fields, in_branches, in_key, both, HasSeveral, HasChoice, HasRoom}
use Rattle.kl_joins.specs.Numbering.{Counted}
use Rattle.kl_joins.specs.Numbering.{NumbersFrom}
use Rattle.kl_joins.specs.Numbering.{PlanNumbered, EachNumbered, FieldsNumbered, BranchesNumbered, KeyNumbered}
use Rattle.kl_joins.proofs.Counters.{none, one_scan, one_join, one_memo, both_assoc, room_as, room_first, room_next, counted_as}
use Rattle.kl_joins.proofs.Counters.{counted_none, counted_both, counted_scan, counted_join, counted_memo}
use Rattle.kl_joins.proofs.Views.{view_Plain}

-- what the code has for a part
pub seen_as : (w v : Numbers) (a b c d : Node) → a ≡ c → b ≡ d → PlanNumbered w v c d → PlanNumbered w v a b
seen_as w v a b c d e f h = subst (λ (x : Node). PlanNumbered w v x b) (sym e) (subst (λ (x : Node). PlanNumbered w v c x) (sym f) h)

-- ---- no part

nothing : (w : Numbers) (a : Node) → SamePlan a a → in_plan a ≡ none → PlanNumbered w w a a
nothing w a s e = record { same = s; counted = counted_as w w _ _ (in_plan a) (in_plan a) e e (counted_none w) }

pub plain_numbered : (w : Numbers) (p : Plan) (t : Term) → p ≡ plan.Plain t → PlanNumbered w w (view p) (view p)
plain_numbered w p t is =
    let e : view p ≡ node.Plain (term_view t) = ap view is ∙ view_Plain t in
    seen_as w w (view p) (view p) (node.Plain (term_view t)) (node.Plain (term_view t)) e e (nothing w (node.Plain (term_view t)) refl refl)

pub var_numbered : (w : Numbers) (p : Plan) (x : ℕ) → p ≡ plan.Var x → PlanNumbered w w (view p) (view p)
var_numbered w p x is =
    let e : view p ≡ node.Var x = ap view is ∙ view_Var x in
    seen_as w w (view p) (view p) (node.Var x) (node.Var x) e e (nothing w (node.Var x) refl refl)

-- ---- several parts

rolled : (p : Plan) → p ≡ roll-Plan (out-Plan p)
rolled p = search (rules, the_lemmas)

-- a plan of none of the other forms
pub has_several : (p : Plan) → ((t : Term) → p ≡ plan.Plain t → ⊥) → ((x : ℕ) → p ≡ plan.Var x → ⊥)
    → ((fs : List (Name × Plan)) → p ≡ plan.Rec fs → ⊥) → ((l : Name) (a : Plan) → p ≡ plan.Proj l a → ⊥)
    → ((l : Name) (a : Plan) → p ≡ plan.Inj l a → ⊥) → ((k : Kind) (ps : List Plan) → p ≡ plan.Make k ps → ⊥)
    → ((c : ℕ) (ps : List Plan) → p ≡ plan.Prim c ps → ⊥) → ((c : Scan) → p ≡ plan.Scan c → ⊥) → ((j : Join) → p ≡ plan.Join j → ⊥)
    → ((n : ℕ) (frees : List ℕ) (a : Plan) → p ≡ plan.Memo n frees a → ⊥) → HasSeveral p
has_several p plain var row proj inj make prim scan join memo = by (out-Plan p) (rolled p)
  where
    by : (o : Plan-F Plan Join JoinKey) → p ≡ roll-Plan o → HasSeveral p
    by (Plan-F.Plain t) e = absurd (plain t (e ∙ search (rules, the_lemmas)))
    by (Plan-F.Var x) e = absurd (var x (e ∙ search (rules, the_lemmas)))
    by (Plan-F.Rec fs) e = absurd (row fs (e ∙ search (rules, the_lemmas)))
    by (Plan-F.Proj l a) e = absurd (proj l a (e ∙ search (rules, the_lemmas)))
    by (Plan-F.Inj l a) e = absurd (inj l a (e ∙ search (rules, the_lemmas)))
    by (Plan-F.Case a bs o) e = inl (a, bs, o, e ∙ search (rules, the_lemmas))
    by (Plan-F.Make k ps) e = absurd (make k ps (e ∙ search (rules, the_lemmas)))
    by (Plan-F.Union a b) e = inr (inl (a, b, e ∙ search (rules, the_lemmas)))
    by (Plan-F.Ext k b s) e = inr (inr (inl (k, b, s, e ∙ search (rules, the_lemmas))))
    by (Plan-F.If a b c) e = inr (inr (inr (inl (a, b, c, e ∙ search (rules, the_lemmas)))))
    by (Plan-F.Let a b) e = inr (inr (inr (inr (a, b, e ∙ search (rules, the_lemmas)))))
    by (Plan-F.Prim c ps) e = absurd (prim c ps (e ∙ search (rules, the_lemmas)))
    by (Plan-F.Scan c) e = absurd (scan c (e ∙ search (rules, the_lemmas)))
    by (Plan-F.Join j) e = absurd (join j (e ∙ search (rules, the_lemmas)))
    by (Plan-F.Memo n frees a) e = absurd (memo n frees a (e ∙ search (rules, the_lemmas)))

pub has_choice : (p : Plan) → ((a b : Plan) → p ≡ plan.Union a b → ⊥) → ((k : Kind) (b s : Plan) → p ≡ plan.Ext k b s → ⊥)
    → ((a b : Plan) → p ≡ plan.Let a b → ⊥) → HasSeveral p → HasChoice p
has_choice p u e l (inl h) = inl h
has_choice p u e l (inr (inl h)) = absurd (u h.0 h.1 h.2)
has_choice p u e l (inr (inr (inl h))) = absurd (e h.0 h.1 h.2 h.3)
has_choice p u e l (inr (inr (inr (inl h)))) = inr h
has_choice p u e l (inr (inr (inr (inr h)))) = absurd (l h.0 h.1 h.2)

pub not_choice : (p : Plan) → ((a : Plan) (bs : List (Name × Plan)) (o : Option Plan) → p ≡ plan.Case a bs o → ⊥)
    → ((a b c : Plan) → p ≡ plan.If a b c → ⊥) → HasChoice p → ⊥
not_choice p c i (inl h) = c h.0 h.1 h.2 h.3
not_choice p c i (inr h) = i h.0 h.1 h.2 h.3

-- ---- one part

pub record OnePart {T : Type 0} (Same : T → T → Type 0) (marks : T → Marks) (form : T → Node) : Type 0 where
  pub marks_are : (a : T) → in_plan (form a) ≡ marks a
  pub same : (a b : T) → Same a b → SamePlan (form a) (form b)

pub one_Proj : (l : Name) → OnePart SamePlan in_plan (node.Proj l)
one_Proj l = record { marks_are = λ a. refl; same = λ a b h. (a, refl, h) }

pub one_Inj : (l : Name) → OnePart SamePlan in_plan (node.Inj l)
one_Inj l = record { marks_are = λ a. refl; same = λ a b h. (a, refl, h) }

pub one_Rec : OnePart SameFields in_fields node.Rec
one_Rec = record { marks_are = λ a. refl; same = λ a b h. (a, refl, h) }

pub one_Make : (k : Kind) → OnePart SameNodes in_nodes (node.Make k)
one_Make k = record { marks_are = λ a. refl; same = λ a b h. (a, refl, h) }

pub one_Prim : (c : ℕ) → OnePart SameNodes in_nodes (node.Prim c)
one_Prim c = record { marks_are = λ a. refl; same = λ a b h. (a, refl, h) }

module _ {A T : Type 0} (seen : A → T) (Same : T → T → Type 0) (marks : T → Marks) (form : T → Node) (one : OnePart Same marks form)
    (w : Numbers) (p : Plan) (a x : A) (e : view p ≡ form (seen a)) (g : x ≡ a) where
  one_seen : view p ≡ form (seen x)
  one_seen = e ∙ ap (λ (y : A). form (seen y)) (sym g)

  pub one_room : HasRoom w (in_plan (view p)) → HasRoom w (marks (seen x))
  one_room room = room_as w (in_plan (view p)) (marks (seen x)) (ap in_plan one_seen ∙ one.marks_are (seen x)) room

  pub one_numbered : (v : Numbers) (r : Plan) (b : A) → view r ≡ form (seen b) → NumbersFrom Same marks w v (seen x) (seen b)
      → PlanNumbered w v (view p) (view r)
  one_numbered v r b f h = seen_as w v (view p) (view r) (form (seen x)) (form (seen b)) one_seen f (record {
    same = one.same (seen x) (seen b) h.same;
    counted = counted_as w v _ _ _ _ (one.marks_are (seen x)) (one.marks_are (seen b)) h.counted;
  })

-- ---- two parts

pub record TwoParts (form : Node → Node → Node) : Type 0 where
  pub marks_are : (a b : Node) → in_plan (form a b) ≡ both (in_plan a) (in_plan b)
  pub same : (a b c d : Node) → SamePlan a c → SamePlan b d → SamePlan (form a b) (form c d)

pub two_Union : TwoParts node.Union
two_Union = record { marks_are = λ a b. refl; same = λ a b c d h k. (a, b, refl, h, k) }

pub two_Let : TwoParts node.Let
two_Let = record { marks_are = λ a b. refl; same = λ a b c d h k. (a, b, refl, h, k) }

-- the source of a loop comes first
abbrev pub ext_of : Kind → Node → Node → Node
ext_of k s b = node.Ext k b s

pub two_Ext : (k : Kind) → TwoParts (ext_of k)
two_Ext k = record { marks_are = λ a b. refl; same = λ a b c d h g. (b, a, refl, g, h) }

module _ (form : Node → Node → Node) (two : TwoParts form) (w : Numbers) (p a b x y : Plan) (e : view p ≡ form (view a) (view b))
    (g : x ≡ a) (h : y ≡ b) where
  two_seen : view p ≡ form (view x) (view y)
  two_seen = e ∙ (λ i. form (view (sym g i)) (view (sym h i)))

  two_marks : in_plan (view p) ≡ both (in_plan (view x)) (in_plan (view y))
  two_marks = ap in_plan two_seen ∙ two.marks_are (view x) (view y)

  pub two_room : HasRoom w (in_plan (view p)) → HasRoom w (in_plan (view x))
  two_room room = room_first w (in_plan (view x)) (in_plan (view y)) (room_as w (in_plan (view p)) _ two_marks room)

  pub two_next : (v : Numbers) (c : Plan) → HasRoom w (in_plan (view p)) → PlanNumbered w v (view x) (view c) → HasRoom v (in_plan (view y))
  two_next v c room k =
      room_next w v (in_plan (view x)) (in_plan (view y)) (in_plan (view c)) (room_as w (in_plan (view p)) _ two_marks room) k.counted

  pub two_numbered : (v u : Numbers) (r c d : Plan) → view r ≡ form (view c) (view d) → PlanNumbered w v (view x) (view c)
      → PlanNumbered v u (view y) (view d) → PlanNumbered w u (view p) (view r)
  two_numbered v u r c d f k l = seen_as w u (view p) (view r) (form (view x) (view y)) (form (view c) (view d)) two_seen f (record {
    same = two.same (view x) (view y) (view c) (view d) k.same l.same;
    counted =
        counted_as w u _ _ _ _ (two.marks_are (view x) (view y)) (two.marks_are (view c) (view d))
        (counted_both w v u _ _ _ _ k.counted l.counted);
  })

-- ---- a choice

module _ (w : Numbers) (p : Plan) (a b c x y z : Plan) (e : p ≡ plan.If a b c) (ga : x ≡ a) (gb : y ≡ b) (gc : z ≡ c) where
  if_seen : view p ≡ node.If (view x) (view y) (view z)
  if_seen = ap view e ∙ view_If a b c ∙ (λ i. node.If (view (sym ga i)) (view (sym gb i)) (view (sym gc i)))

  if_all : HasRoom w (in_plan (view p)) → HasRoom w (both (in_plan (view x)) (both (in_plan (view y)) (in_plan (view z))))
  if_all room = room_as w (in_plan (view p)) _ (ap in_plan if_seen) room

  pub if_room : HasRoom w (in_plan (view p)) → HasRoom w (in_plan (view x))
  if_room room = room_first w (in_plan (view x)) _ (if_all room)

  if_rest : (v : Numbers) (d : Plan) → HasRoom w (in_plan (view p)) → PlanNumbered w v (view x) (view d)
      → HasRoom v (both (in_plan (view y)) (in_plan (view z)))
  if_rest v d room k = room_next w v (in_plan (view x)) _ (in_plan (view d)) (if_all room) k.counted

  pub if_next : (v : Numbers) (d : Plan) → HasRoom w (in_plan (view p)) → PlanNumbered w v (view x) (view d) → HasRoom v (in_plan (view y))
  if_next v d room k = room_first v (in_plan (view y)) (in_plan (view z)) (if_rest v d room k)

  pub if_last : (v u : Numbers) (d f : Plan) → HasRoom w (in_plan (view p)) → PlanNumbered w v (view x) (view d)
      → PlanNumbered v u (view y) (view f) → HasRoom u (in_plan (view z))
  if_last v u d f room k l = room_next v u (in_plan (view y)) (in_plan (view z)) (in_plan (view f)) (if_rest v d room k) l.counted

  pub if_numbered : (v u o : Numbers) (r d f j : Plan) → r ≡ plan.If d f j → PlanNumbered w v (view x) (view d)
      → PlanNumbered v u (view y) (view f) → PlanNumbered u o (view z) (view j) → PlanNumbered w o (view p) (view r)
  if_numbered v u o r d f j is k l m =
      seen_as w o (view p) (view r) (node.If (view x) (view y) (view z)) (node.If (view d) (view f) (view j)) if_seen
      (ap view is ∙ view_If d f j) (record {
        same = (view x, view y, view z, refl, k.same, l.same, m.same);
        counted = counted_both w v o _ _ _ _ k.counted (counted_both v u o _ _ _ _ l.counted m.counted);
      })

-- ---- a case

-- fields as branches, before others
abbrev onto : Fields → Branches → Branches
onto no_fields last = last
onto (fields l p ps) last = branch l p (onto ps last)

onto_is : (bs : List (Name × Plan)) (last : Branches) → branches_of (map view_branch bs) last ≡ onto (fields_view bs) last
onto_is [] last = refl
onto_is (b ∷ bs) last = ap (branch b.0 (view b.1)) (onto_is bs last)

onto_marks : (ps : Fields) (last : Branches) → in_branches (onto ps last) ≡ both (in_fields ps) (in_branches last)
onto_marks no_fields last = refl
onto_marks (fields l p ps) last =
    ap (both (in_plan p)) (onto_marks ps last) ∙ sym (both_assoc (in_plan p) (in_fields ps) (in_branches last))

onto_same : (qs ps : Fields) (before after : Branches) → SameFields qs ps → SameBranches before after
    → SameBranches (onto qs before) (onto ps after)
onto_same qs no_fields before after h k = subst (λ (xs : Fields). SameBranches (onto xs before) after) (sym h) k
onto_same qs (fields l p ps) before after h k =
    (h.0, onto h.1 before, ap (λ xs. onto xs before) h.2, h.3, onto_same h.1 ps before after h.4 k)

case_node : Node → Fields → Branches → Node
case_node a ps last = node.Case a (onto ps last)

case_marks : (a : Node) (ps : Fields) (last : Branches)
    → in_plan (case_node a ps last) ≡ both (in_plan a) (both (in_fields ps) (in_branches last))
unfolding case_node
case_marks a ps last = ap (both (in_plan a)) (onto_marks ps last)

case_view : (a : Plan) (bs : List (Name × Plan)) (o : Option Plan)
    → view (plan.Case a bs o) ≡ case_node (view a) (fields_view bs) (other_node o)
unfolding case_node
case_view a bs o = view_Case a bs o ∙ ap (node.Case (view a)) (onto_is bs (other_node o))

module _ (w : Numbers) (p a x : Plan) (bs zs : List (Name × Plan)) (o y : Option Plan) (e : p ≡ plan.Case a bs o) (ga : x ≡ a)
    (gb : zs ≡ bs) (go : y ≡ o) where
  case_seen : view p ≡ case_node (view x) (fields_view zs) (other_node y)
  case_seen = ap view e ∙ case_view a bs o ∙ (λ i. case_node (view (sym ga i)) (fields_view (sym gb i)) (other_node (sym go i)))

  case_all : HasRoom w (in_plan (view p))
      → HasRoom w (both (in_plan (view x)) (both (in_fields (fields_view zs)) (in_branches (other_node y))))
  case_all room = room_as w (in_plan (view p)) _ (ap in_plan case_seen ∙ case_marks (view x) (fields_view zs) (other_node y)) room

  pub case_room : HasRoom w (in_plan (view p)) → HasRoom w (in_plan (view x))
  case_room room = room_first w (in_plan (view x)) _ (case_all room)

  case_rest : (v : Numbers) (d : Plan) → HasRoom w (in_plan (view p)) → PlanNumbered w v (view x) (view d)
      → HasRoom v (both (in_fields (fields_view zs)) (in_branches (other_node y)))
  case_rest v d room k = room_next w v (in_plan (view x)) _ (in_plan (view d)) (case_all room) k.counted

  pub case_branches : (v : Numbers) (d : Plan) → HasRoom w (in_plan (view p)) → PlanNumbered w v (view x) (view d)
      → HasRoom v (in_fields (fields_view zs))
  case_branches v d room k = room_first v (in_fields (fields_view zs)) _ (case_rest v d room k)

  pub case_other : (v u : Numbers) (d : Plan) (cs : List (Name × Plan)) → HasRoom w (in_plan (view p)) → PlanNumbered w v (view x) (view d)
      → FieldsNumbered v u (fields_view zs) (fields_view cs) → HasRoom u (in_branches (other_node y))
  case_other v u d cs room k l =
      room_next v u (in_fields (fields_view zs)) (in_branches (other_node y)) (in_fields (fields_view cs)) (case_rest v d room k) l.counted

  pub case_numbered : (v u n : Numbers) (r d : Plan) (cs : List (Name × Plan)) (j : Option Plan) → r ≡ plan.Case d cs j
      → PlanNumbered w v (view x) (view d) → FieldsNumbered v u (fields_view zs) (fields_view cs)
      → BranchesNumbered u n (other_node y) (other_node j) → PlanNumbered w n (view p) (view r)
  unfolding case_node
  case_numbered v u n r d cs j is k l m =
      seen_as w n (view p) (view r) (case_node (view x) (fields_view zs) (other_node y))
      (case_node (view d) (fields_view cs) (other_node j)) case_seen (ap view is ∙ case_view d cs j) (record {
        same = (
          view x,
          onto (fields_view zs) (other_node y),
          refl,
          k.same,
          onto_same (fields_view zs) (fields_view cs) (other_node y) (other_node j) l.same m.same,
        );
        counted =
            counted_as w n _ _ _ _ (case_marks (view x) (fields_view zs) (other_node y))
            (case_marks (view d) (fields_view cs) (other_node j))
            (counted_both w v n _ _ _ _ k.counted (counted_both v u n _ _ _ _ l.counted m.counted));
      })

-- ---- scans and memos

scan_marks : (p : Plan) (c z : Scan) → p ≡ plan.Scan c → z ≡ c → view p ≡ node.Scan z
scan_marks p c z e g = ap view e ∙ view_Scan c ∙ ap node.Scan (sym g)

pub scan_room : (w : Numbers) (p : Plan) (c : Scan) → p ≡ plan.Scan c → HasRoom w (in_plan (view p)) → w.scans + 1 < 2 ^ 32
scan_room w p c e room =
    let h : HasRoom w (one_scan c) = room_as w (in_plan (view p)) (one_scan c) (ap in_plan (scan_marks p c c e refl)) room in
    omega (arith, h.scans)

pub scan_numbered : (w v : Numbers) (p r : Plan) (c z d : Scan) → p ≡ plan.Scan c → r ≡ plan.Scan d → z ≡ c → SameScan z d
    → d.number ≡ w.scans → v ≡ record w { scans = w.scans + 1 } → PlanNumbered w v (view p) (view r)
scan_numbered w v p r c z d e f g h n k =
    seen_as w v (view p) (view r) (node.Scan z) (node.Scan d) (scan_marks p c z e g) (scan_marks r d d f refl)
    (record { same = (z, refl, h); counted = counted_scan w v z d n k })

memo_view : (p a : Plan) (n : ℕ) (frees : List ℕ) → p ≡ plan.Memo n frees a → view p ≡ node.Memo n frees (view a)
memo_view p a n frees e = ap view e ∙ search (rules, the_lemmas)

module _ (w : Numbers) (p a x : Plan) (n : ℕ) (frees : List ℕ) (e : p ≡ plan.Memo n frees a) where
  memo_seen : x ≡ a → view p ≡ node.Memo n frees (view x)
  memo_seen g = memo_view p a n frees e ∙ ap (λ (y : Plan). node.Memo n frees (view y)) (sym g)

  memo_all : x ≡ a → HasRoom w (in_plan (view p)) → HasRoom w (both (one_memo n) (in_plan (view x)))
  memo_all g room = room_as w (in_plan (view p)) _ (ap in_plan (memo_seen g)) room

  pub memo_room : (m t : ℕ) → x ≡ a → HasRoom w (in_plan (view p)) → m ≡ w.memos → t ≡ w.memos + 1
      → HasRoom (record w { memos = t }) (in_plan (view x))
  memo_room m t g room em et =
      room_next w (record w { memos = t }) (one_memo n) (in_plan (view x)) (one_memo m) (memo_all g room) (counted_memo w n m t em et)

  pub memo_numbered : (m t : ℕ) (v : Numbers) (r b : Plan) → x ≡ a → r ≡ plan.Memo m frees b → m ≡ w.memos → t ≡ w.memos + 1
      → PlanNumbered (record w { memos = t }) v (view x) (view b) → PlanNumbered w v (view p) (view r)
  memo_numbered m t v r b g f em et h =
      seen_as w v (view p) (view r) (node.Memo n frees (view x)) (node.Memo m frees (view b)) (memo_seen g)
      (memo_view r b m frees f) (record {
        same = (n, view x, refl, h.same);
        counted =
            counted_both w (record w { memos = t }) v (one_memo n) (one_memo m) (in_plan (view x)) (in_plan (view b))
            (counted_memo w n m t em et) h.counted;
      })

pub memo_given : (w : Numbers) (k : ℕ) (a : Plan) → k ≡ w.memos + 1 → HasRoom (record w { memos = w.memos + 1 }) (in_plan (view a))
    → HasRoom (record w { memos = k }) (in_plan (view a))
memo_given w k a e room = subst (λ n. HasRoom (record w { memos = n }) (in_plan (view a))) (sym e) room

pub memo_part : (w v : Numbers) (k : ℕ) (a b : Plan) → k ≡ w.memos + 1 → PlanNumbered (record w { memos = k }) v (view a) (view b)
    → PlanNumbered (record w { memos = w.memos + 1 }) v (view a) (view b)
memo_part w v k a b e h = subst (λ n. PlanNumbered (record w { memos = n }) v (view a) (view b)) e h

-- ---- joins

pub join_room : (w : Numbers) (p : Plan) (j x : Join) → p ≡ plan.Join j → x ≡ j → HasRoom w (in_plan (view p))
    → HasRoom w (in_plan (join_view x))
join_room w p j x e g room =
    room_as w (in_plan (view p)) (in_plan (join_view x)) (ap in_plan (ap view e ∙ view_Join j ∙ ap join_view (sym g))) room

pub join_ok : (w v : Numbers) (p r : Plan) (j x k : Join) → p ≡ plan.Join j → r ≡ plan.Join k → x ≡ j
    → PlanNumbered w v (join_view x) (join_view k) → PlanNumbered w v (view p) (view r)
join_ok w v p r j x k e f g h =
    seen_as w v (view p) (view r) (join_view x) (join_view k) (ap view e ∙ view_Join j ∙ ap join_view (sym g)) (ap view f ∙ view_Join k) h

pub join_given : (w : Numbers) (a j : Join) → j ≡ a → HasRoom w (in_plan (join_view a)) → HasRoom w (in_plan (join_view j))
join_given w a j e room = subst (λ (x : Join). HasRoom w (in_plan (join_view x))) (sym e) room

pub join_back : (w v : Numbers) (a j k : Join) → j ≡ a → PlanNumbered w v (join_view j) (join_view k)
    → PlanNumbered w v (join_view a) (join_view k)
join_back w v a j k e h = subst (λ (x : Join). PlanNumbered w v (join_view x) (join_view k)) e h

abbrev pub parts_of : Join → Node
parts_of j =
    node.Join (out-Join j).number (out-Join j).kind (out-Join j).how (view (out-Join j).outer) (nodes_view (out-Join j).conds)
    (out-Join j).inner (keys_view (out-Join j).key) (view (out-Join j).body)

view_parts : (j : Join) → join_view j ≡ parts_of j
view_parts j = search (rules, the_lemmas)

-- The parts that the code goes on with are those of the join that it was given, however it writes them.
module _ (w : Numbers) (j : Join) where
  abbrev after_outer : Marks
  after_outer =
      both (in_nodes (nodes_view (out-Join j).conds))
      (both (in_key (keys_view (out-Join j).key)) (both (one_scan (out-Join j).inner) (in_plan (view (out-Join j).body))))

  abbrev after_conds : Marks
  after_conds = both (in_key (keys_view (out-Join j).key)) (both (one_scan (out-Join j).inner) (in_plan (view (out-Join j).body)))

  abbrev after_key : Marks
  after_key = both (one_scan (out-Join j).inner) (in_plan (view (out-Join j).body))

  module _ (room : HasRoom w (in_plan (join_view j))) where
    join_all : HasRoom w (both (one_join (out-Join j).number) (both (in_plan (view (out-Join j).outer)) after_outer))
    join_all = room_as w (in_plan (join_view j)) _ (ap in_plan (view_parts j)) room

    pub join_take : w.joins + 1 < 2 ^ 32
    join_take =
        let h : HasRoom w (one_join (out-Join j).number) = room_first w (one_join (out-Join j).number) _ join_all in
        omega (arith, h.joins)

    module _ (m t : ℕ) (em : m ≡ w.joins) (et : t ≡ w.joins + 1) where
      from_outer : HasRoom (record w { joins = t }) (both (in_plan (view (out-Join j).outer)) after_outer)
      from_outer =
          room_next w (record w { joins = t }) (one_join (out-Join j).number) _ (one_join m) join_all
          (counted_join w (out-Join j).number m t em et)

      pub join_outer : HasRoom (record w { joins = t }) (in_plan (view (out-Join j).outer))
      join_outer = room_first (record w { joins = t }) (in_plan (view (out-Join j).outer)) _ from_outer

      module _ (w2 : Numbers) (o : Plan) (ho : PlanNumbered (record w { joins = t }) w2 (view (out-Join j).outer) (view o)) where
        from_conds : HasRoom w2 after_outer
        from_conds =
            room_next (record w { joins = t }) w2 (in_plan (view (out-Join j).outer)) _ (in_plan (view o)) from_outer ho.counted

        pub join_conds : (ds : List Plan) → ds ≡ (out-Join j).conds → HasRoom w2 (in_nodes (nodes_view ds))
        join_conds ds e =
            subst (λ (xs : List Plan). HasRoom w2 (in_nodes (nodes_view xs))) (sym e)
            (room_first w2 (in_nodes (nodes_view (out-Join j).conds)) _ from_conds)

        module _ (w3 : Numbers) (ds : List Plan) (ed : ds ≡ (out-Join j).conds) (cs : List Plan)
            (hd : EachNumbered w2 w3 (nodes_view ds) (nodes_view cs)) where
          hc : EachNumbered w2 w3 (nodes_view (out-Join j).conds) (nodes_view cs)
          hc = subst (λ (xs : List Plan). EachNumbered w2 w3 (nodes_view xs) (nodes_view cs)) ed hd

          from_key : HasRoom w3 after_conds
          from_key = room_next w2 w3 (in_nodes (nodes_view (out-Join j).conds)) _ (in_nodes (nodes_view cs)) from_conds hc.counted

          pub join_key : (p : Option JoinKey) → p ≡ (out-Join j).key → HasRoom w3 (in_key (keys_view p))
          join_key p e =
              subst (λ (x : Option JoinKey). HasRoom w3 (in_key (keys_view x))) (sym e)
              (room_first w3 (in_key (keys_view (out-Join j).key)) _ from_key)

          module _ (w4 : Numbers) (p : Option JoinKey) (ep : p ≡ (out-Join j).key) (q : Option JoinKey)
              (hp : KeyNumbered w3 w4 (keys_view p) (keys_view q)) where
            hq : KeyNumbered w3 w4 (keys_view (out-Join j).key) (keys_view q)
            hq = subst (λ (x : Option JoinKey). KeyNumbered w3 w4 (keys_view x) (keys_view q)) ep hp

            from_scan : HasRoom w4 after_key
            from_scan = room_next w3 w4 (in_key (keys_view (out-Join j).key)) _ (in_key (keys_view q)) from_key hq.counted

            pub join_scan : w4.scans + 1 < 2 ^ 32
            join_scan =
                let h : HasRoom w4 (one_scan (out-Join j).inner) = room_first w4 (one_scan (out-Join j).inner) _ from_scan in
                omega (arith, h.scans)

            module _ (w5 : Numbers) (c : Scan) (ec : c ≡ (out-Join j).inner) (i : Scan) (hs : SameScan c i)
                (hn : i.number ≡ w4.scans) (hw : w5 ≡ record w4 { scans = w4.scans + 1 }) where
              hi : SameScan (out-Join j).inner i
              hi = subst (λ (x : Scan). SameScan x i) ec hs

              scan_counted : Counted w4 w5 (one_scan (out-Join j).inner) (one_scan i)
              scan_counted = counted_scan w4 w5 (out-Join j).inner i hn hw

              pub join_body : (a : Plan) → a ≡ (out-Join j).body → HasRoom w5 (in_plan (view a))
              join_body a e =
                  subst (λ (x : Plan). HasRoom w5 (in_plan (view x))) (sym e)
                  (room_next w4 w5 (one_scan (out-Join j).inner) _ (one_scan i) from_scan scan_counted)

              module _ (w6 : Numbers) (a : Plan) (ea : a ≡ (out-Join j).body) (b : Plan)
                  (ha : PlanNumbered w5 w6 (view a) (view b)) where
                hb : PlanNumbered w5 w6 (view (out-Join j).body) (view b)
                hb = subst (λ (x : Plan). PlanNumbered w5 w6 (view x) (view b)) ea ha

                pub join_numbered : (k : Join)
                    → join_view k ≡ node.Join m (out-Join j).kind (out-Join j).how (view o) (nodes_view cs) i (keys_view q) (view b)
                    → PlanNumbered w w6 (join_view j) (join_view k)
                join_numbered k ek =
                    seen_as w w6 (join_view j) (join_view k) (parts_of j)
                    (node.Join m (out-Join j).kind (out-Join j).how (view o) (nodes_view cs) i (keys_view q) (view b)) (view_parts j) ek
                    (record {
                      same = (
                        (out-Join j).number,
                        view (out-Join j).outer,
                        nodes_view (out-Join j).conds,
                        (out-Join j).inner,
                        keys_view (out-Join j).key,
                        view (out-Join j).body,
                        refl,
                        ho.same,
                        hc.same,
                        hi,
                        hq.same,
                        hb.same,
                      );
                      counted =
                          counted_both w (record w { joins = t }) w6 (one_join (out-Join j).number) (one_join m) _ _
                          (counted_join w (out-Join j).number m t em et)
                          (counted_both (record w { joins = t }) w2 w6 (in_plan (view (out-Join j).outer)) (in_plan (view o)) _ _ ho.counted
                          (counted_both w2 w3 w6 (in_nodes (nodes_view (out-Join j).conds)) (in_nodes (nodes_view cs)) _ _ hc.counted
                          (counted_both w3 w4 w6 (in_key (keys_view (out-Join j).key)) (in_key (keys_view q)) _ _ hq.counted
                          (counted_both w4 w5 w6 (one_scan (out-Join j).inner) (one_scan i) (in_plan (view (out-Join j).body))
                          (in_plan (view b)) scan_counted hb.counted))));
                    })

-- ---- the key of a join, and what stands behind `otherwise`

view_key : (k : JoinKey) → keys_view (Some k) ≡ key (out-JoinKey k).label (view (out-JoinKey k).value)
view_key k = search (rules, the_lemmas)

view_key_rolled : (l : Name) (p : Plan) → keys_view (Some (roll-JoinKey (record { label = l; value = p }))) ≡ key l (view p)
view_key_rolled l p = search (rules, the_lemmas)

pub key_room : (w : Numbers) (q : Option JoinKey) (k : JoinKey) → q ≡ Some k → HasRoom w (in_key (keys_view q))
    → HasRoom w (in_plan (view (out-JoinKey k).value))
key_room w q k e room =
    room_as w (in_key (keys_view q)) (in_plan (view (out-JoinKey k).value)) (ap in_key (ap keys_view e ∙ view_key k)) room

pub key_numbered : (w v : Numbers) (q : Option JoinKey) (k : JoinKey) (b : Plan) → q ≡ Some k
    → PlanNumbered w v (view (out-JoinKey k).value) (view b)
    → KeyNumbered w v (keys_view q) (keys_view (Some (roll-JoinKey (record { label = (out-JoinKey k).label; value = b }))))
key_numbered w v q k b e h =
    let l = (out-JoinKey k).label in
    let a = view (out-JoinKey k).value in
    let now : KeyNumbered w v (key l a) (key l (view b)) = record { same = (a, refl, h.same); counted = h.counted } in
    subst (λ (x : Key). KeyNumbered w v x (keys_view (Some (roll-JoinKey (record { label = l; value = b })))))
    (sym (ap keys_view e ∙ view_key k)) (subst (λ (x : Key). KeyNumbered w v (key l a) x) (sym (view_key_rolled l b)) now)

pub no_key_numbered : (w : Numbers) (q : Option JoinKey) → q ≡ None → KeyNumbered w w (keys_view q) (keys_view q)
no_key_numbered w q e =
    subst (λ (x : Option JoinKey). KeyNumbered w w (keys_view x) (keys_view x)) (sym e) (record { same = refl; counted = counted_none w })

pub other_room : (w : Numbers) (o : Option Plan) (a x : Plan) → o ≡ Some a → x ≡ a → HasRoom w (in_branches (other_node o))
    → HasRoom w (in_plan (view x))
other_room w o a x e g room =
    room_as w (in_branches (other_node o)) (in_plan (view x))
    (ap (λ (y : Option Plan). in_branches (other_node y)) e ∙ ap (λ (y : Plan). in_plan (view y)) (sym g)) room

pub other_numbered : (w v : Numbers) (o : Option Plan) (a x b : Plan) → o ≡ Some a → x ≡ a → PlanNumbered w v (view x) (view b)
    → BranchesNumbered w v (other_node o) (other_node (Some b))
other_numbered w v o a x b e g h =
    let now : BranchesNumbered w v (other_node (Some x)) (other_node (Some b)) =
    record { same = (view x, refl, h.same); counted = h.counted } in
    subst (λ (y : Option Plan). BranchesNumbered w v (other_node y) (other_node (Some b))) (ap Some g ∙ sym e) now

pub no_other_numbered : (w : Numbers) (o : Option Plan) → o ≡ None → BranchesNumbered w w (other_node o) (other_node o)
no_other_numbered w o e =
    subst (λ (x : Option Plan). BranchesNumbered w w (other_node x) (other_node x)) (sym e)
    (record { same = refl; counted = counted_none w })

-- ---- a part in a box

pub boxed_room : (w : Numbers) (a x : Plan) → x ≡ a → HasRoom w (in_plan (view a)) → HasRoom w (in_plan (view x))
boxed_room w a x g room = subst (λ (y : Plan). HasRoom w (in_plan (view y))) (sym g) room

pub boxed_numbered : (w v : Numbers) (a x b : Plan) → x ≡ a → PlanNumbered w v (view x) (view b) → PlanNumbered w v (view a) (view b)
boxed_numbered w v a x b g h = subst (λ (y : Plan). PlanNumbered w v (view y) (view b)) g h
