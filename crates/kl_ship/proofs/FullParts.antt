-- A plan leaves no work exactly where its parts leave none, as the code visits them.
use Rattle.std.proofs.Common.{◌≡◌, Bool, true, false, List, [], ◌∷◌, map, Option, Some, None, Result, Ok, Err, IfOk, sym, ap, subst, ◌∙◌}
use Rattle.std.specs.Bool.{Decides}
use Rattle.kl_value.specs.declared.Kind.{Kind}
use Rattle.kl_outcome.specs.Outcome.{Name}
use Rattle.kl_plan.specs.declared.plan.Join.{Join, out-Join}
use Rattle.kl_plan.specs.declared.plan.Plan.{Plan}
use Rattle.kl_plan.specs.declared.plan.Plan.TheVariants as plan
use Rattle.kl_plan.specs.declared.plan.Scan.{Scan}
use Rattle.kl_ship.specs.declared.source.ShipSource.{ShipSource}
use Rattle.kl_ship.specs.Bodies.{inner_body}
use Rattle.kl_ship.specs.Full.{IsFullAt, InnerFull, FullyShipped, FullFields, FullBranches}
use Rattle.kl_plan.specs.Nodes as node
use Rattle.kl_plan.specs.Nodes.{Node, Branches, branches_of, view, view_branch, fields_view}
use Rattle.kl_plan.specs.Joins.{join_view, other_node}
use Rattle.kl_ship.proofs.Deciding.{no, refuted, follows}
use Rattle.kl_plan.proofs.Views.{view_Rec, view_Case, view_Scan, view_join}

-- what holds of the whole exactly where it does of the parts
abbrev pub Same : Type 0 → Type 0 → Type 0
Same W P = (W → P) × (P → W)

pub if_ok : {E : Type 0} {P Q : Type 0} (r : Result Bool E) → Same Q P → IfOk r (λ b. Decides b P) → IfOk r (λ b. Decides b Q)
if_ok (Ok b) s d = follows b s.1 s.0 d
if_ok (Err e) s d = tt

pub ok_is : {E P : Type 0} (r : Result Bool E) (b : Bool) → r ≡ Ok b → IfOk r (λ x. Decides x P) → Decides b P
ok_is {E} {P} r b e h = subst (λ x. IfOk x (λ y. Decides y P)) e h

-- where a part leaves some
pub part_not : {P Q : Type 0} (r : Bool) → (Q → P) → Decides r P → r ≡ false → Decides false Q
part_not r f d e = no (λ q. refuted r d e (f q))

module _ (ss : List ShipSource) where
  abbrev pub Full : Plan → Type 0
  Full p = FullyShipped ss (view p)

  moved : (a b : Plan) → b ≡ a → Full a → Full b
  moved a b e h = subst Full (sym e) h

  back : (a b : Plan) → b ≡ a → Full b → Full a
  back a b e h = subst Full e h

  opened : (p : Plan) (n : Node) → view p ≡ n → Full p → FullyShipped ss n
  opened p n e h = subst (FullyShipped ss) e h

  closed : (p : Plan) (n : Node) → view p ≡ n → FullyShipped ss n → Full p
  closed p n e h = subst (FullyShipped ss) (sym e) h

  pub same_rec : (p : Plan) (fs gs : List (Name × Plan)) → p ≡ plan.Rec fs → gs ≡ fs → Same (Full p) (FullFields ss (fields_view gs))
  same_rec p fs gs is e =
      let v : view p ≡ node.Rec (fields_view fs) = ap view is ∙ view_Rec fs in
      ((λ h. subst (λ w. FullFields ss (fields_view w)) (sym e) (opened p (node.Rec (fields_view fs)) v h)), (λ h. closed p (node.Rec (fields_view fs)) v (subst (λ w. FullFields ss (fields_view w)) e h)))

  -- what the inner loop of a join leaves
  pub inner_full : (j : Join) → Same (InnerFull ss (join_view j))
      (IsFullAt ss (out-Join j).kind (inner_body (join_view j)) (node.Scan (out-Join j).inner))
  inner_full j =
      let v = view_join j in (
        (λ h. subst (λ x. IsFullAt ss (out-Join j).kind (inner_body x) (node.Scan (out-Join j).inner)) (sym v) (subst (InnerFull ss) v h)),
        (λ h. subst (InnerFull ss) (sym v) (subst (λ x. IsFullAt ss (out-Join j).kind (inner_body x) (node.Scan (out-Join j).inner)) v h)),
      )

  pub at_scan : (k : Kind) (b : Node) (p : Plan) (c : Scan) → p ≡ plan.Scan c
      → Same (IsFullAt ss k b (view p)) (IsFullAt ss k b (node.Scan c))
  at_scan k b p c is =
      let v : view p ≡ node.Scan c = ap view is ∙ view_Scan c in
      ((λ h. subst (λ n. IsFullAt ss k b n) v h), (λ h. subst (λ n. IsFullAt ss k b n) (sym v) h))

  choices : (bs : List (Name × Plan)) (last : Branches) → Same (FullBranches ss (branches_of (map view_branch bs) last)) (FullFields ss (fields_view bs) × FullBranches ss last)
  choices [] last = ((λ h. (tt, h)), (λ h. h.1))
  choices (b ∷ bs) last =
      let m = choices bs last in
      ((λ h. let r = m.0 h.1 in ((h.0, r.0), r.1)), (λ h. (h.0.0, m.1 (h.0.1, h.1))))

  -- of a case: its subject, its branches, and what stands behind them
  pub same_case : (p a x : Plan) (bs cs : List (Name × Plan)) (c : Option Plan) → p ≡ plan.Case a bs c → x ≡ a → cs ≡ bs
      → Same (Full p) (Full x × FullFields ss (fields_view cs) × FullBranches ss (other_node c))
  same_case p a x bs cs c is e f =
      let n = node.Case (view a) (branches_of (map view_branch bs) (other_node c)) in
      let v : view p ≡ n = ap view is ∙ view_Case a bs c in
      let m = choices bs (other_node c) in (
        (λ h. let g = opened p n v h in let r = m.0 g.1 in (moved a x e g.0, subst (λ w. FullFields ss (fields_view w)) (sym f) r.0, r.1)),
        (λ h. closed p n v (back a x e h.0, m.1 (subst (λ w. FullFields ss (fields_view w)) f h.1, h.2))),
      )

  pub other_full : (c : Option Plan) (o x : Plan) → c ≡ Some o → x ≡ o → Same (FullBranches ss (other_node c)) (Full x)
  other_full c o x e f =
      ((λ h. moved o x f (subst (λ w. FullBranches ss (other_node w)) e h)), (λ h. subst (λ w. FullBranches ss (other_node w)) (sym e) (back o x f h)))

  pub other_none : (c : Option Plan) → c ≡ None → FullBranches ss (other_node c)
  other_none c e = subst (λ w. FullBranches ss (other_node w)) (sym e) tt

-- the last of three parts, where the others leave none
pub last_of_three : {E : Type 0} {A B C Q : Type 0} (a b : Bool) (r : Result Bool E) → Same Q (A × B × C) → Decides a A → a ≡ true → Decides b B → b ≡ true → IfOk r (λ x. Decides x C) → IfOk r (λ x. Decides x Q)
last_of_three a b r s d e f g h = if_ok r ((λ q. (s.0 q).2), (λ x. s.1 (d.0 e, f.0 g, x))) h
