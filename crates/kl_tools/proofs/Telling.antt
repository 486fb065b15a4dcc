-- What is told of a plan, by its form.
use Rattle.std.proofs.Common.{◌≡◌, ◌∙◌, ℕ, List, [], ◌∷◌, ◌++◌, Option, map, drop, get_or, length, suc, ◌<◌, ◌≤◌, ◌+◌, refl, sym, ap, ap₂, subst, arith}
use Rattle.std.specs.Prelude.{Result, Ok, Err, IsOkAnd, OnOk}
use Rattle.std.specs.List.{flat_map}
use Rattle.std.proofs.lemmas.Grind.{flat_map-append}
use Rattle.std.proofs.Math.Seq.{drop-cons}
use Rattle.std.proofs.lemmas.List.{append_assoc, drop_all}
use Rattle.std.proofs.lemmas.Result.{on_ok_weaker}
use Rattle.kl_base.specs.declared.NoMemory.{NoMemory}
use Rattle.kl_value.specs.declared.Kind.{Kind}
use Rattle.kl_outcome.specs.Outcome.{Name}
use Rattle.kl_ask.specs.declared.settings.JoinHow.{JoinHow}
use Rattle.kl_plan.specs.declared.plan.Plan.{Plan}
use Rattle.kl_plan.specs.declared.plan.Plan.TheVariants as plan
use Rattle.kl_plan.specs.declared.plan.Scan.{Scan}
use Rattle.kl_plan.specs.Nodes as node
use Rattle.kl_plan.specs.Nodes.{Node, Nodes, Fields, Branches, Key, branches_of, view, view_branch, nodes_view, fields_view}
use Rattle.kl_plan.specs.Numbers.{scans_in, scans_of_nodes, scans_of_fields, scans_of_branches, scans_of_key}
use Rattle.kl_plan.specs.Numbers.{memos_in, memos_of_nodes, memos_of_fields, memos_of_branches, memos_of_key}
use Rattle.kl_plan.specs.Joins.{other_node}
use Rattle.kl_plan.proofs.Views.{view_Case, view_Union, view_Ext, view_If, view_Let, view_Memo}
use Rattle.kl_tools.specs.Explained.{Tells, join_lines, join_lines_of_branches, join_lines_of_fields, join_lines_of_key}
use Rattle.kl_tools.specs.Explained.{join_line, join_lines_of_nodes, memo_line, scan_line}
use Rattle.kl_tools.specs.declared.explaining.Lines.{Lines}

abbrev pub TellsNode : List (List ℕ) → Node → Lines → Lines → Type 0
TellsNode names p = Tells names (scans_in p) (join_lines p) (memos_in p)

abbrev pub TellsNodes : List (List ℕ) → Nodes → Lines → Lines → Type 0
TellsNodes names ps = Tells names (scans_of_nodes ps) (join_lines_of_nodes ps) (memos_of_nodes ps)

abbrev pub TellsFields : List (List ℕ) → Fields → Lines → Lines → Type 0
TellsFields names ps = Tells names (scans_of_fields ps) (join_lines_of_fields ps) (memos_of_fields ps)

abbrev pub TellsBranches : List (List ℕ) → Branches → Lines → Lines → Type 0
TellsBranches names bs = Tells names (scans_of_branches bs) (join_lines_of_branches bs) (memos_of_branches bs)

abbrev pub TellsKey : List (List ℕ) → Key → Lines → Lines → Type 0
TellsKey names q = Tells names (scans_of_key q) (join_lines_of_key q) (memos_of_key q)

-- ---- one behind the other

pub behind : (a b c d e : List ℕ) → b ≡ a ++ d → c ≡ b ++ e → c ≡ a ++ (d ++ e)
behind a b c d e f g = g ∙ ap (λ x. x ++ e) f ∙ append_assoc a d e

behind_all : {X : Type 0} (line : X → List ℕ) (xs ys : List X) (a b c : List ℕ) → b ≡ a ++ flat_map line xs → c ≡ b ++ flat_map line ys
    → c ≡ a ++ flat_map line (xs ++ ys)
behind_all line xs ys a b c f g = behind a b c (flat_map line xs) (flat_map line ys) f g ∙ ap (λ x. a ++ x) (sym (flat_map-append line xs ys))

told_two : (names : List (List ℕ)) (s t : List Scan) (j k : List ℕ) (m n : List ℕ) (x y z : Lines) → Tells names s j m x y → Tells names t k n y z
    → Tells names (s ++ t) (j ++ k) (m ++ n) x z
told_two names s t j k m n x y z f g = record {
  scans_told = behind_all (scan_line names) s t x.scans.items y.scans.items z.scans.items f.scans_told g.scans_told;
  joins_told = behind x.joins.items y.joins.items z.joins.items j k f.joins_told g.joins_told;
  memos_told = behind_all memo_line m n x.memos.items y.memos.items z.memos.items f.memos_told g.memos_told;
}

as_node : (names : List (List ℕ)) (p q : Node) (x y : Lines) → p ≡ q → TellsNode names q x y → TellsNode names p x y
as_node names p q x y is told = subst (λ n. TellsNode names n x y) (sym is) told

-- what is told behind a part is told only where the part was
pub behind_part : (P Q R : Type 0) (r s : Result (Unit {0}) NoMemory) → OnOk r P → OnOk s (IsOkAnd r (λ _. Q)) → (P → OnOk s Q → OnOk s R) → OnOk s R
behind_part P Q R (Ok x) (Ok y) p q go = go p q
behind_part P Q R (Err e) (Ok y) p q go = absurd q
behind_part P Q R r (Err e) p q go = tt

pub behind_parts : (O P Q R : Type 0) (q r s : Result (Unit {0}) NoMemory) → OnOk q O → OnOk r (IsOkAnd q (λ _. P)) → OnOk s (IsOkAnd r (λ _. Q))
    → (O → P → OnOk s Q → OnOk s R) → OnOk s R
behind_parts O P Q R (Ok v) (Ok x) (Ok y) o p q go = go o p q
behind_parts O P Q R (Err e) (Ok x) (Ok y) o p q go = absurd p
behind_parts O P Q R q (Err e) (Ok y) o p q' go = absurd q'
behind_parts O P Q R q r (Err e) o p q' go = tt

-- ---- by form

pub tells_Union : (names : List (List ℕ)) (p a b a' b' : Plan) (x y z : Lines) (r : Result (Unit {0}) NoMemory) → p ≡ plan.Union a b → a' ≡ a → b' ≡ b
    → TellsNode names (view a') x y → OnOk r (TellsNode names (view b') y z) → OnOk r (TellsNode names (view p) x z)
tells_Union names p a b a' b' x y z r is first second f = on_ok_weaker r (λ g. as_node names (view p) (node.Union (view a') (view b')) x z
    (ap view is ∙ view_Union a b ∙ ap₂ (λ m n. node.Union (view m) (view n)) (sym first) (sym second))
    (told_two names (scans_in (view a')) (scans_in (view b')) (join_lines (view a')) (join_lines (view b')) (memos_in (view a')) (memos_in (view b')) x y z f g))

pub tells_Let : (names : List (List ℕ)) (p a b a' b' : Plan) (x y z : Lines) (r : Result (Unit {0}) NoMemory) → p ≡ plan.Let a b → a' ≡ a → b' ≡ b
    → TellsNode names (view a') x y → OnOk r (TellsNode names (view b') y z) → OnOk r (TellsNode names (view p) x z)
tells_Let names p a b a' b' x y z r is first second f = on_ok_weaker r (λ g. as_node names (view p) (node.Let (view a') (view b')) x z
    (ap view is ∙ view_Let a b ∙ ap₂ (λ m n. node.Let (view m) (view n)) (sym first) (sym second))
    (told_two names (scans_in (view a')) (scans_in (view b')) (join_lines (view a')) (join_lines (view b')) (memos_in (view a')) (memos_in (view b')) x y z f g))

pub tells_Ext : (names : List (List ℕ)) (p : Plan) (k : Kind) (a b a' b' : Plan) (x y z : Lines) (r : Result (Unit {0}) NoMemory) → p ≡ plan.Ext k b a → a' ≡ a → b' ≡ b
    → TellsNode names (view a') x y → OnOk r (TellsNode names (view b') y z) → OnOk r (TellsNode names (view p) x z)
tells_Ext names p k a b a' b' x y z r is first second f = on_ok_weaker r (λ g. as_node names (view p) (node.Ext k (view b') (view a')) x z
    (ap view is ∙ view_Ext k b a ∙ ap₂ (λ m n. node.Ext k (view m) (view n)) (sym second) (sym first))
    (told_two names (scans_in (view a')) (scans_in (view b')) (join_lines (view a')) (join_lines (view b')) (memos_in (view a')) (memos_in (view b')) x y z f g))

pub tells_If : (names : List (List ℕ)) (p a b c a' b' c' : Plan) (w x y z : Lines) (r : Result (Unit {0}) NoMemory) → p ≡ plan.If a b c → a' ≡ a → b' ≡ b → c' ≡ c
    → TellsNode names (view a') w x → TellsNode names (view b') x y → OnOk r (TellsNode names (view c') y z) → OnOk r (TellsNode names (view p) w z)
tells_If names p a b c a' b' c' w x y z r is first second third f g = on_ok_weaker r (λ h. as_node names (view p) (node.If (view a') (view b') (view c')) w z
    (ap view is ∙ view_If a b c ∙ (λ i. node.If (view (sym first i)) (view (sym second i)) (view (sym third i))))
    (told_two names (scans_in (view a')) (scans_in (view b') ++ scans_in (view c')) (join_lines (view a')) (join_lines (view b') ++ join_lines (view c'))
    (memos_in (view a')) (memos_in (view b') ++ memos_in (view c')) w x z f
    (told_two names (scans_in (view b')) (scans_in (view c')) (join_lines (view b')) (join_lines (view c')) (memos_in (view b')) (memos_in (view c')) x y z g h)))

scans_apart : (bs : List (Name × Plan)) (last : Branches) → scans_of_branches (branches_of (map view_branch bs) last) ≡ scans_of_fields (fields_view bs) ++ scans_of_branches last
scans_apart [] last = refl
scans_apart (b ∷ bs) last = ap (λ x. scans_in (view b.1) ++ x) (scans_apart bs last) ∙ sym (append_assoc (scans_in (view b.1)) (scans_of_fields (fields_view bs)) (scans_of_branches last))

joins_apart : (bs : List (Name × Plan)) (last : Branches) → join_lines_of_branches (branches_of (map view_branch bs) last) ≡ join_lines_of_fields (fields_view bs) ++ join_lines_of_branches last
joins_apart [] last = refl
joins_apart (b ∷ bs) last = ap (λ x. join_lines (view b.1) ++ x) (joins_apart bs last) ∙ sym (append_assoc (join_lines (view b.1)) (join_lines_of_fields (fields_view bs)) (join_lines_of_branches last))

memos_apart : (bs : List (Name × Plan)) (last : Branches) → memos_of_branches (branches_of (map view_branch bs) last) ≡ memos_of_fields (fields_view bs) ++ memos_of_branches last
memos_apart [] last = refl
memos_apart (b ∷ bs) last = ap (λ x. memos_in (view b.1) ++ x) (memos_apart bs last) ∙ sym (append_assoc (memos_in (view b.1)) (memos_of_fields (fields_view bs)) (memos_of_branches last))

told_apart : (names : List (List ℕ)) (bs : List (Name × Plan)) (last : Branches) (x y : Lines)
    → Tells names (scans_of_fields (fields_view bs) ++ scans_of_branches last) (join_lines_of_fields (fields_view bs) ++ join_lines_of_branches last) (memos_of_fields (fields_view bs) ++ memos_of_branches last) x y
    → TellsBranches names (branches_of (map view_branch bs) last) x y
told_apart names bs last x y told = record {
  scans_told = told.scans_told ∙ ap (λ s. x.scans.items ++ flat_map (scan_line names) s) (sym (scans_apart bs last));
  joins_told = told.joins_told ∙ ap (λ s. x.joins.items ++ s) (sym (joins_apart bs last));
  memos_told = told.memos_told ∙ ap (λ s. x.memos.items ++ flat_map memo_line s) (sym (memos_apart bs last));
}

pub tells_Case : (names : List (List ℕ)) (p a a' : Plan) (bs bs' : List (Name × Plan)) (o : Option Plan) (w x y z : Lines) (r : Result (Unit {0}) NoMemory)
    → p ≡ plan.Case a bs o → a' ≡ a → bs' ≡ bs
    → TellsNode names (view a') w x → TellsFields names (fields_view bs') x y → OnOk r (TellsBranches names (other_node o) y z) → OnOk r (TellsNode names (view p) w z)
tells_Case names p a a' bs bs' o w x y z r is first second f g = on_ok_weaker r (λ h. as_node names (view p) (node.Case (view a') (branches_of (map view_branch bs') (other_node o))) w z
    (ap view is ∙ view_Case a bs o ∙ ap₂ (λ m n. node.Case (view m) (branches_of (map view_branch n) (other_node o))) (sym first) (sym second))
    (told_two names (scans_in (view a')) (scans_of_branches (branches_of (map view_branch bs') (other_node o))) (join_lines (view a')) (join_lines_of_branches (branches_of (map view_branch bs') (other_node o)))
    (memos_in (view a')) (memos_of_branches (branches_of (map view_branch bs') (other_node o))) w x z f
    (told_apart names bs' (other_node o) x z
    (told_two names (scans_of_fields (fields_view bs')) (scans_of_branches (other_node o)) (join_lines_of_fields (fields_view bs')) (join_lines_of_branches (other_node o))
    (memos_of_fields (fields_view bs')) (memos_of_branches (other_node o)) x y z g h))))

pub tells_Memo : (names : List (List ℕ)) (p : Plan) (n : ℕ) (frees : List ℕ) (a a' : Plan) (x y z : Lines) (r : Result (Unit {0}) NoMemory) → p ≡ plan.Memo n frees a → a' ≡ a
    → y.scans.items ≡ x.scans.items → y.joins.items ≡ x.joins.items → y.memos.items ≡ x.memos.items ++ memo_line n
    → OnOk r (TellsNode names (view a') y z) → OnOk r (TellsNode names (view p) x z)
tells_Memo names p n frees a a' x y z r is inner scans joins memos = on_ok_weaker r (λ g. as_node names (view p) (node.Memo n frees (view a')) x z
    (ap view is ∙ view_Memo n frees a ∙ ap (λ m. node.Memo n frees (view m)) (sym inner))
    (record {
      scans_told = g.scans_told ∙ ap (λ s. s ++ flat_map (scan_line names) (scans_in (view a'))) scans;
      joins_told = g.joins_told ∙ ap (λ s. s ++ join_lines (view a')) joins;
      memos_told = behind x.memos.items y.memos.items z.memos.items (memo_line n) (flat_map memo_line (memos_in (view a'))) memos g.memos_told;
    }))

pub as_nodes : (names : List (List ℕ)) (ps qs : List Plan) (x y : Lines) → ps ≡ qs → TellsNodes names (nodes_view ps) x y → TellsNodes names (nodes_view qs) x y
as_nodes names ps qs x y is told = subst (λ ns. TellsNodes names (nodes_view ns) x y) is told

-- a join, of which the line comes first
pub tells_Join : (names : List (List ℕ)) (j : Node) (n : ℕ) (k : Kind) (how : JoinHow) (o : Node) (cs : Nodes) (i : Scan) (q : Key) (b : Node)
    (u v w x y y' z : Lines) (r : Result (Unit {0}) NoMemory) → j ≡ node.Join n k how o cs i q b
    → v.scans.items ≡ u.scans.items → v.joins.items ≡ u.joins.items ++ join_line n how i.number q → v.memos.items ≡ u.memos.items
    → TellsNode names o v w → TellsNodes names cs w x → TellsKey names q x y
    → y'.scans.items ≡ y.scans.items ++ scan_line names i → y'.joins.items ≡ y.joins.items → y'.memos.items ≡ y.memos.items
    → OnOk r (TellsNode names b y' z) → OnOk r (TellsNode names j u z)
tells_Join names j n k how o cs i q b u v w x y y' z r is same_scans line same_memos outer conds keys scan same_joins same = on_ok_weaker r (λ body.
    as_node names j (node.Join n k how o cs i q b) u z is (record {
      scans_told = behind_all (scan_line names) (scans_in o) (scans_of_nodes cs ++ (scans_of_key q ++ (i ∷ scans_in b))) u.scans.items w.scans.items z.scans.items
          (outer.scans_told ∙ ap (λ s. s ++ flat_map (scan_line names) (scans_in o)) same_scans)
          (behind_all (scan_line names) (scans_of_nodes cs) (scans_of_key q ++ (i ∷ scans_in b)) w.scans.items x.scans.items z.scans.items conds.scans_told
          (behind_all (scan_line names) (scans_of_key q) (i ∷ scans_in b) x.scans.items y.scans.items z.scans.items keys.scans_told
          (behind y.scans.items y'.scans.items z.scans.items (scan_line names i) (flat_map (scan_line names) (scans_in b)) scan body.scans_told)));
      joins_told =
          behind u.joins.items v.joins.items z.joins.items (join_line n how i.number q) (join_lines o ++ (join_lines_of_nodes cs ++ (join_lines_of_key q ++ join_lines b)))
          line
          (behind v.joins.items w.joins.items z.joins.items (join_lines o) (join_lines_of_nodes cs ++ (join_lines_of_key q ++ join_lines b)) outer.joins_told
          (behind w.joins.items x.joins.items z.joins.items (join_lines_of_nodes cs) (join_lines_of_key q ++ join_lines b) conds.joins_told
          (behind x.joins.items y.joins.items z.joins.items (join_lines_of_key q) (join_lines b) keys.joins_told
          (body.joins_told ∙ ap (λ s. s ++ join_lines b) same_joins))));
      memos_told = behind_all memo_line (memos_in o) (memos_of_nodes cs ++ (memos_of_key q ++ memos_in b)) u.memos.items w.memos.items z.memos.items
          (outer.memos_told ∙ ap (λ s. s ++ flat_map memo_line (memos_in o)) same_memos)
          (behind_all memo_line (memos_of_nodes cs) (memos_of_key q ++ memos_in b) w.memos.items x.memos.items z.memos.items conds.memos_told
          (behind_all memo_line (memos_of_key q) (memos_in b) x.memos.items y.memos.items z.memos.items keys.memos_told
          (body.memos_told ∙ ap (λ s. s ++ flat_map memo_line (memos_in b)) same)));
    }))

-- ---- a list of parts, one behind the other

-- what is told of the parts that are left makes what was told that of all
pub record AreLeft (names : List (List ℕ)) (left all : Nodes) (old now : Lines) : Type 0 where
  pub to_end : (new : Lines) → TellsNodes names left now new → TellsNodes names all old new

pub record FieldsLeft (names : List (List ℕ)) (left all : Fields) (old now : Lines) : Type 0 where
  pub to_end : (new : Lines) → TellsFields names left now new → TellsFields names all old new

nothing_told : (names : List (List ℕ)) (x : Lines) → Tells names [] [] [] x x
nothing_told names x = record { scans_told = nil x.scans.items; joins_told = nil x.joins.items; memos_told = nil x.memos.items }
  where
    nil : (xs : List ℕ) → xs ≡ xs ++ []
    nil [] = refl
    nil (x ∷ xs) = ap (λ ys. x ∷ ys) (nil xs)

one_more : (i : ℕ) → suc i ≡ i + 1
one_more i = omega arith

pub nodes_goes : (names : List (List ℕ)) (ps : List Plan) (i : ℕ) (p : Plan) (old now next : Lines) → i < length ps → p ≡ get_or ps i p
    → AreLeft names (nodes_view (drop i ps)) (nodes_view ps) old now → TellsNode names (view p) now next
    → AreLeft names (nodes_view (drop (i + 1) ps)) (nodes_view ps) old next
nodes_goes names ps i p old now next less at left told =
    let here : drop i ps ≡ p ∷ drop (i + 1) ps = drop-cons ps i p less ∙ ap₂ (λ q k. q ∷ drop k ps) (sym at) (one_more i) in
    let others : List Plan = drop (i + 1) ps in
    record {
      to_end = λ new rest. left.to_end new (subst (λ qs. TellsNodes names (nodes_view qs) now new) (sym here)
          (told_two names (scans_in (view p)) (scans_of_nodes (nodes_view others)) (join_lines (view p)) (join_lines_of_nodes (nodes_view others))
          (memos_in (view p)) (memos_of_nodes (nodes_view others)) now next new told rest));
    }

pub nodes_done : (names : List (List ℕ)) (ps : List Plan) (i : ℕ) (old now : Lines) → length ps ≤ i
    → AreLeft names (nodes_view (drop i ps)) (nodes_view ps) old now → TellsNodes names (nodes_view ps) old now
nodes_done names ps i old now all left = left.to_end now (subst (λ qs. TellsNodes names (nodes_view qs) now now) (sym (drop_all i ps all)) (nothing_told names now))

pub fields_goes : (names : List (List ℕ)) (ps : List (Name × Plan)) (i : ℕ) (p : Name × Plan) (old now next : Lines) → i < length ps → p ≡ get_or ps i p
    → FieldsLeft names (fields_view (drop i ps)) (fields_view ps) old now → TellsNode names (view p.1) now next
    → FieldsLeft names (fields_view (drop (i + 1) ps)) (fields_view ps) old next
fields_goes names ps i p old now next less at left told =
    let here : drop i ps ≡ p ∷ drop (i + 1) ps = drop-cons ps i p less ∙ ap₂ (λ q k. q ∷ drop k ps) (sym at) (one_more i) in
    let others : List (Name × Plan) = drop (i + 1) ps in
    record {
      to_end = λ new rest. left.to_end new (subst (λ qs. TellsFields names (fields_view qs) now new) (sym here)
          (told_two names (scans_in (view p.1)) (scans_of_fields (fields_view others)) (join_lines (view p.1)) (join_lines_of_fields (fields_view others))
          (memos_in (view p.1)) (memos_of_fields (fields_view others)) now next new told rest));
    }

pub fields_done : (names : List (List ℕ)) (ps : List (Name × Plan)) (i : ℕ) (old now : Lines) → length ps ≤ i
    → FieldsLeft names (fields_view (drop i ps)) (fields_view ps) old now → TellsFields names (fields_view ps) old now
fields_done names ps i old now all left = left.to_end now (subst (λ qs. TellsFields names (fields_view qs) now now) (sym (drop_all i ps all)) (nothing_told names now))
