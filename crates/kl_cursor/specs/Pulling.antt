-- Which cursors may read on at a source. What was made of items is let go of before a source is waited for, and only then: so it is told
-- beforehand whether the next step may wait for one. Where it may not, nothing is started and nothing handed. That this is so of rows
-- that are at hand, though their loop gives no item of some of them, is told by the step itself (`AtHand`).
use Rattle.std.specs.Prelude.{◌≡◌, Bool, true, false, ◌==◌, ◌&&◌, ◌||◌, not, [], length, Option, Some, None, Result, Ok, Err, ⊤}
use Rattle.kl_plan.specs.Nodes as node
use Rattle.kl_plan.specs.Nodes.{Node, Nodes, no_nodes, nodes, Fields, no_fields, fields, Branches, no_branches, rest, branch, Key, no_key, key}
use Rattle.kl_value.specs.declared.Value.{Value}
use Rattle.kl_scans.specs.Running.{Running}
use Rattle.kl_eval.specs.declared.stop.EvalStop.{EvalStop}
use Rattle.kl_scans.specs.Log.{Logged}
use Rattle.kl_cursor.specs.declared.state.FiledRows.{FiledRows}
use Rattle.kl_cursor.specs.declared.state.State.{State}
use Rattle.kl_cursor.specs.Joining.{JoinParts}
use Rattle.kl_cursor.specs.Left.{Snap, fresh, have, pulling, both, bound, outside, inside, made, ended, snap}

-- A scan stands in a plan. In a join one does, and a subquery may come to one.
abbrev mutual
  pub has_scan : Node → Bool
  has_scan (node.Plain t) = false
  has_scan (node.Var x) = false
  has_scan (node.Rec ps) = has_scan_fields ps
  has_scan (node.Proj l a) = has_scan a
  has_scan (node.Inj l a) = has_scan a
  has_scan (node.Case a bs) = has_scan a || has_scan_branches bs
  has_scan (node.Make k ps) = has_scan_nodes ps
  has_scan (node.Union a b) = has_scan a || has_scan b
  has_scan (node.Ext k b s) = has_scan s || has_scan b
  has_scan (node.If a b c) = has_scan a || (has_scan b || has_scan c)
  has_scan (node.Let a b) = has_scan a || has_scan b
  has_scan (node.Prim c ps) = has_scan_nodes ps
  has_scan (node.Scan c) = true
  has_scan (node.Join n k how o cs i q b) = true
  has_scan (node.Memo n frees p) = true

  pub has_scan_nodes : Nodes → Bool
  has_scan_nodes no_nodes = false
  has_scan_nodes (nodes p ps) = has_scan p || has_scan_nodes ps

  pub has_scan_fields : Fields → Bool
  has_scan_fields no_fields = false
  has_scan_fields (fields l p ps) = has_scan p || has_scan_fields ps

  pub has_scan_branches : Branches → Bool
  has_scan_branches no_branches = false
  has_scan_branches (rest c) = has_scan c
  has_scan_branches (branch l b bs) = has_scan b || has_scan_branches bs

-- one stands in the key of a join
abbrev pub has_scan_key : Key → Bool
has_scan_key no_key = false
has_scan_key (key l p) = has_scan p

-- A join by an index reads on for an outer row: its inner rows are not filed yet, or a scan stands in its conditions, its key or its body.
abbrev pub reads_for_row : JoinParts → Option FiledRows → Bool
reads_for_row j None = true
reads_for_row j (Some g) = has_scan_nodes j.conds || (has_scan_key j.key || has_scan j.body)

-- a plan of a collection gives an item whatever its tests come to
abbrev pub gives : Node → Bool
gives (node.Make k no_nodes) = false
gives (node.Make k (nodes p ps)) = true
gives (node.If a b c) = gives b && gives c
gives (node.Let a b) = gives b
gives _ = false

-- a cursor reads on at a source, in the next step or in a later one
abbrev pub reads_on : Snap → Bool
reads_on (fresh p) = has_scan p
reads_on (pulling c k rows n) = true
reads_on (both s p) = reads_on s || has_scan p
reads_on (bound v s) = reads_on s
reads_on (outside b s) = has_scan b || reads_on s
reads_on (inside b s v i) = reads_on i || has_scan b || reads_on s
reads_on (made ps) = has_scan_nodes ps
reads_on (have vs e) = false
reads_on ended = false
reads_on _ = true

-- a loop does, of whose source an item is at hand: in its body, or where the body may give no item
abbrev pub loop_reads_on : Node → Snap → Bool
loop_reads_on b s = has_scan b || (reads_on s && not (gives b))

-- The next step of a cursor may read on at a source. It does not where an item is at hand.
abbrev pub pulls : Snap → Bool
pulls (fresh p) = has_scan p
pulls (pulling c k rows n) = length rows == 0
pulls (both s p) = pulls s || has_scan p
pulls (bound v s) = pulls s
pulls (outside b s) = pulls s || loop_reads_on b s
pulls (inside b s v i) = pulls i || pulls s || loop_reads_on b s
pulls (made ps) = has_scan_nodes ps
pulls (have vs e) = false
pulls ended = false
pulls _ = true

-- nothing is started, and nothing handed
abbrev pub Silent : Running → Running → Type 0
Silent a b = Logged [] a b

-- it is silent where a cursor may not read on
abbrev pub SilentUnlessPulls : Snap → Running → Running → Type 0
SilentUnlessPulls s a b = pulls s ≡ false → Silent a b

-- for private functions alone: the same of what becomes of an outer row
abbrev pub SilentRow : JoinParts → Option FiledRows → Running → Running → Type 0
SilentRow j f a b = reads_for_row j f ≡ false → Silent a b

-- ---- for private functions alone: cursors that are sure to give an item

abbrev pub is_sure : Snap → Bool
is_sure (fresh p) = gives p
is_sure (bound v s) = is_sure s
is_sure (made no_nodes) = false
is_sure (made (nodes p ps)) = true
is_sure _ = false

abbrev pub SureGives : Snap → Result (Option Value × State) EvalStop → Type 0
SureGives s (Ok (Some v, t)) = ⊤
SureGives s (Ok (None, t)) = is_sure s ≡ false
SureGives s (Err e) = ⊤

abbrev pub BeginsSure : Snap → Result State EvalStop → Type 0
BeginsSure s (Ok t) = is_sure s ≡ true → is_sure (snap t) ≡ true
BeginsSure s (Err e) = ⊤

-- what a step does where it may not read on, and where an item is sure
pub record Calm (s : Snap) (r : Result (Option Value × State) EvalStop) (a b : Running) : Type 0 where
  pub quiet : SilentUnlessPulls s a b
  pub sure : SureGives s r
