-- Numbers that fall from step to step.
use Rattle.std.specs.Prelude.{ℕ, ◌+◌, ◌*◌, ◌^◌, max, length, Option, Some, None}
use Rattle.kl_ask.specs.Driver.{Cursor}
use Rattle.kl_scans.specs.Running.{Running}
use Rattle.kl_ask.specs.declared.ask.Ask.{Ask}
use Rattle.kl_ask.specs.declared.ask.Ask.TheVariants as asks
use Rattle.kl_sqltext.specs.declared.ast.Spj.{Spj}
use Rattle.kl_plan.specs.Nodes as node
use Rattle.kl_plan.specs.Nodes.{Node, Nodes, no_nodes, nodes, Fields, no_fields, fields, Branches, no_branches, rest, branch, Key}
use Rattle.kl_plan.specs.Nodes.{no_key, key}
use Rattle.kl_scans.specs.Held.{cursor_at}
use Rattle.kl_scans.specs.Stage.{statement_of}
use Rattle.kl_cursor.specs.Joining.{waiting}
use Rattle.kl_cursor.specs.Left.{Snap, fresh, have, pulling, both, bound, outside, inside, made, ended, taking, reads, pairing, joining, matching, leading}

-- how deep a plan is
abbrev mutual
  pub tall : Node → ℕ
  tall (node.Plain t) = 1
  tall (node.Var x) = 1
  tall (node.Rec ps) = 1 + tall_fields ps
  tall (node.Proj l a) = 1 + tall a
  tall (node.Inj l a) = 1 + tall a
  tall (node.Case a bs) = 1 + max (tall a) (tall_branches bs)
  tall (node.Make k ps) = 1 + tall_nodes ps
  tall (node.Union a b) = 1 + max (tall a) (tall b)
  tall (node.Ext k b s) = 1 + max (tall b) (tall s)
  tall (node.If a b c) = 1 + max (tall a) (max (tall b) (tall c))
  tall (node.Let a b) = 1 + max (tall a) (tall b)
  tall (node.Prim c ps) = 1 + tall_nodes ps
  tall (node.Scan c) = 1
  tall (node.Join n k how o cs i q b) = 2 + max (tall o) (max (tall_nodes cs) (max (tall_key q) (tall b)))
  tall (node.Memo n frees p) = 1 + tall p

  pub tall_nodes : Nodes → ℕ
  tall_nodes no_nodes = 0
  tall_nodes (nodes p ps) = max (tall p) (tall_nodes ps)

  pub tall_fields : Fields → ℕ
  tall_fields no_fields = 0
  tall_fields (fields l p ps) = max (tall p) (tall_fields ps)

  pub tall_branches : Branches → ℕ
  tall_branches no_branches = 0
  tall_branches (rest c) = tall c
  tall_branches (branch l b bs) = max (tall b) (tall_branches bs)

  pub tall_key : Key → ℕ
  tall_key no_key = 0
  tall_key (key l p) = tall p

abbrev pub count_nodes : Nodes → ℕ
count_nodes no_nodes = 0
count_nodes (nodes p ps) = 1 + count_nodes ps

-- a number that the rows of a statement do not pass
abbrev pub joined_most : Option Spj → ℕ
joined_most (Some q) = max (2 ^ 64) ((2 ^ 64) ^ length q.tables)
joined_most None = 2 ^ 64

-- a number that the rows which answer an ask do not pass, and no less than what one value can have
abbrev pub asked_most : Ask → ℕ
asked_most (asks.Rows source keep tests) = 2 ^ 64
asked_most (asks.Sql text) = joined_most (statement_of text)

-- A number that the items of a plan do not pass, and no less than what one value can have.
abbrev mutual
  pub size : Node → ℕ
  size (node.Plain t) = 2 ^ 64
  size (node.Var x) = 2 ^ 64
  size (node.Rec ps) = 2 ^ 64
  size (node.Proj l a) = 2 ^ 64
  size (node.Inj l a) = 2 ^ 64
  size (node.Case a bs) = 2 ^ 64 + size_branches bs
  size (node.Make k ps) = max (count_nodes ps) (2 ^ 64)
  size (node.Union a b) = size a + size b
  size (node.Ext k b s) = max (size s) (2 ^ 64) * size b
  size (node.If a b c) = size b + size c
  size (node.Let a b) = size b
  size (node.Prim c ps) = 2 ^ 64
  size (node.Scan c) = asked_most c.ask
  size (node.Join n k how o cs i q b) = max (size o) (2 ^ 64) * (max (asked_most i.ask) (2 ^ 64) * size b)
  size (node.Memo n frees p) = 2 ^ 64

  pub size_branches : Branches → ℕ
  size_branches no_branches = 0
  size_branches (rest c) = size c
  size_branches (branch l b bs) = size b + size_branches bs

abbrev pub height : Snap → ℕ
height (fresh p) = tall p
height (have vs e) = 0
height (pulling c k rows n) = 0
height (both s p) = 1 + max (height s) (tall p)
height (bound v s) = 1 + height s
height (outside b s) = 1 + max (height s) (tall b)
height (inside b s v i) = 1 + max (max (height s) (tall b)) (height i)
height (made ps) = 1 + tall_nodes ps
height ended = 0
height (taking vs s) = height s
height (reads k p) = tall p
height (pairing k b xs s) = 1 + max (height s) (tall b)
height (joining j s h n) = 2 + max (height s) (max (tall_nodes j.conds) (max (tall_key j.key) (tall j.body)))
height (matching b ys x s) = max (2 + tall b) (height s)
height (leading v i s) = max (1 + height i) (height s)

-- a cursor with nothing done yet comes before what it becomes, a loop inside its body before the same loop outside, and a join at an outer
-- row before the same join between two
abbrev pub rank : Snap → ℕ
rank (fresh p) = 3
rank (inside b s v i) = 1
rank (joining j s h n) = 1
rank (leading v i s) = 2
rank _ = 0

-- what falls from step to step inside one call
abbrev pub falling : Snap → ℕ
falling s = 8 * height s + rank s

abbrev pub bound_in : Option Cursor → ℕ
bound_in (Some o) = o.bound
bound_in None = 0

-- a number that the items left do not pass, also where contents are not told
abbrev pub most : Running → Snap → ℕ
most w (fresh p) = size p
most w (have vs e) = length vs
most w (pulling c k rows n) = length rows + bound_in (cursor_at w c.driver k)
most w (both s p) = most w s + size p
most w (bound v s) = most w s
most w (outside b s) = most w s * size b
most w (inside b s v i) = most w i + most w s * size b
most w (made ps) = count_nodes ps
most w ended = 0
most w (taking vs s) = length vs + most w s
most w (reads k p) = size p
most w (pairing k b xs s) = length xs * (most w s * size b)
most w (joining j s h n) = (waiting h + most w s) * (max (asked_most j.inner.ask) (2 ^ 64) * size j.body)
most w (matching b ys x s) = length ys * size b + most w s
most w (leading v i s) = most w i + most w s
