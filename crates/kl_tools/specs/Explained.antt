-- The lines that tell what a plan asks of the drivers.
use Rattle.std.specs.Prelude.{◌≡◌, ℕ, List, [], ◌∷◌, ◌++◌, codes, decimal, slice_get, unwrap_or}
use Rattle.std.specs.List.{flat_map}
use Rattle.kl_value.specs.Written.{text_of}
use Rattle.kl_value.specs.declared.Kind.{Kind}
use Rattle.kl_value.specs.declared.Kind.TheVariants as kind
use Rattle.kl_outcome.specs.Outcome.{Name}
use Rattle.kl_ask.specs.declared.ask.Ask.{Ask}
use Rattle.kl_ask.specs.declared.ask.Ask.TheVariants as asks
use Rattle.kl_ask.specs.declared.ask.Cmp.{Cmp}
use Rattle.kl_ask.specs.declared.ask.Cmp.TheVariants as cmp
use Rattle.kl_ask.specs.declared.ask.ColTest.{ColTest}
use Rattle.kl_ask.specs.declared.ask.Right.{Right}
use Rattle.kl_ask.specs.declared.ask.Right.TheVariants as right
use Rattle.kl_ask.specs.declared.settings.JoinHow.{JoinHow}
use Rattle.kl_ask.specs.declared.settings.JoinHow.TheVariants as join
use Rattle.kl_plan.specs.declared.plan.Scan.{Scan}
use Rattle.kl_plan.specs.Nodes as node
use Rattle.kl_plan.specs.Nodes.{Node, Nodes, no_nodes, nodes, Fields, no_fields, fields, Branches, no_branches, rest, branch, Key}
use Rattle.kl_plan.specs.Nodes.{no_key, key}
use Rattle.kl_plan.specs.Numbers.{scans_in, memos_in}
use Rattle.kl_tools.specs.declared.explaining.Lines.{Lines}

-- ---- a scan

abbrev pub kind_word : Kind → List ℕ
kind_word kind.Set = codes "set"
kind_word kind.Bag = codes "bag"
kind_word kind.List = codes "list"

abbrev pub sign_of : Cmp → List ℕ
sign_of cmp.Eq = codes "="
sign_of cmp.Ne = codes "<>"
sign_of cmp.Lt = codes "<"
sign_of cmp.Le = codes "<="
sign_of cmp.Gt = codes ">"
sign_of cmp.Ge = codes ">="

abbrev pub right_text : Right → List ℕ
right_text (right.Col l) = l
right_text (right.Const v) = text_of v

abbrev pub test_text : ColTest → List ℕ
test_text q = q.left ++ (codes " " ++ (sign_of q.op ++ (codes " " ++ right_text q.right)))

abbrev pub labels_text : List Name → List ℕ
labels_text = flat_map (λ l. codes " " ++ l)

abbrev pub keep_text : List Name → List ℕ
keep_text [] = []
keep_text (l ∷ ls) = codes " keep" ++ labels_text (l ∷ ls)

abbrev pub more_tests : List ColTest → List ℕ
more_tests = flat_map (λ q. codes " and " ++ test_text q)

abbrev pub where_text : List ColTest → List ℕ
where_text [] = []
where_text (q ∷ qs) = codes " where " ++ (test_text q ++ more_tests qs)

abbrev pub ask_text : Ask → List ℕ
ask_text (asks.Rows source keep tests) = codes " rows " ++ (source ++ (keep_text keep ++ where_text tests))
ask_text (asks.Sql text) = codes " sql " ++ text

-- what a driver is asked, where the drivers have these names
abbrev pub asked_text : List (List ℕ) → Scan → List ℕ
asked_text names c = codes " " ++ (unwrap_or (slice_get names c.driver) [] ++ ask_text c.ask)

abbrev pub scan_line : List (List ℕ) → Scan → List ℕ
scan_line names c =
    codes "scan " ++ (decimal c.number ++ (codes " as " ++ (kind_word c.kind ++ (asked_text names c ++ codes "\n"))))

-- ---- a join, and a memo

abbrev pub way_word : JoinHow → List ℕ
way_word join.Block = codes "block"
way_word join.Index = codes "index"

-- the label of the key by which an index is used
abbrev pub on_text : JoinHow → Key → List ℕ
on_text join.Block q = []
on_text join.Index no_key = []
on_text join.Index (key l p) = codes " on " ++ l

-- a join of this number, which goes this way over the scan of that number, by a key
abbrev pub join_line : ℕ → JoinHow → ℕ → Key → List ℕ
join_line n how i q =
    codes "join " ++ (decimal n ++ (codes " " ++ (way_word how ++ (codes " scan " ++ (decimal i ++ (on_text how q ++ codes "\n"))))))

abbrev pub memo_line : ℕ → List ℕ
memo_line n = codes "memo " ++ (decimal n ++ codes "\n")

-- the lines of the joins, each before those of the joins in its parts
abbrev mutual
  pub join_lines : Node → List ℕ
  join_lines (node.Plain t) = []
  join_lines (node.Var x) = []
  join_lines (node.Rec ps) = join_lines_of_fields ps
  join_lines (node.Proj l a) = join_lines a
  join_lines (node.Inj l a) = join_lines a
  join_lines (node.Case a bs) = join_lines a ++ join_lines_of_branches bs
  join_lines (node.Make k ps) = join_lines_of_nodes ps
  join_lines (node.Union a b) = join_lines a ++ join_lines b
  join_lines (node.Ext k b s) = join_lines s ++ join_lines b
  join_lines (node.If a b c) = join_lines a ++ (join_lines b ++ join_lines c)
  join_lines (node.Let a b) = join_lines a ++ join_lines b
  join_lines (node.Prim c ps) = join_lines_of_nodes ps
  join_lines (node.Scan c) = []
  join_lines (node.Join n k how o cs i q b) =
      join_line n how i.number q ++ (join_lines o ++ (join_lines_of_nodes cs ++ (join_lines_of_key q ++ join_lines b)))
  join_lines (node.Memo n frees p) = join_lines p

  pub join_lines_of_nodes : Nodes → List ℕ
  join_lines_of_nodes no_nodes = []
  join_lines_of_nodes (nodes p ps) = join_lines p ++ join_lines_of_nodes ps

  pub join_lines_of_fields : Fields → List ℕ
  join_lines_of_fields no_fields = []
  join_lines_of_fields (fields l p ps) = join_lines p ++ join_lines_of_fields ps

  pub join_lines_of_branches : Branches → List ℕ
  join_lines_of_branches no_branches = []
  join_lines_of_branches (rest c) = join_lines c
  join_lines_of_branches (branch l b bs) = join_lines b ++ join_lines_of_branches bs

  pub join_lines_of_key : Key → List ℕ
  join_lines_of_key no_key = []
  join_lines_of_key (key l p) = join_lines p

-- ---- a plan

-- the lines of its scans, in the order of their numbers, then of its joins, then of its memos
abbrev pub explained : List (List ℕ) → Node → List ℕ
explained names p = flat_map (scan_line names) (scans_in p) ++ (join_lines p ++ flat_map memo_line (memos_in p))

-- These scans, lines of joins and memos were told behind what was told before. No public contract cites this.
pub record Tells (names : List (List ℕ)) (scans : List Scan) (joins : List ℕ) (memos : List ℕ) (old new : Lines) : Type 0 where
  pub scans_told : new.scans.items ≡ old.scans.items ++ flat_map (scan_line names) scans
  pub joins_told : new.joins.items ≡ old.joins.items ++ joins
  pub memos_told : new.memos.items ≡ old.memos.items ++ flat_map memo_line memos
