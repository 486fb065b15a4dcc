-- Terms and plans of constants, and the types that they have.
use Rattle.std.proofs.Common.{rules, ◌≡◌, ◌≤◌, ℕ, ℤ, List, [], ◌∷◌, refl, sym, ap, ◌∙◌, subst, arith}
use Rattle.std.specs.List.{IsDistinct}
use mathlib.Core.Path.{ap₂}
use Rattle.kl_value.specs.declared.Value.{Value}
use Rattle.kl_value.specs.declared.Value.TheVariants as value
use Rattle.kl_value.specs.declared.Kind.TheVariants as kind
use Rattle.kl_value.proofs.IsCanonicalLemmas.{int_made}
use Rattle.kl_type.specs.Ground.{Ground, int, coll}
use Rattle.kl_outcome.proofs.PrimLemmas.{has_int}
use Rattle.kl_core.specs.Trees.{view, Const}
use Rattle.kl_core.specs.Typing.{SourceTypes, CoreTypes}
use Rattle.kl_core.specs.Counts.{nodes_of as size_of}
use Rattle.kl_core.specs.declared.term.Term.{the_lemmas}
use Rattle.kl_core.specs.declared.term.Term.TheVariants as term
use Rattle.kl_ask.specs.Driver.{DriverKind}
use Rattle.kl_plan.specs.Nodes as node
use Rattle.kl_plan.specs.Nodes.{Node, no_nodes, nodes, view as plan_view}
use Rattle.kl_plan.specs.declared.plan.Plan.{Plan}
use Rattle.kl_plan.specs.declared.plan.Plan as plan_names
use Rattle.kl_plan.specs.declared.plan.Plan.TheVariants as plan
use Rattle.kl_plan.proofs.Views.{view_Make, view_Ext}
use Rattle.kl_sources.specs.Sources.{ArePlaced, same}
use Rattle.kl_sources.specs.declared.source.Source.{Source}
use Rattle.kl_plan.specs.Parts.{memos_of}
use Rattle.kl_scans.specs.Running.{Running}
use Rattle.kl_cursor.specs.Sense.{TypesAt}

view_Const : (v : Value) → view (term.Const v) ≡ Const v
view_Const v = search (rules, the_lemmas)

pub integer_types : (S : SourceTypes) (G : List Ground) (n : ℤ) → CoreTypes S G (view (term.Const (value.Int n))) int
integer_types S G n = subst (λ t. CoreTypes S G t int) (sym (view_Const (value.Int n))) (tt, (has_int n, int_made n))

pub constant_small : (v : Value) → size_of (view (term.Const v)) ≤ 16384
constant_small v = subst (λ t. size_of t ≤ 16384) (sym (view_Const v)) (omega arith)

none_differ : IsDistinct same []
unfolding IsDistinct
none_differ = tt

pub none_placed : (ks : List DriverKind) (ss : List Source) → ss ≡ [] → ArePlaced ks ss
none_placed ks ss none = subst (ArePlaced ks) (sym none) (record { suited = tt; fit = tt; proper = tt; differ = none_differ })

abbrev constant : ℤ → Node
constant n = node.Plain (Const (value.Int n))

view_constant : (n : ℤ) → plan_view (plan.Plain (term.Const (value.Int n))) ≡ constant n
view_constant n = search (rules, the_lemmas, plan_names.the_lemmas)

view_Var : (x : ℕ) → plan_view (plan.Var x) ≡ node.Var x
view_Var x = search (rules, plan_names.the_lemmas)

abbrev loop : ℤ → ℤ → Node
loop m n = node.Ext kind.List (node.Make kind.List (nodes (node.Var 0) (nodes (constant n) no_nodes))) (node.Make kind.List (nodes (constant m) no_nodes))

loop_view : (m n : ℤ) (body source : Plan) (bs ss : List Plan) → bs ≡ plan.Var 0 ∷ plan.Plain (term.Const (value.Int n)) ∷ [] → ss ≡ plan.Plain (term.Const (value.Int m)) ∷ []
    → body ≡ plan.Make kind.List bs → source ≡ plan.Make kind.List ss → plan_view (plan.Ext kind.List body source) ≡ loop m n
loop_view m n body source bs ss e f g h =
    let inner : plan_view body ≡ node.Make kind.List (nodes (node.Var 0) (nodes (constant n) no_nodes)) = ap plan_view g ∙ rw (view_Make, e) (rw (view_Var 0, view_constant n) refl) in
    let outer : plan_view source ≡ node.Make kind.List (nodes (constant m) no_nodes) = ap plan_view h ∙ rw (view_Make, f) (rw (view_constant m) refl) in
    view_Ext kind.List body source ∙ ap₂ (node.Ext kind.List) inner outer

pub loop_types : (m n : ℤ) (body source : Plan) (bs ss : List Plan) → bs ≡ plan.Var 0 ∷ plan.Plain (term.Const (value.Int n)) ∷ [] → ss ≡ plan.Plain (term.Const (value.Int m)) ∷ []
    → body ≡ plan.Make kind.List bs → source ≡ plan.Make kind.List ss → (w : Running) → TypesAt w [] (plan_view (plan.Ext kind.List body source)) (coll kind.List int)
loop_types m n body source bs ss e f g h w =
    let is_int : (G : List Ground) (k : ℤ) → TypesAt w G (constant k) int = λ G k. (tt, λ S. (tt, (has_int k, int_made k))) in
    subst (λ p. TypesAt w [] p (coll kind.List int)) (sym (loop_view m n body source bs ss e f g h))
    (int, kind.List, int, refl, (int, refl, tt, (is_int [] m, tt)), (int, refl, tt, ((refl, tt), (is_int (int ∷ []) n, tt))))

pub loop_memos : (m n : ℤ) (body source : Plan) (bs ss : List Plan) → bs ≡ plan.Var 0 ∷ plan.Plain (term.Const (value.Int n)) ∷ [] → ss ≡ plan.Plain (term.Const (value.Int m)) ∷ []
    → body ≡ plan.Make kind.List bs → source ≡ plan.Make kind.List ss → memos_of (plan_view (plan.Ext kind.List body source)) ≡ []
loop_memos m n body source bs ss e f g h = ap memos_of (loop_view m n body source bs ss e f g h)
