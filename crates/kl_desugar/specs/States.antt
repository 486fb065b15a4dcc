-- What the code's own types stand for.
-- No public contract cites this.
use Rattle.std.specs.Prelude.{◌≡◌, Bool, List, [], ◌∷◌, ◌++◌, cond, map, Result, Ok, Err}
use Rattle.kl_base.specs.declared.NoMemory.{NoMemory}
use Rattle.kl_outcome.specs.Outcome.{Name}
use Rattle.kl_syntax.specs.declared.tree.Branch.{Branch, out-Branch}
use Rattle.kl_syntax.specs.declared.tree.Expr.{Expr}
use Rattle.kl_syntax.specs.declared.tree.Word.{Word}
use Rattle.kl_syntax.specs.Syntax.{Pat}
use Rattle.kl_syntax.specs.View.{pattern_view, view as exp_view}
use Rattle.kl_core.specs.Trees.{Tree, view}
use Rattle.kl_core.specs.Trees as term
use Rattle.kl_desugar.specs.Translation.{Scope, Place, here, inside, Code, nothing, value_by, function_by, primitive_by, Codes}
use Rattle.kl_desugar.specs.Translation.{with_code, codes_first, tree, matched_here, no_sense}
use Rattle.kl_desugar.specs.Layers.{Layered, bound, guard, opened, drawn, after_pat, pat_layers}
use Rattle.kl_desugar.specs.declared.layers.Layer.{Layer}
use Rattle.kl_desugar.specs.declared.layers.Layer.TheVariants as layer
use Rattle.kl_desugar.specs.declared.scope.Place.{Place as PlaceNow}
use Rattle.kl_desugar.specs.declared.scope.Place.TheVariants.{Here, Inside'}
use Rattle.kl_desugar.specs.declared.codes.Definition.{Definition}
use Rattle.kl_desugar.specs.declared.codes.Codes.{Codes as CodesNow}
use Rattle.kl_desugar.specs.declared.codes.Found.{Found}
use Rattle.kl_desugar.specs.declared.codes.Found.TheVariants as found

abbrev pub layer_view : Layer → Layered
layer_view (layer.Bound t) = bound (view t)
layer_view (layer.Guard t) = guard (view t)
layer_view (layer.Opened t l) = opened (view t) l
layer_view (layer.Drawn k t) = drawn k (view t)

abbrev pub layers_view : List Layer → List Layered
layers_view = map layer_view

abbrev pub place_view : PlaceNow → Place
place_view (Here m) = here m
place_view (Inside' l p t) = inside l.now (place_view t)

abbrev pub definition_code : Bool → Tree → Code
definition_code b t = cond b (function_by t) (value_by t)

abbrev pub codes_over : List Definition → Codes → Codes
codes_over [] codes = codes
codes_over (d ∷ ds) codes = with_code d.name (definition_code d.function (view d.term)) (codes_over ds codes)

abbrev pub codes_of : CodesNow → Codes
codes_of c = codes_over c.definitions.items (codes_first c.sources.now)

abbrev pub found_code : Found → Code
found_code found.Nothing = nothing
found_code (found.Value t) = value_by (view t.now)
found_code (found.Function t) = function_by (view t.now)
found_code (found.Source i) = value_by (term.Source i)
found_code (found.Primitive c) = primitive_by c

-- what a pattern asks is added to the layers, and what it binds to the scope
pub record AsksPattern (p : Pat) (t : Place) (codes : Codes) (S : Scope) (old new : Scope) (ls ms : List Layered) : Type 0 where
  pub scope : new ≡ after_pat p old
  pub layers : ms ≡ ls ++ pat_layers p t codes S old

-- what holds of a part that was not wanting
abbrev pub Given : {A : Type 0} → Result A NoMemory → (A → Type 0) → Type 0
Given (Ok x) P = P x
Given (Err e) P = ⊥

-- a field and a branch with their terms
abbrev pub field_of : Codes → Scope → Word × Expr → Name × Tree
field_of codes S f = (f.0.text, tree (exp_view f.1) codes S)

abbrev pub arm_of : Codes → Scope → Branch → Name × Tree
arm_of codes S b = (
  (out-Branch b).label.text,
  matched_here (pattern_view (out-Branch b).pat) codes S no_sense
      (λ R. tree (exp_view (out-Branch b).body) codes R),
)
