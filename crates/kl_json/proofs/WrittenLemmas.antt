-- The equations of `json_of`.
use Rattle.std.proofs.Common.{◌≡◌, ℕ, ℤ, ◌≤◌, Bool, List, [], ◌∷◌, ◌++◌, Some, option_and_then, refl, sym, ap, ◌∙◌}
use Rattle.std.proofs.lemmas.List.{append-nil}
use Rattle.std.specs.Fmt.{signed_decimal}
use Rattle.json.specs.Json.{Json, boolean, number, string, array, object, no_members, member, value as read_value, if_last, document, max_depth}
use Rattle.json.specs.Lex.{tokens}
use Rattle.json.specs.Token.{Token}
use Rattle.json.specs.Tree.{json_tokens, depth}
use Rattle.json.proofs.Printed.Trees.{value-json_tokens}
use Rattle.kl_value.specs.declared.Value.{Value, Value-F, out-Value, map-Value, fold_out-Value}
use Rattle.kl_value.specs.declared.Value.TheVariants as value
use Rattle.kl_json.specs.Written.{json_layer, json_of, items_json, fields_json}

at_layer : (v : Value) (x : Value-F Value) → out-Value v ≡ x → json_of v ≡ json_layer (map-Value Value Json json_of x)
unfolding json_of
at_layer v x e = fold_out-Value Json json_layer v ∙ ap (λ y. json_layer (map-Value Value Json json_of y)) e

pub json-Bool : (b : Bool) → json_of (value.Bool b) ≡ boolean b
json-Bool b = at_layer _ _ (value.outs-Bool b)

pub json-Int : (n : ℤ) → json_of (value.Int n) ≡ number (signed_decimal n)
json-Int n = at_layer _ _ (value.outs-Int n)

pub json-Text : (t : List ℕ) → json_of (value.Text t) ≡ string t
json-Text t = at_layer _ _ (value.outs-Text t)

pub json-Rec : (fs : List (List ℕ × Value)) → json_of (value.Rec fs) ≡ object (fields_json fs)
json-Rec fs = at_layer _ _ (value.outs-Rec fs)

pub json-Inj : (l : List ℕ) (v : Value) → json_of (value.Inj l v) ≡ object (member l (json_of v) no_members)
json-Inj l v = at_layer _ _ (value.outs-Inj l v)

pub json-Set : (vs : List Value) → json_of (value.Set vs) ≡ array (items_json vs)
json-Set vs = at_layer _ _ (value.outs-Set vs)

pub json-Bag : (vs : List Value) → json_of (value.Bag vs) ≡ array (items_json vs)
json-Bag vs = at_layer _ _ (value.outs-Bag vs)

pub json-List : (vs : List Value) → json_of (value.List vs) ≡ array (items_json vs)
json-List vs = at_layer _ _ (value.outs-List vs)

pub ruleset jsons = (json-Bool, json-Int, json-Text, json-Rec, json-Inj, json-Set, json-Bag, json-List)

-- a member between its brackets
pub wrapped : (old inner : List Token) (first name last : Token) → (((old ++ first ∷ []) ++ name ∷ []) ++ inner) ++ last ∷ [] ≡ old ++ first ∷ name ∷ (inner ++ last ∷ [])
wrapped [] inner first name last = refl
wrapped (t ∷ ts) inner first name last = ap (λ us. t ∷ us) (wrapped ts inner first name last)

-- bytes that have the tokens of a value are that value
pub read_whole : (j : Json) (bytes : List ℕ) → tokens bytes ≡ json_tokens j → depth j ≤ max_depth → document bytes ≡ Some j
read_whole j bytes is shallow =
    ap (option_and_then (λ p. if_last p.0 p.1))
    (ap (read_value max_depth) (is ∙ sym (append-nil (json_tokens j))) ∙ value-json_tokens j max_depth [] shallow)
