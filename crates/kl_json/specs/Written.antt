-- The JSON value that a value is on the way back.
use Rattle.std.specs.Prelude.{ℕ, List, [], ◌∷◌, map, ⊤}
use Rattle.std.specs.Fmt.{signed_decimal}
use Rattle.std.specs.Str.{IsUtf8}
use Rattle.json.specs.Json.{Json, null, boolean, number, string, array, object, Items, no_items, item, Members, no_members, member}
use Rattle.json.specs.Value.{items_of}
use Rattle.kl_value.specs.declared.Value.{Value, Value-F, fold-Value}

abbrev pub members_of : List (List ℕ × Json) → Members
members_of [] = no_members
members_of (f ∷ fs) = member f.0 f.1 (members_of fs)

-- One level: records and variants are objects, and collections arrays of their items in the order in which these stand.
abbrev pub json_layer : Value-F Json → Json
json_layer (Value-F.Bool b) = boolean b
json_layer (Value-F.Int n) = number (signed_decimal n)
json_layer (Value-F.Text t) = string t
json_layer (Value-F.Rec fs) = object (members_of fs)
json_layer (Value-F.Inj l j) = object (member l j no_members)
json_layer (Value-F.Set js) = array (items_of js)
json_layer (Value-F.Bag js) = array (items_of js)
json_layer (Value-F.List js) = array (items_of js)

unfoldable pub json_of : Value → Json
json_of = fold-Value Json json_layer

-- of items and of fields
abbrev pub items_json : List Value → Items
items_json vs = items_of (map json_of vs)

abbrev pub fields_json : List (List ℕ × Value) → Members
fields_json fs = members_of (map (λ f. (f.0, json_of f.1)) fs)

-- each text in it is UTF-8, and each label
abbrev mutual
  pub IsUnicode : Json → Type 0
  IsUnicode null = ⊤
  IsUnicode (boolean b) = ⊤
  IsUnicode (number s) = ⊤
  IsUnicode (string s) = IsUtf8 s
  IsUnicode (array js) = AreUnicode js
  IsUnicode (object ms) = HaveUnicode ms

  pub AreUnicode : Items → Type 0
  AreUnicode no_items = ⊤
  AreUnicode (item j js) = IsUnicode j × AreUnicode js

  pub HaveUnicode : Members → Type 0
  HaveUnicode no_members = ⊤
  HaveUnicode (member k j ms) = IsUtf8 k × IsUnicode j × HaveUnicode ms
