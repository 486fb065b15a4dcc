-- Collections as values that are read.
use Rattle.std.proofs.Common.{◌≡◌, List, Some, sym, ap, ◌∙◌}
use Rattle.kl_value.specs.Views.{Collection, as_collection, collection, collection_layer, items_layer}
use Rattle.kl_value.specs.declared.value.Kind.{Kind}
use Rattle.kl_value.specs.declared.value.Kind.TheVariants as kind
use Rattle.kl_value.specs.declared.value.Value.{Value, Value-F, out-Value, roll-Value, roll-out-Value}
use Rattle.kl_value.specs.declared.value.Value.TheVariants as value

pub collection_is : (k : Kind) (vs : List Value) → as_collection (collection k vs) ≡ Some (record { kind = k; items = vs })
collection_is kind.Set vs = ap collection_layer (value.outs-Set vs)
collection_is kind.Bag vs = ap collection_layer (value.outs-Bag vs)
collection_is kind.List vs = ap collection_layer (value.outs-List vs)

form_layer : (x : Value-F Value) (c : Collection) → collection_layer x ≡ Some c → roll-Value x ≡ collection c.kind c.items
form_layer (Value-F.Set vs) c e = let same : record { kind = kind.Set; items = vs } ≡ c = cc in value.rolls-Set vs ∙ ap (λ d. collection d.kind d.items) same
form_layer (Value-F.Bag vs) c e = let same : record { kind = kind.Bag; items = vs } ≡ c = cc in value.rolls-Bag vs ∙ ap (λ d. collection d.kind d.items) same
form_layer (Value-F.List vs) c e = let same : record { kind = kind.List; items = vs } ≡ c = cc in value.rolls-List vs ∙ ap (λ d. collection d.kind d.items) same
form_layer x c e = cc

-- a value that is read as a collection is that one
pub collection_form : (v : Value) (c : Collection) → as_collection v ≡ Some c → v ≡ collection c.kind c.items
collection_form v c e = sym (roll-out-Value v) ∙ form_layer (out-Value v) c e

pub items_form : (k : Kind) (x : Value-F Value) (vs : List Value) → items_layer k x ≡ Some vs → collection_layer x ≡ Some (record { kind = k; items = vs })
items_form kind.Set (Value-F.Set us) vs e = let same : us ≡ vs = cc in ap (λ ws. Some (record { kind = kind.Set; items = ws })) same
items_form kind.Bag (Value-F.Bag us) vs e = let same : us ≡ vs = cc in ap (λ ws. Some (record { kind = kind.Bag; items = ws })) same
items_form kind.List (Value-F.List us) vs e = let same : us ≡ vs = cc in ap (λ ws. Some (record { kind = kind.List; items = ws })) same
items_form k x vs e = cc
