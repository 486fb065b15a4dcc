-- What a file of values holds as a source.
use Rattle.std.specs.Prelude.{ℕ, List, [], ◌∷◌, Option, Some, None, cond}
use Rattle.std.specs.Option.{option_map}
use Rattle.kl_value.specs.declared.Value.{Value}
use Rattle.kl_type.specs.Has.{has_type}
use Rattle.kl_type.specs.declared.ground.Ty.{Ty, Ty-F, out-Ty}
use Rattle.kl_exchange.specs.FileItems.{FileEnd, WholeText, BadAt, TooDeepAt, PastLimit}
use Rattle.kl_exchange.specs.Found.{FileItem, values_of}
use Rattle.kl_heads.specs.Found.{FileText, file_text}
use Rattle.kl_heads.specs.Stated.{states_no_other, stated_in}
use Rattle.kl_ask.specs.Driver.{Behind, Nothing, StopsAt, Beyond, Spelt, Stored, Missing, Bad, Long, Deep, Rows}
use Rattle.kl_ask.specs.declared.ask.Head.{Head}
use Rattle.kl_ask.specs.declared.ask.Head.TheVariants as head

abbrev pub item_layer : Ty → Ty-F Ty → Ty
item_layer t (Ty-F.Coll k u) = u
item_layer t _ = t

-- the type of the items of a collection
abbrev pub item_ty : Ty → Ty
item_ty t = item_layer t (out-Ty t)

-- where the first item begins that lacks the type
abbrev pub first_misfit : Ty → List FileItem → Option ℕ
first_misfit t [] = None
first_misfit t (x ∷ xs) = cond (has_type x.1 t) (first_misfit t xs) (Some x.0)

abbrev pub stored_behind : ℕ → List Value → FileEnd → Stored
stored_behind limit vs WholeText = Rows vs
stored_behind limit vs (BadAt place) = Bad place
stored_behind limit vs (TooDeepAt place) = Deep place
stored_behind limit vs PastLimit = Long limit

abbrev pub stored_unless : ℕ → Option ℕ → FileText → Stored
stored_unless limit None f = stored_behind limit (values_of f.items) f.behind
stored_unless limit (Some place) f = Bad place

abbrev pub stored_as : ℕ → Ty → FileText → Stored
stored_as limit item f = cond (states_no_other item f.head) (stored_unless limit (first_misfit item f.items) f) (Bad 0)

-- Of a file at most `limit` bytes are looked at. Whichever stands first in it counts: a head of another type makes it unreadable at
-- 0, an item that lacks the type at the number of bytes of the head and the items before it.
abbrev pub stored_in : ℕ → List ℕ → Ty → Stored
stored_in limit bytes item = stored_as limit item (file_text limit bytes)

abbrev pub head_as : Option Ty → Head
head_as None = head.Absent
head_as (Some t) = head.Stated t

-- what stands behind the items
abbrev pub behind_of : FileEnd → Behind
behind_of WholeText = Nothing
behind_of (BadAt place) = StopsAt place
behind_of (TooDeepAt place) = StopsAt place
behind_of PastLimit = Beyond

-- what bytes spell, of which at most `limit` are looked at
abbrev pub spelt_in : ℕ → List ℕ → Spelt
spelt_in limit bytes = record {
  head = λ ended. option_map head_as (stated_in limit ended bytes);
  items = values_of (file_text limit bytes).items;
  behind = behind_of (file_text limit bytes).behind;
}

-- what stands at a path, read as a collection of a type
abbrev pub stored_of : ℕ → Option (List ℕ) → Ty → Stored
stored_of limit None ty = Missing
stored_of limit (Some bytes) ty = stored_in limit bytes (item_ty ty)

-- contents are told where the files tell their bytes, and a locator is a path
abbrev pub contents_of : ℕ → Option (List ℕ → Option (List ℕ)) → Option (List ℕ → Ty → Stored)
contents_of limit None = None
contents_of limit (Some files) = Some (λ locator ty. stored_of limit (files locator) ty)
