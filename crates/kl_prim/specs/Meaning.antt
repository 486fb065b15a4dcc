-- What each primitive makes of its arguments.
use Rattle.std.specs.Prelude.{◌≡◌, ◌≢◌, ℕ, ◌^◌, ℤ, pos, negsuc, ◌+ℤ◌, ◌-ℤ◌, ◌*ℤ◌, neg_ℤ, Bool, not, ◌&&◌, if◌then◌else◌, nat_lt, nat_eq}
use Rattle.std.specs.Prelude.{List, [], ◌∷◌, ◌++◌, length, drop, take, find, fold, Option, Some, None, option_and_then, unwrap_or}
use Rattle.std.specs.Prelude.{Result, Ok, Err}
use Rattle.std.specs.Option.{option_map}
use Rattle.std.specs.List.{list_all, list_any, flat_map, starts_with, ends_with}
use Rattle.std.specs.declared.cmp.Ordering.{Ordering}
use Rattle.std.specs.Ordering.{is_eq, is_ne, is_lt, is_le, is_gt, is_ge}
use Rattle.std.specs.Str.{all_ascii_digits}
use Rattle.std.specs.Str.Parse.{starts_with_minus, digits_value}
use Rattle.std.specs.Fmt.{signed_decimal}
use Rattle.kl_value.specs.Canon.{canonical}
use Rattle.kl_value.specs.Order.{compare}
use Rattle.kl_value.specs.declared.Kind.{Kind}
use Rattle.kl_value.specs.declared.Value.{Value}
use Rattle.kl_value.specs.declared.Value.TheVariants as value
use Rattle.kl_value.specs.Views.{as_bool, as_int, as_text, as_collection, items_at, collection}
use Rattle.kl_prim.specs.Records.{as_record, in_order, is_label_of, share_none, has_all, without}
use Rattle.kl_prim.specs.declared.stop.PrimStop.{PrimStop}
use Rattle.kl_prim.specs.declared.stop.PrimStop.TheVariants as stop

-- a value; an exact result that leaves the 64-bit integers; or no sense, where the arguments are not what is asked
pub data Answer : Type 0 where
  gives : Value → Answer
  overflows : Answer
  senseless : Answer

-- for private functions alone: a result says what the answer is, unless memory ran out, which hides no overflow
abbrev pub AnswersMeaning : Answer → Result Value PrimStop → Type 0
AnswersMeaning a (Ok v) = a ≡ gives v
AnswersMeaning a (Err stop.Overflow) = a ≡ overflows
AnswersMeaning a (Err stop.NoMemory) = a ≢ overflows

-- what is made of one argument, or of two, once each is read as what is asked
abbrev pub with_some : {X : Type 0} → Option X → (X → Answer) → Answer
with_some (Some x) f = f x
with_some None f = senseless

abbrev pub one : {X : Type 0} → (Value → Option X) → (X → Answer) → List Value → Answer
one as_x f (v ∷ []) = with_some (as_x v) f
one as_x f _ = senseless

abbrev pub two : {X Y : Type 0} → (Value → Option X) → (Value → Option Y) → (X → Y → Answer) → List Value → Answer
two as_x as_y f (v ∷ w ∷ []) = with_some (as_x v) (λ x. with_some (as_y w) (f x))
two as_x as_y f _ = senseless

abbrev pub as_any : Value → Option Value
as_any v = Some v

-- what each item is read as, where each can be
abbrev pub all_some : {X Y : Type 0} → (X → Option Y) → List X → Option (List Y)
all_some f [] = Some []
all_some f (x ∷ xs) = option_and_then (λ y. option_map (λ ys. y ∷ ys) (all_some f xs)) (f x)

abbrev pub as_ints : Value → Option (List ℤ)
as_ints v = option_and_then (λ c. all_some as_int c.items) (as_collection v)

-- a collection of collections of its own kind, as that kind and their items
abbrev pub as_nested : Value → Option (Kind × List (List Value))
as_nested v = option_and_then (λ c. option_map (λ lists. (c.kind, lists)) (all_some (items_at c.kind) c.items)) (as_collection v)

-- for private functions alone: the items of a value that is a collection of the kind, or none
abbrev pub listed : Kind → Value → List Value
listed k v = unwrap_or (items_at k v) []

abbrev pub truth : Bool → Answer
truth b = gives (value.Bool b)

-- whether an integer is one of 64 bits
abbrev pub fits_word : ℤ → Bool
fits_word (pos n) = nat_lt n (2 ^ 63)
fits_word (negsuc n) = nat_lt n (2 ^ 63)

abbrev pub exact : ℤ → Answer
exact z = if fits_word z then gives (value.Int z) else overflows

abbrev pub amount : ℕ → Answer
amount n = gives (value.Int (pos n))

-- by the order of values
abbrev pub equal : List Value → Answer
equal = two as_any as_any (λ v w. truth (is_eq (compare v w)))

abbrev pub unequal : List Value → Answer
unequal = two as_any as_any (λ v w. truth (is_ne (compare v w)))

abbrev pub below : List Value → Answer
below = two as_any as_any (λ v w. truth (is_lt (compare v w)))

abbrev pub at_most : List Value → Answer
at_most = two as_any as_any (λ v w. truth (is_le (compare v w)))

abbrev pub above : List Value → Answer
above = two as_any as_any (λ v w. truth (is_gt (compare v w)))

abbrev pub at_least : List Value → Answer
at_least = two as_any as_any (λ v w. truth (is_ge (compare v w)))

-- the exact result, else overflow
abbrev pub add : List Value → Answer
add = two as_int as_int (λ m n. exact (m +ℤ n))

abbrev pub subtract : List Value → Answer
subtract = two as_int as_int (λ m n. exact (m -ℤ n))

abbrev pub multiply : List Value → Answer
multiply = two as_int as_int (λ m n. exact (m *ℤ n))

abbrev pub negate : List Value → Answer
negate = one as_int (λ n. exact (neg_ℤ n))

abbrev pub complement : List Value → Answer
complement = one as_bool (λ b. truth (not b))

abbrev pub join : List Value → Answer
join = two as_text as_text (λ s t. gives (value.Text (s ++ t)))

abbrev pub is_empty : List Value → Answer
is_empty = one as_collection (λ c. truth (nat_eq (length c.items) 0))

abbrev pub count : List Value → Answer
count = one as_collection (λ c. amount (length c.items))

abbrev pub total : List ℤ → ℤ
total ns = fold ◌+ℤ◌ (pos 0) ns

abbrev pub sum : List Value → Answer
sum = one as_ints (λ ns. exact (total ns))

abbrev pub member : List Value → Answer
member = two as_any as_collection (λ v c. truth (list_any (λ w. is_eq (compare w v)) c.items))

-- the item whose comparison with each item passes a test, if there is one
abbrev pub extreme : (Ordering → Bool) → List Value → Option Value
extreme test vs = find (λ v. list_all (λ w. test (compare v w)) vs) vs

abbrev pub alone : Option Value → List Value
alone (Some v) = v ∷ []
alone None = []

-- an item that is at most, or at least, each item: it alone, or no item
abbrev pub least : List Value → Answer
least = one as_collection (λ c. gives (collection c.kind (alone (extreme is_le c.items))))

abbrev pub greatest : List Value → Answer
greatest = one as_collection (λ c. gives (collection c.kind (alone (extreme is_ge c.items))))

-- the items of the items, in order
abbrev pub flatten : List Value → Answer
flatten = one as_nested (λ n. gives (canonical n.0 (flat_map (λ vs. vs) n.1)))

-- the collection of another kind with the same items
abbrev pub into : Kind → List Value → Answer
into k = one as_collection (λ c. gives (canonical k c.items))

abbrev pub text_length : List Value → Answer
text_length = one as_text (λ t. amount (length t))

-- whether the second text is a prefix of the first
abbrev pub begins_with : List Value → Answer
begins_with = two as_text as_text (λ s t. truth (starts_with nat_eq s t))

-- the integer that a whole text writes by an optional `-` and digits, where it is one of 64 bits
abbrev pub digits_part : List ℕ → List ℕ
digits_part t = drop (if starts_with_minus t then 1 else 0) t

abbrev pub is_numeral : List ℕ → Bool
is_numeral ds = nat_lt 0 (length ds) && all_ascii_digits ds

abbrev pub signed_value : List ℕ → ℤ
signed_value t = if starts_with_minus t then neg_ℤ (pos (digits_value 10 (digits_part t))) else pos (digits_value 10 (digits_part t))

abbrev pub number_in : List ℕ → Option ℤ
number_in t = if is_numeral (digits_part t) && fits_word (signed_value t) then Some (signed_value t) else None

abbrev pub set_of_found : Option ℤ → Value
set_of_found (Some n) = value.Set (value.Int n ∷ [])
set_of_found None = value.Set []

abbrev pub to_int : List Value → Answer
to_int = one as_text (λ t. gives (set_of_found (number_in t)))

abbrev pub to_text : List Value → Answer
to_text = one as_int (λ n. gives (value.Text (signed_decimal n)))

-- all fields of two records that share no label
abbrev pub extend : List Value → Answer
extend = two as_record as_record (λ fs gs. if share_none fs gs then gives (value.Rec (in_order (fs ++ gs))) else senseless)

-- the fields of a record but for the labels of another, which it has all
abbrev pub rest : List Value → Answer
rest = two as_record as_record (λ fs gs. if has_all fs gs then gives (value.Rec (without (is_label_of gs) fs)) else senseless)

-- an integer as a number of items: none below 0
abbrev pub number_of : ℤ → ℕ
number_of (pos n) = n
number_of (negsuc n) = 0

-- so many items, from the first on, or all
abbrev pub first_items : List Value → Answer
first_items = two as_int as_collection (λ n c. gives (collection c.kind (take (number_of n) c.items)))

-- whether the second text is a suffix of the first
abbrev pub finishes_with : List Value → Answer
finishes_with = two as_text as_text (λ s t. truth (ends_with nat_eq s t))

-- for private functions alone: what arguments are read as, whatever is made of it then
abbrev pub ReadsOne : {X : Type 0} → (Value → Option X) → List Value → X → Type 0
ReadsOne {X} as_x args x = (f : X → Answer) → one as_x f args ≡ f x

abbrev pub ReadsTwo : {X Y : Type 0} → (Value → Option X) → (Value → Option Y) → List Value → X → Y → Type 0
ReadsTwo {X} {Y} as_x as_y args x y = (f : X → Y → Answer) → two as_x as_y f args ≡ f x y
