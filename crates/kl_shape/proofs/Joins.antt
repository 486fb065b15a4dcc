-- A shape and a value, by what they are.
use Rattle.std.proofs.Common.{◌≡◌, ◌⊎◌, inl, inr, ℕ, ◌<◌, ◌+◌, Bool, true, false, ◌&&◌, List, [], ◌∷◌, length, get_or, take, drop, take-append-drop, map, cond, Option, Some, None, Result, Ok, Err, IfOk, refl, sym, ap, subst, ◌∙◌, true≢false}
use Rattle.std.specs.Prelude.{ℤ}
use Rattle.std.specs.List.{list_all}
use Rattle.std.specs.Option.{option_map_or}
use Rattle.std.proofs.lemmas.List.{take_more}
use Rattle.std.proofs.lemmas.List.Folds.{list_all-append}
use Rattle.std.proofs.lemmas.Option.{same_Some}
use Rattle.kl_value.specs.declared.Kind.{Kind}
use Rattle.kl_value.specs.declared.Kind.TheVariants as kind
use Rattle.kl_value.specs.declared.Value.{Value, Value-F, out-Value}
use Rattle.kl_value.specs.declared.Value.TheVariants as value
use Rattle.kl_type.specs.Has.{fields_have, has_layer, has_type}
use Rattle.kl_type.specs.Parts.{items_of, record_of, same_kind, variant_of}
use Rattle.kl_type.specs.declared.ground.Ty.{Ty, Ty-F, out-Ty}
use Rattle.kl_type.proofs.HasLemmas.{has-Bool, has-Inj, has-Int, has-Rec, has-Text, has-out}
use Rattle.kl_shape.specs.Joining.{Answers, AnswersItems, AnswersLabel, AnswersRecord, IsShapeOf, Joins, are_sound, sound_variant}
use Rattle.kl_shape.specs.Parts.{bool_layer, int_layer, items_layer, items_under, may_be_bool, may_be_int, may_be_text, shape_under, text_layer, with_label}
use Rattle.kl_shape.specs.Shapes.{fits, fits_layer, has_at, sound}
use Rattle.kl_shape.specs.declared.shape.Shape.{Shape, Shape-F, out-Shape, roll-Shape, roll-out-Shape}
use Rattle.kl_shape.specs.declared.shape.Shape.TheVariants as shape
use Rattle.kl_shape.proofs.Variants.{labels_apart, labels_joined, sound_with}
use Rattle.kl_shape.proofs.Records.{AreJoined, IsApart, Shapes, Values, apart_at, joined_fields, unlike, unseen, unseen_fields}
use Rattle.kl_shape.proofs.ShapeLemmas.{fits-Bool, fits-Coll, fits-Int, fits-Rec, fits-Str, fits-Unseen, fits-Var, fits-out, sound-Coll, sound-Rec, sound-Var}

-- ---- what a shape, a value and a type are

abbrev kind_form : Kind → ℕ
kind_form kind.Set = 5
kind_form kind.Bag = 6
kind_form kind.List = 7

abbrev type_form : Ty-F Ty → ℕ
type_form Ty-F.Bool = 0
type_form Ty-F.Int = 1
type_form Ty-F.Str = 2
type_form (Ty-F.Rec ts) = 3
type_form (Ty-F.Var ts) = 4
type_form (Ty-F.Coll kind.Set t) = 5
type_form (Ty-F.Coll kind.Bag t) = 6
type_form (Ty-F.Coll kind.List t) = 7

abbrev value_form : Value-F Value → ℕ
value_form (Value-F.Bool b) = 0
value_form (Value-F.Int n) = 1
value_form (Value-F.Text s) = 2
value_form (Value-F.Rec fs) = 3
value_form (Value-F.Inj l v) = 4
value_form (Value-F.Set vs) = 5
value_form (Value-F.Bag vs) = 6
value_form (Value-F.List vs) = 7

abbrev shape_form : Shape-F Shape → Option ℕ
shape_form Shape-F.Unseen = None
shape_form Shape-F.Bool = Some 0
shape_form Shape-F.Int = Some 1
shape_form Shape-F.Str = Some 2
shape_form (Shape-F.Rec fs) = Some 3
shape_form (Shape-F.Var fs) = Some 4
shape_form (Shape-F.Coll kind.Set s) = Some 5
shape_form (Shape-F.Coll kind.Bag s) = Some 6
shape_form (Shape-F.Coll kind.List s) = Some 7

has_form : (x : Value-F Value) (t : Ty) (y : Ty-F Ty) → out-Ty t ≡ y → has_layer has_type x t ≡ true → value_form x ≡ type_form y
has_form (Value-F.Bool b) t Ty-F.Bool e h = refl
has_form (Value-F.Int n) t Ty-F.Int e h = refl
has_form (Value-F.Text s) t Ty-F.Str e h = refl
has_form (Value-F.Rec fs) t (Ty-F.Rec ts) e h = refl
has_form (Value-F.Inj l v) t (Ty-F.Var ts) e h = refl
has_form (Value-F.Set vs) t (Ty-F.Coll kind.Set u) e h = refl
has_form (Value-F.Bag vs) t (Ty-F.Coll kind.Bag u) e h = refl
has_form (Value-F.List vs) t (Ty-F.Coll kind.List u) e h = refl
has_form x t y e h = absurd (true≢false (sym (rw e at h)))

fits_form : (x : Shape-F Shape) (t : Ty) (y : Ty-F Ty) (n : ℕ) → out-Ty t ≡ y → fits_layer fits x t ≡ true → shape_form x ≡ Some n → n ≡ type_form y
fits_form Shape-F.Unseen t y n e h is = cc
fits_form Shape-F.Bool t Ty-F.Bool n e h is = cc
fits_form Shape-F.Int t Ty-F.Int n e h is = cc
fits_form Shape-F.Str t Ty-F.Str n e h is = cc
fits_form (Shape-F.Rec fs) t (Ty-F.Rec ts) n e h is = cc
fits_form (Shape-F.Var fs) t (Ty-F.Var ts) n e h is = cc
fits_form (Shape-F.Coll kind.Set s) t (Ty-F.Coll kind.Set u) n e h is = cc
fits_form (Shape-F.Coll kind.Bag s) t (Ty-F.Coll kind.Bag u) n e h is = cc
fits_form (Shape-F.Coll kind.List s) t (Ty-F.Coll kind.List u) n e h is = cc
fits_form x t y n e h is = absurd (true≢false (sym (rw e at h)))

-- a shape and a value of unlike forms have no type in common
apart : (s : Shape) (v : Value) (n : ℕ) → value_form (out-Value v) ≡ n → (shape_form (out-Shape s) ≡ None → ⊥) → (shape_form (out-Shape s) ≡ Some n → ⊥) → Joins s v None
apart s v n is seen other t = by (fits s t) (has_type v t) refl refl
  where
    form : (o : Option ℕ) → shape_form (out-Shape s) ≡ o → fits s t ≡ true → has_type v t ≡ true → ⊥
    form None e h k = seen e
    form (Some m) e h k =
        let a : m ≡ type_form (out-Ty t) = fits_form (out-Shape s) t (out-Ty t) m refl (sym (fits-out s t) ∙ h) e in
        let b : value_form (out-Value v) ≡ type_form (out-Ty t) = has_form (out-Value v) t (out-Ty t) refl (sym (has-out v t) ∙ k) in
        other (e ∙ ap Some (a ∙ sym b ∙ is))

    by : (b c : Bool) → fits s t ≡ b → has_type v t ≡ c → b && c ≡ false
    by true true h k = absurd (form (shape_form (out-Shape s)) refl h k)
    by true false h k = refl
    by false c h k = refl

rolled : (s : Shape) (x : Shape-F Shape) → out-Shape s ≡ x → s ≡ roll-Shape x
rolled s x e = sym (roll-out-Shape s) ∙ ap roll-Shape e

gap_is : (s : Shape) → shape_form (out-Shape s) ≡ None → s ≡ shape.Unseen
gap_is s = by (out-Shape s) refl
  where
    by : (x : Shape-F Shape) → out-Shape s ≡ x → shape_form x ≡ None → s ≡ shape.Unseen
    by Shape-F.Unseen e h = rolled s Shape-F.Unseen e ∙ shape.rolls-Unseen
    by Shape-F.Bool e h = cc
    by Shape-F.Int e h = cc
    by Shape-F.Str e h = cc
    by (Shape-F.Rec fs) e h = cc
    by (Shape-F.Var fs) e h = cc
    by (Shape-F.Coll kind.Set u) e h = cc
    by (Shape-F.Coll kind.Bag u) e h = cc
    by (Shape-F.Coll kind.List u) e h = cc

-- ---- truth values, integers and texts

same_twice : (b : Bool) → b ≡ b && b
same_twice true = refl
same_twice false = refl

bool_new : (b : Bool) → Joins shape.Unseen (value.Bool b) (Some shape.Bool)
bool_new b t = fits-Bool t ∙ (λ i. sym (fits-Unseen t) i && sym (has-Bool b t) i)

bool_same : (b : Bool) → Joins shape.Bool (value.Bool b) (Some shape.Bool)
bool_same b t = fits-Bool t ∙ same_twice _ ∙ (λ i. sym (fits-Bool t) i && sym (has-Bool b t) i)

pub bool_may : (s : Shape) → may_be_bool s ≡ true → (b : Bool) → Joins s (value.Bool b) (Some shape.Bool)
bool_may s may b = by (out-Shape s) refl may
  where
    by : (x : Shape-F Shape) → out-Shape s ≡ x → bool_layer x ≡ true → Joins s (value.Bool b) (Some shape.Bool)
    by Shape-F.Unseen e h = subst (λ z. Joins z (value.Bool b) (Some shape.Bool)) (sym (rolled s Shape-F.Unseen e ∙ shape.rolls-Unseen)) (bool_new b)
    by Shape-F.Bool e h = subst (λ z. Joins z (value.Bool b) (Some shape.Bool)) (sym (rolled s Shape-F.Bool e ∙ shape.rolls-Bool)) (bool_same b)
    by Shape-F.Int e h = absurd (true≢false (sym h))
    by Shape-F.Str e h = absurd (true≢false (sym h))
    by (Shape-F.Rec fs) e h = absurd (true≢false (sym h))
    by (Shape-F.Var fs) e h = absurd (true≢false (sym h))
    by (Shape-F.Coll k u) e h = absurd (true≢false (sym h))

bool_seen : (x : Shape-F Shape) → bool_layer x ≡ false → shape_form x ≡ None → ⊥
bool_seen Shape-F.Unseen h e = true≢false h
bool_seen Shape-F.Bool h e = cc
bool_seen Shape-F.Int h e = cc
bool_seen Shape-F.Str h e = cc
bool_seen (Shape-F.Rec fs) h e = cc
bool_seen (Shape-F.Var fs) h e = cc
bool_seen (Shape-F.Coll kind.Set u) h e = cc
bool_seen (Shape-F.Coll kind.Bag u) h e = cc
bool_seen (Shape-F.Coll kind.List u) h e = cc

bool_form : (x : Shape-F Shape) → bool_layer x ≡ false → shape_form x ≡ Some 0 → ⊥
bool_form Shape-F.Bool h e = true≢false h
bool_form Shape-F.Unseen h e = cc
bool_form Shape-F.Int h e = cc
bool_form Shape-F.Str h e = cc
bool_form (Shape-F.Rec fs) h e = cc
bool_form (Shape-F.Var fs) h e = cc
bool_form (Shape-F.Coll kind.Set u) h e = cc
bool_form (Shape-F.Coll kind.Bag u) h e = cc
bool_form (Shape-F.Coll kind.List u) h e = cc

pub bool_not : (s : Shape) → may_be_bool s ≡ false → (b : Bool) → Joins s (value.Bool b) None
bool_not s not b = apart s (value.Bool b) 0 (ap value_form (value.outs-Bool b)) (bool_seen (out-Shape s) not) (bool_form (out-Shape s) not)

int_new : (n : ℤ) → Joins shape.Unseen (value.Int n) (Some shape.Int)
int_new n t = fits-Int t ∙ (λ i. sym (fits-Unseen t) i && sym (has-Int n t) i)

int_same : (n : ℤ) → Joins shape.Int (value.Int n) (Some shape.Int)
int_same n t = fits-Int t ∙ same_twice _ ∙ (λ i. sym (fits-Int t) i && sym (has-Int n t) i)

pub int_may : (s : Shape) → may_be_int s ≡ true → (n : ℤ) → Joins s (value.Int n) (Some shape.Int)
int_may s may n = by (out-Shape s) refl may
  where
    by : (x : Shape-F Shape) → out-Shape s ≡ x → int_layer x ≡ true → Joins s (value.Int n) (Some shape.Int)
    by Shape-F.Unseen e h = subst (λ z. Joins z (value.Int n) (Some shape.Int)) (sym (rolled s Shape-F.Unseen e ∙ shape.rolls-Unseen)) (int_new n)
    by Shape-F.Int e h = subst (λ z. Joins z (value.Int n) (Some shape.Int)) (sym (rolled s Shape-F.Int e ∙ shape.rolls-Int)) (int_same n)
    by Shape-F.Bool e h = absurd (true≢false (sym h))
    by Shape-F.Str e h = absurd (true≢false (sym h))
    by (Shape-F.Rec fs) e h = absurd (true≢false (sym h))
    by (Shape-F.Var fs) e h = absurd (true≢false (sym h))
    by (Shape-F.Coll k u) e h = absurd (true≢false (sym h))

int_seen : (x : Shape-F Shape) → int_layer x ≡ false → shape_form x ≡ None → ⊥
int_seen Shape-F.Unseen h e = true≢false h
int_seen Shape-F.Bool h e = cc
int_seen Shape-F.Int h e = cc
int_seen Shape-F.Str h e = cc
int_seen (Shape-F.Rec fs) h e = cc
int_seen (Shape-F.Var fs) h e = cc
int_seen (Shape-F.Coll kind.Set u) h e = cc
int_seen (Shape-F.Coll kind.Bag u) h e = cc
int_seen (Shape-F.Coll kind.List u) h e = cc

int_form : (x : Shape-F Shape) → int_layer x ≡ false → shape_form x ≡ Some 1 → ⊥
int_form Shape-F.Int h e = true≢false h
int_form Shape-F.Unseen h e = cc
int_form Shape-F.Bool h e = cc
int_form Shape-F.Str h e = cc
int_form (Shape-F.Rec fs) h e = cc
int_form (Shape-F.Var fs) h e = cc
int_form (Shape-F.Coll kind.Set u) h e = cc
int_form (Shape-F.Coll kind.Bag u) h e = cc
int_form (Shape-F.Coll kind.List u) h e = cc

pub int_not : (s : Shape) → may_be_int s ≡ false → (n : ℤ) → Joins s (value.Int n) None
int_not s not n = apart s (value.Int n) 1 (ap value_form (value.outs-Int n)) (int_seen (out-Shape s) not) (int_form (out-Shape s) not)

text_new : (text : List ℕ) → Joins shape.Unseen (value.Text text) (Some shape.Str)
text_new text t = fits-Str t ∙ (λ i. sym (fits-Unseen t) i && sym (has-Text text t) i)

text_same : (text : List ℕ) → Joins shape.Str (value.Text text) (Some shape.Str)
text_same text t = fits-Str t ∙ same_twice _ ∙ (λ i. sym (fits-Str t) i && sym (has-Text text t) i)

pub text_may : (s : Shape) → may_be_text s ≡ true → (text : List ℕ) → Joins s (value.Text text) (Some shape.Str)
text_may s may text = by (out-Shape s) refl may
  where
    by : (x : Shape-F Shape) → out-Shape s ≡ x → text_layer x ≡ true → Joins s (value.Text text) (Some shape.Str)
    by Shape-F.Unseen e h = subst (λ z. Joins z (value.Text text) (Some shape.Str)) (sym (rolled s Shape-F.Unseen e ∙ shape.rolls-Unseen)) (text_new text)
    by Shape-F.Str e h = subst (λ z. Joins z (value.Text text) (Some shape.Str)) (sym (rolled s Shape-F.Str e ∙ shape.rolls-Str)) (text_same text)
    by Shape-F.Bool e h = absurd (true≢false (sym h))
    by Shape-F.Int e h = absurd (true≢false (sym h))
    by (Shape-F.Rec fs) e h = absurd (true≢false (sym h))
    by (Shape-F.Var fs) e h = absurd (true≢false (sym h))
    by (Shape-F.Coll k u) e h = absurd (true≢false (sym h))

text_seen : (x : Shape-F Shape) → text_layer x ≡ false → shape_form x ≡ None → ⊥
text_seen Shape-F.Unseen h e = true≢false h
text_seen Shape-F.Bool h e = cc
text_seen Shape-F.Int h e = cc
text_seen Shape-F.Str h e = cc
text_seen (Shape-F.Rec fs) h e = cc
text_seen (Shape-F.Var fs) h e = cc
text_seen (Shape-F.Coll kind.Set u) h e = cc
text_seen (Shape-F.Coll kind.Bag u) h e = cc
text_seen (Shape-F.Coll kind.List u) h e = cc

text_form : (x : Shape-F Shape) → text_layer x ≡ false → shape_form x ≡ Some 2 → ⊥
text_form Shape-F.Str h e = true≢false h
text_form Shape-F.Unseen h e = cc
text_form Shape-F.Bool h e = cc
text_form Shape-F.Int h e = cc
text_form (Shape-F.Rec fs) h e = cc
text_form (Shape-F.Var fs) h e = cc
text_form (Shape-F.Coll kind.Set u) h e = cc
text_form (Shape-F.Coll kind.Bag u) h e = cc
text_form (Shape-F.Coll kind.List u) h e = cc

pub text_not : (s : Shape) → may_be_text s ≡ false → (text : List ℕ) → Joins s (value.Text text) None
text_not s not text = apart s (value.Text text) 2 (ap value_form (value.outs-Text text)) (text_seen (out-Shape s) not) (text_form (out-Shape s) not)

-- ---- the same types, told otherwise

same_types : (joined : Option Shape) (p q : Ty → Bool) → ((t : Ty) → p t ≡ q t) → IsShapeOf p joined → IsShapeOf q joined
same_types (Some s) p q same h = λ t. h t ∙ same t
same_types None p q same h = λ t. sym (same t) ∙ h t

-- ---- records

module _ (fields : Values) where
  in_record : (t : Ty) (o : Option (List (List ℕ × Ty))) (ss : Shapes) → option_map_or (λ ts. fields_have fits ss ts && fields_have has_type fields ts) o false
      ≡ option_map_or (λ ts. fields_have fits ss ts) o false && option_map_or (λ ts. fields_have has_type fields ts) o false
  in_record t None ss = refl
  in_record t (Some ts) ss = refl

  pub record_seen : (shapes : Shapes) (joined : Option Shape) → AnswersRecord shapes fields joined → Answers (shape.Rec shapes) (value.Rec fields) joined
  record_seen shapes joined a = record {
    joins = same_types joined (λ t. option_map_or (λ ts. fields_have fits shapes ts && fields_have has_type fields ts) (record_of t) false) (λ t. fits (shape.Rec shapes) t && has_type (value.Rec fields) t)
        (λ t. in_record t (record_of t) shapes ∙ (λ i. sym (fits-Rec shapes t) i && sym (has-Rec fields t) i)) a.joins;
    is_sound = a.is_sound;
  }

  pub record_new : (joined : Option Shape) → AnswersRecord (map unseen fields) fields joined → Answers shape.Unseen (value.Rec fields) joined
  record_new joined a = record {
    joins = same_types joined (λ t. option_map_or (λ ts. fields_have fits (map unseen fields) ts && fields_have has_type fields ts) (record_of t) false) (λ t. fits shape.Unseen t && has_type (value.Rec fields) t)
        (λ t. by t (record_of t) ∙ (λ i. sym (fits-Unseen t) i && sym (has-Rec fields t) i)) a.joins;
    is_sound = a.is_sound;
  }
    where
      by : (t : Ty) (o : Option (List (List ℕ × Ty))) → option_map_or (λ ts. fields_have fits (map unseen fields) ts && fields_have has_type fields ts) o false ≡ option_map_or (λ ts. fields_have has_type fields ts) o false
      by t None = refl
      by t (Some ts) = unseen_fields fields ts

  pub record_other : (s : Shape) → (s ≡ shape.Unseen → ⊥) → ((fs : Shapes) → s ≡ shape.Rec fs → ⊥) → Answers s (value.Rec fields) None
  record_other s no_gap no_record = record {
    joins = apart s (value.Rec fields) 3 (ap value_form (value.outs-Rec fields)) (λ e. no_gap (gap_is s e)) (by (out-Shape s) refl);
    is_sound = tt;
  }
    where
      by : (x : Shape-F Shape) → out-Shape s ≡ x → shape_form x ≡ Some 3 → ⊥
      by (Shape-F.Rec fs) e h = no_record fs (rolled s (Shape-F.Rec fs) e ∙ shape.rolls-Rec fs)
      by Shape-F.Unseen e h = cc
      by Shape-F.Bool e h = cc
      by Shape-F.Int e h = cc
      by Shape-F.Str e h = cc
      by (Shape-F.Var fs) e h = cc
      by (Shape-F.Coll kind.Set u) e h = cc
      by (Shape-F.Coll kind.Bag u) e h = cc
      by (Shape-F.Coll kind.List u) e h = cc

  module _ (shapes : Shapes) where
    pub record_done : (js : Shapes) → AreJoined shapes fields js → are_sound js ≡ true → AnswersRecord shapes fields (Some (shape.Rec js))
    record_done js all are = record {
      joins = λ t. fits-Rec js t ∙ (λ i. option_map_or (λ ts. joined_fields shapes fields js all ts i) (record_of t) false);
      is_sound = sound-Rec js ∙ are;
    }

    nowhere : ((ts : List (List ℕ × Ty)) → fields_have fits shapes ts && fields_have has_type fields ts ≡ false) → AnswersRecord shapes fields None
    nowhere none = record { joins = λ t. by (record_of t); is_sound = tt }
      where
        by : (o : Option (List (List ℕ × Ty))) → option_map_or (λ ts. fields_have fits shapes ts && fields_have has_type fields ts) o false ≡ false
        by None = refl
        by (Some ts) = none ts

    pub record_unlike : (length shapes ≡ length fields → ⊥) → AnswersRecord shapes fields None
    record_unlike other = nowhere (unlike shapes fields other)

    pub record_apart : (i : ℕ) (s : List ℕ × Shape) (f : List ℕ × Value) → i < length shapes → i < length fields → s ≡ get_or shapes i s → f ≡ get_or fields i f → IsApart s f → AnswersRecord shapes fields None
    record_apart i s f less less' is is' no_type = nowhere (apart_at shapes fields i s f less less' is is' no_type)

-- ---- variants

module _ (label : List ℕ) (inner : Value) where
  abbrev at_label : List (List ℕ × Ty) → Bool
  at_label ts = has_at (has_type inner) label ts

  in_variant : (o : Option (List (List ℕ × Ty))) (ss : Shapes) → option_map_or (λ ts. list_all (λ f. has_at (fits f.1) f.0 ts) ss && at_label ts) o false
      ≡ option_map_or (λ ts. list_all (λ f. has_at (fits f.1) f.0 ts) ss) o false && option_map_or at_label o false
  in_variant None ss = refl
  in_variant (Some ts) ss = refl

  pub variant_seen : (shapes : Shapes) (joined : Option Shape) → AnswersLabel shapes label inner joined → Answers (shape.Var shapes) (value.Inj label inner) joined
  variant_seen shapes joined a = record {
    joins = same_types joined (λ t. option_map_or (λ ts. list_all (λ f. has_at (fits f.1) f.0 ts) shapes && at_label ts) (variant_of t) false) (λ t. fits (shape.Var shapes) t && has_type (value.Inj label inner) t)
        (λ t. in_variant (variant_of t) shapes ∙ (λ i. sym (fits-Var shapes t) i && sym (has-Inj label inner t) i)) a.joins;
    is_sound = a.is_sound;
  }

  pub variant_new : (joined : Option Shape) → AnswersLabel [] label inner joined → Answers shape.Unseen (value.Inj label inner) joined
  variant_new joined a = record {
    joins = same_types joined (λ t. option_map_or at_label (variant_of t) false) (λ t. fits shape.Unseen t && has_type (value.Inj label inner) t)
        (λ t. (λ i. sym (fits-Unseen t) i && sym (has-Inj label inner t) i)) a.joins;
    is_sound = a.is_sound;
  }

  pub variant_other : (s : Shape) → (s ≡ shape.Unseen → ⊥) → ((fs : Shapes) → s ≡ shape.Var fs → ⊥) → Answers s (value.Inj label inner) None
  variant_other s no_gap no_variant = record {
    joins = apart s (value.Inj label inner) 4 (ap value_form (value.outs-Inj label inner)) (λ e. no_gap (gap_is s e)) (by (out-Shape s) refl);
    is_sound = tt;
  }
    where
      by : (x : Shape-F Shape) → out-Shape s ≡ x → shape_form x ≡ Some 4 → ⊥
      by (Shape-F.Var fs) e h = no_variant fs (rolled s (Shape-F.Var fs) e ∙ shape.rolls-Var fs)
      by Shape-F.Unseen e h = cc
      by Shape-F.Bool e h = cc
      by Shape-F.Int e h = cc
      by Shape-F.Str e h = cc
      by (Shape-F.Rec fs) e h = cc
      by (Shape-F.Coll kind.Set u) e h = cc
      by (Shape-F.Coll kind.Bag u) e h = cc
      by (Shape-F.Coll kind.List u) e h = cc

  module _ (shapes : Shapes) where
    pub variant_done : (j : Shape) → sound_variant shapes ≡ true → Answers (shape_under label shapes) inner (Some j) → AnswersLabel shapes label inner (Some (shape.Var (with_label label j shapes)))
    variant_done j is a = record {
      joins = λ t. fits-Var (with_label label j shapes) t ∙ (λ i. option_map_or (λ ts. labels_joined label inner ts shapes j a.joins i) (variant_of t) false);
      is_sound = sound-Var (with_label label j shapes) ∙ sound_with label j shapes is a.is_sound;
    }

    pub variant_apart : Answers (shape_under label shapes) inner None → AnswersLabel shapes label inner None
    variant_apart a = record { joins = λ t. by (variant_of t); is_sound = tt }
      where
        by : (o : Option (List (List ℕ × Ty))) → option_map_or (λ ts. list_all (λ f. has_at (fits f.1) f.0 ts) shapes && at_label ts) o false ≡ false
        by None = refl
        by (Some ts) = labels_apart label inner ts shapes a.joins

-- ---- collections

kinds_told : (j k : Kind) → (j ≡ k) ⊎ (same_kind j k ≡ false)
kinds_told kind.Set kind.Set = inl refl
kinds_told kind.Bag kind.Bag = inl refl
kinds_told kind.List kind.List = inl refl
kinds_told j k = inr refl

module _ (k : Kind) (s item : Shape) where
  -- it is a gap, as its items are, or a collection's
  coll_cases : (P : Type 0) → items_under k s ≡ Some item → (s ≡ shape.Unseen → item ≡ shape.Unseen → P) → (s ≡ shape.Coll k item → P) → P
  coll_cases P is gap coll = by (out-Shape s) refl is
    where
      kinds : (j : Kind) (u : Shape) (b : Bool) → out-Shape s ≡ Shape-F.Coll j u → same_kind j k ≡ b → cond b (Some u) None ≡ Some item → P
      kinds j u true e h i = elim (kinds_told j k) [
        | inl same ↦ coll (rolled s (Shape-F.Coll j u) e ∙ shape.rolls-Coll j u ∙ ap (λ m. shape.Coll m u) same ∙ ap (λ w. shape.Coll k w) (same_Some u item i))
        | inr other ↦ absurd (true≢false (sym h ∙ other))
      ]
      kinds j u false e h i = absurd cc

      by : (x : Shape-F Shape) → out-Shape s ≡ x → items_layer k x ≡ Some item → P
      by Shape-F.Unseen e i = gap (rolled s Shape-F.Unseen e ∙ shape.rolls-Unseen) (sym (same_Some shape.Unseen item i))
      by (Shape-F.Coll j u) e i = kinds j u (same_kind j k) e refl i
      by Shape-F.Bool e i = absurd cc
      by Shape-F.Int e i = absurd cc
      by Shape-F.Str e i = absurd cc
      by (Shape-F.Rec fs) e i = absurd cc
      by (Shape-F.Var fs) e i = absurd cc

  pub sound_item : items_under k s ≡ Some item → sound s ≡ true → sound item ≡ true
  sound_item is good = coll_cases (sound item ≡ true) is (λ gap here. ap sound (here ∙ sym gap) ∙ good) (λ coll. sym (sound-Coll k item) ∙ ap sound (sym coll) ∙ good)

  module _ (v : Value) (vs : List Value) (has : (t : Ty) → has_type v t ≡ option_map_or (λ u. list_all (λ w. has_type w u) vs) (items_of k t) false) where
    pub coll_joins : (joined : Option Shape) → items_under k s ≡ Some item → AnswersItems k item vs joined → Answers s v joined
    coll_joins joined is a = record {
      joins = same_types joined (λ t. option_map_or (λ u. fits item u && list_all (λ w. has_type w u) vs) (items_of k t) false) (λ t. fits s t && has_type v t) (λ t. coll_cases
          (option_map_or (λ u. fits item u && list_all (λ w. has_type w u) vs) (items_of k t) false ≡ (fits s t && has_type v t)) is
          (λ gap here. gaps t (items_of k t) here ∙ (λ i. (sym (fits-Unseen t) ∙ ap (λ x. fits x t) (sym gap)) i && sym (has t) i))
          (λ coll. colls (items_of k t) ∙ (λ i. (sym (fits-Coll k item t) ∙ ap (λ x. fits x t) (sym coll)) i && sym (has t) i))) a.joins;
      is_sound = a.is_sound;
    }
      where
        gaps : (t : Ty) (o : Option Ty) → item ≡ shape.Unseen → option_map_or (λ u. fits item u && list_all (λ w. has_type w u) vs) o false ≡ option_map_or (λ u. list_all (λ w. has_type w u) vs) o false
        gaps t None here = refl
        gaps t (Some u) here = λ i. (ap (λ x. fits x u) here ∙ fits-Unseen u) i && list_all (λ w. has_type w u) vs

        colls : (o : Option Ty) → option_map_or (λ u. fits item u && list_all (λ w. has_type w u) vs) o false ≡ option_map_or (fits item) o false && option_map_or (λ u. list_all (λ w. has_type w u) vs) o false
        colls None = refl
        colls (Some u) = refl

form_under : (k : Kind) (x : Shape-F Shape) → items_layer k x ≡ None → shape_form x ≡ Some (kind_form k) → ⊥
form_under kind.Set (Shape-F.Coll kind.Set u) i h = cc
form_under kind.Bag (Shape-F.Coll kind.Bag u) i h = cc
form_under kind.List (Shape-F.Coll kind.List u) i h = cc
form_under kind.Set x i h = cc
form_under kind.Bag x i h = cc
form_under kind.List x i h = cc

gap_under : (k : Kind) (x : Shape-F Shape) → items_layer k x ≡ None → shape_form x ≡ None → ⊥
gap_under k Shape-F.Unseen i h = cc
gap_under k Shape-F.Bool i h = cc
gap_under k Shape-F.Int i h = cc
gap_under k Shape-F.Str i h = cc
gap_under k (Shape-F.Rec fs) i h = cc
gap_under k (Shape-F.Var fs) i h = cc
gap_under k (Shape-F.Coll kind.Set u) i h = cc
gap_under k (Shape-F.Coll kind.Bag u) i h = cc
gap_under k (Shape-F.Coll kind.List u) i h = cc

pub coll_other : (k : Kind) (s : Shape) (v : Value) → value_form (out-Value v) ≡ kind_form k → items_under k s ≡ None → Answers s v None
coll_other k s v is none = record { joins = apart s v (kind_form k) is (gap_under k (out-Shape s) none) (form_under k (out-Shape s) none); is_sound = tt }

pub set_other : (s : Shape) (vs : List Value) → items_under kind.Set s ≡ None → Answers s (value.Set vs) None
set_other s vs none = coll_other kind.Set s (value.Set vs) (ap value_form (value.outs-Set vs)) none

pub bag_other : (s : Shape) (vs : List Value) → items_under kind.Bag s ≡ None → Answers s (value.Bag vs) None
bag_other s vs none = coll_other kind.Bag s (value.Bag vs) (ap value_form (value.outs-Bag vs)) none

pub list_other : (s : Shape) (vs : List Value) → items_under kind.List s ≡ None → Answers s (value.List vs) None
list_other s vs none = coll_other kind.List s (value.List vs) (ap value_form (value.outs-List vs)) none

-- ---- the items of a collection, one by one

-- a shape has the types of the items' shape that each of these values has
abbrev pub HasJoined : Shape → List Value → Shape → Type 0
HasJoined item vs j = (u : Ty) → fits j u ≡ fits item u && list_all (λ v. has_type v u) vs

true_last : (b : Bool) → b && true ≡ b
true_last true = refl
true_last false = refl

module _ (item : Shape) (vs : List Value) (i : ℕ) (v : Value) (less : i < length vs) (at : v ≡ get_or vs i v) where
  joined_all : (u : Ty) → list_all (λ w. has_type w u) (take (i + 1) vs) ≡ list_all (λ w. has_type w u) (take i vs) && has_type v u
  joined_all u =
      ap (list_all (λ w. has_type w u)) (take_more vs i v less) ∙ list_all-append (λ w. has_type w u) (take i vs) (get_or vs i v ∷ [])
      ∙ (λ k. list_all (λ w. has_type w u) (take i vs) && (has_type (sym at k) u && true)) ∙ ap (λ b. list_all (λ w. has_type w u) (take i vs) && b) (true_last (has_type v u))

  pub items_apart : (k : Kind) (j : Shape) → HasJoined item (take i vs) j → Joins j v None → AnswersItems k item vs None
  items_apart k j before none = record { joins = λ t. by (items_of k t); is_sound = tt }
    where
      front : (u : Ty) → list_all (λ w. has_type w u) vs ≡ list_all (λ w. has_type w u) (take (i + 1) vs) && list_all (λ w. has_type w u) (drop (i + 1) vs)
      front u = ap (list_all (λ w. has_type w u)) (sym (take-append-drop (i + 1) vs)) ∙ list_all-append (λ w. has_type w u) (take (i + 1) vs) (drop (i + 1) vs)

      no_type : (a b c d : Bool) → (a && b) && c ≡ false → a && ((b && c) && d) ≡ false
      no_type false b c d e = refl
      no_type true false c d e = refl
      no_type true true c d e = ap (λ x. x && d) e

      by : (o : Option Ty) → option_map_or (λ u. fits item u && list_all (λ v. has_type v u) vs) o false ≡ false
      by None = refl
      by (Some u) =
          (λ m. fits item u && (front u ∙ ap (λ b. b && list_all (λ w. has_type w u) (drop (i + 1) vs)) (joined_all u)) m)
          ∙ no_type (fits item u) (list_all (λ w. has_type w u) (take i vs)) (has_type v u) (list_all (λ w. has_type w u) (drop (i + 1) vs))
          (sym (ap (λ b. b && has_type v u) (before u)) ∙ none u)

pub items_done : (k : Kind) (item j : Shape) (vs : List Value) → HasJoined item vs j → sound j ≡ true → AnswersItems k item vs (Some (shape.Coll k j))
items_done k item j vs has is = record {
  joins = λ t. fits-Coll k j t ∙ (λ i. option_map_or (λ u. has u i) (items_of k t) false);
  is_sound = sound-Coll k j ∙ is;
}

-- ---- an answer, told otherwise

pub if_more : {T E : Type 0} (r : Result T E) (P Q : T → Type 0) → ((x : T) → P x → Q x) → IfOk r P → IfOk r Q
if_more (Ok x) P Q more p = more x p
if_more (Err e) P Q more p = tt

pub moved : (s s' : Shape) (v v' : Value) (joined : Option Shape) → s' ≡ s → v' ≡ v → Answers s v joined → Answers s' v' joined
moved s s' v v' joined same alike a = subst (λ x. Answers x v' joined) (sym same) (subst (λ x. Answers s x joined) (sym alike) a)
