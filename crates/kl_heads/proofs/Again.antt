-- The text of a type that was read, in a head or by itself, makes a head of it again.
use Rattle.std.proofs.Common.{◌≡◌, ℕ, zero, suc, false, cond, IsTrue, List, [], ◌∷◌, ◌++◌, length, map, codes, refl, sym, ap, subst, ◌∙◌, inl, inr, Ordering, Less, Equal, Greater, Some, append_assoc, append-nil}
use Rattle.std.specs.Prelude.{is_some}
use Rattle.std.specs.List.{AllByRecursion, flat_map}
use Rattle.std.specs.List.Sorted.{IsStrictlySortedBy}
use Rattle.std.specs.Ordering.{match_ordering, ordering_reverse}
use Rattle.std.proofs.lemmas.Cmp.{nat_list_cmp_total}
use Rattle.kl_base.specs.Fields.{bytes_cmp, labels_of, LabelsRise, field}
use Rattle.kl_base.specs.Word.{is_word}
use Rattle.kl_lex.specs.Lexing.{Upto}
use Rattle.kl_lex.specs.Placing.{token_of}
use Rattle.kl_lex.specs.declared.token.Placed.{Placed}
use Rattle.kl_lex.specs.declared.token.Tok.{Tok}
use Rattle.kl_lex.specs.declared.token.Tok.TheVariants as tok
use Rattle.kl_lex.specs.Spelling.{Spelled}
use Rattle.kl_phrase.specs.Words.{Phrase}
use Rattle.kl_value.specs.declared.Kind.{Kind}
use Rattle.kl_value.specs.declared.Kind.TheVariants as kind
use Rattle.kl_value.specs.Written.{with_commas, opening, closing}
use Rattle.kl_type.specs.Grammar.{put, IsBase, Field, MoreFields, no_more, one_more, Fields, Coll, Rec, Var, Reads}
use Rattle.kl_type.specs.Ground.{labels_in, IsGround, IsRow, IsProper, row_by, ground_of}
use Rattle.kl_type.specs.Reading.{ReadsType}
use Rattle.kl_type.specs.Written.{type_text, field_text}
use Rattle.kl_type.specs.declared.ground.Ty.{Ty}
use Rattle.kl_type.specs.declared.ground.Ty.TheVariants as ty
use Rattle.kl_type.proofs.GroundLemmas.{ground-Rec, ground-Var}
use Rattle.kl_type.proofs.Proper.{reads_proper}
use Rattle.kl_type.proofs.RowLemmas.{told, never_less, labels_rise}
use Rattle.kl_type.proofs.WrittenLemmas.{text-Bool, text-Int, text-Str, text-Rec, text-Var, text-Coll}
use Rattle.kl_exchange.specs.Grammar.{Padded, More, Listed, SpellsLabel}
use Rattle.kl_heads.specs.Heads.{Types, has_label, put_all, AreNew, SpellsBase, SpellsFieldType, SpellsBracketType, SpellsType, IsHead}
use Rattle.kl_heads.proofs.Proper.{type_proper}

-- ---- fields in rising order are put in one by one as they come

turned : (l m : List ℕ) → bytes_cmp l m ≡ Less → bytes_cmp m l ≡ Greater
turned l m less = nat_list_cmp_total.antisymm m l ∙ ap ordering_reverse less

put_last : (acc : Types) (g : List ℕ × Ty) → AllByRecursion (λ a. bytes_cmp a.0 g.0 ≡ Less) acc → put acc g ≡ acc ++ g ∷ []
put_last [] g all = refl
put_last (a ∷ acc) g all =
    subst (λ o. match_ordering o (g ∷ a ∷ acc) ((a.0, g.1) ∷ acc) (a ∷ put acc g) ≡ a ∷ (acc ++ g ∷ [])) (sym (turned a.0 g.0 all.0))
    (ap (λ xs. a ∷ xs) (put_last acc g all.1))

fresh : (acc : Types) (l : List ℕ) → AllByRecursion (λ a. bytes_cmp a.0 l ≡ Less) acc → has_label acc l ≡ false
fresh [] l all = refl
fresh (a ∷ acc) l all =
    elim (told l a.0) [
      | inl same ↦ absurd (never_less l (subst (λ k. bytes_cmp k l ≡ Less) (sym same.1) all.0))
      | inr other ↦ (subst (λ b. is_some (cond b (Some a.1) (field l acc)) ≡ false) (sym other.0) (fresh acc l all.1))
    ]

below_middle : (l : List ℕ) (acc : Types) (g : List ℕ × Ty) (gs : Types) → AllByRecursion (λ m. bytes_cmp l m ≡ Less) (labels_of (acc ++ g ∷ gs)) → bytes_cmp l g.0 ≡ Less
below_middle l [] g gs all = all.0
below_middle l (a ∷ acc) g gs all = below_middle l acc g gs all.1

all_below : (acc : Types) (g : List ℕ × Ty) (gs : Types) → LabelsRise (acc ++ g ∷ gs) → AllByRecursion (λ a. bytes_cmp a.0 g.0 ≡ Less) acc
unfolding IsStrictlySortedBy
all_below [] g gs up = tt
all_below (a ∷ acc) g gs up = (below_middle a.0 acc g gs up.0, all_below acc g gs up.1)

in_order : (acc gs : Types) → LabelsRise (acc ++ gs) → (put_all acc gs ≡ acc ++ gs) × AreNew acc gs
in_order acc [] up = (sym (append-nil acc), tt)
in_order acc (g ∷ gs) up =
    let below = all_below acc g gs up in
    let last = put_last acc g below in
    let one : (acc ++ g ∷ []) ++ gs ≡ acc ++ g ∷ gs = append_assoc acc (g ∷ []) gs in
    let rest = in_order (acc ++ g ∷ []) gs (subst LabelsRise (sym one) up) in (
      ap (λ xs. put_all xs gs) last ∙ rest.0 ∙ one,
      (fresh acc g.0 below, subst (λ xs. AreNew xs gs) (sym last) rest.1),
    )

labels_are : (gs : Types) → labels_in (row_by ground_of gs) ≡ labels_of gs
labels_are [] = refl
labels_are (g ∷ gs) = ap (λ ls. g.0 ∷ ls) (labels_are gs)

rising : (gs : Types) → IsRow (row_by ground_of gs) → LabelsRise gs
rising gs good = subst (IsStrictlySortedBy bytes_cmp) (labels_are gs) (labels_rise (row_by ground_of gs) good)

-- ---- what holds of fields holds of them in their order

module _ (P : List ℕ → Type 0) (Q : Ty → Type 0) where
  abbrev Both : List ℕ × Ty → Type 0
  Both f = P f.0 × Q f.1

  put_by : (o : Ordering) (f a : List ℕ × Ty) (acc more : Types) → Both f → Both a → AllByRecursion Both acc → AllByRecursion Both more
      → AllByRecursion Both (match_ordering o (f ∷ a ∷ acc) ((a.0, f.1) ∷ acc) (a ∷ more))
  put_by Less f a acc more one here all others = (one, (here, all))
  put_by Equal f a acc more one here all others = ((here.0, one.1), all)
  put_by Greater f a acc more one here all others = (here, others)

  pub put_keeps : (acc : Types) (f : List ℕ × Ty) → AllByRecursion Both acc → Both f → AllByRecursion Both (put acc f)
  put_keeps [] f all one = (one, tt)
  put_keeps (a ∷ acc) f all one = put_by (bytes_cmp f.0 a.0) f a acc (put acc f) one all.0 all.1 (put_keeps acc f all.1 one)

  pub all_keep : (acc fs : Types) → AllByRecursion Both acc → AllByRecursion Both fs → AllByRecursion Both (put_all acc fs)
  all_keep acc [] all others = all
  all_keep acc (f ∷ fs) all others = all_keep (put acc f) fs (put_keeps acc f all others.0) others.1

-- ---- one level of the text

padded : {A : Type 0} (S : List ℕ → A → Type 0) (bytes : List ℕ) (a : A) → S bytes a → Padded S bytes a
padded S bytes a s = record { before = []; inside = bytes; after = []; is = sym (append-nil bytes); blank_before = tt; blank_after = tt; spells = s }

spaced : {A : Type 0} (S : List ℕ → A → Type 0) (bytes : List ℕ) (a : A) → S bytes a → Padded S (32 ∷ bytes) a
spaced S bytes a s =
    record { before = 32 ∷ []; inside = bytes; after = []; is = ap (λ bs. 32 ∷ bs) (sym (append-nil bytes)); blank_before = (refl, tt); blank_after = tt; spells = s }

-- the text of the type spells it
abbrev IsText : ℕ → Ty → Type 0
IsText n t = SpellsType n (type_text t) t

abbrev IsWord : List ℕ → Type 0
IsWord l = IsTrue (is_word l)

abbrev AreTexts : ℕ → Types → Type 0
AreTexts n = AllByRecursion (Both IsWord (IsText n))

base_text : (n : ℕ) (t : Ty) → SpellsBase (type_text t) t → IsText n t
base_text zero t s = s
base_text (suc n) t s = inl s

bool_text : (n : ℕ) (t : Ty) → t ≡ ty.Bool → IsText n t
bool_text n t e = base_text n t (SpellsBase.truth (ap type_text e ∙ text-Bool) e)

int_text : (n : ℕ) (t : Ty) → t ≡ ty.Int → IsText n t
int_text n t e = base_text n t (SpellsBase.number (ap type_text e ∙ text-Int) e)

string_text : (n : ℕ) (t : Ty) → t ≡ ty.Str → IsText n t
string_text n t e = base_text n t (SpellsBase.text (ap type_text e ∙ text-Str) e)

module _ (n : ℕ) where
  coll_text : (k : Kind) (item t : Ty) → t ≡ ty.Coll k item → IsText n item → IsText (suc n) t
  coll_text k item t e s =
      inr (SpellsBracketType.collection k (type_text item) item (ap type_text e ∙ (text-Coll k item ∙ append_assoc (opening k) (type_text item) (closing k)))
      (padded (SpellsType n) (type_text item) item s) e)

  field_spelled : (name : List ℕ) (f : List ℕ × Ty) → Padded SpellsLabel name f.0 → IsText n f.1
      → SpellsFieldType (SpellsType n) ((name ++ codes ": ") ++ type_text f.1) f
  field_spelled name f label s = record {
    name = name;
    text = 32 ∷ type_text f.1;
    is = append_assoc name (codes ": ") (type_text f.1);
    label = label;
    inside = spaced (SpellsType n) (type_text f.1) f.1 s;
  }

  tail : Types → List ℕ
  tail fs = flat_map (λ f. codes ", " ++ field_text f) fs

  commas : (f : List ℕ × Ty) (fs : Types) → with_commas (map field_text (f ∷ fs)) ≡ field_text f ++ tail fs
  unfolding tail
  commas f [] = sym (append-nil (field_text f))
  commas f (g ∷ gs) = append_assoc (field_text f) (codes ", ") (with_commas (map field_text (g ∷ gs))) ∙ ap (λ bs. field_text f ++ (codes ", " ++ bs)) (commas g gs)

  more_spelled : (fs : Types) → AreTexts n fs → More (SpellsFieldType (SpellsType n)) (tail fs) fs
  unfolding tail
  more_spelled [] all = refl
  more_spelled (f ∷ fs) all = (
    32 ∷ field_text f,
    flat_map (λ g. codes ", " ++ field_text g) fs,
    refl,
    field_spelled (32 ∷ f.0) f (spaced SpellsLabel f.0 f.0 (refl, all.0.0)) all.0.1,
    more_spelled fs all.1,
  )

  fields_spelled : (fs : Types) → AreTexts n fs → Listed (SpellsFieldType (SpellsType n)) (with_commas (map field_text fs)) fs
  fields_spelled [] all = tt
  fields_spelled (f ∷ fs) all = (field_text f, tail fs, commas f fs, field_spelled f.0 f (padded SpellsLabel f.0 f.0 (refl, all.0.0)) all.0.1, more_spelled fs all.1)

  rec_text : (fs : Types) (t : Ty) → t ≡ ty.Rec fs → IsProper t → AreTexts n fs → IsText (suc n) t
  rec_text fs t e good all =
      let order = in_order [] fs (rising fs (subst IsGround (ground-Rec fs) (subst IsProper e good))) in
      inr (SpellsBracketType.fields (with_commas (map field_text fs)) fs
      (ap type_text e ∙ (text-Rec fs ∙ append_assoc (codes "[") (with_commas (map field_text fs)) (codes "]"))) (fields_spelled fs all) order.1
      (e ∙ ap ty.Rec (sym order.0)))

  var_text : (fs : Types) (t : Ty) → t ≡ ty.Var fs → IsProper t → AreTexts n fs → IsText (suc n) t
  var_text [] t e good all = absurd ((subst IsGround (ground-Var []) (subst IsProper e good)).0 refl)
  var_text (f ∷ fs) t e good all =
      let order = in_order [] (f ∷ fs) (rising (f ∷ fs) (subst IsGround (ground-Var (f ∷ fs)) (subst IsProper e good)).1) in
      inr (SpellsBracketType.cases (with_commas (map field_text (f ∷ fs))) f fs
      (ap type_text e ∙ (text-Var (f ∷ fs) ∙ append_assoc (codes "<") (with_commas (map field_text (f ∷ fs))) (codes ">"))) (fields_spelled (f ∷ fs) all) order.1
      (e ∙ ap ty.Var (sym order.0)))

-- ---- a type that is spelled, somehow, is spelled by its text

module _ (n : ℕ) (each : (bytes : List ℕ) (t : Ty) → SpellsType n bytes t → IsText n t) where
  more_texts : (bytes : List ℕ) (fs : Types) → More (SpellsFieldType (SpellsType n)) bytes fs → AreTexts n fs
  more_texts bytes [] s = tt
  more_texts bytes (f ∷ fs) s = ((s.3.label.spells.1, each s.3.inside.inside f.1 s.3.inside.spells), more_texts s.1 fs s.4)

  fields_texts : (bytes : List ℕ) (fs : Types) → Listed (SpellsFieldType (SpellsType n)) bytes fs → AreTexts n fs
  fields_texts bytes [] s = tt
  fields_texts bytes (f ∷ fs) s = ((s.3.label.spells.1, each s.3.inside.inside f.1 s.3.inside.spells), more_texts s.1 fs s.4)

  bracket_again : (bytes : List ℕ) (t : Ty) → IsProper t → SpellsBracketType (SpellsType n) bytes t → IsText (suc n) t
  bracket_again bytes t good (SpellsBracketType.collection k inside item is s e) = coll_text n k item t e (each s.inside item s.spells)
  bracket_again bytes t good (SpellsBracketType.fields inside fs is s new e) =
      rec_text n (put_all [] fs) t e good (all_keep IsWord (IsText n) [] fs tt (fields_texts inside fs s))
  bracket_again bytes t good (SpellsBracketType.cases inside f fs is s new e) =
      var_text n (put_all [] (f ∷ fs)) t e good (all_keep IsWord (IsText n) [] (f ∷ fs) tt (fields_texts inside (f ∷ fs) s))

base_again : (n : ℕ) (bytes : List ℕ) (t : Ty) → SpellsBase bytes t → IsText n t
base_again n bytes t (SpellsBase.truth is e) = bool_text n t e
base_again n bytes t (SpellsBase.number is e) = int_text n t e
base_again n bytes t (SpellsBase.text is e) = string_text n t e

type_again : (n : ℕ) (bytes : List ℕ) (t : Ty) → SpellsType n bytes t → IsText n t
type_again zero bytes t s = base_again zero bytes t s
type_again (suc n) bytes t (inl s) = base_again (suc n) bytes t s
type_again (suc n) bytes t (inr s) = bracket_again n (type_again n) bytes t (type_proper (suc n) bytes t (inr s)) s

-- a head of the text
headed : (n : ℕ) (t : Ty) → IsText n t → IsHead n (codes "type " ++ (type_text t ++ codes ";")) t
headed n t s = record { before = []; blank = 32; text = type_text t; is = refl; blank_before = tt; apart = refl; states = padded (SpellsType n) (type_text t) t s }

pub head_again : (n : ℕ) (bytes : List ℕ) (t : Ty) → IsHead n bytes t → IsHead n (codes "type " ++ (type_text t ++ codes ";")) t
head_again n bytes t h = headed n t (type_again n h.states.inside t h.states.spells)

-- ---- and so is one that is read from tokens

-- a token that is a word has a word's bytes
abbrev HasWord : Placed → Type 0
HasWord p = (w : List ℕ) → p.what ≡ tok.Word w → IsWord w

all_front : (u v : List Placed) → AllByRecursion HasWord (u ++ v) → AllByRecursion HasWord u
all_front [] v all = tt
all_front (p ∷ u) v all = (all.0, all_front u v all.1)

all_back : (u v : List Placed) → AllByRecursion HasWord (u ++ v) → AllByRecursion HasWord v
all_back [] v all = all
all_back (p ∷ u) v all = all_back u v all.1

module _ (E : Phrase Placed Ty) (n : ℕ) (each : (k : ℕ) (t : Ty) (ts : List Placed) → E k t ts → AllByRecursion HasWord ts → IsText n t) where
  field_read : (fields : Types) (k : ℕ) (f : List ℕ × Ty) (ts : List Placed) → Field E fields k f ts → AllByRecursion HasWord ts → Both IsWord (IsText n) f
  field_read fields k f ts (u, v, e, (p, is, (word, free)), (x, y, d, c, s)) all =
      let split : AllByRecursion HasWord (u ++ v) = subst (AllByRecursion HasWord) e all in
      let here : AllByRecursion HasWord (p ∷ []) = subst (AllByRecursion HasWord) is (all_front u v split) in
      let inside : AllByRecursion HasWord (x ++ y) = subst (AllByRecursion HasWord) d (all_back u v split) in
      (here.0 f.0 word, each _ f.1 y s (all_back x y inside))

  more_read : {fields all : Types} {k : ℕ} {ts : List Placed} → MoreFields E fields k all ts → AllByRecursion HasWord ts → AreTexts n fields → AreTexts n all
  more_read no_more words h = h
  more_read {fields} (one_more {u = u} {v = v} f (x, y, e, c, s) r) words h =
      let here : AllByRecursion HasWord (x ++ y) = subst (AllByRecursion HasWord) e (all_front u v words) in
      more_read r (all_back u v words) (put_keeps IsWord (IsText n) fields f h (field_read fields _ f y s (all_back x y here)))

  fields_read : (k : ℕ) (all : Types) (ts : List Placed) → Fields E k all ts → AllByRecursion HasWord ts → AreTexts n all
  fields_read k all ts (f, u, v, e, s, r) words =
      let split : AllByRecursion HasWord (u ++ v) = subst (AllByRecursion HasWord) e words in
      more_read r (all_back u v split) (put_keeps IsWord (IsText n) [] f tt (field_read [] k f u s (all_front u v split)))

  coll_read : (k : Kind) (m : ℕ) (t : Ty) (ts : List Placed) → Coll E k m t ts → AllByRecursion HasWord ts → IsText (suc n) t
  coll_read k m t ts (item, is, (u, v, e, o, (x, y, d, s, c))) words =
      let behind : AllByRecursion HasWord (x ++ y) = subst (AllByRecursion HasWord) d (all_back u v (subst (AllByRecursion HasWord) e words)) in
      coll_text n k item t is (each _ item x s (all_front x y behind))

  rec_read : (m : ℕ) (t : Ty) (ts : List Placed) → IsProper t → Rec E m t ts → AllByRecursion HasWord ts → IsText (suc n) t
  rec_read m t ts good (fs, is, (u, v, e, o, (x, y, d, inl s, c))) words =
      let behind : AllByRecursion HasWord (x ++ y) = subst (AllByRecursion HasWord) d (all_back u v (subst (AllByRecursion HasWord) e words)) in
      rec_text n fs t is good (fields_read _ fs x s (all_front x y behind))
  rec_read m t ts good (fs, is, (u, v, e, o, (x, y, d, inr (none, z), c))) words = rec_text n [] t (is ∙ ap ty.Rec none) good tt

  var_read : (m : ℕ) (t : Ty) (ts : List Placed) → IsProper t → Var E m t ts → AllByRecursion HasWord ts → IsText (suc n) t
  var_read m t ts good (fs, is, (u, v, e, o, (x, y, d, s, c))) words =
      let behind : AllByRecursion HasWord (x ++ y) = subst (AllByRecursion HasWord) d (all_back u v (subst (AllByRecursion HasWord) e words)) in
      var_text n fs t is good (fields_read _ fs x s (all_front x y behind))

base_read : (n : ℕ) (t : Ty) (p : Placed) → IsBase p t → IsText n t
base_read n t p (inl (w, is)) = bool_text n t is
base_read n t p (inr (inl (w, is))) = int_text n t is
base_read n t p (inr (inr (w, is))) = string_text n t is

type_read : (n k : ℕ) (t : Ty) (ts : List Placed) → IsProper t → Reads n k t ts → AllByRecursion HasWord ts → IsText n t
type_read zero k t ts good (inr (inr (inr (inr (inr (p, e, s)))))) words = base_read zero t p s
type_read zero k t ts good (inl (m, s)) words = absurd cc
type_read zero k t ts good (inr (inl (m, s))) words = absurd cc
type_read zero k t ts good (inr (inr (inl (m, s)))) words = absurd cc
type_read zero k t ts good (inr (inr (inr (inl (m, s))))) words = absurd cc
type_read zero k t ts good (inr (inr (inr (inr (inl (m, s)))))) words = absurd cc
type_read (suc n) k t ts good (inl (m, s)) words = coll_read (Reads n) n (λ j u us r. type_read n j u us (reads_proper n j u us r) r) kind.Set k t ts s words
type_read (suc n) k t ts good (inr (inl (m, s))) words = coll_read (Reads n) n (λ j u us r. type_read n j u us (reads_proper n j u us r) r) kind.Bag k t ts s words
type_read (suc n) k t ts good (inr (inr (inl (m, s)))) words = coll_read (Reads n) n (λ j u us r. type_read n j u us (reads_proper n j u us r) r) kind.List k t ts s words
type_read (suc n) k t ts good (inr (inr (inr (inl (m, s))))) words = rec_read (Reads n) n (λ j u us r. type_read n j u us (reads_proper n j u us r) r) k t ts good s words
type_read (suc n) k t ts good (inr (inr (inr (inr (inl (m, s)))))) words = var_read (Reads n) n (λ j u us r. type_read n j u us (reads_proper n j u us r) r) k t ts good s words
type_read (suc n) k t ts good (inr (inr (inr (inr (inr (p, e, s)))))) words = base_read (suc n) t p s

spelled_word : (what : Tok) (lexeme w : List ℕ) → Spelled what lexeme → what ≡ tok.Word w → IsWord w
spelled_word what lexeme w s e = let h : Spelled (tok.Word w) lexeme = subst (λ x. Spelled x lexeme) e s in subst IsWord (sym h.1) h.0

words_of : (total : ℕ) (bytes left : List ℕ) (ts : List Placed) → Upto total bytes (map token_of ts) left → AllByRecursion HasWord ts
words_of total bytes left [] h = tt
words_of total bytes left (p ∷ ts) (front, rest, gap, here, others) =
    ((λ w e. spelled_word p.what here.starts.lexeme w here.starts.spelled e), words_of total rest left ts others)

pub read_headed : (bytes : List ℕ) (t : Ty) → ReadsType bytes t → IsHead 256 (codes "type " ++ (type_text t ++ codes ";")) t
read_headed bytes t (ts, tokens, s) = headed 256 t (type_read 256 0 t ts (reads_proper 256 0 t ts s) s (words_of (length bytes) bytes [] ts tokens))
