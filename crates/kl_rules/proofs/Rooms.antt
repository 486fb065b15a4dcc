-- Room in the parts of a term that has room, and what stands there once its record is unpacked.
use Rattle.std.proofs.Common.{◌≡◌, ℕ, suc, ◌+◌, ◌-◌, ◌<◌, ◌≤◌, ◌^◌, true, false, ◌&&◌, List, [], ◌∷◌, map, drop, drop-cons, get_or, length, All, is_lt, Option, Some, None, refl, sym, ap, ap₂, subst, ◌∙◌, arith, true≢false}
use Rattle.std.specs.List.{AllByRecursion}
use Rattle.std.specs.List.Sorted.{IsStrictlySortedBy}
use Rattle.std.proofs.lemmas.List.Elements.{All-from_recursion}
use Rattle.std.proofs.lemmas.Map.Keys.{sorted_head, sorted_tail}
use Rattle.std.proofs.Math.ListN.{drop_of_length-le}
use Rattle.std.proofs.Math.Bool.{and_assoc}
use Rattle.kl_base.specs.Fields.{bytes_cmp, labels_of, rises_from, rises}
use Rattle.kl_base.proofs.FieldsLemmas.{rise_strictly}
use Rattle.kl_value.specs.declared.Kind.{Kind}
use Rattle.kl_outcome.specs.Outcome.{Name}
use Rattle.kl_core.specs.declared.term.Term.{Term}
use Rattle.kl_core.specs.declared.term.Term.TheVariants as term
use Rattle.kl_core.specs.Trees.{Tree, Rec, Proj, Inj, Case, Make, Union, Ext, If, Let, Prim, Parts, Arms, arms_of, rest_of, view, view_part, trees_view, parts_view}
use Rattle.kl_core.specs.Leaves.{Leaves, LeavesOfTrees, LeavesOfParts, LeavesOfArms}
use Rattle.kl_core.specs.Positions.{AnySource, shift_of}
use Rattle.kl_core.specs.Counts.{nodes_trees, nodes_parts, nodes_arms}
use Rattle.kl_core.proofs.Views.{view_Rec, view_Proj, view_Inj, view_Make, view_Union, view_Ext, view_If, view_Let, view_Prim, view_Case, view_option, arms_view, mapped_trees, mapped_parts, mapped_arms}
use Rattle.kl_rules.specs.Rules.{ScalarReplacement}
use Rattle.kl_rules.specs.Rewriting.{IsLowPosition, IsShiftable, IsRewritten}
use Rattle.kl_rules.specs.Unpacking.{labels_at, turned_onto, bound_round, packed}
use Rattle.kl_rules.specs.Unpacked.{alone_in, alone_parts, alone_arms, unpacked, unpacked_trees, unpacked_parts, unpacked_arms, HasRoom, HasRoomArms}
use Rattle.kl_core.proofs.Sizes.{few_binders}
use Rattle.kl_rules.proofs.Lows.{small_Let}
use Rattle.kl_rules.proofs.Unpacks.{repacked, opened, packed_alone}

-- ---- room in lists

trees_room : (ts : List Term) (n : ℕ) → LeavesOfTrees IsLowPosition AnySource (trees_view ts) → n + nodes_trees (trees_view ts) < 2 ^ 31 → AllByRecursion (λ t. HasRoom (view t) n) ts
trees_room [] n h few = tt
trees_room (t ∷ ts) n h few = ((h.0, omega (arith, few)), trees_room ts n h.1 (omega (arith, few)))

parts_room : (ps : List (Name × Term)) (n : ℕ) → LeavesOfParts IsLowPosition AnySource (parts_view ps) → n + nodes_parts (parts_view ps) < 2 ^ 31 → AllByRecursion (λ p. HasRoom (view p.1) n) ps
parts_room [] n h few = tt
parts_room (p ∷ ps) n h few = ((h.0, omega (arith, few)), parts_room ps n h.1 (omega (arith, few)))

arms_room : (ps : List (Name × Term)) (last : Arms) (n : ℕ) → LeavesOfArms IsLowPosition AnySource (arms_of (map view_part ps) last) → n + 1 + nodes_arms (arms_of (map view_part ps) last) < 2 ^ 31
    → AllByRecursion (λ p. HasRoom (view p.1) (n + 1)) ps × HasRoomArms last n
arms_room [] last n h few = (tt, (h, omega (arith, few)))
arms_room (p ∷ ps) last n h few = let r = arms_room ps last n h.1 (omega (arith, few)) in (((h.0, omega (arith, few)), r.0), r.1)

-- ---- room in parts

room_at : (t : Term) (x : Tree) (n : ℕ) → view t ≡ x → HasRoom (view t) n → HasRoom x n
room_at t x n e h = subst (λ y. HasRoom y n) e h

pub room_Make : (t : Term) (k : Kind) (ts us : List Term) (n : ℕ) → t ≡ term.Make k ts → us ≡ ts → HasRoom (view t) n → All (λ t. HasRoom (view t) n) us
room_Make t k ts us n e f h = let g = room_at t (Make k (trees_view ts)) n (ap view e ∙ view_Make k ts) h in rw f (All-from_recursion _ ts (trees_room ts n g.0 (omega (arith, g.1))))

pub room_Prim : (t : Term) (c : ℕ) (ts us : List Term) (n : ℕ) → t ≡ term.Prim c ts → us ≡ ts → HasRoom (view t) n → All (λ t. HasRoom (view t) n) us
room_Prim t c ts us n e f h = let g = room_at t (Prim c (trees_view ts)) n (ap view e ∙ view_Prim c ts) h in rw f (All-from_recursion _ ts (trees_room ts n g.0 (omega (arith, g.1))))

pub room_Rec : (t : Term) (ps qs : List (Name × Term)) (n : ℕ) → t ≡ term.Rec ps → qs ≡ ps → HasRoom (view t) n → All (λ p. HasRoom (view p.1) n) qs
room_Rec t ps qs n e f h = let g = room_at t (Rec (parts_view ps)) n (ap view e ∙ view_Rec ps) h in rw f (All-from_recursion _ ps (parts_room ps n g.0 (omega (arith, g.1))))

pub room_Proj : (t : Term) (l : Name) (a : Term) (n : ℕ) → t ≡ term.Proj l a → HasRoom (view t) n → HasRoom (view a) n
room_Proj t l a n e h = let g = room_at t (Proj l (view a)) n (ap view e ∙ view_Proj l a) h in (g.0, omega (arith, g.1))

pub room_Inj : (t : Term) (l : Name) (a : Term) (n : ℕ) → t ≡ term.Inj l a → HasRoom (view t) n → HasRoom (view a) n
room_Inj t l a n e h = let g = room_at t (Inj l (view a)) n (ap view e ∙ view_Inj l a) h in (g.0, omega (arith, g.1))

pub room_Union : (t a b : Term) (n : ℕ) → t ≡ term.Union a b → HasRoom (view t) n → HasRoom (view a) n × HasRoom (view b) n
room_Union t a b n e h = let g = room_at t (Union (view a) (view b)) n (ap view e ∙ view_Union a b) h in ((g.0.0, omega (arith, g.1)), (g.0.1, omega (arith, g.1)))

pub room_Ext : (t : Term) (k : Kind) (b s : Term) (n : ℕ) → t ≡ term.Ext k b s → HasRoom (view t) n → HasRoom (view b) (n + 1) × HasRoom (view s) n
room_Ext t k b s n e h = let g = room_at t (Ext k (view b) (view s)) n (ap view e ∙ view_Ext k b s) h in ((g.0.0, omega (arith, g.1)), (g.0.1, omega (arith, g.1)))

pub room_If : (t a b c : Term) (n : ℕ) → t ≡ term.If a b c → HasRoom (view t) n → HasRoom (view a) n × HasRoom (view b) n × HasRoom (view c) n
room_If t a b c n e h =
    let g = room_at t (If (view a) (view b) (view c)) n (ap view e ∙ view_If a b c) h in
    ((g.0.0, omega (arith, g.1)), (g.0.1, omega (arith, g.1)), (g.0.2, omega (arith, g.1)))

pub room_Let : (t a b : Term) (n : ℕ) → t ≡ term.Let a b → HasRoom (view t) n → HasRoom (view a) n × HasRoom (view b) (n + 1)
room_Let t a b n e h = let g = room_at t (Let (view a) (view b)) n (ap view e ∙ view_Let a b) h in ((g.0.0, omega (arith, g.1)), (g.0.1, omega (arith, g.1)))

pub room_Case : (t a : Term) (ps qs : List (Name × Term)) (c : Option Term) (n : ℕ) → t ≡ term.Case a ps c → qs ≡ ps → HasRoom (view t) n
    → HasRoom (view a) n × All (λ p. HasRoom (view p.1) (n + 1)) qs × HasRoomArms (rest_of (view_option c)) n
room_Case t a ps qs c n e f h =
    let g = room_at t (Case (view a) (arms_view ps c)) n (ap view e ∙ view_Case a ps c) h in
    let r = arms_room ps (rest_of (view_option c)) n g.0.1 (omega (arith, g.1)) in
    ((g.0.0, omega (arith, g.1)), rw f (All-from_recursion _ ps r.0), r.1)

pub room_rest : (c : Option Term) (b d : Term) (n : ℕ) → c ≡ Some b → d ≡ b → HasRoomArms (rest_of (view_option c)) n → HasRoom (view d) n
room_rest c b d n e f h = rw f (rw e at h)

-- ---- what is unpacked

module _ (ls : List Name) where
  pub unpack_Make : (t : Term) (k : Kind) (ts us vs : List Term) (n : ℕ) → t ≡ term.Make k ts → vs ≡ ts → map view us ≡ map (λ t. unpacked ls n (view t)) vs → view (term.Make k us) ≡ unpacked ls n (view t)
  unpack_Make t k ts us vs n e f h = rw (e, view_Make, view_Make) (ap (Make k) (mapped_trees (unpacked ls n) (unpacked_trees ls n) refl (λ t ts. refl) ts us vs f h))

  pub unpack_Prim : (t : Term) (c : ℕ) (ts us vs : List Term) (n : ℕ) → t ≡ term.Prim c ts → vs ≡ ts → map view us ≡ map (λ t. unpacked ls n (view t)) vs → view (term.Prim c us) ≡ unpacked ls n (view t)
  unpack_Prim t c ts us vs n e f h = rw (e, view_Prim, view_Prim) (ap (Prim c) (mapped_trees (unpacked ls n) (unpacked_trees ls n) refl (λ t ts. refl) ts us vs f h))

  pub unpack_Rec : (t : Term) (ps qs rs : List (Name × Term)) (n : ℕ) → t ≡ term.Rec ps → rs ≡ ps → map view_part qs ≡ map (λ p. (p.0, unpacked ls n (view p.1))) rs → view (term.Rec qs) ≡ unpacked ls n (view t)
  unpack_Rec t ps qs rs n e f h = rw (e, view_Rec, view_Rec) (ap Rec (mapped_parts (unpacked ls n) (unpacked_parts ls n) refl (λ l t ps. refl) ps qs rs f h))

  pub unpack_Inj : (t : Term) (l : Name) (a x : Term) (n : ℕ) → t ≡ term.Inj l a → view x ≡ unpacked ls n (view a) → view (term.Inj l x) ≡ unpacked ls n (view t)
  unpack_Inj t l a x n e h = rw (e, view_Inj, view_Inj) (ap (Inj l) h)

  pub unpack_Union : (t a b x y : Term) (n : ℕ) → t ≡ term.Union a b → view x ≡ unpacked ls n (view a) → view y ≡ unpacked ls n (view b) → view (term.Union x y) ≡ unpacked ls n (view t)
  unpack_Union t a b x y n e h i = rw (e, view_Union, view_Union) (ap₂ Union h i)

  pub unpack_Ext : (t : Term) (k : Kind) (b s x y : Term) (n : ℕ) → t ≡ term.Ext k b s → view x ≡ unpacked ls (n + 1) (view b) → view y ≡ unpacked ls n (view s) → view (term.Ext k x y) ≡ unpacked ls n (view t)
  unpack_Ext t k b s x y n e h i = rw (e, view_Ext, view_Ext) (ap₂ (Ext k) h i)

  pub unpack_If : (t a b c x y z : Term) (n : ℕ) → t ≡ term.If a b c → view x ≡ unpacked ls n (view a) → view y ≡ unpacked ls n (view b) → view z ≡ unpacked ls n (view c) → view (term.If x y z) ≡ unpacked ls n (view t)
  unpack_If t a b c x y z n e h i j = rw (e, view_If, view_If) (ap (λ q. If q (view y) (view z)) h ∙ ap₂ (If (unpacked ls n (view a))) i j)

  pub unpack_Let : (t a b x y : Term) (n : ℕ) → t ≡ term.Let a b → view x ≡ unpacked ls n (view a) → view y ≡ unpacked ls (n + 1) (view b) → view (term.Let x y) ≡ unpacked ls n (view t)
  unpack_Let t a b x y n e h i = rw (e, view_Let, view_Let) (ap₂ Let h i)

  pub unpack_Case : (t a x : Term) (ps qs rs : List (Name × Term)) (c d : Option Term) (n : ℕ) → t ≡ term.Case a ps c → view x ≡ unpacked ls n (view a) → rs ≡ ps
      → map view_part qs ≡ map (λ p. (p.0, unpacked ls (n + 1) (view p.1))) rs → rest_of (view_option d) ≡ unpacked_arms ls n (rest_of (view_option c)) → view (term.Case x qs d) ≡ unpacked ls n (view t)
  unpack_Case t a x ps qs rs c d n e g f h i =
      view_Case x qs d
      ∙ ap₂ Case g (mapped_arms (unpacked ls (n + 1)) (unpacked_arms ls n) (λ l t bs. refl) ps qs rs (rest_of (view_option c)) (rest_of (view_option d)) f h i)
      ∙ sym (ap (unpacked ls n) (ap view e ∙ view_Case a ps c))

  pub unpack_nothing : (c : Option Term) (n : ℕ) → c ≡ None → rest_of (view_option None) ≡ unpacked_arms ls n (rest_of (view_option c))
  unpack_nothing c n e = rw e refl

  -- whether the record stands by its fields alone in a case
  alone_branches : (n : ℕ) (ps : List (Name × Term)) (last : Arms) → alone_arms ls n (arms_of (map view_part ps) last) ≡ (alone_parts ls (n + 1) (parts_view ps) && alone_arms ls n last)
  alone_branches n [] last = refl
  alone_branches n (p ∷ ps) last = ap (λ b. alone_in ls (n + 1) (view p.1) && b) (alone_branches n ps last) ∙ sym (and_assoc (alone_in ls (n + 1) (view p.1)) (alone_parts ls (n + 1) (parts_view ps)) (alone_arms ls n last))

  pub alone_case : (n : ℕ) (t a : Term) (ps : List (Name × Term)) (c : Option Term) → t ≡ term.Case a ps c
      → alone_in ls n (view t) ≡ (alone_in ls n (view a) && (alone_parts ls (n + 1) (parts_view ps) && alone_arms ls n (rest_of (view_option c))))
  alone_case n t a ps c e = ap (alone_in ls n) (ap view e ∙ view_Case a ps c) ∙ ap (λ b. alone_in ls n (view a) && b) (alone_branches n ps (rest_of (view_option c)))

-- ---- the fields bound round a body

pub labels_same : (ps : List (Name × Term)) → labels_at (parts_view ps) ≡ labels_of ps
labels_same [] = refl
labels_same (p ∷ ps) = ap (λ ls. p.0 ∷ ls) (labels_same ps)

pub bound_last : (fs : List (Name × Term)) (b : Tree) → b ≡ bound_round (parts_view (drop (length fs) fs)) (length fs) b
bound_last fs b = sym (ap (λ x. bound_round (parts_view x) (length fs) b) (drop_of_length-le fs (omega arith)))

pub bound_next : (fs : List (Name × Term)) (i : ℕ) (f : Name × Term) (b : Tree) (part whole next : Term) → 0 < i → i ≤ length fs
    → view part ≡ shift_of (view (get_or fs (i - 1) f).1) 0 (i - 1) → view whole ≡ bound_round (parts_view (drop i fs)) i b → view next ≡ Let (view part) (view whole)
    → view next ≡ bound_round (parts_view (drop (i - 1) fs)) (i - 1) b
bound_next fs i f b part whole next above within raised inside made =
    let before : suc (i - 1) ≡ i = omega (arith, above) in
    let cut : drop (i - 1) fs ≡ get_or fs (i - 1) f ∷ drop i fs = drop-cons fs (i - 1) f (omega (arith, above, within)) ∙ ap (λ k. get_or fs (i - 1) f ∷ drop k fs) before in
    let level : i ≡ i - 1 + 1 = omega (arith, above) in
    made
    ∙ ap₂ Let raised (inside ∙ ap (λ k. bound_round (parts_view (drop i fs)) k b) level)
    ∙ sym (ap (λ x. bound_round (parts_view x) (i - 1) b) cut)

pub bound_all : (fs : List (Name × Term)) (i : ℕ) (b w : Tree) → i ≤ 0 → w ≡ bound_round (parts_view (drop i fs)) i b → w ≡ bound_round (parts_view fs) 0 b
bound_all fs i b w none e = let first : i ≡ 0 = omega (arith, none) in e ∙ ap (λ k. bound_round (parts_view (drop k fs)) k b) first

-- ---- 11

unpack_only : (ps : Parts) (a u : Tree) → ScalarReplacement (Let (Rec ps) a) u
    → IsStrictlySortedBy bytes_cmp (labels_at ps) × (u ≡ bound_round ps 0 (unpacked (labels_at ps) 0 a)) × (alone_in (labels_at ps) 0 a ≡ true)
unpack_only ps a u h =
    let e : Let (Rec ps) a ≡ Let (Rec h.1) (packed (turned_onto (labels_at h.1) []) 0 h.0) = h.2 in
    let fields : ps ≡ h.1 = cc in
    let body : a ≡ packed (turned_onto (labels_at h.1) []) 0 h.0 = cc in
    let back : unpacked (labels_at h.1) 0 a ≡ h.0 = ap (unpacked (labels_at h.1) 0) body ∙ opened (labels_at h.1) h.4 h.0 0 in
    let alone : alone_in (labels_at h.1) 0 a ≡ true = ap (alone_in (labels_at h.1) 0) body ∙ packed_alone (labels_at h.1) h.4 h.0 0 in (
      subst (λ qs. IsStrictlySortedBy bytes_cmp (labels_at qs)) (sym fields) h.4,
      h.3 ∙ ap (bound_round h.1 0) (sym back) ∙ ap (λ qs. bound_round qs 0 (unpacked (labels_at qs) 0 a)) (sym fields),
      ap (λ qs. alone_in (labels_at qs) 0 a) fields ∙ alone,
    )

let_view : (t f g a : Term) (ps : List (Name × Term)) → t ≡ term.Let f a → g ≡ f → g ≡ term.Rec ps → view t ≡ Let (Rec (parts_view ps)) (view a)
let_view t f g a ps e h i = ap view e ∙ view_Let f a ∙ ap (λ x. Let x (view a)) (ap view (sym h ∙ i) ∙ view_Rec ps)

rising_from : (l : Name) (ls : List Name) → IsStrictlySortedBy bytes_cmp (l ∷ ls) → rises_from l ls ≡ true
rising_from l [] up = refl
rising_from l (m ∷ ls) up = rw (ap is_lt (sorted_head bytes_cmp l (m ∷ ls) up).0) (rising_from m ls (sorted_tail bytes_cmp l (m ∷ ls) up))

rising_told : (ls : List Name) → IsStrictlySortedBy bytes_cmp ls → rises ls ≡ true
rising_told [] up = refl
rising_told (l ∷ ls) up = rising_from l ls up

pub replaced_some : (t f g a b c r : Term) (ps qs : List (Name × Term)) → t ≡ term.Let f a → g ≡ f → g ≡ term.Rec ps → qs ≡ ps → b ≡ a → rises (labels_of qs) ≡ true → alone_in (labels_of qs) 0 (view b) ≡ true
    → view c ≡ unpacked (labels_of qs) 0 (view a) → view r ≡ bound_round (parts_view qs) 0 (view c) → IsRewritten ScalarReplacement (view t) (Some r)
replaced_some t f g a b c r ps qs e h i j k up alone body made =
    let labels : labels_at (parts_view ps) ≡ labels_of qs = labels_same ps ∙ ap labels_of (sym j) in
    let whole = let_view t f g a ps e h i in
    let rising : IsStrictlySortedBy bytes_cmp (labels_at (parts_view ps)) = subst (IsStrictlySortedBy bytes_cmp) (sym labels) (rise_strictly (labels_of qs) up) in
    let only_fields : alone_in (labels_at (parts_view ps)) 0 (view a) ≡ true = ap (λ ls. alone_in ls 0 (view a)) labels ∙ ap (λ x. alone_in (labels_of qs) 0 (view x)) (sym k) ∙ alone in
    let inside : view c ≡ unpacked (labels_at (parts_view ps)) 0 (view a) = body ∙ ap (λ ls. unpacked ls 0 (view a)) (sym labels) in
    let result : view r ≡ bound_round (parts_view ps) 0 (unpacked (labels_at (parts_view ps)) 0 (view a)) = made ∙ ap (λ x. bound_round (parts_view x) 0 (view c)) j ∙ ap (bound_round (parts_view ps) 0) inside in (
      (
        unpacked (labels_at (parts_view ps)) 0 (view a),
        parts_view ps,
        whole ∙ ap (Let (Rec (parts_view ps))) (sym (repacked (labels_at (parts_view ps)) (view a) 0 only_fields)),
        result,
        rising,
      ),
      λ u n. (unpack_only (parts_view ps) (view a) u (subst (λ x. ScalarReplacement x u) whole n)).1 ∙ sym result,
    )

pub replaced_not : (t f g a b : Term) (ps qs : List (Name × Term)) → t ≡ term.Let f a → g ≡ f → g ≡ term.Rec ps → qs ≡ ps → b ≡ a → alone_in (labels_of qs) 0 (view b) ≡ false → IsRewritten ScalarReplacement (view t) None
replaced_not t f g a b ps qs e h i j k none u n =
    let only = unpack_only (parts_view ps) (view a) u (subst (λ x. ScalarReplacement x u) (let_view t f g a ps e h i) n) in
    let labels : labels_at (parts_view ps) ≡ labels_of qs = labels_same ps ∙ ap labels_of (sym j) in
    true≢false (sym only.2 ∙ ap (λ ls. alone_in ls 0 (view a)) labels ∙ ap (λ x. alone_in (labels_of qs) 0 (view x)) (sym k) ∙ none)

pub replaced_unsorted : (t f g a : Term) (ps qs : List (Name × Term)) → t ≡ term.Let f a → g ≡ f → g ≡ term.Rec ps → qs ≡ ps → rises (labels_of qs) ≡ false → IsRewritten ScalarReplacement (view t) None
replaced_unsorted t f g a ps qs e h i j not u n =
    let only = unpack_only (parts_view ps) (view a) u (subst (λ x. ScalarReplacement x u) (let_view t f g a ps e h i) n) in
    true≢false (sym (rising_told (labels_of qs) (subst (IsStrictlySortedBy bytes_cmp) (labels_same ps ∙ ap labels_of (sym j)) only.0)) ∙ not)

-- ---- what the call of rule 11 asks of its parts

parts_many : (ps : List (Name × Term)) → length ps ≤ nodes_parts (parts_view ps)
parts_many [] = omega arith
parts_many (p ∷ ps) = let first = few_binders (view p.1) in let next = parts_many ps in omega (arith, first, next)

parts_low : (ps : List (Name × Term)) → LeavesOfParts IsLowPosition AnySource (parts_view ps) → AllByRecursion (λ f. Leaves IsLowPosition AnySource (view f.1)) ps
parts_low [] h = tt
parts_low (p ∷ ps) h = (h.0, parts_low ps h.1)

fields_small : (t f g a : Term) (ps : List (Name × Term)) → t ≡ term.Let f a → g ≡ f → g ≡ term.Rec ps → IsShiftable (view t) → IsShiftable (Rec (parts_view ps))
fields_small t f g a ps e h i small = subst IsShiftable (ap view (sym h ∙ i) ∙ view_Rec ps) (small_Let t f a e small).0

pub fields_few : (t f g a : Term) (ps qs : List (Name × Term)) → t ≡ term.Let f a → g ≡ f → g ≡ term.Rec ps → qs ≡ ps → IsShiftable (view t) → length qs < 2 ^ 31
fields_few t f g a ps qs e h i j small =
    let s = fields_small t f g a ps e h i small in
    let many = parts_many ps in
    rw j (omega (arith, s.1, many))

pub fields_low : (t f g a : Term) (ps qs : List (Name × Term)) → t ≡ term.Let f a → g ≡ f → g ≡ term.Rec ps → qs ≡ ps → IsShiftable (view t) → All (λ f. Leaves IsLowPosition AnySource (view f.1)) qs
fields_low t f g a ps qs e h i j small = rw j (All-from_recursion _ ps (parts_low ps (fields_small t f g a ps e h i small).0))

pub body_room : (t f a : Term) → t ≡ term.Let f a → IsShiftable (view t) → HasRoom (view a) 0
body_room t f a e small = let s = (small_Let t f a e small).1 in (s.0, omega (arith, s.1))
