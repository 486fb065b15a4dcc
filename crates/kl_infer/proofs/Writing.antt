-- What the parts of a scheme write.
use Rattle.std.proofs.Common.{◌≡◌, ℕ, ◌+◌, ◌<◌, ◌≤◌, true, false, List, [], ◌∷◌, ◌++◌, length, take, get_or, codes, Some, None, refl, sym, ap, ◌∙◌, subst, arith, append_assoc, append-nil}
use mathlib.Core.Path.{ap₂}
use Rattle.kl_value.specs.declared.Kind.{Kind}
use Rattle.kl_base.specs.Sorted.{sorted}
use Rattle.kl_type.specs.declared.ground.Ty.{Ty}
use Rattle.kl_value.specs.Written.{opening, closing, separator}
use Rattle.kl_type.specs.Written.{type_text}
use Rattle.kl_rows.specs.declared.schemes.Scheme.{Scheme}
use Rattle.kl_rows.specs.declared.schemes.Part.{Part}
use Rattle.kl_rows.specs.declared.schemes.Part.TheVariants.{Is, AnyType, AnyRow, AnyKind}
use Rattle.kl_rows.specs.declared.schemes.Node.TheVariants as node
use Rattle.kl_infer.specs.declared.page.Page.{Page}
use Rattle.kl_infer.specs.Numbers.{Writes, limit, add_all}
use Rattle.kl_infer.specs.Printed.{scheme_text, Tree, any, base, product, choice, items, arrow, field, no_field, kind, part_tree, tree_at, by_label, variables, rest_variables, kind_variables, row_variables, text, row_text, opening_text, closing_text, name_text}
use Rattle.kl_infer.specs.Rows.{CanPrint, IsEnd, IsRowOf, is_open, kind_of, mark_behind}
use Rattle.kl_infer.proofs.PageLemmas.{nothing, next, other_words}
use Rattle.kl_infer.proofs.TreeLemmas.{some_at, tree_is, parts_can, open_tree, kind_tree, plain_tree, closed_tree}
use Rattle.kl_infer.proofs.RowLemmas.{Fields, front_variables, front_texts, piece, row_variables_are, row_text_is, variables_last, texts_last, take_more}

-- a piece, something else, and a piece
pub enclosed : (a b c d : Page) (o k : List ℕ) (vs : List ℕ) (t : List ℕ → List ℕ) → Writes a b [] (λ all. o) → Writes b c vs t → Writes c d [] (λ all. k) → Writes a d vs (λ all. (o ++ t all) ++ k)
enclosed a b c d o k vs t f g h = other_words a d (vs ++ []) vs _ _ (append-nil vs) (λ all. refl) (next a c d vs [] _ _ (next a b c [] vs _ _ f g) h)

module _ (parts : List Part) (i : ℕ) (p : Part) (can : CanPrint parts i) (here : p ≡ get_or parts i p) where
  tree : tree_at parts i ≡ part_tree (tree_at parts) i (Some p)
  tree = tree_is parts i p can (some_at parts i p can.inside here)

  pub tree_by : (q : Part) → p ≡ q → tree_at parts i ≡ part_tree (tree_at parts) i (Some q)
  tree_by q e = tree ∙ ap (λ x. part_tree (tree_at parts) i (Some x)) e

  pub in_record : (r : ℕ) → p ≡ Is (node.Rec r) → CanPrint parts r × (r < i)
  in_record r e = parts_can parts i (Is (node.Rec r)) can (some_at parts i p can.inside here ∙ ap Some e)

  pub in_variant : (r : ℕ) → p ≡ Is (node.Var r) → CanPrint parts r × (r < i)
  in_variant r e = parts_can parts i (Is (node.Var r)) can (some_at parts i p can.inside here ∙ ap Some e)

  pub in_collection : (k t : ℕ) → p ≡ Is (node.Coll k t) → (CanPrint parts k × (k < i)) × (CanPrint parts t × (t < i))
  in_collection k t e = parts_can parts i (Is (node.Coll k t)) can (some_at parts i p can.inside here ∙ ap Some e)

  pub in_arrow : (a b : ℕ) → p ≡ Is (node.Arrow a b) → (CanPrint parts a × (a < i)) × (CanPrint parts b × (b < i))
  in_arrow a b e = parts_can parts i (Is (node.Arrow a b)) can (some_at parts i p can.inside here ∙ ap Some e)

  pub open_by : is_open p ≡ true → tree_at parts i ≡ any i
  open_by e = tree ∙ open_tree (tree_at parts) i p e

  pub kind_by : (k : Kind) → kind_of p ≡ Some k → tree_at parts i ≡ kind k
  kind_by k e = tree ∙ kind_tree (tree_at parts) i p k e

  -- the mark of a row
  pub mark_open : (n : ℕ) (a b c : Page) → is_open p ≡ true → Writes a b [] (λ all. separator n) → Writes b c (i ∷ []) (name_text (codes "...'") i)
      → Writes a c (rest_variables (tree_at parts i)) (mark_behind n (tree_at parts i))
  mark_open n a b c e f g = subst (λ t. Writes a c (rest_variables t) (mark_behind n t)) (sym (open_by e)) (next a b c [] (i ∷ []) _ _ f g)

  pub mark_closed : (n : ℕ) (a : Page) → is_open p ≡ false → IsEnd (tree_at parts i) → Writes a a (rest_variables (tree_at parts i)) (mark_behind n (tree_at parts i))
  mark_closed n a e end =
      let k = closed_tree (tree_at parts) i n p e (subst IsEnd tree end) in
      subst (λ t. Writes a a (rest_variables t) (mark_behind n t)) (sym tree) (other_words a a [] _ _ _ (sym k.0) (λ all. sym (k.1 all)) (nothing a))

  -- the brackets of a collection
  pub opening_open : (a b c : Page) → is_open p ≡ true → Writes a b (i ∷ []) (name_text (codes "%") i) → Writes b c [] (λ all. codes "(")
      → Writes a c (kind_variables (tree_at parts i)) (opening_text (tree_at parts i))
  opening_open a b c e f g = subst (λ t. Writes a c (kind_variables t) (opening_text t)) (sym (open_by e)) (next a b c (i ∷ []) [] _ _ f g)

  pub opening_kind : (k : Kind) (a b : Page) → kind_of p ≡ Some k → Writes a b [] (λ all. opening k) → Writes a b (kind_variables (tree_at parts i)) (opening_text (tree_at parts i))
  opening_kind k a b e f = subst (λ t. Writes a b (kind_variables t) (opening_text t)) (sym (kind_by k e)) f

  pub opening_none : (a : Page) → is_open p ≡ false → kind_of p ≡ None → Writes a a (kind_variables (tree_at parts i)) (opening_text (tree_at parts i))
  opening_none a o e =
      let k = plain_tree (tree_at parts) i p o e in
      subst (λ t. Writes a a (kind_variables t) (opening_text t)) (sym tree) (other_words a a [] _ _ _ (sym k.variables) (λ all. sym (k.before all)) (nothing a))

  pub closing_open : (a b : Page) → is_open p ≡ true → Writes a b [] (λ all. codes ")") → Writes a b [] (λ all. closing_text (tree_at parts i))
  closing_open a b e f = subst (λ t. Writes a b [] (λ all. closing_text t)) (sym (open_by e)) f

  pub closing_kind : (k : Kind) (a b : Page) → kind_of p ≡ Some k → Writes a b [] (λ all. closing k) → Writes a b [] (λ all. closing_text (tree_at parts i))
  closing_kind k a b e f = subst (λ t. Writes a b [] (λ all. closing_text t)) (sym (kind_by k e)) f

  pub closing_none : (a : Page) → is_open p ≡ false → kind_of p ≡ None → Writes a a [] (λ all. closing_text (tree_at parts i))
  closing_none a o e =
      let k = plain_tree (tree_at parts) i p o e in
      subst (λ t. Writes a a [] (λ all. closing_text t)) (sym tree) (other_words a a [] _ _ _ refl (λ all. sym k.behind) (nothing a))

  -- a part and its text
  by_tree : (t : Tree) (a b : Page) → tree_at parts i ≡ t → Writes a b (variables t) (text t) → Writes a b (variables (tree_at parts i)) (text (tree_at parts i))
  by_tree t a b e = subst (λ x. Writes a b (variables x) (text x)) (sym e)

  pub write_base : (t : Ty) (a b : Page) (s : List ℕ) → p ≡ Is (node.Base t) → s ≡ type_text t → Writes a b [] (λ all. s) → Writes a b (variables (tree_at parts i)) (text (tree_at parts i))
  write_base t a b s e is f = by_tree (base t) a b (tree_by _ e) (subst (λ x. Writes a b [] (λ all. x)) is f)

  pub write_record : (r : ℕ) (a b c d : Page) → p ≡ Is (node.Rec r) → Writes a b [] (λ all. codes "[") → Writes b c (row_variables (tree_at parts r)) (row_text (tree_at parts r)) → Writes c d [] (λ all. codes "]")
      → Writes a d (variables (tree_at parts i)) (text (tree_at parts i))
  write_record r a b c d e f g h = by_tree (product (tree_at parts r)) a d (tree_by _ e) (enclosed a b c d (codes "[") (codes "]") _ _ f g h)

  pub write_variant : (r : ℕ) (a b c d : Page) → p ≡ Is (node.Var r) → Writes a b [] (λ all. codes "<") → Writes b c (row_variables (tree_at parts r)) (row_text (tree_at parts r)) → Writes c d [] (λ all. codes ">")
      → Writes a d (variables (tree_at parts i)) (text (tree_at parts i))
  write_variant r a b c d e f g h = by_tree (choice (tree_at parts r)) a d (tree_by _ e) (enclosed a b c d (codes "<") (codes ">") _ _ f g h)

  pub write_collection : (k t : ℕ) (a b c d : Page) → p ≡ Is (node.Coll k t) → Writes a b (kind_variables (tree_at parts k)) (opening_text (tree_at parts k))
      → Writes b c (variables (tree_at parts t)) (text (tree_at parts t)) → Writes c d [] (λ all. closing_text (tree_at parts k))
      → Writes a d (variables (tree_at parts i)) (text (tree_at parts i))
  write_collection k t a b c d e f g h =
      let vs = kind_variables (tree_at parts k) ++ variables (tree_at parts t) in
      by_tree (items (tree_at parts k) (tree_at parts t)) a d (tree_by _ e)
      (other_words a d (vs ++ []) vs _ _ (append-nil vs) (λ all. refl) (next a c d vs [] _ _ (next a b c _ _ _ _ f g) h))

  pub write_arrow : (x y : ℕ) (a b c d : Page) → p ≡ Is (node.Arrow x y) → Writes a b (variables (tree_at parts x)) (text (tree_at parts x)) → Writes b c [] (λ all. codes " -> ")
      → Writes c d (variables (tree_at parts y)) (text (tree_at parts y)) → Writes a d (variables (tree_at parts i)) (text (tree_at parts i))
  write_arrow x y a b c d e f g h =
      by_tree (arrow (tree_at parts x) (tree_at parts y)) a d (tree_by _ e)
      (other_words a d _ _ _ _ (ap (λ vs. vs ++ variables (tree_at parts y)) (append-nil (variables (tree_at parts x)))) (λ all. refl) (next a c d _ _ _ _ (next a b c _ [] _ _ f g) h))

  pub write_field : (l : List ℕ) (t r : ℕ) (a : Page) → p ≡ Is (node.Row l t r) → Writes a a (variables (tree_at parts i)) (text (tree_at parts i))
  write_field l t r a e = by_tree (field l (tree_at parts t) (tree_at parts r)) a a (tree_by _ e) (nothing a)

  pub write_no_field : (a : Page) → p ≡ Is node.EmptyRow → Writes a a (variables (tree_at parts i)) (text (tree_at parts i))
  write_no_field a e = by_tree no_field a a (tree_by _ e) (nothing a)

  pub write_kind : (k : Kind) (a : Page) → p ≡ Is (node.Fixed k) → Writes a a (variables (tree_at parts i)) (text (tree_at parts i))
  write_kind k a e = by_tree (kind k) a a (tree_by _ e) (nothing a)

  pub write_any : (a b : Page) → is_open p ≡ true → Writes a b (i ∷ []) (name_text (codes "'") i) → Writes a b (variables (tree_at parts i)) (text (tree_at parts i))
  write_any a b e f = by_tree (any i) a b (open_by e) f

pub is_any_type : (p : Part) → p ≡ AnyType → is_open p ≡ true
is_any_type p e = ap is_open e

pub is_any_row : (p : Part) (ls : List (List ℕ)) → p ≡ AnyRow ls → is_open p ≡ true
is_any_row p ls e = ap is_open e

pub is_any_kind : (p : Part) → p ≡ AnyKind → is_open p ≡ true
is_any_kind p e = ap is_open e

module _ (parts : List Part) (fs : Fields) where
  -- one field of a row
  pub write_more : (i : ℕ) (f : List ℕ × ℕ) (a b c d e g : Page) (sep label : List ℕ) → i < length fs → f ≡ get_or fs i f → length (take i fs) ≡ i → sep ≡ separator i → label ≡ f.0
      → Writes a b (front_variables parts (take i fs)) (front_texts parts 0 (take i fs)) → Writes b c [] (λ all. sep) → Writes c d [] (λ all. label) → Writes d e [] (λ all. codes ": ")
      → Writes e g (variables (tree_at parts f.1)) (text (tree_at parts f.1)) → Writes a g (front_variables parts (take (i + 1) fs)) (front_texts parts 0 (take (i + 1) fs))
  write_more i f a b c d e g sep label lt is size same named w x y z v =
      let taken = take_more fs i f lt is in
      let vs = front_variables parts (take i fs) in
      let zero : 0 + length (take i fs) ≡ length (take i fs) = omega arith in
      let last = variables (tree_at parts f.1) in
      let all_of = next a e g ((vs ++ []) ++ [] ++ []) last _ _ (next a d e ((vs ++ []) ++ []) [] _ _ (next a c d (vs ++ []) [] _ _ (next a b c vs [] _ _ w x) y) z) v in
      other_words a g _ _ _ _
      (ap (λ xs. xs ++ last) (append-nil ((vs ++ []) ++ []) ∙ append-nil (vs ++ []) ∙ append-nil vs) ∙ sym (ap (front_variables parts) taken ∙ variables_last parts (take i fs) f))
      (λ all. ap (λ s. ((((front_texts parts 0 (take i fs) all ++ s) ++ label) ++ codes ": ") ++ text (tree_at parts f.1) all)) (same ∙ ap separator (sym size))
      ∙ (ap (λ l. ((((front_texts parts 0 (take i fs) all ++ separator (length (take i fs))) ++ l) ++ codes ": ") ++ text (tree_at parts f.1) all)) named
      ∙ (regroup (front_texts parts 0 (take i fs) all) (separator (length (take i fs))) f.0 (codes ": ") (text (tree_at parts f.1) all)
      ∙ sym (ap (λ gs. front_texts parts 0 gs all) taken ∙ texts_last parts 0 (take i fs) f all ∙ ap (λ n. front_texts parts 0 (take i fs) all ++ (separator n ++ piece parts f all)) zero))))
      all_of
    where
      regroup : (a b c d e : List ℕ) → (((a ++ b) ++ c) ++ d) ++ e ≡ a ++ (b ++ ((c ++ d) ++ e))
      regroup a b c d e = simp append_assoc

  -- all fields and the mark
  pub write_row : (place end : ℕ) (written : Fields) (a b c : Page) → IsRowOf parts place written end → fs ≡ sorted by_label written → take (length fs) fs ≡ fs
      → Writes a b (front_variables parts (take (length fs) fs)) (front_texts parts 0 (take (length fs) fs)) → Writes b c (rest_variables (tree_at parts end)) (mark_behind (length fs) (tree_at parts end))
      → Writes a c (row_variables (tree_at parts place)) (row_text (tree_at parts place))
  write_row place end written a b c row up whole f g =
      let w = subst (λ gs. Writes a b (front_variables parts gs) (front_texts parts 0 gs)) whole f in
      other_words a c _ _ _ _ (row_variables_are parts place end written fs row up) (row_text_is parts place end written fs row up) (next a b c _ _ _ _ w g)

-- the whole text on a new page
module _ (s : Scheme) (parts : List Part) (a b : Page) (same : parts ≡ s.nodes) (none : a.seen.items ≡ []) (empty : a.out.items ≡ []) (w : Writes a b (variables (tree_at parts s.root)) (text (tree_at parts s.root))) where
  whole : a.out.items ++ text (tree_at parts s.root) (add_all a.seen.items (variables (tree_at parts s.root))) ≡ scheme_text s
  whole =
      ap₂ (λ (xs ys : List ℕ). xs ++ text (tree_at parts s.root) (add_all ys (variables (tree_at parts s.root)))) empty none
      ∙ ap (λ (ps : List Part). text (tree_at ps s.root) (add_all [] (variables (tree_at ps s.root)))) same

  pub too_long : a.full ≡ false → b.full ≡ true → limit < length (scheme_text s)
  too_long e f = subst (λ (xs : List ℕ). limit < length xs) whole (w.longer e f [])

  pub fits_well : b.full ≡ false → (b.out.items ≡ scheme_text s) × (length b.out.items ≤ limit)
  fits_well e = (w.written e [] ∙ whole, w.fits (subst (λ (xs : List ℕ). length xs ≤ limit) (sym empty) (omega arith)))
