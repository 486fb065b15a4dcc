-- What the grammar says of a file determines its head, its items with their places, and its end.
use Rattle.std.proofs.Common.{◌≡◌, ℕ, ◌+◌, List, [], ◌∷◌, ◌++◌, length, Option, Some, None, refl, sym, ap, ap₂, subst, ◌∙◌, arith, append_assoc, length-append}
use Rattle.kl_type.specs.declared.ground.Ty.{Ty}
use Rattle.kl_exchange.specs.Found.{FileItem, Placed, values_of}
use Rattle.kl_exchange.proofs.FileItems.{one_first}
use Rattle.kl_heads.specs.Files.{States}
use Rattle.kl_heads.specs.Found.{FileText, IsFileText, file_text}
use Rattle.kl_heads.proofs.FoundText.{file_shows, is_file_text}
use Rattle.kl_heads.proofs.OneEnd.{cut_front, one_text}
use Rattle.kl_heads.proofs.Reaching.{one_head}

one_placed : (place : ℕ) (read left other rest : List ℕ) (xs ys : List FileItem) → Placed place read xs → Placed place other ys → values_of xs ≡ values_of ys → read ++ left ≡ other ++ rest
    → xs ≡ ys
one_placed place read left other rest [] [] items others values same = refl
one_placed place read left other rest [] (y ∷ ys) items others values same = cc
one_placed place read left other rest (x ∷ xs) [] items others values same = cc
one_placed place read left other rest (x ∷ xs) (y ∷ ys) (item, behind, is, at, spells, items) (also, behind', is', at', spells', others) values same =
    let front : item ++ (behind ++ left) ≡ also ++ (behind' ++ rest) =
    sym (ap (λ bs. bs ++ left) is ∙ append_assoc item behind left) ∙ (same ∙ (ap (λ bs. bs ++ rest) is' ∙ append_assoc also behind' rest)) in
    let one = one_first item (behind ++ left) also (behind' ++ rest) x.1 y.1 spells spells' front in
    let whole : length item + length (behind ++ left) ≡ length also + length (behind' ++ rest) =
    sym (length-append item (behind ++ left)) ∙ (ap length front ∙ length-append also (behind' ++ rest)) in
    let tails : length (behind ++ left) ≡ length (behind' ++ rest) = ap length one.1 in
    let size : place + length also ≡ place + length item = omega (arith, whole, tails) in
    let others_same : values_of xs ≡ values_of ys = cc in
    ap₂ ◌∷◌ (ap₂ (λ n v. (n, v)) (at ∙ sym at') one.0)
    (one_placed (place + length item) behind left behind' rest xs ys items (subst (λ n. Placed n behind' ys) size others) others_same one.1)

-- a head stands once at the front of bytes
pub one_states : (head : Option Ty) (a b x y : List ℕ) → States head a → States head b → a ++ x ≡ b ++ y → a ≡ b
one_states None a b x y states also same = states ∙ sym also
one_states (Some t) a b x y states also same = (one_head 256 256 a b x y t t states also same).0

one_file : (limit : ℕ) (bytes : List ℕ) (f g : FileText) → IsFileText limit bytes f → IsFileText limit bytes g → f ≡ g
one_file limit bytes f g p q =
    let one = one_text limit bytes f.head g.head (values_of f.items) (values_of g.items) f.behind g.behind (file_shows limit bytes f p) (file_shows limit bytes g q) in
    let seen : p.front ++ (p.read ++ p.left) ≡ q.front ++ (q.read ++ q.left) = sym p.seen ∙ q.seen in
    let fronts : p.front ≡ q.front = one_states f.head p.front q.front (p.read ++ p.left) (q.read ++ q.left) p.states (subst (λ h. States h q.front) (sym one.0) q.states) seen in
    let behind : p.read ++ p.left ≡ q.read ++ q.left =
    cut_front p.front (p.read ++ p.left) (q.read ++ q.left) (seen ∙ ap (λ bs. bs ++ (q.read ++ q.left)) (sym fronts)) in
    let items : f.items ≡ g.items =
    one_placed (length p.front) p.read p.left q.read q.left f.items g.items p.items (subst (λ n. Placed n q.read g.items) (ap length (sym fronts)) q.items) one.1.0 behind in
    λ i. record { head = one.0 i; items = items i; behind = one.1.1 i }

pub only_file : (limit : ℕ) (bytes : List ℕ) (f : FileText) → IsFileText limit bytes f → f ≡ file_text limit bytes
only_file limit bytes f is = one_file limit bytes f (file_text limit bytes) is (is_file_text limit bytes)
