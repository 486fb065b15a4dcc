-- Sums over the scans of a plan.
use Rattle.std.proofs.Common.{◌≡◌, ⊎_elim, ℕ, ◌+◌, ◌-◌, ◌^◌, Bool, true, false, List, [], ◌∷◌, map, min, cond, nat_eq, refl, sym, subst, arith}
use Rattle.std.specs.List.{AllByRecursion, IsDistinct, Contains, sum_by}
use Rattle.std.proofs.lemmas.List.Elements.{Contains-append_cases, Contains-append_left, Contains-append_right, Contains-push, Contains-push_cases}
use Rattle.std.proofs.lemmas.List.Sums.{sum_by-cons}
use Rattle.kl_plan.specs.declared.plan.Scan.{Scan}
use Rattle.kl_plan.specs.Holding.{Listing}
use Rattle.kl_scans.specs.Log.{Event, started, handed, joined, missed, hit, IsOf}
use Rattle.kl_scans.proofs.Counted.{eq_self}
use Rattle.kl_counts.specs.Log.{times_in}
use Rattle.kl_counts.proofs.Differing.{other_back}

abbrev pub numbers : List Scan → List ℕ
numbers = map (λ c. c.number)

abbrev at_number : ℕ → Scan → ℕ
at_number n c = cond (nat_eq c.number n) 1 0

pub not_in_none : (c : Scan) → Contains [] c → ⊥
not_in_none c i = let below = i.1 in omega arith

pub first_in : (d : Scan) (cs : List Scan) → Contains (d ∷ cs) d
first_in d cs = Contains-append_left (d ∷ []) cs d (Contains-push [] d)

pub later_in : (d : Scan) (cs : List Scan) (c : Scan) → Contains cs c → Contains (d ∷ cs) c
later_in d cs c i = Contains-append_right (d ∷ []) cs c i

pub in_cases : {A : Type 0} (d : Scan) (cs : List Scan) (c : Scan) → Contains (d ∷ cs) c → (d ≡ c → A) → (Contains cs c → A) → A
in_cases d cs c i here there =
    ⊎_elim (λ first. ⊎_elim (λ none. absurd (not_in_none c none)) here (Contains-push_cases [] d c first)) there (Contains-append_cases (d ∷ []) cs c i)

pub sum_same : (f g : Scan → ℕ) (cs : List Scan) → ((c : Scan) → Contains cs c → f c ≡ g c) → sum_by f cs ≡ sum_by g cs
sum_same f g [] same = refl
sum_same f g (c ∷ cs) same =
    let first : f c ≡ g c = same c (first_in c cs) in
    let rest : sum_by f cs ≡ sum_by g cs = sum_same f g cs (λ d i. same d (later_in c cs d i)) in
    let e : sum_by f (c ∷ cs) ≡ f c + sum_by f cs = sum_by-cons f c cs in
    let h : sum_by g (c ∷ cs) ≡ g c + sum_by g cs = sum_by-cons g c cs in
    omega arith

sum_both : (f g h : Scan → ℕ) (cs : List Scan) → ((c : Scan) → h c ≡ f c + g c) → sum_by h cs ≡ sum_by f cs + sum_by g cs
sum_both f g h [] same = omega arith
sum_both f g h (c ∷ cs) same =
    let first : h c ≡ f c + g c = same c in
    let rest : sum_by h cs ≡ sum_by f cs + sum_by g cs = sum_both f g h cs same in
    let e : sum_by f (c ∷ cs) ≡ f c + sum_by f cs = sum_by-cons f c cs in
    let i : sum_by g (c ∷ cs) ≡ g c + sum_by g cs = sum_by-cons g c cs in
    let j : sum_by h (c ∷ cs) ≡ h c + sum_by h cs = sum_by-cons h c cs in
    omega arith

sum_none : (f : Scan → ℕ) (cs : List Scan) → ((c : Scan) → Contains cs c → f c ≡ 0) → sum_by f cs ≡ 0
sum_none f [] none = refl
sum_none f (c ∷ cs) none =
    let first : f c ≡ 0 = none c (first_in c cs) in
    let rest : sum_by f cs ≡ 0 = sum_none f cs (λ d i. none d (later_in c cs d i)) in
    let e : sum_by f (c ∷ cs) ≡ f c + sum_by f cs = sum_by-cons f c cs in
    omega arith

-- of counts that each stand still at their greatest value
pub sum_capped : (P : Scan → Bool) (f : Scan → ℕ) (cs : List Scan)
    → min (sum_by (λ c. cond (P c) (min (f c) (2 ^ 64 - 1)) 0) cs) (2 ^ 64 - 1) ≡ min (sum_by (λ c. cond (P c) (f c) 0) cs) (2 ^ 64 - 1)
sum_capped P f [] = refl
sum_capped P f (c ∷ cs) =
    let rest : min (sum_by (λ c. cond (P c) (min (f c) (2 ^ 64 - 1)) 0) cs) (2 ^ 64 - 1) ≡ min (sum_by (λ c. cond (P c) (f c) 0) cs) (2 ^ 64 - 1) = sum_capped P f cs in
    let e : sum_by (λ c. cond (P c) (min (f c) (2 ^ 64 - 1)) 0) (c ∷ cs) ≡ cond (P c) (min (f c) (2 ^ 64 - 1)) 0 + sum_by (λ c. cond (P c) (min (f c) (2 ^ 64 - 1)) 0) cs = sum_by-cons (λ c. cond (P c) (min (f c) (2 ^ 64 - 1)) 0) c cs in
    let g : sum_by (λ c. cond (P c) (f c) 0) (c ∷ cs) ≡ cond (P c) (f c) 0 + sum_by (λ c. cond (P c) (f c) 0) cs = sum_by-cons (λ c. cond (P c) (f c) 0) c cs in
    rw (e, g) (by (P c) (f c) _ _ rest)
  where
    by : (b : Bool) (n x y : ℕ) → min x (2 ^ 64 - 1) ≡ min y (2 ^ 64 - 1) → min (cond b (min n (2 ^ 64 - 1)) 0 + x) (2 ^ 64 - 1) ≡ min (cond b n 0 + y) (2 ^ 64 - 1)
    by true n x y h = omega (arith, h)
    by false n x y h = omega (arith, h)

-- ---- scans whose numbers differ

number_in : (Q : ℕ → Type 0) (cs : List Scan) (c : Scan) → AllByRecursion Q (numbers cs) → Contains cs c → Q c.number
number_in Q [] c h i = absurd (not_in_none c i)
number_in Q (d ∷ cs) c h i = in_cases d cs c i (λ same. subst (λ x. Q x.number) same h.0) (λ there. number_in Q cs c h.1 there)

cond_none : (b : Bool) → ◌≡◌ {A = ℕ} (cond b 0 0) 0
cond_none true = refl
cond_none false = refl

cond_off : (b x : Bool) → x ≡ false → ◌≡◌ {A = ℕ} (cond b (cond x 1 0) 0) 0
cond_off b x e = rw e (cond_none b)

abbrev of_one : (Scan → Bool) → Scan → Scan → ℕ
of_one P c d = cond (P d) (at_number d.number c) 0

-- a start of one of them is counted of this one alone
one_of : (P : Scan → Bool) (cs : List Scan) (c : Scan) → IsDistinct nat_eq (numbers cs) → Contains cs c → sum_by (of_one P c) cs ≡ cond (P c) 1 0
unfolding IsDistinct
one_of P [] c apart i = absurd (not_in_none c i)
one_of P (d ∷ cs) c apart i =
    let e : sum_by (of_one P c) (d ∷ cs) ≡ of_one P c d + sum_by (of_one P c) cs = sum_by-cons (of_one P c) d cs in
    let apart_first : AllByRecursion (λ y. nat_eq d.number y ≡ false) (numbers cs) = apart.0 in
    let apart_rest : IsDistinct nat_eq (numbers cs) = apart.1 in
    in_cases d cs c i
    (λ same.
    let first : of_one P c d ≡ cond (P c) 1 0 = subst (λ x. of_one P x d ≡ cond (P x) 1 0) same (rw (eq_self d.number) refl) in
    let rest : sum_by (of_one P c) cs ≡ 0 = sum_none (of_one P c) cs (λ x there. cond_off (P x) (nat_eq c.number x.number) (subst (λ y. nat_eq y.number x.number ≡ false) same (number_in (λ y. nat_eq d.number y ≡ false) cs x apart_first there))) in
    omega (arith, e, first, rest))
    (λ there.
    let first : of_one P c d ≡ 0 = cond_off (P d) (nat_eq c.number d.number) (other_back d.number c.number (number_in (λ y. nat_eq d.number y ≡ false) cs c apart_first there)) in
    let rest : sum_by (of_one P c) cs ≡ cond (P c) 1 0 = one_of P cs c apart_rest there in
    omega (arith, e, first, rest))

cond_both : (b : Bool) (m n : ℕ) → cond b (m + n) 0 ≡ cond b m 0 + cond b n 0
cond_both true m n = refl
cond_both false m n = refl

-- how many starts of such scans stand in a log
abbrev pub starts_in : (Scan → Bool) → List Event → ℕ
starts_in P [] = 0
starts_in P (started c ∷ es) = cond (P c) 1 0 + starts_in P es
starts_in P (handed c n ∷ es) = starts_in P es
starts_in P (joined n way outer starts ∷ es) = starts_in P es
starts_in P (missed k v ∷ es) = starts_in P es
starts_in P (hit n frees q env ∷ es) = starts_in P es

-- these are the starts of each of them
pub starts_each : (P : Scan → Bool) (all : Listing) → IsDistinct nat_eq (numbers all.scans) → (es : List Event) → AllByRecursion (IsOf all) es
    → starts_in P es ≡ sum_by (λ c. cond (P c) (times_in c.number es) 0) all.scans
starts_each P all apart [] of = sym (sum_none (λ c. cond (P c) 0 0) all.scans (λ c i. cond_none (P c)))
starts_each P all apart (started c ∷ es) of =
    let first : sum_by (of_one P c) all.scans ≡ cond (P c) 1 0 = one_of P all.scans c apart of.0 in
    let rest : starts_in P es ≡ sum_by (λ c. cond (P c) (times_in c.number es) 0) all.scans = starts_each P all apart es of.1 in
    let both : sum_by (λ d. cond (P d) (at_number d.number c + times_in d.number es) 0) all.scans ≡ sum_by (of_one P c) all.scans + sum_by (λ c. cond (P c) (times_in c.number es) 0) all.scans =
    sum_both (of_one P c) (λ d. cond (P d) (times_in d.number es) 0) (λ d. cond (P d) (at_number d.number c + times_in d.number es) 0) all.scans (λ d. cond_both (P d) (at_number d.number c) (times_in d.number es)) in
    omega (arith, first, rest, both)
starts_each P all apart (handed c n ∷ es) of = starts_each P all apart es of.1
starts_each P all apart (joined n way outer starts ∷ es) of = starts_each P all apart es of.1
starts_each P all apart (missed k v ∷ es) of = starts_each P all apart es of.1
starts_each P all apart (hit n frees q env ∷ es) of = starts_each P all apart es of.1
