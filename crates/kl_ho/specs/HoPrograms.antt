-- Programs some of whose definitions have function fields: what they mean, their typings, and their expansions.
use Rattle.std.specs.Prelude.{◌≡◌, ℕ, Bool, List, [], ◌∷◌, cond, Option, Some, None, ⊤}
use Rattle.std.specs.List.{list_any}
use Rattle.kl_value.specs.declared.Value.{Value}
use Rattle.kl_type.specs.Ground.{Ground, IsGround}
use Rattle.kl_outcome.specs.Outcome.{Outcome, Name}
use Rattle.kl_syntax.specs.declared.tree.Tail.TheVariants as tail
use Rattle.kl_syntax.specs.declared.tree.Word.{Word}
use Rattle.kl_syntax.specs.Syntax.{Pat, catch, shape, Pats, no_pats, pats, Exp, Decls, no_decls, constant, function}
use Rattle.kl_meaning.specs.Match.{fits, must_fit, same_name}
use Rattle.kl_meaning.specs.Run.{KnownOutcomes, look_up, in_order, at_first, with_known}
use Rattle.kl_meaning.specs.Run as meant
use Rattle.kl_meaning.specs.Typing.{Context, KnownTypes, NameTypes, Takes, types_at_first, with_sort}
use Rattle.kl_meaning.specs.Typing as sort
use Rattle.kl_ho.specs.Highers.{Higher, Highers}
use Rattle.kl_ho.specs.HoRun.{Deeper, hrun}
use Rattle.kl_ho.specs.HoTyping.{HoTypes}
use Rattle.kl_ho.specs.Expansion.{Scope, New, PatBecomes, Expands}

-- the labels of the function fields of a definition
abbrev pub FunctionFields : Type 0
FunctionFields = Name → List Name

abbrev pub is_among : Name → List Name → Bool
is_among x ys = list_any (λ y. same_name x y) ys

abbrev pub caught : Name → Pat → List (Name × Name)
caught l (catch x) = (l, x.text) ∷ []
caught l _ = []

abbrev pub joined : {T : Type 0} → List T → List T → List T
joined [] ys = ys
joined (x ∷ xs) ys = x ∷ joined xs ys

abbrev pub handed_in : List Name → Pats → List (Name × Name)
handed_in ls no_pats = []
handed_in ls (pats l p ps) = cond (is_among l.text ls) (joined (caught l.text p) (handed_in ls ps)) (handed_in ls ps)

abbrev pub rest_in : List Name → Pats → Pats
rest_in ls no_pats = no_pats
rest_in ls (pats l p ps) = cond (is_among l.text ls) (rest_in ls ps) (pats l p (rest_in ls ps))

-- a definition with these function fields in its parts, where it has any
abbrev pub higher_from : List Name → Pat → Exp → Option Higher
higher_from (l ∷ ls) (shape ps tail.Exact) e = Some (record { handed = in_order (handed_in (l ∷ ls) ps); rest = rest_in (l ∷ ls) ps; body = e })
higher_from _ _ e = None

abbrev pub no_highers : Highers
no_highers x = None

abbrev pub with_higher : Name → Option Higher → Highers → Highers
with_higher d h highers x = cond (same_name x d) h (highers x)

-- ---- meaning

-- what too deep calls come to, after the definitions before
abbrev pub Deepers : Type 0
Deepers = Highers → KnownOutcomes → Deeper

-- a definition with function fields has no meaning by itself
abbrev pub known_unless : Option Higher → KnownOutcomes → KnownOutcomes → KnownOutcomes
known_unless (Some h) new old = old
known_unless None new old = new

abbrev pub program_run : ℕ → Deepers → FunctionFields → Decls → Exp → Highers → KnownOutcomes → Outcome
program_run n deeper fields no_decls e highers known = hrun n (deeper highers known) highers [] known e []
program_run n deeper fields (constant d a ds) e highers known =
    program_run n deeper fields ds e highers (with_known d.text (meant.value_of (hrun n (deeper highers known) highers [] known a [])) known)
program_run n deeper fields (function d p a ds) e highers known =
    program_run n deeper fields ds e (with_higher d.text (higher_from (fields d.text) p a) highers)
    (known_unless (higher_from (fields d.text) p a)
    (with_known d.text (meant.function_of (λ v. must_fit (fits p (look_up known []) v []) (λ inner. hrun n (deeper highers known) highers [] known a inner))) known) known)

-- the outcome of a program comes at n
abbrev pub ProgramComes : ℕ → FunctionFields → Decls → Exp → List (Name × Value) → Outcome → Type 0
ProgramComes n fields ds e sources o = (deeper : Deepers) → program_run n deeper fields ds e no_highers (at_first sources) ≡ o

-- ---- typing

abbrev pub HoFunctionTypes : Highers → KnownTypes → Pat → Exp → Ground → Ground → Type 0
HoFunctionTypes highers known p e s t = IsGround s × (H : Context) × Takes p (NameTypes known []) s [] H × HoTypes highers [] known e H t

abbrev pub sorts_unless : Option Higher → KnownTypes → KnownTypes → KnownTypes
sorts_unless (Some h) new old = old
sorts_unless None new old = new

abbrev pub program_types : FunctionFields → Decls → Exp → Highers → KnownTypes → Ground → Type 0
program_types fields no_decls e highers known t = HoTypes highers [] known e [] t
program_types fields (constant d a ds) e highers known t =
    program_types fields ds e highers (with_sort d.text (sort.value_of (HoTypes highers [] known a [])) known) t
program_types fields (function d p a ds) e highers known t =
    program_types fields ds e (with_higher d.text (higher_from (fields d.text) p a) highers)
    (sorts_unless (higher_from (fields d.text) p a) (with_sort d.text (sort.function_of (HoFunctionTypes highers known p a)) known) known) t

-- a definition with function fields needs no type by itself
abbrev pub TypedUnless : Option Higher → Type 0 → Type 0
TypedUnless (Some h) P = ⊤
TypedUnless None P = P

abbrev pub EachHoTyped : FunctionFields → Decls → Highers → KnownTypes → Type 0
EachHoTyped fields no_decls highers known = ⊤
EachHoTyped fields (constant d a ds) highers known =
    ((t : Ground) × HoTypes highers [] known a [] t) × EachHoTyped fields ds highers (with_sort d.text (sort.value_of (HoTypes highers [] known a [])) known)
EachHoTyped fields (function d p a ds) highers known =
    TypedUnless (higher_from (fields d.text) p a) ((s : Ground) × (t : Ground) × HoFunctionTypes highers known p a s t)
    × EachHoTyped fields ds (with_higher d.text (higher_from (fields d.text) p a) highers)
    (sorts_unless (higher_from (fields d.text) p a) (with_sort d.text (sort.function_of (HoFunctionTypes highers known p a)) known) known)

abbrev pub HoProgramTypes : FunctionFields → Decls → Exp → List (Name × Ground) → Ground → Type 0
HoProgramTypes fields ds e sources t = program_types fields ds e no_highers (types_at_first sources) t

abbrev pub HoHasTyping : FunctionFields → Decls → Exp → List (Name × Ground) → Type 0
HoHasTyping fields ds e sources = EachHoTyped fields ds no_highers (types_at_first sources) × ((t : Ground) × HoProgramTypes fields ds e sources t)

-- ---- expansions

-- definitions with function fields are dropped, and the others and the last expression are expanded
pub data ProgramExpands (is_new : New) (fields : FunctionFields) : ℕ → Highers → Decls → Exp → Decls → Exp → Type 0 where
  x_last : {n : ℕ} {highers : Highers} {e x : Exp} → Expands is_new highers n [] [] e x → ProgramExpands is_new fields n highers no_decls e no_decls x
  x_constant : {n : ℕ} {highers : Highers} {d c : Word} {a b e x : Exp} {ds cs : Decls} → c.text ≡ d.text → Expands is_new highers n [] [] a b
      → ProgramExpands is_new fields n highers ds e cs x → ProgramExpands is_new fields n highers (constant d a ds) e (constant c b cs) x
  x_function : {n : ℕ} {highers : Highers} {S : Scope} {d c : Word} {p q : Pat} {a b e x : Exp} {ds cs : Decls} → higher_from (fields d.text) p a ≡ None → c.text ≡ d.text
      → PatBecomes is_new [] [] p q S → Expands is_new highers n [] S a b
      → ProgramExpands is_new fields n (with_higher d.text None highers) ds e cs x → ProgramExpands is_new fields n highers (function d p a ds) e (function c q b cs) x
  x_dropped : {n : ℕ} {highers : Highers} {d : Word} {p : Pat} {a e x : Exp} {ds cs : Decls} (h : Higher) → higher_from (fields d.text) p a ≡ Some h
      → ProgramExpands is_new fields n (with_higher d.text (Some h) highers) ds e cs x → ProgramExpands is_new fields n highers (function d p a ds) e cs x

-- with new names of some kind for its variables
abbrev pub IsExpansion : FunctionFields → Decls → Exp → Decls → Exp → Type 0
IsExpansion fields ds e cs x = (is_new : New) × (n : ℕ) × ProgramExpands is_new fields n no_highers ds e cs x
