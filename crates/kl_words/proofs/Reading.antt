-- What clap's calls say, in the words of the definitions.
use Rattle.std.proofs.Common.{◌≡◌, ◌∙◌, ◌<◌, ◌^◌, ◌&&◌, ℕ, Bool, true, false, List, [], ◌∷◌, Option, Some, None, Ok, Err, length, refl, sym, ap, subst, codes, inl, inr}
use Rattle.std.specs.Prelude.{IfOk, Result, nat_lt, option_and_then, option_map, unwrap_or}
use Rattle.std.specs.List.{list_all}
use Rattle.std.specs.Option.{option_map_or}
use Rattle.std.specs.Char.{digit_value}
use Rattle.std.specs.Str.{bytes_eq}
use Rattle.std.specs.Str.Parse.{AllDigits, IsNumeral, ParsesBool, ParsesUnsigned, digits_value, without_leading_plus}
use Rattle.std.proofs.lemmas.Bool.{ltb-true, lt-ltb}
use Rattle.std.proofs.lemmas.Slice.Eq.{bytes_eq-Decides}
use Rattle.clap.specs.declared.error.Error.{Error}
use Rattle.clap.specs.declared.error.ErrorKind.TheVariants.{OutOfMemory}
use Rattle.clap.specs.declared.ArgMatches.{ArgMatches}
use Rattle.clap.specs.declared.parser.matches.Found.{Found}
use Rattle.clap.specs.Matches.{ReadsOne}
use Rattle.clap.specs.ValueTests.{is_numeral}
use Rattle.clap.specs.Words.{App, HasKind, HasMatchesOf, Kinds, Row, Text, fault_of, first_value, found_of, is_simple, is_simple_and_free, kind_of, matches_of, one_of, one_text, rows_of}
use Rattle.clap.proofs.WalkLemmas.{both, first_value-rows, one_text-rows}
use Rattle.kl_words.specs.declared.command.WordsError.{WordsError}
use Rattle.kl_words.specs.Commands.{AnswersWanted, OnlyWants, has_flag, number_of, number_told, path_at, reading, rows_where}

-- ---- a command line

pub read_well : (a : App) (words : List Text) (m : ArgMatches) → is_simple_and_free a ≡ true → fault_of a words ≡ []
    → HasMatchesOf a words m → reading a words ≡ Some (rows_of (found_of m))
read_well a words m free none has =
    let simple : is_simple a ≡ true = (both _ _ free).0 in
    rw none (ap Some (sym (has simple).0))

some_kind : (ks : Kinds) (rows : List Row) (e : Error) → HasKind ks e → (kind_of e ≡ OutOfMemory → ⊥) → rows_where ks rows ≡ None
some_kind [] rows e (inl m) other = absurd (other m)
some_kind [] rows e (inr a) other = absurd a
some_kind (k ∷ ks) rows e h other = refl

pub read_not : (a : App) (words : List Text) (e : Error) → HasKind (fault_of a words) e → (kind_of e ≡ OutOfMemory → ⊥)
    → reading a words ≡ None
read_not a words e h other = some_kind (fault_of a words) (matches_of a words) e h other

-- the line that was made is the one that was meant
pub read_by : (a b : App) (words : List Text) (o : Option (List Row)) → a ≡ b → reading a words ≡ o → reading b words ≡ o
read_by a b words o e h = subst (λ l. reading l words ≡ o) e h

pub then_answers : {T : Type 0} (o : Option (List Row)) (rows : List Row) (f : List Row → Option T) (r : Result T WordsError)
    → o ≡ Some rows → AnswersWanted (f rows) r → AnswersWanted (option_and_then f o) r
then_answers o rows f r e h = subst (λ p. AnswersWanted (option_and_then f p) r) (sym e) h

-- a call that reads one thing of the rows, and refuses for want of memory alone
pub read_one : {T : Type 0} (f : List Row → T) (a b : App) (words : List Text) (rows : List Row) (r : Result T WordsError)
    → a ≡ b → reading a words ≡ Some rows → IfOk r (λ x. x ≡ f rows) → OnlyWants r → AnswersWanted (option_map f (reading b words)) r
read_one f a b words rows (Ok x) same read is wants = subst (λ l. option_map f (reading l words) ≡ Some x) same (ap (option_map f) read ∙ ap Some (sym is))
read_one f a b words rows (Err e) same read is wants = λ usage. absurd cc

-- ---- a path

pub at_some : (f : Found) (id t : Text) → Some t ≡ first_value f id → t ≡ path_at id (rows_of f)
at_some f id t e = ap (λ (o : Option Text). unwrap_or o []) (e ∙ first_value-rows f id)

pub at_none : (f : Found) (id : Text) → None ≡ first_value f id → [] ≡ path_at id (rows_of f)
at_none f id e = ap (λ (o : Option Text). unwrap_or o []) (e ∙ first_value-rows f id)

-- ---- a number

digits_test : (ds : List ℕ) → AllDigits 10 ds → list_all (λ d. nat_lt (digit_value d) 10) ds ≡ true
digits_test [] h = refl
digits_test (d ∷ ds) h = rw (lt-ltb (digit_value d) 10 h.0) (digits_test ds h.1)

digits_from : (ds : List ℕ) → list_all (λ d. nat_lt (digit_value d) 10) ds ≡ true → AllDigits 10 ds
digits_from [] e = tt
digits_from (d ∷ ds) e =
    let parts = both _ _ e in
    (ltb-true _ _ parts.0, digits_from ds parts.1)

fits : List ℕ → Bool
fits ds = is_numeral ds && nat_lt (digits_value 10 ds) (2 ^ 32)

fits_test : (ds : List ℕ) → IsNumeral 10 ds → digits_value 10 ds < 2 ^ 32 → fits ds ≡ true
unfolding fits
fits_test ds h small = rw (lt-ltb 0 (length ds) h.0, digits_test ds h.1, lt-ltb _ _ small) refl

fits_from : (ds : List ℕ) → fits ds ≡ true → IsNumeral 10 ds × (digits_value 10 ds < 2 ^ 32)
unfolding fits
fits_from ds e =
    let parts = both _ _ e in
    let numeral = both _ _ parts.0 in
    ((ltb-true _ _ numeral.0, digits_from ds numeral.1), ltb-true _ _ parts.1)

told : (E : Type 0) (G : List ℕ → Result ℕ E → Type 0) (t : Text) (o : Option ℕ)
    → ((u : List ℕ) (x : Result ℕ E) → G u x → ParsesUnsigned 32 10 u x) → ReadsOne G t o → o ≡ number_told t
unfolding fits
told E G t (Some v) only h =
    let p = only t (Ok v) h in
    let test : fits (without_leading_plus t) ≡ true = fits_test _ p.0.0 p.0.1 in
    rw test (ap Some p.1)
told E G t None only h = go (fits (without_leading_plus t)) refl
  where
    go : (b : Bool) → fits (without_leading_plus t) ≡ b → None ≡ number_told t
    go true e = absurd (only t (Err h.0) h.1 (fits_from _ e))
    go false e = rw e refl

-- the number that is told is the one that the parser of 32 bits reads
pub told_reads : (t : Text) → ReadsOne {E = ℕ} (λ u x. ParsesUnsigned 32 10 u x) t (number_told t)
unfolding fits
told_reads t = go (fits (without_leading_plus t)) refl
  where
    go : (b : Bool) → fits (without_leading_plus t) ≡ b → ReadsOne {E = ℕ} (λ u x. ParsesUnsigned 32 10 u x) t (number_told t)
    go true e = rw e (fits_from _ e, refl)
    go false e = rw e (0, λ h. let yes = fits_test _ h.0 h.1 in cc)

pub number_reads : (E : Type 0) (G : List ℕ → Result ℕ E → Type 0) (f : Found) (id : Text) (o : Option ℕ)
    → ((u : List ℕ) (x : Result ℕ E) → G u x → ParsesUnsigned 32 10 u x)
    → (one_text f id ≡ None → o ≡ None) → ((t : List ℕ) → one_text f id ≡ Some t → ReadsOne G t o)
    → o ≡ number_of id (rows_of f)
number_reads E G f id o only none value = go (one_of id (rows_of f)) (one_text-rows f id)
  where
    go : (w : Option Text) → one_text f id ≡ w → o ≡ option_and_then number_told w
    go None e = none e
    go (Some t) e = told E G t o only (value t e)

-- ---- an option without a value

seen : (E : Type 0) (G : List ℕ → Result Bool E → Type 0) (t : Text) (o : Option Bool)
    → ((u : List ℕ) (x : Result Bool E) → G u x → ParsesBool u x) → ReadsOne G t o
    → unwrap_or o false ≡ bytes_eq t (codes "true")
seen E G t (Some true) only h = let is = only t (Ok true) h in rw is refl
seen E G t (Some false) only h = let is = only t (Ok false) h in rw is refl
seen E G t None only h = go (bytes_eq t (codes "true")) refl
  where
    go : (b : Bool) → bytes_eq t (codes "true") ≡ b → false ≡ bytes_eq t (codes "true")
    go true e = absurd ((only t (Err h.0) h.1).0 ((bytes_eq-Decides t (codes "true")).0 e))
    go false e = sym e

pub flag_reads : (E : Type 0) (G : List ℕ → Result Bool E → Type 0) (f : Found) (id : Text) (o : Option Bool)
    → ((u : List ℕ) (x : Result Bool E) → G u x → ParsesBool u x)
    → (one_text f id ≡ None → o ≡ None) → ((t : List ℕ) → one_text f id ≡ Some t → ReadsOne G t o)
    → unwrap_or o false ≡ has_flag id (rows_of f)
flag_reads E G f id o only none value = go (one_of id (rows_of f)) (one_text-rows f id)
  where
    go : (w : Option Text) → one_text f id ≡ w → unwrap_or o false ≡ option_map_or (λ t. bytes_eq t (codes "true")) w false
    go None e = rw (none e) refl
    go (Some t) e = seen E G t o only (value t e)
