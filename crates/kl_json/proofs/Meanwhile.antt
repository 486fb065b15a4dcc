-- What a reader's calls come to, one behind the other.
use Rattle.std.proofs.Common.{◌≡◌, ℕ, zero, suc, ◌+◌, ◌<◌, ◌≤◌, length, true, false, List, [], ◌∷◌, ◌++◌, take, Option, Some, None, Result, Ok, Err, IsSome, refl, sym, ap, subst, ◌∙◌, arith, length-append}
use Rattle.std.proofs.lemmas.List.{length-drop}
use Rattle.json.specs.Json.{document, value}
use Rattle.json.specs.Lex.{lex, punctuate}
use Rattle.kl_base.proofs.Rises.{rose_after}
use Rattle.kl_exchange.specs.FileItems.{most_read}
use Rattle.kl_exchange.specs.FileReading.{FileReading, HasRead, Left, to_come}
use Rattle.kl_json.specs.Files.{IsJson, HasPassed, cut, HasValues, Keeps, Told, NextValue, PassesBlank, FetchesOn, TakesText, EndsWith, Reading, starts_blank}
use Rattle.kl_json.specs.declared.choices.Choices.{Choices}
use Rattle.kl_json.specs.declared.choices.Refusal.{Refusal}
use Rattle.kl_json.specs.declared.reader.JsonError.{JsonError}
use Rattle.kl_json.specs.declared.reader.JsonError.TheVariants as error
use Rattle.kl_json.proofs.Values.{blank_passed, value_taken, value_refused, all_passed}
use Rattle.kl_outside.specs.Files.{FilesState}
use Rattle.kl_value.specs.declared.Value.{Value}

abbrev HasFetchedNew : List ℕ → Reading → Left → Type 0
HasFetchedNew rest now left = HasRead (Some (Some rest)) [] now.items left

abbrev no_value : JsonError → Result (Option Value) JsonError
no_value e = Err e

abbrev no_piece : JsonError → Result (Unit {0}) JsonError
no_piece e = Err e

abbrev ToldSo : Choices → Left → List Value → JsonError → Reading → Left → Type 0
ToldSo c first vs e now left = Told c first vs (Err e) now left

-- what can come falls by the bytes that are passed
cut_less : (n : ℕ) (items : FileReading) → n ≤ length items.text.left → to_come (cut n items) + n ≡ to_come items
cut_less n items few = let size = length-drop n items.text.left in omega (arith, few, size)

-- no JSON text is empty
no_text : document [] ≡ None
unfolding value lex punctuate
no_text = refl

some_text : (c : Choices) (n : ℕ) (bytes : List ℕ) (v : Value) → IsJson c (take n bytes) v → 0 < n
some_text c zero bytes v is = absurd (let no : None ≡ Some is.json = sym no_text ∙ is.reads in cc)
some_text c (suc n) bytes v is = omega arith

-- a file of which more was seen than is looked at has more bytes
past_length : (c : Choices) (bytes : List ℕ) (vs : List Value) (now : Reading) (left : Left) → HasPassed c bytes vs now left → now.items.past ≡ true → most_read < length bytes
past_length c bytes vs now left p past =
    let r = p.fetched.remains p.rest refl in
    let met = r.limit_met past in
    let more = met.0 in
    let full = met.1 in
    let none : length p.fetched.read ≡ 0 = ap length p.fetched.items in
    let place = p.fetched.place in
    let stands = p.stands in
    let total = p.total in
    let whole = ap length p.whole in
    let rest = ap length r.whole in
    let one = length-append (p.read ++ p.white) p.rest in
    let two = length-append p.read p.white in
    let three = length-append (p.fetched.read ++ now.items.text.left) (r.beyond ++ r.behind) in
    let four = length-append p.fetched.read now.items.text.left in
    let five = length-append r.beyond r.behind in
    omega arith

-- between two calls nothing was read but white space
pub record Meanwhile (c : Choices) (old now : Reading) (files files' : FilesState) : Type 0 where
  pub file : now.items.file ≡ old.items.file
  pub keeps : Keeps old.items.file files files'
  pub come : to_come now.items ≤ to_come old.items
  pub goes : (first : Left) (vs : List Value) → HasValues c first vs old (files.left old.items.file) → HasValues c first vs now (files'.left old.items.file)

module _ (c : Choices) (old now : Reading) (files files' : FilesState) (m : Meanwhile c old now files files') where
  abbrev Has : Left → List Value → Reading → Type 0
  Has first vs new = HasValues c first vs new (files'.left old.items.file)

  pub blanks_on : (new : Reading) → PassesBlank now new → Meanwhile c old new files files'
  blanks_on new p = record {
    file = ap (λ r. r.items.file) p.3 ∙ m.file;
    keeps = m.keeps;
    come = let fall = cut_less p.0 now.items p.1 in let before = m.come in omega (arith, ap (λ r. to_come r.items) p.3);
    goes = λ first vs h bytes is.
        subst (λ r. HasPassed c bytes vs r (files'.left old.items.file)) (sym p.3) (blank_passed c bytes vs now (files'.left old.items.file) (m.goes first vs h bytes is) p.0 p.1 p.2);
  }

  pub stays_on : (new : Reading) → new ≡ now → Meanwhile c old new files files'
  stays_on new same = subst (λ r. Meanwhile c old r files files') (sym same) m

  module _ (r : Result (Unit {0}) JsonError) (new : Reading) (files'' : FilesState) (f : FetchesOn r now new files' files'') where
    file_fetched : new.items.file ≡ old.items.file
    file_fetched = f.file ∙ m.file

    keeps_fetched : Keeps old.items.file files files''
    keeps_fetched =
        let before = m.keeps.later in
        let after = f.keeps.later in
        record {
          told = f.keeps.told ∙ m.keeps.told;
          others = λ k d. f.keeps.others k (λ e. d (e ∙ m.file)) ∙ m.keeps.others k d;
          is_open = subst (λ k. IsSome (files''.left k)) m.file f.keeps.is_open;
          later = omega arith;
        }

    fetched_there : (rest : List ℕ) → HasFetchedNew rest now (files'.left old.items.file) → HasFetchedNew rest now (files'.left now.items.file)
    fetched_there rest fetched = subst (λ k. HasFetchedNew rest now (files'.left k)) (sym m.file) fetched

    goes_fetched : (first : Left) (vs : List Value) → HasValues c first vs old (files.left old.items.file) → HasValues c first vs new (files''.left old.items.file)
    goes_fetched first vs h bytes is =
        let p = m.goes first vs h bytes is in
        record {
          read = p.read;
          white = p.white;
          rest = p.rest;
          whole = p.whole;
          values = p.values;
          blank = p.blank;
          stands = f.place ∙ p.stands;
          total = (λ j. f.place j + f.limit j) ∙ p.total;
          fresh = f.fresh ∙ p.fresh;
          fetched = subst (λ k. HasFetchedNew p.rest new (files''.left k)) m.file (f.goes (Some (Some p.rest)) (fetched_there p.rest p.fetched));
        }

    -- more bytes than are looked at
    long_fetched : r ≡ Err error.TooLong → (first : Left) (vs : List Value) → HasValues c first vs old (files.left old.items.file)
        → (bytes : List ℕ) → first ≡ Some (Some bytes) → HasPassed c bytes vs new (files''.left old.items.file) × (most_read < length bytes)
    long_fetched is first vs h bytes at =
        let before = m.goes first vs h bytes at in
        let past = f.long (Some (Some before.rest)) (fetched_there before.rest before.fetched) is in
        let p = goes_fetched first vs h bytes at in
        (p, past_length c bytes vs new (files''.left old.items.file) p past)

  pub fetched_on : (u : Unit {0}) (new : Reading) (files'' : FilesState) → FetchesOn (Ok u) now new files' files'' → Meanwhile c old new files files''
  fetched_on u new files'' f =
      let come = m.come in
      let less : to_come new.items < to_come now.items = f.less in
      record {
        file = file_fetched (Ok u) new files'' f;
        keeps = keeps_fetched (Ok u) new files'' f;
        come = omega arith;
        goes = goes_fetched (Ok u) new files'' f;
      }

  still : (new : Reading) → new ≡ now → (first : Left) (vs : List Value) → HasValues c first vs old (files.left old.items.file) → Has first vs new
  still new same first vs h = subst (Has first vs) (sym same) (m.goes first vs h)

  same_file : (new : Reading) → new ≡ now → new.items.file ≡ old.items.file
  same_file new same = ap (λ r. r.items.file) same ∙ m.file

  pub next_taken : (n : ℕ) (r : Result (Option Value) JsonError) (new : Reading) → n ≤ length now.items.text.left → starts_blank now.items.text.left ≡ false → TakesText c n r now new → NextValue c r old new files files'
  next_taken n (Ok (Some v)) new few start t = record {
    file = ap (λ r. r.items.file) t.2 ∙ m.file;
    keeps = m.keeps;
    failed = λ e. absurd cc;
    less = λ w e. let fall = cut_less n now.items few in let some = some_text c n now.items.text.left v t.0 in let before = m.come in omega (arith, ap (λ r. to_come r.items) t.2);
    goes = λ first vs h bytes is.
        subst (λ r. HasPassed c bytes (vs ++ v ∷ []) r (files'.left old.items.file)) (sym t.2) (value_taken c bytes vs now (files'.left old.items.file) (m.goes first vs h bytes is) n v few t.0 t.1);
  }
  next_taken n (Ok None) new few start t = absurd t
  next_taken n (Err (error.Refused r p)) new few start t = record {
    file = same_file new t.3;
    keeps = m.keeps;
    failed = λ e. absurd cc;
    less = λ w e. absurd cc;
    goes = λ first vs h bytes is. value_refused c bytes vs now (files'.left old.items.file) (m.goes first vs h bytes is) n r p few start t.0 t.1 t.2;
  }
  next_taken n (Err error.Read) new few start t = absurd t
  next_taken n (Err error.NoMemory) new few start t = record { file = same_file new t; keeps = m.keeps; failed = λ e. absurd cc; less = λ w e. absurd cc; goes = still new t }
  next_taken n (Err (error.Bad p)) new few start t = record { file = same_file new t; keeps = m.keeps; failed = λ e. absurd cc; less = λ w e. absurd cc; goes = still new t }
  next_taken n (Err (error.TooDeep p)) new few start t = absurd t
  next_taken n (Err error.TooLong) new few start t = absurd t

  pub next_last : (r : Result (Option Value) JsonError) (new : Reading) → now.items.text.finished ≡ true → starts_blank now.items.text.left ≡ false → EndsWith c r now new → NextValue c r old new files files'
  next_last (Ok None) new finished start t = record {
    file = same_file new t.1;
    keeps = m.keeps;
    failed = λ e. absurd cc;
    less = λ w e. absurd cc;
    goes = λ first vs h bytes is. all_passed c bytes vs now (files'.left old.items.file) (m.goes first vs h bytes is) finished t.0;
  }
  next_last (Ok (Some v)) new finished start t = next_taken (length now.items.text.left) (Ok (Some v)) new (omega arith) start t
  next_last (Err e) new finished start t = next_taken (length now.items.text.left) (Err e) new (omega arith) start t

  pub next_deep : (p : ℕ) → NextValue c (Err (error.TooDeep p)) old now files files'
  next_deep p = record { file = m.file; keeps = m.keeps; failed = λ e. absurd cc; less = λ w e. absurd cc; goes = m.goes }

  pub next_fault : (e : JsonError) (new : Reading) (files'' : FilesState) → FetchesOn (Err e) now new files' files'' → NextValue c (Err e) old new files files''
  next_fault e new files'' f = record {
    file = file_fetched (Err e) new files'' f;
    keeps = keeps_fetched (Err e) new files'' f;
    failed = λ is. rose_after _ _ _ m.keeps.later (f.failed (failed_so e is));
    less = λ w is. absurd cc;
    goes = told e (λ r p is. f.plain r p (ap no_piece is)) (λ is. long_fetched (Err e) new files'' f (ap no_piece is)) (goes_fetched (Err e) new files'' f);
  }
    where
      failed_so : (e : JsonError) → no_value e ≡ no_value error.Read → no_piece e ≡ no_piece error.Read
      failed_so e is = let same : e ≡ error.Read = cc in ap no_piece same

      told : (e : JsonError) → ((r : Refusal) (p : ℕ) → e ≡ error.Refused r p → ⊥)
          → (e ≡ error.TooLong → (first : Left) (vs : List Value) → HasValues c first vs old (files.left old.items.file) → ToldSo c first vs error.TooLong new (files''.left old.items.file))
          → ((first : Left) (vs : List Value) → HasValues c first vs old (files.left old.items.file) → HasValues c first vs new (files''.left old.items.file))
          → (first : Left) (vs : List Value) → HasValues c first vs old (files.left old.items.file) → ToldSo c first vs e new (files''.left old.items.file)
      told (error.Refused r p) none long h = absurd (none r p refl)
      told error.Read none long h = h
      told error.NoMemory none long h = h
      told (error.Bad p) none long h = h
      told (error.TooDeep p) none long h = h
      told error.TooLong none long h = long refl
