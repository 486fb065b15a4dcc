-- What a listing comes to of which items were read.
use Rattle.std.proofs.Common.{◌≡◌, ◌≢◌, inl, inr, ℕ, ◌+◌, Bool, true, false, List, [], ◌∷◌, ◌++◌, codes, length, take, drop, map, Option, Some, None, refl, sym, ap, subst, ◌∙◌, arith, append_assoc, append-nil, length-append, take-append-drop}
use Rattle.std.specs.List.{flat_map, AllByRecursion}
use Rattle.std.proofs.lemmas.List.{append_cancel_left}
use Rattle.kl_value.specs.Written.{text_of}
use Rattle.kl_value.specs.declared.Value.{Value}
use Rattle.kl_type.specs.declared.Ty.{Ty}
use Rattle.kl_exchange.specs.FileItems.{FileEnd, WholeText, BadAt, TooDeepAt, PastLimit, Items, most_read}
use Rattle.kl_exchange.specs.FileReading.{Left}
use Rattle.kl_exchange.specs.Found.{FileItem, Placed, values_of}
use Rattle.kl_exchange.proofs.OneAnswer.{one_front}
use Rattle.kl_heads.specs.Files.{Shows, States}
use Rattle.kl_heads.specs.FileReading.{HeadedFile, HasRead, EndsSo, limit_of, place_of}
use Rattle.kl_heads.specs.Found.{IsFileText, file_text}
use Rattle.kl_heads.proofs.FoundText.{is_file_text, text_shows}
use Rattle.kl_heads.proofs.OneEnd.{one_text}
use Rattle.kl_heads.proofs.OneFile.{one_states}
use Rattle.kl_heads.proofs.Shown.{first_shown}
use Rattle.kl_engine.specs.Answering.{IsDetermined}
use Rattle.kl_engine.specs.Verdict.{Verdict, behind, end_fault, fits, listed, refused}
use Rattle.kl_engine.specs.declared.fault.Fault.TheVariants as fault

-- each of these has the type
abbrev pub AllFit : Option Ty → List Value → Type 0
AllFit t vs = AllByRecursion (λ v. fits t v ≡ true) vs

pub fit_more : (t : Option Ty) (vs : List Value) (v : Value) → AllFit t vs → fits t v ≡ true → AllFit t (vs ++ v ∷ [])
fit_more t [] v have more = (more, tt)
fit_more t (u ∷ vs) v have more = (have.0, fit_more t vs v have.1 more)

-- the items whose values stand in two parts
split_values : (xs : List FileItem) (vs us : List Value) → values_of xs ≡ vs ++ us → (ys : List FileItem) × (zs : List FileItem) × (xs ≡ ys ++ zs) × (values_of ys ≡ vs) × (values_of zs ≡ us)
split_values xs [] us is = ([], xs, refl, refl, is)
split_values [] (v ∷ vs) us is = absurd cc
split_values (x ∷ xs) (v ∷ vs) us is =
    let first : x.1 ≡ v = cc in
    let rest : values_of xs ≡ vs ++ us = cc in
    let r = split_values xs vs us rest in
    (x ∷ r.0, r.1, ap (λ ys. x ∷ ys) r.2, (λ i. first i ∷ r.3 i), r.4)

-- the place of the item behind those that were read
next_at : (q : ℕ) (ys : List FileItem) (x : FileItem) (zs : List FileItem) (read all a b : List ℕ) → Items read (values_of ys) → Placed q all (ys ++ x ∷ zs) → read ++ a ≡ all ++ b → x.0 ≡ q + length read
next_at q [] x zs read all a b items placed same = let k : length read ≡ 0 = ap length items in let l = placed.3 in omega arith
next_at q (y ∷ ys) x zs read all a b (item, rest, split, spells, others) (other, behind, cut, at, spelled, more) same =
    let whole : item ++ (rest ++ a) ≡ other ++ (behind ++ b) = sym (append_assoc item rest a) ∙ (ap (λ z. z ++ a) (sym split) ∙ (same ∙ (ap (λ z. z ++ b) cut ∙ append_assoc other behind b))) in
    let one : item ≡ other = (one_front 256 256 item other (rest ++ a) (behind ++ b) y.1 y.1 spells spelled whole).0 in
    let tails : rest ++ a ≡ behind ++ b = append_cancel_left item (rest ++ a) (behind ++ b) (whole ∙ ap (λ z. z ++ (behind ++ b)) (sym one)) in
    let long : length read ≡ length item + length rest = ap length split ∙ length-append item rest in
    let step = next_at (q + length other) ys x zs rest behind a b others more tails in
    let size : length item ≡ length other = ap length one in
    omega arith

module _ (line : Value → List ℕ) (t : Option Ty) where
  abbrev pub lines : List Value → List ℕ
  lines vs = flat_map line vs

  twice : (a b : List ℕ) (v : Verdict) → behind a (behind b v) ≡ behind (a ++ b) v
  twice a b v = ap (λ p. record { page = p; ending = v.ending }) (sym (append_assoc a b v.page))

  -- the lines of items that have the type stand before what comes of the others
  listed_front : (ys zs : List FileItem) (end : FileEnd) → AllFit t (values_of ys) → listed line t (ys ++ zs) end ≡ behind (lines (values_of ys)) (listed line t zs end)
  listed_front [] zs end have = refl
  listed_front (y ∷ ys) zs end have =
      rw have.0 (ap (behind (line y.1)) (listed_front ys zs end have.1) ∙ twice (line y.1) (lines (values_of ys)) (listed line t zs end))

  end_told : (end : FileEnd) → IsDetermined (end_fault end)
  end_told WholeText = tt
  end_told (BadAt place) = tt
  end_told (TooDeepAt place) = tt
  end_told PastLimit = tt

  -- how a listing ends, bytes determine
  pub listed_told : (xs : List FileItem) (end : FileEnd) → IsDetermined (listed line t xs end).ending
  listed_told [] end = end_told end
  listed_told (x ∷ xs) end = by (fits t x.1) refl (listed_told xs end)
    where
      by : (b : Bool) → fits t x.1 ≡ b → IsDetermined (listed line t xs end).ending → IsDetermined (listed line t (x ∷ xs) end).ending
      by true is more = rw is more
      by false is more = rw is tt

  -- of a file with these bytes a head was read, and these items
  module _ (bytes : List ℕ) (head : Option Ty) (vs : List Value) (now : HeadedFile) (left : Left) (limit : limit_of now ≡ most_read) (read : HasRead (Some (Some bytes)) head vs now left) (have : AllFit t vs) where
    shows_at : Shows (limit_of now) bytes (file_text most_read bytes).head (values_of (file_text most_read bytes).items) (file_text most_read bytes).behind
    shows_at = subst (λ n. Shows n bytes (file_text most_read bytes).head (values_of (file_text most_read bytes).items) (file_text most_read bytes).behind) (sym limit) (text_shows most_read bytes)

    shown : (head ≡ (file_text most_read bytes).head) × ((us : List Value) × (values_of (file_text most_read bytes).items ≡ vs ++ us))
    shown = first_shown (Some (Some bytes)) head (file_text most_read bytes).head vs (values_of (file_text most_read bytes).items) now left bytes (file_text most_read bytes).behind read refl shows_at

    pub head_is : head ≡ (file_text most_read bytes).head
    head_is = shown.0

    -- their lines stand first on the page
    pub front_is : (more : List ℕ) × ((listed line t (file_text most_read bytes).items (file_text most_read bytes).behind).page ≡ lines vs ++ more)
    front_is =
        let r = split_values (file_text most_read bytes).items vs shown.1.0 shown.1.1 in
        let is : listed line t (file_text most_read bytes).items (file_text most_read bytes).behind ≡ behind (lines vs) (listed line t r.1 (file_text most_read bytes).behind) =
        ap (λ xs. listed line t xs (file_text most_read bytes).behind) r.2
        ∙ (listed_front r.0 r.1 (file_text most_read bytes).behind (subst (AllFit t) (sym r.3) have)
        ∙ ap (λ ws. behind (lines ws) (listed line t r.1 (file_text most_read bytes).behind)) r.3) in
        ((listed line t r.1 (file_text most_read bytes).behind).page, ap (λ v. v.page) is)

    -- an end behind them
    pub end_is : (end : FileEnd) → EndsSo (Some (Some bytes)) head vs end now → listed line t (file_text most_read bytes).items (file_text most_read bytes).behind ≡ record { page = lines vs; ending = end_fault end }
    end_is end ends =
        let one = one_text (limit_of now) bytes head (file_text most_read bytes).head vs (values_of (file_text most_read bytes).items) end (file_text most_read bytes).behind (ends bytes refl).0 shows_at in
        let all : values_of (file_text most_read bytes).items ≡ vs ++ [] = sym one.1.0 ∙ sym (append-nil vs) in
        let r = split_values (file_text most_read bytes).items vs [] all in
        let none : r.1 ≡ [] = no_values r.1 r.4 in
        ap (λ xs. listed line t xs (file_text most_read bytes).behind) (r.2 ∙ ap (λ zs. r.0 ++ zs) none)
        ∙ (listed_front r.0 [] (file_text most_read bytes).behind (subst (AllFit t) (sym r.3) have)
        ∙ ((λ i. behind (lines (r.3 i)) (record { page = []; ending = end_fault (sym one.1.1 i) }))
        ∙ ap (λ p. record { page = p; ending = end_fault end }) (append-nil (lines vs))))
      where
        no_values : (xs : List FileItem) → values_of xs ≡ [] → xs ≡ []
        no_values [] is = refl
        no_values (x ∷ xs) is = absurd cc

    -- an item behind them that lacks the type
    pub misfit_is : (v : Value) (then : HeadedFile) (left' : Left) → limit_of then ≡ most_read → HasRead (Some (Some bytes)) head (vs ++ v ∷ []) then left' → fits t v ≡ false
        → listed line t (file_text most_read bytes).items (file_text most_read bytes).behind ≡ record { page = lines vs; ending = Some (fault.BadFile (place_of now)) }
    misfit_is v then left' limit' after misfit =
        let shows' = subst (λ n. Shows n bytes (file_text most_read bytes).head (values_of (file_text most_read bytes).items) (file_text most_read bytes).behind) (sym limit') (text_shows most_read bytes) in
        let more = (first_shown (Some (Some bytes)) head (file_text most_read bytes).head (vs ++ v ∷ []) (values_of (file_text most_read bytes).items) then left' bytes (file_text most_read bytes).behind after refl shows').1 in
        let r = split_values (file_text most_read bytes).items vs (v ∷ more.0) (more.1 ∙ append_assoc vs (v ∷ []) more.0) in
        lacks r.0 r.1 v more.0 r.2 r.3 r.4 misfit
      where
        text : IsFileText most_read bytes (file_text most_read bytes)
        text = is_file_text most_read bytes

        place : (ys : List FileItem) (x : FileItem) (zs : List FileItem) → (file_text most_read bytes).items ≡ ys ++ x ∷ zs → values_of ys ≡ vs → x.0 ≡ place_of now
        place ys x zs split is =
            let m = read.behind in
            let r = read.items.remains m.0 m.2 in
            let mine : bytes ≡ read.front ++ (read.items.read ++ (now.items.text.left ++ (r.beyond ++ r.behind))) = m.1 ∙ ap (λ z. read.front ++ z) (r.whole ∙ append_assoc read.items.read now.items.text.left (r.beyond ++ r.behind)) in
            let theirs : bytes ≡ text.front ++ (text.read ++ (text.left ++ drop most_read bytes)) =
            sym (take-append-drop most_read bytes) ∙ (ap (λ z. z ++ drop most_read bytes) text.seen
            ∙ (append_assoc text.front (text.read ++ text.left) (drop most_read bytes) ∙ ap (λ z. text.front ++ z) (append_assoc text.read text.left (drop most_read bytes)))) in
            let same : read.front ++ (read.items.read ++ (now.items.text.left ++ (r.beyond ++ r.behind))) ≡ text.front ++ (text.read ++ (text.left ++ drop most_read bytes)) = sym mine ∙ theirs in
            let front : read.front ≡ text.front = one_states head read.front text.front (read.items.read ++ (now.items.text.left ++ (r.beyond ++ r.behind))) (text.read ++ (text.left ++ drop most_read bytes)) read.states (subst (λ h. States h text.front) (sym shown.0) text.states) same in
            let tails : read.items.read ++ (now.items.text.left ++ (r.beyond ++ r.behind)) ≡ text.read ++ (text.left ++ drop most_read bytes) =
            append_cancel_left read.front (read.items.read ++ (now.items.text.left ++ (r.beyond ++ r.behind))) (text.read ++ (text.left ++ drop most_read bytes)) (same ∙ ap (λ z. z ++ (text.read ++ (text.left ++ drop most_read bytes))) (sym front)) in
            let at = next_at (length text.front) ys x zs read.items.read text.read (now.items.text.left ++ (r.beyond ++ r.behind)) (text.left ++ drop most_read bytes)
            (subst (Items read.items.read) (sym is) read.items.items) (subst (Placed (length text.front) text.read) split text.items) tails in
            let f : length read.front ≡ length text.front = ap length front in
            let g = read.size in
            let h = read.items.place in
            omega arith

        lacks : (ys zs : List FileItem) (v : Value) (us : List Value) → (file_text most_read bytes).items ≡ ys ++ zs → values_of ys ≡ vs → values_of zs ≡ v ∷ us → fits t v ≡ false
            → listed line t (file_text most_read bytes).items (file_text most_read bytes).behind ≡ record { page = lines vs; ending = Some (fault.BadFile (place_of now)) }
        lacks ys [] v us split is others misfit = absurd cc
        lacks ys (x ∷ zs) v us split is others misfit =
            let v_is : x.1 ≡ v = cc in
            let stops : listed line t (x ∷ zs) (file_text most_read bytes).behind ≡ refused (fault.BadFile x.0) = rw (ap (fits t) v_is ∙ misfit) refl in
            ap (λ xs. listed line t xs (file_text most_read bytes).behind) split
            ∙ (listed_front ys (x ∷ zs) (file_text most_read bytes).behind (subst (AllFit t) (sym is) have)
            ∙ (ap (behind (lines (values_of ys))) stops
            ∙ ((λ i. behind (lines (is i)) (refused (fault.BadFile (place ys x zs split is i))))
            ∙ ap (λ p. record { page = p; ending = Some (fault.BadFile (place_of now)) }) (append-nil (lines vs)))))
