-- What is put on a page, one after the other.
use Rattle.std.proofs.Common.{◌≡◌, ℕ, suc, ◌+◌, ◌<◌, ◌==◌, List, [], ◌∷◌, ◌++◌, codes, length, map, take, get_or, Some, None, Result, Ok, Err, refl, sym, ap, subst, ◌∙◌, append_assoc, append-nil, arith, false, cond}
use Rattle.std.proofs.lemmas.Bool.Decides.{nat_tests}
use Rattle.std.proofs.lemmas.List.{map-append}
use Rattle.kl_exchange.specs.Printing.{Puts, as_stop}
use Rattle.kl_exchange.specs.declared.error.PrintError.{PrintError}
use Rattle.kl_exchange.specs.declared.error.PrintError.TheVariants as print
use Rattle.kl_exchange.proofs.Printed.{then}
use Rattle.kl_exchange.proofs.TextLemmas.{commas_more}
use Rattle.kl_outside.specs.Sinks.{SinkState, WritesWhole}
use Rattle.kl_outside.specs.declared.Stop.{Stop}
use Rattle.kl_outside.specs.declared.stop.Stop.TheVariants as stop
use Rattle.kl_outside.proofs.SinkLemmas.{cause_as}
use Rattle.kl_value.specs.Written.{text_of, with_commas, separator}
use Rattle.kl_value.specs.declared.value.Value.{Value}
use Rattle.kl_engine.specs.Verdict.{list_front}

-- A line is put by its text and then its end.
pub puts_line : (result : Result (Unit {0}) PrintError) (text end : List ℕ) (s t v : SinkState) (h k m : List ℕ) → Puts {T = Unit {0}} text (Ok tt) s h t k → Puts end (as_stop result) t k v m → Puts (text ++ end) (as_stop result) s h v m
puts_line (Ok done) text end s t v h k m p q = (then {us = text} {bs = end} {s = s} {t = t} {v = v} {h = h} {k = k} {m = m} {w = None} {x = None} {y = None} (record { adds = p }) (record { adds = q })).adds
puts_line (Err print.Failed) text end s t v h k m p q = (then {us = text} {bs = end} {s = s} {t = t} {v = v} {h = h} {k = k} {m = m} {w = None} {x = None} {y = Some stop.Failed} (record { adds = p }) (record { adds = q })).adds
puts_line (Err print.NoMemory) text end s t v h k m p q = (then {us = text} {bs = end} {s = s} {t = t} {v = v} {h = h} {k = k} {m = m} {w = None} {x = None} {y = Some stop.NoMemory} (record { adds = p }) (record { adds = q })).adds

-- Where the text was refused, nothing more is put.
pub puts_stopped : (e : PrintError) (text end : List ℕ) (s t : SinkState) (h k : List ℕ) → Puts {T = Unit {0}} text (as_stop (Err e)) s h t k → Puts {T = Unit {0}} (text ++ end) (as_stop (Err e)) s h t k
puts_stopped print.Failed text end s t h k p = (then {us = text} {bs = end} {s = s} {t = t} {v = t} {h = h} {k = k} {m = k} {w = None} {x = Some stop.Failed} {y = Some stop.Failed} (record { adds = p }) (record { adds = (refl, refl) })).adds
puts_stopped print.NoMemory text end s t h k p = (then {us = text} {bs = end} {s = s} {t = t} {v = t} {h = h} {k = k} {m = k} {w = None} {x = Some stop.NoMemory} {y = Some stop.NoMemory} (record { adds = p }) (record { adds = (refl, refl) })).adds

-- What is put is put whatever else would be answered.
pub puts_as : {T U : Type 0} (x : T) (y : U) (bytes : List ℕ) (s t : SinkState) (h k : List ℕ) → Puts {T = T} bytes (Ok x) s h t k → Puts {T = U} bytes (Ok y) s h t k
puts_as x y bytes s t h k p = record {
  done = p.done;
  rest = p.rest;
  all = p.all;
  took = p.took;
  holds = p.holds;
  cause = record { later = p.cause.later; counts = p.cause.counts; failed = λ is. absurd cc; wants_later = p.cause.wants_later; counts_want = p.cause.counts_want; wanted = λ is. absurd cc };
}

pub puts_refused : {T U : Type 0} (e : PrintError) (bytes : List ℕ) (s t : SinkState) (h k : List ℕ) → Puts {T = T} bytes (as_stop (Err e)) s h t k → Puts {T = U} bytes (as_stop (Err e)) s h t k
puts_refused print.Failed bytes s t h k p = record { done = p.done; rest = p.rest; all = p.all; took = p.took; holds = tt; cause = cause_as stop.Failed s t p.cause }
puts_refused print.NoMemory bytes s t h k p = record { done = p.done; rest = p.rest; all = p.all; took = p.took; holds = tt; cause = cause_as stop.NoMemory s t p.cause }

-- pieces with commas begin with those of a front
abbrev Begins : List ℕ → List ℕ → Type 0
Begins front all = (rest : List ℕ) × (all ≡ front ++ rest)

commas_front : (ps qs : List (List ℕ)) → Begins (with_commas ps) (with_commas (ps ++ qs))
commas_front [] qs = (with_commas qs, refl)
commas_front (p ∷ []) [] = ([], sym (append-nil p))
commas_front (p ∷ []) (q ∷ qs) = (codes ", " ++ with_commas (q ∷ qs), append_assoc p (codes ", ") (with_commas (q ∷ qs)))
commas_front (p ∷ r ∷ ps) qs =
    let more = commas_front (r ∷ ps) qs in
    (more.0, ap (λ t. (p ++ codes ", ") ++ t) more.1 ∙ sym (append_assoc (p ++ codes ", ") (with_commas (r ∷ ps)) more.0))

-- what is printed of a list begins with what is printed of its first items
pub front_more : (given more : List Value) → Begins (list_front given) (list_front (given ++ more))
front_more given more =
    let h = commas_front (map text_of given) (map text_of more) in
    (h.0, ap (λ t. codes "[|" ++ t) (ap with_commas (map-append text_of given more) ∙ h.1) ∙ sym (append_assoc (codes "[|") (with_commas (map text_of given)) h.0))

last_there : (given : List Value) (v : Value) → (length given < length (given ++ v ∷ [])) × (v ≡ get_or (given ++ v ∷ []) (length given) v)
last_there [] v = (omega arith, refl)
last_there (w ∷ given) v = let h = last_there given v in (let l = h.0 in omega (arith, l), h.1)

take_first : (given more : List Value) → take (length given) (given ++ more) ≡ given
take_first [] more = refl
take_first (v ∷ given) more = ap (λ vs. v ∷ vs) (take_first given more)

take_whole : (given : List Value) (v : Value) → take (length given + 1) (given ++ v ∷ []) ≡ given ++ v ∷ []
take_whole [] v = refl
take_whole (w ∷ given) v = ap (λ k. take k (w ∷ (given ++ v ∷ []))) (let k : suc (length given) + 1 ≡ suc (length given + 1) = omega arith in k) ∙ ap (λ vs. w ∷ vs) (take_whole given v)

-- an item more
front_next : (given : List Value) (v : Value) → list_front (given ++ v ∷ []) ≡ list_front given ++ (separator (length given) ++ text_of v)
front_next given v =
    let last = last_there given v in
    ap (λ t. codes "[|" ++ t) (
    ap (λ vs. with_commas (map text_of vs)) (sym (take_whole given v))
    ∙ commas_more text_of (given ++ v ∷ []) (length given) v last.0 last.1
    ∙ ap (λ vs. (with_commas (map text_of vs) ++ separator (length given)) ++ text_of v) (take_first given (v ∷ []))
    ∙ append_assoc (with_commas (map text_of given)) (separator (length given)) (text_of v)
    )
    ∙ sym (append_assoc (codes "[|") (with_commas (map text_of given)) (separator (length given) ++ text_of v))

-- the place at which an item stands tells what stands before it
abbrev pub IsPlace : ℕ → List Value → Type 0
IsPlace place given = separator place ≡ separator (length given)

pub place_next : (given : List Value) (v : Value) → IsPlace 1 (given ++ v ∷ [])
place_next [] v = refl
place_next (w ∷ given) v = ap (λ b. cond b [] (codes ", ")) (sym (past (length (given ++ v ∷ []))))
  where
    past : (n : ℕ) → (suc n == 0) ≡ false
    past n = grind (arith, nat_tests)

pub item_put : (result : Result (Unit {0}) PrintError) (given : List Value) (v : Value) (place : ℕ) (s t u : SinkState) (h k m : List ℕ) → IsPlace place given → Puts {T = Unit {0}} (list_front given) (Ok tt) s h t k
    → Puts (separator place ++ text_of v) (as_stop result) t k u m → Puts (list_front (given ++ v ∷ [])) (as_stop result) s h u m
item_put result given v place s t u h k m is p q =
    subst (λ bs. Puts bs (as_stop result) s h u m) (sym (front_next given v))
    (puts_line result (list_front given) (separator (length given) ++ text_of v) s t u h k m p (subst (λ sep. Puts (sep ++ text_of v) (as_stop result) t k u m) is q))

-- what is held is written
flushed : (r : Result (Unit {0}) Stop) (held : List ℕ) (s t : SinkState) → WritesWhole {T = Unit {0}} held r s t → Puts {T = Unit {0}} [] r s held t []
flushed (Ok x) held s t w = record { done = held; rest = []; all = refl; took = w.took; holds = refl; cause = w.cause }
flushed (Err e) held s t w = record { done = w.part.done; rest = w.part.rest; all = append-nil held ∙ w.part.all; took = w.part.took; holds = tt; cause = w.cause }

pub flush_puts : (result : Result (Unit {0}) PrintError) (text : List ℕ) (s t v : SinkState) (h k after : List ℕ) → Puts {T = Unit {0}} text (Ok tt) s h t k → WritesWhole {T = Unit {0}} k (as_stop result) t v → after ≡ [] → Puts text (as_stop result) s h v after
flush_puts result text s t v h k after p w none =
    subst (λ m. Puts text (as_stop result) s h v m) (sym none)
    (subst (λ bs. Puts bs (as_stop result) s h v []) (append-nil text) (puts_line result text [] s t v h k [] p (flushed (as_stop result) k t v w)))
