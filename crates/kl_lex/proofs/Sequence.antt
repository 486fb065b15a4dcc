-- The bytes have one list of tokens at most.
use Rattle.std.proofs.Common.{◌≡◌, ◌≢◌, ℕ, ◌+◌, ◌<◌, ◌≤◌, Bool, true, false, cond, eqb, List, [], ◌∷◌, ◌++◌, length, ◌⊎◌, inl, inr, refl, sym, ap, subst, ◌∙◌, arith, length-append}
use Rattle.std.proofs.lemmas.Bool.{ne_eqb}
use Rattle.kl_lex.specs.declared.token.Tok.{Tok}
use Rattle.kl_lex.specs.declared.token.Token.{Token}
use Rattle.kl_lex.specs.Blank.{line_feed, hash, is_white, InLine, EndsLine, Gap, none, white, comment, IsDue}
use Rattle.kl_lex.specs.Reading.{LineBefore}
use Rattle.kl_lex.specs.Spelling.{Lexeme, Spelled}
use Rattle.kl_lex.specs.Lexing.{Starts, NoneStarts, Front, Upto, Tokens, PlacesRise}
use Rattle.kl_lex.proofs.Firsts.{lexeme_due, lexeme_full}
use Rattle.kl_lex.proofs.Readings.{one_longest, one_spelled, none_in_none}

-- ---- gaps

pub gap_more : {a b c : List ℕ} → Gap a b → Gap b c → Gap a c
gap_more none h = h
gap_more (white k g) h = white k (gap_more g h)
gap_more (comment line k e g) h = comment line k e (gap_more g h)

pub gap_shorter : {a b : List ℕ} → Gap a b → length b ≤ length a
gap_shorter none = omega arith
gap_shorter (white k g) = let h = gap_shorter g in omega arith
gap_shorter (comment line {bs = bs} k e g) = let h = gap_shorter g in omega (arith, length-append line bs)

pub white_gap : (s : List ℕ) (b : ℕ) (bs : List ℕ) → s ≡ b ∷ bs → is_white b ≡ true → Gap s bs
white_gap s b bs e h = subst (λ (z : List ℕ). Gap z bs) (sym e) (white h none)

pub comment_gap : (s bs rest : List ℕ) → s ≡ hash ∷ bs → LineBefore bs rest → Gap s rest
comment_gap s bs rest e (line, f, h, k) =
    subst (λ (z : List ℕ). Gap z rest) (sym (e ∙ ap (λ (z : List ℕ). hash ∷ z) f)) (comment line h k none)

pub in_line_more : (line : List ℕ) (b : ℕ) → InLine line → b ≢ line_feed → InLine (line ++ b ∷ [])
in_line_more [] b h n = (n, tt)
in_line_more (c ∷ line) b h n = (h.0, in_line_more line b h.1 n)

-- what is left behind a gap, in a comment or not
left : Bool → List ℕ → List ℕ
left inside [] = []
left true (b ∷ bs) = cond (eqb b line_feed) (left false bs) (left true bs)
left false (b ∷ bs) = cond (is_white b) (left false bs) (cond (eqb b hash) (left true bs) (b ∷ bs))

left_line : (line bs : List ℕ) → InLine line → EndsLine bs → left true (line ++ bs) ≡ left false bs
unfolding left
left_line [] [] k e = refl
left_line [] (b ∷ bs) k e = rw e refl
left_line (b ∷ line) bs k e = rw (ne_eqb b line_feed k.0) (left_line line bs k.1 e)

left_gap : {a b : List ℕ} → Gap a b → left false a ≡ left false b
unfolding left
left_gap none = refl
left_gap (white k g) = rw k (left_gap g)
left_gap (comment line {bs = bs} k e g) = left_line line bs k e ∙ left_gap g

left_due : (r : List ℕ) → IsDue r → left false r ≡ r
unfolding left
left_due [] d = refl
left_due (b ∷ bs) d = rw (d.0, ne_eqb b hash d.1) refl

-- the end of a gap where nothing is left, or a token is due
abbrev pub Stops : List ℕ → Type 0
Stops r = (r ≡ []) ⊎ IsDue r

left_stops : (r : List ℕ) → Stops r → left false r ≡ r
unfolding left
left_stops r (inl e) = rw e refl
left_stops r (inr d) = left_due r d

-- a gap ends in one place
one_gap : (a b c : List ℕ) → Gap a b → Gap a c → Stops b → Stops c → b ≡ c
one_gap a b c g h s t = sym (left_stops b s) ∙ sym (left_gap g) ∙ left_gap h ∙ left_stops c t

-- ---- tokens

starts_due : (bytes : List ℕ) (what : Tok) (rest : List ℕ) → Starts bytes what rest → IsDue bytes
starts_due bytes what rest s = subst IsDue (sym s.longest.parts) (lexeme_due s.lexeme rest s.longest.one)

-- a token has a byte
pub starts_shorter : (bytes : List ℕ) (what : Tok) (rest : List ℕ) → Starts bytes what rest → length rest < length bytes
starts_shorter bytes what rest s = full s.lexeme s.longest.one (ap length s.longest.parts)
  where
    full : (u : List ℕ) → Lexeme u → length bytes ≡ length (u ++ rest) → length rest < length bytes
    full [] l e = absurd (lexeme_full [] l refl)
    full (b ∷ u) l e = omega (arith, length-append u rest)

one_start : (bytes : List ℕ) (a b : Tok) (r q : List ℕ) → Starts bytes a r → Starts bytes b q → (a ≡ b) × (r ≡ q)
one_start bytes a b r q s t =
    let same = one_longest bytes s.lexeme t.lexeme r q s.longest t.longest in
    (one_spelled a b t.lexeme (subst (λ (z : List ℕ). Spelled a z) same.0 s.spelled) t.spelled, same.1)

one_front : (total : ℕ) (bytes : List ℕ) (t s : Token) (r q : List ℕ) → Front total bytes t r → Front total bytes s q → (t ≡ s) × (r ≡ q)
one_front total bytes t s r q f g =
    let same = one_start bytes t.what s.what r q f.starts g.starts in
    let a : t.from ≡ s.from = omega (arith, f.from, g.from) in
    let b : t.to ≡ s.to = omega (arith, f.to, g.to, ap length same.1) in
    (same_token t s same.0 a b, same.1)
  where
    same_token : (t s : Token) → t.what ≡ s.what → t.from ≡ s.from → t.to ≡ s.to → t ≡ s
    same_token t s a b c i = record { what = a i; from = b i; to = c i }

-- the end of a list of tokens: the end of the bytes, or a place where a token is due and none starts
abbrev pub Ended : List ℕ → Type 0
Ended r = (r ≡ []) ⊎ (IsDue r × NoneStarts r)

ended_stops : (r : List ℕ) → Ended r → Stops r
ended_stops r (inl e) = inl e
ended_stops r (inr h) = inr h.0

ended_none : (r : List ℕ) → Ended r → NoneStarts r
ended_none r (inl e) = subst NoneStarts (sym e) none_in_none
ended_none r (inr h) = h.1

pub one_lexing : (total : ℕ) (bytes : List ℕ) (ts us : List Token) (r q : List ℕ) → Upto total bytes ts r → Ended r → Upto total bytes us q → Ended q → (ts ≡ us) × (r ≡ q)
one_lexing total bytes [] [] r q g d h e = (refl, one_gap bytes r q g h (ended_stops r d) (ended_stops q e))
one_lexing total bytes [] (u ∷ us) r q g d (front, rest, h, f, more) e =
    let same = one_gap bytes r front g h (ended_stops r d) (inr (starts_due front u.what rest f.starts)) in
    absurd (subst NoneStarts same (ended_none r d) u.what rest f.starts)
one_lexing total bytes (t ∷ ts) [] r q (front, rest, h, f, more) d g e =
    let same = one_gap bytes q front g h (ended_stops q e) (inr (starts_due front t.what rest f.starts)) in
    absurd (subst NoneStarts same (ended_none q e) t.what rest f.starts)
one_lexing total bytes (t ∷ ts) (u ∷ us) r q (front, rest, g, f, more) d (other, behind, h, k, others) e =
    let same = one_gap bytes front other g h (inr (starts_due front t.what rest f.starts)) (inr (starts_due other u.what behind k.starts)) in
    let o = one_front total other t u rest behind (subst (λ (z : List ℕ). Front total z t rest) same f) k in
    let m = one_lexing total behind ts us r q (subst (λ (z : List ℕ). Upto total z ts r) o.1 more) d others e in
    (cc, m.1)

-- where lexing is refused there are no tokens
pub refused_none : (bytes : List ℕ) (found ts : List Token) (r : List ℕ) → Upto (length bytes) bytes found r → IsDue r → NoneStarts r → Tokens bytes ts → ⊥
refused_none bytes found ts r h due never k =
    let e = (one_lexing (length bytes) bytes found ts r [] h (inr (due, never)) k (inl refl)).1 in
    let z : IsDue [] = subst IsDue e due in z

pub read_whole : (bytes : List ℕ) (found ts : List Token) (r : List ℕ) → Upto (length bytes) bytes found r → r ≡ [] → Tokens bytes ts → found ≡ ts
read_whole bytes found ts r h e k = (one_lexing (length bytes) bytes found ts r [] h (inl e) k (inl refl)).0

-- a token more, and the gap behind it
pub upto_more : (total : ℕ) (bytes : List ℕ) (ts : List Token) (r : List ℕ) (t : Token) (rest behind : List ℕ) → Upto total bytes ts r → Front total r t rest → Gap rest behind → Upto total bytes (ts ++ t ∷ []) behind
upto_more total bytes [] r t rest behind g f h = (r, rest, g, f, h)
upto_more total bytes (u ∷ ts) r t rest behind (front, between, g, k, more) f h = (front, between, g, k, upto_more total between ts r t rest behind more f h)

-- places rise
pub places_rise : (place total : ℕ) (bytes : List ℕ) (ts : List Token) (r : List ℕ) → place + length bytes ≡ total → Upto total bytes ts r → PlacesRise place total ts
places_rise place total bytes [] r e g = omega arith
places_rise place total bytes (t ∷ ts) r e (front, rest, g, f, more) =
    let a = gap_shorter g in
    let b = starts_shorter front t.what rest f.starts in
    (omega (arith, f.from), omega (arith, f.from, f.to), places_rise t.to total rest ts r f.to more)
