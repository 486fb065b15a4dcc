-- The head of a file, its items and where each begins, and what stands behind them, as a function of the file's bytes. What
-- it is, `IsFileText` says by the grammar alone, which allows no other (`text_laws`): no contract rests on how it is written here.
use Rattle.std.specs.Prelude.{◌≡◌, ℕ, ◌+◌, ◌-◌, nat_le, Bool, true, false, cond, List, [], ◌++◌, length, take, map, Option, Some, None}
use Rattle.std.proofs.Common.{drop}
use Rattle.kl_type.specs.declared.ground.Ty.{Ty}
use Rattle.kl_exchange.specs.FileItems.{FileEnd, WholeText, BadAt, TooDeepAt, PastLimit}
use Rattle.kl_exchange.specs.Found.{FileItem, Found, Placed, file_items, values_of}
use Rattle.kl_exchange.specs.Reading.{nesting}
use Rattle.kl_heads.specs.Files.{States, is_first, EndsIn}
use Rattle.kl_heads.specs.Machine.{Run, run, more, ends, no_head, fails, deep, start, may_be_item}

pub record FileText : Type 0 where
  pub head : Option Ty
  pub items : List FileItem
  pub behind : FileEnd

-- the same behind so many bytes
abbrev pub moved : ℕ → FileEnd → FileEnd
moved n WholeText = WholeText
moved n (BadAt place) = BadAt (n + place)
moved n (TooDeepAt place) = TooDeepAt (n + place)
moved n PastLimit = PastLimit

-- items behind a head of so many bytes, or behind none
abbrev pub behind_head : Option Ty → ℕ → Found → FileText
behind_head head n f = record { head = head; items = map (λ x. (n + x.0, x.1)) f.items; behind = moved n f.behind }

-- a head that does not stand whole
abbrev pub no_text : FileEnd → FileText
no_text end = record { head = None; items = []; behind = end }

-- what bytes come to that lead there; the file ends behind those that are looked at, or goes on
abbrev pub text_by : ℕ → List ℕ → Run → Bool → FileText
text_by limit bytes (ends t rest) whole =
    let n = length (take limit bytes) - length rest in behind_head (Some t) n (file_items (limit - n) (drop n bytes))
text_by limit bytes no_head whole = behind_head None 0 (file_items limit bytes)
text_by limit bytes (fails rest) whole = no_text (BadAt (length (take limit bytes) - length rest))
text_by limit bytes (deep rest) whole = no_text (TooDeepAt (length (take limit bytes) - length rest))
text_by limit bytes (more m) false = no_text PastLimit
text_by limit bytes (more m) true =
    cond (may_be_item m.phase) (behind_head None 0 (file_items limit bytes)) (no_text (BadAt (length bytes)))

-- of a file with these bytes at most `limit` are looked at
unfoldable pub file_text : ℕ → List ℕ → FileText
file_text limit bytes = text_by limit bytes (run nesting (take limit bytes) start) (nat_le (length bytes) limit)

-- a file with these bytes has this head or none, then these items at these places, and then comes this end
pub record IsFileText (limit : ℕ) (bytes : List ℕ) (f : FileText) : Type 0 where
  pub front : List ℕ
  pub read : List ℕ
  pub left : List ℕ
  pub seen : take limit bytes ≡ front ++ (read ++ left)
  pub states : States f.head front
  pub items : Placed (length front) read f.items
  pub ends : EndsIn (is_first f.head (values_of f.items)) (length front + length read) left (nat_le (length bytes) limit) f.behind
