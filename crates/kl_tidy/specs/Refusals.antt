-- The status of each refusal, and the line that tells of it.
use Rattle.std.specs.Prelude.{ℕ, List, ◌++◌, codes, decimal}
use Rattle.kl_tidy.specs.Writing.{quoted}
use Rattle.kl_tidy.specs.declared.columns.Wrong.{Wrong}
use Rattle.kl_tidy.specs.declared.columns.Wrong.TheVariants as wrong
use Rattle.kl_tidy.specs.declared.refusal.Refusal.{Refusal}
use Rattle.kl_tidy.specs.declared.refusal.Refusal.TheVariants as refusal

abbrev pub refusal_status : Refusal → ℕ
refusal_status refusal.Usage = 1
refusal_status (refusal.BadFile path w) = 5
refusal_status refusal.Read = 7
refusal_status refusal.Write = 8
refusal_status refusal.NoMemory = 9
refusal_status refusal.FileBytes = 10

abbrev pub place_text : ℕ → List ℕ
place_text n = codes "bad at " ++ decimal n

abbrev pub wrong_text : Wrong → List ℕ
wrong_text (wrong.Record n) = place_text n
wrong_text (wrong.Column column) = codes "no column " ++ quoted column
wrong_text (wrong.Cell n column cell) = place_text n ++ codes " in " ++ column ++ codes ": " ++ quoted cell

abbrev pub refusal_line : Refusal → List ℕ
refusal_line refusal.Usage = codes "usage: kltable [--from tab|semicolon] [--missing COLUMN VALUE] [--scale COLUMN N] FILE\n"
refusal_line (refusal.BadFile path w) = codes "source " ++ path ++ codes ": " ++ wrong_text w ++ codes "\n"
refusal_line refusal.Read = codes "read fault\n"
refusal_line refusal.Write = codes "write fault\n"
refusal_line refusal.NoMemory = codes "out of memory\n"
refusal_line refusal.FileBytes = codes "limit: file bytes\n"
