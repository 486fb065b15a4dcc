-- The parts of a driver of files of values, and what stays true of its files and of what reads them. Public contracts cite
-- `Desk` alone.
use Rattle.std.specs.Prelude.{◌≡◌, ◌⊎◌, ℕ, ◌≤◌, List, [], length, Option, Some, IsSome}
use Rattle.kl_value.specs.declared.Value.{Value}
use Rattle.kl_outside.specs.Files.{FilesState, left_at_first, seen_in}
use Rattle.kl_outcome.specs.Outcome.{Name}
use Rattle.kl_exchange.specs.FileReading.{Left}
use Rattle.kl_heads.specs.FileReading.{AsSeen, HasOpened, HasRead, HeadedFile, limit_of}
use Rattle.kl_ask.specs.Cursors.{open_at}
use Rattle.kl_ask.specs.Driver.{Rows}
use Rattle.kl_ask.specs.declared.ask.Ask.{Ask}
use Rattle.kl_heads.specs.Found.{file_text}
use Rattle.kl_nested.specs.Contents.{head_as, item_ty, stored_in}
use Rattle.kl_ask.specs.Named.{asked_source, source_named}
use Rattle.kl_nested.specs.Nested.{Sources, Tells, head_of, stated_of}
use Rattle.kl_nested.specs.declared.parts.Source.{Source}
use Rattle.kl_nested.specs.declared.parts.Open.{Open}

pub record Desk (F : Type 0) : Type 0 where
  pub files : F
  pub sources : Sources
  pub cursors : List (Option Open)
  pub asked : List (Ask × ℕ)
  pub handed : ℕ
  pub drifts : ℕ
  pub unread : ℕ

-- What was kept of a source when it was attached: where bytes are told, whether they have a head, their number and that of the rows.
pub record IsKept (limit : ℕ) (told : Tells) (s : Source) : Type 0 where
  pub short : s.bytes ≤ limit
  pub few : s.count ≤ limit
  pub known : (files : List ℕ → Option (List ℕ)) → told ≡ Some files → (bytes : List ℕ) × (rows : List Value)
      × (files s.path ≡ Some bytes) × (stored_in limit bytes (item_ty s.ty) ≡ Rows rows) × (s.count ≡ length rows)
      × (s.bytes ≡ length bytes) × (head_as (file_text limit bytes).head ≡ head_of s)

-- Of a file that had `first` left nothing was read, or the head that was kept of the source, or that it has none, and these items.
abbrev pub HasReadOf : Source → List Value → HeadedFile → Left → Left → Type 0
HasReadOf s values now first left = ((values ≡ []) × HasOpened first now left) ⊎ HasRead first (stated_of s) values now left

-- A reader of the source's file, which is open, has read so many items of it.
pub record HasTaken (limit : ℕ) (s : Source) (taken : ℕ) (now : HeadedFile) (f : FilesState) : Type 0 where
  pub values : List Value
  pub has_read : HasReadOf s values now (Some (left_at_first f.told s.path)) (f.left now.items.file)
  pub has_seen : AsSeen (HasReadOf s values now) now (seen_in f now.items.file)
  pub is_open : IsSome (f.left now.items.file)
  pub counted : taken ≡ length values
  pub same_limit : limit_of now ≡ limit

-- an open cursor has its file open, and has read as many items as it took
pub record IsReading (limit : ℕ) (f : FilesState) (o : Open) : Type 0 where
  pub kept : IsKept limit f.told o.source
  pub within : o.taken ≤ o.source.count
  pub same_file : o.reader.items.file ≡ o.file
  pub taken : HasTaken limit o.source o.taken o.reader f

-- Each source is as it was attached, each open cursor reads a file of its own, of the source that its ask names, and no other
-- file is open.
pub record IsDesk (limit : ℕ) (f : FilesState) (sources : Sources) (cursors : List (Option Open)) : Type 0 where
  pub kept : (name : Name) (s : Source) → source_named sources name ≡ Some s → IsKept limit f.told s
  pub asked : (k : ℕ) (o : Open) → open_at cursors k ≡ Some o → asked_source sources o.ask ≡ Some o.source
  pub reading : (k : ℕ) (o : Open) → open_at cursors k ≡ Some o → IsReading limit f o
  pub only : (n : ℕ) → IsSome (f.left n) → (k : ℕ) × (o : Open) × (open_at cursors k ≡ Some o) × (o.file ≡ n)
  pub apart : (j k : ℕ) (o p : Open) → open_at cursors j ≡ Some o → open_at cursors k ≡ Some p → o.file ≡ p.file → j ≡ k
