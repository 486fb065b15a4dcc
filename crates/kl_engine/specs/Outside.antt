-- What stands outside a command: the files, the drivers and the output, as it finds or as it leaves them.
use Rattle.std.specs.Prelude.{List}
use Rattle.kl_outside.specs.Files.{FilesState}
use Rattle.kl_outside.specs.Sinks.{SinkState}
use Rattle.kl_ask.specs.Driver.{State}

pub record Outside : Type 0 where
  pub files : FilesState
  pub drivers : List State
  pub out : SinkState

abbrev pub outside_of : FilesState → List State → SinkState → Outside
outside_of files drivers out = record { files = files; drivers = drivers; out = out }
