-- What the system's files and streams mean: no bytes are told.
use Rattle.std.specs.Prelude.{None}
use Rattle.std.specs.Option.{option_map}
use Rattle.slab.specs.Slab.{get}
use Rattle.kl_outside.specs.Files.{FilesState}
use Rattle.kl_outside.specs.Sinks.{SinkState}
use Rattle.kl_outside.specs.declared.host.HostFiles.{HostFiles}
use Rattle.kl_outside.specs.declared.host.HostSink.{HostSink}

-- of a file that is open nothing more is known
abbrev pub host_state : HostFiles → FilesState
host_state h = record { told = None; left = λ k. option_map (λ file. None) (get h.opened k); log = None; faults = h.faults }

abbrev pub stream_state : {W : Type 0} → HostSink W → SinkState
stream_state h = record { taken = None; faults = h.faults; wants = 0 }
