-- Definition: what was asked of a reader and a writer.
use Rattle.std.specs.Prelude.{false}
use Rattle.dnp_streams.specs.declared.stream.log.Log.{Log}

-- nothing yet
abbrev pub new_log : Log
new_log = record { reads = 0; read_failed = false; write_failed = false }
