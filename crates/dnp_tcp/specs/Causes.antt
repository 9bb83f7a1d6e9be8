-- Definition: what is kept beside a writer, of why its calls failed; and which faults of a connection say no more than that a call has
-- waited.
use Rattle.std.specs.Prelude.{Bool, true, false, Option}
use Rattle.std.specs.declared.io.Error.{Error}
use Rattle.std.specs.declared.io.ErrorKind.{ErrorKind}
use Rattle.std.specs.declared.io.ErrorKind.TheVariants.{WouldBlock, Interrupted}
use Rattle.dnp_tcp.specs.declared.fault.Noted.{Noted}

-- what is written to
abbrev pub noted_stream : {S : Type 0} → Noted S → S
noted_stream s = s.inner

-- why its last failed call failed, if one did
abbrev pub noted_cause : {S : Type 0} → Noted S → Option Error
noted_cause s = s.cause

-- a call that waited for as long as it may, or was stopped on its way, as by a signal
abbrev pub is_waited_out : ErrorKind → Bool
is_waited_out WouldBlock = true
is_waited_out Interrupted = true
is_waited_out _ = false
