-- Definition: what a stream's numbers say.
use Rattle.std.specs.Prelude.{◌≡◌, ℕ, ◌+◌, ◌-◌, ◌^◌, ◌||◌, min, false}
use Rattle.dnp_streams.specs.declared.stream.served.Served.{Served}
use Rattle.dnp_streams.specs.streams.Exchanges.{Output}

abbrev pub none_served : Served
none_served = record { fragments = 0; faults = 0; closed = false }

-- what one step brought, which is within a count
abbrev pub served_of : Output → Served
served_of output = record { fragments = output.fragments; faults = output.faults; closed = output.closed }

-- the largest number that a count has
abbrev pub most : ℕ
most = 2 ^ 64 - 1

-- the output is counted; a count stops at the largest number
pub record Counts (old : Served) (output : Output) (new : Served) : Type 0 where
  pub fragments : new.fragments ≡ min (old.fragments + output.fragments) most
  pub faults : new.faults ≡ min (old.faults + output.faults) most
  pub closed : new.closed ≡ (old.closed || output.closed)
