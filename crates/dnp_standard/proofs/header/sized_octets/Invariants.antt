use Rattle.std.proofs.Common.{◌≡◌, ◌+◌, ◌-◌, ◌≤◌, length, drop}
use Rattle.std.specs.Option.{option_map}
use Rattle.dnp_standard.specs.Headers.{sized_octets}
use Rattle.dnp_standard.proofs.header.sized_octets.Given as goal

-- the octets so far, and those of the objects that are still to come
abbrev pub invariant-loop-done : goal.invariant-loop-done
invariant-loop-done l = record {
  within : l.place ≤ length l.octets;
  all : sized_octets l.width l.count l.octets ≡ option_map (λ more. l.place + more) (sized_octets l.width (l.count - l._done) (drop l.place l.octets));
}
