use Rattle.std.proofs.Common.{◌≡◌, ◌&&◌, not, fold}
use Rattle.std.specs.List.{list_any}
use Rattle.dnp_outstation.specs.Content.{clears_restart, later, time_in, write_bits}
use Rattle.dnp_outstation.proofs.execute.written.Given as goal

-- what is left decides
abbrev pub invariant-loop-header : goal.invariant-loop-header
invariant-loop-header l = record {
  bits : write_bits l.header-iterator.headers ≡ write_bits l.initial.header-iterator.headers;
  restart : (l.changes.restart && not (list_any clears_restart l.header-iterator.headers))
      ≡ (l.restart && not (list_any clears_restart l.initial.header-iterator.headers));
  time : fold (λ time h. later time (time_in h)) l.changes.time l.header-iterator.headers
      ≡ fold (λ time h. later time (time_in h)) l.initial.changes.time l.initial.header-iterator.headers;
}
