use Rattle.std.proofs.Common.{◌≡◌, ◌+◌, drop, slice_get, option_map}
use Rattle.dnp_eventbuf.specs.Latest.{numbered_for}
use Rattle.dnp_eventbuf.proofs.arriving.id_for.Given as goal

-- the one at the place is among what is to come
abbrev pub invariant-loop-x : goal.invariant-loop-x
invariant-loop-x l = record {
  id : l.id ≡ l.last + l.x-index;
  same : option_map (λ x. x.id) (slice_get (numbered_for l.number l.id (drop l.x-index l.rows)) l.left) ≡ option_map (λ x. x.id) (slice_get (numbered_for l.fn.number l.fn.last l.fn.rows) l.fn.place);
}
