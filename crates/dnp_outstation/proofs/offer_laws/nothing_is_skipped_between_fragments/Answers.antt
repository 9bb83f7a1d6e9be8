use Rattle.std.proofs.Common.{ap, map}
use Rattle.dnp_appfragment.specs.Headers.{begin}
use Rattle.dnp_appfragment.specs.Table.{form_of}
use Rattle.dnp_outstation.specs.Items.{no_ids, items_of, part_of}
use Rattle.dnp_outstation.proofs.OfferParts.{parts_fresh}
use Rattle.dnp_outstation.proofs.RestOfRead.{fragment_rest, fragments_hold, all_fit, count_is, part_few}
use Rattle.dnp_outstation.proofs.RestReleased.{released_rest}
use Rattle.dnp_outstation.proofs.offer_laws.nothing_is_skipped_between_fragments.Goals as goal

pub returns-clause-rest : goal.returns-clause-rest
returns-clause-rest c = λ s stood headers place left sound few fit nine is. fragment_rest s stood headers sound few fit place left nine is

pub returns-clause-all : goal.returns-clause-all
returns-clause-all c = λ s stood headers place fragments sound few fit nine are. fragments_hold s stood headers sound few fit place fragments nine are

pub returns-clause-released : goal.returns-clause-released
returns-clause-released c = λ s stood headers place left sound nine is.
    released_rest c.a_release_is_lane_by_lane.ensures s stood headers place left sound nine is

pub returns-clause-read : goal.returns-clause-read
returns-clause-read c = λ octets asked is. all_fit (form_of asked.function) begin asked.headers is.headers.each

pub returns-clause-begins : goal.returns-clause-begins
returns-clause-begins c = λ s stood headers. ap (items_of s stood no_ids 0) (parts_fresh (map (part_of s) headers))

pub returns-clause-count : goal.returns-clause-count
returns-clause-count c = λ s h count few fit. count_is count (part_of s h) (part_few s h few fit)
