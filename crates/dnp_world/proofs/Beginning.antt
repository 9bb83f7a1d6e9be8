-- What the octets say that a connection begins with.
use Rattle.std.proofs.Common.{◌≡◌, true, false, [], refl}
use Rattle.std.proofs.lemmas.List.Sorted.{IsPermutation-refl}
use Rattle.dnp_appfragment.specs.Table.{codes, function_of}
use Rattle.dnp_appfragment.specs.Reading.{headers_at, headers_in}
use Rattle.dnp_appfragment.specs.Meaning.{response_at}
use Rattle.dnp_world.specs.Octets.{seq_in, uns_in, fin_in, rows_in}
use Rattle.dnp_world.specs.Moves.{nothing_sent, nothing_reported, Says}

pub sent_seq : seq_in nothing_sent.octets ≡ 15
unfolding seq_in
sent_seq = refl

pub reported_seq : seq_in nothing_reported.octets ≡ 15
unfolding seq_in
reported_seq = refl

pub sent_fin : fin_in nothing_sent.octets ≡ true
unfolding fin_in
sent_fin = refl

pub sent_says : Says false nothing_sent
unfolding uns_in rows_in response_at headers_at headers_in function_of codes
sent_says = record { uns_is = refl; rows_are = IsPermutation-refl [] }

pub reported_says : Says true nothing_reported
unfolding uns_in rows_in response_at headers_at headers_in function_of codes
reported_says = record { uns_is = refl; rows_are = IsPermutation-refl [] }
