-- What time that passes makes of the link to a substation, as a stream sees it.
use Rattle.std.specs.Prelude.{◌≡◌, ℕ, Bool, true, false, if◌then◌else◌, List, slice_set}
use Rattle.std.proofs.Common.{ap, sym, ◌∙◌}
use Rattle.std.proofs.lemmas.List.{set-get_or}
use Rattle.dnp_controls.specs.Book.{Ledger}
use Rattle.dnp_eventbuf.specs.EventBuffer.{EventBuffer}
use Rattle.dnp_master.specs.State.{closed, is_timed_out}
use Rattle.dnp_outstation.specs.State.{Core}
use Rattle.dnp_pointdb.specs.Plan as points
use Rattle.dnp_concentrator.specs.Below.{link_in, no_link}
use Rattle.dnp_concentrator.specs.Concentrator.{without_link}
use Rattle.dnp_concentrator.specs.Relaying.{Relaying, ticked}
use Rattle.dnp_concentrator.specs.declared.span.Spans.{Spans}
use Rattle.dnp_streams.specs.streams.BelowLives.{cut}
use Rattle.dnp_streams.proofs.streams.Taken.{below, seen}

-- a link whose timer has not ended is as it was
still_link : (links : List Relaying) (at now : ℕ) → false ≡ is_timed_out (link_in links at).master now
    → slice_set links at (ticked (link_in links at) now) ≡ links
still_link links at now is =
    ap (λ (ended : Bool). slice_set links at
    (record (link_in links at) { master = if ended then closed (link_in links at).master else (link_in links at).master })) (sym is)
    ∙ set-get_or links at no_link

pub ticked_below : (ended : Bool) (now at : ℕ) (links : List Relaying) (core other : Core) {links' : List Relaying} {core' other' : Core}
    {indices indices' : List Spans} {plan plan' : points.Plan} {queue queue' more more' : EventBuffer} {book book' : Ledger}
    → ended ≡ is_timed_out (link_in links at).master now → links' ≡ slice_set links at (ticked (link_in links at) now)
    → core' ≡ (if ended then without_link core at else core) → other' ≡ (if ended then without_link other at else other)
    → indices' ≡ indices → plan' ≡ plan → queue' ≡ queue → more' ≡ more → book' ≡ book
    → below at links' core' other' indices' plan' queue' more' book'
    ≡ (if ended then cut (below at links core other indices plan queue more book) now else below at links core other indices plan queue more book)
ticked_below true now at links core other is set core_is other_is indices_are plans queues mores books =
    seen at set core_is other_is indices_are plans queues mores books
ticked_below false now at links core other is set core_is other_is indices_are plans queues mores books =
    seen at (set ∙ still_link links at now is) core_is other_is indices_are plans queues mores books
