-- Private steps: how an index above is looked up: for each kind the substations that have indices of it, by rising
-- base, as the blocks of a plan of points are. What a look-up has to find is said in IndexMap.antt.
use Rattle.std.specs.Prelude.{List, map, slice_index_or, []}
use Rattle.dnp_pointdb.specs.declared.order.BlockPlace.{BlockPlace}
use Rattle.dnp_pointdb.specs.steps.Order as blocks
use Rattle.dnp_concentrator.specs.declared.index_kind.IndexKind.{IndexKind}
use Rattle.dnp_concentrator.specs.declared.order.SortedSpans.{SortedSpans}
use Rattle.dnp_concentrator.specs.declared.order.SpanPlace.{SpanPlace}
use Rattle.dnp_concentrator.specs.declared.span.Spans.{Spans}
use Rattle.dnp_concentrator.specs.IndexKinds.{number_of}
use Rattle.dnp_concentrator.specs.IndexMap.{span_of}

-- a substation's indices of a kind, as the extent of a block
abbrev pub extent : IndexKind → Spans → blocks.Extent
extent kind spans = record { first = (span_of spans kind).base; count = (span_of spans kind).count }

-- a place, as that of a block, whose number is the substation's
abbrev pub as_block : SpanPlace → BlockPlace
as_block place = record { first = place.first; count = place.count; block = place.substation }

-- the substations that have indices of this kind, by rising base
abbrev pub IsOrder : IndexKind → List Spans → List SpanPlace → Type 0
IsOrder kind spans order = blocks.IsOrder (map (extent kind) spans) (map as_block order)

-- those of a kind
abbrev pub order_in : SortedSpans → IndexKind → List SpanPlace
order_in orders kind = slice_index_or (map (λ order. order.items) orders.of_kinds) (number_of kind) []

-- each kind's is one
abbrev pub AreOrders : List Spans → SortedSpans → Type 0
AreOrders spans orders = (kind : IndexKind) → IsOrder kind spans (order_in orders kind)
