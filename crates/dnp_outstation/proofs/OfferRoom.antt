-- How much longer a fragment is with a row more.
use Rattle.std.proofs.Common.{◌≡◌, ℕ, zero, suc, ◌+◌, ◌*◌, ◌<◌, ◌≤◌, ◌^◌, Bool, true, false, cond, nat_lt, ◌==◌, ◌&&◌, List, [], ◌∷◌, ◌++◌, length, take, option_to_list, Option, None}
use Rattle.std.proofs.Common.{Some, refl, sym, ap, subst, ◌∙◌, arith, append-nil}
use Rattle.std.specs.List.{All}
use Rattle.std.specs.Option.{option_map, option_and_then}
use Rattle.std.proofs.lemmas.List.{length-append}
use Rattle.std.proofs.lemmas.List.Concat.{flat_map-append}
use Rattle.std.proofs.lemmas.List.Elements.{All-head, All-tail}
use Rattle.dnp_appfragment.specs.declared.header.Range.{Range}
use Rattle.dnp_appfragment.specs.declared.header.Range.TheVariants as range
use Rattle.dnp_appfragment.specs.Headers.{Head, head_after, number, range_octets, header_octets, spelled}
use Rattle.dnp_appfragment.specs.Joining.{joined, joined_range}
use Rattle.dnp_appfragment.specs.Built.{Built, heads, size, broken, with_header, with_run, with_object, front_size}
use Rattle.dnp_appfragment.specs.Written.{event, common_head, relative}
use Rattle.dnp_objects.specs.Relative.{relative_octets}
use Rattle.dnp_objects.specs.Rows.{written}
use Rattle.dnp_objects.specs.Events.{event_object}
use Rattle.dnp_objects.specs.Objects.{content_of, objects}
use Rattle.dnp_objects.specs.declared.row.Kind.{Kind}
use Rattle.dnp_objects.specs.declared.row.Kind.TheVariants.{Binary, Counter, Analog}
use Rattle.dnp_objects.specs.declared.row.Row.{Row}
use Rattle.dnp_objects.specs.declared.limits.TheConstants.{MAX_FRAGMENT}
use Rattle.dnp_eventbuf.specs.declared.numbered.Numbered.{Numbered}
use Rattle.dnp_outstation.specs.declared.offer.writer.Writer.{Writer}
use Rattle.dnp_outstation.specs.declared.offer.writer.Run.TheVariants.{OfLane}
use Rattle.dnp_outstation.specs.Items.{event_of}
use Rattle.dnp_outstation.specs.steps.Filling.{put, is_same_run}
use Rattle.dnp_outstation.specs.steps.Putting.{least_octets, least_of}
use Rattle.dnp_outstation.proofs.OfferLemmas.{heads_broken}

-- a range that one object more joins has as many octets as before
same_range : (first joint : Range) → joined_range first (range.Indexed true 1) ≡ Some joint → length (range_octets joint) ≡ length (range_octets first)
same_range (range.Indexed true n) joint is = by (nat_lt (n + 1) (2 ^ 16)) is
  where
    by : (b : Bool) → cond b (Some (range.Indexed true (n + 1))) None ≡ Some joint → length (range_octets joint) ≡ 2
    by true it = let same : range.Indexed true (n + 1) ≡ joint = cc in ap (λ (r : Range). length (range_octets r)) (sym same)
    by false it = cc
same_range (range.Indexed false n) joint is = cc
same_range (range.Span true first last) joint is = cc
same_range (range.Span false first last) joint is = cc
same_range _ joint is = cc

header_size : (h : Head) → length (header_octets h) ≡ 3 + length (range_octets h.range) + length h.octets
header_size h = let both = length-append (range_octets h.range) h.octets in omega arith

-- a header that an object joins is longer by the object's octets
joined_size : (run longer : Head) (common : Option ℕ) (group variation index : ℕ) (octets : List ℕ)
    → joined run (head_after common group variation (range.Indexed true 1) (number true index ++ octets)) ≡ Some longer
    → length (header_octets run) + (2 + length octets) ≤ length (header_octets longer)
joined_size run longer common group variation index octets is = by ((run.group == group) && (run.variation == variation))
    (joined_range run.range (range.Indexed true 1)) refl is
  where
    object : List ℕ
    object = number true index ++ octets

    by : (b : Bool) (o : Option Range) → joined_range run.range (range.Indexed true 1) ≡ o
        → cond b (option_map (λ (r : Range). let h : Head = record run { range = r; octets = run.octets ++ object } in h) o) None ≡ Some longer
        → length (header_octets run) + (2 + length octets) ≤ length (header_octets longer)
    by true (Some r) joint it =
        let same : (let h : Head = record run { range = r; octets = run.octets ++ object } in h) ≡ longer = cc in
        let old = header_size run in
        let new = header_size longer in
        let range_is : length (range_octets longer.range) ≡ length (range_octets run.range) = ap (λ (h : Head). length (range_octets h.range)) (sym same)
        ∙ same_range run.range r joint in
        let octets_are : length longer.octets ≡ length (run.octets ++ object) = ap (λ (h : Head). length h.octets) (sym same) in
        let both = length-append run.octets object in
        let own = length-append (number true index) octets in
        omega arith
    by true None joint it = cc
    by false o joint it = cc

one_more : (hs : List Head) (h : Head) → length (spelled (hs ++ h ∷ [])) ≡ length (spelled hs) + length (header_octets h)
one_more hs h =
    ap length (flat_map-append header_octets hs (h ∷ []))
    ∙ length-append (spelled hs) (header_octets h ++ [])
    ∙ ap (λ (l : List ℕ). length (spelled hs) + length l) (append-nil (header_octets h))

-- a fragment is longer by an object and the index before it, and may have a header more
event_grows : (b : Built) (common : Option ℕ) (group variation index : ℕ) (octets : List ℕ)
    → size b + (2 + length octets) ≤ size (with_object b (head_after common group variation (range.Indexed true 1) (number true index ++ octets)))
unfolding with_object
event_grows b common group variation index octets = by_run b.run refl
  where
    object : Head
    object = head_after common group variation (range.Indexed true 1) (number true index ++ octets)

    anew : size b + (2 + length octets) ≤ size (with_run b None object)
    anew =
        let more = one_more (heads b) object in
        let own = header_size object in
        omega arith

    by_join : (run : Head) → b.run ≡ Some run → (o : Option Head) → joined run object ≡ o → size b + (2 + length octets) ≤ size (with_run b o object)
    by_join run is None joins = anew
    by_join run is (Some longer) joins =
        let old = ap (λ (o : Option Head). length (spelled (b.ended ++ option_to_list o))) is ∙ one_more b.ended run in
        let new = one_more b.ended longer in
        let longer_by = joined_size run longer common group variation index octets joins in
        omega arith

    by_run : (o : Option Head) → b.run ≡ o → size b + (2 + length octets) ≤ size (with_run b (option_and_then (λ run. joined run object) o) object)
    by_run None is = anew
    by_run (Some run) is = by_join run is (joined run object) refl

-- no event is shorter than the shortest of its kind
at_least : (row : Row) → least_octets row.kind ≤ 2 + length (written (event row).group (event row).variation row)
unfolding content_of objects
at_least row = by row.kind row.time
  where
    by : (kind : Kind) (time : Option ℕ) → least_octets kind ≤ 2 + length (written (event_object kind time).0 (event_object kind time).1 row)
    by Binary (Some t) = omega arith
    by Binary None = omega arith
    by Counter (Some t) = omega arith
    by Counter None = omega arith
    by Analog (Some t) = omega arith
    by Analog None = omega arith

-- so is what is built with a row more
pub own_grows : (b : Built) (row : Row) → size b + least_octets row.kind ≤ size (with_object b (event row))
own_grows b row =
    let more = event_grows b None (event row).group (event row).variation row.index (written (event row).group (event row).variation row) in
    omega (arith, at_least row)

-- and a writer
put_grows : (w : Writer) (header lane : ℕ) (x : Numbered) → size w.builder + least_octets x.row.kind ≤ size (put w (event_of header lane x)).builder
put_grows w header lane x = by (is_same_run w.run (OfLane lane None))
  where
    by : (same : Bool) → size w.builder + least_octets x.row.kind ≤ size (with_object (cond same w.builder (broken w.builder)) (event x.row))
    by true = own_grows w.builder x.row
    by false =
        let more = own_grows (broken w.builder) x.row in
        let same : size (broken w.builder) ≡ size w.builder = ap (λ (hs : List Head). front_size w.builder.function + length (spelled hs))
        (heads_broken w.builder) in
        omega arith

pub put_room : (w w' : Writer) (header lane : ℕ) (x : Numbered) → w' ≡ put w (event_of header lane x)
    → size w.builder + least_octets x.row.kind ≤ size w'.builder
put_room w w' header lane x is = let same = ap (λ (v : Writer). size v.builder) is in let more = put_grows w header lane x in omega arith

-- a group begins with 20 octets: 51.1, and 2.3 with its first row
pub group_begins : (b : Built) (t : ℕ) (row : Row) → size (with_object (with_header b (common_head t)) (relative t row)) ≡ size b + 20
unfolding with_object
group_begins b t row =
    let begun : Built = with_header b (common_head t) in
    let plain : length (spelled (heads begun)) ≡ length (spelled (heads b ++ common_head t ∷ [])) =
    ap (λ (hs : List Head). length (spelled hs)) (append-nil (heads b ++ common_head t ∷ [])) in
    let ten : length (header_octets (common_head t)) ≡ 10 = refl in
    let own : length (header_octets (relative t row)) ≡ 10 = refl in
    omega (arith, plain, one_more (heads b) (common_head t), one_more (heads begun) (relative t row))

-- and goes on with 5 or more
pub group_grows : (b : Built) (t : ℕ) (row : Row) → size b + 5 ≤ size (with_object b (relative t row))
group_grows b t row = event_grows b (Some t) 2 3 row.index (relative_octets t row)

-- ---- rows of one kind

pub of_one_kind : (kind : Kind) (rows : List Numbered) → All (λ x. x.row.kind ≡ kind) rows → least_of rows ≡ least_octets kind * length rows
of_one_kind kind [] all = by kind
  where
    by : (k : Kind) → 0 ≡ least_octets k * 0
    by Binary = refl
    by Counter = refl
    by Analog = refl
of_one_kind kind (x ∷ xs) all =
    ap (λ (k : Kind). least_octets k + least_of xs) (All-head (λ (y : Numbered). y.row.kind ≡ kind) x xs all)
    ∙ ap (λ (n : ℕ). least_octets kind + n) (of_one_kind kind xs (All-tail (λ (y : Numbered). y.row.kind ≡ kind) x xs all))
    ∙ by kind (length xs)
  where
    by : (k : Kind) (n : ℕ) → least_octets k + least_octets k * n ≡ least_octets k * suc n
    by Binary n = omega arith
    by Counter n = omega arith
    by Analog n = omega arith

-- fewer than were asked for are all
pub take_whole : (n : ℕ) (rows : List Numbered) → length (take n rows) < n → take n rows ≡ rows
take_whole zero rows few = absurd (omega arith)
take_whole (suc n) [] few = refl
take_whole (suc n) (x ∷ xs) few = ap (λ (l : List Numbered). x ∷ l) (take_whole n xs (omega arith))

-- rows that have room are all, where more were asked for than have room
pub all_asked : (kind : Kind) (b : Built) (few left : ℕ) (all rows : List Numbered) → All (λ x. x.row.kind ≡ kind) rows → rows ≡ take few all
    → ((n : ℕ) → least_octets kind * n ≤ left + 7 → n < few) → left + size b ≡ MAX_FRAGMENT
    → (size b ≤ MAX_FRAGMENT → size b + least_of rows ≤ MAX_FRAGMENT + 7) → rows ≡ all
all_asked kind b few left all rows of_kind is enough left_is room =
    let within : size b + least_of rows ≤ MAX_FRAGMENT + 7 = room (omega arith) in
    let fewer : length rows < few = enough (length rows) (omega (arith, of_one_kind kind rows of_kind)) in
    is ∙ take_whole few all (subst (λ (l : List Numbered). length l < few) is fewer)
