-- What stands at the front of a stream: it stays there whatever comes after it, and it is one thing.
use Rattle.std.proofs.Common.{◌≡◌, ℕ, ◌+◌, ◌*◌, ◌-◌, ◌<◌, ◌≤◌, List, [], ◌∷◌, ◌++◌, length, take, drop, get_or, refl, sym, ◌∙◌, ap, subst, arith, min, inl, inr}
use Rattle.std.proofs.lemmas.Bool.{cases_lt, cases_order}
use Rattle.std.specs.Int.{w16, to_le_bytes}
use Rattle.std.proofs.lemmas.List.{length-append, length-take, take-take, take-append-le, get_or-take, get_or_append_left, get_or_past, drop_more, take-append-drop}
use Rattle.dnp_linkframe.specs.declared.frame.Frame.{Frame}
use Rattle.dnp_linkframe.specs.CheckWord.{IsCheckWord}
use Rattle.dnp_linkframe.specs.Frames.{IsChecked, Spells, frame_size, header}
use Rattle.dnp_linkframe.specs.Stream.{Front, Waits, NoHeader, NoLength, Damaged, Whole, HasHeader, said_size, BeginsFrame, IsFront, used}
use Rattle.dnp_linkframe.proofs.LastTwo.{checked_from, checked_word}
use Rattle.dnp_linkframe.proofs.Blocks.{length-spelled}
use Rattle.dnp_linkframe.proofs.Units.{one_frame}

-- the first ten octets, by their cells
ten_cells : (stream : List ℕ) → ((i : ℕ) → get_or stream i 0 < 256) → (i : ℕ) → get_or (take 10 stream) i 0 < 256
ten_cells stream bytes i =
    elim (cases_lt i 10) [
      | inl lt ↦ subst (λ (x : ℕ). x < 256) (sym (get_or-take 10 stream i 0 lt)) (bytes i)
      | inr past ↦
          let size : length (take 10 stream) ≡ min 10 (length stream) = length-take 10 stream in
          let none : get_or (take 10 stream) i 0 ≡ 0 = get_or_past (take 10 stream) i 0 (omega arith) in
          omega arith
    ]

ten_long : (stream : List ℕ) → 10 ≤ length stream → length (take 10 stream) ≡ 10
ten_long stream ten = omega (arith, length-take 10 stream)

eight_of_ten : (stream : List ℕ) → 10 ≤ length stream → take (length (take 10 stream) - 2) (take 10 stream) ≡ take 8 stream
eight_of_ten stream ten =
    let size : length (take 10 stream) - 2 ≡ 8 = omega (arith, ten_long stream ten) in
    ap (λ (n : ℕ). take n (take 10 stream)) size ∙ take-take 8 10 stream (omega arith)

word_of_ten : (stream : List ℕ) → 10 ≤ length stream
    → get_or (take 10 stream) (length (take 10 stream) - 2) 0 + get_or (take 10 stream) (length (take 10 stream) - 1) 0 * 256
    ≡ get_or stream 8 0 + get_or stream 9 0 * 256
word_of_ten stream ten =
    let size : length (take 10 stream) ≡ 10 = ten_long stream ten in
    let eight : length (take 10 stream) - 2 ≡ 8 = omega arith in
    let nine : length (take 10 stream) - 1 ≡ 9 = omega arith in
    let low : get_or (take 10 stream) (length (take 10 stream) - 2) 0 ≡ get_or stream 8 0 =
    ap (λ (i : ℕ). get_or (take 10 stream) i 0) eight ∙ get_or-take 10 stream 8 0 (omega arith) in
    let high : get_or (take 10 stream) (length (take 10 stream) - 1) 0 ≡ get_or stream 9 0 =
    ap (λ (i : ℕ). get_or (take 10 stream) i 0) nine ∙ get_or-take 10 stream 9 0 (omega arith) in
    omega (arith, low, high)

-- a stream whose first ten octets are right begins with a header
pub header_from : (stream : List ℕ) (word : ℕ) → 10 ≤ length stream → ((i : ℕ) → get_or stream i 0 < 256)
    → get_or stream 0 0 ≡ 5 → get_or stream 1 0 ≡ 100 → word ≡ get_or stream 8 0 + get_or stream 9 0 * 256
    → IsCheckWord (take 8 stream) word → HasHeader stream
header_from stream word ten bytes five hundred is checks = record {
  ten = ten;
  start =
      let d0 : stream ≡ get_or stream 0 0 ∷ drop 1 stream = drop_more stream 0 0 (omega arith) in
      let d1 : drop 1 stream ≡ get_or stream 1 0 ∷ drop 2 stream = drop_more stream 1 0 (omega arith) in
      let cells : stream ≡ 5 ∷ 100 ∷ drop 2 stream = cc in
      ap (λ (t : List ℕ). take 2 t) cells;
  checked =
      let size : length (take 10 stream) ≡ 10 = ten_long stream ten in
      checked_from (take 10 stream) word (omega arith) (ten_cells stream bytes) (is ∙ sym (word_of_ten stream ten))
      (subst (λ (t : List ℕ). IsCheckWord t word) (sym (eight_of_ten stream ten)) checks);
}

-- and the last two octets of a header are the check word of the eight before
pub header_word : (stream : List ℕ) → HasHeader stream → IsCheckWord (take 8 stream) (get_or stream 8 0 + get_or stream 9 0 * 256)
header_word stream h =
    subst (λ (w : ℕ). IsCheckWord (take 8 stream) w) (word_of_ten stream h.ten)
    (subst (λ (t : List ℕ). IsCheckWord t (get_or (take 10 stream) (length (take 10 stream) - 2) 0 + get_or (take 10 stream) (length (take 10 stream) - 1) 0 * 256))
    (eight_of_ten stream h.ten) (checked_word (take 10 stream) h.checked))

header_more : (stream more : List ℕ) → HasHeader stream → HasHeader (stream ++ more)
header_more stream more h =
    let ten : 10 ≤ length stream = h.ten in record {
      ten = omega (arith, length-append stream more);
      start = take-append-le 2 stream more (omega arith) ∙ h.start;
      checked = subst (λ (t : List ℕ). IsChecked t) (sym (take-append-le 10 stream more ten)) h.checked;
    }

header_less : (stream more : List ℕ) → 10 ≤ length stream → HasHeader (stream ++ more) → HasHeader stream
header_less stream more ten h = record {
  ten = ten;
  start = sym (take-append-le 2 stream more (omega arith)) ∙ h.start;
  checked = subst (λ (t : List ℕ). IsChecked t) (take-append-le 10 stream more ten) h.checked;
}

length_more : (stream more : List ℕ) → HasHeader stream → get_or (stream ++ more) 2 0 ≡ get_or stream 2 0
length_more stream more h =
    let ten : 10 ≤ length stream = h.ten in
    get_or_append_left stream more 0 2 (omega arith)

begins_more : (stream more : List ℕ) → BeginsFrame stream → BeginsFrame (stream ++ more)
begins_more stream more b = record {
  header = header_more stream more b.header;
  long = let long : 5 ≤ get_or stream 2 0 = b.long in omega (arith, length_more stream more b.header);
}

said_more : (stream more : List ℕ) → HasHeader stream → said_size (stream ++ more) ≡ said_size stream
said_more stream more h = ap (λ (n : ℕ). frame_size (n - 5)) (length_more stream more h)

-- the octets of the frame alone begin it too
pub begins_less : (stream : List ℕ) (size : ℕ) → 10 ≤ size → size ≤ length stream → BeginsFrame stream → BeginsFrame (take size stream)
begins_less stream size ten there b =
    let whole : take size stream ++ drop size stream ≡ stream = take-append-drop size stream in
    let length_octet : get_or (take size stream) 2 0 ≡ get_or stream 2 0 = get_or-take size stream 2 0 (omega arith) in
    record {
      header =
          header_less (take size stream) (drop size stream) (omega (arith, length-take size stream))
          (subst (λ (t : List ℕ). HasHeader t) (sym whole) b.header);
      long = let long : 5 ≤ get_or stream 2 0 = b.long in omega arith;
    }

pub said_less : (stream : List ℕ) (size : ℕ) → 10 ≤ size → said_size (take size stream) ≡ said_size stream
said_less stream size ten = ap (λ (n : ℕ). frame_size (n - 5)) (get_or-take size stream 2 0 (omega arith))

-- what is decided at the front stays so, whatever comes after
pub front_more : (stream more : List ℕ) (front : Front) → IsFront stream front → 0 < used front → IsFront (stream ++ more) front
front_more stream more Waits here some = absurd (omega arith)
front_more stream more NoHeader (ten, none) some =
    (omega (arith, length-append stream more), λ h. none (header_less stream more ten h))
front_more stream more NoLength (h, short) some =
    (header_more stream more h, omega (arith, length_more stream more h))
front_more stream more (Damaged size) (begins, is, there, bad) some = (
  begins_more stream more begins,
  is ∙ sym (said_more stream more begins.header),
  omega (arith, length-append stream more),
  λ frame s. bad frame (subst (λ (t : List ℕ). Spells t frame) (take-append-le size stream more there) s),
)
front_more stream more (Whole frame size) (there, s) some = (
  omega (arith, length-append stream more),
  subst (λ (t : List ℕ). Spells t frame) (sym (take-append-le size stream more there)) s,
)

-- what is done with stands there
pub used_within : (stream : List ℕ) (front : Front) → IsFront stream front → used front ≤ length stream
used_within stream Waits here = omega arith
used_within stream NoHeader (ten, none) = omega arith
used_within stream NoLength (h, short) = h.ten
used_within stream (Damaged size) (begins, is, there, bad) = there
used_within stream (Whole frame size) (there, s) = there

-- a spelling begins with the frame's header
header_spelled : (unit : List ℕ) (f : Frame) → Spells unit f → take 8 unit ≡ header f
header_spelled unit f (frame, (first, rest, has, more, joined)) =
    ap (λ (t : List ℕ). take 8 t) (joined ∙ ap (λ (t : List ℕ). t ++ rest) has.joined)

checked_spelled : (unit : List ℕ) (f : Frame) → Spells unit f → IsChecked (take 10 unit)
checked_spelled unit f (frame, (first, rest, has, more, joined)) =
    let here : take 10 unit ≡ header f ++ to_le_bytes w16 has.word =
    ap (λ (t : List ℕ). take 10 t) (joined ∙ ap (λ (t : List ℕ). t ++ rest) has.joined) in
    record { part = header f; has = record { word = has.word; checks = has.checks; joined = here } }

-- a whole frame has as many octets as its header says
record Said (stream : List ℕ) (size : ℕ) : Type 0 where
  begins : BeginsFrame stream
  is : size ≡ said_size stream

said : (stream : List ℕ) (f : Frame) (size : ℕ) → size ≤ length stream → Spells (take size stream) f → Said stream size
said stream f size there s =
    let whole : length (take size stream) ≡ frame_size (length f.user.items) = length-spelled (take size stream) f s in
    let here : size ≡ frame_size (length f.user.items) = omega (arith, length-take size stream) in
    let octet : get_or stream 2 0 ≡ length f.user.items + 5 =
    sym (get_or-take size stream 2 0 (omega arith)) ∙ sym (get_or-take 8 (take size stream) 2 0 (omega arith))
    ∙ ap (λ (t : List ℕ). get_or t 2 0) (header_spelled (take size stream) f s) in
    let user : get_or stream 2 0 - 5 ≡ length f.user.items = omega arith in
    record {
      begins = record {
        header = record {
          ten = omega arith;
          start =
              sym (take-take 2 size stream (omega arith)) ∙ sym (take-take 2 8 (take size stream) (omega arith))
              ∙ ap (λ (t : List ℕ). take 2 t) (header_spelled (take size stream) f s);
          checked = subst (λ (t : List ℕ). IsChecked t) (take-take 10 size stream (omega arith)) (checked_spelled (take size stream) f s);
        };
        long = omega arith;
      };
      is = here ∙ ap frame_size (sym user);
    }

-- the kinds of fronts in an order
kind : Front → ℕ
kind Waits = 0
kind NoHeader = 1
kind NoLength = 2
kind (Damaged size) = 3
kind (Whole frame size) = 4

five : (front : Front) → kind front < 5
unfolding kind
five Waits = omega arith
five NoHeader = omega arith
five NoLength = omega arith
five (Damaged size) = omega arith
five (Whole frame size) = omega arith

-- no two kinds stand there
clash : (stream : List ℕ) (a b : Front) → kind a < kind b → IsFront stream a → IsFront stream b → ⊥
unfolding kind
clash stream Waits NoHeader lt waits (ten, none) = none (waits ten).0.header
clash stream Waits NoLength lt waits (h, short) =
    let long : 5 ≤ get_or stream 2 0 = (waits h.ten).0.long in omega arith
clash stream Waits (Damaged size) lt waits (begins, is, there, bad) =
    let less : length stream < said_size stream = (waits begins.header.ten).1 in omega arith
clash stream Waits (Whole frame size) lt waits (there, s) =
    let w : Said stream size = said stream frame size there s in
    let less : length stream < said_size stream = (waits w.begins.header.ten).1 in
    let is : size ≡ said_size stream = w.is in omega arith
clash stream NoHeader NoLength lt (ten, none) (h, short) = none h
clash stream NoHeader (Damaged size) lt (ten, none) (begins, is, there, bad) = none begins.header
clash stream NoHeader (Whole frame size) lt (ten, none) (there, s) = none (said stream frame size there s).begins.header
clash stream NoLength (Damaged size) lt (h, short) (begins, is, there, bad) =
    let long : 5 ≤ get_or stream 2 0 = begins.long in omega arith
clash stream NoLength (Whole frame size) lt (h, short) (there, s) =
    let long : 5 ≤ get_or stream 2 0 = (said stream frame size there s).begins.long in omega arith
clash stream (Damaged n) (Whole frame size) lt (begins, is, there, bad) (here, s) =
    let other : size ≡ said_size stream = (said stream frame size here s).is in
    let same : size ≡ n = omega arith in
    bad frame (subst (λ (k : ℕ). Spells (take k stream) frame) same s)
clash stream a b lt p q = let most : kind b < 5 = five b in omega arith

-- one thing stands at the front
pub one_front : (stream : List ℕ) (a b : Front) → IsFront stream a → IsFront stream b → a ≡ b
unfolding kind
one_front stream Waits Waits p q = refl
one_front stream NoHeader NoHeader p q = refl
one_front stream NoLength NoLength p q = refl
one_front stream (Damaged n) (Damaged m) (begins, is, there, bad) (begins', is', there', bad') =
    let same : n ≡ m = is ∙ sym is' in ap Damaged same
one_front stream (Whole f n) (Whole g m) (there, s) (there', s') =
    let same : n ≡ m = (said stream f n there s).is ∙ sym (said stream g m there' s').is in
    let frames : f ≡ g = one_frame (take m stream) f g (subst (λ (k : ℕ). Spells (take k stream) f) same s) s' in
    ap (λ (k : ℕ). Whole f k) same ∙ ap (λ (h : Frame). Whole h m) frames
one_front stream a b p q =
    elim (cases_order (kind a) (kind b)) [
      | inl same ↦ absurd (omega arith)
      | inr apart ↦ elim apart [
        | inl before ↦ absurd (clash stream a b before p q)
        | inr after ↦ absurd (clash stream b a after q p)
      ]
    ]

-- all that a LENGTH says is some octets, and so is a frame
pub damaged_some : (stream : List ℕ) (size : ℕ) → IsFront stream (Damaged size) → 0 < size
damaged_some stream size (begins, is, there, bad) = omega arith

pub whole_some : (stream : List ℕ) (frame : Frame) (size : ℕ) → IsFront stream (Whole frame size) → 0 < size
whole_some stream frame size (there, s) = let is : size ≡ said_size stream = (said stream frame size there s).is in omega arith

-- octets that spell a frame stand there as a whole frame
pub spelled_front : (unit more : List ℕ) (f : Frame) → Spells unit f → IsFront (unit ++ more) (Whole f (length unit))
spelled_front unit more f s = (
  omega (arith, length-append unit more),
  subst (λ (t : List ℕ). Spells t f) (sym (take-append-le (length unit) unit more (omega arith) ∙ whole unit)) s,
)
  where
    whole : (t : List ℕ) → take (length t) t ≡ t
    whole [] = refl
    whole (x ∷ t) = ap (λ (u : List ℕ). x ∷ u) (whole t)
