-- Units of octets: one frame, or faults, and never both.
use Rattle.std.proofs.Common.{◌≡◌, ℕ, zero, suc, ◌+◌, ◌*◌, ◌-◌, ◌<◌, ◌≤◌, List, [], ◌∷◌, ◌++◌, length, take, drop, get_or, refl, sym, ◌∙◌, ap, subst, arith, min, inl, inr, Result, Ok, Err, IfOk, IfErr, is_err, true}
use Rattle.std.proofs.lemmas.Bool.{cases_order}
use Rattle.std.specs.Int.{w16, to_le_bytes, from_le_bytes}
use Rattle.std.proofs.lemmas.List.{length-append, length-take, length-drop, take_at, drop_at, take-take, take-append-drop, drop-drop, drop_more, drop_all, get_or-take, get_or_append_left, nil_from_length}
use Rattle.std.proofs.lemmas.Nat.{le_bytes_2, from_le_bytes-to_le_bytes_2}
use Rattle.dnp_linkframe.specs.declared.frame.Frame.{Frame}
use Rattle.dnp_linkframe.specs.declared.frame.FrameFault.{FrameFault}
use Rattle.dnp_linkframe.specs.declared.frame.FrameFault.TheVariants.{Short, Start, HeaderCheck, Length, Size, BlockCheck}
use Rattle.dnp_linkframe.specs.Frames.{HasCheck, IsChecked, AreChecked, IsUnchecked, first_blocks, block_count, blocks, frame_size, header, IsFrame, Spells, IsFault, IsFirstFault, place}
use Rattle.dnp_linkframe.specs.steps.Checks.{IsFirstUnchecked}
use Rattle.dnp_linkframe.proofs.Blocks.{length-joined, total-blocks, take-chunk, drop-chunk, length-checked, length-spelled}

-- a list of eight cells
eight : (p : List ℕ) → length p ≡ 8
    → p ≡ get_or p 0 0 ∷ get_or p 1 0 ∷ get_or p 2 0 ∷ get_or p 3 0 ∷ get_or p 4 0 ∷ get_or p 5 0 ∷ get_or p 6 0 ∷ get_or p 7 0 ∷ []
eight p size =
    let d0 : p ≡ get_or p 0 0 ∷ drop 1 p = drop_more p 0 0 (omega arith) in
    let d1 : drop 1 p ≡ get_or p 1 0 ∷ drop 2 p = drop_more p 1 0 (omega arith) in
    let d2 : drop 2 p ≡ get_or p 2 0 ∷ drop 3 p = drop_more p 2 0 (omega arith) in
    let d3 : drop 3 p ≡ get_or p 3 0 ∷ drop 4 p = drop_more p 3 0 (omega arith) in
    let d4 : drop 4 p ≡ get_or p 4 0 ∷ drop 5 p = drop_more p 4 0 (omega arith) in
    let d5 : drop 5 p ≡ get_or p 5 0 ∷ drop 6 p = drop_more p 5 0 (omega arith) in
    let d6 : drop 6 p ≡ get_or p 6 0 ∷ drop 7 p = drop_more p 6 0 (omega arith) in
    let d7 : drop 7 p ≡ get_or p 7 0 ∷ drop 8 p = drop_more p 7 0 (omega arith) in
    let d8 : drop 8 p ≡ [] = drop_all 8 p (omega arith) in
    cc

-- two octets that make a number are its octets
two_octets : (low high number : ℕ) → low < 256 → high < 256 → number ≡ low + high * 256 → to_le_bytes w16 number ≡ low ∷ high ∷ []
two_octets low high number l h is =
    le_bytes_2 (low ∷ high ∷ []) number refl (bytes low high l h) is
  where
    bytes : (low high : ℕ) → low < 256 → high < 256 → (i : ℕ) → get_or (low ∷ high ∷ []) i 0 < 256
    bytes low high l h zero = l
    bytes low high l h (suc zero) = h
    bytes low high l h (suc (suc i)) = omega arith

-- a unit with a good header, whose blocks are those of the user data, spells the frame of its cells
pub spells_from : (unit : List ℕ) (f : Frame) → 10 ≤ length unit → ((i : ℕ) → get_or unit i 0 < 256)
    → get_or unit 0 0 ≡ 5 → get_or unit 1 0 ≡ 100 → IsChecked (take 10 unit)
    → length f.user.items + 5 ≡ get_or unit 2 0 → get_or unit 3 0 ≡ f.control
    → f.dest ≡ get_or unit 4 0 + get_or unit 5 0 * 256 → f.source ≡ get_or unit 6 0 + get_or unit 7 0 * 256
    → AreChecked (blocks f.user.items) (drop 10 unit) → Spells unit f
spells_from unit f ten bytes five hundred good size control dest source more =
    let part_size : length good.part ≡ 8 = omega (arith, length-checked good.part (take 10 unit) good.has, length-take 10 unit) in
    let joined : take 10 unit ≡ good.part ++ to_le_bytes w16 good.has.word = good.has.joined in
    let cell : (i : ℕ) → i < 8 → get_or good.part i 0 ≡ get_or unit i 0 =
    λ i lt. sym (get_or_append_left good.part (to_le_bytes w16 good.has.word) 0 i (omega arith))
    ∙ ap (λ (t : List ℕ). get_or t i 0) (sym joined) ∙ get_or-take 10 unit i 0 (omega arith) in
    let cells = eight good.part part_size in
    let c0 = cell 0 (omega arith) in
    let c1 = cell 1 (omega arith) in
    let c2 = cell 2 (omega arith) in
    let c3 = cell 3 (omega arith) in
    let c4 = cell 4 (omega arith) in
    let c5 = cell 5 (omega arith) in
    let c6 = cell 6 (omega arith) in
    let c7 = cell 7 (omega arith) in
    let d : to_le_bytes w16 f.dest ≡ get_or unit 4 0 ∷ get_or unit 5 0 ∷ [] =
    two_octets (get_or unit 4 0) (get_or unit 5 0) f.dest (bytes 4) (bytes 5) dest in
    let s : to_le_bytes w16 f.source ≡ get_or unit 6 0 ∷ get_or unit 7 0 ∷ [] =
    two_octets (get_or unit 6 0) (get_or unit 7 0) f.source (bytes 6) (bytes 7) source in
    let whole : good.part ≡ header f = cc in
    let frame : IsFrame f = record {
      dest = let low = bytes 4 in let high = bytes 5 in omega arith;
      source = let low = bytes 6 in let high = bytes 7 in omega arith;
      user = let length_octet = bytes 2 in omega arith;
    } in
    (frame, (take 10 unit, drop 10 unit, subst (λ (t : List ℕ). HasCheck t (take 10 unit)) whole good.has, more, sym (take-append-drop 10 unit)))

pub start_is : (unit : List ℕ) → 2 ≤ length unit → get_or unit 0 0 ≡ 5 → get_or unit 1 0 ≡ 100 → take 2 unit ≡ 5 ∷ 100 ∷ []
start_is unit two five hundred =
    let d0 : unit ≡ get_or unit 0 0 ∷ drop 1 unit = drop_more unit 0 0 (omega arith) in
    let d1 : drop 1 unit ≡ get_or unit 1 0 ∷ drop 2 unit = drop_more unit 1 0 (omega arith) in
    let cells : unit ≡ 5 ∷ 100 ∷ drop 2 unit = cc in
    ap (λ (t : List ℕ). take 2 t) cells

pub first_octet : (unit : List ℕ) → take 2 unit ≡ 5 ∷ 100 ∷ [] → get_or unit 0 0 ≡ 5
first_octet unit start = sym (get_or-take 2 unit 0 0 (omega arith)) ∙ ap (λ (t : List ℕ). get_or t 0 0) start

pub second_octet : (unit : List ℕ) → take 2 unit ≡ 5 ∷ 100 ∷ [] → get_or unit 1 0 ≡ 100
second_octet unit start = sym (get_or-take 2 unit 1 0 (omega arith)) ∙ ap (λ (t : List ℕ). get_or t 1 0) start

-- a good header before bad blocks has no fault of its own
header_fault : (unit : List ℕ) (n : ℕ) → 10 ≤ length unit → get_or unit 0 0 ≡ 5 → get_or unit 1 0 ≡ 100 → IsChecked (take 10 unit)
    → 5 ≤ get_or unit 2 0 → length unit ≡ frame_size (get_or unit 2 0 - 5) → ((k : ℕ) → k < n → IsUnchecked (drop 10 unit) k → ⊥)
    → (other : FrameFault) → place other < 5 + n → IsFault unit other → ⊥
header_fault unit n ten five hundred good long size first Short before fault = omega arith
header_fault unit n ten five hundred good long size first Start before fault = fault (start_is unit (omega arith) five hundred)
header_fault unit n ten five hundred good long size first HeaderCheck before fault = fault good
header_fault unit n ten five hundred good long size first Length before fault = omega arith
header_fault unit n ten five hundred good long size first Size before fault = fault (get_or unit 2 0 - 5) (omega arith) size
header_fault unit n ten five hundred good long size first (BlockCheck k) before fault = first k (omega arith) fault

pub first_unchecked : (unit : List ℕ) (n : ℕ) → 10 ≤ length unit → get_or unit 0 0 ≡ 5 → get_or unit 1 0 ≡ 100 → IsChecked (take 10 unit)
    → 5 ≤ get_or unit 2 0 → length unit ≡ frame_size (get_or unit 2 0 - 5) → IsFirstUnchecked (drop 10 unit) n → IsFirstFault unit (BlockCheck n)
first_unchecked unit n ten five hundred good long size bad =
    (bad.here, header_fault unit n ten five hundred good long size bad.first)

-- a spelling begins with the frame's header, and goes on with its blocks
header_spelled : (unit : List ℕ) (f : Frame) → Spells unit f → take 8 unit ≡ header f
header_spelled unit f (frame, (first, rest, has, more, joined)) =
    ap (λ (t : List ℕ). take 8 t) (joined ∙ ap (λ (t : List ℕ). t ++ rest) has.joined)

blocks_spelled : (unit : List ℕ) (f : Frame) → Spells unit f → AreChecked (blocks f.user.items) (drop 10 unit)
blocks_spelled unit f (frame, (first, rest, has, more, joined)) =
    let here : drop 10 unit ≡ rest = ap (λ (t : List ℕ). drop 10 t) (joined ∙ ap (λ (t : List ℕ). t ++ rest) has.joined) in
    subst (λ (t : List ℕ). AreChecked (blocks f.user.items) t) (sym here) more

checked_spelled : (unit : List ℕ) (f : Frame) → Spells unit f → IsChecked (take 10 unit)
checked_spelled unit f (frame, (first, rest, has, more, joined)) =
    let here : take 10 unit ≡ header f ++ to_le_bytes w16 has.word =
    ap (λ (t : List ℕ). take 10 t) (joined ∙ ap (λ (t : List ℕ). t ++ rest) has.joined) in
    record { part = header f; has = record { word = has.word; checks = has.checks; joined = here } }

-- the LENGTH octet of a spelling
length_octet : (unit : List ℕ) (f : Frame) → Spells unit f → get_or unit 2 0 ≡ length f.user.items + 5
length_octet unit f s = sym (get_or-take 8 unit 2 0 (omega arith)) ∙ ap (λ (t : List ℕ). get_or t 2 0) (header_spelled unit f s)

-- user data of one length has one spelling as blocks
same_blocks : (n : ℕ) (u v octets : List ℕ) → AreChecked (first_blocks n u) octets → AreChecked (first_blocks n v) octets
    → length u ≡ length v → length u ≤ 16 * n → u ≡ v
same_blocks zero u v octets p q same most = nil_from_length u (omega arith) ∙ sym (nil_from_length v (omega arith))
same_blocks (suc n) u v octets (a, r, has, more, is) (b, q, has', more', is') same most =
    let ua : length a ≡ length (take 16 u) + 2 = length-checked (take 16 u) a has in
    let vb : length b ≡ length (take 16 v) + 2 = length-checked (take 16 v) b has' in
    let ut : length (take 16 u) ≡ min 16 (length u) = length-take 16 u in
    let vt : length (take 16 v) ≡ min 16 (length v) = length-take 16 v in
    let ud : length (drop 16 u) ≡ length u - 16 = length-drop 16 u in
    let vd : length (drop 16 v) ≡ length v - 16 = length-drop 16 v in
    let firsts : a ≡ b = sym (take_at a r (length a) refl) ∙ ap (λ (t : List ℕ). take (length a) t) (sym is ∙ is') ∙ take_at b q (length a) (omega arith) in
    let rests : q ≡ r = sym (drop_at b q (length a) (omega arith)) ∙ ap (λ (t : List ℕ). drop (length a) t) (sym is' ∙ is) ∙ drop_at a r (length a) refl in
    let heads : take 16 u ≡ take 16 v =
    sym (take_at (take 16 u) (to_le_bytes w16 has.word) (length (take 16 u)) refl)
    ∙ ap (λ (t : List ℕ). take (length (take 16 u)) t) (sym has.joined ∙ firsts ∙ has'.joined)
    ∙ take_at (take 16 v) (to_le_bytes w16 has'.word) (length (take 16 u)) (omega arith) in
    let tails : drop 16 u ≡ drop 16 v =
    same_blocks n (drop 16 u) (drop 16 v) r more (subst (λ (t : List ℕ). AreChecked (first_blocks n (drop 16 v)) t) rests more') (omega arith) (omega arith) in
    sym (take-append-drop 16 u) ∙ ap (λ (t : List ℕ). t ++ drop 16 u) heads ∙ ap (λ (t : List ℕ). take 16 v ++ t) tails ∙ take-append-drop 16 v

-- a unit spells one frame
pub one_frame : (unit : List ℕ) (f g : Frame) → Spells unit f → Spells unit g → f ≡ g
one_frame unit f g sf sg =
    let headers : header f ≡ header g = sym (header_spelled unit f sf) ∙ header_spelled unit g sg in
    let sizes : length f.user.items ≡ length g.user.items = omega (arith, length_octet unit f sf, length_octet unit g sg) in
    let control : f.control ≡ g.control = ap (λ (t : List ℕ). get_or t 3 0) headers in
    let dests : to_le_bytes w16 f.dest ≡ to_le_bytes w16 g.dest = ap (λ (t : List ℕ). take 2 (drop 4 t)) headers in
    let sources : to_le_bytes w16 f.source ≡ to_le_bytes w16 g.source = ap (λ (t : List ℕ). take 2 (drop 6 t)) headers in
    let dest : f.dest ≡ g.dest =
    sym (from_le_bytes-to_le_bytes_2 f.dest sf.0.dest) ∙ ap (λ (t : List ℕ). from_le_bytes w16 t) dests ∙ from_le_bytes-to_le_bytes_2 g.dest sg.0.dest in
    let source : f.source ≡ g.source =
    sym (from_le_bytes-to_le_bytes_2 f.source sf.0.source) ∙ ap (λ (t : List ℕ). from_le_bytes w16 t) sources
    ∙ from_le_bytes-to_le_bytes_2 g.source sg.0.source in
    let blocks_g : AreChecked (first_blocks (block_count (length f.user.items)) g.user.items) (drop 10 unit) =
    subst (λ (n : ℕ). AreChecked (first_blocks (block_count n) g.user.items) (drop 10 unit)) (sym sizes) (blocks_spelled unit g sg) in
    let items : f.user.items ≡ g.user.items =
    same_blocks (block_count (length f.user.items)) f.user.items g.user.items (drop 10 unit) (blocks_spelled unit f sf) blocks_g sizes (omega arith) in
    made control dest source items
  where
    made : {f g : Frame} → f.control ≡ g.control → f.dest ≡ g.dest → f.source ≡ g.source → f.user.items ≡ g.user.items → f ≡ g
    made {f = f} {g = g} c d s u =
        let with_control : f ≡ record f { control = g.control } = ap (λ (x : ℕ). record f { control = x }) c in
        let with_dest : record f { control = g.control } ≡ record f { control = g.control; dest = g.dest } =
        ap (λ (x : ℕ). record f { control = g.control; dest = x }) d in
        let with_source : record f { control = g.control; dest = g.dest } ≡ record f { control = g.control; dest = g.dest; source = g.source } =
        ap (λ (x : ℕ). record f { control = g.control; dest = g.dest; source = x }) s in
        let with_user : record f { control = g.control; dest = g.dest; source = g.source } ≡ g =
        ap (λ (x : List ℕ). record g { user = record { items = x } }) u in
        with_control ∙ with_dest ∙ with_source ∙ with_user

-- a block with its check word is 18 octets, or all that stand there
first_chunk : (k : ℕ) (user a r : List ℕ) → HasCheck (take 16 user) a → AreChecked (first_blocks k (drop 16 user)) r
    → length user ≤ 16 * suc k → 16 * suc k < length user + 16 → length a ≡ min 18 (length (a ++ r))
first_chunk k user a r has more low high =
    let part : length a ≡ length (take 16 user) + 2 = length-checked (take 16 user) a has in
    let taken : length (take 16 user) ≡ min 16 (length user) = length-take 16 user in
    let left : length (drop 16 user) ≡ length user - 16 = length-drop 16 user in
    let rest : length r ≡ length (drop 16 user) + 2 * k =
    length-joined (first_blocks k (drop 16 user)) r more ∙ total-blocks k (drop 16 user) (omega arith) (omega arith) in
    let both : length (a ++ r) ≡ length a + length r = length-append a r in
    omega arith

-- each block of a spelling is followed by its check word
block_checked : (k n : ℕ) (user octets : List ℕ) → AreChecked (first_blocks k user) octets → length user ≤ 16 * k → 16 * k < length user + 16
    → 18 * n < length octets → IsChecked (take 18 (drop (18 * n) octets))
block_checked zero n user octets none low high here = absurd (omega (arith, ap length none))
block_checked (suc k) zero user octets (a, r, has, more, is) low high here =
    let first : take 18 octets ≡ a = ap (λ (t : List ℕ). take 18 t) is ∙ take-chunk 18 a r (first_chunk k user a r has more low high) in
    subst (λ (t : List ℕ). IsChecked t) (sym first) (record { part = take 16 user; has = has })
block_checked (suc k) (suc n) user octets (a, r, has, more, is) low high here =
    let behind : drop 18 octets ≡ r = ap (λ (t : List ℕ). drop 18 t) is ∙ drop-chunk 18 a r (first_chunk k user a r has more low high) in
    let there : drop (18 * suc n) octets ≡ drop (18 * n) r =
    ap (λ (m : ℕ). drop m octets) (omega arith) ∙ sym (drop-drop (18 * n) 18 octets) ∙ ap (λ (t : List ℕ). drop (18 * n) t) behind in
    let left : length (drop 16 user) ≡ length user - 16 = length-drop 16 user in
    let size : length (drop 18 octets) ≡ length octets - 18 = length-drop 18 octets in
    let same : length (drop 18 octets) ≡ length r = ap length behind in
    let here_r : 18 * n < length r = omega arith in
    subst (λ (t : List ℕ). IsChecked (take 18 t)) (sym there)
    (block_checked k n (drop 16 user) r more (omega arith) (omega arith) here_r)

-- a unit that spells a frame has no fault
pub no_fault : (unit : List ℕ) (f : Frame) → Spells unit f → (fault : FrameFault) → IsFault unit fault → ⊥
no_fault unit f s Short fault = omega (arith, length-spelled unit f s)
no_fault unit f s Start fault =
    fault (sym (take-take 2 8 unit (omega arith)) ∙ ap (λ (t : List ℕ). take 2 t) (header_spelled unit f s))
no_fault unit f s HeaderCheck fault = fault (checked_spelled unit f s)
no_fault unit f s Length fault = omega (arith, length_octet unit f s)
no_fault unit f s Size fault = fault (length f.user.items) (length_octet unit f s) (length-spelled unit f s)
no_fault unit f s (BlockCheck n) fault =
    fault.unchecked (block_checked (block_count (length f.user.items)) n f.user.items (drop 10 unit) (blocks_spelled unit f s)
    (omega arith) (omega arith) fault.stands)

-- a unit with a bad block spells no frame
pub bad_block : (unit : List ℕ) (r : Result Unit ℕ) → is_err r ≡ true → IfErr r (IsFirstUnchecked (drop 10 unit)) → (f : Frame) → Spells unit f → ⊥
bad_block unit (Ok u) bad fault f s = cc
bad_block unit (Err n) bad fault f s = no_fault unit f s (BlockCheck n) fault.here

-- the fault at a place of the order
fault_at : ℕ → FrameFault
fault_at zero = Short
fault_at (suc zero) = Start
fault_at (suc (suc zero)) = HeaderCheck
fault_at (suc (suc (suc zero))) = Length
fault_at (suc (suc (suc (suc zero)))) = Size
fault_at (suc (suc (suc (suc (suc n))))) = BlockCheck n

fault_at-place : (fault : FrameFault) → fault_at (place fault) ≡ fault
unfolding fault_at
fault_at-place Short = refl
fault_at-place Start = refl
fault_at-place HeaderCheck = refl
fault_at-place Length = refl
fault_at-place Size = refl
fault_at-place (BlockCheck n) =
    let five : 5 + n ≡ suc (suc (suc (suc (suc n)))) = omega arith in
    ap fault_at five

-- a unit has one first fault
pub one_first_fault : (unit : List ℕ) (e d : FrameFault) → IsFirstFault unit e → IsFirstFault unit d → e ≡ d
one_first_fault unit e d first other =
    elim (cases_order (place e) (place d)) [
      | inl same ↦ sym (fault_at-place e) ∙ ap fault_at same ∙ fault_at-place d
      | inr apart ↦ elim apart [
        | inl before ↦ absurd (other.1 e before first.0)
        | inr after ↦ absurd (first.1 d after other.0)
      ]
    ]

pub only_fault : (unit : List ℕ) (r : Result Frame FrameFault) → IfOk r (Spells unit) → IfErr r (IsFirstFault unit)
    → (d : FrameFault) → IsFirstFault unit d → r ≡ Err d
only_fault unit (Ok g) found fault d first = absurd (no_fault unit g found d first.0)
only_fault unit (Err e) found fault d first = ap Err (one_first_fault unit e d fault first)

-- no spelling is a proper beginning of another
pub no_prefix : (unit more : List ℕ) (f g : Frame) → Spells unit f → Spells (unit ++ more) g → more ≡ []
no_prefix unit more f g sf sg =
    let size_f : length unit ≡ frame_size (length f.user.items) = length-spelled unit f sf in
    let size_g : length (unit ++ more) ≡ frame_size (length g.user.items) = length-spelled (unit ++ more) g sg in
    let same : get_or (unit ++ more) 2 0 ≡ get_or unit 2 0 = get_or_append_left unit more 0 2 (omega arith) in
    let users : length f.user.items ≡ length g.user.items =
    omega (arith, length_octet unit f sf, length_octet (unit ++ more) g sg) in
    let sizes : frame_size (length f.user.items) ≡ frame_size (length g.user.items) = ap frame_size users in
    nil_from_length more (omega (arith, length-append unit more))
