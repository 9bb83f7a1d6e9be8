-- What waits and the first octets of the piece give their frames, and then the rest of the piece gives its own.
use Rattle.std.proofs.Common.{rules, ◌≡◌, ℕ, ◌<◌, ◌≤◌, List, [], ◌++◌, length, take, drop, min, ◌+◌, ◌-◌, arith, vec_len, vec_capacity, subst, sym, ap, ◌∙◌}
use Rattle.std.proofs.lemmas.List.{take_rest, take_all, append_assoc, append-nil, length-append, length-take, length-drop}
use Rattle.std.proofs.lemmas.List.{take-append-drop, drop-append-le, drop-drop}
use Rattle.dnp_linkframe.specs.declared.frame.Frame.{Frame}
use Rattle.dnp_linkframe.specs.Stream.{Gives}
use Rattle.dnp_linkframe.proofs.Pieces.{gives_both, rest_gives, GoesOn}
use Rattle.dnp_linkframe.proofs.Refused.{on_err}
use Rattle.dnp_linkframe.proofs.reader.read_on.Goals as goal
use Rattle.dnp_linkframe.specs.declared.frame.TheConstants.{MAX_UNIT}

-- the octets that are looked at first: those that wait, and the first of the piece
looked_at : (octets piece all : List ℕ) (start first : ℕ) → start ≤ length octets → all ≡ octets ++ take first piece
    → take (length all - start) (drop start all) ≡ drop start octets ++ take first piece
looked_at octets piece all start first begun is =
    take_rest all start ∙ ap (λ (t : List ℕ). drop start t) is ∙ drop-append-le start octets (take first piece) begun

-- a longer piece is past what waited
passed : (held piece : List ℕ) (first done : ℕ) → first ≡ min (length piece) MAX_UNIT → MAX_UNIT < length piece
    → length (drop done (held ++ take first piece)) < MAX_UNIT → length held ≤ done
passed held piece first done is long fewer =
    omega (
      arith,
      length-take first piece,
      length-append held (take first piece),
      length-drop done (held ++ take first piece),
    )

-- what is left of it
rest_here : (held piece : List ℕ) (before done : ℕ) → before ≡ length held
    → take (length piece - (done - before)) (drop (done - before) piece) ≡ drop (done - length held) piece
rest_here held piece before done size = take_rest piece (done - before) ∙ ap (λ (n : ℕ). drop (done - n) piece) size

pub returns-then-piece-le-MAX_UNIT-clause-given : goal.returns-then-piece-le-MAX_UNIT-clause-given
returns-then-piece-le-MAX_UNIT-clause-given c =
    let octets = c.args.octets.now.items in
    let start = c.args.start in
    let piece = c.args.piece.now in
    let first = c.min-first.result in
    let done = c.in_ok-done.done in
    let all = c.deref.result.now in
    let seen = take (length all - start) (drop start all) in
    let joint : c.append.new.octets.items ≡ octets ++ take first piece = search rules in
    let is : all ≡ octets ++ take first piece = c.deref.ensures.0 ∙ joint in
    let short : length piece ≤ MAX_UNIT = c.if-piece-le-MAX_UNIT.true in
    let whole : take first piece ≡ piece = take_all first piece (omega (arith, c.min-first.ensures)) in
    let looked : seen ≡ drop start octets ++ piece =
    looked_at octets piece all start first c.requires.begun is ∙ ap (λ (t : List ℕ). drop start octets ++ t) whole in
    let left : drop done seen ≡ drop (start + done) c.append.new.octets.items =
    ap (λ (t : List ℕ). drop done t) (take_rest all start) ∙ drop-drop done start all
    ∙ ap (λ (t : List ℕ). drop (start + done) t) c.deref.ensures.0 in
    let g = c.in_ok-done.ensures.given in
    let here : Gives (drop start octets ++ piece) g.0 (drop done seen) =
    subst (λ (t : List ℕ). Gives t g.0 (drop done seen)) looked g.2 in
    (g.0, g.1, subst (λ (t : List ℕ). Gives (drop start octets ++ piece) g.0 t) left here)

pub returns-clause-given : goal.returns-clause-given
returns-clause-given c =
    let octets = c.args.octets.now.items in
    let start = c.args.start in
    let held = drop start octets in
    let piece = c.args.piece.now in
    let first = c.min-first.result in
    let done = c.in_ok-done.done in
    let again = c.in_ok-done-2.done in
    let all = c.deref.result.now in
    let seen = take (length all - start) (drop start all) in
    let before = c.len.result - start in
    let rest = take (length piece - (done - before)) (drop (done - before) piece) in
    let joint : c.append.new.octets.items ≡ octets ++ take first piece = search rules in
    let looked : seen ≡ held ++ take first piece = looked_at octets piece all start first c.requires.begun (c.deref.ensures.0 ∙ joint) in
    let left : c.try_extend_from_slice.new.self.items ≡ take (length rest - again) (drop again rest) = search rules in
    let g = c.in_ok-done.ensures.given in
    let h = c.in_ok-done-2.ensures.given in
    let within : done ≤ length (held ++ take first piece) = subst (λ (t : List ℕ). done ≤ length t) looked c.in_ok-done.ensures.within in
    let size : before ≡ length held = omega (arith, c.len.ensures.value, length-drop start octets) in
    let fewer : length (drop done (held ++ take first piece)) < MAX_UNIT =
    subst (λ (t : List ℕ). length (drop done t) < MAX_UNIT) looked c.in_ok-done.ensures.fewer in
    let past : length held ≤ done =
    passed held piece first done c.min-first.ensures c.if-piece-le-MAX_UNIT.false fewer in
    let p : Gives (held ++ take first piece) g.0 (drop done (held ++ take first piece)) =
    subst (λ (t : List ℕ). Gives t g.0 (drop done t)) looked g.2 in
    let waits : Gives rest h.0 c.try_extend_from_slice.new.self.items =
    subst (λ (t : List ℕ). Gives rest h.0 t) (sym (left ∙ take_rest rest again)) h.2 in
    let here : rest ≡ drop (done - length held) piece = rest_here held piece before done size in
    let q : Gives (drop (done - length held) piece) h.0 c.try_extend_from_slice.new.self.items =
    subst (λ (t : List ℕ). Gives t h.0 c.try_extend_from_slice.new.self.items) here waits in (
      g.0 ++ h.0,
      h.1 ∙ ap (λ (x : List Frame). x ++ h.0) g.1 ∙ append_assoc c.args.out.now.items g.0 h.0,
      gives_both held piece c.try_extend_from_slice.new.self.items first done g.0 h.0 past within p q,
    )

pub returns-in_err-done-clause-full : goal.returns-in_err-done-clause-full
returns-in_err-done-clause-full c =
    let octets = c.args.octets.now.items in
    let start = c.args.start in
    let held = drop start octets in
    let piece = c.args.piece.now in
    let first = c.min-first.result in
    let all = c.deref.result.now in
    let seen = take (length all - start) (drop start all) in
    let joint : c.append.new.octets.items ≡ octets ++ take first piece = search rules in
    let looked : seen ≡ held ++ take first piece = looked_at octets piece all start first c.requires.begun (c.deref.ensures.0 ∙ joint) in
    let whole : seen ++ drop first piece ≡ held ++ piece =
    ap (λ (t : List ℕ). t ++ drop first piece) looked ∙ append_assoc held (take first piece) (drop first piece)
    ∙ ap (λ (t : List ℕ). held ++ t) (take-append-drop first piece) in
    on_err c.from_residual.result _ (λ (frames : List Frame) (left : List ℕ) (g : Gives (held ++ piece) frames left).
    c.in_err-done.ensures.full (drop first piece) frames left (subst (λ (t : List ℕ). Gives t frames left) (sym whole) g))

pub returns-in_err-done-2-clause-full : goal.returns-in_err-done-2-clause-full
returns-in_err-done-2-clause-full c =
    let octets = c.args.octets.now.items in
    let start = c.args.start in
    let held = drop start octets in
    let piece = c.args.piece.now in
    let first = c.min-first.result in
    let done = c.in_ok-done.done in
    let all = c.deref.result.now in
    let seen = take (length all - start) (drop start all) in
    let before = c.len.result - start in
    let rest = take (length piece - (done - before)) (drop (done - before) piece) in
    let joint : c.append.new.octets.items ≡ octets ++ take first piece = search rules in
    let looked : seen ≡ held ++ take first piece = looked_at octets piece all start first c.requires.begun (c.deref.ensures.0 ∙ joint) in
    let within : done ≤ length (held ++ take first piece) = subst (λ (t : List ℕ). done ≤ length t) looked c.in_ok-done.ensures.within in
    let size : before ≡ length held = omega (arith, c.len.ensures.value, length-drop start octets) in
    let fewer : length (drop done (held ++ take first piece)) < MAX_UNIT =
    subst (λ (t : List ℕ). length (drop done t) < MAX_UNIT) looked c.in_ok-done.ensures.fewer in
    let past : length held ≤ done =
    passed held piece first done c.min-first.ensures c.if-piece-le-MAX_UNIT.false fewer in
    let given = c.in_ok-done.ensures.given in
    let p : Gives (held ++ take first piece) given.0 (drop done (held ++ take first piece)) =
    subst (λ (t : List ℕ). Gives t given.0 (drop done t)) looked given.2 in
    let here : rest ++ [] ≡ drop (done - length held) piece =
    append-nil rest ∙ rest_here held piece before done size in
    on_err c.from_residual-in_err-done-2.result _ (λ (frames : List Frame) (left : List ℕ) (g : Gives (held ++ piece) frames left).
    let on : GoesOn (drop (done - length held) piece) left given.0 frames = rest_gives held piece left first done given.0 frames past within p g in
    let full : vec_capacity c.take_frames.new.out < vec_len c.take_frames.new.out + length on.later =
    c.in_err-done-2.ensures.full [] on.later left (subst (λ (t : List ℕ). Gives t on.later left) (sym here) on.gives) in
    let parts : length frames ≡ length given.0 + length on.later = ap length on.all_is ∙ length-append given.0 on.later in
    let more : length c.take_frames.new.out.items ≡ length c.args.out.now.items + length given.0 =
    ap length given.1 ∙ length-append c.args.out.now.items given.0 in
    let ok = c.take_frames.new.out.ok in
    let ok_before = c.args.out.now.ok in
    let room : vec_capacity c.args.out.now ≤ vec_capacity c.take_frames.new.out = c.take_frames.ensures.capacity in
    omega arith)
