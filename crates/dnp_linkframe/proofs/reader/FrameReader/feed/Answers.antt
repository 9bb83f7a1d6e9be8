use Rattle.std.proofs.Common.{rules, ◌≡◌, ℕ, ◌<◌, ◌≤◌, ◌-◌, List, [], ◌++◌, length, drop, sym, ◌∙◌, ap, subst, arith}
use Rattle.std.proofs.lemmas.List.{append_cancel_left, append-nil, length-append, length-drop, drop-append-le}
use Rattle.dnp_linkframe.specs.declared.frame.Frame.{Frame}
use Rattle.dnp_linkframe.specs.Stream.{Gives}
use Rattle.dnp_linkframe.specs.steps.Checks.{Awaits}
use Rattle.dnp_linkframe.proofs.Pieces.{pieces, gives_nothing}
use Rattle.dnp_linkframe.proofs.reader.FrameReader.feed.Goals as goal

-- octets that are appended to those that wait, and don't make up what is needed, wait with them
waits_longer : (view octets piece all : List ℕ) (start needed : ℕ) → start ≤ length octets → drop start octets ≡ view → all ≡ octets ++ piece
    → Awaits view needed → length piece < needed - (length octets - start) → Gives (view ++ piece) [] (drop start all)
waits_longer view octets piece all start needed begun is joined awaits few =
    let here : drop start all ≡ view ++ piece =
    ap (λ (t : List ℕ). drop start t) joined ∙ drop-append-le start octets piece begun ∙ ap (λ (t : List ℕ). t ++ piece) is in
    let size : length view ≡ length octets - start = ap length (sym is) ∙ length-drop start octets in
    gives_nothing (view ++ piece) (drop start all) here (awaits.waits piece (omega (arith, few, size, length-append view piece)))

pub returns-then-piece-self-clause-given : goal.returns-then-piece-self-clause-given
returns-then-piece-self-clause-given c = (
  [],
  sym (append-nil c.args.out.now.items),
  waits_longer c.args.self.now c.make_room-self-inside.new.octets.items c.args.piece.now c.append.new.octets.items
      c.make_room-self-inside.result c.self.inside.needed c.make_room-self-inside.ensures.begun
      (c.make_room-self-inside.ensures.same ∙ c.self.view_is) (search rules)
      (subst (λ (t : List ℕ). Awaits t c.self.inside.needed) c.self.view_is c.self.invariant.1)
      (let few = c.if-piece-self.true in omega (arith, c.len-held.ensures.value)),
)

pub returns-then-piece-self-clause-carried : goal.returns-then-piece-self-clause-carried
returns-then-piece-self-clause-carried c = λ (stream : List ℕ) (before frames : List Frame) (held : Gives stream before c.args.self.now) is.
    let view : List ℕ = c.args.self.now in
    let left : List ℕ = drop c.make_room-self-inside.result c.append.new.octets.items in
    let none : [] ≡ frames = append_cancel_left c.args.out.now.items [] frames (append-nil c.args.out.now.items ∙ is) in
    let here : Gives (view ++ c.args.piece.now) [] left =
    waits_longer c.args.self.now c.make_room-self-inside.new.octets.items c.args.piece.now c.append.new.octets.items
    c.make_room-self-inside.result c.self.inside.needed c.make_room-self-inside.ensures.begun
    (c.make_room-self-inside.ensures.same ∙ c.self.view_is) (search rules)
    (subst (λ (t : List ℕ). Awaits t c.self.inside.needed) c.self.view_is c.self.invariant.1)
    (let few = c.if-piece-self.true in omega (arith, c.len-held.ensures.value)) in
    pieces stream view c.args.piece.now left before frames held
    (subst (λ (x : List Frame). Gives (view ++ c.args.piece.now) x left) none here)

pub returns-in-Ok-clause-carried : goal.returns-in-Ok-clause-carried
returns-in-Ok-clause-carried c = λ (stream : List ℕ) (before frames : List Frame) (held : Gives stream before c.args.self.now) is.
    let given = (c.in-Ok.ensures).given in
    let view : List ℕ = c.args.self.now in
    let left : List ℕ = drop c.in-Ok.start c.read_on.new.octets.items in
    let same : given.0 ≡ frames = append_cancel_left c.args.out.now.items given.0 frames (sym given.1 ∙ is) in
    let here : Gives (view ++ c.args.piece.now) given.0 left =
    subst (λ (t : List ℕ). Gives (t ++ c.args.piece.now) given.0 left) (c.make_room-self-inside.ensures.same ∙ c.self.view_is) given.2 in
    pieces stream view c.args.piece.now left before frames held
    (subst (λ (x : List Frame). Gives (view ++ c.args.piece.now) x left) same here)

pub returns-in-Err-clause-full : goal.returns-in-Err-clause-full
returns-in-Err-clause-full c = λ (frames : List Frame) (rest : List ℕ) (g : Gives (c.args.self.now ++ c.args.piece.now) frames rest).
    (c.in-Err.ensures).full frames rest
    (subst (λ (t : List ℕ). Gives (t ++ c.args.piece.now) frames rest) (sym (c.make_room-self-inside.ensures.same ∙ c.self.view_is)) g)
