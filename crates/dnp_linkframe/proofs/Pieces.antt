-- Streams in pieces: decisions follow one another, and what they give is one thing.
use Rattle.std.proofs.Common.{◌≡◌, ℕ, zero, suc, ◌+◌, ◌-◌, ◌<◌, ◌≤◌, List, [], ◌∷◌, ◌++◌, length, take, drop, refl, sym, ◌∙◌, ap, subst, arith}
use Rattle.std.specs.List.{concat}
use Rattle.std.proofs.lemmas.List.{append_assoc, append-nil, length-append, length-drop, drop-append-le, drop_at, drop-drop, take-append-drop}
use Rattle.dnp_linkframe.specs.declared.frame.Frame.{Frame}
use Rattle.dnp_linkframe.specs.Frames.{frame_size}
use Rattle.dnp_linkframe.specs.Stream.{Front, Waits, Whole, IsFront, used, frame_in, After, Gives, SpellEach}
use Rattle.dnp_linkframe.proofs.Blocks.{length-spelled}
use Rattle.dnp_linkframe.proofs.Fronts.{front_more, used_within, one_front, spelled_front}

-- what was decided stays decided, whatever comes after
pub after_more : (count : ℕ) (stream more : List ℕ) (frames : List Frame) (rest : List ℕ) → After count stream frames rest
    → After count (stream ++ more) frames (rest ++ more)
after_more zero stream more frames rest (none, is) = (none, ap (λ (t : List ℕ). t ++ more) is)
after_more (suc count) stream more frames rest (front, later, here, some, is, after) = (
  front,
  later,
  front_more stream more front here some,
  some,
  is,
  subst (λ (t : List ℕ). After count t later (rest ++ more))
      (sym (drop-append-le (used front) stream more (used_within stream front here)))
      (after_more count (drop (used front) stream) more later rest after),
)

-- further decisions go on with the rest
pub after_join : (j k : ℕ) (stream between rest : List ℕ) (f g : List Frame) → After j stream f between → After k between g rest
    → After (j + k) stream (f ++ g) rest
after_join zero k stream between rest f g (none, is) after =
    let frames : g ≡ f ++ g = ap (λ (t : List Frame). t ++ g) (sym none) in
    let count : k ≡ zero + k = omega arith in
    subst (λ (n : ℕ). After n stream (f ++ g) rest) count
    (subst (λ (t : List Frame). After k stream t rest) frames
    (subst (λ (t : List ℕ). After k t g rest) is after))
after_join (suc j) k stream between rest f g (front, later, here, some, is, before) after =
    let count : suc (j + k) ≡ suc j + k = omega arith in
    let joined : After (suc (j + k)) stream (f ++ g) rest = (
      front,
      later ++ g,
      here,
      some,
      ap (λ (t : List Frame). t ++ g) is ∙ append_assoc (frame_in front) later g,
      after_join j k (drop (used front) stream) between rest later g before after,
    ) in
    subst (λ (n : ℕ). After n stream (f ++ g) rest) count joined

-- any pieces give what the joined octets give
pub pieces : (stream held piece rest : List ℕ) (before frames : List Frame) → Gives stream before held → Gives (held ++ piece) frames rest
    → Gives (stream ++ piece) (before ++ frames) rest
pieces stream held piece rest before frames p q = record {
  decisions = p.decisions + q.decisions;
  after =
      after_join p.decisions q.decisions (stream ++ piece) (held ++ piece) rest before frames
      (after_more p.decisions stream piece before held p.after) q.after;
  waits = q.waits;
}

-- where octets wait, nothing is decided
undecided : (stream : List ℕ) (front : Front) → IsFront stream Waits → IsFront stream front → 0 < used front → ⊥
undecided stream front waits here some =
    let same : front ≡ Waits = one_front stream front Waits here waits in
    let none : used front ≡ 0 = ap used same in
    omega arith

pub record Same (f g : List Frame) (a b : List ℕ) : Type 0 where
  pub frames : f ≡ g
  pub rests : a ≡ b

-- a stream gives one list of frames, and one rest
same_after : (j k : ℕ) (stream a b : List ℕ) (f g : List Frame) → After j stream f a → IsFront a Waits → After k stream g b → IsFront b Waits
    → Same f g a b
same_after zero zero stream a b f g (none, is) waits (none', is') waits' = record { frames = none ∙ sym none'; rests = is ∙ sym is' }
same_after zero (suc k) stream a b f g (none, is) waits (front, later, here, some, is', after) waits' =
    absurd (undecided stream front (subst (λ (t : List ℕ). IsFront t Waits) is waits) here some)
same_after (suc j) zero stream a b f g (front, later, here, some, is, after) waits (none', is') waits' =
    absurd (undecided stream front (subst (λ (t : List ℕ). IsFront t Waits) is' waits') here some)
same_after (suc j) (suc k) stream a b f g (front, later, here, some, is, after) waits (front', later', here', some', is', after') waits' =
    let same : front' ≡ front = one_front stream front' front here' here in
    let there : After k (drop (used front) stream) later' b = subst (λ (x : Front). After k (drop (used x) stream) later' b) same after' in
    let rec : Same later later' a b = same_after j k (drop (used front) stream) a b later later' after waits there waits' in
    record {
      frames = is ∙ ap (λ (t : List Frame). frame_in front ++ t) rec.frames ∙ ap (λ (x : Front). frame_in x ++ later') (sym same) ∙ sym is';
      rests = rec.rests;
    }

pub one_answer : (stream a b : List ℕ) (f g : List Frame) → Gives stream f a → Gives stream g b → (f ≡ g) × (a ≡ b)
one_answer stream a b f g p q =
    let same : Same f g a b = same_after p.decisions q.decisions stream a b f g p.after p.waits q.after q.waits in
    (same.frames, same.rests)

-- joined spellings give their frames, and nothing waits
pub spellings : (units : List (List ℕ)) (frames : List Frame) → SpellEach units frames → Gives (concat units) frames []
spellings [] frames none = record { decisions = 0; after = (none, refl); waits = λ ten. absurd (omega arith) }
spellings (unit ∷ units) [] h = absurd h
spellings (unit ∷ units) (frame ∷ frames) (s, more) =
    let later : Gives (concat units) frames [] = spellings units frames more in
    let size : length unit ≡ frame_size (length frame.user.items) = length-spelled unit frame s in
    record {
      decisions = suc later.decisions;
      after = (
        Whole frame (length unit),
        frames,
        spelled_front unit (concat units) frame s,
        omega arith,
        refl,
        subst (λ (t : List ℕ). After later.decisions t frames []) (sym (drop_at unit (concat units) (length unit) refl)) later.after,
      );
      waits = later.waits;
    }

-- a stream that only waits gives nothing
pub gives_nothing : (stream rest : List ℕ) → rest ≡ stream → IsFront stream Waits → Gives stream [] rest
gives_nothing stream rest is waits = record { decisions = 0; after = (refl, is); waits = subst (λ (t : List ℕ). IsFront t Waits) (sym is) waits }

-- what has been taken from the stream: so many octets are done with, and their frames stand after those before
pub record Took (stream : List ℕ) (done : ℕ) (before out : List Frame) : Type 0 where
  pub within : done ≤ length stream
  pub frames : List Frame
  pub out_is : out ≡ before ++ frames
  pub decisions : ℕ
  pub after : After decisions stream frames (drop done stream)

pub took_none : (stream : List ℕ) (before : List Frame) → Took stream 0 before before
took_none stream before = record {
  within = omega arith;
  frames = [];
  out_is = sym (append-nil before);
  decisions = 0;
  after = (refl, refl);
}

pub took_more : (stream : List ℕ) (done : ℕ) (before out : List Frame) (front : Front) → Took stream done before out
    → IsFront (drop done stream) front → 0 < used front → Took stream (done + used front) before (out ++ frame_in front)
took_more stream done before out front t here some = record {
  within =
      let left : used front ≤ length (drop done stream) = used_within (drop done stream) front here in
      omega (arith, length-drop done stream, t.within);
  frames = t.frames ++ frame_in front;
  out_is = ap (λ (x : List Frame). x ++ frame_in front) t.out_is ∙ append_assoc before t.frames (frame_in front);
  decisions = t.decisions + 1;
  after =
      let one : After 1 (drop done stream) (frame_in front) (drop (done + used front) stream) = (
        front,
        [],
        here,
        some,
        sym (append-nil (frame_in front)),
        (refl, sym (drop-drop (used front) done stream)),
      ) in
      after_join t.decisions 1 stream (drop done stream) (drop (done + used front) stream) t.frames (frame_in front) t.after one;
}

-- what is done with and gives no frame
pub took_past : (stream : List ℕ) (done : ℕ) (before out : List Frame) (front : Front) → frame_in front ≡ [] → Took stream done before out
    → IsFront (drop done stream) front → 0 < used front → Took stream (done + used front) before out
took_past stream done before out front silent t here some =
    subst (λ (x : List Frame). Took stream (done + used front) before x) (ap (λ (x : List Frame). out ++ x) silent ∙ append-nil out)
    (took_more stream done before out front t here some)

drop_past : (held piece : List ℕ) (done : ℕ) → length held ≤ done → drop done (held ++ piece) ≡ drop (done - length held) piece
drop_past held piece done past =
    let parts : done ≡ length held + (done - length held) = omega arith in
    ap (λ (n : ℕ). drop n (held ++ piece)) parts ∙ sym (drop-drop (done - length held) (length held) (held ++ piece))
    ∙ ap (λ (t : List ℕ). drop (done - length held) t) (drop_at held piece (length held) refl)

-- what is held and the first octets of a piece, and then the rest of the piece
pub gives_both : (held piece rest : List ℕ) (first done : ℕ) (f g : List Frame) → length held ≤ done → done ≤ length (held ++ take first piece)
    → Gives (held ++ take first piece) f (drop done (held ++ take first piece)) → Gives (drop (done - length held) piece) g rest
    → Gives (held ++ piece) (f ++ g) rest
gives_both held piece rest first done f g past within p q =
    let whole : (held ++ take first piece) ++ drop first piece ≡ held ++ piece =
    append_assoc held (take first piece) (drop first piece) ∙ ap (λ (t : List ℕ). held ++ t) (take-append-drop first piece) in
    let left : drop (done - length held) piece ≡ drop done (held ++ take first piece) ++ drop first piece =
    sym (drop_past held piece done past) ∙ ap (λ (t : List ℕ). drop done t) (sym whole)
    ∙ drop-append-le done (held ++ take first piece) (drop first piece) within in
    subst (λ (t : List ℕ). Gives t (f ++ g) rest) whole
    (pieces (held ++ take first piece) (drop done (held ++ take first piece)) (drop first piece) rest f g p
    (subst (λ (t : List ℕ). Gives t g rest) left q))

-- what a stream gives after some decisions
pub record GoesOn (between rest : List ℕ) (f all : List Frame) : Type 0 where
  pub later : List Frame
  pub all_is : all ≡ f ++ later
  pub gives : Gives between later rest

goes_on_from : (j k : ℕ) (stream between rest : List ℕ) (f all : List Frame) → After j stream f between → After k stream all rest → IsFront rest Waits
    → GoesOn between rest f all
goes_on_from zero k stream between rest f all (none, is) after waits = record {
  later = all;
  all_is = ap (λ (x : List Frame). x ++ all) (sym none);
  gives = record { decisions = k; after = subst (λ (t : List ℕ). After k t all rest) (sym is) after; waits = waits };
}
goes_on_from (suc j) zero stream between rest f all (front, more, here, some, is, after) (none', is') waits =
    absurd (undecided stream front (subst (λ (t : List ℕ). IsFront t Waits) is' waits) here some)
goes_on_from (suc j) (suc k) stream between rest f all (front, more, here, some, is, after) (front', more', here', some', is', after') waits =
    let same : front' ≡ front = one_front stream front' front here' here in
    let there : After k (drop (used front) stream) more' rest = subst (λ (x : Front). After k (drop (used x) stream) more' rest) same after' in
    let rec : GoesOn between rest more more' = goes_on_from j k (drop (used front) stream) between rest more more' after there waits in
    record {
      later = rec.later;
      all_is =
          is' ∙ ap (λ (x : Front). frame_in x ++ more') same ∙ ap (λ (x : List Frame). frame_in front ++ x) rec.all_is
          ∙ sym (append_assoc (frame_in front) more rec.later) ∙ ap (λ (x : List Frame). x ++ rec.later) (sym is);
      gives = rec.gives;
    }

goes_on : (j : ℕ) (stream between rest : List ℕ) (f all : List Frame) → After j stream f between → Gives stream all rest → GoesOn between rest f all
goes_on j stream between rest f all after g = goes_on_from j g.decisions stream between rest f all after g.after g.waits

-- where a further frame stands, the stream gives more frames than were taken
pub took_short : (stream more rest : List ℕ) (done size : ℕ) (before out all : List Frame) (frame : Frame) → Took stream done before out
    → IsFront (drop done stream) (Whole frame size) → 0 < size → Gives (stream ++ more) all rest → length out < length before + length all
took_short stream more rest done size before out all frame t here some g =
    let first : GoesOn (drop done stream ++ more) rest t.frames all =
    goes_on t.decisions (stream ++ more) (drop done stream ++ more) rest t.frames all
    (after_more t.decisions stream more t.frames (drop done stream) t.after) g in
    let one : After 1 (drop done stream ++ more) (frame ∷ []) (drop size (drop done stream ++ more)) = (
      Whole frame size,
      [],
      front_more (drop done stream) more (Whole frame size) here some,
      some,
      refl,
      (refl, refl),
    ) in
    let next : GoesOn (drop size (drop done stream ++ more)) rest (frame ∷ []) first.later =
    goes_on 1 (drop done stream ++ more) (drop size (drop done stream ++ more)) rest (frame ∷ []) first.later one first.gives in
    let a : length all ≡ length t.frames + length first.later = ap length first.all_is ∙ length-append t.frames first.later in
    let b : length first.later ≡ length (frame ∷ []) + length next.later = ap length next.all_is ∙ length-append (frame ∷ []) next.later in
    let c : length out ≡ length before + length t.frames = ap length t.out_is ∙ length-append before t.frames in
    omega arith

-- what the rest of a piece gives, of all that the held octets and the piece give
pub rest_gives : (held piece rest : List ℕ) (first done : ℕ) (f all : List Frame) → length held ≤ done → done ≤ length (held ++ take first piece)
    → Gives (held ++ take first piece) f (drop done (held ++ take first piece)) → Gives (held ++ piece) all rest
    → GoesOn (drop (done - length held) piece) rest f all
rest_gives held piece rest first done f all past within p g =
    let octets : List ℕ = held ++ take first piece in
    let whole : octets ++ drop first piece ≡ held ++ piece =
    append_assoc held (take first piece) (drop first piece) ∙ ap (λ (t : List ℕ). held ++ t) (take-append-drop first piece) in
    let left : drop done octets ++ drop first piece ≡ drop (done - length held) piece =
    sym (drop-append-le done octets (drop first piece) within) ∙ ap (λ (t : List ℕ). drop done t) whole ∙ drop_past held piece done past in
    let there : Gives (octets ++ drop first piece) all rest = subst (λ (t : List ℕ). Gives t all rest) (sym whole) g in
    subst (λ (t : List ℕ). GoesOn t rest f all) left
    (goes_on p.decisions (octets ++ drop first piece) (drop done octets ++ drop first piece) rest f all
    (after_more p.decisions octets (drop first piece) f (drop done octets) p.after) there)
