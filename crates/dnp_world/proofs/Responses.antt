-- The solicited half: what the outstation does.
use Rattle.std.proofs.Common.{◌≡◌, ℕ, Bool, true, false, List, [], ◌∷◌, ◌++◌, inl, inr, ◌⊎◌, refl, sym, ap, ◌∙◌, subst, Some, None}
use Rattle.std.specs.Prelude.{Option, IfSome, if◌then◌else◌}
use Rattle.dnp_eventbuf.specs.Buffered.{Buffered}
use Rattle.dnp_world.specs.Lists.{Each, IsEnd}
use Rattle.dnp_world.specs.Octets.{after, seq_in}
use Rattle.dnp_world.specs.LawLink.{Asks, Awaited, Confirms, Continuing, Down, FirstSent, SentFragment, FurtherSent, Idle, LastRequest, NothingSent, Phase, Received, Reply, Requested, Responding, con_of, fin_of, seq_of}
use Rattle.dnp_world.specs.Moves.{IsOther, MayAwait}
use Rattle.dnp_world.specs.Standing.{AllIn, Conversation, FitsPhase, IsLast, IsOnItsWay, IsReply, IsTaken, IsTrigger, Solicited, expected}
use Rattle.dnp_world.proofs.Lists.{each_both, each_weaker, turns_more, turns_over}
use Rattle.dnp_world.proofs.Exchanges.{after_moves}

-- ---- a new request comes

confirms_ask_nothing : (c : SentFragment) (con : Bool) (q : List ℕ) (rest : List Down) →
    IsEnd (Asks q ∷ rest) (if con then Confirms (seq_of c) ∷ [] else []) → ⊥
confirms_ask_nothing c true q rest h = elim h [ inl e ↦ cc | inr e ↦ cc ]
confirms_ask_nothing c false q rest h = cc

asked_alone : (q p : List ℕ) (rest : List Down) → IsEnd (Asks q ∷ rest) (Asks p ∷ []) → (q ≡ p) × (rest ≡ [])
asked_alone q p rest h =
    elim h [
      | inl e ↦ let qs : q ≡ p = cc in let rests : rest ≡ [] = cc in (qs, rests)
      | inr e ↦ absurd (cc)
    ]

asked_last : (c : SentFragment) (con : Bool) (q p : List ℕ) (rest : List Down) →
    IsEnd (Asks q ∷ rest) ((if con then Confirms (seq_of c) ∷ [] else []) ++ Asks p ∷ []) → (q ≡ p) × (rest ≡ [])
asked_last c true q p rest h =
    elim h [
      | inl e ↦ absurd (cc)
      | inr k ↦ asked_alone q p rest k
    ]
asked_last c false q p rest h = asked_alone q p rest h

no_trigger : (t : Down) (last : Option LastRequest) (c : SentFragment) (q : List ℕ) → IsTrigger t last c → IsOther q last → Asks q ≡ t → ⊥
no_trigger t last c q k other e = other_last last (subst (λ (d : Down). IsTrigger d last c) (sym e) k) other
  where
    other_last : (last : Option LastRequest) → IsLast q last → IsOther q last → ⊥
    other_last None k other = k
    other_last (Some a) k other = other k

new_request : (phase : Phase) (t : Down) (last : Option LastRequest) (c : SentFragment) (q : List ℕ) (rest : List Down) → FitsPhase phase t last c →
    IsOther q last → IsEnd (Asks q ∷ rest) (expected phase t c) → (phase ≡ Requested q) × (rest ≡ [])
new_request Idle t last c q rest p other h =
    elim h [
      | inl e ↦ let first : Asks q ≡ t = cc in absurd (no_trigger t last c q p.1 other first)
      | inr k ↦ absurd (confirms_ask_nothing c (con_of c) q rest k)
    ]
new_request (Requested r) t last c q rest p other h =
    elim h [
      | inl e ↦ let first : Asks q ≡ t = cc in absurd (no_trigger t last c q p.1 other first)
      | inr k ↦
          let l : (q ≡ r) × (rest ≡ []) = asked_last c (con_of c) q r rest k in
          (ap Requested (sym l.0), l.1)
    ]
new_request (Received r) t last c q rest p other h =
    elim h [
      | inl e ↦ let first : Asks q ≡ Asks r = cc in absurd (no_trigger (Asks r) last c q p.0 other first)
      | inr e ↦ absurd (cc)
    ]
new_request Responding t last c q rest p other h =
    elim h [
      | inl e ↦ let first : Asks q ≡ t = cc in absurd (no_trigger t last c q p other first)
      | inr e ↦ absurd (cc)
    ]
new_request Continuing t last c q rest p other h =
    elim h [
      | inl e ↦ let first : Asks q ≡ t = cc in absurd (no_trigger t last c q p other first)
      | inr k ↦ absurd (confirms_ask_nothing c (con_of c) q rest k)
    ]

-- it was asked, and nothing is on the way after it
pub is_asked : (v : Conversation) (q : List ℕ) (rest : List Down) → v.down ≡ Asks q ∷ rest → IsOther q v.last → Solicited v →
    (v.phase ≡ Requested q) × (rest ≡ [])
is_asked v q rest at other s =
    new_request v.phase v.trigger v.last v.current q rest s.cause other
    (subst (λ (d : List Down). IsEnd d (expected v.phase v.trigger v.current)) at s.down)

pub hears : (v : Conversation) (q : List ℕ) (rest : List Down) → v.down ≡ Asks q ∷ rest → IsOther q v.last → Solicited v →
    Solicited (record v { last = Some (record { request = q; reply = NothingSent; more = false }); awaited = None; phase = Received q })
hears v q rest at other s =
    let c : SentFragment = v.current in
    let came : (v.phase ≡ Requested q) × (rest ≡ []) = is_asked v q rest at other s in
    record {
      wait = tt;
      reply = refl;
      cause = (refl, (subst (λ (t : Phase). FitsPhase t v.trigger v.last c) came.0 s.cause).2);
      down = inl (at ∙ ap (λ (l : List Down). Asks q ∷ l) came.1);
      taken = subst (λ (t : Phase). IsTaken t c v.took) came.0 s.taken;
      up = subst (λ (t : Phase). IsOnItsWay t c v.up) came.0 s.up;
    }

-- ---- the outstation answers

old_copies : (c f : SentFragment) (up : List SentFragment) → seq_of f ≡ after (seq_of c) → Each (λ g. g ≡ c) up →
    Each (λ g. after (seq_of g) ≡ seq_of f) up
old_copies c f up e h =
    each_weaker (λ g. g ≡ c) (λ g. after (seq_of g) ≡ seq_of f) (λ g k. ap (λ (x : SentFragment). after (seq_of x)) k ∙ sym e) up h

pub is_heard : (v : Conversation) (q : List ℕ) (more : Bool) → v.last ≡ Some (record { request = q; reply = NothingSent; more = more }) →
    Solicited v → v.phase ≡ Received q
is_heard v q more e s = subst (λ (l : Option LastRequest). IfSome l (λ a. IsReply v.phase v.current a.request a.more a.reply)) e s.reply

pub answers : (v : Conversation) (q : List ℕ) (f : SentFragment) (was_more more : Bool) (awaited : Option Awaited) →
    v.last ≡ Some (record { request = q; reply = NothingSent; more = was_more }) → seq_of f ≡ seq_in q → (more ≡ true → fin_of f ≡ false) →
    MayAwait f awaited → Solicited v →
    Solicited (record v {
      last = Some
          (record { request = q; reply = FirstSent f.octets f.upto; more = more });
      awaited = awaited;
      phase = Responding;
      trigger = Asks q;
      current = f;
      up = v.up ++ f ∷ [];
    })
answers v q f was_more more awaited last_is number unended waits s =
    let c : SentFragment = v.current in
    let is : v.phase ≡ Received q = is_heard v q was_more last_is s in
    let cause : FitsPhase (Received q) v.trigger v.last c = subst (λ (t : Phase). FitsPhase t v.trigger v.last c) is s.cause in
    record {
      wait = waits;
      reply = (refl, refl, number, unended);
      cause = refl;
      down = subst (λ (t : Phase). IsEnd v.down (expected t v.trigger c)) is s.down;
      taken = tt;
      up = turns_over (λ g. after (seq_of g) ≡ seq_of f) (λ g. g ≡ f) v.up (f ∷ [])
          (old_copies c f v.up (number ∙ cause.1) (subst (λ (t : Phase). IsOnItsWay t c v.up) is s.up)) (refl, tt);
    }

-- the first fragment repeated
on_way_more : (phase : Phase) (c : SentFragment) (up : List SentFragment) → IsOnItsWay phase c up → IsOnItsWay phase c (up ++ c ∷ [])
on_way_more Idle c up h = each_both (λ f. f ≡ c) up (c ∷ []) h (refl, tt)
on_way_more (Requested q) c up h = each_both (λ f. f ≡ c) up (c ∷ []) h (refl, tt)
on_way_more (Received q) c up h = each_both (λ f. f ≡ c) up (c ∷ []) h (refl, tt)
on_way_more Responding c up h = turns_more (λ f. after (seq_of f) ≡ seq_of c) (λ f. f ≡ c) up (c ∷ []) h (refl, tt)
on_way_more Continuing c up h = each_both (λ f. f ≡ c) up (c ∷ []) h (refl, tt)

pub answers_again : (v : Conversation) (q : List ℕ) (octets upto : List ℕ) (more : Bool) (awaited : Option Awaited) →
    v.last ≡ Some (record { request = q; reply = FirstSent octets upto; more = more }) →
    (awaited ≡ v.awaited) ⊎ (awaited ≡ Some (record { seq = seq_in q; upto = upto })) → Solicited v →
    Solicited (record v { awaited = awaited; up = v.up ++ v.current ∷ [] })
answers_again v q octets upto more awaited last_is waits s =
    let c : SentFragment = v.current in
    let kept : IsReply v.phase c q more (FirstSent octets upto) = subst
    (λ (l : Option LastRequest). IfSome l (λ a. IsReply v.phase c a.request a.more a.reply)) last_is s.reply in
    let wait : MayAwait c awaited = elim waits [
      | inl e ↦ subst (λ (w : Option Awaited). MayAwait c w) (sym e) s.wait
      | inr e ↦ subst (λ (w : Option Awaited). MayAwait c w) (sym e) (sym kept.2, kept.1)
    ] in
    record {
      wait = wait;
      reply = s.reply;
      cause = s.cause;
      down = s.down;
      taken = s.taken;
      up = on_way_more v.phase c v.up s.up;
    }

-- ---- a confirm comes

no_confirm : (t : Down) (last : Option LastRequest) (c : SentFragment) → IsTrigger t last c → Confirms (seq_of c) ≡ t → ⊥
no_confirm t last c k e =
    let turns : after (seq_of c) ≡ (seq_of c) = subst (λ (d : Down). IsTrigger d last c) (sym e) k in
    after_moves (seq_of c) turns

-- it is that of a fragment that was taken
confirms_taken : (phase : Phase) (t : Down) (last : Option LastRequest) (c : SentFragment) (rest : List Down) (took : List Buffered) →
    FitsPhase phase t last c → IsTaken phase c took → IsEnd (Confirms (seq_of c) ∷ rest) (expected phase t c) → AllIn c.rows took
confirms_taken Idle t last c rest took p k h = k
confirms_taken (Requested q) t last c rest took p k h = k
confirms_taken (Received q) t last c rest took p k h = k
confirms_taken Responding t last c rest took p k h =
    elim h [
      | inl e ↦ let first : Confirms (seq_of c) ≡ t = cc in absurd (no_confirm t last c p first)
      | inr e ↦ absurd (cc)
    ]
confirms_taken Continuing t last c rest took p k h = k

pub is_taken : (v : Conversation) (rest : List Down) → v.down ≡ Confirms (seq_of v.current) ∷ rest → Solicited v → AllIn v.current.rows v.took
is_taken v rest at s =
    confirms_taken v.phase v.trigger v.last v.current rest v.took s.cause s.taken
    (subst (λ (d : List Down). IsEnd d (expected v.phase v.trigger v.current)) at s.down)

pub waits_no_longer : (v : Conversation) → Solicited v → Solicited (record v { awaited = None })
waits_no_longer v s =
    record { wait = tt; reply = s.reply; cause = s.cause; down = s.down; taken = s.taken; up = s.up }

-- ---- the response goes on

confirmed_last : (c : SentFragment) (con : Bool) (rest : List Down) → IsEnd (Confirms (seq_of c) ∷ rest) (if con then Confirms (seq_of c) ∷ [] else []) →
    rest ≡ []
confirmed_last c true rest h = elim h [ inl e ↦ let rests : rest ≡ [] = cc in rests | inr e ↦ absurd (cc) ]
confirmed_last c false rest h = absurd (cc)

unended : (phase : Phase) (c : SentFragment) (q : List ℕ) (more : Bool) (r : Reply) → more ≡ true → IsReply phase c q more r →
    (phase ≡ Received q) ⊎ (fin_of c ≡ false)
unended phase c q more NothingSent e h = inl h
unended phase c q more (FirstSent octets upto) e h = inr (h.3 e)
unended phase c q more FurtherSent e h = inr (h e)

going : (phase : Phase) (t : Down) (last : Option LastRequest) (c : SentFragment) (p : List ℕ) (rest : List Down) → FitsPhase phase t last c →
    (phase ≡ Received p) ⊎ (fin_of c ≡ false) → IsEnd (Confirms (seq_of c) ∷ rest) (expected phase t c) → (phase ≡ Continuing) × (rest ≡ [])
going Idle t last c p rest ph u h =
    let ended : (fin_of c) ≡ true = ph.0 in
    elim u [ inl e ↦ absurd (cc) | inr e ↦ absurd (cc) ]
going (Requested q) t last c p rest ph u h =
    let ended : (fin_of c) ≡ true = ph.0 in
    elim u [ inl e ↦ absurd (cc) | inr e ↦ absurd (cc) ]
going (Received q) t last c p rest ph u h = elim h [ inl e ↦ absurd (cc) | inr e ↦ absurd (cc) ]
going Responding t last c p rest ph u h =
    elim h [
      | inl e ↦ let first : Confirms (seq_of c) ≡ t = cc in absurd (no_confirm t last c ph first)
      | inr e ↦ absurd (cc)
    ]
going Continuing t last c p rest ph u h =
    elim h [
      | inl e ↦ let first : Confirms (seq_of c) ≡ t = cc in absurd (no_confirm t last c ph first)
      | inr k ↦ (refl, confirmed_last c (con_of c) rest k)
    ]

pub is_going : (v : Conversation) (a : LastRequest) (rest : List Down) → v.down ≡ Confirms (seq_of v.current) ∷ rest → v.last ≡ Some a →
    a.more ≡ true → Solicited v → (v.phase ≡ Continuing) × (rest ≡ [])
is_going v a rest at last_is more_left s =
    let c : SentFragment = v.current in
    let reply : IsReply v.phase c a.request a.more a.reply = subst
    (λ (l : Option LastRequest). IfSome l (λ b. IsReply v.phase c b.request b.more b.reply)) last_is s.reply in
    going v.phase v.trigger v.last c a.request rest s.cause (unended v.phase c a.request a.more a.reply more_left reply)
    (subst (λ (d : List Down). IsEnd d (expected v.phase v.trigger c)) at s.down)

pub goes_on : (v : Conversation) (a : LastRequest) (rest : List Down) (f : SentFragment) (more : Bool) (awaited : Option Awaited) →
    v.down ≡ Confirms (seq_of v.current) ∷ rest → v.last ≡ Some a → a.more ≡ true → seq_of f ≡ after (seq_of v.current) →
    (more ≡ true → fin_of f ≡ false) → MayAwait f awaited → Solicited v →
    Solicited (record v {
      last = Some
          (record { request = a.request; reply = FurtherSent; more = more });
      awaited = awaited;
      phase = Responding;
      trigger = Confirms
          (seq_of v.current);
      current = f;
      up = v.up ++ f ∷ [];
    })
goes_on v a rest f more awaited at last_is more_left number unended_now waits s =
    let c : SentFragment = v.current in
    let is : (v.phase ≡ Continuing) × (rest ≡ []) = is_going v a rest at last_is more_left s in
    record {
      wait = waits;
      reply = unended_now;
      cause = sym number;
      down = inl (at ∙ ap (λ (l : List Down). Confirms (seq_of c) ∷ l) is.1);
      taken = tt;
      up = turns_over (λ g. after (seq_of g) ≡ seq_of f) (λ g. g ≡ f) v.up (f ∷ [])
          (old_copies c f v.up number (subst (λ (t : Phase). IsOnItsWay t c v.up) is.0 s.up)) (refl, tt);
    }
