-- The solicited half: what the ways lose, and what the master does.
use Rattle.std.proofs.Common.{◌≡◌, ℕ, Bool, true, false, List, [], ◌∷◌, ◌++◌, inl, inr, refl, sym, ap, ◌∙◌, subst, arith, Some, None}
use Rattle.std.specs.Prelude.{Option, IfSome, if◌then◌else◌}
use Rattle.std.specs.List.{Contains}
use Rattle.std.proofs.lemmas.List.Elements.{All-weaker, Contains-append_left, Contains-append_right, All-contains_itself}
use Rattle.dnp_eventbuf.specs.Buffered.{Buffered}
use Rattle.dnp_world.specs.Lists.{IsEnd, Turns}
use Rattle.dnp_world.specs.Octets.{after, seq_in}
use Rattle.dnp_world.specs.LawLink.{Asks, Confirms, Continuing, Down, FirstSent, SentFragment, FurtherSent, Idle, LastRequest, LawMaster, NothingSent, Phase, Received, Reply, Requested, Responding, fin_of, seq_of}
use Rattle.dnp_world.specs.Moves.{confirm_of}
use Rattle.dnp_world.specs.Standing.{Agrees, AllIn, Conversation, FitsPhase, IsOnItsWay, IsReply, IsTaken, Solicited, expected}
use Rattle.dnp_world.proofs.Lists.{each_end, end_more, end_trans, turns_end, turns_head}

-- a number is not the one after it
pub after_moves : (s : ℕ) → after s ≡ s → ⊥
after_moves s e = omega (arith, e)

-- ---- what is lost

on_way_end : (phase : Phase) (c : SentFragment) (up up' : List SentFragment) → IsEnd up' up → IsOnItsWay phase c up → IsOnItsWay phase c up'
on_way_end Idle c up up' k h = each_end (λ f. f ≡ c) up' up k h
on_way_end (Requested q) c up up' k h = each_end (λ f. f ≡ c) up' up k h
on_way_end (Received q) c up up' k h = each_end (λ f. f ≡ c) up' up k h
on_way_end Responding c up up' k h = turns_end (λ f. after (seq_of f) ≡ seq_of c) (λ f. f ≡ c) up' up k h
on_way_end Continuing c up up' k h = each_end (λ f. f ≡ c) up' up k h

pub loses_down : (v : Conversation) (down : List Down) → IsEnd down v.down → Solicited v → Solicited (record v { down = down })
loses_down v down k s =
    record {
      wait = s.wait;
      reply = s.reply;
      cause = s.cause;
      down = end_trans down v.down (expected v.phase v.trigger v.current) k s.down;
      taken = s.taken;
      up = s.up;
    }

pub loses_up : (v : Conversation) (up : List SentFragment) → IsEnd up v.up → Solicited v → Solicited (record v { up = up })
loses_up v up k s =
    record {
      wait = s.wait;
      reply = s.reply;
      cause = s.cause;
      down = s.down;
      taken = s.taken;
      up = on_way_end v.phase v.current v.up up k s.up;
    }

-- ---- the master asks

reply_moves : (t t' : Phase) (c : SentFragment) → ((q : List ℕ) → t ≡ Received q → ⊥) → (q : List ℕ) (more : Bool) (r : Reply) →
    IsReply t c q more r → IsReply t' c q more r
reply_moves t t' c never q more NothingSent h = absurd (never q h)
reply_moves t t' c never q more (FirstSent octets upto) h = h
reply_moves t t' c never q more FurtherSent h = h

last_moves : (t t' : Phase) (c : SentFragment) → ((q : List ℕ) → t ≡ Received q → ⊥) → (last : Option LastRequest) →
    IfSome last (λ a. IsReply t c a.request a.more a.reply) → IfSome last (λ a. IsReply t' c a.request a.more a.reply)
last_moves t t' c never None h = tt
last_moves t t' c never (Some a) h = reply_moves t t' c never a.request a.more a.reply h

pub asks : (v : Conversation) (q : List ℕ) → v.phase ≡ Idle → seq_in q ≡ after (seq_of v.current) → Solicited v →
    Solicited (record v { phase = Requested q; down = v.down ++ Asks q ∷ [] })
asks v q rest number s =
    let c : SentFragment = v.current in
    let cause : FitsPhase Idle v.trigger v.last c = subst (λ (t : Phase). FitsPhase t v.trigger v.last c) rest s.cause in
    record {
      wait = s.wait;
      reply = last_moves Idle (Requested q) c (λ p e. absurd (cc)) v.last
          (subst (λ (t : Phase). IfSome v.last (λ a. IsReply t c a.request a.more a.reply)) rest s.reply);
      cause = (cause.0, cause.1, number);
      down = end_more v.down (expected Idle v.trigger c) (Asks q ∷ []) (subst (λ (t : Phase). IsEnd v.down (expected t v.trigger c)) rest s.down);
      taken = subst (λ (t : Phase). IsTaken t c v.took) rest s.taken;
      up = subst (λ (t : Phase). IsOnItsWay t c v.up) rest s.up;
    }

-- ---- the master takes a fragment

-- what the master takes is the current fragment
pub owed : (phase : Phase) (trigger : Down) (last : Option LastRequest) (c f : SentFragment) (rest : List SentFragment) (m : LawMaster) →
    FitsPhase phase trigger last c → Agrees phase c m → m.is_busy ≡ true → seq_of f ≡ m.seq → IsOnItsWay phase c (f ∷ rest) →
    (phase ≡ Responding) × (f ≡ c)
owed Idle trigger last c f rest m p a busy e h =
    let idle : m.is_busy ≡ false = a.0 in
    absurd (cc)
owed (Requested q) trigger last c f rest m p a busy e h =
    absurd (after_moves (seq_of c) (sym p.2 ∙ sym a.1 ∙ sym e ∙ ap (λ (g : SentFragment). seq_of g) h.0))
owed (Received q) trigger last c f rest m p a busy e h =
    absurd (after_moves (seq_of c) (sym p.1 ∙ sym a.1 ∙ sym e ∙ ap (λ (g : SentFragment). seq_of g) h.0))
owed Responding trigger last c f rest m p a busy e h =
    elim h [
      | inl n ↦ (refl, n.0)
      | inr o ↦ absurd (after_moves (seq_of f) (o.0 ∙ sym a.1 ∙ sym e))
    ]
owed Continuing trigger last c f rest m p a busy e h =
    absurd (after_moves (seq_of c) (sym a.1 ∙ sym e ∙ ap (λ (g : SentFragment). seq_of g) h.0))

pub more_taken : (xs ys zs : List Buffered) → AllIn xs ys → AllIn xs (ys ++ zs)
more_taken xs ys zs h = All-weaker (Contains ys) (Contains (ys ++ zs)) (λ x k. Contains-append_left ys zs x k) xs h

pub now_taken : (ys xs : List Buffered) → AllIn xs (ys ++ xs)
now_taken ys xs =
    All-weaker (Contains xs) (Contains (ys ++ xs)) (λ x k. Contains-append_right ys xs x k) xs (All-contains_itself xs)

pub takes : (v : Conversation) (rest : List SentFragment) (fin : Bool) → fin_of v.current ≡ fin → v.phase ≡ Responding → v.up ≡ v.current ∷ rest →
    Solicited v → Solicited (record v {
      phase = if fin then Idle else Continuing;
      down = v.down ++ confirm_of v.current
          (Confirms (seq_of v.current));
      took = v.took ++ v.current.rows;
    })
takes v rest true fin is up_is s =
    let c : SentFragment = v.current in
    let up : Turns (λ f. after (seq_of f) ≡ seq_of c) (λ f. f ≡ c) (c ∷ rest) =
    subst (λ (u : List SentFragment). IsOnItsWay Responding c u) up_is (subst (λ (t : Phase). IsOnItsWay t c v.up) is s.up) in
    record {
      wait = s.wait;
      reply = last_moves Responding Idle c (λ q e. absurd (cc)) v.last
          (subst (λ (t : Phase). IfSome v.last (λ a. IsReply t c a.request a.more a.reply)) is s.reply);
      cause = (fin, subst (λ (t : Phase). FitsPhase t v.trigger v.last c) is s.cause);
      down = end_more v.down (v.trigger ∷ []) (confirm_of c (Confirms (seq_of c)))
          (subst (λ (t : Phase). IsEnd v.down (expected t v.trigger c)) is s.down);
      taken = now_taken v.took c.rows;
      up = subst (λ (u : List SentFragment). IsOnItsWay Idle c u) (sym up_is)
          (turns_head (λ f. after (seq_of f) ≡ seq_of c) (λ f. f ≡ c) c rest (after_moves (seq_of c)) up);
    }
takes v rest false fin is up_is s =
    let c : SentFragment = v.current in
    let up : Turns (λ f. after (seq_of f) ≡ seq_of c) (λ f. f ≡ c) (c ∷ rest) =
    subst (λ (u : List SentFragment). IsOnItsWay Responding c u) up_is (subst (λ (t : Phase). IsOnItsWay t c v.up) is s.up) in
    record {
      wait = s.wait;
      reply = last_moves Responding Continuing c (λ q e. absurd (cc)) v.last
          (subst (λ (t : Phase). IfSome v.last (λ a. IsReply t c a.request a.more a.reply)) is s.reply);
      cause = subst (λ (t : Phase). FitsPhase t v.trigger v.last c) is s.cause;
      down = end_more v.down (v.trigger ∷ []) (confirm_of c (Confirms (seq_of c)))
          (subst (λ (t : Phase). IsEnd v.down (expected t v.trigger c)) is s.down);
      taken = now_taken v.took c.rows;
      up = subst (λ (u : List SentFragment). IsOnItsWay Continuing c u) (sym up_is)
          (turns_head (λ f. after (seq_of f) ≡ seq_of c) (λ f. f ≡ c) c rest (after_moves (seq_of c)) up);
    }

taken_more : (phase : Phase) (c : SentFragment) (took rows : List Buffered) → IsTaken phase c took → IsTaken phase c (took ++ rows)
taken_more Idle c took rows h = more_taken c.rows took rows h
taken_more (Requested q) c took rows h = more_taken c.rows took rows h
taken_more (Received q) c took rows h = more_taken c.rows took rows h
taken_more Responding c took rows h = tt
taken_more Continuing c took rows h = more_taken c.rows took rows h

-- the master takes other rows
pub takes_others : (v : Conversation) (rows : List Buffered) → Solicited v → Solicited (record v { took = v.took ++ rows })
takes_others v rows s =
    record {
      wait = s.wait;
      reply = s.reply;
      cause = s.cause;
      down = s.down;
      taken = taken_more v.phase v.current v.took rows s.taken;
      up = s.up;
    }
