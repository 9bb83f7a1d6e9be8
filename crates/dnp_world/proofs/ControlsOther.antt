-- On a quiet link the request of a command is another than the last one: it has the number that follows, or another function.
use Rattle.std.proofs.Common.{◌≡◌, ℕ, ◌<◌, ◌&&◌, ◌||◌, true, false, Bool, List, Option, Some, None, IfSome, refl, sym, ap, ◌∙◌, subst, arith, option_map}
use Rattle.std.specs.Prelude.{bytes_eq, is_none, is_some}
use Rattle.std.proofs.lemmas.Bool.{and_parts}
use Rattle.std.proofs.lemmas.Slice.Eq.{bytes_eq-Decides}
use Rattle.dnp_appfragment.specs.Fragments.{request_octets}
use Rattle.dnp_master.specs.Requests.{request_for}
use Rattle.dnp_master.specs.State.{is_idle}
use Rattle.dnp_master.specs.declared.task.Task.{Task}
use Rattle.dnp_master.specs.declared.task.Task.TheVariants as task
use Rattle.dnp_objects.specs.declared.command.Command.{Command}
use Rattle.dnp_objects.specs.declared.row.Row.{Row}
use Rattle.dnp_outstation.specs.Connection.{function_in, is_last_request}
use Rattle.dnp_outstation.specs.Links.{has_more}
use Rattle.dnp_outstation.specs.declared.session.LastRequest.{LastRequest}
use Rattle.dnp_outstation.specs.declared.session.Reply.{Reply}
use Rattle.dnp_outstation.specs.declared.session.Reply.TheVariants.{Held, Silent, First, Further}
use Rattle.dnp_outstation.specs.declared.session.Session.{Session}
use Rattle.dnp_world.specs.Joined.{Joined}
use Rattle.dnp_world.specs.LawLink as link
use Rattle.dnp_world.specs.LawLink.{LawLink, LawOutstation, LawMaster, Phase, Idle, Requested, Received, Responding, Continuing, seq_of}
use Rattle.dnp_world.specs.Octets.{after, seq_in}
use Rattle.dnp_world.specs.OneLinkEvents.{LinkState}
use Rattle.dnp_world.specs.OutstationSeen.{last_seen, reply_seen}
use Rattle.dnp_world.specs.Standing.{Agrees, IsReply, CarriesLaw}
use Rattle.dnp_world.proofs.MasterAsks.{asked_seq, not_busy}

-- octets that are the last request again
same_request : (session : Session) (octets : List ℕ) (last : LastRequest) → session.last ≡ Some last → (octets ≡ session.request → ⊥)
    → is_last_request session octets ≡ false
same_request session octets last there differs = by (is_some session.last) (bytes_eq octets session.request) refl
  where
    by : (a b : Bool) → bytes_eq octets session.request ≡ b → (a && b) ≡ false
    by false b is = refl
    by true false is = refl
    by true true is = absurd (differs ((bytes_eq-Decides octets session.request).0 is))

none_before : (session : Session) (octets : List ℕ) → session.last ≡ None → is_last_request session octets ≡ false
none_before session octets none = rw none refl

-- an idle master agrees with the idle phase alone
idle_phase : (p : Phase) (c : link.SentFragment) (m : LawMaster) → Agrees p c m → m.is_busy ≡ false → (p ≡ Idle) × (m.seq ≡ after (seq_of c))
idle_phase Idle c m agrees idle = (refl, agrees.1)
idle_phase (Requested q) c m agrees idle = absurd (let never : true ≡ false = sym agrees.0 ∙ idle in cc)
idle_phase (Received q) c m agrees idle = absurd (let never : true ≡ false = sym agrees.0 ∙ idle in cc)
idle_phase Responding c m agrees idle = absurd (let never : true ≡ false = sym agrees.0 ∙ idle in cc)
idle_phase Continuing c m agrees idle = absurd (let never : true ≡ false = sym agrees.0 ∙ idle in cc)

-- the number that follows is another
follows_other : (a b : ℕ) → b ≡ after a → a ≡ b → a < 16 → ⊥
follows_other a b next same low = omega (arith, next, same, low)

low_number : (octets : List ℕ) → seq_in octets < 16
unfolding seq_in
low_number octets = omega arith

-- a request that isn't a READ
other_request : {Sink : Type 0} (others : List Row) (s : LinkState Sink) (l : LawLink) (t : Task)
    → (function_in (request_octets (request_for s.master.seq t)) ≡ 1 → ⊥) → Joined others s l → CarriesLaw l
    → is_idle s.master ≡ true → s.outstation.core.is_open ≡ true
    → is_last_request s.outstation.core.session (request_octets (request_for s.master.seq t)) ≡ false
other_request others s l t is_no_read j stands idle opens = by s.outstation.core.session.last refl
  where
    session : Session
    session = s.outstation.core.session

    q : List ℕ
    q = request_octets (request_for s.master.seq t)

    parts : (s.master.is_open ≡ true) × (is_none s.master.request ≡ true)
    parts = and_parts s.master.is_open (is_none s.master.request) idle

    opens' : l.outstation.is_open ≡ true
    opens' = sym (ap (λ (o : LawOutstation). o.is_open) j.outstation.outstation) ∙ opens

    agrees : (l.phase ≡ Idle) × (l.master.seq ≡ after (seq_of l.current))
    agrees =
        idle_phase l.phase l.current l.master (stands.agrees opens' (ap (λ (m : LawMaster). m.is_open) j.master ∙ parts.0))
        (ap (λ (m : LawMaster). m.is_busy) j.master ∙ not_busy s.master.request parts.1)

    number : s.master.seq ≡ after (seq_of l.current)
    number = sym (ap (λ (m : LawMaster). m.seq) j.master) ∙ agrees.1

    -- what was sent for the last request
    replied : (last : LastRequest) → session.last ≡ Some last
        → IsReply l.phase l.current session.request (is_some last.left) (reply_seen session.response last.reply)
    replied last there =
        subst (λ (o : Option link.LastRequest). IfSome o (λ a. IsReply l.phase l.current a.request a.more a.reply))
        (sym (ap (λ (o : LawOutstation). o.last) j.outstation.outstation) ∙ ap (option_map (last_seen session)) there) (stands.solicited opens').reply

    -- it was a READ
    read : (last : LastRequest) → session.last ≡ Some last → last.reply ≡ Further → q ≡ session.request → ⊥
    read last there further same =
        let more : has_more session.last ≡ true = ap has_more there ∙ ap (λ (r : Reply). has_more (Some (record last { reply = r }))) further
        ∙ either (is_some last.left) in
        is_no_read (ap function_in same ∙ j.outstation.well.order.several more)
      where
        either : (b : Bool) → (b || true) ≡ true
        either true = refl
        either false = refl

    by_reply : (last : LastRequest) → session.last ≡ Some last → (r : Reply) → last.reply ≡ r
        → IsReply l.phase l.current session.request (is_some last.left) (reply_seen session.response r) → q ≡ session.request → ⊥
    by_reply last there Held is reply same = let never : Idle ≡ Received session.request = sym agrees.0 ∙ reply in absurd (cc)
    by_reply last there Silent is reply same = let never : Idle ≡ Received session.request = sym agrees.0 ∙ reply in absurd (cc)
    by_reply last there (First f) is (octets, ids, seq, fin) same =
        let own : seq_in q ≡ s.master.seq = asked_seq s.master.seq t j.number in
        follows_other (seq_of l.current) s.master.seq number (seq ∙ ap seq_in (sym same) ∙ own) (low_number l.current.octets)
    by_reply last there Further is reply same = read last there is same

    by : (o : Option LastRequest) → session.last ≡ o → is_last_request session q ≡ false
    by None there = none_before session q there
    by (Some last) there =
        same_request session q last there
        (by_reply last there last.reply refl (replied last there))

pub other_select : {Sink : Type 0} (others : List Row) (s : LinkState Sink) (l : LawLink) (command : Command) → Joined others s l → CarriesLaw l
    → is_idle s.master ≡ true → s.outstation.core.is_open ≡ true
    → is_last_request s.outstation.core.session (request_octets (request_for s.master.seq (task.Select command))) ≡ false
other_select others s l command =
    other_request others s l (task.Select command) (λ same. let code : 3 ≡ 1 = same in omega (arith, code))

pub other_operate : {Sink : Type 0} (others : List Row) (s : LinkState Sink) (l : LawLink) (command : Command) → Joined others s l → CarriesLaw l
    → is_idle s.master ≡ true → s.outstation.core.is_open ≡ true
    → is_last_request s.outstation.core.session (request_octets (request_for s.master.seq (task.Operate command))) ≡ false
other_operate others s l command =
    other_request others s l (task.Operate command) (λ same. let code : 4 ≡ 1 = same in omega (arith, code))
