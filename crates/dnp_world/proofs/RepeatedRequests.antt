-- The READ of an idle master is the last request again only where the response to that went past its first fragment.
use Rattle.std.proofs.Common.{◌≡◌, ℕ, ◌<◌, Bool, true, false, List, Option, Some, IfSome, is_none, is_some, option_map, refl, sym, ap, ◌∙◌, subst, arith}
use Rattle.std.proofs.lemmas.Bool.{and_parts}
use Rattle.dnp_master.specs.State as master
use Rattle.dnp_outstation.specs.Connection.{case_of, is_last_request}
use Rattle.dnp_outstation.specs.Links.{CaseSays, ComesAgain}
use Rattle.dnp_outstation.specs.Polled.{poll_octets}
use Rattle.dnp_outstation.specs.State.{Core, State}
use Rattle.dnp_outstation.specs.declared.case.Case.{Case}
use Rattle.dnp_outstation.specs.declared.session.LastRequest.{LastRequest}
use Rattle.dnp_outstation.specs.declared.session.Reply.{Reply}
use Rattle.dnp_outstation.specs.declared.session.Reply.TheVariants.{First, Further, Held, Silent}
use Rattle.dnp_world.specs.LawLink as link
use Rattle.dnp_world.specs.LawLink.{Continuing, SentFragment, Idle, LawLink, LawMaster, LawOutstation, Phase, Received, Requested, Responding, seq_of}
use Rattle.dnp_world.specs.MasterSeen.{master_of}
use Rattle.dnp_world.specs.Octets.{after, seq_in}
use Rattle.dnp_world.specs.OutstationSeen.{Shows, last_seen, reply_seen}
use Rattle.dnp_world.specs.Standing.{Agrees, IsReply, CarriesLaw}
use Rattle.dnp_world.proofs.RepeatedPoll.{WentOn}
use Rattle.dnp_world.proofs.RoundExchange.{AgainLaw}
use Rattle.dnp_world.proofs.PlannedLanes.{some_one}
use Rattle.dnp_world.proofs.MasterAsks.{not_busy}

-- what the crate of outstations promises of each case
abbrev pub CaseLaw : Type 0
CaseLaw = (c : Core) (octets : List ℕ) → CaseSays c octets (case_of c octets)

-- the master awaits nothing, so the two have come to the end of a response
record AtEnd (phase : Phase) (c : SentFragment) (m : LawMaster) : Type 0 where
  idle : phase ≡ Idle
  seq : m.seq ≡ after (seq_of c)

at_end : (phase : Phase) (c : SentFragment) (m : LawMaster) → m.is_busy ≡ false → Agrees phase c m → AtEnd phase c m
at_end Idle c m idle agrees = record { idle = refl; seq = agrees.1 }
at_end (Requested q) c m idle agrees = absurd (let b : m.is_busy ≡ true = agrees.0 in cc)
at_end (Received q) c m idle agrees = absurd (let b : m.is_busy ≡ true = agrees.0 in cc)
at_end Responding c m idle agrees = absurd (let b : m.is_busy ≡ true = agrees.0 in cc)
at_end Continuing c m idle agrees = absurd (let b : m.is_busy ≡ true = agrees.0 in cc)

-- a first fragment would have the number before, and so would the READ
only_further : (reply : Reply) (response q : List ℕ) (more : Bool) (phase : Phase) (c : SentFragment) (m : LawMaster) → AtEnd phase c m → seq_in q ≡ m.seq
    → m.seq < 16 → IsReply phase c q more (reply_seen response reply) → reply ≡ Further
only_further Held response q more phase c m at same low is = absurd (let e : Idle ≡ Received q = sym at.idle ∙ is in cc)
only_further Silent response q more phase c m at same low is = absurd (let e : Idle ≡ Received q = sym at.idle ∙ is in cc)
only_further (First f) response q more phase c m at same low is =
    let n : seq_of c ≡ m.seq = is.2 ∙ same in
    absurd (omega (arith, n, at.seq, low))
only_further Further response q more phase c m at same low is = refl

poll_seq : (seq : ℕ) → seq < 16 → seq_in (poll_octets seq) ≡ seq
unfolding seq_in
poll_seq seq low = omega (arith, low)

pub went_on : AgainLaw → CaseLaw → (s : State) (m : master.State) (l : LawLink) → Shows s l → l.master ≡ master_of m → CarriesLaw l → s.core.is_open ≡ true
    → master.is_idle m ≡ true → m.seq < 16 → is_last_request s.core.session (poll_octets m.seq) ≡ true → WentOn s
went_on recognized law s m l shows master_is stands opens idle low again =
    let comes : ComesAgain s.core (poll_octets m.seq) =
    subst (λ (x : Case). CaseSays s.core (poll_octets m.seq) x) (recognized s.core m.seq low opens again) (law s.core (poll_octets m.seq)) in
    let last = some_one s.core.session.last comes.has_last in
    let parts = and_parts m.is_open (is_none m.request) idle in
    let open_below : l.outstation.is_open ≡ true = sym (ap (λ (o : LawOutstation). o.is_open) shows.outstation) ∙ opens in
    let open_above : l.master.is_open ≡ true = ap (λ (x : LawMaster). x.is_open) master_is ∙ parts.0 in
    let busy : l.master.is_busy ≡ false = ap (λ (x : LawMaster). x.is_busy) master_is ∙ not_busy m.request parts.1 in
    let seq : l.master.seq ≡ m.seq = ap (λ (x : LawMaster). x.seq) master_is in
    let seen : l.outstation.last ≡ Some (last_seen s.core.session last.0) =
    sym (ap (λ (o : LawOutstation). o.last) shows.outstation) ∙ ap (option_map (last_seen s.core.session)) last.1 in
    let q : List ℕ = s.core.session.request in
    let reply : IsReply l.phase l.current q (is_some last.0.left) (reply_seen s.core.session.response last.0.reply) =
    subst (λ (x : Option link.LastRequest). IfSome x (λ a. IsReply l.phase l.current a.request a.more a.reply)) seen (stands.solicited open_below).reply in
    record {
      last = last.0;
      is = last.1;
      further = only_further last.0.reply s.core.session.response q (is_some last.0.left) l.phase l.current l.master
          (at_end l.phase l.current l.master busy (stands.agrees open_below open_above))
          (ap seq_in (sym comes.same) ∙ poll_seq m.seq low ∙ sym seq) (subst (λ (n : ℕ). n < 16) (sym seq) low) reply;
    }
