-- What is sent by DIRECT_OPERATE is sent once.
use Rattle.std.proofs.Common.{◌≡◌, ℕ, Bool, true, false, cond, List, refl, ap, ◌∙◌}
use Rattle.std.specs.Prelude.{◌&&◌, ◌||◌}
use Rattle.dnp_master.specs.Calls as calls
use Rattle.dnp_master.specs.State.{is_timed_out}
use Rattle.dnp_master.specs.declared.task.Task.{Task}
use Rattle.dnp_master.specs.declared.task.Task.TheVariants.{Operate, Select}
use Rattle.dnp_objects.specs.declared.command.Command.{Command}
use Rattle.dnp_poll.proofs.Selecting.{sent}
use Rattle.dnp_poll.specs.Instead.{is_barred, is_direct}
use Rattle.dnp_poll.specs.Polls.{AsksPoll, OpensPoll, PollSeen, ReceivesPoll, TicksPoll, Heard, Unheard, Taken, Passed}
use Rattle.dnp_poll.specs.Selecting.{DirectsAlone, DirectsOnce, Lasts, StaysSpent}
use Rattle.dnp_poll.specs.declared.rows.ShownRow.{ShownRow}
use Rattle.dnp_streams.specs.streams.Stations.{Answer}

-- ---- once

unspent : (direct spent : Bool) → direct ≡ true → (direct && spent) ≡ false → spent ≡ false
unspent true spent is e = e
unspent false spent is e = absurd (cc)

spends : (spent direct : Bool) → direct ≡ true → (spent || direct) ≡ true
spends true direct is = refl
spends false direct is = is

pub directs_once : {S : Type 0} → DirectsOnce S
directs_once {S} old new now command request direct asks =
    let s = sent (is_barred old.instead old.is_spent (Select command)) old.instead (Select command)
    (calls.ask_answer old.master (Select command)) request asks.asked in (
      unspent old.instead.direct old.is_spent direct s.0,
      ap (λ (p : PollSeen S). p.is_spent) asks.after ∙ spends old.is_spent old.instead.direct direct,
    )

clash : (direct : Bool) → direct ≡ true → direct ≡ false → ⊥
clash direct is not = absurd (cc)

pub directs_alone : {S : Type 0} → DirectsAlone S
directs_alone {S} old new now command request direct asks =
    let s = sent (is_barred old.instead old.is_spent (Operate command)) old.instead (Operate command)
    (calls.ask_answer old.master (Operate command)) request asks.asked in
    clash old.instead.direct direct s.0

-- ---- it stays so

-- what is equal to one that has the same of both
lasts : {S : Type 0} (old x new : PollSeen S) → x.instead ≡ old.instead → x.is_spent ≡ old.is_spent → new ≡ x → Lasts old new
lasts {S} old x new instead spent e = record {
  instead = ap (λ (p : PollSeen S). p.instead) e ∙ instead;
  spent = λ is. ap (λ (p : PollSeen S). p.is_spent) e ∙ spent ∙ is;
}

still : (spent direct : Bool) → spent ≡ true → (spent || direct) ≡ true
still true direct is = refl
still false direct is = absurd (cc)

asked : {S : Type 0} (old new : PollSeen S) (now : ℕ) (task : Task) (request : List ℕ) → AsksPoll old now task request new → Lasts old new
asked {S} old new now task request asks = record {
  instead = ap (λ (p : PollSeen S). p.instead) asks.after;
  spent = λ is. ap (λ (p : PollSeen S). p.is_spent) asks.after ∙ still old.is_spent (is_direct old.instead task) is;
}

received : {S : Type 0} (shows : S → List ShownRow → S → Type 0) (old new : PollSeen S) (now : ℕ) (octets : List ℕ) (answer : Answer)
    → ReceivesPoll shows old now octets answer new → Lasts old new
received shows old new now octets answer (Heard (Taken a read heeded shown after said)) = lasts old _ new refl refl after
received shows old new now octets answer (Heard (Passed a read unheeded after said)) = lasts old _ new refl refl after
received shows old new now octets answer (Unheard fault stops after said) = lasts old _ new refl refl after

-- at the end of the timer, or before it
by_time : {S : Type 0} (ended : Bool) (old x new : PollSeen S) → x.instead ≡ old.instead → x.is_spent ≡ old.is_spent
    → new ≡ cond ended x old → Lasts old new
by_time true old x new instead spent e = lasts old x new instead spent e
by_time false old x new instead spent e = lasts old old new refl refl e

ticked : {S : Type 0} (old new : PollSeen S) (now : ℕ) (answer : Answer) → TicksPoll old now answer new → Lasts old new
ticked old new now answer ticks = by_time (is_timed_out old.master now) old _ new refl refl ticks.after

opened : {S : Type 0} (old new : PollSeen S) (now : ℕ) (answer : Answer) → OpensPoll old now answer new → Lasts old new
opened old new now answer opens = lasts old _ new refl refl opens.after

pub stays_spent : {S : Type 0} (shows : S → List ShownRow → S → Type 0) → StaysSpent shows
stays_spent shows = record {
  asks = asked;
  receives = received shows;
  ticks = ticked;
  opens = opened;
  hangs_up = λ old. record { instead = refl; spent = λ is. is };
}
