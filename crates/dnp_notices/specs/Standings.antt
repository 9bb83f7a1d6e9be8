-- Definition: whether a station that is polled again and again answers, and what a log says of that.
use Rattle.std.specs.Prelude.{ℕ, ◌+◌, ◌-◌, ◌^◌, min, Bool, true, false, if◌then◌else◌, Option, Some, None}
use Rattle.dnp_notices.specs.declared.standing.Failing.{Failing}
use Rattle.dnp_notices.specs.declared.standing.Failing.TheVariants as fails
use Rattle.dnp_notices.specs.declared.standing.LinkNotice.{LinkNotice}
use Rattle.dnp_notices.specs.declared.standing.LinkNotice.TheVariants as says
use Rattle.dnp_notices.specs.declared.standing.Poll.{Poll}
use Rattle.dnp_notices.specs.declared.standing.Standing.{Standing}
use Rattle.dnp_notices.specs.declared.standing.Standing.TheVariants.{There, Lost}
use Rattle.dnp_notices.specs.declared.standing.Trouble.{Trouble}
use Rattle.dnp_notices.specs.declared.standing.Trouble.TheVariants.{Unreached, Silent, Ended, Refused, Unlike, Strange, Unread, Unwritten, Endless}
use Rattle.dnp_notices.specs.declared.exchange.Mismatch.{Mismatch}
use Rattle.dnp_notices.specs.declared.refusal.Refusal.{Refusal}
use Rattle.dnp_notices.specs.declared.standing.Last.{Last}
use Rattle.dnp_notices.specs.declared.strange.Strange.{Strange as Stranger}
use Rattle.dnp_notices.specs.Exchanges.{mismatch_eq}
use Rattle.dnp_notices.specs.Refusals.{refusal_eq}
use Rattle.dnp_notices.specs.Strange.{is_same}

-- ---- why a poll was not answered

-- what came in its place is told, or that a station that was waited for too long was silent
abbrev pub of_strange : Option Stranger → Trouble
of_strange (Some strange) = Strange strange
of_strange None = Silent

-- a response that is not the awaited one is told before all else; a station that was not waited for too long hung up
abbrev pub of_mismatch : Option Mismatch → Option Stranger → Bool → Trouble
of_mismatch (Some mismatch) strange is_late = Unlike mismatch
of_mismatch None strange is_late = if is_late then of_strange strange else Ended

-- what was refused is told before that something was missing
abbrev pub trouble_of : Option Refusal → Option Mismatch → Option Stranger → Bool → Bool → Option Trouble
trouble_of (Some refusal) mismatch strange is_answered is_late = Some (Refused refusal)
trouble_of None mismatch strange is_answered is_late = if is_answered then None else Some (of_mismatch mismatch strange is_late)

-- ---- whether a trouble is another one than the last

abbrev pub failing_eq : Failing → Failing → Bool
failing_eq fails.Refused fails.Refused = true
failing_eq fails.Late fails.Late = true
failing_eq fails.NoWay fails.NoWay = true
failing_eq fails.Other fails.Other = true
failing_eq _ _ = false

abbrev pub trouble_eq : Trouble → Trouble → Bool
trouble_eq (Unreached one) (Unreached two) = failing_eq one two
trouble_eq Silent Silent = true
trouble_eq Ended Ended = true
trouble_eq (Refused one) (Refused two) = refusal_eq one two
trouble_eq (Unlike one) (Unlike two) = mismatch_eq one two
trouble_eq (Strange one) (Strange two) = is_same one two
trouble_eq (Unread one) (Unread two) = failing_eq one two
trouble_eq (Unwritten one) (Unwritten two) = failing_eq one two
trouble_eq Endless Endless = true
trouble_eq _ _ = false

-- ---- how it stands

-- one more, but no more than a count has room for
abbrev pub one_more : ℕ → ℕ
one_more tries = min (tries + 1) (2 ^ 64 - 1)

-- from its last good answer on, or, where it gave none, from the beginning of the first try
abbrev pub since_by : Option Last → ℕ → ℕ
since_by (Some last) begun = last.moment
since_by None begun = begun

abbrev pub since : Poll → ℕ
since poll = since_by poll.last poll.begun

-- a station is lost with the first poll that is not answered, for as long as none is
abbrev pub lost_after : Standing → Poll → Trouble → Standing
lost_after There poll trouble = Lost (since poll) 1 trouble
lost_after (Lost since tries known) poll trouble = Lost since (one_more tries) trouble

abbrev pub after_by : Standing → Poll → Option Trouble → Standing
after_by standing poll None = There
after_by standing poll (Some trouble) = lost_after standing poll trouble

abbrev pub after : Standing → Poll → Standing
after standing poll = after_by standing poll poll.trouble

-- ---- what is said of it

-- when it gave its last good answer, if it gave one
abbrev pub utc_of : Option Last → Option ℕ
utc_of (Some last) = Some last.utc
utc_of None = None

abbrev pub last_utc : Poll → Option ℕ
last_utc poll = utc_of poll.last

-- that it is lost, and when it gave its last good answer; while it is lost, why, where the reason is another one
abbrev pub lost_notice : Standing → Poll → Trouble → Option LinkNotice
lost_notice There poll trouble = Some (says.Lost (last_utc poll) trouble)
lost_notice (Lost since tries known) poll trouble = if trouble_eq known trouble then None else Some (says.Still (last_utc poll) trouble)

-- that it is back, after how long, and how many polls were not answered
abbrev pub there_notice : Standing → Poll → Option LinkNotice
there_notice There poll = None
there_notice (Lost since tries known) poll = Some (says.Back (poll.ended - since) tries)

abbrev pub notice_by : Standing → Poll → Option Trouble → Option LinkNotice
notice_by standing poll None = there_notice standing poll
notice_by standing poll (Some trouble) = lost_notice standing poll trouble

abbrev pub notice : Standing → Poll → Option LinkNotice
notice standing poll = notice_by standing poll poll.trouble
