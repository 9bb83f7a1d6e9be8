use Rattle.std.proofs.Common.{subst}
use Rattle.dnp_eventbuf.specs.Archive.{IsSoundArchive}
use Rattle.dnp_store.specs.JournalKept.{JournalValue, IsHonestJournal, held_archive}
use Rattle.dnp_store.proofs.JournalStanding.{sound_kept}
use Rattle.dnp_store.proofs.journal.JournalJournalStore.count.Goals as goal

pub returns-clause-sound : goal.returns-clause-sound
returns-clause-sound g c =
    subst (λ (k : JournalValue _). IsHonestJournal g.S.Store k → IsSoundArchive (held_archive g.S.Store k)) c.self.view_is
    (sound_kept g.S.Store _ c.self.invariant)
