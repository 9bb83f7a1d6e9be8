use Rattle.dnp_store.proofs.Once.{one_buffer, one_archive, one_ledger, one_pair}
use Rattle.dnp_store.proofs.laws.a_database_holds_one_content.Goals as goal

pub returns-clause-buffer : goal.returns-clause-buffer
returns-clause-buffer c = one_buffer

pub returns-clause-sides : goal.returns-clause-sides
returns-clause-sides c = one_pair

pub returns-clause-archive : goal.returns-clause-archive
returns-clause-archive c = one_archive

pub returns-clause-ledger : goal.returns-clause-ledger
returns-clause-ledger c = one_ledger
