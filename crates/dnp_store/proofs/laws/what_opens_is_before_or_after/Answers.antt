use Rattle.dnp_store.proofs.Once.{one_buffer, one_archive, one_ledger, one_pair, of_two}
use Rattle.dnp_store.proofs.laws.what_opens_is_before_or_after.Goals as goal

pub returns-clause-buffer : goal.returns-clause-buffer
returns-clause-buffer c = λ db before after opened sound sounds soundly left holds.
    of_two (one_buffer db opened before soundly sound holds) (one_buffer db opened after soundly sounds holds) left

pub returns-clause-sides : goal.returns-clause-sides
returns-clause-sides c = λ db before after opened sound sounds soundly left holds.
    of_two (one_pair db opened before soundly sound holds) (one_pair db opened after soundly sounds holds) left

pub returns-clause-archive : goal.returns-clause-archive
returns-clause-archive c = λ db before after opened left holds.
    of_two (one_archive db opened before holds) (one_archive db opened after holds) left

pub returns-clause-ledger : goal.returns-clause-ledger
returns-clause-ledger c = λ db before after opened sound sounds soundly left holds.
    of_two (one_ledger db opened before soundly sound holds) (one_ledger db opened after soundly sounds holds) left
