-- A task that is refused leaves the link to a substation as it was.
use Rattle.std.proofs.Common.{◌≡◌, ℕ, List, Result, Ok, Err, MatchResult, OnErr, slice_set, ap, ◌∙◌}
use Rattle.std.proofs.lemmas.List.{set-get_or}
use Rattle.dnp_concentrator.specs.Below.{link_in, no_link}
use Rattle.dnp_concentrator.specs.Relaying.{Relaying, asking}
use Rattle.dnp_master.specs.Calls.{ask_answer, asked_by}
use Rattle.dnp_master.specs.declared.fault.AskFault.{AskFault}
use Rattle.dnp_master.specs.declared.task.Task.{Task}

refused_link : (links : List Relaying) (at now : ℕ) (task : Task) (fault : AskFault) → ask_answer (link_in links at).master task ≡ Err fault
    → slice_set links at (asking (link_in links at) now task) ≡ links
refused_link links at now task fault is =
    ap (λ (r : Result (List ℕ) AskFault). slice_set links at (record (link_in links at) { master = asked_by (link_in links at).master now task r })) is
    ∙ set-get_or links at no_link

pub unasked : {A : Type 0} (Told : A → Type 0) (result : Result A AskFault) (X : Type 0) (links links' : List Relaying) (at now : ℕ) (task : Task)
    → MatchResult result Told (λ fault. ask_answer (link_in links at).master task ≡ Err fault)
    → links' ≡ slice_set links at (asking (link_in links at) now task) → (links' ≡ links → X) → OnErr result X
unasked Told (Ok request) X links links' at now task told set_to gives = tt
unasked Told (Err fault) X links links' at now task told set_to gives = gives (set_to ∙ refused_link links at now task fault told)
