-- A command that is issued at a centre, or that names no output.
use Rattle.std.proofs.Common.{◌≡◌, ℕ, ◌<◌, ◌++◌, Bool, true, false, List, [], ◌∷◌, Option, Some, None, refl, sym, ap, ◌∙◌, subst}
use Rattle.std.specs.Prelude.{IfSome, is_some}
use Rattle.std.proofs.lemmas.Bool.{false≢true}
use Rattle.dnp_concentrator.specs.Centre.{book_of, indices_of, journal_of, link_of}
use Rattle.dnp_concentrator.specs.Mapped.{command_above}
use Rattle.dnp_concentrator.specs.PerCentre.{at, of_each, with_at}
use Rattle.dnp_concentrator.specs.declared.centre.Centre.{Centre}
use Rattle.dnp_concentrator.specs.declared.per_centre.PerCentre.{PerCentre}
use Rattle.dnp_controls.specs.Book.{Ledger, added}
use Rattle.dnp_eventbuf.specs.Archive.{Archive}
use Rattle.dnp_eventbuf.specs.declared.pair.TheConstants.{CENTRES}
use Rattle.dnp_objects.specs.declared.command.Command.{Command}
use Rattle.dnp_objects.specs.declared.limits.TheConstants.{MAX_ID}
use Rattle.dnp_world.specs.Centres.{ChangesAll}
use Rattle.dnp_world.specs.CommandWidths.{HasWidths}
use Rattle.dnp_world.specs.SystemEvents.{IssuesBy}
use Rattle.dnp_world.specs.SystemParts.{centre_of}
use Rattle.dnp_world.specs.Systems.{CentreState, System}
use Rattle.dnp_world.specs.Wholes.{Whole, seen_by}
use Rattle.dnp_world.proofs.CentrePlaces.{centre_there, issued_there}
use Rattle.dnp_world.proofs.PerCentre.{kept_there}
use Rattle.dnp_world.proofs.SystemTasks.{centre_with}

-- it is issued at the centre that a system has
abbrev pub Issues : ℕ → Command → System → System → Type 0
Issues substation command s t = IssuesBy (command_above s.centre.indices substation command) substation command s t

-- one to no output does nothing
idle : (above : Option Command) (substation : ℕ) (command : Command) (s : System) → is_some above ≡ false → IssuesBy above substation command s s
idle None substation command s none = refl
idle (Some above) substation command s none = absurd (false≢true (sym none))

-- one to an output stands in the book, and is listed
stands : {J B : Type 0} (archive : J → Archive) (orders : B → Ledger) (above : Option Command) (substation : ℕ) (command : Command) (rest : System)
    (was k : Centre J B) → is_some above ≡ true → (orders (book_of was)).last_id < MAX_ID → HasWidths command
    → IfSome above (λ its. orders (book_of k) ≡ added (orders (book_of was)) 0 its) → link_of k ≡ link_of was → journal_of k ≡ journal_of was
    → indices_of k ≡ indices_of was
    → IssuesBy above substation command (record rest { centre = centre_of archive orders was }) (record rest {
      centre = centre_of archive orders k;
      history = record rest.history { issued = rest.history.issued ++ (substation, command) ∷ [] };
    })
stands archive orders None substation command rest was k some left widths book link journal indices = absurd (false≢true some)
stands archive orders (Some above) substation command rest was k some left widths book link journal indices = (
  left,
  widths,
  ap (λ (m : CentreState). record rest {
    centre = m;
    history = record rest.history { issued = rest.history.issued ++ (substation, command) ∷ [] };
  }) (centre_with archive orders was k (link_of was) (added (orders (book_of was)) 0 above) link book journal indices),
)

module _ {J B : Type 0} (archive : J → Archive) (orders : B → Ledger) (n : ℕ) (low : n < CENTRES) (rest : Whole) (centres : PerCentre (Centre J B))
    (substation : ℕ) (command : Command) (was : Centre J B) (there : was ≡ at n centres) where
  -- so it is at one that there is: it does nothing
  pub issues_nothing : (has : Bool) → has ≡ is_some (command_above (indices_of was) substation command) → has ≡ false
      → ChangesAll (Some n) (Issues substation command) (record rest { centres = of_each (centre_of archive orders) centres })
      (record rest { centres = of_each (centre_of archive orders) centres })
  issues_nothing has looked none =
      let set : PerCentre (Centre J B) → Whole = λ t. record rest { centres = of_each (centre_of archive orders) t } in
      subst (λ (t : PerCentre (Centre J B)). ChangesAll (Some n) (Issues substation command) (set centres) (set t)) (kept_there n centres was was there refl)
      (centre_there archive orders n low (Issues substation command) rest centres was was there
      (idle (command_above (indices_of was) substation command) substation command _ (sym looked ∙ none)))

  -- or it stands in that one's book
  pub issues_there : (seen k : Centre J B) (has : Bool) (listed items : List (ℕ × Command)) → seen ≡ at n centres
      → has ≡ is_some (command_above (indices_of seen) substation command) → has ≡ true → (orders (book_of was)).last_id < MAX_ID → HasWidths command
      → IfSome (command_above (indices_of was) substation command) (λ above. orders (book_of k) ≡ added (orders (book_of was)) 0 above)
      → link_of k ≡ link_of was → journal_of k ≡ journal_of was → indices_of k ≡ indices_of was
      → listed ≡ rest.history.issued → items ≡ listed ++ (substation, command) ∷ []
      → ChangesAll (Some n) (Issues substation command) (record rest { centres = of_each (centre_of archive orders) centres }) (record rest {
        centres = of_each (centre_of archive orders) (with_at n centres k);
        history = record rest.history { issued = items };
      })
  issues_there seen k has listed items seen_there looked some left widths book link journal indices same put =
      let found : is_some (command_above (indices_of was) substation command) ≡ true = cc in
      rw (put, same)
      (issued_there archive orders n low (Issues substation command) rest centres was k ((substation, command) ∷ []) there
      (stands archive orders (command_above (indices_of was) substation command) substation command (seen_by n rest) was k found left widths book link journal
      indices))
