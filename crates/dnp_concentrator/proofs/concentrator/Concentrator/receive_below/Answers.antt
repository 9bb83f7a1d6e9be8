use Rattle.std.proofs.Common.{◌≡◌, ◌≢◌, ◌<◌, ℕ, [], List, Ok, false, subst, sym, ap, ◌∙◌, length, get_or, arith}
use Rattle.std.specs.Prelude.{IfOk, Result}
use Rattle.std.proofs.lemmas.List.{get_or_default}
use Rattle.dnp_objects.specs.declared.row.Row.{Row}
use Rattle.dnp_eventbuf.specs.Sides.{BothHave, either_exhausts}
use Rattle.dnp_master.specs.Calls.{receive_of}
use Rattle.dnp_master.specs.Taking.{taking_of}
use Rattle.dnp_concentrator.specs.Below.{no_link}
use Rattle.dnp_concentrator.specs.Concentrator.{link_at, links_of, queued_at, queue_of}
use Rattle.dnp_concentrator.specs.Relaying.{Relaying}
use Rattle.dnp_concentrator.proofs.concentrator.Concentrator.receive_below.Goals as goal

if_ok : {A E : Type 0} (P : A → Type 0) (r : Result A E) (x : A) → r ≡ Ok x → P x → IfOk r P
if_ok P r x same holds = subst (λ y. IfOk y P) (sym same) holds

pub returns-clause-queued : goal.returns-clause-queued
returns-clause-queued g c = λ honest.
    let old = c.args.self.now in
    let inside : c.from.result < length (links_of old) = omega (arith, c.requires) in
    let is : c.index_mut.result.now ≡ link_at old c.args.substation =
    c.index_mut.ensures.value ∙ get_or_default (links_of old) c.from.result c.index_mut.result.now no_link inside
    ∙ ap (λ (n : ℕ). get_or (links_of old) n no_link) c.from.ensures in
    let contents = g.Q.PairLanes.contents in
    let Has : List Row → Type 0 = λ rows. BothHave (contents (queue_of old)) (queued_at old c.args.substation rows)
    (contents (queue_of c.set_above.new.self)) in
    if_ok (λ t. Has t.events) (receive_of (link_at old c.args.substation).master c.args.now c.args.octets.now)
    (taking_of (link_at old c.args.substation).master c.in_ok-taken.taken)
    (subst (λ (r : Relaying). receive_of r.master c.args.now c.args.octets.now ≡ Ok (taking_of r.master c.in_ok-taken.taken)) is
    c.in_ok-taken.ensures.looked.taken)
    (subst Has c.events.ensures.value
    (subst (λ q. BothHave (contents (queue_of old)) (queued_at old c.args.substation c.events.result.now) (contents q)) (sym c.set_above.ensures.queue)
    (c.in_ok-dropped.ensures.queued (subst (λ q. g.Q.PairLanes.honest q) c.set_above.ensures.queue honest))))

pub returns-clause-not_exhausted : goal.returns-clause-not_exhausted
returns-clause-not_exhausted g c = λ honest.
    let old = c.args.self.now in
    let inside : c.from.result < length (links_of old) = omega (arith, c.requires) in
    let is : c.index_mut.result.now ≡ link_at old c.args.substation =
    c.index_mut.ensures.value ∙ get_or_default (links_of old) c.from.result c.index_mut.result.now no_link inside
    ∙ ap (λ (n : ℕ). get_or (links_of old) n no_link) c.from.ensures in
    let fits : List Row → Type 0 = λ rows. rows ≢ []
    → either_exhausts (g.Q.PairLanes.contents (queue_of old)) (queued_at old c.args.substation rows) ≡ false in
    if_ok (λ t. fits t.events) (receive_of (link_at old c.args.substation).master c.args.now c.args.octets.now)
    (taking_of (link_at old c.args.substation).master c.in_ok-taken.taken)
    (subst (λ (r : Relaying). receive_of r.master c.args.now c.args.octets.now ≡ Ok (taking_of r.master c.in_ok-taken.taken)) is
    c.in_ok-taken.ensures.looked.taken)
    (subst fits c.events.ensures.value (c.in_ok-dropped.ensures.not_exhausted (subst (λ q. g.Q.PairLanes.honest q) c.set_above.ensures.queue honest)))
