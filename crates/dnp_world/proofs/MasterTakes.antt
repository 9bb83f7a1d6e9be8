-- What comes up the lines of a link, and what is made of it at the master's end.
use Rattle.std.proofs.Common.{◌≡◌, ℕ, ◌≤◌, Bool, true, false, List, [], ◌∷◌, ◌++◌, length, ◌⊎◌, inl, inr, Option, Some, None, Result, Ok, Err, IfOk, IfErr, sym, ap, ◌∙◌, subst, arith, refl, append-nil}
use Rattle.std.specs.Prelude.{if◌then◌else◌, option_to_list}
use Rattle.std.proofs.lemmas.List.{length-take}
use Rattle.dnp_objects.specs.declared.row.Row.{Row}
use Rattle.dnp_line.specs.Lines.{LineState, front_of}
use Rattle.dnp_line.specs.Ports.{PortState, IsShown}
use Rattle.dnp_line.specs.Ways.{HearsUnit, HearsIfAny}
use Rattle.dnp_master.specs.declared.actions.MasterActions.{MasterActions}
use Rattle.dnp_master.specs.declared.fault.MasterFault.{MasterFault}
use Rattle.dnp_master.specs.Calls.{Taking, actions_of, receive_of}
use Rattle.dnp_master.specs.Sinks.{IsSinkFault}
use Rattle.dnp_master.specs.State as master
use Rattle.dnp_master.specs.LinkCalls.{PassesOver, TakesResponse, TakesReport}
use Rattle.dnp_concentrator.specs.PerCentre.{at}
use Rattle.dnp_concentrator.specs.declared.per_centre.PerCentre.{PerCentre}
use Rattle.dnp_world.specs.Channels.{ChannelState, GoDown, left_by}
use Rattle.dnp_world.specs.MasterEnds.{AreFew, ComesToMaster, ListsDropped, TakesBy, TakesIn, none_dropped}
use Rattle.dnp_world.specs.Octets.{rows_in}
use Rattle.dnp_world.proofs.OneLinkArrivals.{events_first}
use Rattle.dnp_world.proofs.PerCentre.{at_every, made_there, same_each}

-- ---- the port

-- the front unit is heard, whether it completes a fragment or not
pub heard_unit : (line : LineState) (unit : List ℕ) (old new : PortState) (whole : Bool) → Some unit ≡ front_of line
    → ((given : List (List ℕ)) (fragment : List ℕ) → IsShown new fragment → HearsUnit unit old new given (if whole then given ++ fragment ∷ [] else given))
    → (fragment : List ℕ) → IsShown new fragment → HearsIfAny (front_of line) old new [] (if whole then fragment ∷ [] else [])
heard_unit line unit old new whole front hears fragment shown =
    subst (λ (o : Option (List ℕ)). HearsIfAny o old new [] (if whole then fragment ∷ [] else [])) front (hears [] fragment shown)

-- nothing is heard of a line that is empty
pub heard_none : (line : LineState) (port : PortState) → None ≡ front_of line → HearsIfAny (front_of line) port port [] []
heard_none line port front = subst (λ (o : Option (List ℕ)). HearsIfAny o port port [] []) front (refl, refl)

-- ---- what is taken, and the lines

-- none are dropped
pub none_listed : (old new : PerCentre (List Row)) → new ≡ old → ListsDropped none_dropped old new
none_listed old new same n low =
    ap (λ (t : PerCentre (List Row)). at n t) same ∙ sym (append-nil (at n old))
    ∙ ap (λ (rows : List Row). at n old ++ rows) (sym (made_there (λ _. let none : List Row = [] in none) n low))

-- and the lists are what they were
pub still_listed : (old new : PerCentre (List Row)) → ListsDropped none_dropped old new → new ≡ old
still_listed old new none =
    same_each new old (λ n low. none n low ∙ ap (λ (rows : List Row). at n old ++ rows) (made_there (λ _. let none : List Row = [] in none) n low)
    ∙ append-nil (at n old))

-- the rows that are dropped to either centre are as few as its stores drop for what comes
pub few_dropped : {Station : Type 0} (honest : Station → Type 0) (takes : Taking → Type 0) (drops : Taking → PerCentre (List Row)) (keeps stays : Type 0)
    (s : master.State) (octets : List ℕ) (r : Result Taking MasterFault) (old new : Station) (answer : Result (MasterActions × List Row) MasterFault)
    (a : MasterActions × List Row) (most : ℕ) → IfOk r (λ t. PassesOver s t ⊎ (TakesResponse s octets t ⊎ TakesReport s octets t))
    → ((t : Taking) → length t.events ≤ length (rows_in octets) → AreFew (length t.events) (drops t) → AreFew most (drops t))
    → TakesIn honest takes drops keeps stays r old new answer → answer ≡ Ok a → honest new → (length a.0.dropped ≤ most) × (length a.1 ≤ most)
few_dropped honest takes drops keeps stays s octets (Err fault) old new answer a most law bound call is well =
    let refused : Result (MasterActions × List Row) MasterFault = Err fault in
    let never : refused ≡ Ok a = sym call.refused ∙ is in absurd (cc)
few_dropped honest takes drops keeps stays s octets (Ok t) old new answer a most law bound call is well =
    let of = subst (λ (x : Result (MasterActions × List Row) MasterFault). IfOk x (λ a. (a.0 ≡ actions_of t (drops t).first)
    × (a.1 ≡ (drops t).second) × takes t)) is (call.taken well) in
    let few : length t.events ≤ length (rows_in octets) = omega (
      arith,
      length-take (length t.events) (rows_in octets),
      ap (λ (rows : List Row). length rows) (events_first s octets t law),
    ) in
    let both = bound t few call.few in (
      omega (arith, both 0 (omega arith), ap (λ (x : MasterActions). length x.dropped) of.0),
      omega (arith, both 1 (omega arith), ap (λ (rows : List Row). length rows) of.1),
    )

-- what was taken
pub taken_up : {Station : Type 0} (honest : Station → Type 0) (takes : Taking → Type 0) (drops : Taking → PerCentre (List Row)) (keeps stays : Type 0)
    (r : Result Taking MasterFault) (old new : Station) (answer : Result (MasterActions × List Row) MasterFault) (a : MasterActions × List Row)
    (lines mid last : ChannelState) (before after : PerCentre (List Row))
    → TakesIn honest takes drops keeps stays r old new answer → answer ≡ Ok a → honest new → mid ≡ lines → GoDown (option_to_list a.0.send) mid last
    → after.first ≡ before.first ++ a.0.dropped → after.second ≡ before.second ++ a.1
    → TakesBy r (λ t. takes t × ListsDropped (drops t) before after)
    (stays × ListsDropped none_dropped before after) lines last
taken_up honest takes drops keeps stays (Err fault) old new answer a lines mid last before after call is well same down listed listed_too =
    let refused : Result (MasterActions × List Row) MasterFault = Err fault in
    let never : refused ≡ Ok a = sym call.refused ∙ is in absurd (cc)
taken_up honest takes drops keeps stays (Ok t) old new answer a lines mid last before after call is well same down listed listed_too =
    let of = subst (λ (x : Result (MasterActions × List Row) MasterFault). IfOk x (λ a. (a.0 ≡ actions_of t (drops t).first)
    × (a.1 ≡ (drops t).second) × takes t)) is (call.taken well) in (
      subst (λ (o : Option (List ℕ)). GoDown (option_to_list o) lines last) (ap (λ (x : MasterActions). x.send) of.0)
          (subst (λ (c : ChannelState). GoDown (option_to_list a.0.send) c last) same down),
      (
        of.2,
        at_every _ (listed ∙ ap (λ (x : MasterActions). before.first ++ x.dropped) of.0)
            (listed_too ∙ ap (λ (rows : List Row). before.second ++ rows) of.1),
      ),
    )

-- what the master refused for itself
pub refused_up : {Station : Type 0} (honest : Station → Type 0) (takes : Taking → Type 0) (drops : Taking → PerCentre (List Row)) (keeps stays : Type 0)
    (r : Result Taking MasterFault) (old new : Station) (answer : Result (MasterActions × List Row) MasterFault) (fault : MasterFault)
    (lines last : ChannelState) (before after : PerCentre (List Row))
    → TakesIn honest takes drops keeps stays r old new answer → answer ≡ Err fault → (IsSinkFault fault → ⊥) → honest new → last ≡ lines
    → after ≡ before
    → TakesBy r (λ t. takes t × ListsDropped (drops t) before after)
    (stays × ListsDropped none_dropped before after) lines last
refused_up honest takes drops keeps stays r old new answer fault lines last before after call is none well same listed =
    let named = subst (λ (x : Result (MasterActions × List Row) MasterFault). IfErr x (λ e. (r ≡ Err e) ⊎ IsSinkFault e)) is call.named in
    let own : r ≡ Err fault = elim named [ inl e ↦ e | inr k ↦ absurd (none k) ] in
    let stayed : stays = subst (λ (x : Result Taking MasterFault). IfErr x (λ _. stays)) own (call.unasked well) in
    subst (λ (x : Result Taking MasterFault). TakesBy x (λ t. takes t × ListsDropped (drops t) before after)
    (stays × ListsDropped none_dropped before after) lines last) (sym own)
    (same, (stayed, none_listed before after listed))

-- the line up has then given its front unit
pub settled : (r : Result Taking MasterFault) (takes : Taking → Type 0) (same : Type 0) (repeats : Bool) (old new : ChannelState)
    → TakesBy r takes same old new
    → TakesBy r takes same (record old { up = left_by repeats old.up }) (record new { up = left_by repeats new.up })
settled (Err fault) takes same repeats old new (is, others) = (ap (λ (c : ChannelState). record c { up = left_by repeats c.up }) is, others)
settled (Ok t) takes same repeats old new (down, took) = (
  record {
    sent = down.sent;
    after = ap (λ (c : ChannelState). record c { up = left_by repeats c.up }) down.after;
  },
  took,
)

-- a fragment came up, and was taken in
pub came_whole : (master : master.State) (now : ℕ) (takes : Taking → Type 0) (same : Type 0) (repeats whole : Bool) (fragment : List ℕ)
    (old heard lines last : ChannelState)
    → ((fragment : List ℕ) → IsShown heard.master_port fragment
    → HearsIfAny (front_of old.up) old.master_port heard.master_port [] (if whole then fragment ∷ [] else []))
    → heard ≡ record old { master_port = heard.master_port } → whole ≡ true → IsShown heard.master_port fragment
    → TakesBy (receive_of master now fragment) takes same heard lines → last ≡ record lines { up = left_by repeats lines.up }
    → ComesToMaster (left_by repeats) master now takes same old last
came_whole master now takes same repeats whole fragment old heard lines last hears rest is shown took settles = record {
  port = heard.master_port;
  given = fragment ∷ [];
  heard = subst (λ (b : Bool). HearsIfAny (front_of old.up) old.master_port heard.master_port [] (if b then fragment ∷ [] else [])) is
      (hears fragment shown);
  came = subst (λ (c : ChannelState). TakesBy (receive_of master now fragment) takes same
      (record old { up = left_by repeats old.up; master_port = heard.master_port }) c) (sym settles)
      (subst (λ (c : ChannelState). TakesBy (receive_of master now fragment) takes same (record c { up = left_by repeats c.up })
      (record lines { up = left_by repeats lines.up })) rest (settled (receive_of master now fragment) takes same repeats heard lines took));
}

-- no fragment came to its end
pub came_part : (master : master.State) (now : ℕ) (takes : Taking → Type 0) (same : Type 0) (repeats whole : Bool) (fragment : List ℕ)
    (old heard last : ChannelState)
    → ((fragment : List ℕ) → IsShown heard.master_port fragment
    → HearsIfAny (front_of old.up) old.master_port heard.master_port [] (if whole then fragment ∷ [] else []))
    → heard ≡ record old { master_port = heard.master_port } → whole ≡ false → IsShown heard.master_port fragment → same
    → last ≡ record heard { up = left_by repeats heard.up } → ComesToMaster (left_by repeats) master now takes same old last
came_part master now takes same repeats whole fragment old heard last hears rest is shown kept settles = record {
  port = heard.master_port;
  given = [];
  heard = subst (λ (b : Bool). HearsIfAny (front_of old.up) old.master_port heard.master_port [] (if b then fragment ∷ [] else [])) is
      (hears fragment shown);
  came = (settles ∙ ap (λ (c : ChannelState). record c { up = left_by repeats c.up }) rest, kept);
}
