-- Definition: what each call of a master's side makes of it, and of the station that is lent to it.
use Rattle.std.specs.Prelude.{◌≡◌, ◌⊎◌, ℕ, true, false, min, length, List, [], ◌∷◌, None, if◌then◌else◌, is_some, IfSome}
use Rattle.dnp_streams.specs.links.Deeds.{Opened, Reply, Ticked, Ways}
use Rattle.dnp_streams.specs.links.Laws.{Fed, Handed, Made}
use Rattle.dnp_streams.specs.links.Links.{HasRoom, new_link}
use Rattle.dnp_nodes.specs.Callers.{Calls, IsCut, IsKept, IsWaiting, Rests, basis_of, closed, has_stored, is_up, link_of, over_budget, pace_of, port_of, schedule_of, want_of}
use Rattle.dnp_nodes.specs.declared.caller.Caller.{Caller}
use Rattle.dnp_nodes.specs.declared.slot.Closing.TheVariants.{Memory}

-- a connection was made
pub record IsOpened {S : Type 0} (w : Ways S) (hung_up_of : S → S) (honest : Type 0) (now : ℕ) (old : Caller) (s : S) (new : Caller) (s' : S) : Type 0 where
  pub opened : (reply : Reply) × (Calls w hung_up_of honest now (Made (Opened now reply) ∷ []) (new_link (port_of old)) None old s new s')
  pub rests : is_up new ≡ true → Rests new now
  pub basis : basis_of new ≡ basis_of old

-- octets came
pub record IsFed {S : Type 0} (w : Ways S) (hung_up_of : S → S) (honest : Type 0) (now : ℕ) (octets : List ℕ) (old : Caller) (s : S) (new : Caller) (s' : S) : Type 0 where
  pub fed : is_up old ≡ true → (IsCut hung_up_of honest Memory old s new s')
      ⊎ Calls w hung_up_of honest now (Fed octets ∷ []) (link_of old) (want_of old) old s new s'
  pub unconnected : is_up old ≡ false → (new ≡ old) × (s' ≡ s)
  pub rests : is_up new ≡ true → Rests new now
  pub basis : basis_of new ≡ basis_of old

-- octets were taken
pub record IsHanded {S : Type 0} (w : Ways S) (hung_up_of : S → S) (honest : Type 0) (now count : ℕ) (old : Caller) (s : S) (new : Caller) (s' : S) : Type 0 where
  pub handed : is_up old ≡ true → Calls w hung_up_of honest now (Handed (min count (length (link_of old).pending)) ∷ []) (link_of old) (want_of old) old s new s'
  pub unconnected : is_up old ≡ false → (new ≡ old) × (s' ≡ s)
  pub rests : is_up new ≡ true → Rests new now
  pub basis : basis_of new ≡ basis_of old

-- the connection ended, or did not come about
pub record IsClosed {S : Type 0} (hung_up_of : S → S) (honest : Type 0) (now : ℕ) (old : Caller) (s : S) (new : Caller) (s' : S) : Type 0 where
  pub schedule : schedule_of new ≡ closed (schedule_of old) now (pace_of old)
  pub want : want_of new ≡ None
  pub stored : has_stored new ≡ has_stored old
  pub hung_up : honest → s' ≡ (if is_up old then hung_up_of s else s)
  pub basis : basis_of new ≡ basis_of old

-- time passed
pub record IsTicked {S : Type 0} (w : Ways S) (hung_up_of : S → S) (honest : Type 0) (now : ℕ) (old : Caller) (s : S) (new : Caller) (s' : S) : Type 0 where
  pub waited : is_up old ≡ false → IsWaiting old now new × (s' ≡ s)
  pub over : is_up old ≡ true → IfSome (over_budget old now) (λ cause. IsCut hung_up_of honest cause old s new s')
  pub passes : is_up old ≡ true → over_budget old now ≡ None → HasRoom (link_of old) → (reply : Reply)
      × (Calls w hung_up_of honest now (Made (Ticked now reply) ∷ []) (link_of old) (want_of old) old s new s')
  pub full : is_up old ≡ true → over_budget old now ≡ None → (HasRoom (link_of old) → ⊥) → IsKept old new × (honest → s' ≡ s)
  pub rests : is_up new ≡ true → Rests new now
  pub basis : basis_of new ≡ basis_of old
