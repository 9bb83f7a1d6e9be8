-- Definition: what each call of an outstation's side makes of it, and of the station that is lent to it.
use Rattle.std.specs.Prelude.{◌≡◌, ◌⊎◌, ℕ, true, false, min, length, List, [], ◌∷◌, None, if◌then◌else◌, IfSome}
use Rattle.dnp_streams.specs.links.Deeds.{Opened, Reply, Ways}
use Rattle.dnp_streams.specs.links.Laws.{Fed, Handed, Made}
use Rattle.dnp_streams.specs.links.Links.{new_link}
use Rattle.dnp_nodes.specs.Callees.{Calls, IsCut, Rests, has_operated, is_up, link_of, over_budget, plan_of, port_of, want_of}
use Rattle.dnp_nodes.specs.declared.callee.Callee.{Callee}
use Rattle.dnp_nodes.specs.declared.slot.Closing.TheVariants.{Memory}

-- a connection was made
pub record IsOpened {S : Type 0} (w : Ways S) (hung_up_of : S → S) (honest : Type 0) (now : ℕ) (old : Callee) (s : S) (new : Callee) (s' : S) : Type 0 where
  pub opened : (reply : Reply) × (Calls w hung_up_of honest now (Made (Opened now reply) ∷ []) (new_link (port_of old)) None old s new s')
  pub rests : is_up new ≡ true → Rests new
  pub plan : plan_of new ≡ plan_of old

-- octets came
pub record IsFed {S : Type 0} (w : Ways S) (hung_up_of : S → S) (honest : Type 0) (now : ℕ) (octets : List ℕ) (old : Callee) (s : S) (new : Callee) (s' : S) : Type 0 where
  pub fed : is_up old ≡ true → (IsCut hung_up_of honest Memory old s new s')
      ⊎ Calls w hung_up_of honest now (Fed octets ∷ []) (link_of old) (want_of old) old s new s'
  pub unconnected : is_up old ≡ false → (new ≡ old) × (s' ≡ s)
  pub rests : is_up new ≡ true → Rests new
  pub plan : plan_of new ≡ plan_of old

-- octets were taken
pub record IsHanded {S : Type 0} (w : Ways S) (hung_up_of : S → S) (honest : Type 0) (now count : ℕ) (old : Callee) (s : S) (new : Callee) (s' : S) : Type 0 where
  pub handed : is_up old ≡ true → Calls w hung_up_of honest now (Handed (min count (length (link_of old).pending)) ∷ []) (link_of old) (want_of old) old s new s'
  pub unconnected : is_up old ≡ false → (new ≡ old) × (s' ≡ s)
  pub rests : is_up new ≡ true → Rests new
  pub plan : plan_of new ≡ plan_of old

-- the connection ended
pub record IsClosed {S : Type 0} (hung_up_of : S → S) (honest : Type 0) (old : Callee) (s : S) (new : Callee) (s' : S) : Type 0 where
  pub unconnected : is_up new ≡ false
  pub want : want_of new ≡ None
  pub operated : has_operated new ≡ has_operated old
  pub hung_up : honest → s' ≡ (if is_up old then hung_up_of s else s)
  pub plan : plan_of new ≡ plan_of old

-- time passed
pub record IsTicked {S : Type 0} (w : Ways S) (hung_up_of : S → S) (honest : Type 0) (now : ℕ) (old : Callee) (s : S) (new : Callee) (s' : S) : Type 0 where
  pub over : is_up old ≡ true → IfSome (over_budget old now) (λ cause. IsCut hung_up_of honest cause old s new s')
  pub in_time : is_up old ≡ true → over_budget old now ≡ None → Calls w hung_up_of honest now [] (link_of old) (want_of old) old s new s'
  pub unconnected : is_up old ≡ false → (new ≡ old) × (s' ≡ s)
  pub rests : is_up new ≡ true → Rests new
  pub plan : plan_of new ≡ plan_of old
