-- Definition: what steps bring, in numbers.
use Rattle.std.specs.Prelude.{◌≡◌, ℕ, ◌+◌, Bool, true, false, ◌||◌, List, [], ◌∷◌, Ok, Err}
use Rattle.dnp_streams.specs.links.Deeds.{Deed, Part, Whole, Reply, Opened, Came, Ticked, Changed, Asked, Relaid}

-- whether the station closed the connection
abbrev pub is_closing : Reply → Bool
is_closing (Ok answer) = answer.close
is_closing (Err fault) = false

abbrev pub closes : Deed → Bool
closes (Opened now reply) = is_closing reply
closes (Came now frame Part) = false
closes (Came now frame (Whole fragment reply)) = is_closing reply
closes (Ticked now reply) = is_closing reply
closes (Changed now change reply) = is_closing reply
closes (Asked now task reply) = false
closes (Relaid now reply) = false

abbrev pub closed_in : List Deed → Bool
closed_in [] = false
closed_in (deed ∷ deeds) = closes deed || closed_in deeds

-- how many fragments came whole
abbrev pub fragments_of : Deed → ℕ
fragments_of (Came now frame (Whole fragment reply)) = 1
fragments_of _ = 0

abbrev pub fragments_in : List Deed → ℕ
fragments_in [] = 0
fragments_in (deed ∷ deeds) = fragments_of deed + fragments_in deeds

-- how many calls the station refused
abbrev pub is_refusal : Reply → ℕ
is_refusal (Ok answer) = 0
is_refusal (Err fault) = 1

abbrev pub faults_of : Deed → ℕ
faults_of (Opened now reply) = is_refusal reply
faults_of (Came now frame Part) = 0
faults_of (Came now frame (Whole fragment reply)) = is_refusal reply
faults_of (Ticked now reply) = is_refusal reply
faults_of (Changed now change reply) = is_refusal reply
faults_of (Asked now task (Ok request)) = 0
faults_of (Asked now task (Err fault)) = 1
faults_of (Relaid now (Ok relayed)) = 0
faults_of (Relaid now (Err fault)) = 1

abbrev pub faults_in : List Deed → ℕ
faults_in [] = 0
faults_in (deed ∷ deeds) = faults_of deed + faults_in deeds

-- no step comes after one that closed the connection
abbrev pub StopsLast : List Deed → Type 0
StopsLast [] = Unit {0}
StopsLast (deed ∷ deeds) = (closes deed ≡ true → deeds ≡ []) × StopsLast deeds

-- at this moment frames come, and nothing else
abbrev pub AreComings : ℕ → List Deed → Type 0
AreComings now [] = Unit {0}
AreComings now (Came moment frame joined ∷ deeds) = (moment ≡ now) × AreComings now deeds
AreComings now (_ ∷ deeds) = ⊥
