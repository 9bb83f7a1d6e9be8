-- What happens to a log keeps whether it is cut.
use Rattle.std.proofs.Common.{◌≡◌, ℕ, zero, suc, Bool, List, [], ◌∷◌, Option, Some, None, refl, ◌∙◌}
use Rattle.dnp_trace.specs.declared.noted.Course.{Course}
use Rattle.dnp_trace.specs.declared.noted.What.{What}
use Rattle.dnp_trace.specs.declared.noted.Standing.{Standing}
use Rattle.dnp_trace.specs.Logs.{Noted, came_at, came, came_to, front_place, shown, times}
use Rattle.std.proofs.Common.{slice_get}

pub came_at_cut : (place : ℕ) (front : Option Standing) (fate : What) (log : Noted) → (came_at place front fate log).cut ≡ log.cut
came_at_cut place None fate log = refl
came_at_cut place (Some front) fate log = refl

pub came_cut : (place : Option ℕ) (fate : What) (log : Noted) → (came place fate log).cut ≡ log.cut
came_cut None fate log = refl
came_cut (Some place) fate log = came_at_cut place (slice_get log.standing place) fate log

pub came_to_cut : (line : ℕ) (fate : What) (log : Noted) → (came_to line fate log).cut ≡ log.cut
came_to_cut line fate log = came_cut (front_place line log) fate log

pub times_cut : (n : ℕ) (f : Noted → Noted) (log : Noted) → ((l : Noted) → (f l).cut ≡ l.cut) → (times n f log).cut ≡ log.cut
times_cut zero f log keeps = refl
times_cut (suc n) f log keeps = keeps (times n f log) ∙ times_cut n f log keeps

pub shown_cut : (number : Option ℕ) (octets : Option (List ℕ)) (log : Noted) → (shown number octets log).cut ≡ log.cut
shown_cut None octets log = refl
shown_cut (Some number) None log = refl
shown_cut (Some number) (Some octets) log = refl
