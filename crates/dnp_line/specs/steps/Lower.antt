-- Private steps: the laws of the crates below on which the law of a line rests.
use Rattle.std.specs.Prelude.{◌≡◌, ℕ, true, List, [], ◌∷◌, length}
use Rattle.dnp_linkframe.specs.Frames.{Spells}
use Rattle.dnp_linkframe.specs.declared.frame.Frame.{Frame}
use Rattle.dnp_linkstation.specs.Control.{primary_function}
use Rattle.dnp_linkstation.specs.Station.{Ends, opposite, is_for, sent}
use Rattle.dnp_linkstation.specs.declared.function.PrimaryFunction.TheVariants.{UnconfirmedUserData}
use Rattle.dnp_transport.specs.Assembly.{Idle, ArePushed}
use Rattle.dnp_transport.specs.Cuts.{cut_count, begun_cuts}
use Rattle.dnp_transport.specs.Laws.{CutsGiveWhole, SaysItsPlace, OpenBy, WholeBy}
use Rattle.dnp_transport.specs.Series.{joined, IsOpen, IsWhole}

pub record Lower : Type 0 where
  -- a unit spells one frame
  pub one_frame : (unit : List ℕ) (frame other : Frame) → Spells unit frame → Spells unit other → frame ≡ other
  -- the frame in which a station sends user data is for its peer, and is one of UNCONFIRMED_USER_DATA
  pub to_peer : (e : Ends) (user : List ℕ) → (is_for (opposite e) (sent e user) ≡ true) × (primary_function (sent e user).control ≡ UnconfirmedUserData)
  pub gives : CutsGiveWhole
  pub places : (fragment : List ℕ) (first k : ℕ) → SaysItsPlace fragment first k
  pub joins : (fragment : List ℕ) (first : ℕ) → joined (begun_cuts fragment first (cut_count (length fragment))) ≡ fragment
  pub opens : (before series : List (List ℕ)) (segment : List ℕ) → IsOpen (segment ∷ before) series → OpenBy before segment series
  pub completes : (before : List (List ℕ)) (segment fragment : List ℕ) → IsWhole (segment ∷ before) fragment → WholeBy before segment fragment
  pub none_open : (series : List (List ℕ)) → IsOpen [] series → ⊥
  pub idle : ArePushed [] Idle
