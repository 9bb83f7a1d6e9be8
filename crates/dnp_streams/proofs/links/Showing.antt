-- The fragment that a port shows stays, whatever it sends.
use Rattle.std.proofs.Common.{◌≡◌, ℕ, List, [], ◌∷◌, length, refl, sym, subst}
use Rattle.dnp_line.specs.Ports.{IsShown, PortState, moved_on}
use Rattle.dnp_linkframe.specs.declared.frame.Frame.{Frame}
use Rattle.dnp_transport.specs.Assembly.{Assembly, ArePushed}
use Rattle.dnp_transport.specs.Cuts.{cut_count}
use Rattle.dnp_streams.specs.streams.Spelled.{port_after}
use Rattle.dnp_streams.specs.links.Deeds.{Came, Reply, Whole, sends}
use Rattle.dnp_streams.specs.links.Links.{Does, LinkState}

same_assembly : (p : PortState) (fs : List (List ℕ)) → (port_after p fs).assembly ≡ p.assembly
same_assembly p [] = refl
same_assembly p (f ∷ fs) = same_assembly (moved_on (cut_count (length f)) p) fs

shown_after : (p : PortState) (fs : List (List ℕ)) (fragment : List ℕ) → IsShown p fragment → IsShown (port_after p fs) fragment
shown_after p fs fragment shown = λ pushed stands. shown pushed (subst (λ (a : Assembly). ArePushed pushed a) (same_assembly p fs) stands)

pub shows_taken : (old new : LinkState) (now : ℕ) (frame : Frame) (fragment : List ℕ) (reply : Reply) → Does old (Came now frame (Whole fragment reply)) new
    → IsShown new.port fragment
shows_taken old new now frame fragment reply does =
    let (taken, heard, answered, takes, whole, shown, (are, moved), both) = does.carries in
    subst (λ (p : PortState). IsShown p fragment) (sym moved) (shown_after heard (sends reply) fragment shown)
