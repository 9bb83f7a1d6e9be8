-- One step more.
use Rattle.std.proofs.Common.{◌≡◌, ℕ, ◌+◌, ◌-◌, ◌<◌, ◌≤◌, List, [], ◌∷◌, ◌++◌, length, drop, ◌∙◌, ap, sym, subst, arith, append_assoc}
use Rattle.std.proofs.lemmas.List.{drop-drop, drop_all, length-drop, append-nil}
use Rattle.dnp_linkframe.specs.declared.frame.Frame.{Frame}
use Rattle.dnp_linkframe.specs.Stream.{Waits, IsFront}
use Rattle.dnp_transport.specs.Assembly.{Idle, ArePushed}
use Rattle.dnp_decode.specs.declared.line.Line.{Line}
use Rattle.dnp_decode.specs.declared.line.Line.TheVariants as line
use Rattle.dnp_decode.specs.StreamLines.{AreLines, Ends, Cuts, GoesOn}
use Rattle.dnp_decode.specs.steps.Remembered.{Ports, Remembers}
use Rattle.dnp_decode.specs.steps.Stepped.{Stepped, SoFar}
use Rattle.dnp_decode.proofs.Remembering.{remembers_none}

pub so_far_none : ArePushed [] Idle → (stream : List ℕ) (ports : Ports) → ports.entries ≡ [] → SoFar stream 0 [] ports
so_far_none idle stream ports none = record { within = omega arith; heard = []; remembers = remembers_none idle ports none; rest = λ more lines. lines }

pub so_far_more : (stream : List ℕ) (done n : ℕ) (old new : List Line) (before ports : Ports) → SoFar stream done old before → 0 < n
    → n ≤ length (drop done stream)
    → ((heard : List Frame) → Remembers heard before → Stepped heard (drop done stream) n old new ports) → SoFar stream (done + n) new ports
so_far_more stream done n old new before ports so_far some within does =
    let s = does so_far.heard so_far.remembers in
    record {
      within = let started = so_far.within in omega (arith, length-drop done stream);
      heard = s.after;
      remembers = s.remembers;
      rest = λ more lines.
          let later : AreLines s.after (drop n (drop done stream)) more =
          subst (λ (t : List ℕ). AreLines s.after t more) (sym (drop-drop n done stream)) lines in
          let all : AreLines [] stream (old ++ (s.own ++ more)) =
          so_far.rest (s.own ++ more) (GoesOn so_far.heard s.after (drop done stream) n s.own more s.step some later) in
          subst (λ (xs : List Line). AreLines [] stream xs) (sym (ap (λ (xs : List Line). xs ++ more) s.lines ∙ append_assoc old s.own more)) all;
    }

-- at the end, where octets are left that wait
pub so_far_cut : (stream : List ℕ) (done : ℕ) (lines : List Line) (ports : Ports) → SoFar stream done lines ports → done < length stream
    → IsFront (drop done stream) Waits → AreLines [] stream (lines ++ line.Cut (length stream - done) ∷ [])
so_far_cut stream done lines ports so_far less waits =
    let left : length (drop done stream) ≡ length stream - done = length-drop done stream in
    subst (λ (n : ℕ). AreLines [] stream (lines ++ line.Cut n ∷ [])) left
    (so_far.rest (line.Cut (length (drop done stream)) ∷ []) (Cuts so_far.heard (drop done stream) (omega arith) waits))

-- and where none are left
pub so_far_end : (stream : List ℕ) (done : ℕ) (lines : List Line) (ports : Ports) → SoFar stream done lines ports → length stream ≤ done
    → AreLines [] stream lines
so_far_end stream done lines ports so_far past =
    let none : AreLines so_far.heard (drop done stream) [] =
    subst (λ (t : List ℕ). AreLines so_far.heard t []) (sym (drop_all done stream past)) (Ends so_far.heard) in
    subst (λ (xs : List Line). AreLines [] stream xs) (append-nil lines) (so_far.rest [] none)

-- two lines and then more after those before
pub two_put : (out one two all more : List Line) (x y x' y' : Line) → one ≡ out ++ x ∷ [] → two ≡ one ++ y ∷ [] → all ≡ two ++ more
    → x ≡ x' → y ≡ y' → all ≡ out ++ (x' ∷ y' ∷ more)
two_put out one two all more x y x' y' first second last x_is y_is =
    last ∙ ap (λ (xs : List Line). xs ++ more) (second ∙ ap (λ (xs : List Line). xs ++ y ∷ []) first)
    ∙ append_assoc (out ++ x ∷ []) (y ∷ []) more ∙ append_assoc out (x ∷ []) (y ∷ more)
    ∙ ap (λ (l : Line). out ++ (l ∷ y ∷ more)) x_is ∙ ap (λ (l : Line). out ++ (x' ∷ l ∷ more)) y_is
