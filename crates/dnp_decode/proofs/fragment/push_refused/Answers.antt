-- What was read of the longest beginning, and then the refusal.
use Rattle.std.proofs.Common.{ℕ, List, [], ◌∷◌, ◌++◌, refl, ap, ◌∙◌, append_assoc}
use Rattle.dnp_decode.specs.declared.line.Line.{Line}
use Rattle.dnp_decode.specs.declared.line.Line.TheVariants as line
use Rattle.dnp_decode.specs.FragmentLines.{said_lines, fault_place, IsBegun, IsRefused}
use Rattle.dnp_decode.proofs.fragment.push_refused.Goals as goal

pub returns-in_ok-push-in-Some : goal.returns-in_ok-push-in-Some
returns-in_ok-push-in-Some c =
    let found = c.in-Some.ensures.found in
    let refused : List Line = line.FragmentRefused c.args.fault c.in-Some.place ∷ [] in (
      said_lines found.0 ++ refused,
      IsBegun found.0 c.in-Some.place c.args.fault c.requires found.1 refl,
      c.in_ok-push-in-Some.ensures.items ∙ ap (λ (xs : List Line). xs ++ refused) (c.in_ok-push_read-in-Some.ensures found.0 found.1.says)
          ∙ append_assoc c.args.out.now.items (said_lines found.0) refused,
    )

pub returns-in_ok-push-in-None : goal.returns-in_ok-push-in-None
returns-in_ok-push-in-None c = (
  line.FragmentRefused c.args.fault (fault_place c.args.fault c.args.octets.now) ∷ [],
  IsRefused c.args.fault c.requires c.in-None.ensures.none refl,
  c.in_ok-push-in-None.ensures.items
      ∙ ap (λ (place : ℕ). c.args.out.now.items ++ line.FragmentRefused c.args.fault place ∷ []) c.fault_place-place.ensures,
)
