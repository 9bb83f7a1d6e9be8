use Rattle.std.proofs.Common.{◌∙◌, sym, ap, ℕ, List, Option, Some}
use Rattle.std.specs.Option.{option_map, option_and_then}
use Rattle.dnp_objects.specs.Relative.{relative_row}
use Rattle.dnp_appfragment.specs.Meaning.{relative_row_in}
use Rattle.dnp_appfragment.specs.Seen.{head}
use Rattle.dnp_appfragment.proofs.RelativeRows.{at_relative, common_small, object_counted}
use Rattle.dnp_appfragment.proofs.objects.relative_row_at.Goals as goal

pub binary_after-requires : goal.binary_after-requires
binary_after-requires c =
    let h = head c.args.header.now in
    record {
      small = common_small h c.args.k c.in_ok-common.common c.requires.relative
          (object_counted h.range h.octets 3 c.args.k _ (sym c.in_ok-index.ensures.value)) (sym c.in_ok-common.ensures);
    }

pub returns : goal.returns
returns c =
    let h = head c.args.header.now in
    ap (λ row. Some row) c.binary_after.ensures
    ∙ ap (option_map (λ (x : ℕ × List ℕ). relative_row x.0 x.1 c.in_ok-common.common)) c.in_ok-index.ensures.value
    ∙ ap (option_and_then (relative_row_in h c.args.k)) c.in_ok-common.ensures
    ∙ sym (at_relative h c.args.k c.requires.relative)

pub returns-in_err-common : goal.returns-in_err-common
returns-in_err-common c =
    let h = head c.args.header.now in
    c.from_residual.ensures ∙ ap (option_and_then (relative_row_in h c.args.k)) c.in_err-common.ensures ∙ sym (at_relative h c.args.k c.requires.relative)

pub returns-in_err-index : goal.returns-in_err-index
returns-in_err-index c =
    let h = head c.args.header.now in
    c.from_residual-in_err-index.ensures
    ∙ ap (option_map (λ (x : ℕ × List ℕ). relative_row x.0 x.1 c.in_ok-common.common)) c.in_err-index.ensures.value
    ∙ ap (option_and_then (relative_row_in h c.args.k)) c.in_ok-common.ensures
    ∙ sym (at_relative h c.args.k c.requires.relative)
