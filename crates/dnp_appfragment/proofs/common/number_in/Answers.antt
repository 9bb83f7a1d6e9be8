use Rattle.std.proofs.Common.{◌≡◌, ◌+◌, ◌*◌, ◌∙◌, sym, ap, arith, ℕ, drop}
use Rattle.std.specs.Prelude.{slice_index}
use Rattle.dnp_appfragment.proofs.Timed.{index_of_rest, first_of_rest}
use Rattle.dnp_appfragment.proofs.common.number_in.Goals as goal

pub returns : goal.returns
returns c =
    omega (
      arith,
      c.from_le_bytes.ensures,
      c.octet_at.ensures,
      c.octet_at-2.ensures,
      first_of_rest c.args.octets.now c.args.at,
      index_of_rest c.args.octets.now c.args.at 1,
    )
