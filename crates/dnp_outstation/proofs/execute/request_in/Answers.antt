use Rattle.std.proofs.Common.{rules, ◌≤◌, ◌<◌, ◌^◌, length, arith}
use Rattle.dnp_appfragment.specs.Whole.{request}
use Rattle.dnp_outstation.proofs.FewHeaders.{few_headers}
use Rattle.dnp_outstation.proofs.execute.request_in.Goals as goal

pub returns-clause-few : goal.returns-clause-few
returns-clause-few c =
    let short : length c.args.octets.now < 2 ^ 64 = search rules in
    let few : length c.in_ok-request.request.headers.headers ≤ length c.args.octets.now = few_headers c.args.octets.now (request c.in_ok-request.request) c.in_ok-request.ensures.value in
    omega arith
