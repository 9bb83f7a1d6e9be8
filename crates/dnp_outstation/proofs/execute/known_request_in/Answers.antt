use Rattle.std.proofs.Common.{rules, ◌≤◌, ◌<◌, ◌^◌, length, arith}
use Rattle.dnp_appfragment.specs.Whole.{request}
use Rattle.dnp_outstation.proofs.FewHeaders.{few_headers}
use Rattle.dnp_outstation.proofs.execute.known_request_in.Goals as goal

pub returns-clause-few : goal.returns-clause-few
returns-clause-few c =
    let short : length c.args.octets.now < 2 ^ 64 = search rules in
    let few : length c.known_request.result.headers.headers ≤ length c.args.octets.now = few_headers c.args.octets.now (request c.known_request.result) c.known_request.ensures.value in
    omega arith
