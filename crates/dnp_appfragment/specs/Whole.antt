-- Definition: a request and a response as they were read.
use Rattle.dnp_appfragment.specs.declared.request.Request.{Request}
use Rattle.dnp_appfragment.specs.declared.response.Response.{Response}
use Rattle.dnp_appfragment.specs.Fragments.{Asked, Answered}

abbrev pub request : Request → Asked
request r = record { control = r.control; function = r.function; headers = r.headers.headers }

abbrev pub response : Response → Answered
response r = record { control = r.control; function = r.function; iin = r.iin; headers = r.headers.headers }
