-- It is confirmed, or a stray confirm.
use Rattle.dnp_world.proofs.ControlAnswering.{confirm_leaves}
use Rattle.dnp_world.proofs.control_laws.a_confirmed_report_leaves_a_request.Goals as goal

pub returns-clause-leaves : goal.returns-clause-leaves
returns-clause-leaves c = λ s o now seq last low was. (confirm_leaves c.octets_say_their_control_and_function.ensures.control s o now seq last low was).leaves

pub returns-clause-performs : goal.returns-clause-performs
returns-clause-performs c =
    λ s o now seq last low was. (confirm_leaves c.octets_say_their_control_and_function.ensures.control s o now seq last low was).performs
