-- Definition: how lines are coloured: red for what failed or may be lost, green for what is well again, yellow for what may need a look.
use Rattle.dnp_terminal.specs.declared.tone.Tone.{Tone}
use Rattle.dnp_terminal.specs.declared.tone.Tone.TheVariants as tone
use Rattle.dnp_notices.specs.declared.standing.LinkNotice.{LinkNotice}
use Rattle.dnp_notices.specs.declared.standing.LinkNotice.TheVariants as link
use Rattle.dnp_notices.specs.declared.control.ControlNotice.{ControlNotice}
use Rattle.dnp_notices.specs.declared.control.ControlNotice.TheVariants as control

abbrev pub link_tone : LinkNotice → Tone
link_tone (link.Lost last trouble) = tone.Fault
link_tone (link.Still last trouble) = tone.Fault
link_tone (link.Back ms polls) = tone.Good

-- a refused control has not operated; after the other red ones it may have
abbrev pub control_tone : ControlNotice → Tone
control_tone (control.Selected id) = tone.Plain
control_tone (control.Done id) = tone.Good
control_tone (control.Postponed id) = tone.Warning
control_tone (control.Again id) = tone.Warning
control_tone (control.NotSelected id status) = tone.Fault
control_tone (control.NotDone id status) = tone.Fault
control_tone (control.SelectUnlike id) = tone.Fault
control_tone (control.OperateUnlike id) = tone.Fault
control_tone (control.Unknown id) = tone.Fault
