use Rattle.dnp_trace.specs.declared.svg.TheConstants.{BACKGROUND, OPENING, STYLE, VIEW}
use Rattle.dnp_trace.specs.Charts.{chart_head, size_text, view_text}
use Rattle.dnp_trace.proofs.Parts.{five_parts}
use Rattle.dnp_trace.proofs.svg.begin.Goals as goal

pub returns : goal.returns
unfolding chart_head
returns c =
    five_parts _ _ _ _ _ _ OPENING.now (size_text c.args.width c.args.height) (view_text VIEW.now c.args.width c.args.height) STYLE.now
    BACKGROUND.now c.in_ok-word.ensures c.in_ok-put_size.ensures c.in_ok-put_view.ensures c.in_ok-word-2.ensures c.in_ok-word-3.ensures
