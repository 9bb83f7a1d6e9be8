use Rattle.std.proofs.Common.{◌≡◌, ℕ, ◌<◌, max, not, true, false, ◌||◌, arith, sym, ◌∙◌, ap, length, get_or}
use Rattle.dnp_daemons.specs.Words.{words_of}
use Rattle.dnp_daemons.specs.declared.script.forms.Form.{Form}
use Rattle.dnp_daemons.specs.declared.script.forms.Form.TheVariants as forms
use Rattle.dnp_daemons.specs.steps.Forms.{all_forms, allows, slots_of, taken}
use Rattle.dnp_daemons.proofs.LineStops.{gentle_allowed, harsh_refused, one_form_more, one_form_passed_over}
use Rattle.dnp_daemons.proofs.script.reason.good_words.Goals as goal
use Rattle.dnp_daemons.proofs.script.reason.good_words.Goals.{else-carried-via-then-carried+else-not-is_gentle, else-carried-via-else-carried, then-most-count, else-most-count}

pub loop-form-preserved : goal.loop-form-preserved
loop-form-preserved c =
    let counts : Form → ℕ = λ form. taken c.args.substations (words_of c.args.line.now) (slots_of form) in
    let form : Form = get_or all_forms c.loop-form.form-index forms.Open in
    let count : c.taken-count.result ≡ counts form = c.taken-count.ensures.exact ∙ ap (taken c.args.substations (words_of c.args.line.now)) c.slots.ensures in
    let pass : allows c.args.carried form ≡ true = elim c.else-carried.branch [
      | else-carried-via-then-carried+else-not-is_gentle w ↦ gentle_allowed c.args.carried form (sym w.is_gentle.ensures ∙ w.if-not-is_gentle.false)
      | else-carried-via-else-carried w ↦ ap (λ b. allows b form) w.if-carried.false
    ] in
    let next : c.if-most-count.most ≡ max c.loop-form.most (counts form) = elim c.if-most-count.branch [
      | then-most-count w ↦ omega (arith, w.most-is, w.if-most-count.true)
      | else-most-count w ↦ omega (arith, w.most-is, w.if-most-count.false)
    ] in
    one_form_more (allows c.args.carried) counts all_forms c.loop-form.form-index c.loop-form.most c.if-most-count.most forms.Open
    (omega (arith, c.loop-form-test.true)) pass
    c.loop-form.invariant next

pub loop-form-preserved-then-not-is_gentle : goal.loop-form-preserved-then-not-is_gentle
loop-form-preserved-then-not-is_gentle c =
    let counts : Form → ℕ = λ form. taken c.args.substations (words_of c.args.line.now) (slots_of form) in
    let form : Form = get_or all_forms c.loop-form.form-index forms.Open in
    let none : allows c.args.carried form ≡ false =
    harsh_refused c.args.carried form c.if-carried.true (sym c.is_gentle.ensures ∙ c.if-not-is_gentle.true) in
    one_form_passed_over (allows c.args.carried) counts all_forms c.loop-form.form-index c.loop-form.most forms.Open
    (omega (arith, c.loop-form-test.true)) none c.loop-form.invariant
