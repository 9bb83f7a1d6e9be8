use Rattle.std.proofs.Common.{◌≡◌, ◌<◌, ℕ, List, ap, sym, subst, ◌∙◌, arith, IsErr}
use Rattle.dnp_objects.specs.declared.limits.TheConstants.{MAX_FRAGMENT}
use Rattle.dnp_appfragment.specs.declared.function.Function.{Function}
use Rattle.dnp_appfragment.specs.declared.table.Form.TheVariants as form
use Rattle.dnp_appfragment.specs.Built.{Built, context_of, size, with_header}
use Rattle.dnp_appfragment.specs.Headers.{Head, IsHeaderAt}
use Rattle.dnp_appfragment.specs.Seen.{head}
use Rattle.dnp_appfragment.specs.Table.{form_of}
use Rattle.dnp_outstation.specs.Controls.{answered_head}
use Rattle.dnp_outstation.specs.steps.Deciding.{code_by}
use Rattle.dnp_outstation.specs.declared.offer.writer.Writer.{Writer}
use Rattle.dnp_outstation.proofs.ControlHeaders.{answered_header, header_length, size_with, put_there}
use Rattle.dnp_outstation.proofs.offer.writer.Writer.put_copied.Goals as goal

pub header-put-requires : goal.header-put-requires
header-put-requires g c =
    let h = head c.args.header.now in
    let code = code_by (g.O.Outputs.panel c.args.outputs.now) c.args.told.now in
    let same : c.as_slice.result.now ≡ (answered_head code h).octets = c.as_slice.ensures.value ∙ c.fill.ensures in
    let before = context_of c.args.self.now.builder in
    let there : IsHeaderAt form.Response before (answered_head code h) = answered_header code h c.requires.whole c.requires.alone before in
    subst (λ (f : Function). IsHeaderAt (form_of f) before (record h { octets = c.as_slice.result.now })) (sym c.requires.response)
    (subst (λ (octets : List ℕ). IsHeaderAt form.Response before (record h { octets = octets })) (sym same) there)

pub returns : goal.returns
returns g c =
    let h = head c.args.header.now in
    let code = code_by (g.O.Outputs.panel c.args.outputs.now) c.args.told.now in
    let same : c.as_slice.result.now ≡ (answered_head code h).octets = c.as_slice.ensures.value ∙ c.fill.ensures in
    let long = size_with c.args.self.now.builder (answered_head code h) in
    let less = header_length code h c.requires.whole in
    let head_is : (let x : Head = record h { octets = c.as_slice.result.now } in x) ≡ answered_head code h =
    ap (λ (octets : List ℕ). let x : Head = record h { octets = octets } in x) same in
    let never : IsErr c.header-put.result → ⊥ = λ err.
    let more : MAX_FRAGMENT < size (with_header c.args.self.now.builder (record h { octets = c.as_slice.result.now })) =
    c.header-put.ensures.full.0 err in
    let more = rw head_is at more in
    let room = c.requires.room in
    absurd (omega (arith, more, long, less, room)) in
    let put : c.header-put.new.self ≡ with_header c.args.self.now.builder (record h { octets = c.as_slice.result.now }) =
    put_there c.header-put.result never c.header-put.ensures.ok in
    ap (λ (b : Built). let w : Writer = record c.args.self.now { builder = b } in w)
    (put ∙ ap (λ (x : Head). with_header c.args.self.now.builder x) head_is)
