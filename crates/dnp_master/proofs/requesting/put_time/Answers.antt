use Rattle.std.proofs.Common.{ℕ, false, ◌≡◌, List, take, refl, sym, subst, ap, ◌∙◌, arith}
use Rattle.byteorder.proofs.Bytes.{take-bytes_low_first}
use Rattle.byteorder.specs.Endian.{little_bytes}
use Rattle.dnp_appfragment.specs.declared.table.Form.{Form}
use Rattle.dnp_appfragment.specs.declared.table.Form.TheVariants as form
use Rattle.dnp_appfragment.specs.declared.header.Range.TheVariants as range
use Rattle.dnp_appfragment.specs.Headers.{Head, head_of, IsHeader, IsHeaderAt}
use Rattle.dnp_appfragment.specs.Built.{context_of}
use Rattle.dnp_appfragment.specs.Table.{form_of}
use Rattle.dnp_master.proofs.RequestHeaders.{time_fits}
use Rattle.dnp_master.proofs.requesting.put_time.Goals as goal

-- the header of these octets
abbrev made : List ℕ → Head
made octets = head_of 50 1 (range.Count false 1) octets

pub put-requires-clause-fits : goal.put-requires-clause-fits
put-requires-clause-fits c =
    let six : take 6 c.to_le_bytes-octets.result ≡ little_bytes 6 c.args.time =
    ap (λ (xs : List ℕ). take 6 xs) c.to_le_bytes-octets.ensures ∙ take-bytes_low_first 0 8 6 c.args.time (omega arith) in
    let octets = take 6 c.to_le_bytes-octets.result in
    let before = context_of c.args.builder.now in
    let here : IsHeader form.Write (made octets) = subst (λ (xs : List ℕ). IsHeader form.Write (made xs)) (sym six) (time_fits c.args.time) in
    subst (λ (h : Head). IsHeaderAt (form_of c.args.builder.now.function) before h) (sym c.new-header.ensures.value)
    (subst (λ (f : Form). IsHeaderAt f before (made octets)) (sym c.requires.function)
    (record { header = here; common = refl; timed = λ relative. absurd (cc) }))
