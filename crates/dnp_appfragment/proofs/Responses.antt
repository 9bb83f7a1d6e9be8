-- Rows that are put are headers of the table for responses, and stand there after others.
use Rattle.std.proofs.Common.{◌≡◌, IsSome, false, refl, sym, ◌∙◌, ap, subst, ℕ, ◌<◌, ◌^◌, List, [], ◌∷◌, ◌++◌, Option, None, Some}
use Rattle.std.specs.Prelude.{option_to_list}
use Rattle.std.specs.Option.{option_and_then}
use Rattle.std.proofs.lemmas.List.{append-nil}
use Rattle.dnp_objects.specs.Objects.{object_size}
use Rattle.dnp_objects.specs.Events.{IsEvent, event_object}
use Rattle.dnp_objects.specs.Rows.{written}
use Rattle.dnp_objects.specs.declared.row.Kind.{Kind}
use Rattle.dnp_objects.specs.declared.row.Kind.TheVariants.{Binary, Counter, Analog}
use Rattle.dnp_objects.specs.declared.row.Row.{Row}
use Rattle.dnp_appfragment.specs.declared.function.Function.TheVariants as function
use Rattle.dnp_appfragment.specs.declared.table.Form.TheVariants as form
use Rattle.dnp_appfragment.specs.Built.{Built, heads, context_of, with_header, with_run, with_object}
use Rattle.dnp_appfragment.specs.Headers.{Head, IsHeaderAt, AreHeaders, Context, begin, context_after, context_past, is_relative}
use Rattle.dnp_appfragment.specs.Joining.{joined}
use Rattle.dnp_appfragment.specs.Written.{FitsPoint, event, point}
use Rattle.dnp_appfragment.proofs.Building.{each-append, each-parts}
use Rattle.dnp_appfragment.proofs.Joins.{heads_join}
use Rattle.dnp_appfragment.proofs.Places.{any_place, past_more, point_whole}
use Rattle.dnp_appfragment.proofs.ObjectHeaders.{IsSized, RowsFill, row_sized, has_size, event_header, point_header}

-- ---- a row

event_whole : (kind : Kind) (time : Option ℕ) → is_relative (event_object kind time).0 (event_object kind time).1 ≡ false
event_whole Binary (Some t) = refl
event_whole Binary None = refl
event_whole Counter (Some t) = refl
event_whole Counter None = refl
event_whole Analog (Some t) = refl
event_whole Analog None = refl

pub event_stands : RowsFill → (row : Row) → IsEvent row
    → ((context : Context) → IsHeaderAt form.Response context (event row)) × IsSome (object_size (event row).group (event row).variation)
event_stands law row fits =
    let object = event_object row.kind row.time in
    let octets = written object.0 object.1 row in
    let sized : IsSized object.0 object.1 octets = row_sized law object.0 object.1 row fits in (
      λ context. any_place form.Response context (event row) (event_header function.Response row.kind row.time row.index octets refl sized) refl
          (event_whole row.kind row.time),
      has_size object.0 object.1 octets sized,
    )

pub point_stands : RowsFill → (group variation : ℕ) (row : Row) → FitsPoint group variation row → row.index < 2 ^ 16
    → ((context : Context) → IsHeaderAt form.Response context (point group variation row)) × IsSome (object_size group variation)
point_stands law group variation row fits index =
    let octets = written group variation row in
    let sized : IsSized group variation octets = row_sized law group variation row fits.row_fits in (
      λ context. any_place form.Response context (point group variation row)
          (point_header function.Response group variation row.index octets refl fits.object_is index sized) refl (point_whole group variation fits.object_is),
      has_size group variation octets sized,
    )

-- ---- after others

abbrev AreResponse : List Head → Type 0
AreResponse hs = AreHeaders form.Response begin hs

pub object_stands : (b : Built) (object : Head) → IsHeaderAt form.Response (context_of b) object → IsSome (object_size object.group object.variation)
    → AreResponse (heads b)
    → AreResponse (heads (with_object b object))
unfolding with_object
object_stands b object header sized all = go b.run refl (option_and_then (λ (r : Head). joined r object) b.run) refl
  where
    lengthened : (run long : Head) → b.run ≡ Some run → joined run object ≡ Some long → AreResponse (b.ended ++ run ∷ [])
        → AreResponse (b.ended ++ long ∷ [])
    lengthened run long there is before =
        let both = each-parts form.Response begin b.ended (run ∷ []) before in
        let after : IsHeaderAt form.Response (context_after (context_past begin b.ended) run) object =
        subst (λ (c : Context). IsHeaderAt form.Response c object)
        (ap (λ (o : Option Head). context_past begin (b.ended ++ option_to_list o)) there ∙ past_more begin b.ended run) header in
        each-append form.Response begin b.ended (long ∷ []) both.0
        ((heads_join form.Response (context_past begin b.ended) run object long both.1.0 after sized is).header, tt)

    go : (run : Option Head) → b.run ≡ run → (o : Option Head) → option_and_then (λ (r : Head). joined r object) b.run ≡ o
        → AreResponse (heads (with_run b o object))
    go run there None is = each-append form.Response begin (heads b) (object ∷ []) all (header, tt)
    go (Some run) there (Some long) is =
        lengthened run long there (ap (λ (o : Option Head). option_and_then (λ (r : Head). joined r object) o) (sym there) ∙ is)
        (subst (λ (o : Option Head). AreResponse (b.ended ++ option_to_list o)) there all)
    go None there (Some long) is =
        let none : None ≡ Some long = ap (λ (o : Option Head). option_and_then (λ (r : Head). joined r object) o) (sym there) ∙ is in
        cc

pub header_stands : (b : Built) (h : Head) → IsHeaderAt form.Response (context_of b) h → AreResponse (heads b) → AreResponse (heads (with_header b h))
header_stands b h header all =
    subst AreResponse (sym (append-nil (heads b ++ h ∷ []))) (each-append form.Response begin (heads b) (h ∷ []) all (header, tt))
