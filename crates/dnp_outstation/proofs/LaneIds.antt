-- Each fragment has an id for each lane.
use Rattle.std.proofs.Common.{◌≡◌, ℕ, refl, subst, List, length, Option, Some, IfSome}
use Rattle.dnp_appfragment.specs.Headers.{Head}
use Rattle.dnp_controls.specs.Panel.{Panel}
use Rattle.dnp_objects.specs.declared.limits.TheConstants.{LANES}
use Rattle.dnp_outstation.specs.declared.offer.place.ReadPlace.{ReadPlace}
use Rattle.dnp_outstation.specs.Forms.{may_in}
use Rattle.dnp_outstation.specs.Items.{first_place, last_in, items_left}
use Rattle.dnp_outstation.specs.Offer.{held_of, offered_of}
use Rattle.dnp_outstation.specs.State.{State}
use Rattle.dnp_outstation.specs.Content.{Content, content_of, read_content, source_of}
use Rattle.dnp_outstation.specs.Controls.{content_at}
use Rattle.dnp_outstation.proofs.ContentOf.{IsContent, AnyHeaders, any_fine, content_answered, content_done}
use Rattle.dnp_outstation.proofs.ContentOf.IsContent.{Reads, Plain}
use Rattle.dnp_outstation.proofs.Reported.{nine_ids}

pub read_ids : (s : State) (o : Panel) (stood : ℕ) (place : ReadPlace) (headers : List Head) → length (read_content s o stood place headers).upto ≡ LANES
unfolding offered_of
read_ids s o stood place headers = nine_ids (held_of (may_in headers) (items_left (source_of s o) stood place headers))

content_ids : (s : State) (o : Panel) (content : Content) → IsContent AnyHeaders s o content → length content.upto ≡ LANES
content_ids s o _ (Reads headers) = read_ids s o (last_in s.lanes) first_place headers
content_ids s o _ (Plain bits headers fine) = refl

pub answer_ids : (s : State) (o : Panel) (now : ℕ) (octets : List ℕ) (content : Content) → (content_at s o now octets).content ≡ Some content
    → length content.upto ≡ LANES
answer_ids s o now octets content is =
    content_ids s o content
    (subst (λ (c : Option Content). IfSome c (IsContent AnyHeaders s o)) is (content_done AnyHeaders s o now octets (any_fine octets)).content)

pub held_ids : (s : State) (o : Panel) (octets : List ℕ) (content : Content) → (content_of s o octets).content ≡ Some content → length content.upto ≡ LANES
held_ids s o octets content is =
    content_ids s o content
    (subst (λ (c : Option Content). IfSome c (IsContent AnyHeaders s o)) is (content_answered AnyHeaders s o tt tt octets).done.content)
