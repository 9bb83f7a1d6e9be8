-- The headers of a control request, with other statuses, stand in the table for responses, and hold no event.
use Rattle.std.proofs.Common.{◌≡◌, Bool, true, false, IsTrue, refl, subst, ℕ, ◌==◌, ◌&&◌, cond, List, [], ◌∷◌, None, Some, eqb-true}
use Rattle.std.specs.Option.{IsSomeAnd, option_map}
use Rattle.std.proofs.lemmas.Bool.{and_parts}
use Rattle.dnp_objects.specs.Objects.{objects}
use Rattle.dnp_objects.specs.declared.command.Command.{Command}
use Rattle.dnp_appfragment.specs.declared.table.Form.TheVariants as form
use Rattle.dnp_appfragment.specs.EventRows.{is_event_group, is_event_header, events_in as rows_said}
use Rattle.dnp_appfragment.specs.Headers.{Head, IsHeader, Context, AreHeaders, context_after, qualifier_of}
use Rattle.dnp_appfragment.specs.Table.{Rule, takes_of, rules, allows, IsInTable}
use Rattle.dnp_outstation.specs.Controls.{answered_head, headers_with}
use Rattle.dnp_outstation.proofs.ControlHeaders.{answered_header, no_common}

abbrev IsNoEvent : ℕ → Type 0
IsNoEvent g = is_event_group g ≡ false

none_such : (a b c : Bool) (x y z : Rule) (q : ℕ) → a ≡ false → b ≡ false → c ≡ false
    → IsSomeAnd (option_map (λ (r : Rule). r.takes) (cond a (Some x) (cond b (Some y) (cond c (Some z) None)))) (λ t. IsTrue (allows t q)) → ⊥
none_such true b c x y z q d e f is = cc
none_such false true c x y z q d e f is = cc
none_such false false true x y z q d e f is = cc
none_such false false false x y z q d e f is = is

-- the groups of commands are 12 and 41
no_event : (g v q : ℕ) → IsInTable form.Command g v q → IsNoEvent g
unfolding takes_of rules objects
no_event g v q is =
    one 12 1 (12 == g && 1 == v) refl refl (λ a.
    one 41 1 (41 == g && 1 == v) refl refl (λ b.
    one 41 2 (41 == g && 2 == v) refl refl (λ c.
    absurd (none_such (12 == g && 1 == v) (41 == g && 1 == v) (41 == g && 2 == v) _ _ _ q a b c is))))
  where
    one : (G V : ℕ) (b : Bool) → (G == g && V == v) ≡ b → IsNoEvent G → (b ≡ false → IsNoEvent g) → IsNoEvent g
    one G V true same here rest = subst IsNoEvent (eqb-true G g (and_parts (G == g) (V == v) same).0) here
    one G V false same here rest = rest refl

header_silent : (h : Head) → IsHeader form.Command h → is_event_header h ≡ false
header_silent h is = no_event h.group h.variation (qualifier_of h.range) is.object

-- in the request and in the response, wherever they stand
pub headers_stand : (code : Command → ℕ) (asked answered : Context) (hs : List Head) → AreHeaders form.Command asked hs
    → AreHeaders form.Response answered (headers_with code hs)
headers_stand code asked answered [] are = tt
headers_stand code asked answered (h ∷ hs) are = (
  answered_header code h are.0.header (no_common asked h are.0) answered,
  headers_stand code (context_after asked h) (context_after answered (answered_head code h)) hs are.1,
)

pub headers_silent : (code : Command → ℕ) (asked : Context) (hs : List Head) → AreHeaders form.Command asked hs → rows_said (headers_with code hs) ≡ []
headers_silent code asked [] are = refl
headers_silent code asked (h ∷ hs) are = rw (header_silent h are.0.header) (headers_silent code (context_after asked h) hs are.1)
