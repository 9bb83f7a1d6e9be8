-- What the law of the link says of the lists of a link of real stations.
use Rattle.std.proofs.Common.{◌≡◌, List, [], ◌++◌, map, sym, ap, ◌∙◌, subst, arith}
use Rattle.std.specs.List.{All, count_by}
use Rattle.std.specs.List.Sorted.{IsPermutation}
use Rattle.std.specs.Prelude.{Contains}
use Rattle.std.proofs.lemmas.List.{map-append}
use Rattle.std.proofs.lemmas.List.Elements.{All-weaker}
use Rattle.std.proofs.lemmas.List.Sorted.{IsPermutation-sym, IsPermutation-trans, IsPermutation-map, IsPermutation-append_left, IsPermutation-append_right, All-permutation, Contains-permutation, sum_by-IsPermutation}
use Rattle.dnp_objects.specs.Counts.{IsCoveredBy}
use Rattle.dnp_objects.specs.declared.command.Command.{Command}
use Rattle.dnp_objects.specs.declared.row.Row.{Row}
use Rattle.dnp_eventbuf.specs.Buffered.{buffered_row}
use Rattle.dnp_eventbuf.specs.EventBuffer.{rows_in}
use Rattle.dnp_world.specs.Joined.{Joined, Follows, IsJoined, KeepsLaw, stood_in}
use Rattle.dnp_world.specs.LawLink.{LawLink}
use Rattle.dnp_world.specs.OneLinkEvents.{LinkState}
use Rattle.dnp_world.specs.Standing.{CarriesLaw}
use Rattle.dnp_world.proofs.Counting.{one_if}
use Rattle.dnp_world.proofs.Keeping.{moves_stand}
use Rattle.dnp_world.proofs.OutstationOpenings.{rows_from}

-- what the law of the link says
pub record LinkLaws : Type 0 where
  pub covered : (l : LawLink) → CarriesLaw l → IsCoveredBy (map buffered_row l.released) (map buffered_row l.took)
  pub stood : (l : LawLink) → CarriesLaw l → All (Contains (map buffered_row (l.lanes ++ (l.released ++ l.left)))) (map buffered_row l.took)
  pub whole : (l : LawLink) → CarriesLaw l → IsPermutation l.stood (l.lanes ++ (l.released ++ l.left))

-- ---- what stood in the lanes

same_stood : {Sink : Type 0} (others : List Row) (s : LinkState Sink) (l : LawLink) → Joined others s l
    → IsPermutation (map buffered_row (l.lanes ++ (l.released ++ l.left))) (stood_in others s)
same_stood others s l j =
    let lanes : map buffered_row l.lanes ≡ rows_in s.outstation.lanes = ap (map buffered_row) j.outstation.lanes.rows ∙ rows_from 0 s.outstation.lanes.lanes in
    let parts : map buffered_row (l.lanes ++ (l.released ++ l.left)) ≡ rows_in s.outstation.lanes ++ (s.released ++ map buffered_row l.left) =
    map-append buffered_row l.lanes (l.released ++ l.left)
    ∙ ap (λ (xs : List Row). xs ++ map buffered_row (l.released ++ l.left)) lanes
    ∙ ap (λ (xs : List Row). rows_in s.outstation.lanes ++ xs)
    (map-append buffered_row l.released l.left ∙ ap (λ (xs : List Row). xs ++ map buffered_row l.left) j.released) in
    subst (λ (xs : List Row). IsPermutation xs (stood_in others s)) (sym parts)
    (IsPermutation-append_right (rows_in s.outstation.lanes) (s.released ++ map buffered_row l.left) (s.released ++ (s.left ++ others))
    (IsPermutation-append_right s.released (map buffered_row l.left) (s.left ++ others) j.left))

all_stood : {Sink : Type 0} → LinkLaws → (others : List Row) (s : LinkState Sink) (l : LawLink) → CarriesLaw l → Joined others s l
    → IsPermutation (map buffered_row l.stood) (stood_in others s)
all_stood laws others s l stands j =
    IsPermutation-trans (map buffered_row l.stood) (map buffered_row (l.lanes ++ (l.released ++ l.left))) (stood_in others s)
    (IsPermutation-map buffered_row l.stood (l.lanes ++ (l.released ++ l.left)) (laws.whole l stands)) (same_stood others s l j)

-- ---- the law

covered_in_order : (xs ys zs : List Row) → IsPermutation zs ys → IsCoveredBy xs ys → IsCoveredBy xs zs
covered_in_order xs ys zs same h = record {
  at_most = λ test. (let e : count_by test ys ≡ count_by test zs = sum_by-IsPermutation (one_if test) zs ys same in omega (arith, h.at_most test, e));
}

pub law_of : {Sink : Type 0} → LinkLaws → (others : List Row) (s : LinkState Sink) → IsJoined others s → KeepsLaw others s
law_of laws others s h =
    let l : LawLink = h.link in
    let j : Joined others s l = h.joined in
    let all : List Row = map buffered_row (l.lanes ++ (l.released ++ l.left)) in
    let stood : All (Contains all) s.taken =
    All-permutation (Contains all) (map buffered_row l.took) s.taken (IsPermutation-sym s.taken (map buffered_row l.took) j.taken) (laws.stood l h.stands) in
    record {
      covered = covered_in_order s.released (map buffered_row l.took) s.taken j.taken
          (subst (λ (xs : List Row). IsCoveredBy xs (map buffered_row l.took)) j.released (laws.covered l h.stands));
      stood = All-weaker (Contains all) (Contains (stood_in others s))
          (λ x there. Contains-permutation all (stood_in others s) x (same_stood others s l j) there) s.taken stood;
    }

-- ---- what it grows by

pub kept_by : {Sink : Type 0} (others came : List Row) (before : List Command) (l : LawLink) (new : LinkState Sink) → CarriesLaw l
    → Follows others came [] before l new → IsJoined others new
kept_by others came before l new stands f = record { link = f.link; stands = moves_stand l f.link f.moves stands; joined = f.joined }

pub grown_by : {Sink : Type 0} → LinkLaws → (others others' came : List Row) (s new : LinkState Sink) (l : LawLink) → CarriesLaw l
    → Joined others s l → Follows others' came [] s.outstation.performed l new
    → IsPermutation (stood_in others' new) (stood_in others s ++ came)
grown_by laws others others' came s new l stands j f =
    let before : IsPermutation (map buffered_row l.stood ++ came) (stood_in others s ++ came) =
    IsPermutation-append_left came (map buffered_row l.stood) (stood_in others s) (all_stood laws others s l stands j) in
    let after : IsPermutation (map buffered_row f.link.stood) (stood_in others' new) =
    all_stood laws others' new f.link (moves_stand l f.link f.moves stands) f.joined in
    IsPermutation-trans (stood_in others' new) (map buffered_row l.stood ++ came) (stood_in others s ++ came)
    (subst (λ (xs : List Row). IsPermutation (stood_in others' new) xs) f.stood
    (IsPermutation-sym (map buffered_row f.link.stood) (stood_in others' new) after)) before
