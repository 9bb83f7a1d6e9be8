-- Lists of a network's text.
use Rattle.std.proofs.Common.{◌≡◌, ℕ, suc, ◌+◌, ◌<◌, ◌≤◌, List, [], ◌∷◌, length, get_or, drop, Option, Some, Result, Ok, Err, String, Global, eqb, refl, sym, ap, ◌∙◌, add-one, drop-cons}
use Rattle.std.proofs.Math.ListN.{drop_of_length-le}
use Rattle.toml.specs.Data.{Items, Members}
use Rattle.toml.specs.View.{items_view, members_view, view}
use Rattle.toml.specs.declared.value.Value.{Value}
use Rattle.toml.proofs.Views.{items_view-drop}
use Rattle.dnp_network.specs.declared.network.Site.{Site}
use Rattle.dnp_network.specs.declared.place.NetworkPlace.{NetworkPlace}
use Rattle.csv.specs.Records.{Row, fields_of}
use Rattle.dnp_network.specs.declared.kind.PointCounts.{PointCounts}
use Rattle.dnp_network.specs.declared.points.PointName.{PointName}
use Rattle.dnp_network.specs.declared.points.PointsFault.{PointsFault}
use Rattle.dnp_network.specs.declared.points.PointsFault.TheVariants as faults
use Rattle.dnp_network.specs.declared.points.RowStands.{RowStands}
use Rattle.dnp_network.specs.Points.{points_from}
use Rattle.dnp_network.specs.Points as points
use Rattle.dnp_network.specs.declared.polling.Below.{Below}
use Rattle.dnp_network.specs.Keys.{members_count, keys_are}
use Rattle.dnp_network.specs.Networks.{items_count, grown, sites_from}

-- ---- keys and items, counted

pub count_is : (es : List (String Global × Value)) → members_count (members_view es) ≡ length es
count_is [] = refl
count_is (e ∷ es) = ap suc (count_is es)

pub keys_counted : (count n : ℕ) (o : Option Members) (es : List (String Global × Value)) → Some (members_view es) ≡ o → n ≡ length es →
    eqb n count ≡ keys_are count o
keys_counted count n o es is counted =
    ap (λ (m : ℕ). eqb m count) (counted ∙ sym (count_is es)) ∙ ap (keys_are count) is

pub items_counted : (vs : List Value) → items_count (items_view vs) ≡ length vs
items_counted [] = refl
items_counted (v ∷ vs) = ap suc (items_counted vs)

-- ---- substations

-- one more stands behind those before it
pub site_more : (below : Below) (vs : List Value) (n : ℕ) (v : Value) (before all : List Site) (whole : Result (List Site) NetworkPlace) → n < length vs →
    Ok all ≡ grown below n before (view (get_or vs n v)) → whole ≡ sites_from below n before (items_view (drop n vs)) →
    whole ≡ sites_from below (n + 1) all (items_view (drop (n + 1) vs))
site_more below vs n v before all whole within is so_far =
    so_far ∙ ap (λ (items : Items). sites_from below n before items) (items_view-drop vs n v within) ∙ rw (← is, add-one) refl

-- one is wrong, and so are all
pub site_wrong : (below : Below) (vs : List Value) (n : ℕ) (v : Value) (before : List Site) (place : NetworkPlace) (whole : Result (List Site) NetworkPlace) → n < length vs →
    Err place ≡ grown below n before (view (get_or vs n v)) → whole ≡ sites_from below n before (items_view (drop n vs)) → Err place ≡ whole
site_wrong below vs n v before place whole within is so_far =
    sym (so_far ∙ ap (λ (items : Items). sites_from below n before items) (items_view-drop vs n v within) ∙ rw (← is) refl)

-- no one is left
pub sites_all : (below : Below) (vs : List Value) (n : ℕ) (before : List Site) (whole : Result (List Site) NetworkPlace) → length vs ≤ n →
    whole ≡ sites_from below n before (items_view (drop n vs)) → Ok before ≡ whole
sites_all below vs n before whole over so_far =
    sym (so_far ∙ ap (λ (l : List Value). sites_from below n before (items_view l)) (drop_of_length-le vs over))

-- ---- records of points

-- one more stands behind those before it
pub row_more : (plan : List PointCounts) (rows : List Row) (n : ℕ) (row : Row) (before all : List PointName) (whole : Result (List PointName) PointsFault) → n < length rows →
    Ok all ≡ points.grown plan before (fields_of (get_or rows n row)) → whole ≡ points_from plan n before (drop n rows) →
    whole ≡ points_from plan (n + 1) all (drop (n + 1) rows)
row_more plan rows n row before all whole within is so_far = so_far ∙ rw (drop-cons rows n row within, ← is, add-one) refl

-- one is wrong, and so are all
pub row_wrong : (plan : List PointCounts) (rows : List Row) (n : ℕ) (row : Row) (before : List PointName) (fault : RowStands) (whole : Result (List PointName) PointsFault) →
    n < length rows → Err fault ≡ points.grown plan before (fields_of (get_or rows n row)) → whole ≡ points_from plan n before (drop n rows) →
    Err (faults.Row n fault) ≡ whole
row_wrong plan rows n row before fault whole within is so_far = sym (so_far ∙ rw (drop-cons rows n row within, ← is) refl)

-- no one is left
pub rows_all : (plan : List PointCounts) (rows : List Row) (n : ℕ) (before : List PointName) (whole : Result (List PointName) PointsFault) → length rows ≤ n →
    whole ≡ points_from plan n before (drop n rows) → Ok before ≡ whole
rows_all plan rows n before whole over so_far =
    sym (so_far ∙ ap (λ (l : List Row). points_from plan n before l) (drop_of_length-le rows over))
