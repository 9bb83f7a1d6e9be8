-- Where a segment stands among those that fragments were cut into.
use Rattle.std.proofs.Common.{◌≡◌, ℕ, ◌+◌, ◌%◌, ◌<◌, ◌*◌, List, [], ◌∷◌, ◌++◌, length, take, drop, refl, sym, ap, ◌∙◌, arith, append_assoc}
use Rattle.std.specs.Prelude.{slice_get, Some}
use Rattle.dnp_transport.specs.Cuts.{cut_header, cut_count, cut}
use Rattle.dnp_line.specs.Flows.{segment_total, IsAt, IsSegment, IsBegun, IsRecent}
use Rattle.dnp_transport.specs.declared.limits.TheConstants.{SEGMENT_DATA, SEGMENT_NUMBERS}

pub total-append : (xs ys : List (List ℕ)) → segment_total (xs ++ ys) ≡ segment_total xs + segment_total ys
total-append [] ys = omega arith
total-append (x ∷ xs) ys = omega (arith, total-append xs ys)

-- the same
pub record AreSame (before before' : List (List ℕ)) (fragment fragment' : List ℕ) (k k' : ℕ) : Type 0 where
  pub befores : before ≡ before'
  pub fragments : fragment ≡ fragment'
  pub ks : k ≡ k'

same_split : (b b' : List (List ℕ)) (f f' : List ℕ) (a a' : List (List ℕ)) (k k' : ℕ) → b ++ f ∷ a ≡ b' ++ f' ∷ a'
    → segment_total b + k ≡ segment_total b' + k' → k < cut_count (length f) → k' < cut_count (length f') → AreSame b b' f f' k k'
same_split [] [] f f' a a' k k' e p h h' =
    let heads : f ≡ f' = cc in
    record { befores = refl; fragments = heads; ks = omega (arith, p) }
same_split [] (x ∷ b') f f' a a' k k' e p h h' =
    let heads : f ≡ x = cc in
    absurd (omega (arith, p, h, ap (λ (l : List ℕ). cut_count (length l)) heads))
same_split (x ∷ b) [] f f' a a' k k' e p h h' =
    let heads : x ≡ f' = cc in
    absurd (omega (arith, p, h', ap (λ (l : List ℕ). cut_count (length l)) heads))
same_split (x ∷ b) (x' ∷ b') f f' a a' k k' e p h h' =
    let heads : x ≡ x' = cc in
    let tails : b ++ f ∷ a ≡ b' ++ f' ∷ a' = cc in
    let s : AreSame b b' f f' k k' =
    same_split b b' f f' a a' k k' tails (omega (arith, p, ap (λ (l : List ℕ). cut_count (length l)) heads)) h h' in
    let rest : b ≡ b' = s.befores in
    record { befores = cc; fragments = s.fragments; ks = s.ks }

-- one fragment at most is at a place
pub same_place : (sent : List (List ℕ)) (p : ℕ) (b b' : List (List ℕ)) (f f' : List ℕ) (a a' : List (List ℕ)) (k k' : ℕ) → IsAt sent p b f a k
    → IsAt sent p b' f' a' k' → AreSame b b' f f' k k'
same_place sent p b b' f f' a a' k k' i i' =
    same_split b b' f f' a a' k k' (sym i.split ∙ i'.split) (sym i.place_is ∙ i'.place_is) i.within i'.within

-- what is sent later moves nothing
at_more : (sent more : List (List ℕ)) (p : ℕ) (b : List (List ℕ)) (f : List ℕ) (a : List (List ℕ)) (k : ℕ) → IsAt sent p b f a k
    → IsAt (sent ++ more) p b f (a ++ more) k
at_more sent more p b f a k i =
    record {
      split = ap (λ (l : List (List ℕ)). l ++ more) i.split ∙ append_assoc b (f ∷ a) more;
      place_is = i.place_is;
      within = i.within;
    }

pub segment_more : (sent more : List (List ℕ)) (p : ℕ) (s : List ℕ) → IsSegment sent p s → IsSegment (sent ++ more) p s
segment_more sent more p s i =
    record {
      before = i.before;
      fragment = i.fragment;
      after = i.after ++ more;
      k = i.k;
      at = at_more sent more p i.before i.fragment i.after i.k i.at;
      segment_is = i.segment_is;
    }

pub begun_more : (sent more : List (List ℕ)) (p : ℕ) (s : List (List ℕ)) → IsBegun sent p s → IsBegun (sent ++ more) p s
begun_more sent more p s i =
    record {
      before = i.before;
      fragment = i.fragment;
      after = i.after ++ more;
      k = i.k;
      at = at_more sent more p i.before i.fragment i.after i.k i.at;
      waits = i.waits;
      series_is = i.series_is;
    }

pub recent_more : (sent more : List (List ℕ)) (gone lost : ℕ) (s : List (List ℕ)) → IsRecent sent gone lost s → IsRecent (sent ++ more) gone lost s
recent_more sent more gone lost s i =
    record { place = i.place; is_begun = begun_more sent more i.place s i.is_begun; low = i.low; high = i.high }

-- a number modulo SEGMENT_NUMBERS numbers the segments alike
pub cut_from : (f : List ℕ) (m n k : ℕ) → m ≡ n % SEGMENT_NUMBERS → cut f m k ≡ cut f n k
cut_from f m n k e =
    let count : ℕ = cut_count (length f) in
    let same : cut_header count m k ≡ cut_header count n k = omega (arith, e) in
    ap (λ (h : ℕ). h ∷ take SEGMENT_DATA (drop (SEGMENT_DATA * k) f)) same

-- the fragments that may still come, where the one at a place is among them
pub record IsAmong (past rest before : List (List ℕ)) (fragment : List ℕ) (after : List (List ℕ)) : Type 0 where
  pub between : List (List ℕ)
  pub before_is : before ≡ past ++ between
  pub rest_is : rest ≡ between ++ fragment ∷ after

-- a fragment that has a segment after all those of the past ones is among the rest
pub among_rest : (past rest b : List (List ℕ)) (f : List ℕ) (a : List (List ℕ)) → past ++ rest ≡ b ++ f ∷ a
    → segment_total past < segment_total b + cut_count (length f) → IsAmong past rest b f a
among_rest [] rest b f a e h = record { between = b; before_is = refl; rest_is = e }
among_rest (x ∷ past) rest [] f a e h =
    let heads : x ≡ f = cc in
    absurd (omega (arith, h, ap (λ (l : List ℕ). cut_count (length l)) heads))
among_rest (x ∷ past) rest (y ∷ b) f a e h =
    let heads : x ≡ y = cc in
    let tails : past ++ rest ≡ b ++ f ∷ a = cc in
    let i : IsAmong past rest b f a = among_rest past rest b f a tails (omega (arith, h, ap (λ (l : List ℕ). cut_count (length l)) heads)) in
    let b_is : b ≡ past ++ i.between = i.before_is in
    record { between = i.between; before_is = cc; rest_is = i.rest_is }

pub at_length : (m : List (List ℕ)) (f : List ℕ) (a : List (List ℕ)) → slice_get (m ++ f ∷ a) (length m) ≡ Some f
at_length [] f a = refl
at_length (x ∷ m) f a = at_length m f a

pub drop_length : (m l : List (List ℕ)) → drop (length m) (m ++ l) ≡ l
drop_length [] l = refl
drop_length (x ∷ m) l = drop_length m l
