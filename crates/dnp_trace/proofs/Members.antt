-- What is written after what is written: members one after the other, and the braces about them.
use Rattle.std.proofs.Common.{◌≡◌, ℕ, true, false, List, [], ◌∷◌, ◌++◌, codes, sym, ◌∙◌, ap, append_assoc, append-nil}
use Rattle.dnp_trace.specs.ReportJsons.{Named, member, members, names_by, first_word, more_words, item, reason, outcome}

pub put_on : (s x y a z : List ℕ) → a ≡ s ++ x → z ≡ a ++ y → z ≡ s ++ (x ++ y)
put_on s x y a z e f = f ∙ ap (λ (t : List ℕ). t ++ y) e ∙ append_assoc s x y

-- a member, and those after it
pub member_more : (named : Named) (more : List Named) (words rest s a z : List ℕ)
    → a ≡ s ++ codes ", " ++ member named.name (first_word words) named.quoted → rest ≡ more_words words
    → z ≡ a ++ members more rest → z ≡ s ++ members (named ∷ more) words
member_more named more words rest s a z e r f =
    let first : List ℕ = member named.name (first_word words) named.quoted in
    put_on s (codes ", " ++ first) (members more (more_words words)) a z (e ∙ append_assoc s (codes ", ") first)
    (f ∙ ap (λ (t : List ℕ). a ++ members more t) r)

-- the last member
pub member_last : (named : Named) (words s z : List ℕ)
    → z ≡ s ++ codes ", " ++ member named.name (first_word words) named.quoted → z ≡ s ++ members (named ∷ []) words
member_last named words s z e =
    let last : List ℕ = member named.name (first_word words) named.quoted in
    e ∙ append_assoc s (codes ", ") last ∙ ap (λ (t : List ℕ). s ++ t) (sym (append-nil (codes ", " ++ last)))

pub item_put : (words substation rest s a b d z : List ℕ) → substation ≡ first_word words → rest ≡ more_words words
    → a ≡ s ++ codes "{" → b ≡ a ++ member (codes "substation") substation false
    → d ≡ b ++ members (names_by (first_word rest)) rest → z ≡ d ++ codes "}" → z ≡ s ++ item words
item_put words substation rest s a b d z first more opened number said closed =
    let name : List ℕ = member (codes "substation") (first_word words) false in
    let each : List ℕ = members (names_by (first_word (more_words words))) (more_words words) in
    let number_put = number ∙ ap (λ (w : List ℕ). a ++ member (codes "substation") w false) first in
    let said_put = said ∙ ap (λ (w : List ℕ). b ++ members (names_by (first_word w)) w) more in
    put_on s (codes "{" ++ name ++ each) (codes "}") d z
    (put_on s (codes "{" ++ name) each b d (put_on s (codes "{") name a b opened number_put) said_put) closed

pub outcome_put : (words what round subject came_out refused s a b d f z : List ℕ)
    → what ≡ first_word words → round ≡ more_words words → subject ≡ first_word round → came_out ≡ more_words round
    → refused ≡ more_words came_out → a ≡ s ++ codes "{" → b ≡ a ++ member what subject true
    → d ≡ b ++ codes ", " ++ member (codes "outcome") (first_word came_out) true → f ≡ d ++ reason refused
    → z ≡ f ++ codes "}" → z ≡ s ++ outcome words
outcome_put words what round subject came_out refused s a b d f z e1 e2 e3 e4 e5 opened which how why closed =
    let subject_is : subject ≡ first_word (more_words words) = e3 ∙ ap (λ (w : List ℕ). first_word w) e2 in
    let out_is : came_out ≡ more_words (more_words words) = e4 ∙ ap (λ (w : List ℕ). more_words w) e2 in
    let refused_is : refused ≡ more_words (more_words (more_words words)) = e5 ∙ ap (λ (w : List ℕ). more_words w) out_is in
    let named : List ℕ = member (first_word words) (first_word (more_words words)) true in
    let out : List ℕ = member (codes "outcome") (first_word (more_words (more_words words))) true in
    let number : List ℕ = reason (more_words (more_words (more_words words))) in
    let which_put = which ∙ ap (λ (w : List ℕ). a ++ member w subject true) e1
    ∙ ap (λ (w : List ℕ). a ++ member (first_word words) w true) subject_is in
    let how_put = how ∙ ap (λ (w : List ℕ). b ++ codes ", " ++ member (codes "outcome") (first_word w) true) out_is
    ∙ append_assoc b (codes ", ") out in
    let why_put = why ∙ ap (λ (w : List ℕ). d ++ reason w) refused_is in
    let led : b ≡ s ++ (codes "{" ++ named) = put_on s (codes "{") named a b opened which_put in
    let told : d ≡ s ++ (codes "{" ++ named ++ (codes ", " ++ out)) =
    put_on s (codes "{" ++ named) (codes ", " ++ out) b d led how_put in
    let joined : codes "{" ++ named ++ (codes ", " ++ out) ≡ codes "{" ++ named ++ codes ", " ++ out =
    sym (append_assoc (codes "{" ++ named) (codes ", ") out) in
    let told_flat : d ≡ s ++ (codes "{" ++ named ++ codes ", " ++ out) = told ∙ ap (λ (t : List ℕ). s ++ t) joined in
    put_on s (codes "{" ++ named ++ codes ", " ++ out ++ number) (codes "}") f z
    (put_on s (codes "{" ++ named ++ codes ", " ++ out) number d f told_flat why_put) closed
