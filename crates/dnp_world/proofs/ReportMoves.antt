-- The unsolicited half through each move.
use Rattle.std.proofs.Common.{◌≡◌, ℕ, List, [], ◌∷◌, ◌++◌, map, refl, sym, ap, ◌∙◌, subst, Some, None, append_assoc}
use Rattle.std.specs.Prelude.{Option, IfSome}
use Rattle.std.proofs.lemmas.List.{map-append}
use Rattle.dnp_eventbuf.specs.Buffered.{Buffered}
use Rattle.dnp_world.specs.Lists.{Each, IsEnd, Turns}
use Rattle.dnp_world.specs.Octets.{after}
use Rattle.dnp_world.specs.LawLink.{AwaitedReport, SentFragment, seq_of}
use Rattle.dnp_world.specs.Standing.{AllIn, IsInOrder, IsOfReport, Reporting, Unsolicited}
use Rattle.dnp_world.proofs.Lists.{each_both, each_end, each_left, each_map, each_right, each_weaker, end_map, end_more, turns_behind, turns_end, turns_head, turns_more, turns_over, turns_twice}
use Rattle.dnp_world.proofs.Exchanges.{after_moves, more_taken, now_taken}

-- ---- what is lost

order_front : (r : Option AwaitedReport) (t : ℕ) (xs xs' ys : List ℕ) → IsEnd xs xs' → IsInOrder r t (xs' ++ ys) → IsInOrder r t (xs ++ ys)
order_front None t xs xs' ys k h = each_end (λ n. n ≡ t) (xs ++ ys) (xs' ++ ys) (end_more xs xs' ys k) h
order_front (Some w) t xs xs' ys k h =
    turns_end (λ n. after n ≡ t) (λ n. n ≡ t) (xs ++ ys) (xs' ++ ys) (end_more xs xs' ys k) h

order_behind : (r : Option AwaitedReport) (t : ℕ) (xs ys ys' : List ℕ) → IsEnd ys ys' → IsInOrder r t (xs ++ ys') → IsInOrder r t (xs ++ ys)
order_behind None t xs ys ys' k h =
    each_both (λ n. n ≡ t) xs ys (each_left (λ n. n ≡ t) xs ys' h) (each_end (λ n. n ≡ t) ys ys' k (each_right (λ n. n ≡ t) xs ys' h))
order_behind (Some w) t xs ys ys' k h = turns_behind (λ n. after n ≡ t) (λ n. n ≡ t) xs ys ys' k h

pub loses_down : (v : Reporting) (down : List ℕ) → IsEnd down v.down → Unsolicited v → Unsolicited (record v { down = down })
loses_down v down k s =
    record {
      wait = s.wait;
      number = s.number;
      order = order_front v.report (seq_of v.reported) down v.down (map seq_of v.up) k s.order;
      taken = each_end (λ n. n ≡ seq_of v.reported → AllIn v.reported.rows v.took) down v.down k s.taken;
      up = s.up;
    }

pub loses_up : (v : Reporting) (up : List SentFragment) → IsEnd up v.up → Unsolicited v → Unsolicited (record v { up = up })
loses_up v up k s =
    record {
      wait = s.wait;
      number = s.number;
      order = order_behind v.report (seq_of v.reported) v.down (map seq_of up) (map seq_of v.up) (end_map seq_of up v.up k) s.order;
      taken = s.taken;
      up = each_end (λ f. seq_of f ≡ seq_of v.reported → f ≡ v.reported) up v.up k s.up;
    }

-- ---- the master takes

pub takes_more : (v : Reporting) (rows : List Buffered) → Unsolicited v → Unsolicited (record v { took = v.took ++ rows })
takes_more v rows s =
    record {
      wait = s.wait;
      number = s.number;
      order = s.order;
      taken = each_weaker (λ n. n ≡ seq_of v.reported → AllIn v.reported.rows v.took) (λ n. n ≡ seq_of v.reported →
          AllIn v.reported.rows (v.took ++ rows))
          (λ n h e. more_taken v.reported.rows v.took rows (h e)) v.down s.taken;
      up = s.up;
    }

order_twice : (r : Option AwaitedReport) (t : ℕ) (xs : List ℕ) (n : ℕ) (ys : List ℕ) → IsInOrder r t (xs ++ n ∷ ys) →
    IsInOrder r t ((xs ++ n ∷ []) ++ n ∷ ys)
order_twice None t xs n ys h =
    let new : Each (λ m. m ≡ t) (n ∷ ys) = each_right (λ m. m ≡ t) xs (n ∷ ys) h in
    each_both (λ m. m ≡ t) (xs ++ n ∷ []) (n ∷ ys) (each_both (λ m. m ≡ t) xs (n ∷ []) (each_left (λ m. m ≡ t) xs (n ∷ ys) h) (new.0, tt)) new
order_twice (Some w) t xs n ys h = turns_twice (λ m. after m ≡ t) (λ m. m ≡ t) xs n ys h

-- a report is taken and confirmed
pub confirms : (v : Reporting) (f : SentFragment) (rest : List SentFragment) → v.up ≡ f ∷ rest → Unsolicited v →
    Unsolicited (record v { down = v.down ++ (seq_of f) ∷ []; took = v.took ++ f.rows })
confirms v f rest up_is s =
    let r : SentFragment = v.reported in
    let first : Each (λ g. seq_of g ≡ seq_of r →
    g ≡ r) (f ∷ rest) = subst (λ (u : List SentFragment). Each (λ g. seq_of g ≡ seq_of r → g ≡ r) u) up_is s.up in
    let more : Unsolicited (record v { took = v.took ++ f.rows }) = takes_more v f.rows s in
    record {
      wait = s.wait;
      number = s.number;
      order = subst (λ (u : List SentFragment). IsInOrder v.report (seq_of r) ((v.down ++ (seq_of f) ∷ []) ++ map seq_of u)) (sym up_is)
          (order_twice v.report (seq_of r) v.down (seq_of f) (map seq_of rest)
          (subst (λ (u : List SentFragment). IsInOrder v.report (seq_of r) (v.down ++ map seq_of u)) up_is s.order));
      taken = each_both (λ n. n ≡ seq_of r → AllIn r.rows (v.took ++ f.rows)) v.down ((seq_of f) ∷ []) more.taken
          (λ e. subst (λ (g : SentFragment). AllIn g.rows (v.took ++ f.rows)) (first.0 e) (now_taken v.took f.rows), tt);
      up = s.up;
    }

-- ---- its confirm comes

old_head : (w : AwaitedReport) (r : SentFragment) → w.seq ≡ seq_of r → after w.seq ≡ seq_of r → ⊥
old_head w r same e = after_moves w.seq (e ∙ sym same)

pub report_taken_before : (v : Reporting) (w : AwaitedReport) (rest : List ℕ) → v.down ≡ w.seq ∷ rest → v.report ≡ Some w → Unsolicited v →
    AllIn v.reported.rows v.took
report_taken_before v w rest at waits s =
    let wait : IsOfReport v.reported w =
    subst (λ (o : Option AwaitedReport). IfSome o (λ x. IsOfReport v.reported x)) waits s.wait in
    (subst (λ (d : List ℕ). Each (λ n. n ≡ seq_of v.reported → AllIn v.reported.rows v.took) d) at s.taken).0 wait.1

pub waits_no_longer : (v : Reporting) (w : AwaitedReport) (rest : List ℕ) → v.down ≡ w.seq ∷ rest → v.report ≡ Some w → Unsolicited v →
    Unsolicited (record v { report = None })
waits_no_longer v w rest at waits s =
    let r : SentFragment = v.reported in
    let wait : IsOfReport r w =
    subst (λ (o : Option AwaitedReport). IfSome o (λ x. IsOfReport r x)) waits s.wait in
    let order : Turns (λ n. after n ≡ seq_of r) (λ n. n ≡ seq_of r) (w.seq ∷ (rest ++ map seq_of v.up)) =
    subst (λ (d : List ℕ). Turns (λ n. after n ≡ seq_of r) (λ n. n ≡ seq_of r) (d ++ map seq_of v.up)) at
    (subst (λ (o : Option AwaitedReport). IsInOrder o (seq_of r) (v.down ++ map seq_of v.up)) waits s.order) in
    record {
      wait = tt;
      number = s.number;
      order = subst (λ (d : List ℕ). Each (λ n. n ≡ seq_of r) (d ++ map seq_of v.up)) (sym at)
          (turns_head (λ n. after n ≡ seq_of r) (λ n. n ≡ seq_of r) w.seq (rest ++ map seq_of v.up) (old_head w r wait.1) order);
      taken = s.taken;
      up = s.up;
    }

-- ---- the outstation reports

pub starts : (v : Reporting) (f : SentFragment) → v.report ≡ None → seq_of f ≡ v.next → Unsolicited v →
    Unsolicited (record v {
      report = Some
          (record { octets = f.octets; seq = seq_of f; upto = f.upto });
      next = after v.next;
      reported = f;
      up = v.up ++ f ∷ [];
    })
starts v f none number s =
    let t : ℕ = (seq_of v.reported) in
    let follows : (seq_of f) ≡ after t = number ∙ s.number in
    let all : Each (λ n. n ≡ t) (v.down ++ map seq_of v.up) = subst
    (λ (o : Option AwaitedReport). IsInOrder o t (v.down ++ map seq_of v.up)) none s.order in
    let old : Each (λ n. after n ≡ seq_of f) (v.down ++ map seq_of v.up) =
    each_weaker (λ n. n ≡ t) (λ n. after n ≡ seq_of f) (λ n k. ap (λ (m : ℕ). after m) k ∙ sym follows) (v.down ++ map seq_of v.up) all in
    let numbers : (v.down ++ map seq_of v.up) ++ (seq_of f) ∷ [] ≡ v.down ++ map seq_of (v.up ++ f ∷ []) =
    append_assoc v.down (map seq_of v.up) ((seq_of f) ∷ []) ∙ ap (λ (l : List ℕ). v.down ++ l) (sym (map-append seq_of v.up (f ∷ []))) in
    record {
      wait = (refl, refl, refl);
      number = ap (λ (m : ℕ). after m) (sym number);
      order = subst (λ (l : List ℕ). Turns (λ n. after n ≡ seq_of f) (λ n. n ≡ seq_of f) l) numbers
          (turns_over (λ n. after n ≡ seq_of f) (λ n. n ≡ seq_of f) (v.down ++ map seq_of v.up) ((seq_of f) ∷ []) old (refl, tt));
      taken = each_weaker (λ n. n ≡ t) (λ n. n ≡ seq_of f → AllIn f.rows v.took) (λ n k e. absurd (after_moves t (sym follows ∙ sym e ∙ k)))
          v.down (each_left (λ n. n ≡ t) v.down (map seq_of v.up) all);
      up = each_both (λ g. seq_of g ≡ seq_of f → g ≡ f) v.up (f ∷ [])
          (each_weaker (λ g. seq_of g ≡ t) (λ g. seq_of g ≡ seq_of f → g ≡ f) (λ g k e. absurd (after_moves t (sym follows ∙ sym e ∙ k)))
          v.up (each_map (λ n. n ≡ t) seq_of v.up (each_right (λ n. n ≡ t) v.down (map seq_of v.up) all)))
          (λ e. refl, tt);
    }

pub reports_again : (v : Reporting) (w : AwaitedReport) → v.report ≡ Some w → Unsolicited v → Unsolicited (record v { up = v.up ++ v.reported ∷ [] })
reports_again v w waits s =
    let r : SentFragment = v.reported in
    let order : Turns (λ n. after n ≡ seq_of r) (λ n. n ≡ seq_of r) (v.down ++ map seq_of v.up) =
    subst (λ (o : Option AwaitedReport). IsInOrder o (seq_of r) (v.down ++ map seq_of v.up)) waits s.order in
    let numbers : (v.down ++ map seq_of v.up) ++ (seq_of r) ∷ [] ≡ v.down ++ map seq_of (v.up ++ r ∷ []) =
    append_assoc v.down (map seq_of v.up) ((seq_of r) ∷ []) ∙ ap (λ (l : List ℕ). v.down ++ l) (sym (map-append seq_of v.up (r ∷ []))) in
    record {
      wait = s.wait;
      number = s.number;
      order = subst (λ (o : Option AwaitedReport). IsInOrder o (seq_of r) (v.down ++ map seq_of (v.up ++ r ∷ []))) (sym waits)
          (subst (λ (l : List ℕ). Turns (λ n. after n ≡ seq_of r) (λ n. n ≡ seq_of r) l) numbers
          (turns_more (λ n. after n ≡ seq_of r) (λ n. n ≡ seq_of r) (v.down ++ map seq_of v.up) ((seq_of r) ∷ []) order (refl, tt)));
      taken = s.taken;
      up = each_both (λ g. seq_of g ≡ seq_of r → g ≡ r) v.up (r ∷ []) s.up (λ e. refl, tt);
    }
