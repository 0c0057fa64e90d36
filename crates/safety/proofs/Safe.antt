-- What every run of the log keeps, and that each move keeps it.
use Rattle.std.proofs.Common.{◌≡◌, ℕ, zero, suc, ◌<◌, ◌≤◌, max, Bool, false, T, eqb, ◌⊎◌, List, [], ◌∷◌, ◌++◌, length, take, drop, Some, None, Ok, Err, Option, Result, sym, refl, ap, ◌∙◌, subst, inl, inr, zero-le, arith}
use mathlib.Core.Logic.{⊎_map}
use Rattle.std.proofs.lemmas.Bool.Decides.{nat_tests}
use Rattle.std.proofs.lemmas.Bool.{cases_lt, cond_both, eqb-true}
use Rattle.std.proofs.lemmas.List.{length-take-le, length_push, take-take}
use Rattle.votes.specs.Sets.{bit}
use Rattle.entries.specs.declared.entry.Entry.{Entry}
use Rattle.entries.specs.Fronts.{last_term, newer, gap}
use Rattle.copies.specs.View.{View}
use Rattle.copies.specs.Questions.{greatest, best_known, committed, known_log, ready, holders}
use Rattle.raft_log.specs.declared.fault.LogFault.{LogFault}
use Rattle.raft_log.specs.Moves.{put, leading, logged, knowing, copied, elect_move, append_move, copy_move, commit_move, rise_move}
use Rattle.safety.specs.Runs.{Meet, Telling, empty_view}
use Rattle.safety.proofs.Fronts.{◌≼◌, whole, chain, line, shorter, same, back_at, grow, takes, cut, step, last, last_push, before_gap, to_gap}
use Rattle.safety.proofs.Fronts.◌≼◌.{none}
use Rattle.raft_log.proofs.Meaning.{put_same}
use Rattle.safety.proofs.Done.{is_true, CommitDone, elect_done, elect_refused, append_done, append_refused, copy_done, copy_refused, commit_done, commit_refused, rise_done, rise_refused, holder_has, held_committed}

-- ---- one value put into a function, and the greatest count

-- what holds of x at r and of f everywhere holds of f with x at r
pub put_at_lem : {A : Type 0} (f : ℕ → A) (r : ℕ) (x : A) (P : ℕ → A → Type 0) → P r x → ((q : ℕ) → P q (f q)) → (q : ℕ) → P q (put f r x q)
put_at_lem f r x P here there q = cond_both (eqb q r) x (f q) (P q) (λ b. rw (eqb-true q r b) here) (λ b. there q)

pub greatest_most : (f : ℕ → ℕ) (n r : ℕ) → r < n → f r ≤ f (greatest f n)
greatest_most f zero r h = omega arith
greatest_most f (suc n) r h = let below = greatest_most f n r in grind (arith, nat_tests)

-- ---- the invariant

-- p is the front of some log
abbrev pub Seen : {V : Type 0} → View V → List (Entry V) → Type 0
Seen s p = (r : ℕ) × (p ≼ s.log r)

-- what holds of the leader a, where C is the committed log
pub record Led {V : Type 0} (s : View V) (C : List (Entry V)) (a : ℕ) : Type 0 where
  pub inside : a < s.copies
  pub own : {p : List (Entry V)} → Seen s p → last_term p ≡ s.term → p ≼ s.log a
  pub full : C ≼ s.log a
  pub fresh : (s.known a ≡ length C) ⊎ ((p : List (Entry V)) → p ≼ C → last_term p < s.term)

-- what holds of every view that a run comes to, where C is the committed log
pub record Inv {V : Type 0} (elects : ℕ → Bool) (s : View V) (C : List (Entry V)) : Type 0 where
  pub bound : {p : List (Entry V)} → Seen s p → last_term p ≤ s.term
  pub mono : {p q : List (Entry V)} → q ≼ p → Seen s p → last_term q ≤ last_term p
  pub agree : {p q : List (Entry V)} → Seen s p → Seen s q → length p ≤ length q → last_term p ≡ last_term q → p ≼ q
  pub later : {p : List (Entry V)} → Seen s p → last_term C < last_term p → C ≼ p
  pub led : (a : ℕ) → s.leader ≡ Some a → Led s C a
  pub voted : (v : ℕ) → T (elects v) → (C ≡ []) ⊎ ((r : ℕ) × (r < s.copies) × (bit v r ≡ 1) × (C ≼ s.log r))
  pub each : (r : ℕ) → (p : List (Entry V)) × (p ≼ s.log r) × (p ≼ C) × (length p ≡ s.known r)
  pub most : (r : ℕ) × (r < s.copies) × (s.known r ≡ length C)

never : {A : Type 0} (a : ℕ) → ◌≡◌ {A = Option ℕ} None (Some a) → A
never a e = cc

some : (a b : ℕ) → ◌≡◌ {A = Option ℕ} (Some a) (Some b) → a ≡ b
some a b e = cc

nothing : {A : Type 0} {p : List A} → p ≼ [] → p ≡ []
nothing h = same [] h zero-le

module _ {V : Type 0} (elects : ℕ → Bool) where
  -- some copies with no leader, whose logs are empty and who know nothing
  pub begins : (s : View V) → 0 < s.copies → s.leader ≡ None → ((r : ℕ) → s.log r ≡ []) → ((r : ℕ) → s.known r ≡ 0) → Inv elects s []
  begins s h l empty zeros =
      let blank : (p : List (Entry V)) → Seen s p → p ≡ [] = λ p w. nothing (subst (λ (x : List (Entry V)). p ≼ x) (empty w.0) w.1) in
      record {
        bound = λ {p} w. rw (blank p w) zero-le;
        mono = λ {p} {q} b w. rw (nothing (subst (λ (x : List (Entry V)). q ≼ x) (blank p w) b)) zero-le;
        agree = λ {p} w x l e. rw (blank p w) none;
        later = λ w l. none;
        led = λ a e. never a (sym l ∙ e);
        voted = λ v e. inl refl;
        each = λ r. ([], none, none, sym (zeros r));
        most = (0, h, zeros 0);
      }

  pub begins_empty : (n capacity : ℕ) → 0 < n → Inv {V = V} elects (empty_view n capacity) []
  begins_empty n capacity h = begins (empty_view n capacity) h refl (λ r. refl) (λ r. refl)

module _ {V : Type 0} {elects : ℕ → Bool} {s : View V} {C : List (Entry V)} (I : Inv elects s C) where
  -- ---- what the invariant says of the committed log
  pub known_is : (r : ℕ) → known_log s r ≡ (I.each r).0
  known_is r = let w = I.each r in back_at (s.known r) w.3 w.1

  pub is_committed : committed s ≡ C
  is_committed =
      let k : ℕ = best_known s in
      let w = I.each k in
      let m = I.most in
      known_is k ∙ same C w.2 (omega (arith, w.3, greatest_most s.known s.copies m.0 m.1, m.2))

  -- the greatest known count is the committed log's length
  pub best_known_lem : s.known (best_known s) ≡ length C
  best_known_lem =
      let w = I.each (best_known s) in
      let m = I.most in
      omega (arith, w.3, shorter w.2, greatest_most s.known s.copies m.0 m.1, m.2)

  pub knows_within : (r : ℕ) → s.known r ≤ length (s.log r)
  knows_within r = omega (arith, shorter (I.each r).1, (I.each r).3)

  -- what a copy knows to be committed is
  pub known_front : (r : ℕ) → known_log s r ≼ C
  known_front r = rw (known_is r) (I.each r).2

  pub leader_full : (a : ℕ) → s.leader ≡ Some a → C ≼ s.log a
  leader_full a e = (I.led a e).full

  -- a leader that is ready knows the whole committed log
  pub ready_knows : (a : ℕ) → s.leader ≡ Some a → T (ready s a) → known_log s a ≡ C
  ready_knows a e h =
      let w = I.each a in
      let u : last_term (known_log s a) ≡ s.term = let t = is_true (ready s a) h in grind (arith, nat_tests) in
      rw (known_is a) (elim (I.led a e).fresh [
        | inl k ↦ same C w.2 (omega (arith, w.3))
        | inr k ↦ absurd (omega (arith, k w.0 w.2, ap last_term (known_is a)))
      ])

  -- ---- elect
  -- a log that no voter's log is newer than has the committed log as its front
  completes : (c v : ℕ) → T (elects v) → ((r : ℕ) → r < s.copies → bit v r ≡ 1 → newer (s.log r) (s.log c) ≡ false) → C ≼ s.log c
  completes c v e calm = elim (I.voted v e) [ inl z ↦ rw z none | inr w ↦ among w.0 w.1 w.2 w.3 ]
    where
      among : (r : ℕ) → r < s.copies → bit v r ≡ 1 → C ≼ s.log r → C ≼ s.log c
      among r b m h =
          let m1 : last_term C ≤ last_term (s.log r) = I.mono h (r, whole (s.log r)) in
          let l1 : length C ≤ length (s.log r) = shorter h in
          let calm : newer (s.log r) (s.log c) ≡ false = calm r b m in
          elim (cases_lt (last_term C) (last_term (s.log c))) [
            | inl k ↦ I.later (c, whole (s.log c)) k
            | inr k ↦ I.agree (r, h) (c, whole (s.log c)) (grind (arith, nat_tests)) (grind (arith, nat_tests))
          ]

  elected : (c v : ℕ) → c < s.copies → T (elects v) → ((r : ℕ) → r < s.copies → bit v r ≡ 1 → newer (s.log r) (s.log c) ≡ false) → Inv elects (leading s c) C
  elected c v b e calm =
      let f : C ≼ s.log c = completes c v e calm in
      record {
        bound = λ w. omega (arith, I.bound w);
        mono = I.mono;
        agree = I.agree;
        later = I.later;
        led = λ a i. subst (Led (leading s c) C) (some c a i) record {
          inside = b;
          own = λ w l. absurd (omega (arith, I.bound w));
          full = f;
          fresh = inr (λ p h. omega (arith, I.bound (c, chain h f)));
        };
        voted = I.voted;
        each = I.each;
        most = I.most;
      }

  -- ---- append and copy
  -- what stays where each log keeps what it shares with the committed log
  module _ (t : ℕ → List (Entry V)) (keeps : (q : ℕ) (p : List (Entry V)) → p ≼ s.log q → p ≼ C → p ≼ t q) where
    voted_on : (v : ℕ) → T (elects v) → (C ≡ []) ⊎ ((r : ℕ) × (r < s.copies) × (bit v r ≡ 1) × (C ≼ t r))
    voted_on v e = ⊎_map (λ z. z) (λ w. (w.0, w.1, w.2, keeps w.0 C w.3 (whole C))) (I.voted v e)

    each_on : (r : ℕ) → (p : List (Entry V)) × (p ≼ t r) × (p ≼ C) × (length p ≡ s.known r)
    each_on r = let w = I.each r in (w.0, keeps r w.0 w.1 w.2, w.2, w.3)

  module _ (a : ℕ) (led_by : s.leader ≡ Some a) where
    L : Led s C a
    L = I.led a led_by

    -- whoever leads is a
    sole : (t : View V) (D : List (Entry V)) → t.leader ≡ s.leader → Led t D a → (b : ℕ) → t.leader ≡ Some b → Led t D b
    sole t D k l b e = subst (Led t D) (some a b (sym led_by ∙ sym k ∙ e)) l

    seen_append : (e : Entry V) (p : List (Entry V)) → Seen (logged s a (s.log a ++ e ∷ [])) p → Seen s p ⊎ (p ≡ s.log a ++ e ∷ [])
    seen_append e p w =
        put_at_lem s.log a (s.log a ++ e ∷ []) (λ q l. p ≼ l → Seen s p ⊎ (p ≡ s.log a ++ e ∷ []))
        (λ h. ⊎_map (λ k. (a, k)) (λ k. k) (last (s.log a) e h)) (λ q h. inl (q, h)) w.0 w.1

    keep_append : (e : Entry V) (q : ℕ) → s.log q ≼ (logged s a (s.log a ++ e ∷ [])).log q
    keep_append e = put_at_lem s.log a (s.log a ++ e ∷ []) (λ q l. s.log q ≼ l) (grow (s.log a) (e ∷ [])) (λ q. whole (s.log q))

    keep_own : (e : Entry V) → (s.log a ++ e ∷ []) ≼ (logged s a (s.log a ++ e ∷ [])).log a
    keep_own e = rw (put_same s.log a (s.log a ++ e ∷ [])) (whole (s.log a ++ e ∷ []))

    appended : (e : Entry V) → e.term ≡ s.term → Inv elects (logged s a (s.log a ++ e ∷ [])) C
    appended e u =
        let N : List (Entry V) = s.log a ++ e ∷ [] in
        let t : View V = logged s a N in
        let fresh : last_term N ≡ s.term = last_push 0 (s.log a) e ∙ u in
        let long : s.log a ≼ N = grow (s.log a) (e ∷ []) in
        let full : C ≼ t.log a = chain L.full (keep_append e a) in
        record {
          bound = λ {p} w. elim (seen_append e p w) [ inl k ↦ I.bound k | inr k ↦ omega (arith, fresh, ap last_term k) ];
          mono = λ {p} {q} b w. elim (seen_append e p w) [
            | inl k ↦ I.mono b k
            | inr k ↦ elim (last (s.log a) e (rw k at b)) [
              | inl j ↦ omega (arith, fresh, ap last_term k, I.bound (a, j))
              | inr j ↦ omega (arith, ap last_term k, ap last_term j)
            ]
          ];
          agree = λ {p} {q} w x l i. elim (seen_append e p w) [
            | inl k ↦ elim (seen_append e q x) [
              | inl j ↦ I.agree k j l i
              | inr j ↦ rw j (chain (L.own k (i ∙ ap last_term j ∙ fresh)) long)
            ]
            | inr k ↦ elim (seen_append e q x) [
              | inl j ↦ absurd (omega (arith, shorter (L.own j (sym i ∙ ap last_term k ∙ fresh)), ap length k, length_push (s.log a) e))
              | inr j ↦ rw (k, j) (whole N)
            ]
          ];
          later = λ {p} w i. elim (seen_append e p w) [ inl k ↦ I.later k i | inr k ↦ rw k (chain L.full long) ];
          led = sole t C refl record {
            inside = L.inside;
            own = λ {p} w i. elim (seen_append e p w) [ inl k ↦ chain (L.own k i) (keep_append e a) | inr k ↦ rw k (keep_own e) ];
            full = full;
            fresh = L.fresh;
          };
          voted = voted_on t.log (λ q p h k. chain h (keep_append e q));
          each = each_on t.log (λ q p h k. chain h (keep_append e q));
          most = I.most;
        }

    -- a copy leaves a front of the leader's log
    pub copied_front : (r : ℕ) → copied (s.log a) (s.log r) ≼ s.log a
    copied_front r =
        let l = s.log a in
        let m = s.log r in
        let g = to_gap 0 l m in
        let f : take (gap l m) m ≼ take (gap l m) l = I.agree (r, takes (gap l m) m) (a, takes (gap l m) l) (omega (arith, g.0)) g.1 in
        rw (same (take (gap l m) l) f (omega (arith, g.0))) (step (gap l m) l)

    seen_copy : (r : ℕ) (p : List (Entry V)) → Seen (logged s r (copied (s.log a) (s.log r))) p → Seen s p
    seen_copy r p w =
        put_at_lem s.log r (copied (s.log a) (s.log r)) (λ q l. p ≼ l → Seen s p)
        (λ h. (a, chain h (copied_front r))) (λ q h. (q, h)) w.0 w.1

    -- a log keeps what it shares with the leader's
    keep_copy : (r q : ℕ) (p : List (Entry V)) → p ≼ s.log q → p ≼ s.log a → p ≼ (logged s r (copied (s.log a) (s.log r))).log q
    keep_copy r q p =
        put_at_lem s.log r (copied (s.log a) (s.log r)) (λ q l. p ≼ s.log q → p ≼ s.log a → p ≼ l)
        (λ x y. chain (cut (gap (s.log a) (s.log r)) x (before_gap y x)) (grow (take (gap (s.log a) (s.log r)) (s.log r)) (take 1 (drop (gap (s.log a) (s.log r)) (s.log a)))))
        (λ q x y. x) q

    copies_on : (r : ℕ) → Inv elects (logged s r (copied (s.log a) (s.log r))) C
    copies_on r =
        let t : View V = logged s r (copied (s.log a) (s.log r)) in
        record {
          bound = λ {p} w. I.bound (seen_copy r p w);
          mono = λ {p} b w. I.mono b (seen_copy r p w);
          agree = λ {p} {q} w x. I.agree (seen_copy r p w) (seen_copy r q x);
          later = λ {p} w. I.later (seen_copy r p w);
          led = sole t C refl record {
            inside = L.inside;
            own = λ {p} w i. let k = L.own (seen_copy r p w) i in keep_copy r a p k k;
            full = keep_copy r a C L.full L.full;
            fresh = L.fresh;
          };
          voted = voted_on t.log (λ q p h k. keep_copy r q p h (chain k L.full));
          each = each_on t.log (λ q p h k. keep_copy r q p h (chain k L.full));
          most = I.most;
        }

    -- ---- commit
    module _ (n : ℕ) (above : s.known a < n) (fits : n ≤ length (s.log a)) (present : last_term (take n (s.log a)) ≡ s.term) where
      extends : C ≼ take n (s.log a)
      extends =
          let D : List (Entry V) = take n (s.log a) in
          let d : length D ≡ n = length-take-le n (s.log a) fits in
          line L.full (takes n (s.log a)) (elim L.fresh [
            | inl k ↦ omega arith
            | inr k ↦ elim (cases_lt n (length C)) [
              | inl j ↦ absurd (omega (arith, k D (line (takes n (s.log a)) L.full (omega arith))))
              | inr j ↦ omega arith
            ]
          ])

      commits_on : (commits : ℕ → Bool) → Meet s.copies commits elects → (h : ℕ) → T (commits h) →
          ((r : ℕ) → r < s.copies → bit h r ≡ 1 → take n (s.log r) ≡ take n (s.log a)) → Inv elects (knowing s a n) (take n (s.log a))
      commits_on commits meets h y holds =
          let D : List (Entry V) = take n (s.log a) in
          let t : View V = knowing s a n in
          let d : length D ≡ n = length-take-le n (s.log a) fits in
          record {
            bound = I.bound;
            mono = I.mono;
            agree = I.agree;
            later = λ w i. absurd (omega (arith, I.bound w));
            led = sole t D refl record {
              inside = L.inside;
              own = L.own;
              full = takes n (s.log a);
              fresh = inl (put_same s.known a n ∙ sym d);
            };
            voted = λ v e. inr (let m = meets h v y e in (m.0, m.1, m.3, subst (λ (p : List (Entry V)). p ≼ s.log m.0) (holds m.0 m.1 m.2) (takes n (s.log m.0))));
            each = put_at_lem s.known a n (λ r k. (p : List (Entry V)) × (p ≼ s.log r) × (p ≼ D) × (length p ≡ k))
                (D, takes n (s.log a), whole D, d) (λ r. let w = I.each r in (w.0, w.1, chain w.2 extends, w.3));
            most = (a, L.inside, put_same s.known a n ∙ sym d);
          }

  -- ---- the rise of a known count
  raised : (r k : ℕ) → k ≤ length C → take k (s.log r) ≡ take k C → Inv elects (knowing s r (max (s.known r) k)) C
  raised r k b holds =
      let m : ℕ = max (s.known r) k in
      let d : length (take k C) ≡ k = length-take-le k C b in
      let most_known : s.known r ≤ length C = omega (arith, (I.each r).3, shorter (I.each r).2) in
      -- a count that was the committed log's stays
      let stays : (q : ℕ) → s.known q ≡ length C → put s.known r m q ≡ length C =
      put_at_lem s.known r m (λ q x. s.known q ≡ length C → x ≡ length C) (λ e. omega arith) (λ q e. e) in
      record {
        bound = I.bound;
        mono = I.mono;
        agree = I.agree;
        later = I.later;
        led = λ a e. let L = I.led a e in record {
          inside = L.inside;
          own = L.own;
          full = L.full;
          fresh = ⊎_map (stays a) (λ p. p) L.fresh;
        };
        voted = I.voted;
        each = put_at_lem s.known r m (λ q x. (p : List (Entry V)) × (p ≼ s.log q) × (p ≼ C) × (length p ≡ x))
            (elim (cases_lt (s.known r) k) [
              | inl j ↦ (take k C, subst (λ (p : List (Entry V)). p ≼ s.log r) holds (takes k (s.log r)), takes k C, omega arith)
              | inr j ↦ let w = I.each r in (w.0, w.1, w.2, omega (arith, w.3))
            ])
            I.each;
        most = (I.most.0, I.most.1, stays I.most.0 I.most.2);
      }

-- what holds of each log, and of copy a's with the entry at its end, holds of each log after the entry was appended there
pub append_every : {V : Type 0} (s : View V) {t : View V} (P : List (Entry V) → Type 0) (a : ℕ) (x : Entry V) (o : Result ℕ LogFault) →
    P (s.log a ++ x ∷ []) → ((q : ℕ) → P (s.log q)) → append_move s a x ≡ (t, o) → (q : ℕ) → P (t.log q)
append_every {V} s {t} P a x (Ok n) here all e =
    subst (λ (v : View V). (q : ℕ) → P (v.log q)) (sym (append_done a x e).is) (put_at_lem s.log a (s.log a ++ x ∷ []) (λ q l. P l) here all)
append_every {V} s {t} P a x (Err f) here all e = subst (λ (v : View V). (q : ℕ) → P (v.log q)) (sym (append_refused a x e)) all

-- ---- the moves

-- what a move leaves that commits nothing: the invariant at the same list, and each log's front of it
pub record Staying {V : Type 0} (elects : ℕ → Bool) (s : View V) (C : List (Entry V)) (t : View V) : Type 0 where
  pub inv : Inv elects t C
  pub keeps : (q : ℕ) (p : List (Entry V)) → p ≼ s.log q → p ≼ C → p ≼ t.log q
  pub sized : t.copies ≡ s.copies

-- what every move leaves: the invariant at a list that goes on from C, and each log's front of C
pub record Onward {V : Type 0} (elects : ℕ → Bool) (s : View V) (C : List (Entry V)) (t : View V) : Type 0 where
  pub now : List (Entry V)
  pub extends : C ≼ now
  pub inv : Inv elects t now
  pub keeps : (q : ℕ) (p : List (Entry V)) → p ≼ s.log q → p ≼ C → p ≼ t.log q
  pub sized : t.copies ≡ s.copies

module _ {V : Type 0} {elects : ℕ → Bool} {s t : View V} {C : List (Entry V)} where
  pub onward : Staying elects s C t → Onward elects s C t
  onward w = record { now = C; extends = whole C; inv = w.inv; keeps = w.keeps; sized = w.sized }

  module _ (I : Inv elects s C) where
    pub stays : t ≡ s → Staying elects s C t
    stays e = subst (Staying elects s C) (sym e) record { inv = I; keeps = λ q p h k. h; sized = refl }

    pub elect_stays : (c v : ℕ) (o : Result ℕ LogFault) → c < s.copies → elect_move elects s c v ≡ (t, o) → Staying elects s C t
    elect_stays c v (Ok n) b e =
        let d = elect_done elects c v e in
        subst (Staying elects s C) (sym d.is) record { inv = elected I c v b d.enough d.newest; keeps = λ q p h k. h; sized = refl }
    elect_stays c v (Err f) b e = stays (elect_refused elects c v e)

    pub append_stays : (a : ℕ) (x : Entry V) (o : Result ℕ LogFault) → s.leader ≡ Some a → x.term ≡ s.term → append_move s a x ≡ (t, o) → Staying elects s C t
    append_stays a x (Ok n) i u e =
        let d = append_done a x e in
        subst (Staying elects s C) (sym d.is) record { inv = appended I a i x u; keeps = λ q p h k. chain h (keep_append I a i x q); sized = refl }
    append_stays a x (Err f) i u e = stays (append_refused a x e)

    pub copy_stays : (r : ℕ) (o : Result ℕ LogFault) → copy_move s r ≡ (t, o) → Staying elects s C t
    copy_stays r (Ok n) e =
        let d = copy_done r e in
        subst (Staying elects s C) (sym d.is) record {
          inv = copies_on I d.from d.led r;
          keeps = λ q p h k. keep_copy I d.from d.led r q p h (chain k (I.led d.from d.led).full);
          sized = refl;
        }
    copy_stays r (Err f) e = stays (copy_refused r e)

    -- what copy r has then is a front of the leader's log
    pub copy_front : (a r : ℕ) {n : ℕ} → s.leader ≡ Some a → copy_move s r ≡ (t, Ok n) → t.log r ≼ s.log a
    copy_front a r i e =
        let d = copy_done r e in
        rw d.own (subst (λ (x : ℕ). copied (s.log d.from) (s.log r) ≼ s.log x) (some d.from a (sym d.led ∙ i)) (copied_front I d.from d.led r))

    -- what holds of each log and of its fronts holds of each log after a copy
    pub copy_every : (P : List (Entry V) → Type 0) → ((p l : List (Entry V)) → p ≼ l → P l → P p) → ((q : ℕ) → P (s.log q)) →
        (r : ℕ) (o : Result ℕ LogFault) → copy_move s r ≡ (t, o) → (q : ℕ) → P (t.log q)
    copy_every P fronts all r (Ok n) e =
        let d = copy_done r e in
        let l : List (Entry V) = copied (s.log d.from) (s.log r) in
        subst (λ (x : View V). (q : ℕ) → P (x.log q)) (sym d.is)
        (put_at_lem s.log r l (λ q x. P x) (fronts l (s.log d.from) (copied_front I d.from d.led r) (all d.from)) all)
    copy_every P fronts all r (Err f) e = subst (λ (x : View V). (q : ℕ) → P (x.log q)) (sym (copy_refused r e)) all

    module _ (alike : V → V → Bool) (tells : Telling alike) where
      pub rise_stays : (r n : ℕ) (o : Result (Unit {0}) LogFault) → rise_move alike s r n ≡ (t, o) → Staying elects s C t
      rise_stays r n (Ok tt) e =
          let d = rise_done alike r n e in
          let h = held_committed alike tells s r n d.held in
          let b : n ≤ length C = omega (arith, h.0, best_known_lem I) in
          let f : take n (s.log (best_known s)) ≡ take n C =
          sym (take-take n (s.known (best_known s)) (s.log (best_known s)) h.0) ∙ ap (take n) (is_committed I) in
          subst (Staying elects s C) (sym d.is) record { inv = raised I r n b (h.2 ∙ f); keeps = λ q p h k. h; sized = refl }
      rise_stays r n (Err f) e = stays (rise_refused alike r n e)

      module _ (commits : ℕ → Bool) (meets : Meet s.copies commits elects) (n : ℕ) where
        -- a done commit: the leader's first n entries are the committed log then
        pub commit_extends : {m : ℕ} → (d : CommitDone alike commits s n t m) → C ≼ take n (s.log d.by)
        commit_extends d = extends I d.by d.led n d.above d.fits d.present

        pub commit_holds : {m : ℕ} → (d : CommitDone alike commits s n t m) → Inv elects t (take n (s.log d.by))
        commit_holds d =
            subst (λ (x : View V). Inv elects x (take n (s.log d.by))) (sym d.is)
            (commits_on I d.by d.led n d.above d.fits d.present commits meets (holders alike s d.by n) d.enough (holder_has alike tells s d.by n))

        pub commit_onward : (o : Result ℕ LogFault) → commit_move alike commits s n ≡ (t, o) → Onward elects s C t
        commit_onward (Ok m) e =
            let d = commit_done alike commits n e in
            record {
              now = take n (s.log d.by);
              extends = commit_extends d;
              inv = commit_holds d;
              keeps = λ q p h k. subst (λ (l : ℕ → List (Entry V)). p ≼ l q) (sym d.logs) h;
              sized = d.steady.copies_same;
            }
        commit_onward (Err f) e = onward (stays (commit_refused alike commits n e))
