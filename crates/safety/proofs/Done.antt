-- What each move did: of one that is done every check was passed, and one that is refused leaves the view as it was.
use Rattle.std.proofs.Common.{◌≡◌, ℕ, ◌+◌, ◌<◌, ◌≤◌, max, Bool, true, false, not, T, eqb, ltb, leb, List, [], ◌∷◌, ◌++◌, length, take, Some, None, Ok, Err, Option, Result, sym, refl, ap, subst, arith}
use Rattle.std.proofs.lemmas.Float.{T_from_true}
use Rattle.std.proofs.lemmas.Bool.{cond-true, cond-false, eq-eqb, ne_eqb, and_parts, leb-true, leb-false, ltb-false, eqb-true, eqb-false}
use Rattle.votes.specs.Sets.{bit}
use Rattle.entries.specs.declared.entry.Entry.{Entry}
use Rattle.entries.specs.Compare.{all_alike}
use Rattle.entries.specs.Fronts.{last_term, newer, gap}
use Rattle.copies.specs.View.{View}
use Rattle.copies.specs.Questions.{best_known, objects_to, none_newer, holds_of, holders, holds_committed}
use Rattle.copies.proofs.Below.{all_each}
use Rattle.raft_log.specs.declared.fault.LogFault.{LogFault}
use Rattle.raft_log.proofs.Meaning.{put_same, put_other}
use Rattle.raft_log.specs.Moves.{leading, logged, knowing, copied, elect_move, append_move, copy_from, copy_move, commit_at, commit_move, rise_move}
use Rattle.safety.specs.Runs.{Telling}
use Rattle.safety.proofs.Masks.{in_mask}
use Rattle.safety.proofs.Alike.{all_one}

-- ---- tests

pub is_true : (b : Bool) → T b → b ≡ true
is_true true h = refl
is_true false h = absurd h

-- ---- what a done move did

-- the same copies, of the same capacity, under the same leader in the same term
pub record Steady {V : Type 0} (s t : View V) : Type 0 where
  pub copies_same : t.copies ≡ s.copies
  pub capacity_same : t.capacity ≡ s.capacity
  pub term_same : t.term ≡ s.term
  pub leader_same : t.leader ≡ s.leader

pub unchanged : {V : Type 0} (s : View V) → Steady s s
unchanged s = record { copies_same = refl; capacity_same = refl; term_same = refl; leader_same = refl }

module _ {V : Type 0} (s : View V) {t : View V} where
  -- what another log of copy r leaves
  pub logged_steady : (r : ℕ) (l : List (Entry V)) → t ≡ logged s r l → Steady s t
  logged_steady r l e = subst (Steady s) (sym e) record { copies_same = refl; capacity_same = refl; term_same = refl; leader_same = refl }

  pub logged_own : (r : ℕ) (l : List (Entry V)) → t ≡ logged s r l → t.log r ≡ l
  logged_own r l e = rw e (put_same s.log r l)

  pub logged_others : (r : ℕ) (l : List (Entry V)) → t ≡ logged s r l → (q : ℕ) → (q ≡ r → ⊥) → t.log q ≡ s.log q
  logged_others r l e q d = rw e (put_other s.log r l q d)

  pub logged_counts : (r : ℕ) (l : List (Entry V)) → t ≡ logged s r l → t.known ≡ s.known
  logged_counts r l e = ap (λ (v : View V). v.known) e

  -- what another known count of copy r leaves
  pub knowing_steady : (r n : ℕ) → t ≡ knowing s r n → Steady s t
  knowing_steady r n e = subst (Steady s) (sym e) record { copies_same = refl; capacity_same = refl; term_same = refl; leader_same = refl }

  pub knowing_own : (r n : ℕ) → t ≡ knowing s r n → t.known r ≡ n
  knowing_own r n e = rw e (put_same s.known r n)

  pub knowing_others : (r n : ℕ) → t ≡ knowing s r n → (q : ℕ) → (q ≡ r → ⊥) → t.known q ≡ s.known q
  knowing_others r n e q d = rw e (put_other s.known r n q d)

  pub knowing_logs : (r n : ℕ) → t ≡ knowing s r n → t.log ≡ s.log
  knowing_logs r n e = ap (λ (v : View V). v.log) e

-- copy c leads the next term; logs and known counts are as they were
pub record ElectDone {V : Type 0} (elects : ℕ → Bool) (s : View V) (c v : ℕ) (t : View V) (n : ℕ) : Type 0 where
  pub enough : T (elects v)
  pub newest : (r : ℕ) → r < s.copies → bit v r ≡ 1 → newer (s.log r) (s.log c) ≡ false
  pub terms : s.term ≡ 65535 → ⊥
  pub is : t ≡ leading s c
  pub answer : n ≡ s.term + 1
  pub copies_same : t.copies ≡ s.copies
  pub capacity_same : t.capacity ≡ s.capacity
  pub logs : t.log ≡ s.log
  pub counts : t.known ≡ s.known
  pub next : t.term ≡ s.term + 1
  pub leads : t.leader ≡ Some c

-- the log of copy a has the entry at its end; nothing else is changed
pub record AppendDone {V : Type 0} (s : View V) (a : ℕ) (e : Entry V) (t : View V) (n : ℕ) : Type 0 where
  pub room : length (s.log a) < s.capacity
  pub is : t ≡ logged s a (s.log a ++ e ∷ [])
  pub answer : n ≡ length (s.log a) + 1
  pub steady : Steady s t
  pub own : t.log a ≡ s.log a ++ e ∷ []
  pub others : (q : ℕ) → (q ≡ a → ⊥) → t.log q ≡ s.log q
  pub counts : t.known ≡ s.known

-- the log of copy r has one entry of the leader's where it parted from the leader's log; nothing else is changed
pub record CopyDone {V : Type 0} (s : View V) (r : ℕ) (t : View V) (n : ℕ) : Type 0 where
  pub from : ℕ
  pub led : s.leader ≡ Some from
  pub lacks : gap (s.log from) (s.log r) < length (s.log from)
  pub is : t ≡ logged s r (copied (s.log from) (s.log r))
  pub answer : n ≡ gap (s.log from) (s.log r) + 1
  pub steady : Steady s t
  pub own : t.log r ≡ copied (s.log from) (s.log r)
  pub others : (q : ℕ) → (q ≡ r → ⊥) → t.log q ≡ s.log q
  pub counts : t.known ≡ s.known

-- the leader knows n entries; nothing else is changed
pub record CommitDone {V : Type 0} (alike : V → V → Bool) (commits : ℕ → Bool) (s : View V) (n : ℕ) (t : View V) (m : ℕ) : Type 0 where
  pub by : ℕ
  pub led : s.leader ≡ Some by
  pub above : s.known by < n
  pub fits : n ≤ length (s.log by)
  pub present : last_term (take n (s.log by)) ≡ s.term
  pub enough : T (commits (holders alike s by n))
  pub is : t ≡ knowing s by n
  pub answer : m ≡ n
  pub steady : Steady s t
  pub own : t.known by ≡ n
  pub others : (q : ℕ) → (q ≡ by → ⊥) → t.known q ≡ s.known q
  pub logs : t.log ≡ s.log

-- copy r knows n entries at least; nothing else is changed
pub record RiseDone {V : Type 0} (alike : V → V → Bool) (s : View V) (r n : ℕ) (t : View V) : Type 0 where
  pub held : holds_committed alike s r n ≡ true
  pub is : t ≡ knowing s r (max (s.known r) n)
  pub steady : Steady s t
  pub own : t.known r ≡ max (s.known r) n
  pub others : (q : ℕ) → (q ≡ r → ⊥) → t.known q ≡ s.known q
  pub logs : t.log ≡ s.log

module _ {V : Type 0} {s t : View V} where
  pub elect_done : (elects : ℕ → Bool) (c v : ℕ) {n : ℕ} → elect_move elects s c v ≡ (t, Ok n) → ElectDone elects s c v t n
  unfolding elect_move
  elect_done elects c v {n} e =
      let p : (elects v ≡ true) × (none_newer s c v ≡ true) × (eqb s.term 65535 ≡ false) = grind arith in
      let w : (t ≡ leading s c) × (n ≡ s.term + 1) = grind arith in
      record {
        enough = T_from_true (elects v) p.0;
        newest = λ r h b. let w = all_each (λ r. not (objects_to s c v r)) s.copies p.1 r h in grind (arith, eq-eqb (bit v r) 1 b);
        terms = eqb-false s.term 65535 p.2;
        is = w.0;
        answer = w.1;
        copies_same = ap (λ (x : View V). x.copies) w.0;
        capacity_same = ap (λ (x : View V). x.capacity) w.0;
        logs = ap (λ (x : View V). x.log) w.0;
        counts = ap (λ (x : View V). x.known) w.0;
        next = ap (λ (x : View V). x.term) w.0;
        leads = ap (λ (x : View V). x.leader) w.0;
      }

  pub elect_refused : (elects : ℕ → Bool) (c v : ℕ) {f : LogFault} → elect_move elects s c v ≡ (t, Err f) → t ≡ s
  unfolding elect_move
  elect_refused elects c v {f} e = grind arith

  pub append_done : (a : ℕ) (x : Entry V) {n : ℕ} → append_move s a x ≡ (t, Ok n) → AppendDone s a x t n
  unfolding append_move
  append_done a x {n} e =
      let p : leb s.capacity (length (s.log a)) ≡ false = grind arith in
      let w : (t ≡ logged s a (s.log a ++ x ∷ [])) × (n ≡ length (s.log a) + 1) = grind arith in
      record {
        room = leb-false s.capacity (length (s.log a)) p;
        is = w.0;
        answer = w.1;
        steady = logged_steady s a (s.log a ++ x ∷ []) w.0;
        own = logged_own s a (s.log a ++ x ∷ []) w.0;
        others = logged_others s a (s.log a ++ x ∷ []) w.0;
        counts = logged_counts s a (s.log a ++ x ∷ []) w.0;
      }

  pub append_refused : (a : ℕ) (x : Entry V) {f : LogFault} → append_move s a x ≡ (t, Err f) → t ≡ s
  unfolding append_move
  append_refused a x {f} e = grind arith

  pub copy_done : (r : ℕ) {n : ℕ} → copy_move s r ≡ (t, Ok n) → CopyDone s r t n
  unfolding copy_move
  copy_done r {n} e = at s.leader refl e
    where
      at : (o : Option ℕ) → s.leader ≡ o → copy_from s r o ≡ (t, Ok n) → CopyDone s r t n
      at None i e = grind arith
      at (Some a) i e =
          let p : leb (length (s.log a)) (gap (s.log a) (s.log r)) ≡ false = grind arith in
          let w : (t ≡ logged s r (copied (s.log a) (s.log r))) × (n ≡ gap (s.log a) (s.log r) + 1) = grind arith in
          record {
            from = a;
            led = i;
            lacks = leb-false (length (s.log a)) (gap (s.log a) (s.log r)) p;
            is = w.0;
            answer = w.1;
            steady = logged_steady s r (copied (s.log a) (s.log r)) w.0;
            own = logged_own s r (copied (s.log a) (s.log r)) w.0;
            others = logged_others s r (copied (s.log a) (s.log r)) w.0;
            counts = logged_counts s r (copied (s.log a) (s.log r)) w.0;
          }

  pub copy_refused : (r : ℕ) {f : LogFault} → copy_move s r ≡ (t, Err f) → t ≡ s
  unfolding copy_move
  copy_refused r {f} e = at s.leader e
    where
      at : (o : Option ℕ) → copy_from s r o ≡ (t, Err f) → t ≡ s
      at None e = grind arith
      at (Some a) e = grind arith

  module _ (alike : V → V → Bool) where
    pub commit_done : (commits : ℕ → Bool) (n : ℕ) {m : ℕ} → commit_move alike commits s n ≡ (t, Ok m) → CommitDone alike commits s n t m
    unfolding commit_move
    commit_done commits n {m} e = at s.leader refl e
      where
        at : (o : Option ℕ) → s.leader ≡ o → commit_at alike commits s n o ≡ (t, Ok m) → CommitDone alike commits s n t m
        at None i e = grind arith
        at (Some a) i e =
            let p : (leb n (s.known a) ≡ false) × (ltb (length (s.log a)) n ≡ false) × (eqb (last_term (take n (s.log a))) s.term ≡ true)
            × (commits (holders alike s a n) ≡ true) = grind arith in
            let w : (t ≡ knowing s a n) × (m ≡ n) = grind arith in
            record {
              by = a;
              led = i;
              above = leb-false n (s.known a) p.0;
              fits = ltb-false (length (s.log a)) n p.1;
              present = eqb-true (last_term (take n (s.log a))) s.term p.2;
              enough = T_from_true (commits (holders alike s a n)) p.3;
              is = w.0;
              answer = w.1;
              steady = knowing_steady s a n w.0;
              own = knowing_own s a n w.0;
              others = knowing_others s a n w.0;
              logs = knowing_logs s a n w.0;
            }

    pub commit_refused : (commits : ℕ → Bool) (n : ℕ) {f : LogFault} → commit_move alike commits s n ≡ (t, Err f) → t ≡ s
    unfolding commit_move
    commit_refused commits n {f} e = at s.leader e
      where
        at : (o : Option ℕ) → commit_at alike commits s n o ≡ (t, Err f) → t ≡ s
        at None e = grind arith
        at (Some a) e = grind arith

    pub rise_done : (r n : ℕ) → rise_move alike s r n ≡ (t, Ok tt) → RiseDone alike s r n t
    unfolding rise_move
    rise_done r n e =
        let h : holds_committed alike s r n ≡ true = grind arith in
        let w : t ≡ knowing s r (max (s.known r) n) = grind arith in
        record {
          held = h;
          is = w;
          steady = knowing_steady s r (max (s.known r) n) w;
          own = knowing_own s r (max (s.known r) n) w;
          others = knowing_others s r (max (s.known r) n) w;
          logs = knowing_logs s r (max (s.known r) n) w;
        }

    pub rise_refused : (r n : ℕ) {f : LogFault} → rise_move alike s r n ≡ (t, Err f) → t ≡ s
    unfolding rise_move
    rise_refused r n {f} e = grind arith

-- ---- what a move leaves, done or refused

module _ {V : Type 0} (s : View V) {t : View V} where
  pub elect_logs : (elects : ℕ → Bool) (c v : ℕ) (o : Result ℕ LogFault) → elect_move elects s c v ≡ (t, o) → t.log ≡ s.log
  elect_logs elects c v (Ok n) e = (elect_done elects c v e).logs
  elect_logs elects c v (Err f) e = ap (λ (x : View V). x.log) (elect_refused elects c v e)

  pub elect_counts : (elects : ℕ → Bool) (c v : ℕ) (o : Result ℕ LogFault) → elect_move elects s c v ≡ (t, o) → t.known ≡ s.known
  elect_counts elects c v (Ok n) e = (elect_done elects c v e).counts
  elect_counts elects c v (Err f) e = ap (λ (x : View V). x.known) (elect_refused elects c v e)

  pub append_steady : (a : ℕ) (x : Entry V) (o : Result ℕ LogFault) → append_move s a x ≡ (t, o) → Steady s t
  append_steady a x (Ok n) e = (append_done a x e).steady
  append_steady a x (Err f) e = subst (Steady s) (sym (append_refused a x e)) (unchanged s)

  pub append_counts : (a : ℕ) (x : Entry V) (o : Result ℕ LogFault) → append_move s a x ≡ (t, o) → t.known ≡ s.known
  append_counts a x (Ok n) e = (append_done a x e).counts
  append_counts a x (Err f) e = ap (λ (v : View V). v.known) (append_refused a x e)

  pub copy_steady : (r : ℕ) (o : Result ℕ LogFault) → copy_move s r ≡ (t, o) → Steady s t
  copy_steady r (Ok n) e = (copy_done r e).steady
  copy_steady r (Err f) e = subst (Steady s) (sym (copy_refused r e)) (unchanged s)

  pub copy_counts : (r : ℕ) (o : Result ℕ LogFault) → copy_move s r ≡ (t, o) → t.known ≡ s.known
  copy_counts r (Ok n) e = (copy_done r e).counts
  copy_counts r (Err f) e = ap (λ (v : View V). v.known) (copy_refused r e)

  module _ (alike : V → V → Bool) where
    pub commit_steady : (commits : ℕ → Bool) (n : ℕ) (o : Result ℕ LogFault) → commit_move alike commits s n ≡ (t, o) → Steady s t
    commit_steady commits n (Ok m) e = (commit_done alike commits n e).steady
    commit_steady commits n (Err f) e = subst (Steady s) (sym (commit_refused alike commits n e)) (unchanged s)

    pub commit_logs : (commits : ℕ → Bool) (n : ℕ) (o : Result ℕ LogFault) → commit_move alike commits s n ≡ (t, o) → t.log ≡ s.log
    commit_logs commits n (Ok m) e = (commit_done alike commits n e).logs
    commit_logs commits n (Err f) e = ap (λ (v : View V). v.log) (commit_refused alike commits n e)

    pub rise_steady : (r n : ℕ) (o : Result (Unit {0}) LogFault) → rise_move alike s r n ≡ (t, o) → Steady s t
    rise_steady r n (Ok tt) e = (rise_done alike r n e).steady
    rise_steady r n (Err f) e = subst (Steady s) (sym (rise_refused alike r n e)) (unchanged s)

    pub rise_logs : (r n : ℕ) (o : Result (Unit {0}) LogFault) → rise_move alike s r n ≡ (t, o) → t.log ≡ s.log
    rise_logs r n (Ok tt) e = (rise_done alike r n e).logs
    rise_logs r n (Err f) e = ap (λ (v : View V). v.log) (rise_refused alike r n e)

-- ---- what holding means, where the kind's test tells values apart

module _ {V : Type 0} (alike : V → V → Bool) (tells : Telling alike) (s : View V) where
  pub held_front : (a n r : ℕ) → holds_of alike s a n r ≡ true → (n ≤ length (s.log r)) × (take n (s.log r) ≡ take n (s.log a))
  held_front a n r e =
      let w = and_parts (leb n (length (s.log r))) (all_alike alike (take n (s.log r)) (take n (s.log a))) e in
      (leb-true n (length (s.log r)) w.0, all_one alike tells (take n (s.log r)) (take n (s.log a)) w.1)

  -- a copy among the holders of the leader's first n entries has them
  pub holder_has : (a n r : ℕ) → r < s.copies → bit (holders alike s a n) r ≡ 1 → take n (s.log r) ≡ take n (s.log a)
  holder_has a n r h b = (held_front a n r (in_mask (holds_of alike s a n) s.copies r h b)).1

  pub held_committed : (r n : ℕ) → holds_committed alike s r n ≡ true →
      (n ≤ s.known (best_known s)) × (n ≤ length (s.log r)) × (take n (s.log r) ≡ take n (s.log (best_known s)))
  held_committed r n e =
      let w = and_parts (leb n (s.known (best_known s))) (holds_of alike s (best_known s) n r) e in
      let h = held_front (best_known s) n r w.1 in
      (leb-true n (s.known (best_known s)) w.0, h.0, h.1)
