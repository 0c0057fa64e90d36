-- Each call's equation over struct and slice means the move of the same name.
use Rattle.std.proofs.Common.{◌≡◌, ℕ, suc, ◌+◌, ◌-◌, ◌*◌, ◌<◌, ◌≤◌, max, Bool, true, false, cond, not, ◌||◌, eqb, ltb, leb, List, [], ◌∷◌, ◌++◌, length, get_or, take, drop, set, Some, None, Ok, Err, Option, Result, refl, ap, ◌∙◌, inl, inr, arith}
use mathlib.Core.Path.{fun_ext}
use Rattle.std.proofs.lemmas.Bool.{cases_order}
use Rattle.std.proofs.lemmas.Bool.Decides.{nat_tests}
use Rattle.std.proofs.lemmas.List.{get_or-set_same, get_or-set_other, take-take, take-set-le, take_more_set, drop-set-add, drop-set-lt, length-drop, length-take, drop_more}
use Rattle.entries.specs.declared.entry.Entry.{Entry}
use Rattle.entries.specs.Fronts.{last_term, gap}
use Rattle.copies.specs.declared.logs.Counts.{Counts}
use Rattle.copies.specs.declared.logs.Logs.{Logs}
use Rattle.copies.specs.Shape.{no_counts, length_of, known_of, Shaped}
use Rattle.copies.specs.View.{log_of, View, view_of}
use Rattle.copies.specs.Questions.{none_newer, holders, holds_committed}
use Rattle.raft_log.specs.declared.fault.LogFault.{LogFault}
use Rattle.raft_log.specs.declared.fault.LogFault.TheVariants.{VotersNotEnough, VoterNewer, NothingToCopy, CountOutOfRange, OtherTerm, HoldersNotEnough, LogFull, NotCommitted}
use Rattle.raft_log.specs.Calls.{with_length, with_known, elect_step, append_step, blank_entry, copy_put, copy_by, copy_step, commit_by, commit_step, rise_step}
use Rattle.raft_log.specs.Moves.{put, logged, knowing, copied, elect_move, append_move, copy_from, copy_move, commit_at, commit_move, rise_move}
use Rattle.copies.proofs.Room.{apart, block_of}

-- a function goes through a choice
through : {A B : Type 0} (f : A → B) (b : Bool) (x y : A) → f (cond b x y) ≡ cond b (f x) (f y)
through f true x y = refl
through f false x y = refl

pub put_same : {A : Type 0} (f : ℕ → A) (r : ℕ) (x : A) → put f r x r ≡ x
put_same f r x = let t : eqb r r ≡ true = grind (arith, nat_tests) in rw t

pub put_other : {A : Type 0} (f : ℕ → A) (r : ℕ) (x : A) (q : ℕ) → (q ≡ r → ⊥) → put f r x q ≡ f q
put_other f r x q n = let t : eqb q r ≡ false = grind (arith, nat_tests) in rw t

-- one item of a list set is one value of its function put
pub list_put : {A : Type 0} (d : A) (xs : List A) (r : ℕ) (x : A) → r < length xs → (λ q. get_or (set xs r x) q d) ≡ put (λ q. get_or xs q d) r x
list_put d xs r x h = fun_ext (λ q. elim (cases_order q r) [
  | inl k ↦ rw (k, put_same (λ q. get_or xs q d) r x) (get_or-set_same xs r x d h)
  | inr k ↦ let ne : q ≡ r → ⊥ = elim k [ inl j ↦ omega arith | inr j ↦ omega arith ] in rw (put_other (λ q. get_or xs q d) r x q ne) (get_or-set_other xs r q x d ne)
])

pub get_or-put : (xs : List ℕ) (r n : ℕ) → r < length xs → (λ q. get_or (set xs r n) q 0) ≡ put (λ q. get_or xs q 0) r n
get_or-put = list_put 0

-- a function of what is put is put
put_of : {A B : Type 0} (h : A → B) (f : ℕ → A) (r : ℕ) (x : A) → (λ q. h (put f r x q)) ≡ put (λ q. h (f q)) r (h x)
put_of h f r x = fun_ext (λ q. through h (eqb q r) x (f q))

-- what stands there already
put_own : {A : Type 0} (f : ℕ → A) (r : ℕ) → put f r (f r) ≡ f
put_own f r = fun_ext (λ q. elim (cases_order q r) [
  | inl k ↦ rw k (put_same f r (f r))
  | inr k ↦ put_other f r (f r) q (elim k [ inl j ↦ omega arith | inr j ↦ omega arith ])
])

module _ (l : Logs) (r : ℕ) (h : r < length l.counts) where
  length_kept : (n : ℕ) → length_of (with_known l r n) ≡ length_of l
  length_kept n = let c : Counts = record { length = length_of l r; known = n } in
      ap {B = ℕ → ℕ} (λ (f : ℕ → Counts) (q : ℕ). (f q).length) (list_put no_counts l.counts r c h) ∙ put_of (λ (x : Counts). x.length) (λ q. get_or l.counts q no_counts) r c ∙ put_own (length_of l) r

  known_kept : (n : ℕ) → known_of (with_length l r n) ≡ known_of l
  known_kept n = let c : Counts = record { length = n; known = known_of l r } in
      ap {B = ℕ → ℕ} (λ (f : ℕ → Counts) (q : ℕ). (f q).known) (list_put no_counts l.counts r c h) ∙ put_of (λ (x : Counts). x.known) (λ q. get_or l.counts q no_counts) r c ∙ put_own (known_of l) r

  known_put : (n : ℕ) → known_of (with_known l r n) ≡ put (known_of l) r n
  known_put n = let c : Counts = record { length = length_of l r; known = n } in
      ap {B = ℕ → ℕ} (λ (f : ℕ → Counts) (q : ℕ). (f q).known) (list_put no_counts l.counts r c h) ∙ put_of (λ (x : Counts). x.known) (λ q. get_or l.counts q no_counts) r c

-- what an outcome shows
abbrev pub seen : {V X : Type 0} → Logs × List (Entry V) × X → View V × X
seen p = (view_of p.0 p.1, p.2)

abbrev pub seen_at : {V X : Type 0} → List (Entry V) → Logs × X → View V × X
seen_at es p = (view_of p.0 es, p.1)

gap_short : {V : Type 0} (a b : List (Entry V)) → gap a b ≤ length b
gap_short [] b = omega arith
gap_short (x ∷ a) [] = omega arith
gap_short (x ∷ a) (y ∷ b) = by (eqb x.term y.term) (gap_short a b)
  where
    by : (t : Bool) → gap a b ≤ length b → cond t (suc (gap a b)) 0 ≤ suc (length b)
    by true h = omega arith
    by false h = omega arith

module _ {V : Type 0} (l : Logs) (es : List (Entry V)) (s : Shaped l (length es)) where
  -- a log is as long as its number says
  pub log_length : (r : ℕ) → r < l.copies → length (log_of l es r) ≡ length_of l r
  log_length r h =
      let b = block_of l.copies l.capacity (length es) r h s.room in
      simp (length-take, length-drop) (omega (arith, s.inside r h))

  -- one entry written behind the first p of copy r's log, which then ends there
  module _ (r p : ℕ) (e : Entry V) (copy : r < l.copies) (behind : p ≤ length_of l r) (room : p < l.capacity) where
    written : (q : ℕ) → log_of (with_length l r (p + 1)) (set es (r * l.capacity + p) e) q ≡ put (log_of l es) r (take p (log_of l es r) ++ e ∷ []) q
    written q = elim (cases_order q r) [
      | inl k ↦ rw (k, put_same (log_of l es) r (take p (log_of l es r) ++ e ∷ [])) here
      | inr k ↦
          let ne : q ≡ r → ⊥ = elim k [ inl j ↦ omega arith | inr j ↦ omega arith ] in
          rw (put_other (log_of l es) r (take p (log_of l es r) ++ e ∷ []) q ne, ap (λ (x : Counts). x.length) (get_or-set_other l.counts r q ended no_counts ne)) (elim k [ inl j ↦ below j | inr j ↦ above j ])
    ]
      where
        ended : Counts
        ended = record { length = p + 1; known = known_of l r }

        block : r * l.capacity + l.capacity ≤ length es
        block = block_of l.copies l.capacity (length es) r copy s.room

        here : take (length_of (with_length l r (p + 1)) r) (drop (r * l.capacity) (set es (r * l.capacity + p) e)) ≡ take p (log_of l es r) ++ e ∷ []
        here =
            rw (ap (λ (x : Counts). x.length) (get_or-set_same l.counts r ended no_counts (omega (arith, s.few, s.places.counts_seven))), drop-set-add (r * l.capacity) es p e, take_more_set (drop (r * l.capacity) es) p e (simp length-drop (omega (arith, block))), take-take p (length_of l r) (drop (r * l.capacity) es) behind)

        below : q < r → take (length_of l q) (drop (q * l.capacity) (set es (r * l.capacity + p) e)) ≡ take (length_of l q) (drop (q * l.capacity) es)
        below j =
            let a : q * l.capacity + l.capacity ≤ r * l.capacity = apart q r l.capacity j in
            let at : r * l.capacity + p ≡ q * l.capacity + (r * l.capacity + p - q * l.capacity) = omega arith in
            rw (at, drop-set-add (q * l.capacity) es (r * l.capacity + p - q * l.capacity) e) (take-set-le (length_of l q) (drop (q * l.capacity) es) (r * l.capacity + p - q * l.capacity) e (omega (arith, s.inside q (omega arith))))

        above : r < q → take (length_of l q) (drop (q * l.capacity) (set es (r * l.capacity + p) e)) ≡ take (length_of l q) (drop (q * l.capacity) es)
        above j = rw (drop-set-lt (q * l.capacity) es (r * l.capacity + p) e (omega (arith, apart r q l.capacity j)))

    pub put_means : view_of (with_length l r (p + 1)) (set es (r * l.capacity + p) e) ≡ logged (view_of l es) r (take p (log_of l es r) ++ e ∷ [])
    put_means = λ i. record { copies = l.copies; capacity = l.capacity; log = fun_ext written i; known = known_kept l r (omega (arith, s.few, s.places.counts_seven)) (p + 1) i; term = l.term; leader = l.leader }

  -- elect
  pub elect_means : (elects : ℕ → Bool) (c v : ℕ) → seen_at es (elect_step elects l es c v) ≡ elect_move elects (view_of l es) c v
  unfolding elect_move
  elect_means elects c v =
      let f : Logs × Result ℕ LogFault → View V × Result ℕ LogFault = seen_at es in
      through f (not (elects v)) _ _
      ∙ ap (cond (not (elects v)) (view_of l es, Err VotersNotEnough)) (through f (not (none_newer (view_of l es) c v)) _ _
      ∙ ap (cond (not (none_newer (view_of l es) c v)) (view_of l es, Err VoterNewer)) (through f (eqb l.term 65535) _ _))

  -- append
  append_by : (a n : ℕ) (e : Entry V) (b : Bool) → a < l.copies → n ≡ length_of l a → b ≡ leb l.capacity n →
      seen (cond b (l, es, Err LogFull) (with_length l a (n + 1), set es (a * l.capacity + n) e, Ok (n + 1))) ≡
      cond {A = View V × Result ℕ LogFault} b (view_of l es, Err LogFull) (logged (view_of l es) a (log_of l es a ++ e ∷ []), Ok (n + 1))
  append_by a n e true h i t = refl
  append_by a n e false h i t =
      let k : n < l.capacity = grind (arith, nat_tests) in
      let w : take n (log_of l es a) ≡ log_of l es a = rw (i) (take-take (length_of l a) (length_of l a) (drop (a * l.capacity) es) (omega arith)) in
      let m = put_means a n e h (omega arith) k in
      ap (λ (x : View V). (x, Ok (n + 1))) (rw w at m)

  pub append_means : (a : ℕ) (e : Entry V) → a < l.copies → seen (append_step l es a e) ≡ append_move (view_of l es) a e
  unfolding append_move
  append_means a e h = rw (log_length a h) (append_by a (length_of l a) e (leb l.capacity (length_of l a)) h refl refl)

  -- copy
  copy_put_lem : (blank : V) (a r : ℕ) (b : Bool) → a < l.copies → r < l.copies → b ≡ leb (length (log_of l es a)) (gap (log_of l es a) (log_of l es r)) →
      seen (copy_put blank l es r (cond b None (Some (gap (log_of l es a) (log_of l es r), get_or (log_of l es a) (gap (log_of l es a) (log_of l es r)) (blank_entry blank))))) ≡
      cond {A = View V × Result ℕ LogFault} b (view_of l es, Err NothingToCopy) (logged (view_of l es) r (copied (log_of l es a) (log_of l es r)), Ok (gap (log_of l es a) (log_of l es r) + 1))
  copy_put_lem blank a r true ha hr t = refl
  copy_put_lem blank a r false ha hr t =
      let g = gap (log_of l es a) (log_of l es r) in
      let k : gap (log_of l es a) (log_of l es r) < length (log_of l es a) = grind (arith, nat_tests) in
      let one : take 1 (drop (gap (log_of l es a) (log_of l es r)) (log_of l es a)) ≡ get_or (log_of l es a) (gap (log_of l es a) (log_of l es r)) (blank_entry blank) ∷ [] = rw (drop_more (log_of l es a) (gap (log_of l es a) (log_of l es r)) (blank_entry blank) k) in
      let m = put_means r (gap (log_of l es a) (log_of l es r)) (get_or (log_of l es a) (gap (log_of l es a) (log_of l es r)) (blank_entry blank)) hr
      (omega (arith, gap_short (log_of l es a) (log_of l es r), log_length r hr)) (omega (arith, log_length a ha, s.inside a ha)) in
      ap (λ (x : View V). (x, Ok (gap (log_of l es a) (log_of l es r) + 1))) (rw (← one) at m)

  copy_from_lem : (blank : V) (r : ℕ) (o : Option ℕ) → ((a : ℕ) → o ≡ Some a → a < l.copies) → r < l.copies → seen (copy_by blank l es r o) ≡ copy_from (view_of l es) r o
  copy_from_lem blank r None led hr = refl
  copy_from_lem blank r (Some a) led hr = copy_put_lem blank a r (leb (length (log_of l es a)) (gap (log_of l es a) (log_of l es r))) (led a refl) hr refl

  pub copy_means : (blank : V) (r : ℕ) → r < l.copies → seen (copy_step blank l es r) ≡ copy_move (view_of l es) r
  unfolding copy_move
  copy_means blank r hr = copy_from_lem blank r l.leader s.led hr

  -- a known count raised
  known_means : {X : Type 0} (r n : ℕ) (x : X) → r < l.copies → seen_at es (with_known l r n, x) ≡ (knowing (view_of l es) r n, x)
  known_means r n x h = λ i. (record { copies = l.copies; capacity = l.capacity; log = λ q. take (length_kept l r (omega (arith, s.few, s.places.counts_seven)) n i q) (drop (q * l.capacity) es); known = known_put l r (omega (arith, s.few, s.places.counts_seven)) n i; term = l.term; leader = l.leader }, x)

  -- commit
  commit_at_lem : (alike : V → V → Bool) (commits : ℕ → Bool) (n : ℕ) (o : Option ℕ) → ((a : ℕ) → o ≡ Some a → a < l.copies) →
      seen_at es (commit_by alike commits l es n o) ≡ commit_at alike commits (view_of l es) n o
  commit_at_lem alike commits n None led = refl
  commit_at_lem alike commits n (Some a) led =
      let f : Logs × Result ℕ LogFault → View V × Result ℕ LogFault = seen_at es in
      rw (log_length a (led a refl)) (
      through f (leb n (known_of l a) || ltb (length_of l a) n) _ _
      ∙ ap (cond (leb n (known_of l a) || ltb (length_of l a) n) (view_of l es, Err CountOutOfRange)) (through f (not (eqb (last_term (take n (log_of l es a))) l.term)) _ _
      ∙ ap (cond (not (eqb (last_term (take n (log_of l es a))) l.term)) (view_of l es, Err OtherTerm)) (through f (not (commits (holders alike (view_of l es) a n))) _ _
      ∙ ap (cond (not (commits (holders alike (view_of l es) a n))) (view_of l es, Err HoldersNotEnough)) (known_means a n (Ok n) (led a refl)))))

  pub commit_means : (alike : V → V → Bool) (commits : ℕ → Bool) (n : ℕ) → seen_at es (commit_step alike commits l es n) ≡ commit_move alike commits (view_of l es) n
  unfolding commit_move
  commit_means alike commits n = commit_at_lem alike commits n l.leader s.led

  -- the rise of a known count
  pub rise_means : (alike : V → V → Bool) (r n : ℕ) → r < l.copies → seen_at es (rise_step alike l es r n) ≡ rise_move alike (view_of l es) r n
  unfolding rise_move
  rise_means alike r n h =
      let f : Logs × Result (Unit {0}) LogFault → View V × Result (Unit {0}) LogFault = seen_at es in
      through f (not (holds_committed alike (view_of l es) r n)) _ _
      ∙ ap (cond (not (holds_committed alike (view_of l es) r n)) (view_of l es, Err NotCommitted)) (known_means r (max (known_of l r) n) (Ok tt) h)
