-- What a change of the logs leaves within its bounds.
use Rattle.std.proofs.Common.{◌≡◌, ℕ, ◌*◌, ◌<◌, ◌≤◌, max, Bool, true, false, cond, not, leb, ◌⊎◌, List, length, get_or, take, drop, set, Ok, Err, Result, sym, refl, ap, ◌∙◌, inl, inr, arith}
use Rattle.std.proofs.lemmas.List.{get_or-set_same, get_or-set_other, length-take, length-set}
use Rattle.std.proofs.lemmas.Bool.{and_parts, leb-true}
use Rattle.entries.specs.declared.entry.Entry.{Entry}
use Rattle.entries.specs.Compare.{all_alike}
use Rattle.copies.specs.declared.logs.Counts.{Counts}
use Rattle.copies.specs.declared.logs.Logs.{Logs}
use Rattle.copies.specs.Shape.{no_counts, length_of, known_of, Shaped}
use Rattle.copies.specs.View.{log_of, view_of}
use Rattle.copies.specs.Questions.{best_known, holds_of, holds_committed}
use Rattle.raft_log.specs.declared.fault.LogFault.{LogFault}
use Rattle.raft_log.specs.declared.fault.LogFault.TheVariants.{NotCommitted}
use Rattle.raft_log.specs.Calls.{with_known, rise_step}

either : (k r : ℕ) → (k ≡ r) ⊎ (k ≡ r → ⊥)
either k r = grind arith

module _ (l : Logs) (m r n : ℕ) (s : Shaped l m) (h : r < l.copies) (b : n ≤ length_of l r) where
  -- a known count raised within its log
  pub known_kept : Shaped (with_known l r n) m
  known_kept = record {
    some = s.some;
    few = s.few;
    one = s.one;
    small = s.small;
    room = s.room;
    led = s.led;
    places = record { counts_seven = simp length-set s.places.counts_seven };
    inside = λ k j. elim (either k r) [
      | inl e ↦ omega (arith, ap (λ (x : Counts). x.length) (same k e), s.inside r h)
      | inr e ↦ omega (arith, ap (λ (x : Counts). x.length) (other k e), s.inside k j)
    ];
    knows = λ k j. elim (either k r) [
      | inl e ↦ omega (arith, ap (λ (x : Counts). x.length) (same k e), ap (λ (x : Counts). x.known) (same k e), b)
      | inr e ↦ omega (arith, ap (λ (x : Counts). x.length) (other k e), ap (λ (x : Counts). x.known) (other k e), s.knows k j)
    ];
  }
    where
      raised : Counts
      raised = record { length = length_of l r; known = n }

      same : (k : ℕ) → k ≡ r → get_or (set l.counts r raised) k no_counts ≡ raised
      same k e = ap (λ (x : ℕ). get_or (set l.counts r raised) x no_counts) e ∙ get_or-set_same l.counts r raised no_counts (omega (arith, s.few, s.places.counts_seven))

      other : (k : ℕ) → (k ≡ r → ⊥) → get_or (set l.counts r raised) k no_counts ≡ get_or l.counts k no_counts
      other k e = get_or-set_other l.counts r k raised no_counts e

-- a copy that holds n of the committed log's entries has so many
pub held_within : {V : Type 0} (alike : V → V → Bool) (l : Logs) (es : List (Entry V)) (r n : ℕ) → true ≡ holds_committed alike (view_of l es) r n → n ≤ length_of l r
held_within alike l es r n t =
    let s = view_of l es in
    let p = and_parts (leb n (s.known (best_known s))) (holds_of alike s (best_known s) n r) (sym t) in
    let q = and_parts (leb n (length (log_of l es r))) (all_alike alike (take n (log_of l es r)) (take n (log_of l es (best_known s)))) p.1 in
    omega (arith, leb-true n (length (log_of l es r)) q.0, length-take (length_of l r) (drop (r * l.capacity) es))

-- the rise of a known count keeps the shape
rise_by : {V : Type 0} (alike : V → V → Bool) (l : Logs) (es : List (Entry V)) (r n m : ℕ) (b : Bool) → b ≡ holds_committed alike (view_of l es) r n → Shaped l m → r < l.copies →
    Shaped (cond {A = Logs × Result (Unit {0}) LogFault} (not b) (l, Err NotCommitted) (with_known l r (max (known_of l r) n), Ok tt)).0 m
rise_by alike l es r n m true t s h =
    known_kept l m r (max (known_of l r) n) s h (omega (arith, held_within alike l es r n t, s.knows r h))
rise_by alike l es r n m false t s h = s

pub rise_kept : {V : Type 0} (alike : V → V → Bool) (l : Logs) (es : List (Entry V)) (r n m : ℕ) → Shaped l m → r < l.copies → Shaped (rise_step alike l es r n).0 m
rise_kept alike l es r n m s h = rise_by alike l es r n m (holds_committed alike (view_of l es) r n) refl s h
