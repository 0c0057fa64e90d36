-- The changes of the log, the runs that are made of them, and what is safe over every run.
use Rattle.std.specs.Prelude.{◌≡◌, ℕ, ◌<◌, ◌≤◌, Bool, T, List, [], length, take, Some, None, Ok, Decides}
use Rattle.votes.specs.Sets.{Shared}
use Rattle.entries.specs.declared.entry.Entry.{Entry}
use Rattle.copies.specs.View.{View}
use Rattle.copies.specs.Questions.{committed, known_log, ready}
use Rattle.raft_log.specs.Moves.{elect_move, append_move, copy_move, commit_move, rise_move}

-- a set enough to commit and a set enough to elect share one of the n copies
abbrev pub Meet : ℕ → (ℕ → Bool) → (ℕ → Bool) → Type 0
Meet n commits elects = (a b : ℕ) → T (commits a) → T (elects b) → Shared n a b

module _ {V : Type 0} where
  -- the test says whether two values are one
  abbrev pub Telling : (V → V → Bool) → Type 0
  Telling alike = (a b : V) → Decides (alike a b) (a ≡ b)

  -- the first list is the front of the second
  abbrev pub Front : List (Entry V) → List (Entry V) → Type 0
  Front p l = take (length p) l ≡ p

  -- n copies before the first change: no leader, every log empty, nothing known
  abbrev pub empty_view : ℕ → ℕ → View V
  empty_view n capacity = record { copies = n; capacity = capacity; log = λ r. []; known = λ r. 0; term = 0; leader = None }

  module _ (alike : V → V → Bool) (commits elects : ℕ → Bool) where
    -- one change of the log, done
    pub data Change (s t : View V) : Type 0 where
      elected : (candidate voters n : ℕ) → candidate < s.copies → elect_move elects s candidate voters ≡ (t, Ok n) → Change s t
      appended : (a : ℕ) (e : Entry V) (n : ℕ) → s.leader ≡ Some a → e.term ≡ s.term → append_move s a e ≡ (t, Ok n) → Change s t
      copied : (r n : ℕ) → r < s.copies → copy_move s r ≡ (t, Ok n) → Change s t
      committing : (n m : ℕ) → commit_move alike commits s n ≡ (t, Ok m) → Change s t
      risen : (r n : ℕ) → r < s.copies → rise_move alike s r n ≡ (t, Ok tt) → Change s t

    -- changes one after the other, from the first view to the second
    pub data Run (s : View V) : View V → Type 0 where
      still : Run s s
      then : {t u : View V} → Run s t → Change t u → Run s u

  -- what holds of every view that a run comes to
  pub record Sound (s : View V) : Type 0 where
    -- a copy knows no more than it has, and what it knows to be committed is the front of the committed log
    pub within : (r : ℕ) → r < s.copies → s.known r ≤ length (s.log r)
    pub known_front : (r : ℕ) → r < s.copies → Front (known_log s r) (committed s)
    -- the leader has the committed log as its front, and if it is ready it knows all of it
    pub leader_front : (a : ℕ) → s.leader ≡ Some a → Front (committed s) (s.log a)
    pub ready_knows : (a : ℕ) → s.leader ≡ Some a → T (ready s a) → known_log s a ≡ committed s
    -- a copy that is brought nearer to the leader has a front of the leader's log then
    pub copy_front : (a r n : ℕ) (t : View V) → s.leader ≡ Some a → copy_move s r ≡ (t, Ok n) → Front (t.log r) (s.log a)

  -- what is kept on the way from a view to a later one
  pub record Keeps (s t : View V) : Type 0 where
    -- the committed log only grows
    pub grows : Front (committed s) (committed t)
    -- a copy that has the committed log's first k entries keeps them
    pub holds : (r k : ℕ) → k ≤ length (committed s) → take k (s.log r) ≡ take k (committed s) → take k (t.log r) ≡ take k (committed t)

  -- every run of n copies comes to sound views, and however it goes on, what was committed stays
  abbrev pub Stays : (V → V → Bool) → (ℕ → Bool) → (ℕ → Bool) → ℕ → Type 0
  Stays alike commits elects n =
      (capacity : ℕ) (s : View V) → Run alike commits elects (empty_view n capacity) s →
      Sound s × ((t : View V) → Run alike commits elects s t → Keeps s t)
