-- The run, change by change.
use Rattle.std.proofs.Common.{ℕ, [], ◌∷◌, ◌++◌, refl, arith}
use Rattle.copies.specs.View.{View}
use Rattle.raft_log.specs.Moves.{leading, logged, knowing, copied, elect_move, append_move, copy_move, commit_move, rise_move}
use Rattle.safety.specs.Runs.{empty_view}
use Rattle.safety.specs.Runs.Change.{elected, appended, copied as copied_to, committing, risen}
use Rattle.safety.specs.Runs.Run.{still, then}
use Rattle.safety.specs.Example.{first, lost, second, RunOfThree, CommitsTwice}

abbrev s1 : View ℕ
s1 = leading (empty_view 3 8) 0

abbrev s2 : View ℕ
s2 = logged s1 0 (s1.log 0 ++ first ∷ [])

abbrev s3 : View ℕ
s3 = logged s2 1 (copied (s2.log 0) (s2.log 1))

abbrev s4 : View ℕ
s4 = knowing s3 0 1

abbrev s5 : View ℕ
s5 = logged s4 0 (s4.log 0 ++ lost ∷ [])

abbrev s6 : View ℕ
s6 = leading s5 1

abbrev s7 : View ℕ
s7 = logged s6 1 (s6.log 1 ++ second ∷ [])

abbrev s8 : View ℕ
s8 = logged s7 0 (copied (s7.log 1) (s7.log 0))

abbrev s9 : View ℕ
s9 = knowing s8 1 2

abbrev s10 : View ℕ
s10 = knowing s9 0 2

first_part : RunOfThree (empty_view 3 8) s5
unfolding elect_move append_move copy_move commit_move
first_part =
    then (then (then (then (then still
    (elected 0 3 1 (omega arith) refl))
    (appended 0 first 1 refl refl refl))
    (copied_to 1 1 (omega arith) refl))
    (committing 1 1 refl))
    (appended 0 lost 2 refl refl refl)

second_part : RunOfThree s5 s10
unfolding elect_move append_move copy_move commit_move rise_move
second_part =
    then (then (then (then (then still
    (elected 1 6 2 (omega arith) refl))
    (appended 1 second 2 refl refl refl))
    (copied_to 0 2 (omega arith) refl))
    (committing 2 2 refl))
    (risen 0 2 (omega arith) refl)

pub commits_twice : CommitsTwice
commits_twice = (
  s5,
  s10,
  record { run = first_part; term = refl; leader = refl; has = refl; done = refl },
  record { run = second_part; term = refl; leader = refl; has = refl; knows = refl; done = refl },
)
