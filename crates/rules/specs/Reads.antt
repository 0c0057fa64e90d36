-- Readings at a copy and at the leader, over logs as lists.
use Rattle.std.specs.Prelude.{ℕ, Bool, cond, not, Ok, Err, Result}
use Rattle.entries.specs.Search.{zone_of, last_value, zone_stamp}
use Rattle.copies.specs.View.{View}
use Rattle.copies.specs.Questions.{known_log, ready}
use Rattle.raft_log.specs.Moves.{rise_move}
use Rattle.relay.specs.declared.message.Body.TheVariants.{LeaderReply, CopyReply}
use Rattle.relay.specs.declared.message.Message.{Message}
use Rattle.leader.specs.declared.lead.Lead.{Lead}
use Rattle.leader.specs.declared.fault.LeaderFault.{LeaderFault}
use Rattle.leader.specs.declared.fault.LeaderFault.TheVariants.{NotReady, Log}
use Rattle.leader.specs.Faults.{on_result}
use Rattle.leader.specs.Reads.{found}
use Rattle.rules.specs.Sessions.{present}

module _ {V : Type 0} where
  -- what copy r finds among the entries that it knows to be committed
  abbrev pub found_at : View V → Message V → ℕ → Message V
  found_at s m r = found m (CopyReply r (zone_stamp (zone_of m.star) (known_log s r))) (last_value m.star (known_log s r))

  -- the same of the logs as lists: 26
  abbrev pub copy_read_move : (V → V → Bool) → View V → Message V → ℕ → ℕ → View V × Result (Message V) LeaderFault
  copy_read_move alike s m r index =
      let p = rise_move alike s r index in
      on_result p.1 (λ u. (p.0, Ok (found_at p.0 m r))) (λ e. (s, Err (Log e)))

  abbrev pub ready_read : View V → Message V → ℕ → Result (Message V) LeaderFault
  ready_read s m a =
      cond (not (ready s a)) (Err NotReady)
      (Ok (found m LeaderReply (last_value m.star (known_log s a))))

  -- 21 another session; 23 the leader is not ready
  abbrev pub leader_read : View V → Lead → Message V → Result (Message V) LeaderFault
  leader_read s d m = on_result (present s.term d m.session s.leader) (ready_read s m) Err
