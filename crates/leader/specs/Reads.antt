-- Readings at a copy and at the leader.
use Rattle.std.specs.Prelude.{ℕ, Bool, cond, not, List, Ok, Err, Option, Result}
use Rattle.entries.specs.declared.entry.Entry.{Entry}
use Rattle.entries.specs.Search.{zone_of, last_value, zone_stamp}
use Rattle.copies.specs.declared.logs.Logs.{Logs}
use Rattle.copies.specs.View.{view_of}
use Rattle.copies.specs.Questions.{known_log, ready}
use Rattle.raft_log.specs.Calls.{rise_step}
use Rattle.relay.specs.declared.message.Body.{Body}
use Rattle.relay.specs.declared.message.Body.TheVariants.{LeaderReply, CopyReply}
use Rattle.relay.specs.declared.message.Message.{Message}
use Rattle.leader.specs.declared.lead.Lead.{Lead}
use Rattle.leader.specs.declared.fault.LeaderFault.{LeaderFault}
use Rattle.leader.specs.declared.fault.LeaderFault.TheVariants.{NotReady, Log}
use Rattle.leader.specs.Faults.{on_result}
use Rattle.leader.specs.Sessions.{present}

module _ {V : Type 0} where
  -- the reply to a reading, with what was found
  abbrev pub found : Message V → Body → Option V → Message V
  found m b v = record { client = m.client; number = m.number; star = m.star; session = m.session; body = b; value = v }

  -- what copy r finds among the entries that it knows to be committed
  abbrev pub found_at : Logs → List (Entry V) → Message V → ℕ → Message V
  found_at l es m r =
      found m (CopyReply r (zone_stamp (zone_of m.star) (known_log (view_of l es) r))) (last_value m.star (known_log (view_of l es) r))

  -- the known count rises to the index, if lower, and then the copy answers
  abbrev pub copy_read : (V → V → Bool) → Logs → List (Entry V) → Message V → ℕ → ℕ → Logs × Result (Message V) LeaderFault
  copy_read alike l es m r index =
      let p = rise_step alike l es r index in
      on_result p.1 (λ u. (p.0, Ok (found_at p.0 es m r))) (λ e. (p.0, Err (Log e)))

  abbrev pub ready_read : Logs → List (Entry V) → Message V → ℕ → Result (Message V) LeaderFault
  ready_read l es m a =
      cond (not (ready (view_of l es) a)) (Err NotReady)
      (Ok (found m LeaderReply (last_value m.star (known_log (view_of l es) a))))

  abbrev pub leader_read : Logs → Lead → List (Entry V) → Message V → Result (Message V) LeaderFault
  leader_read l d es m = on_result (present l d m.session l.leader) (ready_read l es m) Err
