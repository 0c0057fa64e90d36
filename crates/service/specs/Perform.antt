-- Any of the fourteen steps, over the whole service: the struct, the entries, the messages and the kept values.
use Rattle.std.specs.Prelude.{ℕ, Bool, List, Ok, Err, Result}
use Rattle.entries.specs.declared.entry.Entry.{Entry}
use Rattle.relay.specs.declared.message.Message.{Message}
use Rattle.state.specs.declared.service.Service.{Service}
use Rattle.state.specs.declared.fault.ServiceFault.{ServiceFault}
use Rattle.replication.specs.Steps as copies
use Rattle.requests.specs.Clients as clients
use Rattle.requests.specs.Table as table
use Rattle.delivery.specs.declared.step.Effect.{Effect}
use Rattle.delivery.specs.declared.step.Effect.TheVariants.{Done}
use Rattle.delivery.specs.Deliver as delivery
use Rattle.service.specs.declared.call.Call.{Call}
use Rattle.service.specs.declared.call.Call.TheVariants as calls

-- a done step with the number that it answers
abbrev pub done_with : {V : Type 0} → Result ℕ ServiceFault → Result (Effect V) ServiceFault
done_with (Ok n) = Ok (Done n)
done_with (Err e) = Err e

-- a done step that answers nothing
abbrev pub done_plain : {V : Type 0} → Result (Unit {0}) ServiceFault → Result (Effect V) ServiceFault
done_plain (Ok u) = Ok (Done 0)
done_plain (Err e) = Err e

module _ {V R : Type 0} (blank : V) (well_formed lawful : V → Bool) (alike : V → V → Bool) (commits elects : R → ℕ → Bool) where
  unfoldable pub perform_step : Service R → List (Entry V) → List (Message V) → List V → Call V → Service R × List (Entry V) × List (Message V) × List V × Result (Effect V) ServiceFault
  perform_step s es ms ks (calls.Elect c v) = let p = copies.elect_step elects s es c v in (p.0, es, ms, ks, done_with p.1)
  perform_step s es ms ks calls.Open = let p = copies.open_step alike s es in (p.0, es, ms, ks, done_with p.1)
  perform_step s es ms ks calls.Install = let p = table.install_step s ms in (p.0, es, p.1, ks, done_with p.2)
  perform_step s es ms ks calls.Restart = (table.restart_step s, es, ms, ks, Ok (Done 0))
  perform_step s es ms ks (calls.Read c star) = let p = clients.read_step s ms c star in (p.0, es, p.1, ks, done_with p.2)
  perform_step s es ms ks (calls.Correct c star v) = let p = clients.correct_step well_formed s ms ks c star v in (p.0, es, p.1, p.2, done_with p.3)
  perform_step s es ms ks (calls.Again c) = let p = clients.again_step blank s ms ks c in (p.0, es, p.1, ks, done_with p.2)
  perform_step s es ms ks (calls.Abandon c) = let p = clients.abandon_step s c in (p.0, es, ms, ks, done_plain p.1)
  perform_step s es ms ks (calls.Deliver i) = let p = delivery.deliver_step blank lawful alike s es ms i in (p.0, p.1, p.2, ks, p.3)
  perform_step s es ms ks (calls.Lose i) = let p = table.lose_step s ms i in (p.0, es, p.1, ks, done_plain p.2)
  perform_step s es ms ks (calls.Double i) = let p = table.double_step s ms i in (p.0, es, p.1, ks, done_with p.2)
  perform_step s es ms ks (calls.Copy r) = let p = copies.copy_step blank s es r in (p.0, p.1, ms, ks, done_with p.2)
  perform_step s es ms ks (calls.Commit n) = let p = copies.commit_step alike commits s es n in (p.0, es, ms, ks, done_with p.1)
  perform_step s es ms ks (calls.Reply i) = let p = copies.reply_step blank alike s es ms i in (p.0, es, p.1, ks, done_with p.2)
