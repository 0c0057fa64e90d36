-- Any of the fourteen steps, and runs of them.
use Rattle.std.specs.Prelude.{ℕ, Bool, List, [], ◌∷◌, Ok, Err, Result}
use Rattle.state.specs.declared.fault.ServiceFault.{ServiceFault}
use Rattle.service.specs.declared.call.Call.{Call}
use Rattle.service.specs.declared.call.Call.TheVariants as calls
use Rattle.rules.specs.declared.effect.Effect.{Effect}
use Rattle.rules.specs.declared.effect.Effect.TheVariants.{Done}
use Rattle.rules.specs.Whole.{Whole}
use Rattle.rules.specs.Steps.{elect_move, open_move, install_move, restart_move, read_move, correct_move, again_move, abandon_move, lose_move, double_move, copy_move, commit_move, reply_move}
use Rattle.rules.specs.Arrivals.{deliver_move}

-- a done step with the number that it answers
abbrev pub done_with : {V : Type 0} → Result ℕ ServiceFault → Result (Effect V) ServiceFault
done_with (Ok n) = Ok (Done n)
done_with (Err e) = Err e

-- a done step that answers nothing
abbrev pub done_plain : {V : Type 0} → Result (Unit {0}) ServiceFault → Result (Effect V) ServiceFault
done_plain (Ok u) = Ok (Done 0)
done_plain (Err e) = Err e

abbrev pub numbered : {V : Type 0} → Whole V × Result ℕ ServiceFault → Whole V × Result (Effect V) ServiceFault
numbered p = (p.0, done_with p.1)

abbrev pub plain : {V : Type 0} → Whole V × Result (Unit {0}) ServiceFault → Whole V × Result (Effect V) ServiceFault
plain p = (p.0, done_plain p.1)

module _ {V : Type 0} (blank : V) (well_formed lawful : V → Bool) (alike : V → V → Bool) (commits elects : ℕ → Bool) where
  -- the service after the step, and what came of it
  unfoldable pub perform_move : Whole V → Call V → Whole V × Result (Effect V) ServiceFault
  perform_move w (calls.Elect c v) = numbered (elect_move elects w c v)
  perform_move w calls.Open = numbered (open_move alike w)
  perform_move w calls.Install = numbered (install_move w)
  perform_move w calls.Restart = (restart_move w, Ok (Done 0))
  perform_move w (calls.Read c star) = numbered (read_move w c star)
  perform_move w (calls.Correct c star v) = numbered (correct_move well_formed w c star v)
  perform_move w (calls.Again c) = numbered (again_move w c)
  perform_move w (calls.Abandon c) = plain (abandon_move w c)
  perform_move w (calls.Deliver i) = deliver_move blank lawful alike w i
  perform_move w (calls.Lose i) = plain (lose_move w i)
  perform_move w (calls.Double i) = numbered (double_move w i)
  perform_move w (calls.Copy r) = numbered (copy_move w r)
  perform_move w (calls.Commit n) = numbered (commit_move alike commits w n)
  perform_move w (calls.Reply i) = numbered (reply_move blank alike w i)

  -- the service after a list of calls, carried out one after the other
  abbrev pub run_of : Whole V → List (Call V) → Whole V
  run_of w [] = w
  run_of w (c ∷ cs) = run_of (perform_move w c).0 cs

  -- what came of each of the calls
  abbrev pub outcomes : Whole V → List (Call V) → List (Result (Effect V) ServiceFault)
  outcomes w [] = []
  outcomes w (c ∷ cs) = (perform_move w c).1 ∷ outcomes (perform_move w c).0 cs
