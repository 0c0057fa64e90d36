-- A record carried out: the service and its memory after it, and the record that answers it.
use Rattle.std.specs.Prelude.{ℕ, Bool, cond, List, length, Some, None, Option, ◌==◌, slice_index}
use Rattle.entries.specs.declared.entry.Entry.{Entry}
use Rattle.relay.specs.declared.message.Message.{Message}
use Rattle.state.specs.declared.service.Service.{Service}
use Rattle.state.specs.declared.fault.ServiceFault.TheVariants.{Malformed}
use Rattle.service.specs.declared.call.Call.{Call}
use Rattle.service.specs.Perform.{perform_step}
use Rattle.rehearsal.specs.Decode.{decoded}
use Rattle.rehearsal.specs.Encode.{fault_record, encoded}

-- a short record has code 0
abbrev pub code_of : List ℕ → ℕ
code_of r = cond (length r == 24) (slice_index r 0) 0

module _ {V R : Type 0} (blank : V) (well_formed lawful : V → Bool) (bytes : V → List ℕ) (parsed : List ℕ → Option V) (alike : V → V → Bool) (commits elects : R → ℕ → Bool) where
  -- a malformed record is refused 19, and changes nothing
  abbrev pub answer_to : Service R → List (Entry V) → List (Message V) → List V → ℕ → Option (Call V) → Service R × List (Entry V) × List (Message V) × List V × List ℕ
  answer_to s es ms ks code None = (s, es, ms, ks, fault_record code Malformed)
  answer_to s es ms ks code (Some c) =
      let p = perform_step blank well_formed lawful alike commits elects s es ms ks c in
      (p.0, p.1, p.2, p.3, encoded well_formed bytes code p.4)

  abbrev pub answer_step : Service R → List (Entry V) → List (Message V) → List V → List ℕ → Service R × List (Entry V) × List (Message V) × List V × List ℕ
  answer_step s es ms ks r = answer_to s es ms ks (code_of r) (decoded parsed r)
