-- What came of a step, as a record of 24 bytes.
use Rattle.std.specs.Prelude.{ℕ, Bool, cond, List, [], ◌∷◌, ◌++◌, replicate, is_some, Some, None, Ok, Err, Option, Result}
use Rattle.kinds.specs.Bytes.{le32}
use Rattle.client.specs.declared.client.Answer.{Answer}
use Rattle.client.specs.declared.client.Answer.TheVariants.{Reading, Correction}
use Rattle.state.specs.declared.fault.ServiceFault.{ServiceFault}
use Rattle.state.specs.declared.fault.Class.{Class}
use Rattle.state.specs.declared.fault.Class.TheVariants.{Refused, Dropped}
use Rattle.state.specs.Numbers.{number_of, layer_of, class_of}
use Rattle.delivery.specs.declared.step.Effect.{Effect}
use Rattle.delivery.specs.declared.step.Effect.TheVariants.{Done, Dropped as DroppedMessage, Answered}

-- code, class, number, layer, result, value
unfoldable pub record_of : ℕ → ℕ → ℕ → ℕ → ℕ → List ℕ → List ℕ
record_of code class number layer result value = (code ∷ class ∷ number ∷ layer ∷ []) ++ le32 result ++ value

abbrev pub no_value : List ℕ
no_value = replicate 16 0

-- 1 for a refusal, 2 for a drop
abbrev pub class_code : Class → ℕ
class_code Refused = 1
class_code Dropped = 2

abbrev pub fault_record : ℕ → ServiceFault → List ℕ
fault_record code f = record_of code (class_code (class_of f)) (number_of f) (layer_of f) 0 no_value

module _ {V : Type 0} (well_formed : V → Bool) (bytes : V → List ℕ) where
  -- zeros for none, and for a value that has no bytes
  abbrev pub bytes_of : Option V → List ℕ
  bytes_of None = no_value
  bytes_of (Some v) = cond (well_formed v) (bytes v) no_value

  -- a reading has 1 and the value, or 0 for none; a correction has its index
  abbrev pub answer_record : ℕ → Answer V → List ℕ
  answer_record code (Reading v) = record_of code 3 0 0 (cond (is_some v) 1 0) (bytes_of v)
  answer_record code (Correction o i) = record_of code 3 0 0 i no_value

  abbrev pub encoded : ℕ → Result (Effect V) ServiceFault → List ℕ
  encoded code (Ok (Done n)) = record_of code 0 0 0 n no_value
  encoded code (Ok (DroppedMessage f)) = fault_record code f
  encoded code (Ok (Answered a)) = answer_record code a
  encoded code (Err f) = fault_record code f
