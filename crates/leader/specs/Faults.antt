-- How a fault of a lower layer passes up.
use Rattle.std.specs.Prelude.{Ok, Err, Result}

-- an error carried up by f, a value as it is
abbrev pub lifted : {T E F : Type 0} → (E → F) → Result T E → Result T F
lifted f (Ok x) = Ok x
lifted f (Err e) = Err (f e)

-- by f where the result is a value, by g where it is an error
abbrev pub on_result : {T E X : Type 0} → Result T E → (T → X) → (E → X) → X
on_result (Ok x) f g = f x
on_result (Err e) f g = g e
