use Rattle.std.proofs.Common.{◌≡◌, arith, ◌∙◌}
use lib.Ieee.{Float, of_bits, of_fields, odd, neg, of_int, round, units, size, span, climb, le}
use Rattle.std.specs.Ordering.{float_partial_cmp, partial_le}
use Rattle.kinds.proofs.brightness.lawful_magnitude.Goals as goal

-- `<=` by the order of floats
le_is : (x y : Float) → partial_le float_partial_cmp x y ≡ le x y
unfolding le
le_is x y = grind arith

pub returns : goal.returns
unfolding of_bits of_fields odd neg of_int round units size span climb
returns c = c.contains.ensures.value ∙ simp (c.new.ensures.start, c.new.ensures.end, c.new.ensures.exhausted, le_is)
