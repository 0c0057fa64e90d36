use Rattle.std.proofs.Common.{◌∙◌, rules}
use Rattle.kinds.specs.SameMagnitude.{by_bits, nan_first}
use Rattle.kinds.proofs.brightness.same_magnitude.Goals as goal

pub returns-then-is_nan : goal.returns-then-is_nan
returns-then-is_nan c = c.is_nan-then-is_nan.ensures.value ∙ nan_first c.args.a c.args.b c.if-is_nan.ensures.value

pub returns : goal.returns
returns c = by_bits c.args.a c.args.b (search rules) (search rules)
