-- The words of a line.
use Rattle.std.specs.Prelude.{ℕ, List, codes}
use Rattle.scenario.specs.declared.sizes.Rule.{Rule}
use Rattle.scenario.specs.declared.sizes.Rule.TheVariants.{Majority, EveryCopy}

-- the word that chooses a vote rule
abbrev pub rule_word : Rule → List ℕ
rule_word Majority = codes "majority"
rule_word EveryCopy = codes "every"
