-- A run of three copies under the majority that commits under two leaders.
use Rattle.std.specs.Prelude.{◌≡◌, ℕ, [], ◌∷◌, Some, nat_eq}
use Rattle.votes.specs.Rules.{majority}
use Rattle.entries.specs.declared.entry.Entry.{Entry}
use Rattle.entries.specs.Search.{no_stamp}
use Rattle.copies.specs.View.{View}
use Rattle.copies.specs.Questions.{committed, known_log}
use Rattle.safety.specs.Runs.{empty_view, Run}

-- an entry of the term with a number for its value
abbrev pub entry : ℕ → ℕ → Entry ℕ
entry term value = record { term = term; stamp = no_stamp; client = 1; number = value; star = 7; value = value }

-- the first leader's two entries, of which one is never committed, and the second leader's
abbrev pub first : Entry ℕ
first = entry 1 10

abbrev pub lost : Entry ℕ
lost = entry 1 20

abbrev pub second : Entry ℕ
second = entry 2 30

abbrev pub RunOfThree : View ℕ → View ℕ → Type 0
RunOfThree s t = Run nat_eq (majority 3) (majority 3) s t

-- copy 0 leads the first term and has committed one entry of two
pub record EndOfFirst (s : View ℕ) : Type 0 where
  pub run : RunOfThree (empty_view 3 8) s
  pub term : s.term ≡ 1
  pub leader : s.leader ≡ Some 0
  pub has : s.log 0 ≡ first ∷ lost ∷ []
  pub done : committed s ≡ first ∷ []

-- from there copy 1, which has the committed entry alone, comes to lead the second term and commits an entry of its own;
-- copy 0 has that one in the place of the other, and knows it to be committed
pub record EndOfSecond (s t : View ℕ) : Type 0 where
  pub run : RunOfThree s t
  pub term : t.term ≡ 2
  pub leader : t.leader ≡ Some 1
  pub has : t.log 0 ≡ first ∷ second ∷ []
  pub knows : known_log t 0 ≡ first ∷ second ∷ []
  pub done : committed t ≡ first ∷ second ∷ []

abbrev pub CommitsTwice : Type 0
CommitsTwice = (s : View ℕ) × (t : View ℕ) × EndOfFirst s × EndOfSecond s t
