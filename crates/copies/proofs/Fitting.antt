-- The test of the logs' numbers, and what it means.
use Rattle.std.proofs.Common.{◌≡◌, ℕ, ◌*◌, ◌<◌, ◌≤◌, true, leb, Some, None, Option, arith}
use Rattle.std.proofs.lemmas.Bool.{and_parts, ltb-true, leb-true}
use Rattle.copies.specs.declared.logs.Logs.{Logs}
use Rattle.copies.specs.Below.{all_below}
use Rattle.copies.specs.Shape.{length_of, known_of, count_fits, led_within, SevenPlaces, Shaped}
use Rattle.copies.proofs.Below.{all_each}

led_means : (o : Option ℕ) (n : ℕ) → led_within o n ≡ true → (a : ℕ) → o ≡ Some a → a < n
led_means None n t a e = absurd (let z : ◌≡◌ {A = ℕ} 0 1 = cc in omega arith)
led_means (Some b) n t a e = let f : b ≡ a = cc in omega (arith, ltb-true b n t, f)

module _ (l : Logs) (m : ℕ) (some : 3 ≤ l.copies) (few : l.copies ≤ 7) (one : 1 ≤ l.capacity) (small : l.capacity ≤ 4096)
    (room : l.copies * l.capacity ≤ m) (led : led_within l.leader l.copies ≡ true) where
  -- where the other tests pass, the counts decide
  pub shape_means : SevenPlaces l → all_below (count_fits l) l.copies ≡ true → Shaped l m
  shape_means p t = record {
    some = some;
    few = few;
    one = one;
    small = small;
    room = room;
    places = p;
    led = led_means l.leader l.copies led;
    inside = λ k h. leb-true _ _ (parts k h).0;
    knows = λ k h. leb-true _ _ (parts k h).1;
  }
    where
      parts : (k : ℕ) → k < l.copies → (leb (length_of l k) l.capacity ≡ true) × (leb (known_of l k) (length_of l k) ≡ true)
      parts k h = and_parts (leb (length_of l k) l.capacity) (leb (known_of l k) (length_of l k)) (all_each (count_fits l) l.copies t k h)
