-- The last entry that is sought, by its place.
use Rattle.std.proofs.Common.{◌≡◌, ℕ, zero, suc, ◌+◌, ◌<◌, ◌≤◌, Bool, true, false, cond, List, [], ◌∷◌, length, get_or, IfSome, IsSomeAnd, Some, None, Option, refl, sym, add-zero, zero-add, add-one, arith}
use Rattle.std.specs.Option.{option_map}
use Rattle.entries.specs.declared.entry.Entry.{Entry}
use Rattle.entries.specs.declared.entry.Sought.{Sought}
use Rattle.entries.specs.Search.{matches, last_from, last_of}

module _ {V : Type 0} where
  -- no entry of the list is sought
  abbrev pub NoneAfter : Sought → List (Entry V) → ℕ → Type 0
  NoneAfter q l i = (k : ℕ) (d : Entry V) → i < k → k < length l → matches q (get_or l k d) ≡ false

  abbrev pub NoneIn : Sought → List (Entry V) → Type 0
  NoneIn q l = (k : ℕ) (d : Entry V) → k < length l → matches q (get_or l k d) ≡ false

  none_from : (q : Sought) (n : ℕ) (f : Option (ℕ × Entry V)) (l : List (Entry V)) → NoneIn q l → last_from q n f l ≡ f
  none_from q n f [] h = refl
  none_from q n f (y ∷ l) h =
      let e : matches q y ≡ false = h 0 y (omega arith) in
      rw e (none_from q (suc n) f l (λ k d lt. h (suc k) d (omega arith)))

  some_from : (q : Sought) (n : ℕ) (f : Option (ℕ × Entry V)) (l : List (Entry V)) (i : ℕ) (x : Entry V) → i < length l → x ≡ get_or l i x → matches q x ≡ true → NoneAfter q l i →
      last_from q n f l ≡ Some (suc (n + i), x)
  some_from q n f [] i x h e t u = absurd (omega arith)
  some_from q n f (y ∷ l) zero x h e t u =
      let m : matches q y ≡ true = rw (← e) t in
      rw (m, none_from q (suc n) (Some (suc n, y)) l (λ k d lt. u (suc k) d (omega arith) (omega arith)), add-zero, e)
  some_from q n f (y ∷ l) (suc i) x h e t u =
      let k = some_from q (suc n) (cond (matches q y) (Some (suc n, y)) f) l i x (omega arith) e t (λ k d a b. u (suc k) d (omega arith) (omega arith)) in
      let m : suc n + i ≡ n + suc i = omega arith in
      rw (m) at k

  pub last_is : (q : Sought) (l : List (Entry V)) (i : ℕ) (x : Entry V) → i < length l → x ≡ get_or l i x → matches q x ≡ true → NoneAfter q l i → Some (i + 1, x) ≡ last_of q l
  last_is q l i x h e t u = let k = some_from q 0 None l i x h e t u in sym (rw (add-one) (rw zero-add at k))

  pub last_none : (q : Sought) (l : List (Entry V)) → NoneIn q l → None ≡ last_of q l
  last_none q l h = sym (none_from q 0 None l h)

  -- an index between 1 and n, or none
  abbrev Within : ℕ → Option (ℕ × Entry V) → Type 0
  Within n r = IfSome r (λ p. (1 ≤ p.0) × (p.0 ≤ n))

  widen : (m n : ℕ) (r : Option (ℕ × Entry V)) → m ≤ n → Within m r → Within n r
  widen m n None h w = tt
  widen m n (Some p) h w = (w.0, omega arith)

  chosen : (n : ℕ) (t : Bool) (e : Entry V) (r : Option (ℕ × Entry V)) → Within n r → Within (suc n) (cond t (Some (suc n, e)) r)
  chosen n true e r w = (omega arith, omega arith)
  chosen n false e r w = widen n (suc n) r (omega arith) w

  from_bound : (q : Sought) (n : ℕ) (r : Option (ℕ × Entry V)) (l : List (Entry V)) → Within n r → Within (n + length l) (last_from q n r l)
  from_bound q n r [] w = rw add-zero w
  from_bound q n r (e ∷ l) w =
      let k = from_bound q (suc n) (cond (matches q e) (Some (suc n, e)) r) l (chosen n (matches q e) e r w) in
      let m : suc n + length l ≡ n + suc (length l) = omega arith in
      rw m at k

  -- what is found lies in the log
  pub last_bound : (q : Sought) (l : List (Entry V)) (r : Option (ℕ × Entry V)) → r ≡ last_of q l → IfSome r (λ p. (1 ≤ p.0) × (p.0 ≤ length l))
  last_bound q l r e = rw e (let k = from_bound q 0 None l tt in rw zero-add at k)

-- what is known of an item that a run gave
pub given : {A B : Type 0} (o : Option A) (v : A → B) (y : B) (P : A → Type 0) (test : B → Bool) (b : Bool) → option_map v o ≡ Some y → IfSome o P → ((x : A) → P x → test (v x) ≡ b) → test y ≡ b
given None v y P test b e h k = cc
given (Some x) v y P test b e h k = let q : v x ≡ y = cc in rw (← q) (k x h)

pub given_one : {A B : Type 0} (o : Option A) (v : A → B) (y : B) (P : A → Type 0) (test : B → Bool) (b : Bool) → option_map v o ≡ Some y → IsSomeAnd o P → ((x : A) → P x → test (v x) ≡ b) → test y ≡ b
given_one None v y P test b e h k = absurd h
given_one (Some x) v y P test b e h k = given (Some x) v y P test b e h k
