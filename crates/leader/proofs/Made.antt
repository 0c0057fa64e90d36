-- An array that is made place by place by a function of the place.
use Rattle.std.proofs.Common.{◌≡◌, ℕ, zero, suc, ◌+◌, ◌<◌, ◌≤◌, ◌⊎◌, List, map, get_or, ap, ◌∙◌, subst, inl, inr, arith}
use denote.Param.Members.{Mut}
use Rattle.std.specs.Fn.{Called}
use Rattle.std.specs.Array.{IsFromFnResultFrom, IsFromFnResult}
use Rattle.std.specs.List.{range_with_len}
use Rattle.std.proofs.lemmas.List.FromFn.{fill_by_all}

split : (k i : ℕ) → i ≤ k → (k ≡ i) ⊎ (i + 1 ≤ k)
split k i h = grind arith

module _ {F X : Type 0} (g : Mut F (ℕ × Unit {0}) X) (h : ℕ → X) (f : F) (told : (x : ℕ) (y : X) (q : F) → Called g f (x, tt) y q → (q ≡ f) × (y ≡ h x)) where
  each_place : (ys : List X) (i n : ℕ) → IsFromFnResultFrom g f ys i n → (k : ℕ) (d : X) → i ≤ k → k < i + n → get_or ys k d ≡ h k
  each_place ys i zero r k d a b = absurd (omega arith)
  each_place ys i (suc n) (q, y, at, c, rest) k d a b =
      let t = told i y q c in
      elim (split k i a) [
        | inl e ↦ ap (λ (j : ℕ). get_or ys j d) e ∙ at.1 d ∙ t.1 ∙ ap h (let m : i ≡ k = omega arith in m)
        | inr m ↦ each_place ys (i + 1) n (subst (λ p. IsFromFnResultFrom g p ys (i + 1) n) t.0 rest) k d m (omega arith)
      ]

  pub made_by : (ys : List X) (n : ℕ) (d : X) → IsFromFnResult g f ys n → ys ≡ map h (range_with_len 0 n)
  made_by ys n d r = fill_by_all h ys n d r.long (λ k j. each_place ys 0 n r.each k d (omega arith) (omega arith))
