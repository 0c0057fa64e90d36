-- `p ≼ l`: the list p is the front of the list l. And what a log's last term, its gap to another and a copy do to fronts.
use Rattle.std.proofs.Common.{◌≡◌, ℕ, zero, suc, ◌≤◌, eqb, ◌⊎◌, List, [], ◌∷◌, ◌++◌, length, take, drop, sym, refl, ap, ◌∙◌, subst, ap₂, inl, inr, suc-le-suc, zero-le, le_of_suc-le-suc, not-suc-le-zero}
use mathlib.Core.Logic.{⊎_map}
use Rattle.std.proofs.lemmas.Bool.{cond-true, cond_both, eq-eqb, eqb-true}
use Rattle.entries.specs.declared.entry.Entry.{Entry}
use Rattle.entries.specs.Fronts.{last_term_from, gap}

infix 50 ◌≼◌
pub data ◌≼◌ {A : Type 0} : List A → List A → Type 0 where
  none : {l : List A} → [] ≼ l
  more : {x y : A} {p l : List A} → x ≡ y → p ≼ l → (x ∷ p) ≼ (y ∷ l)

module _ {A : Type 0} where
  pub whole : (l : List A) → l ≼ l
  whole [] = none
  whole (x ∷ l) = more refl (whole l)

  pub chain : {p q l : List A} → p ≼ q → q ≼ l → p ≼ l
  chain none b = none
  chain (more e a) (more f b) = more (e ∙ f) (chain a b)

  -- of two fronts of one list the shorter is a front of the longer
  pub line : {p q l : List A} → p ≼ l → q ≼ l → length p ≤ length q → p ≼ q
  line none b h = none
  line (more e a) none h = absurd (not-suc-le-zero h)
  line (more e a) (more f b) h = more (e ∙ sym f) (line a b (le_of_suc-le-suc h))

  pub shorter : {p l : List A} → p ≼ l → length p ≤ length l
  shorter none = zero-le
  shorter (more e a) = suc-le-suc (shorter a)

  pub same : (l : List A) {p : List A} → p ≼ l → length l ≤ length p → p ≡ l
  same [] none h = refl
  same (y ∷ l) none h = absurd (not-suc-le-zero h)
  same (y ∷ l) (more e a) h = ap₂ (λ (x : A) (r : List A). x ∷ r) e (same l a (le_of_suc-le-suc h))

  pub back : {p l : List A} → p ≼ l → take (length p) l ≡ p
  back none = refl
  back (more e a) = ap₂ (λ (x : A) (r : List A). x ∷ r) (sym e) (back a)

  pub back_at : (k : ℕ) {p l : List A} → length p ≡ k → p ≼ l → take k l ≡ p
  back_at k {p} {l} e a = subst (λ (n : ℕ). take n l ≡ p) e (back a)

  pub grow : (l m : List A) → l ≼ (l ++ m)
  grow [] m = none
  grow (x ∷ l) m = more refl (grow l m)

  pub takes : (n : ℕ) (l : List A) → take n l ≼ l
  takes zero l = none
  takes (suc n) [] = none
  takes (suc n) (x ∷ l) = more refl (takes n l)

  pub forth : (p l : List A) → take (length p) l ≡ p → p ≼ l
  forth p l e = subst (λ (q : List A). q ≼ l) e (takes (length p) l)

  pub cut : (n : ℕ) {p l : List A} → p ≼ l → length p ≤ n → p ≼ take n l
  cut n none h = none
  cut zero (more e a) h = absurd (not-suc-le-zero h)
  cut (suc n) (more e a) h = more e (cut n a (le_of_suc-le-suc h))

  pub step : (n : ℕ) (l : List A) → (take n l ++ take 1 (drop n l)) ≼ l
  step zero l = takes 1 l
  step (suc n) [] = none
  step (suc n) (x ∷ l) = more refl (step n l)

  pub last : (l : List A) (x : A) {p : List A} → p ≼ (l ++ x ∷ []) → (p ≼ l) ⊎ (p ≡ l ++ x ∷ [])
  last [] x none = inl none
  last [] x (more e none) = inr (ap (λ (y : A). y ∷ []) e)
  last (y ∷ l) x none = inl none
  last (y ∷ l) x (more e a) = ⊎_map (more e) (ap₂ (λ (z : A) (r : List A). z ∷ r) e) (last l x a)

module _ {V : Type 0} where
  pub last_push : (t : ℕ) (l : List (Entry V)) (e : Entry V) → last_term_from t (l ++ e ∷ []) ≡ e.term
  last_push t [] e = refl
  last_push t (x ∷ l) e = last_push x.term l e

  -- what both begin with ends before the gap
  pub before_gap : {p l m : List (Entry V)} → p ≼ l → p ≼ m → length p ≤ gap l m
  before_gap none b = zero-le
  before_gap (more {y = x} {l = l} e a) (more {y = y} {l = m} f b) =
      rw (cond-true (eqb x.term y.term) (suc (gap l m)) 0 (eq-eqb x.term y.term (ap (λ (z : Entry V). z.term) (sym e ∙ f))))
      (suc-le-suc (before_gap a b))

  -- up to the gap the two are as long and end in one term
  pub to_gap : (t : ℕ) (l m : List (Entry V)) →
      (length (take (gap l m) m) ≡ length (take (gap l m) l)) × (last_term_from t (take (gap l m) m) ≡ last_term_from t (take (gap l m) l))
  to_gap t [] m = (refl, refl)
  to_gap t (x ∷ l) [] = (refl, refl)
  to_gap t (x ∷ l) (y ∷ m) =
      cond_both (eqb x.term y.term) (suc (gap l m)) 0
      (λ (g : ℕ). (length (take g (y ∷ m)) ≡ length (take g (x ∷ l))) × (last_term_from t (take g (y ∷ m)) ≡ last_term_from t (take g (x ∷ l))))
      (λ b. (ap suc (to_gap 0 l m).0, ap (λ (u : ℕ). last_term_from u (take (gap l m) m)) (sym (eqb-true x.term y.term b)) ∙ (to_gap x.term l m).1))
      (λ b. (refl, refl))
