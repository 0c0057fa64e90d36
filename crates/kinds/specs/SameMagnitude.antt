-- The tests that say whether two magnitudes, and two brightnesses, are one.
use Rattle.std.specs.Prelude.{◌≡◌, ℕ, Bool, true, false, T, ℤ, Decides, ◌==◌, refl, Float}
use Rattle.std.proofs.Common.{sym, ap, ◌∙◌}
use Rattle.std.specs.Cmp.{booleans_Decides}
use Rattle.std.specs.Float.Ieee as Ieee
use Rattle.std.specs.Float.{nan, inf, fin, binary32}
use Rattle.std.specs.Float.Ieee.Bits.{of_bits-to_bits}
use Rattle.std.proofs.lemmas.Bool.Decides.{Decides-and, Decides-like, Decides-eqb, Decides-int_eq, same_from_decides}
use Rattle.kinds.specs.declared.brightness.Brightness.{Brightness}
use Rattle.kinds.specs.Brightness.{same_magnitude, same_brightness}

fin_parts : (s t : Bool) (m n : ℕ) (e d : ℤ) → (s ≡ t) × (m ≡ n) × (e ≡ d) → fin s m e ≡ fin t n d
fin_parts s t m n e d h = cc

pub decides_magnitude : (x y : Float) → Decides (same_magnitude x y) (x ≡ y)
decides_magnitude nan nan = (λ _. refl, λ _. refl)
decides_magnitude nan (inf t) = (λ h. cc, λ e. cc)
decides_magnitude nan (fin t n d) = (λ h. cc, λ e. cc)
decides_magnitude (inf s) nan = (λ h. cc, λ e. cc)
decides_magnitude (inf s) (inf t) = Decides-like _ (λ e. ap inf e) (λ e. cc) (booleans_Decides s t)
decides_magnitude (inf s) (fin t n d) = (λ h. cc, λ e. cc)
decides_magnitude (fin s m e) nan = (λ h. cc, λ e. cc)
decides_magnitude (fin s m e) (inf t) = (λ h. cc, λ e. cc)
decides_magnitude (fin s m e) (fin t n d) =
    Decides-like _ (λ h. fin_parts s t m n e d (h.0.0, h.0.1, h.1)) (λ k. ((cc, cc), cc))
    (Decides-and _ _ (Decides-and _ _ (booleans_Decides s t) (Decides-eqb m n)) (Decides-int_eq e d))

-- brightnesses with the same numbers are one
same_parts : (p q : Brightness) → p.visual ≡ q.visual → p.blue ≡ q.blue → p.year ≡ q.year → p ≡ q
same_parts p q a b c = λ i. record { visual = a i; blue = b i; year = c i }

pub decides_brightness : (p q : Brightness) → Decides (same_brightness p q) (p ≡ q)
decides_brightness p q =
    Decides-like (same_brightness p q)
    (λ h. same_parts p q h.0.0 h.0.1 h.1)
    (λ e. ((ap (λ (x : Brightness). x.visual) e, ap (λ (x : Brightness). x.blue) e), ap (λ (x : Brightness). x.year) e))
    (Decides-and _ _ (Decides-and _ _ (decides_magnitude p.visual q.visual) (decides_magnitude p.blue q.blue)) (Decides-eqb p.year q.year))

-- magnitudes of 32 bits are one where their bits are
pub by_bits : (x y : Float) → T (Ieee.fits binary32 x) → T (Ieee.fits binary32 y) → (Ieee.to_bits binary32 x == Ieee.to_bits binary32 y) ≡ same_magnitude x y
by_bits x y f g =
    same_from_decides _ _
    (Decides-like _ (λ e. sym (of_bits-to_bits binary32 x f) ∙ ap (Ieee.of_bits binary32) e ∙ of_bits-to_bits binary32 y g) (λ e. ap (Ieee.to_bits binary32) e) (Decides-eqb (Ieee.to_bits binary32 x) (Ieee.to_bits binary32 y)))
    (decides_magnitude x y)

-- a NaN is the same as a NaN alone
pub nan_first : (x y : Float) → true ≡ Ieee.is_nan x → Ieee.is_nan y ≡ same_magnitude x y
unfolding Ieee.is_nan
nan_first nan nan h = refl
nan_first nan (inf t) h = refl
nan_first nan (fin t n d) h = refl
nan_first (inf s) y h = cc
nan_first (fin s m e) y h = cc

-- what is no NaN is not the same as a NaN
pub nan_second : (x y : Float) → false ≡ Ieee.is_nan x → true ≡ Ieee.is_nan y → false ≡ same_magnitude x y
unfolding Ieee.is_nan
nan_second nan y h k = cc
nan_second (inf s) nan h k = refl
nan_second (inf s) (inf t) h k = cc
nan_second (inf s) (fin t n d) h k = cc
nan_second (fin s m e) nan h k = refl
nan_second (fin s m e) (inf t) h k = cc
nan_second (fin s m e) (fin t n d) h k = cc
