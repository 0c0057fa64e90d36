-- The test that says whether two places are one.
use Rattle.std.specs.Prelude.{◌≡◌, Decides}
use Rattle.std.proofs.Common.{ap}
use Rattle.std.proofs.lemmas.Bool.Decides.{Decides-and, Decides-like, Decides-eqb, Decides-int_eq}
use Rattle.kinds.specs.declared.place.Place.{Place}
use Rattle.kinds.specs.Place.{same_place}

-- places with the same numbers are one
same_parts : (p q : Place) → p.ascension ≡ q.ascension → p.declination ≡ q.declination → p.motion_ra ≡ q.motion_ra → p.motion_dec ≡ q.motion_dec → p.year ≡ q.year → p ≡ q
same_parts p q a b c d e = λ i. record { ascension = a i; declination = b i; motion_ra = c i; motion_dec = d i; year = e i }

pub decides_place : (p q : Place) → Decides (same_place p q) (p ≡ q)
decides_place p q =
    Decides-like (same_place p q)
    (λ h. same_parts p q h.0 h.1.0 h.1.1.0 h.1.1.1.0 h.1.1.1.1)
    (λ e. (ap (λ (x : Place). x.ascension) e, (ap (λ (x : Place). x.declination) e, (ap (λ (x : Place). x.motion_ra) e, (ap (λ (x : Place). x.motion_dec) e, ap (λ (x : Place). x.year) e)))))
    (Decides-and _ _ (Decides-eqb _ _) (Decides-and _ _ (Decides-int_eq _ _) (Decides-and _ _ (Decides-int_eq _ _) (Decides-and _ _ (Decides-int_eq _ _) (Decides-eqb _ _)))))
