-- The invariant holds along every run, and what that says of the views that a run comes to.
use Rattle.std.proofs.Common.{◌≡◌, ℕ, ◌<◌, Bool, List, length, take, Ok, sym, refl, ◌∙◌, subst}
use Rattle.std.proofs.lemmas.List.{length-take-le}
use Rattle.entries.specs.declared.entry.Entry.{Entry}
use Rattle.copies.specs.View.{View}
use Rattle.safety.specs.Runs.{Meet, Telling, Change, Run, Sound, Keeps, Stays}
use Rattle.safety.specs.Runs.Change.{elected, appended, copied, committing, risen}
use Rattle.safety.specs.Runs.Run.{still, then}
use Rattle.safety.proofs.Fronts.{◌≼◌, whole, chain, back, back_at, takes}
use Rattle.safety.proofs.Safe.{Inv, Onward, begins_empty, is_committed, knows_within, known_front, leader_full, ready_knows, onward, elect_stays, append_stays, copy_stays, copy_front, rise_stays, commit_onward}

module _ {V : Type 0} {alike : V → V → Bool} {commits elects : ℕ → Bool} (tells : Telling alike) where
  -- one change goes onward
  pub change_onward : {s t : View V} {C : List (Entry V)} → Inv elects s C → Meet s.copies commits elects → Change alike commits elects s t → Onward elects s C t
  change_onward I meets (elected c v n b e) = onward (elect_stays I c v (Ok n) b e)
  change_onward I meets (appended a x n i u e) = onward (append_stays I a x (Ok n) i u e)
  change_onward I meets (copied r n b e) = onward (copy_stays I r (Ok n) e)
  change_onward I meets (committing n m e) = commit_onward I alike tells commits meets n (Ok m) e
  change_onward I meets (risen r n b e) = onward (rise_stays I alike tells r n (Ok tt) e)

  -- and so does a run
  pub run_onward : {s t : View V} {C : List (Entry V)} → Inv elects s C → Meet s.copies commits elects → Run alike commits elects s t → Onward elects s C t
  run_onward {s} {t} {C} I meets still = record { now = C; extends = whole C; inv = I; keeps = λ q p h k. h; sized = refl }
  run_onward {s} {t} {C} I meets (then run change) =
      let w = run_onward I meets run in
      let o = change_onward w.inv (subst (λ (n : ℕ). Meet n commits elects) (sym w.sized) meets) change in
      record {
        now = o.now;
        extends = chain w.extends o.extends;
        inv = o.inv;
        keeps = λ q p h k. o.keeps q p (w.keeps q p h k) (chain k w.extends);
        sized = o.sized ∙ w.sized;
      }

module _ {V : Type 0} {elects : ℕ → Bool} where
  pub sound : {s : View V} {C : List (Entry V)} → Inv elects s C → Sound s
  sound {s} {C} I =
      record {
        within = λ r b. knows_within I r;
        known_front = λ r b. rw (is_committed I) (back (known_front I r));
        leader_front = λ a e. rw (is_committed I) (back (leader_full I a e));
        ready_knows = λ a e h. ready_knows I a e h ∙ sym (is_committed I);
        copy_front = λ a r n t i e. back (copy_front I a r i e);
      }

  pub kept : {s t : View V} {C : List (Entry V)} → Inv elects s C → Onward elects s C t → Keeps s t
  kept {s} {t} {C} I o =
      record {
        grows = rw (is_committed I, is_committed o.inv) (back o.extends);
        holds = λ r k b e.
            let p : List (Entry V) = take k C in
            let d : length p ≡ k = length-take-le k C (rw (is_committed I) at b) in
            let h : p ≼ s.log r = subst (λ (x : List (Entry V)). x ≼ s.log r) (rw (is_committed I) at e) (takes k (s.log r)) in
            rw (is_committed o.inv) (back_at k d (o.keeps r p h (takes k C)) ∙ sym (back_at k d (chain (takes k C) o.extends)));
      }

pub log_stays : {V : Type 0} (alike : V → V → Bool) (commits elects : ℕ → Bool) (n : ℕ) → 0 < n → Telling alike → Meet n commits elects → Stays alike commits elects n
log_stays alike commits elects n some tells meets capacity s run =
    let w = run_onward tells (begins_empty elects n capacity some) meets run in
    let m : Meet s.copies commits elects = subst (λ (k : ℕ). Meet k commits elects) (sym w.sized) meets in
    (sound w.inv, λ t further. kept w.inv (run_onward tells w.inv m further))
