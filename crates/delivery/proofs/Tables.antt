-- No message changes the table where it arrives.
use Rattle.std.proofs.Common.{◌≡◌, Bool, true, false, cond, ◌||◌, leb, List, Result, refl, ap, ◌∙◌}
use Rattle.entries.specs.declared.entry.Entry.{Entry}
use Rattle.relay.specs.declared.message.Body.{Body}
use Rattle.relay.specs.declared.message.Body.TheVariants as bodies
use Rattle.relay.specs.declared.message.Message.{Message}
use Rattle.state.specs.declared.service.Service.{Service}
use Rattle.state.specs.declared.service.Table.{Table}
use Rattle.state.specs.declared.fault.ServiceFault.{ServiceFault}
use Rattle.delivery.specs.declared.react.Reaction.{Reaction}
use Rattle.delivery.specs.Deliver.{react}

-- either way the table is the same
either : {R X : Type 0} (b : Bool) (x y : Service R × X) (t : Table) → x.0.table ≡ t → y.0.table ≡ t → (cond b x y).0.table ≡ t
either true x y t p q = p
either false x y t p q = q

module _ {V R : Type 0} where
  pub react_table : (blank : V) (lawful : V → Bool) (alike : V → V → Bool) (s : Service R) (es : List (Entry V)) (m : Message V) (b : Body) →
      (react blank lawful alike s es m b).0.table ≡ s.table
  unfolding react
  react_table blank lawful alike s es m bodies.ReadRequest = refl
  react_table blank lawful alike s es m bodies.CorrectionRequest = refl
  react_table blank lawful alike s es m (bodies.CopyRead r i) = either (leb s.logs.copies r) _ _ s.table refl refl
  react_table blank lawful alike s es m bodies.LeaderRead = refl
  react_table blank lawful alike s es m (bodies.Correction n) = refl
  react_table blank lawful alike s es m bodies.Installed = refl
  react_table blank lawful alike s es m bodies.LeaderReply = refl
  react_table blank lawful alike s es m (bodies.CopyReply r w) = refl
  react_table blank lawful alike s es m (bodies.CorrectionReply n o t) = refl
  react_table blank lawful alike s es m bodies.ReadAnswer = either (leb s.seats m.client || leb 8 m.client) _ _ s.table refl refl
  react_table blank lawful alike s es m (bodies.CorrectionAnswer o i) = either (leb s.seats m.client || leb 8 m.client) _ _ s.table refl refl

  -- the same of the state that a call leaves
  pub after_table : (t : Service R) (es : List (Entry V)) (x : Result (Reaction V) ServiceFault) (p : Service R × List (Entry V) × Result (Reaction V) ServiceFault) (b : Table) →
      (t, es, x) ≡ p → p.0.table ≡ b → t.table ≡ b
  after_table t es x p b e h = ap (λ (q : Service R × List (Entry V) × Result (Reaction V) ServiceFault). q.0.table) e ∙ h
