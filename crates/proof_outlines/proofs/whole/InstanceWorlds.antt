-- An instance's step in a world of the network with shares that shows the instance: the world after the abstract step shows what it leaves.
use Rattle.proof_outlines.proofs.Words.{◌≡◌, ℕ, true, Option, List, [], ◌++◌, refl, sym, ap, ◌∙◌, subst, arith, append-nil, if◌then◌else◌, ◌==◌, filter_map}
use Rattle.proof_outlines.proofs.Words.{nat_tests, neither, Packet, Site, Semantics, Records, Instance, sent_for, NumberedInstance, inst_step, links_after}
use Rattle.proof_outlines.proofs.Words.{at_node, put, Old, New, ShareMsg, WholeWorld, member_step, whole_inst}
use Rattle.instance_worker.specs.Instance.{Step}
use Rattle.proof_machines.proofs.net.Net as net
use Rattle.proof_machines.proofs.net.Shares.{keeps}
use Rattle.proof_outlines.proofs.outline.Outline.{ran_in, outline_instance}
use Rattle.proof_outlines.proofs.whole.WholeOutline.{outline_all, S, A}
use Rattle.proof_outlines.proofs.whole.MemberOutline.{MemberFollows}
use Rattle.proof_outlines.proofs.whole.StandbyKept.{WholeFollows, Keeps}

put_own : {X : Type 0} (g : ℕ → X) (y : ℕ) (x : X) → put g y x y ≡ x
put_own g y x = let own : (y == y) ≡ true = grind (arith, nat_tests) in rw own refl

module _ {F R : Type 0} (f : Semantics R) (site : Site) (packet : ℕ → Packet) (y : ℕ) where
  -- a world shows an instance at node y
  pub record ShowsAt (w : WholeWorld (S f site packet) (A f site packet)) (i : Instance F R) : Type 0 where
    pub inst : outline_instance f site packet i ≡ w.inst y
    pub standby : i.table.standby ≡ w.standby y

module _ {F R : Type 0} (f : Semantics R) (site : Site) (packet : ℕ → Packet) (place : List ℕ → Option ℕ)
    (w : WholeWorld (S f site packet) (A f site packet)) (p y : ℕ) where
  -- a world shows what a step leaves that takes a message from p
  pub record StepsTo (next : WholeWorld (S f site packet) (A f site packet)) (step : Step F R) : Type 0 where
    pub shows : ShowsAt f site packet y next step.node
    pub links : (a b : ℕ) → next.link a b ≡ links_after w.link p y (outline_all f place step.sends) a b
    pub done : next.done ≡ w.done ++ at_node y (filter_map ran_in step.notes)

  -- the same of a message that no link shows
  pub record KeepsTo (next : WholeWorld (S f site packet) (A f site packet)) (step : Step F R) : Type 0 where
    pub shows : ShowsAt f site packet y next step.node
    pub links : (a b : ℕ) → next.link a b ≡ w.link a b ++ (if a == y then sent_for b (outline_all f place step.sends) else [])
    pub done : next.done ≡ w.done ++ at_node y (filter_map ran_in step.notes)

  pub old_steps : (i : Instance F R) (step : Step F R) (m : net.Msg R) → ShowsAt f site packet y w i
      → WholeFollows f site packet place i step (inst_step (S f site packet) (outline_instance f site packet i) m)
      → StepsTo (whole_inst (S f site packet) (A f site packet) w p y (Old m)) step
  old_steps i step m h follows =
      let goes = subst (λ seen. WholeFollows f site packet place i step (inst_step (S f site packet) seen m)) h.inst follows in
      let did = inst_step (S f site packet) (w.inst y) m in
      record {
        shows = record { inst = goes.node ∙ sym (put_own w.inst y did.node); standby = goes.standby ∙ h.standby };
        links = λ a b. ap (λ sends. links_after w.link p y sends a b) (sym goes.sends);
        done = ap (λ ran. w.done ++ at_node y ran) (sym goes.ran);
      }

  pub new_steps : (i : Instance F R) (step : Step F R) (m : ShareMsg R) → ShowsAt f site packet y w i
      → MemberFollows f site packet place i step (member_step (S f site packet) (A f site packet) i.table.live i.table.standby m)
      → StepsTo (whole_inst (S f site packet) (A f site packet) w p y (New m)) step
  new_steps i step m h follows =
      let did = member_step (S f site packet) (A f site packet) (w.inst y).live (w.standby y) m in
      let same : member_step (S f site packet) (A f site packet) i.table.live i.table.standby m ≡ did =
      ap (λ seen. member_step (S f site packet) (A f site packet) seen.live i.table.standby m) h.inst
      ∙ ap (λ t. member_step (S f site packet) (A f site packet) (w.inst y).live t m) h.standby in
      let goes = subst (MemberFollows f site packet place i step) same follows in
      record {
        shows = record {
          inst = goes.node ∙ ap (λ (seen : NumberedInstance (S f site packet)). record seen { live = did.live }) h.inst
              ∙ sym (put_own w.inst y (record (w.inst y) { live = did.live }));
          standby = goes.standby ∙ sym (put_own w.standby y did.standby);
        };
        links = λ a b. ap (λ sends. links_after w.link p y sends a b) (sym goes.sends);
        done = ap (λ ran. w.done ++ at_node y ran) (sym goes.ran);
      }

  pub keeps_steps : (i : Instance F R) (step : Step F R) (records : Records R) → ShowsAt f site packet y w i → Keeps f site packet place i step records
      → KeepsTo (keeps (S f site packet) (A f site packet) w y records) step
  keeps_steps i step records h kept = record {
    shows = record { inst = kept.node ∙ h.inst; standby = kept.standby ∙ sym (put_own w.standby y records) };
    links = λ a b. sym (ap (λ sends. w.link a b ++ (if a == y then sent_for b sends else [])) kept.sends ∙ ap (λ ms. w.link a b ++ ms) (neither (a == y))
        ∙ append-nil (w.link a b));
    done = sym (ap (λ ran. w.done ++ at_node y ran) kept.ran ∙ append-nil w.done);
  }
