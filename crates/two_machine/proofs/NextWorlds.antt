-- What the core's network leaves when a message is taken is the world after it, with messages of their links.
use Rattle.two_machine.proofs.Words.{◌≡◌, ◌≢◌, ℕ, List, ◌∷◌, Network, world_next, Each, Drops, System, Msg, Note, Is_switch, Is_ctrl, Is_inst, switch_step}
use Rattle.two_machine.proofs.Words.{inst_step, ctrl_step, node_step, World, net, Labels, Label, From_a, From_b, put_switch, put_ctrl, put_a, put_b, result}
use Rattle.two_machine.proofs.Words.{Place, In, Cs, Aw, Bw, Sc, Ac, Bc, Sa, Ca, Sb, Cb, choice, with_waits}
use Rattle.actor_net.specs.Network.{after}
use Rattle.two_machine.proofs.Tables
use Rattle.two_machine.proofs.Tables.{as_node}
use Rattle.two_machine.proofs.Rows.{kind}
use Rattle.two_machine.proofs.Puts.{after_switch, after_ctrl, after_a, after_b, labels_switch, labels_ctrl, labels_a, labels_b}
use Rattle.two_machine.proofs.StepLabels.{switch_ok, sa_ok, ca_ok, sb_ok, cb_ok, ctrl_ok, GivesChunks, gives}

module _ {U T C R O : Type 0} (S : System U T C R O) where
  -- the world after a message was taken: the core's, with its labels
  pub record IsNext (w : Network (Tables.Node T C) (Msg C) (Note O)) (v : World T C O) : Type 0 where
    pub is : w ≡ net v
    pub labels : Labels S v

  -- after a step of each node
  by_switch : (v : World T C O) (m : Msg C) → Labels S v
      → IsNext (after (net v) 0 (as_node S Is_switch (switch_step S v.sw m))) (put_switch S v (switch_step S v.sw m))
  by_switch v m l =
      let ok = switch_ok S v.sw m in
      record { is = after_switch S v (switch_step S v.sw m) ok; labels = labels_switch S v (switch_step S v.sw m) l ok }

  by_ctrl : (v : World T C O) (port : ℕ) (m : Msg C) → Labels S v → GivesChunks S (kind port m)
      → IsNext (after (net v) 1 (as_node S Is_ctrl (ctrl_step S v.ct port m))) (put_ctrl S v (ctrl_step S v.ct port m))
  by_ctrl v port m l gives =
      let ok = ctrl_ok S v.ct port m l.kept gives in
      record { is = after_ctrl S v (ctrl_step S v.ct port m) ok.sends; labels = labels_ctrl S v (ctrl_step S v.ct port m) l ok.kept ok.sends }

  by_a : (v : World T C O) (m : Msg C) → Labels S v → Each (λ x. From_a S x.0 x.1) (inst_step S 0 v.a m).sends
      → IsNext (after (net v) 2 (as_node S (Is_inst 0) (inst_step S 0 v.a m))) (put_a S v (inst_step S 0 v.a m))
  by_a v m l ok = record { is = after_a S v (inst_step S 0 v.a m) ok; labels = labels_a S v (inst_step S 0 v.a m) l ok }

  by_b : (v : World T C O) (m : Msg C) → Labels S v → Each (λ x. From_b S x.0 x.1) (inst_step S 1 v.b m).sends
      → IsNext (after (net v) 3 (as_node S (Is_inst 1) (inst_step S 1 v.b m))) (put_b S v (inst_step S 1 v.b m))
  by_b v m l ok = record { is = after_b S v (inst_step S 1 v.b m) ok; labels = labels_b S v (inst_step S 1 v.b m) l ok }

  pub next_is : (pl : Place) (v : World T C O) (m : Msg C) (rest : List (Msg C)) → v.b.rule ≢ Drops → Label S pl m → Labels S (with_waits S pl rest v)
      → IsNext (world_next (node_step S) (net (with_waits S pl (m ∷ rest) v)) (choice pl)) (result S pl (with_waits S pl rest v) m)
  next_is In v m rest no_drop h l = by_switch (with_waits S In rest v) m l
  next_is Cs v m rest no_drop h l = by_switch (with_waits S Cs rest v) m l
  next_is Aw v m rest no_drop h l = by_switch (with_waits S Aw rest v) m l
  next_is Bw v m rest no_drop h l = by_switch (with_waits S Bw rest v) m l
  next_is Sc v m rest no_drop h l = by_ctrl (with_waits S Sc rest v) 0 m l (gives S Sc m h)
  next_is Ac v m rest no_drop h l = by_ctrl (with_waits S Ac rest v) 2 m l (gives S Ac m h)
  next_is Bc v m rest no_drop h l = by_ctrl (with_waits S Bc rest v) 3 m l (gives S Bc m h)
  next_is Sa v m rest no_drop h l = by_a (with_waits S Sa rest v) m l (sa_ok S v.a m h)
  next_is Ca v m rest no_drop h l = by_a (with_waits S Ca rest v) m l (ca_ok S v.a m h)
  next_is Sb v m rest no_drop h l = by_b (with_waits S Sb rest v) m l (sb_ok S v.b m no_drop h)
  next_is Cb v m rest no_drop h l = by_b (with_waits S Cb rest v) m l (cb_ok S v.b m h)
