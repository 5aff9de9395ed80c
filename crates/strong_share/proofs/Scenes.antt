-- A world of strong sharing as functions of its members: a scene, which of its messages may be taken, and what it is after that.
use Rattle.strong_share.proofs.Words.{◌≡◌, ℕ, ◌+◌, ◌<◌, true, List, [], ◌∷◌, ◌++◌, map, length, get_or, if◌then◌else◌, ◌==◌, Semantics, Msg, Note}
use Rattle.strong_share.proofs.Words.{InstanceState, instance_step, Network, Stepped, queue_at, sent_for, at, StrongNote, Inner, SwitchState, ControllerState}
use Rattle.strong_share.proofs.Words.{StrongNode, Switch, Controller, Instance, switch_step, takes_in, controller_step}
use Rattle.strong_share.proofs.Lists.{put}

pub record Scene (F R : Type 0) : Type 0 where
  pub switch : SwitchState
  pub controller : ControllerState
  pub member : ℕ → InstanceState F R
  pub input : List Msg
  pub up : List Msg  -- from the switch to the controller
  pub down : List Msg  -- and back
  pub out : ℕ → List Msg  -- from the switch to a member
  pub to : ℕ → List Msg  -- from the controller to a member
  pub back : ℕ → List Msg  -- from a member to the controller
  pub home : ℕ → List Msg  -- from a member to the switch
  pub log : List StrongNote

-- a world with so many members is this scene
pub record Shows {F R : Type 0} (n : ℕ) (w : Network (StrongNode F R) Msg StrongNote) (x : Scene F R) : Type 0 where
  pub count : length w.nodes ≡ n + 2
  pub switch : (d : StrongNode F R) → get_or w.nodes 0 d ≡ Switch x.switch
  pub controller : (d : StrongNode F R) → get_or w.nodes 1 d ≡ Controller x.controller
  pub member : (k : ℕ) → k < n → (d : StrongNode F R) → get_or w.nodes (k + 2) d ≡ Instance (x.member k)
  pub input : queue_at w (at 0 0) ≡ x.input
  pub up : queue_at w (at 1 0) ≡ x.up
  pub down : queue_at w (at 0 1) ≡ x.down
  pub out : (k : ℕ) → k < n → queue_at w (at (k + 2) 0) ≡ x.out k
  pub to : (k : ℕ) → k < n → queue_at w (at (k + 2) 1) ≡ x.to k
  pub back : (k : ℕ) → k < n → queue_at w (at 1 (k + 2)) ≡ x.back k
  pub home : (k : ℕ) → k < n → queue_at w (at 0 (k + 2)) ≡ x.home k
  pub loop : queue_at w (at 1 1) ≡ []
  pub between : (j k : ℕ) → queue_at w (at (j + 2) (k + 2)) ≡ []
  pub log : w.log ≡ x.log

module _ {F R : Type 0} where
  -- what a step leaves of a scene whose message is taken away
  abbrev pub switch_did : Scene F R → Stepped SwitchState Msg StrongNote → Scene F R
  switch_did x did =
      record x { switch = did.node; up = x.up ++ sent_for 1 did.sends; out = λ k. x.out k ++ sent_for (k + 2) did.sends; log = x.log ++ did.notes }

  abbrev pub controller_did : Scene F R → Stepped ControllerState Msg StrongNote → Scene F R
  controller_did x did =
      record x { controller = did.node; down = x.down ++ sent_for 0 did.sends; to = λ k. x.to k ++ sent_for (k + 2) did.sends; log = x.log ++ did.notes }

  abbrev pub member_did : Scene F R → ℕ → Stepped (InstanceState F R) Msg Note → Scene F R
  member_did x j did = record x {
    member = put x.member j did.node;
    back = λ k. x.back k ++ (if k == j then sent_for 1 did.sends else []);
    home = λ k. x.home k ++ (if k == j then sent_for 0 did.sends else []);
    log = x.log ++ map Inner did.notes;
  }

-- which message may be taken: its link, and what stands behind it
pub data Goes {F R : Type 0} (n : ℕ) (x : Scene F R) : Type 0 where
  From_input : (m : Msg) (rest : List Msg) → x.input ≡ m ∷ rest → takes_in x.switch m ≡ true → Goes n x
  From_down : (m : Msg) (rest : List Msg) → x.down ≡ m ∷ rest → Goes n x
  From_home : (j : ℕ) (m : Msg) (rest : List Msg) → j < n → x.home j ≡ m ∷ rest → Goes n x
  From_up : (m : Msg) (rest : List Msg) → x.up ≡ m ∷ rest → Goes n x
  From_back : (j : ℕ) (m : Msg) (rest : List Msg) → j < n → x.back j ≡ m ∷ rest → Goes n x
  From_out : (j : ℕ) (m : Msg) (rest : List Msg) → j < n → x.out j ≡ m ∷ rest → Goes n x
  From_to : (j : ℕ) (m : Msg) (rest : List Msg) → j < n → x.to j ≡ m ∷ rest → Goes n x

module _ {F R : Type 0} (f : Semantics R) (n : ℕ) where
  -- the scene after it
  abbrev pub next_scene : (x : Scene F R) → Goes n x → Scene F R
  next_scene x (From_input m rest is on) = switch_did (record x { input = rest }) (switch_step x.switch m)
  next_scene x (From_down m rest is) = switch_did (record x { down = rest }) (switch_step x.switch m)
  next_scene x (From_home j m rest j_in is) = switch_did (record x { home = put x.home j rest }) (switch_step x.switch m)
  next_scene x (From_up m rest is) = controller_did (record x { up = rest }) (controller_step x.controller 0 m)
  next_scene x (From_back j m rest j_in is) = controller_did (record x { back = put x.back j rest }) (controller_step x.controller (j + 2) m)
  next_scene x (From_out j m rest j_in is) = member_did (record x { out = put x.out j rest }) j (instance_step f (x.member j) m)
  next_scene x (From_to j m rest j_in is) = member_did (record x { to = put x.to j rest }) j (instance_step f (x.member j) m)

  -- what the step sends beside that: nothing to where no link leads
  abbrev pub Confined : {x : Scene F R} → Goes n x → Type 0
  Confined {x = x} (From_input m rest is on) = Unit {0}
  Confined {x = x} (From_down m rest is) = Unit {0}
  Confined {x = x} (From_home j m rest j_in is) = Unit {0}
  Confined {x = x} (From_up m rest is) = sent_for 1 (controller_step x.controller 0 m).sends ≡ []
  Confined {x = x} (From_back j m rest j_in is) = sent_for 1 (controller_step x.controller (j + 2) m).sends ≡ []
  Confined {x = x} (From_out j m rest j_in is) = (k : ℕ) → sent_for (k + 2) (instance_step f (x.member j) m).sends ≡ []
  Confined {x = x} (From_to j m rest j_in is) = (k : ℕ) → sent_for (k + 2) (instance_step f (x.member j) m).sends ≡ []

-- the message that is taken, what its node sends, and from which node
abbrev pub message_of : {F R : Type 0} (n : ℕ) (x : Scene F R) → Goes n x → Msg
message_of n x (From_input m rest is on) = m
message_of n x (From_down m rest is) = m
message_of n x (From_home j m rest j_in is) = m
message_of n x (From_up m rest is) = m
message_of n x (From_back j m rest j_in is) = m
message_of n x (From_out j m rest j_in is) = m
message_of n x (From_to j m rest j_in is) = m

abbrev pub sends_of : {F R : Type 0} (f : Semantics R) (n : ℕ) (x : Scene F R) → Goes n x → List (ℕ × Msg)
sends_of f n x (From_input m rest is on) = (switch_step x.switch m).sends
sends_of f n x (From_down m rest is) = (switch_step x.switch m).sends
sends_of f n x (From_home j m rest j_in is) = (switch_step x.switch m).sends
sends_of f n x (From_up m rest is) = (controller_step x.controller 0 m).sends
sends_of f n x (From_back j m rest j_in is) = (controller_step x.controller (j + 2) m).sends
sends_of f n x (From_out j m rest j_in is) = (instance_step f (x.member j) m).sends
sends_of f n x (From_to j m rest j_in is) = (instance_step f (x.member j) m).sends

abbrev pub node_of : {F R : Type 0} (n : ℕ) (x : Scene F R) → Goes n x → ℕ
node_of n x (From_input m rest is on) = 0
node_of n x (From_down m rest is) = 0
node_of n x (From_home j m rest j_in is) = 0
node_of n x (From_up m rest is) = 1
node_of n x (From_back j m rest j_in is) = 1
node_of n x (From_out j m rest j_in is) = j + 2
node_of n x (From_to j m rest j_in is) = j + 2
