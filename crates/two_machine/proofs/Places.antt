-- The places at which a message can be taken, and what waits there.
use Rattle.std.proofs.Common.{◌≡◌, ℕ, List, [], ◌∷◌, refl}
use Rattle.actor_net.specs.declared.choice.Choice.{Choice}
use Rattle.actor_net.specs.Network.{queue_at}
use Rattle.two_machine.proofs.Tables.{System, Msg, In_packet}
use Rattle.two_machine.proofs.View.{World, net}

pub data Place : Type 0 where
  In : Place
  Cs : Place
  Aw : Place
  Bw : Place
  Sc : Place
  Ac : Place
  Bc : Place
  Sa : Place
  Ca : Place
  Sb : Place
  Cb : Place

abbrev pub choice : Place → Choice
choice In = record { node = 0; port = 0 }
choice Cs = record { node = 0; port = 1 }
choice Aw = record { node = 0; port = 2 }
choice Bw = record { node = 0; port = 3 }
choice Sc = record { node = 1; port = 0 }
choice Ac = record { node = 1; port = 2 }
choice Bc = record { node = 1; port = 3 }
choice Sa = record { node = 2; port = 0 }
choice Ca = record { node = 2; port = 1 }
choice Sb = record { node = 3; port = 0 }
choice Cb = record { node = 3; port = 1 }

-- the packets that a message brings in
abbrev pub comes : {C : Type 0} → Place → Msg C → List ℕ
comes In (In_packet p) = p ∷ []
comes pl m = []

module _ {U T C R O : Type 0} (S : System U T C R O) where
  -- what waits at a place, and the world with other messages there
  abbrev pub waits : Place → World T C O → List (Msg C)
  waits In v = v.input
  waits Cs v = v.cs
  waits Aw v = v.aw
  waits Bw v = v.bw
  waits Sc v = v.sc
  waits Ac v = v.ac
  waits Bc v = v.bc
  waits Sa v = v.sa
  waits Ca v = v.ca
  waits Sb v = v.sb
  waits Cb v = v.cb

  abbrev pub with_waits : Place → List (Msg C) → World T C O → World T C O
  with_waits In l v = record v { input = l }
  with_waits Cs l v = record v { cs = l }
  with_waits Aw l v = record v { aw = l }
  with_waits Bw l v = record v { bw = l }
  with_waits Sc l v = record v { sc = l }
  with_waits Ac l v = record v { ac = l }
  with_waits Bc l v = record v { bc = l }
  with_waits Sa l v = record v { sa = l }
  with_waits Ca l v = record v { ca = l }
  with_waits Sb l v = record v { sb = l }
  with_waits Cb l v = record v { cb = l }

  pub waiting_at : (pl : Place) (v : World T C O) → queue_at (net v) (choice pl) ≡ waits pl v
  waiting_at In v = refl
  waiting_at pl v = refl
