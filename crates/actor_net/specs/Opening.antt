-- How a world is made and taken apart. This is the project's own.
use Rattle.std.specs.Prelude.{◌*◌, List, [], length, replicate}
use Rattle.actor_net.specs.declared.world.Parts.{Parts}
use Rattle.actor_net.specs.Network.{Network}

-- a world at its start: nothing on a link and nothing noted
abbrev pub opening : {A M N : Type 0} → List A → List M → Network A M N
opening nodes items = record {
  nodes = nodes;
  links = replicate (length nodes * length nodes) [];
  input = items;
  log = [];
}

-- the world of these parts
abbrev pub world_of : {A M N : Type 0} → Parts A M N → Network A M N
world_of parts = record { nodes = parts.nodes; links = parts.links; input = parts.input; log = parts.log }
