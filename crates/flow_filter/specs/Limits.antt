-- The least and the most of what a run can have, for the crates that don't use one another. This project's own.
use Rattle.std.specs.Prelude.{ℕ}

-- at most so many packets of a capture that are steered
abbrev pub most_packets : ℕ
most_packets = 1000000

-- at most so many local hosts of a capture that is generated
abbrev pub most_hosts : ℕ
most_hosts = 256

-- at most so many instances of a network
abbrev pub most_instances : ℕ
most_instances = 16

-- at most so many packets under way
abbrev pub most_window : ℕ
most_window = 4096

-- at most so many routes of a script, and so many lines after them
abbrev pub most_lines : ℕ
most_lines = 1000

-- at least so many members of a share
abbrev pub fewest_members : ℕ
fewest_members = 2
