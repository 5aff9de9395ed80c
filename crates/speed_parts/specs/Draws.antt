-- The flows that parts are measured with. This is the project's own.
use Rattle.std.specs.Prelude.{ℕ, ◌+◌, ◌/◌, ◌%◌}
use Rattle.flow_filter.specs.declared.flow.Flow.{Flow}
use Rattle.flow_filter.specs.Packet.{tcp}

-- the greatest size of a part
abbrev pub most_size : ℕ
most_size = 16777216

-- the first local address is 10.0.0.0, and there are so many; the first remote one is 192.0.2.0
abbrev pub first_local : ℕ
first_local = 167772160

abbrev pub locals : ℕ
locals = 65536

abbrev pub first_remote : ℕ
first_remote = 3221225984

-- the first local port, and how many there are; the remote port, which is that of HTTPS
abbrev pub first_lport : ℕ
first_lport = 1024

abbrev pub lports : ℕ
lports = 10

abbrev pub https_port : ℕ
https_port = 443

-- from a host of 10.0.0.0/16 to the port of HTTPS of one of the peers from 192.0.2.0 on, by TCP; the local ports come in turn
abbrev pub numbered_flow : ℕ → Flow
numbered_flow n =
    record { local = first_local + n % locals; remote = first_remote + n / locals; lport = first_lport + n % lports; rport = https_port; proto = tcp }
